-- The code of a core with the checks of any right record shows what the core means.
use Rattle.std.specs.Prelude.{◌≡◌, ℕ, ◌<◌, ◌^◌, List, Option}
use Rattle.gc0_base.specs.declared.site.Ending.{Ending}
use Rattle.core_tree.specs.CoreTree.{Core}
use Rattle.core_meaning.specs.CoreRuns.{Visit}
use Rattle.core_meaning.specs.CoreRunning.{core_meaning, visits}
use Rattle.core_meaning.specs.Stepped.{IsStepped}
use Rattle.core_checks.specs.Entries.{Entry, IsRight, AreWords}
use Rattle.core_checks.specs.Placements.{Placement, IsPlacement}
use Rattle.watched_core.specs.WatchRuns.{View}
use Rattle.watched_core.specs.WatchLaws.{IsViewed}
use Rattle.code_laws.specs.Machine.{End, ended, run_code}
use Rattle.code_laws.specs.Coding.{code}
use Rattle.assumption_log.specs.AllKept.{all_entries}

-- A run of the machine wrote the bytes and ended so; where it stopped, it has the view of the last visit.
pub record EndsLike (wrote : List ℕ) (e : Ending) (vs : List Visit) (end : End) : Type 0 where
  pub view : Option View
  pub is : end ≡ record { output = wrote; result = ended e view }
  pub viewed : IsViewed e vs view

-- the run of the code is that of the core, for every input and number of steps
abbrev pub RunsLike : Core → Placement → Type 0
RunsLike c p = (input : List ℕ) (n : ℕ) → AreWords input → n < 2 ^ 32 → EndsLike (core_meaning c input n).0 (core_meaning c input n).1 (visits c input n) (run_code (code c p) input n)

-- The code with the placement of any right record of a stepped core: the machine is never stuck, and no run goes past what is
-- false there.
abbrev pub right_code_law : Type 0
right_code_law = (c : Core) (es : List Entry) (p : Placement) → IsStepped c → IsRight c es → IsPlacement c es p → RunsLike c p

-- the same of the record that keeps everything
abbrev pub kept_code_law : Type 0
kept_code_law = (c : Core) (p : Placement) → IsStepped c → IsPlacement c (all_entries c) p → RunsLike c p
