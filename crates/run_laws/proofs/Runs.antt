-- The laws of watched cores and of their code, one after the other.
use Rattle.std.proofs.Common.{◌≡◌, ℕ, List, refl, sym, ap, ◌∙◌, subst}
use Rattle.gc0_base.specs.declared.site.Ending.{Ending}
use Rattle.gc0_base.specs.declared.site.Ending.TheVariants.{Returned}
use Rattle.core_meaning.specs.CoreRuns as core
use Rattle.core_meaning.specs.CoreRuns.{Visit, state_of}
use Rattle.core_meaning.specs.CoreRunning.{run, started, seen}
use Rattle.watched_core.specs.Watching.{Shown, watched}
use Rattle.watched_core.specs.WatchLaws.{ShowsAs, Shows, watch_law}
use Rattle.code_laws.specs.Machine.{End, ended, run_code}
use Rattle.code_laws.specs.Coding.{code}
use Rattle.code_laws.specs.CodeLaws.{end_of, code_law}
use Rattle.assumption_log.specs.AllKept.{all_entries, all_kept_law}
use Rattle.run_laws.specs.RightCode.{EndsLike, right_code_law, kept_code_law}

ends_as : (wrote : List ℕ) (e : Ending) (vs : List Visit) (s : Shown) (end : End) → ShowsAs wrote e vs s → end ≡ end_of s → EndsLike wrote e vs end
ends_as wrote e vs s end shown is = record {
  view = s.view;
  is = is ∙ ap (λ w. record { output = w; result = ended s.ending s.view }) shown.output ∙ ap (λ i. record { output = wrote; result = ended i s.view }) shown.ending;
  viewed = shown.view;
}

ends_like : (o : core.Out ℕ) (s : Shown) (end : End) → Shows o s → end ≡ end_of s → EndsLike (seen o).0 (seen o).1 (state_of o).visits end
ends_like (core.Next x t) s end shown is = ends_as t.output (Returned record { 0 = x }) t.visits s end shown is
ends_like (core.Ends e t) s end shown is = ends_as t.output e t.visits s end shown is

pub right_runs : code_law → watch_law → right_code_law
right_runs coded watch c es p stepped right placement input n words few =
    ends_like (run c n (started c input n)) (watched c p input n) (run_code (code c p) input n) (watch c es p stepped right placement input n words few) (coded c p stepped input n)

pub kept_runs : all_kept_law → right_code_law → kept_code_law
kept_runs kept runs c p stepped placement = runs c (all_entries c) p stepped (kept c stepped) placement
