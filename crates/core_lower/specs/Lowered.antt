-- What the lowering of a program answers.
use Rattle.std.specs.Prelude.{◌≡◌, ℕ, ◌+◌, Bool, false, List, min, Option, Some, None, slice_get}
use Rattle.gc0_base.specs.declared.limits.TheConstants.Limits as limits
use Rattle.gc0_tree.specs.Tree.{Program}
use Rattle.core_tree.specs.CoreTree.{Core}
use Rattle.plain_functions.specs.Marks.{AreMarks}
use Rattle.self_framing.specs.Paths.{paths_of}
use Rattle.lowering_laws.specs.Tables.{core_of}

abbrev pub or_false : Option Bool → Bool
or_false None = false
or_false (Some mark) = mark

-- the mark of a function, by its number
abbrev pub mark_in : List Bool → ℕ → Bool
mark_in marks g = or_false (slice_get marks g)

-- how many paths a function has, up to one more than the limit
abbrev pub counted_paths : Program → ℕ → ℕ
counted_paths p g = min (paths_of p (slice_get p.functions g)) (limits.PATHS + 1)

-- the core of a program, with the marks of its plain functions and the counts of its paths
pub record IsLowered (p : Program) (c : Core) : Type 0 where
  pub marks : List Bool
  pub are_marks : AreMarks p marks
  pub core : c ≡ core_of (mark_in marks) (counted_paths p) p
