-- What is written of a function, and what stands beside the code of a program.
use Rattle.std.specs.Prelude.{◌≡◌, ℕ, Bool, List, slice_get}
use Rattle.gc0_tree.specs.Tree.{Function, Program}
use Rattle.core_tree.specs.CoreViews.{code_view}
use Rattle.lowering_laws.specs.Lowering.{Beside, body_code}
use Rattle.lowering_laws.specs.Tables.{decisions_of, placed_of, decisions_in, table_in}
use Rattle.core_expressions.specs.declared.written.Written.{Written}
use Rattle.core_lower.specs.Lowered.{mark_in, counted_paths}

-- the code, the decisions and the sites of a function
pub record IsBody (p : Program) (g : ℕ) (f : Function) (out : Written) : Type 0 where
  pub code : code_view out.code ≡ body_code p g f
  pub decisions : out.decisions ≡ decisions_of p g f
  pub placed : out.placed ≡ placed_of g f

-- what stands beside the code of a program, with the marks of its plain functions
abbrev pub beside_of : Program → List Bool → Beside
beside_of p marks = record { plain = mark_in marks; paths = counted_paths p; decisions = λ g. decisions_in p g (slice_get p.functions g); sites = λ g. table_in p g (slice_get p.functions g) }
