-- Marks of the plain functions of a program, by number.
use Rattle.std.specs.Prelude.{◌≡◌, ◌↔◌, ℕ, Bool, IsTrue, List, length, Some, slice_get}
use Rattle.gc0_tree.specs.Tree.{Program}
use Rattle.c0_meaning.specs.Precision.{IsPlain}

-- one for each function, and right
pub record AreMarks (p : Program) (marks : List Bool) : Type 0 where
  pub count : length marks ≡ length p.functions
  pub right : (g : ℕ) (mark : Bool) → slice_get marks g ≡ Some mark → IsTrue mark ↔ IsPlain p g
