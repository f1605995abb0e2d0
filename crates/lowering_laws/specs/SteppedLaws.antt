-- The core of a program is stepped.
use Rattle.std.specs.Prelude.{◌≡◌, ◌↔◌, ℕ, ◌<◌, ◌^◌, Bool, IsTrue, length, All, Some, slice_get}
use Rattle.gc0_tree.specs.Tree.{Function, Program}
use Rattle.gc0_tree.specs.Fits.{Fits}
use Rattle.c0_meaning.specs.Framing.{IsFramed, IsGuarded}
use Rattle.c0_meaning.specs.Precision.{IsPlain}
use Rattle.core_meaning.specs.Stepped.{IsStepped}
use Rattle.lowering_laws.specs.Ends.{AllEnd}
use Rattle.lowering_laws.specs.Tables.{core_of}
use Rattle.lowering_laws.specs.Kept.{KeepsParams}
use Rattle.lowering_laws.specs.Words.{WordsFit}
use Rattle.lowering_laws.specs.Apart.{is_apart}
use Rattle.lowering_laws.specs.Formulas.{FormulasFit}

-- What a program keeps that was resolved, framed and guarded.
pub record CanBeLowered (p : Program) : Type 0 where
  pub fits : Fits p
  -- no path reaches the end of a function with a result
  pub ends : AllEnd p
  pub framed : IsFramed p
  pub guarded : IsGuarded p
  -- no parameter that `ensures` names is assigned
  pub kept : All KeepsParams p.functions
  -- each number of the code is below 2^32, and each operator of `op=` gives an int
  pub words : All WordsFit p.functions
  -- no formula has a call, and each `fold` and `unfold` states one instance
  pub formulas : FormulasFit p
  -- no two tokens of one kind stand at one place
  pub apart : (g : ℕ) (f : Function) → slice_get p.functions g ≡ Some f → IsTrue (is_apart g f)

abbrev pub stepped_law : Type 0
stepped_law =
    (p : Program) → CanBeLowered p →
    -- the marks of plain functions are right
    (plain : ℕ → Bool) → ((g : ℕ) → g < length p.functions → IsTrue (plain g) ↔ IsPlain p g) →
    (paths : ℕ → ℕ) →
    -- each decision has a number
    All (λ f. length f.decisions < 2 ^ 32) (core_of plain paths p).functions →
    IsStepped (core_of plain paths p)
