-- What a program keeps that was resolved, framed and guarded, so that its core is stepped.
use Rattle.std.specs.Prelude.{All}
use Rattle.gc0_tree.specs.Tree.{Program}
use Rattle.gc0_tree.specs.Fits.{Fits}
use Rattle.c0_meaning.specs.Framing.{IsFramed, IsGuarded}
use Rattle.lowering_laws.specs.Ends.{AllEnd}
use Rattle.lowering_laws.specs.Kept.{KeepsParams}
use Rattle.lowering_laws.specs.Words.{WordsFit}
use Rattle.lowering_laws.specs.Formulas.{FormulasFit}

pub record IsReady (p : Program) : Type 0 where
  pub fits : Fits p
  -- no path reaches the end of a function with a result
  pub ends : AllEnd p
  pub framed : IsFramed p
  pub guarded : IsGuarded p
  -- no parameter that `ensures` names is assigned
  pub kept : All KeepsParams p.functions
  -- each number of the code is below 2^32, and each operator of `op=` gives an int
  pub words : All WordsFit p.functions
  -- no formula has a call, and each `fold` and `unfold` states one instance
  pub formulas : FormulasFit p
