-- What statements use, form by form.
use Rattle.std.proofs.Common.{◌≡◌, sym, subst}
use Rattle.gc0_base.specs.declared.place.Place.{Place}
use Rattle.gc0_tree.specs.Tree.{Tree, Formula, Stmt, if_at, for_at, Stmts, Program}
use Rattle.gc0_tree.specs.Fits.{Room}
use Rattle.lowering_laws.specs.Counts.{fresh, counted}
use Rattle.lowering_laws.specs.Statements.{larger, stmt_uses, stmts_use}
use Rattle.temp_counts.specs.declared.tally.Tally.{Tally}
use Rattle.temp_counts.specs.Counting.{Using}
use Rattle.temp_counts.proofs.Steps.{both_use}

abbrev pub UsedIn : Program → Room → (t u : Tally) → Stmt → Type 0
UsedIn p r t u s = Using t u (stmt_uses p r s)

abbrev pub AllUsedIn : Program → Room → (t u : Tally) → Stmts → Type 0
AllUsedIn p r t u ss = Using t u (stmts_use p r ss)

-- a test that is counted from nothing
abbrev pub Tested : Program → Room → (t u : Tally) → Tree → Type 0
Tested p r t u e = Using t u (counted p r (fresh 0) e).used

module _ (p : Program) (r : Room) (t u v : Tally) (s : Stmt) where
  pub if_used : (w : Tally) (at : Place) (e : Tree) (a : Stmt) (b : Stmts)
      → s ≡ if_at at e a b → Tested p r t u e → UsedIn p r u v a → AllUsedIn p r v w b → UsedIn p r t w s
  if_used w at e a b view first second third =
      subst (UsedIn p r t w) (sym view)
      (both_use t u w (counted p r (fresh 0) e).used (larger (stmt_uses p r a) (stmts_use p r b)) first (both_use u v w (stmt_uses p r a) (stmts_use p r b) second third))

  pub for_used : (w x : Tally) (at : Place) (a : Stmts) (e : Tree) (b : Stmts) (inv : Formula) (d : Stmt)
      → s ≡ for_at at a e b inv d → AllUsedIn p r t u a → Tested p r u v e → UsedIn p r v w d → AllUsedIn p r w x b → UsedIn p r t x s
  for_used w x at a e b inv d view first second third fourth =
      subst (UsedIn p r t x) (sym view)
      (both_use t u x (stmts_use p r a) (larger (counted p r (fresh 0) e).used (larger (stmt_uses p r d) (stmts_use p r b))) first
      (both_use u v x (counted p r (fresh 0) e).used (larger (stmt_uses p r d) (stmts_use p r b)) second
      (both_use v w x (stmt_uses p r d) (stmts_use p r b) third fourth)))
