-- What puts a value into a target.
use Rattle.std.specs.Prelude.{Option}
use Rattle.gc0_base.specs.declared.place.Place.{Place}
use Rattle.gc0_tree.specs.declared.ExprOp.{ExprOp}
use Rattle.gc0_tree.specs.Tree.{Tree, Stmt, assign_at, write_at, plain_at}
use Rattle.gc0_tree.specs.Views.{expr_view}
use Rattle.c0_numbers.specs.declared.targets.Target.{Target}
use Rattle.c0_numbers.specs.declared.targets.Target.TheVariants.{Local, Field, Other}

abbrev pub put_at : Target → Option ExprOp → (op_at : Place) → Tree → Stmt
put_at (Local first i) o q y = assign_at first i o q y
put_at (Field first arrow base k f) o q y = write_at first (expr_view base) k f arrow o q y
put_at (Other first) o q y = plain_at first y
