use Rattle.std.proofs.lemmas.Bool.{false≢true}
use Rattle.precision_order.proofs.Lengths.{as_many}
use Rattle.precision_order.proofs.same.+same.Goals as goal

pub same_exprs-returns-then-a-b : goal.same_exprs-returns-then-a-b
same_exprs-returns-then-a-b t c = (λ e. absurd (false≢true e), λ h. absurd (c.if-a-b.true (as_many c.args.a.now c.args.b.now h)))
