use Rattle.precision_order.proofs.Order.{precision_order}
use Rattle.precision_order.proofs.precision_is_an_order.Goals as goal

pub returns : goal.returns
returns c = precision_order
