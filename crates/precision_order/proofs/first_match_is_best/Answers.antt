use Rattle.precision_order.proofs.Order.{first_best}
use Rattle.precision_order.proofs.first_match_is_best.Goals as goal

pub returns : goal.returns
returns c = first_best
