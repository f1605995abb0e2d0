use Rattle.owned_heap.proofs.Ranges.{made_is}
use Rattle.owned_heap.proofs.adopts_what_was_made.Goals as goal

pub returns : goal.returns
returns c = made_is
