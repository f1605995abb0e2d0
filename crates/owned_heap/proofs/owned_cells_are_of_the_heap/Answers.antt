use Rattle.owned_heap.proofs.Owning.{owned_in_heap}
use Rattle.owned_heap.proofs.owned_cells_are_of_the_heap.Goals as goal

pub returns : goal.returns
returns c = owned_in_heap
