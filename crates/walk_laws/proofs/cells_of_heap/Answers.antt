use Rattle.walk_laws.proofs.AllCells.{all_valued}
use Rattle.walk_laws.proofs.cells_of_heap.Goals as goal

pub returns : goal.returns
returns c = all_valued
