use Rattle.owned_heap.proofs.Owning.{members_count}
use Rattle.owned_heap.proofs.members_count_alone.Goals as goal

pub returns : goal.returns
returns c = members_count
