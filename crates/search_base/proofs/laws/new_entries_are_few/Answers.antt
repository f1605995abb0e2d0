use Rattle.search_base.proofs.Counting.{new_entries_few}
use Rattle.search_base.proofs.laws.new_entries_are_few.Goals as goal

pub returns : goal.returns
returns c = new_entries_few
