use Rattle.std.proofs.Common.{refl}
use Rattle.std.specs.Fmt.{digits}
use Rattle.c0_meaning.specs.Runs as source
use Rattle.c0_meaning.specs.Running as running
use Rattle.core_meaning.specs.CoreRuns.{chain, give, end, get, change}
use Rattle.core_meaning.specs.CoreRunning.{mark, decide, access, allocate}
use Rattle.lowering_laws.proofs.worked_lowerings.Goals as goal

pub returns-clause-counting_million : goal.returns-clause-counting_million
unfolding chain give end get change decide access allocate mark digits
returns-clause-counting_million c = refl

pub returns-clause-counting_14 : goal.returns-clause-counting_14
unfolding chain give end get change decide access allocate mark digits
returns-clause-counting_14 c = refl

pub returns-clause-counting_13 : goal.returns-clause-counting_13
unfolding chain give end get change decide access allocate mark digits
returns-clause-counting_13 c = refl

pub returns-clause-halving_stops : goal.returns-clause-halving_stops
unfolding chain give end get change decide access allocate mark digits
returns-clause-halving_stops c = refl

pub returns-clause-halving_sites : goal.returns-clause-halving_sites
unfolding chain give end get change decide access mark source.chain source.give source.end source.get source.change running.decide
returns-clause-halving_sites c = refl

pub returns-clause-choosing_returns : goal.returns-clause-choosing_returns
unfolding chain give end get change decide access allocate mark digits
returns-clause-choosing_returns c = refl

pub returns-clause-choosing_numbers : goal.returns-clause-choosing_numbers
returns-clause-choosing_numbers c = refl

pub returns-clause-choosing_main_numbers : goal.returns-clause-choosing_main_numbers
returns-clause-choosing_main_numbers c = refl

pub returns-clause-choosing_origins : goal.returns-clause-choosing_origins
returns-clause-choosing_origins c = (refl, refl)

pub returns-clause-choosing_row : goal.returns-clause-choosing_row
returns-clause-choosing_row c = refl
