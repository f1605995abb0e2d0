use Rattle.std.proofs.Common.{refl}
use Rattle.std.specs.Fmt.{digits}
use Rattle.c0_meaning.specs.Runs as runs
use Rattle.c0_meaning.specs.Running as running
use Rattle.core_meaning.specs.CoreRuns.{chain, give, end, get, change}
use Rattle.core_meaning.specs.CoreRunning.{mark, decide, access, allocate}
use Rattle.core_meaning.proofs.Stepping.{stepped_counting, stepped_pushing, decided_getting, decided_unfolding, decided_starting, decided_making, decided_choosing, decided_dividing}
use Rattle.core_meaning.proofs.worked_cores.Goals as goal

pub returns-clause-counting_million : goal.returns-clause-counting_million
unfolding chain give end get change decide access allocate mark digits
returns-clause-counting_million c = refl

pub returns-clause-counting_14 : goal.returns-clause-counting_14
unfolding chain give end get change decide access allocate mark digits
returns-clause-counting_14 c = refl

pub returns-clause-counting_13 : goal.returns-clause-counting_13
unfolding chain give end get change decide access allocate mark digits
returns-clause-counting_13 c = refl

pub returns-clause-counting_visits : goal.returns-clause-counting_visits
unfolding chain give end get change decide access allocate mark digits
returns-clause-counting_visits c = refl

pub returns-clause-adding_18 : goal.returns-clause-adding_18
unfolding chain give end get change decide access allocate mark digits
returns-clause-adding_18 c = refl

pub returns-clause-adding_17 : goal.returns-clause-adding_17
unfolding chain give end get change decide access allocate mark digits
returns-clause-adding_17 c = refl

pub returns-clause-touching_stops : goal.returns-clause-touching_stops
unfolding chain give end get change decide access allocate mark digits
returns-clause-touching_stops c = refl

pub returns-clause-writing_prints : goal.returns-clause-writing_prints
unfolding chain give end get change decide access allocate mark digits
returns-clause-writing_prints c = refl

pub returns-clause-following_faults : goal.returns-clause-following_faults
unfolding chain give end get change decide access allocate mark digits
returns-clause-following_faults c = refl

pub returns-clause-getting_returns : goal.returns-clause-getting_returns
unfolding chain give end get change decide access allocate mark digits
returns-clause-getting_returns c = refl

pub returns-clause-getting_visits : goal.returns-clause-getting_visits
unfolding chain give end get change decide access allocate mark digits
returns-clause-getting_visits c = refl

pub returns-clause-pushing_returns : goal.returns-clause-pushing_returns
unfolding chain give end get change decide access allocate mark digits
returns-clause-pushing_returns c = refl

pub returns-clause-pushing_visits : goal.returns-clause-pushing_visits
unfolding chain give end get change decide access allocate mark digits
returns-clause-pushing_visits c = refl

pub returns-clause-unfolding_returns : goal.returns-clause-unfolding_returns
unfolding chain give end get change decide access allocate mark digits
returns-clause-unfolding_returns c = refl

pub returns-clause-unfolding_visits : goal.returns-clause-unfolding_visits
unfolding chain give end get change decide access allocate mark digits
returns-clause-unfolding_visits c = refl

pub returns-clause-starting_visits : goal.returns-clause-starting_visits
unfolding chain give end get change decide access allocate mark digits
returns-clause-starting_visits c = refl

pub returns-clause-making_visits : goal.returns-clause-making_visits
unfolding chain give end get change decide access allocate mark digits
returns-clause-making_visits c = refl

pub returns-clause-making_sites : goal.returns-clause-making_sites
unfolding chain give end get change decide access allocate mark digits
returns-clause-making_sites c = refl

pub returns-clause-counting_stepped : goal.returns-clause-counting_stepped
returns-clause-counting_stepped c = stepped_counting

pub returns-clause-pushing_stepped : goal.returns-clause-pushing_stepped
returns-clause-pushing_stepped c = stepped_pushing

pub returns-clause-choosing_returns : goal.returns-clause-choosing_returns
unfolding chain give end get change decide access allocate mark digits
returns-clause-choosing_returns c = refl

pub returns-clause-choosing_visits : goal.returns-clause-choosing_visits
unfolding chain give end get change decide access allocate mark digits
returns-clause-choosing_visits c = refl

pub returns-clause-dividing_faults : goal.returns-clause-dividing_faults
unfolding chain give end get change decide access allocate mark digits
returns-clause-dividing_faults c = refl

pub returns-clause-reading_faults : goal.returns-clause-reading_faults
unfolding chain give end get change decide access allocate mark digits
returns-clause-reading_faults c = refl

pub returns-clause-reading_returns : goal.returns-clause-reading_returns
unfolding chain give end get change decide access allocate mark digits
returns-clause-reading_returns c = refl

pub returns-clause-getting_decided : goal.returns-clause-getting_decided
returns-clause-getting_decided c = decided_getting

pub returns-clause-unfolding_decided : goal.returns-clause-unfolding_decided
returns-clause-unfolding_decided c = decided_unfolding

pub returns-clause-starting_decided : goal.returns-clause-starting_decided
returns-clause-starting_decided c = decided_starting

pub returns-clause-making_decided : goal.returns-clause-making_decided
returns-clause-making_decided c = decided_making

pub returns-clause-choosing_decided : goal.returns-clause-choosing_decided
returns-clause-choosing_decided c = decided_choosing

pub returns-clause-dividing_decided : goal.returns-clause-dividing_decided
returns-clause-dividing_decided c = decided_dividing

pub returns-clause-counting_agrees : goal.returns-clause-counting_agrees
unfolding chain give end get change decide access allocate mark digits runs.chain runs.give runs.end runs.get runs.change running.decide running.access running.allocate
returns-clause-counting_agrees c = (refl, refl)

pub returns-clause-halving_agrees : goal.returns-clause-halving_agrees
unfolding chain give end get change decide access allocate mark digits runs.chain runs.give runs.end runs.get runs.change running.decide running.access running.allocate
returns-clause-halving_agrees c = (refl, refl)
