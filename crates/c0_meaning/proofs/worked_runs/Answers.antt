use Rattle.std.proofs.Common.{refl}
use Rattle.std.specs.Fmt.{digits}
use Rattle.c0_meaning.specs.Runs.{chain, give, end, get, change}
use Rattle.c0_meaning.specs.Running.{decide}
use Rattle.c0_meaning.proofs.worked_runs.Goals as goal

pub returns-clause-no_steps : goal.returns-clause-no_steps
unfolding chain give end get change decide digits
returns-clause-no_steps c = refl

pub returns-clause-three_steps : goal.returns-clause-three_steps
unfolding chain give end get change decide digits
returns-clause-three_steps c = refl

pub returns-clause-five_steps : goal.returns-clause-five_steps
unfolding chain give end get change decide digits
returns-clause-five_steps c = refl

pub returns-clause-invariant : goal.returns-clause-invariant
unfolding chain give end get change decide digits
returns-clause-invariant c = refl

pub returns-clause-just_enough_steps : goal.returns-clause-just_enough_steps
unfolding chain give end get change decide digits
returns-clause-just_enough_steps c = refl

pub returns-clause-one_step_less : goal.returns-clause-one_step_less
unfolding chain give end get change decide digits
returns-clause-one_step_less c = refl

pub returns-clause-precondition : goal.returns-clause-precondition
unfolding chain give end get change decide digits
returns-clause-precondition c = refl

pub returns-clause-assertion : goal.returns-clause-assertion
unfolding chain give end get change decide digits
returns-clause-assertion c = refl

pub returns-clause-decided : goal.returns-clause-decided
unfolding chain give end get change decide digits
returns-clause-decided c = refl

pub returns-clause-printed : goal.returns-clause-printed
unfolding chain give end get change decide digits
returns-clause-printed c = refl
