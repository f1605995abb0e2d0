use Rattle.walk_laws.proofs.Alike.{same_value, same_values, same_take, same_holds, same_separate}
use Rattle.walk_laws.proofs.sets_by_members.Goals as goal

pub returns-clause-value : goal.returns-clause-value
returns-clause-value c = same_value

pub returns-clause-values : goal.returns-clause-values
returns-clause-values c = same_values

pub returns-clause-take : goal.returns-clause-take
returns-clause-take c = same_take

pub returns-clause-holds : goal.returns-clause-holds
returns-clause-holds c = same_holds

pub returns-clause-separate : goal.returns-clause-separate
returns-clause-separate c = same_separate
