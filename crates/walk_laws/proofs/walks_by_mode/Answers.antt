use Rattle.walk_laws.proofs.Same.{strictly, separate}
use Rattle.walk_laws.proofs.walks_by_mode.Goals as goal

pub returns-clause-strict : goal.returns-clause-strict
returns-clause-strict c = strictly

pub returns-clause-loose : goal.returns-clause-loose
returns-clause-loose c = separate
