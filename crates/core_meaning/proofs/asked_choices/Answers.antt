use Rattle.core_meaning.proofs.Asking.{choices_asked}
use Rattle.core_meaning.proofs.asked_choices.Goals as goal

pub returns : goal.returns
returns c = choices_asked
