-- What is answered by hand of the proof of `built_forms`.
use Rattle.built_text.proofs.Told.{built_forms}
use Rattle.built_text.proofs.forms.built_forms.Goals as goal

pub returns : goal.returns
returns c = built_forms c.one_tree.ensures
