use Rattle.std.proofs.Common.{false, ap, ◌∙◌}
use Rattle.std.specs.Option.{unwrap_or}
use Rattle.std.proofs.lemmas.Option.{unwrap_or-slice_get}
use Rattle.plain_functions.proofs.marks.Marks.lacks_mark.Goals as goal

pub returns-in-None : goal.returns-in-None
returns-in-None c = ap (λ o. unwrap_or o false) c.in-None.ensures.value ∙ unwrap_or-slice_get c.args.self.now.plain c.args.function false
