-- What is answered by hand of the proof of `push_or_true`.
use Rattle.std.proofs.Common.{◌≡◌, ◌++◌, sym, ap, ◌∙◌}
use Rattle.std.proofs.lemmas.List.{append-nil}
use Rattle.formula_print.proofs.Something.{at_least_one}
use Rattle.formula_print.proofs.formulas.push_or_true.Goals as goal

pub returns-in-len1-up : goal.returns-in-len1-up
returns-in-len1-up c =
    sym (ap (λ l. c.args.text.now.items ++ l) (at_least_one c.args.conjuncts.now c.in-len1-up.len_at_least) ∙ append-nil c.args.text.now.items)
