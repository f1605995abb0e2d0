use Rattle.std.proofs.Common.{[], ◌++◌, ap, sym, ◌∙◌}
use Rattle.std.proofs.lemmas.List.{drop_all}
use Rattle.sat_text.specs.Values.{filled, value_words}
use Rattle.sat_text.proofs.values.Lines.put_all.Goals as goal

pub returns : goal.returns
returns c =
    let l = c.loop-index in
    let none = drop_all l.index c.args.values.now c.loop-index-test.false in
    record { text = c.in_ok-push.ensures.items ∙ c.in_ok-put-2.ensures.text [] ∙ ap (λ vs. l.self.text.items ++ filled l.self.column (value_words l.index vs)) (sym none) ∙ l.invariant.text }
