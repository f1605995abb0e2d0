use Rattle.std.proofs.Common.{◌∙◌, ℕ, sym, ap, Vec}
use Rattle.std.specs.declared.alloc.Global.{Global}
use Rattle.plain_search.proofs.Numbers.{list_at-get_or}
use Rattle.plain_search.proofs.occurrences.Occurrences.of.Goals as goal

pub returns-then-lit : goal.returns-then-lit
returns-then-lit c =
    rw c.if-lit.true
    (c.as_slice.ensures.value ∙ ap (λ (v : Vec ℕ Global). v.items) c.index.ensures ∙ sym (list_at-get_or c.args.self.now.positive.items c.args.lit.variable c.index.result.now c.requires.positive))

pub returns-else-lit : goal.returns-else-lit
returns-else-lit c =
    rw c.if-lit.false
    (c.as_slice-else-lit.ensures.value ∙ ap (λ (v : Vec ℕ Global). v.items) c.index-else-lit.ensures
    ∙ sym (list_at-get_or c.args.self.now.negative.items c.args.lit.variable c.index-else-lit.result.now c.requires.negative))
