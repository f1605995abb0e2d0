use Rattle.std.proofs.Common.{◌∙◌, sym, ap, Vec}
use Rattle.std.specs.declared.alloc.Global.{Global}
use Rattle.search_state.specs.declared.watches.Watcher.{Watcher}
use Rattle.search_state.proofs.Watching.{list_at-get_or, watchers-positive, watchers-negative}
use Rattle.search_state.proofs.watches.Watches.of.Goals as goal

pub returns-then-lit : goal.returns-then-lit
returns-then-lit c =
    c.as_slice.ensures.value ∙ ap (λ (v : Vec Watcher Global). v.items) c.index.ensures
    ∙ sym (list_at-get_or c.args.self.now.positive.items c.args.lit.variable c.index.result.now c.requires.positive)
    ∙ watchers-positive c.args.self.now c.args.lit c.if-lit.true

pub returns-else-lit : goal.returns-else-lit
returns-else-lit c =
    c.as_slice-else-lit.ensures.value ∙ ap (λ (v : Vec Watcher Global). v.items) c.index-else-lit.ensures
    ∙ sym (list_at-get_or c.args.self.now.negative.items c.args.lit.variable c.index-else-lit.result.now c.requires.negative)
    ∙ watchers-negative c.args.self.now c.args.lit c.if-lit.false
