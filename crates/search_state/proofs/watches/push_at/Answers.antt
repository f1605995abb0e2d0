use Rattle.std.proofs.Common.{◌∙◌, ◌∷◌, ◌++◌, [], List, sym, ap, Vec}
use Rattle.std.specs.declared.alloc.Global.{Global}
use Rattle.search_state.specs.declared.watches.Watcher.{Watcher}
use Rattle.search_state.specs.Watches.{list_at}
use Rattle.search_state.proofs.Watching.{list_at-get_or, IsWrittenAt-set}
use Rattle.search_state.proofs.watches.push_at.Goals as goal

pub returns : goal.returns
returns c =
    let lists = c.args.lists.now.items in
    let place = c.args.place in
    let old = c.index_mut.result.now in
    let was = ap (λ (v : Vec Watcher Global). v.items) c.index_mut.ensures.value ∙ sym (list_at-get_or lists place old c.requires) in
    IsWrittenAt-set lists place c.push.new.self (list_at lists place ++ c.args.watcher ∷ []) c.requires
    (c.in_ok-push.ensures.items ∙ ap (λ (l : List Watcher). l ++ c.args.watcher ∷ []) was)
