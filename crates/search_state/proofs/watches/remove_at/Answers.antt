use Rattle.std.proofs.Common.{◌≡◌, ◌∙◌, List, length, arith, sym, ap, Vec}
use Rattle.std.specs.declared.alloc.Global.{Global}
use Rattle.std.specs.List.{swap_remove}
use Rattle.search_state.specs.declared.watches.Watcher.{Watcher}
use Rattle.search_state.specs.Watches.{list_at}
use Rattle.search_state.proofs.Watching.{list_at-get_or, IsWrittenAt-set}
use Rattle.search_state.proofs.watches.remove_at.Goals as goal

pub swap_remove-watcher-requires : goal.swap_remove-watcher-requires
swap_remove-watcher-requires c =
    let lists = c.args.lists.now.items in
    let list = c.args.list in
    let old = c.index_mut.result.now in
    let was : old.items ≡ list_at lists list = ap (λ (v : Vec Watcher Global). v.items) c.index_mut.ensures.value ∙ sym (list_at-get_or lists list old c.requires.list) in
    omega (arith, ap (λ (l : List Watcher). length l) was, c.requires.within, old.ok.0)

pub returns : goal.returns
returns c =
    let lists = c.args.lists.now.items in
    let list = c.args.list in
    let old = c.index_mut.result.now in
    let last = c.swap_remove-watcher.result in
    let was : old.items ≡ list_at lists list = ap (λ (v : Vec Watcher Global). v.items) c.index_mut.ensures.value ∙ sym (list_at-get_or lists list old c.requires.list) in (
      last,
      IsWrittenAt-set lists list c.swap_remove-watcher.new.self (swap_remove (list_at lists list) c.args.place last) c.requires.list
          (c.swap_remove-watcher.ensures.items ∙ ap (λ (l : List Watcher). swap_remove l c.args.place last) was),
    )
