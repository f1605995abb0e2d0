use Rattle.std.proofs.Common.{◌≡◌, ◌∙◌, List, Some, length, set, get_or, arith, sym, ap, Vec}
use Rattle.std.specs.declared.alloc.Global.{Global}
use Rattle.std.specs.Vec.{with_item}
use Rattle.std.proofs.lemmas.Option.{slice_get-get_or}
use Rattle.search_state.specs.declared.watches.Watcher.{Watcher}
use Rattle.search_state.specs.Watches.{list_at}
use Rattle.search_state.proofs.Watching.{list_at-get_or, IsWrittenAt-set}
use Rattle.search_state.proofs.watches.block_at.Goals as goal

pub index_mut-requires-2 : goal.index_mut-requires-2
index_mut-requires-2 c =
    let lists = c.args.lists.now.items in
    let list = c.args.list in
    let old = c.index_mut.result.now in
    let was : old.items ≡ list_at lists list = ap (λ (v : Vec Watcher Global). v.items) c.index_mut.ensures.value ∙ sym (list_at-get_or lists list old c.requires.list) in
    omega (arith, ap (λ (l : List Watcher). length l) was, c.requires.within, old.ok.0)

pub returns : goal.returns
returns c =
    let lists = c.args.lists.now.items in
    let list = c.args.list in
    let old = c.index_mut.result.now in
    let place = c.args.place in
    let watcher = c.index_mut-2.result.now in
    let was : old.items ≡ list_at lists list = ap (λ (v : Vec Watcher Global). v.items) c.index_mut.ensures.value ∙ sym (list_at-get_or lists list old c.requires.list) in
    let is : get_or (list_at lists list) place watcher ≡ watcher = ap (λ (l : List Watcher). get_or l place watcher) (sym was) ∙ sym c.index_mut-2.ensures.value in
    let now : Watcher = record { index = watcher.index; blocker = c.args.blocker } in (
      watcher,
      slice_get-get_or (list_at lists list) place watcher c.requires.within ∙ ap (λ (w : Watcher). Some w) is,
      IsWrittenAt-set lists list (with_item old place now) (set (list_at lists list) place now) c.requires.list (ap (λ (l : List Watcher). set l place now) was),
    )
