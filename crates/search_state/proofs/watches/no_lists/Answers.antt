use Rattle.std.proofs.Common.{◌≡◌, ◌∷◌, [], List, length, arith, ap, sym, subst, Vec}
use Rattle.std.specs.declared.alloc.Global.{Global}
use Rattle.std.proofs.lemmas.List.{length-append}
use Rattle.search_state.specs.declared.watches.Watcher.{Watcher}
use Rattle.search_state.specs.Watches.{list_at}
use Rattle.search_state.proofs.Watching.{list_at-push}
use Rattle.search_state.proofs.watches.no_lists.Goals as goal

pub loop-made-preserved : goal.loop-made-preserved
loop-made-preserved c =
    let before = c.loop-made.invariant in
    let is = c.in_ok-push.ensures.items in
    let v = c.new.result in
    record {
      len = omega (arith, ap length is, length-append c.loop-made.lists.items (v ∷ []), before.len);
      none = λ place. subst (λ (l : List (Vec Watcher Global)). list_at l place ≡ []) (sym is) (list_at-push c.loop-made.lists.items v c.new.ensures.items before.none place);
    }
