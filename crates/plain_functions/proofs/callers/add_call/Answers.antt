use Rattle.std.proofs.Common.{◌≡◌, ◌<◌, ◌≤◌, ◌∙◌, rules, [], ◌∷◌, ◌++◌, ap, get_or, set, refl, length}
use Rattle.std.proofs.lemmas.List.{get_or_default}
use Rattle.plain_functions.proofs.Lists.{call_added, call_past}
use Rattle.plain_functions.proofs.callers.add_call.Goals as goal

pub returns-in_ok-push : goal.returns-in_ok-push
returns-in_ok-push c =
    let items = c.args.callers.now.items in
    let low : c.args.callee < length items = search rules in
    let here : c.index_mut.result.now ≡ get_or items c.args.callee [] = c.index_mut.ensures.value ∙ get_or_default items c.args.callee c.index_mut.result.now [] low in
    call_added items (set items c.args.callee c.push.new.self) c.args.callee c.args.caller c.push.new.self refl (c.in_ok-push.ensures.ok ∙ ap (λ l. l ++ c.args.caller ∷ []) here) low

pub returns-else-index-len : goal.returns-else-index-len
returns-else-index-len c =
    let past : length c.args.callers.now.items ≤ c.args.callee = search rules in
    call_past c.args.callers.now.items c.args.callee c.args.caller past
