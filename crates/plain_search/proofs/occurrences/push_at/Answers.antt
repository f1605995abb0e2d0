use Rattle.plain_search.proofs.Numbers.{AddsAt-push}
use Rattle.plain_search.proofs.occurrences.push_at.Goals as goal

pub returns-clause-adds : goal.returns-clause-adds
returns-clause-adds c =
    AddsAt-push c.args.lists.now.items c.args.place c.args.number c.index_mut.result.now c.push.new.self c.requires c.index_mut.ensures.value c.in_ok-push.ensures.items
