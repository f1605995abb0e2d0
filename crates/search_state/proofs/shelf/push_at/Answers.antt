use Rattle.search_state.proofs.Shelving.{IsPutAt-push}
use Rattle.search_state.proofs.shelf.push_at.Goals as goal

pub returns : goal.returns
returns c =
    IsPutAt-push c.args.lists.now.items c.args.place c.index_mut.result.now c.push.new.self c.args.card c.requires c.index_mut.ensures.value c.in_ok-push.ensures.items
