use Rattle.std.proofs.Common.{false, refl}
use Rattle.search_state.specs.Growing.{WatchesMore-none}
use Rattle.search_state.proofs.watches.Watches.skip.Goals as goal

pub returns : goal.returns
returns c = WatchesMore-none c.args.self.now c.push.new.self c.args.index (record { first = c.args.lit; second = c.args.lit; aside = false }) refl c.in_ok-push.ensures.items
