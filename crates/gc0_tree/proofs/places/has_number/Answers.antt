use Rattle.gc0_tree.proofs.Upward.{behind_enough, behind_more}
use Rattle.gc0_tree.proofs.places.has_number.Goals as goal

pub returns-then-count_below-ordinal : goal.returns-then-count_below-ordinal
returns-then-count_below-ordinal c = behind_enough c.args.sorted.now c.args.place c.args.ordinal c.key_of-key.result c.count_below.result c.count_below-then-count_below-ordinal.result c.key_of-key.ensures.is c.count_below.ensures c.count_below-then-count_below-ordinal.ensures c.if-count_below-ordinal.true

pub returns-else-count_below-ordinal : goal.returns-else-count_below-ordinal
returns-else-count_below-ordinal c = behind_more c.args.sorted.now c.args.place c.args.ordinal c.key_of-key.result c.count_below.result c.key_of-key.ensures.is c.count_below.ensures c.if-count_below-ordinal.false
