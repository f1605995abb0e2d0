-- One more line is behind.
use Rattle.gradual_top.proofs.Counting.{next_line}
use Rattle.gradual_top.proofs.word.behind_lines.Goals as goal

pub loop-ended-preserved : goal.loop-ended-preserved
loop-ended-preserved c = next_line c.args.line c.loop-ended.ended c.loop-ended.rest.now c.behind_line-rest.result.now c.args.text.now c.loop-ended-test.true c.behind_line-rest.ensures c.loop-ended.invariant
