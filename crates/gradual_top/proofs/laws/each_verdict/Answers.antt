-- Each text has a verdict: the laws of the crates below, put together.
use Rattle.gradual_top.proofs.Each.{each_verdict}
use Rattle.gradual_top.proofs.laws.each_verdict.Goals as goal

pub returns : goal.returns
returns c = each_verdict (record { texts = c.each_text.ensures; exact = c.run_is_exact.ensures; small = c.each_tokens.ensures; ends = c.cut_ends_last.ensures })
