use Rattle.std.proofs.lemmas.Result.{on_ok_weaker}
use Rattle.plain_functions.proofs.Among.{among_then}
use Rattle.plain_functions.proofs.callees.add.Goals as goal

pub returns : goal.returns
returns c = on_ok_weaker c.push.result (λ e g. among_then g c.args.function c.args.callees.now c.push.new.self e) c.push.ensures.ok
