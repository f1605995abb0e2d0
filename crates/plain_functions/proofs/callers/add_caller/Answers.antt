use Rattle.std.proofs.Common.{◌∙◌, ◌&&◌, ◌||◌, eqb, [], get_or, arith}
use Rattle.plain_functions.specs.Callers.{among}
use Rattle.plain_functions.proofs.Lists.{adds_more}
use Rattle.plain_functions.proofs.callers.add_caller.Goals as goal

pub loop-callee-preserved : goal.loop-callee-preserved
loop-callee-preserved c =
    let before = c.loop-callee.invariant in
    let one = c.in_ok-add_call.ensures in
    record {
      count = one.count ∙ before.count;
      right = λ g f low. adds_more g c.loop-callee.callee-index c.args.callees.now (among f (get_or c.loop-callee.callers.items g [])) (among f (get_or c.add_call.new.callers.items g [])) (eqb c.args.caller f)
          (among f (get_or c.args.callers.now.items g []) || (eqb c.args.caller f && among g c.args.callees.now)) (omega arith) (one.right g f (omega (arith, low, before.count))) (before.right g f low);
    }
