use Rattle.std.proofs.Common.{length}
use Rattle.frame_ownership.proofs.Stacking.{rises_up}
use Rattle.frame_ownership.proofs.walk.Walk.step.Goals as goal

pub returns-in_default-clause-rises : goal.returns-in_default-clause-rises
returns-in_default-clause-rises c = λ _.
    rises_up 0 c.args.self.now.frames.items c.args.frame.end (length c.args.self.now.words.items) c.requires.rises c.requires.end
