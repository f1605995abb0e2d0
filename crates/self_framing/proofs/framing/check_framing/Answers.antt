-- What is answered by hand of the proof of `check_framing`.
use Rattle.std.proofs.Common.{◌≡◌, None, arith}
use Rattle.std.proofs.lemmas.Grind.{common_steps}
use Rattle.gc0_tree.specs.Views.{program_view}
use Rattle.self_framing.specs.FrameFaults.{frame_faults, first_fault}
use Rattle.self_framing.specs.Least.{least_both}
use Rattle.self_framing.proofs.NoFault.{none_at_all}
use Rattle.self_framing.proofs.framing.check_framing.Goals as goal

pub returns-in-None-clause-kept : goal.returns-in-None-clause-kept
returns-in-None-clause-kept c =
    let none : first_fault (frame_faults (program_view c.args.program.now)) ≡ None = grind (arith, common_steps, least_both) in
    none_at_all (frame_faults (program_view c.args.program.now)) none
