use Rattle.std.proofs.Common.{◌≡◌, [], ◌∙◌, sym, true}
use Rattle.gc0_tree.specs.Views.{program_view}
use Rattle.c0_meaning.specs.Framing.{program_unframed, program_unguarded}
use Rattle.self_framing.specs.FrameFaults.{frame_faults}
use Rattle.self_framing.specs.declared.fault.FrameFault.TheVariants as fault
use Rattle.ownership_tests.proofs.Guards.{kept, no_second}
use Rattle.ownership_tests.proofs.footprints.guarded.Goals as goal

pub returns : goal.returns
returns c h =
    let p = program_view c.args.program.now in
    no_second fault.NotFramed fault.Unguarded (program_unframed p) (program_unguarded p) (kept c.check_framing.result (frame_faults p ≡ []) (sym c.is_ok.ensures.value ∙ h) c.check_framing.ensures.kept)
