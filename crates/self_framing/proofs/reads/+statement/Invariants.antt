-- What holds in the loop of the calls around `read_stmt`.
use Rattle.std.proofs.Common.{◌≡◌, drop, fold, map}
use Rattle.gc0_tree.specs.Views.{stmts_view}
use Rattle.c0_meaning.specs.Framing.{stmts_unframed}
use Rattle.self_framing.specs.declared.fault.FrameFault.TheVariants as fault
use Rattle.self_framing.specs.FrameFaults.{earlier}
use Rattle.self_framing.proofs.reads.+statement.Given as goal

abbrev pub invariant-read_stmts-loop-s : goal.invariant-read_stmts-loop-s
invariant-read_stmts-loop-s l = fold earlier l.least (map fault.NotFramed (stmts_unframed (stmts_view (drop l.s-index l.ss)))) ≡ fold earlier l.fn.least (map fault.NotFramed (stmts_unframed (stmts_view l.ss)))
