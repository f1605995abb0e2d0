use Rattle.std.proofs.Common.{◌≡◌, ◌++◌, ◌≤◌, List, ℕ, take}
use Rattle.sat_text.specs.LogTexts.{log_lines}
use Rattle.sat_top.specs.Told.{IsWritten}
use Rattle.sat_top.proofs.log_file.write_log.Given as goal

abbrev pub invariant-loop-index : goal.invariant-loop-index
invariant-loop-index g l = record {
  written : IsWritten (g.P.Target.file l.fn.proof) (g.P.Target.file l.proof) l.piece.items (log_lines l.first (take l.index l.entries));
  later : g.P.Target.faults l.fn.proof ≤ g.P.Target.faults l.proof;
}
