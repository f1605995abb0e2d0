use Rattle.std.proofs.Common.{◌-◌, ◌≤◌}
use Rattle.std.specs.Prelude.{IsTrue}
use Rattle.gc0_tree.specs.Views.{program_view}
use Rattle.c0_meaning.specs.Marking.{has, Queued}
use Rattle.c0_meaning.proofs.Worklist.{Sound, Done}
use Rattle.c0_meaning.proofs.plain.is_plain.Given as goal

abbrev pub invariant-loop-next : goal.invariant-loop-next
invariant-loop-next l = record {
  queued : Queued l.reached;
  room : l.reached.count ≤ 512;
  within : l.next ≤ l.reached.count;
  asked : IsTrue (has l.reached l.function);
  sound : Sound (program_view l.program) l.function l.reached;
  done : Done (program_view l.program) l.reached l.next;
}

abbrev pub decreases-loop-next : goal.decreases-loop-next
decreases-loop-next l = 512 - l.next
