-- What holds in the loop of the calls around `read_parts`.
use Rattle.std.proofs.Common.{◌≡◌, drop, take, fold, map}
use Rattle.gc0_tree.specs.Views.{conjuncts_view}
use Rattle.c0_meaning.specs.Framing.{parts_unframed}
use Rattle.self_framing.specs.declared.fault.FrameFault.TheVariants as fault
use Rattle.self_framing.specs.FrameFaults.{earlier}
use Rattle.self_framing.specs.Left.{permitted, behind}
use Rattle.self_framing.proofs.reads.+conjuncts.Given as goal

abbrev pub invariant-read_parts-loop-part : goal.invariant-read_parts-loop-part
invariant-read_parts-loop-part l = record {
  at : l.number ≡ l.part-index;
  least : fold earlier l.least (map fault.NotFramed (parts_unframed (behind (permitted l.left) (conjuncts_view (take l.part-index l.parts))) (conjuncts_view (drop l.part-index l.parts)))) ≡ fold earlier l.fn.least (map fault.NotFramed (parts_unframed (permitted l.left) (conjuncts_view l.parts)));
}
