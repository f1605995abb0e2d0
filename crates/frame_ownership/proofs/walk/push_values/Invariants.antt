use Rattle.std.proofs.Common.{◌≡◌, ◌≤◌, length, take, drop}
use Rattle.gc0_tree.specs.Views.{exprs_view}
use Rattle.c0_meaning.specs.Holds.{values_in}
use Rattle.owned_heap.specs.Views.{heap_view}
use Rattle.frame_ownership.specs.Seen.{numbers, seen}
use Rattle.frame_ownership.specs.Frames.{with_front}
use Rattle.frame_ownership.proofs.walk.push_values.Given as goal

abbrev pub invariant-loop-expr : goal.invariant-loop-expr
invariant-loop-expr l = record {
  start : l.start ≤ l.end;
  long : l.end ≤ length l.words.items;
  kept : take l.end l.words.items ≡ take l.end l.fn.words.items;
  so_far : values_in (heap_view l.sight.heap.now) (seen l.sight.mode l.sight.heap.now l.sight.levels.now) (numbers (drop l.start (take l.end l.fn.words.items))) (exprs_view l.fn.exprs)
      ≡ with_front (numbers (drop l.end l.words.items)) (values_in (heap_view l.sight.heap.now) (seen l.sight.mode l.sight.heap.now l.sight.levels.now) (numbers (drop l.start (take l.end l.fn.words.items))) (exprs_view (drop l.expr-index l.exprs)));
}
