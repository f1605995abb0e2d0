use Rattle.std.proofs.Common.{◌≡◌, length, map}
use Rattle.gc0_tree.specs.Views.{predicate_view}
use Rattle.owned_heap.specs.Views.{heap_view}
use Rattle.walk_laws.specs.Walks.{resume, steps_left}
use Rattle.frame_ownership.specs.Seen.{mode_of, mine}
use Rattle.frame_ownership.specs.Frames.{stack_of, Rises}
use Rattle.frame_ownership.proofs.walk.Walk.run.Given as goal

abbrev pub invariant-loop-frame : goal.invariant-loop-frame
invariant-loop-frame l = record {
  rises : Rises 0 l.self.frames.items (length l.self.words.items);
  gives : resume (map predicate_view l.predicates) (mode_of l.sight.mode) (heap_view l.sight.heap.now) (mine l.sight.heap.now l.sight.levels.now) (stack_of l.fn.self.words.items l.fn.self.frames.items) l.fn.self.taken
      ≡ resume (map predicate_view l.predicates) (mode_of l.sight.mode) (heap_view l.sight.heap.now) (mine l.sight.heap.now l.sight.levels.now) (stack_of l.self.words.items l.self.frames.items) l.self.taken;
}

abbrev pub decreases-loop-frame : goal.decreases-loop-frame
decreases-loop-frame l =
    steps_left (map predicate_view l.predicates) (mode_of l.sight.mode) (heap_view l.sight.heap.now) (mine l.sight.heap.now l.sight.levels.now) (stack_of l.self.words.items l.self.frames.items) l.self.taken
