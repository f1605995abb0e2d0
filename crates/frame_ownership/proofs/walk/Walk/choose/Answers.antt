use Rattle.std.proofs.Common.{length, take, drop, map, refl, sym, ap, ◌∙◌, arith}
use Rattle.gc0_tree.specs.Views.{expr_view, predicate_view}
use Rattle.owned_heap.specs.Views.{heap_view}
use Rattle.walk_laws.specs.Walks.{branch_of}
use Rattle.frame_ownership.specs.Seen.{numbers, mode_of, mine}
use Rattle.frame_ownership.specs.Frames.{waiting}
use Rattle.frame_ownership.proofs.Stacking.{rises_wait}
use Rattle.frame_ownership.proofs.Stepping.{chosen}
use Rattle.frame_ownership.proofs.walk.Walk.choose.Goals as goal

pub returns-clause-walked : goal.returns-clause-walked
returns-clause-walked c =
    let s = c.args.sight in
    let w = c.args.self.now in
    let f = c.args.rest in
    let words = c.words_in-words.ensures ∙ ap (λ l. drop f.start (take f.end l)) c.as_slice.ensures.value in
    let first = ap (λ ws. branch_of (mode_of s.mode) (heap_view s.heap.now) (mine s.heap.now s.levels.now) (numbers ws) (expr_view c.args.condition.now)) (sym words) ∙ sym c.in_Some-first.ensures in
    rw (c.in_ok-wait_both.ensures.frames, c.in_ok-wait_both.ensures.words, c.in_ok-wait_both.ensures.taken)
    (chosen (map predicate_view c.args.predicates.now) (mode_of s.mode) (heap_view s.heap.now) (mine s.heap.now s.levels.now) c.stack_walks.ensures c.requires.guarded
    w.words.items w.frames.items f (record { parts = c.pick.result; start = f.start; end = f.end }) c.args.place (expr_view c.args.condition.now) c.args.these.now c.args.those.now w.taken
    c.in_Some-first.first first c.pick.ensures refl refl)

pub returns-clause-rises : goal.returns-clause-rises
returns-clause-rises c = λ _.
    let w = c.args.self.now in
    let f = c.args.rest in
    rw (c.in_ok-wait_both.ensures.frames, c.in_ok-wait_both.ensures.words)
    (rises_wait 0 (waiting w.frames.items f) f.end (record { parts = c.pick.result; start = f.start; end = f.end }) (length w.words.items) c.pick.result.now
    (rises_wait 0 w.frames.items f.end f f.end f.parts.now c.requires.rises (omega arith) c.requires.start (omega arith)) (omega arith) c.requires.start c.requires.end)
