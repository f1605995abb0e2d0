use Rattle.std.proofs.Common.{length, take, drop, map, sym, ap, ◌∙◌, arith}
use Rattle.gc0_tree.specs.Views.{expr_view, predicate_view}
use Rattle.owned_heap.specs.Views.{heap_view}
use Rattle.walk_laws.specs.Walks.{is_met}
use Rattle.frame_ownership.specs.Seen.{numbers, mode_of, mine}
use Rattle.frame_ownership.proofs.Stacking.{rises_wait}
use Rattle.frame_ownership.proofs.Stepping.{test_passes}
use Rattle.frame_ownership.proofs.walk.Walk.test.Goals as goal

pub returns-clause-walked : goal.returns-clause-walked
returns-clause-walked c =
    let s = c.args.sight in
    let w = c.args.self.now in
    let f = c.args.rest in
    let words = c.words_in-words.ensures ∙ ap (λ l. drop f.start (take f.end l)) c.as_slice.ensures.value in
    let met = ap (λ ws. is_met (mode_of s.mode) (heap_view s.heap.now) (mine s.heap.now s.levels.now) (numbers ws) (expr_view c.args.expr.now)) (sym words) ∙ sym c.goes_past.ensures ∙ c.if-not-goes_past.false in
    rw (c.in_ok-wait.ensures.frames, c.in_ok-wait.ensures.words, c.in_ok-wait.ensures.taken)
    (test_passes (map predicate_view c.args.predicates.now) (mode_of s.mode) (heap_view s.heap.now) (mine s.heap.now s.levels.now) c.stack_walks.ensures c.requires.guarded
    w.words.items w.frames.items c.args.rest (expr_view c.args.expr.now) w.taken met)

pub returns-clause-rises : goal.returns-clause-rises
returns-clause-rises c = λ _.
    let w = c.args.self.now in
    rw (c.in_ok-wait.ensures.frames, c.in_ok-wait.ensures.words)
    (rises_wait 0 w.frames.items c.args.rest.end c.args.rest (length w.words.items) c.args.rest.parts.now c.requires.rises (omega arith) c.requires.start c.requires.end)
