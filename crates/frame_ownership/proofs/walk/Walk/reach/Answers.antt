use Rattle.std.proofs.Common.{length, take, drop, map, sym, ap, ◌∙◌, arith}
use Rattle.gc0_tree.specs.Views.{expr_view, predicate_view}
use Rattle.c0_meaning.specs.Holds.{value_in}
use Rattle.owned_heap.specs.Views.{heap_view}
use Rattle.frame_ownership.specs.Seen.{numbers, mode_of, mine, seen}
use Rattle.frame_ownership.specs.Frames.{if_found}
use Rattle.frame_ownership.proofs.Stacking.{rises_wait}
use Rattle.frame_ownership.proofs.Stepping.{reached}
use Rattle.frame_ownership.proofs.walk.Walk.reach.Goals as goal

pub returns-clause-walked : goal.returns-clause-walked
returns-clause-walked c =
    let s = c.args.sight in
    let w = c.args.self.now in
    let f = c.args.rest in
    let words = c.words_in-words.ensures ∙ ap (λ l. drop f.start (take f.end l)) c.as_slice.ensures.value in
    let base = ap (λ ws. value_in (heap_view s.heap.now) (seen s.mode s.heap.now s.levels.now) (numbers ws) (expr_view c.args.base.now)) (sym words) ∙ sym c.in-Some.ensures in
    let took = c.in_ok-took.ensures ∙ ap (λ b. if_found b c.take.new.taken) c.if-not-took.false in
    rw (c.in_ok-wait.ensures.frames, c.in_ok-wait.ensures.words, c.in_ok-wait.ensures.taken)
    (reached (map predicate_view c.args.predicates.now) (mode_of s.mode) (heap_view s.heap.now) (mine s.heap.now s.levels.now) c.stack_walks.ensures c.requires.guarded
    w.words.items w.frames.items f (expr_view c.args.base.now) c.args.field w.taken c.take.new.taken c.in-Some.word.0 base took)

pub returns-clause-rises : goal.returns-clause-rises
returns-clause-rises c = λ _.
    let w = c.args.self.now in
    rw (c.in_ok-wait.ensures.frames, c.in_ok-wait.ensures.words)
    (rises_wait 0 w.frames.items c.args.rest.end c.args.rest (length w.words.items) c.args.rest.parts.now c.requires.rises (omega arith) c.requires.start c.requires.end)
