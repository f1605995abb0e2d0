use Rattle.std.proofs.Common.{[], ◌∷◌, length, map, subst, ap, ◌∙◌}
use Rattle.gc0_tree.specs.Views.{predicate_view}
use Rattle.owned_heap.specs.Views.{heap_view}
use Rattle.frame_ownership.specs.Seen.{mode_of, mine}
use Rattle.frame_ownership.specs.Frames.{frame_view, stack_of, Rises}
use Rattle.frame_ownership.proofs.Stacking.{rises_pop, push_stack}
use Rattle.frame_ownership.proofs.Stepping.{stuck, went_on}
use Rattle.frame_ownership.proofs.walk.Walk.run.Goals as goal

pub step-requires-clause-rises : goal.step-requires-clause-rises
step-requires-clause-rises c =
    let w = c.loop-frame.self in
    (rises_pop 0 c.pop.new.self.items c.in-Some.frame (length w.words.items) (subst (λ fs. Rises 0 fs (length w.words.items)) c.in-Some.ensures.items c.loop-frame.invariant.rises)).0

pub step-requires-clause-start : goal.step-requires-clause-start
step-requires-clause-start c =
    let w = c.loop-frame.self in
    (rises_pop 0 c.pop.new.self.items c.in-Some.frame (length w.words.items) (subst (λ fs. Rises 0 fs (length w.words.items)) c.in-Some.ensures.items c.loop-frame.invariant.rises)).1

pub step-requires-clause-end : goal.step-requires-clause-end
step-requires-clause-end c =
    let w = c.loop-frame.self in
    (rises_pop 0 c.pop.new.self.items c.in-Some.frame (length w.words.items) (subst (λ fs. Rises 0 fs (length w.words.items)) c.in-Some.ensures.items c.loop-frame.invariant.rises)).2

pub returns-then-not-went : goal.returns-then-not-went
returns-then-not-went c =
    let s = c.args.sight in
    let w = c.loop-frame.self in
    let stack = ap (λ fs. stack_of w.words.items fs) c.in-Some.ensures.items ∙ push_stack w.words.items c.pop.new.self.items c.in-Some.frame [] in
    c.loop-frame.invariant.gives
    ∙ stuck (map predicate_view c.args.predicates.now) (mode_of s.mode) (heap_view s.heap.now) (mine s.heap.now s.levels.now) (stack_of w.words.items w.frames.items)
    (frame_view w.words.items c.in-Some.frame ∷ stack_of w.words.items c.pop.new.self.items) w.taken c.in_ok-went.went
    (stack_of c.step.new.self.words.items c.step.new.self.frames.items) c.step.new.self.taken stack c.in_ok-went.ensures.walked c.if-not-went.true

pub loop-frame-smaller : goal.loop-frame-smaller
loop-frame-smaller c =
    let s = c.args.sight in
    let w = c.loop-frame.self in
    let stack = ap (λ fs. stack_of w.words.items fs) c.in-Some.ensures.items ∙ push_stack w.words.items c.pop.new.self.items c.in-Some.frame [] in
    (went_on (map predicate_view c.args.predicates.now) (mode_of s.mode) (heap_view s.heap.now) (mine s.heap.now s.levels.now) (stack_of w.words.items w.frames.items)
    (frame_view w.words.items c.in-Some.frame ∷ stack_of w.words.items c.pop.new.self.items) w.taken c.in_ok-went.went
    (stack_of c.step.new.self.words.items c.step.new.self.frames.items) c.step.new.self.taken stack c.in_ok-went.ensures.walked c.if-not-went.false).1

pub loop-frame-preserved : goal.loop-frame-preserved
loop-frame-preserved c =
    let s = c.args.sight in
    let w = c.loop-frame.self in
    let stack = ap (λ fs. stack_of w.words.items fs) c.in-Some.ensures.items ∙ push_stack w.words.items c.pop.new.self.items c.in-Some.frame [] in
    let on = went_on (map predicate_view c.args.predicates.now) (mode_of s.mode) (heap_view s.heap.now) (mine s.heap.now s.levels.now) (stack_of w.words.items w.frames.items)
    (frame_view w.words.items c.in-Some.frame ∷ stack_of w.words.items c.pop.new.self.items) w.taken c.in_ok-went.went
    (stack_of c.step.new.self.words.items c.step.new.self.frames.items) c.step.new.self.taken stack c.in_ok-went.ensures.walked c.if-not-went.false in
    record { rises = c.in_ok-went.ensures.rises c.if-not-went.false; gives = c.loop-frame.invariant.gives ∙ on.0 }
