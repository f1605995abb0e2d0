use Rattle.std.proofs.Common.{◌≡◌, ℕ, ◌||◌, rules, refl, ◌∙◌, sym, arith, Some, None, get_or}
use Rattle.std.specs.Prelude.{slice_get}
use Rattle.std.proofs.lemmas.Bool.{false≢true}
use Rattle.gc0_tree.specs.Views.{function_view, program_view}
use Rattle.c0_meaning.specs.Precision.{stmts_call}
use Rattle.c0_meaning.specs.Marking.{has}
use Rattle.c0_meaning.proofs.Worklist.{bounded, fresh_queued, asked_at_first, sound_at_first, none_done, done_past, done_more, sound_more, asked_more, plain_at_end, open_at_next, viewed, viewed_none}
use Rattle.c0_meaning.proofs.plain.is_plain.Goals as goal

pub loop-next-init : goal.loop-next-init
loop-next-init c =
    let p = program_view c.args.program.now in
    let r = c.mark.new.self in
    let q = c.mark.ensures.follows.queued fresh_queued in
    record {
      queued = q;
      room = bounded r q;
      within = omega arith;
      asked = asked_at_first r c.args.function c.mark.ensures.marked;
      sound = sound_at_first p r c.args.function c.mark.ensures.marked;
      done = none_done p r;
    }

pub returns-then-is_open : goal.returns-then-is_open
returns-then-is_open c =
    let p = program_view c.args.program.now in
    let r = c.loop-next.reached in
    let it : slice_get c.args.program.now.functions (get_or r.queue c.loop-next.next 0) ≡ Some c.in-Some.callee.now = search rules in
    let at = viewed c.args.program.now.functions (get_or r.queue c.loop-next.next 0) c.in-Some.callee.now it in (
      λ e. absurd (false≢true e),
      λ plain. absurd (open_at_next p c.args.function r c.loop-next.next (function_view c.in-Some.callee.now) c.requires c.loop-next.invariant.queued c.loop-next.invariant.sound c.loop-next-test.true at (sym c.is_open.ensures ∙ c.if-is_open.true) plain),
    )

pub loop-next-preserved-in-Some : goal.loop-next-preserved-in-Some
loop-next-preserved-in-Some c =
    let p = program_view c.args.program.now in
    let r = c.loop-next.reached in
    let s = c.mark_stmts.new.reached in
    let n = c.loop-next.next in
    let fn = function_view c.in-Some.callee.now in
    let it : slice_get c.args.program.now.functions (get_or r.queue n 0) ≡ Some c.in-Some.callee.now = search rules in
    let at = viewed c.args.program.now.functions (get_or r.queue n 0) c.in-Some.callee.now it in
    let marks : (g : ℕ) → has s g ≡ (has r g || stmts_call g fn.body) = λ g. search rules in
    let follows = c.mark_stmts.ensures.follows in
    let q = follows.queued c.loop-next.invariant.queued in
    record {
      queued = q;
      room = bounded s q;
      within = omega (arith, follows.grown, c.loop-next-test.true);
      asked = asked_more r s c.args.function fn marks c.loop-next.invariant.asked;
      sound = sound_more p c.args.function r s n fn c.requires c.loop-next.invariant.queued c.loop-next-test.true at marks c.loop-next.invariant.sound;
      done = done_more p r s n fn at (sym c.is_open.ensures ∙ c.if-is_open.false) c.loop-next-test.true follows marks c.loop-next.invariant.done;
    }

pub loop-next-preserved : goal.loop-next-preserved
loop-next-preserved c =
    let p = program_view c.args.program.now in
    let r = c.loop-next.reached in
    let n = c.loop-next.next in
    let gone : slice_get c.args.program.now.functions (get_or r.queue n 0) ≡ None = search rules in
    let i = c.loop-next.invariant in
    record {
      queued = i.queued;
      room = i.room;
      within = omega (arith, c.loop-next-test.true);
      asked = i.asked;
      sound = i.sound;
      done = done_past p r n (viewed_none c.args.program.now.functions (get_or r.queue n 0) gone) i.done;
    }

pub returns : goal.returns
returns c =
    let p = program_view c.args.program.now in
    let i = c.loop-next.invariant in
    (λ _. plain_at_end p c.loop-next.reached c.loop-next.next c.args.function c.requires i.queued i.done c.loop-next-test.false i.asked, λ _. refl)
