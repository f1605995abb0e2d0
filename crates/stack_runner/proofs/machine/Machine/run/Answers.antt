use Rattle.std.proofs.Common.{◌≡◌, ◌≤◌, ◌<◌, ◌+◌, ◌-◌, ◌*◌, map, sym, ap, ◌∙◌, refl, arith, None, Some}
use Rattle.std.specs.Option.{option_map}
use Rattle.stack_code.specs.Views.{code_view, instr_view}
use Rattle.stack_runner.specs.Runs.{seen_of, words_in}
use Rattle.stack_runner.proofs.Taken.{starts, begins_round, ends_round, ends_run, goes_on, ends, stops, front_of, next_left, does_as}
use Rattle.stack_runner.proofs.machine.Machine.run.Goals as goal

pub loop-round-init : goal.loop-round-init
loop-round-init g c =
    let m = c.args.self.now in
    record {
      fine = c.in_ok-state.ensures.fine;
      end = refl;
      within = omega arith;
      so_far = starts _ (code_view m.code.now) (words_in m) c.in_ok-state.state m.steps _ m.turns (c.in_ok-state.ensures.first (words_in m)) refl m.round;
      later = omega arith;
    }

pub loop-turn-init : goal.loop-turn-init
loop-turn-init g c =
    let h = c.loop-round.invariant in
    record {
      fine = h.fine;
      end = refl;
      before = c.loop-round-test.true;
      turns = refl;
      within = omega arith;
      so_far = begins_round _ _ _ _ _ _ _ _ _ c.loop-round-test.true h.so_far;
      later = h.later;
    }

pub returns-in_default-clause-ok : goal.returns-in_default-clause-ok
returns-in_default-clause-ok g c =
    stops _ _ _ _ _ _ _ _ c.loop-turn.invariant.so_far (next_left _ _ _ c.loop-turn-test.true) (c.next.ensures.value ∙ ap (option_map instr_view) c.in_default.is)

pub returns-in-Ok-Some-clause-ok : goal.returns-in-Ok-Some-clause-ok
returns-in-Ok-Some-clause-ok g c =
    ends _ _ _ _ _ _ _ _ c.loop-turn.state c.act.new.self (instr_view c.in-Some.instr) c.in-Ok-Some.ending c.loop-turn.invariant.so_far (next_left _ _ _ c.loop-turn-test.true) c.in-Some.ensures.value
    (does_as (code_view c.args.self.now.code.now) (instr_view c.in-Some.instr) c.loop-turn.state c.act.new.self c.in-Ok-Some.field-0 (Some c.in-Ok-Some.ending) c.in-Ok-Some.field-0-is c.in-Ok-Some.ensures.step) c.in-Ok-Some.ensures.bytes

pub returns-in-Err-clause-front : goal.returns-in-Err-clause-front
returns-in-Err-clause-front g c =
    front_of _ _ _ _ _ _ _ _ c.loop-turn.state (instr_view c.in-Some.instr) c.loop-turn.invariant.so_far (next_left _ _ _ c.loop-turn-test.true) c.in-Some.ensures.value c.in-Err.ensures.bytes

pub loop-turn-preserved : goal.loop-turn-preserved
loop-turn-preserved g c =
    let h = c.loop-turn.invariant in
    let e = c.in-Ok-None.ensures in
    record {
      fine = e.fine;
      end = refl;
      before = h.before;
      turns = refl;
      within = omega arith;
      so_far = goes_on _ _ _ _ _ _ _ _ c.loop-turn.state c.act.new.self (instr_view c.in-Some.instr) h.so_far (next_left _ _ _ c.loop-turn-test.true) c.in-Some.ensures.value
          (does_as (code_view c.args.self.now.code.now) (instr_view c.in-Some.instr) c.loop-turn.state c.act.new.self c.in-Ok-None.field-0 None c.in-Ok-None.field-0-is e.step) e.bytes;
      later = omega (arith, h.later, e.later);
    }

pub loop-round-preserved : goal.loop-round-preserved
loop-round-preserved g c =
    let h = c.loop-turn.invariant in
    record {
      fine = h.fine;
      end = refl;
      within = omega arith;
      so_far = ends_round _ _ _ _ _ _ _ _ _ (omega arith) h.so_far;
      later = h.later;
    }

pub returns-clause-ok : goal.returns-clause-ok
returns-clause-ok g c = ends_run _ _ _ _ _ _ _ _ _ (omega arith) c.loop-round.invariant.so_far
