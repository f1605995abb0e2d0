use Rattle.std.proofs.Common.{◌≡◌, ◌<◌, ◌≤◌, ◌∷◌, [], ◌++◌, length, take, reverse, slice_range, List, ℕ, arith, refl, sym, ap, ◌∙◌}
use Rattle.std.proofs.lemmas.List.{length_push, take-append-le}
use Rattle.stack_runner.specs.States.{operands_at, waiting}
use Rattle.stack_runner.proofs.Stores.{operands-none, operands-append, range-append}
use Rattle.stack_runner.proofs.state.State.pop.Goals as goal

pub returns-then-len-self-clause-step : goal.returns-then-len-self-clause-step
returns-then-len-self-clause-step c = operands-none _ _ (omega arith)

pub returns-clause-step : goal.returns-clause-step
returns-clause-step c =
    let s = c.args.self.now in
    let f = s.frame in
    let w = c.pop.new.self.items in
    let h = c.requires.fine.0 in
    let e = c.in_ok-word.ensures.items in
    let within : f.floor ≤ length w = omega (arith, ap length e, length_push w c.in_ok-word.word) in (
      ap (operands_at f.floor) e ∙ operands-append f.floor w c.in_ok-word.word within,
      record {
        instrs = refl;
        next = refl;
        operands = refl;
        locals = sym (ap (λ v. slice_range v f.base f.floor) e ∙ range-append f.base f.floor w _ h.order within);
        callers = sym (ap (λ v. waiting (reverse s.callers.items) (take f.base v)) e ∙ ap (waiting (reverse s.callers.items)) (take-append-le f.base w _ (omega arith)));
        steps = refl;
      },
    )
