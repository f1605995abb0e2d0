use Rattle.std.proofs.Common.{◌≡◌, ◌∷◌, [], ◌++◌, length, take, refl, ap, ◌∙◌, reverse, slice_range, arith}
use Rattle.std.proofs.lemmas.List.{take-append-le}
use Rattle.stack_runner.specs.States.{operands_at, waiting}
use Rattle.stack_runner.proofs.Stores.{operands-append, range-append}
use Rattle.stack_runner.proofs.state.State.put.Goals as goal

pub returns-clause-step : goal.returns-clause-step
returns-clause-step c =
    let s = c.args.self.now in
    let f = s.frame in
    let h = c.requires.fine.0 in
    let e = c.in_ok-push.ensures.items in
    record {
      instrs = refl;
      next = refl;
      operands = ap (operands_at f.floor) e ∙ operands-append f.floor s.values.items c.args.word h.within;
      locals = ap (λ v. slice_range v f.base f.floor) e ∙ range-append f.base f.floor s.values.items _ h.order h.within;
      callers = ap (λ v. waiting (reverse s.callers.items) (take f.base v)) e ∙ ap (waiting (reverse s.callers.items)) (take-append-le f.base s.values.items _ (omega arith));
      steps = refl;
    }
