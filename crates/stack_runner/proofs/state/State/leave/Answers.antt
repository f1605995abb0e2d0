use Rattle.std.proofs.Common.{◌≡◌, ◌++◌, ◌∷◌, [], ap, ◌∙◌, sym, arith}
use Rattle.std.proofs.lemmas.List.{nil_from_length}
use Rattle.stack_runner.proofs.Moves.{ended, left}
use Rattle.stack_runner.proofs.state.State.leave.Goals as goal

pub returns-in_default-pop-clause-step : goal.returns-in_default-pop-clause-step
returns-in_default-pop-clause-step c =
    let e = c.in-Some.ensures.step in
    λ code input output. ended c.args.self.now c.pop.new.self c.in-Some.word input output e.0 e.1.callers (nil_from_length c.pop.new.self.callers.items (omega (arith, c.in_default-pop.ensures.cases, c.pop.new.self.callers.ok)))

pub returns-clause-step : goal.returns-clause-step
returns-clause-step c =
    let e = c.in-Some.ensures.step in
    let q = c.in-Some-pop.ensures.items in
    λ code input output. left c.args.self.now c.pop.new.self c.in-Some.word c.in-Some-pop.caller c.pop-2.new.self.items c.push.new.self.items input output e.0 e.1.callers e.1.steps q c.in-Some.ensures.fine (c.in_ok-push.ensures.items ∙ ap (λ l. l ++ c.in-Some.word ∷ []) c.truncate.ensures.items)
