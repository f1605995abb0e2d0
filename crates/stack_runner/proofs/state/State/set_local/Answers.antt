use Rattle.std.proofs.Common.{◌<◌, arith, ap, ◌∙◌, reverse, drop, take, ◌-◌}
use Rattle.std.proofs.lemmas.List.{drop-set-lt, drop-set-add}
use Rattle.stack_runner.specs.States.{operands_at}
use Rattle.stack_runner.proofs.Stores.{take-set_in}
use Rattle.stack_runner.proofs.state.State.set_local.Goals as goal

pub returns-then-number-self-clause-operands : goal.returns-then-number-self-clause-operands
unfolding operands_at
returns-then-number-self-clause-operands c =
    let s = c.args.self.now in
    ap reverse (drop-set-lt s.frame.floor s.values.items _ _ (omega arith))

pub returns-then-number-self-clause-locals : goal.returns-then-number-self-clause-locals
returns-then-number-self-clause-locals c =
    let f = c.args.self.now.frame in
    let v = c.args.self.now.values.items in
    ap (take (f.floor - f.base)) (drop-set-add f.base v c.args.number c.args.word) ∙ take-set_in (f.floor - f.base) (drop f.base v) c.args.number c.args.word
