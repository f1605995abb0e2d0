use Rattle.std.proofs.Common.{◌≡◌, ◌-◌, max, length, drop, sym, ap, ◌∙◌, arith}
use Rattle.std.proofs.lemmas.List.{take_rest}
use Rattle.stack_runner.proofs.Stores.{end_of_operands}
use Rattle.stack_runner.proofs.state.State.top.Goals as goal

pub returns : goal.returns
returns c =
    let s = c.args.self.now in
    let e : c.max-first.result ≡ max s.frame.floor (length s.values.items - c.args.count) = omega arith in
    take_rest c.deref.result.now c.max-first.result ∙ ap (drop c.max-first.result) c.deref.ensures.value ∙ sym (end_of_operands s.frame.floor c.args.count c.max-first.result s.values.items c.requires.0.within e)
