use Rattle.std.proofs.Common.{◌≡◌, ◌+◌, ◌-◌, max, length, map, take, reverse, List, slice_range, vec_len, arith, ap, ◌∙◌, sym}
use Rattle.stack_code.specs.declared.instr.Instr.{Instr}
use Rattle.stack_code.specs.Views.{instr_view}
use Rattle.stack_code.specs.Machine.{on}
use Rattle.stack_runner.specs.States.{operands_at, waiting}
use Rattle.stack_runner.proofs.Stores.{are_entered}
use Rattle.stack_runner.proofs.Moves.{called}
use Rattle.stack_runner.proofs.state.State.enter.Goals as goal

pub returns-clause-step : goal.returns-clause-step
returns-clause-step c =
    let s = c.args.self.now in
    let f = c.args.function.now in
    let h = c.requires.fine.0 in
    let e : c.max-base.result ≡ max s.frame.floor (length s.values.items - f.params) = omega arith in
    let t : c.in-Some.floor ≡ length s.values.items + (f.locals - f.params) = omega arith in
    let l : vec_len s.values ≡ length s.values.items = omega arith in
    let w = are_entered s.frame.base s.frame.floor f.params (f.locals - f.params) c.max-base.result c.in-Some.floor (vec_len s.values) s.values.items c.resize.new.self.items h.order h.within e t l c.in_ok-resize.ensures.items in
    λ input output. called s (map instr_view f.instrs) f.params f.locals c.max-base.result c.in-Some.floor c.resize.new.self.items c.push.new.self.items input output w c.in_ok-push.ensures.items
    ∙ ap (λ (l : List Instr). on record { frame = record { instrs = map instr_view l; next = 0; operands = operands_at c.in-Some.floor c.resize.new.self.items; locals = slice_range c.resize.new.self.items c.max-base.result c.in-Some.floor }; callers = waiting (reverse c.push.new.self.items) (take c.max-base.result c.resize.new.self.items); input = input; output = output; steps = s.steps }) (sym c.as_slice.ensures)
