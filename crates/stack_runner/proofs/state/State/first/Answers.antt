use Rattle.std.proofs.Common.{◌≡◌, ◌+◌, ◌-◌, ◌≤◌, max, length, map, vec_len, arith, ap, ◌∙◌, sym}
use Rattle.stack_code.specs.Views.{instr_view}
use Rattle.stack_runner.proofs.Moves.{begun}
use Rattle.stack_runner.proofs.state.State.first.Goals as goal

pub returns-clause-first : goal.returns-clause-first
returns-clause-first c = λ input.
    begun (map instr_view c.as_slice.result.now) (map instr_view c.args.code.now.start.instrs) (c.args.code.now.start.locals - c.args.code.now.start.params) c.saturating_sub-locals.result (vec_len c.new-values.result) c.resize.new.self.items c.new-values.result.items c.new.result.items input c.args.steps
    (ap (map instr_view) c.as_slice.ensures) c.saturating_sub-locals.ensures c.in_ok-resize.ensures.items c.new-values.ensures.items c.new-values.ensures.len c.new.ensures.items
