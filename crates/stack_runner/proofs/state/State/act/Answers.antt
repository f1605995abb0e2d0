use Rattle.stack_code.specs.Views.{code_view}
use Rattle.stack_runner.proofs.Arms.{does_so, ok_so}
use Rattle.stack_runner.proofs.state.State.act.Goals as goal

pub returns-in_ok-push-in-Push-clause-step : goal.returns-in_ok-push-in-Push-clause-step
returns-in_ok-push-in-Push-clause-step g c = does_so (code_view c.args.code.now) c.args.instr _ c.args.self.now c.push.new.self c.in_ok-push-in-Push.field-0 c.in-Push.is (c.in_ok-push-in-Push.ensures.step (code_view c.args.code.now))

pub returns-in_ok-load-in-Load-clause-step : goal.returns-in_ok-load-in-Load-clause-step
returns-in_ok-load-in-Load-clause-step g c = does_so (code_view c.args.code.now) c.args.instr _ c.args.self.now c.load.new.self c.in_ok-load-in-Load.field-0 c.in-Load.is (c.in_ok-load-in-Load.ensures.step (code_view c.args.code.now))

pub returns-in_ok-neg-in-Neg-clause-step : goal.returns-in_ok-neg-in-Neg-clause-step
returns-in_ok-neg-in-Neg-clause-step g c = does_so (code_view c.args.code.now) c.args.instr _ c.args.self.now c.neg.new.self c.in_ok-neg-in-Neg.field-0 c.in-Neg.is (c.in_ok-neg-in-Neg.ensures.step (code_view c.args.code.now))

pub returns-in_ok-flip-in-Flip-clause-step : goal.returns-in_ok-flip-in-Flip-clause-step
returns-in_ok-flip-in-Flip-clause-step g c = does_so (code_view c.args.code.now) c.args.instr _ c.args.self.now c.flip.new.self c.in_ok-flip-in-Flip.field-0 c.in-Flip.is (c.in_ok-flip-in-Flip.ensures.step (code_view c.args.code.now))

pub returns-in_ok-add-in-Add-clause-step : goal.returns-in_ok-add-in-Add-clause-step
returns-in_ok-add-in-Add-clause-step g c = does_so (code_view c.args.code.now) c.args.instr _ c.args.self.now c.add.new.self c.in_ok-add-in-Add.field-0 c.in-Add.is (c.in_ok-add-in-Add.ensures.step (code_view c.args.code.now))

pub returns-in_ok-sub-in-Sub-clause-step : goal.returns-in_ok-sub-in-Sub-clause-step
returns-in_ok-sub-in-Sub-clause-step g c = does_so (code_view c.args.code.now) c.args.instr _ c.args.self.now c.sub.new.self c.in_ok-sub-in-Sub.field-0 c.in-Sub.is (c.in_ok-sub-in-Sub.ensures.step (code_view c.args.code.now))

pub returns-in_ok-mul-in-Mul-clause-step : goal.returns-in_ok-mul-in-Mul-clause-step
returns-in_ok-mul-in-Mul-clause-step g c = does_so (code_view c.args.code.now) c.args.instr _ c.args.self.now c.mul.new.self c.in_ok-mul-in-Mul.field-0 c.in-Mul.is (c.in_ok-mul-in-Mul.ensures.step (code_view c.args.code.now))

pub returns-in_ok-less-in-Less-clause-step : goal.returns-in_ok-less-in-Less-clause-step
returns-in_ok-less-in-Less-clause-step g c = does_so (code_view c.args.code.now) c.args.instr _ c.args.self.now c.less.new.self c.in_ok-less-in-Less.field-0 c.in-Less.is (c.in_ok-less-in-Less.ensures.step (code_view c.args.code.now))

pub returns-in_ok-lesseq-in-LessEq-clause-step : goal.returns-in_ok-lesseq-in-LessEq-clause-step
returns-in_ok-lesseq-in-LessEq-clause-step g c = does_so (code_view c.args.code.now) c.args.instr _ c.args.self.now c.lesseq.new.self c.in_ok-lesseq-in-LessEq.field-0 c.in-LessEq.is (c.in_ok-lesseq-in-LessEq.ensures.step (code_view c.args.code.now))

pub returns-in_ok-equal-in-Equal-clause-step : goal.returns-in_ok-equal-in-Equal-clause-step
returns-in_ok-equal-in-Equal-clause-step g c = does_so (code_view c.args.code.now) c.args.instr _ c.args.self.now c.equal.new.self c.in_ok-equal-in-Equal.field-0 c.in-Equal.is (c.in_ok-equal-in-Equal.ensures.step (code_view c.args.code.now))

pub returns-in_ok-leave-in-Return-clause-step : goal.returns-in_ok-leave-in-Return-clause-step
returns-in_ok-leave-in-Return-clause-step g c = does_so (code_view c.args.code.now) c.args.instr _ c.args.self.now c.leave.new.self c.in_ok-leave-in-Return.field-0 c.in-Return.is (c.in_ok-leave-in-Return.ensures.step (code_view c.args.code.now))

pub returns-in-Save-clause-step : goal.returns-in-Save-clause-step
returns-in-Save-clause-step g c = does_so (code_view c.args.code.now) c.args.instr _ c.args.self.now c.save.new.self c.save.result c.in-Save.is (c.save.ensures.step (code_view c.args.code.now))

pub returns-in-Drop-clause-step : goal.returns-in-Drop-clause-step
returns-in-Drop-clause-step g c = does_so (code_view c.args.code.now) c.args.instr _ c.args.self.now c.discard.new.self c.discard.result c.in-Drop.is (c.discard.ensures.step (code_view c.args.code.now))

pub returns-in-Jump-clause-step : goal.returns-in-Jump-clause-step
returns-in-Jump-clause-step g c = does_so (code_view c.args.code.now) c.args.instr _ c.args.self.now c.jump.new.self c.jump.result c.in-Jump.is (c.jump.ensures.step (code_view c.args.code.now))

pub returns-in-JumpFalse-clause-step : goal.returns-in-JumpFalse-clause-step
returns-in-JumpFalse-clause-step g c = does_so (code_view c.args.code.now) c.args.instr _ c.args.self.now c.jump_false.new.self c.jump_false.result c.in-JumpFalse.is (c.jump_false.ensures.step (code_view c.args.code.now))

pub returns-in-Step-clause-step : goal.returns-in-Step-clause-step
returns-in-Step-clause-step g c = does_so (code_view c.args.code.now) c.args.instr _ c.args.self.now c.step.new.self c.step.result c.in-Step.is (c.step.ensures.step (code_view c.args.code.now))

pub returns-in-CheckWhole-clause-step : goal.returns-in-CheckWhole-clause-step
returns-in-CheckWhole-clause-step g c = does_so (code_view c.args.code.now) c.args.instr _ c.args.self.now c.check.new.self c.check.result c.in-CheckWhole.is (c.check.ensures.step (code_view c.args.code.now))

pub returns-in-PrintInt-clause-step : goal.returns-in-PrintInt-clause-step
returns-in-PrintInt-clause-step g c = ok_so (code_view c.args.code.now) c.args.instr _ c.args.self.now c.print_int.new.self c.print_int.result c.in-PrintInt.is c.print_int.ensures.step

pub returns-in-PrintBool-clause-step : goal.returns-in-PrintBool-clause-step
returns-in-PrintBool-clause-step g c = ok_so (code_view c.args.code.now) c.args.instr _ c.args.self.now c.print_bool.new.self c.print_bool.result c.in-PrintBool.is c.print_bool.ensures.step
