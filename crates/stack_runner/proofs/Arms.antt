-- An instruction by its variant.
use Rattle.std.proofs.Common.{◌≡◌, Option, Result, Ok, Err, IfOk, sym, subst}
use Rattle.gc0_base.specs.declared.site.Ending.{Ending}
use Rattle.stack_code.specs.declared.instr.Instr.{Instr}
use Rattle.stack_code.specs.Views.{instr_view}
use Rattle.stack_code.specs.Instrs.{Code}
use Rattle.stack_runner.specs.declared.act.RunFault.{RunFault}
use Rattle.stack_runner.specs.declared.state.State.{State}
use Rattle.stack_runner.specs.States.{Does, DoesAnyhow}

pub does_so : (code : Code) (i j : Instr) (s t : State) (end : Option Ending) → i ≡ j → Does code (instr_view j) s t end → Does code (instr_view i) s t end
does_so code i j s t end e d = let P : Instr → Type 0 = λ k. Does code (instr_view k) s t end in subst P (sym e) d

pub ok_so : (code : Code) (i j : Instr) (s t : State) (r : Result (Option Ending) RunFault) → i ≡ j → IfOk r (λ end. DoesAnyhow (instr_view j) s t end) → IfOk r (λ end. Does code (instr_view i) s t end)
ok_so code i j s t (Ok end) e d = does_so code i j s t end e (d code)
ok_so code i j s t (Err f) e d = d
