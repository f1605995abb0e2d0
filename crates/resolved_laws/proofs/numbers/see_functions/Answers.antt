use Rattle.std.proofs.Common.{◌≡◌, true, sym, subst, take, arith}
use Rattle.std.proofs.lemmas.List.{take_all}
use Rattle.std.proofs.lemmas.List.Elements.{All-more, All-same}
use Rattle.gc0_tree.specs.declared.Function.{Function}
use Rattle.gc0_tree.specs.Views.{function_view}
use Rattle.resolved_laws.specs.Numbers.{stmts_numbers, NumbersFit}
use Rattle.resolved_laws.proofs.numbers.see_functions.Goals as goal

pub loop-function-preserved : goal.loop-function-preserved
loop-function-preserved c =
    All-more (λ f. NumbersFit (function_view f)) c.args.functions.now c.loop-function.function-index c.function-item.result (omega arith) c.loop-function.invariant
    (subst (λ (x : Function). stmts_numbers (function_view x).body ≡ true) c.function-item.is c.see_function.ensures)

pub returns : goal.returns
returns c =
    All-same (λ f. NumbersFit (function_view f)) c.args.functions.now (take c.loop-function.function-index c.args.functions.now)
    (sym (take_all c.loop-function.function-index c.args.functions.now (omega arith))) c.loop-function.invariant
