use Rattle.std.proofs.Common.{rules}
use Rattle.core_expressions.specs.Writing.{function_of}
use Rattle.core_lower.specs.Parts.{AreStmts}
use Rattle.core_lower.proofs.Wholly.{body_done, body_of_these}
use Rattle.core_lower.proofs.whole.lower_body.Goals as goal

pub returns : goal.returns
returns c =
    let w = c.in_ok-within.within in
    let k = c.in_ok-within.ensures in
    let o1 = c.lower_start.new.out in
    let o2 = c.lower_stmts.new.out in
    let o3 = c.lower_close.new.out in
    let body : AreStmts w o1 o2 (function_of w).body = search rules in
    body_of_these w c.args.program.now c.args.function.now c.args.number o3 k.program k.function k.number
    (body_done w c.new-out.result o1 o2 o3 _ c.new-out.ensures.code c.new-out.ensures.decisions c.new-out.ensures.placed c.in_ok-lower_start.ensures body c.in_ok-lower_close.ensures)
