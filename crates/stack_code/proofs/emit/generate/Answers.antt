use Rattle.std.proofs.Common.{◌≡◌, ap, sym, ◌∙◌, subst, List}
use Rattle.gc0_tree.specs.Tree.{Program}
use Rattle.gc0_tree.specs.Views.{program_view}
use Rattle.stack_code.specs.Instrs.{Body, Code}
use Rattle.stack_code.specs.Coding.{bodies_from, code_of}
use Rattle.stack_code.specs.Theorem.{Means}
use Rattle.stack_code.specs.Views.{body_view, code_view}
use Rattle.stack_code.proofs.Calls.{means}
use Rattle.stack_code.proofs.emit.generate.Goals as goal

pub returns-clause-meaning : goal.returns-clause-meaning
returns-clause-meaning c =
    let p : Program = program_view c.args.program.now in
    let with : List Body → Body → Code = λ functions start. record { predicates = p.predicates; functions = functions; start = start } in
    let e = ap (λ functions. with functions (body_view c.in_ok-start.start)) c.in_ok-functions.ensures ∙ ap (λ start. with (bodies_from p 0 p.functions) start) c.in_ok-start.ensures in
    subst (λ k. Means k p) (sym e) (means p c.requires)
