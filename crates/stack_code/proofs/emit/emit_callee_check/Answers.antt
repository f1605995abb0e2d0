use Rattle.std.proofs.Common.{◌≡◌, ◌++◌, ◌∙◌, sym, ap, subst, map, slice_get, Option, Some, None, OnOk, append-nil}
use Rattle.std.specs.Option.{option_map, option_copied}
use Rattle.std.proofs.lemmas.Option.{slice_get-map}
use Rattle.gc0_tree.specs.Tree.{Function}
use Rattle.gc0_tree.specs.Views.{function_view}
use Rattle.stack_code.specs.Coding.{callee_check}
use Rattle.stack_code.specs.Within.{shown}
use Rattle.stack_code.proofs.emit.emit_callee_check.Goals as goal

pub returns-in-None : goal.returns-in-None
returns-in-None c =
    let e : slice_get (map function_view c.args.program.now.functions) c.args.function ≡ None = slice_get-map function_view c.args.program.now.functions c.args.function ∙ ap (option_map function_view) (sym c.get.ensures.value ∙ ap option_copied c.in-None.is) in
    subst (λ (o : Option Function). shown c.args.code.now ≡ shown c.args.code.now ++ callee_check c.args.site o) (sym e) (sym (append-nil (shown c.args.code.now)))

pub returns-in-Some : goal.returns-in-Some
returns-in-Some c =
    let e : slice_get (map function_view c.args.program.now.functions) c.args.function ≡ Some (function_view c.in-Some.callee.now) = slice_get-map function_view c.args.program.now.functions c.args.function ∙ ap (option_map function_view) (sym c.get.ensures.value ∙ ap option_copied c.in-Some.is) in
    subst (λ (o : Option Function). OnOk c.push.result (shown c.push.new.self ≡ shown c.args.code.now ++ callee_check c.args.site o)) (sym e) c.push.ensures
