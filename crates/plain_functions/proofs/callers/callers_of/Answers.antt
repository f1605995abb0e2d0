use Rattle.std.proofs.Common.{◌∙◌, ◌≡◌, ◌||◌, ◌++◌, ◌∷◌, [], ℕ, map, get_or, length, length-append, Some, refl, ap, sym, arith, rules}
use Rattle.std.specs.Prelude.{slice_get}
use Rattle.std.specs.Option.{option_map}
use Rattle.std.proofs.lemmas.List.{length-map}
use Rattle.std.proofs.lemmas.Option.{slice_get-map, slice_get_read}
use Rattle.gc0_tree.specs.Views.{function_view, stmts_view}
use Rattle.c0_meaning.specs.Precision.{stmts_call}
use Rattle.plain_functions.specs.Callers.{among}
use Rattle.plain_functions.proofs.Lists.{empty_more}
use Rattle.plain_functions.proofs.Backward.{none_written, one_written, all_written}
use Rattle.plain_functions.proofs.callers.callers_of.Goals as goal

pub loop-function-preserved : goal.loop-function-preserved
loop-function-preserved c =
    let old = c.loop-function.callers.items in
    let e : c.push.new.self.items ≡ old ++ [] ∷ [] = search rules in
    record {
      count = ap length e ∙ length-append old ([] ∷ []) ∙ omega (arith, c.loop-function.invariant.count);
      empty = λ g. ap (λ l. get_or l g []) e ∙ empty_more old g ∙ c.loop-function.invariant.empty g;
    }

pub loop-number-init : goal.loop-number-init
loop-number-init c = none_written (map function_view c.args.functions.now) c.loop-function.callers.items (omega (arith, length-map c.args.functions.now function_view)) c.loop-function.invariant.empty

pub loop-number-preserved : goal.loop-number-preserved
loop-number-preserved c =
    let fs = c.args.functions.now in
    let n = c.loop-number.number in
    let fn = c.index-functions-number.result in
    let here : slice_get fs n ≡ Some fn = slice_get_read fs (length fs) n fn refl (omega arith) c.index-functions-number.is in
    let at : slice_get (map function_view fs) n ≡ Some (function_view fn) = slice_get-map function_view fs n ∙ ap (λ o. option_map function_view o) here in
    let callees = c.as_slice-in-loop-number.result.now in
    let calls : (g : ℕ) → among g callees ≡ stmts_call g (stmts_view fn.body) = λ g.
    ap (among g) c.as_slice-in-loop-number.ensures ∙ c.in_ok-add_stmts.ensures g
    ∙ ap (λ l. among g l || stmts_call g (stmts_view c.as_slice.result.now)) c.new-callees.ensures ∙ ap (λ l. stmts_call g (stmts_view l)) c.as_slice.ensures in
    one_written (map function_view fs) n c.loop-number.callers.items c.add_caller.new.callers.items callees (function_view fn) at calls c.in_ok-add_caller.ensures c.loop-number.invariant

pub returns : goal.returns
returns c = all_written (map function_view c.args.functions.now) c.loop-number.number c.loop-number.callers.items (omega (arith, length-map c.args.functions.now function_view)) c.loop-number.invariant
