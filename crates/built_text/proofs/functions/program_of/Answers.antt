-- What is answered by hand of the proof of `program_of`.
use Rattle.std.proofs.Common.{rules, ◌≡◌, ◌∙◌, ◌∷◌, List, ap, sym, false, map}
use Rattle.built_text.specs.declared.tree.Typed.{Typed}
use Rattle.built_text.specs.Tree.{FunctionTree}
use Rattle.built_text.specs.Views.{function_view}
use Rattle.built_text.specs.Plan.{Plan, typed, function, functions, program, run}
use Rattle.built_text.proofs.Failing.{fails_as}
use Rattle.built_text.specs.Plan.{is_end}
use Rattle.built_text.proofs.Loops.{functions_pushed, function_first, onto, onto_more}
use Rattle.built_text.proofs.functions.program_of.Goals as goal

abbrev of_functions : (List FunctionTree → Plan) → Typed → Plan
of_functions N = function (λ f. functions (λ fs. N (f ∷ fs)))

pub returns-in-Err : goal.returns-in-Err
returns-in-Err c =
    let N : List FunctionTree → Plan = onto (map function_view c.loop-token.functions) program in
    let s : c.loop-token.rest.now ≡ c.in-Some.token.now ∷ c.in-Some.behind.now = search rules in
    let n : is_end c.in-Some.token.now.kind ≡ false = search rules in
    fails_as _ _ _ (c.loop-token.invariant.reads ∙ ap (run (functions N)) s ∙ function_first N c.in-Some.token.now c.in-Some.behind.now n ∙ ap (run (typed (of_functions N))) (sym s)) (c.in-Err.ensures.reads (of_functions N))

pub returns-in-Err-function_of : goal.returns-in-Err-function_of
returns-in-Err-function_of c =
    let N : List FunctionTree → Plan = onto (map function_view c.loop-token.functions) program in
    let s : c.loop-token.rest.now ≡ c.in-Some.token.now ∷ c.in-Some.behind.now = search rules in
    let n : is_end c.in-Some.token.now.kind ≡ false = search rules in
    fails_as _ _ _ (c.loop-token.invariant.reads ∙ ap (run (functions N)) s ∙ function_first N c.in-Some.token.now c.in-Some.behind.now n ∙ ap (run (typed (of_functions N))) (sym s) ∙ c.in-Ok.ensures.reads (of_functions N)) (c.in-Err-function_of.ensures.reads (λ f. functions (λ fs. N (f ∷ fs))))

pub loop-token-preserved : goal.loop-token-preserved
loop-token-preserved c = record {
  reads =
      let N : List FunctionTree → Plan = onto (map function_view c.loop-token.functions) program in
      let s : c.loop-token.rest.now ≡ c.in-Some.token.now ∷ c.in-Some.behind.now = search rules in
      let n : is_end c.in-Some.token.now.kind ≡ false = search rules in
      let ts = c.in-Ok-function_of.value.1.now in
      let v = functions_pushed _ _ _ c.in_ok-push.ensures.ok in
      c.loop-token.invariant.reads ∙ ap (run (functions N)) s ∙ function_first N c.in-Some.token.now c.in-Some.behind.now n ∙ ap (run (typed (of_functions N))) (sym s)
      ∙ c.in-Ok.ensures.reads (of_functions N)
      ∙ c.in-Ok-function_of.ensures.reads (λ f. functions (λ fs. N (f ∷ fs)))
      ∙ ap (λ k. run (functions k) ts) (onto_more (map function_view c.loop-token.functions) program (function_view c.in-Ok-function_of.value.0))
      ∙ ap (λ l. run (functions (onto l program)) ts) (sym v);
  shorter = search rules;
}
