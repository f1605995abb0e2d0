-- What the search leaves of the proof of `kept_entries`.
use Rattle.std.proofs.Common.{◌≡◌, ℕ, suc, ◌+◌, ◌++◌, ◌∷◌, map, drop, sym, ap, subst, ◌∙◌, arith}
use Rattle.std.proofs.lemmas.List.{drop_more}
use Rattle.core_tree.specs.CoreViews.{core_view, core_function_view}
use Rattle.assumption_log.specs.AllKept.{entries_from, all_entries}
use Rattle.assumption_log.specs.Keeping.{with_reason}
use Rattle.assumption_log.proofs.Keeping.{functions_next}
use Rattle.assumption_log.proofs.all.kept_entries.Goals as goal

pub loop-number-preserved : goal.loop-number-preserved
loop-number-preserved c =
    let r = c.args.how.reason in
    let p = core_view c.args.core.now in
    let fs = c.as_slice-function-items.result.now in
    let i = c.loop-number.number in
    let f = c.function-item.result in
    let all = map (with_reason r) (all_entries p) in
    let first : drop i fs ≡ f ∷ drop (i + 1) fs = drop_more fs i f c.loop-number-test.true ∙ ap (λ x. x ∷ drop (i + 1) fs) (sym c.function-item.is) in
    let next : suc i ≡ i + 1 = omega arith in
    let before : c.loop-number.entries ++ map (with_reason r) (entries_from p i (core_function_view f ∷ map core_function_view (drop (i + 1) fs))) ≡ all =
    subst (λ l. c.loop-number.entries ++ map (with_reason r) (entries_from p i (map core_function_view l)) ≡ all) first c.loop-number.invariant in
    subst (λ (n : ℕ). c.keep_function.new.entries ++ map (with_reason r) (entries_from p n (map core_function_view (drop (i + 1) fs))) ≡ all) next
    (functions_next r p i (core_function_view f) (map core_function_view (drop (i + 1) fs)) c.loop-number.entries c.keep_function.new.entries all
    c.in_ok-keep_function.ensures before)
