-- What is answered by hand of the proofs of the cycle `conjuncts`.
use Rattle.std.proofs.Common.{◌≡◌, ℕ, List, [], ◌++◌, sym, ap, ◌∙◌, rules}
use Rattle.std.specs.Prelude.{codes}
use Rattle.gc0_tree.specs.declared.Conjunct.TheViews.{the_lemmas}
use Rattle.gc0_tree.specs.declared.Conjunct.TheFolds.{fold_out-Conjunct}
use Rattle.gc0_tree.specs.Tree.{Conjuncts, choice_part}
use Rattle.gc0_tree.specs.Views.{expr_view, conjunct_view, conjuncts_view}
use Rattle.c0_grammar.specs.Allowed.{ranks}
use Rattle.c0_layout.specs.Layout.{expr_text}
use Rattle.c0_layout.specs.Rounding.{closed}
use Rattle.formula_print.specs.Numbered.{shown, or_true, parts_text}
use Rattle.formula_print.proofs.Choices.{on_ok, choice_put}
use Rattle.formula_print.proofs.formulas.+conjuncts.Goals as goal

pub push_conjunct-returns-in_ok-push_parts-in-Choice-2 : goal.push_conjunct-returns-in_ok-push_parts-in-Choice-2
push_conjunct-returns-in_ok-push_parts-in-Choice-2 t c =
    let p = c.args.program.now in
    let s = c.args.scope in
    let old : List ℕ = c.args.text.now.items in
    let front : List ℕ = c.args.front.now in
    let these : Conjuncts = conjuncts_view c.in-Choice.these in
    let those : Conjuncts = conjuncts_view c.in-Choice.those in
    let q : List ℕ = expr_text (closed ranks (shown p s (expr_view c.in-Choice.condition))) in
    let t1 : List ℕ = c.push.new.text.items in
    let t2 : List ℕ = c.push-in-Choice.new.text.items in
    let t3 : List ℕ = c.push_within-in-Choice.new.text.items in
    let t4 : List ℕ = c.push-in-Choice-2.new.text.items in
    let t5 : List ℕ = c.push_or_true.new.text.items in
    let t6 : List ℕ = c.push_parts.new.text.items in
    let t7 : List ℕ = c.push-in-Choice-3.new.text.items in
    let t8 : List ℕ = c.push_or_true-in-Choice.new.text.items in
    let t9 : List ℕ = c.push_parts-in-Choice.new.text.items in
    let e1 : t1 ≡ old ++ front = search rules in
    let e2 : t2 ≡ t1 ++ codes "(" = search rules in
    let e3 : t3 ≡ t2 ++ q = search rules in
    let e4 : t4 ≡ t3 ++ codes " ? " = search rules in
    let e5 : t5 ≡ t4 ++ or_true these = search rules in
    let e6 : t6 ≡ t5 ++ parts_text p s [] these = search rules in
    let e7 : t7 ≡ t6 ++ codes " : " = search rules in
    let e8 : t8 ≡ t7 ++ or_true those = search rules in
    let e9 : t9 ≡ t8 ++ parts_text p s [] those = search rules in
    let seen : (rest : Conjuncts) → conjunct_view c.args.conjunct.now rest ≡ choice_part c.in-Choice.field-0 (expr_view c.in-Choice.condition) these those rest = λ rest. search (rules, the_lemmas, fold_out-Conjunct) in
    on_ok c.push-in-Choice-4.result c.push-in-Choice-4.ensures (λ last rest.
    choice_put old front q (or_true these) (parts_text p s [] these) (or_true those) (parts_text p s [] those) (parts_text p s (codes " && ") rest) t1 t2 t3 t4 t5 t6 t7 t8 t9 c.push-in-Choice-4.new.text.items e1 e2 e3 e4 e5 e6 e7 e8 e9 last
    ∙ ap (λ (k : Conjuncts). old ++ parts_text p s front k) (sym (seen rest)))
