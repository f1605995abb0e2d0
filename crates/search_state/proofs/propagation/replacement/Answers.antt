use Rattle.std.proofs.Common.{◌≡◌, ◌∙◌, Bool, true, false, not, get_or, take, List, arith, inl, inr, subst, sym}
use Rattle.std.specs.List.{Contains}
use Rattle.std.proofs.lemmas.List.{take_more, take_all}
use Rattle.std.proofs.lemmas.List.Elements.{Contains-push_cases}
use Rattle.sat_check.specs.declared.clause.Lit.{Lit}
use Rattle.sat_check.specs.Literals.{lit_test-true}
use Rattle.search_state.proofs.propagation.replacement.Goals as goal
use Rattle.search_state.proofs.propagation.replacement.Goals.{else-ne-via-then-ne+else-not-is_false, else-ne-via-else-ne}

not_so : {t : Bool} → false ≡ not t → t ≡ true
not_so {t} e = grind arith

pub loop-lit-preserved : goal.loop-lit-preserved
loop-lit-preserved c falses shows lit stands =
    let lits = c.args.lits.now in
    let i = c.loop-lit.lit-index in
    let it = get_or lits i (record { variable = 0; positive = false }) in
    let more = take_more lits i (record { variable = 0; positive = false }) c.loop-lit-test.true in
    elim (Contains-push_cases (take i lits) it lit (subst (λ (l : List Lit). Contains l lit) more stands)) [
      | inl before ↦ c.loop-lit.invariant falses shows lit before
      | inr same ↦
          elim c.else-ne.branch [
            | else-ne-via-then-ne+else-not-is_false w ↦
                inr (subst (Contains falses) same ((w.is_false.ensures falses shows).0 w.if-not-is_false.false))
            | else-ne-via-else-ne w ↦ inl (sym same ∙ lit_test-true it c.args.other (not_so (sym w.if-ne.false ∙ c.ne.ensures)))
          ]
    ]

pub returns-clause-none : goal.returns-clause-none
returns-clause-none c falses shows lit stands =
    let whole = take_all c.loop-lit.lit-index c.args.lits.now c.loop-lit-test.false in
    c.loop-lit.invariant falses shows lit (subst (λ (l : List Lit). Contains l lit) (sym whole) stands)
