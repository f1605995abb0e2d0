use Rattle.std.proofs.Common.{false, ◌∷◌, ◌++◌, [], List, get_or, take, length, arith, sym, ap, subst}
use Rattle.std.specs.List.{Contains}
use Rattle.std.proofs.lemmas.List.{take_more, take_all}
use Rattle.std.proofs.lemmas.List.Elements.{Contains-get_or}
use Rattle.sat_check.specs.declared.clause.Lit.{Lit}
use Rattle.search_state.specs.declared.shelf.Card.{Card}
use Rattle.search_state.specs.Shelves.{HasFewest}
use Rattle.search_state.proofs.Shelving.{HasFewest-push}
use Rattle.search_state.proofs.shelf.Shelf.rarest.Goals as goal
use Rattle.search_state.proofs.shelf.Shelf.rarest.Goals.{then-of, else-of}

pub loop-lit-preserved : goal.loop-lit-preserved
loop-lit-preserved c =
    let shelf = c.args.self.now in
    let lits = c.args.lits.now in
    let i = c.loop-lit.lit-index in
    let none : Lit = record { variable = 0; positive = false } in
    let lit = get_or lits i none in
    let old = c.loop-lit.rarest in
    let new = c.if-of.rarest in
    let before = c.loop-lit.invariant in
    let of_lit = ap (λ (cards : List Card). length cards) c.of.ensures in
    let of_old = ap (λ (cards : List Card). length cards) c.of-in-loop-lit.ensures in
    let fewest : HasFewest shelf (take i lits ++ lit ∷ []) new =
    elim c.if-of.branch [
      | then-of w ↦
          subst (HasFewest shelf (take i lits ++ lit ∷ [])) (sym w.rarest-is)
          (HasFewest-push shelf (take i lits) lit old lit before.fewest (omega (arith, of_lit, of_old, w.if-of.true)) (omega arith))
      | else-of w ↦
          subst (HasFewest shelf (take i lits ++ lit ∷ [])) (sym w.rarest-is)
          (HasFewest-push shelf (take i lits) lit old old before.fewest (omega arith) (omega (arith, of_lit, of_old, w.if-of.false)))
    ] in
    record {
      stands = elim c.if-of.branch [
        | then-of w ↦ subst (Contains lits) (sym w.rarest-is) (Contains-get_or lits i none c.loop-lit-test.true)
        | else-of w ↦ subst (Contains lits) (sym w.rarest-is) before.stands
      ];
      fewest = subst (λ (l : List Lit). HasFewest shelf l new) (sym (take_more lits i none c.loop-lit-test.true)) fewest;
    }

pub returns-clause-fewest : goal.returns-clause-fewest
returns-clause-fewest c =
    subst (λ (l : List Lit). HasFewest c.args.self.now l c.loop-lit.rarest) (take_all c.loop-lit.lit-index c.args.lits.now c.loop-lit-test.false) c.loop-lit.invariant.fewest
