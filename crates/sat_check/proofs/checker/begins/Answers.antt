use Rattle.std.proofs.Common.{◌∙◌, ◌<◌, false, [], ◌∷◌, ◌++◌, length, get_or, take, arith, refl, sym, ap, subst}
use Rattle.std.specs.List.{Contains}
use Rattle.std.proofs.lemmas.List.{take_more, take_all}
use Rattle.std.proofs.lemmas.List.Elements.{Contains-get_or, All-contains}
use Rattle.sat_check.specs.declared.clause.Lit.{Lit}
use Rattle.sat_check.specs.declared.valuation.Valuation.{Valuation}
use Rattle.sat_check.specs.Clauses.{opposite_of}
use Rattle.sat_check.specs.Logs.{IsTautology}
use Rattle.sat_check.specs.Marks.{Shows, IsSound}
use Rattle.sat_check.specs.Literals.{Contains-take}
use Rattle.sat_check.proofs.Walks.{shown_once, Shows-push, Shows-again}
use Rattle.sat_check.proofs.checker.begins.Goals as goal
use Rattle.sat_check.proofs.checker.begins.Goals.{in-False, in-Open}

pub returns-in-True-clause-no_tautology : goal.returns-in-True-clause-no_tautology
returns-in-True-clause-no_tautology c =
    let lits = c.args.lits.now in
    let i = c.loop-lit.lit-index in
    let lit = get_or lits i (record { variable = 0; positive = false }) in
    let below : lit.variable < length c.args.valuation.now.marks.items = c.requires.below i _ c.loop-lit-test.true in
    let here : lit.variable < length c.loop-lit.valuation.marks.items = omega (arith, c.loop-lit.invariant.len) in
    let before : Contains (take i lits) (opposite_of lit) = (c.loop-lit.invariant.shows (opposite_of lit) here).1 c.in-True.ensures in
    let tautology : IsTautology lits = (lit, Contains-get_or lits i _ c.loop-lit-test.true, Contains-take i lits (opposite_of lit) before) in
    (λ h. absurd (grind arith), λ none. absurd (none tautology))

pub loop-lit-preserved : goal.loop-lit-preserved
loop-lit-preserved c =
    let lits = c.args.lits.now in
    let i = c.loop-lit.lit-index in
    let lit = get_or lits i (record { variable = 0; positive = false }) in
    let v = c.loop-lit.valuation in
    let below : lit.variable < length c.args.valuation.now.marks.items = c.requires.below i _ c.loop-lit-test.true in
    let here : lit.variable < length v.marks.items = omega (arith, c.loop-lit.invariant.len) in
    let more = take_more lits i (record { variable = 0; positive = false }) c.loop-lit-test.true in
    elim c.match-value.branch [
      | in-False w ↦
          let again = Shows-again v.round v.marks.items (take i lits) lit c.loop-lit.invariant.shows ((c.loop-lit.invariant.shows lit here).1 w.in-False.ensures) in
          record {
            shows = rw more (subst (λ (u : Valuation). Shows u.round u.marks.items (take i lits ++ lit ∷ [])) (sym w.valuation-is) again);
            len = ap (λ (u : Valuation). length u.marks.items) w.valuation-is ∙ c.loop-lit.invariant.len;
            sound = subst (λ (u : Valuation). IsSound u.round u.marks.items) (sym w.valuation-is) c.loop-lit.invariant.sound;
          }
      | in-Open w ↦
          let set = w.set_false.ensures in
          let pushed =
          Shows-push w.set_false.new.self.round w.set_false.new.self.marks.items (take i lits) lit
          (set.shows (take i lits) c.loop-lit.invariant.shows (λ true'. w.in-Open.ensures.1 ((c.loop-lit.invariant.shows (opposite_of lit) here).0 true'))) in
          record {
            shows = rw more (subst (λ (u : Valuation). Shows u.round u.marks.items (take i lits ++ lit ∷ [])) (sym w.valuation-is) pushed);
            len = ap (λ (u : Valuation). length u.marks.items) w.valuation-is ∙ set.len ∙ c.loop-lit.invariant.len;
            sound = subst (λ (u : Valuation). IsSound u.round u.marks.items) (sym w.valuation-is) (set.sound c.loop-lit.invariant.sound);
          }
    ]

pub returns-clause-no_tautology : goal.returns-clause-no_tautology
returns-clause-no_tautology c =
    let lits = c.args.lits.now in
    let v = c.loop-lit.valuation in
    let whole = take_all c.loop-lit.lit-index lits c.loop-lit-test.false in
    let shows : Shows v.round v.marks.items lits = rw whole at c.loop-lit.invariant.shows in (
      λ _ (lit, stands, opposite).
          let below : lit.variable < length c.args.valuation.now.marks.items = All-contains (λ (l : Lit). l.variable < length c.args.valuation.now.marks.items) lits lit c.requires.below stands in
          shown_once v.round v.marks.items lits lit shows (omega (arith, c.loop-lit.invariant.len)) stands opposite,
      λ _. refl,
    )

pub returns-clause-shows : goal.returns-clause-shows
returns-clause-shows c _ = rw (take_all c.loop-lit.lit-index c.args.lits.now c.loop-lit-test.false) at c.loop-lit.invariant.shows
