use Rattle.std.proofs.Common.{◌≡◌, ◌∙◌, ◌<◌, true, false, List, [], ◌∷◌, Some, length, refl, sym, ap, subst, inl, inr}
use Rattle.std.specs.Option.{IsSome}
use Rattle.std.specs.List.{All, slice_get, Contains}
use Rattle.std.proofs.lemmas.Bool.{false≢true}
use Rattle.std.proofs.lemmas.Option.{slice_get-get_or}
use Rattle.std.proofs.lemmas.List.{length-set}
use Rattle.std.proofs.lemmas.List.Elements.{All-nil, All-cons, Contains-push}
use Rattle.sat_check.specs.declared.clause.Lit.{Lit}
use Rattle.sat_check.specs.declared.clause.Clause.{Clause}
use Rattle.sat_check.specs.Clauses.{opposite_of}
use Rattle.sat_check.specs.Logs.{known_before, IsUnit}
use Rattle.sat_check.specs.Literals.{Contains-nil}
use Rattle.search_base.specs.declared.trail.Slot.{Slot}
use Rattle.search_base.specs.declared.trail.Step.{Step}
use Rattle.search_base.specs.Trails.{Shows, falses_of, IsStep}
use Rattle.search_state.specs.Watches.{IsTrail}
use Rattle.search_state.specs.Beginning.{AreOpen}
use Rattle.search_base.specs.Lists.{slice_get-append_left}
use Rattle.search_base.specs.Settling.{Extends-none, IsStep-single}
use Rattle.search_base.specs.Steps.{falses-push}
use Rattle.search_state.specs.Growing.{IsTrail-push}
use Rattle.search_state.proofs.Adding.{Added}
use Rattle.search_state.proofs.watches.Watches.add.Goals as goal

pub returns-in_ok-skip-in-AllFalse : goal.returns-in_ok-skip-in-AllFalse
returns-in_ok-skip-in-AllFalse c =
    let clauses = c.args.clauses.now in
    let placed = c.args.placed.now in
    let falses = falses_of placed.trail.steps.items in
    let clause = c.index-clauses-index.result in
    let named : slice_get clauses c.args.index ≡ Some clause = slice_get-get_or clauses c.args.index clause c.requires.index ∙ ap (λ (x : Clause). Some x) (sym c.index-clauses-index.is) in
    let shows = subst (λ (s : List Slot). Shows s falses) (sym c.as_slice.ensures.value) c.requires.trail.keeps.shows in
    let all : All (Contains falses) clause.lits = subst (λ (l : List Lit). All (Contains falses) l) (c.as_slice-lits.ensures ∙ ap (λ (x : Clause). x.lits) (sym c.index-clauses-index.is)) (c.in-AllFalse.ensures.standing falses shows) in
    let none : Lit = record { variable = 0; positive = false } in
    Added clauses placed placed c.args.self.now c.skip.new.self c.args.index true clause (record { first = none; second = none; aside = false }) named c.requires.index refl refl c.requires.trail
    (Extends-none placed.trail.steps.items) c.requires.watched (λ apart. absurd (apart refl)) c.in_ok-skip-in-AllFalse.ensures
    (λ _. (clause, slice_get-append_left clauses [] c.args.index clause named, all)) (λ e. absurd (false≢true (sym e)))

pub returns-in_ok-assign-in-Single : goal.returns-in_ok-assign-in-Single
returns-in_ok-assign-in-Single c =
    let clauses = c.args.clauses.now in
    let known = known_before clauses [] in
    let old = c.args.placed.now in
    let new = c.assign.new.self in
    let falses = falses_of old.trail.steps.items in
    let clause = c.index-clauses-index.result in
    let index = c.args.index in
    let lit = c.in-Single.lit in
    let named : slice_get clauses index ≡ Some clause = slice_get-get_or clauses index clause c.requires.index ∙ ap (λ (x : Clause). Some x) (sym c.index-clauses-index.is) in
    let shows = subst (λ (s : List Slot). Shows s falses) (sym c.as_slice.ensures.value) c.requires.trail.keeps.shows in
    let unit : IsUnit falses clause.lits lit = subst (λ (l : List Lit). IsUnit falses l lit) (c.as_slice-lits.ensures ∙ ap (λ (x : Clause). x.lits) (sym c.index-clauses-index.is)) (c.in-Single.ensures.standing falses shows) in
    let below : lit.variable < length old.trail.slots.items = rw c.as_slice.ensures.value at c.in-Single.ensures.below in
    let step : Step = record { falsified = c.opposite.result; reason = Some index } in
    let is_step : IsStep (length old.trail.slots.items) known falses step =
    subst (λ (f : Lit). IsStep (length old.trail.slots.items) known falses (record { falsified = f; reason = Some index })) (sym c.opposite.ensures)
    (IsStep-single (length old.trail.slots.items) known falses clause lit index below (slice_get-append_left clauses [] index clause named) unit) in
    let made = c.in_ok-assign-in-Single.ensures in
    let trail : IsTrail known new = IsTrail-push known old new step c.requires.trail is_step made.slots made.steps made.places in
    let len : length new.trail.slots.items ≡ length old.trail.slots.items = ap (λ (s : List Slot). length s) made.slots ∙ length-set old.trail.slots.items step.falsified.variable (record { assigned = true; positive = step.falsified.positive }) in
    let now : Contains (falses_of new.trail.steps.items) (opposite_of lit) =
    subst (λ (s : List Step). Contains (falses_of s) (opposite_of lit)) (sym made.steps) (rw (falses-push old.trail.steps.items step, c.opposite.ensures) (Contains-push falses (opposite_of lit))) in
    Added clauses old new c.args.self.now c.skip-in-Single.new.self index false clause (record { first = lit; second = lit; aside = false }) named c.requires.index refl len trail
    (step ∷ [], made.steps, All-cons (λ (s : Step). IsSome s.reason) step [] refl (All-nil (λ (s : Step). IsSome s.reason)))
    c.requires.watched (λ apart. absurd (apart refl)) c.in_ok-skip-in-Single.ensures (λ e. absurd (false≢true e)) (λ _. inl (lit, unit.stands, now))

pub returns-in_ok-skip-in-True : goal.returns-in_ok-skip-in-True
returns-in_ok-skip-in-True c =
    let clauses = c.args.clauses.now in
    let placed = c.args.placed.now in
    let falses = falses_of placed.trail.steps.items in
    let clause = c.index-clauses-index.result in
    let lit = c.in-True.lit in
    let named : slice_get clauses c.args.index ≡ Some clause = slice_get-get_or clauses c.args.index clause c.requires.index ∙ ap (λ (x : Clause). Some x) (sym c.index-clauses-index.is) in
    let shows = subst (λ (s : List Slot). Shows s falses) (sym c.as_slice.ensures.value) c.requires.trail.keeps.shows in
    let is = c.in-True.ensures.standing falses shows in
    let stands : Contains clause.lits lit = subst (λ (l : List Lit). Contains l lit) (c.as_slice-lits.ensures ∙ ap (λ (x : Clause). x.lits) (sym c.index-clauses-index.is)) is.0 in
    Added clauses placed placed c.args.self.now c.skip-in-True.new.self c.args.index false clause (record { first = lit; second = lit; aside = false }) named c.requires.index refl refl c.requires.trail
    (Extends-none placed.trail.steps.items) c.requires.watched (λ apart. absurd (apart refl)) c.in_ok-skip-in-True.ensures
    (λ e. absurd (false≢true e)) (λ _. inl (lit, stands, is.1))

pub returns-in_ok-watch-in-Open : goal.returns-in_ok-watch-in-Open
returns-in_ok-watch-in-Open c =
    let clauses = c.args.clauses.now in
    let placed = c.args.placed.now in
    let falses = falses_of placed.trail.steps.items in
    let clause = c.index-clauses-index.result in
    let first = c.in-Open.first in
    let second = c.in-Open.second in
    let named : slice_get clauses c.args.index ≡ Some clause = slice_get-get_or clauses c.args.index clause c.requires.index ∙ ap (λ (x : Clause). Some x) (sym c.index-clauses-index.is) in
    let shows = subst (λ (s : List Slot). Shows s falses) (sym c.as_slice.ensures.value) c.requires.trail.keeps.shows in
    let is : AreOpen falses clause.lits first second = subst (λ (l : List Lit). AreOpen falses l first second) (c.as_slice-lits.ensures ∙ ap (λ (x : Clause). x.lits) (sym c.index-clauses-index.is)) (c.in-Open.ensures.standing falses shows) in
    Added clauses placed placed c.args.self.now c.watch.new.self c.args.index false clause (record { first = first; second = second; aside = false }) named c.requires.index refl refl c.requires.trail
    (Extends-none placed.trail.steps.items) c.requires.watched (λ apart. (is.first_stands, is.second_stands)) c.in_ok-watch-in-Open.ensures
    (λ e. absurd (false≢true e)) (λ _. inr (record { first = λ h. Contains-nil first h; second = λ h. Contains-nil second h; apart = is.apart }))
