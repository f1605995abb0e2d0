use Rattle.std.proofs.Common.{◌≡◌, ◌∙◌, ℕ, ◌<◌, true, List, Some, length, get_or, arith, refl, sym, ap, subst, inl, inr}
use Rattle.std.specs.List.{All, Contains, slice_get}
use Rattle.std.proofs.lemmas.Bool.{false≢true}
use Rattle.std.proofs.lemmas.Option.{slice_get_within}
use Rattle.std.proofs.lemmas.List.{length-set}
use Rattle.std.proofs.lemmas.List.Elements.{All-contains, Contains-get_or, Contains-push}
use Rattle.sat_check.specs.declared.clause.Lit.{Lit}
use Rattle.sat_check.specs.declared.clause.Clause.{Clause}
use Rattle.sat_check.specs.Clauses.{opposite_of}
use Rattle.sat_check.specs.Logs.{known_before, IsUnit}
use Rattle.sat_check.specs.Laws.{known_below, below_at}
use Rattle.search_base.specs.declared.trail.Slot.{Slot}
use Rattle.search_base.specs.declared.trail.Step.{Step}
use Rattle.search_base.specs.Trails.{Shows, falses_of, IsStep}
use Rattle.search_state.specs.Watches.{Advances, IsTrail, watchers_of}
use Rattle.search_base.specs.Settling.{IsStep-single}
use Rattle.search_base.specs.Steps.{falses-push}
use Rattle.search_base.specs.Refuting.{false_below}
use Rattle.search_state.specs.Growing.{IsTrail-push}
use Rattle.search_state.proofs.Looking.{Advances-none, Advances-push, Advances-rewatched, Rewatched-watched, Rewatched-cuts, Rewatched-flags, Rewatched-due, length-swap_remove, Look-assigned}
use Rattle.search_state.proofs.watches.Watches.look_on.Goals as goal
use Rattle.search_state.proofs.watches.Watches.look_on.Goals.{In-Some}

clause_below : (c : In-Some) → (lit : Lit) → Contains c.in-Some.lits.now lit → lit.variable < length c.args.placed.now.trail.slots.items
clause_below c lit stands =
    let known = known_before c.args.clauses.now c.args.entries.now in
    let n = length c.args.placed.now.trail.slots.items in
    let all = known_below n c.args.clauses.now c.args.entries.now c.requires.clauses_below c.requires.entries_below in
    All-contains (λ (l : Lit). l.variable < n) c.in-Some.lits.now lit (below_at n known c.args.index (record { lits = c.in-Some.lits.now }) all c.in-Some.ensures) stands

pub replacement-requires : goal.replacement-requires
replacement-requires c k d within =
    let lits = c.in-Some.lits.now in
    rw c.as_slice.ensures.value (clause_below (goal.at.replacement-requires c).In-Some (get_or lits k d) (Contains-get_or lits k d within))

pub rewatch-requires-clause-falsified_positive : goal.rewatch-requires-clause-falsified_positive
rewatch-requires-clause-falsified_positive c =
    let placed = c.args.placed.now in
    let known = known_before c.args.clauses.now c.args.entries.now in
    omega (arith, c.requires.watched.positive_len, false_below known placed.trail.slots.items placed.trail.steps.items c.args.falsified c.requires.trail.keeps c.requires.is_false)

pub rewatch-requires-clause-falsified_negative : goal.rewatch-requires-clause-falsified_negative
rewatch-requires-clause-falsified_negative c =
    let placed = c.args.placed.now in
    let known = known_before c.args.clauses.now c.args.entries.now in
    omega (arith, c.requires.watched.negative_len, false_below known placed.trail.slots.items placed.trail.steps.items c.args.falsified c.requires.trail.keeps c.requires.is_false)

pub rewatch-requires-clause-positive : goal.rewatch-requires-clause-positive
rewatch-requires-clause-positive c =
    omega (arith, c.requires.watched.positive_len, clause_below (goal.at.rewatch-requires-clause-positive c).In-Some c.in-Some-replacement.lit c.in-Some-replacement.ensures.found.0)

pub rewatch-requires-clause-negative : goal.rewatch-requires-clause-negative
rewatch-requires-clause-negative c =
    omega (arith, c.requires.watched.negative_len, clause_below (goal.at.rewatch-requires-clause-negative c).In-Some c.in-Some-replacement.lit c.in-Some-replacement.ensures.found.0)

pub rewatch-requires-clause-within : goal.rewatch-requires-clause-within
rewatch-requires-clause-within c =
    let at = c.requires.at in
    slice_get_within (watchers_of c.args.self.now c.args.falsified) c.args.place at.watcher at.at

pub rewatch-requires-clause-index : goal.rewatch-requires-clause-index
rewatch-requires-clause-index c =
    let at = c.requires.at in
    slice_get_within c.args.self.now.pairs.items c.args.index at.pair at.paired

pub rewatch-requires-clause-apart : goal.rewatch-requires-clause-apart
rewatch-requires-clause-apart c e =
    let falses = falses_of c.args.placed.now.trail.steps.items in
    let shows = subst (λ (s : List Slot). Shows s falses) (sym c.as_slice.ensures.value) c.requires.trail.keeps.shows in
    c.in-Some-replacement.ensures.found.2 falses shows (subst (Contains falses) (sym e) c.requires.is_false)

pub returns-in-Some-replacement : goal.returns-in-Some-replacement
returns-in-Some-replacement c =
    let known = known_before c.args.clauses.now c.args.entries.now in
    let placed = c.args.placed.now in
    let falses = falses_of placed.trail.steps.items in
    let old = c.args.self.now in
    let new = c.rewatch.new.self in
    let f = c.args.falsified in
    let found = c.in-Some-replacement.ensures.found in
    let shows = subst (λ (s : List Slot). Shows s falses) (sym c.as_slice.ensures.value) c.requires.trail.keeps.shows in
    let clause : Clause = record { lits = c.in-Some.lits.now } in
    let n = length placed.trail.slots.items in
    let at = c.requires.at in
    let it = c.in_ok-rewatch.ensures in
    let lit = c.in-Some-replacement.lit in
    let not_false = found.2 falses shows in (
      Advances-rewatched known placed old new c.requires.trail
          (Rewatched-watched n known old new falses f c.args.place c.args.index c.args.other lit clause c.requires.watched at c.in-Some.ensures it found.0 found.1 not_false c.requires.is_false)
          (Rewatched-cuts n known old new falses f c.args.place c.args.index c.args.other lit clause c.requires.watched at c.in-Some.ensures it found.0 found.1 not_false c.requires.is_false)
          (Rewatched-flags n known old new falses f c.args.place c.args.index c.args.other lit clause c.requires.watched at c.in-Some.ensures it found.0 found.1 not_false c.requires.is_false),
      λ before within due. Rewatched-due n known old new falses f c.args.place c.args.index c.args.other lit clause c.requires.watched at c.in-Some.ensures it found.0 found.1 not_false c.requires.is_false before within due,
      rw it.fewer (length-swap_remove (watchers_of old f) c.args.place it.last (slice_get_within (watchers_of old f) c.args.place at.watcher at.at)),
    )

pub is_false-requires : goal.is_false-requires
is_false-requires c =
    let placed = c.args.placed.now in
    let known = known_before c.args.clauses.now c.args.entries.now in
    let at = c.requires.at in
    let clause : Clause = record { lits = c.in-Some.lits.now } in
    let is = c.requires.watched.pairs c.args.index clause at.pair c.in-Some.ensures at.paired at.is.0 in
    let stands : Contains clause.lits c.args.other =
    elim at.is.1 [ inl e ↦ subst (Contains clause.lits) e.1 is.second_stands | inr e ↦ subst (Contains clause.lits) e.1 is.first_stands ] in
    rw c.as_slice-2.ensures.value (clause_below (goal.at.is_false-requires c).In-Some c.args.other stands)

pub returns-then-is_false : goal.returns-then-is_false
returns-then-is_false c =
    let known = known_before c.args.clauses.now c.args.entries.now in
    let placed = c.args.placed.now in
    let falses = falses_of placed.trail.steps.items in
    let lits = c.in-Some.lits.now in
    let shows = subst (λ (s : List Slot). Shows s falses) (sym c.as_slice.ensures.value) c.requires.trail.keeps.shows in
    let shows' = subst (λ (s : List Slot). Shows s falses) (sym c.as_slice-2.ensures.value) c.requires.trail.keeps.shows in
    let other_false : Contains falses c.args.other = (c.is_false.ensures falses shows').0 c.if-is_false.true in
    let all : All (Contains falses) lits =
    λ k d inside.
    elim (c.in_default-replacement.ensures.none falses shows (get_or lits k d) (Contains-get_or lits k d inside))
    [ inl same ↦ subst (Contains falses) (sym same) other_false | inr h ↦ h ] in (
      Advances-none known placed c.args.self.now c.requires.trail c.requires.watched,
      (record { lits = lits }, c.in-Some.ensures, all),
    )

pub assign-requires-clause-below : goal.assign-requires-clause-below
assign-requires-clause-below c =
    let variable : c.opposite.result.variable ≡ c.args.other.variable = ap (λ (l : Lit). l.variable) c.opposite.ensures in
    let at = c.requires.at in
    let clause : Clause = record { lits = c.in-Some.lits.now } in
    let is = c.requires.watched.pairs c.args.index clause at.pair c.in-Some.ensures at.paired at.is.0 in
    let stands : Contains clause.lits c.args.other =
    elim at.is.1 [ inl e ↦ subst (Contains clause.lits) e.1 is.second_stands | inr e ↦ subst (Contains clause.lits) e.1 is.first_stands ] in
    omega (arith, variable, clause_below (goal.at.assign-requires-clause-below c).In-Some c.args.other stands)

pub returns : goal.returns
returns c =
    let known = known_before c.args.clauses.now c.args.entries.now in
    let old = c.args.placed.now in
    let new = c.assign.new.self in
    let watches = c.args.self.now in
    let falses = falses_of old.trail.steps.items in
    let lits = c.in-Some.lits.now in
    let clause : Clause = record { lits = lits } in
    let other = c.args.other in
    let index = c.args.index in
    let shows = subst (λ (s : List Slot). Shows s falses) (sym c.as_slice.ensures.value) c.requires.trail.keeps.shows in
    let shows' = subst (λ (s : List Slot). Shows s falses) (sym c.as_slice-2.ensures.value) c.requires.trail.keeps.shows in
    let at = c.requires.at in
    let is = c.requires.watched.pairs index clause at.pair c.in-Some.ensures at.paired at.is.0 in
    let stands : Contains lits other =
    elim at.is.1 [ inl e ↦ subst (Contains lits) e.1 is.second_stands | inr e ↦ subst (Contains lits) e.1 is.first_stands ] in
    let unit : IsUnit falses lits other =
    record {
      stands = stands;
      without_value =
          record {
            not_false = λ h. absurd (false≢true (sym c.if-is_false.false ∙ (c.is_false.ensures falses shows').1 h));
            not_true = c.requires.not_true;
          };
      others = λ k d inside. c.in_default-replacement.ensures.none falses shows (get_or lits k d) (Contains-get_or lits k d inside);
    } in
    let below = clause_below (goal.at.returns c).In-Some other stands in
    let step : Step = record { falsified = c.opposite.result; reason = Some index } in
    let is_step : IsStep (length old.trail.slots.items) known falses step =
    subst (λ (f : Lit). IsStep (length old.trail.slots.items) known falses (record { falsified = f; reason = Some index })) (sym c.opposite.ensures)
    (IsStep-single (length old.trail.slots.items) known falses clause other index below c.in-Some.ensures unit) in
    let made = c.in_ok-assign.ensures in
    let trail : IsTrail known new = IsTrail-push known old new step c.requires.trail is_step made.slots made.steps made.places in
    let len : length new.trail.slots.items ≡ length old.trail.slots.items = ap (λ (s : List Slot). length s) made.slots ∙ length-set old.trail.slots.items step.falsified.variable (record { assigned = true; positive = step.falsified.positive }) in
    let advances : Advances known old new watches watches = Advances-push known old new watches step trail c.requires.watched refl len made.steps in
    let now : Contains (falses_of new.trail.steps.items) (opposite_of other) =
    subst (λ (s : List Step). Contains (falses_of s) (opposite_of other)) (sym made.steps)
    (rw (falses-push old.trail.steps.items step, c.opposite.ensures) (Contains-push falses (opposite_of other))) in (
      advances,
      λ before within due. Look-assigned known old new watches before c.args.falsified other c.args.place at.watcher clause advances at.at (subst (λ (n : ℕ). slice_get known n ≡ Some clause) (sym at.same) c.in-Some.ensures) stands now due,
      refl,
    )
