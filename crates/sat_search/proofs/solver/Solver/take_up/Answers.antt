use Rattle.std.proofs.Common.{◌≡◌, ◌∙◌, ℕ, ◌<◌, false, List, Some, length, arith, refl, sym, ap, subst, inl, inr}
use Rattle.std.specs.List.{All, slice_get, Contains}
use Rattle.std.proofs.lemmas.Option.{slice_get_within}
use Rattle.sat_check.specs.declared.clause.Lit.{Lit}
use Rattle.sat_check.specs.declared.clause.Clause.{Clause}
use Rattle.sat_check.specs.declared.log.Entry.{Entry}
use Rattle.sat_check.specs.Clauses.{AreBelow}
use Rattle.sat_check.specs.Logs.{known_before, IsUnit}
use Rattle.sat_check.specs.Laws.{known_below, below_at}
use Rattle.search_base.specs.declared.trail.Slot.{Slot}
use Rattle.search_base.specs.declared.trail.Step.{Step}
use Rattle.search_state.specs.declared.watches.Pair.{Pair}
use Rattle.search_state.specs.declared.watches.Watches.{Watches}
use Rattle.sat_search.specs.declared.solver.Solver.{Solver}
use Rattle.search_base.specs.Trails.{Shows, falses_of}
use Rattle.search_state.specs.Watches.{IsPut}
use Rattle.search_state.specs.Beginning.{AreOpen}
use Rattle.sat_search.proofs.Retaking.{IsRetaken, Retaken, Cleared-taken, Asserted-taken}
use Rattle.sat_search.proofs.solver.Solver.take_up.Goals as goal

pub standing_of-requires : goal.standing_of-requires
standing_of-requires c =
    let clauses = c.args.clauses.now in
    let old = c.args.self.now in
    let n = length old.placed.trail.slots.items in
    let undone = c.in_ok-undo.ensures in
    let known = known_before clauses old.entries in
    let clause : Clause = record { lits = c.in-Some.lits.now } in
    let named : slice_get known c.args.number ≡ Some clause = subst (λ (es : List Entry). slice_get (known_before clauses es) c.args.number ≡ Some clause) (c.as_slice.ensures ∙ undone.entries) c.in-Some.ensures in
    let below : AreBelow n clause.lits = below_at n known c.args.number clause (known_below n clauses old.entries c.requires.below c.requires.state.state.entries_are.below) named in
    let len : length c.as_slice-2.result.now ≡ n = ap (λ (s : List Slot). length s) c.as_slice-2.ensures.value ∙ undone.len in
    subst (λ (m : ℕ). AreBelow m clause.lits) (sym len) below

within : (watches watches' : Watches) (number : ℕ) (pair : Pair) → watches' ≡ watches → slice_get watches.pairs.items number ≡ Some pair → number < length watches'.pairs.items
within watches watches' number pair same at = omega (arith, slice_get_within watches.pairs.items number pair at, ap (λ (w : Watches). length w.pairs.items) same)

pub rest-requires : goal.rest-requires
rest-requires c = within c.args.self.now.watches c.undo.new.self.watches c.args.number c.requires.aside.0 c.in_ok-undo.ensures.watches c.requires.aside.1

pub rest-requires-in-Single : goal.rest-requires-in-Single
rest-requires-in-Single c = within c.args.self.now.watches c.undo.new.self.watches c.args.number c.requires.aside.0 c.in_ok-undo.ensures.watches c.requires.aside.1

pub rest-requires-in-True : goal.rest-requires-in-True
rest-requires-in-True c = within c.args.self.now.watches c.undo.new.self.watches c.args.number c.requires.aside.0 c.in_ok-undo.ensures.watches c.requires.aside.1

pub put-requires-clause-index : goal.put-requires-clause-index
put-requires-clause-index c = within c.args.self.now.watches c.undo.new.self.watches c.args.number c.requires.aside.0 c.in_ok-undo.ensures.watches c.requires.aside.1

pub assign-requires-clause-places : goal.assign-requires-clause-places
assign-requires-clause-places c =
    let old = c.args.self.now in
    (c.in_ok-undo.ensures.trail (known_before c.args.clauses.now old.entries) c.requires.state.state.trail).places_len

pub returns-in-AllFalse : goal.returns-in-AllFalse
returns-in-AllFalse c =
    let clauses = c.args.clauses.now in
    let old = c.args.self.now in
    let mid = c.undo.new.self in
    let number = c.args.number in
    let undone = c.in_ok-undo.ensures in
    let known = known_before clauses old.entries in
    let F = falses_of mid.placed.trail.steps.items in
    let clause : Clause = record { lits = c.in-Some.lits.now } in
    let none : Lit = record { variable = 0; positive = false } in
    let pair : Pair = record { first = none; second = none; aside = false } in
    let new : Solver =
    record { placed = mid.placed; levels = c.truncate.new.self; watches = c.rest.new.self; entries = mid.entries; shelf = mid.shelf; analysis = mid.analysis; order = mid.order; restarts = mid.restarts; stock = c.add.new.self } in
    let named : slice_get known number ≡ Some clause = subst (λ (es : List Entry). slice_get (known_before clauses es) number ≡ Some clause) (c.as_slice.ensures ∙ undone.entries) c.in-Some.ensures in
    let trail = undone.trail known c.requires.state.state.trail in
    let put : IsPut old.watches new.watches number pair = subst (λ (w : Watches). IsPut w new.watches number pair) undone.watches c.rest.ensures in
    let it : IsRetaken clauses old new number clause pair =
    Retaken clauses old new c.args.base number clause pair c.requires.state c.requires.base named c.requires.aside refl (λ apart. absurd (apart refl)) trail undone.len undone.steps
    c.truncate.ensures.items put undone.entries undone.shelf undone.analysis in
    let shows = subst (λ (s : List Slot). Shows s F) (sym c.as_slice-2.ensures.value) trail.keeps.shows in
    let all : All (Contains F) clause.lits = c.in-AllFalse.ensures.standing F shows in
    (it.taken, (clause, it.named, all))

pub returns-in_ok-assign-in-Single : goal.returns-in_ok-assign-in-Single
returns-in_ok-assign-in-Single c =
    let clauses = c.args.clauses.now in
    let old = c.args.self.now in
    let mid = c.undo.new.self in
    let number = c.args.number in
    let undone = c.in_ok-undo.ensures in
    let known = known_before clauses old.entries in
    let F = falses_of mid.placed.trail.steps.items in
    let clause : Clause = record { lits = c.in-Some.lits.now } in
    let lit = c.in-Single.lit in
    let pair : Pair = record { first = lit; second = lit; aside = false } in
    let between : Solver =
    record {
      placed = mid.placed;
      levels = c.truncate.new.self;
      watches = c.rest-in-Single.new.self;
      entries = mid.entries;
      shelf = mid.shelf;
      analysis = mid.analysis;
      order = mid.order;
      restarts = mid.restarts;
      stock = c.add.new.self;
    } in
    let new : Solver =
    record {
      placed = c.assign.new.self;
      levels = c.truncate.new.self;
      watches = c.rest-in-Single.new.self;
      entries = mid.entries;
      shelf = mid.shelf;
      analysis = mid.analysis;
      order = mid.order;
      restarts = mid.restarts;
      stock = c.add.new.self;
    } in
    let named : slice_get known number ≡ Some clause = subst (λ (es : List Entry). slice_get (known_before clauses es) number ≡ Some clause) (c.as_slice.ensures ∙ undone.entries) c.in-Some.ensures in
    let trail = undone.trail known c.requires.state.state.trail in
    let put : IsPut old.watches between.watches number pair = subst (λ (w : Watches). IsPut w between.watches number pair) undone.watches c.rest-in-Single.ensures in
    let it : IsRetaken clauses old between number clause pair =
    Retaken clauses old between c.args.base number clause pair c.requires.state c.requires.base named c.requires.aside refl (λ apart. absurd (apart refl)) trail undone.len undone.steps
    c.truncate.ensures.items put undone.entries undone.shelf undone.analysis in
    let shows = subst (λ (s : List Slot). Shows s F) (sym c.as_slice-2.ensures.value) trail.keeps.shows in
    let unit : IsUnit F clause.lits lit = c.in-Single.ensures.standing F shows in
    let below : lit.variable < length mid.placed.trail.slots.items = rw c.as_slice-2.ensures.value at c.in-Single.ensures.below in
    let step : Step = record { falsified = c.opposite.result; reason = Some number } in
    let made = c.in_ok-assign-in-Single.ensures in
    Asserted-taken clauses old between new number clause pair lit step it unit below c.opposite.ensures refl refl refl refl refl refl made.slots made.steps made.places

pub returns-in-True : goal.returns-in-True
returns-in-True c =
    let clauses = c.args.clauses.now in
    let old = c.args.self.now in
    let mid = c.undo.new.self in
    let number = c.args.number in
    let undone = c.in_ok-undo.ensures in
    let known = known_before clauses old.entries in
    let F = falses_of mid.placed.trail.steps.items in
    let clause : Clause = record { lits = c.in-Some.lits.now } in
    let lit = c.in-True.lit in
    let pair : Pair = record { first = lit; second = lit; aside = false } in
    let new : Solver =
    record {
      placed = mid.placed;
      levels = c.truncate.new.self;
      watches = c.rest-in-True.new.self;
      entries = mid.entries;
      shelf = mid.shelf;
      analysis = mid.analysis;
      order = mid.order;
      restarts = mid.restarts;
      stock = c.add.new.self;
    } in
    let named : slice_get known number ≡ Some clause = subst (λ (es : List Entry). slice_get (known_before clauses es) number ≡ Some clause) (c.as_slice.ensures ∙ undone.entries) c.in-Some.ensures in
    let trail = undone.trail known c.requires.state.state.trail in
    let put : IsPut old.watches new.watches number pair = subst (λ (w : Watches). IsPut w new.watches number pair) undone.watches c.rest-in-True.ensures in
    let it : IsRetaken clauses old new number clause pair =
    Retaken clauses old new c.args.base number clause pair c.requires.state c.requires.base named c.requires.aside refl (λ apart. absurd (apart refl)) trail undone.len undone.steps
    c.truncate.ensures.items put undone.entries undone.shelf undone.analysis in
    let shows = subst (λ (s : List Slot). Shows s F) (sym c.as_slice-2.ensures.value) trail.keeps.shows in
    let is = c.in-True.ensures.standing F shows in
    (it.taken, Cleared-taken clauses old new number clause pair it (inl (lit, is.0, is.1)))

pub returns-in_ok-put-in-Open : goal.returns-in_ok-put-in-Open
returns-in_ok-put-in-Open c =
    let clauses = c.args.clauses.now in
    let old = c.args.self.now in
    let mid = c.undo.new.self in
    let number = c.args.number in
    let undone = c.in_ok-undo.ensures in
    let known = known_before clauses old.entries in
    let F = falses_of mid.placed.trail.steps.items in
    let clause : Clause = record { lits = c.in-Some.lits.now } in
    let first = c.in-Open.first in
    let second = c.in-Open.second in
    let pair : Pair = record { first = first; second = second; aside = false } in
    let new : Solver =
    record { placed = mid.placed; levels = c.truncate.new.self; watches = c.put.new.self; entries = mid.entries; shelf = mid.shelf; analysis = mid.analysis; order = mid.order; restarts = mid.restarts; stock = c.add.new.self } in
    let named : slice_get known number ≡ Some clause = subst (λ (es : List Entry). slice_get (known_before clauses es) number ≡ Some clause) (c.as_slice.ensures ∙ undone.entries) c.in-Some.ensures in
    let trail = undone.trail known c.requires.state.state.trail in
    let shows = subst (λ (s : List Slot). Shows s F) (sym c.as_slice-2.ensures.value) trail.keeps.shows in
    let is : AreOpen F clause.lits first second = c.in-Open.ensures.standing F shows in
    let put : IsPut old.watches new.watches number pair = subst (λ (w : Watches). IsPut w new.watches number pair) undone.watches c.in_ok-put-in-Open.ensures in
    let it : IsRetaken clauses old new number clause pair =
    Retaken clauses old new c.args.base number clause pair c.requires.state c.requires.base named c.requires.aside refl (λ _. (is.first_stands, is.second_stands)) trail undone.len undone.steps
    c.truncate.ensures.items put undone.entries undone.shelf undone.analysis in
    (it.taken, Cleared-taken clauses old new number clause pair it (inr (record { first = is.first_free; second = is.second_free; apart = is.apart })))
