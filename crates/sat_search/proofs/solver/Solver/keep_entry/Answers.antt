use Rattle.std.proofs.Common.{◌∙◌, ℕ, ◌+◌, ◌-◌, ◌<◌, List, [], ◌∷◌, ◌++◌, false, length, take, arith, sym, ap, subst, inl, inr}
use Rattle.std.proofs.lemmas.Bool.{cases_order}
use Rattle.sat_check.specs.declared.clause.Lit.{Lit}
use Rattle.sat_check.specs.declared.log.Entry.{Entry}
use Rattle.sat_check.specs.Logs.{known_before}
use Rattle.search_state.specs.declared.watches.Watches.{Watches}
use Rattle.search_state.specs.Watches.{WatchesMore}
use Rattle.sat_search.proofs.Moves.{asserting_below}
use Rattle.sat_search.proofs.Keeping.{Kept}
use Rattle.sat_search.proofs.solver.Solver.keep_entry.Goals as goal
use Rattle.sat_search.proofs.solver.Solver.keep_entry.Goals.{After-second_of-second}

first_below : (c : After-second_of-second) → c.args.asserting.variable < length c.args.self.now.placed.trail.slots.items
first_below c =
    let own = c.args.self.now in
    let state = c.requires.state.state in
    asserting_below (known_before c.args.clauses.now own.entries) own.placed.trail.slots.items own.placed.trail.steps.items c.args.start c.args.entry c.args.asserting c.args.keep
    state.trail.keeps c.requires.learns

second_below : (c : After-second_of-second) → c.second_of-second.result.variable < length c.args.self.now.placed.trail.slots.items
second_below c =
    let own = c.args.self.now in
    let n = length own.placed.trail.slots.items in
    let state = c.requires.state.state in
    elim (cases_order c.args.keep 0) [
      | inl zero' ↦ subst (λ (l : Lit). l.variable < n) (sym (c.second_of-second.ensures.none zero')) (first_below c)
      | inr other ↦
          let positive : 0 < c.args.keep = elim other [ inl less ↦ absurd (omega (arith, less)) | inr it ↦ it ] in
          let a = c.second_of-second.ensures.some positive in
          subst (λ (l : Lit). l.variable < n) a.2 (state.trail.keeps.each (c.args.keep - 1) a.0 a.1).below
    ]

pub watch-requires-clause-first_positive : goal.watch-requires-clause-first_positive
watch-requires-clause-first_positive c =
    let below = first_below (goal.at.watch-requires-clause-first_positive c).After-second_of-second in
    omega (arith, below, c.requires.state.state.watched.positive_len, ap (λ (w : Watches). length w.positive.items) c.in_ok-undo.ensures.watches)

pub watch-requires-clause-first_negative : goal.watch-requires-clause-first_negative
watch-requires-clause-first_negative c =
    let below = first_below (goal.at.watch-requires-clause-first_negative c).After-second_of-second in
    omega (arith, below, c.requires.state.state.watched.negative_len, ap (λ (w : Watches). length w.negative.items) c.in_ok-undo.ensures.watches)

pub watch-requires-clause-second_positive : goal.watch-requires-clause-second_positive
watch-requires-clause-second_positive c =
    let below = second_below (goal.at.watch-requires-clause-second_positive c).After-second_of-second in
    omega (arith, below, c.requires.state.state.watched.positive_len, ap (λ (w : Watches). length w.positive.items) c.in_ok-undo.ensures.watches)

pub watch-requires-clause-second_negative : goal.watch-requires-clause-second_negative
watch-requires-clause-second_negative c =
    let below = second_below (goal.at.watch-requires-clause-second_negative c).After-second_of-second in
    omega (arith, below, c.requires.state.state.watched.negative_len, ap (λ (w : Watches). length w.negative.items) c.in_ok-undo.ensures.watches)

pub returns : goal.returns
returns c =
    let old = c.args.self.now in
    let mid = c.undo.new.self in
    let undone = c.in_ok-undo.ensures in
    let known = known_before c.args.clauses.now old.entries in
    let second = c.second_of-second.result in
    let watches : WatchesMore old.watches c.watch.new.self c.in_ok-index.index (record { first = c.args.asserting; second = second; aside = false }) =
    subst (λ (w : Watches). WatchesMore w c.watch.new.self c.in_ok-index.index (record { first = c.args.asserting; second = second; aside = false })) undone.watches c.in_ok-watch.ensures in
    Kept c.args.clauses.now old
    (record { placed = mid.placed; levels = c.truncate.new.self; watches = c.watch.new.self; entries = c.push.new.self; shelf = mid.shelf; analysis = mid.analysis; order = mid.order; restarts = mid.restarts; stock = c.add.new.self })
    c.args.entry c.args.asserting second c.args.start c.args.keep c.args.level c.args.place c.in_ok-index.index c.requires.state c.requires.start c.requires.learns c.requires.new c.requires.level c.requires.earlier
    c.second_of-second.ensures.some c.second_of-second.ensures.none (undone.trail known c.requires.state.state.trail) undone.len undone.steps
    (c.truncate.ensures.items ∙ ap (λ v. take c.args.level v.items) undone.levels) watches
    (c.in_ok-index.ensures ∙ ap (λ (m : ℕ). length c.args.clauses.now + m) (c.len.ensures ∙ ap (λ (es : List Entry). length es) undone.entries))
    (c.in_ok-push.ensures.ok ∙ ap (λ (es : List Entry). es ++ c.args.entry ∷ []) undone.entries) undone.shelf undone.analysis
