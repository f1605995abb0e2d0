use Rattle.std.proofs.Common.{◌≡◌, ◌∙◌, ℕ, ◌+◌, ◌<◌, false, List, Some, None, length, get_or, arith, refl, sym, ap, subst, inl, inr}
use Rattle.std.specs.List.{Contains, slice_get}
use Rattle.std.proofs.lemmas.Bool.{false≢true}
use Rattle.std.proofs.lemmas.Option.{same_Some, slice_get_within, slice_get-get_or}
use Rattle.std.proofs.lemmas.List.{length-set}
use Rattle.std.proofs.lemmas.List.Elements.{All-contains}
use Rattle.sat_check.specs.declared.clause.Lit.{Lit}
use Rattle.sat_check.specs.declared.clause.Clause.{Clause}
use Rattle.sat_check.specs.declared.log.Entry.{Entry}
use Rattle.sat_check.specs.Clauses.{opposite_of, ClausesAreBelow}
use Rattle.sat_check.specs.Logs.{known_before, EntriesAreBelow}
use Rattle.sat_check.specs.Literals.{Contains-at}
use Rattle.sat_check.specs.Laws.{known_below, below_at}
use Rattle.search_base.specs.declared.trail.Slot.{Slot}
use Rattle.search_state.specs.declared.watches.Watcher.{Watcher}
use Rattle.search_state.specs.declared.watches.Pair.{Pair}
use Rattle.search_state.specs.declared.watches.Watches.{Watches}
use Rattle.search_base.specs.Trails.{Shows, falses_of}
use Rattle.search_state.specs.Watches.{AllGuarded, flags_of, IsWatcher, watchers_of}
use Rattle.search_state.specs.Looks.{OtherIs}
use Rattle.search_base.specs.Refuting.{false_below}
use Rattle.search_state.proofs.Looking.{Advances-none, Advances-rewatched, Look-true, Leaves-watched, Leaves-due, length-swap_remove}
use Rattle.search_state.proofs.Blocking.{Blocked-watched, Blocked-due}
use Rattle.search_state.proofs.watches.Watches.look.Goals as goal

at_place : (watches : Watches) (f : Lit) (place : ℕ) (list : List Watcher) (d : Watcher) → list ≡ watchers_of watches f → place < length (watchers_of watches f) → slice_get (watchers_of watches f) place ≡ Some (get_or list place d)
at_place watches f place list d is within = subst (λ (l : List Watcher). slice_get (watchers_of watches f) place ≡ Some (get_or l place d)) (sym is) (slice_get-get_or (watchers_of watches f) place d within)

stands_below :
    (n : ℕ) (clauses : List Clause) (entries : List Entry) (index : ℕ) (clause : Clause) (lit : Lit) → ClausesAreBelow n clauses → EntriesAreBelow n entries → slice_get (known_before clauses entries) index ≡ Some clause
    → Contains clause.lits lit → lit.variable < n
stands_below n clauses entries index clause lit below entries_below named stands =
    All-contains (λ (l : Lit). l.variable < n) clause.lits lit (below_at n (known_before clauses entries) index clause (known_below n clauses entries below entries_below) named) stands

pub of-requires-clause-positive : goal.of-requires-clause-positive
of-requires-clause-positive c =
    let placed = c.args.placed.now in
    let known = known_before c.args.clauses.now c.args.entries.now in
    omega (arith, c.requires.watched.positive_len, false_below known placed.trail.slots.items placed.trail.steps.items c.args.falsified c.requires.trail.keeps c.requires.is_false)

pub of-requires-clause-negative : goal.of-requires-clause-negative
of-requires-clause-negative c =
    let placed = c.args.placed.now in
    let known = known_before c.args.clauses.now c.args.entries.now in
    omega (arith, c.requires.watched.negative_len, false_below known placed.trail.slots.items placed.trail.steps.items c.args.falsified c.requires.trail.keeps c.requires.is_false)

pub is_true-requires : goal.is_true-requires
is_true-requires c =
    let watches = c.args.self.now in
    let f = c.args.falsified in
    let d : Watcher = record { index = 0; blocker = record { variable = 0; positive = false } } in
    let watcher = get_or c.of.result.now c.args.place d in
    let at : slice_get (watchers_of watches f) c.args.place ≡ Some watcher = at_place watches f c.args.place c.of.result.now d c.of.ensures c.requires.within in
    let is : IsWatcher (known_before c.args.clauses.now c.args.entries.now) watcher = c.requires.watched.watchers f watcher (Contains-at (watchers_of watches f) c.args.place watcher at) in
    let below = stands_below (length c.args.placed.now.trail.slots.items) c.args.clauses.now c.args.entries.now watcher.index is.clause watcher.blocker c.requires.clauses_below c.requires.entries_below is.named is.stands in
    rw c.as_slice.ensures.value below

pub returns-then-is_true : goal.returns-then-is_true
returns-then-is_true c =
    let known = known_before c.args.clauses.now c.args.entries.now in
    let placed = c.args.placed.now in
    let falses = falses_of placed.trail.steps.items in
    let watches = c.args.self.now in
    let f = c.args.falsified in
    let d : Watcher = record { index = 0; blocker = record { variable = 0; positive = false } } in
    let watcher = get_or c.of.result.now c.args.place d in
    let at : slice_get (watchers_of watches f) c.args.place ≡ Some watcher = at_place watches f c.args.place c.of.result.now d c.of.ensures c.requires.within in
    let is : IsWatcher known watcher = c.requires.watched.watchers f watcher (Contains-at (watchers_of watches f) c.args.place watcher at) in
    let shows = subst (λ (s : List Slot). Shows s falses) (sym c.as_slice.ensures.value) c.requires.trail.keeps.shows in
    let now : Contains falses (opposite_of watcher.blocker) = (c.is_true.ensures falses shows).0 c.if-is_true.true in (
      Advances-none known placed watches c.requires.trail c.requires.watched,
      λ before within due. Look-true known watches falses before f c.args.place watcher is.clause at is.named (watcher.blocker, is.stands, now) due,
      refl,
    )

pub index-pair-requires : goal.index-pair-requires
index-pair-requires c =
    let watches = c.args.self.now in
    let known = known_before c.args.clauses.now c.args.entries.now in
    let f = c.args.falsified in
    let d : Watcher = record { index = 0; blocker = record { variable = 0; positive = false } } in
    let watcher = get_or c.of.result.now c.args.place d in
    let at : slice_get (watchers_of watches f) c.args.place ≡ Some watcher = at_place watches f c.args.place c.of.result.now d c.of.ensures c.requires.within in
    let is : IsWatcher known watcher = c.requires.watched.watchers f watcher (Contains-at (watchers_of watches f) c.args.place watcher at) in
    omega (arith, slice_get_within known watcher.index is.clause is.named, c.requires.watched.pairs_len, watches.pairs.ok.0)

pub remove-requires-clause-positive : goal.remove-requires-clause-positive
remove-requires-clause-positive c =
    let placed = c.args.placed.now in
    let known = known_before c.args.clauses.now c.args.entries.now in
    omega (arith, c.requires.watched.positive_len, false_below known placed.trail.slots.items placed.trail.steps.items c.args.falsified c.requires.trail.keeps c.requires.is_false)

pub remove-requires-clause-negative : goal.remove-requires-clause-negative
remove-requires-clause-negative c =
    let placed = c.args.placed.now in
    let known = known_before c.args.clauses.now c.args.entries.now in
    omega (arith, c.requires.watched.negative_len, false_below known placed.trail.slots.items placed.trail.steps.items c.args.falsified c.requires.trail.keeps c.requires.is_false)

pub returns-in_default : goal.returns-in_default
returns-in_default c =
    let known = known_before c.args.clauses.now c.args.entries.now in
    let placed = c.args.placed.now in
    let falses = falses_of placed.trail.steps.items in
    let old = c.args.self.now in
    let new = c.remove.new.self in
    let f = c.args.falsified in
    let place = c.args.place in
    let d : Watcher = record { index = 0; blocker = record { variable = 0; positive = false } } in
    let watcher = get_or c.of.result.now place d in
    let at : slice_get (watchers_of old f) place ≡ Some watcher = at_place old f place c.of.result.now d c.of.ensures c.requires.within in
    let is : IsWatcher known watcher = c.requires.watched.watchers f watcher (Contains-at (watchers_of old f) place watcher at) in
    let pair = c.index-pair.result.now in
    let inside : watcher.index < length old.pairs.items = omega (arith, slice_get_within known watcher.index is.clause is.named, c.requires.watched.pairs_len) in
    let paired : slice_get old.pairs.items watcher.index ≡ Some pair = slice_get-get_or old.pairs.items watcher.index pair inside ∙ ap (λ (p : Pair). Some p) (sym c.index-pair.ensures) in
    let other : OtherIs pair f None = rw c.in_default.is at c.other_of.ensures in
    let last = c.remove.ensures.0 in
    let written = c.remove.ensures.1 in (
      Advances-rewatched known placed old new c.requires.trail
          (Leaves-watched (length placed.trail.slots.items) known old new f place watcher last pair c.requires.watched at paired other written)
          (λ cut among all. subst (λ (ps : List Pair). AllGuarded known ps cut cut) (sym written.pairs) all)
          (ap (λ (ps : List Pair). flags_of ps) written.pairs),
      λ before within due. Leaves-due known old new falses before f place watcher last pair at paired other written due,
      rw written.at (length-swap_remove (watchers_of old f) place last c.requires.within),
    )

pub is_true-requires-2 : goal.is_true-requires-2
is_true-requires-2 c =
    let known = known_before c.args.clauses.now c.args.entries.now in
    let placed = c.args.placed.now in
    let old = c.args.self.now in
    let f = c.args.falsified in
    let place = c.args.place in
    let d : Watcher = record { index = 0; blocker = record { variable = 0; positive = false } } in
    let watcher = get_or c.of.result.now place d in
    let at : slice_get (watchers_of old f) place ≡ Some watcher = at_place old f place c.of.result.now d c.of.ensures c.requires.within in
    let is : IsWatcher known watcher = c.requires.watched.watchers f watcher (Contains-at (watchers_of old f) place watcher at) in
    let pair = c.index-pair.result.now in
    let inside : watcher.index < length old.pairs.items = omega (arith, slice_get_within known watcher.index is.clause is.named, c.requires.watched.pairs_len) in
    let paired : slice_get old.pairs.items watcher.index ≡ Some pair = slice_get-get_or old.pairs.items watcher.index pair inside ∙ ap (λ (p : Pair). Some p) (sym c.index-pair.ensures) in
    let other : OtherIs pair f (Some c.in-Some.other) = c.in-Some.ensures in
    let own = c.requires.watched.pairs watcher.index is.clause pair is.named paired other.0 in
    let stands : Contains is.clause.lits c.in-Some.other =
    elim other.1 [ inl e ↦ subst (Contains is.clause.lits) e.1 own.second_stands | inr e ↦ subst (Contains is.clause.lits) e.1 own.first_stands ] in
    let below = stands_below (length placed.trail.slots.items) c.args.clauses.now c.args.entries.now watcher.index is.clause c.in-Some.other c.requires.clauses_below c.requires.entries_below is.named stands in
    rw c.as_slice-2.ensures.value below

pub returns-then-is_true-2 : goal.returns-then-is_true-2
returns-then-is_true-2 c =
    let known = known_before c.args.clauses.now c.args.entries.now in
    let placed = c.args.placed.now in
    let falses = falses_of placed.trail.steps.items in
    let old = c.args.self.now in
    let f = c.args.falsified in
    let place = c.args.place in
    let d : Watcher = record { index = 0; blocker = record { variable = 0; positive = false } } in
    let watcher = get_or c.of.result.now place d in
    let at : slice_get (watchers_of old f) place ≡ Some watcher = at_place old f place c.of.result.now d c.of.ensures c.requires.within in
    let is : IsWatcher known watcher = c.requires.watched.watchers f watcher (Contains-at (watchers_of old f) place watcher at) in
    let pair = c.index-pair.result.now in
    let inside : watcher.index < length old.pairs.items = omega (arith, slice_get_within known watcher.index is.clause is.named, c.requires.watched.pairs_len) in
    let paired : slice_get old.pairs.items watcher.index ≡ Some pair = slice_get-get_or old.pairs.items watcher.index pair inside ∙ ap (λ (p : Pair). Some p) (sym c.index-pair.ensures) in
    let other : OtherIs pair f (Some c.in-Some.other) = c.in-Some.ensures in
    let own = c.requires.watched.pairs watcher.index is.clause pair is.named paired other.0 in
    let stands : Contains is.clause.lits c.in-Some.other =
    elim other.1 [ inl e ↦ subst (Contains is.clause.lits) e.1 own.second_stands | inr e ↦ subst (Contains is.clause.lits) e.1 own.first_stands ] in
    let shows = subst (λ (s : List Slot). Shows s falses) (sym c.as_slice-2.ensures.value) c.requires.trail.keeps.shows in
    let now : Contains falses (opposite_of c.in-Some.other) = (c.is_true-2.ensures falses shows).0 c.if-is_true-2.true in
    let new = c.block.new.self in
    let blocked = c.block.ensures.0 in
    let at' : slice_get (watchers_of old f) place ≡ Some blocked = c.block.ensures.1 in
    let written = c.block.ensures.2 in
    let same : watcher ≡ blocked = same_Some watcher blocked (sym at ∙ at') in
    let named : slice_get known blocked.index ≡ Some is.clause = subst (λ (w : Watcher). slice_get known w.index ≡ Some is.clause) same is.named in (
      Advances-rewatched known placed old new c.requires.trail
          (Blocked-watched known old new f place blocked c.in-Some.other at' written (length placed.trail.slots.items) is.clause named stands c.requires.watched)
          (λ cut among all. subst (λ (ps : List Pair). AllGuarded known ps cut cut) (sym written.pairs) all)
          (ap (λ (ps : List Pair). flags_of ps) written.pairs),
      λ before within due. Blocked-due known old new f place blocked c.in-Some.other at' written falses before (place + 1)
          (Look-true known old falses before f place watcher is.clause at is.named (c.in-Some.other, stands, now) due),
      ap (λ (l : List Watcher). length l) written.at ∙ length-set (watchers_of old f) place (record { index = blocked.index; blocker = c.in-Some.other }),
    )

pub block-requires-clause-positive : goal.block-requires-clause-positive
block-requires-clause-positive c =
    let placed = c.args.placed.now in
    let known = known_before c.args.clauses.now c.args.entries.now in
    omega (arith, c.requires.watched.positive_len, false_below known placed.trail.slots.items placed.trail.steps.items c.args.falsified c.requires.trail.keeps c.requires.is_false)

pub block-requires-clause-negative : goal.block-requires-clause-negative
block-requires-clause-negative c =
    let placed = c.args.placed.now in
    let known = known_before c.args.clauses.now c.args.entries.now in
    omega (arith, c.requires.watched.negative_len, false_below known placed.trail.slots.items placed.trail.steps.items c.args.falsified c.requires.trail.keeps c.requires.is_false)

pub look_on-requires-clause-at : goal.look_on-requires-clause-at
look_on-requires-clause-at c =
    let known = known_before c.args.clauses.now c.args.entries.now in
    let old = c.args.self.now in
    let f = c.args.falsified in
    let place = c.args.place in
    let d : Watcher = record { index = 0; blocker = record { variable = 0; positive = false } } in
    let watcher = get_or c.of.result.now place d in
    let at : slice_get (watchers_of old f) place ≡ Some watcher = at_place old f place c.of.result.now d c.of.ensures c.requires.within in
    let is : IsWatcher known watcher = c.requires.watched.watchers f watcher (Contains-at (watchers_of old f) place watcher at) in
    let pair = c.index-pair.result.now in
    let inside : watcher.index < length old.pairs.items = omega (arith, slice_get_within known watcher.index is.clause is.named, c.requires.watched.pairs_len) in
    let paired : slice_get old.pairs.items watcher.index ≡ Some pair = slice_get-get_or old.pairs.items watcher.index pair inside ∙ ap (λ (p : Pair). Some p) (sym c.index-pair.ensures) in
    record { watcher = watcher; at = at; same = refl; pair = pair; paired = paired; is = c.in-Some.ensures }

pub look_on-requires-clause-not_true : goal.look_on-requires-clause-not_true
look_on-requires-clause-not_true c h =
    let falses = falses_of c.args.placed.now.trail.steps.items in
    let shows = subst (λ (s : List Slot). Shows s falses) (sym c.as_slice-2.ensures.value) c.requires.trail.keeps.shows in
    absurd (false≢true (sym c.if-is_true-2.false ∙ (c.is_true-2.ensures falses shows).1 h))
