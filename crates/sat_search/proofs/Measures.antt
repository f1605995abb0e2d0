-- What is left to do gets less.
use Rattle.std.proofs.Common.{◌≡◌, ◌∙◌, ℕ, ◌+◌, ◌-◌, ◌*◌, ◌<◌, ◌≤◌, Bool, true, false, List, [], ◌∷◌, Option, length, if◌then◌else◌, arith, ap, inl, inr}
use Rattle.std.proofs.Math.Nat.{mul-le-mul_right}
use Rattle.std.proofs.lemmas.List.{length-map}
use Rattle.std.proofs.lemmas.List.Sums.{sum_by-cons}
use Rattle.sat_check.specs.declared.clause.Clause.{Clause}
use Rattle.sat_check.specs.declared.log.Entry.{Entry}
use Rattle.sat_check.specs.Logs.{known_before}
use Rattle.search_state.specs.declared.watches.Pair.{Pair}
use Rattle.sat_search.specs.declared.solver.Solver.{Solver}
use Rattle.search_state.specs.Watches.{flags_of, count_true}
use Rattle.search_state.specs.States.{Answers}
use Rattle.sat_search.specs.Turns.{Holds, asides_of, IsNearer, IsLearned, left_of, GoesOn}
use Rattle.search_base.specs.Entries.{length-known}

count_of : Bool → ℕ
count_of flag = if flag then 1 else 0

pub count_true-le : (flags : List Bool) → count_true flags ≤ length flags
count_true-le [] = omega arith
count_true-le (true ∷ flags) = omega (arith, sum_by-cons (λ flag. if flag then 1 else 0) true flags, count_true-le flags)
count_true-le (false ∷ flags) = omega (arith, sum_by-cons (λ flag. if flag then 1 else 0) false flags, count_true-le flags)

-- no more was set aside than is known
pub asides_within : (clauses : List Clause) (s : Solver) → Holds clauses s → asides_of s ≤ length clauses + length s.entries
asides_within clauses s holds =
    let pairs = s.watches.pairs.items in
    omega (arith, count_true-le (flags_of pairs), length-map pairs (λ (p : Pair). p.aside), holds.state.watched.pairs_len, length-known clauses s.entries)

-- one less of the first counts for more than all of the second
step_less : (m m' v r r' : ℕ) → m' < m → r' ≤ v → m' * (v + 1) + r' < m * (v + 1) + r
step_less m m' v r r' less within =
    let grown : (m' + 1) * (v + 1) ≤ m * (v + 1) = mul-le-mul_right (v + 1) (omega (arith, less)) in
    let split : (m' + 1) * (v + 1) ≡ m' * (v + 1) + (v + 1) = grind arith in
    omega (arith, grown, split, within)

entry_less : (c e e' k a a' : ℕ) → e' ≡ e + 1 → e < c → a' < k → (c - e') * k + a' < (c - e) * k + a
entry_less c e e' k a a' is below within =
    let n = c - e' in
    let same : c - e ≡ n + 1 = omega (arith, is, below) in
    let split : (n + 1) * k ≡ n * k + k = grind arith in
    omega (arith, ap (λ (m : ℕ). m * k) same, split, within)

pub nearer_less :
    (clauses : List Clause) (conflicts : ℕ) (old new : Solver) → Holds clauses new → length new.placed.trail.slots.items ≡ length old.placed.trail.slots.items → length old.entries < conflicts → IsNearer old new
    → left_of clauses conflicts new < left_of clauses conflicts old
nearer_less clauses conflicts old new holds len below nearer =
    let v = length old.placed.trail.slots.items in
    let k = length clauses + conflicts + 1 in
    let m = (conflicts - length old.entries) * k + asides_of old in
    let m' = (conflicts - length new.entries) * k + asides_of new in
    let less : m' < m =
    elim nearer [
      | inl more ↦ entry_less conflicts (length old.entries) (length new.entries) k (asides_of old) (asides_of new) more below (omega (arith, asides_within clauses new holds, more, below))
      | inr (same, fewer) ↦ omega (arith, ap (λ (e : ℕ). (conflicts - e) * k) same, fewer)
    ] in
    rw len (step_less m m' v (v - length old.placed.trail.steps.items) (v - length new.placed.trail.steps.items) less (omega arith))

-- with each value that is given less is left
pub decided_less :
    (clauses : List Clause) (conflicts : ℕ) (old new : Solver) → length new.placed.trail.slots.items ≡ length old.placed.trail.slots.items → new.entries ≡ old.entries → flags_of new.watches.pairs.items ≡ flags_of old.watches.pairs.items
    → length old.placed.trail.steps.items < length new.placed.trail.steps.items → length new.placed.trail.steps.items ≤ length new.placed.trail.slots.items → left_of clauses conflicts new < left_of clauses conflicts old
decided_less clauses conflicts old new len entries flags more within =
    let v = length old.placed.trail.slots.items in
    let k = length clauses + conflicts + 1 in
    let same : (conflicts - length new.entries) * k + asides_of new ≡ (conflicts - length old.entries) * k + asides_of old =
    ap (λ (es : List Entry). (conflicts - length es) * k + asides_of new) entries ∙ ap (λ (fs : List Bool). (conflicts - length old.entries) * k + count_true fs) flags in
    let m = (conflicts - length old.entries) * k + asides_of old in
    rw len (omega (arith, ap (λ (n : ℕ). n * (v + 1)) same, more, within, len))

-- the turn after a conflict leads on
pub Goes :
    (clauses : List Clause) (conflicts : ℕ) (old new : Solver) (conflict : Option ℕ) → IsLearned clauses old new → length old.entries < conflicts → Answers (known_before clauses new.entries) new.placed.trail.steps.items new.watches conflict
    → GoesOn clauses conflicts (left_of clauses conflicts old) new conflict
Goes clauses conflicts old new conflict learned below answers =
    record {
      state = learned.holds;
      answers = answers;
      within = elim learned.nearer [ inl more ↦ omega (arith, more, below) | inr (same, fewer) ↦ omega (arith, same, below) ];
      less = nearer_less clauses conflicts old new learned.holds learned.len below learned.nearer;
    }

-- propagation doesn't change what was set aside
pub IsNearer-flags : (old mid new : Solver) → new.entries ≡ mid.entries → flags_of new.watches.pairs.items ≡ flags_of mid.watches.pairs.items → IsNearer old mid → IsNearer old new
IsNearer-flags old mid new entries flags (inl more) = inl (ap (λ (es : List Entry). length es) entries ∙ more)
IsNearer-flags old mid new entries flags (inr (same, fewer)) = inr (ap (λ (es : List Entry). length es) entries ∙ same, ap (λ (fs : List Bool). count_true fs + 1) flags ∙ fewer)
