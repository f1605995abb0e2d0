-- How many clauses there are over so many variables: each variable stands in one positively, negatively or not.
use Rattle.std.proofs.Common.{◌≡◌, ◌⊎◌, ◌∙◌, ℕ, zero, suc, ◌+◌, ◌*◌, ◌^◌, ◌<◌, Bool, true, false, List, [], ◌∷◌, Some, length, map, get_or, take, arith, eqb, refl, sym, ap, subst, inl, inr}
use Rattle.std.specs.List.{All, slice_get, Contains, list_any, IsDistinct}
use Rattle.std.proofs.Math.Nat.{pow-suc}
use Rattle.std.proofs.lemmas.Bool.{cases_eq, or_cases, eqb-true, ne_eqb, false≢true, cases_Bool}
use Rattle.std.proofs.lemmas.Option.{get_or_from_slice_get}
use Rattle.std.proofs.lemmas.List.{length-map, get_or-map}
use Rattle.std.proofs.lemmas.List.Elements.{All-contains, Contains-get_or, Contains-append_right}
use Rattle.std.proofs.lemmas.Map.Steps.{length-le_from_distinct_below}
use Rattle.std.proofs.lemmas.Map.Keys.{IsDistinct-from_apart}
use Rattle.sat_check.specs.declared.clause.Lit.{Lit}
use Rattle.sat_check.specs.declared.clause.Clause.{Clause}
use Rattle.sat_check.specs.declared.log.Entry.{Entry}
use Rattle.sat_check.specs.Clauses.{AreBelow}
use Rattle.sat_check.specs.Logs.{IsTautology, IsNew, AllNew, EntriesAreBelow, known_at}
use Rattle.sat_check.specs.Literals.{Contains-at, at_within}
use Rattle.search_base.specs.Lists.{slice_get-map, slice_get-take}
use Rattle.search_base.specs.Settling.{cases_Contains}
use Rattle.search_base.specs.Entries.{some_lit}

abbrev literal : ℕ → Bool → Lit
literal v s = record { variable = v; positive = s }

unfoldable pick : {P Q : Type 0} → P ⊎ (P → ⊥) → Q ⊎ (Q → ⊥) → ℕ
pick (inl p) q = 1
pick (inr p) (inl q) = 2
pick (inr p) (inr q) = 0

pick_first : {P Q : Type 0} (p : P ⊎ (P → ⊥)) (q : Q ⊎ (Q → ⊥)) → P → pick p q ≡ 1
unfolding pick
pick_first (inl p) q h = refl
pick_first (inr p) q h = absurd (p h)

pick_second : {P Q : Type 0} (p : P ⊎ (P → ⊥)) (q : Q ⊎ (Q → ⊥)) → (P → ⊥) → Q → pick p q ≡ 2
unfolding pick
pick_second (inl p) q n h = absurd (n p)
pick_second (inr p) (inl q) n h = refl
pick_second (inr p) (inr q) n h = absurd (q h)

first_from : {P Q : Type 0} (p : P ⊎ (P → ⊥)) (q : Q ⊎ (Q → ⊥)) → pick p q ≡ 1 → P
unfolding pick
first_from (inl p) q e = p
first_from (inr p) (inl q) e = absurd (omega arith)
first_from (inr p) (inr q) e = absurd (omega arith)

second_from : {P Q : Type 0} (p : P ⊎ (P → ⊥)) (q : Q ⊎ (Q → ⊥)) → pick p q ≡ 2 → Q
unfolding pick
second_from (inl p) q e = absurd (omega arith)
second_from (inr p) (inl q) e = q
second_from (inr p) (inr q) e = absurd (omega arith)

pick_below : {P Q : Type 0} (p : P ⊎ (P → ⊥)) (q : Q ⊎ (Q → ⊥)) → pick p q < 3
unfolding pick
pick_below (inl p) q = omega arith
pick_below (inr p) (inl q) = omega arith
pick_below (inr p) (inr q) = omega arith

unfoldable digit : List Lit → ℕ → ℕ
digit lits v = pick (cases_Contains lits (literal v true)) (cases_Contains lits (literal v false))

unfoldable code : List Lit → ℕ → ℕ
code lits zero = 0
code lits (suc v) = digit lits v + 3 * code lits v

code_below : (lits : List Lit) (v : ℕ) → code lits v < 3 ^ v
unfolding code digit
code_below lits zero = omega arith
code_below lits (suc v) =
    omega (arith, code_below lits v, pow-suc 3 v, pick_below (cases_Contains lits (literal v true)) (cases_Contains lits (literal v false)))

digits_same : (a b : List Lit) (v : ℕ) → code a v ≡ code b v → (u : ℕ) → u < v → digit a u ≡ digit b u
unfolding code digit
digits_same a b zero e u h = absurd (omega arith)
digits_same a b (suc v) e u h =
    let la = pick_below (cases_Contains a (literal v true)) (cases_Contains a (literal v false)) in
    let lb = pick_below (cases_Contains b (literal v true)) (cases_Contains b (literal v false)) in
    elim (cases_eq u v) [
      | inl same ↦ subst (λ (n : ℕ). digit a n ≡ digit b n) (sym same) (omega (arith, e, la, lb))
      | inr differ ↦ digits_same a b v (omega (arith, e, la, lb)) u (omega (arith, h, differ))
    ]

-- a literal is in the clause that has the same code
same_code :
    (a b : List Lit) (v : ℕ) → (IsTautology a → ⊥) → code a v ≡ code b v → (lit : Lit) → lit.variable < v → Contains a lit → Contains b lit
unfolding digit
same_code a b v fine e lit below h =
    let u = lit.variable in
    let same : digit a u ≡ digit b u = digits_same a b v e u below in
    elim (cases_Bool lit.positive) [
      | inl is ↦
          let there : Contains a (literal u true) = subst (λ (s : Bool). Contains a (record { variable = u; positive = s })) is h in
          let one : digit a u ≡ 1 = pick_first (cases_Contains a (literal u true)) (cases_Contains a (literal u false)) there in
          let found : Contains b (literal u true) = first_from (cases_Contains b (literal u true)) (cases_Contains b (literal u false)) (sym same ∙ one) in
          subst (λ (s : Bool). Contains b (record { variable = u; positive = s })) (sym is) found
      | inr is ↦
          let there : Contains a (literal u false) = subst (λ (s : Bool). Contains a (record { variable = u; positive = s })) is h in
          let two : digit a u ≡ 2 =
          pick_second (cases_Contains a (literal u true)) (cases_Contains a (literal u false)) (λ other. fine (literal u true, other, there)) there in
          let found : Contains b (literal u false) = second_from (cases_Contains b (literal u true)) (cases_Contains b (literal u false)) (sym same ∙ two) in
          subst (λ (s : Bool). Contains b (record { variable = u; positive = s })) (sym is) found
    ]

-- the code of a clause that has a literal isn't 0
code_some : (lits : List Lit) (v u : ℕ) → u < v → 0 < digit lits u → 0 < code lits v
unfolding code
code_some lits zero u h some = absurd (omega arith)
code_some lits (suc v) u h some =
    elim (cases_eq u v) [
      | inl same ↦ let here : 0 < digit lits v = subst (λ (n : ℕ). 0 < digit lits n) same some in omega (arith, here)
      | inr differ ↦ omega (arith, code_some lits v u (omega (arith, h, differ)) some)
    ]

digit_some : (lits : List Lit) (lit : Lit) → (IsTautology lits → ⊥) → Contains lits lit → 0 < digit lits lit.variable
unfolding digit
digit_some lits lit fine h =
    let u = lit.variable in
    elim (cases_Bool lit.positive) [
      | inl is ↦
          let there : Contains lits (literal u true) = subst (λ (s : Bool). Contains lits (record { variable = u; positive = s })) is h in
          omega (arith, pick_first (cases_Contains lits (literal u true)) (cases_Contains lits (literal u false)) there)
      | inr is ↦
          let there : Contains lits (literal u false) = subst (λ (s : Bool). Contains lits (record { variable = u; positive = s })) is h in
          omega (arith, pick_second (cases_Contains lits (literal u true)) (cases_Contains lits (literal u false)) (λ other. fine (literal u true, other, there)) there)
    ]

among_below : (numbers : List ℕ) (n q : ℕ) → All (λ x. x < n) numbers → list_any (eqb q) numbers ≡ true → q < n
among_below [] n q all h = absurd (false≢true h)
among_below (x ∷ numbers) n q all h =
    elim (or_cases (eqb q x) (list_any (eqb q) numbers) h) [
      | inl here ↦ subst (λ (y : ℕ). y < n) (sym (eqb-true q x here)) (all 0 0 (omega arith))
      | inr there ↦ among_below numbers n q (λ k d within. all (suc k) d (omega arith)) there
    ]

-- two entries have two codes
apart_codes :
    (v : ℕ) (clauses : List Clause) (entries : List Entry) → EntriesAreBelow v entries → AllNew clauses entries
    → (i k : ℕ) (a b : Entry) → i < k → slice_get entries i ≡ Some a → slice_get entries k ≡ Some b → code a.clause.lits v ≡ code b.clause.lits v → ⊥
apart_codes v clauses entries below new i k a b less at_a at_b e =
    let f : Entry → Clause = λ entry. entry.clause in
    let is_new : IsNew (known_at clauses entries k) b = new k b at_b in
    let fine = (new i a at_a).no_tautology in
    let in_front : Contains (map f (take k entries)) a.clause = Contains-at (map f (take k entries)) i a.clause (slice_get-map f (take k entries) i a (slice_get-take k entries i a less at_a)) in
    let known : Contains (known_at clauses entries k) a.clause = Contains-append_right clauses (map f (take k entries)) a.clause in_front in
    let a_below : AreBelow v a.clause.lits = All-contains (λ (entry : Entry). AreBelow v entry.clause.lits) entries a below (Contains-at entries i a at_a) in
    All-contains (λ (clause : Clause). All (Contains b.clause.lits) clause.lits → ⊥) (known_at clauses entries k) a.clause is_new.not_known known
    (λ n d within.
    let lit = get_or a.clause.lits n d in
    same_code a.clause.lits b.clause.lits v fine e lit (a_below n d within) (Contains-get_or a.clause.lits n d within))

code_new : (v : ℕ) (known : List Clause) (entry : Entry) → AreBelow v entry.clause.lits → IsNew known entry → 0 < code entry.clause.lits v
code_new v known entry below new =
    let lits = entry.clause.lits in
    let (lit, stands) = some_lit lits new.not_empty in
    code_some lits v lit.variable (All-contains (λ (l : Lit). l.variable < v) lits lit below stands) (digit_some lits lit new.no_tautology stands)

below_list : (v : ℕ) (entries : List Entry) → All (λ x. x < 3 ^ v) (0 ∷ map (λ (entry : Entry). code entry.clause.lits v) entries)
below_list v entries zero d within = omega (arith, code_below [] v)
below_list v entries (suc k) d within =
    let g : Entry → ℕ = λ entry. code entry.clause.lits v in
    let inside : k < length entries = omega (arith, within, length-map entries g) in
    let (entry, at) = at_within entries k inside in
    let is : get_or (map g entries) k d ≡ g entry = get_or-map g entries k entry d inside ∙ ap g (get_or_from_slice_get entries k entry entry at) in
    rw is (code_below entry.clause.lits v)

apart_numbers :
    (v : ℕ) (clauses : List Clause) (entries : List Entry) → EntriesAreBelow v entries → AllNew clauses entries
    → (i k d : ℕ) → i < k → k < length (0 ∷ map (λ (entry : Entry). code entry.clause.lits v) entries)
    → get_or (0 ∷ map (λ (entry : Entry). code entry.clause.lits v) entries) i d ≡ get_or (0 ∷ map (λ (entry : Entry). code entry.clause.lits v) entries) k d → ⊥
apart_numbers v clauses entries below new i zero d less within e = omega (arith, less)
apart_numbers v clauses entries below new zero (suc k) d less within e =
    let g : Entry → ℕ = λ entry. code entry.clause.lits v in
    let inside : k < length entries = omega (arith, within, length-map entries g) in
    let (entry, at) = at_within entries k inside in
    let is : get_or (map g entries) k d ≡ g entry = get_or-map g entries k entry d inside ∙ ap g (get_or_from_slice_get entries k entry entry at) in
    let entry_below : AreBelow v entry.clause.lits = All-contains (λ (x : Entry). AreBelow v x.clause.lits) entries entry below (Contains-at entries k entry at) in
    omega (arith, e, is, code_new v (known_at clauses entries k) entry entry_below (new k entry at))
apart_numbers v clauses entries below new (suc i) (suc k) d less within e =
    let g : Entry → ℕ = λ entry. code entry.clause.lits v in
    let k_inside : k < length entries = omega (arith, within, length-map entries g) in
    let i_inside : i < length entries = omega (arith, less, k_inside) in
    let (a, at_a) = at_within entries i i_inside in
    let (b, at_b) = at_within entries k k_inside in
    let a_is : get_or (map g entries) i d ≡ g a = get_or-map g entries i a d i_inside ∙ ap g (get_or_from_slice_get entries i a a at_a) in
    let b_is : get_or (map g entries) k d ≡ g b = get_or-map g entries k b d k_inside ∙ ap g (get_or_from_slice_get entries k b b at_b) in
    apart_codes v clauses entries below new i k a b (omega (arith, less)) at_a at_b (sym a_is ∙ e ∙ b_is)

-- new entries over so many variables are fewer than the codes
pub new_entries_few : (v : ℕ) (clauses : List Clause) (entries : List Entry) → EntriesAreBelow v entries → AllNew clauses entries → length entries < 3 ^ v
new_entries_few v clauses entries below new =
    let g : Entry → ℕ = λ entry. code entry.clause.lits v in
    let numbers = 0 ∷ map g entries in
    let all_below : All (λ x. x < 3 ^ v) numbers = below_list v entries in
    let distinct : IsDistinct eqb numbers =
    IsDistinct-from_apart eqb numbers
    (λ i k d less within. ne_eqb (get_or numbers i d) (get_or numbers k d) (apart_numbers v clauses entries below new i k d less within)) in
    let few = length-le_from_distinct_below numbers (3 ^ v) distinct (λ q h. among_below numbers (3 ^ v) q all_below h) in
    omega (arith, few, length-map entries g)
