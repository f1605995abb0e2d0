-- What a trail keeps as steps are made and taken back.
use Rattle.std.proofs.Common.{◌≡◌, ◌∙◌, ℕ, zero, suc, ◌+◌, ◌<◌, Bool, true, false, not, List, [], ◌∷◌, ◌++◌, Option, Some, length, set, get_or, take, sum_by, replicate, arith, refl, sym, ap, subst, inl, inr}
use Rattle.std.specs.Option.{unwrap_or}
use Rattle.std.specs.List.{slice_get, Contains}
use Rattle.std.proofs.lemmas.Bool.{cases_eq, cases_Bool}
use Rattle.std.proofs.lemmas.Option.{same_Some, none-some, get_or_from_slice_get, slice_get_within}
use Rattle.std.proofs.lemmas.List.{length-set, map_push, length-append, take_at}
use Rattle.std.proofs.lemmas.List.Sums.{sum_by-set, sum_by-cons}
use Rattle.std.proofs.lemmas.List.Elements.{Contains-push, Contains-append_left, Contains-push_cases}
use Rattle.sat_check.specs.declared.clause.Lit.{Lit}
use Rattle.sat_check.specs.declared.clause.Clause.{Clause}
use Rattle.sat_check.specs.Clauses.{opposite_of}
use Rattle.sat_check.specs.Logs.{HasNoValue}
use Rattle.sat_check.specs.Literals.{same_lit, not-same, not-not, cases_sign, Contains-nil, at_within, slice_get-set_same, slice_get-set_other}
use Rattle.search_base.specs.declared.trail.Slot.{Slot}
use Rattle.search_base.specs.declared.trail.Step.{Step}
use Rattle.search_base.specs.Trails.{falses_of, Shows, IsStep, weight_of, Keeps}
use Rattle.search_base.specs.Lists.{slice_get-append_left, slice_get-push_cases, slice_get-push, take_within}

slot_sign : (s t : Bool) → ◌≡◌ {A = Option Slot} (Some (record { assigned = true; positive = s })) (Some (record { assigned = true; positive = t })) → s ≡ t
slot_sign s t h = ap (λ (o : Option Slot). (unwrap_or o (record { assigned = false; positive = false })).positive) h

pub open_apart : (s t : Bool) → ◌≡◌ {A = Option Slot} (Some (record { assigned = false; positive = s })) (Some (record { assigned = true; positive = t })) → ⊥
open_apart s t h = let bad : false ≡ true = ap (λ (o : Option Slot). (unwrap_or o (record { assigned = false; positive = false })).assigned) h in cc

-- a literal and its opposite aren't both false
pub shown_once : (slots : List Slot) (falses : List Lit) (lit : Lit) → Shows slots falses → lit.variable < length slots → Contains falses lit → Contains falses (opposite_of lit) → ⊥
shown_once slots falses lit shows below c o =
    not-same lit.positive (slot_sign lit.positive (not lit.positive) (sym ((shows lit below).0 c) ∙ (shows (opposite_of lit) below).0 o))

-- where neither a literal nor its opposite is false, its slot is open
pub open_slot : (slots : List Slot) (falses : List Lit) (lit : Lit) (slot : Slot) → Shows slots falses → HasNoValue falses lit → slice_get slots lit.variable ≡ Some slot → slot.assigned ≡ false
open_slot slots falses lit slot shows free at =
    let below : lit.variable < length slots = slice_get_within slots lit.variable slot at in
    elim (cases_Bool slot.assigned) [
      | inl is_true ↦
          let as_true : slot ≡ record { assigned = true; positive = slot.positive } = ap (λ (b : Bool). let s : Slot = record { assigned = b; positive = slot.positive } in s) is_true in
          let at' : slice_get slots lit.variable ≡ Some (record { assigned = true; positive = slot.positive }) = at ∙ ap (λ (s : Slot). Some s) as_true in
          elim (cases_sign lit.positive slot.positive) [
            | inl same ↦
                let here : slice_get slots lit.variable ≡ Some (record { assigned = true; positive = lit.positive }) = subst (λ (b : Bool). slice_get slots lit.variable ≡ Some (record { assigned = true; positive = b })) (sym same) at' in
                absurd (free.not_false ((shows lit below).1 here))
            | inr other ↦
                let turned : slot.positive ≡ not lit.positive = sym (ap not other ∙ not-not slot.positive) in
                let here : slice_get slots lit.variable ≡ Some (record { assigned = true; positive = not lit.positive }) = subst (λ (b : Bool). slice_get slots lit.variable ≡ Some (record { assigned = true; positive = b })) turned at' in
                absurd (free.not_true ((shows (opposite_of lit) below).1 here))
          ]
      | inr is_false ↦ is_false
    ]

-- where the slot is open, neither the literal nor its opposite is false
pub open_value : (slots : List Slot) (falses : List Lit) (lit : Lit) (slot : Slot) → Shows slots falses → slice_get slots lit.variable ≡ Some slot → slot.assigned ≡ false → HasNoValue falses lit
open_value slots falses lit slot shows at open' =
    let below : lit.variable < length slots = slice_get_within slots lit.variable slot at in
    let as_false : slot ≡ record { assigned = false; positive = slot.positive } = ap (λ (b : Bool). let s : Slot = record { assigned = b; positive = slot.positive } in s) open' in
    let at' : slice_get slots lit.variable ≡ Some (record { assigned = false; positive = slot.positive }) = at ∙ ap (λ (s : Slot). Some s) as_false in
    record {
      not_false = λ h. open_apart slot.positive lit.positive (sym at' ∙ (shows lit below).0 h);
      not_true = λ h. open_apart slot.positive (not lit.positive) (sym at' ∙ (shows (opposite_of lit) below).0 h);
    }

-- an assigned slot tells which literal is false
pub told_false : (slots : List Slot) (falses : List Lit) (variable : ℕ) (slot : Slot) → Shows slots falses → slice_get slots variable ≡ Some slot → slot.assigned ≡ true → Contains falses (record { variable = variable; positive = slot.positive })
told_false slots falses variable slot shows at is_true =
    let below : variable < length slots = slice_get_within slots variable slot at in
    let as_true : slot ≡ record { assigned = true; positive = slot.positive } = ap (λ (b : Bool). let s : Slot = record { assigned = b; positive = slot.positive } in s) is_true in
    (shows (record { variable = variable; positive = slot.positive }) below).1 (at ∙ ap (λ (s : Slot). Some s) as_true)

Shows-assign :
    (slots : List Slot) (falses : List Lit) (lit : Lit) → lit.variable < length slots → Shows slots falses → HasNoValue falses lit
    → Shows (set slots lit.variable (record { assigned = true; positive = lit.positive })) (falses ++ lit ∷ [])
Shows-assign slots falses lit below shows free other within =
    let slot : Slot = record { assigned = true; positive = lit.positive } in
    let written : List Slot = set slots lit.variable slot in
    let in_old : other.variable < length slots = omega (arith, length-set slots lit.variable slot) in
    elim (cases_eq other.variable lit.variable) [
      | inl same ↦
          let reads : slice_get written other.variable ≡ Some slot = subst (λ (n : ℕ). slice_get written n ≡ Some slot) (sym same) (slice_get-set_same slots lit.variable slot below) in
          let to : Contains (falses ++ lit ∷ []) other → slice_get written other.variable ≡ Some (record { assigned = true; positive = other.positive }) =
          λ c.
          let sign : lit.positive ≡ other.positive =
          elim (Contains-push_cases falses lit other c) [
            | inl in_falses ↦
                elim (cases_sign lit.positive other.positive) [
                  | inl s ↦ s
                  | inr s ↦
                      let turned : not lit.positive ≡ other.positive = ap not s ∙ not-not other.positive in
                      absurd (free.not_true (subst (Contains falses) (same_lit other (opposite_of lit) same (sym turned)) in_falses))
                ]
            | inr is ↦ ap (λ (l : Lit). l.positive) is
          ] in
          reads ∙ ap (λ (s : Bool). let m : Slot = record { assigned = true; positive = s } in Some m) sign in
          let from : slice_get written other.variable ≡ Some (record { assigned = true; positive = other.positive }) → Contains (falses ++ lit ∷ []) other =
          λ m. subst (Contains (falses ++ lit ∷ [])) (same_lit lit other (sym same) (slot_sign lit.positive other.positive (sym reads ∙ m))) (Contains-push falses lit) in
          (to, from)
      | inr differs ↦
          let reads : slice_get written other.variable ≡ slice_get slots other.variable = slice_get-set_other slots lit.variable other.variable slot differs in
          let to : Contains (falses ++ lit ∷ []) other → slice_get written other.variable ≡ Some (record { assigned = true; positive = other.positive }) =
          λ c. elim (Contains-push_cases falses lit other c)
          [ inl in_falses ↦ reads ∙ (shows other in_old).0 in_falses | inr is ↦ absurd (differs (ap (λ (l : Lit). l.variable) (sym is))) ] in
          let from : slice_get written other.variable ≡ Some (record { assigned = true; positive = other.positive }) → Contains (falses ++ lit ∷ []) other =
          λ m. Contains-append_left falses (lit ∷ []) other ((shows other in_old).1 (sym reads ∙ m)) in
          (to, from)
    ]

Shows-take_back :
    (slots : List Slot) (falses : List Lit) (lit : Lit) (sign : Bool) → lit.variable < length slots → Shows slots (falses ++ lit ∷ []) → HasNoValue falses lit
    → Shows (set slots lit.variable (record { assigned = false; positive = sign })) falses
Shows-take_back slots falses lit sign below shows free other within =
    let slot : Slot = record { assigned = false; positive = sign } in
    let written : List Slot = set slots lit.variable slot in
    let in_old : other.variable < length slots = omega (arith, length-set slots lit.variable slot) in
    elim (cases_eq other.variable lit.variable) [
      | inl same ↦
          let reads : slice_get written other.variable ≡ Some slot = subst (λ (n : ℕ). slice_get written n ≡ Some slot) (sym same) (slice_get-set_same slots lit.variable slot below) in
          let to : Contains falses other → slice_get written other.variable ≡ Some (record { assigned = true; positive = other.positive }) =
          λ c. elim (cases_sign lit.positive other.positive) [
            | inl s ↦ absurd (free.not_false (subst (Contains falses) (same_lit other lit same (sym s)) c))
            | inr s ↦
                let turned : not lit.positive ≡ other.positive = ap not s ∙ not-not other.positive in
                absurd (free.not_true (subst (Contains falses) (same_lit other (opposite_of lit) same (sym turned)) c))
          ] in
          let from : slice_get written other.variable ≡ Some (record { assigned = true; positive = other.positive }) → Contains falses other =
          λ m. absurd (open_apart sign other.positive (sym reads ∙ m)) in
          (to, from)
      | inr differs ↦
          let reads : slice_get written other.variable ≡ slice_get slots other.variable = slice_get-set_other slots lit.variable other.variable slot differs in
          let to : Contains falses other → slice_get written other.variable ≡ Some (record { assigned = true; positive = other.positive }) =
          λ c. reads ∙ (shows other in_old).0 (Contains-append_left falses (lit ∷ []) other c) in
          let from : slice_get written other.variable ≡ Some (record { assigned = true; positive = other.positive }) → Contains falses other =
          λ m. elim (Contains-push_cases falses lit other ((shows other in_old).1 (sym reads ∙ m)))
          [ inl in_falses ↦ in_falses | inr is ↦ absurd (differs (ap (λ (l : Lit). l.variable) (sym is))) ] in
          (to, from)
    ]

pub falses-push : (steps : List Step) (step : Step) → falses_of (steps ++ step ∷ []) ≡ falses_of steps ++ step.falsified ∷ []
falses-push steps step = map_push (λ (s : Step). s.falsified) steps step

weight-open : (slot : Slot) → slot.assigned ≡ false → weight_of slot ≡ 1
weight-open slot h = rw h refl

weight-assigned : (slot : Slot) → slot.assigned ≡ true → weight_of slot ≡ 0
weight-assigned slot h = rw h refl

pub Keeps-none : (known : List Clause) (slots : List Slot) → ((index : ℕ) (slot : Slot) → slice_get slots index ≡ Some slot → slot.assigned ≡ false) → sum_by weight_of slots ≡ length slots → Keeps known slots []
Keeps-none known slots open' all =
    let shows : Shows slots [] =
    λ lit below.
    let here = at_within slots lit.variable below in (
      λ c. absurd (Contains-nil lit c),
      λ m. let bad : false ≡ true = sym (open' lit.variable here.0 here.1) ∙ ap (λ (s : Slot). s.assigned) (same_Some here.0 (record { assigned = true; positive = lit.positive }) (sym here.1 ∙ m)) in absurd (cc),
    ) in
    record { shows = shows; each = λ index step at. absurd (none-some step at); counted = omega (arith, all) }

pub Keeps-push :
    (known : List Clause) (slots : List Slot) (steps : List Step) (step : Step) → Keeps known slots steps → IsStep (length slots) known (falses_of steps) step
    → Keeps known (set slots step.falsified.variable (record { assigned = true; positive = step.falsified.positive })) (steps ++ step ∷ [])
Keeps-push known slots steps step keeps is =
    let lit = step.falsified in
    let slot : Slot = record { assigned = true; positive = lit.positive } in
    let written = set slots lit.variable slot in
    let same_len : length written ≡ length slots = length-set slots lit.variable slot in
    let here = at_within slots lit.variable is.below in
    let was_open : here.0.assigned ≡ false = open_slot slots (falses_of steps) lit here.0 keeps.shows is.without_value here.1 in
    let read : get_or slots lit.variable slot ≡ here.0 = get_or_from_slice_get slots lit.variable here.0 slot here.1 in
    let sums : sum_by weight_of written + weight_of (get_or slots lit.variable slot) ≡ sum_by weight_of slots + weight_of slot = sum_by-set weight_of slots lit.variable slot slot is.below in
    let was : weight_of (get_or slots lit.variable slot) ≡ 1 = ap weight_of read ∙ weight-open here.0 was_open in
    let now : weight_of slot ≡ 0 = refl in
    record {
      shows = rw (falses-push steps step) (Shows-assign slots (falses_of steps) lit is.below keeps.shows is.without_value);
      each = λ index other at.
          elim (slice_get-push_cases steps step index other at) [
            | inl before ↦
                let within : index < length steps = slice_get_within steps index other before in
                rw (take_within index steps (step ∷ []) (omega arith), same_len) (keeps.each index other before)
            | inr last ↦
                let cut : take index (steps ++ step ∷ []) ≡ steps = take_at steps (step ∷ []) index (sym last.0) in
                rw (cut, same_len) (subst (IsStep (length slots) known (falses_of steps)) last.1 is)
          ];
      counted = omega (arith, keeps.counted, sums, was, now, same_len, length-append steps (step ∷ []));
    }

pub Keeps-pop :
    (known : List Clause) (slots : List Slot) (steps : List Step) (step : Step) (sign : Bool) → Keeps known slots (steps ++ step ∷ [])
    → Keeps known (set slots step.falsified.variable (record { assigned = false; positive = sign })) steps
Keeps-pop known slots steps step sign keeps =
    let lit = step.falsified in
    let slot : Slot = record { assigned = false; positive = sign } in
    let written = set slots lit.variable slot in
    let same_len : length written ≡ length slots = length-set slots lit.variable slot in
    let last = keeps.each (length steps) step (slice_get-push steps step) in
    let is : IsStep (length slots) known (falses_of steps) step = rw (take_at steps (step ∷ []) (length steps) refl) at last in
    let shows : Shows slots (falses_of steps ++ lit ∷ []) = rw (falses-push steps step) at keeps.shows in
    let was : slice_get slots lit.variable ≡ Some (record { assigned = true; positive = lit.positive }) = (shows lit is.below).0 (Contains-push (falses_of steps) lit) in
    let read : get_or slots lit.variable slot ≡ record { assigned = true; positive = lit.positive } = get_or_from_slice_get slots lit.variable (record { assigned = true; positive = lit.positive }) slot was in
    let sums : sum_by weight_of written + weight_of (get_or slots lit.variable slot) ≡ sum_by weight_of slots + weight_of slot = sum_by-set weight_of slots lit.variable slot slot is.below in
    let before : weight_of (get_or slots lit.variable slot) ≡ 0 = ap weight_of read in
    let now : weight_of slot ≡ 1 = refl in
    record {
      shows = Shows-take_back slots (falses_of steps) lit sign is.below shows is.without_value;
      each = λ index other at.
          let within : index < length steps = slice_get_within steps index other at in
          let old = keeps.each index other (slice_get-append_left steps (step ∷ []) index other at) in
          rw same_len (rw (take_within index steps (step ∷ []) (omega arith)) at old);
      counted = omega (arith, keeps.counted, sums, before, now, same_len, length-append steps (step ∷ []));
    }

-- more that is known changes no step
pub Keeps-known : (known more : List Clause) (slots : List Slot) (steps : List Step) → Keeps known slots steps → Keeps (known ++ more) slots steps
Keeps-known known more slots steps keeps =
    record {
      shows = keeps.shows;
      each = λ index step at.
          let is = keeps.each index step at in
          record {
            below = is.below;
            without_value = is.without_value;
            reason = λ r e. let (clause, named, unit) = is.reason r e in (clause, slice_get-append_left known more r clause named, unit);
          };
      counted = keeps.counted;
    }

replicate_all : (n : ℕ) (x : Slot) (i : ℕ) (y : Slot) → slice_get (replicate n x) i ≡ Some y → x ≡ y
replicate_all zero x i y at = absurd (none-some y at)
replicate_all (suc n) x zero y at = same_Some x y at
replicate_all (suc n) x (suc i) y at = replicate_all n x i y at

weight-replicate : (n : ℕ) (x : Slot) → weight_of x ≡ 1 → sum_by weight_of (replicate n x) ≡ length (replicate n x)
weight-replicate zero x one = refl
weight-replicate (suc n) x one =
    omega (arith, sum_by-cons weight_of x (replicate n x), weight-replicate n x one, one)

-- a trail of no steps
pub Keeps-fresh : (known : List Clause) (slots : List Slot) (steps : List Step) (n : ℕ) (sign : Bool) → slots ≡ replicate n (record { assigned = false; positive = sign }) → steps ≡ [] → Keeps known slots steps
Keeps-fresh known slots steps n sign is none =
    let x : Slot = record { assigned = false; positive = sign } in
    rw (none, is)
    (Keeps-none known (replicate n x) (λ index slot at. ap (λ (s : Slot). s.assigned) (sym (replicate_all n x index slot at))) (weight-replicate n x refl))
