-- What one step of each loop does to the lists.
use Rattle.std.proofs.Common.{◌≡◌, ◌<◌, ◌≤◌, ◌+◌, ℕ, zero, suc, Bool, true, false, not, ◌||◌, ◌&&◌, cond, eqb, Some, None, List, [], ◌∷◌, ◌++◌, map, take, drop, drop-cons, length, set, get_or, count_by, inl, inr, refl, sym, ap, subst, ◌∙◌, arith}
use Rattle.std.specs.Prelude.{IsTrue, slice_get}
use Rattle.std.proofs.lemmas.Bool.{cases_eq, cases_lt, eq-eqb, ne_eqb, false≢true, and_right, or_left, or_right, or_cases, and_from, and_parts}
use Rattle.std.proofs.lemmas.List.{get_or_default, get_or_past, get_or-set_same, get_or-set_other, length-set, length-append}
use Rattle.std.proofs.lemmas.List.Sums.{sum_by-set, sum_by-append}
use Rattle.std.proofs.Math.Seq.{take-suc}
use Rattle.gc0_tree.specs.declared.Function as code
use Rattle.gc0_tree.specs.Views.{function_view}
use Rattle.c0_meaning.specs.Precision.{is_open}
use Rattle.plain_functions.specs.declared.marks.Marks.{Marks}
use Rattle.plain_functions.specs.Callers.{among, MarksMore, AddsCaller, weight}
use Rattle.plain_functions.proofs.Among.{or_none, and_all, and_none, among_more, among_then, calls_more, wait_open}

-- ---- marks
-- where there is no mark there is a function
pub unmarked_within : (xs : List Bool) (f : ℕ) → get_or xs f false ≡ true → f < length xs
unmarked_within xs f e = elim (cases_lt f (length xs)) [
  | inl lt ↦ lt
  | inr ge ↦ absurd (false≢true (sym (get_or_past xs f false ge) ∙ e))
]

one_less : (xs : List Bool) (i : ℕ) → i < length xs → get_or xs i false ≡ true → count_by (λ b. b) (set xs i false) + 1 ≡ count_by (λ b. b) xs
one_less xs i lt free =
    let e = sum_by-set (λ b. cond b 1 0) xs i false false lt in
    let as_number : Bool → ℕ = λ b. cond b 1 0 in
    let z : as_number (get_or xs i false) ≡ as_number true = ap as_number free in
    omega (arith, e, z)

-- a function gets its mark, and waits
abbrev marked_one : Marks → ℕ → Marks
marked_one m f = record { plain = set m.plain f false; waiting = m.waiting ++ f ∷ [] }

new_mark : (m : Marks) (f : ℕ) → get_or m.plain f false ≡ true → (g : ℕ) → get_or (set m.plain f false) g false ≡ (get_or m.plain g false && not (eqb f g || false))
new_mark m f free g = elim (cases_eq g f) [
  | inl e ↦
      let here : get_or (set m.plain f false) g false ≡ false = ap (λ i. get_or (set m.plain f false) i false) e ∙ get_or-set_same m.plain f false false (unmarked_within m.plain f free) in
      let same : (eqb f g || false) ≡ true = or_left (eqb f g) false (eq-eqb f g (sym e)) in
      here ∙ sym (ap (λ b. get_or m.plain g false && not b) same ∙ and_none (get_or m.plain g false))
  | inr ne ↦
      let other : (eqb f g || false) ≡ false = or_none (eqb f g) ∙ ne_eqb f g (λ e. ne (sym e)) in
      get_or-set_other m.plain f g false false ne ∙ sym (ap (λ b. get_or m.plain g false && not b) other ∙ and_all (get_or m.plain g false))
]

new_wait : (m : Marks) (f : ℕ) → get_or m.plain f false ≡ true → (g : ℕ) → eqb f g ≡ (get_or m.plain g false && (eqb f g || false))
new_wait m f free g = elim (cases_eq g f) [
  | inl e ↦
      let same = eq-eqb f g (sym e) in
      same ∙ sym (and_from (get_or m.plain g false) (eqb f g || false) (ap (λ i. get_or m.plain i false) e ∙ free) (or_left (eqb f g) false same))
  | inr ne ↦
      let other : eqb f g ≡ false = ne_eqb f g (λ e. ne (sym e)) in
      other ∙ sym (and_right (get_or m.plain g false) (eqb f g || false) (or_none (eqb f g) ∙ other))
]

pub mark_new : (m : Marks) (f : ℕ) (plain : List Bool) (waiting : List ℕ) → get_or m.plain f false ≡ true → plain ≡ set m.plain f false → waiting ≡ m.waiting ++ f ∷ [] → MarksMore m (f ∷ []) (record { plain = plain; waiting = waiting })
mark_new m f plain waiting free p w =
    let lt = unmarked_within m.plain f free in
    let one : MarksMore m (f ∷ []) (marked_one m f) = record {
      count = length-set m.plain f false;
      same_weight = omega (arith, one_less m.plain f lt free, length-append m.waiting (f ∷ []));
      marked = new_mark m f free;
      waits = λ g. among_more g f m.waiting ∙ ap (λ b. among g m.waiting || b) (new_wait m f free g);
    } in
    subst (λ (x : List Bool). MarksMore m (f ∷ []) (record { plain = x; waiting = waiting })) (sym p)
    (subst (λ (x : List ℕ). MarksMore m (f ∷ []) (record { plain = set m.plain f false; waiting = x })) (sym w) one)

old_mark : (m : Marks) (f : ℕ) → get_or m.plain f false ≡ false → (g : ℕ) → get_or m.plain g false ≡ (get_or m.plain g false && not (eqb f g || false))
old_mark m f marked g = elim (cases_eq g f) [
  | inl e ↦
      let gone : get_or m.plain g false ≡ false = ap (λ i. get_or m.plain i false) e ∙ marked in
      gone ∙ sym (ap (λ b. b && not (eqb f g || false)) gone)
  | inr ne ↦
      let other : (eqb f g || false) ≡ false = or_none (eqb f g) ∙ ne_eqb f g (λ e. ne (sym e)) in
      sym (ap (λ b. get_or m.plain g false && not b) other ∙ and_all (get_or m.plain g false))
]

old_wait : (m : Marks) (f : ℕ) → get_or m.plain f false ≡ false → (g : ℕ) → (get_or m.plain g false && (eqb f g || false)) ≡ false
old_wait m f marked g = elim (cases_eq g f) [
  | inl e ↦
      let gone : get_or m.plain g false ≡ false = ap (λ i. get_or m.plain i false) e ∙ marked in
      ap (λ b. b && (eqb f g || false)) gone
  | inr ne ↦ and_right (get_or m.plain g false) (eqb f g || false) (or_none (eqb f g) ∙ ne_eqb f g (λ e. ne (sym e)))
]

pub mark_old : (m : Marks) (f : ℕ) → get_or m.plain f false ≡ false → MarksMore m (f ∷ []) m
mark_old m f marked = record {
  count = refl;
  same_weight = refl;
  marked = old_mark m f marked;
  waits = λ g. sym (ap (λ b. among g m.waiting || b) (old_wait m f marked g) ∙ or_none (among g m.waiting));
}

-- ---- the first marks
-- one more function, open or not
pub plain_more : (xs : List Bool) (b : Bool) (f : ℕ) → get_or (xs ++ b ∷ []) f true ≡ (get_or xs f true && (b || not (eqb (length xs) f)))
plain_more xs b f = elim (cases_eq f (length xs)) [
  | inl e ↦
      let same : eqb (length xs) f ≡ true = eq-eqb (length xs) f (sym e) in
      let past = get_or_past xs f true (omega (arith, e)) in
      at_end xs f e ∙ sym (ap (λ x. x && (b || not (eqb (length xs) f))) past ∙ ap (λ x. b || not x) same ∙ or_none b)
  | inr ne ↦
      let other : eqb (length xs) f ≡ false = ne_eqb (length xs) f (λ e. ne (sym e)) in
      before xs f ne ∙ sym (ap (λ x. get_or xs f true && (b || not x)) other ∙ ap (λ x. get_or xs f true && x) (or_right b true refl) ∙ and_all (get_or xs f true))
]
  where
    at_end : (ys : List Bool) (k : ℕ) → k ≡ length ys → get_or (ys ++ b ∷ []) k true ≡ b
    at_end [] zero e = refl
    at_end [] (suc k) e = absurd (omega (arith, e))
    at_end (y ∷ ys) zero e = absurd (omega (arith, e))
    at_end (y ∷ ys) (suc k) e = at_end ys k (omega (arith, e))

    before : (ys : List Bool) (k : ℕ) → (k ≡ length ys → ⊥) → get_or (ys ++ b ∷ []) k true ≡ get_or ys k true
    before [] zero ne = absurd (ne refl)
    before [] (suc k) ne = refl
    before (y ∷ ys) zero ne = refl
    before (y ∷ ys) (suc k) ne = before ys k (λ e. ne (omega (arith, e)))

-- ---- callers
-- one more list that is empty
pub empty_more : (xs : List (List ℕ)) (g : ℕ) → get_or (xs ++ [] ∷ []) g [] ≡ get_or xs g []
empty_more [] zero = refl
empty_more [] (suc g) = refl
empty_more (x ∷ xs) zero = refl
empty_more (x ∷ xs) (suc g) = empty_more xs g

-- a caller behind the callers of one callee
pub caller_more : (xs : List (List ℕ)) (k c g f : ℕ) (mine : List ℕ) → mine ≡ get_or xs k [] ++ c ∷ [] → k < length xs → among f (get_or (set xs k mine) g []) ≡ (among f (get_or xs g []) || (eqb c f && (eqb k g || false)))
caller_more xs k c g f mine m lt = elim (cases_eq g k) [
  | inl e ↦
      let here : get_or (set xs k mine) g [] ≡ get_or xs g [] ++ c ∷ [] = ap (λ i. get_or (set xs k mine) i []) e ∙ get_or-set_same xs k mine [] lt ∙ m ∙ ap (λ i. get_or xs i [] ++ c ∷ []) (sym e) in
      let same : (eqb c f && (eqb k g || false)) ≡ eqb c f = ap (λ b. eqb c f && b) (or_none (eqb k g) ∙ eq-eqb k g (sym e)) ∙ and_all (eqb c f) in
      ap (among f) here ∙ among_more f c (get_or xs g []) ∙ ap (λ b. among f (get_or xs g []) || b) (sym same)
  | inr ne ↦
      let other : (eqb c f && (eqb k g || false)) ≡ false = and_right (eqb c f) (eqb k g || false) (or_none (eqb k g) ∙ ne_eqb k g (λ e. ne (sym e))) in
      ap (among f) (get_or-set_other xs k g mine [] ne) ∙ sym (ap (λ b. among f (get_or xs g []) || b) other ∙ or_none (among f (get_or xs g [])))
]

-- a callee past the functions
pub caller_past : (xs : List (List ℕ)) (k c g f : ℕ) → length xs ≤ k → g < length xs → among f (get_or xs g []) ≡ (among f (get_or xs g []) || (eqb c f && (eqb k g || false)))
caller_past xs k c g f past lt =
    let other : (eqb c f && (eqb k g || false)) ≡ false = and_right (eqb c f) (eqb k g || false) (or_none (eqb k g) ∙ ne_eqb k g (λ e. omega (arith, e, past, lt))) in
    sym (ap (λ b. among f (get_or xs g []) || b) other ∙ or_none (among f (get_or xs g [])))

pub call_added : (xs ys : List (List ℕ)) (k c : ℕ) (mine : List ℕ) → ys ≡ set xs k mine → mine ≡ get_or xs k [] ++ c ∷ [] → k < length xs → AddsCaller xs c (k ∷ []) ys
call_added xs ys k c mine e m lt = record {
  count = ap length e ∙ length-set xs k mine;
  right = λ g f low. ap (λ l. among f (get_or l g [])) e ∙ caller_more xs k c g f mine m lt;
}

pub call_past : (xs : List (List ℕ)) (k c : ℕ) → length xs ≤ k → AddsCaller xs c (k ∷ []) xs
call_past xs k c past = record { count = refl; right = λ g f low. caller_past xs k c g f past low }

-- one callee, and then those behind it
pub adds_more : (g i : ℕ) (callees : List ℕ) (old new c all : Bool) → i < length callees → new ≡ (old || (c && (eqb (get_or callees i 0) g || false))) → (old || (c && among g (drop i callees))) ≡ all → (new || (c && among g (drop (i + 1) callees))) ≡ all
adds_more g i callees old new c all lt one before =
    ap (λ b. b || (c && among g (drop (i + 1) callees))) one ∙ calls_more old c (eqb (get_or callees i 0) g) (among g (drop (i + 1) callees))
    ∙ sym (ap (λ l. old || (c && among g l)) (cons_at callees i lt)) ∙ before
  where
    cons_at : (xs : List ℕ) (k : ℕ) → k < length xs → drop k xs ≡ get_or xs k 0 ∷ drop (k + 1) xs
    cons_at xs k low = let e : suc k ≡ k + 1 = omega arith in drop-cons xs k 0 low ∙ ap (λ j. get_or xs k 0 ∷ drop j xs) e

-- ---- the first functions
pub opens_more : (fs : List code.Function) (n : ℕ) (fn : code.Function) (xs ys : List Bool) (b : Bool) → n < length fs → fn ≡ get_or fs n fn → b ≡ is_open (function_view fn)
    → ys ≡ xs ++ not b ∷ [] → xs ≡ map (λ f. not (is_open f)) (map function_view (take n fs)) → ys ≡ map (λ f. not (is_open f)) (map function_view (take (n + 1) fs))
opens_more fs n fn xs ys b lt at o e before =
    let m : take (n + 1) fs ≡ take n fs ++ fn ∷ [] = taken fs n fn lt at in
    let one : not b ≡ not (is_open (function_view fn)) = ap not o in
    e ∙ ap (λ l. l ++ not b ∷ []) before ∙ ap (λ x. map (λ f. not (is_open f)) (map function_view (take n fs)) ++ x ∷ []) one
    ∙ sym (both (take n fs)) ∙ ap (λ l. map (λ f. not (is_open f)) (map function_view l)) (sym m)
  where
    both : (l : List code.Function) → map (λ f. not (is_open f)) (map function_view (l ++ fn ∷ [])) ≡ map (λ f. not (is_open f)) (map function_view l) ++ not (is_open (function_view fn)) ∷ []
    both [] = refl
    both (x ∷ l) = ap (λ r. not (is_open (function_view x)) ∷ r) (both l)

    taken : (l : List code.Function) (k : ℕ) (x : code.Function) → k < length l → x ≡ get_or l k x → take (k + 1) l ≡ take k l ++ x ∷ []
    taken l k x low here = let e : suc k ≡ k + 1 = omega arith in ap (λ j. take j l) (sym e) ∙ take-suc l k x low ∙ ap (λ y. take k l ++ y ∷ []) (sym here)

pub waits_open : (n f : ℕ) (xs ys : List Bool) (ws vs : List ℕ) (b : Bool) → length xs ≡ n → ys ≡ xs ++ not b ∷ [] → b ≡ true → vs ≡ ws ++ n ∷ [] → among f ws ≡ not (get_or xs f true) → among f vs ≡ not (get_or ys f true)
waits_open n f xs ys ws vs b l e o v before =
    let here : get_or ys f true ≡ (get_or xs f true && not (eqb n f)) = ap (λ z. get_or z f true) e ∙ plain_more xs (not b) f ∙ ap (λ z. get_or xs f true && (not z || not (eqb (length xs) f))) o ∙ ap (λ k. get_or xs f true && not (eqb k f)) l in
    among_then f n ws vs v ∙ ap (λ z. z || eqb n f) before ∙ wait_open (get_or xs f true) (eqb n f) ∙ ap not (sym here)

pub waits_shut : (f : ℕ) (xs ys : List Bool) (ws vs : List ℕ) (b : Bool) → ys ≡ xs ++ not b ∷ [] → b ≡ false → vs ≡ ws → among f ws ≡ not (get_or xs f true) → among f vs ≡ not (get_or ys f true)
waits_shut f xs ys ws vs b e o v before =
    let here : get_or ys f true ≡ get_or xs f true = ap (λ z. get_or z f true) e ∙ plain_more xs (not b) f ∙ ap (λ z. get_or xs f true && (not z || not (eqb (length xs) f))) o ∙ and_all (get_or xs f true) in
    ap (among f) v ∙ before ∙ ap not (sym here)
