-- Lists of watchers, one for each literal.
use Rattle.std.proofs.Common.{◌≡◌, ◌∙◌, ◌≢◌, ℕ, zero, suc, ◌-◌, ◌<◌, ◌≤◌, true, false, List, [], ◌∷◌, ◌++◌, Some, length, set, get_or, take, arith, refl, sym, ap, subst, inl, inr, Vec}
use Rattle.std.specs.declared.alloc.Global.{Global}
use Rattle.std.specs.List.{Contains, slice_get, swap_remove}
use Rattle.std.proofs.lemmas.Bool.{cases_eq, cases_Bool}
use Rattle.std.proofs.lemmas.Option.{slice_get_within, slice_get-get_or, get_or_from_slice_get, same_Some, none-some}
use Rattle.std.proofs.lemmas.List.{length-set}
use Rattle.sat_check.specs.declared.clause.Lit.{Lit}
use Rattle.sat_check.specs.Literals.{same_lit, Contains-at}
use Rattle.search_state.specs.declared.watches.Watcher.{Watcher}
use Rattle.search_state.specs.declared.watches.Watches.{Watches}
use Rattle.search_state.specs.Watches.{list_at, watchers_of, IsWrittenAt, IsWritten}

pub list_at-set_same : (lists : List (Vec Watcher Global)) (place : ℕ) (w : Vec Watcher Global) → place < length lists → list_at (set lists place w) place ≡ w.items
list_at-set_same [] place w h = absurd (omega arith)
list_at-set_same (v ∷ lists) zero w h = refl
list_at-set_same (v ∷ lists) (suc place) w h = list_at-set_same lists place w (omega arith)

pub list_at-set_other : (lists : List (Vec Watcher Global)) (place other : ℕ) (w : Vec Watcher Global) → (other ≡ place → ⊥) → list_at (set lists place w) other ≡ list_at lists other
list_at-set_other [] place other w h = refl
list_at-set_other (v ∷ lists) zero zero w h = absurd (h refl)
list_at-set_other (v ∷ lists) zero (suc other) w h = refl
list_at-set_other (v ∷ lists) (suc place) zero w h = refl
list_at-set_other (v ∷ lists) (suc place) (suc other) w h = list_at-set_other lists place other w (λ e. h (ap suc e))

pub list_at-get_or : (lists : List (Vec Watcher Global)) (place : ℕ) (d : Vec Watcher Global) → place < length lists → list_at lists place ≡ (get_or lists place d).items
list_at-get_or [] place d h = absurd (omega arith)
list_at-get_or (v ∷ lists) zero d h = refl
list_at-get_or (v ∷ lists) (suc place) d h = list_at-get_or lists place d (omega arith)

pub list_at-push : (lists : List (Vec Watcher Global)) (v : Vec Watcher Global) → v.items ≡ [] → ((place : ℕ) → list_at lists place ≡ []) → (place : ℕ) → list_at (lists ++ v ∷ []) place ≡ []
list_at-push [] v none all zero = none
list_at-push [] v none all (suc place) = refl
list_at-push (w ∷ lists) v none all zero = all zero
list_at-push (w ∷ lists) v none all (suc place) = list_at-push lists v none (λ p. all (suc p)) place

pub IsWrittenAt-set : (lists : List (Vec Watcher Global)) (place : ℕ) (w : Vec Watcher Global) (list : List Watcher) → place < length lists → w.items ≡ list → IsWrittenAt lists (set lists place w) place list
IsWrittenAt-set lists place w list within is =
    record {
      at = list_at-set_same lists place w within ∙ is;
      others = λ other differs. list_at-set_other lists place other w differs;
      len = length-set lists place w;
    }

pub IsWritten-positive :
    (old new : Watches) (lit : Lit) (list list' : List Watcher) → lit.positive ≡ true → new.negative.items ≡ old.negative.items → new.pairs.items ≡ old.pairs.items
    → IsWrittenAt old.positive.items new.positive.items lit.variable list → list ≡ list' → IsWritten old new lit list'
IsWritten-positive old new lit list list' is negative pairs written same =
    record {
      at = rw is (written.at ∙ same);
      others = λ other differs.
          elim (cases_Bool other.positive) [
            | inl sign ↦ rw sign (written.others other.variable (λ e. differs (same_lit other lit e (sign ∙ sym is))))
            | inr sign ↦ rw sign (ap (λ (l : List (Vec Watcher Global)). list_at l other.variable) negative)
          ];
      positive_len = written.len;
      negative_len = ap (λ (l : List (Vec Watcher Global)). length l) negative;
      pairs = pairs;
    }

pub IsWritten-negative :
    (old new : Watches) (lit : Lit) (list list' : List Watcher) → lit.positive ≡ false → new.positive.items ≡ old.positive.items → new.pairs.items ≡ old.pairs.items
    → IsWrittenAt old.negative.items new.negative.items lit.variable list → list ≡ list' → IsWritten old new lit list'
IsWritten-negative old new lit list list' is positive pairs written same =
    record {
      at = rw is (written.at ∙ same);
      others = λ other differs.
          elim (cases_Bool other.positive) [
            | inl sign ↦ rw sign (ap (λ (l : List (Vec Watcher Global)). list_at l other.variable) positive)
            | inr sign ↦ rw sign (written.others other.variable (λ e. differs (same_lit other lit e (sign ∙ sym is))))
          ];
      positive_len = ap (λ (l : List (Vec Watcher Global)). length l) positive;
      negative_len = written.len;
      pairs = pairs;
    }

pub watchers-positive : (w : Watches) (lit : Lit) → lit.positive ≡ true → list_at w.positive.items lit.variable ≡ watchers_of w lit
watchers-positive w lit is = rw is refl

pub watchers-negative : (w : Watches) (lit : Lit) → lit.positive ≡ false → list_at w.negative.items lit.variable ≡ watchers_of w lit
watchers-negative w lit is = rw is refl

-- ---- one element taken out

module _ {X : Type 0} where
  pub set-at : (xs : List X) (i : ℕ) (x : X) (k : ℕ) → k ≢ i → slice_get (set xs i x) k ≡ slice_get xs k
  set-at [] i x k h = refl
  set-at (y ∷ xs) zero x zero h = absurd (h refl)
  set-at (y ∷ xs) zero x (suc k) h = refl
  set-at (y ∷ xs) (suc i) x zero h = refl
  set-at (y ∷ xs) (suc i) x (suc k) h = set-at xs i x k (λ e. h (ap suc e))

  pub take-at : (n : ℕ) (xs : List X) (k : ℕ) → k < n → slice_get (take n xs) k ≡ slice_get xs k
  take-at zero xs k h = absurd (omega arith)
  take-at (suc n) [] k h = refl
  take-at (suc n) (y ∷ xs) zero h = refl
  take-at (suc n) (y ∷ xs) (suc k) h = take-at n xs k (omega arith)

  take-none : (n : ℕ) (xs : List X) (k : ℕ) (x : X) → slice_get (take n xs) k ≡ Some x → k < n
  take-none zero xs k x at = absurd (none-some x at)
  take-none (suc n) [] k x at = absurd (none-some x at)
  take-none (suc n) (y ∷ xs) zero x at = omega arith
  take-none (suc n) (y ∷ xs) (suc k) x at = omega (arith, take-none n xs k x at)

  set-same : (xs : List X) (i : ℕ) (x : X) → i < length xs → slice_get (set xs i x) i ≡ Some x
  set-same [] i x h = absurd (omega arith)
  set-same (y ∷ xs) zero x h = refl
  set-same (y ∷ xs) (suc i) x h = set-same xs i x (omega arith)

  -- another element is still there, and no earlier than before or than the place
  pub swap_remove-keeps :
      (xs : List X) (i : ℕ) (d : X) (k : ℕ) (x : X) → i < length xs → k ≢ i → slice_get xs k ≡ Some x
      → (place : ℕ) × (slice_get (swap_remove xs i d) place ≡ Some x) × ((from : ℕ) → from ≤ i → from ≤ k → from ≤ place)
  swap_remove-keeps xs i d k x within differs at =
      let n = length xs - 1 in
      let last = get_or xs n d in
      let inside : k < length xs = slice_get_within xs k x at in
      elim (cases_eq k n) [
        | inl same ↦
            let is : last ≡ x = get_or_from_slice_get xs n x d (subst (λ (m : ℕ). slice_get xs m ≡ Some x) same at) in
            (i, take-at n (set xs i last) i (omega arith) ∙ set-same xs i last within ∙ ap (λ (y : X). Some y) is, λ from low high. low)
        | inr apart ↦ (k, take-at n (set xs i last) k (omega arith) ∙ set-at xs i last k differs ∙ at, λ from low high. high)
      ]

  -- and all that is there was there before
  pub swap_remove-among : (xs : List X) (i : ℕ) (d : X) (k : ℕ) (x : X) → i < length xs → slice_get (swap_remove xs i d) k ≡ Some x → Contains xs x
  swap_remove-among xs i d k x within at =
      let n = length xs - 1 in
      let last = get_or xs n d in
      let below : k < n = take-none n (set xs i last) k x at in
      let there : slice_get (set xs i last) k ≡ Some x = sym (take-at n (set xs i last) k below) ∙ at in
      elim (cases_eq k i) [
        | inl same ↦
            let is : last ≡ x = same_Some last x (sym (set-same xs i last within) ∙ subst (λ (m : ℕ). slice_get (set xs i last) m ≡ Some x) same there) in
            let m : n < length xs = omega arith in
            Contains-at xs n x (slice_get-get_or xs n d m ∙ ap (λ (y : X). Some y) is)
        | inr apart ↦ Contains-at xs k x (sym (set-at xs i last k apart) ∙ there)
      ]
