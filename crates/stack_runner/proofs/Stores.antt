-- What is left of the frames on a store when its top changes.
use Rattle.std.proofs.Common.{◌≡◌, ℕ, zero, suc, ◌+◌, ◌-◌, ◌<◌, ◌≤◌, max, min, List, [], ◌∷◌, ◌++◌, length, map, reverse, take, drop, set, get_or, replicate, slice_range, refl, sym, ap, ◌∙◌, subst, arith, length-append, inl, inr}
use Rattle.std.proofs.lemmas.List.{reverse-append, reverse-reverse, take-append-le, drop-append-le, take-take, drop-take, drop-drop, drop_all, take_all, drop_at, take_at, length-drop, length-take-le, length-reverse, length-replicate, take-append-drop}
use Rattle.std.proofs.lemmas.Bool.{cases_lt}
use Rattle.stack_runner.specs.States.{operands_at}

-- one more operand
pub operands-append : (floor : ℕ) (v : List ℕ) (x : ℕ) → floor ≤ length v → operands_at floor (v ++ x ∷ []) ≡ x ∷ operands_at floor v
unfolding operands_at
operands-append floor v x h = ap reverse (drop-append-le floor v (x ∷ []) h) ∙ reverse-append (drop floor v) (x ∷ [])

pub range-append : (base floor : ℕ) (v ys : List ℕ) → base ≤ floor → floor ≤ length v → slice_range (v ++ ys) base floor ≡ slice_range v base floor
range-append base floor v ys o h =
    ap (take (floor - base)) (drop-append-le base v ys (omega arith))
    ∙ take-append-le (floor - base) (drop base v) ys (omega (arith, length-drop base v))

pub operands-none : (floor : ℕ) (v : List ℕ) → length v ≤ floor → operands_at floor v ≡ []
unfolding operands_at
operands-none floor v h = ap reverse (drop_all floor v h)

-- the list from behind: what of it is within and what is past its first so many
split_back : (k n : ℕ) (xs : List ℕ) → k + n ≡ length xs → (reverse (take n (reverse xs)) ≡ drop k xs) × (drop n (reverse xs) ≡ reverse (take k xs))
split_back k n xs e =
    let both : reverse xs ≡ reverse (drop k xs) ++ reverse (take k xs) = ap reverse (sym (take-append-drop k xs)) ∙ reverse-append (take k xs) (drop k xs) in
    let long : length (reverse (drop k xs)) ≡ n = omega (arith, length-reverse (drop k xs), length-drop k xs) in (
      ap (λ l. reverse (take n l)) both ∙ ap reverse (take_at (reverse (drop k xs)) (reverse (take k xs)) n long) ∙ reverse-reverse (drop k xs),
      ap (drop n) both ∙ drop_at (reverse (drop k xs)) (reverse (take k xs)) n long,
    )

none_left : (n : ℕ) (xs : List ℕ) → length xs ≤ n → length xs - n ≡ 0
none_left n xs h = omega arith

-- the top operands are the end of the store
pub top_operands : (n : ℕ) (xs : List ℕ) → reverse (take n (reverse xs)) ≡ drop (length xs - n) xs
top_operands n xs =
    elim (cases_lt n (length xs)) [
      | inl h ↦ (split_back (length xs - n) n xs (omega arith)).0
      | inr h ↦ ap reverse (take_all n (reverse xs) (omega (arith, length-reverse xs))) ∙ reverse-reverse xs ∙ sym (ap (λ k. drop k xs) (none_left n xs h))
    ]

pub rest_of_operands : (n : ℕ) (xs : List ℕ) → drop n (reverse xs) ≡ reverse (take (length xs - n) xs)
rest_of_operands n xs =
    elim (cases_lt n (length xs)) [
      | inl h ↦ (split_back (length xs - n) n xs (omega arith)).1
      | inr h ↦ drop_all n (reverse xs) (omega (arith, length-reverse xs)) ∙ sym (ap (λ k. reverse (take k xs)) (none_left n xs h))
    ]

pub take-set_in : (n : ℕ) (xs : List ℕ) (i x : ℕ) → take n (set xs i x) ≡ set (take n xs) i x
take-set_in zero xs i x = refl
take-set_in (suc n) [] i x = refl
take-set_in (suc n) (y ∷ ys) zero x = refl
take-set_in (suc n) (y ∷ ys) (suc i) x = ap (λ l. y ∷ l) (take-set_in n ys i x)

-- the end of the operands, from the floor on
pub end_of_operands : (floor n cut : ℕ) (v : List ℕ) → floor ≤ length v → cut ≡ max floor (length v - n) → reverse (take n (operands_at floor v)) ≡ drop cut v
unfolding operands_at
end_of_operands floor n cut v h e =
    top_operands n (drop floor v) ∙ drop-drop (length (drop floor v) - n) floor v
    ∙ ap (λ k. drop k v) (let k : floor + (length (drop floor v) - n) ≡ cut = omega (arith, length-drop floor v) in k)

-- the words of a caller and of a callee that begins on its top operands
pub record AreEntered (base floor n z cut top : ℕ) (v w : List ℕ) : Type 0 where
  pub locals : reverse (take n (operands_at floor v)) ++ replicate z 0 ≡ slice_range w cut top
  pub operands : [] ≡ operands_at top w
  pub left : drop n (operands_at floor v) ≡ operands_at floor (take cut w)
  pub kept : slice_range v base floor ≡ slice_range (take cut w) base floor
  pub below : take base v ≡ take base (take cut w)

pub are_entered : (base floor n z cut top long : ℕ) (v w : List ℕ) → base ≤ floor → floor ≤ length v → cut ≡ max floor (length v - n) → top ≡ length v + z → long ≡ length v → w ≡ take top v ++ replicate (top - long) 0 → AreEntered base floor n z cut top v w
unfolding operands_at
are_entered base floor n z cut top long v w o h e t l is =
    let is' : w ≡ v ++ replicate z 0 = is ∙ ap (λ l. l ++ replicate (top - long) 0) (take_all top v (omega arith)) ∙ ap (λ k. v ++ replicate k 0) (let k : top - long ≡ z = omega arith in k) in
    let below_cut : take cut w ≡ take cut v = ap (take cut) is' ∙ take-append-le cut v (replicate z 0) (omega arith) in
    let m = length (drop floor v) - n in
    let cut_is : cut ≡ floor + m = omega (arith, length-drop floor v) in
    let from_cut : drop cut w ≡ drop cut v ++ replicate z 0 = ap (drop cut) is' ∙ drop-append-le cut v (replicate z 0) (omega arith) in
    let base_cut : base + (cut - base) ≡ cut = omega arith in
    let from_base : drop base (take cut v) ≡ take (cut - base) (drop base v) = ap (λ k. drop base (take k v)) (sym base_cut) ∙ drop-take base (cut - base) v in
    record {
      locals = ap (λ l. l ++ replicate z 0) (end_of_operands floor n cut v h e)
          ∙ sym (ap (take (top - cut)) from_cut ∙ take_all (top - cut) (drop cut v ++ replicate z 0) (omega (arith, length-append (drop cut v) (replicate z 0), length-drop cut v, length-replicate {A = ℕ} z 0)));
      operands = sym (operands-none top w (omega (arith, ap length is', length-append v (replicate z 0), length-replicate {A = ℕ} z 0)));
      left = rest_of_operands n (drop floor v) ∙ ap reverse (sym (drop-take floor m v)) ∙ ap (λ k. reverse (drop floor (take k v))) (sym cut_is) ∙ ap (λ l. reverse (drop floor l)) (sym below_cut);
      kept = sym (ap (λ l. slice_range l base floor) below_cut ∙ ap (take (floor - base)) from_base ∙ take-take (floor - base) (cut - base) (drop base v) (omega arith));
      below = sym (ap (take base) below_cut ∙ take-take base cut v (omega arith));
    }
