-- How many elements of a list pass a test that the front of the list passes, and nothing behind.
use Rattle.std.proofs.Common.{◌≡◌, ℕ, zero, suc, ◌+◌, ◌<◌, ◌≤◌, Bool, true, false, cond, List, [], ◌∷◌, length, ap, arith, get_or}
use Rattle.std.specs.Prelude.{count_by}
use Rattle.std.proofs.lemmas.List.Sums.{sum_by-cons}

pub counted : {X : Type 0} (p : X → Bool) (xs : List X) (i : ℕ) → i ≤ length xs → ((k : ℕ) (d : X) → k < i → p (get_or xs k d) ≡ true) → ((k : ℕ) (d : X) → i ≤ k → k < length xs → p (get_or xs k d) ≡ false) → i ≡ count_by p xs
counted p [] i le front back = omega arith
counted p (x ∷ xs) zero le front back =
    let rest : 0 ≡ count_by p xs = counted p xs zero (omega arith) (λ k d lt. absurd (omega arith)) (λ k d low high. back (suc k) d (omega arith) (omega arith)) in
    let one : Bool → ℕ = λ b. cond b 1 0 in
    let whole : count_by p (x ∷ xs) ≡ one (p x) + count_by p xs = sum_by-cons (λ x. cond (p x) 1 0) x xs in
    let here : one (p x) ≡ 0 = ap one (back 0 x (omega arith) (omega arith)) in
    omega arith
counted p (x ∷ xs) (suc i) le front back =
    let rest : i ≡ count_by p xs = counted p xs i (omega arith) (λ k d lt. front (suc k) d (omega arith)) (λ k d low high. back (suc k) d (omega arith) (omega arith)) in
    let one : Bool → ℕ = λ b. cond b 1 0 in
    let whole : count_by p (x ∷ xs) ≡ one (p x) + count_by p xs = sum_by-cons (λ x. cond (p x) 1 0) x xs in
    let here : one (p x) ≡ 1 = ap one (front 0 x (omega arith)) in
    omega arith
