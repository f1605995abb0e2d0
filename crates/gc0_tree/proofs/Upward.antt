-- The number of a place among places, by how many come before it and how many up to it.
use Rattle.std.proofs.Common.{◌≡◌, ℕ, ◌+◌, Bool, true, false, cond, nat_lt, List, [], ◌∷◌, refl, sym, ap, ◌∙◌, arith, ◌<◌, ◌≤◌}
use Rattle.std.proofs.lemmas.List.Sums.{sum_by-cons}
use Rattle.std.specs.Prelude.{count_by, not, ◌&&◌, nat_le}
use Rattle.gc0_base.specs.declared.place.Place.{Place}
use Rattle.gc0_tree.specs.Sites.{text_key, is_before, has_number}

up_to : (a b : ℕ) → not (nat_lt a b) ≡ nat_lt b (a + 1)
up_to a b = grind arith

counted_up_to : (a : ℕ) (xs : List Place) → count_by (λ t. not (nat_lt a (text_key t))) xs ≡ count_by (λ t. nat_lt (text_key t) (a + 1)) xs
counted_up_to a [] = refl
counted_up_to a (x ∷ xs) =
    let p : Place → Bool = λ t. not (nat_lt a (text_key t)) in
    let q : Place → Bool = λ t. nat_lt (text_key t) (a + 1) in
    sum_by-cons (λ t. cond (p t) 1 0) x xs
    ∙ ap (λ b. cond b 1 0 + count_by p xs) (up_to a (text_key x))
    ∙ ap (λ n. cond (q x) 1 0 + n) (counted_up_to a xs)
    ∙ sym (sum_by-cons (λ t. cond (q t) 1 0) x xs)

not_below : (n b : ℕ) → b ≤ n → nat_lt n b ≡ false
not_below n b le = grind arith

is_below : (n b : ℕ) → n < b → nat_lt n b ≡ true
is_below n b lt = grind arith

not_up : (n b : ℕ) → n < b → nat_le b n ≡ false
not_up n b lt = grind arith

-- enough stand before it: the second test decides
pub behind_enough : (xs : List Place) (at : Place) (n k before upto : ℕ) → k ≡ text_key at → before ≡ count_by (λ t. nat_lt (text_key t) k) xs → upto ≡ count_by (λ t. nat_lt (text_key t) (k + 1)) xs → before ≤ n → nat_lt n upto ≡ has_number xs n at
behind_enough xs at n k before upto ek eb eu le =
    let b : before ≡ count_by (λ t. is_before t at) xs = eb ∙ ap (λ m. count_by (λ t. nat_lt (text_key t) m) xs) ek in
    let u : upto ≡ count_by (λ t. not (is_before at t)) xs = eu ∙ ap (λ m. count_by (λ t. nat_lt (text_key t) (m + 1)) xs) ek ∙ sym (counted_up_to (text_key at) xs) in
    let f : nat_lt n (count_by (λ t. is_before t at) xs) ≡ false = sym (ap (nat_lt n) b) ∙ not_below n before le in
    ap (nat_lt n) u ∙ sym (ap (λ t. not t && nat_lt n (count_by (λ t. not (is_before at t)) xs)) f)

-- too many stand before it
pub behind_more : (xs : List Place) (at : Place) (n k before : ℕ) → k ≡ text_key at → before ≡ count_by (λ t. nat_lt (text_key t) k) xs → n < before → nat_le before n ≡ has_number xs n at
behind_more xs at n k before ek eb lt =
    let b : before ≡ count_by (λ t. is_before t at) xs = eb ∙ ap (λ m. count_by (λ t. nat_lt (text_key t) m) xs) ek in
    let f : nat_lt n (count_by (λ t. is_before t at) xs) ≡ true = sym (ap (nat_lt n) b) ∙ is_below n before lt in
    not_up n before lt ∙ sym (ap (λ t. not t && nat_lt n (count_by (λ t. not (is_before at t)) xs)) f)
