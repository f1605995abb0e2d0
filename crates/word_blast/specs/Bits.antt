-- Words as lists of bits, least first: their numbers, and what the gates of a group make of them.
use Rattle.std.specs.Prelude.{ℕ, zero, suc, ◌+◌, ◌*◌, ◌^◌, ◌%◌, ◌/◌, Bool, true, false, not, ◌&&◌, eqb, List, [], ◌∷◌, ◌++◌, map, length, take, drop, replicate}
use Rattle.word_terms.specs.Terms.{truth_word}
use Rattle.word_blast.specs.declared.gate.Gate.{Gate}
use Rattle.word_blast.specs.declared.gate.Gate.TheVariants as gate
use Rattle.word_blast.specs.Gates.{gate_value}

-- the number of bits
abbrev pub number : List Bool → ℕ
number [] = 0
number (b ∷ bs) = truth_word b + 2 * number bs

-- the least bits of a number, so many
abbrev pub bits_of : ℕ → ℕ → List Bool
bits_of zero n = []
bits_of (suc w) n = eqb (n % 2) 1 ∷ bits_of w (n / 2)

module _ {A : Type 0} where
  -- the least bit and the greatest, or another where there is none
  abbrev pub least : A → List A → A
  least d [] = d
  least d (x ∷ xs) = x

  abbrev pub greatest : A → List A → A
  greatest d [] = d
  greatest d (x ∷ xs) = greatest x xs

  -- with the greatest bit changed
  abbrev pub top_changed : (A → A) → List A → List A
  top_changed f [] = []
  top_changed f (x ∷ []) = f x ∷ []
  top_changed f (x ∷ y ∷ ys) = x ∷ top_changed f (y ∷ ys)

  -- moved up with zeros below, and moved down with copies of a bit above
  abbrev pub moved_up : A → ℕ → List A → List A
  moved_up z n xs = take (length xs) (replicate n z ++ xs)

  abbrev pub moved_down : A → ℕ → List A → List A
  moved_down s n xs = take (length xs) (drop n xs ++ replicate n s)

abbrev pub each_value : Gate → List Bool → List Bool → Bool → List Bool
each_value g [] ys z = []
each_value g (x ∷ xs) [] z = []
each_value g (x ∷ xs) (y ∷ ys) z = gate_value g x y z ∷ each_value g xs ys z

abbrev pub sum_value : List Bool → List Bool → Bool → List Bool
sum_value [] ys c = []
sum_value (x ∷ xs) [] c = []
sum_value (x ∷ xs) (y ∷ ys) c = gate_value gate.Sum x y c ∷ sum_value xs ys (gate_value gate.Carry x y c)

abbrev pub carry_value : List Bool → List Bool → Bool → Bool
carry_value [] ys c = c
carry_value (x ∷ xs) [] c = c
carry_value (x ∷ xs) (y ∷ ys) c = carry_value xs ys (gate_value gate.Carry x y c)

abbrev pub all_value : Bool → List Bool → Bool
all_value b [] = b
all_value b (x ∷ xs) = all_value (b && x) xs

abbrev pub barrel_value : (ℕ → List Bool → List Bool) → ℕ → List Bool → List Bool → List Bool
barrel_value move j [] xs = xs
barrel_value move j (y ∷ ys) xs = barrel_value move (suc j) ys (each_value gate.Pick (move (2 ^ j) xs) xs y)

abbrev pub product_value : List Bool → List Bool → List Bool
product_value xs [] = []
product_value xs (y ∷ ys) =
    sum_value (false ∷ product_value xs ys) (each_value gate.And (take (suc (length ys)) xs) (replicate (suc (length ys)) y) false) false

-- the remainder and the quotient of the magnitudes

abbrev pub rest_value : List Bool → List Bool → List Bool
rest_value [] ys = replicate (length ys) false
rest_value (x ∷ xs) ys =
    let rest = x ∷ rest_value xs ys in
    let subtrahend = map not (ys ++ false ∷ []) in
    each_value gate.Pick (take (length ys) (sum_value rest subtrahend true)) (take (length ys) rest) (carry_value rest subtrahend true)

abbrev pub quotient_value : List Bool → List Bool → List Bool
quotient_value [] ys = []
quotient_value (x ∷ xs) ys = carry_value (x ∷ rest_value xs ys) (map not (ys ++ false ∷ [])) true ∷ quotient_value xs ys

abbrev pub signed_value : Bool → List Bool → List Bool
signed_value s xs = sum_value (replicate (length xs) false) (each_value gate.Xor xs (replicate (length xs) s) false) s
