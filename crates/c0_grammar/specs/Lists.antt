-- Parts one after another.
use Rattle.std.specs.Prelude.{ℕ, max, List, [], ◌∷◌}
use Rattle.c0_grammar.specs.Tokens.{Token}

-- their tokens, in front of others
abbrev pub spell_all : {A : Type 0} → (A → List Token → List Token) → List A → List Token → List Token
spell_all f [] rest = rest
spell_all f (x ∷ xs) rest = f x (spell_all f xs rest)

-- each of them
abbrev pub Each : {A : Type 0} → (A → Type 0) → List A → Type 0
Each P [] = Unit {0}
Each P (x ∷ xs) = P x × Each P xs

-- the greatest depth of one of them
abbrev pub depth_all : {A : Type 0} → (A → ℕ) → List A → ℕ
depth_all f [] = 0
depth_all f (x ∷ xs) = max (f x) (depth_all f xs)
