-- The texts of parts, one after another.
use Rattle.std.specs.Prelude.{ℕ, List, [], ◌∷◌, ◌++◌, Option, Some, None, codes}

-- one after another
abbrev pub all_text : {A : Type 0} → (A → List ℕ) → List A → List ℕ
all_text f [] = []
all_text f (x ∷ xs) = f x ++ all_text f xs

-- each behind a space
abbrev pub spaced_text : {A : Type 0} → (A → List ℕ) → List A → List ℕ
spaced_text f [] = []
spaced_text f (x ∷ xs) = codes " " ++ (f x ++ spaced_text f xs)

-- joined by one space
abbrev pub joined_text : {A : Type 0} → (A → List ℕ) → List A → List ℕ
joined_text f [] = []
joined_text f (x ∷ xs) = f x ++ spaced_text f xs

abbrev pub option_text : {A : Type 0} → (A → List ℕ) → Option A → List ℕ
option_text f None = []
option_text f (Some x) = f x
