-- Names in a row, and the last of a name.
use Rattle.std.specs.Prelude.{◌≡◌, refl, ℕ, zero, suc, Bool, List, [], ◌∷◌, ◌++◌, Option, Some, None, fold, is_some, if◌then◌else◌}
use Rattle.std.specs.Str.{bytes_eq}

-- a place after the first, or the first if the name stands there
abbrev pub or_here : Bool → Option ℕ → Option ℕ
or_here here None = if here then Some zero else None
or_here here (Some i) = Some (suc i)

-- the last place of this name
abbrev pub last_place : List (List ℕ) → List ℕ → Option ℕ
last_place [] name = None
last_place (n ∷ ns) name = or_here (bytes_eq n name) (last_place ns name)

-- a name is added once
abbrev pub names_with : List (List ℕ) → List ℕ → List (List ℕ)
names_with names name = if is_some (last_place names name) then names else names ++ name ∷ []

-- the names without the last
abbrev pub front : List (List ℕ) → List (List ℕ)
front [] = []
front (n ∷ []) = []
front (n ∷ m ∷ ns) = n ∷ front (m ∷ ns)

-- names that are added from two lists are those of the first, and then those of the second
pub names_both : (made a b : List (List ℕ)) → fold names_with made (a ++ b) ≡ fold names_with (fold names_with made a) b
names_both made [] b = refl
names_both made (n ∷ a) b = names_both (names_with made n) a b
