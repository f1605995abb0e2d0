-- An index of names: it knows the last place of each name, and for each place the place before of the same name.
use Rattle.std.specs.Prelude.{◌≡◌, ℕ, List, [], ◌∷◌, ◌++◌, Option, Some, None}
use Rattle.std.specs.Str.{bytes_eq}
use Rattle.std.specs.HashMap.{HashMap, get_by}
use denote.Ref.{Bor}
use Rattle.c0_names.specs.Names.{last_place}

-- a name that was taken out stays with no place
abbrev pub flat : Option (Option ℕ) → Option ℕ
flat None = None
flat (Some i) = i

abbrev pub last_in : {S : Type 0} → HashMap (Bor (List ℕ)) (Option ℕ) S → List ℕ → Option ℕ
last_in m name = flat (get_by (λ k. bytes_eq name k.now) m)

-- the place before of each of these names, behind others
abbrev pub shadowed : (behind : List (List ℕ)) → List (List ℕ) → List (Option ℕ)
shadowed behind [] = []
shadowed behind (n ∷ ns) = last_place behind n ∷ shadowed (behind ++ n ∷ []) ns

pub record IsIndexed {S : Type 0} (names : List (List ℕ)) (before : List (Option ℕ)) (last : HashMap (Bor (List ℕ)) (Option ℕ) S) : Type 0 where
  pub found : (name : List ℕ) → last_in last name ≡ last_place names name
  pub shadows : before ≡ shadowed [] names
