-- A set of names with one more.
use Rattle.std.proofs.Common.{◌≡◌, Bool, true, false, cond, ◌||◌, List, [], ◌∷◌, ◌++◌, map, reverse, Option, Some, is_some, ℕ, refl, ap, ◌∙◌, Bor}
use Rattle.std.proofs.lemmas.List.{reverse-append, map-append}

pub found_or : {X : Type 0} (here : Bool) (x : X) (others : Option X) → is_some (cond here (Some x) others) ≡ (here || is_some others)
found_or true x others = refl
found_or false x others = refl

-- the last name stands first
pub last_first : (ns : List (Bor (List ℕ))) (n : Bor (List ℕ)) → reverse (map (λ m. m.now) (ns ++ n ∷ [])) ≡ n.now ∷ reverse (map (λ m. m.now) ns)
last_first ns n = ap reverse (map-append (λ m. m.now) ns (n ∷ [])) ∙ reverse-append (map (λ m. m.now) ns) (n.now ∷ [])
