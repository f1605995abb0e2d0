-- Structs without a definition.
use Rattle.std.proofs.Common.{◌≡◌, ℕ, List, [], ◌∷◌, map, length, Option, None, refl, ap}
use Rattle.std.proofs.Math.ListN.{replicate}

pub none_of_each : {X : Type 0} (names : List (List ℕ)) → (let n : Option X = None in replicate (length names) n ≡ map (λ m. n) names)
none_of_each [] = refl
none_of_each {X} (n ∷ ns) = let e : Option X = None in ap (λ l. e ∷ l) (none_of_each ns)
