-- The first names, without the last.
use Rattle.std.proofs.Common.{◌≡◌, ℕ, zero, suc, ◌<◌, ◌≤◌, List, [], ◌∷◌, ◌++◌, length, take, refl, ap, ◌∙◌, sym, arith}
use Rattle.std.proofs.lemmas.List.{take-append-le, length-append}
use Rattle.c0_names.specs.Names.{front}

pub take-front : (n : ℕ) (names : List (List ℕ)) → n < length names → take n (front names) ≡ take n names
take-front zero names h = refl
take-front (suc n) [] h = absurd (omega arith)
take-front (suc n) (x ∷ []) h = absurd (omega arith)
take-front (suc n) (x ∷ y ∷ names) h = ap (λ l. x ∷ l) (take-front n (y ∷ names) (omega arith))

pub length-front : (names : List (List ℕ)) → 0 < length names → suc (length (front names)) ≡ length names
length-front [] h = absurd (omega arith)
length-front (x ∷ []) h = refl
length-front (x ∷ y ∷ names) h = ap suc (length-front (y ∷ names) (omega arith))

pub take-popped : {X : Type 0} (n : ℕ) (old left : List X) (x : X) → old ≡ left ++ x ∷ [] → n < length old → take n left ≡ take n old
take-popped n old left x e h =
    let within : n ≤ length left = omega (arith, length-append left (x ∷ []), ap length e) in
    sym (take-append-le n left (x ∷ []) within) ∙ ap (take n) (sym e)
