-- What several pushes add, one after the other.
use Rattle.std.proofs.Common.{◌≡◌, ℕ, List, ◌++◌, OnOk, Ok, Err, Result, sym, ap, ◌∙◌, append_assoc}

pub joined_2 : {E : Type 0} (r : Result (Unit {0}) E) (new mid old a b all : List ℕ) → OnOk r (new ≡ mid ++ b) → mid ≡ old ++ a → all ≡ a ++ b → OnOk r (new ≡ old ++ all)
joined_2 (Err e) new mid old a b all h m g = tt
joined_2 (Ok u) new mid old a b all h m g = h ∙ ap (λ l. l ++ b) m ∙ append_assoc old a b ∙ ap (λ l. old ++ l) (sym g)

pub joined_3 : {E : Type 0} (r : Result (Unit {0}) E) (new second first old a b c all : List ℕ)
    → OnOk r (new ≡ second ++ c) → second ≡ first ++ b → first ≡ old ++ a → all ≡ a ++ (b ++ c) → OnOk r (new ≡ old ++ all)
joined_3 r new second first old a b c all h g f e =
    joined_2 r new second old (a ++ b) c all h (g ∙ ap (λ l. l ++ b) f ∙ append_assoc old a b) (e ∙ sym (append_assoc a b c))
