-- What several pushes add, one after the other.
use Rattle.std.proofs.Common.{◌≡◌, List, ◌++◌, OnOk, Ok, Err, Result, sym, ap, ◌∙◌, append_assoc}

pub joined_2 : {X E : Type 0} (r : Result (Unit {0}) E) (new mid old a b all : List X) → OnOk r (new ≡ mid ++ b) → mid ≡ old ++ a → all ≡ a ++ b → OnOk r (new ≡ old ++ all)
joined_2 (Err e) new mid old a b all h m g = tt
joined_2 (Ok u) new mid old a b all h m g = h ∙ ap (λ l. l ++ b) m ∙ append_assoc old a b ∙ ap (λ l. old ++ l) (sym g)

pub joined_3 : {X E : Type 0} (r : Result (Unit {0}) E) (new n m old a b c all : List X) → OnOk r (new ≡ n ++ c) → n ≡ m ++ b → m ≡ old ++ a → all ≡ a ++ (b ++ c) → OnOk r (new ≡ old ++ all)
joined_3 r new n m old a b c all h g f e = joined_2 r new n old (a ++ b) c all h (g ∙ ap (λ l. l ++ b) f ∙ append_assoc old a b) (e ∙ sym (append_assoc a b c))

pub joined_5 : {X E : Type 0} (r : Result (Unit {0}) E) (new q o n m old a b c d e all : List X) → OnOk r (new ≡ q ++ e) → q ≡ o ++ d → o ≡ n ++ c → n ≡ m ++ b → m ≡ old ++ a → all ≡ a ++ (b ++ (c ++ (d ++ e))) → OnOk r (new ≡ old ++ all)
joined_5 r new q o n m old a b c d e all h5 h4 h3 h2 h1 g =
    joined_3 r new q n old (a ++ b) (c ++ d) e all h5 (h4 ∙ ap (λ l. l ++ d) h3 ∙ append_assoc n c d) (h2 ∙ ap (λ l. l ++ b) h1 ∙ append_assoc old a b)
    (g ∙ sym (append_assoc a b (c ++ (d ++ e))) ∙ ap (λ l. (a ++ b) ++ l) (sym (append_assoc c d e)))
