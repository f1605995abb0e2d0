-- What the parts of a choice add, one after the other.
use Rattle.std.proofs.Common.{◌≡◌, ℕ, List, ◌++◌, OnOk, Ok, Err, Result, ap, ◌∙◌, append_assoc}
use Rattle.std.specs.Prelude.{codes}

pub on_ok : {A B E : Type 0} (r : Result (Unit {0}) E) → OnOk r A → (A → B) → OnOk r B
on_ok (Ok u) h f = f h
on_ok (Err e) h f = tt

put : (new old x y : List ℕ) → new ≡ old ++ x → new ++ y ≡ old ++ (x ++ y)
put new old x y e = ap (λ l. l ++ y) e ∙ append_assoc old x y

pub choice_put : (old front q a b d e w t1 t2 t3 t4 t5 t6 t7 t8 t9 new : List ℕ)
    → t1 ≡ old ++ front → t2 ≡ t1 ++ codes "(" → t3 ≡ t2 ++ q → t4 ≡ t3 ++ codes " ? " → t5 ≡ t4 ++ a → t6 ≡ t5 ++ b
    → t7 ≡ t6 ++ codes " : " → t8 ≡ t7 ++ d → t9 ≡ t8 ++ e → new ≡ t9 ++ codes ")"
    → new ++ w ≡ old ++ (front ++ (codes "(" ++ (q ++ (codes " ? " ++ (a ++ (b ++ (codes " : " ++ (d ++ (e ++ (codes ")" ++ w))))))))))
choice_put old front q a b d e w t1 t2 t3 t4 t5 t6 t7 t8 t9 new e1 e2 e3 e4 e5 e6 e7 e8 e9 last =
    let y9 : List ℕ = codes ")" ++ w in
    let y8 : List ℕ = e ++ y9 in
    let y7 : List ℕ = d ++ y8 in
    let y6 : List ℕ = codes " : " ++ y7 in
    let y5 : List ℕ = b ++ y6 in
    let y4 : List ℕ = a ++ y5 in
    let y3 : List ℕ = codes " ? " ++ y4 in
    let y2 : List ℕ = q ++ y3 in
    let y1 : List ℕ = codes "(" ++ y2 in
    put new t9 (codes ")") w last
    ∙ put t9 t8 e y9 e9
    ∙ put t8 t7 d y8 e8
    ∙ put t7 t6 (codes " : ") y7 e7
    ∙ put t6 t5 b y6 e6
    ∙ put t5 t4 a y5 e5
    ∙ put t4 t3 (codes " ? ") y4 e4
    ∙ put t3 t2 q y3 e3
    ∙ put t2 t1 (codes "(") y2 e2
    ∙ put t1 old front y1 e1
