-- Gates in chains: the same gate at each place, sums with their carries, and what all of a word are.
use Rattle.std.proofs.Common.{◌≡◌, ℕ, zero, suc, ◌*◌, ◌<◌, Bool, not, List, [], ◌∷◌, ◌++◌, map, length, take, drop, replicate, refl, ◌∙◌, ap, arith}
use Rattle.sat_check.specs.declared.clause.Lit.{Lit}
use Rattle.word_blast.specs.declared.gate.Gate.{Gate}
use Rattle.word_blast.specs.declared.gate.Gate.TheVariants as gate
use Rattle.word_blast.specs.Gates.{Circuit, Made, Row, gate_value, emit, bit, bits, Holds}
use Rattle.word_blast.specs.Bits.{each_value, sum_value, carry_value, all_value}
use Rattle.word_blast.specs.Groups.{flips, each, Added, add, carry, all}
use Rattle.word_blast.proofs.Gating.{bit-opposite}
use Rattle.word_blast.proofs.Building.{LitsBelow, Builds, Builds-none, Builds-then, emit-puts, Gives, Puts, inside-later, lits-later}

pub each-gives : (g : Gate) (xs ys : List Lit) (z : Lit) (k : Circuit) → LitsBelow k.variables xs → LitsBelow k.variables ys → z.variable < k.variables → length ys ≡ length xs
    → Gives k (each g xs ys z k) (length xs) (λ a. each_value g (bits a xs) (bits a ys) (bit a z))
unfolding each
each-gives g [] ys z k xb yb zb e = record { builds = Builds-none k; inside = tt; worth = λ a h. refl }
each-gives g (x ∷ xs) [] z k xb yb zb e = absurd (omega arith)
each-gives g (x ∷ xs) (y ∷ ys) z k xb yb zb e =
    let m : Made = emit g x y z k in
    let p : Puts k m 1 (λ a. gate_value g (bit a x) (bit a y) (bit a z)) = emit-puts g x y z k xb.0 yb.0 zb in
    let r : Row = each g xs ys z m.circuit in
    let q : Gives m.circuit r (length xs) (λ a. each_value g (bits a xs) (bits a ys) (bit a z)) =
    each-gives g xs ys z m.circuit (lits-later k m.circuit 1 p.builds xs xb.1) (lits-later k m.circuit 1 p.builds ys yb.1) (inside-later k m.circuit 1 p.builds z zb) (omega arith) in
    record {
      builds = Builds-then k m.circuit r.circuit 1 (length xs) (suc (length xs)) p.builds q.builds (omega arith);
      inside = (inside-later m.circuit r.circuit (length xs) q.builds m.lit p.inside, q.inside);
      worth = λ a h. ap (λ b. b ∷ bits a r.bits) (p.worth a (q.builds.keeps a h)) ∙ ap (λ bs. gate_value g (bit a x) (bit a y) (bit a z) ∷ bs) (q.worth a h);
    }

-- a sum that is built on a circuit
pub record Sums (k : Circuit) (s : Added) (n : ℕ) (f : (ℕ → Bool) → List Bool) (c : (ℕ → Bool) → Bool) : Type 0 where
  pub builds : Builds k s.circuit n
  pub inside : LitsBelow s.circuit.variables s.bits
  pub carried : s.carry.variable < s.circuit.variables
  pub worth : (a : ℕ → Bool) → Holds a s.circuit → bits a s.bits ≡ f a
  pub over : (a : ℕ → Bool) → Holds a s.circuit → bit a s.carry ≡ c a

pub add-sums : (xs ys : List Lit) (c : Lit) (k : Circuit) → LitsBelow k.variables xs → LitsBelow k.variables ys → c.variable < k.variables → length ys ≡ length xs
    → Sums k (add xs ys c k) (2 * length xs) (λ a. sum_value (bits a xs) (bits a ys) (bit a c)) (λ a. carry_value (bits a xs) (bits a ys) (bit a c))
unfolding add
add-sums [] ys c k xb yb cb e = record { builds = Builds-none k; inside = tt; carried = cb; worth = λ a h. refl; over = λ a h. refl }
add-sums (x ∷ xs) [] c k xb yb cb e = absurd (omega arith)
add-sums (x ∷ xs) (y ∷ ys) c k xb yb cb e =
    let m : Made = emit gate.Sum x y c k in
    let p : Puts k m 1 (λ a. gate_value gate.Sum (bit a x) (bit a y) (bit a c)) = emit-puts gate.Sum x y c k xb.0 yb.0 cb in
    let o : Made = emit gate.Carry x y c m.circuit in
    let later : (l : Lit) → l.variable < k.variables → l.variable < m.circuit.variables = inside-later k m.circuit 1 p.builds in
    let q : Puts m.circuit o 1 (λ a. gate_value gate.Carry (bit a x) (bit a y) (bit a c)) = emit-puts gate.Carry x y c m.circuit (later x xb.0) (later y yb.0) (later c cb) in
    let two : Builds k o.circuit 2 = Builds-then k m.circuit o.circuit 1 1 2 p.builds q.builds refl in
    let s : Added = add xs ys o.lit o.circuit in
    let r : Sums o.circuit s (2 * length xs) (λ a. sum_value (bits a xs) (bits a ys) (bit a o.lit)) (λ a. carry_value (bits a xs) (bits a ys) (bit a o.lit)) =
    add-sums xs ys o.lit o.circuit (lits-later k o.circuit 2 two xs xb.1) (lits-later k o.circuit 2 two ys yb.1) q.inside (omega arith) in
    record {
      builds = Builds-then k o.circuit s.circuit 2 (2 * length xs) (2 * suc (length xs)) two r.builds (omega arith);
      inside = (inside-later o.circuit s.circuit (2 * length xs) r.builds m.lit (inside-later m.circuit o.circuit 1 q.builds m.lit p.inside), r.inside);
      carried = r.carried;
      worth = λ a h.
          let held : Holds a o.circuit = r.builds.keeps a h in
          ap (λ b. b ∷ bits a s.bits) (p.worth a (q.builds.keeps a held)) ∙ ap (λ bs. gate_value gate.Sum (bit a x) (bit a y) (bit a c) ∷ bs) (r.worth a h ∙ ap (sum_value (bits a xs) (bits a ys)) (q.worth a held));
      over = λ a h. r.over a h ∙ ap (carry_value (bits a xs) (bits a ys)) (q.worth a (r.builds.keeps a h));
    }

pub carry-puts : (xs ys : List Lit) (c : Lit) (k : Circuit) → LitsBelow k.variables xs → LitsBelow k.variables ys → c.variable < k.variables → length ys ≡ length xs
    → Puts k (carry xs ys c k) (length xs) (λ a. carry_value (bits a xs) (bits a ys) (bit a c))
unfolding carry
carry-puts [] ys c k xb yb cb e = record { builds = Builds-none k; inside = cb; worth = λ a h. refl }
carry-puts (x ∷ xs) [] c k xb yb cb e = absurd (omega arith)
carry-puts (x ∷ xs) (y ∷ ys) c k xb yb cb e =
    let m : Made = emit gate.Carry x y c k in
    let p : Puts k m 1 (λ a. gate_value gate.Carry (bit a x) (bit a y) (bit a c)) = emit-puts gate.Carry x y c k xb.0 yb.0 cb in
    let o : Made = carry xs ys m.lit m.circuit in
    let q : Puts m.circuit o (length xs) (λ a. carry_value (bits a xs) (bits a ys) (bit a m.lit)) =
    carry-puts xs ys m.lit m.circuit (lits-later k m.circuit 1 p.builds xs xb.1) (lits-later k m.circuit 1 p.builds ys yb.1) p.inside (omega arith) in
    record {
      builds = Builds-then k m.circuit o.circuit 1 (length xs) (suc (length xs)) p.builds q.builds (omega arith);
      inside = q.inside;
      worth = λ a h. q.worth a h ∙ ap (carry_value (bits a xs) (bits a ys)) (p.worth a (q.builds.keeps a h));
    }

pub all-puts : (b : Lit) (xs : List Lit) (k : Circuit) → b.variable < k.variables → LitsBelow k.variables xs
    → Puts k (all b xs k) (length xs) (λ a. all_value (bit a b) (bits a xs))
unfolding all
all-puts b [] k bb xb = record { builds = Builds-none k; inside = bb; worth = λ a h. refl }
all-puts b (x ∷ xs) k bb xb =
    let m : Made = emit gate.And b x x k in
    let p : Puts k m 1 (λ a. gate_value gate.And (bit a b) (bit a x) (bit a x)) = emit-puts gate.And b x x k bb xb.0 xb.0 in
    let o : Made = all m.lit xs m.circuit in
    let q : Puts m.circuit o (length xs) (λ a. all_value (bit a m.lit) (bits a xs)) = all-puts m.lit xs m.circuit p.inside (lits-later k m.circuit 1 p.builds xs xb.1) in
    record {
      builds = Builds-then k m.circuit o.circuit 1 (length xs) (suc (length xs)) p.builds q.builds (omega arith);
      inside = q.inside;
      worth = λ a h. q.worth a h ∙ ap (λ c. all_value c (bits a xs)) (p.worth a (q.builds.keeps a h));
    }

-- what is as long as what
pub length-each : (g : Gate) (xs ys : List Lit) (z : Lit) (k : Circuit) → length ys ≡ length xs → length (each g xs ys z k).bits ≡ length xs
unfolding each
length-each g [] ys z k e = refl
length-each g (x ∷ xs) [] z k e = absurd (omega arith)
length-each g (x ∷ xs) (y ∷ ys) z k e = ap suc (length-each g xs ys z (emit g x y z k).circuit (omega arith))

pub length-add : (xs ys : List Lit) (c : Lit) (k : Circuit) → length ys ≡ length xs → length (add xs ys c k).bits ≡ length xs
unfolding add
length-add [] ys c k e = refl
length-add (x ∷ xs) [] c k e = absurd (omega arith)
length-add (x ∷ xs) (y ∷ ys) c k e = ap suc (length-add xs ys (emit gate.Carry x y c (emit gate.Sum x y c k).circuit).lit (emit gate.Carry x y c (emit gate.Sum x y c k).circuit).circuit (omega arith))

-- flips and copies
pub bits-flips : (a : ℕ → Bool) (ls : List Lit) → bits a (flips ls) ≡ map not (bits a ls)
bits-flips a [] = refl
bits-flips a (l ∷ ls) = ap (λ b. b ∷ bits a (flips ls)) (bit-opposite a l) ∙ ap (λ bs. not (bit a l) ∷ bs) (bits-flips a ls)

pub below-flips : (n : ℕ) (ls : List Lit) → LitsBelow n ls → LitsBelow n (flips ls)
below-flips n [] h = tt
below-flips n (l ∷ ls) h = (h.0, below-flips n ls h.1)

pub length-flips : (ls : List Lit) → length (flips ls) ≡ length ls
length-flips [] = refl
length-flips (l ∷ ls) = ap suc (length-flips ls)

pub length-bits : (a : ℕ → Bool) (ls : List Lit) → length (bits a ls) ≡ length ls
length-bits a [] = refl
length-bits a (l ∷ ls) = ap suc (length-bits a ls)

pub bits-replicate : (a : ℕ → Bool) (n : ℕ) (l : Lit) → bits a (replicate n l) ≡ replicate n (bit a l)
bits-replicate a zero l = refl
bits-replicate a (suc n) l = ap (λ bs. bit a l ∷ bs) (bits-replicate a n l)

pub below-replicate : (v n : ℕ) (l : Lit) → l.variable < v → LitsBelow v (replicate n l)
below-replicate v zero l h = tt
below-replicate v (suc n) l h = (h, below-replicate v n l h)

pub bits-take : (a : ℕ → Bool) (n : ℕ) (ls : List Lit) → bits a (take n ls) ≡ take n (bits a ls)
bits-take a zero ls = refl
bits-take a (suc n) [] = refl
bits-take a (suc n) (l ∷ ls) = ap (λ bs. bit a l ∷ bs) (bits-take a n ls)

pub bits-drop : (a : ℕ → Bool) (n : ℕ) (ls : List Lit) → bits a (drop n ls) ≡ drop n (bits a ls)
bits-drop a zero ls = refl
bits-drop a (suc n) [] = refl
bits-drop a (suc n) (l ∷ ls) = bits-drop a n ls

pub bits-append : (a : ℕ → Bool) (xs ys : List Lit) → bits a (xs ++ ys) ≡ bits a xs ++ bits a ys
bits-append a [] ys = refl
bits-append a (x ∷ xs) ys = ap (λ bs. bit a x ∷ bs) (bits-append a xs ys)

pub below-take : (v n : ℕ) (ls : List Lit) → LitsBelow v ls → LitsBelow v (take n ls)
below-take v zero ls h = tt
below-take v (suc n) [] h = tt
below-take v (suc n) (l ∷ ls) h = (h.0, below-take v n ls h.1)

pub below-drop : (v n : ℕ) (ls : List Lit) → LitsBelow v ls → LitsBelow v (drop n ls)
below-drop v zero ls h = h
below-drop v (suc n) [] h = tt
below-drop v (suc n) (l ∷ ls) h = below-drop v n ls h.1
