-- The groups that go row by row: shifts, products and quotients.
use Rattle.std.proofs.Common.{◌≡◌, ℕ, zero, suc, ◌+◌, ◌*◌, ◌^◌, ◌<◌, ◌≤◌, min, Bool, true, false, not, List, [], ◌∷◌, ◌++◌, map, length, take, drop, replicate, refl, sym, ◌∙◌, ap, subst, arith, length-append}
use Rattle.std.proofs.lemmas.List.{length-take, length-replicate, length-drop}
use Rattle.sat_check.specs.declared.clause.Lit.{Lit}
use Rattle.word_blast.specs.declared.gate.Gate.TheVariants as gate
use Rattle.word_blast.specs.Gates.{Circuit, Row, bit, bits, Holds}
use Rattle.word_blast.specs.Bits.{greatest, moved_up, moved_down, each_value, sum_value, carry_value, barrel_value, product_value, rest_value, quotient_value}
use Rattle.word_blast.specs.Groups.{zero_lit, one_lit, flips, Added, add, and_of, pick_of, barrel, left_of, right_of, product_of, Divided, divide}
use Rattle.word_blast.proofs.Building.{LitsBelow, LitsBelow-append, Formed, Builds, Builds-none, Builds-then, Gives, inside-later, lits-later}
use Rattle.word_blast.proofs.Chains.{Sums, add-sums, length-each, length-add, bits-flips, below-flips, length-flips, length-bits, bits-replicate, below-replicate, bits-take, bits-drop, bits-append, below-take, below-drop}
use Rattle.word_blast.proofs.Grouped.{constant-worth, and_of-gives, pick_of-gives, bits-copies, bit-greatest, below-greatest}

-- a way to move the bits of words, over the variables of a circuit
pub record Moves (k : Circuit) (move : ℕ → List Lit → List Lit) (moved : (ℕ → Bool) → ℕ → List Bool → List Bool) : Type 0 where
  pub below : (v m : ℕ) (ls : List Lit) → k.variables ≤ v → LitsBelow v ls → LitsBelow v (move m ls)
  pub long : (m : ℕ) (ls : List Lit) → length (move m ls) ≡ length ls
  pub worth : (a : ℕ → Bool) (m : ℕ) (ls : List Lit) → Holds a k → bits a (move m ls) ≡ moved a m (bits a ls)

pub barrel-gives : (base : Circuit) (move : ℕ → List Lit → List Lit) (moved : (ℕ → Bool) → ℕ → List Bool → List Bool) → Moves base move moved
    → (j : ℕ) (ys xs : List Lit) (k : Circuit) → base.variables ≤ k.variables → ((a : ℕ → Bool) → Holds a k → Holds a base)
    → LitsBelow k.variables ys → LitsBelow k.variables xs
    → Gives k (barrel move j ys xs k) (length ys * length xs) (λ a. barrel_value (moved a) j (bits a ys) (bits a xs))
unfolding barrel
barrel-gives base move moved ms j [] xs k low held yb xb = record { builds = subst (λ n. Builds k k n) (let e : 0 ≡ 0 * length xs = omega arith in e) (Builds-none k); inside = xb; worth = λ a h. refl }
barrel-gives base move moved ms j (y ∷ ys) xs k low held yb xb =
    let us : List Lit = move (2 ^ j) xs in
    let m : Row = pick_of y us xs k in
    let g : Gives k m (length us) (λ a. each_value gate.Pick (bits a us) (bits a xs) (bit a y)) =
    pick_of-gives y us xs k (ms.below k.variables (2 ^ j) xs low xb) xb yb.0 (sym (ms.long (2 ^ j) xs)) in
    let long : length m.bits ≡ length xs = length-each gate.Pick us xs y k (sym (ms.long (2 ^ j) xs)) ∙ ms.long (2 ^ j) xs in
    let r : Row = barrel move (suc j) ys m.bits m.circuit in
    let later : base.variables ≤ m.circuit.variables = omega (arith, g.builds.count) in
    let q : Gives m.circuit r (length ys * length m.bits) (λ a. barrel_value (moved a) (suc j) (bits a ys) (bits a m.bits)) =
    barrel-gives base move moved ms (suc j) ys m.bits m.circuit later (λ a h. held a (g.builds.keeps a h)) (lits-later k m.circuit (length us) g.builds ys yb.1) g.inside in
    let cost : suc (length ys) * length xs ≡ length us + length ys * length m.bits =
    subst (λ n. suc (length ys) * length xs ≡ length us + length ys * n) (sym long) (subst (λ n. suc (length ys) * length xs ≡ n + length ys * length xs) (sym (ms.long (2 ^ j) xs)) (omega arith)) in
    record {
      builds = Builds-then k m.circuit r.circuit (length us) (length ys * length m.bits) (suc (length ys) * length xs) g.builds q.builds cost;
      inside = q.inside;
      worth = λ a h.
          let here : Holds a m.circuit = q.builds.keeps a h in
          q.worth a h ∙ ap (barrel_value (moved a) (suc j) (bits a ys)) (g.worth a here ∙ ap (λ zs. each_value gate.Pick zs (bits a xs) (bit a y)) (ms.worth a (2 ^ j) xs (held a (g.builds.keeps a here))));
    }

-- moved up with zeros
pub moved_up-moves : (k : Circuit) → Formed k → Moves k (moved_up zero_lit) (λ a. moved_up false)
moved_up-moves k f = record {
  below = λ v m ls h b. below-take v (length ls) (replicate m zero_lit ++ ls) (LitsBelow-append v (replicate m zero_lit) ls (below-replicate v m zero_lit (let p : 0 < k.variables = f.some in omega arith)) b);
  long = λ m ls. length-take (length ls) (replicate m zero_lit ++ ls) ∙ (let e : min (length ls) (length (replicate m zero_lit ++ ls)) ≡ length ls = omega (arith, length-append (replicate m zero_lit) ls) in e);
  worth = λ a m ls h.
      bits-take a (length ls) (replicate m zero_lit ++ ls)
      ∙ ap (take (length ls)) (bits-append a (replicate m zero_lit) ls ∙ ap (λ zs. zs ++ bits a ls) (bits-replicate a m zero_lit ∙ ap (replicate m) (constant-worth k f a h false)))
      ∙ ap (λ n. take n (replicate m false ++ bits a ls)) (sym (length-bits a ls));
}

-- moved down with copies of a bit
pub moved_down-moves : (s : Lit) (k : Circuit) → s.variable < k.variables → Moves k (moved_down s) (λ a. moved_down (bit a s))
moved_down-moves s k sb = record {
  below = λ v m ls h b. below-take v (length ls) (drop m ls ++ replicate m s) (LitsBelow-append v (drop m ls) (replicate m s) (below-drop v m ls b) (below-replicate v m s (omega arith)));
  long = λ m ls. length-take (length ls) (drop m ls ++ replicate m s)
      ∙ (let e : min (length ls) (length (drop m ls ++ replicate m s)) ≡ length ls = omega (arith, length-append (drop m ls) (replicate m s), length-drop m ls, length-replicate m s) in e);
  worth = λ a m ls h.
      bits-take a (length ls) (drop m ls ++ replicate m s)
      ∙ ap (take (length ls)) (bits-append a (drop m ls) (replicate m s) ∙ ap (λ zs. zs ++ bits a (replicate m s)) (bits-drop a m ls) ∙ ap (λ zs. drop m (bits a ls) ++ zs) (bits-replicate a m s))
      ∙ ap (λ n. take n (drop m (bits a ls) ++ replicate m (bit a s))) (sym (length-bits a ls));
}

module _ (xs ys : List Lit) (k : Circuit) (f : Formed k) (xb : LitsBelow k.variables xs) (yb : LitsBelow k.variables ys) where
  pub left_of-gives : Gives k (left_of xs ys k) (length (take 5 ys) * length xs) (λ a. barrel_value (moved_up false) 0 (take 5 (bits a ys)) (bits a xs))
  left_of-gives =
      let g : Gives k (left_of xs ys k) (length (take 5 ys) * length xs) (λ a. barrel_value (moved_up false) 0 (bits a (take 5 ys)) (bits a xs)) =
      barrel-gives k (moved_up zero_lit) (λ a. moved_up false) (moved_up-moves k f) 0 (take 5 ys) xs k (omega arith) (λ a h. h) (below-take k.variables 5 ys yb) xb in
      record { builds = g.builds; inside = g.inside; worth = λ a h. g.worth a h ∙ ap (λ us. barrel_value (moved_up false) 0 us (bits a xs)) (bits-take a 5 ys) }

  pub right_of-gives : Gives k (right_of xs ys k) (length (take 5 ys) * length xs) (λ a. barrel_value (moved_down (greatest false (bits a xs))) 0 (take 5 (bits a ys)) (bits a xs))
  right_of-gives =
      let s : Lit = greatest zero_lit xs in
      let sb : s.variable < k.variables = below-greatest k.variables zero_lit xs f.some xb in
      let g : Gives k (right_of xs ys k) (length (take 5 ys) * length xs) (λ a. barrel_value (moved_down (bit a s)) 0 (bits a (take 5 ys)) (bits a xs)) =
      barrel-gives k (moved_down s) (λ a. moved_down (bit a s)) (moved_down-moves s k sb) 0 (take 5 ys) xs k (omega arith) (λ a h. h) (below-take k.variables 5 ys yb) xb in
      record {
        builds = g.builds;
        inside = g.inside;
        worth = λ a h.
            g.worth a h ∙ ap (λ us. barrel_value (moved_down (bit a s)) 0 us (bits a xs)) (bits-take a 5 ys)
            ∙ ap (λ b. barrel_value (moved_down b) 0 (take 5 (bits a ys)) (bits a xs))
            (bit-greatest a zero_lit xs ∙ ap (λ b. greatest b (bits a xs)) (constant-worth k f a (g.builds.keeps a h) false));
      }

-- the variables of a product of so many bits
abbrev pub product_count : ℕ → ℕ
product_count zero = 0
product_count (suc n) = product_count n + 3 * suc n

pub length-product : (xs ys : List Lit) (k : Circuit) → length ys ≤ length xs → length (product_of xs ys k).bits ≡ length ys
unfolding product_of
length-product xs [] k h = refl
length-product xs (y ∷ ys) k h =
    let high : Row = product_of xs ys k in
    let us : List Lit = take (suc (length ys)) xs in
    let vs : List Lit = replicate (suc (length ys)) y in
    let row : Row = and_of us vs high.circuit in
    let ul : length us ≡ suc (length ys) = omega (arith, length-take (suc (length ys)) xs) in
    let rl : length row.bits ≡ suc (length ys) = length-each gate.And us vs zero_lit high.circuit (length-replicate (suc (length ys)) y ∙ sym ul) ∙ ul in
    let hl : length high.bits ≡ length ys = length-product xs ys k (omega arith) in
    length-add (zero_lit ∷ high.bits) row.bits zero_lit row.circuit (rl ∙ ap suc (sym hl)) ∙ ap suc hl

pub product_of-gives : (xs ys : List Lit) (k : Circuit) → Formed k → LitsBelow k.variables xs → LitsBelow k.variables ys → length ys ≤ length xs
    → Gives k (product_of xs ys k) (product_count (length ys)) (λ a. product_value (bits a xs) (bits a ys))
unfolding product_of
product_of-gives xs [] k f xb yb h = record { builds = Builds-none k; inside = tt; worth = λ a h. refl }
product_of-gives xs (y ∷ ys) k f xb yb h =
    let n : ℕ = length ys in
    let high : Row = product_of xs ys k in
    let g : Gives k high (product_count n) (λ a. product_value (bits a xs) (bits a ys)) = product_of-gives xs ys k f xb yb.1 (omega arith) in
    let fh : Formed high.circuit = g.builds.formed f in
    let us : List Lit = take (suc n) xs in
    let vs : List Lit = replicate (suc n) y in
    let row : Row = and_of us vs high.circuit in
    let ul : length us ≡ suc n = omega (arith, length-take (suc n) xs) in
    let vl : length vs ≡ length us = length-replicate (suc n) y ∙ sym ul in
    let r : Gives high.circuit row (length us) (λ a. each_value gate.And (bits a us) (bits a vs) false) =
    and_of-gives us vs high.circuit fh (below-take high.circuit.variables (suc n) xs (lits-later k high.circuit (product_count n) g.builds xs xb))
    (below-replicate high.circuit.variables (suc n) y (inside-later k high.circuit (product_count n) g.builds y yb.0)) vl in
    let fr : Formed row.circuit = r.builds.formed fh in
    let rl : length row.bits ≡ suc n = length-each gate.And us vs zero_lit high.circuit vl ∙ ul in
    let hl : length high.bits ≡ n = length-product xs ys k (omega arith) in
    let ts : List Lit = zero_lit ∷ high.bits in
    let tb : LitsBelow row.circuit.variables ts = (fr.some, lits-later high.circuit row.circuit (length us) r.builds high.bits g.inside) in
    let s : Sums row.circuit (add ts row.bits zero_lit row.circuit) (2 * length ts) (λ a. sum_value (bits a ts) (bits a row.bits) (bit a zero_lit)) (λ a. carry_value (bits a ts) (bits a row.bits) (bit a zero_lit)) =
    add-sums ts row.bits zero_lit row.circuit tb r.inside fr.some (rl ∙ ap suc (sym hl)) in
    let two : Builds k row.circuit (product_count n + suc n) = Builds-then k high.circuit row.circuit (product_count n) (length us) (product_count n + suc n) g.builds r.builds (omega (arith, ul)) in
    record {
      builds = Builds-then k row.circuit (add ts row.bits zero_lit row.circuit).circuit (product_count n + suc n) (2 * length ts) (product_count n + 3 * suc n) two s.builds (omega (arith, hl));
      inside = s.inside;
      worth = λ a h.
          let hr : Holds a row.circuit = s.builds.keeps a h in
          let hh : Holds a high.circuit = r.builds.keeps a hr in
          let m : ℕ = length (bits a ys) in
          let e : suc n ≡ suc m = ap suc (sym (length-bits a ys)) in
          s.worth a h
          ∙ ap (λ c. sum_value (bits a ts) (bits a row.bits) c) (constant-worth row.circuit fr a hr false)
          ∙ ap (λ zs. sum_value zs (bits a row.bits) false) (ap (λ b. b ∷ bits a high.bits) (constant-worth row.circuit fr a hr false) ∙ ap (λ zs. false ∷ zs) (g.worth a hh))
          ∙ ap (λ zs. sum_value (false ∷ product_value (bits a xs) (bits a ys)) zs false)
          (r.worth a hr ∙ ap (λ zs. each_value gate.And zs (bits a vs) false) (bits-take a (suc n) xs ∙ ap (λ i. take i (bits a xs)) e)
          ∙ ap (λ zs. each_value gate.And (take (suc m) (bits a xs)) zs false) (bits-replicate a (suc n) y ∙ ap (λ i. replicate i (bit a y)) e));
    }

-- a quotient and a remainder that are built on a circuit
pub record Divides (k : Circuit) (d : Divided) (n : ℕ) (q r : (ℕ → Bool) → List Bool) : Type 0 where
  pub builds : Builds k d.circuit n
  pub quotient_inside : LitsBelow d.circuit.variables d.quotient
  pub remainder_inside : LitsBelow d.circuit.variables d.remainder
  pub quotient : (a : ℕ → Bool) → Holds a d.circuit → bits a d.quotient ≡ q a
  pub remainder : (a : ℕ → Bool) → Holds a d.circuit → bits a d.remainder ≡ r a

-- the variables of one row of a division by so many bits
abbrev pub divide_row : ℕ → ℕ
divide_row w = 2 * suc w + w

pub length-remainder : (xs ys : List Lit) (k : Circuit) → length (divide xs ys k).remainder ≡ length ys
unfolding divide
length-remainder [] ys k = length-replicate (length ys) zero_lit
length-remainder (x ∷ xs) ys k =
    let high : Divided = divide xs ys k in
    let hl : length high.remainder ≡ length ys = length-remainder xs ys k in
    let rest : List Lit = x ∷ high.remainder in
    let subtrahend : List Lit = flips (ys ++ zero_lit ∷ []) in
    let sl : length subtrahend ≡ length rest = omega (arith, length-flips (ys ++ zero_lit ∷ []), length-append ys (zero_lit ∷ [])) in
    let less : Added = add rest subtrahend one_lit high.circuit in
    let ll : length less.bits ≡ length rest = length-add rest subtrahend one_lit high.circuit sl in
    let ul : length (take (length ys) less.bits) ≡ length ys = omega (arith, length-take (length ys) less.bits) in
    let vl : length (take (length ys) rest) ≡ length ys = omega (arith, length-take (length ys) rest) in
    length-each gate.Pick (take (length ys) less.bits) (take (length ys) rest) less.carry less.circuit (vl ∙ sym ul) ∙ ul

pub length-quotient : (xs ys : List Lit) (k : Circuit) → length (divide xs ys k).quotient ≡ length xs
unfolding divide
length-quotient [] ys k = refl
length-quotient (x ∷ xs) ys k = ap suc (length-quotient xs ys k)

pub divide-divides : (xs ys : List Lit) (k : Circuit) → Formed k → LitsBelow k.variables xs → LitsBelow k.variables ys
    → Divides k (divide xs ys k) (length xs * divide_row (length ys)) (λ a. quotient_value (bits a xs) (bits a ys)) (λ a. rest_value (bits a xs) (bits a ys))
unfolding divide
divide-divides [] ys k f xb yb = record {
  builds = subst (λ n. Builds k k n) (let e : 0 ≡ 0 * divide_row (length ys) = omega arith in e) (Builds-none k);
  quotient_inside = tt;
  remainder_inside = below-replicate k.variables (length ys) zero_lit f.some;
  quotient = λ a h. refl;
  remainder = λ a h. bits-copies a ys zero_lit ∙ ap (replicate (length (bits a ys))) (constant-worth k f a h false);
}
divide-divides (x ∷ xs) ys k f xb yb =
    let w : ℕ = length ys in
    let before : ℕ = length xs * divide_row w in
    let high : Divided = divide xs ys k in
    let d : Divides k high before (λ a. quotient_value (bits a xs) (bits a ys)) (λ a. rest_value (bits a xs) (bits a ys)) = divide-divides xs ys k f xb.1 yb in
    let fh : Formed high.circuit = d.builds.formed f in
    let hl : length high.remainder ≡ w = length-remainder xs ys k in
    let rest : List Lit = x ∷ high.remainder in
    let rb : LitsBelow high.circuit.variables rest = (inside-later k high.circuit before d.builds x xb.0, d.remainder_inside) in
    let divisor : List Lit = ys ++ zero_lit ∷ [] in
    let subtrahend : List Lit = flips divisor in
    let sb : LitsBelow high.circuit.variables subtrahend =
    below-flips high.circuit.variables divisor (LitsBelow-append high.circuit.variables ys (zero_lit ∷ []) (lits-later k high.circuit before d.builds ys yb) (fh.some, tt)) in
    let sl : length subtrahend ≡ length rest = omega (arith, length-flips divisor, length-append ys (zero_lit ∷ [])) in
    let less : Added = add rest subtrahend one_lit high.circuit in
    let s : Sums high.circuit less (2 * length rest) (λ a. sum_value (bits a rest) (bits a subtrahend) (bit a one_lit)) (λ a. carry_value (bits a rest) (bits a subtrahend) (bit a one_lit)) =
    add-sums rest subtrahend one_lit high.circuit rb sb fh.some sl in
    let ll : length less.bits ≡ length rest = length-add rest subtrahend one_lit high.circuit sl in
    let us : List Lit = take w less.bits in
    let vs : List Lit = take w rest in
    let ul : length us ≡ w = omega (arith, length-take w less.bits) in
    let vl : length vs ≡ w = omega (arith, length-take w rest) in
    let kept : Row = pick_of less.carry us vs less.circuit in
    let g : Gives less.circuit kept (length us) (λ a. each_value gate.Pick (bits a us) (bits a vs) (bit a less.carry)) =
    pick_of-gives less.carry us vs less.circuit (below-take less.circuit.variables w less.bits s.inside)
    (below-take less.circuit.variables w rest (lits-later high.circuit less.circuit (2 * length rest) s.builds rest rb)) s.carried (vl ∙ sym ul) in
    let row : Builds high.circuit kept.circuit (divide_row w) = Builds-then high.circuit less.circuit kept.circuit (2 * length rest) (length us) (divide_row w) s.builds g.builds (omega arith) in
    let subtracted : (a : ℕ → Bool) → Holds a high.circuit → bits a subtrahend ≡ map not (bits a ys ++ false ∷ []) =
    λ a h. bits-flips a divisor ∙ ap (map not) (bits-append a ys (zero_lit ∷ []) ∙ ap (λ b. bits a ys ++ b ∷ []) (constant-worth high.circuit fh a h false)) in
    let rests : (a : ℕ → Bool) → Holds a high.circuit → bits a rest ≡ bit a x ∷ rest_value (bits a xs) (bits a ys) = λ a h. ap (λ bs. bit a x ∷ bs) (d.remainder a h) in
    let over : (a : ℕ → Bool) → Holds a less.circuit → bit a less.carry ≡ carry_value (bit a x ∷ rest_value (bits a xs) (bits a ys)) (map not (bits a ys ++ false ∷ [])) true =
    λ a h. let hh : Holds a high.circuit = s.builds.keeps a h in
    s.over a h ∙ ap (λ zs. carry_value zs (bits a subtrahend) (bit a one_lit)) (rests a hh)
    ∙ ap (λ zs. carry_value (bit a x ∷ rest_value (bits a xs) (bits a ys)) zs (bit a one_lit)) (subtracted a hh)
    ∙ ap (carry_value (bit a x ∷ rest_value (bits a xs) (bits a ys)) (map not (bits a ys ++ false ∷ []))) (constant-worth high.circuit fh a hh true) in
    let differs : (a : ℕ → Bool) → Holds a less.circuit → bits a less.bits ≡ sum_value (bit a x ∷ rest_value (bits a xs) (bits a ys)) (map not (bits a ys ++ false ∷ [])) true =
    λ a h. let hh : Holds a high.circuit = s.builds.keeps a h in
    s.worth a h ∙ ap (λ zs. sum_value zs (bits a subtrahend) (bit a one_lit)) (rests a hh)
    ∙ ap (λ zs. sum_value (bit a x ∷ rest_value (bits a xs) (bits a ys)) zs (bit a one_lit)) (subtracted a hh)
    ∙ ap (sum_value (bit a x ∷ rest_value (bits a xs) (bits a ys)) (map not (bits a ys ++ false ∷ []))) (constant-worth high.circuit fh a hh true) in
    record {
      builds = Builds-then k high.circuit kept.circuit before (divide_row w) (suc (length xs) * divide_row w) d.builds row (omega arith);
      quotient_inside = (inside-later less.circuit kept.circuit (length us) g.builds less.carry s.carried, lits-later high.circuit kept.circuit (divide_row w) row high.quotient d.quotient_inside);
      remainder_inside = g.inside;
      quotient = λ a h.
          let hl2 : Holds a less.circuit = g.builds.keeps a h in
          ap (λ b. b ∷ bits a high.quotient) (over a hl2)
          ∙ ap (λ bs. carry_value (bit a x ∷ rest_value (bits a xs) (bits a ys)) (map not (bits a ys ++ false ∷ [])) true ∷ bs) (d.quotient a (s.builds.keeps a hl2));
      remainder = λ a h.
          let hl2 : Holds a less.circuit = g.builds.keeps a h in
          let v : ℕ = length (bits a ys) in
          let e : w ≡ v = sym (length-bits a ys) in
          let xr : List Bool = bit a x ∷ rest_value (bits a xs) (bits a ys) in
          let yr : List Bool = map not (bits a ys ++ false ∷ []) in
          g.worth a h
          ∙ ap (λ zs. each_value gate.Pick zs (bits a vs) (bit a less.carry)) (bits-take a w less.bits ∙ ap (take w) (differs a hl2) ∙ ap (λ i. take i (sum_value xr yr true)) e)
          ∙ ap (λ zs. each_value gate.Pick (take v (sum_value xr yr true)) zs (bit a less.carry)) (bits-take a w rest ∙ ap (take w) (rests a (s.builds.keeps a hl2)) ∙ ap (λ i. take i xr) e)
          ∙ ap (each_value gate.Pick (take v (sum_value xr yr true)) (take v xr)) (over a hl2);
    }
