-- Quotients and remainders with signs.
use Rattle.std.proofs.Common.{◌≡◌, ℕ, ◌+◌, ◌*◌, ◌<◌, Bool, true, false, not, List, map, length, replicate, refl, sym, ◌∙◌, ap, subst, arith}
use Rattle.sat_check.specs.declared.clause.Lit.{Lit}
use Rattle.word_blast.specs.declared.gate.Gate.TheVariants as gate
use Rattle.word_blast.specs.Gates.{Circuit, Made, Row, differ, gate_value, emit, bit, bits, Holds}
use Rattle.word_blast.specs.Bits.{greatest, each_value, sum_value, carry_value, all_value, rest_value, quotient_value, signed_value}
use Rattle.word_blast.specs.Groups.{zero_lit, one_lit, flips, copies, Added, add, all, xor_of, Divided, divide, signed_of, masked, nonzero, magnitudes_divided, quotient_of, remainder_of}
use Rattle.word_blast.proofs.Gating.{bit-opposite}
use Rattle.word_blast.proofs.Building.{LitsBelow, Formed, Builds, Builds-then, emit-puts, Gives, Puts, inside-later, lits-later}
use Rattle.word_blast.proofs.Chains.{Sums, add-sums, all-puts, length-each, length-add, bits-flips, below-flips, length-flips, below-replicate}
use Rattle.word_blast.proofs.Grouped.{constant-worth, and_of-gives, xor_of-gives, length-copies, bits-copies, bit-greatest, below-greatest}
use Rattle.word_blast.proofs.Rowed.{Divides, divide-divides, divide_row, length-remainder, length-quotient}

pub length-signed : (s : Lit) (xs : List Lit) (k : Circuit) → length (signed_of s xs k).bits ≡ length xs
length-signed s xs k =
    let flipped : Row = xor_of xs (copies xs s) k in
    let fl : length flipped.bits ≡ length xs = length-each gate.Xor xs (copies xs s) zero_lit k (length-copies xs s) in
    length-add (copies xs zero_lit) flipped.bits s flipped.circuit (fl ∙ sym (length-copies xs zero_lit)) ∙ length-copies xs zero_lit

pub signed_of-gives : (s : Lit) (xs : List Lit) (k : Circuit) → Formed k → s.variable < k.variables → LitsBelow k.variables xs
    → Gives k (signed_of s xs k) (3 * length xs) (λ a. signed_value (bit a s) (bits a xs))
signed_of-gives s xs k f sb xb =
    let w : ℕ = length xs in
    let ss : List Lit = copies xs s in
    let flipped : Row = xor_of xs ss k in
    let g : Gives k flipped w (λ a. each_value gate.Xor (bits a xs) (bits a ss) false) = xor_of-gives xs ss k f xb (below-replicate k.variables w s sb) (length-copies xs s) in
    let fl : length flipped.bits ≡ w = length-each gate.Xor xs ss zero_lit k (length-copies xs s) in
    let ff : Formed flipped.circuit = g.builds.formed f in
    let zs : List Lit = copies xs zero_lit in
    let zl : length zs ≡ w = length-copies xs zero_lit in
    let t : Added = add zs flipped.bits s flipped.circuit in
    let q : Sums flipped.circuit t (2 * length zs) (λ a. sum_value (bits a zs) (bits a flipped.bits) (bit a s)) (λ a. carry_value (bits a zs) (bits a flipped.bits) (bit a s)) =
    add-sums zs flipped.bits s flipped.circuit (below-replicate flipped.circuit.variables w zero_lit ff.some) g.inside (inside-later k flipped.circuit w g.builds s sb) (fl ∙ sym zl) in
    record {
      builds = Builds-then k flipped.circuit t.circuit w (2 * length zs) (3 * w) g.builds q.builds (omega (arith, zl));
      inside = q.inside;
      worth = λ a h.
          let hf : Holds a flipped.circuit = q.builds.keeps a h in
          q.worth a h
          ∙ ap (λ us. sum_value us (bits a flipped.bits) (bit a s)) (bits-copies a xs zero_lit ∙ ap (replicate (length (bits a xs))) (constant-worth flipped.circuit ff a hf false))
          ∙ ap (λ us. sum_value (replicate (length (bits a xs)) false) us (bit a s)) (g.worth a hf ∙ ap (λ us. each_value gate.Xor (bits a xs) us false) (bits-copies a xs s));
    }

pub nonzero-puts : (xs : List Lit) (k : Circuit) → Formed k → LitsBelow k.variables xs → Puts k (nonzero xs k) (length xs) (λ a. not (all_value true (map not (bits a xs))))
nonzero-puts xs k f xb =
    let none : Made = all one_lit (flips xs) k in
    let p : Puts k none (length (flips xs)) (λ a. all_value (bit a one_lit) (bits a (flips xs))) = all-puts one_lit (flips xs) k f.some (below-flips k.variables xs xb) in
    record {
      builds = subst (λ n. Builds k none.circuit n) (length-flips xs) p.builds;
      inside = p.inside;
      worth = λ a h.
          bit-opposite a none.lit
          ∙ ap not (p.worth a h ∙ ap (λ b. all_value b (bits a (flips xs))) (constant-worth k f a (p.builds.keeps a h) true) ∙ ap (all_value true) (bits-flips a xs));
    }

pub masked-gives : (b : Lit) (xs : List Lit) (k : Circuit) → Formed k → b.variable < k.variables → LitsBelow k.variables xs
    → Gives k (masked b xs k) (length xs) (λ a. each_value gate.And (bits a xs) (replicate (length (bits a xs)) (bit a b)) false)
masked-gives b xs k f bb xb =
    let g : Gives k (masked b xs k) (length xs) (λ a. each_value gate.And (bits a xs) (bits a (copies xs b)) false) =
    and_of-gives xs (copies xs b) k f xb (below-replicate k.variables (length xs) b bb) (length-copies xs b) in
    record { builds = g.builds; inside = g.inside; worth = λ a h. g.worth a h ∙ ap (λ us. each_value gate.And (bits a xs) us false) (bits-copies a xs b) }

-- the magnitude of bits with a sign
abbrev pub magnitude_value : List Bool → List Bool
magnitude_value xs = signed_value (greatest false xs) xs

-- the variables of the magnitudes' division
abbrev pub magnitudes_count : ℕ → ℕ
magnitudes_count w = 6 * w + w * divide_row w

module _ (xs ys : List Lit) (k : Circuit) (f : Formed k) (xb : LitsBelow k.variables xs) (yb : LitsBelow k.variables ys) (e : length ys ≡ length xs) where
  pub magnitudes_divided-divides : Divides k (magnitudes_divided xs ys k) (magnitudes_count (length xs))
      (λ a. quotient_value (magnitude_value (bits a xs)) (magnitude_value (bits a ys))) (λ a. rest_value (magnitude_value (bits a xs)) (magnitude_value (bits a ys)))
  magnitudes_divided-divides =
      let w : ℕ = length xs in
      let s : Lit = greatest zero_lit xs in
      let t : Lit = greatest zero_lit ys in
      let left : Row = signed_of s xs k in
      let g : Gives k left (3 * w) (λ a. signed_value (bit a s) (bits a xs)) = signed_of-gives s xs k f (below-greatest k.variables zero_lit xs f.some xb) xb in
      let fl : Formed left.circuit = g.builds.formed f in
      let yl : LitsBelow left.circuit.variables ys = lits-later k left.circuit (3 * w) g.builds ys yb in
      let right : Row = signed_of t ys left.circuit in
      let r : Gives left.circuit right (3 * length ys) (λ a. signed_value (bit a t) (bits a ys)) = signed_of-gives t ys left.circuit fl (below-greatest left.circuit.variables zero_lit ys fl.some yl) yl in
      let fr : Formed right.circuit = r.builds.formed fl in
      let d : Divided = divide left.bits right.bits right.circuit in
      let q : Divides right.circuit d (length left.bits * divide_row (length right.bits)) (λ a. quotient_value (bits a left.bits) (bits a right.bits)) (λ a. rest_value (bits a left.bits) (bits a right.bits)) =
      divide-divides left.bits right.bits right.circuit fr (lits-later left.circuit right.circuit (3 * length ys) r.builds left.bits g.inside) r.inside in
      let ll : length left.bits ≡ w = length-signed s xs k in
      let rl : length right.bits ≡ w = length-signed t ys left.circuit ∙ e in
      let rows : length left.bits * divide_row (length right.bits) ≡ w * divide_row w = ap (λ n. n * divide_row (length right.bits)) ll ∙ ap (λ n. w * divide_row n) rl in
      let two : Builds k right.circuit (6 * w) = Builds-then k left.circuit right.circuit (3 * w) (3 * length ys) (6 * w) g.builds r.builds (omega arith) in
      let lefts : (a : ℕ → Bool) → Holds a right.circuit → bits a left.bits ≡ magnitude_value (bits a xs) =
      λ a h. g.worth a (r.builds.keeps a h) ∙ ap (λ b. signed_value b (bits a xs)) (bit-greatest a zero_lit xs ∙ ap (λ b. greatest b (bits a xs)) (constant-worth k f a (two.keeps a h) false)) in
      let rights : (a : ℕ → Bool) → Holds a right.circuit → bits a right.bits ≡ magnitude_value (bits a ys) =
      λ a h. r.worth a h ∙ ap (λ b. signed_value b (bits a ys)) (bit-greatest a zero_lit ys ∙ ap (λ b. greatest b (bits a ys)) (constant-worth k f a (two.keeps a h) false)) in
      record {
        builds = Builds-then k right.circuit d.circuit (6 * w) (length left.bits * divide_row (length right.bits)) (magnitudes_count w) two q.builds (ap (λ n. 6 * w + n) (sym rows));
        quotient_inside = q.quotient_inside;
        remainder_inside = q.remainder_inside;
        quotient = λ a h.
            let hr : Holds a right.circuit = q.builds.keeps a h in
            q.quotient a h ∙ ap (λ us. quotient_value us (bits a right.bits)) (lefts a hr) ∙ ap (quotient_value (magnitude_value (bits a xs))) (rights a hr);
        remainder = λ a h.
            let hr : Holds a right.circuit = q.builds.keeps a h in
            q.remainder a h ∙ ap (λ us. rest_value us (bits a right.bits)) (lefts a hr) ∙ ap (rest_value (magnitude_value (bits a xs))) (rights a hr);
      }

  long-quotient : length (magnitudes_divided xs ys k).quotient ≡ length xs
  long-quotient =
      let left : Row = signed_of (greatest zero_lit xs) xs k in
      let right : Row = signed_of (greatest zero_lit ys) ys left.circuit in
      length-quotient left.bits right.bits right.circuit ∙ length-signed (greatest zero_lit xs) xs k

  long-remainder : length (magnitudes_divided xs ys k).remainder ≡ length xs
  long-remainder =
      let left : Row = signed_of (greatest zero_lit xs) xs k in
      let right : Row = signed_of (greatest zero_lit ys) ys left.circuit in
      length-remainder left.bits right.bits right.circuit ∙ length-signed (greatest zero_lit ys) ys left.circuit ∙ e

-- a word with its sign, or 0 where the other is
abbrev pub unless_zero : List Bool → List Bool → List Bool
unless_zero ys zs = each_value gate.And zs (replicate (length zs) (not (all_value true (map not ys)))) false

module _ (s : Lit) (zs ys : List Lit) (w : ℕ) (k : Circuit) (f : Formed k) (sb : s.variable < k.variables) (zb : LitsBelow k.variables zs) (yb : LitsBelow k.variables ys)
    (zl : length zs ≡ w) (yl : length ys ≡ w) where
  -- a number gets its sign, and is left out by 0
  pub finished : Row
  finished =
      let whole : Row = signed_of s zs k in
      let some : Made = nonzero ys whole.circuit in
      masked some.lit whole.bits some.circuit

  pub finished-gives : Gives k finished (5 * w) (λ a. unless_zero (bits a ys) (signed_value (bit a s) (bits a zs)))
  unfolding finished
  finished-gives =
      let whole : Row = signed_of s zs k in
      let g : Gives k whole (3 * length zs) (λ a. signed_value (bit a s) (bits a zs)) = signed_of-gives s zs k f sb zb in
      let fw : Formed whole.circuit = g.builds.formed f in
      let some : Made = nonzero ys whole.circuit in
      let p : Puts whole.circuit some (length ys) (λ a. not (all_value true (map not (bits a ys)))) = nonzero-puts ys whole.circuit fw (lits-later k whole.circuit (3 * length zs) g.builds ys yb) in
      let fs : Formed some.circuit = p.builds.formed fw in
      let m : Row = masked some.lit whole.bits some.circuit in
      let q : Gives some.circuit m (length whole.bits) (λ a. each_value gate.And (bits a whole.bits) (replicate (length (bits a whole.bits)) (bit a some.lit)) false) =
      masked-gives some.lit whole.bits some.circuit fs p.inside (lits-later whole.circuit some.circuit (length ys) p.builds whole.bits g.inside) in
      let wl : length whole.bits ≡ w = length-signed s zs k ∙ zl in
      let two : Builds k some.circuit (4 * w) = Builds-then k whole.circuit some.circuit (3 * length zs) (length ys) (4 * w) g.builds p.builds (omega arith) in
      record {
        builds = Builds-then k some.circuit m.circuit (4 * w) (length whole.bits) (5 * w) two q.builds (omega arith);
        inside = q.inside;
        worth = λ a h.
            let hs : Holds a some.circuit = q.builds.keeps a h in
            let e : bits a whole.bits ≡ signed_value (bit a s) (bits a zs) = g.worth a (p.builds.keeps a hs) in
            q.worth a h ∙ ap (λ us. each_value gate.And us (replicate (length us) (bit a some.lit)) false) e
            ∙ ap (λ b. each_value gate.And (signed_value (bit a s) (bits a zs)) (replicate (length (signed_value (bit a s) (bits a zs))) b) false) (p.worth a hs);
      }

-- the bits of a quotient and of a remainder
abbrev pub signed_quotient : List Bool → List Bool → List Bool
signed_quotient xs ys = unless_zero ys (signed_value (differ (greatest false xs) (greatest false ys)) (quotient_value (magnitude_value xs) (magnitude_value ys)))

abbrev pub signed_remainder : List Bool → List Bool → List Bool
signed_remainder xs ys = unless_zero ys (signed_value (greatest false xs) (rest_value (magnitude_value xs) (magnitude_value ys)))

module _ (xs ys : List Lit) (k : Circuit) (f : Formed k) (xb : LitsBelow k.variables xs) (yb : LitsBelow k.variables ys) (e : length ys ≡ length xs) where
  greatest-worth : (a : ℕ → Bool) → Holds a k → (zs : List Lit) → bit a (greatest zero_lit zs) ≡ greatest false (bits a zs)
  greatest-worth a h zs = bit-greatest a zero_lit zs ∙ ap (λ b. greatest b (bits a zs)) (constant-worth k f a h false)

  pub quotient_of-gives : Gives k (quotient_of xs ys k) (magnitudes_count (length xs) + 1 + 5 * length xs) (λ a. signed_quotient (bits a xs) (bits a ys))
  unfolding finished
  quotient_of-gives =
      let w : ℕ = length xs in
      let n : ℕ = magnitudes_count w in
      let d : Divided = magnitudes_divided xs ys k in
      let q : Divides k d n (λ a. quotient_value (magnitude_value (bits a xs)) (magnitude_value (bits a ys))) (λ a. rest_value (magnitude_value (bits a xs)) (magnitude_value (bits a ys))) =
      magnitudes_divided-divides xs ys k f xb yb e in
      let fd : Formed d.circuit = q.builds.formed f in
      let sx : Lit = greatest zero_lit xs in
      let sy : Lit = greatest zero_lit ys in
      let sign : Made = emit gate.Xor sx sy zero_lit d.circuit in
      let p : Puts d.circuit sign 1 (λ a. gate_value gate.Xor (bit a sx) (bit a sy) (bit a zero_lit)) =
      emit-puts gate.Xor sx sy zero_lit d.circuit
      (inside-later k d.circuit n q.builds sx (below-greatest k.variables zero_lit xs f.some xb)) (inside-later k d.circuit n q.builds sy (below-greatest k.variables zero_lit ys f.some yb)) fd.some in
      let fs : Formed sign.circuit = p.builds.formed fd in
      let two : Builds k sign.circuit (n + 1) = Builds-then k d.circuit sign.circuit n 1 (n + 1) q.builds p.builds refl in
      let r : Row = finished sign.lit d.quotient ys w sign.circuit fs p.inside (lits-later d.circuit sign.circuit 1 p.builds d.quotient q.quotient_inside) (lits-later k sign.circuit (n + 1) two ys yb) (long-quotient xs ys k f xb yb e) e in
      let g : Gives sign.circuit r (5 * w) (λ a. unless_zero (bits a ys) (signed_value (bit a sign.lit) (bits a d.quotient))) =
      finished-gives sign.lit d.quotient ys w sign.circuit fs p.inside (lits-later d.circuit sign.circuit 1 p.builds d.quotient q.quotient_inside) (lits-later k sign.circuit (n + 1) two ys yb) (long-quotient xs ys k f xb yb e) e in
      record {
        builds = Builds-then k sign.circuit r.circuit (n + 1) (5 * w) (n + 1 + 5 * w) two g.builds refl;
        inside = g.inside;
        worth = λ a h.
            let hs : Holds a sign.circuit = g.builds.keeps a h in
            let hd : Holds a d.circuit = p.builds.keeps a hs in
            let hk : Holds a k = q.builds.keeps a hd in
            g.worth a h
            ∙ ap (λ b. unless_zero (bits a ys) (signed_value b (bits a d.quotient)))
            (p.worth a hs ∙ ap (λ b. differ b (bit a sy)) (greatest-worth a hk xs) ∙ ap (differ (greatest false (bits a xs))) (greatest-worth a hk ys))
            ∙ ap (λ us. unless_zero (bits a ys) (signed_value (differ (greatest false (bits a xs)) (greatest false (bits a ys))) us)) (q.quotient a hd);
      }

  pub remainder_of-gives : Gives k (remainder_of xs ys k) (magnitudes_count (length xs) + 5 * length xs) (λ a. signed_remainder (bits a xs) (bits a ys))
  unfolding finished
  remainder_of-gives =
      let w : ℕ = length xs in
      let n : ℕ = magnitudes_count w in
      let d : Divided = magnitudes_divided xs ys k in
      let q : Divides k d n (λ a. quotient_value (magnitude_value (bits a xs)) (magnitude_value (bits a ys))) (λ a. rest_value (magnitude_value (bits a xs)) (magnitude_value (bits a ys))) =
      magnitudes_divided-divides xs ys k f xb yb e in
      let fd : Formed d.circuit = q.builds.formed f in
      let sx : Lit = greatest zero_lit xs in
      let sb : sx.variable < d.circuit.variables = inside-later k d.circuit n q.builds sx (below-greatest k.variables zero_lit xs f.some xb) in
      let g : Gives d.circuit (remainder_of xs ys k) (5 * w) (λ a. unless_zero (bits a ys) (signed_value (bit a sx) (bits a d.remainder))) =
      finished-gives sx d.remainder ys w d.circuit fd sb q.remainder_inside (lits-later k d.circuit n q.builds ys yb) (long-remainder xs ys k f xb yb e) e in
      record {
        builds = Builds-then k d.circuit (remainder_of xs ys k).circuit n (5 * w) (n + 5 * w) q.builds g.builds refl;
        inside = g.inside;
        worth = λ a h.
            let hd : Holds a d.circuit = g.builds.keeps a h in
            g.worth a h
            ∙ ap (λ b. unless_zero (bits a ys) (signed_value b (bits a d.remainder))) (greatest-worth a (q.builds.keeps a hd) xs)
            ∙ ap (λ us. unless_zero (bits a ys) (signed_value (greatest false (bits a xs)) us)) (q.remainder a hd);
      }
