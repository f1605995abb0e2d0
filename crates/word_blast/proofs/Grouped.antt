-- The group of each kind of term: how many variables it has, and what its bits are worth.
use Rattle.std.proofs.Common.{◌≡◌, ℕ, suc, ◌*◌, ◌<◌, Bool, true, false, not, List, [], ◌∷◌, map, length, replicate, refl, sym, ◌∙◌, ap, subst, arith}
use Rattle.std.proofs.lemmas.List.{length-replicate}
use Rattle.sat_check.specs.declared.clause.Lit.{Lit}
use Rattle.sat_check.specs.Clauses.{opposite_of}
use Rattle.word_blast.specs.declared.gate.Gate.TheVariants as gate
use Rattle.word_blast.specs.Gates.{Circuit, Made, Row, constant_lit, bit, bits, Holds}
use Rattle.word_blast.specs.Bits.{greatest, top_changed, each_value, sum_value, carry_value, all_value}
use Rattle.word_blast.specs.Groups.{zero_lit, one_lit, flips, copies, add, carry, all, and_of, xor_of, or_of, pick_of, equal_of, sum_of, difference_of, negation_of, less_of}
use Rattle.word_blast.proofs.Gating.{bit-opposite}
use Rattle.word_blast.proofs.Building.{LitsBelow, Formed, Builds, Builds-then, Gives, Puts}
use Rattle.word_blast.proofs.Chains.{each-gives, Sums, add-sums, carry-puts, all-puts, length-each, bits-flips, below-flips, length-flips, length-bits, bits-replicate, below-replicate}

-- the constants are worth what they say
pub constant-worth : (k : Circuit) → Formed k → (a : ℕ → Bool) → Holds a k → (b : Bool) → bit a (constant_lit b) ≡ b
unfolding bit
constant-worth k f a h true = f.based a h
constant-worth k f a h false = ap not (f.based a h)

module _ (xs ys : List Lit) (k : Circuit) (f : Formed k) (xb : LitsBelow k.variables xs) (yb : LitsBelow k.variables ys) (e : length ys ≡ length xs) where
  pub and_of-gives : Gives k (and_of xs ys k) (length xs) (λ a. each_value gate.And (bits a xs) (bits a ys) false)
  and_of-gives =
      let g : Gives k (and_of xs ys k) (length xs) (λ a. each_value gate.And (bits a xs) (bits a ys) (bit a zero_lit)) = each-gives gate.And xs ys zero_lit k xb yb f.some e in
      record {
        builds = g.builds;
        inside = g.inside;
        worth = λ a h. g.worth a h ∙ ap (each_value gate.And (bits a xs) (bits a ys)) (constant-worth k f a (g.builds.keeps a h) false);
      }

  pub xor_of-gives : Gives k (xor_of xs ys k) (length xs) (λ a. each_value gate.Xor (bits a xs) (bits a ys) false)
  xor_of-gives =
      let g : Gives k (xor_of xs ys k) (length xs) (λ a. each_value gate.Xor (bits a xs) (bits a ys) (bit a zero_lit)) = each-gives gate.Xor xs ys zero_lit k xb yb f.some e in
      record {
        builds = g.builds;
        inside = g.inside;
        worth = λ a h. g.worth a h ∙ ap (each_value gate.Xor (bits a xs) (bits a ys)) (constant-worth k f a (g.builds.keeps a h) false);
      }

  pub sum_of-gives : Gives k (sum_of xs ys k) (2 * length xs) (λ a. sum_value (bits a xs) (bits a ys) false)
  sum_of-gives =
      let s : Sums k (add xs ys zero_lit k) (2 * length xs) (λ a. sum_value (bits a xs) (bits a ys) (bit a zero_lit)) (λ a. carry_value (bits a xs) (bits a ys) (bit a zero_lit)) = add-sums xs ys zero_lit k xb yb f.some e in
      record {
        builds = s.builds;
        inside = s.inside;
        worth = λ a h. s.worth a h ∙ ap (sum_value (bits a xs) (bits a ys)) (constant-worth k f a (s.builds.keeps a h) false);
      }

  pub difference_of-gives : Gives k (difference_of xs ys k) (2 * length xs) (λ a. sum_value (bits a xs) (map not (bits a ys)) true)
  difference_of-gives =
      let s : Sums k (add xs (flips ys) one_lit k) (2 * length xs) (λ a. sum_value (bits a xs) (bits a (flips ys)) (bit a one_lit)) (λ a. carry_value (bits a xs) (bits a (flips ys)) (bit a one_lit)) =
      add-sums xs (flips ys) one_lit k xb (below-flips k.variables ys yb) f.some (length-flips ys ∙ e) in
      record {
        builds = s.builds;
        inside = s.inside;
        worth = λ a h.
            s.worth a h ∙ ap (λ zs. sum_value (bits a xs) zs (bit a one_lit)) (bits-flips a ys)
            ∙ ap (sum_value (bits a xs) (map not (bits a ys))) (constant-worth k f a (s.builds.keeps a h) true);
      }

  pub equal_of-gives : Gives k (equal_of xs ys k) (2 * length xs) (λ a. all_value true (map not (each_value gate.Xor (bits a xs) (bits a ys) false)) ∷ [])
  equal_of-gives =
      let apart : Row = xor_of xs ys k in
      let g : Gives k apart (length xs) (λ a. each_value gate.Xor (bits a xs) (bits a ys) false) = xor_of-gives in
      let long : length (flips apart.bits) ≡ length xs = length-flips apart.bits ∙ length-each gate.Xor xs ys zero_lit k e in
      let m : Made = all one_lit (flips apart.bits) apart.circuit in
      let p : Puts apart.circuit m (length (flips apart.bits)) (λ a. all_value (bit a one_lit) (bits a (flips apart.bits))) =
      all-puts one_lit (flips apart.bits) apart.circuit (g.builds.formed f).some (below-flips apart.circuit.variables apart.bits g.inside) in
      record {
        builds = Builds-then k apart.circuit m.circuit (length xs) (length (flips apart.bits)) (2 * length xs) g.builds p.builds (omega (arith, long));
        inside = (p.inside, tt);
        worth = λ a h.
            let held : Holds a apart.circuit = p.builds.keeps a h in
            ap (λ b. b ∷ []) (p.worth a h
            ∙ ap (λ b. all_value b (bits a (flips apart.bits))) (constant-worth k f a (g.builds.keeps a held) true)
            ∙ ap (all_value true) (bits-flips a apart.bits ∙ ap (map not) (g.worth a held)));
      }

module _ (xs ys : List Lit) (k : Circuit) (f : Formed k) (xb : LitsBelow k.variables xs) (yb : LitsBelow k.variables ys) (e : length ys ≡ length xs) where
  pub or_of-gives : Gives k (or_of xs ys k) (length xs) (λ a. map not (each_value gate.And (map not (bits a xs)) (map not (bits a ys)) false))
  or_of-gives =
      let both : Row = and_of (flips xs) (flips ys) k in
      let g : Gives k both (length (flips xs)) (λ a. each_value gate.And (bits a (flips xs)) (bits a (flips ys)) false) =
      and_of-gives (flips xs) (flips ys) k f (below-flips k.variables xs xb) (below-flips k.variables ys yb) (length-flips ys ∙ e ∙ sym (length-flips xs)) in
      record {
        builds = subst (λ n. Builds k both.circuit n) (length-flips xs) g.builds;
        inside = below-flips both.circuit.variables both.bits g.inside;
        worth = λ a h.
            bits-flips a both.bits ∙ ap (map not) (g.worth a h ∙ ap (λ zs. each_value gate.And zs (bits a (flips ys)) false) (bits-flips a xs)
            ∙ ap (λ zs. each_value gate.And (map not (bits a xs)) zs false) (bits-flips a ys));
      }

pub pick_of-gives : (z : Lit) (xs ys : List Lit) (k : Circuit) → LitsBelow k.variables xs → LitsBelow k.variables ys → z.variable < k.variables → length ys ≡ length xs
    → Gives k (pick_of z xs ys k) (length xs) (λ a. each_value gate.Pick (bits a xs) (bits a ys) (bit a z))
pick_of-gives z xs ys k xb yb zb e = each-gives gate.Pick xs ys z k xb yb zb e

pub length-copies : (xs : List Lit) (l : Lit) → length (copies xs l) ≡ length xs
length-copies xs l = length-replicate (length xs) l

-- copies of a bit, as bits
pub bits-copies : (a : ℕ → Bool) (xs : List Lit) (l : Lit) → bits a (copies xs l) ≡ replicate (length (bits a xs)) (bit a l)
bits-copies a xs l = bits-replicate a (length xs) l ∙ ap (λ n. replicate n (bit a l)) (sym (length-bits a xs))

pub negation_of-gives : (xs : List Lit) (k : Circuit) → Formed k → LitsBelow k.variables xs
    → Gives k (negation_of xs k) (2 * length xs) (λ a. sum_value (replicate (length (bits a xs)) false) (map not (bits a xs)) true)
negation_of-gives xs k f xb =
    let zs : List Lit = copies xs zero_lit in
    let s : Sums k (add zs (flips xs) one_lit k) (2 * length zs) (λ a. sum_value (bits a zs) (bits a (flips xs)) (bit a one_lit)) (λ a. carry_value (bits a zs) (bits a (flips xs)) (bit a one_lit)) =
    add-sums zs (flips xs) one_lit k (below-replicate k.variables (length xs) zero_lit f.some) (below-flips k.variables xs xb) f.some (length-flips xs ∙ sym (length-copies xs zero_lit)) in
    record {
      builds = subst (λ n. Builds k (negation_of xs k).circuit (2 * n)) (length-copies xs zero_lit) s.builds;
      inside = s.inside;
      worth = λ a h.
          let held : Holds a k = s.builds.keeps a h in
          s.worth a h
          ∙ ap (λ us. sum_value us (bits a (flips xs)) (bit a one_lit)) (bits-copies a xs zero_lit ∙ ap (replicate (length (bits a xs))) (constant-worth k f a held false))
          ∙ ap (λ us. sum_value (replicate (length (bits a xs)) false) us (bit a one_lit)) (bits-flips a xs)
          ∙ ap (sum_value (replicate (length (bits a xs)) false) (map not (bits a xs))) (constant-worth k f a held true);
    }

-- the greatest bits
pub bit-greatest : (a : ℕ → Bool) (d : Lit) (xs : List Lit) → bit a (greatest d xs) ≡ greatest (bit a d) (bits a xs)
bit-greatest a d [] = refl
bit-greatest a d (x ∷ xs) = bit-greatest a x xs

pub below-greatest : (v : ℕ) (d : Lit) (xs : List Lit) → d.variable < v → LitsBelow v xs → (greatest d xs).variable < v
below-greatest v d [] h b = h
below-greatest v d (x ∷ xs) h b = below-greatest v x xs b.0 b.1

pub bits-top : (a : ℕ → Bool) (xs : List Lit) → bits a (top_changed opposite_of xs) ≡ top_changed not (bits a xs)
bits-top a [] = refl
bits-top a (x ∷ []) = ap (λ b. b ∷ []) (bit-opposite a x)
bits-top a (x ∷ y ∷ ys) = ap (λ bs. bit a x ∷ bs) (bits-top a (y ∷ ys))

pub below-top : (v : ℕ) (xs : List Lit) → LitsBelow v xs → LitsBelow v (top_changed opposite_of xs)
below-top v [] b = tt
below-top v (x ∷ []) b = b
below-top v (x ∷ y ∷ ys) b = (b.0, below-top v (y ∷ ys) b.1)

pub length-top : (xs : List Lit) → length (top_changed opposite_of xs) ≡ length xs
length-top [] = refl
length-top (x ∷ []) = refl
length-top (x ∷ y ∷ ys) = ap suc (length-top (y ∷ ys))

pub less_of-gives : (xs ys : List Lit) (k : Circuit) → Formed k → LitsBelow k.variables xs → LitsBelow k.variables ys → length ys ≡ length xs
    → Gives k (less_of xs ys k) (length xs) (λ a. not (carry_value (top_changed not (bits a xs)) (map not (top_changed not (bits a ys))) true) ∷ [])
less_of-gives xs ys k f xb yb e =
    let us : List Lit = top_changed opposite_of xs in
    let vs : List Lit = flips (top_changed opposite_of ys) in
    let m : Made = carry us vs one_lit k in
    let p : Puts k m (length us) (λ a. carry_value (bits a us) (bits a vs) (bit a one_lit)) =
    carry-puts us vs one_lit k (below-top k.variables xs xb) (below-flips k.variables (top_changed opposite_of ys) (below-top k.variables ys yb)) f.some
    (length-flips (top_changed opposite_of ys) ∙ length-top ys ∙ e ∙ sym (length-top xs)) in
    record {
      builds = subst (λ n. Builds k m.circuit n) (length-top xs) p.builds;
      inside = (p.inside, tt);
      worth = λ a h.
          ap (λ b. b ∷ []) (bit-opposite a m.lit ∙ ap not (p.worth a h
          ∙ ap (λ zs. carry_value zs (bits a vs) (bit a one_lit)) (bits-top a xs)
          ∙ ap (λ zs. carry_value (top_changed not (bits a xs)) zs (bit a one_lit)) (bits-flips a (top_changed opposite_of ys) ∙ ap (map not) (bits-top a ys))
          ∙ ap (carry_value (top_changed not (bits a xs)) (map not (top_changed not (bits a ys)))) (constant-worth k f a (p.builds.keeps a h) true)));
    }
