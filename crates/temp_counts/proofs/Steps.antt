-- Counts one after another.
use Rattle.std.proofs.Common.{◌≡◌, ℕ, ◌≤◌, refl, sym, ap, subst, ◌∙◌, arith, Bool, true, false, suc, eqb-true}
use Rattle.std.specs.Prelude.{max, if◌then◌else◌}
use Rattle.gc0_tree.specs.declared.Shape.{Shape}
use Rattle.gc0_tree.specs.declared.Shape.TheVariants.{Int, Bool as Truth, Pointer, Null}
use Rattle.lowering_laws.specs.Counts.{Counts, same_shape, one_more, with_temp, decided}
use Rattle.lowering_laws.specs.Statements.{larger}
use Rattle.temp_counts.specs.Used.{used_in}
use Rattle.temp_counts.specs.Most.{most_in, raised}
use Rattle.temp_counts.specs.declared.tally.Tally.{Tally}
use Rattle.temp_counts.specs.Counting.{IsWithin, Counting, Using}

same_is : (s u : Shape) → same_shape s u ≡ true → s ≡ u
same_is Int Int h = refl
same_is Truth Truth h = refl
same_is Null Null h = refl
same_is (Pointer j) (Pointer k) h = ap Pointer (eqb-true j k h)
same_is s u h = absurd (let f : false ≡ true = h in cc)

-- nothing is counted
pub still : (t : Tally) → Counting t t (λ c. c)
still t = record {
  used = λ c at. at;
  grown = λ s. omega arith;
  most = λ within s. let h : used_in t.used s ≤ most_in t.most s = within s in omega arith;
}

-- one count behind another
pub behind : (t u v : Tally) (f g : Counts → Counts) → Counting t u f → Counting u v g → Counting t v (λ c. g (f c))
behind t u v f g first second = record {
  used = λ c at. second.used (f c) (first.used c at);
  grown = λ s.
      let a : used_in t.used s ≤ used_in u.used s = first.grown s in
      let b : used_in u.used s ≤ used_in v.used s = second.grown s in
      omega arith;
  most = λ within s.
      let inner : IsWithin u = λ x. (let e : most_in u.most x ≡ max (most_in t.most x) (used_in u.used x) = first.most within x in omega arith) in
      let a : most_in u.most s ≡ max (most_in t.most s) (used_in u.used s) = first.most within s in
      let b : most_in v.most s ≡ max (most_in u.most s) (used_in v.used s) = second.most inner s in
      let g : used_in u.used s ≤ used_in v.used s = second.grown s in
      omega arith;
}

-- decisions are no temporaries
pub past_decisions : (t u : Tally) (f : Counts → Counts) (n : ℕ) → Counting t u f → Counting t u (λ c. decided n (f c))
past_decisions t u f n count = record { used = λ c at. count.used c at; grown = count.grown; most = count.most }

more_grown : (b : Bool) (n : ℕ) → n ≤ (if b then suc n else n)
more_grown true n = omega arith
more_grown false n = omega arith

more_most : (b : Bool) (m n k : ℕ) → (b ≡ true → k ≡ n) → n ≤ m → (if b then max m (suc k) else m) ≡ max m (if b then suc n else n)
more_most true m n k same within = let e : k ≡ n = same refl in omega arith
more_most false m n k same within = omega arith

-- a temporary that is taken
pub taken : (t u : Tally) (shape : Shape) (n : ℕ) → n ≡ suc (used_in t.used shape) → ((s : Shape) → used_in u.used s ≡ one_more shape (used_in t.used) s)
    → ((s : Shape) → most_in u.most s ≡ raised shape n (most_in t.most) s)
    → Counting t u (with_temp shape)
taken t u shape n is used most = record {
  used = λ c at s. used s ∙ ap (λ (n : ℕ). if same_shape shape s then suc n else n) (at s);
  grown = λ s. subst (λ (n : ℕ). used_in t.used s ≤ n) (sym (used s)) (more_grown (same_shape shape s) (used_in t.used s));
  most = λ within s.
      most s
      ∙ (ap (λ (k : ℕ). raised shape k (most_in t.most) s) is
      ∙ (more_most (same_shape shape s) (most_in t.most s) (used_in t.used s) (used_in t.used shape) (λ e. ap (used_in t.used) (same_is shape s e)) (within s)
      ∙ ap (max (most_in t.most s)) (sym (used s))));
}

-- statements one after another
pub both_use : (t u v : Tally) (a b : Shape → ℕ) → Using t u a → Using u v b → Using t v (larger a b)
both_use t u v a b first second = record {
  most = λ s.
      let x : most_in u.most s ≡ max (most_in t.most s) (a s) = first.most s in
      let y : most_in v.most s ≡ max (most_in u.most s) (b s) = second.most s in
      omega arith;
}
