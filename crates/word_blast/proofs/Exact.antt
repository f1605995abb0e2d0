-- The law of circuits.
use Rattle.std.proofs.Common.{◌≡◌, ℕ, zero, suc, ◌+◌, ◌*◌, ◌<◌, ◌≤◌, Bool, true, false, not, ◌&&◌, ◌||◌, if◌then◌else◌, eqb, List, [], ◌∷◌, ◌++◌, length, get_or, slice_get, Some, replicate, refl, sym, ◌∙◌, ap, subst, arith, true≢false, All}
use Rattle.std.specs.List.{Any}
use Rattle.std.proofs.lemmas.Option.{slice_get_within}
use Rattle.std.proofs.lemmas.List.{length-replicate}
use Rattle.std.proofs.lemmas.List.Folds.{list_any-append}
use Rattle.gc0_base.specs.declared.word.Word.{Word}
use Rattle.sat_check.specs.declared.clause.Lit.{Lit}
use Rattle.sat_check.specs.declared.clause.Clause.{Clause}
use Rattle.sat_check.specs.Clauses.{opposite_of, IsTrueUnder, Satisfies}
use Rattle.word_terms.specs.declared.node.Node.TheVariants as node
use Rattle.word_terms.specs.Terms.{value, truth_word}
use Rattle.word_terms.specs.Tables.{Table, IsTable, term}
use Rattle.word_terms.specs.Weights.{has, is_under, weight_of}
use Rattle.word_terms.specs.Parts.{HavePartsBefore-IsTable}
use Rattle.word_blast.specs.declared.blasted.Input.{Input}
use Rattle.word_blast.specs.Bits.{number, least}
use Rattle.word_blast.specs.Gates.{first_circuit, bit, bits, clause_true, all_true, Holds}
use Rattle.word_blast.specs.Groups.{zero_lit}
use Rattle.word_blast.specs.Circuits.{width_of, row_at, Blasted, no_input, nothing_blasted, blasted_terms, true_clauses, false_clauses, circuit}
use Rattle.word_blast.specs.Valuations.{lits_of, HasBits, MakesTrue, MakesFalse, AreTruths, HasSolution, CircuitIsExact, leaves_of}
use Rattle.word_blast.proofs.Gating.{bit-opposite, and-true, all_true-append}
use Rattle.word_blast.proofs.Building.{LitsBelow}
use Rattle.word_blast.proofs.Rows.{Model, Stands, Ends, blasted-ends}
use Rattle.word_blast.proofs.Under.{roots-under, parts-under}

-- before the first term
first-holds : (a : ℕ → Bool) → Holds a first_circuit → a 0 ≡ true
unfolding bit
first-holds a h = by (a 0) h
  where
    by : (b : Bool) → ((b || false) && true) ≡ true → b ≡ true
    by true h = refl
    by false h = absurd (true≢false (sym h))

blank-input : (n i : ℕ) (input : Input) → slice_get (replicate n no_input) i ≡ Some input → no_input ≡ input
blank-input zero i input e = absurd (cc)
blank-input (suc n) zero input e = cc
blank-input (suc n) (suc i) input e = blank-input n i input e

blank-at : (n i : ℕ) → i < n → slice_get (replicate n no_input) i ≡ Some no_input
blank-at zero i h = absurd (omega arith)
blank-at (suc n) zero h = refl
blank-at (suc n) (suc i) h = blank-at n i (omega arith)

first-stands : (t : Table) (test : ℕ → Bool) → IsTable t → Stands t test (nothing_blasted (length t.sorts)) 0
unfolding bit
first-stands t test ok = record {
  rows_long = refl;
  inputs_long = length-replicate (length t.sorts) no_input;
  formed = record { below = ((omega arith, tt), tt); some = omega arith; based = λ a h. first-holds a h };
  inside = λ i h. absurd (omega arith);
  wide = λ i h p. absurd (omega arith);
  inputs_below = λ i input e. subst (λ x. LitsBelow 1 (lits_of x)) (blank-input (length t.sorts) i input e) tt;
  fresh = λ j i s h at. blank-at (length t.sorts) i (slice_get_within t.sorts i s (ok.whole j (node.Symbol i s) at));
  sound = λ a words held bitty i h p. absurd (omega arith);
  complete = λ words v. record {
    assignment = λ n. true;
    holds = refl;
    has = λ i input e p. absurd (let z : 0 ≡ input.count = ap (λ x. x.count) (blank-input (length t.sorts) i input e) in omega arith);
  };
}

or-second : (x y : Bool) → y ≡ true → (x || y) ≡ true
or-second true y e = refl
or-second false y e = e

-- clauses hold where an assignment satisfies them
IsTrueUnder-bit : (a : ℕ → Bool) (l : Lit) → bit a l ≡ true → IsTrueUnder a l
unfolding bit
IsTrueUnder-bit a l h = by (a l.variable) l.positive h
  where
    by : (x p : Bool) → (if p then x else not x) ≡ true → x ≡ p
    by true true h = refl
    by true false h = absurd (true≢false (sym h))
    by false true h = absurd (true≢false (sym h))
    by false false h = refl

bit-IsTrueUnder : (a : ℕ → Bool) (l : Lit) → IsTrueUnder a l → bit a l ≡ true
unfolding bit
bit-IsTrueUnder a l h = by (a l.variable) l.positive h
  where
    by : (x p : Bool) → x ≡ p → (if p then x else not x) ≡ true
    by true true h = refl
    by true false h = absurd (true≢false h)
    by false true h = absurd (true≢false (sym h))
    by false false h = refl

any-first : (a : ℕ → Bool) (l : Lit) (ls : List Lit) → clause_true a (l ∷ ls) ≡ true → (clause_true a ls ≡ true → Any (IsTrueUnder a) ls) → (b : Bool) → bit a l ≡ b → Any (IsTrueUnder a) (l ∷ ls)
any-first a l ls h rest true e = (0, l, omega arith, refl, IsTrueUnder-bit a l e)
any-first a l ls h rest false e =
    let r : Any (IsTrueUnder a) ls = rest (sym (ap (λ b. b || clause_true a ls) e) ∙ h) in
    (suc r.0, r.1, (let p : r.0 < length ls = r.2 in omega arith), r.3, r.4)

Any-true : (a : ℕ → Bool) (ls : List Lit) → clause_true a ls ≡ true → Any (IsTrueUnder a) ls
Any-true a [] h = absurd (true≢false (sym h))
Any-true a (l ∷ ls) h =
    any-first a l ls h (Any-true a ls) (bit a l) refl

true-Any : (a : ℕ → Bool) (ls : List Lit) (k : ℕ) (x : Lit) → k < length ls → get_or ls k x ≡ x → IsTrueUnder a x → clause_true a ls ≡ true
true-Any a [] k x h e p = absurd (omega arith)
true-Any a (l ∷ ls) zero x h e p = ap (λ b. b || clause_true a ls) (bit-IsTrueUnder a l (subst (IsTrueUnder a) (sym e) p))
true-Any a (l ∷ ls) (suc k) x h e p = or-second (bit a l) (clause_true a ls) (true-Any a ls k x (omega arith) e p)

pub Satisfies-true : (a : ℕ → Bool) (cs : List Clause) → all_true a cs ≡ true → Satisfies a cs
Satisfies-true a [] h k d l = absurd (omega arith)
Satisfies-true a (c ∷ cs) h zero d l = Any-true a c.lits (and-true (clause_true a c.lits) (all_true a cs) h).0
Satisfies-true a (c ∷ cs) h (suc k) d l = Satisfies-true a cs (and-true (clause_true a c.lits) (all_true a cs) h).1 k d (omega arith)

pub true-Satisfies : (a : ℕ → Bool) (cs : List Clause) → Satisfies a cs → all_true a cs ≡ true
true-Satisfies a [] s = refl
true-Satisfies a (c ∷ cs) s =
    let first : Any (IsTrueUnder a) c.lits = s 0 c (omega arith) in
    ap (λ b. b && all_true a cs) (true-Any a c.lits first.0 first.1 first.2 first.3 first.4) ∙ true-Satisfies a cs (λ k d l. s (suc k) d (omega arith))

-- the bit of a truth tells its number
least-one : (a : ℕ → Bool) (row : List Lit) → length row ≡ 1 → bit a (least zero_lit row) ≡ true → number (bits a row) ≡ 1
least-one a [] e h = absurd (omega arith)
least-one a (l ∷ []) e h = ap (λ b. truth_word b + 2 * 0) h
least-one a (l ∷ m ∷ ls) e h = absurd (omega arith)

one-least : (a : ℕ → Bool) (row : List Lit) → length row ≡ 1 → number (bits a row) ≡ 1 → bit a (least zero_lit row) ≡ true
one-least a [] e h = absurd (omega arith)
one-least a (l ∷ []) e h = by (bit a l) h
  where
    by : (b : Bool) → truth_word b + 2 * 0 ≡ 1 → b ≡ true
    by true h = refl
    by false h = absurd (omega arith)
one-least a (l ∷ m ∷ ls) e h = absurd (omega arith)

least-none : (a : ℕ → Bool) (row : List Lit) → length row ≡ 1 → bit a (opposite_of (least zero_lit row)) ≡ true → number (bits a row) ≡ 0
least-none a [] e h = absurd (omega arith)
least-none a (l ∷ []) e h = by (bit a l) (sym (bit-opposite a l) ∙ h)
  where
    by : (b : Bool) → not b ≡ true → truth_word b + 2 * 0 ≡ 0
    by true h = absurd (true≢false (sym h))
    by false h = refl
least-none a (l ∷ m ∷ ls) e h = absurd (omega arith)

none-least : (a : ℕ → Bool) (row : List Lit) → length row ≡ 1 → number (bits a row) ≡ 0 → bit a (opposite_of (least zero_lit row)) ≡ true
none-least a [] e h = absurd (omega arith)
none-least a (l ∷ []) e h = bit-opposite a l ∙ by (bit a l) h
  where
    by : (b : Bool) → truth_word b + 2 * 0 ≡ 0 → not b ≡ true
    by true h = absurd (omega arith)
    by false h = refl
none-least a (l ∷ m ∷ ls) e h = absurd (omega arith)

-- the clauses of roots, one by one
module _ (a : ℕ → Bool) (rows : List (List Lit)) where
  true-roots : (ts : List ℕ) → all_true a (true_clauses rows ts) ≡ true → All (λ t. bit a (least zero_lit (row_at rows t)) ≡ true) ts
  true-roots [] h k d l = absurd (omega arith)
  true-roots (t ∷ ts) h zero d l = or-false (bit a (least zero_lit (row_at rows t))) (and-true (bit a (least zero_lit (row_at rows t)) || false) (all_true a (true_clauses rows ts)) h).0
    where
      or-false : (b : Bool) → (b || false) ≡ true → b ≡ true
      or-false true h = refl
      or-false false h = absurd (true≢false (sym h))
  true-roots (t ∷ ts) h (suc k) d l = true-roots ts (and-true (bit a (least zero_lit (row_at rows t)) || false) (all_true a (true_clauses rows ts)) h).1 k d (omega arith)

  roots-true : (ts : List ℕ) → All (λ t. bit a (least zero_lit (row_at rows t)) ≡ true) ts → all_true a (true_clauses rows ts) ≡ true
  roots-true [] h = refl
  roots-true (t ∷ ts) h = ap (λ b. (b || false) && all_true a (true_clauses rows ts)) (h 0 t (omega arith)) ∙ roots-true ts (λ k d l. h (suc k) d (omega arith))

  false-roots : (ts : List ℕ) → all_true a (false_clauses rows ts) ≡ true → All (λ t. bit a (opposite_of (least zero_lit (row_at rows t))) ≡ true) ts
  false-roots [] h k d l = absurd (omega arith)
  false-roots (t ∷ ts) h zero d l = or-false (bit a (opposite_of (least zero_lit (row_at rows t)))) (and-true (bit a (opposite_of (least zero_lit (row_at rows t))) || false) (all_true a (false_clauses rows ts)) h).0
    where
      or-false : (b : Bool) → (b || false) ≡ true → b ≡ true
      or-false true h = refl
      or-false false h = absurd (true≢false (sym h))
  false-roots (t ∷ ts) h (suc k) d l = false-roots ts (and-true (bit a (opposite_of (least zero_lit (row_at rows t))) || false) (all_true a (false_clauses rows ts)) h).1 k d (omega arith)

  roots-false : (ts : List ℕ) → All (λ t. bit a (opposite_of (least zero_lit (row_at rows t))) ≡ true) ts → all_true a (false_clauses rows ts) ≡ true
  roots-false [] h = refl
  roots-false (t ∷ ts) h = ap (λ b. (b || false) && all_true a (false_clauses rows ts)) (h 0 t (omega arith)) ∙ roots-false ts (λ k d l. h (suc k) d (omega arith))

-- what stands in a list is had by it
eqb-itself : (n : ℕ) → eqb n n ≡ true
eqb-itself n = grind arith

has-at : (ts : List ℕ) (k d : ℕ) → k < length ts → has ts (get_or ts k d) ≡ true
has-at [] k d h = absurd (omega arith)
has-at (t ∷ ts) zero d h = ap (λ b. b || has ts t) (eqb-itself t)
has-at (t ∷ ts) (suc k) d h = or-second (eqb (get_or ts k d) t) (has ts (get_or ts k d)) (has-at ts k d (omega arith))

has-front : (xs ys : List ℕ) (t : ℕ) → has xs t ≡ true → has (xs ++ ys) t ≡ true
has-front xs ys t h = list_any-append (eqb t) xs ys ∙ ap (λ b. b || has ys t) h

has-back : (xs ys : List ℕ) (t : ℕ) → has ys t ≡ true → has (xs ++ ys) t ≡ true
has-back xs ys t h = list_any-append (eqb t) xs ys ∙ or-second (has xs t) (has ys t) h

module _ (t : Table) (ok : IsTable t) (truths falsehoods : List ℕ) where
  pub terms-end : Ends t (is_under t.nodes (truths ++ falsehoods)) (nothing_blasted (length t.sorts)) (blasted_terms t truths falsehoods) 0 t.nodes
  terms-end =
      blasted-ends t (is_under t.nodes (truths ++ falsehoods)) ok
      (λ i n at p q h. parts-under t.nodes (truths ++ falsehoods) (HavePartsBefore-IsTable t ok) i n at p q h)
      t.nodes 0 (nothing_blasted (length t.sorts)) (λ i n at. subst (λ k. slice_get t.nodes k ≡ Some n) (let e : i ≡ 0 + i = omega arith in e) at)
      (first-stands t (is_under t.nodes (truths ++ falsehoods)) ok)

  stands : Stands t (is_under t.nodes (truths ++ falsehoods)) (blasted_terms t truths falsehoods) (length t.nodes)
  stands = subst (Stands t (is_under t.nodes (truths ++ falsehoods)) (blasted_terms t truths falsehoods)) (let e : 0 + length t.nodes ≡ length t.nodes = omega arith in e) terms-end.stands

  -- what the clauses say of a root
  module _ (a : ℕ → Bool) (words : List Word) (held : Holds a (blasted_terms t truths falsehoods).circuit) (bitty : HasBits a (blasted_terms t truths falsehoods).inputs words) where
    root-worth : (ts : List ℕ) → ((r : ℕ) → has ts r ≡ true → has (truths ++ falsehoods) r ≡ true) → AreTruths t.nodes ts → (k d : ℕ) → k < length ts
        → (length (row_at (blasted_terms t truths falsehoods).rows (get_or ts k d)) ≡ 1) × (number (bits a (row_at (blasted_terms t truths falsehoods).rows (get_or ts k d))) ≡ value words (term t.nodes (get_or ts k d)))
    root-worth ts among are k d h =
        let r : ℕ = get_or ts k d in
        let s : Stands t (is_under t.nodes (truths ++ falsehoods)) (blasted_terms t truths falsehoods) (length t.nodes) = stands in
        let under : is_under t.nodes (truths ++ falsehoods) r ≡ true = roots-under t.nodes (truths ++ falsehoods) r (among r (has-at ts k d h)) in
        (s.wide r (are k d h).0 under ∙ ap width_of (are k d h).1, s.sound a words held bitty r (are k d h).0 under)

    makes-true : (ts : List ℕ) → ((r : ℕ) → has ts r ≡ true → has (truths ++ falsehoods) r ≡ true) → AreTruths t.nodes ts → all_true a (true_clauses (blasted_terms t truths falsehoods).rows ts) ≡ true → MakesTrue words t.nodes ts
    makes-true ts among are h k d l =
        let w = root-worth ts among are k d l in
        sym w.1 ∙ least-one a (row_at (blasted_terms t truths falsehoods).rows (get_or ts k d)) w.0 (true-roots a (blasted_terms t truths falsehoods).rows ts h k d l)

    true-makes : (ts : List ℕ) → ((r : ℕ) → has ts r ≡ true → has (truths ++ falsehoods) r ≡ true) → AreTruths t.nodes ts → MakesTrue words t.nodes ts → all_true a (true_clauses (blasted_terms t truths falsehoods).rows ts) ≡ true
    true-makes ts among are h =
        roots-true a (blasted_terms t truths falsehoods).rows ts (λ k d l. let w = root-worth ts among are k d l in one-least a (row_at (blasted_terms t truths falsehoods).rows (get_or ts k d)) w.0 (w.1 ∙ h k d l))

    makes-false : (ts : List ℕ) → ((r : ℕ) → has ts r ≡ true → has (truths ++ falsehoods) r ≡ true) → AreTruths t.nodes ts → all_true a (false_clauses (blasted_terms t truths falsehoods).rows ts) ≡ true → MakesFalse words t.nodes ts
    makes-false ts among are h k d l =
        let w = root-worth ts among are k d l in
        sym w.1 ∙ least-none a (row_at (blasted_terms t truths falsehoods).rows (get_or ts k d)) w.0 (false-roots a (blasted_terms t truths falsehoods).rows ts h k d l)

    false-makes : (ts : List ℕ) → ((r : ℕ) → has ts r ≡ true → has (truths ++ falsehoods) r ≡ true) → AreTruths t.nodes ts → MakesFalse words t.nodes ts → all_true a (false_clauses (blasted_terms t truths falsehoods).rows ts) ≡ true
    false-makes ts among are h =
        roots-false a (blasted_terms t truths falsehoods).rows ts (λ k d l. let w = root-worth ts among are k d l in none-least a (row_at (blasted_terms t truths falsehoods).rows (get_or ts k d)) w.0 (w.1 ∙ h k d l))

  -- all clauses hold where those of the terms, of the truths and of the falsehoods do
  parts-hold : (a : ℕ → Bool) → all_true a (circuit t truths falsehoods).clauses ≡ true
      → Holds a (blasted_terms t truths falsehoods).circuit × (all_true a (true_clauses (blasted_terms t truths falsehoods).rows truths) ≡ true) × (all_true a (false_clauses (blasted_terms t truths falsehoods).rows falsehoods) ≡ true)
  unfolding circuit
  parts-hold a h =
      let b : Blasted = blasted_terms t truths falsehoods in
      let cs : List Clause = true_clauses b.rows truths in
      let ds : List Clause = false_clauses b.rows falsehoods in
      let last = and-true (all_true a (b.circuit.clauses ++ cs)) (all_true a ds) (sym (all_true-append a (b.circuit.clauses ++ cs) ds) ∙ h) in
      let front = and-true (all_true a b.circuit.clauses) (all_true a cs) (sym (all_true-append a b.circuit.clauses cs) ∙ last.0) in
      (front.0, front.1, last.1)

  holds-parts : (a : ℕ → Bool) → Holds a (blasted_terms t truths falsehoods).circuit → all_true a (true_clauses (blasted_terms t truths falsehoods).rows truths) ≡ true → all_true a (false_clauses (blasted_terms t truths falsehoods).rows falsehoods) ≡ true
      → all_true a (circuit t truths falsehoods).clauses ≡ true
  unfolding circuit
  holds-parts a h c d =
      let b : Blasted = blasted_terms t truths falsehoods in
      let cs : List Clause = true_clauses b.rows truths in
      let ds : List Clause = false_clauses b.rows falsehoods in
      all_true-append a (b.circuit.clauses ++ cs) ds ∙ ap (λ x. x && all_true a ds) (all_true-append a b.circuit.clauses cs ∙ ap (λ x. x && all_true a cs) h ∙ c) ∙ d

  inputs-are : (circuit t truths falsehoods).inputs ≡ (blasted_terms t truths falsehoods).inputs
  unfolding circuit
  inputs-are = refl

  pub variables-are : (circuit t truths falsehoods).variables ≡ (blasted_terms t truths falsehoods).circuit.variables
  unfolding circuit
  variables-are = refl

  pub circuit-is-exact : AreTruths t.nodes truths → AreTruths t.nodes falsehoods → CircuitIsExact t truths falsehoods
  circuit-is-exact tt1 ff1 words val = (forth, back)
    where
      among-t : (r : ℕ) → has truths r ≡ true → has (truths ++ falsehoods) r ≡ true
      among-t r h = has-front truths falsehoods r h

      among-f : (r : ℕ) → has falsehoods r ≡ true → has (truths ++ falsehoods) r ≡ true
      among-f r h = has-back truths falsehoods r h

      forth : MakesTrue words t.nodes truths × MakesFalse words t.nodes falsehoods → HasSolution (circuit t truths falsehoods) words
      forth m =
          let model : Model (blasted_terms t truths falsehoods) words = stands.complete words val in
          let a : ℕ → Bool = model.assignment in
          let bitty : HasBits a (circuit t truths falsehoods).inputs words = subst (λ ins. HasBits a ins words) (sym inputs-are) model.has in (
            a,
            bitty,
            Satisfies-true a (circuit t truths falsehoods).clauses
                (holds-parts a model.holds (true-makes a words model.holds model.has truths among-t tt1 m.0) (false-makes a words model.holds model.has falsehoods among-f ff1 m.1)),
          )

      back : HasSolution (circuit t truths falsehoods) words → MakesTrue words t.nodes truths × MakesFalse words t.nodes falsehoods
      back s =
          let bitty : HasBits s.0 (blasted_terms t truths falsehoods).inputs words = subst (λ ins. HasBits s.0 ins words) inputs-are s.1 in
          let p = parts-hold s.0 (true-Satisfies s.0 (circuit t truths falsehoods).clauses s.2) in
          (makes-true s.0 words p.0 bitty truths among-t tt1 p.1, makes-false s.0 words p.0 bitty falsehoods among-f ff1 p.2)

  -- there are few enough variables
  pub circuit-count : (circuit t truths falsehoods).variables ≤ 4 * weight_of t.nodes (truths ++ falsehoods) + 32 * leaves_of t.nodes (truths ++ falsehoods) + 32
  circuit-count = omega (arith, terms-end.count, variables-are)
