-- Valuations from assignments.
use Rattle.std.proofs.Common.{◌≡◌, ◌≢◌, ℕ, zero, suc, ◌+◌, ◌-◌, ◌*◌, ◌%◌, ◌^◌, ◌<◌, ◌≤◌, Bool, true, false, if◌then◌else◌, List, [], ◌∷◌, ◌++◌, map, length, set, slice_get, Some, replicate, refl, sym, ◌∙◌, ap, subst, arith, inl, inr}
use Rattle.std.proofs.lemmas.Option.{slice_get_within}
use Rattle.std.proofs.lemmas.List.{length-set, length-replicate}
use Rattle.std.proofs.lemmas.Nat.{mul-mod_first}
use Rattle.std.proofs.Math.Nat.{mod-eq_of_lt, add-mod-mod}
use Rattle.std.proofs.Math.Pow.{pow_mono}
use Rattle.std.proofs.lemmas.Bool.Decides.{eqb_tells}
use Rattle.gc0_base.specs.declared.word.Word.{Word}
use Rattle.sat_check.specs.declared.clause.Lit.{Lit}
use Rattle.word_terms.specs.declared.node.Sort.{Sort}
use Rattle.word_terms.specs.declared.node.Sort.TheVariants.{Word32, Truth}
use Rattle.word_terms.specs.declared.node.Node.{Node}
use Rattle.word_terms.specs.declared.node.Node.TheVariants as node
use Rattle.word_terms.specs.Terms.{truth_word, bound_of, IsValuation}
use Rattle.word_terms.specs.Tables.{Table, IsTable}
use Rattle.word_terms.specs.Weights.{is_under}
use Rattle.word_terms.specs.Worth.{word_of, number_at}
use Rattle.word_blast.specs.declared.blasted.Input.{Input}
use Rattle.word_blast.specs.Bits.{number}
use Rattle.word_blast.specs.Gates.{lit_of, bit, bits}
use Rattle.word_blast.specs.Groups.{lits_from}
use Rattle.word_blast.specs.Circuits.{width_of, no_input, inputs_of, Blasted, with_node, without_node, blasted, nothing_blasted, blasted_terms, circuit}
use Rattle.word_blast.specs.Valuations.{lits_of, HasBits, input_word, FitSorts, IsReadFrom}
use Rattle.word_blast.specs.Queries.{words_of}
use Rattle.word_blast.proofs.Numbers.{number-lt}
use Rattle.word_blast.proofs.Rows.{slice_get-set_same, slice_get-set_other, width-bound, length-lits_from}
use Rattle.word_blast.proofs.Chains.{length-bits}

-- one bit more of a word
pub bits-step : (a : ℕ → Bool) (first count i w v : ℕ) (b : Bool) → 0 < i → i ≤ count → w ≡ number (bits a (lits_from (first + i) (count - i))) % 2 ^ 32 → b ≡ a (first + (i - 1)) → v ≡ ((w * 2) % 2 ^ 32 + truth_word b) % 2 ^ 32
    → v ≡ number (bits a (lits_from (first + (i - 1)) (count - (i - 1)))) % 2 ^ 32
unfolding bit
bits-step a first count i w v b pos le we be ve =
    let n : ℕ = number (bits a (lits_from (first + i) (count - i))) in
    let c : count - (i - 1) ≡ suc (count - i) = omega arith in
    let s : suc (first + (i - 1)) ≡ first + i = omega arith in
    let all : number (bits a (lits_from (first + (i - 1)) (count - (i - 1)))) ≡ truth_word b + 2 * n =
    ap (λ k. number (bits a (lits_from (first + (i - 1)) k))) c
    ∙ ap (λ k. truth_word (a (first + (i - 1))) + 2 * number (bits a (lits_from k (count - i)))) s
    ∙ ap (λ x. truth_word x + 2 * n) (sym be) in
    ve
    ∙ ap (λ k. ((k * 2) % 2 ^ 32 + truth_word b) % 2 ^ 32) we
    ∙ ap (λ k. (k + truth_word b) % 2 ^ 32) (mul-mod_first n 2 (2 ^ 32))
    ∙ ap (λ k. k % 2 ^ 32) (let e : (n * 2) % 2 ^ 32 + truth_word b ≡ truth_word b + (n * 2) % 2 ^ 32 = omega arith in e)
    ∙ add-mod-mod (truth_word b) (n * 2) (2 ^ 32)
    ∙ ap (λ k. k % 2 ^ 32) (let e : truth_word b + n * 2 ≡ truth_word b + 2 * n = omega arith in e)
    ∙ ap (λ k. k % 2 ^ 32) (sym all)

pub bits-start : (a : ℕ → Bool) (first count : ℕ) → 0 ≡ number (bits a (lits_from (first + count) (count - count))) % 2 ^ 32
bits-start a first count = sym (ap (λ k. number (bits a (lits_from (first + count) k)) % 2 ^ 32) (let e : count - count ≡ 0 = omega arith in e))

pub bits-end : (a : ℕ → Bool) (first count i w : ℕ) → i ≤ 0 → w ≡ number (bits a (lits_from (first + i) (count - i))) % 2 ^ 32 → w ≡ number (bits a (lits_from first count)) % 2 ^ 32
bits-end a first count i w h e =
    e ∙ ap (λ k. number (bits a (lits_from k (count - i))) % 2 ^ 32) (let x : first + i ≡ first = omega arith in x) ∙ ap (λ k. number (bits a (lits_from first k)) % 2 ^ 32) (let x : count - i ≡ count = omega arith in x)

number_at-words : (a : ℕ → Bool) (inputs : List Input) (i : ℕ) (input : Input) → slice_get inputs i ≡ Some input → number_at (words_of a inputs) i ≡ input_word a input
number_at-words a [] i input e = absurd (cc)
number_at-words a (x ∷ xs) zero input e = ap (input_word a) (let s : x ≡ input = cc in s)
number_at-words a (x ∷ xs) (suc i) input e = number_at-words a xs i input e

length-words : (a : ℕ → Bool) (inputs : List Input) → length (words_of a inputs) ≡ length inputs
length-words a [] = refl
length-words a (x ∷ xs) = ap suc (length-words a xs)

there : {X : Type 0} (xs : List X) (i : ℕ) → i < length xs → (x : X) × (slice_get xs i ≡ Some x)
there [] i h = absurd (omega arith)
there (x ∷ xs) zero h = (x, refl)
there (x ∷ xs) (suc i) h = there xs i (omega arith)

width-le : (s : Sort) → 2 ^ width_of s ≤ 2 ^ 32
width-le Word32 = omega arith
width-le Truth = omega arith

-- the words that are read are a valuation, with the assignment's bits
pub words-read : (a : ℕ → Bool) (inputs : List Input) → IsReadFrom a inputs (words_of a inputs)
words-read a inputs sorts fit = ((length-words a inputs ∙ fit.0, bounded), has)
  where
    small : (i : ℕ) (s : Sort) (input : Input) → slice_get sorts i ≡ Some s → slice_get inputs i ≡ Some input → number (bits a (lits_of input)) < 2 ^ width_of s
    small i s input at in1 =
        let long : length (bits a (lits_of input)) ≡ input.count = length-bits a (lits_of input) ∙ length-lits_from input.first input.count in
        let bound : number (bits a (lits_of input)) < 2 ^ input.count = subst (λ n. number (bits a (lits_of input)) < 2 ^ n) long (number-lt (bits a (lits_of input))) in
        let wide : 2 ^ input.count ≤ 2 ^ width_of s = pow_mono {i = input.count} {j = width_of s} (fit.1 i s input at in1) in
        omega arith

    exact : (i : ℕ) (s : Sort) (input : Input) → slice_get sorts i ≡ Some s → slice_get inputs i ≡ Some input → number_at (words_of a inputs) i ≡ number (bits a (lits_of input))
    exact i s input at in1 =
        let below : number (bits a (lits_of input)) < 2 ^ 32 = omega (arith, small i s input at in1, width-le s) in
        number_at-words a inputs i input in1 ∙ mod-eq_of_lt below

    bounded : (i : ℕ) (s : Sort) → slice_get sorts i ≡ Some s → number_at (words_of a inputs) i < bound_of s
    bounded i s at =
        let inside : i < length inputs = omega (arith, fit.0, slice_get_within sorts i s at) in
        let input = there inputs i inside in
        subst (λ n. number_at (words_of a inputs) i < n) (sym (width-bound s)) (subst (λ n. n < 2 ^ width_of s) (sym (exact i s input.0 at input.1)) (small i s input.0 at input.1))

    has : HasBits a inputs (words_of a inputs)
    has i input in1 pos =
        let inside : i < length sorts = omega (arith, fit.0, slice_get_within inputs i input in1) in
        let s = there sorts i inside in
        exact i s.0 input s.1 in1

-- no symbol of a circuit has more bits than its sort
pub fit-blasted : (t : Table) (test : ℕ → Bool) → IsTable t → (ns : List Node) (at : ℕ) (b : Blasted) → ((i : ℕ) (n : Node) → slice_get ns i ≡ Some n → slice_get t.nodes (at + i) ≡ Some n)
    → FitSorts t.sorts b.inputs → FitSorts t.sorts (blasted test at ns b).inputs
unfolding blasted
fit-blasted t test ok [] at b here f = f
fit-blasted t test ok (n ∷ ns) at b here f =
    fit-blasted t test ok ns (suc at) (if test at then with_node n b else without_node b)
    (λ i m e. subst (λ k. slice_get t.nodes k ≡ Some m) (let x : at + suc i ≡ suc at + i = omega arith in x) (here (suc i) m e))
    (choice (test at))
  where
    own : slice_get t.nodes at ≡ Some n
    own = subst (λ k. slice_get t.nodes k ≡ Some n) (let e : at + 0 ≡ at = omega arith in e) (here 0 n refl)

    noted : (m : Node) → n ≡ m → FitSorts t.sorts (inputs_of m b.circuit.variables b.inputs)
    noted (node.Symbol i q) same =
        let input : Input = record { first = b.circuit.variables; count = width_of q } in
        let whole : slice_get t.sorts i ≡ Some q = ok.whole at (node.Symbol i q) (own ∙ ap Some same) in
        let il : i < length b.inputs = omega (arith, f.0, slice_get_within t.sorts i q whole) in (
          length-set b.inputs i input ∙ f.0,
          λ j s x sj xj. elim (eqb_tells j i) as (λ _. x.count ≤ width_of s) [
            | inl e ↦
                let mine : input ≡ x = cc (sym (slice_get-set_same b.inputs i input il) ∙ ap (slice_get (set b.inputs i input)) (sym e.1) ∙ xj) in
                let sort : q ≡ s = cc (sym whole ∙ ap (slice_get t.sorts) (sym e.1) ∙ sj) in
                let c : x.count ≡ width_of s = ap (λ z. z.count) (sym mine) ∙ ap width_of sort in
                omega arith
            | inr e ↦ f.1 j s x sj (sym (slice_get-set_other b.inputs i j input e.1) ∙ xj)
          ],
        )
    noted (node.Constant w) same = f
    noted (node.Truth c) same = f
    noted (node.Unary op x) same = f
    noted (node.Binary op x y) same = f
    noted (node.Choose c x y) same = f

    choice : (c : Bool) → FitSorts t.sorts (if c then with_node n b else without_node b).inputs
    choice true = noted n refl
    choice false = f

blank : (n i : ℕ) (input : Input) → slice_get (replicate n no_input) i ≡ Some input → input.count ≡ 0
blank zero i input e = absurd (cc)
blank (suc n) zero input e = ap (λ x. x.count) (let s : input ≡ no_input = cc in s)
blank (suc n) (suc i) input e = blank n i input e

pub fit-circuit : (t : Table) → IsTable t → (truths falsehoods : List ℕ) → FitSorts t.sorts (circuit t truths falsehoods).inputs
unfolding circuit
fit-circuit t ok truths falsehoods =
    fit-blasted t (is_under t.nodes (truths ++ falsehoods)) ok t.nodes 0 (nothing_blasted (length t.sorts)) (λ i n e. subst (λ k. slice_get t.nodes k ≡ Some n) (let x : i ≡ 0 + i = omega arith in x) e)
    (length-replicate (length t.sorts) no_input, λ i s input at in1. omega (arith, blank (length t.sorts) i input in1))
