-- The rows of a table's terms, one after another.
use Rattle.std.proofs.Common.{◌≡◌, ◌≢◌, ℕ, zero, suc, ◌+◌, ◌*◌, ◌/◌, ◌%◌, ◌^◌, ◌<◌, ◌≤◌, Bool, true, false, ◌||◌, if◌then◌else◌, eqb, List, [], ◌∷◌, ◌++◌, map, length, set, slice_get, Some, refl, sym, ◌∙◌, ap, subst, arith, ◌⊎◌, inl, inr, length-append, true≢false}
use Rattle.std.proofs.lemmas.Option.{slice_get_within}
use Rattle.std.proofs.lemmas.List.{length-set}
use Rattle.std.proofs.lemmas.Bool.Decides.{eqb_tells}
use Rattle.std.proofs.Math.ListN.{get_or-append}
use Rattle.std.proofs.Math.Seq.{get_or-append_seam}
use Rattle.std.proofs.Math.Nat.{div-add-mod, mod-lt}
use Rattle.gc0_base.specs.declared.word.Word.{Word}
use Rattle.sat_check.specs.declared.clause.Lit.{Lit}
use Rattle.word_terms.specs.declared.node.Sort.{Sort}
use Rattle.word_terms.specs.declared.node.Sort.TheVariants.{Word32, Truth}
use Rattle.word_terms.specs.declared.node.Node.{Node}
use Rattle.word_terms.specs.declared.node.Node.TheVariants as node
use Rattle.word_terms.specs.Terms.{value, sort_of, bound_of, truth_word, unary_value, binary_value, chosen_value, IsValuation}
use Rattle.word_terms.specs.Tables.{Table, IsTable, IsWhole, term, terms_of, term_of, nth}
use Rattle.word_terms.specs.Weights.{has, parts, node_weight, weight_from}
use Rattle.word_terms.specs.Worth.{number_at}
use Rattle.word_terms.specs.Laws.{term-node}
use Rattle.word_blast.specs.declared.blasted.Input.{Input}
use Rattle.word_blast.specs.Bits.{number, bits_of}
use Rattle.word_blast.specs.Gates.{Circuit, Row, constant_lit, bit, bits, Holds}
use Rattle.word_blast.specs.Groups.{lits_from}
use Rattle.word_blast.specs.Circuits.{width_of, row_at, node_group, Blasted, with_node, without_node, blasted, no_input, inputs_of}
use Rattle.word_blast.specs.Valuations.{lits_of, HasBits, leaf_of, leaves_from}
use Rattle.word_blast.proofs.Building.{LitsBelow, LitsBelow-more, ClausesBelow-more, Formed, SameBelow, bits-same, all_true-same, Extension, Builds, Builds-none, with_at, with_at-same, with_at-here}
use Rattle.word_blast.proofs.Numbers.{pow-double}
use Rattle.word_blast.proofs.Grouped.{constant-worth}
use Rattle.word_blast.proofs.Works.{Works, unary_group-works, binary_group-works, choice-works}

-- what a list has after a write
pub slice_get-set_same : {X : Type 0} (xs : List X) (i : ℕ) (x : X) → i < length xs → slice_get (set xs i x) i ≡ Some x
slice_get-set_same [] i x h = absurd (omega arith)
slice_get-set_same (y ∷ xs) zero x h = refl
slice_get-set_same (y ∷ xs) (suc i) x h = slice_get-set_same xs i x (omega arith)

pub slice_get-set_other : {X : Type 0} (xs : List X) (i j : ℕ) (x : X) → j ≢ i → slice_get (set xs i x) j ≡ slice_get xs j
slice_get-set_other [] i j x h = refl
slice_get-set_other (y ∷ xs) zero zero x h = absurd (h refl)
slice_get-set_other (y ∷ xs) zero (suc j) x h = refl
slice_get-set_other (y ∷ xs) (suc i) zero x h = refl
slice_get-set_other (y ∷ xs) (suc i) (suc j) x h = slice_get-set_other xs i j x (λ e. h (ap suc e))

-- the bits of a number are its number
pub number-bits_of : (w n : ℕ) → n < 2 ^ w → number (bits_of w n) ≡ n
number-bits_of zero n h = omega arith
number-bits_of (suc w) n h =
    let split : 2 * (n / 2) + n % 2 ≡ n = div-add-mod n 2 in
    let half : n / 2 < 2 ^ w = omega (arith, split, pow-two w) in
    let low : truth_word (eqb (n % 2) 1) ≡ n % 2 = by (n % 2) (mod-lt n (let p : 0 < 2 = omega arith in p)) in
    omega (arith, number-bits_of w (n / 2) half, low, split)
  where
    pow-two : (w : ℕ) → 2 ^ suc w ≡ 2 * 2 ^ w
    pow-two w = pow-double w

    by : (m : ℕ) → m < 2 → truth_word (eqb m 1) ≡ m
    by zero h = refl
    by (suc zero) h = refl
    by (suc (suc m)) h = absurd (omega arith)

pub length-bits_of : (w n : ℕ) → length (bits_of w n) ≡ w
length-bits_of zero n = refl
length-bits_of (suc w) n = ap suc (length-bits_of w (n / 2))

-- an assignment with the bits from a variable on
pub with_bits : (ℕ → Bool) → ℕ → List Bool → ℕ → Bool
with_bits a v [] = a
with_bits a v (b ∷ bs) = with_at (with_bits a (suc v) bs) v b

pub with_bits-same : (a : ℕ → Bool) (v : ℕ) (bs : List Bool) → SameBelow v a (with_bits a v bs)
unfolding with_bits
with_bits-same a v [] u h = refl
with_bits-same a v (b ∷ bs) u h = with_at-same (with_bits a (suc v) bs) v b u h ∙ with_bits-same a (suc v) bs u (omega arith)

with_at-above : (a : ℕ → Bool) (v : ℕ) (b : Bool) (u n : ℕ) → v < u → bits (with_at a v b) (lits_from u n) ≡ bits a (lits_from u n)
unfolding bit
with_at-above a v b u zero h = refl
with_at-above a v b u (suc n) h =
    let other : with_at a v b u ≡ a u = elim (eqb_tells u v) as (λ _. with_at a v b u ≡ a u) [
      | inl e ↦ absurd (let w : u ≡ v = e.1 in omega arith)
      | inr e ↦ ap (λ t. if t then b else a u) e.0
    ] in
    ap (λ x. x ∷ bits (with_at a v b) (lits_from (suc u) n)) other ∙ ap (λ xs. a u ∷ xs) (with_at-above a v b (suc u) n (omega arith))

pub bits-with_bits : (a : ℕ → Bool) (v : ℕ) (bs : List Bool) → bits (with_bits a v bs) (lits_from v (length bs)) ≡ bs
unfolding with_bits bit
bits-with_bits a v [] = refl
bits-with_bits a v (b ∷ bs) =
    ap (λ x. x ∷ bits (with_at (with_bits a (suc v) bs) v b) (lits_from (suc v) (length bs))) (with_at-here (with_bits a (suc v) bs) v b)
    ∙ ap (λ xs. b ∷ xs) (with_at-above (with_bits a (suc v) bs) v b (suc v) (length bs) (omega arith) ∙ bits-with_bits a (suc v) bs)

pub length-lits_from : (v n : ℕ) → length (lits_from v n) ≡ n
length-lits_from v zero = refl
length-lits_from v (suc n) = ap suc (length-lits_from (suc v) n)

pub below-lits_from : (m v n : ℕ) → v + n ≤ m → LitsBelow m (lits_from v n)
below-lits_from m v zero h = tt
below-lits_from m v (suc n) h = (omega arith, below-lits_from m (suc v) n (omega arith))

-- constants
bits-constants : (k : Circuit) → Formed k → (a : ℕ → Bool) → Holds a k → (bs : List Bool) → bits a (map constant_lit bs) ≡ bs
bits-constants k f a h [] = refl
bits-constants k f a h (b ∷ bs) = ap (λ x. x ∷ bits a (map constant_lit bs)) (constant-worth k f a h b) ∙ ap (λ xs. b ∷ xs) (bits-constants k f a h bs)

below-constants : (v : ℕ) (bs : List Bool) → 0 < v → LitsBelow v (map constant_lit bs)
below-constants v [] h = tt
below-constants v (b ∷ bs) h = (h, below-constants v bs h)

length-constants : (bs : List Bool) → length (map constant_lit bs) ≡ length bs
length-constants [] = refl
length-constants (b ∷ bs) = ap suc (length-constants bs)

pub width-bound : (s : Sort) → bound_of s ≡ 2 ^ width_of s
width-bound Word32 = refl
width-bound Truth = refl

width-pos : (s : Sort) → 0 < width_of s
width-pos Word32 = omega arith
width-pos Truth = omega arith

width-le : (s : Sort) → width_of s ≤ 32
width-le Word32 = omega arith
width-le Truth = omega arith

-- an assignment that a circuit holds under, with the bits of words
pub record Model (b : Blasted) (words : List Word) : Type 0 where
  pub assignment : ℕ → Bool
  pub holds : Holds assignment b.circuit
  pub has : HasBits assignment b.inputs words

-- so many of a table's terms have their rows
pub record Stands (t : Table) (test : ℕ → Bool) (b : Blasted) (at : ℕ) : Type 0 where
  pub rows_long : length b.rows ≡ at
  pub inputs_long : length b.inputs ≡ length t.sorts
  pub formed : Formed b.circuit
  pub inside : (i : ℕ) → i < at → LitsBelow b.circuit.variables (row_at b.rows i)
  pub wide : (i : ℕ) → i < at → test i ≡ true → length (row_at b.rows i) ≡ width_of (sort_of (term t.nodes i))
  pub inputs_below : (i : ℕ) (input : Input) → slice_get b.inputs i ≡ Some input → LitsBelow b.circuit.variables (lits_of input)
  pub fresh : (j i : ℕ) (s : Sort) → at ≤ j → slice_get t.nodes j ≡ Some (node.Symbol i s) → slice_get b.inputs i ≡ Some no_input
  pub sound : (a : ℕ → Bool) (words : List Word) → Holds a b.circuit → HasBits a b.inputs words → (i : ℕ) → i < at → test i ≡ true → number (bits a (row_at b.rows i)) ≡ value words (term t.nodes i)
  pub complete : (words : List Word) → IsValuation t.sorts words → Model b words

-- a row that joins what stands
pub record Joins (t : Table) (b : Blasted) (at : ℕ) (n : Node) (r : Row) : Type 0 where
  pub cost : ℕ
  pub cheap : cost ≤ 4 * node_weight n + 32 * leaf_of n
  pub builds : Builds b.circuit r.circuit cost
  pub inside : LitsBelow r.circuit.variables r.bits
  pub long : length r.bits ≡ width_of (sort_of (term t.nodes at))
  pub worth : (a : ℕ → Bool) (words : List Word) → Holds a r.circuit → HasBits a b.inputs words → number (bits a r.bits) ≡ value words (term t.nodes at)

below-suc : (i at : ℕ) → i < suc at → (i < at) ⊎ (i ≡ at)
below-suc i at h = grind arith

module _ (rows : List (List Lit)) (row : List Lit) where
  row-before : (i at : ℕ) → length rows ≡ at → i < at → row_at (rows ++ row ∷ []) i ≡ row_at rows i
  row-before i at e h = get_or-append rows (row ∷ []) [] i (omega arith)

  row-here : (at : ℕ) → length rows ≡ at → row_at (rows ++ row ∷ []) at ≡ row
  row-here at e = subst (λ k. row_at (rows ++ row ∷ []) k ≡ row) e (get_or-append_seam rows row [] [])

module _ (t : Table) (test : ℕ → Bool) (b : Blasted) (at : ℕ) (s : Stands t test b at) where
  -- a term that isn't under the roots
  without-stands : test at ≡ false → Stands t test (without_node b) (suc at)
  without-stands e = record {
    rows_long = omega (arith, s.rows_long, length-append b.rows ([] ∷ []));
    inputs_long = s.inputs_long;
    formed = s.formed;
    inside = λ i h. elim (below-suc i at h) as (λ _. LitsBelow b.circuit.variables (row_at (b.rows ++ [] ∷ []) i)) [
      | inl l ↦ subst (LitsBelow b.circuit.variables) (sym (row-before b.rows [] i at s.rows_long l)) (s.inside i l)
      | inr l ↦ subst (LitsBelow b.circuit.variables) (sym (ap (row_at (b.rows ++ [] ∷ [])) l ∙ row-here b.rows [] at s.rows_long)) tt
    ];
    wide = λ i h p. elim (below-suc i at h) as (λ _. length (row_at (b.rows ++ [] ∷ []) i) ≡ width_of (sort_of (term t.nodes i))) [
      | inl l ↦ ap length (row-before b.rows [] i at s.rows_long l) ∙ s.wide i l p
      | inr l ↦ absurd (true≢false (sym p ∙ ap test l ∙ e))
    ];
    inputs_below = s.inputs_below;
    fresh = λ j i r h at2. s.fresh j i r (omega arith) at2;
    sound = λ a words held bitty i h p. elim (below-suc i at h) as (λ _. number (bits a (row_at (b.rows ++ [] ∷ []) i)) ≡ value words (term t.nodes i)) [
      | inl l ↦ ap (λ r. number (bits a r)) (row-before b.rows [] i at s.rows_long l) ∙ s.sound a words held bitty i l p
      | inr l ↦ absurd (true≢false (sym p ∙ ap test l ∙ e))
    ];
    complete = λ words v. let m : Model b words = s.complete words v in record { assignment = m.assignment; holds = m.holds; has = m.has };
  }

  -- a term whose symbols have their variables
  joins-stands : (n : Node) (r : Row) → Joins t b at n r → Stands t test (record { rows = b.rows ++ r.bits ∷ []; inputs = b.inputs; circuit = r.circuit }) (suc at)
  joins-stands n r j =
      let later : (ls : List Lit) → LitsBelow b.circuit.variables ls → LitsBelow r.circuit.variables ls =
      λ ls. LitsBelow-more b.circuit.variables r.circuit.variables (omega (arith, j.builds.count)) ls in
      record {
        rows_long = omega (arith, s.rows_long, length-append b.rows (r.bits ∷ []));
        inputs_long = s.inputs_long;
        formed = j.builds.formed s.formed;
        inside = λ i h. elim (below-suc i at h) as (λ _. LitsBelow r.circuit.variables (row_at (b.rows ++ r.bits ∷ []) i)) [
          | inl l ↦ subst (LitsBelow r.circuit.variables) (sym (row-before b.rows r.bits i at s.rows_long l)) (later (row_at b.rows i) (s.inside i l))
          | inr l ↦ subst (LitsBelow r.circuit.variables) (sym (ap (row_at (b.rows ++ r.bits ∷ [])) l ∙ row-here b.rows r.bits at s.rows_long)) j.inside
        ];
        wide = λ i h p. elim (below-suc i at h) as (λ _. length (row_at (b.rows ++ r.bits ∷ []) i) ≡ width_of (sort_of (term t.nodes i))) [
          | inl l ↦ ap length (row-before b.rows r.bits i at s.rows_long l) ∙ s.wide i l p
          | inr l ↦ ap length (ap (row_at (b.rows ++ r.bits ∷ [])) l ∙ row-here b.rows r.bits at s.rows_long) ∙ j.long ∙ ap (λ k. width_of (sort_of (term t.nodes k))) (sym l)
        ];
        inputs_below = λ i input e. later (lits_of input) (s.inputs_below i input e);
        fresh = λ k i q h at2. s.fresh k i q (omega arith) at2;
        sound = λ a words held bitty i h p. elim (below-suc i at h) as (λ _. number (bits a (row_at (b.rows ++ r.bits ∷ []) i)) ≡ value words (term t.nodes i)) [
          | inl l ↦ ap (λ q. number (bits a q)) (row-before b.rows r.bits i at s.rows_long l) ∙ s.sound a words (j.builds.keeps a held) bitty i l p
          | inr l ↦ ap (λ q. number (bits a q)) (ap (row_at (b.rows ++ r.bits ∷ [])) l ∙ row-here b.rows r.bits at s.rows_long) ∙ j.worth a words held bitty ∙ ap (λ k. value words (term t.nodes k)) (sym l)
        ];
        complete = λ words v.
            let m : Model b words = s.complete words v in
            let x : Extension b.circuit r.circuit m.assignment = j.builds.extends m.assignment s.formed m.holds in
            record {
              assignment = x.assignment;
              holds = x.holds;
              has = λ i input e p. m.has i input e p ∙ ap number (sym (bits-same b.circuit.variables m.assignment x.assignment x.agrees (lits_of input) (s.inputs_below i input e)));
            };
      }

  -- a symbol
  symbol-stands : IsTable t → (i : ℕ) (q : Sort) → slice_get t.nodes at ≡ Some (node.Symbol i q) → Stands t test (with_node (node.Symbol i q) b) (suc at)
  symbol-stands ok i q here =
      let v : ℕ = b.circuit.variables in
      let w : ℕ = width_of q in
      let own : Input = record { first = v; count = w } in
      let row : List Lit = lits_from v w in
      let whole : slice_get t.sorts i ≡ Some q = ok.whole at (node.Symbol i q) here in
      let il : i < length b.inputs = omega (arith, s.inputs_long, slice_get_within t.sorts i q whole) in
      let own-at : slice_get (set b.inputs i own) i ≡ Some own = slice_get-set_same b.inputs i own il in
      let other-at : (j : ℕ) → j ≢ i → slice_get (set b.inputs i own) j ≡ slice_get b.inputs j = λ j ne. slice_get-set_other b.inputs i j own ne in
      let later : (ls : List Lit) → LitsBelow v ls → LitsBelow (v + w) ls = λ ls. LitsBelow-more v (v + w) (omega arith) ls in
      let e-term : term t.nodes at ≡ term_of (terms_of t.nodes) (node.Symbol i q) = term-node t ok at (node.Symbol i q) here in
      record {
        rows_long = omega (arith, s.rows_long, length-append b.rows (row ∷ []));
        inputs_long = length-set b.inputs i own ∙ s.inputs_long;
        formed = record {
          below = ClausesBelow-more v (v + w) (omega arith) b.circuit.clauses s.formed.below;
          some = (let p : 0 < v = s.formed.some in omega arith);
          based = s.formed.based;
        };
        inside = λ k h. elim (below-suc k at h) as (λ _. LitsBelow (v + w) (row_at (b.rows ++ row ∷ []) k)) [
          | inl l ↦ subst (LitsBelow (v + w)) (sym (row-before b.rows row k at s.rows_long l)) (later (row_at b.rows k) (s.inside k l))
          | inr l ↦ subst (LitsBelow (v + w)) (sym (ap (row_at (b.rows ++ row ∷ [])) l ∙ row-here b.rows row at s.rows_long)) (below-lits_from (v + w) v w (omega arith))
        ];
        wide = λ k h p. elim (below-suc k at h) as (λ _. length (row_at (b.rows ++ row ∷ []) k) ≡ width_of (sort_of (term t.nodes k))) [
          | inl l ↦ ap length (row-before b.rows row k at s.rows_long l) ∙ s.wide k l p
          | inr l ↦ ap length (ap (row_at (b.rows ++ row ∷ [])) l ∙ row-here b.rows row at s.rows_long) ∙ length-lits_from v w ∙ sym (ap (λ x. width_of (sort_of x)) (ap (term t.nodes) l ∙ e-term))
        ];
        inputs_below = λ j input e. elim (eqb_tells j i) as (λ _. LitsBelow (v + w) (lits_of input)) [
          | inl x ↦
              let same : own ≡ input = cc (sym own-at ∙ ap (slice_get (set b.inputs i own)) (sym x.1) ∙ e) in
              subst (λ n. LitsBelow (v + w) (lits_of n)) same (below-lits_from (v + w) v w (omega arith))
          | inr x ↦ later (lits_of input) (s.inputs_below j input (sym (other-at j x.1) ∙ e))
        ];
        fresh = λ j m r h at2. elim (eqb_tells m i) as (λ _. slice_get (set b.inputs i own) m ≡ Some no_input) [
          | inl x ↦
              let theirs : slice_get t.sorts m ≡ Some r = ok.whole j (node.Symbol m r) at2 in
              let alike : r ≡ q = cc (sym theirs ∙ ap (slice_get t.sorts) x.1 ∙ whole) in
              let place : j ≡ at = ok.once j at (node.Symbol i q) (at2 ∙ ap (λ z. Some (node.Symbol z r)) x.1 ∙ ap (λ z. Some (node.Symbol i z)) alike) here in
              absurd (omega arith)
          | inr x ↦ other-at m x.1 ∙ s.fresh j m r (omega arith) at2
        ];
        sound = λ a words held bitty k h p.
            let before : HasBits a b.inputs words = λ j input e pos. elim (eqb_tells j i) as (λ _. number_at words j ≡ number (bits a (lits_of input))) [
              | inl x ↦
                  let none : no_input ≡ input = cc (sym (s.fresh at i q (omega arith) here) ∙ ap (slice_get b.inputs) (sym x.1) ∙ e) in
                  absurd (let z : input.count ≡ 0 = ap (λ n. n.count) (sym none) in omega arith)
              | inr x ↦ bitty j input (other-at j x.1 ∙ e) pos
            ] in
            elim (below-suc k at h) as (λ _. number (bits a (row_at (b.rows ++ row ∷ []) k)) ≡ value words (term t.nodes k)) [
              | inl l ↦ ap (λ z. number (bits a z)) (row-before b.rows row k at s.rows_long l) ∙ s.sound a words held before k l p
              | inr l ↦ ap (λ z. number (bits a z)) (ap (row_at (b.rows ++ row ∷ [])) l ∙ row-here b.rows row at s.rows_long) ∙ sym (bitty i own own-at (width-pos q)) ∙ ap (value words) (sym e-term ∙ ap (term t.nodes) (sym l))
            ];
        complete = λ words val.
            let m : Model b words = s.complete words val in
            let n : ℕ = number_at words i in
            let small : n < 2 ^ w = subst (λ k. n < k) (width-bound q) (val.1 i q whole) in
            let bs : List Bool = bits_of w n in
            let e : ℕ → Bool = with_bits m.assignment v bs in
            let agrees : SameBelow v m.assignment e = with_bits-same m.assignment v bs in
            let bl : length bs ≡ w = length-bits_of w n in
            record {
              assignment = e;
              holds = all_true-same v m.assignment e agrees b.circuit.clauses s.formed.below ∙ m.holds;
              has = λ j input at2 pos. elim (eqb_tells j i) as (λ _. number_at words j ≡ number (bits e (lits_of input))) [
                | inl x ↦
                    let same : own ≡ input = cc (sym own-at ∙ ap (slice_get (set b.inputs i own)) (sym x.1) ∙ at2) in
                    ap (number_at words) x.1 ∙ sym (number-bits_of w n small) ∙ ap number (sym (bits-with_bits m.assignment v bs) ∙ ap (λ k. bits e (lits_from v k)) bl) ∙ ap (λ z. number (bits e (lits_of z))) same
                | inr x ↦
                    let old : slice_get b.inputs j ≡ Some input = sym (other-at j x.1) ∙ at2 in
                    m.has j input old pos ∙ ap number (sym (bits-same v m.assignment e agrees (lits_of input) (s.inputs_below j input old)))
              ];
            };
      }

found : (t : ℕ) (ts : List ℕ) → has (t ∷ ts) t ≡ true
found t ts = elim (eqb_tells t t) as (λ _. has (t ∷ ts) t ≡ true) [
  | inl e ↦ ap (λ c. c || has ts t) e.0
  | inr e ↦ absurd (e.1 refl)
]

found-later : (u t : ℕ) (ts : List ℕ) → has ts t ≡ true → has (u ∷ ts) t ≡ true
found-later u t ts h = by (eqb t u)
  where
    by : (b : Bool) → (b || has ts t) ≡ true
    by true = refl
    by false = h

-- the row of a node whose parts are under the roots too
module _ (t : Table) (test : ℕ → Bool) (b : Blasted) (at : ℕ) (ok : IsTable t) (s : Stands t test b at) where
  part-inside : (i : ℕ) → i < at → LitsBelow b.circuit.variables (row_at b.rows i)
  part-inside = s.inside

  part-worth : (i : ℕ) → i < at → test i ≡ true → (a : ℕ → Bool) (words : List Word) → Holds a b.circuit → HasBits a b.inputs words → number (bits a (row_at b.rows i)) ≡ value words (nth (terms_of t.nodes) i)
  part-worth i h p a words held bitty = s.sound a words held bitty i h p

  joins-from : (n : Node) (r : Row) (most : ℕ) (f : (ℕ → Bool) → ℕ) → slice_get t.nodes at ≡ Some n → most ≤ 4 * node_weight n + 32 * leaf_of n
      → Works b.circuit r most (width_of (sort_of (term_of (terms_of t.nodes) n))) f
      → ((a : ℕ → Bool) (words : List Word) → Holds a b.circuit → HasBits a b.inputs words → f a ≡ value words (term_of (terms_of t.nodes) n))
      → Joins t b at n r
  joins-from n r most f here c w e =
      let is : term t.nodes at ≡ term_of (terms_of t.nodes) n = term-node t ok at n here in
      record {
        cost = w.cost;
        cheap = omega (arith, w.cheap);
        builds = w.builds;
        inside = w.inside;
        long = w.long ∙ ap (λ x. width_of (sort_of x)) (sym is);
        worth = λ a words held bitty. w.worth a held ∙ e a words (w.builds.keeps a held) bitty ∙ ap (value words) (sym is);
      }

  constant-works : (bs : List Bool) (most : ℕ) → Works b.circuit (record { bits = map constant_lit bs; circuit = b.circuit }) most (length bs) (λ a. number bs)
  constant-works bs most = record {
    cost = 0;
    cheap = omega arith;
    builds = Builds-none b.circuit;
    inside = below-constants b.circuit.variables bs s.formed.some;
    long = length-constants bs;
    worth = λ a held. ap number (bits-constants b.circuit s.formed a held bs);
  }

  -- a node that is no symbol
  pub node-joins : (n : Node) → slice_get t.nodes at ≡ Some n → ((i : ℕ) → has (parts n) i ≡ true → test i ≡ true) → ((i : ℕ) (q : Sort) → n ≡ node.Symbol i q → ⊥) → Joins t b at n (node_group b.rows n b.circuit)
  node-joins (node.Symbol i q) here under unlike = absurd (unlike i q refl)
  node-joins (node.Constant w) here under unlike =
      let small : w.0 < 2 ^ 32 = ok.whole at (node.Constant w) here in
      joins-from (node.Constant w) (record { bits = map constant_lit (bits_of 32 w.0); circuit = b.circuit }) 32 (λ a. number (bits_of 32 w.0)) here (omega arith)
      (subst (λ n. Works b.circuit (record { bits = map constant_lit (bits_of 32 w.0); circuit = b.circuit }) 32 n (λ a. number (bits_of 32 w.0))) (length-bits_of 32 w.0) (constant-works (bits_of 32 w.0) 32))
      (λ a words held bitty. number-bits_of 32 w.0 small)
  node-joins (node.Truth c) here under unlike =
      joins-from (node.Truth c) (record { bits = constant_lit c ∷ []; circuit = b.circuit }) 0 (λ a. number (c ∷ [])) here (omega arith) (constant-works (c ∷ []) 0)
      (λ a words held bitty. let e : truth_word c + 2 * 0 ≡ truth_word c = omega arith in e)
  node-joins (node.Unary op x) here under unlike =
      let h : IsWhole t.sorts (terms_of t.nodes) at (node.Unary op x) = ok.whole at (node.Unary op x) here in
      let p : test x.0 ≡ true = under x.0 (found x.0 []) in
      let xs : List Lit = row_at b.rows x.0 in
      joins-from (node.Unary op x) (node_group b.rows (node.Unary op x) b.circuit) _ (λ a. unary_value op (number (bits a xs))) here (omega arith)
      (unary_group-works op xs b.circuit s.formed (s.inside x.0 h.0) (s.wide x.0 h.0 p ∙ ap width_of h.1))
      (λ a words held bitty. ap (unary_value op) (part-worth x.0 h.0 p a words held bitty))
  node-joins (node.Binary op x y) here under unlike =
      let h : IsWhole t.sorts (terms_of t.nodes) at (node.Binary op x y) = ok.whole at (node.Binary op x y) here in
      let p : test x.0 ≡ true = under x.0 (found x.0 (y.0 ∷ [])) in
      let q : test y.0 ≡ true = under y.0 (found-later x.0 y.0 (y.0 ∷ []) (found y.0 [])) in
      let xs : List Lit = row_at b.rows x.0 in
      let ys : List Lit = row_at b.rows y.0 in
      joins-from (node.Binary op x y) (node_group b.rows (node.Binary op x y) b.circuit) _ (λ a. binary_value op (number (bits a xs)) (number (bits a ys))) here (omega arith)
      (binary_group-works op (sort_of (nth (terms_of t.nodes) x.0)) (sort_of (nth (terms_of t.nodes) y.0)) xs ys b.circuit h.2 s.formed (s.inside x.0 h.0) (s.inside y.0 h.1) (s.wide x.0 h.0 p) (s.wide y.0 h.1 q))
      (λ a words held bitty. ap (λ m. binary_value op m (number (bits a ys))) (part-worth x.0 h.0 p a words held bitty) ∙ ap (binary_value op (value words (nth (terms_of t.nodes) x.0))) (part-worth y.0 h.1 q a words held bitty))
  node-joins (node.Choose c x y) here under unlike =
      let h : IsWhole t.sorts (terms_of t.nodes) at (node.Choose c x y) = ok.whole at (node.Choose c x y) here in
      let o : test c.0 ≡ true = under c.0 (found c.0 (x.0 ∷ y.0 ∷ [])) in
      let p : test x.0 ≡ true = under x.0 (found-later c.0 x.0 (x.0 ∷ y.0 ∷ []) (found x.0 (y.0 ∷ []))) in
      let q : test y.0 ≡ true = under y.0 (found-later c.0 y.0 (x.0 ∷ y.0 ∷ []) (found-later x.0 y.0 (y.0 ∷ []) (found y.0 []))) in
      let cs : List Lit = row_at b.rows c.0 in
      let xs : List Lit = row_at b.rows x.0 in
      let ys : List Lit = row_at b.rows y.0 in
      let same : sort_of (nth (terms_of t.nodes) x.0) ≡ sort_of (nth (terms_of t.nodes) y.0) = h.3.1 in
      joins-from (node.Choose c x y) (node_group b.rows (node.Choose c x y) b.circuit) 384 (λ a. chosen_value (number (bits a cs)) (number (bits a xs)) (number (bits a ys))) here (omega arith)
      (choice-works (sort_of (nth (terms_of t.nodes) x.0)) xs ys b.circuit s.formed (s.inside x.0 h.1) (s.inside y.0 h.2) (s.wide x.0 h.1 p) (s.wide y.0 h.2 q ∙ ap width_of (sym same))
      cs (s.inside c.0 h.0) (s.wide c.0 h.0 o ∙ ap width_of h.3.0))
      (λ a words held bitty.
      ap (λ m. chosen_value m (number (bits a xs)) (number (bits a ys))) (part-worth c.0 h.0 o a words held bitty)
      ∙ ap (λ m. chosen_value (value words (nth (terms_of t.nodes) c.0)) m (number (bits a ys))) (part-worth x.0 h.1 p a words held bitty)
      ∙ ap (chosen_value (value words (nth (terms_of t.nodes) c.0)) (value words (nth (terms_of t.nodes) x.0))) (part-worth y.0 h.2 q a words held bitty))

-- what the rows of the rest of the nodes need
pub record Ends (t : Table) (test : ℕ → Bool) (b end : Blasted) (at : ℕ) (ns : List Node) : Type 0 where
  pub stands : Stands t test end (at + length ns)
  pub count : end.circuit.variables ≤ b.circuit.variables + 4 * weight_from test at ns + 32 * leaves_from test at ns

-- one node, with the rest of the nodes behind it
module _ (t : Table) (test : ℕ → Bool) (ok : IsTable t)
    (closed : (i : ℕ) (n : Node) → slice_get t.nodes i ≡ Some n → test i ≡ true → (p : ℕ) → has (parts n) p ≡ true → test p ≡ true)
    (n : Node) (ns : List Node) (at : ℕ) (b : Blasted) (own : slice_get t.nodes at ≡ Some n) (s : Stands t test b at)
    (behind : (next : Blasted) → Stands t test next (suc at) → Ends t test next (blasted test (suc at) ns next) (suc at) ns) where
  goal : (c : Bool) → test at ≡ c → (next : Blasted) → Stands t test next (suc at) → next.circuit.variables ≤ b.circuit.variables + 4 * (if c then node_weight n else 0) + 32 * (if c then leaf_of n else 0)
      → blasted test (suc at) ns (if c then with_node n b else without_node b) ≡ blasted test (suc at) ns next → Ends t test b (blasted test at (n ∷ ns) b) at (n ∷ ns)
  unfolding blasted
  goal c e next st count same =
      let ih : Ends t test next (blasted test (suc at) ns next) (suc at) ns = behind next st in
      let whole : blasted test (suc at) ns (if test at then with_node n b else without_node b) ≡ blasted test (suc at) ns next =
      ap (λ x. blasted test (suc at) ns (if x then with_node n b else without_node b)) e ∙ same in
      record {
        stands = subst (λ x. Stands t test x (at + length (n ∷ ns))) (sym whole) (subst (Stands t test (blasted test (suc at) ns next)) (let x : suc at + length ns ≡ at + length (n ∷ ns) = omega arith in x) ih.stands);
        count =
            let total : (blasted test (suc at) ns next).circuit.variables ≤ b.circuit.variables + 4 * ((if c then node_weight n else 0) + weight_from test (suc at) ns) + 32 * ((if c then leaf_of n else 0) + leaves_from test (suc at) ns) =
            omega (arith, ih.count, count) in
            subst (λ x. x.circuit.variables ≤ b.circuit.variables + 4 * ((if test at then node_weight n else 0) + weight_from test (suc at) ns) + 32 * ((if test at then leaf_of n else 0) + leaves_from test (suc at) ns)) (sym whole)
            (subst (λ x. (blasted test (suc at) ns next).circuit.variables ≤ b.circuit.variables + 4 * ((if x then node_weight n else 0) + weight_from test (suc at) ns) + 32 * ((if x then leaf_of n else 0) + leaves_from test (suc at) ns)) (sym e) total);
      }

  joined : (m : Node) → n ≡ m → test at ≡ true → ((i : ℕ) (q : Sort) → m ≡ node.Symbol i q → ⊥) → inputs_of m b.circuit.variables b.inputs ≡ b.inputs
      → Ends t test b (blasted test at (n ∷ ns) b) at (n ∷ ns)
  joined m same e unlike kept =
      let mine : slice_get t.nodes at ≡ Some m = own ∙ ap Some same in
      let r : Row = node_group b.rows m b.circuit in
      let j : Joins t b at m r = node-joins t test b at ok s m mine (closed at m mine e) unlike in
      let next : Blasted = record { rows = b.rows ++ r.bits ∷ []; inputs = b.inputs; circuit = r.circuit } in
      goal true e next (joins-stands t test b at s m r j)
      (subst (λ x. r.circuit.variables ≤ b.circuit.variables + 4 * node_weight x + 32 * leaf_of x) (sym same) (omega (arith, j.builds.count, j.cheap)))
      (ap (λ x. blasted test (suc at) ns (with_node x b)) same ∙ ap (λ ins. blasted test (suc at) ns (record { rows = b.rows ++ r.bits ∷ []; inputs = ins; circuit = r.circuit })) kept)

  kind : (m : Node) → n ≡ m → test at ≡ true → Ends t test b (blasted test at (n ∷ ns) b) at (n ∷ ns)
  kind (node.Symbol i q) same e =
      goal true e (with_node (node.Symbol i q) b) (symbol-stands t test b at s ok i q (own ∙ ap Some same))
      (subst (λ m. (with_node (node.Symbol i q) b).circuit.variables ≤ b.circuit.variables + 4 * node_weight m + 32 * leaf_of m) (sym same) (omega (arith, width-le q)))
      (ap (λ m. blasted test (suc at) ns (with_node m b)) same)
  kind (node.Constant w) same e = joined (node.Constant w) same e (λ i q x. absurd (cc)) refl
  kind (node.Truth c) same e = joined (node.Truth c) same e (λ i q x. absurd (cc)) refl
  kind (node.Unary op x) same e = joined (node.Unary op x) same e (λ i q x. absurd (cc)) refl
  kind (node.Binary op x y) same e = joined (node.Binary op x y) same e (λ i q x. absurd (cc)) refl
  kind (node.Choose c x y) same e = joined (node.Choose c x y) same e (λ i q x. absurd (cc)) refl

  one-ends : (c : Bool) → test at ≡ c → Ends t test b (blasted test at (n ∷ ns) b) at (n ∷ ns)
  one-ends true e = kind n refl e
  one-ends false e = goal false e (without_node b) (without-stands t test b at s e) (omega arith) refl

pub blasted-ends : (t : Table) (test : ℕ → Bool) → IsTable t → ((i : ℕ) (n : Node) → slice_get t.nodes i ≡ Some n → test i ≡ true → (p : ℕ) → has (parts n) p ≡ true → test p ≡ true)
    → (ns : List Node) (at : ℕ) (b : Blasted) → ((i : ℕ) (n : Node) → slice_get ns i ≡ Some n → slice_get t.nodes (at + i) ≡ Some n) → Stands t test b at → Ends t test b (blasted test at ns b) at ns
unfolding blasted
blasted-ends t test ok closed [] at b here s = record {
  stands = subst (Stands t test b) (let e : at ≡ at + 0 = omega arith in e) s;
  count = omega arith;
}
blasted-ends t test ok closed (n ∷ ns) at b here s =
    one-ends t test ok closed n ns at b (subst (λ k. slice_get t.nodes k ≡ Some n) (let e : at + 0 ≡ at = omega arith in e) (here 0 n refl)) s
    (λ next st. blasted-ends t test ok closed ns (suc at) next
    (λ i m e. subst (λ k. slice_get t.nodes k ≡ Some m) (let x : at + suc i ≡ suc at + i = omega arith in x) (here (suc i) m e)) st)
    (test at) refl
