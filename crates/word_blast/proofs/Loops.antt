-- The loops of groups, one row at a time.
use Rattle.std.proofs.Common.{◌≡◌, ℕ, suc, ◌+◌, ◌-◌, ◌*◌, ◌%◌, ◌^◌, ◌<◌, ◌≤◌, List, [], ◌∷◌, length, get_or, set, drop, slice_get, Some, refl, sym, ◌∙◌, ap, subst, arith, add-one}
use Rattle.std.proofs.lemmas.List.{drop_all, length-drop}
use Rattle.std.proofs.lemmas.Nat.{one_shl}
use Rattle.std.proofs.Math.Seq.{drop-cons}
use Rattle.sat_check.specs.declared.clause.Lit.{Lit}
use Rattle.sat_check.specs.Clauses.{opposite_of}
use Rattle.word_blast.specs.Bits.{greatest, top_changed}
use Rattle.word_blast.specs.Gates.{Circuit, Row}
use Rattle.word_blast.specs.Groups.{zero_lit, copies, pick_of, barrel, product_row, product_of, Divided, Quotient, divide_row, divide, subtrahend_of}

-- the greatest bit is the last
pub greatest-last : (d x : Lit) (xs : List Lit) → slice_get xs (length xs - 1) ≡ Some x → x ≡ greatest d xs
greatest-last d x [] h = absurd (cc)
greatest-last d x (y ∷ []) h = cc
greatest-last d x (y ∷ z ∷ zs) h =
    let e : length (y ∷ z ∷ zs) - 1 ≡ suc (length (z ∷ zs) - 1) = omega arith in
    greatest-last y x (z ∷ zs) (subst (λ k. slice_get (y ∷ z ∷ zs) k ≡ Some x) e h)

pub top_changed-last : (xs : List Lit) (d : Lit) → 0 < length xs → set xs (length xs - 1) (opposite_of (get_or xs (length xs - 1) d)) ≡ top_changed opposite_of xs
top_changed-last [] d h = absurd (omega arith)
top_changed-last (x ∷ []) d h = refl
top_changed-last (x ∷ y ∷ ys) d h =
    let e : length (x ∷ y ∷ ys) - 1 ≡ suc (length (y ∷ ys) - 1) = omega arith in
    ap (λ k. set (x ∷ y ∷ ys) k (opposite_of (get_or (x ∷ y ∷ ys) k d))) e ∙ ap (λ zs. x ∷ zs) (top_changed-last (y ∷ ys) d (omega arith))

pub top_changed-none : (xs : List Lit) → length xs ≤ 0 → xs ≡ top_changed opposite_of xs
top_changed-none [] h = refl
top_changed-none (x ∷ xs) h = absurd (omega arith)

-- one step of a barrel
pub barrel-step : (move : ℕ → List Lit → List Lit) (amount bits moved more : List Lit) (k next : Circuit) (i count : ℕ) (d : Lit) (row : Row) → i < length amount → i < 64
    → count ≡ (1 * 2 ^ i) % 2 ^ 64 → moved ≡ move count bits → more ≡ (pick_of (get_or amount i d) moved bits k).bits → next ≡ (pick_of (get_or amount i d) moved bits k).circuit
    → barrel move i (drop i amount) bits k ≡ row → barrel move (i + 1) (drop (i + 1) amount) more next ≡ row
unfolding barrel
barrel-step move amount bits moved more k next i count d row h small c m b n e =
    let count-is : count ≡ 2 ^ i = c ∙ one_shl i 64 small in
    let moved-is : moved ≡ move (2 ^ i) bits = m ∙ ap (λ j. move j bits) count-is in
    let first : Row = pick_of (get_or amount i d) (move (2 ^ i) bits) bits k in
    let same : pick_of (get_or amount i d) moved bits k ≡ first = ap (λ us. pick_of (get_or amount i d) us bits k) moved-is in
    ap (λ j. barrel move j (drop j amount) more next) (add-one i)
    ∙ ap (λ us. barrel move (suc i) (drop (suc i) amount) us next) (b ∙ ap (λ r. r.bits) same)
    ∙ ap (barrel move (suc i) (drop (suc i) amount) first.bits) (n ∙ ap (λ r. r.circuit) same)
    ∙ sym (ap (λ us. barrel move i us bits k) (drop-cons amount i d h)) ∙ e

pub barrel-end : (move : ℕ → List Lit → List Lit) (amount bits : List Lit) (k : Circuit) (i : ℕ) (row : Row) → length amount ≤ i
    → barrel move i (drop i amount) bits k ≡ row → (bits ≡ row.bits) × (k ≡ row.circuit)
unfolding barrel
barrel-end move amount bits k i row h e =
    let n : barrel move i (drop i amount) bits k ≡ record { bits = bits; circuit = k } = ap (λ us. barrel move i us bits k) (drop_all i amount h) in
    (ap (λ r. r.bits) (sym n ∙ e), ap (λ r. r.circuit) (sym n ∙ e))

-- one row of a product
pub product-start : (xs ys : List Lit) (k : Circuit) → product_of xs (drop (length ys) ys) k ≡ record { bits = []; circuit = k }
unfolding product_of
product-start xs ys k = ap (λ us. product_of xs us k) (drop_all (length ys) ys (omega arith))

pub product-step : (xs ys bits more : List Lit) (k mid next : Circuit) (i count : ℕ) (d : Lit) → i < length ys → count ≡ length ys - i
    → (bits ≡ (product_of xs (drop (suc i) ys) k).bits) → (mid ≡ (product_of xs (drop (suc i) ys) k).circuit)
    → more ≡ (product_row xs (get_or ys i d) count bits mid).bits → next ≡ (product_row xs (get_or ys i d) count bits mid).circuit
    → (more ≡ (product_of xs (drop i ys) k).bits) × (next ≡ (product_of xs (drop i ys) k).circuit)
unfolding product_of
product-step xs ys bits more k mid next i count d h c b m r n =
    let high : Row = product_of xs (drop (suc i) ys) k in
    let e : count ≡ suc (length (drop (suc i) ys)) = omega (arith, length-drop (suc i) ys) in
    let at : product_of xs (drop i ys) k ≡ product_row xs (get_or ys i d) (suc (length (drop (suc i) ys))) high.bits high.circuit = ap (λ us. product_of xs us k) (drop-cons ys i d h) in
    let row : product_row xs (get_or ys i d) count bits mid ≡ product_of xs (drop i ys) k =
    ap (λ j. product_row xs (get_or ys i d) j bits mid) e ∙ ap (λ us. product_row xs (get_or ys i d) (suc (length (drop (suc i) ys))) us mid) b
    ∙ ap (product_row xs (get_or ys i d) (suc (length (drop (suc i) ys))) high.bits) m ∙ sym at in
    (r ∙ ap (λ x. x.bits) row, n ∙ ap (λ x. x.circuit) row)

-- one row of a division
pub divide-start : (xs ys : List Lit) (k : Circuit) → divide (drop (length xs) xs) ys k ≡ record { quotient = []; remainder = copies ys zero_lit; circuit = k }
unfolding divide
divide-start xs ys k = ap (λ us. divide us ys k) (drop_all (length xs) xs (omega arith))

pub divide-step : (xs ys sub quotient remainder more after : List Lit) (bit : Lit) (k mid next : Circuit) (i : ℕ) (d : Lit) → i < length xs → sub ≡ subtrahend_of ys
    → (quotient ≡ (divide (drop (suc i) xs) ys k).quotient) × (remainder ≡ (divide (drop (suc i) xs) ys k).remainder) × (mid ≡ (divide (drop (suc i) xs) ys k).circuit)
    → bit ≡ (divide_row (get_or xs i d) remainder sub (length ys) mid).bit → after ≡ (divide_row (get_or xs i d) remainder sub (length ys) mid).remainder → next ≡ (divide_row (get_or xs i d) remainder sub (length ys) mid).circuit
    → more ≡ bit ∷ quotient
    → (more ≡ (divide (drop i xs) ys k).quotient) × (after ≡ (divide (drop i xs) ys k).remainder) × (next ≡ (divide (drop i xs) ys k).circuit)
unfolding divide
divide-step xs ys sub quotient remainder more after bit k mid next i d h s e b a n m =
    let high : Divided = divide (drop (suc i) xs) ys k in
    let row : Quotient = divide_row (get_or xs i d) high.remainder (subtrahend_of ys) (length ys) high.circuit in
    let at : divide (drop i xs) ys k ≡ record { quotient = row.bit ∷ high.quotient; remainder = row.remainder; circuit = row.circuit } = ap (λ us. divide us ys k) (drop-cons xs i d h) in
    let same : divide_row (get_or xs i d) remainder sub (length ys) mid ≡ row =
    ap (λ us. divide_row (get_or xs i d) us sub (length ys) mid) e.1 ∙ ap (λ us. divide_row (get_or xs i d) high.remainder us (length ys) mid) s
    ∙ ap (divide_row (get_or xs i d) high.remainder (subtrahend_of ys) (length ys)) e.2 in (
      m ∙ ap (λ x. x ∷ quotient) (b ∙ ap (λ q. q.bit) same) ∙ ap (λ us. row.bit ∷ us) e.0 ∙ ap (λ x. x.quotient) (sym at),
      a ∙ ap (λ q. q.remainder) same ∙ ap (λ x. x.remainder) (sym at),
      n ∙ ap (λ q. q.circuit) same ∙ ap (λ x. x.circuit) (sym at),
    )
