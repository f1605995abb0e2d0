-- Rows that are read one after another.
use Rattle.std.proofs.Common.{◌≡◌, ℕ, ◌+◌, ◌-◌, ◌<◌, ◌≤◌, List, [], ◌∷◌, ◌++◌, length, take, drop, Option, Some, None, refl, sym, subst, ap, ◌∙◌, arith, length-take, length-drop, length-append}
use Rattle.std.specs.Option.{option_and_then}
use Rattle.std.proofs.lemmas.List.{take-append-drop, take_at, drop_at, append_assoc}
use Rattle.sat_text.specs.declared.reader.Header.{Header}
use Rattle.sat_text.specs.declared.reader.Reader.{Reader}
use Rattle.sat_text.specs.declared.formula.Formula.{Formula}
use Rattle.sat_text.specs.Reading.{start, word_step, words_step, row_step, rows_step, formula_of, formula_in}
use Rattle.sat_text.specs.Faults.{IsFaultAt}

pub rows_step-append : (r : Reader) (a b : List (List (List ℕ))) → rows_step r (a ++ b) ≡ option_and_then (λ n. rows_step n b) (rows_step r a)
rows_step-append r [] b = refl
rows_step-append r (row ∷ a) b =
    elim (row_step r row) as (λ s. option_and_then (λ n. rows_step n (a ++ b)) s ≡ option_and_then (λ n. rows_step n b) (option_and_then (λ n. rows_step n a) s)) [
      | None ↦ refl
      | Some n ↦ rows_step-append n a b
    ]

pub words_step-append : (h : Header) (r : Reader) (a b : List (List ℕ)) → words_step h r (a ++ b) ≡ option_and_then (λ n. words_step h n b) (words_step h r a)
words_step-append h r [] b = refl
words_step-append h r (w ∷ a) b =
    elim (word_step h r w) as (λ s. option_and_then (λ n. words_step h n (a ++ b)) s ≡ option_and_then (λ n. words_step h n b) (option_and_then (λ n. words_step h n a) s)) [
      | None ↦ refl
      | Some n ↦ words_step-append h n a b
    ]

-- the rows up to number k, and the row of that number
pub record NextRow (rows : List (List (List ℕ))) (k : ℕ) (r : Reader) (row : List (List ℕ)) (more : List (List (List ℕ))) : Type 0 where
  pub len : length rows ≡ k + length more
  pub taken : rows_step start (take k rows) ≡ row_step r row
  pub behind : drop k rows ≡ more
  pub whole : rows_step start rows ≡ option_and_then (λ n. rows_step n more) (row_step r row)

one_row : (o : Option Reader) → option_and_then (λ n. Some n) o ≡ o
one_row None = refl
one_row (Some r) = refl

-- the same where the rows are split already
next_split : (a more : List (List (List ℕ))) (row : List (List ℕ)) (k : ℕ) (r : Reader) → length a + 1 ≡ k → rows_step start a ≡ Some r → NextRow (a ++ row ∷ more) k r row more
next_split a more row k r n e =
    let again : a ++ row ∷ more ≡ (a ++ row ∷ []) ++ more = sym (append_assoc a (row ∷ []) more) in
    let count : length (a ++ row ∷ []) ≡ k = omega (arith, length-append a (row ∷ []), n) in
    record {
      len = omega (arith, length-append a (row ∷ more), n);
      taken = ap (λ l. rows_step start (take k l)) again ∙ ap (rows_step start) (take_at (a ++ row ∷ []) more k count) ∙ rows_step-append start a (row ∷ []) ∙ ap (option_and_then (λ n. rows_step n (row ∷ []))) e ∙ one_row (row_step r row);
      behind = ap (drop k) again ∙ drop_at (a ++ row ∷ []) more k count;
      whole = rows_step-append start a (row ∷ more) ∙ ap (option_and_then (λ n. rows_step n (row ∷ more))) e;
    }

pub next_row : (rows : List (List (List ℕ))) (k : ℕ) (r : Reader) (row : List (List ℕ)) (more : List (List (List ℕ))) → 1 ≤ k → rows_step start (take (k - 1) rows) ≡ Some r → drop (k - 1) rows ≡ row ∷ more → NextRow rows k r row more
next_row rows k r row more one e d =
    let split : rows ≡ take (k - 1) rows ++ row ∷ more = sym (take-append-drop (k - 1) rows) ∙ ap (λ l. take (k - 1) rows ++ l) d in
    let some : 0 < length (drop (k - 1) rows) = omega (arith, ap length d) in
    let count : length (take (k - 1) rows) + 1 ≡ k = omega (arith, length-take (k - 1) rows, length-drop (k - 1) rows, some, one) in
    subst (λ l. NextRow l k r row more) (sym split) (next_split (take (k - 1) rows) more row k r count e)

-- a row is refused
pub refused : (rows : List (List (List ℕ))) (k : ℕ) (r : Reader) (row : List (List ℕ)) (more : List (List (List ℕ))) → 1 ≤ k → rows_step start (take (k - 1) rows) ≡ Some r → drop (k - 1) rows ≡ row ∷ more → row_step r row ≡ None → IsFaultAt rows k
refused rows k r row more one e d bad =
    let n = next_row rows k r row more one e d in
    record {
      first = one;
      within = omega (arith, n.len);
      reader = r;
      before = e;
      fault = λ _. n.taken ∙ bad;
      none = ap (option_and_then formula_of) (n.whole ∙ ap (option_and_then (λ m. rows_step m more)) bad);
    }

-- the last row is taken, and what was read is no formula
pub unended : (rows : List (List (List ℕ))) (k : ℕ) (r s : Reader) (row : List (List ℕ)) → 1 ≤ k → rows_step start (take (k - 1) rows) ≡ Some r → drop (k - 1) rows ≡ row ∷ [] → row_step r row ≡ Some s → formula_of s ≡ None → IsFaultAt rows k
unended rows k r s row one e d good none =
    let n = next_row rows k r row [] one e d in
    record {
      first = one;
      within = omega (arith, n.len);
      reader = r;
      before = e;
      fault = λ lt. absurd (omega (arith, n.len, lt));
      none = ap (option_and_then formula_of) (n.whole ∙ ap (option_and_then (λ m. rows_step m [])) good) ∙ none;
    }

-- the last row is taken, and what was read is a formula
pub ended : (rows : List (List (List ℕ))) (k : ℕ) (r s : Reader) (row : List (List ℕ)) (f : Formula) → 1 ≤ k → rows_step start (take (k - 1) rows) ≡ Some r → drop (k - 1) rows ≡ row ∷ [] → row_step r row ≡ Some s → formula_of s ≡ Some f → formula_in rows ≡ Some f
ended rows k r s row f one e d good is =
    let n = next_row rows k r row [] one e d in
    ap (option_and_then formula_of) (n.whole ∙ ap (option_and_then (λ m. rows_step m [])) good) ∙ is

-- one row more was taken
pub taken : (rows : List (List (List ℕ))) (k : ℕ) (r s : Reader) (row : List (List ℕ)) (more : List (List (List ℕ))) → 1 ≤ k → rows_step start (take (k - 1) rows) ≡ Some r → drop (k - 1) rows ≡ row ∷ more → row_step r row ≡ Some s → (rows_step start (take (k + 1 - 1) rows) ≡ Some s) × (drop (k + 1 - 1) rows ≡ more)
taken rows k r s row more one e d good =
    let n = next_row rows k r row more one e d in
    let same : k + 1 - 1 ≡ k = omega arith in
    (ap (λ i. rows_step start (take i rows)) same ∙ n.taken ∙ good, ap (λ i. drop i rows) same ∙ n.behind)
