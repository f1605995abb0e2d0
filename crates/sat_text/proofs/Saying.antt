-- What the rows of a text say is what reading them gives.
use Rattle.std.proofs.Common.{◌≡◌, ℕ, zero, suc, ◌+◌, ◌-◌, ◌^◌, ◌<◌, ◌≤◌, true, false, ◌&&◌, cond, List, [], ◌∷◌, ◌++◌, length, map, take, replicate, Option, Some, None, Result, Ok, Err, IfOk, IfErr, refl, sym, subst, ap, ◌∙◌, arith, inl, inr, length-append, codes}
use Rattle.std.specs.Prelude.{◌⊎◌, nat_eq, nat_lt, option_map}
use Rattle.std.specs.Option.{option_and_then}
use Rattle.std.specs.List.{flat_map, AllByRecursion}
use Rattle.std.specs.Str.{bytes_eq}
use Rattle.std.specs.Fmt.{decimal}
use Rattle.std.proofs.lemmas.Bool.{eqb-true}
use Rattle.std.proofs.lemmas.Slice.Eq.{bytes_eq-Decides}
use Rattle.std.proofs.lemmas.List.{append-nil, append_assoc, length-replicate}
use Rattle.std.proofs.lemmas.List.Concat.{flat_map-append}
use Rattle.std.proofs.lemmas.List.Elements.{All-from_recursion, recursion_from_All}
use Rattle.sat_check.specs.declared.clause.Lit.{Lit}
use Rattle.sat_check.specs.declared.clause.Clause.{Clause}
use Rattle.sat_check.specs.Clauses.{AreBelow, ClausesAreBelow}
use Rattle.sat_text.specs.declared.formula.Formula.{Formula}
use Rattle.sat_text.specs.declared.limits.TheConstants.FormulaLimits as limits
use Rattle.sat_text.specs.declared.reader.Header.{Header}
use Rattle.sat_text.specs.declared.reader.Reader.{Reader}
use Rattle.sat_text.specs.declared.reading.TextFault.{TextFault}
use Rattle.sat_text.specs.declared.reading.TextFault.TheVariants.{BadLine, Memory}
use Rattle.sat_text.specs.Formulas.{lit_word, clause_words, header_words, Denotes, Begins, FirstFault}
use Rattle.sat_text.specs.Reading.{number_in, header_of, header_in, header_row, row_step_at, row_step, rows_step, token_in, token_step, word_step, words_step, start, is_nil, formula_at, formula_of, formula_in}
use Rattle.sat_text.specs.Faults.{IsFaultAt}
use Rattle.sat_text.proofs.Numbers.{number_decimal, number_word, chosen_some, both_true, and_true}
use Rattle.sat_text.proofs.Spelling.{Below, EachBelow, Spells, spells_words, clauses_step, map_some, then_some}
use Rattle.std.proofs.lemmas.Grind.{common_steps}
use Rattle.sat_text.specs.declared.numerals.Token.{Token}
use Rattle.sat_text.specs.declared.numerals.Token.TheVariants.{End, Literal}
use Rattle.sat_text.proofs.Rows.{rows_step-append, words_step-append}

abbrev pub Row : Type 0
Row = List (List ℕ)

abbrev pub row_words : List Row → Row
row_words rows = flat_map (λ row. row) rows

-- ---- the two ways to say that all variables are below a number
stronger : (v : ℕ) (cs : List Clause) → AllByRecursion (λ c. AreBelow v c.lits) cs → EachBelow v cs
stronger v [] a = tt
stronger v (c ∷ cs) a = (recursion_from_All (λ l. l.variable < v) c.lits a.0, stronger v cs a.1)

each_below : (v : ℕ) (cs : List Clause) → ClausesAreBelow v cs → EachBelow v cs
each_below v cs a = stronger v cs (recursion_from_All (λ c. AreBelow v c.lits) cs a)

weaker : (v : ℕ) (cs : List Clause) → EachBelow v cs → AllByRecursion (λ c. AreBelow v c.lits) cs
weaker v [] a = tt
weaker v (c ∷ cs) a = (All-from_recursion (λ l. l.variable < v) c.lits a.0, weaker v cs a.1)

all_below : (v : ℕ) (cs : List Clause) → EachBelow v cs → ClausesAreBelow v cs
all_below v cs a = All-from_recursion (λ c. AreBelow v c.lits) cs (weaker v cs a)

-- ---- the header
pub record Heads (h : Header) (row : Row) : Type 0 where
  pub is : row ≡ header_words h.variables h.clauses
  pub few_variables : h.variables ≤ limits.VARIABLES
  pub few_clauses : h.clauses ≤ limits.CLAUSES

heads_of : (o q : Option ℕ) (h : Header) → header_of o q ≡ Some h → (o ≡ Some h.variables) × (q ≡ Some h.clauses)
heads_of None q h e = let n : ⊥ = cc in absurd n
heads_of (Some a) None h e = let n : ⊥ = cc in absurd n
heads_of (Some a) (Some b) h e =
    let same : record { variables = a; clauses = b } ≡ h = cc in
    (ap (λ k. Some k.variables) same, ap (λ k. Some k.clauses) same)

heads : (row : Row) (h : Header) → header_in row ≡ Some h → Heads h row
heads [] h e = let n : ⊥ = cc in absurd n
heads (p ∷ []) h e = let n : ⊥ = cc in absurd n
heads (p ∷ cnf ∷ []) h e = let n : ⊥ = cc in absurd n
heads (p ∷ cnf ∷ a ∷ []) h e = let n : ⊥ = cc in absurd n
heads (p ∷ cnf ∷ a ∷ b ∷ []) h e =
    (elim (bytes_eq p (codes "p") && bytes_eq cnf (codes "cnf")) as (λ t. bytes_eq p (codes "p") && bytes_eq cnf (codes "cnf") ≡ t → cond t (header_of (number_in limits.VARIABLES a) (number_in limits.CLAUSES b)) None ≡ Some h → Heads h (p ∷ cnf ∷ a ∷ b ∷ [])) [
      | true ↦ λ t k.
          let two = both_true (bytes_eq p (codes "p")) (bytes_eq cnf (codes "cnf")) t in
          let first : p ≡ codes "p" = same_bytes p (codes "p") two.0 in
          let second : cnf ≡ codes "cnf" = same_bytes cnf (codes "cnf") two.1 in
          let x = heads_of (number_in limits.VARIABLES a) (number_in limits.CLAUSES b) h k in
          let v = number_word limits.VARIABLES h.variables a (omega arith) x.0 in
          let w = number_word limits.CLAUSES h.clauses b (omega arith) x.1 in
          record {
            is = ap (λ l. l ∷ cnf ∷ a ∷ b ∷ []) first ∙ ap (λ l. codes "p" ∷ l ∷ a ∷ b ∷ []) second ∙ ap (λ l. codes "p" ∷ codes "cnf" ∷ l ∷ b ∷ []) v.is ∙ ap (λ l. codes "p" ∷ codes "cnf" ∷ decimal h.variables ∷ l ∷ []) w.is;
            few_variables = v.within;
            few_clauses = w.within;
          }
      | false ↦ λ t k. let n : ⊥ = cc in absurd n
    ]) refl e
  where
    same_bytes : (x y : List ℕ) → bytes_eq x y ≡ true → x ≡ y
    same_bytes x y e = (bytes_eq-Decides x y).0 e
heads (p ∷ cnf ∷ a ∷ b ∷ c ∷ row) h e = let n : ⊥ = cc in absurd n

header_is : (v n : ℕ) → v ≤ limits.VARIABLES → n ≤ limits.CLAUSES → header_in (header_words v n) ≡ Some (record { variables = v; clauses = n })
header_is v n l m =
    ap (λ o. header_of o (number_in limits.CLAUSES (decimal n))) (number_decimal limits.VARIABLES v (omega arith) l) ∙ ap (λ o. header_of (Some v) o) (number_decimal limits.CLAUSES n (omega arith) m)

-- ---- a text's formula is what reading gives
token_kept : (r s : Reader) (t : Token) → token_step r t ≡ s → s.header ≡ r.header
token_kept r s End e = ap (λ n. n.header) (sym e)
token_kept r s (Literal lit) e = ap (λ n. n.header) (sym e)

word_kept : (h : Header) (r s : Reader) (word : List ℕ) → word_step h r word ≡ Some s → s.header ≡ r.header
word_kept h r s word e =
    (elim (nat_lt (length r.clauses) h.clauses) as (λ b. cond b (option_map (token_step r) (token_in h.variables word)) None ≡ Some s → s.header ≡ r.header) [
      | true ↦ λ k. let x = map_some (token_step r) (token_in h.variables word) s k in token_kept r s x.0 x.2
      | false ↦ λ k. let n : ⊥ = cc in absurd n
    ]) e

words_kept : (h : Header) (r s : Reader) (words : Row) → words_step h r words ≡ Some s → s.header ≡ r.header
words_kept h r s [] e = let same : r ≡ s = cc in ap (λ n. n.header) (sym same)
words_kept h r s (word ∷ words) e =
    let x = then_some (λ next. words_step h next words) (word_step h r word) s e in
    words_kept h x.0 s words x.2 ∙ word_kept h r x.0 word x.1

behind_header : (h : Header) (r : Reader) (rows : List Row) → r.header ≡ Some h → rows_step r rows ≡ words_step h r (row_words rows)
behind_header h r [] e = refl
behind_header h r (row ∷ rows) e =
    let one : row_step r row ≡ words_step h r row = ap (λ o. row_step_at o r row) e in
    let all : option_and_then (λ n. rows_step n rows) (words_step h r row) ≡ option_and_then (λ n. words_step h n (row_words rows)) (words_step h r row) =
    (elim (words_step h r row) as (λ o. words_step h r row ≡ o → option_and_then (λ n. rows_step n rows) o ≡ option_and_then (λ n. words_step h n (row_words rows)) o) [
      | None ↦ λ q. refl
      | Some n ↦ λ q. behind_header h n rows (words_kept h r n row q ∙ e)
    ]) refl in
    ap (option_and_then (λ n. rows_step n rows)) one ∙ all ∙ sym (words_step-append h r row (row_words rows))

blank_rows : (r : Reader) (rows : List Row) → r.header ≡ None → AllByRecursion (λ row. row ≡ []) rows → rows_step r rows ≡ Some r
blank_rows r [] e b = refl
blank_rows r (row ∷ rows) e b =
    let one : row_step r row ≡ Some r = ap (row_step r) b.0 ∙ ap (λ o. row_step_at o r []) e in
    ap (option_and_then (λ n. rows_step n rows)) one ∙ blank_rows r rows e b.1

header_rows : (rows : List Row) (v n : ℕ) → v ≤ limits.VARIABLES → n ≤ limits.CLAUSES → rows_step start (header_words v n ∷ rows) ≡ rows_step (record start { header = Some (record { variables = v; clauses = n }) }) rows
header_rows rows v n l m = ap (option_and_then (λ k. rows_step k rows)) (ap (option_map (λ h. record start { header = Some h })) (header_is v n l m))

formula_whole : (h : Header) (r : Reader) (cs : List Clause) → r.header ≡ Some h → r.clauses ≡ cs → r.lits ≡ [] → length cs ≡ h.clauses → formula_of r ≡ Some (record { variables = h.variables; clauses = cs })
formula_whole h r cs e c l n =
    let test : nat_eq (length r.clauses) h.clauses && is_nil r.lits ≡ true = and_true _ _ (same (length r.clauses) h.clauses (ap length c ∙ n)) (ap is_nil l) in
    ap (λ o. formula_at o r) e ∙ ap (λ b. cond b (Some (record { variables = h.variables; clauses = r.clauses })) None) test ∙ ap (λ x. Some (record { variables = h.variables; clauses = x })) c
  where
    same : (a b : ℕ) → a ≡ b → nat_eq a b ≡ true
    same a b e = grind (arith, common_steps)

pub complete : (rows : List Row) (f : Formula) → Denotes rows f → formula_in rows ≡ Some f
complete rows f d =
    let n : ℕ = length f.clauses in
    let h : Header = record { variables = f.variables; clauses = n } in
    let r : Reader = record start { header = Some h } in
    let few = d.few_variables in
    let m : h.variables < 2 ^ 64 = omega (arith, few) in
    let s : Reader = record r { clauses = f.clauses; lits = [] } in
    let words : words_step h r (flat_map clause_words f.clauses) ≡ Some s = clauses_step h r f.clauses m refl (omega arith) (each_below f.variables f.clauses d.below) in
    let all : rows_step start rows ≡ Some s =
    ap (rows_step start) d.split ∙ rows_step-append start d.before (header_words f.variables n ∷ d.rest) ∙ ap (option_and_then (λ k. rows_step k (header_words f.variables n ∷ d.rest))) (blank_rows start d.before refl d.blank)
    ∙ header_rows d.rest f.variables n d.few_variables d.few_clauses ∙ behind_header h r d.rest refl ∙ ap (words_step h r) d.clauses ∙ words in
    ap (option_and_then formula_of) all ∙ formula_whole h s f.clauses refl refl refl refl

-- ---- what reading gives is what the text says
pub record Fresh (rows : List Row) (r : Reader) : Type 0 where
  pub blank : AllByRecursion (λ row. row ≡ []) rows
  pub is : r ≡ start

pub record Behind (rows : List Row) (r : Reader) : Type 0 where
  pub header : Header
  pub before : List Row
  pub rest : List Row
  pub split : rows ≡ before ++ header_words header.variables header.clauses ∷ rest
  pub blank : AllByRecursion (λ row. row ≡ []) before
  pub few_variables : header.variables ≤ limits.VARIABLES
  pub few_clauses : header.clauses ≤ limits.CLAUSES
  pub spells : Spells header r (row_words rest)

abbrev pub Reached : List Row → Reader → Type 0
Reached rows r = Fresh rows r ⊎ Behind rows r

each_more : {A : Type 0} (P : A → Type 0) (xs : List A) (x : A) → AllByRecursion P xs → P x → AllByRecursion P (xs ++ x ∷ [])
each_more P [] x a p = (p, tt)
each_more P (y ∷ ys) x a p = (a.0, each_more P ys x a.1 p)

begun : (rows : List Row) (row : Row) (h : Header) (s : Reader) → AllByRecursion (λ row. row ≡ []) rows → Heads h row → record start { header = Some h } ≡ s → Behind (rows ++ row ∷ []) s
begun rows row h s b is e = subst (Behind (rows ++ row ∷ [])) e (record {
  header = h;
  before = rows;
  rest = [];
  split = ap (λ l. rows ++ l ∷ []) is.is;
  blank = b;
  few_variables = is.few_variables;
  few_clauses = is.few_clauses;
  spells = record { is = refl; below = tt; lits_below = tt; count = omega arith; goes_on = inl refl; header = refl };
})

fresh_row : (rows : List Row) (row : Row) (s : Reader) → AllByRecursion (λ row. row ≡ []) rows → header_row start row ≡ Some s → Reached (rows ++ row ∷ []) s
fresh_row rows [] s b e = let same : start ≡ s = cc in inl (record { blank = each_more (λ row. row ≡ []) rows [] b refl; is = sym same })
fresh_row rows (word ∷ words) s b e =
    let x = map_some (λ h. record start { header = Some h }) (header_in (word ∷ words)) s e in
    inr (begun rows (word ∷ words) x.0 s b (heads (word ∷ words) x.0 x.1) x.2)

row_words-more : (rows : List Row) (row : Row) → row_words (rows ++ row ∷ []) ≡ row_words rows ++ row
row_words-more rows row = flat_map-append (λ r. r) rows (row ∷ []) ∙ ap (λ l. row_words rows ++ l) (append-nil row)

behind_row : (rows : List Row) (row : Row) (r s : Reader) → Behind rows r → row_step r row ≡ Some s → Behind (rows ++ row ∷ []) s
behind_row rows row r s b e =
    let words : words_step b.header r row ≡ Some s = ap (λ o. row_step_at o r row) (sym b.spells.header) ∙ e in
    let few = b.few_variables in
    record {
      header = b.header;
      before = b.before;
      rest = b.rest ++ row ∷ [];
      split = ap (λ l. l ++ row ∷ []) b.split ∙ append_assoc b.before (header_words b.header.variables b.header.clauses ∷ b.rest) (row ∷ []);
      blank = b.blank;
      few_variables = b.few_variables;
      few_clauses = b.few_clauses;
      spells = subst (Spells b.header s) (sym (row_words-more b.rest row)) (spells_words b.header r s (row_words b.rest) row (omega (arith, few)) b.spells words);
    }

next_reached : (rows : List Row) (row : Row) (r s : Reader) → Reached rows r → row_step r row ≡ Some s → Reached (rows ++ row ∷ []) s
next_reached rows row r s (inl f) e = fresh_row rows row s f.blank (ap (λ n. row_step n row) (sym f.is) ∙ e)
next_reached rows row r s (inr b) e = inr (behind_row rows row r s b e)

reached_on : (rows more : List Row) (r s : Reader) → Reached rows r → rows_step r more ≡ Some s → Reached (rows ++ more) s
reached_on rows [] r s a e =
    let same : r ≡ s = cc in
    subst (λ l. Reached l s) (sym (append-nil rows)) (subst (Reached rows) same a)
reached_on rows (row ∷ more) r s a e =
    let x = then_some (λ next. rows_step next more) (row_step r row) s e in
    subst (λ l. Reached l s) (append_assoc rows (row ∷ []) more) (reached_on (rows ++ row ∷ []) more x.0 s (next_reached rows row r x.0 a x.1) x.2)

pub reached : (rows : List Row) (s : Reader) → rows_step start rows ≡ Some s → Reached rows s
reached rows s e = reached_on [] rows start s (inl (record { blank = tt; is = refl })) e

lits_nil : (lits : List Lit) → is_nil lits ≡ true → lits ≡ []
lits_nil [] e = refl
lits_nil (l ∷ lits) e = let n : ⊥ = cc in absurd n

-- the literals that are left, and a formula where there are none
says_behind : (rows : List Row) (r : Reader) (b : Behind rows r) (f : Formula) → formula_at (Some b.header) r ≡ Some f → Denotes rows f
says_behind rows r b f e =
    let x = chosen_some (nat_eq (length r.clauses) b.header.clauses && is_nil r.lits) (record { variables = b.header.variables; clauses = r.clauses }) f e in
    let t = both_true (nat_eq (length r.clauses) b.header.clauses) (is_nil r.lits) x.0 in
    let count = eqb-true (length r.clauses) b.header.clauses t.0 in
    let none = lits_nil r.lits t.1 in
    subst (Denotes rows) x.1 (record {
      before = b.before;
      rest = b.rest;
      split = b.split ∙ ap (λ n. b.before ++ header_words b.header.variables n ∷ b.rest) (sym count);
      blank = b.blank;
      clauses = b.spells.is ∙ ap (λ l. flat_map clause_words r.clauses ++ map lit_word l) none ∙ append-nil (flat_map clause_words r.clauses);
      below = all_below b.header.variables r.clauses b.spells.below;
      few_variables = b.few_variables;
      few_clauses = subst (λ n. n ≤ limits.CLAUSES) (sym count) b.few_clauses;
    })

says : (rows : List Row) (r : Reader) (f : Formula) → Reached rows r → formula_of r ≡ Some f → Denotes rows f
says rows r f (inl a) e = let n : None ≡ Some f = ap formula_of (sym a.is) ∙ e in let x : ⊥ = cc in absurd x
says rows r f (inr b) e = says_behind rows r b f (ap (λ o. formula_at o r) (sym b.spells.header) ∙ e)

pub sound : (rows : List Row) (f : Formula) → formula_in rows ≡ Some f → Denotes rows f
sound rows f e =
    let x = then_some formula_of (rows_step start rows) f e in
    says rows x.0 f (reached rows x.0 x.1) x.2

-- ---- what was taken begins a formula
empties : ℕ → List Clause
empties k = replicate k (record { lits = [] })

zeros : ℕ → Row
zeros k = replicate k (codes "0")

empty_words : (k : ℕ) → flat_map clause_words (empties k) ≡ zeros k
unfolding empties zeros
empty_words zero = refl
empty_words (suc k) = ap (λ l. codes "0" ∷ l) (empty_words k)

empty_below : (v : ℕ) (k : ℕ) → EachBelow v (empties k)
unfolding empties
empty_below v zero = tt
empty_below v (suc k) = (tt, empty_below v k)

empty_len : (k : ℕ) → length (empties k) ≡ k
unfolding empties
empty_len k = length-replicate k (record { lits = [] })

each_append : {A : Type 0} (P : A → Type 0) (xs ys : List A) → AllByRecursion P xs → AllByRecursion P ys → AllByRecursion P (xs ++ ys)
each_append P [] ys a b = b
each_append P (x ∷ xs) ys a b = (a.0, each_append P xs ys a.1 b)

-- with these words behind it, the text says these clauses
ends_with : (rows : List Row) (r : Reader) (b : Behind rows r) (row : Row) (cs : List Clause) → length cs ≡ b.header.clauses → EachBelow b.header.variables cs → row_words b.rest ++ row ≡ flat_map clause_words cs → Begins rows
ends_with rows r b row cs n below e = (
  row ∷ [],
  record { variables = b.header.variables; clauses = cs },
  record {
    before = b.before;
    rest = b.rest ++ row ∷ [];
    split = ap (λ l. l ++ row ∷ []) b.split ∙ append_assoc b.before (header_words b.header.variables b.header.clauses ∷ b.rest) (row ∷ []) ∙ ap (λ k. b.before ++ header_words b.header.variables k ∷ (b.rest ++ row ∷ [])) (sym n);
    blank = b.blank;
    clauses = row_words-more b.rest row ∙ e;
    below = all_below b.header.variables cs below;
    few_variables = b.few_variables;
    few_clauses = subst (λ k. k ≤ limits.CLAUSES) (sym n) b.few_clauses;
  },
)

ends_between : (rows : List Row) (r : Reader) (b : Behind rows r) → r.lits ≡ [] → Begins rows
ends_between rows r b none =
    let k : ℕ = b.header.clauses - length r.clauses in
    let le = b.spells.count in
    let is = b.spells.is ∙ ap (λ l. flat_map clause_words r.clauses ++ map lit_word l) none ∙ append-nil (flat_map clause_words r.clauses) in
    ends_with rows r b (zeros k) (r.clauses ++ empties k) (omega (arith, le, length-append r.clauses (empties k), empty_len k)) (each_append (λ c. Below b.header.variables c.lits) r.clauses (empties k) b.spells.below (empty_below b.header.variables k))
    (ap (λ l. l ++ zeros k) is ∙ ap (λ l. flat_map clause_words r.clauses ++ l) (sym (empty_words k)) ∙ sym (flat_map-append clause_words r.clauses (empties k)))

ends_within : (rows : List Row) (r : Reader) (b : Behind rows r) → length r.clauses < b.header.clauses → Begins rows
ends_within rows r b lt =
    let k : ℕ = b.header.clauses - (length r.clauses + 1) in
    let c : Clause = record { lits = r.lits } in
    let cs : List Clause = c ∷ empties k in
    let tail : flat_map clause_words cs ≡ map lit_word r.lits ++ (codes "0" ∷ zeros k) = append_assoc (map lit_word r.lits) (codes "0" ∷ []) (flat_map clause_words (empties k)) ∙ ap (λ l. map lit_word r.lits ++ (codes "0" ∷ l)) (empty_words k) in
    ends_with rows r b (codes "0" ∷ zeros k) (r.clauses ++ cs) (omega (arith, lt, length-append r.clauses cs, empty_len k)) (each_append (λ c. Below b.header.variables c.lits) r.clauses cs b.spells.below (b.spells.lits_below, empty_below b.header.variables k))
    (ap (λ l. l ++ (codes "0" ∷ zeros k)) b.spells.is ∙ append_assoc (flat_map clause_words r.clauses) (map lit_word r.lits) (codes "0" ∷ zeros k) ∙ ap (λ l. flat_map clause_words r.clauses ++ l) (sym tail) ∙ sym (flat_map-append clause_words r.clauses cs))

begins_fresh : (rows : List Row) → AllByRecursion (λ row. row ≡ []) rows → Begins rows
begins_fresh rows b = (
  header_words 0 0 ∷ [],
  record { variables = 0; clauses = [] },
  record {
    before = rows;
    rest = [];
    split = refl;
    blank = b;
    clauses = refl;
    below = all_below 0 [] tt;
    few_variables = omega arith;
    few_clauses = omega arith;
  },
)

begins_reached : (rows : List Row) (r : Reader) → Reached rows r → Begins rows
begins_reached rows r (inl f) = begins_fresh rows f.blank
begins_reached rows r (inr b) = elim b.spells.goes_on [ inl none ↦ ends_between rows r b none | inr lt ↦ ends_within rows r b lt ]

pub viable : (rows : List Row) (r : Reader) → rows_step start rows ≡ Some r → Begins rows
viable rows r e = begins_reached rows r (reached rows r e)

-- ---- faults
no_more : (rows : List Row) → rows_step start rows ≡ None → Begins rows → ⊥
no_more rows e b =
    let whole : formula_in (rows ++ b.0) ≡ Some b.1 = complete (rows ++ b.0) b.1 b.2 in
    let none : formula_in (rows ++ b.0) ≡ None = ap (option_and_then formula_of) (rows_step-append start rows b.0 ∙ ap (option_and_then (λ n. rows_step n b.0)) e) in
    cc

no_formula : (rows : List Row) (f : Formula) → formula_in rows ≡ None → Denotes rows f → ⊥
no_formula rows f e d = let whole = complete rows f d in cc

pub first_fault : (rows : List Row) (line : ℕ) → IsFaultAt rows line → FirstFault rows line
first_fault rows line a = record {
  within = a.within;
  first = a.first;
  before = viable (take (line - 1) rows) a.reader a.before;
  fault = λ lt b. no_more (take line rows) (a.fault lt) b;
  none = λ f d. no_formula rows f a.none d;
}

-- ---- the answers of a reader
pub says_found : (rows : List Row) (r : Result Formula TextFault) → IfOk r (λ f. formula_in rows ≡ Some f) → IfOk r (λ f. Denotes rows f)
says_found rows (Ok f) e = sound rows f e
says_found rows (Err x) e = tt

pub says_only : (rows : List Row) (f : Formula) (r : Result Formula TextFault) → Denotes rows f → IfOk r (λ g. formula_in rows ≡ Some g) → IfOk r (λ g. g ≡ f)
says_only rows f (Ok g) d e = let whole = complete rows f d in cc
says_only rows f (Err x) d e = tt

pub says_complete : (rows : List Row) (f : Formula) (r : Result Formula TextFault) → Denotes rows f → ((line : ℕ) → r ≡ Err (BadLine line) → IsFaultAt rows line) → IfErr r (λ e. e ≡ Memory)
says_complete rows f (Ok g) d e = tt
says_complete rows f (Err (BadLine line)) d e = absurd (no_formula rows f (e line refl).none d)
says_complete rows f (Err Memory) d e = refl

pub one_formula : (rows : List Row) (f g : Formula) → Denotes rows f → Denotes rows g → f ≡ g
one_formula rows f g d e = let a = complete rows f d in let b = complete rows g e in cc
