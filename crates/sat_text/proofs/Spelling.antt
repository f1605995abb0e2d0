-- What the words of a formula do to the reader, and what words it takes.
use Rattle.std.proofs.Common.{◌≡◌, ℕ, ◌+◌, ◌-◌, ◌^◌, ◌<◌, ◌≤◌, true, false, cond, List, [], ◌∷◌, ◌++◌, length, map, get_or, Option, Some, None, refl, sym, subst, ap, ◌∙◌, arith, inl, inr, length-append, codes}
use Rattle.std.specs.Prelude.{◌⊎◌, nat_lt, nat_eq, option_map}
use Rattle.std.specs.Option.{option_and_then}
use Rattle.std.specs.List.{flat_map, AllByRecursion}
use Rattle.std.specs.Fmt.{decimal}
use Rattle.std.proofs.lemmas.Bool.{ltb-true, lt-ltb, eqb-true}
use Rattle.std.proofs.lemmas.Fmt.{first_decimal, decimal_digit}
use Rattle.std.proofs.lemmas.List.{append-nil, append_assoc, map-append}
use Rattle.std.proofs.lemmas.List.Concat.{flat_map-append}
use Rattle.std.proofs.lemmas.Grind.{common_steps}
use Rattle.sat_check.specs.declared.clause.Lit.{Lit}
use Rattle.sat_check.specs.declared.clause.Clause.{Clause}
use Rattle.sat_text.specs.declared.numerals.Token.{Token}
use Rattle.sat_text.specs.declared.numerals.Token.TheVariants.{End, Literal}
use Rattle.sat_text.specs.declared.reader.Header.{Header}
use Rattle.sat_text.specs.declared.reader.Reader.{Reader}
use Rattle.sat_text.specs.Formulas.{lit_word, clause_words}
use Rattle.sat_text.specs.Reading.{number_in, plain_token, negated_token, token_in, token_step, word_step, words_step}
use Rattle.sat_text.proofs.Numbers.{number_decimal, number_word, Writes}
use Rattle.sat_text.proofs.Rows.{words_step-append}

abbrev pub token_word : Token → List ℕ
token_word End = codes "0"
token_word (Literal lit) = lit_word lit

abbrev pub IsBelow : ℕ → Token → Type 0
IsBelow v End = Unit {0}
IsBelow v (Literal lit) = lit.variable < v

-- all variables of the literals, and of the clauses
abbrev pub Below : ℕ → List Lit → Type 0
Below v lits = AllByRecursion (λ lit. lit.variable < v) lits

abbrev pub EachBelow : ℕ → List Clause → Type 0
EachBelow v clauses = AllByRecursion (λ clause. Below v clause.lits) clauses

-- ---- tokens
plain_more : (x : ℕ) → plain_token (x + 1) ≡ Literal (record { variable = x; positive = true })
plain_more x =
    (elim (nat_eq (x + 1) 0) as (λ b. nat_eq (x + 1) 0 ≡ b → cond b End (Literal (record { variable = x + 1 - 1; positive = true })) ≡ Literal (record { variable = x; positive = true })) [
      | true ↦ λ e. absurd (omega (arith, eqb-true (x + 1) 0 e))
      | false ↦ λ e. let n : x + 1 - 1 ≡ x = omega arith in ap (λ k. Literal (record { variable = k; positive = true })) n
    ]) refl

negated_more : (x : ℕ) → negated_token (x + 1) ≡ Some (Literal (record { variable = x; positive = false }))
negated_more x =
    (elim (nat_eq (x + 1) 0) as (λ b. nat_eq (x + 1) 0 ≡ b → cond b None (Some (Literal (record { variable = x + 1 - 1; positive = false }))) ≡ Some (Literal (record { variable = x; positive = false }))) [
      | true ↦ λ e. absurd (omega (arith, eqb-true (x + 1) 0 e))
      | false ↦ λ e. let n : x + 1 - 1 ≡ x = omega arith in ap (λ k. Some (Literal (record { variable = k; positive = false }))) n
    ]) refl

-- a word that begins with a digit
token_plain : (v : ℕ) (ds : List ℕ) → 48 ≤ get_or ds 0 0 → token_in v ds ≡ option_map plain_token (number_in v ds)
token_plain v [] l = absurd (omega (arith, l))
token_plain v (d ∷ ds) l =
    (elim (nat_eq d 45) as (λ b. nat_eq d 45 ≡ b → cond b (option_and_then negated_token (number_in v ds)) (option_map plain_token (number_in v (d ∷ ds))) ≡ option_map plain_token (number_in v (d ∷ ds))) [
      | true ↦ λ e. absurd (omega (arith, eqb-true d 45 e, l))
      | false ↦ λ e. refl
    ]) refl

pub token_end : (v : ℕ) → v < 2 ^ 64 → token_in v (codes "0") ≡ Some End
token_end v m =
    let z : decimal 0 ≡ codes "0" = decimal_digit 0 (omega arith) in
    token_plain v (codes "0") (omega arith) ∙ ap (λ w. option_map plain_token (number_in v w)) (sym z) ∙ ap (option_map plain_token) (number_decimal v 0 m (omega arith))

positive_lit : (v x : ℕ) → v < 2 ^ 64 → x < v → token_in v (decimal (x + 1)) ≡ Some (Literal (record { variable = x; positive = true }))
positive_lit v x m l =
    let f : 48 < get_or (decimal (x + 1)) 0 0 = first_decimal (x + 1) (omega arith) (omega (arith, m, l)) in
    token_plain v (decimal (x + 1)) (omega (arith, f)) ∙ ap (option_map plain_token) (number_decimal v (x + 1) m (omega (arith, l))) ∙ ap Some (plain_more x)

negative_lit : (v x : ℕ) → v < 2 ^ 64 → x < v → token_in v (45 ∷ decimal (x + 1)) ≡ Some (Literal (record { variable = x; positive = false }))
negative_lit v x m l = ap (option_and_then negated_token) (number_decimal v (x + 1) m (omega (arith, l))) ∙ negated_more x

pub token_lit : (v : ℕ) (lit : Lit) → v < 2 ^ 64 → lit.variable < v → token_in v (lit_word lit) ≡ Some (Literal lit)
token_lit v lit m l =
    elim lit.positive as (λ p. token_in v (cond p (decimal (lit.variable + 1)) (45 ∷ decimal (lit.variable + 1))) ≡ Some (Literal (record { variable = lit.variable; positive = p }))) [
      | true ↦ positive_lit v lit.variable m l
      | false ↦ negative_lit v lit.variable m l
    ]

-- a token's word
pub record Says (v : ℕ) (word : List ℕ) (t : Token) : Type 0 where
  pub is : word ≡ token_word t
  pub below : IsBelow v t

says_plain : (v n : ℕ) (word : List ℕ) (t : Token) → Writes v word n → plain_token n ≡ t → Says v word t
says_plain v n word t w e =
    subst (Says v word) e ((elim (nat_eq n 0) as (λ b. nat_eq n 0 ≡ b → Says v word (cond b End (Literal (record { variable = n - 1; positive = true })))) [
      | true ↦ λ z. record { is = w.is ∙ ap decimal (eqb-true n 0 z) ∙ decimal_digit 0 (omega arith); below = tt }
      | false ↦ λ z.
          let some : 0 < n = nonzero n z in
          let k : n ≡ n - 1 + 1 = omega (arith, some) in
          record { is = w.is ∙ ap decimal k; below = omega (arith, some, w.within) }
    ]) refl)
  where
    nonzero : (n : ℕ) → nat_eq n 0 ≡ false → 0 < n
    nonzero n z = grind (arith, common_steps)

says_negated : (v n : ℕ) (word : List ℕ) (t : Token) → Writes v word n → negated_token n ≡ Some t → Says v (45 ∷ word) t
says_negated v n word t w e =
    (elim (nat_eq n 0) as (λ b. nat_eq n 0 ≡ b → cond b None (Some (Literal (record { variable = n - 1; positive = false }))) ≡ Some t → Says v (45 ∷ word) t) [
      | true ↦ λ z h. let x : ⊥ = cc in absurd x
      | false ↦ λ z h.
          let some : 0 < n = nonzero n z in
          let k : n ≡ n - 1 + 1 = omega (arith, some) in
          let same : Literal (record { variable = n - 1; positive = false }) ≡ t = cc in
          subst (Says v (45 ∷ word)) same (record { is = ap (λ l. 45 ∷ l) (w.is ∙ ap decimal k); below = omega (arith, some, w.within) })
    ]) refl e
  where
    nonzero : (n : ℕ) → nat_eq n 0 ≡ false → 0 < n
    nonzero n z = grind (arith, common_steps)

pub map_some : {A B : Type 0} (f : A → B) (o : Option A) (y : B) → option_map f o ≡ Some y → (x : A) × (o ≡ Some x) × (f x ≡ y)
map_some f None y e = let n : ⊥ = cc in absurd n
map_some f (Some x) y e = (x, refl, cc)

pub then_some : {A B : Type 0} (f : A → Option B) (o : Option A) (y : B) → option_and_then f o ≡ Some y → (x : A) × (o ≡ Some x) × (f x ≡ Some y)
then_some f None y e = let n : ⊥ = cc in absurd n
then_some f (Some x) y e = (x, refl, e)

pub token_says : (v : ℕ) (word : List ℕ) (t : Token) → v < 2 ^ 64 → token_in v word ≡ Some t → Says v word t
token_says v [] t m e = let n : ⊥ = cc in absurd n
token_says v (b ∷ word) t m e =
    (elim (nat_eq b 45) as (λ c. nat_eq b 45 ≡ c → cond c (option_and_then negated_token (number_in v word)) (option_map plain_token (number_in v (b ∷ word))) ≡ Some t → Says v (b ∷ word) t) [
      | true ↦ λ q h.
          let x = then_some negated_token (number_in v word) t h in
          subst (λ d. Says v (d ∷ word) t) (sym (eqb-true b 45 q)) (says_negated v x.0 word t (number_word v x.0 word m x.1) x.2)
      | false ↦ λ q h.
          let x = map_some plain_token (number_in v (b ∷ word)) t h in
          says_plain v x.0 (b ∷ word) t (number_word v x.0 (b ∷ word) m x.1) x.2
    ]) refl e

-- ---- what the words of clauses do
word_of : (h : Header) (r : Reader) (word : List ℕ) (t : Token) → length r.clauses < h.clauses → token_in h.variables word ≡ Some t → word_step h r word ≡ Some (token_step r t)
word_of h r word t room e = ap (λ b. cond b (option_map (token_step r) (token_in h.variables word)) None) (lt-ltb (length r.clauses) h.clauses room) ∙ ap (option_map (token_step r)) e

pub lits_step : (h : Header) (r : Reader) (lits : List Lit) → h.variables < 2 ^ 64 → length r.clauses < h.clauses → Below h.variables lits → words_step h r (map lit_word lits) ≡ Some (record r { lits = r.lits ++ lits })
lits_step h r [] m room b = ap (λ l. Some (record r { lits = l })) (sym (append-nil r.lits))
lits_step h r (lit ∷ lits) m room b =
    let n : Reader = token_step r (Literal lit) in
    ap (option_and_then (λ next. words_step h next (map lit_word lits))) (word_of h r (lit_word lit) (Literal lit) room (token_lit h.variables lit m b.0)) ∙ lits_step h n lits m room b.1 ∙ ap (λ l. Some (record r { lits = l })) (append_assoc r.lits (lit ∷ []) lits)

pub end_step : (h : Header) (r : Reader) → h.variables < 2 ^ 64 → length r.clauses < h.clauses → words_step h r (codes "0" ∷ []) ≡ Some (record r { clauses = r.clauses ++ record { lits = r.lits } ∷ []; lits = [] })
end_step h r m room = ap (option_and_then (λ next. words_step h next [])) (word_of h r (codes "0") End room (token_end h.variables m))

pub clause_step : (h : Header) (r : Reader) (c : Clause) → h.variables < 2 ^ 64 → length r.clauses < h.clauses → Below h.variables c.lits → words_step h r (clause_words c) ≡ Some (record r { clauses = r.clauses ++ record { lits = r.lits ++ c.lits } ∷ []; lits = [] })
clause_step h r c m room b =
    words_step-append h r (map lit_word c.lits) (codes "0" ∷ []) ∙ ap (option_and_then (λ n. words_step h n (codes "0" ∷ []))) (lits_step h r c.lits m room b) ∙ end_step h (record r { lits = r.lits ++ c.lits }) m room

pub clauses_step : (h : Header) (r : Reader) (cs : List Clause) → h.variables < 2 ^ 64 → r.lits ≡ [] → length r.clauses + length cs ≤ h.clauses → EachBelow h.variables cs → words_step h r (flat_map clause_words cs) ≡ Some (record r { clauses = r.clauses ++ cs; lits = [] })
clauses_step h r [] m none room b = ap (λ l. Some (record r { lits = l })) none ∙ ap (λ l. Some (record r { clauses = l; lits = [] })) (sym (append-nil r.clauses))
clauses_step h r (c ∷ cs) m none room b =
    let n : Reader = record r { clauses = r.clauses ++ c ∷ []; lits = [] } in
    let one : words_step h r (clause_words c) ≡ Some n = clause_step h r c m (omega (arith, room)) b.0 ∙ ap (λ l. Some (record r { clauses = r.clauses ++ record { lits = l ++ c.lits } ∷ []; lits = [] })) none in
    words_step-append h r (clause_words c) (flat_map clause_words cs) ∙ ap (option_and_then (λ k. words_step h k (flat_map clause_words cs))) one ∙ clauses_step h n cs m refl (omega (arith, room, length-append r.clauses (c ∷ []))) b.1 ∙ ap (λ l. Some (record r { clauses = l; lits = [] })) (append_assoc r.clauses (c ∷ []) cs)

-- ---- what words were taken
pub record Spells (h : Header) (r : Reader) (words : List (List ℕ)) : Type 0 where
  pub is : words ≡ flat_map clause_words r.clauses ++ map lit_word r.lits
  pub below : EachBelow h.variables r.clauses
  pub lits_below : Below h.variables r.lits
  pub count : length r.clauses ≤ h.clauses
  pub goes_on : (r.lits ≡ []) ⊎ (length r.clauses < h.clauses)
  pub header : r.header ≡ Some h

-- a word that was taken
pub record Stepped (h : Header) (r : Reader) (word : List ℕ) (s : Reader) : Type 0 where
  pub room : length r.clauses < h.clauses
  pub token : Token
  pub says : Says h.variables word token
  pub is : token_step r token ≡ s

pub stepped : (h : Header) (r : Reader) (word : List ℕ) (s : Reader) → h.variables < 2 ^ 64 → word_step h r word ≡ Some s → Stepped h r word s
stepped h r word s m e =
    (elim (nat_lt (length r.clauses) h.clauses) as (λ b. nat_lt (length r.clauses) h.clauses ≡ b → cond b (option_map (token_step r) (token_in h.variables word)) None ≡ Some s → Stepped h r word s) [
      | true ↦ λ q k.
          let x = map_some (token_step r) (token_in h.variables word) s k in
          record { room = ltb-true (length r.clauses) h.clauses q; token = x.0; says = token_says h.variables word x.0 m x.1; is = x.2 }
      | false ↦ λ q k. let n : ⊥ = cc in absurd n
    ]) refl e

each_push : {A : Type 0} (P : A → Type 0) (xs : List A) (x : A) → AllByRecursion P xs → P x → AllByRecursion P (xs ++ x ∷ [])
each_push P [] x a p = (p, tt)
each_push P (y ∷ ys) x a p = (a.0, each_push P ys x a.1 p)

spells_token : (h : Header) (r : Reader) (words : List (List ℕ)) (word : List ℕ) (t : Token) → Spells h r words → length r.clauses < h.clauses → Says h.variables word t → Spells h (token_step r t) (words ++ word ∷ [])
spells_token h r words word End p room s = record {
  is = ap (λ l. l ++ word ∷ []) p.is ∙ ap (λ w. (flat_map clause_words r.clauses ++ map lit_word r.lits) ++ w ∷ []) s.is ∙ append_assoc (flat_map clause_words r.clauses) (map lit_word r.lits) (codes "0" ∷ []) ∙ ap (λ l. flat_map clause_words r.clauses ++ l) (sym (append-nil (map lit_word r.lits ++ codes "0" ∷ []))) ∙ sym (flat_map-append clause_words r.clauses (record { lits = r.lits } ∷ [])) ∙ sym (append-nil (flat_map clause_words (r.clauses ++ record { lits = r.lits } ∷ [])));
  below = each_push (λ c. Below h.variables c.lits) r.clauses (record { lits = r.lits }) p.below p.lits_below;
  lits_below = tt;
  count = omega (arith, room, length-append r.clauses (record { lits = r.lits } ∷ []));
  goes_on = inl refl;
  header = p.header;
}
spells_token h r words word (Literal lit) p room s = record {
  is = ap (λ l. l ++ word ∷ []) p.is ∙ ap (λ w. (flat_map clause_words r.clauses ++ map lit_word r.lits) ++ w ∷ []) s.is ∙ append_assoc (flat_map clause_words r.clauses) (map lit_word r.lits) (lit_word lit ∷ []) ∙ ap (λ l. flat_map clause_words r.clauses ++ l) (sym (map-append lit_word r.lits (lit ∷ [])));
  below = p.below;
  lits_below = each_push (λ l. l.variable < h.variables) r.lits lit p.lits_below s.below;
  count = p.count;
  goes_on = inr room;
  header = p.header;
}

pub spells_word : (h : Header) (r s : Reader) (words : List (List ℕ)) (word : List ℕ) → h.variables < 2 ^ 64 → Spells h r words → word_step h r word ≡ Some s → Spells h s (words ++ word ∷ [])
spells_word h r s words word m p e =
    let t = stepped h r word s m e in
    subst (λ n. Spells h n (words ++ word ∷ [])) t.is (spells_token h r words word t.token p t.room t.says)

pub spells_words : (h : Header) (r s : Reader) (words more : List (List ℕ)) → h.variables < 2 ^ 64 → Spells h r words → words_step h r more ≡ Some s → Spells h s (words ++ more)
spells_words h r s words [] m p e =
    let same : r ≡ s = cc in
    subst (λ l. Spells h s l) (sym (append-nil words)) (subst (λ n. Spells h n words) same p)
spells_words h r s words (word ∷ more) m p e =
    let x = then_some (λ next. words_step h next more) (word_step h r word) s e in
    subst (λ l. Spells h s l) (append_assoc words (word ∷ []) more) (spells_words h x.0 s (words ++ word ∷ []) more m (spells_word h r x.0 words word m p x.1) x.2)
