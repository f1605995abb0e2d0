-- Nested comments: the count of open ones finds the end that the tree has.
use Rattle.std.proofs.Common.{◌≡◌, ◌+◌, ◌-◌, ℕ, zero, suc, true, false, List, [], ◌∷◌, ◌++◌, length, Option, Some, None, sym, refl, ap, ◌∙◌, cond, arith, subst, append_assoc, length-append}
use Rattle.std.specs.Prelude.{◌==◌, not, codes}
use Rattle.std.proofs.lemmas.Bool.{and_parts, and_from, not-true, not_from_false, cond-false, ne_eqb}
use Rattle.c0_lex.specs.Bytes.{begins}
use Rattle.c0_lex.specs.Pieces.{Comment, closes, byte, inner, comment_bytes, IsComment}
use Rattle.c0_lex.specs.Scan.{comment_length, longer}
use Rattle.c0_lex.proofs.Scanning.{comment_at, longer_more}
use Rattle.c0_lex.proofs.Runs.{begins_split}

-- two bytes are found in the first two bytes
pub begins_two : (b : ℕ) (c : Comment) (rest : List ℕ) (p q : ℕ) → begins (b ∷ (comment_bytes c ++ rest)) (p ∷ q ∷ []) ≡ begins (b ∷ comment_bytes c) (p ∷ q ∷ [])
begins_two b closes rest p q = refl
begins_two b (byte x c) rest p q = refl
begins_two b (inner c d) rest p q = refl

-- ---- a comment is left at its end
-- how the text goes on behind so many bytes, where that many comments are open round it
abbrev pub outer : ℕ → ℕ → List ℕ → Option ℕ
outer zero n rest = Some n
outer (suc d) n rest = longer n (comment_length rest d)

outer_more : (d m n : ℕ) (rest : List ℕ) → longer m (outer d n rest) ≡ outer d (m + n) rest
outer_more zero m n rest = refl
outer_more (suc d) m n rest = longer_more m n (comment_length rest d)

pub close_step : (d : ℕ) (rest : List ℕ) → cond (d == 0) (Some 2) (longer 2 (comment_length rest (d - 1))) ≡ outer d 2 rest
close_step zero rest = refl
close_step (suc d) rest =
    let more : suc d ≡ 0 → ⊥ = λ e. absurd (omega arith) in
    let back : suc d - 1 ≡ d = omega arith in
    cond-false (suc d == 0) _ _ (ne_eqb (suc d) 0 more) ∙ ap (λ n. longer 2 (comment_length rest n)) back

pub comment_left : (c : Comment) (rest : List ℕ) (d : ℕ) → IsComment c → comment_length (comment_bytes c ++ rest) d ≡ outer d (length (comment_bytes c)) rest
comment_left closes rest d h = close_step d rest
comment_left (byte b c) rest d h =
    let both = and_parts (not (begins (b ∷ comment_bytes c) (codes "/*"))) (not (begins (b ∷ comment_bytes c) (codes "*/"))) h.0 in
    comment_at (b ∷ (comment_bytes c ++ rest)) d (omega arith)
    ∙ cond-false _ _ _ (begins_two b c rest 47 42 ∙ not-true _ both.0)
    ∙ cond-false _ _ _ (begins_two b c rest 42 47 ∙ not-true _ both.1)
    ∙ ap (longer 1) (comment_left c rest d h.1)
    ∙ outer_more d 1 (length (comment_bytes c)) rest
    ∙ ap (λ n. outer d n rest) (one (length (comment_bytes c)))
  where
    one : (n : ℕ) → 1 + n ≡ suc n
    one n = omega arith
comment_left (inner c e) rest d h =
    let a = comment_bytes c in
    let b = comment_bytes e in
    let up : d + 1 ≡ suc d = omega arith in
    let size : 2 + (length a + length b) ≡ length (comment_bytes (inner c e)) = omega (arith, length-append a b) in
    ap (longer 2) (ap (λ l. comment_length l (d + 1)) (append_assoc a b rest) ∙ ap (comment_length (a ++ (b ++ rest))) up ∙ comment_left c (b ++ rest) (suc d) h.0 ∙ ap (longer (length a)) (comment_left e rest d h.1) ∙ outer_more d (length a) (length b) rest)
    ∙ outer_more d 2 (length a + length b) rest
    ∙ ap (λ n. outer d n rest) size

pub comment_ends_there : (c : Comment) (rest : List ℕ) → IsComment c → comment_length (comment_bytes c ++ rest) 0 ≡ Some (length (comment_bytes c))
comment_ends_there c rest h = comment_left c rest 0 h

-- ---- an end that was found is that of a comment
pub record First (text rest : List ℕ) (c : Comment) : Type 0 where
  pub is : IsComment c
  pub split : text ≡ comment_bytes c ++ rest

-- the text leads out of that many comments, and one more, in so many bytes
abbrev pub Leads : ℕ → List ℕ → ℕ → Type 0
Leads zero text n = (c : Comment) × (rest : List ℕ) × First text rest c × (n ≡ length (comment_bytes c))
Leads (suc d) text n = (c : Comment) × (rest : List ℕ) × (m : ℕ) × First text rest c × (n ≡ length (comment_bytes c) + m) × Leads d rest m

abbrev pub IfLeads : ℕ → List ℕ → Option ℕ → Type 0
IfLeads d text None = Unit {0}
IfLeads d text (Some n) = Leads d text n

byte_first : (b : ℕ) (text rest : List ℕ) (c : Comment) → begins (b ∷ text) (codes "/*") ≡ false → begins (b ∷ text) (codes "*/") ≡ false → First text rest c → First (b ∷ text) rest (byte b c)
byte_first b text rest c e f h =
    let opens = sym (begins_two b c rest 47 42) ∙ ap (λ l. begins (b ∷ l) (codes "/*")) (sym h.split) ∙ e in
    let ends = sym (begins_two b c rest 42 47) ∙ ap (λ l. begins (b ∷ l) (codes "*/")) (sym h.split) ∙ f in
    record { is = (and_from _ _ (not_from_false _ opens) (not_from_false _ ends), h.is); split = ap (λ l. b ∷ l) h.split }

push_byte : (d b : ℕ) (text : List ℕ) (n : ℕ) → begins (b ∷ text) (codes "/*") ≡ false → begins (b ∷ text) (codes "*/") ≡ false → Leads d text n → Leads d (b ∷ text) (1 + n)
push_byte zero b text n e f (c, rest, h, s) = (byte b c, rest, byte_first b text rest c e f h, omega (arith, s))
push_byte (suc d) b text n e f (c, rest, m, h, s, l) = (byte b c, rest, m, byte_first b text rest c e f h, omega (arith, s), l)

inner_first : (text mid rest : List ℕ) (c e : Comment) → First text mid c → First mid rest e → First (47 ∷ 42 ∷ text) rest (inner c e)
inner_first text mid rest c e h k = record {
  is = (h.is, k.is);
  split = ap (λ l. 47 ∷ 42 ∷ l) (h.split ∙ ap (λ l. comment_bytes c ++ l) k.split ∙ sym (append_assoc (comment_bytes c) (comment_bytes e) rest));
}

push_open : (d : ℕ) (text : List ℕ) (n : ℕ) → Leads (suc d) text n → Leads d (47 ∷ 42 ∷ text) (2 + n)
push_open zero text n (c, mid, m, h, s, (e, rest, k, t)) = (inner c e, rest, inner_first text mid rest c e h k, omega (arith, s, t, length-append (comment_bytes c) (comment_bytes e)))
push_open (suc d) text n (c, mid, m, h, s, (e, rest, j, k, t, l)) = (inner c e, rest, j, inner_first text mid rest c e h k, omega (arith, s, t, length-append (comment_bytes c) (comment_bytes e)), l)

push_close : (d : ℕ) (text : List ℕ) (n : ℕ) → Leads d text n → Leads (suc d) (42 ∷ 47 ∷ text) (2 + n)
push_close d text n l = (closes, text, n, record { is = tt; split = refl }, refl, l)

if_byte : (d b : ℕ) (text : List ℕ) (o : Option ℕ) → begins (b ∷ text) (codes "/*") ≡ false → begins (b ∷ text) (codes "*/") ≡ false → IfLeads d text o → IfLeads d (b ∷ text) (longer 1 o)
if_byte d b text None e f l = tt
if_byte d b text (Some n) e f l = push_byte d b text n e f l

if_open : (d : ℕ) (text : List ℕ) (o : Option ℕ) → IfLeads (suc d) text o → IfLeads d (47 ∷ 42 ∷ text) (longer 2 o)
if_open d text None l = tt
if_open d text (Some n) l = push_open d text n l

if_close : (d : ℕ) (text : List ℕ) (o : Option ℕ) → IfLeads d text o → IfLeads (suc d) (42 ∷ 47 ∷ text) (longer 2 o)
if_close d text None l = tt
if_close d text (Some n) l = push_close d text n l

closing : (d : ℕ) (text : List ℕ) → ((d : ℕ) → IfLeads d text (comment_length text d)) → IfLeads d (42 ∷ 47 ∷ text) (outer d 2 text)
closing zero text l = (closes, text, record { is = tt; split = refl }, refl)
closing (suc d) text l = if_close d text (comment_length text d) (l d)

pub two_of : (a b : ℕ) (text : List ℕ) (p q : ℕ) → begins (a ∷ b ∷ text) (p ∷ q ∷ []) ≡ true → a ∷ b ∷ text ≡ p ∷ q ∷ text
two_of a b text p q e = let s = begins_split (a ∷ b ∷ text) (p ∷ q ∷ []) e in s

pub comment_sound : (text : List ℕ) (d : ℕ) → IfLeads d text (comment_length text d)
comment_sound [] d = tt
comment_sound (a ∷ []) d = tt
comment_sound (a ∷ b ∷ bs) d =
    let up : d + 1 ≡ suc d = omega arith in
    let before : IfLeads (suc d) bs (comment_length bs (d + 1)) = subst (λ n. IfLeads (suc d) bs (comment_length bs n)) (sym up) (comment_sound bs (suc d)) in
    let there : (e : ℕ) → IfLeads e bs (comment_length bs e) = λ e. comment_sound bs e in
    let next = comment_sound (b ∷ bs) d in
    at_first a b bs d before there next
  where
    at_first : (a b : ℕ) (bs : List ℕ) (d : ℕ) → IfLeads (suc d) bs (comment_length bs (d + 1)) → ((e : ℕ) → IfLeads e bs (comment_length bs e)) → IfLeads d (b ∷ bs) (comment_length (b ∷ bs) d) → IfLeads d (a ∷ b ∷ bs) (comment_length (a ∷ b ∷ bs) d)
    at_first a b bs d before there next =
        elim (begins (a ∷ b ∷ bs) (codes "/*")) as (λ t. begins (a ∷ b ∷ bs) (codes "/*") ≡ t → IfLeads d (a ∷ b ∷ bs) (cond t (longer 2 (comment_length bs (d + 1))) (cond (begins (a ∷ b ∷ bs) (codes "*/")) (cond (d == 0) (Some 2) (longer 2 (comment_length bs (d - 1)))) (longer 1 (comment_length (b ∷ bs) d))))) [
          | true ↦ λ e. subst (λ l. IfLeads d l (longer 2 (comment_length bs (d + 1)))) (sym (two_of a b bs 47 42 e)) (if_open d bs (comment_length bs (d + 1)) before)
          | false ↦ λ e.
              elim (begins (a ∷ b ∷ bs) (codes "*/")) as (λ t. begins (a ∷ b ∷ bs) (codes "*/") ≡ t → IfLeads d (a ∷ b ∷ bs) (cond t (cond (d == 0) (Some 2) (longer 2 (comment_length bs (d - 1)))) (longer 1 (comment_length (b ∷ bs) d)))) [
                | true ↦ λ f. subst (λ l. IfLeads d l (cond (d == 0) (Some 2) (longer 2 (comment_length bs (d - 1))))) (sym (two_of a b bs 42 47 f)) (subst (IfLeads d (42 ∷ 47 ∷ bs)) (sym (close_step d bs)) (closing d bs there))
                | false ↦ λ f. if_byte d a (b ∷ bs) (comment_length (b ∷ bs) d) e f next
              ] refl
        ] refl
