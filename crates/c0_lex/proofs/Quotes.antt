-- Characters of strings, and how a string ends.
use Rattle.std.proofs.Common.{◌≡◌, ◌≤◌, ◌<◌, ◌+◌, ℕ, Bool, true, false, List, [], ◌∷◌, ◌++◌, length, drop, Option, Some, None, sym, refl, ap, ◌∙◌, cond, arith, subst, get_or, append_assoc, append-nil, drop-drop}
use Rattle.std.specs.Prelude.{◌&&◌, not, is_some, nat_lt, unwrap_or}
use Rattle.std.proofs.lemmas.Bool.{and_parts, and_from, not-true, not_from_false, cond-true, cond-false, eqb-true, eq-eqb, ne_eqb, and_left, and_right, lt-ltb}
use Rattle.std.proofs.lemmas.List.{drop_all}
use Rattle.c0_lex.specs.declared.strings.StringEnd.{StringEnd}
use Rattle.c0_lex.specs.declared.strings.StringEnd.TheVariants.{Closed, Escape, Open}
use Rattle.c0_lex.specs.Bytes.{is_quote, is_backslash, is_printable, begins_with}
use Rattle.c0_lex.specs.Words.{escape_value, is_escape, Character, plain, escape, IsCharacter, AreCharacters, spelled_string, escape_byte, contents, QuotedMeans}
use Rattle.c0_lex.specs.Scan.{string_end, further}
use Rattle.c0_lex.proofs.Scanning.{string_at, further_more, further_none}
use Rattle.c0_lex.proofs.Runs.{quote_is_printable, backslash_is_printable}

-- how many bytes characters have
abbrev pub width : List Character → ℕ
width [] = 0
width (plain b ∷ cs) = 1 + width cs
width (escape l v ∷ cs) = 2 + width cs

pub length_spelled : (cs : List Character) (rest : List ℕ) → length (spelled_string cs rest) ≡ width cs + length rest
length_spelled [] rest = omega arith
length_spelled (plain b ∷ cs) rest = let h = length_spelled cs rest in omega (arith, h)
length_spelled (escape l v ∷ cs) rest = let h = length_spelled cs rest in omega (arith, h)

pub spelled_append : (cs : List Character) (a b : List ℕ) → spelled_string cs a ++ b ≡ spelled_string cs (a ++ b)
spelled_append [] a b = refl
spelled_append (plain x ∷ cs) a b = ap (λ l. x ∷ l) (spelled_append cs a b)
spelled_append (escape l v ∷ cs) a b = ap (λ t. 92 ∷ l ∷ t) (spelled_append cs a b)

pub is_some_of : (o : Option ℕ) (v : ℕ) → o ≡ Some v → is_some o ≡ true
is_some_of o v e = ap is_some e

-- ---- a string goes on behind its characters
pub string_chars : (cs : List Character) (rest : List ℕ) → AreCharacters cs → string_end (spelled_string cs rest) ≡ further (width cs) (string_end rest)
string_chars [] rest h = sym (further_none (string_end rest))
string_chars (plain b ∷ cs) rest h =
    let text = spelled_string cs rest in
    let first = and_parts (is_printable b && not (is_quote b)) (not (is_backslash b)) h.0 in
    let second = and_parts (is_printable b) (not (is_quote b)) first.0 in
    string_at (b ∷ text) (omega arith)
    ∙ cond-false _ _ _ (not-true (is_quote b) second.1)
    ∙ cond-false _ _ _ (not-true (is_backslash b) first.1)
    ∙ cond-true _ _ _ second.0
    ∙ ap (further 1) (string_chars cs rest h.1)
    ∙ further_more 1 (width cs) (string_end rest)
string_chars (escape l v ∷ cs) rest h =
    let text = spelled_string cs rest in
    string_at (92 ∷ l ∷ text) (omega arith)
    ∙ cond-true (is_escape l) (further 2 (string_end text)) (Escape 0) (is_some_of (escape_value l) v h.0)
    ∙ ap (further 2) (string_chars cs rest h.1)
    ∙ further_more 2 (width cs) (string_end rest)

pub string_is_closed : (cs : List Character) (rest : List ℕ) → AreCharacters cs → string_end (spelled_string cs (34 ∷ rest)) ≡ Closed (width cs + 1)
string_is_closed cs rest h = string_chars cs (34 ∷ rest) h ∙ ap (further (width cs)) (string_at (34 ∷ rest) (omega arith))

pub string_is_bad : (cs : List Character) (rest : List ℕ) → AreCharacters cs → begins_with is_escape rest ≡ false → string_end (spelled_string cs (92 ∷ rest)) ≡ Escape (width cs)
string_is_bad cs rest h e =
    let none : width cs + 0 ≡ width cs = omega arith in
    string_chars cs (92 ∷ rest) h ∙ ap (further (width cs)) (string_at (92 ∷ rest) (omega arith) ∙ cond-false _ _ _ e) ∙ ap Escape none

open_end : (rest : List ℕ) → begins_with is_printable rest ≡ false → string_end rest ≡ Open
open_end [] e = refl
open_end (b ∷ bs) e =
    string_at (b ∷ bs) (omega arith)
    ∙ cond-false _ _ _ (quote_is_printable b e)
    ∙ cond-false _ _ _ (backslash_is_printable b e)
    ∙ cond-false _ _ _ e

pub string_is_open : (cs : List Character) (rest : List ℕ) → AreCharacters cs → begins_with is_printable rest ≡ false → string_end (spelled_string cs rest) ≡ Open
string_is_open cs rest h e = string_chars cs rest h ∙ ap (further (width cs)) (open_end rest e)

-- ---- what an end says of the text
pub record Ends (text : List ℕ) (tail : List ℕ → List ℕ) (P : List ℕ → Type 0) (n k : ℕ) : Type 0 where
  pub cs : List Character
  pub rest : List ℕ
  pub split : text ≡ spelled_string cs (tail rest)
  pub characters : AreCharacters cs
  pub after : P rest
  pub size : n ≡ width cs + k

abbrev pub IsEnd : List ℕ → StringEnd → Type 0
IsEnd text (Closed n) = Ends text (λ rest. 34 ∷ rest) (λ rest. Unit {0}) n 1
IsEnd text (Escape n) = Ends text (λ rest. 92 ∷ rest) (λ rest. begins_with is_escape rest ≡ false) n 0
IsEnd text Open = (n : ℕ) × Ends text (λ rest. rest) (λ rest. begins_with is_printable rest ≡ false) n 0

-- one more character in front
pushed : (c : Character) (text : List ℕ) (tail : List ℕ → List ℕ) (P : List ℕ → Type 0) (n k : ℕ) → IsCharacter c → Ends text tail P n k → Ends (spelled_string (c ∷ []) text) tail P (width (c ∷ []) + n) k
pushed (plain b) text tail P n k h e = record { cs = plain b ∷ e.cs; rest = e.rest; split = ap (λ l. b ∷ l) e.split; characters = (h, e.characters); after = e.after; size = omega (arith, e.size) }
pushed (escape l v) text tail P n k h e = record { cs = escape l v ∷ e.cs; rest = e.rest; split = ap (λ t. 92 ∷ l ∷ t) e.split; characters = (h, e.characters); after = e.after; size = omega (arith, e.size) }

push_plain : (b : ℕ) (text : List ℕ) (s : StringEnd) → IsCharacter (plain b) → IsEnd text s → IsEnd (b ∷ text) (further 1 s)
push_plain b text (Closed n) h e = pushed (plain b) text (λ rest. 34 ∷ rest) (λ rest. Unit {0}) n 1 h e
push_plain b text (Escape n) h e = pushed (plain b) text (λ rest. 92 ∷ rest) (λ rest. begins_with is_escape rest ≡ false) n 0 h e
push_plain b text Open h e = (1 + 0 + e.0, pushed (plain b) text (λ rest. rest) (λ rest. begins_with is_printable rest ≡ false) e.0 0 h e.1)

push_escape : (l v : ℕ) (text : List ℕ) (s : StringEnd) → escape_value l ≡ Some v → IsEnd text s → IsEnd (92 ∷ l ∷ text) (further 2 s)
push_escape l v text (Closed n) h e = pushed (escape l v) text (λ rest. 34 ∷ rest) (λ rest. Unit {0}) n 1 h e
push_escape l v text (Escape n) h e = pushed (escape l v) text (λ rest. 92 ∷ rest) (λ rest. begins_with is_escape rest ≡ false) n 0 h e
push_escape l v text Open h e = (2 + 0 + e.0, pushed (escape l v) text (λ rest. rest) (λ rest. begins_with is_printable rest ≡ false) e.0 0 h e.1)

value_of : (o : Option ℕ) → is_some o ≡ true → (v : ℕ) × (o ≡ Some v)
value_of None e = cc
value_of (Some v) e = (v, refl)

closed_here : (a : ℕ) (bs : List ℕ) → is_quote a ≡ true → IsEnd (a ∷ bs) (Closed 1)
closed_here a bs e = record { cs = []; rest = bs; split = ap (λ x. x ∷ bs) (eqb-true a 34 e); characters = tt; after = tt; size = omega arith }

bad_here : (a : ℕ) (bs : List ℕ) → is_backslash a ≡ true → begins_with is_escape bs ≡ false → IsEnd (a ∷ bs) (Escape 0)
bad_here a bs e f = record { cs = []; rest = bs; split = ap (λ x. x ∷ bs) (eqb-true a 92 e); characters = tt; after = f; size = omega arith }

open_here : (text : List ℕ) → begins_with is_printable text ≡ false → IsEnd text Open
open_here text e = (0, record { cs = []; rest = text; split = refl; characters = tt; after = e; size = omega arith })

plain_is : (b : ℕ) → is_quote b ≡ false → is_backslash b ≡ false → is_printable b ≡ true → IsCharacter (plain b)
plain_is b q s p = and_from (is_printable b && not (is_quote b)) (not (is_backslash b)) (and_from (is_printable b) (not (is_quote b)) p (not_from_false (is_quote b) q)) (not_from_false (is_backslash b) s)

-- the end of a text behind its first byte: what follows it and what follows its second
ends_at : (a : ℕ) (bs : List ℕ) → IsEnd bs (string_end bs) → ((l : ℕ) (ls : List ℕ) → bs ≡ l ∷ ls → IsEnd ls (string_end ls)) → IsEnd (a ∷ bs) (cond (is_quote a) (Closed 1) (cond (is_backslash a) (cond (begins_with is_escape bs) (further 2 (string_end (drop 1 bs))) (Escape 0)) (cond (is_printable a) (further 1 (string_end bs)) Open)))
ends_at a bs here there =
    elim (is_quote a) as (λ t. is_quote a ≡ t → IsEnd (a ∷ bs) (cond t (Closed 1) (cond (is_backslash a) (cond (begins_with is_escape bs) (further 2 (string_end (drop 1 bs))) (Escape 0)) (cond (is_printable a) (further 1 (string_end bs)) Open)))) [
      | true ↦ λ q. closed_here a bs q
      | false ↦ λ q.
          elim (is_backslash a) as (λ t. is_backslash a ≡ t → IsEnd (a ∷ bs) (cond t (cond (begins_with is_escape bs) (further 2 (string_end (drop 1 bs))) (Escape 0)) (cond (is_printable a) (further 1 (string_end bs)) Open))) [
            | true ↦ λ s. escapes a bs s there
            | false ↦ λ s.
                elim (is_printable a) as (λ t. is_printable a ≡ t → IsEnd (a ∷ bs) (cond t (further 1 (string_end bs)) Open)) [
                  | true ↦ λ p. push_plain a bs (string_end bs) (plain_is a q s p) here
                  | false ↦ λ p. open_here (a ∷ bs) p
                ] refl
          ] refl
    ] refl
  where
    escapes : (a : ℕ) (bs : List ℕ) → is_backslash a ≡ true → ((l : ℕ) (ls : List ℕ) → bs ≡ l ∷ ls → IsEnd ls (string_end ls)) → IsEnd (a ∷ bs) (cond (begins_with is_escape bs) (further 2 (string_end (drop 1 bs))) (Escape 0))
    escapes a [] s there = bad_here a [] s refl
    escapes a (l ∷ ls) s there =
        elim (is_escape l) as (λ t. is_escape l ≡ t → IsEnd (a ∷ l ∷ ls) (cond t (further 2 (string_end ls)) (Escape 0))) [
          | true ↦ λ e. let v = value_of (escape_value l) e in subst (λ x. IsEnd (x ∷ l ∷ ls) (further 2 (string_end ls))) (sym (eqb-true a 92 s)) (push_escape l v.0 ls (string_end ls) v.1 (there l ls refl))
          | false ↦ λ e. bad_here a (l ∷ ls) s e
        ] refl

pub string_sound : (text : List ℕ) → IsEnd text (string_end text)
string_sound [] = open_here [] refl
string_sound (a ∷ []) = subst (IsEnd (a ∷ [])) (sym (string_at (a ∷ []) (omega arith))) (ends_at a [] (open_here [] refl) (λ l ls e. absurd cc))
string_sound (a ∷ b ∷ bs) =
    let here = string_sound (b ∷ bs) in
    let there = string_sound bs in
    subst (IsEnd (a ∷ b ∷ bs)) (sym (string_at (a ∷ b ∷ bs) (omega arith))) (ends_at a (b ∷ bs) here (λ l ls e. let same : bs ≡ ls = cc in subst (λ x. IsEnd x (string_end x)) same there))

-- ---- what a string stands for
pub contents_at : (text : List ℕ) → 0 < length text → contents text ≡ cond (is_quote (get_or text 0 0)) [] (cond (is_backslash (get_or text 0 0) && nat_lt 1 (length text)) (escape_byte (get_or text 1 0) ∷ contents (drop 2 text)) (get_or text 0 0 ∷ contents (drop 1 text)))
contents_at [] h = absurd (omega arith)
contents_at (a ∷ []) h = ap (λ x. cond (is_quote a) [] x) (sym (cond-false _ _ _ (and_right (is_backslash a) false refl)))
contents_at (a ∷ b ∷ bs) h =
    let some : nat_lt 1 (length (a ∷ b ∷ bs)) ≡ true = lt-ltb 1 (length (a ∷ b ∷ bs)) (omega arith) in
    ap (λ x. cond (is_quote a) [] x) (same (is_backslash a) (nat_lt 1 (length (a ∷ b ∷ bs))) (escape_byte b ∷ contents bs) (a ∷ contents (b ∷ bs)) some)
  where
    same : (x y : Bool) (l m : List ℕ) → y ≡ true → cond x l m ≡ cond (x && y) l m
    same true y l m e = sym (cond-true y l m e)
    same false y l m e = refl

pub quoted_means : QuotedMeans
quoted_means [] h = refl
quoted_means (plain b ∷ cs) h =
    let text = spelled_string cs (34 ∷ []) in
    let first = and_parts (is_printable b && not (is_quote b)) (not (is_backslash b)) h.0 in
    let second = and_parts (is_printable b) (not (is_quote b)) first.0 in
    contents_at (b ∷ text) (omega arith)
    ∙ cond-false _ _ _ (not-true (is_quote b) second.1)
    ∙ cond-false _ _ _ (and_left (is_backslash b) (nat_lt 1 (length (b ∷ text))) (not-true (is_backslash b) first.1))
    ∙ ap (λ l. b ∷ l) (quoted_means cs h.1)
quoted_means (escape l v ∷ cs) h = ap (λ o. unwrap_or o l ∷ contents (spelled_string cs (34 ∷ []))) h.0 ∙ ap (λ t. v ∷ t) (quoted_means cs h.1)

-- one step of the loop over a string's text
pub contents_quote : (text rest bytes : List ℕ) (at : ℕ) → rest ≡ drop at text → 0 < length rest → contents (drop 1 text) ≡ bytes ++ contents (drop at text) → get_or rest 0 0 ≡ 34 → bytes ≡ contents (drop 1 text)
contents_quote text rest bytes at r some h q =
    sym (h ∙ ap (λ l. bytes ++ contents l) (sym r) ∙ ap (λ l. bytes ++ l) (contents_at rest some ∙ cond-true _ _ _ (eq-eqb (get_or rest 0 0) 34 q)) ∙ append-nil bytes)

pub contents_escape : (text rest bytes bytes' : List ℕ) (at b : ℕ) → rest ≡ drop at text → 0 < length rest → contents (drop 1 text) ≡ bytes ++ contents (drop at text) → (get_or rest 0 0 ≡ 34 → ⊥) → (is_backslash (get_or rest 0 0) && nat_lt 1 (length rest)) ≡ true → b ≡ escape_byte (get_or rest 1 0) → bytes' ≡ bytes ++ b ∷ [] → contents (drop 1 text) ≡ bytes' ++ contents (drop (at + 2) text)
contents_escape text rest bytes bytes' at b r some h q e f g =
    let further : drop 2 rest ≡ drop (at + 2) text = ap (drop 2) r ∙ drop-drop 2 at text in
    h ∙ ap (λ l. bytes ++ contents l) (sym r)
    ∙ ap (λ l. bytes ++ l) (contents_at rest some ∙ cond-false _ _ _ (ne_eqb (get_or rest 0 0) 34 q) ∙ cond-true _ _ _ e)
    ∙ ap (λ x. bytes ++ x ∷ contents (drop 2 rest)) (sym f)
    ∙ sym (append_assoc bytes (b ∷ []) (contents (drop 2 rest)))
    ∙ ap (λ l. l ++ contents (drop 2 rest)) (sym g)
    ∙ ap (λ l. bytes' ++ contents l) further

pub contents_plain : (text rest bytes bytes' : List ℕ) (at : ℕ) → rest ≡ drop at text → 0 < length rest → contents (drop 1 text) ≡ bytes ++ contents (drop at text) → (get_or rest 0 0 ≡ 34 → ⊥) → (is_backslash (get_or rest 0 0) && nat_lt 1 (length rest)) ≡ false → bytes' ≡ bytes ++ get_or rest 0 0 ∷ [] → contents (drop 1 text) ≡ bytes' ++ contents (drop (at + 1) text)
contents_plain text rest bytes bytes' at r some h q e g =
    let further : drop 1 rest ≡ drop (at + 1) text = ap (drop 1) r ∙ drop-drop 1 at text in
    h ∙ ap (λ l. bytes ++ contents l) (sym r)
    ∙ ap (λ l. bytes ++ l) (contents_at rest some ∙ cond-false _ _ _ (ne_eqb (get_or rest 0 0) 34 q) ∙ cond-false _ _ _ e)
    ∙ sym (append_assoc bytes (get_or rest 0 0 ∷ []) (contents (drop 1 rest)))
    ∙ ap (λ l. l ++ contents (drop 1 rest)) (sym g)
    ∙ ap (λ l. bytes' ++ contents l) further

pub contents_end : (text bytes : List ℕ) (at : ℕ) → length text ≤ at → contents (drop 1 text) ≡ bytes ++ contents (drop at text) → bytes ≡ contents (drop 1 text)
contents_end text bytes at l h = sym (h ∙ ap (λ l. bytes ++ contents l) (drop_all at text l) ∙ append-nil bytes)
