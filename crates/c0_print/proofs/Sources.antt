-- What the tokens of a text are: names, words and strings that a layout can show again.
use Rattle.std.proofs.Common.{◌≡◌, ◌<◌, ◌≤◌, ◌+◌, ◌*◌, ◌^◌, ℕ, Bool, true, false, List, [], ◌∷◌, ◌++◌, map, length, drop, Option, Some, None, cond, refl, sym, ap, ◌∙◌, subst, arith, length-drop}
use Rattle.std.specs.Prelude.{◌==◌, ◌&&◌, ◌||◌, not, nat_le, fold, codes, IsTrue}
use Rattle.std.specs.List.{list_all}
use Rattle.std.specs.Str.{bytes_eq}
use Rattle.std.proofs.lemmas.Bool.{and_parts, and_from, or_left, leb-true}
use Rattle.std.proofs.lemmas.Bool.Decides.{nat_tests}
use Rattle.gc0_base.specs.declared.place.Place.{Place}
use Rattle.gc0_base.specs.Places.{place_after}
use Rattle.c0_lex.specs.declared.token.TokenKind.{TokenKind}
use Rattle.c0_lex.specs.declared.token.TokenKind.TheVariants as kind
use Rattle.c0_lex.specs.declared.token.Mode.{Mode}
use Rattle.c0_lex.specs.declared.token.Mode.TheVariants.{InLine, InBlock}
use Rattle.c0_lex.specs.Bytes.{is_digit, is_hexadecimal_digit, is_printable, begins_with, begins}
use Rattle.c0_lex.specs.Words.{decimal_value, is_decimal, digit_value, hexadecimal_value, is_hexadecimal, number_of, escape_value, Character, plain, escape, AreCharacters, character_values, unescaped, QuotedMeans}
use Rattle.c0_lex.specs.Pieces.{is_inside, IsToken, Piece, blank, line_comment, comment, lexeme}
use Rattle.c0_lex.specs.Texts.{Lexeme, Spot, start, mode_behind, after, ArePieces, tokens_of, end_at, HasTokens}
use Rattle.c0_grammar.specs.Tokens.{word_mark, sign_mark, use_mark, open_mark, close_mark, end_mark, What, fixed, name_what, number_what, text_what}
use Rattle.c0_grammar.specs.Seen.{what_of}
use Rattle.c0_grammar.specs.Lexemes.{read_what, read_tokens}
use Rattle.c0_print.specs.Laws.{whats}
use Rattle.c0_print.proofs.Legible.{has_force, IsName, is_content, IsContent}

-- what a token of a text is, inside an annotation or outside
abbrev pub CanStand : Bool → What → Type 0
CanStand inside (name_what n) = IsName inside n
CanStand inside (number_what w) = w.0 < 2 ^ 32
CanStand inside (text_what bytes) = IsContent bytes
CanStand inside (fixed (word_mark k)) = IsTrue (has_force inside k)
CanStand inside (fixed (sign_mark s)) = Unit {0}
CanStand inside (fixed use_mark) = Unit {0}
CanStand inside (fixed open_mark) = Unit {0}
CanStand inside (fixed close_mark) = Unit {0}
CanStand inside (fixed end_mark) = Unit {0}

-- whether what stands behind it is inside an annotation
abbrev pub inside_behind : Bool → What → Bool
inside_behind inside (name_what n) = inside
inside_behind inside (number_what w) = inside
inside_behind inside (text_what bytes) = inside
inside_behind inside (fixed (word_mark k)) = inside
inside_behind inside (fixed (sign_mark s)) = inside
inside_behind inside (fixed use_mark) = inside
inside_behind inside (fixed open_mark) = true
inside_behind inside (fixed close_mark) = false
inside_behind inside (fixed end_mark) = inside

-- of all tokens from here on
abbrev pub CanAll : Bool → List What → Type 0
CanAll inside [] = Unit {0}
CanAll inside (w ∷ ws) = CanStand inside w × CanAll (inside_behind inside w) ws

-- ---- numbers
digit_below : (b : ℕ) → is_hexadecimal_digit b ≡ true → digit_value b < 16
digit_below b h = grind (arith, nat_tests)

abbrev add_digit : ℕ → ℕ → ℕ
add_digit n d = 16 * n + digit_value d

abbrev add_room : ℕ → ℕ → ℕ
add_room n d = 16 * n

-- a number of hexadecimal digits has room in as many places
below_room : (ds : List ℕ) (n m : ℕ) → n < m → list_all is_hexadecimal_digit ds ≡ true → fold add_digit n ds < fold add_room m ds
below_room [] n m l h = l
below_room (d ∷ ds) n m l h =
    let both = and_parts (is_hexadecimal_digit d) (list_all is_hexadecimal_digit ds) h in
    let small = digit_below d both.0 in
    below_room ds (16 * n + digit_value d) (16 * m) (omega arith) both.1

room : (ds : List ℕ) → length ds ≤ 8 → fold add_room 1 ds ≤ 4294967296
room [] l = omega arith
room (a ∷ []) l = omega arith
room (a ∷ b ∷ []) l = omega arith
room (a ∷ b ∷ c ∷ []) l = omega arith
room (a ∷ b ∷ c ∷ d ∷ []) l = omega arith
room (a ∷ b ∷ c ∷ d ∷ e ∷ []) l = omega arith
room (a ∷ b ∷ c ∷ d ∷ e ∷ f ∷ []) l = omega arith
room (a ∷ b ∷ c ∷ d ∷ e ∷ f ∷ g ∷ []) l = omega arith
room (a ∷ b ∷ c ∷ d ∷ e ∷ f ∷ g ∷ h ∷ []) l = omega arith
room (a ∷ b ∷ c ∷ d ∷ e ∷ f ∷ g ∷ h ∷ i ∷ ds) l = absurd (omega arith)

hexadecimal_fits : (text : List ℕ) → is_hexadecimal text ≡ true → hexadecimal_value (drop 2 text) < 2 ^ 32
hexadecimal_fits text h =
    let front : Bool = (begins text (codes "0x") || begins text (codes "0X")) && nat_le 3 (length text) in
    let digits = and_parts (front && nat_le (length text) 10) (list_all is_hexadecimal_digit (drop 2 text)) h in
    let long = and_parts front (nat_le (length text) 10) digits.0 in
    let few = leb-true (length text) 10 long.1 in
    let below = below_room (drop 2 text) 0 1 (omega arith) digits.1 in
    let most = room (drop 2 text) (omega (arith, length-drop 2 text)) in
    omega arith

decimal_fits : (text : List ℕ) → is_decimal text ≡ true → decimal_value text ≤ 2 ^ 31
decimal_fits text d =
    let shape : Bool = list_all is_digit text && (nat_le (length text) 1 || not (begins_with (λ b. b == 48) text)) in
    leb-true (decimal_value text) (2 ^ 31) (and_parts shape (nat_le (decimal_value text) (2 ^ 31)) d).1

number_fits : (text : List ℕ) (n : ℕ) → number_of text ≡ Some n → n < 2 ^ 32
number_fits text n e =
    elim (is_decimal text) as (λ x. is_decimal text ≡ x → cond x (Some (decimal_value text)) (cond (is_hexadecimal text) (Some (hexadecimal_value (drop 2 text))) None) ≡ Some n → n < 2 ^ 32) [
      | true ↦ λ d f.
          let few : decimal_value text ≤ 2 ^ 31 = decimal_fits text d in
          let same : decimal_value text ≡ n = cc in
          omega arith
      | false ↦ λ d f.
          elim (is_hexadecimal text) as (λ x. is_hexadecimal text ≡ x → cond x (Some (hexadecimal_value (drop 2 text))) None ≡ Some n → n < 2 ^ 32) [
            | true ↦ λ h g.
                let few = hexadecimal_fits text h in
                let same : hexadecimal_value (drop 2 text) ≡ n = cc in
                omega arith
            | false ↦ λ h g. absurd cc
          ] refl f
    ] refl e

-- ---- strings
cond_case : (P : Option ℕ → Type 0) (t : Bool) (x y : Option ℕ) → P x → P y → P (cond t x y)
cond_case P true x y p q = p
cond_case P false x y p q = q

escape_fits : (letter value : ℕ) → escape_value letter ≡ Some value → is_content value ≡ true
escape_fits letter value =
    let P : Option ℕ → Type 0 = λ o. o ≡ Some value → is_content value ≡ true in
    cond_case P (letter == 110) _ _ (one 10 refl)
    (cond_case P (letter == 116) _ _ (one 9 refl)
    (cond_case P (letter == 118) _ _ (one 11 refl)
    (cond_case P (letter == 98) _ _ (one 8 refl)
    (cond_case P (letter == 114) _ _ (one 13 refl)
    (cond_case P (letter == 102) _ _ (one 12 refl)
    (cond_case P (letter == 97) _ _ (one 7 refl)
    (cond_case P (letter == 92) _ _ (one 92 refl)
    (cond_case P (letter == 39) _ _ (one 39 refl)
    (cond_case P (letter == 34) _ _ (one 34 refl) (λ e. absurd cc))))))))))
  where
    one : (v : ℕ) → is_content v ≡ true → Some v ≡ Some value → is_content value ≡ true
    one v h e = let same : v ≡ value = cc in ap is_content (sym same) ∙ h

values_fit : (cs : List Character) → AreCharacters cs → IsContent (character_values cs)
values_fit [] h = refl
values_fit (plain b ∷ cs) h =
    let printable = (and_parts _ _ (and_parts _ _ h.0).0).0 in
    and_from (is_content b) _ (or_left (is_printable b) _ printable) (values_fit cs h.1)
values_fit (escape letter value ∷ cs) h = and_from (is_content value) _ (escape_fits letter value h.0) (values_fit cs h.1)

-- ---- tokens
token_stands : QuotedMeans → (m : Mode) (bytes : List ℕ) (k : TokenKind) (rest : List ℕ) → IsToken m bytes k rest → CanStand (is_inside m) (what_of k bytes)
token_stands means m bytes kind.Name rest h = record { identifier = h.0; free = h.2 }
token_stands means m bytes (kind.Keyword k) rest h = h.1
token_stands means m bytes (kind.Number w) rest h = number_fits bytes w.0 h.2
token_stands means m bytes kind.Quoted rest h = subst IsContent (sym (ap unescaped h.2 ∙ means h.0 h.1)) (values_fit h.0 h.1)
token_stands means m bytes (kind.Symbol s) rest h = tt
token_stands means m bytes kind.Use rest h = tt
token_stands means m bytes kind.AnnotationBegin rest h = tt
token_stands means m bytes kind.AnnotationEnd rest h = tt
token_stands means m bytes kind.End rest h = absurd h

begun_inside : (t : Bool) (at : Place) → is_inside (cond t InLine (InBlock at)) ≡ true
begun_inside true at = refl
begun_inside false at = refl

inside_kept : (s : Spot) (bytes : List ℕ) (k : TokenKind) → is_inside (mode_behind s bytes k) ≡ inside_behind (is_inside s.mode) (what_of k bytes)
inside_kept s bytes kind.Name = refl
inside_kept s bytes (kind.Keyword k) = refl
inside_kept s bytes (kind.Number w) = refl
inside_kept s bytes kind.Quoted = refl
inside_kept s bytes (kind.Symbol k) = refl
inside_kept s bytes kind.Use = refl
inside_kept s bytes kind.AnnotationBegin = begun_inside (bytes_eq bytes (codes "//@")) s.place
inside_kept s bytes kind.AnnotationEnd = refl
inside_kept s bytes kind.End = refl

pieces_stand : QuotedMeans → (s : Spot) (ps : List Piece) (rest : List ℕ) (end : Place) → ArePieces s ps rest → CanAll (is_inside s.mode) (map read_what (tokens_of s ps ++ end_at end ∷ []))
pieces_stand means s [] rest end h = (tt, tt)
pieces_stand means s (blank b ∷ ps) rest end h = pieces_stand means _ ps rest end h.1
pieces_stand means s (line_comment body ∷ ps) rest end h = pieces_stand means _ ps rest end h.1
pieces_stand means s (comment c ∷ ps) rest end h = pieces_stand means _ ps rest end h.1
pieces_stand means s (lexeme bytes k ∷ ps) rest end h =
    let next : Spot = after s (lexeme bytes k) in
    let more = pieces_stand means next ps rest end h.1 in
    (token_stands means s.mode bytes k _ h.0, subst (λ (b : Bool). CanAll b (map read_what (tokens_of next ps ++ end_at end ∷ []))) (inside_kept s bytes k) more)

pub seen_whats : (ls : List Lexeme) → whats (read_tokens ls) ≡ map read_what ls
seen_whats [] = refl
seen_whats (l ∷ ls) = ap (λ ws. read_what l ∷ ws) (seen_whats ls)

-- of a whole text
pub text_stands : QuotedMeans → (text : List ℕ) (ls : List Lexeme) → HasTokens text ls → CanAll false (whats (read_tokens ls))
text_stands means text ls h =
    let all = pieces_stand means start h.pieces [] (place_after text) h.fit in
    subst (λ (ws : List What). CanAll false ws) (ap (λ l. map read_what l) h.listed ∙ sym (seen_whats ls)) all
