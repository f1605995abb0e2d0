-- Fronts of texts and runs of bytes.
use Rattle.std.proofs.Common.{◌≡◌, ℕ, suc, true, false, List, [], ◌∷◌, ◌++◌, length, drop, refl, ap, ◌∙◌, arith}
use Rattle.std.specs.List.{list_all}
use Rattle.std.proofs.lemmas.Bool.{and_parts, and_from, not-true, not_from_false, cond-true, cond-false}
use Rattle.std.proofs.lemmas.Bool.Decides.{nat_tests, Decides-eqb}
use Rattle.std.proofs.lemmas.Slice.Eq.{starts_is}
use Rattle.c0_lex.specs.Bytes.{is_newline, is_not_newline, is_space, is_digit, is_letter, is_word_byte, is_quote, is_backslash, is_printable, begins, ends_word, ends_line}
use Rattle.c0_lex.specs.Scan.{word_length, line_length}

-- ---- the front of a text
pub begins_split : (text front : List ℕ) → begins text front ≡ true → text ≡ front ++ drop (length front) text
begins_split text front e = (starts_is Decides-eqb text front (begins text front) refl).0 e

pub begins_front : (text front rest : List ℕ) → text ≡ front ++ rest → begins text front ≡ true
begins_front text front rest e = (starts_is Decides-eqb text front (begins text front) refl).1 rest e

-- ---- classes of bytes
pub space_is_no_word : (b : ℕ) → is_space b ≡ true → is_word_byte b ≡ false
space_is_no_word b e = grind (arith, nat_tests)

pub letter_is_no_digit : (b : ℕ) → is_letter b ≡ true → is_digit b ≡ false
letter_is_no_digit b e = grind (arith, nat_tests)

pub quote_is_printable : (b : ℕ) → is_printable b ≡ false → is_quote b ≡ false
quote_is_printable b e = grind (arith, nat_tests)

pub backslash_is_printable : (b : ℕ) → is_printable b ≡ false → is_backslash b ≡ false
backslash_is_printable b e = grind (arith, nat_tests)

-- ---- runs
pub word_run : (bytes rest : List ℕ) → list_all is_word_byte bytes ≡ true → ends_word rest ≡ true → word_length (bytes ++ rest) ≡ length bytes
word_run [] [] h e = refl
word_run [] (b ∷ bs) h e = cond-false (is_word_byte b) (suc (word_length bs)) 0 (not-true (is_word_byte b) e)
word_run (b ∷ bs) rest h e =
    let both = and_parts (is_word_byte b) (list_all is_word_byte bs) h in
    cond-true (is_word_byte b) (suc (word_length (bs ++ rest))) 0 both.0 ∙ ap suc (word_run bs rest both.1 e)

-- a run ends where it is longest
pub record IsRun (text : List ℕ) : Type 0 where
  pub bytes : List ℕ
  pub rest : List ℕ
  pub split : bytes ++ rest ≡ text
  pub each : list_all is_word_byte bytes ≡ true
  pub ends : ends_word rest ≡ true

pub run_of : (text : List ℕ) → IsRun text
run_of [] = record { bytes = []; rest = []; split = refl; each = refl; ends = refl }
run_of (b ∷ bs) =
    let r = run_of bs in
    elim (is_word_byte b) as (λ t. is_word_byte b ≡ t → IsRun (b ∷ bs)) [
      | true ↦ λ e. record { bytes = b ∷ r.bytes; rest = r.rest; split = ap (λ l. b ∷ l) r.split; each = and_from (is_word_byte b) (list_all is_word_byte r.bytes) e r.each; ends = r.ends }
      | false ↦ λ e. record { bytes = []; rest = b ∷ bs; split = refl; each = refl; ends = not_from_false (is_word_byte b) e }
    ] refl

pub line_run : (bytes rest : List ℕ) → list_all is_not_newline bytes ≡ true → ends_line rest ≡ true → line_length (bytes ++ rest) ≡ length bytes
line_run [] [] h e = refl
line_run [] (b ∷ bs) h e = cond-true (is_newline b) 0 (suc (line_length bs)) e
line_run (b ∷ bs) rest h e =
    let both = and_parts (is_not_newline b) (list_all is_not_newline bs) h in
    cond-false (is_newline b) 0 (suc (line_length (bs ++ rest))) (not-true (is_newline b) both.0) ∙ ap suc (line_run bs rest both.1 e)

pub record IsLine (text : List ℕ) : Type 0 where
  pub bytes : List ℕ
  pub rest : List ℕ
  pub split : bytes ++ rest ≡ text
  pub each : list_all is_not_newline bytes ≡ true
  pub ends : ends_line rest ≡ true

pub line_of : (text : List ℕ) → IsLine text
line_of [] = record { bytes = []; rest = []; split = refl; each = refl; ends = refl }
line_of (b ∷ bs) =
    let r = line_of bs in
    elim (is_newline b) as (λ t. is_newline b ≡ t → IsLine (b ∷ bs)) [
      | true ↦ λ e. record { bytes = []; rest = b ∷ bs; split = refl; each = refl; ends = e }
      | false ↦ λ e. record { bytes = b ∷ r.bytes; rest = r.rest; split = ap (λ l. b ∷ l) r.split; each = and_from (is_not_newline b) (list_all is_not_newline r.bytes) (not_from_false (is_newline b) e) r.each; ends = r.ends }
    ] refl
