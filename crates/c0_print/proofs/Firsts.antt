-- The byte with which an operand begins: no symbol before it goes on with it.
use Rattle.std.proofs.Common.{◌≡◌, ◌<◌, ◌^◌, ℕ, Bool, true, false, List, [], ◌∷◌, ◌++◌, refl, arith}
use Rattle.std.specs.Prelude.{◌==◌, ◌||◌}
use Rattle.std.specs.List.{list_all}
use Rattle.std.proofs.lemmas.Bool.{and_parts}
use Rattle.std.proofs.lemmas.Bool.Decides.{nat_tests}
use Rattle.parsed_tree.specs.declared.expressions.UnaryOperator.TheVariants as unary_op
use Rattle.c0_lex.specs.Bytes.{is_digit, is_letter, is_word_byte, begins_with}
use Rattle.c0_grammar.specs.Written.{Written, digits, truth_token, null_token, word, result_word, before, between, choice, round, called, called_text, allocated, arrow_to, permission}
use Rattle.c0_grammar.specs.Allowed.{height, is_primary}
use Rattle.c0_layout.specs.Literals.{literal_text}
use Rattle.c0_layout.specs.Layout.{begins_minus, expr_text}
use Rattle.c0_print.proofs.Longest.{is_equals, is_behind_minus}
use Rattle.c0_print.proofs.Legible.{IsName, Legible}
use Rattle.c0_print.proofs.Numerals.{literal_is}

pub begins_more : (p q : ℕ → Bool) → ((b : ℕ) → p b ≡ true → q b ≡ true) → (l : List ℕ) → begins_with p l ≡ true → begins_with q l ≡ true
begins_more p q more [] h = absurd cc
begins_more p q more (b ∷ l) h = more b h

pub begins_append : (p : ℕ → Bool) (l rest : List ℕ) → begins_with p l ≡ true → begins_with p (l ++ rest) ≡ true
begins_append p [] rest h = absurd cc
begins_append p (b ∷ l) rest h = h

pub begins_other : (p q : ℕ → Bool) → ((b : ℕ) → p b ≡ true → q b ≡ false) → (l rest : List ℕ) → begins_with p l ≡ true → begins_with q (l ++ rest) ≡ false
begins_other p q other [] rest h = absurd cc
begins_other p q other (b ∷ l) rest h = other b h

-- a number begins with a digit
pub number_first : (n : ℕ) → n < 2 ^ 32 → begins_with is_digit (literal_text n) ≡ true
number_first n h = (and_parts (begins_with is_digit (literal_text n)) (list_all is_word_byte (literal_text n)) (literal_is n h).run).0

-- a byte of a word, `\` or `(`
abbrev pub is_first : ℕ → Bool
is_first b = is_word_byte b || (b == 92) || (b == 40)

-- also `~` or `!`
abbrev pub is_calm : ℕ → Bool
is_calm b = is_first b || (b == 126) || (b == 33)

-- also `-`
abbrev pub is_operand : ℕ → Bool
is_operand b = is_calm b || (b == 45)

digit_is_first : (b : ℕ) → is_digit b ≡ true → is_first b ≡ true
digit_is_first b h = grind (arith, nat_tests)

letter_is_first : (b : ℕ) → is_letter b ≡ true → is_first b ≡ true
letter_is_first b h = grind (arith, nat_tests)

first_is_calm : (b : ℕ) → is_first b ≡ true → is_calm b ≡ true
first_is_calm b h = grind (arith, nat_tests)

calm_is_operand : (b : ℕ) → is_calm b ≡ true → is_operand b ≡ true
calm_is_operand b h = grind (arith, nat_tests)

pub calm_behind_minus : (b : ℕ) → is_calm b ≡ true → is_behind_minus b ≡ false
calm_behind_minus b h = grind (arith, nat_tests)

pub operand_no_equals : (b : ℕ) → is_operand b ≡ true → is_equals b ≡ false
operand_no_equals b h = grind (arith, nat_tests)

name_first : (inside : Bool) (n : List ℕ) → IsName inside n → begins_with is_first n ≡ true
name_first inside n h = begins_more is_letter is_first letter_is_first n (and_parts _ _ h.identifier).0

primary_first : (inside : Bool) (x : Written) → Legible inside x → is_primary x ≡ true → begins_with is_first (expr_text x) ≡ true
primary_first inside (digits at w) l h = begins_more is_digit is_first digit_is_first (literal_text w.0) (number_first w.0 l)
primary_first inside (truth_token at true) l h = refl
primary_first inside (truth_token at false) l h = refl
primary_first inside (null_token at) l h = refl
primary_first inside (word at n) l h = name_first inside n l
primary_first inside (result_word at) l h = refl
primary_first inside (before at o x) l h = absurd cc
primary_first inside (between x at o y) l h = absurd cc
primary_first inside (choice x q y c z) l h = absurd cc
primary_first inside (round a x b) l h = refl
primary_first inside (called at n a xs b) l h = begins_append is_first n _ (name_first inside n l.0)
primary_first inside (called_text at n a t bytes b) l h = begins_append is_first n _ (name_first inside n l.0)
primary_first inside (allocated at a t b) l h = refl
primary_first inside (arrow_to x at f n) l h = begins_append is_first (expr_text x) _ (primary_first inside x l.0 l.2)
primary_first inside (permission at a x p f n b) l h = refl

-- what stands behind a unary operator
flat_first : (inside : Bool) (x : Written) → Legible inside x → is_primary x ≡ true → begins_with is_calm (expr_text x) ≡ true
flat_first inside x l h = begins_more is_first is_calm first_is_calm (expr_text x) (primary_first inside x l h)

pub calm_first : (inside : Bool) (x : Written) → Legible inside x → height x ≡ 0 → begins_minus x ≡ false → begins_with is_calm (expr_text x) ≡ true
calm_first inside (digits at w) l h e = flat_first inside (digits at w) l refl
calm_first inside (truth_token at b) l h e = flat_first inside (truth_token at b) l refl
calm_first inside (null_token at) l h e = refl
calm_first inside (word at n) l h e = flat_first inside (word at n) l refl
calm_first inside (result_word at) l h e = refl
calm_first inside (before at unary_op.Negate x) l h e = absurd cc
calm_first inside (before at unary_op.Not x) l h e = refl
calm_first inside (before at unary_op.Flip x) l h e = refl
calm_first inside (between x at o y) l h e = absurd (omega arith)
calm_first inside (choice x q y c z) l h e = absurd (omega arith)
calm_first inside (round a x b) l h e = refl
calm_first inside (called at n a xs b) l h e = flat_first inside (called at n a xs b) l refl
calm_first inside (called_text at n a t bytes b) l h e = flat_first inside (called_text at n a t bytes b) l refl
calm_first inside (allocated at a t b) l h e = refl
calm_first inside (arrow_to x at f n) l h e = flat_first inside (arrow_to x at f n) l refl
calm_first inside (permission at a x p f n b) l h e = refl

pub operand_first : (inside : Bool) (x : Written) → Legible inside x → height x ≡ 0 → begins_with is_operand (expr_text x) ≡ true
operand_first inside (before at unary_op.Negate x) l h = refl
operand_first inside (before at unary_op.Not x) l h = refl
operand_first inside (before at unary_op.Flip x) l h = refl
operand_first inside (digits at w) l h = begins_more is_calm is_operand calm_is_operand (expr_text (digits at w)) (calm_first inside (digits at w) l h refl)
operand_first inside x l h = begins_more is_calm is_operand calm_is_operand (expr_text x) (calm_first inside x l h refl)
