-- What may stand first in a note, and in an expression of the code.
use Rattle.std.specs.Prelude.{ℕ, Bool, true, false, not, List, [], ◌∷◌}
use Rattle.gc0_base.specs.declared.place.Place.{Place}
use Rattle.c0_lex.specs.declared.token.Token.{Token as LexToken}
use Rattle.c0_lex.specs.declared.token.Keyword.{Keyword}
use Rattle.c0_lex.specs.declared.token.Keyword.TheVariants as key
use Rattle.c0_lex.specs.declared.token.Symbol.TheVariants as mark
use Rattle.c0_grammar.specs.Seen.{what_of}
use Rattle.parsed_tree.specs.Tree.{StmtTree}
use Rattle.c0_grammar.specs.Tokens.{word_mark, sign_mark, What, fixed, name_what, number_what, is_among}
use Rattle.c0_grammar.specs.Plan.{Plan, Step, notes_plan, step}

-- a word with which a note begins
abbrev pub is_note : Keyword → Bool
is_note key.Assert = true
is_note key.Fold = true
is_note key.Unfold = true
is_note k = false

-- what the first note of an annotation gives, whose word stands here
abbrev pub first_note : List (List ℕ) → ℕ → (StmtTree → ℕ → Plan) → Place → Keyword → Place → Step
first_note names up next at k here = step (notes_plan names up next at) (record { what = fixed (word_mark k); place = here })

-- an expression of the code may begin so
abbrev pub begins_operand : List (List ℕ) → What → Bool
begins_operand names (number_what w) = true
begins_operand names (name_what n) = not (is_among names n)
begins_operand names (fixed (word_mark key.True)) = true
begins_operand names (fixed (word_mark key.False)) = true
begins_operand names (fixed (word_mark key.Null)) = true
begins_operand names (fixed (word_mark key.Alloc)) = true
begins_operand names (fixed (sign_mark mark.Minus)) = true
begins_operand names (fixed (sign_mark mark.Tilde)) = true
begins_operand names (fixed (sign_mark mark.Not)) = true
begins_operand names (fixed (sign_mark mark.OpenParen)) = true
begins_operand names w = false

abbrev pub starts_operand : List (List ℕ) → List LexToken → Bool
starts_operand names [] = false
starts_operand names (t ∷ ts) = begins_operand names (what_of t.kind t.text.now)
