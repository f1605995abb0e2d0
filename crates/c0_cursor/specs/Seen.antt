-- What stands first in the tokens of a text, and what a part of the reading answers.
use Rattle.std.specs.Prelude.{◌≡◌, ℕ, Bool, true, false, List, [], ◌∷◌, Result, Ok, Err}
use Rattle.gc0_base.specs.declared.place.Place.{Place}
use Rattle.c0_lex.specs.declared.token.Token.{Token as LexToken}
use Rattle.c0_lex.specs.declared.token.Keyword.TheVariants as key
use Rattle.c0_grammar.specs.Seen.{what_of, all_seen}
use Rattle.parsed_tree.specs.Tree.{ProgramTree}
use Rattle.c0_grammar.specs.Tokens.{Fixed, word_mark, sign_mark, use_mark, open_mark, close_mark, end_mark, What, fixed, name_what, text_what, is_among}
use Rattle.c0_grammar.specs.Allowed.{Mode, code, conjunct, value}
use Rattle.c0_grammar.specs.Plan.{Plan, Step, is, Fault, syntax_at, deep_at, go, run}
use Rattle.c0_cursor.specs.declared.fault.Stop.{Stop}
use Rattle.c0_cursor.specs.declared.fault.Stop.TheVariants as stop
use Rattle.c0_cursor.specs.declared.operators.Mode.{Mode as CodeMode}
use Rattle.c0_cursor.specs.declared.operators.Mode.TheVariants as mode
use Rattle.gc0_base.specs.declared.limits.TheConstants.Limits as limits
use Rattle.c0_cursor.specs.declared.marks.Mark.{Mark as CodeMark}
use Rattle.c0_cursor.specs.declared.marks.Mark.TheVariants as here

abbrev pub mode_view : CodeMode → Mode
mode_view mode.Code = code
mode_view mode.Conjunct = conjunct
mode_view mode.Value = value

-- the token that a mark of the code stands for
abbrev pub mark_view : CodeMark → Fixed
mark_view (here.Word k) = word_mark k
mark_view (here.Sign s) = sign_mark s
mark_view here.Use = use_mark
mark_view here.Open = open_mark
mark_view here.Close = close_mark
mark_view here.End = end_mark

-- what a plan gives on these tokens
abbrev pub reading : Plan → List LexToken → Result ProgramTree Fault
reading plan ts = run limits.NESTING plan (all_seen ts)

-- this token stands first
abbrev pub starts : Fixed → List LexToken → Bool
starts f [] = false
starts f (t ∷ ts) = is f (what_of t.kind t.text.now)

-- the reading of the whole fails with this fault, of which want of memory says nothing
abbrev pub FailsAs : Result ProgramTree Fault → Stop → Type 0
FailsAs whole (stop.Syntax at) = whole ≡ Err (syntax_at at)
FailsAs whole (stop.TooDeep at) = whole ≡ Err (deep_at at)
FailsAs whole stop.Memory = Unit {0}

-- what a part of the reading answers: what the rest gives, or the fault of the whole
abbrev pub Parsed : {X : Type 0} → (X → Result ProgramTree Fault) → Result ProgramTree Fault → Result X Stop → Type 0
Parsed rest whole (Ok x) = whole ≡ rest x
Parsed rest whole (Err e) = FailsAs whole e

-- a type stands first: one of its words, or the name of a typedef
abbrev pub begins_type : List (List ℕ) → What → Bool
begins_type names (fixed (word_mark key.Int)) = true
begins_type names (fixed (word_mark key.Bool)) = true
begins_type names (fixed (word_mark key.Struct)) = true
begins_type names (name_what n) = is_among names n
begins_type names w = false

abbrev pub starts_type : List (List ℕ) → List LexToken → Bool
starts_type names [] = false
starts_type names (t ∷ ts) = begins_type names (what_of t.kind t.text.now)

abbrev pub is_text : What → Bool
is_text (text_what b) = true
is_text w = false

abbrev pub starts_text : List LexToken → Bool
starts_text [] = false
starts_text (t ∷ ts) = is_text (what_of t.kind t.text.now)

-- what a step of a plan, at a token that stands here, gives on the tokens behind that token
abbrev pub stepping : Step → Place → List LexToken → Result ProgramTree Fault
stepping s at ts = go limits.NESTING s (λ plan. reading plan ts) at
