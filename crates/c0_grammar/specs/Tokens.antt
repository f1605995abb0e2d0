-- The tokens that the grammar speaks of: what a token is, and its place.
use Rattle.std.specs.Prelude.{ℕ, Bool, false, ◌||◌, List, [], ◌∷◌}
use Rattle.std.specs.Str.{bytes_eq}
use Rattle.gc0_base.specs.declared.place.Place.{Place}
use Rattle.gc0_base.specs.declared.word.Word.{Word}
use Rattle.c0_lex.specs.declared.token.Keyword.{Keyword}
use Rattle.c0_lex.specs.declared.token.Symbol.{Symbol}

-- a token that is always the same
pub data Fixed : Type 0 where
  word_mark : Keyword → Fixed
  sign_mark : Symbol → Fixed
  use_mark : Fixed
  -- what opens an annotation, and what closes it
  open_mark : Fixed
  close_mark : Fixed
  -- the end of the text
  end_mark : Fixed

-- a name has its bytes, a number its word, and a string literal the bytes that it stands for
pub data What : Type 0 where
  fixed : Fixed → What
  name_what : List ℕ → What
  number_what : Word → What
  text_what : List ℕ → What

pub record Token : Type 0 where
  pub what : What
  pub place : Place

abbrev pub token : What → Place → Token
token w at = record { what = w; place = at }

abbrev pub keyword : Keyword → Place → Token
keyword k at = token (fixed (word_mark k)) at

abbrev pub symbol : Symbol → Place → Token
symbol s at = token (fixed (sign_mark s)) at

abbrev pub name_token : List ℕ → Place → Token
name_token n at = token (name_what n) at

abbrev pub text_token : List ℕ → Place → Token
text_token b at = token (text_what b) at

abbrev pub number_token : Word → Place → Token
number_token w at = token (number_what w) at

abbrev pub use_token : Place → Token
use_token at = token (fixed use_mark) at

abbrev pub begins_annotation : Place → Token
begins_annotation at = token (fixed open_mark) at

abbrev pub ends_annotation : Place → Token
ends_annotation at = token (fixed close_mark) at

abbrev pub end_token : Place → Token
end_token at = token (fixed end_mark) at

-- one of these names
abbrev pub is_among : List (List ℕ) → List ℕ → Bool
is_among [] name = false
is_among (n ∷ ns) name = bytes_eq n name || is_among ns name
