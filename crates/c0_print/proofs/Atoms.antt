-- Words, symbols and gaps, each a part of a text.
use Rattle.std.proofs.Common.{◌≡◌, ℕ, Bool, true, false, List, [], ◌∷◌, ◌++◌, inl, refl, sym, subst, append_assoc}
use Rattle.std.specs.Prelude.{◌||◌, not, codes, IsTrue}
use Rattle.gc0_base.specs.declared.place.Place.{Place}
use Rattle.c0_lex.specs.declared.token.Keyword.{Keyword}
use Rattle.c0_lex.specs.declared.token.Symbol.{Symbol}
use Rattle.c0_lex.specs.declared.token.Symbol.TheVariants as mark
use Rattle.c0_lex.specs.declared.token.TokenKind.TheVariants as kind
use Rattle.c0_lex.specs.declared.token.Mode.{Mode}
use Rattle.c0_lex.specs.declared.token.Mode.TheVariants.{Outside, InLine, InBlock}
use Rattle.c0_lex.specs.Bytes.{is_word_byte, begins_with, ends_word}
use Rattle.c0_lex.specs.Words.{keyword_bytes, symbol_bytes}
use Rattle.c0_lex.specs.Pieces.{is_inside, is_blank, begins_comment}
use Rattle.c0_grammar.specs.Tokens.{keyword, symbol, name_token, use_token, begins_annotation, ends_annotation}
use Rattle.c0_print.specs.Laws.{whats}
use Rattle.c0_layout.specs.Layout.{spaced}
use Rattle.c0_print.proofs.Longest.{extends, longest, is_equals, before_space, plain_before_space}
use Rattle.c0_print.proofs.Longest as whole
use Rattle.c0_print.proofs.Cutting.{Cuts, skip, put, Part, Free}
use Rattle.c0_print.proofs.Legible.{has_force, IsName}

-- ---- what stands behind a word or a type: no byte of a word, and no `=`
abbrev pub is_tail : ℕ → Bool
is_tail b = is_word_byte b || is_equals b

abbrev pub Stops : List ℕ → Type 0
Stops rest = begins_with is_tail rest ≡ false

pub word_ends : (rest : List ℕ) → Stops rest → IsTrue (ends_word rest)
word_ends [] h = refl
word_ends (b ∷ rest) h = by (is_word_byte b) (is_equals b) h
  where
    by : (x y : Bool) → (x || y) ≡ false → not x ≡ true
    by true y e = absurd cc
    by false y e = refl

pub no_equals : (rest : List ℕ) → Stops rest → begins_with is_equals rest ≡ false
no_equals [] h = refl
no_equals (b ∷ rest) h = by (is_word_byte b) (is_equals b) h
  where
    by : (x y : Bool) → (x || y) ≡ false → y ≡ false
    by true y e = absurd cc
    by false y e = e

-- ---- words
pub keyword_part : (m : Mode) (k : Keyword) (at : Place) → IsTrue (has_force (is_inside m) k) → Part Stops m m (keyword_bytes k) (λ ts. keyword k at ∷ ts)
keyword_part m k at h = record { by = λ rest ts e c. put m m (keyword_bytes k) (kind.Keyword k) rest (whats ts) (λ s. refl) (refl, h, word_ends rest e) c }

pub name_part : (m : Mode) (n : List ℕ) (at : Place) → IsName (is_inside m) n → Part Stops m m n (λ ts. name_token n at ∷ ts)
name_part m n at h = record { by = λ rest ts e c. put m m n kind.Name rest (whats ts) (λ s. refl) (h.identifier, word_ends rest e, h.free) c }

pub use_part : (at : Place) → Part Free Outside Outside (codes "#use") (λ ts. use_token at ∷ ts)
use_part at = record { by = λ rest ts e c. put Outside Outside (codes "#use") kind.Use rest (whats ts) (λ s. refl) refl c }

-- ---- gaps
pub space_is_blank : (m : Mode) (rest : List ℕ) → IsTrue (is_blank m 32 rest)
space_is_blank Outside rest = refl
space_is_blank InLine rest = refl
space_is_blank (InBlock at) rest = refl

pub gap : (m : Mode) → Part Free m m (codes " ") (λ ts. ts)
gap m = record { by = λ rest ts e c. skip m 32 rest (whats ts) (space_is_blank m rest) c }

pub newline : Part Free Outside Outside (codes "\n") (λ ts. ts)
newline = record { by = λ rest ts e c. skip Outside 10 rest (whats ts) refl c }

-- ---- annotations
pub open_note : (o : Place) → Part Free Outside InLine (codes "//@") (λ ts. begins_annotation o ∷ ts)
open_note o = record { by = λ rest ts e c. put Outside InLine (codes "//@") kind.AnnotationBegin rest (whats ts) (λ s. refl) (inl refl) c }

pub close_note : (o : Place) → Part Free InLine Outside (codes "\n") (λ ts. ends_annotation o ∷ ts)
close_note o = record { by = λ rest ts e c. put InLine Outside [] kind.AnnotationEnd (10 ∷ rest) (whats ts) (λ s. refl) (refl, refl) (skip Outside 10 rest (whats ts) refl c) }

-- ---- symbols
pub sign_before : (E : List ℕ → Type 0) (m : Mode) (s : Symbol) (at : Place) → ((rest : List ℕ) → E rest → (t : Symbol) → extends (symbol_bytes s) (symbol_bytes t) rest ≡ false) → ((rest : List ℕ) → E rest → begins_comment (symbol_bytes s ++ rest) ≡ false)
    → Part E m m (symbol_bytes s) (λ ts. symbol s at ∷ ts)
sign_before E m s at long plain = record { by = λ rest ts e c. put m m (symbol_bytes s) (kind.Symbol s) rest (whats ts) (λ p. refl) (refl, longest s rest (long rest e), plain rest e) c }

pub open_paren : (m : Mode) (at : Place) → Part Free m m (codes "(") (λ ts. symbol mark.OpenParen at ∷ ts)
open_paren m at = sign_before Free m mark.OpenParen at (λ rest e. whole.open_paren rest) (λ rest e. refl)

pub close_paren : (m : Mode) (at : Place) → Part Free m m (codes ")") (λ ts. symbol mark.CloseParen at ∷ ts)
close_paren m at = sign_before Free m mark.CloseParen at (λ rest e. whole.close_paren rest) (λ rest e. refl)

pub open_brace : (m : Mode) (at : Place) → Part Free m m (codes "{") (λ ts. symbol mark.OpenBrace at ∷ ts)
open_brace m at = sign_before Free m mark.OpenBrace at (λ rest e. whole.open_brace rest) (λ rest e. refl)

pub close_brace : (m : Mode) (at : Place) → Part Free m m (codes "}") (λ ts. symbol mark.CloseBrace at ∷ ts)
close_brace m at = sign_before Free m mark.CloseBrace at (λ rest e. whole.close_brace rest) (λ rest e. refl)

pub comma : (m : Mode) (at : Place) → Part Free m m (codes ",") (λ ts. symbol mark.Comma at ∷ ts)
comma m at = sign_before Free m mark.Comma at (λ rest e. whole.comma rest) (λ rest e. refl)

pub semicolon : (m : Mode) (at : Place) → Part Free m m (codes ";") (λ ts. symbol mark.Semicolon at ∷ ts)
semicolon m at = sign_before Free m mark.Semicolon at (λ rest e. whole.semicolon rest) (λ rest e. refl)

pub question : (m : Mode) (at : Place) → Part Free m m (codes "?") (λ ts. symbol mark.Question at ∷ ts)
question m at = sign_before Free m mark.Question at (λ rest e. whole.question rest) (λ rest e. refl)

pub tilde : (m : Mode) (at : Place) → Part Free m m (codes "~") (λ ts. symbol mark.Tilde at ∷ ts)
tilde m at = sign_before Free m mark.Tilde at (λ rest e. whole.tilde rest) (λ rest e. refl)

pub arrow : (m : Mode) (at : Place) → Part Free m m (codes "->") (λ ts. symbol mark.Arrow at ∷ ts)
arrow m at = sign_before Free m mark.Arrow at (λ rest e. whole.arrow rest) (λ rest e. refl)

pub increment : (m : Mode) (at : Place) → Part Free m m (codes "++") (λ ts. symbol mark.Increment at ∷ ts)
increment m at = sign_before Free m mark.Increment at (λ rest e. whole.increment rest) (λ rest e. refl)

pub decrement : (m : Mode) (at : Place) → Part Free m m (codes "--") (λ ts. symbol mark.Decrement at ∷ ts)
decrement m at = sign_before Free m mark.Decrement at (λ rest e. whole.decrement rest) (λ rest e. refl)

pub star : (m : Mode) (at : Place) → Part Stops m m (codes "*") (λ ts. symbol mark.Star at ∷ ts)
star m at = sign_before Stops m mark.Star at (λ rest e. whole.star rest (no_equals rest e)) (λ rest e. refl)

-- a symbol with one space on both sides
pub spaced_part : (m : Mode) (s : Symbol) (at : Place) → Part Free m m (spaced s) (λ ts. symbol s at ∷ ts)
spaced_part m s at = record {
  by = λ rest ts e c.
      let behind = skip m 32 rest (whats ts) (space_is_blank m rest) c in
      let sign = put m m (symbol_bytes s) (kind.Symbol s) (32 ∷ rest) (whats ts) (λ p. refl) (refl, longest s (32 ∷ rest) (before_space s rest), plain_before_space s rest) behind in
      let joined = subst (λ (l : List ℕ). Cuts m l (whats (symbol s at ∷ ts))) (sym (append_assoc (symbol_bytes s) (32 ∷ []) rest)) sign in
      skip m 32 ((symbol_bytes s ++ 32 ∷ []) ++ rest) (whats (symbol s at ∷ ts)) (space_is_blank m ((symbol_bytes s ++ 32 ∷ []) ++ rest)) joined;
}
