-- Numbers and strings, each a part of a text.
use Rattle.std.proofs.Common.{◌<◌, ◌^◌, ℕ, List, ◌∷◌, ◌++◌, refl, subst}
use Rattle.gc0_base.specs.declared.place.Place.{Place}
use Rattle.gc0_base.specs.declared.word.Word.{Word}
use Rattle.c0_lex.specs.declared.token.TokenKind.TheVariants as kind
use Rattle.c0_lex.specs.declared.token.Mode.{Mode}
use Rattle.c0_lex.specs.Words.{QuotedMeans}
use Rattle.c0_grammar.specs.Tokens.{text_what, number_token, text_token}
use Rattle.c0_print.specs.Laws.{whats}
use Rattle.c0_layout.specs.Literals.{literal_text, string_text}
use Rattle.c0_print.proofs.Cutting.{Cuts, put, Part, Free}
use Rattle.c0_print.proofs.Legible.{IsContent}
use Rattle.c0_print.proofs.Atoms.{Stops, word_ends}
use Rattle.c0_print.proofs.Numerals.{literal_is}
use Rattle.c0_print.proofs.Strings.{characters, string_is_quoted, all_fit, string_means}

pub number_part : (m : Mode) (w : Word) (at : Place) → w.0 < 2 ^ 32 → Part Stops m m (literal_text w.0) (λ ts. number_token w at ∷ ts)
number_part m w at h =
    let l = literal_is w.0 h in
    record { by = λ rest ts e c. put m m (literal_text w.0) (kind.Number w) rest (whats ts) (λ s. refl) (l.run, word_ends rest e, l.value) c }

pub text_part : QuotedMeans → (m : Mode) (bytes : List ℕ) (at : Place) → IsContent bytes → Part Free m m (string_text bytes) (λ ts. text_token bytes at ∷ ts)
text_part means m bytes at h = record {
  by = λ rest ts e c.
      let token = put m m (string_text bytes) kind.Quoted rest (whats ts) (λ s. refl) (characters bytes, all_fit bytes h, string_is_quoted bytes) c in
      subst (λ (b : List ℕ). Cuts m (string_text bytes ++ rest) (text_what b ∷ whats ts)) (string_means means bytes h) token;
}
