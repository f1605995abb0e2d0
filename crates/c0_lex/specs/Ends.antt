-- The tokens of a text end with the end of the text, also to a reader that takes each alone.
use Rattle.std.specs.Prelude.{◌≡◌, ℕ, List, [], ◌∷◌, ◌++◌, map, refl}
use Rattle.std.proofs.Common.{sym, ap, ◌∙◌}
use Rattle.gc0_base.specs.declared.place.Place.{Place}
use Rattle.gc0_base.specs.Places.{place_after}
use Rattle.c0_lex.specs.Texts.{Lexeme, start, tokens_of, end_at, HasTokens}

-- the end of the text stands last
pub record EndsLast (ls : List Lexeme) : Type 0 where
  pub front : List Lexeme
  pub last : Place
  pub split : ls ≡ front ++ end_at last ∷ []

pub tokens_end_last : (text : List ℕ) (ls : List Lexeme) → HasTokens text ls → EndsLast ls
tokens_end_last text ls has =
    record { front = tokens_of start has.pieces; last = place_after text; split = sym has.listed }

map_end : {A : Type 0} (f : Lexeme → A) (front : List Lexeme) (last : Place)
    → map f (front ++ end_at last ∷ []) ≡ map f front ++ f (end_at last) ∷ []
map_end f [] last = refl
map_end f (l ∷ front) last = ap (λ ts. f l ∷ ts) (map_end f front last)

-- what a reader takes the end for stands last in what it takes
pub taken_end_last : {A : Type 0} (f : Lexeme → A) (ls : List Lexeme) (e : EndsLast ls)
    → map f ls ≡ map f e.front ++ f (end_at e.last) ∷ []
taken_end_last f ls e = ap (λ ls. map f ls) e.split ∙ map_end f e.front e.last
