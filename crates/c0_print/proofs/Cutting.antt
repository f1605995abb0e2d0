-- Texts that are cut into tokens, piece by piece from their end.
use Rattle.std.proofs.Common.{◌≡◌, ℕ, List, [], ◌∷◌, ◌++◌, map, refl, sym, ap, ◌∙◌, subst, append_assoc}
use Rattle.std.specs.Prelude.{fold, IsTrue}
use Rattle.gc0_base.specs.declared.place.Place.{Place}
use Rattle.gc0_base.specs.Places.{moved, place_after}
use Rattle.c0_lex.specs.declared.token.TokenKind.{TokenKind}
use Rattle.c0_lex.specs.declared.token.Mode.{Mode}
use Rattle.c0_lex.specs.declared.token.Mode.TheVariants.{Outside}
use Rattle.c0_lex.specs.Pieces.{is_blank, IsToken, Piece, blank, lexeme}
use Rattle.c0_lex.specs.Texts.{Lexeme, Spot, start, mode_behind, behind, spelled, ArePieces, tokens_of, end_at, HasTokens}
use Rattle.c0_grammar.specs.Tokens.{end_mark, What, fixed, Token}
use Rattle.c0_grammar.specs.Seen.{what_of}
use Rattle.c0_grammar.specs.Lexemes.{read_what}
use Rattle.c0_print.specs.Laws.{whats}

-- the text has tokens, and what they are is this
pub record HasWhats (text : List ℕ) (ws : List What) : Type 0 where
  pub lexemes : List Lexeme
  pub tokens : HasTokens text lexemes
  pub same : map read_what lexemes ≡ ws

-- from this spot on the text is pieces whose tokens are these, with the end of the text last
pub record Cut (s : Spot) (text : List ℕ) (ws : List What) : Type 0 where
  pub pieces : List Piece
  pub fit : ArePieces s pieces []
  pub whole : spelled pieces [] ≡ text
  pub closed : (behind s pieces).mode ≡ Outside
  pub listed : map read_what (tokens_of s pieces) ++ fixed end_mark ∷ [] ≡ ws

abbrev pub spot_at : Mode → Place → Spot
spot_at m at = record { mode = m; place = at }

-- wherever the text stands in this mode
pub record Cuts (m : Mode) (text : List ℕ) (ws : List What) : Type 0 where
  pub by : (at : Place) → Cut (spot_at m at) text ws

pub nothing : Cuts Outside [] (fixed end_mark ∷ [])
nothing = record { by = λ at. record { pieces = []; fit = tt; whole = refl; closed = refl; listed = refl } }

-- one blank byte more
pub skip : (m : Mode) (b : ℕ) (rest : List ℕ) (ws : List What) → IsTrue (is_blank m b rest) → Cuts m rest ws → Cuts m (b ∷ rest) ws
skip m b rest ws h r = record {
  by = λ at.
      let c : Cut (spot_at m (moved at b)) rest ws = r.by (moved at b) in
      record {
        pieces = blank b ∷ c.pieces;
        fit = (subst (λ (l : List ℕ). IsTrue (is_blank m b l)) (sym c.whole) h, c.fit);
        whole = ap (λ l. b ∷ l) c.whole;
        closed = c.closed;
        listed = c.listed;
      };
}

-- one token more
pub put : (m n : Mode) (bytes : List ℕ) (k : TokenKind) (rest : List ℕ) (ws : List What) → ((at : Place) → mode_behind (spot_at m at) bytes k ≡ n) → IsToken m bytes k rest → Cuts n rest ws
    → Cuts m (bytes ++ rest) (what_of k bytes ∷ ws)
put m n bytes k rest ws leads h r = record {
  by = λ at.
      let next : Place = fold moved at bytes in
      let c : Cut (spot_at (mode_behind (spot_at m at) bytes k) next) rest ws = subst (λ (x : Mode). Cut (spot_at x next) rest ws) (sym (leads at)) (r.by next) in
      record {
        pieces = lexeme bytes k ∷ c.pieces;
        fit = (subst (λ (l : List ℕ). IsToken m bytes k l) (sym c.whole) h, c.fit);
        whole = ap (λ l. bytes ++ l) c.whole;
        closed = c.closed;
        listed = ap (λ l. what_of k bytes ∷ l) c.listed;
      };
}

-- ---- parts of a text, in front of others that begin as this one needs
pub record Part (E : List ℕ → Type 0) (m n : Mode) (text : List ℕ) (f : List Token → List Token) : Type 0 where
  pub by : (rest : List ℕ) (ts : List Token) → E rest → Cuts n rest (whats ts) → Cuts m (text ++ rest) (whats (f ts))

abbrev pub Free : List ℕ → Type 0
Free rest = Unit {0}

pub join : {E F : List ℕ → Type 0} {m n o : Mode} {a b : List ℕ} {f g : List Token → List Token} → Part E m n a f → Part F n o b g → ((rest : List ℕ) → F rest → E (b ++ rest)) → Part F m o (a ++ b) (λ ts. f (g ts))
join {m = m} {a = a} {b = b} {f = f} {g = g} p q stop = record {
  by = λ rest ts e c.
      subst (λ (l : List ℕ). Cuts m l (whats (f (g ts)))) (sym (append_assoc a b rest)) (p.by (b ++ rest) (g ts) (stop rest e) (q.by rest ts e c));
}

-- behind a part after which anything may stand
pub then : {F : List ℕ → Type 0} {m n o : Mode} {a b : List ℕ} {f g : List Token → List Token} → Part Free m n a f → Part F n o b g → Part F m o (a ++ b) (λ ts. f (g ts))
then p q = join p q (λ rest e. tt)

pub none : {E : List ℕ → Type 0} {m : Mode} → Part E m m [] (λ ts. ts)
none = record { by = λ rest ts e c. c }

-- a part after which anything may stand is one before what another needs
pub weak : {E : List ℕ → Type 0} {m n : Mode} {a : List ℕ} {f : List Token → List Token} → Part Free m n a f → Part E m n a f
weak p = record { by = λ rest ts e c. p.by rest ts tt c }

-- ---- a whole text
last_what : (ls : List Lexeme) (l : Lexeme) → map read_what (ls ++ l ∷ []) ≡ map read_what ls ++ read_what l ∷ []
last_what [] l = refl
last_what (x ∷ ls) l = ap (λ ws. read_what x ∷ ws) (last_what ls l)

pub whole_text : (text : List ℕ) (ws : List What) → Cuts Outside text ws → HasWhats text ws
whole_text text ws r =
    let c : Cut start text ws = r.by start.place in
    let end = end_at (place_after text) in
    record {
      lexemes = tokens_of start c.pieces ++ end ∷ [];
      tokens = record { pieces = c.pieces; fit = c.fit; whole = c.whole; closed = c.closed; listed = refl };
      same = last_what (tokens_of start c.pieces) end ∙ c.listed;
    }
