-- The tokens of a text are slices of it.
use Rattle.std.proofs.Common.{◌≡◌, ℕ, List, [], ◌∷◌, ◌++◌, sym, refl, ap, ◌∙◌, subst, append_assoc, append-nil}
use Rattle.std.specs.Prelude.{fold}
use Rattle.std.proofs.lemmas.Grind.{fold-append}
use Rattle.gc0_base.specs.Places.{moved, place_after}
use Rattle.c0_lex.specs.Pieces.{Piece, blank, line_comment, comment, lexeme, piece_bytes}
use Rattle.c0_lex.specs.Texts.{Lexeme, Spot, start, after, spelled, tokens_of, end_at, AreSlices, Slices}

-- bytes between tokens join those before the next one
skip : (text before more : List ℕ) (ts : List Lexeme) → AreSlices text (before ++ more) ts → AreSlices text before ts
skip text before more [] h = tt
skip text before more (t ∷ ts) (gap, rest, s, l) =
    let same : (before ++ more) ++ gap ≡ before ++ (more ++ gap) = append_assoc before more gap in
    (more ++ gap, rest, record { split = s.split ∙ ap (λ x. x ++ (t.bytes ++ rest)) same; at = s.at ∙ ap place_after same }, subst (λ x. AreSlices text (x ++ t.bytes) ts) same l)

gap_slices : (text before : List ℕ) (s : Spot) (p : Piece) (ps : List Piece) (tail : List Lexeme) → AreSlices text (before ++ piece_bytes p) (tokens_of (after s p) ps ++ tail) → AreSlices text before (tokens_of (after s p) ps ++ tail)
gap_slices text before s p ps tail h = skip text before (piece_bytes p) (tokens_of (after s p) ps ++ tail) h

place_on : (s : Spot) (before : List ℕ) (p : Piece) → s.place ≡ place_after before → (after s p).place ≡ place_after (before ++ piece_bytes p)
place_on s before p e = ap (λ q. fold moved q (piece_bytes p)) e ∙ sym (fold-append moved (record { line = 1; column = 1 }) before (piece_bytes p))

slices : (ps : List Piece) (text before : List ℕ) (s : Spot) → before ++ spelled ps [] ≡ text → s.place ≡ place_after before → AreSlices text before (tokens_of s ps ++ end_at (place_after text) ∷ [])
slices [] text before s e p =
    let whole : text ≡ before = sym e ∙ append-nil before in
    ([], [], record { split = whole ∙ sym (append-nil before) ∙ sym (append-nil (before ++ [])); at = ap place_after (whole ∙ sym (append-nil before)) }, tt)
slices (blank b ∷ ps) text before s e p = gap_slices text before s (blank b) ps (end_at (place_after text) ∷ []) (slices ps text (before ++ piece_bytes (blank b)) (after s (blank b)) (append_assoc before (piece_bytes (blank b)) (spelled ps []) ∙ e) (place_on s before (blank b) p))
slices (line_comment body ∷ ps) text before s e p = gap_slices text before s (line_comment body) ps (end_at (place_after text) ∷ []) (slices ps text (before ++ piece_bytes (line_comment body)) (after s (line_comment body)) (append_assoc before (piece_bytes (line_comment body)) (spelled ps []) ∙ e) (place_on s before (line_comment body) p))
slices (comment c ∷ ps) text before s e p = gap_slices text before s (comment c) ps (end_at (place_after text) ∷ []) (slices ps text (before ++ piece_bytes (comment c)) (after s (comment c)) (append_assoc before (piece_bytes (comment c)) (spelled ps []) ∙ e) (place_on s before (comment c) p))
slices (lexeme bytes k ∷ ps) text before s e p =
    let next = slices ps text (before ++ piece_bytes (lexeme bytes k)) (after s (lexeme bytes k)) (append_assoc before (piece_bytes (lexeme bytes k)) (spelled ps []) ∙ e) (place_on s before (lexeme bytes k) p) in
    ([], spelled ps [], record { split = sym e ∙ ap (λ x. x ++ (bytes ++ spelled ps [])) (sym (append-nil before)); at = p ∙ ap place_after (sym (append-nil before)) }, subst (λ x. AreSlices text (x ++ bytes) (tokens_of (after s (lexeme bytes k)) ps ++ end_at (place_after text) ∷ [])) (sym (append-nil before)) next)

pub all_slices : Slices
all_slices text tokens h = subst (AreSlices text []) h.listed (slices h.pieces text [] start h.whole refl)
