-- What the loop over a text keeps.
use Rattle.std.proofs.Common.{◌≡◌, ◌≤◌, ◌<◌, ◌+◌, ◌-◌, ◌*◌, ℕ, List, [], ◌∷◌, ◌++◌, length, take, drop, sym, refl, ap, ◌∙◌, arith, subst, append_assoc, append-nil, length-append, length-drop, length-take, ⊎_elim, drop-drop}
use Rattle.std.specs.Prelude.{fold}
use Rattle.std.proofs.lemmas.Grind.{fold-append}
use Rattle.std.proofs.lemmas.List.{take_at, drop_at}
use Rattle.gc0_base.specs.declared.place.Place.{Place}
use Rattle.gc0_base.specs.Places.{moved, place_after}
use Rattle.c0_lex.specs.declared.token.TokenKind.{TokenKind}
use Rattle.c0_lex.specs.declared.token.TokenKind.TheVariants as kind
use Rattle.c0_lex.specs.declared.token.Mode.{Mode}
use Rattle.c0_lex.specs.declared.token.Mode.TheVariants.{Outside}
use Rattle.c0_lex.specs.declared.fault.LexFault.{LexFault}
use Rattle.c0_lex.specs.declared.fault.LexFault.TheVariants.{BadByte, BadNumber, BadEscape, OpenComment, OpenString, NestedAnnotation, Memory}
use Rattle.c0_lex.specs.declared.front.Front.{Front}
use Rattle.c0_lex.specs.declared.front.Front.TheVariants.{Gap, Found, Fault, Finish}
use Rattle.c0_lex.specs.Pieces.{Piece, blank, line_comment, comment, lexeme, piece_bytes, IsPiece}
use Rattle.c0_lex.specs.Texts.{Lexeme, Spot, start, mode_behind, mode_after, after, behind, spelled, ArePieces, token_of, tokens_of, end_at, HasTokens, IsFault, HasFault, HasCause}
use Rattle.c0_lex.specs.Scan.{front, IsWithinText}
use Rattle.c0_lex.proofs.Fronts.{piece_front}
use Rattle.c0_lex.proofs.Sound.{IsRight, front_sound}
use Rattle.c0_lex.proofs.Cuts.{line_weight, line_weight_le, has_bytes}

-- ---- one more piece
pub spelled_more : (ps : List Piece) (p : Piece) (r : List ℕ) → spelled (ps ++ p ∷ []) r ≡ spelled ps (piece_bytes p ++ r)
spelled_more [] p r = refl
spelled_more (q ∷ ps) p r = ap (λ l. piece_bytes q ++ l) (spelled_more ps p r)

pub fit_more : (ps : List Piece) (s : Spot) (p : Piece) (r : List ℕ) → ArePieces s ps (piece_bytes p ++ r) → IsPiece (behind s ps).mode p r → ArePieces s (ps ++ p ∷ []) r
fit_more [] s p r f h = (h, tt)
fit_more (q ∷ ps) s p r f h = (subst (IsPiece s.mode q) (sym (spelled_more ps p r)) f.0, fit_more ps (after s q) p r f.1 h)

pub behind_more : (ps : List Piece) (s : Spot) (p : Piece) → behind s (ps ++ p ∷ []) ≡ after (behind s ps) p
behind_more [] s p = refl
behind_more (q ∷ ps) s p = behind_more ps (after s q) p

pub tokens_more : (ps : List Piece) (s : Spot) (p : Piece) → tokens_of s (ps ++ p ∷ []) ≡ tokens_of s ps ++ token_of (behind s ps) p
tokens_more [] s p = append-nil (token_of s p)
tokens_more (q ∷ ps) s p = ap (λ l. token_of s q ++ l) (tokens_more ps (after s q) p) ∙ sym (append_assoc (token_of s q) (tokens_of (after s q) ps) (token_of (behind (after s q) ps) p))

-- the place behind pieces is that behind their bytes
pub place_behind_pieces : (ps : List Piece) (s : Spot) (before : List ℕ) → s.place ≡ place_after before → (behind s ps).place ≡ place_after (before ++ spelled ps [])
place_behind_pieces [] s before e = e ∙ ap place_after (sym (append-nil before))
place_behind_pieces (p ∷ ps) s before e =
    let there : (after s p).place ≡ place_after (before ++ piece_bytes p) = ap (λ q. fold moved q (piece_bytes p)) e ∙ sym (fold-append moved (record { line = 1; column = 1 }) before (piece_bytes p)) in
    place_behind_pieces ps (after s p) (before ++ piece_bytes p) there ∙ ap place_after (append_assoc before (piece_bytes p) (spelled ps []))

-- ---- the text up to a place in it
pub record SoFar (text : List ℕ) (at : ℕ) (mode : Mode) (place : Place) (tokens : List Lexeme) : Type 0 where
  pub pieces : List Piece
  pub fit : ArePieces start pieces (drop at text)
  pub whole : spelled pieces (drop at text) ≡ text
  pub here : behind start pieces ≡ record { mode = mode; place = place }
  pub listed : tokens_of start pieces ≡ tokens

pub at_start : (text : List ℕ) → SoFar text 0 Outside (record { line = 1; column = 1 }) []
at_start text = record { pieces = []; fit = tt; whole = refl; here = refl; listed = refl }

-- one more piece, of so many bytes
one_more : (text : List ℕ) (at n : ℕ) (mode : Mode) (place : Place) (tokens : List Lexeme) (p : Piece) (rest : List ℕ) → SoFar text at mode place tokens → piece_bytes p ++ rest ≡ drop at text → length (piece_bytes p) ≡ n → IsPiece mode p rest → SoFar text (at + n) (mode_after (record { mode = mode; place = place }) p) (fold moved place (take n (drop at text))) (tokens ++ token_of (record { mode = mode; place = place }) p)
one_more text at n mode place tokens p rest h split size fits =
    let s : Spot = record { mode = mode; place = place } in
    let left : drop (at + n) text ≡ rest = sym (drop-drop n at text) ∙ ap (drop n) (sym split) ∙ drop_at (piece_bytes p) rest n size in
    let bytes : take n (drop at text) ≡ piece_bytes p = ap (take n) (sym split) ∙ take_at (piece_bytes p) rest n size in
    record {
      pieces = h.pieces ++ p ∷ [];
      fit = subst (ArePieces start (h.pieces ++ p ∷ [])) (sym left) (fit_more h.pieces start p rest (subst (ArePieces start h.pieces) (sym split) h.fit) (subst (λ x. IsPiece x.mode p rest) (sym h.here) fits));
      whole = ap (spelled (h.pieces ++ p ∷ [])) left ∙ spelled_more h.pieces p rest ∙ ap (spelled h.pieces) split ∙ h.whole;
      here = behind_more h.pieces start p ∙ ap (λ x. after x p) h.here ∙ ap (λ l. record { mode = mode_after s p; place = fold moved place l }) (sym bytes);
      listed = tokens_more h.pieces start p ∙ ap (λ l. l ++ token_of (behind start h.pieces) p) h.listed ∙ ap (λ x. tokens ++ token_of x p) h.here;
    }

gap_step : (text : List ℕ) (at n : ℕ) (mode : Mode) (place : Place) (tokens : List Lexeme) (p : Piece) (rest : List ℕ) → SoFar text at mode place tokens → piece_bytes p ++ rest ≡ drop at text → piece_front p ≡ Gap n → IsPiece mode p rest → SoFar text (at + n) mode (fold moved place (take n (drop at text))) tokens
gap_step text at n mode place tokens (blank b) rest h split e fits = let size : 1 ≡ n = cc in subst (SoFar text (at + n) mode (fold moved place (take n (drop at text)))) (append-nil tokens) (one_more text at n mode place tokens (blank b) rest h split size fits)
gap_step text at n mode place tokens (line_comment body) rest h split e fits = let size : length (piece_bytes (line_comment body)) ≡ n = cc in subst (SoFar text (at + n) mode (fold moved place (take n (drop at text)))) (append-nil tokens) (one_more text at n mode place tokens (line_comment body) rest h split size fits)
gap_step text at n mode place tokens (comment c) rest h split e fits = let size : length (piece_bytes (comment c)) ≡ n = cc in subst (SoFar text (at + n) mode (fold moved place (take n (drop at text)))) (append-nil tokens) (one_more text at n mode place tokens (comment c) rest h split size fits)
gap_step text at n mode place tokens (lexeme bytes k) rest h split e fits = absurd cc

found_step : (text : List ℕ) (at n : ℕ) (k : TokenKind) (mode : Mode) (place : Place) (tokens : List Lexeme) (p : Piece) (rest : List ℕ) → SoFar text at mode place tokens → piece_bytes p ++ rest ≡ drop at text → piece_front p ≡ Found n k → IsPiece mode p rest → SoFar text (at + n) (mode_behind (record { mode = mode; place = place }) (take n (drop at text)) k) (fold moved place (take n (drop at text))) (tokens ++ record { bytes = take n (drop at text); kind = k; place = place } ∷ [])
found_step text at n k mode place tokens (blank b) rest h split e fits = absurd cc
found_step text at n k mode place tokens (line_comment body) rest h split e fits = absurd cc
found_step text at n k mode place tokens (comment c) rest h split e fits = absurd cc
found_step text at n k mode place tokens (lexeme bytes j) rest h split e fits =
    let s : Spot = record { mode = mode; place = place } in
    let size : length bytes ≡ n = cc in
    let same : j ≡ k = cc in
    let taken : bytes ≡ take n (drop at text) = sym (take_at bytes rest n size) ∙ ap (take n) split in
    subst (λ q. SoFar text (at + n) (mode_behind s (take n (drop at text)) q) (fold moved place (take n (drop at text))) (tokens ++ record { bytes = take n (drop at text); kind = q; place = place } ∷ [])) same
    (subst (λ l. SoFar text (at + n) (mode_behind s l j) (fold moved place (take n (drop at text))) (tokens ++ record { bytes = l; kind = j; place = place } ∷ [])) taken
    (one_more text at n mode place tokens (lexeme bytes j) rest h split size fits))

-- ---- what the code's answers mean
pub gap_on : (text : List ℕ) (at n : ℕ) (mode : Mode) (place : Place) (tokens : List Lexeme) → SoFar text at mode place tokens → Gap n ≡ front mode place (drop at text) → SoFar text (at + n) mode (fold moved place (take n (drop at text))) tokens
gap_on text at n mode place tokens h e =
    let r = subst (IsRight mode place (drop at text)) (sym e) (front_sound mode place (drop at text)) in
    gap_step text at n mode place tokens r.piece r.rest h r.split r.seen r.fits

pub found_on : (text : List ℕ) (at n : ℕ) (k : TokenKind) (mode : Mode) (place : Place) (tokens : List Lexeme) → SoFar text at mode place tokens → Found n k ≡ front mode place (drop at text) → SoFar text (at + n) (mode_behind (record { mode = mode; place = place }) (take n (drop at text)) k) (fold moved place (take n (drop at text))) (tokens ++ record { bytes = take n (drop at text); kind = k; place = place } ∷ [])
found_on text at n k mode place tokens h e =
    let r = subst (IsRight mode place (drop at text)) (sym e) (front_sound mode place (drop at text)) in
    found_step text at n k mode place tokens r.piece r.rest h r.split r.seen r.fits

pub fault_on : (text : List ℕ) (at : ℕ) (f : LexFault) (mode : Mode) (place : Place) (tokens : List Lexeme) → SoFar text at mode place tokens → Fault f ≡ front mode place (drop at text) → HasFault text f
fault_on text at f mode place tokens h e =
    let r = subst (IsRight mode place (drop at text)) (sym e) (front_sound mode place (drop at text)) in
    record { pieces = h.pieces; rest = drop at text; fit = h.fit; whole = h.whole; shown = subst (λ x. IsFault x (drop at text) f) (sym h.here) r }

pub finish_on : (text : List ℕ) (at : ℕ) (mode : Mode) (place : Place) (tokens : List Lexeme) → SoFar text at mode place tokens → Finish ≡ front mode place (drop at text) → HasTokens text (tokens ++ record { bytes = drop at text; kind = kind.End; place = place } ∷ [])
finish_on text at mode place tokens h e =
    let r = subst (IsRight mode place (drop at text)) (sym e) (front_sound mode place (drop at text)) in
    let whole : spelled h.pieces [] ≡ text = ap (spelled h.pieces) (sym r.0) ∙ h.whole in
    let there : place ≡ place_after text = ap (λ x. x.place) (sym h.here) ∙ place_behind_pieces h.pieces start [] refl ∙ ap place_after whole in
    record {
      pieces = h.pieces;
      fit = subst (ArePieces start h.pieces) r.0 h.fit;
      whole = whole;
      closed = ap (λ x. x.mode) h.here ∙ r.1;
      listed = ap (λ l. l ++ end_at (place_after text) ∷ []) h.listed ∙ ap (λ p. tokens ++ end_at p ∷ []) (sym there) ∙ ap (λ l. tokens ++ record { bytes = l; kind = kind.End; place = place } ∷ []) (sym r.0);
    }

-- ---- sizes
size_within : (text bytes rest : List ℕ) → bytes ++ rest ≡ text → length bytes ≤ length text
size_within text bytes rest e = let n : length (bytes ++ rest) ≡ length text = ap length e in omega (arith, n, length-append bytes rest)

front_fits : (mode : Mode) (text : List ℕ) (f : Front) (p : Piece) (rest : List ℕ) → piece_bytes p ++ rest ≡ text → piece_front p ≡ f → IsPiece mode p rest → IsWithinText (length text) f
front_fits mode text f (blank b) rest split e h = subst (IsWithinText (length text)) e (omega arith, size_within text (b ∷ []) rest split)
front_fits mode text f (line_comment body) rest split e h = subst (IsWithinText (length text)) e (omega arith, size_within text (piece_bytes (line_comment body)) rest split)
front_fits mode text f (comment c) rest split e h = subst (IsWithinText (length text)) e (omega arith, size_within text (piece_bytes (comment c)) rest split)
front_fits mode text f (lexeme bytes k) rest split e h = subst (IsWithinText (length text)) e (size_within text bytes rest split)

pub front_within : (mode : Mode) (place : Place) (text : List ℕ) → IsWithinText (length text) (front mode place text)
front_within mode place text = within (front mode place text) (front_sound mode place text)
  where
    within : (f : Front) → IsRight mode place text f → IsWithinText (length text) f
    within (Gap n) r = front_fits mode text (Gap n) r.piece r.rest r.split r.seen r.fits
    within (Found n k) r = front_fits mode text (Found n k) r.piece r.rest r.split r.seen r.fits
    within (Fault f) r = tt
    within Finish r = tt

-- a token brings the text nearer to its end
found_nearer : (mode : Mode) (place : Place) (text : List ℕ) (n : ℕ) (k : TokenKind) (p : Piece) (rest : List ℕ) → piece_front p ≡ Found n k → IsPiece mode p rest → line_weight (mode_behind (record { mode = mode; place = place }) (take n text) k) < 2 * n + line_weight mode
found_nearer mode place text n k (blank b) rest e h = absurd cc
found_nearer mode place text n k (line_comment body) rest e h = absurd cc
found_nearer mode place text n k (comment c) rest e h = absurd cc
found_nearer mode place text n k (lexeme bytes j) rest e h =
    let size : length bytes ≡ n = cc in
    let same : j ≡ k = cc in
    let one = line_weight_le (mode_behind (record { mode = mode; place = place }) (take n text) k) in
    ⊎_elim
    (λ some. omega (arith, some, size, one))
    (λ (m, q).
    let closing : k ≡ kind.AnnotationEnd = let last : j ≡ kind.AnnotationEnd = cc in sym same ∙ last in
    let before : line_weight mode ≡ 1 = ap line_weight m in
    let behind_it : line_weight (mode_behind (record { mode = mode; place = place }) (take n text) k) ≡ 0 = ap (λ x. line_weight (mode_behind (record { mode = mode; place = place }) (take n text) x)) closing in
    omega (arith, before, behind_it))
    (has_bytes mode (lexeme bytes j) rest h)

pub nearer : (mode : Mode) (place : Place) (text : List ℕ) (n : ℕ) (k : TokenKind) → Found n k ≡ front mode place text → line_weight (mode_behind (record { mode = mode; place = place }) (take n text) k) < 2 * n + line_weight mode
nearer mode place text n k e =
    let r = subst (IsRight mode place text) (sym e) (front_sound mode place text) in
    found_nearer mode place text n k r.piece r.rest r.seen r.fits

pub within_of : (mode : Mode) (place : Place) (text : List ℕ) (f : Front) → f ≡ front mode place text → IsWithinText (length text) f
within_of mode place text f e = subst (IsWithinText (length text)) (sym e) (front_within mode place text)

-- ---- turns of the loop
pub gap_turn : (text rest : List ℕ) (at n : ℕ) (mode : Mode) (place place' : Place) (tokens : List Lexeme) → rest ≡ drop at text → SoFar text at mode place tokens → Gap n ≡ front mode place rest → place' ≡ fold moved place (take n rest) → SoFar text (at + n) mode place' tokens
gap_turn text rest at n mode place place' tokens r h e p =
    subst (λ q. SoFar text (at + n) mode q tokens) (ap (λ l. fold moved place (take n l)) (sym r) ∙ sym p) (gap_on text at n mode place tokens h (e ∙ ap (front mode place) r))

pub found_turn : (text rest : List ℕ) (at n : ℕ) (k : TokenKind) (mode mode' : Mode) (place place' : Place) (tokens tokens' : List Lexeme) → rest ≡ drop at text → SoFar text at mode place tokens → Found n k ≡ front mode place rest → mode' ≡ mode_behind (record { mode = mode; place = place }) (take n rest) k → place' ≡ fold moved place (take n rest) → tokens' ≡ tokens ++ record { bytes = take n rest; kind = k; place = place } ∷ [] → SoFar text (at + n) mode' place' tokens'
found_turn text rest at n k mode mode' place place' tokens tokens' r h e m p t =
    subst (λ l. SoFar text (at + n) mode' place' l) (sym t)
    (subst (λ q. SoFar text (at + n) mode' q (tokens ++ record { bytes = take n rest; kind = k; place = place } ∷ [])) (sym p)
    (subst (λ q. SoFar text (at + n) q (fold moved place (take n rest)) (tokens ++ record { bytes = take n rest; kind = k; place = place } ∷ [])) (sym m)
    (subst (λ l. SoFar text (at + n) (mode_behind (record { mode = mode; place = place }) (take n l) k) (fold moved place (take n l)) (tokens ++ record { bytes = take n l; kind = k; place = place } ∷ [])) (sym r)
    (found_on text at n k mode place tokens h (e ∙ ap (front mode place) r)))))

pub fault_turn : (text rest : List ℕ) (at : ℕ) (f : LexFault) (mode : Mode) (place : Place) (tokens : List Lexeme) → rest ≡ drop at text → SoFar text at mode place tokens → Fault f ≡ front mode place rest → HasFault text f
fault_turn text rest at f mode place tokens r h e = fault_on text at f mode place tokens h (e ∙ ap (front mode place) r)

pub finish_turn : (text rest : List ℕ) (at : ℕ) (mode : Mode) (place : Place) (tokens tokens' : List Lexeme) → rest ≡ drop at text → SoFar text at mode place tokens → Finish ≡ front mode place rest → tokens' ≡ tokens ++ record { bytes = rest; kind = kind.End; place = place } ∷ [] → HasTokens text tokens'
finish_turn text rest at mode place tokens tokens' r h e t =
    subst (HasTokens text) (ap (λ l. tokens ++ record { bytes = l; kind = kind.End; place = place } ∷ []) (sym r) ∙ sym t) (finish_on text at mode place tokens h (e ∙ ap (front mode place) r))

pub cause_of : (text : List ℕ) (f : LexFault) → HasFault text f → HasCause text f
cause_of text (BadByte p) h = h
cause_of text (BadNumber p) h = h
cause_of text (BadEscape p) h = h
cause_of text (OpenComment p) h = h
cause_of text (OpenString p) h = h
cause_of text (NestedAnnotation p) h = h
cause_of text Memory h = tt

-- a slice of the rest stands within the text
pub slice_within : (text rest : List ℕ) (at n : ℕ) → rest ≡ drop at text → at ≤ length text → n ≤ length rest → at + n ≤ length text
slice_within text rest at n r h l =
    let left : length rest ≡ length text - at = ap length r ∙ length-drop at text in
    omega (arith, left)

-- a line or a column is at most the number of bytes before it, and one
pub counted : (now' now at n : ℕ) (rest : List ℕ) → now ≤ at + 1 → now' ≤ now + length (take n rest) → now' ≤ at + n + 1
counted now' now at n rest a b = omega (arith, length-take n rest, a, b)

pub measure_gap : (text rest : List ℕ) (at n w : ℕ) → rest ≡ drop at text → at ≤ length text → 0 < n → n ≤ length rest → 2 * (length text - (at + n)) + w < 2 * (length text - at) + w
measure_gap text rest at n w r h some l =
    let left : length rest ≡ length text - at = ap length r ∙ length-drop at text in
    omega (arith, left, some)

pub measure_found : (text rest : List ℕ) (at n : ℕ) (k : TokenKind) (mode mode' : Mode) (place : Place) → rest ≡ drop at text → at ≤ length text → n ≤ length rest → Found n k ≡ front mode place rest → mode' ≡ mode_behind (record { mode = mode; place = place }) (take n rest) k → 2 * (length text - (at + n)) + line_weight mode' < 2 * (length text - at) + line_weight mode
measure_found text rest at n k mode mode' place r h l e m =
    let left : length rest ≡ length text - at = ap length r ∙ length-drop at text in
    let near = nearer mode place rest n k e in
    let w : line_weight mode' ≡ line_weight (mode_behind (record { mode = mode; place = place }) (take n rest) k) = ap line_weight m in
    omega (arith, left, near, w)
