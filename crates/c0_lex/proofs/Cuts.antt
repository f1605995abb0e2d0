-- A text has one answer: tokens, or a fault.
use Rattle.std.proofs.Common.{◌≡◌, ◌≤◌, ◌<◌, ◌+◌, ◌*◌, ℕ, zero, suc, Bool, true, List, [], ◌∷◌, ◌++◌, length, take, drop, Option, Some, None, sym, refl, ap, ◌∙◌, arith, subst, length-append, inl, inr, ◌⊎◌, ⊎_elim}
use Rattle.std.specs.Prelude.{fold}
use Rattle.std.proofs.lemmas.Bool.{and_parts}
use Rattle.std.proofs.lemmas.List.{take_at, drop_at}
use Rattle.gc0_base.specs.Places.{moved, place_after}
use Rattle.c0_lex.specs.declared.token.TokenKind.{TokenKind}
use Rattle.c0_lex.specs.declared.token.TokenKind.TheVariants as kind
use Rattle.c0_lex.specs.declared.token.Mode.{Mode}
use Rattle.c0_lex.specs.declared.token.Mode.TheVariants.{Outside, InLine, InBlock}
use Rattle.c0_lex.specs.declared.fault.LexFault.{LexFault}
use Rattle.c0_lex.specs.declared.front.Front.{Front}
use Rattle.c0_lex.specs.declared.front.Front.TheVariants.{Gap, Found, Fault, Finish}
use Rattle.c0_lex.specs.Bytes.{is_letter, is_digit, begins_with}
use Rattle.c0_lex.specs.Words.{keyword_bytes, symbol_bytes}
use Rattle.c0_lex.specs.Pieces.{Opens, Closes, Piece, blank, line_comment, comment, lexeme, piece_bytes, IsPiece}
use Rattle.c0_lex.specs.Texts.{Lexeme, Spot, start, mode_behind, mode_after, after, behind, spelled, ArePieces, token_of, tokens_of, end_at, HasTokens, IsFault, HasFault, OneList, OneFault, NeverBoth, EachText}
use Rattle.c0_lex.specs.Scan.{front, last_front}
use Rattle.c0_lex.proofs.Spellings.{keyword_some, of_one, of_two, of_three, sized}
use Rattle.c0_lex.proofs.Fronts.{piece_front, piece_is}
use Rattle.c0_lex.proofs.Faults.{fault_is}
use Rattle.c0_lex.proofs.Sound.{Stands, IsRight, front_sound}

-- what is found at a spot
abbrev pub front_at : Spot → List ℕ → Front
front_at s text = front s.mode s.place text

-- nothing more is read here
abbrev pub IsLast : Front → Type 0
IsLast (Gap n) = ⊥
IsLast (Found n k) = ⊥
IsLast (Fault f) = Unit {0}
IsLast Finish = Unit {0}

not_last : (p : Piece) → IsLast (piece_front p) → ⊥
not_last (blank b) h = h
not_last (line_comment body) h = h
not_last (comment c) h = h
not_last (lexeme bytes k) h = h

-- ---- pieces that are found alike are alike
abbrev size_in : Front → ℕ
size_in (Gap n) = n
size_in (Found n k) = n
size_in (Fault f) = 0
size_in Finish = 0

abbrev kind_in : Front → Option TokenKind
kind_in (Gap n) = None
kind_in (Found n k) = Some k
kind_in (Fault f) = None
kind_in Finish = None

piece_size : (p : Piece) → size_in (piece_front p) ≡ length (piece_bytes p)
piece_size (blank b) = refl
piece_size (line_comment body) = refl
piece_size (comment c) = refl
piece_size (lexeme bytes k) = refl

abbrev token_with : Spot → List ℕ → Option TokenKind → List Lexeme
token_with s bytes (Some k) = record { bytes = bytes; kind = k; place = s.place } ∷ []
token_with s bytes None = []

piece_token : (s : Spot) (p : Piece) → token_of s p ≡ token_with s (piece_bytes p) (kind_in (piece_front p))
piece_token s (blank b) = refl
piece_token s (line_comment body) = refl
piece_token s (comment c) = refl
piece_token s (lexeme bytes k) = refl

abbrev mode_with : Spot → List ℕ → Option TokenKind → Mode
mode_with s bytes (Some k) = mode_behind s bytes k
mode_with s bytes None = s.mode

abbrev after_with : Spot → List ℕ → Option TokenKind → Spot
after_with s bytes o = record { mode = mode_with s bytes o; place = fold moved s.place bytes }

piece_after : (s : Spot) (p : Piece) → after s p ≡ after_with s (piece_bytes p) (kind_in (piece_front p))
piece_after s (blank b) = refl
piece_after s (line_comment body) = refl
piece_after s (comment c) = refl
piece_after s (lexeme bytes k) = refl

record Alike (s : Spot) (p q : Piece) (x y : List ℕ) : Type 0 where
  bytes : piece_bytes p ≡ piece_bytes q
  rests : x ≡ y
  tokens : token_of s p ≡ token_of s q
  spots : after s p ≡ after s q

alike : (s : Spot) (p q : Piece) (x y : List ℕ) → piece_front p ≡ piece_front q → piece_bytes p ++ x ≡ piece_bytes q ++ y → Alike s p q x y
alike s p q x y e split =
    let size : length (piece_bytes p) ≡ length (piece_bytes q) = sym (piece_size p) ∙ ap size_in e ∙ piece_size q in
    let n = length (piece_bytes q) in
    let same : piece_bytes p ≡ piece_bytes q = sym (take_at (piece_bytes p) x n size) ∙ ap (take n) split ∙ take_at (piece_bytes q) y n refl in
    let rests : x ≡ y = sym (drop_at (piece_bytes p) x n size) ∙ ap (drop n) split ∙ drop_at (piece_bytes q) y n refl in
    record {
      bytes = same;
      rests = rests;
      tokens = piece_token s p ∙ ap (λ b. token_with s b (kind_in (piece_front p))) same ∙ ap (λ f. token_with s (piece_bytes q) (kind_in f)) e ∙ sym (piece_token s q);
      spots = piece_after s p ∙ ap (λ b. after_with s b (kind_in (piece_front p))) same ∙ ap (λ f. after_with s (piece_bytes q) (kind_in f)) e ∙ sym (piece_after s q);
    }

record Same (s : Spot) (ps qs : List Piece) (r t : List ℕ) : Type 0 where
  tokens : tokens_of s ps ≡ tokens_of s qs
  spots : behind s ps ≡ behind s qs
  rests : r ≡ t

-- one text is cut in one way
same_pieces : (ps qs : List Piece) (s : Spot) (r t : List ℕ) → ArePieces s ps r → ArePieces s qs t → spelled ps r ≡ spelled qs t → IsLast (front_at (behind s ps) r) → IsLast (front_at (behind s qs) t) → Same s ps qs r t
same_pieces [] [] s r t f g e l m = record { tokens = refl; spots = refl; rests = e }
same_pieces [] (q ∷ qs) s r t f g e l m =
    let here : front_at s r ≡ piece_front q = ap (front_at s) e ∙ piece_is s.mode s.place q (spelled qs t) g.0 in
    absurd (not_last q (subst IsLast here l))
same_pieces (p ∷ ps) [] s r t f g e l m =
    let here : front_at s t ≡ piece_front p = ap (front_at s) (sym e) ∙ piece_is s.mode s.place p (spelled ps r) f.0 in
    absurd (not_last p (subst IsLast here m))
same_pieces (p ∷ ps) (q ∷ qs) s r t f g e l m =
    let fronts : piece_front p ≡ piece_front q = sym (piece_is s.mode s.place p (spelled ps r) f.0) ∙ ap (front_at s) e ∙ piece_is s.mode s.place q (spelled qs t) g.0 in
    let a = alike s p q (spelled ps r) (spelled qs t) fronts e in
    let there = same_pieces ps qs (after s q) r t (subst (λ x. ArePieces x ps r) a.spots f.1) g.1 a.rests (subst (λ x. IsLast (front_at (behind x ps) r)) a.spots l) m in
    record {
      tokens = ap (λ x. x ++ tokens_of (after s p) ps) a.tokens ∙ ap (λ x. token_of s q ++ x) (ap (λ x. tokens_of x ps) a.spots ∙ there.tokens);
      spots = ap (λ x. behind x ps) a.spots ∙ there.spots;
      rests = there.rests;
    }

end_front : (s : Spot) → s.mode ≡ Outside → front_at s [] ≡ Finish
end_front s e = ap last_front e

pub one_list : OneList
one_list text a b h k =
    let l = subst IsLast (sym (end_front (behind start h.pieces) h.closed)) tt in
    let m = subst IsLast (sym (end_front (behind start k.pieces) k.closed)) tt in
    let same = same_pieces h.pieces k.pieces start [] [] h.fit k.fit (h.whole ∙ sym k.whole) l m in
    sym h.listed ∙ ap (λ x. x ++ end_at (place_after text) ∷ []) same.tokens ∙ k.listed

pub one_fault : OneFault
one_fault text a b h k =
    let s = behind start h.pieces in
    let t = behind start k.pieces in
    let e : front_at s h.rest ≡ Fault a = fault_is s.mode s.place h.rest a h.shown in
    let f : front_at t k.rest ≡ Fault b = fault_is t.mode t.place k.rest b k.shown in
    let same = same_pieces h.pieces k.pieces start h.rest k.rest h.fit k.fit (h.whole ∙ sym k.whole) (subst IsLast (sym e) tt) (subst IsLast (sym f) tt) in
    let faults : ◌≡◌ {A = Front} (Fault a) (Fault b) = sym e ∙ ap (λ x. front_at x h.rest) same.spots ∙ ap (front_at t) same.rests ∙ f in
    cc

pub never_both : NeverBoth
never_both text ts a h k =
    let s = behind start h.pieces in
    let t = behind start k.pieces in
    let e : front_at s [] ≡ Finish = end_front s h.closed in
    let f : front_at t k.rest ≡ Fault a = fault_is t.mode t.place k.rest a k.shown in
    let same = same_pieces h.pieces k.pieces start [] k.rest h.fit k.fit (h.whole ∙ sym k.whole) (subst IsLast (sym e) tt) (subst IsLast (sym f) tt) in
    let ends : Finish ≡ Fault a = sym e ∙ ap (λ x. front_at x []) same.spots ∙ ap (front_at t) same.rests ∙ f in
    cc

-- ---- each text has an answer
-- only the end of a line annotation has no bytes
abbrev pub HasBytes : Mode → Piece → Type 0
HasBytes mode p = (0 < length (piece_bytes p)) ⊎ ((mode ≡ InLine) × (p ≡ lexeme [] kind.AnnotationEnd))

begins_some : (test : ℕ → Bool) (bytes : List ℕ) → begins_with test bytes ≡ true → 0 < length bytes
begins_some test [] e = absurd cc
begins_some test (b ∷ bs) e = omega arith

opens_some : (mode : Mode) (bytes : List ℕ) → Opens mode bytes → 0 < length bytes
opens_some Outside bytes (inl e) = let n : length bytes ≡ 3 = ap length e in omega (arith, n)
opens_some Outside bytes (inr e) = let n : length bytes ≡ 3 = ap length e in omega (arith, n)
opens_some InLine bytes h = absurd h
opens_some (InBlock opened) bytes h = absurd h

closes_some : (mode : Mode) (bytes rest : List ℕ) → Closes mode bytes rest → HasBytes mode (lexeme bytes kind.AnnotationEnd)
closes_some Outside bytes rest h = absurd h
closes_some InLine bytes rest h = inr (refl, ap (λ l. lexeme l kind.AnnotationEnd) h.0)
closes_some (InBlock opened) bytes rest h = let n : length bytes ≡ 3 = ap length h in inl (omega (arith, n))

pub has_bytes : (mode : Mode) (p : Piece) (rest : List ℕ) → IsPiece mode p rest → HasBytes mode p
has_bytes mode (blank b) rest h = inl (omega arith)
has_bytes mode (line_comment body) rest h = inl (omega arith)
has_bytes mode (comment c) rest h = inl (omega arith)
has_bytes mode (lexeme bytes kind.Name) rest h = inl (begins_some is_letter bytes (and_parts _ _ h.0).0)
has_bytes mode (lexeme bytes (kind.Keyword k)) rest h = let n : length bytes ≡ length (keyword_bytes k) = ap length h.0 in inl (omega (arith, n, keyword_some k))
has_bytes mode (lexeme bytes (kind.Number w)) rest h = inl (begins_some is_digit bytes (and_parts _ _ h.0).0)
has_bytes mode (lexeme bytes kind.Quoted) rest (cs, h, e) = inl (subst (λ l. 0 < length l) (sym e) (omega arith))
has_bytes mode (lexeme bytes (kind.Symbol s)) rest h =
    let n : length bytes ≡ length (symbol_bytes s) = ap length h.0 in
    elim (sized s) [ of_one size found ↦ inl (omega (arith, n, size)) | of_two size found ↦ inl (omega (arith, n, size)) | of_three size found ↦ inl (omega (arith, n, size)) ]
has_bytes mode (lexeme bytes kind.Use) rest h = let n : length bytes ≡ 4 = ap length h in inl (omega (arith, n))
has_bytes mode (lexeme bytes kind.AnnotationBegin) rest h = inl (opens_some mode bytes h)
has_bytes mode (lexeme bytes kind.AnnotationEnd) rest h = closes_some mode bytes rest h
has_bytes mode (lexeme bytes kind.End) rest h = absurd h

-- an open line annotation may still be closed without bytes
abbrev pub line_weight : Mode → ℕ
line_weight Outside = 0
line_weight InLine = 1
line_weight (InBlock opened) = 0

pub line_weight_le : (mode : Mode) → line_weight mode ≤ 1
line_weight_le Outside = omega arith
line_weight_le InLine = omega arith
line_weight_le (InBlock opened) = omega arith

pub lighter : (s : Spot) (p : Piece) (rest text : List ℕ) → IsPiece s.mode p rest → piece_bytes p ++ rest ≡ text → 2 * length rest + line_weight (mode_after s p) < 2 * length text + line_weight s.mode
lighter s p rest text h e =
    let size : length (piece_bytes p) + length rest ≡ length text = sym (length-append (piece_bytes p) rest) ∙ ap length e in
    let one = line_weight_le (mode_after s p) in
    ⊎_elim
    (λ some. omega (arith, some, size, one))
    (λ (m, same).
    let before : line_weight s.mode ≡ 1 = ap line_weight m in
    let behind_it : line_weight (mode_after s p) ≡ 0 = ap (λ q. line_weight (mode_after s q)) same in
    omega (arith, before, behind_it, size))
    (has_bytes s.mode p rest h)

-- a text is cut up to its end or its fault
record IsCut (s : Spot) (text : List ℕ) : Type 0 where
  pieces : List Piece
  rest : List ℕ
  fit : ArePieces s pieces rest
  whole : spelled pieces rest ≡ text
  last : IsLast (front_at (behind s pieces) rest)

cut : (n : ℕ) (s : Spot) (text : List ℕ) → 2 * length text + line_weight s.mode < n → IsCut s text
cut zero s text h = absurd (omega arith)
cut (suc n) s text h = at_front (λ t rest less. cut n t rest less) (front_at s text) refl (front_sound s.mode s.place text)
  where
    further : ((t : Spot) (rest : List ℕ) → 2 * length rest + line_weight t.mode < n → IsCut t rest) → (f : Front) → Stands s.mode text f → IsCut s text
    further go f t =
        let less = lighter s t.piece t.rest text t.fits t.split in
        let r = go (after s t.piece) t.rest (omega (arith, less, h)) in
        record { pieces = t.piece ∷ r.pieces; rest = r.rest; fit = (subst (IsPiece s.mode t.piece) (sym r.whole) t.fits, r.fit); whole = ap (λ l. piece_bytes t.piece ++ l) r.whole ∙ t.split; last = r.last }

    at_front : ((t : Spot) (rest : List ℕ) → 2 * length rest + line_weight t.mode < n → IsCut t rest) → (f : Front) → front_at s text ≡ f → IsRight s.mode s.place text f → IsCut s text
    at_front go (Gap m) e t = further go (Gap m) t
    at_front go (Found m k) e t = further go (Found m k) t
    at_front go (Fault f) e t = record { pieces = []; rest = text; fit = tt; whole = refl; last = subst IsLast (sym e) tt }
    at_front go Finish e t = record { pieces = []; rest = text; fit = tt; whole = refl; last = subst IsLast (sym e) tt }

pub each_text : EachText
each_text text =
    let c = cut (suc (2 * length text + 0)) start text (omega arith) in
    let s = behind start c.pieces in
    answer c s refl (front_at s c.rest) refl (front_sound s.mode s.place c.rest)
  where
    answer : (c : IsCut start text) (s : Spot) → s ≡ behind start c.pieces → (f : Front) → front_at s c.rest ≡ f → IsRight s.mode s.place c.rest f → ((tokens : List Lexeme) × HasTokens text tokens) ⊎ ((fault : LexFault) × HasFault text fault)
    answer c s here (Gap m) e t = absurd (subst IsLast e (subst (λ x. IsLast (front_at x c.rest)) (sym here) c.last))
    answer c s here (Found m k) e t = absurd (subst IsLast e (subst (λ x. IsLast (front_at x c.rest)) (sym here) c.last))
    answer c s here (Fault f) e t = inr (f, record { pieces = c.pieces; rest = c.rest; fit = c.fit; whole = c.whole; shown = subst (λ x. IsFault x c.rest f) here t })
    answer c s here Finish e t = inl (
      tokens_of start c.pieces ++ end_at (place_after text) ∷ [],
      record {
        pieces = c.pieces;
        fit = subst (ArePieces start c.pieces) t.0 c.fit;
        whole = ap (spelled c.pieces) (sym t.0) ∙ c.whole;
        closed = ap (λ x. x.mode) (sym here) ∙ t.1;
        listed = refl;
      },
    )
