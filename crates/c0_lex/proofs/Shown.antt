-- A front of a text begins a text with tokens, or it shows the fault of all texts that begin so.
use Rattle.std.proofs.Common.{◌≡◌, ◌≤◌, ◌<◌, ◌+◌, ◌*◌, ℕ, zero, suc, true, false, List, [], ◌∷◌, ◌++◌, length, take, drop, None, sym, refl, ap, ◌∙◌, arith, subst, append_assoc, append-nil, length-append, inl, inr, ◌⊎◌, ⊎_elim}
use Rattle.std.specs.Prelude.{◌==◌, ◌&&◌, ◌||◌, codes, IsTrue, fold}
use Rattle.std.specs.List.{list_all}
use Rattle.std.proofs.lemmas.Bool.{and_parts, and_from, and_cases, and_left, and_right, or_cases, or_left, or_right, both_ways, not_from_false, eqb-true, cases_eq, cases_lt, false_from_ne_true}
use Rattle.std.proofs.lemmas.List.{take_at, take-append-le}
use Rattle.gc0_base.specs.declared.place.Place.{Place}
use Rattle.gc0_base.specs.Places.{moved, place_after}
use Rattle.c0_lex.specs.declared.token.Keyword.TheVariants as word
use Rattle.c0_lex.specs.declared.token.Symbol.{Symbol}
use Rattle.c0_lex.specs.declared.token.TokenKind.TheVariants as kind
use Rattle.c0_lex.specs.declared.token.Mode.{Mode}
use Rattle.c0_lex.specs.declared.token.Mode.TheVariants.{Outside, InLine, InBlock}
use Rattle.c0_lex.specs.declared.fault.LexFault.{LexFault}
use Rattle.c0_lex.specs.declared.fault.LexFault.TheVariants.{BadByte, BadNumber, BadEscape, OpenComment, OpenString, NestedAnnotation, Memory}
use Rattle.c0_lex.specs.declared.front.Front.{Front}
use Rattle.c0_lex.specs.declared.front.Front.TheVariants.{Gap, Found, Fault, Finish}
use Rattle.c0_lex.specs.Bytes.{is_not_newline, is_space, is_digit, is_word_byte, is_at_sign, begins_with, begins, ends_word}
use Rattle.c0_lex.specs.Words.{symbol_bytes, number_of, Character, plain, escape, AreCharacters, spelled_string, quoted}
use Rattle.c0_lex.specs.Pieces.{is_inside, is_digit_run, begins_comment, Closes, IsLongest, Comment, closes, comment_bytes, Piece, blank, line_comment, comment, lexeme, piece_bytes, IsPiece}
use Rattle.c0_lex.specs.Texts.{Spot, start, after, behind, spelled, ArePieces, tokens_of, end_at, begins_outcome, BeginsNothing, BeginsBadNumber, BeginsBadEscape, BeginsOpenString, BeginsOpenComment, IsFault, HasFault, FirstShown}
use Rattle.std.proofs.lemmas.Slice.Eq.{bytes_eq-Decides}
use Rattle.c0_lex.proofs.Ahead.{symbol_some, list_all_append, symbol_line, symbol_before_line, symbol_sees, prefixes}
use Rattle.c0_lex.proofs.Runs.{begins_split, begins_front, run_of}
use Rattle.c0_lex.proofs.Quotes.{spelled_append}
use Rattle.c0_lex.proofs.Faults.{never_closed}
use Rattle.c0_lex.proofs.Sound.{IsRight, front_sound}
use Rattle.c0_lex.proofs.Cuts.{front_at, line_weight, lighter, one_fault}
use Rattle.c0_lex.proofs.Numbers.{bad_grows, is_open_hexadecimal}
use Rattle.c0_lex.proofs.Unclosed.{unclosed}

-- the text is pieces up to its end, and no annotation is open there
pub record Done (s : Spot) (text : List ℕ) : Type 0 where
  pub pieces : List Piece
  pub fit : ArePieces s pieces []
  pub whole : spelled pieces [] ≡ text
  pub closed : (behind s pieces).mode ≡ Outside

pub record Faulty (s : Spot) (text : List ℕ) (f : LexFault) : Type 0 where
  pub pieces : List Piece
  pub rest : List ℕ
  pub fit : ArePieces s pieces rest
  pub whole : spelled pieces rest ≡ text
  pub shown : IsFault (behind s pieces) rest f

-- some text that begins so is done · all texts that begin so have this fault
abbrev pub Goes : Spot → List ℕ → Type 0
Goes s p = (more : List ℕ) × Done s (p ++ more)

abbrev pub Stuck : Spot → List ℕ → Type 0
Stuck s p = (f : LexFault) × ((more : List ℕ) → Faulty s (p ++ more) f)

done_push : (s : Spot) (q : Piece) (rest text : List ℕ) → IsPiece s.mode q rest → piece_bytes q ++ rest ≡ text → Done (after s q) rest → Done s text
done_push s q rest text h e d = record { pieces = q ∷ d.pieces; fit = (subst (IsPiece s.mode q) (sym d.whole) h, d.fit); whole = ap (λ l. piece_bytes q ++ l) d.whole ∙ e; closed = d.closed }

faulty_push : (s : Spot) (q : Piece) (rest text : List ℕ) (f : LexFault) → IsPiece s.mode q rest → piece_bytes q ++ rest ≡ text → Faulty (after s q) rest f → Faulty s text f
faulty_push s q rest text f h e d = record { pieces = q ∷ d.pieces; rest = d.rest; fit = (subst (IsPiece s.mode q) (sym d.whole) h, d.fit); whole = ap (λ l. piece_bytes q ++ l) d.whole ∙ e; shown = d.shown }

-- ---- behind a newline each text can be done
line_done : (mode : Mode) (place : Place) → (more : List ℕ) × Done (record { mode = mode; place = place }) (10 ∷ more)
line_done Outside place = ([], record { pieces = blank 10 ∷ []; fit = (refl, tt); whole = refl; closed = refl })
line_done InLine place = ([], record { pieces = lexeme [] kind.AnnotationEnd ∷ blank 10 ∷ []; fit = ((refl, refl), (refl, tt)); whole = refl; closed = refl })
line_done (InBlock opened) place = (codes "@*/", record { pieces = blank 10 ∷ lexeme (codes "@*/") kind.AnnotationEnd ∷ []; fit = (refl, (refl, tt)); whole = refl; closed = refl })

fits_before : (a x b more : List ℕ) → a ++ 10 ∷ x ≡ b ++ more → list_all is_not_newline b ≡ true → length b ≤ length a
fits_before a x [] more e h = omega arith
fits_before [] x (c ∷ cs) more e h = let ten : 10 ≡ c = cc in absurd (both_ways (is_not_newline c) (ap is_not_newline (sym ten)) (and_parts (is_not_newline c) (list_all is_not_newline cs) h).0)
fits_before (y ∷ ys) x (c ∷ cs) more e h =
    let rest : ys ++ 10 ∷ x ≡ cs ++ more = cc in
    let less = fits_before ys x cs more rest (and_parts (is_not_newline c) (list_all is_not_newline cs) h).1 in
    omega (arith, less)

closes_before_line : (mode : Mode) (bytes x : List ℕ) → Closes mode bytes [] → Closes mode bytes (10 ∷ x)
closes_before_line Outside bytes x h = absurd h
closes_before_line InLine bytes x h = (h.0, refl)
closes_before_line (InBlock opened) bytes x h = h

blank_before_line : (mode : Mode) (b : ℕ) (x : List ℕ) → IsPiece mode (blank b) [] → IsPiece mode (blank b) (10 ∷ x)
blank_before_line Outside b x h = h
blank_before_line InLine b x h = h
blank_before_line (InBlock opened) b x h = h

-- what ends a text may stand in front of a newline
before_line : (mode : Mode) (q : Piece) (x : List ℕ) → IsPiece mode q [] → IsPiece mode q (10 ∷ x)
before_line mode (blank b) x h = blank_before_line mode b x h
before_line mode (line_comment body) x h = (h.0, h.1, refl)
before_line mode (comment c) x h = h
before_line mode (lexeme bytes kind.Name) x h = (h.0, refl, h.2)
before_line mode (lexeme bytes (kind.Keyword k)) x h = (h.0, h.1, refl)
before_line mode (lexeme bytes (kind.Number w)) x h = (h.0, refl, h.2)
before_line mode (lexeme bytes kind.Quoted) x h = h
before_line mode (lexeme bytes (kind.Symbol s)) x h = (h.0, (λ t more e. fits_before (symbol_bytes s) x (symbol_bytes t) more e (symbol_line t)), ap (λ l. begins_comment (l ++ (10 ∷ x))) h.0 ∙ symbol_before_line s x)
before_line mode (lexeme bytes kind.Use) x h = h
before_line mode (lexeme bytes kind.AnnotationBegin) x h = h
before_line mode (lexeme bytes kind.AnnotationEnd) x h = closes_before_line mode bytes x h
before_line mode (lexeme bytes kind.End) x h = h

-- a piece, a newline, and the end
piece_done : (s : Spot) (q : Piece) → ((x : List ℕ) → IsPiece s.mode q (10 ∷ x)) → (more : List ℕ) × Done s (piece_bytes q ++ more)
piece_done s q h =
    let l = line_done (after s q).mode (after s q).place in
    (10 ∷ l.0, done_push s q (10 ∷ l.0) (piece_bytes q ++ (10 ∷ l.0)) (h l.0) refl l.1)

-- where a front is completed to a piece, it goes on
completed : (s : Spot) (p x : List ℕ) (q : Piece) → p ++ x ≡ piece_bytes q → ((y : List ℕ) → IsPiece s.mode q (10 ∷ y)) → Goes s p
completed s p x q e h =
    let d = piece_done s q h in
    (x ++ d.0, subst (Done s) (ap (λ l. l ++ d.0) (sym e) ∙ append_assoc p x d.0) d.1)

-- ---- one byte behind a piece tells that it stands there, but for `@` and `*`
abbrev IsHalf : Mode → Piece → ℕ → List ℕ → Type 0
IsHalf mode q c cs = (q ≡ blank 64) × (c ≡ 42) × (cs ≡ []) × ((opened : Place) × (mode ≡ InBlock opened))

blank_ahead : (mode : Mode) (b c : ℕ) (cs more : List ℕ) → IsPiece mode (blank b) (c ∷ cs) → IsHalf mode (blank b) c cs ⊎ IsPiece mode (blank b) (c ∷ (cs ++ more))
blank_ahead Outside b c cs more h = inr h
blank_ahead InLine b c cs more h = inr h
blank_ahead (InBlock opened) b c (d ∷ ds) more h = inr h
blank_ahead (InBlock opened) b c [] more h =
    ⊎_elim
    (λ s. inr (or_left (is_space b) _ s))
    (λ a.
    let both = and_parts (is_at_sign b) _ a in
    ⊎_elim
    (λ star. inl (ap blank (eqb-true b 64 both.0), star, refl, (opened, refl)))
    (λ other. inr (or_right (is_space b) _ (and_from (is_at_sign b) _ both.0 (not_from_false _ (false_from_ne_true _ (λ t. other (star_of more t)))))))
    (cases_eq c 42))
    (or_cases (is_space b) _ h)
  where
    star_of : (more : List ℕ) → begins (c ∷ more) (codes "*/") ≡ true → c ≡ 42
    star_of more t = let e = begins_split (c ∷ more) (codes "*/") t in cc

closes_ahead : (mode : Mode) (bytes : List ℕ) (c : ℕ) (cs more : List ℕ) → Closes mode bytes (c ∷ cs) → Closes mode bytes (c ∷ (cs ++ more))
closes_ahead Outside bytes c cs more h = h
closes_ahead InLine bytes c cs more h = h
closes_ahead (InBlock opened) bytes c cs more h = h

longest_ahead : (s : Symbol) (c : ℕ) (cs more : List ℕ) → IsLongest s (c ∷ cs) → IsLongest s (c ∷ (cs ++ more))
longest_ahead s c cs more h t rest e =
    ⊎_elim (λ longer. absurd (shorter longer)) (λ fits. fits) (cases_lt (length (symbol_bytes s)) (length (symbol_bytes t)))
  where
    shorter : length (symbol_bytes s) < length (symbol_bytes t) → ⊥
    shorter longer =
        let n = suc (length (symbol_bytes s)) in
        let u = prefixes t n (omega arith) (omega (arith, longer)) in
        let size : length (symbol_bytes s ++ c ∷ []) ≡ n = omega (arith, length-append (symbol_bytes s) (c ∷ [])) in
        let whole : symbol_bytes t ++ rest ≡ (symbol_bytes s ++ c ∷ []) ++ (cs ++ more) = sym e ∙ sym (append_assoc (symbol_bytes s) (c ∷ []) (cs ++ more)) in
        let bytes : symbol_bytes u.0 ≡ symbol_bytes s ++ c ∷ [] = u.1 ∙ sym (take-append-le n (symbol_bytes t) rest (omega (arith, longer))) ∙ ap (take n) whole ∙ take_at (symbol_bytes s ++ c ∷ []) (cs ++ more) n size in
        let less = h u.0 cs (sym (append_assoc (symbol_bytes s) (c ∷ []) cs) ∙ ap (λ l. l ++ cs) (sym bytes)) in
        let long : length (symbol_bytes u.0) ≡ n = ap length bytes ∙ size in
        omega (arith, less, long)

ahead : (mode : Mode) (q : Piece) (c : ℕ) (cs more : List ℕ) → IsPiece mode q (c ∷ cs) → IsHalf mode q c cs ⊎ IsPiece mode q (c ∷ (cs ++ more))
ahead mode (blank b) c cs more h = blank_ahead mode b c cs more h
ahead mode (line_comment body) c cs more h = inr h
ahead mode (comment d) c cs more h = inr h
ahead mode (lexeme bytes kind.Name) c cs more h = inr h
ahead mode (lexeme bytes (kind.Keyword k)) c cs more h = inr h
ahead mode (lexeme bytes (kind.Number w)) c cs more h = inr h
ahead mode (lexeme bytes kind.Quoted) c cs more h = inr h
ahead mode (lexeme bytes (kind.Symbol s)) c cs more h = inr (h.0, longest_ahead s c cs more h.1, ap (λ l. begins_comment (l ++ (c ∷ (cs ++ more)))) h.0 ∙ symbol_sees s c (cs ++ more) cs ∙ ap (λ l. begins_comment (l ++ (c ∷ cs))) (sym h.0) ∙ h.2)
ahead mode (lexeme bytes kind.Use) c cs more h = inr h
ahead mode (lexeme bytes kind.AnnotationBegin) c cs more h = inr h
ahead mode (lexeme bytes kind.AnnotationEnd) c cs more h = inr (closes_ahead mode bytes c cs more h)
ahead mode (lexeme bytes kind.End) c cs more h = absurd h

-- `@*` in a block annotation
half_goes : (opened place : Place) → Goes (record { mode = InBlock opened; place = place }) (64 ∷ 42 ∷ [])
half_goes opened place = (
  10 ∷ codes "@*/",
  record {
    pieces = blank 64 ∷ lexeme (codes "*") (kind.Symbol Rattle.c0_lex.specs.declared.token.Symbol.TheVariants.Star) ∷ blank 10 ∷ lexeme (codes "@*/") kind.AnnotationEnd ∷ [];
    fit = (refl, ((refl, (λ t more e. fits_before (codes "*") (codes "@*/") (symbol_bytes t) more e (symbol_line t)), refl), (refl, (refl, tt))));
    whole = refl;
    closed = refl;
  },
)

-- ---- what a fault at the front shows
-- a word that a front begins, or does not
completes : (p w : List ℕ) → ((x : List ℕ) × (p ++ x ≡ w)) ⊎ ((more : List ℕ) → begins (p ++ more) w ≡ begins p w)
completes [] w = inl (w, refl)
completes (b ∷ bs) [] = inr (λ more. refl)
completes (b ∷ bs) (w ∷ ws) =
    elim (w == b) as (λ t. (w == b) ≡ t → ((x : List ℕ) × (b ∷ (bs ++ x) ≡ w ∷ ws)) ⊎ ((more : List ℕ) → begins (b ∷ (bs ++ more)) (w ∷ ws) ≡ begins (b ∷ bs) (w ∷ ws))) [
      | true ↦ λ e. ⊎_elim (λ (x, s). let same : b ≡ w = sym (eqb-true w b e) in inl (x, ap (λ l. b ∷ l) s ∙ ap (λ y. y ∷ ws) same)) (λ g. inr (λ more. ap (λ t. (w == b) && t) (g more))) (completes bs ws)
      | false ↦ λ e. inr (λ more. and_left (w == b) (begins (bs ++ more) ws) e ∙ sym (and_left (w == b) (begins bs ws) e))
    ] refl

-- no symbol begins with this byte
no_symbol_ahead : (b : ℕ) (more0 more : List ℕ) → ((s : Symbol) (rest : List ℕ) → b ∷ more0 ≡ symbol_bytes s ++ rest → ⊥) → (s : Symbol) (rest : List ℕ) → b ∷ more ≡ symbol_bytes s ++ rest → ⊥
no_symbol_ahead b more0 more none s rest e =
    let some : 1 ≤ length (symbol_bytes s) = symbol_some s in
    let u = prefixes s 1 (omega arith) some in
    let bytes : symbol_bytes u.0 ≡ b ∷ [] = u.1 ∙ sym (take-append-le 1 (symbol_bytes s) rest some) ∙ ap (take 1) (sym e) in
    none u.0 more0 (ap (λ l. l ++ more0) (sym bytes))

word_ends_ahead : (d more : List ℕ) → ends_word d ≡ false → ends_word (d ++ more) ≡ false
word_ends_ahead [] more e = absurd cc
word_ends_ahead (c ∷ cs) more e = e

outcome_ahead : (p more : List ℕ) → begins (p ++ more) (92 ∷ codes "result") ≡ begins p (92 ∷ codes "result") → begins_outcome p ≡ false → begins_outcome (p ++ more) ≡ false
outcome_ahead p more g h =
    ⊎_elim
    (λ n. and_left _ _ (g ∙ n))
    (λ n.
    elim (begins p (92 ∷ codes "result")) as (λ t. begins p (92 ∷ codes "result") ≡ t → begins_outcome (p ++ more) ≡ false) [
      | false ↦ λ e. and_left _ _ (g ∙ e)
      | true ↦ λ e.
          let split = begins_split p (92 ∷ codes "result") e in
          let left : drop 7 (p ++ more) ≡ drop 7 p ++ more = ap (λ l. drop 7 (l ++ more)) split in
          and_right _ _ (ap ends_word left ∙ word_ends_ahead (drop 7 p) more n)
    ] refl)
    (and_cases (begins p (92 ∷ codes "result")) (ends_word (drop 7 p)) h)

nothing_sticks : (mode : Mode) (place : Place) (p : List ℕ) (b : ℕ) (more0 : List ℕ) → BeginsNothing mode p b more0 → ((more : List ℕ) → begins (p ++ more) (codes "#use") ≡ begins p (codes "#use")) → ((more : List ℕ) → (is_inside mode && begins_outcome (p ++ more)) ≡ false) → Stuck (record { mode = mode; place = place }) p
nothing_sticks mode place p b more0 h u o = (
  BadByte place,
  λ more.
      let whole : p ++ more ≡ b ∷ (more0 ++ more) = ap (λ l. l ++ more) h.split in
      record {
        pieces = [];
        rest = p ++ more;
        fit = tt;
        whole = refl;
        shown = (
          refl,
          (
            b,
            more0 ++ more,
            record {
              split = whole;
              space = h.space;
              word = h.word;
              quote = h.quote;
              sign = h.sign;
              use_word = u more ∙ h.use_word;
              outcome = o more;
              symbol = λ s rest e. no_symbol_ahead b more0 (more0 ++ more) (λ t r f. h.symbol t r (h.split ∙ f)) s rest (sym whole ∙ e);
            },
          ),
        );
      },
)

nothing_shown : (mode : Mode) (place : Place) (p : List ℕ) (b : ℕ) (more0 : List ℕ) → BeginsNothing mode p b more0 → Goes (record { mode = mode; place = place }) p ⊎ Stuck (record { mode = mode; place = place }) p
nothing_shown mode place p b more0 h =
    ⊎_elim
    (λ (x, e). inl (completed (record { mode = mode; place = place }) p x (lexeme (codes "#use") kind.Use) e (λ y. refl)))
    (λ u.
    elim (is_inside mode) as (λ t. is_inside mode ≡ t → Goes (record { mode = mode; place = place }) p ⊎ Stuck (record { mode = mode; place = place }) p) [
      | false ↦ λ i. inr (nothing_sticks mode place p b more0 h u (λ more. and_left (is_inside mode) _ i))
      | true ↦ λ i.
          ⊎_elim
          (λ (x, e). inl (completed (record { mode = mode; place = place }) p x (lexeme (92 ∷ codes "result") (kind.Keyword word.Outcome)) e (λ y. (refl, or_left (is_inside mode) false i, refl))))
          (λ g. inr (nothing_sticks mode place p b more0 h u (λ more. and_right (is_inside mode) _ (outcome_ahead p more (g more) (⊎_elim (λ n. absurd (both_ways (is_inside mode) n i)) (λ n. n) (and_cases (is_inside mode) (begins_outcome p) h.outcome))))))
          (completes p (92 ∷ codes "result"))
    ] refl)
    (completes p (codes "#use"))

-- ---- numbers
number_grows : (s : Spot) (p run : List ℕ) → p ≡ run → IsTrue (is_digit_run run) → number_of run ≡ None → is_open_hexadecimal run ≡ false → Stuck s p
number_grows s p run e h n o = (
  BadNumber s.place,
  λ more.
      let both = and_parts (begins_with is_digit run) (list_all is_word_byte run) h in
      let r = run_of more in
      record {
        pieces = [];
        rest = p ++ more;
        fit = tt;
        whole = refl;
        shown = (
          refl,
          (
            run ++ r.bytes,
            r.rest,
            record {
              split = ap (λ l. l ++ more) e ∙ ap (λ l. run ++ l) (sym r.split) ∙ sym (append_assoc run r.bytes r.rest);
              digits = and_from _ _ (begins_front_of run r.bytes both.0) (all_append run r.bytes both.1 r.each);
              whole = r.ends;
              none = bad_grows run r.bytes both.0 n o;
            },
          ),
        );
      },
)
  where
    begins_front_of : (xs ys : List ℕ) → begins_with is_digit xs ≡ true → begins_with is_digit (xs ++ ys) ≡ true
    begins_front_of [] ys e = absurd cc
    begins_front_of (x ∷ xs) ys e = e

    all_append : (xs ys : List ℕ) → list_all is_word_byte xs ≡ true → list_all is_word_byte ys ≡ true → list_all is_word_byte (xs ++ ys) ≡ true
    all_append xs ys a b = list_all_append is_word_byte xs ys a b

number_shown : (s : Spot) (p run rest : List ℕ) → BeginsBadNumber p run rest → Goes s p ⊎ Stuck s p
number_shown s p run (c ∷ cs) h = inr (
  BadNumber s.place,
  λ more. record {
    pieces = [];
    rest = p ++ more;
    fit = tt;
    whole = refl;
    shown = (refl, (run, c ∷ (cs ++ more), record { split = ap (λ l. l ++ more) h.split ∙ append_assoc run (c ∷ cs) more; digits = h.digits; whole = h.whole; none = h.none }));
  },
)
number_shown s p run [] h =
    let same : p ≡ run = h.split ∙ append-nil run in
    elim (is_open_hexadecimal run) as (λ t. is_open_hexadecimal run ≡ t → Goes s p ⊎ Stuck s p) [
      | false ↦ λ o. inr (number_grows s p run same h.digits h.none o)
      | true ↦ λ o.
          ⊎_elim
          (λ x. inl (completed s p (48 ∷ []) (lexeme (codes "0x0") (kind.Number (record { 0 = 0 }))) (ap (λ l. l ++ 48 ∷ []) (same ∙ (bytes_eq-Decides run (codes "0x")).0 x)) (λ y. (refl, refl, refl))))
          (λ x. inl (completed s p (48 ∷ []) (lexeme (codes "0X0") (kind.Number (record { 0 = 0 }))) (ap (λ l. l ++ 48 ∷ []) (same ∙ (bytes_eq-Decides run (codes "0X")).0 x)) (λ y. (refl, refl, refl))))
          (or_cases _ _ o)
    ] refl

-- ---- strings
spelled_more : (cs : List Character) (c : Character) (rest : List ℕ) → spelled_string (cs ++ c ∷ []) rest ≡ spelled_string cs (spelled_string (c ∷ []) rest)
spelled_more [] c rest = refl
spelled_more (plain b ∷ cs) c rest = ap (λ l. b ∷ l) (spelled_more cs c rest)
spelled_more (escape a v ∷ cs) c rest = ap (λ l. 92 ∷ a ∷ l) (spelled_more cs c rest)

characters_more : (cs : List Character) → AreCharacters cs → AreCharacters (cs ++ escape 110 10 ∷ [])
characters_more [] h = (refl, tt)
characters_more (c ∷ cs) h = (h.0, characters_more cs h.1)

escape_shown : (s : Spot) (p : List ℕ) (cs : List Character) (rest : List ℕ) → BeginsBadEscape p cs rest → Goes s p ⊎ Stuck s p
escape_shown s p cs (c ∷ ds) h = inr (
  BadEscape (fold moved s.place (34 ∷ spelled_string cs [])),
  λ more. record {
    pieces = [];
    rest = p ++ more;
    fit = tt;
    whole = refl;
    shown = (cs, c ∷ (ds ++ more), record { split = ap (λ l. l ++ more) h.split ∙ ap (λ l. 34 ∷ l) (spelled_append cs (92 ∷ c ∷ ds) more); characters = h.characters; none = h.none }, refl);
  },
)
escape_shown s p cs [] h =
    let ds = cs ++ escape 110 10 ∷ [] in
    inl (completed s p (110 ∷ 34 ∷ []) (lexeme (quoted ds) kind.Quoted)
    (ap (λ l. l ++ 110 ∷ 34 ∷ []) h.split ∙ ap (λ l. 34 ∷ l) (spelled_append cs (92 ∷ []) (110 ∷ 34 ∷ []) ∙ sym (spelled_more cs (escape 110 10) (34 ∷ []))))
    (λ y. (ds, characters_more cs h.characters, refl)))

string_shown : (s : Spot) (p : List ℕ) (cs : List Character) (rest : List ℕ) → BeginsOpenString p cs rest → Goes s p ⊎ Stuck s p
string_shown s p cs (c ∷ ds) h = inr (
  OpenString s.place,
  λ more. record {
    pieces = [];
    rest = p ++ more;
    fit = tt;
    whole = refl;
    shown = (refl, (cs, c ∷ (ds ++ more), record { split = ap (λ l. l ++ more) h.split ∙ ap (λ l. 34 ∷ l) (spelled_append cs (c ∷ ds) more); characters = h.characters; none = h.none }));
  },
)
string_shown s p cs [] h =
    inl (completed s p (34 ∷ []) (lexeme (quoted cs) kind.Quoted)
    (ap (λ l. l ++ 34 ∷ []) h.split ∙ ap (λ l. 34 ∷ l) (spelled_append cs [] (34 ∷ [])))
    (λ y. (cs, h.characters, refl)))

-- ---- comments and annotations
sign_of_front : (body more : List ℕ) (c : Comment) → body ++ more ≡ comment_bytes c → begins_with is_at_sign body ≡ false → ((body ≡ []) ⊎ (begins_with is_at_sign (comment_bytes c) ≡ false))
sign_of_front [] more c e h = inl refl
sign_of_front (b ∷ bs) more c e h = inr (ap (begins_with is_at_sign) (sym e) ∙ h)

comment_shown : (s : Spot) (p body : List ℕ) → BeginsOpenComment p body → Goes s p
comment_shown s p body h =
    let u = unclosed body 0 (never_closed body h.open_comment) in
    ⊎_elim
    (λ none. completed s p (codes "*/") (comment closes) (ap (λ l. l ++ codes "*/") (h.split ∙ ap (λ l. 47 ∷ 42 ∷ l) none)) (λ y. (tt, refl)))
    (λ sign. completed s p u.0 (comment u.1.0) (ap (λ l. l ++ u.0) h.split ∙ ap (λ l. 47 ∷ 42 ∷ l) u.1.2) (λ y. (u.1.1, sign)))
    (sign_of_front body u.0 u.1.0 u.1.2 h.sign)

begins_ahead : (p w more : List ℕ) → begins p w ≡ true → begins (p ++ more) w ≡ true
begins_ahead p w more e = begins_front (p ++ more) w (drop (length w) p ++ more) (ap (λ l. l ++ more) (begins_split p w e) ∙ append_assoc w (drop (length w) p) more)

nested_shown : (s : Spot) (p : List ℕ) → is_inside s.mode ≡ true → (begins p (codes "//@") || begins p (codes "/*@")) ≡ true → Stuck s p
nested_shown s p i h = (
  NestedAnnotation s.place,
  λ more. record {
    pieces = [];
    rest = p ++ more;
    fit = tt;
    whole = refl;
    shown = (refl, i, ⊎_elim (λ l. or_left _ _ (begins_ahead p (codes "//@") more l)) (λ l. or_right _ _ (begins_ahead p (codes "/*@") more l)) (or_cases _ _ h));
  },
)

open_shown : (mode : Mode) (place at : Place) → mode ≡ InBlock at → Goes (record { mode = mode; place = place }) []
open_shown mode place at e = (codes "@*/", subst (λ m. Done (record { mode = m; place = place }) (codes "@*/")) (sym e) (record { pieces = lexeme (codes "@*/") kind.AnnotationEnd ∷ []; fit = (refl, tt); whole = refl; closed = refl }))

fault_shown : (mode : Mode) (place : Place) (p : List ℕ) (f : LexFault) → IsFault (record { mode = mode; place = place }) p f → Goes (record { mode = mode; place = place }) p ⊎ Stuck (record { mode = mode; place = place }) p
fault_shown mode place p (BadByte at) (e, (b, more, h)) = nothing_shown mode place p b more h
fault_shown mode place p (BadNumber at) (e, (run, rest, h)) = number_shown (record { mode = mode; place = place }) p run rest h
fault_shown mode place p (BadEscape at) (cs, rest, h, e) = escape_shown (record { mode = mode; place = place }) p cs rest h
fault_shown mode place p (OpenString at) (e, (cs, rest, h)) = string_shown (record { mode = mode; place = place }) p cs rest h
fault_shown mode place p (OpenComment at) (inl (e, (body, h))) = inl (comment_shown (record { mode = mode; place = place }) p body h)
fault_shown mode place p (OpenComment at) (inr (t, m)) = inl (subst (Goes (record { mode = mode; place = place })) (sym t) (open_shown mode place at m))
fault_shown mode place p (NestedAnnotation at) (e, i, h) = inr (nested_shown (record { mode = mode; place = place }) p i h)
fault_shown mode place p Memory h = absurd h

-- ---- a front goes on, or it is stuck
abbrev Either : Spot → List ℕ → Type 0
Either s p = Goes s p ⊎ Stuck s p

half_either : (s : Spot) (q : Piece) (c : ℕ) (cs p : List ℕ) → piece_bytes q ++ (c ∷ cs) ≡ p → IsHalf s.mode q c cs → Either s p
half_either s q c cs p e (same, star, none, (opened, block)) =
    let whole : 64 ∷ 42 ∷ [] ≡ p = sym (ap (λ x. piece_bytes x ++ (c ∷ cs)) same ∙ ap (λ x. 64 ∷ x ∷ cs) star ∙ ap (λ x. 64 ∷ 42 ∷ x) none) ∙ e in
    inl (subst (Goes s) whole (subst (λ m. Goes (record { mode = m; place = s.place }) (64 ∷ 42 ∷ [])) (sym block) (half_goes opened s.place)))

-- behind a piece that is followed by a byte
piece_either : (s : Spot) (q : Piece) (c : ℕ) (cs p : List ℕ) → piece_bytes q ++ (c ∷ cs) ≡ p → IsPiece s.mode q (c ∷ cs) → Either (after s q) (c ∷ cs) → Either s p
piece_either s q c cs p e h (inl (more, d)) =
    ⊎_elim
    (λ half. half_either s q c cs p e half)
    (λ fits. inl (more, done_push s q (c ∷ (cs ++ more)) (p ++ more) fits (sym (append_assoc (piece_bytes q) (c ∷ cs) more) ∙ ap (λ l. l ++ more) e) d))
    (ahead s.mode q c cs more h)
piece_either s q c cs p e h (inr (f, stuck)) =
    ⊎_elim
    (λ half. half_either s q c cs p e half)
    (λ none. inr (f, λ more. ⊎_elim (λ half. absurd (none half)) (λ fits. faulty_push s q (c ∷ (cs ++ more)) (p ++ more) f fits (sym (append_assoc (piece_bytes q) (c ∷ cs) more) ∙ ap (λ l. l ++ more) e) (stuck more)) (ahead s.mode q c cs more h)))
    (half_or s.mode q c cs h)
  where
    half_or : (mode : Mode) (q : Piece) (c : ℕ) (cs : List ℕ) → IsPiece mode q (c ∷ cs) → IsHalf mode q c cs ⊎ (IsHalf mode q c cs → ⊥)
    half_or Outside q c cs h = inr (λ (a, b, d, (o, m)). absurd cc)
    half_or InLine q c cs h = inr (λ (a, b, d, (o, m)). absurd cc)
    half_or (InBlock opened) (line_comment body) c cs h = inr (λ (a, b, d, (o, m)). absurd cc)
    half_or (InBlock opened) (comment k) c cs h = inr (λ (a, b, d, (o, m)). absurd cc)
    half_or (InBlock opened) (lexeme bytes k) c cs h = inr (λ (a, b, d, (o, m)). absurd cc)
    half_or (InBlock opened) (blank b) c (d ∷ ds) h = inr (λ (a, b, e, (o, m)). absurd cc)
    half_or (InBlock opened) (blank b) c [] h =
        ⊎_elim
        (λ sign. ⊎_elim (λ star. inl (ap blank sign, star, refl, (opened, refl))) (λ other. inr (λ (a, b, e, (o, m)). other b)) (cases_eq c 42))
        (λ other. inr (λ (a, b, e, (o, m)). other cc))
        (cases_eq b 64)

front_either : (n : ℕ) (s : Spot) (p : List ℕ) → 2 * length p + line_weight s.mode < n → Either s p
front_either zero s p h = absurd (omega arith)
front_either (suc n) s p h = by_front s p (front_at s p) (front_sound s.mode s.place p) (λ q rest fits split. front_either n (after s q) rest (nearer s q rest p fits split h))
  where
    nearer : (s : Spot) (q : Piece) (rest p : List ℕ) → IsPiece s.mode q rest → piece_bytes q ++ rest ≡ p → 2 * length p + line_weight s.mode < suc n → 2 * length rest + line_weight (after s q).mode < n
    nearer s q rest p fits split h = let less = lighter s q rest p fits split in omega (arith, less, h)

    behind_piece : (s : Spot) (p : List ℕ) (q : Piece) (rest : List ℕ) → piece_bytes q ++ rest ≡ p → IsPiece s.mode q rest → Either (after s q) rest → Either s p
    behind_piece s p q [] split fits next =
        let whole : p ++ [] ≡ piece_bytes q = append-nil p ∙ sym split ∙ append-nil (piece_bytes q) in
        inl (completed s p [] q whole (λ y. before_line s.mode q y fits))
    behind_piece s p q (c ∷ cs) split fits next = piece_either s q c cs p split fits next

    by_front : (s : Spot) (p : List ℕ) (f : Front) → IsRight s.mode s.place p f → ((q : Piece) (rest : List ℕ) → IsPiece s.mode q rest → piece_bytes q ++ rest ≡ p → Either (after s q) rest) → Either s p
    by_front s p (Gap m) r go = behind_piece s p r.piece r.rest r.split r.fits (go r.piece r.rest r.fits r.split)
    by_front s p (Found m k) r go = behind_piece s p r.piece r.rest r.split r.fits (go r.piece r.rest r.fits r.split)
    by_front s p (Fault f) r go = fault_shown s.mode s.place p f r
    by_front s p Finish r go = inl ([], record { pieces = []; fit = tt; whole = sym (ap (λ l. l ++ []) r.0); closed = r.1 })

pub first_shown : FirstShown
first_shown text f h p rest e none more =
    ⊎_elim
    (λ (x, d). absurd (none x (tokens_of start d.pieces ++ end_at (place_after (p ++ x)) ∷ []) (record { pieces = d.pieces; fit = d.fit; whole = d.whole; closed = d.closed; listed = refl })))
    (λ (g, stuck).
    let here : HasFault (p ++ rest) g = found (p ++ rest) g (stuck rest) in
    let same : g ≡ f = one_fault text g f (subst (λ l. HasFault l g) (sym e) here) h in
    subst (HasFault (p ++ more)) same (found (p ++ more) g (stuck more)))
    (front_either (suc (2 * length p + 0)) start p (omega arith))
  where
    found : (l : List ℕ) (g : LexFault) → Faulty start l g → HasFault l g
    found l g k = record { pieces = k.pieces; rest = k.rest; fit = k.fit; whole = k.whole; shown = k.shown }
