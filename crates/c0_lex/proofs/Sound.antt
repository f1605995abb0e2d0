-- What is found at the front of a text stands there.
use Rattle.std.proofs.Common.{◌≡◌, ◌≤◌, ◌+◌, ℕ, suc, Bool, true, false, List, [], ◌∷◌, ◌++◌, length, take, drop, Option, Some, None, sym, refl, ap, ◌∙◌, cond, arith, subst, take-append-drop, inl, inr, ⊎_elim}
use Rattle.std.specs.Prelude.{◌==◌, ◌&&◌, ◌||◌, not, codes, fold}
use Rattle.std.specs.List.{list_all}
use Rattle.std.proofs.lemmas.Bool.{and_parts, and_from, and_right, or_cases, or_parts, both_ways, not_from_false, cond-false, cond_both, eqb-true}
use Rattle.std.proofs.lemmas.List.{take_at}
use Rattle.gc0_base.specs.declared.place.Place.{Place}
use Rattle.gc0_base.specs.Places.{moved}
use Rattle.c0_lex.specs.declared.token.Keyword.{Keyword}
use Rattle.c0_lex.specs.declared.token.Keyword.TheVariants as word
use Rattle.c0_lex.specs.declared.token.Symbol.{Symbol}
use Rattle.c0_lex.specs.declared.token.TokenKind.{TokenKind}
use Rattle.c0_lex.specs.declared.token.TokenKind.TheVariants as kind
use Rattle.c0_lex.specs.declared.token.Mode.{Mode}
use Rattle.c0_lex.specs.declared.token.Mode.TheVariants.{Outside, InLine, InBlock}
use Rattle.c0_lex.specs.declared.fault.LexFault.TheVariants.{BadByte}
use Rattle.c0_lex.specs.declared.front.Front.{Front}
use Rattle.c0_lex.specs.declared.front.Front.TheVariants.{Gap, Found, Fault, Finish}
use Rattle.c0_lex.specs.declared.strings.StringEnd.{StringEnd}
use Rattle.c0_lex.specs.declared.strings.StringEnd.TheVariants.{Closed, Escape, Open}
use Rattle.c0_lex.specs.Bytes.{is_newline, is_not_newline, is_space, is_digit, is_letter, is_word_byte, is_quote, is_at_sign, begins_with, begins, ends_word}
use Rattle.c0_lex.specs.Words.{keyword_bytes, is_annotation_word, symbol_bytes, number_of, spelled_string, quoted}
use Rattle.c0_lex.specs.Pieces.{is_inside, comment_bytes, is_in_force, begins_comment, Piece, blank, line_comment, comment, lexeme, piece_bytes, IsPiece}
use Rattle.c0_lex.specs.Texts.{begins_outcome, IsFault}
use Rattle.c0_lex.specs.Scan.{front, number_front, word_kind, keyword_kind, keyword_among, code_words, annotation_words, symbol_among, singles, pairs, triples, symbol_found, symbol_front, line_length, comment_length, comment_found, comment_front, annotation_front, at_front, string_end, string_found, space_front, mark_front}
use Rattle.c0_lex.proofs.Spellings.{among_is, among_all, is_outcome, keyword_found, symbol_among_is, symbol_among_all, of_one, of_two, of_three, sized, symbol_is_no_sign}
use Rattle.c0_lex.proofs.Runs.{begins_split, run_of, line_of, line_run}
use Rattle.c0_lex.proofs.Quotes.{length_spelled, spelled_append, IsEnd, string_sound}
use Rattle.c0_lex.proofs.Nesting.{comment_sound, IfLeads, comment_ends_there}
use Rattle.c0_lex.proofs.Fronts.{piece_front, word_piece, some_sign, outcome_is}
use Rattle.c0_lex.proofs.Faults.{and_swap}

-- a piece stands at the front of the text, and is found as this
pub record Stands (mode : Mode) (text : List ℕ) (found : Front) : Type 0 where
  pub piece : Piece
  pub rest : List ℕ
  pub split : piece_bytes piece ++ rest ≡ text
  pub fits : IsPiece mode piece rest
  pub seen : piece_front piece ≡ found

abbrev pub IsRight : Mode → Place → List ℕ → Front → Type 0
IsRight mode place text (Gap n) = Stands mode text (Gap n)
IsRight mode place text (Found n k) = Stands mode text (Found n k)
IsRight mode place text (Fault f) = IsFault (record { mode = mode; place = place }) text f
IsRight mode place text Finish = (text ≡ []) × (mode ≡ Outside)

-- ---- words
abbrev IsWordKind : Bool → List ℕ → TokenKind → Type 0
IsWordKind inside bytes kind.Name = word_kind inside bytes ≡ kind.Name
IsWordKind inside bytes (kind.Keyword k) = (bytes ≡ keyword_bytes k) × ((inside || not (is_annotation_word k)) ≡ true)
IsWordKind inside bytes (kind.Number w) = ⊥
IsWordKind inside bytes kind.Quoted = ⊥
IsWordKind inside bytes (kind.Symbol s) = ⊥
IsWordKind inside bytes kind.Use = ⊥
IsWordKind inside bytes kind.AnnotationBegin = ⊥
IsWordKind inside bytes kind.AnnotationEnd = ⊥
IsWordKind inside bytes kind.End = ⊥

or_either : (x y : Bool) → y ≡ true → (x || y) ≡ true
or_either true y e = refl
or_either false y e = e

word_kind_sound : (inside : Bool) (bytes : List ℕ) → IsWordKind inside bytes (word_kind inside bytes)
word_kind_sound inside bytes =
    elim (keyword_among code_words bytes) as (λ o. keyword_among code_words bytes ≡ o → IsWordKind inside bytes (keyword_kind o (cond inside (keyword_kind (keyword_among annotation_words bytes) kind.Name) kind.Name))) [
      | Some k ↦ λ e. (among_is code_words bytes k e, or_either inside (not (is_annotation_word k)) (among_all (λ k. not (is_annotation_word k)) code_words bytes k refl e))
      | None ↦ λ e. noted inside e
    ] refl
  where
    noted : (i : Bool) → keyword_among code_words bytes ≡ None → IsWordKind i bytes (cond i (keyword_kind (keyword_among annotation_words bytes) kind.Name) kind.Name)
    noted false e = ap (λ o. keyword_kind o kind.Name) e
    noted true e =
        elim (keyword_among annotation_words bytes) as (λ o. keyword_among annotation_words bytes ≡ o → IsWordKind true bytes (keyword_kind o kind.Name)) [
          | Some k ↦ λ f. (among_is annotation_words bytes k f, refl)
          | None ↦ λ f. ap (λ o. keyword_kind o (keyword_kind (keyword_among annotation_words bytes) kind.Name)) e ∙ ap (λ o. keyword_kind o kind.Name) f
        ] refl

-- what is found as a name is no keyword in force
name_differs : (inside : Bool) (bytes : List ℕ) → begins_with is_letter bytes ≡ true → word_kind inside bytes ≡ kind.Name → (k : Keyword) → (inside || not (is_annotation_word k)) ≡ true → bytes ≡ keyword_bytes k → ⊥
name_differs inside bytes h e k f same =
    elim (is_outcome k) as (λ t. is_outcome k ≡ t → ⊥) [
      | true ↦ λ o. let slash : begins_with is_letter bytes ≡ false = ap (begins_with is_letter) same ∙ ap (λ q. begins_with is_letter (keyword_bytes q)) (outcome_is k o) in both_ways _ slash h
      | false ↦ λ o. let found : word_kind inside bytes ≡ kind.Keyword k = ap (word_kind inside) same ∙ keyword_found inside k o f in cc
    ] refl

begins_word : (bytes : List ℕ) → begins_with is_word_byte bytes ≡ true → begins_with is_digit bytes ≡ false → begins_with is_letter bytes ≡ true
begins_word [] e f = absurd cc
begins_word (b ∷ bs) e f = ⊎_elim (λ d. absurd (both_ways (is_digit b) f d)) (λ l. l) (or_cases (is_digit b) (is_letter b) e)

-- a run of word bytes, in front of its rest
run_sound : (mode : Mode) (place : Place) (bytes rest : List ℕ) → begins_with is_word_byte bytes ≡ true → list_all is_word_byte bytes ≡ true → ends_word rest ≡ true → IsRight mode place (bytes ++ rest) (cond (begins_with is_digit bytes) (number_front place (length bytes) (number_of bytes)) (Found (length bytes) (word_kind (is_inside mode) bytes)))
run_sound mode place bytes rest b h e =
    cond_both (begins_with is_digit bytes) _ _ (IsRight mode place (bytes ++ rest))
    (λ d. number d)
    (λ d. as_word (begins_word bytes b d) (word_kind (is_inside mode) bytes) refl (word_kind_sound (is_inside mode) bytes))
  where
    number : begins_with is_digit bytes ≡ true → IsRight mode place (bytes ++ rest) (number_front place (length bytes) (number_of bytes))
    number d =
        let run = and_from (begins_with is_digit bytes) (list_all is_word_byte bytes) d h in
        elim (number_of bytes) as (λ o. number_of bytes ≡ o → IsRight mode place (bytes ++ rest) (number_front place (length bytes) o)) [
          | Some n ↦ λ f. record { piece = lexeme bytes (kind.Number (record { 0 = n })); rest = rest; split = refl; fits = (run, e, f); seen = refl }
          | None ↦ λ f. (refl, (bytes, rest, record { split = refl; digits = run; whole = e; none = f }))
        ] refl

    as_word : begins_with is_letter bytes ≡ true → (k : TokenKind) → word_kind (is_inside mode) bytes ≡ k → IsWordKind (is_inside mode) bytes k → IsRight mode place (bytes ++ rest) (Found (length bytes) k)
    as_word l kind.Name same w = record { piece = lexeme bytes kind.Name; rest = rest; split = refl; fits = (and_from (begins_with is_letter bytes) (list_all is_word_byte bytes) l h, e, name_differs (is_inside mode) bytes l same); seen = refl }
    as_word l (kind.Keyword k) same w = record { piece = lexeme bytes (kind.Keyword k); rest = rest; split = refl; fits = (w.0, w.1, e); seen = refl }
    as_word l (kind.Number n) same w = absurd w
    as_word l kind.Quoted same w = absurd w
    as_word l (kind.Symbol s) same w = absurd w
    as_word l kind.Use same w = absurd w
    as_word l kind.AnnotationBegin same w = absurd w
    as_word l kind.AnnotationEnd same w = absurd w
    as_word l kind.End same w = absurd w

word_sound : (mode : Mode) (place : Place) (b : ℕ) (bs : List ℕ) → is_word_byte b ≡ true → IsRight mode place (b ∷ bs) (front mode place (b ∷ bs))
word_sound mode place b bs e =
    let r = run_of bs in
    let each = and_from (is_word_byte b) (list_all is_word_byte r.bytes) e r.each in
    subst (λ t. IsRight mode place (b ∷ t) (front mode place (b ∷ t))) r.split
    (subst (IsRight mode place (b ∷ (r.bytes ++ r.rest))) (sym (word_piece mode place (b ∷ r.bytes) r.rest e each r.ends)) (run_sound mode place (b ∷ r.bytes) r.rest e each r.ends))

-- ---- white space
space_sound : (mode : Mode) (place : Place) (b : ℕ) (bs : List ℕ) → is_space b ≡ true → IsRight mode place (b ∷ bs) (space_front mode b)
space_sound Outside place b bs e = record { piece = blank b; rest = bs; split = refl; fits = e; seen = refl }
space_sound (InBlock opened) place b bs e = record { piece = blank b; rest = bs; split = refl; fits = or_first (is_space b) _ e; seen = refl }
  where
    or_first : (x y : Bool) → x ≡ true → (x || y) ≡ true
    or_first true y e = refl
    or_first false y e = cc
space_sound InLine place b bs e =
    cond_both (is_newline b) _ _ (IsRight InLine place (b ∷ bs))
    (λ n. record { piece = lexeme [] kind.AnnotationEnd; rest = b ∷ bs; split = refl; fits = (refl, n); seen = refl })
    (λ n. record { piece = blank b; rest = bs; split = refl; fits = or_first (is_space b && is_not_newline b) _ (and_from (is_space b) (is_not_newline b) e (not_from_false (is_newline b) n)); seen = refl })
  where
    or_first : (x y : Bool) → x ≡ true → (x || y) ≡ true
    or_first true y e = refl
    or_first false y e = cc

-- ---- strings
string_right : (mode : Mode) (place : Place) (bs : List ℕ) (s : StringEnd) → IsEnd bs s → IsRight mode place (34 ∷ bs) (string_found place (34 ∷ bs) s)
string_right mode place bs (Closed n) e =
    let size : length (quoted e.cs) ≡ n + 1 = omega (arith, length_spelled e.cs (34 ∷ []), e.size) in
    record {
      piece = lexeme (quoted e.cs) kind.Quoted;
      rest = e.rest;
      split = ap (λ l. 34 ∷ l) (spelled_append e.cs (34 ∷ []) e.rest ∙ sym e.split);
      fits = (e.cs, e.characters, refl);
      seen = ap (λ n. Found n kind.Quoted) size;
    }
string_right mode place bs (Escape n) e =
    let head = 34 ∷ spelled_string e.cs [] in
    let size : length head ≡ n + 1 = omega (arith, length_spelled e.cs [], e.size) in
    let whole : 34 ∷ bs ≡ head ++ 92 ∷ e.rest = ap (λ l. 34 ∷ l) (e.split ∙ sym (spelled_append e.cs [] (92 ∷ e.rest))) in
    (e.cs, e.rest, record { split = ap (λ l. 34 ∷ l) e.split; characters = e.characters; none = e.after }, ap (fold moved place) (ap (take (n + 1)) whole ∙ take_at head (92 ∷ e.rest) (n + 1) size))
string_right mode place bs Open e = (refl, (e.1.cs, e.1.rest, record { split = ap (λ l. 34 ∷ l) e.1.split; characters = e.1.characters; none = e.1.after }))

-- ---- annotations and comments
opening_sound : (mode : Mode) (place : Place) (text : List ℕ) → (begins text (codes "//@") || begins text (codes "/*@")) ≡ true → IsRight mode place text (annotation_front mode place)
opening_sound InLine place text e = (refl, refl, e)
opening_sound (InBlock opened) place text e = (refl, refl, e)
opening_sound Outside place text e =
    ⊎_elim
    (λ l. record { piece = lexeme (codes "//@") kind.AnnotationBegin; rest = drop 3 text; split = sym (begins_split text (codes "//@") l); fits = inl refl; seen = refl })
    (λ l. record { piece = lexeme (codes "/*@") kind.AnnotationBegin; rest = drop 3 text; split = sym (begins_split text (codes "/*@") l); fits = inr refl; seen = refl })
    (or_cases _ _ e)

sign_front : (body rest : List ℕ) → begins_with is_at_sign (body ++ rest) ≡ false → begins_with is_at_sign body ≡ false
sign_front [] rest e = refl
sign_front (b ∷ bs) rest e = e

line_right : (mode : Mode) (place : Place) (body : List ℕ) → begins_with is_at_sign body ≡ false → IsRight mode place (47 ∷ 47 ∷ body) (Gap (line_length (47 ∷ 47 ∷ body)))
line_right mode place body e =
    let r = line_of body in
    let size : line_length body ≡ length r.bytes = ap line_length (sym r.split) ∙ line_run r.bytes r.rest r.each r.ends in
    record {
      piece = line_comment r.bytes;
      rest = r.rest;
      split = ap (λ l. 47 ∷ 47 ∷ l) r.split;
      fits = (r.each, sign_front r.bytes r.rest (ap (begins_with is_at_sign) r.split ∙ e), r.ends);
      seen = ap (λ n. Gap (suc (suc n))) (sym size);
    }

nested_right : (mode : Mode) (place : Place) (body : List ℕ) (o : Option ℕ) → begins_with is_at_sign body ≡ false → comment_length body 0 ≡ o → IfLeads 0 body o → IsRight mode place (47 ∷ 42 ∷ body) (comment_found place o)
nested_right mode place body None e f l = inl (refl, (body, record { split = refl; sign = e; open_comment = λ c rest h same. let found : comment_length body 0 ≡ Some (length (comment_bytes c)) = ap (λ t. comment_length t 0) same ∙ comment_ends_there c rest h in cc }))
nested_right mode place body (Some n) e f (c, rest, h, s) =
    let size : suc (suc (length (comment_bytes c))) ≡ n + 2 = omega (arith, s) in
    record {
      piece = comment c;
      rest = rest;
      split = ap (λ l. 47 ∷ 42 ∷ l) (sym h.split);
      fits = (h.is, sign_front (comment_bytes c) rest (ap (begins_with is_at_sign) (sym h.split) ∙ e));
      seen = ap Gap size;
    }

comment_right : (mode : Mode) (place : Place) (text : List ℕ) → (begins text (codes "//") || begins text (codes "/*")) ≡ true → IsRight mode place text (comment_front mode place text)
comment_right mode place text e =
    cond_both (begins text (codes "//@") || begins text (codes "/*@")) _ _ (IsRight mode place text)
    (λ a. opening_sound mode place text a)
    (λ a.
    let none = or_parts (begins text (codes "//@")) (begins text (codes "/*@")) a in
    cond_both (begins text (codes "//")) _ _ (IsRight mode place text)
    (λ l. line_there none.0 (begins_split text (codes "//") l))
    (λ l. ⊎_elim (λ m. absurd (both_ways _ l m)) (λ m. nested_there none.1 (begins_split text (codes "/*") m)) (or_cases (begins text (codes "//")) (begins text (codes "/*")) e)))
  where
    line_there : begins text (codes "//@") ≡ false → text ≡ codes "//" ++ drop 2 text → IsRight mode place text (Gap (line_length text))
    line_there a s =
        let first : begins (drop 2 text) (64 ∷ []) ≡ false = ap (λ t. begins t (codes "//@")) (sym s) ∙ a in
        subst (λ t. IsRight mode place t (Gap (line_length t))) (sym s) (line_right mode place (drop 2 text) (some_sign (drop 2 text) first))

    nested_there : begins text (codes "/*@") ≡ false → text ≡ codes "/*" ++ drop 2 text → IsRight mode place text (comment_found place (comment_length (drop 2 text) 0))
    nested_there a s =
        let first : begins (drop 2 text) (64 ∷ []) ≡ false = ap (λ t. begins t (codes "/*@")) (sym s) ∙ a in
        subst (λ t. IsRight mode place t (comment_found place (comment_length (drop 2 text) 0))) (sym s) (nested_right mode place (drop 2 text) (comment_length (drop 2 text) 0) (some_sign (drop 2 text) first) refl (comment_sound (drop 2 text) 0))

-- ---- `@`
sign_right : (mode : Mode) (place : Place) (bs : List ℕ) → IsRight mode place (64 ∷ bs) (at_front mode place (64 ∷ bs))
sign_right Outside place bs =
    (refl, (64, bs, record { split = refl; space = refl; word = refl; quote = refl; sign = refl; use_word = refl; outcome = refl; symbol = λ s rest same. both_ways (begins_with is_at_sign (symbol_bytes s ++ rest)) (symbol_is_no_sign s rest) (ap (begins_with is_at_sign) (sym same)) }))
sign_right InLine place bs = record { piece = blank 64; rest = bs; split = refl; fits = refl; seen = refl }
sign_right (InBlock opened) place bs =
    cond_both (begins (64 ∷ bs) (codes "@*/")) _ _ (IsRight (InBlock opened) place (64 ∷ bs))
    (λ e. record { piece = lexeme (codes "@*/") kind.AnnotationEnd; rest = drop 3 (64 ∷ bs); split = sym (begins_split (64 ∷ bs) (codes "@*/") e); fits = refl; seen = refl })
    (λ e. record { piece = blank 64; rest = bs; split = refl; fits = not_from_false (begins bs (codes "*/")) e; seen = refl })

-- ---- symbols
-- a symbol that is in no table of its length does not stand there
absent : (ss : List Symbol) (n : ℕ) (text : List ℕ) (s : Symbol) (rest : List ℕ) → length (symbol_bytes s) ≡ n → symbol_among ss (symbol_bytes s) ≡ Some s → symbol_among ss (take n text) ≡ None → text ≡ symbol_bytes s ++ rest → ⊥
absent ss n text s rest size found none split =
    let here : symbol_among ss (take n text) ≡ Some s = ap (λ t. symbol_among ss (take n t)) split ∙ ap (symbol_among ss) (take_at (symbol_bytes s) rest n size) ∙ found in
    cc

short : (s : Symbol) → length (symbol_bytes s) ≤ 3
short s = elim (sized s) [ of_one size found ↦ omega (arith, size) | of_two size found ↦ omega (arith, size) | of_three size found ↦ omega (arith, size) ]

found_symbol : (mode : Mode) (place : Place) (ss : List Symbol) (n : ℕ) (text : List ℕ) (s : Symbol) → list_all (λ t. length (symbol_bytes t) == n) ss ≡ true → symbol_among ss (take n text) ≡ Some s → ((t : Symbol) (more : List ℕ) → text ≡ symbol_bytes t ++ more → length (symbol_bytes t) ≤ n) → begins_comment text ≡ false → IsRight mode place text (Found n (kind.Symbol s))
found_symbol mode place ss n text s h e longest none =
    let bytes = symbol_among_is ss (take n text) s e in
    let size = eqb-true (length (symbol_bytes s)) n (symbol_among_all (λ t. length (symbol_bytes t) == n) ss (take n text) s h e) in
    let split : symbol_bytes s ++ drop n text ≡ text = ap (λ l. l ++ drop n text) (sym bytes) ∙ take-append-drop n text in
    record {
      piece = lexeme (symbol_bytes s) (kind.Symbol s);
      rest = drop n text;
      split = split;
      fits = (refl, (λ t more same. let le = longest t more (sym split ∙ same) in omega (arith, le, size)), ap begins_comment split ∙ none);
      seen = ap (λ n. Found n (kind.Symbol s)) size;
    }

symbol_right : (mode : Mode) (place : Place) (text : List ℕ) → begins_comment text ≡ false → (((s : Symbol) (rest : List ℕ) → text ≡ symbol_bytes s ++ rest → ⊥) → IsRight mode place text (Fault (BadByte place))) → IsRight mode place text (symbol_front place text)
symbol_right mode place text none bad =
    elim (symbol_among triples (take 3 text)) as (λ o. symbol_among triples (take 3 text) ≡ o → IsRight mode place text (symbol_found 3 o (symbol_found 2 (symbol_among pairs (take 2 text)) (symbol_found 1 (symbol_among singles (take 1 text)) (Fault (BadByte place)))))) [
      | Some s ↦ λ e. found_symbol mode place triples 3 text s refl e (λ t more same. short t) none
      | None ↦ λ three. at_two three
    ] refl
  where
    at_one : symbol_among triples (take 3 text) ≡ None → symbol_among pairs (take 2 text) ≡ None → IsRight mode place text (symbol_found 1 (symbol_among singles (take 1 text)) (Fault (BadByte place)))
    at_one three two =
        elim (symbol_among singles (take 1 text)) as (λ o. symbol_among singles (take 1 text) ≡ o → IsRight mode place text (symbol_found 1 o (Fault (BadByte place)))) [
          | Some s ↦ λ e. found_symbol mode place singles 1 text s refl e (λ t more same. elim (sized t) [
            | of_one size found ↦ omega (arith, size)
            | of_two size found ↦ absurd (absent pairs 2 text t more size found two same)
            | of_three size found ↦ absurd (absent triples 3 text t more size found three same)
          ]) none
          | None ↦ λ one. bad (λ t more same. elim (sized t) [
            | of_one size found ↦ absent singles 1 text t more size found one same
            | of_two size found ↦ absent pairs 2 text t more size found two same
            | of_three size found ↦ absent triples 3 text t more size found three same
          ])
        ] refl

    at_two : symbol_among triples (take 3 text) ≡ None → IsRight mode place text (symbol_found 2 (symbol_among pairs (take 2 text)) (symbol_found 1 (symbol_among singles (take 1 text)) (Fault (BadByte place))))
    at_two three =
        elim (symbol_among pairs (take 2 text)) as (λ o. symbol_among pairs (take 2 text) ≡ o → IsRight mode place text (symbol_found 2 o (symbol_found 1 (symbol_among singles (take 1 text)) (Fault (BadByte place))))) [
          | Some s ↦ λ e. found_symbol mode place pairs 2 text s refl e (λ t more same. elim (sized t) [
            | of_one size found ↦ omega (arith, size)
            | of_two size found ↦ omega (arith, size)
            | of_three size found ↦ absurd (absent triples 3 text t more size found three same)
          ]) none
          | None ↦ λ two. at_one three two
        ] refl

-- ---- what begins with another byte
in_force : (m : Mode) → is_inside m ≡ true → is_in_force m word.Outcome ≡ true
in_force Outside e = cc
in_force InLine e = refl
in_force (InBlock opened) e = refl

mark_right : (mode : Mode) (place : Place) (b : ℕ) (bs : List ℕ) → is_word_byte b ≡ false → is_space b ≡ false → IsRight mode place (b ∷ bs) (mark_front mode place (b ∷ bs))
mark_right mode place b bs w s =
    cond_both (is_quote b) _ _ (IsRight mode place (b ∷ bs))
    (λ q. subst (λ x. IsRight mode place (x ∷ bs) (string_found place (x ∷ bs) (string_end bs))) (sym (eqb-true b 34 q)) (string_right mode place bs (string_end bs) (string_sound bs)))
    (λ q.
    cond_both (begins (b ∷ bs) (codes "//") || begins (b ∷ bs) (codes "/*")) _ _ (IsRight mode place (b ∷ bs))
    (λ c. comment_right mode place (b ∷ bs) c)
    (λ c.
    cond_both (is_at_sign b) _ _ (IsRight mode place (b ∷ bs))
    (λ a. subst (λ x. IsRight mode place (x ∷ bs) (at_front mode place (x ∷ bs))) (sym (eqb-true b 64 a)) (sign_right mode place bs))
    (λ a. other q c a)))
  where
    other : is_quote b ≡ false → begins_comment (b ∷ bs) ≡ false → is_at_sign b ≡ false → IsRight mode place (b ∷ bs) (cond (begins (b ∷ bs) (codes "#use")) (Found 4 kind.Use) (cond (begins_outcome (b ∷ bs) && is_inside mode) (Found 7 (kind.Keyword word.Outcome)) (symbol_front place (b ∷ bs))))
    other q c a =
        cond_both (begins (b ∷ bs) (codes "#use")) _ _ (IsRight mode place (b ∷ bs))
        (λ u. record { piece = lexeme (codes "#use") kind.Use; rest = drop 4 (b ∷ bs); split = sym (begins_split (b ∷ bs) (codes "#use") u); fits = refl; seen = refl })
        (λ u.
        cond_both (begins_outcome (b ∷ bs) && is_inside mode) _ _ (IsRight mode place (b ∷ bs))
        (λ o.
        let both = and_parts (begins_outcome (b ∷ bs)) (is_inside mode) o in
        let parts = and_parts (begins (b ∷ bs) (92 ∷ codes "result")) (ends_word (drop 7 (b ∷ bs))) both.0 in
        record {
          piece = lexeme (92 ∷ codes "result") (kind.Keyword word.Outcome);
          rest = drop 7 (b ∷ bs);
          split = sym (begins_split (b ∷ bs) (92 ∷ codes "result") parts.0);
          fits = (refl, in_force mode both.1, parts.1);
          seen = refl;
        })
        (λ o. symbol_right mode place (b ∷ bs) c (λ none. (refl, (b, bs, record { split = refl; space = s; word = w; quote = q; sign = and_right (is_inside mode) (is_at_sign b) a; use_word = u; outcome = and_swap (begins_outcome (b ∷ bs)) (is_inside mode) o; symbol = none })))))

pub front_sound : (mode : Mode) (place : Place) (text : List ℕ) → IsRight mode place text (front mode place text)
front_sound Outside place [] = (refl, refl)
front_sound InLine place [] = record { piece = lexeme [] kind.AnnotationEnd; rest = []; split = refl; fits = (refl, refl); seen = refl }
front_sound (InBlock opened) place [] = inr (refl, refl)
front_sound mode place (b ∷ bs) =
    elim (is_word_byte b) as (λ t. is_word_byte b ≡ t → IsRight mode place (b ∷ bs) (front mode place (b ∷ bs))) [
      | true ↦ λ e. word_sound mode place b bs e
      | false ↦ λ e.
          subst (IsRight mode place (b ∷ bs)) (sym (cond-false (is_word_byte b) _ _ e))
          (cond_both (is_space b) (space_front mode b) (mark_front mode place (b ∷ bs)) (IsRight mode place (b ∷ bs)) (λ s. space_sound mode place b bs s) (λ s. mark_right mode place b bs e s))
    ] refl
