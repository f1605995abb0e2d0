-- What stands at the front of a text is found: each piece and each fault.
use Rattle.std.proofs.Common.{◌≡◌, ◌<◌, ◌+◌, ℕ, suc, Bool, true, false, List, [], ◌∷◌, ◌++◌, length, take, drop, Some, None, sym, refl, ap, ◌∙◌, cond, arith, subst, take-append-drop, inl, inr, ⊎_elim}
use Rattle.std.specs.Prelude.{◌==◌, ◌&&◌, ◌||◌, not, codes}
use Rattle.std.specs.List.{list_all}
use Rattle.std.proofs.lemmas.Bool.{and_parts, and_from, or_cases, or_from, both_ways, not-true, cond-true, cond-false, eqb-true, eq-eqb, false_from_ne_true}
use Rattle.std.proofs.lemmas.List.{take_at}
use Rattle.gc0_base.specs.declared.place.Place.{Place}
use Rattle.c0_lex.specs.declared.token.Keyword.{Keyword}
use Rattle.c0_lex.specs.declared.token.Keyword.TheVariants as word
use Rattle.c0_lex.specs.declared.token.Symbol.{Symbol}
use Rattle.c0_lex.specs.declared.token.TokenKind.{TokenKind}
use Rattle.c0_lex.specs.declared.token.TokenKind.TheVariants as kind
use Rattle.c0_lex.specs.declared.token.Mode.{Mode}
use Rattle.c0_lex.specs.declared.token.Mode.TheVariants.{Outside, InLine, InBlock}
use Rattle.c0_lex.specs.declared.fault.LexFault.TheVariants.{BadByte}
use Rattle.c0_lex.specs.declared.front.Front.{Front}
use Rattle.c0_lex.specs.declared.front.Front.TheVariants.{Gap, Found, Fault}
use Rattle.c0_lex.specs.Bytes.{is_newline, is_not_newline, is_space, is_digit, is_letter, is_word_byte, is_at_sign, begins_with, begins, ends_word, ends_line}
use Rattle.c0_lex.specs.Words.{keyword_bytes, is_annotation_word, symbol_bytes, number_of, Character, AreCharacters, quoted}
use Rattle.c0_lex.specs.Pieces.{is_inside, is_blank, Comment, closes, byte, inner, comment_bytes, IsComment, is_in_force, is_identifier, is_digit_run, begins_comment, IsLongest, Opens, Closes, IsToken, Piece, blank, line_comment, comment, lexeme, piece_bytes, IsPiece}
use Rattle.c0_lex.specs.Scan.{front, number_front, word_kind, keyword_kind, keyword_among, code_words, annotation_words, symbol_among, singles, pairs, triples, symbol_found, symbol_front, comment_found, string_end, string_found, space_front}
use Rattle.c0_lex.proofs.Spellings.{among_is, among_all, is_outcome, keyword_shape, keyword_found, symbol_among_is, symbol_among_all, of_one, of_two, of_three, sized, at_symbol}
use Rattle.c0_lex.proofs.Runs.{begins_split, begins_front, space_is_no_word, letter_is_no_digit, word_run, line_run}
use Rattle.c0_lex.proofs.Quotes.{width, length_spelled, spelled_append, string_is_closed}
use Rattle.c0_lex.proofs.Nesting.{comment_ends_there}

-- what is found where a piece stands
abbrev pub piece_front : Piece → Front
piece_front (lexeme bytes k) = Found (length bytes) k
piece_front p = Gap (length (piece_bytes p))

-- ---- white space
space_gap : (mode : Mode) (place : Place) (b : ℕ) (rest : List ℕ) → is_space b ≡ true → front mode place (b ∷ rest) ≡ space_front mode b
space_gap mode place b rest e =
    cond-false (is_word_byte b) _ _ (space_is_no_word b e) ∙ cond-true (is_space b) _ _ e

blank_front : (mode : Mode) (place : Place) (b : ℕ) (rest : List ℕ) → is_blank mode b rest ≡ true → front mode place (b ∷ rest) ≡ Gap 1
blank_front Outside place b rest e = space_gap Outside place b rest e
blank_front InLine place b rest e =
    ⊎_elim
    (λ s. let both = and_parts (is_space b) (is_not_newline b) s in space_gap InLine place b rest both.0 ∙ cond-false (is_newline b) _ _ (not-true (is_newline b) both.1))
    (λ a. ap (λ x. front InLine place (x ∷ rest)) (eqb-true b 64 a))
    (or_cases (is_space b && is_not_newline b) (is_at_sign b) e)
blank_front (InBlock opened) place b rest e =
    ⊎_elim
    (λ s. space_gap (InBlock opened) place b rest s)
    (λ a. let both = and_parts (is_at_sign b) (not (begins rest (codes "*/"))) a in ap (λ x. front (InBlock opened) place (x ∷ rest)) (eqb-true b 64 both.0) ∙ cond-false (begins rest (codes "*/")) _ _ (not-true (begins rest (codes "*/")) both.1))
    (or_cases (is_space b) (is_at_sign b && not (begins rest (codes "*/"))) e)

-- ---- comments
pub no_sign : (text : List ℕ) → begins_with is_at_sign text ≡ false → begins text (64 ∷ []) ≡ false
no_sign [] e = refl
no_sign (b ∷ bs) e = false_from_ne_true _ (λ t. both_ways (is_at_sign b) e (eq-eqb b 64 (sign_of b bs t)))
  where
    sign_of : (b : ℕ) (bs : List ℕ) → begins (b ∷ bs) (64 ∷ []) ≡ true → b ≡ 64
    sign_of b bs t = let s = begins_split (b ∷ bs) (64 ∷ []) t in cc

pub some_sign : (text : List ℕ) → begins text (64 ∷ []) ≡ false → begins_with is_at_sign text ≡ false
some_sign [] e = refl
some_sign (b ∷ bs) e = false_from_ne_true _ (λ t. both_ways (begins (b ∷ bs) (64 ∷ [])) e (begins_front (b ∷ bs) (64 ∷ []) bs (ap (λ x. x ∷ bs) (eqb-true b 64 t))))

sign_within : (body rest : List ℕ) → begins_with is_at_sign body ≡ false → ends_line rest ≡ true → begins_with is_at_sign (body ++ rest) ≡ false
sign_within [] [] e f = refl
sign_within [] (b ∷ bs) e f = let ten : b ≡ 10 = eqb-true b 10 f in ap is_at_sign ten
sign_within (b ∷ bs) rest e f = e

line_comment_front : (mode : Mode) (place : Place) (body rest : List ℕ) → list_all is_not_newline body ≡ true → begins_with is_at_sign body ≡ false → ends_line rest ≡ true → front mode place (47 ∷ 47 ∷ (body ++ rest)) ≡ Gap (length (47 ∷ 47 ∷ body))
line_comment_front mode place body rest h e f =
    cond-false _ _ _ (or_from (begins (body ++ rest) (64 ∷ [])) false (no_sign (body ++ rest) (sign_within body rest e f)) refl)
    ∙ ap (λ n. Gap (suc (suc n))) (line_run body rest h f)

comment_sign : (c : Comment) (rest : List ℕ) → begins_with is_at_sign (comment_bytes c ++ rest) ≡ begins_with is_at_sign (comment_bytes c)
comment_sign closes rest = refl
comment_sign (byte b c) rest = refl
comment_sign (inner c d) rest = refl

comment_is_front : (mode : Mode) (place : Place) (c : Comment) (rest : List ℕ) → IsComment c → begins_with is_at_sign (comment_bytes c) ≡ false → front mode place (47 ∷ 42 ∷ (comment_bytes c ++ rest)) ≡ Gap (length (47 ∷ 42 ∷ comment_bytes c))
comment_is_front mode place c rest h e =
    let size : length (comment_bytes c) + 2 ≡ suc (suc (length (comment_bytes c))) = omega arith in
    cond-false _ _ _ (no_sign (comment_bytes c ++ rest) (comment_sign c rest ∙ e))
    ∙ ap (comment_found place) (comment_ends_there c rest h)
    ∙ ap Gap size

-- ---- words
pub word_piece : (mode : Mode) (place : Place) (bytes rest : List ℕ) → begins_with is_word_byte bytes ≡ true → list_all is_word_byte bytes ≡ true → ends_word rest ≡ true → front mode place (bytes ++ rest) ≡ cond (begins_with is_digit bytes) (number_front place (length bytes) (number_of bytes)) (Found (length bytes) (word_kind (is_inside mode) bytes))
word_piece mode place [] rest b h e = absurd cc
word_piece mode place (x ∷ xs) rest b h e =
    let text = x ∷ (xs ++ rest) in
    cond-true (is_word_byte x) _ _ b
    ∙ ap (λ n. cond (is_digit x) (number_front place n (number_of (take n text))) (Found n (word_kind (is_inside mode) (take n text)))) (word_run (x ∷ xs) rest h e)
    ∙ ap (λ l. cond (is_digit x) (number_front place (length (x ∷ xs)) (number_of l)) (Found (length (x ∷ xs)) (word_kind (is_inside mode) l))) (take_at (x ∷ xs) rest (length (x ∷ xs)) refl)

letter_is_word : (b : ℕ) → is_letter b ≡ true → is_word_byte b ≡ true
letter_is_word b e = or_right_of (is_digit b) (is_letter b) e
  where
    or_right_of : (x y : Bool) → y ≡ true → (x || y) ≡ true
    or_right_of true y e = refl
    or_right_of false y e = e

begins_letter : (bytes : List ℕ) → begins_with is_letter bytes ≡ true → (begins_with is_word_byte bytes ≡ true) × (begins_with is_digit bytes ≡ false)
begins_letter [] e = absurd cc
begins_letter (b ∷ bs) e = (letter_is_word b e, letter_is_no_digit b e)

begins_digit : (bytes : List ℕ) → begins_with is_digit bytes ≡ true → begins_with is_word_byte bytes ≡ true
begins_digit [] e = absurd cc
begins_digit (b ∷ bs) e = digit_is_word (is_digit b) (is_letter b) e
  where
    digit_is_word : (x y : Bool) → x ≡ true → (x || y) ≡ true
    digit_is_word true y e = refl
    digit_is_word false y e = cc

-- a word of letters is found as what it is
identifier_front : (mode : Mode) (place : Place) (bytes rest : List ℕ) → is_identifier bytes ≡ true → ends_word rest ≡ true → front mode place (bytes ++ rest) ≡ Found (length bytes) (word_kind (is_inside mode) bytes)
identifier_front mode place bytes rest h e =
    let both = and_parts (begins_with is_letter bytes) (list_all is_word_byte bytes) h in
    let first = begins_letter bytes both.0 in
    word_piece mode place bytes rest first.0 both.1 e ∙ cond-false (begins_with is_digit bytes) _ _ first.1

pub digit_run_front : (mode : Mode) (place : Place) (bytes rest : List ℕ) → is_digit_run bytes ≡ true → ends_word rest ≡ true → front mode place (bytes ++ rest) ≡ number_front place (length bytes) (number_of bytes)
digit_run_front mode place bytes rest h e =
    let both = and_parts (begins_with is_digit bytes) (list_all is_word_byte bytes) h in
    word_piece mode place bytes rest (begins_digit bytes both.0) both.1 e ∙ cond-true (begins_with is_digit bytes) _ _ both.0

none_among : (p : Keyword → Bool) (ks : List Keyword) (bytes : List ℕ) → list_all p ks ≡ true → ((k : Keyword) → p k ≡ true → bytes ≡ keyword_bytes k → ⊥) → keyword_among ks bytes ≡ None
none_among p ks bytes h differs =
    elim (keyword_among ks bytes) as (λ o. keyword_among ks bytes ≡ o → o ≡ None) [
      | None ↦ λ e. refl
      | Some k ↦ λ e. absurd (differs k (among_all p ks bytes k h e) (among_is ks bytes k e))
    ] refl

-- a word that is no keyword in force is a name
pub name_kind : (inside : Bool) (bytes : List ℕ) → ((k : Keyword) → (inside || not (is_annotation_word k)) ≡ true → bytes ≡ keyword_bytes k → ⊥) → word_kind inside bytes ≡ kind.Name
name_kind true bytes differs =
    let code = none_among (λ k. true) code_words bytes refl (λ k e. differs k refl) in
    let noted = none_among (λ k. true) annotation_words bytes refl (λ k e. differs k refl) in
    ap (λ o. keyword_kind o (keyword_kind (keyword_among annotation_words bytes) kind.Name)) code ∙ ap (λ o. keyword_kind o kind.Name) noted
name_kind false bytes differs =
    let code = none_among (λ k. not (is_annotation_word k)) code_words bytes refl (λ k e. differs k e) in
    ap (λ o. keyword_kind o kind.Name) code

-- `\result`
outcome_front : (mode : Mode) (place : Place) (rest : List ℕ) → is_inside mode ≡ true → ends_word rest ≡ true → front mode place ((92 ∷ codes "result") ++ rest) ≡ Found 7 (kind.Keyword word.Outcome)
outcome_front mode place rest i e = cond-true (ends_word rest && is_inside mode) _ _ (and_from (ends_word rest) (is_inside mode) e i)

in_force_outcome : (mode : Mode) → is_in_force mode word.Outcome ≡ true → is_inside mode ≡ true
in_force_outcome Outside e = cc
in_force_outcome InLine e = refl
in_force_outcome (InBlock opened) e = refl

pub outcome_is : (k : Keyword) → is_outcome k ≡ true → k ≡ word.Outcome
outcome_is word.Int e = cc
outcome_is word.Bool e = cc
outcome_is word.Void e = cc
outcome_is word.Struct e = cc
outcome_is word.Typedef e = cc
outcome_is word.If e = cc
outcome_is word.Else e = cc
outcome_is word.While e = cc
outcome_is word.For e = cc
outcome_is word.Return e = cc
outcome_is word.Assert e = cc
outcome_is word.Error e = cc
outcome_is word.True e = cc
outcome_is word.False e = cc
outcome_is word.Null e = cc
outcome_is word.Alloc e = cc
outcome_is word.String e = cc
outcome_is word.Char e = cc
outcome_is word.Break e = cc
outcome_is word.Continue e = cc
outcome_is word.AllocArray e = cc
outcome_is word.Requires e = cc
outcome_is word.Ensures e = cc
outcome_is word.LoopInvariant e = cc
outcome_is word.Fold e = cc
outcome_is word.Unfold e = cc
outcome_is word.Predicate e = cc
outcome_is word.Acc e = cc
outcome_is word.Outcome e = refl

keyword_front : (mode : Mode) (place : Place) (k : Keyword) (rest : List ℕ) → is_in_force mode k ≡ true → ends_word rest ≡ true → front mode place (keyword_bytes k ++ rest) ≡ Found (length (keyword_bytes k)) (kind.Keyword k)
keyword_front mode place k rest f e =
    elim (is_outcome k) as (λ t. is_outcome k ≡ t → front mode place (keyword_bytes k ++ rest) ≡ Found (length (keyword_bytes k)) (kind.Keyword k)) [
      | true ↦ λ o.
          let same = outcome_is k o in
          subst (λ q. front mode place (keyword_bytes q ++ rest) ≡ Found (length (keyword_bytes q)) (kind.Keyword q)) (sym same)
          (outcome_front mode place rest (in_force_outcome mode (ap (is_in_force mode) (sym same) ∙ f)) e)
      | false ↦ λ o. identifier_front mode place (keyword_bytes k) rest (keyword_shape k o) e ∙ ap (Found (length (keyword_bytes k))) (keyword_found (is_inside mode) k o f)
    ] refl

-- ---- strings
quoted_front : (mode : Mode) (place : Place) (cs : List Character) (rest : List ℕ) → AreCharacters cs → front mode place (quoted cs ++ rest) ≡ Found (length (quoted cs)) kind.Quoted
quoted_front mode place cs rest h =
    let size : width cs + 1 + 1 ≡ length (quoted cs) = omega (arith, length_spelled cs (34 ∷ [])) in
    ap (λ l. string_found place (quoted cs ++ rest) (string_end l)) (spelled_append cs (34 ∷ []) rest)
    ∙ ap (string_found place (quoted cs ++ rest)) (string_is_closed cs rest h)
    ∙ ap (λ n. Found n kind.Quoted) size

-- ---- symbols
-- a table has nothing longer
none_longer : (ss : List Symbol) (n : ℕ) (s : Symbol) (rest : List ℕ) → list_all (λ t. length (symbol_bytes t) == n) ss ≡ true → length (symbol_bytes s) < n → IsLongest s rest → symbol_among ss (take n (symbol_bytes s ++ rest)) ≡ None
none_longer ss n s rest h lt longest =
    let text = symbol_bytes s ++ rest in
    elim (symbol_among ss (take n text)) as (λ o. symbol_among ss (take n text) ≡ o → o ≡ None) [
      | None ↦ λ e. refl
      | Some t ↦ λ e.
          let bytes = symbol_among_is ss (take n text) t e in
          let size = eqb-true (length (symbol_bytes t)) n (symbol_among_all (λ t. length (symbol_bytes t) == n) ss (take n text) t h e) in
          let split : text ≡ symbol_bytes t ++ drop n text = sym (take-append-drop n text) ∙ ap (λ l. l ++ drop n text) bytes in
          let le = longest t (drop n text) split in
          absurd (omega (arith, lt, size, le))
    ] refl

-- the table of its length has it
found_there : (ss : List Symbol) (n : ℕ) (s : Symbol) (rest : List ℕ) → length (symbol_bytes s) ≡ n → symbol_among ss (symbol_bytes s) ≡ Some s → symbol_among ss (take n (symbol_bytes s ++ rest)) ≡ Some s
found_there ss n s rest e f = ap (symbol_among ss) (take_at (symbol_bytes s) rest n e) ∙ f

symbol_is_front : (place : Place) (s : Symbol) (rest : List ℕ) → IsLongest s rest → symbol_front place (symbol_bytes s ++ rest) ≡ Found (length (symbol_bytes s)) (kind.Symbol s)
symbol_is_front place s rest longest =
    let text = symbol_bytes s ++ rest in
    elim (sized s) [
      | of_one size found ↦
          ap (λ o. symbol_found 3 o (symbol_found 2 (symbol_among pairs (take 2 text)) (symbol_found 1 (symbol_among singles (take 1 text)) (Fault (BadByte place))))) (none_longer triples 3 s rest refl (omega (arith, size)) longest)
          ∙ ap (λ o. symbol_found 2 o (symbol_found 1 (symbol_among singles (take 1 text)) (Fault (BadByte place)))) (none_longer pairs 2 s rest refl (omega (arith, size)) longest)
          ∙ ap (λ o. symbol_found 1 o (Fault (BadByte place))) (found_there singles 1 s rest size found)
          ∙ ap (λ n. Found n (kind.Symbol s)) (sym size)
      | of_two size found ↦
          ap (λ o. symbol_found 3 o (symbol_found 2 (symbol_among pairs (take 2 text)) (symbol_found 1 (symbol_among singles (take 1 text)) (Fault (BadByte place))))) (none_longer triples 3 s rest refl (omega (arith, size)) longest)
          ∙ ap (λ o. symbol_found 2 o (symbol_found 1 (symbol_among singles (take 1 text)) (Fault (BadByte place)))) (found_there pairs 2 s rest size found)
          ∙ ap (λ n. Found n (kind.Symbol s)) (sym size)
      | of_three size found ↦
          ap (λ o. symbol_found 3 o (symbol_found 2 (symbol_among pairs (take 2 text)) (symbol_found 1 (symbol_among singles (take 1 text)) (Fault (BadByte place))))) (found_there triples 3 s rest size found)
          ∙ ap (λ n. Found n (kind.Symbol s)) (sym size)
    ]

-- ---- tokens and pieces
opens_front : (mode : Mode) (place : Place) (bytes rest : List ℕ) → Opens mode bytes → front mode place (bytes ++ rest) ≡ Found (length bytes) kind.AnnotationBegin
opens_front Outside place bytes rest (inl e) = subst (λ l. front Outside place (l ++ rest) ≡ Found (length l) kind.AnnotationBegin) (sym e) refl
opens_front Outside place bytes rest (inr e) = subst (λ l. front Outside place (l ++ rest) ≡ Found (length l) kind.AnnotationBegin) (sym e) refl
opens_front InLine place bytes rest h = absurd h
opens_front (InBlock opened) place bytes rest h = absurd h

line_end_front : (place : Place) (rest : List ℕ) → ends_line rest ≡ true → front InLine place rest ≡ Found 0 kind.AnnotationEnd
line_end_front place [] e = refl
line_end_front place (b ∷ bs) e = let ten : b ≡ 10 = eqb-true b 10 e in ap (λ x. front InLine place (x ∷ bs)) ten

closes_front : (mode : Mode) (place : Place) (bytes rest : List ℕ) → Closes mode bytes rest → front mode place (bytes ++ rest) ≡ Found (length bytes) kind.AnnotationEnd
closes_front Outside place bytes rest h = absurd h
closes_front InLine place bytes rest h = subst (λ l. front InLine place (l ++ rest) ≡ Found (length l) kind.AnnotationEnd) (sym h.0) (line_end_front place rest h.1)
closes_front (InBlock opened) place bytes rest h = subst (λ l. front (InBlock opened) place (l ++ rest) ≡ Found (length l) kind.AnnotationEnd) (sym h) refl

token_front : (mode : Mode) (place : Place) (bytes : List ℕ) (k : TokenKind) (rest : List ℕ) → IsToken mode bytes k rest → front mode place (bytes ++ rest) ≡ Found (length bytes) k
token_front mode place bytes kind.Name rest h = identifier_front mode place bytes rest h.0 h.1 ∙ ap (Found (length bytes)) (name_kind (is_inside mode) bytes h.2)
token_front mode place bytes (kind.Keyword k) rest h = subst (λ l. front mode place (l ++ rest) ≡ Found (length l) (kind.Keyword k)) (sym h.0) (keyword_front mode place k rest h.1 h.2)
token_front mode place bytes (kind.Number w) rest h = digit_run_front mode place bytes rest h.0 h.1 ∙ ap (number_front place (length bytes)) h.2
token_front mode place bytes kind.Quoted rest (cs, h, e) = subst (λ l. front mode place (l ++ rest) ≡ Found (length l) kind.Quoted) (sym e) (quoted_front mode place cs rest h)
token_front mode place bytes (kind.Symbol s) rest h =
    subst (λ l. front mode place (l ++ rest) ≡ Found (length l) (kind.Symbol s)) (sym h.0)
    (at_symbol s mode place rest ∙ cond-false _ _ _ (ap (λ l. begins_comment (l ++ rest)) (sym h.0) ∙ h.2) ∙ symbol_is_front place s rest h.1)
token_front mode place bytes kind.Use rest h = subst (λ l. front mode place (l ++ rest) ≡ Found (length l) kind.Use) (sym h) refl
token_front mode place bytes kind.AnnotationBegin rest h = opens_front mode place bytes rest h
token_front mode place bytes kind.AnnotationEnd rest h = closes_front mode place bytes rest h
token_front mode place bytes kind.End rest h = absurd h

pub piece_is : (mode : Mode) (place : Place) (p : Piece) (rest : List ℕ) → IsPiece mode p rest → front mode place (piece_bytes p ++ rest) ≡ piece_front p
piece_is mode place (blank b) rest h = blank_front mode place b rest h
piece_is mode place (line_comment body) rest h = line_comment_front mode place body rest h.0 h.1 h.2
piece_is mode place (comment c) rest h = comment_is_front mode place c rest h.0 h.1
piece_is mode place (lexeme bytes k) rest h = token_front mode place bytes k rest h
