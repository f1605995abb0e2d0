-- What stands at the front of a text is found: each fault.
use Rattle.std.proofs.Common.{◌≡◌, ◌+◌, ℕ, Bool, true, false, List, [], ◌∷◌, ◌++◌, length, take, drop, Option, Some, None, sym, refl, ap, ◌∙◌, cond, arith, take-append-drop, inl, inr, ⊎_elim}
use Rattle.std.specs.Prelude.{◌&&◌, ◌||◌, codes, fold}
use Rattle.std.proofs.lemmas.Bool.{and_cases, and_left, and_right, or_cases, or_from, both_ways, cond-true, cond-false, false_from_ne_true}
use Rattle.std.proofs.lemmas.List.{take_at}
use Rattle.gc0_base.specs.declared.place.Place.{Place}
use Rattle.gc0_base.specs.Places.{moved}
use Rattle.c0_lex.specs.declared.token.Symbol.{Symbol}
use Rattle.c0_lex.specs.declared.token.Symbol.TheVariants as sign
use Rattle.c0_lex.specs.declared.token.TokenKind.TheVariants as kind
use Rattle.c0_lex.specs.declared.token.Mode.{Mode}
use Rattle.c0_lex.specs.declared.token.Mode.TheVariants.{Outside, InLine, InBlock}
use Rattle.c0_lex.specs.declared.fault.LexFault.{LexFault}
use Rattle.c0_lex.specs.declared.fault.LexFault.TheVariants.{BadByte, BadNumber, BadEscape, OpenComment, OpenString, NestedAnnotation, Memory}
use Rattle.c0_lex.specs.declared.front.Front.TheVariants.{Found, Fault}
use Rattle.c0_lex.specs.Bytes.{is_space, is_word_byte, is_quote, is_at_sign, begins_with, begins}
use Rattle.c0_lex.specs.Words.{symbol_bytes, Character, spelled_string}
use Rattle.c0_lex.specs.Pieces.{is_inside, Comment, comment_bytes, IsComment}
use Rattle.c0_lex.specs.Texts.{begins_outcome, BeginsNothing, BeginsBadNumber, BeginsBadEscape, BeginsOpenString, BeginsOpenComment, IsFault}
use Rattle.c0_lex.specs.Scan.{front, number_front, symbol_among, singles, pairs, triples, symbol_found, symbol_front, comment_length, comment_found, at_front, string_found, mark_front}
use Rattle.c0_lex.proofs.Spellings.{symbol_among_is}
use Rattle.c0_lex.proofs.Runs.{begins_split}
use Rattle.c0_lex.proofs.Quotes.{width, length_spelled, spelled_append, string_is_bad, string_is_open}
use Rattle.c0_lex.proofs.Nesting.{comment_sound, IfLeads}
use Rattle.c0_lex.proofs.Fronts.{no_sign, digit_run_front}

-- ---- no symbol
none_in : (ss : List Symbol) (n : ℕ) (text : List ℕ) → ((s : Symbol) (rest : List ℕ) → text ≡ symbol_bytes s ++ rest → ⊥) → symbol_among ss (take n text) ≡ None
none_in ss n text none =
    elim (symbol_among ss (take n text)) as (λ o. symbol_among ss (take n text) ≡ o → o ≡ None) [
      | None ↦ λ e. refl
      | Some t ↦ λ e. absurd (none t (drop n text) (sym (take-append-drop n text) ∙ ap (λ l. l ++ drop n text) (symbol_among_is ss (take n text) t e)))
    ] refl

no_symbol_front : (place : Place) (text : List ℕ) → ((s : Symbol) (rest : List ℕ) → text ≡ symbol_bytes s ++ rest → ⊥) → symbol_front place text ≡ Fault (BadByte place)
no_symbol_front place text none =
    ap (λ o. symbol_found 3 o (symbol_found 2 (symbol_among pairs (take 2 text)) (symbol_found 1 (symbol_among singles (take 1 text)) (Fault (BadByte place))))) (none_in triples 3 text none)
    ∙ ap (λ o. symbol_found 2 o (symbol_found 1 (symbol_among singles (take 1 text)) (Fault (BadByte place)))) (none_in pairs 2 text none)
    ∙ ap (λ o. symbol_found 1 o (Fault (BadByte place))) (none_in singles 1 text none)

-- where no symbol begins, no comment does
no_slash : (text : List ℕ) (b : ℕ) → ((s : Symbol) (rest : List ℕ) → text ≡ symbol_bytes s ++ rest → ⊥) → begins text (47 ∷ b ∷ []) ≡ false
no_slash text b none = false_from_ne_true _ (λ e. none sign.Slash (b ∷ drop 2 text) (begins_split text (47 ∷ b ∷ []) e))

at_sign_front : (mode : Mode) (place : Place) (text : List ℕ) → is_inside mode ≡ false → at_front mode place text ≡ Fault (BadByte place)
at_sign_front Outside place text e = refl
at_sign_front InLine place text e = absurd cc
at_sign_front (InBlock opened) place text e = absurd cc

pub and_swap : (x y : Bool) → (x && y) ≡ false → (y && x) ≡ false
and_swap x y e = ⊎_elim (λ a. and_right y x a) (λ a. and_left y x a) (and_cases x y e)

nothing_front : (mode : Mode) (place : Place) (text : List ℕ) (b : ℕ) (more : List ℕ) → BeginsNothing mode text b more → front mode place text ≡ Fault (BadByte place)
nothing_front mode place text b more h =
    let mark : mark_front mode place text ≡ Fault (BadByte place) =
    cond-false _ _ _ (ap (begins_with is_quote) h.split ∙ h.quote)
    ∙ cond-false _ _ _ (or_from _ _ (no_slash text 47 h.symbol) (no_slash text 42 h.symbol))
    ∙ here (begins_with is_at_sign text) (ap (begins_with is_at_sign) h.split)
    in
    ap (front mode place) h.split
    ∙ cond-false (is_word_byte b) _ _ h.word
    ∙ cond-false (is_space b) _ _ h.space
    ∙ ap (mark_front mode place) (sym h.split)
    ∙ mark
  where
    here : (t : Bool) → t ≡ is_at_sign b → cond t (at_front mode place text) (cond (begins text (codes "#use")) (Found 4 kind.Use) (cond (begins_outcome text && is_inside mode) (Found 7 (kind.Keyword Rattle.c0_lex.specs.declared.token.Keyword.TheVariants.Outcome)) (symbol_front place text))) ≡ Fault (BadByte place)
    here true e = at_sign_front mode place text (⊎_elim (λ i. i) (λ s. absurd (both_ways (is_at_sign b) s (sym e))) (and_cases (is_inside mode) (is_at_sign b) h.sign))
    here false e =
        cond-false _ _ _ h.use_word
        ∙ cond-false _ _ _ (and_swap (is_inside mode) (begins_outcome text) h.outcome)
        ∙ no_symbol_front place text h.symbol

-- ---- numbers and strings
bad_number_front : (mode : Mode) (place : Place) (text run rest : List ℕ) → BeginsBadNumber text run rest → front mode place text ≡ Fault (BadNumber place)
bad_number_front mode place text run rest h =
    ap (front mode place) h.split
    ∙ digit_run_front mode place run rest h.digits h.whole
    ∙ ap (number_front place (length run)) h.none

bad_escape_front : (mode : Mode) (place : Place) (text : List ℕ) (cs : List Character) (rest : List ℕ) → BeginsBadEscape text cs rest → front mode place text ≡ Fault (BadEscape (fold moved place (34 ∷ spelled_string cs [])))
bad_escape_front mode place text cs rest h =
    let whole = 34 ∷ spelled_string cs (92 ∷ rest) in
    let start = 34 ∷ spelled_string cs [] in
    let size : length start ≡ width cs + 1 = omega (arith, length_spelled cs []) in
    let taken : take (width cs + 1) whole ≡ start = ap (take (width cs + 1)) (ap (λ l. 34 ∷ l) (sym (spelled_append cs [] (92 ∷ rest)))) ∙ take_at start (92 ∷ rest) (width cs + 1) size in
    ap (front mode place) h.split
    ∙ ap (string_found place whole) (string_is_bad cs rest h.characters h.none)
    ∙ ap (λ l. Fault (BadEscape (fold moved place l))) taken

open_string_front : (mode : Mode) (place : Place) (text : List ℕ) (cs : List Character) (rest : List ℕ) → BeginsOpenString text cs rest → front mode place text ≡ Fault (OpenString place)
open_string_front mode place text cs rest h =
    ap (front mode place) h.split
    ∙ ap (string_found place (34 ∷ spelled_string cs rest)) (string_is_open cs rest h.characters h.none)

-- ---- comments and annotations
pub never_closed : (body : List ℕ) → ((c : Comment) (rest : List ℕ) → IsComment c → body ≡ comment_bytes c ++ rest → ⊥) → comment_length body 0 ≡ None
never_closed body none = only (comment_length body 0) (comment_sound body 0)
  where
    only : (o : Option ℕ) → IfLeads 0 body o → o ≡ None
    only None l = refl
    only (Some n) (c, rest, f, s) = absurd (none c rest f.is f.split)

open_comment_front : (mode : Mode) (place : Place) (text body : List ℕ) → BeginsOpenComment text body → front mode place text ≡ Fault (OpenComment place)
open_comment_front mode place text body h =
    ap (front mode place) h.split
    ∙ cond-false _ _ _ (no_sign body h.sign)
    ∙ ap (comment_found place) (never_closed body h.open_comment)

nested_front : (mode : Mode) (place : Place) (text : List ℕ) → is_inside mode ≡ true → (begins text (codes "//@") || begins text (codes "/*@")) ≡ true → front mode place text ≡ Fault (NestedAnnotation place)
nested_front mode place text i e =
    ⊎_elim
    (λ l. ap (front mode place) (begins_split text (codes "//@") l) ∙ cond-true (is_inside mode) _ _ i)
    (λ b. ap (front mode place) (begins_split text (codes "/*@") b) ∙ cond-true (is_inside mode) _ _ i)
    (or_cases _ _ e)

pub fault_is : (mode : Mode) (place : Place) (text : List ℕ) (f : LexFault) → IsFault (record { mode = mode; place = place }) text f → front mode place text ≡ Fault f
fault_is mode place text (BadByte at) (e, (b, more, h)) = nothing_front mode place text b more h ∙ ap (λ p. Fault (BadByte p)) (sym e)
fault_is mode place text (BadNumber at) (e, (run, rest, h)) = bad_number_front mode place text run rest h ∙ ap (λ p. Fault (BadNumber p)) (sym e)
fault_is mode place text (BadEscape at) (cs, rest, h, e) = bad_escape_front mode place text cs rest h ∙ ap (λ p. Fault (BadEscape p)) (sym e)
fault_is mode place text (OpenString at) (e, (cs, rest, h)) = open_string_front mode place text cs rest h ∙ ap (λ p. Fault (OpenString p)) (sym e)
fault_is mode place text (OpenComment at) (inl (e, (body, h))) = open_comment_front mode place text body h ∙ ap (λ p. Fault (OpenComment p)) (sym e)
fault_is mode place text (OpenComment at) (inr (t, m)) = ap (λ l. front mode place l) t ∙ ap (λ q. front q place []) m
fault_is mode place text (NestedAnnotation at) (e, i, h) = nested_front mode place text i h ∙ ap (λ p. Fault (NestedAnnotation p)) (sym e)
fault_is mode place text Memory h = absurd h
