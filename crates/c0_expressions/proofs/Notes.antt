-- The notes of an annotation by their first word.
use Rattle.std.proofs.Common.{◌≡◌, ℕ, ◌+◌, ◌≤◌, ◌<◌, Bool, true, false, ◌&&◌, List, [], ◌∷◌, None, Err, refl, sym, ap, ◌∙◌, arith}
use Rattle.gc0_base.specs.declared.place.Place.{Place}
use Rattle.c0_lex.specs.declared.token.Token.{Token}
use Rattle.c0_lex.specs.declared.token.TokenKind.{TokenKind}
use Rattle.c0_lex.specs.declared.token.TokenKind.TheVariants as kind
use Rattle.c0_lex.specs.declared.token.Keyword.{Keyword}
use Rattle.c0_lex.specs.declared.token.Keyword.TheVariants as key
use Rattle.parsed_tree.specs.Tree.{StmtTree, notes_stmt}
use Rattle.c0_grammar.specs.Tokens.{close_mark, What, fixed, name_what, number_what, text_what, token}
use Rattle.c0_grammar.specs.Plan.{is, Plan, await, node, assert_plan, fold_plan, unfold_plan, other_notes, notes_plan, notes_or_none, annotation_plan, note_enter, syntax_at, deep_at, step}
use Rattle.c0_cursor.specs.Seen.{starts, reading, stepping}
use Rattle.c0_expressions.specs.Seen.{is_note, first_note}
use Rattle.c0_grammar.specs.Seen.{what_of}
use Rattle.c0_cursor.specs.Laws.{step_on, step_deep}
use Rattle.gc0_base.specs.declared.limits.TheConstants.Limits as limits

pub no_note : (names : List (List ℕ)) (up : ℕ) (next : StmtTree → ℕ → Plan) (at : Place) (k : Keyword) (here : Place) → is_note k ≡ false → first_note names up next at k here ≡ None
no_note names up next at key.Assert here e = cc
no_note names up next at key.Fold here e = cc
no_note names up next at key.Unfold here e = cc
no_note names up next at k here e = refl

pub note_deep : (names : List (List ℕ)) (up : ℕ) (next : StmtTree → ℕ → Plan) (at : Place) (k : Keyword) (here : Place) (ts : List Token) → is_note k ≡ true → limits.NESTING ≤ up → stepping (first_note names up next at k here) here ts ≡ Err (deep_at here)
note_deep names up next at key.Assert here ts e h = step_deep (up + 1) (assert_plan names (up + 1) (other_notes names up next at) here) here ts (omega (arith, h))
note_deep names up next at key.Fold here ts e h = step_deep (up + 2) (fold_plan names (up + 1) (other_notes names up next at) here) here ts (omega (arith, h))
note_deep names up next at key.Unfold here ts e h = step_deep (up + 2) (unfold_plan names (up + 1) (other_notes names up next at) here) here ts (omega (arith, h))
note_deep names up next at k here ts e h = cc

one_more : (up : ℕ) → up + 2 ≡ up + 1 + 1
one_more up = omega arith

pub note_on : (names : List (List ℕ)) (up : ℕ) (next : StmtTree → ℕ → Plan) (at : Place) (k : Keyword) (here : Place) (ts : List Token) → is_note k ≡ true → up < limits.NESTING → stepping (first_note names up next at k here) here ts ≡ stepping (note_enter names (up + 1) (other_notes names up next at) k here) here ts
note_on names up next at key.Assert here ts e h = step_on (up + 1) (assert_plan names (up + 1) (other_notes names up next at) here) here ts (omega (arith, h))
note_on names up next at key.Fold here ts e h = ap (λ n. stepping (node n (fold_plan names (up + 1) (other_notes names up next at) here)) here ts) (one_more up)
note_on names up next at key.Unfold here ts e h = ap (λ n. stepping (node n (unfold_plan names (up + 1) (other_notes names up next at) here)) here ts) (one_more up)
note_on names up next at k here ts e h = cc

-- ---- an annotation among the statements
closed : (w : What) → is close_mark w ≡ true → w ≡ fixed close_mark
closed (fixed close_mark) e = refl
closed (fixed f) e = cc
closed (name_what n) e = cc
closed (number_what w) e = cc
closed (text_what b) e = cc

abbrev pub no_notes : (StmtTree → ℕ → Plan) → Place → Place → Plan
no_notes next at e = next (notes_stmt at []) 0

pub annotation_empty : (names : List (List ℕ)) (whole : Bool) (up : ℕ) (next : StmtTree → ℕ → Plan) (at : Place) (ts : List Token) → (whole && starts close_mark ts) ≡ true → reading (annotation_plan names whole up next at) ts ≡ reading (await 0 close_mark (no_notes next at)) ts
annotation_empty names false up next at ts e = cc
annotation_empty names true up next at [] e = cc
annotation_empty names true up next at (t ∷ ts) e =
    ap (λ z. stepping (step (notes_or_none names up next at) (token z t.place)) t.place ts) (closed (what_of t.kind t.text.now) e)
    ∙ sym (ap (λ z. stepping (step (await 0 close_mark (no_notes next at)) (token z t.place)) t.place ts) (closed (what_of t.kind t.text.now) e))

pub annotation_word : (names : List (List ℕ)) (whole : Bool) (up : ℕ) (next : StmtTree → ℕ → Plan) (at : Place) (t : Token) (ts : List Token) (k : Keyword) → t.kind ≡ kind.Keyword k → reading (annotation_plan names whole up next at) (t ∷ ts) ≡ stepping (first_note names up next at k t.place) t.place ts
annotation_word names true up next at t ts k e = ap (λ z. stepping (step (notes_or_none names up next at) (token (what_of z t.text.now) t.place)) t.place ts) e
annotation_word names false up next at t ts k e = ap (λ z. stepping (step (notes_plan names up next at) (token (what_of z t.text.now) t.place)) t.place ts) e

pub annotation_nothing : (names : List (List ℕ)) (whole : Bool) (up : ℕ) (next : StmtTree → ℕ → Plan) (at : Place) → reading (annotation_plan names whole up next at) [] ≡ Err (syntax_at (record { line = 0; column = 0 }))
annotation_nothing names true up next at = refl
annotation_nothing names false up next at = refl

other_what : (names : List (List ℕ)) (whole : Bool) (up : ℕ) (next : StmtTree → ℕ → Plan) (at : Place) (k : TokenKind) (bytes : List ℕ) (here : Place) → ((w : Keyword) → k ≡ kind.Keyword w → ⊥) → (whole && is close_mark (what_of k bytes)) ≡ false → step (annotation_plan names whole up next at) (token (what_of k bytes) here) ≡ None
other_what names whole up next at (kind.Keyword w) bytes here h e = absurd (h w refl)
other_what names true up next at kind.AnnotationEnd bytes here h e = cc
other_what names true up next at k bytes here h e = refl
other_what names false up next at k bytes here h e = refl

pub annotation_bad : (names : List (List ℕ)) (whole : Bool) (up : ℕ) (next : StmtTree → ℕ → Plan) (at : Place) (t : Token) (ts : List Token) → ((w : Keyword) → t.kind ≡ kind.Keyword w → ⊥) → (whole && starts close_mark (t ∷ ts)) ≡ false → reading (annotation_plan names whole up next at) (t ∷ ts) ≡ Err (syntax_at t.place)
annotation_bad names whole up next at t ts h e = ap (λ s. stepping s t.place ts) (other_what names whole up next at t.kind t.text.now t.place h e)
