-- Lists whose parts each begin with a token of their own: what is read behind the parts so far.
use Rattle.std.proofs.Common.{◌≡◌, ℕ, ◌≤◌, max, true, false, cond, List, [], ◌∷◌, ◌++◌, map, Some, None, Result, refl, sym, ap, ◌∙◌, arith, append_assoc, append-nil}
use Rattle.std.proofs.lemmas.List.{map-append}
use Rattle.gc0_base.specs.declared.place.Place.{Place}
use Rattle.c0_lex.specs.declared.token.Token.{Token}
use Rattle.c0_lex.specs.declared.token.Keyword.{Keyword}
use Rattle.parsed_tree.specs.Tree.{ProgramTree, NoteTree}
use Rattle.c0_grammar.specs.Tokens.{Fixed, word_mark, close_mark, What, fixed, token}
use Rattle.c0_grammar.specs.Plan.{is, Loop, note_loop, Part, Plan, await, peek, many, Step, on, node, or_step, note_enter, enter, after_part, step, Fault}
use Rattle.c0_cursor.specs.Seen.{starts, reading, stepping}
use Rattle.c0_grammar.specs.Seen.{what_of, seen}
use Rattle.c0_expressions.specs.Read.{onto}
use Rattle.c0_cursor.specs.Laws.{step_on}
use Rattle.gc0_base.specs.declared.limits.TheConstants.Limits as limits

-- ---- parts so far
max_more : (a b c : ℕ) → max a (max b c) ≡ max (max a b) c
max_more a b c = omega arith

max_none : (a : ℕ) → max a 0 ≡ a
max_none a = omega arith

none_max : (a : ℕ) → a ≡ max 0 a
none_max a = omega arith

pub onto_start : {A : Type 0} (next : List A → ℕ → Plan) → ◌≡◌ {A = List A → ℕ → Plan} next (onto [] 0 next)
onto_start next = λ i xs d. next xs (none_max d i)

pub onto_more : {A : Type 0} (xs : List A) (d : ℕ) (next : List A → ℕ → Plan) (x : A) (dx : ℕ) → ◌≡◌ {A = List A → ℕ → Plan} (λ others d'. onto xs d next (x ∷ others) (max dx d')) (onto (xs ++ x ∷ []) (max d dx) next)
onto_more xs d next x dx = λ i others d'. next (sym (append_assoc xs (x ∷ []) others) i) (max_more d dx d' i)

pub onto_done : {A : Type 0} (xs : List A) (d : ℕ) (next : List A → ℕ → Plan) → onto xs d next [] 0 ≡ next xs d
onto_done xs d next = λ i. next (append-nil xs i) (max_none d i)

-- one more, in a list of the program
pub mapped_push : {A B : Type 0} (f : A → B) (old new : List A) (x : A) → new ≡ old ++ x ∷ [] → map f new ≡ map f old ++ f x ∷ []
mapped_push f old new x h = ap (map f) h ∙ map-append f old (x ∷ [])

-- parts so far that are the same, and as deep
pub same_onto : {A : Type 0} (F : List A → ℕ → Result ProgramTree Fault) (xs ys : List A) (c d : ℕ) → xs ≡ ys → c ≡ d → F xs c ≡ F ys d
same_onto F xs ys c d p q = λ i. F (p i) (q i)

-- the same at equal parts
pub same : {A : Type 0} (F : A → ℕ → Result ProgramTree Fault) (x y : A) (c d : ℕ) → x ≡ y → c ≡ d → F x c ≡ F y d
same F x y c d p q = λ i. F (p i) (q i)

-- ---- the same behind what closes an annotation
abbrev pub closing : {A : Type 0} → (List A → ℕ → Plan) → List A → ℕ → Plan
closing next xs d = await 0 close_mark (λ e. next xs d)

-- a token that is awaited, where it may not make a path too long
pub peek_low : (reach : ℕ) (f : Fixed) (these : Place → Plan) (others : Plan) (ts : List Token) → reach ≤ limits.NESTING → starts f ts ≡ true → reading (peek reach f these others) ts ≡ reading (await 0 f these) ts
peek_low reach f these others [] h e = cc
peek_low reach f these others (t ∷ ts) h e =
    ap (λ b. stepping (cond b (node reach (these t.place)) (step others (seen t))) t.place ts) e
    ∙ step_on reach (these t.place) t.place ts h
    ∙ sym (ap (λ b. stepping (cond b (node 0 (these t.place)) None) t.place ts) e)

-- ---- parts that begin with one fixed token
pub record Enters (l : Loop) (f : Fixed) (body : (Part l → ℕ → Plan) → Place → Plan) : Type 0 where
  pub step : (next : Part l → ℕ → Plan) (w : What) (at : Place) → enter l next w at ≡ cond (is f w) (on (body next at)) None

pub loop_on : (l : Loop) (f : Fixed) (body : (Part l → ℕ → Plan) → Place → Plan) → Enters l f body → (next : List (Part l) → ℕ → Plan) (ts : List Token) → starts f ts ≡ true → reading (many l next) ts ≡ reading (await 0 f (body (after_part l next))) ts
loop_on l f body en next [] e = cc
loop_on l f body en next (t ∷ ts) e =
    ap (λ s. stepping (or_step s (step (next [] 0) (seen t))) t.place ts) (en.step (after_part l next) (what_of t.kind t.text.now) t.place)
    ∙ ap (λ b. stepping (or_step (cond b (on (body (after_part l next) t.place)) None) (step (next [] 0) (seen t))) t.place ts) e
    ∙ sym (ap (λ b. stepping (cond b (node 0 (body (after_part l next) t.place)) None) t.place ts) e)

pub loop_off : (l : Loop) (f : Fixed) (body : (Part l → ℕ → Plan) → Place → Plan) → Enters l f body → (next : List (Part l) → ℕ → Plan) (ts : List Token) → starts f ts ≡ false → reading (many l next) ts ≡ reading (next [] 0) ts
loop_off l f body en next [] e = refl
loop_off l f body en next (t ∷ ts) e =
    ap (λ s. stepping (or_step s (step (next [] 0) (seen t))) t.place ts) (en.step (after_part l next) (what_of t.kind t.text.now) t.place)
    ∙ ap (λ b. stepping (or_step (cond b (on (body (after_part l next) t.place)) None) (step (next [] 0) (seen t))) t.place ts) e

-- ---- notes
pub or_none : (s : Step) → or_step s None ≡ s
or_none None = refl
or_none (Some x) = refl

pub note_at_word : (names : List (List ℕ)) (up : ℕ) (these : Place → Plan) (next : List NoteTree → ℕ → Plan) (t : Token) (ts : List Token) (k : Keyword) → next [] 0 ≡ await 0 close_mark these → what_of t.kind t.text.now ≡ fixed (word_mark k) → reading (many (note_loop names up) next) (t ∷ ts) ≡ stepping (note_enter names up (after_part (note_loop names up) next) k t.place) t.place ts
note_at_word names up these next t ts k n w =
    ap (λ q. stepping (or_step (enter (note_loop names up) (after_part (note_loop names up) next) (what_of t.kind t.text.now) t.place) (step q (seen t))) t.place ts) n
    ∙ ap (λ z. stepping (or_step (enter (note_loop names up) (after_part (note_loop names up) next) z t.place) (step (await 0 close_mark these) (token z t.place))) t.place ts) w
    ∙ ap (λ s. stepping s t.place ts) (or_none (note_enter names up (after_part (note_loop names up) next) k t.place))

pub note_at_close : (names : List (List ℕ)) (up : ℕ) (these : Place → Plan) (next : List NoteTree → ℕ → Plan) (t : Token) (ts : List Token) → next [] 0 ≡ await 0 close_mark these → what_of t.kind t.text.now ≡ fixed close_mark → reading (many (note_loop names up) next) (t ∷ ts) ≡ reading (these t.place) ts
note_at_close names up these next t ts n w =
    ap (λ q. stepping (or_step (enter (note_loop names up) (after_part (note_loop names up) next) (what_of t.kind t.text.now) t.place) (step q (seen t))) t.place ts) n
    ∙ ap (λ z. stepping (or_step (enter (note_loop names up) (after_part (note_loop names up) next) z t.place) (step (await 0 close_mark these) (token z t.place))) t.place ts) w
