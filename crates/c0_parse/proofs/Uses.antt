-- The libraries of a text, of which some were read.
use Rattle.std.proofs.Common.{◌≡◌, ℕ, max, true, false, cond, List, [], ◌∷◌, ◌++◌, None, refl, sym, ap, ◌∙◌, append_assoc, arith}
use Rattle.gc0_base.specs.declared.place.Place.{Place}
use Rattle.c0_lex.specs.declared.token.Token.{Token}
use Rattle.parsed_tree.specs.declared.items.Library.{Library}
use Rattle.c0_grammar.specs.Tokens.{use_mark, What, fixed, name_what, number_what, text_what}
use Rattle.c0_grammar.specs.Plan.{is, use_loop, use_plan, Plan, await, many, or_step, enter, after_part, node, step}
use Rattle.c0_cursor.specs.Seen.{starts, reading, stepping}
use Rattle.c0_grammar.specs.Seen.{what_of, seen}

-- the libraries so far, in front of others
abbrev pub behind_uses : List Library → (List Library → ℕ → Plan) → List Library → ℕ → Plan
behind_uses us next others d = next (us ++ others) d

-- what follows from a library
abbrev pub after_use : List Library → (List Library → ℕ → Plan) → Library → ℕ → Plan
after_use us next = after_part use_loop (behind_uses us next)

use_is : (w : What) → is use_mark w ≡ true → w ≡ fixed use_mark
use_is (fixed use_mark) e = refl
use_is (fixed f) e = cc
use_is (name_what n) e = cc
use_is (number_what w) e = cc
use_is (text_what b) e = cc

pub use_on : (us : List Library) (next : List Library → ℕ → Plan) (ts : List Token) → starts use_mark ts ≡ true → reading (many use_loop (behind_uses us next)) ts ≡ reading (await 0 use_mark (λ p. use_plan (after_use us next))) ts
use_on us next [] e = cc
use_on us next (t ∷ ts) e =
    ap (λ w. stepping (or_step (enter use_loop (after_use us next) w t.place) (step (behind_uses us next [] 0) (seen t))) t.place ts) (use_is (what_of t.kind t.text.now) e)
    ∙ sym (ap (λ b. stepping (cond b (node 0 (use_plan (after_use us next))) None) t.place ts) e)

no_use : (w : What) (next : Library → ℕ → Plan) (at : Place) → is use_mark w ≡ false → enter use_loop next w at ≡ None
no_use (fixed use_mark) next at e = cc
no_use (fixed f) next at e = refl
no_use (name_what n) next at e = refl
no_use (number_what w) next at e = refl
no_use (text_what b) next at e = refl

append_none : (us : List Library) → us ++ [] ≡ us
append_none [] = refl
append_none (u ∷ us) = ap (λ l. u ∷ l) (append_none us)

pub use_end : (us : List Library) (next : List Library → ℕ → Plan) (ts : List Token) → starts use_mark ts ≡ false → reading (many use_loop (behind_uses us next)) ts ≡ reading (next us 0) ts
use_end us next [] e = ap (λ l. reading (next l 0) []) (append_none us)
use_end us next (t ∷ ts) e =
    ap (λ s. stepping (or_step s (step (behind_uses us next [] 0) (seen t))) t.place ts) (no_use (what_of t.kind t.text.now) (after_use us next) t.place e)
    ∙ ap (λ l. reading (next l 0) (t ∷ ts)) (append_none us)

-- one library more
pub use_more : (us : List Library) (next : List Library → ℕ → Plan) (l : Library) → ◌≡◌ {A = List Library → ℕ → Plan} (λ ls d. behind_uses us next (l ∷ ls) (max 0 d)) (behind_uses (us ++ l ∷ []) next)
use_more us next l = λ i ls d. next (sym (append_assoc us (l ∷ []) ls) i) (none_deeper d i)
  where
    none_deeper : (d : ℕ) → max 0 d ≡ d
    none_deeper d = omega arith
