-- The `*` of a type, of which so many stand before.
use Rattle.std.proofs.Common.{◌≡◌, ℕ, ◌+◌, max, true, false, cond, List, [], ◌∷◌, length, None, refl, sym, ap, ◌∙◌, arith}
use Rattle.gc0_base.specs.declared.place.Place.{Place}
use Rattle.c0_lex.specs.declared.token.Token.{Token}
use Rattle.c0_lex.specs.declared.token.Symbol.TheVariants as mark
use Rattle.parsed_tree.specs.declared.expressions.Base.{Base}
use Rattle.parsed_tree.specs.declared.expressions.TypeName.{TypeName}
use Rattle.c0_grammar.specs.Tokens.{sign_mark, What, fixed, name_what, number_what, text_what}
use Rattle.c0_grammar.specs.Plan.{is, star_loop, Plan, await, many, stars, or_step, enter, after_part, node, step}
use Rattle.c0_cursor.specs.Seen.{starts, reading, stepping}
use Rattle.c0_grammar.specs.Seen.{what_of, seen}

abbrev pub starred : Place → Base → ℕ → (TypeName → Plan) → Plan
starred at b n next = many star_loop (λ ps d. next (record { place = at; base = b; stars = n + length ps }))

abbrev star_next : Place → Base → ℕ → (TypeName → Plan) → List Place → ℕ → Plan
star_next at b n next ps d = next (record { place = at; base = b; stars = n + length ps })

star_more : (at : Place) (b : Base) (n : ℕ) (next : TypeName → Plan) (p : Place) → ◌≡◌ {A = List Place → ℕ → Plan} (λ ps d. star_next at b n next (p ∷ ps) (max 0 d)) (star_next at b (n + 1) next)
star_more at b n next p = λ i ps d. next (record { place = at; base = b; stars = sums ps i })
  where
    sums : (ps : List Place) → n + length (p ∷ ps) ≡ n + 1 + length ps
    sums ps = omega arith

star_is : (w : What) → is (sign_mark mark.Star) w ≡ true → w ≡ fixed (sign_mark mark.Star)
star_is (fixed (sign_mark mark.Star)) e = refl
star_is (fixed f) e = cc
star_is (name_what n) e = cc
star_is (number_what w) e = cc
star_is (text_what b) e = cc

pub star_on : (at : Place) (b : Base) (n : ℕ) (next : TypeName → Plan) (ts : List Token) → starts (sign_mark mark.Star) ts ≡ true → reading (starred at b n next) ts ≡ reading (await 0 (sign_mark mark.Star) (λ p. starred at b (n + 1) next)) ts
star_on at b n next [] e = cc
star_on at b n next (t ∷ ts) e =
    ap (λ w. stepping (or_step (enter star_loop (after_part star_loop (star_next at b n next)) w t.place) (step (star_next at b n next [] 0) (seen t))) t.place ts) (star_is (what_of t.kind t.text.now) e)
    ∙ ap (λ k. reading (many star_loop k) ts) (star_more at b n next t.place)
    ∙ sym (ap (λ b'. stepping (cond b' (node 0 (starred at b (n + 1) next)) None) t.place ts) e)

pub star_first : (at : Place) (b : Base) (next : TypeName → Plan) (ts : List Token) → reading (stars at b next) ts ≡ reading (starred at b 0 next) ts
star_first at b next ts = ap (λ k. reading (many star_loop k) ts) counts
  where
    none : (ps : List Place) → length ps ≡ 0 + length ps
    none ps = omega arith

    counts : ◌≡◌ {A = List Place → ℕ → Plan} (λ ps d. next (record { place = at; base = b; stars = length ps })) (star_next at b 0 next)
    counts = λ i ps d. next (record { place = at; base = b; stars = none ps i })

no_star : (w : What) (next : Place → ℕ → Plan) (at : Place) → is (sign_mark mark.Star) w ≡ false → enter star_loop next w at ≡ None
no_star (fixed (sign_mark mark.Star)) next at e = cc
no_star (fixed f) next at e = refl
no_star (name_what n) next at e = refl
no_star (number_what w) next at e = refl
no_star (text_what b) next at e = refl

and_none : (n : ℕ) → n + 0 ≡ n
and_none n = omega arith

pub star_end : (at : Place) (b : Base) (n : ℕ) (next : TypeName → Plan) (ts : List Token) → starts (sign_mark mark.Star) ts ≡ false → reading (starred at b n next) ts ≡ reading (next (record { place = at; base = b; stars = n })) ts
star_end at b n next [] e = ap (λ m. reading (next (record { place = at; base = b; stars = m })) []) (and_none n)
star_end at b n next (t ∷ ts) e =
    ap (λ s. stepping (or_step s (step (star_next at b n next [] 0) (seen t))) t.place ts) (no_star (what_of t.kind t.text.now) (after_part star_loop (star_next at b n next)) t.place e)
    ∙ ap (λ m. reading (next (record { place = at; base = b; stars = m })) (t ∷ ts)) (and_none n)
