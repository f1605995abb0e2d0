-- Laws of readings: what a part answers the whole answers, and what a plan does with the first tokens.
use Rattle.std.proofs.Common.{◌≡◌, Result, sym, subst, ℕ, ◌≤◌, ◌<◌, true, false, cond, List, [], ◌∷◌, length, None, Err, refl, ap, ◌∙◌, arith}
use Rattle.parsed_tree.specs.Tree.{ProgramTree}
use Rattle.c0_grammar.specs.Plan.{Fault, Plan, await, peek, text, peek_text, text_step, Step, node, deep_at, step}
use Rattle.c0_cursor.specs.declared.fault.Stop.{Stop}
use Rattle.c0_cursor.specs.Seen.{FailsAs, Parsed, starts, is_text, starts_text, reading, stepping}
use Rattle.std.proofs.lemmas.Bool.{le-leb, lt-leb}
use Rattle.gc0_base.specs.declared.place.Place.{Place}
use Rattle.c0_lex.specs.declared.token.Token.{Token}
use Rattle.parsed_tree.specs.declared.expressions.Text.{Text}
use Rattle.c0_grammar.specs.Tokens.{Fixed, What, fixed, name_what, number_what, text_what}
use Rattle.c0_grammar.specs.Seen.{what_of, seen}
use Rattle.gc0_base.specs.declared.limits.TheConstants.Limits as limits

-- ---- a part and the whole
-- a fault of a part is the fault of the whole
pub fails_as : (whole part : Result ProgramTree Fault) (e : Stop) → whole ≡ part → FailsAs part e → FailsAs whole e
fails_as whole part e same f = subst (λ r. FailsAs r e) (sym same) f

-- what a part answers, the whole answers
pub along : {X : Type 0} (rest : X → Result ProgramTree Fault) (whole part : Result ProgramTree Fault) (r : Result X Stop) → whole ≡ part → Parsed rest part r → Parsed rest whole r
along rest whole part r same f = subst (λ w. Parsed rest w r) (sym same) f

-- ---- one step
pub step_on : (reach : ℕ) (q : Plan) (at : Place) (ts : List Token) → reach ≤ limits.NESTING → stepping (node reach q) at ts ≡ reading q ts
step_on reach q at ts h = ap (λ b. cond b (reading q ts) (Err (deep_at at))) (le-leb reach limits.NESTING h)

pub step_deep : (reach : ℕ) (q : Plan) (at : Place) (ts : List Token) → limits.NESTING < reach → stepping (node reach q) at ts ≡ Err (deep_at at)
step_deep reach q at ts h = ap (λ b. cond b (reading q ts) (Err (deep_at at))) (lt-leb reach limits.NESTING h)

-- ---- looks
pub peek_await : (reach : ℕ) (f : Fixed) (these : Place → Plan) (others : Plan) (ts : List Token) → starts f ts ≡ true → reading (peek reach f these others) ts ≡ reading (await reach f these) ts
peek_await reach f these others [] e = cc
peek_await reach f these others (t ∷ ts) e =
    ap (λ b. stepping (cond b (node reach (these t.place)) (step others (seen t))) t.place ts) e
    ∙ sym (ap (λ b. stepping (cond b (node reach (these t.place)) None) t.place ts) e)

pub not_first : (reach : ℕ) (f : Fixed) (these : Place → Plan) (others : Plan) (ts : List Token) → starts f ts ≡ false → reading (peek reach f these others) ts ≡ reading others ts
not_first reach f these others [] e = refl
not_first reach f these others (t ∷ ts) e = ap (λ b. stepping (cond b (node reach (these t.place)) (step others (seen t))) t.place ts) e

text_there : (these : Text → Plan) (other : Step) (w : What) (at : Place) → is_text w ≡ true → text_step these other w at ≡ text_step these None w at
text_there these other (text_what b) at e = refl
text_there these other (fixed f) at e = cc
text_there these other (name_what n) at e = cc
text_there these other (number_what w) at e = cc

text_absent : (these : Text → Plan) (other : Step) (w : What) (at : Place) → is_text w ≡ false → text_step these other w at ≡ other
text_absent these other (text_what b) at e = cc
text_absent these other (fixed f) at e = refl
text_absent these other (name_what n) at e = refl
text_absent these other (number_what w) at e = refl

pub text_first : (these : Text → Plan) (others : Plan) (ts : List Token) → starts_text ts ≡ true → reading (peek_text these others) ts ≡ reading (text these) ts
text_first these others [] e = cc
text_first these others (t ∷ ts) e = ap (λ s. stepping s t.place ts) (text_there these (step others (seen t)) (what_of t.kind t.text.now) t.place e)

pub no_text : (these : Text → Plan) (others : Plan) (ts : List Token) → starts_text ts ≡ false → reading (peek_text these others) ts ≡ reading others ts
no_text these others [] e = refl
no_text these others (t ∷ ts) e = ap (λ s. stepping s t.place ts) (text_absent these (step others (seen t)) (what_of t.kind t.text.now) t.place e)

pub none_left : (ts : List Token) → length ts ≡ 0 → ts ≡ []
none_left [] e = refl
none_left (t ∷ ts) e = absurd (omega (arith, e))
