-- What the worklist keeps, and what it says at its end.
use Rattle.std.proofs.Common.{◌≡◌, ◌<◌, ◌≤◌, ◌+◌, ℕ, Bool, true, false, ◌||◌, eqb, Option, Some, None, List, map, length, get_or, replicate, inl, inr, refl, sym, ap, subst, ◌∙◌, cond, arith}
use Rattle.std.specs.Prelude.{IsTrue, IsFalse, slice_get}
use Rattle.std.proofs.lemmas.Bool.{cases_lt, false≢true}
use Rattle.std.proofs.lemmas.List.{get_or-replicate, length-replicate}
use Rattle.std.proofs.lemmas.List.Folds.{sum_by-replicate}
use Rattle.std.proofs.lemmas.List.Sums.{count_by-le-length}
use Rattle.std.proofs.lemmas.Option.{slice_get_within, slice_get-map}
use Rattle.std.proofs.lemmas.Bool.Decides.{Decides-eqb}
use Rattle.std.specs.Option.{option_map}
use Rattle.gc0_tree.specs.declared.Function as code
use Rattle.gc0_tree.specs.Views.{function_view}
use Rattle.gc0_tree.specs.Tree.{Function, Program}
use Rattle.c0_meaning.specs.declared.plain.Reached.{Reached}
use Rattle.c0_meaning.specs.Precision.{stmts_call, is_open, Reaches, itself, through, IsPlain}
use Rattle.c0_meaning.specs.Marking.{has, Queued, Follows}

-- what was reached is reached by calls
pub record Sound (p : Program) (f : ℕ) (r : Reached) : Type 0 where
  pub reaches : (g : ℕ) → g < 512 → IsTrue (has r g) → Reaches p f g

-- the first n of the queue are closed, and what they call was reached
pub record Done (p : Program) (r : Reached) (n : ℕ) : Type 0 where
  pub closed : (k : ℕ) → k < n → (fn : Function) → slice_get p.functions (get_or r.queue k 0) ≡ Some fn → IsFalse (is_open fn)
  pub called : (k : ℕ) → k < n → (fn : Function) → slice_get p.functions (get_or r.queue k 0) ≡ Some fn → (g : ℕ) → IsTrue (stmts_call g fn.body) → IsTrue (has r g)

-- one call more
further : (p : Program) {f g : ℕ} (h : ℕ) (fn : Function) → Reaches p f g → slice_get p.functions g ≡ Some fn → IsTrue (stmts_call h fn.body) → Reaches p f h
further p h fn (itself f) s c = through f h h fn s c (itself h)
further p h fn (through f i g gn t d rest) s c = through f i h gn t d (further p h fn rest s c)

or_left : (x y : Bool) → x ≡ true → (x || y) ≡ true
or_left x y e = ap (λ z. z || y) e

or_right : (x y : Bool) → y ≡ true → (x || y) ≡ true
or_right true y e = refl
or_right false y e = e

same_some : {A : Type 0} (o : Option A) (x y : A) → o ≡ Some x → o ≡ Some y → x ≡ y
same_some o x y e d = cc

none_some : {A : Type 0} {X : Type 0} (o : Option A) (x : A) → o ≡ None → o ≡ Some x → X
none_some o x e d = absurd (cc)

pub bounded : (r : Reached) → Queued r → r.count ≤ 512
bounded r q = omega (arith, count_by-le-length (λ b. b) r.marked, q.counted, q.places)

pub none_done : (p : Program) (r : Reached) → Done p r 0
none_done p r = record {
  closed = λ k low. absurd (omega (arith, low));
  called = λ k low. absurd (omega (arith, low));
}

-- a number that no function has
pub done_past : (p : Program) (r : Reached) (n : ℕ) → slice_get p.functions (get_or r.queue n 0) ≡ None → Done p r n → Done p r (n + 1)
done_past p r n none d = record {
  closed = λ k low fn s. elim (cases_lt k n) [
    | inl l ↦ d.closed k l fn s
    | inr l ↦
        let e : k ≡ n = omega arith in none_some (slice_get p.functions (get_or r.queue n 0)) fn none (ap (λ i. slice_get p.functions (get_or r.queue i 0)) (sym e) ∙ s)
  ];
  called = λ k low fn s g c. elim (cases_lt k n) [
    | inl l ↦ d.called k l fn s g c
    | inr l ↦
        let e : k ≡ n = omega arith in none_some (slice_get p.functions (get_or r.queue n 0)) fn none (ap (λ i. slice_get p.functions (get_or r.queue i 0)) (sym e) ∙ s)
  ];
}

-- a function that is closed, whose calls were marked
pub done_more : (p : Program) (r s : Reached) (n : ℕ) (fn : Function) → slice_get p.functions (get_or r.queue n 0) ≡ Some fn → is_open fn ≡ false → n < r.count → Follows r s
    → ((g : ℕ) → has s g ≡ (has r g || stmts_call g fn.body)) → Done p r n → Done p s (n + 1)
done_more p r s n fn at shut low f marks d =
    let same : (k : ℕ) → k < r.count → (gn : Function) → slice_get p.functions (get_or s.queue k 0) ≡ Some gn → slice_get p.functions (get_or r.queue k 0) ≡ Some gn
    = λ k l gn e. ap (λ i. slice_get p.functions i) (sym (f.kept k l)) ∙ e in
    let this : (k : ℕ) → k ≡ n → (gn : Function) → slice_get p.functions (get_or s.queue k 0) ≡ Some gn → gn ≡ fn
    = λ k e gn t. same_some (slice_get p.functions (get_or r.queue n 0)) gn fn (ap (λ i. slice_get p.functions (get_or r.queue i 0)) (sym e) ∙ same k (omega (arith, e, low)) gn t) at in
    record {
      closed = λ k l gn t. elim (cases_lt k n) [
        | inl less ↦ d.closed k less gn (same k (omega arith) gn t)
        | inr more ↦ let e : k ≡ n = omega arith in ap (λ x. is_open x) (this k e gn t) ∙ shut
      ];
      called = λ k l gn t g c. elim (cases_lt k n) [
        | inl less ↦ marks g ∙ or_left (has r g) (stmts_call g fn.body) (d.called k less gn (same k (omega arith) gn t) g c)
        | inr more ↦ let e : k ≡ n = omega arith in marks g ∙ or_right (has r g) (stmts_call g fn.body) (ap (λ (x : Function). stmts_call g x.body) (sym (this k e gn t)) ∙ c)
      ];
    }

pub at_next : (p : Program) (f : ℕ) (r : Reached) (n : ℕ) (fn : Function) → length p.functions ≤ 512 → Queued r → Sound p f r → n < r.count
    → slice_get p.functions (get_or r.queue n 0) ≡ Some fn → Reaches p f (get_or r.queue n 0)
at_next p f r n fn few q s low at =
    let within : get_or r.queue n 0 < length p.functions = slice_get_within p.functions (get_or r.queue n 0) fn at in
    s.reaches (get_or r.queue n 0) (omega arith) (q.only n low)

or_cases : {X : Type 0} (x y : Bool) → (x || y) ≡ true → (x ≡ true → X) → (y ≡ true → X) → X
or_cases true y e l r = l refl
or_cases false y e l r = r e

pub sound_more : (p : Program) (f : ℕ) (r s : Reached) (n : ℕ) (fn : Function) → length p.functions ≤ 512 → Queued r → n < r.count
    → slice_get p.functions (get_or r.queue n 0) ≡ Some fn → ((g : ℕ) → has s g ≡ (has r g || stmts_call g fn.body)) → Sound p f r → Sound p f s
sound_more p f r s n fn few q low at marks so = record {
  reaches = λ g l there. or_cases (has r g) (stmts_call g fn.body) (sym (marks g) ∙ there)
      (λ old. so.reaches g l old)
      (λ called. further p g fn (at_next p f r n fn few q so low at) at called);
}

-- what is reached by calls was reached, at the end
all_reached : (p : Program) (r : Reached) (n : ℕ) {f g : ℕ} → length p.functions ≤ 512 → Queued r → Done p r n → r.count ≤ n → Reaches p f g → IsTrue (has r f) → IsTrue (has r g)
all_reached p r n few q d over (itself f) there = there
all_reached p r n few q d over (through f h g fn s c rest) there =
    let within : f < length p.functions = slice_get_within p.functions f fn s in
    let w = q.found f (omega arith) there in
    all_reached p r n few q d over rest (d.called w.0 (omega (arith, w.1)) fn (ap (λ i. slice_get p.functions i) w.2 ∙ s) h c)

pub plain_at_end : (p : Program) (r : Reached) (n f : ℕ) → length p.functions ≤ 512 → Queued r → Done p r n → r.count ≤ n → IsTrue (has r f) → IsPlain p f
plain_at_end p r n f few q d over there g fn reaches s =
    let within : g < length p.functions = slice_get_within p.functions g fn s in
    let w = q.found g (omega arith) (all_reached p r n few q d over reaches there) in
    d.closed w.0 (omega (arith, w.1)) fn (ap (λ i. slice_get p.functions i) w.2 ∙ s)

pub open_at_next : (p : Program) (f : ℕ) (r : Reached) (n : ℕ) (fn : Function) → length p.functions ≤ 512 → Queued r → Sound p f r → n < r.count
    → slice_get p.functions (get_or r.queue n 0) ≡ Some fn → is_open fn ≡ true → IsPlain p f → ⊥
open_at_next p f r n fn few q s low at open_it plain = false≢true (sym (plain (get_or r.queue n 0) fn (at_next p f r n fn few q s low at) at) ∙ open_it)

-- the functions as the definitions see them
pub viewed : (fs : List code.Function) (k : ℕ) (fn : code.Function) → slice_get fs k ≡ Some fn → slice_get (map function_view fs) k ≡ Some (function_view fn)
viewed fs k fn e = slice_get-map function_view fs k ∙ ap (λ o. option_map function_view o) e

none_viewed : (o : Option code.Function) → o ≡ None → option_map function_view o ≡ None
none_viewed o e = ap (λ o. option_map function_view o) e

pub viewed_none : (fs : List code.Function) (k : ℕ) → slice_get fs k ≡ None → slice_get (map function_view fs) k ≡ None
viewed_none fs k e = slice_get-map function_view fs k ∙ none_viewed (slice_get fs k) e

all_free : (n g : ℕ) → g < n → get_or (replicate n false) g true ≡ false
all_free n g low = get_or-replicate n g false true low

-- nothing was reached yet
abbrev pub fresh : Reached
fresh = record { marked = replicate 512 false; queue = replicate 512 0; count = 0 }

pub fresh_queued : Queued fresh
fresh_queued = record {
  counted = sym (sum_by-replicate (λ b. cond b 1 0) 512 false);
  places = length-replicate 512 false;
  room = length-replicate {A = ℕ} 512 0;
  found = λ g low there. absurd (false≢true (sym (all_free 512 g low) ∙ there));
  only = λ k low. absurd (omega (arith, low));
}

pub asked_at_first : (r : Reached) (f : ℕ) → ((g : ℕ) → has r g ≡ (has fresh g || eqb f g)) → IsTrue (has r f)
asked_at_first r f marks = marks f ∙ or_right (has fresh f) (eqb f f) ((Decides-eqb f f).1 refl)

pub sound_at_first : (p : Program) (r : Reached) (f : ℕ) → ((g : ℕ) → has r g ≡ (has fresh g || eqb f g)) → Sound p f r
sound_at_first p r f marks = record {
  reaches = λ g low there. or_cases (has fresh g) (eqb f g) (sym (marks g) ∙ there)
      (λ old. absurd (false≢true (sym (all_free 512 g low) ∙ old)))
      (λ same. subst (λ h. Reaches p f h) ((Decides-eqb f g).0 same) (itself f));
}

pub asked_more : (r s : Reached) (f : ℕ) (fn : Function) → ((g : ℕ) → has s g ≡ (has r g || stmts_call g fn.body)) → IsTrue (has r f) → IsTrue (has s f)
asked_more r s f fn marks there = marks f ∙ or_left (has r f) (stmts_call f fn.body) there
