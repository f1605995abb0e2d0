-- The placed sites of a function are its tokens: each has a token of its kind, and there are as many of each kind.
use Rattle.std.proofs.Common.{◌≡◌, ℕ, ◌+◌, ◌<◌, ◌≤◌, Bool, true, false, not, ◌&&◌, cond, List, [], ◌∷◌, ◌++◌, length, Option, None, refl, sym, ap, ◌∙◌, subst, arith}
use Rattle.std.proofs.lemmas.List.Sums.{sum_by-cons}
use Rattle.std.proofs.lemmas.Bool.{le-ltb, eq-eqb}
use Rattle.std.specs.Prelude.{count_by}
use Rattle.std.specs.List.{AllByRecursion}
use Rattle.gc0_base.specs.declared.place.Place.{Place}
use Rattle.gc0_base.specs.declared.site.Site.{Site}
use Rattle.gc0_base.specs.declared.site.Kind.{Kind}
use Rattle.gc0_base.specs.declared.site.Kind.TheVariants as kind
use Rattle.gc0_tree.specs.Tree.{Function}
use Rattle.gc0_tree.specs.Sites.{token_if, is_start, is_requires, is_ensures, is_head, is_assert, is_fold, is_unfold, is_access, is_trap, text_key, is_before, ordinal, sites_of}
use Rattle.core_meaning.specs.CoreSited.{kind_number, same_kind}
use Rattle.core_tables.specs.declared.PlacedSite.{PlacedSite}
use Rattle.lowering_laws.specs.Tables.{placed, placed_if}

-- ---- how many pass a test
abbrev pub how_many : {X : Type 0} → (X → Bool) → List X → ℕ
how_many test [] = 0
how_many test (x ∷ xs) = cond (test x) 1 0 + how_many test xs

pub how_many_is : {X : Type 0} (test : X → Bool) (xs : List X) → count_by test xs ≡ how_many test xs
how_many_is test [] = refl
how_many_is test (x ∷ xs) = sum_by-cons (λ x. cond (test x) 1 0) x xs ∙ ap (λ n. cond (test x) 1 0 + n) (how_many_is test xs)

pub how_many_both : {X : Type 0} (test : X → Bool) (xs ys : List X) → how_many test (xs ++ ys) ≡ how_many test xs + how_many test ys
how_many_both test [] ys = omega arith
how_many_both test (x ∷ xs) ys = let rest = how_many_both test xs ys in omega arith

pub all_pass : {X : Type 0} (xs : List X) → how_many (λ x. true) xs ≡ length xs
all_pass [] = refl
all_pass (x ∷ xs) = let rest = all_pass xs in omega arith

abbrev pub one_if : Bool → ℕ
one_if b = cond b 1 0

pub is_one : (b : Bool) → b ≡ true → one_if b ≡ 1
is_one b h = ap one_if h

pub is_none : (b : Bool) → b ≡ false → one_if b ≡ 0
is_none b h = ap one_if h

one_or_other : (b : Bool) → cond b 1 0 + cond (not b) 1 0 ≡ 1
one_or_other true = refl
one_or_other false = refl

pub pass_or_not : {X : Type 0} (test : X → Bool) (xs : List X) → how_many test xs + how_many (λ x. not (test x)) xs ≡ length xs
pass_or_not test [] = refl
pass_or_not test (x ∷ xs) = let rest = pass_or_not test xs in let here = one_or_other (test x) in omega arith

-- the same lists in another order
pub front : {X : Type 0} (test : X → Bool) (a b : List X) → how_many test (b ++ a) ≡ how_many test a + how_many test b
front test a b = omega (arith, how_many_both test b a)

pub rotated : {X : Type 0} (test : X → Bool) (a b c : List X) → how_many test (c ++ (a ++ b)) ≡ how_many test a + how_many test (b ++ c)
rotated test a b c = omega (arith, how_many_both test c (a ++ b), how_many_both test a b, how_many_both test b c)

pub regrouped : {X : Type 0} (test : X → Bool) (a b c : List X) → how_many test ((a ++ b) ++ c) ≡ how_many test a + how_many test (b ++ c)
regrouped test a b c = omega (arith, how_many_both test (a ++ b) c, how_many_both test a b, how_many_both test b c)

pub for_order : {X : Type 0} (test : X → Bool) (h a c l b : List X) → how_many test (h ++ (a ++ (c ++ (l ++ b)))) ≡ how_many test a + how_many test (h ++ (c ++ (b ++ l)))
for_order test h a c l b =
    omega (
      arith,
      how_many_both test h (a ++ (c ++ (l ++ b))),
      how_many_both test a (c ++ (l ++ b)),
      how_many_both test c (l ++ b),
      how_many_both test l b,
      how_many_both test h (c ++ (b ++ l)),
      how_many_both test c (b ++ l),
      how_many_both test b l,
    )

pub all_both : {X : Type 0} (P : X → Type 0) (xs ys : List X) → AllByRecursion P xs → AllByRecursion P ys → AllByRecursion P (xs ++ ys)
all_both P [] ys a b = b
all_both P (x ∷ xs) ys a b = (a.0, all_both P xs ys a.1 b)

pub all_to : {X : Type 0} (P Q : X → Type 0) (xs : List X) → ((x : X) → P x → Q x) → AllByRecursion P xs → AllByRecursion Q xs
all_to P Q [] h a = tt
all_to P Q (x ∷ xs) h a = (h x a.0, all_to P Q xs h a.1)

-- ---- kinds
pub same_kind_refl : (k : Kind) → same_kind k k ≡ true
same_kind_refl k = eq-eqb (kind_number k) (kind_number k) refl

pub of_requires : (k : Kind) → is_requires k ≡ same_kind kind.Requires k
of_requires kind.Requires = refl
of_requires k = refl

pub of_ensures : (k : Kind) → is_ensures k ≡ same_kind kind.Ensures k
of_ensures kind.Ensures = refl
of_ensures k = refl

pub of_assert : (k : Kind) → is_assert k ≡ same_kind kind.Assert k
of_assert kind.Assert = refl
of_assert k = refl

pub of_fold : (k : Kind) → is_fold k ≡ same_kind kind.Fold k
of_fold kind.Fold = refl
of_fold k = refl

pub of_unfold : (k : Kind) → is_unfold k ≡ same_kind kind.Unfold k
of_unfold kind.Unfold = refl
of_unfold k = refl

pub of_access : (k : Kind) → is_access k ≡ same_kind kind.Access k
of_access kind.Access = refl
of_access k = refl

pub of_trap : (k : Kind) → is_trap k ≡ same_kind kind.Trap k
of_trap kind.Trap = refl
of_trap k = refl

pub and_true : (b : Bool) → (b && true) ≡ b
and_true true = refl
and_true false = refl

pub and_false : (b : Bool) → (b && false) ≡ false
and_false true = refl
and_false false = refl

pub never_before : (at : Place) → is_before at at ≡ false
never_before at = le-ltb (text_key at) (text_key at) (omega arith)

-- ---- a placed site, and the tokens of its part
module _ (g : ℕ) (f : Function) where
  -- Its number counts the tokens before it, and `more` of its own place. So many of its kind don't come before it.
  pub record IsFree (T : Kind → List Place) (x : PlacedSite) : Type 0 where
    pub more : ℕ
    pub site : x.site ≡ record { function = g; kind = x.site.kind; ordinal = ordinal f x.site.kind x.place + more }
    pub free : more < how_many (λ t. not (is_before t x.place)) (T x.site.kind)
    pub no_start : is_start x.site.kind ≡ false

  pub record Counted (T : Kind → List Place) (xs : List PlacedSite) : Type 0 where
    pub all : AllByRecursion (IsFree T) xs
    pub count : (k : Kind) → how_many (λ x. same_kind x.site.kind k) xs ≡ length (T k)

  pub widened : (T V : Kind → List Place) (x : PlacedSite) → ((k : Kind) (test : Place → Bool) → how_many test (T k) ≤ how_many test (V k)) → IsFree T x → IsFree V x
  widened T V x h a = record { more = a.more; site = a.site; free = (let le = h x.site.kind (λ t. not (is_before t x.place)) in let lt = a.free in omega arith); no_start = a.no_start }

  pub all_widened : (T V : Kind → List Place) (xs : List PlacedSite) → ((k : Kind) (test : Place → Bool) → how_many test (T k) ≤ how_many test (V k)) → AllByRecursion (IsFree T) xs → AllByRecursion (IsFree V) xs
  all_widened T V xs h all = all_to (IsFree T) (IsFree V) xs (λ x a. widened T V x h a) all

  -- the tokens of the whole are those of the parts, in some order
  pub joined : (V T U : Kind → List Place) (xs ys : List PlacedSite) → ((k : Kind) (test : Place → Bool) → how_many test (V k) ≡ how_many test (T k) + how_many test (U k)) →
      Counted T xs → Counted U ys → Counted V (xs ++ ys)
  joined V T U xs ys h a b = record {
    all = all_both (IsFree V) xs ys
        (all_widened T V xs (λ k test. (let e = h k test in omega arith)) a.all)
        (all_widened U V ys (λ k test. (let e = h k test in omega arith)) b.all);
    count = λ k. (
        let e = h k (λ t. true) in
        let i = a.count k in
        let j = b.count k in
        omega (arith, how_many_both (λ (x : PlacedSite). same_kind x.site.kind k) xs ys, all_pass (V k), all_pass (T k), all_pass (U k))
        );
  }

  pub none : Counted (λ k. []) []
  none = record { all = tt; count = λ k. refl }

  -- with other tokens that count the same
  pub retold : (V T : Kind → List Place) (xs : List PlacedSite) → ((k : Kind) (test : Place → Bool) → how_many test (V k) ≡ how_many test (T k)) → Counted T xs → Counted V xs
  retold V T xs h a = record {
    all = all_widened T V xs (λ k test. (let e = h k test in omega arith)) a.all;
    count = λ k. (let e = h k (λ t. true) in let i = a.count k in omega (arith, all_pass (V k), all_pass (T k)));
  }

  one_count : (b : Bool) (at : Place) → cond b 1 0 + 0 ≡ length (token_if b at)
  one_count true at = refl
  one_count false at = refl

  one_free : (b : Bool) (at : Place) → b ≡ true → 0 < how_many (λ t. not (is_before t at)) (token_if b at)
  one_free b at e = subst (λ b. 0 < how_many (λ t. not (is_before t at)) (token_if b at)) (sym e) (subst (λ c. 0 < cond (not c) 1 0 + 0) (sym (never_before at)) (omega arith))

  pub of_site : (k : Kind) (at : Place) → sites_of g f k at ≡ record { function = g; kind = k; ordinal = ordinal f k at + 0 }
  of_site k at = ap (λ (n : ℕ). let s : Site = record { function = g; kind = k; ordinal = n } in s) (let e : ordinal f k at ≡ ordinal f k at + 0 = omega arith in e)

  pub single : (j : Kind) (test : Kind → Bool) → ((k : Kind) → test k ≡ same_kind j k) → is_start j ≡ false → (about : Option ℕ) (at : Place) →
      Counted (λ k. token_if (test k) at) (record { site = sites_of g f j at; about = about; place = at } ∷ [])
  single j test h start about at = record {
    all = (record { more = 0; site = of_site j at; free = one_free (test j) at (h j ∙ same_kind_refl j); no_start = start }, tt);
    count = λ k. ap (λ b. cond b 1 0 + 0) (sym (h k)) ∙ one_count (test k) at;
  }

  pub trap_if : (b : Bool) (at : Place) → Counted (λ k. token_if (is_trap k && b) at) (placed_if b (sites_of g f kind.Trap at) at)
  trap_if true at = single kind.Trap (λ k. is_trap k && true) (λ k. and_true (is_trap k) ∙ of_trap k) refl None at
  trap_if false at = record { all = tt; count = λ k. sym (ap (λ b. length (token_if b at)) (and_false (is_trap k))) }

  heads_count : (k : Kind) (at : Place) → cond (same_kind kind.Entry k) 1 0 + (cond (same_kind kind.Again k) 1 0 + 0) ≡ length (token_if (is_head k) at)
  heads_count kind.Entry at = refl
  heads_count k at = refl

  -- a loop has one token of each kind
  pub heads : (at : Place) → Counted (λ k. token_if (is_head k) at) (placed (sites_of g f kind.Entry at) at ++ placed (sites_of g f kind.Again at) at)
  heads at = record {
    all = (
      record { more = 0; site = of_site kind.Entry at; free = one_free true at refl; no_start = refl },
      (record { more = 0; site = of_site kind.Again at; free = one_free true at refl; no_start = refl }, tt),
    );
    count = λ k. heads_count k at;
  }
