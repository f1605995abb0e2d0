-- The decisions of a call, from the choices that are kept of its callee.
use Rattle.std.proofs.Common.{◌≡◌, ◌+◌, ℕ, suc, List, [], ◌∷◌, ◌++◌, length, map, Option, Some, None, slice_get, refl, sym, ap, subst, ◌∙◌, arith}
use Rattle.std.specs.Option.{option_map}
use Rattle.std.proofs.lemmas.Option.{slice_get-map}
use Rattle.gc0_base.specs.declared.place.Place.{Place}
use Rattle.gc0_base.specs.declared.site.Site.{Site}
use Rattle.gc0_tree.specs.Tree.{Function}
use Rattle.core_tree.specs.declared.Phase.TheVariants.{Produce, Consume}
use Rattle.core_tree.specs.declared.DecisionAt.{DecisionAt}
use Rattle.core_tree.specs.CoreTree.{no_code}
use Rattle.core_meaning.specs.Choices.{choices}
use Rattle.core_tables.specs.SiteTables.{choices_at}
use Rattle.formula_choices.specs.ChoicePlaces.{choice_places}
use Rattle.lowering_laws.specs.Counts.{Counts, choices_in, decided, call_choices}
use Rattle.lowering_laws.specs.Tables.{call_decisions}
use Rattle.core_expressions.specs.declared.written.Written.{Written}
use Rattle.core_expressions.specs.Writing.{StandsFor, IsWritten}
use Rattle.core_expressions.proofs.Joins.{alike, counted_alike, followed, nothing}

-- ---- what is kept of a function
abbrev pub places_before : Function → List Place
places_before f = choice_places f.before.parts

abbrev pub places_after : Function → List Place
places_after f = choice_places f.after.parts

pub kept_at : (h : Function → List Place) (fs : List Function) (g : ℕ) (kept : List (List Place)) (found : Option (List Place)) →
    kept ≡ map h fs → found ≡ slice_get kept g → found ≡ option_map h (slice_get fs g)
kept_at h fs g kept found e at = at ∙ ap (λ (l : List (List Place)). slice_get l g) e ∙ slice_get-map h fs g

given : {A : Type 0} (x y : A) → Some x ≡ Some y → x ≡ y
given {A = A} x y e = ap (λ o. or x o) e
  where
    or : A → Option A → A
    or z None = z
    or z (Some v) = v

none_some : {A : Type 0} (x : A) → None ≡ Some x → ⊥
none_some {A = A} x e = subst holds e tt
  where
    holds : Option A → Type 0
    holds None = Unit {0}
    holds (Some y) = ⊥

some_none : {A : Type 0} (x : A) → Some x ≡ None → ⊥
some_none x e = none_some x (sym e)

length_map : {A B : Type 0} (f : A → B) (xs : List A) → length (map f xs) ≡ length xs
length_map f [] = refl
length_map f (x ∷ xs) = ap (λ n. suc n) (length_map f xs)

-- ---- decisions
plus_zero : (n : ℕ) → n ≡ n + 0
plus_zero n = omega arith

plus_assoc : (a b d : ℕ) → a + b + d ≡ a + (b + d)
plus_assoc a b d = omega arith

none_more : (k : Counts) → k ≡ decided 0 k
none_more k = ap (λ (n : ℕ). record { used = k.used; next = n }) (plus_zero k.next)

both_more : (a b : ℕ) (k : Counts) → decided b (decided a k) ≡ decided (a + b) k
both_more a b k = ap (λ (n : ℕ). record { used = k.used; next = n }) (plus_assoc k.next a b)

-- no function, and so no choice
nothing_called : (o : Written) (k : Counts) (site : Site) → StandsFor o k → IsWritten o o (decided (call_choices None) k) no_code (call_decisions site None) []
nothing_called o k site s = counted_alike (nothing o k s) (none_more k)

pub none_before : (f : Option Function) (o : Written) (k : Counts) (site : Site) → None ≡ option_map places_before f → StandsFor o k →
    IsWritten o o (decided (call_choices f) k) no_code (call_decisions site f) []
none_before None o k site e s = nothing_called o k site s
none_before (Some f) o k site e s = absurd (none_some (places_before f) e)

pub none_after : (f : Option Function) (o : Written) (k : Counts) (site : Site) → None ≡ option_map places_after f → StandsFor o k →
    IsWritten o o (decided (call_choices f) k) no_code (call_decisions site f) []
none_after None o k site e s = nothing_called o k site s
none_after (Some f) o k site e s = absurd (none_some (places_after f) e)

pub called : (f : Option Function) (a b d : Written) (k : Counts) (site : Site) (before after : List Place) →
    Some before ≡ option_map places_before f → Some after ≡ option_map places_after f →
    IsWritten a b (decided (length before) k) no_code (choices_at site Consume 0 before) [] →
    IsWritten b d (decided (length after) (decided (length before) k)) no_code (choices_at site Produce 0 after) [] →
    IsWritten a d (decided (call_choices f) k) no_code (call_decisions site f) []
called None a b d k site before after eb ea v w = absurd (some_none before eb)
called (Some f) a b d k site before after eb ea v w =
    let is_before : before ≡ places_before f = given before (places_before f) eb in
    let is_after : after ≡ places_after f = given after (places_after f) ea in
    let count : List Place → List Place → Counts = λ x y. decided (length x + length y) k in
    let shown : List Place → List Place → List DecisionAt = λ x y. choices_at site Consume 0 x ++ choices_at site Produce 0 y in
    let told : ℕ → ℕ → Counts = λ n m. decided (n + m) k in
    counted_alike
    (alike (followed v w) refl (ap (λ (x : List Place). shown x after) is_before ∙ ap (λ (y : List Place). shown (places_before f) y) is_after) refl)
    (both_more (length before) (length after) k
    ∙ ap (λ (x : List Place). count x after) is_before ∙ ap (λ (y : List Place). count (places_before f) y) is_after
    ∙ ap (λ (n : ℕ). told n (length (places_after f))) (length_map (λ x. x.place) (choices f.before.parts))
    ∙ ap (λ (n : ℕ). told (choices_in f.before) n) (length_map (λ x. x.place) (choices f.after.parts)))
