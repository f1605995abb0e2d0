-- What the entries say at a visit: what is decided there.
use Rattle.std.proofs.Common.{◌≡◌, ◌<◌, ◌+◌, ℕ, zero, suc, Bool, true, false, not, ◌&&◌, ◌||◌, eqb, List, [], ◌∷◌, ◌++◌, Some, None, refl, sym, ap, subst, ◌∙◌, arith}
use Rattle.std.specs.Prelude.{Option, IfSome, is_some, if◌then◌else◌, slice_get}
use Rattle.std.specs.List.{list_all}
use Rattle.std.proofs.lemmas.Bool.{false≢true, and_parts, and_from, eqb-true, ne_eqb}
use Rattle.std.proofs.lemmas.Option.{same_Some}
use Rattle.gc0_base.specs.declared.site.Site.{Site}
use Rattle.gc0_base.specs.declared.site.Part.{Part}
use Rattle.gc0_base.specs.declared.site.Part.TheVariants.{Access, Whole}
use Rattle.gc0_tree.specs.Tree.{Conjuncts, no_parts, value_part, acc_part, instance_part, choice_part, Predicate}
use Rattle.core_tree.specs.CoreTree.{CoreFunction, Core}
use Rattle.c0_meaning.specs.Heaps.{Heap, Cells}
use Rattle.c0_meaning.specs.Holds.{holds}
use Rattle.core_meaning.specs.CoreRuns.{Visit}
use Rattle.core_meaning.specs.CoreSited.{same_kind, same_site}
use Rattle.core_meaning.specs.Stepped.{EachFrom, AreSited}
use Rattle.core_checks.specs.Entries.{Entry, entry_says, entries_say, IsRightVisit, AreRight}
use Rattle.core_checks.specs.Subjects.{Subject, of_formula, of_access, of_fault, SubjectAt, find_subject, subject_holds, subject_says, function_subjects}
use Rattle.assumption_log.specs.AllKept.{has_parts, free_entry, subject_entries, entries_of, entries_from, all_entries}
use Rattle.kept_laws.proofs.Distinct.{differs, distinct, sites_of, none_at, none_behind}
use Rattle.kept_laws.proofs.Subjects.{is_in, function_sites, function_in}

-- a formula without a conjunct holds
nothing_holds : (ps : List Predicate) (imprecise : Bool) (parts : Conjuncts) (words : List ℕ) (heap : Heap) (owned : Cells) → has_parts parts ≡ false
    → is_some (holds ps (record { imprecise = imprecise; parts = parts }) words heap owned) ≡ true
nothing_holds ps i no_parts words heap owned e = refl
nothing_holds ps i (value_part x rest) words heap owned e = absurd (false≢true (sym e))
nothing_holds ps i (acc_part x field rest) words heap owned e = absurd (false≢true (sym e))
nothing_holds ps i (instance_part at p args rest) words heap owned e = absurd (false≢true (sym e))
nothing_holds ps i (choice_part at x these those rest) words heap owned e = absurd (false≢true (sym e))

both_true : (a : Bool) → (a && true) ≡ a
both_true true = refl
both_true false = refl

module _ (c : Core) (v : Visit) (x : Subject) where
  abbrev holding : Bool
  holding = subject_holds c x v.words v.heap v.owned

  says_both : (ds es : List Entry) → entries_say c x v (ds ++ es) ≡ (entries_say c x v ds && entries_say c x v es)
  says_both [] es = refl
  says_both (d ∷ ds) es = ap (λ b. entry_says c x v d && b) (says_both ds es) ∙ grouped (entry_says c x v d) (entries_say c x v ds) (entries_say c x v es)
    where
      grouped : (a b e : Bool) → (a && (b && e)) ≡ ((a && b) && e)
      grouped true b e = refl
      grouped false b e = refl

  -- one entry, at another site and at the site
  one_elsewhere : (site : Site) (part : Part) → same_site site v.site ≡ false → entries_say c x v (free_entry site part) ≡ true
  one_elsewhere site part other = ap (λ b. (not (b && true) || subject_says c x part v.words v.heap v.owned) && true) other

  one_here : (site : Site) (part : Part) → same_site site v.site ≡ true → entries_say c x v (free_entry site part) ≡ subject_says c x part v.words v.heap v.owned
  one_here site part same = ap (λ b. (not (b && true) || subject_says c x part v.words v.heap v.owned) && true) same ∙ both_true (subject_says c x part v.words v.heap v.owned)

  elsewhere : (site : Site) (y : Subject) → same_site site v.site ≡ false → entries_say c x v (subject_entries site y) ≡ true
  elsewhere site (of_formula folded formula) other = by (has_parts formula.parts)
    where
      by : (b : Bool) → entries_say c x v (if b then free_entry site Whole else []) ≡ true
      by true = one_elsewhere site Whole other
      by false = refl
  elsewhere site of_access other = one_elsewhere site Access other
  elsewhere site of_fault other = refl

  pub none_says : (xs : List SubjectAt) → none_at v.site xs ≡ true → entries_say c x v (entries_of xs) ≡ true
  none_says [] none = refl
  none_says (y ∷ xs) none =
      let both = and_parts (not (same_site y.site v.site)) (none_at v.site xs) none in
      says_both (subject_entries y.site y.subject) (entries_of xs) ∙ and_from _ _ (elsewhere y.site y.subject (not_so (same_site y.site v.site) both.0)) (none_says xs both.1)
    where
      not_so : (b : Bool) → not b ≡ true → b ≡ false
      not_so true e = absurd (false≢true e)
      not_so false e = refl

-- the entries of a subject, at its site
here : (c : Core) (v : Visit) (site : Site) (x : Subject) → same_site site v.site ≡ true → entries_say c x v (subject_entries site x) ≡ subject_holds c x v.words v.heap v.owned
here c v site (of_formula folded formula) same = by (has_parts formula.parts) refl
  where
    whole : (b : Bool) → subject_says c (of_formula b formula) Whole v.words v.heap v.owned ≡ is_some (holds c.predicates formula v.words v.heap v.owned)
    whole true = refl
    whole false = refl

    by : (b : Bool) → has_parts formula.parts ≡ b → entries_say c (of_formula folded formula) v (if b then free_entry site Whole else []) ≡ is_some (holds c.predicates formula v.words v.heap v.owned)
    by true q = one_here c v (of_formula folded formula) site Whole same ∙ whole folded
    by false q = sym (nothing_holds c.predicates formula.imprecise formula.parts v.words v.heap v.owned q)
here c v site of_access same = one_here c v of_access site Access same
here c v site of_fault same = refl

-- ---- the subjects of the function of the visit
module _ (c : Core) (v : Visit) (x : Subject) where
  pub found_says : (xs : List SubjectAt) → distinct (sites_of xs) ≡ true → find_subject v.site xs ≡ Some x → entries_say c x v (entries_of xs) ≡ holding c v x
  found_says [] d found = absurd (none_some x found)
    where
      none_some : (y : Subject) → None ≡ Some y → ⊥
      none_some y e = cc
  found_says (y ∷ xs) d found =
      let both = and_parts (list_all (differs y.site) (sites_of xs)) (distinct (sites_of xs)) d in
      says_both c v x (subject_entries y.site y.subject) (entries_of xs) ∙ by (same_site y.site v.site) refl found both.0 (found_says xs both.1)
    where
      by : (b : Bool) → same_site y.site v.site ≡ b → (if b then Some y.subject else find_subject v.site xs) ≡ Some x → list_all (differs y.site) (sites_of xs) ≡ true
          → (find_subject v.site xs ≡ Some x → entries_say c x v (entries_of xs) ≡ holding c v x)
          → (entries_say c x v (subject_entries y.site y.subject) && entries_say c x v (entries_of xs)) ≡ holding c v x
      by true q got differ rest =
          ap (λ (z : Subject). entries_say c x v (subject_entries y.site z) && entries_say c x v (entries_of xs)) (same_Some y.subject x got)
          ∙ ap (λ b. b && entries_say c x v (entries_of xs)) (here c v y.site x q)
          ∙ ap (λ b. holding c v x && b) (none_says c v x xs (none_behind y.site v.site q xs differ)) ∙ both_true (holding c v x)
      by false q got differ rest = ap (λ b. b && entries_say c x v (entries_of xs)) (elsewhere c v x y.site y.subject q) ∙ rest got

  -- ---- the subjects of another function
  other_none : (g : ℕ) (xs : List SubjectAt) → (g ≡ v.site.function → ⊥) → list_all (is_in g) (sites_of xs) ≡ true → none_at v.site xs ≡ true
  other_none g [] ne all = refl
  other_none g (y ∷ xs) ne all =
      let both = and_parts (is_in g y.site) (list_all (is_in g) (sites_of xs)) all in
      let apart : eqb y.site.function v.site.function ≡ false = ne_eqb _ _ (λ e. ne (sym (eqb-true y.site.function g both.0) ∙ e)) in
      and_from _ _ (ap (λ b. not (b && (same_kind y.site.kind v.site.kind && eqb y.site.ordinal v.site.ordinal))) apart) (other_none g xs ne both.1)

  other_says : (g : ℕ) (f : CoreFunction) → AreSited c g f → (g ≡ v.site.function → ⊥) → entries_say c x v (entries_of (function_subjects c g (Some f))) ≡ true
  other_says g f sited ne = none_says c v x (function_subjects c g (Some f)) (other_none g (function_subjects c g (Some f)) ne (function_in c g f sited))

  later_says : (n : ℕ) (fs : List CoreFunction) → EachFrom n fs (AreSited c) → v.site.function < n → entries_say c x v (entries_from c n fs) ≡ true
  later_says n [] each lt = refl
  later_says n (f ∷ fs) each lt =
      says_both c v x (entries_of (function_subjects c n (Some f))) (entries_from c (suc n) fs)
      ∙ and_from _ _ (other_says n f each.0 (λ e. omega (arith, e, lt))) (later_says (suc n) fs each.1 (omega (arith, lt)))

  pub all_say : (n : ℕ) (fs : List CoreFunction) → EachFrom n fs (AreSited c) → (k : ℕ) (f : CoreFunction) → slice_get fs k ≡ Some f → v.site.function ≡ n + k
      → find_subject v.site (function_subjects c v.site.function (Some f)) ≡ Some x → entries_say c x v (entries_from c n fs) ≡ holding c v x
  all_say n [] each k f there at found = absurd (none_some f there)
    where
      none_some : (y : CoreFunction) → None ≡ Some y → ⊥
      none_some y e = cc
  all_say n (h ∷ fs) each zero f there at found =
      let same : v.site.function ≡ n = omega (arith, at) in
      let got : find_subject v.site (function_subjects c n (Some h)) ≡ Some x =
      subst (λ (y : CoreFunction). find_subject v.site (function_subjects c n (Some y)) ≡ Some x) (sym (same_Some h f there))
      (subst (λ (m : ℕ). find_subject v.site (function_subjects c m (Some f)) ≡ Some x) same found) in
      says_both c v x (entries_of (function_subjects c n (Some h))) (entries_from c (suc n) fs)
      ∙ ap (λ b. b && entries_say c x v (entries_from c (suc n) fs)) (found_says (function_subjects c n (Some h)) (function_sites c n h each.0) got)
      ∙ ap (λ b. holding c v x && b) (later_says (suc n) fs each.1 (omega (arith, at))) ∙ both_true (holding c v x)
  all_say n (h ∷ fs) each (suc k) f there at found =
      says_both c v x (entries_of (function_subjects c n (Some h))) (entries_from c (suc n) fs)
      ∙ ap (λ b. b && entries_say c x v (entries_from c (suc n) fs)) (other_says n h each.0 (λ e. omega (arith, at, e)))
      ∙ all_say (suc n) fs each.1 k f there (omega (arith, at)) found

-- ---- each visit is right, wherever it is
pub right_visit : (c : Core) → EachFrom 0 c.functions (AreSited c) → (v : Visit) → IsRightVisit c (all_entries c) v
right_visit c each v = by_function (slice_get c.functions v.site.function) refl
  where
    by_subject : (f : CoreFunction) → slice_get c.functions v.site.function ≡ Some f → (o : Option Subject) → find_subject v.site (function_subjects c v.site.function (Some f)) ≡ o
        → IfSome o (λ x. subject_holds c x v.words v.heap v.owned ≡ entries_say c x v (all_entries c))
    by_subject f there None found = tt
    by_subject f there (Some x) found = sym (all_say c v x 0 c.functions each v.site.function f there (omega arith) found)

    by_function : (o : Option CoreFunction) → slice_get c.functions v.site.function ≡ o
        → IfSome (find_subject v.site (function_subjects c v.site.function o)) (λ x. subject_holds c x v.words v.heap v.owned ≡ entries_say c x v (all_entries c))
    by_function None there = tt
    by_function (Some f) there = by_subject f there (find_subject v.site (function_subjects c v.site.function (Some f))) refl

pub right_visits : (c : Core) → EachFrom 0 c.functions (AreSited c) → (vs : List Visit) → AreRight c (all_entries c) vs
right_visits c each [] = tt
right_visits c each (v ∷ vs) = (right_visit c each v, right_visits c each vs)
