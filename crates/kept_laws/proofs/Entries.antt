-- The entries are entries of the core.
use Rattle.std.proofs.Common.{◌≡◌, ◌+◌, ℕ, suc, Bool, true, false, List, [], ◌∷◌, ◌++◌, Some, inl, inr, refl, sym, ap, subst, ◌∙◌, arith}
use Rattle.std.specs.Prelude.{Option, if◌then◌else◌, slice_get}
use Rattle.std.specs.List.{list_all, AllByRecursion}
use Rattle.std.proofs.lemmas.Bool.{and_parts, eqb-true}
use Rattle.std.proofs.lemmas.List.Elements.{All-from_recursion}
use Rattle.gc0_base.specs.declared.site.Site.{Site}
use Rattle.gc0_base.specs.declared.site.Part.{Part}
use Rattle.gc0_base.specs.declared.site.Part.TheVariants.{Access, Whole}
use Rattle.core_tree.specs.CoreTree.{CoreFunction, Core}
use Rattle.core_meaning.specs.Stepped.{EachFrom, AreSited}
use Rattle.core_checks.specs.Entries.{Entry, is_part_of, IsEntry}
use Rattle.core_checks.specs.Subjects.{Subject, of_formula, of_access, of_fault, SubjectAt, find_subject, subject_of, function_subjects}
use Rattle.assumption_log.specs.AllKept.{has_parts, subject_entries, entries_of, entries_from, all_entries, all_kept_law}
use Rattle.kept_laws.proofs.Distinct.{sites_of, In, found_in}
use Rattle.kept_laws.proofs.Subjects.{is_in, function_sites, function_in}
use Rattle.kept_laws.proofs.Saying.{right_visits}

abbrev Entries : Core → List Entry → Type 0
Entries c es = AllByRecursion (IsEntry c) es

joined : (c : Core) (ds es : List Entry) → Entries c ds → Entries c es → Entries c (ds ++ es)
joined c [] es p q = q
joined c (d ∷ ds) es p q = (p.0, joined c ds es p.1 q)

-- an entry without decisions
free : (c : Core) (site : Site) (part : Part) (x : Subject) → subject_of c site ≡ Some x → is_part_of c x part ≡ true → IsEntry c (record { site = site; decisions = []; part = part })
free c site part x is so = record { part = (x, is, so); decisions = λ k d lt. absurd (omega (arith, lt)) }

subject_right : (c : Core) (site : Site) (x : Subject) → subject_of c site ≡ Some x → Entries c (subject_entries site x)
subject_right c site (of_formula folded formula) is = by (has_parts formula.parts)
  where
    whole : (b : Bool) → is_part_of c (of_formula b formula) Whole ≡ true
    whole true = refl
    whole false = refl

    by : (b : Bool) → Entries c (if b then record { site = site; decisions = []; part = Whole } ∷ [] else [])
    by true = (free c site Whole (of_formula folded formula) is (whole folded), tt)
    by false = tt
subject_right c site of_access is = (free c site Access of_access is refl, tt)
subject_right c site of_fault is = tt

module _ (c : Core) (g : ℕ) (f : CoreFunction) (there : slice_get c.functions g ≡ Some f) (sited : AreSited c g f) where
  abbrev mine : List SubjectAt
  mine = function_subjects c g (Some f)

  of_function : (y : SubjectAt) (xs : List SubjectAt) → In y xs → list_all (is_in g) (sites_of xs) ≡ true → y.site.function ≡ g
  of_function y [] i all = absurd i
  of_function y (x ∷ xs) (inl e) all =
      ap (λ (z : SubjectAt). z.site.function) (sym e) ∙ eqb-true x.site.function g (and_parts (is_in g x.site) (list_all (is_in g) (sites_of xs)) all).0
  of_function y (x ∷ xs) (inr i) all = of_function y xs i (and_parts (is_in g x.site) (list_all (is_in g) (sites_of xs)) all).1

  is_subject : (y : SubjectAt) → In y mine → subject_of c y.site ≡ Some y.subject
  is_subject y i =
      let of = of_function y mine i (function_in c g f sited) in
      ap (λ n. find_subject y.site (function_subjects c n (slice_get c.functions n))) of
      ∙ ap (λ (o : Option CoreFunction). find_subject y.site (function_subjects c g o)) there ∙ found_in y mine i (function_sites c g f sited)

  subjects_right : (xs : List SubjectAt) → ((y : SubjectAt) → In y xs → In y mine) → Entries c (entries_of xs)
  subjects_right [] sub = tt
  subjects_right (x ∷ xs) sub =
      joined c (subject_entries x.site x.subject) (entries_of xs) (subject_right c x.site x.subject (is_subject x (sub x (inl refl)))) (subjects_right xs (λ y i. sub y (inr i)))

functions_right : (c : Core) (n : ℕ) (fs : List CoreFunction) → ((k : ℕ) (f : CoreFunction) → slice_get fs k ≡ Some f → slice_get c.functions (n + k) ≡ Some f) → EachFrom n fs (AreSited c)
    → Entries c (entries_from c n fs)
functions_right c n [] at each = tt
functions_right c n (f ∷ fs) at each =
    let first : n + 0 ≡ n = omega arith in
    joined c (entries_of (function_subjects c n (Some f))) (entries_from c (suc n) fs)
    (subjects_right c n f (subst (λ m. slice_get c.functions m ≡ Some f) first (at 0 f refl)) each.0 (function_subjects c n (Some f)) (λ y i. i))
    (functions_right c (suc n) fs (λ k h e. let next : n + suc k ≡ suc n + k = omega arith in subst (λ m. slice_get c.functions m ≡ Some h) next (at (suc k) h e)) each.1)

pub all_right : all_kept_law
all_right c stepped = record {
  entries = All-from_recursion (IsEntry c) (all_entries c)
      (functions_right c 0 c.functions (λ k f e. let same : k ≡ 0 + k = omega arith in subst (λ m. slice_get c.functions m ≡ Some f) same e) stepped.sites);
  visits = λ input n words bound. right_visits c stepped.sites _;
}
