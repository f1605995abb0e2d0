-- Lists of sites of which no two are the same.
use Rattle.std.proofs.Common.{◌≡◌, Bool, true, false, not, ◌&&◌, List, [], ◌∷◌, map, inl, inr, refl, sym, ap, ◌∙◌}
use Rattle.std.specs.Prelude.{◌⊎◌, Some, if◌then◌else◌}
use Rattle.std.specs.List.{list_all}
use Rattle.std.proofs.lemmas.Bool.{false≢true, and_parts, and_from}
use Rattle.gc0_base.specs.declared.site.Site.{Site}
use Rattle.core_meaning.specs.CoreSited.{Sited, same_site, are_distinct}
use Rattle.core_checks.specs.Subjects.{SubjectAt, find_subject}
use Rattle.assumption_log.proofs.SameSites.{same_itself, same_right}

abbrev pub differs : Site → Site → Bool
differs s t = not (same_site s t)

abbrev pub distinct : List Site → Bool
distinct [] = true
distinct (s ∷ ss) = list_all (differs s) ss && distinct ss

abbrev pub sites_of : List SubjectAt → List Site
sites_of xs = map (λ x. x.site) xs

abbrev pub sited_sites : List Sited → List Site
sited_sites xs = map (λ x. x.site) xs

all_map : (s : Site) (xs : List Sited) → list_all (λ y. not (same_site s y.site)) xs ≡ list_all (differs s) (sited_sites xs)
all_map s [] = refl
all_map s (x ∷ xs) = ap (λ b. not (same_site s x.site) && b) (all_map s xs)

pub distinct_sites : (xs : List Sited) → are_distinct xs ≡ distinct (sited_sites xs)
distinct_sites [] = refl
distinct_sites (x ∷ xs) = ap (λ b. b && are_distinct xs) (all_map x.site xs) ∙ ap (λ b. list_all (differs x.site) (sited_sites xs) && b) (distinct_sites xs)

-- ---- none of some subjects is at a site
abbrev pub none_at : Site → List SubjectAt → Bool
none_at site [] = true
none_at site (x ∷ xs) = not (same_site x.site site) && none_at site xs

not_so : (b : Bool) → not b ≡ true → b ≡ false
not_so true e = absurd (false≢true e)
not_so false e = refl

-- those that differ from a site aren't at one that is the same
pub none_behind : (s site : Site) → same_site s site ≡ true → (xs : List SubjectAt) → list_all (differs s) (sites_of xs) ≡ true → none_at site xs ≡ true
none_behind s site same [] all = refl
none_behind s site same (x ∷ xs) all =
    let both = and_parts (differs s x.site) (list_all (differs s) (sites_of xs)) all in
    and_from _ _ (apart (same_site x.site site) refl (not_so (same_site s x.site) both.0)) (none_behind s site same xs both.1)
  where
    apart : (b : Bool) → same_site x.site site ≡ b → same_site s x.site ≡ false → not (same_site x.site site) ≡ true
    apart false q f = ap not q
    apart true q f = absurd (false≢true (sym f ∙ same_right x.site site q s ∙ same))

-- ---- a subject among others
abbrev pub In : SubjectAt → List SubjectAt → Type 0
In y [] = ⊥
In y (x ∷ xs) = (x ≡ y) ⊎ In y xs

in_differs : (s : Site) (y : SubjectAt) (xs : List SubjectAt) → In y xs → list_all (differs s) (sites_of xs) ≡ true → same_site s y.site ≡ false
in_differs s y [] i all = absurd i
in_differs s y (x ∷ xs) (inl e) all =
    ap (λ (z : SubjectAt). same_site s z.site) (sym e) ∙ not_so (same_site s x.site) (and_parts (differs s x.site) (list_all (differs s) (sites_of xs)) all).0
in_differs s y (x ∷ xs) (inr i) all = in_differs s y xs i (and_parts (differs s x.site) (list_all (differs s) (sites_of xs)) all).1

pub found_in : (y : SubjectAt) (xs : List SubjectAt) → In y xs → distinct (sites_of xs) ≡ true → find_subject y.site xs ≡ Some y.subject
found_in y [] i d = absurd i
found_in y (x ∷ xs) (inl e) d =
    ap (λ b. if b then Some x.subject else find_subject y.site xs) (ap (λ (z : SubjectAt). same_site x.site z.site) (sym e) ∙ same_itself x.site) ∙ ap (λ (z : SubjectAt). Some z.subject) e
found_in y (x ∷ xs) (inr i) d =
    let both = and_parts (list_all (differs x.site) (sites_of xs)) (distinct (sites_of xs)) d in
    ap (λ b. if b then Some x.subject else find_subject y.site xs) (in_differs x.site y xs i both.0) ∙ found_in y xs i both.1
