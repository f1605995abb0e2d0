-- What one more site, of those that are walked from the last to the first, does to the keys that were seen.
use Rattle.std.proofs.Common.{◌≡◌, ℕ, zero, suc, ◌+◌, Bool, true, false, not, if◌then◌else◌, ◌&&◌, ◌||◌, List, [], ◌∷◌, ◌++◌, drop, refl, sym, ap, subst, ◌∙◌}
use Rattle.std.specs.List.{list_any, list_all}
use Rattle.std.proofs.lemmas.List.Folds.{list_any-append}
use Rattle.indexmap.specs.IndexSet.{insert_key}
use Rattle.gc0_base.specs.declared.site.Site.{Site}
use Rattle.core_meaning.specs.CoreSited.{same_site}
use Rattle.core_tables.specs.declared.PlacedSite.{PlacedSite}
use Rattle.core_tables.specs.declared.apart.SiteKey.{SiteKey}
use Rattle.core_tables.specs.contracts.apart.SiteKeyPartialEq.TheImpl as equality
use Rattle.core_tables.specs.Apart.{are_apart}
use Rattle.core_tables.specs.SiteKeys.{key_of}

-- whether the key of a site is among these
abbrev pub is_seen : List SiteKey → Site → Bool
is_seen keys site = list_any (equality.ghosts.eq (key_of site)) keys

-- the keys are those of the sites
abbrev pub Finds : List SiteKey → List PlacedSite → Type 0
Finds keys behind = (site : Site) → is_seen keys site ≡ list_any (λ y. same_site site y.site) behind

last_first : (a b : Bool) → (a || (b || false)) ≡ (b || a)
last_first true true = refl
last_first true false = refl
last_first false true = refl
last_first false false = refl

none_passes : {X : Type 0} (test : X → Bool) (xs : List X) → list_all (λ x. not (test x)) xs ≡ not (list_any test xs)
none_passes test [] = refl
none_passes test (x ∷ xs) = by (test x) (list_any test xs) (list_all (λ y. not (test y)) xs) (none_passes test xs)
  where
    by : (a b c : Bool) → c ≡ not b → (not a && c) ≡ not (a || b)
    by true b c same = refl
    by false b c same = same

both : (a b : Bool) → a ≡ true → b ≡ true → (a && b) ≡ true
both a b p q = ap (λ c. c && b) p ∙ q

second_fails : (a b : Bool) → b ≡ false → (a && b) ≡ false
second_fails true b fails = fails
second_fails false b fails = refl

pub finds_none : Finds [] []
finds_none site = refl

module _ (keys : List SiteKey) (behind : List PlacedSite) (x : PlacedSite) (finds : Finds keys behind) where
  -- a key that was new
  pub finds_more : is_seen keys x.site ≡ false → Finds (insert_key equality.ghosts.eq keys (key_of x.site)) (x ∷ behind)
  finds_more new site =
      ap (λ b. is_seen (if b then keys else keys ++ key_of x.site ∷ []) site) new
      ∙ list_any-append (equality.ghosts.eq (key_of site)) keys (key_of x.site ∷ [])
      ∙ ap (λ b. b || (same_site site x.site || false)) (finds site)
      ∙ last_first (list_any (λ y. same_site site y.site) behind) (same_site site x.site)

  none_same : list_all (λ y. not (same_site x.site y.site)) behind ≡ not (is_seen keys x.site)
  none_same = none_passes (λ y. same_site x.site y.site) behind ∙ ap not (sym (finds x.site))

  pub apart_more : is_seen keys x.site ≡ false → are_apart behind ≡ true → are_apart (x ∷ behind) ≡ true
  apart_more new apart = both _ _ (none_same ∙ ap not new) apart

  -- and one that was not
  pub not_apart : is_seen keys x.site ≡ true → are_apart (x ∷ behind) ≡ false
  not_apart seen = ap (λ b. b && are_apart behind) (none_same ∙ ap not seen)

-- sites of which the later ones are not apart
pub not_apart_before : (n : ℕ) (placed : List PlacedSite) → are_apart (drop n placed) ≡ false → are_apart placed ≡ false
not_apart_before zero placed fails = fails
not_apart_before (suc n) [] fails = fails
not_apart_before (suc n) (x ∷ xs) fails = second_fails _ _ (not_apart_before n xs fails)

was_seen : (added seen : Bool) → added ≡ not seen → added ≡ false → seen ≡ true
was_seen added true told old = refl
was_seen added false told old = sym old ∙ told

was_new : (added seen : Bool) → added ≡ not seen → added ≡ true → seen ≡ false
was_new added true told new = sym new ∙ told
was_new added false told new = refl

-- ---- the step from the sites behind a place to those from it on, by the key of the site there
module _ (keys : List SiteKey) (placed : List PlacedSite) (i left : ℕ) (here : PlacedSite) (k : SiteKey) (added : Bool)
    (key : k ≡ key_of here.site) (from_here : drop i placed ≡ here ∷ drop (i + 1) placed) (next : left ≡ i + 1)
    (told : added ≡ not (list_any (equality.ghosts.eq k) keys)) (finds : Finds keys (drop left placed)) where
  finds_behind : Finds keys (drop (i + 1) placed)
  finds_behind = subst (λ n. Finds keys (drop n placed)) next finds

  told_here : added ≡ not (is_seen keys here.site)
  told_here = subst (λ q. added ≡ not (list_any (equality.ghosts.eq q) keys)) key told

  pub shared_here : added ≡ false → true ≡ not (are_apart placed)
  shared_here old =
      sym (ap not (not_apart_before i placed
      (ap are_apart from_here ∙ not_apart keys (drop (i + 1) placed) here finds_behind (was_seen _ _ told_here old))))

  pub finds_from : added ≡ true → Finds (insert_key equality.ghosts.eq keys k) (drop i placed)
  finds_from new =
      subst (Finds (insert_key equality.ghosts.eq keys k)) (sym from_here)
      (subst (λ q. Finds (insert_key equality.ghosts.eq keys q) (here ∷ drop (i + 1) placed)) (sym key)
      (finds_more keys (drop (i + 1) placed) here finds_behind (was_new _ _ told_here new)))

  pub apart_from : added ≡ true → are_apart (drop left placed) ≡ true → are_apart (drop i placed) ≡ true
  apart_from new apart =
      ap are_apart from_here
      ∙ apart_more keys (drop (i + 1) placed) here finds_behind (was_new _ _ told_here new)
      (subst (λ n. are_apart (drop n placed) ≡ true) next apart)
