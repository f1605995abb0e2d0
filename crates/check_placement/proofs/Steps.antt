-- One entry more of a record.
use Rattle.std.proofs.Common.{◌≡◌, Bool, true, false, not, ◌||◌, ◌&&◌, eqb, List, [], ◌∷◌, ◌++◌, map, refl, sym, ap, ◌∙◌}
use Rattle.std.specs.Prelude.{if◌then◌else◌}
use Rattle.std.specs.List.{list_any}
use Rattle.std.proofs.lemmas.List.Folds.{list_any-append}
use Rattle.gc0_base.specs.declared.site.Site.{Site}
use Rattle.gc0_base.specs.declared.site.Part.{Part}
use Rattle.core_meaning.specs.CoreSited.{same_site}
use Rattle.core_checks.specs.Entries.{Known, Entry}
use Rattle.core_checks.specs.Placements as checks
use Rattle.core_checks.specs.Placements.{same_part, kept_in, sites_test, known_tests, is_free, is_kept_free, placed_of}
use Rattle.assumption_log.specs.declared.Kept.{Kept}
use Rattle.assumption_log.specs.declared.pairs.PairKey.{PairKey}
use Rattle.assumption_log.specs.Records.{kept_view}
use Rattle.assumption_log.specs.PairKeys.{pair_key}
use Rattle.assumption_log.proofs.SameSites.{eqb_turned, same_right}
use Rattle.assumption_log.proofs.SeenPairs.{keys_told, one_key}
use Rattle.check_placement.specs.declared.types.PlacedAt.{PlacedAt}
use Rattle.check_placement.specs.FoundBy.{same_key, has_pair_key}
use Rattle.check_placement.specs.Viewed.{guarded_view, placed_view}
use Rattle.check_placement.specs.Putting.{put_in, guard_of}
use Rattle.check_placement.proofs.Sites.{put_kept, part_if}

-- ---- pairs that are kept free
key_turned : (a b : PairKey) → same_key a b ≡ same_key b a
key_turned a b =
    ap (λ k. k && (eqb a.kind b.kind && (eqb a.ordinal b.ordinal && (eqb a.part_kind b.part_kind && eqb a.part_number b.part_number)))) (eqb_turned a.function b.function)
    ∙ ap (λ k. eqb b.function a.function && (k && (eqb a.ordinal b.ordinal && (eqb a.part_kind b.part_kind && eqb a.part_number b.part_number)))) (eqb_turned a.kind b.kind)
    ∙ ap (λ k. eqb b.function a.function && (eqb b.kind a.kind && (k && (eqb a.part_kind b.part_kind && eqb a.part_number b.part_number)))) (eqb_turned a.ordinal b.ordinal)
    ∙ ap (λ k. eqb b.function a.function && (eqb b.kind a.kind && (eqb b.ordinal a.ordinal && (k && eqb a.part_number b.part_number)))) (eqb_turned a.part_kind b.part_kind)
    ∙ ap (λ k. eqb b.function a.function && (eqb b.kind a.kind && (eqb b.ordinal a.ordinal && (eqb b.part_kind a.part_kind && k)))) (eqb_turned a.part_number b.part_number)

key_more : (q k : PairKey) (keys : List PairKey) → list_any (same_key q) (if list_any (same_key k) keys then keys else keys ++ k ∷ []) ≡ (same_key q k || list_any (same_key q) keys)
key_more q k keys = by (list_any (same_key k) keys) refl (same_key q k) refl
  where
    last_first : (a b : Bool) → (a || (b || false)) ≡ (b || a)
    last_first true true = refl
    last_first true false = refl
    last_first false true = refl
    last_first false false = refl

    by : (any : Bool) → list_any (same_key k) keys ≡ any → (same : Bool) → same_key q k ≡ same
        → list_any (same_key q) (if any then keys else keys ++ k ∷ []) ≡ (same_key q k || list_any (same_key q) keys)
    by false none same e = list_any-append (same_key q) keys (k ∷ []) ∙ last_first (list_any (same_key q) keys) (same_key q k)
    by true some false e = sym (ap (λ b. b || list_any (same_key q) keys) e)
    by true some true e = ap (λ x. list_any (same_key x) keys) (one_key q k e) ∙ some ∙ sym (ap (λ b. b || list_any (same_key q) keys) e)

pub free_more : (keys : List PairKey) (behind : List Entry) (e : Kept) → e.decisions ≡ [] → ((site : Site) (part : Part) → has_pair_key site part keys ≡ is_kept_free behind site part)
    → (site : Site) (part : Part) → has_pair_key site part (if list_any (same_key (pair_key e.site e.part)) keys then keys else keys ++ pair_key e.site e.part ∷ []) ≡ is_kept_free (kept_view e ∷ behind) site part
free_more keys behind e free finds site part =
    key_more (pair_key site part) (pair_key e.site e.part) keys
    ∙ ap (λ b. b || has_pair_key site part keys) (key_turned (pair_key site part) (pair_key e.site e.part) ∙ keys_told e.site site e.part part)
    ∙ ap (λ b. (same_site e.site site && same_part e.part part) || b) (finds site part)
    ∙ sym (ap (λ (ds : List Known). (same_site e.site site && (is_free ds && same_part e.part part)) || is_kept_free behind site part) free)

-- ---- an entry put to its site
kept_free_same : (a b : Site) → same_site a b ≡ true → (es : List Entry) (part : Part) → is_kept_free es a part ≡ is_kept_free es b part
kept_free_same a b e [] part = refl
kept_free_same a b e (x ∷ es) part =
    ap (λ k. (k && (is_free x.decisions && same_part x.part part)) || is_kept_free es a part) (same_right a b e x.site)
    ∙ ap (λ k. (same_site x.site b && (is_free x.decisions && same_part x.part part)) || k) (kept_free_same a b e es part)

grouped : {X : Type 0} (xs ys zs : List X) → (xs ++ ys) ++ zs ≡ xs ++ (ys ++ zs)
grouped [] ys zs = refl
grouped (x ∷ xs) ys zs = ap (λ l. x ∷ l) (grouped xs ys zs)

module _ (all rest : List Entry) (e : Kept) (old : List PlacedAt) (site : Site) where
  abbrev before : List checks.Guarded
  before = kept_in (map placed_view old) site

  abbrev behind : List checks.Guarded
  behind = placed_of all rest site

  abbrev due : Bool
  due = is_free e.decisions || not (is_kept_free all e.site e.part)

  due_at : same_site e.site site ≡ true → (is_free e.decisions || not (is_kept_free all site e.part)) ≡ due
  due_at same = ap (λ k. is_free e.decisions || not k) (sym (kept_free_same e.site site same all e.part))

  abbrev next : Bool → Bool → List checks.Guarded
  next same so = before ++ (if same && so then guarded_view (guard_of e) ∷ behind else behind)

  pub put_step : due ≡ true → kept_in (map placed_view (put_in old e.site (guard_of e))) site ++ behind ≡ before ++ placed_of all (kept_view e ∷ rest) site
  put_step d = ap (λ l. l ++ behind) (put_kept e.site (guard_of e) old site) ∙ grouped before (part_if (same_site e.site site) (guarded_view (guard_of e))) behind ∙ by (same_site e.site site) refl
    where
      by : (b : Bool) → same_site e.site site ≡ b → before ++ (part_if (same_site e.site site) (guarded_view (guard_of e)) ++ behind) ≡ next (same_site e.site site) (is_free e.decisions || not (is_kept_free all site e.part))
      by true q =
          ap (λ k. before ++ (part_if k (guarded_view (guard_of e)) ++ behind)) q
          ∙ sym (ap (λ k. next k (is_free e.decisions || not (is_kept_free all site e.part))) q ∙ ap (next true) (due_at q ∙ d))
      by false q =
          ap (λ k. before ++ (part_if k (guarded_view (guard_of e)) ++ behind)) q
          ∙ sym (ap (λ k. next k (is_free e.decisions || not (is_kept_free all site e.part))) q)

  pub skip_step : due ≡ false → before ++ behind ≡ before ++ placed_of all (kept_view e ∷ rest) site
  skip_step d = by (same_site e.site site) refl
    where
      by : (b : Bool) → same_site e.site site ≡ b → before ++ behind ≡ next (same_site e.site site) (is_free e.decisions || not (is_kept_free all site e.part))
      by true q = sym (ap (λ k. next k (is_free e.decisions || not (is_kept_free all site e.part))) q ∙ ap (next true) (due_at q ∙ d))
      by false q = sym (ap (λ k. next k (is_free e.decisions || not (is_kept_free all site e.part))) q)
