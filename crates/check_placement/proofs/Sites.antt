-- Parts put to their sites.
use Rattle.std.proofs.Common.{◌≡◌, ◌+◌, ℕ, zero, suc, Bool, true, false, not, ◌||◌, ◌&&◌, eqb, List, [], ◌∷◌, ◌++◌, map, length, set, get_or, refl, sym, ap, ◌∙◌, arith}
use Rattle.std.specs.Prelude.{Some, None, if◌then◌else◌, cond, nat_lt, position, slice_get}
use Rattle.std.specs.List.{list_any, position_or_len}
use Rattle.std.proofs.lemmas.Bool.{false≢true, ltb-false}
use Rattle.std.proofs.lemmas.List.{length-map}
use Rattle.std.proofs.lemmas.Option.{same_Some, slice_get_past}
use Rattle.gc0_base.specs.declared.site.Site.{Site}
use Rattle.gc0_base.specs.declared.site.Decision.{Decision}
use Rattle.core_meaning.specs.CoreSited.{kind_number, same_site}
use Rattle.core_checks.specs.Placements as checks
use Rattle.core_checks.specs.Placements.{kept_in, sites_test, guards_test, known_tests}
use Rattle.assumption_log.proofs.SameSites.{same_left, same_right, site_turned}
use Rattle.check_placement.specs.declared.types.Guarded.{Guarded}
use Rattle.check_placement.specs.declared.types.PlacedAt.{PlacedAt}
use Rattle.check_placement.specs.declared.keys.SiteKey.{SiteKey}
use Rattle.check_placement.specs.FoundBy.{site_key}
use Rattle.check_placement.specs.Viewed.{guarded_view, placed_view, parts_in, keys_of}
use Rattle.check_placement.specs.Putting.{put_in}

-- ---- what a part does at its site
views_more : (gs : List Guarded) (g : Guarded) → map guarded_view (gs ++ g ∷ []) ≡ map guarded_view gs ++ guarded_view g ∷ []
views_more [] g = refl
views_more (x ∷ gs) g = ap (λ l. guarded_view x ∷ l) (views_more gs g)

past : {X : Type 0} (xs : List X) → xs ≡ xs ++ []
past [] = refl
past (x ∷ xs) = ap (λ l. x ∷ l) (past xs)

-- the part behind those of its site, and nothing elsewhere
abbrev pub part_if : Bool → checks.Guarded → List checks.Guarded
part_if b g = if b then g ∷ [] else []

module _ (s : Site) (g : Guarded) where
  pub put_kept : (xs : List PlacedAt) (z : Site) → kept_in (map placed_view (put_in xs s g)) z ≡ kept_in (map placed_view xs) z ++ part_if (same_site s z) (guarded_view g)
  put_kept [] z = refl
  put_kept (x ∷ xs) z = by (put_kept xs z) (same_site s x.site) refl (same_site x.site z) refl
    where
      by : kept_in (map placed_view (put_in xs s g)) z ≡ kept_in (map placed_view xs) z ++ part_if (same_site s z) (guarded_view g)
          → (b : Bool) → same_site s x.site ≡ b → (d : Bool) → same_site x.site z ≡ d
          → kept_in (map placed_view (if b then record { site = x.site; parts = x.parts ++ g ∷ [] } ∷ xs else x ∷ put_in xs s g)) z
          ≡ (if same_site x.site z then map guarded_view x.parts else kept_in (map placed_view xs) z) ++ part_if (same_site s z) (guarded_view g)
      by rest true e true q =
          ap (λ k. if k then map guarded_view (x.parts ++ g ∷ []) else kept_in (map placed_view xs) z) q ∙ views_more x.parts g
          ∙ sym (ap (λ k. (if k then map guarded_view x.parts else kept_in (map placed_view xs) z) ++ part_if (same_site s z) (guarded_view g)) q
          ∙ ap (λ k. map guarded_view x.parts ++ part_if k (guarded_view g)) (same_left s x.site e z ∙ q))
      by rest true e false q =
          ap (λ k. if k then map guarded_view (x.parts ++ g ∷ []) else kept_in (map placed_view xs) z) q ∙ past (kept_in (map placed_view xs) z)
          ∙ sym (ap (λ k. (if k then map guarded_view x.parts else kept_in (map placed_view xs) z) ++ part_if (same_site s z) (guarded_view g)) q
          ∙ ap (λ k. kept_in (map placed_view xs) z ++ part_if k (guarded_view g)) (same_left s x.site e z ∙ q))
      by rest false e true q =
          ap (λ k. if k then map guarded_view x.parts else kept_in (map placed_view (put_in xs s g)) z) q ∙ past (map guarded_view x.parts)
          ∙ sym (ap (λ k. (if k then map guarded_view x.parts else kept_in (map placed_view xs) z) ++ part_if (same_site s z) (guarded_view g)) q
          ∙ ap (λ k. map guarded_view x.parts ++ part_if k (guarded_view g)) (sym (same_right x.site z q s) ∙ e))
      by rest false e false q =
          ap (λ k. if k then map guarded_view x.parts else kept_in (map placed_view (put_in xs s g)) z) q ∙ rest
          ∙ sym (ap (λ k. (if k then map guarded_view x.parts else kept_in (map placed_view xs) z) ++ part_if (same_site s z) (guarded_view g)) q)

  guards_more : (d : Decision) (gs : List Guarded) → guards_test d (map guarded_view (gs ++ g ∷ [])) ≡ (guards_test d (map guarded_view gs) || known_tests d g.decisions)
  guards_more d [] = or_none (known_tests d g.decisions)
    where
      or_none : (b : Bool) → (b || false) ≡ b
      or_none true = refl
      or_none false = refl
  guards_more d (x ∷ gs) = ap (λ b. known_tests d x.decisions || b) (guards_more d gs) ∙ grouped (known_tests d x.decisions) (guards_test d (map guarded_view gs)) (known_tests d g.decisions)
    where
      grouped : (a b e : Bool) → (a || (b || e)) ≡ ((a || b) || e)
      grouped true b e = refl
      grouped false b e = refl

  pub put_tests : (xs : List PlacedAt) (d : Decision) → sites_test d (map placed_view (put_in xs s g)) ≡ (sites_test d (map placed_view xs) || known_tests d g.decisions)
  put_tests [] d = ends (known_tests d g.decisions)
    where
      ends : (b : Bool) → ((b || false) || false) ≡ b
      ends true = refl
      ends false = refl
  put_tests (x ∷ xs) d = by (put_tests xs d) (same_site s x.site)
    where
      turned : (a b e : Bool) → ((a || e) || b) ≡ ((a || b) || e)
      turned true b e = refl
      turned false true true = refl
      turned false true false = refl
      turned false false true = refl
      turned false false false = refl

      grouped : (a b e : Bool) → (a || (b || e)) ≡ ((a || b) || e)
      grouped true b e = refl
      grouped false b e = refl

      by : sites_test d (map placed_view (put_in xs s g)) ≡ (sites_test d (map placed_view xs) || known_tests d g.decisions)
          → (b : Bool) → sites_test d (map placed_view (if b then record { site = x.site; parts = x.parts ++ g ∷ [] } ∷ xs else x ∷ put_in xs s g))
          ≡ ((guards_test d (map guarded_view x.parts) || sites_test d (map placed_view xs)) || known_tests d g.decisions)
      by rest true =
          ap (λ b. b || sites_test d (map placed_view xs)) (guards_more d x.parts)
          ∙ turned (guards_test d (map guarded_view x.parts)) (sites_test d (map placed_view xs)) (known_tests d g.decisions)
      by rest false =
          ap (λ b. guards_test d (map guarded_view x.parts) || b) rest
          ∙ grouped (guards_test d (map guarded_view x.parts)) (sites_test d (map placed_view xs)) (known_tests d g.decisions)

  -- ---- where it stands
  -- whether the key of a site is that of this one
  abbrev pub is_here : SiteKey → Bool
  is_here k = eqb s.function k.function && (eqb (kind_number s.kind) k.kind && eqb s.ordinal k.ordinal)

  pub put_keys : (xs : List PlacedAt) → (if list_any is_here (keys_of xs) then keys_of xs else keys_of xs ++ site_key s ∷ []) ≡ keys_of (put_in xs s g)
  put_keys [] = refl
  put_keys (x ∷ xs) = by (put_keys xs) (same_site s x.site)
    where
      one_in_front : (b : Bool) (k : SiteKey) (ks more : List SiteKey) → (if b then k ∷ ks else k ∷ more) ≡ k ∷ (if b then ks else more)
      one_in_front true k ks more = refl
      one_in_front false k ks more = refl

      by : (if list_any is_here (keys_of xs) then keys_of xs else keys_of xs ++ site_key s ∷ []) ≡ keys_of (put_in xs s g)
          → (b : Bool) → (if b || list_any is_here (keys_of xs) then site_key x.site ∷ keys_of xs else site_key x.site ∷ (keys_of xs ++ site_key s ∷ []))
          ≡ keys_of (if b then record { site = x.site; parts = x.parts ++ g ∷ [] } ∷ xs else x ∷ put_in xs s g)
      by rest true = refl
      by rest false =
          one_in_front (list_any is_here (keys_of xs)) (site_key x.site) (keys_of xs) (keys_of xs ++ site_key s ∷ [])
          ∙ ap (λ l. site_key x.site ∷ l) rest

  -- a site that was there
  pub put_old : (xs : List PlacedAt) (i : ℕ) (x : PlacedAt) → i ≡ position_or_len is_here (keys_of xs) → list_any is_here (keys_of xs) ≡ true → x ≡ get_or xs i x
      → set xs i (record { site = x.site; parts = x.parts ++ g ∷ [] }) ≡ put_in xs s g
  put_old [] i x at any got = absurd (false≢true any)
  put_old (y ∷ ys) i x at any got = by (same_site s y.site) i at any got (λ j. put_old ys j x)
    where
      by : (b : Bool) (k : ℕ) → k ≡ cond (not b) (1 + position_or_len is_here (keys_of ys)) 0 → (b || list_any is_here (keys_of ys)) ≡ true → x ≡ get_or (y ∷ ys) k x
          → ((j : ℕ) → j ≡ position_or_len is_here (keys_of ys) → list_any is_here (keys_of ys) ≡ true → x ≡ get_or ys j x → set ys j (record { site = x.site; parts = x.parts ++ g ∷ [] }) ≡ put_in ys s g)
          → set (y ∷ ys) k (record { site = x.site; parts = x.parts ++ g ∷ [] }) ≡ (if b then record { site = y.site; parts = y.parts ++ g ∷ [] } ∷ ys else y ∷ put_in ys s g)
      by true zero e a q rest = ap (λ (z : PlacedAt). record { site = z.site; parts = z.parts ++ g ∷ [] } ∷ ys) q
      by true (suc j) e a q rest = absurd (omega (arith, e))
      by false zero e a q rest = absurd (omega (arith, e))
      by false (suc j) e a q rest = ap (λ l. y ∷ l) (rest j (omega (arith, e)) a q)

  -- and one that was not
  pub put_fresh : (xs : List PlacedAt) (i : ℕ) (x : PlacedAt) → i ≡ position_or_len is_here (keys_of xs) → list_any is_here (keys_of xs) ≡ false
      → x ≡ get_or (xs ++ record { site = s; parts = [] } ∷ []) i x
      → set (xs ++ record { site = s; parts = [] } ∷ []) i (record { site = x.site; parts = x.parts ++ g ∷ [] }) ≡ put_in xs s g
  put_fresh [] zero x at any got = ap (λ (z : PlacedAt). record { site = z.site; parts = z.parts ++ g ∷ [] } ∷ []) got
  put_fresh [] (suc i) x at any got = absurd (omega (arith, at))
  put_fresh (y ∷ ys) i x at any got = by (same_site s y.site) i at any got (λ j. put_fresh ys j x)
    where
      by : (b : Bool) (k : ℕ) → k ≡ cond (not b) (1 + position_or_len is_here (keys_of ys)) 0 → (b || list_any is_here (keys_of ys)) ≡ false
          → x ≡ get_or (y ∷ (ys ++ record { site = s; parts = [] } ∷ [])) k x
          → ((j : ℕ) → j ≡ position_or_len is_here (keys_of ys) → list_any is_here (keys_of ys) ≡ false → x ≡ get_or (ys ++ record { site = s; parts = [] } ∷ []) j x
          → set (ys ++ record { site = s; parts = [] } ∷ []) j (record { site = x.site; parts = x.parts ++ g ∷ [] }) ≡ put_in ys s g)
          → set (y ∷ (ys ++ record { site = s; parts = [] } ∷ [])) k (record { site = x.site; parts = x.parts ++ g ∷ [] }) ≡ (if b then record { site = y.site; parts = y.parts ++ g ∷ [] } ∷ ys else y ∷ put_in ys s g)
      by true k e a q rest = absurd (false≢true (sym a))
      by false zero e a q rest = absurd (omega (arith, e))
      by false (suc j) e a q rest = ap (λ l. y ∷ l) (rest j (omega (arith, e)) a q)

-- ---- a site found again
module _ (s : Site) where
  abbrev pub is_at : SiteKey → Bool
  is_at k = eqb s.function k.function && (eqb (kind_number s.kind) k.kind && eqb s.ordinal k.ordinal)

  kept_found : (xs : List PlacedAt) → kept_in (map placed_view xs) s ≡ map guarded_view (parts_in (slice_get xs (position_or_len is_at (keys_of xs))))
  kept_found [] = refl
  kept_found (y ∷ ys) = ap (λ b. if b then map guarded_view y.parts else kept_in (map placed_view ys) s) (site_turned y.site s) ∙ by (same_site s y.site) (kept_found ys)
    where
      by : (b : Bool) → kept_in (map placed_view ys) s ≡ map guarded_view (parts_in (slice_get ys (position_or_len is_at (keys_of ys))))
          → (if b then map guarded_view y.parts else kept_in (map placed_view ys) s)
          ≡ map guarded_view (parts_in (slice_get (y ∷ ys) (cond (not b) (1 + position_or_len is_at (keys_of ys)) 0)))
      by true rest = refl
      by false rest =
          let next : suc (position_or_len is_at (keys_of ys)) ≡ 1 + position_or_len is_at (keys_of ys) = omega arith in
          rest ∙ ap (λ n. map guarded_view (parts_in (slice_get (y ∷ ys) n))) next

  pub kept_none : (xs : List PlacedAt) → position is_at (keys_of xs) ≡ None → [] ≡ kept_in (map placed_view xs) s
  kept_none xs e = by (nat_lt (position_or_len is_at (keys_of xs)) (length (keys_of xs))) refl e
    where
      by : (b : Bool) → nat_lt (position_or_len is_at (keys_of xs)) (length (keys_of xs)) ≡ b → cond b (Some (position_or_len is_at (keys_of xs))) None ≡ None → [] ≡ kept_in (map placed_view xs) s
      by true q n = absurd (some_none _ n)
        where
          some_none : (n : ℕ) → Some n ≡ None → ⊥
          some_none n e = cc
      by false q n =
          let le = ltb-false (position_or_len is_at (keys_of xs)) (length (keys_of xs)) q in
          sym (kept_found xs ∙ ap (λ o. map guarded_view (parts_in o)) (slice_get_past xs _ (omega (arith, le, length-map xs (λ x. site_key x.site)))))

  pub kept_some : (xs : List PlacedAt) (i : ℕ) → position is_at (keys_of xs) ≡ Some i → map guarded_view (parts_in (slice_get xs i)) ≡ kept_in (map placed_view xs) s
  kept_some xs i e = by (nat_lt (position_or_len is_at (keys_of xs)) (length (keys_of xs))) e
    where
      none_some : (n : ℕ) → None ≡ Some n → ⊥
      none_some n e = cc

      by : (b : Bool) → cond b (Some (position_or_len is_at (keys_of xs))) None ≡ Some i → map guarded_view (parts_in (slice_get xs i)) ≡ kept_in (map placed_view xs) s
      by true q = sym (kept_found xs ∙ ap (λ n. map guarded_view (parts_in (slice_get xs n))) (same_Some (position_or_len is_at (keys_of xs)) i q))
      by false q = absurd (none_some i q)
