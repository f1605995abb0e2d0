-- What the search leaves of the proof of `place_all`.
use Rattle.std.proofs.Common.{◌≡◌, ◌≤◌, ℕ, zero, suc, ◌+◌, [], ◌∷◌, ◌++◌, ◌||◌, not, List, drop, map, length, refl, sym, ap, subst, ◌∙◌, arith}
use Rattle.std.proofs.lemmas.List.{drop_more}
use Rattle.gc0_base.specs.declared.site.Site.{Site}
use Rattle.core_checks.specs.Placements.{is_free, is_kept_free, kept_in, placed_of}
use Rattle.assumption_log.specs.declared.Kept.{Kept}
use Rattle.assumption_log.specs.Records.{kept_view}
use Rattle.check_placement.specs.declared.types.PlacedAt.{PlacedAt}
use Rattle.check_placement.specs.declared.placing.Placed.{Placed}
use Rattle.check_placement.specs.Viewed.{placed_view}
use Rattle.check_placement.specs.Putting.{Fits}
use Rattle.check_placement.proofs.Steps.{put_step, skip_step}
use Rattle.check_placement.proofs.placing.place_all.Goals.{then-is_placed+in_ok-put, else-is_placed}
use Rattle.check_placement.proofs.placing.place_all.Goals as goal

pub loop-entry-preserved : goal.loop-entry-preserved
loop-entry-preserved c =
    let es = c.args.entries.now in
    let all = map kept_view es in
    let i = c.loop-entry.entry-index in
    let e = c.entry-item.result in
    let old = c.loop-entry.placed in
    let rest = map kept_view (drop (i + 1) es) in
    let first : drop i es ≡ e ∷ drop (i + 1) es = drop_more es i e c.loop-entry-test.true ∙ ap (λ x. x ∷ drop (i + 1) es) (sym c.entry-item.is) in
    let before : (site : Site) → kept_in (map placed_view old.sites.items) site ++ placed_of all (kept_view e ∷ rest) site ≡ placed_of all all site =
    λ site. subst (λ l. kept_in (map placed_view old.sites.items) site ++ placed_of all (map kept_view l) site ≡ placed_of all all site) first (c.loop-entry.invariant.kept site) in
    let told : c.is_placed.result ≡ (is_free e.decisions || not (is_kept_free all e.site e.part)) =
    c.is_placed.ensures ∙ ap (λ b. is_free e.decisions || not b) (c.in_ok-free.ensures e.site e.part) in
    elim c.if-is_placed.branch [
      | then-is_placed+in_ok-put w ↦
          let puts = w.in_ok-put.ensures in
          record {
            fits = subst Fits (sym w.placed-is) puts.fits;
            kept = λ site.
                ap (λ (p : Placed). kept_in (map placed_view p.sites.items) site ++ placed_of all rest site) w.placed-is
                ∙ ap (λ (l : List PlacedAt). kept_in (map placed_view l) site ++ placed_of all rest site) puts.sites
                ∙ put_step all rest e old.sites.items site (sym told ∙ w.if-is_placed.true) ∙ before site;
          }
      | else-is_placed w ↦ record {
        fits = subst Fits (sym w.placed-is) c.loop-entry.invariant.fits;
        kept = λ site.
            ap (λ (p : Placed). kept_in (map placed_view p.sites.items) site ++ placed_of all rest site) w.placed-is
            ∙ skip_step all rest e old.sites.items site (sym told ∙ w.if-is_placed.false) ∙ before site;
      }
    ]

pub returns : goal.returns
returns c =
    let es = c.args.entries.now in
    let all = map kept_view es in
    let none : drop c.loop-entry.entry-index es ≡ [] = past_end c.loop-entry.entry-index es (omega (arith, c.loop-entry-test.false)) in
    record {
      fits = c.loop-entry.invariant.fits;
      kept = λ site.
          no_more (kept_in (map placed_view c.loop-entry.placed.sites.items) site)
          ∙ sym (ap (λ (l : List Kept). kept_in (map placed_view c.loop-entry.placed.sites.items) site ++ placed_of all (map kept_view l) site) none)
          ∙ c.loop-entry.invariant.kept site;
    }
  where
    no_more : {X : Type 0} (xs : List X) → xs ≡ xs ++ []
    no_more [] = refl
    no_more (x ∷ xs) = ap (λ l. x ∷ l) (no_more xs)

    past_end : {X : Type 0} (n : ℕ) (xs : List X) → length xs ≤ n → drop n xs ≡ []
    past_end zero [] le = refl
    past_end zero (x ∷ xs) le = absurd (omega (arith, le))
    past_end (suc n) [] le = refl
    past_end (suc n) (x ∷ xs) le = past_end n xs (omega (arith, le))
