-- What the search leaves of the proof of `free_pairs`.
use Rattle.std.proofs.Common.{◌≡◌, ◌+◌, ◌-◌, ◌∷◌, ◌++◌, [], List, drop, map, refl, sym, ap, subst, ◌∙◌, arith}
use Rattle.std.specs.Prelude.{if◌then◌else◌}
use Rattle.std.specs.List.{list_any}
use Rattle.std.proofs.lemmas.List.{drop_more}
use Rattle.gc0_base.specs.declared.site.Site.{Site}
use Rattle.gc0_base.specs.declared.site.Part.{Part}
use Rattle.core_checks.specs.Placements.{is_kept_free}
use Rattle.assumption_log.specs.declared.Kept.{Kept}
use Rattle.assumption_log.specs.declared.pairs.PairKey.{PairKey}
use Rattle.assumption_log.specs.Records.{kept_view}
use Rattle.check_placement.specs.FoundBy.{same_key, has_pair_key}
use Rattle.check_placement.proofs.Steps.{free_more}
use Rattle.check_placement.proofs.placing.free_pairs.Goals as goal

pub loop-left-preserved-in_ok-insert : goal.loop-left-preserved-in_ok-insert
loop-left-preserved-in_ok-insert c =
    let es = c.args.entries.now in
    let i = c.loop-left.left - 1 in
    let here = c.index-entries-left.result in
    let old = c.loop-left.free.keys in
    let from : drop i es ≡ here ∷ drop (i + 1) es =
    drop_more es i here (omega (arith, c.loop-left.invariant.within, c.loop-left-test.true)) ∙ ap (λ x. x ∷ drop (i + 1) es) (sym c.index-entries-left.is) in
    let next : c.loop-left.left ≡ i + 1 = omega (arith, c.loop-left-test.true) in
    let finds : (site : Site) (part : Part) → has_pair_key site part old ≡ is_kept_free (map kept_view (drop (i + 1) es)) site part =
    λ site part. subst (λ n. has_pair_key site part old ≡ is_kept_free (map kept_view (drop n es)) site part) next (c.loop-left.invariant.finds site part) in
    record {
      within = omega (arith, c.loop-left.invariant.within);
      finds = λ site part.
          ap (has_pair_key site part) c.in_ok-insert.ensures.keys
          ∙ ap (λ (k : PairKey). has_pair_key site part (if list_any (same_key k) old then old else old ++ k ∷ [])) c.pair_key.ensures
          ∙ free_more old (map kept_view (drop (i + 1) es)) here (c.if-is_empty.ensures.0 refl) finds site part
          ∙ sym (ap (λ (l : List Kept). is_kept_free (map kept_view l) site part) from);
    }
