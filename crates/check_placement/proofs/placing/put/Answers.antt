-- What the search leaves of the proof of `put`.
use Rattle.std.proofs.Common.{◌≡◌, ◌||◌, List, map, sym, ap, ◌∙◌}
use Rattle.std.proofs.lemmas.Result.{on_ok_weaker}
use Rattle.core_checks.specs.Entries.{Known}
use Rattle.core_checks.specs.Placements.{sites_test, known_tests}
use Rattle.check_placement.specs.declared.types.PlacedAt.{PlacedAt}
use Rattle.check_placement.specs.Viewed.{placed_view}
use Rattle.check_placement.specs.Putting.{put_in, guard_of}
use Rattle.check_placement.proofs.Sites.{put_tests}
use Rattle.check_placement.proofs.placing.put.Goals as goal

pub returns : goal.returns
returns c =
    let e = c.args.entry.now in
    let old = c.args.placed.now in
    let copied : c.in_ok-decisions.decisions ≡ e.decisions = c.in_ok-decisions.ensures ∙ c.as_slice.ensures in
    let sites : c.put_part.new.sites.items ≡ put_in old.sites.items e.site (guard_of e) =
    c.in_ok-put_part.ensures.sites ∙ ap (λ (ds : List Known). put_in old.sites.items e.site (record { decisions = ds; part = e.part })) copied in
    on_ok_weaker c.test_all.result (λ end. record {
      sites = sites;
      fits = record {
        keys_right = c.in_ok-put_part.ensures.keys;
        tests = λ d. end d ∙ ap (λ b. b || known_tests d c.as_slice-2.result.now) (c.requires.tests d)
            ∙ ap (λ (ds : List Known). sites_test d (map placed_view old.sites.items) || known_tests d ds) c.as_slice-2.ensures
            ∙ sym (ap (λ (l : List PlacedAt). sites_test d (map placed_view l)) sites ∙ put_tests e.site (guard_of e) old.sites.items d);
      };
    }) c.test_all.ensures
