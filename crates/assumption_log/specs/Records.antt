-- Records of what is kept, as plain data, and what is asked of them. This project's own.
use Rattle.std.specs.Prelude.{ℕ, zero, suc, Bool, true, false, not, ◌&&◌, ◌||◌, List, [], ◌∷◌, ◌++◌, map, if◌then◌else◌}
use Rattle.gc0_base.specs.declared.site.Site.{Site}
use Rattle.gc0_base.specs.declared.site.Part.{Part}
use Rattle.core_meaning.specs.CoreSited.{same_site}
use Rattle.core_checks.specs.Entries.{Known, same_bool, Entry}
use Rattle.core_checks.specs.Placements.{same_decision, same_part}
use Rattle.assumption_log.specs.declared.Kept.{Kept}
use Rattle.assumption_log.specs.declared.Record.{Record}

-- an entry without its reason
abbrev pub kept_view : Kept → Entry
kept_view k = record { site = k.site; decisions = k.decisions; part = k.part }

abbrev pub record_view : Record → List Entry
record_view r = map kept_view r.entries

-- ---- the parts at a site
abbrev pub is_known : Known → List Known → Bool
is_known d [] = false
is_known d (k ∷ ks) = (same_decision d.0 k.0 && same_bool d.1 k.1) || is_known d ks

-- each decision stands in the list, with its outcome
abbrev pub all_known : List Known → List Known → Bool
all_known known [] = true
all_known known (d ∷ ds) = is_known d known && all_known known ds

-- an entry of the site whose decisions all stand in the list
abbrev pub says_part : Site → List Known → Entry → Bool
says_part site known e = same_site e.site site && all_known known e.decisions

abbrev pub is_among : Part → List Part → Bool
is_among part [] = false
is_among part (p ∷ ps) = same_part p part || is_among part ps

-- the parts of such entries, without those that were found before and once each
abbrev pub parts_besides : (found : List Part) → List Entry → Site → List Known → List Part
parts_besides found [] site known = []
parts_besides found (e ∷ es) site known =
    if says_part site known e && not (is_among e.part found)
    then e.part ∷ parts_besides (found ++ e.part ∷ []) es site known else parts_besides found es site known

abbrev pub parts_at : List Entry → Site → List Known → List Part
parts_at es site known = parts_besides [] es site known

-- ---- how many pairs
abbrev pub has_pair : Site → Part → List Entry → Bool
has_pair site part [] = false
has_pair site part (e ∷ es) = (same_site site e.site && same_part part e.part) || has_pair site part es

-- each pair of a site and a part counts once: where it comes last
abbrev pub count_pairs : List Entry → ℕ
count_pairs [] = zero
count_pairs (e ∷ es) = if has_pair e.site e.part es then count_pairs es else suc (count_pairs es)
