-- A list of places that numbers the sites of one kind.
use Rattle.std.specs.Prelude.{◌≡◌, ◌<◌, ◌^◌, List, length, count_by}
use Rattle.std.specs.List.Sorted.{IsNonDecreasingBy}
use Rattle.gc0_base.specs.declared.place.Place.{Place}
use Rattle.gc0_base.specs.declared.site.Kind.{Kind}
use Rattle.gc0_tree.specs.Tree.{Function}
use Rattle.gc0_tree.specs.Sites.{text_key, is_before, ordinal}

-- as many stand before each place as tokens of the function
abbrev pub Numbers : Function → Kind → List Place → Type 0
Numbers f k places = (at : Place) → count_by (λ token. is_before token at) places ≡ ordinal f k at

-- in the order of the text, and few enough for a site
abbrev pub IsNumbered : Function → Kind → List Place → Type 0
IsNumbered f k places = IsNonDecreasingBy text_key places × (length places < 2 ^ 32) × Numbers f k places
