-- What a pair of a site and a part is found again by in a set of those that were seen.
use Rattle.std.specs.Prelude.{ℕ}
use Rattle.gc0_base.specs.declared.site.Site.{Site}
use Rattle.gc0_base.specs.declared.site.Part.{Part}
use Rattle.gc0_base.specs.declared.site.Part.TheVariants.{Value, Reach, Access, Whole, Separate}
use Rattle.core_meaning.specs.CoreSited.{kind_number}
use Rattle.assumption_log.specs.declared.pairs.PairKey.{PairKey}

abbrev pub part_kind : Part → ℕ
part_kind (Value k) = 0
part_kind (Reach k) = 1
part_kind Access = 2
part_kind Whole = 3
part_kind Separate = 4

-- the number of a conjunct, and 0 where a part has none
abbrev pub part_number : Part → ℕ
part_number (Value k) = k
part_number (Reach k) = k
part_number Access = 0
part_number Whole = 0
part_number Separate = 0

abbrev pub pair_key : Site → Part → PairKey
pair_key site part = record {
  function = site.function;
  kind = kind_number site.kind;
  ordinal = site.ordinal;
  part_kind = part_kind part;
  part_number = part_number part;
}
