use Rattle.std.proofs.Common.{◌≡◌, length, map, drop}
use Rattle.gc0_base.specs.declared.limits.TheConstants.Limits as limits
use Rattle.gc0_tree.specs.Views.{struct_view}
use Rattle.program_limits.specs.Counts.{first_past}
use Rattle.program_limits.proofs.sizes.fields_passed.Given as goal

abbrev pub invariant-loop-s : goal.invariant-loop-s
invariant-loop-s l = (l.number ≡ l.s-index) × (first_past limits.FIELDS l.number (map (λ s. length s.fields) (map struct_view (drop l.s-index l.structs))) ≡ first_past limits.FIELDS 0 (map (λ s. length s.fields) (map struct_view l.structs)))
