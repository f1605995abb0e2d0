-- What holds in the loop of `params`.
use Rattle.std.proofs.Common.{◌≡◌, ◌&&◌, drop, fold, map, []}
use Rattle.c0_value_rules.specs.Violations.{earlier, least_of}
use Rattle.c0_rules.specs.Rules.{params_violations, params_scope}
use Rattle.c0_rules.proofs.items.params.Given as goal

abbrev pub invariant-loop-part : goal.invariant-loop-part
invariant-loop-part l = record {
  scope : params_scope l.tables l.fixed l.scope (drop l.part-index l.params) ≡ params_scope l.tables l.fixed l.fn.scope l.params;
  least : fold earlier l.least (params_violations l.tables l.fixed l.scope (drop l.part-index l.params)) ≡ fold earlier l.fn.least (params_violations l.tables l.fixed l.fn.scope l.params);
}
