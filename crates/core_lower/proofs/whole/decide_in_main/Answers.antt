use Rattle.std.proofs.Common.{◌≡◌, Bool, false, [], rules, refl, sym, subst, length, append-nil, if◌then◌else◌}
use Rattle.std.specs.Prelude.{eqb}
use Rattle.std.proofs.lemmas.Bool.{ne_eqb}
use Rattle.core_tree.specs.declared.Phase.TheVariants.{Consume}
use Rattle.core_tree.specs.CoreTree.{no_code}
use Rattle.core_tables.specs.SiteTables.{choices_at}
use Rattle.lowering_laws.specs.Counts.{decided}
use Rattle.core_expressions.specs.Writing.{IsWritten}
use Rattle.core_lower.proofs.Choosing.{chosen}
use Rattle.core_lower.proofs.whole.decide_in_main.Goals as goal

pub returns-else-number-main : goal.returns-else-number-main
returns-else-number-main c k h =
    let o = c.args.out.now in
    let l = c.args.places.now in
    let e : eqb c.args.number c.args.main ≡ false = search (rules, ne_eqb) in
    subst (λ (b : Bool). IsWritten o o (decided (if b then length l else 0) k) no_code (if b then choices_at c.args.site Consume 0 l else []) []) (sym e)
    (chosen o o k c.args.site Consume [] h refl refl refl (sym (append-nil o.decisions)))
