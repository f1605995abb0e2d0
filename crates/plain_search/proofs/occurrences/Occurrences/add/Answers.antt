use Rattle.std.proofs.Common.{◌∙◌, false, ◌∷◌, ◌++◌, [], get_or, take, length, sym, ap, subst}
use Rattle.std.proofs.lemmas.List.{take_more}
use Rattle.sat_check.specs.declared.clause.Lit.{Lit}
use Rattle.plain_search.specs.declared.occurrences.Occurrences.{Occurrences}
use Rattle.plain_search.specs.Occurrences.{Adds}
use Rattle.plain_search.proofs.Numbers.{Adds-positive, Adds-negative}
use Rattle.plain_search.proofs.occurrences.Occurrences.add.Goals as goal
use Rattle.plain_search.proofs.occurrences.Occurrences.add.Goals.{then-lit+in_ok-push_at, else-lit+in_ok-push_at-2}

pub loop-lit-preserved : goal.loop-lit-preserved
loop-lit-preserved c =
    let lits = c.args.lits.now in
    let i = c.loop-lit.lit-index in
    let none : Lit = record { variable = 0; positive = false } in
    let lit = get_or lits i none in
    let more = take_more lits i none c.loop-lit-test.true in
    let old = c.args.self.now in
    let before = c.loop-lit.invariant in
    elim c.if-lit.branch [
      | then-lit+in_ok-push_at w ↦
          let adds =
          Adds-positive old.positive.items old.negative.items c.loop-lit.self.positive.items c.loop-lit.self.negative.items w.push_at.new.lists.items c.args.index (take i lits) lit
          before.adds w.if-lit.true w.in_ok-push_at.ensures.adds in
          record {
            positive_len = ap (λ (o : Occurrences). length o.positive.items) w.self-is ∙ w.push_at.ensures.len ∙ before.positive_len;
            negative_len = ap (λ (o : Occurrences). length o.negative.items) w.self-is ∙ before.negative_len;
            adds = rw more
                (subst (λ (o : Occurrences). Adds old.positive.items old.negative.items o.positive.items o.negative.items c.args.index (take i lits ++ lit ∷ [])) (sym w.self-is) adds);
          }
      | else-lit+in_ok-push_at-2 w ↦
          let adds =
          Adds-negative old.positive.items old.negative.items c.loop-lit.self.positive.items c.loop-lit.self.negative.items w.push_at-else-lit.new.lists.items c.args.index (take i lits) lit
          before.adds w.if-lit.false w.in_ok-push_at-2.ensures.adds in
          record {
            positive_len = ap (λ (o : Occurrences). length o.positive.items) w.self-is ∙ before.positive_len;
            negative_len = ap (λ (o : Occurrences). length o.negative.items) w.self-is ∙ w.push_at-else-lit.ensures.len ∙ before.negative_len;
            adds = rw more
                (subst (λ (o : Occurrences). Adds old.positive.items old.negative.items o.positive.items o.negative.items c.args.index (take i lits ++ lit ∷ [])) (sym w.self-is) adds);
          }
    ]
