-- What the search leaves of the proof of `keep_note`.
use Rattle.std.proofs.Common.{OnOk, sym, subst}
use Rattle.gc0_tree.specs.declared.Note.{Note}
use Rattle.assumption_log.specs.Keeping.{note_subjects, Adds}
use Rattle.assumption_log.proofs.all.keep_note.Goals as goal

pub returns-in-Assert : goal.returns-in-Assert
returns-in-Assert c =
    subst (λ (n : Note). OnOk c.keep_formula.result (Adds c.args.how.reason c.args.entries.now (note_subjects n c.args.site) c.keep_formula.new.entries))
    (sym c.in-Assert.is) c.keep_formula.ensures

pub returns-in-Fold : goal.returns-in-Fold
returns-in-Fold c =
    subst (λ (n : Note). OnOk c.keep_formula-in-Fold.result (Adds c.args.how.reason c.args.entries.now (note_subjects n c.args.site) c.keep_formula-in-Fold.new.entries))
    (sym c.in-Fold.is) c.keep_formula-in-Fold.ensures

pub returns-in-Unfold : goal.returns-in-Unfold
returns-in-Unfold c =
    subst (λ (n : Note). OnOk c.keep_formula-in-Unfold.result (Adds c.args.how.reason c.args.entries.now (note_subjects n c.args.site) c.keep_formula-in-Unfold.new.entries))
    (sym c.in-Unfold.is) c.keep_formula-in-Unfold.ensures
