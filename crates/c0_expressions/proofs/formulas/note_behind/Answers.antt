-- `note_behind`: what is left to show of its clauses.
use Rattle.std.proofs.Common.{ap, arith, rules, ℕ, ◌+◌, ◌∙◌, ◌≡◌}
use Rattle.gc0_base.specs.declared.place.Place.{Place}
use Rattle.parsed_tree.specs.Tree.{FormulaTree, InstanceTree, NoteTree, assert_note, fold_note, unfold_note}
use Rattle.c0_grammar.specs.Plan.{Plan, fold_plan, note_at, note_enter, unfold_plan}
use Rattle.c0_cursor.specs.Seen.{stepping}
use Rattle.c0_cursor.specs.Laws.{fails_as, step_on}
use Rattle.c0_lex.specs.declared.token.Keyword.TheVariants as key
use Rattle.c0_expressions.proofs.formulas.note_behind.Goals as goal

abbrev asserted : (NoteTree → ℕ → Plan) → Place → FormulaTree → ℕ → Plan
asserted next at f d = next (note_at at (assert_note f)) d

abbrev folded : (NoteTree → ℕ → Plan) → Place → InstanceTree → ℕ → Plan
folded next at i d = next (note_at at (fold_note i)) d

abbrev unfolded : (NoteTree → ℕ → Plan) → Place → InstanceTree → ℕ → Plan
unfolded next at i d = next (note_at at (unfold_note i)) d

pub returns-in-Err-clause-reads : goal.returns-in-Err-clause-reads
returns-in-Err-clause-reads c = λ next.
    let names = c.args.names.now in
    let up = c.args.up in
    let at = c.args.place in
    let k : c.args.keyword ≡ key.Assert = search rules in
    fails_as _ _ _ (ap (λ z. stepping (note_enter names up next z at) at c.args.tokens.now) k)
    (c.in-Err.ensures.reads (asserted next at))

pub returns-in-Ok-clause-reads : goal.returns-in-Ok-clause-reads
returns-in-Ok-clause-reads c = λ next.
    let names = c.args.names.now in
    let up = c.args.up in
    let at = c.args.place in
    let k : c.args.keyword ≡ key.Assert = search rules in
    ap (λ z. stepping (note_enter names up next z at) at c.args.tokens.now) k
    ∙ c.in-Ok.ensures.reads (asserted next at)

pub returns-in-Err-instance_of-clause-reads : goal.returns-in-Err-instance_of-clause-reads
returns-in-Err-instance_of-clause-reads c = λ next.
    let names = c.args.names.now in
    let up = c.args.up in
    let at = c.args.place in
    let k : c.args.keyword ≡ key.Fold = search rules in
    fails_as _ _ _ (ap (λ z. stepping (note_enter names up next z at) at c.args.tokens.now) k
    ∙ step_on (up + 1) (fold_plan names up next at) at c.args.tokens.now (omega arith))
    (c.in-Err-instance_of.ensures.reads (folded next at))

pub returns-in-Ok-instance_of-clause-reads : goal.returns-in-Ok-instance_of-clause-reads
returns-in-Ok-instance_of-clause-reads c = λ next.
    let names = c.args.names.now in
    let up = c.args.up in
    let at = c.args.place in
    let k : c.args.keyword ≡ key.Fold = search rules in
    ap (λ z. stepping (note_enter names up next z at) at c.args.tokens.now) k
    ∙ step_on (up + 1) (fold_plan names up next at) at c.args.tokens.now (omega arith)
    ∙ c.in-Ok-instance_of.ensures.reads (folded next at)

pub returns-in-Err-instance_of-2-clause-reads : goal.returns-in-Err-instance_of-2-clause-reads
returns-in-Err-instance_of-2-clause-reads c = λ next.
    let names = c.args.names.now in
    let up = c.args.up in
    let at = c.args.place in
    let k : c.args.keyword ≡ key.Unfold = search rules in
    fails_as _ _ _ (ap (λ z. stepping (note_enter names up next z at) at c.args.tokens.now) k
    ∙ step_on (up + 1) (unfold_plan names up next at) at c.args.tokens.now (omega arith))
    (c.in-Err-instance_of-2.ensures.reads (unfolded next at))

pub returns-in-Ok-instance_of-2-clause-reads : goal.returns-in-Ok-instance_of-2-clause-reads
returns-in-Ok-instance_of-2-clause-reads c = λ next.
    let names = c.args.names.now in
    let up = c.args.up in
    let at = c.args.place in
    let k : c.args.keyword ≡ key.Unfold = search rules in
    ap (λ z. stepping (note_enter names up next z at) at c.args.tokens.now) k
    ∙ step_on (up + 1) (unfold_plan names up next at) at c.args.tokens.now (omega arith)
    ∙ c.in-Ok-instance_of-2.ensures.reads (unfolded next at)
