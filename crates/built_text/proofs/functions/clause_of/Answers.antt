-- What is answered by hand of the proof of `clause_of`.
use Rattle.std.proofs.Common.{◌∙◌, sym, true, false}
use Rattle.gc0_base.specs.declared.place.Place.{Place}
use Rattle.built_text.specs.declared.token.Fixed.TheVariants as mark
use Rattle.built_text.specs.declared.tree.ClauseKind.TheVariants as side
use Rattle.built_text.specs.Tree.{NoteTree, ClauseTree}
use Rattle.built_text.specs.Grammar.{most_nested}
use Rattle.built_text.specs.Plan.{Plan, await, noted}
use Rattle.built_text.proofs.Failing.{fails_as}
use Rattle.built_text.proofs.Loops.{peek_await, not_first}
use Rattle.built_text.proofs.functions.clause_of.Goals as goal

abbrev required : (ClauseTree → Plan) → NoteTree → Plan
required next n = next (record { kind = side.Requires; note = n })

abbrev ensured : (ClauseTree → Plan) → NoteTree → Plan
ensured next n = next (record { kind = side.Ensures; note = n })

abbrev these : (ClauseTree → Plan) → Place → Plan
these next at = noted false most_nested at (required next)

abbrev those : (ClauseTree → Plan) → Place → Plan
those next at = noted true most_nested at (ensured next)

pub returns-in-Err-clause-reads : goal.returns-in-Err-clause-reads
returns-in-Err-clause-reads c = λ next.
    fails_as _ _ _ (peek_await mark.Requires (these next) (await mark.Ensures (those next)) c.args.tokens.now (sym c.begins.ensures ∙ c.if-begins.true)) (c.in-Err.ensures.reads (these next))

pub returns-in-Err-note-clause-reads : goal.returns-in-Err-note-clause-reads
returns-in-Err-note-clause-reads c = λ next.
    fails_as _ _ _ (peek_await mark.Requires (these next) (await mark.Ensures (those next)) c.args.tokens.now (sym c.begins.ensures ∙ c.if-begins.true) ∙ c.in-Ok.ensures.reads (these next)) (c.in-Err-note.ensures.reads (required next))

pub returns-in-Err-expect-clause-reads : goal.returns-in-Err-expect-clause-reads
returns-in-Err-expect-clause-reads c = λ next.
    fails_as _ _ _ (not_first mark.Requires (these next) (await mark.Ensures (those next)) c.args.tokens.now (sym c.begins.ensures ∙ c.if-begins.false)) (c.in-Err-expect.ensures.reads (those next))

pub returns-in-Err-note-2-clause-reads : goal.returns-in-Err-note-2-clause-reads
returns-in-Err-note-2-clause-reads c = λ next.
    fails_as _ _ _ (not_first mark.Requires (these next) (await mark.Ensures (those next)) c.args.tokens.now (sym c.begins.ensures ∙ c.if-begins.false) ∙ c.in-Ok-expect.ensures.reads (those next)) (c.in-Err-note-2.ensures.reads (ensured next))

pub returns-then-begins-clause-reads : goal.returns-then-begins-clause-reads
returns-then-begins-clause-reads c = λ next.
    peek_await mark.Requires (these next) (await mark.Ensures (those next)) c.args.tokens.now (sym c.begins.ensures ∙ c.if-begins.true) ∙ c.in-Ok.ensures.reads (these next) ∙ c.in-Ok-note.ensures.reads (required next)

pub returns-clause-reads : goal.returns-clause-reads
returns-clause-reads c = λ next.
    not_first mark.Requires (these next) (await mark.Ensures (those next)) c.args.tokens.now (sym c.begins.ensures ∙ c.if-begins.false) ∙ c.in-Ok-expect.ensures.reads (those next) ∙ c.in-Ok-note-2.ensures.reads (ensured next)
