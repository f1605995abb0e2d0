-- What holds at the loop of `invariants_of`.
use Rattle.std.proofs.Common.{◌≡◌, ◌≤◌, List, length}
use Rattle.built_text.specs.Tree.{NoteTree}
use Rattle.built_text.specs.Views.{notes_view}
use Rattle.built_text.specs.Plan.{Plan, notes, run}
use Rattle.built_text.proofs.Loops.{onto}
use Rattle.built_text.proofs.statements.invariants_of.Given as goal

abbrev pub invariant-loop-token : goal.invariant-loop-token
invariant-loop-token l = record {
  reads : (next : List NoteTree → Plan) → run (notes l.room next) l.tokens ≡ run (notes l.room (onto (notes_view l.found) next)) l.rest;
  shorter : length l.rest ≤ length l.tokens;
}

abbrev pub decreases-loop-token : goal.decreases-loop-token
decreases-loop-token l = length l.rest
