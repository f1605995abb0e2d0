-- What holds at each turn of `libraries_of`, and what gets less.
use Rattle.std.proofs.Common.{◌≡◌, ℕ, List, length}
use Rattle.parsed_tree.specs.declared.items.Library.{Library}
use Rattle.c0_grammar.specs.Plan.{Plan, many, use_loop}
use Rattle.c0_cursor.specs.Seen.{reading}
use Rattle.c0_parse.proofs.Uses.{behind_uses}
use Rattle.c0_parse.proofs.reader.libraries_of.Given as goal

abbrev pub invariant-loop-rest : goal.invariant-loop-rest
invariant-loop-rest l = (next : List Library → ℕ → Plan) → reading (many use_loop next) l.tokens ≡ reading (many use_loop (behind_uses l.found next)) l.rest

abbrev pub decreases-loop-rest : goal.decreases-loop-rest
decreases-loop-rest l = length l.rest
