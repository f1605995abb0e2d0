-- What stands first where a statement, an annotation or a clause may stand.
use Rattle.std.specs.Prelude.{ℕ, max, Bool, false, ◌&&◌, ◌||◌, List, [], ◌∷◌, Result, Err}
use Rattle.c0_lex.specs.declared.token.Token.{Token as LexToken}
use Rattle.c0_lex.specs.declared.token.Keyword.TheVariants as key
use Rattle.c0_grammar.specs.Seen.{what_of}
use Rattle.parsed_tree.specs.declared.items.Side.TheVariants as side
use Rattle.parsed_tree.specs.Tree.{InvariantsTree, StmtTree, ClauseTree, ProgramTree}
use Rattle.c0_grammar.specs.Tokens.{word_mark, open_mark, close_mark}
use Rattle.c0_grammar.specs.Plan.{invariant_loop, Plan, await, peek, many, is, line_step, invariants_at, invariant_plan, clause_plan, Fault, syntax_at, nowhere}
use Rattle.c0_cursor.specs.Seen.{starts, stepping}

-- what a statement that stands first gives
abbrev pub line_reading : List (List ℕ) → Bool → ℕ → (StmtTree → ℕ → Plan) → List LexToken → Result ProgramTree Fault
line_reading names whole up next [] = Err (syntax_at nowhere)
line_reading names whole up next (t ∷ ts) = stepping (line_step names whole up next (what_of t.kind t.text.now) t.place) t.place ts

-- an annotation stands first that is empty or has an invariant
abbrev pub opens_invariants : List LexToken → Bool
opens_invariants [] = false
opens_invariants (t ∷ ts) = is open_mark (what_of t.kind t.text.now) && (starts close_mark ts || starts (word_mark key.LoopInvariant) ts)

-- such an annotation
abbrev pub invariants_plan : List (List ℕ) → ℕ → (InvariantsTree → ℕ → Plan) → Plan
invariants_plan names up next =
    await 0 open_mark (λ at. peek 0 close_mark (λ e. next (invariants_at at []) 0)
    (await 0 (word_mark key.LoopInvariant) (invariant_plan names up (λ c d. many (invariant_loop names up) (λ cs d'. await 0 close_mark (λ e. next (invariants_at at (c ∷ cs)) (max d d')))))))

-- a clause of a contract
abbrev pub one_clause : List (List ℕ) → (ClauseTree → ℕ → Plan) → Plan
one_clause names next = peek 0 (word_mark key.Requires) (clause_plan names next side.Requires) (await 0 (word_mark key.Ensures) (clause_plan names next side.Ensures))
