-- What stands so far of a list, in front of others.
use Rattle.std.specs.Prelude.{ℕ, max, List, ◌++◌}
use Rattle.c0_lex.specs.declared.token.Symbol.TheVariants as mark
use Rattle.parsed_tree.specs.declared.items.Param.{Param}
use Rattle.parsed_tree.specs.declared.items.Field.{Field}
use Rattle.parsed_tree.specs.Tree.{InvariantsTree, StmtTree}
use Rattle.c0_grammar.specs.Plan.{Plan, expect_sign}

-- the annotations of a loop so far, in front of others
abbrev pub onto_loop : List InvariantsTree → ℕ → (List InvariantsTree → ℕ → StmtTree → ℕ → Plan) → List InvariantsTree → ℕ → StmtTree → ℕ → Plan
onto_loop is d next others d' s ds = next (is ++ others) (max d d') s ds

-- the parameters of a head so far, in front of others and the closing parenthesis
abbrev pub params_then : List Param → (List Param → Plan) → List Param → ℕ → Plan
params_then ps next others d = expect_sign mark.CloseParen (λ b. next (ps ++ others))

-- the fields of a struct so far, in front of others, the closing brace and `;`
abbrev pub fields_then : List Field → (List Field → Plan) → List Field → ℕ → Plan
fields_then fs next others d = expect_sign mark.CloseBrace (λ b. expect_sign mark.Semicolon (λ c. next (fs ++ others)))
