-- `first_of_simple`: what is left to show of its clauses.
use Rattle.std.proofs.Common.{◌+◌, ap, false, rules, sym, true, ◌&&◌, ◌∙◌, ◌∷◌, ◌≡◌}
use Rattle.c0_grammar.specs.Plan.{simple}
use Rattle.c0_cursor.specs.Seen.{reading, starts_type}
use Rattle.c0_expressions.specs.Seen.{starts_operand}
use Rattle.c0_expressions.proofs.Simples.{operand_bad, operand_deep, type_deep}
use Rattle.c0_expressions.proofs.simple.first_of_simple.Goals as goal
use Rattle.gc0_base.specs.declared.limits.TheConstants.Limits as limits

pub returns-then-begins_declaration : goal.returns-then-begins_declaration
returns-then-begins_declaration c = λ next.
    let names = c.args.names.now in
    let token = c.in-Some.token.now in
    let behind = c.in-Some.behind.now in
    let s : c.args.tokens.now ≡ token ∷ behind = search rules in
    let d : (c.args.declares && starts_type names (token ∷ behind)) ≡ true = ap (λ z. c.args.declares && starts_type names z) (sym s) ∙ sym c.begins_declaration.ensures ∙ c.if-begins_declaration.true in
    ap (reading (simple names c.args.declares (limits.NESTING + 1) next)) s ∙ type_deep names c.args.declares next token behind d

pub returns-then-begins_operand : goal.returns-then-begins_operand
returns-then-begins_operand c = λ next.
    let names = c.args.names.now in
    let token = c.in-Some.token.now in
    let behind = c.in-Some.behind.now in
    let s : c.args.tokens.now ≡ token ∷ behind = search rules in
    let d : (c.args.declares && starts_type names (token ∷ behind)) ≡ false = ap (λ z. c.args.declares && starts_type names z) (sym s) ∙ sym c.begins_declaration.ensures ∙ c.if-begins_declaration.false in
    let o : starts_operand names (token ∷ behind) ≡ true = ap (starts_operand names) (sym s) ∙ sym c.begins_operand.ensures ∙ c.if-begins_operand.true in
    ap (reading (simple names c.args.declares (limits.NESTING + 1) next)) s ∙ operand_deep names c.args.declares next token behind d o

pub returns : goal.returns
returns c = λ next.
    let names = c.args.names.now in
    let token = c.in-Some.token.now in
    let behind = c.in-Some.behind.now in
    let s : c.args.tokens.now ≡ token ∷ behind = search rules in
    let d : (c.args.declares && starts_type names (token ∷ behind)) ≡ false = ap (λ z. c.args.declares && starts_type names z) (sym s) ∙ sym c.begins_declaration.ensures ∙ c.if-begins_declaration.false in
    let o : starts_operand names (token ∷ behind) ≡ false = ap (starts_operand names) (sym s) ∙ sym c.begins_operand.ensures ∙ c.if-begins_operand.false in
    ap (reading (simple names c.args.declares (limits.NESTING + 1) next)) s ∙ operand_bad names c.args.declares next token behind d o
