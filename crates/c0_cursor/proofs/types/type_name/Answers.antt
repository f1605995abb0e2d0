-- `type_name`: what is left to show of its clauses.
use Rattle.std.proofs.Common.{rules, ◌≡◌, ◌∙◌, ◌∷◌, ℕ, List, ap, sym, true, cond, None}
use Rattle.c0_lex.specs.declared.token.Token.{Token}
use Rattle.c0_lex.specs.declared.token.TokenKind.{TokenKind}
use Rattle.c0_lex.specs.declared.token.TokenKind.TheVariants as kind
use Rattle.c0_lex.specs.declared.token.Keyword.TheVariants as key
use Rattle.parsed_tree.specs.declared.expressions.Base.TheVariants as base
use Rattle.parsed_tree.specs.declared.expressions.TypeName.{TypeName}
use Rattle.c0_grammar.specs.Tokens.{is_among}
use Rattle.c0_grammar.specs.Plan.{Plan, stars, typed, node, step}
use Rattle.c0_cursor.specs.Seen.{reading, stepping}
use Rattle.c0_grammar.specs.Seen.{what_of}
use Rattle.c0_cursor.specs.Laws.{along}
use Rattle.c0_cursor.proofs.types.type_name.Goals as goal

typed_at : (names : List (List ℕ)) (next : TypeName → Plan) (t : Token) (ts : List Token) (k : TokenKind) → t.kind ≡ k → reading (typed names next) (t ∷ ts) ≡ stepping (step (typed names next) (record { what = what_of k t.text.now; place = t.place })) t.place ts
typed_at names next t ts k e = ap (λ z. stepping (step (typed names next) (record { what = what_of z t.text.now; place = t.place })) t.place ts) e

alias_at : (names : List (List ℕ)) (next : TypeName → Plan) (t : Token) (ts : List Token) → is_among names t.text.now ≡ true → stepping (step (typed names next) (record { what = what_of kind.Name t.text.now; place = t.place })) t.place ts ≡ reading (stars t.place (base.Alias t.text.now) next) ts
alias_at names next t ts f = ap (λ b. stepping (cond b (node 0 (stars t.place (base.Alias t.text.now) next)) None) t.place ts) f

pub returns-in-Keyword-Int-clause-reads : goal.returns-in-Keyword-Int-clause-reads
returns-in-Keyword-Int-clause-reads c = λ next.
    let token = c.in-Some.token.now in
    let s : c.args.tokens.now ≡ token ∷ c.in-Some.rest.now = search rules in
    let k : token.kind ≡ kind.Keyword key.Int = search rules in
    along _ _ _ _ (ap (reading (typed c.args.names.now next)) s ∙ typed_at c.args.names.now next token c.in-Some.rest.now (kind.Keyword key.Int) k) (c.behind_base.ensures.reads next)

pub returns-in-Keyword-Bool-clause-reads : goal.returns-in-Keyword-Bool-clause-reads
returns-in-Keyword-Bool-clause-reads c = λ next.
    let token = c.in-Some.token.now in
    let s : c.args.tokens.now ≡ token ∷ c.in-Some.rest.now = search rules in
    let k : token.kind ≡ kind.Keyword key.Bool = search rules in
    along _ _ _ _ (ap (reading (typed c.args.names.now next)) s ∙ typed_at c.args.names.now next token c.in-Some.rest.now (kind.Keyword key.Bool) k) (c.behind_base-in-Keyword-Bool.ensures.reads next)

pub returns-in-Keyword-Struct-clause-reads : goal.returns-in-Keyword-Struct-clause-reads
returns-in-Keyword-Struct-clause-reads c = λ next.
    let token = c.in-Some.token.now in
    let s : c.args.tokens.now ≡ token ∷ c.in-Some.rest.now = search rules in
    let k : token.kind ≡ kind.Keyword key.Struct = search rules in
    along _ _ _ _ (ap (reading (typed c.args.names.now next)) s ∙ typed_at c.args.names.now next token c.in-Some.rest.now (kind.Keyword key.Struct) k) (c.behind_struct.ensures.reads next)

pub returns-in_ok-name-in-Name-clause-reads : goal.returns-in_ok-name-in-Name-clause-reads
returns-in_ok-name-in-Name-clause-reads c = λ next.
    let token = c.in-Some.token.now in
    let ts = c.in-Some.rest.now in
    let s : c.args.tokens.now ≡ token ∷ ts = search rules in
    let k : token.kind ≡ kind.Name = search rules in
    let f : is_among c.args.names.now token.text.now ≡ true = search rules in
    let v : c.in_ok-name-in-Name.name ≡ token.text.now = search rules in
    along _ _ _ _
    (ap (reading (typed c.args.names.now next)) s ∙ typed_at c.args.names.now next token ts kind.Name k ∙ alias_at c.args.names.now next token ts f
    ∙ ap (λ n. reading (stars token.place (base.Alias n) next) ts) (sym v))
    (c.behind_base-in-Name.ensures.reads next)
