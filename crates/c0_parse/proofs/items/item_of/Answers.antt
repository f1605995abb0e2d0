-- `item_of`: what is left to show of its clauses.
use Rattle.std.proofs.Common.{ap, false, rules, sym, ◌∙◌, ◌∷◌, ◌≡◌}
use Rattle.c0_grammar.specs.Tokens.{end_mark}
use Rattle.c0_grammar.specs.Plan.{after_item, is, items, items_step, type_step, typed, typed_head}
use Rattle.c0_cursor.specs.Seen.{reading, starts}
use Rattle.c0_grammar.specs.Seen.{what_of}
use Rattle.c0_cursor.specs.Laws.{along}
use Rattle.c0_parse.proofs.ItemSteps.{item_at, item_typed}
use Rattle.c0_lex.specs.declared.token.Keyword.TheVariants as key
use Rattle.c0_lex.specs.declared.token.TokenKind.TheVariants as kind
use Rattle.c0_parse.proofs.items.item_of.Goals as goal

pub returns-in-AnnotationBegin-clause-reads : goal.returns-in-AnnotationBegin-clause-reads
returns-in-AnnotationBegin-clause-reads c = λ next.
    let names = c.args.names.now in
    let token = c.in-Some.token.now in
    let rest = c.in-Some.rest.now in
    let s : c.args.tokens.now ≡ token ∷ rest = search rules in
    let k : token.kind ≡ kind.AnnotationBegin = search rules in
    along _ _ _ _ (ap (reading (items names next)) s ∙ item_at names next token rest (kind.AnnotationBegin) k) (c.predicates_behind.ensures.reads (after_item names next))

pub returns-in-Keyword-Struct-clause-reads : goal.returns-in-Keyword-Struct-clause-reads
returns-in-Keyword-Struct-clause-reads c = λ next.
    let names = c.args.names.now in
    let token = c.in-Some.token.now in
    let rest = c.in-Some.rest.now in
    let s : c.args.tokens.now ≡ token ∷ rest = search rules in
    let k : token.kind ≡ kind.Keyword key.Struct = search rules in
    along _ _ _ _ (ap (reading (items names next)) s ∙ item_at names next token rest (kind.Keyword key.Struct) k) (c.struct_behind.ensures.reads (after_item names next))

pub returns-in-Keyword-Typedef-clause-reads : goal.returns-in-Keyword-Typedef-clause-reads
returns-in-Keyword-Typedef-clause-reads c = λ next.
    let names = c.args.names.now in
    let token = c.in-Some.token.now in
    let rest = c.in-Some.rest.now in
    let s : c.args.tokens.now ≡ token ∷ rest = search rules in
    let k : token.kind ≡ kind.Keyword key.Typedef = search rules in
    along _ _ _ _ (ap (reading (items names next)) s ∙ item_at names next token rest (kind.Keyword key.Typedef) k) (c.typedef_behind.ensures.reads next)

pub returns-in-Keyword-Void-clause-reads : goal.returns-in-Keyword-Void-clause-reads
returns-in-Keyword-Void-clause-reads c = λ next.
    let names = c.args.names.now in
    let token = c.in-Some.token.now in
    let rest = c.in-Some.rest.now in
    let s : c.args.tokens.now ≡ token ∷ rest = search rules in
    let k : token.kind ≡ kind.Keyword key.Void = search rules in
    along _ _ _ _ (ap (reading (items names next)) s ∙ item_at names next token rest (kind.Keyword key.Void) k) (c.head_behind.ensures.reads (after_item names next))

pub returns-in_default-kind-clause-reads : goal.returns-in_default-kind-clause-reads
returns-in_default-kind-clause-reads c = λ next.
    let names = c.args.names.now in
    let token = c.in-Some.token.now in
    let rest = c.in-Some.rest.now in
    let s : c.args.tokens.now ≡ token ∷ rest = search rules in
    let w = what_of token.kind token.text.now in
    let m : starts end_mark c.args.tokens.now ≡ false = c.requires in
    let e : is end_mark w ≡ false = sym (ap (starts end_mark) s) ∙ m in
    let q : items_step names next w token.place ≡ type_step names 0 (typed_head names (after_item names next)) w token.place = search rules in
    along _ _ _ _ (ap (reading (items names next)) s ∙ item_typed names next token rest q ∙ ap (reading (typed names (typed_head names (after_item names next)))) (sym s))
    (c.typed_item.ensures.reads (after_item names next))
