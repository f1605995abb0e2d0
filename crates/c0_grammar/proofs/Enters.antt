-- Each text of the grammar that is not too deep is read as its tree, and so has one tree.
use Rattle.std.proofs.Common.{◌≡◌, ℕ, ◌+◌, ◌≤◌, max, List, [], ◌∷◌, map, Result, Ok, refl, sym, ap, ◌∙◌, arith}
use Rattle.gc0_base.specs.declared.place.Place.{Place}
use Rattle.c0_lex.specs.declared.token.Symbol.TheVariants as mark
use Rattle.parsed_tree.specs.declared.items.Library.{Library}
use Rattle.parsed_tree.specs.Tree.{ProgramTree}
use Rattle.c0_grammar.specs.Tokens.{sign_mark, Token, symbol, name_token, end_token}
use Rattle.c0_grammar.specs.Lists.{spell_all, Each, depth_all}
use Rattle.c0_grammar.specs.Written.{BaseText, int_word, bool_word, struct_word, alias_word, spell_base, spell_star}
use Rattle.c0_grammar.specs.Texts.{spell_lines, spell_contract, spell_params, ResultText, void_word, gives, spell_result, ItemText, names_struct, defines_struct, defines_type, declares_function, defines_function, defines_predicates, spell_item, depth_item, library_name, UseText, use_tree}
use Rattle.c0_grammar.specs.Plan.{use_loop, Plan, library_name_of, finished, expect_sign, use_plan, after_part, Fault, run, program_plan, start}
use Rattle.c0_grammar.specs.Reads.{Reads, OneTree}
use Rattle.c0_grammar.specs.Laws.{RunIsComplete}
use Rattle.c0_grammar.proofs.Takes.{GoodPart, depth_part}
use Rattle.c0_grammar.proofs.EntersTokens.{first, pass_on, eat_on, eat_library, EndsList}
use Rattle.c0_grammar.proofs.EntersNote.{PartEnters, list_enters}
use Rattle.c0_grammar.proofs.EntersItem.{items_enter}

-- ---- the libraries in use
use_part : PartEnters use_loop
use_part limit next x rest g h =
    let after : Library → ℕ → Plan = after_part use_loop next in
    let done : Library → Plan = λ l. expect_sign mark.Greater (λ b. after l 0) in
    pass_on limit (use_plan after) x.at (symbol mark.Less x.a ∷ name_token (library_name x.library) x.n ∷ symbol mark.Greater x.b ∷ rest)
    ∙ eat_on limit (sign_mark mark.Less) (λ a. library_name_of done) x.a (name_token (library_name x.library) x.n ∷ symbol mark.Greater x.b ∷ rest)
    ∙ eat_library limit done x.library x.n (symbol mark.Greater x.b ∷ rest)
    ∙ eat_on limit (sign_mark mark.Greater) (λ b. after x.library 0) x.b rest

use_good : (us : List UseText) → Each (GoodPart use_loop) us
use_good [] = tt
use_good (u ∷ us) = (tt, use_good us)

use_depth : (limit : ℕ) (us : List UseText) → 0 + depth_all (depth_part use_loop) us ≤ limit
use_depth limit [] = omega arith
use_depth limit (u ∷ us) = omega (arith, use_depth limit us)

-- no item begins as the naming of a library does
type_no_use : (b : BaseText) (rest : List Token) → EndsList use_loop (first (spell_base b rest))
type_no_use (int_word at) rest next p = refl
type_no_use (bool_word at) rest next p = refl
type_no_use (struct_word at n v) rest next p = refl
type_no_use (alias_word at v) rest next p = refl

result_no_use : (r : ResultText) (rest : List Token) → EndsList use_loop (first (spell_result r rest))
result_no_use (void_word at) rest next p = refl
result_no_use (gives t) rest next p = type_no_use t.base (spell_all spell_star t.stars rest) next p

items_no_use : (is : List ItemText) (last : Place) → EndsList use_loop (first (spell_all spell_item is (end_token last ∷ [])))
items_no_use [] last next p = refl
items_no_use (names_struct at n v c ∷ is) last next p = refl
items_no_use (defines_struct at n v a fs b c ∷ is) last next p = refl
items_no_use (defines_type at t n v c ∷ is) last next p = refl
items_no_use (declares_function h cs c ∷ is) last next p = result_no_use h.gives_what (name_token h.name h.n ∷ symbol mark.OpenParen h.a ∷ spell_params h.params (symbol mark.CloseParen h.b ∷ spell_all spell_contract cs (symbol mark.Semicolon c ∷ spell_all spell_item is (end_token last ∷ [])))) next p
items_no_use (defines_function h cs a ls b ∷ is) last next p = result_no_use h.gives_what (name_token h.name h.n ∷ symbol mark.OpenParen h.a ∷ spell_params h.params (symbol mark.CloseParen h.b ∷ spell_all spell_contract cs (symbol mark.OpenBrace a ∷ spell_lines ls (symbol mark.CloseBrace b ∷ spell_all spell_item is (end_token last ∷ []))))) next p
items_no_use (defines_predicates o ps e ∷ is) last next p = refl

-- ---- a whole text
pub complete : RunIsComplete
complete limit ts p r =
    let x = r.program.text in
    let within : depth_all depth_item x.items ≤ limit = omega (arith, r.within, r.program.depth) in
    let behind = spell_all spell_item x.items (end_token x.last ∷ []) in
    ap (run limit start) (sym r.program.tokens)
    ∙ list_enters use_loop use_part limit (λ us d. program_plan us) x.uses behind (use_good x.uses) (use_depth limit x.uses) (items_no_use x.items x.last)
    ∙ items_enter limit [] (λ is d. finished (record { uses = map use_tree x.uses; items = is }) d) x.items x.last [] r.program.good within
    ∙ ap (λ q. Ok q) r.program.tree

ok_same : (p q : ProgramTree) → ◌≡◌ {A = Result ProgramTree Fault} (Ok p) (Ok q) → p ≡ q
ok_same p q e = cc

-- a text has one tree: the run finds it where either is not too deep
pub one : OneTree
one ts p q c d x y =
    let left : Reads (max c d) ts p = record { nodes = c; program = x; within = omega arith } in
    let right : Reads (max c d) ts q = record { nodes = d; program = y; within = omega arith } in
    ok_same p q (sym (complete (max c d) ts p left) ∙ complete (max c d) ts q right)
