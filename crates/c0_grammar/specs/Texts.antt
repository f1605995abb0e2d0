-- Statements and items as they are written, with the place of each token. For each: its tokens, in
-- front of others; its tree; and how many nodes stand on its longest path.
-- Source: C0 Reference, "Statements", "Functions" and "Structs"; the annotations of Gradual C0.
use Rattle.std.specs.Prelude.{ℕ, ◌+◌, max, List, [], ◌∷◌, map, Option, Some, None, codes}
use Rattle.gc0_base.specs.declared.place.Place.{Place}
use Rattle.c0_lex.specs.declared.token.Keyword.{Keyword}
use Rattle.c0_lex.specs.declared.token.Keyword.TheVariants as key
use Rattle.c0_lex.specs.declared.token.Symbol.{Symbol}
use Rattle.c0_lex.specs.declared.token.Symbol.TheVariants as mark
use Rattle.parsed_tree.specs.declared.statements.UpdateOperator.{UpdateOperator}
use Rattle.parsed_tree.specs.declared.statements.UpdateOperator.TheVariants as update
use Rattle.parsed_tree.specs.declared.statements.StepOperator.{StepOperator}
use Rattle.parsed_tree.specs.declared.statements.StepOperator.TheVariants as by_one
use Rattle.parsed_tree.specs.declared.items.Library.{Library}
use Rattle.parsed_tree.specs.declared.items.Library.TheVariants as library
use Rattle.parsed_tree.specs.declared.items.Field.{Field}
use Rattle.parsed_tree.specs.declared.items.Param.{Param}
use Rattle.parsed_tree.specs.declared.items.ResultType.{ResultType}
use Rattle.parsed_tree.specs.declared.items.ResultType.TheVariants as result
use Rattle.parsed_tree.specs.declared.items.Head.{Head}
use Rattle.parsed_tree.specs.declared.items.Side.{Side}
use Rattle.parsed_tree.specs.declared.items.Side.TheVariants as side
use Rattle.parsed_tree.specs.Tree.{InstanceTree, assert_note, fold_note, unfold_note, NoteTree, InvariantTree, InvariantsTree, SimpleTree, declare, assign, stepped, plain, StmtTree, simple_stmt, block_stmt, if_stmt, while_stmt, for_stmt, return_stmt, assert_stmt, error_stmt, notes_stmt, StmtTrees, no_stmts, stmt_and, ClauseTree, ContractTree, PredicateTree, ItemTree, struct_name, struct_item, typedef_item, prototype_item, function_item, predicates_item, ProgramTree}
use Rattle.c0_grammar.specs.Tokens.{Token, use_token, keyword, symbol, name_token, text_token, begins_annotation, ends_annotation, end_token}
use Rattle.c0_grammar.specs.Lists.{spell_all, depth_all}
use Rattle.c0_grammar.specs.Written.{TypeText, spell_type, type_tree, named_at, text_at, Written, spell, tree_of, depth, Args, spell_args, args_trees, depth_args, FormulaText, spell_formula, formula_tree, depth_formula}

-- ---- notes: ( "assert" formula | ( "fold" | "unfold" ) id "(" [ args ] ")" ) ";"
pub data NoteText : Type 0 where
  asserts_note : (at : Place) → FormulaText → (c : Place) → NoteText
  folds_note : (at n : Place) → List ℕ → (a : Place) → Args → (b c : Place) → NoteText
  unfolds_note : (at n : Place) → List ℕ → (a : Place) → Args → (b c : Place) → NoteText

abbrev pub spell_instance : (n : Place) → List ℕ → (a : Place) → Args → (b c : Place) → List Token → List Token
spell_instance n name a xs b c rest = name_token name n ∷ symbol mark.OpenParen a ∷ spell_args xs (symbol mark.CloseParen b ∷ symbol mark.Semicolon c ∷ rest)

abbrev pub spell_note : NoteText → List Token → List Token
spell_note (asserts_note at f c) rest = keyword key.Assert at ∷ spell_formula f (symbol mark.Semicolon c ∷ rest)
spell_note (folds_note at n name a xs b c) rest = keyword key.Fold at ∷ spell_instance n name a xs b c rest
spell_note (unfolds_note at n name a xs b c) rest = keyword key.Unfold at ∷ spell_instance n name a xs b c rest

abbrev pub instance_tree : (n : Place) → List ℕ → Args → InstanceTree
instance_tree n name xs = record { name = named_at n name; arguments = args_trees xs }

abbrev pub note_tree : NoteText → NoteTree
note_tree (asserts_note at f c) = record { place = at; form = assert_note (formula_tree f) }
note_tree (folds_note at n name a xs b c) = record { place = at; form = fold_note (instance_tree n name xs) }
note_tree (unfolds_note at n name a xs b c) = record { place = at; form = unfold_note (instance_tree n name xs) }

-- the instance of a `fold` or `unfold` is a node
abbrev pub depth_note : NoteText → ℕ
depth_note (asserts_note at f c) = depth_formula f
depth_note (folds_note at n name a xs b c) = depth_args xs + 1
depth_note (unfolds_note at n name a xs b c) = depth_args xs + 1

-- ---- inv = AB { "loop_invariant" formula ";" } AE
pub record InvariantText : Type 0 where
  pub at : Place
  pub formula : FormulaText
  pub c : Place

abbrev pub spell_invariant : InvariantText → List Token → List Token
spell_invariant i rest = keyword key.LoopInvariant i.at ∷ spell_formula i.formula (symbol mark.Semicolon i.c ∷ rest)

abbrev pub invariant_tree : InvariantText → InvariantTree
invariant_tree i = record { place = i.at; formula = formula_tree i.formula }

abbrev pub depth_invariant : InvariantText → ℕ
depth_invariant i = depth_formula i.formula

pub record InvariantsText : Type 0 where
  pub o : Place
  pub clauses : List InvariantText
  pub e : Place

abbrev pub spell_invariants : InvariantsText → List Token → List Token
spell_invariants i rest = begins_annotation i.o ∷ spell_all spell_invariant i.clauses (ends_annotation i.e ∷ rest)

abbrev pub invariants_tree : InvariantsText → InvariantsTree
invariants_tree i = record { place = i.o; clauses = map invariant_tree i.clauses }

abbrev pub depth_invariants : InvariantsText → ℕ
depth_invariants i = depth_all depth_invariant i.clauses

-- ---- simple = type id [ "=" expr ] | lvalue asnop expr | lvalue ( "++" | "--" ) | expr
abbrev pub update_symbol : Option UpdateOperator → Symbol
update_symbol None = mark.Assign
update_symbol (Some update.Add) = mark.AddAssign
update_symbol (Some update.Sub) = mark.SubAssign
update_symbol (Some update.Mul) = mark.MulAssign
update_symbol (Some update.Div) = mark.DivAssign
update_symbol (Some update.Rem) = mark.RemAssign
update_symbol (Some update.And) = mark.AndAssign
update_symbol (Some update.Xor) = mark.XorAssign
update_symbol (Some update.Or) = mark.OrAssign
update_symbol (Some update.Shl) = mark.ShlAssign
update_symbol (Some update.Shr) = mark.ShrAssign

abbrev pub step_symbol : StepOperator → Symbol
step_symbol by_one.Increment = mark.Increment
step_symbol by_one.Decrement = mark.Decrement

pub data SimpleText : Type 0 where
  declares : TypeText → (n : Place) → List ℕ → SimpleText
  declares_as : TypeText → (n : Place) → List ℕ → (q : Place) → Written → SimpleText
  assigns : Written → (q : Place) → Option UpdateOperator → Written → SimpleText
  steps : Written → (q : Place) → StepOperator → SimpleText
  evaluates : Written → SimpleText

abbrev pub spell_simple : SimpleText → List Token → List Token
spell_simple (declares t n name) rest = spell_type t (name_token name n ∷ rest)
spell_simple (declares_as t n name q x) rest = spell_type t (name_token name n ∷ symbol mark.Assign q ∷ spell x rest)
spell_simple (assigns x q o y) rest = spell x (symbol (update_symbol o) q ∷ spell y rest)
spell_simple (steps x q o) rest = spell x (symbol (step_symbol o) q ∷ rest)
spell_simple (evaluates x) rest = spell x rest

abbrev pub simple_tree : SimpleText → SimpleTree
simple_tree (declares t n name) = declare (type_tree t) (named_at n name) None
simple_tree (declares_as t n name q x) = declare (type_tree t) (named_at n name) (Some (q, tree_of x))
simple_tree (assigns x q o y) = assign (tree_of x) q o (tree_of y)
simple_tree (steps x q o) = stepped (tree_of x) q o
simple_tree (evaluates x) = plain (tree_of x)

abbrev pub depth_simple : SimpleText → ℕ
depth_simple (declares t n name) = 0
depth_simple (declares_as t n name q x) = depth x
depth_simple (assigns x q o y) = max (depth x) (depth y)
depth_simple (steps x q o) = depth x
depth_simple (evaluates x) = depth x

-- [ simple ], [ expr ]
abbrev pub spell_option : {A : Type 0} → (A → List Token → List Token) → Option A → List Token → List Token
spell_option f None rest = rest
spell_option f (Some x) rest = f x rest

abbrev pub tree_option : {A B : Type 0} → (A → B) → Option A → Option B
tree_option f None = None
tree_option f (Some x) = Some (f x)

abbrev pub depth_option : {A : Type 0} → (A → ℕ) → Option A → ℕ
depth_option f None = 0
depth_option f (Some x) = f x

-- ---- statements
mutual
  pub data Line : Type 0 where
    simple_line : SimpleText → (c : Place) → Line
    braces : (a : Place) → Lines → (b : Place) → Line
    ifs : (at a : Place) → Written → (b : Place) → Line → Line
    ifs_else : (at a : Place) → Written → (b : Place) → Line → (e : Place) → Line → Line
    whiles : (at a : Place) → Written → (b : Place) → List InvariantsText → Line → Line
    fors : (at a : Place) → Option SimpleText → (c : Place) → Written → (d : Place) → Option SimpleText → (b : Place) → List InvariantsText → Line → Line
    returns : (at : Place) → Option Written → (c : Place) → Line
    asserts : (at a : Place) → Written → (b c : Place) → Line
    raises : (at a t : Place) → List ℕ → (b c : Place) → Line
    notes : (o : Place) → List NoteText → (e : Place) → Line

  pub data Lines : Type 0 where
    no_lines : Lines
    line_and : Line → Lines → Lines

abbrev mutual
  pub spell_line : Line → List Token → List Token
  spell_line (simple_line s c) rest = spell_simple s (symbol mark.Semicolon c ∷ rest)
  spell_line (braces a ls b) rest = symbol mark.OpenBrace a ∷ spell_lines ls (symbol mark.CloseBrace b ∷ rest)
  spell_line (ifs at a x b l) rest = keyword key.If at ∷ symbol mark.OpenParen a ∷ spell x (symbol mark.CloseParen b ∷ spell_line l rest)
  spell_line (ifs_else at a x b l e m) rest = keyword key.If at ∷ symbol mark.OpenParen a ∷ spell x (symbol mark.CloseParen b ∷ spell_line l (keyword key.Else e ∷ spell_line m rest))
  spell_line (whiles at a x b is l) rest = keyword key.While at ∷ symbol mark.OpenParen a ∷ spell x (symbol mark.CloseParen b ∷ spell_all spell_invariants is (spell_line l rest))
  spell_line (fors at a s c x d t b is l) rest = keyword key.For at ∷ symbol mark.OpenParen a ∷ spell_option spell_simple s (symbol mark.Semicolon c ∷ spell x (symbol mark.Semicolon d ∷ spell_option spell_simple t (symbol mark.CloseParen b ∷ spell_all spell_invariants is (spell_line l rest))))
  spell_line (returns at x c) rest = keyword key.Return at ∷ spell_option spell x (symbol mark.Semicolon c ∷ rest)
  spell_line (asserts at a x b c) rest = keyword key.Assert at ∷ symbol mark.OpenParen a ∷ spell x (symbol mark.CloseParen b ∷ symbol mark.Semicolon c ∷ rest)
  spell_line (raises at a t bytes b c) rest = keyword key.Error at ∷ symbol mark.OpenParen a ∷ text_token bytes t ∷ symbol mark.CloseParen b ∷ symbol mark.Semicolon c ∷ rest
  spell_line (notes o ns e) rest = begins_annotation o ∷ spell_all spell_note ns (ends_annotation e ∷ rest)

  pub spell_lines : Lines → List Token → List Token
  spell_lines no_lines rest = rest
  spell_lines (line_and l ls) rest = spell_line l (spell_lines ls rest)

abbrev mutual
  pub line_tree : Line → StmtTree
  line_tree (simple_line s c) = simple_stmt (simple_tree s)
  line_tree (braces a ls b) = block_stmt a (line_trees ls)
  line_tree (ifs at a x b l) = if_stmt at (tree_of x) (line_tree l) no_stmts
  line_tree (ifs_else at a x b l e m) = if_stmt at (tree_of x) (line_tree l) (stmt_and (line_tree m) no_stmts)
  line_tree (whiles at a x b is l) = while_stmt at (tree_of x) (map invariants_tree is) (line_tree l)
  line_tree (fors at a s c x d t b is l) = for_stmt at (tree_option simple_tree s) (tree_of x) (tree_option simple_tree t) (map invariants_tree is) (line_tree l)
  line_tree (returns at x c) = return_stmt at (tree_option tree_of x)
  line_tree (asserts at a x b c) = assert_stmt at (tree_of x)
  line_tree (raises at a t bytes b c) = error_stmt at (text_at t bytes)
  line_tree (notes o ns e) = notes_stmt o (map note_tree ns)

  pub line_trees : Lines → StmtTrees
  line_trees no_lines = no_stmts
  line_trees (line_and l ls) = stmt_and (line_tree l) (line_trees ls)

-- An annotation is one statement, however many clauses it has; without clauses it is none.
abbrev pub depth_notes : List NoteText → ℕ
depth_notes [] = 0
depth_notes (n ∷ ns) = max (depth_note n) (depth_all depth_note ns) + 1

abbrev mutual
  pub depth_line : Line → ℕ
  depth_line (simple_line s c) = depth_simple s + 1
  depth_line (braces a ls b) = depth_lines ls + 1
  depth_line (ifs at a x b l) = max (depth x) (depth_line l) + 1
  depth_line (ifs_else at a x b l e m) = max (depth x) (max (depth_line l) (depth_line m)) + 1
  depth_line (whiles at a x b is l) = max (depth x) (max (depth_all depth_invariants is) (depth_line l)) + 1
  depth_line (fors at a s c x d t b is l) = max (depth_option depth_simple s) (max (depth x) (max (depth_option depth_simple t) (max (depth_all depth_invariants is) (depth_line l)))) + 1
  depth_line (returns at x c) = depth_option depth x + 1
  depth_line (asserts at a x b c) = depth x + 1
  depth_line (raises at a t bytes b c) = 1
  depth_line (notes o ns e) = depth_notes ns

  pub depth_lines : Lines → ℕ
  depth_lines no_lines = 0
  depth_lines (line_and l ls) = max (depth_line l) (depth_lines ls)

-- ---- contract = AB { ( "requires" | "ensures" ) formula ";" } AE
abbrev pub side_word : Side → Keyword
side_word side.Requires = key.Requires
side_word side.Ensures = key.Ensures

pub record ClauseText : Type 0 where
  pub at : Place
  pub side : Side
  pub formula : FormulaText
  pub c : Place

abbrev pub spell_clause : ClauseText → List Token → List Token
spell_clause i rest = keyword (side_word i.side) i.at ∷ spell_formula i.formula (symbol mark.Semicolon i.c ∷ rest)

abbrev pub clause_tree : ClauseText → ClauseTree
clause_tree i = record { place = i.at; side = i.side; formula = formula_tree i.formula }

abbrev pub depth_clause : ClauseText → ℕ
depth_clause i = depth_formula i.formula

pub record ContractText : Type 0 where
  pub o : Place
  pub clauses : List ClauseText
  pub e : Place

abbrev pub spell_contract : ContractText → List Token → List Token
spell_contract i rest = begins_annotation i.o ∷ spell_all spell_clause i.clauses (ends_annotation i.e ∷ rest)

abbrev pub contract_tree : ContractText → ContractTree
contract_tree i = record { place = i.o; clauses = map clause_tree i.clauses }

abbrev pub depth_contract : ContractText → ℕ
depth_contract i = depth_all depth_clause i.clauses

-- ---- params = type id { "," type id }
pub record ParamText : Type 0 where
  pub typed : TypeText
  pub n : Place
  pub name : List ℕ

abbrev pub spell_param : ParamText → List Token → List Token
spell_param p rest = spell_type p.typed (name_token p.name p.n ∷ rest)

abbrev pub param_tree : ParamText → Param
param_tree p = record { typed = type_tree p.typed; name = named_at p.n p.name }

-- a parameter and the comma before it
pub record NextParam : Type 0 where
  pub comma : Place
  pub param : ParamText

abbrev pub spell_next : NextParam → List Token → List Token
spell_next p rest = symbol mark.Comma p.comma ∷ spell_param p.param rest

abbrev pub next_tree : NextParam → Param
next_tree p = param_tree p.param

pub data Params : Type 0 where
  no_params : Params
  some_params : ParamText → List NextParam → Params

abbrev pub spell_params : Params → List Token → List Token
spell_params no_params rest = rest
spell_params (some_params p ps) rest = spell_param p (spell_all spell_next ps rest)

abbrev pub params_trees : Params → List Param
params_trees no_params = []
params_trees (some_params p ps) = param_tree p ∷ map next_tree ps

-- ---- head = ( type | "void" ) id "(" [ params ] ")"
pub data ResultText : Type 0 where
  void_word : (at : Place) → ResultText
  gives : TypeText → ResultText

abbrev pub spell_result : ResultText → List Token → List Token
spell_result (void_word at) rest = keyword key.Void at ∷ rest
spell_result (gives t) rest = spell_type t rest

abbrev pub result_tree : ResultText → ResultType
result_tree (void_word at) = result.Void at
result_tree (gives t) = result.Typed (type_tree t)

pub record HeadText : Type 0 where
  pub gives_what : ResultText
  pub n : Place
  pub name : List ℕ
  pub a : Place
  pub params : Params
  pub b : Place

abbrev pub spell_head : HeadText → List Token → List Token
spell_head h rest = spell_result h.gives_what (name_token h.name h.n ∷ symbol mark.OpenParen h.a ∷ spell_params h.params (symbol mark.CloseParen h.b ∷ rest))

abbrev pub head_tree : HeadText → Head
head_tree h = record { result = result_tree h.gives_what; name = named_at h.n h.name; params = params_trees h.params }

-- ---- "predicate" id "(" [ params ] ")" "=" parts ";"
pub record PredicateWritten : Type 0 where
  pub at : Place
  pub n : Place
  pub name : List ℕ
  pub a : Place
  pub params : Params
  pub b : Place
  pub q : Place
  pub body : Written
  pub c : Place

abbrev pub spell_predicate : PredicateWritten → List Token → List Token
spell_predicate p rest = keyword key.Predicate p.at ∷ name_token p.name p.n ∷ symbol mark.OpenParen p.a ∷ spell_params p.params (symbol mark.CloseParen p.b ∷ symbol mark.Assign p.q ∷ spell p.body (symbol mark.Semicolon p.c ∷ rest))

abbrev pub predicate_tree : PredicateWritten → PredicateTree
predicate_tree p = record { place = p.at; name = named_at p.n p.name; params = params_trees p.params; body = tree_of p.body }

abbrev pub depth_predicate : PredicateWritten → ℕ
depth_predicate p = depth p.body

-- ---- { type id ";" }
pub record FieldText : Type 0 where
  pub typed : TypeText
  pub n : Place
  pub name : List ℕ
  pub c : Place

abbrev pub spell_field : FieldText → List Token → List Token
spell_field f rest = spell_type f.typed (name_token f.name f.n ∷ symbol mark.Semicolon f.c ∷ rest)

abbrev pub field_tree : FieldText → Field
field_tree f = record { typed = type_tree f.typed; name = named_at f.n f.name }

-- ---- items
pub data ItemText : Type 0 where
  names_struct : (at n : Place) → List ℕ → (c : Place) → ItemText
  defines_struct : (at n : Place) → List ℕ → (a : Place) → List FieldText → (b c : Place) → ItemText
  defines_type : (at : Place) → TypeText → (n : Place) → List ℕ → (c : Place) → ItemText
  declares_function : HeadText → List ContractText → (c : Place) → ItemText
  defines_function : HeadText → List ContractText → (a : Place) → Lines → (b : Place) → ItemText
  defines_predicates : (o : Place) → List PredicateWritten → (e : Place) → ItemText

abbrev pub spell_item : ItemText → List Token → List Token
spell_item (names_struct at n name c) rest = keyword key.Struct at ∷ name_token name n ∷ symbol mark.Semicolon c ∷ rest
spell_item (defines_struct at n name a fs b c) rest = keyword key.Struct at ∷ name_token name n ∷ symbol mark.OpenBrace a ∷ spell_all spell_field fs (symbol mark.CloseBrace b ∷ symbol mark.Semicolon c ∷ rest)
spell_item (defines_type at t n name c) rest = keyword key.Typedef at ∷ spell_type t (name_token name n ∷ symbol mark.Semicolon c ∷ rest)
spell_item (declares_function h cs c) rest = spell_head h (spell_all spell_contract cs (symbol mark.Semicolon c ∷ rest))
spell_item (defines_function h cs a ls b) rest = spell_head h (spell_all spell_contract cs (symbol mark.OpenBrace a ∷ spell_lines ls (symbol mark.CloseBrace b ∷ rest)))
spell_item (defines_predicates o ps e) rest = begins_annotation o ∷ spell_all spell_predicate ps (ends_annotation e ∷ rest)

abbrev pub item_tree : ItemText → ItemTree
item_tree (names_struct at n name c) = struct_name at (named_at n name)
item_tree (defines_struct at n name a fs b c) = struct_item at (named_at n name) (map field_tree fs)
item_tree (defines_type at t n name c) = typedef_item at (type_tree t) (named_at n name)
item_tree (declares_function h cs c) = prototype_item (head_tree h) (map contract_tree cs)
item_tree (defines_function h cs a ls b) = function_item (head_tree h) (map contract_tree cs) (line_trees ls) b
item_tree (defines_predicates o ps e) = predicates_item o (map predicate_tree ps)

-- the braces of a function's body are a block
abbrev pub depth_item : ItemText → ℕ
depth_item (names_struct at n name c) = 0
depth_item (defines_struct at n name a fs b c) = 0
depth_item (defines_type at t n name c) = 0
depth_item (declares_function h cs c) = depth_all depth_contract cs
depth_item (defines_function h cs a ls b) = max (depth_all depth_contract cs) (depth_lines ls + 1)
depth_item (defines_predicates o ps e) = depth_all depth_predicate ps

-- ---- "#use" "<" library ">"
abbrev pub library_name : Library → List ℕ
library_name library.Conio = codes "conio"
library_name library.Intio = codes "intio"

pub record UseText : Type 0 where
  pub at : Place
  pub a : Place
  pub n : Place
  pub library : Library
  pub b : Place

abbrev pub spell_use : UseText → List Token → List Token
spell_use u rest = use_token u.at ∷ symbol mark.Less u.a ∷ name_token (library_name u.library) u.n ∷ symbol mark.Greater u.b ∷ rest

abbrev pub use_tree : UseText → Library
use_tree u = u.library

-- ---- a whole text
pub record ProgramText : Type 0 where
  pub uses : List UseText
  pub items : List ItemText
  pub last : Place

abbrev pub spell_program : ProgramText → List Token
spell_program p = spell_all spell_use p.uses (spell_all spell_item p.items (end_token p.last ∷ []))

abbrev pub program_tree : ProgramText → ProgramTree
program_tree p = record { uses = map use_tree p.uses; items = map item_tree p.items }

abbrev pub depth_program : ProgramText → ℕ
depth_program p = depth_all depth_item p.items
