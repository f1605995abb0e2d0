-- What the grammar allows: of statements, items and whole texts; and which tokens are a program.
-- Source: C0 Reference, "Statements", "Functions" and "Structs"; the annotations of Gradual C0.
use Rattle.std.specs.Prelude.{◌≡◌, ℕ, Bool, true, false, not, List, [], ◌∷◌, ◌++◌, Option, Some, None}
use Rattle.parsed_tree.specs.Tree.{ExprTree, local, arrow, ProgramTree}
use Rattle.c0_grammar.specs.Tokens.{Token, is_among}
use Rattle.c0_grammar.specs.Written.{tree_of}
use Rattle.c0_grammar.specs.Allowed.{code, conjunct, value, GoodType, Good, GoodArgs, GoodFormula}
use Rattle.c0_grammar.specs.Lists.{Each}
use Rattle.c0_grammar.specs.Texts.{NoteText, asserts_note, folds_note, unfolds_note, InvariantText, InvariantsText, SimpleText, declares, declares_as, assigns, steps, evaluates, Line, simple_line, braces, ifs, ifs_else, whiles, fors, returns, asserts, raises, notes, Lines, no_lines, line_and, ClauseText, ContractText, ParamText, NextParam, Params, no_params, some_params, ResultText, void_word, gives, HeadText, PredicateWritten, FieldText, ItemText, names_struct, defines_struct, defines_type, declares_function, defines_function, defines_predicates, ProgramText, spell_program, program_tree, depth_program}

-- a name that no typedef above has taken
abbrev pub IsFree : List (List ℕ) → List ℕ → Type 0
IsFree names name = is_among names name ≡ false

abbrev pub GoodNote : List (List ℕ) → NoteText → Type 0
GoodNote names (asserts_note at f c) = GoodFormula names f
GoodNote names (folds_note at n name a xs b c) = IsFree names name × GoodArgs names value xs
GoodNote names (unfolds_note at n name a xs b c) = IsFree names name × GoodArgs names value xs

abbrev pub GoodInvariant : List (List ℕ) → InvariantText → Type 0
GoodInvariant names i = GoodFormula names i.formula

abbrev pub GoodInvariants : List (List ℕ) → InvariantsText → Type 0
GoodInvariants names i = Each (GoodInvariant names) i.clauses

-- what may be assigned: a local, or what a `->` leads to; parentheses round it change nothing
abbrev pub is_place : ExprTree → Bool
is_place (local s n) = true
is_place (arrow s x n) = true
is_place e = false

abbrev pub GoodSimple : List (List ℕ) → SimpleText → Type 0
GoodSimple names (declares t n name) = GoodType names t × IsFree names name
GoodSimple names (declares_as t n name q x) = GoodType names t × IsFree names name × Good names code x
GoodSimple names (assigns x q o y) = Good names code x × (is_place (tree_of x) ≡ true) × Good names code y
GoodSimple names (steps x q o) = Good names code x × (is_place (tree_of x) ≡ true)
GoodSimple names (evaluates x) = Good names code x

abbrev pub is_declaration : SimpleText → Bool
is_declaration (declares t n name) = true
is_declaration (declares_as t n name q x) = true
is_declaration s = false

abbrev pub GoodOption : {A : Type 0} → (A → Type 0) → Option A → Type 0
GoodOption P None = Unit {0}
GoodOption P (Some x) = P x

-- the last part of a `for`
abbrev pub GoodLast : List (List ℕ) → SimpleText → Type 0
GoodLast names s = GoodSimple names s × (is_declaration s ≡ false)

-- an `else` may follow, and would belong to it
abbrev pub is_open : Line → Bool
is_open (ifs at a x b l) = true
is_open (ifs_else at a x b l e m) = is_open m
is_open (whiles at a x b is l) = is_open l
is_open (fors at a s c x d t b is l) = is_open l
is_open l = false

-- What may be the body of `if`, `else`, `while` or `for`: no declaration, and no annotation without
-- clauses, which is no statement.
abbrev pub is_body : Line → Bool
is_body (simple_line s c) = not (is_declaration s)
is_body (notes o [] e) = false
is_body l = true

abbrev mutual
  pub GoodLine : List (List ℕ) → Line → Type 0
  GoodLine names (simple_line s c) = GoodSimple names s
  GoodLine names (braces a ls b) = GoodLines names ls
  GoodLine names (ifs at a x b l) = Good names code x × GoodLine names l × (is_body l ≡ true)
  GoodLine names (ifs_else at a x b l e m) = Good names code x × GoodLine names l × (is_body l ≡ true) × (is_open l ≡ false) × GoodLine names m × (is_body m ≡ true)
  GoodLine names (whiles at a x b is l) = Good names code x × Each (GoodInvariants names) is × GoodLine names l × (is_body l ≡ true)
  GoodLine names (fors at a s c x d t b is l) = GoodOption (GoodSimple names) s × Good names code x × GoodOption (GoodLast names) t × Each (GoodInvariants names) is × GoodLine names l × (is_body l ≡ true)
  GoodLine names (returns at x c) = GoodOption (Good names code) x
  GoodLine names (asserts at a x b c) = Good names code x
  GoodLine names (raises at a t bytes b c) = Unit {0}
  GoodLine names (notes o ns e) = Each (GoodNote names) ns

  pub GoodLines : List (List ℕ) → Lines → Type 0
  GoodLines names no_lines = Unit {0}
  GoodLines names (line_and l ls) = GoodLine names l × GoodLines names ls

abbrev pub GoodClause : List (List ℕ) → ClauseText → Type 0
GoodClause names i = GoodFormula names i.formula

abbrev pub GoodContract : List (List ℕ) → ContractText → Type 0
GoodContract names i = Each (GoodClause names) i.clauses

abbrev pub GoodParam : List (List ℕ) → ParamText → Type 0
GoodParam names p = GoodType names p.typed × IsFree names p.name

abbrev pub GoodNext : List (List ℕ) → NextParam → Type 0
GoodNext names p = GoodParam names p.param

abbrev pub GoodParams : List (List ℕ) → Params → Type 0
GoodParams names no_params = Unit {0}
GoodParams names (some_params p ps) = GoodParam names p × Each (GoodNext names) ps

abbrev pub GoodResult : List (List ℕ) → ResultText → Type 0
GoodResult names (void_word at) = Unit {0}
GoodResult names (gives t) = GoodType names t

pub record GoodHead (names : List (List ℕ)) (h : HeadText) : Type 0 where
  pub gives_what : GoodResult names h.gives_what
  pub name : IsFree names h.name
  pub params : GoodParams names h.params

pub record GoodPredicate (names : List (List ℕ)) (p : PredicateWritten) : Type 0 where
  pub name : IsFree names p.name
  pub params : GoodParams names p.params
  pub body : Good names conjunct p.body

-- a field, and a struct, may have the name of a typedef
abbrev pub GoodField : List (List ℕ) → FieldText → Type 0
GoodField names f = GoodType names f.typed

abbrev pub GoodItem : List (List ℕ) → ItemText → Type 0
GoodItem names (names_struct at n name c) = Unit {0}
GoodItem names (defines_struct at n name a fs b c) = Each (GoodField names) fs
GoodItem names (defines_type at t n name c) = GoodType names t × IsFree names name
GoodItem names (declares_function h cs c) = GoodHead names h × Each (GoodContract names) cs
GoodItem names (defines_function h cs a ls b) = GoodHead names h × Each (GoodContract names) cs × GoodLines names ls
GoodItem names (defines_predicates o ps e) = Each (GoodPredicate names) ps

-- the names of typedefs behind an item
abbrev pub names_behind : List (List ℕ) → ItemText → List (List ℕ)
names_behind names (defines_type at t n name c) = name ∷ names
names_behind names i = names

-- the items from this one on, behind typedefs of these names
abbrev pub GoodItems : List (List ℕ) → List ItemText → Type 0
GoodItems names [] = Unit {0}
GoodItems names (i ∷ is) = GoodItem names i × GoodItems (names_behind names i) is

-- the tokens are a program with this tree, on no path of which more than so many nodes stand
pub record IsProgram (ts : List Token) (p : ProgramTree) (nodes : ℕ) : Type 0 where
  pub text : ProgramText
  pub good : GoodItems [] text.items
  pub tokens : spell_program text ≡ ts
  pub tree : program_tree text ≡ p
  pub depth : depth_program text ≡ nodes

-- some program begins so
abbrev pub Begins : List Token → Type 0
Begins ts = (more : List Token) × (p : ProgramTree) × (nodes : ℕ) × IsProgram (ts ++ more) p nodes
