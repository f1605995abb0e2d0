-- What is written such that its layout shows it: its names are names where they stand, its numbers are
-- words, and its strings have bytes that a string may have.
use Rattle.std.proofs.Common.{◌≡◌, ◌≢◌, ◌<◌, ◌^◌, ℕ, Bool, true, false, List}
use Rattle.std.specs.Prelude.{◌&&◌, ◌||◌, not, nat_le, IsTrue}
use Rattle.std.specs.List.{list_all}
use Rattle.c0_lex.specs.declared.token.Keyword.{Keyword}
use Rattle.c0_lex.specs.declared.token.Keyword.TheVariants as key
use Rattle.c0_lex.specs.Bytes.{is_printable}
use Rattle.c0_lex.specs.Words.{keyword_bytes, is_annotation_word}
use Rattle.c0_lex.specs.Pieces.{is_identifier}
use Rattle.c0_grammar.specs.Lists.{Each}
use Rattle.c0_grammar.specs.Written.{BaseText, int_word, bool_word, struct_word, alias_word, TypeText, Written, digits, truth_token, null_token, word, result_word, before, between, choice, round, called, called_text, allocated, arrow_to, permission, Args, no_args, some_args, More, no_more, more_and, FormulaText, unknown, unknown_and, known}
use Rattle.c0_grammar.specs.Allowed.{height, is_primary}
use Rattle.c0_grammar.specs.Texts.{NoteText, asserts_note, folds_note, unfolds_note, InvariantText, InvariantsText, SimpleText, declares, declares_as, assigns, steps, evaluates, Line, simple_line, braces, ifs, ifs_else, whiles, fors, returns, asserts, raises, notes, Lines, no_lines, line_and, ClauseText, ContractText, ParamText, NextParam, Params, no_params, some_params, ResultText, void_word, gives, HeadText, PredicateWritten, FieldText, ItemText, names_struct, defines_struct, defines_type, declares_function, defines_function, defines_predicates, ProgramText}
use Rattle.c0_grammar.specs.Grammar.{GoodOption}

-- the keywords of annotations are words like others outside them
abbrev pub has_force : Bool → Keyword → Bool
has_force inside k = inside || not (is_annotation_word k)

pub record IsName (inside : Bool) (n : List ℕ) : Type 0 where
  pub identifier : is_identifier n ≡ true
  pub free : (k : Keyword) → IsTrue (has_force inside k) → n ≢ keyword_bytes k

-- the bytes that characters of a string stand for
abbrev pub is_content : ℕ → Bool
is_content b = is_printable b || (nat_le 7 b && nat_le b 13)

abbrev pub IsContent : List ℕ → Type 0
IsContent bytes = list_all is_content bytes ≡ true

abbrev pub LegibleBase : Bool → BaseText → Type 0
LegibleBase inside (int_word at) = Unit {0}
LegibleBase inside (bool_word at) = Unit {0}
LegibleBase inside (struct_word at n name) = IsName inside name
LegibleBase inside (alias_word at name) = IsName inside name

abbrev pub LegibleType : Bool → TypeText → Type 0
LegibleType inside t = LegibleBase inside t.base

-- behind a unary operator no other operator stands bare
abbrev mutual
  pub Legible : Bool → Written → Type 0
  Legible inside (digits at w) = w.0 < 2 ^ 32
  Legible inside (truth_token at b) = Unit {0}
  Legible inside (null_token at) = Unit {0}
  Legible inside (word at n) = IsName inside n
  Legible inside (result_word at) = IsTrue (has_force inside key.Outcome)
  Legible inside (before at o x) = Legible inside x × (height x ≡ 0)
  Legible inside (between x at o y) = Legible inside x × Legible inside y
  Legible inside (choice x q y c z) = Legible inside x × Legible inside y × Legible inside z
  Legible inside (round a x b) = Legible inside x
  Legible inside (called at n a xs b) = IsName inside n × LegibleArgs inside xs
  Legible inside (called_text at n a t bytes b) = IsName inside n × IsContent bytes
  Legible inside (allocated at a t b) = LegibleType inside t
  Legible inside (arrow_to x at f n) = Legible inside x × IsName inside n × (is_primary x ≡ true)
  Legible inside (permission at a x p f n b) = IsTrue (has_force inside key.Acc) × Legible inside x × IsName inside n

  pub LegibleArgs : Bool → Args → Type 0
  LegibleArgs inside no_args = Unit {0}
  LegibleArgs inside (some_args x xs) = Legible inside x × LegibleMore inside xs

  pub LegibleMore : Bool → More → Type 0
  LegibleMore inside no_more = Unit {0}
  LegibleMore inside (more_and at x xs) = Legible inside x × LegibleMore inside xs

abbrev pub LegibleFormula : FormulaText → Type 0
LegibleFormula (unknown at) = Unit {0}
LegibleFormula (unknown_and at a x) = Legible true x
LegibleFormula (known x) = Legible true x

abbrev pub LegibleNote : NoteText → Type 0
LegibleNote (asserts_note at f c) = LegibleFormula f
LegibleNote (folds_note at n name a xs b c) = IsName true name × LegibleArgs true xs
LegibleNote (unfolds_note at n name a xs b c) = IsName true name × LegibleArgs true xs

abbrev pub LegibleInvariant : InvariantText → Type 0
LegibleInvariant i = LegibleFormula i.formula

abbrev pub LegibleInvariants : InvariantsText → Type 0
LegibleInvariants i = Each LegibleInvariant i.clauses

abbrev pub LegibleSimple : SimpleText → Type 0
LegibleSimple (declares t n name) = LegibleType false t × IsName false name
LegibleSimple (declares_as t n name q x) = LegibleType false t × IsName false name × Legible false x
LegibleSimple (assigns x q o y) = Legible false x × Legible false y
LegibleSimple (steps x q o) = Legible false x
LegibleSimple (evaluates x) = Legible false x

abbrev mutual
  pub LegibleLine : Line → Type 0
  LegibleLine (simple_line s c) = LegibleSimple s
  LegibleLine (braces a ls b) = LegibleLines ls
  LegibleLine (ifs at a x b l) = Legible false x × LegibleLine l
  LegibleLine (ifs_else at a x b l e m) = Legible false x × LegibleLine l × LegibleLine m
  LegibleLine (whiles at a x b is l) = Legible false x × Each LegibleInvariants is × LegibleLine l
  LegibleLine (fors at a s c x d t b is l) = GoodOption LegibleSimple s × Legible false x × GoodOption LegibleSimple t × Each LegibleInvariants is × LegibleLine l
  LegibleLine (returns at x c) = GoodOption (Legible false) x
  LegibleLine (asserts at a x b c) = Legible false x
  LegibleLine (raises at a t bytes b c) = IsContent bytes
  LegibleLine (notes o ns e) = Each LegibleNote ns

  pub LegibleLines : Lines → Type 0
  LegibleLines no_lines = Unit {0}
  LegibleLines (line_and l ls) = LegibleLine l × LegibleLines ls

abbrev pub LegibleClause : ClauseText → Type 0
LegibleClause i = LegibleFormula i.formula

abbrev pub LegibleContract : ContractText → Type 0
LegibleContract i = Each LegibleClause i.clauses

abbrev pub LegibleParam : Bool → ParamText → Type 0
LegibleParam inside p = LegibleType inside p.typed × IsName inside p.name

abbrev pub LegibleNext : Bool → NextParam → Type 0
LegibleNext inside p = LegibleParam inside p.param

abbrev pub LegibleParams : Bool → Params → Type 0
LegibleParams inside no_params = Unit {0}
LegibleParams inside (some_params p ps) = LegibleParam inside p × Each (LegibleNext inside) ps

abbrev pub LegibleResult : ResultText → Type 0
LegibleResult (void_word at) = Unit {0}
LegibleResult (gives t) = LegibleType false t

pub record LegibleHead (h : HeadText) : Type 0 where
  pub gives_what : LegibleResult h.gives_what
  pub name : IsName false h.name
  pub params : LegibleParams false h.params

pub record LegiblePredicate (p : PredicateWritten) : Type 0 where
  pub name : IsName true p.name
  pub params : LegibleParams true p.params
  pub body : Legible true p.body

abbrev pub LegibleField : FieldText → Type 0
LegibleField f = LegibleType false f.typed × IsName false f.name

abbrev pub LegibleItem : ItemText → Type 0
LegibleItem (names_struct at n name c) = IsName false name
LegibleItem (defines_struct at n name a fs b c) = IsName false name × Each LegibleField fs
LegibleItem (defines_type at t n name c) = LegibleType false t × IsName false name
LegibleItem (declares_function h cs c) = LegibleHead h × Each LegibleContract cs
LegibleItem (defines_function h cs a ls b) = LegibleHead h × Each LegibleContract cs × LegibleLines ls
LegibleItem (defines_predicates o ps e) = Each LegiblePredicate ps

abbrev pub LegibleProgram : ProgramText → Type 0
LegibleProgram p = Each LegibleItem p.items
