-- The texts that a plan takes, by the grammar.
use Rattle.std.proofs.Common.{◌≡◌, ℕ, ◌+◌, ◌≤◌, max, Bool, true, false, ◌||◌, not, List, [], ◌∷◌, map, Option, Some, None, ◌⊎◌}
use Rattle.gc0_base.specs.declared.place.Place.{Place}
use Rattle.c0_lex.specs.declared.token.Keyword.TheVariants as key
use Rattle.c0_lex.specs.declared.token.Symbol.TheVariants as mark
use Rattle.parsed_tree.specs.declared.expressions.Named.{Named}
use Rattle.parsed_tree.specs.declared.expressions.Text.{Text}
use Rattle.parsed_tree.specs.declared.expressions.Operator.{Operator}
use Rattle.parsed_tree.specs.declared.statements.UpdateOperator.{UpdateOperator}
use Rattle.parsed_tree.specs.declared.statements.StepOperator.{StepOperator}
use Rattle.parsed_tree.specs.declared.items.Library.{Library}
use Rattle.parsed_tree.specs.Tree.{ExprTree, ExprTrees, InvariantsTree, SimpleTree, assign, stepped, plain, StmtTree, StmtTrees, ItemTree, ProgramTree}
use Rattle.c0_grammar.specs.Tokens.{Fixed, word_mark, What, fixed, Token, token, symbol, name_token, text_token, end_token, is_among}
use Rattle.c0_grammar.specs.Lists.{spell_all, Each, depth_all}
use Rattle.c0_grammar.specs.Written.{operator_symbol, spell_star, named_at, text_at, Written, spell, joined, chosen, pointed, tree_of, depth, More, spell_more, more_trees, depth_more}
use Rattle.c0_grammar.specs.Allowed.{rank, height, Mode, code, right_of, has, left_fits, condition_fits, Good, GoodMore}
use Rattle.c0_grammar.specs.Texts.{NoteText, spell_note, note_tree, depth_note, InvariantText, spell_invariant, invariant_tree, depth_invariant, InvariantsText, spell_invariants, invariants_tree, depth_invariants, update_symbol, step_symbol, SimpleText, spell_simple, simple_tree, depth_simple, Line, spell_line, line_tree, depth_line, Lines, spell_lines, line_trees, depth_lines, ClauseText, spell_clause, clause_tree, depth_clause, ContractText, spell_contract, contract_tree, depth_contract, NextParam, spell_next, next_tree, PredicateWritten, spell_predicate, predicate_tree, depth_predicate, FieldText, spell_field, field_tree, ItemText, spell_item, item_tree, depth_item, library_name, UseText, spell_use, use_tree}
use Rattle.c0_grammar.specs.Grammar.{IsFree, GoodNote, GoodInvariant, GoodInvariants, is_place, GoodSimple, is_declaration, is_open, is_body, GoodLine, GoodLines, GoodClause, GoodContract, GoodNext, GoodPredicate, GoodField, GoodItems}
use Rattle.c0_grammar.specs.Plan.{Loop, star_loop, invariant_loop, note_loop, clause_loop, contract_loop, predicate_loop, field_loop, param_loop, use_loop, Part, Plan, await, peek, name, alias, text, peek_text, library_name_of, operand, arrows, acc_arrows, ops, quest, more_args, simple_end, simple, body, loop_body, lines, many, items, finished, Step}

-- ---- operators of one rank, each with its right side
pub data Tail : Type 0 where
  no_tail : Tail
  tail : (at : Place) → Operator → Written → Tail → Tail

abbrev pub spell_tail : Tail → List Token → List Token
spell_tail no_tail rest = rest
spell_tail (tail at o y tl) rest = symbol (operator_symbol o) at ∷ spell y (spell_tail tl rest)

abbrev pub tail_tree : ExprTree → Tail → ExprTree
tail_tree e no_tail = e
tail_tree e (tail at o y tl) = tail_tree (joined at o e (tree_of y)) tl

abbrev pub tail_depth : ℕ → Tail → ℕ
tail_depth d no_tail = d
tail_depth d (tail at o y tl) = tail_depth (max d (depth y) + 1) tl

abbrev pub GoodTail : ℕ → List (List ℕ) → Mode → ExprTree → Tail → Type 0
GoodTail r names m e no_tail = Unit {0}
GoodTail r names m e (tail at o y tl) = (rank o ≡ r) × (has m o ≡ true) × (left_fits m o e ≡ true) × Good names (right_of m o) y × (height y ≤ r) × GoodTail r names m (joined at o e (tree_of y)) tl

-- ---- { "->" id }
pub data Links : Type 0 where
  no_link : Links
  link : (at f : Place) → List ℕ → Links → Links

abbrev pub spell_links : Links → List Token → List Token
spell_links no_link rest = rest
spell_links (link at f n ls) rest = symbol mark.Arrow at ∷ name_token n f ∷ spell_links ls rest

abbrev pub links_tree : ExprTree → Links → ExprTree
links_tree e no_link = e
links_tree e (link at f n ls) = links_tree (pointed at e (named_at f n)) ls

abbrev pub links_depth : ℕ → Links → ℕ
links_depth d no_link = d
links_depth d (link at f n ls) = links_depth (d + 1) ls

-- behind the `-> id` of an `acc`: each further one makes that before it a part of the path
abbrev pub EndsAcc : (ExprTree → ℕ → Place → Named → Type 0) → ExprTree → ℕ → Place → Named → Links → Type 0
EndsAcc K x d p f no_link = K x d p f
EndsAcc K x d p f (link at g n ls) = EndsAcc K (pointed p x f) (d + 1) at (named_at g n) ls

-- ---- the parts of a list as they are written
abbrev pub PartText : Loop → Type 0
PartText star_loop = Place
PartText (invariant_loop names up) = InvariantText
PartText (note_loop names up) = NoteText
PartText (clause_loop names) = ClauseText
PartText (contract_loop names) = ContractText
PartText (predicate_loop names) = PredicateWritten
PartText (field_loop names) = FieldText
PartText (param_loop names) = NextParam
PartText use_loop = UseText

abbrev pub spell_part : (l : Loop) → PartText l → List Token → List Token
spell_part star_loop x rest = spell_star x rest
spell_part (invariant_loop names up) x rest = spell_invariant x rest
spell_part (note_loop names up) x rest = spell_note x rest
spell_part (clause_loop names) x rest = spell_clause x rest
spell_part (contract_loop names) x rest = spell_contract x rest
spell_part (predicate_loop names) x rest = spell_predicate x rest
spell_part (field_loop names) x rest = spell_field x rest
spell_part (param_loop names) x rest = spell_next x rest
spell_part use_loop x rest = spell_use x rest

abbrev pub part_tree : (l : Loop) → PartText l → Part l
part_tree star_loop x = x
part_tree (invariant_loop names up) x = invariant_tree x
part_tree (note_loop names up) x = note_tree x
part_tree (clause_loop names) x = clause_tree x
part_tree (contract_loop names) x = contract_tree x
part_tree (predicate_loop names) x = predicate_tree x
part_tree (field_loop names) x = field_tree x
part_tree (param_loop names) x = next_tree x
part_tree use_loop x = use_tree x

abbrev pub depth_part : (l : Loop) → PartText l → ℕ
depth_part star_loop x = 0
depth_part (invariant_loop names up) x = depth_invariant x
depth_part (note_loop names up) x = depth_note x
depth_part (clause_loop names) x = depth_clause x
depth_part (contract_loop names) x = depth_contract x
depth_part (predicate_loop names) x = depth_predicate x
depth_part (field_loop names) x = 0
depth_part (param_loop names) x = 0
depth_part use_loop x = 0

abbrev pub GoodPart : (l : Loop) → PartText l → Type 0
GoodPart star_loop x = Unit {0}
GoodPart (invariant_loop names up) x = GoodInvariant names x
GoodPart (note_loop names up) x = GoodNote names x
GoodPart (clause_loop names) x = GoodClause names x
GoodPart (contract_loop names) x = GoodContract names x
GoodPart (predicate_loop names) x = GoodPredicate names x
GoodPart (field_loop names) x = GoodField names x
GoodPart (param_loop names) x = GoodNext names x
GoodPart use_loop x = Unit {0}

-- ---- an `else` that follows belongs to the nearest `if`
abbrev pub is_else : What → Bool
is_else (fixed (word_mark key.Else)) = true
is_else w = false

abbrev pub starts_else : List Token → Bool
starts_else [] = false
starts_else (t ∷ ts) = is_else t.what

-- no `else` stands behind a statement that would take it in
abbrev pub Quiet : Line → List Token → Type 0
Quiet l rest = is_open l ≡ true → starts_else rest ≡ false

-- an `else` is not passed by where one is looked for
abbrev pub Passes : Fixed → List Token → Type 0
Passes (word_mark key.Else) ts = starts_else ts ≡ false
Passes f ts = Unit {0}

-- ---- K is what the rest is to be
pub record AtMark (f : Fixed) (K : Place → List Token → Type 0) (ts : List Token) : Type 0 where
  pub at : Place
  pub rest : List Token
  pub split : ts ≡ token (fixed f) at ∷ rest
  pub after : K at rest

pub record AtName (names : List (List ℕ)) (K : Named → List Token → Type 0) (ts : List Token) : Type 0 where
  pub at : Place
  pub name : List ℕ
  pub rest : List Token
  pub free : IsFree names name
  pub split : ts ≡ name_token name at ∷ rest
  pub after : K (named_at at name) rest

pub record AtAlias (names : List (List ℕ)) (K : Place → List ℕ → List Token → Type 0) (ts : List Token) : Type 0 where
  pub at : Place
  pub name : List ℕ
  pub rest : List Token
  pub among : is_among names name ≡ true
  pub split : ts ≡ name_token name at ∷ rest
  pub after : K at name rest

pub record AtText (K : Text → List Token → Type 0) (ts : List Token) : Type 0 where
  pub at : Place
  pub bytes : List ℕ
  pub rest : List Token
  pub split : ts ≡ text_token bytes at ∷ rest
  pub after : K (text_at at bytes) rest

pub record AtLibrary (K : Library → List Token → Type 0) (ts : List Token) : Type 0 where
  pub at : Place
  pub library : Library
  pub rest : List Token
  pub split : ts ≡ name_token (library_name library) at ∷ rest
  pub after : K library rest

pub record AtOperand (names : List (List ℕ)) (m : Mode) (K : ExprTree → ℕ → List Token → Type 0) (ts : List Token) : Type 0 where
  pub w : Written
  pub rest : List Token
  pub good : Good names m w
  pub flat : height w ≡ 0
  pub split : ts ≡ spell w rest
  pub after : K (tree_of w) (depth w) rest

pub record AtLinks (e : ExprTree) (d : ℕ) (K : ExprTree → ℕ → List Token → Type 0) (ts : List Token) : Type 0 where
  pub ls : Links
  pub rest : List Token
  pub split : ts ≡ spell_links ls rest
  pub after : K (links_tree e ls) (links_depth d ls) rest

pub record AtAcc (x : ExprTree) (d : ℕ) (p : Place) (f : Named) (K : ExprTree → ℕ → Place → Named → List Token → Type 0) (ts : List Token) : Type 0 where
  pub ls : Links
  pub b : Place
  pub rest : List Token
  pub split : ts ≡ spell_links ls (symbol mark.CloseParen b ∷ rest)
  pub after : EndsAcc (λ y c q g. K y c q g rest) x d p f ls

pub record AtOps (r : ℕ) (names : List (List ℕ)) (m : Mode) (e : ExprTree) (d : ℕ) (K : ExprTree → ℕ → List Token → Type 0) (ts : List Token) : Type 0 where
  pub tl : Tail
  pub rest : List Token
  pub good : GoodTail r names m e tl
  pub split : ts ≡ spell_tail tl rest
  pub after : K (tail_tree e tl) (tail_depth d tl) rest

pub record AtChoice (names : List (List ℕ)) (m : Mode) (e : ExprTree) (d : ℕ) (K : ExprTree → ℕ → List Token → Type 0) (ts : List Token) : Type 0 where
  pub q : Place
  pub y : Written
  pub c : Place
  pub z : Written
  pub rest : List Token
  pub fits : condition_fits m e ≡ true
  pub good_y : Good names m y
  pub good_z : Good names m z
  pub split : ts ≡ symbol mark.Question q ∷ spell y (symbol mark.Colon c ∷ spell z rest)
  pub after : K (chosen q e (tree_of y) (tree_of z)) (max d (max (depth y) (depth z)) + 1) rest

pub record AtMore (names : List (List ℕ)) (m : Mode) (K : ExprTrees → ℕ → List Token → Type 0) (ts : List Token) : Type 0 where
  pub xs : More
  pub b : Place
  pub rest : List Token
  pub good : GoodMore names m xs
  pub split : ts ≡ spell_more xs (symbol mark.CloseParen b ∷ rest)
  pub after : K (more_trees xs) (depth_more xs) rest

pub record AtAssign (names : List (List ℕ)) (e : ExprTree) (d : ℕ) (K : SimpleTree → ℕ → List Token → Type 0) (ts : List Token) : Type 0 where
  pub q : Place
  pub o : Option UpdateOperator
  pub y : Written
  pub rest : List Token
  pub place : is_place e ≡ true
  pub good : Good names code y
  pub split : ts ≡ symbol (update_symbol o) q ∷ spell y rest
  pub after : K (assign e q o (tree_of y)) (max d (depth y)) rest

pub record AtStepped (e : ExprTree) (d : ℕ) (K : SimpleTree → ℕ → List Token → Type 0) (ts : List Token) : Type 0 where
  pub q : Place
  pub o : StepOperator
  pub rest : List Token
  pub place : is_place e ≡ true
  pub split : ts ≡ symbol (step_symbol o) q ∷ rest
  pub after : K (stepped e q o) d rest

pub record AtSimple (names : List (List ℕ)) (declares : Bool) (K : SimpleTree → ℕ → List Token → Type 0) (ts : List Token) : Type 0 where
  pub s : SimpleText
  pub rest : List Token
  pub good : GoodSimple names s
  pub allowed : (declares || not (is_declaration s)) ≡ true
  pub split : ts ≡ spell_simple s rest
  pub after : K (simple_tree s) (depth_simple s) rest

-- a statement, which may be a declaration and an annotation without clauses where `whole` is true
pub record AtLine (names : List (List ℕ)) (whole : Bool) (K : StmtTree → ℕ → List Token → Type 0) (ts : List Token) : Type 0 where
  pub l : Line
  pub rest : List Token
  pub good : GoodLine names l
  pub allowed : (whole || is_body l) ≡ true
  pub quiet : Quiet l rest
  pub split : ts ≡ spell_line l rest
  pub after : K (line_tree l) (depth_line l) rest

pub record AtLoop (names : List (List ℕ)) (K : List InvariantsTree → ℕ → StmtTree → ℕ → List Token → Type 0) (ts : List Token) : Type 0 where
  pub is : List InvariantsText
  pub l : Line
  pub rest : List Token
  pub invariants : Each (GoodInvariants names) is
  pub good : GoodLine names l
  pub body : is_body l ≡ true
  pub quiet : Quiet l rest
  pub split : ts ≡ spell_all spell_invariants is (spell_line l rest)
  pub after : K (map invariants_tree is) (depth_all depth_invariants is) (line_tree l) (depth_line l) rest

pub record AtLines (names : List (List ℕ)) (K : StmtTrees → ℕ → Place → List Token → Type 0) (ts : List Token) : Type 0 where
  pub ls : Lines
  pub e : Place
  pub rest : List Token
  pub good : GoodLines names ls
  pub split : ts ≡ spell_lines ls (symbol mark.CloseBrace e ∷ rest)
  pub after : K (line_trees ls) (depth_lines ls) e rest

pub record AtMany (l : Loop) (K : List (Part l) → ℕ → List Token → Type 0) (ts : List Token) : Type 0 where
  pub xs : List (PartText l)
  pub rest : List Token
  pub good : Each (GoodPart l) xs
  pub split : ts ≡ spell_all (spell_part l) xs rest
  pub after : K (map (part_tree l) xs) (depth_all (depth_part l) xs) rest

pub record AtItems (names : List (List ℕ)) (K : List ItemTree → ℕ → List Token → Type 0) (ts : List Token) : Type 0 where
  pub is : List ItemText
  pub last : Place
  pub rest : List Token
  pub good : GoodItems names is
  pub split : ts ≡ spell_all spell_item is (end_token last ∷ rest)
  pub after : K (map item_tree is) (depth_all depth_item is) rest

-- the tokens are what the plan takes, for this tree, on a path of which at most `n` nodes stand
abbrev pub Takes : Plan → List Token → ProgramTree → ℕ → Type 0
Takes (await reach f next) ts p n = AtMark f (λ at r. Takes (next at) r p n) ts
Takes (peek reach f these others) ts p n = AtMark f (λ at r. Takes (these at) r p n) ts ⊎ (Passes f ts × Takes others ts p n)
Takes (name names next) ts p n = AtName names (λ x r. Takes (next x) r p n) ts
Takes (alias reach names these others) ts p n = AtAlias names (λ at x r. Takes (these at x) r p n) ts ⊎ Takes others ts p n
Takes (text next) ts p n = AtText (λ t r. Takes (next t) r p n) ts
Takes (peek_text these others) ts p n = AtText (λ t r. Takes (these t) r p n) ts ⊎ Takes others ts p n
Takes (library_name_of next) ts p n = AtLibrary (λ l r. Takes (next l) r p n) ts
Takes (operand names m up next) ts p n = AtOperand names m (λ e d r. Takes (next e d) r p n) ts
Takes (arrows up e d next) ts p n = AtLinks e d (λ e' d' r. Takes (next e' d') r p n) ts
Takes (acc_arrows up x d q f next) ts p n = AtAcc x d q f (λ y c a g r. Takes (next y c a g) r p n) ts
Takes (ops k names m up e d next) ts p n = AtOps k names m e d (λ e' d' r. Takes (next e' d') r p n) ts
Takes (quest names m up e d next) ts p n = Takes (next e d) ts p n ⊎ AtChoice names m e d (λ e' d' r. Takes (next e' d') r p n) ts
Takes (more_args names m up next) ts p n = AtMore names m (λ es d r. Takes (next es d) r p n) ts
Takes (simple_end names up e d next) ts p n = Takes (next (plain e) d) ts p n ⊎ AtAssign names e d (λ s d' r. Takes (next s d') r p n) ts ⊎ AtStepped e d (λ s d' r. Takes (next s d') r p n) ts
Takes (simple names declares up next) ts p n = AtSimple names declares (λ s d r. Takes (next s d) r p n) ts
Takes (body names up next) ts p n = AtLine names false (λ s d r. Takes (next s d) r p n) ts
Takes (loop_body names up next) ts p n = AtLoop names (λ is di s ds r. Takes (next is di s ds) r p n) ts
Takes (lines names up next) ts p n = AtLines names (λ ss d e r. Takes (next ss d e) r p n) ts
Takes (many l next) ts p n = AtMany l (λ xs d r. Takes (next xs d) r p n) ts
Takes (items names next) ts p n = AtItems names (λ is d r. Takes (next is d) r p n) ts
Takes (finished q d) ts p n = (ts ≡ []) × (q ≡ p) × (d ≡ n)

abbrev pub TakesNext : Step → List Token → ProgramTree → ℕ → Type 0
TakesNext None ts p n = ⊥
TakesNext (Some x) ts p n = Takes x.1 ts p n
