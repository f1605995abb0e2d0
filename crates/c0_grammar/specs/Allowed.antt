-- Which expressions the grammar allows: how tightly each operator binds, and what may stand in the
-- code, as a conjunct of a formula, and as a value inside a conjunct.
-- Source: C0 Reference, "Expressions" (precedence); the formulas of Gradual C0.
use Rattle.std.specs.Prelude.{◌≡◌, ℕ, suc, ◌≤◌, Bool, true, false, ◌&&◌, List}
use Rattle.parsed_tree.specs.declared.expressions.Operator.{Operator}
use Rattle.parsed_tree.specs.declared.expressions.Operator.TheVariants as op
use Rattle.parsed_tree.specs.Tree.{ExprTree, unary, binary, choose, arrow, call, acc}
use Rattle.c0_grammar.specs.Tokens.{is_among}
use Rattle.c0_grammar.specs.Written.{BaseText, int_word, bool_word, struct_word, alias_word, TypeText, Written, digits, truth_token, null_token, word, result_word, before, between, choice, round, called, called_text, allocated, arrow_to, permission, Args, no_args, some_args, More, no_more, more_and, tree_of, FormulaText, unknown, unknown_and, known}

-- 0 binds most; `->` and the unary operators bind more than all of these
abbrev pub rank : Operator → ℕ
rank op.Mul = 0
rank op.Div = 0
rank op.Rem = 0
rank op.Add = 1
rank op.Sub = 1
rank op.Shl = 2
rank op.Shr = 2
rank op.Less = 3
rank op.LessEq = 3
rank op.Greater = 3
rank op.GreaterEq = 3
rank op.Equal = 4
rank op.NotEqual = 4
rank op.And = 5
rank op.Xor = 6
rank op.Or = 7
rank op.Both = 8
rank op.Either = 9

-- how many ranks there are; `?:` binds less than all of them
abbrev pub ranks : ℕ
ranks = 10

-- 0 for what needs no parentheses behind a unary operator, else one more than its operator's rank
abbrev pub height : Written → ℕ
height (between x at o y) = suc (rank o)
height (choice x q y c z) = suc ranks
height x = 0

-- what may stand before a `->`
abbrev pub is_primary : Written → Bool
is_primary (before at o x) = false
is_primary (between x at o y) = false
is_primary (choice x q y c z) = false
is_primary x = true

-- a local, `\result`, or what a `->` leads to from one of these
abbrev pub is_path : Written → Bool
is_path (word at n) = true
is_path (result_word at) = true
is_path (arrow_to x at f n) = is_path x
is_path x = false

-- where an expression stands
pub data Mode : Type 0 where
  code : Mode
  conjunct : Mode
  value : Mode

abbrev pub is_code : Mode → Bool
is_code code = true
is_code conjunct = false
is_code value = false

-- whether `acc` and instances may stand
abbrev pub is_conjunct : Mode → Bool
is_conjunct code = false
is_conjunct conjunct = true
is_conjunct value = false

-- whether calls or instances may stand
abbrev pub has_calls : Mode → Bool
has_calls code = true
has_calls conjunct = true
has_calls value = false

-- behind a unary operator, and as an argument of an instance
abbrev pub inside : Mode → Mode
inside code = code
inside conjunct = value
inside value = value

-- to the right of an operator: behind `&&` and `||` conjuncts go on
abbrev pub right_of : Mode → Operator → Mode
right_of conjunct op.Both = conjunct
right_of conjunct op.Either = conjunct
right_of m o = inside m

-- a formula has no `/ % << >>`
abbrev pub has : Mode → Operator → Bool
has code o = true
has m op.Div = false
has m op.Rem = false
has m op.Shl = false
has m op.Shr = false
has m o = true

-- without `acc` and instances
abbrev pub is_value : ExprTree → Bool
is_value (unary s o x) = is_value x
is_value (binary s o x y) = is_value x && is_value y
is_value (choose s x y z) = is_value x && is_value y && is_value z
is_value (arrow s x n) = is_value x
is_value (call s n xs) = false
is_value (acc s x p n) = false
is_value x = true

-- what stands to the left of an operator: in a formula a value, but before `&&`
abbrev pub left_fits : Mode → Operator → ExprTree → Bool
left_fits conjunct op.Both e = true
left_fits conjunct o e = is_value e
left_fits m o e = true

-- the condition of a `?:`: in a formula a value
abbrev pub condition_fits : Mode → ExprTree → Bool
condition_fits conjunct e = is_value e
condition_fits m e = true

-- what stands before a `->`
abbrev pub base_fits : Mode → Written → Bool
base_fits code x = is_primary x
base_fits m x = is_path x

-- a typedef's name is no identifier, and stands for a type only from its typedef on
abbrev pub GoodBase : List (List ℕ) → BaseText → Type 0
GoodBase names (int_word at) = Unit {0}
GoodBase names (bool_word at) = Unit {0}
GoodBase names (struct_word at n name) = Unit {0}
GoodBase names (alias_word at name) = is_among names name ≡ true

abbrev pub GoodType : List (List ℕ) → TypeText → Type 0
GoodType names t = GoodBase names t.base

-- Operators associate to the left, `?:` to the right: what stands to the right of an operator binds
-- more than it, and what stands to the left at least as much.
abbrev mutual
  pub Good : (names : List (List ℕ)) → Mode → Written → Type 0
  Good names m (digits at w) = Unit {0}
  Good names m (truth_token at b) = Unit {0}
  Good names m (null_token at) = Unit {0}
  Good names m (word at n) = is_among names n ≡ false
  Good names m (result_word at) = is_code m ≡ false
  Good names m (before at o x) = Good names (inside m) x × (height x ≡ 0)
  Good names m (between x at o y) = Good names m x × Good names (right_of m o) y × (height x ≤ suc (rank o)) × (height y ≤ rank o) × (has m o ≡ true) × (left_fits m o (tree_of x) ≡ true)
  Good names m (choice x q y c z) = Good names m x × Good names m y × Good names m z × (height x ≤ ranks) × (condition_fits m (tree_of x) ≡ true)
  Good names m (round a x b) = Good names m x
  Good names m (called at n a xs b) = (is_among names n ≡ false) × (has_calls m ≡ true) × GoodArgs names (inside m) xs
  Good names m (called_text at n a t bytes b) = (is_among names n ≡ false) × (is_code m ≡ true)
  Good names m (allocated at a t b) = (is_code m ≡ true) × GoodType names t
  Good names m (arrow_to x at f n) = Good names m x × (base_fits m x ≡ true)
  Good names m (permission at a x p f n b) = (is_conjunct m ≡ true) × Good names value x × (is_path x ≡ true)

  pub GoodArgs : (names : List (List ℕ)) → Mode → Args → Type 0
  GoodArgs names m no_args = Unit {0}
  GoodArgs names m (some_args x xs) = Good names m x × GoodMore names m xs

  pub GoodMore : (names : List (List ℕ)) → Mode → More → Type 0
  GoodMore names m no_more = Unit {0}
  GoodMore names m (more_and at x xs) = Good names m x × GoodMore names m xs

abbrev pub GoodFormula : List (List ℕ) → FormulaText → Type 0
GoodFormula names (unknown at) = Unit {0}
GoodFormula names (unknown_and at a x) = Good names conjunct x
GoodFormula names (known x) = Good names conjunct x
