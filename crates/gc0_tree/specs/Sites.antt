-- Sites of a function: the tokens of each kind, numbered from 0 in the order of the text.
-- The table of tokens is this project's own.
use Rattle.std.specs.Prelude.{ℕ, ◌+◌, ◌*◌, ◌^◌, Bool, true, false, not, ◌&&◌, eqb, nat_lt, List, [], ◌∷◌, ◌++◌, Option, Some, None, is_some, if◌then◌else◌, count_by, slice_get}
use Rattle.std.specs.List.{find}
use Rattle.gc0_base.specs.declared.place.Place.{Place}
use Rattle.gc0_base.specs.declared.site.Site.{Site}
use Rattle.gc0_base.specs.declared.site.Kind.{Kind}
use Rattle.gc0_base.specs.declared.site.Kind.TheVariants as kind
use Rattle.gc0_tree.specs.declared.ExprOp.{ExprOp}
use Rattle.gc0_tree.specs.declared.ExprOp.TheVariants as op
use Rattle.gc0_tree.specs.declared.LibraryCall.{LibraryCall}
use Rattle.gc0_tree.specs.declared.LibraryCall.TheVariants as library
use Rattle.gc0_tree.specs.Tree.{Tree, number_at, truth_at, null_at, local_at, result_at, unary_at, binary_at, both_at, either_at, choose_at, read_at, call_at, library_at, alloc_at, Trees, no_trees, tree_and, Stmt, declare_at, assign_at, write_at, plain_at, block_at, if_at, while_at, for_at, return_at, assert_at, raise_at, note_at, assert_note, fold_note, unfold_note, Stmts, no_stmts, stmt_and, Function, Program}

abbrev pub may_fault : ExprOp → Bool
may_fault op.Div = true
may_fault op.Rem = true
may_fault op.Shl = true
may_fault op.Shr = true
may_fault o = false

abbrev pub reads_input : LibraryCall → Bool
reads_input library.ReadInt = true
reads_input l = false

-- the token of one kind, and none of another
abbrev pub token_if : Bool → Place → List Place
token_if b at = if b then at ∷ [] else []

abbrev pub is_start : Kind → Bool
is_start kind.Start = true
is_start k = false

abbrev pub is_requires : Kind → Bool
is_requires kind.Requires = true
is_requires k = false

abbrev pub is_ensures : Kind → Bool
is_ensures kind.Ensures = true
is_ensures k = false

-- a loop has one token for its first head and the later ones
abbrev pub is_head : Kind → Bool
is_head kind.Entry = true
is_head kind.Again = true
is_head k = false

abbrev pub is_assert : Kind → Bool
is_assert kind.Assert = true
is_assert k = false

abbrev pub is_fold : Kind → Bool
is_fold kind.Fold = true
is_fold k = false

abbrev pub is_unfold : Kind → Bool
is_unfold kind.Unfold = true
is_unfold k = false

abbrev pub is_access : Kind → Bool
is_access kind.Access = true
is_access k = false

abbrev pub is_trap : Kind → Bool
is_trap kind.Trap = true
is_trap k = false

-- the tokens of a kind in an expression of the code
abbrev mutual
  pub tree_tokens : Kind → Tree → List Place
  tree_tokens k (number_at at n) = []
  tree_tokens k (truth_at at b) = []
  tree_tokens k (null_at at) = []
  tree_tokens k (local_at at i) = []
  tree_tokens k (result_at at) = []
  tree_tokens k (unary_at at o a) = tree_tokens k a
  tree_tokens k (binary_at at o a b) = token_if (is_trap k && may_fault o) at ++ (tree_tokens k a ++ tree_tokens k b)
  tree_tokens k (both_at at a b) = tree_tokens k a ++ tree_tokens k b
  tree_tokens k (either_at at a b) = tree_tokens k a ++ tree_tokens k b
  tree_tokens k (choose_at at a b c) = tree_tokens k a ++ (tree_tokens k b ++ tree_tokens k c)
  tree_tokens k (read_at at a s f) = token_if (is_access k) at ++ tree_tokens k a
  tree_tokens k (call_at at g es) = token_if (is_requires k) at ++ trees_tokens k es
  tree_tokens k (library_at at l es t) = token_if (is_trap k && reads_input l) at ++ trees_tokens k es
  tree_tokens k (alloc_at at s) = []

  pub trees_tokens : Kind → Trees → List Place
  trees_tokens k no_trees = []
  trees_tokens k (tree_and e es) = tree_tokens k e ++ trees_tokens k es

-- an assignment's operator that may fault
abbrev pub op_tokens : Kind → Option ExprOp → Place → List Place
op_tokens k None at = []
op_tokens k (Some o) at = token_if (is_trap k && may_fault o) at

-- the accesses of a write; one by an operator has its `->` twice, for the read and then the write
abbrev pub write_tokens : Kind → Option ExprOp → Place → List Place
write_tokens k o arrow = token_if (is_access k) arrow ++ token_if (is_access k && is_some o) arrow

-- the tokens of a kind in statements
abbrev mutual
  pub stmt_tokens : Kind → Stmt → List Place
  stmt_tokens k (declare_at at i es) = trees_tokens k es
  stmt_tokens k (assign_at at i o op_at e) = op_tokens k o op_at ++ tree_tokens k e
  stmt_tokens k (write_at at base s f arrow o op_at e) = write_tokens k o arrow ++ (op_tokens k o op_at ++ (tree_tokens k base ++ tree_tokens k e))
  stmt_tokens k (plain_at at e) = tree_tokens k e
  stmt_tokens k (block_at at ss) = stmts_tokens k ss
  stmt_tokens k (if_at at c a b) = tree_tokens k c ++ (stmt_tokens k a ++ stmts_tokens k b)
  stmt_tokens k (while_at at inv c a) = (token_if (is_head k) at ++ tree_tokens k c) ++ stmt_tokens k a
  stmt_tokens k (for_at at first c last inv a) = token_if (is_head k) at ++ (stmts_tokens k first ++ (tree_tokens k c ++ (stmts_tokens k last ++ stmt_tokens k a)))
  stmt_tokens k (return_at at es) = token_if (is_ensures k) at ++ trees_tokens k es
  stmt_tokens k (assert_at at e) = token_if (is_trap k) at ++ tree_tokens k e
  stmt_tokens k (raise_at at t) = token_if (is_trap k) at
  stmt_tokens k (note_at at assert_note f) = token_if (is_assert k) at
  stmt_tokens k (note_at at fold_note f) = token_if (is_fold k) at
  stmt_tokens k (note_at at unfold_note f) = token_if (is_unfold k) at

  pub stmts_tokens : Kind → Stmts → List Place
  stmts_tokens k no_stmts = []
  stmts_tokens k (stmt_and s ss) = stmt_tokens k s ++ stmts_tokens k ss

-- the tokens of a kind in a function; one without result ends at its closing brace too
abbrev pub tokens : Function → Kind → List Place
tokens f k = token_if (is_ensures k && not (is_some f.result)) f.close ++ stmts_tokens k f.body

-- A place as one number, in the order of the text: the line first, then the column, which is below 2 ^ 32.
abbrev pub text_key : Place → ℕ
text_key at = at.line * 2 ^ 32 + at.column

-- whether a place comes before another in the text
abbrev pub is_before : Place → Place → Bool
is_before p q = nat_lt (text_key p) (text_key q)

-- the number of a token: how many of its kind stand before it
abbrev pub ordinal : Function → Kind → Place → ℕ
ordinal f k at = count_by (λ token. is_before token at) (tokens f k)

-- the site of a kind whose token stands at a place
abbrev pub Places : Type 0
Places = Kind → Place → Site

abbrev pub sites_of : ℕ → Function → Places
sites_of g f k at = record { function = g; kind = k; ordinal = ordinal f k at }

-- the write of an assignment by an operator, which comes after its read
abbrev pub second : Site → Site
second site = record site { ordinal = site.ordinal + 1 }

-- whether a token has a number, among all of its kind: so many stand before it, or some of them at its own place
abbrev pub has_number : List Place → ℕ → Place → Bool
has_number all n at = not (nat_lt n (count_by (λ token. is_before token at) all)) && nat_lt n (count_by (λ token. not (is_before at token)) all)

-- the tokens of a kind in a program's function of a number; the one start is the name of `main`
abbrev pub site_tokens : Program → Site → Option Function → List Place
site_tokens p site None = []
site_tokens p site (Some f) = if is_start site.kind then token_if (eqb site.function p.main) f.place else tokens f site.kind

-- where the token of a site stands, and none where there is no such site
abbrev pub token_place : Program → Site → Option Place
token_place p site = let all = site_tokens p site (slice_get p.functions site.function) in find (has_number all site.ordinal) all
