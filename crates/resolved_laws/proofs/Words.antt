-- Numbers that are words, and operators that give ints, make statements whose words fit.
use Rattle.std.proofs.Common.{◌≡◌, true, ◌&&◌, List, [], ◌∷◌, refl}
use Rattle.std.specs.Prelude.{All}
use Rattle.std.proofs.lemmas.Bool.{and_parts, and_from}
use Rattle.std.proofs.lemmas.List.Elements.{All-nil, All-cons, All-head, All-tail}
use Rattle.gc0_tree.specs.Tree.{Stmt, declare_at, assign_at, write_at, plain_at, block_at, if_at, while_at, for_at, return_at, assert_at, raise_at, note_at, Stmts, no_stmts, stmt_and, Function}
use Rattle.lowering_laws.specs.Words.{gives_int, tree_words, stmt_words, stmts_words, WordsFit}
use Rattle.resolved_laws.specs.Operators.{stmt_gives, stmts_give, OperatorsGive}
use Rattle.resolved_laws.specs.Numbers.{stmt_numbers, stmts_numbers, NumbersFit}

mutual
  stmt_fits : (s : Stmt) → stmt_numbers s ≡ true → stmt_gives s ≡ true → stmt_words s ≡ true
  stmt_fits (declare_at at i es) h k = h
  stmt_fits (assign_at at i o op_at e) h k = and_from (gives_int o) (tree_words e) k h
  stmt_fits (write_at at base n field arrow o op_at e) h k = and_from (gives_int o) (tree_words base && tree_words e) k h
  stmt_fits (plain_at at e) h k = h
  stmt_fits (block_at at ss) h k = stmts_fit ss h k
  stmt_fits (if_at at e a b) h k =
      let p = and_parts (tree_words e) (stmt_numbers a && stmts_numbers b) h in
      let q = and_parts (stmt_numbers a) (stmts_numbers b) p.1 in
      let r = and_parts (stmt_gives a) (stmts_give b) k in
      and_from (tree_words e) (stmt_words a && stmts_words b) p.0 (and_from (stmt_words a) (stmts_words b) (stmt_fits a q.0 r.0) (stmts_fit b q.1 r.1))
  stmt_fits (while_at at inv e a) h k =
      let p = and_parts (tree_words e) (stmt_numbers a) h in
      and_from (tree_words e) (stmt_words a) p.0 (stmt_fits a p.1 k)
  stmt_fits (for_at at first e last inv a) h k =
      let p = and_parts (stmts_numbers first) (tree_words e && (stmts_numbers last && stmt_numbers a)) h in
      let q = and_parts (tree_words e) (stmts_numbers last && stmt_numbers a) p.1 in
      let r = and_parts (stmts_numbers last) (stmt_numbers a) q.1 in
      let v = and_parts (stmts_give first) (stmts_give last && stmt_gives a) k in
      let w = and_parts (stmts_give last) (stmt_gives a) v.1 in
      and_from (stmts_words first) (tree_words e && (stmts_words last && stmt_words a)) (stmts_fit first p.0 v.0)
      (and_from (tree_words e) (stmts_words last && stmt_words a) q.0
      (and_from (stmts_words last) (stmt_words a) (stmts_fit last r.0 w.0) (stmt_fits a r.1 w.1)))
  stmt_fits (return_at at es) h k = h
  stmt_fits (assert_at at e) h k = h
  stmt_fits (raise_at at t) h k = refl
  stmt_fits (note_at at n formula) h k = refl

  stmts_fit : (ss : Stmts) → stmts_numbers ss ≡ true → stmts_give ss ≡ true → stmts_words ss ≡ true
  stmts_fit no_stmts h k = refl
  stmts_fit (stmt_and s ss) h k =
      let p = and_parts (stmt_numbers s) (stmts_numbers ss) h in
      let q = and_parts (stmt_gives s) (stmts_give ss) k in
      and_from (stmt_words s) (stmts_words ss) (stmt_fits s p.0 q.0) (stmts_fit ss p.1 q.1)

pub words_fit : (fs : List Function) → All NumbersFit fs → All OperatorsGive fs → All WordsFit fs
words_fit [] h k = All-nil WordsFit
words_fit (f ∷ fs) h k =
    All-cons WordsFit f fs (stmts_fit f.body (All-head NumbersFit f fs h) (All-head OperatorsGive f fs k))
    (words_fit fs (All-tail NumbersFit f fs h) (All-tail OperatorsGive f fs k))
