-- The arguments of a call one after another: what is left, behind what came so far, is one of all.
use Rattle.std.proofs.Common.{◌≡◌, ◌<◌, ◌≤◌, ◌+◌, ℕ, List, [], ◌∷◌, ◌++◌, length, drop, get_or, add-one, drop-cons, refl, sym, ap, subst, ◌∙◌, append_assoc, append-nil, Bool, Result, Ok, Err, IfOk, OnOk}
use Rattle.std.proofs.lemmas.List.{drop_all}
use Rattle.gc0_tree.specs.declared.Expr.{Expr}
use Rattle.gc0_tree.specs.Tree.{Tree, Trees, no_trees, tree_and}
use Rattle.gc0_tree.specs.Views.{expr_view, exprs_view}
use Rattle.std.specs.declared.alloc.AllocError.{AllocError}
use Rattle.gc0_tree.specs.declared.Shape.{Shape}
use Rattle.core_tree.specs.declared.Simple.{Simple}
use Rattle.core_tree.specs.CoreTree.{Code}
use Rattle.lowering_laws.specs.Counts.{Counts, with_constant, is_constant}
use Rattle.lowering_laws.specs.Trees.{join, argument, argument_code, arguments, args_code}
use Rattle.core_expressions.specs.declared.within.Within.{Within}
use Rattle.core_expressions.specs.declared.written.Written.{Written}
use Rattle.core_expressions.specs.declared.operand.Operand.{Operand}
use Rattle.core_expressions.specs.Writing.{program_of, room_in, target_of, StandsFor, IsWritten, counts_behind, shape_in, value_in, code_in, decisions_for, placed_for, temp_in}
use Rattle.core_expressions.specs.Passing.{passed_counts, IsPassed, ArePassed}
use Rattle.core_expressions.proofs.Joins.{alike, counted_alike, followed, join_assoc, nothing, ap3}

-- what is known behind some arguments: counts stand for what was written, and the rest is the rest of all
pub record Further (w : Within) (o out : Written) (k : Counts) (all rest : Trees) (locals : List ℕ) : Type 0 where
  pub counts : Counts
  pub stands : StandsFor out counts
  pub so : (new : Written) (ls : List ℕ) → ArePassed w out new counts rest locals ls → ArePassed w o new k all [] ls

pub begun : (w : Within) (o : Written) (k : Counts) (all : Trees) → StandsFor o k → Further w o o k all all []
begun w o k all s = record { counts = k; stands = s; so = λ new ls h. h }

-- one argument, behind its code
pub passed : (w : Within) (a b d : Written) (k : Counts) (e : Tree) (constant : Bool) (x : Operand) (r : Result ℕ AllocError) →
    x.value ≡ value_in w k e → x.shape ≡ shape_in w e → constant ≡ is_constant e →
    IsWritten a b (counts_behind w k e) (code_in w k e) (decisions_for w e) (placed_for w e) →
    IfOk r (λ i. i ≡ argument constant (temp_in w x.shape (counts_behind w k e)) x.value) →
    OnOk r (IsWritten b d (with_constant constant x.shape (counts_behind w k e)) (argument_code constant (temp_in w x.shape (counts_behind w k e)) x.value) [] []) →
    IfOk r (λ i. IsPassed w a d k e i)
passed w a b d k e constant x (Err f) ev es ec v local written = tt
passed w a b d k e constant x (Ok i) ev es ec v local written =
    let n : Counts = counts_behind w k e in
    let at : Bool → Shape → Simple → ℕ = λ y z u. argument y (temp_in w z n) u in
    let code : Bool → Shape → Simple → Code = λ y z u. join (code_in w k e) (argument_code y (temp_in w z n) u) in
    record {
      local_is = local ∙ ap3 at ec es ev;
      written = counted_alike (alike (followed v written) (ap3 code ec es ev) (append-nil (decisions_for w e)) (append-nil (placed_for w e))) (ap (λ (y : Bool). with_constant y x.shape n) ec ∙ ap (λ (z : Shape). with_constant (is_constant e) z n) es);
    }

-- one argument more, and then the rest
one_more : (w : Within) (a b d : Written) (k : Counts) (e : Tree) (es : Trees) (locals ls : List ℕ) (local : ℕ) →
    IsPassed w a b k e local → ArePassed w b d (passed_counts w k e) es (locals ++ local ∷ []) ls → ArePassed w a d k (tree_and e es) locals ls
one_more w a b d k e es locals ls local p r =
    let behind : List ℕ = arguments (program_of w) (room_in w) (target_of w) (passed_counts w k e) es in
    let put : Code = argument_code (is_constant e) (temp_in w (shape_in w e) (counts_behind w k e)) (value_in w k e) in
    let more : Code = args_code (program_of w) (room_in w) (target_of w) (passed_counts w k e) es in
    record {
      locals_are = r.locals_are ∙ append_assoc locals (local ∷ []) behind ∙ ap (λ (n : ℕ). locals ++ n ∷ behind) p.local_is;
      written = alike (followed p.written r.written) (join_assoc (code_in w k e) put more) refl refl;
    }

pub one_further : (w : Within) (o a b : Written) (k : Counts) (all : Trees) (e : Tree) (es rest : Trees) (locals locals' : List ℕ) (local : ℕ) →
    Further w o a k all rest locals → rest ≡ tree_and e es → ((m : Counts) → StandsFor a m → IsPassed w a b m e local) → locals' ≡ locals ++ local ∷ [] →
    Further w o b k all es locals'
one_further w o a b k all e es rest locals locals' local f view p el =
    let n : Counts = f.counts in
    let passed : IsPassed w a b n e local = p n f.stands in
    record {
      counts = passed_counts w n e;
      stands = passed.written.counts;
      so = λ new ls h.
          let whole : ArePassed w b new (passed_counts w n e) es (locals ++ local ∷ []) ls = subst (λ (l : List ℕ). ArePassed w b new (passed_counts w n e) es l ls) el h in
          f.so new ls (subst (λ (t : Trees). ArePassed w a new n t locals ls) (sym view) (one_more w a b new n e es locals ls local passed whole));
    }

pub all_passed : (w : Within) (o a : Written) (k : Counts) (all rest : Trees) (locals : List ℕ) →
    Further w o a k all rest locals → rest ≡ no_trees → ArePassed w o a k all [] locals
all_passed w o a k all rest locals f view =
    let n : Counts = f.counts in
    let none : ArePassed w a a n no_trees locals locals = record { locals_are = sym (append-nil locals); written = nothing a n f.stands } in
    f.so a locals (subst (λ (t : Trees). ArePassed w a a n t locals locals) (sym view) none)

-- ---- what is left of the arguments
pub next_argument : (es : List Expr) (i : ℕ) (e : Expr) → i < length es → e ≡ get_or es i e → exprs_view (drop i es) ≡ tree_and (expr_view e) (exprs_view (drop (i + 1) es))
next_argument es i e within is =
    let cut : drop i es ≡ get_or es i e ∷ drop (i + 1) es = rw add-one (drop-cons es i e within) in
    ap exprs_view cut ∙ ap (λ (x : Expr). tree_and (expr_view x) (exprs_view (drop (i + 1) es))) (sym is)

pub last_argument : (es : List Expr) (i : ℕ) → length es ≤ i → exprs_view (drop i es) ≡ no_trees
last_argument es i past = ap exprs_view (drop_all i es past)
