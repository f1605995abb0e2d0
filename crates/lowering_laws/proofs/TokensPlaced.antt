-- Each placed site of a function is of a token of its kind, and there are as many of each kind as tokens.
use Rattle.std.proofs.Common.{◌≡◌, ℕ, ◌+◌, ◌<◌, ◌≤◌, Bool, true, false, not, ◌&&◌, cond, List, [], ◌∷◌, ◌++◌, Option, Some, None, is_some, refl, sym, ap, ◌∙◌, subst, arith, inl, inr}
use Rattle.std.specs.Prelude.{◌⊎◌, count_by}
use Rattle.gc0_base.specs.declared.place.Place.{Place}
use Rattle.gc0_base.specs.declared.site.Site.{Site}
use Rattle.gc0_base.specs.declared.site.Kind.{Kind}
use Rattle.gc0_base.specs.declared.site.Kind.TheVariants as kind
use Rattle.gc0_tree.specs.declared.Shape.{Shape}
use Rattle.gc0_tree.specs.declared.Shape.TheVariants.{Int, Bool as Truth, Pointer}
use Rattle.gc0_tree.specs.declared.ExprOp.{ExprOp}
use Rattle.gc0_tree.specs.declared.LibraryCall.{LibraryCall}
use Rattle.gc0_tree.specs.declared.LibraryCall.TheVariants as library
use Rattle.gc0_tree.specs.Tree.{Tree, number_at, truth_at, null_at, local_at, result_at, unary_at, binary_at, both_at, either_at, choose_at, read_at, call_at, library_at, alloc_at, Trees, no_trees, tree_and, Formula, NoteKind, assert_note, fold_note, unfold_note, Stmt, declare_at, assign_at, write_at, plain_at, block_at, if_at, while_at, for_at, return_at, assert_at, raise_at, note_at, Stmts, no_stmts, stmt_and, Function, Program}
use Rattle.gc0_tree.specs.Fits.{Room, HasShape, AreGiven, IsVoidCall, InitialFits, ReturnFits, PutFits, StmtFits, StmtsFit, FunctionFits, library_params, params_in, unary_shape}
use Rattle.gc0_tree.specs.Sites.{may_fault, reads_input, token_if, is_requires, is_ensures, is_head, is_assert, is_fold, is_unfold, is_access, is_trap, tree_tokens, trees_tokens, op_tokens, write_tokens, stmt_tokens, stmts_tokens, tokens, is_before, ordinal, sites_of, second}
use Rattle.core_meaning.specs.CoreSited.{same_kind}
use Rattle.core_tables.specs.declared.PlacedSite.{PlacedSite}
use Rattle.lowering_laws.specs.Statements.{room_of}
use Rattle.lowering_laws.specs.Tables.{tree_placed, trees_placed, first_placed, op_placed, write_placed, stmt_placed, stmts_placed, close_placed, placed_of}
use Rattle.lowering_laws.proofs.TokenCounts.{how_many, how_many_is, how_many_both, all_pass, pass_or_not, front, rotated, regrouped, for_order, all_both, of_requires, of_ensures, of_assert, of_fold, of_unfold, of_access, of_trap, and_true, and_false, never_before, IsFree, Counted, all_widened, joined, none, retold, single, trap_if, heads, of_site}

module _ (p : Program) (g : ℕ) (f : Function) (r : Room) where
  abbrev at_of : Kind → Place → Site
  at_of = sites_of g f

  -- of a value that may be absent
  abbrev pub IsFirst : Trees → Type 0
  IsFirst no_trees = Unit {0}
  IsFirst (tree_and e no_trees) = (s : Shape) × HasShape p r e s
  IsFirst (tree_and e (tree_and d es)) = ⊥

  given_first : (l : LibraryCall) (es : Trees) → AreGiven p r (library_params l) es → IsFirst es
  given_first library.PrintInt no_trees h = tt
  given_first library.PrintInt (tree_and e no_trees) h = (h.0.0, h.0.1)
  given_first library.PrintInt (tree_and e (tree_and d es)) h = absurd h.1
  given_first library.PrintBool no_trees h = tt
  given_first library.PrintBool (tree_and e no_trees) h = (h.0.0, h.0.1)
  given_first library.PrintBool (tree_and e (tree_and d es)) h = absurd h.1
  given_first l no_trees h = tt
  given_first l (tree_and e es) h = absurd h

  initial_first : (s : Shape) (es : Trees) → InitialFits p r s es → IsFirst es
  initial_first s no_trees h = tt
  initial_first s (tree_and e no_trees) h = (h.0, h.1)
  initial_first s (tree_and e (tree_and d es)) h = absurd h

  return_first : (o : Option Shape) (es : Trees) → ReturnFits p r o es → IsFirst es
  return_first None no_trees h = tt
  return_first None (tree_and e es) h = absurd h
  return_first (Some s) no_trees h = tt
  return_first (Some s) (tree_and e no_trees) h = (h.0, h.1)
  return_first (Some s) (tree_and e (tree_and d es)) h = absurd h

  call_with : (at : Place) (n : ℕ) (es : Trees) → Counted g f (λ k. trees_tokens k es) (trees_placed at_of es) → Counted g f (λ k. tree_tokens k (call_at at n es)) (tree_placed at_of (call_at at n es))
  call_with at n es a =
      joined g f _ (λ k. trees_tokens k es) (λ k. token_if (is_requires k) at) _ _ (λ k test. front test (trees_tokens k es) (token_if (is_requires k) at)) a (single g f kind.Requires is_requires of_requires refl (Some n) at)

  library_with : (at : Place) (l : LibraryCall) (es : Trees) (t : Option ℕ) → Counted g f (λ k. trees_tokens k es) (first_placed at_of es) → Counted g f (λ k. tree_tokens k (library_at at l es t)) (tree_placed at_of (library_at at l es t))
  library_with at l es t a =
      joined g f _ (λ k. trees_tokens k es) (λ k. token_if (is_trap k && reads_input l) at) _ _ (λ k test. front test (trees_tokens k es) (token_if (is_trap k && reads_input l) at)) a (trap_if g f (reads_input l) at)

  mutual
    tree_counted : (e : Tree) (s : Shape) → HasShape p r e s → Counted g f (λ k. tree_tokens k e) (tree_placed at_of e)
    tree_counted (number_at at n) s h = none g f
    tree_counted (truth_at at b) s h = none g f
    tree_counted (null_at at) s h = none g f
    tree_counted (local_at at i) s h = none g f
    tree_counted (result_at at) s h = none g f
    tree_counted (unary_at at o a) s h = tree_counted a (unary_shape o) h.1
    tree_counted (binary_at at o a b) s h =
        joined g f _ (λ k. tree_tokens k a) (λ k. tree_tokens k b ++ token_if (is_trap k && may_fault o) at) _ _
        (λ k test. rotated test (tree_tokens k a) (tree_tokens k b) (token_if (is_trap k && may_fault o) at))
        (tree_counted a h.1 h.3)
        (joined g f _ (λ k. tree_tokens k b) (λ k. token_if (is_trap k && may_fault o) at) _ _ (λ k test. how_many_both test (tree_tokens k b) (token_if (is_trap k && may_fault o) at)) (tree_counted b h.2 h.4) (trap_if g f (may_fault o) at))
    tree_counted (both_at at a b) s h =
        joined g f _ (λ k. tree_tokens k a) (λ k. tree_tokens k b) _ _ (λ k test. how_many_both test (tree_tokens k a) (tree_tokens k b)) (tree_counted a Truth h.1) (tree_counted b Truth h.2)
    tree_counted (either_at at a b) s h =
        joined g f _ (λ k. tree_tokens k a) (λ k. tree_tokens k b) _ _ (λ k test. how_many_both test (tree_tokens k a) (tree_tokens k b)) (tree_counted a Truth h.1) (tree_counted b Truth h.2)
    tree_counted (choose_at at x a b) s h =
        joined g f _ (λ k. tree_tokens k x) (λ k. tree_tokens k a ++ tree_tokens k b) _ _ (λ k test. how_many_both test (tree_tokens k x) (tree_tokens k a ++ tree_tokens k b)) (tree_counted x Truth h.0)
        (joined g f _ (λ k. tree_tokens k a) (λ k. tree_tokens k b) _ _ (λ k test. how_many_both test (tree_tokens k a) (tree_tokens k b)) (tree_counted a h.1 h.3) (tree_counted b h.2 h.4))
    tree_counted (read_at at a k field) s h =
        joined g f _ (λ k. tree_tokens k a) (λ k. token_if (is_access k) at) _ _ (λ k test. front test (tree_tokens k a) (token_if (is_access k) at)) (tree_counted a (Pointer k) h.0) (single g f kind.Access is_access of_access refl None at)
    tree_counted (call_at at n es) s h = call_with at n es (trees_counted es (params_in h.0) h.2)
    tree_counted (library_at at l es t) s h = library_with at l es t (first_counted es (given_first l es h.1))
    tree_counted (alloc_at at k) s h = none g f

    trees_counted : (es : Trees) (ss : List Shape) → AreGiven p r ss es → Counted g f (λ k. trees_tokens k es) (trees_placed at_of es)
    trees_counted no_trees ss h = none g f
    trees_counted (tree_and e es) [] h = absurd h
    trees_counted (tree_and e es) (s ∷ ss) h =
        joined g f _ (λ k. tree_tokens k e) (λ k. trees_tokens k es) _ _ (λ k test. how_many_both test (tree_tokens k e) (trees_tokens k es)) (tree_counted e h.0.0 h.0.1) (trees_counted es ss h.1)

    first_counted : (es : Trees) → IsFirst es → Counted g f (λ k. trees_tokens k es) (first_placed at_of es)
    first_counted no_trees h = none g f
    first_counted (tree_and e no_trees) h =
        retold g f _ (λ k. tree_tokens k e) _ (λ k test. (let e = how_many_both test (tree_tokens k e) [] in omega arith)) (tree_counted e h.0 h.1)
    first_counted (tree_and e (tree_and d es)) h = absurd h

  void_counted : (e : Tree) → IsVoidCall p r e → Counted g f (λ k. tree_tokens k e) (tree_placed at_of e)
  void_counted (call_at at n es) h = call_with at n es (trees_counted es (params_in h.0) h.2)
  void_counted (library_at at l es t) h = library_with at l es t (first_counted es (given_first l es h.1))
  void_counted e h = absurd h

  put_shape : (s : Shape) (o : Option ExprOp) (e : Tree) → PutFits p r s o e → (u : Shape) × HasShape p r e u
  put_shape s None e h = (h.0, h.1)
  put_shape s (Some o) e h = (Int, h.1)

  op_counted : (o : Option ExprOp) (at : Place) → Counted g f (λ k. op_tokens k o at) (op_placed at_of o at)
  op_counted None at = none g f
  op_counted (Some o) at = trap_if g f (may_fault o) at

  -- ---- a write
  no_second : (test : Place → Bool) (b : Bool) (at : Place) → how_many test (token_if (b && false) at) ≡ 0
  no_second test b at = ap (λ b. how_many test (token_if b at)) (and_false b)

  a_second : (test : Place → Bool) (b : Bool) (at : Place) → how_many test (token_if (b && true) at) ≡ how_many test (token_if b at)
  a_second test b at = ap (λ b. how_many test (token_if b at)) (and_true b)

  write_total : (test : Place → Bool) (a x o b e : List Place) → how_many test ((a ++ x) ++ (o ++ (b ++ e))) ≡ how_many test a + how_many test x + how_many test o + how_many test b + how_many test e
  write_total test a x o b e = omega (arith, how_many_both test (a ++ x) (o ++ (b ++ e)), how_many_both test a x, how_many_both test o (b ++ e), how_many_both test b e)

  plain_write : (base : Tree) (arrow op_at : Place) (e : Tree) (s u : Shape) → HasShape p r base s → HasShape p r e u →
      Counted g f (λ k. write_tokens k None arrow ++ ([] ++ (tree_tokens k base ++ tree_tokens k e))) (write_placed at_of base arrow None op_at e)
  plain_write base arrow op_at e s u h i =
      joined g f _ (λ k. tree_tokens k base) (λ k. tree_tokens k e ++ token_if (is_access k) arrow) _ _
      (λ k test. omega (arith, write_total test (token_if (is_access k) arrow) (token_if (is_access k && false) arrow) [] (tree_tokens k base) (tree_tokens k e), no_second test (is_access k) arrow, how_many_both test (tree_tokens k e) (token_if (is_access k) arrow)))
      (tree_counted base s h)
      (joined g f _ (λ k. tree_tokens k e) (λ k. token_if (is_access k) arrow) _ _ (λ k test. how_many_both test (tree_tokens k e) (token_if (is_access k) arrow)) (tree_counted e u i) (single g f kind.Access is_access of_access refl None arrow))

  two_free : (arrow : Place) → 1 < how_many (λ t. not (is_before t arrow)) (arrow ∷ arrow ∷ [])
  two_free arrow = subst (λ c. 1 < cond (not c) 1 0 + (cond (not c) 1 0 + 0)) (sym (never_before arrow)) (omega arith)

  abbrev op_whole : ExprOp → Tree → (arrow op_at : Place) → Tree → Kind → List Place
  op_whole o base arrow op_at e k = write_tokens k (Some o) arrow ++ (op_tokens k (Some o) op_at ++ (tree_tokens k base ++ tree_tokens k e))

  op_parts : (o : ExprOp) (base : Tree) (arrow op_at : Place) (e : Tree) (k : Kind) (test : Place → Bool) → how_many test (op_whole o base arrow op_at e k) ≡
      how_many test (token_if (is_access k) arrow) + how_many test (token_if (is_access k) arrow) + how_many test (op_tokens k (Some o) op_at) + how_many test (tree_tokens k base) + how_many test (tree_tokens k e)
  op_parts o base arrow op_at e k test =
      omega (arith, write_total test (token_if (is_access k) arrow) (token_if (is_access k && true) arrow) (op_tokens k (Some o) op_at) (tree_tokens k base) (tree_tokens k e), a_second test (is_access k) arrow)

  op_two : (o : ExprOp) (base : Tree) (arrow op_at : Place) (e : Tree) (k : Kind) (test : Place → Bool) → how_many test (token_if (is_access k) arrow ++ token_if (is_access k) arrow) ≤ how_many test (op_whole o base arrow op_at e k)
  op_two o base arrow op_at e k test = omega (arith, op_parts o base arrow op_at e k test, how_many_both test (token_if (is_access k) arrow) (token_if (is_access k) arrow))

  op_write : (o : ExprOp) (base : Tree) (arrow op_at : Place) (e : Tree) (s u : Shape) → HasShape p r base s → HasShape p r e u →
      Counted g f (λ k. write_tokens k (Some o) arrow ++ (op_tokens k (Some o) op_at ++ (tree_tokens k base ++ tree_tokens k e))) (write_placed at_of base arrow (Some o) op_at e)
  op_write o base arrow op_at e s u h i =
      let first : PlacedSite = record { site = at_of kind.Access arrow; about = None; place = arrow } in
      let last : PlacedSite = record { site = second (at_of kind.Access arrow); about = None; place = arrow } in
      let xs : List PlacedSite = tree_placed at_of base in
      let ys : List PlacedSite = tree_placed at_of e in
      let zs : List PlacedSite = op_placed at_of (Some o) op_at in
      let W : Kind → List Place = op_whole o base arrow op_at e in
      let V : PlacedSite → Type 0 = IsFree g f W in
      let x = tree_counted base s h in
      let y = tree_counted e u i in
      let z = trap_if g f (may_fault o) op_at in
      record {
        all =
            all_both V xs (first ∷ (ys ++ (zs ++ last ∷ [])))
            (all_widened g f (λ k. tree_tokens k base) W xs (λ k test. omega (arith, op_parts o base arrow op_at e k test)) x.all) (
              record { more = 0; site = of_site g f kind.Access arrow; free = (let t = op_two o base arrow op_at e kind.Access (λ t. not (is_before t arrow)) in let l = two_free arrow in omega arith); no_start = refl },
              all_both V ys (zs ++ last ∷ []) (all_widened g f (λ k. tree_tokens k e) W ys (λ k test. omega (arith, op_parts o base arrow op_at e k test)) y.all)
                  (all_both V zs (last ∷ []) (all_widened g f (λ k. op_tokens k (Some o) op_at) W zs (λ k test. omega (arith, op_parts o base arrow op_at e k test)) z.all)
                  (record { more = 1; site = refl; free = (let t = op_two o base arrow op_at e kind.Access (λ t. not (is_before t arrow)) in let l = two_free arrow in omega arith); no_start = refl }, tt)),
            );
        count = λ k. (
            let of : PlacedSite → Bool = λ x. same_kind x.site.kind k in
            let a = x.count k in
            let b = y.count k in
            let c = z.count k in
            let d = (single g f kind.Access is_access of_access refl None arrow).count k in
            omega (
              arith,
              how_many_both of xs (first ∷ (ys ++ (zs ++ last ∷ []))),
              how_many_both of ys (zs ++ last ∷ []),
              how_many_both of zs (last ∷ []),
              op_parts o base arrow op_at e k (λ t. true),
              all_pass (W k),
              all_pass (tree_tokens k base),
              all_pass (tree_tokens k e),
              all_pass (op_tokens k (Some o) op_at),
              all_pass (token_if (is_access k) arrow),
            )
            );
      }

  write_counted : (base : Tree) (arrow : Place) (o : Option ExprOp) (op_at : Place) (e : Tree) (s u : Shape) → HasShape p r base s → HasShape p r e u →
      Counted g f (λ k. write_tokens k o arrow ++ (op_tokens k o op_at ++ (tree_tokens k base ++ tree_tokens k e))) (write_placed at_of base arrow o op_at e)
  write_counted base arrow None op_at e s u h i = plain_write base arrow op_at e s u h i
  write_counted base arrow (Some o) op_at e s u h i = op_write o base arrow op_at e s u h i

  -- ---- statements
  note_counted : (k : NoteKind) (formula : Formula) (at : Place) → Counted g f (λ j. stmt_tokens j (note_at at k formula)) (stmt_placed at_of (note_at at k formula))
  note_counted assert_note formula at = single g f kind.Assert is_assert of_assert refl _ at
  note_counted fold_note formula at = single g f kind.Fold is_fold of_fold refl _ at
  note_counted unfold_note formula at = single g f kind.Unfold is_unfold of_unfold refl _ at

  plain_counted : (e : Tree) → ((s : Shape) × HasShape p r e s) ⊎ IsVoidCall p r e → Counted g f (λ k. tree_tokens k e) (tree_placed at_of e)
  plain_counted e (inl h) = tree_counted e h.0 h.1
  plain_counted e (inr h) = void_counted e h

  module _ (due : Option Shape) where
    mutual
      stmt_counted : (a : Stmt) → StmtFits p r due a → Counted g f (λ k. stmt_tokens k a) (stmt_placed at_of a)
      stmt_counted (declare_at at i es) h = first_counted es (initial_first h.0 es h.2)
      stmt_counted (assign_at at i o op_at e) h =
          let has = put_shape h.0 o e h.2 in
          joined g f _ (λ k. tree_tokens k e) (λ k. op_tokens k o op_at) _ _ (λ k test. front test (tree_tokens k e) (op_tokens k o op_at)) (tree_counted e has.0 has.1) (op_counted o op_at)
      stmt_counted (write_at at base k field arrow o op_at e) h =
          let has = put_shape h.1 o e h.3 in
          write_counted base arrow o op_at e (Pointer k) has.0 h.0 has.1
      stmt_counted (plain_at at e) h = plain_counted e h
      stmt_counted (block_at at ss) h = stmts_counted ss h
      stmt_counted (if_at at e a b) h =
          joined g f _ (λ k. tree_tokens k e) (λ k. stmt_tokens k a ++ stmts_tokens k b) _ _ (λ k test. how_many_both test (tree_tokens k e) (stmt_tokens k a ++ stmts_tokens k b)) (tree_counted e Truth h.0)
          (joined g f _ (λ k. stmt_tokens k a) (λ k. stmts_tokens k b) _ _ (λ k test. how_many_both test (stmt_tokens k a) (stmts_tokens k b)) (stmt_counted a h.1) (stmts_counted b h.2))
      stmt_counted (while_at at inv e a) h =
          joined g f _ (λ k. token_if (is_head k) at) (λ k. tree_tokens k e ++ stmt_tokens k a) _ _ (λ k test. regrouped test (token_if (is_head k) at) (tree_tokens k e) (stmt_tokens k a)) (heads g f at)
          (joined g f _ (λ k. tree_tokens k e) (λ k. stmt_tokens k a) _ _ (λ k test. how_many_both test (tree_tokens k e) (stmt_tokens k a)) (tree_counted e Truth h.1) (stmt_counted a h.2))
      stmt_counted (for_at at first e last inv a) h =
          joined g f _ (λ k. stmts_tokens k first) (λ k. token_if (is_head k) at ++ (tree_tokens k e ++ (stmt_tokens k a ++ stmts_tokens k last))) _ _
          (λ k test. for_order test (token_if (is_head k) at) (stmts_tokens k first) (tree_tokens k e) (stmts_tokens k last) (stmt_tokens k a))
          (stmts_counted first h.0)
          (joined g f _ (λ k. token_if (is_head k) at) (λ k. tree_tokens k e ++ (stmt_tokens k a ++ stmts_tokens k last)) _ _
          (λ k test. how_many_both test (token_if (is_head k) at) (tree_tokens k e ++ (stmt_tokens k a ++ stmts_tokens k last))) (heads g f at)
          (joined g f _ (λ k. tree_tokens k e) (λ k. stmt_tokens k a ++ stmts_tokens k last) _ _ (λ k test. how_many_both test (tree_tokens k e) (stmt_tokens k a ++ stmts_tokens k last)) (tree_counted e Truth h.1)
          (joined g f _ (λ k. stmt_tokens k a) (λ k. stmts_tokens k last) _ _ (λ k test. how_many_both test (stmt_tokens k a) (stmts_tokens k last)) (stmt_counted a h.4) (stmts_counted last h.2))))
      stmt_counted (return_at at es) h =
          joined g f _ (λ k. trees_tokens k es) (λ k. token_if (is_ensures k) at) _ _ (λ k test. front test (trees_tokens k es) (token_if (is_ensures k) at)) (first_counted es (return_first due es h)) (single g f kind.Ensures is_ensures of_ensures refl None at)
      stmt_counted (assert_at at e) h =
          joined g f _ (λ k. tree_tokens k e) (λ k. token_if (is_trap k) at) _ _ (λ k test. front test (tree_tokens k e) (token_if (is_trap k) at)) (tree_counted e Truth h) (single g f kind.Trap is_trap of_trap refl None at)
      stmt_counted (raise_at at t) h = single g f kind.Trap is_trap of_trap refl (Some t) at
      stmt_counted (note_at at k formula) h = note_counted k formula at

      stmts_counted : (ss : Stmts) → StmtsFit p r due ss → Counted g f (λ k. stmts_tokens k ss) (stmts_placed at_of ss)
      stmts_counted no_stmts h = none g f
      stmts_counted (stmt_and a ss) h =
          joined g f _ (λ k. stmt_tokens k a) (λ k. stmts_tokens k ss) _ _ (λ k test. how_many_both test (stmt_tokens k a) (stmts_tokens k ss)) (stmt_counted a h.0) (stmts_counted ss h.1)

close_counted : (g : ℕ) (f : Function) (o : Option Shape) → Counted g f (λ k. token_if (is_ensures k && not (is_some o)) f.close) (close_placed (sites_of g f) f o)
close_counted g f None = single g f kind.Ensures (λ k. is_ensures k && true) (λ k. and_true (is_ensures k) ∙ of_ensures k) refl None f.close
close_counted g f (Some s) = retold g f _ (λ k. []) [] (λ k test. ap (λ b. how_many test (token_if b f.close)) (and_false (is_ensures k))) (none g f)

pub placed_counted : (p : Program) (g : ℕ) (f : Function) → FunctionFits p f → Counted g f (tokens f) (placed_of g f)
placed_counted p g f h =
    joined g f (tokens f) (λ k. stmts_tokens k f.body) (λ k. token_if (is_ensures k && not (is_some f.result)) f.close) _ _ (λ k test. front test (stmts_tokens k f.body) (token_if (is_ensures k && not (is_some f.result)) f.close))
    (stmts_counted p g f (room_of f) f.result f.body h.body) (close_counted g f f.result)

-- the number of a placed site is below the count of its kind
pub number_below : (p : Program) (g : ℕ) (f : Function) → FunctionFits p f → (x : PlacedSite) → IsFree g f (tokens f) x → x.site.ordinal < count_by (λ y. same_kind y.site.kind x.site.kind) (placed_of g f)
number_below p g f h x a =
    let k : Kind = x.site.kind in
    let n : x.site.ordinal ≡ ordinal f k x.place + a.more = ap (λ (s : Site). s.ordinal) a.site in
    let lt = a.free in
    omega (
      arith,
      how_many_is (λ t. is_before t x.place) (tokens f k),
      pass_or_not (λ t. is_before t x.place) (tokens f k),
      how_many_is (λ (y : PlacedSite). same_kind y.site.kind k) (placed_of g f),
      (placed_counted p g f h).count k,
    )
