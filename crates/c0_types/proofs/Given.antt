-- An expression that has a type gives a value of its shape, and arguments that fit are given.
use Rattle.std.proofs.Common.{◌≡◌, ℕ, suc, ◌+◌, true, List, [], ◌∷◌, map, length, Option, Some, slice_get, unwrap_or, refl, sym, subst, ap, ◌∙◌, arith}
use Rattle.gc0_base.specs.declared.place.Place.{Place}
use Rattle.parsed_tree.specs.Tree.{ExprTree, number, truth, null, local, outcome, unary, binary, choose, arrow, call, call_text, alloc, acc, ExprTrees, no_exprs, expr_and}
use Rattle.gc0_tree.specs.declared.LibraryCall.TheVariants as library_call
use Rattle.gc0_tree.specs.Calls.{library_named}
use Rattle.gc0_tree.specs.Tree as tree
use Rattle.gc0_tree.specs.Fits.{AreGiven, Room}
use Rattle.c0_names.specs.declared.types.BaseType.TheVariants.{Struct}
use Rattle.c0_names.specs.declared.types.ValueType.{ValueType}
use Rattle.c0_names.specs.declared.types.ValueType.TheVariants.{Written, Null, Void}
use Rattle.c0_names.specs.declared.tables.Tables.{Tables}
use Rattle.c0_names.specs.Tables.{type_in}
use Rattle.c0_names.specs.Types.{int, bool, callee, prints_text}
use Rattle.c0_names.specs.Typing.{Look, arrow_typed, argument_fits, params_of, count_of, type_of, arguments_fit}
use Rattle.c0_value_numbers.specs.declared.frame.Frame.{Frame}
use Rattle.c0_value_numbers.specs.Values.{number_in, shape_of, accessed, type_in_frame}
use Rattle.c0_value_numbers.specs.Texts.{Texts, expr_texts}
use Rattle.c0_value_numbers.specs.Expressions.{read_tree, call_tree, expr_tree, exprs_tree}
use Rattle.c0_types.proofs.Shapes.{both_left, both_right, fits_suits, fits_value, held_value, if_some}
use Rattle.c0_types.proofs.Raised.{Below, raised}
use Rattle.c0_types.proofs.World.{Gives, gives_value, value_gives, AllHeld, World, Sees}
use Rattle.c0_types.proofs.Values.{unary_parts, binary_parts, choice_parts, Reached, arrow_parts, argument_parts, called_parts, unary_gives, binary_gives, choice_gives, accessed_is, no_text, text_gives, call_gives, fields_same, alloc_gives, mapped_is}

-- the same type in the frame
pub in_frame : (t u : Tables) → Below t u → (room : Room) (f : Frame) (look : Look) (r :
    Option ValueType) → Sees room f look r → (e : ExprTree) (v : ValueType) →
    type_of t look r e ≡ Some v → type_in_frame u f e ≡ Some v
in_frame t u below room f look r sees e v =
    raised t u below look (type_in f.locals) (λ n w q. (sees.reads n w q).0) r (Some f.result)
    (λ w q. ap Some (sym (sees.outcome w q).0)) e v

-- the pointer, the struct and the field of an access, by the tables of the whole text
abbrev pub reached_in : (t u : Tables) → Below t u →
    (a b : Option ValueType) (n : List ℕ) (v : ValueType) →
    ((w : ValueType) → a ≡ Some w → b ≡ Some w) → Reached t a n v → Reached u b n v
reached_in t u below a b n v h q =
    record {
      of_struct = q.of_struct;
      fields = q.fields;
      base = h (Written (Struct q.of_struct) 1)
          q.base;
      defined = fields_same t u below q.of_struct q.fields q.defined;
      typed = q.typed;
    }

read_gives : (u : Tables) (p : tree.Program) → World u p →
    (r : Room) (at : Place) (x : tree.Tree) (a : Option ValueType) (n : List ℕ) (v : ValueType) →
    (q : Reached u a n v) → Gives p r x (Written (Struct q.of_struct) 1) →
    Gives p r (read_tree at x (accessed u a n)) v
read_gives u p world r at x a n v q h =
    let f = world.fields q.of_struct q.fields n v q.defined q.typed in
    subst (λ k. Gives p r (read_tree at x k) v) (sym (accessed_is u a n v q))
    (value_gives p r (tree.read_at at x q.of_struct (number_in q.fields.names n)) v
    (held_value v f.1) (h, f.0))

mutual
  pub value_given : (t u : Tables) (p : tree.Program) → Below t u → World u p →
      (room : Room) (f : Frame) (look : Look) (r : Option ValueType) → Sees room f look r →
      (ts : Texts) (e : ExprTree) (v : ValueType) → type_of t look r e ≡ Some v →
      Gives p room (expr_tree u f ts e) v
  value_given t u p below world room f look r sees ts (number s w) v e = let q : int ≡ v = cc in
      subst (Gives p room (tree.number_at s.place w.0)) q refl
  value_given t u p below world room f look r sees ts (truth s b) v e = let q : bool ≡ v = cc in
      subst (Gives p room (tree.truth_at s.place b)) q refl
  value_given t u p below world room f look r sees ts (null s) v e = let q : Null ≡ v = cc in
      subst (Gives p room (tree.null_at s.place)) q refl
  value_given t u p below world room f look r sees ts (local s n) v e =
      let q = sees.reads n v e in
      value_gives p room (tree.local_at s.place (number_in f.locals.names n)) v (held_value v q.1)
      (sees.places n v q.0)
  value_given t u p below world room f look r sees ts (outcome s) v e =
      let q = sees.outcome v e in
      value_gives p room (tree.result_at s.place) v (held_value v q.1) q.2
  value_given t u p below world room f look r sees ts (unary s o x) v e =
      let q = unary_parts o (type_of t look r x) v e in
      unary_gives p room s.place o (expr_tree u f ts x) q.0 v q.2
      (value_given t u p below world room f look r sees ts x q.0 q.1)
  value_given t u p below world room f look r sees ts (binary s o x y) v e =
      let q = binary_parts o (type_of t look r x) (type_of t look r y) v e in
      binary_gives p room s.place o (expr_tree u f ts x) (expr_tree u f (expr_texts ts x) y) q.0 q.1
      v q.4 (value_given t u p below world room f look r sees ts x q.0 q.2)
      (value_given t u p below world room f look r sees (expr_texts ts x) y q.1 q.3)
  value_given t u p below world room f look r sees ts (choose s c x y) v e =
      let q = choice_parts (type_of t look r c) (type_of t look r x) (type_of t look r y) v e in
      choice_gives p room s.place (expr_tree u f ts c) (expr_tree u f (expr_texts ts c) x)
      (expr_tree u f (expr_texts (expr_texts ts c) x) y) q.0 q.1 q.2 v q.6
      (value_given t u p below world room f look r sees ts c q.0 q.3)
      (value_given t u p below world room f look r sees (expr_texts ts c) x q.1 q.4)
      (value_given t u p below world room f look r sees (expr_texts (expr_texts ts c) x) y q.2
      q.5)
  value_given t u p below world room f look r sees ts (arrow s x n) v e =
      let q = arrow_parts t (type_of t look r x) n.name v e in
      let g = reached_in t u below (type_of t look r x) (type_in_frame u f x) n.name v
      (in_frame t u below room f look r sees x) q in
      read_gives u p world room s.place (expr_tree u f ts x) (type_in_frame u f x) n.name v g
      (value_given t u p below world room f look r sees ts x (Written (Struct q.of_struct) 1)
      q.base)
  value_given t u p below world room f look r sees ts (call s n es) v e =
      let c = callee t.functions n in
      let q = called_parts c (arguments_fit t look r (params_of c) 0 es) (count_of es) v e in
      let g = subst (λ k. arguments_fit t look r (params_of k) 0 es ≡ true) q.1 q.2 in
      let h = subst (λ k. callee k n ≡ Some q.0) below.functions q.1 in
      subst (Gives p room (call_tree u s.place n (library_named n) (exprs_tree u f ts es))) q.4
      (call_gives u p world room s.place n (library_named n) q.0 (exprs_tree u f ts es) h
      (λ z. no_text t look r es (subst (λ k. length k ≡ count_of es) z q.3)
      (subst (λ k. arguments_fit t look r k 0 es ≡ true) z g))
      (λ a. args_given t u p below world room f look r sees ts es q.0.params q.0.params 0
      (λ j. let z : 0 + j ≡ j = omega arith in ap (slice_get q.0.params) z) a q.3 g))
  value_given t u p below world room f look r sees ts (call_text s n x) v e =
      let q = if_some (prints_text n) Void v e in
      subst (Gives p room (tree.library_at s.place (unwrap_or (library_named n) library_call.Print)
      tree.no_trees (Some (length ts)))) q.1 (text_gives p room s.place (length ts)
      (library_named n) q.0)
  value_given t u p below world room f look r sees ts (alloc s n) v e =
      alloc_gives t u p below world room s.place n v e
  value_given t u p below world room f look r sees ts (acc s x a n) v e =
      subst (Gives p room (tree.truth_at s.place true))
      (mapped_is (arrow_typed t (type_of t look r x) n.name) bool v e) refl

  pub args_given : (t u : Tables) (p : tree.Program) → Below t u → World u p →
      (room : Room) (f : Frame) (look : Look) (r : Option ValueType) → Sees room f look r →
      (ts : Texts) (es : ExprTrees) (ps rest : List ValueType) (i : ℕ) →
      ((j : ℕ) → slice_get ps (i + j) ≡ slice_get rest j) → AllHeld rest →
      length rest ≡ count_of es → arguments_fit t look r ps i es ≡ true →
      AreGiven p room (map shape_of rest) (exprs_tree u f ts es)
  args_given t u p below world room f look r sees ts no_exprs ps [] i link held n e = tt
  args_given t u p below world room f look r sees ts no_exprs ps (w ∷ rest) i link held n e =
      absurd (omega arith)
  args_given t u p below world room f look r sees ts (expr_and x es) ps [] i link held n e =
      absurd (omega arith)
  args_given t u p below world room f look r sees ts (expr_and x es) ps (w ∷ rest) i link held n e =
      let a = type_of t look r x in
      let z : i + 0 ≡ i = omega arith in
      let l : slice_get ps i ≡ Some w = ap (slice_get ps) (sym z) ∙ link 0 in
      let c = argument_fits (slice_get ps i) a in
      let d = arguments_fit t look r ps (i + 1) es in
      let q = argument_parts w a (subst (λ k. argument_fits k a ≡ true) l (both_left c d e)) in
      let m : length rest ≡ count_of es = omega arith in (
        (
          shape_of q.0,
          gives_value p room (expr_tree u f ts x) q.0 (fits_value w q.0 q.2)
              (value_given t u p below world room f look r sees ts x q.0 q.1),
          fits_suits w q.0 held.0
              q.2,
        ),
        args_given t u p below world room f look r sees (expr_texts ts x) es ps rest (i + 1)
            (λ j. let y : (i + 1) + j ≡ i + suc j = omega arith in ap (slice_get ps) y ∙ link
            (suc j)) held.1 m (both_right c d e),
      )
