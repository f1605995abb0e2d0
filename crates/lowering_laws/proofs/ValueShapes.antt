-- The code of an expression fits, and so does the value behind it.
use Rattle.std.proofs.Common.{◌≡◌, ℕ, ◌<◌, ◌^◌, Bool, true, false, List, [], ◌∷◌, All, Option, Some, None, IfSome, is_some, refl, sym, ap, ◌∙◌, subst, arith}
use Rattle.std.proofs.lemmas.Bool.{ltb-true}
use Rattle.std.specs.Prelude.{slice_get, ◌&&◌, IsTrue}
use Rattle.std.specs.Option.{option_and_then}
use Rattle.gc0_base.specs.declared.place.Place.{Place}
use Rattle.gc0_base.specs.declared.site.Kind.TheVariants as kind
use Rattle.gc0_tree.specs.declared.Shape.{Shape}
use Rattle.gc0_tree.specs.declared.Shape.TheVariants.{Int, Bool as Truth, Pointer}
use Rattle.gc0_tree.specs.declared.LibraryCall.{LibraryCall}
use Rattle.gc0_tree.specs.declared.LibraryCall.TheVariants as library
use Rattle.gc0_tree.specs.Calls.{takes_text}
use Rattle.gc0_tree.specs.Sites.{reads_input}
use Rattle.gc0_tree.specs.Tree.{Tree, number_at, truth_at, null_at, local_at, result_at, unary_at, binary_at, both_at, either_at, choose_at, read_at, call_at, library_at, alloc_at, Trees, no_trees, tree_and, Struct, Function, Program}
use Rattle.gc0_tree.specs.Fits.{Room, HasShape, AreGiven, IsHeld, StructFits, FunctionFits, suits, unary_shape, gives, field_shape, library_gives, library_params, params_in, shapes_in}
use Rattle.core_tree.specs.declared.Simple.{Simple}
use Rattle.core_tree.specs.declared.Simple.TheVariants as simple
use Rattle.core_tree.specs.CoreTree.{do_step, do_set, do_unary, do_load, do_call, do_library, do_if, Code, code_and, CoreFunction, Core}
use Rattle.c0_meaning.specs.Operators.{truth_word}
use Rattle.core_meaning.specs.CoreFits.{around, WordFits, may_hold, SimpleFits, TakesResult, ArgumentsFit, ArgumentFits, core_params, word_shapes, CoreStmtFits, CodeFits}
use Rattle.lowering_laws.specs.Counts.{tree_shape, result_of, read_shape, chosen_shape, Counts, with_temp, with_result, with_constant, decided, call_choices, is_constant, counted, args_counted, first_counted}
use Rattle.lowering_laws.specs.Trees.{Target, join, one, temp, temp_if, constant, held, value_of, first_value, local_in, argument, argument_code, arguments, decision, site_if, operator_code, tree_code, args_code, first_code}
use Rattle.lowering_laws.proofs.Counting.{Within, within_trans, one_grows, one_has, counted_grows, args_grow, constant_grows, some_is, none_some, shape_is, IsTemp, library_temp, result_temp, shape_temp}
use Rattle.lowering_laws.proofs.Expressions.{IsFirst, library_first}
use Rattle.lowering_laws.specs.Words.{tree_words, trees_words}
use Rattle.lowering_laws.proofs.Suits.{and_left, and_right, may_refl, may_suit, common_holds, truth_less, simple_may, local_may, join_fits, operator_fits}

-- a function of the core stands where the program's does, with its parameters and its result
pub record Stands (c : Core) (g : ℕ) (h : Function) : Type 0 where
  pub function : CoreFunction
  pub there : slice_get c.functions g ≡ Some function
  pub params : core_params function ≡ params_in h
  pub result : function.result ≡ h.result

-- What is known of a function `f` of the core and of the program's that it is lowered from. `room` says how many
-- temporaries of each shape it has.
pub record LoweredIn (p : Program) (c : Core) (f : CoreFunction) (r : Room) (w : Target) (room : Shape → ℕ) : Type 0 where
  pub structs : All (StructFits p) p.structs
  pub functions : All (FunctionFits p) p.functions
  pub held : All (IsHeld p) r.locals
  pub outcome : r.outcome ≡ None
  pub locals : (i : ℕ) (s : Shape) → slice_get r.locals i ≡ Some s → slice_get (word_shapes f) i ≡ Some s
  pub temps : (s : Shape) (i : ℕ) → IsTemp p s → i < room s → slice_get (word_shapes f) (w.slot s i) ≡ Some s
  pub same_structs : c.structs ≡ p.structs
  pub callees : (g : ℕ) (h : Function) → slice_get p.functions g ≡ Some h → Stands c g h

module _ (p : Program) (c : Core) (f : CoreFunction) (r : Room) (w : Target) (room : Shape → ℕ) (known : LoweredIn p c f r w room) where
  abbrev W : List Shape
  W = word_shapes f

  abbrev InRoom : Counts → Type 0
  InRoom c0 = Within c0.used room

  pub is_temp : (e : Tree) (s : Shape) → HasShape p r e s → IsTemp p (tree_shape p r e)
  is_temp e s h =
      subst (IsTemp p) (sym (shape_is p r e s h)) (shape_temp p known.structs known.functions r known.held (subst (λ o. IfSome o (IsTemp p)) (sym known.outcome) tt) e s h)

  -- ---- counts
  pub room_before : (u : Shape) (c0 : Counts) → Within (with_temp u c0).used room → Within c0.used room
  room_before u c0 h v = let a = h v in let b = one_grows u c0.used v in omega arith

  room_of_temp : (u : Shape) (c0 : Counts) → Within (with_temp u c0).used room → c0.used u < room u
  room_of_temp u c0 h = let a = h u in let b = one_has u c0.used in omega arith

  room_of_call : (o : Option Shape) (n : ℕ) (c0 : Counts) → Within (with_result o (decided n c0)).used room → (u : Shape) → o ≡ Some u → c0.used u < room u
  room_of_call None n c0 h u e = absurd (none_some u e)
  room_of_call (Some s) n c0 h u e = room_of_temp u c0 (subst (λ s. Within (with_temp s c0).used room) (some_is s u e) h)

  room_of_library : (o : Option Shape) (c0 : Counts) → Within (with_result o c0).used room → (u : Shape) → o ≡ Some u → c0.used u < room u
  room_of_library None c0 h u e = absurd (none_some u e)
  room_of_library (Some s) c0 h u e = room_of_temp u c0 (subst (λ s. Within (with_temp s c0).used room) (some_is s u e) h)

  before_call : (o : Option Shape) (n : ℕ) (c0 : Counts) → Within (with_result o (decided n c0)).used room → Within c0.used room
  before_call None n c0 h = h
  before_call (Some s) n c0 h = room_before s c0 h

  before_library : (o : Option Shape) (c0 : Counts) → Within (with_result o c0).used room → Within c0.used room
  before_library None c0 h = h
  before_library (Some s) c0 h = room_before s c0 h

  -- ---- temporaries
  pub temp_at : (u s : Shape) (c0 : Counts) → u ≡ s → IsTemp p u → Within (with_temp u c0).used room → slice_get (word_shapes f) (temp w u c0) ≡ Some s
  temp_at u s c0 e t h = known.temps u (c0.used u) t (room_of_temp u c0 h) ∙ ap (λ s. Some s) e

  temp_fits : (u s : Shape) (c0 : Counts) → u ≡ s → IsTemp p u → Within (with_temp u c0).used room → SimpleFits W s (simple.Local (temp w u c0))
  temp_fits u s c0 e t h = local_may W (temp w u c0) s (temp_at u s c0 e t h)

  held_fits : (o : Option Shape) (s : Shape) (c0 : Counts) → o ≡ Some s → IfSome o (IsTemp p) → ((u : Shape) → o ≡ Some u → c0.used u < room u) → SimpleFits W s (held (temp_if w o c0))
  held_fits None s c0 e t h = absurd (none_some s e)
  held_fits (Some u) s c0 e t h = local_may W (temp w u c0) s (known.temps u (c0.used u) t (h u refl) ∙ e)

  -- a result is taken where there is one
  result_fits : (o due : Option Shape) (c0 : Counts) → due ≡ o → IfSome o (IsTemp p) → ((u : Shape) → o ≡ Some u → c0.used u < room u) → TakesResult W due (temp_if w o c0)
  result_fits None due c0 e t h = tt
  result_fits (Some u) due c0 e t h = (u, e, (u, known.temps u (c0.used u) t (h u refl), may_refl u))

  -- ---- values
  pub value_fits : (e : Tree) (s : Shape) (c0 : Counts) → HasShape p r e s → IsTrue (tree_words e) → Within (counted p r c0 e).used room → SimpleFits (word_shapes f) s (value_of p r w c0 e)
  value_fits (number_at at n) s c0 h k in_room = subst (λ s. WordFits s n) (sym h) (ltb-true n (2 ^ 32) k)
  value_fits (truth_at at b) s c0 h k in_room = subst (λ s. WordFits s (truth_word b)) (sym h) (truth_less b)
  value_fits (null_at at) s c0 h k in_room = subst (λ s. WordFits s 0) (sym h) refl
  value_fits (local_at at i) s c0 h k in_room = local_may W i s (known.locals i s h)
  value_fits (result_at at) s c0 h k in_room = absurd (none_some s (sym known.outcome ∙ h))
  value_fits (unary_at at o a) s c0 h k in_room = let e : Tree = unary_at at o a in temp_fits (unary_shape o) s (counted p r c0 a) (shape_is p r e s h) (is_temp e s h) in_room
  value_fits (binary_at at o a b) s c0 h k in_room = let e : Tree = binary_at at o a b in temp_fits (gives o) s (counted p r (counted p r c0 a) b) (shape_is p r e s h) (is_temp e s h) in_room
  value_fits (both_at at a b) s c0 h k in_room = temp_fits Truth s (counted p r (decided 1 (counted p r c0 a)) b) (sym h.0) tt in_room
  value_fits (either_at at a b) s c0 h k in_room = temp_fits Truth s (counted p r (decided 1 (counted p r c0 a)) b) (sym h.0) tt in_room
  value_fits (choose_at at x a b) s c0 h k in_room =
      let e : Tree = choose_at at x a b in
      temp_fits (chosen_shape p r a b) s (counted p r (counted p r (decided 1 (counted p r c0 x)) a) b) (shape_is p r e s h) (is_temp e s h) in_room
  value_fits (read_at at a i field) s c0 h k in_room = let e : Tree = read_at at a i field in temp_fits (read_shape p i field) s (counted p r c0 a) (shape_is p r e s h) (is_temp e s h) in_room
  value_fits (call_at at g es) s c0 h k in_room =
      let o : Option Shape = result_of (slice_get p.functions g) in
      let c1 : Counts = args_counted p r c0 es in
      held_fits o s c1 (ap result_of h.1 ∙ h.3) (result_temp p known.structs known.functions g) (room_of_call o (call_choices (slice_get p.functions g)) c1 in_room)
  value_fits (library_at at l es t) s c0 h k in_room =
      let c1 : Counts = first_counted p r c0 es in
      held_fits (library_gives l) s c1 h.0 (library_temp p l) (room_of_library (library_gives l) c1 in_room)
  value_fits (alloc_at at i) s c0 h k in_room = let e : Tree = alloc_at at i in temp_fits (Pointer i) s c0 (shape_is p r e s h) (is_temp e s h) in_room

  -- a value that stands where a shape is due
  pub given_fits : (e : Tree) (d u : Shape) (c0 : Counts) → HasShape p r e u → suits d u ≡ true → IsTrue (tree_words e) → Within (counted p r c0 e).used room → SimpleFits (word_shapes f) d (value_of p r w c0 e)
  given_fits e d u c0 h m k in_room = simple_may W (value_of p r w c0 e) u d (may_suit d u m) (value_fits e u c0 h k in_room)

  -- ---- arguments
  held_local : (o : Option Shape) (c0 : Counts) (s d : Shape) → o ≡ Some s → SimpleFits W d (held (temp_if w o c0)) → SimpleFits W d (simple.Local (local_in (held (temp_if w o c0))))
  held_local None c0 s d e h = absurd (none_some s e)
  held_local (Some u) c0 s d e h = h

  local_value : (e : Tree) (s d : Shape) (c0 : Counts) → HasShape p r e s → is_constant e ≡ false → SimpleFits W d (value_of p r w c0 e) → SimpleFits W d (simple.Local (local_in (value_of p r w c0 e)))
  local_value (number_at at n) s d c0 has other h = absurd (let g : true ≡ false = other in cc)
  local_value (truth_at at b) s d c0 has other h = absurd (let g : true ≡ false = other in cc)
  local_value (null_at at) s d c0 has other h = absurd (let g : true ≡ false = other in cc)
  local_value (local_at at i) s d c0 has other h = h
  local_value (result_at at) s d c0 has other h = absurd (let g : true ≡ false = other in cc)
  local_value (unary_at at o a) s d c0 has other h = h
  local_value (binary_at at o a b) s d c0 has other h = h
  local_value (both_at at a b) s d c0 has other h = h
  local_value (either_at at a b) s d c0 has other h = h
  local_value (choose_at at x a b) s d c0 has other h = h
  local_value (read_at at a i field) s d c0 has other h = h
  local_value (call_at at g es) s d c0 has other h = held_local (result_of (slice_get p.functions g)) (args_counted p r c0 es) s d (ap result_of has.1 ∙ has.3) h
  local_value (library_at at l es t) s d c0 has other h = held_local (library_gives l) (first_counted p r c0 es) s d has.0 h
  local_value (alloc_at at i) s d c0 has other h = h

  -- a constant has a temporary of its own
  constant_there : (b : Bool) (u s : Shape) (c0 : Counts) → u ≡ s → IsTemp p u → Within (with_constant b u c0).used room → b ≡ true → slice_get W (temp w u c0) ≡ Some s
  constant_there true u s c0 e t h same = temp_at u s c0 e t h
  constant_there false u s c0 e t h same = absurd (let g : false ≡ true = same in cc)

  argument_fits : (b : Bool) (to : ℕ) (v : Simple) (d u : Shape) → may_hold d u ≡ true → (b ≡ true → slice_get W to ≡ Some u) → (b ≡ false → SimpleFits W d (simple.Local (local_in v))) → SimpleFits W d (simple.Local (argument b to v))
  argument_fits true to v d u m there kept = (u, there refl, m)
  argument_fits false to v d u m there kept = kept refl

  put_fits : (b : Bool) (to : ℕ) (v : Simple) (u : Shape) → (b ≡ true → slice_get W to ≡ Some u) → SimpleFits W u v → CodeFits c f (argument_code b to v)
  put_fits true to v u there h = ((u, there refl, h), tt)
  put_fits false to v u there h = tt

  pub arguments_fit : (es : Trees) (due : List Shape) (c0 : Counts) → AreGiven p r due es → IsTrue (trees_words es) → Within (args_counted p r c0 es).used room → ArgumentsFit (word_shapes f) due (arguments p r w c0 es)
  arguments_fit no_trees [] c0 given k in_room = tt
  arguments_fit no_trees (d ∷ due) c0 given k in_room = absurd given
  arguments_fit (tree_and e es) [] c0 given k in_room = absurd given
  arguments_fit (tree_and e es) (d ∷ due) c0 given k in_room =
      let u : Shape = given.0.0 in
      let has : HasShape p r e u = given.0.1 in
      let c1 : Counts = counted p r c0 e in
      let shape : Shape = tree_shape p r e in
      let b : Bool = is_constant e in
      let c2 : Counts = with_constant b shape c1 in
      let in2 : InRoom c2 = within_trans c2.used (args_counted p r c2 es).used room (args_grow p r c2 es) in_room in
      let in1 : InRoom c1 = within_trans c1.used c2.used room (constant_grows b shape c1) in2 in
      let k0 : IsTrue (tree_words e) = and_left (tree_words e) (trees_words es) k in (
        argument_fits b (temp w shape c1) (value_of p r w c0 e) d u (may_suit d u given.0.2) (constant_there b shape u c1 (shape_is p r e u has) (is_temp e u has) in2)
            (λ other. local_value e u d c0 has other (given_fits e d u c0 has given.0.2 k0 in1)),
        arguments_fit es due c2 given.1 (and_right (tree_words e) (trees_words es) k) in_room,
      )

  pub argument_given : (l : LibraryCall) (es : Trees) (c0 : Counts) → AreGiven p r (library_params l) es → IsTrue (trees_words es) → Within (first_counted p r c0 es).used room → ArgumentFits (word_shapes f) (library_params l) (first_value p r w c0 es)
  argument_given library.PrintInt (tree_and e no_trees) c0 h k in_room = given_fits e Int h.0.0 c0 h.0.1 h.0.2 (and_left (tree_words e) (trees_words no_trees) k) in_room
  argument_given library.PrintBool (tree_and e no_trees) c0 h k in_room = given_fits e Truth h.0.0 c0 h.0.1 h.0.2 (and_left (tree_words e) (trees_words no_trees) k) in_room
  argument_given library.PrintInt no_trees c0 h k in_room = absurd h
  argument_given library.PrintBool no_trees c0 h k in_room = absurd h
  argument_given library.PrintInt (tree_and e (tree_and d ds)) c0 h k in_room = absurd h.1
  argument_given library.PrintBool (tree_and e (tree_and d ds)) c0 h k in_room = absurd h.1
  argument_given library.Print no_trees c0 h k in_room = tt
  argument_given library.PrintLine no_trees c0 h k in_room = tt
  argument_given library.ReadInt no_trees c0 h k in_room = tt
  argument_given library.MoreInt no_trees c0 h k in_room = tt
  argument_given library.Print (tree_and e es) c0 h k in_room = absurd h
  argument_given library.PrintLine (tree_and e es) c0 h k in_room = absurd h
  argument_given library.ReadInt (tree_and e es) c0 h k in_room = absurd h
  argument_given library.MoreInt (tree_and e es) c0 h k in_room = absurd h

  -- ---- fields and callees of the core
  pub field_there : (i field : ℕ) (s : Shape) → field_shape p i field ≡ Some s → field_shape (around c) i field ≡ Some s
  field_there i field s h = subst (λ (ss : List Struct). option_and_then (λ (s : Struct). slice_get (shapes_in s.fields) field) (slice_get ss i) ≡ Some s) (sym known.same_structs) h

  new_there : (i : ℕ) → is_some (slice_get p.structs i) ≡ true → is_some (slice_get c.structs i) ≡ true
  new_there i h = subst (λ (ss : List Struct). is_some (slice_get ss i) ≡ true) (sym known.same_structs) h

  -- the call itself
  call_fits : (at : Place) (g : ℕ) (es : Trees) (c0 : Counts) (h : Function) → slice_get p.functions g ≡ Some h → AreGiven p r (params_in h) es → IsTrue (trees_words es) → Within (counted p r c0 (call_at at g es)).used room →
      CoreStmtFits c f (do_call (temp_if w (result_of (slice_get p.functions g)) (args_counted p r c0 es)) g (arguments p r w c0 es) (w.at kind.Requires at))
  call_fits at g es c0 h there given k in_room =
      let o : Option Shape = result_of (slice_get p.functions g) in
      let n : ℕ = call_choices (slice_get p.functions g) in
      let c1 : Counts = args_counted p r c0 es in
      let callee : Stands c g h = known.callees g h there in (
        callee.function,
        callee.there,
        subst (λ due. ArgumentsFit W due (arguments p r w c0 es)) (sym callee.params) (arguments_fit es (params_in h) c0 given k (before_call o n c1 in_room)),
        result_fits o callee.function.result c1 (callee.result ∙ sym (ap result_of there)) (result_temp p known.structs known.functions g) (room_of_call o n c1 in_room),
      )

  -- a call behind its arguments
  call_by : (at : Place) (g : ℕ) (es : Trees) (c0 : Counts) (h : Function) → slice_get p.functions g ≡ Some h → AreGiven p r (params_in h) es → IsTrue (trees_words es) → Within (counted p r c0 (call_at at g es)).used room →
      CodeFits c f (args_code p r w c0 es) → CodeFits c f (tree_code p r w c0 (call_at at g es))
  call_by at g es c0 h there given k in_room before =
      let o : Option Shape = result_of (slice_get p.functions g) in
      let c1 : Counts = args_counted p r c0 es in
      let own : Code = code_and do_step (one (do_call (temp_if w o c1) g (arguments p r w c0 es) (w.at kind.Requires at))) in
      join_fits c f (args_code p r w c0 es) own before (tt, (call_fits at g es c0 h there given k in_room, tt))

  -- a library call behind its argument
  library_by : (at : Place) (l : LibraryCall) (es : Trees) (t : Option ℕ) (c0 : Counts) → AreGiven p r (library_params l) es → is_some t ≡ takes_text l → IsTrue (trees_words es) → Within (counted p r c0 (library_at at l es t)).used room →
      CodeFits c f (first_code p r w c0 es) → CodeFits c f (tree_code p r w c0 (library_at at l es t))
  library_by at l es t c0 given text k in_room before =
      let o : Option Shape = library_gives l in
      let c1 : Counts = first_counted p r c0 es in
      let in1 : InRoom c1 = before_library o c1 in_room in
      let own : Code = code_and do_step (one (do_library (temp_if w o c1) l (first_value p r w c0 es) t (site_if (reads_input l) (w.at kind.Trap at)))) in
      join_fits c f (first_code p r w c0 es) own before (tt, ((argument_given l es c0 given k in1, result_fits o o c1 refl (library_temp p l) (room_of_library o c1 in_room), text), tt))

  -- ---- code
  mutual
    pub tree_fits : (e : Tree) (s : Shape) (c0 : Counts) → HasShape p r e s → IsTrue (tree_words e) → Within (counted p r c0 e).used room → CodeFits c f (tree_code p r w c0 e)
    tree_fits (number_at at n) s c0 h k in_room = tt
    tree_fits (truth_at at b) s c0 h k in_room = tt
    tree_fits (null_at at) s c0 h k in_room = tt
    tree_fits (local_at at i) s c0 h k in_room = tt
    tree_fits (result_at at) s c0 h k in_room = tt
    tree_fits (unary_at at o a) s c0 h k in_room =
        let u : Shape = unary_shape o in
        let c1 : Counts = counted p r c0 a in
        let in1 : InRoom c1 = room_before u c1 in_room in
        join_fits c f (tree_code p r w c0 a) (one (do_unary (temp w u c1) o (value_of p r w c0 a))) (tree_fits a u c0 h.1 k in1)
        (((u, temp_at u u c1 refl (is_temp (unary_at at o a) s h) in_room, may_refl u), value_fits a u c0 h.1 k in1), tt)
    tree_fits (binary_at at o a b) s c0 h k in_room =
        let c1 : Counts = counted p r c0 a in
        let c2 : Counts = counted p r c1 b in
        let to : ℕ = temp w (gives o) c2 in
        let va : Simple = value_of p r w c0 a in
        let vb : Simple = value_of p r w c1 b in
        let in2 : InRoom c2 = room_before (gives o) c2 in_room in
        let in1 : InRoom c1 = within_trans c1.used c2.used room (counted_grows p r c1 b) in2 in
        let ka : IsTrue (tree_words a) = and_left (tree_words a) (tree_words b) k in
        let kb : IsTrue (tree_words b) = and_right (tree_words a) (tree_words b) k in
        let own : Code = operator_code to o (w.at kind.Trap at) va vb in
        join_fits c f (tree_code p r w c0 a) (join (tree_code p r w c1 b) own) (tree_fits a h.1 c0 h.3 ka in1)
        (join_fits c f (tree_code p r w c1 b) own (tree_fits b h.2 c1 h.4 kb in2)
        (operator_fits c f to (w.at kind.Trap at) va vb h.1 h.2 (value_fits a h.1 c0 h.3 ka in1) (value_fits b h.2 c1 h.4 kb in2) o h.5 (temp_at (gives o) (gives o) c2 refl (is_temp (binary_at at o a b) s h) in_room)))
    tree_fits (both_at at a b) s c0 h k in_room =
        let c1 : Counts = counted p r c0 a in
        let d1 : Counts = decided 1 c1 in
        let c2 : Counts = counted p r d1 b in
        let to : ℕ = temp w Truth c2 in
        let va : Simple = value_of p r w c0 a in
        let vb : Simple = value_of p r w d1 b in
        let in2 : InRoom c2 = room_before Truth c2 in_room in
        let in1 : InRoom c1 = within_trans c1.used c2.used room (counted_grows p r d1 b) in2 in
        let ka : IsTrue (tree_words a) = and_left (tree_words a) (tree_words b) k in
        let kb : IsTrue (tree_words b) = and_right (tree_words a) (tree_words b) k in
        let there : slice_get W to ≡ Some Truth = temp_at Truth Truth c2 refl tt in_room in
        let these : Code = join (tree_code p r w d1 b) (one (do_set to vb)) in
        let those : Code = one (do_set to (constant 0)) in
        let these_fit : CodeFits c f these = join_fits c f (tree_code p r w d1 b) (one (do_set to vb)) (tree_fits b Truth d1 h.2 kb in2) ((Truth, there, value_fits b Truth d1 h.2 kb in2), tt) in
        let zero_fits : WordFits Truth 0 = omega arith in
        join_fits c f (tree_code p r w c0 a) (one (do_if (decision w c1) va these those)) (tree_fits a Truth c0 h.1 ka in1)
        ((value_fits a Truth c0 h.1 ka in1, these_fit, ((Truth, there, zero_fits), tt)), tt)
    tree_fits (either_at at a b) s c0 h k in_room =
        let c1 : Counts = counted p r c0 a in
        let d1 : Counts = decided 1 c1 in
        let c2 : Counts = counted p r d1 b in
        let to : ℕ = temp w Truth c2 in
        let va : Simple = value_of p r w c0 a in
        let vb : Simple = value_of p r w d1 b in
        let in2 : InRoom c2 = room_before Truth c2 in_room in
        let in1 : InRoom c1 = within_trans c1.used c2.used room (counted_grows p r d1 b) in2 in
        let ka : IsTrue (tree_words a) = and_left (tree_words a) (tree_words b) k in
        let kb : IsTrue (tree_words b) = and_right (tree_words a) (tree_words b) k in
        let there : slice_get W to ≡ Some Truth = temp_at Truth Truth c2 refl tt in_room in
        let these : Code = one (do_set to va) in
        let those : Code = join (tree_code p r w d1 b) (one (do_set to vb)) in
        let those_fit : CodeFits c f those = join_fits c f (tree_code p r w d1 b) (one (do_set to vb)) (tree_fits b Truth d1 h.2 kb in2) ((Truth, there, value_fits b Truth d1 h.2 kb in2), tt) in
        let fits_a : SimpleFits W Truth va = value_fits a Truth c0 h.1 ka in1 in
        join_fits c f (tree_code p r w c0 a) (one (do_if (decision w c1) va these those)) (tree_fits a Truth c0 h.1 ka in1)
        ((fits_a, ((Truth, there, fits_a), tt), those_fit), tt)
    tree_fits (choose_at at x a b) s c0 h k in_room =
        let c1 : Counts = counted p r c0 x in
        let d1 : Counts = decided 1 c1 in
        let c2 : Counts = counted p r d1 a in
        let c3 : Counts = counted p r c2 b in
        let shape : Shape = chosen_shape p r a b in
        let to : ℕ = temp w shape c3 in
        let v : Simple = value_of p r w c0 x in
        let va : Simple = value_of p r w d1 a in
        let vb : Simple = value_of p r w c2 b in
        let in3 : InRoom c3 = room_before shape c3 in_room in
        let in2 : InRoom c2 = within_trans c2.used c3.used room (counted_grows p r c2 b) in3 in
        let in1 : InRoom c1 = within_trans c1.used c2.used room (counted_grows p r d1 a) in2 in
        let kx : IsTrue (tree_words x) = and_left (tree_words x) (tree_words a && tree_words b) k in
        let k1 : IsTrue (tree_words a && tree_words b) = and_right (tree_words x) (tree_words a && tree_words b) k in
        let ka : IsTrue (tree_words a) = and_left (tree_words a) (tree_words b) k1 in
        let kb : IsTrue (tree_words b) = and_right (tree_words a) (tree_words b) k1 in
        let e : Tree = choose_at at x a b in
        let there : slice_get W to ≡ Some s = temp_at shape s c3 (shape_is p r e s h) (is_temp e s h) in_room in
        let m = common_holds h.1 h.2 s h.5 in
        let these : Code = join (tree_code p r w d1 a) (one (do_set to va)) in
        let those : Code = join (tree_code p r w c2 b) (one (do_set to vb)) in
        let these_fit : CodeFits c f these = join_fits c f (tree_code p r w d1 a) (one (do_set to va)) (tree_fits a h.1 d1 h.3 ka in2) ((s, there, simple_may W va h.1 s m.0 (value_fits a h.1 d1 h.3 ka in2)), tt) in
        let those_fit : CodeFits c f those = join_fits c f (tree_code p r w c2 b) (one (do_set to vb)) (tree_fits b h.2 c2 h.4 kb in3) ((s, there, simple_may W vb h.2 s m.1 (value_fits b h.2 c2 h.4 kb in3)), tt) in
        join_fits c f (tree_code p r w c0 x) (one (do_if (decision w c1) v these those)) (tree_fits x Truth c0 h.0 kx in1)
        ((value_fits x Truth c0 h.0 kx in1, these_fit, those_fit), tt)
    tree_fits (read_at at a i field) s c0 h k in_room =
        let c1 : Counts = counted p r c0 a in
        let shape : Shape = read_shape p i field in
        let in1 : InRoom c1 = room_before shape c1 in_room in
        let e : Tree = read_at at a i field in
        join_fits c f (tree_code p r w c0 a) (one (do_load (temp w shape c1) (value_of p r w c0 a) i field (w.at kind.Access at))) (tree_fits a (Pointer i) c0 h.0 k in1)
        ((value_fits a (Pointer i) c0 h.0 k in1, s, field_there i field s h.1, (s, temp_at shape s c1 (shape_is p r e s h) (is_temp e s h) in_room, may_refl s)), tt)
    tree_fits (call_at at g es) s c0 h k in_room =
        call_by at g es c0 h.0 h.1 h.2 k in_room (args_fit es (params_in h.0) c0 h.2 k (before_call (result_of (slice_get p.functions g)) (call_choices (slice_get p.functions g)) (args_counted p r c0 es) in_room))
    tree_fits (library_at at l es t) s c0 h k in_room =
        library_by at l es t c0 h.1 h.2 k in_room (first_fits es c0 (library_first p r l es h.1) k (before_library (library_gives l) (first_counted p r c0 es) in_room))
    tree_fits (alloc_at at i) s c0 h k in_room = (tt, ((((Pointer i), temp_at (Pointer i) (Pointer i) c0 refl h.1 in_room, may_refl (Pointer i)), new_there i h.1), tt))

    args_fit : (es : Trees) (due : List Shape) (c0 : Counts) → AreGiven p r due es → IsTrue (trees_words es) → Within (args_counted p r c0 es).used room → CodeFits c f (args_code p r w c0 es)
    args_fit no_trees due c0 given k in_room = tt
    args_fit (tree_and e es) [] c0 given k in_room = absurd given
    args_fit (tree_and e es) (d ∷ due) c0 given k in_room =
        let u : Shape = given.0.0 in
        let has : HasShape p r e u = given.0.1 in
        let c1 : Counts = counted p r c0 e in
        let shape : Shape = tree_shape p r e in
        let b : Bool = is_constant e in
        let c2 : Counts = with_constant b shape c1 in
        let v : Simple = value_of p r w c0 e in
        let in2 : InRoom c2 = within_trans c2.used (args_counted p r c2 es).used room (args_grow p r c2 es) in_room in
        let in1 : InRoom c1 = within_trans c1.used c2.used room (constant_grows b shape c1) in2 in
        let ke : IsTrue (tree_words e) = and_left (tree_words e) (trees_words es) k in
        let put : Code = argument_code b (temp w shape c1) v in
        let rest : Code = args_code p r w c2 es in
        join_fits c f (tree_code p r w c0 e) (join put rest) (tree_fits e u c0 has ke in1)
        (join_fits c f put rest (put_fits b (temp w shape c1) v u (constant_there b shape u c1 (shape_is p r e u has) (is_temp e u has) in2) (value_fits e u c0 has ke in1))
        (args_fit es due c2 given.1 (and_right (tree_words e) (trees_words es) k) in_room))

    pub first_fits : (es : Trees) (c0 : Counts) → IsFirst p r es → IsTrue (trees_words es) → Within (first_counted p r c0 es).used room → CodeFits c f (first_code p r w c0 es)
    first_fits no_trees c0 is_first k in_room = tt
    first_fits (tree_and e no_trees) c0 is_first k in_room = tree_fits e is_first.0 c0 is_first.1 (and_left (tree_words e) (trees_words no_trees) k) in_room
    first_fits (tree_and e (tree_and d ds)) c0 is_first k in_room = absurd is_first

  -- a call, also of a function without a result
  pub called_fits : (at : Place) (g : ℕ) (es : Trees) (c0 : Counts) (h : Function) → slice_get p.functions g ≡ Some h → AreGiven p r (params_in h) es → IsTrue (trees_words es) → Within (counted p r c0 (call_at at g es)).used room → CodeFits c f (tree_code p r w c0 (call_at at g es))
  called_fits at g es c0 h there given k in_room =
      call_by at g es c0 h there given k in_room (args_fit es (params_in h) c0 given k (before_call (result_of (slice_get p.functions g)) (call_choices (slice_get p.functions g)) (args_counted p r c0 es) in_room))

  pub asked_fits : (at : Place) (l : LibraryCall) (es : Trees) (t : Option ℕ) (c0 : Counts) → AreGiven p r (library_params l) es → is_some t ≡ takes_text l → IsTrue (trees_words es) → Within (counted p r c0 (library_at at l es t)).used room → CodeFits c f (tree_code p r w c0 (library_at at l es t))
  asked_fits at l es t c0 given text k in_room =
      library_by at l es t c0 given text k in_room (first_fits es c0 (library_first p r l es given) k (before_library (library_gives l) (first_counted p r c0 es) in_room))
