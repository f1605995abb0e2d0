-- Each read of a precise clause or invariant of a lowered core has its permission, as in the program.
use Rattle.std.proofs.Common.{◌≡◌, ◌+◌, ℕ, suc, Bool, List, [], ◌∷◌, ◌++◌, flat_map, Option, Some, None, refl}
use Rattle.gc0_base.specs.declared.place.Place.{Place}
use Rattle.gc0_tree.specs.declared.Shape.{Shape}
use Rattle.gc0_tree.specs.Tree.{Tree, Formula, Stmt, declare_at, assign_at, write_at, plain_at, block_at, if_at, while_at, for_at, return_at, assert_at, raise_at, note_at, Stmts, no_stmts, stmt_and, Function, Program}
use Rattle.gc0_tree.specs.Fits.{Room}
use Rattle.c0_meaning.specs.Framing as source
use Rattle.c0_meaning.specs.Framing.{formula_unframed, predicate_unframed, function_unframed, IsFramed, IsGuarded, predicates_unguarded}
use Rattle.core_tree.specs.CoreTree.{Code, no_code, code_and}
use Rattle.core_meaning.specs.Stepped.{stmt_unframed, code_unframed, core_function_unframed, core_unframed}
use Rattle.lowering_laws.specs.Counts.{Counts, fresh, counted}
use Rattle.lowering_laws.specs.Trees.{Target, join, tree_code, first_code}
use Rattle.lowering_laws.specs.Statements.{room_of, headed, stmt_next, stmts_next, declare_code, assign_code, write_code, loop_code, stmt_code, stmts_code}
use Rattle.lowering_laws.specs.Lowering.{Beside, target, close_code, start_choices, body_code, lowered_from}
use Rattle.lowering_laws.specs.Tables.{core_of}
use Rattle.lowering_laws.proofs.Flat.{no_places, Anything, no_invariant, tree_flat, first_flat, declare_flat, assign_flat, write_flat}

-- ---- lists without a place
some_place : (x : Place) (xs : List Place) → x ∷ xs ≡ [] → ⊥
some_place x xs e = cc

none_left : (xs ys : List Place) → xs ++ ys ≡ [] → xs ≡ []
none_left [] ys h = refl
none_left (x ∷ xs) ys h = absurd (some_place x (xs ++ ys) h)

none_right : (xs ys : List Place) → xs ++ ys ≡ [] → ys ≡ []
none_right [] ys h = h
none_right (x ∷ xs) ys h = absurd (some_place x (xs ++ ys) h)

-- ---- code
abbrev Framed : Code → Type 0
Framed c = code_unframed c ≡ []

join_framed : (c d : Code) → Framed c → Framed d → Framed (join c d)
join_framed no_code d h k = k
join_framed (code_and s c) d h k =
    no_places (stmt_unframed s) (code_unframed (join c d)) (none_left (stmt_unframed s) (code_unframed c) h) (join_framed c d (none_right (stmt_unframed s) (code_unframed c) h) k)

-- one statement with two parts
two_parts : (xs ys : List Place) → xs ≡ [] → ys ≡ [] → (xs ++ ys) ++ [] ≡ []
two_parts xs ys h k = no_places (xs ++ ys) [] (no_places xs ys h k) refl

module _ (p : Program) (w : Target) where
  module _ (r : Room) where
    tree_framed : (c : Counts) (e : Tree) → Framed (tree_code p r w c e)
    tree_framed c e = no_invariant Anything (tree_code p r w c e) (tree_flat Anything p w (λ s k. tt) r c e)

    loop_framed : (n : ℕ) (place : Place) (inv : Formula) (e : Tree) (body : Code) → formula_unframed inv ≡ [] → Framed body → Framed (loop_code p r w n place inv e body)
    loop_framed n place inv e body h k =
        let test : List Place = code_unframed (tree_code p r w (fresh (headed n inv)) e) in
        two_parts (formula_unframed inv) (test ++ code_unframed body) h (no_places test (code_unframed body) (tree_framed (fresh (headed n inv)) e) k)

  module _ (f : Function) where
    mutual
      stmt_framed : (n : ℕ) (s : Stmt) → source.stmt_unframed s ≡ [] → Framed (stmt_code p f w n s)
      stmt_framed n (declare_at at i es) h = no_invariant Anything (declare_code p (room_of f) w (fresh n) i es) (declare_flat Anything p w (λ s k. tt) (room_of f) (fresh n) i es tt)
      stmt_framed n (assign_at at i o op_at e) h =
          no_invariant Anything (assign_code p (room_of f) w (fresh n) i o op_at e) (assign_flat Anything p w (λ s k. tt) (room_of f) (fresh n) i o op_at e tt)
      stmt_framed n (write_at at base k field arrow o op_at e) h =
          no_invariant Anything (write_code p (room_of f) w (fresh n) base k field arrow o op_at e) (write_flat Anything p w (λ s k. tt) (room_of f) (fresh n) base k field arrow o op_at e)
      stmt_framed n (plain_at at e) h = tree_framed (room_of f) (fresh n) e
      stmt_framed n (block_at at ss) h = stmts_framed n ss h
      stmt_framed n (if_at at e x ss) h =
          let n1 : ℕ = (counted p (room_of f) (fresh n) e).next + 1 in
          join_framed (tree_code p (room_of f) w (fresh n) e) _ (tree_framed (room_of f) (fresh n) e)
          (two_parts _ _ (stmt_framed n1 x (none_left (source.stmt_unframed x) (source.stmts_unframed ss) h)) (stmts_framed (stmt_next p f n1 x) ss (none_right (source.stmt_unframed x) (source.stmts_unframed ss) h)))
      stmt_framed n (while_at at inv e x) h =
          let n1 : ℕ = (counted p (room_of f) (fresh (headed n inv)) e).next + 1 in
          loop_framed (room_of f) n at inv e (stmt_code p f w n1 x) (none_left (formula_unframed inv) (source.stmt_unframed x) h) (stmt_framed n1 x (none_right (formula_unframed inv) (source.stmt_unframed x) h))
      stmt_framed n (for_at at first e last inv x) h =
          let n1 : ℕ = stmts_next p f n first in
          let n2 : ℕ = (counted p (room_of f) (fresh (headed n1 inv)) e).next + 1 in
          let more : Code = stmts_code p f w (stmt_next p f n2 x) last in
          let rest : List Place = formula_unframed inv ++ source.stmt_unframed x in
          let k : source.stmts_unframed last ++ rest ≡ [] = none_right (source.stmts_unframed first) (source.stmts_unframed last ++ rest) h in
          let l : rest ≡ [] = none_right (source.stmts_unframed last) rest k in
          join_framed (stmts_code p f w n first) _ (stmts_framed n first (none_left (source.stmts_unframed first) (source.stmts_unframed last ++ rest) h))
          (loop_framed (room_of f) n1 at inv e (join (stmt_code p f w n2 x) more) (none_left (formula_unframed inv) (source.stmt_unframed x) l)
          (join_framed (stmt_code p f w n2 x) more (stmt_framed n2 x (none_right (formula_unframed inv) (source.stmt_unframed x) l)) (stmts_framed (stmt_next p f n2 x) last (none_left (source.stmts_unframed last) rest k))))
      stmt_framed n (return_at at es) h =
          join_framed (first_code p (room_of f) w (fresh n) es) _ (no_invariant Anything (first_code p (room_of f) w (fresh n) es) (first_flat Anything p w (λ s k. tt) (room_of f) (fresh n) es)) refl
      stmt_framed n (assert_at at e) h = join_framed (tree_code p (room_of f) w (fresh n) e) _ (tree_framed (room_of f) (fresh n) e) refl
      stmt_framed n (raise_at at t) h = refl
      stmt_framed n (note_at at k formula) h = refl

      stmts_framed : (n : ℕ) (ss : Stmts) → source.stmts_unframed ss ≡ [] → Framed (stmts_code p f w n ss)
      stmts_framed n no_stmts h = refl
      stmts_framed n (stmt_and s ss) h =
          join_framed (stmt_code p f w n s) (stmts_code p f w (stmt_next p f n s) ss)
          (stmt_framed n s (none_left (source.stmt_unframed s) (source.stmts_unframed ss) h)) (stmts_framed (stmt_next p f n s) ss (none_right (source.stmt_unframed s) (source.stmts_unframed ss) h))

close_framed : (w : Target) (f : Function) (o : Option Shape) → Framed (close_code w f o)
close_framed w f None = refl
close_framed w f (Some s) = refl

body_framed : (p : Program) (g : ℕ) (f : Function) → source.stmts_unframed f.body ≡ [] → Framed (body_code p g f)
body_framed p g f h =
    join_framed (stmts_code p f (target p g f) (start_choices p g f) f.body) (close_code (target p g f) f f.result)
    (stmts_framed p (target p g f) f (start_choices p g f) f.body h) (close_framed (target p g f) f f.result)

-- ---- programs
functions_framed : (b : Beside) (p : Program) (g : ℕ) (fs : List Function) → flat_map function_unframed fs ≡ [] → flat_map core_function_unframed (lowered_from b p g fs) ≡ []
functions_framed b p g [] h = refl
functions_framed b p g (f ∷ fs) h =
    let before : List Place = formula_unframed f.before in
    let after : List Place = formula_unframed f.after in
    let body : List Place = source.stmts_unframed f.body in
    let one : before ++ (after ++ body) ≡ [] = none_left (function_unframed f) (flat_map function_unframed fs) h in
    let two : after ++ body ≡ [] = none_right before (after ++ body) one in
    let code : List Place = code_unframed (body_code p g f) in
    no_places (before ++ (after ++ code)) (flat_map core_function_unframed (lowered_from b p (suc g) fs))
    (no_places before (after ++ code) (none_left before (after ++ body) one) (no_places after code (none_left after body two) (body_framed p g f (none_right after body two))))
    (functions_framed b p (suc g) fs (none_right (function_unframed f) (flat_map function_unframed fs) h))

pub framed : (plain : ℕ → Bool) (paths : ℕ → ℕ) (p : Program) → IsFramed p → core_unframed (core_of plain paths p) ≡ []
framed plain paths p h =
    let predicates : List Place = flat_map predicate_unframed p.predicates in
    let functions : List Place = flat_map function_unframed p.functions in
    no_places predicates _ (none_left predicates functions h) (functions_framed _ p 0 p.functions (none_right predicates functions h))

-- the predicates are those of the program
pub guarded : (plain : ℕ → Bool) (paths : ℕ → ℕ) (p : Program) → IsGuarded p → predicates_unguarded 0 (core_of plain paths p).predicates ≡ []
guarded plain paths p h = h
