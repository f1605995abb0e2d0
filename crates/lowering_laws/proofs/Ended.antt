-- The ends of a lowered core's bodies, the tests of its loops, and its `main`.
use Rattle.std.proofs.Common.{◌≡◌, ◌+◌, ℕ, Bool, true, false, not, ◌&&◌, Option, Some, None, is_some, IsTrue, slice_get, inl, inr, refl, ap}
use Rattle.std.proofs.lemmas.Bool.{and_parts, and_from, or_cases, or_left, or_right}
use Rattle.gc0_base.specs.declared.place.Place.{Place}
use Rattle.gc0_tree.specs.declared.Shape.{Shape}
use Rattle.gc0_tree.specs.Tree.{Tree, Formula, Stmt, declare_at, assign_at, write_at, plain_at, block_at, if_at, while_at, for_at, return_at, assert_at, raise_at, note_at, Stmts, no_stmts, stmt_and, Function, Program}
use Rattle.gc0_tree.specs.Fits.{Fits, Room}
use Rattle.core_tree.specs.CoreTree.{Code, no_code, code_and, CoreFunction, Core}
use Rattle.core_meaning.specs.Stepped.{EachFunction, stmt_ends, code_ends, code_returns, stmt_tests, code_tests, IsCoreMain}
use Rattle.lowering_laws.specs.Counts.{Counts, fresh, counted}
use Rattle.lowering_laws.specs.Trees.{Target, join, tree_code, first_code}
use Rattle.lowering_laws.specs.Statements.{room_of, headed, stmt_next, stmts_next, declare_code, assign_code, write_code, loop_code, stmt_code, stmts_code}
use Rattle.lowering_laws.specs.Lowering.{Beside, target, close_code, start_choices, body_code, lowered_function}
use Rattle.lowering_laws.specs.Tables.{core_of}
use Rattle.lowering_laws.specs.Ends as source
use Rattle.lowering_laws.specs.Ends.{stmts_end, Ends, AllEnd}
use Rattle.lowering_laws.proofs.Counting.{all_at}
use Rattle.lowering_laws.proofs.Each.{beside_of, each_lowered, lowered_at}
use Rattle.lowering_laws.proofs.Flat.{Anything, no_return, no_loop, tree_flat, first_flat, declare_flat, assign_flat, write_flat}

-- ---- ends
never : {A : Type 0} → false ≡ true → A
never h = absurd (let f : false ≡ true = h in cc)

left_ends : (c d : Code) → code_ends c ≡ true → code_ends (join c d) ≡ true
left_ends no_code d h = never h
left_ends (code_and s c) d h =
    elim (or_cases (stmt_ends s) (code_ends c) h) [
      | inl e ↦ or_left (stmt_ends s) (code_ends (join c d)) e
      | inr e ↦ or_right (stmt_ends s) (code_ends (join c d)) (left_ends c d e)
    ]

right_ends : (c d : Code) → code_ends d ≡ true → code_ends (join c d) ≡ true
right_ends no_code d h = h
right_ends (code_and s c) d h = or_right (stmt_ends s) (code_ends (join c d)) (right_ends c d h)

module _ (p : Program) (w : Target) (f : Function) where
  mutual
    stmt_code_ends : (n : ℕ) (s : Stmt) → source.stmt_ends s ≡ true → code_ends (stmt_code p f w n s) ≡ true
    stmt_code_ends n (block_at at ss) h = stmts_code_end n ss h
    stmt_code_ends n (if_at at e x ss) h =
        let n1 : ℕ = (counted p (room_of f) (fresh n) e).next + 1 in
        let parts = and_parts (source.stmt_ends x) (stmts_end ss) h in
        let these : Code = stmt_code p f w n1 x in
        let those : Code = stmts_code p f w (stmt_next p f n1 x) ss in
        right_ends (tree_code p (room_of f) w (fresh n) e) _
        (or_left (code_ends these && code_ends those) false (and_from (code_ends these) (code_ends those) (stmt_code_ends n1 x parts.0) (stmts_code_end (stmt_next p f n1 x) ss parts.1)))
    stmt_code_ends n (for_at at first e last inv x) h = left_ends (stmts_code p f w n first) _ (stmts_code_end n first h)
    stmt_code_ends n (return_at at es) h = right_ends (first_code p (room_of f) w (fresh n) es) _ refl
    stmt_code_ends n (raise_at at t) h = refl
    stmt_code_ends n s h = never h

    stmts_code_end : (n : ℕ) (ss : Stmts) → stmts_end ss ≡ true → code_ends (stmts_code p f w n ss) ≡ true
    stmts_code_end n no_stmts h = never h
    stmts_code_end n (stmt_and s ss) h =
        let one : Code = stmt_code p f w n s in
        let more : Code = stmts_code p f w (stmt_next p f n s) ss in
        elim (or_cases (source.stmt_ends s) (stmts_end ss) h) [
          | inl e ↦ left_ends one more (stmt_code_ends n s e)
          | inr e ↦ right_ends one more (stmts_code_end (stmt_next p f n s) ss e)
        ]

  closed_ends : (n : ℕ) (o : Option Shape) → (IsTrue (is_some o) → IsTrue (stmts_end f.body)) → code_ends (join (stmts_code p f w n f.body) (close_code w f o)) ≡ true
  closed_ends n None h = right_ends (stmts_code p f w n f.body) (close_code w f None) refl
  closed_ends n (Some s) h = left_ends (stmts_code p f w n f.body) (close_code w f (Some s)) (stmts_code_end n f.body (h refl))

pub ends : (plain : ℕ → Bool) (paths : ℕ → ℕ) (p : Program) → AllEnd p → EachFunction (core_of plain paths p) (λ g f. IsTrue (code_ends f.body))
ends plain paths p h =
    each_lowered _ p (λ g f. IsTrue (code_ends f.body)) (λ g f there. closed_ends p (target p g f) f (start_choices p g f) f.result (all_at Ends p.functions g f h there))

-- ---- tests
abbrev Tested : Code → Type 0
Tested c = code_tests c ≡ true

join_tested : (c d : Code) → Tested c → Tested d → Tested (join c d)
join_tested no_code d h k = k
join_tested (code_and s c) d h k =
    let parts = and_parts (stmt_tests s) (code_tests c) h in
    and_from (stmt_tests s) (code_tests (join c d)) parts.0 (join_tested c d parts.1 k)

-- one statement with two parts
two_parts : (x y : Bool) → x ≡ true → y ≡ true → ((x && y) && true) ≡ true
two_parts x y h k = and_from (x && y) true (and_from x y h k) refl

module _ (p : Program) (w : Target) where
  module _ (r : Room) where
    tree_tested : (c : Counts) (e : Tree) → Tested (tree_code p r w c e)
    tree_tested c e = no_loop Anything (tree_code p r w c e) (tree_flat Anything p w (λ s k. tt) r c e)

    loop_tested : (n : ℕ) (place : Place) (inv : Formula) (e : Tree) (body : Code) → Tested body → Tested (loop_code p r w n place inv e body)
    loop_tested n place inv e body h =
        let c : Counts = fresh (headed n inv) in
        let test : Code = tree_code p r w c e in
        two_parts (not (code_returns test)) (code_tests test && code_tests body)
        (ap not (no_return Anything test (tree_flat Anything p w (λ s k. tt) r c e))) (and_from (code_tests test) (code_tests body) (tree_tested c e) h)

  module _ (f : Function) where
    mutual
      stmt_tested : (n : ℕ) (s : Stmt) → Tested (stmt_code p f w n s)
      stmt_tested n (declare_at at i es) = no_loop Anything (declare_code p (room_of f) w (fresh n) i es) (declare_flat Anything p w (λ s k. tt) (room_of f) (fresh n) i es tt)
      stmt_tested n (assign_at at i o op_at e) =
          no_loop Anything (assign_code p (room_of f) w (fresh n) i o op_at e) (assign_flat Anything p w (λ s k. tt) (room_of f) (fresh n) i o op_at e tt)
      stmt_tested n (write_at at base k field arrow o op_at e) =
          no_loop Anything (write_code p (room_of f) w (fresh n) base k field arrow o op_at e) (write_flat Anything p w (λ s k. tt) (room_of f) (fresh n) base k field arrow o op_at e)
      stmt_tested n (plain_at at e) = tree_tested (room_of f) (fresh n) e
      stmt_tested n (block_at at ss) = stmts_tested n ss
      stmt_tested n (if_at at e x ss) =
          let n1 : ℕ = (counted p (room_of f) (fresh n) e).next + 1 in
          join_tested (tree_code p (room_of f) w (fresh n) e) _ (tree_tested (room_of f) (fresh n) e) (two_parts _ _ (stmt_tested n1 x) (stmts_tested (stmt_next p f n1 x) ss))
      stmt_tested n (while_at at inv e x) =
          let n1 : ℕ = (counted p (room_of f) (fresh (headed n inv)) e).next + 1 in
          loop_tested (room_of f) n at inv e (stmt_code p f w n1 x) (stmt_tested n1 x)
      stmt_tested n (for_at at first e last inv x) =
          let n1 : ℕ = stmts_next p f n first in
          let n2 : ℕ = (counted p (room_of f) (fresh (headed n1 inv)) e).next + 1 in
          let more : Code = stmts_code p f w (stmt_next p f n2 x) last in
          join_tested (stmts_code p f w n first) _ (stmts_tested n first)
          (loop_tested (room_of f) n1 at inv e (join (stmt_code p f w n2 x) more) (join_tested (stmt_code p f w n2 x) more (stmt_tested n2 x) (stmts_tested (stmt_next p f n2 x) last)))
      stmt_tested n (return_at at es) =
          join_tested (first_code p (room_of f) w (fresh n) es) _ (no_loop Anything (first_code p (room_of f) w (fresh n) es) (first_flat Anything p w (λ s k. tt) (room_of f) (fresh n) es)) refl
      stmt_tested n (assert_at at e) = join_tested (tree_code p (room_of f) w (fresh n) e) _ (tree_tested (room_of f) (fresh n) e) refl
      stmt_tested n (raise_at at t) = refl
      stmt_tested n (note_at at k formula) = refl

      stmts_tested : (n : ℕ) (ss : Stmts) → Tested (stmts_code p f w n ss)
      stmts_tested n no_stmts = refl
      stmts_tested n (stmt_and s ss) =
          join_tested (stmt_code p f w n s) (stmts_code p f w (stmt_next p f n s) ss) (stmt_tested n s) (stmts_tested (stmt_next p f n s) ss)

close_tested : (w : Target) (f : Function) (o : Option Shape) → Tested (close_code w f o)
close_tested w f None = refl
close_tested w f (Some s) = refl

body_tested : (p : Program) (g : ℕ) (f : Function) → Tested (body_code p g f)
body_tested p g f =
    join_tested (stmts_code p f (target p g f) (start_choices p g f) f.body) (close_code (target p g f) f f.result)
    (stmts_tested p (target p g f) f (start_choices p g f) f.body) (close_tested (target p g f) f f.result)

pub tests : (plain : ℕ → Bool) (paths : ℕ → ℕ) (p : Program) → EachFunction (core_of plain paths p) (λ g f. IsTrue (code_tests f.body))
tests plain paths p = each_lowered _ p (λ g f. IsTrue (code_tests f.body)) (λ g f there. body_tested p g f)

-- ---- `main`
abbrev pub HasMain : Core → Type 0
HasMain c = (f : CoreFunction) × (slice_get c.functions c.main ≡ Some f) × IsCoreMain f

pub main : (plain : ℕ → Bool) (paths : ℕ → ℕ) (p : Program) → Fits p → HasMain (core_of plain paths p)
main plain paths p fits =
    let f : Function = fits.main.0 in
    let b : Beside = beside_of plain paths p in
    (lowered_function b p p.main f, lowered_at b p p.main f fits.main.1, record { params = fits.main.2.params; result = fits.main.2.result })
