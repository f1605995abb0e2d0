-- The marks of plain functions are right in a lowered core: it has the calls and each `?` of the program.
use Rattle.std.proofs.Common.{◌≡◌, ◌↔◌, ◌+◌, ◌<◌, ℕ, Bool, true, false, ◌||◌, All, length, Option, Some, None, IsTrue, slice_get, refl, sym, ap, ◌∙◌, subst}
use Rattle.std.proofs.lemmas.Option.{slice_get_within}
use Rattle.gc0_base.specs.declared.place.Place.{Place}
use Rattle.gc0_tree.specs.declared.Shape.{Shape}
use Rattle.gc0_tree.specs.Tree.{Tree, Formula, Stmt, declare_at, assign_at, write_at, plain_at, block_at, if_at, while_at, for_at, return_at, assert_at, raise_at, note_at, Stmts, no_stmts, stmt_and, Function, Program}
use Rattle.gc0_tree.specs.Fits.{Fits, FunctionFits, Room}
use Rattle.c0_meaning.specs.Precision as source
use Rattle.c0_meaning.specs.Precision.{imprecise, note_open, has_open, any_open, stmts_call, itself, through}
use Rattle.core_tree.specs.CoreTree.{Code}
use Rattle.core_meaning.specs.CorePrecision as core
use Rattle.core_meaning.specs.CorePrecision.{code_open, code_calls}
use Rattle.core_meaning.specs.Stepped.{EachFunction}
use Rattle.lowering_laws.specs.Counts.{Counts, fresh, counted}
use Rattle.lowering_laws.specs.Trees.{Target, join, tree_code, first_code}
use Rattle.lowering_laws.specs.Statements.{room_of, headed, stmt_next, stmts_next, declare_code, assign_code, write_code, loop_code, stmt_code, stmts_code}
use Rattle.lowering_laws.specs.Lowering.{Beside, target, close_code, start_choices, body_code, lowered_function, lowered}
use Rattle.lowering_laws.specs.Tables.{core_of}
use Rattle.lowering_laws.proofs.Counting.{all_at}
use Rattle.lowering_laws.proofs.Each.{beside_of, LoweredFrom, each_lowered, lowered_at, source_at}
use Rattle.lowering_laws.proofs.Flat.{Anything, closed, tree_flat, first_flat, declare_flat, assign_flat, write_flat}
use Rattle.lowering_laws.proofs.Joined.{or_none, or_swap, or_same, two_parts, joined, joined_first}
use Rattle.lowering_laws.proofs.Calling.{body_calls}

-- ---- each `?` of a body
abbrev Open : Code → Bool → Type 0
Open c x = code_open c ≡ x

after : (c d : Code) (x y : Bool) → Open c x → Open d y → Open (join c d) (x || y)
after = joined core.stmt_open code_open refl (λ s c. refl)

alone : (c d : Code) (x : Bool) → Open c x → Open d false → Open (join c d) x
alone = joined_first core.stmt_open code_open refl (λ s c. refl)

-- the invariant comes before what is initialised
for_order : (inv first last body : Bool) → (first || (inv || (body || last))) ≡ (inv || (first || (last || body)))
for_order inv true last body = sym (or_swap inv true)
for_order inv false last body = or_same inv (body || last) inv (last || body) refl (or_swap body last)

module _ (p : Program) (w : Target) where
  module _ (r : Room) where
    tree_closed : (c : Counts) (e : Tree) → Open (tree_code p r w c e) false
    tree_closed c e = closed Anything (tree_code p r w c e) (tree_flat Anything p w (λ s k. tt) r c e)

    loop_open : (n : ℕ) (place : Place) (inv : Formula) (e : Tree) (body : Code) (x : Bool) → Open body x → Open (loop_code p r w n place inv e body) (imprecise inv || x)
    loop_open n place inv e body x h =
        let test : Code = tree_code p r w (fresh (headed n inv)) e in
        two_parts (imprecise inv) (code_open test || code_open body) (imprecise inv) x refl (or_same (code_open test) (code_open body) false x (tree_closed (fresh (headed n inv)) e) h)

  module _ (f : Function) where
    mutual
      stmt_opens : (n : ℕ) (s : Stmt) → Open (stmt_code p f w n s) (has_open s)
      stmt_opens n (declare_at at i es) = closed Anything (declare_code p (room_of f) w (fresh n) i es) (declare_flat Anything p w (λ s k. tt) (room_of f) (fresh n) i es tt)
      stmt_opens n (assign_at at i o op_at e) =
          closed Anything (assign_code p (room_of f) w (fresh n) i o op_at e) (assign_flat Anything p w (λ s k. tt) (room_of f) (fresh n) i o op_at e tt)
      stmt_opens n (write_at at base k field arrow o op_at e) =
          closed Anything (write_code p (room_of f) w (fresh n) base k field arrow o op_at e) (write_flat Anything p w (λ s k. tt) (room_of f) (fresh n) base k field arrow o op_at e)
      stmt_opens n (plain_at at e) = tree_closed (room_of f) (fresh n) e
      stmt_opens n (block_at at ss) = stmts_open n ss
      stmt_opens n (if_at at e x ss) =
          let n1 : ℕ = (counted p (room_of f) (fresh n) e).next + 1 in
          after (tree_code p (room_of f) w (fresh n) e) _ false (has_open x || any_open ss) (tree_closed (room_of f) (fresh n) e)
          (two_parts _ _ (has_open x) (any_open ss) (stmt_opens n1 x) (stmts_open (stmt_next p f n1 x) ss))
      stmt_opens n (while_at at inv e x) =
          let n1 : ℕ = (counted p (room_of f) (fresh (headed n inv)) e).next + 1 in
          loop_open (room_of f) n at inv e (stmt_code p f w n1 x) (has_open x) (stmt_opens n1 x)
      stmt_opens n (for_at at first e last inv x) =
          let n1 : ℕ = stmts_next p f n first in
          let n2 : ℕ = (counted p (room_of f) (fresh (headed n1 inv)) e).next + 1 in
          let more : Code = stmts_code p f w (stmt_next p f n2 x) last in
          after (stmts_code p f w n first) _ (any_open first) (imprecise inv || (has_open x || any_open last)) (stmts_open n first)
          (loop_open (room_of f) n1 at inv e (join (stmt_code p f w n2 x) more) (has_open x || any_open last)
          (after (stmt_code p f w n2 x) more (has_open x) (any_open last) (stmt_opens n2 x) (stmts_open (stmt_next p f n2 x) last))) ∙ for_order (imprecise inv) (any_open first) (any_open last) (has_open x)
      stmt_opens n (return_at at es) =
          alone (first_code p (room_of f) w (fresh n) es) _ false (closed Anything (first_code p (room_of f) w (fresh n) es) (first_flat Anything p w (λ s k. tt) (room_of f) (fresh n) es)) refl
      stmt_opens n (assert_at at e) = alone (tree_code p (room_of f) w (fresh n) e) _ false (tree_closed (room_of f) (fresh n) e) refl
      stmt_opens n (raise_at at t) = refl
      stmt_opens n (note_at at k formula) = or_none (note_open k formula)

      stmts_open : (n : ℕ) (ss : Stmts) → Open (stmts_code p f w n ss) (any_open ss)
      stmts_open n no_stmts = refl
      stmts_open n (stmt_and s ss) =
          after (stmt_code p f w n s) (stmts_code p f w (stmt_next p f n s) ss) (has_open s) (any_open ss) (stmt_opens n s) (stmts_open (stmt_next p f n s) ss)

close_closed : (w : Target) (f : Function) (o : Option Shape) → Open (close_code w f o) false
close_closed w f None = refl
close_closed w f (Some s) = refl

body_open : (p : Program) (g : ℕ) (f : Function) → code_open (body_code p g f) ≡ any_open f.body
body_open p g f =
    alone (stmts_code p f (target p g f) (start_choices p g f) f.body) (close_code (target p g f) f f.result) (any_open f.body)
    (stmts_open p (target p g f) f (start_choices p g f) f.body) (close_closed (target p g f) f f.result)

-- ---- functions
module _ (b : Beside) (p : Program) where
  open_is : (g : ℕ) (f : Function) → core.is_open (lowered_function b p g f) ≡ source.is_open f
  open_is g f = ap (λ x. imprecise f.before || (imprecise f.after || x)) (body_open p g f)

  module _ (functions : All (FunctionFits p) p.functions) where
    calls_are : (g h : ℕ) (f : Function) → slice_get p.functions g ≡ Some f → code_calls h (lowered_function b p g f).body ≡ stmts_call h f.body
    calls_are g h f there = body_calls h p g f (all_at (FunctionFits p) p.functions g f functions there)

    reaches_core : {g h : ℕ} → source.Reaches p g h → core.Reaches (lowered b p) g h
    reaches_core (itself g) = core.itself g
    reaches_core (through g i h f there call rest) =
        core.through g i h (lowered_function b p g f) (lowered_at b p g f there) (calls_are g i f there ∙ call) (reaches_core rest)

    reaches_source : {g h : ℕ} → core.Reaches (lowered b p) g h → source.Reaches p g h
    reaches_source (core.itself g) = itself g
    reaches_source (core.through g i h fn there call rest) =
        let from : LoweredFrom b p p.functions g g fn = source_at b p g fn there in
        let call1 : code_calls i (lowered_function b p g from.0).body ≡ true = subst (λ q. code_calls i q.body ≡ true) (sym from.2) call in
        through g i h from.0 from.1 (sym (calls_are g i from.0 from.1) ∙ call1) (reaches_source rest)

    plain_core : (g : ℕ) → source.IsPlain p g → core.IsPlain (lowered b p) g
    plain_core g plain h fn reached there =
        let from : LoweredFrom b p p.functions h h fn = source_at b p h fn there in
        subst (λ q. core.is_open q ≡ false) from.2 (open_is h from.0 ∙ plain h from.0 (reaches_source reached) from.1)

    plain_source : (g : ℕ) → core.IsPlain (lowered b p) g → source.IsPlain p g
    plain_source g plain h f reached there = sym (open_is h f) ∙ plain h (lowered_function b p h f) (reaches_core reached) (lowered_at b p h f there)

pub marked : (plain : ℕ → Bool) (paths : ℕ → ℕ) (p : Program) → Fits p → ((g : ℕ) → g < length p.functions → IsTrue (plain g) ↔ source.IsPlain p g) →
    EachFunction (core_of plain paths p) (λ g f. IsTrue f.plain ↔ core.IsPlain (core_of plain paths p) g)
marked plain paths p fits right =
    let b : Beside = beside_of plain paths p in
    each_lowered b p (λ g f. IsTrue f.plain ↔ core.IsPlain (core_of plain paths p) g)
    (λ g f there.
    let is_right : IsTrue (plain g) ↔ source.IsPlain p g = right g (slice_get_within p.functions g f there) in
    (λ h. plain_core b p fits.functions g (is_right.0 h), λ h. is_right.1 (plain_source b p fits.functions g h)))
