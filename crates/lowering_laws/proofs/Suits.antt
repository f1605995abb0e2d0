-- Which shapes may stand for which, and which code fits.
use Rattle.std.proofs.Common.{◌≡◌, ℕ, ◌<◌, Bool, true, false, List, Option, Some, None, is_some, refl, sym, subst, arith, eqb, cond}
use Rattle.std.specs.Prelude.{slice_get, ◌&&◌, IsTrue}
use Rattle.std.proofs.lemmas.Bool.{eqb-true, eq-eqb}
use Rattle.gc0_base.specs.declared.site.Site.{Site}
use Rattle.gc0_tree.specs.declared.Shape.{Shape}
use Rattle.gc0_tree.specs.declared.Shape.TheVariants.{Int, Bool as Truth, Pointer, Null}
use Rattle.gc0_tree.specs.declared.ExprOp.{ExprOp}
use Rattle.gc0_tree.specs.declared.ExprOp.TheVariants as op
use Rattle.gc0_tree.specs.Fits.{suits, common, are_ints, takes, gives}
use Rattle.core_tree.specs.declared.Simple.{Simple}
use Rattle.core_tree.specs.declared.Simple.TheVariants as simple
use Rattle.core_tree.specs.CoreTree.{Code, no_code, code_and, CoreFunction, Core}
use Rattle.c0_meaning.specs.Operators.{truth_word}
use Rattle.core_meaning.specs.CoreFits.{WordFits, may_hold, SimpleFits, Takes, word_shapes, CodeFits}
use Rattle.lowering_laws.specs.Trees.{join, operator_code}
use Rattle.lowering_laws.proofs.Counting.{some_is, none_some}

pub and_left : (a b : Bool) → IsTrue (a && b) → IsTrue a
and_left true b h = refl
and_left false b h = h

pub and_right : (a b : Bool) → IsTrue (a && b) → IsTrue b
and_right true b h = h
and_right false b h = absurd (let f : false ≡ true = h in cc)

-- ---- shapes
pub may_refl : (s : Shape) → may_hold s s ≡ true
may_refl Int = refl
may_refl Truth = refl
may_refl Null = refl
may_refl (Pointer k) = eq-eqb k k refl

pub may_suit : (d s : Shape) → suits d s ≡ true → may_hold d s ≡ true
may_suit Int s h = h
may_suit Truth s h = h
may_suit (Pointer k) s h = h
may_suit Null s h = absurd (let f : false ≡ true = h in cc)

pub may_trans : (d s u : Shape) → may_hold d s ≡ true → may_hold s u ≡ true → may_hold d u ≡ true
may_trans Int Int u h k = k
may_trans Truth Truth u h k = k
may_trans Null Null u h k = k
may_trans (Pointer i) (Pointer j) u h k = subst (λ n. may_hold (Pointer n) u ≡ true) (sym (eqb-true i j h)) k
may_trans (Pointer i) Null Null h k = refl
may_trans (Pointer i) Null Int h k = absurd (let f : false ≡ true = k in cc)
may_trans (Pointer i) Null Truth h k = absurd (let f : false ≡ true = k in cc)
may_trans (Pointer i) Null (Pointer j) h k = absurd (let f : false ≡ true = k in cc)
may_trans d s u h k = absurd (let f : false ≡ true = h in cc)

-- what two values have in common may hold each
pub common_holds : (u v s : Shape) → common u v ≡ Some s → (may_hold s u ≡ true) × (may_hold s v ≡ true)
common_holds Int Int s e = subst (λ s. (may_hold s Int ≡ true) × (may_hold s Int ≡ true)) (some_is Int s e) (refl, refl)
common_holds Truth Truth s e = subst (λ s. (may_hold s Truth ≡ true) × (may_hold s Truth ≡ true)) (some_is Truth s e) (refl, refl)
common_holds Null Null s e = subst (λ s. (may_hold s Null ≡ true) × (may_hold s Null ≡ true)) (some_is Null s e) (refl, refl)
common_holds Null (Pointer k) s e = subst (λ s. (may_hold s Null ≡ true) × (may_hold s (Pointer k) ≡ true)) (some_is (Pointer k) s e) (refl, may_refl (Pointer k))
common_holds (Pointer j) Null s e = subst (λ s. (may_hold s (Pointer j) ≡ true) × (may_hold s Null ≡ true)) (some_is (Pointer j) s e) (may_refl (Pointer j), refl)
common_holds (Pointer j) (Pointer k) s e = by_same (eqb j k) refl e
  where
    by_same : (b : Bool) → eqb j k ≡ b → cond b (Some (Pointer j)) None ≡ Some s → (may_hold s (Pointer j) ≡ true) × (may_hold s (Pointer k) ≡ true)
    by_same true h e = subst (λ s. (may_hold s (Pointer j) ≡ true) × (may_hold s (Pointer k) ≡ true)) (some_is (Pointer j) s e) (may_refl (Pointer j), h)
    by_same false h e = absurd (none_some s e)
common_holds u v s e = absurd (none_some s e)

-- ---- values
word_may : (n : ℕ) (s d : Shape) → may_hold d s ≡ true → WordFits s n → WordFits d n
word_may n Int Int m h = h
word_may n Truth Truth m h = h
word_may n Null Null m h = h
word_may n (Pointer j) (Pointer i) m h = h
word_may n Null (Pointer i) m h = h
word_may n s d m h = absurd (let f : false ≡ true = m in cc)

pub truth_less : (b : Bool) → truth_word b < 2
truth_less true = omega arith
truth_less false = omega arith

-- a value that fits stands wherever its shape may
pub simple_may : (words : List Shape) (v : Simple) (s d : Shape) → may_hold d s ≡ true → SimpleFits words s v → SimpleFits words d v
simple_may words (simple.Const n) s d m h = word_may n.0 s d m h
simple_may words (simple.Local i) s d m h = (h.0, h.1, may_trans d h.0 h.0 (may_trans d s h.0 m h.2) (may_refl h.0))

pub local_may : (words : List Shape) (i : ℕ) (u : Shape) → slice_get words i ≡ Some u → SimpleFits words u (simple.Local i)
local_may words i u there = (u, there, may_refl u)

-- ---- code
pub join_fits : (c : Core) (f : CoreFunction) (a b : Code) → CodeFits c f a → CodeFits c f b → CodeFits c f (join a b)
join_fits c f no_code b h k = k
join_fits c f (code_and s a) b h k = (h.0, join_fits c f a b h.1 k)

-- two ints
ints_are : (u v : Shape) → are_ints u v ≡ true → (u ≡ Int) × (v ≡ Int)
ints_are Int Int h = (refl, refl)
ints_are u v h = absurd (let f : false ≡ true = h in cc)

pub takes_ints : (o : ExprOp) → takes o Int Int ≡ true
takes_ints op.Equal = refl
takes_ints op.NotEqual = refl
takes_ints o = refl

module _ (c : Core) (f : CoreFunction) (to : ℕ) (site : Site) (a b : Simple) (u v : Shape) (left : SimpleFits (word_shapes f) u a) (right : SimpleFits (word_shapes f) v b) where
  abbrev W : List Shape
  W = word_shapes f

  ints : are_ints u v ≡ true → SimpleFits W Int a × SimpleFits W Int b
  ints h = (subst (λ s. SimpleFits W s a) (ints_are u v h).0 left, subst (λ s. SimpleFits W s b) (ints_are u v h).1 right)

  swapped : are_ints u v ≡ true → SimpleFits W Int b × SimpleFits W Int a
  swapped h = ((ints h).1, (ints h).0)

  alike : is_some (common u v) ≡ true → (s : Shape) × SimpleFits W s a × SimpleFits W s b
  alike h = by_common (common u v) refl h
    where
      by_common : (o : Option Shape) → common u v ≡ o → is_some o ≡ true → (s : Shape) × SimpleFits W s a × SimpleFits W s b
      by_common None e h = absurd (let f : false ≡ true = h in cc)
      by_common (Some s) e h = let m = common_holds u v s e in (s, simple_may W a u s m.0 left, simple_may W b v s m.1 right)

  put_in : (s : Shape) → slice_get W to ≡ Some s → Takes W s to
  put_in s there = (s, there, may_refl s)

  -- a comparison, and its opposite
  flipped : slice_get W to ≡ Some Truth → Takes W Truth to × SimpleFits W Truth (simple.Local to)
  flipped there = (put_in Truth there, local_may W to Truth there)

  pub operator_fits : (o : ExprOp) → takes o u v ≡ true → slice_get W to ≡ Some (gives o) → CodeFits c f (operator_code to o site a b)
  operator_fits op.Add h there = ((put_in Int there, ints h), tt)
  operator_fits op.Sub h there = ((put_in Int there, ints h), tt)
  operator_fits op.Mul h there = ((put_in Int there, ints h), tt)
  operator_fits op.Div h there = ((put_in Int there, ints h), tt)
  operator_fits op.Rem h there = ((put_in Int there, ints h), tt)
  operator_fits op.Shl h there = ((put_in Int there, ints h), tt)
  operator_fits op.Shr h there = ((put_in Int there, ints h), tt)
  operator_fits op.And h there = ((put_in Int there, ints h), tt)
  operator_fits op.Or h there = ((put_in Int there, ints h), tt)
  operator_fits op.Xor h there = ((put_in Int there, ints h), tt)
  operator_fits op.Less h there = ((put_in Truth there, ints h), tt)
  operator_fits op.LessEq h there = ((put_in Truth there, ints h), tt)
  operator_fits op.Greater h there = ((put_in Truth there, swapped h), tt)
  operator_fits op.GreaterEq h there = ((put_in Truth there, ints h), (flipped there, tt))
  operator_fits op.Equal h there = ((put_in Truth there, alike h), tt)
  operator_fits op.NotEqual h there = ((put_in Truth there, alike h), (flipped there, tt))
