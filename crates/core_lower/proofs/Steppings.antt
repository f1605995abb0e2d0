-- The core of a program that is ready is stepped.
use Rattle.std.specs.Prelude.{◌↔◌, ◌^◌, ◌&&◌, not, All, IsTrue}
use Rattle.std.proofs.Common.{◌≡◌, ◌<◌, ℕ, suc, zero, Bool, true, false, List, [], ◌∷◌, Option, Some, slice_get, get_or, length, ◌+◌, arith, refl, sym, ap, subst, ◌∙◌}
use Rattle.std.proofs.lemmas.Option.{slice_get-get_or}
use Rattle.gc0_tree.specs.Tree.{Function, Program}
use Rattle.core_tree.specs.CoreTree.{Core}
use Rattle.c0_meaning.specs.Precision.{IsPlain}
use Rattle.core_meaning.specs.Stepped.{IsStepped}
use Rattle.plain_functions.specs.Marks.{AreMarks}
use Rattle.lowering_laws.specs.Apart.{is_apart}
use Rattle.lowering_laws.specs.SteppedLaws.{CanBeLowered, stepped_law}
use Rattle.core_lower.specs.Lowered.{IsLowered, or_false, mark_in, counted_paths}
use Rattle.core_lower.specs.Ready.{IsReady}
use Rattle.core_lower.specs.Separate.{all_apart}
use Rattle.core_lower.proofs.Choosing.{given, none_some}

-- ---- each function is apart
pub none_apart : (s a : Bool) → s ≡ not a → s ≡ false → a ≡ true
none_apart s true e f = refl
none_apart s false e f = absurd (let h : true ≡ false = sym e ∙ f in cc)

left_of : (a b : Bool) → (a && b) ≡ true → a ≡ true
left_of true b e = refl
left_of false b e = e

right_of : (a b : Bool) → (a && b) ≡ true → b ≡ true
right_of true b e = e
right_of false b e = absurd (let f : false ≡ true = e in cc)

apart_from : (n : ℕ) (fs : List Function) → all_apart n fs ≡ true → (i : ℕ) (f : Function) → slice_get fs i ≡ Some f → (m : ℕ) → m ≡ n + i → IsTrue (is_apart m f)
apart_from n [] h i f there m e = absurd (none_some f there)
apart_from n (k ∷ fs) h zero f there m e =
    let at : m ≡ n = omega (arith, e) in
    ap (λ (x : ℕ). is_apart x f) at ∙ ap (λ (x : Function). is_apart n x) (sym (given k f there)) ∙ left_of (is_apart n k) (all_apart (suc n) fs) h
apart_from n (k ∷ fs) h (suc i) f there m e = apart_from (suc n) fs (right_of (is_apart n k) (all_apart (suc n) fs) h) i f there m (omega (arith, e))

each_apart : (fs : List Function) → all_apart 0 fs ≡ true → (g : ℕ) (f : Function) → slice_get fs g ≡ Some f → IsTrue (is_apart g f)
each_apart fs h g f there = apart_from 0 fs h g f there g (omega arith)

-- ---- marks
marks_right : (p : Program) (marks : List Bool) → AreMarks p marks → (g : ℕ) → g < length p.functions → IsTrue (mark_in marks g) ↔ IsPlain p g
marks_right p marks are g within =
    let mark : Bool = get_or marks g false in
    let at : slice_get marks g ≡ Some mark = slice_get-get_or marks g false (subst (λ (n : ℕ). g < n) (sym are.count) within) in
    subst (λ (o : Option Bool). IsTrue (or_false o) ↔ IsPlain p g) (sym at) (are.right g mark at)

-- ---- the core
pub is_stepped : (p : Program) (c : Core) → IsLowered p c → stepped_law → all_apart 0 p.functions ≡ true → All (λ f. length f.decisions < 2 ^ 32) c.functions → IsReady p → IsStepped c
is_stepped p c h law apart few ready =
    let can : CanBeLowered p = record {
      fits = ready.fits;
      ends = ready.ends;
      framed = ready.framed;
      guarded = ready.guarded;
      kept = ready.kept;
      words = ready.words;
      formulas = ready.formulas;
      apart = each_apart p.functions apart;
    } in
    subst (λ (k : Core). IsStepped k) (sym h.core)
    (law p can (mark_in h.marks) (marks_right p h.marks h.are_marks) (counted_paths p) (subst (λ (k : Core). All (λ f. length f.decisions < 2 ^ 32) k.functions) h.core few))
