-- Whole runs.
use Rattle.std.proofs.Common.{◌≡◌, ℕ, zero, suc, ◌+◌, ◌-◌, ◌*◌, ◌≤◌, true, List, [], ◌∷◌, length, Some, None, is_some, if◌then◌else◌, slice_get, refl, sym, ap, ◌∙◌, subst, arith, length-take-le, suc-mul, mul-le-mul_left, mul-le-mul_right, le-mul_of_pos_right}
use Rattle.std.proofs.lemmas.List.{length-map}
use Rattle.std.proofs.lemmas.List.Elements.{All-get_or}
use Rattle.std.proofs.lemmas.Option.{slice_get_within, get_or_from_slice_get}
use Rattle.gc0_base.specs.declared.site.Ending.TheVariants.{Returned}
use Rattle.gc0_tree.specs.declared.Shape.TheVariants.{Int}
use Rattle.gc0_tree.specs.Tree.{Formula}
use Rattle.gc0_tree.specs.Fits.{shapes_in}
use Rattle.core_tree.specs.CoreTree.{CoreFunction, Core}
use Rattle.core_meaning.specs.CoreRunning.{before_of, start_at}
use Rattle.core_meaning.specs.CoreFits.{core_params, CoreFunctionFits}
use Rattle.core_meaning.specs.Stepped.{EachFrom, IsStepped}
use Rattle.core_checks.specs.Placements.{Placement}
use Rattle.watched_core.specs.WatchRuns.{WatchState, Out, Next, Ends, go_on, chain, give}
use Rattle.watched_core.specs.Watching as watching
use Rattle.watched_core.specs.Watching.{consume, calls_at, started, shown, watched}
use Rattle.code_laws.specs.Instrs as instr
use Rattle.code_laws.specs.Instrs.{Words, Instr, Body, Code, instrs_in, size}
use Rattle.code_laws.specs.Machine as machine
use Rattle.code_laws.specs.Machine.{Frame, Machine, over, End, end_with, ended, does, first, enough, run_code}
use Rattle.code_laws.specs.Coding.{consume_code, function_code, body_of, bodies_from, start_code, code}
use Rattle.code_laws.specs.CodeLaws.{end_of, code_law}
use Rattle.code_laws.proofs.Doing.{HasAt, has_front, has_back, has_all, one_within, Shows, shows_then, shows_one, Spot, spot, at, Does, now, bind_paid, known}
use Rattle.code_laws.proofs.Checks.{consume_does}
use Rattle.code_laws.proofs.Calls.{called_then, enters_call}
use Rattle.code_laws.proofs.Functions.{Lawful, calls_do}

none_there : {A : Type 0} (x : A) → None ≡ Some x → ⊥
none_there x e = cc

same_there : {A : Type 0} (x y : A) → Some x ≡ Some y → x ≡ y
same_there x y e = cc

-- what each function meets, from a number on
each_at : (P : ℕ → CoreFunction → Type 0) (n : ℕ) (fs : List CoreFunction) → EachFrom n fs P → (g : ℕ) (f : CoreFunction) → slice_get fs g ≡ Some f → (m : ℕ) → m ≡ n + g → P m f
each_at P n [] each g f there m e = absurd (none_there f there)
each_at P n (h ∷ fs) each zero f there m e =
    let at : n ≡ m = omega (arith, e) in
    subst (λ m. P m f) at (subst (P n) (same_there h f there) each.0)
each_at P n (h ∷ fs) each (suc g) f there m e = each_at P (suc n) fs each.1 g f there m (omega (arith, e))

-- the code of each function stands under its number
body_at : (c : Core) (p : Placement) (n : ℕ) (fs : List CoreFunction) (g : ℕ) (f : CoreFunction) → slice_get fs g ≡ Some f → (m : ℕ) → m ≡ n + g → slice_get (bodies_from c p n fs) g ≡ Some (body_of c p m f)
body_at c p n [] g f there m e = absurd (none_there f there)
body_at c p n (h ∷ fs) zero f there m e =
    let at : n ≡ m = omega (arith, e) in
    ap (λ i. Some (body_of c p i h)) at ∙ ap (λ f. Some (body_of c p m f)) (same_there h f there)
body_at c p n (h ∷ fs) (suc g) f there m e = body_at c p (suc n) fs g f there m (omega (arith, e))

-- and is no longer than all of them
body_within : (bs : List Body) (g : ℕ) (b : Body) → slice_get bs g ≡ Some b → length b.instrs ≤ instrs_in bs
body_within [] g b there = absurd (none_there b there)
body_within (x ∷ bs) zero b there = let e : length x.instrs ≡ length b.instrs = ap (λ y. length y.instrs) (same_there x b there) in omega (arith, e)
body_within (x ∷ bs) (suc g) b there = let l = body_within bs g b there in omega (arith, l)

-- the bound is enough
enough_is : (n L s : ℕ) → n * L + L + s ≤ (n + 2) * (n + 2) * (s + L + 1)
enough_is n L s =
    let size : ℕ = s + L in
    let a : suc n * L ≡ n * L + L = suc-mul n L in
    let b : suc n * L ≤ suc n * (size + 1) = mul-le-mul_left (suc n) (omega arith) in
    let c : suc (suc n) * (size + 1) ≡ suc n * (size + 1) + (size + 1) = suc-mul (suc n) (size + 1) in
    let d : suc (suc n) * (size + 1) ≤ (n + 2) * (n + 2) * (size + 1) = mul-le-mul_right (size + 1) (omega (arith, le-mul_of_pos_right {m = n + 2} (n + 2) (omega arith))) in
    omega arith

-- nothing follows
nothing_follows : {A : Type 0} (o : Out A) → go_on o (λ v. give v) ≡ o
unfolding give
nothing_follows (Next v t) = refl
nothing_follows (Ends e v t) = refl

module _ (c : Core) (p : Placement) (st : IsStepped c) where
  fits_at : (h : ℕ) (f : CoreFunction) → slice_get c.functions h ≡ Some f → CoreFunctionFits c f
  fits_at h f there =
      subst (CoreFunctionFits c) (get_or_from_slice_get c.functions h f f there)
      (All-get_or (CoreFunctionFits c) c.functions h f (slice_get_within c.functions h f there) st.shapes.functions)

  lawful : (h : ℕ) (f : CoreFunction) → slice_get c.functions h ≡ Some f → Lawful c f
  lawful h f there =
      let at : h ≡ 0 + h = omega arith in
      record {
        fits = (fits_at h f there).body;
        steps = each_at _ 0 c.functions st.steps h f there h at;
        due = (each_at _ 0 c.functions st.sites h f there h at).due;
        tests = each_at _ 0 c.functions st.tests h f there h at;
        ends = each_at _ 0 c.functions st.ends h f there h at;
      }

  params : (h : ℕ) (f : CoreFunction) → slice_get c.functions h ≡ Some f → length (core_params f) ≡ f.params
  params h f there =
      let l = (fits_at h f there).params in
      length-take-le f.params (shapes_in f.locals) (omega (arith, l, length-map f.locals (λ p. p.1)))

  bodies : (h : ℕ) (f : CoreFunction) → slice_get c.functions h ≡ Some f → slice_get (code c p).functions h ≡ Some (body_of c p h f)
  bodies h f there = body_at c p 0 c.functions h f there h (omega arith)

  abbrev L : ℕ
  L = instrs_in (code c p).functions

  small : (h : ℕ) (f : CoreFunction) → slice_get c.functions h ≡ Some f → length (function_code c p h f) ≤ L
  small h f there = body_within (code c p).functions h (body_of c p h f) (bodies h f there)

  -- the call of `main` begins with no operands, and the run is over with its result
  module _ (main : CoreFunction) (is_main : slice_get c.functions c.main ≡ Some main) (no_params : main.params ≡ 0) (gives : main.result ≡ Some Int) (input : List ℕ) (n : ℕ) where
    abbrev is : List Instr
    is = (start_code c p).instrs

    abbrev there : Spot → WatchState → Machine
    there x s = at (code c p) L is [] x s

    abbrev Over : ℕ → WatchState → Spot → Type 0
    Over v t y = (slice_get is y.next ≡ Some (instr.return true)) × (y.operands ≡ v ∷ [])

    abbrev before : Formula
    before = before_of (slice_get c.functions c.main)

    abbrev requires_code : List Instr
    requires_code = consume_code c p c.main (start_at c.main) before (instr.first 0)

    abbrev call_and_return : List Instr
    call_and_return = instr.call c.main ∷ instr.return true ∷ []

    at_call : HasAt is (0 + length requires_code) call_and_return
    at_call = has_back is 0 requires_code call_and_return (has_all is [])

    calls_main : (t : WatchState) → t.turns ≤ n → t.steps ≤ t.turns → Does (code c p) L is [] L (spot (0 + length requires_code) [] 0) t (calls_at (suc n) c p c.main [] t) Over
    unfolding chain give
    calls_main t le ready =
        subst (λ o. Does (code c p) L is [] L (spot (0 + length requires_code) [] 0) t o Over) (nothing_follows (calls_at (suc n) c p c.main [] t))
        (called_then c p (code c p) L refl is [] (λ v. give v) (calls_at (suc n) c p c.main []) c.main main [] (0 + length requires_code) [] 0 t at_call.0
        (enters_call c p (code c p) L refl is [] bodies c.main main (calls_at (suc n) c p) (suc n) (calls_do c p (code c p) refl refl bodies params lawful L small (suc n)) c.main main [] is_main (sym no_params) (0 + length requires_code) 0 t)
        (calls_do c p (code c p) refl refl bodies params lawful L small (suc n) c.main main is_main [] (sym no_params) t _ [] (omega (arith, le)) ready)
        (λ v u e less fewer. now (code c p) L is [] fewer (at_call.1.0, ap (λ r. if is_some r then v ∷ [] else []) gives)))

    abbrev start : WatchState
    start = started c p input n

    whole : Does (code c p) L is [] L (spot 0 [] 0) start (watching.run c p n start) Over
    whole =
        bind_paid (code c p) L is [] (consume c p c.main (start_at c.main) before []) (λ u. calls_at (suc n) c p c.main [])
        (consume_does c p (code c p) refl L is [] c.main (start_at c.main) before (instr.first 0) [] 0 [] 0 start (omega arith) refl (has_front is 0 requires_code call_and_return (has_all is [])))
        (λ u t y x less fewer. known (code c p) L is [] (calls_at (suc n) c p c.main []) (spot (0 + length requires_code) [] 0) y t t x.0 refl (calls_main t less fewer))

    -- what a run shows that has come to its end
    ends_as : (d : ℕ) (e : End) → d ≤ n * L + L + length is → Shows (code c p) (there (spot 0 [] 0) start) d e → run_code (code c p) input n ≡ e
    ends_as d e le h =
        let bound = enough_is n L (length is) in
        let all : d ≤ enough (code c p) n = omega (arith, bound, le) in
        h (enough (code c p) n - d) (enough (code c p) n) (omega (arith, all))

    shows : (o : Out ℕ) → Does (code c p) L is [] L (spot 0 [] 0) start o Over → run_code (code c p) input n ≡ end_of (shown o)
    shows (Ends e v t) a = let b = a.by in ends_as b.0 (end_with t.output (ended e v)) (omega (arith, b.1)) b.2
    shows (Next v t) a =
        let b = a.by in
        let l = one_within is b.0.next (instr.return true) b.6.0 in
        ends_as (b.1 + 1) (end_with t.output (ended (Returned record { 0 = v }) None)) (omega (arith, b.2, l))
        (shows_then (code c p) (there (spot 0 [] 0) start) (there b.0 t) b.1 1 (end_with t.output (ended (Returned record { 0 = v }) None)) b.5
        (shows_one (code c p) (there b.0 t) (instr.return true) (Returned record { 0 = v }) None b.6.0 (ap (machine.returned (there b.0 t) true) b.6.1)))

    does_all : run_code (code c p) input n ≡ end_of (watched c p input n)
    does_all = shows (watching.run c p n start) whole

pub code_does : code_law
code_does c p st input n = let m = st.main in does_all c p st m.0 m.1 m.2.params m.2.result input n
