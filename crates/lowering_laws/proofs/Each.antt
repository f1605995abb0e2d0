-- What each function of a lowered core meets.
use Rattle.std.proofs.Common.{◌≡◌, ◌+◌, ℕ, Bool, zero, suc, List, [], ◌∷◌, Some, slice_get, refl, ap, ◌∙◌, subst, arith}
use Rattle.std.specs.Option.{option_map}
use Rattle.gc0_tree.specs.Tree.{Function, Program}
use Rattle.core_tree.specs.CoreTree.{CoreFunction}
use Rattle.core_meaning.specs.Stepped.{EachFrom, EachFunction}
use Rattle.lowering_laws.specs.Lowering.{Beside, lowered_function, lowered_from, lowered}
use Rattle.lowering_laws.specs.Tables.{decisions_in, table_in}
use Rattle.lowering_laws.proofs.Counting.{some_is, none_some}

-- what stands beside the code in the core of a program
abbrev pub beside_of : (plain : ℕ → Bool) (paths : ℕ → ℕ) → Program → Beside
beside_of plain paths p = record { plain = plain; paths = paths; decisions = λ g. decisions_in p g (slice_get p.functions g); sites = λ g. table_in p g (slice_get p.functions g) }

each_from : (b : Beside) (p : Program) (P : ℕ → CoreFunction → Type 0) (n : ℕ) (fs : List Function) →
    ((g : ℕ) (f : Function) → slice_get fs g ≡ Some f → (m : ℕ) → m ≡ n + g → P m (lowered_function b p m f)) → EachFrom n (lowered_from b p n fs) P
each_from b p P n [] h = tt
each_from b p P n (f ∷ fs) h = (h 0 f refl n (omega arith), each_from b p P (suc n) fs (λ g k there m e. h (suc g) k there m (omega (arith, e))))

-- a fact of each function of the program, as its lowered form meets it
pub each_lowered : (b : Beside) (p : Program) (P : ℕ → CoreFunction → Type 0) → ((g : ℕ) (f : Function) → slice_get p.functions g ≡ Some f → P g (lowered_function b p g f)) → EachFunction (lowered b p) P
each_lowered b p P h =
    each_from b p P 0 p.functions
    (λ g f there m e. let at : g ≡ m = omega (arith, e) in subst (λ m. P m (lowered_function b p m f)) at (h g f there))

-- ---- the functions of a lowered core by their number
lowered_at_from : (b : Beside) (p : Program) (n : ℕ) (fs : List Function) (g : ℕ) (f : Function) → slice_get fs g ≡ Some f → (m : ℕ) → m ≡ n + g → slice_get (lowered_from b p n fs) g ≡ Some (lowered_function b p m f)
lowered_at_from b p n [] g f there m e = absurd (none_some f there)
lowered_at_from b p n (k ∷ fs) zero f there m e =
    let at : n ≡ m = omega (arith, e) in
    ap (λ i. Some (lowered_function b p i k)) at ∙ ap (λ q. Some (lowered_function b p m q)) (some_is k f there)
lowered_at_from b p n (k ∷ fs) (suc g) f there m e = lowered_at_from b p (suc n) fs g f there m (omega (arith, e))

-- a function of the program is lowered
pub lowered_at : (b : Beside) (p : Program) (g : ℕ) (f : Function) → slice_get p.functions g ≡ Some f → slice_get (lowered b p).functions g ≡ Some (lowered_function b p g f)
lowered_at b p g f there = lowered_at_from b p 0 p.functions g f there g (omega arith)

abbrev pub LoweredFrom : Beside → Program → List Function → (g m : ℕ) → CoreFunction → Type 0
LoweredFrom b p fs g m h = (f : Function) × (slice_get fs g ≡ Some f) × (lowered_function b p m f ≡ h)

source_at_from : (b : Beside) (p : Program) (n : ℕ) (fs : List Function) (g : ℕ) (h : CoreFunction) → slice_get (lowered_from b p n fs) g ≡ Some h → (m : ℕ) → m ≡ n + g → LoweredFrom b p fs g m h
source_at_from b p n [] g h there m e = absurd (none_some h there)
source_at_from b p n (k ∷ fs) zero h there m e =
    let at : m ≡ n = omega (arith, e) in
    (k, refl, ap (λ i. lowered_function b p i k) at ∙ some_is (lowered_function b p n k) h there)
source_at_from b p n (k ∷ fs) (suc g) h there m e = source_at_from b p (suc n) fs g h there m (omega (arith, e))

-- a function of the core is lowered from one of the program
pub source_at : (b : Beside) (p : Program) (g : ℕ) (h : CoreFunction) → slice_get (lowered b p).functions g ≡ Some h → LoweredFrom b p p.functions g g h
source_at b p g h there = source_at_from b p 0 p.functions g h there g (omega arith)

-- ---- the same as an equation
module _ (b : Beside) (p : Program) where
  function_from : (fs : List Function) (n i m : ℕ) → m ≡ n + i → slice_get (lowered_from b p n fs) i ≡ option_map (lowered_function b p m) (slice_get fs i)
  function_from [] n i m e = refl
  function_from (f ∷ fs) n zero m e = ap (λ k. Some (lowered_function b p k f)) (let same : n ≡ m = omega arith in same)
  function_from (f ∷ fs) n (suc i) m e = function_from fs (suc n) i m (omega arith)

  -- a function of the core is that of the program, lowered
  pub function_at : (g : ℕ) → slice_get (lowered b p).functions g ≡ option_map (lowered_function b p g) (slice_get p.functions g)
  function_at g = function_from p.functions 0 g g (omega arith)
