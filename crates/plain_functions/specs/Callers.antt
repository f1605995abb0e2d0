-- Who calls whom, and what marking the callers of open functions leaves.
use Rattle.std.specs.Prelude.{◌≡◌, ◌<◌, ◌+◌, ℕ, Bool, true, false, not, ◌||◌, ◌&&◌, eqb, List, [], ◌∷◌, length, get_or, slice_get, Some, count_by, map}
use Rattle.gc0_tree.specs.Tree.{Function}
use Rattle.c0_meaning.specs.Precision.{stmts_call, is_open}
use Rattle.plain_functions.specs.declared.marks.Marks.{Marks}

-- whether a number is in a list
abbrev pub among : ℕ → List ℕ → Bool
among g [] = false
among g (n ∷ ns) = eqb n g || among g ns

-- each function has the list of the functions that call it
pub record AreCallers (fs : List Function) (callers : List (List ℕ)) : Type 0 where
  pub count : length callers ≡ length fs
  pub right : (g f : ℕ) (fn : Function) → g < length fs → slice_get fs f ≡ Some fn → among f (get_or callers g []) ≡ stmts_call g fn.body

-- a caller was written to the lists of its callees
pub record AddsCaller (old : List (List ℕ)) (caller : ℕ) (callees : List ℕ) (new : List (List ℕ)) : Type 0 where
  pub count : length new ≡ length old
  pub right : (g f : ℕ) → g < length old → among f (get_or new g []) ≡ (among f (get_or old g []) || (eqb caller f && among g callees))

-- how much is left to do: each function that may still be marked, and each that waits
abbrev pub weight : Marks → ℕ
weight m = count_by (λ b. b) m.plain + length m.waiting

-- functions were marked: those that had no mark wait now
pub record MarksMore (old : Marks) (those : List ℕ) (new : Marks) : Type 0 where
  pub count : length new.plain ≡ length old.plain
  pub same_weight : weight new ≡ weight old
  pub marked : (f : ℕ) → get_or new.plain f false ≡ (get_or old.plain f false && not (among f those))
  pub waits : (f : ℕ) → among f new.waiting ≡ (among f old.waiting || (get_or old.plain f false && among f those))

-- the open functions are marked, and wait
pub record IsStart (fs : List Function) (m : Marks) : Type 0 where
  pub plain : m.plain ≡ map (λ f. not (is_open f)) fs
  pub waiting : (f : ℕ) → among f m.waiting ≡ not (get_or m.plain f true)
