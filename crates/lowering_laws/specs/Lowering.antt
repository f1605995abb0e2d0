-- The core of a program.
use Rattle.std.specs.Prelude.{ℕ, zero, suc, ◌+◌, Bool, eqb, length, List, [], ◌∷◌, ◌++◌, replicate, Option, Some, None, if◌then◌else◌}
use Rattle.gc0_base.specs.declared.site.Kind.TheVariants as kind
use Rattle.gc0_tree.specs.declared.Shape.{Shape}
use Rattle.gc0_tree.specs.declared.Shape.TheVariants.{Int, Bool as Truth, Pointer, Null}
use Rattle.gc0_tree.specs.Tree.{Function, Program}
use Rattle.gc0_tree.specs.Sites.{sites_of}
use Rattle.core_tree.specs.declared.DecisionAt.{DecisionAt}
use Rattle.core_tree.specs.declared.SiteTable.{SiteTable}
use Rattle.core_tree.specs.CoreTree.{do_return, Code, no_code, CoreFunction, Core}
use Rattle.lowering_laws.specs.Counts.{choices_in}
use Rattle.lowering_laws.specs.Trees.{Target, join, one}
use Rattle.lowering_laws.specs.Statements.{room_of, stmts_use, stmts_code}

-- ---- temporaries: those of a shape follow each other, and the shapes come as Int, Bool, Null, and the structs by number
abbrev pub pointers_before : (Shape → ℕ) → ℕ → ℕ
pointers_before room zero = 0
pointers_before room (suc k) = pointers_before room k + room (Pointer k)

-- how many temporaries come before those of a shape
abbrev pub temps_before : (Shape → ℕ) → Shape → ℕ
temps_before room Int = 0
temps_before room Truth = room Int
temps_before room Null = room Int + room Truth
temps_before room (Pointer k) = room Int + room Truth + room Null + pointers_before room k

abbrev pub pointer_temps : (Shape → ℕ) → (structs : ℕ) → List Shape
pointer_temps room zero = []
pointer_temps room (suc k) = pointer_temps room k ++ replicate (room (Pointer k)) (Pointer k)

-- the shapes of the temporaries, by the most that are used of each
abbrev pub temps_of : (Shape → ℕ) → (structs : ℕ) → List Shape
temps_of room structs =
    replicate (room Int) Int ++ (replicate (room Truth) Truth ++ (replicate (room Null) Null ++ pointer_temps room structs))

-- the temporaries of each shape in a function: those of one statement are used again by the next
abbrev pub uses : Program → Function → Shape → ℕ
uses p f = stmts_use p (room_of f) f.body

-- the number of a temporary: behind the locals and the temporaries of the shapes before
abbrev pub slot_in : Program → Function → Shape → ℕ → ℕ
slot_in p f s k = length f.locals + temps_before (uses p f) s + k

-- ---- functions
-- What stands beside the code, by the number of the function: whether it is plain, its paths, its decisions and its sites.
-- No run depends on it.
pub record Beside : Type 0 where
  pub plain : ℕ → Bool
  pub paths : ℕ → ℕ
  pub decisions : ℕ → List DecisionAt
  pub sites : ℕ → SiteTable

abbrev pub target : Program → ℕ → Function → Target
target p g f = record { function = g; at = sites_of g f; slot = slot_in p f }

-- a function without a result returns at its closing brace
abbrev pub close_code : Target → Function → Option Shape → Code
close_code w f None = one (do_return None (w.at kind.Ensures f.close))
close_code w f (Some s) = no_code

-- the decisions at the start: `main` consumes its `requires`, and each function produces its own
abbrev pub start_choices : Program → ℕ → Function → ℕ
start_choices p g f = (if eqb g p.main then choices_in f.before else 0) + choices_in f.before

abbrev pub body_code : Program → ℕ → Function → Code
body_code p g f = join (stmts_code p f (target p g f) (start_choices p g f) f.body) (close_code (target p g f) f f.result)

abbrev pub lowered_function : Beside → Program → ℕ → Function → CoreFunction
lowered_function beside p g f = record {
  name = f.name;
  place = f.place;
  params = f.params;
  locals = f.locals;
  temps = temps_of (uses p f) (length p.structs);
  result = f.result;
  before = f.before;
  after = f.after;
  plain = beside.plain g;
  paths = beside.paths g;
  decisions = beside.decisions g;
  sites = beside.sites g;
  body = body_code p g f;
}

-- functions from a number on
abbrev pub lowered_from : Beside → Program → ℕ → List Function → List CoreFunction
lowered_from beside p g [] = []
lowered_from beside p g (f ∷ fs) = lowered_function beside p g f ∷ lowered_from beside p (suc g) fs

-- the core of a program
abbrev pub lowered : Beside → Program → Core
lowered beside p = record { structs = p.structs; predicates = p.predicates; functions = lowered_from beside p 0 p.functions; main = p.main; texts = p.texts }
