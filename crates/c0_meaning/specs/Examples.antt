-- Worked runs: programs as trees, each place where its text has it, and what they mean. They test the definitions.
use Rattle.std.specs.Prelude.{◌≡◌, ℕ, true, false, List, [], ◌∷◌, Some, None, codes}
use Rattle.gc0_base.specs.declared.place.Place.{Place}
use Rattle.gc0_base.specs.declared.site.Site.{Site}
use Rattle.gc0_base.specs.declared.site.Kind.{Kind}
use Rattle.gc0_base.specs.declared.site.Kind.TheVariants.{Start, Requires, Again, Assert}
use Rattle.gc0_base.specs.declared.site.Ending.TheVariants.{Returned, Stop, StepsUsed}
use Rattle.gc0_tree.specs.declared.Shape.{Shape}
use Rattle.gc0_tree.specs.declared.Shape.TheVariants as shape
use Rattle.gc0_tree.specs.declared.UnaryOp.TheVariants as unary
use Rattle.gc0_tree.specs.declared.ExprOp.TheVariants as op
use Rattle.gc0_tree.specs.declared.LibraryCall.TheVariants as library
use Rattle.gc0_tree.specs.Tree.{Tree, number_at, truth_at, local_at, result_at, unary_at, binary_at, call_at, library_at, Trees, no_trees, tree_and, Conjuncts, no_parts, value_part, Formula, assert_note, Stmt, declare_at, assign_at, plain_at, block_at, while_at, return_at, note_at, Stmts, no_stmts, stmt_and, Function, Program}
use Rattle.c0_meaning.specs.Running.{meaning, sites}

abbrev pub place : (line column : ℕ) → Place
place l c = record { line = l; column = c }

abbrev pub site : ℕ → Kind → ℕ → Site
site f k n = record { function = f; kind = k; ordinal = n }

-- an absent clause
abbrev pub anything : Formula
anything = record { imprecise = true; parts = no_parts }

abbrev pub precisely : Conjuncts → Formula
precisely cs = record { imprecise = false; parts = cs }

abbrev pub one : Tree → Trees
one e = tree_and e no_trees

abbrev pub only : Stmt → Stmts
only s = stmt_and s no_stmts

abbrev pub int : List ℕ × Shape
int = ([], shape.Int)

abbrev pub main_of : (line column : ℕ) → List (List ℕ × Shape) → Stmts → Function
main_of l c locals body = record { name = codes "main"; place = place l c; close = place 99 1; params = 0; locals = locals; result = Some shape.Int; before = anything; after = anything; body = body }

abbrev pub program : List Function → ℕ → Program
program functions main = record { structs = []; predicates = []; functions = functions; main = main; texts = [] }

-- int main() { while (true) { printint(7); } return 0; }
abbrev pub forever : Program
forever = program (main_of 1 5 []
    (stmt_and (while_at (place 1 14) anything (truth_at (place 1 21) true)
    (block_at (place 1 27) (only (plain_at (place 1 29) (library_at (place 1 29) library.PrintInt (one (number_at (place 1 38) 7)) None)))))
    (only (return_at (place 1 44) (one (number_at (place 1 51) 0))))) ∷ []) 0

abbrev pub forever_0 : Type 0
forever_0 = meaning forever [] 0 ≡ ([], StepsUsed)

abbrev pub forever_3 : Type 0
forever_3 = meaning forever [] 3 ≡ ([], StepsUsed)

-- the `while`, its test, the statement, its call, the test again
abbrev pub forever_5 : Type 0
forever_5 = meaning forever [] 5 ≡ (codes "7", StepsUsed)

-- int main() {
--   int i = 0;
--   while (i < 5)
--   //@loop_invariant ? && i < 3;
--   { printint(i); i = i + 1; }
--   return 0;
-- }
abbrev pub counting : Program
counting = program (main_of 1 5 (int ∷ [])
    (stmt_and (declare_at (place 2 3) 0 (one (number_at (place 2 11) 0)))
    (stmt_and (while_at (place 3 3) (record { imprecise = true; parts = value_part (binary_at (place 4 28) op.Less (local_at (place 4 26) 0) (number_at (place 4 30) 3)) no_parts }) (binary_at (place 3 12) op.Less (local_at (place 3 10) 0) (number_at (place 3 14) 5))
    (block_at (place 5 3)
    (stmt_and (plain_at (place 5 5) (library_at (place 5 5) library.PrintInt (one (local_at (place 5 14) 0)) None))
    (only (assign_at (place 5 18) 0 None (place 5 20) (binary_at (place 5 24) op.Add (local_at (place 5 22) 0) (number_at (place 5 26) 1)))))))
    (only (return_at (place 6 3) (one (number_at (place 6 10) 0)))))) ∷ []) 0

abbrev pub counting_million : Type 0
counting_million = meaning counting [] 1000000 ≡ (codes "012", Stop (site 0 Again 0))

abbrev pub counting_14 : Type 0
counting_14 = meaning counting [] 14 ≡ (codes "012", Stop (site 0 Again 0))

abbrev pub counting_13 : Type 0
counting_13 = meaning counting [] 13 ≡ (codes "012", StepsUsed)

-- int half(int x)
-- //@requires 0 <= x;
-- //@ensures \result <= x;
-- {
--   int h = 0;
--   while (h + h < x)
--   //@loop_invariant h <= x;
--   { h = h + 1; }
--   return h;
-- }
abbrev pub half : Function
half = record {
  name = codes "half";
  place = place 1 5;
  close = place 10 1;
  params = 1;
  locals = int ∷ int ∷ [];
  result = Some shape.Int;
  before = precisely (value_part (binary_at (place 2 15) op.LessEq (number_at (place 2 13) 0) (local_at (place 2 18) 0)) no_parts);
  after = precisely (value_part (binary_at (place 3 20) op.LessEq (result_at (place 3 12)) (local_at (place 3 23) 0)) no_parts);
  body =
      stmt_and (declare_at (place 5 3) 1 (one (number_at (place 5 11) 0)))
      (stmt_and (while_at (place 6 3) (precisely (value_part (binary_at (place 7 23) op.LessEq (local_at (place 7 21) 1) (local_at (place 7 26) 0)) no_parts))
      (binary_at (place 6 16) op.Less (binary_at (place 6 12) op.Add (local_at (place 6 10) 1) (local_at (place 6 14) 1)) (local_at (place 6 18) 0))
      (block_at (place 8 3) (only (assign_at (place 8 5) 1 None (place 8 7) (binary_at (place 8 11) op.Add (local_at (place 8 9) 1) (number_at (place 8 13) 1))))))
      (only (return_at (place 9 3) (one (local_at (place 9 10) 1)))));
}

-- int main() {
--   int a = half(7);
--   int b = half(-1);
--   return a;
-- }
abbrev pub halving : Program
halving = program (half ∷ main_of 11 5 (int ∷ int ∷ [])
    (stmt_and (declare_at (place 12 3) 0 (one (call_at (place 12 11) 0 (one (number_at (place 12 16) 7)))))
    (stmt_and (declare_at (place 13 3) 1 (one (call_at (place 13 11) 0 (one (unary_at (place 13 16) unary.Neg (number_at (place 13 17) 1))))))
    (only (return_at (place 14 3) (one (local_at (place 14 10) 0)))))) ∷ []) 1

-- the second call of `half` doesn't meet its `requires`
abbrev pub halving_stops : Type 0
halving_stops = meaning halving [] 1000000 ≡ ([], Stop (site 1 Requires 1))

-- int main() {
--   int x = 6;
--   //@assert x * 7 == 42;
--   //@assert x < 6;
--   return x;
-- }
abbrev pub asserting : Program
asserting = program (main_of 1 5 (int ∷ [])
    (stmt_and (declare_at (place 2 3) 0 (one (number_at (place 2 11) 6)))
    (stmt_and (note_at (place 3 6) assert_note (precisely (value_part (binary_at (place 3 19) op.Equal (binary_at (place 3 15) op.Mul (local_at (place 3 13) 0) (number_at (place 3 17) 7)) (number_at (place 3 22) 42)) no_parts)))
    (stmt_and (note_at (place 4 6) assert_note (precisely (value_part (binary_at (place 4 15) op.Less (local_at (place 4 13) 0) (number_at (place 4 17) 6)) no_parts)))
    (only (return_at (place 5 3) (one (local_at (place 5 10) 0))))))) ∷ []) 0

abbrev pub asserting_stops : Type 0
asserting_stops = meaning asserting [] 1000000 ≡ ([], Stop (site 0 Assert 1))

-- int main() { printint(2147483647 + 1); return 0; }
abbrev pub wrapping : Program
wrapping = program (main_of 1 5 []
    (stmt_and (plain_at (place 1 14) (library_at (place 1 14) library.PrintInt (one (binary_at (place 1 34) op.Add (number_at (place 1 23) 2147483647) (number_at (place 1 36) 1))) None))
    (only (return_at (place 1 40) (one (number_at (place 1 47) 0))))) ∷ []) 0

abbrev pub wrapping_prints : Type 0
wrapping_prints = meaning wrapping [] 1000000 ≡ (codes "-2147483648", Returned record { 0 = 0 })

-- the start, and what the asserts decide
abbrev pub asserting_sites : Type 0
asserting_sites = sites asserting [] 1000000 ≡ site 0 Start 0 ∷ site 0 Assert 0 ∷ site 0 Assert 1 ∷ []
