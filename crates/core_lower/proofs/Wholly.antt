-- A whole function, from its start, its statements and its end.
use Rattle.std.proofs.Common.{◌≡◌, ℕ, ◌+◌, List, [], ◌++◌, Some, slice_get, length, sym, subst, ap, ◌∙◌, arith}
use Rattle.gc0_tree.specs.declared.Program as made_program
use Rattle.gc0_tree.specs.declared.Function as made_function
use Rattle.gc0_tree.specs.Views.{program_view, function_view}
use Rattle.core_tree.specs.declared.DecisionAt.{DecisionAt}
use Rattle.core_tree.specs.declared.CoreStmt as made
use Rattle.core_tree.specs.CoreTree.{Code, no_code}
use Rattle.core_tree.specs.CoreViews.{code_view}
use Rattle.core_tables.specs.declared.PlacedSite.{PlacedSite}
use Rattle.lowering_laws.specs.Trees.{join}
use Rattle.lowering_laws.specs.Statements.{stmts_code}
use Rattle.lowering_laws.specs.Lowering.{start_choices, close_code}
use Rattle.lowering_laws.specs.Tables.{start_decisions, close_decisions, stmts_decisions, stmts_placed, close_placed}
use Rattle.core_expressions.specs.declared.within.Within.{Within}
use Rattle.core_expressions.specs.declared.written.Written.{Written}
use Rattle.core_expressions.specs.Writing.{program_of, function_of, places_of, target_of}
use Rattle.core_lower.specs.Parts.{IsNumbered, AreWritten, AreStmts}
use Rattle.core_lower.specs.Wholes.{IsBody}
use Rattle.core_lower.proofs.Joining.{joined}

plus_zero : (n : ℕ) → 0 + n ≡ n
plus_zero n = omega arith

pub numbered : (w : Within) (P : made_program.Program) (F : made_function.Function) (g : ℕ) → w.program.now ≡ P → w.function.now ≡ F → w.number ≡ g →
    slice_get (program_view P).functions g ≡ Some (function_view F) → IsNumbered w
numbered w P F g ep ef eg h =
    subst (λ (x : made_program.Program). slice_get (program_view x).functions w.number ≡ Some (function_view w.function.now)) (sym ep)
    (subst (λ (n : ℕ). slice_get (program_view P).functions n ≡ Some (function_view w.function.now)) (sym eg)
    (subst (λ (x : made_function.Function). slice_get (program_view P).functions g ≡ Some (function_view x)) (sym ef) h))

pub body_done : (w : Within) (o0 o1 o2 o3 : Written) (n : ℕ) → o0.code ≡ [] → o0.decisions ≡ [] → o0.placed ≡ [] →
    AreWritten o0 o1 (length o0.decisions + start_choices (program_of w) w.number (function_of w)) no_code (start_decisions (program_of w) w.number (function_of w)) [] →
    AreStmts w o1 o2 (function_of w).body →
    AreWritten o2 o3 n (close_code (target_of w) (function_of w) (function_of w).result) (close_decisions w.number (function_of w) (function_of w).result) (close_placed (places_of w) (function_of w) (function_of w).result) →
    IsBody (program_of w) w.number (function_of w) o3
body_done w o0 o1 o2 o3 n e1 e2 e3 v1 v2 v3 =
    let p = program_of w in
    let f = function_of w in
    let starts : ℕ = start_choices p w.number f in
    let close : Code = close_code (target_of w) f f.result in
    let code : ℕ → Code = λ m. join (stmts_code p f (target_of w) m f.body) close in
    let ds = start_decisions p w.number f ++ (stmts_decisions p f (places_of w) f.body ++ close_decisions w.number f f.result) in
    let ps = stmts_placed (places_of w) f.body ++ close_placed (places_of w) f f.result in
    let all = joined v1 (joined v2 v3) in
    let first : length o1.decisions ≡ starts = v1.next ∙ ap (λ (l : List DecisionAt). length l + starts) e2 ∙ plus_zero starts in
    record {
      code = all.code ∙ ap (λ (x : List made.CoreStmt). join (code_view x) (code (length o1.decisions))) e1 ∙ ap code first;
      decisions = all.decisions ∙ ap (λ (x : List DecisionAt). x ++ ds) e2;
      placed = all.placed ∙ ap (λ (x : List PlacedSite). x ++ ps) e3;
    }

pub body_of_these : (w : Within) (P : made_program.Program) (F : made_function.Function) (g : ℕ) (o : Written) → w.program.now ≡ P → w.function.now ≡ F → w.number ≡ g →
    IsBody (program_of w) w.number (function_of w) o → IsBody (program_view P) g (function_view F) o
body_of_these w P F g o ep ef eg h =
    subst (λ (x : made_program.Program). IsBody (program_view x) g (function_view F) o) ep
    (subst (λ (n : ℕ). IsBody (program_of w) n (function_view F) o) eg
    (subst (λ (x : made_function.Function). IsBody (program_of w) w.number (function_view x) o) ef h))
