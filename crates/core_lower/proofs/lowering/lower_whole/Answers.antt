use Rattle.std.proofs.Common.{◌≡◌, ℕ, List, map, rules, ap, ◌∙◌}
use Rattle.gc0_tree.specs.Tree as tree
use Rattle.gc0_tree.specs.Views.{struct_view, predicate_view, program_view}
use Rattle.core_tree.specs.CoreTree as core
use Rattle.core_tree.specs.CoreViews.{core_function_view}
use Rattle.lowering_laws.specs.Lowering.{lowered_from}
use Rattle.core_lower.specs.Wholes.{beside_of}
use Rattle.core_lower.proofs.lowering.lower_whole.Goals as goal

pub returns-clause-core : goal.returns-clause-core
returns-clause-core c =
    let p : tree.Program = program_view c.args.program.now in
    let marks = c.in_ok-marks.marks in
    let built : List tree.Struct → List tree.Predicate → List core.CoreFunction → List (List ℕ) → core.Core =
    λ structs predicates functions texts. record { structs = structs; predicates = predicates; functions = functions; main = p.main; texts = texts } in
    let e_structs : map struct_view c.in_ok-structs.structs ≡ p.structs = search rules in
    let e_predicates : map predicate_view c.in_ok-predicates.predicates ≡ p.predicates = search rules in
    let e_texts : c.in_ok-texts.texts ≡ p.texts = search rules in
    let e_functions : map core_function_view c.in_ok-functions.functions.list ≡ lowered_from (beside_of p marks) p 0 p.functions = search rules in
    record {
      marks = marks;
      are_marks = c.in_ok-marks.ensures;
      core = ap (λ x. built x (map predicate_view c.in_ok-predicates.predicates) (map core_function_view c.in_ok-functions.functions.list) c.in_ok-texts.texts) e_structs
          ∙ ap (λ x. built p.structs x (map core_function_view c.in_ok-functions.functions.list) c.in_ok-texts.texts) e_predicates
          ∙ ap (λ x. built p.structs p.predicates x c.in_ok-texts.texts) e_functions
          ∙ ap (λ x. built p.structs p.predicates (lowered_from (beside_of p marks) p 0 p.functions) x) e_texts;
    }
