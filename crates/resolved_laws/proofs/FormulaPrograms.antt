-- That the formulas of the resolved program of a text have no calls.
use Rattle.std.proofs.Common.{ℕ, List, [], ◌∷◌, map, All, refl, subst}
use Rattle.std.proofs.lemmas.List.Elements.{All-nil, All-cons, All-append}
use Rattle.gc0_base.specs.declared.place.Place.{Place}
use Rattle.parsed_tree.specs.declared.items.Side.TheVariants.{Requires, Ensures}
use Rattle.gc0_tree.specs.Tree as gc0
use Rattle.c0_names.specs.declared.types.ValueType.TheVariants.{Void}
use Rattle.c0_names.specs.declared.tables.Tables.{Tables}
use Rattle.c0_names.specs.Tables.{result_type, tables_of}
use Rattle.c0_grammar.specs.Lists.{Each}
use Rattle.c0_grammar.specs.Written.{tree_of}
use Rattle.c0_grammar.specs.Texts.{HeadText, head_tree, ContractText, contract_tree, Lines, line_trees, PredicateWritten, predicate_tree as parsed_predicate, ItemText, defines_function, defines_predicates, item_tree, program_tree}
use Rattle.c0_grammar.specs.Grammar.{GoodContract, GoodLines, GoodPredicate, GoodItem, GoodItems, names_behind}
use Rattle.c0_value_numbers.specs.declared.frame.Frame.{Frame}
use Rattle.c0_value_numbers.specs.Texts.{Texts}
use Rattle.c0_value_numbers.specs.Formulas.{side_contracts}
use Rattle.c0_numbers.specs.StatementTexts.{item_texts}
use Rattle.c0_numbers.specs.Resolved.{params_of, predicate_tree, function_tree, item_predicates, predicates_tree, item_functions, functions_tree, resolved}
use Rattle.lowering_laws.specs.Formulas.{FunctionFormulas, PredicateFormula, FormulasFit}
use Rattle.resolved_laws.specs.Laws.{formulas_law}
use Rattle.resolved_laws.proofs.FormulaValues.{parts_without}
use Rattle.resolved_laws.proofs.FormulaTexts.{written_parts, written_contracts}
use Rattle.resolved_laws.proofs.FormulaStatements.{joined_without, lines_without}

module _ (t : Tables) where
  -- ---- predicates
  predicate_fits : (names : List (List ℕ)) (q : PredicateWritten) → GoodPredicate names q → PredicateFormula (predicate_tree t (parsed_predicate q))
  predicate_fits names q h =
      let locals = params_of t (parsed_predicate q).params in
      parts_without t (record { locals = locals; result = Void }) (tree_of q.body) gc0.no_parts (written_parts names q.body h.body) refl

  predicates_fit : (names : List (List ℕ)) (qs : List PredicateWritten) → Each (GoodPredicate names) qs → All PredicateFormula (map (predicate_tree t) (map parsed_predicate qs))
  predicates_fit names [] h = All-nil PredicateFormula
  predicates_fit names (q ∷ qs) h =
      All-cons PredicateFormula (predicate_tree t (parsed_predicate q)) (map (predicate_tree t) (map parsed_predicate qs)) (predicate_fits names q h.0) (predicates_fit names qs h.1)

  item_predicates_fit : (names : List (List ℕ)) (i : ItemText) → GoodItem names i → All PredicateFormula (item_predicates t (item_tree i))
  item_predicates_fit names (defines_predicates o qs e) h = predicates_fit names qs h
  item_predicates_fit names i h = All-nil PredicateFormula

  all_predicates_fit : (names : List (List ℕ)) (is : List ItemText) → GoodItems names is → All PredicateFormula (predicates_tree t (map item_tree is))
  all_predicates_fit names [] h = All-nil PredicateFormula
  all_predicates_fit names (i ∷ is) h =
      All-append PredicateFormula (item_predicates t (item_tree i)) (predicates_tree t (map item_tree is)) (item_predicates_fit names i h.0) (all_predicates_fit (names_behind names i) is h.1)

  -- ---- functions
  function_fits : (names : List (List ℕ)) (ts : Texts) (g : HeadText) (cs : List ContractText) (ls : Lines) (close : Place) → Each (GoodContract names) cs → GoodLines names ls →
      FunctionFormulas (function_tree t ts (head_tree g) (map contract_tree cs) (line_trees ls) close)
  function_fits names ts g cs ls close good lines =
      let start : Frame = record { locals = params_of t (head_tree g).params; result = result_type t (head_tree g).result } in
      record {
        before = joined_without t start (side_contracts Requires (map contract_tree cs)) (written_contracts names Requires cs good);
        after = joined_without t start (side_contracts Ensures (map contract_tree cs)) (written_contracts names Ensures cs good);
        body = lines_without t names start ts ls lines;
      }

  item_functions_fit : (names : List (List ℕ)) (ts : Texts) (i : ItemText) → GoodItem names i → All FunctionFormulas (item_functions t ts (item_tree i))
  item_functions_fit names ts (defines_function g cs a ls b) h =
      All-cons FunctionFormulas (function_tree t ts (head_tree g) (map contract_tree cs) (line_trees ls) b) [] (function_fits names ts g cs ls b h.1 h.2) (All-nil FunctionFormulas)
  item_functions_fit names ts i h = All-nil FunctionFormulas

  all_functions_fit : (names : List (List ℕ)) (ts : Texts) (is : List ItemText) → GoodItems names is → All FunctionFormulas (functions_tree t ts (map item_tree is))
  all_functions_fit names ts [] h = All-nil FunctionFormulas
  all_functions_fit names ts (i ∷ is) h =
      let behind = item_texts ts (item_tree i) in
      All-append FunctionFormulas (item_functions t ts (item_tree i)) (functions_tree t behind (map item_tree is)) (item_functions_fit names ts i h.0) (all_functions_fit (names_behind names i) behind is h.1)

-- ---- programs
pub formulas_fit : formulas_law
formulas_fit limit ts t reads =
    let text = reads.program.text in
    let good = reads.program.good in
    let parsed = program_tree text in
    let fits : FormulasFit (resolved parsed) = record { predicates = all_predicates_fit (tables_of parsed) [] text.items good; functions = all_functions_fit (tables_of parsed) [] [] text.items good } in
    subst (λ p. FormulasFit (resolved p)) reads.program.tree fits
