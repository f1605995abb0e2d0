-- That the formulas among the numbered statements of a text have no calls.
use Rattle.std.proofs.Common.{◌≡◌, ℕ, true, ◌&&◌, List, [], ◌∷◌, map, Option, Some, None, refl}
use Rattle.std.proofs.lemmas.Bool.{and_parts, and_from}
use Rattle.gc0_base.specs.declared.place.Place.{Place}
use Rattle.parsed_tree.specs.Tree.{ExprTree, local, arrow, FormulaTree, SimpleTree, declare, assign, stepped, plain}
use Rattle.gc0_tree.specs.declared.ExprOp.{ExprOp}
use Rattle.gc0_tree.specs.Tree as gc0
use Rattle.c0_names.specs.declared.tables.Tables.{Tables}
use Rattle.c0_grammar.specs.Allowed.{value, GoodArgs}
use Rattle.c0_grammar.specs.Lists.{Each}
use Rattle.c0_grammar.specs.Written.{Args, tree_of, args_trees, formula_tree}
use Rattle.c0_grammar.specs.Texts.{NoteText, asserts_note, folds_note, unfolds_note, note_tree, simple_tree as parsed_simple, tree_option, invariants_tree, InvariantsText, Line, simple_line, braces, ifs, ifs_else, whiles, fors, returns, asserts, raises, notes, Lines, no_lines, line_and, line_tree, line_trees}
use Rattle.c0_grammar.specs.Grammar.{GoodNote, GoodInvariants, GoodLine, GoodLines}
use Rattle.c0_value_numbers.specs.declared.frame.Frame.{Frame}
use Rattle.c0_value_numbers.specs.Texts.{Texts, expr_texts}
use Rattle.c0_value_numbers.specs.Formulas.{values_tree, optional_parts, joined, invariants}
use Rattle.c0_numbers.specs.StatementTexts.{part_texts, stmt_texts}
use Rattle.c0_numbers.specs.Statements.{part_frame, stmt_frame, put_tree, simple_tree, part_tree, note_form, notes_tree, alone, before, stmt_tree, stmts_tree}
use Rattle.lowering_laws.specs.Formulas.{trees_without_calls, parts_without_calls, stmt_formulas, stmts_formulas}
use Rattle.resolved_laws.proofs.FormulaValues.{IsFormula, values_without, optional_without, all_without}
use Rattle.resolved_laws.proofs.FormulaTexts.{args_values, written_formula, written_invariants}

-- an annotation alone
alone_fits : (at : Place) (ss : gc0.Stmts) → stmts_formulas ss ≡ true → stmt_formulas (alone at ss) ≡ true
alone_fits at gc0.no_stmts h = refl
alone_fits at (gc0.stmt_and s gc0.no_stmts) h = (and_parts (stmt_formulas s) true h).0
alone_fits at (gc0.stmt_and s (gc0.stmt_and r ss)) h = h

module _ (t : Tables) where
  -- ---- simple statements state nothing
  put_fits : (f : Frame) (ts : Texts) (x : ExprTree) (o : Option ExprOp) (q : Place) (y : gc0.Tree) → stmt_formulas (put_tree t f ts x o q y) ≡ true
  put_fits f ts (local s n) o q y = refl
  put_fits f ts (arrow s x n) o q y = refl
  put_fits f ts x o q y = refl

  simple_fits : (f : Frame) (ts : Texts) (s : SimpleTree) → stmt_formulas (simple_tree t f ts s) ≡ true
  simple_fits f ts (declare n name v) = refl
  simple_fits f ts (assign x q o y) = put_fits f ts x _ q _
  simple_fits f ts (stepped x q o) = put_fits f ts x _ q _
  simple_fits f ts (plain x) = refl

  part_fits : (f : Frame) (ts : Texts) (o : Option SimpleTree) → stmts_formulas (part_tree t f ts o) ≡ true
  part_fits f ts None = refl
  part_fits f ts (Some s) = and_from (stmt_formulas (simple_tree t f ts s)) true (simple_fits f ts s) refl

  -- ---- clauses joined
  pub joined_without : (f : Frame) (gs : List FormulaTree) → Each IsFormula gs → parts_without_calls (joined t f gs).parts ≡ true
  joined_without f gs h = all_without t f gs gc0.no_parts h refl

  module _ (names : List (List ℕ)) where
    -- ---- annotations
    instance_without : (f : Frame) (xs : Args) → GoodArgs names value xs → ((trees_without_calls (values_tree t f (args_trees xs)) && true) && true) ≡ true
    instance_without f xs h =
        let free = trees_without_calls (values_tree t f (args_trees xs)) in
        and_from (free && true) true (and_from free true (values_without t f [] (args_trees xs) (args_values names xs h)) refl) refl

    note_without : (f : Frame) (n : NoteText) → GoodNote names n → stmt_formulas (note_form t f (note_tree n).place (note_tree n).form) ≡ true
    note_without f (asserts_note at g c) h =
        let stated = (formula_tree g).parts in
        and_from (parts_without_calls (optional_parts t f stated gc0.no_parts)) true (optional_without t f stated gc0.no_parts (written_formula names g h) refl) refl
    note_without f (folds_note at n name a xs b c) h = instance_without f xs h.1
    note_without f (unfolds_note at n name a xs b c) h = instance_without f xs h.1

    notes_without : (f : Frame) (ns : List NoteText) (rest : gc0.Stmts) → Each (GoodNote names) ns → stmts_formulas rest ≡ true → stmts_formulas (notes_tree t f (map note_tree ns) rest) ≡ true
    notes_without f [] rest h k = k
    notes_without f (n ∷ ns) rest h k =
        and_from (stmt_formulas (note_form t f (note_tree n).place (note_tree n).form)) (stmts_formulas (notes_tree t f (map note_tree ns) rest)) (note_without f n h.0) (notes_without f ns rest h.1 k)

    loop_without : (f : Frame) (is : List InvariantsText) → Each (GoodInvariants names) is → parts_without_calls (joined t f (invariants (map invariants_tree is))).parts ≡ true
    loop_without f is h = joined_without f (invariants (map invariants_tree is)) (written_invariants names is h)

    -- ---- statements
    before_without : (f : Frame) (l : Line) (s : gc0.Stmt) (rest : gc0.Stmts) → GoodLine names l → stmt_formulas s ≡ true → stmts_formulas rest ≡ true → stmts_formulas (before t f (line_tree l) s rest) ≡ true
    before_without f (notes o ns e) s rest h i k = notes_without f ns rest h k
    before_without f l s rest h i k = and_from (stmt_formulas s) (stmts_formulas rest) i k

    mutual
      line_without : (f : Frame) (ts : Texts) (l : Line) → GoodLine names l → stmt_formulas (stmt_tree t f ts (line_tree l)) ≡ true
      line_without f ts (simple_line s c) h = simple_fits f ts (parsed_simple s)
      line_without f ts (braces a ls b) h = lines_without f ts ls h
      line_without f ts (ifs at a x b l) h = and_from (stmt_formulas (stmt_tree t f (expr_texts ts (tree_of x)) (line_tree l))) true (line_without f (expr_texts ts (tree_of x)) l h.1) refl
      line_without f ts (ifs_else at a x b l e m) h =
          let inner = expr_texts ts (tree_of x) in
          let behind = stmt_frame t f (line_tree l) in
          let later = stmt_texts inner (line_tree l) in
          let other = stmt_formulas (stmt_tree t behind later (line_tree m)) in
          and_from (stmt_formulas (stmt_tree t f inner (line_tree l))) (other && true) (line_without f inner l h.1) (and_from other true (line_without behind later m h.4) refl)
      line_without f ts (whiles at a x b is l) h =
          let inner = expr_texts ts (tree_of x) in
          and_from (parts_without_calls (joined t f (invariants (map invariants_tree is))).parts) (stmt_formulas (stmt_tree t f inner (line_tree l))) (loop_without f is h.1) (line_without f inner l h.2)
      line_without f ts (fors at a s c x d last b is l) h =
          let first = tree_option parsed_simple s in
          let step = tree_option parsed_simple last in
          let inner = part_frame t f first in
          let behind_test = expr_texts (part_texts ts first) (tree_of x) in
          let behind = part_frame t inner step in
          let later = part_texts behind_test step in
          let begun = stmts_formulas (part_tree t f ts first) in
          let ended = stmts_formulas (part_tree t inner behind_test step) in
          let states = parts_without_calls (joined t behind (invariants (map invariants_tree is))).parts in
          let body = stmt_formulas (stmt_tree t behind later (line_tree l)) in
          and_from begun (ended && (states && body)) (part_fits f ts first)
          (and_from ended (states && body) (part_fits inner behind_test step) (and_from states body (loop_without behind is h.3) (line_without behind later l h.4)))
      line_without f ts (returns at x c) h = refl
      line_without f ts (asserts at a x b c) h = refl
      line_without f ts (raises at a text bytes b c) h = refl
      line_without f ts (notes o ns e) h = alone_fits o (notes_tree t f (map note_tree ns) gc0.no_stmts) (notes_without f ns gc0.no_stmts h refl)

      pub lines_without : (f : Frame) (ts : Texts) (ls : Lines) → GoodLines names ls → stmts_formulas (stmts_tree t f ts (line_trees ls)) ≡ true
      lines_without f ts no_lines h = refl
      lines_without f ts (line_and l ls) h =
          let behind = stmt_frame t f (line_tree l) in
          let later = stmt_texts ts (line_tree l) in
          before_without f l (stmt_tree t f ts (line_tree l)) (stmts_tree t behind later (line_trees ls)) h.0 (line_without f ts l h.0) (lines_without behind later ls h.1)
