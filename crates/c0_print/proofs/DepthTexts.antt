-- What is written for the statements and items of a text that the grammar allows is no deeper.
use Rattle.std.proofs.Common.{◌≡◌, ℕ, ◌+◌, ◌≤◌, max, List, [], ◌∷◌, map, Option, Some, None, refl, arith}
use Rattle.c0_grammar.specs.Lists.{Each, depth_all}
use Rattle.c0_grammar.specs.Written.{Written, tree_of, args_trees, depth, depth_args}
use Rattle.c0_grammar.specs.Allowed.{code, conjunct, value, Good}
use Rattle.c0_grammar.specs.Texts.{NoteText, asserts_note, folds_note, unfolds_note, note_tree, depth_note, InvariantText, invariant_tree, depth_invariant, InvariantsText, invariants_tree, depth_invariants, SimpleText, declares, declares_as, assigns, steps, evaluates, simple_tree, depth_simple, tree_option, depth_option, Line, simple_line, braces, ifs, ifs_else, whiles, fors, returns, asserts, raises, notes, Lines, no_lines, line_and, line_tree, line_trees, depth_notes, depth_line, depth_lines, ClauseText, clause_tree, depth_clause, ContractText, contract_tree, depth_contract, PredicateWritten, predicate_tree, depth_predicate, ItemText, names_struct, defines_struct, defines_type, declares_function, defines_function, defines_predicates, item_tree, depth_item, ProgramText, program_tree, depth_program}
use Rattle.c0_grammar.specs.Grammar.{GoodNote, GoodInvariant, GoodInvariants, GoodSimple, GoodOption, GoodLast, GoodLine, GoodLines, GoodClause, GoodContract, GoodPredicate, GoodItem, names_behind, GoodItems}
use Rattle.c0_print.specs.Printing.{written, args_of, note_of, invariant_of, invariants_of, simple_of, line_of, lines_of, clause_of, contract_of, predicate_of, item_of, text_of}
use Rattle.c0_print.proofs.Depths.{up, max_le, thin_expr, thin_args, thin_formula}

none : 0 ≤ 0
none = omega arith

-- of each part, where it is so of one
each_thin : {A B : Type 0} (P : A → Type 0) (tree : A → B) (of : B → A) (d : A → ℕ) → ((x : A) → P x → d (of (tree x)) ≤ d x) → (xs : List A) → Each P xs → depth_all d (map of (map tree xs)) ≤ depth_all d xs
each_thin P tree of d one [] g = none
each_thin P tree of d one (x ∷ xs) g = max_le (d (of (tree x))) (depth_all d (map of (map tree xs))) (d x) (depth_all d xs) (one x g.0) (each_thin P tree of d one xs g.1)

option_thin : {A B : Type 0} (P : A → Type 0) (tree : A → B) (of : B → A) (d : A → ℕ) → ((x : A) → P x → d (of (tree x)) ≤ d x) → (x : Option A) → GoodOption P x → depth_option d (tree_option of (tree_option tree x)) ≤ depth_option d x
option_thin P tree of d one None g = none
option_thin P tree of d one (Some x) g = one x g

module _ (names : List (List ℕ)) where
  note_thin : (n : NoteText) → GoodNote names n → depth_note (note_of (note_tree n)) ≤ depth_note n
  note_thin (asserts_note at f c) g = thin_formula names f g
  note_thin (folds_note at n name a xs b c) g = up (depth_args (args_of (args_trees xs))) (depth_args xs) (thin_args names value xs g.1)
  note_thin (unfolds_note at n name a xs b c) g = up (depth_args (args_of (args_trees xs))) (depth_args xs) (thin_args names value xs g.1)

  notes_thin : (ns : List NoteText) → Each (GoodNote names) ns → depth_notes (map note_of (map note_tree ns)) ≤ depth_notes ns
  notes_thin [] g = none
  notes_thin (n ∷ ns) g =
      up (max (depth_note (note_of (note_tree n))) (depth_all depth_note (map note_of (map note_tree ns)))) (max (depth_note n) (depth_all depth_note ns))
      (max_le (depth_note (note_of (note_tree n))) (depth_all depth_note (map note_of (map note_tree ns))) (depth_note n) (depth_all depth_note ns)
      (note_thin n g.0) (each_thin (GoodNote names) note_tree note_of depth_note note_thin ns g.1))

  invariant_thin : (i : InvariantText) → GoodInvariant names i → depth_invariant (invariant_of (invariant_tree i)) ≤ depth_invariant i
  invariant_thin i g = thin_formula names i.formula g

  invariants_thin : (i : InvariantsText) → GoodInvariants names i → depth_invariants (invariants_of (invariants_tree i)) ≤ depth_invariants i
  invariants_thin i g = each_thin (GoodInvariant names) invariant_tree invariant_of depth_invariant invariant_thin i.clauses g

  all_thin : (is : List InvariantsText) → Each (GoodInvariants names) is → depth_all depth_invariants (map invariants_of (map invariants_tree is)) ≤ depth_all depth_invariants is
  all_thin is g = each_thin (GoodInvariants names) invariants_tree invariants_of depth_invariants invariants_thin is g

  simple_thin : (s : SimpleText) → GoodSimple names s → depth_simple (simple_of (simple_tree s)) ≤ depth_simple s
  simple_thin (declares t n name) g = none
  simple_thin (declares_as t n name q x) g = thin_expr names code x g.2
  simple_thin (assigns x q o y) g = max_le (depth (written (tree_of x))) (depth (written (tree_of y))) (depth x) (depth y) (thin_expr names code x g.0) (thin_expr names code y g.2)
  simple_thin (steps x q o) g = thin_expr names code x g.0
  simple_thin (evaluates x) g = thin_expr names code x g

  last_thin : (s : SimpleText) → GoodLast names s → depth_simple (simple_of (simple_tree s)) ≤ depth_simple s
  last_thin s g = simple_thin s g.0

  two_parts : (a b c d : ℕ) → a ≤ c → b ≤ d → max a b + 1 ≤ max c d + 1
  two_parts a b c d h k = up (max a b) (max c d) (max_le a b c d h k)

  mutual
    line_thin : (l : Line) → GoodLine names l → depth_line (line_of (line_tree l)) ≤ depth_line l
    line_thin (simple_line s c) g = up (depth_simple (simple_of (simple_tree s))) (depth_simple s) (simple_thin s g)
    line_thin (braces a ls b) g = up (depth_lines (lines_of (line_trees ls))) (depth_lines ls) (lines_thin ls g)
    line_thin (ifs at a x b l) g = two_parts (depth (written (tree_of x))) (depth_line (line_of (line_tree l))) (depth x) (depth_line l) (thin_expr names code x g.0) (line_thin l g.1)
    line_thin (ifs_else at a x b l e m) g =
        let u = depth_line (line_of (line_tree l)) in
        let v = depth_line (line_of (line_tree m)) in
        two_parts (depth (written (tree_of x))) (max u v) (depth x) (max (depth_line l) (depth_line m)) (thin_expr names code x g.0)
        (max_le u v (depth_line l) (depth_line m) (line_thin l g.1) (line_thin m g.4))
    line_thin (whiles at a x b is l) g =
        let u = depth_all depth_invariants (map invariants_of (map invariants_tree is)) in
        let v = depth_line (line_of (line_tree l)) in
        two_parts (depth (written (tree_of x))) (max u v) (depth x) (max (depth_all depth_invariants is) (depth_line l)) (thin_expr names code x g.0)
        (max_le u v (depth_all depth_invariants is) (depth_line l) (all_thin is g.1) (line_thin l g.2))
    line_thin (fors at a s c x d t b is l) g =
        let p = depth_option depth_simple (tree_option simple_of (tree_option simple_tree s)) in
        let q = depth (written (tree_of x)) in
        let r = depth_option depth_simple (tree_option simple_of (tree_option simple_tree t)) in
        let u = depth_all depth_invariants (map invariants_of (map invariants_tree is)) in
        let v = depth_line (line_of (line_tree l)) in
        let p' = depth_option depth_simple s in
        let r' = depth_option depth_simple t in
        let u' = depth_all depth_invariants is in
        two_parts p (max q (max r (max u v))) p' (max (depth x) (max r' (max u' (depth_line l)))) (option_thin (GoodSimple names) simple_tree simple_of depth_simple simple_thin s g.0)
        (max_le q (max r (max u v)) (depth x) (max r' (max u' (depth_line l))) (thin_expr names code x g.1)
        (max_le r (max u v) r' (max u' (depth_line l)) (option_thin (GoodLast names) simple_tree simple_of depth_simple last_thin t g.2)
        (max_le u v u' (depth_line l) (all_thin is g.3) (line_thin l g.4))))
    line_thin (returns at x c) g =
        up (depth_option depth (tree_option written (tree_option tree_of x))) (depth_option depth x) (option_thin (Good names code) tree_of written depth (thin_expr names code) x g)
    line_thin (asserts at a x b c) g = up (depth (written (tree_of x))) (depth x) (thin_expr names code x g)
    line_thin (raises at a t bytes b c) g = omega arith
    line_thin (notes o ns e) g = notes_thin ns g

    lines_thin : (ls : Lines) → GoodLines names ls → depth_lines (lines_of (line_trees ls)) ≤ depth_lines ls
    lines_thin no_lines g = none
    lines_thin (line_and l ls) g = max_le (depth_line (line_of (line_tree l))) (depth_lines (lines_of (line_trees ls))) (depth_line l) (depth_lines ls) (line_thin l g.0) (lines_thin ls g.1)

  clause_thin : (i : ClauseText) → GoodClause names i → depth_clause (clause_of (clause_tree i)) ≤ depth_clause i
  clause_thin i g = thin_formula names i.formula g

  contract_thin : (i : ContractText) → GoodContract names i → depth_contract (contract_of (contract_tree i)) ≤ depth_contract i
  contract_thin i g = each_thin (GoodClause names) clause_tree clause_of depth_clause clause_thin i.clauses g

  contracts_thin : (is : List ContractText) → Each (GoodContract names) is → depth_all depth_contract (map contract_of (map contract_tree is)) ≤ depth_all depth_contract is
  contracts_thin is g = each_thin (GoodContract names) contract_tree contract_of depth_contract contract_thin is g

  predicate_thin : (p : PredicateWritten) → GoodPredicate names p → depth_predicate (predicate_of (predicate_tree p)) ≤ depth_predicate p
  predicate_thin p g = thin_expr names conjunct p.body g.body

  item_thin : (i : ItemText) → GoodItem names i → depth_item (item_of (item_tree i)) ≤ depth_item i
  item_thin (names_struct at n name c) g = none
  item_thin (defines_struct at n name a fs b c) g = none
  item_thin (defines_type at t n name c) g = none
  item_thin (declares_function h cs c) g = contracts_thin cs g.1
  item_thin (defines_function h cs a ls b) g =
      max_le (depth_all depth_contract (map contract_of (map contract_tree cs))) (depth_lines (lines_of (line_trees ls)) + 1) (depth_all depth_contract cs) (depth_lines ls + 1)
      (contracts_thin cs g.1) (up (depth_lines (lines_of (line_trees ls))) (depth_lines ls) (lines_thin ls g.2))
  item_thin (defines_predicates o ps e) g = each_thin (GoodPredicate names) predicate_tree predicate_of depth_predicate predicate_thin ps g

items_thin : (names : List (List ℕ)) (is : List ItemText) → GoodItems names is → depth_all depth_item (map item_of (map item_tree is)) ≤ depth_all depth_item is
items_thin names [] g = none
items_thin names (i ∷ is) g =
    max_le (depth_item (item_of (item_tree i))) (depth_all depth_item (map item_of (map item_tree is))) (depth_item i) (depth_all depth_item is)
    (item_thin names i g.0) (items_thin (names_behind names i) is g.1)

pub program_thin : (p : ProgramText) → GoodItems [] p.items → depth_program (text_of (program_tree p)) ≤ depth_program p
program_thin p g = items_thin [] p.items g
