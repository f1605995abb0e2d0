-- That an `else` of a text that was read has one statement.
use Rattle.std.proofs.Common.{◌≡◌, ℕ, true, ◌&&◌, List, [], ◌∷◌, map, refl, subst}
use Rattle.std.specs.Prelude.{IsTrue, All}
use Rattle.std.proofs.lemmas.Bool.{and_from}
use Rattle.std.proofs.lemmas.List.Elements.{All-nil, All-cons}
use Rattle.parsed_tree.specs.Tree.{ProgramTree}
use Rattle.c0_grammar.specs.Tokens.{Token}
use Rattle.c0_grammar.specs.Texts.{Line, simple_line, braces, ifs, ifs_else, whiles, fors, returns, asserts, raises, notes, Lines, no_lines, line_and, line_tree, line_trees, ItemText, names_struct, defines_struct, defines_type, declares_function, defines_function, defines_predicates, item_tree}
use Rattle.c0_grammar.specs.Reads.{Reads}
use Rattle.resolved_laws.proofs.Elses.{one_else, ones_else, item_elses, OneElse}

mutual
  line_one : (l : Line) → one_else (line_tree l) ≡ true
  line_one (simple_line s c) = refl
  line_one (braces a ls b) = lines_one ls
  line_one (ifs at a x b l) = and_from (one_else (line_tree l)) true (line_one l) refl
  line_one (ifs_else at a x b l e m) =
      let other = one_else (line_tree m) in
      and_from (one_else (line_tree l)) (true && (other && true)) (line_one l) (and_from other true (line_one m) refl)
  line_one (whiles at a x b is l) = line_one l
  line_one (fors at a s c x d t b is l) = line_one l
  line_one (returns at x c) = refl
  line_one (asserts at a x b c) = refl
  line_one (raises at a t bytes b c) = refl
  line_one (notes o ns e) = refl

  lines_one : (ls : Lines) → ones_else (line_trees ls) ≡ true
  lines_one no_lines = refl
  lines_one (line_and l ls) = and_from (one_else (line_tree l)) (ones_else (line_trees ls)) (line_one l) (lines_one ls)

item_one : (i : ItemText) → item_elses (item_tree i) ≡ true
item_one (names_struct at n name c) = refl
item_one (defines_struct at n name a fs b c) = refl
item_one (defines_type at t n name c) = refl
item_one (declares_function h cs c) = refl
item_one (defines_function h cs a ls b) = lines_one ls
item_one (defines_predicates o qs e) = refl

items_one : (is : List ItemText) → All (λ i. IsTrue (item_elses i)) (map item_tree is)
items_one [] = All-nil (λ i. IsTrue (item_elses i))
items_one (i ∷ is) = All-cons (λ j. IsTrue (item_elses j)) (item_tree i) (map item_tree is) (item_one i) (items_one is)

pub read_elses : (limit : ℕ) (ts : List Token) (t : ProgramTree) → Reads limit ts t → OneElse t
read_elses limit ts t reads = subst OneElse reads.program.tree (items_one reads.program.text.items)
