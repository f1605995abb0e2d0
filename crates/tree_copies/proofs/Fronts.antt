-- Conjuncts before others, as one is pushed.
use Rattle.std.proofs.Common.{◌≡◌, List, [], ◌∷◌, ◌++◌, map, refl, ap}
use Rattle.gc0_tree.specs.declared.Conjunct.{Conjunct}
use Rattle.gc0_tree.specs.Views.{conjunct_view, in_front}
use Rattle.gc0_tree.specs.Tree.{Conjuncts}

abbrev pub parts_before : List Conjunct → Conjuncts → Conjuncts
parts_before cs rest = in_front (map conjunct_view cs) rest

pub part_pushed : (cs : List Conjunct) (c : Conjunct) (rest : Conjuncts) → parts_before (cs ++ c ∷ []) rest ≡ parts_before cs (conjunct_view c rest)
part_pushed [] c rest = refl
part_pushed (x ∷ cs) c rest = ap (conjunct_view x) (part_pushed cs c rest)
