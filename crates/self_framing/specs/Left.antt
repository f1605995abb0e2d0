-- What stands to the left of a read, and what it permits.
use Rattle.std.specs.Prelude.{ℕ, Bool, false, ◌&&◌, ◌||◌, eqb, List, [], ◌∷◌}
use Rattle.gc0_tree.specs.Tree.{Tree, Conjuncts, no_parts, value_part, acc_part, instance_part, choice_part}
use Rattle.gc0_tree.specs.Views.{conjuncts_view}
use Rattle.c0_meaning.specs.Framing.{Permission, same_path}
use Rattle.self_framing.specs.declared.left.Left.{Left, fold-Left}
use Rattle.self_framing.specs.declared.left.Left.TheOpen.{Left-F}

-- what is permitted behind conjuncts: each `acc` among them, and what was permitted before them
abbrev pub behind : List Permission → Conjuncts → List Permission
behind left no_parts = left
behind left (value_part e rest) = behind left rest
behind left (acc_part e f rest) = behind ((e, f) ∷ left) rest
behind left (instance_part at p es rest) = behind left rest
behind left (choice_part at c these those rest) = behind left rest

-- with what the rest permits in its stead
abbrev pub link : Left-F (List Permission) → List Permission
link Left-F.Nothing = []
link (Left-F.Behind parts outer) = behind outer.now (conjuncts_view parts.now)

abbrev pub permitted : Left → List Permission
permitted = fold-Left (List Permission) link

-- whether there is an `acc` of this field of this path among conjuncts
abbrev pub has_acc : Conjuncts → (base : Tree) → (field : ℕ) → Bool
has_acc no_parts base field = false
has_acc (value_part e rest) base field = has_acc rest base field
has_acc (acc_part e f rest) base field = (same_path e base && eqb f field) || has_acc rest base field
has_acc (instance_part at p es rest) base field = has_acc rest base field
has_acc (choice_part at c these those rest) base field = has_acc rest base field
