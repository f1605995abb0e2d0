-- What an `acc` among conjuncts permits behind them.
use Rattle.std.proofs.Common.{◌≡◌, ℕ, Bool, true, false, List, [], ◌∷◌, refl, sym, ap, ◌∙◌}
use Rattle.std.specs.Prelude.{◌||◌, ◌&&◌, eqb}
use Rattle.gc0_tree.specs.Tree.{Tree, Conjuncts, no_parts, value_part, acc_part, instance_part, choice_part}
use Rattle.c0_meaning.specs.Framing.{Permission, same_path, is_permitted}
use Rattle.self_framing.specs.Left.{behind, has_acc}

swapped : (a b c : Bool) → (b || (a || c)) ≡ ((a || b) || c)
swapped true true c = refl
swapped true false c = refl
swapped false b c = refl

pub permitted_behind : (left : List Permission) (cs : Conjuncts) (base : Tree) (field : ℕ) → is_permitted (behind left cs) base field ≡ (has_acc cs base field || is_permitted left base field)
permitted_behind left no_parts base field = refl
permitted_behind left (value_part e rest) base field = permitted_behind left rest base field
permitted_behind left (acc_part e f rest) base field =
    permitted_behind ((e, f) ∷ left) rest base field ∙ swapped (same_path e base && eqb f field) (has_acc rest base field) (is_permitted left base field)
permitted_behind left (instance_part at p es rest) base field = permitted_behind left rest base field
permitted_behind left (choice_part at c these those rest) base field = permitted_behind left rest base field

-- an `acc` of the list itself
pub found_here : (all left : List Permission) (cs : Conjuncts) (base : Tree) (field : ℕ) (here : Bool) → all ≡ behind left cs → here ≡ has_acc cs base field → here ≡ true → here ≡ is_permitted all base field
found_here all left cs base field here seen is holds =
    holds ∙ sym (ap (λ l. is_permitted l base field) seen ∙ permitted_behind left cs base field ∙ ap (λ b. b || is_permitted left base field) (sym is ∙ holds))

-- none of the list, and so those to its left decide
pub found_there : (all left : List Permission) (cs : Conjuncts) (base : Tree) (field : ℕ) (here there : Bool) → all ≡ behind left cs → here ≡ has_acc cs base field → here ≡ false → there ≡ is_permitted left base field → there ≡ is_permitted all base field
found_there all left cs base field here there seen is fails left_of =
    left_of ∙ sym (ap (λ l. is_permitted l base field) seen ∙ permitted_behind left cs base field ∙ ap (λ b. b || is_permitted left base field) (sym is ∙ fails))
