-- Whether one of the statements of a code is such a one, of code after code.
use Rattle.std.proofs.Common.{◌≡◌, Bool, true, false, ◌||◌, refl, sym, ap, ◌∙◌}
use Rattle.core_tree.specs.CoreTree.{CoreStmt, Code, no_code, code_and}
use Rattle.lowering_laws.specs.Trees.{join}

pub or_none : (x : Bool) → (x || false) ≡ x
or_none true = refl
or_none false = refl

or_grouped : (x y z : Bool) → ((x || y) || z) ≡ (x || (y || z))
or_grouped true y z = refl
or_grouped false y z = refl

pub or_swap : (x y : Bool) → (x || y) ≡ (y || x)
or_swap true true = refl
or_swap true false = refl
or_swap false true = refl
or_swap false false = refl

pub or_same : (x y u v : Bool) → x ≡ u → y ≡ v → (x || y) ≡ (u || v)
or_same x y u v h k = ap (λ z. z || y) h ∙ ap (λ z. u || z) k

-- one statement with two parts
pub two_parts : (x y u v : Bool) → x ≡ u → y ≡ v → ((x || y) || false) ≡ (u || v)
two_parts x y u v h k = or_none (x || y) ∙ or_same x y u v h k

module _ (such : CoreStmt → Bool) (any : Code → Bool) (none : any no_code ≡ false) (more : (s : CoreStmt) (c : Code) → any (code_and s c) ≡ (such s || any c)) where
  any_join : (c d : Code) → any (join c d) ≡ (any c || any d)
  any_join no_code d = ap (λ x. x || any d) (sym none)
  any_join (code_and s c) d = more s (join c d) ∙ ap (λ x. such s || x) (any_join c d) ∙ sym (or_grouped (such s) (any c) (any d)) ∙ ap (λ x. x || any d) (sym (more s c))

  -- one code after the other
  pub joined : (c d : Code) (x y : Bool) → any c ≡ x → any d ≡ y → any (join c d) ≡ (x || y)
  joined c d x y h k = any_join c d ∙ or_same (any c) (any d) x y h k

  -- the same where the second has no such statement
  pub joined_first : (c d : Code) (x : Bool) → any c ≡ x → any d ≡ false → any (join c d) ≡ x
  joined_first c d x h k = joined c d x false h k ∙ or_none x
