-- The choices of the body of the one instance of a fold or an unfold.
use Rattle.std.proofs.Common.{◌≡◌, ℕ, List, Option, Some, None, slice_get, refl, sym, ap}
use Rattle.std.specs.Option.{option_map}
use Rattle.gc0_base.specs.declared.place.Place.{Place}
use Rattle.gc0_tree.specs.Tree.{Conjuncts, no_parts, value_part, acc_part, instance_part, choice_part, Predicate}
use Rattle.core_meaning.specs.Choices.{body_of, instance_body}
use Rattle.core_meaning.specs.CoreSited.{instance_number}
use Rattle.formula_choices.specs.ChoicePlaces.{choice_places}
use Rattle.core_lower.proofs.Choosing.{given, none_some}

pub no_body : (qs : List Predicate) (parts : Conjuncts) → None ≡ instance_number parts → instance_body qs parts ≡ no_parts
no_body qs no_parts e = refl
no_body qs (value_part x rest) e = refl
no_body qs (acc_part x field rest) e = refl
no_body qs (instance_part at q args rest) e = absurd (none_some q e)
no_body qs (choice_part at c these those rest) e = refl

pub body_at : (qs : List Predicate) (parts : Conjuncts) (n : ℕ) → Some n ≡ instance_number parts → instance_body qs parts ≡ body_of (slice_get qs n)
body_at qs no_parts n e = absurd (none_some n (sym e))
body_at qs (value_part x rest) n e = absurd (none_some n (sym e))
body_at qs (acc_part x field rest) n e = absurd (none_some n (sym e))
body_at qs (instance_part at q args rest) n e = ap (λ m. body_of (slice_get qs m)) (sym (given n q e))
body_at qs (choice_part at c these those rest) n e = absurd (none_some n (sym e))

pub body_none : (o : Option Predicate) → option_map (λ q. choice_places q.body) o ≡ None → body_of o ≡ no_parts
body_none None e = refl
body_none (Some q) e = absurd (none_some (choice_places q.body) (sym e))

pub body_places : (o : Option Predicate) (l : List Place) → option_map (λ q. choice_places q.body) o ≡ Some l → l ≡ choice_places (body_of o)
body_places None l e = absurd (none_some l e)
body_places (Some q) l e = sym (given (choice_places q.body) l e)
