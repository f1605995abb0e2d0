-- Parentheses where precedence needs them, and the place of what is only printed.
use Rattle.std.specs.Prelude.{◌≡◌, ℕ, nat_le, Bool, true, false, List, [], ◌++◌, codes, if◌then◌else◌, refl}
use Rattle.std.proofs.lemmas.List.{append-nil}
use Rattle.gc0_base.specs.declared.place.Place.{Place}
use Rattle.c0_grammar.specs.Written.{Written, round}
use Rattle.c0_grammar.specs.Allowed.{height, is_primary}
use Rattle.c0_layout.specs.Layout.{expr_text}

-- what is printed stands nowhere yet
abbrev pub nowhere : Place
nowhere = record { line = 0; column = 0 }

abbrev pub rounded : Bool → Written → Written
rounded true w = round nowhere w nowhere
rounded false w = w

abbrev pub open_text : Bool → List ℕ
open_text true = codes "("
open_text false = []

abbrev pub close_text : Bool → List ℕ
close_text true = codes ")"
close_text false = []

-- where nothing may stand that binds less than this
abbrev pub is_wide : ℕ → Written → Bool
is_wide most w = if nat_le (height w) most then false else true

abbrev pub closed : ℕ → Written → Written
closed most w = rounded (is_wide most w) w

-- before a `->`
abbrev pub is_no_primary : Written → Bool
is_no_primary w = if is_primary w then false else true

abbrev pub based : Written → Written
based w = rounded (is_no_primary w) w

-- what is printed in parentheses, or without them
pub rounded_text : (b : Bool) (w : Written)
    → open_text b ++ (expr_text w ++ close_text b) ≡ expr_text (rounded b w)
rounded_text true w = refl
rounded_text false w = append-nil (expr_text w)
