-- What the words of the command ask for. This project's own.
use Rattle.std.specs.Prelude.{ℕ, Bool, List, [], ◌∷◌, Option, Some, None, nat_eq, nat_le, if◌then◌else◌, ◌&&◌, ◌||◌, ◌*◌, ◌+◌, ◌-◌, ◌^◌, not, codes, length, fold, option_map}
use Rattle.std.specs.List.{starts_with, list_all}
use Rattle.std.specs.Option.{option_and_then}
use Rattle.std.specs.Str.{bytes_eq}
use Rattle.sat_top.specs.declared.limits.TheConstants.Limits as limits
use Rattle.sat_top.specs.declared.request.Request.{Request}

-- a file with a formula, a file for the proof where there is one, and how many clauses may be learnt
pub record Asked : Type 0 where
  pub conflicts : ℕ
  pub formula : List ℕ
  pub proof : Option (List ℕ)

-- a word that begins with two dashes is never a file name
abbrev pub is_option : List ℕ → Bool
is_option word = starts_with nat_eq word (codes "--")

abbrev pub is_digit : ℕ → Bool
is_digit b = nat_le 48 b && nat_le b 57

abbrev pub begins_with_zero : List ℕ → Bool
begins_with_zero bs = starts_with nat_eq bs (48 ∷ [])

-- `0`, or digits without a leading zero
abbrev pub is_numeral : List ℕ → Bool
is_numeral word = nat_le 1 (length word) && (list_all is_digit word && (nat_le (length word) 1 || not (begins_with_zero word)))

-- the number that decimal digits write
abbrev pub decimal_value : List ℕ → ℕ
decimal_value digits = fold (λ n d. n * 10 + (d - 48)) 0 digits

-- the number of conflicts that a word writes
abbrev pub conflicts_in : List ℕ → Option ℕ
conflicts_in word = if is_numeral word && nat_le (decimal_value word) limits.CONFLICTS then Some (decimal_value word) else None

-- `CNF`
abbrev pub plain_in : ℕ → (formula : List ℕ) → Option Asked
plain_in conflicts formula = if is_option formula then None else Some (record { conflicts = conflicts; formula = formula; proof = None })

-- `CNF PROOF`
abbrev pub proved_in : ℕ → (formula proof : List ℕ) → Option Asked
proved_in conflicts formula proof =
    if is_option formula || is_option proof then None else Some (record { conflicts = conflicts; formula = formula; proof = Some proof })

-- the number behind the option
abbrev pub limited_in : (option number : List ℕ) → Option ℕ
limited_in option number = if bytes_eq option (codes "--conflicts") then conflicts_in number else None

-- what the words ask for; none where they are no request
abbrev pub asked_in : List (List ℕ) → Option Asked
asked_in [] = None
asked_in (formula ∷ []) = plain_in limits.DEFAULT_CONFLICTS formula
asked_in (formula ∷ proof ∷ []) = proved_in limits.DEFAULT_CONFLICTS formula proof
asked_in (option ∷ number ∷ formula ∷ []) = option_and_then (λ n. plain_in n formula) (limited_in option number)
asked_in (option ∷ number ∷ formula ∷ proof ∷ []) = option_and_then (λ n. proved_in n formula proof) (limited_in option number)
asked_in (option ∷ number ∷ formula ∷ proof ∷ more ∷ words) = None

abbrev pub asked_of : Request → Asked
asked_of r = record { conflicts = r.conflicts; formula = r.formula.now; proof = option_map (λ p. p.now) r.proof }
