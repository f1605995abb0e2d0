-- What the words of a command ask for. This project's own.
use Rattle.std.specs.Prelude.{ℕ, Bool, List, [], ◌∷◌, Option, Some, None, nat_eq, nat_le, if◌then◌else◌, ◌&&◌, ◌||◌, ◌*◌, ◌+◌, ◌-◌, not, codes, length, fold, option_map}
use Rattle.std.specs.List.{starts_with, list_all}
use Rattle.std.specs.Str.{bytes_eq}
use Rattle.gc0_base.specs.declared.limits.TheConstants.Limits as limits
use Rattle.gradual_top.specs.declared.request.Request.{Request}
use Rattle.gradual_top.specs.declared.request.Request.TheVariants.{Run}

-- a file to run, and the number of its steps
pub record Asked : Type 0 where
  pub steps : ℕ
  pub file : List ℕ

-- a word that begins with two dashes is never a file name
abbrev pub is_option : List ℕ → Bool
is_option word = starts_with nat_eq word (codes "--")

abbrev pub is_digit : ℕ → Bool
is_digit b = nat_le 48 b && nat_le b 57

abbrev pub begins_with_zero : List ℕ → Bool
begins_with_zero bs = starts_with nat_eq bs (48 ∷ [])

-- `0`, or digits without a leading zero
abbrev pub is_numeral : List ℕ → Bool
is_numeral word = nat_le 1 (length word) && (list_all is_digit word && (nat_le (length word) 1 || not (begins_with_zero word)))

-- the number that decimal digits write
abbrev pub decimal_value : List ℕ → ℕ
decimal_value digits = fold (λ n d. n * 10 + (d - 48)) 0 digits

-- the number of steps that a word writes
abbrev pub steps_in : List ℕ → Option ℕ
steps_in word = if is_numeral word && nat_le (decimal_value word) limits.STEPS then Some (decimal_value word) else None

-- `run FILE`
abbrev pub plain_in : (verb file : List ℕ) → Option Asked
plain_in verb file = if bytes_eq verb (codes "run") && not (is_option file) then Some (record { steps = limits.DEFAULT_STEPS; file = file }) else None

-- `run --steps N FILE`
abbrev pub stepped_in : (verb option number file : List ℕ) → Option Asked
stepped_in verb option number file =
    if bytes_eq verb (codes "run") && (bytes_eq option (codes "--steps") && not (is_option file)) then option_map (λ n. record { steps = n; file = file }) (steps_in number) else None

-- what the words ask for; none where they are no request
abbrev pub asked_in : List (List ℕ) → Option Asked
asked_in [] = None
asked_in (verb ∷ []) = None
asked_in (verb ∷ file ∷ []) = plain_in verb file
asked_in (verb ∷ option ∷ number ∷ []) = None
asked_in (verb ∷ option ∷ number ∷ file ∷ []) = stepped_in verb option number file
asked_in (verb ∷ option ∷ number ∷ file ∷ more ∷ words) = None

abbrev pub file_of : Request → List ℕ
file_of (Run steps file) = file.now

abbrev pub steps_of : Request → ℕ
steps_of (Run steps file) = steps

abbrev pub asked_of : Request → Asked
asked_of r = record { steps = steps_of r; file = file_of r }
