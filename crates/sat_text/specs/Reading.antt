-- Reading word by word: what the reader keeps, and what each word does to it.
use Rattle.std.specs.Prelude.{ℕ, ◌+◌, ◌-◌, ◌*◌, Bool, true, false, List, [], ◌∷◌, ◌++◌, length, Option, Some, None, nat_eq, nat_le, nat_lt, ◌==◌, ◌&&◌, ◌||◌, not, if◌then◌else◌, fold, codes, option_map}
use Rattle.std.specs.Option.{option_and_then}
use Rattle.std.specs.List.{starts_with, list_all}
use Rattle.std.specs.Str.{bytes_eq}
use Rattle.sat_check.specs.declared.clause.Lit.{Lit}
use Rattle.sat_text.specs.declared.formula.Formula.{Formula}
use Rattle.sat_text.specs.declared.limits.TheConstants.FormulaLimits as limits
use Rattle.sat_text.specs.declared.numerals.Token.{Token}
use Rattle.sat_text.specs.declared.numerals.Token.TheVariants.{End, Literal}
use Rattle.sat_text.specs.declared.reader.Header.{Header}
use Rattle.sat_text.specs.declared.reader.Reader.{Reader}

abbrev pub begins_with_zero : List ℕ → Bool
begins_with_zero bytes = starts_with nat_eq bytes (48 ∷ [])

abbrev pub is_digit : ℕ → Bool
is_digit b = nat_le 48 b && nat_le b 57

-- `0`, or digits without a leading zero
abbrev pub is_numeral : List ℕ → Bool
is_numeral word = nat_le 1 (length word) && (list_all is_digit word && (nat_le (length word) 1 || not (begins_with_zero word)))

-- the number that decimal digits write
abbrev pub decimal_value : List ℕ → ℕ
decimal_value digits = fold (λ n d. n * 10 + (d - 48)) 0 digits

-- the number of a word that isn't more than `most`
abbrev pub number_in : ℕ → List ℕ → Option ℕ
number_in most word = if is_numeral word && nat_le (decimal_value word) most then Some (decimal_value word) else None

abbrev pub plain_token : ℕ → Token
plain_token n = if n == 0 then End else Literal (record { variable = n - 1; positive = true })

abbrev pub negated_token : ℕ → Option Token
negated_token n = if n == 0 then None else Some (Literal (record { variable = n - 1; positive = false }))

-- the 0 that ends a clause, or a literal over so many variables
abbrev pub token_in : ℕ → List ℕ → Option Token
token_in variables [] = None
token_in variables (b ∷ word) =
    if b == 45 then option_and_then negated_token (number_in variables word) else option_map plain_token (number_in variables (b ∷ word))

abbrev pub token_step : Reader → Token → Reader
token_step r End = record r { clauses = r.clauses ++ record { lits = r.lits } ∷ []; lits = [] }
token_step r (Literal lit) = record r { lits = r.lits ++ lit ∷ [] }

-- a word behind the header: no clause may begin behind the last
abbrev pub word_step : Header → Reader → List ℕ → Option Reader
word_step h r word = if nat_lt (length r.clauses) h.clauses then option_map (token_step r) (token_in h.variables word) else None

abbrev pub words_step : Header → Reader → List (List ℕ) → Option Reader
words_step h r [] = Some r
words_step h r (word ∷ words) = option_and_then (λ next. words_step h next words) (word_step h r word)

abbrev pub header_of : Option ℕ → Option ℕ → Option Header
header_of None clauses = None
header_of (Some variables) None = None
header_of (Some variables) (Some clauses) = Some (record { variables = variables; clauses = clauses })

abbrev pub header_in : List (List ℕ) → Option Header
header_in (p ∷ cnf ∷ variables ∷ clauses ∷ []) =
    if bytes_eq p (codes "p") && bytes_eq cnf (codes "cnf") then header_of (number_in limits.VARIABLES variables) (number_in limits.CLAUSES clauses) else None
header_in row = None

abbrev pub header_row : Reader → List (List ℕ) → Option Reader
header_row r [] = Some r
header_row r (word ∷ words) = option_map (λ h. record r { header = Some h }) (header_in (word ∷ words))

abbrev pub row_step_at : Option Header → Reader → List (List ℕ) → Option Reader
row_step_at None r row = header_row r row
row_step_at (Some h) r row = words_step h r row

abbrev pub row_step : Reader → List (List ℕ) → Option Reader
row_step r row = row_step_at r.header r row

abbrev pub rows_step : Reader → List (List (List ℕ)) → Option Reader
rows_step r [] = Some r
rows_step r (row ∷ rows) = option_and_then (λ next. rows_step next rows) (row_step r row)

abbrev pub start : Reader
start = record { header = None; clauses = []; lits = [] }

abbrev pub is_nil : List Lit → Bool
is_nil [] = true
is_nil (lit ∷ lits) = false

abbrev pub formula_at : Option Header → Reader → Option Formula
formula_at None r = None
formula_at (Some h) r =
    if length r.clauses == h.clauses && is_nil r.lits then Some (record { variables = h.variables; clauses = r.clauses }) else None

-- the formula, where the text ends here
abbrev pub formula_of : Reader → Option Formula
formula_of r = formula_at r.header r

abbrev pub formula_in : List (List (List ℕ)) → Option Formula
formula_in rows = option_and_then formula_of (rows_step start rows)
