-- The text of a proof in the LRAT format: for each entry its number, its literals and its hints.
use Rattle.std.specs.Prelude.{◌≡◌, ℕ, ◌+◌, List, [], ◌∷◌, ◌++◌, codes}
use Rattle.std.specs.List.{flat_map}
use Rattle.std.specs.Fmt.{decimal}
use Rattle.sat_check.specs.declared.clause.Lit.{Lit}
use Rattle.sat_check.specs.declared.clause.Clause.{Clause}
use Rattle.sat_check.specs.declared.log.Entry.{Entry}
use Rattle.sat_check.specs.Logs.{IsRefutation}
use Rattle.sat_text.specs.Formulas.{lit_word}

abbrev pub lit_piece : Lit → List ℕ
lit_piece lit = lit_word lit ++ codes " "

-- a clause is named by its number, counted from 1
abbrev pub hint_piece : ℕ → List ℕ
hint_piece hint = decimal (hint + 1) ++ codes " "

abbrev pub entry_line : ℕ → Entry → List ℕ
entry_line id entry = decimal id ++ codes " " ++ flat_map lit_piece entry.clause.lits ++ codes "0 " ++ flat_map hint_piece entry.hints ++ codes "0\n"

-- the lines of entries of which the first has this number
abbrev pub log_lines : ℕ → List Entry → List ℕ
log_lines id [] = []
log_lines id (entry ∷ entries) = entry_line id entry ++ log_lines (id + 1) entries

-- a refutation of which the last entry is the empty clause
pub record IsProof (clauses : List Clause) (entries : List Entry) : Type 0 where
  pub refutation : IsRefutation clauses entries
  pub before : List Entry
  pub last : Entry
  pub split : entries ≡ before ++ last ∷ []
  pub empty : last.clause.lits ≡ []
