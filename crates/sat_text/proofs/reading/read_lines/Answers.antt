use Rattle.std.proofs.Common.{◌≡◌, ℕ, ◌-◌, List, [], ◌∷◌, Option, Some, None, Err, Bor, MatchOption, ap, ◌∙◌, subst, sym, map, drop, arith}
use Rattle.sat_text.specs.Texts.{rows_of, row_of, lines_of}
use Rattle.sat_text.specs.Faults.{IsFaultAt}
use Rattle.sat_text.proofs.Rows.{refused, unended, ended, taken}
use Rattle.sat_text.proofs.reading.read_lines.Goals as goal

-- the row of a line, in front of those of what stands behind it
row_behind : (o : Option (Bor (List ℕ))) (lines : List (List ℕ)) (line : List ℕ) → MatchOption o (lines ≡ line ∷ []) (λ b. lines ≡ line ∷ lines_of b.now) → (more : List (List (List ℕ))) × (map row_of lines ≡ row_of line ∷ more)
row_behind None lines line e = ([], ap (map row_of) e)
row_behind (Some b) lines line e = (rows_of b.now, ap (map row_of) e)

last_row : (o : Option (Bor (List ℕ))) (lines : List (List ℕ)) (line : List ℕ) → o ≡ None → MatchOption o (lines ≡ line ∷ []) (λ b. lines ≡ line ∷ lines_of b.now) → map row_of lines ≡ row_of line ∷ []
last_row None lines line n e = ap (map row_of) e
last_row (Some b) lines line n e = let x : ⊥ = cc in absurd x

pub loop-reader-preserved : goal.loop-reader-preserved
loop-reader-preserved c =
    let i = c.loop-reader.invariant in
    let line = rw c.in-Some.is at c.first_line.ensures.line in
    let shorter = rw c.in-Some.is at c.first_line.ensures.shorter in
    let good = rw c.in-Ok.is at c.take_line.ensures.ok in
    let d : drop (c.loop-reader.number - 1) (rows_of c.args.text.now) ≡ row_of c.first_line.result.0.now ∷ rows_of c.in-Some.behind.now = i.behind ∙ ap (map row_of) line in
    let t = taken _ _ _ _ _ _ i.first i.before d good in
    record { first = omega arith; short = omega (arith, shorter); before = t.0; behind = t.1 }

pub returns-in-Err-Bad-clause-fault : goal.returns-in-Err-Bad-clause-fault
returns-in-Err-Bad-clause-fault c = λ line e.
    let i = c.loop-reader.invariant in
    let m = row_behind _ _ _ c.first_line.ensures.line in
    let bad = c.take_line.ensures.bad (c.in-Err-Bad.is ∙ ap Err c.in-Err-Bad.field-0-is) in
    let n : c.loop-reader.number ≡ line = cc in
    subst (IsFaultAt (rows_of c.args.text.now)) n (refused _ _ _ _ m.0 i.first i.before (i.behind ∙ m.1) bad)

pub returns-in-Some-formula-clause-formula : goal.returns-in-Some-formula-clause-formula
returns-in-Some-formula-clause-formula c =
    let i = c.loop-reader.invariant in
    let good = rw c.in-Ok.is at c.take_line.ensures.ok in
    ended _ _ _ _ _ _ i.first i.before (i.behind ∙ last_row _ _ _ c.in_default.is c.first_line.ensures.line) good (sym c.formula.ensures ∙ c.in-Some-formula.is)

pub returns-in-None-clause-fault : goal.returns-in-None-clause-fault
returns-in-None-clause-fault c = λ line e.
    let i = c.loop-reader.invariant in
    let good = rw c.in-Ok.is at c.take_line.ensures.ok in
    let n : c.loop-reader.number ≡ line = cc in
    subst (IsFaultAt (rows_of c.args.text.now)) n (unended _ _ _ _ _ i.first i.before (i.behind ∙ last_row _ _ _ c.in_default.is c.first_line.ensures.line) good (sym c.formula.ensures ∙ c.in-None.is))
