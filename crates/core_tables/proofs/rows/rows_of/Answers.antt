-- What the search leaves of the proof of `rows_of`.
use Rattle.std.proofs.Common.{◌≡◌, ℕ, ◌∙◌, length, []}
use Rattle.core_tables.specs.RowSteps.{rows_behind, count_of}
use Rattle.core_tables.proofs.Steps.{at_first, at_last}
use Rattle.core_tables.proofs.rows.rows_of.Goals as goal

pub returns : goal.returns
returns c =
    let g : ℕ = c.args.function in
    let placed = c.args.placed.now in
    let ds = c.args.decisions.now in
    let count : ℕ = count_of c.args.kind placed in
    let blank : c.in_ok-rows.rows ≡ rows_behind g c.args.kind c.args.start [] (length ds) [] count = c.in_ok-rows.ensures ∙ at_first g c.args.kind c.args.start (length ds) count in
    c.number_rows.ensures c.args.start placed count (c.place_rows.ensures c.args.start (length ds) count blank) ∙ at_last g c.args.kind c.args.start placed ds
