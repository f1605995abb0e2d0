-- What is answered by hand of the proof of `push_joined_invariants`.
use Rattle.std.proofs.Common.{◌≡◌, ℕ, ◌-◌, List, ◌++◌, map, length, take, drop, rules}
use Rattle.parsed_tree.specs.Views.{invariant_view}
use Rattle.c0_layout.specs.Lists.{joined_text, spaced_text}
use Rattle.c0_layout.specs.Layout.{invariant_text}
use Rattle.c0_print.specs.Printing.{invariant_of}
use Rattle.c0_print.proofs.Pushes.{joined_2}
use Rattle.c0_print.proofs.Spaced.{joined_cons}
use Rattle.c0_print.proofs.statements.push_joined_invariants.Goals as goal

pub returns-in_ok-push_invariant-in-len1-up : goal.returns-in_ok-push_invariant-in-len1-up
returns-in_ok-push_invariant-in-len1-up c =
    let a : List ℕ = invariant_text (invariant_of (invariant_view c.first-item.result)) in
    let b : List ℕ = spaced_text invariant_text (map invariant_of (map invariant_view (take (length c.args.clauses.now - 1) (drop 1 c.args.clauses.now)))) in
    let all : List ℕ = joined_text invariant_text (map invariant_of (map invariant_view c.args.clauses.now)) in
    let first : c.push_invariant.new.text.items ≡ c.args.text.now.items ++ a = search rules in
    joined_2 c.push_more_invariants.result c.push_more_invariants.new.text.items c.push_invariant.new.text.items c.args.text.now.items a b all c.push_more_invariants.ensures first
    (joined_cons invariant_text invariant_of invariant_view c.args.clauses.now c.first-item.result c.in-len1-up.len_at_least c.first-item.is)
