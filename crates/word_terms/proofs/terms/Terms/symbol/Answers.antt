use Rattle.std.proofs.Common.{◌≡◌, ◌+◌, ◌<◌, ◌^◌, length, arith, rules}
use Rattle.word_terms.specs.Laws.{slice_get-end, IsTable-sorts, Gives-symbol}
use Rattle.word_terms.proofs.terms.Terms.symbol.Goals as goal
use Rattle.word_terms.proofs.terms.Terms.symbol.Goals.{In-Ok}

pub invariant_of-self-2 : goal.invariant_of-self-2
invariant_of-self-2 c =
    let number : c.symbols-number.result ≡ length c.self.inside.sorts.items = search rules in
    let few : length c.self.inside.sorts.items + 1 < 2 ^ 32 = omega (arith, c.if-number.false, c.symbols-number.type_inv) in
    rw c.in_ok-push.ensures.items (IsTable-sorts c.self.inside.nodes.keys c.self.inside.sorts.items c.args.sort c.self.invariant few)

pub keep-requires : goal.keep-requires
keep-requires c =
    let number : c.symbols-number.result ≡ length c.self.inside.sorts.items = search rules in
    rw (c.in_ok-push.ensures.items, number) (slice_get-end c.self.inside.sorts.items c.args.sort)

pub returns-in-Ok-clause-number : goal.returns-in-Ok-clause-number
returns-in-Ok-clause-number c =
    let number : c.symbols-number.result ≡ length c.self.inside.sorts.items = search rules in
    let g = rw (c.in_ok-push.ensures.items, number) at c.in-Ok.ensures.given in
    rw (← c.self.view_is) (Gives-symbol c.self.inside.nodes.keys c.self.inside.sorts.items c.args.sort _ c.in-Ok.term.0 c.self.invariant g).0

pub returns-in-Ok-clause-nodes : goal.returns-in-Ok-clause-nodes
returns-in-Ok-clause-nodes c =
    let number : c.symbols-number.result ≡ length c.self.inside.sorts.items = search rules in
    let g = rw (c.in_ok-push.ensures.items, number) at c.in-Ok.ensures.given in
    rw (← c.self.view_is) (Gives-symbol c.self.inside.nodes.keys c.self.inside.sorts.items c.args.sort _ c.in-Ok.term.0 c.self.invariant g).1
