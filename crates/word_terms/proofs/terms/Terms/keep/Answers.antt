use Rattle.std.proofs.Common.{◌+◌, ◌<◌, ◌^◌, length, arith, rules}
use Rattle.word_terms.specs.contracts.node.NodePartialEq.TheImpl as equality
use Rattle.word_terms.specs.contracts.node.NodeEq.TheImpl.Laws as laws
use Rattle.word_terms.specs.Tables.{Table, terms_of, IsTable, IsWhole, Gives}
use Rattle.word_terms.specs.Laws.{Gives-Keeps, Gives-term}
use Rattle.word_terms.proofs.terms.Terms.keep.Goals as goal
use Rattle.word_terms.proofs.terms.Terms.keep.Goals.{In_ok-place}
use Rattle.word_terms.proofs.Kept.{IsTable-insert_key}

-- the table as it was
before : In_ok-place → Table
before c = record { nodes = c.self.inside.nodes.keys; sorts = c.self.inside.sorts.items }

-- and as it is
after : In_ok-place → Table
after c = record { nodes = c.insert_full.new.self.keys; sorts = c.self.inside.sorts.items }

whole : (c : In_ok-place) → IsWhole (before c).sorts (terms_of (before c).nodes) (length (before c).nodes) c.args.node
unfolding before
whole c = search rules

formed : (c : In_ok-place) → IsTable (after c)
unfolding before after
formed c =
    let few : length c.self.inside.nodes.keys + 1 < 2 ^ 32 = omega (arith, c.len.ensures.len, c.if-len.false) in
    rw c.in_ok-place.ensures.keys
    (IsTable-insert_key
    equality.ghosts.eq
    laws.lawful.laws.refl
    c.self.inside.nodes.keys
    c.self.inside.sorts.items
    c.args.node
    c.self.invariant
    (whole c)
    few)

gives : (c : In_ok-place) → Gives (before c) (after c) c.args.node c.in_ok-place.place
unfolding before after
gives c = search rules

pub invariant_of-self-2 : goal.invariant_of-self-2
unfolding after
invariant_of-self-2 c = formed c

pub returns-clause-term : goal.returns-clause-term
unfolding before after
returns-clause-term c = rw (← c.self.view_is) (Gives-term (before c) (after c) c.args.node c.in_ok-place.place (whole c) (formed c) (gives c))

pub returns-clause-kept : goal.returns-clause-kept
unfolding before after
returns-clause-kept c = rw (← c.self.view_is) (Gives-Keeps (before c) (after c) c.args.node c.in_ok-place.place (gives c))
