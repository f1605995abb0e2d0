-- What the search leaves of the proof of `pop`.
use Rattle.std.proofs.Common.{◌∙◌, ap}
use Rattle.c0_names.specs.Names.{front}
use Rattle.c0_names.proofs.Indexing.{popped_entry, stands_entry, front_entry}
use Rattle.c0_names.proofs.index.Index.pop.Goals as goal

pub invariant_of-self : goal.invariant_of-self
invariant_of-self c = popped_entry c.self.inside.last c.insert.new.self c.self.inside.entries.items c.pop.new.self.items c.in-Some.entry c.in-Some.ensures.items c.self.invariant c.in_ok-insert.ensures.updates

pub invariant_of-self-in_err-insert : goal.invariant_of-self-in_err-insert
invariant_of-self-in_err-insert c = absurd (stands_entry c.self.inside.last c.self.inside.last c.self.inside.entries.items c.pop.new.self.items c.in-Some.entry c.in-Some.ensures.items c.self.invariant c.in_err-insert.ensures.absent)

pub returns-in_ok-insert : goal.returns-in_ok-insert
returns-in_ok-insert c = front_entry c.self.inside.entries.items c.pop.new.self.items c.in-Some.entry c.in-Some.ensures.items ∙ ap front c.self.view_is
