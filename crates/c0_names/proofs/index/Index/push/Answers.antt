-- What the search leaves of the proof of `push`.
use Rattle.std.proofs.Common.{◌∙◌, ap, sym, arith}
use Rattle.c0_names.specs.Names.{last_place}
use Rattle.c0_names.proofs.Indexing.{pushed_entry}
use Rattle.c0_names.proofs.index.Index.push.Goals as goal

pub invariant_of-self-in-Ok : goal.invariant_of-self-in-Ok
invariant_of-self-in-Ok c = pushed_entry c.self.inside.last c.insert.new.self c.self.inside.entries.items c.push.new.self.items _ c.len-place.result c.in_ok-push.ensures.items c.self.invariant (c.last-before.ensures ∙ ap (λ l. last_place l c.args.name.now) (sym c.self.view_is)) (omega (arith, c.len-place.ensures, c.in_ok-push.ensures.len)) c.in-Ok.ensures.updates
