-- `add`: what is left to show of its clauses.
use Rattle.std.proofs.Common.{◌∙◌, ◌||◌, ap, sym, is_some, map, reverse}
use Rattle.std.specs.Str.{bytes_eq}
use Rattle.c0_grammar.specs.Tokens.{is_among}
use Rattle.c0_cursor.proofs.NameSets.{found_or, last_first}
use Rattle.c0_cursor.proofs.names.Names.add.Goals as goal

pub invariant_of-self-in-Ok : goal.invariant_of-self-in-Ok
invariant_of-self-in-Ok c = λ name.
    let key = record c.args.name { now = name } in
    ap is_some (c.in-Ok.ensures.updates.0 key)
    ∙ found_or (bytes_eq c.args.name.now name) _ _
    ∙ ap (λ r. bytes_eq c.args.name.now name || r) (c.self.invariant name)
    ∙ sym (ap (λ l. is_among l name) (ap (λ ns. reverse (map (λ m. m.now) ns)) c.in_ok-push.ensures.items ∙ last_first c.self.inside.names.items c.args.name))
