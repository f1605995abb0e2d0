-- Each shape begins behind the one before.
use Rattle.std.proofs.Common.{◌≡◌, ◌+◌, length, sum, rules, sym, ◌∙◌}
use Rattle.std.proofs.lemmas.List.{length-map}
use Rattle.gc0_tree.specs.declared.Shape.{Shape}
use Rattle.gc0_tree.specs.Tree.{Function, Program}
use Rattle.gc0_tree.specs.Views.{struct_view, function_view, program_view}
use Rattle.lowering_laws.specs.Lowering.{uses, temps_of}
use Rattle.temp_counts.specs.Used.{starts_from}
use Rattle.temp_counts.specs.Most.{most_in}
use Rattle.temp_counts.specs.declared.most.Most.{Most}
use Rattle.temp_counts.specs.declared.temps.Temps.{Temps}
use Rattle.temp_counts.proofs.Numbers.{are_temps}
use Rattle.temp_counts.proofs.temps.Temps.new.Goals as goal

pub returns : goal.returns
returns c =
    let p : Program = program_view c.args.program.now in
    let f : Function = function_view c.args.function.now in
    let m : Most = c.in_ok-most.most in
    let t : Temps = record {
      shapes = c.in_ok-shapes.shapes;
      ints = c.in_ok-ints.ints;
      truths = c.in_ok-truths.truths;
      nulls = c.in_ok-nulls.nulls;
      pointers = c.in_ok-pointers.pointers;
      behind = c.in_ok-pointers.behind;
    } in
    let same : (s : Shape) → most_in m s ≡ uses p f s = c.in_ok-most.ensures in
    let ints : t.ints ≡ length f.locals = search rules in
    let truths : t.truths ≡ t.ints + m.ints = search rules in
    let nulls : t.nulls ≡ t.truths + m.truths = search rules in
    let begin : c.in_ok-first.first ≡ t.nulls + m.nulls = search rules in
    let pointers : t.pointers ≡ starts_from c.in_ok-first.first m.pointers = search rules in
    let behind : t.behind ≡ c.in_ok-first.first + sum m.pointers = search rules in
    let listed : t.shapes ≡ temps_of (most_in m) c.len-2.result = search rules in
    let many : c.len-2.result ≡ length p.structs = c.len-2.ensures ∙ sym (length-map c.args.program.now.structs struct_view) in
    are_temps t p f m c.in_ok-first.first c.len-2.result same ints truths nulls begin pointers behind listed many
