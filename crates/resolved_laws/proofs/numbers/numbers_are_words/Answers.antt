use Rattle.std.proofs.Common.{subst}
use Rattle.std.specs.Prelude.{All}
use Rattle.std.proofs.lemmas.List.Elements.{All-map}
use Rattle.gc0_tree.specs.Views.{function_view, program_view}
use Rattle.resolved_laws.specs.Numbers.{NumbersFit}
use Rattle.resolved_laws.proofs.Words.{words_fit}
use Rattle.resolved_laws.proofs.numbers.numbers_are_words.Goals as goal

pub returns : goal.returns
returns c =
    let fit = All-map NumbersFit function_view c.args.program.now.functions (subst (λ l. All (λ f. NumbersFit (function_view f)) l) c.as_slice.ensures c.see_functions.ensures) in
    words_fit (program_view c.args.program.now).functions fit c.requires
