use Rattle.std.proofs.Common.{◌≡◌, List, ℕ, ◌∙◌, ap, subst, sym, [], length}
use Rattle.word_terms.specs.declared.node.TermId.{TermId}
use Rattle.word_terms.specs.Tables.{Table}
use Rattle.word_terms.specs.Weights.{weight_of}
use Rattle.word_blast.specs.Circuits.{Whole, circuit}
use Rattle.word_blast.specs.Valuations.{AreTruths}
use Rattle.word_blast.specs.Queries.{ids, whole_of}
use Rattle.solver_bench.specs.Lines.{line_of}
use Rattle.solver_bench.proofs.Kept.{are_truths, terms_of_ids}
use Rattle.solver_bench.proofs.counts.counts_of.Goals as goal

same_line : (a b c d e f g h : ℕ) → a ≡ e → b ≡ f → c ≡ g → d ≡ h → line_of a b c d ≡ line_of e f g h
same_line a b c d e f g h p q r s = cc

pub blast-requires-clause-truths : goal.blast-requires-clause-truths
blast-requires-clause-truths c = subst (λ rs. AreTruths c.roots_of.new.terms.nodes (ids rs)) (sym c.deref-2.ensures.value)
    (are_truths c.roots_of.new.terms.nodes c.in_ok-roots.roots.items c.in_ok-roots.ensures.truths)

pub returns : goal.returns
returns c =
    let table : Table = c.roots_of.new.terms in
    let roots : List ℕ = ids c.in_ok-roots.roots.items in
    let weight : c.in_ok-weight.weight ≡ weight_of table.nodes roots = c.in_ok-weight.ensures ∙ ap (λ (rs : List TermId). weight_of table.nodes (ids rs)) c.deref.ensures.value in
    let query : whole_of c.in_ok-query.query ≡ circuit table roots [] =
    c.in_ok-query.ensures.circuit ∙ ap (λ (rs : List TermId). circuit table (ids rs) []) c.deref-2.ensures.value in
    let variables : c.in_ok-query.query.variables ≡ (circuit table roots []).variables = ap (λ (w : Whole). w.variables) query in
    let clauses : length c.in_ok-query.query.clauses ≡ length (circuit table roots []).clauses = ap (λ (w : Whole). length w.clauses) query in
    record {
      table = table;
      formed = c.terms-count.ensures.formed;
      ids = roots;
      asked = terms_of_ids table.nodes c.in_ok-roots.roots.items ∙ c.in_ok-roots.ensures.roots;
      said = c.in_ok-line_of.ensures ∙ same_line _ _ _ _ _ _ _ _ c.terms-count.ensures.terms weight variables (ap length c.as_slice-clauses.ensures ∙ clauses);
    }
