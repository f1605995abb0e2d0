-- `more_notes`: what is left to show of its clauses.
use Rattle.std.proofs.Common.{List, [], ap, length, map, max, refl, rules, sym, ℕ, ◌++◌, ◌∙◌, ◌∷◌, ◌≡◌}
use Rattle.gc0_base.specs.declared.place.Place.{Place}
use Rattle.parsed_tree.specs.Tree.{NoteTree}
use Rattle.parsed_tree.specs.Views.{note_view}
use Rattle.c0_grammar.specs.Plan.{Plan, after_part, many, note_loop}
use Rattle.c0_cursor.specs.Seen.{reading}
use Rattle.c0_grammar.specs.Seen.{what_of}
use Rattle.c0_expressions.specs.Read.{onto}
use Rattle.c0_cursor.specs.Laws.{fails_as, none_left}
use Rattle.c0_expressions.specs.Laws.{closing, mapped_push, note_at_close, note_at_word, onto_done, onto_more, same_onto}
use Rattle.c0_lex.specs.declared.token.TokenKind.TheVariants as kind
use Rattle.c0_expressions.proofs.formulas.more_notes.Goals as goal

pub returns-in-AnnotationEnd-clause-reads : goal.returns-in-AnnotationEnd-clause-reads
returns-in-AnnotationEnd-clause-reads c = λ next.
    let names = c.args.names.now in
    let xs = map note_view c.notes.found in
    let d = c.notes.deepest in
    let ts = c.notes.rest.now in
    let up = c.args.up in
    let token = c.in-Some.token.now in
    let behind = c.in-Some.behind.now in
    let s : ts ≡ token ∷ behind = search rules in
    let N : List NoteTree → ℕ → Plan = onto xs d (closing next) in
    let these : Place → Plan = λ e. next (xs ++ []) (max d 0) in
    let k : token.kind ≡ kind.AnnotationEnd = search rules in
    c.notes.invariant.reads next ∙ ap (reading (many (note_loop names up) N)) s
    ∙ note_at_close names up these N token behind refl (ap (λ z. what_of z token.text.now) k)
    ∙ ap (λ q. reading q behind) (onto_done xs d next)

pub returns-in-Err-clause-reads : goal.returns-in-Err-clause-reads
returns-in-Err-clause-reads c = λ next.
    let names = c.args.names.now in
    let xs = map note_view c.notes.found in
    let d = c.notes.deepest in
    let ts = c.notes.rest.now in
    let up = c.args.up in
    let token = c.in-Some.token.now in
    let behind = c.in-Some.behind.now in
    let s : ts ≡ token ∷ behind = search rules in
    let N : List NoteTree → ℕ → Plan = onto xs d (closing next) in
    let these : Place → Plan = λ e. next (xs ++ []) (max d 0) in
    let k : token.kind ≡ kind.Keyword c.in-Keyword.keyword = search rules in
    fails_as _ _ _ (c.notes.invariant.reads next ∙ ap (reading (many (note_loop names up) N)) s
    ∙ note_at_word names up these N token behind c.in-Keyword.keyword refl (ap (λ z. what_of z token.text.now) k))
    (c.in-Err.ensures.reads (after_part (note_loop names up) N))

pub notes-preserved : goal.notes-preserved
notes-preserved c = record {
  reads = λ next.
      let names = c.args.names.now in
      let xs = map note_view c.notes.found in
      let d = c.notes.deepest in
      let ts = c.notes.rest.now in
      let up = c.args.up in
      let token = c.in-Some.token.now in
      let behind = c.in-Some.behind.now in
      let s : ts ≡ token ∷ behind = search rules in
      let N : List NoteTree → ℕ → Plan = onto xs d (closing next) in
      let these : Place → Plan = λ e. next (xs ++ []) (max d 0) in
      let k : token.kind ≡ kind.Keyword c.in-Keyword.keyword = search rules in
      let x = c.in-Ok.value in
      c.notes.invariant.reads next ∙ ap (reading (many (note_loop names up) N)) s
      ∙ note_at_word names up these N token behind c.in-Keyword.keyword refl (ap (λ z. what_of z token.text.now) k)
      ∙ c.in-Ok.ensures.reads (after_part (note_loop names up) N)
      ∙ ap (reading (after_part (note_loop names up) N (note_view x.0) x.1)) (sym c.remaining-rest.ensures)
      ∙ ap (λ k. reading (many (note_loop names up) k) c.remaining-rest.result.now) (onto_more xs d (closing next) (note_view x.0) x.1)
      ∙ same_onto (λ l k. reading (many (note_loop names up) (onto l k (closing next))) c.remaining-rest.result.now) _ _ _ _ (sym (mapped_push note_view _ _ _ c.in_ok-push-in-Keyword.ensures.ok)) (sym c.deeper-deepest.ensures);
  room = search rules;
  shorter = search rules;
}

pub returns-clause-reads : goal.returns-clause-reads
returns-clause-reads c = λ next.
    let names = c.args.names.now in
    let xs = map note_view c.notes.found in
    let d = c.notes.deepest in
    let ts = c.notes.rest.now in
    let z : length ts ≡ 0 = search rules in
    c.notes.invariant.reads next ∙ ap (reading (many (note_loop names c.args.up) (onto xs d (closing next)))) (none_left ts z)
