use Rattle.std.proofs.Common.{◌≡◌, ◌∙◌, ◌+◌, [], ◌∷◌, ◌++◌, Some, length, take, arith, refl, sym, ap, subst, inl, inr}
use Rattle.std.specs.List.{slice_get}
use Rattle.std.proofs.lemmas.Bool.{false≢true}
use Rattle.std.proofs.lemmas.Option.{slice_get-get_or}
use Rattle.std.proofs.lemmas.List.{take_more, take_all}
use Rattle.sat_check.specs.declared.log.Entry.{Entry}
use Rattle.sat_check.specs.Logs.{AllFollow, Follows, known_at}
use Rattle.sat_check.specs.Laws.{HasEmpty-push}
use Rattle.sat_check.proofs.Verdicts.{AllFollow-more, HasEmpty-left, HasEmpty-push_cases}
use Rattle.sat_check.proofs.checker.verdict_of.Goals as goal
use Rattle.sat_check.proofs.checker.verdict_of.Goals.{then-is_empty, else-is_empty}

pub loop-index-preserved : goal.loop-index-preserved
loop-index-preserved c =
    let clauses = c.args.clauses.now in
    let entries = c.args.entries.now in
    let i = c.loop-index.index in
    let entry = c.index-entries-index.result in
    let more : take (i + 1) entries ≡ take i entries ++ entry ∷ [] =
    take_more entries i entry c.loop-index-test.true ∙ ap (λ (e : Entry). take i entries ++ e ∷ []) (sym c.index-entries-index.is) in
    let here : slice_get entries i ≡ Some entry = slice_get-get_or entries i entry c.loop-index-test.true ∙ ap (λ (e : Entry). Some e) (sym c.index-entries-index.is) in
    let follows : Follows (known_at clauses entries i) entry = c.follows.ensures.follows.0 c.if-not-follows.false in
    record {
      follow = AllFollow-more clauses entries i entry c.loop-index.invariant.follow here follows;
      empty =
          elim c.if-is_empty.branch [
            | then-is_empty w ↦
                (λ _. rw more (HasEmpty-push (take i entries) entry (c.is_empty.ensures.0 w.if-is_empty.true)), λ _. w.empty-is)
            | else-is_empty w ↦ (
              λ e. rw more (HasEmpty-left (take i entries) entry (c.loop-index.invariant.empty.0 (sym w.empty-is ∙ e))),
              λ h.
                  elim (HasEmpty-push_cases (take i entries) entry (rw more at h)) [
                    | inl before ↦ w.empty-is ∙ c.loop-index.invariant.empty.1 before
                    | inr is_empty ↦ absurd (false≢true (sym w.if-is_empty.false ∙ c.is_empty.ensures.1 is_empty))
                  ],
            )
          ];
      len = c.follows.ensures.len ∙ c.loop-index.invariant.len;
      sound = c.follows.ensures.sound;
    }

pub returns-then-empty-clause-verdict : goal.returns-then-empty-clause-verdict
returns-then-empty-clause-verdict c =
    let entries = c.args.entries.now in
    let whole = take_all c.loop-index.index entries c.loop-index-test.false in
    let all : c.loop-index.index ≡ length entries = omega arith in
    record {
      follow = subst (AllFollow c.args.clauses.now entries) all c.loop-index.invariant.follow;
      empty = rw whole at (c.loop-index.invariant.empty.0 c.if-empty.true);
    }

pub returns-else-empty-clause-verdict : goal.returns-else-empty-clause-verdict
returns-else-empty-clause-verdict c =
    let entries = c.args.entries.now in
    let whole = take_all c.loop-index.index entries c.loop-index-test.false in
    let all : c.loop-index.index ≡ length entries = omega arith in
    record {
      follow = subst (AllFollow c.args.clauses.now entries) all c.loop-index.invariant.follow;
      not_empty = λ h. false≢true (sym c.if-empty.false ∙ c.loop-index.invariant.empty.1 (rw whole h));
      all = refl;
    }
