-- How a search ends, from what was written.
use Rattle.std.proofs.Common.{◌≡◌, ℕ, ◌+◌, ◌<◌, ◌^◌, List, [], ◌++◌, length, Option, Result, Ok, Err, IfOk, IfErr, inl, inr, refl, sym, subst, ap, ◌∙◌, arith}
use Rattle.std.specs.Prelude.{◌⊎◌}
use Rattle.std.proofs.lemmas.List.{append-nil}
use Rattle.std.specs.Io.KnownBytes.{append_known}
use Rattle.std.specs.declared.alloc.AllocError.{AllocError}
use Rattle.gc0_io.specs.Causes.{Rose}
use Rattle.sat_check.specs.declared.clause.Clause.{Clause}
use Rattle.sat_check.specs.declared.log.Entry.{Entry}
use Rattle.sat_check.specs.declared.log.Log.{Log}
use Rattle.sat_check.specs.Clauses.{IsUnsatisfiable}
use Rattle.search_base.specs.declared.found.Found.{Found}
use Rattle.search_base.specs.declared.found.Found.TheVariants.{Spent}
use Rattle.search_base.specs.Searches.{IfSpent, IsSpent, IsRefutedByPropagation}
use Rattle.sat_text.specs.declared.formula.Formula.{Formula}
use Rattle.sat_text.specs.LogTexts.{log_lines, IsProof}
use Rattle.sat_top.specs.declared.status.Status.{Status}
use Rattle.sat_top.specs.declared.status.Status.TheVariants.{Satisfiable, Unsatisfiable, Unknown, BadLine, Limit, Absent, ReadFault, WriteFault, Memory, Usage}
use Rattle.sat_top.specs.Requests.{Asked}
use Rattle.sat_top.specs.Told.{Told, kept_as}
use Rattle.sat_top.specs.Lines.{unsatisfiable_line, unknown_line}
use Rattle.sat_top.specs.Outcomes.{Outputs, OutputFailed, proof_text, MayHaveFront, HasFront, IsFrontOf, SaysUnknown, Ends, Says, Answers}

-- the first number is one behind those of the clauses
same_text : (f : Formula) (first count : ℕ) (entries : List Entry) → count ≡ length f.clauses → first ≡ count + 1 → log_lines first entries ≡ proof_text f entries
same_text f first count entries n e = ap (λ k. log_lines k entries) (e ∙ ap (λ k. k + 1) n)

pub refuted_ends : (f : Formula) (asks : Asked) (o : Outputs) (count : ℕ) (entries : List Entry) (status : Status) → IsUnsatisfiable f.clauses → IsProof f.clauses entries → count ≡ length f.clauses → o.file_new ≡ kept_as o.file_old asks.proof (log_lines (count + 1) entries) → Answers o.out_before o.out_after o.out_old o.out_new o.err_old o.err_new unsatisfiable_line Unsatisfiable status → Ends f asks o status
refuted_ends f asks o count entries status unsat proof n file (inl (is, out, err)) =
    subst (Ends f asks o) (sym is) (record { unsatisfiable = unsat; out = out; err = err; file = record { entries = entries; proof = proof; file = file ∙ ap (kept_as o.file_old asks.proof) (same_text f (count + 1) count entries n refl) } })
refuted_ends f asks o count entries status unsat proof n file (inr (is, front, rose)) =
    subst (Ends f asks o) (sym is) (
      inl rose,
      inr (record {
        answer = unsatisfiable_line;
        is = inr (inl (record { unsatisfiable = unsat; is = refl }));
        out = front;
        file = inr (record {
          entries = entries;
          front = proof_text f entries;
          more = [];
          proof = proof;
          split = sym (append-nil (proof_text f entries));
          file = file ∙ ap (kept_as o.file_old asks.proof) (same_text f (count + 1) count entries n refl);
        });
      }),
    )

may_have : (f : Formula) (asks : Asked) (old new : Told) (count : ℕ) (entries : List Entry) → IsProof f.clauses entries → count ≡ length f.clauses → IsFrontOf old new asks.proof (log_lines (count + 1) entries) → MayHaveFront f asks.proof old new
may_have f asks old new count entries proof n (inl same) = inl same
may_have f asks old new count entries proof n (inr (front, more, split, file)) = inr (record { entries = entries; front = front; more = more; proof = proof; split = sym (same_text f (count + 1) count entries n refl) ∙ split; file = file })

-- the proof was not written
pub write_ends : (f : Formula) (asks : Asked) (o : Outputs) (count : ℕ) (entries : List Entry) (line : List ℕ) (status : Status) → IsProof f.clauses entries → count ≡ length f.clauses → IsFrontOf o.file_old o.file_new asks.proof (log_lines (count + 1) entries) → o.out_new ≡ o.out_old → Rose o.proof_before o.proof_after → Says o.err_before o.err_after o.err_old o.err_new line WriteFault status → Ends f asks o status
write_ends f asks o count entries line status proof n front out rose s =
    let m = may_have f asks o.file_old o.file_new count entries proof n front in
    let is : status ≡ WriteFault = elim s [ inl w ↦ w.0 | inr w ↦ w.0 ] in
    subst (Ends f asks o) (sym is) (inr (inr rose), inl (record { out = out; file = m }))

pub memory_ends : (f : Formula) (asks : Asked) (o : Outputs) (count : ℕ) (entries : List Entry) (line : List ℕ) (status : Status) → IsProof f.clauses entries → count ≡ length f.clauses → IsFrontOf o.file_old o.file_new asks.proof (log_lines (count + 1) entries) → o.out_new ≡ o.out_old → Says o.err_before o.err_after o.err_old o.err_new line Memory status → Ends f asks o status
memory_ends f asks o count entries line status proof n front out (inl w) =
    subst (Ends f asks o) (sym w.0) (record { out = out; file = may_have f asks o.file_old o.file_new count entries proof n front })
memory_ends f asks o count entries line status proof n front out (inr w) =
    subst (Ends f asks o) (sym w.0) (inr (inl w.1), inl (record { out = out; file = may_have f asks o.file_old o.file_new count entries proof n front }))

-- ---- a search that was spent
pub says_unknown :
    (f : Formula) (conflicts : ℕ) (clauses : List Clause) (found : Found) (log : Log) → clauses ≡ f.clauses → found ≡ Spent log
    → IfSpent found (IsSpent f.variables clauses conflicts) → IfSpent found (λ _. conflicts < 3 ^ f.variables)
    → IfSpent found (λ _. 0 < conflicts → ¬ IsRefutedByPropagation clauses) → SaysUnknown f conflicts unknown_line
says_unknown f conflicts clauses found log same is spent few propagated = record {
  entries = log.entries;
  spent = rw same at (rw is at spent);
  few = rw is at few;
  not_propagated = rw same at (rw is at propagated);
  is = refl;
}

pub unknown_ends :
    (f : Formula) (asks : Asked) (o : Outputs) (status : Status) → SaysUnknown f asks.conflicts unknown_line → o.file_new ≡ o.file_old
    → Answers o.out_before o.out_after o.out_old o.out_new o.err_old o.err_new unknown_line Unknown status → Ends f asks o status
unknown_ends f asks o status says file (inl (is, out, err)) =
    subst (Ends f asks o) (sym is) (record { answer = unknown_line; says = says; out = out; err = err; file = file })
unknown_ends f asks o status says file (inr (is, front, rose)) =
    subst (Ends f asks o) (sym is) (inl rose, inr (record { answer = unknown_line; is = inr (inr says); out = front; file = inl file }))

-- ---- lines that were made
pub said : (P : Status → Type 0) (e0 e1 : ℕ) (old new : Option (List ℕ)) (line : List ℕ) (status answer : Status) → Says e0 e1 old new line status answer → (new ≡ append_known old line → P status) → (Rose e0 e1 → P WriteFault) → P answer
said P e0 e1 old new line status answer (inl w) f g = subst P (sym w.0) (f w.1)
said P e0 e1 old new line status answer (inr w) f g = subst P (sym w.0) (g w.1)

pub text_said : {V : Type 0} (items : V → List ℕ) (P : Status → Type 0) (e0 e1 : ℕ) (old new : Option (List ℕ)) (made : Result V AllocError) (line : List ℕ) (status answer : Status) → IfOk made (λ v. items v ≡ line) → IfOk made (λ v. Says e0 e1 old new (items v) status answer) → IfErr made (λ _. (answer ≡ Memory) ⊎ ((answer ≡ WriteFault) × Rose e0 e1)) → (new ≡ append_known old line → P status) → (Rose e0 e1 → P WriteFault) → P Memory → P answer
text_said items P e0 e1 old new (Ok t) line status answer e s m f g h = said P e0 e1 old new line status answer (subst (λ l. Says e0 e1 old new l status answer) e s) f g
text_said items P e0 e1 old new (Err x) line status answer e s (inl w) f g h = subst P (sym w) h
text_said items P e0 e1 old new (Err x) line status answer e s (inr w) f g h = subst P (sym w.0) (g w.1)
