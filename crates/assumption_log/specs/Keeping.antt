-- The entries of the record that keeps all, each with a reason.
use Rattle.std.specs.Prelude.{◌≡◌, true, false, List, ◌++◌, map}
use Rattle.gc0_base.specs.declared.site.Site.{Site}
use Rattle.gc0_tree.specs.declared.Note.{Note}
use Rattle.gc0_tree.specs.declared.Note.TheVariants as note
use Rattle.gc0_tree.specs.Views.{formula_view}
use Rattle.core_checks.specs.Entries.{Entry}
use Rattle.core_checks.specs.Subjects.{of_formula, SubjectAt, subject_at_one}
use Rattle.assumption_log.specs.declared.Reason.{Reason}
use Rattle.assumption_log.specs.declared.Kept.{Kept}
use Rattle.assumption_log.specs.AllKept.{entries_of}

abbrev pub with_reason : Reason → Entry → Kept
with_reason r e = record { site = e.site; decisions = e.decisions; part = e.part; reason = r }

abbrev pub kept_of : Reason → List SubjectAt → List Kept
kept_of r xs = map (with_reason r) (entries_of xs)

abbrev pub note_subjects : Note → Site → List SubjectAt
note_subjects (note.Assert f) site = subject_at_one site (of_formula false (formula_view f))
note_subjects (note.Fold f) site = subject_at_one site (of_formula true (formula_view f))
note_subjects (note.Unfold f) site = subject_at_one site (of_formula false (formula_view f))

-- what the entries are behind those of some subjects
abbrev pub Adds : Reason → (old : List Kept) → List SubjectAt → (new : List Kept) → Type 0
Adds r old xs new = new ≡ old ++ kept_of r xs
