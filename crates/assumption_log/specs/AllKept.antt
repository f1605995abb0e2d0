-- The record that keeps all that is decided, and that it is right. This project's own.
use Rattle.std.specs.Prelude.{ℕ, suc, Bool, true, false, List, [], ◌∷◌, ◌++◌, Some, if◌then◌else◌}
use Rattle.gc0_base.specs.declared.site.Site.{Site}
use Rattle.gc0_base.specs.declared.site.Part.{Part}
use Rattle.gc0_base.specs.declared.site.Part.TheVariants.{Access, Whole}
use Rattle.gc0_tree.specs.Tree.{Conjuncts, no_parts, value_part, acc_part, instance_part, choice_part}
use Rattle.core_tree.specs.CoreTree.{CoreFunction, Core}
use Rattle.core_meaning.specs.Stepped.{IsStepped}
use Rattle.core_checks.specs.Entries.{Entry, IsRight}
use Rattle.core_checks.specs.Subjects.{Subject, of_formula, of_access, of_fault, SubjectAt, function_subjects}

-- ---- what is kept
abbrev pub has_parts : Conjuncts → Bool
has_parts no_parts = false
has_parts (value_part e rest) = true
has_parts (acc_part e field rest) = true
has_parts (instance_part at p args rest) = true
has_parts (choice_part at c these those rest) = true

-- a part, whatever was decided
abbrev pub free_entry : Site → Part → List Entry
free_entry site part = record { site = site; decisions = []; part = part } ∷ []

-- the whole of a formula that has a conjunct, each access, and no fault of C0 itself
abbrev pub subject_entries : Site → Subject → List Entry
subject_entries site (of_formula folded formula) = if has_parts formula.parts then free_entry site Whole else []
subject_entries site of_access = free_entry site Access
subject_entries site of_fault = []

-- in the order of the subjects
abbrev pub entries_of : List SubjectAt → List Entry
entries_of [] = []
entries_of (x ∷ xs) = subject_entries x.site x.subject ++ entries_of xs

-- function by function, from a number on
abbrev pub entries_from : Core → ℕ → List CoreFunction → List Entry
entries_from c g [] = []
entries_from c g (f ∷ fs) = entries_of (function_subjects c g (Some f)) ++ entries_from c (suc g) fs

abbrev pub all_entries : Core → List Entry
all_entries c = entries_from c 0 c.functions

-- it is a right record
abbrev pub all_kept_law : Type 0
all_kept_law = (c : Core) → IsStepped c → IsRight c (all_entries c)
