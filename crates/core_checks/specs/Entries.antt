-- Records of what is kept to be checked at run time, and which of them are right. This project's own.
use Rattle.std.specs.Prelude.{◌≡◌, ℕ, ◌<◌, ◌^◌, Bool, true, false, not, ◌&&◌, ◌||◌, List, [], ◌∷◌, length, All, Option, Some, None, IfSome, slice_get}
use Rattle.gc0_base.specs.declared.site.Site.{Site}
use Rattle.gc0_base.specs.declared.site.Decision.{Decision}
use Rattle.gc0_base.specs.declared.site.Part.{Part}
use Rattle.gc0_base.specs.declared.site.Part.TheVariants.{Value, Reach, Access, Whole, Separate}
use Rattle.gc0_tree.specs.Tree.{Conjuncts}
use Rattle.core_tree.specs.CoreTree.{CoreFunction, Core}
use Rattle.core_meaning.specs.Choices.{instance_body}
use Rattle.core_meaning.specs.CoreRuns.{Outcomes, Visit}
use Rattle.core_meaning.specs.CoreRunning.{visits}
use Rattle.core_meaning.specs.CoreSited.{same_site}
use Rattle.core_checks.specs.Parts.{Conjunct, of_value, of_acc, conjuncts_of}
use Rattle.core_checks.specs.Subjects.{Subject, of_formula, of_access, of_fault, subject_of, subject_holds, subject_says}

-- a decision with the outcome that it is to have
abbrev pub Known : Type 0
Known = Decision × Bool

-- a part that is checked at a site where each decision had its outcome last
pub record Entry : Type 0 where
  pub site : Site
  pub decisions : List Known
  pub part : Part

-- ---- what an entry says at a visit
abbrev pub same_bool : Bool → Bool → Bool
same_bool true b = b
same_bool false b = not b

abbrev pub is_last : Option (Option Bool) → Bool → Bool
is_last (Some (Some a)) b = same_bool a b
is_last o b = false

-- each decision had its outcome last
abbrev pub among_last : Outcomes → List Known → Bool
among_last outcomes [] = true
among_last outcomes (d ∷ ds) = is_last (slice_get outcomes d.0.number) d.1 && among_last outcomes ds

-- an entry says something where it is of the site and its decisions are among the outcomes
abbrev pub entry_says : Core → Subject → Visit → Entry → Bool
entry_says c x v e = not (same_site e.site v.site && among_last v.outcomes e.decisions) || subject_says c x e.part v.words v.heap v.owned

abbrev pub entries_say : Core → Subject → Visit → List Entry → Bool
entries_say c x v [] = true
entries_say c x v (e ∷ es) = entry_says c x v e && entries_say c x v es

-- ---- right records
-- what is decided at the visit holds exactly where each part holds that is kept for it
abbrev pub IsRightVisit : Core → List Entry → Visit → Type 0
IsRightVisit c es v = IfSome (subject_of c v.site) (λ x. subject_holds c x v.words v.heap v.owned ≡ entries_say c x v es)

abbrev pub AreRight : Core → List Entry → List Visit → Type 0
AreRight c es [] = Unit {0}
AreRight c es (v ∷ vs) = IsRightVisit c es v × AreRight c es vs

abbrev pub is_conjunct : Part → Option Conjunct → Bool
is_conjunct (Value k) (Some (of_value e)) = true
is_conjunct (Reach k) (Some (of_acc e field)) = true
is_conjunct part c = false

-- a part of conjuncts: the whole, whether they are separate, or one conjunct of its kind
abbrev pub is_part : Part → Conjuncts → Bool
is_part (Value k) parts = is_conjunct (Value k) (slice_get (conjuncts_of parts) k)
is_part (Reach k) parts = is_conjunct (Reach k) (slice_get (conjuncts_of parts) k)
is_part Whole parts = true
is_part Separate parts = true
is_part Access parts = false

abbrev pub is_access : Part → Bool
is_access Access = true
is_access part = false

-- a part of what is decided at a site; at a fold of the body of its instance
abbrev pub is_part_of : Core → Subject → Part → Bool
is_part_of c (of_formula true formula) part = is_part part (instance_body c.predicates formula.parts)
is_part_of c (of_formula false formula) part = is_part part formula.parts
is_part_of c of_access part = is_access part
is_part_of c of_fault part = false

abbrev pub count_of : Option CoreFunction → ℕ
count_of None = 0
count_of (Some f) = length f.decisions

-- a decision of the function of the site
abbrev pub IsDecisionAt : Core → Site → Known → Type 0
IsDecisionAt c site d = (d.0.function ≡ site.function) × (d.0.number < count_of (slice_get c.functions site.function))

pub record IsEntry (c : Core) (e : Entry) : Type 0 where
  pub part : (x : Subject) × (subject_of c e.site ≡ Some x) × (is_part_of c x e.part ≡ true)
  pub decisions : All (IsDecisionAt c e.site) e.decisions

-- the numbers of an input
abbrev pub AreWords : List ℕ → Type 0
AreWords input = All (λ x. x < 2 ^ 32) input

-- A record is right where its entries are entries of the core and each visit of each run is right.
pub record IsRight (c : Core) (es : List Entry) : Type 0 where
  pub entries : All (IsEntry c) es
  pub visits : (input : List ℕ) (n : ℕ) → AreWords input → n < 2 ^ 32 → AreRight c es (visits c input n)
