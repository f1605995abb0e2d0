-- The code of a core with the parts of a placement. This project's own.
use Rattle.std.specs.Prelude.{ℕ, zero, suc, ◌+◌, Bool, true, false, List, [], ◌∷◌, ◌++◌, length, Option, Some, None, is_some, if◌then◌else◌, slice_get}
use Rattle.gc0_base.specs.declared.site.Site.{Site}
use Rattle.gc0_base.specs.declared.site.Decision.{Decision}
use Rattle.gc0_tree.specs.declared.LibraryCall.{LibraryCall}
use Rattle.gc0_tree.specs.Fits.{library_gives}
use Rattle.gc0_tree.specs.Tree.{Formula, NoteKind, assert_note, fold_note, unfold_note}
use Rattle.core_tree.specs.declared.Simple.{Simple}
use Rattle.core_tree.specs.declared.Simple.TheVariants as simple
use Rattle.core_tree.specs.declared.Phase.{Phase}
use Rattle.core_tree.specs.declared.Phase.TheVariants.{Produce, Consume}
use Rattle.core_tree.specs.CoreTree as tree
use Rattle.core_tree.specs.CoreTree.{CoreStmt, do_step, do_set, do_unary, do_binary, do_load, do_store, do_new, do_call, do_library, do_if, do_loop, do_return, do_assert, do_raise, do_note, no_code, code_and, CoreFunction, Core}
use Rattle.core_tree.specs.CoreSites.{choice_decision}
use Rattle.c0_meaning.specs.Running.{fields_of}
use Rattle.core_meaning.specs.Choices.{ChoiceOf, choices, instance_body}
use Rattle.core_meaning.specs.CoreRunning.{before_of, after_of, start_at}
use Rattle.core_checks.specs.Entries.{Known}
use Rattle.core_checks.specs.Placements.{Guarded, Placement, kept_at, is_tracked}
use Rattle.watched_core.specs.Watching.{is_marked, marks_of, main_marks}
use Rattle.code_laws.specs.Instrs as instr
use Rattle.code_laws.specs.Instrs.{Words, Over, Instr, Body, Code}

abbrev pub when : Bool → List Instr → List Instr
when b is = if b then is else []

-- ---- marks and checks
abbrev pub marks_from : Core → Placement → (function : ℕ) → Site → Phase → ℕ → Over → List ChoiceOf → List Instr
marks_from c p g site phase k over [] = []
marks_from c p g site phase k over (x ∷ xs) =
    when (is_marked p g (choice_decision c site phase k)) (instr.markchoice (choice_decision c site phase k).number x.condition over ∷ [])
    ++ marks_from c p g site phase (suc k) over xs

abbrev pub marks : Core → Placement → (function : ℕ) → Site → Phase → Formula → Words → List Instr
marks c p g site phase formula words = marks_from c p g site phase 0 (instr.the_words words) (choices formula.parts)

-- of the body of the one instance of a fold or an unfold
abbrev pub body_marks : Core → Placement → (function : ℕ) → Site → Phase → Formula → Words → List Instr
body_marks c p g site phase formula words =
    marks_from c p g site phase 0 (instr.the_arguments formula words) (choices (instance_body c.predicates formula.parts))

-- behind one guard per decision, each of which passes over the check
abbrev pub guarded : List Known → Instr → List Instr
guarded [] i = i ∷ []
guarded (d ∷ ds) i = instr.guard d.0.number d.1 (length (guarded ds i)) ∷ guarded ds i

abbrev pub checks : Site → (folded : Bool) → Formula → Words → List Guarded → List Instr
checks site folded formula words [] = []
checks site folded formula words (g ∷ gs) = guarded g.decisions (instr.check site folded formula words g.part) ++ checks site folded formula words gs

abbrev pub access_checks : Site → (field : ℕ) → (under : Bool) → List Guarded → List Instr
access_checks site field under [] = []
access_checks site field under (g ∷ gs) = guarded g.decisions (instr.checkaccess site field under) ++ access_checks site field under gs

-- a formula is consumed
abbrev pub consume_code : Core → Placement → (function : ℕ) → Site → Formula → Words → List Instr
consume_code c p g site formula words = marks c p g site Consume formula words ++ checks site false formula words (kept_at p site)

-- ---- levels
abbrev pub open_code : Formula → Words → Instr
open_code formula words = if formula.imprecise then instr.ownall else instr.ownopen formula words

abbrev pub closes : ℕ → List Instr
closes zero = []
closes (suc n) = instr.ownclose ∷ closes n

abbrev pub behind_code : (caller callee : Bool) → List Instr
behind_code caller true = instr.ownclose ∷ []
behind_code true false = instr.ownadopt ∷ []
behind_code false false = []

-- ---- values
abbrev pub simple_code : Simple → Instr
simple_code (simple.Const w) = instr.push w.0
simple_code (simple.Local i) = instr.load i

abbrev pub simples_code : Option Simple → List Instr
simples_code None = []
simples_code (Some a) = simple_code a ∷ []

abbrev pub loads : List ℕ → List Instr
loads [] = []
loads (i ∷ is) = instr.load i ∷ loads is

-- what becomes of a result: it is written, or dropped where nobody asks for it
abbrev pub result_code : (gives : Bool) → Option ℕ → List Instr
result_code false to = []
result_code true None = instr.drop ∷ []
result_code true (Some to) = instr.save to ∷ []

abbrev pub gives_of : Option CoreFunction → Bool
gives_of None = false
gives_of (Some f) = is_some f.result

-- ---- calls, branches, loops
abbrev pub call_code : Core → Placement → (function : ℕ) → Site → ℕ → Option CoreFunction → (arguments : List ℕ) → Option ℕ → List Instr
call_code c p f site g callee args to =
    loads args
    ++ (consume_code c p f site (before_of callee) (instr.operands (length args))
    ++ (when (is_tracked p g) (open_code (before_of callee) (instr.operands (length args)) ∷ [])
    ++ (instr.call g ∷ (behind_code (is_tracked p f) (is_tracked p g)
    ++ (marks c p f site Produce (after_of callee) (instr.behind_call args (gives_of callee))
    ++ result_code (gives_of callee) to)))))

abbrev pub branch_code : Placement → (function : ℕ) → Decision → Simple → List Instr
branch_code p g d a = simple_code a ∷ when (is_marked p g d) (instr.markbranch d.number ∷ [])

abbrev pub if_code : Placement → (function : ℕ) → Decision → Simple → List Instr → List Instr → List Instr
if_code p g d a these those =
    branch_code p g d a ++ (instr.jumpfalse (length these + 1) ∷ (these ++ (instr.jump (length those) ∷ those)))

-- from the head of a loop to behind its body and the check at the next head
abbrev pub turn_code : Core → Placement → (function : ℕ) → CoreFunction → (entry later : Site) → Formula → Decision → List Instr → Simple → List Instr → List Instr
turn_code c p g f entry later inv d test a body =
    let next : List Instr = body ++ (consume_code c p g later inv (instr.first (length f.locals)) ++ when (is_tracked p g) (instr.ownclose ∷ [])) in
    when (is_tracked p g) (open_code inv (instr.first (length f.locals)) ∷ [])
    ++ (marks c p g entry Produce inv (instr.first (length f.locals))
    ++ (test ++ (branch_code p g d a ++ (instr.jumpfalse (length next + 1) ∷ next))))

abbrev pub loop_code : Core → Placement → (function : ℕ) → CoreFunction → (entry later : Site) → Formula → Decision → List Instr → Simple → List Instr → List Instr
loop_code c p g f entry later inv d test a body =
    let whole : List Instr = turn_code c p g f entry later inv d test a body in
    consume_code c p g entry inv (instr.first (length f.locals))
    ++ (whole ++ (instr.jumpback (length whole) ∷ when (is_tracked p g) (instr.ownclose ∷ [])))

-- the end of a call behind its value
abbrev pub return_code : Core → Placement → (function : ℕ) → CoreFunction → Site → List Instr
return_code c p g f site =
    consume_code c p g site f.after (instr.returning f.params (is_some f.result)) ++ instr.return (is_some f.result) ∷ []

abbrev pub note_code : Core → Placement → (function : ℕ) → CoreFunction → NoteKind → Formula → Site → List Instr
note_code c p g f assert_note formula site = consume_code c p g site formula (instr.first (length f.locals))
note_code c p g f fold_note formula site =
    body_marks c p g site Consume formula (instr.first (length f.locals)) ++ checks site true formula (instr.first (length f.locals)) (kept_at p site)
note_code c p g f unfold_note formula site =
    checks site false formula (instr.first (length f.locals)) (kept_at p site) ++ body_marks c p g site Produce formula (instr.first (length f.locals))

abbrev pub library_code : LibraryCall → Option Simple → Option ℕ → Option Site → Option ℕ → List Instr
library_code l a t site to = simples_code a ++ (instr.library l t site ∷ result_code (is_some (library_gives l)) to)

-- ---- statements of a function, inside so many loops
abbrev mutual
  pub stmt_code : Core → Placement → (function : ℕ) → CoreFunction → (loops : ℕ) → CoreStmt → List Instr
  stmt_code c p g f n do_step = instr.step ∷ []
  stmt_code c p g f n (do_set to a) = simple_code a ∷ instr.save to ∷ []
  stmt_code c p g f n (do_unary to o a) = simple_code a ∷ instr.unary o ∷ instr.save to ∷ []
  stmt_code c p g f n (do_binary to o a b site) = simple_code a ∷ simple_code b ∷ instr.binary o site ∷ instr.save to ∷ []
  stmt_code c p g f n (do_load to base k field site) =
      simple_code base ∷ (access_checks site field false (kept_at p site) ++ (instr.get field site ∷ instr.save to ∷ []))
  stmt_code c p g f n (do_store base k field value site) =
      simple_code base ∷ simple_code value ∷ (access_checks site field true (kept_at p site) ++ instr.put field site ∷ [])
  stmt_code c p g f n (do_new to k) =
      instr.new k (fields_of (slice_get c.structs k)) ∷ (when (is_tracked p g) (instr.ownnew ∷ []) ++ instr.save to ∷ [])
  stmt_code c p g f n (do_call to h args site) = call_code c p g site h (slice_get c.functions h) args to
  stmt_code c p g f n (do_library to l a t site) = library_code l a t site to
  stmt_code c p g f n (do_if d a these those) = if_code p g d a (code_of c p g f n these) (code_of c p g f n those)
  stmt_code c p g f n (do_loop entry later inv d test a body) =
      loop_code c p g f entry later inv d (code_of c p g f (suc n) test) a (code_of c p g f (suc n) body)
  stmt_code c p g f n (do_return a site) = simples_code a ++ (when (is_tracked p g) (closes n) ++ return_code c p g f site)
  stmt_code c p g f n (do_assert a site) = simple_code a ∷ instr.assert site ∷ []
  stmt_code c p g f n (do_raise t site) = instr.raise site ∷ []
  stmt_code c p g f n (do_note k formula site) = note_code c p g f k formula site

  pub code_of : Core → Placement → (function : ℕ) → CoreFunction → (loops : ℕ) → tree.Code → List Instr
  code_of c p g f n no_code = []
  code_of c p g f n (code_and s rest) = stmt_code c p g f n s ++ code_of c p g f n rest

abbrev pub function_code : Core → Placement → ℕ → CoreFunction → List Instr
function_code c p g f = marks c p g (start_at g) Produce f.before (instr.first f.params) ++ code_of c p g f 0 f.body

abbrev pub body_of : Core → Placement → ℕ → CoreFunction → Body
body_of c p g f = record { params = f.params; words = length f.locals + length f.temps; marks = marks_of p g f; instrs = function_code c p g f }

-- the functions from a number on
abbrev pub bodies_from : Core → Placement → ℕ → List CoreFunction → List Body
bodies_from c p g [] = []
bodies_from c p g (f ∷ fs) = body_of c p g f ∷ bodies_from c p (suc g) fs

-- a run starts with the precondition of `main`, and a call of it that takes no step
abbrev pub start_code : Core → Placement → Body
start_code c p = record {
  params = 0;
  words = 0;
  marks = main_marks p c.main (slice_get c.functions c.main);
  instrs = consume_code c p c.main (start_at c.main) (before_of (slice_get c.functions c.main)) (instr.first 0) ++ (instr.call c.main ∷ instr.return true ∷ []);
}

abbrev pub code : Core → Placement → Code
code c p = record { predicates = c.predicates; texts = c.texts; functions = bodies_from c p 0 c.functions; start = start_code c p }
