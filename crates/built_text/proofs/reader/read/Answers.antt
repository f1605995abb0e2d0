-- What is answered by hand of the proof of `read`.
use Rattle.std.proofs.Common.{sym, ◌∙◌, ◌≡◌, Result, Ok, Err, IfOk, IfErr, List}
use Rattle.gc0_base.specs.declared.place.Place.{Place}
use Rattle.built_text.specs.declared.token.Token.{Token}
use Rattle.built_text.specs.declared.tree.Program.{Program}
use Rattle.built_text.specs.declared.tree.ReadFault.{ReadFault}
use Rattle.built_text.specs.declared.tree.ReadFault.TheVariants.{NotBuilt, Memory}
use Rattle.built_text.specs.Tree.{ProgramTree}
use Rattle.built_text.specs.Views.{program_view}
use Rattle.built_text.specs.Grammar.{IsProgram}
use Rattle.built_text.specs.Plan.{run, start, Answers}
use Rattle.built_text.specs.Tokens.{all_built, EndsLast}
use Rattle.built_text.specs.Reads.{HasReadCause}
use Rattle.built_text.specs.Answers.{GivesOrMemory}
use Rattle.built_text.proofs.Runs.{reads, faults}
use Rattle.built_text.proofs.Enters.{complete}
use Rattle.built_text.proofs.reader.read.Goals as goal

tree : (ts : List Token) (r : Result Program ReadFault) → Answers (λ p. Ok (program_view p)) (run start ts) r → IfOk r (λ p. IsProgram ts (program_view p))
tree ts (Ok p) a = reads ts (program_view p) a
tree ts (Err e) a = tt

fault : (ts : List Token) (r : Result Program ReadFault) → EndsLast ts → Answers (λ p. Ok (program_view p)) (run start ts) r → IfErr r (λ e. HasReadCause ts e)
fault ts (Ok p) x a = tt
fault ts (Err (NotBuilt place)) x a = faults ts place x a
fault ts (Err Memory) x a = tt

ok_same : (p q : ProgramTree) → ◌≡◌ {A = Result ProgramTree Place} (Ok p) (Ok q) → q ≡ p
ok_same p q e = cc

ok_err : (p : ProgramTree) (at : Place) → ◌≡◌ {A = Result ProgramTree Place} (Ok p) (Err at) → ⊥
ok_err p at e = cc

only : (ts : List Token) (p : ProgramTree) (r : Result Program ReadFault) → IsProgram ts p → Answers (λ p. Ok (program_view p)) (run start ts) r → GivesOrMemory p r
only ts p (Ok q) x a = ok_same p (program_view q) (sym (complete ts p x) ∙ a)
only ts p (Err (NotBuilt place)) x a = ok_err p place (sym (complete ts p x) ∙ a)
only ts p (Err Memory) x a = tt

pub returns-clause-tree : goal.returns-clause-tree
returns-clause-tree c = tree (all_built c.args.tokens.now) c.program_of.result (rw (← c.in_ok-taken.ensures, ← c.deref.ensures.value) c.program_of.ensures)

pub returns-clause-fault : goal.returns-clause-fault
returns-clause-fault c = λ x. fault (all_built c.args.tokens.now) c.program_of.result x (rw (← c.in_ok-taken.ensures, ← c.deref.ensures.value) c.program_of.ensures)

pub returns-clause-only : goal.returns-clause-only
returns-clause-only c = λ p x. only (all_built c.args.tokens.now) p c.program_of.result x (rw (← c.in_ok-taken.ensures, ← c.deref.ensures.value) c.program_of.ensures)
