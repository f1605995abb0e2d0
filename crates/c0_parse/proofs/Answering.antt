-- What the parser answers, from the run over the tokens and the faults of the tree.
use Rattle.std.proofs.Common.{◌≡◌, List, [], ◌∷◌, Option, Some, None, Result, Ok, Err, IfOk, IfErr, refl, sym, subst, ap, ◌∙◌}
use Rattle.c0_lex.specs.declared.token.Token.{Token as LexToken}
use Rattle.parsed_tree.specs.declared.items.Parsed.{Parsed}
use Rattle.parsed_tree.specs.Tree.{ProgramTree}
use Rattle.parsed_tree.specs.Views.{program_view}
use Rattle.c0_grammar.specs.Tokens.{Token}
use Rattle.c0_grammar.specs.Plan.{Fault, syntax_at, deep_at, start}
use Rattle.c0_grammar.specs.Reads.{Reads, EndsLast, Answers}
use Rattle.c0_grammar.specs.Laws.{RunIsExact, RunIsComplete}
use Rattle.parse_faults.specs.declared.fault.ParseFault.{ParseFault}
use Rattle.c0_cursor.specs.declared.fault.Stop.{Stop}
use Rattle.c0_cursor.specs.declared.fault.Stop.TheVariants as stop
use Rattle.c0_cursor.specs.Seen.{reading, Parsed as Answer}
use Rattle.c0_grammar.specs.Seen.{all_seen}
use Rattle.parse_faults.specs.TreeFaults.{TreeFault, contract_on_prototype, deep_read, tree_faults}
use Rattle.c0_parse.specs.Causes.{HasCause}
use Rattle.parse_faults.specs.First.{first_of}
use Rattle.c0_parse.specs.Answers.{AnswersTree, unless_fault, answer_of}
use Rattle.gc0_base.specs.declared.limits.TheConstants.Limits as limits

-- what a reading of a whole text answered
abbrev pub IsAnswer : List LexToken → Result Parsed Stop → Type 0
IsAnswer ts r = Answer (λ q. Ok (program_view q)) (reading start ts) r

same_tree : (p q : ProgramTree) → ◌≡◌ {A = Result ProgramTree Fault} (Ok p) (Ok q) → p ≡ q
same_tree p q e = cc

no_tree : (p : ProgramTree) (f : Fault) → ◌≡◌ {A = Result ProgramTree Fault} (Ok p) (Err f) → ⊥
no_tree p f e = cc

same_fault : (e f : ParseFault) → ◌≡◌ {A = Option ParseFault} (Some e) (Some f) → e ≡ f
same_fault e f h = cc

-- ---- the tree
if_tree : (q : Parsed) (o : Option ParseFault) (P : Parsed → Type 0) → P q → IfOk (unless_fault q o) P
if_tree q None P h = h
if_tree q (Some e) P h = tt

pub tree : RunIsExact → (ts : List LexToken) (r : Result Parsed Stop) → IsAnswer ts r → EndsLast (all_seen ts) → IfOk (answer_of r) (λ p. Reads limits.NESTING (all_seen ts) (program_view p))
tree exact ts (Ok q) a ends = if_tree q (first_of (tree_faults (program_view q))) (λ p. Reads limits.NESTING (all_seen ts) (program_view p)) (subst (Answers limits.NESTING (all_seen ts)) a (exact limits.NESTING (all_seen ts) ends))
tree exact ts (Err (stop.Syntax at)) a ends = tt
tree exact ts (Err (stop.TooDeep at)) a ends = tt
tree exact ts (Err stop.Memory) a ends = tt

-- ---- a tree without a fault
no_faults : (q : Parsed) (fs : List TreeFault) → tree_faults (program_view q) ≡ fs → IfOk (unless_fault q (first_of fs)) (λ p. tree_faults (program_view p) ≡ [])
no_faults q [] e = e
no_faults q (contract_on_prototype at ∷ fs) e = tt
no_faults q (deep_read at ∷ fs) e = tt

pub faultless : (r : Result Parsed Stop) → IfOk (answer_of r) (λ p. tree_faults (program_view p) ≡ [])
faultless (Ok q) = no_faults q (tree_faults (program_view q)) refl
faultless (Err (stop.Syntax at)) = tt
faultless (Err (stop.TooDeep at)) = tt
faultless (Err stop.Memory) = tt

-- ---- the fault
fault_of_tree : (ts : List Token) (q : Parsed) (fs : List TreeFault) → Reads limits.NESTING ts (program_view q) → tree_faults (program_view q) ≡ fs → IfErr (unless_fault q (first_of fs)) (λ e. HasCause ts e)
fault_of_tree ts q [] r e = tt
fault_of_tree ts q (contract_on_prototype at ∷ fs) r e = (program_view q, r, (fs, e))
fault_of_tree ts q (deep_read at ∷ fs) r e = (program_view q, r, (fs, e))

pub cause : RunIsExact → (ts : List LexToken) (r : Result Parsed Stop) → IsAnswer ts r → EndsLast (all_seen ts) → IfErr (answer_of r) (λ e. HasCause (all_seen ts) e)
cause exact ts (Ok q) a ends = fault_of_tree (all_seen ts) q (tree_faults (program_view q)) (subst (Answers limits.NESTING (all_seen ts)) a (exact limits.NESTING (all_seen ts) ends)) refl
cause exact ts (Err (stop.Syntax at)) a ends = subst (Answers limits.NESTING (all_seen ts)) a (exact limits.NESTING (all_seen ts) ends)
cause exact ts (Err (stop.TooDeep at)) a ends = subst (Answers limits.NESTING (all_seen ts)) a (exact limits.NESTING (all_seen ts) ends)
cause exact ts (Err stop.Memory) a ends = tt

-- ---- each tree that is not too deep
answers_it : (p : ProgramTree) (q : Parsed) (fs : List TreeFault) → program_view q ≡ p → tree_faults p ≡ fs → AnswersTree p (unless_fault q (first_of fs))
answers_it p q [] s e = (s, e)
answers_it p q (contract_on_prototype at ∷ fs) s e = (fs, e)
answers_it p q (deep_read at ∷ fs) s e = (fs, e)

pub complete : RunIsComplete → (ts : List LexToken) (r : Result Parsed Stop) → IsAnswer ts r → (p : ProgramTree) → Reads limits.NESTING (all_seen ts) p → AnswersTree p (answer_of r)
complete all ts (Ok q) a p x =
    let s : program_view q ≡ p = same_tree (program_view q) p (sym a ∙ all limits.NESTING (all_seen ts) p x) in
    answers_it p q (tree_faults (program_view q)) s (ap tree_faults (sym s))
complete all ts (Err (stop.Syntax at)) a p x = no_tree p (syntax_at at) (sym (all limits.NESTING (all_seen ts) p x) ∙ a)
complete all ts (Err (stop.TooDeep at)) a p x = no_tree p (deep_at at) (sym (all limits.NESTING (all_seen ts) p x) ∙ a)
complete all ts (Err stop.Memory) a p x = tt
