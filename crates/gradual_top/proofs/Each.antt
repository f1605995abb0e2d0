-- Each text has a verdict.
use Rattle.std.proofs.Common.{◌≡◌, List, ℕ, [], ◌∷◌, fold, Option, Some, None, Result, Ok, Err, Bool, true, false, inl, inr, refl, ◌∙◌, ap}
use Rattle.std.specs.Prelude.{◌⊎◌, if◌then◌else◌}
use Rattle.std.specs.Option.{option_map}
use Rattle.gc0_base.specs.declared.place.Place.{Place}
use Rattle.c0_lex.specs.declared.fault.LexFault.{LexFault}
use Rattle.c0_lex.specs.Texts.{Lexeme, HasTokens, HasFault, EachText}
use Rattle.parsed_tree.specs.Tree.{ProgramTree}
use Rattle.c0_grammar.specs.Plan.{Fault, syntax_at, deep_at, run, start as begin}
use Rattle.c0_grammar.specs.Lexemes.{read_tokens, read_ends_last}
use Rattle.c0_grammar.specs.Reads.{Reads, Answers}
use Rattle.c0_grammar.specs.Laws.{RunIsExact}
use Rattle.parse_faults.specs.declared.fault.ParseFault.TheVariants as parse
use Rattle.parse_faults.specs.TreeFaults.{TreeFault, contract_on_prototype, deep_read, tree_faults}
use Rattle.c0_value_rules.specs.declared.violation.Violation.{Violation}
use Rattle.c0_value_rules.specs.Violations.{comes_before, least_of, fault_of}
use Rattle.c0_value_rules.specs.Violations as violation
use Rattle.c0_rules.specs.Rules.{violations}
use Rattle.gc0_tree.specs.Sites.{is_before}
use Rattle.c0_numbers.specs.Resolved.{resolved}
use Rattle.self_framing.specs.declared.fault.FrameFault.{FrameFault}
use Rattle.self_framing.specs.FrameFaults.{fault_place, frame_faults, first_fault}
use Rattle.self_framing.specs.FrameFaults as frame
use Rattle.program_limits.specs.declared.passed.Limit.{Limit}
use Rattle.program_limits.specs.Counts.{limit_passed}
use Rattle.built_text.specs.Tokens.{EndsLast as SmallEndsLast, CutEndsLast}
use Rattle.built_text.specs.Tree.{ProgramTree as SmallTree}
use Rattle.built_text.specs.Grammar.{IsProgram}
use Rattle.built_text.specs.Reads.{EachTokens, FirstFault}
use Rattle.gradual_top.specs.Source.{most_nodes, small_tokens, HasTree, IsSound, lexical, parsing, typing, framing, Verdict, refused, too_deep, past, unbuilt, runs, IsVerdict, EachVerdict}

-- the laws of the floors below
pub record Whole : Type 0 where
  pub texts : EachText
  pub exact : RunIsExact
  pub small : EachTokens
  pub ends : CutEndsLast

abbrev Judgement : List ℕ → Type 0
Judgement text = (v : Verdict) × IsVerdict text v

-- ---- a fault comes first
-- a step through a list that goes on with one of the two
abbrev Picks : (A : Type 0) → (Option A → A → Option A) → Type 0
Picks A step = (v w : A) → (u : A) × (step (Some v) w ≡ Some u)

keeps_some : (A : Type 0) (step : Option A → A → Option A) → Picks A step → (v : A) (vs : List A) → (w : A) × (fold step (Some v) vs ≡ Some w)
keeps_some A step picks v [] = (v, refl)
keeps_some A step picks v (w ∷ vs) =
    let p = picks v w in
    let h = keeps_some A step picks p.0 vs in
    (h.0, ap (λ o. fold step o vs) p.1 ∙ h.1)

one_of : (A : Type 0) (v w : A) (b : Bool) → (u : A) × ((if b then Some w else Some v) ≡ Some u)
one_of A v w true = (w, refl)
one_of A v w false = (v, refl)

first_violation : (vs : List Violation) (v : Violation) (rest : List Violation) → vs ≡ v ∷ rest → (w : Violation) × (least_of vs ≡ Some w)
first_violation vs v rest e = let h = keeps_some Violation violation.earlier (λ a b. one_of Violation a b (comes_before b a)) v rest in (h.0, ap least_of e ∙ h.1)

first_frame_fault : (fs : List FrameFault) (f : FrameFault) (rest : List FrameFault) → fs ≡ f ∷ rest → (g : FrameFault) × (first_fault fs ≡ Some g)
first_frame_fault fs f rest e = let h = keeps_some FrameFault frame.earlier (λ a b. one_of FrameFault a b (is_before (fault_place b) (fault_place a))) f rest in (h.0, ap first_fault e ∙ h.1)

-- ---- a text with tokens
sound_text : Whole → (text : List ℕ) (ls : List Lexeme) (has : HasTokens text ls) (p : ProgramTree) → HasTree text p → IsSound p → limit_passed (resolved p) ≡ None → SmallEndsLast (small_tokens ls) → Judgement text
sound_text whole text ls has p tree sound within e = of_small (whole.small (small_tokens ls) e)
  where
    of_small : ((q : SmallTree) × IsProgram (small_tokens ls) q) ⊎ ((at : Place) × FirstFault (small_tokens ls) at) → Judgement text
    of_small (inl h) = (runs p, record { has = tree; sound = sound; within = within; small = record { lexemes = ls; tokens = has; tree = h.0; program = h.1 } })
    of_small (inr h) = (unbuilt h.0, record { tree = p; has = tree; sound = sound; within = within; unbuilt = record { lexemes = ls; tokens = has; fault = h.1 } })

counted_text : Whole → (text : List ℕ) (ls : List Lexeme) (has : HasTokens text ls) (p : ProgramTree) → HasTree text p → IsSound p → SmallEndsLast (small_tokens ls) → Judgement text
counted_text whole text ls has p tree sound e = by_limit (limit_passed (resolved p)) refl
  where
    by_limit : (l : Option Limit) → limit_passed (resolved p) ≡ l → Judgement text
    by_limit None d = sound_text whole text ls has p tree sound d e
    by_limit (Some l) d = (past p l, record { has = tree; sound = sound; passed = d })

framed_text : Whole → (text : List ℕ) (ls : List Lexeme) (has : HasTokens text ls) (p : ProgramTree) → HasTree text p → tree_faults p ≡ [] → violations p ≡ [] → SmallEndsLast (small_tokens ls) → Judgement text
framed_text whole text ls has p tree a b e = by_list (frame_faults (resolved p)) refl
  where
    by_list : (fs : List FrameFault) → frame_faults (resolved p) ≡ fs → Judgement text
    by_list [] d = counted_text whole text ls has p tree (record { faultless = a; typed = b; framed = d }) e
    by_list (f ∷ rest) d =
        let h = first_frame_fault (frame_faults (resolved p)) f rest d in
        (refused (framing h.0), record { tree = p; has = tree; faultless = a; typed = b; least = h.1 })

typed_text : Whole → (text : List ℕ) (ls : List Lexeme) (has : HasTokens text ls) (p : ProgramTree) → HasTree text p → tree_faults p ≡ [] → SmallEndsLast (small_tokens ls) → Judgement text
typed_text whole text ls has p tree a e = by_list (violations p) refl
  where
    by_list : (vs : List Violation) → violations p ≡ vs → Judgement text
    by_list [] b = framed_text whole text ls has p tree a b e
    by_list (v ∷ rest) b =
        let h = first_violation (violations p) v rest b in
        (refused (typing (fault_of h.0)), record { tree = p; has = tree; faultless = a; least = ap (option_map fault_of) h.1 })

tree_text : Whole → (text : List ℕ) (ls : List Lexeme) (has : HasTokens text ls) (p : ProgramTree) (r : Reads most_nodes (read_tokens ls) p) → SmallEndsLast (small_tokens ls) → Judgement text
tree_text whole text ls has p r e = by_list (tree_faults p) refl
  where
    by_list : (fs : List TreeFault) → tree_faults p ≡ fs → Judgement text
    by_list [] a = typed_text whole text ls has p (record { lexemes = ls; tokens = has; reads = r }) a e
    by_list (contract_on_prototype at ∷ rest) a = (refused (parsing (parse.ContractOnPrototype at)), record { lexemes = ls; tokens = has; cause = (p, r, (rest, a)) })
    by_list (deep_read at ∷ rest) a = (refused (parsing (parse.DeepRead at)), record { lexemes = ls; tokens = has; cause = (p, r, (rest, a)) })

of_run : Whole → (text : List ℕ) (ls : List Lexeme) (has : HasTokens text ls) (a : Result ProgramTree Fault) → Answers most_nodes (read_tokens ls) a → SmallEndsLast (small_tokens ls) → Judgement text
of_run whole text ls has (Ok p) r e = tree_text whole text ls has p r e
of_run whole text ls has (Err (syntax_at at)) c e = (refused (parsing (parse.Syntax at)), record { lexemes = ls; tokens = has; cause = c })
of_run whole text ls has (Err (deep_at at)) c e = (too_deep, record { at = at; fault = record { lexemes = ls; tokens = has; cause = c } })

of_tokens : Whole → (text : List ℕ) (ls : List Lexeme) → HasTokens text ls → Judgement text
of_tokens whole text ls has =
    let whole_end = read_ends_last text ls has in
    of_run whole text ls has (run most_nodes begin (read_tokens ls)) (whole.exact most_nodes (read_tokens ls) whole_end) (whole.ends text ls has)

pub each_verdict : Whole → EachVerdict
each_verdict whole text = of_text (whole.texts text)
  where
    of_text : ((ls : List Lexeme) × HasTokens text ls) ⊎ ((f : LexFault) × HasFault text f) → Judgement text
    of_text (inl h) = of_tokens whole text h.0 h.1
    of_text (inr h) = (refused (lexical h.0), h.1)
