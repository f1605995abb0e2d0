-- From what a floor below gives to the cause of a refusal, and the same of a list of tokens as of the lexemes that they are.
use Rattle.std.proofs.Common.{◌≡◌, List, ℕ, [], ◌∷◌, map, refl, sym, subst, ap, inl, inr, ◌∙◌, Some, None}
use Rattle.std.specs.Prelude.{◌≢◌}
use Rattle.std.specs.Option.{option_map}
use Rattle.gc0_base.specs.declared.place.Place.{Place}
use Rattle.c0_lex.specs.declared.token.Token.{Token as LexToken}
use Rattle.c0_lex.specs.declared.fault.LexFault.{LexFault}
use Rattle.c0_lex.specs.declared.fault.LexFault.TheVariants as lex
use Rattle.c0_lex.specs.Texts.{lexeme_of, HasTokens, HasFault, HasCause as HasLexCause}
use Rattle.parsed_tree.specs.Tree.{ProgramTree}
use Rattle.c0_grammar.specs.Seen.{all_seen}
use Rattle.c0_grammar.specs.Lexemes.{seen_read, read_ends_last}
use Rattle.c0_grammar.specs.Reads.{Reads, EndsLast}
use Rattle.parse_faults.specs.declared.fault.ParseFault.{ParseFault}
use Rattle.parse_faults.specs.declared.fault.ParseFault.TheVariants as parse
use Rattle.parse_faults.specs.TreeFaults.{tree_faults}
use Rattle.c0_parse.specs.Causes.{HasCause}
use Rattle.c0_value_rules.specs.declared.violation.TypeFault.{TypeFault}
use Rattle.c0_value_rules.specs.declared.violation.TypeFault.TheVariants as typed
use Rattle.c0_value_rules.specs.Violations.{least_of, fault_of, Reports}
use Rattle.c0_rules.specs.Rules.{violations}
use Rattle.gc0_tree.specs.Tree.{Program}
use Rattle.self_framing.specs.declared.fault.FrameFault.{FrameFault}
use Rattle.self_framing.specs.FrameFaults.{frame_faults, first_fault}
use Rattle.program_limits.specs.declared.passed.Limit.{Limit as CountLimit}
use Rattle.program_limits.specs.Counts.{limit_passed}
use Rattle.built_text.specs.Tree.{ProgramTree as SmallTree}
use Rattle.built_text.specs.Tokens.{built_lexeme, all_built, EndsLast as SmallEndsLast, CutEndsLast}
use Rattle.built_text.specs.Grammar.{IsProgram}
use Rattle.built_text.specs.Reads.{FirstFault}
use Rattle.gradual_top.specs.Serving.{IsResolved}
use Rattle.gradual_top.specs.Source.{most_nodes, small_tokens, HasTree, HasParseFault, IsSound, IsSmall, IsUnbuilt, IsRunnable, lexical, parsing, typing, framing}
use Rattle.gradual_top.specs.declared.status.Status.TheVariants.{Refused, Limit, NotBuilt}
use Rattle.gradual_top.specs.Lines.{lexical_line, parse_line, parse_status, type_line, frame_line, limit_line, not_built_line}
use Rattle.gradual_top.specs.Outcomes.{Outputs, Refuses, TextAnswered}

-- ---- tokens and lexemes
pub small_seen : (ts : List LexToken) → all_built ts ≡ small_tokens (map lexeme_of ts)
small_seen [] = refl
small_seen (t ∷ ts) = ap (λ l. built_lexeme (lexeme_of t) ∷ l) (small_seen ts)

-- ---- the end of the text stands last
pub ends : (text : List ℕ) (ts : List LexToken) → HasTokens text (map lexeme_of ts) → EndsLast (all_seen ts)
ends text ts has = subst EndsLast (sym (seen_read ts)) (read_ends_last text (map lexeme_of ts) has)

pub ends_small : CutEndsLast → (text : List ℕ) (ts : List LexToken) → HasTokens text (map lexeme_of ts) → SmallEndsLast (all_built ts)
ends_small law text ts has = subst SmallEndsLast (sym (small_seen ts)) (law text (map lexeme_of ts) has)

-- ---- causes
-- what is no want of memory is a fault
lexical_cause : (text : List ℕ) (f : LexFault) → f ≢ lex.Memory → HasLexCause text f → HasFault text f
lexical_cause text (lex.BadByte p) n c = c
lexical_cause text (lex.BadNumber p) n c = c
lexical_cause text (lex.BadEscape p) n c = c
lexical_cause text (lex.OpenComment p) n c = c
lexical_cause text (lex.OpenString p) n c = c
lexical_cause text (lex.NestedAnnotation p) n c = c
lexical_cause text lex.Memory n c = absurd (n refl)

-- the fault of these tokens is the text's
parse_fault : (text : List ℕ) (ts : List LexToken) (f : ParseFault) → HasTokens text (map lexeme_of ts) → HasCause (all_seen ts) f → HasParseFault text f
parse_fault text ts f has c = record { lexemes = map lexeme_of ts; tokens = has; cause = subst (λ l. HasCause l f) (seen_read ts) c }

pub lexical_answer : (text : List ℕ) (n : ℕ) (o : Outputs) (f : LexFault) → f ≢ lex.Memory → HasLexCause text f → Refuses o (lexical_line f) → TextAnswered text n o Refused
lexical_answer text n o f x c r = record { refusal = lexical f; cause = lexical_cause text f x c; says = r }

pub parse_answer : (text : List ℕ) (ts : List LexToken) (n : ℕ) (o : Outputs) (f : ParseFault) → f ≢ parse.Memory → HasTokens text (map lexeme_of ts) → HasCause (all_seen ts) f → Refuses o (parse_line f) → TextAnswered text n o (parse_status f)
parse_answer text ts n o (parse.Syntax p) x has c r = record { refusal = parsing (parse.Syntax p); cause = parse_fault text ts (parse.Syntax p) has c; says = r }
parse_answer text ts n o (parse.TooDeep p) x has c r = inl (record { deep = record { at = p; fault = parse_fault text ts (parse.TooDeep p) has c }; says = r })
parse_answer text ts n o (parse.ContractOnPrototype p) x has c r = record { refusal = parsing (parse.ContractOnPrototype p); cause = parse_fault text ts (parse.ContractOnPrototype p) has c; says = r }
parse_answer text ts n o (parse.DeepRead p) x has c r = record { refusal = parsing (parse.DeepRead p); cause = parse_fault text ts (parse.DeepRead p) has c; says = r }
parse_answer text ts n o parse.Memory x has c r = absurd (x refl)

pub has_tree : (text : List ℕ) (ts : List LexToken) (p : ProgramTree) → HasTokens text (map lexeme_of ts) → Reads most_nodes (all_seen ts) p → HasTree text p
has_tree text ts p has r = record { lexemes = map lexeme_of ts; tokens = has; reads = subst (λ l. Reads most_nodes l p) (seen_read ts) r }

small : (text : List ℕ) (ts : List LexToken) (p : SmallTree) → HasTokens text (map lexeme_of ts) → IsProgram (all_built ts) p → IsSmall text
small text ts p has g = record { lexemes = map lexeme_of ts; tokens = has; tree = p; program = subst (λ l. IsProgram l p) (small_seen ts) g }

unbuilt_at : (text : List ℕ) (ts : List LexToken) (at : Place) → HasTokens text (map lexeme_of ts) → FirstFault (all_built ts) at → IsUnbuilt text at
unbuilt_at text ts at has f = record { lexemes = map lexeme_of ts; tokens = has; fault = subst (λ l. FirstFault l at) (small_seen ts) f }

type_cause : (tree : ProgramTree) (f : TypeFault) → f ≢ typed.Memory → Reports (violations tree) f → option_map fault_of (least_of (violations tree)) ≡ Some f
type_cause tree f n (inl e) = absurd (n e)
type_cause tree f n (inr e) = e

pub type_answer : (text : List ℕ) (n : ℕ) (o : Outputs) (f : TypeFault) (tree : ProgramTree) → HasTree text tree → tree_faults tree ≡ [] → f ≢ typed.Memory → Reports (violations tree) f → Refuses o (type_line f) → TextAnswered text n o Refused
type_answer text n o f tree has none x c r = record { refusal = typing f; cause = record { tree = tree; has = has; faultless = none; least = type_cause tree f x c }; says = r }

-- ---- a program that was resolved
tree_of : (text : List ℕ) (ts : List LexToken) (p : Program) (k : IsResolved text ts p) → HasTree text k.tree
tree_of text ts p k = has_tree text ts k.tree k.lexed k.reads

sound : (text : List ℕ) (ts : List LexToken) (p : Program) (k : IsResolved text ts p) → frame_faults p ≡ [] → IsSound k.tree
sound text ts p k framed = record { faultless = k.faultless; typed = k.typed; framed = ap frame_faults (sym k.resolves) ∙ framed }

pub frame_answer : (text : List ℕ) (ts : List LexToken) (p : Program) (n : ℕ) (o : Outputs) (f : FrameFault) → IsResolved text ts p → first_fault (frame_faults p) ≡ Some f → Refuses o (frame_line f) → TextAnswered text n o Refused
frame_answer text ts p n o f k first r = record {
  refusal = framing f;
  cause = record { tree = k.tree; has = tree_of text ts p k; faultless = k.faultless; typed = k.typed; least = ap (λ q. first_fault (frame_faults q)) (sym k.resolves) ∙ first };
  says = r;
}

pub limit_answer : (text : List ℕ) (ts : List LexToken) (p : Program) (n : ℕ) (o : Outputs) (l : CountLimit) → IsResolved text ts p → frame_faults p ≡ [] → limit_passed p ≡ Some l → Refuses o (limit_line p l) → TextAnswered text n o Limit
limit_answer text ts p n o l k framed passed r = inr (record {
  tree = k.tree;
  limit = l;
  past = record { has = tree_of text ts p k; sound = sound text ts p k framed; passed = ap limit_passed (sym k.resolves) ∙ passed };
  says = subst (λ q. Refuses o (limit_line q l)) k.resolves r;
})

pub unbuilt_answer : (text : List ℕ) (ts : List LexToken) (p : Program) (n : ℕ) (o : Outputs) (at : Place) → IsResolved text ts p → frame_faults p ≡ [] → limit_passed p ≡ None → FirstFault (all_built ts) at → Refuses o (not_built_line at) → TextAnswered text n o NotBuilt
unbuilt_answer text ts p n o at k framed within f r = record {
  place = at;
  unbuilt = record { tree = k.tree; has = tree_of text ts p k; sound = sound text ts p k framed; within = ap limit_passed (sym k.resolves) ∙ within; unbuilt = unbuilt_at text ts at k.lexed f };
  says = r;
}

pub runnable : (text : List ℕ) (ts : List LexToken) (p : Program) (q : SmallTree) (k : IsResolved text ts p) → frame_faults p ≡ [] → limit_passed p ≡ None → IsProgram (all_built ts) q → IsRunnable text k.tree
runnable text ts p q k framed within program = record {
  has = tree_of text ts p k;
  sound = sound text ts p k framed;
  within = ap limit_passed (sym k.resolves) ∙ within;
  small = small text ts q k.lexed program;
}
