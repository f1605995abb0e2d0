-- A text has at most one verdict.
use Rattle.std.proofs.Common.{◌≡◌, List, ℕ, [], ◌∷◌, Some, None, refl, sym, subst, ◌∙◌, ap}
use Rattle.std.specs.Option.{option_map}
use Rattle.gc0_base.specs.declared.place.Place.{Place}
use Rattle.c0_lex.specs.declared.fault.LexFault.{LexFault}
use Rattle.c0_lex.specs.Texts.{HasFault, OneList, OneFault, NeverBoth}
use Rattle.parsed_tree.specs.Tree.{ProgramTree}
use Rattle.c0_grammar.specs.Tokens.{Token}
use Rattle.c0_grammar.specs.Lexemes.{read_tokens}
use Rattle.c0_grammar.specs.Reads.{Reads, OneTree}
use Rattle.parse_faults.specs.declared.fault.ParseFault.{ParseFault}
use Rattle.parse_faults.specs.declared.fault.ParseFault.TheVariants as parse
use Rattle.parse_faults.specs.TreeFaults.{TreeFault, contract_on_prototype, deep_read, tree_faults}
use Rattle.c0_parse.specs.Causes.{ComesFirst, TreeHas, HasCause}
use Rattle.c0_value_rules.specs.declared.violation.TypeFault.{TypeFault}
use Rattle.c0_value_rules.specs.Violations.{least_of, fault_of}
use Rattle.c0_rules.specs.Rules.{violations}
use Rattle.gc0_tree.specs.Tree.{Program}
use Rattle.c0_numbers.specs.Resolved.{resolved}
use Rattle.self_framing.specs.declared.fault.FrameFault.{FrameFault}
use Rattle.self_framing.specs.FrameFaults.{frame_faults, first_fault}
use Rattle.program_limits.specs.declared.passed.Limit.{Limit}
use Rattle.program_limits.specs.Counts.{limit_passed}
use Rattle.built_text.specs.Reads.{FirstFault, OneFault as OneUnbuilt}
use Rattle.gradual_top.specs.Source.{most_nodes, small_tokens, HasTree, HasParseFault, IsSound, HasTypeFault, HasFrameFault, Refusal, lexical, parsing, typing, framing, IsRefused, IsTooDeep, IsPast, IsSmall, IsUnbuilt, Verdict, refused, too_deep, past, unbuilt, runs, IsVerdict}
use Rattle.gradual_top.proofs.First.{First, of_syntax, of_deep, no_tree, one_place, not_both}

-- the laws of the floors below
pub record Laws : Type 0 where
  pub lists : OneList
  pub faults : OneFault
  pub never : NeverBoth
  pub trees : OneTree
  pub unbuilt : OneUnbuilt

-- ---- trees
pub same_tree : Laws → (text : List ℕ) (p q : ProgramTree) → HasTree text p → HasTree text q → p ≡ q
same_tree laws text p q a b =
    let same = laws.lists text b.lexemes a.lexemes b.tokens a.tokens in
    let r : Reads most_nodes (read_tokens a.lexemes) q = subst (λ l. Reads most_nodes (read_tokens l) q) same b.reads in
    laws.trees (read_tokens a.lexemes) p q a.reads.nodes r.nodes a.reads.program r.program

-- the tokens of the one are those of the other
read_by : Laws → (text : List ℕ) (f : ParseFault) (p : ProgramTree) (h : HasParseFault text f) → HasTree text p → Reads most_nodes (read_tokens h.lexemes) p
read_by laws text f p h t = subst (λ l. Reads most_nodes (read_tokens l) p) (laws.lists text t.lexemes h.lexemes t.tokens h.tokens) t.reads

cause_by : Laws → (text : List ℕ) (f g : ParseFault) (h : HasParseFault text f) (k : HasParseFault text g) → HasCause (read_tokens h.lexemes) g
cause_by laws text f g h k = subst (λ l. HasCause (read_tokens l) g) (laws.lists text k.lexemes h.lexemes k.tokens h.tokens) k.cause

-- ---- a sound tree is not refused
not_first : (f : TreeFault) (fs : List TreeFault) → fs ≡ [] → ComesFirst f fs → ⊥
not_first f fs e c = let d = c.1 in let n : f ∷ c.0 ≡ [] = sym d ∙ e in absurd (cc)

of_cause : Laws → (ts : List Token) (p q : ProgramTree) → Reads most_nodes ts p → Reads most_nodes ts q → p ≡ q
of_cause laws ts p q a b = laws.trees ts p q a.nodes b.nodes a.program b.program

tree_not_refused : Laws → (text : List ℕ) (f : ParseFault) (t : TreeFault) (p : ProgramTree) (h : HasParseFault text f) → TreeHas (read_tokens h.lexemes) t → HasTree text p → tree_faults p ≡ [] → ⊥
tree_not_refused laws text f t p h c has none =
    let e = of_cause laws (read_tokens h.lexemes) c.0 p c.1 (read_by laws text f p h has) in
    not_first t (tree_faults c.0) (ap tree_faults e ∙ none) c.2

-- a fault of the parser is none of a tree that breaks no rule of formulas and prototypes
parse_not_tree : Laws → (text : List ℕ) (f : ParseFault) (p : ProgramTree) → IsRefused text (parsing f) → HasTree text p → tree_faults p ≡ [] → ⊥
parse_not_tree laws text (parse.Syntax at) p c has none = no_tree (read_tokens c.lexemes) at p (of_syntax _ at c.cause) (read_by laws text (parse.Syntax at) p c has)
parse_not_tree laws text (parse.TooDeep at) p c has none = absurd c
parse_not_tree laws text (parse.ContractOnPrototype at) p c has none = tree_not_refused laws text (parse.ContractOnPrototype at) (contract_on_prototype at) p c c.cause has none
parse_not_tree laws text (parse.DeepRead at) p c has none = tree_not_refused laws text (parse.DeepRead at) (deep_read at) p c c.cause has none
parse_not_tree laws text parse.Memory p c has none = absurd c

-- a tree that breaks no typing rule has no first violation
no_violation : (tree : ProgramTree) (f : TypeFault) → violations tree ≡ [] → option_map fault_of (least_of (violations tree)) ≡ Some f → ⊥
no_violation tree f v h = let e : None ≡ Some f = ap (λ vs. option_map fault_of (least_of vs)) (sym v) ∙ h in absurd (cc)

type_not_tree : Laws → (text : List ℕ) (f : TypeFault) (p : ProgramTree) → HasTypeFault text f → HasTree text p → violations p ≡ [] → ⊥
type_not_tree laws text f p c has none = no_violation p f none (ap (λ q. option_map fault_of (least_of (violations q))) (sym (same_tree laws text c.tree p c.has has)) ∙ c.least)

-- nor a program that breaks no rule of framing and guards a first fault of these
no_frame_fault : (p : Program) (f : FrameFault) → frame_faults p ≡ [] → first_fault (frame_faults p) ≡ Some f → ⊥
no_frame_fault p f none h = let e : None ≡ Some f = ap first_fault (sym none) ∙ h in absurd (cc)

frame_not_tree : Laws → (text : List ℕ) (f : FrameFault) (p : ProgramTree) → HasFrameFault text f → HasTree text p → frame_faults (resolved p) ≡ [] → ⊥
frame_not_tree laws text f p c has none = no_frame_fault (resolved p) f none (ap (λ q. first_fault (frame_faults (resolved q))) (sym (same_tree laws text c.tree p c.has has)) ∙ c.least)

pub not_refused : Laws → (text : List ℕ) (r : Refusal) (p : ProgramTree) → IsRefused text r → HasTree text p → IsSound p → ⊥
not_refused laws text (lexical f) p c has sound = laws.never text has.lexemes f has.tokens c
not_refused laws text (parsing f) p c has sound = parse_not_tree laws text f p c has sound.faultless
not_refused laws text (typing f) p c has sound = type_not_tree laws text f p c has sound.typed
not_refused laws text (framing f) p c has sound = frame_not_tree laws text f p c has sound.framed

pub not_deep : Laws → (text : List ℕ) (p : ProgramTree) → IsTooDeep text → HasTree text p → ⊥
not_deep laws text p d has = no_tree (read_tokens d.fault.lexemes) d.at p (of_deep _ d.at d.fault.cause) (read_by laws text (parse.TooDeep d.at) p d.fault has)

-- ---- one refusal
tree_first : Laws → (text : List ℕ) (at : Place) (f g : ParseFault) (t : TreeFault) (h : HasParseFault text f) (k : HasParseFault text g) → First (read_tokens h.lexemes) at → TreeHas (read_tokens k.lexemes) t → ⊥
tree_first laws text at f g t h k first c =
    let same = laws.lists text k.lexemes h.lexemes k.tokens h.tokens in
    no_tree (read_tokens h.lexemes) at c.0 first (subst (λ l. Reads most_nodes (read_tokens l) c.0) same c.1)

one_tree_fault : Laws → (text : List ℕ) (f g : ParseFault) (t u : TreeFault) (h : HasParseFault text f) (k : HasParseFault text g) → TreeHas (read_tokens h.lexemes) t → TreeHas (read_tokens k.lexemes) u → t ≡ u
one_tree_fault laws text f g t u h k c d =
    let same = laws.lists text k.lexemes h.lexemes k.tokens h.tokens in
    let e = of_cause laws (read_tokens h.lexemes) c.0 d.0 c.1 (subst (λ l. Reads most_nodes (read_tokens l) d.0) same d.1) in
    let x = c.2.1 in
    let y = d.2.1 in
    let z : t ∷ c.2.0 ≡ u ∷ d.2.0 = sym x ∙ (ap tree_faults e ∙ y) in
    cc

lex_not_parse : Laws → (text : List ℕ) (f : LexFault) (g : ParseFault) → HasFault text f → IsRefused text (parsing g) → ⊥
lex_not_parse laws text f (parse.Syntax at) c d = laws.never text d.lexemes f d.tokens c
lex_not_parse laws text f (parse.TooDeep at) c d = absurd d
lex_not_parse laws text f (parse.ContractOnPrototype at) c d = laws.never text d.lexemes f d.tokens c
lex_not_parse laws text f (parse.DeepRead at) c d = laws.never text d.lexemes f d.tokens c
lex_not_parse laws text f parse.Memory c d = absurd d

contract_place : (a b : Place) → contract_on_prototype a ≡ contract_on_prototype b → a ≡ b
contract_place a b e = cc

read_place : (a b : Place) → deep_read a ≡ deep_read b → a ≡ b
read_place a b e = cc

contract_not_read : (a b : Place) → contract_on_prototype a ≡ deep_read b → ⊥
contract_not_read a b e = absurd (cc)

one_parse : Laws → (text : List ℕ) (f g : ParseFault) → IsRefused text (parsing f) → IsRefused text (parsing g) → f ≡ g
one_parse laws text (parse.Syntax a) (parse.Syntax b) c d = ap parse.Syntax (one_place (read_tokens c.lexemes) a b (of_syntax _ a c.cause) (of_syntax _ b (cause_by laws text (parse.Syntax a) (parse.Syntax b) c d)))
one_parse laws text (parse.Syntax a) (parse.ContractOnPrototype b) c d = absurd (tree_first laws text a (parse.Syntax a) (parse.ContractOnPrototype b) (contract_on_prototype b) c d (of_syntax _ a c.cause) d.cause)
one_parse laws text (parse.Syntax a) (parse.DeepRead b) c d = absurd (tree_first laws text a (parse.Syntax a) (parse.DeepRead b) (deep_read b) c d (of_syntax _ a c.cause) d.cause)
one_parse laws text (parse.ContractOnPrototype a) (parse.Syntax b) c d = absurd (tree_first laws text b (parse.Syntax b) (parse.ContractOnPrototype a) (contract_on_prototype a) d c (of_syntax _ b d.cause) c.cause)
one_parse laws text (parse.ContractOnPrototype a) (parse.ContractOnPrototype b) c d = ap parse.ContractOnPrototype (contract_place a b (one_tree_fault laws text (parse.ContractOnPrototype a) (parse.ContractOnPrototype b) (contract_on_prototype a) (contract_on_prototype b) c d c.cause d.cause))
one_parse laws text (parse.ContractOnPrototype a) (parse.DeepRead b) c d = absurd (contract_not_read a b (one_tree_fault laws text (parse.ContractOnPrototype a) (parse.DeepRead b) (contract_on_prototype a) (deep_read b) c d c.cause d.cause))
one_parse laws text (parse.DeepRead a) (parse.Syntax b) c d = absurd (tree_first laws text b (parse.Syntax b) (parse.DeepRead a) (deep_read a) d c (of_syntax _ b d.cause) c.cause)
one_parse laws text (parse.DeepRead a) (parse.ContractOnPrototype b) c d = absurd (contract_not_read b a (sym (one_tree_fault laws text (parse.DeepRead a) (parse.ContractOnPrototype b) (deep_read a) (contract_on_prototype b) c d c.cause d.cause)))
one_parse laws text (parse.DeepRead a) (parse.DeepRead b) c d = ap parse.DeepRead (read_place a b (one_tree_fault laws text (parse.DeepRead a) (parse.DeepRead b) (deep_read a) (deep_read b) c d c.cause d.cause))
one_parse laws text (parse.TooDeep a) g c d = absurd c
one_parse laws text parse.Memory g c d = absurd c
one_parse laws text f (parse.TooDeep b) c d = absurd d
one_parse laws text f parse.Memory c d = absurd d

one_typed : Laws → (text : List ℕ) (f g : TypeFault) → HasTypeFault text f → HasTypeFault text g → f ≡ g
one_typed laws text f g c d =
    let e : Some f ≡ Some g = sym c.least ∙ (ap (λ q. option_map fault_of (least_of (violations q))) (same_tree laws text c.tree d.tree c.has d.has) ∙ d.least) in
    cc

one_framed : Laws → (text : List ℕ) (f g : FrameFault) → HasFrameFault text f → HasFrameFault text g → f ≡ g
one_framed laws text f g c d =
    let e : Some f ≡ Some g = sym c.least ∙ (ap (λ q. first_fault (frame_faults (resolved q))) (same_tree laws text c.tree d.tree c.has d.has) ∙ d.least) in
    cc

one_refusal : Laws → (text : List ℕ) (r s : Refusal) → IsRefused text r → IsRefused text s → r ≡ s
one_refusal laws text (lexical f) (lexical g) c d = ap lexical (laws.faults text f g c d)
one_refusal laws text (lexical f) (parsing g) c d = absurd (lex_not_parse laws text f g c d)
one_refusal laws text (lexical f) (typing g) c d = absurd (laws.never text d.has.lexemes f d.has.tokens c)
one_refusal laws text (lexical f) (framing g) c d = absurd (laws.never text d.has.lexemes f d.has.tokens c)
one_refusal laws text (parsing f) (lexical g) c d = absurd (lex_not_parse laws text g f d c)
one_refusal laws text (parsing f) (parsing g) c d = ap parsing (one_parse laws text f g c d)
one_refusal laws text (parsing f) (typing g) c d = absurd (parse_not_tree laws text f d.tree c d.has d.faultless)
one_refusal laws text (parsing f) (framing g) c d = absurd (parse_not_tree laws text f d.tree c d.has d.faultless)
one_refusal laws text (typing f) (lexical g) c d = absurd (laws.never text c.has.lexemes g c.has.tokens d)
one_refusal laws text (typing f) (parsing g) c d = absurd (parse_not_tree laws text g c.tree d c.has c.faultless)
one_refusal laws text (typing f) (typing g) c d = ap typing (one_typed laws text f g c d)
one_refusal laws text (typing f) (framing g) c d = absurd (type_not_tree laws text f d.tree c d.has d.typed)
one_refusal laws text (framing f) (lexical g) c d = absurd (laws.never text c.has.lexemes g c.has.tokens d)
one_refusal laws text (framing f) (parsing g) c d = absurd (parse_not_tree laws text g c.tree d c.has c.faultless)
one_refusal laws text (framing f) (typing g) c d = absurd (type_not_tree laws text g c.tree d c.has c.typed)
one_refusal laws text (framing f) (framing g) c d = ap framing (one_framed laws text f g c d)

-- ---- what passes the limit of nesting is not refused
deep_not_refused : Laws → (text : List ℕ) (r : Refusal) → IsRefused text r → IsTooDeep text → ⊥
deep_not_refused laws text (lexical f) c d = laws.never text d.fault.lexemes f d.fault.tokens c
deep_not_refused laws text (parsing (parse.Syntax at)) c d = not_both (read_tokens c.lexemes) at d.at c.cause (cause_by laws text (parse.Syntax at) (parse.TooDeep d.at) c d.fault)
deep_not_refused laws text (parsing (parse.TooDeep at)) c d = absurd c
deep_not_refused laws text (parsing (parse.ContractOnPrototype at)) c d = tree_first laws text d.at (parse.TooDeep d.at) (parse.ContractOnPrototype at) (contract_on_prototype at) d.fault c (of_deep _ d.at d.fault.cause) c.cause
deep_not_refused laws text (parsing (parse.DeepRead at)) c d = tree_first laws text d.at (parse.TooDeep d.at) (parse.DeepRead at) (deep_read at) d.fault c (of_deep _ d.at d.fault.cause) c.cause
deep_not_refused laws text (parsing parse.Memory) c d = absurd c
deep_not_refused laws text (typing f) c d = not_deep laws text c.tree d c.has
deep_not_refused laws text (framing f) c d = not_deep laws text c.tree d c.has

-- ---- the limits of counts
within_not_past : Laws → (text : List ℕ) (p q : ProgramTree) (l : Limit) → IsPast text p l → HasTree text q → limit_passed (resolved q) ≡ None → ⊥
within_not_past laws text p q l c has within =
    let e : Some l ≡ None = sym c.passed ∙ (ap (λ t. limit_passed (resolved t)) (same_tree laws text p q c.has has) ∙ within) in
    absurd (cc)

one_past : Laws → (text : List ℕ) (p q : ProgramTree) (l m : Limit) → IsPast text p l → IsPast text q m → past p l ≡ past q m
one_past laws text p q l m c d =
    let same = same_tree laws text p q c.has d.has in
    let e : Some l ≡ Some m = sym c.passed ∙ (ap (λ t. limit_passed (resolved t)) same ∙ d.passed) in
    let h : l ≡ m = cc in
    ap (λ t. past t l) same ∙ ap (past q) h

-- ---- what is built and what isn't
small_unbuilt : Laws → (text : List ℕ) (at : Place) → IsSmall text → IsUnbuilt text at → ⊥
small_unbuilt laws text at s u =
    let same = laws.lists text u.lexemes s.lexemes u.tokens s.tokens in
    laws.unbuilt.1 (small_tokens s.lexemes) s.tree at s.program (subst (λ l. FirstFault (small_tokens l) at) same u.fault)

one_unbuilt : Laws → (text : List ℕ) (a b : Place) → IsUnbuilt text a → IsUnbuilt text b → a ≡ b
one_unbuilt laws text a b u v =
    let same = laws.lists text v.lexemes u.lexemes v.tokens u.tokens in
    laws.unbuilt.0 (small_tokens u.lexemes) a b u.fault (subst (λ l. FirstFault (small_tokens l) b) same v.fault)

pub one_verdict : Laws → (text : List ℕ) (v w : Verdict) → IsVerdict text v → IsVerdict text w → v ≡ w
one_verdict laws text (refused r) (refused s) c d = ap refused (one_refusal laws text r s c d)
one_verdict laws text (refused r) too_deep c d = absurd (deep_not_refused laws text r c d)
one_verdict laws text (refused r) (past q m) c d = absurd (not_refused laws text r q c d.has d.sound)
one_verdict laws text (refused r) (unbuilt b) c d = absurd (not_refused laws text r d.tree c d.has d.sound)
one_verdict laws text (refused r) (runs q) c d = absurd (not_refused laws text r q c d.has d.sound)
one_verdict laws text too_deep (refused s) c d = absurd (deep_not_refused laws text s d c)
one_verdict laws text too_deep too_deep c d = refl
one_verdict laws text too_deep (past q m) c d = absurd (not_deep laws text q c d.has)
one_verdict laws text too_deep (unbuilt b) c d = absurd (not_deep laws text d.tree c d.has)
one_verdict laws text too_deep (runs q) c d = absurd (not_deep laws text q c d.has)
one_verdict laws text (past p l) (refused s) c d = absurd (not_refused laws text s p d c.has c.sound)
one_verdict laws text (past p l) too_deep c d = absurd (not_deep laws text p d c.has)
one_verdict laws text (past p l) (past q m) c d = one_past laws text p q l m c d
one_verdict laws text (past p l) (unbuilt b) c d = absurd (within_not_past laws text p d.tree l c d.has d.within)
one_verdict laws text (past p l) (runs q) c d = absurd (within_not_past laws text p q l c d.has d.within)
one_verdict laws text (unbuilt a) (refused s) c d = absurd (not_refused laws text s c.tree d c.has c.sound)
one_verdict laws text (unbuilt a) too_deep c d = absurd (not_deep laws text c.tree d c.has)
one_verdict laws text (unbuilt a) (past q m) c d = absurd (within_not_past laws text q c.tree m d c.has c.within)
one_verdict laws text (unbuilt a) (unbuilt b) c d = ap unbuilt (one_unbuilt laws text a b c.unbuilt d.unbuilt)
one_verdict laws text (unbuilt a) (runs q) c d = absurd (small_unbuilt laws text a d.small c.unbuilt)
one_verdict laws text (runs p) (refused s) c d = absurd (not_refused laws text s p d c.has c.sound)
one_verdict laws text (runs p) too_deep c d = absurd (not_deep laws text p d c.has)
one_verdict laws text (runs p) (past q m) c d = absurd (within_not_past laws text q p m d c.has c.within)
one_verdict laws text (runs p) (unbuilt b) c d = absurd (small_unbuilt laws text b c.small d.unbuilt)
one_verdict laws text (runs p) (runs q) c d = ap runs (same_tree laws text p q c.has d.has)
