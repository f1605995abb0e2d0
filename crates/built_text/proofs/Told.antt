-- The statements and functions of the small grammar: the same tokens in the whole grammar's forms, and the trees of these.
use Rattle.std.proofs.Common.{◌≡◌, inl, ℕ, zero, suc, false, List, [], ◌∷◌, map, refl, sym, subst}
use Rattle.c0_grammar.specs.Tokens as seen_as
use Rattle.c0_grammar.specs.Seen.{all_seen}
use Rattle.c0_grammar.specs.Lists.{spell_all}
use Rattle.c0_grammar.specs.Written as wide
use Rattle.c0_grammar.specs.Texts as whole
use Rattle.c0_grammar.specs.Grammar as grammar
use Rattle.c0_grammar.specs.Reads.{OneTree}
use Rattle.built_text.specs.declared.token.Token.{Token}
use Rattle.built_text.specs.declared.token.Fixed.TheVariants as mark
use Rattle.built_text.specs.declared.tree.ClauseKind.{ClauseKind}
use Rattle.built_text.specs.declared.tree.ClauseKind.TheVariants as side
use Rattle.built_text.specs.Grammar as small
use Rattle.built_text.specs.Grammar.{token, CallText, spell_call, RightText, plain, invoked, spell_right, GoodArgs, GoodRight, NoteText, spell_note, spell_notes, GoodNotes, Line, declares, assigns, calls, prints, returns, ifs, whiles, asserts, Otherwise, no_else, elses, Lines, no_lines, line, spell_line, spell_otherwise, spell_lines, GoodLine, GoodOtherwise, GoodLines, ParameterText, spell_parameter, MoreParameters, no_parameter, parameter, spell_more, Parameters, no_parameters, parameters, spell_parameters, ClauseText, clause_word, spell_contract, FunctionText, spell_function, GoodFunction, spell_functions, GoodFunctions}
use Rattle.built_text.specs.Forms.{is_library, IsBuiltRight, IsBuiltStmt, AreBuiltStmts, AreAll, IsBuiltItem, IsBuiltProgram, IsBuiltLaw}
use Rattle.built_text.proofs.Shows.{fixed_what}
use Rattle.built_text.proofs.Widened.{call_of, right_of, invariants_of, line_of, lines_of, nexts_of, params_of, side_of, contract_of, item_of, program_of}
use Rattle.built_text.proofs.Follows.{Follows, telling, known, known_as, callee, name, ending, spelled, args_spelled, formula_spelled, type_spelled, print_same}
use Rattle.built_text.proofs.Allows.{items_allowed}
use Rattle.built_text.proofs.Formed.{expr_built, args_built, right_of_value, call_built, printed, formula_built, notes_built, type_built, params_built, contract_built, returned}

-- ---- calls
called : {ss : List Token} {ws : List seen_as.Token} {P : Type 0} (c : CallText) → Follows ss ws P → Follows (spell_call c ss) (wide.spell (call_of c) ws) ((is_library c.name ≡ false) × P)
called c r = callee c.name c.at (known mark.Open c.a (args_spelled c.args (known mark.Close c.b r)))

right_told : {ss : List Token} {ws : List seen_as.Token} {P : Type 0} (room : ℕ) (x : RightText) → GoodRight room x → Follows ss ws P → Follows (spell_right x ss) (wide.spell (right_of x) ws) (IsBuiltRight (wide.tree_of (right_of x)) × P)
right_told room (plain x) g r = telling (spelled x r) (λ p. (right_of_value _ (expr_built false room x g), p))
right_told room (invoked c) g r = telling (called c r) (λ p. ((p.0, args_built room c.args g), p.1))

-- ---- annotations
invariants_told : {ss : List Token} {ws : List seen_as.Token} {P : Type 0} (ns : List NoteText) → Follows ss ws P → Follows (spell_notes ns ss) (spell_all whole.spell_invariants (map invariants_of ns) ws) P
invariants_told [] r = r
invariants_told (n ∷ ns) r = known mark.Annotation n.a (known mark.LoopInvariant n.at (formula_spelled n.formula (known mark.Semicolon n.c (known mark.LineEnd n.l (invariants_told ns r)))))

-- ---- statements
mutual
  line_told : {ss : List Token} {ws : List seen_as.Token} {P : Type 0} (room : ℕ) (l : Line) → GoodLine room l → Follows ss ws P → Follows (spell_line l ss) (whole.spell_line (line_of l) ws) (IsBuiltStmt (whole.line_tree (line_of l)) × P)
  line_told room (declares t s n w q x c) g r = telling (type_spelled t s (name w n (known mark.Assign q (right_told room x g (known mark.Semicolon c r))))) (λ p. ((type_built t s, p.0), p.1))
  line_told room (assigns n w q x c) g r = name w n (known mark.Assign q (right_told room x g (known mark.Semicolon c r)))
  line_told room (calls k c) g r = telling (called k (known mark.Semicolon c r)) (λ p. (call_built (wide.spot k.at) k.name room k.args p.0 g, p.1))
  line_told room (prints p s a x b c) g r = telling (known_as (small.print_word s) p _ (print_same s) (known mark.Open a (spelled x (known mark.Close b (known mark.Semicolon c r))))) (λ q. ((expr_built false room x g, inl (printed s)), q))
  line_told room (returns i x c) g r = telling (known mark.Return i (spelled x (known mark.Semicolon c r))) (λ p. (expr_built false room x g, p))
  line_told zero (ifs i a x b o ls e m) g r = absurd g.1
  line_told (suc room) (ifs i a x b o ls e no_else) g r =
      telling (known mark.If i (known mark.Open a (spelled x (known mark.Close b (known mark.OpenBrace o (lines_told room ls g.1.0 (known mark.CloseBrace e r)))))))
      (λ p. ((expr_built false (suc room) x g.0, p.0), p.1))
  line_told (suc room) (ifs i a x b o ls e (elses s q ms t)) g r =
      telling (known mark.If i (known mark.Open a (spelled x (known mark.Close b (known mark.OpenBrace o (lines_told room ls g.1.0 (known mark.CloseBrace e (known mark.Else s (known mark.OpenBrace q (lines_told room ms g.1.1 (known mark.CloseBrace t r)))))))))))
      (λ p. ((expr_built false (suc room) x g.0, p.0, p.1.0), p.1.1))
  line_told zero (whiles w a x b ns o ls e) g r = absurd g.2
  line_told (suc room) (whiles w a x b ns o ls e) g r =
      telling (known mark.While w (known mark.Open a (spelled x (known mark.Close b (invariants_told ns (known mark.OpenBrace o (lines_told room ls g.2 (known mark.CloseBrace e r))))))))
      (λ p. ((expr_built false (suc room) x g.0, notes_built (suc room) ns g.1, p.0), p.1))
  line_told room (asserts n) g r =
      telling (known mark.Annotation n.a (known mark.Assert n.at (formula_spelled n.formula (known mark.Semicolon n.c (known mark.LineEnd n.l r)))))
      (λ p. (formula_built false room n.formula g, p))

  lines_told : {ss : List Token} {ws : List seen_as.Token} {P : Type 0} (room : ℕ) (ls : Lines) → GoodLines room ls → Follows ss ws P → Follows (spell_lines ls ss) (whole.spell_lines (lines_of ls) ws) (AreBuiltStmts (whole.line_trees (lines_of ls)) × P)
  lines_told room no_lines g r = telling r (λ p. (tt, p))
  lines_told room (line l ls) g r = telling (line_told room l g.0 (lines_told room ls g.1 r)) (λ p. ((p.0, p.1.0), p.1.1))

-- ---- functions
nexts_told : {ss : List Token} {ws : List seen_as.Token} {P : Type 0} (ps : MoreParameters) → Follows ss ws P → Follows (spell_more ps ss) (spell_all whole.spell_next (nexts_of ps) ws) P
nexts_told no_parameter r = r
nexts_told (parameter at p ps) r = known mark.Comma at (type_spelled p.t p.shape (name p.name p.n (nexts_told ps r)))

params_told : {ss : List Token} {ws : List seen_as.Token} {P : Type 0} (ps : Parameters) → Follows ss ws P → Follows (spell_parameters ps ss) (whole.spell_params (params_of ps) ws) P
params_told no_parameters r = r
params_told (parameters p ps) r = type_spelled p.t p.shape (name p.name p.n (nexts_told ps r))

clause_same : (k : ClauseKind) → fixed_what (clause_word k) ≡ seen_as.fixed (seen_as.word_mark (whole.side_word (side_of k)))
clause_same side.Requires = refl
clause_same side.Ensures = refl

contract_told : {ss : List Token} {ws : List seen_as.Token} {P : Type 0} (cs : List ClauseText) → Follows ss ws P → Follows (spell_contract cs ss) (spell_all whole.spell_contract (map contract_of cs) ws) P
contract_told [] r = r
contract_told (c ∷ cs) r = known mark.Annotation c.note.a (known_as (clause_word c.kind) c.note.at _ (clause_same c.kind) (formula_spelled c.note.formula (known mark.Semicolon c.note.c (known mark.LineEnd c.note.l (contract_told cs r)))))

item_told : {ss : List Token} {ws : List seen_as.Token} {P : Type 0} (f : FunctionText) → GoodFunction f → Follows ss ws P → Follows (spell_function f ss) (whole.spell_item (item_of f) ws) (IsBuiltItem (whole.item_tree (item_of f)) × P)
item_told f g r =
    telling (type_spelled f.t f.shape (name f.name f.n (known mark.Open f.a (params_told f.parameters (known mark.Close f.b (contract_told f.contract (known mark.OpenBrace f.o (lines_told 99 f.lines g.lines (known mark.CloseBrace f.e r)))))))))
    (λ p. ((type_built f.t f.shape, params_built f.parameters, contract_built f.contract g.contract, p.0, returned f.lines g.returned), p.1))

items_told : {ss : List Token} {ws : List seen_as.Token} {P : Type 0} (fs : List FunctionText) → GoodFunctions fs → Follows ss ws P → Follows (spell_functions fs ss) (spell_all whole.spell_item (map item_of fs) ws) (AreAll IsBuiltItem (map whole.item_tree (map item_of fs)) × P)
items_told [] g r = telling r (λ p. (tt, p))
items_told (f ∷ fs) g r = telling (item_told f g.0 (items_told fs g.1 r)) (λ p. ((p.0, p.1.0), p.1.1))

-- ---- the law
pub built_forms : OneTree → IsBuiltLaw
built_forms one ts p w nodes s x =
    let told = (items_told s.functions s.good (ending s.last)).same ts s.tokens in
    let q : whole.ProgramText = program_of s.functions s.last in
    let there : grammar.IsProgram (all_seen ts) (whole.program_tree q) (whole.depth_program q) = record { text = q; good = items_allowed s.functions s.good; tokens = sym told.0; tree = refl; depth = refl } in
    subst IsBuiltProgram (sym (one (all_seen ts) w (whole.program_tree q) nodes (whole.depth_program q) x there)) told.1.0
