-- Heads, contracts and items, each a part of a text; and the whole of it.
use Rattle.std.proofs.Common.{◌≡◌, ◌≢◌, ℕ, true, false, List, [], ◌∷◌, ◌++◌, refl, sym, ap, subst, append_assoc, append-nil}
use Rattle.std.specs.Prelude.{codes}
use Rattle.std.specs.Str.{bytes_eq}
use Rattle.gc0_base.specs.declared.place.Place.{Place}
use Rattle.c0_lex.specs.declared.token.Keyword.{Keyword}
use Rattle.c0_lex.specs.declared.token.Keyword.TheVariants as key
use Rattle.c0_lex.specs.declared.token.Symbol.TheVariants as mark
use Rattle.c0_lex.specs.declared.token.Mode.{Mode}
use Rattle.c0_lex.specs.declared.token.Mode.TheVariants.{Outside, InLine}
use Rattle.c0_lex.specs.Bytes.{begins_with}
use Rattle.c0_lex.specs.Words.{keyword_bytes, QuotedMeans}
use Rattle.c0_lex.specs.Pieces.{is_inside}
use Rattle.parsed_tree.specs.declared.items.Library.{Library}
use Rattle.parsed_tree.specs.declared.items.Library.TheVariants as library
use Rattle.parsed_tree.specs.declared.items.Side.{Side}
use Rattle.parsed_tree.specs.declared.items.Side.TheVariants as side
use Rattle.c0_grammar.specs.Tokens.{keyword, symbol, name_token, end_token}
use Rattle.c0_grammar.specs.Lists.{Each, spell_all}
use Rattle.c0_grammar.specs.Texts.{side_word, ClauseText, spell_clause, ContractText, spell_contract, ParamText, spell_param, NextParam, spell_next, Params, no_params, some_params, spell_params, ResultText, void_word, gives, spell_result, HeadText, spell_head, PredicateWritten, spell_predicate, FieldText, spell_field, ItemText, names_struct, defines_struct, defines_type, declares_function, defines_function, defines_predicates, spell_item, library_name, UseText, spell_use, ProgramText, spell_program}
use Rattle.c0_layout.specs.Lists.{all_text}
use Rattle.c0_print.specs.Laws.{whats}
use Rattle.c0_layout.specs.Layout.{clause_text, contract_text, param_text, next_text, params_text, result_text, signature_text, head_text, predicate_text, field_text, prototype_text, item_text, use_text, program_text}
use Rattle.c0_print.proofs.Longest.{is_behind_angle}
use Rattle.c0_print.proofs.Longest as whole
use Rattle.c0_print.proofs.Cutting.{HasWhats, Cuts, nothing, Part, Free, join, then, none, whole_text}
use Rattle.c0_print.proofs.Legible.{IsName, LegibleClause, LegibleContract, LegibleParam, LegibleNext, LegibleParams, LegibleResult, LegibleHead, LegiblePredicate, LegibleField, LegibleItem, LegibleProgram}
use Rattle.c0_print.proofs.Atoms.{Stops, keyword_part, name_part, use_part, gap, newline, sign_before, open_paren, close_paren, open_brace, close_brace, comma, semicolon, spaced_part}
use Rattle.c0_print.proofs.ExprParts.{all_parts, all_stop, stop_parts, type_part, typed_part, expr_part, formula_part}
use Rattle.c0_print.proofs.LineParts.{annotation_part, lines_part}

-- ---- parameters and heads
param_part : (m : Mode) (p : ParamText) → LegibleParam (is_inside m) p → Part Stops m m (param_text p) (spell_param p)
param_part m p l = typed_part m p.typed p.name p.n l.0 l.1

next_part : (m : Mode) (p : NextParam) → LegibleNext (is_inside m) p → Part Stops m m (next_text p) (spell_next p)
next_part m p l = then (comma m p.comma) (then (gap m) (param_part m p.param l))

params_part : (m : Mode) (ps : Params) → LegibleParams (is_inside m) ps → Part Stops m m (params_text ps) (spell_params ps)
params_part m no_params l = none
params_part m (some_params p ps) l =
    join (param_part m p l.0) (stop_parts next_text spell_next (LegibleNext (is_inside m)) (λ x rest. refl) (next_part m) ps l.1) (all_stop next_text (λ x rest. refl) ps)

signature_part : (m : Mode) (name : List ℕ) (n a : Place) (ps : Params) (b : Place) → IsName (is_inside m) name → LegibleParams (is_inside m) ps
    → Part Free m m (signature_text name ps) (λ ts. name_token name n ∷ symbol mark.OpenParen a ∷ spell_params ps (symbol mark.CloseParen b ∷ ts))
signature_part m name n a ps b k l = join (name_part m name n k) (then (open_paren m a) (join (params_part m ps l) (close_paren m b) (λ rest e. refl))) (λ rest e. refl)

result_part : (r : ResultText) → LegibleResult r → Part Stops Outside Outside (result_text r) (spell_result r)
result_part (void_word at) l = keyword_part Outside key.Void at refl
result_part (gives t) l = type_part Outside t l

head_part : (h : HeadText) → LegibleHead h → Part Free Outside Outside (head_text h) (spell_head h)
head_part h l = join (result_part h.gives_what l.gives_what) (then (gap Outside) (signature_part Outside h.name h.n h.a h.params h.b l.name l.params)) (λ rest e. refl)

field_part : (f : FieldText) → LegibleField f → Part Free Outside Outside (field_text f) (spell_field f)
field_part f l = join (typed_part Outside f.typed f.name f.n l.0 l.1) (semicolon Outside f.c) (λ rest e. refl)

side_part : (s : Side) (at : Place) → Part Stops InLine InLine (keyword_bytes (side_word s)) (λ ts. keyword (side_word s) at ∷ ts)
side_part side.Requires at = keyword_part InLine key.Requires at refl
side_part side.Ensures at = keyword_part InLine key.Ensures at refl

-- ---- `#use <conio>`
other_word : (n : List ℕ) (k : Keyword) → bytes_eq n n ≡ true → bytes_eq n (keyword_bytes k) ≡ false → n ≢ keyword_bytes k
other_word n k same other e = let e1 = ap (bytes_eq n) e in absurd cc

conio_is_free : (k : Keyword) → bytes_eq (codes "conio") (keyword_bytes k) ≡ false
conio_is_free key.Int = refl
conio_is_free k = refl

intio_is_free : (k : Keyword) → bytes_eq (codes "intio") (keyword_bytes k) ≡ false
intio_is_free key.Int = refl
intio_is_free k = refl

library_is_name : (l : Library) → IsName false (library_name l)
library_is_name library.Conio = record { identifier = refl; free = λ k f. other_word (codes "conio") k refl (conio_is_free k) }
library_is_name library.Intio = record { identifier = refl; free = λ k f. other_word (codes "intio") k refl (intio_is_free k) }

library_first : (l : Library) (rest : List ℕ) → begins_with is_behind_angle (library_name l ++ rest) ≡ false
library_first library.Conio rest = refl
library_first library.Intio rest = refl

abbrev pub BehindAngle : List ℕ → Type 0
BehindAngle rest = begins_with is_behind_angle rest ≡ false

use_line : (u : UseText) → Part Free Outside Outside (use_text u) (spell_use u)
use_line u =
    let end = join (sign_before BehindAngle Outside mark.Greater u.b (λ rest e. whole.greater rest e) (λ rest e. refl)) newline (λ rest e. refl) in
    let name = join (name_part Outside (library_name u.library) u.n (library_is_name u.library)) end (λ rest e. refl) in
    let angle = sign_before BehindAngle Outside mark.Less u.a (λ rest e. whole.less rest e) (λ rest e. refl) in
    then (use_part u.at) (then (gap Outside) (join angle name (λ rest e. angle_first (library_name u.library) (codes ">\n") rest (library_first u.library))))
  where
    angle_first : (n end rest : List ℕ) → ((more : List ℕ) → BehindAngle (n ++ more)) → BehindAngle ((n ++ end) ++ rest)
    angle_first n end rest first = subst BehindAngle (sym (append_assoc n end rest)) (first (end ++ rest))

module _ (means : QuotedMeans) where
  clause_part : (i : ClauseText) → LegibleClause i → Part Free InLine InLine (clause_text i) (spell_clause i)
  clause_part i l = join (side_part i.side i.at) (then (gap InLine) (join (formula_part means i.formula l) (semicolon InLine i.c) (λ rest e. refl))) (λ rest e. refl)

  contract_part : (i : ContractText) → LegibleContract i → Part Free Outside Outside (contract_text i) (spell_contract i)
  contract_part i l = annotation_part clause_text spell_clause LegibleClause clause_part i.o i.e i.clauses l

  predicate_part : (p : PredicateWritten) → LegiblePredicate p → Part Free InLine InLine (predicate_text p) (spell_predicate p)
  predicate_part p l =
      let body = join (expr_part means InLine p.body l.body) (semicolon InLine p.c) (λ rest e. refl) in
      join (keyword_part InLine key.Predicate p.at refl) (then (gap InLine) (then (signature_part InLine p.name p.n p.a p.params p.b l.name l.params) (then (spaced_part InLine mark.Assign p.q) body))) (λ rest e. refl)

  contracts_part : (is : List ContractText) → Each LegibleContract is → Part Free Outside Outside (all_text contract_text is) (spell_all spell_contract is)
  contracts_part is l = all_parts contract_text spell_contract LegibleContract contract_part is l

  prototype_part : (h : HeadText) (is : List ContractText) (c : Place) → LegibleHead h → Each LegibleContract is → Part Free Outside Outside (prototype_text h is) (λ ts. spell_head h (spell_all spell_contract is (symbol mark.Semicolon c ∷ ts)))
  prototype_part h [] c l k = then (head_part h l) (then (semicolon Outside c) newline)
  prototype_part h (i ∷ is) c l k = then (head_part h l) (then newline (then (contracts_part (i ∷ is) k) (then (semicolon Outside c) newline)))

  item_part : (i : ItemText) → LegibleItem i → Part Free Outside Outside (item_text i) (spell_item i)
  item_part (names_struct at n name c) l =
      join (keyword_part Outside key.Struct at refl) (then (gap Outside) (join (name_part Outside name n l) (then (semicolon Outside c) newline) (λ rest e. refl))) (λ rest e. refl)
  item_part (defines_struct at n name a fs b c) l =
      let end = then (all_parts field_text spell_field LegibleField field_part fs l.1) (then (close_brace Outside b) (then (semicolon Outside c) newline)) in
      join (keyword_part Outside key.Struct at refl) (then (gap Outside) (join (name_part Outside name n l.0) (then (open_brace Outside a) end) (λ rest e. refl))) (λ rest e. refl)
  item_part (defines_type at t n name c) l =
      join (keyword_part Outside key.Typedef at refl) (then (gap Outside) (join (typed_part Outside t name n l.0 l.1) (then (semicolon Outside c) newline) (λ rest e. refl))) (λ rest e. refl)
  item_part (declares_function h is c) l = prototype_part h is c l.0 l.1
  item_part (defines_function h is a ls b) l =
      then (head_part h l.0) (then newline (then (contracts_part is l.1) (then (then (open_brace Outside a) newline) (then (lines_part means ls l.2) (then (close_brace Outside b) newline)))))
  item_part (defines_predicates o ps e) l = annotation_part predicate_text spell_predicate LegiblePredicate predicate_part o e ps l

  pub program_whats : (p : ProgramText) → LegibleProgram p → HasWhats (program_text p) (whats (spell_program p))
  program_whats p l =
      let uses = all_parts use_text spell_use (λ u. Unit {0}) (λ u h. use_line u) p.uses (each_use p.uses) in
      let items = all_parts item_text spell_item LegibleItem item_part p.items l in
      let whole = then uses items in
      let cut = whole.by [] (end_token p.last ∷ []) tt nothing in
      whole_text (program_text p) (whats (spell_program p)) (subst (λ (l : List ℕ). Cuts Outside l (whats (spell_program p))) (append-nil (program_text p)) cut)
    where
      each_use : (us : List UseText) → Each (λ u. Unit {0}) us
      each_use [] = tt
      each_use (u ∷ us) = (tt, each_use us)
