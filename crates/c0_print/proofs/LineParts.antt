-- Annotations and statements, each a part of a text.
use Rattle.std.proofs.Common.{ℕ, true, false, List, [], ◌∷◌, ◌++◌, Option, Some, None, refl}
use Rattle.std.specs.Prelude.{codes}
use Rattle.gc0_base.specs.declared.place.Place.{Place}
use Rattle.c0_lex.specs.declared.token.Keyword.TheVariants as key
use Rattle.c0_lex.specs.declared.token.Symbol.TheVariants as mark
use Rattle.c0_lex.specs.declared.token.Mode.TheVariants.{Outside, InLine}
use Rattle.c0_lex.specs.Words.{symbol_bytes, QuotedMeans}
use Rattle.parsed_tree.specs.declared.statements.StepOperator.{StepOperator}
use Rattle.parsed_tree.specs.declared.statements.StepOperator.TheVariants as by_one
use Rattle.c0_grammar.specs.Tokens.{Token, keyword, symbol, begins_annotation, ends_annotation}
use Rattle.c0_grammar.specs.Lists.{Each, spell_all}
use Rattle.c0_grammar.specs.Written.{Written, spell, Args}
use Rattle.c0_grammar.specs.Texts.{NoteText, asserts_note, folds_note, unfolds_note, spell_instance, spell_note, InvariantText, spell_invariant, InvariantsText, spell_invariants, update_symbol, step_symbol, SimpleText, declares, declares_as, assigns, steps, evaluates, spell_simple, spell_option, Line, simple_line, braces, ifs, ifs_else, whiles, fors, returns, asserts, raises, notes, Lines, no_lines, line_and, spell_line, spell_lines}
use Rattle.c0_grammar.specs.Grammar.{GoodOption}
use Rattle.c0_layout.specs.Lists.{spaced_text, joined_text, option_text}
use Rattle.c0_layout.specs.Layout.{expr_text, annotation_text, instance_text, note_text, invariant_text, invariants_text, simple_text, for_text, return_text, line_text, lines_text}
use Rattle.c0_print.proofs.Cutting.{Part, Free, join, then, none, weak}
use Rattle.c0_print.proofs.Legible.{IsName, Legible, LegibleArgs, LegibleNote, LegibleInvariant, LegibleInvariants, LegibleSimple, LegibleLine, LegibleLines}
use Rattle.c0_print.proofs.Atoms.{Stops, keyword_part, name_part, gap, newline, open_note, close_note, open_paren, close_paren, open_brace, close_brace, semicolon, increment, decrement, spaced_part}
use Rattle.c0_print.proofs.Literals.{text_part}
use Rattle.c0_print.proofs.ExprParts.{all_parts, typed_part, expr_part, args_part, formula_part}

-- ---- clauses of an annotation, joined by one space
spaced_parts : {A : Type 0} (f : A → List ℕ) (s : A → List Token → List Token) (P : A → Type 0) → ((x : A) → P x → Part Free InLine InLine (f x) (s x)) → (xs : List A) → Each P xs → Part Free InLine InLine (spaced_text f xs) (spell_all s xs)
spaced_parts f s P one [] h = none
spaced_parts f s P one (x ∷ xs) h = then (gap InLine) (then (one x h.0) (spaced_parts f s P one xs h.1))

joined_parts : {A : Type 0} (f : A → List ℕ) (s : A → List Token → List Token) (P : A → Type 0) → ((x : A) → P x → Part Free InLine InLine (f x) (s x)) → (xs : List A) → Each P xs → Part Free InLine InLine (joined_text f xs) (spell_all s xs)
joined_parts f s P one [] h = none
joined_parts f s P one (x ∷ xs) h = then (one x h.0) (spaced_parts f s P one xs h.1)

pub annotation_part : {A : Type 0} (f : A → List ℕ) (s : A → List Token → List Token) (P : A → Type 0) → ((x : A) → P x → Part Free InLine InLine (f x) (s x)) → (o e : Place) (xs : List A) → Each P xs
    → Part Free Outside Outside (annotation_text f xs) (λ ts. begins_annotation o ∷ spell_all s xs (ends_annotation e ∷ ts))
annotation_part f s P one o e xs h = then (open_note o) (then (joined_parts f s P one xs h) (close_note e))

step_part : (o : StepOperator) (q : Place) → Part Stops Outside Outside (symbol_bytes (step_symbol o)) (λ ts. symbol (step_symbol o) q ∷ ts)
step_part by_one.Increment q = weak (increment Outside q)
step_part by_one.Decrement q = weak (decrement Outside q)

step_stops : (o : StepOperator) (rest : List ℕ) → Stops (symbol_bytes (step_symbol o) ++ rest)
step_stops by_one.Increment rest = refl
step_stops by_one.Decrement rest = refl

option_part : {A : Type 0} (f : A → List ℕ) (s : A → List Token → List Token) (P : A → Type 0) → ((x : A) → P x → Part Stops Outside Outside (f x) (s x)) → (x : Option A) → GoodOption P x → Part Stops Outside Outside (option_text f x) (spell_option s x)
option_part f s P one None h = none
option_part f s P one (Some x) h = one x h

module _ (means : QuotedMeans) where
  instance_part : (n : Place) (name : List ℕ) (a : Place) (xs : Args) (b c : Place) → IsName true name → LegibleArgs true xs → Part Free InLine InLine (instance_text name xs) (spell_instance n name a xs b c)
  instance_part n name a xs b c k l =
      join (name_part InLine name n k) (then (open_paren InLine a) (join (args_part means InLine xs l) (then (close_paren InLine b) (semicolon InLine c)) (λ rest e. refl))) (λ rest e. refl)

  note_part : (n : NoteText) → LegibleNote n → Part Free InLine InLine (note_text n) (spell_note n)
  note_part (asserts_note at f c) l = join (keyword_part InLine key.Assert at refl) (then (gap InLine) (join (formula_part means f l) (semicolon InLine c) (λ rest e. refl))) (λ rest e. refl)
  note_part (folds_note at n name a xs b c) l = join (keyword_part InLine key.Fold at refl) (then (gap InLine) (instance_part n name a xs b c l.0 l.1)) (λ rest e. refl)
  note_part (unfolds_note at n name a xs b c) l = join (keyword_part InLine key.Unfold at refl) (then (gap InLine) (instance_part n name a xs b c l.0 l.1)) (λ rest e. refl)

  invariant_part : (i : InvariantText) → LegibleInvariant i → Part Free InLine InLine (invariant_text i) (spell_invariant i)
  invariant_part i l = join (keyword_part InLine key.LoopInvariant i.at refl) (then (gap InLine) (join (formula_part means i.formula l) (semicolon InLine i.c) (λ rest e. refl))) (λ rest e. refl)

  invariants_part : (i : InvariantsText) → LegibleInvariants i → Part Free Outside Outside (invariants_text i) (spell_invariants i)
  invariants_part i l = annotation_part invariant_text spell_invariant LegibleInvariant invariant_part i.o i.e i.clauses l

  -- ---- statements
  simple_part : (s : SimpleText) → LegibleSimple s → Part Stops Outside Outside (simple_text s) (spell_simple s)
  simple_part (declares t n name) l = typed_part Outside t name n l.0 l.1
  simple_part (declares_as t n name q x) l = join (typed_part Outside t name n l.0 l.1) (then (spaced_part Outside mark.Assign q) (expr_part means Outside x l.2)) (λ rest e. refl)
  simple_part (assigns x q o y) l = join (expr_part means Outside x l.0) (then (spaced_part Outside (update_symbol o) q) (expr_part means Outside y l.1)) (λ rest e. refl)
  simple_part (steps x q o) l = join (expr_part means Outside x l) (step_part o q) (λ rest e. step_stops o rest)
  simple_part (evaluates x) l = expr_part means Outside x l

  -- `if (x)`, up to the end of its line
  test_end : (a : Place) (x : Written) (b : Place) → Legible false x → Part Free Outside Outside (codes " (" ++ (expr_text x ++ codes ")\n")) (λ ts. symbol mark.OpenParen a ∷ spell x (symbol mark.CloseParen b ∷ ts))
  test_end a x b l = then (gap Outside) (then (open_paren Outside a) (join (expr_part means Outside x l) (then (close_paren Outside b) newline) (λ rest e. refl)))

  for_part : (at a : Place) (s : Option SimpleText) (c : Place) (x : Written) (d : Place) (t : Option SimpleText) (b : Place) → GoodOption LegibleSimple s → Legible false x → GoodOption LegibleSimple t
      → Part Free Outside Outside (for_text s x t) (λ ts. keyword key.For at ∷ symbol mark.OpenParen a ∷ spell_option spell_simple s (symbol mark.Semicolon c ∷ spell x (symbol mark.Semicolon d ∷ spell_option spell_simple t (symbol mark.CloseParen b ∷ ts))))
  for_part at a s c x d t b k l n =
      let last = join (option_part simple_text spell_simple LegibleSimple simple_part t n) (then (close_paren Outside b) newline) (λ rest e. refl) in
      let test = join (expr_part means Outside x l) (then (semicolon Outside d) last) (λ rest e. refl) in
      let first = join (option_part simple_text spell_simple LegibleSimple simple_part s k) (then (semicolon Outside c) test) (λ rest e. refl) in
      join (keyword_part Outside key.For at refl) (then (gap Outside) (then (open_paren Outside a) first)) (λ rest e. refl)

  return_part : (at : Place) (x : Option Written) (c : Place) → GoodOption (Legible false) x → Part Free Outside Outside (return_text x) (λ ts. keyword key.Return at ∷ spell_option spell x (symbol mark.Semicolon c ∷ ts))
  return_part at None c l = join (keyword_part Outside key.Return at refl) (then (semicolon Outside c) newline) (λ rest e. refl)
  return_part at (Some x) c l =
      join (keyword_part Outside key.Return at refl) (join (then (gap Outside) (expr_part means Outside x l)) (then (semicolon Outside c) newline) (λ rest e. refl)) (λ rest e. refl)

  mutual
    line_part : (i : Line) → LegibleLine i → Part Free Outside Outside (line_text i) (spell_line i)
    line_part (simple_line s c) l = join (simple_part s l) (then (semicolon Outside c) newline) (λ rest e. refl)
    line_part (braces a ls b) l = then (then (open_brace Outside a) newline) (then (lines_part ls l) (then (close_brace Outside b) newline))
    line_part (ifs at a x b i) l = then (join (keyword_part Outside key.If at refl) (test_end a x b l.0) (λ rest e. refl)) (line_part i l.1)
    line_part (ifs_else at a x b i e j) l =
        then (join (keyword_part Outside key.If at refl) (test_end a x b l.0) (λ rest e. refl))
        (then (line_part i l.1) (then (join (keyword_part Outside key.Else e refl) newline (λ rest e. refl)) (line_part j l.2)))
    line_part (whiles at a x b is i) l =
        then (join (keyword_part Outside key.While at refl) (test_end a x b l.0) (λ rest e. refl))
        (then (all_parts invariants_text spell_invariants LegibleInvariants invariants_part is l.1) (line_part i l.2))
    line_part (fors at a s c x d t b is i) l =
        then (for_part at a s c x d t b l.0 l.1 l.2)
        (then (all_parts invariants_text spell_invariants LegibleInvariants invariants_part is l.3) (line_part i l.4))
    line_part (returns at x c) l = return_part at x c l
    line_part (asserts at a x b c) l =
        join (keyword_part Outside key.Assert at refl)
        (then (open_paren Outside a) (join (expr_part means Outside x l) (then (close_paren Outside b) (then (semicolon Outside c) newline)) (λ rest e. refl)))
        (λ rest e. refl)
    line_part (raises at a t bytes b c) l =
        join (keyword_part Outside key.Error at refl)
        (then (open_paren Outside a) (then (text_part means Outside bytes t l) (then (close_paren Outside b) (then (semicolon Outside c) newline))))
        (λ rest e. refl)
    line_part (notes o ns e) l = annotation_part note_text spell_note LegibleNote note_part o e ns l

    pub lines_part : (ls : Lines) → LegibleLines ls → Part Free Outside Outside (lines_text ls) (spell_lines ls)
    lines_part no_lines l = none
    lines_part (line_and i is) l = then (line_part i l.0) (lines_part is l.1)
