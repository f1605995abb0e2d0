-- Tokens of the same kinds are the same text, standing elsewhere.
use Rattle.std.proofs.Common.{◌≡◌, List, [], ◌∷◌, map, refl, ap, ◌∙◌}
use Rattle.gc0_base.specs.declared.place.Place.{Place}
use Rattle.c0_lex.specs.declared.token.Keyword.TheVariants as key
use Rattle.c0_lex.specs.declared.token.Symbol.TheVariants as mark
use Rattle.c0_grammar.specs.Tokens.{word_mark, sign_mark, use_mark, open_mark, close_mark, end_mark, What, fixed, name_what, number_what, text_what, Token, token, end_token}
use Rattle.c0_grammar.specs.Lists.{spell_all}
use Rattle.c0_grammar.specs.Written.{spell_type, spell, spell_args, spell_formula}
use Rattle.c0_grammar.specs.Texts.{NoteText, asserts_note, folds_note, unfolds_note, spell_note, InvariantText, spell_invariant, InvariantsText, spell_invariants, update_symbol, step_symbol, SimpleText, declares, declares_as, assigns, steps, evaluates, spell_simple, spell_option, tree_option, Line, simple_line, braces, ifs, ifs_else, whiles, fors, returns, asserts, raises, notes, Lines, no_lines, line_and, spell_line, spell_lines, side_word, ClauseText, spell_clause, ContractText, spell_contract, ParamText, spell_param, NextParam, spell_next, Params, no_params, some_params, spell_params, ResultText, void_word, gives, spell_result, HeadText, spell_head, PredicateWritten, spell_predicate, FieldText, spell_field, ItemText, names_struct, defines_struct, defines_type, declares_function, defines_function, defines_predicates, spell_item, library_name, UseText, spell_use}
use Rattle.c0_layout.specs.Rounding.{nowhere}
use Rattle.c0_print.proofs.Shapes.{shape_type, shape_expr, shape_note, shape_invariant, shape_invariants, shape_simple, shape_line, shape_lines, shape_clause, shape_contract, shape_param, shape_next, shape_params, shape_result, shape_head, shape_predicate, shape_field, shape_item, shape_use}
use Rattle.c0_print.specs.Laws.{whats}
use Rattle.c0_print.proofs.Moving.{front, Moves, move_all, move_option, move_type, move_expr, move_args, move_formula}

pub move_note : (x : NoteText) (rest ts : List Token) → whats ts ≡ whats (spell_note x rest) → Moves spell_note shape_note x rest ts
move_note (asserts_note at f c) rest ts eq0 =
    let m0 = front (fixed (word_mark key.Assert)) (whats (spell_formula f (token (fixed (sign_mark mark.Semicolon)) c ∷ rest))) ts eq0 in
    let m1 = move_formula f (token (fixed (sign_mark mark.Semicolon)) c ∷ rest) m0.more m0.same in
    let m2 = front (fixed (sign_mark mark.Semicolon)) (whats rest) m1.behind m1.same in
    record { y = asserts_note m0.at m1.y m2.at; behind = m2.more; split = (m0.split ∙ ap (λ (l : List Token). token (fixed (word_mark key.Assert)) m0.at ∷ l) (m1.split ∙ ap (spell_formula m1.y) m2.split)); same = m2.same; alike = ap (λ u. asserts_note nowhere u nowhere) m1.alike }
move_note (folds_note at n name a xs b c) rest ts eq0 =
    let m0 = front (fixed (word_mark key.Fold)) (whats (token (name_what name) n ∷ (token (fixed (sign_mark mark.OpenParen)) a ∷ (spell_args xs (token (fixed (sign_mark mark.CloseParen)) b ∷ (token (fixed (sign_mark mark.Semicolon)) c ∷ rest)))))) ts eq0 in
    let m1 = front (name_what name) (whats (token (fixed (sign_mark mark.OpenParen)) a ∷ (spell_args xs (token (fixed (sign_mark mark.CloseParen)) b ∷ (token (fixed (sign_mark mark.Semicolon)) c ∷ rest))))) m0.more m0.same in
    let m2 = front (fixed (sign_mark mark.OpenParen)) (whats (spell_args xs (token (fixed (sign_mark mark.CloseParen)) b ∷ (token (fixed (sign_mark mark.Semicolon)) c ∷ rest)))) m1.more m1.same in
    let m3 = move_args xs (token (fixed (sign_mark mark.CloseParen)) b ∷ (token (fixed (sign_mark mark.Semicolon)) c ∷ rest)) m2.more m2.same in
    let m4 = front (fixed (sign_mark mark.CloseParen)) (whats (token (fixed (sign_mark mark.Semicolon)) c ∷ rest)) m3.behind m3.same in
    let m5 = front (fixed (sign_mark mark.Semicolon)) (whats rest) m4.more m4.same in
    record { y = folds_note m0.at m1.at name m2.at m3.y m4.at m5.at; behind = m5.more; split = (m0.split ∙ ap (λ (l : List Token). token (fixed (word_mark key.Fold)) m0.at ∷ l) (m1.split ∙ ap (λ (l : List Token). token (name_what name) m1.at ∷ l) (m2.split ∙ ap (λ (l : List Token). token (fixed (sign_mark mark.OpenParen)) m2.at ∷ l) (m3.split ∙ ap (spell_args m3.y) (m4.split ∙ ap (λ (l : List Token). token (fixed (sign_mark mark.CloseParen)) m4.at ∷ l) m5.split))))); same = m5.same; alike = ap (λ u. folds_note nowhere nowhere name nowhere u nowhere nowhere) m3.alike }
move_note (unfolds_note at n name a xs b c) rest ts eq0 =
    let m0 = front (fixed (word_mark key.Unfold)) (whats (token (name_what name) n ∷ (token (fixed (sign_mark mark.OpenParen)) a ∷ (spell_args xs (token (fixed (sign_mark mark.CloseParen)) b ∷ (token (fixed (sign_mark mark.Semicolon)) c ∷ rest)))))) ts eq0 in
    let m1 = front (name_what name) (whats (token (fixed (sign_mark mark.OpenParen)) a ∷ (spell_args xs (token (fixed (sign_mark mark.CloseParen)) b ∷ (token (fixed (sign_mark mark.Semicolon)) c ∷ rest))))) m0.more m0.same in
    let m2 = front (fixed (sign_mark mark.OpenParen)) (whats (spell_args xs (token (fixed (sign_mark mark.CloseParen)) b ∷ (token (fixed (sign_mark mark.Semicolon)) c ∷ rest)))) m1.more m1.same in
    let m3 = move_args xs (token (fixed (sign_mark mark.CloseParen)) b ∷ (token (fixed (sign_mark mark.Semicolon)) c ∷ rest)) m2.more m2.same in
    let m4 = front (fixed (sign_mark mark.CloseParen)) (whats (token (fixed (sign_mark mark.Semicolon)) c ∷ rest)) m3.behind m3.same in
    let m5 = front (fixed (sign_mark mark.Semicolon)) (whats rest) m4.more m4.same in
    record { y = unfolds_note m0.at m1.at name m2.at m3.y m4.at m5.at; behind = m5.more; split = (m0.split ∙ ap (λ (l : List Token). token (fixed (word_mark key.Unfold)) m0.at ∷ l) (m1.split ∙ ap (λ (l : List Token). token (name_what name) m1.at ∷ l) (m2.split ∙ ap (λ (l : List Token). token (fixed (sign_mark mark.OpenParen)) m2.at ∷ l) (m3.split ∙ ap (spell_args m3.y) (m4.split ∙ ap (λ (l : List Token). token (fixed (sign_mark mark.CloseParen)) m4.at ∷ l) m5.split))))); same = m5.same; alike = ap (λ u. unfolds_note nowhere nowhere name nowhere u nowhere nowhere) m3.alike }

pub move_invariant : (x : InvariantText) (rest ts : List Token) → whats ts ≡ whats (spell_invariant x rest) → Moves spell_invariant shape_invariant x rest ts
move_invariant r rest ts eq0 =
    let m0 = front (fixed (word_mark key.LoopInvariant)) (whats (spell_formula r.formula (token (fixed (sign_mark mark.Semicolon)) r.c ∷ rest))) ts eq0 in
    let m1 = move_formula r.formula (token (fixed (sign_mark mark.Semicolon)) r.c ∷ rest) m0.more m0.same in
    let m2 = front (fixed (sign_mark mark.Semicolon)) (whats rest) m1.behind m1.same in
    record { y = record { at = m0.at; formula = m1.y; c = m2.at }; behind = m2.more; split = (m0.split ∙ ap (λ (l : List Token). token (fixed (word_mark key.LoopInvariant)) m0.at ∷ l) (m1.split ∙ ap (spell_formula m1.y) m2.split)); same = m2.same; alike = ap (λ u. let s : InvariantText = record { at = nowhere; formula = u; c = nowhere } in s) m1.alike }

pub move_invariants : (x : InvariantsText) (rest ts : List Token) → whats ts ≡ whats (spell_invariants x rest) → Moves spell_invariants shape_invariants x rest ts
move_invariants r rest ts eq0 =
    let m0 = front (fixed open_mark) (whats (spell_all spell_invariant r.clauses (token (fixed close_mark) r.e ∷ rest))) ts eq0 in
    let m1 = move_all spell_invariant shape_invariant move_invariant r.clauses (token (fixed close_mark) r.e ∷ rest) m0.more m0.same in
    let m2 = front (fixed close_mark) (whats rest) m1.behind m1.same in
    record { y = record { o = m0.at; clauses = m1.y; e = m2.at }; behind = m2.more; split = (m0.split ∙ ap (λ (l : List Token). token (fixed open_mark) m0.at ∷ l) (m1.split ∙ ap (spell_all spell_invariant m1.y) m2.split)); same = m2.same; alike = ap (λ u. let s : InvariantsText = record { o = nowhere; clauses = u; e = nowhere } in s) m1.alike }

pub move_simple : (x : SimpleText) (rest ts : List Token) → whats ts ≡ whats (spell_simple x rest) → Moves spell_simple shape_simple x rest ts
move_simple (declares t n name) rest ts eq0 =
    let m0 = move_type t (token (name_what name) n ∷ rest) ts eq0 in
    let m1 = front (name_what name) (whats rest) m0.behind m0.same in
    record { y = declares m0.y m1.at name; behind = m1.more; split = (m0.split ∙ ap (spell_type m0.y) m1.split); same = m1.same; alike = ap (λ u. declares u nowhere name) m0.alike }
move_simple (declares_as t n name q x) rest ts eq0 =
    let m0 = move_type t (token (name_what name) n ∷ (token (fixed (sign_mark mark.Assign)) q ∷ (spell x rest))) ts eq0 in
    let m1 = front (name_what name) (whats (token (fixed (sign_mark mark.Assign)) q ∷ (spell x rest))) m0.behind m0.same in
    let m2 = front (fixed (sign_mark mark.Assign)) (whats (spell x rest)) m1.more m1.same in
    let m3 = move_expr x rest m2.more m2.same in
    record { y = declares_as m0.y m1.at name m2.at m3.y; behind = m3.behind; split = (m0.split ∙ ap (spell_type m0.y) (m1.split ∙ ap (λ (l : List Token). token (name_what name) m1.at ∷ l) (m2.split ∙ ap (λ (l : List Token). token (fixed (sign_mark mark.Assign)) m2.at ∷ l) m3.split))); same = m3.same; alike = ap (λ u. declares_as u nowhere name nowhere (shape_expr m3.y)) m0.alike ∙ ap (λ u. declares_as (shape_type t) nowhere name nowhere u) m3.alike }
move_simple (assigns x q o y) rest ts eq0 =
    let m0 = move_expr x (token (fixed (sign_mark (update_symbol o))) q ∷ (spell y rest)) ts eq0 in
    let m1 = front (fixed (sign_mark (update_symbol o))) (whats (spell y rest)) m0.behind m0.same in
    let m2 = move_expr y rest m1.more m1.same in
    record { y = assigns m0.y m1.at o m2.y; behind = m2.behind; split = (m0.split ∙ ap (spell m0.y) (m1.split ∙ ap (λ (l : List Token). token (fixed (sign_mark (update_symbol o))) m1.at ∷ l) m2.split)); same = m2.same; alike = ap (λ u. assigns u nowhere o (shape_expr m2.y)) m0.alike ∙ ap (λ u. assigns (shape_expr x) nowhere o u) m2.alike }
move_simple (steps x q o) rest ts eq0 =
    let m0 = move_expr x (token (fixed (sign_mark (step_symbol o))) q ∷ rest) ts eq0 in
    let m1 = front (fixed (sign_mark (step_symbol o))) (whats rest) m0.behind m0.same in
    record { y = steps m0.y m1.at o; behind = m1.more; split = (m0.split ∙ ap (spell m0.y) m1.split); same = m1.same; alike = ap (λ u. steps u nowhere o) m0.alike }
move_simple (evaluates x) rest ts eq0 =
    let m0 = move_expr x rest ts eq0 in
    record { y = evaluates m0.y; behind = m0.behind; split = m0.split; same = m0.same; alike = ap (λ u. evaluates u) m0.alike }

mutual
  pub move_line : (x : Line) (rest ts : List Token) → whats ts ≡ whats (spell_line x rest) → Moves spell_line shape_line x rest ts
  move_line (simple_line s c) rest ts eq0 =
      let m0 = move_simple s (token (fixed (sign_mark mark.Semicolon)) c ∷ rest) ts eq0 in
      let m1 = front (fixed (sign_mark mark.Semicolon)) (whats rest) m0.behind m0.same in
      record { y = simple_line m0.y m1.at; behind = m1.more; split = (m0.split ∙ ap (spell_simple m0.y) m1.split); same = m1.same; alike = ap (λ u. simple_line u nowhere) m0.alike }
  move_line (braces a ls b) rest ts eq0 =
      let m0 = front (fixed (sign_mark mark.OpenBrace)) (whats (spell_lines ls (token (fixed (sign_mark mark.CloseBrace)) b ∷ rest))) ts eq0 in
      let m1 = move_lines ls (token (fixed (sign_mark mark.CloseBrace)) b ∷ rest) m0.more m0.same in
      let m2 = front (fixed (sign_mark mark.CloseBrace)) (whats rest) m1.behind m1.same in
      record { y = braces m0.at m1.y m2.at; behind = m2.more; split = (m0.split ∙ ap (λ (l : List Token). token (fixed (sign_mark mark.OpenBrace)) m0.at ∷ l) (m1.split ∙ ap (spell_lines m1.y) m2.split)); same = m2.same; alike = ap (λ u. braces nowhere u nowhere) m1.alike }
  move_line (ifs at a x b l) rest ts eq0 =
      let m0 = front (fixed (word_mark key.If)) (whats (token (fixed (sign_mark mark.OpenParen)) a ∷ (spell x (token (fixed (sign_mark mark.CloseParen)) b ∷ (spell_line l rest))))) ts eq0 in
      let m1 = front (fixed (sign_mark mark.OpenParen)) (whats (spell x (token (fixed (sign_mark mark.CloseParen)) b ∷ (spell_line l rest)))) m0.more m0.same in
      let m2 = move_expr x (token (fixed (sign_mark mark.CloseParen)) b ∷ (spell_line l rest)) m1.more m1.same in
      let m3 = front (fixed (sign_mark mark.CloseParen)) (whats (spell_line l rest)) m2.behind m2.same in
      let m4 = move_line l rest m3.more m3.same in
      record { y = ifs m0.at m1.at m2.y m3.at m4.y; behind = m4.behind; split = (m0.split ∙ ap (λ (l : List Token). token (fixed (word_mark key.If)) m0.at ∷ l) (m1.split ∙ ap (λ (l : List Token). token (fixed (sign_mark mark.OpenParen)) m1.at ∷ l) (m2.split ∙ ap (spell m2.y) (m3.split ∙ ap (λ (l : List Token). token (fixed (sign_mark mark.CloseParen)) m3.at ∷ l) m4.split)))); same = m4.same; alike = ap (λ u. ifs nowhere nowhere u nowhere (shape_line m4.y)) m2.alike ∙ ap (λ u. ifs nowhere nowhere (shape_expr x) nowhere u) m4.alike }
  move_line (ifs_else at a x b l e m) rest ts eq0 =
      let m0 = front (fixed (word_mark key.If)) (whats (token (fixed (sign_mark mark.OpenParen)) a ∷ (spell x (token (fixed (sign_mark mark.CloseParen)) b ∷ (spell_line l (token (fixed (word_mark key.Else)) e ∷ (spell_line m rest))))))) ts eq0 in
      let m1 = front (fixed (sign_mark mark.OpenParen)) (whats (spell x (token (fixed (sign_mark mark.CloseParen)) b ∷ (spell_line l (token (fixed (word_mark key.Else)) e ∷ (spell_line m rest)))))) m0.more m0.same in
      let m2 = move_expr x (token (fixed (sign_mark mark.CloseParen)) b ∷ (spell_line l (token (fixed (word_mark key.Else)) e ∷ (spell_line m rest)))) m1.more m1.same in
      let m3 = front (fixed (sign_mark mark.CloseParen)) (whats (spell_line l (token (fixed (word_mark key.Else)) e ∷ (spell_line m rest)))) m2.behind m2.same in
      let m4 = move_line l (token (fixed (word_mark key.Else)) e ∷ (spell_line m rest)) m3.more m3.same in
      let m5 = front (fixed (word_mark key.Else)) (whats (spell_line m rest)) m4.behind m4.same in
      let m6 = move_line m rest m5.more m5.same in
      record { y = ifs_else m0.at m1.at m2.y m3.at m4.y m5.at m6.y; behind = m6.behind; split = (m0.split ∙ ap (λ (l : List Token). token (fixed (word_mark key.If)) m0.at ∷ l) (m1.split ∙ ap (λ (l : List Token). token (fixed (sign_mark mark.OpenParen)) m1.at ∷ l) (m2.split ∙ ap (spell m2.y) (m3.split ∙ ap (λ (l : List Token). token (fixed (sign_mark mark.CloseParen)) m3.at ∷ l) (m4.split ∙ ap (spell_line m4.y) (m5.split ∙ ap (λ (l : List Token). token (fixed (word_mark key.Else)) m5.at ∷ l) m6.split)))))); same = m6.same; alike = ap (λ u. ifs_else nowhere nowhere u nowhere (shape_line m4.y) nowhere (shape_line m6.y)) m2.alike ∙ ap (λ u. ifs_else nowhere nowhere (shape_expr x) nowhere u nowhere (shape_line m6.y)) m4.alike ∙ ap (λ u. ifs_else nowhere nowhere (shape_expr x) nowhere (shape_line l) nowhere u) m6.alike }
  move_line (whiles at a x b is l) rest ts eq0 =
      let m0 = front (fixed (word_mark key.While)) (whats (token (fixed (sign_mark mark.OpenParen)) a ∷ (spell x (token (fixed (sign_mark mark.CloseParen)) b ∷ (spell_all spell_invariants is (spell_line l rest)))))) ts eq0 in
      let m1 = front (fixed (sign_mark mark.OpenParen)) (whats (spell x (token (fixed (sign_mark mark.CloseParen)) b ∷ (spell_all spell_invariants is (spell_line l rest))))) m0.more m0.same in
      let m2 = move_expr x (token (fixed (sign_mark mark.CloseParen)) b ∷ (spell_all spell_invariants is (spell_line l rest))) m1.more m1.same in
      let m3 = front (fixed (sign_mark mark.CloseParen)) (whats (spell_all spell_invariants is (spell_line l rest))) m2.behind m2.same in
      let m4 = move_all spell_invariants shape_invariants move_invariants is (spell_line l rest) m3.more m3.same in
      let m5 = move_line l rest m4.behind m4.same in
      record { y = whiles m0.at m1.at m2.y m3.at m4.y m5.y; behind = m5.behind; split = (m0.split ∙ ap (λ (l : List Token). token (fixed (word_mark key.While)) m0.at ∷ l) (m1.split ∙ ap (λ (l : List Token). token (fixed (sign_mark mark.OpenParen)) m1.at ∷ l) (m2.split ∙ ap (spell m2.y) (m3.split ∙ ap (λ (l : List Token). token (fixed (sign_mark mark.CloseParen)) m3.at ∷ l) (m4.split ∙ ap (spell_all spell_invariants m4.y) m5.split))))); same = m5.same; alike = ap (λ u. whiles nowhere nowhere u nowhere (map shape_invariants m4.y) (shape_line m5.y)) m2.alike ∙ ap (λ u. whiles nowhere nowhere (shape_expr x) nowhere u (shape_line m5.y)) m4.alike ∙ ap (λ u. whiles nowhere nowhere (shape_expr x) nowhere (map shape_invariants is) u) m5.alike }
  move_line (fors at a s c x d t b is l) rest ts eq0 =
      let m0 = front (fixed (word_mark key.For)) (whats (token (fixed (sign_mark mark.OpenParen)) a ∷ (spell_option spell_simple s (token (fixed (sign_mark mark.Semicolon)) c ∷ (spell x (token (fixed (sign_mark mark.Semicolon)) d ∷ (spell_option spell_simple t (token (fixed (sign_mark mark.CloseParen)) b ∷ (spell_all spell_invariants is (spell_line l rest)))))))))) ts eq0 in
      let m1 = front (fixed (sign_mark mark.OpenParen)) (whats (spell_option spell_simple s (token (fixed (sign_mark mark.Semicolon)) c ∷ (spell x (token (fixed (sign_mark mark.Semicolon)) d ∷ (spell_option spell_simple t (token (fixed (sign_mark mark.CloseParen)) b ∷ (spell_all spell_invariants is (spell_line l rest))))))))) m0.more m0.same in
      let m2 = move_option spell_simple shape_simple move_simple s (token (fixed (sign_mark mark.Semicolon)) c ∷ (spell x (token (fixed (sign_mark mark.Semicolon)) d ∷ (spell_option spell_simple t (token (fixed (sign_mark mark.CloseParen)) b ∷ (spell_all spell_invariants is (spell_line l rest))))))) m1.more m1.same in
      let m3 = front (fixed (sign_mark mark.Semicolon)) (whats (spell x (token (fixed (sign_mark mark.Semicolon)) d ∷ (spell_option spell_simple t (token (fixed (sign_mark mark.CloseParen)) b ∷ (spell_all spell_invariants is (spell_line l rest))))))) m2.behind m2.same in
      let m4 = move_expr x (token (fixed (sign_mark mark.Semicolon)) d ∷ (spell_option spell_simple t (token (fixed (sign_mark mark.CloseParen)) b ∷ (spell_all spell_invariants is (spell_line l rest))))) m3.more m3.same in
      let m5 = front (fixed (sign_mark mark.Semicolon)) (whats (spell_option spell_simple t (token (fixed (sign_mark mark.CloseParen)) b ∷ (spell_all spell_invariants is (spell_line l rest))))) m4.behind m4.same in
      let m6 = move_option spell_simple shape_simple move_simple t (token (fixed (sign_mark mark.CloseParen)) b ∷ (spell_all spell_invariants is (spell_line l rest))) m5.more m5.same in
      let m7 = front (fixed (sign_mark mark.CloseParen)) (whats (spell_all spell_invariants is (spell_line l rest))) m6.behind m6.same in
      let m8 = move_all spell_invariants shape_invariants move_invariants is (spell_line l rest) m7.more m7.same in
      let m9 = move_line l rest m8.behind m8.same in
      record { y = fors m0.at m1.at m2.y m3.at m4.y m5.at m6.y m7.at m8.y m9.y; behind = m9.behind; split = (m0.split ∙ ap (λ (l : List Token). token (fixed (word_mark key.For)) m0.at ∷ l) (m1.split ∙ ap (λ (l : List Token). token (fixed (sign_mark mark.OpenParen)) m1.at ∷ l) (m2.split ∙ ap (spell_option spell_simple m2.y) (m3.split ∙ ap (λ (l : List Token). token (fixed (sign_mark mark.Semicolon)) m3.at ∷ l) (m4.split ∙ ap (spell m4.y) (m5.split ∙ ap (λ (l : List Token). token (fixed (sign_mark mark.Semicolon)) m5.at ∷ l) (m6.split ∙ ap (spell_option spell_simple m6.y) (m7.split ∙ ap (λ (l : List Token). token (fixed (sign_mark mark.CloseParen)) m7.at ∷ l) (m8.split ∙ ap (spell_all spell_invariants m8.y) m9.split))))))))); same = m9.same; alike = ap (λ u. fors nowhere nowhere u nowhere (shape_expr m4.y) nowhere (tree_option shape_simple m6.y) nowhere (map shape_invariants m8.y) (shape_line m9.y)) m2.alike ∙ ap (λ u. fors nowhere nowhere (tree_option shape_simple s) nowhere u nowhere (tree_option shape_simple m6.y) nowhere (map shape_invariants m8.y) (shape_line m9.y)) m4.alike ∙ ap (λ u. fors nowhere nowhere (tree_option shape_simple s) nowhere (shape_expr x) nowhere u nowhere (map shape_invariants m8.y) (shape_line m9.y)) m6.alike ∙ ap (λ u. fors nowhere nowhere (tree_option shape_simple s) nowhere (shape_expr x) nowhere (tree_option shape_simple t) nowhere u (shape_line m9.y)) m8.alike ∙ ap (λ u. fors nowhere nowhere (tree_option shape_simple s) nowhere (shape_expr x) nowhere (tree_option shape_simple t) nowhere (map shape_invariants is) u) m9.alike }
  move_line (returns at x c) rest ts eq0 =
      let m0 = front (fixed (word_mark key.Return)) (whats (spell_option spell x (token (fixed (sign_mark mark.Semicolon)) c ∷ rest))) ts eq0 in
      let m1 = move_option spell shape_expr move_expr x (token (fixed (sign_mark mark.Semicolon)) c ∷ rest) m0.more m0.same in
      let m2 = front (fixed (sign_mark mark.Semicolon)) (whats rest) m1.behind m1.same in
      record { y = returns m0.at m1.y m2.at; behind = m2.more; split = (m0.split ∙ ap (λ (l : List Token). token (fixed (word_mark key.Return)) m0.at ∷ l) (m1.split ∙ ap (spell_option spell m1.y) m2.split)); same = m2.same; alike = ap (λ u. returns nowhere u nowhere) m1.alike }
  move_line (asserts at a x b c) rest ts eq0 =
      let m0 = front (fixed (word_mark key.Assert)) (whats (token (fixed (sign_mark mark.OpenParen)) a ∷ (spell x (token (fixed (sign_mark mark.CloseParen)) b ∷ (token (fixed (sign_mark mark.Semicolon)) c ∷ rest))))) ts eq0 in
      let m1 = front (fixed (sign_mark mark.OpenParen)) (whats (spell x (token (fixed (sign_mark mark.CloseParen)) b ∷ (token (fixed (sign_mark mark.Semicolon)) c ∷ rest)))) m0.more m0.same in
      let m2 = move_expr x (token (fixed (sign_mark mark.CloseParen)) b ∷ (token (fixed (sign_mark mark.Semicolon)) c ∷ rest)) m1.more m1.same in
      let m3 = front (fixed (sign_mark mark.CloseParen)) (whats (token (fixed (sign_mark mark.Semicolon)) c ∷ rest)) m2.behind m2.same in
      let m4 = front (fixed (sign_mark mark.Semicolon)) (whats rest) m3.more m3.same in
      record { y = asserts m0.at m1.at m2.y m3.at m4.at; behind = m4.more; split = (m0.split ∙ ap (λ (l : List Token). token (fixed (word_mark key.Assert)) m0.at ∷ l) (m1.split ∙ ap (λ (l : List Token). token (fixed (sign_mark mark.OpenParen)) m1.at ∷ l) (m2.split ∙ ap (spell m2.y) (m3.split ∙ ap (λ (l : List Token). token (fixed (sign_mark mark.CloseParen)) m3.at ∷ l) m4.split)))); same = m4.same; alike = ap (λ u. asserts nowhere nowhere u nowhere nowhere) m2.alike }
  move_line (raises at a t bytes b c) rest ts eq0 =
      let m0 = front (fixed (word_mark key.Error)) (whats (token (fixed (sign_mark mark.OpenParen)) a ∷ (token (text_what bytes) t ∷ (token (fixed (sign_mark mark.CloseParen)) b ∷ (token (fixed (sign_mark mark.Semicolon)) c ∷ rest))))) ts eq0 in
      let m1 = front (fixed (sign_mark mark.OpenParen)) (whats (token (text_what bytes) t ∷ (token (fixed (sign_mark mark.CloseParen)) b ∷ (token (fixed (sign_mark mark.Semicolon)) c ∷ rest)))) m0.more m0.same in
      let m2 = front (text_what bytes) (whats (token (fixed (sign_mark mark.CloseParen)) b ∷ (token (fixed (sign_mark mark.Semicolon)) c ∷ rest))) m1.more m1.same in
      let m3 = front (fixed (sign_mark mark.CloseParen)) (whats (token (fixed (sign_mark mark.Semicolon)) c ∷ rest)) m2.more m2.same in
      let m4 = front (fixed (sign_mark mark.Semicolon)) (whats rest) m3.more m3.same in
      record { y = raises m0.at m1.at m2.at bytes m3.at m4.at; behind = m4.more; split = (m0.split ∙ ap (λ (l : List Token). token (fixed (word_mark key.Error)) m0.at ∷ l) (m1.split ∙ ap (λ (l : List Token). token (fixed (sign_mark mark.OpenParen)) m1.at ∷ l) (m2.split ∙ ap (λ (l : List Token). token (text_what bytes) m2.at ∷ l) (m3.split ∙ ap (λ (l : List Token). token (fixed (sign_mark mark.CloseParen)) m3.at ∷ l) m4.split)))); same = m4.same; alike = refl }
  move_line (notes o ns e) rest ts eq0 =
      let m0 = front (fixed open_mark) (whats (spell_all spell_note ns (token (fixed close_mark) e ∷ rest))) ts eq0 in
      let m1 = move_all spell_note shape_note move_note ns (token (fixed close_mark) e ∷ rest) m0.more m0.same in
      let m2 = front (fixed close_mark) (whats rest) m1.behind m1.same in
      record { y = notes m0.at m1.y m2.at; behind = m2.more; split = (m0.split ∙ ap (λ (l : List Token). token (fixed open_mark) m0.at ∷ l) (m1.split ∙ ap (spell_all spell_note m1.y) m2.split)); same = m2.same; alike = ap (λ u. notes nowhere u nowhere) m1.alike }

  pub move_lines : (x : Lines) (rest ts : List Token) → whats ts ≡ whats (spell_lines x rest) → Moves spell_lines shape_lines x rest ts
  move_lines no_lines rest ts eq0 =
      record { y = no_lines; behind = ts; split = refl; same = eq0; alike = refl }
  move_lines (line_and l ls) rest ts eq0 =
      let m0 = move_line l (spell_lines ls rest) ts eq0 in
      let m1 = move_lines ls rest m0.behind m0.same in
      record { y = line_and m0.y m1.y; behind = m1.behind; split = (m0.split ∙ ap (spell_line m0.y) m1.split); same = m1.same; alike = ap (λ u. line_and u (shape_lines m1.y)) m0.alike ∙ ap (λ u. line_and (shape_line l) u) m1.alike }

pub move_clause : (x : ClauseText) (rest ts : List Token) → whats ts ≡ whats (spell_clause x rest) → Moves spell_clause shape_clause x rest ts
move_clause r rest ts eq0 =
    let m0 = front (fixed (word_mark (side_word r.side))) (whats (spell_formula r.formula (token (fixed (sign_mark mark.Semicolon)) r.c ∷ rest))) ts eq0 in
    let m1 = move_formula r.formula (token (fixed (sign_mark mark.Semicolon)) r.c ∷ rest) m0.more m0.same in
    let m2 = front (fixed (sign_mark mark.Semicolon)) (whats rest) m1.behind m1.same in
    record { y = record { at = m0.at; side = r.side; formula = m1.y; c = m2.at }; behind = m2.more; split = (m0.split ∙ ap (λ (l : List Token). token (fixed (word_mark (side_word r.side))) m0.at ∷ l) (m1.split ∙ ap (spell_formula m1.y) m2.split)); same = m2.same; alike = ap (λ u. let s : ClauseText = record { at = nowhere; side = r.side; formula = u; c = nowhere } in s) m1.alike }

pub move_contract : (x : ContractText) (rest ts : List Token) → whats ts ≡ whats (spell_contract x rest) → Moves spell_contract shape_contract x rest ts
move_contract r rest ts eq0 =
    let m0 = front (fixed open_mark) (whats (spell_all spell_clause r.clauses (token (fixed close_mark) r.e ∷ rest))) ts eq0 in
    let m1 = move_all spell_clause shape_clause move_clause r.clauses (token (fixed close_mark) r.e ∷ rest) m0.more m0.same in
    let m2 = front (fixed close_mark) (whats rest) m1.behind m1.same in
    record { y = record { o = m0.at; clauses = m1.y; e = m2.at }; behind = m2.more; split = (m0.split ∙ ap (λ (l : List Token). token (fixed open_mark) m0.at ∷ l) (m1.split ∙ ap (spell_all spell_clause m1.y) m2.split)); same = m2.same; alike = ap (λ u. let s : ContractText = record { o = nowhere; clauses = u; e = nowhere } in s) m1.alike }

pub move_param : (x : ParamText) (rest ts : List Token) → whats ts ≡ whats (spell_param x rest) → Moves spell_param shape_param x rest ts
move_param r rest ts eq0 =
    let m0 = move_type r.typed (token (name_what r.name) r.n ∷ rest) ts eq0 in
    let m1 = front (name_what r.name) (whats rest) m0.behind m0.same in
    record { y = record { typed = m0.y; n = m1.at; name = r.name }; behind = m1.more; split = (m0.split ∙ ap (spell_type m0.y) m1.split); same = m1.same; alike = ap (λ u. let s : ParamText = record { typed = u; n = nowhere; name = r.name } in s) m0.alike }

pub move_next : (x : NextParam) (rest ts : List Token) → whats ts ≡ whats (spell_next x rest) → Moves spell_next shape_next x rest ts
move_next r rest ts eq0 =
    let m0 = front (fixed (sign_mark mark.Comma)) (whats (spell_param r.param rest)) ts eq0 in
    let m1 = move_param r.param rest m0.more m0.same in
    record { y = record { comma = m0.at; param = m1.y }; behind = m1.behind; split = (m0.split ∙ ap (λ (l : List Token). token (fixed (sign_mark mark.Comma)) m0.at ∷ l) m1.split); same = m1.same; alike = ap (λ u. let s : NextParam = record { comma = nowhere; param = u } in s) m1.alike }

pub move_params : (x : Params) (rest ts : List Token) → whats ts ≡ whats (spell_params x rest) → Moves spell_params shape_params x rest ts
move_params no_params rest ts eq0 =
    record { y = no_params; behind = ts; split = refl; same = eq0; alike = refl }
move_params (some_params p ps) rest ts eq0 =
    let m0 = move_param p (spell_all spell_next ps rest) ts eq0 in
    let m1 = move_all spell_next shape_next move_next ps rest m0.behind m0.same in
    record { y = some_params m0.y m1.y; behind = m1.behind; split = (m0.split ∙ ap (spell_param m0.y) m1.split); same = m1.same; alike = ap (λ u. some_params u (map shape_next m1.y)) m0.alike ∙ ap (λ u. some_params (shape_param p) u) m1.alike }

pub move_result : (x : ResultText) (rest ts : List Token) → whats ts ≡ whats (spell_result x rest) → Moves spell_result shape_result x rest ts
move_result (void_word at) rest ts eq0 =
    let m0 = front (fixed (word_mark key.Void)) (whats rest) ts eq0 in
    record { y = void_word m0.at; behind = m0.more; split = m0.split; same = m0.same; alike = refl }
move_result (gives t) rest ts eq0 =
    let m0 = move_type t rest ts eq0 in
    record { y = gives m0.y; behind = m0.behind; split = m0.split; same = m0.same; alike = ap (λ u. gives u) m0.alike }

pub move_head : (x : HeadText) (rest ts : List Token) → whats ts ≡ whats (spell_head x rest) → Moves spell_head shape_head x rest ts
move_head r rest ts eq0 =
    let m0 = move_result r.gives_what (token (name_what r.name) r.n ∷ (token (fixed (sign_mark mark.OpenParen)) r.a ∷ (spell_params r.params (token (fixed (sign_mark mark.CloseParen)) r.b ∷ rest)))) ts eq0 in
    let m1 = front (name_what r.name) (whats (token (fixed (sign_mark mark.OpenParen)) r.a ∷ (spell_params r.params (token (fixed (sign_mark mark.CloseParen)) r.b ∷ rest)))) m0.behind m0.same in
    let m2 = front (fixed (sign_mark mark.OpenParen)) (whats (spell_params r.params (token (fixed (sign_mark mark.CloseParen)) r.b ∷ rest))) m1.more m1.same in
    let m3 = move_params r.params (token (fixed (sign_mark mark.CloseParen)) r.b ∷ rest) m2.more m2.same in
    let m4 = front (fixed (sign_mark mark.CloseParen)) (whats rest) m3.behind m3.same in
    record { y = record { gives_what = m0.y; n = m1.at; name = r.name; a = m2.at; params = m3.y; b = m4.at }; behind = m4.more; split = (m0.split ∙ ap (spell_result m0.y) (m1.split ∙ ap (λ (l : List Token). token (name_what r.name) m1.at ∷ l) (m2.split ∙ ap (λ (l : List Token). token (fixed (sign_mark mark.OpenParen)) m2.at ∷ l) (m3.split ∙ ap (spell_params m3.y) m4.split)))); same = m4.same; alike = ap (λ u. let s : HeadText = record { gives_what = u; n = nowhere; name = r.name; a = nowhere; params = (shape_params m3.y); b = nowhere } in s) m0.alike ∙ ap (λ u. let s : HeadText = record { gives_what = (shape_result r.gives_what); n = nowhere; name = r.name; a = nowhere; params = u; b = nowhere } in s) m3.alike }

pub move_predicate : (x : PredicateWritten) (rest ts : List Token) → whats ts ≡ whats (spell_predicate x rest) → Moves spell_predicate shape_predicate x rest ts
move_predicate r rest ts eq0 =
    let m0 = front (fixed (word_mark key.Predicate)) (whats (token (name_what r.name) r.n ∷ (token (fixed (sign_mark mark.OpenParen)) r.a ∷ (spell_params r.params (token (fixed (sign_mark mark.CloseParen)) r.b ∷ (token (fixed (sign_mark mark.Assign)) r.q ∷ (spell r.body (token (fixed (sign_mark mark.Semicolon)) r.c ∷ rest)))))))) ts eq0 in
    let m1 = front (name_what r.name) (whats (token (fixed (sign_mark mark.OpenParen)) r.a ∷ (spell_params r.params (token (fixed (sign_mark mark.CloseParen)) r.b ∷ (token (fixed (sign_mark mark.Assign)) r.q ∷ (spell r.body (token (fixed (sign_mark mark.Semicolon)) r.c ∷ rest))))))) m0.more m0.same in
    let m2 = front (fixed (sign_mark mark.OpenParen)) (whats (spell_params r.params (token (fixed (sign_mark mark.CloseParen)) r.b ∷ (token (fixed (sign_mark mark.Assign)) r.q ∷ (spell r.body (token (fixed (sign_mark mark.Semicolon)) r.c ∷ rest)))))) m1.more m1.same in
    let m3 = move_params r.params (token (fixed (sign_mark mark.CloseParen)) r.b ∷ (token (fixed (sign_mark mark.Assign)) r.q ∷ (spell r.body (token (fixed (sign_mark mark.Semicolon)) r.c ∷ rest)))) m2.more m2.same in
    let m4 = front (fixed (sign_mark mark.CloseParen)) (whats (token (fixed (sign_mark mark.Assign)) r.q ∷ (spell r.body (token (fixed (sign_mark mark.Semicolon)) r.c ∷ rest)))) m3.behind m3.same in
    let m5 = front (fixed (sign_mark mark.Assign)) (whats (spell r.body (token (fixed (sign_mark mark.Semicolon)) r.c ∷ rest))) m4.more m4.same in
    let m6 = move_expr r.body (token (fixed (sign_mark mark.Semicolon)) r.c ∷ rest) m5.more m5.same in
    let m7 = front (fixed (sign_mark mark.Semicolon)) (whats rest) m6.behind m6.same in
    record { y = record { at = m0.at; n = m1.at; name = r.name; a = m2.at; params = m3.y; b = m4.at; q = m5.at; body = m6.y; c = m7.at }; behind = m7.more; split = (m0.split ∙ ap (λ (l : List Token). token (fixed (word_mark key.Predicate)) m0.at ∷ l) (m1.split ∙ ap (λ (l : List Token). token (name_what r.name) m1.at ∷ l) (m2.split ∙ ap (λ (l : List Token). token (fixed (sign_mark mark.OpenParen)) m2.at ∷ l) (m3.split ∙ ap (spell_params m3.y) (m4.split ∙ ap (λ (l : List Token). token (fixed (sign_mark mark.CloseParen)) m4.at ∷ l) (m5.split ∙ ap (λ (l : List Token). token (fixed (sign_mark mark.Assign)) m5.at ∷ l) (m6.split ∙ ap (spell m6.y) m7.split))))))); same = m7.same; alike = ap (λ u. let s : PredicateWritten = record { at = nowhere; n = nowhere; name = r.name; a = nowhere; params = u; b = nowhere; q = nowhere; body = (shape_expr m6.y); c = nowhere } in s) m3.alike ∙ ap (λ u. let s : PredicateWritten = record { at = nowhere; n = nowhere; name = r.name; a = nowhere; params = (shape_params r.params); b = nowhere; q = nowhere; body = u; c = nowhere } in s) m6.alike }

pub move_field : (x : FieldText) (rest ts : List Token) → whats ts ≡ whats (spell_field x rest) → Moves spell_field shape_field x rest ts
move_field r rest ts eq0 =
    let m0 = move_type r.typed (token (name_what r.name) r.n ∷ (token (fixed (sign_mark mark.Semicolon)) r.c ∷ rest)) ts eq0 in
    let m1 = front (name_what r.name) (whats (token (fixed (sign_mark mark.Semicolon)) r.c ∷ rest)) m0.behind m0.same in
    let m2 = front (fixed (sign_mark mark.Semicolon)) (whats rest) m1.more m1.same in
    record { y = record { typed = m0.y; n = m1.at; name = r.name; c = m2.at }; behind = m2.more; split = (m0.split ∙ ap (spell_type m0.y) (m1.split ∙ ap (λ (l : List Token). token (name_what r.name) m1.at ∷ l) m2.split)); same = m2.same; alike = ap (λ u. let s : FieldText = record { typed = u; n = nowhere; name = r.name; c = nowhere } in s) m0.alike }

pub move_item : (x : ItemText) (rest ts : List Token) → whats ts ≡ whats (spell_item x rest) → Moves spell_item shape_item x rest ts
move_item (names_struct at n name c) rest ts eq0 =
    let m0 = front (fixed (word_mark key.Struct)) (whats (token (name_what name) n ∷ (token (fixed (sign_mark mark.Semicolon)) c ∷ rest))) ts eq0 in
    let m1 = front (name_what name) (whats (token (fixed (sign_mark mark.Semicolon)) c ∷ rest)) m0.more m0.same in
    let m2 = front (fixed (sign_mark mark.Semicolon)) (whats rest) m1.more m1.same in
    record { y = names_struct m0.at m1.at name m2.at; behind = m2.more; split = (m0.split ∙ ap (λ (l : List Token). token (fixed (word_mark key.Struct)) m0.at ∷ l) (m1.split ∙ ap (λ (l : List Token). token (name_what name) m1.at ∷ l) m2.split)); same = m2.same; alike = refl }
move_item (defines_struct at n name a fs b c) rest ts eq0 =
    let m0 = front (fixed (word_mark key.Struct)) (whats (token (name_what name) n ∷ (token (fixed (sign_mark mark.OpenBrace)) a ∷ (spell_all spell_field fs (token (fixed (sign_mark mark.CloseBrace)) b ∷ (token (fixed (sign_mark mark.Semicolon)) c ∷ rest)))))) ts eq0 in
    let m1 = front (name_what name) (whats (token (fixed (sign_mark mark.OpenBrace)) a ∷ (spell_all spell_field fs (token (fixed (sign_mark mark.CloseBrace)) b ∷ (token (fixed (sign_mark mark.Semicolon)) c ∷ rest))))) m0.more m0.same in
    let m2 = front (fixed (sign_mark mark.OpenBrace)) (whats (spell_all spell_field fs (token (fixed (sign_mark mark.CloseBrace)) b ∷ (token (fixed (sign_mark mark.Semicolon)) c ∷ rest)))) m1.more m1.same in
    let m3 = move_all spell_field shape_field move_field fs (token (fixed (sign_mark mark.CloseBrace)) b ∷ (token (fixed (sign_mark mark.Semicolon)) c ∷ rest)) m2.more m2.same in
    let m4 = front (fixed (sign_mark mark.CloseBrace)) (whats (token (fixed (sign_mark mark.Semicolon)) c ∷ rest)) m3.behind m3.same in
    let m5 = front (fixed (sign_mark mark.Semicolon)) (whats rest) m4.more m4.same in
    record { y = defines_struct m0.at m1.at name m2.at m3.y m4.at m5.at; behind = m5.more; split = (m0.split ∙ ap (λ (l : List Token). token (fixed (word_mark key.Struct)) m0.at ∷ l) (m1.split ∙ ap (λ (l : List Token). token (name_what name) m1.at ∷ l) (m2.split ∙ ap (λ (l : List Token). token (fixed (sign_mark mark.OpenBrace)) m2.at ∷ l) (m3.split ∙ ap (spell_all spell_field m3.y) (m4.split ∙ ap (λ (l : List Token). token (fixed (sign_mark mark.CloseBrace)) m4.at ∷ l) m5.split))))); same = m5.same; alike = ap (λ u. defines_struct nowhere nowhere name nowhere u nowhere nowhere) m3.alike }
move_item (defines_type at t n name c) rest ts eq0 =
    let m0 = front (fixed (word_mark key.Typedef)) (whats (spell_type t (token (name_what name) n ∷ (token (fixed (sign_mark mark.Semicolon)) c ∷ rest)))) ts eq0 in
    let m1 = move_type t (token (name_what name) n ∷ (token (fixed (sign_mark mark.Semicolon)) c ∷ rest)) m0.more m0.same in
    let m2 = front (name_what name) (whats (token (fixed (sign_mark mark.Semicolon)) c ∷ rest)) m1.behind m1.same in
    let m3 = front (fixed (sign_mark mark.Semicolon)) (whats rest) m2.more m2.same in
    record { y = defines_type m0.at m1.y m2.at name m3.at; behind = m3.more; split = (m0.split ∙ ap (λ (l : List Token). token (fixed (word_mark key.Typedef)) m0.at ∷ l) (m1.split ∙ ap (spell_type m1.y) (m2.split ∙ ap (λ (l : List Token). token (name_what name) m2.at ∷ l) m3.split))); same = m3.same; alike = ap (λ u. defines_type nowhere u nowhere name nowhere) m1.alike }
move_item (declares_function h cs c) rest ts eq0 =
    let m0 = move_head h (spell_all spell_contract cs (token (fixed (sign_mark mark.Semicolon)) c ∷ rest)) ts eq0 in
    let m1 = move_all spell_contract shape_contract move_contract cs (token (fixed (sign_mark mark.Semicolon)) c ∷ rest) m0.behind m0.same in
    let m2 = front (fixed (sign_mark mark.Semicolon)) (whats rest) m1.behind m1.same in
    record { y = declares_function m0.y m1.y m2.at; behind = m2.more; split = (m0.split ∙ ap (spell_head m0.y) (m1.split ∙ ap (spell_all spell_contract m1.y) m2.split)); same = m2.same; alike = ap (λ u. declares_function u (map shape_contract m1.y) nowhere) m0.alike ∙ ap (λ u. declares_function (shape_head h) u nowhere) m1.alike }
move_item (defines_function h cs a ls b) rest ts eq0 =
    let m0 = move_head h (spell_all spell_contract cs (token (fixed (sign_mark mark.OpenBrace)) a ∷ (spell_lines ls (token (fixed (sign_mark mark.CloseBrace)) b ∷ rest)))) ts eq0 in
    let m1 = move_all spell_contract shape_contract move_contract cs (token (fixed (sign_mark mark.OpenBrace)) a ∷ (spell_lines ls (token (fixed (sign_mark mark.CloseBrace)) b ∷ rest))) m0.behind m0.same in
    let m2 = front (fixed (sign_mark mark.OpenBrace)) (whats (spell_lines ls (token (fixed (sign_mark mark.CloseBrace)) b ∷ rest))) m1.behind m1.same in
    let m3 = move_lines ls (token (fixed (sign_mark mark.CloseBrace)) b ∷ rest) m2.more m2.same in
    let m4 = front (fixed (sign_mark mark.CloseBrace)) (whats rest) m3.behind m3.same in
    record { y = defines_function m0.y m1.y m2.at m3.y m4.at; behind = m4.more; split = (m0.split ∙ ap (spell_head m0.y) (m1.split ∙ ap (spell_all spell_contract m1.y) (m2.split ∙ ap (λ (l : List Token). token (fixed (sign_mark mark.OpenBrace)) m2.at ∷ l) (m3.split ∙ ap (spell_lines m3.y) m4.split)))); same = m4.same; alike = ap (λ u. defines_function u (map shape_contract m1.y) nowhere (shape_lines m3.y) nowhere) m0.alike ∙ ap (λ u. defines_function (shape_head h) u nowhere (shape_lines m3.y) nowhere) m1.alike ∙ ap (λ u. defines_function (shape_head h) (map shape_contract cs) nowhere u nowhere) m3.alike }
move_item (defines_predicates o ps e) rest ts eq0 =
    let m0 = front (fixed open_mark) (whats (spell_all spell_predicate ps (token (fixed close_mark) e ∷ rest))) ts eq0 in
    let m1 = move_all spell_predicate shape_predicate move_predicate ps (token (fixed close_mark) e ∷ rest) m0.more m0.same in
    let m2 = front (fixed close_mark) (whats rest) m1.behind m1.same in
    record { y = defines_predicates m0.at m1.y m2.at; behind = m2.more; split = (m0.split ∙ ap (λ (l : List Token). token (fixed open_mark) m0.at ∷ l) (m1.split ∙ ap (spell_all spell_predicate m1.y) m2.split)); same = m2.same; alike = ap (λ u. defines_predicates nowhere u nowhere) m1.alike }

pub move_use : (x : UseText) (rest ts : List Token) → whats ts ≡ whats (spell_use x rest) → Moves spell_use shape_use x rest ts
move_use r rest ts eq0 =
    let m0 = front (fixed use_mark) (whats (token (fixed (sign_mark mark.Less)) r.a ∷ (token (name_what (library_name r.library)) r.n ∷ (token (fixed (sign_mark mark.Greater)) r.b ∷ rest)))) ts eq0 in
    let m1 = front (fixed (sign_mark mark.Less)) (whats (token (name_what (library_name r.library)) r.n ∷ (token (fixed (sign_mark mark.Greater)) r.b ∷ rest))) m0.more m0.same in
    let m2 = front (name_what (library_name r.library)) (whats (token (fixed (sign_mark mark.Greater)) r.b ∷ rest)) m1.more m1.same in
    let m3 = front (fixed (sign_mark mark.Greater)) (whats rest) m2.more m2.same in
    record { y = record { at = m0.at; a = m1.at; n = m2.at; library = r.library; b = m3.at }; behind = m3.more; split = (m0.split ∙ ap (λ (l : List Token). token (fixed use_mark) m0.at ∷ l) (m1.split ∙ ap (λ (l : List Token). token (fixed (sign_mark mark.Less)) m1.at ∷ l) (m2.split ∙ ap (λ (l : List Token). token (name_what (library_name r.library)) m2.at ∷ l) m3.split))); same = m3.same; alike = refl }
