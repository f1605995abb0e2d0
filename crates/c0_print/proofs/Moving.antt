-- Tokens of the same kinds are the same expression, standing elsewhere.
use Rattle.std.proofs.Common.{◌≡◌, List, [], ◌∷◌, map, Option, Some, None, refl, ap, ◌∙◌}
use Rattle.gc0_base.specs.declared.place.Place.{Place}
use Rattle.c0_lex.specs.declared.token.Keyword.TheVariants as key
use Rattle.c0_lex.specs.declared.token.Symbol.TheVariants as mark
use Rattle.c0_grammar.specs.Tokens.{word_mark, sign_mark, use_mark, open_mark, close_mark, end_mark, What, fixed, name_what, number_what, text_what, Token, token, end_token}
use Rattle.c0_grammar.specs.Lists.{spell_all}
use Rattle.c0_grammar.specs.Written.{truth_word, unary_symbol, operator_symbol, BaseText, int_word, bool_word, struct_word, alias_word, TypeText, spell_base, spell_star, spell_type, Written, digits, truth_token, null_token, word, result_word, before, between, choice, round, called, called_text, allocated, arrow_to, permission, Args, no_args, some_args, More, no_more, more_and, spell, spell_args, spell_more, FormulaText, unknown, unknown_and, known, spell_formula}
use Rattle.c0_grammar.specs.Texts.{spell_option, tree_option}
use Rattle.c0_layout.specs.Rounding.{nowhere}
use Rattle.c0_print.proofs.Shapes.{shape_star, shape_base, shape_type, shape_expr, shape_args, shape_more, shape_formula}
use Rattle.c0_print.specs.Laws.{whats}

-- a first token of this kind, and what stands behind it
pub record Front (w : What) (l : List What) (ts : List Token) : Type 0 where
  pub at : Place
  pub more : List Token
  pub split : ts ≡ token w at ∷ more
  pub same : whats more ≡ l

pub front : (w : What) (l : List What) (ts : List Token) → whats ts ≡ w ∷ l → Front w l ts
front w l [] h = let n : ⊥ = cc in absurd n
front w l (t ∷ ts) h =
    let e : t.what ≡ w = cc in
    record { at = t.place; more = ts; split = ap (λ v. token v t.place ∷ ts) e; same = cc }

-- the tokens begin with something of the same shape
pub record Moves {A : Type 0} (f : A → List Token → List Token) (s : A → A) (x : A) (rest ts : List Token) : Type 0 where
  pub y : A
  pub behind : List Token
  pub split : ts ≡ f y behind
  pub same : whats behind ≡ whats rest
  pub alike : s y ≡ s x

pub move_all : {A : Type 0} (f : A → List Token → List Token) (s : A → A) → ((x : A) (rest ts : List Token) → whats ts ≡ whats (f x rest) → Moves f s x rest ts)
    → (xs : List A) (rest ts : List Token) → whats ts ≡ whats (spell_all f xs rest) → Moves (spell_all f) (map s) xs rest ts
move_all f s one [] rest ts eq0 = record { y = []; behind = ts; split = refl; same = eq0; alike = refl }
move_all f s one (x ∷ xs) rest ts eq0 =
    let a = one x (spell_all f xs rest) ts eq0 in
    let b = move_all f s one xs rest a.behind a.same in
    record { y = a.y ∷ b.y; behind = b.behind; split = a.split ∙ ap (f a.y) b.split; same = b.same; alike = ap (λ u. u ∷ map s b.y) a.alike ∙ ap (λ us. s x ∷ us) b.alike }

pub move_option : {A : Type 0} (f : A → List Token → List Token) (s : A → A) → ((x : A) (rest ts : List Token) → whats ts ≡ whats (f x rest) → Moves f s x rest ts)
    → (x : Option A) (rest ts : List Token) → whats ts ≡ whats (spell_option f x rest) → Moves (spell_option f) (tree_option s) x rest ts
move_option f s one None rest ts eq0 = record { y = None; behind = ts; split = refl; same = eq0; alike = refl }
move_option f s one (Some x) rest ts eq0 =
    let a = one x rest ts eq0 in
    record { y = Some a.y; behind = a.behind; split = a.split; same = a.same; alike = ap Some a.alike }

pub move_star : (x : Place) (rest ts : List Token) → whats ts ≡ whats (spell_star x rest) → Moves spell_star shape_star x rest ts
move_star x rest ts eq0 =
    let m = front (fixed (sign_mark mark.Star)) (whats rest) ts eq0 in
    record { y = m.at; behind = m.more; split = m.split; same = m.same; alike = refl }

pub move_base : (x : BaseText) (rest ts : List Token) → whats ts ≡ whats (spell_base x rest) → Moves spell_base shape_base x rest ts
move_base (int_word at) rest ts eq0 =
    let m0 = front (fixed (word_mark key.Int)) (whats rest) ts eq0 in
    record { y = int_word m0.at; behind = m0.more; split = m0.split; same = m0.same; alike = refl }
move_base (bool_word at) rest ts eq0 =
    let m0 = front (fixed (word_mark key.Bool)) (whats rest) ts eq0 in
    record { y = bool_word m0.at; behind = m0.more; split = m0.split; same = m0.same; alike = refl }
move_base (struct_word at n name) rest ts eq0 =
    let m0 = front (fixed (word_mark key.Struct)) (whats (token (name_what name) n ∷ rest)) ts eq0 in
    let m1 = front (name_what name) (whats rest) m0.more m0.same in
    record { y = struct_word m0.at m1.at name; behind = m1.more; split = (m0.split ∙ ap (λ (l : List Token). token (fixed (word_mark key.Struct)) m0.at ∷ l) m1.split); same = m1.same; alike = refl }
move_base (alias_word at name) rest ts eq0 =
    let m0 = front (name_what name) (whats rest) ts eq0 in
    record { y = alias_word m0.at name; behind = m0.more; split = m0.split; same = m0.same; alike = refl }

pub move_type : (x : TypeText) (rest ts : List Token) → whats ts ≡ whats (spell_type x rest) → Moves spell_type shape_type x rest ts
move_type r rest ts eq0 =
    let m0 = move_base r.base (spell_all spell_star r.stars rest) ts eq0 in
    let m1 = move_all spell_star shape_star move_star r.stars rest m0.behind m0.same in
    record { y = record { base = m0.y; stars = m1.y }; behind = m1.behind; split = (m0.split ∙ ap (spell_base m0.y) m1.split); same = m1.same; alike = ap (λ u. let s : TypeText = record { base = u; stars = (map shape_star m1.y) } in s) m0.alike ∙ ap (λ u. let s : TypeText = record { base = (shape_base r.base); stars = u } in s) m1.alike }

mutual
  pub move_expr : (x : Written) (rest ts : List Token) → whats ts ≡ whats (spell x rest) → Moves spell shape_expr x rest ts
  move_expr (digits at w) rest ts eq0 =
      let m0 = front (number_what w) (whats rest) ts eq0 in
      record { y = digits m0.at w; behind = m0.more; split = m0.split; same = m0.same; alike = refl }
  move_expr (truth_token at b) rest ts eq0 =
      let m0 = front (fixed (word_mark (truth_word b))) (whats rest) ts eq0 in
      record { y = truth_token m0.at b; behind = m0.more; split = m0.split; same = m0.same; alike = refl }
  move_expr (null_token at) rest ts eq0 =
      let m0 = front (fixed (word_mark key.Null)) (whats rest) ts eq0 in
      record { y = null_token m0.at; behind = m0.more; split = m0.split; same = m0.same; alike = refl }
  move_expr (word at n) rest ts eq0 =
      let m0 = front (name_what n) (whats rest) ts eq0 in
      record { y = word m0.at n; behind = m0.more; split = m0.split; same = m0.same; alike = refl }
  move_expr (result_word at) rest ts eq0 =
      let m0 = front (fixed (word_mark key.Outcome)) (whats rest) ts eq0 in
      record { y = result_word m0.at; behind = m0.more; split = m0.split; same = m0.same; alike = refl }
  move_expr (before at o x) rest ts eq0 =
      let m0 = front (fixed (sign_mark (unary_symbol o))) (whats (spell x rest)) ts eq0 in
      let m1 = move_expr x rest m0.more m0.same in
      record { y = before m0.at o m1.y; behind = m1.behind; split = (m0.split ∙ ap (λ (l : List Token). token (fixed (sign_mark (unary_symbol o))) m0.at ∷ l) m1.split); same = m1.same; alike = ap (λ u. before nowhere o u) m1.alike }
  move_expr (between x at o y) rest ts eq0 =
      let m0 = move_expr x (token (fixed (sign_mark (operator_symbol o))) at ∷ (spell y rest)) ts eq0 in
      let m1 = front (fixed (sign_mark (operator_symbol o))) (whats (spell y rest)) m0.behind m0.same in
      let m2 = move_expr y rest m1.more m1.same in
      record { y = between m0.y m1.at o m2.y; behind = m2.behind; split = (m0.split ∙ ap (spell m0.y) (m1.split ∙ ap (λ (l : List Token). token (fixed (sign_mark (operator_symbol o))) m1.at ∷ l) m2.split)); same = m2.same; alike = ap (λ u. between u nowhere o (shape_expr m2.y)) m0.alike ∙ ap (λ u. between (shape_expr x) nowhere o u) m2.alike }
  move_expr (choice x q y c z) rest ts eq0 =
      let m0 = move_expr x (token (fixed (sign_mark mark.Question)) q ∷ (spell y (token (fixed (sign_mark mark.Colon)) c ∷ (spell z rest)))) ts eq0 in
      let m1 = front (fixed (sign_mark mark.Question)) (whats (spell y (token (fixed (sign_mark mark.Colon)) c ∷ (spell z rest)))) m0.behind m0.same in
      let m2 = move_expr y (token (fixed (sign_mark mark.Colon)) c ∷ (spell z rest)) m1.more m1.same in
      let m3 = front (fixed (sign_mark mark.Colon)) (whats (spell z rest)) m2.behind m2.same in
      let m4 = move_expr z rest m3.more m3.same in
      record { y = choice m0.y m1.at m2.y m3.at m4.y; behind = m4.behind; split = (m0.split ∙ ap (spell m0.y) (m1.split ∙ ap (λ (l : List Token). token (fixed (sign_mark mark.Question)) m1.at ∷ l) (m2.split ∙ ap (spell m2.y) (m3.split ∙ ap (λ (l : List Token). token (fixed (sign_mark mark.Colon)) m3.at ∷ l) m4.split)))); same = m4.same; alike = ap (λ u. choice u nowhere (shape_expr m2.y) nowhere (shape_expr m4.y)) m0.alike ∙ ap (λ u. choice (shape_expr x) nowhere u nowhere (shape_expr m4.y)) m2.alike ∙ ap (λ u. choice (shape_expr x) nowhere (shape_expr y) nowhere u) m4.alike }
  move_expr (round a x b) rest ts eq0 =
      let m0 = front (fixed (sign_mark mark.OpenParen)) (whats (spell x (token (fixed (sign_mark mark.CloseParen)) b ∷ rest))) ts eq0 in
      let m1 = move_expr x (token (fixed (sign_mark mark.CloseParen)) b ∷ rest) m0.more m0.same in
      let m2 = front (fixed (sign_mark mark.CloseParen)) (whats rest) m1.behind m1.same in
      record { y = round m0.at m1.y m2.at; behind = m2.more; split = (m0.split ∙ ap (λ (l : List Token). token (fixed (sign_mark mark.OpenParen)) m0.at ∷ l) (m1.split ∙ ap (spell m1.y) m2.split)); same = m2.same; alike = ap (λ u. round nowhere u nowhere) m1.alike }
  move_expr (called at n a xs b) rest ts eq0 =
      let m0 = front (name_what n) (whats (token (fixed (sign_mark mark.OpenParen)) a ∷ (spell_args xs (token (fixed (sign_mark mark.CloseParen)) b ∷ rest)))) ts eq0 in
      let m1 = front (fixed (sign_mark mark.OpenParen)) (whats (spell_args xs (token (fixed (sign_mark mark.CloseParen)) b ∷ rest))) m0.more m0.same in
      let m2 = move_args xs (token (fixed (sign_mark mark.CloseParen)) b ∷ rest) m1.more m1.same in
      let m3 = front (fixed (sign_mark mark.CloseParen)) (whats rest) m2.behind m2.same in
      record { y = called m0.at n m1.at m2.y m3.at; behind = m3.more; split = (m0.split ∙ ap (λ (l : List Token). token (name_what n) m0.at ∷ l) (m1.split ∙ ap (λ (l : List Token). token (fixed (sign_mark mark.OpenParen)) m1.at ∷ l) (m2.split ∙ ap (spell_args m2.y) m3.split))); same = m3.same; alike = ap (λ u. called nowhere n nowhere u nowhere) m2.alike }
  move_expr (called_text at n a t bytes b) rest ts eq0 =
      let m0 = front (name_what n) (whats (token (fixed (sign_mark mark.OpenParen)) a ∷ (token (text_what bytes) t ∷ (token (fixed (sign_mark mark.CloseParen)) b ∷ rest)))) ts eq0 in
      let m1 = front (fixed (sign_mark mark.OpenParen)) (whats (token (text_what bytes) t ∷ (token (fixed (sign_mark mark.CloseParen)) b ∷ rest))) m0.more m0.same in
      let m2 = front (text_what bytes) (whats (token (fixed (sign_mark mark.CloseParen)) b ∷ rest)) m1.more m1.same in
      let m3 = front (fixed (sign_mark mark.CloseParen)) (whats rest) m2.more m2.same in
      record { y = called_text m0.at n m1.at m2.at bytes m3.at; behind = m3.more; split = (m0.split ∙ ap (λ (l : List Token). token (name_what n) m0.at ∷ l) (m1.split ∙ ap (λ (l : List Token). token (fixed (sign_mark mark.OpenParen)) m1.at ∷ l) (m2.split ∙ ap (λ (l : List Token). token (text_what bytes) m2.at ∷ l) m3.split))); same = m3.same; alike = refl }
  move_expr (allocated at a t b) rest ts eq0 =
      let m0 = front (fixed (word_mark key.Alloc)) (whats (token (fixed (sign_mark mark.OpenParen)) a ∷ (spell_type t (token (fixed (sign_mark mark.CloseParen)) b ∷ rest)))) ts eq0 in
      let m1 = front (fixed (sign_mark mark.OpenParen)) (whats (spell_type t (token (fixed (sign_mark mark.CloseParen)) b ∷ rest))) m0.more m0.same in
      let m2 = move_type t (token (fixed (sign_mark mark.CloseParen)) b ∷ rest) m1.more m1.same in
      let m3 = front (fixed (sign_mark mark.CloseParen)) (whats rest) m2.behind m2.same in
      record { y = allocated m0.at m1.at m2.y m3.at; behind = m3.more; split = (m0.split ∙ ap (λ (l : List Token). token (fixed (word_mark key.Alloc)) m0.at ∷ l) (m1.split ∙ ap (λ (l : List Token). token (fixed (sign_mark mark.OpenParen)) m1.at ∷ l) (m2.split ∙ ap (spell_type m2.y) m3.split))); same = m3.same; alike = ap (λ u. allocated nowhere nowhere u nowhere) m2.alike }
  move_expr (arrow_to x at f n) rest ts eq0 =
      let m0 = move_expr x (token (fixed (sign_mark mark.Arrow)) at ∷ (token (name_what n) f ∷ rest)) ts eq0 in
      let m1 = front (fixed (sign_mark mark.Arrow)) (whats (token (name_what n) f ∷ rest)) m0.behind m0.same in
      let m2 = front (name_what n) (whats rest) m1.more m1.same in
      record { y = arrow_to m0.y m1.at m2.at n; behind = m2.more; split = (m0.split ∙ ap (spell m0.y) (m1.split ∙ ap (λ (l : List Token). token (fixed (sign_mark mark.Arrow)) m1.at ∷ l) m2.split)); same = m2.same; alike = ap (λ u. arrow_to u nowhere nowhere n) m0.alike }
  move_expr (permission at a x p f n b) rest ts eq0 =
      let m0 = front (fixed (word_mark key.Acc)) (whats (token (fixed (sign_mark mark.OpenParen)) a ∷ (spell x (token (fixed (sign_mark mark.Arrow)) p ∷ (token (name_what n) f ∷ (token (fixed (sign_mark mark.CloseParen)) b ∷ rest)))))) ts eq0 in
      let m1 = front (fixed (sign_mark mark.OpenParen)) (whats (spell x (token (fixed (sign_mark mark.Arrow)) p ∷ (token (name_what n) f ∷ (token (fixed (sign_mark mark.CloseParen)) b ∷ rest))))) m0.more m0.same in
      let m2 = move_expr x (token (fixed (sign_mark mark.Arrow)) p ∷ (token (name_what n) f ∷ (token (fixed (sign_mark mark.CloseParen)) b ∷ rest))) m1.more m1.same in
      let m3 = front (fixed (sign_mark mark.Arrow)) (whats (token (name_what n) f ∷ (token (fixed (sign_mark mark.CloseParen)) b ∷ rest))) m2.behind m2.same in
      let m4 = front (name_what n) (whats (token (fixed (sign_mark mark.CloseParen)) b ∷ rest)) m3.more m3.same in
      let m5 = front (fixed (sign_mark mark.CloseParen)) (whats rest) m4.more m4.same in
      record { y = permission m0.at m1.at m2.y m3.at m4.at n m5.at; behind = m5.more; split = (m0.split ∙ ap (λ (l : List Token). token (fixed (word_mark key.Acc)) m0.at ∷ l) (m1.split ∙ ap (λ (l : List Token). token (fixed (sign_mark mark.OpenParen)) m1.at ∷ l) (m2.split ∙ ap (spell m2.y) (m3.split ∙ ap (λ (l : List Token). token (fixed (sign_mark mark.Arrow)) m3.at ∷ l) (m4.split ∙ ap (λ (l : List Token). token (name_what n) m4.at ∷ l) m5.split))))); same = m5.same; alike = ap (λ u. permission nowhere nowhere u nowhere nowhere n nowhere) m2.alike }

  pub move_args : (x : Args) (rest ts : List Token) → whats ts ≡ whats (spell_args x rest) → Moves spell_args shape_args x rest ts
  move_args no_args rest ts eq0 =
      record { y = no_args; behind = ts; split = refl; same = eq0; alike = refl }
  move_args (some_args x xs) rest ts eq0 =
      let m0 = move_expr x (spell_more xs rest) ts eq0 in
      let m1 = move_more xs rest m0.behind m0.same in
      record { y = some_args m0.y m1.y; behind = m1.behind; split = (m0.split ∙ ap (spell m0.y) m1.split); same = m1.same; alike = ap (λ u. some_args u (shape_more m1.y)) m0.alike ∙ ap (λ u. some_args (shape_expr x) u) m1.alike }

  pub move_more : (x : More) (rest ts : List Token) → whats ts ≡ whats (spell_more x rest) → Moves spell_more shape_more x rest ts
  move_more no_more rest ts eq0 =
      record { y = no_more; behind = ts; split = refl; same = eq0; alike = refl }
  move_more (more_and at x xs) rest ts eq0 =
      let m0 = front (fixed (sign_mark mark.Comma)) (whats (spell x (spell_more xs rest))) ts eq0 in
      let m1 = move_expr x (spell_more xs rest) m0.more m0.same in
      let m2 = move_more xs rest m1.behind m1.same in
      record { y = more_and m0.at m1.y m2.y; behind = m2.behind; split = (m0.split ∙ ap (λ (l : List Token). token (fixed (sign_mark mark.Comma)) m0.at ∷ l) (m1.split ∙ ap (spell m1.y) m2.split)); same = m2.same; alike = ap (λ u. more_and nowhere u (shape_more m2.y)) m1.alike ∙ ap (λ u. more_and nowhere (shape_expr x) u) m2.alike }

pub move_formula : (x : FormulaText) (rest ts : List Token) → whats ts ≡ whats (spell_formula x rest) → Moves spell_formula shape_formula x rest ts
move_formula (unknown at) rest ts eq0 =
    let m0 = front (fixed (sign_mark mark.Question)) (whats rest) ts eq0 in
    record { y = unknown m0.at; behind = m0.more; split = m0.split; same = m0.same; alike = refl }
move_formula (unknown_and at a x) rest ts eq0 =
    let m0 = front (fixed (sign_mark mark.Question)) (whats (token (fixed (sign_mark mark.Both)) a ∷ (spell x rest))) ts eq0 in
    let m1 = front (fixed (sign_mark mark.Both)) (whats (spell x rest)) m0.more m0.same in
    let m2 = move_expr x rest m1.more m1.same in
    record { y = unknown_and m0.at m1.at m2.y; behind = m2.behind; split = (m0.split ∙ ap (λ (l : List Token). token (fixed (sign_mark mark.Question)) m0.at ∷ l) (m1.split ∙ ap (λ (l : List Token). token (fixed (sign_mark mark.Both)) m1.at ∷ l) m2.split)); same = m2.same; alike = ap (λ u. unknown_and nowhere nowhere u) m2.alike }
move_formula (known x) rest ts eq0 =
    let m0 = move_expr x rest ts eq0 in
    record { y = known m0.y; behind = m0.behind; split = m0.split; same = m0.same; alike = ap (λ u. known u) m0.alike }
