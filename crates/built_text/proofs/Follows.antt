-- Tokens that are a text of the small grammar are, to the whole grammar, the same text in its forms.
use Rattle.std.proofs.Common.{◌≡◌, ℕ, Bool, true, false, List, [], ◌∷◌, refl, sym, ap, ◌∙◌, subst}
use Rattle.gc0_base.specs.declared.place.Place.{Place}
use Rattle.gc0_base.specs.declared.word.Word.{Word}
use Rattle.c0_lex.specs.declared.token.Token.{Token as LexToken}
use Rattle.c0_lex.specs.declared.token.Symbol.TheVariants as sign
use Rattle.parsed_tree.specs.declared.expressions.Operator.TheVariants as wide_op
use Rattle.c0_grammar.specs.Tokens as seen_as
use Rattle.c0_grammar.specs.Tokens.{What, name_what, number_what, end_mark}
use Rattle.c0_grammar.specs.Seen.{what_of, all_seen}
use Rattle.c0_grammar.specs.Written as wide
use Rattle.built_text.specs.declared.token.Token.{Token}
use Rattle.built_text.specs.declared.token.Kind.TheVariants.{Name, Number, End}
use Rattle.built_text.specs.declared.token.Fixed.{Fixed}
use Rattle.built_text.specs.declared.token.Fixed.TheVariants as mark
use Rattle.built_text.specs.declared.tree.Shape.{Shape}
use Rattle.built_text.specs.declared.tree.Shape.TheVariants as shape
use Rattle.built_text.specs.declared.tree.UnaryOperator.{UnaryOperator}
use Rattle.built_text.specs.declared.tree.UnaryOperator.TheVariants as unary_op
use Rattle.built_text.specs.declared.tree.Operator.{Operator}
use Rattle.built_text.specs.declared.tree.Operator.TheVariants as op
use Rattle.built_text.specs.Tokens.{built, all_built}
use Rattle.built_text.specs.Grammar.{token, fixed, type_word, print_word, truth_mark, unary_mark, operator_mark, Written, digits, truth_word, word, result_word, before, between, round, spell, Chain, no_link, link, spell_chain, Args, no_args, some_args, spell_args, FormulaText, precise, gradual, spell_formula}
use Rattle.built_text.specs.Forms.{is_library}
use Rattle.built_text.proofs.Shows.{fixed_what, Shows, kind_shows}
use Rattle.built_text.proofs.Widened.{unary_of, op_of, written_of, more_of, args_of, joined_of, unknown_of, formula_of, type_of, print_name}

-- what are these tokens to the small grammar are those to the whole one, and P holds
pub record Follows (ss : List Token) (ws : List seen_as.Token) (P : Type 0) : Type 0 where
  pub same : (ts : List LexToken) → all_built ts ≡ ss → (all_seen ts ≡ ws) × P

-- ---- one token
no_token : (s : Token) (ss : List Token) → ◌≡◌ {A = List Token} [] (s ∷ ss) → ⊥
no_token s ss e = cc

same_first : (s t : Token) (ss ts : List Token) → ◌≡◌ {A = List Token} (s ∷ ss) (t ∷ ts) → s ≡ t
same_first s t ss ts e = cc

same_rest : (s t : Token) (ss ts : List Token) → ◌≡◌ {A = List Token} (s ∷ ss) (t ∷ ts) → ss ≡ ts
same_rest s t ss ts e = cc

both_same : (v w : What) (p q : Place) (vs ws : List seen_as.Token) → v ≡ w → p ≡ q → vs ≡ ws → seen_as.token v p ∷ vs ≡ seen_as.token w q ∷ ws
both_same v w p q vs ws d e f = cc

shown : (t : LexToken) (s : Token) → built t ≡ s → Shows s.kind (what_of t.kind t.text.now)
shown t s e = subst (λ k. Shows k (what_of t.kind t.text.now)) (ap (λ s. s.kind) e) (kind_shows t.kind t.text.now)

-- in front of a token that shows what it is
front : {ss : List Token} {ws : List seen_as.Token} {P : Type 0} (s : Token) (w : What) (Q : Type 0) → ((v : What) → Shows s.kind v → (v ≡ w) × Q) → Follows ss ws P → Follows (s ∷ ss) (seen_as.token w s.place ∷ ws) (Q × P)
front {ss = ss} {ws = ws} {P = P} s w Q tells f = record { same = at }
  where
    at : (ts : List LexToken) → all_built ts ≡ s ∷ ss → (all_seen ts ≡ seen_as.token w s.place ∷ ws) × (Q × P)
    at [] e = absurd (no_token s ss e)
    at (t ∷ ts) e =
        let one : built t ≡ s = same_first (built t) s (all_built ts) ss e in
        let told = tells (what_of t.kind t.text.now) (shown t s one) in
        let rest = f.same ts (same_rest (built t) s (all_built ts) ss e) in
        (both_same (what_of t.kind t.text.now) w t.place s.place (all_seen ts) ws told.0 (ap (λ s. s.place) one) rest.0, (told.1, rest.1))

pub telling : {ss : List Token} {ws : List seen_as.Token} {P Q : Type 0} → Follows ss ws P → (P → Q) → Follows ss ws Q
telling f g = record { same = λ ts e. let r = f.same ts e in (r.0, g r.1) }

alone : {ss : List Token} {ws : List seen_as.Token} {P : Type 0} → Follows ss ws (Unit {0} × P) → Follows ss ws P
alone f = telling f (λ r. r.1)

pub known_as : {ss : List Token} {ws : List seen_as.Token} {P : Type 0} (f : Fixed) (at : Place) (w : What) → fixed_what f ≡ w → Follows ss ws P → Follows (fixed f at ∷ ss) (seen_as.token w at ∷ ws) P
known_as f at w e r = alone (front (fixed f at) w (Unit {0}) (λ v i. (i ∙ e, tt)) r)

pub known : {ss : List Token} {ws : List seen_as.Token} {P : Type 0} (f : Fixed) (at : Place) → Follows ss ws P → Follows (fixed f at ∷ ss) (seen_as.token (fixed_what f) at ∷ ws) P
known f at r = known_as f at (fixed_what f) refl r

pub number : {ss : List Token} {ws : List seen_as.Token} {P : Type 0} (n : Word) (at : Place) → Follows ss ws P → Follows (token (Number n) at ∷ ss) (seen_as.number_token n at ∷ ws) P
number n at r = alone (front (token (Number n) at) (number_what n) (Unit {0}) (λ v i. (i, tt)) r)

-- a name is none of the library
pub callee : {ss : List Token} {ws : List seen_as.Token} {P : Type 0} (n : List ℕ) (at : Place) → Follows ss ws P → Follows (token (Name n) at ∷ ss) (seen_as.name_token n at ∷ ws) ((is_library n ≡ false) × P)
callee n at r = front (token (Name n) at) (name_what n) (is_library n ≡ false) (λ v i. (i.0, i.1)) r

pub name : {ss : List Token} {ws : List seen_as.Token} {P : Type 0} (n : List ℕ) (at : Place) → Follows ss ws P → Follows (token (Name n) at ∷ ss) (seen_as.name_token n at ∷ ws) P
name n at r = telling (callee n at r) (λ t. t.1)

no_more_tokens : Follows [] [] (Unit {0})
no_more_tokens = record { same = at }
  where
    at : (ts : List LexToken) → all_built ts ≡ [] → (◌≡◌ {A = List seen_as.Token} (all_seen ts) []) × Unit {0}
    at [] e = (refl, tt)
    at (t ∷ ts) e = absurd (no_token (built t) (all_built ts) (sym e))

pub ending : (at : Place) → Follows (token End at ∷ []) (seen_as.end_token at ∷ []) (Unit {0})
ending at = alone (front (token End at) (seen_as.fixed end_mark) (Unit {0}) (λ v i. (i, tt)) no_more_tokens)

-- ---- expressions
truth_same : (b : Bool) → fixed_what (truth_mark b) ≡ seen_as.fixed (seen_as.word_mark (wide.truth_word b))
truth_same true = refl
truth_same false = refl

unary_same : (o : UnaryOperator) → fixed_what (unary_mark o) ≡ seen_as.fixed (seen_as.sign_mark (wide.unary_symbol (unary_of o)))
unary_same unary_op.Not = refl
unary_same unary_op.Negate = refl

operator_same : (o : Operator) → fixed_what (operator_mark o) ≡ seen_as.fixed (seen_as.sign_mark (wide.operator_symbol (op_of o)))
operator_same op.Mul = refl
operator_same op.Add = refl
operator_same op.Sub = refl
operator_same op.Less = refl
operator_same op.LessEq = refl
operator_same op.Greater = refl
operator_same op.GreaterEq = refl
operator_same op.Equal = refl
operator_same op.NotEqual = refl

pub spelled : {ss : List Token} {ws : List seen_as.Token} {P : Type 0} (x : Written) → Follows ss ws P → Follows (spell x ss) (wide.spell (written_of x) ws) P
spelled (digits at w) r = number w at r
spelled (truth_word at b) r = known_as (truth_mark b) at _ (truth_same b) r
spelled (word at n) r = name n at r
spelled (result_word at) r = known mark.Outcome at r
spelled (before at o x) r = known_as (unary_mark o) at _ (unary_same o) (spelled x r)
spelled (between x at o y) r = spelled x (known_as (operator_mark o) at _ (operator_same o) (spelled y r))
spelled (round a x b) r = known mark.Open a (spelled x (known mark.Close b r))

more_spelled : {ss : List Token} {ws : List seen_as.Token} {P : Type 0} (xs : Chain) → Follows ss ws P → Follows (spell_chain mark.Comma xs ss) (wide.spell_more (more_of xs) ws) P
more_spelled no_link r = r
more_spelled (link at x xs) r = known mark.Comma at (spelled x (more_spelled xs r))

pub args_spelled : {ss : List Token} {ws : List seen_as.Token} {P : Type 0} (xs : Args) → Follows ss ws P → Follows (spell_args xs ss) (wide.spell_args (args_of xs) ws) P
args_spelled no_args r = r
args_spelled (some_args x xs) r = spelled x (more_spelled xs r)

-- parts and the `&&` before each, in front of others
abbrev links : Chain → List seen_as.Token → List seen_as.Token
links no_link ws = ws
links (link at x xs) ws = seen_as.symbol sign.Both at ∷ wide.spell (written_of x) (links xs ws)

links_spelled : {ss : List Token} {ws : List seen_as.Token} {P : Type 0} (xs : Chain) → Follows ss ws P → Follows (spell_chain mark.And xs ss) (links xs ws) P
links_spelled no_link r = r
links_spelled (link at x xs) r = known mark.And at (spelled x (links_spelled xs r))

joined_links : (x : wide.Written) (xs : Chain) (ws : List seen_as.Token) → wide.spell x (links xs ws) ≡ wide.spell (joined_of x xs) ws
joined_links x no_link ws = refl
joined_links x (link at y ys) ws = joined_links (wide.between x at wide_op.Both (written_of y)) ys ws

along : {ss : List Token} {vs ws : List seen_as.Token} {P : Type 0} → vs ≡ ws → Follows ss vs P → Follows ss ws P
along {ss = ss} {P = P} e f = subst (λ l. Follows ss l P) e f

joined_spelled : {ss : List Token} {ws : List seen_as.Token} {P : Type 0} (x : Written) (xs : Chain) → Follows ss ws P → Follows (spell x (spell_chain mark.And xs ss)) (wide.spell (joined_of (written_of x) xs) ws) P
joined_spelled {ws = ws} x xs r = along (joined_links (written_of x) xs ws) (spelled x (links_spelled xs r))

unknown_spelled : {ss : List Token} {ws : List seen_as.Token} {P : Type 0} (at : Place) (xs : Chain) → Follows ss ws P → Follows (fixed mark.Question at ∷ spell_chain mark.And xs ss) (wide.spell_formula (unknown_of at xs) ws) P
unknown_spelled at no_link r = known mark.Question at r
unknown_spelled at (link a x xs) r = known mark.Question at (known mark.And a (joined_spelled x xs r))

pub formula_spelled : {ss : List Token} {ws : List seen_as.Token} {P : Type 0} (f : FormulaText) → Follows ss ws P → Follows (spell_formula f ss) (wide.spell_formula (formula_of f) ws) P
formula_spelled (precise x xs) r = joined_spelled x xs r
formula_spelled (gradual at xs) r = unknown_spelled at xs r

-- ---- words of a type, and of what prints
pub type_spelled : {ss : List Token} {ws : List seen_as.Token} {P : Type 0} (at : Place) (s : Shape) → Follows ss ws P → Follows (fixed (type_word s) at ∷ ss) (wide.spell_type (type_of at s) ws) P
type_spelled at shape.Int r = known mark.Int at r
type_spelled at shape.Bool r = known mark.Bool at r

pub print_same : (s : Shape) → fixed_what (print_word s) ≡ name_what (print_name s)
print_same shape.Int = refl
print_same shape.Bool = refl
