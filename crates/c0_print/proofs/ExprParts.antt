-- Types, expressions and formulas, each a part of a text.
use Rattle.std.proofs.Common.{◌≡◌, ℕ, Bool, true, false, List, [], ◌∷◌, ◌++◌, refl, sym, subst, append_assoc}
use Rattle.std.specs.Prelude.{◌||◌, codes, IsTrue}
use Rattle.gc0_base.specs.declared.place.Place.{Place}
use Rattle.c0_lex.specs.declared.token.Keyword.TheVariants as key
use Rattle.c0_lex.specs.declared.token.Symbol.TheVariants as mark
use Rattle.c0_lex.specs.declared.token.Mode.{Mode}
use Rattle.c0_lex.specs.declared.token.Mode.TheVariants.{InLine}
use Rattle.c0_lex.specs.Bytes.{begins_with}
use Rattle.c0_lex.specs.Words.{keyword_bytes, symbol_bytes, QuotedMeans}
use Rattle.c0_lex.specs.Pieces.{is_inside}
use Rattle.parsed_tree.specs.declared.expressions.UnaryOperator.{UnaryOperator}
use Rattle.parsed_tree.specs.declared.expressions.UnaryOperator.TheVariants as unary_op
use Rattle.c0_grammar.specs.Tokens.{Token, keyword, symbol, name_token}
use Rattle.c0_grammar.specs.Lists.{Each, spell_all}
use Rattle.c0_grammar.specs.Written.{truth_word, unary_symbol, operator_symbol, BaseText, int_word, bool_word, struct_word, alias_word, spell_base, spell_star, TypeText, spell_type, Written, digits, truth_token, null_token, word, result_word, before, between, choice, round, called, called_text, allocated, arrow_to, permission, Args, no_args, some_args, More, no_more, more_and, spell, spell_args, spell_more, FormulaText, unknown, unknown_and, known, spell_formula}
use Rattle.c0_grammar.specs.Allowed.{height}
use Rattle.c0_layout.specs.Lists.{all_text}
use Rattle.c0_layout.specs.Layout.{base_text, star_text, type_text, typed_text, begins_minus, unary_gap, expr_text, args_text, more_text, formula_text}
use Rattle.c0_print.proofs.Longest.{is_equals, is_behind_minus}
use Rattle.c0_print.proofs.Longest as whole
use Rattle.c0_print.proofs.Cutting.{Part, Free, join, then, none, weak}
use Rattle.c0_print.proofs.Legible.{IsName, LegibleBase, LegibleType, Legible, LegibleArgs, LegibleMore, LegibleFormula}
use Rattle.c0_print.proofs.Atoms.{Stops, keyword_part, name_part, gap, sign_before, open_paren, close_paren, comma, question, tilde, arrow, star, spaced_part}
use Rattle.c0_print.proofs.Literals.{number_part, text_part}
use Rattle.c0_print.proofs.Firsts.{begins_other, is_calm, is_operand, calm_behind_minus, operand_no_equals, calm_first, operand_first}

-- a word that is a keyword everywhere
pub always : (m : Mode) → IsTrue (is_inside m || true)
always m = by (is_inside m)
  where
    by : (b : Bool) → (b || true) ≡ true
    by true = refl
    by false = refl

-- ---- one after another
pub all_parts : {A : Type 0} {m : Mode} (f : A → List ℕ) (s : A → List Token → List Token) (P : A → Type 0) → ((x : A) → P x → Part Free m m (f x) (s x)) → (xs : List A) → Each P xs → Part Free m m (all_text f xs) (spell_all s xs)
all_parts f s P one [] h = none
all_parts f s P one (x ∷ xs) h = then (one x h.0) (all_parts f s P one xs h.1)

-- where each begins as the one before it needs
pub all_stop : {A : Type 0} (f : A → List ℕ) → ((x : A) (rest : List ℕ) → Stops (f x ++ rest)) → (xs : List A) (rest : List ℕ) → Stops rest → Stops (all_text f xs ++ rest)
all_stop f front [] rest e = e
all_stop f front (x ∷ xs) rest e = subst Stops (sym (append_assoc (f x) (all_text f xs) rest)) (front x (all_text f xs ++ rest))

pub stop_parts : {A : Type 0} {m : Mode} (f : A → List ℕ) (s : A → List Token → List Token) (P : A → Type 0) → ((x : A) (rest : List ℕ) → Stops (f x ++ rest)) → ((x : A) → P x → Part Stops m m (f x) (s x)) → (xs : List A) → Each P xs → Part Stops m m (all_text f xs) (spell_all s xs)
stop_parts f s P front one [] h = none
stop_parts f s P front one (x ∷ xs) h = join (one x h.0) (stop_parts f s P front one xs h.1) (all_stop f front xs)

-- ---- types
base_part : (m : Mode) (b : BaseText) → LegibleBase (is_inside m) b → Part Stops m m (base_text b) (spell_base b)
base_part m (int_word at) l = keyword_part m key.Int at (always m)
base_part m (bool_word at) l = keyword_part m key.Bool at (always m)
base_part m (struct_word at n name) l = join (keyword_part m key.Struct at (always m)) (then (gap m) (name_part m name n l)) (λ rest e. refl)
base_part m (alias_word at name) l = name_part m name at l

stars_part : (m : Mode) (stars : List Place) → Part Stops m m (all_text star_text stars) (spell_all spell_star stars)
stars_part m [] = none
stars_part m (at ∷ stars) = join (star m at) (stars_part m stars) (all_stop star_text (λ x rest. refl) stars)

pub type_part : (m : Mode) (t : TypeText) → LegibleType (is_inside m) t → Part Stops m m (type_text t) (spell_type t)
type_part m t l = join (base_part m t.base l) (stars_part m t.stars) (all_stop star_text (λ x rest. refl) t.stars)

pub typed_part : (m : Mode) (t : TypeText) (name : List ℕ) (n : Place) → LegibleType (is_inside m) t → IsName (is_inside m) name → Part Stops m m (typed_text t name) (λ ts. spell_type t (name_token name n ∷ ts))
typed_part m t name n l k = join (type_part m t l) (then (gap m) (name_part m name n k)) (λ rest e. refl)

-- ---- unary operators
abbrev pub unary_text : UnaryOperator → Written → List ℕ
unary_text o x = symbol_bytes (unary_symbol o) ++ (unary_gap o (begins_minus x) ++ expr_text x)

negate_part : (m : Mode) (at : Place) (x : Written) (b : Bool) → Legible (is_inside m) x → height x ≡ 0 → begins_minus x ≡ b → Part Stops m m (expr_text x) (spell x)
    → Part Stops m m (codes "-" ++ (unary_gap unary_op.Negate b ++ expr_text x)) (λ ts. symbol mark.Minus at ∷ spell x ts)
negate_part m at x true l h e p =
    join (sign_before (λ rest. begins_with is_behind_minus rest ≡ false) m mark.Minus at (λ rest e. whole.minus rest e) (λ rest e. refl)) (then (gap m) p) (λ rest e. refl)
negate_part m at x false l h e p =
    join (sign_before (λ rest. begins_with is_behind_minus rest ≡ false) m mark.Minus at (λ rest e. whole.minus rest e) (λ rest e. refl)) p
    (λ rest s. begins_other is_calm is_behind_minus calm_behind_minus (expr_text x) rest (calm_first (is_inside m) x l h e))

unary_part : (m : Mode) (at : Place) (o : UnaryOperator) (x : Written) → Legible (is_inside m) x → height x ≡ 0 → Part Stops m m (expr_text x) (spell x) → Part Stops m m (unary_text o x) (λ ts. symbol (unary_symbol o) at ∷ spell x ts)
unary_part m at unary_op.Negate x l h p = negate_part m at x (begins_minus x) l h refl p
unary_part m at unary_op.Not x l h p = then (tilde m at) p
unary_part m at unary_op.Flip x l h p =
    join (sign_before (λ rest. begins_with is_equals rest ≡ false) m mark.Not at (λ rest e. whole.bang rest e) (λ rest e. refl)) p
    (λ rest s. begins_other is_operand is_equals operand_no_equals (expr_text x) rest (operand_first (is_inside m) x l h))

truth_part : (m : Mode) (at : Place) (b : Bool) → Part Stops m m (keyword_bytes (truth_word b)) (λ ts. keyword (truth_word b) at ∷ ts)
truth_part m at true = keyword_part m key.True at (always m)
truth_part m at false = keyword_part m key.False at (always m)

more_stop : (xs : More) (rest : List ℕ) → Stops rest → Stops (more_text xs ++ rest)
more_stop no_more rest e = e
more_stop (more_and at x xs) rest e = refl

-- ---- expressions
module _ (means : QuotedMeans) (m : Mode) where
  mutual
    pub expr_part : (x : Written) → Legible (is_inside m) x → Part Stops m m (expr_text x) (spell x)
    expr_part (digits at w) l = number_part m w at l
    expr_part (truth_token at b) l = truth_part m at b
    expr_part (null_token at) l = keyword_part m key.Null at (always m)
    expr_part (word at n) l = name_part m n at l
    expr_part (result_word at) l = keyword_part m key.Outcome at l
    expr_part (before at o x) l = unary_part m at o x l.0 l.1 (expr_part x l.0)
    expr_part (between x at o y) l = join (expr_part x l.0) (then (spaced_part m (operator_symbol o) at) (expr_part y l.1)) (λ rest e. refl)
    expr_part (choice x q y c z) l =
        join (expr_part x l.0) (then (spaced_part m mark.Question q) (join (expr_part y l.1) (then (spaced_part m mark.Colon c) (expr_part z l.2)) (λ rest e. refl))) (λ rest e. refl)
    expr_part (round a x b) l = weak (then (open_paren m a) (join (expr_part x l) (close_paren m b) (λ rest e. refl)))
    expr_part (called at n a xs b) l = weak (join (name_part m n at l.0) (then (open_paren m a) (join (args_part xs l.1) (close_paren m b) (λ rest e. refl))) (λ rest e. refl))
    expr_part (called_text at n a t bytes b) l = weak (join (name_part m n at l.0) (then (open_paren m a) (then (text_part means m bytes t l.1) (close_paren m b))) (λ rest e. refl))
    expr_part (allocated at a t b) l = weak (join (keyword_part m key.Alloc at (always m)) (then (open_paren m a) (join (type_part m t l) (close_paren m b) (λ rest e. refl))) (λ rest e. refl))
    expr_part (arrow_to x at f n) l = join (expr_part x l.0) (then (arrow m at) (name_part m n f l.1)) (λ rest e. refl)
    expr_part (permission at a x p f n b) l =
        weak
        (join (keyword_part m key.Acc at l.0)
        (then (open_paren m a) (join (expr_part x l.1) (then (arrow m p) (join (name_part m n f l.2) (close_paren m b) (λ rest e. refl))) (λ rest e. refl)))
        (λ rest e. refl))

    pub args_part : (xs : Args) → LegibleArgs (is_inside m) xs → Part Stops m m (args_text xs) (spell_args xs)
    args_part no_args l = none
    args_part (some_args x xs) l = join (expr_part x l.0) (more_part xs l.1) (more_stop xs)

    more_part : (xs : More) → LegibleMore (is_inside m) xs → Part Stops m m (more_text xs) (spell_more xs)
    more_part no_more l = none
    more_part (more_and at x xs) l = then (comma m at) (then (gap m) (join (expr_part x l.0) (more_part xs l.1) (more_stop xs)))

pub formula_part : (means : QuotedMeans) (f : FormulaText) → LegibleFormula f → Part Stops InLine InLine (formula_text f) (spell_formula f)
formula_part means (unknown at) l = weak (question InLine at)
formula_part means (unknown_and at a x) l = then (question InLine at) (then (spaced_part InLine mark.Both a) (expr_part means InLine x l))
formula_part means (known x) l = expr_part means InLine x l
