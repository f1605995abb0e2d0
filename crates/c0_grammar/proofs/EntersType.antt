-- What the grammar spells for a type, a plan reads.
use Rattle.std.proofs.Common.{◌≡◌, ℕ, List, [], ◌∷◌, length, refl, ap, ◌∙◌, zero-le, max}
use Rattle.gc0_base.specs.declared.place.Place.{Place}
use Rattle.c0_lex.specs.declared.token.Keyword.TheVariants as key
use Rattle.parsed_tree.specs.declared.expressions.Base.{Base}
use Rattle.parsed_tree.specs.declared.expressions.Base.TheVariants as base
use Rattle.parsed_tree.specs.declared.expressions.TypeName.{TypeName}
use Rattle.c0_grammar.specs.Tokens.{word_mark, What, fixed, name_what, Token, token, name_token}
use Rattle.c0_grammar.specs.Lists.{spell_all, depth_all}
use Rattle.c0_grammar.specs.Written.{BaseText, int_word, bool_word, struct_word, alias_word, TypeText, spell_base, spell_star, spell_type, named_at, base_place, base_tree, type_tree}
use Rattle.c0_grammar.specs.Allowed.{GoodBase, GoodType}
use Rattle.c0_grammar.specs.Plan.{Plan, peek, alias, many, star_loop, expect, stars, struct_type, typed, type_step, node, step_if, run}
use Rattle.c0_grammar.proofs.EntersTokens.{first, pass_on, eat_on, take_on, skip, eat_any_name, take_alias, EndsList, fall_many}

star_list : (limit : ℕ) (next : List Place → ℕ → Plan) (ps : List Place) (rest : List Token) → EndsList star_loop (first rest) → run limit (many star_loop next) (spell_all spell_star ps rest) ≡ run limit (next ps (depth_all (λ p. 0) ps)) rest
star_list limit next [] rest h = fall_many limit star_loop next rest h
star_list limit next (p ∷ ps) rest h =
    pass_on limit (many star_loop (λ xs d. next (p ∷ xs) (max 0 d))) p (spell_all spell_star ps rest)
    ∙ star_list limit (λ xs d. next (p ∷ xs) (max 0 d)) ps rest h

pub stars_enter : (limit : ℕ) (at : Place) (b : Base) (next : TypeName → Plan) (ps : List Place) (rest : List Token) → EndsList star_loop (first rest) → run limit (stars at b next) (spell_all spell_star ps rest) ≡ run limit (next (record { place = at; base = b; stars = length ps })) rest
stars_enter limit at b next ps rest h = star_list limit (λ xs d. next (record { place = at; base = b; stars = length xs })) ps rest h

-- ---- a type by its first token
abbrev pub base_first : BaseText → What
base_first (int_word at) = fixed (word_mark key.Int)
base_first (bool_word at) = fixed (word_mark key.Bool)
base_first (struct_word at n name) = fixed (word_mark key.Struct)
base_first (alias_word at name) = name_what name

-- the tokens behind it
abbrev pub base_more : BaseText → List Token → List Token
base_more (int_word at) rest = rest
base_more (bool_word at) rest = rest
base_more (struct_word at n name) rest = name_token name n ∷ rest
base_more (alias_word at name) rest = rest

abbrev pub behind_base : BaseText → (TypeName → Plan) → Plan
behind_base (int_word at) next = stars at base.Int next
behind_base (bool_word at) next = stars at base.Bool next
behind_base (struct_word at n name) next = struct_type next at
behind_base (alias_word at name) next = stars at (base.Alias name) next

pub base_split : (b : BaseText) (rest : List Token) → spell_base b rest ≡ token (base_first b) (base_place b) ∷ base_more b rest
base_split (int_word at) rest = refl
base_split (bool_word at) rest = refl
base_split (struct_word at n name) rest = refl
base_split (alias_word at name) rest = refl

pub type_at : (names : List (List ℕ)) (reach : ℕ) (next : TypeName → Plan) (b : BaseText) → GoodBase names b → type_step names reach next (base_first b) (base_place b) ≡ node reach (behind_base b next)
type_at names reach next (int_word at) g = refl
type_at names reach next (bool_word at) g = refl
type_at names reach next (struct_word at n name) g = refl
type_at names reach next (alias_word at name) g = ap (λ b. step_if b (node reach (stars at (base.Alias name) next))) g

pub base_enters : (limit : ℕ) (next : TypeName → Plan) (t : TypeText) (rest : List Token) → EndsList star_loop (first rest) → run limit (behind_base t.base next) (base_more t.base (spell_all spell_star t.stars rest)) ≡ run limit (next (type_tree t)) rest
base_enters limit next t rest h = by t.base
  where
    by : (b : BaseText) → run limit (behind_base b next) (base_more b (spell_all spell_star t.stars rest)) ≡ run limit (next (record { place = base_place b; base = base_tree b; stars = length t.stars })) rest
    by (int_word at) = stars_enter limit at base.Int next t.stars rest h
    by (bool_word at) = stars_enter limit at base.Bool next t.stars rest h
    by (struct_word at n name) =
        eat_any_name limit (λ m. stars at (base.Struct m) next) name n (spell_all spell_star t.stars rest)
        ∙ stars_enter limit at (base.Struct (named_at n name)) next t.stars rest h
    by (alias_word at name) = stars_enter limit at (base.Alias name) next t.stars rest h

abbrev int_plan : (TypeName → Plan) → Plan
int_plan next = expect (word_mark key.Int) (λ at. stars at base.Int next)

abbrev alias_plan : List (List ℕ) → (TypeName → Plan) → Plan
alias_plan names next = alias 0 names (λ at n. stars at (base.Alias n) next) (int_plan next)

abbrev other_plan : List (List ℕ) → (TypeName → Plan) → Plan
other_plan names next = peek 0 (word_mark key.Struct) (struct_type next) (alias_plan names next)

-- a type where one must stand
pub typed_enters : (limit : ℕ) (names : List (List ℕ)) (next : TypeName → Plan) (t : TypeText) (rest : List Token) → GoodType names t → EndsList star_loop (first rest) → run limit (typed names next) (spell_type t rest) ≡ run limit (next (type_tree t)) rest
typed_enters limit names next t rest g h = begun t.base g ∙ base_enters limit next t rest h
  where
    more : List Token
    more = spell_all spell_star t.stars rest

    begun : (b : BaseText) → GoodBase names b → run limit (typed names next) (spell_base b more) ≡ run limit (behind_base b next) (base_more b more)
    begun (int_word at) i =
        skip limit 0 (word_mark key.Bool) (λ at. stars at base.Bool next) (other_plan names next) (spell_base (int_word at) more) refl
        ∙ skip limit 0 (word_mark key.Struct) (struct_type next) (alias_plan names next) (spell_base (int_word at) more) refl
        ∙ eat_on limit (word_mark key.Int) (λ at. stars at base.Int next) at more
    begun (bool_word at) i = take_on limit (word_mark key.Bool) (λ at. stars at base.Bool next) (other_plan names next) at more
    begun (struct_word at n name) i =
        skip limit 0 (word_mark key.Bool) (λ at. stars at base.Bool next) (other_plan names next) (spell_base (struct_word at n name) more) refl
        ∙ take_on limit (word_mark key.Struct) (struct_type next) (alias_plan names next) at (name_token name n ∷ more)
    begun (alias_word at name) i =
        skip limit 0 (word_mark key.Bool) (λ at. stars at base.Bool next) (other_plan names next) (spell_base (alias_word at name) more) refl
        ∙ skip limit 0 (word_mark key.Struct) (struct_type next) (alias_plan names next) (spell_base (alias_word at name) more) refl
        ∙ take_alias limit 0 names (λ at n. stars at (base.Alias n) next) (int_plan next) name at more zero-le i
