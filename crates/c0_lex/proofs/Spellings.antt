-- What the tables of keywords and symbols say.
use Rattle.std.proofs.Common.{◌≡◌, ◌<◌, ℕ, Bool, true, false, List, [], ◌∷◌, ◌++◌, length, Some, sym, refl, ap, ◌∙◌, cond, lit<}
use Rattle.std.specs.Prelude.{◌||◌, not}
use Rattle.std.specs.List.{list_all}
use Rattle.std.specs.Str.{bytes_eq}
use Rattle.std.proofs.lemmas.Bool.{and_parts}
use Rattle.std.proofs.lemmas.Slice.Eq.{bytes_eq-Decides}
use Rattle.gc0_base.specs.declared.place.Place.{Place}
use Rattle.c0_lex.specs.declared.token.Keyword.{Keyword}
use Rattle.c0_lex.specs.declared.token.Keyword.TheVariants as word
use Rattle.c0_lex.specs.declared.token.Symbol.{Symbol}
use Rattle.c0_lex.specs.declared.token.Symbol.TheVariants as sign
use Rattle.c0_lex.specs.declared.token.TokenKind.TheVariants as kind
use Rattle.c0_lex.specs.declared.token.Mode.{Mode}
use Rattle.c0_lex.specs.Bytes.{is_at_sign, begins_with}
use Rattle.c0_lex.specs.Words.{keyword_bytes, is_annotation_word, symbol_bytes}
use Rattle.c0_lex.specs.Pieces.{is_identifier, begins_comment}
use Rattle.c0_lex.specs.Scan.{keyword_among, word_kind, symbol_among, singles, pairs, triples, front, comment_front, symbol_front}

-- ---- Keywords
pub among_is : (ks : List Keyword) (bytes : List ℕ) (k : Keyword) → keyword_among ks bytes ≡ Some k → bytes ≡ keyword_bytes k
among_is [] bytes k e = cc
among_is (q ∷ ks) bytes k e =
    elim (bytes_eq bytes (keyword_bytes q)) as (λ t. bytes_eq bytes (keyword_bytes q) ≡ t → cond t (Some q) (keyword_among ks bytes) ≡ Some k → bytes ≡ keyword_bytes k) [
      | true ↦ λ same found. let this : q ≡ k = cc in (bytes_eq-Decides bytes (keyword_bytes q)).0 same ∙ ap keyword_bytes this
      | false ↦ λ same found. among_is ks bytes k found
    ] refl e

pub among_all : (p : Keyword → Bool) (ks : List Keyword) (bytes : List ℕ) (k : Keyword) → list_all p ks ≡ true → keyword_among ks bytes ≡ Some k → p k ≡ true
among_all p [] bytes k h e = cc
among_all p (q ∷ ks) bytes k h e =
    let both = and_parts (p q) (list_all p ks) h in
    elim (bytes_eq bytes (keyword_bytes q)) as (λ t. cond t (Some q) (keyword_among ks bytes) ≡ Some k → p k ≡ true) [
      | true ↦ λ found. let this : q ≡ k = cc in ap p (sym this) ∙ both.0
      | false ↦ λ found. among_all p ks bytes k both.1 found
    ] e

-- `\result`, which is no word of letters
abbrev pub is_outcome : Keyword → Bool
is_outcome word.Outcome = true
is_outcome k = false

pub keyword_shape : (k : Keyword) → is_outcome k ≡ false → is_identifier (keyword_bytes k) ≡ true
keyword_shape word.Int e = refl
keyword_shape word.Bool e = refl
keyword_shape word.Void e = refl
keyword_shape word.Struct e = refl
keyword_shape word.Typedef e = refl
keyword_shape word.If e = refl
keyword_shape word.Else e = refl
keyword_shape word.While e = refl
keyword_shape word.For e = refl
keyword_shape word.Return e = refl
keyword_shape word.Assert e = refl
keyword_shape word.Error e = refl
keyword_shape word.True e = refl
keyword_shape word.False e = refl
keyword_shape word.Null e = refl
keyword_shape word.Alloc e = refl
keyword_shape word.String e = refl
keyword_shape word.Char e = refl
keyword_shape word.Break e = refl
keyword_shape word.Continue e = refl
keyword_shape word.AllocArray e = refl
keyword_shape word.Requires e = refl
keyword_shape word.Ensures e = refl
keyword_shape word.LoopInvariant e = refl
keyword_shape word.Fold e = refl
keyword_shape word.Unfold e = refl
keyword_shape word.Predicate e = refl
keyword_shape word.Acc e = refl
keyword_shape word.Outcome e = cc

pub keyword_some : (k : Keyword) → 0 < length (keyword_bytes k)
keyword_some word.Int = lit< tt
keyword_some word.Bool = lit< tt
keyword_some word.Void = lit< tt
keyword_some word.Struct = lit< tt
keyword_some word.Typedef = lit< tt
keyword_some word.If = lit< tt
keyword_some word.Else = lit< tt
keyword_some word.While = lit< tt
keyword_some word.For = lit< tt
keyword_some word.Return = lit< tt
keyword_some word.Assert = lit< tt
keyword_some word.Error = lit< tt
keyword_some word.True = lit< tt
keyword_some word.False = lit< tt
keyword_some word.Null = lit< tt
keyword_some word.Alloc = lit< tt
keyword_some word.String = lit< tt
keyword_some word.Char = lit< tt
keyword_some word.Break = lit< tt
keyword_some word.Continue = lit< tt
keyword_some word.AllocArray = lit< tt
keyword_some word.Requires = lit< tt
keyword_some word.Ensures = lit< tt
keyword_some word.LoopInvariant = lit< tt
keyword_some word.Fold = lit< tt
keyword_some word.Unfold = lit< tt
keyword_some word.Predicate = lit< tt
keyword_some word.Acc = lit< tt
keyword_some word.Outcome = lit< tt

-- a keyword that is in force is found
pub keyword_found : (inside : Bool) (k : Keyword) → is_outcome k ≡ false → (inside || not (is_annotation_word k)) ≡ true → word_kind inside (keyword_bytes k) ≡ kind.Keyword k
keyword_found true word.Int e f = refl
keyword_found true word.Bool e f = refl
keyword_found true word.Void e f = refl
keyword_found true word.Struct e f = refl
keyword_found true word.Typedef e f = refl
keyword_found true word.If e f = refl
keyword_found true word.Else e f = refl
keyword_found true word.While e f = refl
keyword_found true word.For e f = refl
keyword_found true word.Return e f = refl
keyword_found true word.Assert e f = refl
keyword_found true word.Error e f = refl
keyword_found true word.True e f = refl
keyword_found true word.False e f = refl
keyword_found true word.Null e f = refl
keyword_found true word.Alloc e f = refl
keyword_found true word.String e f = refl
keyword_found true word.Char e f = refl
keyword_found true word.Break e f = refl
keyword_found true word.Continue e f = refl
keyword_found true word.AllocArray e f = refl
keyword_found true word.Requires e f = refl
keyword_found true word.Ensures e f = refl
keyword_found true word.LoopInvariant e f = refl
keyword_found true word.Fold e f = refl
keyword_found true word.Unfold e f = refl
keyword_found true word.Predicate e f = refl
keyword_found true word.Acc e f = refl
keyword_found true word.Outcome e f = cc
keyword_found false word.Int e f = refl
keyword_found false word.Bool e f = refl
keyword_found false word.Void e f = refl
keyword_found false word.Struct e f = refl
keyword_found false word.Typedef e f = refl
keyword_found false word.If e f = refl
keyword_found false word.Else e f = refl
keyword_found false word.While e f = refl
keyword_found false word.For e f = refl
keyword_found false word.Return e f = refl
keyword_found false word.Assert e f = refl
keyword_found false word.Error e f = refl
keyword_found false word.True e f = refl
keyword_found false word.False e f = refl
keyword_found false word.Null e f = refl
keyword_found false word.Alloc e f = refl
keyword_found false word.String e f = refl
keyword_found false word.Char e f = refl
keyword_found false word.Break e f = refl
keyword_found false word.Continue e f = refl
keyword_found false word.AllocArray e f = refl
keyword_found false word.Requires e f = cc
keyword_found false word.Ensures e f = cc
keyword_found false word.LoopInvariant e f = cc
keyword_found false word.Fold e f = cc
keyword_found false word.Unfold e f = cc
keyword_found false word.Predicate e f = cc
keyword_found false word.Acc e f = cc
keyword_found false word.Outcome e f = cc

-- ---- Symbols
pub symbol_among_is : (ss : List Symbol) (bytes : List ℕ) (s : Symbol) → symbol_among ss bytes ≡ Some s → bytes ≡ symbol_bytes s
symbol_among_is [] bytes s e = cc
symbol_among_is (q ∷ ss) bytes s e =
    elim (bytes_eq bytes (symbol_bytes q)) as (λ t. bytes_eq bytes (symbol_bytes q) ≡ t → cond t (Some q) (symbol_among ss bytes) ≡ Some s → bytes ≡ symbol_bytes s) [
      | true ↦ λ same found. let this : q ≡ s = cc in (bytes_eq-Decides bytes (symbol_bytes q)).0 same ∙ ap symbol_bytes this
      | false ↦ λ same found. symbol_among_is ss bytes s found
    ] refl e

pub symbol_among_all : (p : Symbol → Bool) (ss : List Symbol) (bytes : List ℕ) (s : Symbol) → list_all p ss ≡ true → symbol_among ss bytes ≡ Some s → p s ≡ true
symbol_among_all p [] bytes s h e = cc
symbol_among_all p (q ∷ ss) bytes s h e =
    let both = and_parts (p q) (list_all p ss) h in
    elim (bytes_eq bytes (symbol_bytes q)) as (λ t. cond t (Some q) (symbol_among ss bytes) ≡ Some s → p s ≡ true) [
      | true ↦ λ found. let this : q ≡ s = cc in ap p (sym this) ∙ both.0
      | false ↦ λ found. symbol_among_all p ss bytes s both.1 found
    ] e

-- a symbol stands in the table of its length
pub data Sized (s : Symbol) : Type 0 where
  of_one : length (symbol_bytes s) ≡ 1 → symbol_among singles (symbol_bytes s) ≡ Some s → Sized s
  of_two : length (symbol_bytes s) ≡ 2 → symbol_among pairs (symbol_bytes s) ≡ Some s → Sized s
  of_three : length (symbol_bytes s) ≡ 3 → symbol_among triples (symbol_bytes s) ≡ Some s → Sized s

pub sized : (s : Symbol) → Sized s
sized sign.OpenParen = of_one refl refl
sized sign.CloseParen = of_one refl refl
sized sign.OpenBrace = of_one refl refl
sized sign.CloseBrace = of_one refl refl
sized sign.Comma = of_one refl refl
sized sign.Semicolon = of_one refl refl
sized sign.Arrow = of_two refl refl
sized sign.Assign = of_one refl refl
sized sign.AddAssign = of_two refl refl
sized sign.SubAssign = of_two refl refl
sized sign.MulAssign = of_two refl refl
sized sign.DivAssign = of_two refl refl
sized sign.RemAssign = of_two refl refl
sized sign.AndAssign = of_two refl refl
sized sign.XorAssign = of_two refl refl
sized sign.OrAssign = of_two refl refl
sized sign.ShlAssign = of_three refl refl
sized sign.ShrAssign = of_three refl refl
sized sign.Increment = of_two refl refl
sized sign.Decrement = of_two refl refl
sized sign.Not = of_one refl refl
sized sign.Tilde = of_one refl refl
sized sign.Minus = of_one refl refl
sized sign.Star = of_one refl refl
sized sign.Slash = of_one refl refl
sized sign.Percent = of_one refl refl
sized sign.Plus = of_one refl refl
sized sign.ShiftLeft = of_two refl refl
sized sign.ShiftRight = of_two refl refl
sized sign.Less = of_one refl refl
sized sign.LessEq = of_two refl refl
sized sign.Greater = of_one refl refl
sized sign.GreaterEq = of_two refl refl
sized sign.Equal = of_two refl refl
sized sign.NotEqual = of_two refl refl
sized sign.And = of_one refl refl
sized sign.Xor = of_one refl refl
sized sign.Or = of_one refl refl
sized sign.Both = of_two refl refl
sized sign.Either = of_two refl refl
sized sign.Question = of_one refl refl
sized sign.Colon = of_one refl refl

-- where no comment begins, a symbol is looked up
pub at_symbol : (s : Symbol) (mode : Mode) (place : Place) (rest : List ℕ) → front mode place (symbol_bytes s ++ rest) ≡ cond (begins_comment (symbol_bytes s ++ rest)) (comment_front mode place (symbol_bytes s ++ rest)) (symbol_front place (symbol_bytes s ++ rest))
at_symbol sign.OpenParen mode place rest = refl
at_symbol sign.CloseParen mode place rest = refl
at_symbol sign.OpenBrace mode place rest = refl
at_symbol sign.CloseBrace mode place rest = refl
at_symbol sign.Comma mode place rest = refl
at_symbol sign.Semicolon mode place rest = refl
at_symbol sign.Arrow mode place rest = refl
at_symbol sign.Assign mode place rest = refl
at_symbol sign.AddAssign mode place rest = refl
at_symbol sign.SubAssign mode place rest = refl
at_symbol sign.MulAssign mode place rest = refl
at_symbol sign.DivAssign mode place rest = refl
at_symbol sign.RemAssign mode place rest = refl
at_symbol sign.AndAssign mode place rest = refl
at_symbol sign.XorAssign mode place rest = refl
at_symbol sign.OrAssign mode place rest = refl
at_symbol sign.ShlAssign mode place rest = refl
at_symbol sign.ShrAssign mode place rest = refl
at_symbol sign.Increment mode place rest = refl
at_symbol sign.Decrement mode place rest = refl
at_symbol sign.Not mode place rest = refl
at_symbol sign.Tilde mode place rest = refl
at_symbol sign.Minus mode place rest = refl
at_symbol sign.Star mode place rest = refl
at_symbol sign.Slash mode place rest = refl
at_symbol sign.Percent mode place rest = refl
at_symbol sign.Plus mode place rest = refl
at_symbol sign.ShiftLeft mode place rest = refl
at_symbol sign.ShiftRight mode place rest = refl
at_symbol sign.Less mode place rest = refl
at_symbol sign.LessEq mode place rest = refl
at_symbol sign.Greater mode place rest = refl
at_symbol sign.GreaterEq mode place rest = refl
at_symbol sign.Equal mode place rest = refl
at_symbol sign.NotEqual mode place rest = refl
at_symbol sign.And mode place rest = refl
at_symbol sign.Xor mode place rest = refl
at_symbol sign.Or mode place rest = refl
at_symbol sign.Both mode place rest = refl
at_symbol sign.Either mode place rest = refl
at_symbol sign.Question mode place rest = refl
at_symbol sign.Colon mode place rest = refl

-- no symbol begins with `@`
pub symbol_is_no_sign : (s : Symbol) (rest : List ℕ) → begins_with is_at_sign (symbol_bytes s ++ rest) ≡ false
symbol_is_no_sign sign.OpenParen rest = refl
symbol_is_no_sign sign.CloseParen rest = refl
symbol_is_no_sign sign.OpenBrace rest = refl
symbol_is_no_sign sign.CloseBrace rest = refl
symbol_is_no_sign sign.Comma rest = refl
symbol_is_no_sign sign.Semicolon rest = refl
symbol_is_no_sign sign.Arrow rest = refl
symbol_is_no_sign sign.Assign rest = refl
symbol_is_no_sign sign.AddAssign rest = refl
symbol_is_no_sign sign.SubAssign rest = refl
symbol_is_no_sign sign.MulAssign rest = refl
symbol_is_no_sign sign.DivAssign rest = refl
symbol_is_no_sign sign.RemAssign rest = refl
symbol_is_no_sign sign.AndAssign rest = refl
symbol_is_no_sign sign.XorAssign rest = refl
symbol_is_no_sign sign.OrAssign rest = refl
symbol_is_no_sign sign.ShlAssign rest = refl
symbol_is_no_sign sign.ShrAssign rest = refl
symbol_is_no_sign sign.Increment rest = refl
symbol_is_no_sign sign.Decrement rest = refl
symbol_is_no_sign sign.Not rest = refl
symbol_is_no_sign sign.Tilde rest = refl
symbol_is_no_sign sign.Minus rest = refl
symbol_is_no_sign sign.Star rest = refl
symbol_is_no_sign sign.Slash rest = refl
symbol_is_no_sign sign.Percent rest = refl
symbol_is_no_sign sign.Plus rest = refl
symbol_is_no_sign sign.ShiftLeft rest = refl
symbol_is_no_sign sign.ShiftRight rest = refl
symbol_is_no_sign sign.Less rest = refl
symbol_is_no_sign sign.LessEq rest = refl
symbol_is_no_sign sign.Greater rest = refl
symbol_is_no_sign sign.GreaterEq rest = refl
symbol_is_no_sign sign.Equal rest = refl
symbol_is_no_sign sign.NotEqual rest = refl
symbol_is_no_sign sign.And rest = refl
symbol_is_no_sign sign.Xor rest = refl
symbol_is_no_sign sign.Or rest = refl
symbol_is_no_sign sign.Both rest = refl
symbol_is_no_sign sign.Either rest = refl
symbol_is_no_sign sign.Question rest = refl
symbol_is_no_sign sign.Colon rest = refl
