-- Which symbols stand whole before what the printer puts behind them.
use Rattle.std.proofs.Common.{◌≡◌, ℕ, ◌≤◌, Bool, true, false, List, [], ◌∷◌, ◌++◌, length, refl, sym, ap, ◌∙◌, arith}
use Rattle.std.specs.Prelude.{◌==◌, ◌&&◌, ◌||◌, not}
use Rattle.std.specs.List.{list_all}
use Rattle.std.proofs.lemmas.Bool.{and_parts, not-true, and_right, eq-eqb}
use Rattle.std.proofs.lemmas.Bool.Decides.{nat_tests}
use Rattle.c0_lex.specs.declared.token.Symbol.{Symbol}
use Rattle.c0_lex.specs.declared.token.Symbol.TheVariants as mark
use Rattle.c0_lex.specs.Bytes.{begins_with}
use Rattle.c0_lex.specs.Words.{symbol_bytes}
use Rattle.c0_lex.specs.Pieces.{begins_comment, IsLongest}

-- the second begins with the first, and goes on behind it as the rest does
abbrev pub extends : List ℕ → List ℕ → List ℕ → Bool
extends [] [] rest = false
extends [] (z ∷ c) [] = false
extends [] (z ∷ c) (b ∷ rest) = b == z
extends (x ∷ a) [] rest = false
extends (x ∷ a) (z ∷ c) rest = (x == z) && extends a c rest

no_longer : (a c rest more : List ℕ) → extends a c rest ≡ false → a ++ rest ≡ c ++ more → length c ≤ length a
no_longer [] [] rest more h e = omega arith
no_longer [] (z ∷ c) [] more h e = absurd cc
no_longer [] (z ∷ c) (b ∷ rest) more h e = let same : b ≡ z = cc in let test = eq-eqb b z same in absurd cc
no_longer (x ∷ a) [] rest more h e = omega arith
no_longer (x ∷ a) (z ∷ c) rest more h e =
    let same : x ≡ z = cc in
    let behind : a ++ rest ≡ c ++ more = cc in
    let test : (true && extends a c rest) ≡ ((x == z) && extends a c rest) = ap (λ t. t && extends a c rest) (sym (eq-eqb x z same)) in
    let less : length c ≤ length a = no_longer a c rest more (test ∙ h) behind in
    omega arith

pub longest : (s : Symbol) (rest : List ℕ) → ((t : Symbol) → extends (symbol_bytes s) (symbol_bytes t) rest ≡ false) → IsLongest s rest
longest s rest h t more e = no_longer (symbol_bytes s) (symbol_bytes t) rest more (h t) e

-- ---- symbols that no other begins with
pub open_paren : (rest : List ℕ) (t : Symbol) → extends (symbol_bytes mark.OpenParen) (symbol_bytes t) rest ≡ false
open_paren rest mark.OpenParen = refl
open_paren rest t = refl

pub close_paren : (rest : List ℕ) (t : Symbol) → extends (symbol_bytes mark.CloseParen) (symbol_bytes t) rest ≡ false
close_paren rest mark.CloseParen = refl
close_paren rest t = refl

pub open_brace : (rest : List ℕ) (t : Symbol) → extends (symbol_bytes mark.OpenBrace) (symbol_bytes t) rest ≡ false
open_brace rest mark.OpenBrace = refl
open_brace rest t = refl

pub close_brace : (rest : List ℕ) (t : Symbol) → extends (symbol_bytes mark.CloseBrace) (symbol_bytes t) rest ≡ false
close_brace rest mark.CloseBrace = refl
close_brace rest t = refl

pub comma : (rest : List ℕ) (t : Symbol) → extends (symbol_bytes mark.Comma) (symbol_bytes t) rest ≡ false
comma rest mark.Comma = refl
comma rest t = refl

pub semicolon : (rest : List ℕ) (t : Symbol) → extends (symbol_bytes mark.Semicolon) (symbol_bytes t) rest ≡ false
semicolon rest mark.Semicolon = refl
semicolon rest t = refl

pub question : (rest : List ℕ) (t : Symbol) → extends (symbol_bytes mark.Question) (symbol_bytes t) rest ≡ false
question rest mark.Question = refl
question rest t = refl

pub tilde : (rest : List ℕ) (t : Symbol) → extends (symbol_bytes mark.Tilde) (symbol_bytes t) rest ≡ false
tilde rest mark.Tilde = refl
tilde rest t = refl

pub arrow : (rest : List ℕ) (t : Symbol) → extends (symbol_bytes mark.Arrow) (symbol_bytes t) rest ≡ false
arrow rest mark.Arrow = refl
arrow rest t = refl

pub increment : (rest : List ℕ) (t : Symbol) → extends (symbol_bytes mark.Increment) (symbol_bytes t) rest ≡ false
increment rest mark.Increment = refl
increment rest t = refl

pub decrement : (rest : List ℕ) (t : Symbol) → extends (symbol_bytes mark.Decrement) (symbol_bytes t) rest ≡ false
decrement rest mark.Decrement = refl
decrement rest t = refl

-- ---- before a space
no_space : (t : Symbol) → list_all (λ b. not (b == 32)) (symbol_bytes t) ≡ true
no_space mark.OpenParen = refl
no_space t = refl

space_stops : (a c rest : List ℕ) → list_all (λ b. not (b == 32)) c ≡ true → extends a c (32 ∷ rest) ≡ false
space_stops [] [] rest h = refl
space_stops [] (z ∷ c) rest h =
    let both = and_parts (not (z == 32)) (list_all (λ b. not (b == 32)) c) h in
    let no = not-true (z == 32) both.0 in
    grind (arith, nat_tests)
space_stops (x ∷ a) [] rest h = refl
space_stops (x ∷ a) (z ∷ c) rest h =
    let both = and_parts (not (z == 32)) (list_all (λ b. not (b == 32)) c) h in
    and_right (x == z) (extends a c (32 ∷ rest)) (space_stops a c rest both.1)

pub before_space : (s : Symbol) (rest : List ℕ) (t : Symbol) → extends (symbol_bytes s) (symbol_bytes t) (32 ∷ rest) ≡ false
before_space s rest t = space_stops (symbol_bytes s) (symbol_bytes t) rest (no_space t)

pub plain_before_space : (s : Symbol) (rest : List ℕ) → begins_comment (symbol_bytes s ++ 32 ∷ rest) ≡ false
plain_before_space mark.OpenParen rest = refl
plain_before_space s rest = refl

-- ---- before what is no `=`
abbrev pub is_equals : ℕ → Bool
is_equals b = b == 61

-- a byte for which a test fails is not the next one of a longer symbol
other_byte : (test : ℕ → Bool) (z : ℕ) (c rest : List ℕ) → ((b : ℕ) → test b ≡ false → (b == z) ≡ false) → begins_with test rest ≡ false → extends [] (z ∷ c) rest ≡ false
other_byte test z c [] differs h = refl
other_byte test z c (b ∷ rest) differs h = differs b h

equals_alone : (rest : List ℕ) → begins_with is_equals rest ≡ false → extends [] (61 ∷ []) rest ≡ false
equals_alone rest h = other_byte is_equals 61 [] rest (λ b e. e) h

pub star : (rest : List ℕ) → begins_with is_equals rest ≡ false → (t : Symbol) → extends (symbol_bytes mark.Star) (symbol_bytes t) rest ≡ false
star rest h mark.MulAssign = equals_alone rest h
star rest h t = refl

pub bang : (rest : List ℕ) → begins_with is_equals rest ≡ false → (t : Symbol) → extends (symbol_bytes mark.Not) (symbol_bytes t) rest ≡ false
bang rest h mark.NotEqual = equals_alone rest h
bang rest h t = refl

-- ---- before what is none of = > -, and of = < >
abbrev pub is_behind_minus : ℕ → Bool
is_behind_minus b = (b == 61) || (b == 62) || (b == 45)

pub minus : (rest : List ℕ) → begins_with is_behind_minus rest ≡ false → (t : Symbol) → extends (symbol_bytes mark.Minus) (symbol_bytes t) rest ≡ false
minus rest h mark.SubAssign = other_byte is_behind_minus 61 [] rest (λ b e. grind (arith, nat_tests)) h
minus rest h mark.Arrow = other_byte is_behind_minus 62 [] rest (λ b e. grind (arith, nat_tests)) h
minus rest h mark.Decrement = other_byte is_behind_minus 45 [] rest (λ b e. grind (arith, nat_tests)) h
minus rest h t = refl

abbrev pub is_behind_angle : ℕ → Bool
is_behind_angle b = (b == 61) || (b == 60) || (b == 62)

pub less : (rest : List ℕ) → begins_with is_behind_angle rest ≡ false → (t : Symbol) → extends (symbol_bytes mark.Less) (symbol_bytes t) rest ≡ false
less rest h mark.LessEq = other_byte is_behind_angle 61 [] rest (λ b e. grind (arith, nat_tests)) h
less rest h mark.ShiftLeft = other_byte is_behind_angle 60 [] rest (λ b e. grind (arith, nat_tests)) h
less rest h mark.ShlAssign = other_byte is_behind_angle 60 (61 ∷ []) rest (λ b e. grind (arith, nat_tests)) h
less rest h t = refl

pub greater : (rest : List ℕ) → begins_with is_behind_angle rest ≡ false → (t : Symbol) → extends (symbol_bytes mark.Greater) (symbol_bytes t) rest ≡ false
greater rest h mark.GreaterEq = other_byte is_behind_angle 61 [] rest (λ b e. grind (arith, nat_tests)) h
greater rest h mark.ShiftRight = other_byte is_behind_angle 62 [] rest (λ b e. grind (arith, nat_tests)) h
greater rest h mark.ShrAssign = other_byte is_behind_angle 62 (61 ∷ []) rest (λ b e. grind (arith, nat_tests)) h
greater rest h t = refl
