-- The literals of strings are read as the bytes that they were printed for.
use Rattle.std.proofs.Common.{◌≡◌, ℕ, Bool, true, false, List, [], ◌∷◌, ◌++◌, Option, Some, None, cond, refl, sym, ap, ◌∙◌, append_assoc, arith}
use Rattle.std.specs.Prelude.{◌==◌, ◌&&◌, not}
use Rattle.std.specs.List.{list_all}
use Rattle.std.proofs.lemmas.Bool.{and_parts, eqb-true}
use Rattle.std.proofs.lemmas.Bool.Decides.{nat_tests}
use Rattle.c0_lex.specs.Bytes.{is_printable, is_quote, is_backslash}
use Rattle.c0_lex.specs.Words.{Character, plain, escape, IsCharacter, AreCharacters, spelled_string, character_values, quoted, unescaped, QuotedMeans}
use Rattle.c0_layout.specs.Lists.{all_text}
use Rattle.c0_layout.specs.Literals.{escape_letter, escaped, character_text, string_text}
use Rattle.c0_print.proofs.Legible.{is_content, IsContent}

abbrev pub character : ℕ → Option ℕ → Character
character b (Some letter) = escape letter b
character b None = plain b

abbrev pub characters : List ℕ → List Character
characters [] = []
characters (b ∷ bs) = character b (escape_letter b) ∷ characters bs

-- ---- their bytes
one_spelled : (b : ℕ) (o : Option ℕ) (cs : List Character) (rest : List ℕ) → spelled_string (character b o ∷ cs) rest ≡ escaped b o ++ spelled_string cs rest
one_spelled b (Some letter) cs rest = refl
one_spelled b None cs rest = refl

all_spelled : (bs rest : List ℕ) → spelled_string (characters bs) rest ≡ all_text character_text bs ++ rest
all_spelled [] rest = refl
all_spelled (b ∷ bs) rest =
    one_spelled b (escape_letter b) (characters bs) rest
    ∙ ap (λ l. character_text b ++ l) (all_spelled bs rest)
    ∙ sym (append_assoc (character_text b) (all_text character_text bs) rest)

pub string_is_quoted : (bs : List ℕ) → string_text bs ≡ quoted (characters bs)
string_is_quoted bs = ap (λ l. 34 ∷ l) (sym (all_spelled bs (34 ∷ [])))

-- ---- what they stand for
one_value : (b : ℕ) (o : Option ℕ) (cs : List Character) → character_values (character b o ∷ cs) ≡ b ∷ character_values cs
one_value b (Some letter) cs = refl
one_value b None cs = refl

all_values : (bs : List ℕ) → character_values (characters bs) ≡ bs
all_values [] = refl
all_values (b ∷ bs) = one_value b (escape_letter b) (characters bs) ∙ ap (λ l. b ∷ l) (all_values bs)

-- ---- they are characters
cond_case : (P : Option ℕ → Type 0) (t : Bool) (x y : Option ℕ) → (t ≡ true → P x) → (t ≡ false → P y) → P (cond t x y)
cond_case P true x y yes' no' = yes' refl
cond_case P false x y yes' no' = no' refl

stands_for_itself : (b : ℕ) → is_content b ≡ true → (b == 10) ≡ false → (b == 9) ≡ false → (b == 11) ≡ false → (b == 8) ≡ false → (b == 13) ≡ false → (b == 12) ≡ false → (b == 7) ≡ false → (b == 92) ≡ false → (b == 34) ≡ false
    → (is_printable b && not (is_quote b) && not (is_backslash b)) ≡ true
stands_for_itself b h n10 n9 n11 n8 n13 n12 n7 n92 n34 = grind (arith, nat_tests)

one_fits : (b : ℕ) → is_content b ≡ true → IsCharacter (character b (escape_letter b))
one_fits b h =
    let P : Option ℕ → Type 0 = λ o. IsCharacter (character b o) in
    cond_case P (b == 10) _ _ (λ e. ap Some (sym (eqb-true b 10 e)))
    (λ n10. cond_case P (b == 9) _ _ (λ e. ap Some (sym (eqb-true b 9 e)))
    (λ n9. cond_case P (b == 11) _ _ (λ e. ap Some (sym (eqb-true b 11 e)))
    (λ n11. cond_case P (b == 8) _ _ (λ e. ap Some (sym (eqb-true b 8 e)))
    (λ n8. cond_case P (b == 13) _ _ (λ e. ap Some (sym (eqb-true b 13 e)))
    (λ n13. cond_case P (b == 12) _ _ (λ e. ap Some (sym (eqb-true b 12 e)))
    (λ n12. cond_case P (b == 7) _ _ (λ e. ap Some (sym (eqb-true b 7 e)))
    (λ n7. cond_case P (b == 92) _ _ (λ e. ap Some (sym (eqb-true b 92 e)))
    (λ n92. cond_case P (b == 34) _ _ (λ e. ap Some (sym (eqb-true b 34 e)))
    (λ n34. stands_for_itself b h n10 n9 n11 n8 n13 n12 n7 n92 n34)))))))))

pub all_fit : (bs : List ℕ) → IsContent bs → AreCharacters (characters bs)
all_fit [] h = tt
all_fit (b ∷ bs) h = let both = and_parts (is_content b) (list_all is_content bs) h in (one_fits b both.0, all_fit bs both.1)

pub string_means : QuotedMeans → (bs : List ℕ) → IsContent bs → unescaped (string_text bs) ≡ bs
string_means means bs h = ap unescaped (string_is_quoted bs) ∙ means (characters bs) (all_fit bs h) ∙ all_values bs
