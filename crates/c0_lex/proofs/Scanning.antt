-- What the loops over comments and strings keep.
use Rattle.std.proofs.Common.{◌≡◌, ◌<◌, ◌≤◌, ◌+◌, ◌-◌, ℕ, Bool, true, false, List, [], ◌∷◌, length, get_or, drop, Option, Some, None, sym, refl, ap, ◌∙◌, cond, arith, add-zero, length-drop, get_or-drop, drop-drop, take}
use Rattle.std.proofs.lemmas.List.{drop_all}
use Rattle.std.proofs.lemmas.Bool.{cond-true, cond-false, eq-eqb, ne_eqb}
use Rattle.std.proofs.lemmas.Grind.{common_steps}
use Rattle.std.specs.Prelude.{◌==◌, ◌&&◌, codes}
use Rattle.c0_lex.specs.declared.strings.StringEnd.{StringEnd}
use Rattle.c0_lex.specs.declared.strings.StringEnd.TheVariants.{Closed, Escape, Open}
use Rattle.c0_lex.specs.Bytes.{is_quote, is_backslash, is_printable, begins_with, begins}
use Rattle.c0_lex.specs.Words.{is_escape}
use Rattle.c0_lex.specs.Scan.{comment_length, longer, string_end, further}

pub longer_more : (m n : ℕ) (o : Option ℕ) → longer m (longer n o) ≡ longer (m + n) o
longer_more m n None = refl
longer_more m n (Some x) = let e : m + (n + x) ≡ m + n + x = omega arith in ap Some e

pub further_more : (m n : ℕ) (s : StringEnd) → further m (further n s) ≡ further (m + n) s
further_more m n Open = refl
further_more m n (Closed x) = let e : m + (n + x) ≡ m + n + x = omega arith in ap Closed e
further_more m n (Escape x) = let e : m + (n + x) ≡ m + n + x = omega arith in ap Escape e

-- a comment goes on at its first bytes
pub comment_at : (text : List ℕ) (depth : ℕ) → 0 < length text → comment_length text depth ≡ cond (begins text (codes "/*")) (longer 2 (comment_length (drop 2 text) (depth + 1))) (cond (begins text (codes "*/")) (cond (depth == 0) (Some 2) (longer 2 (comment_length (drop 2 text) (depth - 1)))) (longer 1 (comment_length (drop 1 text) depth)))
comment_at [] depth h = absurd (omega arith)
comment_at (a ∷ []) depth h = sym (cond-false _ _ _ (short 47 a) ∙ cond-false _ _ _ (short 42 a))
  where
    short : (x a : ℕ) → ((x == a) && false) ≡ false
    short x a = elim (x == a) as (λ t. (t && false) ≡ false) [ true ↦ refl | false ↦ refl ]
comment_at (a ∷ b ∷ bs) depth h = refl

-- a string goes on at its first byte
pub string_at : (text : List ℕ) → 0 < length text → string_end text ≡ cond (is_quote (get_or text 0 0)) (Closed 1) (cond (is_backslash (get_or text 0 0)) (cond (begins_with is_escape (drop 1 text)) (further 2 (string_end (drop 2 text))) (Escape 0)) (cond (is_printable (get_or text 0 0)) (further 1 (string_end (drop 1 text))) Open))
string_at [] h = absurd (omega arith)
string_at (a ∷ []) h = elim (is_quote a) as (λ t. cond t (Closed 1) (cond (is_backslash a) (Escape 0) Open) ≡ cond t (Closed 1) (cond (is_backslash a) (Escape 0) (cond (is_printable a) Open Open))) [ true ↦ refl | false ↦ elim (is_backslash a) as (λ t. cond t (Escape 0) Open ≡ cond t (Escape 0) (cond (is_printable a) Open Open)) [ true ↦ refl | false ↦ elim (is_printable a) as (λ t. Open ≡ cond t Open Open) [ true ↦ refl | false ↦ refl ] ] ]
string_at (a ∷ b ∷ bs) h = refl

pub longer_none : (o : Option ℕ) → longer 0 o ≡ o
longer_none None = refl
longer_none (Some x) = let e : 0 + x ≡ x = omega arith in ap Some e

pub further_none : (s : StringEnd) → further 0 s ≡ s
further_none Open = refl
further_none (Closed x) = let e : 0 + x ≡ x = omega arith in ap Closed e
further_none (Escape x) = let e : 0 + x ≡ x = omega arith in ap Escape e

-- the steps of the loop over a comment, by what stands there
module _ (text rest : List ℕ) (at depth : ℕ) (lt : at < length text) (here : rest ≡ drop at text) (so_far : comment_length text 0 ≡ longer at (comment_length (drop at text) depth)) where
  there : (o : Option ℕ) → comment_length (drop at text) depth ≡ o → comment_length text 0 ≡ longer at o
  there o e = so_far ∙ ap (longer at) e

  some : 0 < length (drop at text)
  some = omega (arith, length-drop at text)

  pub comment_opens : begins rest (codes "/*") ≡ true → comment_length text 0 ≡ longer (at + 2) (comment_length (drop (at + 2) text) (depth + 1))
  comment_opens e =
      there _ (comment_at (drop at text) depth some ∙ cond-true _ _ _ (ap (λ l. begins l (codes "/*")) (sym here) ∙ e))
      ∙ longer_more at 2 _
      ∙ ap (λ l. longer (at + 2) (comment_length l (depth + 1))) (drop-drop 2 at text)

  within : begins rest (codes "/*") ≡ false → begins rest (codes "*/") ≡ true → comment_length text 0 ≡ longer at (cond (depth == 0) (Some 2) (longer 2 (comment_length (drop 2 (drop at text)) (depth - 1))))
  within e f = there _ (comment_at (drop at text) depth some ∙ cond-false _ _ _ (ap (λ l. begins l (codes "/*")) (sym here) ∙ e) ∙ cond-true _ _ _ (ap (λ l. begins l (codes "*/")) (sym here) ∙ f))

  pub comment_ends : begins rest (codes "/*") ≡ false → begins rest (codes "*/") ≡ true → depth ≡ 0 → Some (at + 2) ≡ comment_length text 0
  comment_ends e f z = sym (within e f ∙ ap (longer at) (cond-true _ _ _ (eq-eqb depth 0 z)))

  pub comment_closes : begins rest (codes "/*") ≡ false → begins rest (codes "*/") ≡ true → (depth ≡ 0 → ⊥) → comment_length text 0 ≡ longer (at + 2) (comment_length (drop (at + 2) text) (depth - 1))
  comment_closes e f z =
      within e f
      ∙ ap (longer at) (cond-false _ _ _ (ne_eqb depth 0 z))
      ∙ longer_more at 2 _
      ∙ ap (λ l. longer (at + 2) (comment_length l (depth - 1))) (drop-drop 2 at text)

  pub comment_goes_on : begins rest (codes "/*") ≡ false → begins rest (codes "*/") ≡ false → comment_length text 0 ≡ longer (at + 1) (comment_length (drop (at + 1) text) depth)
  comment_goes_on e f =
      there _ (comment_at (drop at text) depth some ∙ cond-false _ _ _ (ap (λ l. begins l (codes "/*")) (sym here) ∙ e) ∙ cond-false _ _ _ (ap (λ l. begins l (codes "*/")) (sym here) ∙ f))
      ∙ longer_more at 1 _
      ∙ ap (λ l. longer (at + 1) (comment_length l depth)) (drop-drop 1 at text)

pub comment_open : (text : List ℕ) (at depth : ℕ) → length text ≤ at → comment_length text 0 ≡ longer at (comment_length (drop at text) depth) → None ≡ comment_length text 0
comment_open text at depth h e =
    let none : drop at text ≡ [] = drop_all at text h in
    sym (e ∙ ap (λ l. longer at (comment_length l depth)) none)

-- one step of the loop over a string
pub string_step : (text : List ℕ) (at : ℕ) → at < length text → string_end text ≡ further at (string_end (drop at text)) → string_end text ≡ further at (cond (is_quote (get_or text at 0)) (Closed 1) (cond (is_backslash (get_or text at 0)) (cond (begins_with is_escape (drop (at + 1) text)) (further 2 (string_end (drop (at + 2) text))) (Escape 0)) (cond (is_printable (get_or text at 0)) (further 1 (string_end (drop (at + 1) text))) Open)))
string_step text at h e =
    let some : 0 < length (drop at text) = omega (arith, length-drop at text) in
    let first : get_or (drop at text) 0 0 ≡ get_or text at 0 = get_or-drop at text 0 0 ∙ ap (λ i. get_or text i 0) (add-zero at) in
    e ∙ ap (further at) (string_at (drop at text) some
    ∙ ap (λ l. cond (is_quote (get_or (drop at text) 0 0)) (Closed 1) (cond (is_backslash (get_or (drop at text) 0 0)) (cond (begins_with is_escape (drop 1 (drop at text))) (further 2 (string_end l)) (Escape 0)) (cond (is_printable (get_or (drop at text) 0 0)) (further 1 (string_end (drop 1 (drop at text)))) Open))) (drop-drop 2 at text)
    ∙ ap (λ l. cond (is_quote (get_or (drop at text) 0 0)) (Closed 1) (cond (is_backslash (get_or (drop at text) 0 0)) (cond (begins_with is_escape l) (further 2 (string_end (drop (at + 2) text))) (Escape 0)) (cond (is_printable (get_or (drop at text) 0 0)) (further 1 (string_end l)) Open))) (drop-drop 1 at text)
    ∙ ap (λ a. cond (is_quote a) (Closed 1) (cond (is_backslash a) (cond (begins_with is_escape (drop (at + 1) text)) (further 2 (string_end (drop (at + 2) text))) (Escape 0)) (cond (is_printable a) (further 1 (string_end (drop (at + 1) text))) Open))) first)

-- ---- the steps of the loop over a string, by what the byte is
module _ (text : List ℕ) (at : ℕ) (lt : at < length text) (so_far : string_end text ≡ further at (string_end (drop at text))) where
  pub string_closed : get_or text at 0 ≡ 34 → Closed (at + 1) ≡ string_end text
  string_closed q = sym (string_step text at lt so_far ∙ ap (further at) (cond-true _ _ _ (eq-eqb (get_or text at 0) 34 q)))

  escaped : (get_or text at 0 ≡ 34 → ⊥) → get_or text at 0 ≡ 92 → string_end text ≡ further at (cond (begins_with is_escape (drop (at + 1) text)) (further 2 (string_end (drop (at + 2) text))) (Escape 0))
  escaped q e = string_step text at lt so_far ∙ ap (further at) (cond-false _ _ _ (ne_eqb (get_or text at 0) 34 q) ∙ cond-true _ _ _ (eq-eqb (get_or text at 0) 92 e))

  plain : (get_or text at 0 ≡ 34 → ⊥) → (get_or text at 0 ≡ 92 → ⊥) → string_end text ≡ further at (cond (is_printable (get_or text at 0)) (further 1 (string_end (drop (at + 1) text))) Open)
  plain q e = string_step text at lt so_far ∙ ap (further at) (cond-false _ _ _ (ne_eqb (get_or text at 0) 34 q) ∙ cond-false _ _ _ (ne_eqb (get_or text at 0) 92 e))

  pub string_bad : (rest : List ℕ) → (get_or text at 0 ≡ 34 → ⊥) → get_or text at 0 ≡ 92 → rest ≡ drop (at + 1) text → begins_with is_escape rest ≡ false → Escape at ≡ string_end text
  string_bad rest q e r p =
      let none : at + 0 ≡ at = omega arith in
      sym (escaped q e ∙ ap (further at) (cond-false _ _ _ (ap (begins_with is_escape) (sym r) ∙ p)) ∙ ap Escape none)

  pub string_escape : (rest : List ℕ) → (get_or text at 0 ≡ 34 → ⊥) → get_or text at 0 ≡ 92 → rest ≡ drop (at + 1) text → begins_with is_escape rest ≡ true → string_end text ≡ further (at + 2) (string_end (drop (at + 2) text))
  string_escape rest q e r p = escaped q e ∙ ap (further at) (cond-true _ _ _ (ap (begins_with is_escape) (sym r) ∙ p)) ∙ further_more at 2 (string_end (drop (at + 2) text))

  pub string_plain : (get_or text at 0 ≡ 34 → ⊥) → (get_or text at 0 ≡ 92 → ⊥) → is_printable (get_or text at 0) ≡ true → string_end text ≡ further (at + 1) (string_end (drop (at + 1) text))
  string_plain q e p = plain q e ∙ ap (further at) (cond-true _ _ _ p) ∙ further_more at 1 (string_end (drop (at + 1) text))

  pub string_wild : (get_or text at 0 ≡ 34 → ⊥) → (get_or text at 0 ≡ 92 → ⊥) → is_printable (get_or text at 0) ≡ false → Open ≡ string_end text
  string_wild q e p = sym (plain q e ∙ ap (further at) (cond-false _ _ _ p))

pub rest_is : (text : List ℕ) (at : ℕ) → take (length text - at) (drop at text) ≡ drop at text
rest_is text at = grind (arith, common_steps)

-- what a test of the front of a text said
pub told : (rest front front' : List ℕ) (r v : Bool) → r ≡ begins rest front → front ≡ front' → r ≡ v → begins rest front' ≡ v
told rest front front' r v e f g = ap (begins rest) (sym f) ∙ sym e ∙ g

-- two bytes that stand there stand within the text
pub two_within : (text rest front : List ℕ) (at a b : ℕ) → rest ≡ drop at text → front ≡ a ∷ b ∷ [] → at ≤ length text → length front ≤ length rest → at + 2 ≤ length text
two_within text rest front at a b r f h l =
    let two : length front ≡ 2 = ap length f in
    let left : length rest ≡ length text - at = ap length r ∙ length-drop at text in
    omega (arith, two, left)
