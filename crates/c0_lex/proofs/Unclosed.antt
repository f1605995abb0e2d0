-- Open comments can be closed.
use Rattle.std.proofs.Common.{◌≡◌, ◌+◌, ◌-◌, ℕ, zero, suc, true, false, List, [], ◌∷◌, ◌++◌, Option, Some, None, sym, refl, ap, ◌∙◌, cond, arith, subst, append_assoc}
use Rattle.std.specs.Prelude.{◌==◌, codes}
use Rattle.std.proofs.lemmas.Bool.{and_from, and_right, not_from_false}
use Rattle.c0_lex.specs.Bytes.{begins}
use Rattle.c0_lex.specs.Pieces.{Comment, closes, byte, inner, comment_bytes, IsComment}
use Rattle.c0_lex.specs.Scan.{comment_length, longer}
use Rattle.c0_lex.proofs.Nesting.{begins_two, two_of, close_step, outer}

-- the text is that many comments and one more, and nothing behind them
abbrev pub Alls : ℕ → List ℕ → Type 0
Alls zero text = (c : Comment) × IsComment c × (text ≡ comment_bytes c)
Alls (suc d) text = (c : Comment) × (rest : List ℕ) × IsComment c × (text ≡ comment_bytes c ++ rest) × Alls d rest

ends : (d : ℕ) → (more : List ℕ) × Alls d more
ends zero = (codes "*/", (closes, tt, refl))
ends (suc d) = let m = ends d in (codes "*/" ++ m.0, (closes, m.0, tt, refl, m.1))

push_byte : (d b : ℕ) (text : List ℕ) → begins (b ∷ text) (codes "/*") ≡ false → begins (b ∷ text) (codes "*/") ≡ false → Alls d text → Alls d (b ∷ text)
push_byte zero b text e f (c, h, s) =
    (byte b c, (and_from _ _ (not_from_false _ (ap (λ l. begins (b ∷ l) (codes "/*")) (sym s) ∙ e)) (not_from_false _ (ap (λ l. begins (b ∷ l) (codes "*/")) (sym s) ∙ f)), h), ap (λ l. b ∷ l) s)
push_byte (suc d) b text e f (c, rest, h, s, l) =
    (byte b c, rest, (and_from _ _ (not_from_false _ (sym (begins_two b c rest 47 42) ∙ ap (λ l. begins (b ∷ l) (codes "/*")) (sym s) ∙ e)) (not_from_false _ (sym (begins_two b c rest 42 47) ∙ ap (λ l. begins (b ∷ l) (codes "*/")) (sym s) ∙ f)), h), ap (λ l. b ∷ l) s, l)

push_open : (d : ℕ) (text : List ℕ) → Alls (suc d) text → Alls d (47 ∷ 42 ∷ text)
push_open zero text (c, mid, h, s, (e, k, t)) = (inner c e, (h, k), ap (λ l. 47 ∷ 42 ∷ l) (s ∙ ap (λ l. comment_bytes c ++ l) t))
push_open (suc d) text (c, mid, h, s, (e, rest, k, t, l)) = (inner c e, rest, (h, k), ap (λ l. 47 ∷ 42 ∷ l) (s ∙ ap (λ l. comment_bytes c ++ l) t ∙ sym (append_assoc (comment_bytes c) (comment_bytes e) rest)), l)

none_longer : (n : ℕ) (o : Option ℕ) → longer n o ≡ None → o ≡ None
none_longer n None e = refl
none_longer n (Some x) e = absurd cc

abbrev Closable : List ℕ → ℕ → Type 0
Closable text d = (more : List ℕ) × Alls d (text ++ more)

closing : (d : ℕ) (bs : List ℕ) → ((e : ℕ) → comment_length bs e ≡ None → Closable bs e) → outer d 2 bs ≡ None → Closable (42 ∷ 47 ∷ bs) d
closing zero bs there e = absurd cc
closing (suc d) bs there e = let m = there d (none_longer 2 (comment_length bs d) e) in (m.0, (closes, bs ++ m.0, tt, refl, m.1))

at_first : (a b : ℕ) (bs : List ℕ) (d : ℕ) → ((e : ℕ) → comment_length bs e ≡ None → Closable bs e) → (comment_length (b ∷ bs) d ≡ None → Closable (b ∷ bs) d) → comment_length (a ∷ b ∷ bs) d ≡ None → Closable (a ∷ b ∷ bs) d
at_first a b bs d there next h =
    elim (begins (a ∷ b ∷ bs) (codes "/*")) as (λ t. begins (a ∷ b ∷ bs) (codes "/*") ≡ t → cond t (longer 2 (comment_length bs (d + 1))) (cond (begins (a ∷ b ∷ bs) (codes "*/")) (cond (d == 0) (Some 2) (longer 2 (comment_length bs (d - 1)))) (longer 1 (comment_length (b ∷ bs) d))) ≡ None → Closable (a ∷ b ∷ bs) d) [
      | true ↦ λ e n.
          let up : d + 1 ≡ suc d = omega arith in
          let m = there (suc d) (ap (comment_length bs) (sym up) ∙ none_longer 2 (comment_length bs (d + 1)) n) in
          subst (λ l. Closable l d) (sym (two_of a b bs 47 42 e)) (m.0, push_open d (bs ++ m.0) m.1)
      | false ↦ λ e n.
          elim (begins (a ∷ b ∷ bs) (codes "*/")) as (λ t. begins (a ∷ b ∷ bs) (codes "*/") ≡ t → cond t (cond (d == 0) (Some 2) (longer 2 (comment_length bs (d - 1)))) (longer 1 (comment_length (b ∷ bs) d)) ≡ None → Closable (a ∷ b ∷ bs) d) [
            | true ↦ λ f k. subst (λ l. Closable l d) (sym (two_of a b bs 42 47 f)) (closing d bs there (sym (close_step d bs) ∙ k))
            | false ↦ λ f k. let m = next (none_longer 1 (comment_length (b ∷ bs) d) k) in (m.0, push_byte d a (b ∷ (bs ++ m.0)) e f m.1)
          ] refl n
    ] refl h

pub unclosed : (text : List ℕ) (d : ℕ) → comment_length text d ≡ None → Closable text d
unclosed [] d h = ends d
unclosed (a ∷ []) d h =
    let m = ends d in
    (10 ∷ m.0, push_byte d a (10 ∷ m.0) (and_right (47 == a) false refl) (and_right (42 == a) false refl) (push_byte d 10 m.0 refl refl m.1))
unclosed (a ∷ b ∷ bs) d h = at_first a b bs d (λ e k. unclosed bs e k) (λ k. unclosed (b ∷ bs) d k) h
