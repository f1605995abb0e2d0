-- Bytes that a file took in parts.
use Rattle.std.proofs.Common.{◌≡◌, ℕ, zero, suc, ◌+◌, ◌-◌, ◌<◌, ◌≤◌, List, [], ◌∷◌, ◌++◌, length, take, drop, get_or, Option, Some, None, Result, Ok, Err, OnErr, inl, inr, refl, sym, subst, ap, ◌∙◌, arith, length-append, length-take}
use Rattle.std.proofs.lemmas.List.{append-nil, append_assoc, take-append-le, take-append-drop, take_at, take_more, length-take-le}
use Rattle.std.proofs.Math.Seq.{take-add}
use Rattle.sat_check.specs.declared.log.Entry.{Entry}
use Rattle.sat_text.specs.LogTexts.{entry_line, log_lines}
use Rattle.sat_top.specs.Told.{Made, Told, made_as, with_more, with_bytes, AddsFront, IsWritten, kept_as}
use Rattle.sat_top.specs.Outcomes.{IsFrontOf}

with_more-append : (f : Option Made) (a b : List ℕ) → with_more (with_more f a) b ≡ with_more f (a ++ b)
with_more-append None a b = refl
with_more-append (Some m) a b = ap (λ l. Some (record m { bytes = l })) (append_assoc m.bytes a b)

pub with_bytes-append : (t : Told) (a b : List ℕ) → with_bytes (with_bytes t a) b ≡ with_bytes t (a ++ b)
with_bytes-append None a b = refl
with_bytes-append (Some f) a b = ap Some (with_more-append f a b)

with_more-nil : (f : Option Made) → f ≡ with_more f []
with_more-nil None = refl
with_more-nil (Some m) = ap (λ l. Some (record m { bytes = l })) (sym (append-nil m.bytes))

pub with_bytes-nil : (t : Told) → t ≡ with_bytes t []
with_bytes-nil None = refl
with_bytes-nil (Some f) = ap Some (with_more-nil f)

pub added_more : (o0 o1 o2 : Told) (p : List ℕ) (at k : ℕ) → o1 ≡ with_bytes o0 (take at p) → o2 ≡ with_bytes o1 (take k (drop at p)) → o2 ≡ with_bytes o0 (take (at + k) p)
added_more o0 o1 o2 p at k e f =
    f ∙ ap (λ o. with_bytes o (take k (drop at p))) e ∙ with_bytes-append o0 (take at p) (take k (drop at p)) ∙ ap (with_bytes o0) (sym (take-add at k p))

-- nothing is held back and nothing was taken
pub none_written : (t : Told) → IsWritten t t [] []
none_written t = record { front = []; file = with_bytes-nil t; split = refl }

-- what is held back grows with the lines
pub held_more : (old new : Told) (held lines more : List ℕ) → IsWritten old new held lines → IsWritten old new (held ++ more) (lines ++ more)
held_more old new held lines more w = record { front = w.front; file = w.file; split = ap (λ l. l ++ more) w.split ∙ append_assoc w.front held more }

-- all that is held back is taken
pub held_taken : (old mid new : Told) (held lines : List ℕ) → IsWritten old mid held lines → new ≡ with_bytes mid held → IsWritten old new [] lines
held_taken old mid new held lines w e = record {
  front = w.front ++ held;
  file = e ∙ ap (λ t. with_bytes t held) w.file ∙ with_bytes-append old w.front held;
  split = w.split ∙ sym (append-nil (w.front ++ held));
}

-- a list in front of others is their front
pub front_of : (old new : Told) (front more lines : List ℕ) → new ≡ with_bytes old front → lines ≡ front ++ more → AddsFront old new lines
front_of old new front more lines e s = record {
  count = length front;
  within = omega (arith, ap length s, length-append front more);
  bytes = e ∙ ap (with_bytes old) (sym (ap (take (length front)) s ∙ take_at front more (length front) refl));
}

-- a front of what is held back is taken
pub held_front : (old mid new : Told) (held lines : List ℕ) → IsWritten old mid held lines → AddsFront mid new held → AddsFront old new lines
held_front old mid new held lines w f =
    let cut : held ≡ take f.count held ++ drop f.count held = sym (take-append-drop f.count held) in
    front_of old new (w.front ++ take f.count held) (drop f.count held) lines
    (f.bytes ∙ ap (λ t. with_bytes t (take f.count held)) w.file ∙ with_bytes-append old w.front (take f.count held))
    (w.split ∙ ap (λ l. w.front ++ l) cut ∙ sym (append_assoc w.front (take f.count held) (drop f.count held)))

-- a front is one of more
pub front_more : (old new : Told) (lines more all : List ℕ) → AddsFront old new lines → all ≡ lines ++ more → AddsFront old new all
front_more old new lines more all f e = record {
  count = f.count;
  within = omega (arith, f.within, ap length e, length-append lines more);
  bytes = f.bytes ∙ ap (with_bytes old) (sym (ap (take f.count) e ∙ take-append-le f.count lines more f.within));
}

pub written_front : (old new : Told) (held lines : List ℕ) → IsWritten old new held lines → AddsFront old new lines
written_front old new held lines w = front_of old new w.front held lines w.file w.split

-- ---- lines of entries
pub log_lines-append : (id : ℕ) (a b : List Entry) → log_lines id (a ++ b) ≡ log_lines id a ++ log_lines (id + length a) b
log_lines-append id [] b = ap (λ n. log_lines n b) (omega arith)
log_lines-append id (e ∷ a) b =
    let n : id + 1 + length a ≡ id + suc (length a) = omega arith in
    ap (λ l. entry_line id e ++ l) (log_lines-append (id + 1) a b ∙ ap (λ k. log_lines (id + 1) a ++ log_lines k b) n) ∙ sym (append_assoc (entry_line id e) (log_lines (id + 1) a) (log_lines (id + suc (length a)) b))

pub log_split : (id i : ℕ) (entries : List Entry) → log_lines id entries ≡ log_lines id (take i entries) ++ log_lines (id + length (take i entries)) (drop i entries)
log_split id i entries = ap (log_lines id) (sym (take-append-drop i entries)) ∙ log_lines-append id (take i entries) (drop i entries)

pub log_more : (id i : ℕ) (entries : List Entry) (e : Entry) → length (take i entries) ≡ i → log_lines id (take i entries ++ e ∷ []) ≡ log_lines id (take i entries) ++ entry_line (id + i) e
log_more id i entries e n =
    log_lines-append id (take i entries) (e ∷ []) ∙ ap (λ k. log_lines id (take i entries) ++ (entry_line (id + k) e ++ [])) n ∙ ap (λ l. log_lines id (take i entries) ++ l) (append-nil (entry_line (id + i) e))

pub step_log : (id i : ℕ) (entries : List Entry) (e : Entry) → i < length entries → e ≡ get_or entries i e → log_lines id (take (i + 1) entries) ≡ log_lines id (take i entries) ++ entry_line (id + i) e
step_log id i entries e lt is =
    ap (log_lines id) (take_more entries i e lt ∙ ap (λ x. take i entries ++ x ∷ []) (sym is)) ∙ log_more id i entries e (length-take-le i entries (omega (arith, lt)))

-- ---- errors
pub on_err : {T E P : Type 0} (r : Result T E) → P → OnErr r P
on_err (Ok x) p = tt
on_err (Err e) p = p

pub on_err_map : {T E P Q : Type 0} (r : Result T E) → (P → Q) → OnErr r P → OnErr r Q
on_err_map (Ok x) f p = tt
on_err_map (Err e) f p = f p

pub kept_front : (old mid new : Told) (name : List ℕ) (o : Option (List ℕ)) (text : List ℕ) → o ≡ Some name → mid ≡ made_as old name → AddsFront mid new text → IsFrontOf old new o text
kept_front old mid new name o text is made f =
    inr (take f.count text, drop f.count text, sym (take-append-drop f.count text), f.bytes ∙ ap (λ t. with_bytes t (take f.count text)) made ∙ sym (ap (λ n. kept_as old n (take f.count text)) is))
