-- What reads and writes do to bytes that may be told. This project's own.
-- Each effect is an equation between the bytes before and after, as far as they are told.
use Rattle.std.specs.Prelude.{◌≡◌, ℕ, ◌<◌, ◌≤◌, List, [], length, take, Option, Result, MatchResult, IfSome}
use Rattle.std.specs.Io.KnownBytes.{append_known, prepend_known}

-- a write took the first bytes of the piece, and nothing at a fault
abbrev pub Takes : {E : Type 0} → Option (List ℕ) → Option (List ℕ) → Result ℕ E → List ℕ → Type 0
Takes old new result piece =
    MatchResult result (λ k. new ≡ append_known old (take k piece)) (λ _. new ≡ old)

-- a write takes at least one byte of a piece that has one
abbrev pub TakesSome : {E : Type 0} → Result ℕ E → List ℕ → Type 0
TakesSome result piece =
    MatchResult result (λ k. (k ≤ length piece) × (0 < length piece → 0 < k)) (λ _. Unit {0})

-- a front of the piece was taken
pub record TakesFront (old new : Option (List ℕ)) (piece : List ℕ) : Type 0 where
  pub count : ℕ
  pub within : count ≤ length piece
  pub bytes : new ≡ append_known old (take count piece)

-- all of the piece was taken, or at a fault a front of it
abbrev pub TakesAll : {T E : Type 0} → Option (List ℕ) → Option (List ℕ) → Result T E → List ℕ → Type 0
TakesAll old new result piece =
    MatchResult result (λ _. new ≡ append_known old piece) (λ _. TakesFront old new piece)

-- a read gave the next bytes, and none only at the end or where there is no room
abbrev pub Gives : {E : Type 0} → Option (List ℕ) → Option (List ℕ) → Result ℕ E → List ℕ → Type 0
Gives old new result buffer =
    MatchResult result
    (λ k. (old ≡ prepend_known (take k buffer) new) × (k ≡ 0 → 0 < length buffer → IfSome old (λ left. left ≡ [])))
    (λ _. new ≡ old)
