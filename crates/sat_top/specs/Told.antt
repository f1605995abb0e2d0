-- A file that is made anew, as far as it is told. This project's own.
use Rattle.std.specs.Prelude.{◌≡◌, ℕ, Bool, if◌then◌else◌, ◌≤◌, List, [], ◌++◌, length, take, Option, Some, None, Result, MatchResult}

-- a file that was made: its name, and the bytes that it took since
pub record Made : Type 0 where
  pub name : List ℕ
  pub bytes : List ℕ

-- Some of the file that was made last, if there is one; None where it isn't told
abbrev pub Told : Type 0
Told = Option (Option Made)

-- a new file of this name
abbrev pub made_as : Told → List ℕ → Told
made_as None name = None
made_as (Some file) name = Some (Some (record { name = name; bytes = [] }))

abbrev pub with_more : Option Made → List ℕ → Option Made
with_more None piece = None
with_more (Some made) piece = Some (record made { bytes = made.bytes ++ piece })

-- the file with a piece at its end
abbrev pub with_bytes : Told → List ℕ → Told
with_bytes None piece = None
with_bytes (Some file) piece = Some (with_more file piece)

-- a new file, or at a fault what was there
abbrev pub Makes : {T E : Type 0} → Told → Told → Result T E → List ℕ → Type 0
Makes old new result name = MatchResult result (λ _. new ≡ made_as old name) (λ _. new ≡ old)

-- a write took the first bytes of the piece, and nothing at a fault
abbrev pub Adds : {E : Type 0} → Told → Told → Result ℕ E → List ℕ → Type 0
Adds old new result piece = MatchResult result (λ k. new ≡ with_bytes old (take k piece)) (λ _. new ≡ old)

-- a front of the piece was taken
pub record AddsFront (old new : Told) (piece : List ℕ) : Type 0 where
  pub count : ℕ
  pub within : count ≤ length piece
  pub bytes : new ≡ with_bytes old (take count piece)

-- all of the piece was taken, or at a fault a front of it
abbrev pub AddsAll : {T E : Type 0} → Told → Told → Result T E → List ℕ → Type 0
AddsAll old new result piece = MatchResult result (λ _. new ≡ with_bytes old piece) (λ _. AddsFront old new piece)

-- the file took a front of the lines, and the rest of them is held back
pub record IsWritten (old new : Told) (held lines : List ℕ) : Type 0 where
  pub front : List ℕ
  pub file : new ≡ with_bytes old front
  pub split : lines ≡ front ++ held

-- the file of this name with this content, where one is wanted
abbrev pub kept_as : Told → Option (List ℕ) → List ℕ → Told
kept_as old None text = old
kept_as old (Some name) text = with_bytes (made_as old name) text

-- a file as it is kept: whether there is one, its name and its bytes
abbrev pub made_of : Bool → List ℕ → List ℕ → Option Made
made_of made name bytes = if made then Some (record { name = name; bytes = bytes }) else None
