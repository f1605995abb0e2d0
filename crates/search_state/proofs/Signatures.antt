-- Signatures of literals, and what they say of the literals.
use Rattle.std.proofs.Common.{◌≡◌, ◌∙◌, ℕ, List, [], ◌∷◌, ◌++◌, arith, sym, ap, inl, inr}
use Rattle.std.specs.Int.Bits.{bit_or, or_comm, or_self, or_zero_l}
use Rattle.std.proofs.lemmas.Nat.Bits.{bit_at_or, same_from_bits}
use Rattle.std.proofs.lemmas.List.Elements.{Contains-push, Contains-append_left, Contains-push_cases}
use Rattle.sat_check.specs.declared.clause.Lit.{Lit}
use Rattle.sat_check.specs.Literals.{Contains-nil}
use Rattle.search_state.specs.Shelves.{HasBits, IsSignature, bit_of}

or_assoc : (a b c : ℕ) → bit_or (bit_or a b) c ≡ bit_or a (bit_or b c)
or_assoc a b c =
    same_from_bits (bit_or (bit_or a b) c) (bit_or a (bit_or b c))
    (λ i. omega (arith, bit_at_or (bit_or a b) c i, bit_at_or a b i, bit_at_or a (bit_or b c) i, bit_at_or b c i))

-- a bit that was set is still set where another is
still : (a b c : ℕ) → bit_or a c ≡ c → bit_or a (bit_or b c) ≡ bit_or b c
still a b c set = sym (or_assoc a b c) ∙ ap (λ (n : ℕ). bit_or n c) (or_comm a b) ∙ or_assoc b a c ∙ ap (bit_or b) set

pub IsSignature-none : IsSignature 0 []
IsSignature-none whole all = or_zero_l whole

pub HasBits-none : HasBits 0 []
HasBits-none lit stands = absurd (Contains-nil lit stands)

pub IsSignature-push : (signature : ℕ) (lits : List Lit) (lit : Lit) → IsSignature signature lits → IsSignature (bit_or (bit_of lit) signature) (lits ++ lit ∷ [])
IsSignature-push signature lits lit is whole all =
    or_assoc (bit_of lit) signature whole
    ∙ ap (bit_or (bit_of lit)) (is whole (λ other stands. all other (Contains-append_left lits (lit ∷ []) other stands)))
    ∙ all lit (Contains-push lits lit)

pub HasBits-push : (signature : ℕ) (lits : List Lit) (lit : Lit) → HasBits signature lits → HasBits (bit_or (bit_of lit) signature) (lits ++ lit ∷ [])
HasBits-push signature lits lit has other stands =
    elim (Contains-push_cases lits lit other stands) [
      | inl before ↦ still (bit_of other) (bit_of lit) signature (has other before)
      | inr same ↦
          ap (λ (l : Lit). bit_or (bit_of l) (bit_or (bit_of lit) signature)) (sym same)
          ∙ sym (or_assoc (bit_of lit) (bit_of lit) signature)
          ∙ ap (λ (n : ℕ). bit_or n signature) (or_self (bit_of lit))
    ]
