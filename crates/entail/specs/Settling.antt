-- By which nodes the answer of a question can be read off.
use Rattle.std.specs.Prelude.{◌≡◌, true, false, List, slice_get, Some, ◌⊎◌}
use Rattle.word_terms.specs.declared.node.TermId.{TermId}
use Rattle.word_terms.specs.declared.node.Op2.TheVariants as op2
use Rattle.word_terms.specs.declared.node.Node.{Node}
use Rattle.word_terms.specs.declared.node.Node.TheVariants as node

-- a claim that is the constant true, or says that a term equals itself
abbrev pub IsEvident : Node → Type 0
IsEvident n = (n ≡ node.Truth true) ⊎ ((part : TermId) × (n ≡ node.Binary op2.Equal part part))

-- a fact that is the claim, or the constant false
abbrev pub Settles : List Node → TermId → TermId → Type 0
Settles nodes claim fact = (fact ≡ claim) ⊎ (slice_get nodes fact.0 ≡ Some (node.Truth false))
