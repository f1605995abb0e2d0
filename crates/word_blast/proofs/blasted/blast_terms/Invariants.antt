use Rattle.std.proofs.Common.{◌≡◌, drop, map}
use Rattle.word_terms.specs.Weights.{is_under}
use Rattle.word_blast.specs.Circuits.{blasted}
use Rattle.word_blast.proofs.blasted.blast_terms.Given as goal

abbrev pub invariant-loop-place : goal.invariant-loop-place
invariant-loop-place l =
    blasted (is_under l.nodes (map (λ r. r.0) l.roots)) l.place (drop l.place l.nodes) l.blast ≡ blasted (is_under l.nodes (map (λ r. r.0) l.roots)) 0 l.nodes l.initial.blast
