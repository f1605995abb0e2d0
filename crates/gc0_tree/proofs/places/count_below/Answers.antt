use Rattle.std.proofs.Common.{rules, arith, nat_lt}
use Rattle.std.proofs.lemmas.List.Sorted.{IsPartitionPoint-from_clause, IsPartitionedBy-ltb}
use Rattle.gc0_tree.specs.Sites.{text_key}
use Rattle.gc0_tree.proofs.Counts.{counted}
use Rattle.gc0_tree.proofs.places.count_below.Goals as goal

pub returns : goal.returns
returns c =
    let parted = IsPartitionedBy-ltb text_key c.args.places.now c.args.bound c.requires.sorted in
    let point = IsPartitionPoint-from_clause (λ p. nat_lt (text_key p) c.args.bound) c.args.places.now c.partition_point.result c.partition_point.ensures.partitioned parted (λ a r q k. search rules) in
    counted (λ p. nat_lt (text_key p) c.args.bound) c.args.places.now c.partition_point.result c.partition_point.ensures.bound (λ k d lt. point.0 k d (omega arith) lt) (λ k d low high. point.1 k d low high)
