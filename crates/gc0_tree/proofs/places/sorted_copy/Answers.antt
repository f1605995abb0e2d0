use Rattle.std.proofs.Common.{rules, ap, ◌∙◌, cond, count_by}
use Rattle.std.proofs.lemmas.List.Sorted.{IsNonDecreasingBy-from_sort_by_key, sum_by-IsPermutation}
use Rattle.gc0_tree.specs.Sites.{text_key}
use Rattle.gc0_tree.proofs.places.sorted_copy.Goals as goal

pub returns-clause-sorted : goal.returns-clause-sorted
returns-clause-sorted c = IsNonDecreasingBy-from_sort_by_key text_key c.sort_unstable_by_key.new.self.items c.sort_unstable_by_key.ensures.sorted (λ a r q k. search rules)

pub returns-clause-counts : goal.returns-clause-counts
returns-clause-counts c = λ test. sum_by-IsPermutation (λ token. cond (test token) 1 0) _ _ c.sort_unstable_by_key.ensures.permutation ∙ ap (λ l. count_by test l) c.in_ok-sorted.ensures.items
