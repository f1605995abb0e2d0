use Rattle.std.proofs.Common.{rules, ap, ◌∙◌, cond, count_by}
use Rattle.std.proofs.lemmas.List.Sorted.{IsNonDecreasingBy-from_sort_by_key, sum_by-IsPermutation}
use Rattle.gc0_tree.specs.Sites.{text_key, is_before}
use Rattle.gc0_tree.proofs.numbers.sorted_places.Goals as goal

pub returns : goal.returns
returns c = (
  IsNonDecreasingBy-from_sort_by_key text_key c.sort_unstable_by_key.new.self.items c.sort_unstable_by_key.ensures.sorted (λ a r q k. search rules),
  search rules,
  λ at. sum_by-IsPermutation (λ token. cond (is_before token at) 1 0) _ _ c.sort_unstable_by_key.ensures.permutation ∙ ap (λ l. count_by (λ token. is_before token at) l) c.in_ok-places.ensures,
)
