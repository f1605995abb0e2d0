-- What one more entry, of those that are walked from the last to the first, does to the keys that were seen.
use Rattle.std.proofs.Common.{◌≡◌, ℕ, suc, ◌+◌, Bool, true, false, if◌then◌else◌, ◌&&◌, ◌||◌, eqb, List, [], ◌∷◌, ◌++◌, drop, length, map, refl, sym, ap, subst, ◌∙◌, arith}
use Rattle.std.specs.List.{list_any}
use Rattle.std.proofs.lemmas.Bool.{and_parts, eqb-true}
use Rattle.std.proofs.lemmas.List.{length-append}
use Rattle.std.proofs.lemmas.List.Folds.{list_any-append}
use Rattle.indexmap.specs.IndexSet.{insert_key}
use Rattle.gc0_base.specs.declared.site.Site.{Site}
use Rattle.gc0_base.specs.declared.site.Part.{Part}
use Rattle.gc0_base.specs.declared.site.Part.TheVariants.{Value, Reach, Access, Whole, Separate}
use Rattle.core_meaning.specs.CoreSited.{same_kind, same_site}
use Rattle.core_checks.specs.Entries.{Entry}
use Rattle.core_checks.specs.Placements.{same_part}
use Rattle.assumption_log.specs.declared.Kept.{Kept}
use Rattle.assumption_log.specs.declared.pairs.PairKey.{PairKey}
use Rattle.assumption_log.specs.contracts.pairs.PairKeyPartialEq.TheImpl as equality
use Rattle.assumption_log.specs.Records.{kept_view, has_pair, count_pairs}
use Rattle.assumption_log.specs.PairKeys.{pair_key, part_kind, part_number}

parts_told : (a b : Part) → (eqb (part_kind a) (part_kind b) && eqb (part_number a) (part_number b)) ≡ same_part a b
parts_told (Value j) (Value k) = refl
parts_told (Value j) (Reach k) = refl
parts_told (Value j) Access = refl
parts_told (Value j) Whole = refl
parts_told (Value j) Separate = refl
parts_told (Reach j) (Value k) = refl
parts_told (Reach j) (Reach k) = refl
parts_told (Reach j) Access = refl
parts_told (Reach j) Whole = refl
parts_told (Reach j) Separate = refl
parts_told Access (Value k) = refl
parts_told Access (Reach k) = refl
parts_told Access Access = refl
parts_told Access Whole = refl
parts_told Access Separate = refl
parts_told Whole (Value k) = refl
parts_told Whole (Reach k) = refl
parts_told Whole Access = refl
parts_told Whole Whole = refl
parts_told Whole Separate = refl
parts_told Separate (Value k) = refl
parts_told Separate (Reach k) = refl
parts_told Separate Access = refl
parts_told Separate Whole = refl
parts_told Separate Separate = refl

grouped : (a b c d : Bool) → (a && (b && (c && d))) ≡ ((a && (b && c)) && d)
grouped true true c d = refl
grouped true false c d = refl
grouped false b c d = refl

-- pairs have one key exactly where they are the same
pub keys_told : (s t : Site) (p q : Part) → equality.ghosts.eq (pair_key s p) (pair_key t q) ≡ (same_site s t && same_part p q)
keys_told s t p q =
    grouped (eqb s.function t.function) (same_kind s.kind t.kind) (eqb s.ordinal t.ordinal) (eqb (part_kind p) (part_kind q) && eqb (part_number p) (part_number q))
    ∙ ap (λ b. same_site s t && b) (parts_told p q)

-- whether the key of a pair is among these
abbrev pub is_seen : List PairKey → Site → Part → Bool
is_seen keys site part = list_any (equality.ghosts.eq (pair_key site part)) keys

-- the keys are those of the entries
abbrev pub Finds : List PairKey → List Entry → Type 0
Finds keys behind = (site : Site) (part : Part) → is_seen keys site part ≡ has_pair site part behind

last_first : (a b : Bool) → (a || (b || false)) ≡ (b || a)
last_first true true = refl
last_first true false = refl
last_first false true = refl
last_first false false = refl

pub finds_none : Finds [] []
finds_none site part = refl

abbrev pub inserted : List PairKey → PairKey → List PairKey
inserted keys k = insert_key equality.ghosts.eq keys k

same_fields : (a b : PairKey) → a.function ≡ b.function → a.kind ≡ b.kind → a.ordinal ≡ b.ordinal → a.part_kind ≡ b.part_kind → a.part_number ≡ b.part_number → a ≡ b
same_fields a b f k o p n =
    ap (λ x. record a { function = x }) f ∙ ap (λ x. record a { function = b.function; kind = x }) k
    ∙ ap (λ x. record b { ordinal = x; part_kind = a.part_kind; part_number = a.part_number }) o
    ∙ ap (λ x. record b { part_kind = x; part_number = a.part_number }) p ∙ ap (λ x. record b { part_number = x }) n

-- keys that are equal are one
pub one_key : (a b : PairKey) → equality.ghosts.eq a b ≡ true → a ≡ b
one_key a b e =
    let h = and_parts (eqb a.function b.function) _ e in
    let k = and_parts (eqb a.kind b.kind) _ h.1 in
    let o = and_parts (eqb a.ordinal b.ordinal) _ k.1 in
    let p = and_parts (eqb a.part_kind b.part_kind) (eqb a.part_number b.part_number) o.1 in
    same_fields a b (eqb-true _ _ h.0) (eqb-true _ _ k.0) (eqb-true _ _ o.0) (eqb-true _ _ p.0) (eqb-true _ _ p.1)

module _ (keys : List PairKey) (behind : List Entry) (e : Entry) (finds : Finds keys behind) where
  -- the same pair was seen
  old_pair : is_seen keys e.site e.part ≡ true → Finds keys (e ∷ behind)
  old_pair seen site part = by_pair (same_site site e.site && same_part part e.part) refl
    where
      by_pair : (b : Bool) → (same_site site e.site && same_part part e.part) ≡ b → is_seen keys site part ≡ (b || has_pair site part behind)
      by_pair false q = finds site part
      by_pair true q =
          let same : pair_key site part ≡ pair_key e.site e.part = one_key _ _ (keys_told site e.site part e.part ∙ q) in
          ap (λ k. list_any (equality.ghosts.eq k) keys) same ∙ seen

  new_pair : Finds (keys ++ pair_key e.site e.part ∷ []) (e ∷ behind)
  new_pair site part =
      list_any-append (equality.ghosts.eq (pair_key site part)) keys (pair_key e.site e.part ∷ [])
      ∙ ap (λ b. b || (equality.ghosts.eq (pair_key site part) (pair_key e.site e.part) || false)) (finds site part)
      ∙ ap (λ b. has_pair site part behind || (b || false)) (keys_told site e.site part e.part)
      ∙ last_first (has_pair site part behind) (same_site site e.site && same_part part e.part)

  by_seen : (b : Bool) → is_seen keys e.site e.part ≡ b → Finds (if b then keys else keys ++ pair_key e.site e.part ∷ []) (e ∷ behind)
  by_seen true seen = old_pair seen
  by_seen false seen = new_pair

  pub finds_more : Finds (inserted keys (pair_key e.site e.part)) (e ∷ behind)
  finds_more = by_seen (is_seen keys e.site e.part) refl

  pub counts_more : length keys ≡ count_pairs behind → length (inserted keys (pair_key e.site e.part)) ≡ count_pairs (e ∷ behind)
  counts_more n = by (is_seen keys e.site e.part) (has_pair e.site e.part behind) (finds e.site e.part)
    where
      by : (b has : Bool) → b ≡ has → length (if b then keys else keys ++ pair_key e.site e.part ∷ []) ≡ (if has then count_pairs behind else suc (count_pairs behind))
      by true true same = n
      by false false same = omega (arith, length-append keys (pair_key e.site e.part ∷ []), n)
      by true false same = cc
      by false true same = cc

-- ---- the step from the entries behind a place to those from it on, by the key of the entry there
module _ (keys : List PairKey) (entries : List Kept) (i left : ℕ) (here : Kept) (k : PairKey)
    (key : k ≡ pair_key here.site here.part) (from_here : drop i entries ≡ here ∷ drop (i + 1) entries) (next : left ≡ i + 1)
    (finds : Finds keys (map kept_view (drop left entries))) where
  finds_behind : Finds keys (map kept_view (drop (i + 1) entries))
  finds_behind = subst (λ n. Finds keys (map kept_view (drop n entries))) next finds

  pub finds_from : Finds (inserted keys k) (map kept_view (drop i entries))
  finds_from =
      subst (λ l. Finds (inserted keys k) (map kept_view l)) (sym from_here)
      (subst (λ q. Finds (inserted keys q) (kept_view here ∷ map kept_view (drop (i + 1) entries))) (sym key)
      (finds_more keys (map kept_view (drop (i + 1) entries)) (kept_view here) finds_behind))

  pub counts_from : length keys ≡ count_pairs (map kept_view (drop left entries)) → length (inserted keys k) ≡ count_pairs (map kept_view (drop i entries))
  counts_from n =
      ap (λ q. length (inserted keys q)) key
      ∙ counts_more keys (map kept_view (drop (i + 1) entries)) (kept_view here) finds_behind (n ∙ ap (λ m. count_pairs (map kept_view (drop m entries))) next)
      ∙ sym (ap (λ l. count_pairs (map kept_view l)) from_here)
