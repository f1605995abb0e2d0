-- What the search leaves of the proof of `put_part`.
use Rattle.std.proofs.Common.{◌≡◌, ◌&&◌, eqb, Bool, true, false, not, List, [], ◌∷◌, ◌++◌, set, get_or, refl, sym, ap, subst, ◌∙◌}
use Rattle.std.specs.Prelude.{if◌then◌else◌}
use Rattle.std.specs.List.{list_any, position_or_len}
use Rattle.check_placement.specs.declared.types.Guarded.{Guarded}
use Rattle.check_placement.specs.declared.types.PlacedAt.{PlacedAt}
use Rattle.check_placement.specs.declared.keys.SiteKey.{SiteKey}
use Rattle.check_placement.specs.FoundBy.{site_key}
use Rattle.check_placement.specs.Viewed.{keys_of}
use Rattle.check_placement.proofs.Sites.{is_here, put_keys, put_old, put_fresh}
use Rattle.check_placement.proofs.placing.put_part.Goals.{then-added+in_ok-push, else-added}
use Rattle.check_placement.proofs.placing.put_part.Goals as goal

-- whether a key is this one
abbrev same_key : SiteKey → SiteKey → Bool
same_key a b = eqb a.function b.function && (eqb a.kind b.kind && eqb a.ordinal b.ordinal)

was_new : (added seen : Bool) → added ≡ not seen → added ≡ true → seen ≡ false
was_new added true told new = sym new ∙ told
was_new added false told new = refl

was_seen : (added seen : Bool) → added ≡ not seen → added ≡ false → seen ≡ true
was_seen added true told old = refl
was_seen added false told old = sym old ∙ told

pub returns-clause-sites : goal.returns-clause-sites
returns-clause-sites c =
    let s = c.args.site in
    let g = c.args.guarded in
    let old = c.args.sites.now.items in
    let keys = c.args.keys.now.keys in
    let i = c.in_ok-index.index in
    let x = c.index_mut.result.now in
    let at : i ≡ position_or_len (is_here s g) (keys_of old) =
    subst (λ (l : List SiteKey). i ≡ position_or_len (is_here s g) l) c.requires (subst (λ (k : SiteKey). i ≡ position_or_len (same_key k) keys) c.site_key.ensures c.in_ok-index.ensures.index) in
    let told : c.in_ok-index.added ≡ not (list_any (is_here s g) (keys_of old)) =
    subst (λ (l : List SiteKey). c.in_ok-index.added ≡ not (list_any (is_here s g) l)) c.requires
    (subst (λ (k : SiteKey). c.in_ok-index.added ≡ not (list_any (same_key k) keys)) c.site_key.ensures c.in_ok-index.ensures.added) in
    ap (λ (ps : List Guarded). set c.if-added.sites.items i (record { site = x.site; parts = ps })) c.in_ok-push-2.ensures.ok
    ∙ elim c.if-added.branch [
      | then-added+in_ok-push w ↦
          let items : c.if-added.sites.items ≡ old ++ record { site = s; parts = [] } ∷ [] =
          ap (λ v. v.items) w.sites-is ∙ w.in_ok-push.ensures.items ∙ ap (λ (ps : List Guarded). old ++ record { site = s; parts = ps } ∷ []) w.new-parts.ensures in
          ap (λ (l : List PlacedAt). set l i (record { site = x.site; parts = x.parts ++ g ∷ [] })) items
          ∙ put_fresh s g old i x at (was_new _ _ told w.if-added.true) (subst (λ (l : List PlacedAt). x ≡ get_or l i x) items c.index_mut.ensures.value)
      | else-added w ↦
          let items : c.if-added.sites.items ≡ old = ap (λ v. v.items) w.sites-is in
          ap (λ (l : List PlacedAt). set l i (record { site = x.site; parts = x.parts ++ g ∷ [] })) items
          ∙ put_old s g old i x at (was_seen _ _ told w.if-added.false) (subst (λ (l : List PlacedAt). x ≡ get_or l i x) items c.index_mut.ensures.value)
    ]

pub returns-clause-keys : goal.returns-clause-keys
returns-clause-keys c =
    let s = c.args.site in
    let g = c.args.guarded in
    let old = c.args.sites.now.items in
    c.in_ok-index.ensures.keys
    ∙ ap (λ (k : SiteKey). if list_any (same_key k) c.args.keys.now.keys then c.args.keys.now.keys else c.args.keys.now.keys ++ k ∷ []) c.site_key.ensures
    ∙ ap (λ (l : List SiteKey). if list_any (is_here s g) l then l else l ++ site_key s ∷ []) c.requires
    ∙ put_keys s g old ∙ ap keys_of (sym (returns-clause-sites c))
