-- What the search leaves of the proof of `kept`.
use Rattle.std.proofs.Common.{◌≡◌, ◌&&◌, eqb, Bool, List, Some, None, map, sym, ap, subst, ◌∙◌}
use Rattle.std.specs.Prelude.{position, slice_get}
use Rattle.check_placement.specs.declared.types.PlacedAt.{PlacedAt}
use Rattle.check_placement.specs.declared.keys.SiteKey.{SiteKey}
use Rattle.check_placement.specs.Viewed.{guarded_view, parts_in}
use Rattle.check_placement.proofs.Sites.{is_at, kept_none, kept_some}
use Rattle.check_placement.proofs.types.Placement.kept.Goals as goal

-- whether a key is this one
abbrev same_key : SiteKey → SiteKey → Bool
same_key a b = eqb a.function b.function && (eqb a.kind b.kind && eqb a.ordinal b.ordinal)

pub returns-in-None : goal.returns-in-None
returns-in-None c =
    let told : position (is_at c.args.site) c.args.self.now.keys.keys ≡ None =
    sym (subst (λ (k : SiteKey). None ≡ position (same_key k) c.args.self.now.keys.keys) c.site_key.ensures c.in-None.ensures.index) in
    kept_none c.args.site c.args.self.now.sites (sym (ap (position (is_at c.args.site)) c.args.self.now.keys_right) ∙ told)

pub returns-in-Some : goal.returns-in-Some
returns-in-Some c =
    let told : position (is_at c.args.site) c.args.self.now.keys.keys ≡ Some c.in-Some.index =
    sym (subst (λ (k : SiteKey). Some c.in-Some.index ≡ position (same_key k) c.args.self.now.keys.keys) c.site_key.ensures c.in-Some.ensures.index) in
    ap (map guarded_view) c.parts_at.ensures
    ∙ ap (λ (l : List PlacedAt). map guarded_view (parts_in (slice_get l c.in-Some.index))) c.as_slice.ensures
    ∙ kept_some c.args.site c.args.self.now.sites c.in-Some.index (sym (ap (position (is_at c.args.site)) c.args.self.now.keys_right) ∙ told)
