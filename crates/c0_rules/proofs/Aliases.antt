-- Tables without their typedefs, as typedefs come into them and are set back.
use Rattle.std.proofs.Common.{◌≡◌, refl, ap, ◌∙◌}
use Rattle.parsed_tree.specs.Tree.{ItemTree, struct_name, struct_item, typedef_item, prototype_item, function_item, predicates_item}
use Rattle.c0_names.specs.declared.tables.TypedNames.{TypedNames}
use Rattle.c0_names.specs.declared.tables.Tables.{Tables}
use Rattle.c0_names.specs.Tables.{no_types, with_alias}
use Rattle.c0_rules.specs.Rules.{unaliased}

rest_of : (t : Tables) (i : ItemTree) → unaliased (with_alias t i) ≡ unaliased t
rest_of t (struct_name p n) = refl
rest_of t (struct_item p n fs) = refl
rest_of t (typedef_item p n name) = refl
rest_of t (prototype_item h cs) = refl
rest_of t (function_item h cs ss e) = refl
rest_of t (predicates_item p qs) = refl

pub rest_kept : (t t2 t0 : Tables) (i : ItemTree) → t2 ≡ with_alias t i → unaliased t ≡ unaliased t0 → unaliased t2 ≡ unaliased t0
rest_kept t t2 t0 i e h = ap unaliased e ∙ rest_of t i ∙ h

-- with the typedefs from before, they are the tables from before
pub back : (t t1 t2 : Tables) → unaliased t1 ≡ unaliased (unaliased t) → t2 ≡ record t1 { aliases = t.aliases } → t2 ≡ t
back t t1 t2 h e = e ∙ ap (λ x. let made : Tables = record x { aliases = t.aliases } in made) h
