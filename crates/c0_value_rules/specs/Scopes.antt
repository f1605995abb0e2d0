-- The locals in scope, and which of them every path has assigned.
-- Source: C0 Reference, "Scope" and "Initialization".
use Rattle.std.specs.Prelude.{ℕ, Bool, true, false, ◌||◌, ◌&&◌, not, List, [], ◌∷◌, ◌++◌, map, take, length, Option, Some, None, is_some, slice_get, slice_set, if◌then◌else◌}
use Rattle.std.specs.List.{zip}
use Rattle.std.specs.Option.{option_map, option_and_then, unwrap_or}
use Rattle.c0_names.specs.declared.types.ValueType.{ValueType}
use Rattle.c0_value_rules.specs.declared.scope.Standing.{Standing}
use Rattle.c0_value_rules.specs.declared.scope.Flow.{Flow}
use Rattle.c0_value_rules.specs.declared.scope.Scope.{Scope}
use Rattle.c0_value_rules.specs.declared.scope.Depth.{Depth}
use Rattle.c0_names.specs.Names.{last_place}

-- no locals, where a path leads
abbrev pub no_scope : Scope
no_scope = record { names = []; standings = []; flow = record { live = true; assigned = [] } }

-- the last local of a name counts
abbrev pub standing_of : Scope → List ℕ → Option Standing
standing_of scope name = option_and_then (slice_get scope.standings) (last_place scope.names name)

-- whether each path that leads here has assigned the local of this place: none leads behind a `return`
abbrev pub is_assigned : Flow → Option ℕ → Bool
is_assigned f None = false
is_assigned f (Some i) = not f.live || unwrap_or (slice_get f.assigned i) false

abbrev pub is_read_well : Scope → List ℕ → Bool
is_read_well scope name = is_assigned scope.flow (last_place scope.names name)

abbrev pub held_type : Scope → List ℕ → Option ValueType
held_type scope name = option_map (λ s. s.holds) (standing_of scope name)

-- the type of a local that is read
abbrev pub read_type : Scope → List ℕ → Option ValueType
read_type scope name = if is_read_well scope name then held_type scope name else None

abbrev pub scope_with : Scope → List ℕ → Standing → (assigned : Bool) → Scope
scope_with scope name s assigned = record scope { names = scope.names ++ name ∷ []; standings = scope.standings ++ s ∷ []; flow = record scope.flow { assigned = scope.flow.assigned ++ assigned ∷ [] } }

abbrev pub flow_with : Flow → Option ℕ → Flow
flow_with f None = f
flow_with f (Some i) = record f { assigned = slice_set f.assigned i true }

abbrev pub scope_assigned : Scope → List ℕ → Scope
scope_assigned scope name = record scope { flow = flow_with scope.flow (last_place scope.names name) }

-- no path leads on
abbrev pub ended : Scope → Scope
ended scope = record scope { flow = record scope.flow { live = false } }

-- how many locals there are
abbrev pub depth_of : Scope → Depth
depth_of scope = record { names = length scope.names; standings = length scope.standings; flags = length scope.flow.assigned }

abbrev pub cut : Depth → Scope → Scope
cut d scope = record scope { names = take d.names scope.names; standings = take d.standings scope.standings; flow = record scope.flow { assigned = take d.flags scope.flow.assigned } }

-- the locals of a block, behind those outside it, go with it
abbrev pub closed : (outer : Scope) → Scope → Scope
closed outer scope = cut (depth_of outer) scope

abbrev pub both_assigned : List Bool → List Bool → List Bool
both_assigned xs ys = map (λ p. p.0 && p.1) (zip xs ys)

-- where two paths meet, both have assigned a local; one that ended does not come there
abbrev pub joined : Flow → Flow → Flow
joined f g = if f.live then (if g.live then record f { assigned = both_assigned f.assigned g.assigned } else f) else g
