-- What sites, decisions and pairs are found again by in a set of keys.
use Rattle.std.specs.Prelude.{ℕ, Bool, ◌&&◌, eqb, List}
use Rattle.std.specs.List.{list_any}
use Rattle.gc0_base.specs.declared.site.Site.{Site}
use Rattle.gc0_base.specs.declared.site.Kind.{Kind}
use Rattle.gc0_base.specs.declared.site.Decision.{Decision}
use Rattle.gc0_base.specs.declared.site.Part.{Part}
use Rattle.core_meaning.specs.CoreSited.{kind_number}
use Rattle.assumption_log.specs.declared.pairs.PairKey.{PairKey}
use Rattle.assumption_log.specs.PairKeys.{pair_key}
use Rattle.check_placement.specs.declared.keys.SiteKey.{SiteKey}
use Rattle.check_placement.specs.declared.keys.DecisionKey.{DecisionKey}

abbrev pub kind_key : Kind → ℕ
kind_key k = kind_number k

abbrev pub site_key : Site → SiteKey
site_key site = record { function = site.function; kind = kind_number site.kind; ordinal = site.ordinal }

abbrev pub decision_key : Decision → DecisionKey
decision_key d = record { function = d.function; number = d.number }

-- whether the key of a decision is among these
abbrev pub has_decision : Decision → List DecisionKey → Bool
has_decision d keys = list_any (λ k. eqb d.function k.function && eqb d.number k.number) keys

-- whether the key of a pair is among these
abbrev pub same_key : PairKey → PairKey → Bool
same_key a b = eqb a.function b.function && (eqb a.kind b.kind && (eqb a.ordinal b.ordinal && (eqb a.part_kind b.part_kind && eqb a.part_number b.part_number)))

abbrev pub has_pair_key : Site → Part → List PairKey → Bool
has_pair_key site part keys = list_any (same_key (pair_key site part)) keys
