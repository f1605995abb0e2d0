-- What a site is found again by in a set of those that were seen.
use Rattle.gc0_base.specs.declared.site.Site.{Site}
use Rattle.core_meaning.specs.CoreSited.{kind_number}
use Rattle.core_tables.specs.declared.apart.SiteKey.{SiteKey}

abbrev pub key_of : Site → SiteKey
key_of site = record { function = site.function; kind = kind_number site.kind; ordinal = site.ordinal }
