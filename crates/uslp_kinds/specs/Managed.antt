-- What both ends of a link agree on beforehand, the standard's managed parameters (docs/RULES.md, section 1.3): the two everyday values.
use Rattle.std.specs.Prelude.{true, false}
use Rattle.uslp_kinds.specs.declared.ManagedParameters.{ManagedParameters}

abbrev pub fecf : ManagedParameters
fecf = record { has_fecf = true }

abbrev pub no_fecf : ManagedParameters
no_fecf = record { has_fecf = false }
