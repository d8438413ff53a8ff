-- The register was fed the octets passed, and the table is right.
use Rattle.std.proofs.Common.{◌≡◌, take}
use Rattle.uslp_checksum.specs.Checksum.{feed, bits}
use Rattle.uslp_checksum.proofs.Table.{Good}
use Rattle.uslp_checksum.proofs.update_by_table.Given as goal

abbrev pub invariant-loop-octet : goal.invariant-loop-octet
invariant-loop-octet l = (l.current ≡ feed l.register (bits (take l.octet-index l.message))) × Good l.table
