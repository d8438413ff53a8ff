use Rattle.std.proofs.Common.{◌≡◌, arith, refl, sym, ap, ◌∙◌, ℕ, ◌*◌, ◌/◌, ◌%◌, ◌^◌, ◌<◌, get_or}
use Rattle.std.specs.Int.Bits.{bit_xor}
use lib.Bits.{xor_lt}
use Rattle.uslp_checksum.specs.Checksum.{bits, feed, lows, step, bit}
use Rattle.uslp_checksum.proofs.Message.{feed_octet, feed_more}
use Rattle.uslp_checksum.proofs.Turns.{by_table}
use Rattle.uslp_checksum.proofs.Table.{Good, right, entry}
use Rattle.uslp_checksum.specs.declared.entries.TheConstants.{TABLE}
use Rattle.uslp_checksum.proofs.update_by_table.Goals as goal

-- the last part is the one computed test of the table: every entry is right
pub loop-octet-init : goal.loop-octet-init
unfolding bits feed Good right lows step bit
loop-octet-init c = (refl, tt)

pub loop-octet-preserved : goal.loop-octet-preserved
loop-octet-preserved c =
    let r = c.args.register in
    let m = c.args.message.now in
    let l = c.loop-octet in
    let o : ℕ = get_or m l.octet-index 0 in
    let octet : o < 256 = omega (arith, c.type_inv.message l.octet-index) in
    let k : ℕ = bit_xor (l.current / 256) o in
    let at : c.from-at.result ≡ k = c.from-at.ensures ∙ ap (bit_xor (l.current / 256)) c.from.ensures in
    let place : k < 256 = xor_lt 8 (l.current / 256) o (omega arith) octet in (
      ap (λ (x : ℕ). bit_xor (l.current * 256 % 2 ^ 16) (get_or TABLE x 0)) at
          ∙ ap (bit_xor (l.current * 256 % 2 ^ 16)) (entry _ l.invariant.1 k place place)
          ∙ sym (by_table l.current o)
          ∙ sym (feed_octet l.current o octet)
          ∙ ap (λ (x : ℕ). feed x (lows 8 o)) l.invariant.0
          ∙ sym (feed_more r m l.octet-index (omega arith)),
      l.invariant.1,
    )
