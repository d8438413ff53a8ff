use Rattle.std.proofs.Common.{◌≡◌, arith, sym, ap, ap₂, ◌∙◌, ℕ, ◌+◌, ◌*◌, ◌/◌, ◌%◌, ◌<◌, List, [], length, take, drop, get_or, length-drop, le_refl}
use Rattle.std.proofs.lemmas.Slice.{between_to_end}
use Rattle.std.specs.Simd.{first_chunks}
use Rattle.uslp_octets.specs.Octets.{word}
use Rattle.uslp_octets.proofs.Laws.{word_drop}
use Rattle.uslp_checksum.specs.Checksum.{bits, feed}
use Rattle.uslp_checksum.specs.Words.{fed}
use Rattle.uslp_checksum.proofs.Lows.{feed_word, chunk_word, big_endian}
use Rattle.uslp_checksum.proofs.update.Goals as goal

pub loop-word-preserved : goal.loop-word-preserved
loop-word-preserved c =
    let m = c.args.message.now in
    let l = c.loop-word in
    let i = l.word-index in
    let n : ℕ = length m % 8 + 8 in
    let s : List ℕ = drop n m in
    let part = between_to_end m n (length m) (le_refl (length m)) in
    let words = c.as_chunks.ensures.front ∙ ap (λ (x : List ℕ). first_chunks 8 (length x / 8) x) part in
    let more : i < length s / 8 = omega (arith, c.as_chunks.ensures.front_len, ap length part) in
    let w : c.from_be_bytes.result ≡ word (n + 8 * i) 8 m =
    c.from_be_bytes.ensures ∙ big_endian (get_or c.as_chunks.result.0.now i []) ∙ ap (λ (x : List (List ℕ)). word 0 8 (get_or x i [])) words
    ∙ chunk_word (length s / 8) i s more ∙ word_drop n (8 * i) 8 m in
    let next : n + 8 * i + 8 ≡ n + 8 * (i + 1) = omega arith in
    c.take_word-wide.ensures ∙ ap₂ fed l.invariant w
    ∙ sym (feed_word m (λ j. omega (arith, c.type_inv.message j)) (n + 8 * i) c.args.register 8 (omega (arith, more, length-drop n m)))
    ∙ ap (λ (j : ℕ). feed c.args.register (bits (take j m))) next
