-- At each `return` the tests that led there say which law of `header_reading` holds.
use Rattle.std.proofs.Common.{arith, ◌≡◌, refl, ap, sym, ◌∙◌, ℕ, List, ◌+◌, ◌-◌, ◌%◌, ◌^◌, ◌<◌, ◌≤◌, length, take, drop, get_or}
use lib.Dec.{lit≤}
use Rattle.uslp_octets.specs.Octets.{AreOctets, word}
use Rattle.uslp_octets.proofs.Laws.{word_part, word_fits}
use Rattle.uslp_kinds.specs.Outcome.{done}
use Rattle.uslp_primary_header.proofs.ReadPaths.{reading_truncated, reading_short_7, reading_version, reading_short_count, reading_done}
use Rattle.uslp_primary_header.proofs.PrimaryHeader.from_bytes.Goals as goal

octs : (s : List ℕ) → ((k : ℕ) → get_or s k 0 < 256) → AreOctets s
octs s h i = h i

-- the number of the first seven octets
fixed : (s : List ℕ) (n : ℕ) → AreOctets s → 7 ≤ length s → n ≡ word 0 (length (take 7 s)) (take 7 s) % 2 ^ 64 → n ≡ word 0 7 s
fixed s n o l e = e ∙ ap (λ (m : ℕ). m % 2 ^ 64) (word_part 0 7 s l) ∙ word_fits s 0 o 7 (lit≤ tt)

-- the count, at most seven octets, fits a machine number
count_fits : (s : List ℕ) → AreOctets s → (w : ℕ) → w < 8 → 7 + w ≤ length s
    → word 0 (length (take (7 + w - 7) (drop 7 s))) (take (7 + w - 7) (drop 7 s)) % 2 ^ 64 ≡ word 7 w s
count_fits s o w h l = ap (λ (m : ℕ). m % 2 ^ 64) (word_part 7 w s l) ∙ word_fits s 7 o w (omega arith)

pub returns-then-buf-eq1 : goal.returns-then-buf-eq1
returns-then-buf-eq1 c =
    sym (reading_truncated _ (λ k. omega (arith, c.type_inv.buf k)) _ refl (omega arith) c.if-buf-eq1.true)

pub returns-then-found-lt-FIXED_LEN : goal.returns-then-found-lt-FIXED_LEN
returns-then-found-lt-FIXED_LEN c =
    sym
    (reading_short_7 _ (λ k. omega (arith, c.type_inv.buf k)) _ refl (omega arith) c.if-buf-eq1.false
    c.if-found-lt-FIXED_LEN.true)

pub returns-then-version-ne-USLP_VERSION_NUMBER : goal.returns-then-version-ne-USLP_VERSION_NUMBER
returns-then-version-ne-USLP_VERSION_NUMBER c =
    let o : AreOctets c.args.buf.now = λ k. omega (arith, c.type_inv.buf k) in
    sym
    (reading_version _ o _ (fixed _ _ o c.if-found-lt-FIXED_LEN.false c.be_number-fixed.ensures) (omega arith)
    c.if-buf-eq1.false c.if-found-lt-FIXED_LEN.false c.if-version-ne-USLP_VERSION_NUMBER.true)

pub returns-then-found-expected : goal.returns-then-found-expected
returns-then-found-expected c =
    let o : AreOctets c.args.buf.now = λ k. omega (arith, c.type_inv.buf k) in
    sym
    (reading_short_count _ o _ (fixed _ _ o c.if-found-lt-FIXED_LEN.false c.be_number-fixed.ensures) (omega arith)
    c.if-buf-eq1.false c.if-found-lt-FIXED_LEN.false c.if-version-ne-USLP_VERSION_NUMBER.false c.if-found-expected.true)

pub returns : goal.returns
returns c =
    let o : AreOctets c.args.buf.now = λ k. omega (arith, c.type_inv.buf k) in
    ap done c.header_of.ensures
    ∙ sym
    (reading_done _ o _ (fixed _ _ o c.if-found-lt-FIXED_LEN.false c.be_number-fixed.ensures) (omega arith)
    c.if-buf-eq1.false c.if-found-lt-FIXED_LEN.false c.if-version-ne-USLP_VERSION_NUMBER.false c.if-found-expected.false
    (c.be_number.ensures ∙ count_fits _ o (c.be_number-fixed.result % 8) (omega arith) c.if-found-expected.false))
