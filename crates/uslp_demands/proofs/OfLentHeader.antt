-- The promises of the setters of `uslp_lent` settle each call, and shut out two tempting wrong answers of each function.
use mathlib.Core.Path.{◌≡◌, sym, ap, ◌∙◌}
use Prim.Native.Nat.{ℕ}
use mathlib.Core.List.{[]}
use native.Mathlib.Omega.{arith}
use denote.Ref.{MutBor}
use Rattle.uslp_kinds.specs.declared.Refusal.TheVariants.{BadCount, TooLong}
use Rattle.uslp_primary_header.specs.Header.{count_setting, length_setting, with_count, with_length}
use Rattle.uslp_primary_header.specs.declared.PrimaryHeader.{PrimaryHeader}
use Rattle.uslp_lent.specs.contracts.setters as contracts
use Rattle.uslp_demands.specs.Clause as clause
use Rattle.uslp_roundtrip.specs.Samples.{some}
use Rattle.uslp_demands.proofs.Alike.{alike, done_alike}
use Rattle.uslp_demands.proofs.Facts.{by_fact, shut}
use Rattle.std.specs.Prelude.{Ok, Err}

-- a header that is lent for writing
abbrev lent : PrimaryHeader → MutBor PrimaryHeader
lent h = record { ref_ptr = (0, 0); ghost_name = 0; now = h }

pub set_frame_len_settles : clause.Settles contracts.set_frame_len.ended (λ M 𝓤. contracts.set_frame_len.clauses)
set_frame_len_settles = by_fact _ _ (λ κs a x y s t. alike (done_alike {x = x.0} {y = y.0} (s.1 ∙ sym t.1)) (λ i. ((s.0 ∙ sym t.0) i, (tt, tt))))

-- says done and leaves the old length
pub set_frame_len_idle : clause.ShutsOut contracts.set_frame_len.ended (λ M 𝓤. contracts.set_frame_len.clauses) ([], tt) (lent some, (12, tt))
    (Ok tt, (some, (tt, tt)))
unfolding length_setting
set_frame_len_idle = shut _ _ (λ e. let z : ◌≡◌ {A = ℕ} 10 11 = ap (λ (h : PrimaryHeader). h.frame_len_field) e.0 in omega arith)

-- refuses 65,537 and leaves it wrapped
pub set_frame_len_wrapped : clause.ShutsOut contracts.set_frame_len.ended (λ M 𝓤. contracts.set_frame_len.clauses) ([], tt) (lent some, (65537, tt))
    (Err TooLong, (with_length 1 some, (tt, tt)))
unfolding length_setting
set_frame_len_wrapped = shut _ _ (λ e. let z : ◌≡◌ {A = ℕ} 0 10 = ap (λ (h : PrimaryHeader). h.frame_len_field) e.0 in omega arith)

pub set_vc_frame_count_settles : clause.Settles contracts.set_vc_frame_count.ended (λ M 𝓤. contracts.set_vc_frame_count.clauses)
set_vc_frame_count_settles = by_fact _ _
    (λ κs a x y s t. alike (done_alike {x = x.0} {y = y.0} (s.1 ∙ sym t.1)) (λ i. ((s.0 ∙ sym t.0) i, (tt, (tt, tt)))))

-- keeps the header's own width
pub set_vc_frame_count_own_width : clause.ShutsOut contracts.set_vc_frame_count.ended (λ M 𝓤. contracts.set_vc_frame_count.clauses) ([], tt)
    (lent some, (2, (9, tt))) (Ok tt, (with_count 1 9 some, (tt, (tt, tt))))
unfolding count_setting
set_vc_frame_count_own_width = shut _ _ (λ e. let z : ◌≡◌ {A = ℕ} 1 2 = ap (λ (h : PrimaryHeader). h.vc_frame_count_len) e.0 in omega arith)

-- refuses 256 in one octet and leaves it set
pub set_vc_frame_count_set : clause.ShutsOut contracts.set_vc_frame_count.ended (λ M 𝓤. contracts.set_vc_frame_count.clauses) ([], tt)
    (lent some, (1, (256, tt))) (Err (BadCount 256 1), (with_count 1 256 some, (tt, (tt, tt))))
unfolding count_setting
set_vc_frame_count_set = shut _ _ (λ e. let z : ◌≡◌ {A = ℕ} 256 7 = ap (λ (h : PrimaryHeader). h.vc_frame_count) e.0 in omega arith)
