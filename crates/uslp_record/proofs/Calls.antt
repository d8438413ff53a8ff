-- What each way through asking answers is what the rule says.
use Rattle.std.proofs.Common.{◌≡◌, ℕ, ◌<◌, ◌≤◌, [], le-leb}
use borrow.Author.Tests.{lt-leb}
use Rattle.uslp_kinds.specs.Outcome.{done, refused}
use Rattle.uslp_record.specs.Slots.{find, state_at}
use Rattle.uslp_record.specs.Record.{showing}
use Rattle.uslp_record.specs.declared.Channel.{Channel}
use Rattle.uslp_record.specs.declared.ChannelRecord.{ChannelRecord}

module _ (r : ChannelRecord) (k : Channel) (i : ℕ) (is : i ≡ find k r.slots) where
  pub showing_none : 8 ≤ i → refused 13 [] ≡ showing r k
  unfolding showing
  showing_none h = rw (← is) (simp (le-leb 8 i h))

  pub showing_done : i < 8 → done (state_at r i) ≡ showing r k
  unfolding showing
  showing_done h = rw (← is) (simp (lt-leb 8 i h))
