-- What `on_ack` and the loop over the reverse line ask holds of a run that is just made and not refused.
use Prim.Native.Nat.{ℕ, ◌≤◌}
use native.Mathlib.Omega.{arith}
use lib.Dec.{lit<, lit≤}
use mathlib.Core.Path.{◌≡◌}
use mathlib.Core.Bool.{true, false}
use mathlib.Core.List.{List}
use lib.ListN.{length}
use Rattle.bounds.specs.Bounds.{max_duration}
use Rattle.protocol.specs.declared.ProtocolType.{ProtocolType}
use Rattle.schedule.proofs.Laws.{new_sound, new_times, new_cleared}
use Rattle.channel.specs.declared.ChannelConfig.{ChannelConfig}
use Rattle.path.specs.Path.{new_path}
use Rattle.window.specs.State.{window_broken, store_short}
use Rattle.rto.specs.Rto.{config_in_bounds, fresh}
use Rattle.rto.specs.declared.RtoConfig.{RtoConfig}
use Rattle.notes.specs.Notes.{new_notes}
use Rattle.notes.proofs.Laws.{timely_new, scheduled_new}
use Rattle.clock.specs.Clock.{new_clock}
use Rattle.clock.specs.Estimator.{Factors}
use Rattle.clock.proofs.Laws.{new_good, fresh_estimator}
use Rattle.session.specs.Sending.{new_sender, slot_count}
use Rattle.session.proofs.Laws.{new_sender_good, good_unbroken}
use Rattle.acks.specs.Acks.{ack_state}
use Rattle.acks.specs.Good.{CanOnAck}
use Rattle.acks.specs.Reverse.{CanServeReverse}

pub new_can_on_ack : (p : ProtocolType) (w limit : ℕ) (store : List ℕ) (c : RtoConfig) (rows : List (List ℕ))
    (keys deadlines : List ℕ) (now : ℕ) → window_broken (slot_count p w) ≡ false → store_short store (slot_count p w) ≡ false
    → config_in_bounds c ≡ true → Factors c → length keys ≡ length deadlines → now ≤ max_duration
    → CanOnAck (ack_state (new_sender p w limit store) (fresh c) (new_clock keys deadlines) (new_notes rows) 0 0) now
new_can_on_ack p w limit store c rows keys deadlines now wf sf b f e in_time =
    record {
      good = record {
        sender = good_unbroken (new_sender_good p w limit store wf sf) (lit< tt);
        estimator = fresh_estimator c b f;
        clock = (new_good 0 0 keys deadlines e).held;
        notes = timely_new rows now in_time;
        scheduled = scheduled_new rows;
        duplicates = omega arith;
      };
      few = lit< tt;
    }

pub new_can_serve_reverse : (line : ChannelConfig) (rs : List (List ℕ)) (ps : List ℕ) (p : ProtocolType) (w limit : ℕ) (store : List ℕ)
    (c : RtoConfig) (rows : List (List ℕ)) (keys deadlines : List ℕ) (now : ℕ) → window_broken (slot_count p w) ≡ false
    → store_short store (slot_count p w) ≡ false → config_in_bounds c ≡ true → Factors c → length keys ≡ length deadlines → now ≤ max_duration
    → CanServeReverse (new_path line rs ps) (ack_state (new_sender p w limit store) (fresh c) (new_clock keys deadlines) (new_notes rows) 0 0) now
unfolding new_path
new_can_serve_reverse line rs ps p w limit store c rows keys deadlines now wf sf b f e in_time =
    record { sound = new_sound rs ps; times = new_times rs ps; cleared = new_cleared rs ps; good = (new_can_on_ack p w limit store c rows keys deadlines now wf sf b f e in_time).good; few = lit≤ tt }
