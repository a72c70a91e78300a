-- What `fire_timers` asks holds of a run that is just made and not refused.
use Prim.Native.Nat.{ℕ, ◌*◌, ◌≤◌, ◌<◌}
use native.Mathlib.Omega.{arith}
use mathlib.Core.Path.{◌≡◌, refl, subst, sym}
use mathlib.Core.Bool.{true, false}
use mathlib.Core.List.{List}
use lib.Dec.{lit<}
use lib.Ieee.{Float}
use lib.ListN.{length}
use Rattle.bounds.specs.Bounds.{max_duration}
use Rattle.channel.specs.Bounds.{config_broken}
use Rattle.channel.specs.declared.ChannelConfig.{ChannelConfig}
use Rattle.protocol.specs.declared.ProtocolType.{ProtocolType}
use Rattle.protocol.specs.declared.ProtocolType.TheVariants.{SelectiveRepeat}
use Rattle.window.specs.State.{window_broken, store_short}
use Rattle.path.specs.Rolls.{packet_rolls, rolls_broken, Doubles}
use Rattle.path.specs.Path.{new_path}
use Rattle.notes.specs.Notes.{new_notes}
use Rattle.rto.specs.Rto.{config_in_bounds, fresh, no_stats}
use Rattle.rto.specs.declared.RtoConfig.{RtoConfig}
use Rattle.clock.specs.Clock.{new_clock}
use Rattle.clock.specs.Estimator.{Factors}
use Rattle.clock.specs.declared.Timing.{Timing}
use Rattle.clock.specs.declared.Timing.TheVariants.{PerNumber}
use Rattle.clock.proofs.Laws as clock
use Rattle.clock.proofs.Laws.{fresh_estimator}
use Rattle.session.specs.Sending.{new_sender, slot_count}
use Rattle.session.specs.GoodSender.{is_selective}
use Rattle.session.proofs.Laws.{new_sender_good}
use Rattle.submission.specs.Submission.{outgoing}
use Rattle.submission.proofs.Laws as submission
use Rattle.sending.specs.declared.Resends.{Resends}
use Rattle.sending.proofs.Laws.{unused}
use Rattle.timeouts.specs.Timeouts.{fire_state}
use Rattle.timeouts.specs.Good.{CanFire}

-- nothing was sent again
abbrev pub no_resends : Resends
no_resends = record { retx_submitted = 0; premature = 0; exhausted = false }

none_used : (n : ℕ) → n ≡ 0 → n * packet_rolls ≤ 0
none_used n e = omega arith

none_above : (n m : ℕ) → n ≡ 0 → n ≤ m
none_above n m e = omega arith

at_most : (size w keys new : ℕ) → size ≡ w → w ≤ keys → new ≡ keys → size ≤ new
at_most size w keys new e l k = omega arith

selective_new : (w limit : ℕ) (store : List ℕ) → is_selective (new_sender SelectiveRepeat w limit store).sender.state ≡ true
unfolding new_sender
selective_new w limit store = refl

pub new_can_fire : (p : ProtocolType) (w limit : ℕ) (store : List ℕ) (f : RtoConfig) (c : ChannelConfig) (records : List (List ℕ)) (places : List ℕ) (rolls : List Float) (rows events : List (List ℕ)) (keys deadlines : List ℕ) (t : Timing) (now : ℕ)
    → window_broken (slot_count p w) ≡ false → store_short store (slot_count p w) ≡ false → config_in_bounds f ≡ true → Factors f → config_broken c ≡ false → Doubles rolls → rolls_broken rolls ≡ false → length keys ≡ length deadlines → now ≤ max_duration
    → (t ≡ PerNumber → slot_count p w ≤ length keys) → (t ≡ PerNumber → p ≡ SelectiveRepeat)
    → CanFire t rolls now (fire_state (new_sender p w limit store) (fresh f) no_resends (outgoing (new_path c records places) (new_notes rows) 0 events (new_clock keys deadlines)))
unfolding new_path fresh no_stats
new_can_fire p w limit store f c records places rolls rows events keys deadlines t now wf sf ff factors cf d rf e in_time entries selective =
    let u = unused p w limit store in
    let g = clock.new_good 0 0 keys deadlines e in
    record {
      samples = 0;
      few = lit< tt;
      good = record {
        outgoing = submission.new_good c records places rolls rows events keys deadlines now cf d rf e in_time;
        sender = (new_sender_good p w limit store wf sf).state;
        estimator = fresh_estimator f ff factors;
        counted = record {
          sent = none_used _ u.sent;
          again = none_used _ u.again;
          submitted = omega arith;
          premature = omega arith;
          timeouts = omega arith;
          backoffs = omega arith;
        };
        rows = none_above _ _ u.next;
        timers = λ key h. let b = g.window.bounds key h in absurd (omega (arith, b.1));
        entries = λ q. at_most _ _ _ _ u.size (entries q) (clock.new_keys keys deadlines e);
        selective = λ q. subst (λ (k : ProtocolType). is_selective (new_sender k w limit store).sender.state ≡ true) (sym (selective q)) (selective_new w limit store);
      };
    }
