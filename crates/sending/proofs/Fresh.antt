-- What `pump_sends` asks holds of a run that is just made and not refused.
use Prim.Native.Nat.{ℕ, ◌+◌, ◌-◌, ◌≤◌, ◌<◌}
use native.Mathlib.Omega.{arith}
use mathlib.Core.Path.{◌≡◌, refl, sym, subst}
use mathlib.Core.Bool.{false}
use mathlib.Core.List.{List}
use lib.Dec.{lit<}
use lib.Ieee.{Float}
use lib.ListN.{length}
use Rattle.bounds.specs.Bounds.{count_limit, max_chunks, max_duration, max_payload}
use Rattle.channel.specs.Bounds.{config_broken}
use Rattle.channel.specs.declared.ChannelConfig.{ChannelConfig}
use Rattle.chunks.specs.Chunks.{chunks_of}
use Rattle.protocol.specs.declared.ProtocolType.{ProtocolType}
use Rattle.protocol.specs.declared.ProtocolType.TheVariants.{StopAndWait, GoBackN, SelectiveRepeat}
use Rattle.window.specs.State.{window_broken, store_short}
use Rattle.window.specs.Slots.{fresh}
use Rattle.window.specs.declared.SendWindow.{SendWindow}
use Rattle.path.specs.Rolls.{rolls_broken, Doubles}
use Rattle.path.specs.Path.{new_path}
use Rattle.notes.specs.Notes.{new_notes}
use Rattle.notes.proofs.Laws.{new_length}
use Rattle.clock.specs.Clock.{new_clock}
use Rattle.clock.specs.declared.Timing.{Timing}
use Rattle.clock.specs.declared.Timing.TheVariants.{PerNumber}
use Rattle.clock.proofs.Laws as clock
use Rattle.session.specs.Sending.{new_sender, slot_count, window_of}
use Rattle.session.proofs.Laws.{new_sender_good}
use Rattle.submission.specs.Submission.{outgoing}
use Rattle.submission.proofs.Laws as submission
use Rattle.sending.specs.Sending.{pump_state}
use Rattle.sending.specs.Good.{CanPump}

-- nothing is sent yet
pub record Unused (w : ℕ) (s : SendWindow) : Type 0 where
  pub size : s.window_size ≡ w
  pub base : s.send_base ≡ 0
  pub next : s.next_seq_num ≡ 0
  pub sent : s.total_sent ≡ 0
  pub again : s.retransmissions ≡ 0

pub unused : (p : ProtocolType) (w limit : ℕ) (store : List ℕ)
    → Unused (slot_count p w) (window_of (new_sender p w limit store).sender)
unfolding new_sender fresh
unused StopAndWait w limit store = record { size = refl; base = refl; next = refl; sent = refl; again = refl }
unused GoBackN w limit store = record { size = refl; base = refl; next = refl; sent = refl; again = refl }
unused SelectiveRepeat w limit store = record { size = refl; base = refl; next = refl; sent = refl; again = refl }

below_limit : (sent total next few limit : ℕ) → sent ≡ 0 → total ≤ few → few < limit → sent + (total - next) < limit
below_limit sent total next few limit e f l = omega arith

at_most : (size w keys new : ℕ) → size ≡ w → w ≤ keys → new ≡ keys → size ≤ new
at_most size w keys new e l k = omega arith

pub new_can_pump : (p : ProtocolType) (w limit : ℕ) (store : List ℕ) (c : ChannelConfig) (records : List (List ℕ))
    (places : List ℕ) (rolls : List Float) (rows events : List (List ℕ)) (keys deadlines : List ℕ) (t : Timing)
    (size : ℕ) (file : List ℕ) (rto now : ℕ)
    → window_broken (slot_count p w) ≡ false → store_short store (slot_count p w) ≡ false → config_broken c ≡ false
    → Doubles rolls → rolls_broken rolls ≡ false → length keys ≡ length deadlines → now ≤ max_duration → 0 < size
    → size ≤ max_payload → length (chunks_of size file) ≤ max_chunks → length (chunks_of size file) ≤ length rows
    → rto ≤ max_duration → (t ≡ PerNumber → slot_count p w ≤ length keys)
    → CanPump t rolls size file (length (chunks_of size file)) rto now
    (pump_state (new_sender p w limit store)
    (outgoing (new_path c records places) (new_notes rows) 0 events (new_clock keys deadlines)))
new_can_pump p w limit store c records places rolls rows events keys deadlines t size file rto now wf sf cf d rf e
    in_time some short few rowed rtoed entries =
    let u = unused p w limit store in
    let g = clock.new_good 0 0 keys deadlines e in
    record {
      good = record {
        outgoing = submission.new_good c records places rolls rows events keys deadlines now cf d rf e in_time;
        sender = (new_sender_good p w limit store wf sf).state;
        sent = below_limit _ (length (chunks_of size file)) _ max_chunks count_limit u.sent few (lit< tt);
        again = subst (λ (n : ℕ). n < count_limit) (sym u.again) (lit< tt);
        few = few;
        rows = subst (λ (n : ℕ). length (chunks_of size file) ≤ n) (sym (new_length rows)) rowed;
        timeout = rtoed;
        timers = λ key h. let b = g.window.bounds key h in absurd (omega (arith, b.1));
        entries = λ q. at_most _ _ _ _ u.size (entries q) (clock.new_keys keys deadlines e);
      };
      some = some;
      short = short;
      whole = refl;
    }
