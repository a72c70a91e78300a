-- The timers beside the sender: each number that has one stays outstanding and unacknowledged.
use Rattle.std.specs.Prelude.{Option}
use Prim.Native.Nat.{ℕ, ◌≤◌}
use mathlib.Core.Path.{◌≡◌}
use mathlib.Core.Bool.{true}
use mathlib.Core.List.{List}
use lib.Ieee.{Float}
use lib.ListN.{length}
use Rattle.bounds.specs.Bounds.{max_datagram}
use Rattle.chunks.specs.Chunks.{chunks_of}
use Rattle.clock.specs.Timers.{GoodTimers}
use Rattle.clock.specs.declared.Timing.{Timing}
use Rattle.clock.specs.declared.Timing.TheVariants.{PerNumber}
use Rattle.clock.proofs.Laws.{timers_after}
use Rattle.session.specs.Sending.{SenderEnd, is_due, send_chunk}
use Rattle.session.proofs.Laws.{send_due, send_due_new, send_size}
use Rattle.submission.specs.Submission.{Outgoing}
use Rattle.submission.proofs.Laws.{submit_timers}
use Rattle.sending.specs.Sending.{PumpState, can_pump, send_one, pump_sends}
use Rattle.sending.specs.Good.{CanPump}
use Rattle.sending.specs.Retransmit.{retransmit, CanRetransmit}
use Rattle.sending.specs.declared.Resends.{Resends}
use Rattle.sending.proofs.Calls.{chunk, blank, given, written, can_send_lem, can_submit_next}
use Rattle.sending.proofs.Turns.{pump_keeps}
use Rattle.sending.proofs.Retransmits.{can_resubmit}

module _ {t : Timing} {rolls : List Float} {size : ℕ} {file : List ℕ} {total rto now : ℕ} {s : PumpState} (can : CanPump t rolls size file total rto now s) where
  -- the next chunk: its number is due, and the others stay so
  pub send_timers : can_pump total s.sender.sender ≡ true → GoodTimers t s.sender s.outgoing.clock
      → GoodTimers t (send_one t rolls (chunks_of size file) rto now s).state.sender (send_one t rolls (chunks_of size file) rto now s).state.outgoing.clock
  unfolding send_one
  send_timers free g =
      let payload = chunk can free in
      let out = blank can free in
      let h = can_send_lem can free in
      let u = (send_chunk s.sender payload out).after in
      submit_timers rolls (given can free) (written can free) s.outgoing t u (can_submit_next can free) (λ q. send_due_new s.sender payload out h)
      (timers_after t s.sender u s.outgoing.clock g (λ q key d. send_due s.sender payload out h key d) (send_size s.sender payload out h))

pub pump_timers : {t : Timing} {rolls : List Float} {size : ℕ} {file : List ℕ} {total rto now : ℕ} {s : PumpState} → CanPump t rolls size file total rto now s → GoodTimers t s.sender s.outgoing.clock
    → GoodTimers t (pump_sends t rolls (chunks_of size file) rto now s).state.sender (pump_sends t rolls (chunks_of size file) rto now s).state.outgoing.clock
pump_timers {t = t} {s = s} can g = pump_keeps (λ (y : PumpState). GoodTimers t y.sender y.outgoing.clock) (λ y c free q. send_timers c free q) s can g

-- a due number again
pub retransmit_good_timers : {t : Timing} {rolls : List Float} {rto now : ℕ} {v : SenderEnd} {seq : ℕ} {r : Resends} {o : Outgoing} → CanRetransmit t rolls rto now v seq r o → (oldest : Option ℕ) (packet : List ℕ) → length packet ≤ max_datagram
    → (t ≡ PerNumber → is_due v seq ≡ true) → GoodTimers t v o.clock → GoodTimers t v (retransmit t rolls rto now oldest seq packet r o).outgoing.clock
unfolding retransmit
retransmit_good_timers {t} {rolls} {rto} {now} {v} {seq} {r} {o} can oldest packet short due g =
    submit_timers rolls (record { time = now; seq = seq; rto = rto; retransmission = true; oldest = oldest }) packet o t v (can_resubmit can oldest packet short) due g
