-- What the calls of `retransmit` ask, and what it leaves and keeps.
use Rattle.std.specs.Prelude.{Option}
use Prim.Native.Nat.{ℕ, ◌+◌, ◌-◌, ◌^◌, ◌≤◌, ◌<◌}
use native.Mathlib.Omega.{arith}
use native.Mathlib.Nat.{le_trans}
use mathlib.Core.Path.{◌≡◌, refl, sym, ap, ◌∙◌}
use mathlib.Core.Bool.{Bool, true, false}
use mathlib.Core.List.{List, ◌++◌}
use lib.Dec.{lit<}
use lib.Ieee.{Float}
use lib.ListN.{length, take, length-append}
use lib.Seq.{take_at, length-take-le}
use Rattle.bounds.specs.Bounds.{max_datagram}
use Rattle.window.specs.State.{numbers_broken}
use Rattle.window.specs.Slots.{datagram_for}
use Rattle.window.proofs.Laws.{sound}
use Rattle.multi_timer.proofs.Laws.{Within}
use Rattle.clock.specs.Clock.{Submission}
use Rattle.clock.specs.declared.Timing.{Timing}
use Rattle.clock.proofs.Laws.{running}
use Rattle.notes.specs.Notes.{is_premature}
use Rattle.session.specs.Sending.{SenderEnd, window_of, window_end, oldest_outstanding}
use Rattle.session.specs.GoodSender.{is_selective, CanWriteDatagram}
use Rattle.session.proofs.Laws.{unbroken_numbers}
use Rattle.submission.specs.Submission.{Outgoing, SubmitExit, submit, GoodOutgoing, CanSubmit}
use Rattle.submission.proofs.Laws.{SubmitKeeps, can_submit, submit_good, submit_keeps, submit_again_notes}
use Rattle.rows.specs.Rows.{as_number}
use Rattle.sending.specs.Retransmit.{counted_again, retransmit_exit, retransmit, CanRetransmit}
use Rattle.sending.specs.declared.Resends.{Resends}

up : {a b c : ℕ} → a < b → b < c → a + 1 < c
up h k = omega arith

-- a datagram at the start of a buffer of a datagram's size
module _ (packet rest : List ℕ) {out : List ℕ} {n : ℕ} (e : n ≡ length packet) (f : out ≡ packet ++ rest) (k : length out ≡ max_datagram) where
  pub packet_fits : n ≤ length out
  packet_fits = let l = ap length f ∙ length-append packet rest in omega (arith, l, e)

  pub packet_is : take n out ≡ packet
  packet_is = ap (take n) f ∙ take_at packet rest n (sym e)

  pub packet_short : length (take n out) ≤ max_datagram
  packet_short = let l = length-take-le n out packet_fits in let h = packet_fits in omega (arith, l, h, k)

  pub packet_cut : length (take n out) ≡ n
  packet_cut = length-take-le n out packet_fits

module _ {t : Timing} {rolls : List Float} {rto now : ℕ} {v : SenderEnd} {seq : ℕ} {r : Resends} {o : Outgoing} (can : CanRetransmit t rolls rto now v seq r o) where
  pub resend_numbers : numbers_broken (window_of v.sender) ≡ false
  resend_numbers = unbroken_numbers v can.sender

  pub can_count : (b : Bool) → (r.retx_submitted + 1 < 2 ^ 64) × (r.premature + as_number b < 2 ^ 64)
  can_count b = (up can.few (lit< tt), below b can.premature can.few (lit< tt))
    where
      below : {p n l m : ℕ} (b : Bool) → p ≤ n → n < l → l < m → p + as_number b < m
      below true h k j = omega arith
      below false h k j = omega arith

  pub can_write : (out : List ℕ) → max_datagram ≤ length out → CanWriteDatagram v seq out
  can_write out room = record { state = can.sender; within = can.within; room = room }

  pub can_resubmit : (oldest : Option ℕ) (wire : List ℕ) → length wire ≤ max_datagram → CanSubmit t rolls (record { time = now; seq = seq; rto = rto; retransmission = true; oldest = oldest }) wire o
  can_resubmit oldest wire short =
      can_submit rolls (record { time = now; seq = seq; rto = rto; retransmission = true; oldest = oldest }) wire o t can.good short can.timeout can.row window can.within.from
      (let b = can.within.below in omega (arith, b)) (λ k. le_trans few (can.entries k))
    where
      window : Within (window_of v.sender).send_base (window_of v.sender).next_seq_num (running o.clock)
      window = record { bounds = can.timers }

      few : (window_of v.sender).next_seq_num - (window_of v.sender).send_base ≤ (window_of v.sender).window_size
      few = (sound (is_selective v.sender.state) (window_of v.sender) v.store can.sender).few

module _ (t : Timing) (rolls : List Float) (rto now : ℕ) (v : SenderEnd) (seq : ℕ) (r : Resends) (o : Outgoing) where
  pub resends : {b : Bool} {r' : Resends} {oldest : Option ℕ} {wire : List ℕ} {y : SubmitExit} → oldest ≡ oldest_outstanding v.sender → b ≡ is_premature o.metas seq → r' ≡ counted_again r b → wire ≡ datagram_for (window_end v) seq
      → y ≡ submit t rolls (record { time = now; seq = seq; rto = rto; retransmission = true; oldest = oldest }) wire o
      → retransmit_exit r' y.outgoing y.stop ≡ retransmit t rolls rto now (oldest_outstanding v.sender) seq (datagram_for (window_end v) seq) r o
  unfolding retransmit
  resends {r' = r'} e f g w h =
      ap (λ (z : SubmitExit). retransmit_exit r' z.outgoing z.stop) (h ∙ rw (e, w))
      ∙ ap (λ (c : Resends). retransmit_exit c (submit t rolls (record { time = now; seq = seq; rto = rto; retransmission = true; oldest = oldest_outstanding v.sender }) (datagram_for (window_end v) seq) o).outgoing (submit t rolls (record { time = now; seq = seq; rto = rto; retransmission = true; oldest = oldest_outstanding v.sender }) (datagram_for (window_end v) seq) o).stop) (g ∙ ap (counted_again r) f)

-- ---- what is kept; the numbers noted are the same
module _ {t : Timing} {rolls : List Float} {rto now : ℕ} {v : SenderEnd} {seq : ℕ} {r : Resends} {o : Outgoing} (can : CanRetransmit t rolls rto now v seq r o) (oldest : Option ℕ) (packet : List ℕ) (short : length packet ≤ max_datagram) where
  abbrev again : Submission
  again = record { time = now; seq = seq; rto = rto; retransmission = true; oldest = oldest }

  pub retransmit_good : GoodOutgoing (retransmit t rolls rto now oldest seq packet r o).outgoing rolls now
  unfolding retransmit
  retransmit_good = submit_good t rolls again packet o (can_resubmit can oldest packet short)

  pub retransmit_keeps : SubmitKeeps o (retransmit t rolls rto now oldest seq packet r o).outgoing
  unfolding retransmit
  retransmit_keeps = submit_keeps t rolls again packet o (can_resubmit can oldest packet short)

  pub retransmit_notes : (retransmit t rolls rto now oldest seq packet r o).outgoing.metas.notes ≡ o.metas.notes
  unfolding retransmit
  retransmit_notes = submit_again_notes t rolls again packet o refl
