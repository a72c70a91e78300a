-- Datagrams that are submitted: a new chunk's, and those of a timeout.
use Rattle.std.specs.Prelude.{Option}
use Prim.Native.Nat.{ℕ, ◌<◌}
use mathlib.Core.Path.{◌≡◌, refl, sym, ap, ◌∙◌, subst}
use mathlib.Core.Bool.{true}
use mathlib.Core.List.{List, [], ◌∷◌, ◌++◌}
use lib.Ieee.{Float}
use lib.ListN.{length}
use Rattle.packet.specs.Format.{new_packet}
use Rattle.packet.specs.declared.PacketType.TheVariants.{Data}
use Rattle.packet.proofs.Laws.{made_length}
use Rattle.channel.specs.declared.ChannelConfig.{ChannelConfig}
use Rattle.path.specs.Direction.{Direction}
use Rattle.path.proofs.Laws.{EachWaiting, next_rolls}
use Rattle.clock.specs.Clock.{Submission}
use Rattle.clock.specs.declared.Timing.{Timing}
use Rattle.window.specs.Slots.{first_datagram}
use Rattle.delivery.specs.Calls.{send, step, number_of}
use Rattle.delivery.specs.Ends.{ends}
use Rattle.session.specs.Sending.{SenderEnd, window_end, send_chunk}
use Rattle.session.specs.Receiving.{ReceiverEnd}
use Rattle.session.specs.GoodSender.{CanSendChunk}
use Rattle.session.proofs.Laws.{sent_packets_lem}
use Rattle.submission.specs.Submission.{Outgoing, entry_free, submit, CanSubmit}
use Rattle.submission.proofs.Laws.{can_carry, submit_forward}
use Rattle.sending.specs.Sending.{PumpState, PumpExit, can_pump, send_one}
use Rattle.sending.specs.Good.{CanPump}
use Rattle.sending.specs.Retransmit.{retransmit}
use Rattle.sending.specs.declared.Resends.{Resends}
use Rattle.sending.proofs.Laws.{number_left, blank, can_send_lem, given, sent_next, can_submit_next, send_is}
use Rattle.completion.specs.Flips.{packet_length, PickMayFlip, FlipsOutside}
use Rattle.completion.specs.Delivered.{sent_to}
use Rattle.completion.proofs.Reached.{Start, chunks_in, RunWorld}
use Rattle.completion.proofs.Follows.{WholeOf, CopyOf, whole_of_new, whole_one, FollowsIn, Follows, made_size, on_lines, next_chunk, chunk_follows, chunk_made}
use Rattle.completion.proofs.Lines.{carry_copies}
use Rattle.completion.proofs.Events.{events_in, LoggedIn, pick_of}

-- a datagram that the sender made, with its number and its length
module _ (timing : Timing) (rolls : List Float) (x : Submission) (wire : List ℕ) (o : Outgoing) {s : Start} {u : RunWorld s} {v : SenderEnd} {r : ReceiverEnd} {output : List ℕ} {reverse : Direction} where
  pub submit_follows : {c : ChannelConfig} → CanSubmit timing rolls x wire o → LoggedIn c o → WholeOf u.sent wire → length wire ≡ packet_length (chunks_in s) x.seq
      → FlipsOutside c rolls (chunks_in s) (events_in (submit timing rolls x wire o).outgoing) → FollowsIn s u v r output o.forward reverse → FollowsIn s u v r output (submit timing rolls x wire o).outgoing.forward reverse
  submit_follows can l m size flips f =
      on_lines f
      (subst (EachWaiting (CopyOf u.sent)) (sym (submit_forward timing rolls x wire o))
      (carry_copies o.forward rolls (entry_free o) x.time wire (can_carry timing rolls x wire o can) m
      (λ h. subst (PickMayFlip o.forward.path.channel.config (next_rolls o.forward rolls)) (sym size) (pick_of timing rolls x wire o l (chunks_in s) flips h))
      f.forward_copies))
      f.reverse_copies

-- ---- a packet that is sent again
abbrev pub resubmission : ℕ → ℕ → Option ℕ → ℕ → Submission
resubmission rto now oldest seq = record { time = now; seq = seq; rto = rto; retransmission = true; oldest = oldest }

module _ (t : Timing) (rolls : List Float) (rto now : ℕ) (oldest : Option ℕ) (seq : ℕ) (packet : List ℕ) (r : Resends) (o : Outgoing) {s : Start} {u : RunWorld s} {v : SenderEnd} {e : ReceiverEnd} {output : List ℕ} {reverse : Direction} where
  pub retransmit_follows : {c : ChannelConfig} → number_of packet ≡ seq → CanSubmit t rolls (resubmission rto now oldest seq) packet o → LoggedIn c o → WholeOf u.sent packet
      → FlipsOutside c rolls (chunks_in s) (events_in (retransmit t rolls rto now oldest seq packet r o).outgoing) → FollowsIn s u v e output o.forward reverse
      → FollowsIn s u v e output (retransmit t rolls rto now oldest seq packet r o).outgoing.forward reverse
  unfolding retransmit
  retransmit_follows n can l m flips f = submit_follows t rolls (resubmission rto now oldest seq) packet o can l m (made_size f m ∙ ap (packet_length (chunks_in s)) n) flips f

-- ---- a chunk that is sent
-- its datagram is among those made
module _ {s : Start} {u : RunWorld s} {v : SenderEnd} {r : ReceiverEnd} {output : List ℕ} {forward reverse : Direction} (f : FollowsIn s u v r output forward reverse) (out : List ℕ) (can : CanSendChunk v (next_chunk f) out) where
  chunk_whole : WholeOf (step (ends s.protocol) u (send (next_chunk f) out)).sent (first_datagram (window_end v) (next_chunk f))
  chunk_whole =
      subst (λ (l : List (List ℕ)). WholeOf l (first_datagram (window_end v) (next_chunk f))) (sym (chunk_made f out ∙ ap (λ (l : List (List ℕ)). u.sent ++ l) (sent_packets_lem v (next_chunk f) out can)))
      (whole_of_new u.sent (first_datagram (window_end v) (next_chunk f) ∷ []) (first_datagram (window_end v) (next_chunk f)) (whole_one (first_datagram (window_end v) (next_chunk f))))

  -- it is submitted with its number
  pub chunk_submitted : (timing : Timing) (rolls : List Float) (x : Submission) (o : Outgoing) {c : ChannelConfig} → o.forward ≡ forward → x.seq ≡ sent_to v → sent_to v < length (chunks_in s) → CanSubmit timing rolls x (first_datagram (window_end v) (next_chunk f)) o → LoggedIn c o
      → FlipsOutside c rolls (chunks_in s) (events_in (submit timing rolls x (first_datagram (window_end v) (next_chunk f)) o).outgoing)
      → FollowsIn s (step (ends s.protocol) u (send (next_chunk f) out)) (send_chunk v (next_chunk f) out).after r output (submit timing rolls x (first_datagram (window_end v) (next_chunk f)) o).outgoing.forward reverse
  chunk_submitted timing rolls x o e q h submits l flips =
      submit_follows timing rolls x (first_datagram (window_end v) (next_chunk f)) o submits l chunk_whole
      (made_length (new_packet (sent_to v) Data) (next_chunk f) ∙ ap (packet_length (chunks_in s)) (sym q)) flips
      (subst (λ (d : Direction). FollowsIn s (step (ends s.protocol) u (send (next_chunk f) out)) (send_chunk v (next_chunk f) out).after r output d reverse) (sym e) (chunk_follows f out h))

module _ {t : Timing} {rolls : List Float} {s : Start} {total rto now : ℕ} {w : PumpState} (can : CanPump t rolls s.size s.file total rto now w) (free : can_pump total w.sender.sender ≡ true)
    {r : ReceiverEnd} {output : List ℕ} {reverse : Direction} where
  pub send_one_follows : {c : ChannelConfig} → LoggedIn c w.outgoing → FlipsOutside c rolls (chunks_in s) (events_in (send_one t rolls (chunks_in s) rto now w).state.outgoing)
      → Follows s w.sender r output w.outgoing.forward reverse → Follows s (send_one t rolls (chunks_in s) rto now w).state.sender r output (send_one t rolls (chunks_in s) rto now w).state.outgoing.forward reverse
  send_one_follows {c} l flips f =
      let e = send_is can free in
      let fits = subst (λ (y : PumpExit). FlipsOutside c rolls (chunks_in s) (events_in y.state.outgoing)) e flips in
      let submits = subst (λ (wire : List ℕ). CanSubmit t rolls (given can free) wire w.outgoing) (sent_next can free).bytes (can_submit_next can free) in
      let left : sent_to w.sender < length (chunks_in s) = subst (λ (n : ℕ). sent_to w.sender < n) can.whole (number_left can free) in
      subst (λ (y : PumpExit). Follows s y.state.sender r output y.state.outgoing.forward reverse) (sym e)
      (record { world = _; holds = chunk_submitted f.holds (blank can free) (can_send_lem can free) t rolls (given can free) w.outgoing refl refl left submits l fits })
