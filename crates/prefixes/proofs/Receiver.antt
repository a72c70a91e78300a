-- A session's receiver, handed any datagrams each of which, if it reads as valid Data n, has a payload with P n: the output up to the fill mark is the join of as many parts as its base says, part i with P i.
use Prim.Native.Nat.{ℕ, ◌+◌, ◌-◌, ◌≤◌, ◌<◌}
use mathlib.Core.Path.{◌≡◌, sym, ap, subst, ◌∙◌}
use mathlib.Core.List.{List, [], ◌++◌, flatten}
use native.Mathlib.Omega.{arith}
use native.Mathlib.Decide.{dec_lt}
use lib.ListN.{length, get_or, take, drop, length-append, get_or-append}
use lib.Seq.{get_or-append-add, drop-drop}
use Rattle.protocol.specs.declared.ProtocolType.{ProtocolType}
use Rattle.protocol.specs.declared.ProtocolType.TheVariants.{StopAndWait, GoBackN, SelectiveRepeat}
use Rattle.protocol.specs.Machine.{Chunk, Segment, ReceiverState, receive}
use Rattle.packet.specs.Reading.{payload_of}
use Rattle.receiver.specs.Reading.{read_packet}
use Rattle.receiver.specs.Receive.{ReceiveExit}
use Rattle.receiver.specs.declared.PacketReading.TheVariants as reading
use Rattle.selective_repeat.specs.Receiver as selective_repeat
use Rattle.refinement.proofs.Laws.{Took, ReceiveOutcome, packet_refused, not_data, data_taken, took_output, written_behind, flatten_append, outcome_mark, stop_and_wait_view, go_back_nView, selective_view, stop_and_wait_receives, go_back_n_receives, selective_receives}
use Rattle.session.specs.declared.ReceiverState as session
use Rattle.session.specs.declared.ReceiverState.TheVariants as receiverState
use Rattle.session.specs.Receiving.{ReceiverEnd, handle_packet_in, handle_packet, base, filled, base_in, filled_in}
use Rattle.prefixes.proofs.Parts.{HonestStep, honest, Holds}

module _ (P : ℕ → Chunk → Type 0) where
  -- a datagram that, if it reads as valid Data, has P of its number and payload
  pub record Honest (raw : List ℕ) : Type 0 where
    pub reads : (n : ℕ) → read_packet raw ≡ reading.Data n → P n (payload_of raw)

  -- the output up to a fill mark: so many parts joined, each with P of its number; behind it as it was before
  pub record Parts (before : List ℕ) (base filled : ℕ) (output : List ℕ) : Type 0 where
    pub mark : filled ≤ length output
    pub parts : List Chunk
    pub count : length parts ≡ base
    pub each : (i : ℕ) → i < length parts → P i (get_or parts i [])
    pub joined : take filled output ≡ flatten parts
    pub behind : drop filled output ≡ drop filled before

  pub by_place : (new old : List Chunk) (b : ℕ) → length old ≡ b → ((i : ℕ) → i < length old → P i (get_or old i [])) → ((i : ℕ) → i < length new → P (b + i) (get_or new i [])) → (i : ℕ) → i < length (old ++ new) → P i (get_or (old ++ new) i [])
  by_place new old b c f g i l = go (dec_lt i (length old))
    where
      sum : length (old ++ new) ≡ length old + length new
      sum = length-append old new

      not_below : (a b : ℕ) → (a < b → ⊥) → b ≤ a
      not_below a b h = omega arith

      go : Dec (i < length old) → P i (get_or (old ++ new) i [])
      go (yes a) = subst (P i) (sym (get_or-append old new [] i a)) (f i a)
      go (no a) =
          let up : length old ≤ i = not_below i (length old) a in
          let z : length old + (i - length old) ≡ i = omega arith in
          let q : i - length old < length new = omega (arith, sum) in
          subst (λ (j : ℕ). P j (get_or (old ++ new) j [])) z
          (subst (λ (c : Chunk). P (length old + (i - length old)) c) (sym (get_or-append-add old new (i - length old) []))
          (subst (λ (j : ℕ). P (j + (i - length old)) (get_or new (i - length old) [])) (sym c) (g (i - length old) q)))

  -- ---- a protocol's receiver
  module _ (p : ProtocolType) {R : Type 0} (view : R → ReceiverState) (filledOf : R → ℕ) (before : List ℕ) where
    pub record Written (r : R) (output : List ℕ) : Type 0 where
      pub holds : Holds P p (view r)
      pub parts : Parts before (view r).base (filledOf r) output

    module _ (w : ℕ) (r : R) (raw output ack : List ℕ) {x : ReceiveExit R} (outcome : ReceiveOutcome p w view filledOf r raw output ack x) where
      taken : (q : Segment) → Took view filledOf r output ack (receive p w (view r) q) x → HonestStep P p (view r) (receive p w (view r) q) → filledOf x.receiver ≤ length x.output → Written r output → Written x.receiver x.output
      taken q t s m h =
          let new = (receive p w (view r) q).delivered in
          let old = h.parts in
          let bytes = flatten new in
          record {
            holds = rw t.follows s.holds;
            parts = record {
              mark = m;
              parts = old.parts ++ new;
              count = length-append old.parts new ∙ ap (λ (j : ℕ). j + length new) old.count ∙ sym s.base ∙ ap (λ (j : ReceiverState). j.base) (sym t.follows);
              each = λ i l. by_place new old.parts (view r).base old.count old.each s.delivered i l;
              joined = took_output t old.mark ∙ ap (λ (l : List ℕ). l ++ bytes) old.joined ∙ sym (flatten_append old.parts new);
              behind =
                  rw (t.filled, t.output_is)
                  (written_behind output bytes (filledOf r) old.mark
                  ∙ sym (drop-drop (length bytes) (filledOf r) output) ∙ ap (drop (length bytes)) old.behind ∙ drop-drop (length bytes) (filledOf r) before);
            };
          }

      pub written_kept : Honest raw → Written r output → Written x.receiver x.output
      written_kept h k = elim outcome [
        | packet_refused s e ↦ rw e k
        | not_data none i ↦ record {
          holds = rw i.follows k.holds;
          parts = rw (i.follows, i.filled, i.output_is) k.parts;
        }
        | data_taken n e low t ↦ taken (record { number = n; payload = payload_of raw }) t
            (honest P p w (view r) (record { number = n; payload = payload_of raw }) k.holds (h.reads n e))
            (outcome_mark p w view filledOf r raw output ack x (data_taken n e low t) k.parts.mark) k
      ]

  -- ---- a session's
  abbrev pub WrittenIn : List ℕ → session.ReceiverState → List ℕ → List ℕ → Type 0
  WrittenIn before (receiverState.StopAndWait r) store output = Written StopAndWait stop_and_wait_view (λ r. r.filled) before r output
  WrittenIn before (receiverState.GoBackN r) store output = Written GoBackN go_back_nView (λ r. r.filled) before r output
  WrittenIn before (receiverState.SelectiveRepeat r) store output = Written SelectiveRepeat selective_view (λ r. r.state.filled) before (selective_repeat.receiver r store) output

  abbrev pub EndWritten : List ℕ → ReceiverEnd → List ℕ → Type 0
  EndWritten before v output = WrittenIn before v.receiver.state v.store output

  pub end_parts : (before : List ℕ) (v : ReceiverEnd) (output : List ℕ) → EndWritten before v output → Parts before (base v.receiver) (filled v.receiver) output
  end_parts before v output = by_state v.receiver.state v.store
    where
      by_state : (s : session.ReceiverState) (store : List ℕ) → WrittenIn before s store output → Parts before (base_in s) (filled_in s) output
      by_state (receiverState.StopAndWait r) store w = w.parts
      by_state (receiverState.GoBackN r) store w = w.parts
      by_state (receiverState.SelectiveRepeat r) store w = w.parts

  -- whatever is handed over
  pub packet_written : (before : List ℕ) (v : ReceiverEnd) (raw output ack : List ℕ) → Honest raw → EndWritten before v output → EndWritten before (handle_packet v raw output ack).receiver (handle_packet v raw output ack).output
  unfolding handle_packet
  packet_written before v raw output ack h = by_state v.receiver.state v.store
    where
      by_state : (s : session.ReceiverState) (store : List ℕ) → WrittenIn before s store output → EndWritten before (handle_packet_in s store raw output ack).receiver (handle_packet_in s store raw output ack).output
      by_state (receiverState.StopAndWait r) store w = written_kept StopAndWait stop_and_wait_view (λ r. r.filled) before 1 r raw output ack (stop_and_wait_receives 1 r raw output ack) h w
      by_state (receiverState.GoBackN r) store w = written_kept GoBackN go_back_nView (λ r. r.filled) before 1 r raw output ack (go_back_n_receives 1 r raw output ack) h w
      by_state (receiverState.SelectiveRepeat r) store w =
          written_kept SelectiveRepeat selective_view (λ r. r.state.filled) before r.window_size (selective_repeat.receiver r store) raw output ack (selective_receives (selective_repeat.receiver r store) raw output ack) h w
