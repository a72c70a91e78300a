-- A session's sender holds the file's chunks of its outstanding numbers, whatever bytes it is handed as ACKs; every datagram that it makes is Data of the chunk of its number.
use Prim.Native.Nat.{ℕ, ◌+◌, ◌-◌, ◌≤◌, ◌<◌}
use mathlib.Core.Path.{◌≡◌, refl, sym, ap, subst, ◌∙◌}
use mathlib.Core.Bool.{Bool, true, false, cond}
use mathlib.Core.List.{List, [], ◌∷◌, ◌++◌}
use native.Mathlib.Omega.{arith}
use native.Mathlib.Decide.{dec_lt}
use lib.ListN.{length, get_or, length-append, length-drop, get_or-append}
use lib.Seq.{get_or-drop, get_or-append_seam}
use Rattle.octets.specs.Octets.{Octets}
use Rattle.protocol.specs.declared.ProtocolType.{ProtocolType}
use Rattle.protocol.specs.declared.ProtocolType.TheVariants.{StopAndWait, GoBackN, SelectiveRepeat}
use Rattle.protocol.specs.Machine.{Chunk, SenderState, next_number, send, move_base, mark_acknowledged, is_in_window, accept, acknowledge}
use Rattle.packet.specs.Format.{new_packet}
use Rattle.packet.specs.declared.PacketType.TheVariants.{Data}
use Rattle.window.specs.Slots as slots
use Rattle.window.specs.Slots.{first_datagram, datagram_for}
use Rattle.window.specs.Sending as window
use Rattle.window.specs.Acknowledgement.{AckExit}
use Rattle.window.specs.Resending.{TimeoutExit}
use Rattle.stop_and_wait.specs.Sender as stop_and_wait
use Rattle.refinement.specs.Follows.{sender_of}
use Rattle.refinement.specs.Good.{Good}
use Rattle.refinement.specs.Copies.{DataOf}
use Rattle.refinement.proofs.Laws.{send_refused, window_full, chunk_sent, send_outcome, send_octets, next_number_lem, AckOutcome, ack_refused, ack_ignored, ack_taken, go_back_n_ack, go_back_n_ack_octets, selective_ack, selective_ack_octets, stop_and_wait_ack, stop_and_wait_ack_octets, stop_and_wait_send, ResendOutcome, timeout_refused, nothing_sent, sent_again_lem, marks_octets, datagram_of, go_back_n_timeout, lowest_sent_again, selective_timeout, stop_and_wait_timeout, stop_and_wait_made, fresh_octets, fresh_follows}
use Rattle.session.specs.declared.SenderState as session
use Rattle.session.specs.declared.SenderState.TheVariants as senderState
use Rattle.session.specs.declared.Timeout.{Timeout}
use Rattle.session.specs.declared.Timeout.TheVariants as timeout
use Rattle.session.specs.Sending.{SenderEnd, sender_in, window_of, window_end, new_sender, send_chunk_in, send_chunk, handle_ack_in, handle_ack, timeout_number, handle_timeout_in, handle_timeout, ample_buffer, resent}
use Rattle.session.specs.GoodSender.{is_selective, sender_broken, CanSendChunk}
use Rattle.session.proofs.Laws.{ack_keeps_sender, SameWindow}
use Rattle.completion.specs.Delivered.{sent_to}
use Rattle.prefixes.proofs.Copies.{ChunkData}

module _ (chunks : List Chunk) where
  -- ---- over numbers and chunks
  pub record Holds (m : SenderState) : Type 0 where
    pub same : (i : ℕ) → i < length m.chunks → get_or m.chunks i [] ≡ get_or chunks (m.base + i) []

  send_holds : (m : SenderState) (c : Chunk) → c ≡ get_or chunks (next_number m) [] → Holds m → Holds (send m c)
  unfolding send
  send_holds m c e h = record { same = λ i l. go i (dec_lt i (length m.chunks)) l }
    where
      go : (i : ℕ) → Dec (i < length m.chunks) → i < length (m.chunks ++ c ∷ []) → get_or (m.chunks ++ c ∷ []) i [] ≡ get_or chunks (m.base + i) []
      go i (yes a) l = get_or-append m.chunks (c ∷ []) [] i a ∙ h.same i a
      go i (no a) l =
          let n = length-append m.chunks (c ∷ []) in
          let z : i ≡ length m.chunks = at_end i (length m.chunks) a (omega (arith, n)) in
          ap (λ (k : ℕ). get_or (m.chunks ++ c ∷ []) k []) z ∙ get_or-append_seam m.chunks c [] [] ∙ e ∙ ap (λ (k : ℕ). get_or chunks (m.base + k) []) (sym z)
        where
          at_end : (a b : ℕ) → (a < b → ⊥) → a < b + 1 → a ≡ b
          at_end a b h l = omega arith

  move_holds : (m : SenderState) (k : ℕ) → Holds m → Holds (move_base m k)
  move_holds m k h =
      record {
        same = λ i l.
            let n = length-drop k m.chunks in
            let z : m.base + (k + i) ≡ m.base + k + i = omega arith in
            get_or-drop k m.chunks i [] ∙ h.same (k + i) (omega (arith, n, l)) ∙ ap (λ (j : ℕ). get_or chunks j []) z;
      }

  accept_holds : (p : ProtocolType) (m : SenderState) (n : ℕ) → Holds m → Holds (accept p m n)
  accept_holds StopAndWait m n h = move_holds m _ h
  accept_holds GoBackN m n h = move_holds m _ h
  accept_holds SelectiveRepeat m n h = move_holds (mark_acknowledged m n) _ (record { same = h.same })

  acknowledge_holds : (p : ProtocolType) (m : SenderState) (n : ℕ) → Holds m → Holds (acknowledge p m n)
  unfolding acknowledge
  acknowledge_holds p m n h = go (is_in_window m n)
    where
      go : (b : Bool) → Holds (cond b (accept p m n) m)
      go true = accept_holds p m n h
      go false = h

  -- ---- a window and its store
  pub record WindowHolds (v : slots.Sender) : Type 0 where
    pub octets : Octets v.store
    pub holds : Holds (sender_of v)

  window_sent : (selective : Bool) (v : slots.Sender) (payload out : List ℕ) → Good selective v → Octets payload → payload ≡ get_or chunks v.window.next_seq_num [] → WindowHolds v → WindowHolds (window.send_chunk selective v payload out).after
  window_sent selective v payload out g o e h =
      record {
        octets = send_octets selective v payload out h.octets o;
        holds = elim (send_outcome selective v payload out) [
          | send_refused s f ↦ rw f h.holds
          | window_full n f ↦ rw f h.holds
          | chunk_sent s ↦ rw s.follows (send_holds (sender_of v) payload (e ∙ ap (λ (k : ℕ). get_or chunks k []) (sym (next_number_lem selective v g))) h.holds)
        ];
      }

  ack_holds : {S : Type 0} (p : ProtocolType) (selective : Bool) (view : S → slots.Sender) (v : S) (raw : List ℕ) (r : AckExit S) → AckOutcome p selective view v raw r → Holds (sender_of (view v)) → Holds (sender_of (view r.after))
  ack_holds {S} p selective view v raw r o h = elim o [
    | ack_refused s e ↦ subst (λ (y : AckExit S). Holds (sender_of (view y.after))) (sym e) h
    | ack_ignored n e ↦ subst (λ (y : AckExit S). Holds (sender_of (view y.after))) (sym e) h
    | ack_taken n e x ↦ rw x.follows (acknowledge_holds p (sender_of (view v)) n h)
  ]

  window_resent : (selective : Bool) (v : slots.Sender) (n k : ℕ) (out : List ℕ) (y : TimeoutExit slots.Sender) → ResendOutcome selective v n k out y → WindowHolds v → WindowHolds y.after
  window_resent selective v n k out y o h = elim o [
    | timeout_refused s e ↦ rw e h
    | nothing_sent z e ↦ rw e h
    | sent_again_lem x ↦ record { octets = rw x.marked (marks_octets v n k h.octets); holds = rw x.follows h.holds }
  ]

  -- ---- a session's sender: no number is sent that has no chunk
  pub record SenderHolds (v : SenderEnd) : Type 0 where
    pub window : WindowHolds (window_end v)
    pub sent : sent_to v ≤ length chunks

  pub chunk_held : (v : SenderEnd) (payload out : List ℕ) → sender_broken v ≡ false → Octets payload → payload ≡ get_or chunks (sent_to v) [] → WindowHolds (window_end v) → WindowHolds (window_end (send_chunk v payload out).after)
  unfolding send_chunk
  chunk_held v payload out g o e = by_state v.sender.state v.store g e
    where
      by_state : (s : session.SenderState) (store : List ℕ) → sender_broken (sender_in s store) ≡ false → payload ≡ get_or chunks (sent_to (sender_in s store)) [] → WindowHolds (window_end (sender_in s store)) → WindowHolds (window_end (send_chunk_in s store payload out).after)
      by_state (senderState.StopAndWait s) store g e h = subst WindowHolds (sym (stop_and_wait_send (stop_and_wait.end_of s store) payload out)) (window_sent false (window_end (sender_in (senderState.StopAndWait s) store)) payload out g o e h)
      by_state (senderState.GoBackN s) store g e h = window_sent false (window_end (sender_in (senderState.GoBackN s) store)) payload out g o e h
      by_state (senderState.SelectiveRepeat s) store g e h = window_sent true (window_end (sender_in (senderState.SelectiveRepeat s) store)) payload out g o e h

  -- any datagram as an ACK
  pub ack_held : (v : SenderEnd) (raw : List ℕ) → SenderHolds v → SenderHolds (handle_ack v raw).after
  unfolding handle_ack
  ack_held v raw h = record { window = after_ack; sent = let k = (ack_keeps_sender v raw).next in omega (arith, k, h.sent) }
    where
      by_state : (s : session.SenderState) (store : List ℕ) → WindowHolds (window_end (sender_in s store)) → WindowHolds (window_end (handle_ack_in s store raw).after)
      by_state (senderState.StopAndWait s) store w =
          let u = stop_and_wait.end_of s store in
          record { octets = stop_and_wait_ack_octets u raw w.octets; holds = ack_holds StopAndWait false stop_and_wait.window_end u raw _ (stop_and_wait_ack u raw) w.holds }
      by_state (senderState.GoBackN s) store w =
          let u = slots.sender s.window store in
          record { octets = go_back_n_ack_octets u raw w.octets; holds = ack_holds GoBackN false (λ x. x) u raw _ (go_back_n_ack u raw) w.holds }
      by_state (senderState.SelectiveRepeat s) store w =
          let u = slots.sender s.window store in
          record { octets = selective_ack_octets u raw w.octets; holds = ack_holds SelectiveRepeat true (λ x. x) u raw _ (selective_ack u raw) w.holds }

      after_ack : WindowHolds (window_end (handle_ack v raw).after)
      after_ack = by_state v.sender.state v.store h.window

  -- a timeout
  pub timeout_held : (v : SenderEnd) (t : Timeout) → SameWindow v (resent v t).after → SenderHolds v → SenderHolds (resent v t).after
  unfolding resent handle_timeout
  timeout_held v t k h = record { window = after_timeout; sent = omega (arith, k.next, h.sent) }
    where
      by_state : (s : session.SenderState) (store : List ℕ) (t : Timeout) (out : List ℕ) → WindowHolds (window_end (sender_in s store)) → WindowHolds (window_end (handle_timeout_in s store t out).after)
      by_state (senderState.StopAndWait s) store t out w =
          let u = stop_and_wait.end_of s store in
          subst WindowHolds (sym (stop_and_wait_timeout u out)) (window_resent false (stop_and_wait.window_end u) _ _ out _ (lowest_sent_again (stop_and_wait.window_end u) (stop_and_wait.retries_left s) out) w)
      by_state (senderState.GoBackN s) store timeout.All out w = window_resent false (slots.sender s.window store) _ _ out _ (go_back_n_timeout (slots.sender s.window store) out) w
      by_state (senderState.GoBackN s) store timeout.Earliest out w = window_resent false (slots.sender s.window store) _ _ out _ (lowest_sent_again (slots.sender s.window store) 1 out) w
      by_state (senderState.GoBackN s) store (timeout.Number n) out w = window_resent false (slots.sender s.window store) _ _ out _ (go_back_n_timeout (slots.sender s.window store) out) w
      by_state (senderState.SelectiveRepeat s) store t out w =
          let u = slots.sender s.window store in
          window_resent true u (timeout_number s.window t) _ out _ (selective_timeout u (timeout_number s.window t) out) w

      after_timeout : WindowHolds (window_end (resent v t).after)
      after_timeout = by_state v.sender.state v.store t (ample_buffer v.sender) h.window

  -- ---- what is sent
  pub first_data : (v : SenderEnd) (payload out : List ℕ) → CanSendChunk v payload out → Octets payload → payload ≡ get_or chunks (sent_to v) [] → sent_to v < length chunks → ChunkData chunks (sent_to v) (first_datagram (window_end v) payload)
  first_data v payload out can o e known =
      record {
        known = known;
        data_of = subst (λ (c : Chunk). DataOf (record { number = sent_to v; payload = c }) (first_datagram (window_end v) payload)) e
            (record { packet = new_packet (sent_to v) Data; is = refl; kind = refl; number = refl; flags = omega arith; low = can.low; octets = o; short = can.short });
      }

  pub outstanding_data : (v : SenderEnd) (n : ℕ) → sender_broken v ≡ false → (window_of v.sender).send_base ≤ n → n < sent_to v → SenderHolds v → ChunkData chunks n (datagram_for (window_end v) n)
  outstanding_data v n g from below h =
      let selective = is_selective v.sender.state in
      let base = (window_of v.sender).send_base in
      let next = next_number_lem selective (window_end v) g in
      let z : base + (n - base) ≡ n = omega arith in
      let e : get_or (sender_of (window_end v)).chunks (n - base) [] ≡ get_or chunks n [] = h.window.holds.same (n - base) (omega (arith, next, from, below)) ∙ ap (λ (k : ℕ). get_or chunks k []) z in
      record {
        known = omega (arith, below, h.sent);
        data_of = subst (λ (c : Chunk). DataOf (record { number = n; payload = c }) (datagram_for (window_end v) n)) e (datagram_of selective (window_end v) g n from below h.window.octets);
      }

  -- ---- making
  none_held : Holds (record { base = 0; chunks = []; acknowledged = [] })
  none_held = record { same = λ i l. absurd (omega arith) }

  fresh_holds : (w : ℕ) (store : List ℕ) → Octets store → WindowHolds (slots.fresh w store)
  fresh_holds w store o = record { octets = fresh_octets w store o; holds = subst Holds (sym (fresh_follows w store)) none_held }

  pub new_sender_holds : (p : ProtocolType) (w limit : ℕ) (store : List ℕ) → Octets store → SenderHolds (new_sender p w limit store)
  unfolding new_sender slots.fresh
  new_sender_holds StopAndWait w limit store o = record { window = subst WindowHolds (sym (stop_and_wait_made limit store)) (fresh_holds 1 store o); sent = omega arith }
  new_sender_holds GoBackN w limit store o = record { window = fresh_holds w store o; sent = omega arith }
  new_sender_holds SelectiveRepeat w limit store o = record { window = fresh_holds w store o; sent = omega arith }
