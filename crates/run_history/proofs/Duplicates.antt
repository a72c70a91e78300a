-- `duplicate_data` by the readings of the Data handed over.
use Rattle.std.specs.Prelude.{Err, None, Ok, Option, Result, Some}
use Prim.Native.Nat.{ℕ, suc, ◌+◌, ◌-◌}
use mathlib.Core.Path.{◌≡◌, refl, sym, ap, ◌∙◌, subst}
use mathlib.Core.Bool.{Bool, true, false, cond, true≢false}
use mathlib.Core.List.{List, [], ◌∷◌, ◌++◌, append-nil, append_assoc}
use native.Mathlib.Omega.{arith}
use Rattle.rows.specs.Rows.{as_number}
use Rattle.packet.specs.Reading.{read_datagram}
use Rattle.packet.specs.declared.PacketType.{PacketType}
use Rattle.packet.specs.declared.PacketType.TheVariants as packetType
use Rattle.packet.specs.declared.DatagramReading.{DatagramReading}
use Rattle.packet.specs.declared.DatagramReading.TheVariants as datagram
use Rattle.receiver.specs.Reading.{by_type, reading_of, read_packet}
use Rattle.receiver.specs.Reply.{is_refused}
use Rattle.receiver.specs.declared.PacketReading.{PacketReading}
use Rattle.delivery.specs.Ends.{is_received}
use Rattle.tallies.specs.Readings.{count, is_older}
use Rattle.tallies.specs.Receivers as receivers
use Rattle.protocol.specs.declared.ProtocolType.{ProtocolType}
use Rattle.protocol.specs.declared.ProtocolType.TheVariants.{StopAndWait, GoBackN, SelectiveRepeat}
use Rattle.session.specs.Receiving.{ReceiverEnd, is_cumulative, handle_packet}
use Rattle.session.specs.declared.Receiver.{Receiver}
use Rattle.session.specs.declared.ReceiverState.{ReceiverState}
use Rattle.receiving.specs.Receiving.{is_data_type, is_data, gbn_duplicate, new_duplicates}
use Rattle.receiving.specs.Receiving.{ack_buffer}
use Rattle.session.specs.Sending.{SenderEnd, new_sender}
use Rattle.session.specs.Receiving.{filled, new_receiver}
use Rattle.setup.specs.declared.TransferConfig.{TransferConfig}
use Rattle.step.specs.State.{Given, Lent}
use Rattle.transfer.specs.declared.Ceilings.{Ceilings}
use Rattle.transfer.specs.declared.DriverCounts.{DriverCounts}
use Rattle.transfer.specs.declared.Outcome.{Outcome}
use Rattle.run_history.specs.Calls.{Call, chunk, timeout, arrival, return, Ends, ends, after_calls, collect, total, reads_as_data, received_by, duplicate_data_in}
use Rattle.run_history.specs.Answered.{Each, NotRefused}
use Rattle.run_history.specs.EndCalls.{receiver_call_by, receiver_from, is_repeated}
use Rattle.run_history.specs.History.{start_ends, History}
use Rattle.run_history.proofs.Lists.{after_more, collect_more}
use Rattle.run_history.proofs.EndCalls.{receiver_after, receiver_counted}
use Rattle.refusal.specs.declared.Refusal.{Refusal}

-- ---- one call more
module _ {R : Type 0} (handle : receivers.Handling R) where
  pub readings_more : (r : R) (hs : List PacketReading) (cs : List receivers.Call) (c : receivers.Call)
      → receivers.readings_after handle r hs (cs ++ c ∷ []) ≡ receivers.readings_with (handle (receivers.after_calls handle r cs) c.raw c.output c.ack) c.raw (receivers.readings_after handle r hs cs)
  unfolding receivers.readings_after receivers.after_calls
  readings_more r hs [] c = refl
  readings_more r hs (d ∷ cs) c = readings_more (handle r d.raw d.output d.ack).receiver (receivers.readings_with (handle r d.raw d.output d.ack) d.raw hs) cs c

  pub receiver_more : (r : R) (cs : List receivers.Call) (c : receivers.Call) → receivers.after_calls handle r (cs ++ c ∷ []) ≡ (handle (receivers.after_calls handle r cs) c.raw c.output c.ack).receiver
  unfolding receivers.after_calls
  receiver_more r [] c = refl
  receiver_more r (d ∷ cs) c = receiver_more (handle r d.raw d.output d.ack).receiver cs c

-- ---- what one datagram adds
risen : (b : Bool) (n late : ℕ) → late ≡ 0 → ((cond b (suc n) n - n) + late) + n ≡ cond b (suc n) n
risen true n late e = omega arith
risen false n late e = omega arith

not_late : (r : Receiver) (x : Result DatagramReading Refusal) → is_cumulative r ≡ false → as_number (gbn_duplicate r x) ≡ 0
not_late r (Ok (datagram.Valid p)) e = rw e
not_late r (Ok (datagram.Corrupted p)) e = refl
not_late r (Err s) e = refl

late_is : (hs : List PacketReading) (f : ℕ) (w : ℕ) (x : Result DatagramReading Refusal) → is_data x ≡ true → gbn_duplicate (record { state = receiver_from GoBackN w hs f }) x ≡ is_older hs (reading_of x)
late_is hs f w (Ok (datagram.Valid p)) t = by_type_lem p.pkt_type t
  where
    by_type_lem : (k : PacketType) → is_data_type k ≡ true → gbn_duplicate (record { state = receiver_from GoBackN w hs f }) (Ok (datagram.Valid p)) ≡ is_older hs (by_type k p.seq_num)
    by_type_lem packetType.Data t = refl
    by_type_lem packetType.Ack t = absurd (true≢false (sym t))
    by_type_lem packetType.Fin t = absurd (true≢false (sym t))
late_is hs f w (Ok (datagram.Corrupted p)) t = refl
late_is hs f w (Err s) t = absurd (true≢false (sym t))

raised : (b : Bool) (n : ℕ) → ((0 - 0) + as_number b) + n ≡ cond b (suc n) n
raised true n = omega arith
raised false n = omega arith

pub repeated_one : (p : ProtocolType) (w : ℕ) (hs : List PacketReading) (x : Result DatagramReading Refusal) (f g : ℕ) → is_data x ≡ true
    → new_duplicates (record { state = receiver_from p w hs f }) (gbn_duplicate (record { state = receiver_from p w hs f }) x) (record { state = receiver_from p w (reading_of x ∷ hs) g }) + count (is_repeated p w) hs ≡ count (is_repeated p w) (reading_of x ∷ hs)
unfolding count
repeated_one StopAndWait w hs x f g t = risen (is_repeated StopAndWait w hs (reading_of x)) (count (is_repeated StopAndWait w) hs) _ (not_late (record { state = receiver_from StopAndWait w hs f }) x refl)
repeated_one GoBackN w hs x f g t = rw (late_is hs f w x t) (raised (is_repeated GoBackN w hs (reading_of x)) (count (is_repeated GoBackN w) hs))
repeated_one SelectiveRepeat w hs x f g t = risen (is_repeated SelectiveRepeat w hs (reading_of x)) (count (is_repeated SelectiveRepeat w) hs) _ (not_late (record { state = receiver_from SelectiveRepeat w hs f }) x refl)

-- ---- a run's calls
module _ (p : ProtocolType) (w : ℕ) (store : List ℕ) (v : SenderEnd) (output : List ℕ) where
  abbrev first : Ends
  first = ends v (new_receiver p w store) output

  abbrev reads : List Call → List PacketReading
  reads cs = receivers.readings handle_packet (new_receiver p w store) (collect receiver_call_by first cs)

  abbrev repeats : List Call → ℕ
  repeats cs = count (is_repeated p w) (reads cs)

  -- the receiver so far is what was read so far
  told : (cs : List Call) → (after_calls first cs).receiver.receiver ≡ record { state = receiver_from p w (reads cs) (filled (after_calls first cs).receiver.receiver) }
  told cs =
      ap (λ (s : ReceiverState). record { state = s })
      (subst (λ (r : ReceiverEnd). r.receiver.state ≡ receiver_from p w (reads cs) (filled r.receiver)) (receiver_after first cs) (receiver_counted p w store (collect receiver_call_by first cs)))

  none_read : (cs : List Call) (c : Call) → receiver_call_by (after_calls first cs) c ≡ [] → reads (cs ++ c ∷ []) ≡ reads cs
  none_read cs c e =
      ap (receivers.readings handle_packet (new_receiver p w store))
      (collect_more receiver_call_by first cs c ∙ ap (λ (l : List receivers.Call). collect receiver_call_by first cs ++ l) e ∙ append-nil (collect receiver_call_by first cs))

  received : (a : Result (Option ℕ) Refusal) → is_refused a ≡ false → is_received a ≡ true
  received (Ok (Some n)) e = refl
  received (Ok None) e = refl
  received (Err r) e = absurd (true≢false e)

  module _ (cs : List Call) (raw : List ℕ) (carried : Bool) (t : reads_as_data raw ≡ true) (ok : is_refused (received_by (after_calls first cs) raw).answer ≡ false) where
    abbrev this : receivers.Call
    this = record { raw = raw; output = (after_calls first cs).output; ack = ack_buffer }

    one_read : reads (cs ++ arrival raw carried ∷ []) ≡ read_packet raw ∷ reads cs
    one_read =
        ap (receivers.readings handle_packet (new_receiver p w store))
        (collect_more receiver_call_by first cs (arrival raw carried) ∙ ap (λ (b : Bool). collect receiver_call_by first cs ++ cond b (this ∷ []) []) t)
        ∙ readings_more handle_packet (new_receiver p w store) [] (collect receiver_call_by first cs) this
        ∙ ap (λ (r : ReceiverEnd). receivers.readings_with (handle_packet r raw (after_calls first cs).output ack_buffer) raw (reads cs)) (receiver_after first cs)
        ∙ ap (λ (b : Bool). cond b (read_packet raw ∷ reads cs) (reads cs)) (received (received_by (after_calls first cs) raw).answer ok)

    after_is : (after_calls first (cs ++ arrival raw carried ∷ [])).receiver.receiver ≡ (received_by (after_calls first cs) raw).receiver.receiver
    after_is =
        ap (λ (e : Ends). e.receiver.receiver) (after_more first cs (arrival raw carried))
        ∙ ap (λ (b : Bool). (cond b (ends (after_calls first cs).sender (received_by (after_calls first cs) raw).receiver (received_by (after_calls first cs) raw).output) (after_calls first cs)).receiver.receiver) t

    one_repeated : duplicate_data_in (after_calls first cs) (arrival raw carried) + repeats cs ≡ repeats (cs ++ arrival raw carried ∷ [])
    one_repeated =
        let r = (after_calls first cs).receiver.receiver in
        let u = (received_by (after_calls first cs) raw).receiver.receiver in
        let from : List PacketReading → ℕ → Receiver = λ hs f. record { state = receiver_from p w hs f } in
        let late : u ≡ from (read_packet raw ∷ reads cs) (filled (after_calls first (cs ++ arrival raw carried ∷ [])).receiver.receiver) =
        sym after_is ∙ told (cs ++ arrival raw carried ∷ []) ∙ ap (λ (hs : List PacketReading). from hs (filled (after_calls first (cs ++ arrival raw carried ∷ [])).receiver.receiver)) one_read in
        ap (λ (b : Bool). cond b (new_duplicates r (gbn_duplicate r (read_datagram raw)) u) 0 + repeats cs) t
        ∙ ap (λ (x : Receiver). new_duplicates r (gbn_duplicate r (read_datagram raw)) x + repeats cs) late
        ∙ ap (λ (x : Receiver). new_duplicates x (gbn_duplicate x (read_datagram raw)) (from (read_packet raw ∷ reads cs) (filled (after_calls first (cs ++ arrival raw carried ∷ [])).receiver.receiver)) + repeats cs) (told cs)
        ∙ repeated_one p w (reads cs) (read_datagram raw) _ _ t ∙ ap (count (is_repeated p w)) (sym one_read)

  zero_more : (n : ℕ) → 0 + n ≡ n
  zero_more n = omega arith

  each_repeated : (cs : List Call) (c : Call) → NotRefused (after_calls first cs) c → duplicate_data_in (after_calls first cs) c + repeats cs ≡ repeats (cs ++ c ∷ [])
  each_repeated cs (chunk payload carried) h = zero_more _ ∙ ap (count (is_repeated p w)) (sym (none_read cs (chunk payload carried) refl))
  each_repeated cs (timeout t carried) h = zero_more _ ∙ ap (count (is_repeated p w)) (sym (none_read cs (timeout t carried) refl))
  each_repeated cs (return raw age) h = zero_more _ ∙ ap (count (is_repeated p w)) (sym (none_read cs (return raw age) refl))
  each_repeated cs (arrival raw carried) h = go (reads_as_data raw) refl
    where
      go : (b : Bool) → reads_as_data raw ≡ b → duplicate_data_in (after_calls first cs) (arrival raw carried) + repeats cs ≡ repeats (cs ++ arrival raw carried ∷ [])
      go true t = one_repeated cs raw carried t (h t)
      go false t = rw t (zero_more _) ∙ ap (count (is_repeated p w)) (sym (none_read cs (arrival raw carried) (rw t)))

  join : (d t n m k : ℕ) → d + n ≡ m → t + m ≡ k → (d + t) + n ≡ k
  join d t n m k e f = omega arith

  all_repeated : (before cs : List Call) → Each NotRefused (after_calls first before) cs → total duplicate_data_in (after_calls first before) cs + repeats before ≡ repeats (before ++ cs)
  unfolding total
  all_repeated before [] h = zero_more _ ∙ ap repeats (sym (append-nil before))
  all_repeated before (c ∷ cs) h =
      let same = after_more first before c in
      let rest = all_repeated (before ++ c ∷ []) cs (subst (λ (e : Ends). Each NotRefused e cs) (sym same) h.1) in
      join _ _ _ _ _ (each_repeated before c h.0) (ap (λ (e : Ends). total duplicate_data_in e cs + repeats (before ++ c ∷ [])) (sym same) ∙ rest ∙ ap repeats (append_assoc before (c ∷ []) cs))

-- of a run
pub history_duplicates : {k : Ceilings} {c : TransferConfig} {g : Given} {before : Lent} {o : Outcome} {l : Lent} (h : History k c g before o l)
    → o.driver.duplicate_data ≡ count (is_repeated c.protocol c.window_size) (receivers.readings handle_packet (start_ends k c before).receiver (collect receiver_call_by (start_ends k c before) h.calls))
unfolding after_calls collect receivers.readings_after count
history_duplicates {k} {c} {g} {before} {o} h =
    let v = new_sender c.protocol c.window_size k.retries before.sender_store in
    sym (ap (λ (x : DriverCounts). x.duplicate_data) h.tell.counts_are) ∙ add_nothing _
    ∙ all_repeated c.protocol c.window_size before.receiver_store v before.output [] h.calls h.tell.none_refused
  where
    add_nothing : (n : ℕ) → n ≡ n + 0
    add_nothing n = omega arith
