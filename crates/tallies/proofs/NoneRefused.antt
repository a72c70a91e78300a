-- In an admissible list from fresh ends whose buffers, output, numbers and counters suffice no call is refused, but for flipped copies.
use Prim.Native.Nat.{ℕ, suc, ◌+◌, ◌≤◌, ◌<◌}
use mathlib.Core.Path.{◌≡◌, refl, sym, ap, ◌∙◌, subst}
use mathlib.Core.Bool.{Bool, true, false, cond}
use mathlib.Core.List.{List, [], ◌∷◌, ◌++◌, flatten}
use native.Mathlib.Omega.{arith}
use lib.ListN.{length, length-append}
use Rattle.bounds.specs.Bounds.{seq_num_limit, count_limit}
use Rattle.protocol.specs.declared.ProtocolType.{ProtocolType}
use Rattle.protocol.specs.declared.ProtocolType.TheVariants.{StopAndWait, GoBackN, SelectiveRepeat}
use Rattle.protocol.specs.PlainMachine.{PlainState, plain_start, plain_step, WindowFits}
use Rattle.protocol.specs.Trace as trace
use Rattle.protocol.specs.Trace.{call_of, new_world}
use Rattle.protocol.proofs.Laws.{is_selective, Invariant, at_start, step_ok, chunks_fed, plain_sent}
use Rattle.refinement.proofs.Laws.{flatten_append}
use Rattle.window.specs.State as window
use Rattle.window.specs.Slots.{fresh}
use Rattle.receiver.specs.State as receiver
use Rattle.receiver.specs.Reading.{read_packet}
use Rattle.receiver.specs.Receive.{ReceiveExit}
use Rattle.receiver.specs.declared.PacketReading.{PacketReading}
use Rattle.stop_and_wait.specs.declared.StopAndWaitReceiver.{StopAndWaitReceiver}
use Rattle.stop_and_wait.specs.Receiver as stop_and_wait
use Rattle.go_back_n.specs.declared.GoBackNReceiver.{GoBackNReceiver}
use Rattle.go_back_n.specs.Receiver as go_back_n
use Rattle.selective_repeat.specs.declared.SelectiveRepeatReceiver.{SelectiveRepeatReceiver}
use Rattle.selective_repeat.specs.Receiver as selective_repeat
use Rattle.delivery.specs.Calls.{Call, send, timeout, to_receiver, to_sender, copy_bytes, Ends, World, datagrams, step, run, Admissible, fed_by}
use Rattle.delivery.specs.Ends.{is_received, ends, fresh_ends, Made}
use Rattle.delivery.specs.AnyBytes as any
use Rattle.delivery.specs.Room.{chunks_in, AllFit, Suffices, NoneRefused}
use Rattle.delivery.proofs.Laws.{sent_grows}
use Rattle.delivery.proofs.Simulation.{Follows, one_step}
use Rattle.delivery.proofs.Demand3.{follows, fresh_start}
use Rattle.delivery.proofs.NotRefused.{sender_counts, receiver_counts, not_refused, fresh_none}
use Rattle.tallies.specs.Readings.{is_older, is_corrupted, is_out_of_order, is_answered_again, is_buffered, is_duplicate, count, expected}
use Rattle.tallies.specs.Receivers.{readings_with}
use Rattle.tallies.specs.Senders.{Answered, sent_by}
use Rattle.tallies.proofs.Senders.{Counted, none_written, go_back_n_counted, selective_repeat_counted}
use Rattle.tallies.proofs.StopAndWait.{stop_and_wait_counted_lem}
use Rattle.tallies.proofs.InOrder.{stop_and_wait_counted, stop_and_wait_each, go_back_nCounted, go_back_n_each}
use Rattle.tallies.proofs.SelectiveRepeat.{Kept, selective_repeat_each, fresh_kept, kept_state}
use Rattle.tallies.proofs.Limits.{resent_by_sent, counts_sound, one_more, length_cond, receiver_sound}

-- ---- the sender's counters: as many as the datagrams that it made
abbrev sent_count : (p : ProtocolType) → (ends p).Sender → ℕ
sent_count StopAndWait s = s.sender.total_sent
sent_count GoBackN s = s.window.total_sent
sent_count SelectiveRepeat s = s.window.total_sent

abbrev resent_count : (p : ProtocolType) → (ends p).Sender → ℕ
resent_count StopAndWait s = s.sender.retransmissions
resent_count GoBackN s = s.window.retransmissions
resent_count SelectiveRepeat s = s.window.retransmissions

pub record SentIs (p : ProtocolType) (s : (ends p).Sender) (made : List (List ℕ)) : Type 0 where
  pub all : sent_count p s ≡ length made
  pub again : resent_count p s ≤ length made

pub sender_few : (p : ProtocolType) (s : (ends p).Sender) (made : List (List ℕ)) → SentIs p s made → length made < count_limit → sender_counts p s ≡ false
unfolding window.counts_broken
sender_few StopAndWait s made h few = let a = h.all in let b = h.again in counts_sound (sent_count StopAndWait s) (resent_count StopAndWait s) (omega arith) (omega arith)
sender_few GoBackN s made h few = let a = h.all in let b = h.again in counts_sound (sent_count GoBackN s) (resent_count GoBackN s) (omega arith) (omega arith)
sender_few SelectiveRepeat s made h few = let a = h.all in let b = h.again in counts_sound (sent_count SelectiveRepeat s) (resent_count SelectiveRepeat s) (omega arith) (omega arith)

-- a call that raised both as the datagrams say that it wrote
raised : (p : ProtocolType) (s t : (ends p).Sender) (a : Answered) (made more : List (List ℕ)) → SentIs p s made → Counted (sent_count p) (resent_count p) s t a → length more ≡ sent_by a → SentIs p t (made ++ more)
raised p s t a made more h c e =
    let l = length-append made more in
    let few = resent_by_sent a in
    let x = c.sent_count in
    let y = c.resent_count in
    let z = h.all in
    let u = h.again in
    record { all = omega arith; again = omega arith }

pub sent_step : (p : ProtocolType) (v : World (ends p)) (c : Call (ends p).Timeout) → SentIs p v.sender v.sent → SentIs p (step (ends p) v c).sender (step (ends p) v c).sent
unfolding step
sent_step p v (to_receiver c buffer) h = h
sent_step StopAndWait v (send payload buffer) h = raised StopAndWait v.sender _ _ v.sent _ h (stop_and_wait_counted_lem v.sender (any.send payload buffer)) refl
sent_step StopAndWait v (timeout t buffer) h = raised StopAndWait v.sender _ _ v.sent _ h (stop_and_wait_counted_lem v.sender (any.timeout t buffer)) refl
sent_step StopAndWait v (to_sender c) h = raised StopAndWait v.sender _ _ v.sent _ h (stop_and_wait_counted_lem v.sender (any.ack (copy_bytes v.replies c))) none_written
sent_step GoBackN v (send payload buffer) h = raised GoBackN v.sender _ _ v.sent _ h (go_back_n_counted v.sender (any.send payload buffer)) refl
sent_step GoBackN v (timeout t buffer) h = raised GoBackN v.sender _ _ v.sent _ h (go_back_n_counted v.sender (any.timeout t buffer)) refl
sent_step GoBackN v (to_sender c) h = raised GoBackN v.sender _ _ v.sent _ h (go_back_n_counted v.sender (any.ack (copy_bytes v.replies c))) none_written
sent_step SelectiveRepeat v (send payload buffer) h = raised SelectiveRepeat v.sender _ _ v.sent _ h (selective_repeat_counted v.sender (any.send payload buffer)) refl
sent_step SelectiveRepeat v (timeout t buffer) h = raised SelectiveRepeat v.sender _ _ v.sent _ h (selective_repeat_counted v.sender (any.timeout t buffer)) refl
sent_step SelectiveRepeat v (to_sender c) h = raised SelectiveRepeat v.sender _ _ v.sent _ h (selective_repeat_counted v.sender (any.ack (copy_bytes v.replies c))) none_written

-- ---- the receiver's: at most as many as the calls
abbrev Read : (p : ProtocolType) → ℕ → (ends p).Receiver → List PacketReading → Type 0
Read StopAndWait w r hs = stop_and_wait_counted hs r.receiver
Read GoBackN w r hs = go_back_nCounted hs r.receiver
Read SelectiveRepeat w r hs = Kept w hs r.receiver

pub record ReadIs (p : ProtocolType) (w : ℕ) (r : (ends p).Receiver) (calls : ℕ) : Type 0 where
  pub readings : List PacketReading
  pub counted : Read p w r readings
  pub few : length readings ≤ calls

pub receiver_few : (p : ProtocolType) (w : ℕ) (r : (ends p).Receiver) (calls : ℕ) → ReadIs p w r calls → calls < count_limit → receiver_counts p r ≡ false
receiver_few StopAndWait w r calls h few =
    let l = h.few in
    subst (λ (q : StopAndWaitReceiver). receiver.counts_broken q.total_received q.duplicates_count q.corrupted_count ≡ false) (sym h.counted) (receiver_sound h.readings is_older (λ earlier. is_corrupted) (omega arith))
receiver_few GoBackN w r calls h few =
    let l = h.few in
    subst (λ (q : GoBackNReceiver). receiver.counts_broken q.total_received q.discarded_out_of_order q.duplicate_acks_sent ≡ false) (sym h.counted) (receiver_sound h.readings is_out_of_order is_answered_again (omega arith))
receiver_few SelectiveRepeat w r calls h few =
    let l = h.few in
    subst (λ (q : SelectiveRepeatReceiver). selective_repeat.counters_broken q ≡ false) (sym (kept_state w h.readings r.receiver h.counted)) (receiver_sound h.readings (is_buffered w) (is_duplicate w) (omega arith))

read_more : {R : Type 0} (x : ReceiveExit R) (raw : List ℕ) (hs : List PacketReading) (calls : ℕ) → length hs ≤ calls → length (readings_with x raw hs) ≤ suc calls
read_more x raw hs calls h = rw (length_cond (is_received x.answer) (read_packet raw) hs) (one_more (is_received x.answer) (length hs) calls h)

read_later : (p : ProtocolType) (w : ℕ) (r : (ends p).Receiver) (calls : ℕ) → ReadIs p w r calls → ReadIs p w r (suc calls)
read_later p w r calls h = let l = h.few in record { readings = h.readings; counted = h.counted; few = omega arith }

pub read_step : (p : ProtocolType) (w : ℕ) (v : World (ends p)) (c : Call (ends p).Timeout) (calls : ℕ) → ReadIs p w v.receiver calls → ReadIs p w (step (ends p) v c).receiver (suc calls)
unfolding step
read_step p w v (send payload buffer) calls h = read_later p w v.receiver calls h
read_step p w v (timeout t buffer) calls h = read_later p w v.receiver calls h
read_step p w v (to_sender c) calls h = read_later p w v.receiver calls h
read_step StopAndWait w v (to_receiver c buffer) calls h =
    let r = v.receiver in
    let raw = copy_bytes v.sent c in
    record { readings = _; counted = stop_and_wait_each h.readings r.receiver h.counted raw r.output buffer; few = read_more (stop_and_wait.handle_packet r.receiver raw r.output buffer) raw h.readings calls h.few }
read_step GoBackN w v (to_receiver c buffer) calls h =
    let r = v.receiver in
    let raw = copy_bytes v.sent c in
    record { readings = _; counted = go_back_n_each h.readings r.receiver h.counted raw r.output buffer; few = read_more (go_back_n.handle_packet r.receiver raw r.output buffer) raw h.readings calls h.few }
read_step SelectiveRepeat w v (to_receiver c buffer) calls h =
    let r = v.receiver in
    let raw = copy_bytes v.sent c in
    record { readings = _; counted = selective_repeat_each w h.readings r.receiver h.counted raw r.output buffer; few = read_more (selective_repeat.handle_packet r.receiver raw r.output buffer) raw h.readings calls h.few }

-- ---- S within the chunks of the list
record Within (added rest all : List (List ℕ)) : Type 0 where
  bytes : length (flatten added) + length (flatten rest) ≤ length (flatten all)
  number : length added + length rest ≤ length all

none_within : (b : Bool) (rest : List (List ℕ)) → Within (cond b [] []) rest rest
unfolding flatten
none_within true rest = record { bytes = omega arith; number = omega arith }
none_within false rest = record { bytes = omega arith; number = omega arith }

fed_within : (E : Ends) (v : World E) (c : Call E.Timeout) (cs : List (Call E.Timeout)) → Within (chunks_fed (fed_by E v c)) (chunks_in cs) (chunks_in (c ∷ cs))
unfolding fed_by flatten
fed_within E v (send payload buffer) cs = by_done (E.send_chunk v.sender payload buffer).is_done
  where
    by_done : (b : Bool) → Within (cond b (payload ∷ []) []) (chunks_in cs) (payload ∷ chunks_in cs)
    by_done true = record { bytes = omega (arith, length-append payload [], length-append payload (flatten (chunks_in cs))); number = omega arith }
    by_done false = record { bytes = omega (arith, length-append payload (flatten (chunks_in cs))); number = omega arith }
fed_within E v (timeout t buffer) cs = none_within (fed_by E v (timeout t buffer)).effect (chunks_in cs)
fed_within E v (to_receiver c buffer) cs = none_within (fed_by E v (to_receiver c buffer)).effect (chunks_in cs)
fed_within E v (to_sender c) cs = none_within (fed_by E v (to_sender c)).effect (chunks_in cs)

first_within : {T : Type 0} (c : Call T) (cs : List (Call T)) → length (chunks_in (c ∷ [])) + length (chunks_in cs) ≡ length (chunks_in (c ∷ cs))
first_within (send payload buffer) cs = omega arith
first_within (timeout t buffer) cs = omega arith
first_within (to_receiver c buffer) cs = omega arith
first_within (to_sender c) cs = omega arith

-- ---- the list
module _ (p : ProtocolType) (w : ℕ) (o : WindowFits p w) (rest : List ℕ) where
  -- where the list has come: after so many calls
  pub record Reached (v : World (ends p)) (m : trace.World) (s : PlainState) (calls : ℕ) : Type 0 where
    pub follows_it : Follows p w (ends p) (follows p w) rest v m
    pub invariant : Invariant (is_selective p) w m s
    pub sent_is : SentIs p v.sender v.sent
    pub read_is : ReadIs p w v.receiver calls

  from_there : (v : World (ends p)) (m : trace.World) (s : PlainState) (calls : ℕ) → Reached v m s calls → (cs : List (Call (ends p).Timeout)) → Admissible (ends p) v cs → AllFit p w cs
      → length (flatten s.sent) + length (flatten (chunks_in cs)) ≤ length rest → length s.sent + length (chunks_in cs) ≤ seq_num_limit
      → length (run (ends p) v cs).sent < count_limit → calls + length cs < count_limit → NoneRefused (ends p) v cs
  unfolding run
  from_there v m s calls r [] a fits room low few fewer = tt
  from_there v m s calls r (c ∷ cs) a fits room low few fewer =
      let f = r.follows_it in
      let i = r.invariant in
      let one = one_step p w (ends p) (follows p w) rest v m f c a.0 in
      let t : PlainState = plain_step p w s (call_of one.event) in
      let added : List (List ℕ) = chunks_fed (fed_by (ends p) v c) in
      let grown : t.sent ≡ s.sent ++ added = plain_sent p w s (call_of one.event) ∙ ap (λ x. s.sent ++ chunks_fed x) one.same_fed in
      let within = fed_within (ends p) v c cs in
      let bytes : length (flatten t.sent) ≡ length (flatten s.sent) + length (flatten added) = ap (λ (l : List (List ℕ)). length (flatten l)) grown ∙ ap length (flatten_append s.sent added) ∙ length-append (flatten s.sent) (flatten added) in
      let number : length t.sent ≡ length s.sent + length added = ap length grown ∙ length-append s.sent added in
      let made = sent_grows (ends p) v (c ∷ cs) in
      let size : length (run (ends p) v (c ∷ cs)).sent ≡ length v.sent + length made.more = ap length made.is ∙ length-append v.sent made.more in (
        not_refused p w o rest v m s f i (sender_few p v.sender v.sent r.sent_is (omega (arith, few, size))) (receiver_few p w v.receiver calls r.read_is (omega (arith, fewer))) (omega (arith, room)) c a.0 fits.0
            (omega (arith, low, first_within c cs)),
        from_there (step (ends p) v c) (trace.step p w m one.event) t (suc calls)
            (record { follows_it = one.follows; invariant = step_ok p w m s one.event o i one.allowed; sent_is = sent_step p v c r.sent_is; read_is = read_step p w v c calls r.read_is })
            cs a.1 fits.1 (omega (arith, room, bytes, within)) (omega (arith, low, number, within)) few (omega (arith, fewer)),
      )

fresh_sent : (p : ProtocolType) (w limit : ℕ) (sending receiving output : List ℕ) → SentIs p (fresh_ends p w limit sending receiving output).sender []
unfolding fresh
fresh_sent StopAndWait w limit sending receiving output = record { all = refl; again = omega arith }
fresh_sent GoBackN w limit sending receiving output = record { all = refl; again = omega arith }
fresh_sent SelectiveRepeat w limit sending receiving output = record { all = refl; again = omega arith }

fresh_read : (p : ProtocolType) (w limit : ℕ) (sending receiving output : List ℕ) → ReadIs p w (fresh_ends p w limit sending receiving output).receiver 0
unfolding expected count
fresh_read StopAndWait w limit sending receiving output = record { readings = []; counted = refl; few = omega arith }
fresh_read GoBackN w limit sending receiving output = record { readings = []; counted = refl; few = omega arith }
fresh_read SelectiveRepeat w limit sending receiving output = record { readings = []; counted = fresh_kept w receiving; few = omega arith }

pub fresh_reached : (p : ProtocolType) (w limit : ℕ) (sending receiving output : List ℕ) (m : Made p w sending receiving)
    → Reached p w m.window ((ends p).unwritten (fresh_ends p w limit sending receiving output).receiver) (fresh_ends p w limit sending receiving output) (new_world p w) plain_start 0
fresh_reached p w limit sending receiving output m =
    record {
      follows_it = fresh_start p w limit sending receiving output m;
      invariant = at_start p w;
      sent_is = rw (fresh_none p w limit sending receiving output) (fresh_sent p w limit sending receiving output);
      read_is = fresh_read p w limit sending receiving output;
    }

pub none_refused : (p : ProtocolType) (w limit : ℕ) (sending receiving output : List ℕ) → Made p w sending receiving → (cs : List (Call (ends p).Timeout))
    → Admissible (ends p) (fresh_ends p w limit sending receiving output) cs → Suffices p w (fresh_ends p w limit sending receiving output) cs
    → NoneRefused (ends p) (fresh_ends p w limit sending receiving output) cs
unfolding plain_start flatten
none_refused p w limit sending receiving output m cs a h =
    let v = fresh_ends p w limit sending receiving output in
    from_there p w m.window ((ends p).unwritten v.receiver) v (new_world p w) plain_start 0
    (fresh_reached p w limit sending receiving output m)
    cs a h.buffers (omega (arith, h.output)) (omega (arith, h.numbers)) h.datagrams (omega (arith, h.calls))
