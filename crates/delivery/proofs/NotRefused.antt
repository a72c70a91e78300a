-- In a world that an admissible list leads to, a call with room enough is not refused, as long as no counter is full.
use Rattle.std.specs.Prelude.{None, Option, Some}
use Prim.Native.Nat.{ℕ, zero, suc, ◌+◌, ◌-◌, ◌*◌, ◌≤◌, ◌<◌}
use mathlib.Core.Path.{◌≡◌, refl, ap, ◌∙◌}
use mathlib.Core.List.{List, [], ◌∷◌, ◌++◌, flatten, append-nil}
use mathlib.Core.Bool.{Bool, true, false, cond, ◌&&◌}
use native.Mathlib.Omega.{arith}
use native.Mathlib.Nat.{mul-suc}
use borrow.Author.Tests.{le-ltb, ne_eqb}
use lib.ListN.{length, take, drop, replicate, length-append, length-drop, length-replicate}
use lib.Seq.{length-take-le}
use lib.Dec.{ltb}
use Rattle.refusal.proofs.Laws.{any_of_none}
use Rattle.bounds.specs.Bounds.{header_size, max_payload, max_datagram, seq_num_limit}
use Rattle.protocol.specs.declared.ProtocolType.{ProtocolType}
use Rattle.protocol.specs.declared.ProtocolType.TheVariants.{StopAndWait, GoBackN, SelectiveRepeat}
use Rattle.protocol.specs.Machine.{Segment, SenderState, ReceiverState, next_number, segments_from, receive}
use Rattle.protocol.specs.PlainMachine.{PlainState, plain_start, plain_step, WindowFits}
use Rattle.protocol.specs.Trace as trace
use Rattle.protocol.specs.Trace.{call_of, new_world}
use Rattle.protocol.proofs.Laws.{is_selective, Invariant, at_start, chunks_length, step_ok, claimed, plain_sent}
use Rattle.window.specs.Slots as slots
use Rattle.window.specs.State.{state_broken, counts_broken}
use Rattle.window.specs.Sending.{window_free, send_checks, send_chunk}
use Rattle.window.specs.Resending.{datagrams_from, sent_again, resend}
use Rattle.window.proofs.Laws.{sound}
use Rattle.receiver.specs.State as receiverState
use Rattle.receiver.specs.Reading.{read_packet}
use Rattle.receiver.specs.Reply.{ack_missing, room_missing, ApplyExit, applied}
use Rattle.receiver.specs.Receive as receiver
use Rattle.receiver.specs.Receive.{ReceiveExit, Reception}
use Rattle.receiver.specs.declared.Decision.{Decision}
use Rattle.receiver.proofs.Laws.{state_low}
use Rattle.packet.specs.Reading.{payload_of}
use Rattle.stop_and_wait.specs.Sender as stop_and_wait
use Rattle.stop_and_wait.specs.Receiver as stopAndWaitReceiver
use Rattle.go_back_n.specs.Receiver as goBackNReceiver
use Rattle.selective_repeat.specs.Sender as selective_repeat
use Rattle.selective_repeat.specs.Receiver as sr
use Rattle.selective_repeat.proofs.Laws.{due_within, receiving_sound}
use Rattle.refinement.specs.Good.{Good}
use Rattle.refinement.specs.Copies.{DataOf}
use Rattle.refinement.proofs.Laws.{next_number_lem, state_good, flatten_append}
use Rattle.delivery.specs.Calls.{whole, flipped, Call, send, timeout, to_receiver, to_sender, World, step, run, Allowed, Admissible}
use Rattle.delivery.specs.Ends.{is_send_refused, is_timeout_refused, is_received, WithOutput, with_output, all, earliest, ends, fresh_ends, Made}
use Rattle.delivery.specs.Room.{chunks_in, Fits, NotRefused}
use Rattle.delivery.proofs.Datagrams.{DataBytes, AckBytes, each_at, each_length, count_from}
use Rattle.delivery.proofs.SenderFollows.{SenderIs}
use Rattle.delivery.proofs.ReceiverFollows.{ReceiverIs, packet_follows}
use Rattle.delivery.proofs.Instances.{ReceiverCalls, calls_follow}
use Rattle.delivery.proofs.Simulation.{Follows, one_step}
use Rattle.delivery.proofs.Demand3.{GoodOf, follows, fresh_start, stop_and_wait_receiver, go_back_n_receiver, selective_repeat_receiver}
use Rattle.delivery.proofs.Resending.{false≠true}
use Rattle.delivery.proofs.Progress.{send_accepted, timeout_accepted, again_within, ack_handled, data_received, data_applied}

-- ---- a sender's calls
and_false : (a : Bool) {b : Bool} → b ≡ false → (a && b) ≡ false
and_false true e = e
and_false false e = refl

send_fits : (selective : Bool) (v : slots.Sender) (payload out : List ℕ) → Good selective v → counts_broken v.window ≡ false → v.window.next_seq_num < seq_num_limit
    → length payload ≤ max_payload → header_size + length payload ≤ length out → is_send_refused (send_chunk selective v payload out).answer ≡ false
unfolding send_checks
send_fits selective v payload out good counts low short room =
    send_accepted selective v payload out
    (good, (counts, (le-ltb _ _ short, (and_false (window_free v.window) (ne_eqb _ _ (λ (e : v.window.next_seq_num ≡ seq_num_limit). omega arith)), (and_false (window_free v.window) (le-ltb _ _ room), tt)))))

timeout_fits : (selective : Bool) (v : slots.Sender) (n k most : ℕ) (out : List ℕ) → Good selective v → counts_broken v.window ≡ false → v.window.send_base ≤ n
    → n + k ≤ v.window.next_seq_num → k ≤ most → most * max_datagram ≤ length out
    → is_timeout_refused (resend (state_broken selective v.window v.store) (counts_broken v.window) v n k out).answer ≡ false
timeout_fits selective v n k most out good counts from below few room =
    let l = again_within selective v n k good from below in
    timeout_accepted _ _ v n k out good counts (omega arith)

-- ---- a receiver's call
room_fits : (d : Decision) (size filled : ℕ) (output ack : List ℕ) → cond d.deliver size 0 ≤ length output - filled → header_size ≤ length ack → room_missing d size filled output ack ≡ false
unfolding room_missing
room_fits d size filled output ack h l = rw (deliver d.deliver h, ack_fits d.reply) refl
  where
    deliver : (b : Bool) → cond b size 0 ≤ length output - filled → (b && ltb (length output - filled) size) ≡ false
    deliver true h = le-ltb _ _ h
    deliver false h = refl

    ack_fits : (r : Option ℕ) → ack_missing r ack ≡ false
    ack_fits (Some n) = le-ltb _ _ l
    ack_fits None = refl

applied_filled : (d : Decision) (bytes : List ℕ) (filled : ℕ) (output ack : List ℕ) → (applied d bytes filled output ack).filled ≡ filled + cond d.deliver (length bytes) 0
unfolding applied
applied_filled d bytes filled output ack = by_deliver d.deliver _ _ refl refl
  where
    by_deliver : (b : Bool) (x y : ApplyExit) → x.filled ≡ filled + length bytes → y.filled ≡ filled → (cond b x y).filled ≡ filled + cond b (length bytes) 0
    by_deliver true x y e f = e
    by_deliver false x y e f = omega arith

-- a receiver's call by its checks, its decision and the bytes that it delivers
record Form {R : Type 0} (packet : R → List ℕ → List ℕ → List ℕ → ReceiveExit R) (filled : R → ℕ) (Good : R → List ℕ → Type 0) : Type 0 where
  broken : R → List ℕ → Bool
  counts : R → Bool
  decision : R → List ℕ → Decision
  bytes : R → List ℕ → List ℕ
  after : R → List ℕ → ℕ → R
  is : (r : R) (raw output ack : List ℕ) → packet r raw output ack ≡ receiver.receive (record { state = r; state_broken = broken r output; counts_broken = counts r; filled = filled r; decision = decision r raw; delivered = bytes r raw; after = after r raw }) raw output ack
  sound : (r : R) (output : List ℕ) → Good r output → broken r output ≡ false
  longer : (r : R) (output more : List ℕ) → Good r output → Good r (output ++ more)
  marked : (r : R) (raw : List ℕ) (n : ℕ) → filled (after r raw n) ≡ n

module _ {R : Type 0} (p : ProtocolType) (w : ℕ) (view : R → ReceiverState) (filled : R → ℕ) (Good : R → List ℕ → Type 0) (packet : R → List ℕ → List ℕ → List ℕ → ReceiveExit R) (base : R → ℕ)
    (k : ReceiverCalls p w view filled Good packet base) (f : Form packet filled Good) where
  abbrev given : R → List ℕ → List ℕ → Reception R
  given r raw output = record {
    state = r;
    state_broken = f.broken r output;
    counts_broken = f.counts r;
    filled = filled r;
    decision = f.decision r raw;
    delivered = f.bytes r raw;
    after = f.after r raw;
  }

  -- what it delivers is what the machine delivers: seen of an output that is long enough
  delivered_size : (r : R) (raw output : List ℕ) (q : Segment) → Good r output → filled r ≤ length output → DataOf q raw → f.counts r ≡ false
      → cond (f.decision r raw).deliver (length (f.bytes r raw)) 0 ≡ length (flatten (receive p w (view r) q).delivered)
  delivered_size r raw output q g mark d c =
      let out : List ℕ = output ++ f.bytes r raw in
      let ack : List ℕ = replicate 10 0 in
      let ten : length ack ≡ 10 = length-replicate {A = ℕ} 10 0 in
      let good : Good r out = f.longer r output (f.bytes r raw) g in
      let l : length out ≡ length output + length (f.bytes r raw) = length-append output (f.bytes r raw) in
      let few : cond (f.decision r raw).deliver (length (f.bytes r raw)) 0 ≤ length (f.bytes r raw) = at_most (f.decision r raw).deliver (length (f.bytes r raw)) in
      let room : room_missing (f.decision r raw) (length (f.bytes r raw)) (filled r) out ack ≡ false = room_fits (f.decision r raw) _ (filled r) out ack (omega arith) (omega arith) in
      let x : WithOutput R = with_output r out in
      let y : ReceiveExit R = packet r raw out ack in
      let taken : is_received y.answer ≡ true = rw (f.is r raw out ack) (data_received (given r raw out) raw out ack (f.sound r out good) c room q d) in
      let t = packet_follows p w R view filled Good x (view r) (record { good = good; mark = omega arith; is = refl }) raw ack y (k.outcome r raw out ack good) (k.good r raw out ack good) q d taken in
      let size : filled y.receiver ≡ filled r + cond (f.decision r raw).deliver (length (f.bytes r raw)) 0 =
      ap (λ (z : ReceiveExit R). filled z.receiver) (f.is r raw out ack ∙ data_applied (given r raw out) raw out ack (f.sound r out good) c room q d)
      ∙ f.marked r raw _ ∙ applied_filled (f.decision r raw) (f.bytes r raw) (filled r) out ack in
      let a : length (take (filled y.receiver) y.output) ≡ filled y.receiver = length-take-le (filled y.receiver) y.output t.after.mark in
      let b : length (take (filled r) out) ≡ filled r = length-take-le (filled r) out (omega arith) in
      let e : length (take (filled y.receiver) y.output) ≡ length (take (filled r) out) + length (flatten (receive p w (view r) q).delivered) =
      ap length t.output ∙ length-append (take (filled r) out) (flatten (receive p w (view r) q).delivered) in
      omega (arith, size, a, b, e)
    where
      at_most : (b : Bool) (n : ℕ) → cond b n 0 ≤ n
      at_most true n = omega arith
      at_most false n = omega arith

  data_fits : (x : WithOutput R) (m : ReceiverState) → ReceiverIs p w R view filled Good x m → (raw ack : List ℕ) (q : Segment) → DataOf q raw → f.counts x.receiver ≡ false
      → filled x.receiver + length (flatten (receive p w m q).delivered) ≤ length x.output → header_size ≤ length ack → is_received (packet x.receiver raw x.output ack).answer ≡ true
  data_fits x m h raw ack q d c room l =
      let size = delivered_size x.receiver raw x.output q h.good h.mark d c in
      let same : length (flatten (receive p w (view x.receiver) q).delivered) ≡ length (flatten (receive p w m q).delivered) = ap (λ (r : ReceiverState). length (flatten (receive p w r q).delivered)) h.is in
      rw (f.is x.receiver raw x.output ack)
      (data_received (given x.receiver raw x.output) raw x.output ack (f.sound x.receiver x.output h.good) c
      (room_fits (f.decision x.receiver raw) _ (filled x.receiver) x.output ack (omega (arith, size, same, room, h.mark)) l) q d)

  -- by what stands in the output and behind it
  data_room : (x : WithOutput R) (m : ReceiverState) → ReceiverIs p w R view filled Good x m → (delivered more : List (List ℕ)) (rest : List ℕ)
      → take (filled x.receiver) x.output ≡ flatten delivered → drop (filled x.receiver) x.output ≡ drop (length (flatten delivered)) rest
      → length (flatten delivered) + length (flatten more) ≤ length rest → filled x.receiver + length (flatten more) ≤ length x.output
  data_room x m h delivered more rest e g fits =
      let a = length-take-le (filled x.receiver) x.output h.mark in
      let b = ap length e in
      let c = length-drop (filled x.receiver) x.output in
      let d = ap length g ∙ length-drop (length (flatten delivered)) rest in
      omega (arith, a, b, c, d, h.mark)

in_order_longer : (base filled : ℕ) (output more : List ℕ) → receiverState.state_broken base filled output ≡ false → receiverState.state_broken base filled (output ++ more) ≡ false
in_order_longer base filled output more e = let low = state_low base filled output e in state_good base filled (output ++ more) low.0 (omega (arith, low.1, length-append output more))

stop_and_wait_form : Form stopAndWaitReceiver.handle_packet (λ r. r.filled) (λ r output. receiverState.state_broken r.expected_seq r.filled output ≡ false)
stop_and_wait_form = record {
  broken = λ r output. receiverState.state_broken r.expected_seq r.filled output;
  counts = λ r. receiverState.counts_broken r.total_received r.duplicates_count r.corrupted_count;
  decision = λ r raw. (stopAndWaitReceiver.decision r (read_packet raw)).decision;
  bytes = λ r raw. payload_of raw;
  after = λ r raw. stopAndWaitReceiver.with_mark (stopAndWaitReceiver.decision r (read_packet raw)).receiver;
  is = λ r raw output ack. refl;
  sound = λ r output g. g;
  longer = λ r output more g. in_order_longer r.expected_seq r.filled output more g;
  marked = λ r raw n. refl;
}

go_back_n_form : Form goBackNReceiver.handle_packet (λ r. r.filled) (λ r output. receiverState.state_broken r.expected_seq r.filled output ≡ false)
go_back_n_form = record {
  broken = λ r output. receiverState.state_broken r.expected_seq r.filled output;
  counts = λ r. receiverState.counts_broken r.total_received r.discarded_out_of_order r.duplicate_acks_sent;
  decision = λ r raw. (goBackNReceiver.decision r (read_packet raw)).decision;
  bytes = λ r raw. payload_of raw;
  after = λ r raw. goBackNReceiver.with_mark (goBackNReceiver.decision r (read_packet raw)).receiver;
  is = λ r raw output ack. refl;
  sound = λ r output g. g;
  longer = λ r output more g. in_order_longer r.expected_seq r.filled output more g;
  marked = λ r raw n. refl;
}

selective_longer : (w : ℕ) (r : sr.Receiver) (output more : List ℕ) → GoodOf w r output → GoodOf w r (output ++ more)
unfolding sr.receiving_broken
selective_longer w r output more g =
    let e = receiving_sound r.state r.store output g.good.sound in
    let room : r.state.filled ≤ length (output ++ more) = omega (arith, e.1, length-append output more) in
    record {
      good = record { sound = any_of_none _ (e.0, (le-ltb _ _ room, tt)); none_high = g.good.none_high };
      size = g.size;
    }

selective_repeat_form : (w : ℕ) → Form sr.handle_packet (λ r. r.state.filled) (GoodOf w)
selective_repeat_form w = record {
  broken = λ r output. sr.receiving_broken r.state r.store output;
  counts = λ r. sr.counters_broken r.state;
  decision = λ r raw. (sr.decision r (read_packet raw)).decision;
  bytes = λ r raw. sr.delivered_bytes r (payload_of raw) (sr.decision r (read_packet raw)).change;
  after = λ r raw. sr.after_packet r (payload_of raw) (sr.decision r (read_packet raw));
  is = λ r raw output ack. refl;
  sound = λ r output g. g.good.sound;
  longer = selective_longer w;
  marked = λ r raw n. refl;
}

none_again : (v : slots.Sender) (n : ℕ) (out : List ℕ) → length (sent_again v n 0) ≤ length out
unfolding datagrams_from
none_again v n out = omega arith

-- ---- the ends of a protocol: 8 of the sender, of the receiver
abbrev pub sender_counts : (p : ProtocolType) → (ends p).Sender → Bool
sender_counts StopAndWait s = counts_broken (stop_and_wait.window_of s.sender)
sender_counts GoBackN s = counts_broken s.window
sender_counts SelectiveRepeat s = counts_broken s.window

abbrev pub receiver_counts : (p : ProtocolType) → (ends p).Receiver → Bool
receiver_counts StopAndWait r = receiverState.counts_broken r.receiver.total_received r.receiver.duplicates_count r.receiver.corrupted_count
receiver_counts GoBackN r = receiverState.counts_broken r.receiver.total_received r.receiver.discarded_out_of_order r.receiver.duplicate_acks_sent
receiver_counts SelectiveRepeat r = sr.counters_broken r.receiver.state

send_done : (p : ProtocolType) (w : ℕ) (s : (ends p).Sender) (m : SenderState) → (follows p w).SenderIs s m → sender_counts p s ≡ false → (payload buffer : List ℕ) → next_number m < seq_num_limit
    → Fits p w (send payload buffer) → ((ends p).send_chunk s payload buffer).is_refused ≡ false
unfolding follows calls_follow
send_done StopAndWait w s m h c payload buffer low fits =
    send_fits false (stop_and_wait.window_end s) payload buffer h.good c (omega (arith, low, ap next_number h.is, next_number_lem false (stop_and_wait.window_end s) h.good)) fits.0 fits.1
send_done GoBackN w s m h c payload buffer low fits = send_fits false s payload buffer h.good c (omega (arith, low, ap next_number h.is, next_number_lem false s h.good)) fits.0 fits.1
send_done SelectiveRepeat w s m h c payload buffer low fits = send_fits true s payload buffer h.good c (omega (arith, low, ap next_number h.is, next_number_lem true s h.good)) fits.0 fits.1

timeout_done : (p : ProtocolType) (w : ℕ) (s : (ends p).Sender) (m : SenderState) → (follows p w).SenderIs s m → sender_counts p s ≡ false → (t : (ends p).Timeout) (buffer : List ℕ)
    → Fits p w (timeout t buffer) → ((ends p).handle_timeout s t buffer).is_refused ≡ false
unfolding follows calls_follow
timeout_done StopAndWait w s m h c t buffer fits =
    let v = stop_and_wait.window_end s in
    let o = (sound false v.window v.store h.good).ordered in
    let left : stop_and_wait.retries_left s.sender ≤ 1 = one_at_most (ltb s.sender.current_retries s.sender.max_retries) in
    timeout_fits false v _ _ 1 buffer h.good c (omega arith) (omega arith) (omega arith) fits
  where
    one_at_most : (b : Bool) → cond b 1 0 ≤ 1
    one_at_most true = omega arith
    one_at_most false = omega arith
timeout_done GoBackN w s m h c all buffer fits =
    let o = sound false s.window s.store h.good in
    let ordered = o.ordered in
    let few = o.few in
    let size = h.size in
    timeout_fits false s _ _ w buffer h.good c (omega arith) (omega arith) (omega arith) fits
timeout_done GoBackN w s m h c earliest buffer fits =
    let o = (sound false s.window s.store h.good).ordered in
    timeout_fits false s _ _ 1 buffer h.good c (omega arith) (omega arith) (omega arith) fits
timeout_done SelectiveRepeat w s m h c n buffer fits = by_due_lem (selective_repeat.due s n) refl
  where
    by_due_lem : (b : Bool) → selective_repeat.due s n ≡ b → ((ends SelectiveRepeat).handle_timeout s n buffer).is_refused ≡ false
    by_due_lem true e =
        let i = due_within s n e in
        rw e (timeout_fits true s n 1 1 buffer h.good c i.0 (omega (arith, i.1)) (omega arith) fits)
    by_due_lem false e =
        rw e (timeout_accepted _ _ s n 0 buffer h.good c (none_again s n buffer))

ack_done : (p : ProtocolType) (w : ℕ) (s : (ends p).Sender) (m : SenderState) → (follows p w).SenderIs s m → sender_counts p s ≡ false → (raw : List ℕ) (n : ℕ) → AckBytes raw n → ((ends p).handle_ack s raw).is_done ≡ true
unfolding follows calls_follow
ack_done StopAndWait w s m h c raw n a = ack_handled false _ _ raw s (stop_and_wait.acknowledged s) n h.good c a
ack_done GoBackN w s m h c raw n a = ack_handled false _ _ raw s _ n h.good c a
ack_done SelectiveRepeat w s m h c raw n a = ack_handled true _ _ raw s _ n h.good c a

data_done : (p : ProtocolType) (w : ℕ) (x : (ends p).Receiver) (m : ReceiverState) → (follows p w).ReceiverIs x m → receiver_counts p x ≡ false → (raw ack : List ℕ) (q : Segment) → DataBytes raw q
    → (delivered : List (List ℕ)) (rest : List ℕ) → (ends p).output x ≡ flatten delivered → (ends p).unwritten x ≡ drop (length (flatten delivered)) rest
    → length (flatten delivered) + length (flatten (receive p w m q).delivered) ≤ length rest → header_size ≤ length ack → ((ends p).handle_packet x raw ack).is_done ≡ true
unfolding follows calls_follow stop_and_wait_form go_back_n_form selective_repeat_form
data_done StopAndWait w x m h c raw ack q d delivered rest e g fits l =
    let k = stop_and_wait_receiver w in
    data_fits StopAndWait w _ _ _ _ _ k stop_and_wait_form x m h raw ack q d c (data_room StopAndWait w _ _ _ _ _ k stop_and_wait_form x m h delivered _ rest e g fits) l
data_done GoBackN w x m h c raw ack q d delivered rest e g fits l =
    let k = go_back_n_receiver w in
    data_fits GoBackN w _ _ _ _ _ k go_back_n_form x m h raw ack q d c (data_room GoBackN w _ _ _ _ _ k go_back_n_form x m h delivered _ rest e g fits) l
data_done SelectiveRepeat w x m h c raw ack q d delivered rest e g fits l =
    let k = selective_repeat_receiver w in
    data_fits SelectiveRepeat w _ _ _ _ _ k (selective_repeat_form w) x m h raw ack q d c (data_room SelectiveRepeat w _ _ _ _ _ k (selective_repeat_form w) x m h delivered _ rest e g fits) l

-- ---- any call
flatten_first : (n : ℕ) (chunks : List (List ℕ)) → length (flatten (take n chunks)) ≤ length (flatten chunks)
unfolding flatten
flatten_first zero chunks = omega arith
flatten_first (suc n) [] = omega arith
flatten_first (suc n) (c ∷ chunks) =
    let rest = flatten_first n chunks in
    omega (arith, length-append c (flatten (take n chunks)), length-append c (flatten chunks))

-- s is the plain machine, rest the output behind its fill mark at the start
module _ (p : ProtocolType) (w : ℕ) (o : WindowFits p w) (rest : List ℕ) (v : World (ends p)) (m : trace.World) (s : PlainState)
    (f : Follows p w (ends p) (follows p w) rest v m) (i : Invariant (is_selective p) w m s)
    (few : sender_counts p v.sender ≡ false) (fewer : receiver_counts p v.receiver ≡ false) (room : length (flatten s.sent) ≤ length rest) where
  -- what is delivered after a segment is a first part of S
  delivered_within : (q : Segment) → trace.Allowed w m (trace.received q) → length (flatten m.delivered) + length (flatten (receive p w m.receiver q).delivered) ≤ length rest
  unfolding trace.step
  delivered_within q a =
      let j = step_ok p w m s (trace.received q) o i a in
      let t : PlainState = plain_step p w s (call_of (trace.received q)) in
      let same : t.sent ≡ s.sent = plain_sent p w s (call_of (trace.received q)) ∙ append-nil s.sent in
      let e = (claimed (is_selective p) w _ t j).first_delivered in
      let l : length (flatten (m.delivered ++ (receive p w m.receiver q).delivered)) ≡ length (flatten (take t.D s.sent)) = ap (λ (l : List (List ℕ)). length (flatten l)) (e ∙ ap (take t.D) same) in
      let k : length (flatten (m.delivered ++ (receive p w m.receiver q).delivered)) ≡ length (flatten m.delivered) + length (flatten (receive p w m.receiver q).delivered) =
      ap length (flatten_append m.delivered _) ∙ length-append (flatten m.delivered) _ in
      omega (arith, l, k, flatten_first t.D s.sent)

  pub not_refused : (c : Call (ends p).Timeout) → Allowed v c → Fits p w c → length s.sent + length (chunks_in (c ∷ [])) ≤ seq_num_limit → NotRefused (ends p) v c
  not_refused (send payload buffer) a fits low =
      let n = (claimed (is_selective p) w m s i).all_numbered in
      send_done p w v.sender m.sender f.sender few payload buffer (omega arith) fits
  not_refused (timeout t buffer) a fits low = timeout_done p w v.sender m.sender f.sender few t buffer fits
  not_refused (to_receiver (whole j) buffer) a fits low = λ e.
      let q = each_at DataBytes [] v.sent m.segments j f.sent a in
      data_done p w v.receiver m.receiver f.receiver fewer _ buffer q.other q.belongs m.delivered rest f.output f.unwritten (delivered_within q.other q.member) fits
  not_refused (to_receiver (flipped j k b) buffer) a fits low = λ e. absurd (false≠true e)
  not_refused (to_sender (whole j)) a fits low = λ e.
      let n = each_at AckBytes [] v.replies m.acks j f.replies a in
      ack_done p w v.sender m.sender f.sender few _ n.other n.belongs
  not_refused (to_sender (flipped j k b)) a fits low = λ e. absurd (false≠true e)

-- ---- the datagrams that a list makes: at most a window's for each call
segments_more : (p : ProtocolType) (w : ℕ) (m : trace.World) (s : PlainState) (e : trace.Event) → Invariant (is_selective p) w m s → trace.Allowed w m e
    → length (trace.step p w m e).segments ≤ length m.segments + w
unfolding trace.step
segments_more p w m s (trace.sent c) i a = let l = length-append m.segments (record { number = next_number m.sender; payload = c } ∷ []) in omega (arith, l, a)
segments_more p w m s (trace.resent n k) i a =
    let l = length-append m.segments (segments_from m.sender n k) in
    let c = chunks_length i.ends in
    omega (arith, l, count_from m.sender n k, c, i.ends.fits, a.0, a.1)
segments_more p w m s (trace.received q) i a = omega arith
segments_more p w m s (trace.acknowledged n) i a = omega arith
segments_more p w m s (trace.other c) i a = omega arith

module _ (p : ProtocolType) (w : ℕ) (o : WindowFits p w) (rest : List ℕ) where
  sent_more : (v : World (ends p)) (m : trace.World) (s : PlainState) → Follows p w (ends p) (follows p w) rest v m → Invariant (is_selective p) w m s → (cs : List (Call (ends p).Timeout))
      → Admissible (ends p) v cs → length (run (ends p) v cs).sent ≤ length v.sent + w * length cs
  unfolding run
  sent_more v m s f i [] a = omega arith
  sent_more v m s f i (c ∷ cs) a =
      let one = one_step p w (ends p) (follows p w) rest v m f c a.0 in
      let more = segments_more p w m s one.event i one.allowed in
      let now = each_length DataBytes v.sent m.segments f.sent in
      let then = each_length DataBytes (step (ends p) v c).sent (trace.step p w m one.event).segments one.follows.sent in
      let rest_of = sent_more (step (ends p) v c) (trace.step p w m one.event) (plain_step p w s (call_of one.event)) one.follows (step_ok p w m s one.event o i one.allowed) cs a.1 in
      let times : w * length (c ∷ cs) ≡ w * length cs + w = mul-suc w (length cs) in
      omega (arith, more, now, then, rest_of, times)

pub fresh_none : (p : ProtocolType) (w limit : ℕ) (sending receiving output : List ℕ) → (fresh_ends p w limit sending receiving output).sent ≡ []
fresh_none StopAndWait w limit sending receiving output = refl
fresh_none GoBackN w limit sending receiving output = refl
fresh_none SelectiveRepeat w limit sending receiving output = refl

pub sent_within : (p : ProtocolType) (w limit : ℕ) (sending receiving output : List ℕ) → Made p w sending receiving → (cs : List (Call (ends p).Timeout))
    → Admissible (ends p) (fresh_ends p w limit sending receiving output) cs → length (run (ends p) (fresh_ends p w limit sending receiving output) cs).sent ≤ w * length cs
sent_within p w limit sending receiving output m cs a =
    let v = fresh_ends p w limit sending receiving output in
    let l = sent_more p w m.window _ v (new_world p w) plain_start (fresh_start p w limit sending receiving output m) (at_start p w) cs a in
    let z : length v.sent ≡ 0 = ap length (fresh_none p w limit sending receiving output) in
    omega (arith, l, z)
