-- Demand 3 with drains between the calls.
use Rattle.std.specs.Prelude.{Err, Ok, Result}
use Prim.Native.Nat.{ℕ, suc, ◌<◌}
use mathlib.Core.Path.{◌≡◌, refl, sym, ap, ◌∙◌}
use mathlib.Core.Bool.{true, false}
use mathlib.Core.List.{List, [], ◌∷◌}
use native.Mathlib.Omega.{arith}
use borrow.Author.Tests.{ltb-false, le-ltb}
use lib.ListN.{length}
use lib.Dec.{ltb}
use Rattle.bounds.specs.Bounds.{seq_num_limit, count_limit}
use Rattle.refusal.specs.Clauses.{any_of}
use Rattle.refusal.specs.Order.{verdict, decide, held_checks}
use Rattle.refusal.proofs.Laws.{none_of, either_answer, held_none}
use Rattle.protocol.specs.declared.ProtocolType.{ProtocolType}
use Rattle.protocol.specs.declared.ProtocolType.TheVariants.{StopAndWait, GoBackN, SelectiveRepeat}
use Rattle.protocol.specs.Machine.{ReceiverState}
use Rattle.protocol.specs.Trace.{new_world}
use Rattle.receiver.specs.State as receiverState
use Rattle.stop_and_wait.specs.Receiver as stop_and_wait
use Rattle.stop_and_wait.specs.declared.StopAndWaitReceiver.{StopAndWaitReceiver}
use Rattle.go_back_n.specs.Receiver as go_back_n
use Rattle.go_back_n.specs.declared.GoBackNReceiver.{GoBackNReceiver}
use Rattle.selective_repeat.specs.Receiver as selective_repeat
use Rattle.refinement.proofs.Laws.{state_good}
use Rattle.delivery.specs.Calls.{whole, to_receiver, World, step}
use Rattle.delivery.specs.Ends.{ends, fresh_ends, Made}
use Rattle.delivery.proofs.Laws.{ReceiverGood, receiver_step_good, fresh_receiver_sound}
use Rattle.delivery.proofs.Instances.{calls_follow}
use Rattle.delivery.proofs.Demand3.{follows, fresh_start}
use Rattle.tallies.proofs.NoneRefused.{ReadIs, read_step, receiver_few, fresh_reached}
use Rattle.session.specs.Receiving.{ReceiverEnd, filled}
use Rattle.session.specs.GoodReceiver.{broken_in, counts_broken_in}
use Rattle.session.specs.Ends.{receiver_of, output_of}
use Rattle.session.proofs.Laws.{output_is}
use Rattle.host_drain.specs.declared.DrainResult.{DrainResult}
use Rattle.host_drain.specs.Drain.{drain_result, emptied, drain_receiver}
use Rattle.host_drain.specs.Calls.{drainable, DrainCall, DrainAdmissible, drain_run, DrainsDone, plain_after_drains, DrainClaim, emptied_end, drain_answer, is_drained, bytes_taken, draining, drain_fresh}
use Rattle.host_drain.proofs.EveryList.{Emptied, drained_claim, start_drains, Counting, every_drain_done}
use Rattle.refusal.specs.declared.Refusal.{Refusal}

-- a fill mark of 0 is within any output
mark_zero : (base filled : ℕ) (output next : List ℕ) → receiverState.state_broken base filled output ≡ false → receiverState.state_broken base 0 next ≡ false
unfolding receiverState.state_broken
mark_zero base filled output next e =
    let low = ltb-false seq_num_limit base (none_of _ e).0 in
    state_good base 0 next (omega arith) (omega arith)

selective_zero : (r : selective_repeat.Receiver) (output next : List ℕ) → selective_repeat.receiving_broken r.state r.store output ≡ false
    → selective_repeat.receiving_broken (selective_repeat.with_filled r.state 0) r.store next ≡ false
unfolding selective_repeat.receiving_broken any_of selective_repeat.state_broken
selective_zero r output next e =
    let held = (none_of (selective_repeat.state_broken r.state r.store ∷ ltb (length output) r.state.filled ∷ []) e).0 in
    simp (held, le-ltb (length next) 0 (omega arith))

-- the receiver is the machine's still
pub emptied_is : (p : ProtocolType) (w : ℕ) (r : (ends p).Receiver) (next : List ℕ) (m : ReceiverState) → (follows p w).ReceiverIs r m → (follows p w).ReceiverIs (emptied_end p r next) m
unfolding follows calls_follow
emptied_is StopAndWait w r next m h =
    record { good = mark_zero _ r.receiver.filled r.output next h.good; mark = omega arith; is = h.is }
emptied_is GoBackN w r next m h =
    record { good = mark_zero _ r.receiver.filled r.output next h.good; mark = omega arith; is = h.is }
emptied_is SelectiveRepeat w r next m h =
    record {
      good = record {
        good = record { sound = selective_zero r.receiver r.output next h.good.good.sound; none_high = h.good.good.none_high };
        size = h.good.size;
      };
      mark = omega arith;
      is = h.is;
    }

pub nothing_present : (p : ProtocolType) (r : (ends p).Receiver) (next : List ℕ) → ((ends p).output (emptied_end p r next) ≡ []) × ((ends p).unwritten (emptied_end p r next) ≡ next)
nothing_present StopAndWait r next = (refl, refl)
nothing_present GoBackN r next = (refl, refl)
nothing_present SelectiveRepeat r next = (refl, refl)

-- the end after a drain is what the drain of the session's receiver leaves
module _ (v : ReceiverEnd) (output : List ℕ) where
  abbrev AsDone : DrainResult → Type 0
  AsDone x = is_drained x.answer ≡ true → x ≡ drain_result (emptied v.receiver) (Ok (filled v.receiver))

  drain_done : AsDone (drain_receiver v output)
  unfolding drain_receiver
  drain_done =
      either_answer AsDone (verdict (held_checks (broken_in v.receiver.state v.store output) (counts_broken_in v.receiver.state)))
      (λ r. drain_result v.receiver (Err r)) (drain_result (emptied v.receiver) (Ok (filled v.receiver)))
      (λ r e. let z : ◌≡◌ {A = ℕ} 0 1 = cc in absurd (omega arith)) (λ e h. refl)

pub drained_end : (p : ProtocolType) (store : List ℕ) (r : (ends p).Receiver) (next : List ℕ) → is_drained (drain_answer p r) ≡ true
    → drain_receiver (receiver_of p store r) (output_of p r) ≡ drain_result (receiver_of p store (emptied_end p r next)).receiver (Ok (filled (receiver_of p store r).receiver))
unfolding drain_receiver
drained_end StopAndWait store r next e = drain_done (receiver_of StopAndWait store r) r.output e
drained_end GoBackN store r next e = drain_done (receiver_of GoBackN store r) r.output e
drained_end SelectiveRepeat store r next e = drain_done (receiver_of SelectiveRepeat store r) r.output e

-- the bytes that the answer counts are the output up to the fill mark
taken_is : (p : ProtocolType) (r : (ends p).Receiver) → is_drained (drain_answer p r) ≡ true → bytes_taken (drain_answer p r) (output_of p r) ≡ (ends p).output r
taken_is p r e =
    let counted = ap (λ (x : DrainResult). x.answer) (drained_end p [] r [] e) in
    ap (λ (a : Result ℕ Refusal). bytes_taken a (output_of p r)) counted ∙ sym (output_is p [] r)

empties : (p : ProtocolType) (w : ℕ) (r : (ends p).Receiver) (m : ReceiverState) (next : List ℕ) → (follows p w).ReceiverIs r m → (draining p).Asks r → (draining p).is_done r ≡ true
    → Emptied (ends p) (follows p w).ReceiverIs (draining p) r m next
empties p w r m next h a e =
    let present = nothing_present p r next in
    record { is = emptied_is p w r next m h; all_taken = taken_is p r e; none_present = present.0; rest = present.1 }

-- Demand 3 of every list of calls and drains from fresh ends
module _ (p : ProtocolType) (w limit : ℕ) (sending receiving output : List ℕ) (made : Made p w sending receiving) where
  abbrev start : World (drainable (ends p))
  start = drain_fresh p w limit sending receiving output

  pub drained_delivered : (cs : List (DrainCall (ends p).Timeout)) → DrainAdmissible (ends p) (draining p) start cs
      → DrainClaim (ends p) w (drain_run (ends p) (draining p) start cs) (plain_after_drains (ends p) (draining p) p w start cs)
  drained_delivered cs l =
      drained_claim p w (ends p) (follows p w) (draining p) (empties p w) made.window start
      (start_drains p w (ends p) (follows p w) (fresh_ends p w limit sending receiving output) (new_world p w) (fresh_start p w limit sending receiving output made)) cs l

-- ---- no drain is refused
pub emptied_good : (p : ProtocolType) (w : ℕ) (r : (ends p).Receiver) (next : List ℕ) → ReceiverGood p w r → ReceiverGood p w (emptied_end p r next)
emptied_good StopAndWait w r next g = mark_zero _ r.receiver.filled r.output next g
emptied_good GoBackN w r next g = mark_zero _ r.receiver.filled r.output next g
emptied_good SelectiveRepeat w r next g =
    record { good = record { sound = selective_zero r.receiver r.output next g.good.sound; none_high = g.good.none_high }; size = g.size }

-- good, and its counters are those of at most n packets
pub record CountedEnd (p : ProtocolType) (w n : ℕ) (r : (ends p).Receiver) : Type 0 where
  pub good : ReceiverGood p w r
  pub read : ReadIs p w r n

-- a packet of any bytes is one of a world's
pub packet_counted : (p : ProtocolType) (w n : ℕ) (r : (ends p).Receiver) (raw buffer : List ℕ) → CountedEnd p w n r → CountedEnd p w (suc n) ((ends p).handle_packet r raw buffer).after
unfolding step
packet_counted p w n r raw buffer h =
    let v : World (ends p) = record { sender = (fresh_ends p w 0 [] [] []).sender; receiver = r; sent = raw ∷ []; replies = [] } in
    record { good = receiver_step_good p w r (record { raw = raw; buffer = buffer }) h.good; read = read_step p w v (to_receiver (whole 0) buffer) n h.read }

pub later_counted : (p : ProtocolType) (w n : ℕ) (r : (ends p).Receiver) → CountedEnd p w n r → CountedEnd p w (suc n) r
later_counted p w n r h = let few = h.read.few in record { good = h.good; read = record { readings = h.read.readings; counted = h.read.counted; few = omega (arith, few) } }

pub emptied_counted : (p : ProtocolType) (w n : ℕ) (r : (ends p).Receiver) (next : List ℕ) → CountedEnd p w n r → CountedEnd p w n (emptied_end p r next)
emptied_counted StopAndWait w n r next h =
    let k = h.read in
    record {
      good = emptied_good StopAndWait w r next h.good;
      read = record { readings = k.readings; counted = ap (λ (q : StopAndWaitReceiver). stop_and_wait.with_mark q 0) k.counted; few = k.few };
    }
emptied_counted GoBackN w n r next h =
    let k = h.read in
    record {
      good = emptied_good GoBackN w r next h.good;
      read = record { readings = k.readings; counted = ap (λ (q : GoBackNReceiver). go_back_n.with_mark q 0) k.counted; few = k.few };
    }
emptied_counted SelectiveRepeat w n r next h =
    let k = h.read in
    let c = k.counted in
    record {
      good = emptied_good SelectiveRepeat w r next h.good;
      read = record {
        readings = k.readings;
        counted = record {
          filled = 0;
          store = c.store;
          is = ap (λ (q : selective_repeat.Receiver). selective_repeat.receiver (selective_repeat.with_filled q.state 0) q.store) c.is;
          slots = c.slots;
        };
        few = k.few;
      };
    }

unbroken_done : (v : ReceiverEnd) (output : List ℕ) → broken_in v.receiver.state v.store output ≡ false → counts_broken_in v.receiver.state ≡ false → is_drained (drain_receiver v output).answer ≡ true
unfolding drain_receiver decide
unbroken_done v output e f = rw (e, f, held_none) refl

pub counted_done : (p : ProtocolType) (w n : ℕ) (r : (ends p).Receiver) → CountedEnd p w n r → n < count_limit → is_drained (drain_answer p r) ≡ true
counted_done StopAndWait w n r h few = unbroken_done (receiver_of StopAndWait [] r) r.output h.good (receiver_few StopAndWait w r n h.read few)
counted_done GoBackN w n r h few = unbroken_done (receiver_of GoBackN [] r) r.output h.good (receiver_few GoBackN w r n h.read few)
counted_done SelectiveRepeat w n r h few = unbroken_done (receiver_of SelectiveRepeat [] r) r.output h.good.good.sound (receiver_few SelectiveRepeat w r n h.read few)

counting : (p : ProtocolType) (w : ℕ) → Counting (ends p) (draining p)
counting p w = record {
  Counted = CountedEnd p w;
  later = later_counted p w;
  packet = packet_counted p w;
  emptied = λ n r next h e. emptied_counted p w n r next h;
  is_done = counted_done p w;
}

pub fresh_counted : (p : ProtocolType) (w limit : ℕ) (sending receiving output : List ℕ) → Made p w sending receiving → CountedEnd p w 0 (fresh_ends p w limit sending receiving output).receiver
fresh_counted p w limit sending receiving output m =
    record { good = fresh_receiver_sound p w limit sending receiving output m; read = (fresh_reached p w limit sending receiving output m).read_is }

-- in any list of fewer than 2^60 calls and drains from fresh ends
pub drains_done : (p : ProtocolType) (w limit : ℕ) (sending receiving output : List ℕ) → Made p w sending receiving → (cs : List (DrainCall (ends p).Timeout)) → length cs < count_limit
    → DrainsDone (ends p) (draining p) (drain_fresh p w limit sending receiving output) cs
unfolding counting
drains_done p w limit sending receiving output m cs few =
    every_drain_done (ends p) (draining p) (counting p w) 0 (drain_fresh p w limit sending receiving output) (fresh_counted p w limit sending receiving output m) cs (omega (arith, few))
