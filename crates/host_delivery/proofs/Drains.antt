-- Demand 3 of the exports with drains between the calls: a drain of words does what the receiver's own does.
use Rattle.std.specs.Prelude.{Err, Ok, Option, Result}
use Prim.Native.Nat.{ℕ, ◌<◌}
use mathlib.Core.Path.{◌≡◌, refl, sym, ap, ◌∙◌, subst}
use mathlib.Core.List.{List}
use mathlib.Core.Bool.{true}
use native.Mathlib.Omega.{arith}
use borrow.Author.Tests.{eqb-true}
use lib.ListN.{length, take}
use Rattle.bounds.specs.Bounds.{count_limit}
use Rattle.protocol.specs.declared.ProtocolType.{ProtocolType}
use Rattle.protocol.specs.declared.ProtocolType.TheVariants.{StopAndWait, GoBackN, SelectiveRepeat}
use Rattle.protocol.specs.Machine.{ReceiverState}
use Rattle.protocol.specs.Trace.{new_world}
use Rattle.delivery.specs.Ends.{ends}
use Rattle.session.specs.declared.Timeout.{Timeout}
use Rattle.session.specs.Receiving.{receiver_end}
use Rattle.session.specs.Ends.{receiver_of, output_of}
use Rattle.session.proofs.Laws.{with_output_of}
use Rattle.host_answer.specs.Answer.{status_in, value_limit, count_answer, Refusing}
use Rattle.host_answer.specs.Exit.{WordsExit}
use Rattle.host_words.specs.Words.{with_receiver}
use Rattle.host_words.proofs.Words.{receiver_places}
use Rattle.host_drain.specs.declared.DrainResult.{DrainResult}
use Rattle.host_drain.specs.Drain.{drain_receiver, drained, drain_held}
use Rattle.host_drain.specs.Calls.{DrainCall, drain_run, DrainAdmissible, DrainsDone, plain_after_drains, DrainClaim, emptied_end, drain_answer, is_drained}
use Rattle.host_drain.proofs.Unchanged.{drain_done}
use Rattle.host_drain.proofs.EveryList.{Emptied, drained_claim, start_drains, Counting, every_drain_done}
use Rattle.host_drain.proofs.Delivered.{drained_end, emptied_is, nothing_present, emptied_good, CountedEnd, packet_counted, later_counted, emptied_counted, counted_done, fresh_counted}
use Rattle.host_delivery.specs.Host.{HostReceiver, is_done, host_ends, Setup, window_of, made_ends, BothMade}
use Rattle.host_delivery.specs.Drains.{drain_of, host_draining, made_drainable}
use Rattle.host_delivery.proofs.Simulation.{simulated}
use Rattle.host_delivery.proofs.Answers.{done_read, refused_not_done}
use Rattle.host_delivery.proofs.Receivers.{HoldsReceiver, put_back, put_holds, host_packets, host_output, host_unwritten}
use Rattle.host_delivery.proofs.Making.{start_of, made, window_fits, made_receiver}
use Rattle.host_delivery.proofs.Demand3.{simulation, host_follows, made_follows}
use Rattle.session.specs.declared.Receiver.{Receiver}
use Rattle.refusal.specs.declared.Refusal.{Refusal}

drained_read : (a : Result ℕ Refusal) → is_done (count_answer a) ≡ is_drained a
unfolding count_answer
drained_read (Ok n) = done_read n
drained_read (Err r) = refused_not_done r

any_store : (p : ProtocolType) (store : List ℕ) (r : (ends p).Receiver) → (drain_receiver (receiver_of p store r) (output_of p r)).answer ≡ drain_answer p r
unfolding drain_receiver
any_store StopAndWait store r = refl
any_store GoBackN store r = refl
any_store SelectiveRepeat store r = refl

store_kept : (p : ProtocolType) (store : List ℕ) (r : (ends p).Receiver) (next : List ℕ) → (receiver_of p store (emptied_end p r next)).store ≡ (receiver_of p store r).store
store_kept StopAndWait store r next = refl
store_kept GoBackN store r next = refl
store_kept SelectiveRepeat store r next = refl

next_lent : (p : ProtocolType) (r : (ends p).Receiver) (next : List ℕ) → output_of p (emptied_end p r next) ≡ next
next_lent StopAndWait r next = refl
next_lent GoBackN r next = refl
next_lent SelectiveRepeat r next = refl

module _ (p : ProtocolType) (w : ℕ) (h : HostReceiver) (r : (ends p).Receiver) (before : HoldsReceiver p w h r) where
  drain_is : drain_of h ≡ drained h.words (drain_receiver (receiver_of p h.store r) (output_of p r))
  unfolding drain_held
  drain_is =
      ap (λ (x : Option Receiver). drain_held x h.words h.store h.output) before.held
      ∙ sym (ap (λ (store : List ℕ). drained h.words (drain_receiver (receiver_end (receiver_of p h.store r).receiver store) h.output)) before.store)
      ∙ sym (ap (λ (output : List ℕ). drained h.words (drain_receiver (receiver_of p h.store r) output)) before.output)

  pub same_done : host_draining.is_done h ≡ is_drained (drain_answer p r)
  same_done = ap (λ (x : WordsExit). is_done x.answer) drain_is ∙ drained_read (drain_receiver (receiver_of p h.store r) (output_of p r)).answer ∙ ap is_drained (any_store p h.store r)

  pub emptied_holds : host_draining.is_done h ≡ true → (next : List ℕ) → HoldsReceiver p w (host_draining.emptied h next) (emptied_end p r next)
  emptied_holds e next =
      let y = emptied_end p r next in
      let state = (receiver_of p h.store y).receiver.state in
      let words : (drain_of h).words ≡ with_receiver h.words state =
      ap (λ (x : WordsExit). x.words) drain_is ∙ ap (λ (x : DrainResult). with_receiver h.words x.receiver.state) (drained_end p h.store r next (sym same_done ∙ e)) in
      let same : put_back h.words (with_output_of p h.store y) ≡ host_draining.emptied h next =
      ap (λ (store : List ℕ). record { words = with_receiver h.words state; store = store; output = output_of p y }) (store_kept p h.store r next ∙ before.store)
      ∙ ap (λ (output : List ℕ). record { words = with_receiver h.words state; store = h.store; output = output }) (next_lent p r next)
      ∙ sym (ap (λ (l : List ℕ). record { words = l; store = h.store; output = next }) words) in
      subst (λ (x : HostReceiver). HoldsReceiver p w x y) same (put_holds p w h.words h.store y before.long before.word (emptied_good p w r next before.good))

  -- a host that takes as many bytes as are answered takes the output up to the fill mark
  all_taken : length h.output < value_limit → host_draining.is_done h ≡ true → host_draining.taken h ≡ host_ends.output h
  all_taken small e =
      let zero : status_in (drain_of h).answer ≡ 0 = eqb-true (status_in (drain_of h).answer) 0 e in
      let x = drain_done h.words h.store h.output before.held small (λ (n : Refusing (drain_of h).answer). let from = n.from in omega (arith, from, zero)) in
      ap (λ (n : ℕ). take n h.output) (x.answer ∙ (receiver_places h.words before.held).1)

empties : (p : ProtocolType) (w : ℕ) (h : HostReceiver) (m : ReceiverState) (next : List ℕ) → (host_follows p w).ReceiverIs h m → host_draining.Asks h → host_draining.is_done h ≡ true
    → Emptied host_ends (host_follows p w).ReceiverIs host_draining h m next
unfolding host_follows simulated simulation
empties p w h m next i small e =
    let r = i.other in
    let holds = emptied_holds p w h r i.stands e next in
    let y = emptied_end p r next in
    let present = nothing_present p r next in
    record {
      is = record { other = y; stands = holds; is = emptied_is p w r next m i.is };
      all_taken = all_taken p w h r i.stands small e;
      none_present = host_output p w (host_draining.emptied h next) y holds ∙ present.0;
      rest = host_unwritten p w (host_draining.emptied h next) y holds ∙ present.1;
    }

-- words that hold a receiver of at most n packets
record HostCounted (p : ProtocolType) (w n : ℕ) (h : HostReceiver) : Type 0 where
  pub other : (ends p).Receiver
  pub holds : HoldsReceiver p w h other
  pub counted : CountedEnd p w n other

unfoldable counting : (p : ProtocolType) (w : ℕ) → Counting host_ends host_draining
counting p w = record {
  Counted = HostCounted p w;
  later = λ n h i. record { other = i.other; holds = i.holds; counted = later_counted p w n i.other i.counted };
  packet = λ n h raw ack i. record {
    other = ((ends p).handle_packet i.other raw ack).after;
    holds = (host_packets p w h i.other i.holds raw ack).after;
    counted = packet_counted p w n i.other raw ack i.counted;
  };
  emptied = λ n h next i e. record {
    other = emptied_end p i.other next;
    holds = emptied_holds p w h i.other i.holds e next;
    counted = emptied_counted p w n i.other next i.counted;
  };
  is_done = λ n h i few. same_done p w h i.other i.holds ∙ counted_done p w n i.other i.counted few;
}

module _ (s : Setup) (b : BothMade s) (cs : List (DrainCall Timeout)) where
  abbrev p : ProtocolType
  p = s.protocol

  abbrev w : ℕ
  w = window_of s

  -- the bytes taken and the output up to its fill mark, joined, are S's first D chunks joined
  pub host_drained_delivered : DrainAdmissible host_ends host_draining (made_drainable s) cs
      → DrainClaim host_ends w (drain_run host_ends host_draining (made_drainable s) cs) (plain_after_drains host_ends host_draining p w (made_drainable s) cs)
  host_drained_delivered l =
      drained_claim p w host_ends (host_follows p w) host_draining (empties p w) (window_fits p s.window) (made_drainable s)
      (start_drains p w host_ends (host_follows p w) (made_ends s) (new_world p w) (made_follows s b)) cs l

  -- no drain is refused in a list of fewer than 2^60 calls and drains
  pub host_drains_done : length cs < count_limit → DrainsDone host_ends host_draining (made_drainable s) cs
  unfolding counting
  host_drains_done few =
      let first : HostCounted p w 0 (made_ends s).receiver = record {
        other = (start_of s).receiver;
        holds = made_receiver s b;
        counted = fresh_counted p w s.limit s.sender_store s.receiver_store s.output (made s b);
      } in
      every_drain_done host_ends host_draining (counting p w) 0 (made_drainable s) first cs (omega (arith, few))
