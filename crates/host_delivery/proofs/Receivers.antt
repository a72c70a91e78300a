-- A receiver in words does what the protocol's own does: the words hold it after every call.
use Rattle.std.specs.Prelude.{Option, Some}
use Prim.Native.Nat.{ℕ, ◌≤◌}
use mathlib.Core.Path.{◌≡◌, refl, sym, ap, ◌∙◌, subst}
use mathlib.Core.List.{List}
use mathlib.Core.Bool.{not}
use native.Mathlib.Omega.{arith}
use borrow.Author.Tests.{ltb-false}
use lib.ListN.{length, get_or, take, drop}
use Rattle.bounds.specs.Bounds.{seq_num_limit}
use Rattle.refusal.proofs.Laws.{none_of}
use Rattle.protocol.specs.declared.ProtocolType.{ProtocolType}
use Rattle.protocol.specs.declared.ProtocolType.TheVariants.{StopAndWait, GoBackN, SelectiveRepeat}
use Rattle.receiver.specs.State as receiverState
use Rattle.selective_repeat.specs.Receiver as selective_repeat
use Rattle.delivery.specs.Calls.{Done}
use Rattle.delivery.specs.AnyBytes.{ReceiverSound}
use Rattle.delivery.specs.Ends.{ends, is_received, WithOutput}
use Rattle.delivery.proofs.Laws.{ReceiverGood, receiver_good_sound, receiver_step_good}
use Rattle.session.specs.Receiving.{ReceiverEnd, receiver_end, handle_packet}
use Rattle.session.specs.Ends.{receiver_of, output_of}
use Rattle.session.proofs.Laws.{with_output_of, handle_packet_is, receiver_base_is, output_is, unwritten_is}
use Rattle.host_words.specs.Words.{state_words, receiver_word, held_receiver, receiver_fields, with_receiver}
use Rattle.host_words.proofs.Words.{receiver_places, receiver_length}
use Rattle.host_words.proofs.HeldBack.{receiver_protocol_of, ReceiverFits, receiver_kind, receiver_held}
use Rattle.host_ends.specs.Answers.{CallExit}
use Rattle.host_ends.specs.Receiver as host
use Rattle.host_ends.specs.Receiver.{received, receive_held}
use Rattle.host_delivery.specs.Host.{HostReceiver, host_ends, by_receiver}
use Rattle.host_delivery.proofs.Simulation.{Does}
use Rattle.host_delivery.proofs.Answers.{packet_refused, twice_not, replied_bytes}
use Rattle.session.specs.declared.Receiver.{Receiver}

-- words of p's receiver hold r, with its output and, in Selective Repeat, its store; r is good
pub record HoldsReceiver (p : ProtocolType) (w : ℕ) (h : HostReceiver) (r : (ends p).Receiver) : Type 0 where
  pub long : state_words ≤ length h.words
  pub word : get_or h.words 0 0 ≡ receiver_word p
  pub held : held_receiver h.words ≡ Some (receiver_of p h.store r).receiver
  pub store : (receiver_of p h.store r).store ≡ h.store
  pub output : output_of p r ≡ h.output
  pub good : ReceiverGood p w r

-- such a receiver fits in words
sound_fits : (p : ProtocolType) (store : List ℕ) (r : (ends p).Receiver) → ReceiverSound p r → ReceiverFits (receiver_of p store r).receiver.state
unfolding receiverState.state_broken selective_repeat.receiving_broken selective_repeat.state_broken receiver_fields
sound_fits StopAndWait store r e = let low = ltb-false seq_num_limit r.receiver.expected_seq (none_of _ e).0 in omega (arith, low)
sound_fits GoBackN store r e = let low = ltb-false seq_num_limit r.receiver.expected_seq (none_of _ e).0 in omega (arith, low)
sound_fits SelectiveRepeat store r e =
    let low = ltb-false seq_num_limit r.receiver.state.recv_base (none_of _ (none_of _ e).0).1.1.0 in omega (arith, low)

protocol_of_lem : (p : ProtocolType) (store : List ℕ) (r : (ends p).Receiver) → receiver_protocol_of (receiver_of p store r).receiver.state ≡ p
protocol_of_lem StopAndWait store r = refl
protocol_of_lem GoBackN store r = refl
protocol_of_lem SelectiveRepeat store r = refl

any_store : (p : ProtocolType) (a b : List ℕ) (r : (ends p).Receiver) → (receiver_of p a r).receiver ≡ (receiver_of p b r).receiver
any_store StopAndWait a b r = refl
any_store GoBackN a b r = refl
any_store SelectiveRepeat a b r = refl

own_store : (p : ProtocolType) (store : List ℕ) (r : (ends p).Receiver) → (receiver_of p (receiver_of p store r).store r).store ≡ (receiver_of p store r).store
own_store StopAndWait store r = refl
own_store GoBackN store r = refl
own_store SelectiveRepeat store r = refl

-- the words, the store and the output after a call that left y
abbrev pub put_back : List ℕ → WithOutput ReceiverEnd → HostReceiver
put_back words y = record { words = with_receiver words y.receiver.receiver.state; store = y.receiver.store; output = y.output }

-- a good receiver put into words of its kind is what they hold
pub put_holds : (p : ProtocolType) (w : ℕ) (words store : List ℕ) (r : (ends p).Receiver) → state_words ≤ length words → get_or words 0 0 ≡ receiver_word p → ReceiverGood p w r
    → HoldsReceiver p w (put_back words (with_output_of p store r)) r
put_holds p w words store r enough word good =
    let x = (receiver_of p store r).receiver.state in
    let size = receiver_length words x in
    record {
      long = omega (arith, size, enough);
      word = receiver_kind words x ∙ word;
      held = receiver_held words x enough (word ∙ ap receiver_word (sym (protocol_of_lem p store r))) (sound_fits p store r (receiver_good_sound p w r good))
          ∙ ap Some (any_store p store (receiver_of p store r).store r);
      store = own_store p store r;
      output = refl;
      good = good;
    }

module _ (p : ProtocolType) (w : ℕ) (h : HostReceiver) (r : (ends p).Receiver) (before : HoldsReceiver p w h r) where
  receive_is : (raw ack : List ℕ) → host.receive h.words h.store raw h.output ack ≡ received h.words (handle_packet (receiver_of p h.store r) raw (output_of p r) ack)
  unfolding receive_held
  receive_is raw ack =
      ap (λ (x : Option Receiver). receive_held x h.words h.store raw h.output ack) before.held
      ∙ sym (ap (λ (store : List ℕ). received h.words (handle_packet (receiver_end (receiver_of p h.store r).receiver store) raw h.output ack)) before.store)
      ∙ sym (ap (λ (output : List ℕ). received h.words (handle_packet (receiver_of p h.store r) raw output ack)) before.output)

  pub host_packets : (raw ack : List ℕ) → Does (HoldsReceiver p w) (host_ends.handle_packet h raw ack) ((ends p).handle_packet r raw ack)
  host_packets raw ack =
      let x = handle_packet (receiver_of p h.store r) raw (output_of p r) ack in
      let e = receive_is raw ack in
      let same = handle_packet_is p h.store r raw ack in
      let after = ((ends p).handle_packet r raw ack).after in
      let put = ap (λ (c : CallExit). (by_receiver c).after) e ∙ ap (λ (d : Done (WithOutput ReceiverEnd)). put_back h.words d.after) same in
      record {
        after = subst (λ (y : HostReceiver). HoldsReceiver p w y after) (sym put)
            (put_holds p w h.words h.store after before.long before.word (receiver_step_good p w r (record { raw = raw; buffer = ack }) before.good));
        written = ap (λ (c : CallExit). (by_receiver c).written) e ∙ replied_bytes x.answer x.ack ∙ ap (λ (d : Done (WithOutput ReceiverEnd)). d.written) same;
        same_done = ap (λ (c : CallExit). (by_receiver c).is_done) e ∙ ap not (packet_refused x.answer) ∙ twice_not (is_received x.answer) ∙ ap (λ (d : Done (WithOutput ReceiverEnd)). d.is_done) same;
        same_refused = ap (λ (c : CallExit). (by_receiver c).is_refused) e ∙ packet_refused x.answer ∙ ap (λ (d : Done (WithOutput ReceiverEnd)). d.is_refused) same;
      }

  pub host_receiver_base : host_ends.receiver_base h ≡ (ends p).receiver_base r
  host_receiver_base = sym (receiver_base_is p h.store r ∙ (receiver_places h.words before.held).0)

  pub host_output : host_ends.output h ≡ (ends p).output r
  host_output =
      sym (output_is p h.store r ∙ ap (λ (n : ℕ). take n (output_of p r)) (receiver_places h.words before.held).1 ∙ ap (take (get_or h.words 3 0)) before.output)

  pub host_unwritten : host_ends.unwritten h ≡ (ends p).unwritten r
  host_unwritten =
      sym (unwritten_is p h.store r ∙ ap (λ (n : ℕ). drop n (output_of p r)) (receiver_places h.words before.held).1 ∙ ap (drop (get_or h.words 3 0)) before.output)
