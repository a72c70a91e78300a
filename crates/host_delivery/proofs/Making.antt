-- What two makings that are done leave: words that hold demand 3's fresh ends.
use Rattle.std.specs.Prelude.{Err, Ok, Result}
use Prim.Native.Nat.{ℕ, ◌≤◌}
use mathlib.Core.Path.{◌≡◌, refl, sym, ap, ◌∙◌, subst}
use mathlib.Core.List.{List, [], ◌∷◌}
use mathlib.Core.Bool.{Bool, true, false}
use native.Mathlib.Omega.{arith}
use borrow.Author.Tests.{ltb-false, le-ltb}
use lib.ListN.{length}
use lib.Dec.{ltb}
use Rattle.octets.specs.Octets.{Octets}
use Rattle.refusal.specs.declared.Refusal.TheVariants.{State, Setup, Full}
use Rattle.refusal.specs.Order.{Check, check, verdict, decide}
use Rattle.refusal.specs.Clauses.{any_of}
use Rattle.refusal.proofs.Laws.{accepted_none_true, none_true_accepted, on_accepted, none_of, any_of_none}
use Rattle.protocol.specs.declared.ProtocolType.{ProtocolType}
use Rattle.protocol.specs.declared.ProtocolType.TheVariants.{StopAndWait, GoBackN, SelectiveRepeat}
use Rattle.protocol.specs.PlainMachine.{WindowFits}
use Rattle.window.specs.State.{window_broken, store_short}
use Rattle.delivery.specs.Calls.{World}
use Rattle.delivery.specs.Ends.{ends, fresh_ends, with_output, ReceivingRoom, Made}
use Rattle.delivery.proofs.Laws.{fresh_sender_sound, fresh_receiver_sound}
use Rattle.session.specs.Sending.{slot_count, new_sender}
use Rattle.session.specs.Receiving.{ReceiverEnd, receiver_slot_count, new_receiver}
use Rattle.session.specs.Ends.{output_of}
use Rattle.session.proofs.Laws.{new_sender_is, new_receiver_is, with_output_of}
use Rattle.host_answer.specs.Answer.{refusal_answer}
use Rattle.host_words.specs.Words.{state_words, sender_word, receiver_word, with_kind}
use Rattle.host_words.proofs.HeldBack.{kind_made, kind_length}
use Rattle.host_ends.specs.Answers.{CallExit, call_exit}
use Rattle.host_ends.specs.Making.{make_unless, made_exit, sender_made, sender_broken, make_sender_of, receiver_made, make_receiver_of, by_protocol}
use Rattle.host_delivery.specs.Host as host
use Rattle.host_delivery.specs.Host.{HostSender, HostReceiver, is_done, lent, sender_after, protocol_number, window_of, made_ends, BothMade}
use Rattle.host_delivery.proofs.Answers.{refused_not_done}
use Rattle.host_delivery.proofs.Senders as senders
use Rattle.host_delivery.proofs.Senders.{RetriesFit, HoldsSender}
use Rattle.host_delivery.proofs.Receivers as receivers
use Rattle.host_delivery.proofs.Receivers.{HoldsReceiver}
use Rattle.refusal.specs.declared.Refusal.{Refusal}

-- ---- makings that are done
abbrev make_checks : ℕ → Bool → List ℕ → List ℕ → List Check
make_checks slots setup words store = check (store_short store slots) State ∷ check setup Setup ∷ check (ltb (length words) state_words) Full ∷ []

record Makes (slots : ℕ) (setup : Bool) (words store : List ℕ) (made : CallExit) : Type 0 where
  is : make_unless slots setup words store made ≡ made
  room : store_short store slots ≡ false
  bounds : setup ≡ false
  long : state_words ≤ length words

makes_by : (slots : ℕ) (setup : Bool) (words store : List ℕ) (made : CallExit) (v : Result Unit Refusal) → verdict (make_checks slots setup words store) ≡ v
    → is_done (decide v (λ r. call_exit (refusal_answer r) (words ∷ store ∷ [])) made).answer ≡ true → Makes slots setup words store made
unfolding make_unless decide
makes_by slots setup words store made (Ok tt) e h =
    let none = accepted_none_true (make_checks slots setup words store) e in
    record { is = on_accepted _ made e; room = none.0; bounds = none.1.0; long = ltb-false (length words) state_words none.1.1.0 }
makes_by slots setup words store made (Err r) e h = let f = refused_not_done r in let z : ◌≡◌ {A = ℕ} 0 1 = cc in absurd (omega arith)

makes : (slots : ℕ) (setup : Bool) (words store : List ℕ) (made : CallExit) → is_done (make_unless slots setup words store made).answer ≡ true → Makes slots setup words store made
unfolding make_unless
makes slots setup words store made h = makes_by slots setup words store made (verdict (make_checks slots setup words store)) refl h

-- a making that meets no check is done
made_done : (slots : ℕ) (setup : Bool) (words store words' store' : List ℕ) → store_short store slots ≡ false → setup ≡ false → state_words ≤ length words
    → is_done (make_unless slots setup words store (made_exit words' store')).answer ≡ true
unfolding make_unless
made_done slots setup words store words' store' room bounds enough =
    let none = none_true_accepted (make_checks slots setup words store) (room, (bounds, (le-ltb (length words) state_words enough, tt))) in
    subst (λ (x : CallExit). is_done x.answer ≡ true) (sym (on_accepted (λ r. call_exit (refusal_answer r) (words ∷ store ∷ [])) (made_exit words' store') none)) refl

by_number_lem : (p : ProtocolType) (words store : List ℕ) (make : ProtocolType → CallExit) → by_protocol (protocol_number p) words store make ≡ make p
unfolding by_protocol
by_number_lem StopAndWait words store make = refl
by_number_lem GoBackN words store make = refl
by_number_lem SelectiveRepeat words store make = refl

-- ---- the window that a protocol runs with
one_window : window_broken 1 ≡ false
unfolding window_broken any_of
one_window = refl

bounds_of : (p : ProtocolType) (window : ℕ) → window_broken window ≡ false → window_broken (slot_count p window) ≡ false
bounds_of StopAndWait window e = one_window
bounds_of GoBackN window e = e
bounds_of SelectiveRepeat window e = e

pub window_fits : (p : ProtocolType) (window : ℕ) → WindowFits p (slot_count p window)
window_fits StopAndWait window = refl
window_fits GoBackN window = tt
window_fits SelectiveRepeat window = tt

receiving_room : (p : ProtocolType) (window : ℕ) (store : List ℕ) → store_short store (receiver_slot_count p window) ≡ false → ReceivingRoom p (slot_count p window) store
receiving_room StopAndWait window store e = tt
receiving_room GoBackN window store e = tt
receiving_room SelectiveRepeat window store e = e

same_sender : (p : ProtocolType) (window limit : ℕ) (store : List ℕ) → new_sender p (slot_count p window) limit store ≡ new_sender p window limit store
unfolding new_sender
same_sender StopAndWait window limit store = refl
same_sender GoBackN window limit store = refl
same_sender SelectiveRepeat window limit store = refl

same_receiver : (p : ProtocolType) (window : ℕ) (store : List ℕ) → new_receiver p (slot_count p window) store ≡ new_receiver p window store
unfolding new_receiver
same_receiver StopAndWait window store = refl
same_receiver GoBackN window store = refl
same_receiver SelectiveRepeat window store = refl

fresh_retries : (p : ProtocolType) (w limit : ℕ) (sending receiving output : List ℕ) → limit ≤ 4294967295 → RetriesFit p (fresh_ends p w limit sending receiving output).sender
fresh_retries StopAndWait w limit sending receiving output h = (h, omega arith)
fresh_retries GoBackN w limit sending receiving output h = tt
fresh_retries SelectiveRepeat w limit sending receiving output h = tt

fresh_output : (p : ProtocolType) (w limit : ℕ) (sending receiving output : List ℕ) → output_of p (fresh_ends p w limit sending receiving output).receiver ≡ output
fresh_output StopAndWait w limit sending receiving output = refl
fresh_output GoBackN w limit sending receiving output = refl
fresh_output SelectiveRepeat w limit sending receiving output = refl

-- demand 3's fresh ends of the setup
abbrev pub start_of : (s : host.Setup) → World (ends s.protocol)
start_of s = fresh_ends s.protocol (window_of s) s.limit s.sender_store s.receiver_store s.output

module _ (s : host.Setup) (b : BothMade s) where
  abbrev p : ProtocolType
  p = s.protocol

  abbrev w : ℕ
  w = window_of s

  abbrev start : World (ends p)
  start = start_of s

  sender_makes : Makes w (sender_broken s.window s.limit) s.sender_words s.sender_store (sender_made p s.sender_words (new_sender p s.window s.limit s.sender_store))
  unfolding make_sender_of
  sender_makes = makes _ _ s.sender_words s.sender_store _ (subst (λ (x : CallExit). is_done x.answer ≡ true) (by_number_lem p s.sender_words s.sender_store _) b.sender)

  receiver_makes : Makes (receiver_slot_count p s.window) (window_broken s.window) s.receiver_words s.receiver_store (receiver_made p s.receiver_words (new_receiver p s.window s.receiver_store))
  unfolding make_receiver_of
  receiver_makes = makes _ _ s.receiver_words s.receiver_store _ (subst (λ (x : CallExit). is_done x.answer ≡ true) (by_number_lem p s.receiver_words s.receiver_store _) b.receiver)

  pub window_bounds : window_broken s.window ≡ false
  window_bounds = receiver_makes.bounds

  pub made : Made p w s.sender_store s.receiver_store
  made = record {
    in_bounds = bounds_of p s.window window_bounds;
    window = window_fits p s.window;
    sending_room = sender_makes.room;
    receiving_room = receiving_room p s.window s.receiver_store receiver_makes.room;
    octets = b.octets;
  }

  pub made_sender : HoldsSender p (made_ends s).sender start.sender
  unfolding make_sender_of
  made_sender =
      let words = with_kind s.sender_words (sender_word p) in
      let size = kind_length s.sender_words (sender_word p) in
      let enough = sender_makes.long in
      let limit = ltb-false 4294967295 s.limit (none_of _ sender_makes.bounds).1.0 in
      let is = by_number_lem p s.sender_words s.sender_store _ ∙ sender_makes.is in
      let new = new_sender_is p w s.limit s.sender_store s.receiver_store s.output ∙ same_sender p s.window s.limit s.sender_store in
      subst (λ (h : HostSender). HoldsSender p h start.sender) (ap (senders.put_back words) new ∙ sym (ap sender_after is))
      (senders.put_holds p words start.sender (omega (arith, size, enough)) (kind_made s.sender_words (sender_word p) enough) (fresh_sender_sound p w s.limit s.sender_store s.receiver_store s.output made)
      (fresh_retries p w s.limit s.sender_store s.receiver_store s.output limit))

  pub made_receiver : HoldsReceiver p w (made_ends s).receiver start.receiver
  unfolding make_receiver_of
  made_receiver =
      let words = with_kind s.receiver_words (receiver_word p) in
      let size = kind_length s.receiver_words (receiver_word p) in
      let enough = receiver_makes.long in
      let is = by_number_lem p s.receiver_words s.receiver_store _ ∙ receiver_makes.is in
      let new = new_receiver_is p w s.limit s.sender_store s.receiver_store s.output ∙ same_receiver p s.window s.receiver_store in
      let same : with_output_of p s.receiver_store start.receiver ≡ with_output (new_receiver p s.window s.receiver_store) s.output =
      ap (λ (r : ReceiverEnd). with_output r (output_of p start.receiver)) new
      ∙ ap (with_output (new_receiver p s.window s.receiver_store)) (fresh_output p w s.limit s.sender_store s.receiver_store s.output)
      in
      subst (λ (h : HostReceiver). HoldsReceiver p w h start.receiver)
      (ap (receivers.put_back words) same ∙ sym (ap (λ (x : CallExit). record { words = lent x 0; store = lent x 1; output = s.output }) is))
      (receivers.put_holds p w words s.receiver_store start.receiver (omega (arith, size, enough)) (kind_made s.receiver_words (receiver_word p) enough)
      (fresh_receiver_sound p w s.limit s.sender_store s.receiver_store s.output made))

-- both makings are done where document 01's checks are false
pub makings_done : (s : host.Setup) → window_broken s.window ≡ false → s.limit ≤ 4294967295 → store_short s.sender_store (window_of s) ≡ false
    → store_short s.receiver_store (receiver_slot_count s.protocol s.window) ≡ false → state_words ≤ length s.sender_words → state_words ≤ length s.receiver_words → Octets s.sender_store → BothMade s
unfolding make_sender_of make_receiver_of
makings_done s bounds limit room receiver_room words receiver-words octets =
    let p = s.protocol in
    let setup : sender_broken s.window s.limit ≡ false = any_of_none _ (bounds, (le-ltb 4294967295 s.limit limit, tt)) in
    record {
      sender = subst (λ (x : CallExit). is_done x.answer ≡ true) (sym (by_number_lem p s.sender_words s.sender_store _)) (made_done (window_of s) _ s.sender_words s.sender_store _ _ room setup words);
      receiver = subst (λ (x : CallExit). is_done x.answer ≡ true) (sym (by_number_lem p s.receiver_words s.receiver_store _)) (made_done (receiver_slot_count p s.window) _ s.receiver_words s.receiver_store _ _ receiver_room bounds receiver-words);
      octets = octets;
    }
