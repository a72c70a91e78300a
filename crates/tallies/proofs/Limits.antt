-- Document 01's line 8, after any list of calls from a fresh end: it isn't true of a sender before it has written 2^60 datagrams, nor of a
-- receiver before 2^60 calls.
use Prim.Native.Nat.{ℕ, suc, ◌+◌, ◌≤◌, ◌<◌}
use mathlib.Core.Path.{◌≡◌, refl, sym, subst}
use mathlib.Core.Bool.{Bool, true, false, cond}
use mathlib.Core.List.{List, [], ◌∷◌}
use native.Mathlib.Omega.{arith}
use borrow.Author.Tests.{lt-leb}
use lib.ListN.{length}
use Rattle.bounds.specs.Bounds.{count_limit}
use Rattle.refusal.specs.Clauses.{any_of}
use Rattle.refusal.specs.Counts.{count_full}
use Rattle.window.specs.State as window
use Rattle.window.specs.Slots.{fresh}
use Rattle.receiver.specs.State as receiver
use Rattle.receiver.specs.Reading.{read_packet}
use Rattle.receiver.specs.declared.PacketReading.{PacketReading}
use Rattle.stop_and_wait.specs.Sender.{window_of}
use Rattle.stop_and_wait.specs.Receiver as stop_and_wait
use Rattle.stop_and_wait.specs.declared.StopAndWaitReceiver.{StopAndWaitReceiver}
use Rattle.go_back_n.specs.Receiver as go_back_n
use Rattle.go_back_n.specs.declared.GoBackNReceiver.{GoBackNReceiver}
use Rattle.selective_repeat.specs.Receiver as selective_repeat
use Rattle.selective_repeat.specs.declared.SelectiveRepeatReceiver.{SelectiveRepeatReceiver}
use Rattle.delivery.specs.Ends.{SingleTimeout, GoBackNTimeout, is_received}
use Rattle.delivery.specs.AnyBytes.{SenderCall}
use Rattle.tallies.specs.Readings.{count, is_corrupted, is_older, is_out_of_order, is_answered_again, is_buffered, is_duplicate}
use Rattle.tallies.specs.Senders as senders
use Rattle.tallies.specs.Senders.{Answered, sent, resent, acknowledged, sent_by, resent_by, total, SenderCounted, stop_and_wait_sender, go_back_nSender, selective_repeat_sender, new_stop_and_wait}
use Rattle.tallies.specs.Receivers.{Call, Handling, after_calls, readings_with, readings_after, readings, new_selective_repeat}
use Rattle.tallies.proofs.Senders.{from_zero, go_back_n_counted, selective_repeat_counted}
use Rattle.tallies.proofs.StopAndWait.{stop_and_wait_counted_lem}
use Rattle.tallies.proofs.InOrder.{stop_and_wait_receiver, go_back_n_receiver}
use Rattle.tallies.proofs.SelectiveRepeat.{selective_repeat_receiver}

-- ---- senders
pub resent_by_sent : (a : Answered) → resent_by a ≤ sent_by a
resent_by_sent (sent a out) = omega arith
resent_by_sent (resent a out) = omega arith
resent_by_sent (acknowledged a) = omega arith

resent_within : (xs : List Answered) → total resent_by xs ≤ total sent_by xs
unfolding total
resent_within [] = omega arith
resent_within (x ∷ xs) = let one = resent_by_sent x in let more = resent_within xs in omega arith

pub counts_sound : (a b : ℕ) → a < count_limit → b < count_limit → any_of (count_full a ∷ count_full b ∷ []) ≡ false
unfolding any_of
counts_sound a b h k = rw (lt-leb count_limit a h, lt-leb count_limit b k)

sender_sound : (P : senders.SenderCalls) (xs : List Answered) (s : P.Sender) → SenderCounted P xs s → total sent_by xs < count_limit
    → any_of (count_full (P.total_sent s) ∷ count_full (P.retransmissions s) ∷ []) ≡ false
sender_sound P xs s c h =
    let few = resent_within xs in
    let a = c.sent_is in
    let b = c.resent_is in
    counts_sound (P.total_sent s) (P.retransmissions s) (omega arith) (omega arith)

module _ (store : List ℕ) where
  pub stop_and_wait_sender_no_8 : (retries : ℕ) (cs : List (SenderCall SingleTimeout))
      → total sent_by (senders.answers stop_and_wait_sender (new_stop_and_wait retries store) cs) < count_limit
      → window.counts_broken (window_of (senders.after_calls stop_and_wait_sender (new_stop_and_wait retries store) cs).sender) ≡ false
  unfolding window.counts_broken
  stop_and_wait_sender_no_8 retries cs h =
      let v = new_stop_and_wait retries store in
      sender_sound stop_and_wait_sender _ _ (from_zero stop_and_wait_sender stop_and_wait_counted_lem v refl refl cs) h

  pub go_back_n_sender_no_8 : (w : ℕ) (cs : List (SenderCall GoBackNTimeout)) → total sent_by (senders.answers go_back_nSender (fresh w store) cs) < count_limit
      → window.counts_broken (senders.after_calls go_back_nSender (fresh w store) cs).window ≡ false
  unfolding window.counts_broken fresh
  go_back_n_sender_no_8 w cs h = sender_sound go_back_nSender _ _ (from_zero go_back_nSender go_back_n_counted (fresh w store) refl refl cs) h

  pub selective_repeat_sender_no_8 : (w : ℕ) (cs : List (SenderCall ℕ)) → total sent_by (senders.answers selective_repeat_sender (fresh w store) cs) < count_limit
      → window.counts_broken (senders.after_calls selective_repeat_sender (fresh w store) cs).window ≡ false
  unfolding window.counts_broken fresh
  selective_repeat_sender_no_8 w cs h = sender_sound selective_repeat_sender _ _ (from_zero selective_repeat_sender selective_repeat_counted (fresh w store) refl refl cs) h

-- ---- receivers
pub one_more : (b : Bool) (m n : ℕ) → m ≤ n → cond b (suc m) m ≤ suc n
one_more true m n h = omega arith
one_more false m n h = omega arith

count_within : (test : List PacketReading → PacketReading → Bool) (hs : List PacketReading) → count test hs ≤ length hs
unfolding count
count_within test [] = omega arith
count_within test (h ∷ hs) = one_more (test hs h) (count test hs) (length hs) (count_within test hs)

pub length_cond : (b : Bool) (h : PacketReading) (hs : List PacketReading) → length (cond b (h ∷ hs) hs) ≡ cond b (suc (length hs)) (length hs)
length_cond true h hs = refl
length_cond false h hs = refl

readings_within : {R : Type 0} (handle : Handling R) (r : R) (hs : List PacketReading) (cs : List Call) → length (readings_after handle r hs cs) ≤ length hs + length cs
unfolding readings_after
readings_within handle r hs [] = omega arith
readings_within handle r hs (c ∷ cs) =
    let x = handle r c.raw c.output c.ack in
    let one = one_more (is_received x.answer) (length hs) (length hs) (omega arith) in
    let more = readings_within handle x.receiver (readings_with x c.raw hs) cs in
    let size = length_cond (is_received x.answer) (read_packet c.raw) hs in
    omega (arith, one, more, size)

pub receiver_sound : (hs : List PacketReading) (f g : List PacketReading → PacketReading → Bool) → length hs < count_limit → receiver.counts_broken (length hs) (count f hs) (count g hs) ≡ false
unfolding receiver.counts_broken any_of
receiver_sound hs f g h =
    let a = count_within f hs in
    let b = count_within g hs in
    rw (lt-leb count_limit (length hs) h, lt-leb count_limit (count f hs) (omega arith), lt-leb count_limit (count g hs) (omega arith))

abbrev few : {R : Type 0} (handle : Handling R) (r : R) (cs : List Call) → length cs < count_limit → length (readings handle r cs) < count_limit
few handle r cs h = let within = readings_within handle r [] cs in omega arith

module _ (cs : List Call) (h : length cs < count_limit) where
  pub stop_and_wait_receiver_no_8 : let r = after_calls stop_and_wait.handle_packet stop_and_wait.new_receiver cs in
      receiver.counts_broken r.total_received r.duplicates_count r.corrupted_count ≡ false
  stop_and_wait_receiver_no_8 =
      let hs = readings stop_and_wait.handle_packet stop_and_wait.new_receiver cs in
      subst (λ (r : StopAndWaitReceiver). receiver.counts_broken r.total_received r.duplicates_count r.corrupted_count ≡ false) (sym (stop_and_wait_receiver cs))
      (receiver_sound hs is_older (λ earlier. is_corrupted) (few stop_and_wait.handle_packet stop_and_wait.new_receiver cs h))

  pub go_back_n_receiver_no_8 : let r = after_calls go_back_n.handle_packet go_back_n.new_receiver cs in
      receiver.counts_broken r.total_received r.discarded_out_of_order r.duplicate_acks_sent ≡ false
  go_back_n_receiver_no_8 =
      let hs = readings go_back_n.handle_packet go_back_n.new_receiver cs in
      subst (λ (r : GoBackNReceiver). receiver.counts_broken r.total_received r.discarded_out_of_order r.duplicate_acks_sent ≡ false) (sym (go_back_n_receiver cs))
      (receiver_sound hs is_out_of_order is_answered_again (few go_back_n.handle_packet go_back_n.new_receiver cs h))

  pub selective_repeat_receiver_no_8 : (w : ℕ) (store : List ℕ) → selective_repeat.counters_broken (after_calls selective_repeat.handle_packet (new_selective_repeat w store) cs).state ≡ false
  selective_repeat_receiver_no_8 w store =
      let v = new_selective_repeat w store in
      let hs = readings selective_repeat.handle_packet v cs in
      subst (λ (r : SelectiveRepeatReceiver). selective_repeat.counters_broken r ≡ false) (sym (selective_repeat_receiver w store cs))
      (receiver_sound hs (is_buffered w) (is_duplicate w) (few selective_repeat.handle_packet v cs h))
