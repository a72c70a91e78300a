-- Tallies from the history of calls: after any list of calls from a fresh end every counter is what the list says.
use Prim.Native.Nat.{ℕ}
use mathlib.Core.Path.{◌≡◌, refl}
use mathlib.Core.List.{List}
use Rattle.window.specs.Slots.{fresh}
use Rattle.delivery.specs.Ends.{SingleTimeout, GoBackNTimeout}
use Rattle.delivery.specs.AnyBytes.{SenderCall}
use Rattle.tallies.specs.Senders.{after_calls, answers, SenderCounted, retries, stop_and_wait_sender, go_back_nSender, selective_repeat_sender, new_stop_and_wait}
use Rattle.tallies.proofs.Senders.{from_zero, go_back_n_counted, selective_repeat_counted}
use Rattle.tallies.proofs.StopAndWait.{stop_and_wait_counted_lem, current_retries}
pub use Rattle.tallies.proofs.Senders.{all_framed, how_many, Counted, EachCallCounted, total_sent, total_resent, from_zero, go_back_n_counted, selective_repeat_counted}
pub use Rattle.tallies.proofs.StopAndWait.{stop_and_wait_counted_lem, current_retries}
pub use Rattle.tallies.proofs.Receivers.{EachReadingCounted, every_list}
pub use Rattle.tallies.proofs.InOrder.{stop_and_wait_receiver, go_back_n_receiver}
pub use Rattle.tallies.proofs.SelectiveRepeat.{selective_repeat_receiver}
pub use Rattle.tallies.proofs.NoneRefused.{none_refused}
pub use Rattle.tallies.proofs.HandOvers.{Completed, hand_overs}
pub use Rattle.tallies.proofs.SomeResending.{some_resending}
pub use Rattle.tallies.proofs.Limits.{stop_and_wait_sender_no_8, go_back_n_sender_no_8, selective_repeat_sender_no_8, stop_and_wait_receiver_no_8, go_back_n_receiver_no_8, selective_repeat_receiver_no_8}

-- the senders, with any window or retry limit, over any store
pub stop_and_wait_sender_lem : (limit : ℕ) (store : List ℕ) (cs : List (SenderCall SingleTimeout))
    → SenderCounted stop_and_wait_sender (answers stop_and_wait_sender (new_stop_and_wait limit store) cs) (after_calls stop_and_wait_sender (new_stop_and_wait limit store) cs)
stop_and_wait_sender_lem limit store cs = from_zero stop_and_wait_sender stop_and_wait_counted_lem (new_stop_and_wait limit store) refl refl cs

pub stop_and_wait_retries : (limit : ℕ) (store : List ℕ) (cs : List (SenderCall SingleTimeout))
    → (after_calls stop_and_wait_sender (new_stop_and_wait limit store) cs).sender.current_retries ≡ retries (answers stop_and_wait_sender (new_stop_and_wait limit store) cs)
stop_and_wait_retries limit store cs = current_retries (new_stop_and_wait limit store) 0 refl cs

pub go_back_n_sender : (w : ℕ) (store : List ℕ) (cs : List (SenderCall GoBackNTimeout)) → SenderCounted go_back_nSender (answers go_back_nSender (fresh w store) cs) (after_calls go_back_nSender (fresh w store) cs)
unfolding fresh
go_back_n_sender w store cs = from_zero go_back_nSender go_back_n_counted (fresh w store) refl refl cs

pub selective_repeat_sender_lem : (w : ℕ) (store : List ℕ) (cs : List (SenderCall ℕ))
    → SenderCounted selective_repeat_sender (answers selective_repeat_sender (fresh w store) cs) (after_calls selective_repeat_sender (fresh w store) cs)
unfolding fresh
selective_repeat_sender_lem w store cs = from_zero selective_repeat_sender selective_repeat_counted (fresh w store) refl refl cs
