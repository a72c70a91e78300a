-- The fresh ends are what making leaves.
use Prim.Native.Nat.{ℕ}
use mathlib.Core.List.{List}
use Rattle.refusal.proofs.Laws.{none_true_accepted, on_accepted}
use Rattle.window.specs.Sending.{make_window}
use Rattle.stop_and_wait.specs.Sender.{new_sender}
use Rattle.selective_repeat.specs.Receiver.{make_receiver}
use Rattle.protocol.specs.declared.ProtocolType.{ProtocolType}
use Rattle.protocol.specs.declared.ProtocolType.TheVariants.{StopAndWait, GoBackN, SelectiveRepeat}
use Rattle.delivery.specs.Ends.{Made, FromMaking}

pub from_making : (p : ProtocolType) (w limit : ℕ) (sending receiving output : List ℕ) → Made p w sending receiving → FromMaking p w limit sending receiving output
unfolding make_window new_sender make_receiver
from_making StopAndWait w limit sending receiving output m = on_accepted _ _ (none_true_accepted _ (rw (← m.window) m.sending_room, tt))
from_making GoBackN w limit sending receiving output m = on_accepted _ _ (none_true_accepted _ (m.sending_room, (m.in_bounds, tt)))
from_making SelectiveRepeat w limit sending receiving output m =
    (on_accepted _ _ (none_true_accepted _ (m.sending_room, (m.in_bounds, tt))), on_accepted _ _ (none_true_accepted _ (m.receiving_room, (m.in_bounds, tt))))
