-- Where no copy is due on the forward line, nothing is handed over.
use Rattle.std.specs.Prelude.{None}
use Prim.Native.Nat.{ℕ}
use mathlib.Core.Path.{◌≡◌}
use mathlib.Core.Bool.{false}
use mathlib.Core.List.{List}
use lib.Ieee.{Float}
use Rattle.path.specs.Direction.{Direction}
use Rattle.path.specs.Path.{packet_buffer, is_due}
use Rattle.path.proofs.NotDue.{not_due_idle}
use Rattle.receiving.specs.Receiving.{Inbound, serve_forward_exit, serve_forward}
use Rattle.receiving.proofs.Serving.{serve_idle}

pub serve_not_due : (rolls : List Float) (total now : ℕ) (forward : Direction) (b : Inbound) → is_due forward.path forward.records now ≡ false → serve_forward rolls total now forward b ≡ serve_forward_exit forward b false (None)
serve_not_due rolls total now forward b e = serve_idle rolls total now forward b (not_due_idle forward now packet_buffer e)
