-- Where no copy is due on the reverse line, nothing is handed over.
use Prim.Native.Nat.{ℕ}
use mathlib.Core.Path.{◌≡◌}
use mathlib.Core.Bool.{false}
use Rattle.path.specs.Direction.{Direction}
use Rattle.path.specs.Path.{packet_buffer, is_due}
use Rattle.path.proofs.NotDue.{not_due_idle}
use Rattle.clock.specs.declared.Timing.{Timing}
use Rattle.acks.specs.Acks.{AckState}
use Rattle.acks.specs.Reverse.{serve_exit, serve_reverse}
use Rattle.acks.proofs.Serving.{serve_reverse_idle}

pub serve_reverse_not_due : (timing : Timing) (now : ℕ) (d : Direction) (s : AckState) → is_due d.path d.records now ≡ false → serve_reverse timing now d s ≡ serve_exit d s false
serve_reverse_not_due timing now d s e = serve_reverse_idle timing now d s (not_due_idle d now packet_buffer e)
