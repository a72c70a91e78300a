-- The payload of a packet and the held payloads after it, delivered one after another.
use Prim.Native.Nat.{ℕ, ◌+◌, ◌≤◌}
use mathlib.Core.Path.{◌≡◌, ap, ◌∙◌}
use mathlib.Core.Bool.{false}
use mathlib.Core.List.{List, [], ◌++◌}
use native.Mathlib.Omega.{arith}
use lib.ListN.{length, length-append}
use Rattle.store.specs.Numbers.{payloads_from, written_at}
use Rattle.store.proofs.Laws.{payloads_none}
use Rattle.receiver.specs.Reply.{ApplyExit, apply_exit, applied, RoomFor}
use Rattle.receiver.specs.declared.Decision.{Decision}
use Rattle.receiver.proofs.Laws.{room_less, carried_room, carried_on}
use Rattle.selective_repeat.specs.Receiver.{Receiver, released, delivered_bytes}
use Rattle.selective_repeat.specs.declared.SlotChange.{SlotChange}

abbrev held_bytes : Receiver → ℕ → List ℕ
held_bytes v k = payloads_from v.store v.state.window_size (v.state.recv_base + 1) k

module _ (v : Receiver) (d : Decision) (change : SlotChange) (payload output ack : List ℕ)
    (room : RoomFor d (length (delivered_bytes v payload change)) v.state.filled output ack) (none : d.deliver ≡ false → released change ≡ 0) where
  pub payload_room : RoomFor d (length payload) v.state.filled output ack
  unfolding delivered_bytes
  payload_room = room_less d (length (payload ++ held_bytes v (released change))) (length payload) v.state.filled output ack room (simp length-append (omega arith))

  none_held : d.deliver ≡ false → held_bytes v (released change) ≡ []
  none_held e = ap (held_bytes v) (none e) ∙ payloads_none v.store v.state.window_size (v.state.recv_base + 1)

  -- after the payload there is room for the held ones
  pub held_room : (k filled : ℕ) (written acked : List ℕ) → k ≡ released change → apply_exit filled written acked ≡ applied d payload v.state.filled output ack
      → filled + length (held_bytes v k) ≤ length written
  unfolding delivered_bytes
  held_room k filled written acked e done =
      let all = carried_room d payload (held_bytes v (released change)) v.state.filled output ack room none_held in
      let a = ap (λ (w : ApplyExit). w.filled) done in
      let b = ap (λ (w : ApplyExit). length w.output) done in
      rw e (omega arith)

  pub held_carried : (k filled : ℕ) (written acked last : List ℕ) (end : ℕ) → k ≡ released change → apply_exit filled written acked ≡ applied d payload v.state.filled output ack
      → end ≡ filled + length (held_bytes v k) → last ≡ written_at written filled (held_bytes v k)
      → apply_exit end last acked ≡ applied d (delivered_bytes v payload change) v.state.filled output ack
  unfolding delivered_bytes
  held_carried k filled written acked last end e done at_end over =
      rw (at_end, over, e)
      (ap (λ (w : ApplyExit). apply_exit (w.filled + length (held_bytes v (released change))) (written_at w.output w.filled (held_bytes v (released change))) w.ack) done
      ∙ carried_on d payload (held_bytes v (released change)) v.state.filled output ack room none_held)
