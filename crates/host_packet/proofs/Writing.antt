-- What writing answers, from the equations of the calls below it.
use Rattle.std.specs.Prelude.{Ok, Result}
use Prim.Native.Nat.{ℕ, ◌≤◌}
use mathlib.Core.Path.{◌≡◌, ap, ◌∙◌}
use mathlib.Core.List.{List}
use borrow.Author.Tests.{le-ltb}
use lib.ListN.{length}
use Rattle.bounds.specs.Bounds.{max_payload}
use Rattle.refusal.specs.Clauses.{any_of}
use Rattle.refusal.specs.Order.{order, or_else, numbered, first_of, verdict, decide}
use Rattle.packet.specs.Format.{with_checksum}
use Rattle.packet.specs.Writing as writing
use Rattle.packet.specs.Writing.{to_bytes}
use Rattle.packet.specs.declared.Packet.{Packet}
use Rattle.packet.specs.declared.PacketType.{PacketType}
use Rattle.host_answer.specs.Answer.{count_answer}
use Rattle.host_packet.specs.Packet.{write_exit, max_byte, written, packet_of, write_of}
use Rattle.refusal.specs.declared.Refusal.{Refusal}

-- number and flags that the header holds
writable : (t : PacketType) (n flags : ℕ) (payload out : List ℕ) → length payload ≤ max_payload → n ≤ 4294967295 → flags ≤ max_byte
    → to_bytes (with_checksum (packet_of n t flags) payload) payload out ≡ write_of (Ok t) n flags payload out
unfolding write_of any_of verdict first_of numbered or_else order decide
writable t n flags payload out h k l = rw (le-ltb max_payload (length payload) h, le-ltb 4294967295 n k, le-ltb max_byte flags l)

pub on_written : (t : PacketType) (n flags : ℕ) (payload out : List ℕ) {x : ℕ} {a : Result ℕ Refusal} {o : List ℕ} {q : Packet} → length payload ≤ max_payload → n ≤ 4294967295
    → flags ≤ max_byte → x ≡ count_answer a → writing.written a o ≡ to_bytes q payload out → q ≡ with_checksum (packet_of n t flags) payload
    → write_exit x o ≡ written (write_of (Ok t) n flags payload out)
on_written t n flags payload out {x} {a} {o} h k l e f g =
    ap (λ (y : ℕ). write_exit y o) e ∙ ap written f ∙ ap (λ (z : Packet). written (to_bytes z payload out)) g
    ∙ ap written (writable t n flags payload out h k l)
