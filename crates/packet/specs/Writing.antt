-- Document 01, `packet.rs` and "Turned away" 5, 6: what is written into a lent buffer.
use Rattle.std.specs.Prelude.{ℕ, ◌+◌, List, [], ◌∷◌, ◌++◌, length, drop, ltb, Err, Ok, Result}
use Rattle.bounds.specs.Bounds.{header_size}
use Rattle.refusal.specs.declared.Refusal.TheVariants.{Full}
use Rattle.refusal.specs.Order.{check, verdict, decide}
use Rattle.packet.specs.Format.{datagram, checksum_of, with_checksum, check_long}
use Rattle.packet.specs.declared.Packet.{Packet}
use Rattle.refusal.specs.declared.Refusal.{Refusal}

unfoldable pub compute_checksum : Packet → List ℕ → Result ℕ Refusal
compute_checksum p payload =
    decide (verdict (check_long payload ∷ [])) Err (Ok (checksum_of p payload))

unfoldable pub compute_and_set_checksum : Packet → List ℕ → Result Packet Refusal
compute_and_set_checksum p payload =
    decide (verdict (check_long payload ∷ [])) Err (Ok (with_checksum p payload))

-- the answer, and the lent buffer when the call returns
pub record Written : Type 0 where
  pub answer : Result ℕ Refusal
  pub out : List ℕ

abbrev pub written : Result ℕ Refusal → List ℕ → Written
written a o = record { answer = a; out = o }

unfoldable pub to_bytes : Packet → List ℕ → List ℕ → Written
to_bytes p payload out =
    decide (verdict (check_long payload ∷ check (ltb (length out) (header_size + length payload)) Full ∷ []))
    (λ r. written (Err r) out)
    (written (Ok (header_size + length payload))
    (datagram p payload ++ drop (header_size + length payload) out))
