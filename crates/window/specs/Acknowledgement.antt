-- Document 01, "Turned away" 9, 8, 1, 2, 3, 6, and arq/*.rs, `handle_ack`: a datagram given to a sender as an ACK.
use Rattle.std.specs.Prelude.{ℕ, ◌+◌, List, ◌++◌, Bool, cond, ◌&&◌, ltb, leb, Err, Ok, Result, false, true}
use Rattle.refusal.specs.Order.{verdict, decide, held_checks}
use Rattle.packet.specs.Reading.{read_datagram, reading_checks}
use Rattle.packet.specs.declared.Packet.{Packet}
use Rattle.packet.specs.declared.PacketType.{PacketType}
use Rattle.packet.specs.declared.PacketType.TheVariants as packetType
use Rattle.packet.specs.declared.DatagramReading.{DatagramReading}
use Rattle.packet.specs.declared.DatagramReading.TheVariants as reading
use Rattle.window.specs.State.{state_broken, counts_broken}
use Rattle.window.specs.declared.SendWindow.{SendWindow}
use Rattle.window.specs.declared.AckDecision.{AckDecision}
use Rattle.window.specs.declared.AckDecision.TheVariants as decision
use Rattle.refusal.specs.declared.Refusal.{Refusal}

-- number n is outstanding
abbrev pub is_in_window : SendWindow → ℕ → Bool
is_in_window s n = leb s.send_base n && ltb n s.next_seq_num

-- the ACK of an outstanding number is accepted, and the base moves past it
abbrev pub by_type : SendWindow → PacketType → ℕ → Result AckDecision Refusal
by_type s packetType.Data n = Ok decision.NotAccepted
by_type s packetType.Ack n = cond (is_in_window s n) (Ok (decision.Accept n (n + 1))) (Ok decision.NotAccepted)
by_type s packetType.Fin n = Ok decision.NotAccepted

abbrev pub by_packet : SendWindow → Packet → Result AckDecision Refusal
by_packet s p = by_type s p.pkt_type p.seq_num

-- any other datagram that can be read is not accepted
abbrev pub by_reading : SendWindow → Result DatagramReading Refusal → Result AckDecision Refusal
by_reading s (Ok (reading.Valid p)) = by_packet s p
by_reading s (Ok (reading.Corrupted p)) = Ok decision.NotAccepted
by_reading s (Err r) = Err r

unfoldable pub ack_decision : Bool → SendWindow → List ℕ → List ℕ → Result AckDecision Refusal
ack_decision selective s store raw =
    decide
    (verdict (reading_checks (read_datagram raw) ++ held_checks (state_broken selective s store) (counts_broken s)))
    Err
    (by_reading s (read_datagram raw))

-- the answer, and the state when the call returns
pub record AckExit (S : Type 0) : Type 0 where
  pub answer : Result Bool Refusal
  pub after : S

abbrev pub ack_exit : {S : Type 0} → Result Bool Refusal → S → AckExit S
ack_exit a v = record { answer = a; after = v }

-- v the state, accept what an accepted number makes of it
unfoldable pub by_decision : {S : Type 0} → Result AckDecision Refusal → S → (ℕ → S) → AckExit S
by_decision (Ok (decision.Accept n base)) v accept = ack_exit (Ok true) (accept n)
by_decision (Ok decision.NotAccepted) v accept = ack_exit (Ok false) v
by_decision (Err r) v accept = ack_exit (Err r) v
