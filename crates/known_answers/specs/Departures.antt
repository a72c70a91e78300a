-- What K4 warns of, and where the reference departs from RFC 1071 and from Kurose and Ross (docs/DIFFERENCES.md).
use Rattle.std.specs.Prelude.{ℕ, ◌≡◌, false, List, [], ◌∷◌, replicate, None, Ok, true}
use Rattle.bounds.specs.Bounds.{slot_size}
use Rattle.checksum.specs.Rfc1071.{words, ones_sum}
use Rattle.octets.specs.Flip.{flip}
use Rattle.packet.specs.Format.{new_packet, made}
use Rattle.packet.specs.Reading.{validity}
use Rattle.packet.specs.declared.PacketType.TheVariants.{Data}
use Rattle.go_back_n.specs.Receiver as go_back_n
use Rattle.stop_and_wait.specs.Receiver as stop_and_wait
use Rattle.stop_and_wait.specs.Sender as stop_and_wait_sender
use Rattle.known_answers.specs.ProofSheet.{k4, data_of, no_ack}

abbrev pub made_fFFD : List ℕ
made_fFFD = made (new_packet 0 Data) (0xFF ∷ 0xFD ∷ [])

-- Data 0xFEFF, empty, with the checksum field 0xFFFF
abbrev pub field_fFFF : List ℕ
field_fFFF = 0x00 ∷ 0x00 ∷ 0xFE ∷ 0xFF ∷ 0x01 ∷ 0x00 ∷ 0x00 ∷ 0x00 ∷ 0xFF ∷ 0xFF ∷ []

-- Data 0 with a bit of its payload flipped
abbrev pub flipped_zero : List ℕ
flipped_zero = flip (data_of 0) 10 3

-- a sender with a retry limit of 0
abbrev pub limit_zero : stop_and_wait_sender.End
limit_zero = stop_and_wait_sender.end_of (stop_and_wait_sender.state 0 false 0 0 0 0) (replicate slot_size 0)

pub record Departures : Type 0 where
  -- a flipped bit in byte 7 can pass: of K4, and of a made datagram
  pub k4_flip : flip (k4 2) 7 1 ≡ k4 0
  pub made_valid : validity made_fFFD ≡ Ok true
  pub made_byte_7 : flip made_fFFD 7 1 ≡ k4 0
  -- RFC 1071's receiver accepts the sum 0xFFFF, the reference only the computed checksum, here 0
  pub field_sum : ones_sum (words field_fFFF) ≡ 0xFFFF
  pub field_invalid : validity field_fFFF ≡ Ok false
  -- Kurose and Ross: a corrupted packet is answered; here it is not
  pub go_back_n_corrupt : (go_back_n.handle_packet go_back_n.new_receiver flipped_zero [] no_ack).answer ≡ Ok None
  pub stop_and_wait_corrupt : (stop_and_wait.handle_packet stop_and_wait.new_receiver flipped_zero [] no_ack).answer
      ≡ Ok None
  -- and a timeout after an empty chunk sends it again; here a retry limit of 0 sends nothing
  pub retry_limit : (stop_and_wait_sender.handle_timeout
      (stop_and_wait_sender.send_chunk limit_zero [] no_ack).after no_ack).answer ≡ Ok None
