-- Document 01, "`delivered_data` becomes a lent output and its fill mark", "Turned away" 5, and arq/*.rs,
-- `handle_packet`.
use Rattle.std.specs.Prelude.{ℕ, ◌+◌, ◌-◌, ◌≤◌, List, [], ◌++◌, Bool, false, cond, ◌||◌, ◌&&◌, ◌≡◌, length, take, drop}
use Rattle.std.specs.Prelude.{ltb, None, Ok, Option, Result, Some, is_err}
use Rattle.bounds.specs.Bounds.{header_size}
use Rattle.packet.specs.Format.{new_packet, made}
use Rattle.packet.specs.declared.PacketType.TheVariants.{Ack}
use Rattle.receiver.specs.declared.Decision.{Decision}
use Rattle.refusal.specs.declared.Refusal.{Refusal}

abbrev pub answer_of : Option ℕ → Result (Option ℕ) Refusal
answer_of r = Ok r

abbrev pub is_refused : Result (Option ℕ) Refusal → Bool
is_refused a = is_err a

-- the buffer for the ACK after a reply
unfoldable pub ack_after : Option ℕ → List ℕ → List ℕ
ack_after (Some n) ack = made (new_packet n Ack) [] ++ drop header_size ack
ack_after None ack = ack

abbrev pub ack_missing : Option ℕ → List ℕ → Bool
ack_missing (Some n) ack = ltb (length ack) header_size
ack_missing None ack = false

-- 5: the output without space for what is delivered, or the buffer for the ACK too short
unfoldable pub room_missing : Decision → ℕ → ℕ → List ℕ → List ℕ → Bool
room_missing d size filled output ack = (d.deliver && ltb (length output - filled) size) || ack_missing d.reply ack

-- the fill mark, the output and the buffer for the ACK when the call returns
pub record ApplyExit : Type 0 where
  pub filled : ℕ
  pub output : List ℕ
  pub ack : List ℕ

abbrev pub apply_exit : ℕ → List ℕ → List ℕ → ApplyExit
apply_exit filled output ack = record { filled = filled; output = output; ack = ack }

unfoldable pub applied : Decision → List ℕ → ℕ → List ℕ → List ℕ → ApplyExit
applied d payload filled output ack =
    cond d.deliver
    (apply_exit (filled + length payload) (take filled output ++ payload ++ drop (filled + length payload) output)
    (ack_after d.reply ack))
    (apply_exit filled output (ack_after d.reply ack))

-- what carrying out asks for
abbrev pub RoomForReply : Option ℕ → List ℕ → Type 0
RoomForReply r ack = ack_missing r ack ≡ false

pub record RoomFor (d : Decision) (size filled : ℕ) (output ack : List ℕ) : Type 0 where
  pub mark : filled ≤ length output
  pub room : room_missing d size filled output ack ≡ false
