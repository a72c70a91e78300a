-- Document 01, "What the Rust forms turn into": number n has slot n mod window; and arq/gbn.rs, arq/sr.rs: what a
-- sender does to its state, its store and a lent buffer.
use Rattle.std.specs.Prelude.{ℕ, zero, suc, ◌+◌, ◌-◌, ◌*◌, ◌/◌, ◌%◌, List, ◌++◌, drop, replicate}
use Rattle.bounds.specs.Bounds.{slot_size}
use Rattle.packet.specs.Format.{new_packet, made}
use Rattle.packet.specs.declared.Packet.{Packet}
use Rattle.packet.specs.declared.PacketType.TheVariants.{Data}
use Rattle.store.specs.Slot.{slot_at, slot_flags, slot_payload, fill_slot, empty_slot, set_flags}
use Rattle.store.specs.Clean.{CleanSlots}
use Rattle.window.specs.declared.SendWindow.{SendWindow}

-- a window and its store
pub record Sender : Type 0 where
  pub window : SendWindow
  pub store : List ℕ

abbrev pub sender : SendWindow → List ℕ → Sender
sender s store = record { window = s; store = store }

-- the bytes of its slots past their lengths are zeros
abbrev pub Clean : Sender → Type 0
Clean v = CleanSlots v.store v.window.window_size

-- making: nothing sent, all slots empty
abbrev pub new_window : ℕ → SendWindow
new_window w = record { window_size = w; send_base = 0; next_seq_num = 0; total_sent = 0; retransmissions = 0 }

unfoldable pub fresh : ℕ → List ℕ → Sender
fresh w store = sender (new_window w) (replicate (w * slot_size) 0 ++ drop (w * slot_size) store)

-- the slot of number n
abbrev pub slot_for : SendWindow → ℕ → ℕ
slot_for s n = n % s.window_size

-- a new chunk: held in its slot, counted, and written as a datagram
unfoldable pub hold : Sender → List ℕ → Sender
hold v payload =
    sender
    (record {
      window_size = v.window.window_size;
      send_base = v.window.send_base;
      next_seq_num = v.window.next_seq_num + 1;
      total_sent = v.window.total_sent + 1;
      retransmissions = v.window.retransmissions;
    })
    (fill_slot v.store (slot_for v.window v.window.next_seq_num) payload 1 0)

abbrev pub first_datagram : Sender → List ℕ → List ℕ
first_datagram v payload = made (new_packet v.window.next_seq_num Data) payload

-- number n marked as sent again, and counted
unfoldable pub mark_retransmitted : Sender → ℕ → Sender
mark_retransmitted v n =
    sender
    (record {
      window_size = v.window.window_size;
      send_base = v.window.send_base;
      next_seq_num = v.window.next_seq_num;
      total_sent = v.window.total_sent + 1;
      retransmissions = v.window.retransmissions + 1;
    })
    (set_flags v.store (slot_for v.window n) (slot_flags (slot_at v.store (slot_for v.window n)) / 2 * 2 + 1))

-- the datagram of number n, as its slot has it
abbrev pub packet_for : Sender → ℕ → Packet
packet_for v n = record {
  seq_num = n;
  pkt_type = Data;
  flags = slot_flags (slot_at v.store (slot_for v.window n));
  checksum = 0;
}

unfoldable pub datagram_for : Sender → ℕ → List ℕ
datagram_for v n = made (packet_for v n) (slot_payload (slot_at v.store (slot_for v.window n)))

-- k slots from number n on emptied
unfoldable pub empty_from : List ℕ → ℕ → ℕ → ℕ → List ℕ
empty_from store w n zero = store
empty_from store w n (suc k) = empty_from (empty_slot store (n % w)) w (n + 1) k

-- the numbers below until acknowledged: their slots emptied, base moved
unfoldable pub release : Sender → ℕ → Sender
release v until =
    sender
    (record {
      window_size = v.window.window_size;
      send_base = until;
      next_seq_num = v.window.next_seq_num;
      total_sent = v.window.total_sent;
      retransmissions = v.window.retransmissions;
    })
    (empty_from v.store v.window.window_size v.window.send_base (until - v.window.send_base))
