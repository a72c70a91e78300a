-- The reference's `SegMeta` (`app/transfer.rs`), what the driver notes of a segment, and how it lies in a row.
use Rattle.std.specs.Prelude.{ℕ, Bool, false, true, not, ◌&&◌, List, [], ◌∷◌, get_or}
use Rattle.rows.specs.Rows.{as_number, is_set}

pub record SegMeta : Type 0 where
  pub original_send_at : ℕ
  pub last_send_at : ℕ
  pub rto_at_send : ℕ
  -- the bools, as they lie in the row
  pub ever_retransmitted : ℕ
  pub original_dropped : ℕ
  pub ack_scheduled : ℕ
  pub rtt_sampled : ℕ

abbrev pub note_row : SegMeta → List ℕ
note_row x =
    x.original_send_at
    ∷ x.last_send_at
    ∷ x.rto_at_send
    ∷ x.ever_retransmitted
    ∷ x.original_dropped
    ∷ x.ack_scheduled
    ∷ x.rtt_sampled
    ∷ []

abbrev pub seg_meta : List ℕ → SegMeta
seg_meta row =
    record {
      original_send_at = get_or row 0 0;
      last_send_at = get_or row 1 0;
      rto_at_send = get_or row 2 0;
      ever_retransmitted = get_or row 3 0;
      original_dropped = get_or row 4 0;
      ack_scheduled = get_or row 5 0;
      rtt_sampled = get_or row 6 0;
    }

-- of a segment sent for the first time; its packet, just made, isn't marked as sent again
abbrev pub first_sent : ℕ → ℕ → SegMeta
first_sent now rto =
    record {
      original_send_at = now;
      last_send_at = now;
      rto_at_send = rto;
      ever_retransmitted = as_number false;
      original_dropped = as_number false;
      ack_scheduled = as_number false;
      rtt_sampled = as_number false;
    }

-- of one sent again
abbrev pub with_sending : ℕ → ℕ → SegMeta → SegMeta
with_sending now rto x =
    record {
      original_send_at = x.original_send_at;
      last_send_at = now;
      rto_at_send = rto;
      ever_retransmitted = as_number true;
      original_dropped = x.original_dropped;
      ack_scheduled = x.ack_scheduled;
      rtt_sampled = x.rtt_sampled;
    }

abbrev pub with_dropped : Bool → SegMeta → SegMeta
with_dropped dropped x =
    record {
      original_send_at = x.original_send_at;
      last_send_at = x.last_send_at;
      rto_at_send = x.rto_at_send;
      ever_retransmitted = x.ever_retransmitted;
      original_dropped = as_number dropped;
      ack_scheduled = x.ack_scheduled;
      rtt_sampled = x.rtt_sampled;
    }

abbrev pub with_ack_scheduled : SegMeta → SegMeta
with_ack_scheduled x =
    record {
      original_send_at = x.original_send_at;
      last_send_at = x.last_send_at;
      rto_at_send = x.rto_at_send;
      ever_retransmitted = x.ever_retransmitted;
      original_dropped = x.original_dropped;
      ack_scheduled = as_number true;
      rtt_sampled = x.rtt_sampled;
    }

abbrev pub with_rtt_sampled : SegMeta → SegMeta
with_rtt_sampled x =
    record {
      original_send_at = x.original_send_at;
      last_send_at = x.last_send_at;
      rto_at_send = x.rto_at_send;
      ever_retransmitted = x.ever_retransmitted;
      original_dropped = x.original_dropped;
      ack_scheduled = x.ack_scheduled;
      rtt_sampled = as_number true;
    }

-- `is_premature`: an ACK of the segment is under way, and its first datagram was not dropped
abbrev pub premature : SegMeta → Bool
premature x = not (is_set x.original_dropped) && is_set x.ack_scheduled
