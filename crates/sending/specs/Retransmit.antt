-- app/transfer.rs, `retransmit`: packets that were sent before, again.
use Rattle.std.specs.Prelude.{ℕ, ◌+◌, ◌*◌, ◌≤◌, ◌<◌, ◌≡◌, Bool, true, false, cond, List, [], ◌∷◌, leb, Float, length}
use Rattle.std.specs.Prelude.{Option, None}
use Rattle.bounds.specs.Bounds.{count_limit, max_duration}
use Rattle.rows.specs.Rows.{as_number}
use Rattle.delivery.specs.Calls.{number_of}
use Rattle.path.specs.Rolls.{packet_rolls}
use Rattle.path.specs.Path.{is_going}
use Rattle.path.specs.declared.Stop.{Stop}
use Rattle.path.specs.declared.Stop.TheVariants as stop
use Rattle.notes.specs.Notes.{is_premature}
use Rattle.clock.specs.Clock.{Submission}
use Rattle.clock.specs.declared.Timing.{Timing}
use Rattle.clock.specs.declared.Timing.TheVariants.{PerNumber}
use Rattle.session.specs.Sending.{SenderEnd, window_of}
use Rattle.session.specs.GoodSender.{sender_broken, Within}
use Rattle.submission.specs.Submission.{Outgoing, submit, GoodOutgoing}
use Rattle.sending.specs.Good.{TimersWithin}
use Rattle.sending.specs.declared.Resends.{Resends}

abbrev pub counted_again : Resends → Bool → Resends
counted_again r premature = record {
  retx_submitted = r.retx_submitted + 1;
  premature = r.premature + as_number premature;
  exhausted = r.exhausted;
}

-- what a call leaves, and whether the run goes on
pub record RetransmitExit : Type 0 where
  pub resends : Resends
  pub outgoing : Outgoing
  pub stop : Option Stop

abbrev pub retransmit_exit : Resends → Outgoing → Option Stop → RetransmitExit
retransmit_exit r o st = record { resends = r; outgoing = o; stop = st }

-- the packet of a number; both counts stand also where it ends the run
unfoldable pub retransmit : Timing → List Float → ℕ → ℕ → Option ℕ → ℕ → List ℕ → Resends → Outgoing → RetransmitExit
retransmit t rolls rto now oldest seq packet r o =
    let given : Submission = record { time = now; seq = seq; rto = rto; retransmission = true; oldest = oldest } in
    let y = submit t rolls given packet o in
    retransmit_exit (counted_again r (is_premature o.metas seq)) y.outgoing y.stop

-- an outstanding number, with a row for its note and an entry for its timer
pub record CanRetransmit (t : Timing) (rolls : List Float) (rto now : ℕ) (v : SenderEnd) (seq : ℕ) (r : Resends)
    (o : Outgoing) : Type 0 where
  pub good : GoodOutgoing o rolls now
  pub sender : sender_broken v ≡ false
  pub within : Within (window_of v.sender) seq 1
  pub few : r.retx_submitted < count_limit
  pub premature : r.premature ≤ r.retx_submitted
  pub row : seq < length o.metas.rows
  pub timeout : rto ≤ max_duration
  pub timers : TimersWithin (window_of v.sender) o.clock
  pub entries : t ≡ PerNumber → (window_of v.sender).window_size ≤ length o.clock.keys

-- ---- several: each until the ceiling on what is sent again is met, or a packet ends the run
abbrev pub ceiling_met : ℕ → Resends → Bool
ceiling_met limit r = leb limit r.retx_submitted

abbrev pub exhausted : Resends → Resends
exhausted r = record { retx_submitted = r.retx_submitted; premature = r.premature; exhausted = true }

unfoldable pub retransmit_all : ℕ → Timing → List Float → ℕ → ℕ → Option ℕ → List (List ℕ) → Resends → Outgoing
    → RetransmitExit
retransmit_all limit t rolls rto now oldest [] r o = retransmit_exit r o (None)
retransmit_all limit t rolls rto now oldest (packet ∷ packets) r o =
    let x = retransmit t rolls rto now oldest (number_of packet) packet r o in
    cond (ceiling_met limit r) (retransmit_exit (exhausted r) o (None))
    (cond (is_going x.stop) (retransmit_all limit t rolls rto now oldest packets x.resends x.outgoing) x)

-- `count` outstanding numbers from `first` on; each packet that was sent again has used its rolls
pub record CanRetransmitAll (t : Timing) (rolls : List Float) (rto now : ℕ) (v : SenderEnd) (first count : ℕ)
    (r : Resends) (o : Outgoing) : Type 0 where
  pub good : GoodOutgoing o rolls now
  pub sender : sender_broken v ≡ false
  pub within : Within (window_of v.sender) first count
  pub submitted : r.retx_submitted * packet_rolls ≤ o.forward.path.used
  pub premature : r.premature ≤ r.retx_submitted
  pub rows : (window_of v.sender).next_seq_num ≤ length o.metas.rows
  pub timeout : rto ≤ max_duration
  pub timers : TimersWithin (window_of v.sender) o.clock
  pub entries : t ≡ PerNumber → (window_of v.sender).window_size ≤ length o.clock.keys
