-- Several packets again: what each call asks, what is kept, and the loop.
use Rattle.std.specs.Prelude.{Option, None}
use Prim.Native.Nat.{ℕ, zero, suc, ◌+◌, ◌-◌, ◌*◌, ◌^◌, ◌≤◌, ◌<◌}
use native.Mathlib.Omega.{arith}
use native.Mathlib.Nat.{le_trans}
use mathlib.Core.Path.{◌≡◌, refl, sym, ap, ◌∙◌, subst}
use mathlib.Core.Bool.{Bool, true, false, cond, not, true≢false}
use mathlib.Core.List.{List, [], ◌∷◌, map, Memᴰ}
use lib.Ieee.{Float}
use lib.ListN.{length}
use Rattle.bounds.specs.Bounds.{max_datagram, count_limit}
use Rattle.protocol.specs.Runs.{up_from}
use Rattle.window.specs.Slots.{datagram_for}
use Rattle.window.proofs.Laws.{sound}
use Rattle.delivery.specs.Calls.{number_of}
use Rattle.path.specs.Rolls.{packet_rolls}
use Rattle.path.specs.Path.{is_going}
use Rattle.path.proofs.Laws.{going_is}
use Rattle.multi_timer.proofs.Laws.{Within}
use Rattle.notes.specs.Notes.{is_premature}
use Rattle.rows.specs.Rows.{as_number}
use Rattle.clock.specs.Clock.{Submission}
use Rattle.clock.specs.declared.Timing.{Timing}
use Rattle.clock.proofs.Laws.{running}
use Rattle.session.specs.Sending.{SenderEnd, window_of, window_end, oldest_outstanding}
use Rattle.session.specs.GoodSender as session
use Rattle.session.specs.GoodSender.{is_selective}
use Rattle.session.proofs.Laws.{datagram_number, datagram_short}
use Rattle.submission.specs.Submission.{Outgoing, GoodOutgoing}
use Rattle.submission.proofs.Laws.{SubmitKeeps, submit_within, submit_written, submit_used, going_used}
use Rattle.sending.specs.Good.{TimersWithin}
use Rattle.sending.specs.Retransmit.{counted_again, RetransmitExit, retransmit_exit, retransmit, CanRetransmit, ceiling_met, exhausted, retransmit_all, CanRetransmitAll}
use Rattle.sending.specs.declared.Resends.{Resends}
use Rattle.sending.proofs.Pumps.{stops, goes}
use Rattle.sending.proofs.Retransmits.{can_resubmit, retransmit_good, retransmit_keeps, retransmit_notes}

-- the packets of so many outstanding numbers
abbrev pub packets_from : SenderEnd → ℕ → ℕ → List (List ℕ)
packets_from v first count = map (datagram_for (window_end v)) (up_from first count)

-- ---- one packet
module _ (t : Timing) (rolls : List Float) (rto now : ℕ) (oldest : Option ℕ) (seq : ℕ) (packet : List ℕ) (r : Resends) (o : Outgoing) where
  abbrev again : Submission
  again = record { time = now; seq = seq; rto = rto; retransmission = true; oldest = oldest }

  abbrev pub sent_once : RetransmitExit
  sent_once = retransmit t rolls rto now oldest seq packet r o

  pub retransmit_counts : sent_once.resends ≡ counted_again r (is_premature o.metas seq)
  unfolding retransmit
  retransmit_counts = refl

  pub retransmit_written : (o.written ≤ sent_once.outgoing.written) × (sent_once.outgoing.written ≤ o.written + 1)
  unfolding retransmit
  retransmit_written = submit_written t rolls again packet o

  pub retransmit_used : o.forward.path.used ≤ sent_once.outgoing.forward.path.used
  unfolding retransmit
  retransmit_used = (submit_used t rolls again packet o).0

  pub retransmit_going_used : is_going sent_once.stop ≡ true → sent_once.outgoing.forward.path.used ≡ o.forward.path.used + packet_rolls
  unfolding retransmit
  retransmit_going_used g = going_used t rolls again packet o (going_is _ g)

module _ {t : Timing} {rolls : List Float} {rto now : ℕ} {v : SenderEnd} {seq : ℕ} {r : Resends} {o : Outgoing} (can : CanRetransmit t rolls rto now v seq r o) (oldest : Option ℕ) (packet : List ℕ) (short : length packet ≤ max_datagram) where
  pub retransmit_timers : TimersWithin (window_of v.sender) (retransmit t rolls rto now oldest seq packet r o).outgoing.clock
  unfolding retransmit
  retransmit_timers =
      (submit_within rolls (again t rolls rto now oldest seq packet r o) packet o t (can_resubmit can oldest packet short) can.within.from (let b = can.within.below in omega (arith, b)) window).bounds
    where
      window : Within (window_of v.sender).send_base (window_of v.sender).next_seq_num (running o.clock)
      window = record { bounds = can.timers }

-- ---- numbers
below_limit : (n used size : ℕ) → n * packet_rolls ≤ used → used ≤ size → size * 8 < 2 ^ 63 → n < count_limit
below_limit n used size h k l = omega arith

-- a counter each of whose packets used its rolls is below its limit
pub counted_below : {o : Outgoing} {rolls : List Float} {now : ℕ} → GoodOutgoing o rolls now → (n : ℕ) → n * packet_rolls ≤ o.forward.path.used → n < count_limit
counted_below {o} {rolls} g n h = below_limit n o.forward.path.used (length rolls) h g.forward.used g.forward.doubles.size

one_more : (n used after : ℕ) → n * packet_rolls ≤ used → after ≡ used + packet_rolls → (n + 1) * packet_rolls ≤ after
one_more n used after h e = omega arith

few_more : (p n : ℕ) (b : Bool) → p ≤ n → p + as_number b ≤ n + 1
few_more p n true h = omega arith
few_more p n false h = omega arith

-- ---- the first of several
module _ {t : Timing} {rolls : List Float} {rto now : ℕ} {v : SenderEnd} {first count : ℕ} {r : Resends} {o : Outgoing} (can : CanRetransmitAll t rolls rto now v first (suc count) r o) where
  within_first : session.Within (window_of v.sender) first 1
  within_first = let f = can.within.from in let b = can.within.below in record { from = f; below = omega (arith, b) }

  pub can_retransmit_first : CanRetransmit t rolls rto now v first r o
  can_retransmit_first =
      record {
        good = can.good;
        sender = can.sender;
        within = within_first;
        few = counted_below can.good r.retx_submitted can.submitted;
        premature = can.premature;
        row = let b = can.within.below in let n = can.rows in omega (arith, b, n);
        timeout = can.timeout;
        timers = can.timers;
        entries = can.entries;
      }

  pub first_short : length (datagram_for (window_end v) first) ≤ max_datagram
  first_short = datagram_short v first can.sender within_first

  module _ (oldest : Option ℕ) where
    abbrev x : RetransmitExit
    x = retransmit t rolls rto now oldest first (datagram_for (window_end v) first) r o

    pub first_premature : x.resends.premature ≤ x.resends.retx_submitted
    first_premature = rw (retransmit_counts t rolls rto now oldest first (datagram_for (window_end v) first) r o) (few_more r.premature r.retx_submitted (is_premature o.metas first) can.premature)

    pub can_retransmit_rest : is_going x.stop ≡ true → CanRetransmitAll t rolls rto now v (suc first) count x.resends x.outgoing
    can_retransmit_rest g =
        let one = can_retransmit_first in
        let k = retransmit_keeps one oldest (datagram_for (window_end v) first) first_short in
        record {
          good = retransmit_good one oldest (datagram_for (window_end v) first) first_short;
          sender = can.sender;
          within = (let f = can.within.from in let b = can.within.below in record { from = omega (arith, f); below = omega (arith, b) });
          submitted = rw (retransmit_counts t rolls rto now oldest first (datagram_for (window_end v) first) r o) (one_more r.retx_submitted o.forward.path.used _ can.submitted (retransmit_going_used t rolls rto now oldest first (datagram_for (window_end v) first) r o g));
          premature = first_premature;
          rows = rw k.rows can.rows;
          timeout = can.timeout;
          timers = retransmit_timers one oldest (datagram_for (window_end v) first) first_short;
          entries = λ e. rw k.keys (can.entries e);
        }

-- ---- the turns
module _ (limit : ℕ) (t : Timing) (rolls : List Float) (rto now : ℕ) (oldest : Option ℕ) where
  abbrev sends : ℕ → List ℕ → Resends → Outgoing → RetransmitExit
  sends seq packet r o = retransmit t rolls rto now oldest seq packet r o

  abbrev sends_all : List (List ℕ) → Resends → Outgoing → RetransmitExit
  sends_all packets r o = retransmit_all limit t rolls rto now oldest packets r o

  pub all_none : (r : Resends) (o : Outgoing) → sends_all [] r o ≡ retransmit_exit r o (None)
  unfolding retransmit_all
  all_none r o = refl

  module _ (packet : List ℕ) (packets : List (List ℕ)) (r : Resends) (o : Outgoing) where
    pub all_met : ceiling_met limit r ≡ true → sends_all (packet ∷ packets) r o ≡ retransmit_exit (exhausted r) o (None)
    unfolding retransmit_all
    all_met m = rw m

    module _ {seq : ℕ} (n : number_of packet ≡ seq) (m : ceiling_met limit r ≡ false) where
      all_turn : sends_all (packet ∷ packets) r o ≡ cond (is_going (sends seq packet r o).stop) (sends_all packets (sends seq packet r o).resends (sends seq packet r o).outgoing) (sends seq packet r o)
      unfolding retransmit_all
      all_turn = rw (m, n)

      pub all_stopped : is_going (sends seq packet r o).stop ≡ false → sends_all (packet ∷ packets) r o ≡ sends seq packet r o
      all_stopped g = all_turn ∙ rw g

      pub all_going : is_going (sends seq packet r o).stop ≡ true → sends_all (packet ∷ packets) r o ≡ sends_all packets (sends seq packet r o).resends (sends seq packet r o).outgoing
      all_going g = all_turn ∙ rw g

    -- whatever holds of the three ends of a turn
    pub all_by : (Q : RetransmitExit → Type 0) {seq : ℕ} → number_of packet ≡ seq → Q (retransmit_exit (exhausted r) o (None)) → (is_going (sends seq packet r o).stop ≡ false → Q (sends seq packet r o))
        → (is_going (sends seq packet r o).stop ≡ true → Q (sends_all packets (sends seq packet r o).resends (sends seq packet r o).outgoing)) → Q (sends_all (packet ∷ packets) r o)
    all_by Q {seq} n met stopped going = by_ceiling (ceiling_met limit r) refl
      where
        by_stop_lem : ceiling_met limit r ≡ false → (g : Bool) → is_going (sends seq packet r o).stop ≡ g → Q (sends_all (packet ∷ packets) r o)
        by_stop_lem m true g = subst Q (sym (all_going n m g)) (going g)
        by_stop_lem m false g = subst Q (sym (all_stopped n m g)) (stopped g)

        by_ceiling : (b : Bool) → ceiling_met limit r ≡ b → Q (sends_all (packet ∷ packets) r o)
        by_ceiling true m = subst Q (sym (all_met m)) met
        by_ceiling false m = by_stop_lem m _ refl

  -- what each packet of the list keeps, all of them keep
  module _ (P : Resends → Outgoing → Type 0) (spent : (r : Resends) (o : Outgoing) → P r o → P (exhausted r) o) where
    pub resend_turns : (packets : List (List ℕ)) → ((packet : List ℕ) → Memᴰ packet packets → (r : Resends) (o : Outgoing) → P r o → P (sends (number_of packet) packet r o).resends (sends (number_of packet) packet r o).outgoing)
        → (r : Resends) (o : Outgoing) → P r o → P (sends_all packets r o).resends (sends_all packets r o).outgoing
    resend_turns [] each r o p = subst (λ (y : RetransmitExit). P y.resends y.outgoing) (sym (all_none r o)) p
    resend_turns (packet ∷ packets) each r o p =
        let q = each packet (Memᴰ.head refl) r o p in
        all_by packet packets r o (λ (y : RetransmitExit). P y.resends y.outgoing) refl (spent r o p) (λ g. q) (λ g. resend_turns packets (λ wire m. each wire (Memᴰ.tail m)) _ _ q)

  -- by the numbers: P before each packet, Q at the end
  module _ (v : SenderEnd) (P : ℕ → ℕ → Resends → Outgoing → Type 0) (Q : RetransmitExit → Type 0)
      (done : (first : ℕ) (r : Resends) (o : Outgoing) → P first 0 r o → Q (retransmit_exit r o (None)))
      (met : (first count : ℕ) (r : Resends) (o : Outgoing) → P first (suc count) r o → Q (retransmit_exit (exhausted r) o (None)))
      (stopped : (first count : ℕ) (r : Resends) (o : Outgoing) → P first (suc count) r o → is_going (sends first (datagram_for (window_end v) first) r o).stop ≡ false → Q (sends first (datagram_for (window_end v) first) r o))
      (going : (first count : ℕ) (r : Resends) (o : Outgoing) → P first (suc count) r o → is_going (sends first (datagram_for (window_end v) first) r o).stop ≡ true → P (suc first) count (sends first (datagram_for (window_end v) first) r o).resends (sends first (datagram_for (window_end v) first) r o).outgoing) where
    pub by_numbers : (count first : ℕ) (r : Resends) (o : Outgoing) → P first count r o → Q (sends_all (packets_from v first count) r o)
    by_numbers zero first r o p = subst Q (sym (all_none r o)) (done first r o p)
    by_numbers (suc count) first r o p =
        all_by (datagram_for (window_end v) first) (packets_from v (suc first) count) r o Q (datagram_number (window_end v) first) (met first count r o p) (stopped first count r o p)
        (λ g. by_numbers count (suc first) _ _ (going first count r o p g))

-- ---- what is kept, also where the run ends
pub record ResendKeeps (rolls : List Float) (now : ℕ) (v : SenderEnd) (o : Outgoing) (y : RetransmitExit) : Type 0 where
  pub good : GoodOutgoing y.outgoing rolls now
  pub timers : TimersWithin (window_of v.sender) y.outgoing.clock
  pub keeps : SubmitKeeps o y.outgoing
  pub notes : y.outgoing.metas.notes ≡ o.metas.notes
  pub written : o.written ≤ y.outgoing.written
  pub used : o.forward.path.used ≤ y.outgoing.forward.path.used
  pub premature : y.resends.premature ≤ y.resends.retx_submitted

pub keeps_again : {a b c : Outgoing} → SubmitKeeps a b → SubmitKeeps b c → SubmitKeeps a c
keeps_again h k =
    record {
      forward = record { config = k.forward.config ∙ h.forward.config; records = k.forward.records ∙ h.forward.records; places = k.forward.places ∙ h.forward.places };
      rows = k.rows ∙ h.rows;
      events = k.events ∙ h.events;
      keys = k.keys ∙ h.keys;
      deadlines = k.deadlines ∙ h.deadlines;
    }

pub keeps_same : (o : Outgoing) → SubmitKeeps o o
keeps_same o = record { forward = record { config = refl; records = refl; places = refl }; rows = refl; events = refl; keys = refl; deadlines = refl }

module _ (t : Timing) (rolls : List Float) (rto now : ℕ) (v : SenderEnd) (oldest : Option ℕ) (o₀ : Outgoing) where
  record Before (first count : ℕ) (r : Resends) (o : Outgoing) : Type 0 where
    can : CanRetransmitAll t rolls rto now v first count r o
    keeps : SubmitKeeps o₀ o
    notes : o.metas.notes ≡ o₀.metas.notes
    written : o₀.written ≤ o.written
    used : o₀.forward.path.used ≤ o.forward.path.used

  before_kept : {first count : ℕ} {r : Resends} {o : Outgoing} → Before first count r o → ResendKeeps rolls now v o₀ (retransmit_exit r o (None))
  before_kept b = record { good = b.can.good; timers = b.can.timers; keeps = b.keeps; notes = b.notes; written = b.written; used = b.used; premature = b.can.premature }

  module _ {first count : ℕ} {r : Resends} {o : Outgoing} (b : Before first (suc count) r o) where
    abbrev y : RetransmitExit
    y = retransmit t rolls rto now oldest first (datagram_for (window_end v) first) r o

    sent_kept : ResendKeeps rolls now v o₀ y
    sent_kept =
        let one = can_retransmit_first b.can in
        let short = first_short b.can in
        let w = retransmit_written t rolls rto now oldest first (datagram_for (window_end v) first) r o in
        let u = retransmit_used t rolls rto now oldest first (datagram_for (window_end v) first) r o in
        record {
          good = retransmit_good one oldest (datagram_for (window_end v) first) short;
          timers = retransmit_timers one oldest (datagram_for (window_end v) first) short;
          keeps = keeps_again b.keeps (retransmit_keeps one oldest (datagram_for (window_end v) first) short);
          notes = retransmit_notes one oldest (datagram_for (window_end v) first) short ∙ b.notes;
          written = le_trans b.written w.0;
          used = le_trans b.used u;
          premature = first_premature b.can oldest;
        }

    sent_before : is_going y.stop ≡ true → Before (suc first) count y.resends y.outgoing
    sent_before g =
        let k = sent_kept in
        record { can = can_retransmit_rest b.can oldest g; keeps = k.keeps; notes = k.notes; written = k.written; used = k.used }

pub resend_keeps : (limit : ℕ) {t : Timing} {rolls : List Float} {rto now : ℕ} {v : SenderEnd} {first count : ℕ} {r : Resends} {o : Outgoing} → CanRetransmitAll t rolls rto now v first count r o → (oldest : Option ℕ)
    → ResendKeeps rolls now v o (retransmit_all limit t rolls rto now oldest (packets_from v first count) r o)
resend_keeps limit {t} {rolls} {rto} {now} {v} {first} {count} {r} {o} can oldest =
    by_numbers limit t rolls rto now oldest v (Before t rolls rto now v oldest o) (ResendKeeps rolls now v o)
    (λ first r' o' b. before_kept t rolls rto now v oldest o b)
    (λ first count r' o' b. let k = before_kept t rolls rto now v oldest o b in record { good = k.good; timers = k.timers; keeps = k.keeps; notes = k.notes; written = k.written; used = k.used; premature = k.premature })
    (λ first count r' o' b g. sent_kept t rolls rto now v oldest o b)
    (λ first count r' o' b g. sent_before t rolls rto now v oldest o b g)
    count first r o (record { can = can; keeps = keeps_same o; notes = refl; written = omega arith; used = omega arith })

-- ---- while the run goes on and isn't exhausted, every packet was submitted
pub record AllSubmitted (count : ℕ) (r : Resends) (o : Outgoing) (y : RetransmitExit) : Type 0 where
  pub submitted : y.resends.retx_submitted ≡ r.retx_submitted + count
  pub used : y.outgoing.forward.path.used ≡ o.forward.path.used + count * packet_rolls

still_counts : (a b c n m : ℕ) → a + suc n ≡ b → c ≡ a + 1 → c + n ≡ b
still_counts a b c n m h e = omega arith

still_uses : (a b c n : ℕ) → a + suc n * packet_rolls ≡ b → c ≡ a + packet_rolls → c + n * packet_rolls ≡ b
still_uses a b c n h e = omega arith

pub all_submitted : (limit : ℕ) (t : Timing) (rolls : List Float) (rto now : ℕ) (v : SenderEnd) (oldest : Option ℕ) (first count : ℕ) (r : Resends) (o : Outgoing)
    → is_going (retransmit_all limit t rolls rto now oldest (packets_from v first count) r o).stop ≡ true → (retransmit_all limit t rolls rto now oldest (packets_from v first count) r o).resends.exhausted ≡ false
    → AllSubmitted count r o (retransmit_all limit t rolls rto now oldest (packets_from v first count) r o)
all_submitted limit t rolls rto now v oldest first count r o =
    by_numbers limit t rolls rto now oldest v
    (λ first n r' o'. (r'.retx_submitted + n ≡ r.retx_submitted + count) × (o'.forward.path.used + n * packet_rolls ≡ o.forward.path.used + count * packet_rolls))
    (λ y. is_going y.stop ≡ true → y.resends.exhausted ≡ false → AllSubmitted count r o y)
    (λ first r' o' p g x. let a = p.0 in let b = p.1 in record { submitted = omega (arith, a); used = omega (arith, b) })
    (λ first n r' o' p g x. absurd (true≢false x))
    (λ first n r' o' p s g x. absurd (true≢false (sym g ∙ s)))
    (λ first n r' o' p g. (
      still_counts r'.retx_submitted _ _ n 0 p.0 (ap (λ (c : Resends). c.retx_submitted) (retransmit_counts t rolls rto now oldest first (datagram_for (window_end v) first) r' o')),
      still_uses o'.forward.path.used _ _ n p.1 (retransmit_going_used t rolls rto now oldest first (datagram_for (window_end v) first) r' o' g),
    ))
    count first r o (refl, refl)

-- ---- the loop
pub record SameLengths (u o : Outgoing) : Type 0 where
  pub rows : length o.metas.rows ≡ length u.metas.rows
  pub events : length o.events ≡ length u.events
  pub records : length o.forward.records ≡ length u.forward.records
  pub places : length o.forward.places ≡ length u.forward.places
  pub keys : length o.clock.keys ≡ length u.clock.keys
  pub deadlines : length o.clock.deadlines ≡ length u.clock.deadlines

-- the number past the last is a number too
pub all_low : {t : Timing} {rolls : List Float} {rto now : ℕ} {v : SenderEnd} {first count : ℕ} {r : Resends} {o : Outgoing} → CanRetransmitAll t rolls rto now v first count r o → first + count < 2 ^ 32
all_low {v = v} can =
    let low = (sound (is_selective v.sender.state) (window_of v.sender) v.store can.sender).low in
    let b = can.within.below in
    omega (arith, low, b)

-- what is left to send makes of the present what the whole makes of the start
pub record Left (limit : ℕ) (t : Timing) (rolls : List Float) (rto now : ℕ) (v : SenderEnd) (first count : ℕ) (r₀ : Resends) (o₀ : Outgoing) (seq left : ℕ) (r : Resends) (o : Outgoing) : Type 0 where
  pub eq : retransmit_all limit t rolls rto now (oldest_outstanding v.sender) (packets_from v seq left) r o
      ≡ retransmit_all limit t rolls rto now (oldest_outstanding v.sender) (packets_from v first count) r₀ o₀
  pub can : CanRetransmitAll t rolls rto now v seq left r o
  pub same : SameLengths o₀ o

pub left_start : {limit : ℕ} {t : Timing} {rolls : List Float} {rto now : ℕ} {v : SenderEnd} {first count : ℕ} {r : Resends} {o : Outgoing} → {left : ℕ} → left ≡ count → CanRetransmitAll t rolls rto now v first count r o → Left limit t rolls rto now v first count r o first left r o
left_start {limit} {t} {rolls} {rto} {now} {v} {first} {count} {r} {o} e can =
    subst (λ (k : ℕ). Left limit t rolls rto now v first count r o first k r o) (sym e)
    (record { eq = refl; can = can; same = record { rows = refl; events = refl; records = refl; places = refl; keys = refl; deadlines = refl } })

module _ {limit : ℕ} {t : Timing} {rolls : List Float} {rto now : ℕ} {v : SenderEnd} {first count : ℕ} {r₀ : Resends} {o₀ : Outgoing} {seq left : ℕ} {r : Resends} {o : Outgoing} (l : Left limit t rolls rto now v first count r₀ o₀ seq left r o) where
  abbrev whole : RetransmitExit
  whole = retransmit_all limit t rolls rto now (oldest_outstanding v.sender) (packets_from v first count) r₀ o₀

  pub left_none : left ≤ 0 → retransmit_exit r o (None) ≡ whole
  left_none h = none left h l.eq
    where
      none : (k : ℕ) → k ≤ 0 → retransmit_all limit t rolls rto now (oldest_outstanding v.sender) (packets_from v seq k) r o ≡ retransmit_all limit t rolls rto now (oldest_outstanding v.sender) (packets_from v first count) r₀ o₀
          → retransmit_exit r o (None) ≡ retransmit_all limit t rolls rto now (oldest_outstanding v.sender) (packets_from v first count) r₀ o₀
      none zero h e = sym (all_none limit t rolls rto now (oldest_outstanding v.sender) r o) ∙ e
      none (suc k) h e = absurd (omega arith)

  module _ (some : 0 < left) where
    abbrev rest : ℕ
    rest = left - 1

    one_left : left ≡ suc (left - 1)
    one_left = omega arith

    can_some : CanRetransmitAll t rolls rto now v seq (suc (left - 1)) r o
    can_some = subst (λ (k : ℕ). CanRetransmitAll t rolls rto now v seq k r o) one_left l.can

    eq_some : retransmit_all limit t rolls rto now (oldest_outstanding v.sender) (packets_from v seq (suc (left - 1))) r o ≡ retransmit_all limit t rolls rto now (oldest_outstanding v.sender) (packets_from v first count) r₀ o₀
    eq_some = ap (λ (k : ℕ). retransmit_all limit t rolls rto now (oldest_outstanding v.sender) (packets_from v seq k) r o) (sym one_left) ∙ l.eq

    pub left_can : CanRetransmit t rolls rto now v seq r o
    left_can = can_retransmit_first can_some

    module _ {b : Bool} (e : b ≡ ceiling_met limit r) where
      pub left_met : b ≡ true → {r' : Resends} → r' ≡ exhausted r → retransmit_exit r' o (None) ≡ whole
      left_met f p = ap (λ (c : Resends). retransmit_exit c o (None)) p ∙ sym (all_met limit t rolls rto now (oldest_outstanding v.sender) (datagram_for (window_end v) seq) (packets_from v (suc seq) (left - 1)) r o (sym e ∙ f)) ∙ eq_some

      module _ (f : b ≡ false) {x : RetransmitExit} (d : x ≡ retransmit t rolls rto now (oldest_outstanding v.sender) seq (datagram_for (window_end v) seq) r o) {g : Bool} (i : g ≡ is_going x.stop) where
        stop_is : is_going (retransmit t rolls rto now (oldest_outstanding v.sender) seq (datagram_for (window_end v) seq) r o).stop ≡ g
        stop_is = ap (λ (y : RetransmitExit). is_going y.stop) (sym d) ∙ sym i

        pub left_stopped : not g ≡ true → x ≡ whole
        left_stopped n = d ∙ sym (all_stopped limit t rolls rto now (oldest_outstanding v.sender) (datagram_for (window_end v) seq) (packets_from v (suc seq) (left - 1)) r o (datagram_number (window_end v) seq) (sym e ∙ f) (stop_is ∙ stops g n)) ∙ eq_some

        pub left_next : not g ≡ false → SameLengths o₀ x.outgoing → {m : ℕ} → m ≡ left - 1 → Left limit t rolls rto now v first count r₀ o₀ (seq + 1) m x.resends x.outgoing
        left_next n same e' =
            let j = stop_is ∙ goes g n in
            subst (λ (k : ℕ). Left limit t rolls rto now v first count r₀ o₀ (seq + 1) k x.resends x.outgoing) (sym e')
            (subst (λ (k : ℕ). Left limit t rolls rto now v first count r₀ o₀ k (left - 1) x.resends x.outgoing) (next seq)
            (record {
              eq =
                  ap (λ (y : RetransmitExit). retransmit_all limit t rolls rto now (oldest_outstanding v.sender) (packets_from v (suc seq) (left - 1)) y.resends y.outgoing) d
                  ∙ sym (all_going limit t rolls rto now (oldest_outstanding v.sender) (datagram_for (window_end v) seq) (packets_from v (suc seq) (left - 1)) r o (datagram_number (window_end v) seq) (sym e ∙ f) j) ∙ eq_some;
              can = subst (λ (y : RetransmitExit). CanRetransmitAll t rolls rto now v (suc seq) (left - 1) y.resends y.outgoing) (sym d) (can_retransmit_rest can_some (oldest_outstanding v.sender) j);
              same = same;
            }))
          where
            next : (n : ℕ) → suc n ≡ n + 1
            next n = omega arith
