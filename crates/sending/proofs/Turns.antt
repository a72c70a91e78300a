-- What `pump_sends` leaves, chunk by chunk.
use Rattle.std.specs.Prelude.{None}
use Prim.Native.Nat.{ℕ, zero, suc, ◌+◌, ◌-◌, ◌*◌, ◌≤◌, ◌<◌}
use native.Mathlib.Omega.{arith}
use mathlib.Core.Path.{◌≡◌, refl, sym, ap, ◌∙◌, subst}
use mathlib.Core.Bool.{Bool, true, false, true≢false}
use mathlib.Core.List.{List}
use lib.Ieee.{Float}
use Rattle.chunks.specs.Chunks.{chunks_of}
use Rattle.path.specs.Rolls.{packet_rolls}
use Rattle.path.specs.Path.{is_going}
use Rattle.path.proofs.Laws.{going_is}
use Rattle.clock.specs.declared.Timing.{Timing}
use Rattle.session.specs.Sending.{window_of}
use Rattle.session.specs.GoodSender.{is_selective}
use Rattle.session.proofs.Laws.{send_selective, send_length}
use Rattle.submission.proofs.Laws.{submit_keeps, submit_used, going_used, going_written}
use Rattle.sending.specs.Sending.{PumpState, PumpExit, pump_exit, next_number, can_pump, send_one, progressed, pump_sends}
use Rattle.sending.specs.Good.{CanPump}
use Rattle.sending.proofs.Calls.{number_left, chunk, blank, given, written, can_send_lem, sent_next, can_submit_next, next_grows, send_keeps, notes_grow}
use Rattle.sending.proofs.Pumps.{Same, pump_nothing, pump_going, pump_stopped}

none_left : (a b : ℕ) → a - b ≡ 0 → b < a → ⊥
none_left a b e h = omega arith

one_fewer : (a b k : ℕ) {c : ℕ} → a - b ≡ suc k → c ≡ b + 1 → a - c ≡ k
one_fewer a b k e f = omega arith

module _ {t : Timing} {rolls : List Float} {size : ℕ} {file : List ℕ} {total rto now : ℕ} where
  -- whatever holds where nothing can be sent and where the next chunk ends the run, and before a chunk if it holds after it, holds of the loop
  pub pump_turns : (R : PumpState → PumpExit → Type 0)
      → ((s : PumpState) → CanPump t rolls size file total rto now s → can_pump total s.sender.sender ≡ false → R s (pump_exit s false (None)))
      → ((s : PumpState) (x : PumpExit) → CanPump t rolls size file total rto now s → can_pump total s.sender.sender ≡ true → is_going (send_one t rolls (chunks_of size file) rto now s).stop ≡ true → R (send_one t rolls (chunks_of size file) rto now s).state x → R s (progressed x))
      → ((s : PumpState) → CanPump t rolls size file total rto now s → can_pump total s.sender.sender ≡ true → is_going (send_one t rolls (chunks_of size file) rto now s).stop ≡ false → R s (send_one t rolls (chunks_of size file) rto now s))
      → (s : PumpState) → CanPump t rolls size file total rto now s → R s (pump_sends t rolls (chunks_of size file) rto now s)
  pump_turns R full going stops s can = by_left (total - next_number s) s refl can
    where
      by_stop_lem : (s : PumpState) (can : CanPump t rolls size file total rto now s) (free : can_pump total s.sender.sender ≡ true) → R (send_one t rolls (chunks_of size file) rto now s).state (pump_sends t rolls (chunks_of size file) rto now (send_one t rolls (chunks_of size file) rto now s).state) → (g : Bool) → is_going (send_one t rolls (chunks_of size file) rto now s).stop ≡ g → R s (pump_sends t rolls (chunks_of size file) rto now s)
      by_stop_lem s can free rest true g = subst (R s) (sym (pump_going can free g)) (going s _ can free g rest)
      by_stop_lem s can free rest false g = subst (R s) (sym (pump_stopped can free g)) (stops s can free g)

      by_free : (s : PumpState) → CanPump t rolls size file total rto now s → (can_pump total s.sender.sender ≡ true → R (send_one t rolls (chunks_of size file) rto now s).state (pump_sends t rolls (chunks_of size file) rto now (send_one t rolls (chunks_of size file) rto now s).state)) → (b : Bool) → can_pump total s.sender.sender ≡ b → R s (pump_sends t rolls (chunks_of size file) rto now s)
      by_free s can rest true free = by_stop_lem s can free (rest free) (is_going (send_one t rolls (chunks_of size file) rto now s).stop) refl
      by_free s can rest false none = subst (R s) (sym (pump_nothing can none)) (full s can none)

      by_left : (k : ℕ) (s : PumpState) → total - next_number s ≡ k → CanPump t rolls size file total rto now s → R s (pump_sends t rolls (chunks_of size file) rto now s)
      by_left zero s e can = by_free s can (λ free. absurd (none_left total (next_number s) e (number_left can free))) (can_pump total s.sender.sender) refl
      by_left (suc k) s e can = by_free s can (λ free. by_left k (send_one t rolls (chunks_of size file) rto now s).state (one_fewer total (next_number s) k e (next_grows can free)) (send_keeps can free)) (can_pump total s.sender.sender) refl

  -- an invariant of the turns holds at the end, also where the run ends
  pub pump_keeps : (Q : PumpState → Type 0)
      → ((s : PumpState) → CanPump t rolls size file total rto now s → can_pump total s.sender.sender ≡ true → Q s → Q (send_one t rolls (chunks_of size file) rto now s).state)
      → (s : PumpState) → CanPump t rolls size file total rto now s → Q s → Q (pump_sends t rolls (chunks_of size file) rto now s).state
  pump_keeps Q turn s can =
      pump_turns (λ s x. Q s → Q x.state) (λ s can none q. q) (λ s x can free g rest q. rest (turn s can free q)) (λ s can free g q. turn s can free q) s can

-- ---- what a chunk leaves as it was: the protocol, the window's base and size, and what was sent again
pub record PumpKeeps (s after : PumpState) : Type 0 where
  pub selective : is_selective after.sender.sender.state ≡ is_selective s.sender.sender.state
  pub size : (window_of after.sender.sender).window_size ≡ (window_of s.sender.sender).window_size
  pub base : (window_of after.sender.sender).send_base ≡ (window_of s.sender.sender).send_base
  pub again : (window_of after.sender.sender).retransmissions ≡ (window_of s.sender.sender).retransmissions

-- ---- `count` chunks were carried: each is counted, has used its rolls and has its event
pub record Pumped (s after : PumpState) : Type 0 where
  pub count : ℕ
  pub next : next_number after ≡ next_number s + count
  pub sent : (window_of after.sender.sender).total_sent ≡ (window_of s.sender.sender).total_sent + count
  pub used : after.outgoing.forward.path.used ≡ s.outgoing.forward.path.used + count * packet_rolls
  pub events : after.outgoing.written ≡ s.outgoing.written + count

keeps_then : {a b c : PumpState} → PumpKeeps a b → PumpKeeps b c → PumpKeeps a c
keeps_then p q = record { selective = q.selective ∙ p.selective; size = q.size ∙ p.size; base = q.base ∙ p.base; again = q.again ∙ p.again }

same_then : {a b c : PumpState} → Same a b → Same b c → Same a c
same_then p q =
    record {
      store = q.store ∙ p.store;
      rows = q.rows ∙ p.rows;
      events = q.events ∙ p.events;
      records = q.records ∙ p.records;
      places = q.places ∙ p.places;
      keys = q.keys ∙ p.keys;
      deadlines = q.deadlines ∙ p.deadlines;
    }

plus_none : (a : ℕ) → a ≡ a + 0
plus_none a = omega arith

plus_then : (a m n : ℕ) {b c : ℕ} → b ≡ a + m → c ≡ b + n → c ≡ a + (m + n)
plus_then a m n e f = omega arith

rolls_then : (a m n : ℕ) {b c : ℕ} → b ≡ a + m * packet_rolls → c ≡ b + n * packet_rolls → c ≡ a + (m + n) * packet_rolls
rolls_then a m n e f = omega arith

one_more_roll : (a : ℕ) {b : ℕ} → b ≡ a + packet_rolls → b ≡ a + 1 * packet_rolls
one_more_roll a e = omega arith

pumped_none : (s : PumpState) → Pumped s s
pumped_none s = record { count = 0; next = plus_none _; sent = plus_none _; used = plus_none _; events = plus_none _ }

pumped_then : {a b c : PumpState} → Pumped a b → Pumped b c → Pumped a c
pumped_then p q =
    record {
      count = p.count + q.count;
      next = plus_then _ p.count q.count p.next q.next;
      sent = plus_then _ p.count q.count p.sent q.sent;
      used = rolls_then _ p.count q.count p.used q.used;
      events = plus_then _ p.count q.count p.events q.events;
    }

-- ---- one chunk
module _ {t : Timing} {rolls : List Float} {size : ℕ} {file : List ℕ} {total rto now : ℕ} {s : PumpState} (can : CanPump t rolls size file total rto now s) (free : can_pump total s.sender.sender ≡ true) where
  pub send_sender : PumpKeeps s (send_one t rolls (chunks_of size file) rto now s).state
  unfolding send_one
  send_sender =
      let w = sent_next can free in
      record { selective = send_selective s.sender (chunk can free) (blank can free); size = w.size; base = w.base; again = w.again }

  pub send_same : Same s (send_one t rolls (chunks_of size file) rto now s).state
  unfolding send_one
  send_same =
      let k = submit_keeps t rolls (given can free) (written can free) s.outgoing (can_submit_next can free) in
      record {
        store = send_length s.sender (chunk can free) (blank can free) (can_send_lem can free);
        rows = k.rows;
        events = k.events;
        records = k.forward.records;
        places = k.forward.places;
        keys = k.keys;
        deadlines = k.deadlines;
      }

  pub send_used : s.outgoing.forward.path.used ≤ (send_one t rolls (chunks_of size file) rto now s).state.outgoing.forward.path.used
  unfolding send_one
  send_used = (submit_used t rolls (given can free) (written can free) s.outgoing).0

  pub send_pumped : (send_one t rolls (chunks_of size file) rto now s).stop ≡ None → Pumped s (send_one t rolls (chunks_of size file) rto now s).state
  unfolding send_one
  send_pumped e =
      let w = sent_next can free in
      record {
        count = 1;
        next = w.next;
        sent = w.count;
        used = one_more_roll _ (going_used t rolls (given can free) (written can free) s.outgoing e);
        events = going_written t rolls (given can free) (written can free) s.outgoing e;
      }

-- ---- all of them
module _ {t : Timing} {rolls : List Float} {size : ℕ} {file : List ℕ} {total rto now : ℕ} {s : PumpState} (can : CanPump t rolls size file total rto now s) where
  -- it can be asked again; so what a submission works on is good
  pub pump_can : CanPump t rolls size file total rto now (pump_sends t rolls (chunks_of size file) rto now s).state
  pump_can = pump_keeps (λ y. CanPump t rolls size file total rto now y) (λ y c free q. send_keeps c free) s can can

  pub pump_sender : PumpKeeps s (pump_sends t rolls (chunks_of size file) rto now s).state
  pump_sender = pump_keeps (PumpKeeps s) (λ y c free q. keeps_then q (send_sender c free)) s can (record { selective = refl; size = refl; base = refl; again = refl })

  -- the lengths of the slices
  pub pump_same : Same s (pump_sends t rolls (chunks_of size file) rto now s).state
  pump_same = pump_keeps (Same s) (λ y c free q. same_then q (send_same c free)) s can (record { store = refl; rows = refl; events = refl; records = refl; places = refl; keys = refl; deadlines = refl })

  -- the next number rises, to the number of chunks at most
  pub pump_next : next_number s ≤ total → (next_number s ≤ next_number (pump_sends t rolls (chunks_of size file) rto now s).state) × (next_number (pump_sends t rolls (chunks_of size file) rto now s).state ≤ total)
  pump_next h =
      pump_keeps (λ y. (next_number s ≤ next_number y) × (next_number y ≤ total)) (λ y c free q. let n = next_grows c free in let l = number_left c free in (up q.0 n, below (next_number y) n l)) s can (omega arith, h)
    where
      up : {a b c : ℕ} → a ≤ b → c ≡ b + 1 → a ≤ c
      up h e = omega arith

      below : (a : ℕ) {b c : ℕ} → b ≡ a + 1 → a < c → b ≤ c
      below a e h = omega arith

  -- each number below the next has its note
  pub pump_notes : s.outgoing.metas.notes.count ≡ next_number s
      → (pump_sends t rolls (chunks_of size file) rto now s).state.outgoing.metas.notes.count ≡ next_number (pump_sends t rolls (chunks_of size file) rto now s).state
  pump_notes e = pump_keeps (λ y. y.outgoing.metas.notes.count ≡ next_number y) (λ y c free q. notes_grow c free q) s can e

  -- no roll is given back
  pub pump_used : s.outgoing.forward.path.used ≤ (pump_sends t rolls (chunks_of size file) rto now s).state.outgoing.forward.path.used
  pump_used = pump_keeps (λ y. s.outgoing.forward.path.used ≤ y.outgoing.forward.path.used) (λ y c free q. up q (send_used c free)) s can (omega arith)
    where
      up : {a b c : ℕ} → a ≤ b → b ≤ c → a ≤ c
      up h k = omega arith

  -- while the run goes on
  pub pump_pumped : (pump_sends t rolls (chunks_of size file) rto now s).stop ≡ None → Pumped s (pump_sends t rolls (chunks_of size file) rto now s).state
  pump_pumped =
      pump_turns (λ y x. x.stop ≡ None → Pumped y x.state) (λ y c none e. pumped_none y) (λ y x c free g rest e. pumped_then (send_pumped c free (going_is _ g)) (rest e))
      (λ y c free g e. absurd (true≢false (sym (ap is_going e) ∙ g))) s can

  -- so every datagram counted has used its rolls
  pub pump_counted : (pump_sends t rolls (chunks_of size file) rto now s).stop ≡ None → (window_of s.sender.sender).total_sent * packet_rolls ≤ s.outgoing.forward.path.used
      → (window_of (pump_sends t rolls (chunks_of size file) rto now s).state.sender.sender).total_sent * packet_rolls ≤ (pump_sends t rolls (chunks_of size file) rto now s).state.outgoing.forward.path.used
  pump_counted e h = let p = pump_pumped e in more _ _ p.count p.sent p.used h
    where
      more : (a c n : ℕ) {b d : ℕ} → b ≡ a + n → d ≡ c + n * packet_rolls → a * packet_rolls ≤ c → b * packet_rolls ≤ d
      more a c n e f h = omega arith
