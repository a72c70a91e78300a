-- `pump_sends` by its turns, what it keeps, and its loop: what is left to send makes of the present what the whole makes
-- of the start.
use Rattle.std.specs.Prelude.{None}
use Prim.Native.Nat.{ℕ, zero, suc, ◌+◌, ◌-◌, ◌<◌}
use native.Mathlib.Omega.{arith}
use mathlib.Core.Path.{◌≡◌, refl, sym, ap, ◌∙◌, subst}
use mathlib.Core.Bool.{Bool, true, false, cond, not, true≢false}
use mathlib.Core.List.{List}
use lib.Ieee.{Float}
use lib.ListN.{length}
use Rattle.chunks.specs.Chunks.{chunks_of}
use Rattle.path.specs.Path.{is_going}
use Rattle.clock.specs.declared.Timing.{Timing}
use Rattle.sending.specs.Sending.{PumpState, PumpExit, pump_exit, next_number, can_pump, send_one, progressed, pump_most, pump_sends}
use Rattle.sending.specs.Good.{CanPump}
use Rattle.sending.proofs.Calls.{number_left, next_grows, send_keeps}

one_less : (a b : ℕ) → b < a → a - b ≡ suc (a - (b + 1))
one_less a b h = omega arith

module _ (t : Timing) (rolls : List Float) (chunks : List (List ℕ)) (rto now : ℕ) (s : PumpState) where
  most_turn : (n : ℕ) → can_pump (length chunks) s.sender.sender ≡ true
      → pump_most (suc n) t rolls chunks rto now s ≡ cond (is_going (send_one t rolls chunks rto now s).stop) (progressed (pump_most n t rolls chunks rto now (send_one t rolls chunks rto now s).state)) (send_one t rolls chunks rto now s)
  unfolding pump_most
  most_turn n h = rw h

  most_nothing : (n : ℕ) → can_pump (length chunks) s.sender.sender ≡ false → pump_most n t rolls chunks rto now s ≡ pump_exit s false (None)
  unfolding pump_most
  most_nothing zero h = refl
  most_nothing (suc n) h = rw h

  sent_progress : progressed (send_one t rolls chunks rto now s) ≡ send_one t rolls chunks rto now s
  unfolding send_one
  sent_progress = refl

module _ {t : Timing} {rolls : List Float} {size : ℕ} {file : List ℕ} {total rto now : ℕ} {s : PumpState} (can : CanPump t rolls size file total rto now s) where
  pub pump_nothing : can_pump total s.sender.sender ≡ false → pump_sends t rolls (chunks_of size file) rto now s ≡ pump_exit s false (None)
  pump_nothing h = most_nothing t rolls (chunks_of size file) rto now s (length (chunks_of size file) - next_number s) (subst (λ (n : ℕ). can_pump n s.sender.sender ≡ false) can.whole h)

  module _ (free : can_pump total s.sender.sender ≡ true) where
    pump_turn : pump_sends t rolls (chunks_of size file) rto now s ≡ cond (is_going (send_one t rolls (chunks_of size file) rto now s).stop) (progressed (pump_sends t rolls (chunks_of size file) rto now (send_one t rolls (chunks_of size file) rto now s).state)) (send_one t rolls (chunks_of size file) rto now s)
    pump_turn =
        ap (λ (n : ℕ). pump_most n t rolls (chunks_of size file) rto now s) (one_less (length (chunks_of size file)) (next_number s) (subst (λ (n : ℕ). next_number s < n) can.whole (number_left can free)))
        ∙ most_turn t rolls (chunks_of size file) rto now s (length (chunks_of size file) - (next_number s + 1)) (subst (λ (n : ℕ). can_pump n s.sender.sender ≡ true) can.whole free)
        ∙ ap (λ (k : ℕ). cond (is_going (send_one t rolls (chunks_of size file) rto now s).stop) (progressed (pump_most (length (chunks_of size file) - k) t rolls (chunks_of size file) rto now (send_one t rolls (chunks_of size file) rto now s).state)) (send_one t rolls (chunks_of size file) rto now s)) (sym (next_grows can free))

    pub pump_going : is_going (send_one t rolls (chunks_of size file) rto now s).stop ≡ true → pump_sends t rolls (chunks_of size file) rto now s ≡ progressed (pump_sends t rolls (chunks_of size file) rto now (send_one t rolls (chunks_of size file) rto now s).state)
    pump_going g = pump_turn ∙ rw g

    pub pump_stopped : is_going (send_one t rolls (chunks_of size file) rto now s).stop ≡ false → pump_sends t rolls (chunks_of size file) rto now s ≡ send_one t rolls (chunks_of size file) rto now s
    pump_stopped g = pump_turn ∙ rw g

-- ---- the loop
pub stops : (g : Bool) → not g ≡ true → g ≡ false
stops true n = absurd (true≢false (sym n))
stops false n = refl

pub goes : (g : Bool) → not g ≡ false → g ≡ true
goes true n = refl
goes false n = absurd (true≢false n)

abbrev pub after_sending : Bool → PumpExit → PumpExit
after_sending true x = progressed x
after_sending false x = x

pub record Same (u v : PumpState) : Type 0 where
  pub store : length v.sender.store ≡ length u.sender.store
  pub rows : length v.outgoing.metas.rows ≡ length u.outgoing.metas.rows
  pub events : length v.outgoing.events ≡ length u.outgoing.events
  pub records : length v.outgoing.forward.records ≡ length u.outgoing.forward.records
  pub places : length v.outgoing.forward.places ≡ length u.outgoing.forward.places
  pub keys : length v.outgoing.clock.keys ≡ length u.outgoing.clock.keys
  pub deadlines : length v.outgoing.clock.deadlines ≡ length u.outgoing.clock.deadlines

pub record Left (t : Timing) (rolls : List Float) (size : ℕ) (file : List ℕ) (total rto now : ℕ) (u v : PumpState) (progress : Bool) : Type 0 where
  pub eq : after_sending progress (pump_sends t rolls (chunks_of size file) rto now v) ≡ pump_sends t rolls (chunks_of size file) rto now u
  pub can : CanPump t rolls size file total rto now v
  pub same : Same u v

pub left_start : {t : Timing} {rolls : List Float} {size : ℕ} {file : List ℕ} {total rto now : ℕ} {u : PumpState} → CanPump t rolls size file total rto now u → Left t rolls size file total rto now u u false
left_start can = record { eq = refl; can = can; same = record { store = refl; rows = refl; events = refl; records = refl; places = refl; keys = refl; deadlines = refl } }

module _ {t : Timing} {rolls : List Float} {size : ℕ} {file : List ℕ} {total rto now : ℕ} {u v : PumpState} {progress : Bool} (l : Left t rolls size file total rto now u v progress) where
  pub left_none : {b : Bool} → b ≡ can_pump total v.sender.sender → b ≡ false → pump_exit v progress (None) ≡ pump_sends t rolls (chunks_of size file) rto now u
  left_none e f = by progress ∙ ap (after_sending progress) (sym (pump_nothing l.can (sym e ∙ f))) ∙ l.eq
    where
      by : (p : Bool) → pump_exit v p (None) ≡ after_sending p (pump_exit v false (None))
      by true = refl
      by false = refl

  module _ {b : Bool} (e : b ≡ can_pump total v.sender.sender) (f : b ≡ true) {x : PumpExit} (d : x ≡ send_one t rolls (chunks_of size file) rto now v) {g : Bool} (i : g ≡ is_going x.stop) where
    pub left_stopped : not g ≡ true → x ≡ pump_sends t rolls (chunks_of size file) rto now u
    left_stopped n = let j = stops g n in d ∙ by progress ∙ ap (after_sending progress) (sym (pump_stopped l.can (sym e ∙ f) (ap (λ (y : PumpExit). is_going y.stop) (sym d) ∙ sym i ∙ j))) ∙ l.eq
      where
        by : (p : Bool) → send_one t rolls (chunks_of size file) rto now v ≡ after_sending p (send_one t rolls (chunks_of size file) rto now v)
        by true = sym (sent_progress t rolls (chunks_of size file) rto now v)
        by false = refl

    pub left_next : not g ≡ false → Same u x.state → Left t rolls size file total rto now u x.state true
    left_next n m =
        let j = goes g n in
        record {
          eq =
              ap (λ (y : PumpExit). progressed (pump_sends t rolls (chunks_of size file) rto now y.state)) d ∙ by progress
              ∙ ap (after_sending progress) (sym (pump_going l.can (sym e ∙ f) (ap (λ (y : PumpExit). is_going y.stop) (sym d) ∙ sym i ∙ j))) ∙ l.eq;
          can = subst (λ (y : PumpExit). CanPump t rolls size file total rto now y.state) (sym d) (send_keeps l.can (sym e ∙ f));
          same = m;
        }
      where
        by : (p : Bool) → progressed (pump_sends t rolls (chunks_of size file) rto now (send_one t rolls (chunks_of size file) rto now v).state) ≡ after_sending p (progressed (pump_sends t rolls (chunks_of size file) rto now (send_one t rolls (chunks_of size file) rto now v).state))
        by true = refl
        by false = refl

    -- fewer are left
    pub left_less : total - next_number x.state < total - next_number v
    left_less =
        let n = ap (λ (y : PumpExit). next_number y.state) d ∙ next_grows l.can (sym e ∙ f) in
        let h = number_left l.can (sym e ∙ f) in
        fewer (next_number x.state) (next_number v) total n h
      where
        fewer : (a b c : ℕ) → a ≡ b + 1 → b < c → c - a < c - b
        fewer a b c n h = omega arith
