-- A timeout: what its calls ask, what it leaves and what it keeps; and the single timer's.
use Rattle.std.specs.Prelude.{None}
use Prim.Native.Nat.{ℕ, zero, suc, ◌+◌, ◌*◌, ◌^◌, ◌≤◌, ◌<◌, max}
use native.Mathlib.Omega.{arith}
use mathlib.Core.Path.{◌≡◌, refl, sym, ap, ◌∙◌, subst}
use mathlib.Core.Bool.{true, false}
use mathlib.Core.List.{List, [], ◌∷◌, Memᴰ}
use lib.Ieee.{Float}
use lib.ListN.{length}
use Rattle.bounds.specs.Bounds.{count_limit, max_duration}
use Rattle.delivery.specs.Calls.{number_of}
use Rattle.tallies.proofs.Laws.{how_many}
use Rattle.path.specs.Rolls.{packet_rolls}
use Rattle.path.specs.Path.{is_going}
use Rattle.multi_timer.specs.MultiTimer.{timers_exit}
use Rattle.rto.specs.Rto.{counts_full, on_timeout_unchecked}
use Rattle.rto.specs.declared.RtoEstimator.{RtoEstimator}
use Rattle.timer.specs.Timer.{deadline_too_late}
use Rattle.clock.specs.Clock.{timer_of, cancel}
use Rattle.clock.specs.declared.Clock.{Clock}
use Rattle.clock.specs.Estimator.{GoodEstimator}
use Rattle.clock.specs.declared.Timing.{Timing}
use Rattle.clock.specs.declared.Timing.TheVariants.{PerNumber}
use Rattle.clock.proofs.Laws as clock
use Rattle.clock.proofs.Laws.{cancel_good, back_off_counts, estimator_rto, can_back_off, backed_off}
use Rattle.session.specs.Sending.{SenderEnd, window_of, window_end, oldest_outstanding, Resent, resent, resent_numbers}
use Rattle.session.specs.GoodSender.{is_selective, sender_broken, CleanSender, SenderUnbroken, GoodSender, Within}
use Rattle.session.specs.declared.Timeout.{Timeout}
use Rattle.session.proofs.Laws.{SameWindow, ResentAs, resent_as, resent_good, good_unbroken}
use Rattle.submission.specs.Submission.{Outgoing, GoodOutgoing}
use Rattle.submission.proofs.Laws.{SubmitKeeps}
use Rattle.sending.specs.Good.{TimersWithin}
use Rattle.sending.specs.Retransmit.{RetransmitExit, retransmit, exhausted, retransmit_all, CanRetransmitAll}
use Rattle.sending.specs.declared.Resends.{Resends}
use Rattle.sending.proofs.Laws.{packets_from, resend_turns, keeps_same, ResendKeeps, resend_keeps, AllSubmitted, all_submitted}
use Rattle.timeouts.specs.Timeouts.{FireState, fire_state, FireExit, fire_exit, with_clock, after_resending, resending, timed_out, timeout_of, stopped, fire_single}
use Rattle.timeouts.specs.Good.{GoodFire, CanFire}

-- ---- by whether there is something to send
module _ (limit : ℕ) (t : Timing) (rolls : List Float) (now : ℕ) where
  resending_by : (Q : FireExit → Type 0) (packets : List (List ℕ)) (u : SenderEnd) (e : RtoEstimator) (r : Resends) (o : Outgoing) → (packets ≡ [] → Q (fire_exit (fire_state u e r o) true (None)))
      → (0 < length packets → Q (after_resending u (on_timeout_unchecked e) (retransmit_all limit t rolls (on_timeout_unchecked e).current_rto now (oldest_outstanding u.sender) packets r o)))
      → Q (resending limit t rolls now packets (fire_state u e r o))
  resending_by Q [] u e r o nothing some = nothing refl
  resending_by Q (packet ∷ packets) u e r o nothing some = some (omega arith)

  module _ (of : Timeout) (s : FireState) where
    pub timed_out_by : (Q : FireExit → Type 0) → ((resent s.sender of).packets ≡ [] → Q (fire_exit (fire_state (resent s.sender of).after s.estimator s.resends s.outgoing) true (None)))
        → (0 < length (resent s.sender of).packets → Q (after_resending (resent s.sender of).after (on_timeout_unchecked s.estimator) (retransmit_all limit t rolls (on_timeout_unchecked s.estimator).current_rto now (oldest_outstanding (resent s.sender of).after.sender) (resent s.sender of).packets s.resends s.outgoing)))
        → Q (timed_out limit t rolls now of s)
    unfolding timed_out
    timed_out_by Q nothing some = resending_by Q (resent s.sender of).packets (resent s.sender of).after s.estimator s.resends s.outgoing nothing some

    -- what holds after the sender's call, also with the RTO backed off, and what each packet then keeps
    pub timed_out_turns : (P : FireState → Type 0) → P (fire_state (resent s.sender of).after s.estimator s.resends s.outgoing)
        → P (fire_state (resent s.sender of).after (on_timeout_unchecked s.estimator) s.resends s.outgoing)
        → ((r : Resends) (o : Outgoing) → P (fire_state (resent s.sender of).after (on_timeout_unchecked s.estimator) r o) → P (fire_state (resent s.sender of).after (on_timeout_unchecked s.estimator) (exhausted r) o))
        → ((packet : List ℕ) → Memᴰ packet (resent s.sender of).packets → (r : Resends) (o : Outgoing) → P (fire_state (resent s.sender of).after (on_timeout_unchecked s.estimator) r o)
        → P (fire_state (resent s.sender of).after (on_timeout_unchecked s.estimator)
        (retransmit t rolls (on_timeout_unchecked s.estimator).current_rto now (oldest_outstanding (resent s.sender of).after.sender) (number_of packet) packet r o).resends
        (retransmit t rolls (on_timeout_unchecked s.estimator).current_rto now (oldest_outstanding (resent s.sender of).after.sender) (number_of packet) packet r o).outgoing))
        → P (timed_out limit t rolls now of s).state
    timed_out_turns P marked backed spent each =
        timed_out_by (λ (x : FireExit). P x.state) (λ e. marked)
        (λ h. resend_turns limit t rolls (on_timeout_unchecked s.estimator).current_rto now (oldest_outstanding (resent s.sender of).after.sender) (λ r o. P (fire_state (resent s.sender of).after (on_timeout_unchecked s.estimator) r o)) spent
        (resent s.sender of).packets each s.resends s.outgoing backed)

    pub timed_out_progress : (timed_out limit t rolls now of s).progress ≡ true
    timed_out_progress = timed_out_by (λ (x : FireExit). x.progress ≡ true) (λ e. refl) (λ h. refl)

    -- ---- the returns: u is the sender after its call
    module _ {u : SenderEnd} {first count : ℕ} (w : Within (window_of u.sender) first count) (e : resent_numbers u first count ≡ resent s.sender of) where
      abbrev by_resent : Resent → FireExit
      by_resent x = resending limit t rolls now x.packets (fire_state x.after s.estimator s.resends s.outgoing)

      pub timed_out_none : count ≡ 0 → fire_exit (fire_state u s.estimator s.resends s.outgoing) true (None) ≡ timed_out limit t rolls now of s
      unfolding timed_out
      timed_out_none z = ap (λ (k : ℕ). resending limit t rolls now (packets_from u first k) (fire_state u s.estimator s.resends s.outgoing)) (sym z) ∙ ap by_resent e

      pub timed_out_some : (count ≡ 0 → ⊥) → {d : RtoEstimator} → d ≡ on_timeout_unchecked s.estimator → {y : RetransmitExit}
          → y ≡ retransmit_all limit t rolls d.current_rto now (oldest_outstanding u.sender) (packets_from u first count) s.resends s.outgoing → after_resending u d y ≡ timed_out limit t rolls now of s
      unfolding timed_out
      timed_out_some z {d} f {y} i =
          ap (after_resending u d) i
          ∙ ap (λ (k : RtoEstimator). after_resending u k (retransmit_all limit t rolls k.current_rto now (oldest_outstanding u.sender) (packets_from u first count) s.resends s.outgoing)) f
          ∙ some count z ∙ ap by_resent e
        where
          some : (k : ℕ) → (k ≡ 0 → ⊥) → after_resending u (on_timeout_unchecked s.estimator) (retransmit_all limit t rolls (on_timeout_unchecked s.estimator).current_rto now (oldest_outstanding u.sender) (packets_from u first k) s.resends s.outgoing)
              ≡ resending limit t rolls now (packets_from u first k) (fire_state u s.estimator s.resends s.outgoing)
          some zero z = absurd (z refl)
          some (suc k) z = refl

-- ---- numbers
low_next : (n used size : ℕ) → n * packet_rolls ≤ used → used ≤ size → size * 8 < 2 ^ 63 → n + 1 < count_limit
low_next n used size h k l = omega arith

low_max : (a b used size : ℕ) → a * packet_rolls ≤ used → b * packet_rolls ≤ used → used ≤ size → size * 8 < 2 ^ 63 → max a b < count_limit
low_max a b used size h i k l = omega arith

-- n packets more use their rolls
counted_more : (x a b n used : ℕ) {after : ℕ} → x ≤ max a b + n → a * packet_rolls ≤ used → b * packet_rolls ≤ used → after ≡ used + n * packet_rolls → x * packet_rolls ≤ after
counted_more x a b n used h k l e = omega arith

one_more : (x n used : ℕ) {after : ℕ} → x * packet_rolls ≤ used → 0 < n → after ≡ used + n * packet_rolls → (x + 1) * packet_rolls ≤ after
one_more x n used h k e = omega arith

again_more : (x y n used : ℕ) {after : ℕ} → x * packet_rolls ≤ used → y ≡ x + n → after ≡ used + n * packet_rolls → y * packet_rolls ≤ after
again_more x y n used h e f = omega arith

-- ---- what the calls ask
module _ {t : Timing} {rolls : List Float} {samples now : ℕ} {s : FireState} (g : GoodFire t rolls samples now s) where
  abbrev rolls_used : ℕ
  rolls_used = s.outgoing.forward.path.used

  counted_next : (n : ℕ) → n * packet_rolls ≤ rolls_used → n + 1 < count_limit
  counted_next n h = low_next n rolls_used (length rolls) h g.outgoing.forward.used g.outgoing.forward.doubles.size

  good_sender : GoodSender s.sender (max (window_of s.sender.sender).total_sent (window_of s.sender.sender).retransmissions)
  good_sender = record { state = g.sender; sent = omega arith; again = omega arith }

  pub sender_unbroken : SenderUnbroken s.sender
  sender_unbroken =
      good_unbroken good_sender
      (low_max (window_of s.sender.sender).total_sent (window_of s.sender.sender).retransmissions rolls_used (length rolls) g.counted.sent g.counted.again g.outgoing.forward.used g.outgoing.forward.doubles.size)

  pub backed_off_estimator : GoodEstimator (on_timeout_unchecked s.estimator) samples
  backed_off_estimator =
      let n = back_off_counts s.estimator in
      backed_off s.estimator samples g.estimator (rw n.0 (counted_next s.estimator.stats.timeout_count g.counted.timeouts)) (rw n.1 (counted_next s.estimator.stats.backoff_count g.counted.backoffs))

  module _ (of : Timeout) where
    abbrev after : SenderEnd
    after = (resent s.sender of).after

    abbrev packets : List (List ℕ)
    packets = (resent s.sender of).packets

    again : ResentAs s.sender of
    again = resent_as s.sender of sender_unbroken

    pub after_good : GoodSender after (max (window_of s.sender.sender).total_sent (window_of s.sender.sender).retransmissions + length packets)
    after_good = resent_good s.sender of _ good_sender

    pub can_resend_all : {u : SenderEnd} → u ≡ (resent s.sender of).after → {first count : ℕ} → Within (window_of u.sender) first count → {d : RtoEstimator} → d ≡ on_timeout_unchecked s.estimator
        → CanRetransmitAll t rolls d.current_rto now u first count s.resends s.outgoing
    can_resend_all {u} e w f =
        let same = subst (SameWindow s.sender) (sym e) again.same in
        record {
          good = g.outgoing;
          sender = subst (λ (v : SenderEnd). sender_broken v ≡ false) (sym e) after_good.state.state;
          within = w;
          submitted = g.counted.submitted;
          premature = g.counted.premature;
          rows = rw same.next g.rows;
          timeout = rw f (estimator_rto (on_timeout_unchecked s.estimator) samples backed_off_estimator);
          timers = λ key h. rw (same.base, same.next) (g.timers key h);
          entries = λ i. rw same.size (g.entries i);
        }

    after_within : Within (window_of after.sender) again.first again.count
    after_within = let w = again.within in let same = again.same in record { from = rw same.base w.from; below = rw same.next w.below }

    can_resend : CanRetransmitAll t rolls (on_timeout_unchecked s.estimator).current_rto now after again.first again.count s.resends s.outgoing
    can_resend = can_resend_all refl after_within refl

    packets_count : length packets ≡ again.count
    packets_count = ap length again.packets_are ∙ how_many (window_end after) again.first again.count

-- ---- what is kept, also where the run ends
pub record FireKeeps (rolls : List Float) (now : ℕ) (s s' : FireState) : Type 0 where
  pub window : SameWindow s.sender s'.sender
  pub sender : CleanSender s'.sender
  pub outgoing : GoodOutgoing s'.outgoing rolls now
  pub timers : TimersWithin (window_of s'.sender.sender) s'.outgoing.clock
  pub keeps : SubmitKeeps s.outgoing s'.outgoing
  pub notes : s'.outgoing.metas.notes ≡ s.outgoing.metas.notes
  pub written : s.outgoing.written ≤ s'.outgoing.written
  pub used : s.outgoing.forward.path.used ≤ s'.outgoing.forward.path.used
  pub premature : s'.resends.premature ≤ s'.resends.retx_submitted

module _ {t : Timing} {rolls : List Float} {samples now : ℕ} {s : FireState} (g : GoodFire t rolls samples now s) (limit : ℕ) (of : Timeout) where
  abbrev sent_again : List (List ℕ) → RetransmitExit
  sent_again ps = retransmit_all limit t rolls (on_timeout_unchecked s.estimator).current_rto now (oldest_outstanding (resent s.sender of).after.sender) ps s.resends s.outgoing

  resend_kept : ResendKeeps rolls now (resent s.sender of).after s.outgoing (sent_again (resent s.sender of).packets)
  resend_kept = rw (again g of).packets_are (resend_keeps limit (can_resend g of) (oldest_outstanding (resent s.sender of).after.sender))

  pub timed_out_keeps : FireKeeps rolls now s (timed_out limit t rolls now of s).state
  timed_out_keeps =
      timed_out_by limit t rolls now of s (λ (x : FireExit). FireKeeps rolls now s x.state)
      (λ e.
      record {
        window = (again g of).same;
        sender = (after_good g of).state;
        outgoing = g.outgoing;
        timers = (can_resend g of).timers;
        keeps = keeps_same s.outgoing;
        notes = refl;
        written = omega arith;
        used = omega arith;
        premature = g.counted.premature;
      })
      (λ h.
      let k = resend_kept in
      record {
        window = (again g of).same;
        sender = (after_good g of).state;
        outgoing = k.good;
        timers = k.timers;
        keeps = k.keeps;
        notes = k.notes;
        written = k.written;
        used = k.used;
        premature = k.premature;
      })

  -- ---- while the run goes on and isn't exhausted
  sender_counted : {used : ℕ} → used ≡ s.outgoing.forward.path.used + length (resent s.sender of).packets * packet_rolls
      → ((window_of (resent s.sender of).after.sender).total_sent * packet_rolls ≤ used) × ((window_of (resent s.sender of).after.sender).retransmissions * packet_rolls ≤ used)
  sender_counted e = let v = after_good g of in (counted_more (window_of (resent s.sender of).after.sender).total_sent (window_of s.sender.sender).total_sent (window_of s.sender.sender).retransmissions (length (resent s.sender of).packets) s.outgoing.forward.path.used v.sent g.counted.sent g.counted.again e, counted_more (window_of (resent s.sender of).after.sender).retransmissions (window_of s.sender.sender).total_sent (window_of s.sender.sender).retransmissions (length (resent s.sender of).packets) s.outgoing.forward.path.used v.again g.counted.sent g.counted.again e)

  after_rows : {rows : ℕ} → rows ≡ length s.outgoing.metas.rows → (window_of (resent s.sender of).after.sender).next_seq_num ≤ rows
  after_rows e = rw e (can_resend g of).rows

  after_selective : t ≡ PerNumber → is_selective (resent s.sender of).after.sender.state ≡ true
  after_selective e = (again g of).same.selective ∙ g.selective e

  whole_good : 0 < length (resent s.sender of).packets → is_going (sent_again (resent s.sender of).packets).stop ≡ true → (sent_again (resent s.sender of).packets).resends.exhausted ≡ false
      → GoodFire t rolls samples now (after_resending (resent s.sender of).after (on_timeout_unchecked s.estimator) (sent_again (resent s.sender of).packets)).state
  whole_good some going left =
      let k = resend_kept in
      let n = back_off_counts s.estimator in
      record {
        outgoing = k.good;
        sender = (after_good g of).state;
        estimator = backed_off_estimator g;
        counted = record {
          sent = (sender_counted used_is).0;
          again = (sender_counted used_is).1;
          submitted = again_more s.resends.retx_submitted _ (again g of).count s.outgoing.forward.path.used g.counted.submitted all.submitted all.used;
          premature = k.premature;
          timeouts = rw n.0 (one_more s.estimator.stats.timeout_count (length (resent s.sender of).packets) s.outgoing.forward.path.used g.counted.timeouts some used_is);
          backoffs = rw n.1 (one_more s.estimator.stats.backoff_count (length (resent s.sender of).packets) s.outgoing.forward.path.used g.counted.backoffs some used_is);
        };
        rows = after_rows k.keeps.rows;
        timers = k.timers;
        entries = λ e. rw k.keeps.keys ((can_resend g of).entries e);
        selective = after_selective;
      }
    where
      all : AllSubmitted (again g of).count s.resends s.outgoing (sent_again (resent s.sender of).packets)
      all =
          subst (λ (ps : List (List ℕ)). is_going (sent_again ps).stop ≡ true → (sent_again ps).resends.exhausted ≡ false → AllSubmitted (again g of).count s.resends s.outgoing (sent_again ps)) (sym (again g of).packets_are)
          (all_submitted limit t rolls (on_timeout_unchecked s.estimator).current_rto now (resent s.sender of).after (oldest_outstanding (resent s.sender of).after.sender) (again g of).first (again g of).count s.resends s.outgoing) going left

      used_is : (sent_again (resent s.sender of).packets).outgoing.forward.path.used ≡ s.outgoing.forward.path.used + length (resent s.sender of).packets * packet_rolls
      used_is = all.used ∙ ap (λ (k : ℕ). s.outgoing.forward.path.used + k * packet_rolls) (sym (packets_count g of))

  nothing_good : (resent s.sender of).packets ≡ [] → GoodFire t rolls samples now (fire_state (resent s.sender of).after s.estimator s.resends s.outgoing)
  nothing_good e =
      record {
        outgoing = g.outgoing;
        sender = (after_good g of).state;
        estimator = g.estimator;
        counted = record {
          sent = (sender_counted none).0;
          again = (sender_counted none).1;
          submitted = g.counted.submitted;
          premature = g.counted.premature;
          timeouts = g.counted.timeouts;
          backoffs = g.counted.backoffs;
        };
        rows = after_rows refl;
        timers = (can_resend g of).timers;
        entries = (can_resend g of).entries;
        selective = after_selective;
      }
    where
      none : s.outgoing.forward.path.used ≡ s.outgoing.forward.path.used + length (resent s.sender of).packets * packet_rolls
      none = let z = ap length e in omega (arith, z)

  pub timed_out_good : is_going (timed_out limit t rolls now of s).stop ≡ true → (timed_out limit t rolls now of s).state.resends.exhausted ≡ false → GoodFire t rolls samples now (timed_out limit t rolls now of s).state
  timed_out_good =
      timed_out_by limit t rolls now of s (λ (x : FireExit). is_going x.stop ≡ true → x.state.resends.exhausted ≡ false → GoodFire t rolls samples now x.state) (λ e going left. nothing_good e) whole_good

-- ---- the single timer
module _ {t : Timing} {rolls : List Float} {samples now : ℕ} {s : FireState} (g : GoodFire t rolls samples now s) where
  abbrev single : FireState
  single = with_clock s (stopped s.outgoing.clock)

  stopped_clock : clock.Good (window_of s.sender.sender).send_base (window_of s.sender.sender).next_seq_num (stopped s.outgoing.clock)
  stopped_clock =
      let c = s.outgoing.clock in
      let h = g.outgoing.clock in
      cancel_good _ _ c.answer c.keys c.deadlines (record { held = record { timer = h.timer; state = h.state; times = h.times }; window = record { bounds = g.timers } })

  pub stopped_good : GoodFire t rolls samples now (with_clock s (stopped s.outgoing.clock))
  stopped_good =
      record {
        outgoing = record { forward = g.outgoing.forward; notes = g.outgoing.notes; scheduled = g.outgoing.scheduled; clock = stopped_clock.held; events = g.outgoing.events };
        sender = g.sender;
        estimator = g.estimator;
        counted = g.counted;
        rows = g.rows;
        timers = stopped_clock.window.bounds;
        entries = g.entries;
        selective = g.selective;
      }

  module _ (limit : ℕ) where
    pub fire_single_good : is_going (fire_single limit t rolls now s).stop ≡ true → (fire_single limit t rolls now s).state.resends.exhausted ≡ false → GoodFire t rolls samples now (fire_single limit t rolls now s).state
    fire_single_good = timed_out_good stopped_good limit (timeout_of t)

    pub fire_single_keeps : FireKeeps rolls now s (fire_single limit t rolls now s).state
    fire_single_keeps =
        let k = timed_out_keeps stopped_good limit (timeout_of t) in
        record {
          window = k.window;
          sender = k.sender;
          outgoing = k.outgoing;
          timers = k.timers;
          keeps = record { forward = k.keeps.forward; rows = k.keeps.rows; events = k.keeps.events; keys = k.keeps.keys; deadlines = k.keeps.deadlines };
          notes = k.notes;
          written = k.written;
          used = k.used;
          premature = k.premature;
        }

-- ---- what the functions ask, of a state that can be fired
module _ {t : Timing} {rolls : List Float} {now : ℕ} {s : FireState} (can : CanFire t rolls now s) where
  pub fire_unbroken_sender : SenderUnbroken s.sender
  fire_unbroken_sender = sender_unbroken can.good

  pub fire_can_back_off : (counts_full s.estimator.stats ≡ false) × (s.estimator.current_rto ≤ max_duration)
  fire_can_back_off = can_back_off s.estimator can.samples can.good.estimator can.few

  pub fire_can_resend : (of : Timeout) {u : SenderEnd} {first count : ℕ} → Within (window_of u.sender) first count → resent_numbers u first count ≡ resent s.sender of → {d : RtoEstimator} → d ≡ on_timeout_unchecked s.estimator
      → CanRetransmitAll t rolls d.current_rto now u first count s.resends s.outgoing
  fire_can_resend of w e f = can_resend_all can.good of (ap (λ (x : Resent). x.after) e) w f

  pub fire_timer_held : deadline_too_late (timer_of s.outgoing.clock).deadline ≡ false
  fire_timer_held = can.good.outgoing.clock.timer

  pub fire_none : (limit : ℕ) (of : Timeout) {u : SenderEnd} {first count : ℕ} → Within (window_of u.sender) first count → resent_numbers u first count ≡ resent s.sender of → count ≡ 0 → fire_exit (fire_state u s.estimator s.resends s.outgoing) true (None) ≡ timed_out limit t rolls now of s
  fire_none limit of w e z = timed_out_none limit t rolls now of s w e z

  pub fire_some : (limit : ℕ) (of : Timeout) {u : SenderEnd} {first count : ℕ} → Within (window_of u.sender) first count → resent_numbers u first count ≡ resent s.sender of → (count ≡ 0 → ⊥) → {d : RtoEstimator} → d ≡ on_timeout_unchecked s.estimator → {y : RetransmitExit}
      → y ≡ retransmit_all limit t rolls d.current_rto now (oldest_outstanding u.sender) (packets_from u first count) s.resends s.outgoing → after_resending u d y ≡ timed_out limit t rolls now of s
  fire_some limit of w e z f i = timed_out_some limit t rolls now of s w e z f i

  -- with the single timer stopped
  module _ {k : Clock} (e : k ≡ cancel s.outgoing.clock.answer) where
    pub fire_can_single : CanFire t rolls now (with_clock s (timers_exit k s.outgoing.clock.keys s.outgoing.clock.deadlines))
    fire_can_single = rw e (record { samples = can.samples; few = can.few; good = stopped_good can.good })

    pub fire_single_is : (limit : ℕ) {of : Timeout} → of ≡ timeout_of t → {x : FireExit} → x ≡ timed_out limit t rolls now of (with_clock s (timers_exit k s.outgoing.clock.keys s.outgoing.clock.deadlines)) → x ≡ fire_single limit t rolls now s
    fire_single_is limit f d = d ∙ rw (e, f)
