-- What each rule keeps of a run's timer, RTO and retries, over plain states.
use Rattle.std.specs.Prelude.{None, Option, Some}
use Prim.Native.Nat.{ℕ, ◌+◌, ◌-◌, ◌*◌, ◌≤◌, ◌<◌, min}
use native.Mathlib.Omega.{arith}
use native.Mathlib.Nat.{le_trans, mul-le-mul_right}
use mathlib.Core.Path.{◌≡◌, refl, sym, ap, ◌∙◌, subst}
use mathlib.Core.Bool.{Bool, true, false, true≢false}
use mathlib.Core.Logic.{◌⊎◌, inl, inr, ⊎_elim}
use mathlib.Core.List.{List, [], ◌∷◌, ◌++◌}
use lib.Dec.{leb}
use borrow.Author.Tests.{leb-true, leb-false}
use Rattle.timer.specs.Timer.{active, expired_at}
use Rattle.rto.specs.declared.RtoEstimator.{RtoEstimator}
use Rattle.clock.specs.Clock.{ClockState, timer_of}
use Rattle.session.specs.Sending.{SenderEnd, has_outstanding}
use Rattle.edition_clock.specs.Section5.{RtoTimer, rto_timer, min_rto, max_rto, started, on_sent, on_new_ack, on_expiry, Follows, none, sent, acked, sampled, expired, idle}
use Rattle.edition_clock.specs.AlongARun.{timer_with}
use Rattle.edition_clock.proofs.Senders.{retries_of, LimitIs, Fresh}
use Rattle.edition_clock.proofs.Expiry.{EditionLimits}
use Rattle.edition_clock.proofs.Estimates.{Estimated, estimated_start, Unsampled, estimated_same, estimated_more, Sampling, without, with_sample}

-- ---- deadlines
same_time : {a b : ℕ} → Some a ≡ Some b → a ≡ b
same_time e = cc

at_unset : {a : ℕ} → None ≡ Some a → ⊥
at_unset e = let z : ◌≡◌ {A = ℕ} 0 1 = cc in omega arith

-- the timer is set to expire after the RTO
module _ (now rto : ℕ) {x : Option ℕ} (e : x ≡ Some (now + rto)) where
  set_active : active x ≡ true
  set_active = rw e

  set_not_overdue : (d : ℕ) → x ≡ Some d → now ≤ d
  set_not_overdue d f = let k = same_time (sym e ∙ f) in omega arith

  set_not_far : (d : ℕ) → x ≡ Some d → d ≤ now + rto
  set_not_far d f = let k = same_time (sym e ∙ f) in omega arith

  set_least : (n : ℕ) → n ≤ now + rto → (d : ℕ) → x ≡ Some d → n ≤ d
  set_least n h d f = let k = same_time (sym e ∙ f) in omega arith

-- (5.1) leaves a timer that runs, and sets one that doesn't
sent_cases : (x y : Option ℕ) (now rto : ℕ) → rto_timer y rto ≡ on_sent now (rto_timer x rto) → ((y ≡ x) × (active x ≡ true)) ⊎ (y ≡ Some (now + rto))
sent_cases None y now rto e = inr (ap (λ (t : RtoTimer). t.deadline) e)
sent_cases (Some d) y now rto e = inl (ap (λ (t : RtoTimer). t.deadline) e, refl)

-- an ACK of new data sets it, also the last one
ack_starts : (outstanding : Bool) (now rto : ℕ) → on_new_ack outstanding now rto ≡ started now rto
ack_starts true now rto = refl
ack_starts false now rto = refl

-- an expiry was due
due_at : (x : Option ℕ) (now : ℕ) → expired_at x now ≡ true → {P : Type 0} → ((d : ℕ) → x ≡ Some d → d ≤ now → P) → P
due_at None now e p = absurd (true≢false (sym e))
due_at (Some d) now e p = p d refl (leb-true d now e)

-- ---- a moment: what the rules look at and count
pub record Moment : Type 0 where
  pub sender : SenderEnd
  pub estimator : RtoEstimator
  pub clock : ClockState
  pub written : ℕ
  pub again : ℕ
  pub received : ℕ
  pub duplicates : ℕ

abbrev pub moment : SenderEnd → RtoEstimator → ClockState → ℕ → ℕ → ℕ → ℕ → Moment
moment v e c written again received duplicates = record { sender = v; estimator = e; clock = c; written = written; again = again; received = received; duplicates = duplicates }

abbrev pub timer_on : Moment → RtoTimer
timer_on m = timer_with m.clock m.estimator.current_rto

-- `limit` is Stop-and-Wait's on its retries, which are packets sent again; at most one a second is, since the timer is never
-- set for less
pub record Kept (limit now : ℕ) (m : Moment) : Type 0 where
  pub limits : EditionLimits m.estimator.config
  pub low : min_rto ≤ m.estimator.current_rto
  pub high : m.estimator.current_rto ≤ max_rto
  pub runs : has_outstanding m.sender.sender ≡ true → active (timer_of m.clock).deadline ≡ true
  pub not_overdue : (d : ℕ) → (timer_of m.clock).deadline ≡ Some d → now ≤ d
  pub not_far : (d : ℕ) → (timer_of m.clock).deadline ≡ Some d → d ≤ now + m.estimator.current_rto
  pub limit_is : LimitIs limit m.sender.sender.state
  pub retries : retries_of m.sender.sender.state ≤ m.again
  pub paced : m.again * min_rto ≤ now
  pub spaced : (d : ℕ) → (timer_of m.clock).deadline ≡ Some d → (m.again + 1) * min_rto ≤ d

-- the rules that led to it from the timer x, with what was counted on the way
pub record Chain (now : ℕ) (from m : Moment) : Type 0 where
  pub packets : ℕ
  pub resent : ℕ
  pub acks : ℕ
  pub rtos : List ℕ
  pub follows : Follows now (timer_on from) (timer_on m) packets resent acks rtos
  pub estimated : Estimated now from.estimator m.estimator rtos
  pub written : m.written ≡ from.written + packets
  pub again : m.again ≡ from.again + resent
  pub acknowledged : m.received - m.duplicates ≡ from.received - from.duplicates + acks
  pub fewer : m.duplicates ≤ m.received

pub record Along (limit now : ℕ) (from m : Moment) : Type 0 where
  pub kept : Kept limit now m
  pub chain : Chain now from m

pub along_start : {limit now : ℕ} {m : Moment} → Kept limit now m → m.duplicates ≤ m.received → Along limit now m m
along_start {now = now} {m = m} k f = record { kept = k; chain = record { packets = 0; resent = 0; acks = 0; rtos = []; follows = none; estimated = estimated_start now m.estimator; written = omega arith; again = omega arith; acknowledged = omega arith; fewer = f } }

-- ---- numbers
no_retries : {n m : ℕ} → n ≡ 0 → n ≤ m
no_retries e = omega arith

one_retry : {r s n m : ℕ} → s ≤ r + 1 → r ≤ n → m ≡ n + 1 → s ≤ m
one_retry h k e = omega arith

next_spaced : (n m now rto : ℕ) → n * m ≤ now → m ≤ rto → (n + 1) * m ≤ now + rto
next_spaced n m now rto h k = omega arith

pub doubled_low : (rto : ℕ) → min_rto ≤ rto → min_rto ≤ min (2 * rto) max_rto
doubled_low rto h = omega arith

ack_more : (r d r₀ d₀ acks : ℕ) → r - d ≡ r₀ - d₀ + acks → d ≤ r → r + 1 - d ≡ r₀ - d₀ + (acks + 1)
ack_more r d r₀ d₀ acks e h = omega arith

ack_again : (r d r₀ d₀ acks : ℕ) → r - d ≡ r₀ - d₀ + acks → d ≤ r → r + 1 - (d + 1) ≡ r₀ - d₀ + acks
ack_again r d r₀ d₀ acks e h = omega arith

plus_one : (a b c : ℕ) {d : ℕ} → a ≡ b + c → d ≡ a + 1 → d ≡ b + (c + 1)
plus_one a b c e f = omega arith

-- below a limit that the time doesn't reach
spaced_few : (r n m d now limit most : ℕ) → r ≤ n → (n + 1) * m ≤ d → d ≤ now → now ≤ most → most < limit * m → r < limit
spaced_few r n m d now limit most f h i j k = by_test_lem (leb limit r) refl
  where
    by_test_lem : (b : Bool) → leb limit r ≡ b → r < limit
    by_test_lem true e = let l = leb-true limit r e in let p = mul-le-mul_right m (le_trans l f) in absurd (omega arith)
    by_test_lem false e = leb-false limit r e

-- ---- the rules
module _ {limit now : ℕ} {from m : Moment} (a : Along limit now from m) where
  -- (5.3), and the departure from (5.2)
  pub ack_along : (v : SenderEnd) (e : RtoEstimator) (c : ClockState) → Fresh limit v.sender.state → EditionLimits e.config → min_rto ≤ e.current_rto → e.current_rto ≤ max_rto
      → Sampling now m.estimator e → (outstanding : Bool) → timer_with c e.current_rto ≡ on_new_ack outstanding now e.current_rto → Along limit now from (moment v e c m.written m.again (m.received + 1) m.duplicates)
  ack_along v e c f l low high how outstanding t =
      let rto = e.current_rto in
      let s : (timer_of c).deadline ≡ Some (now + e.current_rto) = ap (λ (x : RtoTimer). x.deadline) (t ∙ ack_starts outstanding now e.current_rto) in
      record {
        kept = record {
          limits = l;
          low = low;
          high = high;
          runs = λ o. set_active now rto s;
          not_overdue = set_not_overdue now rto s;
          not_far = set_not_far now rto s;
          limit_is = f.limit_is;
          retries = no_retries f.retries;
          paced = a.kept.paced;
          spaced = set_least now rto s _ (next_spaced m.again min_rto now rto a.kept.paced low);
        };
        chain = by_sampling how;
      }
    where
      then : Moment
      then = moment v e c m.written m.again (m.received + 1) m.duplicates

      chained : (rtos : List ℕ) → Follows now (timer_on from) (timer_on then) a.chain.packets a.chain.resent (a.chain.acks + 1) rtos → Estimated now from.estimator e rtos → Chain now from then
      chained rtos follows estimated =
          let h = a.chain in
          record {
            packets = h.packets;
            resent = h.resent;
            acks = h.acks + 1;
            rtos = rtos;
            follows = follows;
            estimated = estimated;
            written = h.written;
            again = h.again;
            acknowledged = ack_more m.received m.duplicates from.received from.duplicates h.acks h.acknowledged h.fewer;
            fewer = let g = h.fewer in omega (arith, g);
          }

      by_sampling : Sampling now m.estimator e → Chain now from then
      by_sampling (without u r) =
          let h = a.chain in
          chained h.rtos (subst (λ (x : RtoTimer). Follows now (timer_on from) x h.packets h.resent (h.acks + 1) h.rtos) (sym (t ∙ ap (on_new_ack outstanding now) r)) (acked outstanding h.follows)) (estimated_same h.estimated u)
      by_sampling (with_sample age l is) =
          let h = a.chain in
          chained (h.rtos ++ e.current_rto ∷ []) (subst (λ (x : RtoTimer). Follows now (timer_on from) x h.packets h.resent (h.acks + 1) (h.rtos ++ e.current_rto ∷ [])) (sym t) (sampled outstanding e.current_rto h.follows))
          (subst (λ (y : RtoEstimator). Estimated now from.estimator y (h.rtos ++ y.current_rto ∷ [])) (sym is) (estimated_more h.estimated age l))

  pub duplicate_along : Along limit now from (moment m.sender m.estimator m.clock m.written m.again (m.received + 1) (m.duplicates + 1))
  duplicate_along =
      let k = a.kept in
      let h = a.chain in
      record {
        kept = record { limits = k.limits; low = k.low; high = k.high; runs = k.runs; not_overdue = k.not_overdue; not_far = k.not_far; limit_is = k.limit_is; retries = k.retries; paced = k.paced; spaced = k.spaced };
        chain = record {
          packets = h.packets;
          resent = h.resent;
          acks = h.acks;
          rtos = h.rtos;
          follows = h.follows;
          estimated = h.estimated;
          written = h.written;
          again = h.again;
          acknowledged = ack_again m.received m.duplicates from.received from.duplicates h.acks h.acknowledged h.fewer;
          fewer = let g = h.fewer in omega (arith, g);
        };
      }

  -- (5.1), of a new chunk
  pub sent_along : (v : SenderEnd) (c : ClockState) (written : ℕ) → Fresh limit v.sender.state → timer_with c m.estimator.current_rto ≡ on_sent now (timer_on m) → written ≡ m.written + 1
      → Along limit now from (moment v m.estimator c written m.again m.received m.duplicates)
  sent_along v c written f t w =
      record {
        kept = ⊎_elim same set (sent_cases (timer_of m.clock).deadline (timer_of c).deadline now m.estimator.current_rto t);
        chain = record {
          packets = a.chain.packets + 1;
          resent = a.chain.resent;
          acks = a.chain.acks;
          rtos = a.chain.rtos;
          follows = subst (λ (x : RtoTimer). Follows now (timer_on from) x (a.chain.packets + 1) a.chain.resent a.chain.acks a.chain.rtos) (sym t) (sent a.chain.follows);
          estimated = a.chain.estimated;
          written = plus_one m.written from.written a.chain.packets a.chain.written w;
          again = a.chain.again;
          acknowledged = a.chain.acknowledged;
          fewer = a.chain.fewer;
        };
      }
    where
      then : Moment
      then = moment v m.estimator c written m.again m.received m.duplicates

      same : ((timer_of c).deadline ≡ (timer_of m.clock).deadline) × (active (timer_of m.clock).deadline ≡ true) → Kept limit now then
      same e =
          let k = a.kept in
          record {
            limits = k.limits;
            low = k.low;
            high = k.high;
            runs = λ o. ap active e.0 ∙ e.1;
            not_overdue = λ d g. k.not_overdue d (sym e.0 ∙ g);
            not_far = λ d g. k.not_far d (sym e.0 ∙ g);
            limit_is = f.limit_is;
            retries = no_retries f.retries;
            paced = k.paced;
            spaced = λ d g. k.spaced d (sym e.0 ∙ g);
          }

      set : (timer_of c).deadline ≡ Some (now + m.estimator.current_rto) → Kept limit now then
      set e =
          let k = a.kept in
          record {
            limits = k.limits;
            low = k.low;
            high = k.high;
            runs = λ o. set_active now m.estimator.current_rto e;
            not_overdue = set_not_overdue now m.estimator.current_rto e;
            not_far = set_not_far now m.estimator.current_rto e;
            limit_is = f.limit_is;
            retries = no_retries f.retries;
            paced = k.paced;
            spaced = set_least now m.estimator.current_rto e _ (next_spaced m.again min_rto now m.estimator.current_rto k.paced k.low);
          }

  -- an expiry is a second after the last at least
  pub expiry_served : expired_at (timer_of m.clock).deadline now ≡ true → (m.again + 1) * min_rto ≤ now
  expiry_served x = due_at (timer_of m.clock).deadline now x (λ d p q. le_trans (a.kept.spaced d p) q)

  -- (5.4) to (5.6)
  pub expired_along : (v : SenderEnd) (e : RtoEstimator) (c : ClockState) (written again : ℕ) → expired_at (timer_of m.clock).deadline now ≡ true → LimitIs limit v.sender.state
      → retries_of v.sender.state ≤ retries_of m.sender.sender.state + 1 → EditionLimits e.config → Unsampled m.estimator e → timer_with c e.current_rto ≡ on_expiry now (timer_on m) → written ≡ m.written + 1 → again ≡ m.again + 1
      → Along limit now from (moment v e c written again m.received m.duplicates)
  expired_along v e c written again x i r l u t w g =
      let doubled = min (2 * m.estimator.current_rto) max_rto in
      let rto : e.current_rto ≡ min (2 * m.estimator.current_rto) max_rto = ap (λ (y : RtoTimer). y.rto) t in
      let s : (timer_of c).deadline ≡ Some (now + min (2 * m.estimator.current_rto) max_rto) = ap (λ (y : RtoTimer). y.deadline) t in
      let least = doubled_low m.estimator.current_rto a.kept.low in
      let served = expiry_served x in
      let most : min (2 * m.estimator.current_rto) max_rto ≤ max_rto = omega arith in
      record {
        kept = record {
          limits = l;
          low = rw rto least;
          high = rw rto most;
          runs = λ o. set_active now doubled s;
          not_overdue = set_not_overdue now doubled s;
          not_far = rw rto (set_not_far now doubled s);
          limit_is = i;
          retries = one_retry r a.kept.retries g;
          paced = rw g served;
          spaced = rw g (set_least now doubled s _ (next_spaced (m.again + 1) min_rto now doubled served least));
        };
        chain = record {
          packets = a.chain.packets + 1;
          resent = a.chain.resent + 1;
          acks = a.chain.acks;
          rtos = a.chain.rtos;
          follows = subst (λ (y : RtoTimer). Follows now (timer_on from) y (a.chain.packets + 1) (a.chain.resent + 1) a.chain.acks a.chain.rtos) (sym t) (expired x a.chain.follows);
          estimated = estimated_same a.chain.estimated u;
          written = plus_one m.written from.written a.chain.packets a.chain.written w;
          again = plus_one m.again from.again a.chain.resent a.chain.again g;
          acknowledged = a.chain.acknowledged;
          fewer = a.chain.fewer;
        };
      }

  -- and with nothing outstanding
  pub idle_along : (c : ClockState) → expired_at (timer_of m.clock).deadline now ≡ true → has_outstanding m.sender.sender ≡ false → (timer_of c).deadline ≡ None
      → Along limit now from (moment m.sender m.estimator c m.written m.again m.received m.duplicates)
  idle_along c x o u =
      let k = a.kept in
      let h = a.chain in
      record {
        kept = record {
          limits = k.limits;
          low = k.low;
          high = k.high;
          runs = λ p. absurd (true≢false (sym p ∙ o));
          not_overdue = λ d g. absurd (at_unset (sym u ∙ g));
          not_far = λ d g. absurd (at_unset (sym u ∙ g));
          limit_is = k.limit_is;
          retries = k.retries;
          paced = k.paced;
          spaced = λ d g. absurd (at_unset (sym u ∙ g));
        };
        chain = record {
          packets = h.packets;
          resent = h.resent;
          acks = h.acks;
          rtos = h.rtos;
          follows = subst (λ (y : Option ℕ). Follows now (timer_on from) (rto_timer y m.estimator.current_rto) h.packets h.resent h.acks h.rtos) (sym u) (idle x h.follows);
          estimated = h.estimated;
          written = h.written;
          again = h.again;
          acknowledged = h.acknowledged;
          fewer = h.fewer;
        };
      }

  -- so the limit isn't met
  pub retries_left : (most : ℕ) → expired_at (timer_of m.clock).deadline now ≡ true → now ≤ most → most < limit * min_rto → retries_of m.sender.sender.state < limit
  retries_left most x h p =
      due_at (timer_of m.clock).deadline now x (λ d e q. spaced_few (retries_of m.sender.sender.state) m.again min_rto d now limit most a.kept.retries (a.kept.spaced d e) q h p)

-- a later moment, not past the deadline
pub kept_later : {limit now : ℕ} {m : Moment} → Kept limit now m → (later : ℕ) → now ≤ later → ((d : ℕ) → (timer_of m.clock).deadline ≡ Some d → later ≤ d) → Kept limit later m
kept_later {now = now} {m = m} k later h p =
    record {
      limits = k.limits;
      low = k.low;
      high = k.high;
      runs = k.runs;
      not_overdue = p;
      not_far = λ d e. far d now later m.estimator.current_rto (k.not_far d e) h;
      limit_is = k.limit_is;
      retries = k.retries;
      paced = le_trans k.paced h;
      spaced = k.spaced;
    }
  where
    far : (d now later most : ℕ) → d ≤ now + most → now ≤ later → d ≤ later + most
    far d now later most f g = omega arith
