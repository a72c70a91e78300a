-- RFC 6298, section 5, over what its rules speak of: the timer, which runs while it has a deadline, and the RTO. How an
-- RTO comes of a sample is section 2's. Document 01, "The edition clock", departs from (5.2).
use Rattle.std.specs.Prelude.{ℕ, ◌+◌, ◌*◌, min, ◌≡◌, Bool, true, cond, List, [], ◌∷◌, ◌++◌, None, Option, Some}
use Rattle.timer.specs.Timer.{active, expired_at}

pub record RtoTimer : Type 0 where
  pub deadline : Option ℕ
  pub rto : ℕ

abbrev pub rto_timer : Option ℕ → ℕ → RtoTimer
rto_timer d rto = record { deadline = d; rto = rto }

-- in nanoseconds: 1 s, the minimum of (2.4), and 60 s, the least maximum that (2.5) allows
abbrev pub min_rto : ℕ
min_rto = 1000000000

abbrev pub max_rto : ℕ
max_rto = 60000000000

-- to expire after the RTO
abbrev pub started : ℕ → ℕ → RtoTimer
started now rto = rto_timer (Some (now + rto)) rto

-- (5.1): a packet with data is sent, for the first time or again
abbrev pub on_sent : ℕ → RtoTimer → RtoTimer
on_sent now x = cond (active x.deadline) x (started now x.rto)

-- An ACK of new data; `rto` is the current RTO, after its sample if it gives one. (5.2) turns the timer off where
-- nothing is left outstanding; document 01 restarts it there too.
abbrev pub on_last_ack : ℕ → ℕ → RtoTimer
on_last_ack now rto = started now rto

-- (5.3), and (5.2)
abbrev pub on_new_ack : Bool → ℕ → ℕ → RtoTimer
on_new_ack outstanding now rto = cond outstanding (started now rto) (on_last_ack now rto)

-- (5.5), (5.6): the RTO is doubled, at most to the maximum, and the timer started with it. (5.4) sends a packet.
abbrev pub on_expiry : ℕ → RtoTimer → RtoTimer
on_expiry now x = started now (min (2 * x.rto) max_rto)

-- document 01: an expiry with nothing outstanding only stops the timer
abbrev pub on_idle_expiry : RtoTimer → RtoTimer
on_idle_expiry x = rto_timer None x.rto

-- The rules lead from x to another timer, all at the moment `now`, with so many packets sent, so many of them again by
-- (5.4), so many ACKs of new data, and the RTOs that their samples gave, oldest first.
pub data Follows (now : ℕ) (x : RtoTimer) : RtoTimer → ℕ → ℕ → ℕ → List ℕ → Type 0 where
  none : Follows now x x 0 0 0 []
  sent : {y : RtoTimer} {packets again acks : ℕ} {rtos : List ℕ} → Follows now x y packets again acks rtos
      → Follows now x (on_sent now y) (packets + 1) again acks rtos
  -- without a sample, or with one that Karn's algorithm rejects
  acked : {y : RtoTimer} {packets again acks : ℕ} {rtos : List ℕ} (outstanding : Bool)
      → Follows now x y packets again acks rtos
      → Follows now x (on_new_ack outstanding now y.rto) packets again (acks + 1) rtos
  sampled : {y : RtoTimer} {packets again acks : ℕ} {rtos : List ℕ} (outstanding : Bool) (rto : ℕ)
      → Follows now x y packets again acks rtos
      → Follows now x (on_new_ack outstanding now rto) packets again (acks + 1) (rtos ++ rto ∷ [])
  expired : {y : RtoTimer} {packets again acks : ℕ} {rtos : List ℕ} → expired_at y.deadline now ≡ true
      → Follows now x y packets again acks rtos
      → Follows now x (on_expiry now y) (packets + 1) (again + 1) acks rtos
  idle : {y : RtoTimer} {packets again acks : ℕ} {rtos : List ℕ} → expired_at y.deadline now ≡ true
      → Follows now x y packets again acks rtos → Follows now x (on_idle_expiry y) packets again acks rtos
