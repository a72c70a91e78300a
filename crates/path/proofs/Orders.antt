-- The orders given out: below a counter's limit, and they rise together with the copies that wait.
use Prim.Native.Nat.{ℕ, ◌+◌, ◌<◌}
use native.Mathlib.Omega.{arith}
use mathlib.Core.Path.{◌≡◌, refl}
use mathlib.Core.Bool.{Bool}
use mathlib.Core.List.{List}
use lib.Ieee.{Float}
use borrow.Author.Tests.{leb-false}
use Rattle.bounds.specs.Bounds.{count_limit}
use Rattle.schedule.specs.State.{Schedule}
use Rattle.schedule.specs.Schedule.{put_copy, schedule_at_unchecked}
use Rattle.schedule.specs.declared.Deliveries.{Deliveries}
use Rattle.schedule.specs.declared.Deliveries.TheVariants.{Lost, One, Two}
use Rattle.path.specs.Direction.{Direction, schedule_of, Good}
use Rattle.path.specs.Path.{left_by_carry, carry}
use Rattle.path.proofs.Packets.{orders_below}
use Rattle.path.proofs.Answers.{granted, copy_bytes, by_left}

pub record RiseAlike (d after : Direction) : Type 0 where
  pub alike : after.path.scheduler.count + d.path.scheduler.next_order ≡ d.path.scheduler.count + after.path.scheduler.next_order

pub rise_same : (d : Direction) → RiseAlike d d
rise_same d = record { alike = refl }

pub rise_then : {a b c : Direction} → RiseAlike a b → RiseAlike b c → RiseAlike a c
rise_then p q = record { alike = both _ _ _ _ _ _ p.alike q.alike }
  where
    both : (k n l o m r : ℕ) → l + n ≡ k + o → m + o ≡ l + r → m + n ≡ k + r
    both k n l o m r p q = omega arith

put_orders : (m : Schedule) (now : ℕ) (packet : List ℕ) (ds : Deliveries)
    → (schedule_at_unchecked m now packet ds).scheduler.count + m.scheduler.next_order ≡ m.scheduler.count + (schedule_at_unchecked m now packet ds).scheduler.next_order
unfolding schedule_at_unchecked put_copy
put_orders m now packet Lost = refl
put_orders m now packet (One d) = omega arith
put_orders m now packet (Two d e) = omega arith

pub carry_orders : (d : Direction) (rolls : List Float) (entry_free : Bool) (now : ℕ) (wire : List ℕ) → RiseAlike d (left_by_carry (carry d rolls entry_free now wire))
carry_orders d rolls entry_free now wire =
    by_left d rolls entry_free now wire (RiseAlike d) (rise_same d)
    (λ f. record { alike = put_orders (schedule_of d) now (copy_bytes d rolls wire) (granted d rolls) })

pub orders_low : (d : Direction) (rolls : List Float) → Good d rolls → d.path.scheduler.next_order < count_limit
orders_low d rolls good = leb-false count_limit d.path.scheduler.next_order (orders_below d rolls good)
