-- When a run is completed: at the datagram that brings the receiver's base to the number of chunks, and from then on.
use Prim.Native.Nat.{ℕ, ◌≤◌, ◌<◌}
use mathlib.Core.Path.{◌≡◌, refl, sym, ap, ◌∙◌}
use mathlib.Core.Bool.{Bool, true, false, cond, not, ◌||◌, true≢false}
use mathlib.Core.List.{List}
use native.Mathlib.Omega.{arith}
use lib.Dec.{ltb}
use lib.Ieee.{Float}
use borrow.Author.Tests.{ltb-true, ltb-false, lt-ltb}
use Rattle.session.specs.Receiving.{base}
use Rattle.session.specs.declared.Receiver.{Receiver}
use Rattle.receiving.specs.Receiving.{Inbound, ForwardExit, new_side, ack_counted, completed_at, absorb, submit_ack, handled, received, on_forward}
use Rattle.receiving.specs.declared.ReceivingSide.{ReceivingSide}
use Rattle.receiving.proofs.Kept.{counted, rises, data_received, forward_either}

-- a side and the side after it, at a moment: once completed it stays so, with the moment at which it was
pub record Completes (total now : ℕ) (x after : ReceivingSide) : Type 0 where
  pub higher : base x.receiver ≤ base after.receiver
  pub stays : x.completed ≡ true → (after.completed ≡ true) × (after.completed_at ≡ x.completed_at)
  pub moment : x.completed ≡ false → after.completed ≡ true → (after.completed_at ≡ now) × (total ≤ base after.receiver)
  pub before : after.completed ≡ false → after.completed_at ≡ x.completed_at

-- completed exactly where all chunks are delivered
abbrev pub CompletedIs : ℕ → ReceivingSide → Type 0
CompletedIs total x = x.completed ≡ not (ltb (base x.receiver) total)

contrary : {A : Type 0} {c : Bool} → c ≡ true → c ≡ false → A
contrary p q = absurd (true≢false (sym p ∙ q))

pub completes_same : (total now : ℕ) (x : ReceivingSide) → Completes total now x x
completes_same total now x = record { higher = omega arith; stays = λ t. (t, refl); moment = λ t u. contrary u t; before = λ t. refl }

pub completes_then : {total now : ℕ} {x y z : ReceivingSide} → Completes total now x y → Completes total now y z → Completes total now x z
completes_then {total} {now} {x} {y} {z} p q =
    record {
      higher = omega (arith, p.higher, q.higher);
      stays = λ t. let m = p.stays t in let n = q.stays m.0 in (n.0, n.1 ∙ m.1);
      moment = λ t u. by_middle y.completed refl t u;
      before = λ t. not_yet y.completed refl t;
    }
  where
    by_middle : (c : Bool) → y.completed ≡ c → x.completed ≡ false → z.completed ≡ true → (z.completed_at ≡ now) × (total ≤ base z.receiver)
    by_middle true e t u = let m = p.moment t e in let n = q.stays e in (n.1 ∙ m.0, omega (arith, m.1, q.higher))
    by_middle false e t u = q.moment e u

    not_yet : (c : Bool) → y.completed ≡ c → z.completed ≡ false → z.completed_at ≡ x.completed_at
    not_yet true e t = contrary (q.stays e).0 t
    not_yet false e t = q.before t ∙ p.before e

-- an ACK changes none of it
ack_completes : {total now : ℕ} {x y : ReceivingSide} → Completes total now x y → Completes total now x (ack_counted y)
ack_completes m = record { higher = m.higher; stays = m.stays; moment = m.moment; before = m.before }

-- ---- `absorb`
absorb_completes : (total now : ℕ) (x y : ReceivingSide) → base x.receiver ≤ base y.receiver → y.completed ≡ x.completed → y.completed_at ≡ x.completed_at → Completes total now x (absorb total now y)
unfolding absorb
absorb_completes total now x y h e f = by_tests y.completed (ltb (base y.receiver) total) refl (ltb-false _ _)
  where
    by_tests : (c l : Bool) → y.completed ≡ c → (l ≡ false → total ≤ base y.receiver) → Completes total now x (cond (c || l) y (completed_at y now))
    by_tests true l p q = record { higher = h; stays = λ t. (p, f); moment = λ t u. contrary p (e ∙ t); before = λ t. f }
    by_tests false true p q = record { higher = h; stays = λ t. contrary t (sym e ∙ p); moment = λ t u. contrary u p; before = λ t. f }
    by_tests false false p q = record { higher = h; stays = λ t. contrary t (sym e ∙ p); moment = λ t u. (refl, q refl); before = λ t. contrary refl t }

absorb_completed : (total now : ℕ) (x : ReceivingSide) → (absorb total now x).completed ≡ (x.completed || not (ltb (base x.receiver) total))
unfolding absorb
absorb_completed total now x = by_tests x.completed (ltb (base x.receiver) total) refl
  where
    by_tests : (c l : Bool) → x.completed ≡ c → (cond (c || l) x (completed_at x now)).completed ≡ (c || not l)
    by_tests true l e = e
    by_tests false true e = e
    by_tests false false e = refl

-- ---- Data
module _ (total now : ℕ) (raw : List ℕ) (b : Inbound) where
  received_completes : Completes total now b.side (received total now raw b).side
  unfolding received
  received_completes = absorb_completes total now b.side (counted raw b) (rises raw b).higher refl refl

  handled_completed : (received total now raw b).side.completed ≡ (b.side.completed || not (ltb (base (handled raw b).receiver.receiver) total))
  unfolding received
  handled_completed = absorb_completed total now (counted raw b)

  pub received_completed : (received total now raw b).side.completed ≡ (b.side.completed || not (ltb (base (received total now raw b).side.receiver) total))
  received_completed = handled_completed ∙ ap (λ (r : Receiver). b.side.completed || not (ltb (base r) total)) (sym (data_received total now raw b).receiver)

  received_is : CompletedIs total b.side → CompletedIs total (received total now raw b).side
  received_is e = received_completed ∙ by_test_lem b.side.completed (ltb (base b.side.receiver) total) (ltb (base (received total now raw b).side.receiver) total) e (ltb-false _ _) (ltb-true _ _)
    where
      by_test_lem : (c l m : Bool) → c ≡ not l → (l ≡ false → total ≤ base b.side.receiver) → (m ≡ true → base (received total now raw b).side.receiver < total) → (c || not m) ≡ not m
      by_test_lem c true m e h k = ap (λ (x : Bool). x || not m) e
      by_test_lem c false true e h k = let up = (data_received total now raw b).higher in absurd (omega (arith, h refl, k refl, up))
      by_test_lem c false false e h k = ap (λ (x : Bool). x || true) e

-- ---- a datagram
module _ (rolls : List Float) (total now : ℕ) (raw : List ℕ) (b : Inbound) where
  pub forward_completes : Completes total now b.side (on_forward rolls total now raw b).inbound.side
  unfolding submit_ack
  forward_completes =
      forward_either rolls total now raw b (λ (x : ForwardExit). Completes total now b.side x.inbound.side) (λ h. completes_same total now b.side) (λ h. received_completes total now raw b)
      (λ h n e. ack_completes (received_completes total now raw b))

  pub forward_completed_is : CompletedIs total b.side → CompletedIs total (on_forward rolls total now raw b).inbound.side
  unfolding submit_ack
  forward_completed_is c = forward_either rolls total now raw b (λ (x : ForwardExit). CompletedIs total x.inbound.side) (λ h. c) (λ h. received_is total now raw b c) (λ h n e. received_is total now raw b c)

-- ---- at the start
pub new_completed_is : (total : ℕ) (r : Receiver) → base r < total → CompletedIs total (new_side r)
new_completed_is total r h = ap not (sym (lt-ltb _ _ h))
