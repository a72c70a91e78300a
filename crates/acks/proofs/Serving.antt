-- The loop over what is due on the reverse line: its turns, and that what is left of it makes of the present what the whole makes of the start.
use Rattle.std.specs.Prelude.{None, Ok, Option, Some}
use Prim.Native.Nat.{ℕ, zero, suc, ◌+◌, ◌-◌, ◌*◌, ◌<◌}
use mathlib.Core.Path.{◌≡◌, refl, sym, ap, subst, ◌∙◌}
use mathlib.Core.Bool.{Bool, true, false, cond}
use mathlib.Core.List.{List}
use native.Mathlib.Omega.{arith}
use lib.ListN.{length, take, drop}
use Rattle.bounds.specs.Bounds.{place_size}
use Rattle.schedule.specs.Schedule.{first_due}
use Rattle.path.specs.Direction.{Direction, direction}
use Rattle.path.specs.Path.{TakeExit, left_by_take, take_ready, remove_first, packet_buffer}
use Rattle.path.specs.declared.Path.{Path}
use Rattle.path.proofs.Laws.{TakesPlace, take_count, take_leaves, take_cleared, take_not_due, take_place}
use Rattle.clock.specs.declared.Timing.{Timing}
use Rattle.acks.specs.Acks.{AckState, on_ack}
use Rattle.acks.specs.Good.{CanOnAck}
use Rattle.acks.specs.Reverse.{ServeExit, serve_exit, progressed, serve_at_most, serve_reverse, CanServeReverse}
use Rattle.acks.proofs.Keeps.{on_ack_good, on_ack_counts}

-- ---- a turn
-- the next copy
abbrev pub next_taken : ℕ → Direction → TakeExit
next_taken now d = take_ready d now packet_buffer

-- what it does, of n bytes
abbrev pub next_state : Timing → ℕ → Direction → AckState → ℕ → AckState
next_state timing now d s n = on_ack timing now (take n (next_taken now d).out) s

module _ (timing : Timing) (now : ℕ) (d : Direction) (s : AckState) where
  idle_at : (n : ℕ) → (next_taken now d).result.answer ≡ Ok None → serve_at_most n timing now d s ≡ serve_exit d s false
  unfolding serve_at_most
  idle_at zero e = refl
  idle_at (suc n) e = rw e

  -- nothing is due
  pub serve_reverse_idle : (next_taken now d).result.answer ≡ Ok None → serve_reverse timing now d s ≡ serve_exit d s false
  serve_reverse_idle e = idle_at d.path.scheduler.count e

  turn_at : (n k m : ℕ) → (next_taken now d).result.answer ≡ Ok (Some n) → m + 1 ≡ k → serve_at_most k timing now d s ≡ progressed (serve_at_most m timing now (left_by_take (next_taken now d)) (next_state timing now d s n))
  unfolding serve_at_most
  turn_at n zero m e h = absurd (omega arith)
  turn_at n (suc k) m e h = let p : m ≡ k = omega arith in rw (p, e)

  -- one is handed over
  pub serve_reverse_next : (n : ℕ) → (next_taken now d).result.answer ≡ Ok (Some n) → serve_reverse timing now d s ≡ progressed (serve_reverse timing now (left_by_take (next_taken now d)) (next_state timing now d s n))
  serve_reverse_next n e = turn_at n d.path.scheduler.count (left_by_take (next_taken now d)).path.scheduler.count e (take_count d now packet_buffer n e)

  -- ---- what a turn asks, and what it leaves
  module _ (can : CanServeReverse d s now) where
    pub can_hand_over : (n : ℕ) → (next_taken now d).result.answer ≡ Ok (Some n) → CanOnAck s now
    can_hand_over n e = record { good = can.good; few = omega (arith, can.few, take_count d now packet_buffer n e) }

    pub turn_good : (n : ℕ) → (next_taken now d).result.answer ≡ Ok (Some n) → CanServeReverse (left_by_take (next_taken now d)) (next_state timing now d s n) now
    turn_good n e =
        let l = take_leaves d now packet_buffer can.sound can.times in
        let raw = take n (next_taken now d).out in
        record {
          sound = l.sound;
          times = l.times;
          cleared = take_cleared d now packet_buffer can.sound can.cleared;
          good = on_ack_good timing now s (can_hand_over n e) raw;
          few = omega (arith, can.few, take_count d now packet_buffer n e, (on_ack_counts timing now raw s).received.1);
        }

-- ---- what is left of the loop, where something was handed over before or not
pub record Same (u v : AckState) (f g : Direction) : Type 0 where
  pub store : length v.sender.store ≡ length u.sender.store
  pub rows : length v.metas.rows ≡ length u.metas.rows
  pub records : length g.records ≡ length f.records
  pub places : length g.places ≡ length f.places
  pub keys : length v.clock.keys ≡ length u.clock.keys
  pub deadlines : length v.clock.deadlines ≡ length u.clock.deadlines

abbrev left_over : Bool → ServeExit → ServeExit
left_over progress x = cond progress (progressed x) x

pub record Left (timing : Timing) (now : ℕ) (f g : Direction) (u v : AckState) (progress : Bool) : Type 0 where
  pub eq : left_over progress (serve_reverse timing now g v) ≡ serve_reverse timing now f u
  pub can : CanServeReverse g v now
  pub same : Same u v f g

pub left_start : (timing : Timing) (now : ℕ) (f : Direction) (u : AckState) → CanServeReverse f u now → Left timing now f f u u false
left_start timing now f u can = record { eq = refl; can = can; same = record { store = refl; rows = refl; records = refl; places = refl; keys = refl; deadlines = refl } }

over_idle : (progress : Bool) (g : Direction) (v : AckState) → serve_exit g v progress ≡ left_over progress (serve_exit g v false)
over_idle true g v = refl
over_idle false g v = refl

over_progressed : (progress : Bool) (x : ServeExit) → progressed x ≡ left_over progress (progressed x)
over_progressed true x = refl
over_progressed false x = refl

module _ {timing : Timing} {now : ℕ} {f g : Direction} {u v : AckState} {progress : Bool} {a : Option (ℕ × ℕ)} (l : Left timing now f g u v progress) (e : a ≡ first_due g.path.scheduler.count g.records now) where
  pub left_idle : a ≡ None → serve_exit g v progress ≡ serve_reverse timing now f u
  left_idle q = over_idle progress g v ∙ ap (left_over progress) (sym (serve_reverse_idle timing now g v (take_not_due g now packet_buffer (sym e ∙ q)))) ∙ l.eq

  module _ {place len : ℕ} (q : a ≡ Some (place, len)) where
    pub left_takes : TakesPlace g now packet_buffer place len
    left_takes = take_place g now packet_buffer place len l.can.sound l.can.cleared (sym e ∙ q)

    pub left_can : CanOnAck v now
    left_can = can_hand_over timing now g v l.can len left_takes.answer

    -- with the copy taken out
    module _ {rs : List (List ℕ)} {ps : List ℕ} {p : Path} (r : direction rs ps p ≡ remove_first g) where
      removed_is : direction rs ps p ≡ left_by_take (next_taken now g)
      removed_is = r ∙ sym left_takes.left

      pub left_less : p.scheduler.count < g.path.scheduler.count
      left_less = let k = ap (λ (d : Direction). d.path.scheduler.count) removed_is in let h = take_count g now packet_buffer len left_takes.answer in omega (arith, k, h)

      pub left_next : {w : AckState} → w ≡ on_ack timing now (take (place * place_size + len - place * place_size) (drop (place * place_size) g.places)) v → Same u w f (direction rs ps p) → Left timing now f (direction rs ps p) u w true
      left_next {w} k m =
          let state_is : w ≡ next_state timing now g v len = k ∙ ap (λ (raw : List ℕ). on_ack timing now raw v) (sym left_takes.bytes) in
          record {
            eq =
                ap (λ (d : Direction). progressed (serve_reverse timing now d w)) removed_is
                ∙ ap (λ (x : AckState). progressed (serve_reverse timing now (left_by_take (next_taken now g)) x)) state_is
                ∙ over_progressed progress (progressed (serve_reverse timing now (left_by_take (next_taken now g)) (next_state timing now g v len)))
                ∙ ap (left_over progress) (sym (serve_reverse_next timing now g v len left_takes.answer)) ∙ l.eq;
            can = subst (λ (d : Direction). CanServeReverse d w now) (sym removed_is) (subst (λ (x : AckState). CanServeReverse (left_by_take (next_taken now g)) x now) (sym state_is) (turn_good timing now g v l.can len left_takes.answer));
            same = m;
          }
