-- The loop over what is due on the forward line: its turns, and that what is left of it makes of the present what the whole makes of the start.
use Rattle.std.specs.Prelude.{None, Ok, Option, Some}
use Prim.Native.Nat.{ℕ, zero, suc, ◌+◌, ◌-◌, ◌*◌, ◌<◌}
use mathlib.Core.Path.{◌≡◌, refl, sym, ap, subst, ◌∙◌}
use mathlib.Core.Bool.{Bool, true, false, cond, not}
use mathlib.Core.List.{List}
use native.Mathlib.Omega.{arith}
use lib.ListN.{length, take, drop}
use lib.Ieee.{Float}
use Rattle.bounds.specs.Bounds.{place_size}
use Rattle.schedule.specs.Schedule.{first_due}
use Rattle.path.specs.Direction.{Direction, direction}
use Rattle.path.specs.Path.{is_going, TakeExit, left_by_take, take_ready, remove_first, packet_buffer}
use Rattle.path.specs.declared.Path.{Path}
use Rattle.path.specs.declared.Stop.{Stop}
use Rattle.path.proofs.Laws.{TakesPlace, take_count, take_leaves, take_cleared, take_not_due, take_place}
use Rattle.receiving.specs.Receiving.{Inbound, ForwardExit, forward_exit, on_forward, ServeForwardExit, serve_forward_exit, progressed, serve_at_most, serve_forward}
use Rattle.receiving.specs.Good.{CanOnForward, CanServeForward}
use Rattle.receiving.proofs.Kept.{forward_good, forward_counts}

-- ---- a turn
-- the next copy
abbrev pub next_taken : ℕ → Direction → TakeExit
next_taken now forward = take_ready forward now packet_buffer

-- what it does, of n bytes
abbrev pub next_exit : List Float → ℕ → ℕ → Direction → Inbound → ℕ → ForwardExit
next_exit rolls total now forward b n = on_forward rolls total now (take n (next_taken now forward).out) b

module _ (rolls : List Float) (total now : ℕ) (forward : Direction) (b : Inbound) where
  idle_at : (n : ℕ) → (next_taken now forward).result.answer ≡ Ok None → serve_at_most n rolls total now forward b ≡ serve_forward_exit forward b false (None)
  unfolding serve_at_most
  idle_at zero e = refl
  idle_at (suc n) e = rw e

  -- nothing is due
  pub serve_idle : (next_taken now forward).result.answer ≡ Ok None → serve_forward rolls total now forward b ≡ serve_forward_exit forward b false (None)
  serve_idle e = idle_at forward.path.scheduler.count e

  turn_at : (n k m : ℕ) → (next_taken now forward).result.answer ≡ Ok (Some n) → m + 1 ≡ k
      → serve_at_most k rolls total now forward b ≡ cond (is_going (next_exit rolls total now forward b n).stop) (progressed (serve_at_most m rolls total now (left_by_take (next_taken now forward)) (next_exit rolls total now forward b n).inbound)) (serve_forward_exit (left_by_take (next_taken now forward)) (next_exit rolls total now forward b n).inbound true (next_exit rolls total now forward b n).stop)
  unfolding serve_at_most
  turn_at n zero m e h = absurd (omega arith)
  turn_at n (suc k) m e h = let p : m ≡ k = omega arith in rw (p, e)

  turn_is : (n : ℕ) → (next_taken now forward).result.answer ≡ Ok (Some n) → (t : Bool) → is_going (next_exit rolls total now forward b n).stop ≡ t
      → serve_forward rolls total now forward b ≡ cond t (progressed (serve_forward rolls total now (left_by_take (next_taken now forward)) (next_exit rolls total now forward b n).inbound)) (serve_forward_exit (left_by_take (next_taken now forward)) (next_exit rolls total now forward b n).inbound true (next_exit rolls total now forward b n).stop)
  turn_is n e t g =
      turn_at n forward.path.scheduler.count (left_by_take (next_taken now forward)).path.scheduler.count e (take_count forward now packet_buffer n e)
      ∙ ap (λ (t : Bool). cond t (progressed (serve_forward rolls total now (left_by_take (next_taken now forward)) (next_exit rolls total now forward b n).inbound)) (serve_forward_exit (left_by_take (next_taken now forward)) (next_exit rolls total now forward b n).inbound true (next_exit rolls total now forward b n).stop)) g

  -- one is handed over, and the run goes on
  pub serve_going : (n : ℕ) → (next_taken now forward).result.answer ≡ Ok (Some n) → is_going (next_exit rolls total now forward b n).stop ≡ true → serve_forward rolls total now forward b ≡ progressed (serve_forward rolls total now (left_by_take (next_taken now forward)) (next_exit rolls total now forward b n).inbound)
  serve_going n e g = turn_is n e true g

  -- one is handed over, and its ACK ends the run
  pub serve_stops : (n : ℕ) → (next_taken now forward).result.answer ≡ Ok (Some n) → is_going (next_exit rolls total now forward b n).stop ≡ false → serve_forward rolls total now forward b ≡ serve_forward_exit (left_by_take (next_taken now forward)) (next_exit rolls total now forward b n).inbound true (next_exit rolls total now forward b n).stop
  serve_stops n e g = turn_is n e false g

  -- ---- what a turn asks, and what it leaves
  module _ (can : CanServeForward forward b rolls now) where
    pub can_hand_over : (n : ℕ) → (next_taken now forward).result.answer ≡ Ok (Some n) → CanOnForward b rolls now
    can_hand_over n e = record { good = can.good; few = omega (arith, can.few, take_count forward now packet_buffer n e); in_time = can.in_time }

    pub turn_good : (n : ℕ) → (next_taken now forward).result.answer ≡ Ok (Some n) → CanServeForward (left_by_take (next_taken now forward)) (next_exit rolls total now forward b n).inbound rolls now
    turn_good n e =
        let s = take_leaves forward now packet_buffer can.sound can.times in
        record {
          sound = s.sound;
          times = s.times;
          cleared = take_cleared forward now packet_buffer can.sound can.cleared;
          good = forward_good rolls total now (take n (next_taken now forward).out) b (can_hand_over n e);
          few = omega (arith, can.few, take_count forward now packet_buffer n e, (forward_counts rolls total now (take n (next_taken now forward).out) b).datas.1);
          in_time = can.in_time;
        }

-- ---- what is left of the loop, where something was handed over before or not
pub record Same (u v : Inbound) (f g : Direction) : Type 0 where
  pub store : length v.store ≡ length u.store
  pub output : length v.output ≡ length u.output
  pub rows : length v.metas.rows ≡ length u.metas.rows
  pub forward_records : length g.records ≡ length f.records
  pub forward_places : length g.places ≡ length f.places
  pub reverse_records : length v.reverse.records ≡ length u.reverse.records
  pub reverse_places : length v.reverse.places ≡ length u.reverse.places

turned : (a b : Bool) → not a ≡ b → a ≡ not b
turned true b e = ap not e
turned false b e = ap not e

abbrev left_over : Bool → ServeForwardExit → ServeForwardExit
left_over progress x = cond progress (progressed x) x

pub record Left (rolls : List Float) (total now : ℕ) (f g : Direction) (u v : Inbound) (progress : Bool) : Type 0 where
  pub eq : left_over progress (serve_forward rolls total now g v) ≡ serve_forward rolls total now f u
  pub can : CanServeForward g v rolls now
  pub same : Same u v f g

pub left_start : (rolls : List Float) (total now : ℕ) (f : Direction) (u : Inbound) → CanServeForward f u rolls now → Left rolls total now f f u u false
left_start rolls total now f u can = record { eq = refl; can = can; same = record { store = refl; output = refl; rows = refl; forward_records = refl; forward_places = refl; reverse_records = refl; reverse_places = refl } }

over_idle : (progress : Bool) (g : Direction) (v : Inbound) → serve_forward_exit g v progress (None) ≡ left_over progress (serve_forward_exit g v false (None))
over_idle true g v = refl
over_idle false g v = refl

over_progressed : (progress : Bool) (x : ServeForwardExit) → progressed x ≡ left_over progress (progressed x)
over_progressed true x = refl
over_progressed false x = refl

module _ {rolls : List Float} {total now : ℕ} {f g : Direction} {u v : Inbound} {progress : Bool} {a : Option (ℕ × ℕ)} (l : Left rolls total now f g u v progress) (e : a ≡ first_due g.path.scheduler.count g.records now) where
  pub left_idle : a ≡ None → serve_forward_exit g v progress (None) ≡ serve_forward rolls total now f u
  left_idle q = over_idle progress g v ∙ ap (left_over progress) (sym (serve_idle rolls total now g v (take_not_due g now packet_buffer (sym e ∙ q)))) ∙ l.eq

  module _ {place len : ℕ} (q : a ≡ Some (place, len)) where
    pub left_takes : TakesPlace g now packet_buffer place len
    left_takes = take_place g now packet_buffer place len l.can.sound l.can.cleared (sym e ∙ q)

    pub left_can : CanOnForward v rolls now
    left_can = can_hand_over rolls total now g v l.can len left_takes.answer

    -- with the copy taken out
    module _ {rs : List (List ℕ)} {ps : List ℕ} {p : Path} (r : direction rs ps p ≡ remove_first g) where
      removed_is : direction rs ps p ≡ left_by_take (next_taken now g)
      removed_is = r ∙ sym left_takes.left

      pub left_less : p.scheduler.count < g.path.scheduler.count
      left_less = let k = ap (λ (d : Direction). d.path.scheduler.count) removed_is in let h = take_count g now packet_buffer len left_takes.answer in omega (arith, k, h)

      module _ {w : Inbound} {s : Option Stop} {going : Bool} (k : forward_exit w s ≡ on_forward rolls total now (take (place * place_size + len - place * place_size) (drop (place * place_size) g.places)) v) (i : going ≡ is_going s) where
        exit_is : forward_exit w s ≡ next_exit rolls total now g v len
        exit_is = k ∙ ap (λ (raw : List ℕ). on_forward rolls total now raw v) (sym left_takes.bytes)

        stop_is : {t : Bool} → not going ≡ t → is_going (next_exit rolls total now g v len).stop ≡ not t
        stop_is {t} j = ap (λ (x : ForwardExit). is_going x.stop) (sym exit_is) ∙ sym i ∙ turned going t j

        pub left_stops : not going ≡ true → serve_forward_exit (direction rs ps p) w true s ≡ serve_forward rolls total now f u
        left_stops j =
            ap (λ (d : Direction). serve_forward_exit d w true s) removed_is
            ∙ ap (λ (x : ForwardExit). serve_forward_exit (left_by_take (next_taken now g)) x.inbound true x.stop) exit_is
            ∙ over_progressed progress (serve_forward_exit (left_by_take (next_taken now g)) (next_exit rolls total now g v len).inbound true (next_exit rolls total now g v len).stop)
            ∙ ap (left_over progress) (sym (serve_stops rolls total now g v len left_takes.answer (stop_is j))) ∙ l.eq

        pub left_next : not going ≡ false → Same u w f (direction rs ps p) → Left rolls total now f (direction rs ps p) u w true
        left_next j m =
            record {
              eq =
                  ap (λ (d : Direction). progressed (serve_forward rolls total now d w)) removed_is
                  ∙ ap (λ (x : ForwardExit). progressed (serve_forward rolls total now (left_by_take (next_taken now g)) x.inbound)) exit_is
                  ∙ over_progressed progress (progressed (serve_forward rolls total now (left_by_take (next_taken now g)) (next_exit rolls total now g v len).inbound))
                  ∙ ap (left_over progress) (sym (serve_going rolls total now g v len left_takes.answer (stop_is j))) ∙ l.eq;
              can = subst (λ (d : Direction). CanServeForward d w rolls now) (sym removed_is) (subst (λ (x : ForwardExit). CanServeForward (left_by_take (next_taken now g)) x.inbound rolls now) (sym exit_is) (turn_good rolls total now g v l.can len left_takes.answer));
              same = m;
            }
