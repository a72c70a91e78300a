-- What a packet that is due is answered, by the tests that were true of it, and what the entry points of channel and schedule answer there.
use Rattle.std.specs.Prelude.{Err, None, Ok, Option, Result, Some}
use mathlib.Core.Path.{◌≡◌, refl, sym, ◌∙◌, ap, subst}
use Prim.Native.Nat.{ℕ, ◌+◌, ◌≤◌}
use native.Mathlib.Omega.{arith}
use mathlib.Core.Bool.{Bool, true, false, not, ◌||◌, false≢true}
use mathlib.Core.List.{List, [], ◌∷◌}
use lib.ListN.{length, take, drop, replicate, length-replicate}
use lib.Seq.{take_at, length-take-le}
use lib.Dec.{ltb}
use lib.Ieee.{Float}
use borrow.Author.Tests.{le-ltb}
use Rattle.bounds.specs.Bounds.{max_datagram, max_duration, max_time}
use Rattle.refusal.specs.Order.{check, verdict}
use Rattle.refusal.specs.declared.Refusal.TheVariants.{State, Counts, Time, Long, Full}
use Rattle.refusal.proofs.Laws.{false_check, true_check, on_refused}
use Rattle.schedule.specs.State.{Schedule, waiting_records, state_broken, counts_broken, late, held_late, deliveries_late, copies, lacks_room}
use Rattle.schedule.specs.Schedule.{schedule_at_unchecked, on_schedule, schedule_checks, schedule_at}
use Rattle.schedule.specs.declared.Deliveries.{Deliveries}
use Rattle.schedule.specs.declared.Deliveries.TheVariants.{Lost}
use Rattle.schedule.proofs.Laws.{or_both, schedule_accepts, schedule_accepted}
use Rattle.channel.specs.Faults.{is_lost, carried_bytes, deliveries_of}
use Rattle.channel.specs.Process.{channel_of, counted_stats, process_unchecked, transited, process}
use Rattle.channel.specs.declared.Channel.{Channel}
use Rattle.channel.specs.declared.Rolls.{Rolls}
use Rattle.channel.proofs.Laws.{process_accepts, process_accepted, process_writes, carried_length, lost_only}
use Rattle.path.specs.Rolls.{packet_rolls, rolls_at}
use Rattle.path.specs.Direction.{Direction, schedule_of}
use Rattle.path.specs.Path.{on_path, CarryExit, on_carry, left_by_carry, rolls_spent, sent, sent_bytes, copy_fold, carry, stop_of, is_going, CanCarry}
use Rattle.path.specs.declared.Stop.{Stop}
use Rattle.path.specs.declared.Stop.TheVariants as stop
use Rattle.path.proofs.Packets.{carry_spent, carry_no_entry, carry_by_lem, by_full, by_room, orders_below, can_process, delays_fine, can_put}
use Rattle.refusal.specs.Order.{passed}

-- ---- a packet by the next rolls: the copies that they grant, the bytes of each, and the direction once they are scheduled
abbrev pub next_rolls : Direction → List Float → Rolls
next_rolls d rolls = rolls_at rolls d.path.used

abbrev pub granted : Direction → List Float → Deliveries
granted d rolls = deliveries_of d.path.channel.config (next_rolls d rolls)

abbrev pub copy_bytes : Direction → List Float → List ℕ → List ℕ
copy_bytes d rolls wire = carried_bytes d.path.channel.config (next_rolls d rolls) wire

abbrev pub counted_channel : Direction → List Float → List ℕ → Channel
counted_channel d rolls wire = channel_of d.path.channel.config (counted_stats d.path.channel.config (next_rolls d rolls) (length wire) d.path.channel.stats)

abbrev pub carried_on : Direction → List Float → ℕ → List ℕ → Direction
carried_on d rolls now wire = on_path (schedule_at_unchecked (schedule_of d) now (copy_bytes d rolls wire) (granted d rolls)) (counted_channel d rolls wire) (d.path.used + packet_rolls)

-- ---- what the channel wrote is the copies' bytes, or nothing is scheduled
sent_bytes_lem : (ch : Channel) (wire : List ℕ) (r : Rolls) (out : List ℕ) → is_lost ch.config r ≡ false → take (length wire) (process_unchecked ch wire r out).out ≡ carried_bytes ch.config r wire
sent_bytes_lem ch wire r out h = ap (take (length wire)) (process_writes ch wire r out h) ∙ take_at (carried_bytes ch.config r wire) (drop (length wire) out) (length wire) (carried_length ch.config r wire)

sent_same : (ch : Channel) (wire : List ℕ) (r : Rolls) (out : List ℕ) {A : Type 0} (f : Deliveries → List ℕ → A) → ((x y : List ℕ) → f Lost x ≡ f Lost y)
    → f (deliveries_of ch.config r) (take (length wire) (process_unchecked ch wire r out).out) ≡ f (deliveries_of ch.config r) (carried_bytes ch.config r wire)
sent_same ch wire r out f none = go (is_lost ch.config r) refl
  where
    go : (b : Bool) → is_lost ch.config r ≡ b → f (deliveries_of ch.config r) (take (length wire) (process_unchecked ch wire r out).out) ≡ f (deliveries_of ch.config r) (carried_bytes ch.config r wire)
    go true h = rw (lost_only ch.config r 0 h).3 (none _ _)
    go false h = ap (f (deliveries_of ch.config r)) (sent_bytes_lem ch wire r out h)

lost_alike : (d : Direction) (ch : Channel) (now : ℕ) (x y : List ℕ) → on_carry (on_path (schedule_at_unchecked (schedule_of d) now x Lost) ch (d.path.used + packet_rolls)) (Ok (Lost, copy_fold Lost x)) ≡ on_carry (on_path (schedule_at_unchecked (schedule_of d) now y Lost) ch (d.path.used + packet_rolls)) (Ok (Lost, copy_fold Lost y))
unfolding schedule_at_unchecked copy_fold
lost_alike d ch now x y = refl

sent_length : (ch : Channel) (wire : List ℕ) (r : Rolls) (out : List ℕ) → length wire ≤ length out → length (take (length wire) (process_unchecked ch wire r out).out) ≡ length wire
unfolding process_unchecked
sent_length ch wire r out h = go (is_lost ch.config r) refl
  where
    go : (b : Bool) → is_lost ch.config r ≡ b → length (take (length wire) (process_unchecked ch wire r out).out) ≡ length wire
    go true e = rw e (length-take-le (length wire) out h)
    go false e = ap length (sent_bytes_lem ch wire r out e) ∙ carried_length ch.config r wire

-- of the checks of `schedule_at` only the last is true
full_alone : (m : Schedule) (now n : ℕ) (ds : Deliveries) → state_broken m ≡ false → counts_broken m ≡ false → late now ≡ false → held_late (waiting_records m) ≡ false → deliveries_late now ds ≡ false → ltb max_datagram n ≡ false → lacks_room m (copies ds) ≡ true → verdict (schedule_checks m now n ds) ≡ Err Full
full_alone m now n ds a b c e f g h = last (state_broken m) (counts_broken m) (late now || (held_late (waiting_records m) || deliveries_late now ds)) (ltb max_datagram n) (lacks_room m (copies ds)) a b (or_both _ _ c (or_both _ _ e f)) g h
  where
    last : (a b c e f : Bool) → a ≡ false → b ≡ false → c ≡ false → e ≡ false → f ≡ true → verdict (check a State ∷ check b Counts ∷ check c Time ∷ check e Long ∷ check f Full ∷ []) ≡ Err Full
    last a b c e f p q r s t = rw (p, q, r, s, t) (false_check State _ ∙ false_check Counts _ ∙ false_check Time _ ∙ false_check Long _ ∙ true_check Full [] tt)

-- ---- the four answers: three of them end a run
abbrev pub stops : Result (Deliveries × ℕ) Stop → Bool
stops a = not (is_going (stop_of a))

-- a packet was carried
pub record IsCarried (a : Result (Deliveries × ℕ) Stop) : Type 0 where
  pub deliveries : Deliveries
  pub fold : ℕ
  pub is : a ≡ Ok (deliveries, fold)

-- a run goes on where a packet was carried, and only there
pub going_is : (s : Option Stop) → is_going s ≡ true → s ≡ None
going_is (None) e = refl
going_is (Some why) e = absurd (false≢true e)

pub stop_going : (a : Result (Deliveries × ℕ) Stop) → stop_of a ≡ None → IsCarried a
stop_going (Ok (ds, n)) e = record { deliveries = ds; fold = n; is = refl }
stop_going (Err why) e = absurd (false≢true (ap is_going e))

pub carried_going : {a : Result (Deliveries × ℕ) Stop} → IsCarried a → stop_of a ≡ None
carried_going c = ap stop_of c.is

module _ (d : Direction) (rolls : List Float) (entry_free : Bool) (now : ℕ) (wire : List ℕ) where
  -- there are rolls, an entry, and room for the copies
  pub record Fits : Type 0 where
    pub left : rolls_spent d.path rolls ≡ false
    pub entry : entry_free ≡ true
    pub room : lacks_room (schedule_of d) (copies (granted d rolls)) ≡ false

  pub spends : rolls_spent d.path rolls ≡ true → carry d rolls entry_free now wire ≡ on_carry d (Err stop.RollsSpent)
  spends h = sym (carry_spent d rolls entry_free now wire h)

  pub no_entry : rolls_spent d.path rolls ≡ false → entry_free ≡ false → carry d rolls entry_free now wire ≡ on_carry d (Err stop.EventsFull)
  no_entry h k = sym (carry_no_entry d rolls entry_free now wire h (ap not k))

  pub fills : rolls_spent d.path rolls ≡ false → entry_free ≡ true → lacks_room (schedule_of d) (copies (granted d rolls)) ≡ true → carry d rolls entry_free now wire ≡ on_carry d (Err stop.ScheduleFull)
  unfolding process_unchecked
  fills h k l = sym (by_full d (sent d.path rolls wire) now wire l ∙ carry_by_lem d rolls entry_free now wire h (ap not k))

  pub carries : Fits → carry d rolls entry_free now wire ≡ on_carry (carried_on d rolls now wire) (Ok (granted d rolls, copy_fold (granted d rolls) (copy_bytes d rolls wire)))
  unfolding process_unchecked
  carries f =
      sym (by_room d (sent d.path rolls wire) now wire f.room ∙ carry_by_lem d rolls entry_free now wire f.left (ap not f.entry))
      ∙ sent_same d.path.channel wire (next_rolls d rolls) (replicate max_datagram 0) (λ (ds : Deliveries) (x : List ℕ). on_carry (on_path (schedule_at_unchecked (schedule_of d) now x ds) (counted_channel d rolls wire) (d.path.used + packet_rolls)) (Ok (ds, copy_fold ds x))) (lost_alike d (counted_channel d rolls wire) now)

  -- whatever holds of the four exits holds of the call's
  pub by_answer : (P : CarryExit → Type 0) → (rolls_spent d.path rolls ≡ true → P (on_carry d (Err stop.RollsSpent))) → (rolls_spent d.path rolls ≡ false → entry_free ≡ false → P (on_carry d (Err stop.EventsFull)))
      → (rolls_spent d.path rolls ≡ false → entry_free ≡ true → lacks_room (schedule_of d) (copies (granted d rolls)) ≡ true → P (on_carry d (Err stop.ScheduleFull)))
      → (Fits → P (on_carry (carried_on d rolls now wire) (Ok (granted d rolls, copy_fold (granted d rolls) (copy_bytes d rolls wire))))) → P (carry d rolls entry_free now wire)
  by_answer P spent events full carried = go (rolls_spent d.path rolls) entry_free (lacks_room (schedule_of d) (copies (granted d rolls))) refl refl refl
    where
      go : (a b c : Bool) → rolls_spent d.path rolls ≡ a → entry_free ≡ b → lacks_room (schedule_of d) (copies (granted d rolls)) ≡ c → P (carry d rolls entry_free now wire)
      go true b c p q r = subst P (sym (spends p)) (spent p)
      go false false c p q r = subst P (sym (no_entry p q)) (events p q)
      go false true true p q r = subst P (sym (fills p q r)) (full p q r)
      go false true false p q r = let f : Fits = record { left = p; entry = q; room = r } in subst P (sym (carries f)) (carried f)

  -- in all but the last the direction is as it was
  pub by_left : (P : Direction → Type 0) → P d → (Fits → P (carried_on d rolls now wire)) → P (left_by_carry (carry d rolls entry_free now wire))
  by_left P same next = by_answer (λ (x : CarryExit). P (left_by_carry x)) (λ h. same) (λ h k. same) (λ h k l. same) next

  -- an answer tells what was true of the packet
  abbrev pub Why : Result (Deliveries × ℕ) Stop → Type 0
  Why (Err stop.RollsSpent) = rolls_spent d.path rolls ≡ true
  Why (Err stop.EventsFull) = (rolls_spent d.path rolls ≡ false) × (entry_free ≡ false)
  Why (Err stop.ScheduleFull) = (rolls_spent d.path rolls ≡ false) × (entry_free ≡ true) × (lacks_room (schedule_of d) (copies (granted d rolls)) ≡ true)
  Why (Ok (ds, n)) = Fits × (ds ≡ granted d rolls) × (n ≡ copy_fold (granted d rolls) (copy_bytes d rolls wire))

  pub answer_why : (a : Result (Deliveries × ℕ) Stop) → (carry d rolls entry_free now wire).result.answer ≡ a → Why a
  answer_why a e = subst Why e (by_answer (λ (x : CarryExit). Why x.result.answer) (λ h. h) (λ h k. (h, k)) (λ h k l. (h, k, l)) (λ f. (f, refl, refl)))

  -- it goes on where the packet fits, and only there
  pub going_fits : stop_of (carry d rolls entry_free now wire).result.answer ≡ None → Fits
  going_fits e = let c = stop_going _ e in (answer_why _ c.is).0

  pub fits_going : Fits → stop_of (carry d rolls entry_free now wire).result.answer ≡ None
  fits_going f = ap (λ (x : CarryExit). stop_of x.result.answer) (carries f)

  -- and one that ends a run leaves all as it was
  pub stop_same : (a : Result (Deliveries × ℕ) Stop) → stops a ≡ true → (carry d rolls entry_free now wire).result.answer ≡ a → carry d rolls entry_free now wire ≡ on_carry d a
  stop_same a s =
      by_answer (λ (x : CarryExit). x.result.answer ≡ a → x ≡ on_carry d a) (λ h e. ap (on_carry d) e) (λ h k e. ap (on_carry d) e) (λ h k l e. ap (on_carry d) e)
      (λ f e. absurd (false≢true (ap stops e ∙ s)))

  -- ---- the same answers by the entry points: `process` delivers, then `schedule_at` is done, or refuses the copies as full
  module _ (can : CanCarry d rolls now wire) (left : rolls_spent d.path rolls ≡ false) where
    pub process_is : process d.path.channel wire (next_rolls d rolls) (replicate max_datagram 0) ≡ transited (sent d.path rolls wire)
    process_is = process_accepted d.path.channel wire (next_rolls d rolls) (replicate max_datagram 0) (process_accepts d.path.channel wire (next_rolls d rolls) (replicate max_datagram 0) (can_process d rolls entry_free now wire left can refl (rw (length-replicate {A = ℕ} max_datagram 0) can.short)))

    size : length (sent_bytes (sent d.path rolls wire) wire) ≡ length wire
    size = sent_length d.path.channel wire (next_rolls d rolls) (replicate max_datagram 0) (rw (length-replicate {A = ℕ} max_datagram 0) can.short)

    in_time : late now ≡ false
    in_time = le-ltb max_time now (soon now can.in_time)
      where
        soon : (now : ℕ) → now ≤ max_duration → now ≤ max_time
        soon now h = omega arith

    pub schedule_is : lacks_room (schedule_of d) (copies (granted d rolls)) ≡ false
        → schedule_at (schedule_of d) now (sent_bytes (sent d.path rolls wire) wire) (granted d rolls) ≡ on_schedule (schedule_at_unchecked (schedule_of d) now (sent_bytes (sent d.path rolls wire) wire) (granted d rolls)) passed
    schedule_is h = schedule_accepted (schedule_of d) now (sent_bytes (sent d.path rolls wire) wire) (granted d rolls) (schedule_accepts (schedule_of d) now (sent_bytes (sent d.path rolls wire) wire) (granted d rolls) (can_put d rolls entry_free now wire left can h size) in_time can.good.times)

    pub schedule_refuses : lacks_room (schedule_of d) (copies (granted d rolls)) ≡ true → schedule_at (schedule_of d) now (sent_bytes (sent d.path rolls wire) wire) (granted d rolls) ≡ on_schedule (schedule_of d) (Err Full)
    unfolding schedule_at
    schedule_refuses h =
        on_refused (λ r. on_schedule (schedule_of d) (Err r)) _
        (full_alone (schedule_of d) now (length (sent_bytes (sent d.path rolls wire) wire)) (granted d rolls) can.good.sound (orders_below d rolls can.good) in_time can.good.times (delays_fine d rolls entry_free now wire left can) (le-ltb max_datagram (length (sent_bytes (sent d.path rolls wire) wire)) (rw size can.short)) h)
