-- What holds of the bytes of every copy that waits: kept by carrying a packet whose copies have it, and had by what is taken. Where all chances are 0.0 the copy is the packet.
use Rattle.std.specs.Prelude.{Ok, Some}
use mathlib.Core.Path.{◌≡◌, sym, ◌∙◌, ap, subst}
use Prim.Native.Nat.{ℕ, ◌+◌, ◌≤◌}
use mathlib.Core.Bool.{Bool, true, false}
use mathlib.Core.List.{List, ◌∷◌, ◌++◌}
use lib.ListN.{length, take, drop}
use lib.Seq.{take_at}
use lib.Ieee.{Float}
use Rattle.octets.specs.Fold.{fold_bytes}
use Rattle.float.specs.Roll.{scaled}
use Rattle.schedule.specs.State.{state_broken, copies, lacks_room}
use Rattle.schedule.specs.Schedule.{schedule_at_unchecked}
use Rattle.schedule.specs.Waiting.{WaitingCopy, waiting, new_copies, All, of_none, of_more}
use Rattle.schedule.specs.declared.Deliveries.{Deliveries}
use Rattle.schedule.specs.declared.Deliveries.TheVariants.{Lost, One, Two}
use Rattle.schedule.proofs.Laws.{new_waits, schedule_all, pop_all, pop_takes, all_weaker}
use Rattle.channel.specs.declared.ChannelConfig.{ChannelConfig}
use Rattle.channel.proofs.Laws.{carried_length, NoFaults, CarriedWhole, carried_whole}
use Rattle.path.specs.Rolls.{packet_rolls}
use Rattle.path.specs.Direction.{Direction, schedule_of}
use Rattle.path.specs.Path.{on_path, CarryExit, on_carry, left_by_carry, new_path, rolls_spent, copy_fold, carry, left_by_take, take_ready, CanCarry}
use Rattle.path.proofs.Packets.{rolls_left, rolls_fine, can_put}
use Rattle.path.proofs.Answers.{next_rolls, granted, copy_bytes, counted_channel, carries, by_left}

pub record EachWaiting (P : List ℕ → Type 0) (d : Direction) : Type 0 where
  pub each : All (λ (c : WaitingCopy). P c.bytes) (waiting (schedule_of d))

-- a copy of which P holds was taken: it was the first, it was due, its n bytes stand at the front of `out`, the others wait
pub record TakesCopy (P : List ℕ → Type 0) (d : Direction) (now : ℕ) (out : List ℕ) (n : ℕ) : Type 0 where
  pub copy : WaitingCopy
  pub holds : P copy.bytes
  pub due : copy.time ≤ now
  pub size : length copy.bytes ≡ n
  pub front : take n (take_ready d now out).out ≡ copy.bytes
  pub written : (take_ready d now out).out ≡ copy.bytes ++ drop n out
  pub first : waiting (schedule_of d) ≡ copy ∷ waiting (schedule_of (left_by_take (take_ready d now out)))

copies_each : (P : List ℕ → Type 0) (next now : ℕ) (packet : List ℕ) (ds : Deliveries) → P packet → All (λ (c : WaitingCopy). P c.bytes) (new_copies next now packet ds)
unfolding new_copies
copies_each P next now packet Lost h = of_none
copies_each P next now packet (One d) h = of_more h of_none
copies_each P next now packet (Two d e) h = of_more h (of_more h of_none)

module _ {P : List ℕ → Type 0} where
  pub new_each : (c : ChannelConfig) (rs : List (List ℕ)) (ps : List ℕ) → EachWaiting P (new_path c rs ps)
  unfolding new_path
  new_each c rs ps = record { each = subst (All (λ (c : WaitingCopy). P c.bytes)) (sym (new_waits rs ps)) of_none }

  pub carry_each : (d : Direction) (rolls : List Float) (entry_free : Bool) (now : ℕ) (wire : List ℕ) → CanCarry d rolls now wire → P (copy_bytes d rolls wire) → EachWaiting P d → EachWaiting P (left_by_carry (carry d rolls entry_free now wire))
  carry_each d rolls entry_free now wire can h a =
      by_left d rolls entry_free now wire (EachWaiting P) a
      (λ f. record {
        each = schedule_all (schedule_of d) now (copy_bytes d rolls wire) (granted d rolls) (can_put d rolls entry_free now wire f.left can f.room (carried_length d.path.channel.config (next_rolls d rolls) wire)) (copies_each P d.path.scheduler.next_order now (copy_bytes d rolls wire) (granted d rolls) h) a.each;
      })

  module _ (d : Direction) (now : ℕ) (out : List ℕ) (sound : state_broken (schedule_of d) ≡ false) (a : EachWaiting P d) where
    pub take_each : EachWaiting P (left_by_take (take_ready d now out))
    unfolding take_ready
    take_each = record { each = pop_all (schedule_of d) now out sound a.each }

    pub take_copy : (n : ℕ) → (take_ready d now out).result.answer ≡ Ok (Some n) → TakesCopy P d now out n
    unfolding take_ready
    take_copy n e =
        let t = pop_takes (schedule_of d) now out sound a.each n e in
        record {
          copy = t.copy;
          holds = t.holds;
          due = t.due;
          size = t.size;
          front = ap (take n) t.written ∙ take_at t.copy.bytes (drop n out) n t.size;
          written = t.written;
          first = t.first;
        }

    -- the first bytes of `out`
    pub take_front : (n : ℕ) → (take_ready d now out).result.answer ≡ Ok (Some n) → P (take n (take_ready d now out).out)
    take_front n e = let t = take_copy n e in subst P (sym t.front) t.holds

pub each_weaker : {P Q : List ℕ → Type 0} {d : Direction} → ((x : List ℕ) → P x → Q x) → EachWaiting P d → EachWaiting Q d
each_weaker f a = record { each = all_weaker (λ (c : WaitingCopy). f c.bytes) a.each }

-- ---- all chances 0.0
module _ (d : Direction) (rolls : List Float) (entry_free : Bool) (now : ℕ) (wire : List ℕ) (can : CanCarry d rolls now wire) (none : NoFaults d.path.channel.config) (left : rolls_spent d.path rolls ≡ false) where
  whole : CarriedWhole d.path.channel.config (next_rolls d rolls)
  whole = carried_whole d.path.channel.config (next_rolls d rolls) none (rolls_fine rolls d.path.used (rolls_left d rolls entry_free now wire left) can.good.in_bounds)

  pub whole_bytes : copy_bytes d rolls wire ≡ wire
  whole_bytes = whole.bytes wire

  -- base delay and jitter of the one copy
  abbrev pub whole_delay : ℕ
  whole_delay = d.path.channel.config.base_delay_ms + scaled (next_rolls d rolls).jitter_roll (d.path.channel.config.jitter_ms + 1)

  pub whole_granted : granted d rolls ≡ One whole_delay
  whole_granted = whole.once

  pub carries_whole : entry_free ≡ true → lacks_room (schedule_of d) 1 ≡ false
      → carry d rolls entry_free now wire ≡ on_carry (on_path (schedule_at_unchecked (schedule_of d) now wire (One whole_delay)) (counted_channel d rolls wire) (d.path.used + packet_rolls)) (Ok (One whole_delay, fold_bytes wire))
  unfolding copy_fold
  carries_whole e room =
      carries d rolls entry_free now wire (record { left = left; entry = e; room = ap (λ (ds : Deliveries). lacks_room (schedule_of d) (copies ds)) whole_granted ∙ room })
      ∙ ap (λ (ds : Deliveries). made ds (copy_bytes d rolls wire)) whole_granted ∙ ap (made (One whole_delay)) whole_bytes
    where
      made : Deliveries → List ℕ → CarryExit
      made ds x = on_carry (on_path (schedule_at_unchecked (schedule_of d) now x ds) (counted_channel d rolls wire) (d.path.used + packet_rolls)) (Ok (ds, copy_fold ds x))
