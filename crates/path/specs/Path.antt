-- Document 01, `app/transfer.rs` (`process`, `schedule_at`, `fold_bytes`, `pop_ready_at`, `next_deadline`) and "Turned
-- away", the ends of a run: what each call on one direction of the line answers and leaves behind.
use Rattle.std.specs.Prelude.{ℕ, ◌+◌, ◌≤◌, ◌<◌, ◌≡◌, Bool, true, false, cond, not, List, [], length, take, replicate}
use Rattle.std.specs.Prelude.{ltb, eqb, Float, Err, None, Ok, Option, Result, Some}
use Rattle.bounds.specs.Bounds.{max_datagram, max_duration}
use Rattle.octets.specs.Fold.{fold_bytes}
use Rattle.schedule.specs.State.{Schedule, state_broken, copies, lacks_room, Cleared}
use Rattle.schedule.specs.Schedule.{new_schedule, schedule_at_unchecked, PopExit, pop_unchecked, first_time}
use Rattle.schedule.specs.Schedule.{due, without_first}
use Rattle.schedule.specs.declared.ChannelScheduler.{ChannelScheduler}
use Rattle.schedule.specs.declared.Deliveries.{Deliveries}
use Rattle.schedule.specs.declared.Deliveries.TheVariants.{Lost, One, Two}
use Rattle.channel.specs.Faults.{carried_bytes}
use Rattle.channel.specs.Process.{new_channel_unchecked, TransitExit, process_unchecked}
use Rattle.channel.specs.declared.Channel.{Channel}
use Rattle.channel.specs.declared.ChannelConfig.{ChannelConfig}
use Rattle.path.specs.Rolls.{packet_rolls, rolls_at}
use Rattle.path.specs.Direction.{Direction, direction, schedule_of, Good}
use Rattle.path.specs.declared.Path.{Path}
use Rattle.path.specs.declared.Stop.{Stop}
use Rattle.path.specs.declared.Stop.TheVariants as stop
use Rattle.path.specs.declared.CarryResult.{CarryResult}
use Rattle.refusal.specs.declared.Refusal.{Refusal}

abbrev pub path_of : Channel → ChannelScheduler → ℕ → Path
path_of c s n = record { channel = c; scheduler = s; used = n }

abbrev pub on_path : Schedule → Channel → ℕ → Direction
on_path m c n = direction m.records m.places (path_of c m.scheduler n)

-- making
unfoldable pub new_path : ChannelConfig → List (List ℕ) → List ℕ → Direction
new_path c rs ps = on_path (new_schedule rs ps) (new_channel_unchecked c) 0

-- a packet that is due
pub record CarryExit : Type 0 where
  pub records : List (List ℕ)
  pub places : List ℕ
  pub result : CarryResult

abbrev pub carry_exit : List (List ℕ) → List ℕ → CarryResult → CarryExit
carry_exit rs ps r = record { records = rs; places = ps; result = r }

abbrev pub on_carry : Direction → Result (Deliveries × ℕ) Stop → CarryExit
on_carry d a = carry_exit d.records d.places (record { path = d.path; answer = a })

-- the direction that a call leaves
abbrev pub left_by_carry : CarryExit → Direction
left_by_carry x = direction x.records x.places x.result.path

abbrev pub rolls_spent : Path → List Float → Bool
rolls_spent p rolls = ltb (length rolls) (p.used + packet_rolls)

-- what the channel makes of the packet by the next rolls, and the bytes of its copies
abbrev pub sent : Path → List Float → List ℕ → TransitExit
sent p rolls wire = process_unchecked p.channel wire (rolls_at rolls p.used) (replicate max_datagram 0)

abbrev pub sent_bytes : TransitExit → List ℕ → List ℕ
sent_bytes x wire = take (length wire) x.out

-- `fold_bytes` of each copy
unfoldable pub copy_fold : Deliveries → List ℕ → ℕ
copy_fold Lost bytes = 0
copy_fold (One d) bytes = fold_bytes bytes
copy_fold (Two d e) bytes = fold_bytes bytes

-- the three tests in their order; else `process`, then `schedule_at`
unfoldable pub carry : Direction → List Float → Bool → ℕ → List ℕ → CarryExit
carry d rolls entry_free now wire =
    let x = sent d.path rolls wire in
    let ds = x.result.deliveries in
    let bytes = sent_bytes x wire in
    cond (rolls_spent d.path rolls) (on_carry d (Err stop.RollsSpent))
    (cond (not entry_free) (on_carry d (Err stop.EventsFull))
    (cond (lacks_room (schedule_of d) (copies ds)) (on_carry d (Err stop.ScheduleFull))
    (on_carry
    (on_path (schedule_at_unchecked (schedule_of d) now bytes ds) x.result.channel (d.path.used + packet_rolls))
    (Ok (ds, copy_fold ds bytes)))))

-- what is left where the packet lay: the bytes of its copies, once the channel has it
unfoldable pub wire_after : Path → List Float → Bool → List ℕ → List ℕ
wire_after p rolls entry_free wire =
    cond (rolls_spent p rolls) wire
    (cond (not entry_free) wire (carried_bytes p.channel.config (rolls_at rolls p.used) wire))

-- why a run ends at this packet, or that it goes on
abbrev pub stop_of : Result (Deliveries × ℕ) Stop → Option Stop
stop_of (Err s) = Some s
stop_of (Ok x) = None

abbrev pub is_going : Option Stop → Bool
is_going None = true
is_going (Some s) = false

-- the earliest copy that is due
pub record TakeResult : Type 0 where
  pub path : Path
  pub answer : Result (Option ℕ) Refusal

pub record TakeExit : Type 0 where
  pub records : List (List ℕ)
  pub places : List ℕ
  pub out : List ℕ
  pub result : TakeResult

abbrev pub take_exit : List (List ℕ) → List ℕ → List ℕ → TakeResult → TakeExit
take_exit rs ps o r = record { records = rs; places = ps; out = o; result = r }

abbrev pub on_take : Path → PopExit → TakeExit
on_take p x =
    take_exit x.records x.places x.out
    (record { path = path_of p.channel x.result.scheduler p.used; answer = x.result.answer })

abbrev pub left_by_take : TakeExit → Direction
left_by_take x = direction x.records x.places x.result.path

unfoldable pub take_ready : Direction → ℕ → List ℕ → TakeExit
take_ready d now out = on_take d.path (pop_unchecked (schedule_of d) now out)

-- a buffer for a datagram; whether a copy was taken, and its bytes
abbrev pub packet_buffer : List ℕ
packet_buffer = replicate max_datagram 0

abbrev pub is_taken : Result (Option ℕ) Refusal → Bool
is_taken (Ok (Some len)) = true
is_taken (Ok None) = false
is_taken (Err r) = false

abbrev pub taken_bytes : Result (Option ℕ) Refusal → List ℕ → List ℕ
taken_bytes (Ok (Some len)) out = take len out
taken_bytes (Ok None) out = []
taken_bytes (Err r) out = []

-- whether a copy is due
abbrev pub is_due : Path → List (List ℕ) → ℕ → Bool
is_due p rs now = due p.scheduler.count rs now

-- the copy that leaves first is taken out
abbrev pub remove_first : Direction → Direction
remove_first d = on_path (without_first (schedule_of d)) d.path.channel d.path.used

-- when the next copy leaves; `first_time` refuses nothing
unfoldable pub deadline_of : Result (Option ℕ) Refusal → Option ℕ
deadline_of (Ok (Some t)) = Some t
deadline_of (Ok None) = None
deadline_of (Err r) = None

abbrev pub next_deadline : Path → List (List ℕ) → Option ℕ
next_deadline p rs = deadline_of (first_time p.scheduler.count rs)

abbrev pub is_empty : Path → Bool
is_empty p = eqb p.scheduler.count 0

-- what the calls ask: a good path, a time within a run, a packet that fits a place; a sound schedule,
-- a copy that waits, zeros where no packet lies
pub record CanCarry (d : Direction) (rolls : List Float) (now : ℕ) (wire : List ℕ) : Type 0 where
  pub good : Good d rolls
  pub in_time : now ≤ max_duration
  pub short : length wire ≤ max_datagram

pub record CanRemove (d : Direction) : Type 0 where
  pub sound : state_broken (schedule_of d) ≡ false
  pub some : 0 < d.path.scheduler.count
  pub cleared : Cleared (schedule_of d)
