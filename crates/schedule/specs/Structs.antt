-- Document 01, "What the Rust forms turn into" (BinaryHeap): schedule records as structs, and the rows of four numbers
-- that all else of a schedule speaks of.
use Rattle.std.specs.Prelude.{ℕ, List, map}
use Rattle.schedule.specs.Record.{record4, time_of, order_of, record_length, place_of}
use Rattle.schedule.specs.State.{Schedule, schedule}
use Rattle.schedule.specs.Schedule.{ScheduleExit, schedule_exit, PopExit, pop_exit}
use Rattle.schedule.specs.declared.Scheduled.{Scheduled}
use Rattle.schedule.specs.declared.OwnedSchedule.{OwnedSchedule}
use Rattle.schedule.specs.declared.OwnedScheduleResult.{OwnedScheduleResult}
use Rattle.schedule.specs.declared.OwnedPopResult.{OwnedPopResult}

abbrev pub row_of : Scheduled → List ℕ
row_of r = record4 r.time r.order r.length r.place

abbrev pub rows : List Scheduled → List (List ℕ)
rows rs = map row_of rs

abbrev pub scheduled_of : List ℕ → Scheduled
scheduled_of r = record { time = time_of r; order = order_of r; length = record_length r; place = place_of r }

-- the schedule that an owned one is, and what its calls leave
abbrev pub owned_schedule : OwnedSchedule → List ℕ → Schedule
owned_schedule s places = schedule (rows s.records) places s.scheduler

abbrev pub owned_schedule_exit : List ℕ → OwnedScheduleResult → ScheduleExit
owned_schedule_exit places r =
    let s = r.schedule in
    schedule_exit (rows s.records) places (record { scheduler = s.scheduler; answer = r.answer })

abbrev pub owned_pop_exit : List ℕ → List ℕ → OwnedPopResult → PopExit
owned_pop_exit places out r =
    let s = r.schedule in
    pop_exit (rows s.records) places out (record { scheduler = s.scheduler; answer = r.answer })
