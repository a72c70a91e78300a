use mathlib.Core.Path.{ap}
use mathlib.Core.Bool.{not}
use Prim.Native.Nat.{ℕ}
use mathlib.Core.Path.{sym, ◌∙◌}
use lib.ListN.{length-replicate}
use Rattle.bounds.specs.Bounds.{max_datagram}
use Rattle.sending.proofs.Calls.{state_numbers}
use Rattle.sending.proofs.Pumps.{left_start, left_stopped, left_less, left_next, left_none}
use Rattle.sending.proofs.pump_sends_unchecked.Goals as goal

pub loop-timing-init : goal.loop-timing-init
loop-timing-init c = (left_start c.requires, length-replicate {A = ℕ} max_datagram 0)

pub can_pump_unchecked-requires : goal.can_pump_unchecked-requires
can_pump_unchecked-requires c = state_numbers c.loop-timing.invariant.0.can

pub slice_bounds-send_one-end : goal.slice_bounds-send_one-end
slice_bounds-send_one-end c = sym c.loop-timing.invariant.1

pub send_one-sent-requires : goal.send_one-sent-requires
send_one-sent-requires c = record { can_pump = c.loop-timing.invariant.0.can; sender_value = (sym c.can_pump_unchecked.ensures ∙ c.loop-timing-test.true, c.loop-timing.invariant.1) }

pub returns-then-not-is_going : goal.returns-then-not-is_going
returns-then-not-is_going c = left_stopped c.loop-timing.invariant.0 c.can_pump_unchecked.ensures c.loop-timing-test.true c.send_one-sent.ensures c.is_going.ensures (ap not c.if-not-is_going.true)

pub loop-timing-smaller : goal.loop-timing-smaller
loop-timing-smaller c = left_less c.loop-timing.invariant.0 c.can_pump_unchecked.ensures c.loop-timing-test.true c.send_one-sent.ensures c.is_going.ensures

pub loop-timing-preserved : goal.loop-timing-preserved
loop-timing-preserved c = (left_next c.loop-timing.invariant.0 c.can_pump_unchecked.ensures c.loop-timing-test.true c.send_one-sent.ensures c.is_going.ensures (ap not c.if-not-is_going.false) (record { store = c.send_one-sent.auto.store ∙ c.loop-timing.invariant.0.same.store; rows = c.send_one-sent.auto.rows ∙ c.loop-timing.invariant.0.same.rows; events = c.send_one-sent.auto.events ∙ c.loop-timing.invariant.0.same.events; records = c.send_one-sent.auto.records ∙ c.loop-timing.invariant.0.same.records; places = c.send_one-sent.auto.places ∙ c.loop-timing.invariant.0.same.places; keys = c.send_one-sent.auto.keys ∙ c.loop-timing.invariant.0.same.keys; deadlines = c.send_one-sent.auto.deadlines ∙ c.loop-timing.invariant.0.same.deadlines }), c.send_one-sent.auto.wire ∙ c.loop-timing.invariant.1)

pub shape_of-store : goal.shape_of-store
shape_of-store c = c.loop-timing.invariant.0.same.store

pub shape_of-rows : goal.shape_of-rows
shape_of-rows c = c.loop-timing.invariant.0.same.rows

pub shape_of-events : goal.shape_of-events
shape_of-events c = c.loop-timing.invariant.0.same.events

pub shape_of-records : goal.shape_of-records
shape_of-records c = c.loop-timing.invariant.0.same.records

pub shape_of-places : goal.shape_of-places
shape_of-places c = c.loop-timing.invariant.0.same.places

pub shape_of-keys : goal.shape_of-keys
shape_of-keys c = c.loop-timing.invariant.0.same.keys

pub shape_of-deadlines : goal.shape_of-deadlines
shape_of-deadlines c = c.loop-timing.invariant.0.same.deadlines

pub returns : goal.returns
returns c = left_none c.loop-timing.invariant.0 c.can_pump_unchecked.ensures c.loop-timing-test.false
