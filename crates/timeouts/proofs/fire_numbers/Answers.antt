use mathlib.Core.Path.{ap}
use mathlib.Core.Bool.{not}
use Prim.Native.Nat.{◌-◌}
use native.Mathlib.Omega.{arith}
use mathlib.Core.Path.{◌∙◌}
use Rattle.submission.specs.Submission.{outgoing}
use Rattle.timeouts.proofs.NumbersTurns.{left_start, left_none, left_fits, left_less, left_exhausted, left_stopped, left_next}
use Rattle.timeouts.proofs.fire_numbers.Goals as goal

pub loop-n-init : goal.loop-n-init
loop-n-init c = left_start _ c.requires

pub next_expired_unchecked-next-requires : goal.next_expired_unchecked-next-requires
next_expired_unchecked-next-requires c = c.loop-n.invariant.can.good.outgoing.clock.state

pub shape_of-store-in-None : goal.shape_of-store-in-None
shape_of-store-in-None c = c.loop-n.invariant.same.store

pub shape_of-rows-in-None : goal.shape_of-rows-in-None
shape_of-rows-in-None c = c.loop-n.invariant.same.rows

pub shape_of-events-in-None : goal.shape_of-events-in-None
shape_of-events-in-None c = c.loop-n.invariant.same.events

pub shape_of-records-in-None : goal.shape_of-records-in-None
shape_of-records-in-None c = c.loop-n.invariant.same.records

pub shape_of-places-in-None : goal.shape_of-places-in-None
shape_of-places-in-None c = c.loop-n.invariant.same.places

pub shape_of-keys-in-None : goal.shape_of-keys-in-None
shape_of-keys-in-None c = c.loop-n.invariant.same.keys

pub shape_of-deadlines-in-None : goal.shape_of-deadlines-in-None
shape_of-deadlines-in-None c = c.loop-n.invariant.same.deadlines

pub returns-in-None : goal.returns-in-None
returns-in-None c = left_none c.loop-n.invariant c.next_expired_unchecked-next.ensures c.in-None.is

pub shape_of-store-then-met : goal.shape_of-store-then-met
shape_of-store-then-met c = c.loop-n.invariant.same.store

pub shape_of-rows-then-met : goal.shape_of-rows-then-met
shape_of-rows-then-met c = c.loop-n.invariant.same.rows

pub shape_of-events-then-met : goal.shape_of-events-then-met
shape_of-events-then-met c = c.loop-n.invariant.same.events

pub shape_of-records-then-met : goal.shape_of-records-then-met
shape_of-records-then-met c = c.loop-n.invariant.same.records

pub shape_of-places-then-met : goal.shape_of-places-then-met
shape_of-places-then-met c = c.loop-n.invariant.same.places

pub shape_of-keys-then-met : goal.shape_of-keys-then-met
shape_of-keys-then-met c = c.loop-n.invariant.same.keys

pub shape_of-deadlines-then-met : goal.shape_of-deadlines-then-met
shape_of-deadlines-then-met c = c.loop-n.invariant.same.deadlines

pub returns-then-met : goal.returns-then-met
returns-then-met c = left_exhausted c.loop-n.invariant c.next_expired_unchecked-next.ensures c.in-Some.is c.ceiling_met-met.ensures c.if-met.true c.exhausted-resends.ensures

pub fire_number-fired-requires : goal.fire_number-fired-requires
fire_number-fired-requires c = c.loop-n.invariant.can

pub shape_of-store-then-not-going : goal.shape_of-store-then-not-going
shape_of-store-then-not-going c = c.fire_number-fired.auto.store ∙ c.loop-n.invariant.same.store

pub shape_of-rows-then-not-going : goal.shape_of-rows-then-not-going
shape_of-rows-then-not-going c = c.fire_number-fired.auto.rows ∙ c.loop-n.invariant.same.rows

pub shape_of-events-then-not-going : goal.shape_of-events-then-not-going
shape_of-events-then-not-going c = c.fire_number-fired.auto.events ∙ c.loop-n.invariant.same.events

pub shape_of-records-then-not-going : goal.shape_of-records-then-not-going
shape_of-records-then-not-going c = c.fire_number-fired.auto.records ∙ c.loop-n.invariant.same.records

pub shape_of-places-then-not-going : goal.shape_of-places-then-not-going
shape_of-places-then-not-going c = c.fire_number-fired.auto.places ∙ c.loop-n.invariant.same.places

pub shape_of-keys-then-not-going : goal.shape_of-keys-then-not-going
shape_of-keys-then-not-going c = c.fire_number-fired.auto.keys ∙ c.loop-n.invariant.same.keys

pub shape_of-deadlines-then-not-going : goal.shape_of-deadlines-then-not-going
shape_of-deadlines-then-not-going c = c.fire_number-fired.auto.deadlines ∙ c.loop-n.invariant.same.deadlines

pub returns-then-not-going : goal.returns-then-not-going
returns-then-not-going c = left_stopped c.loop-n.invariant c.next_expired_unchecked-next.ensures c.in-Some.is c.ceiling_met-met.ensures c.if-met.false c.fire_number-fired.ensures c.is_going-going.ensures (ap not c.if-not-going.true)

pub overflow_add-from : goal.overflow_add-from
overflow_add-from c = let h = left_fits c.loop-n.invariant c.next_expired_unchecked-next.ensures c.in-Some.is in omega (arith, h)

pub loop-n-smaller : goal.loop-n-smaller
loop-n-smaller c = left_less c.loop-n.invariant c.next_expired_unchecked-next.ensures c.in-Some.is

pub loop-n-preserved : goal.loop-n-preserved
loop-n-preserved c = left_next c.loop-n.invariant c.next_expired_unchecked-next.ensures c.in-Some.is c.ceiling_met-met.ensures c.if-met.false c.fire_number-fired.ensures c.is_going-going.ensures (ap not c.if-not-going.false) (record { store = c.fire_number-fired.auto.store ∙ c.loop-n.invariant.same.store; rows = c.fire_number-fired.auto.rows ∙ c.loop-n.invariant.same.rows; events = c.fire_number-fired.auto.events ∙ c.loop-n.invariant.same.events; records = c.fire_number-fired.auto.records ∙ c.loop-n.invariant.same.records; places = c.fire_number-fired.auto.places ∙ c.loop-n.invariant.same.places; keys = c.fire_number-fired.auto.keys ∙ c.loop-n.invariant.same.keys; deadlines = c.fire_number-fired.auto.deadlines ∙ c.loop-n.invariant.same.deadlines })
