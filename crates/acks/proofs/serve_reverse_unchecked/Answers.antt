use mathlib.Core.Path.{◌∙◌}
use native.Mathlib.Omega.{arith}
use Rattle.path.specs.Direction.{direction}
use Rattle.path.proofs.Laws.{records_within}
use Rattle.acks.proofs.Serving.{left_start, left_idle, left_takes, left_can, left_less, left_next}
use Rattle.acks.proofs.serve_reverse_unchecked.Goals as goal

pub loop-place-init : goal.loop-place-init
loop-place-init c = left_start _ _ _ _ c.requires

pub first_due_unchecked-requires : goal.first_due_unchecked-requires
first_due_unchecked-requires c = records_within (direction c.loop-place.records c.loop-place.places c.loop-place.reverse) c.loop-place.invariant.can.sound

pub shape_of-store-in-None : goal.shape_of-store-in-None
shape_of-store-in-None c = c.loop-place.invariant.same.store

pub shape_of-rows-in-None : goal.shape_of-rows-in-None
shape_of-rows-in-None c = c.loop-place.invariant.same.rows

pub shape_of-records-in-None : goal.shape_of-records-in-None
shape_of-records-in-None c = c.loop-place.invariant.same.records

pub shape_of-places-in-None : goal.shape_of-places-in-None
shape_of-places-in-None c = c.loop-place.invariant.same.places

pub shape_of-keys-in-None : goal.shape_of-keys-in-None
shape_of-keys-in-None c = c.loop-place.invariant.same.keys

pub shape_of-deadlines-in-None : goal.shape_of-deadlines-in-None
shape_of-deadlines-in-None c = c.loop-place.invariant.same.deadlines

pub returns-in-None : goal.returns-in-None
returns-in-None c = left_idle c.loop-place.invariant c.first_due_unchecked.ensures c.in-None.is

pub overflow_mul-from : goal.overflow_mul-from
overflow_mul-from c = omega (arith, (left_takes c.loop-place.invariant c.first_due_unchecked.ensures c.in-Some.is).inside, c.loop-place.invariant.same.places, c.well_formed.1.1.1.1.1.1.1.1.0.0)

pub overflow_add-end : goal.overflow_add-end
overflow_add-end c = omega (arith, (left_takes c.loop-place.invariant c.first_due_unchecked.ensures c.in-Some.is).inside, c.loop-place.invariant.same.places, c.well_formed.1.1.1.1.1.1.1.1.0.0)

pub slice_bounds-on_ack_unchecked-count : goal.slice_bounds-on_ack_unchecked-count
slice_bounds-on_ack_unchecked-count c = omega (arith, (left_takes c.loop-place.invariant c.first_due_unchecked.ensures c.in-Some.is).inside)

pub slice_bounds-on_ack_unchecked-start : goal.slice_bounds-on_ack_unchecked-start
slice_bounds-on_ack_unchecked-start c = omega (arith, (left_takes c.loop-place.invariant c.first_due_unchecked.ensures c.in-Some.is).inside)

pub slice_bounds-on_ack_unchecked-end : goal.slice_bounds-on_ack_unchecked-end
slice_bounds-on_ack_unchecked-end c = omega (arith, (left_takes c.loop-place.invariant c.first_due_unchecked.ensures c.in-Some.is).inside)

pub on_ack_unchecked-after-requires : goal.on_ack_unchecked-after-requires
on_ack_unchecked-after-requires c = left_can c.loop-place.invariant c.first_due_unchecked.ensures c.in-Some.is

pub remove_first_unchecked-reverse-requires : goal.remove_first_unchecked-reverse-requires
remove_first_unchecked-reverse-requires c = (left_takes c.loop-place.invariant c.first_due_unchecked.ensures c.in-Some.is).can

pub loop-place-smaller : goal.loop-place-smaller
loop-place-smaller c = left_less c.loop-place.invariant c.first_due_unchecked.ensures c.in-Some.is c.remove_first_unchecked-reverse.ensures

pub loop-place-preserved : goal.loop-place-preserved
loop-place-preserved c = left_next c.loop-place.invariant c.first_due_unchecked.ensures c.in-Some.is c.remove_first_unchecked-reverse.ensures c.on_ack_unchecked-after.ensures (record { store = c.on_ack_unchecked-after.auto.store ∙ c.loop-place.invariant.same.store; rows = c.on_ack_unchecked-after.auto.rows ∙ c.loop-place.invariant.same.rows; records = c.remove_first_unchecked-reverse.auto.records ∙ c.loop-place.invariant.same.records; places = c.remove_first_unchecked-reverse.auto.places ∙ c.loop-place.invariant.same.places; keys = c.on_ack_unchecked-after.auto.keys ∙ c.loop-place.invariant.same.keys; deadlines = c.on_ack_unchecked-after.auto.deadlines ∙ c.loop-place.invariant.same.deadlines })
