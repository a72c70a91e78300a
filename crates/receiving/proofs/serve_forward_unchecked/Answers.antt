use mathlib.Core.Path.{ap}
use mathlib.Core.Bool.{not}
use mathlib.Core.Path.{◌∙◌}
use native.Mathlib.Omega.{arith}
use Rattle.path.specs.Direction.{direction}
use Rattle.path.proofs.Laws.{records_within}
use Rattle.receiving.proofs.Serving.{left_start, left_idle, left_takes, left_can, left_less, left_stops, left_next}
use Rattle.receiving.proofs.serve_forward_unchecked.Goals as goal

pub loop-place-init : goal.loop-place-init
loop-place-init c = left_start _ _ _ _ _ c.requires

pub first_due_unchecked-requires : goal.first_due_unchecked-requires
first_due_unchecked-requires c = records_within (direction c.loop-place.forward_records c.loop-place.forward_places c.loop-place.forward) c.loop-place.invariant.can.sound

pub shape_of-store-in-None : goal.shape_of-store-in-None
shape_of-store-in-None c = c.loop-place.invariant.same.store

pub shape_of-output-in-None : goal.shape_of-output-in-None
shape_of-output-in-None c = c.loop-place.invariant.same.output

pub shape_of-rows-in-None : goal.shape_of-rows-in-None
shape_of-rows-in-None c = c.loop-place.invariant.same.rows

pub shape_of-forward_records-in-None : goal.shape_of-forward_records-in-None
shape_of-forward_records-in-None c = c.loop-place.invariant.same.forward_records

pub shape_of-forward_places-in-None : goal.shape_of-forward_places-in-None
shape_of-forward_places-in-None c = c.loop-place.invariant.same.forward_places

pub shape_of-reverse_records-in-None : goal.shape_of-reverse_records-in-None
shape_of-reverse_records-in-None c = c.loop-place.invariant.same.reverse_records

pub shape_of-reverse_places-in-None : goal.shape_of-reverse_places-in-None
shape_of-reverse_places-in-None c = c.loop-place.invariant.same.reverse_places

pub returns-in-None : goal.returns-in-None
returns-in-None c = left_idle c.loop-place.invariant c.first_due_unchecked.ensures c.in-None.is

pub overflow_mul-from : goal.overflow_mul-from
overflow_mul-from c = omega (arith, (left_takes c.loop-place.invariant c.first_due_unchecked.ensures c.in-Some.is).inside, c.loop-place.invariant.same.forward_places, c.well_formed.1.1.1.1.1.1.1.1.1.1.1.0.0)

pub overflow_add-end : goal.overflow_add-end
overflow_add-end c = omega (arith, (left_takes c.loop-place.invariant c.first_due_unchecked.ensures c.in-Some.is).inside, c.loop-place.invariant.same.forward_places, c.well_formed.1.1.1.1.1.1.1.1.1.1.1.0.0)

pub slice_bounds-on_forward_unchecked-count : goal.slice_bounds-on_forward_unchecked-count
slice_bounds-on_forward_unchecked-count c = omega (arith, (left_takes c.loop-place.invariant c.first_due_unchecked.ensures c.in-Some.is).inside)

pub slice_bounds-on_forward_unchecked-start : goal.slice_bounds-on_forward_unchecked-start
slice_bounds-on_forward_unchecked-start c = omega (arith, (left_takes c.loop-place.invariant c.first_due_unchecked.ensures c.in-Some.is).inside)

pub slice_bounds-on_forward_unchecked-end : goal.slice_bounds-on_forward_unchecked-end
slice_bounds-on_forward_unchecked-end c = omega (arith, (left_takes c.loop-place.invariant c.first_due_unchecked.ensures c.in-Some.is).inside)

pub on_forward_unchecked-got-requires : goal.on_forward_unchecked-got-requires
on_forward_unchecked-got-requires c = left_can c.loop-place.invariant c.first_due_unchecked.ensures c.in-Some.is

pub remove_first_unchecked-forward-requires : goal.remove_first_unchecked-forward-requires
remove_first_unchecked-forward-requires c = (left_takes c.loop-place.invariant c.first_due_unchecked.ensures c.in-Some.is).can

pub shape_of-store-then-not-is_going : goal.shape_of-store-then-not-is_going
shape_of-store-then-not-is_going c = c.on_forward_unchecked-got.auto.store ∙ c.loop-place.invariant.same.store

pub shape_of-output-then-not-is_going : goal.shape_of-output-then-not-is_going
shape_of-output-then-not-is_going c = c.on_forward_unchecked-got.auto.output ∙ c.loop-place.invariant.same.output

pub shape_of-rows-then-not-is_going : goal.shape_of-rows-then-not-is_going
shape_of-rows-then-not-is_going c = c.on_forward_unchecked-got.auto.rows ∙ c.loop-place.invariant.same.rows

pub shape_of-forward_records-then-not-is_going : goal.shape_of-forward_records-then-not-is_going
shape_of-forward_records-then-not-is_going c = c.remove_first_unchecked-forward.auto.records ∙ c.loop-place.invariant.same.forward_records

pub shape_of-forward_places-then-not-is_going : goal.shape_of-forward_places-then-not-is_going
shape_of-forward_places-then-not-is_going c = c.remove_first_unchecked-forward.auto.places ∙ c.loop-place.invariant.same.forward_places

pub shape_of-reverse_records-then-not-is_going : goal.shape_of-reverse_records-then-not-is_going
shape_of-reverse_records-then-not-is_going c = c.on_forward_unchecked-got.auto.records ∙ c.loop-place.invariant.same.reverse_records

pub shape_of-reverse_places-then-not-is_going : goal.shape_of-reverse_places-then-not-is_going
shape_of-reverse_places-then-not-is_going c = c.on_forward_unchecked-got.auto.places ∙ c.loop-place.invariant.same.reverse_places

pub returns-then-not-is_going : goal.returns-then-not-is_going
returns-then-not-is_going c = left_stops c.loop-place.invariant c.first_due_unchecked.ensures c.in-Some.is c.remove_first_unchecked-forward.ensures c.on_forward_unchecked-got.ensures c.is_going.ensures (ap not c.if-not-is_going.true)

pub loop-place-smaller : goal.loop-place-smaller
loop-place-smaller c = left_less c.loop-place.invariant c.first_due_unchecked.ensures c.in-Some.is c.remove_first_unchecked-forward.ensures

pub loop-place-preserved : goal.loop-place-preserved
loop-place-preserved c = left_next c.loop-place.invariant c.first_due_unchecked.ensures c.in-Some.is c.remove_first_unchecked-forward.ensures c.on_forward_unchecked-got.ensures c.is_going.ensures (ap not c.if-not-is_going.false) (record { store = c.on_forward_unchecked-got.auto.store ∙ c.loop-place.invariant.same.store; output = c.on_forward_unchecked-got.auto.output ∙ c.loop-place.invariant.same.output; rows = c.on_forward_unchecked-got.auto.rows ∙ c.loop-place.invariant.same.rows; forward_records = c.remove_first_unchecked-forward.auto.records ∙ c.loop-place.invariant.same.forward_records; forward_places = c.remove_first_unchecked-forward.auto.places ∙ c.loop-place.invariant.same.forward_places; reverse_records = c.on_forward_unchecked-got.auto.records ∙ c.loop-place.invariant.same.reverse_records; reverse_places = c.on_forward_unchecked-got.auto.places ∙ c.loop-place.invariant.same.reverse_places })
