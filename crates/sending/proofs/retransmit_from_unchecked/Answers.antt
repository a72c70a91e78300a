use mathlib.Core.Path.{ap}
use mathlib.Core.Bool.{not}
use native.Mathlib.Omega.{arith}
use mathlib.Core.Path.{◌∙◌}
use Rattle.sending.proofs.Resending.{left_start, left_none, left_can, all_low, left_met, left_stopped, left_next}
use Rattle.sending.proofs.retransmit_from_unchecked.Goals as goal

pub loop-seq-init : goal.loop-seq-init
loop-seq-init c = left_start (omega arith) c.requires

pub returns-then-ceiling_met : goal.returns-then-ceiling_met
returns-then-ceiling_met c = left_met c.loop-seq.invariant (omega arith) c.ceiling_met.ensures c.if-ceiling_met.true c.exhausted.ensures

pub retransmit_unchecked-resent-requires : goal.retransmit_unchecked-resent-requires
retransmit_unchecked-resent-requires c = left_can c.loop-seq.invariant (omega arith)

pub returns-then-not-is_going : goal.returns-then-not-is_going
returns-then-not-is_going c = left_stopped c.loop-seq.invariant (omega arith) c.ceiling_met.ensures c.if-ceiling_met.false c.retransmit_unchecked-resent.ensures c.is_going.ensures (ap not c.if-not-is_going.true)

pub overflow_add-seq-end : goal.overflow_add-seq-end
overflow_add-seq-end c = let low = all_low c.requires in omega arith

pub loop-seq-preserved : goal.loop-seq-preserved
loop-seq-preserved c = left_next c.loop-seq.invariant (omega arith) c.ceiling_met.ensures c.if-ceiling_met.false c.retransmit_unchecked-resent.ensures c.is_going.ensures (ap not c.if-not-is_going.false) (record { rows = c.retransmit_unchecked-resent.auto.rows ∙ c.loop-seq.invariant.same.rows; events = c.retransmit_unchecked-resent.auto.events ∙ c.loop-seq.invariant.same.events; records = c.retransmit_unchecked-resent.auto.records ∙ c.loop-seq.invariant.same.records; places = c.retransmit_unchecked-resent.auto.places ∙ c.loop-seq.invariant.same.places; keys = c.retransmit_unchecked-resent.auto.keys ∙ c.loop-seq.invariant.same.keys; deadlines = c.retransmit_unchecked-resent.auto.deadlines ∙ c.loop-seq.invariant.same.deadlines }) (omega arith)

pub shape_of-rows : goal.shape_of-rows
shape_of-rows c = c.loop-seq.invariant.same.rows

pub shape_of-events : goal.shape_of-events
shape_of-events c = c.loop-seq.invariant.same.events

pub shape_of-records : goal.shape_of-records
shape_of-records c = c.loop-seq.invariant.same.records

pub shape_of-places : goal.shape_of-places
shape_of-places c = c.loop-seq.invariant.same.places

pub shape_of-keys : goal.shape_of-keys
shape_of-keys c = c.loop-seq.invariant.same.keys

pub shape_of-deadlines : goal.shape_of-deadlines
shape_of-deadlines c = c.loop-seq.invariant.same.deadlines

pub returns : goal.returns
returns c = left_none c.loop-seq.invariant (omega arith)
