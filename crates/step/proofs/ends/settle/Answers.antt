use Rattle.step.specs.State.{lent, run_of}
use Rattle.step.proofs.Settling.{settle_done, settle_next}
use Rattle.step.proofs.ends.settle.Goals as goal

pub returns-then-done : goal.returns-then-done
returns-then-done c = λ store held output rows events fp rp. settle_done c.args.plan (run_of c.args.state (lent store held output rows events c.args.forward_records.now fp c.args.reverse_records.now rp c.args.keys.now c.args.deadlines.now)) c.all_done-done.ensures c.if-done.true (c.over.ensures (lent store held output rows events c.args.forward_records.now fp c.args.reverse_records.now rp c.args.keys.now c.args.deadlines.now))

pub returns : goal.returns
returns c = λ store held output rows events fp rp. settle_next c.args.plan (run_of c.args.state (lent store held output rows events c.args.forward_records.now fp c.args.reverse_records.now rp c.args.keys.now c.args.deadlines.now)) c.all_done-done.ensures c.if-done.false (c.next_deadline-deadline.ensures fp rp) (c.move_to.ensures (lent store held output rows events c.args.forward_records.now fp c.args.reverse_records.now rp c.args.keys.now c.args.deadlines.now))
