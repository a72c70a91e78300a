use mathlib.Core.Path.{sym, ap, ◌∙◌}
use native.Mathlib.Nat.{le_trans}
use Rattle.notes.specs.Notes.{SampleExit, seg_metas}
use Rattle.notes.proofs.Laws.{sample_within}
use Rattle.clock.proofs.Calls.{sample_law}
use Rattle.clock.proofs.sample_rtt_unchecked.Goals as goal

pub update_rtt_unchecked-requires : goal.update_rtt_unchecked-requires
update_rtt_unchecked-requires c = (c.requires.state, c.requires.counts, le_trans (sample_within (seg_metas c.args.notes c.args.rows.now) c.args.seq c.args.now _ _ (ap (λ (x : SampleExit). x.sample) (sym c.take_sample_unchecked-taken.ensures) ∙ c.in-Some.is)) c.requires.time)

pub returns-in-None : goal.returns-in-None
returns-in-None c = sample_law c.args.estimator (seg_metas c.args.notes c.args.rows.now) c.args.seq c.args.now c.take_sample_unchecked-taken.ensures c.in-None.is

pub returns-in-Some : goal.returns-in-Some
returns-in-Some c = rw c.update_rtt_unchecked.ensures (sample_law c.args.estimator (seg_metas c.args.notes c.args.rows.now) c.args.seq c.args.now c.take_sample_unchecked-taken.ensures c.in-Some.is)
