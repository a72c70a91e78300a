use Rattle.session.proofs.Receives.{high_valid, high_corrupted}
use Rattle.session.proofs.is_high.Goals as goal

pub returns-then-valid : goal.returns-then-valid
returns-then-valid c = high_valid c.args.packet c.args.valid c.if-valid.true c.is_number_high.ensures

pub returns : goal.returns
returns c = high_corrupted c.args.packet c.args.valid c.if-valid.false
