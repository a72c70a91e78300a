use Rattle.session.proofs.Windows.{oldest_some, oldest_none}
use Rattle.session.proofs.Sender.oldest_outstanding_unchecked.Goals as goal

pub returns-then-has_outstanding_unchecked : goal.returns-then-has_outstanding_unchecked
returns-then-has_outstanding_unchecked c = oldest_some c.args.self c.send_base_unchecked-base.ensures c.has_outstanding_unchecked.ensures c.if-has_outstanding_unchecked.true

pub returns : goal.returns
returns c = oldest_none c.args.self c.has_outstanding_unchecked.ensures c.if-has_outstanding_unchecked.false
