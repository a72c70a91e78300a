use Rattle.session.proofs.Receives.{delivered_already, delivered_never}
use Rattle.session.proofs.Receiver.gbn_already_delivered.Goals as goal

pub returns-then-is_cumulative : goal.returns-then-is_cumulative
returns-then-is_cumulative c = delivered_already c.args.self c.args.n c.is_cumulative.ensures c.if-is_cumulative.true c.base.ensures

pub returns : goal.returns
returns c = delivered_never c.args.self c.args.n c.is_cumulative.ensures c.if-is_cumulative.false
