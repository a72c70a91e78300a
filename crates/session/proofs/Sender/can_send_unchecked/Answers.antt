use mathlib.Core.Path.{ap}
use Rattle.session.proofs.Windows.{window_ordered}
use Rattle.window.specs.Sending.{window_free}
use Rattle.session.proofs.Sender.can_send_unchecked.Goals as goal

pub overflow_sub-result : goal.overflow_sub-result
overflow_sub-result c = window_ordered _ c.requires c.window_unchecked-window.ensures

pub returns : goal.returns
returns c = ap window_free c.window_unchecked-window.ensures
