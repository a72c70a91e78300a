use mathlib.Core.Path.{ap}
use Rattle.session.proofs.Windows.{window_ordered}
use lib.Dec.{ltb}
use Rattle.window.specs.State.{outstanding}
use Rattle.window.specs.declared.SendWindow.{SendWindow}
use Rattle.session.proofs.Sender.has_outstanding_unchecked.Goals as goal

pub overflow_sub-result : goal.overflow_sub-result
overflow_sub-result c = window_ordered _ c.requires c.window_unchecked-window.ensures

pub returns : goal.returns
returns c = ap (λ (w : SendWindow). ltb 0 (outstanding w)) c.window_unchecked-window.ensures
