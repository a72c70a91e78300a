use mathlib.Core.Path.{◌≡◌, sym, ap, ◌∙◌, subst}
use mathlib.Core.Bool.{false}
use Rattle.window.specs.State.{numbers_broken}
use Rattle.session.specs.declared.SenderState.{SenderState}
use Rattle.session.specs.Sending.{window_in}
use Rattle.session.proofs.Sender.window_unchecked.Goals as goal

pub window_unchecked-requires : goal.window_unchecked-requires
window_unchecked-requires c = subst (λ (x : SenderState). numbers_broken (window_in x) ≡ false) c.in-StopAndWait.is c.requires

pub returns-in-StopAndWait : goal.returns-in-StopAndWait
returns-in-StopAndWait c = c.window_unchecked.ensures ∙ ap window_in (sym c.in-StopAndWait.is)
