use Prim.Native.Nat.{min}
use mathlib.Core.Path.{◌∙◌}
use mathlib.Core.Bool.{false}
use native.Mathlib.Omega.{arith}
use Rattle.bounds.specs.Bounds.{max_window}
use Rattle.window.specs.Slots.{sender}
use Rattle.window.specs.State.{outstanding, state_broken, counts_broken}
use Rattle.window.proofs.Laws.{sound, resend_count}
use Rattle.go_back_n.proofs.GoBackNSender.handle_timeout.Goals as goal

pub returns : goal.returns
returns c = c.resend_outstanding-result.ensures ∙ resend_count (state_broken false c.args.self.window c.args.store.now) (counts_broken c.args.self.window) (sender c.args.self.window c.args.store.now) c.args.self.window.send_base (min max_window (outstanding c.args.self.window)) (outstanding c.args.self.window) c.args.out.now (λ e. let s = sound false c.args.self.window c.args.store.now e in let few = s.few in let small = s.small in omega arith)
