use Prim.Native.Nat.{◌+◌, ◌-◌}
use mathlib.Core.Path.{◌≡◌, refl, sym, ap, ◌∙◌}
use native.Mathlib.Omega.{arith}
use lib.ListN.{length}
use Rattle.window.specs.Slots.{Sender, sender}
use Rattle.window.specs.Resending.{mark_from}
use Rattle.window.proofs.Resending.{mark_more, mark_done, mark_one, mark_sent, mark_again}
use Rattle.window.proofs.SendWindow.mark_retransmitted_from_unchecked.Goals as goal

pub overflow_add-n-end : goal.overflow_add-n-end
overflow_add-n-end c = let low = c.requires.resendable.low in omega arith

pub loop-n-init : goal.loop-n-init
loop-n-init c = let e : c.args.first + c.args.count - c.args.first ≡ c.args.count = omega arith in (refl, refl, omega arith, omega arith, ap (mark_from (sender c.args.self c.args.store.now) c.args.first) e)

pub mark_retransmitted_unchecked-self-requires : goal.mark_retransmitted_unchecked-self-requires
mark_retransmitted_unchecked-self-requires c = let few = c.requires.resendable.few in let p = c.requires.resendable.positive in let room = c.requires.resendable.room in let counts = c.requires.total_sent_bound in let inv = c.loop-n.invariant in record { window_size_nonzero = (omega arith, omega arith); total_sent_bound = (omega arith, omega arith) }

pub loop-n-preserved : goal.loop-n-preserved
loop-n-preserved c = let one = mark_one (sender c.loop-n.self c.loop-n.store) c.loop-n.n in let sent = ap (λ (w : Sender). w.window.total_sent) c.mark_retransmitted_unchecked-self.ensures ∙ mark_sent (sender c.loop-n.self c.loop-n.store) c.loop-n.n in let again = ap (λ (w : Sender). w.window.retransmissions) c.mark_retransmitted_unchecked-self.ensures ∙ mark_again (sender c.loop-n.self c.loop-n.store) c.loop-n.n in let inv = c.loop-n.invariant in (ap (λ (w : Sender). w.window.window_size) c.mark_retransmitted_unchecked-self.ensures ∙ one.window_size ∙ inv.0, ap (λ (w : Sender). length w.store) c.mark_retransmitted_unchecked-self.ensures ∙ one.store_length ∙ inv.1, omega arith, omega arith, ap (λ (w : Sender). mark_from w (c.loop-n.n + 1) (c.args.first + c.args.count - (c.loop-n.n + 1))) c.mark_retransmitted_unchecked-self.ensures ∙ mark_more (sender c.loop-n.self c.loop-n.store) c.loop-n.n (c.args.first + c.args.count) (omega arith) ∙ inv.4)

pub shape_of-store : goal.shape_of-store
shape_of-store c = c.loop-n.invariant.1

pub returns : goal.returns
returns c = sym (mark_done (sender c.loop-n.self c.loop-n.store) c.loop-n.n (c.args.first + c.args.count - c.loop-n.n) (omega arith)) ∙ c.loop-n.invariant.4
