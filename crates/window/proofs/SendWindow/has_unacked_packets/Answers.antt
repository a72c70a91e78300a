use Rattle.std.specs.Prelude.{Err, Ok}
use Prim.Native.Nat.{ℕ}
use mathlib.Core.Path.{sym, ap, ◌∙◌}
use lib.Dec.{ltb}
use Rattle.refusal.proofs.Laws.{err_returned}
use Rattle.window.proofs.Outstanding.{by_count, by_refusal, count_is}
use Rattle.window.proofs.SendWindow.has_unacked_packets.Goals as goal

pub returns : goal.returns
returns c = ap (λ (m : ℕ). Ok (ltb 0 m)) (count_is c.args.self _ (sym c.in_flight_count.ensures ∙ c.in_ok-n.was)) ∙ by_count c.args.self Err _ _ (sym c.in_flight_count.ensures ∙ c.in_ok-n.was)

pub returns-in_err-n : goal.returns-in_err-n
returns-in_err-n c = err_returned _ c.from_residual.ensures.1 (by_refusal c.args.self Err _ _ (sym c.in_flight_count.ensures ∙ c.in_err-n.was))
