use Rattle.std.specs.Prelude.{Err, Ok}
use mathlib.Core.Path.{sym, ◌∙◌}
use native.Mathlib.Omega.{arith}
use Rattle.window.specs.State.{outstanding}
use Rattle.window.proofs.Sound.{numbers}
use Rattle.window.proofs.Outstanding.{numbers_refused, counts_refused, numbers_accepted}
use Rattle.window.proofs.SendWindow.in_flight_count.Goals as goal

pub returns-then-numbers_broken : goal.returns-then-numbers_broken
returns-then-numbers_broken c = numbers_refused c.args.self Err (Ok (outstanding c.args.self)) (sym c.numbers_broken.ensures ∙ c.if-numbers_broken.true)

pub returns-then-counts_broken : goal.returns-then-counts_broken
returns-then-counts_broken c = counts_refused c.args.self Err (Ok (outstanding c.args.self)) (sym c.numbers_broken.ensures ∙ c.if-numbers_broken.false) (sym c.counts_broken.ensures ∙ c.if-counts_broken.true)

pub overflow_sub-result : goal.overflow_sub-result
overflow_sub-result c = let n = numbers c.args.self (sym c.numbers_broken.ensures ∙ c.if-numbers_broken.false) in let ordered = n.ordered in omega arith

pub returns : goal.returns
returns c = numbers_accepted c.args.self Err (Ok (outstanding c.args.self)) (sym c.numbers_broken.ensures ∙ c.if-numbers_broken.false) (sym c.counts_broken.ensures ∙ c.if-counts_broken.false)
