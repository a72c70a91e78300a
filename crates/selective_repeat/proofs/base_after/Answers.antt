use Prim.Native.Nat.{◌+◌, ◌-◌}
use mathlib.Core.Bool.{true}
use native.Mathlib.Omega.{arith}
use borrow.Author.Tests.{eq-eqb, ne_eqb}
use Rattle.store.proofs.Laws.{run_within}
use Rattle.window.specs.State.{outstanding}
use Rattle.window.proofs.Laws.{sound}
use Rattle.selective_repeat.proofs.Due.{in_window}
use Rattle.selective_repeat.proofs.base_after.Goals as goal

pub returns-then-n-base : goal.returns-then-n-base
returns-then-n-base c = rw (ne_eqb _ _ c.if-n-base.true) (omega arith)

pub overflow_sub-others : goal.overflow_sub-others
overflow_sub-others c = let s = sound true c.args.window c.args.store.now c.requires.store_value in let within = in_window c.args.window c.args.n c.requires.n_value in let from = within.0 in let below = within.1 in omega arith

pub overflow_sub-others-2 : goal.overflow_sub-others-2
overflow_sub-others-2 c = let s = sound true c.args.window c.args.store.now c.requires.store_value in let within = in_window c.args.window c.args.n c.requires.n_value in let from = within.0 in let below = within.1 in omega arith

pub overflow_add-base : goal.overflow_add-base
overflow_add-base c = let s = sound true c.args.window c.args.store.now c.requires.store_value in let within = in_window c.args.window c.args.n c.requires.n_value in let from = within.0 in let below = within.1 in omega arith

pub marked_run_unchecked-run-requires : goal.marked_run_unchecked-run-requires
marked_run_unchecked-run-requires c = let s = sound true c.args.window c.args.store.now c.requires.store_value in let within = in_window c.args.window c.args.n c.requires.n_value in let from = within.0 in let below = within.1 in let few = s.few in let small = s.small in (s.positive, s.room, omega arith)

pub overflow_add-result : goal.overflow_add-result
overflow_add-result c = let s = sound true c.args.window c.args.store.now c.requires.store_value in let within = in_window c.args.window c.args.n c.requires.n_value in let from = within.0 in let below = within.1 in omega arith

pub overflow_cast-result : goal.overflow_cast-result
overflow_cast-result c = let s = sound true c.args.window c.args.store.now c.requires.store_value in let within = in_window c.args.window c.args.n c.requires.n_value in let from = within.0 in let below = within.1 in let run = run_within 2 c.args.store.now c.args.window.window_size (c.args.window.send_base + 1) (outstanding c.args.window - 1) in let r = c.marked_run_unchecked-run.ensures in let few = s.few in let small = s.small in omega arith

pub overflow_add-result-2 : goal.overflow_add-result-2
overflow_add-result-2 c = let s = sound true c.args.window c.args.store.now c.requires.store_value in let within = in_window c.args.window c.args.n c.requires.n_value in let from = within.0 in let below = within.1 in let run = run_within 2 c.args.store.now c.args.window.window_size (c.args.window.send_base + 1) (outstanding c.args.window - 1) in let r = c.marked_run_unchecked-run.ensures in let few = s.few in let small = s.small in omega arith

pub returns : goal.returns
returns c = rw (eq-eqb _ _ c.if-n-base.false, c.marked_run_unchecked-run.ensures) (omega arith)
