use mathlib.Core.Path.{ap, ◌∙◌}
use mathlib.Core.Bool.{true}
use native.Mathlib.Omega.{arith}
use Rattle.store.proofs.Laws.{slot_in}
use Rattle.window.specs.Slots.{sender, release}
use Rattle.window.proofs.Laws.{sound}
use Rattle.selective_repeat.proofs.Due.{in_window}
use Rattle.selective_repeat.proofs.Advance.{marked_only, released_only}
use Rattle.selective_repeat.proofs.acknowledge_one.Goals as goal

pub nonzero_rem-n : goal.nonzero_rem-n
nonzero_rem-n c = (sound true c.args.window c.args.store.now c.requires.store_value.0).positive

pub set_mark_unchecked-requires : goal.set_mark_unchecked-requires
set_mark_unchecked-requires c = let s = sound true c.args.window c.args.store.now c.requires.store_value.0 in slot_in c.args.store.now c.args.n c.args.window.window_size s.positive s.room

pub returns-then-base-window : goal.returns-then-base-window
returns-then-base-window c = let s = sound true c.args.window c.args.store.now c.requires.store_value.0 in let within = in_window c.args.window c.args.n c.requires.store_value.1 in let moved = c.requires.base_value in let same = c.if-base-window.true in ap (sender c.args.window) c.set_mark_unchecked.ensures ∙ marked_only (sender c.args.window c.args.store.now) c.args.n s within.0 within.1 (omega arith)

pub release_unchecked-requires : goal.release_unchecked-requires
release_unchecked-requires c = let s = sound true c.args.window c.args.store.now c.requires.store_value.0 in let moved = c.requires.base_value in record { window_size_nonzero = (s.positive, s.room); send_base_bound = omega arith; clean = c.requires.clean }

pub returns : goal.returns
returns c = let s = sound true c.args.window c.args.store.now c.requires.store_value.0 in let within = in_window c.args.window c.args.n c.requires.store_value.1 in let moved = c.requires.base_value in let other = c.if-base-window.false in c.release_unchecked.ensures ∙ ap (release (sender c.args.window c.args.store.now)) moved ∙ released_only (sender c.args.window c.args.store.now) c.args.n s within.0 within.1 (λ e. other (omega arith))
