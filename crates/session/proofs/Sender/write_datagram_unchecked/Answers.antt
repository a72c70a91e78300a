use mathlib.Core.Path.{sym, ap, ◌∙◌}
use mathlib.Core.List.{List, ◌++◌}
use Prim.Native.Nat.{ℕ}
use lib.ListN.{length, drop}
use Rattle.window.specs.Slots.{sender, datagram_for}
use Rattle.window.specs.declared.SendWindow.{SendWindow}
use Rattle.session.specs.Sending.{sender_end, window_end}
use Rattle.session.proofs.Windows.{unbroken_numbers, can_write}
use Rattle.session.proofs.Sender.write_datagram_unchecked.Goals as goal

pub window_unchecked-window-requires : goal.window_unchecked-window-requires
window_unchecked-window-requires c = unbroken_numbers (sender_end c.args.self c.args.store.now) c.requires.state

pub write_datagram_unchecked-requires : goal.write_datagram_unchecked-requires
write_datagram_unchecked-requires c = let both = can_write (sender_end c.args.self c.args.store.now) _ _ c.requires c.window_unchecked-window.ensures in record { window_size_nonzero = both.0; seq_num_bound = both.1 }

pub returns : goal.returns
returns c = record { value = c.write_datagram_unchecked.ensures.value ∙ ap length (ap (λ (w : SendWindow). datagram_for (sender w c.args.store.now) c.args.seq_num) c.window_unchecked-window.ensures); out_after = c.write_datagram_unchecked.ensures.out_after ∙ ap (λ (l : List ℕ). l ++ drop (length (datagram_for (sender c.window_unchecked-window.result c.args.store.now) c.args.seq_num)) c.args.out.now) (ap (λ (w : SendWindow). datagram_for (sender w c.args.store.now) c.args.seq_num) c.window_unchecked-window.ensures) ∙ ap (λ (n : ℕ). datagram_for (window_end (sender_end c.args.self c.args.store.now)) c.args.seq_num ++ drop n c.args.out.now) (sym c.write_datagram_unchecked.ensures.value) }
