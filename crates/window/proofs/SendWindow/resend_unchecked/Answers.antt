use mathlib.Core.Path.{◌≡◌, refl, sym, ap, ◌∙◌}
use mathlib.Core.Bool.{false}
use Prim.Native.Nat.{◌≤◌}
use mathlib.Core.List.{◌++◌}
use lib.ListN.{length, drop}
use native.Mathlib.Omega.{arith}
use Rattle.window.specs.Slots.{Sender, sender}
use Rattle.window.specs.Resending.{datagrams_from, mark_from, sent_again}
use Rattle.window.proofs.Resending.{mark_from_lem, marked_by, marked_resendable, same_lengths, resend_nothing, resend_full, resend_some}
use Rattle.window.proofs.SendWindow.resend_unchecked.Goals as goal

pub returns-then-count-eq0 : goal.returns-then-count-eq0
returns-then-count-eq0 c = resend_nothing false false (sender c.args.self c.args.store.now) c.args.first c.args.count c.args.out.now refl refl c.if-count-eq0.true

pub returns-then-out-total : goal.returns-then-out-total
returns-then-out-total c = let same = same_lengths (sender c.args.self c.args.store.now) (mark_from (sender c.args.self c.args.store.now) c.args.first c.args.count) c.args.first c.args.count (mark_from_lem (sender c.args.self c.args.store.now) c.args.first c.args.count) c.requires.resendable in let total = c.datagrams_length_unchecked-total.ensures in resend_full false false (sender c.args.self c.args.store.now) c.args.first c.args.count c.args.out.now refl refl (omega arith)

pub write_datagrams_unchecked-requires : goal.write_datagrams_unchecked-requires
write_datagrams_unchecked-requires c = let same = same_lengths (sender c.args.self c.args.store.now) (mark_from (sender c.args.self c.args.store.now) c.args.first c.args.count) c.args.first c.args.count (mark_from_lem (sender c.args.self c.args.store.now) c.args.first c.args.count) c.requires.resendable in let total = c.datagrams_length_unchecked-total.ensures in let w = sender c.mark_retransmitted_from_unchecked-window.result c.mark_retransmitted_from_unchecked-window.new.store in let e : w ≡ mark_from (sender c.args.self c.args.store.now) c.args.first c.args.count = c.mark_retransmitted_from_unchecked-window.ensures in let fit : length (sent_again (sender c.args.self c.args.store.now) c.args.first c.args.count) ≤ length c.args.out.now = omega arith in record { resendable = marked_resendable (sender c.args.self c.args.store.now) w c.args.first c.args.count (marked_by (sender c.args.self c.args.store.now) w c.args.first c.args.count e) c.requires.resendable; count_in_bounds = rw e fit }

pub returns : goal.returns
returns c = let same = same_lengths (sender c.args.self c.args.store.now) (mark_from (sender c.args.self c.args.store.now) c.args.first c.args.count) c.args.first c.args.count (mark_from_lem (sender c.args.self c.args.store.now) c.args.first c.args.count) c.requires.resendable in let total = c.datagrams_length_unchecked-total.ensures in resend_some false false (sender c.args.self c.args.store.now) c.args.first c.args.count c.args.out.now _ _ _ refl refl c.if-count-eq0.false (omega arith) (total ∙ sym same) c.mark_retransmitted_from_unchecked-window.ensures (c.write_datagrams_unchecked.ensures ∙ ap (λ (w : Sender). datagrams_from w c.args.first c.args.count ++ drop (length (datagrams_from w c.args.first c.args.count)) c.args.out.now) c.mark_retransmitted_from_unchecked-window.ensures)
