use mathlib.Core.Path.{sym, ◌∙◌}
use Rattle.refusal.proofs.Laws.{on_accepted, on_refused}
use Rattle.window.proofs.Laws.{sound_numbers, numbers_not_broken}
use Rattle.host_answer.specs.Answer.{refusal_answer}
use Rattle.host_ends.proofs.Calls.{sender_sound}
use Rattle.host_ends.proofs.is_retransmitted_in.Goals as goal

pub window_unchecked-requires : goal.window_unchecked-requires
window_unchecked-requires c = numbers_not_broken _ (sound_numbers (sender_sound c.args.sender c.args.store.now c.check_sender.ensures c.in-Ok.is))

pub sent_again-requires : goal.sent_again-requires
sent_again-requires c = let s = (sender_sound c.args.sender c.args.store.now c.check_sender.ensures c.in-Ok.is) in record { window_size_nonzero = rw c.window_unchecked.ensures s.positive; slot_size_in_bounds = rw c.window_unchecked.ensures s.room }

pub returns-in-Ok : goal.returns-in-Ok
returns-in-Ok c = rw (c.sent_again.ensures, c.window_unchecked.ensures) (sym (on_accepted refusal_answer _ (sym c.check_sender.ensures ∙ c.in-Ok.is)))

pub returns-in-Err : goal.returns-in-Err
returns-in-Err c = rw c.refusal_answer.ensures (sym (on_refused refusal_answer _ (sym c.check_sender.ensures ∙ c.in-Err.is)))
