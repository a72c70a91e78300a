-- Document 01, demand 3, of a run for a host, by what the host lends and reads alone: the numbers and doubles of the
-- setup, the words of the outcome, the events and the output.
use Rattle.std.specs.Prelude.{ℕ, ◌+◌, ◌≤◌, ◌≡◌, cond, eqb, Float, length, get_or, take, drop}
use mathlib.Core.List.{List, flatten}
use Rattle.chunks.specs.Chunks.{chunks_of}
use Rattle.events.specs.Events.{events_of}
use Rattle.completion.specs.Flips.{FlipsOutside}
use Rattle.step.specs.State.{Given, Lent}
use Rattle.host_answer.specs.Answer.{Refusing}
use Rattle.host_run.specs.Setup.{channel_in}
use Rattle.host_run.specs.Run.{Results, HostRunExit, host_run_exit}
use Rattle.host_run.specs.Made.{IsDone}

-- what a host reads when the call returns
abbrev pub word : HostRunExit → ℕ → ℕ
word y i = get_or y.results.words i 0

abbrev pub completed_word : HostRunExit → ℕ
completed_word y = word y 0

abbrev pub event_count : HostRunExit → ℕ
event_count y = word y 10

abbrev pub sender_base : HostRunExit → ℕ
sender_base y = word y 11

abbrev pub receiver_base : HostRunExit → ℕ
receiver_base y = word y 14

abbrev pub fill_mark : HostRunExit → ℕ
fill_mark y = word y 15

abbrev pub written : HostRunExit → List ℕ
written y = take (fill_mark y) y.lent.output

-- the file's chunks, and the window, by the numbers of the setup: Stop-and-Wait's is 1, whatever they name
abbrev pub chunks_in : List ℕ → Given → List (List ℕ)
chunks_in s g = chunks_of (get_or s 3 0) g.file

abbrev pub window_in : List ℕ → ℕ
window_in s = cond (eqb (get_or s 0 0) 1) 1 (get_or s 2 0)

-- no bit was flipped in the length bytes: of the events that were written, by the channel of the setup and the rolls
abbrev pub NoLengthFlips : List ℕ → List Float → Given → HostRunExit → Type 0
NoLengthFlips s d g y =
    FlipsOutside (channel_in s d) g.forward_rolls (chunks_in s g) (events_of (event_count y) y.lent.events)

-- A run that is done. On any rolls: completed with the fill mark at the file's length, what was written is the file;
-- nothing else was written; the mark is never above that length, nor that above the output's. Where no bit was flipped
-- in the length bytes: completed, what was written is the file; completed or not, it is the first chunks joined.
pub record HostDelivered (s : List ℕ) (d : List Float) (g : Given) (l : Lent) (y : HostRunExit) : Type 0 where
  pub exact : completed_word y ≡ 1 → fill_mark y ≡ length g.file → written y ≡ g.file
  pub nothing_else : drop (fill_mark y) y.lent.output ≡ drop (fill_mark y) l.output
  pub mark : fill_mark y ≤ length g.file
  pub room : length g.file ≤ length l.output
  pub said : length (chunks_in s g) ≤ receiver_base y → completed_word y ≡ 1
  pub whole : NoLengthFlips s d g y → completed_word y ≡ 1 → written y ≡ g.file
  pub first : NoLengthFlips s d g y → written y ≡ flatten (take (receiver_base y) (chunks_in s g))
  pub not_negative : NoLengthFlips s d g y → sender_base y ≤ receiver_base y
  pub in_window : NoLengthFlips s d g y → receiver_base y ≤ sender_base y + window_in s

-- every call: done, or refused by its number, and then all that was lent is as it was
pub record RunExact (s : List ℕ) (d : List Float) (g : Given) (l : Lent) (x : Results) (y : HostRunExit) : Type 0 where
  pub done : IsDone y → HostDelivered s d g l y
  pub else_refused : (IsDone y → ⊥) → Refusing y.answer
  pub unchanged : Refusing y.answer → y ≡ host_run_exit y.answer l x
