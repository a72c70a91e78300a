-- Document 01, demand 3, of `run_transfer`: what a run that wasn't refused has written.
use Rattle.std.specs.Prelude.{ℕ, ◌≤◌, ◌≡◌, true, List, length, take}
use Rattle.chunks.specs.Chunks.{chunks_of}
use Rattle.events.specs.Events.{ForwardEvent, events_of}
use Rattle.session.specs.Sending.{SenderEnd, sender_end, slot_count}
use Rattle.session.specs.Receiving.{ReceiverEnd, receiver_end, filled}
use Rattle.setup.specs.declared.TransferConfig.{TransferConfig}
use Rattle.completion.specs.Flips.{FlipsOutside}
use Rattle.completion.specs.Delivered.{FirstDelivered, delivered_to}
use Rattle.prefixes.specs.Prefixes.{PrefixesWritten}
use Rattle.step.specs.State.{Given, Lent}
use Rattle.transfer.specs.declared.Outcome.{Outcome}

-- the file's chunks, and the events, both ends and what was written, at the end
abbrev pub file_chunks : TransferConfig → Given → List (List ℕ)
file_chunks c g = chunks_of c.chunk_size g.file

abbrev pub events_at : Outcome → Lent → List ForwardEvent
events_at o l = events_of o.driver.events l.events

abbrev pub sender_at : Outcome → Lent → SenderEnd
sender_at o l = sender_end o.sender l.sender_store

abbrev pub receiver_at : Outcome → Lent → ReceiverEnd
receiver_at o l = receiver_end o.receiver l.receiver_store

abbrev pub written_at : Outcome → Lent → List ℕ
written_at o l = take (filled o.receiver) l.output

-- Where no bit was flipped in the length bytes: the delivered chunks are the first ones, the distance is within the
-- window, nothing else was written, and a run that says completed has written exactly the file. On any rolls: each
-- delivered part is a prefix of its chunk, the fill mark is at most the file's length, and a run that says completed
-- with the mark at that length has written exactly the file; one that delivered as many parts as there are chunks says
-- completed.
pub record Delivered (c : TransferConfig) (g : Given) (before : Lent) (o : Outcome) (after : Lent) : Type 0 where
  pub first : FlipsOutside c.channel g.forward_rolls (file_chunks c g) (events_at o after)
      → FirstDelivered (file_chunks c g) (slot_count c.protocol c.window_size) before.output (sender_at o after)
      (receiver_at o after) after.output
  pub whole : FlipsOutside c.channel g.forward_rolls (file_chunks c g) (events_at o after)
      → o.completed ≡ true → written_at o after ≡ g.file
  pub fill : filled o.receiver ≤ length g.file
  pub prefixes : PrefixesWritten (file_chunks c g) before.output (receiver_at o after) after.output
  pub said : length (file_chunks c g) ≤ delivered_to (receiver_at o after) → o.completed ≡ true
  pub same_length : o.completed ≡ true → filled o.receiver ≡ length g.file → written_at o after ≡ g.file
