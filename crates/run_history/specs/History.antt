-- Document 01, "Links that would ruin a book" (demand 2): the answer of `run_transfer` from the history of its calls.
use Rattle.std.specs.Prelude.{ℕ, ◌+◌, ◌≤◌, ◌≡◌, length, take}
use mathlib.Core.List.{List, [], drop_last}
use Rattle.channel.specs.History as channel
use Rattle.rto.specs.History as rto
use Rattle.rto.specs.Rto.{fresh}
use Rattle.events.specs.Events.{events_of}
use Rattle.chunks.specs.Chunks.{chunks_of}
use Rattle.session.specs.Sending.{sender_end, window_of, new_sender}
use Rattle.session.specs.Receiving.{receiver_end, new_receiver}
use Rattle.setup.specs.declared.TransferConfig.{TransferConfig}
use Rattle.step.specs.State.{Given, Lent}
use Rattle.transfer.specs.Start.{reverse_config}
use Rattle.transfer.specs.declared.Ceilings.{Ceilings}
use Rattle.transfer.specs.declared.DriverCounts.{DriverCounts}
use Rattle.transfer.specs.declared.Outcome.{Outcome}
use Rattle.run_history.specs.Calls.{Call, Ends, ends, after_calls, collect, total, chunk_by}
use Rattle.run_history.specs.Calls.{Submission, submitted_by, replied_by}
use Rattle.run_history.specs.Calls.{arrived_in, returned_in, data_in, duplicate_data_in, acks_in, duplicate_acks_in}
use Rattle.run_history.specs.Lines.{count, carried_of, forward_wires, reverse_wires, packets, events_from}
use Rattle.run_history.specs.Samples.{estimated_in}
use Rattle.run_history.specs.Copies.{copies_from, arrived_by, returned_by, Came}
use Rattle.run_history.specs.Answered.{Each, NotRefused, Taken, Whole}
use Rattle.run_history.specs.Premature.{premature_in}

-- both ends as made, and at the end of a run
abbrev pub start_ends : Ceilings → TransferConfig → Lent → Ends
start_ends k c l =
    ends (new_sender c.protocol c.window_size k.retries l.sender_store)
    (new_receiver c.protocol c.window_size l.receiver_store) l.output

abbrev pub ends_at : Outcome → Lent → Ends
ends_at o l = ends (sender_end o.sender l.sender_store) (receiver_end o.receiver l.receiver_store) l.output

-- the driver's counts that calls from the ends e give
abbrev pub counts_from : TransferConfig → Given → Ends → List Call → DriverCounts
counts_from c g e cs = record {
  retx_submitted = count (λ (x : Submission). x.again) (collect submitted_by e cs);
  premature = premature_in c.channel g.forward_rolls e [] cs;
  data_received = total data_in e cs;
  ack_sent = length (collect replied_by e cs);
  ack_received = total acks_in e cs;
  duplicate_data = total duplicate_data_in e cs;
  duplicate_acks = total duplicate_acks_in e cs;
  events = length (carried_of (collect submitted_by e cs));
}

-- the copies that the packets carried in calls from the ends e are granted, on either line
abbrev pub forward_copies : TransferConfig → Given → Ends → List Call → List (List ℕ)
forward_copies c g e cs = copies_from c.channel g.forward_rolls 0 (forward_wires (collect submitted_by e cs))

abbrev pub reverse_copies : TransferConfig → Given → Ends → List Call → List (List ℕ)
reverse_copies c g e cs =
    copies_from (reverse_config c.channel) g.reverse_rolls 0 (reverse_wires (collect replied_by e cs))

-- Calls from the ends e tell an answer and what it leaves in lent memory:
pub record Tell (c : TransferConfig) (g : Given) (e : Ends) (cs : List Call) (o : Outcome) (l : Lent) : Type 0 where
  -- they lead to both ends, with their stores and the output; none is refused; all but the last are carried whole
  pub ends_are : after_calls e cs ≡ ends_at o l
  pub none_refused : Each NotRefused e cs
  pub all_carried : Each Whole e (drop_last cs)
  -- the chunks sent are the file's first
  pub chunks_are : collect chunk_by e cs
      ≡ take (window_of o.sender).next_seq_num (chunks_of c.chunk_size g.file)
  -- what was handed to the lines leads to the channels' counters
  pub forward_is : channel.tallies c.channel (packets g.forward_rolls (forward_wires (collect submitted_by e cs)))
      ≡ o.forward
  pub reverse_is : channel.tallies (reverse_config c.channel)
      (packets g.reverse_rolls (reverse_wires (collect replied_by e cs))) ≡ o.reverse
  -- the copies that came are, each once, of those granted before; so no more came than were granted
  pub arrivals : List ℕ
  pub arrivals_are : Came (forward_copies c g e) arrived_by cs arrivals
  pub returns : List ℕ
  pub returns_are : Came (reverse_copies c g e) returned_by cs returns
  pub arrivals_few : total arrived_in e cs ≤ o.forward.copies_delivered
  pub returns_few : total returned_in e cs ≤ o.reverse.copies_delivered
  -- the estimator's calls lead to the estimator, which refuses none
  pub estimator_is : rto.after_calls c.rto (estimated_in e [] cs) ≡ o.estimator
  pub estimates_taken : Taken (fresh c.rto) (estimated_in e [] cs)
  -- the driver's counts are those of the list, the events those of the packets carried forward, in order
  pub counts_are : counts_from c g e cs ≡ o.driver
  pub events_are : events_from c.channel g.forward_rolls 0 (carried_of (collect submitted_by e cs))
      ≡ events_of o.driver.events l.events

-- there are such calls from the ends as made
pub record History (k : Ceilings) (c : TransferConfig) (g : Given) (before : Lent) (o : Outcome) (l : Lent)
    : Type 0 where
  pub calls : List Call
  pub tell : Tell c g (start_ends k c before) calls o l

-- what follows for the answer and the rows alone: a row for each event, no more Data and ACKs than copies, and at most
-- a sample for each ACK
pub record Few (o : Outcome) (l : Lent) : Type 0 where
  pub events : o.driver.events ≤ length l.events
  pub datas : o.driver.data_received ≤ o.forward.copies_delivered
  pub acks : o.driver.ack_received ≤ o.reverse.copies_delivered
  pub samples : o.estimator.stats.sample_count + o.estimator.stats.karn_rejected_count
      ≤ o.driver.ack_received
