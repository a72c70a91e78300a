-- What a run ends with, in lent words, 31 at least: 0 completed, 1 finished_at, 2 the end (0 ended, 1 rolls spent, 2
-- events full, 3 schedule full); the driver's 3 retx_submitted, 4 premature, 5 data_received, 6 ack_sent, 7
-- ack_received, 8 duplicate_data, 9 duplicate_acks, 10 events; the sender's 11 base, 12 total_sent, 13 retransmissions;
-- the receiver's 14 base, 15 fill mark, 16 total_received, 17 and 18 its other two counters; of the forward channel 19
-- packets_seen, 20 lost, 21 corrupted, 22 duplicated, 23 reordered, 24 copies_delivered; 25 to 30 of the reverse one.
-- The estimator is in words and doubles of its own.
use Rattle.std.specs.Prelude.{ℕ, List, [], ◌∷◌, ◌++◌, Bool, cond, drop}
use Rattle.channel.specs.declared.ChannelStats.{ChannelStats}
use Rattle.window.specs.declared.SendWindow.{SendWindow}
use Rattle.session.specs.Sending.{window_in}
use Rattle.host_words.specs.Words.{receiver_fields}
use Rattle.host_words.specs.declared.ReceiverFields.{ReceiverFields}
use Rattle.step.specs.declared.End.{End}
use Rattle.step.specs.declared.End.TheVariants as ends
use Rattle.transfer.specs.declared.DriverCounts.{DriverCounts}
use Rattle.transfer.specs.declared.Outcome.{Outcome}

abbrev pub outcome_words : ℕ
outcome_words = 31

abbrev pub end_word : End → ℕ
end_word ends.Ended = 0
end_word ends.RollsSpent = 1
end_word ends.EventsFull = 2
end_word ends.ScheduleFull = 3

abbrev pub course_words : Bool → ℕ → End → List ℕ
course_words completed at end = cond completed 1 0 ∷ at ∷ end_word end ∷ []

abbrev pub driver_words : DriverCounts → List ℕ
driver_words d =
    d.retx_submitted ∷ d.premature ∷ d.data_received ∷ d.ack_sent ∷ d.ack_received
    ∷ d.duplicate_data ∷ d.duplicate_acks ∷ d.events ∷ []

abbrev pub sender_words : SendWindow → List ℕ
sender_words w = w.send_base ∷ w.total_sent ∷ w.retransmissions ∷ []

abbrev pub receiver_words : ReceiverFields → List ℕ
receiver_words f = f.base ∷ f.filled ∷ f.received ∷ f.second ∷ f.third ∷ []

abbrev pub channel_words : ChannelStats → List ℕ
channel_words s =
    s.packets_seen ∷ s.lost ∷ s.corrupted ∷ s.duplicated ∷ s.reordered ∷ s.copies_delivered ∷ []

abbrev pub words_of : Outcome → List ℕ
words_of o =
    course_words o.completed o.finished_at o.end ++ driver_words o.driver
    ++ sender_words (window_in o.sender.state) ++ receiver_words (receiver_fields o.receiver.state)
    ++ channel_words o.forward ++ channel_words o.reverse

unfoldable pub with_outcome : List ℕ → Outcome → List ℕ
with_outcome s o = words_of o ++ drop outcome_words s
