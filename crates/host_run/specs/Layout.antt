-- Index by index: the setup that a host writes into numbers and doubles, and the outcome that it reads from words. The
-- names of the indices are those of include/pindrelo.h.
use Rattle.std.specs.Prelude.{ℕ, ◌≤◌, ◌<◌, ◌≡◌, cond, List, [], ◌∷◌, length, get_or, drop, Float, Err, Ok, Result}
use Rattle.std.specs.Float.{nan}
use Rattle.refusal.specs.declared.Refusal.TheVariants.{State, Setup}
use Rattle.protocol.specs.declared.ProtocolType.{ProtocolType}
use Rattle.protocol.specs.declared.ProtocolType.TheVariants as protocol
use Rattle.session.specs.Sending.{window_of}
use Rattle.session.specs.Receiving.{base, filled}
use Rattle.setup.specs.declared.ClockChoice.{ClockChoice}
use Rattle.setup.specs.declared.ClockChoice.TheVariants as clock
use Rattle.setup.specs.declared.TransferConfig.{TransferConfig}
use Rattle.transfer.specs.declared.Outcome.{Outcome}
use Rattle.host_words.specs.Words.{receiver_fields}
use Rattle.host_run.specs.Setup.{setup_numbers, setup_doubles}
use Rattle.host_run.specs.Outcome.{outcome_words, end_word}
use Rattle.refusal.specs.declared.Refusal.{Refusal}

abbrev pub protocol_number : ProtocolType → ℕ
protocol_number protocol.StopAndWait = 1
protocol_number protocol.GoBackN = 2
protocol_number protocol.SelectiveRepeat = 3

abbrev pub clock_number : ClockChoice → ℕ
clock_number clock.Source = 1
clock_number clock.Edition = 2

-- numbers and doubles that hold a setup
pub record SetupAt (c : TransferConfig) (s : List ℕ) (d : List Float) : Type 0 where
  pub numbers : setup_numbers ≤ length s
  pub doubles : setup_doubles ≤ length d
  pub protocol : get_or s 0 0 ≡ protocol_number c.protocol
  pub clock : get_or s 1 0 ≡ clock_number c.clock
  pub window : get_or s 2 0 ≡ c.window_size
  pub chunk : get_or s 3 0 ≡ c.chunk_size
  pub reorder_extra_ms : get_or s 4 0 ≡ c.channel.reorder_extra_ms
  pub base_delay_ms : get_or s 5 0 ≡ c.channel.base_delay_ms
  pub jitter_ms : get_or s 6 0 ≡ c.channel.jitter_ms
  pub initial_rto : get_or s 7 0 ≡ c.rto.initial_rto
  pub min_rto : get_or s 8 0 ≡ c.rto.min_rto
  pub max_rto : get_or s 9 0 ≡ c.rto.max_rto
  pub granularity : get_or s 10 0 ≡ c.rto.granularity
  pub max_virtual_time : get_or s 11 0 ≡ c.max_virtual_time
  pub max_retransmissions : get_or s 12 0 ≡ c.max_retransmissions
  pub loss : get_or d 0 nan ≡ c.channel.loss
  pub duplicate : get_or d 1 nan ≡ c.channel.duplicate
  pub reorder : get_or d 2 nan ≡ c.channel.reorder
  pub corrupt : get_or d 3 nan ≡ c.channel.corrupt
  pub alpha : get_or d 4 nan ≡ c.rto.alpha
  pub beta : get_or d 5 nan ≡ c.rto.beta
  pub k : get_or d 6 nan ≡ c.rto.k
  pub rto_multiplier : get_or d 7 nan ≡ c.rto.rto_multiplier

-- how a host writes a setup
abbrev pub numbers_of : TransferConfig → List ℕ
numbers_of c =
    protocol_number c.protocol ∷ clock_number c.clock ∷ c.window_size ∷ c.chunk_size
    ∷ c.channel.reorder_extra_ms ∷ c.channel.base_delay_ms ∷ c.channel.jitter_ms
    ∷ c.rto.initial_rto ∷ c.rto.min_rto ∷ c.rto.max_rto ∷ c.rto.granularity
    ∷ c.max_virtual_time ∷ c.max_retransmissions ∷ []

abbrev pub doubles_of : TransferConfig → List Float
doubles_of c =
    c.channel.loss ∷ c.channel.duplicate ∷ c.channel.reorder ∷ c.channel.corrupt
    ∷ c.rto.alpha ∷ c.rto.beta ∷ c.rto.k ∷ c.rto.rto_multiplier ∷ []

-- What is read from numbers and doubles: the setup that they hold; a 9 where either are too few; a 4 where they are
-- enough and number 0 is no protocol's, or number 1 no clock's.
pub data SetupRead (s : List ℕ) (d : List Float) : Result TransferConfig Refusal → Type 0 where
  config : (c : TransferConfig) → SetupAt c s d → SetupRead s d (Ok c)
  few_numbers : length s < setup_numbers → SetupRead s d (Err State)
  few_doubles : length d < setup_doubles → SetupRead s d (Err State)
  no_protocol : setup_numbers ≤ length s → setup_doubles ≤ length d
      → ((p : ProtocolType) → get_or s 0 0 ≡ protocol_number p → ⊥) → SetupRead s d (Err Setup)
  no_clock : setup_numbers ≤ length s → setup_doubles ≤ length d
      → ((k : ClockChoice) → get_or s 1 0 ≡ clock_number k → ⊥) → SetupRead s d (Err Setup)

-- words that hold an outcome, and behind them what was there
pub record OutcomeAt (o : Outcome) (before words : List ℕ) : Type 0 where
  pub completed : get_or words 0 0 ≡ cond o.completed 1 0
  pub finished_at : get_or words 1 0 ≡ o.finished_at
  pub end : get_or words 2 0 ≡ end_word o.end
  pub retx_submitted : get_or words 3 0 ≡ o.driver.retx_submitted
  pub premature : get_or words 4 0 ≡ o.driver.premature
  pub data_received : get_or words 5 0 ≡ o.driver.data_received
  pub ack_sent : get_or words 6 0 ≡ o.driver.ack_sent
  pub ack_received : get_or words 7 0 ≡ o.driver.ack_received
  pub duplicate_data : get_or words 8 0 ≡ o.driver.duplicate_data
  pub duplicate_acks : get_or words 9 0 ≡ o.driver.duplicate_acks
  pub events : get_or words 10 0 ≡ o.driver.events
  pub sender_base : get_or words 11 0 ≡ (window_of o.sender).send_base
  pub total_sent : get_or words 12 0 ≡ (window_of o.sender).total_sent
  pub retransmissions : get_or words 13 0 ≡ (window_of o.sender).retransmissions
  pub receiver_base : get_or words 14 0 ≡ base o.receiver
  pub fill_mark : get_or words 15 0 ≡ filled o.receiver
  pub total_received : get_or words 16 0 ≡ (receiver_fields o.receiver.state).received
  pub second_counter : get_or words 17 0 ≡ (receiver_fields o.receiver.state).second
  pub third_counter : get_or words 18 0 ≡ (receiver_fields o.receiver.state).third
  pub forward_seen : get_or words 19 0 ≡ o.forward.packets_seen
  pub forward_lost : get_or words 20 0 ≡ o.forward.lost
  pub forward_corrupted : get_or words 21 0 ≡ o.forward.corrupted
  pub forward_duplicated : get_or words 22 0 ≡ o.forward.duplicated
  pub forward_reordered : get_or words 23 0 ≡ o.forward.reordered
  pub forward_copies : get_or words 24 0 ≡ o.forward.copies_delivered
  pub reverse_seen : get_or words 25 0 ≡ o.reverse.packets_seen
  pub reverse_lost : get_or words 26 0 ≡ o.reverse.lost
  pub reverse_corrupted : get_or words 27 0 ≡ o.reverse.corrupted
  pub reverse_duplicated : get_or words 28 0 ≡ o.reverse.duplicated
  pub reverse_reordered : get_or words 29 0 ≡ o.reverse.reordered
  pub reverse_copies : get_or words 30 0 ≡ o.reverse.copies_delivered
  pub behind : drop outcome_words words ≡ drop outcome_words before
