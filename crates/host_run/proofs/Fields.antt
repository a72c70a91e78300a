-- What is read from numbers and doubles is the setup that they hold; every setup can be written; each word of an
-- outcome is its field.
use Rattle.std.specs.Prelude.{Err, Ok, Result}
use Prim.Native.Nat.{ℕ, ◌≤◌}
use mathlib.Core.Path.{◌≡◌, refl, ap, ◌∙◌, subst}
use mathlib.Core.Bool.{Bool, true, false, cond}
use mathlib.Core.List.{List, [], ◌∷◌, ◌++◌}
use native.Mathlib.Omega.{arith}
use borrow.Author.Tests.{ltb-true, ltb-false, le-ltb, eqb-true, eqb-false}
use lib.Dec.{eqb, ltb}
use lib.ListN.{length, get_or}
use lib.Ieee.{Float}
use Rattle.refusal.specs.Clauses.{any_of}
use Rattle.refusal.specs.declared.Refusal.TheVariants.{State, Setup}
use Rattle.protocol.specs.declared.ProtocolType.{ProtocolType}
use Rattle.protocol.specs.declared.ProtocolType.TheVariants as protocol
use Rattle.session.specs.Receiving.{base_in, filled_in}
use Rattle.session.specs.declared.ReceiverState.{ReceiverState}
use Rattle.session.specs.declared.ReceiverState.TheVariants as receiverState
use Rattle.setup.specs.declared.ClockChoice.{ClockChoice}
use Rattle.setup.specs.declared.ClockChoice.TheVariants as clock
use Rattle.setup.specs.declared.TransferConfig.{TransferConfig}
use Rattle.transfer.specs.declared.Outcome.{Outcome}
use Rattle.host_words.specs.Words.{receiver_fields}
use Rattle.host_run.specs.Setup.{setup_numbers, setup_doubles, channel_in, rto_in, config_in, by_clock, setup_short, read_setup}
use Rattle.host_run.specs.Layout.{protocol_number, clock_number, SetupAt, numbers_of, doubles_of, SetupRead, config, few_numbers, few_doubles, no_protocol, no_clock, OutcomeAt}
use Rattle.host_run.specs.Outcome.{with_outcome}
use Rattle.refusal.specs.declared.Refusal.{Refusal}

-- ---- the setup
module _ (s : List ℕ) (d : List Float) where
  -- what numbers and doubles that are enough say
  abbrev by_protocol : Result TransferConfig Refusal
  by_protocol =
      cond (eqb (get_or s 0 0) 1) (by_clock s d protocol.StopAndWait)
      (cond (eqb (get_or s 0 0) 2) (by_clock s d protocol.GoBackN) (cond (eqb (get_or s 0 0) 3) (by_clock s d protocol.SelectiveRepeat) (Err Setup)))

  config_at : (p : ProtocolType) (k : ClockChoice) → setup_numbers ≤ length s → setup_doubles ≤ length d → get_or s 0 0 ≡ protocol_number p
      → get_or s 1 0 ≡ clock_number k → SetupAt (config_in s d p k) s d
  config_at p k numbers doubles e f =
      record {
        numbers = numbers;
        doubles = doubles;
        protocol = e;
        clock = f;
        window = refl;
        chunk = refl;
        reorder_extra_ms = refl;
        base_delay_ms = refl;
        jitter_ms = refl;
        initial_rto = refl;
        min_rto = refl;
        max_rto = refl;
        granularity = refl;
        max_virtual_time = refl;
        max_retransmissions = refl;
        loss = refl;
        duplicate = refl;
        reorder = refl;
        corrupt = refl;
        alpha = refl;
        beta = refl;
        k = refl;
        rto_multiplier = refl;
      }

  module _ (numbers : setup_numbers ≤ length s) (doubles : setup_doubles ≤ length d) where
    clock_read : (p : ProtocolType) → get_or s 0 0 ≡ protocol_number p → SetupRead s d (by_clock s d p)
    unfolding by_clock
    clock_read p e = by_number_lem (eqb (get_or s 1 0) 1) refl (eqb (get_or s 1 0) 2) refl
      where
        unknown : eqb (get_or s 1 0) 1 ≡ false → eqb (get_or s 1 0) 2 ≡ false → (k : ClockChoice) → get_or s 1 0 ≡ clock_number k → ⊥
        unknown a b clock.Source = eqb-false (get_or s 1 0) 1 a
        unknown a b clock.Edition = eqb-false (get_or s 1 0) 2 b

        by_number_lem : (a : Bool) → eqb (get_or s 1 0) 1 ≡ a → (b : Bool) → eqb (get_or s 1 0) 2 ≡ b
            → SetupRead s d (cond a (Ok (config_in s d p clock.Source)) (cond b (Ok (config_in s d p clock.Edition)) (Err Setup)))
        by_number_lem true x b y = config (config_in s d p clock.Source) (config_at p clock.Source numbers doubles e (eqb-true (get_or s 1 0) 1 x))
        by_number_lem false x true y = config (config_in s d p clock.Edition) (config_at p clock.Edition numbers doubles e (eqb-true (get_or s 1 0) 2 y))
        by_number_lem false x false y = no_clock numbers doubles (unknown x y)

    unknown_protocol : eqb (get_or s 0 0) 1 ≡ false → eqb (get_or s 0 0) 2 ≡ false → eqb (get_or s 0 0) 3 ≡ false → (p : ProtocolType) → get_or s 0 0 ≡ protocol_number p → ⊥
    unknown_protocol a b c protocol.StopAndWait = eqb-false (get_or s 0 0) 1 a
    unknown_protocol a b c protocol.GoBackN = eqb-false (get_or s 0 0) 2 b
    unknown_protocol a b c protocol.SelectiveRepeat = eqb-false (get_or s 0 0) 3 c

    protocol_read : (a : Bool) → eqb (get_or s 0 0) 1 ≡ a → (b : Bool) → eqb (get_or s 0 0) 2 ≡ b → (c : Bool) → eqb (get_or s 0 0) 3 ≡ c
        → SetupRead s d (cond a (by_clock s d protocol.StopAndWait) (cond b (by_clock s d protocol.GoBackN) (cond c (by_clock s d protocol.SelectiveRepeat) (Err Setup))))
    protocol_read true x b y c z = clock_read protocol.StopAndWait (eqb-true (get_or s 0 0) 1 x)
    protocol_read false x true y c z = clock_read protocol.GoBackN (eqb-true (get_or s 0 0) 2 y)
    protocol_read false x false y true z = clock_read protocol.SelectiveRepeat (eqb-true (get_or s 0 0) 3 z)
    protocol_read false x false y false z = no_protocol numbers doubles (unknown_protocol x y z)

  -- what is read from numbers and doubles
  pub setup_read : SetupRead s d (read_setup s d)
  unfolding read_setup setup_short any_of
  setup_read = by_length (ltb (length s) setup_numbers) refl (ltb (length d) setup_doubles) refl
    where
      by_length : (a : Bool) → ltb (length s) setup_numbers ≡ a → (b : Bool) → ltb (length d) setup_doubles ≡ b → SetupRead s d (cond (any_of (a ∷ b ∷ [])) (Err State) by_protocol)
      by_length true x b y = few_numbers (ltb-true (length s) setup_numbers x)
      by_length false x true y = few_doubles (ltb-true (length d) setup_doubles y)
      by_length false x false y = protocol_read (ltb-false (length s) setup_numbers x) (ltb-false (length d) setup_doubles y) (eqb (get_or s 0 0) 1) refl (eqb (get_or s 0 0) 2) refl (eqb (get_or s 0 0) 3) refl

-- a setup that is read is the one that they hold
config_held : {s : List ℕ} {d : List Float} {c : TransferConfig} → SetupRead s d (Ok c) → SetupAt c s d
config_held (config c h) = h

pub setup_held : (s : List ℕ) (d : List Float) {c : TransferConfig} → read_setup s d ≡ Ok c → SetupAt c s d
setup_held s d {c} e = config_held (subst (λ (r : Result TransferConfig Refusal). SetupRead s d r) e (setup_read s d))

-- and what they hold is read
module _ {c : TransferConfig} {s : List ℕ} {d : List Float} (h : SetupAt c s d) where
  pub channel_is : channel_in s d ≡ c.channel
  channel_is = rw (h.loss, h.duplicate, h.reorder, h.reorder_extra_ms, h.corrupt, h.base_delay_ms, h.jitter_ms)

  pub rto_is : rto_in s d ≡ c.rto
  rto_is = rw (h.initial_rto, h.min_rto, h.max_rto, h.granularity, h.alpha, h.beta, h.k, h.rto_multiplier)

  config_is : config_in s d c.protocol c.clock ≡ c
  config_is = rw (channel_is, rto_is, h.window, h.chunk, h.max_virtual_time, h.max_retransmissions)

  long_enough : setup_short s d ≡ false
  unfolding setup_short any_of
  long_enough = simp (le-ltb (length s) setup_numbers h.numbers, le-ltb (length d) setup_doubles h.doubles)

  clock_known : (p : ProtocolType) (k : ClockChoice) → get_or s 1 0 ≡ clock_number k → by_clock s d p ≡ Ok (config_in s d p k)
  unfolding by_clock
  clock_known p clock.Source e = rw e
  clock_known p clock.Edition e = rw e

  protocol_known : (p : ProtocolType) → get_or s 0 0 ≡ protocol_number p → read_setup s d ≡ by_clock s d p
  unfolding read_setup
  protocol_known protocol.StopAndWait e = rw (long_enough, e)
  protocol_known protocol.GoBackN e = rw (long_enough, e)
  protocol_known protocol.SelectiveRepeat e = rw (long_enough, e)

  pub held_read : read_setup s d ≡ Ok c
  held_read = protocol_known c.protocol h.protocol ∙ clock_known c.protocol c.clock h.clock ∙ ap Ok config_is

-- every setup can be written, with anything behind it
pub setup_written : (c : TransferConfig) (s : List ℕ) (d : List Float) → SetupAt c (numbers_of c ++ s) (doubles_of c ++ d)
setup_written c s d =
    record {
      numbers = omega arith;
      doubles = omega arith;
      protocol = refl;
      clock = refl;
      window = refl;
      chunk = refl;
      reorder_extra_ms = refl;
      base_delay_ms = refl;
      jitter_ms = refl;
      initial_rto = refl;
      min_rto = refl;
      max_rto = refl;
      granularity = refl;
      max_virtual_time = refl;
      max_retransmissions = refl;
      loss = refl;
      duplicate = refl;
      reorder = refl;
      corrupt = refl;
      alpha = refl;
      beta = refl;
      k = refl;
      rto_multiplier = refl;
    }

-- ---- the outcome
base_is : (r : ReceiverState) → (receiver_fields r).base ≡ base_in r
unfolding receiver_fields
base_is (receiverState.StopAndWait r) = refl
base_is (receiverState.GoBackN r) = refl
base_is (receiverState.SelectiveRepeat r) = refl

mark_is : (r : ReceiverState) → (receiver_fields r).filled ≡ filled_in r
unfolding receiver_fields
mark_is (receiverState.StopAndWait r) = refl
mark_is (receiverState.GoBackN r) = refl
mark_is (receiverState.SelectiveRepeat r) = refl

pub outcome_words : (o : Outcome) (s : List ℕ) → OutcomeAt o s (with_outcome s o)
unfolding with_outcome
outcome_words o s =
    record {
      completed = refl;
      finished_at = refl;
      end = refl;
      retx_submitted = refl;
      premature = refl;
      data_received = refl;
      ack_sent = refl;
      ack_received = refl;
      duplicate_data = refl;
      duplicate_acks = refl;
      events = refl;
      sender_base = refl;
      total_sent = refl;
      retransmissions = refl;
      receiver_base = base_is o.receiver.state;
      fill_mark = mark_is o.receiver.state;
      total_received = refl;
      second_counter = refl;
      third_counter = refl;
      forward_seen = refl;
      forward_lost = refl;
      forward_corrupted = refl;
      forward_duplicated = refl;
      forward_reordered = refl;
      forward_copies = refl;
      reverse_seen = refl;
      reverse_lost = refl;
      reverse_corrupted = refl;
      reverse_duplicated = refl;
      reverse_reordered = refl;
      reverse_copies = refl;
      behind = refl;
    }
