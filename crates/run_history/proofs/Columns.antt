-- What a line and a count are after a list of packets and so many copies handed over, and after one more.
use Rattle.std.specs.Prelude.{Ok, Some, None}
use Prim.Native.Nat.{ℕ, ◌+◌, ◌*◌}
use mathlib.Core.Path.{◌≡◌, refl, sym, ap, ◌∙◌, subst}
use mathlib.Core.Bool.{Bool, true, false, cond, not}
use mathlib.Core.List.{List, [], ◌∷◌, ◌++◌, map, map-append, append-nil}
use native.Mathlib.Omega.{arith}
use lib.Ieee.{Float}
use lib.ListN.{length, length-append, length-map}
use Rattle.channel.specs.History.{Call, tallies}
use Rattle.channel.specs.Process.{channel_of, counted_stats}
use Rattle.channel.specs.declared.Channel.{Channel}
use Rattle.channel.specs.declared.ChannelConfig.{ChannelConfig}
use Rattle.channel.proofs.Tallies.{tallied}
use Rattle.schedule.specs.State.{Schedule, copies}
use Rattle.schedule.specs.Schedule.{put_copy, schedule_at_unchecked}
use Rattle.schedule.specs.Waiting.{WaitingCopy, waiting}
use Rattle.schedule.specs.declared.Deliveries.{Deliveries}
use Rattle.schedule.specs.declared.Deliveries.TheVariants.{Lost, One, Two}
use Rattle.path.specs.Direction.{Direction, schedule_of}
use Rattle.path.specs.Rolls.{packet_rolls, rolls_at}
use Rattle.path.specs.Path.{CarryExit, is_going, left_by_carry, carry, stop_of, copy_fold, left_by_take, take_ready, packet_buffer}
use Rattle.path.proofs.Laws.{next_rolls, granted, copy_bytes, carried_on, going_is, going_fits, carries, stop_same, take_count}
use Rattle.events.specs.Events.{ForwardEvent, forward_event, events_of}
use Rattle.clock.specs.Clock as clock
use Rattle.clock.specs.declared.Timing.{Timing}
use Rattle.submission.specs.Submission.{Outgoing, submit}
use Rattle.submission.proofs.Laws.{event_made, submit_going, submit_stopped, going_written, going_events, stopped_events}
use Rattle.run_history.specs.Calls.{Submission, submission, Reply, one}
use Rattle.run_history.specs.Lines.{filter, count, carried_of, forward_wires, reverse_wires, packets, event_for, events_from}
use Rattle.run_history.proofs.Lists.{filter_more, packet_at, packets_more, events_more}

abbrev pub events_in : Outgoing → List ForwardEvent
events_in o = events_of o.written o.events

-- ---- a line with a setup and rolls
pub record Line : Type 0 where
  pub used : ℕ
  pub channel : Channel
  pub waiting : ℕ
  pub order : ℕ
  pub copies : List WaitingCopy

abbrev pub line_of : Direction → Line
line_of d = record { used = d.path.used; channel = d.path.channel; waiting = d.path.scheduler.count; order = d.path.scheduler.next_order; copies = waiting (schedule_of d) }

-- after these packets, and so many copies handed over: those that were granted and didn't come wait
pub record LineAfter (c : ChannelConfig) (rolls : List Float) (wires : List (List ℕ)) (came : ℕ) (l : Line) : Type 0 where
  pub used_is : l.used ≡ length wires * packet_rolls
  pub channel_is : l.channel ≡ channel_of c (tallies c (packets rolls wires))
  pub all_come : came + l.waiting ≡ l.channel.stats.copies_delivered

more_used : (u n m : ℕ) → u ≡ n * packet_rolls → m ≡ n + 1 → u + packet_rolls ≡ m * packet_rolls
more_used u n m h k = omega arith

from_zero : (u n : ℕ) → u ≡ n * packet_rolls → u ≡ 0 + n * packet_rolls
from_zero u n h = omega arith

scheduled_more : (m : Schedule) (now : ℕ) (packet : List ℕ) (ds : Deliveries) → (schedule_at_unchecked m now packet ds).scheduler.count ≡ m.scheduler.count + copies ds
unfolding schedule_at_unchecked put_copy
scheduled_more m now packet Lost = omega arith
scheduled_more m now packet (One d) = omega arith
scheduled_more m now packet (Two d e) = omega arith

more_come : (came n x y k : ℕ) → came + n ≡ x → y ≡ n + k → came + y ≡ x + k
more_come came n x y k h e = omega arith

-- a copy is taken
pub record TakenFrom (d after : Direction) : Type 0 where
  pub used : after.path.used ≡ d.path.used
  pub channel : after.path.channel ≡ d.path.channel
  pub count : after.path.scheduler.count + 1 ≡ d.path.scheduler.count

pub taken_from : (now : ℕ) (d : Direction) (n : ℕ) → (take_ready d now packet_buffer).result.answer ≡ Ok (Some n) → TakenFrom d (left_by_take (take_ready d now packet_buffer))
unfolding take_ready
taken_from now d n e = record { used = refl; channel = refl; count = take_count d now packet_buffer n e }

one_came : (came n m x : ℕ) → came + n ≡ x → m + 1 ≡ n → came + 1 + m ≡ x
one_came came n m x h e = omega arith

pub line_taken : {c : ChannelConfig} {rolls : List Float} {wires : List (List ℕ)} {came : ℕ} (d after : Direction) → TakenFrom d after → LineAfter c rolls wires came (line_of d) → LineAfter c rolls wires (came + 1) (line_of after)
line_taken {came = came} d after t q =
    record {
      used_is = t.used ∙ q.used_is;
      channel_is = t.channel ∙ q.channel_is;
      all_come = one_came came _ _ _ q.all_come t.count ∙ ap (λ (x : Channel). x.stats.copies_delivered) (sym t.channel);
    }

module _ {c : ChannelConfig} {rolls : List Float} {wires : List (List ℕ)} {came : ℕ} (d : Direction) (q : LineAfter c rolls wires came (line_of d)) where
  next_rolls_lem : next_rolls d rolls ≡ rolls_at rolls (0 + length wires * packet_rolls)
  next_rolls_lem = ap (rolls_at rolls) (from_zero _ _ q.used_is)

  config_is : d.path.channel.config ≡ c
  config_is = ap (λ (x : Channel). x.config) q.channel_is

  pub line_carried : (now : ℕ) (wire : List ℕ) → LineAfter c rolls (wires ++ wire ∷ []) came (line_of (carried_on d rolls now wire))
  unfolding counted_stats
  line_carried now wire =
      record {
        all_come = more_come came _ _ _ (copies (granted d rolls)) q.all_come (scheduled_more (schedule_of d) now (copy_bytes d rolls wire) (granted d rolls));
        used_is = more_used d.path.used (length wires) _ q.used_is (length-append wires (wire ∷ []));
        channel_is =
            ap (λ (x : Channel). channel_of x.config (counted_stats x.config (next_rolls d rolls) (length wire) x.stats)) q.channel_is
            ∙ ap (λ (n : ℕ). channel_of c (counted_stats c (rolls_at rolls n) (length wire) (tallies c (packets rolls wires)))) (from_zero _ _ q.used_is)
            ∙ ap (channel_of c) (tallied c (packet_at rolls (0 + length wires * packet_rolls) wire) (packets rolls wires))
            ∙ ap (λ (l : List Call). channel_of c (tallies c l)) (sym (packets_more rolls 0 [] wires wire));
      }

  -- the event of the next packet
  pub event_next : (x : clock.Submission) (wire : List ℕ) (carried : Bool)
      → forward_event x.seq x.retransmission (granted d rolls) (copy_fold (granted d rolls) (copy_bytes d rolls wire)) ≡ event_for c (rolls_at rolls (0 + length wires * packet_rolls)) (submission x.seq x.retransmission wire carried)
  event_next x wire carried =
      ap (λ (k : ChannelConfig). event_for k (next_rolls d rolls) (submission x.seq x.retransmission wire carried)) config_is
      ∙ ap (λ (n : ℕ). event_for c (rolls_at rolls n) (submission x.seq x.retransmission wire carried)) (from_zero _ _ q.used_is)

-- ---- the forward line with its events and the count of what was sent again
pub record Sending (c : ChannelConfig) (rolls : List Float) (xs : List Submission) (came again written : ℕ) (l : Line) (events : List ForwardEvent) : Type 0 where
  pub again_are : count (λ (x : Submission). x.again) xs ≡ again
  pub written_are : length (carried_of xs) ≡ written
  pub line : LineAfter c rolls (forward_wires xs) came l
  pub events_are : events_from c rolls 0 (carried_of xs) ≡ events

counted : {A : Type 0} (test : A → Bool) (xs : List A) (x : A) (n : ℕ) → count test xs ≡ n → count test (xs ++ x ∷ []) ≡ n + one (test x)
counted {A} test xs x n h = ap length (filter_more test xs x) ∙ length-append (filter test xs) (cond (test x) (x ∷ []) []) ∙ ap (λ (k : ℕ). k + length (cond (test x) (x ∷ []) [])) h ∙ ap (λ (k : ℕ). n + k) (either (test x))
  where
    either : (b : Bool) → length {A = A} (cond b (x ∷ []) []) ≡ one b
    either true = refl
    either false = refl

module _ (t : Timing) {c : ChannelConfig} {rolls : List Float} {xs : List Submission} {came again : ℕ} (x : clock.Submission) (wire : List ℕ) (o : Outgoing) (q : Sending c rolls xs came again o.written (line_of o.forward) (events_in o)) where
  abbrev this : Bool → Submission
  this carried = submission x.seq x.retransmission wire carried

  -- of a packet that is carried, and of one that ends the run
  carried_of_lem : carried_of (xs ++ this true ∷ []) ≡ carried_of xs ++ this true ∷ []
  carried_of_lem = filter_more (λ (y : Submission). y.carried) xs (this true)

  stopped_of : carried_of (xs ++ this false ∷ []) ≡ carried_of xs
  stopped_of = filter_more (λ (y : Submission). y.carried) xs (this false) ∙ append-nil (carried_of xs)

  pub wires_carried : forward_wires (xs ++ this true ∷ []) ≡ forward_wires xs ++ wire ∷ []
  wires_carried = ap (map (λ (y : Submission). y.wire)) carried_of_lem ∙ map-append (λ (y : Submission). y.wire) (carried_of xs) (this true ∷ [])

  pub wires_stopped : forward_wires (xs ++ this false ∷ []) ≡ forward_wires xs
  wires_stopped = ap (map (λ (y : Submission). y.wire)) stopped_of

  same_length : length (forward_wires xs) ≡ length (carried_of xs)
  same_length = length-map (carried_of xs) (λ (y : Submission). y.wire)

  pub submit_sending : {more : ℕ} → again + one x.retransmission ≡ more → (b : Bool) → is_going (submit t rolls x wire o).stop ≡ b
      → Sending c rolls (xs ++ this b ∷ []) came more (submit t rolls x wire o).outgoing.written (line_of (submit t rolls x wire o).outgoing.forward) (events_in (submit t rolls x wire o).outgoing)
  submit_sending k true g =
      let on : (submit t rolls x wire o).stop ≡ (None) = going_is _ g in
      record {
        again_are = counted (λ (y : Submission). y.again) xs (this true) again q.again_are ∙ k;
        written_are = ap length carried_of_lem ∙ length-append (carried_of xs) (this true ∷ []) ∙ ap (λ (n : ℕ). n + 1) q.written_are ∙ sym (going_written t rolls x wire o on);
        line = subst (LineAfter c rolls (forward_wires (xs ++ this true ∷ [])) came) (ap (λ (y : Outgoing). line_of y.forward) (sym (submit_going t rolls x wire o on)))
            (subst (λ (l : List (List ℕ)). LineAfter c rolls l came (line_of (carried_on o.forward rolls x.time wire))) (sym wires_carried) (line_carried o.forward q.line x.time wire));
        events_are =
            ap (events_from c rolls 0) carried_of_lem ∙ events_more c rolls 0 (carried_of xs) (this true)
            ∙ ap (λ (n : ℕ). events_from c rolls 0 (carried_of xs) ++ event_for c (rolls_at rolls (0 + n * packet_rolls)) (this true) ∷ []) (sym same_length)
            ∙ ap (λ (e : ForwardEvent). events_from c rolls 0 (carried_of xs) ++ e ∷ []) (sym (event_next o.forward q.line x wire true))
            ∙ ap (λ (l : List ForwardEvent). l ++ event_made rolls x wire o ∷ []) q.events_are
            ∙ sym (going_events t rolls x wire o on);
      }
  submit_sending k false g =
      record {
        again_are = counted (λ (y : Submission). y.again) xs (this false) again q.again_are ∙ k;
        written_are = ap length stopped_of ∙ q.written_are ∙ ap (λ (y : Outgoing). y.written) (sym (submit_stopped t rolls x wire o g));
        line = subst (LineAfter c rolls (forward_wires (xs ++ this false ∷ [])) came) (ap (λ (y : Outgoing). line_of y.forward) (sym (submit_stopped t rolls x wire o g)))
            (subst (λ (l : List (List ℕ)). LineAfter c rolls l came (line_of o.forward)) (sym wires_stopped) q.line);
        events_are = ap (events_from c rolls 0) stopped_of ∙ q.events_are ∙ sym (stopped_events t rolls x wire o g);
      }

-- ---- the reverse line with the count of ACKs
pub record Replying (c : ChannelConfig) (rolls : List Float) (xs : List Reply) (came acks : ℕ) (l : Line) : Type 0 where
  pub acks_are : length xs ≡ acks
  pub line : LineAfter c rolls (reverse_wires xs) came l

module _ {c : ChannelConfig} {rolls : List Float} {xs : List Reply} {came acks : ℕ} (now number sent : ℕ) (cumulative : Bool) (wire : List ℕ) (d : Direction) (q : Replying c rolls xs came acks (line_of d)) where
  abbrev ack : Bool → Reply
  ack carried = record { number = number; cumulative = cumulative; sent = sent; wire = wire; carried = carried }

  pub reply_carried : reverse_wires (xs ++ ack true ∷ []) ≡ reverse_wires xs ++ wire ∷ []
  reply_carried = ap (map (λ (y : Reply). y.wire)) (filter_more (λ (y : Reply). y.carried) xs (ack true)) ∙ map-append (λ (y : Reply). y.wire) (filter (λ (y : Reply). y.carried) xs) (ack true ∷ [])

  pub reply_stopped : reverse_wires (xs ++ ack false ∷ []) ≡ reverse_wires xs
  reply_stopped = ap (map (λ (y : Reply). y.wire)) (filter_more (λ (y : Reply). y.carried) xs (ack false) ∙ append-nil (filter (λ (y : Reply). y.carried) xs))

  pub carry_replying : (b : Bool) → is_going (stop_of (carry d rolls true now wire).result.answer) ≡ b → Replying c rolls (xs ++ ack b ∷ []) came (acks + 1) (line_of (left_by_carry (carry d rolls true now wire)))
  carry_replying true g =
      record {
        acks_are = length-append xs (ack true ∷ []) ∙ ap (λ (n : ℕ). n + 1) q.acks_are;
        line = subst (LineAfter c rolls (reverse_wires (xs ++ ack true ∷ [])) came) (ap (λ (y : CarryExit). line_of (left_by_carry y)) (sym (carries d rolls true now wire (going_fits d rolls true now wire (going_is _ g)))))
            (subst (λ (l : List (List ℕ)). LineAfter c rolls l came (line_of (carried_on d rolls now wire))) (sym reply_carried) (line_carried d q.line now wire));
      }
  carry_replying false g =
      record {
        acks_are = length-append xs (ack false ∷ []) ∙ ap (λ (n : ℕ). n + 1) q.acks_are;
        line = subst (λ (l : List (List ℕ)). LineAfter c rolls l came (line_of (left_by_carry (carry d rolls true now wire)))) (sym reply_stopped)
            (subst (LineAfter c rolls (reverse_wires xs) came) (ap (λ (y : CarryExit). line_of (left_by_carry y)) (sym (stop_same d rolls true now wire _ (ap not g) refl))) q.line);
      }
