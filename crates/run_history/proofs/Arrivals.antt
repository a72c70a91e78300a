-- What the forward line hands over: each copy is a call.
use Rattle.std.specs.Prelude.{Err, None, Ok, Option, Result, Some}
use Prim.Native.Nat.{ℕ, ◌+◌}
use mathlib.Core.Path.{◌≡◌, refl, sym, ap, ◌∙◌, subst}
use mathlib.Core.Bool.{Bool, true, false, cond, ◌||◌}
use mathlib.Core.List.{List, [], ◌∷◌, ◌++◌, append-nil}
use lib.ListN.{take}
use lib.Dec.{ltb}
use Rattle.packet.specs.Format.{new_packet, made}
use Rattle.packet.specs.Reading.{read_datagram}
use Rattle.packet.specs.declared.PacketType.TheVariants as packetType
use Rattle.receiver.specs.Reply.{is_refused}
use Rattle.rto.specs.declared.RtoEstimator.{RtoEstimator}
use Rattle.path.specs.Direction.{Direction, schedule_of}
use Rattle.path.specs.Path.{is_going, left_by_take, CanCarry}
use Rattle.session.specs.Sending.{SenderEnd, window_of}
use Rattle.session.specs.Receiving.{base, is_cumulative}
use Rattle.session.specs.declared.Receiver.{Receiver}
use Rattle.receiving.specs.Receiving.{Inbound, ForwardExit, is_data, gbn_duplicate, new_duplicates, delivered, absorb, completed_at, handled, received, on_forward, submit_ack, ServeForwardExit, serve_forward}
use Rattle.receiving.specs.declared.ReceivingSide.{ReceivingSide}
use Rattle.receiving.specs.Good.{CanOnForward}
use Rattle.receiving.proofs.Laws.{Received, data_received, received_good, ack_submitted, marked_metas, submit_carries, forward_dropped, forward_silent, forward_refused, forward_acknowledged, next_taken, next_exit, serve_turns}
use Rattle.run_history.specs.Calls.{ends, arrival, Submission, Reply, reply, replied_by}
use native.Mathlib.Omega.{arith}
use Rattle.packet.proofs.Laws.{made_length}
use Rattle.channel.specs.declared.Channel.{Channel}
use Rattle.channel.proofs.Laws.{NoFaults}
use Rattle.schedule.specs.State.{state_broken, waiting_records, held_late, copies}
use Rattle.schedule.specs.declared.Deliveries.{Deliveries}
use Rattle.path.proofs.Laws.{going_is, going_fits, whole_granted}
use Rattle.notes.specs.Notes.{SegMetas, mark_ack_scheduled}
use Rattle.sending.specs.declared.Resends.{Resends}
use Rattle.run_history.specs.Premature.{covers}
use Rattle.run_history.proofs.Noted.{noted_marked, any_more}
use Rattle.run_history.proofs.Columns.{line_of, TakenFrom, taken_from, line_taken, carry_replying}
use Rattle.run_history.proofs.Holds.{LineHolds, Takes, Hands, no_copy, hands_copy, take_holds, reply_holds}
use Rattle.run_history.proofs.Tells.{Origin, Moment, moment, Sent, forward_copies, Told, Makes, Goes, still_told, by_call, Notes, no_trip, same_noted, same_chunked, none_replied, none_returns, no_more}
use Rattle.refusal.specs.declared.Refusal.{Refusal}

absorbed_duplicates : (total now : ℕ) (x : ReceivingSide) → (absorb total now x).duplicate_data ≡ x.duplicate_data
unfolding absorb
absorbed_duplicates total now x = either (x.completed || ltb (base x.receiver) total)
  where
    either : (b : Bool) → (cond b x (completed_at x now)).duplicate_data ≡ x.duplicate_data
    either true = refl
    either false = refl

module _ (b : Origin) (v : SenderEnd) (e : RtoEstimator) (acks duplicates : ℕ) (again : Resends) (written : ℕ) (rows : List (List ℕ)) (none : NoFaults b.reverse) where
  -- the moment as the loop sees it
  abbrev pub arrive_moment : Direction → Inbound → Moment
  arrive_moment f i = moment f i v e acks duplicates again written rows

  abbrev pub Arrives : Direction → Inbound → Type 0
  Arrives f i = Told b (arrive_moment f i)

  module _ (total now : ℕ) (raw : List ℕ) (f left : Direction) (from : TakenFrom f left) (took : (gs : List (List ℕ)) (places : List ℕ) → LineHolds gs places (line_of f) → Takes gs places raw (line_of left)) (i : Inbound) (accepts : is_data (read_datagram raw) ≡ true → is_refused (handled raw i).answer ≡ false) where
    abbrev now_at : Moment
    now_at = arrive_moment f i

    abbrev then_at : Inbound → Moment
    then_at x = arrive_moment left x

    one_arrived : (xs : List Submission) (came : ℕ) → Sent b xs came now_at → Sent b (xs ++ []) (came + 1) (then_at i)
    one_arrived xs came s =
        subst (λ (l : List Submission). Sent b l (came + 1) (then_at i)) (sym (append-nil xs))
        (record { again_are = s.again_are; written_are = s.written_are; line = line_taken f left from s.line; events_are = s.events_are })

    came : (xs : List Submission) (k : ℕ) (places : List ℕ) → Sent b xs k now_at → LineHolds (forward_copies b xs) places (line_of f) → Hands (forward_copies b xs) (raw ∷ []) places (λ (ps : List ℕ). LineHolds (forward_copies b (xs ++ [])) ps (line_of left))
    came xs k places s h = subst (λ (ys : List Submission). Hands (forward_copies b xs) (raw ∷ []) places (λ (ps : List ℕ). LineHolds (forward_copies b ys) ps (line_of left))) (sym (append-nil xs)) (hands_copy (took _ places h))

    -- what can't be read or is no Data
    dropped : is_data (read_datagram raw) ≡ false → Makes b (arrival raw true) now_at (then_at i)
    dropped h =
        record {
          not_refused = accepts;
          ends_are = rw h;
          chunks_are = same_chunked b now_at;
          sending = one_arrived;
          replying = λ xs came s. rw h (none_replied b now_at xs came s);
          arrives = came;
          returns = λ xs n places s k. rw h (none_returns b (line_of i.reverse) xs places k);
          estimator_is = λ sampled again t. refl;
          taken = λ sampled again t. tt;
          datas_are = rw h (no_more i.side.data_received);
          repeats_are = rw h (no_more i.side.duplicate_data);
          premature_are = λ test h. no_more _;
          acks_are = no_more acks;
          duplicates_are = no_more duplicates;
        }

    after_data : Received total now raw i → ends v (handled raw i).receiver (handled raw i).output ≡ (then_at (received total now raw i)).ends
    after_data d = rw (d.receiver, d.store, d.output)

    repeats : is_data (read_datagram raw) ≡ true
        → i.side.duplicate_data + cond (is_data (read_datagram raw)) (new_duplicates i.side.receiver (gbn_duplicate i.side.receiver (read_datagram raw)) (handled raw i).receiver.receiver) 0 ≡ (received total now raw i).side.duplicate_data
    unfolding received
    repeats h = rw h (sym (absorbed_duplicates total now (delivered i.side (gbn_duplicate i.side.receiver (read_datagram raw)) (handled raw i).receiver.receiver)))

    -- Data without an answer
    silent : is_data (read_datagram raw) ≡ true → reply (handled raw i).answer (is_cumulative (handled raw i).receiver.receiver) (window_of v.sender).next_seq_num true ≡ [] → Makes b (arrival raw true) now_at (then_at (received total now raw i))
    silent h none =
        let d = data_received total now raw i in
        record {
          not_refused = accepts;
          ends_are = rw h (after_data d);
          chunks_are = same_chunked b now_at;
          sending = one_arrived;
          replying = λ xs came s. rw (h, none, d.reverse, d.acks) (none_replied b now_at xs came s);
          arrives = came;
          returns = λ xs n places s k. rw (h, none, d.reverse) (none_returns b (line_of i.reverse) xs places k);
          estimator_is = λ sampled again t. refl;
          taken = λ sampled again t. tt;
          datas_are = rw h (sym d.datas);
          repeats_are = repeats h;
          premature_are = λ test h. no_more _;
          acks_are = no_more acks;
          duplicates_are = no_more duplicates;
        }

    can_carry : CanOnForward i b.reverse_rolls now → (n : ℕ) → CanCarry (received total now raw i).reverse b.reverse_rolls now (made (new_packet n packetType.Ack) [])
    can_carry can n = record { good = (received_good total now raw i b.reverse_rolls can.good).reverse; in_time = can.in_time; short = omega (arith, made_length (new_packet n packetType.Ack) []) }

    -- Data with its ACK
    acked : CanOnForward i b.reverse_rolls now → is_data (read_datagram raw) ≡ true → (n : ℕ) → (handled raw i).answer ≡ Ok (Some n) → (going : Bool)
        → is_going (submit_ack b.reverse_rolls now n (made (new_packet n packetType.Ack) []) (received total now raw i)).stop ≡ going
        → Makes b (arrival raw going) now_at (then_at (submit_ack b.reverse_rolls now n (made (new_packet n packetType.Ack) []) (received total now raw i)).inbound)
    unfolding submit_ack
    acked can h n a going g =
        let d = data_received total now raw i in
        record {
          not_refused = accepts;
          ends_are = rw h (after_data d);
          chunks_are = same_chunked b now_at;
          sending = one_arrived;
          replying = λ xs came s. rw (h, a, no_more came) (carry_replying {xs = xs} now n (window_of v.sender).next_seq_num (is_cumulative (handled raw i).receiver.receiver) (made (new_packet n packetType.Ack) []) (received total now raw i).reverse (rw (d.acks, d.reverse) s) going g);
          arrives = came;
          returns = λ xs m places s k.
              rw (h, a)
              (no_copy refl
              (reply_holds {xs = xs} {came = m} {acks = (received total now raw i).side.ack_sent} now n (window_of v.sender).next_seq_num (is_cumulative (handled raw i).receiver.receiver) (made (new_packet n packetType.Ack) []) (received total now raw i).reverse (rw (d.acks, d.reverse) s) (can_carry can n) (rw d.reverse k) going g));
          estimator_is = λ sampled again t. refl;
          taken = λ sampled again t. tt;
          datas_are = rw h (sym d.datas);
          repeats_are = repeats h;
          premature_are = λ test h. no_more _;
          acks_are = no_more acks;
          duplicates_are = no_more duplicates;
        }

    -- the notes after it
    silent_noted : is_data (read_datagram raw) ≡ true → reply (handled raw i).answer (is_cumulative (handled raw i).receiver.receiver) (window_of v.sender).next_seq_num true ≡ [] → (xs : List Reply) (ys : List ℕ) → Notes xs ys now_at
        → Notes (xs ++ replied_by now_at.ends (arrival raw true)) (ys ++ []) (then_at (received total now raw i))
    silent_noted h nothing xs ys q = rw (h, nothing, (data_received total now raw i).metas) (same_noted now_at xs ys q)

    module _ (can : CanOnForward i b.reverse_rolls now) (config : i.reverse.path.channel.config ≡ b.reverse) (n : ℕ) where
      abbrev wire : List ℕ
      wire = made (new_packet n packetType.Ack) []

      abbrev later : Inbound
      later = received total now raw i

      no_faults : NoFaults later.reverse.path.channel.config
      no_faults = subst NoFaults (sym (ap (λ (d : Direction). d.path.channel.config) (data_received total now raw i).reverse ∙ config)) none

      marks : is_going (submit_ack b.reverse_rolls now n wire later).stop ≡ true → (submit_ack b.reverse_rolls now n wire later).inbound.metas ≡ mark_ack_scheduled i.metas n (is_cumulative (handled raw i).receiver.receiver)
      marks g =
          let d = data_received total now raw i in
          let stop_is = (ack_submitted b.reverse_rolls now n wire later).stop in
          let fits = going_fits later.reverse b.reverse_rolls true now wire (sym stop_is ∙ going_is _ g) in
          ap (λ (x : ForwardExit). x.inbound.metas) (submit_carries b.reverse_rolls now n wire later fits)
          ∙ ap (λ (ds : Deliveries). cond (ltb 0 (copies ds)) (marked_metas b.reverse_rolls now n wire later) later.metas) (whole_granted later.reverse b.reverse_rolls true now wire (can_carry can n) no_faults fits.left)
          ∙ ap (λ (x : SegMetas). mark_ack_scheduled x n (is_cumulative later.side.receiver)) d.metas ∙ ap (λ (r : Receiver). mark_ack_scheduled i.metas n (is_cumulative r)) d.receiver

      acked_noted : is_data (read_datagram raw) ≡ true → (handled raw i).answer ≡ Ok (Some n) → is_going (submit_ack b.reverse_rolls now n wire later).stop ≡ true → (going : Bool) → (xs : List Reply) (ys : List ℕ) → Notes xs ys now_at
          → Notes (xs ++ replied_by now_at.ends (arrival raw going)) (ys ++ []) (then_at (submit_ack b.reverse_rolls now n wire later).inbound)
      acked_noted h a g going xs ys q = rw (h, a, marks g) (no_trip now_at.events _ ys (noted_marked q n (is_cumulative (handled raw i).receiver.receiver) (λ k. any_more (covers k) xs _)))

    pub arrival_told : CanOnForward i b.reverse_rolls now → Arrives f i → Goes b (then_at (on_forward b.reverse_rolls total now raw i).inbound) (is_going (on_forward b.reverse_rolls total now raw i).stop)
    arrival_told can q = by_reading_lem (is_data (read_datagram raw)) refl
      where
        After : ForwardExit → Type 0
        After x = Goes b (then_at x.inbound) (is_going x.stop)

        No : Result (Option ℕ) Refusal → Type 0
        No a = reply a (is_cumulative (handled raw i).receiver.receiver) (window_of v.sender).next_seq_num true ≡ []

        by_answer : is_data (read_datagram raw) ≡ true → (a : Result (Option ℕ) Refusal) → (handled raw i).answer ≡ a → After (on_forward b.reverse_rolls total now raw i)
        by_answer h (Ok None) a = let nothing : No (handled raw i).answer = subst No (sym a) refl in subst After (sym (forward_silent b.reverse_rolls total now raw i h a)) (by_call q (silent h nothing) (λ g. refl) (λ g. silent_noted h nothing))
        by_answer h (Err r) a = let nothing : No (handled raw i).answer = subst No (sym a) refl in subst After (sym (forward_refused b.reverse_rolls total now raw i r h a)) (by_call q (silent h nothing) (λ g. refl) (λ g. silent_noted h nothing))
        by_answer h (Ok (Some n)) a =
            subst After (sym (forward_acknowledged b.reverse_rolls total now raw i n h a))
            (by_call q (acked can h n a _ refl) (λ g. g) (λ g. acked_noted can (ap (λ (x : Channel). x.config) q.tells.replying.line.channel_is) n h a g _))

        by_reading_lem : (t : Bool) → is_data (read_datagram raw) ≡ t → After (on_forward b.reverse_rolls total now raw i)
        by_reading_lem true h = by_answer h (handled raw i).answer refl
        by_reading_lem false h = subst After (sym (forward_dropped b.reverse_rolls total now raw i h)) (by_call q (dropped h) (λ g. refl) (λ g xs ys k. rw h (same_noted now_at xs ys k)))

  -- I: what the turns keep, and by which no Data is refused
  pub arrivals_told : (total now : ℕ) (I : Direction → Inbound → Type 0)
      → ((f : Direction) (i : Inbound) (n : ℕ) → (next_taken now f).result.answer ≡ Ok (Some n) → I f i → I (left_by_take (next_taken now f)) (next_exit b.reverse_rolls total now f i n).inbound)
      → ((f : Direction) (i : Inbound) (n : ℕ) → (next_taken now f).result.answer ≡ Ok (Some n) → I f i → CanOnForward i b.reverse_rolls now)
      → ((f : Direction) (i : Inbound) (n : ℕ) → (next_taken now f).result.answer ≡ Ok (Some n) → I f i → is_data (read_datagram (take n (next_taken now f).out)) ≡ true → is_refused (handled (take n (next_taken now f).out) i).answer ≡ false)
      → ((f : Direction) (i : Inbound) → I f i → (state_broken (schedule_of f) ≡ false) × (held_late (waiting_records (schedule_of f)) ≡ false))
      → (f : Direction) (i : Inbound) → I f i → Arrives f i → Goes b (arrive_moment (serve_forward b.reverse_rolls total now f i).forward (serve_forward b.reverse_rolls total now f i).inbound) (is_going (serve_forward b.reverse_rolls total now f i).stop)
  arrivals_told total now I keeps can accepts sound =
      serve_turns b.reverse_rolls total now (λ (f : Direction) (i : Inbound) (x : ServeForwardExit). I f i → Arrives f i → Goes b (arrive_moment x.forward x.inbound) (is_going x.stop)) (λ f i e k q. still_told q)
      (λ f i n x e g rest k q. rest (keeps f i n e k) ((turn f i n e k q).0 g)) (λ f i n e g k q. turn f i n e k q)
    where
      turn : (f : Direction) (i : Inbound) (n : ℕ) → (next_taken now f).result.answer ≡ Ok (Some n) → I f i → Arrives f i
          → Goes b (arrive_moment (left_by_take (next_taken now f)) (next_exit b.reverse_rolls total now f i n).inbound) (is_going (next_exit b.reverse_rolls total now f i n).stop)
      turn f i n e k q = arrival_told total now (take n (next_taken now f).out) f (left_by_take (next_taken now f)) (taken_from now f n e) (λ gs places h. take_holds now f n (sound f i k).0 (sound f i k).1 e h) i (accepts f i n e k) (can f i n e k) q
