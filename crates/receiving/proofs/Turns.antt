-- What the loop over the forward line leaves, turn by turn.
use Rattle.std.specs.Prelude.{None, Ok, Some}
use Prim.Native.Nat.{ℕ, ◌+◌, ◌≤◌}
use mathlib.Core.Path.{◌≡◌, refl, sym, ap, ◌∙◌, subst}
use mathlib.Core.Bool.{Bool, true, false, false≢true}
use mathlib.Core.List.{List, [], ◌∷◌, ◌++◌}
use native.Mathlib.Omega.{arith}
use lib.ListN.{take}
use lib.Ieee.{Float}
use Rattle.bounds.specs.Bounds.{count_limit, max_duration}
use Rattle.packet.specs.Format.{new_packet, made}
use Rattle.packet.specs.declared.PacketType.TheVariants as packetType
use Rattle.schedule.specs.State.{state_broken}
use Rattle.schedule.specs.Waiting.{WaitingCopy, waiting, All, of_none, of_more}
use Rattle.path.specs.Direction.{Direction, schedule_of, Good}
use Rattle.path.specs.Path.{is_going, left_by_take, take_ready, packet_buffer, is_taken}
use Rattle.path.proofs.Laws.{copy_bytes, EachWaiting, TakesCopy, TakeKeeps, take_keeps_same, take_keeps_then, take_count, by_takes, taken_keeps, take_good, take_each, take_copy}
use Rattle.receiving.specs.Receiving.{Inbound, ServeForwardExit, serve_forward_exit, progressed, serve_forward}
use Rattle.receiving.specs.Good.{GoodInbound, CanServeForward}
use Rattle.receiving.specs.declared.ReceivingSide.{ReceivingSide}
use Rattle.receiving.proofs.Kept.{InboundKeeps, forward_counts, forward_each, forward_keeps}
use Rattle.receiving.proofs.Serving.{next_taken, next_exit, serve_idle, serve_going, serve_stops, can_hand_over, turn_good}
use Rattle.receiving.proofs.Completion.{Completes, CompletedIs, completes_same, completes_then, forward_completes, forward_completed_is}

-- the copies that were handed over, and those that wait on
pub record Handed (f after : Direction) : Type 0 where
  pub copies : List WaitingCopy
  pub waited : waiting (schedule_of f) ≡ copies ++ waiting (schedule_of after)

-- a side and the side after it, where k copies waited before and j wait now
pub record CountsRiseBy (k j : ℕ) (x after : ReceivingSide) : Type 0 where
  pub datas : (x.data_received ≤ after.data_received) × (after.data_received + j ≤ x.data_received + k)
  pub acks : (x.ack_sent ≤ after.ack_sent) × (after.ack_sent + j ≤ x.ack_sent + k)
  pub duplicates : (x.duplicate_data ≤ after.duplicate_data) × (after.duplicate_data + j ≤ x.duplicate_data + k)

keeps_same : (b : Inbound) → InboundKeeps b b
keeps_same b = record { store = refl; output = refl; count = refl; rows = refl; reverse = record { config = refl; records = refl; places = refl } }

keeps_then : {a b c : Inbound} → InboundKeeps a b → InboundKeeps b c → InboundKeeps a c
keeps_then p q =
    record {
      store = q.store ∙ p.store;
      output = q.output ∙ p.output;
      count = q.count ∙ p.count;
      rows = q.rows ∙ p.rows;
      reverse = record { config = q.reverse.config ∙ p.reverse.config; records = q.reverse.records ∙ p.reverse.records; places = q.reverse.places ∙ p.reverse.places };
    }

every : (cs : List WaitingCopy) → All (λ (c : WaitingCopy). Unit {0}) cs
every [] = of_none
every (c ∷ cs) = of_more tt (every cs)

module _ (rolls : List Float) (total now : ℕ) where
  first_taken : (f : Direction) (n : ℕ) → state_broken (schedule_of f) ≡ false → (take_ready f now packet_buffer).result.answer ≡ Ok (Some n) → TakesCopy (λ (x : List ℕ). Unit {0}) f now packet_buffer n
  first_taken f n sound e = take_copy f now packet_buffer sound (record { each = every (waiting (schedule_of f)) }) n e

  -- whatever holds where nothing is due and where the ACK of the next copy ends the run, and before a turn if it holds after it, holds of the loop
  pub serve_turns : (R : Direction → Inbound → ServeForwardExit → Type 0)
      → ((f : Direction) (c : Inbound) → (next_taken now f).result.answer ≡ Ok None → R f c (serve_forward_exit f c false (None)))
      → ((f : Direction) (c : Inbound) (n : ℕ) (x : ServeForwardExit) → (next_taken now f).result.answer ≡ Ok (Some n) → is_going (next_exit rolls total now f c n).stop ≡ true → R (left_by_take (next_taken now f)) (next_exit rolls total now f c n).inbound x → R f c (progressed x))
      → ((f : Direction) (c : Inbound) (n : ℕ) → (next_taken now f).result.answer ≡ Ok (Some n) → is_going (next_exit rolls total now f c n).stop ≡ false → R f c (serve_forward_exit (left_by_take (next_taken now f)) (next_exit rolls total now f c n).inbound true (next_exit rolls total now f c n).stop))
      → (f : Direction) (c : Inbound) → R f c (serve_forward rolls total now f c)
  serve_turns R idle going stops =
      by_takes now packet_buffer (λ f c n. (next_exit rolls total now f c n).inbound) (λ f c. R f c (serve_forward rolls total now f c)) (λ f c e. subst (R f c) (sym (serve_idle rolls total now f c e)) (idle f c e))
      (λ f c n e rest. by_stop_lem f c n e rest (is_going (next_exit rolls total now f c n).stop) refl)
    where
      by_stop_lem : (f : Direction) (c : Inbound) (n : ℕ) → (next_taken now f).result.answer ≡ Ok (Some n) → R (left_by_take (next_taken now f)) (next_exit rolls total now f c n).inbound (serve_forward rolls total now (left_by_take (next_taken now f)) (next_exit rolls total now f c n).inbound)
          → (t : Bool) → is_going (next_exit rolls total now f c n).stop ≡ t → R f c (serve_forward rolls total now f c)
      by_stop_lem f c n e rest true g = subst (R f c) (sym (serve_going rolls total now f c n e g)) (going f c n _ e g rest)
      by_stop_lem f c n e rest false g = subst (R f c) (sym (serve_stops rolls total now f c n e g)) (stops f c n e g)

  -- an invariant of the turns holds at the end
  pub serve_keeps : (Q : Direction → Inbound → Type 0)
      → ((f : Direction) (c : Inbound) (n : ℕ) → (next_taken now f).result.answer ≡ Ok (Some n) → Q f c → Q (left_by_take (next_taken now f)) (next_exit rolls total now f c n).inbound)
      → (f : Direction) (c : Inbound) → Q f c → Q (serve_forward rolls total now f c).forward (serve_forward rolls total now f c).inbound
  serve_keeps Q turn f c =
      serve_turns (λ f c x. Q f c → Q x.forward x.inbound) (λ f c e q. q) (λ f c n x e g rest q. rest (turn f c n e q)) (λ f c n e g q. turn f c n e q) f c

  module _ (f : Direction) (c : Inbound) where
    -- the next turn of the loop can be asked again, and a direction that was good is good
    pub serve_good : CanServeForward f c rolls now → CanServeForward (serve_forward rolls total now f c).forward (serve_forward rolls total now f c).inbound rolls now
    serve_good can = serve_keeps (λ f c. CanServeForward f c rolls now) (λ f c n e q. turn_good rolls total now f c q n e) f c can

    pub serve_forward_good : (frolls : List Float) → Good f frolls → Good (serve_forward rolls total now f c).forward frolls
    serve_forward_good frolls good = serve_keeps (λ f c. Good f frolls) (λ f c n e q. take_good f now packet_buffer frolls q) f c good

    -- of the forward line only the waiting copies have changed
    pub serve_keeps_forward : CanServeForward f c rolls now → TakeKeeps f (serve_forward rolls total now f c).forward
    serve_keeps_forward =
        serve_turns (λ f c x. CanServeForward f c rolls now → TakeKeeps f x.forward) (λ f c e can. take_keeps_same f)
        (λ f c n x e g rest can. take_keeps_then (taken_keeps f now packet_buffer can.sound can.times) (rest (turn_good rolls total now f c can n e)))
        (λ f c n e g can. taken_keeps f now packet_buffer can.sound can.times) f c

    -- each copy that still waits waited before
    pub serve_each : {P : List ℕ → Type 0} → CanServeForward f c rolls now → EachWaiting P f → EachWaiting P (serve_forward rolls total now f c).forward
    serve_each {P} can a =
        (serve_keeps (λ f c. CanServeForward f c rolls now × EachWaiting P f) (λ f c n e q. (turn_good rolls total now f c q.0 n e, take_each f now packet_buffer q.0.sound q.1)) f c (can, a)).1

    -- those that don't were handed over, first to leave first
    pub serve_front : CanServeForward f c rolls now → Handed f (serve_forward rolls total now f c).forward
    serve_front =
        serve_turns (λ f c x. CanServeForward f c rolls now → Handed f x.forward) (λ f c e can. record { copies = []; waited = refl })
        (λ f c n x e g rest can.
        let h = rest (turn_good rolls total now f c can n e) in
        let t = first_taken f n can.sound e in
        record { copies = t.copy ∷ h.copies; waited = t.first ∙ ap (λ (cs : List WaitingCopy). t.copy ∷ cs) h.waited })
        (λ f c n e g can. let t = first_taken f n can.sound e in record { copies = t.copy ∷ []; waited = t.first }) f c

    -- ---- the reverse line, the notes, the counters and the lent slices
    pub serve_each_reverse : {P : List ℕ → Type 0} → CanServeForward f c rolls now → ((d : Direction) (n : ℕ) → d.path.channel.config ≡ c.reverse.path.channel.config → P (copy_bytes d rolls (made (new_packet n packetType.Ack) [])))
        → EachWaiting P c.reverse → EachWaiting P (serve_forward rolls total now f c).inbound.reverse
    serve_each_reverse {P} can each a =
        (serve_keeps (λ g d. CanServeForward g d rolls now × (d.reverse.path.channel.config ≡ c.reverse.path.channel.config) × EachWaiting P d.reverse)
        (λ g d n e q.
        let raw = take n (next_taken now g).out in
        let on = can_hand_over rolls total now g d q.0 n e in
        (turn_good rolls total now g d q.0 n e, (forward_keeps rolls total now raw d on).reverse.config ∙ q.1, forward_each rolls total now raw d on (λ m a. each d.reverse m q.1) q.2))
        f c (can, refl, a)).2

    pub serve_keeps_sizes : CanServeForward f c rolls now → InboundKeeps c (serve_forward rolls total now f c).inbound
    serve_keeps_sizes =
        serve_turns (λ f c x. CanServeForward f c rolls now → InboundKeeps c x.inbound) (λ f c e can. keeps_same c)
        (λ f c n x e g rest can. keeps_then (one f c n e can) (rest (turn_good rolls total now f c can n e)))
        (λ f c n e g can. one f c n e can) f c
      where
        one : (f : Direction) (c : Inbound) (n : ℕ) → (next_taken now f).result.answer ≡ Ok (Some n) → CanServeForward f c rolls now → InboundKeeps c (next_exit rolls total now f c n).inbound
        one f c n e can = forward_keeps rolls total now (take n (next_taken now f).out) c (can_hand_over rolls total now f c can n e)

    -- no counter falls, and none rises by more than the copies handed over
    pub serve_counts : CountsRiseBy f.path.scheduler.count (serve_forward rolls total now f c).forward.path.scheduler.count c.side (serve_forward rolls total now f c).inbound.side
    serve_counts =
        serve_turns (λ f c x. CountsRiseBy f.path.scheduler.count x.forward.path.scheduler.count c.side x.inbound.side)
        (λ f c e. record { datas = (omega arith, omega arith); acks = (omega arith, omega arith); duplicates = (omega arith, omega arith) })
        (λ f c n x e g rest.
        let m = forward_counts rolls total now (take n (next_taken now f).out) c in
        let k = take_count f now packet_buffer n e in
        record {
          datas = (omega (arith, m.datas.0, rest.datas.0), omega (arith, m.datas.1, rest.datas.1, k));
          acks = (omega (arith, m.acks.0, rest.acks.0), omega (arith, m.acks.1, rest.acks.1, k));
          duplicates = (omega (arith, m.duplicates.0, rest.duplicates.0), omega (arith, m.duplicates.1, rest.duplicates.1, k));
        })
        (λ f c n e g.
        let m = forward_counts rolls total now (take n (next_taken now f).out) c in
        let k = take_count f now packet_buffer n e in
        record { datas = (m.datas.0, omega (arith, m.datas.1, k)); acks = (m.acks.0, omega (arith, m.acks.1, k)); duplicates = (m.duplicates.0, omega (arith, m.duplicates.1, k)) }) f c

    -- ---- completion
    pub serve_completes : Completes total now c.side (serve_forward rolls total now f c).inbound.side
    serve_completes =
        serve_turns (λ f c x. Completes total now c.side x.inbound.side) (λ f c e. completes_same total now c.side)
        (λ f c n x e g rest. completes_then (forward_completes rolls total now (take n (next_taken now f).out) c) rest)
        (λ f c n e g. forward_completes rolls total now (take n (next_taken now f).out) c) f c

    pub serve_completed_is : CompletedIs total c.side → CompletedIs total (serve_forward rolls total now f c).inbound.side
    serve_completed_is h = serve_keeps (λ f c. CompletedIs total c.side) (λ f c n e q. forward_completed_is rolls total now (take n (next_taken now f).out) c q) f c h

    -- ---- progress, and the end of the loop
    pub serve_progress : (serve_forward rolls total now f c).progress ≡ is_taken (next_taken now f).result.answer
    serve_progress = serve_turns (λ f c x. x.progress ≡ is_taken (next_taken now f).result.answer) (λ f c e. ap is_taken (sym e)) (λ f c n x e g rest. ap is_taken (sym e)) (λ f c n e g. ap is_taken (sym e)) f c

    -- a loop that the run outlives leaves nothing that is due
    pub serve_drained : is_going (serve_forward rolls total now f c).stop ≡ true → (take_ready (serve_forward rolls total now f c).forward now packet_buffer).result.answer ≡ Ok None
    serve_drained =
        serve_turns (λ f c x. is_going x.stop ≡ true → (take_ready x.forward now packet_buffer).result.answer ≡ Ok None) (λ f c e t. e) (λ f c n x e g rest t. rest t)
        (λ f c n e g t. absurd (false≢true (sym g ∙ t))) f c

-- what the loop asks is met by a good direction and a good side, if their copies and Data are few
pub good_can_serve : {f : Direction} {b : Inbound} {frolls rolls : List Float} {now : ℕ} → Good f frolls → GoodInbound b rolls → b.side.data_received + f.path.scheduler.count ≤ count_limit → now ≤ max_duration → CanServeForward f b rolls now
good_can_serve good g few time = record { sound = good.sound; times = good.times; cleared = good.cleared; good = g; few = few; in_time = time }
