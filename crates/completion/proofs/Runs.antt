-- The invariant of a run: if the flips of its events are outside the length bytes, its parts follow a list of calls. Every part of a step keeps it.
use Rattle.std.specs.Prelude.{Option}
use Prim.Native.Nat.{ℕ, zero, suc, ◌+◌, ◌-◌, ◌≤◌, ◌<◌}
use mathlib.Core.Path.{◌≡◌, refl, sym, ap, ◌∙◌, subst}
use mathlib.Core.Bool.{Bool, true, false, not, true≢false}
use mathlib.Core.List.{List}
use native.Mathlib.Omega.{arith}
use lib.Ieee.{Float}
use lib.ListN.{length}
use lib.Dec.{ltb}
use borrow.Author.Tests.{ltb-false}
use Rattle.channel.specs.declared.Channel.{Channel}
use Rattle.channel.specs.declared.ChannelConfig.{ChannelConfig}
use Rattle.channel.proofs.Laws.{NoFaults}
use Rattle.path.specs.Direction.{Direction}
use Rattle.path.specs.Path.{new_path, is_going}
use Rattle.events.specs.Events.{ForwardEvent, events_of}
use Rattle.clock.specs.declared.Timing.{Timing}
use Rattle.session.specs.Sending.{SenderEnd, new_sender, resent}
use Rattle.session.specs.Receiving.{ReceiverEnd, new_receiver}
use Rattle.session.specs.declared.Timeout.{Timeout}
use Rattle.session.proofs.Laws.{ResentAs}
use Rattle.submission.specs.Submission.{Outgoing}
use Rattle.receiving.specs.Receiving.{Inbound, serve_forward}
use Rattle.receiving.specs.Good.{CanServeForward}
use Rattle.receiving.proofs.Laws.{CompletedIs, serve_keeps_forward, serve_keeps_sizes}
use Rattle.acks.specs.Acks.{AckState}
use Rattle.acks.specs.Reverse.{serve_reverse, CanServeReverse}
use Rattle.acks.proofs.Laws.{serve_reverse_keeps_direction}
use Rattle.sending.specs.Sending.{PumpState, PumpExit, next_number, can_pump, send_one, pump_sends}
use Rattle.sending.specs.Good.{CanPump}
use Rattle.sending.specs.Retransmit.{retransmit_all, CanRetransmitAll}
use Rattle.sending.specs.declared.Resends.{Resends}
use Rattle.sending.proofs.Laws.{number_left, next_grows, send_keeps, given, can_submit_next, pump_nothing, pump_going, pump_stopped}
use Rattle.completion.specs.Flips.{FlipsOutside}
use Rattle.completion.specs.Delivered.{delivered_to, written, FirstDelivered}
use Rattle.completion.proofs.Reached.{Start, chunks_in}
use Rattle.completion.proofs.Follows.{Begun, Follows, new_follows, timed_out}
use Rattle.completion.proofs.Conclusion.{first_delivered, file_written}
use Rattle.completion.proofs.Events.{events_in, Logged, submit_logged, flips_before, new_logged}
use Rattle.completion.proofs.Serving.{end_of, serve_forward_follows}
use Rattle.completion.proofs.Acking.{serve_reverse_follows}
use Rattle.completion.proofs.Submitting.{send_one_follows}
use Rattle.completion.proofs.Resending.{Resubmits, numbers_resubmitted}

-- c and rolls are the forward line's; the reverse line has no faults
pub record Runs (s : Start) (c : ChannelConfig) (rolls : List Float) (v : SenderEnd) (r : ReceiverEnd) (output : List ℕ) (forward : Direction) (events : List ForwardEvent) (reverse : Direction) : Type 0 where
  pub logged : Logged c forward events
  pub no_faults : NoFaults reverse.path.channel.config
  pub follows : FlipsOutside c rolls (chunks_in s) events → Follows s v r output forward reverse

-- with the sending side, and with the receiving side
abbrev pub RunsOutgoing : Start → ChannelConfig → List Float → SenderEnd → ReceiverEnd → List ℕ → Outgoing → Direction → Type 0
RunsOutgoing s c rolls v r output o reverse = Runs s c rolls v r output o.forward (events_in o) reverse

abbrev pub RunsInbound : Start → ChannelConfig → List Float → SenderEnd → Inbound → Direction → List ForwardEvent → Type 0
RunsInbound s c rolls v b forward events = Runs s c rolls v (end_of b) b.output forward events b.reverse

-- ---- at the start
pub runs_start : {s : Start} → Begun s → (c d : ChannelConfig) (rolls : List Float) (frs rrs : List (List ℕ)) (fps rps : List ℕ) (rows : List (List ℕ)) → NoFaults d
    → Runs s c rolls (new_sender s.protocol s.window s.limit s.sending) (new_receiver s.protocol s.window s.receiving) s.output (new_path c frs fps) (events_of 0 rows) (new_path d rrs rps)
unfolding new_path
runs_start b c d rolls frs rrs fps rps rows none = record { logged = new_logged c frs fps rows; no_faults = none; follows = λ flips. new_follows b c d frs rrs fps rps }

-- ---- what is due on the forward line
pub runs_served : {s : Start} {c : ChannelConfig} {rolls : List Float} {v : SenderEnd} {b : Inbound} {forward : Direction} {events : List ForwardEvent} (reverse_rolls : List Float) (total now : ℕ) → CanServeForward forward b reverse_rolls now
    → RunsInbound s c rolls v b forward events → RunsInbound s c rolls v (serve_forward reverse_rolls total now forward b).inbound (serve_forward reverse_rolls total now forward b).forward events
runs_served {b = b} {forward} reverse_rolls total now can q =
    let k = serve_keeps_forward reverse_rolls total now forward b can in
    record {
      logged = record { config = ap (λ (x : Channel). x.config) k.channel ∙ q.logged.config; used = k.used ∙ q.logged.used };
      no_faults = subst NoFaults (sym (serve_keeps_sizes reverse_rolls total now forward b can).reverse.config) q.no_faults;
      follows = λ flips. (serve_forward_follows reverse_rolls total now forward b (record { can = can; no_faults = q.no_faults; follows = q.follows flips })).follows;
    }

-- ---- what is due on the reverse line
pub runs_acked : {s : Start} {c : ChannelConfig} {rolls : List Float} {r : ReceiverEnd} {output : List ℕ} {forward d : Direction} {events : List ForwardEvent} (timing : Timing) (now : ℕ) (a : AckState) → CanServeReverse d a now
    → Runs s c rolls a.sender r output forward events d → Runs s c rolls (serve_reverse timing now d a).state.sender r output forward events (serve_reverse timing now d a).reverse
runs_acked {s} {r = r} {output} {forward} {d} timing now a can q =
    record {
      logged = q.logged;
      no_faults = subst (λ (x : Channel). NoFaults x.config) (sym (serve_reverse_keeps_direction timing now d a can).channel) q.no_faults;
      follows = λ flips. serve_reverse_follows timing now s r output forward d a can (q.follows flips);
    }

-- ---- a timeout, with what becomes of its packets
pub runs_timed_out : {s : Start} {c : ChannelConfig} {rolls : List Float} {v : SenderEnd} {r : ReceiverEnd} {output : List ℕ} {o after : Outgoing} {reverse : Direction} (t : Timeout) → Resubmits s c rolls (resent v t).packets o after
    → RunsOutgoing s c rolls v r output o reverse → RunsOutgoing s c rolls (resent v t).after r output after reverse
runs_timed_out t x q =
    record {
      logged = x.logged;
      no_faults = q.no_faults;
      follows = λ flips. let u = timed_out (q.follows (x.before flips)) t in record { world = u.world; holds = x.follows u.made flips u.holds };
    }

-- with its packets until the ceiling is met or the run ends
pub runs_resent : {s : Start} {c : ChannelConfig} {rolls : List Float} {v : SenderEnd} {r : ReceiverEnd} {output : List ℕ} {o : Outgoing} {reverse : Direction} {timing : Timing} {rto now : ℕ} {again : Resends} (limit : ℕ) (oldest : Option ℕ) (t : Timeout) (x : ResentAs v t)
    → CanRetransmitAll timing rolls rto now (resent v t).after x.first x.count again o → RunsOutgoing s c rolls v r output o reverse
    → RunsOutgoing s c rolls (resent v t).after r output (retransmit_all limit timing rolls rto now oldest (resent v t).packets again o).outgoing reverse
runs_resent {s} {c} {rolls} {v} {o = o} {timing = timing} {rto} {now} {again} limit oldest t x can q =
    runs_timed_out t
    (subst (λ (l : List (List ℕ)). Resubmits s c rolls l o (retransmit_all limit timing rolls rto now oldest l again o).outgoing) (sym x.packets_are) (numbers_resubmitted timing rto now oldest limit (resent v t).after x.count x.first again o can q.logged))
    q

-- ---- chunks that are sent
module _ (s : Start) (c : ChannelConfig) (rolls : List Float) (r : ReceiverEnd) (output : List ℕ) (reverse : Direction) where
  abbrev pub RunsPump : PumpState → Type 0
  RunsPump w = RunsOutgoing s c rolls w.sender r output w.outgoing reverse

  pub runs_sent : {t : Timing} {total rto now : ℕ} {w : PumpState} → CanPump t rolls s.size s.file total rto now w → can_pump total w.sender.sender ≡ true → RunsPump w → RunsPump (send_one t rolls (chunks_in s) rto now w).state
  unfolding send_one
  runs_sent {t} {w = w} can free q =
      record {
        logged = submit_logged t rolls (given can free) _ w.outgoing q.logged (can_submit_next can free);
        no_faults = q.no_faults;
        follows = λ flips. send_one_follows can free q.logged flips (q.follows (flips_before t rolls (given can free) _ w.outgoing q.logged (chunks_in s) flips));
      }

  pub runs_pumped : {t : Timing} {total rto now : ℕ} {w : PumpState} → CanPump t rolls s.size s.file total rto now w → RunsPump w → RunsPump (pump_sends t rolls (chunks_in s) rto now w).state
  runs_pumped {t} {total} {rto} {now} {w} can q = by_left (total - next_number w) w refl can q
    where
      by_stop_lem : (w : PumpState) (can : CanPump t rolls s.size s.file total rto now w) (free : can_pump total w.sender.sender ≡ true) → RunsPump (send_one t rolls (chunks_in s) rto now w).state
          → (RunsPump (send_one t rolls (chunks_in s) rto now w).state → RunsPump (pump_sends t rolls (chunks_in s) rto now (send_one t rolls (chunks_in s) rto now w).state).state) → (b : Bool) → is_going (send_one t rolls (chunks_in s) rto now w).stop ≡ b → RunsPump (pump_sends t rolls (chunks_in s) rto now w).state
      by_stop_lem w can free q next true g = subst (λ (x : PumpExit). RunsPump x.state) (sym (pump_going can free g)) (next q)
      by_stop_lem w can free q next false g = subst (λ (x : PumpExit). RunsPump x.state) (sym (pump_stopped can free g)) q

      by_test_lem : (w : PumpState) (can : CanPump t rolls s.size s.file total rto now w) → RunsPump w
          → ((free : can_pump total w.sender.sender ≡ true) → RunsPump (send_one t rolls (chunks_in s) rto now w).state → RunsPump (pump_sends t rolls (chunks_in s) rto now (send_one t rolls (chunks_in s) rto now w).state).state) → (b : Bool) → can_pump total w.sender.sender ≡ b → RunsPump (pump_sends t rolls (chunks_in s) rto now w).state
      by_test_lem w can q next true free = by_stop_lem w can free (runs_sent can free q) (next free) (is_going (send_one t rolls (chunks_in s) rto now w).stop) refl
      by_test_lem w can q next false full = subst (λ (x : PumpExit). RunsPump x.state) (sym (pump_nothing can full)) q

      none_left : (a b : ℕ) → a - b ≡ zero → b < a → ⊥
      none_left a b e h = omega arith

      one_less : (a b d k : ℕ) → a - b ≡ suc k → d ≡ b + 1 → a - d ≡ k
      one_less a b d k e h = omega arith

      by_left : (k : ℕ) (w : PumpState) → total - next_number w ≡ k → CanPump t rolls s.size s.file total rto now w → RunsPump w → RunsPump (pump_sends t rolls (chunks_in s) rto now w).state
      by_left zero w e can q = by_test_lem w can q (λ free x. absurd (none_left total (next_number w) e (number_left can free))) (can_pump total w.sender.sender) refl
      by_left (suc k) w e can q =
          by_test_lem w can q (λ free x. by_left k (send_one t rolls (chunks_in s) rto now w).state (one_less total (next_number w) _ k e (next_grows can free)) (send_keeps can free) x) (can_pump total w.sender.sender) refl

-- ---- demand 3 of a run
module _ {s : Start} {c : ChannelConfig} {rolls : List Float} {v : SenderEnd} {r : ReceiverEnd} {output : List ℕ} {forward : Direction} {events : List ForwardEvent} {reverse : Direction} (q : Runs s c rolls v r output forward events reverse) (flips : FlipsOutside c rolls (chunks_in s) events) where
  pub runs_delivered : FirstDelivered (chunks_in s) s.window s.output v r output
  runs_delivered = first_delivered (q.follows flips)

  pub runs_file : length (chunks_in s) ≤ delivered_to r → written r output ≡ s.file
  runs_file = file_written (q.follows flips)

-- a completed run has written the file
pub runs_completed : {s : Start} {c : ChannelConfig} {rolls : List Float} {v : SenderEnd} {forward : Direction} {events : List ForwardEvent} (b : Inbound) → RunsInbound s c rolls v b forward events → FlipsOutside c rolls (chunks_in s) events
    → CompletedIs (length (chunks_in s)) b.side → b.side.completed ≡ true → written (end_of b) b.output ≡ s.file
runs_completed {s} b q flips is done = runs_file q flips (all (ltb (delivered_to (end_of b)) (length (chunks_in s))) refl)
  where
    all : (t : Bool) → ltb (delivered_to (end_of b)) (length (chunks_in s)) ≡ t → length (chunks_in s) ≤ delivered_to (end_of b)
    all false e = ltb-false _ _ e
    all true e = absurd (true≢false (sym done ∙ is ∙ ap not e))
