-- What holds of a run's ends and its forward line on any rolls; each part of a step keeps it, and at the end it says what was written.
use Rattle.std.specs.Prelude.{Ok, Some, Option, None}
use Prim.Native.Nat.{ℕ, zero, suc, ◌≤◌, ◌<◌}
use mathlib.Core.Path.{◌≡◌, refl, sym, ap, ◌∙◌, subst}
use mathlib.Core.Bool.{Bool, true, false, not, true≢false}
use mathlib.Core.List.{List, [], flatten}
use native.Mathlib.Omega.{arith}
use borrow.Author.Tests.{ltb-false}
use lib.Dec.{ltb}
use lib.Ieee.{Float}
use lib.ListN.{length, get_or, replicate}
use lib.Seq.{length-take-le}
use Rattle.refusal.proofs.Laws.{none_of}
use Rattle.protocol.specs.declared.ProtocolType.{ProtocolType}
use Rattle.protocol.specs.declared.ProtocolType.TheVariants.{StopAndWait, GoBackN, SelectiveRepeat}
use Rattle.protocol.specs.Machine.{Chunk, ReceiverState}
use Rattle.chunks.proofs.Laws.{chunks_joined}
use Rattle.window.specs.State.{window_broken}
use Rattle.refinement.proofs.Laws.{fresh_receiver_follows}
use Rattle.channel.specs.declared.ChannelConfig.{ChannelConfig}
use Rattle.path.specs.Direction.{Direction}
use Rattle.path.specs.Path.{new_path, is_going, left_by_take}
use Rattle.path.proofs.Laws.{new_each}
use Rattle.clock.specs.Clock.{due, cancel_number}
use Rattle.clock.specs.declared.Timing.{Timing}
use Rattle.clock.specs.declared.Timing.TheVariants.{PerNumber}
use Rattle.clock.specs.declared.Due.TheVariants as ran
use Rattle.session.specs.declared.Timeout.{Timeout}
use Rattle.session.specs.declared.Timeout.TheVariants as timeout
use Rattle.session.specs.Sending.{SenderEnd, new_sender, has_outstanding}
use Rattle.session.specs.Receiving.{ReceiverEnd, new_receiver, base, filled}
use Rattle.receiving.specs.Receiving.{Inbound, serve_forward}
use Rattle.receiving.specs.Good.{CanServeForward}
use Rattle.receiving.proofs.Laws.{CompletedIs, next_taken, next_exit}
use Rattle.acks.specs.Acks.{AckState}
use Rattle.acks.specs.Reverse.{serve_reverse}
use Rattle.sending.specs.Sending.{PumpState, pump_sends}
use Rattle.sending.specs.Good.{CanPump}
use Rattle.sending.specs.Retransmit.{ceiling_met}
use Rattle.timeouts.specs.Timeouts.{FireState, with_clock, timed_out, timeout_of, stopped, fire_number, fire_timers}
use Rattle.completion.specs.Delivered.{delivered_to, written}
use Rattle.completion.proofs.Laws.{Start, chunks_in, Begun, end_of, CanTimeOut}
use Rattle.prefixes.specs.Prefixes.{PrefixesWritten}
use Rattle.prefixes.proofs.Joined.{EachPrefix, joined_short, joined_same}
use Rattle.prefixes.proofs.Parts.{HeldOk}
use Rattle.prefixes.proofs.Receiver.{Parts, EndWritten, end_parts}
use Rattle.prefixes.proofs.Copies.{PrefixAt}
use Rattle.prefixes.proofs.Sender.{new_sender_holds}
use Rattle.prefixes.proofs.Serving.{turn_written, serve_forward_written, serve_reverse_holds}
use Rattle.prefixes.proofs.Sends.{Sends, pump_sends_lem, timed_out_sends, fired_sends}

-- the sender holds the file's chunks, what waits on the forward line are copies of their datagrams, and the receiver wrote and holds prefixes of them
pub record Prefixed (s : Start) (v : SenderEnd) (r : ReceiverEnd) (output : List ℕ) (forward : Direction) : Type 0 where
  pub begun : Begun s
  pub sends : Sends (chunks_in s) v forward
  pub receives : EndWritten (PrefixAt (chunks_in s)) s.output r output

-- ---- at the start
module _ (P : ℕ → Chunk → Type 0) (output : List ℕ) where
  none_written : Parts P output 0 0 output
  unfolding flatten
  none_written = record { mark = omega arith; parts = []; count = refl; each = λ i l. absurd (omega arith); joined = refl; behind = refl }

  vacant : (w i : ℕ) → get_or (replicate {A = Option Chunk} w None) i None ≡ None
  vacant zero i = refl
  vacant (suc w) zero = refl
  vacant (suc w) (suc i) = vacant w i

  none_held : (w : ℕ) → HeldOk P 0 (replicate w None)
  none_held w = record { at = λ i c e. no_chunk c (sym (vacant w i) ∙ e) }
    where
      no_chunk : {X : Type 0} (c : Chunk) → ◌≡◌ {A = Option Chunk} None (Some c) → X
      no_chunk c e = let z : ◌≡◌ {A = ℕ} 0 1 = cc in absurd (omega arith)

  positive : (w : ℕ) → window_broken w ≡ false → 0 < w
  unfolding window_broken
  positive w e = let p : 1 ≤ w = ltb-false w 1 (none_of _ e).0 in omega arith

  new_receiver_written : (p : ProtocolType) (w : ℕ) (store : List ℕ) → window_broken w ≡ false → EndWritten P output (new_receiver p w store) output
  unfolding new_receiver
  new_receiver_written StopAndWait w store b = record { holds = refl; parts = none_written }
  new_receiver_written GoBackN w store b = record { holds = refl; parts = none_written }
  new_receiver_written SelectiveRepeat w store b =
      record { holds = subst (λ (m : ReceiverState). HeldOk P m.base m.held) (sym (fresh_receiver_follows w store (positive w b))) (none_held w); parts = none_written }

pub prefixed_start : {s : Start} → Begun s → (c : ChannelConfig) (rs : List (List ℕ)) (ps : List ℕ) → Prefixed s (new_sender s.protocol s.window s.limit s.sending) (new_receiver s.protocol s.window s.receiving) s.output (new_path c rs ps)
prefixed_start {s} b c rs ps =
    record {
      begun = b;
      sends = record { sender = new_sender_holds (chunks_in s) s.protocol s.window s.limit s.sending b.made.octets; waiting = new_each c rs ps };
      receives = new_receiver_written (PrefixAt (chunks_in s)) s.output s.protocol s.window s.receiving b.made.in_bounds;
    }

-- ---- the parts of a step
-- the sending side changed
sent_on : {s : Start} {v u : SenderEnd} {r : ReceiverEnd} {output : List ℕ} {d e : Direction} → Prefixed s v r output d → Sends (chunks_in s) u e → Prefixed s u r output e
sent_on q x = record { begun = q.begun; sends = x; receives = q.receives }

-- a copy that the forward line hands over, and all that are due
pub prefixed_turn : {s : Start} {v : SenderEnd} {b : Inbound} {forward : Direction} (rolls : List Float) (total now n : ℕ) → CanServeForward forward b rolls now → (next_taken now forward).result.answer ≡ Ok (Some n) → Prefixed s v (end_of b) b.output forward
    → Prefixed s v (end_of (next_exit rolls total now forward b n).inbound) (next_exit rolls total now forward b n).inbound.output (left_by_take (next_taken now forward))
prefixed_turn {s} {b = b} {forward} rolls total now n can e q =
    let x = turn_written (PrefixAt (chunks_in s)) s.output rolls total now forward b n e (record { can = can; waiting = q.sends.waiting; written = q.receives }) in
    record { begun = q.begun; sends = record { sender = q.sends.sender; waiting = x.waiting }; receives = x.written }

pub prefixed_served : {s : Start} {v : SenderEnd} {b : Inbound} {forward : Direction} (rolls : List Float) (total now : ℕ) → CanServeForward forward b rolls now → Prefixed s v (end_of b) b.output forward
    → Prefixed s v (end_of (serve_forward rolls total now forward b).inbound) (serve_forward rolls total now forward b).inbound.output (serve_forward rolls total now forward b).forward
prefixed_served {s} {b = b} {forward} rolls total now can q =
    let x = serve_forward_written (PrefixAt (chunks_in s)) s.output rolls total now forward b (record { can = can; waiting = q.sends.waiting; written = q.receives }) in
    record { begun = q.begun; sends = record { sender = q.sends.sender; waiting = x.waiting }; receives = x.written }

-- what is due on the reverse line, whatever it is
pub prefixed_acked : {s : Start} {r : ReceiverEnd} {output : List ℕ} {forward : Direction} (timing : Timing) (now : ℕ) (reverse : Direction) (a : AckState) → Prefixed s a.sender r output forward
    → Prefixed s (serve_reverse timing now reverse a).state.sender r output forward
prefixed_acked {s} timing now reverse a q = sent_on q (record { sender = serve_reverse_holds (chunks_in s) timing now reverse a q.sends.sender; waiting = q.sends.waiting })

-- chunks that are sent
module _ (s : Start) (r : ReceiverEnd) (output : List ℕ) where
  abbrev pub PrefixedPump : PumpState → Type 0
  PrefixedPump w = Prefixed s w.sender r output w.outgoing.forward

  pub prefixed_pumped : {t : Timing} {rolls : List Float} {total rto now : ℕ} {w : PumpState} → CanPump t rolls s.size s.file total rto now w → PrefixedPump w → PrefixedPump (pump_sends t rolls (chunks_in s) rto now w).state
  prefixed_pumped can q = sent_on q (pump_sends_lem s.size s.file q.begun.octets can q.sends)

  -- a timeout, and the timers that have run out
  abbrev pub PrefixedFire : FireState → Type 0
  PrefixedFire f = Prefixed s f.sender r output f.outgoing.forward

  pub prefixed_timed_out : (limit : ℕ) (t : Timing) (rolls : List Float) (now : ℕ) (of : Timeout) (f : FireState) → CanTimeOut t rolls now of f → PrefixedFire f → PrefixedFire (timed_out limit t rolls now of f).state
  prefixed_timed_out limit t rolls now of f can q = sent_on q (timed_out_sends (chunks_in s) rolls limit now t of f can q.sends)

  -- Can: what the loop over the numbers asks
  pub prefixed_fired : (limit : ℕ) (rolls : List Float) (now : ℕ) (Can : FireState → Type 0)
      → ((n : ℕ) (f : FireState) → Can f → ceiling_met limit f.resends ≡ false → CanTimeOut PerNumber rolls now (timeout.Number n) (with_clock f (cancel_number f.outgoing.clock n)))
      → ((n : ℕ) (f : FireState) → Can f → ceiling_met limit f.resends ≡ false → is_going (fire_number limit rolls now n f).stop ≡ true → Can (fire_number limit rolls now n f).state)
      → (t : Timing) (f : FireState) → (ceiling_met limit f.resends ≡ false → due t f.outgoing.clock now (has_outstanding f.sender.sender) ≡ ran.Numbers → Can f)
      → (ceiling_met limit f.resends ≡ false → due t f.outgoing.clock now (has_outstanding f.sender.sender) ≡ ran.Single → CanTimeOut t rolls now (timeout_of t) (with_clock f (stopped f.outgoing.clock)))
      → PrefixedFire f → PrefixedFire (fire_timers limit t rolls now f).state
  prefixed_fired limit rolls now Can number goes_on t f can single q = sent_on q (fired_sends (chunks_in s) rolls limit now Can number goes_on t f can single q.sends)

-- ---- what it says
pub parts_known : (chunks parts : List Chunk) → ((i : ℕ) → i < length parts → PrefixAt chunks i (get_or parts i [])) → length parts ≤ length chunks
parts_known chunks parts f = go (length parts) (λ i l. (f i l).known)
  where
    go : (n : ℕ) → ((i : ℕ) → i < n → i < length chunks) → n ≤ length chunks
    go zero g = omega arith
    go (suc n) g = let l = g n (omega arith) in omega arith

pub parts_written : (chunks : List Chunk) (before : List ℕ) (r : ReceiverEnd) (output : List ℕ) → Parts (PrefixAt chunks) before (base r.receiver) (filled r.receiver) output → PrefixesWritten chunks before r output
parts_written chunks before r output p =
    let few = parts_known chunks p.parts p.each in
    let n = p.count in
    let each : EachPrefix chunks p.parts = λ i l. (p.each i l).prefix in
    let size = sym (ap length p.joined) ∙ length-take-le (filled r.receiver) output p.mark in
    record {
      few = omega (arith, few, n);
      parts = p.parts;
      count = n;
      prefixes = each;
      joined = p.joined;
      nothing_else = p.behind;
      all_written = λ all e. p.joined ∙ joined_same p.parts chunks (omega (arith, few, n, all)) each (size ∙ e);
    }

module _ {s : Start} {v : SenderEnd} {r : ReceiverEnd} {output : List ℕ} {forward : Direction} (q : Prefixed s v r output forward) where
  pub prefixed_written : PrefixesWritten (chunks_in s) s.output r output
  prefixed_written = parts_written (chunks_in s) s.output r output (end_parts (PrefixAt (chunks_in s)) s.output r output q.receives)

  -- completed with the fill mark at the file's length: the output is the file
  pub prefixed_file : length (chunks_in s) ≤ delivered_to r → filled r.receiver ≡ length s.file → written r output ≡ s.file
  prefixed_file all e =
      let joined = chunks_joined s.size s.file q.begun.some in
      prefixed_written.all_written all (e ∙ ap length (sym joined)) ∙ joined

  -- the fill mark is never above the file's length
  pub prefixed_fill : filled r.receiver ≤ length s.file
  prefixed_fill =
      let p = end_parts (PrefixAt (chunks_in s)) s.output r output q.receives in
      let few = parts_known (chunks_in s) p.parts p.each in
      let short = joined_short p.parts (chunks_in s) few (λ i l. (p.each i l).prefix) in
      let size = sym (ap length p.joined) ∙ length-take-le (filled r.receiver) output p.mark in
      let joined = ap length (chunks_joined s.size s.file q.begun.some) in
      omega (arith, short, size, joined)

-- a completed run whose fill mark is the file's length has written the file
pub prefixed_completed : {s : Start} {v : SenderEnd} {forward : Direction} (b : Inbound) → Prefixed s v (end_of b) b.output forward → CompletedIs (length (chunks_in s)) b.side → b.side.completed ≡ true
    → filled b.side.receiver ≡ length s.file → written (end_of b) b.output ≡ s.file
prefixed_completed {s} b q is done e = prefixed_file q (all (ltb (delivered_to (end_of b)) (length (chunks_in s))) refl) e
  where
    all : (t : Bool) → ltb (delivered_to (end_of b)) (length (chunks_in s)) ≡ t → length (chunks_in s) ≤ delivered_to (end_of b)
    all false e = ltb-false _ _ e
    all true e = absurd (true≢false (sym done ∙ is ∙ ap not e))
