-- The invariant through every fair list of events, and what it says at the end: demand 3 up to its last sentence.
use mathlib.Core.Path.{◌≡◌, refl, sym, ap, ap₂, ◌∙◌}
use mathlib.Core.Bool.{Bool, true, false, not}
use mathlib.Core.List.{List, [], ◌∷◌, map, Memᴰ}
use Prim.Native.Nat.{ℕ, ◌+◌, ◌-◌, ◌≤◌}
use native.Mathlib.Omega.{arith}
use lib.ListN.{length, get_or}
use lib.Dec.{leb, ltb}
use borrow.Author.Tests.{le-leb, lt-ltb}
use Rattle.protocol.specs.Runs.{up_from}
use Rattle.protocol.specs.Machine.{Segment, next_number, is_acknowledged, receive}
use Rattle.protocol.specs.PlainMachine.{PlainState, not_noted, plain_outstanding, plain_start, plain_data, plain_ack, plain_call, plain_step, plain_run, WindowFits}
use Rattle.protocol.specs.Trace.{World, new_world, Event, sent, resent, received, acknowledged, other, step, run, Allowed, Admissible, call_of, plain_after, outstanding, Claim}
use Rattle.protocol.specs.declared.ProtocolType.{ProtocolType}
use Rattle.protocol.specs.declared.ProtocolType.TheVariants.{StopAndWait, GoBackN, SelectiveRepeat}
use Rattle.protocol.proofs.Invariant.{is_selective, Invariant, at_start, chunks_length, sent_ok, resent_ok}
use Rattle.protocol.proofs.InOrder.{received_in_order, acknowledged_in_order}
use Rattle.protocol.proofs.Outstanding.{kept_is}
use Rattle.protocol.proofs.Selective.{received_selective, acknowledged_selective}

received_ok : (p : ProtocolType) (w : ℕ) (v : World) (s : PlainState) (q : Segment) → WindowFits p w → Invariant (is_selective p) w v s → Memᴰ q v.segments
    → Invariant (is_selective p) w (step p w v (received q)) (plain_data p w s q.number)
unfolding step receive plain_data
received_ok StopAndWait w v s q o h m = received_in_order StopAndWait w v s q o h m
received_ok GoBackN w v s q o h m = received_in_order GoBackN w v s q o h m
received_ok SelectiveRepeat w v s q o h m = received_selective w v s q h m

acknowledged_ok : (p : ProtocolType) (w : ℕ) (v : World) (s : PlainState) (n : ℕ) → WindowFits p w → Invariant (is_selective p) w v s → Memᴰ n v.acks
    → Invariant (is_selective p) w (step p w v (acknowledged n)) (plain_ack p s n)
acknowledged_ok StopAndWait w v s n o h m = acknowledged_in_order StopAndWait w v s n refl o h m
acknowledged_ok GoBackN w v s n o h m = acknowledged_in_order GoBackN w v s n refl o h m
acknowledged_ok SelectiveRepeat w v s n o h m = acknowledged_selective w v s n h m

pub step_ok : (p : ProtocolType) (w : ℕ) (v : World) (s : PlainState) (e : Event) → WindowFits p w → Invariant (is_selective p) w v s → Allowed w v e
    → Invariant (is_selective p) w (step p w v e) (plain_step p w s (call_of e))
unfolding step plain_step plain_call
step_ok p w v s (sent c) o h a = sent_ok p (is_selective p) w v s c h a
step_ok p w v s (resent n k) o h a = resent_ok p (is_selective p) w v s n k h a.0 a.1
step_ok p w v s (received q) o h a = received_ok p w v s q o h a
step_ok p w v s (acknowledged n) o h a = acknowledged_ok p w v s n o h a
step_ok p w v s (other c) o h a = h

pub run_ok : (p : ProtocolType) (w : ℕ) (v : World) (s : PlainState) (es : List Event) → WindowFits p w → Invariant (is_selective p) w v s → Admissible p w v es
    → Invariant (is_selective p) w (run p w v es) (plain_run p w s (map call_of es))
unfolding run plain_run
run_ok p w v s [] o h f = h
run_ok p w v s (e ∷ es) o h f = run_ok p w (step p w v e) (plain_step p w s (call_of e)) es o (step_ok p w v s e o h f.0) f.1

pub from_start : (p : ProtocolType) (w : ℕ) (es : List Event) → WindowFits p w → Admissible p w (new_world p w) es
    → Invariant (is_selective p) w (run p w (new_world p w) es) (plain_after p w es)
from_start p w es o f = run_ok p w (new_world p w) plain_start es o (at_start p w) f

marked_noted : (b : Bool) (w : ℕ) (v : World) (s : PlainState) (n : ℕ) → Invariant b w v s → v.sender.base ≤ n
    → is_acknowledged v.sender n ≡ get_or s.at_sender n false
marked_noted false w v s n i l = i.own.no_marks (n - v.sender.base) ∙ sym (i.own.none_noted n)
marked_noted true w v s n i l =
    let h = i.ends in
    let z : s.A + (n - v.sender.base) ≡ n = omega (arith, h) in
    i.own.marks_is (n - v.sender.base) ∙ ap (λ (k : ℕ). get_or s.at_sender k false) z

outstanding_same : (b : Bool) (w : ℕ) (v : World) (s : PlainState) → Invariant b w v s → outstanding v.sender ≡ plain_outstanding s
unfolding outstanding plain_outstanding
outstanding_same b w v s i =
    kept_is v.sender s.at_sender v.sender.base (length v.sender.chunks) (λ n l m.
    let e₁ : leb v.sender.base n ≡ true = le-leb v.sender.base n l in
    let e₂ : ltb n (next_number v.sender) ≡ true = lt-ltb n (next_number v.sender) m in
    rw (e₁, e₂) (ap not (marked_noted b w v s n i l)))
    ∙ ap₂ (λ (x y : ℕ). not_noted s.at_sender (up_from x y)) i.ends.base_is (chunks_length i.ends)

pub claimed : (b : Bool) (w : ℕ) (v : World) (s : PlainState) → Invariant b w v s → Claim w v s
claimed b w v s i =
    let h = i.ends in
    let x = chunks_length h in
    record {
      receiver_base = h.expected_is;
      sender_base = h.base_is;
      first_delivered = h.delivered_is;
      not_negative = h.A≤D;
      in_window = omega arith;
      all_numbered = omega arith;
      rest_held = h.chunks_is;
      outstanding_is = outstanding_same b w v s i;
    }
