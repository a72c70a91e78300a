-- Demand 3 for the two ends over numbers and chunks: after every fair list, and after one resending that follows it.
use mathlib.Core.Path.{◌≡◌, refl, sym, ap, ap₂, ◌∙◌}
use mathlib.Core.List.{List, [], ◌∷◌, ◌++◌, map, map-append, append-nil}
use mathlib.Core.Bool.{Bool, true, false, cond}
use lib.Dec.{leb, eqb}
use Prim.Native.Nat.{ℕ, ◌+◌}
use native.Mathlib.Omega.{arith}
use lib.ListN.{length, take}
use lib.Seq.{take-length}
use Rattle.protocol.specs.Machine.{Segment, segments_from, receive}
use Rattle.protocol.specs.PlainMachine.{Call, send_chunk, handle_timeout, handle_data, handle_ack, PlainState, plain_start, with_a, plain_send, plain_ack, plain_call, plain_step, plain_run, Fed, fed, WindowFits}
use Rattle.protocol.specs.Trace.{World, new_world, Event, resent, received, acknowledged, step, run, Admissible, call_of, plain_after, Claim, outstanding, ResendsAll, AllDelivered}
use Rattle.protocol.specs.declared.ProtocolType.{ProtocolType}
use Rattle.protocol.specs.declared.ProtocolType.TheVariants.{StopAndWait, GoBackN, SelectiveRepeat}
use Rattle.protocol.proofs.Invariant.{is_selective}
use Rattle.protocol.proofs.Safety.{from_start, claimed}
use Rattle.protocol.proofs.Resending.{Resent, resending_ok, data_same}

pub plain_append : (p : ProtocolType) (w : ℕ) (s : PlainState) (es fs : List Fed) → plain_run p w s (es ++ fs) ≡ plain_run p w (plain_run p w s es) fs
unfolding plain_run
plain_append p w s [] fs = refl
plain_append p w s (e ∷ es) fs = plain_append p w (plain_step p w s e) es fs

-- S grows only by a chunk that was sent
abbrev pub chunks_of : Call → List (List ℕ)
chunks_of (send_chunk c) = c ∷ []
chunks_of handle_timeout = []
chunks_of (handle_data n) = []
chunks_of (handle_ack n) = []

abbrev pub chunks_fed : Fed → List (List ℕ)
chunks_fed f = cond f.effect (chunks_of f.call) []

pub plain_sent : (p : ProtocolType) (w : ℕ) (s : PlainState) (f : Fed) → (plain_step p w s f).sent ≡ s.sent ++ chunks_fed f
unfolding plain_step plain_call plain_send plain_ack
plain_sent p w s f = by_effect f.effect f.call
  where
    kept : (b : Bool) (t : PlainState) → t.sent ≡ s.sent → (cond b t s).sent ≡ s.sent ++ []
    kept true t e = e ∙ sym (append-nil s.sent)
    kept false t e = sym (append-nil s.sent)

    acked : (p : ProtocolType) (n : ℕ) → (plain_ack p s n).sent ≡ s.sent ++ []
    acked StopAndWait n = kept (eqb n s.A) (with_a s (s.A + 1)) refl
    acked GoBackN n = kept (leb s.A n) (with_a s (n + 1)) refl
    acked SelectiveRepeat n = sym (append-nil s.sent)

    by_effect : (b : Bool) (c : Call) → (cond b (plain_call p w s c) s).sent ≡ s.sent ++ chunks_fed (fed c b)
    by_effect true (send_chunk c) = refl
    by_effect true handle_timeout = sym (append-nil s.sent)
    by_effect true (handle_data n) = (data_same p w s n).same_sent ∙ sym (append-nil s.sent)
    by_effect true (handle_ack n) = acked p n
    by_effect false c = sym (append-nil s.sent)

pub fair_append : (p : ProtocolType) (w : ℕ) (v : World) (es fs : List Event) → Admissible p w v es → Admissible p w (run p w v es) fs → Admissible p w v (es ++ fs)
unfolding run
fair_append p w v [] fs f g = g
fair_append p w v (e ∷ es) fs f g = (f.0, fair_append p w (step p w v e) es fs f.1 g)

pub after_append : (p : ProtocolType) (w : ℕ) (es fs : List Event) → plain_after p w (es ++ fs) ≡ plain_run p w (plain_after p w es) (map call_of fs)
after_append p w es fs = ap (plain_run p w plain_start) (map-append call_of es fs) ∙ plain_append p w plain_start (map call_of es) (map call_of fs)

-- after every fair list
pub safe : (p : ProtocolType) (w : ℕ) (es : List Event) → WindowFits p w → Admissible p w (new_world p w) es
    → Claim w (run p w (new_world p w) es) (plain_after p w es)
safe p w es o f = claimed (is_selective p) w (run p w (new_world p w) es) (plain_after p w es) (from_start p w es o f)

-- if one resending follows
pub record ResentAll (p : ProtocolType) (w : ℕ) (es fs : List Event) : Type 0 where
  pub fair : Admissible p w (new_world p w) (es ++ fs)
  pub all : AllDelivered (plain_after p w es) (run p w (new_world p w) (es ++ fs)) (plain_after p w (es ++ fs))

pub resent_all : (p : ProtocolType) (w : ℕ) (es fs : List Event) → WindowFits p w → Admissible p w (new_world p w) es
    → ResendsAll p w (run p w (new_world p w) es) (outstanding (run p w (new_world p w) es).sender) [] [] fs → ResentAll p w es fs
resent_all p w es fs o f r =
    let v : World = run p w (new_world p w) es in
    let s : PlainState = plain_after p w es in
    let x : Resent p w v s fs = resending_ok p w v s fs o (from_start p w es o f) r in
    let g : Admissible p w (new_world p w) (es ++ fs) = fair_append p w (new_world p w) es fs f x.fair in
    let c = safe p w (es ++ fs) o g in
    let e : plain_after p w (es ++ fs) ≡ plain_run p w s (map call_of fs) = after_append p w es fs in
    let same : (plain_after p w (es ++ fs)).sent ≡ s.sent = ap (λ (t : PlainState). t.sent) e ∙ x.same_sent in
    let last : (plain_after p w (es ++ fs)).D ≡ length s.sent = ap (λ (t : PlainState). t.D) e ∙ x.last_D in
    record {
      fair = g;
      all = record {
        same_sent = same;
        last_D = last;
        last_A = ap (λ (t : PlainState). t.A) e ∙ x.last_A;
        all_delivered = c.first_delivered ∙ ap₂ take last same ∙ take-length s.sent;
      };
    }

-- in every world there is a resending: all numbers, then all segments, then all ACKs
pub record SomeResending (p : ProtocolType) (w : ℕ) (v : World) (numbers : List ℕ) (segments : List Segment) (acks : List ℕ) : Type 0 where
  pub events : List Event
  pub resending : ResendsAll p w v numbers segments acks events

carry_acks : (p : ProtocolType) (w : ℕ) (v : World) (acks : List ℕ) → SomeResending p w v [] [] acks
carry_acks p w v [] = record { events = []; resending = (refl, refl, refl) }
carry_acks p w v (n ∷ acks) =
    let r = carry_acks p w (step p w v (acknowledged n)) acks in
    record { events = acknowledged n ∷ r.events; resending = (refl, r.resending) }

carry_segments : (p : ProtocolType) (w : ℕ) (v : World) (segments : List Segment) (acks : List ℕ) → SomeResending p w v [] segments acks
carry_segments p w v [] acks = carry_acks p w v acks
carry_segments p w v (q ∷ segments) acks =
    let r = carry_segments p w (step p w v (received q)) segments (acks ++ (receive p w v.receiver q).acks) in
    record { events = received q ∷ r.events; resending = (refl, r.resending) }

pub some_resending : (p : ProtocolType) (w : ℕ) (v : World) (numbers : List ℕ) (segments : List Segment) (acks : List ℕ)
    → SomeResending p w v numbers segments acks
some_resending p w v [] segments acks = carry_segments p w v segments acks
some_resending p w v (n ∷ numbers) segments acks =
    let r = some_resending p w (step p w v (resent n 1)) numbers (segments ++ segments_from v.sender n 1) acks in
    record { events = resent n 1 ∷ r.events; resending = (omega arith, refl, r.resending) }
