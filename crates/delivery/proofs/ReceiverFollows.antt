-- A receiver over bytes follows the machine, whatever its state's type.
use Rattle.std.specs.Prelude.{Err, None, Ok, Option, Result, Some}
use Prim.Native.Nat.{ℕ, ◌+◌, ◌≤◌}
use mathlib.Core.Path.{◌≡◌, refl, sym, ap, ap₂, ◌∙◌}
use mathlib.Core.List.{List, [], ◌∷◌, ◌++◌, flatten, append-nil}
use mathlib.Core.Bool.{true, false}
use lib.ListN.{length, take, drop}
use lib.Seq.{drop-drop}
use Rattle.protocol.specs.declared.ProtocolType.{ProtocolType}
use Rattle.protocol.specs.Machine.{Segment, ReceiverState, Received, receive}
use Rattle.packet.specs.Reading.{payload_of}
use Rattle.receiver.specs.Reading.{read_packet}
use Rattle.receiver.specs.Reply.{answer_of}
use Rattle.receiver.specs.Receive as receiver
use Rattle.receiver.specs.Receive.{ReceiveExit, Reception}
use Rattle.receiver.specs.declared.PacketReading.TheVariants as reading
use Rattle.receiver.proofs.Laws.{receive_either, data_valid}
use Rattle.refinement.specs.Follows.{acks_of}
use Rattle.refinement.specs.Copies.{AckOf, NotValid}
use Rattle.refinement.proofs.Laws.{Took, ReceiveOutcome, packet_refused, not_data, data_taken, took_output, written_behind, outcome_mark, data_number, data_payload}
use Rattle.delivery.specs.Calls.{Done}
use Rattle.delivery.specs.Ends.{bytes_replied, is_received, WithOutput, with_output, by_receiving}
use Rattle.delivery.proofs.Datagrams.{DataBytes, AckBytes, Each}
use Rattle.delivery.proofs.SenderFollows.{false_true}
use Rattle.refusal.specs.declared.Refusal.{Refusal}

-- a refused packet changes nothing
pub answered : (r : Option ℕ) → is_received (answer_of r) ≡ true
answered (Some n) = refl
answered None = refl

pub not_received : {R : Type 0} (x : Reception R) (raw output ack : List ℕ) → is_received (receiver.receive x raw output ack).answer ≡ false
    → by_receiving (receiver.receive x raw output ack) ≡ record { after = with_output x.state output; written = []; is_done = false; is_refused = true }
not_received {R} x raw output ack =
    receive_either x raw output ack
    (λ (y : ReceiveExit R). is_received y.answer ≡ false → by_receiving y ≡ record { after = with_output x.state output; written = []; is_done = false; is_refused = true })
    (λ s h. refl) (λ k h. false_true (sym h ∙ answered x.decision.reply))

-- the ACKs that were written
replies_of : (a : Result (Option ℕ) Refusal) (ack : List ℕ) → List (List ℕ)
replies_of (Ok (Some n)) ack = take 10 ack ∷ []
replies_of (Ok None) ack = []
replies_of (Err r) ack = []

replies_joined : (a : Result (Option ℕ) Refusal) (ack : List ℕ) → bytes_replied a ack ≡ flatten (replies_of a ack)
unfolding replies_of flatten
replies_joined (Ok (Some n)) ack = sym (append-nil (take 10 ack))
replies_joined (Ok None) ack = refl
replies_joined (Err r) ack = refl

each_reply : (a : Result (Option ℕ) Refusal) (ack : List ℕ) → ((n : ℕ) → a ≡ Ok (Some n) → AckOf n (take 10 ack)) → Each AckBytes (replies_of a ack) (acks_of a)
unfolding replies_of
each_reply (Ok (Some n)) ack h = (h n refl, tt)
each_reply (Ok None) ack h = tt
each_reply (Err r) ack h = tt

no_data : (n : ℕ) (raw : List ℕ) → NotValid raw → read_packet raw ≡ reading.Data n → {X : Type 0} → X
no_data n raw t e = absurd (data_valid raw n t e)

segment_of : (n : ℕ) (payload : List ℕ) (q : Segment) → n ≡ q.number → payload ≡ q.payload → ◌≡◌ {A = Segment} (record { number = n; payload = payload }) q
segment_of n payload q e f = rw (e, f)

-- the parts of Follow that speak of a packet: E's receiver is an R with its output, Good what holds of it beside the machine's state
module _ (p : ProtocolType) (w : ℕ) (R : Type 0) (view : R → ReceiverState) (filledOf : R → ℕ) (Good : R → List ℕ → Type 0) where
  pub record ReceiverIs (x : WithOutput R) (m : ReceiverState) : Type 0 where
    pub good : Good x.receiver x.output
    pub mark : filledOf x.receiver ≤ length x.output
    pub is : view x.receiver ≡ m

  abbrev output_of : WithOutput R → List ℕ
  output_of x = take (filledOf x.receiver) x.output

  abbrev behind_of : WithOutput R → List ℕ
  behind_of x = drop (filledOf x.receiver) x.output

  pub record Taken (x : WithOutput R) (d : Done (WithOutput R)) (m : ReceiverState) (q : Segment) : Type 0 where
    pub after : ReceiverIs d.after (receive p w m q).after
    pub output : output_of d.after ≡ output_of x ++ flatten (receive p w m q).delivered
    pub behind : behind_of d.after ≡ drop (length (flatten (receive p w m q).delivered)) (behind_of x)
    pub replies : List (List ℕ)
    pub wrote : d.written ≡ flatten replies
    pub each : Each AckBytes replies (receive p w m q).acks

  pub record Kept (x : WithOutput R) (d : Done (WithOutput R)) (m : ReceiverState) : Type 0 where
    pub after : ReceiverIs d.after m
    pub nothing : d.written ≡ []
    pub output : output_of d.after ≡ output_of x
    pub behind : behind_of d.after ≡ behind_of x

  module _ (x : WithOutput R) (m : ReceiverState) (h : ReceiverIs x m) (raw ack : List ℕ) (y : ReceiveExit R)
      (o : ReceiveOutcome p w view filledOf x.receiver raw x.output ack y) (good : Good y.receiver y.output) where
    pub packet_follows : (q : Segment) → DataBytes raw q → is_received y.answer ≡ true → Taken x (by_receiving y) m q
    packet_follows q b e = elim o [
      | packet_refused s f ↦ false_true (sym (ap (λ (z : ReceiveExit R). is_received z.answer) f) ∙ e)
      | not_data none i ↦ absurd (none q.number (data_number q raw b))
      | data_taken n f low t ↦ taken q n f (data_number q raw b) (data_payload q raw b) t
    ]
      where
        took_behind : {m : Received} → Took view filledOf x.receiver x.output ack m y → drop (filledOf y.receiver) y.output ≡ drop (length (flatten m.delivered)) (behind_of x)
        took_behind {m} t = rw (t.filled, t.output_is) (written_behind x.output (flatten m.delivered) (filledOf x.receiver) h.mark ∙ sym (drop-drop (length (flatten m.delivered)) (filledOf x.receiver) x.output))

        taken : (q : Segment) (n : ℕ) → read_packet raw ≡ reading.Data n → read_packet raw ≡ reading.Data q.number → payload_of raw ≡ q.payload
            → Took view filledOf x.receiver x.output ack (receive p w (view x.receiver) (record { number = n; payload = payload_of raw })) y → Taken x (by_receiving y) m q
        taken q n e f g t =
            let k : n ≡ q.number = let j = sym e ∙ f in cc in
            let same : receive p w (view x.receiver) (record { number = n; payload = payload_of raw }) ≡ receive p w m q = ap₂ (receive p w) h.is (segment_of n (payload_of raw) q k g) in
            record {
              after = record { good = good; mark = outcome_mark p w view filledOf x.receiver raw x.output ack y o h.mark; is = t.follows ∙ ap (λ (z : Received). z.after) same };
              output = took_output t h.mark ∙ ap (λ (z : Received). output_of x ++ flatten z.delivered) same;
              behind = took_behind t ∙ ap (λ (z : Received). drop (length (flatten z.delivered)) (behind_of x)) same;
              replies = replies_of y.answer y.ack;
              wrote = replies_joined y.answer y.ack;
              each = rw (← (ap (λ (z : Received). z.acks) same), ← t.acks) (each_reply y.answer y.ack t.ack_made);
            }

    pub packet_kept : by_receiving y ≡ record { after = x; written = []; is_done = false; is_refused = true } → Kept x (by_receiving y) m
    packet_kept e = rw e (record { after = h; nothing = refl; output = refl; behind = refl })

    mark_after : filledOf y.receiver ≤ length y.output
    mark_after = outcome_mark p w view filledOf x.receiver raw x.output ack y o h.mark

    pub packet_ignored : NotValid raw → Kept x (by_receiving y) m
    packet_ignored t = elim o [
      | packet_refused s f ↦ rw f (record { after = h; nothing = refl; output = refl; behind = refl })
      | not_data none i ↦ record {
        after = record { good = good; mark = mark_after; is = i.follows ∙ h.is };
        nothing = ap (λ (a : Result (Option ℕ) Refusal). bytes_replied a y.ack) (i.silent t).0;
        output = rw (i.filled, i.output_is) refl;
        behind = rw (i.filled, i.output_is) refl;
      }
      | data_taken n f low k ↦ no_data n raw t f
    ]
