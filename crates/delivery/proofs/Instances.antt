-- The ends of the three protocols follow the machine.
use Prim.Native.Nat.{ℕ, ◌<◌}
use mathlib.Core.Path.{◌≡◌, refl, ap, ◌∙◌}
use mathlib.Core.List.{List, []}
use mathlib.Core.Bool.{Bool, true, false}
use native.Mathlib.Omega.{arith}
use lib.ListN.{length}
use Rattle.octets.specs.Octets.{Octets}
use Rattle.octets.specs.Flip.{flip}
use Rattle.protocol.specs.declared.ProtocolType.{ProtocolType}
use Rattle.protocol.specs.Machine.{Segment, SenderState, ReceiverState}
use Rattle.window.specs.Slots as slots
use Rattle.window.specs.Sending.{SendExit, send_chunk}
use Rattle.window.specs.Resending.{TimeoutExit}
use Rattle.window.specs.Acknowledgement.{AckExit}
use Rattle.receiver.specs.Receive.{ReceiveExit}
use Rattle.packet.specs.Format.{new_packet}
use Rattle.packet.specs.declared.PacketType.TheVariants.{Ack}
use Rattle.packet.proofs.Laws.{made_length}
use Rattle.refinement.specs.Copies.{Flipped}
use Rattle.refinement.proofs.Laws.{AckOutcome, ResendOutcome, ReceiveOutcome, data_flipped, ack_flipped}
use Rattle.delivery.specs.Calls.{Done, Ends}
use Rattle.delivery.specs.Ends.{is_sent, is_resent, is_handled, is_received, by_receiving, WithOutput, with_output, ends_of}
use Rattle.delivery.proofs.Datagrams.{AckBytes}
use Rattle.delivery.proofs.Follow.{PacketTaken, ReceiverKept, Follow, Flips}
use Rattle.delivery.proofs.SenderFollows.{SenderIs, SentAs, ResentAs, chunk_follows, chunk_not_sent, ack_follows, ack_not_handled, ack_no_number, timeout_follows, timeout_kept}
use Rattle.delivery.proofs.ReceiverFollows.{ReceiverIs, Taken, Kept, packet_follows, packet_kept, packet_ignored}

-- a timeout of a sender as k numbers of its window from n on
pub record TimeoutAs {S : Type 0} (selective : Bool) (view : S → slots.Sender) (s : S) (out : List ℕ) (r : TimeoutExit S) : Type 0 where
  pub first : ℕ
  pub count : ℕ
  pub by : TimeoutExit slots.Sender
  pub after : view r.after ≡ by.after
  pub answer : r.answer ≡ by.answer
  pub out_is : r.out ≡ by.out
  pub outcome : ResendOutcome selective (view s) first count out by
  pub octets : Octets (view s).store → Octets by.after.store
  pub size : by.after.window.window_size ≡ (view s).window.window_size

-- what the calls of a sender do
pub record SenderCalls (p : ProtocolType) (selective : Bool) {S T : Type 0} (view : S → slots.Sender) (send : S → List ℕ → List ℕ → SendExit S) (timeout : S → T → List ℕ → TimeoutExit S)
    (ack : S → List ℕ → AckExit S) (base : S → ℕ) : Type 0 where
  pub base_is : (s : S) → base s ≡ (view s).window.send_base
  pub send_after : (s : S) (payload out : List ℕ) → view (send s payload out).after ≡ (send_chunk selective (view s) payload out).after
  pub send_answer : (s : S) (payload out : List ℕ) → (send s payload out).answer ≡ (send_chunk selective (view s) payload out).answer
  pub send_out : (s : S) (payload out : List ℕ) → (send s payload out).out ≡ (send_chunk selective (view s) payload out).out
  pub timeout_as : (s : S) (t : T) (out : List ℕ) → TimeoutAs selective view s out (timeout s t out)
  pub ack_outcome : (s : S) (raw : List ℕ) → AckOutcome p selective view s raw (ack s raw)
  pub ack_octets : (s : S) (raw : List ℕ) → Octets (view s).store → Octets (view (ack s raw).after).store
  pub ack_size : (s : S) (raw : List ℕ) → (view (ack s raw).after).window.window_size ≡ (view s).window.window_size
  pub ack_refused : (s : S) (raw : List ℕ) → is_handled (ack s raw).answer ≡ false → (ack s raw).after ≡ s

-- what the call of a receiver does
pub record ReceiverCalls (p : ProtocolType) (w : ℕ) {R : Type 0} (view : R → ReceiverState) (filled : R → ℕ) (Good : R → List ℕ → Type 0) (packet : R → List ℕ → List ℕ → List ℕ → ReceiveExit R) (base : R → ℕ) : Type 0 where
  pub base_is : (r : R) → base r ≡ (view r).base
  pub outcome : (r : R) (raw output ack : List ℕ) → Good r output → ReceiveOutcome p w view filled r raw output ack (packet r raw output ack)
  pub good : (r : R) (raw output ack : List ℕ) → Good r output → Good (packet r raw output ack).receiver (packet r raw output ack).output
  pub refused : (r : R) (raw output ack : List ℕ) → is_received (packet r raw output ack).answer ≡ false
      → by_receiving (packet r raw output ack) ≡ record { after = with_output r output; written = []; is_done = false; is_refused = true }

pub flipped_of : (raw : List ℕ) (j b : ℕ) → Flips raw j b → Flipped raw (flip raw j b)
flipped_of raw j b f = record { byte = j; bit = b; is = refl; bit_low = f.bit; byte_in = f.within; not_6 = f.not_6; not_7 = f.not_7 }

pub ack_within : (raw : List ℕ) (n j : ℕ) → AckBytes raw n → j < length raw → j < 10
ack_within raw n j a h = let e : length raw ≡ 10 = ap length a.is ∙ made_length (new_packet n Ack) [] in omega arith

module _ (p : ProtocolType) (w : ℕ) (selective : Bool) {S R T : Type 0} (view : S → slots.Sender) (send : S → List ℕ → List ℕ → SendExit S) (timeout : S → T → List ℕ → TimeoutExit S)
    (ack : S → List ℕ → AckExit S) (sender_base : S → ℕ) (c : SenderCalls p selective view send timeout ack sender_base)
    (viewR : R → ReceiverState) (filled : R → ℕ) (Good : R → List ℕ → Type 0) (packet : R → List ℕ → List ℕ → List ℕ → ReceiveExit R) (receiver_base : R → ℕ) (k : ReceiverCalls p w viewR filled Good packet receiver_base) where
  abbrev E : Ends
  E = ends_of send timeout ack packet sender_base receiver_base filled

  pub sent_as : (s : S) (payload out : List ℕ) → SentAs E view (E.send_chunk s payload out) (send_chunk selective (view s) payload out)
  sent_as s payload out =
      record {
        after = c.send_after s payload out;
        written = rw (c.send_answer s payload out, c.send_out s payload out) refl;
        is_done = ap is_sent (c.send_answer s payload out);
      }

  pub resent_as : (s : S) (t : T) (out : List ℕ) (x : TimeoutAs selective view s out (timeout s t out)) → ResentAs E view (E.handle_timeout s t out) x.by
  resent_as s t out x = record { after = x.after; written = rw (x.answer, x.out_is) refl; is_done = ap is_resent x.answer }

  pub taken : (r : WithOutput R) (m : ReceiverState) (d : Done (WithOutput R)) (q : Segment) → Taken p w R viewR filled Good r d m q → PacketTaken p w E (ReceiverIs p w R viewR filled Good) r d m q
  taken r m d q t = record { after = t.after; output = t.output; unwritten = t.behind; replies = t.replies; wrote = t.wrote; each = t.each }

  pub kept : (r : WithOutput R) (m : ReceiverState) (d : Done (WithOutput R)) → Kept p w R viewR filled Good r d m → ReceiverKept E (ReceiverIs p w R viewR filled Good) r d m
  kept r m d t = record { after = t.after; nothing = t.nothing; output = t.output; unwritten = t.behind }

  unfoldable pub calls_follow : Follow p w E
  calls_follow = record {
    SenderIs = λ s m. SenderIs selective w (view s) m;
    ReceiverIs = ReceiverIs p w R viewR filled Good;
    sender_base = λ s m h. c.base_is s ∙ ap (λ (j : SenderState). j.base) h.is;
    receiver_base = λ r m h. k.base_is r.receiver ∙ ap (λ (j : ReceiverState). j.base) h.is;
    sent = λ s m payload out h o e. chunk_follows E view selective w s m h payload out _ (sent_as s payload out) o e;
    not_sent = λ s m payload out h e. chunk_not_sent E view selective w s m h payload out _ (sent_as s payload out) e;
    resent = λ s m t out h e.
        let x = c.timeout_as s t out in
        timeout_follows E view selective w s m h x.first x.count out _ x.by (resent_as s t out x) x.outcome (x.octets h.octets) x.size e;
    not_resent = λ s m t out h e.
        let x = c.timeout_as s t out in
        timeout_kept E view selective w s m h x.first x.count out _ x.by (resent_as s t out x) x.outcome (x.octets h.octets) x.size e;
    acknowledged = λ s m raw n h a e. ack_follows E view selective w p s m h raw (ack s raw) (c.ack_outcome s raw) (c.ack_octets s raw h.octets) (c.ack_size s raw) (c.ack_refused s raw) n a e;
    ack_refused = λ s m raw h e. ack_not_handled E view selective w p s m h raw (ack s raw) (c.ack_outcome s raw) (c.ack_octets s raw h.octets) (c.ack_size s raw) (c.ack_refused s raw) e;
    ack_flipped = λ s m raw n j b h a f.
        ack_no_number E view selective w p s m h (flip raw j b) (ack s (flip raw j b)) (c.ack_outcome s _) (c.ack_octets s _ h.octets) (c.ack_size s _) (c.ack_refused s _)
        (ack_flipped n raw a j b f.bit (ack_within raw n j a f.within));
    received = λ r m raw buffer q h d e.
        taken r m _ q (packet_follows p w R viewR filled Good r m h raw buffer _ (k.outcome r.receiver raw r.output buffer h.good) (k.good r.receiver raw r.output buffer h.good) q d e);
    packet_refused = λ r m raw buffer h e.
        kept r m _ (packet_kept p w R viewR filled Good r m h raw buffer _ (k.outcome r.receiver raw r.output buffer h.good) (k.good r.receiver raw r.output buffer h.good) (k.refused r.receiver raw r.output buffer e));
    packet_flipped = λ r m raw buffer q j b h d f.
        kept r m _ (packet_ignored p w R viewR filled Good r m h (flip raw j b) buffer _ (k.outcome r.receiver _ r.output buffer h.good) (k.good r.receiver _ r.output buffer h.good)
        (data_flipped q raw d (flip raw j b) (flipped_of raw j b f)));
  }
