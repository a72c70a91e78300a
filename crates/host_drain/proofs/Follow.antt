-- Ends that follow the machine do so with drained bytes kept beside the receiver.
use Prim.Native.Nat.{ℕ}
use mathlib.Core.Path.{sym, ap, ◌∙◌}
use mathlib.Core.List.{List, ◌++◌, flatten, append_assoc}
use Rattle.protocol.specs.declared.ProtocolType.{ProtocolType}
use Rattle.protocol.specs.Machine.{Segment, SenderState, ReceiverState, receive}
use Rattle.delivery.specs.Calls.{Done, Ends}
use Rattle.delivery.proofs.Follow.{SenderKept, ReceiverKept, ChunkSent, SentAgain, PacketTaken, Follow}
use Rattle.host_drain.specs.Calls.{WithDrained, not_draining, drainable}

module _ (p : ProtocolType) (w : ℕ) (E : Ends) (F : Follow p w E) where
  abbrev ReceiverIs : WithDrained E.Receiver → ReceiverState → Type 0
  ReceiverIs r m = F.ReceiverIs r.receiver m

  pub kept : (d : Done E.Sender) (m : SenderState) → SenderKept E F.SenderIs d m → SenderKept (drainable E) F.SenderIs d m
  kept d m k = record { after = k.after; nothing = k.nothing }

  pub chunk : (d : Done E.Sender) (m : SenderState) (payload : List ℕ) → ChunkSent E F.SenderIs w d m payload → ChunkSent (drainable E) F.SenderIs w d m payload
  chunk d m payload k = record { after = k.after; free = k.free; wrote = k.wrote }

  pub again : (d : Done E.Sender) (m : SenderState) → SentAgain E F.SenderIs d m → SentAgain (drainable E) F.SenderIs d m
  again d m k = record {
    after = k.after;
    first = k.first;
    count = k.count;
    some = k.some;
    low = k.low;
    high = k.high;
    packets = k.packets;
    wrote = k.wrote;
    each = k.each;
  }

  module _ (r : WithDrained E.Receiver) (d : Done E.Receiver) (m : ReceiverState) where
    pub receiver_kept : ReceiverKept E F.ReceiverIs r.receiver d m → ReceiverKept (drainable E) ReceiverIs r (not_draining r d) m
    receiver_kept k = record {
      after = k.after;
      nothing = k.nothing;
      output = ap (λ (l : List ℕ). r.drained ++ l) k.output;
      unwritten = k.unwritten;
    }

    pub taken : (q : Segment) → PacketTaken p w E F.ReceiverIs r.receiver d m q → PacketTaken p w (drainable E) ReceiverIs r (not_draining r d) m q
    taken q k = record {
      after = k.after;
      output = ap (λ (l : List ℕ). r.drained ++ l) k.output ∙ sym (append_assoc r.drained (E.output r.receiver) (flatten (receive p w m q).delivered));
      unwritten = k.unwritten;
      replies = k.replies;
      wrote = k.wrote;
      each = k.each;
    }

  unfoldable pub drain_follow : Follow p w (drainable E)
  drain_follow = record {
    SenderIs = F.SenderIs;
    ReceiverIs = ReceiverIs;
    sender_base = F.sender_base;
    receiver_base = λ r m h. F.receiver_base r.receiver m h;
    sent = λ s m payload buffer h o e. chunk _ m payload (F.sent s m payload buffer h o e);
    not_sent = λ s m payload buffer h e. kept _ m (F.not_sent s m payload buffer h e);
    resent = λ s m t buffer h e. again _ m (F.resent s m t buffer h e);
    not_resent = λ s m t buffer h e. kept _ m (F.not_resent s m t buffer h e);
    acknowledged = λ s m raw n h a e. kept _ _ (F.acknowledged s m raw n h a e);
    ack_refused = λ s m raw h e. kept _ m (F.ack_refused s m raw h e);
    ack_flipped = λ s m raw n j b h a f. kept _ m (F.ack_flipped s m raw n j b h a f);
    received = λ r m raw buffer q h d e. taken r _ m q (F.received r.receiver m raw buffer q h d e);
    packet_refused = λ r m raw buffer h e. receiver_kept r _ m (F.packet_refused r.receiver m raw buffer h e);
    packet_flipped = λ r m raw buffer q j b h d f. receiver_kept r _ m (F.packet_flipped r.receiver m raw buffer q j b h d f);
  }
