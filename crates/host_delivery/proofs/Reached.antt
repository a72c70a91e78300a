-- After any calls with any bytes the words of a made end still hold an end of its kind of which 9 is false.
use mathlib.Core.List.{List, [], ◌∷◌}
use Rattle.protocol.specs.declared.ProtocolType.{ProtocolType}
use Rattle.delivery.specs.AnyBytes.{SenderCall, send, timeout, ack, sender_step, sender_after, ReceiverCall, receiver_after}
use Rattle.delivery.specs.Ends.{ends}
use Rattle.session.specs.declared.Timeout.{Timeout}
use Rattle.session.specs.Ends.{timeout_of}
use Prim.Native.Nat.{ℕ}
use Rattle.host_delivery.specs.Host.{HostSender, HostReceiver, Setup, host_ends, window_of, made_ends, BothMade}
use Rattle.host_delivery.proofs.Senders.{HoldsSender, host_sends, host_times, host_acks}
use Rattle.host_delivery.proofs.Receivers.{HoldsReceiver, host_packets}
use Rattle.host_delivery.proofs.Making.{start_of, made_sender, made_receiver}

pub record SomeSender (p : ProtocolType) (h : HostSender) : Type 0 where
  pub sender : (ends p).Sender
  pub holds : HoldsSender p h sender

step_sender : (p : ProtocolType) (h : HostSender) (k : SenderCall Timeout) → SomeSender p h → SomeSender p (sender_step host_ends h k)
step_sender p h (send payload out) x = record { sender = ((ends p).send_chunk x.sender payload out).after; holds = (host_sends p h x.sender payload out x.holds).after }
step_sender p h (timeout t out) x =
    record { sender = ((ends p).handle_timeout x.sender (timeout_of p x.sender t) out).after; holds = (host_times p h x.sender t out x.holds).after }
step_sender p h (ack raw) x = record { sender = ((ends p).handle_ack x.sender raw).after; holds = (host_acks p h x.sender raw x.holds).after }

every_sender : (p : ProtocolType) (h : HostSender) (ks : List (SenderCall Timeout)) → SomeSender p h → SomeSender p (sender_after host_ends h ks)
unfolding sender_after
every_sender p h [] x = x
every_sender p h (k ∷ ks) x = every_sender p (sender_step host_ends h k) ks (step_sender p h k x)

pub reached_sender : (s : Setup) → BothMade s → (ks : List (SenderCall Timeout)) → SomeSender s.protocol (sender_after host_ends (made_ends s).sender ks)
reached_sender s b ks = every_sender s.protocol (made_ends s).sender ks (record { sender = (start_of s).sender; holds = made_sender s b })

pub record SomeReceiver (p : ProtocolType) (w : ℕ) (h : HostReceiver) : Type 0 where
  pub receiver : (ends p).Receiver
  pub holds : HoldsReceiver p w h receiver

every_receiver : (p : ProtocolType) (w : ℕ) (h : HostReceiver) (ks : List ReceiverCall) → SomeReceiver p w h → SomeReceiver p w (receiver_after host_ends h ks)
unfolding receiver_after
every_receiver p w h [] x = x
every_receiver p w h (k ∷ ks) x =
    every_receiver p w (host_ends.handle_packet h k.raw k.buffer).after ks
    (record { receiver = ((ends p).handle_packet x.receiver k.raw k.buffer).after; holds = (host_packets p w h x.receiver x.holds k.raw k.buffer).after })

pub reached_receiver : (s : Setup) → BothMade s → (ks : List ReceiverCall) → SomeReceiver s.protocol (window_of s) (receiver_after host_ends (made_ends s).receiver ks)
reached_receiver s b ks = every_receiver s.protocol (window_of s) (made_ends s).receiver ks (record { receiver = (start_of s).receiver; holds = made_receiver s b })
