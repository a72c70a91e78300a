-- Demand 3 of the exports: after every list of their calls from made states.
use Prim.Native.Nat.{ℕ}
use mathlib.Core.Path.{◌≡◌, refl, sym, ap, ◌∙◌}
use mathlib.Core.List.{List, [], flatten}
use lib.ListN.{length, drop}
use Rattle.protocol.specs.declared.ProtocolType.{ProtocolType}
use Rattle.protocol.specs.declared.ProtocolType.TheVariants.{StopAndWait, GoBackN, SelectiveRepeat}
use Rattle.protocol.specs.Trace.{new_world}
use Rattle.delivery.specs.Demand3.{Demand3}
use Rattle.delivery.specs.Ends.{ends, fresh_ends}
use Rattle.delivery.proofs.Demand3.{follows, fresh_start}
use Rattle.delivery.proofs.Follow.{Follow}
use Rattle.delivery.proofs.FromCalls.{from_calls}
use Rattle.delivery.proofs.NotRefused.{fresh_none}
use Rattle.delivery.proofs.Simulation.{Follows}
use Rattle.delivery.specs.Calls.{Call, World, run, Admissible}
use Rattle.session.specs.Ends.{timeout_of}
use Rattle.host_delivery.specs.Host as host
use Rattle.host_delivery.specs.Host.{host_ends, window_of, made_ends, BothMade}
use Rattle.host_delivery.proofs.Senders.{HoldsSender, host_sends, host_times, host_acks, host_base}
use Rattle.host_delivery.proofs.Receivers.{HoldsReceiver, host_packets, host_receiver_base, host_output, host_unwritten}
use Rattle.host_delivery.proofs.Simulation.{Simulates, simulated, calls_as, WorldAs, run_as, admissible_as}
use Rattle.host_delivery.proofs.Making.{start_of, window_fits, made, made_sender, made_receiver}

-- the exports do as the ends of each protocol
unfoldable pub simulation : (p : ProtocolType) (w : ℕ) → Simulates host_ends (ends p)
simulation p w = record {
  SenderAs = HoldsSender p;
  ReceiverAs = HoldsReceiver p w;
  timeout_as = timeout_of p;
  sends = λ h s payload out before. host_sends p h s payload out before;
  times = λ h s t out before. host_times p h s t out before;
  acks = λ h s raw before. host_acks p h s raw before;
  packets = λ h r raw ack before. host_packets p w h r before raw ack;
  sender_base = λ h s before. host_base p h s before;
  receiver_base = λ h r before. host_receiver_base p w h r before;
  output = λ h r before. host_output p w h r before;
  unwritten = λ h r before. host_unwritten p w h r before;
}

unfoldable pub host_follows : (p : ProtocolType) (w : ℕ) → Follow p w host_ends
host_follows p w = simulated p w host_ends (ends p) (simulation p w) (follows p w)

-- no ACK was made at the start
fresh_replies : (p : ProtocolType) (w limit : ℕ) (sending receiving output : List ℕ) → (fresh_ends p w limit sending receiving output).replies ≡ []
fresh_replies StopAndWait w limit sending receiving output = refl
fresh_replies GoBackN w limit sending receiving output = refl
fresh_replies SelectiveRepeat w limit sending receiving output = refl

module _ (s : host.Setup) (b : BothMade s) where
  abbrev p : ProtocolType
  p = s.protocol

  abbrev w : ℕ
  w = window_of s

  abbrev start : World (ends p)
  start = start_of s

  pub made_follows : Follows p w host_ends (host_follows p w) (host_ends.unwritten (made_ends s).receiver) (made_ends s) (new_world p w)
  unfolding new_world simulated host_follows simulation
  made_follows =
      let f = fresh_start p w s.limit s.sender_store s.receiver_store s.output (made s b) in
      let rest = host_unwritten p w (made_ends s).receiver start.receiver (made_receiver s b) in
      record {
        sender = record { other = start.sender; stands = made_sender s b; is = f.sender };
        receiver = record { other = start.receiver; stands = made_receiver s b; is = f.receiver };
        sent = tt;
        replies = tt;
        output = host_output p w (made_ends s).receiver start.receiver (made_receiver s b) ∙ f.output;
        unwritten = rest ∙ f.unwritten ∙ ap (drop (length (flatten (new_world p w).delivered))) (sym rest);
      }

  -- the bytes up to the fill mark are the first D chunks joined, D - A is at most the window, and a resending that
  -- nothing refuses delivers all
  pub host_demand_3 : (cs : List (Call host_ends.Timeout)) → Admissible host_ends (made_ends s) cs → Demand3 p w host_ends (made_ends s) cs
  host_demand_3 cs l = from_calls p w (window_fits p s.window) host_ends (host_follows p w) (made_ends s) made_follows cs l

  -- ---- a list of export calls from made states is a list of demand 3's calls
  abbrev pub calls_of : List (Call host_ends.Timeout) → List (Call (ends p).Timeout)
  calls_of cs = calls_as host_ends (ends p) (simulation p w) start cs

  pub made_world : WorldAs host_ends (ends p) (simulation p w) (made_ends s) start
  unfolding simulation
  made_world = record {
    sender = made_sender s b;
    receiver = made_receiver s b;
    sent = sym (fresh_none p w s.limit s.sender_store s.receiver_store s.output);
    replies = sym (fresh_replies p w s.limit s.sender_store s.receiver_store s.output);
  }

  -- the worlds that they lead to: the words hold the ends, and what was made is the same
  pub host_run : (cs : List (Call host_ends.Timeout)) → WorldAs host_ends (ends p) (simulation p w) (run host_ends (made_ends s) cs) (run (ends p) start (calls_of cs))
  host_run cs = run_as host_ends (ends p) (simulation p w) (made_ends s) start cs made_world

  pub host_admissible : (cs : List (Call host_ends.Timeout)) → Admissible host_ends (made_ends s) cs → Admissible (ends p) start (calls_of cs)
  host_admissible cs l = admissible_as host_ends (ends p) (simulation p w) (made_ends s) start cs made_world l
