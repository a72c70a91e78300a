-- The sender in a world to which an admissible list of calls leads from fresh ends: its next number, and the datagrams that it made.
use Prim.Native.Nat.{ℕ, ◌+◌, ◌<◌}
use mathlib.Core.Path.{◌≡◌, sym, ap, ◌∙◌, subst}
use mathlib.Core.Bool.{true, false}
use mathlib.Core.List.{List, []}
use lib.ListN.{length, get_or}
use Rattle.bounds.specs.Bounds.{header_size}
use Rattle.packet.proofs.Laws.{made_length}
use Rattle.protocol.specs.declared.ProtocolType.{ProtocolType}
use Rattle.protocol.specs.declared.ProtocolType.TheVariants.{StopAndWait, GoBackN, SelectiveRepeat}
use Rattle.protocol.specs.Machine.{SenderState, next_number}
use Rattle.protocol.specs.PlainMachine.{PlainState}
use Rattle.protocol.specs.Trace as trace
use Rattle.protocol.specs.Trace.{new_world}
use Rattle.protocol.proofs.Laws.{is_selective, Invariant, from_start, claimed}
use Rattle.stop_and_wait.specs.Sender as stop_and_wait
use Rattle.refinement.proofs.Laws.{next_number_lem}
use Rattle.delivery.specs.Calls.{World, number_of}
use Rattle.delivery.specs.Ends.{ends, fresh_ends, Made}
use Rattle.delivery.specs.Demand3.{plain_after}
use Rattle.delivery.proofs.Lists.{Reached}
use Rattle.delivery.proofs.Datagrams.{DataBytes, each_at, data_number}
use Rattle.delivery.proofs.Instances.{calls_follow}
use Rattle.delivery.proofs.Simulation.{Follows, every_list}
use Rattle.delivery.proofs.Demand3.{follows, fresh_start}

-- the number of the next chunk to be sent
abbrev pub next_of : (p : ProtocolType) → (ends p).Sender → ℕ
next_of StopAndWait v = (stop_and_wait.window_of v.sender).next_seq_num
next_of GoBackN v = v.window.next_seq_num
next_of SelectiveRepeat v = v.window.next_seq_num

next_is : (p : ProtocolType) (w : ℕ) (v : (ends p).Sender) (m : SenderState) → (follows p w).SenderIs v m → next_number m ≡ next_of p v
unfolding follows calls_follow
next_is StopAndWait w v m h = sym (ap next_number h.is) ∙ next_number_lem false (stop_and_wait.window_end v) h.good
next_is GoBackN w v m h = sym (ap next_number h.is) ∙ next_number_lem false v h.good
next_is SelectiveRepeat w v m h = sym (ap next_number h.is) ∙ next_number_lem true v h.good

-- raw is as long as the chunk of its number says
pub record OfChunk (chunks : List (List ℕ)) (raw : List ℕ) : Type 0 where
  pub below : number_of raw < length chunks
  pub size : length raw ≡ header_size + length (get_or chunks (number_of raw) [])

module _ (p : ProtocolType) (w limit : ℕ) (sending receiving output : List ℕ) (m : Made p w sending receiving) {now : World (ends p)} (r : Reached (ends p) (fresh_ends p w limit sending receiving output) now) where
  abbrev start : World (ends p)
  start = fresh_ends p w limit sending receiving output

  -- the plain machine after the list
  abbrev state : PlainState
  state = plain_after p w (ends p) (fresh_ends p w limit sending receiving output) r.calls

  record Machine : Type 0 where
    machine : trace.World
    follow : Follows p w (ends p) (follows p w) ((ends p).unwritten (fresh_ends p w limit sending receiving output).receiver) now machine
    invariant : Invariant (is_selective p) w machine state

  machine_of : Machine
  machine_of =
      let t = every_list p w (ends p) (follows p w) ((ends p).unwritten start.receiver) start (new_world p w) (fresh_start p w limit sending receiving output m) r.calls r.admissible in
      record {
        machine = trace.run p w (new_world p w) t.events;
        follow = subst (λ (v : World (ends p)). Follows p w (ends p) (follows p w) ((ends p).unwritten start.receiver) v (trace.run p w (new_world p w) t.events)) r.leads t.follows;
        invariant = rw (← t.same_fed) (from_start p w t.events m.window t.fair);
      }

  -- the next number is how many chunks were sent
  pub reached_next : next_of p now.sender ≡ length state.sent
  reached_next =
      let x = machine_of in
      sym (next_is p w now.sender x.machine.sender x.follow.sender) ∙ (claimed (is_selective p) w x.machine state x.invariant).all_numbered

  -- every datagram that the sender made is Data of the chunk of its number
  pub reached_data : (i : ℕ) → i < length now.sent → OfChunk state.sent (get_or now.sent i [])
  reached_data i h =
      let x = machine_of in
      let q = each_at DataBytes [] now.sent x.machine.segments i x.follow.sent h in
      let c = x.invariant.segments_carry.all q.other q.member in
      let n = data_number _ q.other q.belongs in
      let size = ap length q.belongs.is ∙ made_length q.belongs.packet q.other.payload in
      record { below = rw n c.known; size = rw n (size ∙ ap (λ (y : List ℕ). header_size + length y) c.same) }
