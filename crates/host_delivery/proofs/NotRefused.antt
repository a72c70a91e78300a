-- No call of an admissible list of export calls is refused, where it keeps to `Suffices`.
use Prim.Native.Nat.{ℕ, ◌*◌, ◌≤◌}
use mathlib.Core.Path.{◌≡◌, refl, ap}
use mathlib.Core.List.{List, [], ◌∷◌, flatten}
use mathlib.Core.Bool.{false}
use native.Mathlib.Omega.{arith}
use native.Mathlib.Nat.{mul-le-mul_right}
use borrow.Author.Tests.{ltb-false}
use lib.ListN.{length}
use Rattle.refusal.proofs.Laws.{none_of}
use Rattle.protocol.specs.declared.ProtocolType.{ProtocolType}
use Rattle.protocol.specs.declared.ProtocolType.TheVariants.{StopAndWait, GoBackN, SelectiveRepeat}
use Rattle.protocol.specs.PlainMachine.{PlainState, plain_start, plain_run}
use Rattle.protocol.specs.Trace.{new_world}
use Rattle.window.specs.State.{window_broken}
use Rattle.delivery.specs.Calls.{Call, send, timeout, to_receiver, to_sender, World, step, Admissible}
use Rattle.delivery.specs.Demand3.{plain_after}
use Rattle.delivery.specs.Ends.{ends, fresh_ends}
use Rattle.delivery.specs.Room as room
use Rattle.delivery.specs.Room.{NoneRefused}
use Rattle.delivery.proofs.Laws.{sent_within}
use Rattle.tallies.proofs.NoneRefused.{fresh_reached}
use Rattle.session.specs.declared.Timeout.{Timeout}
use Rattle.session.specs.declared.Timeout.TheVariants as timeouts
use Rattle.session.specs.Sending.{slot_count}
use Rattle.host_delivery.specs.Host.{Setup, host_ends, window_of, made_ends, BothMade}
use Rattle.host_delivery.specs.Room.{Fits, AllFit, sent_by, Suffices}
use Rattle.host_delivery.proofs.Simulation.{call_as, calls_as, none_refused_as}
use Rattle.host_delivery.proofs.EndsRoom.{none_refused_from}
use Rattle.host_delivery.proofs.Resending.{fed_in_as}
use Rattle.host_delivery.proofs.Making.{start_of, made, window_bounds}
use Rattle.host_delivery.proofs.Demand3.{simulation, calls_of, made_world, host_admissible}

slots_some : (p : ProtocolType) (window : ℕ) → 1 ≤ window → 1 ≤ slot_count p window
slots_some StopAndWait window h = omega arith
slots_some GoBackN window h = h
slots_some SelectiveRepeat window h = h

positive : (window : ℕ) → window_broken window ≡ false → 1 ≤ window
unfolding window_broken
positive window e = ltb-false window 1 (none_of _ e).0

pub unwritten_all : (p : ProtocolType) (w limit : ℕ) (sending receiving output : List ℕ) → (ends p).unwritten (fresh_ends p w limit sending receiving output).receiver ≡ output
unwritten_all StopAndWait w limit sending receiving output = refl
unwritten_all GoBackN w limit sending receiving output = refl
unwritten_all SelectiveRepeat w limit sending receiving output = refl

-- the calls of the ends are the exports' but for their timeouts
module _ (p : ProtocolType) (w : ℕ) where
  abbrev calls_in : World (ends p) → List (Call Timeout) → List (Call (ends p).Timeout)
  calls_in u cs = calls_as host_ends (ends p) (simulation p w) u cs

  abbrev call_in : World (ends p) → Call Timeout → Call (ends p).Timeout
  call_in u c = call_as host_ends (ends p) (simulation p w) u.sender c

  pub same_length : (u : World (ends p)) (cs : List (Call Timeout)) → length (calls_in u cs) ≡ length cs
  unfolding calls_as
  same_length u [] = refl
  same_length u (c ∷ cs) = let e = same_length (step (ends p) u (call_in u c)) cs in omega (arith, e)

call_fits : (p : ProtocolType) (w : ℕ) (u : World (ends p)) (c : Call Timeout) → Fits p w c → room.Fits p w (call_in p w u c)
unfolding simulation
call_fits p w u (send payload out) h = h
call_fits StopAndWait w u (timeout t out) h = h
call_fits GoBackN w u (timeout timeouts.All out) h = h
call_fits GoBackN w u (timeout timeouts.Earliest out) h = h
call_fits GoBackN w u (timeout (timeouts.Number n) out) h = h
call_fits SelectiveRepeat w u (timeout t out) h = h
call_fits p w u (to_receiver c ack) h = h
call_fits p w u (to_sender c) h = tt

all_fit : (p : ProtocolType) (w : ℕ) (u : World (ends p)) (cs : List (Call Timeout)) → AllFit p w cs → room.AllFit p w (calls_in p w u cs)
unfolding calls_as
all_fit p w u [] h = tt
all_fit p w u (c ∷ cs) h = (call_fits p w u c h.0, all_fit p w (step (ends p) u (call_in p w u c)) cs h.1)

module _ (s : Setup) (b : BothMade s) (cs : List (Call Timeout)) where
  abbrev p : ProtocolType
  p = s.protocol

  abbrev w : ℕ
  w = window_of s

  abbrev other_machine : PlainState
  other_machine = plain_after p w (ends p) (start_of s) (calls_of s b cs)

  pub same_machine : plain_after p w host_ends (made_ends s) cs ≡ other_machine
  same_machine = ap (plain_run p w plain_start) (fed_in_as p w host_ends (ends p) (simulation p w) (made_ends s) (start_of s) cs (made_world s b))

  pub host_none_refused : Admissible host_ends (made_ends s) cs → Suffices s cs → NoneRefused host_ends (made_ends s) cs
  host_none_refused l h =
      let some : 1 ≤ w = slots_some p s.window (positive s.window (window_bounds s b)) in
      let size = same_length p w (start_of s) cs in
      let space : length ((ends p).unwritten (start_of s).receiver) ≡ length s.output = ap length (unwritten_all p w s.limit s.sender_store s.receiver_store s.output) in
      let sent = sent_within p w s.limit s.sender_store s.receiver_store s.output (made s b) (calls_of s b cs) (host_admissible s b cs l) in
      let calls : 1 * length cs ≤ w * length cs = mul-le-mul_right (length cs) some in
      let times : w * length (calls_of s b cs) ≡ w * length cs = ap (λ (n : ℕ). w * n) size in
      let bytes : length (flatten (sent_by s cs)) ≡ length (flatten other_machine.sent) = ap (λ (m : PlainState). length (flatten m.sent)) same_machine in
      let chunks : length (sent_by s cs) ≡ length other_machine.sent = ap (λ (m : PlainState). length m.sent) same_machine in
      let bound = h.calls in
      let output = h.output in
      let numbers = h.numbers in
      let rest = (ends p).unwritten (start_of s).receiver in
      none_refused_as host_ends (ends p) (simulation p w) (made_ends s) (start_of s) cs (made_world s b)
      (none_refused_from p w (made s b).window rest (start_of s) (new_world p w) plain_start 0 (fresh_reached p w s.limit s.sender_store s.receiver_store s.output (made s b))
      (calls_of s b cs) (host_admissible s b cs l) (all_fit p w (start_of s) cs h.buffers) (omega (arith, bytes, space, output)) (omega (arith, chunks, numbers)) (omega (arith, sent, times, bound))
      (omega (arith, size, calls, bound)))
