-- After any admissible list of export calls there is a resending by export calls, where there is room for it.
use Rattle.std.specs.Prelude.{Some}
use Prim.Native.Nat.{ℕ}
use mathlib.Core.Path.{◌≡◌, refl, sym, ap, subst}
use mathlib.Core.List.{List, flatten}
use native.Mathlib.Omega.{arith}
use lib.ListN.{length}
use Rattle.protocol.specs.declared.ProtocolType.{ProtocolType}
use Rattle.protocol.specs.declared.ProtocolType.TheVariants.{StopAndWait, GoBackN, SelectiveRepeat}
use Rattle.protocol.specs.PlainMachine.{PlainState, plain_outstanding}
use Rattle.delivery.specs.Calls.{Call, World, run, Admissible}
use Rattle.delivery.specs.Demand3.{plain_after, resend_start, ResendsAll}
use Rattle.delivery.specs.Ends.{one, all, earliest, ends}
use Rattle.delivery.specs.Room as room
use Rattle.tallies.proofs.Laws.{some_resending}
use Rattle.session.specs.declared.Timeout.{Timeout}
use Rattle.session.specs.declared.Timeout.TheVariants as timeouts
use Rattle.session.specs.Ends.{sender_of}
use Rattle.host_words.specs.Words.{held_sender}
use Rattle.host_delivery.specs.Host.{Setup, host_ends, window_of, made_ends, BothMade}
use Rattle.host_delivery.specs.Room.{RoomToResend, RetryLeft}
use Rattle.host_delivery.proofs.Resending.{ResendAs, resends_all_as, TimeoutFor, calls_for, calls_are}
use Rattle.host_delivery.proofs.Making.{start_of, made}
use Rattle.host_delivery.proofs.Demand3.{simulation, calls_of, host_run, host_admissible}
use Rattle.host_delivery.proofs.NotRefused.{unwritten_all, same_length, same_machine}

-- every timeout of the ends is an export's
timeout_for : (p : ProtocolType) (w : ℕ) (s : (ends p).Sender) (t : (ends p).Timeout) → TimeoutFor host_ends (ends p) (simulation p w) s t
unfolding simulation
timeout_for StopAndWait w s one = record { by = timeouts.All; is = refl }
timeout_for GoBackN w s all = record { by = timeouts.All; is = refl }
timeout_for GoBackN w s earliest = record { by = timeouts.Earliest; is = refl }
timeout_for SelectiveRepeat w s n = record { by = timeouts.Number n; is = refl }

retry_left : (p : ProtocolType) (s : (ends p).Sender) → RetryLeft (Some (sender_of p s).sender) → room.RetryLeft p s
retry_left StopAndWait s h = h
retry_left GoBackN s h = tt
retry_left SelectiveRepeat s h = tt

pub record HostResending (s : Setup) (v : World host_ends) (m : PlainState) : Type 0 where
  pub calls : List (Call Timeout)
  pub resends : ResendsAll s.protocol (window_of s) host_ends (resend_start host_ends v m) calls

module _ (s : Setup) (b : BothMade s) (cs : List (Call Timeout)) (l : Admissible host_ends (made_ends s) cs) where
  abbrev p : ProtocolType
  p = s.protocol

  abbrev w : ℕ
  w = window_of s

  abbrev reached : World host_ends
  reached = run host_ends (made_ends s) cs

  abbrev machine : PlainState
  machine = plain_after p w host_ends (made_ends s) cs

  abbrev other : World (ends p)
  other = run (ends p) (start_of s) (calls_of s b cs)

  abbrev other_machine : PlainState
  other_machine = plain_after p w (ends p) (start_of s) (calls_of s b cs)

  alike : ResendAs p w host_ends (ends p) (simulation p w) (resend_start host_ends reached machine) (resend_start (ends p) other other_machine)
  alike = record { world = host_run s b cs; plain = same_machine s b cs; numbers = ap plain_outstanding (same_machine s b cs); packets = refl; replies = refl }

  pub host_some_resending : RoomToResend s reached machine (length cs) → RetryLeft (held_sender reached.sender.words) → HostResending s reached machine
  unfolding simulation
  host_some_resending h left =
      let x = host_run s b cs in
      let size = same_length p w (start_of s) cs in
      let space : length ((ends p).unwritten (start_of s).receiver) ≡ length s.output = ap length (unwritten_all p w s.limit s.sender_store s.receiver_store s.output) in
      let bytes : length (flatten machine.sent) ≡ length (flatten other_machine.sent) = ap (λ (m : PlainState). length (flatten m.sent)) (same_machine s b cs) in
      let chunks : length machine.sent ≡ length other_machine.sent = ap (λ (m : PlainState). length m.sent) (same_machine s b cs) in
      let due : length (plain_outstanding machine) ≡ length (plain_outstanding other_machine) = ap (λ (m : PlainState). length (plain_outstanding m)) (same_machine s b cs) in
      let datagrams : length reached.sent ≡ length other.sent = ap length x.sent in
      let output = h.output in
      let numbers = h.numbers in
      let few = h.datagrams_few in
      let fewer = h.calls_few in
      let space_left : room.RoomToResend p ((ends p).unwritten (start_of s).receiver) other other_machine (length (calls_of s b cs)) =
      record {
        output = omega (arith, bytes, space, output);
        numbers = omega (arith, chunks, numbers);
        datagrams_few = omega (arith, due, datagrams, few);
        calls_few = omega (arith, due, size, fewer);
      }
      in
      let retry = retry_left p other.sender (subst RetryLeft x.sender.held left) in
      let t = some_resending p w s.limit s.sender_store s.receiver_store s.output (made s b) (calls_of s b cs) (host_admissible s b cs l) space_left retry in
      let back = timeout_for p w in
      let start = resend_start (ends p) other other_machine in
      record {
        calls = calls_for host_ends (ends p) (simulation p w) back other t.calls;
        resends = resends_all_as p w host_ends (ends p) (simulation p w) (resend_start host_ends reached machine) start (calls_for host_ends (ends p) (simulation p w) back other t.calls) alike
            (subst (λ (ds : List (Call (ends p).Timeout)). ResendsAll p w (ends p) start ds) (sym (calls_are host_ends (ends p) (simulation p w) back other t.calls)) t.resends);
      }
