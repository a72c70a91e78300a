-- Demand 3, from what has to hold of the two ends call by call.
use Prim.Native.Nat.{ℕ, ◌≤◌}
use mathlib.Core.Path.{ap, ◌∙◌}
use mathlib.Core.List.{List, map, flatten}
use native.Mathlib.Omega.{arith}
use lib.ListN.{length}
use lib.Seq.{take_all}
use Rattle.protocol.specs.declared.ProtocolType.{ProtocolType}
use Rattle.protocol.specs.PlainMachine.{PlainState, plain_start, plain_run, WindowFits}
use Rattle.protocol.specs.Trace as trace
use Rattle.protocol.specs.Trace.{call_of, new_world}
use Rattle.protocol.proofs.Laws.{is_selective, Invariant, run_ok, from_start, claimed, resending_ok, plain_append}
use Rattle.delivery.specs.Calls.{Call, Ends, World, run, Admissible, fed_in}
use Rattle.delivery.specs.Demand3.{plain_after, Claim, resend_start, ResendsAll, Resent, Demand3}
use Rattle.delivery.proofs.Lists.{run_append, fed_append}
use Rattle.delivery.proofs.Follow.{Follow}
use Rattle.delivery.proofs.Simulation.{Follows, every_list}
use Rattle.delivery.proofs.Resending.{resent_as}

module _ (p : ProtocolType) (w : ℕ) (o : WindowFits p w) (E : Ends) (F : Follow p w E) (start : World E) where
  abbrev rest : List ℕ
  rest = E.unwritten start.receiver

  claim_of : (v : World E) (m : trace.World) (s : PlainState) → Follows p w E F rest v m → Invariant (is_selective p) w m s → Claim E w start v s
  claim_of v m s f i =
      let c = claimed (is_selective p) w m s i in
      record {
        receiver_base = F.receiver_base v.receiver m.receiver f.receiver ∙ c.receiver_base;
        sender_base = F.sender_base v.sender m.sender f.sender ∙ c.sender_base;
        first_delivered = f.output ∙ ap flatten c.first_delivered;
        nothing_else_written = rw f.output f.unwritten;
        within_sent = i.ends.D≤sent;
        not_negative = c.not_negative;
        in_window = c.in_window;
      }

  -- a resending that follows
  after_resending : (v : World E) (m : trace.World) (s : PlainState) → Follows p w E F rest v m → Invariant (is_selective p) w m s
      → (ds : List (Call E.Timeout)) → ResendsAll p w E (resend_start E v s) ds → Resent E w start (run E v ds) s (plain_run p w s (fed_in E v ds))
  after_resending v m s f i ds r =
      let u = resent_as p w o E F rest v m s f i ds r in
      let a = resending_ok p w m s u.events o i u.resending in
      let c = claim_of (run E v ds) (trace.run p w m u.events) (plain_run p w s (map call_of u.events)) u.follows (run_ok p w m s u.events o i a.fair) in
      rw (← u.same_fed)
      record {
        same_sent = a.same_sent;
        last_D = a.last_D;
        last_A = a.last_A;
        claim = c;
        everything = c.first_delivered ∙ rw (a.same_sent, a.last_D) (ap flatten (take_all (length s.sent) s.sent (omega arith)));
      }

  pub from_calls : Follows p w E F rest start (new_world p w) → (cs : List (Call E.Timeout)) → Admissible E start cs → Demand3 p w E start cs
  from_calls f cs l =
      let t = every_list p w E F rest start (new_world p w) f cs l in
      let m : trace.World = trace.run p w (new_world p w) t.events in
      let i : Invariant (is_selective p) w m (plain_after p w E start cs) = rw (← t.same_fed) (from_start p w t.events o t.fair) in
      record {
        claim = claim_of (run E start cs) m (plain_after p w E start cs) t.follows i;
        resent = λ ds r.
            rw (run_append E start cs ds, fed_append E start cs ds, plain_append p w plain_start (fed_in E start cs) (fed_in E (run E start cs) ds))
            (after_resending (run E start cs) m (plain_after p w E start cs) t.follows i ds r);
      }
