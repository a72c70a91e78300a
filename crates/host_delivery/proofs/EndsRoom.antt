-- No call of an admissible list is refused where the output has room for the chunks that were sent.
use Prim.Native.Nat.{ℕ, suc, ◌+◌, ◌≤◌, ◌<◌}
use mathlib.Core.Path.{◌≡◌, ap, ◌∙◌}
use mathlib.Core.List.{List, [], ◌∷◌, flatten}
use native.Mathlib.Omega.{arith}
use lib.ListN.{length, length-append}
use Rattle.bounds.specs.Bounds.{seq_num_limit, count_limit}
use Rattle.protocol.specs.declared.ProtocolType.{ProtocolType}
use Rattle.protocol.specs.PlainMachine.{Fed, PlainState, plain_step, plain_run, WindowFits}
use Rattle.protocol.specs.Trace as trace
use Rattle.protocol.proofs.Laws.{chunks_fed, plain_sent}
use Rattle.refinement.proofs.Laws.{flatten_append}
use Rattle.delivery.specs.Calls.{Call, send, timeout, to_receiver, to_sender, World, step, run, Admissible, fed_by, fed_in}
use Rattle.delivery.specs.Ends.{ends}
use Rattle.delivery.specs.Room.{chunks_in, AllFit, NoneRefused}
use Rattle.delivery.proofs.Laws.{not_refused, sent_grows}
use Rattle.tallies.proofs.NoneRefused.{Reached, sender_few, receiver_few}
use Rattle.tallies.proofs.HandOvers.{reached_after}

-- S only grows
record Grows (s t : PlainState) : Type 0 where
  bytes : length (flatten s.sent) ≤ length (flatten t.sent)
  number : length s.sent ≤ length t.sent

sent_more : (p : ProtocolType) (w : ℕ) (s : PlainState) (f : Fed) → Grows s (plain_step p w s f)
sent_more p w s f =
    let e = plain_sent p w s f in
    let joined : length (flatten (plain_step p w s f).sent) ≡ length (flatten s.sent) + length (flatten (chunks_fed f)) =
    ap (λ (l : List (List ℕ)). length (flatten l)) e ∙ ap length (flatten_append s.sent (chunks_fed f)) ∙ length-append (flatten s.sent) (flatten (chunks_fed f)) in
    let number : length (plain_step p w s f).sent ≡ length s.sent + length (chunks_fed f) = ap length e ∙ length-append s.sent (chunks_fed f) in
    record { bytes = omega (arith, joined); number = omega (arith, number) }

sent_grown : (p : ProtocolType) (w : ℕ) (s : PlainState) (fs : List Fed) → Grows s (plain_run p w s fs)
unfolding plain_run
sent_grown p w s [] = record { bytes = omega arith; number = omega arith }
sent_grown p w s (f ∷ fs) =
    let one = sent_more p w s f in
    let rest = sent_grown p w (plain_step p w s f) fs in
    record { bytes = omega (arith, one.bytes, rest.bytes); number = omega (arith, one.number, rest.number) }

one_at_most : {T : Type 0} (c : Call T) → length (chunks_in (c ∷ [])) ≤ 1
one_at_most (send payload buffer) = omega arith
one_at_most (timeout t buffer) = omega arith
one_at_most (to_receiver c buffer) = omega arith
one_at_most (to_sender c) = omega arith

module _ (p : ProtocolType) (w : ℕ) (o : WindowFits p w) (rest : List ℕ) where
  pub none_refused_from : (v : World (ends p)) (m : trace.World) (s : PlainState) (calls : ℕ) → Reached p w o rest v m s calls → (cs : List (Call (ends p).Timeout)) → Admissible (ends p) v cs → AllFit p w cs
      → length (flatten (plain_run p w s (fed_in (ends p) v cs)).sent) ≤ length rest → length (plain_run p w s (fed_in (ends p) v cs)).sent < seq_num_limit
      → length (run (ends p) v cs).sent < count_limit → calls + length cs < count_limit → NoneRefused (ends p) v cs
  unfolding run fed_in plain_run
  none_refused_from v m s calls r [] a fits room low few fewer = tt
  none_refused_from v m s calls r (c ∷ cs) a fits room low few fewer =
      let grown = sent_grown p w s (fed_in (ends p) v (c ∷ cs)) in
      let bytes = grown.bytes in
      let number = grown.number in
      let one = one_at_most c in
      let made = sent_grows (ends p) v (c ∷ cs) in
      let size : length (run (ends p) v (c ∷ cs)).sent ≡ length v.sent + length made.more = ap length made.is ∙ length-append v.sent made.more in (
        not_refused p w o rest v m s r.follows_it r.invariant (sender_few p v.sender v.sent r.sent_is (omega (arith, few, size)))
            (receiver_few p w v.receiver calls r.read_is (omega (arith, fewer))) (omega (arith, room, bytes)) c a.0 fits.0 (omega (arith, low, number, one)),
        none_refused_from (step (ends p) v c) _ (plain_step p w s (fed_by (ends p) v c)) (suc calls) (reached_after p w o rest v m s calls r c a.0) cs a.1 fits.1 room low few (omega (arith, fewer)),
      )
