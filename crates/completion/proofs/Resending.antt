-- The packets of a timeout, submitted one after the other.
use Rattle.std.specs.Prelude.{Option}
use Prim.Native.Nat.{ℕ, zero, suc}
use mathlib.Core.Path.{◌≡◌, sym, subst}
use mathlib.Core.List.{List, [], ◌∷◌}
use lib.Ieee.{Float}
use Rattle.schedule.specs.Waiting.{All, of_none, of_more}
use Rattle.channel.specs.declared.ChannelConfig.{ChannelConfig}
use Rattle.path.specs.Direction.{Direction}
use Rattle.clock.specs.declared.Timing.{Timing}
use Rattle.delivery.specs.Calls.{number_of}
use Rattle.window.specs.Slots.{datagram_for}
use Rattle.session.specs.Sending.{SenderEnd, window_end}
use Rattle.session.specs.Receiving.{ReceiverEnd}
use Rattle.session.proofs.Laws.{datagram_number, datagram_short}
use Rattle.submission.specs.Submission.{Outgoing, CanSubmit}
use Rattle.sending.specs.Retransmit.{RetransmitExit, retransmit, retransmit_all, CanRetransmitAll}
use Rattle.sending.proofs.Laws.{packets_from, can_resubmit, can_retransmit_first, can_retransmit_rest, all_none, all_by}
use Rattle.sending.specs.declared.Resends.{Resends}
use Rattle.completion.specs.Flips.{FlipsOutside}
use Rattle.completion.proofs.Reached.{Start, chunks_in, RunWorld}
use Rattle.completion.proofs.Follows.{WholeOf, FollowsIn}
use Rattle.completion.proofs.Events.{events_in, LoggedIn, submit_logged, flips_before}
use Rattle.completion.proofs.Submitting.{resubmission, retransmit_follows}

-- what submissions of packets that were made leave of o
pub record Resubmits (s : Start) (c : ChannelConfig) (rolls : List Float) (packets : List (List ℕ)) (o after : Outgoing) : Type 0 where
  pub logged : LoggedIn c after
  pub before : FlipsOutside c rolls (chunks_in s) (events_in after) → FlipsOutside c rolls (chunks_in s) (events_in o)
  pub follows : {u : RunWorld s} {v : SenderEnd} {e : ReceiverEnd} {output : List ℕ} {reverse : Direction} → All (WholeOf u.sent) packets → FlipsOutside c rolls (chunks_in s) (events_in after) → FollowsIn s u v e output o.forward reverse
      → FollowsIn s u v e output after.forward reverse

module _ {s : Start} {c : ChannelConfig} {rolls : List Float} where
  pub none_resubmitted : {packets : List (List ℕ)} {o : Outgoing} → LoggedIn c o → Resubmits s c rolls packets o o
  none_resubmitted l = record { logged = l; before = λ f. f; follows = λ m flips f. f }

  resubmitted_then : {packet : List ℕ} {packets : List (List ℕ)} {o o' o'' : Outgoing} → Resubmits s c rolls (packet ∷ []) o o' → Resubmits s c rolls packets o' o'' → Resubmits s c rolls (packet ∷ packets) o o''
  resubmitted_then a b =
      record {
        logged = b.logged;
        before = λ f. a.before (b.before f);
        follows = λ m flips f. split m (λ h k. b.follows k flips (a.follows (of_more h of_none) (b.before flips) f));
      }
    where
      split : {P : List ℕ → Type 0} {x : List ℕ} {xs : List (List ℕ)} {X : Type 0} → All P (x ∷ xs) → (P x → All P xs → X) → X
      split (of_more h k) f = f h k

  resubmitted_first : {packet : List ℕ} {packets : List (List ℕ)} {o o' : Outgoing} → Resubmits s c rolls (packet ∷ []) o o' → Resubmits s c rolls (packet ∷ packets) o o'
  resubmitted_first a = resubmitted_then a (none_resubmitted a.logged)

  module _ (t : Timing) (rto now : ℕ) (oldest : Option ℕ) where
    pub one_resubmitted : (seq : ℕ) (packet : List ℕ) (r : Resends) (o : Outgoing) → number_of packet ≡ seq → LoggedIn c o → CanSubmit t rolls (resubmission rto now oldest seq) packet o
        → Resubmits s c rolls (packet ∷ []) o (retransmit t rolls rto now oldest seq packet r o).outgoing
    unfolding retransmit
    one_resubmitted seq packet r o n l can =
        record {
          logged = submit_logged t rolls (resubmission rto now oldest seq) packet o l can;
          before = λ f. flips_before t rolls (resubmission rto now oldest seq) packet o l (chunks_in s) f;
          follows = λ m flips f. retransmit_follows t rolls rto now oldest seq packet r o n can l (first m) flips f;
        }
      where
        first : {P : List ℕ → Type 0} {x : List ℕ} {xs : List (List ℕ)} → All P (x ∷ xs) → P x
        first (of_more h k) = h

    -- so many numbers from first on, until the ceiling is met or the run ends
    pub numbers_resubmitted : (limit : ℕ) (v : SenderEnd) (count first : ℕ) (r : Resends) (o : Outgoing) → CanRetransmitAll t rolls rto now v first count r o → LoggedIn c o
        → Resubmits s c rolls (packets_from v first count) o (retransmit_all limit t rolls rto now oldest (packets_from v first count) r o).outgoing
    numbers_resubmitted limit v zero first r o can l = subst (λ (y : RetransmitExit). Resubmits s c rolls [] o y.outgoing) (sym (all_none limit t rolls rto now oldest r o)) (none_resubmitted l)
    numbers_resubmitted limit v (suc count) first r o can l =
        let packet = datagram_for (window_end v) first in
        let n = datagram_number (window_end v) first in
        let lowest = can_retransmit_first can in
        let one = one_resubmitted first packet r o n l (can_resubmit lowest oldest packet (datagram_short v first can.sender lowest.within)) in
        all_by limit t rolls rto now oldest packet (packets_from v (suc first) count) r o (λ (y : RetransmitExit). Resubmits s c rolls (packet ∷ packets_from v (suc first) count) o y.outgoing) n (none_resubmitted l) (λ g. resubmitted_first one)
        (λ g. resubmitted_then one (numbers_resubmitted limit v count (suc first) _ _ (can_retransmit_rest can oldest g) one.logged))
