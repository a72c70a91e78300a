-- Once all outstanding numbers were sent again, a resending can be completed: the datagrams that are left, then the ACKs, handed over in order.
use Prim.Native.Nat.{ℕ, zero, suc, ◌+◌, ◌-◌, ◌≤◌, ◌<◌}
use mathlib.Core.Path.{◌≡◌, refl, sym, ap, ◌∙◌, subst}
use mathlib.Core.Bool.{Bool, true, false, cond}
use mathlib.Core.List.{List, [], ◌∷◌, ◌++◌, append-nil, flatten}
use native.Mathlib.Omega.{arith}
use lib.ListN.{length, get_or, drop, replicate, length-append, length-replicate, drop_of_length-le}
use lib.Seq.{drop-cons, drop-drop, drop-append-le}
use Rattle.bounds.specs.Bounds.{seq_num_limit, count_limit}
use Rattle.protocol.specs.declared.ProtocolType.{ProtocolType}
use Rattle.protocol.specs.declared.ProtocolType.TheVariants.{StopAndWait, GoBackN, SelectiveRepeat}
use Rattle.protocol.specs.PlainMachine.{PlainState, plain_step, plain_run, WindowFits, First}
use Rattle.protocol.specs.Trace as trace
use Rattle.protocol.proofs.Laws.{is_selective, Invariant, step_ok, plain_sent}
use Rattle.delivery.specs.Calls.{Copy, whole, Call, send, timeout, to_receiver, to_sender, Ends, World, datagrams, step, run, Allowed, Admissible, fed_by, fed_in}
use Rattle.delivery.specs.Ends.{ends}
use Rattle.delivery.specs.Demand3.{made_by, ResendState, ResendsAll}
use Rattle.delivery.proofs.Simulation.{one_step}
use Rattle.delivery.proofs.Demand3.{follows}
use Rattle.delivery.proofs.NotRefused.{not_refused}
use Rattle.tallies.proofs.NoneRefused.{Reached, sender_few, receiver_few, sent_step, read_step}

-- x at place i stands first behind the first i
first_left : (l : List (List ℕ)) (i : ℕ) → i < length l → First (get_or l i []) (drop i l)
first_left l i h = rw (drop-cons l i [] h) refl

pub none_fed : (b : Bool) → ◌≡◌ {A = List (List ℕ)} (cond b [] []) []
none_fed true = refl
none_fed false = refl

-- handing over adds nothing to S, and an ACK makes no datagram
abbrev HandsOver : {T : Type 0} → Call T → Type 0
HandsOver (send payload buffer) = ⊥
HandsOver (timeout t buffer) = ⊥
HandsOver (to_receiver c buffer) = Unit {0}
HandsOver (to_sender c) = Unit {0}

same_S : (p : ProtocolType) (w : ℕ) (s : PlainState) (E : Ends) (v : World E) (c : Call E.Timeout) → HandsOver c → (plain_step p w s (fed_by E v c)).sent ≡ s.sent
unfolding fed_by
same_S p w s E v (send payload buffer) h = absurd h
same_S p w s E v (timeout t buffer) h = absurd h
same_S p w s E v (to_receiver c buffer) h = plain_sent p w s _ ∙ ap (λ (l : List (List ℕ)). s.sent ++ l) (none_fed (fed_by E v (to_receiver c buffer)).effect) ∙ append-nil s.sent
same_S p w s E v (to_sender c) h = plain_sent p w s _ ∙ ap (λ (l : List (List ℕ)). s.sent ++ l) (none_fed (fed_by E v (to_sender c)).effect) ∙ append-nil s.sent

pub timeout_S : (p : ProtocolType) (w : ℕ) (s : PlainState) (E : Ends) (v : World E) (t : E.Timeout) (buffer : List ℕ) → (plain_step p w s (fed_by E v (timeout t buffer))).sent ≡ s.sent
unfolding fed_by
timeout_S p w s E v t buffer = plain_sent p w s _ ∙ ap (λ (l : List (List ℕ)). s.sent ++ l) (none_fed (fed_by E v (timeout t buffer)).effect) ∙ append-nil s.sent

ack_makes_none : (p : ProtocolType) (v : World (ends p)) (c : Copy) → (step (ends p) v (to_sender c)).sent ≡ v.sent
unfolding step datagrams
ack_makes_none StopAndWait v c = append-nil v.sent
ack_makes_none GoBackN v c = append-nil v.sent
ack_makes_none SelectiveRepeat v c = append-nil v.sent

module _ (p : ProtocolType) (w : ℕ) (o : WindowFits p w) (rest : List ℕ) where
  -- what stays so while datagrams and ACKs are handed over
  pub record Enough (s : PlainState) (made : List (List ℕ)) : Type 0 where
    pub room : length (flatten s.sent) ≤ length rest
    pub numbers : length s.sent ≤ seq_num_limit
    pub datagrams_few : length made < count_limit

  enough_after : (s t : PlainState) (made : List (List ℕ)) → t.sent ≡ s.sent → Enough s made → Enough t made
  enough_after s t made e h = record { room = rw e h.room; numbers = rw e h.numbers; datagrams_few = h.datagrams_few }

  pub reached_after : (v : World (ends p)) (m : trace.World) (s : PlainState) (calls : ℕ) (r : Reached p w o rest v m s calls) (c : Call (ends p).Timeout) (a : Allowed v c)
      → Reached p w o rest (step (ends p) v c) (trace.step p w m (one_step p w (ends p) (follows p w) rest v m r.follows_it c a).event) (plain_step p w s (fed_by (ends p) v c)) (suc calls)
  reached_after v m s calls r c a =
      let one = one_step p w (ends p) (follows p w) rest v m r.follows_it c a in
      record {
        follows_it = one.follows;
        invariant = subst (λ f. Invariant (is_selective p) w (trace.step p w m one.event) (plain_step p w s f)) one.same_fed (step_ok p w m s one.event o r.invariant one.allowed);
        sent_is = sent_step p v c r.sent_is;
        read_is = read_step p w v c calls r.read_is;
      }

  -- after a list of calls
  pub record ReachedBy (v : World (ends p)) (s : PlainState) (calls : ℕ) : Type 0 where
    pub machine : trace.World
    pub reached : Reached p w o rest v machine s calls

  pub reached_run : (v : World (ends p)) (m : trace.World) (s : PlainState) (calls : ℕ) → Reached p w o rest v m s calls → (cs : List (Call (ends p).Timeout)) → Admissible (ends p) v cs
      → ReachedBy (run (ends p) v cs) (plain_run p w s (fed_in (ends p) v cs)) (calls + length cs)
  unfolding run fed_in plain_run
  reached_run v m s calls r [] a = let e : calls ≡ calls + 0 = omega arith in record { machine = m; reached = subst (Reached p w o rest v m s) e r }
  reached_run v m s calls r (c ∷ cs) a =
      let e : suc calls + length cs ≡ calls + suc (length cs) = omega arith in
      subst (ReachedBy _ _) e (reached_run (step (ends p) v c) _ (plain_step p w s (fed_by (ends p) v c)) (suc calls) (reached_after v m s calls r c a.0) cs a.1)

  -- an ACK is no call of the receiver
  reached_ack : (v : World (ends p)) (m : trace.World) (s : PlainState) (calls : ℕ) (r : Reached p w o rest v m s calls) (j : ℕ) (a : j < length v.replies)
      → Reached p w o rest (step (ends p) v (to_sender (whole j))) (trace.step p w m (one_step p w (ends p) (follows p w) rest v m r.follows_it (to_sender (whole j)) a).event)
      (plain_step p w s (fed_by (ends p) v (to_sender (whole j)))) calls
  unfolding step
  reached_ack v m s calls r j a =
      let x = reached_after v m s calls r (to_sender (whole j)) a in
      record { follows_it = x.follows_it; invariant = x.invariant; sent_is = x.sent_is; read_is = r.read_is }

  module _ (v : World (ends p)) (m : trace.World) (s : PlainState) (calls : ℕ) (r : Reached p w o rest v m s calls) (few : calls < count_limit) (h : Enough s v.sent) where
    ack_done : (j : ℕ) → j < length v.replies → ((ends p).handle_ack v.sender (get_or v.replies j [])).is_done ≡ true
    ack_done j a =
        let n = h.numbers in
        not_refused p w o rest v m s r.follows_it r.invariant (sender_few p v.sender v.sent r.sent_is h.datagrams_few) (receiver_few p w v.receiver calls r.read_is few) h.room
        (to_sender (whole j)) a tt (omega arith) refl

    packet_done : (i : ℕ) → i < length v.sent → ((ends p).handle_packet v.receiver (get_or v.sent i []) (replicate 10 0)).is_done ≡ true
    packet_done i a =
        let n = h.numbers in
        let ten = length-replicate {A = ℕ} 10 0 in
        not_refused p w o rest v m s r.follows_it r.invariant (sender_few p v.sender v.sent r.sent_is h.datagrams_few) (receiver_few p w v.receiver calls r.read_is few) h.room
        (to_receiver (whole i) (replicate 10 0)) a (omega arith) (omega arith) refl

  -- numbers that are left to be sent: none
  abbrev at : World (ends p) → PlainState → List (List ℕ) → List (List ℕ) → ResendState (ends p)
  at v s packets replies = record { world = v; plain = s; numbers = []; packets = packets; replies = replies }

  pub record Completed (r : ResendState (ends p)) : Type 0 where
    pub calls : List (Call (ends p).Timeout)
    pub resends : ResendsAll p w (ends p) r calls

  acks : (l j : ℕ) (v : World (ends p)) (m : trace.World) (s : PlainState) (calls : ℕ) → Reached p w o rest v m s calls → calls < count_limit → Enough s v.sent → j + l ≡ length v.replies
      → Completed (at v s [] (drop j v.replies))
  unfolding step
  acks zero j v m s calls r few h e = record { calls = []; resends = (refl, refl, drop_of_length-le v.replies {i = j} (omega arith)) }
  acks (suc l) j v m s calls r few h e =
      let c : Call (ends p).Timeout = to_sender (whole j) in
      let a : j < length v.replies = omega arith in
      let same = same_S p w s (ends p) v c tt in
      let next = acks l (j + 1) (step (ends p) v c) _ (plain_step p w s (fed_by (ends p) v c)) calls (reached_ack v m s calls r j a) few
      (rw (ack_makes_none p v (whole j)) (enough_after s (plain_step p w s (fed_by (ends p) v c)) v.sent same h)) (omega arith) in
      record {
        calls = c ∷ next.calls;
        resends = (
          (refl, first_left v.replies j a, ack_done v m s calls r few h j a),
          subst (λ (left : List (List ℕ)). ResendsAll p w (ends p) (at (step (ends p) v c) (plain_step p w s (fed_by (ends p) v c)) [] left) next.calls) (sym (drop-drop 1 j v.replies)) next.resends,
        );
      }

  pub hand_overs : (k i j : ℕ) (v : World (ends p)) (m : trace.World) (s : PlainState) (calls : ℕ) → Reached p w o rest v m s calls → calls + k < count_limit → Enough s v.sent
      → i + k ≡ length v.sent → j ≤ length v.replies → Completed (at v s (drop i v.sent) (drop j v.replies))
  unfolding step
  hand_overs zero i j v m s calls r few h e f =
      subst (λ (left : List (List ℕ)). Completed (at v s left (drop j v.replies))) (sym (drop_of_length-le v.sent {i = i} (omega arith)))
      (acks (length v.replies - j) j v m s calls r (omega arith) h (omega arith))
  hand_overs (suc k) i j v m s calls r few h e f =
      let c : Call (ends p).Timeout = to_receiver (whole i) (replicate 10 0) in
      let a : i < length v.sent = omega arith in
      let same = same_S p w s (ends p) v c tt in
      let longer = length-append v.replies (made_by (ends p) v c) in
      let next = hand_overs k (i + 1) j (step (ends p) v c) _ (plain_step p w s (fed_by (ends p) v c)) (suc calls) (reached_after v m s calls r c a) (omega arith)
      (enough_after s (plain_step p w s (fed_by (ends p) v c)) v.sent same h) (omega arith) (omega arith) in
      record {
        calls = c ∷ next.calls;
        resends = (
          (refl, first_left v.sent i a, packet_done v m s calls r (omega arith) h i a),
          subst (λ (left : List (List ℕ)). ResendsAll p w (ends p) (at (step (ends p) v c) (plain_step p w s (fed_by (ends p) v c)) (drop 1 (drop i v.sent)) left) next.calls)
              (drop-append-le j v.replies (made_by (ends p) v c) f)
              (subst (λ (left : List (List ℕ)). ResendsAll p w (ends p) (at (step (ends p) v c) (plain_step p w s (fed_by (ends p) v c)) left (drop j (step (ends p) v c).replies)) next.calls) (sym (drop-drop 1 i v.sent)) next.resends),
        );
      }
