-- Every list of calls and drains, of ends whose drains take the output and leave the receiver the machine's.
use Prim.Native.Nat.{ℕ, suc, ◌+◌, ◌<◌}
use mathlib.Core.Path.{◌≡◌, refl, sym, ap, ◌∙◌}
use mathlib.Core.Bool.{Bool, true, false}
use mathlib.Core.List.{List, [], ◌∷◌, ◌++◌, map, append-nil, flatten}
use native.Mathlib.Omega.{arith}
use lib.ListN.{length, drop, length-append}
use lib.Seq.{drop-append_seam, drop-drop}
use Rattle.bounds.specs.Bounds.{count_limit}
use Rattle.protocol.specs.declared.ProtocolType.{ProtocolType}
use Rattle.protocol.specs.PlainMachine.{PlainState, WindowFits}
use Rattle.protocol.specs.Machine.{ReceiverState}
use Rattle.protocol.specs.Trace as trace
use Rattle.protocol.specs.Trace.{Event, call_of, new_world}
use Rattle.protocol.proofs.Laws.{is_selective, Invariant, from_start, claimed}
use Rattle.delivery.specs.Calls.{Call, send, timeout, to_receiver, to_sender, copy_bytes, Ends, World, step}
use Rattle.delivery.proofs.Follow.{Follow}
use Rattle.delivery.proofs.Simulation.{Follows, one_step}
use Rattle.host_drain.specs.Calls.{drainable, Draining, DrainCall, call, drain, drain_step, drain_run, DrainAdmissible, drain_fed, DrainsDone, plain_after_drains, drain_start, DrainClaim}
use Rattle.host_drain.proofs.Follow.{drain_follow}

-- of a drain that is done
pub record Emptied (E : Ends) (Is : E.Receiver → ReceiverState → Type 0) (X : Draining E) (r : E.Receiver) (m : ReceiverState) (next : List ℕ) : Type 0 where
  pub is : Is (X.emptied r next) m
  pub all_taken : X.taken r ≡ E.output r
  pub none_present : E.output (X.emptied r next) ≡ []
  pub rest : E.unwritten (X.emptied r next) ≡ next

drop_within : (xs ys zs : List ℕ) → drop (length (xs ++ ys)) (xs ++ zs) ≡ drop (length ys) zs
drop_within xs ys zs =
    let n : length (xs ++ ys) ≡ length xs + length ys = length-append xs ys in
    ap (λ (k : ℕ). drop k (xs ++ zs)) n ∙ sym (drop-drop (length ys) (length xs) (xs ++ zs)) ∙ ap (drop (length ys)) (drop-append_seam xs zs)

module _ (p : ProtocolType) (w : ℕ) (E : Ends) (F : Follow p w E) (X : Draining E)
    (empties : (r : E.Receiver) (m : ReceiverState) (next : List ℕ) → F.ReceiverIs r m → X.Asks r → X.is_done r ≡ true → Emptied E F.ReceiverIs X r m next) where
  abbrev E' : Ends
  E' = drainable E

  abbrev F' : Follow p w E'
  F' = drain_follow p w E F

  -- what lies behind the bytes drained before: the output as it was lent last
  abbrev rest_of : World E' → List ℕ
  rest_of v = v.receiver.drained ++ v.receiver.lent

  abbrev pub Drains : World E' → trace.World → Type 0
  Drains v m = Follows p w E' F' (rest_of v) v m

  same_rest : (v : World E') (c : Call E.Timeout) → rest_of (step E' v c) ≡ rest_of v
  unfolding step
  same_rest v (send payload buffer) = refl
  same_rest v (timeout t buffer) = refl
  same_rest v (to_receiver c buffer) = refl
  same_rest v (to_sender c) = refl

  drain_one : (v : World E') (m : trace.World) (next : List ℕ) (b : Bool) → X.is_done v.receiver.receiver ≡ b → X.Asks v.receiver.receiver → Drains v m → Drains (drain_step E X v (drain next)) m
  unfolding drain_step drain_follow
  drain_one v m next true e a f =
      let x = empties v.receiver.receiver m.receiver next f.receiver a e in
      let all = ap (λ (l : List ℕ). v.receiver.drained ++ l) x.all_taken ∙ f.output in
      rw e
      record {
        sender = f.sender;
        receiver = x.is;
        sent = f.sent;
        replies = f.replies;
        output = rw x.none_present (append-nil _ ∙ all);
        unwritten = x.rest ∙ sym (ap (λ (l : List ℕ). drop (length (flatten m.delivered)) (l ++ next)) all ∙ drop-append_seam (flatten m.delivered) next);
      }
  drain_one v m next false e a f =
      rw e
      record { sender = f.sender; receiver = f.receiver; sent = f.sent; replies = f.replies; output = f.output; unwritten = f.unwritten }

  record Followed (v : World E') (m : trace.World) (cs : List (DrainCall E.Timeout)) : Type 0 where
    pub events : List Event
    pub fair : trace.Admissible p w m events
    pub same_fed : map call_of events ≡ drain_fed E X v cs
    pub drains : Drains (drain_run E X v cs) (trace.run p w m events)

  every_list : (v : World E') (m : trace.World) → Drains v m → (cs : List (DrainCall E.Timeout)) → DrainAdmissible E X v cs → Followed v m cs
  unfolding drain_run drain_fed drain_step trace.run
  every_list v m d [] l = record { events = []; fair = tt; same_fed = refl; drains = d }
  every_list v m d (call c ∷ cs) l =
      let one = one_step p w E' F' (rest_of v) v m d c l.0 in
      let now : Drains (step E' v c) (trace.step p w m one.event) = rw (same_rest v c) one.follows in
      let rest = every_list (step E' v c) (trace.step p w m one.event) now cs l.1 in
      record {
        events = one.event ∷ rest.events;
        fair = (one.allowed, rest.fair);
        same_fed = rw (one.same_fed, rest.same_fed) refl;
        drains = rest.drains;
      }
  every_list v m d (drain next ∷ cs) l =
      let rest = every_list (drain_step E X v (drain next)) m (drain_one v m next _ refl l.0 d) cs l.1 in
      record { events = rest.events; fair = rest.fair; same_fed = rest.same_fed; drains = rest.drains }

  claim_of : (v : World E') (m : trace.World) (s : PlainState) → Drains v m → Invariant (is_selective p) w m s → DrainClaim E w v s
  unfolding drain_follow
  claim_of v m s f i =
      let c = claimed (is_selective p) w m s i in
      let r = v.receiver in
      record {
        receiver_base = F.receiver_base r.receiver m.receiver f.receiver ∙ c.receiver_base;
        sender_base = F.sender_base v.sender m.sender f.sender ∙ c.sender_base;
        first_delivered = f.output ∙ ap flatten c.first_delivered;
        nothing_else_written = f.unwritten ∙ sym (ap (λ (l : List ℕ). drop (length l) (rest_of v)) f.output) ∙ drop_within r.drained (E.output r.receiver) r.lent;
        within_sent = i.ends.D≤sent;
        not_negative = c.not_negative;
        in_window = c.in_window;
      }

  pub drained_claim : WindowFits p w → (v : World E') → Drains v (new_world p w) → (cs : List (DrainCall E.Timeout)) → DrainAdmissible E X v cs → DrainClaim E w (drain_run E X v cs) (plain_after_drains E X p w v cs)
  drained_claim o v d cs l =
      let t = every_list v (new_world p w) d cs l in
      claim_of (drain_run E X v cs) (trace.run p w (new_world p w) t.events) (plain_after_drains E X p w v cs) t.drains (rw (← t.same_fed) (from_start p w t.events o t.fair))

-- ends that follow the machine, with nothing drained yet
pub start_drains : (p : ProtocolType) (w : ℕ) (E : Ends) (F : Follow p w E) (v : World E) (m : trace.World) → Follows p w E F (E.unwritten v.receiver) v m
    → Follows p w (drainable E) (drain_follow p w E F) (E.unwritten v.receiver) (drain_start v) m
unfolding drain_follow
start_drains p w E F v m f = record { sender = f.sender; receiver = f.receiver; sent = f.sent; replies = f.replies; output = f.output; unwritten = f.unwritten }

-- ---- no drain is refused: of ends whose receiver counts no more than its calls
pub record Counting (E : Ends) (X : Draining E) : Type 1 where
  pub Counted : ℕ → E.Receiver → Type 0
  pub later : (n : ℕ) (r : E.Receiver) → Counted n r → Counted (suc n) r
  pub packet : (n : ℕ) (r : E.Receiver) (raw buffer : List ℕ) → Counted n r → Counted (suc n) (E.handle_packet r raw buffer).after
  pub emptied : (n : ℕ) (r : E.Receiver) (next : List ℕ) → Counted n r → X.is_done r ≡ true → Counted n (X.emptied r next)
  pub is_done : (n : ℕ) (r : E.Receiver) → Counted n r → n < count_limit → X.is_done r ≡ true

module _ (E : Ends) (X : Draining E) (C : Counting E X) where
  call_counted : (n : ℕ) (v : World (drainable E)) (c : Call E.Timeout) → C.Counted n v.receiver.receiver → C.Counted (suc n) (step (drainable E) v c).receiver.receiver
  unfolding step
  call_counted n v (send payload buffer) h = C.later n _ h
  call_counted n v (timeout t buffer) h = C.later n _ h
  call_counted n v (to_receiver c buffer) h = C.packet n v.receiver.receiver (copy_bytes v.sent c) buffer h
  call_counted n v (to_sender c) h = C.later n _ h

  pub every_drain_done : (n : ℕ) (v : World (drainable E)) → C.Counted n v.receiver.receiver → (cs : List (DrainCall E.Timeout)) → n + length cs < count_limit → DrainsDone E X v cs
  unfolding drain_step
  every_drain_done n v h [] few = tt
  every_drain_done n v h (call c ∷ cs) few = every_drain_done (suc n) (step (drainable E) v c) (call_counted n v c h) cs (omega (arith, few))
  every_drain_done n v h (drain next ∷ cs) few =
      let r = v.receiver.receiver in
      let e = C.is_done n r h (omega (arith, few)) in
      let after : C.Counted (suc n) (drain_step E X v (drain next)).receiver.receiver = rw e (C.later n _ (C.emptied n r next h e)) in
      (e, every_drain_done (suc n) (drain_step E X v (drain next)) after cs (omega (arith, few)))
