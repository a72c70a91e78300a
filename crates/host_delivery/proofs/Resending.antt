-- A resending of ends that are done alike is one of the others.
use Prim.Native.Nat.{ℕ}
use mathlib.Core.Path.{◌≡◌, refl, sym, ap, ◌∙◌, subst}
use mathlib.Core.List.{List, [], ◌∷◌, ◌++◌, map}
use mathlib.Core.Bool.{Bool, ◌&&◌}
use lib.ListN.{length, take, drop}
use Rattle.protocol.specs.declared.ProtocolType.{ProtocolType}
use Rattle.protocol.specs.PlainMachine as plain
use Rattle.protocol.specs.PlainMachine.{Fed, fed, PlainState, plain_step, First}
use Rattle.delivery.specs.Calls.{copy_bytes, is_whole, Call, send, timeout, to_receiver, to_sender, Ends, World, datagrams, step, number_of, fed_by, fed_in}
use Rattle.delivery.specs.Demand3.{outstanding_of, ResendState, made_by, numbers_left, packets_left, replies_left, resend_step, Resends, ResendsAll}
use Rattle.host_delivery.proofs.Simulation.{Simulates, call_as, calls_as, WorldAs, packet_does, ack_does, step_as}

module _ (p : ProtocolType) (w : ℕ) (G E : Ends) (S : Simulates G E) where
  abbrev call_in : World E → Call G.Timeout → Call E.Timeout
  call_in u c = call_as G E S u.sender c

  -- the same is made, and the plain machine is fed the same
  made_as : (v : World G) (u : World E) (c : Call G.Timeout) → WorldAs G E S v u → made_by G v c ≡ made_by E u (call_in u c)
  made_as v u (send payload buffer) x = ap datagrams (S.sends v.sender u.sender payload buffer x.sender).written
  made_as v u (timeout t buffer) x = ap datagrams (S.times v.sender u.sender t buffer x.sender).written
  made_as v u (to_receiver c buffer) x = ap datagrams (packet_does G E S v u c buffer x).written
  made_as v u (to_sender c) x = ap datagrams (ack_does G E S v u c x).written

  fed_as : (v : World G) (u : World E) (c : Call G.Timeout) → WorldAs G E S v u → fed_by G v c ≡ fed_by E u (call_in u c)
  unfolding fed_by
  fed_as v u (send payload buffer) x = ap (λ (b : Bool). fed (plain.send_chunk payload) b) (S.sends v.sender u.sender payload buffer x.sender).same_done
  fed_as v u (timeout t buffer) x = ap (λ (b : Bool). fed plain.handle_timeout b) (S.times v.sender u.sender t buffer x.sender).same_done
  fed_as v u (to_receiver c buffer) x =
      let done = (G.handle_packet v.receiver (copy_bytes v.sent c) buffer).is_done in
      ap (λ (l : List (List ℕ)). fed (plain.handle_data (number_of (copy_bytes l c))) (is_whole c && done)) x.sent
      ∙ ap (λ (b : Bool). fed (plain.handle_data (number_of (copy_bytes u.sent c))) (is_whole c && b)) (packet_does G E S v u c buffer x).same_done
  fed_as v u (to_sender c) x =
      let done = (G.handle_ack v.sender (copy_bytes v.replies c)).is_done in
      ap (λ (l : List (List ℕ)). fed (plain.handle_ack (number_of (copy_bytes l c))) (is_whole c && done)) x.replies
      ∙ ap (λ (b : Bool). fed (plain.handle_ack (number_of (copy_bytes u.replies c))) (is_whole c && b)) (ack_does G E S v u c x).same_done

  pub fed_in_as : (v : World G) (u : World E) (cs : List (Call G.Timeout)) → WorldAs G E S v u → fed_in G v cs ≡ fed_in E u (calls_as G E S u cs)
  unfolding fed_in calls_as
  fed_in_as v u [] x = refl
  fed_in_as v u (c ∷ cs) x =
      ap (λ (f : Fed). f ∷ fed_in G (step G v c) cs) (fed_as v u c x)
      ∙ ap (λ (fs : List Fed). fed_by E u (call_in u c) ∷ fs) (fed_in_as (step G v c) (step E u (call_in u c)) cs (step_as G E S v u c x))

  -- where two resendings stand alike
  pub record ResendAs (a : ResendState G) (b : ResendState E) : Type 0 where
    pub world : WorldAs G E S a.world b.world
    pub plain : a.plain ≡ b.plain
    pub numbers : a.numbers ≡ b.numbers
    pub packets : a.packets ≡ b.packets
    pub replies : a.replies ≡ b.replies

  numbers_as : (s : E.Sender) (c : Call G.Timeout) {x y : PlainState} {m n : List (List ℕ)} {k l : List ℕ} → x ≡ y → m ≡ n → k ≡ l → numbers_left c x m k ≡ numbers_left (call_as G E S s c) y n l
  numbers_as s (send payload buffer) e f g = g
  numbers_as s (timeout t buffer) {x} {y} {m} {n} {k} {l} e f g = ap (λ (z : List (List ℕ)). drop (length z) k) f ∙ ap (drop (length n)) g
  numbers_as s (to_receiver c buffer) e f g = g
  numbers_as s (to_sender c) {x} {y} {m} {n} {k} {l} e f g = ap (λ (z : PlainState). outstanding_of z k) e ∙ ap (outstanding_of y) g

  packets_as : (s : E.Sender) (c : Call G.Timeout) {m n k l : List (List ℕ)} → m ≡ n → k ≡ l → packets_left c m k ≡ packets_left (call_as G E S s c) n l
  packets_as s (send payload buffer) f g = g
  packets_as s (timeout t buffer) {m} {n} {k} {l} f g = ap (λ (z : List (List ℕ)). k ++ z) f ∙ ap (λ (z : List (List ℕ)). z ++ n) g
  packets_as s (to_receiver c buffer) f g = ap (drop 1) g
  packets_as s (to_sender c) f g = g

  replies_as : (s : E.Sender) (c : Call G.Timeout) {m n k l : List (List ℕ)} → m ≡ n → k ≡ l → replies_left c m k ≡ replies_left (call_as G E S s c) n l
  replies_as s (send payload buffer) f g = g
  replies_as s (timeout t buffer) f g = g
  replies_as s (to_receiver c buffer) {m} {n} {k} {l} f g = ap (λ (z : List (List ℕ)). k ++ z) f ∙ ap (λ (z : List (List ℕ)). z ++ n) g
  replies_as s (to_sender c) f g = ap (drop 1) g

  resend_step_as : (a : ResendState G) (b : ResendState E) (c : Call G.Timeout) → ResendAs a b → ResendAs (resend_step p w G a c) (resend_step p w E b (call_in b.world c))
  resend_step_as a b c r =
      let made = made_as a.world b.world c r.world in
      let same = ap (λ (s : PlainState). plain_step p w s (fed_by G a.world c)) r.plain ∙ ap (plain_step p w b.plain) (fed_as a.world b.world c r.world) in
      record {
        world = step_as G E S a.world b.world c r.world;
        plain = same;
        numbers = numbers_as b.world.sender c same made r.numbers;
        packets = packets_as b.world.sender c made r.packets;
        replies = replies_as b.world.sender c made r.replies;
      }

  resends_as : (a : ResendState G) (b : ResendState E) (c : Call G.Timeout) → ResendAs a b → Resends E b (call_in b.world c) → Resends G a c
  resends_as a b (send payload buffer) r h = h
  resends_as a b (timeout t buffer) r h =
      let made = made_as a.world b.world (timeout t buffer) r.world in
      let again = made_by E b.world (call_in b.world (timeout t buffer)) in
      ap (λ (z : List (List ℕ)). take (length z) a.numbers) made ∙ ap (take (length again)) r.numbers ∙ h ∙ sym (ap (map number_of) made)
  resends_as a b (to_receiver c buffer) r h =
      let first = subst (First (copy_bytes b.world.sent c)) (sym r.packets) h.1 in
      (h.0, subst (λ (l : List (List ℕ)). First (copy_bytes l c) a.packets) (sym r.world.sent) first, (packet_does G E S a.world b.world c buffer r.world).same_done ∙ h.2)
  resends_as a b (to_sender c) r h =
      let first = subst (First (copy_bytes b.world.replies c)) (sym r.replies) h.1 in
      (h.0, subst (λ (l : List (List ℕ)). First (copy_bytes l c) a.replies) (sym r.world.replies) first, (ack_does G E S a.world b.world c r.world).same_done ∙ h.2)

  pub resends_all_as : (a : ResendState G) (b : ResendState E) (cs : List (Call G.Timeout)) → ResendAs a b → ResendsAll p w E b (calls_as G E S b.world cs) → ResendsAll p w G a cs
  unfolding calls_as
  resends_all_as a b [] r h = (r.numbers ∙ h.0, r.packets ∙ h.1, r.replies ∙ h.2)
  resends_all_as a b (c ∷ cs) r h =
      (resends_as a b c r h.0, resends_all_as (resend_step p w G a c) (resend_step p w E b (call_in b.world c)) cs (resend_step_as a b c r) h.1)

-- ---- where every timeout of the one is some timeout of the other
pub record TimeoutFor (G E : Ends) (S : Simulates G E) (s : E.Sender) (t : E.Timeout) : Type 0 where
  pub by : G.Timeout
  pub is : S.timeout_as s by ≡ t

module _ (G E : Ends) (S : Simulates G E) (back : (s : E.Sender) (t : E.Timeout) → TimeoutFor G E S s t) where
  abbrev call_for : E.Sender → Call E.Timeout → Call G.Timeout
  call_for s (send payload buffer) = send payload buffer
  call_for s (timeout t buffer) = timeout (back s t).by buffer
  call_for s (to_receiver c buffer) = to_receiver c buffer
  call_for s (to_sender c) = to_sender c

  call_is : (s : E.Sender) (c : Call E.Timeout) → call_as G E S s (call_for s c) ≡ c
  call_is s (send payload buffer) = refl
  call_is s (timeout t buffer) = ap (λ (k : E.Timeout). timeout k buffer) (back s t).is
  call_is s (to_receiver c buffer) = refl
  call_is s (to_sender c) = refl

  unfoldable pub calls_for : World E → List (Call E.Timeout) → List (Call G.Timeout)
  calls_for u [] = []
  calls_for u (c ∷ cs) = call_for u.sender c ∷ calls_for (step E u c) cs

  pub calls_are : (u : World E) (cs : List (Call E.Timeout)) → calls_as G E S u (calls_for u cs) ≡ cs
  unfolding calls_as calls_for
  calls_are u [] = refl
  calls_are u (c ∷ cs) =
      ap (λ (d : Call E.Timeout). d ∷ calls_as G E S (step E u d) (calls_for (step E u c) cs)) (call_is u.sender c)
      ∙ ap (λ (l : List (Call E.Timeout)). c ∷ l) (calls_are (step E u c) cs)
