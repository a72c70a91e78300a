-- Ends that do, call by call, what other ends do, follow the ends over numbers and chunks as those do.
use Prim.Native.Nat.{ℕ}
use mathlib.Core.Path.{◌≡◌, sym, ap, ◌∙◌, subst}
use mathlib.Core.List.{List, [], ◌∷◌, ◌++◌, flatten}
use lib.ListN.{length, drop}
use Rattle.octets.specs.Flip.{flip}
use Rattle.protocol.specs.declared.ProtocolType.{ProtocolType}
use Rattle.protocol.specs.Machine.{SenderState, ReceiverState, next_number, receive}
use Rattle.delivery.specs.Calls.{Copy, copy_bytes, IsCopy, Call, send, timeout, to_receiver, to_sender, Done, Ends, World, datagrams, by_sender, by_receiver, step, run, Allowed, Admissible}
use Rattle.delivery.specs.Room.{NotRefused, NoneRefused}
use Rattle.delivery.proofs.Datagrams.{DataBytes}
use Rattle.delivery.proofs.Follow.{SenderKept, ReceiverKept, Follow}

-- a call leaves a state that stands for the other's, wrote the same, and was done or refused like it
pub record Does {S T : Type 0} (As : S → T → Type 0) (d : Done S) (e : Done T) : Type 0 where
  pub after : As d.after e.after
  pub written : d.written ≡ e.written
  pub same_done : d.is_done ≡ e.is_done
  pub same_refused : d.is_refused ≡ e.is_refused

pub record Simulates (G E : Ends) : Type 1 where
  pub SenderAs : G.Sender → E.Sender → Type 0
  pub ReceiverAs : G.Receiver → E.Receiver → Type 0
  pub timeout_as : E.Sender → G.Timeout → E.Timeout
  pub sends : (h : G.Sender) (s : E.Sender) (payload buffer : List ℕ) → SenderAs h s → Does SenderAs (G.send_chunk h payload buffer) (E.send_chunk s payload buffer)
  pub times : (h : G.Sender) (s : E.Sender) (t : G.Timeout) (buffer : List ℕ) → SenderAs h s → Does SenderAs (G.handle_timeout h t buffer) (E.handle_timeout s (timeout_as s t) buffer)
  pub acks : (h : G.Sender) (s : E.Sender) (raw : List ℕ) → SenderAs h s → Does SenderAs (G.handle_ack h raw) (E.handle_ack s raw)
  pub packets : (h : G.Receiver) (r : E.Receiver) (raw buffer : List ℕ) → ReceiverAs h r → Does ReceiverAs (G.handle_packet h raw buffer) (E.handle_packet r raw buffer)
  pub sender_base : (h : G.Sender) (s : E.Sender) → SenderAs h s → G.sender_base h ≡ E.sender_base s
  pub receiver_base : (h : G.Receiver) (r : E.Receiver) → ReceiverAs h r → G.receiver_base h ≡ E.receiver_base r
  pub output : (h : G.Receiver) (r : E.Receiver) → ReceiverAs h r → G.output h ≡ E.output r
  pub unwritten : (h : G.Receiver) (r : E.Receiver) → ReceiverAs h r → G.unwritten h ≡ E.unwritten r

module _ (p : ProtocolType) (w : ℕ) (G E : Ends) (S : Simulates G E) (F : Follow p w E) where
  pub record SenderBy (h : G.Sender) (m : SenderState) : Type 0 where
    pub other : E.Sender
    pub stands : S.SenderAs h other
    pub is : F.SenderIs other m

  pub record ReceiverBy (h : G.Receiver) (m : ReceiverState) : Type 0 where
    pub other : E.Receiver
    pub stands : S.ReceiverAs h other
    pub is : F.ReceiverIs other m

  pub sender_kept : {d : Done G.Sender} {e : Done E.Sender} {m : SenderState} → Does S.SenderAs d e → SenderKept E F.SenderIs e m → SenderKept G SenderBy d m
  sender_kept {d} {e} x k = record { after = record { other = e.after; stands = x.after; is = k.after }; nothing = x.written ∙ k.nothing }

  pub receiver_kept : {h : G.Receiver} {r : E.Receiver} {d : Done G.Receiver} {e : Done E.Receiver} {m : ReceiverState} → S.ReceiverAs h r → Does S.ReceiverAs d e
      → ReceiverKept E F.ReceiverIs r e m → ReceiverKept G ReceiverBy h d m
  receiver_kept {h} {r} {d} {e} before x k =
      record {
        after = record { other = e.after; stands = x.after; is = k.after };
        nothing = x.written ∙ k.nothing;
        output = S.output d.after e.after x.after ∙ k.output ∙ sym (S.output h r before);
        unwritten = S.unwritten d.after e.after x.after ∙ k.unwritten ∙ sym (S.unwritten h r before);
      }

  unfoldable pub simulated : Follow p w G
  simulated = record {
    SenderIs = SenderBy;
    ReceiverIs = ReceiverBy;
    sender_base = λ h m i. S.sender_base h i.other i.stands ∙ F.sender_base i.other m i.is;
    receiver_base = λ h m i. S.receiver_base h i.other i.stands ∙ F.receiver_base i.other m i.is;
    sent = λ h m payload buffer i o e.
        let x = S.sends h i.other payload buffer i.stands in
        let y = F.sent i.other m payload buffer i.is o (sym x.same_done ∙ e) in
        record {
          after = record { other = (E.send_chunk i.other payload buffer).after; stands = x.after; is = y.after };
          free = y.free;
          wrote = subst (λ (raw : List ℕ). DataBytes raw (record { number = next_number m; payload = payload })) (sym x.written) y.wrote;
        };
    not_sent = λ h m payload buffer i e.
        let x = S.sends h i.other payload buffer i.stands in
        sender_kept x (F.not_sent i.other m payload buffer i.is (sym x.same_done ∙ e));
    resent = λ h m t buffer i e.
        let x = S.times h i.other t buffer i.stands in
        let y = F.resent i.other m (S.timeout_as i.other t) buffer i.is (sym x.same_done ∙ e) in
        record {
          after = record { other = (E.handle_timeout i.other (S.timeout_as i.other t) buffer).after; stands = x.after; is = y.after };
          first = y.first;
          count = y.count;
          some = y.some;
          low = y.low;
          high = y.high;
          packets = y.packets;
          wrote = x.written ∙ y.wrote;
          each = y.each;
        };
    not_resent = λ h m t buffer i e.
        let x = S.times h i.other t buffer i.stands in
        sender_kept x (F.not_resent i.other m (S.timeout_as i.other t) buffer i.is (sym x.same_done ∙ e));
    acknowledged = λ h m raw n i a e.
        let x = S.acks h i.other raw i.stands in
        sender_kept x (F.acknowledged i.other m raw n i.is a (sym x.same_done ∙ e));
    ack_refused = λ h m raw i e.
        let x = S.acks h i.other raw i.stands in
        sender_kept x (F.ack_refused i.other m raw i.is (sym x.same_done ∙ e));
    ack_flipped = λ h m raw n j b i a f.
        sender_kept (S.acks h i.other (flip raw j b) i.stands) (F.ack_flipped i.other m raw n j b i.is a f);
    received = λ h m raw buffer q i d e.
        let x = S.packets h i.other raw buffer i.stands in
        let y = F.received i.other m raw buffer q i.is d (sym x.same_done ∙ e) in
        let now = (E.handle_packet i.other raw buffer).after in
        let delivered = flatten (receive p w m q).delivered in
        record {
          after = record { other = now; stands = x.after; is = y.after };
          output = S.output (G.handle_packet h raw buffer).after now x.after ∙ y.output ∙ ap (λ (l : List ℕ). l ++ delivered) (sym (S.output h i.other i.stands));
          unwritten = S.unwritten (G.handle_packet h raw buffer).after now x.after ∙ y.unwritten ∙ ap (drop (length delivered)) (sym (S.unwritten h i.other i.stands));
          replies = y.replies;
          wrote = x.written ∙ y.wrote;
          each = y.each;
        };
    packet_refused = λ h m raw buffer i e.
        let x = S.packets h i.other raw buffer i.stands in
        receiver_kept i.stands x (F.packet_refused i.other m raw buffer i.is (sym x.same_done ∙ e));
    packet_flipped = λ h m raw buffer q j b i d f.
        receiver_kept i.stands (S.packets h i.other (flip raw j b) buffer i.stands) (F.packet_flipped i.other m raw buffer q j b i.is d f);
  }

-- ---- a list of calls of the one is a list of the other's
module _ (G E : Ends) (S : Simulates G E) where
  abbrev pub call_as : E.Sender → Call G.Timeout → Call E.Timeout
  call_as s (send payload buffer) = send payload buffer
  call_as s (timeout t buffer) = timeout (S.timeout_as s t) buffer
  call_as s (to_receiver c buffer) = to_receiver c buffer
  call_as s (to_sender c) = to_sender c

  unfoldable pub calls_as : World E → List (Call G.Timeout) → List (Call E.Timeout)
  calls_as u [] = []
  calls_as u (c ∷ cs) = call_as u.sender c ∷ calls_as (step E u (call_as u.sender c)) cs

  pub record WorldAs (v : World G) (u : World E) : Type 0 where
    pub sender : S.SenderAs v.sender u.sender
    pub receiver : S.ReceiverAs v.receiver u.receiver
    pub sent : v.sent ≡ u.sent
    pub replies : v.replies ≡ u.replies

  joined : {a b : List (List ℕ)} {x y : List ℕ} → a ≡ b → x ≡ y → a ++ datagrams x ≡ b ++ datagrams y
  joined {a} {b} {x} {y} e f = ap (λ (l : List (List ℕ)). l ++ datagrams x) e ∙ ap (λ (l : List ℕ). b ++ datagrams l) f

  after_sender : {v : World G} {u : World E} {d : Done G.Sender} {e : Done E.Sender} → WorldAs v u → Does S.SenderAs d e → WorldAs (by_sender v d) (by_sender u e)
  after_sender x d = record { sender = d.after; receiver = x.receiver; sent = joined x.sent d.written; replies = x.replies }

  after_receiver : {v : World G} {u : World E} {d : Done G.Receiver} {e : Done E.Receiver} → WorldAs v u → Does S.ReceiverAs d e → WorldAs (by_receiver v d) (by_receiver u e)
  after_receiver x d = record { sender = x.sender; receiver = d.after; sent = x.sent; replies = joined x.replies d.written }

  -- a copy of what was made is the same copy
  pub packet_does : (v : World G) (u : World E) (c : Copy) (buffer : List ℕ) → WorldAs v u
      → Does S.ReceiverAs (G.handle_packet v.receiver (copy_bytes v.sent c) buffer) (E.handle_packet u.receiver (copy_bytes u.sent c) buffer)
  packet_does v u c buffer x =
      let raw = copy_bytes v.sent c in
      subst (λ (r : List ℕ). Does S.ReceiverAs (G.handle_packet v.receiver raw buffer) (E.handle_packet u.receiver r buffer)) (ap (λ (l : List (List ℕ)). copy_bytes l c) x.sent)
      (S.packets v.receiver u.receiver raw buffer x.receiver)

  pub ack_does : (v : World G) (u : World E) (c : Copy) → WorldAs v u → Does S.SenderAs (G.handle_ack v.sender (copy_bytes v.replies c)) (E.handle_ack u.sender (copy_bytes u.replies c))
  ack_does v u c x =
      let raw = copy_bytes v.replies c in
      subst (λ (r : List ℕ). Does S.SenderAs (G.handle_ack v.sender raw) (E.handle_ack u.sender r)) (ap (λ (l : List (List ℕ)). copy_bytes l c) x.replies)
      (S.acks v.sender u.sender raw x.sender)

  pub step_as : (v : World G) (u : World E) (c : Call G.Timeout) → WorldAs v u → WorldAs (step G v c) (step E u (call_as u.sender c))
  unfolding step
  step_as v u (send payload buffer) x = after_sender x (S.sends v.sender u.sender payload buffer x.sender)
  step_as v u (timeout t buffer) x = after_sender x (S.times v.sender u.sender t buffer x.sender)
  step_as v u (to_receiver c buffer) x = after_receiver x (packet_does v u c buffer x)
  step_as v u (to_sender c) x = after_sender x (ack_does v u c x)

  pub run_as : (v : World G) (u : World E) (cs : List (Call G.Timeout)) → WorldAs v u → WorldAs (run G v cs) (run E u (calls_as u cs))
  unfolding run calls_as
  run_as v u [] x = x
  run_as v u (c ∷ cs) x = run_as (step G v c) (step E u (call_as u.sender c)) cs (step_as v u c x)

  allowed_as : (v : World G) (u : World E) (c : Call G.Timeout) → WorldAs v u → Allowed v c → Allowed u (call_as u.sender c)
  allowed_as v u (send payload buffer) x a = a
  allowed_as v u (timeout t buffer) x a = tt
  allowed_as v u (to_receiver c buffer) x a = subst (λ (l : List (List ℕ)). IsCopy l c) x.sent a
  allowed_as v u (to_sender c) x a = subst (λ (l : List (List ℕ)). IsCopy l c) x.replies a

  pub admissible_as : (v : World G) (u : World E) (cs : List (Call G.Timeout)) → WorldAs v u → Admissible G v cs → Admissible E u (calls_as u cs)
  unfolding calls_as
  admissible_as v u [] x a = tt
  admissible_as v u (c ∷ cs) x a = (allowed_as v u c x a.0, admissible_as (step G v c) (step E u (call_as u.sender c)) cs (step_as v u c x) a.1)

  not_refused_as : (v : World G) (u : World E) (c : Call G.Timeout) → WorldAs v u → NotRefused E u (call_as u.sender c) → NotRefused G v c
  not_refused_as v u (send payload buffer) x n = (S.sends v.sender u.sender payload buffer x.sender).same_refused ∙ n
  not_refused_as v u (timeout t buffer) x n = (S.times v.sender u.sender t buffer x.sender).same_refused ∙ n
  not_refused_as v u (to_receiver c buffer) x n = λ e. (packet_does v u c buffer x).same_done ∙ n e
  not_refused_as v u (to_sender c) x n = λ e. (ack_does v u c x).same_done ∙ n e

  pub none_refused_as : (v : World G) (u : World E) (cs : List (Call G.Timeout)) → WorldAs v u → NoneRefused E u (calls_as u cs) → NoneRefused G v cs
  unfolding calls_as
  none_refused_as v u [] x n = tt
  none_refused_as v u (c ∷ cs) x n = (not_refused_as v u c x n.0, none_refused_as (step G v c) (step E u (call_as u.sender c)) cs (step_as v u c x) n.1)
