-- Ends that follow the machine, call by call, follow it over every list of calls.
use Prim.Native.Nat.{ℕ, zero, suc, ◌+◌, ◌-◌, ◌<◌}
use mathlib.Core.Path.{◌≡◌, refl, sym, ap, ap₂, ◌∙◌}
use mathlib.Core.List.{List, [], ◌∷◌, ◌++◌, map, append-nil, flatten}
use mathlib.Core.Bool.{Bool, true, false}
use lib.ListN.{length, get_or, drop, length-append}
use lib.Seq.{drop-drop}
use native.Mathlib.Omega.{arith}
use Rattle.octets.specs.Octets.{Octets}
use Rattle.octets.specs.Flip.{flip}
use Rattle.protocol.specs.declared.ProtocolType.{ProtocolType}
use Rattle.protocol.specs.PlainMachine as plain
use Rattle.protocol.specs.Machine.{Segment, SenderState, segment_at, segments_from}
use Rattle.protocol.specs.Trace as trace
use Rattle.protocol.specs.Trace.{Event, call_of}
use Rattle.delivery.specs.Calls.{whole, flipped, IsCopy, Call, send, timeout, to_receiver, to_sender, Done, Ends, World, datagrams, by_sender, by_receiver, step, run, Allowed, Admissible, number_of, fed_by, fed_in}
use Rattle.delivery.specs.KuroseRoss.{event_by}
use Rattle.delivery.proofs.Datagrams.{DataBytes, AckBytes, Each, each_append, each_at, each_length, datagrams_flatten, data_framed, acks_framed, data_number, data_segment, ack_number, count_from}
use Rattle.refinement.proofs.Laws.{flatten_append}
use Rattle.delivery.proofs.Follow.{SenderKept, ReceiverKept, SentAgain, Follow}

-- datagrams written end to end, added to those made before
pub data_added : (sent : List (List ℕ)) (qs : List Segment) (written : List ℕ) (packets : List (List ℕ)) (more : List Segment)
    → Each DataBytes sent qs → written ≡ flatten packets → Each DataBytes packets more → Each DataBytes (sent ++ datagrams written) (qs ++ more)
data_added sent qs written packets more h e k =
    rw (e, datagrams_flatten packets (data_framed packets more k)) (each_append DataBytes sent qs packets more h k)

pub acks_added : (replies : List (List ℕ)) (ns : List ℕ) (written : List ℕ) (packets : List (List ℕ)) (more : List ℕ)
    → Each AckBytes replies ns → written ≡ flatten packets → Each AckBytes packets more → Each AckBytes (replies ++ datagrams written) (ns ++ more)
acks_added replies ns written packets more h e k =
    rw (e, datagrams_flatten packets (acks_framed packets more k)) (each_append AckBytes replies ns packets more h k)

pub none_added : (sent : List (List ℕ)) (written : List ℕ) → written ≡ [] → sent ++ datagrams written ≡ sent
unfolding datagrams
none_added sent written e = rw e (append-nil sent)

-- behind what is delivered
behind : (delivered more : List (List ℕ)) (rest : List ℕ) → drop (length (flatten more)) (drop (length (flatten delivered)) rest) ≡ drop (length (flatten (delivered ++ more))) rest
behind delivered more rest =
    drop-drop (length (flatten more)) (length (flatten delivered)) rest
    ∙ ap (λ (n : ℕ). drop n rest) (sym (length-append (flatten delivered) (flatten more)) ∙ ap length (sym (flatten_append delivered more)))

-- datagrams sent again, by the number of the first and how many they are
again_is : (s : SenderState) (written : List ℕ) (n k : ℕ) (packets : List (List ℕ)) → 0 < k → written ≡ flatten packets → Each DataBytes packets (segments_from s n k)
    → trace.resent n k ≡ trace.resent (number_of (get_or (datagrams written) 0 [])) (length (datagrams written))
unfolding segments_from
again_is s written n zero packets l e h = absurd (omega arith)
again_is s written n (suc k) [] l e h = absurd h
again_is s written n (suc k) (raw ∷ raws) l e h =
    let made : datagrams written ≡ raw ∷ raws = rw e (datagrams_flatten (raw ∷ raws) (data_framed (raw ∷ raws) (segments_from s n (suc k)) h)) in
    let first : number_of (get_or (datagrams written) 0 []) ≡ n = ap (λ (l : List (List ℕ)). number_of (get_or l 0 [])) made ∙ data_number raw (segment_at s n) h.0 in
    let count : length (datagrams written) ≡ suc k = ap length made ∙ each_length DataBytes (raw ∷ raws) (segments_from s n (suc k)) h ∙ count_from s n (suc k) in
    ap₂ trace.resent (sym first) (sym count)

-- rest: the output behind its fill mark at the start
module _ (p : ProtocolType) (w : ℕ) (E : Ends) (F : Follow p w E) (rest : List ℕ) where
  -- a world of bytes, and one of numbers and chunks
  pub record Follows (v : World E) (m : trace.World) : Type 0 where
    pub sender : F.SenderIs v.sender m.sender
    pub receiver : F.ReceiverIs v.receiver m.receiver
    pub sent : Each DataBytes v.sent m.segments
    pub replies : Each AckBytes v.replies m.acks
    pub output : E.output v.receiver ≡ flatten m.delivered
    pub unwritten : E.unwritten v.receiver ≡ drop (length (flatten m.delivered)) rest

  -- a call as an event
  pub record Stepped (v : World E) (m : trace.World) (c : Call E.Timeout) : Type 0 where
    pub event : Event
    pub allowed : trace.Allowed w m event
    pub event_is : event ≡ event_by E v c
    pub same_fed : call_of event ≡ fed_by E v c
    pub follows : Follows (step E v c) (trace.step p w m event)

  module _ (v : World E) (m : trace.World) (f : Follows v m) where
    pub sender_kept : (d : Done E.Sender) → SenderKept E F.SenderIs d m.sender → Follows (by_sender v d) m
    sender_kept d k =
        rw (none_added v.sent d.written k.nothing)
        record { sender = k.after; receiver = f.receiver; sent = f.sent; replies = f.replies; output = f.output; unwritten = f.unwritten }

    receiver_kept : (d : Done E.Receiver) → ReceiverKept E F.ReceiverIs v.receiver d m.receiver → Follows (by_receiver v d) m
    receiver_kept d k =
        rw (none_added v.replies d.written k.nothing)
        record { sender = f.sender; receiver = k.after; sent = f.sent; replies = f.replies; output = k.output ∙ f.output; unwritten = k.unwritten ∙ f.unwritten }

    -- a chunk to send
    pub chunk_sent : (payload buffer : List ℕ) → Octets payload → (E.send_chunk v.sender payload buffer).is_done ≡ true
        → Follows (by_sender v (E.send_chunk v.sender payload buffer)) (trace.step p w m (trace.sent payload))
    unfolding trace.step flatten
    chunk_sent payload buffer o e =
        let k = F.sent v.sender m.sender payload buffer f.sender o e in
        record {
          sender = k.after;
          receiver = f.receiver;
          sent = data_added v.sent m.segments _ ((E.send_chunk v.sender payload buffer).written ∷ []) _ f.sent (sym (append-nil _)) (k.wrote, tt);
          replies = f.replies;
          output = f.output;
          unwritten = f.unwritten;
        }

    step_send : (payload buffer : List ℕ) → Octets payload → (b : Bool) → (E.send_chunk v.sender payload buffer).is_done ≡ b → Stepped v m (send payload buffer)
    unfolding step fed_by event_by trace.step
    step_send payload buffer o true e =
        let k = F.sent v.sender m.sender payload buffer f.sender o e in
        record { event = trace.sent payload; allowed = k.free; event_is = rw e refl; same_fed = rw e refl; follows = chunk_sent payload buffer o e }
    step_send payload buffer o false e =
        record {
          event = trace.other (plain.send_chunk payload);
          allowed = tt;
          event_is = rw e refl;
          same_fed = rw e refl;
          follows = sender_kept (E.send_chunk v.sender payload buffer) (F.not_sent v.sender m.sender payload buffer f.sender e);
        }

    -- a timeout
    pub sent_again_lem : (t : E.Timeout) (buffer : List ℕ) (k : SentAgain E F.SenderIs (E.handle_timeout v.sender t buffer) m.sender)
        → Follows (by_sender v (E.handle_timeout v.sender t buffer)) (trace.step p w m (trace.resent k.first k.count))
    unfolding trace.step
    sent_again_lem t buffer k =
        record {
          sender = k.after;
          receiver = f.receiver;
          sent = data_added v.sent m.segments _ k.packets _ f.sent k.wrote k.each;
          replies = f.replies;
          output = f.output;
          unwritten = f.unwritten;
        }

    step_timeout : (t : E.Timeout) (buffer : List ℕ) → (b : Bool) → (E.handle_timeout v.sender t buffer).is_done ≡ b → Stepped v m (timeout t buffer)
    unfolding step fed_by event_by trace.step
    step_timeout t buffer true e =
        let k = F.resent v.sender m.sender t buffer f.sender e in
        record { event = trace.resent k.first k.count; allowed = (k.low, k.high); event_is = rw e (again_is m.sender _ k.first k.count k.packets k.some k.wrote k.each); same_fed = rw e refl; follows = sent_again_lem t buffer k }
    step_timeout t buffer false e =
        record {
          event = trace.other plain.handle_timeout;
          allowed = tt;
          event_is = rw e refl;
          same_fed = rw e refl;
          follows = sender_kept (E.handle_timeout v.sender t buffer) (F.not_resent v.sender m.sender t buffer f.sender e);
        }

    -- a datagram to the receiver
    pub packet_taken : (raw buffer : List ℕ) (q : Segment) → DataBytes raw q → (E.handle_packet v.receiver raw buffer).is_done ≡ true
        → Follows (by_receiver v (E.handle_packet v.receiver raw buffer)) (trace.step p w m (trace.received q))
    unfolding trace.step
    packet_taken raw buffer q d e =
        let k = F.received v.receiver m.receiver raw buffer q f.receiver d e in
        record {
          sender = f.sender;
          receiver = k.after;
          sent = f.sent;
          replies = acks_added v.replies m.acks _ k.replies _ f.replies k.wrote k.each;
          output = k.output ∙ rw f.output (sym (flatten_append m.delivered _));
          unwritten = k.unwritten ∙ rw f.unwritten (behind m.delivered _ rest);
        }

    step_packet : (i : ℕ) (buffer : List ℕ) → i < length v.sent → (b : Bool) → (E.handle_packet v.receiver (get_or v.sent i []) buffer).is_done ≡ b → Stepped v m (to_receiver (whole i) buffer)
    unfolding step fed_by event_by trace.step
    step_packet i buffer h true e =
        let q = each_at DataBytes [] v.sent m.segments i f.sent h in
        record {
          event = trace.received q.other;
          allowed = q.member;
          event_is = rw (e, data_segment _ q.other q.belongs) refl;
          same_fed = rw (e, data_number _ q.other q.belongs) refl;
          follows = packet_taken (get_or v.sent i []) buffer q.other q.belongs e;
        }
    step_packet i buffer h false e =
        record {
          event = trace.other (plain.handle_data (number_of (get_or v.sent i [])));
          allowed = tt;
          event_is = rw e refl;
          same_fed = rw e refl;
          follows = receiver_kept (E.handle_packet v.receiver (get_or v.sent i []) buffer) (F.packet_refused v.receiver m.receiver (get_or v.sent i []) buffer f.receiver e);
        }

    step_packet_flipped : (i j b : ℕ) (buffer : List ℕ) → IsCopy v.sent (flipped i j b) → Stepped v m (to_receiver (flipped i j b) buffer)
    unfolding step fed_by event_by trace.step
    step_packet_flipped i j b buffer h =
        let q = each_at DataBytes [] v.sent m.segments i f.sent h.0 in
        record {
          event = trace.other (plain.handle_data (number_of (flip (get_or v.sent i []) j b)));
          allowed = tt;
          event_is = refl;
          same_fed = refl;
          follows =
              receiver_kept (E.handle_packet v.receiver (flip (get_or v.sent i []) j b) buffer)
              (F.packet_flipped v.receiver m.receiver (get_or v.sent i []) buffer q.other j b f.receiver q.belongs (record { within = h.1; bit = h.2; not_6 = h.3; not_7 = h.4 }));
        }

    -- a datagram to the sender
    pub ack_taken : (raw : List ℕ) (n : ℕ) → AckBytes raw n → (E.handle_ack v.sender raw).is_done ≡ true
        → Follows (by_sender v (E.handle_ack v.sender raw)) (trace.step p w m (trace.acknowledged n))
    unfolding trace.step
    ack_taken raw n d e =
        let k = F.acknowledged v.sender m.sender raw n f.sender d e in
        rw (none_added v.sent (E.handle_ack v.sender raw).written k.nothing)
        record { sender = k.after; receiver = f.receiver; sent = f.sent; replies = f.replies; output = f.output; unwritten = f.unwritten }

    step_ack : (i : ℕ) → i < length v.replies → (b : Bool) → (E.handle_ack v.sender (get_or v.replies i [])).is_done ≡ b → Stepped v m (to_sender (whole i))
    unfolding step fed_by event_by trace.step
    step_ack i h true e =
        let q = each_at AckBytes [] v.replies m.acks i f.replies h in
        record {
          event = trace.acknowledged q.other;
          allowed = q.member;
          event_is = rw (e, ack_number _ q.other q.belongs) refl;
          same_fed = rw (e, ack_number _ q.other q.belongs) refl;
          follows = ack_taken (get_or v.replies i []) q.other q.belongs e;
        }
    step_ack i h false e =
        record {
          event = trace.other (plain.handle_ack (number_of (get_or v.replies i [])));
          allowed = tt;
          event_is = rw e refl;
          same_fed = rw e refl;
          follows = sender_kept (E.handle_ack v.sender (get_or v.replies i [])) (F.ack_refused v.sender m.sender (get_or v.replies i []) f.sender e);
        }

    step_ack_flipped : (i j b : ℕ) → IsCopy v.replies (flipped i j b) → Stepped v m (to_sender (flipped i j b))
    unfolding step fed_by event_by trace.step
    step_ack_flipped i j b h =
        let q = each_at AckBytes [] v.replies m.acks i f.replies h.0 in
        record {
          event = trace.other (plain.handle_ack (number_of (flip (get_or v.replies i []) j b)));
          allowed = tt;
          event_is = refl;
          same_fed = refl;
          follows =
              sender_kept (E.handle_ack v.sender (flip (get_or v.replies i []) j b))
              (F.ack_flipped v.sender m.sender (get_or v.replies i []) q.other j b f.sender q.belongs (record { within = h.1; bit = h.2; not_6 = h.3; not_7 = h.4 }));
        }

    -- any call
    pub one_step : (c : Call E.Timeout) → Allowed v c → Stepped v m c
    one_step (send payload buffer) h = step_send payload buffer h _ refl
    one_step (timeout t buffer) h = step_timeout t buffer _ refl
    one_step (to_receiver (whole i) buffer) h = step_packet i buffer h _ refl
    one_step (to_receiver (flipped i j b) buffer) h = step_packet_flipped i j b buffer h
    one_step (to_sender (whole i)) h = step_ack i h _ refl
    one_step (to_sender (flipped i j b)) h = step_ack_flipped i j b h

  -- a list of calls as a list of events
  pub record Followed (v : World E) (m : trace.World) (cs : List (Call E.Timeout)) : Type 0 where
    pub events : List Event
    pub fair : trace.Admissible p w m events
    pub same_fed : map call_of events ≡ fed_in E v cs
    pub follows : Follows (run E v cs) (trace.run p w m events)

  pub every_list : (v : World E) (m : trace.World) → Follows v m → (cs : List (Call E.Timeout)) → Admissible E v cs → Followed v m cs
  unfolding run fed_in trace.run
  every_list v m f [] l = record { events = []; fair = tt; same_fed = refl; follows = f }
  every_list v m f (c ∷ cs) l =
      let one = one_step v m f c l.0 in
      let rest = every_list (step E v c) (trace.step p w m one.event) one.follows cs l.1 in
      record {
        events = one.event ∷ rest.events;
        fair = (one.allowed, rest.fair);
        same_fed = rw (one.same_fed, rest.same_fed) refl;
        follows = rest.follows;
      }
