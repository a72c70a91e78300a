-- What holds of the parts of a run: its ends are those after a list of calls, the chunks sent are the file's first ones, and what waits on the lines are copies of what the ends made. Each call of an end keeps it.
use Prim.Native.Nat.{ℕ, ◌+◌, ◌*◌, ◌≤◌, ◌<◌}
use mathlib.Core.Path.{◌≡◌, refl, sym, ap, ◌∙◌, subst}
use mathlib.Core.Bool.{Bool, true, false, cond}
use mathlib.Core.List.{List, [], ◌∷◌, ◌++◌, append-nil}
use native.Mathlib.Omega.{arith}
use native.Mathlib.Numerals.{add-one}
use lib.ListN.{length, get_or, take, length-append, length-take, get_or-append}
use lib.Seq.{take-suc, get_or-append-add, get_or-take}
use borrow.Author.Tests.{le-ltb}
use Rattle.octets.specs.Octets.{Octets}
use Rattle.bounds.specs.Bounds.{header_size, slot_size}
use Rattle.protocol.specs.PlainMachine.{WindowFits}
use Rattle.protocol.specs.declared.ProtocolType.{ProtocolType}
use Rattle.protocol.specs.declared.ProtocolType.TheVariants.{StopAndWait, GoBackN, SelectiveRepeat}
use Rattle.protocol.proofs.Laws.{chunks_fed}
use Rattle.window.specs.State.{window_broken, store_short}
use Rattle.schedule.specs.Waiting.{All, of_none, of_more}
use Rattle.schedule.proofs.Laws.{all_weaker}
use Rattle.channel.specs.declared.ChannelConfig.{ChannelConfig}
use Rattle.delivery.specs.Calls.{Copy, whole, copy_bytes, IsCopy, send, timeout, to_receiver, to_sender, step, Allowed, number_of, fed_by}
use Rattle.delivery.specs.Ends.{ends, fresh_ends, ReceivingRoom}
use Rattle.delivery.proofs.Laws.{copy_stays, copy_bytes_lem}
use Rattle.chunks.proofs.Laws.{chunk_octets}
use Rattle.path.specs.Direction.{Direction}
use Rattle.path.specs.Path.{new_path}
use Rattle.path.proofs.Laws.{EachWaiting, each_weaker, new_each}
use Rattle.session.specs.declared.Timeout.{Timeout}
use Rattle.session.specs.Sending.{SenderEnd, slot_count, new_sender, send_chunk, handle_ack, ample_buffer, resent}
use Rattle.session.specs.Receiving.{ReceiverEnd, new_receiver, handle_packet}
use Rattle.session.specs.Ends.{sender_of, receiver_of, output_of, timeout_of}
use Rattle.session.proofs.Laws.{new_sender_is, new_receiver_is, sent_packets, replied_packets, SenderStep, send_step, timeout_step, ack_step, ReceiverStep, packet_step}
use Rattle.completion.specs.Flips.{packet_length}
use Rattle.completion.specs.Delivered.{sent_to}
use Rattle.completion.proofs.Reached.{Start, chunks_in, RunWorld, RunCall, MadeAs, start_world, Led, led_start, led_more, led_next, led_data}

-- ---- copies of datagrams that were made
-- whole, or with one bit flipped outside the length bytes
pub record CopyOf (made : List (List ℕ)) (raw : List ℕ) : Type 0 where
  pub copy : Copy
  pub allowed : IsCopy made copy
  pub is : copy_bytes made copy ≡ raw

pub record WholeOf (made : List (List ℕ)) (raw : List ℕ) : Type 0 where
  pub at : ℕ
  pub within : at < length made
  pub is : get_or made at [] ≡ raw

pub copy_of_more : (made more : List (List ℕ)) (raw : List ℕ) → CopyOf made raw → CopyOf (made ++ more) raw
copy_of_more made more raw c = record { copy = c.copy; allowed = copy_stays made more c.copy c.allowed; is = copy_bytes_lem made more c.copy c.allowed ∙ c.is }

pub whole_of_more : (made more : List (List ℕ)) (raw : List ℕ) → WholeOf made raw → WholeOf (made ++ more) raw
whole_of_more made more raw c = record { at = c.at; within = omega (arith, length-append made more, c.within); is = get_or-append made more [] c.at c.within ∙ c.is }

pub whole_of_new : (made more : List (List ℕ)) (raw : List ℕ) → WholeOf more raw → WholeOf (made ++ more) raw
whole_of_new made more raw c = record { at = length made + c.at; within = omega (arith, length-append made more, c.within); is = get_or-append-add made more c.at [] ∙ c.is }

pub whole_one : (raw : List ℕ) → WholeOf (raw ∷ []) raw
whole_one raw = record { at = 0; within = omega arith; is = refl }

-- ---- the first chunks
pub record FirstOf (chunks sent : List (List ℕ)) : Type 0 where
  pub is : sent ≡ take (length sent) chunks

pub first_few : {chunks sent : List (List ℕ)} → FirstOf chunks sent → length sent ≤ length chunks
first_few {chunks} {sent} f = let e = ap length f.is ∙ length-take (length sent) chunks in omega (arith, e)

pub first_at : {chunks sent : List (List ℕ)} → FirstOf chunks sent → (n : ℕ) → n < length sent → get_or sent n [] ≡ get_or chunks n []
first_at {chunks} {sent} f n h = ap (λ (l : List (List ℕ)). get_or l n []) f.is ∙ get_or-take (length sent) chunks n [] h

first_same : {chunks sent more : List (List ℕ)} → more ≡ [] → FirstOf chunks sent → FirstOf chunks (sent ++ more)
first_same {chunks} {sent} e f = rw (e, append-nil sent) f

first_next : {chunks sent : List (List ℕ)} (b : Bool) → length sent < length chunks → FirstOf chunks sent → FirstOf chunks (sent ++ cond b (get_or chunks (length sent) [] ∷ []) [])
first_next {chunks} {sent} true h f =
    record {
      is =
          ap (λ (l : List (List ℕ)). l ++ get_or chunks (length sent) [] ∷ []) f.is
          ∙ sym (take-suc chunks (length sent) [] h)
          ∙ ap (λ (n : ℕ). take n chunks) (sym (length-append sent (get_or chunks (length sent) [] ∷ []) ∙ add-one (length sent)));
    }
first_next {chunks} {sent} false h f = first_same refl f

-- ---- the invariant
-- what making asks is met, a chunk has a byte, and the file is bytes
pub record Begun (s : Start) : Type 0 where
  pub made : MadeAs s
  pub some : 0 < s.size
  pub octets : Octets s.file

-- of the two ends, the output and the two lines, in the world u
pub record FollowsIn (s : Start) (u : RunWorld s) (v : SenderEnd) (r : ReceiverEnd) (output : List ℕ) (forward reverse : Direction) : Type 0 where
  pub begun : Begun s
  pub sent : List (List ℕ)
  pub led : Led s u sent
  pub first : FirstOf (chunks_in s) sent
  pub sender : sender_of s.protocol u.sender ≡ v
  pub receiver : receiver_of s.protocol s.receiving u.receiver ≡ r
  pub output_is : output_of s.protocol u.receiver ≡ output
  pub forward_copies : EachWaiting (CopyOf u.sent) forward
  pub reverse_copies : EachWaiting (WholeOf u.replies) reverse

pub record Follows (s : Start) (v : SenderEnd) (r : ReceiverEnd) (output : List ℕ) (forward reverse : Direction) : Type 0 where
  pub world : RunWorld s
  pub holds : FollowsIn s world v r output forward reverse

none_either : (b : Bool) → ◌≡◌ {A = List (List ℕ)} (cond b [] []) []
none_either true = refl
none_either false = refl

module _ {s : Start} {u : RunWorld s} {v : SenderEnd} {r : ReceiverEnd} {output : List ℕ} {forward reverse : Direction} (f : FollowsIn s u v r output forward reverse) where
  -- the sender's next number is how many chunks were sent
  pub next_number_is : sent_to v ≡ length f.sent
  next_number_is = ap sent_to (sym f.sender) ∙ led_next f.begun.made f.led

  -- a datagram that was made is as long as its number says
  pub made_size : {wire : List ℕ} → WholeOf u.sent wire → length wire ≡ packet_length (chunks_in s) (number_of wire)
  made_size {wire} m =
      let d = led_data f.begun.made f.led m.at m.within in
      let e = d.size ∙ ap (λ (c : List ℕ). header_size + length c) (first_at f.first _ d.below) in
      subst (λ (x : List ℕ). length x ≡ packet_length (chunks_in s) (number_of x)) m.is e

  -- the lines may change, as long as what waits are copies
  pub on_lines : {forward' reverse' : Direction} → EachWaiting (CopyOf u.sent) forward' → EachWaiting (WholeOf u.replies) reverse' → FollowsIn s u v r output forward' reverse'
  on_lines a b = record { begun = f.begun; sent = f.sent; led = f.led; first = f.first; sender = f.sender; receiver = f.receiver; output_is = f.output_is; forward_copies = a; reverse_copies = b }

  -- ---- a call of the sender
  by_sender : (c : RunCall s) → Allowed u c → {after : SenderEnd} {made : List (List ℕ)} → SenderStep s.protocol u after made (step (ends s.protocol) u c)
      → FirstOf (chunks_in s) (f.sent ++ chunks_fed (fed_by (ends s.protocol) u c)) → FollowsIn s (step (ends s.protocol) u c) after r output forward reverse
  by_sender c h {after} {made} t first =
      record {
        begun = f.begun;
        sent = _;
        led = led_more f.led c h;
        first = first;
        sender = t.sender;
        receiver = ap (receiver_of s.protocol s.receiving) t.receiver ∙ f.receiver;
        output_is = ap (output_of s.protocol) t.receiver ∙ f.output_is;
        forward_copies = subst (λ (l : List (List ℕ)). EachWaiting (CopyOf l) forward) (sym t.sent) (each_weaker (copy_of_more u.sent made) f.forward_copies);
        reverse_copies = subst (λ (l : List (List ℕ)). EachWaiting (WholeOf l) reverse) (sym t.replies) f.reverse_copies;
      }

  -- the next chunk, into any buffer
  chunk_step : (payload out : List ℕ) → SenderStep s.protocol u (send_chunk v payload out).after (sent_packets (send_chunk v payload out)) (step (ends s.protocol) u (send payload out))
  chunk_step payload out =
      subst (λ (x : SenderEnd). SenderStep s.protocol u (send_chunk x payload out).after (sent_packets (send_chunk x payload out)) (step (ends s.protocol) u (send payload out))) f.sender (send_step s.protocol u payload out)

  abbrev pub next_chunk : List ℕ
  next_chunk = get_or (chunks_in s) (sent_to v) []

  pub chunk_follows : (out : List ℕ) → sent_to v < length (chunks_in s) → FollowsIn s (step (ends s.protocol) u (send next_chunk out)) (send_chunk v next_chunk out).after r output forward reverse
  unfolding fed_by
  chunk_follows out h =
      by_sender (send next_chunk out) (chunk_octets s.size (sent_to v) s.file f.begun.some h f.begun.octets) (chunk_step next_chunk out)
      (subst (λ (n : ℕ). FirstOf (chunks_in s) (f.sent ++ cond ((ends s.protocol).send_chunk u.sender next_chunk out).is_done (get_or (chunks_in s) n [] ∷ []) [])) (sym next_number_is) (first_next ((ends s.protocol).send_chunk u.sender next_chunk out).is_done (rw (← next_number_is) h) f.first))

  pub chunk_made : (out : List ℕ) → (step (ends s.protocol) u (send next_chunk out)).sent ≡ u.sent ++ sent_packets (send_chunk v next_chunk out)
  chunk_made out = (chunk_step next_chunk out).sent

  -- a timeout
  abbrev pub timeout_call : Timeout → RunCall s
  timeout_call t = timeout (timeout_of s.protocol u.sender t) (ample_buffer (sender_of s.protocol u.sender).sender)

  resend_step : (t : Timeout) → SenderStep s.protocol u (resent v t).after (resent v t).packets (step (ends s.protocol) u (timeout_call t))
  resend_step t = subst (λ (x : SenderEnd). SenderStep s.protocol u (resent x t).after (resent x t).packets (step (ends s.protocol) u (timeout_call t))) f.sender (timeout_step s.protocol u t)

  pub timeout_follows : (t : Timeout) → FollowsIn s (step (ends s.protocol) u (timeout_call t)) (resent v t).after r output forward reverse
  unfolding fed_by
  timeout_follows t = by_sender (timeout_call t) tt (resend_step t) (first_same (none_either (fed_by (ends s.protocol) u (timeout_call t)).effect) f.first)

  pub timeout_made : (t : Timeout) → (step (ends s.protocol) u (timeout_call t)).sent ≡ u.sent ++ (resent v t).packets
  timeout_made t = (resend_step t).sent

  -- an ACK
  pub ack_follows : {raw : List ℕ} → WholeOf u.replies raw → Follows s (handle_ack v raw).after r output forward reverse
  unfolding fed_by
  ack_follows {raw} m =
      let c : RunCall s = to_sender (whole m.at) in
      let t : SenderStep s.protocol u (handle_ack v raw).after [] (step (ends s.protocol) u c) = rw (← f.sender, ← m.is) (ack_step s.protocol u (whole m.at)) in
      record { world = step (ends s.protocol) u c; holds = by_sender c m.within t (first_same (none_either (fed_by (ends s.protocol) u c).effect) f.first) }

  -- ---- a call of the receiver: a copy and a buffer for the ACK
  module _ {raw : List ℕ} (m : CopyOf u.sent raw) (ack : List ℕ) where
    abbrev pub packet_call : RunCall s
    packet_call = to_receiver m.copy ack

    receive_step : ReceiverStep s.protocol s.receiving u (handle_packet r raw output ack).receiver (handle_packet r raw output ack).output (replied_packets (handle_packet r raw output ack)) (step (ends s.protocol) u packet_call)
    receive_step =
        subst (λ (x : List ℕ). ReceiverStep s.protocol s.receiving u (handle_packet r x output ack).receiver (handle_packet r x output ack).output (replied_packets (handle_packet r x output ack)) (step (ends s.protocol) u packet_call)) m.is
        (rw (← f.receiver, ← f.output_is) (packet_step s.protocol s.receiving u m.copy ack))

    pub packet_follows : FollowsIn s (step (ends s.protocol) u packet_call) v (handle_packet r raw output ack).receiver (handle_packet r raw output ack).output forward reverse
    unfolding fed_by
    packet_follows =
        let t = receive_step in
        record {
          begun = f.begun;
          sent = _;
          led = led_more f.led packet_call m.allowed;
          first = first_same (none_either (fed_by (ends s.protocol) u packet_call).effect) f.first;
          sender = ap (sender_of s.protocol) t.sender ∙ f.sender;
          receiver = t.receiver;
          output_is = t.output_is;
          forward_copies = subst (λ (l : List (List ℕ)). EachWaiting (CopyOf l) forward) (sym t.sent) f.forward_copies;
          reverse_copies = subst (λ (l : List (List ℕ)). EachWaiting (WholeOf l) reverse) (sym t.replies) (each_weaker (whole_of_more u.replies _) f.reverse_copies);
        }

    pub packet_replied : (step (ends s.protocol) u packet_call).replies ≡ u.replies ++ replied_packets (handle_packet r raw output ack)
    packet_replied = receive_step.replies

    pub packet_sent : (step (ends s.protocol) u packet_call).sent ≡ u.sent
    packet_sent = receive_step.sent

-- ---- the datagrams of a timeout are among those made
pub all_whole : (packets : List (List ℕ)) → All (WholeOf packets) packets
all_whole [] = of_none
all_whole (raw ∷ packets) = of_more (record { at = 0; within = omega arith; is = refl }) (all_weaker (whole_of_new (raw ∷ []) packets) (all_whole packets))

pub record TimedOut (s : Start) (v : SenderEnd) (r : ReceiverEnd) (output : List ℕ) (forward reverse : Direction) (t : Timeout) : Type 0 where
  pub world : RunWorld s
  pub holds : FollowsIn s world (resent v t).after r output forward reverse
  pub made : All (WholeOf world.sent) (resent v t).packets

pub timed_out : {s : Start} {v : SenderEnd} {r : ReceiverEnd} {output : List ℕ} {forward reverse : Direction} → Follows s v r output forward reverse → (t : Timeout) → TimedOut s v r output forward reverse t
timed_out {s} {v} f t =
    record {
      world = _;
      holds = timeout_follows f.holds t;
      made =
          subst (λ (l : List (List ℕ)). All (WholeOf l) (resent v t).packets) (sym (timeout_made f.holds t))
          (all_weaker (whole_of_new f.world.sent (resent v t).packets) (all_whole (resent v t).packets));
    }

-- ---- at the start
output_at : (p : ProtocolType) (w limit : ℕ) (sending receiving output : List ℕ) → output_of p (fresh_ends p w limit sending receiving output).receiver ≡ output
output_at StopAndWait w limit sending receiving output = refl
output_at GoBackN w limit sending receiving output = refl
output_at SelectiveRepeat w limit sending receiving output = refl

pub new_follows : {s : Start} → Begun s → (forward reverse : ChannelConfig) (frs rrs : List (List ℕ)) (fps rps : List ℕ)
    → Follows s (new_sender s.protocol s.window s.limit s.sending) (new_receiver s.protocol s.window s.receiving) s.output (new_path forward frs fps) (new_path reverse rrs rps)
new_follows {s} b forward reverse frs rrs fps rps =
    record {
      world = start_world s;
      holds = record {
        begun = b;
        sent = [];
        led = led_start s;
        first = record { is = refl };
        sender = new_sender_is s.protocol s.window s.limit s.sending s.receiving s.output;
        receiver = new_receiver_is s.protocol s.window s.limit s.sending s.receiving s.output;
        output_is = output_at s.protocol s.window s.limit s.sending s.receiving s.output;
        forward_copies = new_each forward frs fps;
        reverse_copies = new_each reverse rrs rps;
      };
    }

-- Stop-and-Wait's window is 1, whatever its setup names
pub window_fits : (p : ProtocolType) (w : ℕ) → WindowFits p (slot_count p w)
window_fits StopAndWait w = refl
window_fits GoBackN w = tt
window_fits SelectiveRepeat w = tt

receiving_fits : (p : ProtocolType) (w : ℕ) (store : List ℕ) → (p ≡ SelectiveRepeat → w * slot_size ≤ length store) → ReceivingRoom p (slot_count p w) store
unfolding store_short
receiving_fits StopAndWait w store h = tt
receiving_fits GoBackN w store h = tt
receiving_fits SelectiveRepeat w store h = le-ltb _ _ (h refl)

-- with room in both stores
pub new_begun : (p : ProtocolType) (w limit : ℕ) (sending receiving output : List ℕ) (size : ℕ) (file : List ℕ) → window_broken (slot_count p w) ≡ false → store_short sending (slot_count p w) ≡ false → (p ≡ SelectiveRepeat → w * slot_size ≤ length receiving)
    → Octets sending → 0 < size → Octets file → Begun (record { protocol = p; window = slot_count p w; limit = limit; sending = sending; receiving = receiving; output = output; size = size; file = file })
new_begun p w limit sending receiving output size file bounds room fits store some octets =
    record { made = record { in_bounds = bounds; window = window_fits p w; sending_room = room; receiving_room = receiving_fits p w receiving fits; octets = store }; some = some; octets = octets }

pub new_sender_slots : (p : ProtocolType) (w limit : ℕ) (store : List ℕ) → new_sender p (slot_count p w) limit store ≡ new_sender p w limit store
unfolding new_sender
new_sender_slots StopAndWait w limit store = refl
new_sender_slots GoBackN w limit store = refl
new_sender_slots SelectiveRepeat w limit store = refl

pub new_receiver_slots : (p : ProtocolType) (w : ℕ) (store : List ℕ) → new_receiver p (slot_count p w) store ≡ new_receiver p w store
unfolding new_receiver
new_receiver_slots StopAndWait w store = refl
new_receiver_slots GoBackN w store = refl
new_receiver_slots SelectiveRepeat w store = refl
