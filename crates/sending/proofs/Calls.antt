-- What the calls of `send_one` ask, what it leaves, and what is kept.
use Rattle.std.specs.Prelude.{Ok, Option, Some}
use Prim.Native.Nat.{ℕ, ◌+◌, ◌-◌, ◌≤◌, ◌<◌}
use native.Mathlib.Omega.{arith}
use native.Mathlib.Nat.{le_trans}
use mathlib.Core.Path.{◌≡◌, refl, sym, ap, ◌∙◌}
use mathlib.Core.Bool.{Bool, true, false, ◌&&◌, and-eq-true_iff}
use mathlib.Core.List.{List, [], ◌++◌}
use lib.Dec.{ltb, lit≤}
use lib.Ieee.{Float}
use lib.ListN.{length, get_or, take, drop, replicate, length-take, length-drop, length-append, length-replicate}
use lib.Seq.{length-take-le}
use borrow.Author.Tests.{ltb-true}
use Rattle.bounds.specs.Bounds.{header_size, max_payload, max_datagram, count_limit}
use Rattle.packet.specs.Format.{new_packet}
use Rattle.packet.specs.declared.PacketType.TheVariants.{Data}
use Rattle.packet.proofs.Laws.{made_length}
use Rattle.chunks.specs.Chunks.{chunks_of}
use Rattle.chunks.proofs.Laws.{chunk_length}
use Rattle.window.specs.State.{numbers_broken, outstanding}
use Rattle.window.specs.Slots.{first_datagram}
use Rattle.window.specs.Sending.{SendExit, send_exit}
use Rattle.window.proofs.Laws.{sound}
use Rattle.delivery.specs.Ends.{bytes_sent}
use Rattle.multi_timer.proofs.Laws.{Within}
use Rattle.clock.specs.Clock.{Submission}
use Rattle.clock.specs.declared.Timing.{Timing}
use Rattle.clock.proofs.Laws.{running}
use Rattle.session.specs.Sending.{SenderEnd, window_of, window_end, can_send, oldest_outstanding, send_chunk}
use Rattle.session.specs.GoodSender.{is_selective, CleanSender, GoodSender, CanSendChunk}
use Rattle.session.specs.declared.Sender.{Sender}
use Rattle.session.proofs.Laws.{good_can_send, good_numbers, send_good}
use Rattle.submission.specs.Submission.{SubmitExit, submit, CanSubmit}
use Rattle.submission.proofs.Laws.{can_submit, submit_good, submit_keeps, submit_within, submit_first_count}
use Rattle.sending.specs.Sending.{PumpState, pump_state, PumpExit, pump_exit, next_number, can_pump, submit_sent, send_one}
use Rattle.sending.specs.Good.{CanPump}
use Rattle.sending.proofs.Sends.{SentOne, sent_one, sent_same, written_same}

-- ---- numbers
before : {a b c d : ℕ} → a ≡ b → b < c → c ≤ d → a < d
before e h k = omega arith

far_below : {a b c d : ℕ} → a < b → b ≤ c → c ≤ d → a < d
far_below h k l = omega arith

same_left : (a b c n : ℕ) → n < c → a + (c - n) < b → (a + 1) + (c - (n + 1)) < b
same_left a b c n h k = omega arith

counted_low : (a b c : ℕ) → a + b < c → c - 1 < c
counted_low a b c h = omega arith

-- the counters below their limit l
good_low : (v : SenderEnd) (l n : ℕ) → CleanSender v → (window_of v.sender).total_sent + n < l → (window_of v.sender).retransmissions < l → GoodSender v (l - 1)
good_low v l n e a b = record { state = e; sent = omega arith; again = omega arith }

pub as_long : {m n : ℕ} → m ≡ n → n ≤ m
as_long e = omega arith

pub ample : max_datagram ≤ length {A = ℕ} (replicate max_datagram 0)
ample = as_long (length-replicate {A = ℕ} max_datagram 0)

-- a buffer whose start was lent is as long as before
pub relent_length : {payload chunk : List ℕ} → payload ≡ chunk → (w x v : List ℕ) → length x ≡ length (take (header_size + length payload) w) → length w ≡ length v → length (x ++ drop (header_size + length payload) w) ≡ length v
relent_length {payload} p w x v e f =
    let n = header_size + length payload in
    let a = length-append x (drop n w) in
    let b = length-take n w in
    let d = length-drop n w in
    omega (arith, a, b, d, e, f)

take_short : (n m : ℕ) (xs : List ℕ) → n ≤ m → length (take n xs) ≤ m
take_short n m xs h = let e = length-take n xs in omega (arith, e, h)

module _ {t : Timing} {rolls : List Float} {size : ℕ} {file : List ℕ} {total rto now : ℕ} {s : PumpState} (can : CanPump t rolls size file total rto now s) where
  good_sender : GoodSender s.sender (count_limit - 1)
  good_sender = good_low s.sender count_limit (total - next_number s) can.good.sender can.good.sent can.good.again

  pub state_numbers : numbers_broken (window_of s.sender.sender) ≡ false
  state_numbers = good_numbers good_sender

module _ {t : Timing} {rolls : List Float} {size : ℕ} {file : List ℕ} {total rto now : ℕ} {s : PumpState} (can : CanPump t rolls size file total rto now s) (free : can_pump total s.sender.sender ≡ true) where
  window_free : can_send s.sender.sender ≡ true
  window_free = ((and-eq-true_iff (can_send s.sender.sender) (ltb (next_number s) total)).0 free).0

  pub number_left : next_number s < total
  number_left = ltb-true (next_number s) total ((and-eq-true_iff (can_send s.sender.sender) (ltb (next_number s) total)).0 free).1

  module _ {seq : ℕ} (e : seq ≡ next_number s) where
    pub chunk_left : seq < length (chunks_of size file)
    chunk_left = let w = can.whole in before e number_left (omega (arith, w))

    module _ {payload : List ℕ} (p : payload ≡ get_or (chunks_of size file) seq []) where
      pub payload_short : length payload ≤ max_payload
      payload_short = rw p (le_trans (chunk_length size seq file can.some chunk_left) can.short)

      pub datagram_short : header_size + length payload ≤ max_datagram
      datagram_short = let h = payload_short in omega (arith, h)

      pub can_send_chunk : (out : List ℕ) → max_datagram ≤ length out → CanSendChunk s.sender payload out
      can_send_chunk out room =
          good_can_send (good_sender can) payload out (counted_low (window_of s.sender.sender).total_sent (total - next_number s) count_limit can.good.sent) window_free (far_below number_left can.good.few (lit≤ tt)) payload_short (le_trans datagram_short room)

      module _ (out : List ℕ) (room : max_datagram ≤ length out) {x : SendExit SenderEnd} (f : x ≡ send_chunk s.sender payload out) where
        pub sent_numbers : numbers_broken (window_of x.after.sender) ≡ false
        sent_numbers = rw f (good_numbers (send_good s.sender payload out (count_limit - 1) (can_send_chunk out room) (good_sender can)))

    -- the number's datagram can be submitted
    window_ordered : (window_of s.sender.sender).send_base ≤ next_number s
    window_ordered = (sound (is_selective s.sender.sender.state) (window_of s.sender.sender) s.sender.store can.good.sender.state).ordered

    window_next : Within (window_of s.sender.sender).send_base (next_number s + 1) (running s.outgoing.clock)
    window_next = record { bounds = λ key h. let b = can.good.timers key h in (b.0, omega (arith, b.1)) }

    pub can_submit_sent : (oldest : Option ℕ) (wire : List ℕ) → length wire ≤ max_datagram → CanSubmit t rolls (record { time = now; seq = seq; rto = rto; retransmission = false; oldest = oldest }) wire s.outgoing
    can_submit_sent oldest wire short =
        can_submit rolls (record { time = now; seq = seq; rto = rto; retransmission = false; oldest = oldest }) wire s.outgoing t can.good.outgoing short can.good.timeout (before e number_left can.good.rows) window_next
        (let o = window_ordered in omega (arith, o, e)) (omega (arith, e)) (λ k. le_trans in_window (can.good.entries k))
      where
        in_window : (next_number s + 1) - (window_of s.sender.sender).send_base ≤ (window_of s.sender.sender).window_size
        in_window = let f = ltb-true (outstanding (window_of s.sender.sender)) (window_of s.sender.sender).window_size window_free in omega (arith, f)

    module _ {payload : List ℕ} (p : payload ≡ get_or (chunks_of size file) seq []) (out : List ℕ) (k : length out ≡ max_datagram) where
      pub wire_fits : header_size + length payload ≤ length out
      wire_fits = rw k (datagram_short p)

      pub wire_cut : length (take (header_size + length payload) out) ≡ header_size + length payload
      wire_cut = length-take-le (header_size + length payload) out wire_fits

    pub wire_short : (payload out : List ℕ) → payload ≡ get_or (chunks_of size file) seq [] → length (take (header_size + length payload) out) ≤ max_datagram
    wire_short payload out p = take_short (header_size + length payload) max_datagram out (datagram_short p)

-- ---- the tests of `can_pump_unchecked`
module _ (total : ℕ) (s : Sender) {b : Bool} (e : b ≡ can_send s) where
  pub pump_test : {n : ℕ} → b ≡ true → n ≡ (window_of s).next_seq_num → ltb n total ≡ can_pump total s
  pump_test f g = ap (λ (k : ℕ). ltb k total) g ∙ ap (λ (c : Bool). c && ltb (window_of s).next_seq_num total) (sym f ∙ e)

  pub pump_full : b ≡ false → false ≡ can_pump total s
  pump_full f = ap (λ (c : Bool). c && ltb (window_of s).next_seq_num total) (sym f ∙ e)

-- ---- the return
module _ (t : Timing) (rolls : List Float) (chunks : List (List ℕ)) (rto now : ℕ) (s : PumpState) where
  -- what is submitted does not depend on what the buffer held
  abbrev submitted : ℕ → SenderEnd → List ℕ → PumpExit
  submitted seq after bytes =
      let y = submit t rolls (record { time = now; seq = seq; rto = rto; retransmission = false; oldest = oldest_outstanding after.sender }) bytes s.outgoing in
      pump_exit (pump_state after y.outgoing) true y.stop

  anywhere : (seq : ℕ) (payload a b : List ℕ) → CanSendChunk s.sender payload a → CanSendChunk s.sender payload b
      → submit_sent t rolls rto now seq s.outgoing (send_chunk s.sender payload a) ≡ submit_sent t rolls rto now seq s.outgoing (send_chunk s.sender payload b)
  anywhere seq payload a b h k =
      ap (λ (v : SenderEnd). submitted seq v (bytes_sent (send_chunk s.sender payload a).answer (send_chunk s.sender payload a).out)) (sent_same payload a b s.sender h k)
      ∙ ap (submitted seq (send_chunk s.sender payload b).after) (written_same s.sender payload a b h k)

  pub sends_one : {seq : ℕ} {payload old out wire : List ℕ} {after : SenderEnd} {oldest : Option ℕ} {y : SubmitExit} → seq ≡ next_number s → payload ≡ get_or chunks seq []
      → CanSendChunk s.sender payload old → CanSendChunk s.sender payload (replicate max_datagram 0)
      → send_exit (Ok (Some (header_size + length payload))) after out ≡ send_chunk s.sender payload old → oldest ≡ oldest_outstanding after.sender
      → wire ≡ take (header_size + length payload) out → y ≡ submit t rolls (record { time = now; seq = seq; rto = rto; retransmission = false; oldest = oldest }) wire s.outgoing
      → pump_exit (pump_state after y.outgoing) true y.stop ≡ send_one t rolls chunks rto now s
  unfolding send_one
  sends_one {seq} {payload} {old} {out} {wire} {after} {oldest} {y} e p h k f o w g =
      ap (λ (z : SubmitExit). pump_exit (pump_state after z.outgoing) true z.stop) (g ∙ rw (o, w))
      ∙ ap (submit_sent t rolls rto now seq s.outgoing) f
      ∙ anywhere seq payload old (replicate max_datagram 0) h k
      ∙ ap (λ (l : List ℕ). submit_sent t rolls rto now seq s.outgoing (send_chunk s.sender l (replicate max_datagram 0))) p
      ∙ ap (λ (n : ℕ). submit_sent t rolls rto now n s.outgoing (send_chunk s.sender (get_or chunks n []) (replicate max_datagram 0))) e

-- ---- what is kept
module _ {t : Timing} {rolls : List Float} {size : ℕ} {file : List ℕ} {total rto now : ℕ} {s : PumpState} (can : CanPump t rolls size file total rto now s) (free : can_pump total s.sender.sender ≡ true) where
  abbrev pub chunk : List ℕ
  chunk = get_or (chunks_of size file) (next_number s) []

  abbrev pub blank : List ℕ
  blank = replicate max_datagram 0

  pub can_send_lem : CanSendChunk s.sender chunk blank
  can_send_lem = can_send_chunk can free refl refl blank ample

  pub sent_next : SentOne s.sender chunk (window_of (send_chunk s.sender chunk blank).after.sender) (bytes_sent (send_chunk s.sender chunk blank).answer (send_chunk s.sender chunk blank).out)
  sent_next = sent_one s.sender chunk blank can_send_lem

  abbrev pub given : Submission
  given = record { time = now; seq = next_number s; rto = rto; retransmission = false; oldest = oldest_outstanding (send_chunk s.sender chunk blank).after.sender }

  abbrev pub written : List ℕ
  written = bytes_sent (send_chunk s.sender chunk blank).answer (send_chunk s.sender chunk blank).out

  written_short : length written ≤ max_datagram
  written_short =
      let n = ap length sent_next.bytes ∙ made_length (new_packet (next_number s) Data) chunk in
      let h = datagram_short can free refl refl in
      omega (arith, n, h)

  pub can_submit_next : CanSubmit t rolls given written s.outgoing
  can_submit_next = can_submit_sent can free refl given.oldest written written_short

  -- the next number is one more
  pub next_grows : next_number (send_one t rolls (chunks_of size file) rto now s).state ≡ next_number s + 1
  unfolding send_one
  next_grows = sent_next.next

  pub send_keeps : CanPump t rolls size file total rto now (send_one t rolls (chunks_of size file) rto now s).state
  unfolding send_one
  send_keeps =
      let k = submit_keeps t rolls given written s.outgoing can_submit_next in
      let w = sent_next in
      record {
        good = record {
          outgoing = submit_good t rolls given written s.outgoing can_submit_next;
          sender = (send_good s.sender chunk blank (count_limit - 1) can_send_lem (good_sender can)).state;
          sent = rw (w.count, w.next) (same_left (window_of s.sender.sender).total_sent count_limit total (next_number s) (number_left can free) can.good.sent);
          again = rw w.again can.good.again;
          few = can.good.few;
          rows = rw k.rows can.good.rows;
          timeout = can.good.timeout;
          timers = λ key h. rw (w.base, w.next) (within.bounds key h);
          entries = λ e. rw (w.size, k.keys) (can.good.entries e);
        };
        some = can.some;
        short = can.short;
        whole = can.whole;
      }
    where
      within : Within (window_of s.sender.sender).send_base (next_number s + 1) (running (submit t rolls given written s.outgoing).outgoing.clock)
      within = submit_within rolls given written s.outgoing t can_submit_next (window_ordered can free refl) (omega arith) (window_next can free refl)

  -- where each number below the next has its note, so it is after it
  pub notes_grow : s.outgoing.metas.notes.count ≡ next_number s → (send_one t rolls (chunks_of size file) rto now s).state.outgoing.metas.notes.count ≡ next_number (send_one t rolls (chunks_of size file) rto now s).state
  unfolding send_one
  notes_grow e = submit_first_count t rolls given written s.outgoing refl (sym e) ∙ sym sent_next.next

  -- the number's datagram is submitted
  pub send_is : send_one t rolls (chunks_of size file) rto now s
      ≡ pump_exit (pump_state (send_chunk s.sender chunk blank).after (submit t rolls given (first_datagram (window_end s.sender) chunk) s.outgoing).outgoing) true (submit t rolls given (first_datagram (window_end s.sender) chunk) s.outgoing).stop
  unfolding send_one
  send_is = ap (λ (wire : List ℕ). pump_exit (pump_state (send_chunk s.sender chunk blank).after (submit t rolls given wire s.outgoing).outgoing) true (submit t rolls given wire s.outgoing).stop) sent_next.bytes
