-- A datagram given to a receiver: read first, and then received by what it was read as.
use Rattle.std.specs.Prelude.{Err, Ok, Option, Result}
use Prim.Native.Nat.{ℕ, ◌≤◌, ◌<◌}
use mathlib.Core.Path.{◌≡◌, refl, sym, ap, ◌∙◌}
use mathlib.Core.Bool.{Bool, true, false, cond, ◌&&◌}
use mathlib.Core.List.{List, ◌∷◌, ◌++◌}
use native.Mathlib.Omega.{arith}
use borrow.Author.Tests.{leb-false}
use lib.ListN.{length}
use lib.Dec.{leb}
use Rattle.bounds.specs.Bounds.{max_payload, seq_num_limit}
use Rattle.refusal.specs.declared.Refusal.{Refusal}
use Rattle.refusal.specs.declared.Refusal.TheVariants.{State, Counts, Numbers, Full}
use Rattle.refusal.specs.Refusal.{entry_of}
use Rattle.refusal.specs.Order.{Check, check, verdict, decide, order, held_checks}
use Rattle.refusal.proofs.Laws.{NoneTrue, decided, true_check, none_true_accepted, precedes_in, skip_later, held_state, held_counts, held_none, on_accepted, on_refused}
use Rattle.packet.specs.Reading.{payload_of, read_datagram, reading_checks}
use Rattle.packet.specs.declared.Packet.{Packet}
use Rattle.packet.specs.declared.PacketType.{PacketType}
use Rattle.packet.specs.declared.PacketType.TheVariants as packetType
use Rattle.packet.specs.declared.DatagramReading.{DatagramReading}
use Rattle.packet.specs.declared.DatagramReading.TheVariants as datagram
use Rattle.packet.proofs.Laws.{reading_after, reading_before, Taken, taken_short, valid_taken, corrupted_taken}
use Rattle.receiver.specs.Reading.{by_type, is_data, is_number_high, number_high, packet_reading, reading_of, read_packet, reading_answer, read_after, read_held}
use Rattle.receiver.specs.Reply.{room_missing, answer_of, is_refused, applied, apply_exit}
use Rattle.receiver.specs.Receive.{ReceiveExit, receive_exit, apply_result, apply, Reception, no_room, refused_exit, received_exit, receive_checks, receive, receive_unchecked}
use Rattle.receiver.specs.declared.Decision.{Decision}
use Rattle.receiver.specs.declared.PacketReading.{PacketReading}
use Rattle.receiver.specs.declared.PacketReading.TheVariants as reading

-- 7 and 5 change nothing where a check before them is answered
late : (room high : Bool) (s : Refusal) (cs : List Check) → verdict cs ≡ Err s
    → precedes_in order (entry_of s).number 7 ≡ true → precedes_in order (entry_of s).number 5 ≡ true
    → verdict (check room Full ∷ check high Numbers ∷ cs) ≡ Err s
late room high s cs e p q = skip_later room Full s (check high Numbers ∷ cs) (skip_later high Numbers s cs e p) q

-- what is known of a datagram that was read
pub record Read (broken counts : Bool) (raw : List ℕ) (h : PacketReading) : Type 0 where
  pub state_sound : broken ≡ false
  pub counts_low : counts ≡ false
  pub is_read : h ≡ read_packet raw
  pub taken : Taken raw
  pub not_high : number_high (read_datagram raw) ≡ false
  pub short : length (payload_of raw) ≤ max_payload

module _ (raw : List ℕ) where
  high_or_read : (p : Packet) (b : Bool) (h : PacketReading) → cond b (Err Numbers) (Ok (packet_reading p true)) ≡ Ok h
      → (b ≡ false) × (h ≡ packet_reading p true)
  high_or_read p true h e = let z : ◌≡◌ {A = ℕ} 0 1 = cc in absurd (omega arith)
  high_or_read p false h e = (refl, cc)

  by_reading_lem : (x : Result DatagramReading Refusal) → read_datagram raw ≡ x → (h : PacketReading) → reading_answer x ≡ Ok h → Read false false raw h
  by_reading_lem (Ok (datagram.Valid p)) f h e =
      let x = high_or_read p (is_number_high p) h e in
      let t = valid_taken raw f in
      record { state_sound = refl; counts_low = refl; is_read = rw f x.1; taken = t; not_high = rw f x.0; short = taken_short raw t }
  by_reading_lem (Ok (datagram.Corrupted p)) f h e =
      let t = corrupted_taken raw f in
      record { state_sound = refl; counts_low = refl; is_read = rw f cc; taken = t; not_high = rw f refl; short = taken_short raw t }
  by_reading_lem (Err r) f h e = let z : ◌≡◌ {A = ℕ} 0 1 = cc in absurd (omega arith)

  pub read_facts : (broken counts : Bool) (h : PacketReading) → read_after (verdict (held_checks broken counts)) raw ≡ Ok h → Read broken counts raw h
  unfolding read_after
  read_facts true counts h e =
      let d = sym (on_refused Err (reading_answer (read_datagram raw)) (held_state counts)) ∙ e in
      let z : ◌≡◌ {A = ℕ} 0 1 = cc in absurd (omega arith)
  read_facts false true h e =
      let d = sym (on_refused Err (reading_answer (read_datagram raw)) held_counts) ∙ e in
      let z : ◌≡◌ {A = ℕ} 0 1 = cc in absurd (omega arith)
  read_facts false false h e =
      by_reading_lem (read_datagram raw) refl h (sym (on_accepted Err (reading_answer (read_datagram raw)) held_none) ∙ e)

-- Data is read only in a valid packet; a taken datagram that isn't valid is corrupted
pub data_valid : (raw : List ℕ) (n : ℕ) → ((p : Packet) → read_datagram raw ≡ Ok (datagram.Valid p) → ⊥) → read_packet raw ≡ reading.Data n → ⊥
data_valid raw n never e = by_reading_lem (read_datagram raw) refl e where
  by_reading_lem : (x : Result DatagramReading Refusal) → read_datagram raw ≡ x → reading_of x ≡ reading.Data n → ⊥
  by_reading_lem (Ok (datagram.Valid p)) f g = never p f
  by_reading_lem (Ok (datagram.Corrupted p)) f g = let z : ◌≡◌ {A = ℕ} 0 1 = cc in omega arith
  by_reading_lem (Err r) f g = let z : ◌≡◌ {A = ℕ} 0 1 = cc in omega arith

pub not_valid_corrupted : (raw : List ℕ) → ((p : Packet) → read_datagram raw ≡ Ok (datagram.Valid p) → ⊥) → read_packet raw ≡ reading.Corrupted
not_valid_corrupted raw never = by_reading_lem (read_datagram raw) refl where
  by_reading_lem : (x : Result DatagramReading Refusal) → read_datagram raw ≡ x → reading_of x ≡ reading.Corrupted
  by_reading_lem (Ok (datagram.Valid p)) f = absurd (never p f)
  by_reading_lem (Ok (datagram.Corrupted p)) f = refl
  by_reading_lem (Err r) f = refl

-- a valid packet's reading
pub valid_reading : (raw : List ℕ) (p : Packet) → read_datagram raw ≡ Ok (datagram.Valid p) → read_packet raw ≡ by_type p.pkt_type p.seq_num
valid_reading raw p e = ap reading_of e

-- number 7 of a datagram that was read
pub read_low : (raw : List ℕ) (n : ℕ) → Taken raw → number_high (read_datagram raw) ≡ false → read_packet raw ≡ reading.Data n → n < seq_num_limit
read_low raw n t h e = by_reading_lem (read_datagram raw) refl h e where
  by_type_lem : (k : PacketType) (m : ℕ) → (is_data k && leb seq_num_limit m) ≡ false → by_type k m ≡ reading.Data n → n < seq_num_limit
  by_type_lem packetType.Data m h e = let same : m ≡ n = cc in rw (← same) (leb-false seq_num_limit m h)
  by_type_lem packetType.Ack m h e = let z : ◌≡◌ {A = ℕ} 0 1 = cc in absurd (omega arith)
  by_type_lem packetType.Fin m h e = let z : ◌≡◌ {A = ℕ} 0 1 = cc in absurd (omega arith)

  by_reading_lem : (x : Result DatagramReading Refusal) → read_datagram raw ≡ x → number_high x ≡ false → reading_of x ≡ reading.Data n → n < seq_num_limit
  by_reading_lem (Ok (datagram.Valid p)) f h e = by_type_lem p.pkt_type p.seq_num h e
  by_reading_lem (Ok (datagram.Corrupted p)) f h e = let z : ◌≡◌ {A = ℕ} 0 1 = cc in absurd (omega arith)
  by_reading_lem (Err r) f h e = absurd (t r f)

-- what is known where a datagram isn't refused
pub record ReceiveKnown {R : Type 0} (x : Reception R) (raw output ack : List ℕ) : Type 0 where
  pub state_sound : x.state_broken ≡ false
  pub counts_low : x.counts_broken ≡ false
  pub taken : Taken raw
  pub not_high : number_high (read_datagram raw) ≡ false
  pub room : no_room x output ack ≡ false
  pub short : length (payload_of raw) ≤ max_payload

module _ {R : Type 0} (x : Reception R) (raw output ack : List ℕ) where
  refused_reading : (s : Refusal) (y : Result DatagramReading Refusal) → read_datagram raw ≡ y → reading_answer y ≡ Err s
      → verdict (check (no_room x output ack) Full ∷ check (number_high y) Numbers ∷ (reading_checks y ++ held_checks false false)) ≡ Err s
  unfolding order
  refused_reading s (Err r) f e =
      let same : r ≡ s = cc in
      rw (← same)
      (reading_before raw (no_room x output ack) r Full _ refl f
      (reading_before raw false r Numbers (check true r ∷ held_checks false false) refl f (true_check r (held_checks false false) (refl, (refl, tt)))))
  refused_reading s (Ok (datagram.Corrupted p)) f e = let z : ◌≡◌ {A = ℕ} 0 1 = cc in absurd (omega arith)
  refused_reading s (Ok (datagram.Valid p)) f e = by_high (is_number_high p) e where
    by_high : (b : Bool) → cond b (Err Numbers) (Ok (packet_reading p true)) ≡ Err s
        → verdict (check (no_room x output ack) Full ∷ check b Numbers ∷ held_checks false false) ≡ Err s
    by_high true g =
        let same : Numbers ≡ s = cc in
        rw (← same) (skip_later (no_room x output ack) Full Numbers _ (true_check Numbers (held_checks false false) (refl, (refl, tt))) refl)
    by_high false g = let z : ◌≡◌ {A = ℕ} 0 1 = cc in absurd (omega arith)

  refused_verdict : (s : Refusal) (b c : Bool) → read_after (verdict (held_checks b c)) raw ≡ Err s
      → verdict (check (no_room x output ack) Full ∷ check (number_high (read_datagram raw)) Numbers ∷ (reading_checks (read_datagram raw) ++ held_checks b c)) ≡ Err s
  unfolding read_after order
  refused_verdict s true c e =
      let d = sym (on_refused Err (reading_answer (read_datagram raw)) (held_state c)) ∙ e in
      let same : State ≡ s = cc in
      rw (← same) (late _ _ State _ (reading_after raw State (held_checks true c) refl (held_state c)) refl refl)
  refused_verdict s false true e =
      let d = sym (on_refused Err (reading_answer (read_datagram raw)) held_counts) ∙ e in
      let same : Counts ≡ s = cc in
      rw (← same) (late _ _ Counts _ (reading_after raw Counts (held_checks false true) refl held_counts) refl refl)
  refused_verdict s false false e =
      refused_reading s (read_datagram raw) refl (sym (on_accepted Err (reading_answer (read_datagram raw)) held_none) ∙ e)

  pub receive_refused : (s : Refusal) → read_after (verdict (held_checks x.state_broken x.counts_broken)) raw ≡ Err s
      → refused_exit x output ack (Err s) ≡ receive x raw output ack
  unfolding receive
  receive_refused s e = sym (on_refused (λ (s : Refusal). refused_exit x output ack (Err s)) _ (refused_verdict s x.state_broken x.counts_broken e))

  -- nothing but 5 is left
  pub receive_unchecked_lem : x.state_broken ≡ false → x.counts_broken ≡ false → Taken raw → number_high (read_datagram raw) ≡ false
      → receive_unchecked x output ack ≡ receive x raw output ack
  unfolding receive receive_unchecked
  receive_unchecked_lem b c t h = by_room (no_room x output ack) refl (read_datagram raw) refl where
    left : (y : Result DatagramReading Refusal) → read_datagram raw ≡ y → NoneTrue (check (number_high (read_datagram raw)) Numbers ∷ (reading_checks y ++ held_checks x.state_broken x.counts_broken))
    left (Ok (datagram.Valid p)) f = (h, (b, (c, tt)))
    left (Ok (datagram.Corrupted p)) f = (h, (b, (c, tt)))
    left (Err r) f = absurd (t r f)

    by_room : (m : Bool) → no_room x output ack ≡ m → (y : Result DatagramReading Refusal) → read_datagram raw ≡ y
        → cond (no_room x output ack) (refused_exit x output ack (Err Full)) (received_exit x output ack)
        ≡ decide (verdict (receive_checks x raw output ack)) (λ s. refused_exit x output ack (Err s)) (received_exit x output ack)
    by_room true e y f =
        rw e
        (sym (on_refused (λ (s : Refusal). refused_exit x output ack (Err s)) _ (true_check Full _ (left (read_datagram raw) refl))))
    by_room false e y f =
        rw e
        (sym (on_accepted (λ (s : Refusal). refused_exit x output ack (Err s)) _ (none_true_accepted _ (refl, left (read_datagram raw) refl))))

  -- a call is refused, or what is known where it isn't
  pub receive_either : (P : ReceiveExit R → Type 0) → ((s : Refusal) → P (refused_exit x output ack (Err s)))
      → (ReceiveKnown x raw output ack → P (received_exit x output ack)) → P (receive x raw output ack)
  unfolding receive
  receive_either P refused received =
      decided P (receive_checks x raw output ack) _ _ refused (λ none. received (known (read_datagram raw) refl none.0 none.1.0 none.1.1))
    where
      known : (y : Result DatagramReading Refusal) → read_datagram raw ≡ y → no_room x output ack ≡ false → number_high (read_datagram raw) ≡ false
          → NoneTrue (reading_checks (read_datagram raw) ++ held_checks x.state_broken x.counts_broken) → ReceiveKnown x raw output ack
      known (Ok (datagram.Valid p)) f room high none =
          let t = valid_taken raw f in
          let held : NoneTrue (held_checks x.state_broken x.counts_broken) = rw f at none in
          record { state_sound = held.0; counts_low = held.1.0; taken = t; not_high = high; room = room; short = taken_short raw t }
      known (Ok (datagram.Corrupted p)) f room high none =
          let t = corrupted_taken raw f in
          let held : NoneTrue (held_checks x.state_broken x.counts_broken) = rw f at none in
          record { state_sound = held.0; counts_low = held.1.0; taken = t; not_high = high; room = room; short = taken_short raw t }
      known (Err r) f room high none =
          let held : NoneTrue (check true r ∷ held_checks x.state_broken x.counts_broken) = rw f at none in
          let fired = held.0 in
          let z : ◌≡◌ {A = ℕ} 0 1 = cc in absurd (omega arith)

  pub receive_read : (h : PacketReading) → read_after (verdict (held_checks x.state_broken x.counts_broken)) raw ≡ Ok h
      → receive_unchecked x output ack ≡ receive x raw output ack
  receive_read h e =
      let k = read_facts raw x.state_broken x.counts_broken h e in
      receive_unchecked_lem k.state_sound k.counts_low k.taken k.not_high

pub apply_done : (d : Decision) (payload : List ℕ) (filled : ℕ) (output ack written acked : List ℕ) (n : ℕ) (a : Result (Option ℕ) Refusal) → room_missing d (length payload) filled output ack ≡ false
    → a ≡ answer_of d.reply → apply_exit n written acked ≡ applied d payload filled output ack → receive_exit a n written acked ≡ apply d payload filled output ack
unfolding apply
apply_done d payload filled output ack written acked n a g q v =
    rw g (ap (λ (x : Result (Option ℕ) Refusal). receive_exit x n written acked) q ∙ ap (apply_result (λ n. n) d) v)

-- a datagram is received by what it was read as: whatever a state, a reading, a payload and an output bring
pub receive_reading : {R : Type 0} (x : R → PacketReading → List ℕ → List ℕ → Reception R) (s : R) (raw output ack : List ℕ) {v : ReceiveExit R} {r : Result PacketReading Refusal} {h : PacketReading} {payload : List ℕ}
    → v ≡ receive_unchecked (x s h payload output) output ack → r ≡ read_held (x s h payload output).state_broken (x s h payload output).counts_broken raw → r ≡ Ok h
    → payload ≡ payload_of raw → v ≡ receive (x s (read_packet raw) (payload_of raw) output) raw output ack
receive_reading x s raw output ack {v} {r} {h} {payload} u e f p =
    let is = (read_facts raw (x s h payload output).state_broken (x s h payload output).counts_broken h (sym e ∙ f)).is_read in
    u ∙ receive_read (x s h payload output) raw output ack h (sym e ∙ f)
    ∙ ap (λ (g : PacketReading). receive (x s g payload output) raw output ack) is
    ∙ ap (λ (l : List ℕ). receive (x s (read_packet raw) l output) raw output ack) p

-- what a packet that was read needs of the state
pub read_sound : {b c : Bool} (raw : List ℕ) {r : Result PacketReading Refusal} {h : PacketReading} → r ≡ read_held b c raw → r ≡ Ok h → (b ≡ false) × (c ≡ false)
read_sound {b} {c} raw {r} {h} e f = let k = read_facts raw b c h (sym e ∙ f) in (k.state_sound, k.counts_low)

-- `apply` of the decision is all that is left
module _ {R : Type 0} (x : Reception R) (output ack : List ℕ) {a : Result (Option ℕ) Refusal} {n : ℕ} {written acked : List ℕ} (e : receive_exit a n written acked ≡ apply x.decision x.delivered x.filled output ack) where
  applied_state : receive_exit a (cond (is_refused a) x.state (x.after n)) written acked ≡ receive_unchecked x output ack
  unfolding apply receive_unchecked
  applied_state =
      ap (λ (y : ReceiveExit ℕ). receive_exit y.answer (cond (is_refused y.answer) x.state (x.after y.receiver)) y.output y.ack) e
      ∙ by_room (no_room x output ack)
    where
      by_room : (b : Bool)
          → (let y : ReceiveExit ℕ = cond b (receive_exit (Err Full) x.filled output ack) (apply_result (λ n. n) x.decision (applied x.decision x.delivered x.filled output ack)) in
          receive_exit y.answer (cond (is_refused y.answer) x.state (x.after y.receiver)) y.output y.ack)
          ≡ cond b (refused_exit x output ack (Err Full)) (received_exit x output ack)
      by_room true = refl
      by_room false = refl

  pub apply_refused : {b : Bool} → b ≡ is_refused a → b ≡ true → receive_exit a x.state written acked ≡ receive_unchecked x output ack
  apply_refused p q = rw (sym p ∙ q) at applied_state

  pub apply_received : {b : Bool} → b ≡ is_refused a → b ≡ false → receive_exit a (x.after n) written acked ≡ receive_unchecked x output ack
  apply_received p q = rw (sym p ∙ q) at applied_state
