-- What a send does, by its answer.
use Rattle.std.specs.Prelude.{Err, None, Ok, Some}
use Prim.Native.Nat.{ℕ, ◌+◌, ◌-◌, ◌≤◌, ◌<◌}
use mathlib.Core.Path.{◌≡◌, refl, ap, ◌∙◌}
use mathlib.Core.Bool.{Bool, true, false, cond}
use mathlib.Core.List.{List, ◌++◌}
use native.Mathlib.Omega.{arith}
use borrow.Author.Tests.{ltb-true, ltb-false, eqb-false}
use lib.ListN.{length, take, drop}
use lib.Seq.{take_at}
use Rattle.protocol.specs.Machine.{next_number, send}
use Rattle.octets.specs.Octets.{Octets}
use Rattle.refusal.specs.declared.Refusal.{Refusal}
use Rattle.refusal.proofs.Laws.{NoneTrue, decided}
use Rattle.packet.specs.Format.{new_packet, made}
use Rattle.packet.specs.declared.PacketType.TheVariants.{Data}
use Rattle.packet.proofs.Laws.{made_length}
use Rattle.window.specs.State.{outstanding}
use Rattle.window.specs.Slots.{Sender, hold, first_datagram}
use Rattle.window.specs.Sending.{SendExit, send_exit, window_free, send_checks, send_chunk}
use Rattle.refinement.specs.Follows.{sender_of}
use Rattle.refinement.specs.Good.{Good}
use Rattle.refinement.specs.Copies.{DataOf}
use Rattle.refinement.proofs.Rows.{read_length}
use Rattle.refinement.proofs.Good.{good_sound, hold_good}
use Rattle.refinement.proofs.Senders.{hold_follows}

-- the machine holds as many chunks as are outstanding, and its next number is the window's
pub chunks_length : (v : Sender) → length (sender_of v).chunks ≡ outstanding v.window
chunks_length v = read_length _ v.store _ _ (outstanding v.window)

pub next_number_lem : (selective : Bool) (v : Sender) → Good selective v → next_number (sender_of v) ≡ v.window.next_seq_num
next_number_lem selective v g = let o = (good_sound selective v g).ordered in omega (arith, chunks_length v)

pub hold_window : (v : Sender) (payload : List ℕ) → (hold v payload).window.window_size ≡ v.window.window_size
unfolding hold
hold_window v payload = refl

-- a chunk that was taken: the machine's next segment lies as a datagram at the front of the buffer
pub record Sent (selective : Bool) (v : Sender) (payload out : List ℕ) (r : SendExit Sender) : Type 0 where
  pub answered : r.answer ≡ Ok (Some (10 + length payload))
  pub follows : sender_of r.after ≡ send (sender_of v) payload
  pub good : Good selective r.after
  pub same_window : r.after.window.window_size ≡ v.window.window_size
  pub held : r.after ≡ hold v payload
  pub free : length (sender_of v).chunks < v.window.window_size
  pub short : length payload ≤ 1400
  pub data_made : Octets payload → DataOf (record { number = next_number (sender_of v); payload = payload }) (take (10 + length payload) r.out)

pub data SendOutcome (selective : Bool) (v : Sender) (payload out : List ℕ) (r : SendExit Sender) : Type 0 where
  send_refused : (s : Refusal) → r ≡ send_exit (Err s) v out → SendOutcome selective v payload out r
  window_full : length (sender_of v).chunks ≡ v.window.window_size → r ≡ send_exit (Ok None) v out → SendOutcome selective v payload out r
  chunk_sent : Sent selective v payload out r → SendOutcome selective v payload out r

module _ (selective : Bool) (v : Sender) (payload out : List ℕ) where
  of_accepted : (free : Bool) → window_free v.window ≡ free → NoneTrue (send_checks selective v payload out)
      → send_chunk selective v payload out ≡ cond (window_free v.window) (send_exit (Ok (Some (10 + length payload))) (hold v payload) (first_datagram v payload ++ drop (10 + length payload) out)) (send_exit (Ok None) v out)
      → SendOutcome selective v payload out (send_chunk selective v payload out)
  unfolding send_checks
  of_accepted false f none e =
      let few = (good_sound selective v none.0).few in
      let all = ltb-false (outstanding v.window) v.window.window_size f in
      window_full (chunks_length v ∙ omega arith) (e ∙ rw f)
  of_accepted true f none e =
      let g : Good selective v = none.0 in
      let low = (good_sound selective v g).low in
      let short : length payload ≤ 1400 = ltb-false 1400 (length payload) none.1.1.0 in
      let free : outstanding v.window < v.window.window_size = ltb-true _ _ f in
      let last = eqb-false v.window.next_seq_num 4294901760 (rw f at none.1.1.1.0) in
      let below : v.window.next_seq_num < 4294901760 = omega arith in
      let is : send_chunk selective v payload out ≡ send_exit (Ok (Some (10 + length payload))) (hold v payload) (first_datagram v payload ++ drop (10 + length payload) out) = e ∙ rw f in
      let n = next_number_lem selective v g in
      let size = made_length (new_packet v.window.next_seq_num Data) payload in
      let datagram : take (10 + length payload) (send_chunk selective v payload out).out ≡ made (new_packet (next_number (sender_of v)) Data) payload = ap (λ (r : SendExit Sender). take (10 + length payload) r.out) is ∙ take_at (first_datagram v payload) (drop (10 + length payload) out) (10 + length payload) size ∙ rw n in
      chunk_sent (record {
        answered = ap (λ (r : SendExit Sender). r.answer) is;
        follows = rw is (hold_follows selective v payload g free short);
        good = rw is (hold_good selective v payload g free below short);
        same_window = ap (λ (r : SendExit Sender). r.after.window.window_size) is ∙ hold_window v payload;
        held = ap (λ (r : SendExit Sender). r.after) is;
        free = rw (chunks_length v) free;
        short = short;
        data_made = λ o. record { packet = new_packet (next_number (sender_of v)) Data; is = datagram; kind = refl; number = refl; flags = omega arith; low = rw n below; octets = o; short = short };
      })

  pub send_outcome : SendOutcome selective v payload out (send_chunk selective v payload out)
  unfolding send_chunk
  send_outcome =
      decided (λ (r : SendExit Sender). send_chunk selective v payload out ≡ r → SendOutcome selective v payload out (send_chunk selective v payload out)) (send_checks selective v payload out) _ _
      (λ s. send_refused s) (λ none. of_accepted (window_free v.window) refl none) refl

  -- a good state stays good
  pub send_good : Good selective v → Good selective (send_chunk selective v payload out).after
  send_good g = elim send_outcome [
    | send_refused s e ↦ rw e g
    | window_full n e ↦ rw e g
    | chunk_sent s ↦ s.good
  ]
