-- The values of the answers survive the packing: a refusal's fit in 16 bits each, lengths and numbers in 56.
use Rattle.std.specs.Prelude.{Err, None, Ok, Option, Result, Some}
use Prim.Native.Nat.{ℕ, zero, suc, ◌+◌, ◌≤◌, ◌<◌, min}
use mathlib.Core.Path.{◌≡◌, refl}
use mathlib.Core.Bool.{Bool, true, false, cond, not, ◌&&◌}
use mathlib.Core.List.{List, [], ◌∷◌, ◌++◌}
use native.Mathlib.Omega.{arith}
use borrow.Author.Tests.{ltb-false, ltb-true, leb-true}
use lib.ListN.{length, drop}
use lib.Dec.{ltb, leb, eqb}
use Rattle.bounds.specs.Bounds.{header_size, max_payload}
use Rattle.octets.specs.Octets.{Octets}
use Rattle.refusal.specs.declared.Refusal.{Refusal}
use Rattle.refusal.specs.declared.Refusal.TheVariants.{Counts, State}
use Rattle.refusal.specs.Order.{check, verdict, decide, held_checks}
use Rattle.refusal.proofs.Laws.{EachRefusal}
use Rattle.packet.specs.Reading.{read_checks, header_of, payload_of, from_bytes, given_checks, read_datagram, reading_checks}
use Rattle.packet.specs.Format.{matches}
use Rattle.packet.specs.declared.Packet.{Packet}
use Rattle.packet.specs.declared.PacketType.{PacketType}
use Rattle.packet.specs.declared.PacketType.TheVariants as packetType
use Rattle.packet.specs.declared.DatagramReading.{DatagramReading}
use Rattle.packet.specs.declared.DatagramReading.TheVariants as reading
use Rattle.window.specs.declared.SendWindow.{SendWindow}
use Rattle.window.specs.declared.AckDecision.{AckDecision}
use Rattle.window.specs.declared.AckDecision.TheVariants as decision
use Rattle.window.specs.State.{outstanding, numbers_broken, state_broken, counts_broken}
use Rattle.window.specs.Slots as slots
use Rattle.window.specs.Outstanding as window
use Rattle.window.specs.Outstanding.{unless_broken}
use Rattle.window.specs.Sending as sending
use Rattle.window.specs.Sending.{SendExit, send_exit, send_checks, window_free}
use Rattle.window.specs.Acknowledgement.{is_in_window, by_type, by_reading, ack_decision, by_decision}
use Rattle.window.specs.Resending.{TimeoutExit, timeout_exit, resend, sent_again, mark_from}
use Rattle.window.proofs.Laws.{numbers, numbers_not_broken, sound, sound_numbers}
use Rattle.delivery.proofs.Progress.{again_within}
use Rattle.store.specs.Numbers.{marked}
use Rattle.store.proofs.Numbers.{count_within}
use Rattle.stop_and_wait.specs.Sender as stop_and_wait
use Rattle.selective_repeat.specs.Sender as selective_repeat
use Rattle.session.specs.declared.SenderState.{SenderState}
use Rattle.session.specs.declared.SenderState.TheVariants as senderState
use Rattle.session.specs.declared.Timeout.{Timeout}
use Rattle.session.specs.declared.Timeout.TheVariants as timeouts
use Rattle.session.specs.Sending.{SenderEnd, send_chunk_in, send_chunk, handle_ack_in, handle_ack, go_back_nTimeout, timeout_number, handle_timeout_in, handle_timeout}
use Rattle.host_answer.specs.Answer.{value_limit, ValuesFit}
use Rattle.host_answer.proofs.Laws.{of_answer, full_fits, long_fits, numbers_fits, counts_fits, state_fits, TestFits, CountFits}
use Rattle.host_packet.proofs.Fits.{number_low, given_values}
use Rattle.host_ends.specs.Sender.{number_in, number_of, can_send_in}

-- ---- a datagram: its refusals, and the number of a valid one
abbrev pub ReadingFits : Result DatagramReading Refusal → Type 0
ReadingFits (Ok (reading.Valid p)) = p.seq_num < value_limit
ReadingFits (Ok (reading.Corrupted p)) = Unit {0}
ReadingFits (Err r) = ValuesFit r

either_fits : (b : Bool) (p : Packet) → p.seq_num < value_limit → ReadingFits (cond b (Ok (reading.Valid p)) (Ok (reading.Corrupted p)))
either_fits true p h = h
either_fits false p h = tt

reading_cases : (raw : List ℕ) → Octets raw → (v : Result Unit Refusal) → verdict (given_checks raw) ≡ v
    → ReadingFits (decide v Err (cond (matches (header_of raw) (payload_of raw)) (Ok (reading.Valid (header_of raw))) (Ok (reading.Corrupted (header_of raw)))))
unfolding decide
reading_cases raw o (Ok tt) e =
    let low = number_low raw o in either_fits (matches (header_of raw) (payload_of raw)) (header_of raw) (omega (arith, low))
reading_cases raw o (Err r) e = given_values raw o r e

pub reading_fits : (raw : List ℕ) → Octets raw → ReadingFits (read_datagram raw)
unfolding read_datagram
reading_fits raw o = reading_cases raw o (verdict (given_checks raw)) refl

-- ---- sending
abbrev pub SendFits : Result (Option ℕ) Refusal → Type 0
SendFits (Ok (Some n)) = n < value_limit
SendFits (Ok None) = Unit {0}
SendFits (Err r) = ValuesFit r

sent_fits : (b : Bool) (v w : slots.Sender) (out o : List ℕ) (n : ℕ) → n < value_limit → SendFits (cond b (send_exit (Ok (Some n)) w o) (send_exit (Ok None) v out)).answer
sent_fits true v w out o n h = h
sent_fits false v w out o n h = tt

window_fits : (selective : Bool) (v : slots.Sender) (payload out : List ℕ) → SendFits (sending.send_chunk selective v payload out).answer
unfolding sending.send_chunk send_checks
window_fits selective v payload out =
    of_answer (λ (x : SendExit slots.Sender). SendFits x.answer) _ (λ r. send_exit (Err r) v out) _
    (state_fits, (counts_fits, (long_fits, (numbers_fits, (full_fits, tt)))))
    (λ none. let short = ltb-false max_payload (length payload) none.1.1.0 in sent_fits (window_free v.window) v _ out _ (header_size + length payload) (omega (arith, short)))

send_fits_in : (x : SenderState) (store payload out : List ℕ) → SendFits (send_chunk_in x store payload out).answer
send_fits_in (senderState.StopAndWait s) store payload out = window_fits false (stop_and_wait.window_end (stop_and_wait.end_of s store)) payload out
send_fits_in (senderState.GoBackN s) store payload out = window_fits false (slots.sender s.window store) payload out
send_fits_in (senderState.SelectiveRepeat s) store payload out = window_fits true (slots.sender s.window store) payload out

pub send_fits : (v : SenderEnd) (payload out : List ℕ) → SendFits (send_chunk v payload out).answer
unfolding send_chunk
send_fits v payload out = send_fits_in v.sender.state v.store payload out

-- ---- ACKs
number_cases : (a : Result Packet Refusal) (raw : List ℕ) → Octets raw → from_bytes raw ≡ a → number_in a < value_limit
unfolding number_in from_bytes decide
number_cases (Err r) raw o e = omega arith
number_cases (Ok p) raw o e = read_number (verdict (read_checks raw)) e where
  read_number : (v : Result Unit Refusal) → decide v Err (Ok (header_of raw)) ≡ Ok p → p.seq_num < value_limit
  read_number (Ok tt) f =
      let same : header_of raw ≡ p = cc in
      let low = number_low raw o in
      rw (← same) (omega (arith, low))
  read_number (Err r) f = let z : ◌≡◌ {A = ℕ} 0 1 = cc in absurd (omega arith)

pub number_fits : (raw : List ℕ) → Octets raw → number_of raw < value_limit
number_fits raw o = number_cases (from_bytes raw) raw o refl

abbrev DecisionFits : Result AckDecision Refusal → Type 0
DecisionFits (Ok (decision.Accept n base)) = Unit {0}
DecisionFits (Ok decision.NotAccepted) = Unit {0}
DecisionFits (Err r) = ValuesFit r

within_fits : (b : Bool) (n m : ℕ) → DecisionFits (cond b (Ok (decision.Accept n m)) (Ok decision.NotAccepted))
within_fits true n m = tt
within_fits false n m = tt

type_fits : (s : SendWindow) (t : PacketType) (n : ℕ) → DecisionFits (by_type s t n)
type_fits s packetType.Data n = tt
type_fits s packetType.Ack n = within_fits (is_in_window s n) n (n + 1)
type_fits s packetType.Fin n = tt

by_reading_fits : (s : SendWindow) (x : Result DatagramReading Refusal) → ReadingFits x → DecisionFits (by_reading s x)
by_reading_fits s (Ok (reading.Valid p)) h = type_fits s p.pkt_type p.seq_num
by_reading_fits s (Ok (reading.Corrupted p)) h = tt
by_reading_fits s (Err r) h = h

checks_fit : (x : Result DatagramReading Refusal) (a b : Bool) → ReadingFits x → EachRefusal (λ r. DecisionFits (Err r)) (reading_checks x ++ held_checks a b)
checks_fit (Ok (reading.Valid p)) a b h = (state_fits, (counts_fits, tt))
checks_fit (Ok (reading.Corrupted p)) a b h = (state_fits, (counts_fits, tt))
checks_fit (Err r) a b h = (h, (state_fits, (counts_fits, tt)))

decision_fits : (selective : Bool) (s : SendWindow) (store raw : List ℕ) → Octets raw → DecisionFits (ack_decision selective s store raw)
unfolding ack_decision
decision_fits selective s store raw o =
    of_answer DecisionFits _ Err (by_reading s (read_datagram raw))
    (checks_fit (read_datagram raw) (state_broken selective s store) (counts_broken s) (reading_fits raw o)) (λ none. by_reading_fits s (read_datagram raw) (reading_fits raw o))

abbrev pub AckFits : Result Bool Refusal → Type 0
AckFits (Ok true) = Unit {0}
AckFits (Ok false) = Unit {0}
AckFits (Err r) = ValuesFit r

by_decision_fits : {S : Type 0} (d : Result AckDecision Refusal) (v : S) (accept : ℕ → S) → DecisionFits d → AckFits (by_decision d v accept).answer
unfolding by_decision
by_decision_fits (Ok (decision.Accept n base)) v accept h = tt
by_decision_fits (Ok decision.NotAccepted) v accept h = tt
by_decision_fits (Err r) v accept h = h

ack_fits_in : (x : SenderState) (store raw : List ℕ) → Octets raw → AckFits (handle_ack_in x store raw).answer
ack_fits_in (senderState.StopAndWait s) store raw o = by_decision_fits _ _ _ (decision_fits false (stop_and_wait.window_of s) store raw o)
ack_fits_in (senderState.GoBackN s) store raw o = by_decision_fits _ _ _ (decision_fits false s.window store raw o)
ack_fits_in (senderState.SelectiveRepeat s) store raw o = by_decision_fits _ _ _ (decision_fits true s.window store raw o)

pub ack_fits : (v : SenderEnd) (raw : List ℕ) → Octets raw → AckFits (handle_ack v raw).answer
unfolding handle_ack
ack_fits v raw o = ack_fits_in v.sender.state v.store raw o

-- ---- timeouts
abbrev pub TimeoutFits : Result (Option ℕ) Refusal → Type 0
TimeoutFits (Ok (Some n)) = n < value_limit
TimeoutFits (Ok None) = Unit {0}
TimeoutFits (Err r) = ValuesFit r

positive : (k : ℕ) → eqb k 0 ≡ false → 0 < k
positive zero e = let z : ◌≡◌ {A = ℕ} 0 1 = cc in absurd (omega arith)
positive (suc k) e = omega arith

-- k numbers from n on are outstanding
abbrev Outstanding : SendWindow → ℕ → ℕ → Type 0
Outstanding s n k = (s.send_base ≤ n) × (n + k ≤ s.next_seq_num)

module _ (selective : Bool) (v : slots.Sender) (n k : ℕ) (out : List ℕ) where
  size_fits : state_broken selective v.window v.store ≡ false → Outstanding v.window n k → length (sent_again v n k) < value_limit
  size_fits good within =
      let s = sound selective v.window v.store good in
      let few = s.few in
      let small = s.small in
      let from = within.0 in
      let below = within.1 in
      let size = again_within selective v n k good from below in
      omega arith

  count_fits : (b : Bool) → eqb k 0 ≡ b → state_broken selective v.window v.store ≡ false → (0 < k → Outstanding v.window n k)
      → TimeoutFits (cond b (timeout_exit (Ok None) v out) (timeout_exit (Ok (Some (length (sent_again v n k)))) (mark_from v n k) (sent_again v n k ++ drop (length (sent_again v n k)) out))).answer
  count_fits true e good within = tt
  count_fits false e good within = size_fits good (within (positive k e))

  resend_fits : (counts : Bool) → (state_broken selective v.window v.store ≡ false → 0 < k → Outstanding v.window n k)
      → TimeoutFits (resend (state_broken selective v.window v.store) counts v n k out).answer
  unfolding resend
  resend_fits counts within =
      of_answer (λ (x : TimeoutExit slots.Sender). TimeoutFits x.answer) _ (λ r. timeout_exit (Err r) v out) _
      (state_fits, (counts_fits, (full_fits, tt))) (λ none. count_fits (eqb k 0) refl none.0 (within none.0))

-- from base on, at most so many
lowest_fits : (v : slots.Sender) (k : ℕ) (out : List ℕ) → k ≤ outstanding v.window → TimeoutFits (resend (state_broken false v.window v.store) (counts_broken v.window) v v.window.send_base k out).answer
lowest_fits v k out few =
    resend_fits false v v.window.send_base k out (counts_broken v.window)
    (λ good some. let ordered = (sound false v.window v.store good).ordered in (omega arith, omega arith))

min_within : (a b : ℕ) → min a b ≤ b
min_within a b = omega arith

go_back_n_fits : (v : slots.Sender) (t : Timeout) (out : List ℕ) → TimeoutFits (go_back_nTimeout v t out).answer
go_back_n_fits v timeouts.All out = lowest_fits v (outstanding v.window) out (omega arith)
go_back_n_fits v timeouts.Earliest out = lowest_fits v (min 1 (outstanding v.window)) out (min_within 1 (outstanding v.window))
go_back_n_fits v (timeouts.Number n) out = lowest_fits v (outstanding v.window) out (omega arith)

due_within : (s : SendWindow) (n : ℕ) (a b c : Bool) → leb s.send_base n ≡ a → ltb n s.next_seq_num ≡ b → 0 < cond ((a && b) && c) 1 0 → Outstanding s n (cond ((a && b) && c) 1 0)
due_within s n true true true p q h = let from = leb-true s.send_base n p in let below = ltb-true n s.next_seq_num q in (from, omega arith)
due_within s n true true false p q h = absurd (omega arith)
due_within s n true false c p q h = absurd (omega arith)
due_within s n false b c p q h = absurd (omega arith)

timeout_fits_in : (x : SenderState) (store : List ℕ) (t : Timeout) (out : List ℕ) → TimeoutFits (handle_timeout_in x store t out).answer
timeout_fits_in (senderState.StopAndWait s) store t out =
    let v = stop_and_wait.window_end (stop_and_wait.end_of s store) in
    lowest_fits v (min (stop_and_wait.retries_left s) (outstanding v.window)) out (min_within (stop_and_wait.retries_left s) (outstanding v.window))
timeout_fits_in (senderState.GoBackN s) store t out = go_back_n_fits (slots.sender s.window store) t out
timeout_fits_in (senderState.SelectiveRepeat s) store t out =
    let n = timeout_number s.window t in
    resend_fits true (slots.sender s.window store) n _ out (counts_broken s.window)
    (λ good some. due_within s.window n (leb s.window.send_base n) (ltb n s.window.next_seq_num) (not (marked 2 store s.window.window_size n)) refl refl some)

pub timeout_fits : (v : SenderEnd) (t : Timeout) (out : List ℕ) → TimeoutFits (handle_timeout v t out).answer
unfolding handle_timeout
timeout_fits v t out = timeout_fits_in v.sender.state v.store t out

-- ---- the calls that only read
unless_fits : {A : Type 0} (P : A → Type 0) (s : SendWindow) (f : Refusal → A) (a : A) → P (f State) → P (f Counts) → (numbers_broken s ≡ false → P a) → P (unless_broken s f a)
unfolding unless_broken
unless_fits P s f a state counts ok = of_answer P (check (numbers_broken s) State ∷ check (counts_broken s) Counts ∷ []) f a (state, (counts, tt)) (λ none. ok none.0)

few_fit : (s : SendWindow) → numbers_broken s ≡ false → outstanding s < value_limit
few_fit s e =
    let n = numbers s e in
    let few = n.few in
    let small = n.small in
    omega (arith, few, small)

pub can_send_fits : (x : SenderState) → TestFits (can_send_in x)
unfolding can_send_in
can_send_fits (senderState.StopAndWait s) = unless_fits TestFits (stop_and_wait.window_of s) Err _ state_fits counts_fits (λ e. tt)
can_send_fits (senderState.GoBackN s) = unless_fits TestFits s.window Err _ state_fits counts_fits (λ e. tt)
can_send_fits (senderState.SelectiveRepeat s) = unless_fits TestFits s.window Err _ state_fits counts_fits (λ e. tt)

-- what a sender of each protocol counts, where the store isn't refused
abbrev pub InFlightFits : SenderState → List ℕ → Type 0
InFlightFits (senderState.StopAndWait s) store = TestFits (stop_and_wait.is_waiting_for_ack s)
InFlightFits (senderState.GoBackN s) store = CountFits (window.in_flight_count s.window)
InFlightFits (senderState.SelectiveRepeat s) store = CountFits (selective_repeat.in_flight_count (slots.sender s.window store))

pub in_flight_fits : (x : SenderState) (store : List ℕ) → InFlightFits x store
unfolding selective_repeat.in_flight_count
in_flight_fits (senderState.StopAndWait s) store = unless_fits TestFits (stop_and_wait.window_of s) Err _ state_fits counts_fits (λ e. tt)
in_flight_fits (senderState.GoBackN s) store = unless_fits CountFits s.window Err _ state_fits counts_fits (few_fit s.window)
in_flight_fits (senderState.SelectiveRepeat s) store =
    let w = s.window in
    of_answer CountFits (held_checks (state_broken true w store) (counts_broken w)) Err (Ok (selective_repeat.in_flight_count_unchecked (slots.sender w store))) (state_fits, (counts_fits, tt))
    (λ none.
    let most = count_within 1 store w.window_size w.send_base (outstanding w) in
    let low = few_fit w (numbers_not_broken w (sound_numbers (sound true w store none.0))) in
    omega (arith, most, low))
