-- A sender's counters are what the history of calls says.
use Rattle.std.specs.Prelude.{Err, None, Ok, Result, Some}
use Prim.Native.Nat.{ℕ, zero, suc, ◌+◌, ◌≤◌}
use mathlib.Core.Path.{◌≡◌, refl, sym, ap, ◌∙◌}
use mathlib.Core.Bool.{Bool, true, false, cond}
use mathlib.Core.List.{List, [], ◌∷◌, ◌++◌, map, append-nil, flatten}
use native.Mathlib.Omega.{arith}
use borrow.Author.Tests.{eqb-false}
use lib.ListN.{length, take, drop}
use lib.Seq.{take-append_seam}
use lib.Dec.{ltb, eqb}
use Rattle.protocol.specs.Runs.{up_from}
use Rattle.refusal.specs.declared.Refusal.TheVariants.{State, Counts, Full}
use Rattle.refusal.specs.Order.{check}
use Rattle.refusal.proofs.Laws.{decided}
use Rattle.packet.specs.Format.{made}
use Rattle.packet.specs.declared.Packet.{Packet}
use Rattle.packet.proofs.Laws.{made_length}
use Rattle.window.specs.Slots.{Sender, hold, first_datagram, mark_retransmitted, datagram_for, packet_for, release}
use Rattle.window.specs.Sending.{SendExit, send_exit, window_free, send_checks, send_chunk}
use Rattle.window.specs.Acknowledgement.{ack_decision, AckExit, ack_exit, by_decision}
use Rattle.window.specs.Resending.{mark_from, sent_again, TimeoutExit, timeout_exit, resend}
use Rattle.window.specs.declared.AckDecision.{AckDecision}
use Rattle.window.specs.declared.AckDecision.TheVariants as decision
use Rattle.selective_repeat.specs.Sender.{acknowledge_one}
use Rattle.refinement.proofs.Resending.{datagrams_are}
use Rattle.delivery.specs.Calls.{datagrams}
use Rattle.delivery.specs.Ends.{is_resent, all, earliest}
use Rattle.delivery.specs.AnyBytes.{SenderCall, send, timeout, ack}
use Rattle.delivery.proofs.Datagrams.{AllFramed, made_framed, datagrams_flatten}
use Rattle.tallies.specs.Senders.{Answered, sent, resent, acknowledged, SenderCalls, after_call, answer_to, after_calls, answers, sent_by, resent_by, total, SenderCounted, is_accepted, go_back_nSender, selective_repeat_sender}
use Rattle.refusal.specs.declared.Refusal.{Refusal}

-- a call raised the counters by the datagrams that it wrote
pub record Counted {S : Type 0} (sentOf resent_of : S → ℕ) (before after : S) (a : Answered) : Type 0 where
  pub sent_count : sentOf after ≡ sent_by a + sentOf before
  pub resent_count : resent_of after ≡ resent_by a + resent_of before

abbrev pub EachCallCounted : SenderCalls → Type 0
EachCallCounted P = (s : P.Sender) (c : SenderCall P.Timeout) → Counted P.total_sent P.retransmissions s (after_call P s c) (answer_to P s c)

-- any list of calls, from any state
raised_by : (P : SenderCalls) (counter : P.Sender → ℕ) (by : Answered → ℕ) → ((r : P.Sender) (c : SenderCall P.Timeout) → counter (after_call P r c) ≡ by (answer_to P r c) + counter r)
    → (s : P.Sender) (cs : List (SenderCall P.Timeout)) → counter (after_calls P s cs) ≡ total by (answers P s cs) + counter s
unfolding after_calls answers total
raised_by P counter by one s [] = omega arith
raised_by P counter by one s (c ∷ cs) =
    let x = one s c in
    let more = raised_by P counter by one (after_call P s c) cs in
    omega arith

module _ (P : SenderCalls) (each : EachCallCounted P) (s : P.Sender) where
  pub total_sent : (cs : List (SenderCall P.Timeout)) → P.total_sent (after_calls P s cs) ≡ total sent_by (answers P s cs) + P.total_sent s
  total_sent cs = raised_by P P.total_sent sent_by (λ r c. (each r c).sent_count) s cs

  pub total_resent : (cs : List (SenderCall P.Timeout)) → P.retransmissions (after_calls P s cs) ≡ total resent_by (answers P s cs) + P.retransmissions s
  total_resent cs = raised_by P P.retransmissions resent_by (λ r c. (each r c).resent_count) s cs

  -- from counters that stand at 0
  pub from_zero : P.total_sent s ≡ 0 → P.retransmissions s ≡ 0 → (cs : List (SenderCall P.Timeout)) → SenderCounted P (answers P s cs) (after_calls P s cs)
  from_zero e f cs =
      let a = total_sent cs in
      let b = total_resent cs in
      record { sent_is = omega arith; resent_is = omega arith }

-- ---- the datagrams that a send and a timeout write
pub none_written : length (datagrams []) ≡ 0
unfolding datagrams
none_written = refl

one_written : (p : Packet) (payload rest : List ℕ) → length (datagrams (take (10 + length payload) (made p payload ++ rest))) ≡ 1
unfolding flatten
one_written p payload rest =
    ap (λ (n : ℕ). length (datagrams (take n (made p payload ++ rest)))) (sym (made_length p payload))
    ∙ ap (λ (l : List ℕ). length (datagrams l)) (take-append_seam (made p payload) rest ∙ sym (append-nil (made p payload)))
    ∙ ap length (datagrams_flatten (made p payload ∷ []) (made_framed p payload, tt))

pub all_framed : (v : Sender) (n k : ℕ) → AllFramed (map (datagram_for v) (up_from n k))
unfolding datagram_for
all_framed v n zero = tt
all_framed v n (suc k) = (made_framed (packet_for v n) _, all_framed v (suc n) k)

pub how_many : (v : Sender) (n k : ℕ) → length (map (datagram_for v) (up_from n k)) ≡ k
how_many v n zero = refl
how_many v n (suc k) = ap suc (how_many v (suc n) k)

all_written : (v : Sender) (n k : ℕ) (rest : List ℕ) → length (datagrams (take (length (sent_again v n k)) (sent_again v n k ++ rest))) ≡ k
all_written v n k rest =
    let w = mark_from v n k in
    ap (λ (l : List ℕ). length (datagrams l)) (take-append_seam (sent_again v n k) rest ∙ datagrams_are w n k)
    ∙ ap length (datagrams_flatten (map (datagram_for w) (up_from n k)) (all_framed w n k)) ∙ how_many w n k

-- ---- senders over a send window
abbrev pub WindowCounted : Sender → Sender → Answered → Type 0
WindowCounted v w a = Counted (λ (u : Sender). u.window.total_sent) (λ (u : Sender). u.window.retransmissions) v w a

abbrev SendCounted : Sender → SendExit Sender → Type 0
SendCounted v r = WindowCounted v r.after (sent r.answer r.out)

pub send_counted : (selective : Bool) (v : Sender) (payload out : List ℕ) → SendCounted v (send_chunk selective v payload out)
unfolding send_chunk hold
send_counted selective v payload out =
    decided (SendCounted v) (send_checks selective v payload out) _ _ (λ r. record { sent_count = rw none_written (omega arith); resent_count = omega arith }) (λ none. by_window (window_free v.window))
  where
    by_window : (free : Bool)
        → SendCounted v (cond free (send_exit (Ok (Some (10 + length payload))) (hold v payload) (first_datagram v payload ++ drop (10 + length payload) out)) (send_exit (Ok None) v out))
    by_window false = record { sent_count = rw none_written (omega arith); resent_count = omega arith }
    by_window true = record { sent_count = rw (one_written _ payload (drop (10 + length payload) out)) (omega arith); resent_count = omega arith }

marked_sent : (v : Sender) (n k : ℕ) → (mark_from v n k).window.total_sent ≡ k + v.window.total_sent
unfolding mark_from mark_retransmitted
marked_sent v n zero = omega arith
marked_sent v n (suc k) = let more = marked_sent (mark_retransmitted v n) (n + 1) k in omega arith

marked_resent : (v : Sender) (n k : ℕ) → (mark_from v n k).window.retransmissions ≡ k + v.window.retransmissions
unfolding mark_from mark_retransmitted
marked_resent v n zero = omega arith
marked_resent v n (suc k) = let more = marked_resent (mark_retransmitted v n) (n + 1) k in omega arith

abbrev ResendCounted : Sender → TimeoutExit Sender → Type 0
ResendCounted v r = WindowCounted v r.after (resent r.answer r.out)

module _ (broken counts : Bool) (v : Sender) (n k : ℕ) (out : List ℕ) where
  abbrev some : TimeoutExit Sender
  some = timeout_exit (Ok (Some (length (sent_again v n k)))) (mark_from v n k) (sent_again v n k ++ drop (length (sent_again v n k)) out)

  pub resend_counted : ResendCounted v (resend broken counts v n k out)
  unfolding resend
  resend_counted =
      decided (ResendCounted v) (check broken State ∷ check counts Counts ∷ check (ltb (length out) (length (sent_again v n k))) Full ∷ []) _ _
      (λ r. record { sent_count = rw none_written (omega arith); resent_count = rw none_written (omega arith) }) (λ none. by_count (eqb k 0))
    where
      by_count : (zero : Bool) → ResendCounted v (cond zero (timeout_exit (Ok None) v out) some)
      by_count true = record { sent_count = rw none_written (omega arith); resent_count = rw none_written (omega arith) }
      by_count false =
          let all = all_written v n k (drop (length (sent_again v n k)) out) in
          record { sent_count = rw all (marked_sent v n k); resent_count = rw all (marked_resent v n k) }

  -- at most one number: a timeout that is done writes one datagram
  abbrev OneResent : TimeoutExit Sender → Type 0
  OneResent r = resent_by (resent r.answer r.out) ≡ cond (is_resent r.answer) 1 0

  pub resend_one : k ≤ 1 → OneResent (resend broken counts v n k out)
  unfolding resend
  resend_one few =
      decided OneResent (check broken State ∷ check counts Counts ∷ check (ltb (length out) (length (sent_again v n k))) Full ∷ []) _ _ (λ r. none_written) (λ none. by_count (eqb k 0) refl)
    where
      by_count : (zero : Bool) → eqb k 0 ≡ zero → OneResent (cond zero (timeout_exit (Ok None) v out) some)
      by_count true e = none_written
      by_count false e = let ne = eqb-false k 0 e in all_written v n k (drop (length (sent_again v n k)) out) ∙ omega arith

-- what holds of the state as it was, and of what an accepted ACK makes of it
pub by_ack : {S : Type 0} (P : AckExit S → Type 0) (d : Result AckDecision Refusal) (v : S) (accept : ℕ → S) → ((a : Result Bool Refusal) → is_accepted a ≡ false → P (ack_exit a v)) → ((n : ℕ) → P (ack_exit (Ok true) (accept n)))
    → P (by_decision d v accept)
unfolding by_decision
by_ack P (Ok (decision.Accept n base)) v accept h k = k n
by_ack P (Ok decision.NotAccepted) v accept h k = h (Ok false) refl
by_ack P (Err r) v accept h k = h (Err r) refl

abbrev AckCounted : Sender → AckExit Sender → Type 0
AckCounted v r = WindowCounted v r.after (acknowledged r.answer)

same_counts : (v : Sender) (a : Result Bool Refusal) → WindowCounted v v (acknowledged a)
same_counts v a = record { sent_count = omega arith; resent_count = omega arith }

release_counted : (v : Sender) (n : ℕ) (a : Result Bool Refusal) → WindowCounted v (release v n) (acknowledged a)
unfolding release
release_counted v n a = record { sent_count = omega arith; resent_count = omega arith }

acknowledge_counted : (v : Sender) (n : ℕ) (a : Result Bool Refusal) → WindowCounted v (acknowledge_one v n) (acknowledged a)
unfolding acknowledge_one release
acknowledge_counted v n a = record { sent_count = omega arith; resent_count = omega arith }

pub go_back_n_counted : EachCallCounted go_back_nSender
go_back_n_counted v (send payload out) = send_counted false v payload out
go_back_n_counted v (timeout all out) = resend_counted _ _ v _ _ out
go_back_n_counted v (timeout earliest out) = resend_counted _ _ v _ _ out
go_back_n_counted v (ack raw) = by_ack (AckCounted v) (ack_decision false v.window v.store raw) v _ (λ a e. same_counts v a) (λ n. release_counted v (n + 1) (Ok true))

pub selective_repeat_counted : EachCallCounted selective_repeat_sender
selective_repeat_counted v (send payload out) = send_counted true v payload out
selective_repeat_counted v (timeout n out) = resend_counted _ _ v n _ out
selective_repeat_counted v (ack raw) = by_ack (AckCounted v) (ack_decision true v.window v.store raw) v _ (λ a e. same_counts v a) (λ n. acknowledge_counted v n (Ok true))
