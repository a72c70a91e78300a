-- Laws of the sender's window, and of its answers by those of the window.
use Rattle.std.specs.Prelude.{Option, Result}
use Prim.Native.Nat.{ℕ, ◌+◌, ◌-◌, ◌≤◌, ◌<◌, min}
use mathlib.Core.Path.{◌≡◌, refl, sym, ap, ◌∙◌}
use mathlib.Core.Bool.{Bool, true, false, cond}
use mathlib.Core.List.{List}
use native.Mathlib.Omega.{arith}
use borrow.Author.Tests.{ltb-true, ltb-false, le-ltb, le-leb, lt-leb}
use lib.Dec.{ltb, leb}
use Rattle.refusal.specs.Clauses.{any_of}
use Rattle.window.specs.State.{window_broken, numbers_broken}
use Rattle.window.specs.Slots.{Sender, sender, release}
use Rattle.window.specs.Sending.{SendExit, send_exit}
use Rattle.window.specs.Resending.{TimeoutExit, timeout_exit}
use Rattle.window.specs.declared.SendWindow.{SendWindow}
use Rattle.window.proofs.Laws.{or_false_right}
use Rattle.stop_and_wait.specs.Sender.{state, window_of, End, end_of, window_end, by_send, sent, acknowledged, retries_left, by_timeout, timed_out}
use Rattle.stop_and_wait.specs.declared.StopAndWaitSender.{StopAndWaitSender}
use Rattle.refusal.specs.declared.Refusal.{Refusal}

abbrev pub with_next : StopAndWaitSender → ℕ → SendWindow
with_next s next = record { window_size = 1; send_base = s.current_seq; next_seq_num = next; total_sent = s.total_sent; retransmissions = s.retransmissions }

pub window_is : (s : StopAndWaitSender) (b : Bool) → s.in_flight ≡ b → with_next s (cond b (s.current_seq + 1) s.current_seq) ≡ window_of s
window_is s b e = ap (λ (c : Bool). with_next s (cond c (s.current_seq + 1) s.current_seq)) (sym e)

-- a window of 1 is broken only by its numbers being too high
numbers_of_one : (s : StopAndWaitSender) (next : ℕ) → s.current_seq ≤ next → next ≤ s.current_seq + 1 → ltb 4294901760 next ≡ numbers_broken (with_next s next)
unfolding numbers_broken window_broken any_of
numbers_of_one s next h k =
    let few : next - s.current_seq ≤ 1 = omega arith in
    simp (le-ltb next s.current_seq h, le-ltb 1 (next - s.current_seq) few) (sym (or_false_right (ltb 4294901760 next)))

next_above : (a b : ℕ) (t : Bool) → ltb a (b + 1) ≡ t → leb a b ≡ t
next_above a b true e = let h = ltb-true a (b + 1) e in le-leb a b (omega arith)
next_above a b false e = let h = ltb-false a (b + 1) e in lt-leb a b (omega arith)

pub broken_in_flight : (s : StopAndWaitSender) → s.in_flight ≡ true → leb 4294901760 s.current_seq ≡ numbers_broken (window_of s)
broken_in_flight s e =
    next_above 4294901760 s.current_seq _ refl ∙ numbers_of_one s (s.current_seq + 1) (omega arith) (omega arith) ∙ ap numbers_broken (window_is s true e)

pub broken_idle : (s : StopAndWaitSender) → s.in_flight ≡ false → ltb 4294901760 s.current_seq ≡ numbers_broken (window_of s)
broken_idle s e = numbers_of_one s s.current_seq (omega arith) (omega arith) ∙ ap numbers_broken (window_is s false e)

-- the answers, by what the window did
pub sent_is : (s : StopAndWaitSender) (a : Result (Option ℕ) Refusal) (w : SendWindow) (store out : List ℕ) {r : StopAndWaitSender} {t : SendExit Sender} → r ≡ by_send s a w → send_exit a (sender w store) out ≡ t
    → send_exit a (end_of r store) out ≡ sent s t
sent_is s a w store out e f = ap (λ (u : StopAndWaitSender). send_exit a (end_of u store) out) e ∙ ap (sent s) f

pub timed_out_is : (s : StopAndWaitSender) (a : Result (Option ℕ) Refusal) (w : SendWindow) (store out : List ℕ) {r : StopAndWaitSender} {t : TimeoutExit Sender} → r ≡ by_timeout s a w → timeout_exit a (sender w store) out ≡ t
    → timeout_exit a (end_of r store) out ≡ timed_out s t
timed_out_is s a w store out e f = ap (λ (u : StopAndWaitSender). timeout_exit a (end_of u store) out) e ∙ ap (timed_out s) f

pub acknowledged_is : (v : End) (n : ℕ) (w : SendWindow) (store : List ℕ) → sender w store ≡ release (window_end v) (n + 1)
    → end_of (state (v.sender.current_seq + 1) false v.sender.max_retries 0 v.sender.total_sent v.sender.retransmissions) store ≡ acknowledged v n
acknowledged_is v n w store e =
    ap (λ (u : Sender). end_of (state (v.sender.current_seq + 1) false v.sender.max_retries 0 v.sender.total_sent v.sender.retransmissions) u.store) e

-- what was sent again had a retry left
by_retries : (b : Bool) → 0 < cond {A = ℕ} b 1 0 → b ≡ true
by_retries true h = refl
by_retries false h = absurd (omega arith)

pub retry_left : (s : StopAndWaitSender) (k : ℕ) → 0 < min (retries_left s) k → s.current_retries < s.max_retries
retry_left s k h = let left : 0 < retries_left s = omega arith in ltb-true _ _ (by_retries _ left)
