-- A timeout of a number above 32 bits is that of any number that isn't outstanding.
use Rattle.std.specs.Prelude.{None, Option, Some}
use Prim.Native.Nat.{ℕ, ◌≤◌, min}
use mathlib.Core.Path.{◌≡◌, refl, sym, ap, ◌∙◌}
use mathlib.Core.Bool.{Bool, true, false, cond, and-false}
use mathlib.Core.List.{List}
use native.Mathlib.Omega.{arith}
use borrow.Author.Tests.{le-ltb, ltb-true, ltb-false}
use lib.Dec.{ltb, leb}
use Rattle.window.specs.State.{state_broken, counts_broken}
use Rattle.window.specs.Slots as slots
use Rattle.window.specs.Resending.{datagrams_from, mark_from, resend}
use Rattle.selective_repeat.specs.Sender as selective_repeat
use Rattle.session.specs.declared.SenderState.{SenderState}
use Rattle.session.specs.declared.SenderState.TheVariants as senderState
use Rattle.session.specs.declared.Timeout.TheVariants as timeouts
use Rattle.session.specs.Sending.{selective_repeat_end, window_in, timed_out_as, handle_timeout_in, handle_timeout}
use Rattle.host_words.specs.Words.{held_sender}
use Rattle.host_words.proofs.Words.{sender_next}
use Rattle.host_ends.specs.Sender.{timed_out, timeout_held, timeout}
use Rattle.session.specs.declared.Sender.{Sender}

not_due : (v : slots.Sender) (n : ℕ) → v.window.next_seq_num ≤ n → selective_repeat.due v n ≡ false
not_due v n h = rw (le-ltb n v.window.next_seq_num h, and-false (leb v.window.send_base n))

none_sent : (broken counts : Bool) (v : slots.Sender) (n m : ℕ) (out : List ℕ) → resend broken counts v n 0 out ≡ resend broken counts v m 0 out
unfolding resend datagrams_from mark_from
none_sent broken counts v n m out = refl

selective_same : (v : slots.Sender) (n m : ℕ) (out : List ℕ) → v.window.next_seq_num ≤ n → v.window.next_seq_num ≤ m
    → selective_repeat.handle_timeout v n out ≡ selective_repeat.handle_timeout v m out
selective_same v n m out h k =
    let broken = state_broken true v.window v.store in
    let counts = counts_broken v.window in
    ap (λ (b : Bool). resend broken counts v n (cond b 1 0) out) (not_due v n h) ∙ none_sent broken counts v n m out
    ∙ sym (ap (λ (b : Bool). resend broken counts v m (cond b 1 0) out) (not_due v m k))

module _ (state store out : List ℕ) where
  same_in : (x : SenderState) (n m : ℕ) → (window_in x).next_seq_num ≤ n → (window_in x).next_seq_num ≤ m
      → handle_timeout_in x store (timeouts.Number n) out ≡ handle_timeout_in x store (timeouts.Number m) out
  same_in (senderState.StopAndWait s) n m h k = refl
  same_in (senderState.GoBackN s) n m h k = refl
  same_in (senderState.SelectiveRepeat s) n m h k =
      ap (timed_out_as selective_repeat_end) (selective_same (slots.sender s.window store) n m out h k)

  same_held : (x : Option Sender) (n m : ℕ) → held_sender state ≡ x → 4294967295 ≤ n → 4294967295 ≤ m
      → timeout_held x state store (timeouts.Number n) out ≡ timeout_held x state store (timeouts.Number m) out
  unfolding timeout_held handle_timeout
  same_held (Some s) n m e h k =
      let low = sender_next state e in
      ap (timed_out state) (same_in s.state n m (omega (arith, low, h)) (omega (arith, low, k)))
  same_held None n m e h k = refl

  -- the greatest number of 32 bits stands for every greater one
  pub far_number : (n : ℕ) → timeout state store (timeouts.Number (min n 4294967295)) out ≡ timeout state store (timeouts.Number n) out
  far_number n = by_size (ltb 4294967295 n) refl where
    at : {k m : ℕ} → k ≡ m → timeout state store (timeouts.Number k) out ≡ timeout state store (timeouts.Number m) out
    at e = ap (λ (i : ℕ). timeout state store (timeouts.Number i) out) e

    by_size : (b : Bool) → ltb 4294967295 n ≡ b → timeout state store (timeouts.Number (min n 4294967295)) out ≡ timeout state store (timeouts.Number n) out
    by_size true e =
        let h = ltb-true 4294967295 n e in
        let far : 4294967295 ≤ n = omega (arith, h) in
        let least : min n 4294967295 ≡ 4294967295 = omega (arith, h) in
        at least ∙ same_held (held_sender state) 4294967295 n refl (omega arith) far
    by_size false e = let h = ltb-false 4294967295 n e in let least : min n 4294967295 ≡ n = omega (arith, h) in at least
