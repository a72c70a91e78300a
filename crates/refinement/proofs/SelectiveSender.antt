-- The Selective Repeat sender: ACKs and timeouts.
use Prim.Native.Nat.{ℕ, ◌+◌, ◌-◌, ◌≤◌, ◌<◌}
use mathlib.Core.Path.{◌≡◌, refl, ap, ◌∙◌}
use mathlib.Core.Bool.{Bool, true, false, cond, not, ◌&&◌}
use mathlib.Core.List.{List}
use native.Mathlib.Omega.{arith}
use borrow.Author.Tests.{leb-true, ltb-true}
use lib.Dec.{leb, ltb}
use Rattle.protocol.specs.Machine.{slide}
use Rattle.protocol.specs.Machine
use Rattle.protocol.specs.declared.ProtocolType.TheVariants.{SelectiveRepeat}
use Rattle.store.specs.Numbers.{marked}
use Rattle.window.specs.Slots.{Sender}
use Rattle.window.proofs.Laws.{not_broken, Accepted}
use Rattle.selective_repeat.specs.Sender.{acknowledge_one, handle_ack, due, handle_timeout}
use Rattle.refinement.specs.Follows.{sender_of}
use Rattle.refinement.specs.Good.{Good}
use Rattle.refinement.proofs.Good.{SoundWith, good_sound, base_too}
use Rattle.refinement.proofs.Acknowledging.{AckOutcome, ack_outcome}
use Rattle.refinement.proofs.Resending.{ResendOutcome, resend_outcome}
use Rattle.refinement.proofs.SelectiveAck.{marked_sender, marked_sound, marked_follows, slid_follows, slid_good}

module _ (v : Sender) (n : ℕ) (a : Accepted true v.window v.store n (n + 1)) where
  sound : SoundWith (λ k. true) v
  sound = base_too true v (good_sound true v (not_broken true v.window v.store a.state))

  one_follows : sender_of (acknowledge_one v n) ≡ slide (Machine.mark_acknowledged (sender_of v) n)
  unfolding acknowledge_one
  one_follows = slid_follows (marked_sender v n sound a.from a.below) (marked_sound v n sound a.from a.below) ∙ ap slide (marked_follows v n sound a.from a.below)

  one_good : Good true (acknowledge_one v n)
  unfolding acknowledge_one
  one_good = slid_good (marked_sender v n sound a.from a.below) (marked_sound v n sound a.from a.below)

pub selective_ack : (v : Sender) (raw : List ℕ) → AckOutcome SelectiveRepeat true (λ u. u) v raw (handle_ack v raw)
selective_ack v raw = ack_outcome SelectiveRepeat true (λ u. u) v (acknowledge_one v) (record { follows = one_follows v; good = one_good v }) raw

-- a timeout for number n
in_range : (v : Sender) (n : ℕ) (marks : Bool) (a b : Bool) → leb v.window.send_base n ≡ a → ltb n v.window.next_seq_num ≡ b → 0 < cond ((a && b) && marks) 1 0
    → (v.window.send_base ≤ n) × (n + cond ((a && b) && marks) 1 0 ≤ v.window.next_seq_num)
in_range v n true true true e f h = let l = ltb-true n v.window.next_seq_num f in (leb-true v.window.send_base n e, omega arith)
in_range v n false true true e f h = absurd (omega arith)
in_range v n marks true false e f h = absurd (omega arith)
in_range v n marks false b e f h = absurd (omega arith)

pub selective_timeout : (v : Sender) (n : ℕ) (out : List ℕ) → ResendOutcome true v n (cond (due v n) 1 0) out (handle_timeout v n out)
selective_timeout v n out =
    resend_outcome true v n (cond (due v n) 1 0) out
    (λ g h. in_range v n (not (marked 2 v.store v.window.window_size n)) (leb v.window.send_base n) (ltb n v.window.next_seq_num) refl refl h)
