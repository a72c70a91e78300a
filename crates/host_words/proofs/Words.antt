-- What is known of words that hold an end; and to put back what words hold changes no word.
use Rattle.std.specs.Prelude.{None, Option, Some}
use Prim.Native.Nat.{ℕ, ◌+◌, ◌≤◌}
use mathlib.Core.Path.{◌≡◌, refl, sym, ap, ◌∙◌, subst}
use mathlib.Core.Bool.{Bool, true, false, cond, not, ◌&&◌}
use mathlib.Core.List.{List}
use native.Mathlib.Omega.{arith}
use borrow.Author.Tests.{ltb-false, eqb-true, not-false}
use lib.ListN.{length, get_or, length-set}
use lib.Dec.{eqb}
use lib.Seq.{set-get_or}
use Rattle.refusal.proofs.Laws.{none_of}
use Rattle.protocol.specs.declared.ProtocolType.TheVariants as protocol
use Rattle.window.specs.declared.SendWindow.{SendWindow}
use Rattle.stop_and_wait.specs.Sender as stop_and_wait
use Rattle.session.specs.Sending as session
use Rattle.session.specs.Receiving as receiving
use Rattle.session.specs.declared.Sender.{Sender}
use Rattle.session.specs.declared.Receiver.{Receiver}
use Rattle.session.specs.declared.SenderState.{SenderState}
use Rattle.session.specs.declared.SenderState.TheVariants as senderState
use Rattle.session.specs.declared.ReceiverState.{ReceiverState}
use Rattle.session.specs.declared.ReceiverState.TheVariants as receiverState
use Rattle.host_words.specs.declared.Kind.{Kind}
use Rattle.host_words.specs.Words.{state_words, sender_word, receiver_word, window_in, stop_and_wait_in, sender_unreadable, not_single, held, held_sender, with_window, with_stop_and_wait, with_sender, selective_repeat_receiver_in, go_back_nReceiver_in, stop_and_wait_receiver_in, receiver_unreadable, held_by, held_receiver, with_fields, receiver_fields, with_receiver, SenderReadable, RetriesReadable, SenderAs, ReceiverReadable}

pub sender_readable : (s : List ℕ) → sender_unreadable s ≡ false → SenderReadable s
unfolding sender_unreadable
sender_readable s e =
    let none = none_of _ e in
    record { long = ltb-false _ _ none.0; base = ltb-false _ _ none.1.0; next = ltb-false _ _ none.1.1.0 }

pub retries_readable : (s : List ℕ) → not_single s ≡ false → RetriesReadable s
unfolding not_single
retries_readable s e =
    let none = none_of _ e in record { max = ltb-false _ _ none.1.0; current = ltb-false _ _ none.1.1.0 }

pub receiver_readable : (s : List ℕ) → receiver_unreadable s ≡ false → ReceiverReadable s
unfolding receiver_unreadable
receiver_readable s e =
    let none = none_of _ e in record { long = ltb-false _ _ none.0; base = ltb-false _ _ none.1.0 }

-- ---- a sender
pub sender_as : (s : List ℕ) {k l : Kind} → k ≡ l → SenderAs s k → SenderAs s l
sender_as s e known = subst (SenderAs s) e known

-- the words with the sender put back that they held
abbrev put_back : List ℕ → Option Sender → List ℕ
put_back s (Some x) = with_sender s x.state
put_back s None = s

window_back : (s : List ℕ) → with_window s (window_in s) ≡ s
unfolding with_window
window_back s = rw (set-get_or s 1 0, set-get_or s 2 0, set-get_or s 3 0, set-get_or s 4 0, set-get_or s 5 0)

next_back : (a b : ℕ) (t : Bool) → eqb a b ≡ t → (not t && not (eqb (a + 1) b)) ≡ false → cond (not t) (a + 1) a ≡ b
next_back a b true e h = eqb-true a b e
next_back a b false e h = eqb-true (a + 1) b (not-false _ h)

single_window : (s : List ℕ) → not_single s ≡ false → stop_and_wait.window_of (stop_and_wait_in s) ≡ window_in s
unfolding not_single
single_window s e =
    let none = none_of _ e in
    let one = eqb-true (get_or s 1 0) 1 (not-false _ none.0) in
    let next = next_back (get_or s 2 0) (get_or s 3 0) (eqb (get_or s 2 0) (get_or s 3 0)) refl none.1.1.1.0 in
    rw (next, one)

single_back : (s : List ℕ) → not_single s ≡ false → with_stop_and_wait s (stop_and_wait_in s) ≡ s
unfolding with_stop_and_wait
single_back s e = rw (single_window s e, window_back s, set-get_or s 6 0, set-get_or s 7 0)

sender_cases : (s : List ℕ) (a b c d t : Bool) → not_single s ≡ t
    → put_back s (cond a None (cond b (held (senderState.SelectiveRepeat (record { window = window_in s }))) (cond c (held (senderState.GoBackN (record { window = window_in s }))) (cond d (cond t None (held (senderState.StopAndWait (stop_and_wait_in s)))) None)))) ≡ s
unfolding with_sender
sender_cases s true b c d t e = refl
sender_cases s false true c d t e = window_back s
sender_cases s false false true d t e = window_back s
sender_cases s false false false true true e = refl
sender_cases s false false false true false e = single_back s e
sender_cases s false false false false t e = refl

sender_put_back : (s : List ℕ) → put_back s (held_sender s) ≡ s
unfolding held_sender
sender_put_back s = sender_cases s (sender_unreadable s) (eqb (get_or s 0 0) (sender_word protocol.SelectiveRepeat)) (eqb (get_or s 0 0) (sender_word protocol.GoBackN)) (eqb (get_or s 0 0) (sender_word protocol.StopAndWait)) (not_single s) refl

-- to put back the sender that words hold changes no word
pub sender_back : (s : List ℕ) {x : Sender} → held_sender s ≡ Some x → with_sender s x.state ≡ s
sender_back s e = sym (ap (put_back s) e) ∙ sender_put_back s

not_broken : (x : Sender) → None ≡ Some x → ⊥
not_broken x e = let z : ◌≡◌ {A = ℕ} 0 1 = cc in omega arith

held_readable : (s : List ℕ) (t : Bool) (x : Sender) (other : Option Sender) → sender_unreadable s ≡ t → cond t None other ≡ Some x → SenderReadable s
held_readable s true x other e p = absurd (not_broken x p)
held_readable s false x other e p = sender_readable s e

-- words that hold a sender are eight at least
pub sender_long : (s : List ℕ) {x : Sender} → held_sender s ≡ Some x → state_words ≤ length s
unfolding held_sender
sender_long s {x} e = (held_readable s (sender_unreadable s) x _ refl e).long

-- the window of the sender that words hold is the one in them
abbrev WindowIs : List ℕ → Option Sender → Type 0
WindowIs s (Some x) = session.window_of x ≡ window_in s
WindowIs s None = Unit {0}

window_cases : (s : List ℕ) (a b c d t : Bool) → not_single s ≡ t
    → WindowIs s (cond a None (cond b (held (senderState.SelectiveRepeat (record { window = window_in s }))) (cond c (held (senderState.GoBackN (record { window = window_in s }))) (cond d (cond t None (held (senderState.StopAndWait (stop_and_wait_in s)))) None))))
window_cases s true b c d t e = tt
window_cases s false true c d t e = refl
window_cases s false false true d t e = refl
window_cases s false false false true true e = tt
window_cases s false false false true false e = single_window s e
window_cases s false false false false t e = tt

pub sender_window : (s : List ℕ) {x : Sender} → held_sender s ≡ Some x → session.window_of x ≡ window_in s
unfolding held_sender
sender_window s e = subst (WindowIs s) e (window_cases s (sender_unreadable s) (eqb (get_or s 0 0) (sender_word protocol.SelectiveRepeat)) (eqb (get_or s 0 0) (sender_word protocol.GoBackN)) (eqb (get_or s 0 0) (sender_word protocol.StopAndWait)) (not_single s) refl)

-- its next number is of 32 bits
pub sender_next : (s : List ℕ) {x : Sender} → held_sender s ≡ Some x → (session.window_of x).next_seq_num ≤ 4294967295
unfolding held_sender
sender_next s {x} e = subst (λ (w : SendWindow). w.next_seq_num ≤ 4294967295) (sym (sender_window s e)) (held_readable s (sender_unreadable s) x _ refl e).next

pub sender_length : (s : List ℕ) (x : SenderState) → length (with_sender s x) ≡ length s
unfolding with_sender with_stop_and_wait with_window
sender_length s (senderState.StopAndWait w) = simp length-set
sender_length s (senderState.GoBackN w) = simp length-set
sender_length s (senderState.SelectiveRepeat w) = simp length-set

-- ---- a receiver
abbrev put_receiver_back : List ℕ → Option Receiver → List ℕ
put_receiver_back s (Some x) = with_receiver s x.state
put_receiver_back s None = s

fields_back : (s : List ℕ) → with_fields s (record { window = get_or s 1 0; base = get_or s 2 0; filled = get_or s 3 0; received = get_or s 4 0; second = get_or s 5 0; third = get_or s 6 0 }) ≡ s
unfolding with_fields
fields_back s = rw (set-get_or s 1 0, set-get_or s 2 0, set-get_or s 3 0, set-get_or s 4 0, set-get_or s 5 0, set-get_or s 6 0)

in_order_back : (s : List ℕ) → get_or s 1 0 ≡ 1 → with_fields s (record { window = 1; base = get_or s 2 0; filled = get_or s 3 0; received = get_or s 4 0; second = get_or s 5 0; third = get_or s 6 0 }) ≡ s
in_order_back s e =
    ap (λ (n : ℕ). with_fields s (record { window = n; base = get_or s 2 0; filled = get_or s 3 0; received = get_or s 4 0; second = get_or s 5 0; third = get_or s 6 0 })) (sym e) ∙ fields_back s

receiver_cases : (s : List ℕ) (a b one c d : Bool) → eqb (get_or s 1 0) 1 ≡ one
    → put_receiver_back s (cond a None (cond b (held_by (receiverState.SelectiveRepeat (selective_repeat_receiver_in s))) (cond (not one) None (cond c (held_by (receiverState.GoBackN (go_back_nReceiver_in s))) (cond d (held_by (receiverState.StopAndWait (stop_and_wait_receiver_in s))) None))))) ≡ s
unfolding receiver_fields
receiver_cases s true b one c d e = refl
receiver_cases s false true one c d e = fields_back s
receiver_cases s false false false c d e = refl
receiver_cases s false false true true d e = in_order_back s (eqb-true _ _ e)
receiver_cases s false false true false true e = in_order_back s (eqb-true _ _ e)
receiver_cases s false false true false false e = refl

receiver_put_back : (s : List ℕ) → put_receiver_back s (held_receiver s) ≡ s
unfolding held_receiver
receiver_put_back s = receiver_cases s (receiver_unreadable s) (eqb (get_or s 0 0) (receiver_word protocol.SelectiveRepeat)) (eqb (get_or s 1 0) 1) (eqb (get_or s 0 0) (receiver_word protocol.GoBackN)) (eqb (get_or s 0 0) (receiver_word protocol.StopAndWait)) refl

pub receiver_back : (s : List ℕ) {x : Receiver} → held_receiver s ≡ Some x → with_receiver s x.state ≡ s
receiver_back s e = sym (ap (put_receiver_back s) e) ∙ receiver_put_back s

receiver_not_broken : (x : Receiver) → None ≡ Some x → ⊥
receiver_not_broken x e = let z : ◌≡◌ {A = ℕ} 0 1 = cc in omega arith

held_receiver_readable : (s : List ℕ) (t : Bool) (x : Receiver) (other : Option Receiver) → receiver_unreadable s ≡ t → cond t None other ≡ Some x → ReceiverReadable s
held_receiver_readable s true x other e p = absurd (receiver_not_broken x p)
held_receiver_readable s false x other e p = receiver_readable s e

pub receiver_long : (s : List ℕ) {x : Receiver} → held_receiver s ≡ Some x → state_words ≤ length s
unfolding held_receiver
receiver_long s {x} e = (held_receiver_readable s (receiver_unreadable s) x _ refl e).long

-- base and fill mark of the receiver that words hold are the ones in them
abbrev PlacesAre : List ℕ → Option Receiver → Type 0
PlacesAre s (Some x) = (receiving.base x ≡ get_or s 2 0) × (receiving.filled x ≡ get_or s 3 0)
PlacesAre s None = Unit {0}

place_cases : (s : List ℕ) (a b one c d : Bool)
    → PlacesAre s (cond a None (cond b (held_by (receiverState.SelectiveRepeat (selective_repeat_receiver_in s))) (cond (not one) None (cond c (held_by (receiverState.GoBackN (go_back_nReceiver_in s))) (cond d (held_by (receiverState.StopAndWait (stop_and_wait_receiver_in s))) None)))))
place_cases s true b one c d = tt
place_cases s false true one c d = (refl, refl)
place_cases s false false false c d = tt
place_cases s false false true true d = (refl, refl)
place_cases s false false true false true = (refl, refl)
place_cases s false false true false false = tt

pub receiver_places : (s : List ℕ) {x : Receiver} → held_receiver s ≡ Some x → (receiving.base x ≡ get_or s 2 0) × (receiving.filled x ≡ get_or s 3 0)
unfolding held_receiver
receiver_places s e = subst (PlacesAre s) e (place_cases s (receiver_unreadable s) (eqb (get_or s 0 0) (receiver_word protocol.SelectiveRepeat)) (eqb (get_or s 1 0) 1) (eqb (get_or s 0 0) (receiver_word protocol.GoBackN)) (eqb (get_or s 0 0) (receiver_word protocol.StopAndWait)))

pub receiver_length : (s : List ℕ) (x : ReceiverState) → length (with_receiver s x) ≡ length s
unfolding with_fields
receiver_length s x = simp length-set
