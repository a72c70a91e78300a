-- What is put into words of its kind is what they hold, of every kind; and making writes such words.
use Prim.Native.Nat.{ℕ, ◌+◌, ◌≤◌, ◌<◌}
use mathlib.Core.Path.{◌≡◌, refl, ap, ◌∙◌}
use mathlib.Core.Bool.{Bool, true, false, cond, not, ◌&&◌}
use mathlib.Core.List.{List, [], ◌∷◌}
use native.Mathlib.Omega.{arith}
use borrow.Author.Tests.{le-ltb, eq-eqb, ne_eqb}
use lib.ListN.{length, get_or, length-set}
use lib.Dec.{ltb, eqb}
use Rattle.refusal.specs.Clauses.{any_of}
use Rattle.protocol.specs.declared.ProtocolType.{ProtocolType}
use Rattle.protocol.specs.declared.ProtocolType.TheVariants as protocol
use Rattle.window.specs.declared.SendWindow.{SendWindow}
use Rattle.stop_and_wait.specs.Sender as stop_and_wait
use Rattle.stop_and_wait.specs.declared.StopAndWaitSender.{StopAndWaitSender}
use Rattle.stop_and_wait.specs.declared.StopAndWaitReceiver.{StopAndWaitReceiver}
use Rattle.go_back_n.specs.declared.GoBackNReceiver.{GoBackNReceiver}
use Rattle.selective_repeat.specs.declared.SelectiveRepeatReceiver.{SelectiveRepeatReceiver}
use Rattle.session.specs.declared.SenderState.{SenderState}
use Rattle.session.specs.declared.SenderState.TheVariants as senderState
use Rattle.session.specs.declared.ReceiverState.{ReceiverState}
use Rattle.session.specs.declared.ReceiverState.TheVariants as receiverState
use Rattle.host_words.specs.Words.{state_words, sender_word, receiver_word, with_kind, sender_unreadable, not_single, held, held_sender, with_window, with_stop_and_wait, with_sender, receiver_unreadable, held_by, held_receiver, with_fields, receiver_fields, with_receiver}

-- words of a kind, taken apart
pub record Apart (s : List ℕ) (kind : ℕ) : Type 0 where
  pub b : ℕ
  pub c : ℕ
  pub d : ℕ
  pub e : ℕ
  pub f : ℕ
  pub g : ℕ
  pub h : ℕ
  pub rest : List ℕ
  pub are : s ≡ kind ∷ b ∷ c ∷ d ∷ e ∷ f ∷ g ∷ h ∷ rest

apart : (s : List ℕ) (kind : ℕ) → state_words ≤ length s → get_or s 0 0 ≡ kind → Apart s kind
apart (a ∷ b ∷ c ∷ d ∷ e ∷ f ∷ g ∷ h ∷ rest) kind l k =
    record { b = b; c = c; d = d; e = e; f = f; g = g; h = h; rest = rest; are = ap (λ (n : ℕ). n ∷ b ∷ c ∷ d ∷ e ∷ f ∷ g ∷ h ∷ rest) k }
apart [] kind l k = absurd (omega arith)
apart (a ∷ []) kind l k = absurd (omega arith)
apart (a ∷ b ∷ []) kind l k = absurd (omega arith)
apart (a ∷ b ∷ c ∷ []) kind l k = absurd (omega arith)
apart (a ∷ b ∷ c ∷ d ∷ []) kind l k = absurd (omega arith)
apart (a ∷ b ∷ c ∷ d ∷ e ∷ []) kind l k = absurd (omega arith)
apart (a ∷ b ∷ c ∷ d ∷ e ∷ f ∷ []) kind l k = absurd (omega arith)
apart (a ∷ b ∷ c ∷ d ∷ e ∷ f ∷ g ∷ []) kind l k = absurd (omega arith)

-- making writes word 0, and no call changes it
pub kind_made : (s : List ℕ) (kind : ℕ) → state_words ≤ length s → get_or (with_kind s kind) 0 0 ≡ kind
kind_made [] kind l = absurd (omega arith)
kind_made (a ∷ s) kind l = refl

pub kind_length : (s : List ℕ) (kind : ℕ) → length (with_kind s kind) ≡ length s
kind_length s kind = simp length-set

pub sender_kind : (s : List ℕ) (x : SenderState) → get_or (with_sender s x) 0 0 ≡ get_or s 0 0
unfolding with_sender with_stop_and_wait with_window
sender_kind [] (senderState.StopAndWait w) = refl
sender_kind [] (senderState.GoBackN w) = refl
sender_kind [] (senderState.SelectiveRepeat w) = refl
sender_kind (a ∷ s) (senderState.StopAndWait w) = refl
sender_kind (a ∷ s) (senderState.GoBackN w) = refl
sender_kind (a ∷ s) (senderState.SelectiveRepeat w) = refl

pub receiver_kind : (s : List ℕ) (x : ReceiverState) → get_or (with_receiver s x) 0 0 ≡ get_or s 0 0
unfolding with_fields
receiver_kind [] x = refl
receiver_kind (a ∷ s) x = refl

-- ---- senders
abbrev pub protocol_of : SenderState → ProtocolType
protocol_of (senderState.StopAndWait w) = protocol.StopAndWait
protocol_of (senderState.GoBackN w) = protocol.GoBackN
protocol_of (senderState.SelectiveRepeat w) = protocol.SelectiveRepeat

-- its numbers are of 32 bits, the next one too
abbrev pub WindowFits : SendWindow → Type 0
WindowFits w = (w.send_base ≤ 4294967295) × (w.next_seq_num ≤ 4294967295)

abbrev pub SenderFits : SenderState → Type 0
SenderFits (senderState.StopAndWait w) =
    (w.current_seq < 4294967295) × (w.max_retries ≤ 4294967295) × (w.current_retries ≤ 4294967295)
SenderFits (senderState.GoBackN w) = WindowFits w.window
SenderFits (senderState.SelectiveRepeat w) = WindowFits w.window

long : (a b c d e f g h : ℕ) (rest : List ℕ) → ltb (length (a ∷ b ∷ c ∷ d ∷ e ∷ f ∷ g ∷ h ∷ rest)) state_words ≡ false
long a b c d e f g h rest = le-ltb (length (a ∷ b ∷ c ∷ d ∷ e ∷ f ∷ g ∷ h ∷ rest)) 8 (omega arith)

readable : (kind : ℕ) (w : SendWindow) (g h : ℕ) (rest : List ℕ) → WindowFits w
    → sender_unreadable (kind ∷ w.window_size ∷ w.send_base ∷ w.next_seq_num ∷ w.total_sent ∷ w.retransmissions ∷ g ∷ h ∷ rest) ≡ false
unfolding sender_unreadable any_of
readable kind w g h rest fits =
    rw (long kind w.window_size w.send_base w.next_seq_num w.total_sent w.retransmissions g h rest, le-ltb 4294967295 w.send_base fits.0, le-ltb 4294967295 w.next_seq_num fits.1)

in_flight_back : (n : ℕ) (t : Bool) → not (eqb n (cond t (n + 1) n)) ≡ t
in_flight_back n true = rw (ne_eqb n (n + 1) (λ e. omega arith))
in_flight_back n false = rw (eq-eqb n n refl)

next_fits : (n : ℕ) (t : Bool) → n < 4294967295 → cond t (n + 1) n ≤ 4294967295
next_fits n true h = omega arith
next_fits n false h = omega arith

single_next : (n : ℕ) (t : Bool) → (not (eqb n (cond t (n + 1) n)) && not (eqb (n + 1) (cond t (n + 1) n))) ≡ false
single_next n true = rw (eq-eqb (n + 1) (n + 1) refl, ne_eqb n (n + 1) (λ e. omega arith))
single_next n false = rw (eq-eqb n n refl)

single : (w : StopAndWaitSender) (rest : List ℕ) → w.max_retries ≤ 4294967295 → w.current_retries ≤ 4294967295
    → not_single (257 ∷ 1 ∷ w.current_seq ∷ cond w.in_flight (w.current_seq + 1) w.current_seq ∷ w.total_sent ∷ w.retransmissions ∷ w.max_retries ∷ w.current_retries ∷ rest) ≡ false
unfolding not_single any_of
single w rest p q =
    rw (single_next w.current_seq w.in_flight, le-ltb 4294967295 w.max_retries p, le-ltb 4294967295 w.current_retries q)

stop_and_wait_held : (w : StopAndWaitSender) (rest : List ℕ) → SenderFits (senderState.StopAndWait w)
    → held_sender (257 ∷ 1 ∷ w.current_seq ∷ cond w.in_flight (w.current_seq + 1) w.current_seq ∷ w.total_sent ∷ w.retransmissions ∷ w.max_retries ∷ w.current_retries ∷ rest) ≡ held (senderState.StopAndWait w)
unfolding held_sender
stop_and_wait_held w rest fits =
    let r = readable 257 (stop_and_wait.window_of w) w.max_retries w.current_retries rest (omega arith, next_fits w.current_seq w.in_flight fits.0) in
    rw (r, single w rest fits.1 fits.2, in_flight_back w.current_seq w.in_flight)

go_back_n_held : (w : SendWindow) (g h : ℕ) (rest : List ℕ) → WindowFits w
    → held_sender (258 ∷ w.window_size ∷ w.send_base ∷ w.next_seq_num ∷ w.total_sent ∷ w.retransmissions ∷ g ∷ h ∷ rest) ≡ held (senderState.GoBackN (record { window = w }))
unfolding held_sender
go_back_n_held w g h rest fits = rw (readable 258 w g h rest fits)

selective_repeat_held : (w : SendWindow) (g h : ℕ) (rest : List ℕ) → WindowFits w
    → held_sender (259 ∷ w.window_size ∷ w.send_base ∷ w.next_seq_num ∷ w.total_sent ∷ w.retransmissions ∷ g ∷ h ∷ rest) ≡ held (senderState.SelectiveRepeat (record { window = w }))
unfolding held_sender
selective_repeat_held w g h rest fits = rw (readable 259 w g h rest fits)

-- what is put into words of its kind is what they hold
pub sender_held : (s : List ℕ) (x : SenderState) → state_words ≤ length s → get_or s 0 0 ≡ sender_word (protocol_of x) → SenderFits x → held_sender (with_sender s x) ≡ held x
unfolding with_sender with_stop_and_wait with_window
sender_held s (senderState.StopAndWait w) l k fits =
    let u = apart s 257 l k in
    ap (λ (t : List ℕ). held_sender (with_sender t (senderState.StopAndWait w))) u.are ∙ stop_and_wait_held w u.rest fits
sender_held s (senderState.GoBackN w) l k fits =
    let u = apart s 258 l k in
    ap (λ (t : List ℕ). held_sender (with_sender t (senderState.GoBackN w))) u.are ∙ go_back_n_held w.window u.g u.h u.rest fits
sender_held s (senderState.SelectiveRepeat w) l k fits =
    let u = apart s 259 l k in
    ap (λ (t : List ℕ). held_sender (with_sender t (senderState.SelectiveRepeat w))) u.are ∙ selective_repeat_held w.window u.g u.h u.rest fits

pub sender_made_held : (s : List ℕ) (x : SenderState) → state_words ≤ length s → SenderFits x → held_sender (with_sender (with_kind s (sender_word (protocol_of x))) x) ≡ held x
sender_made_held s x l fits =
    let n = kind_length s (sender_word (protocol_of x)) in
    sender_held (with_kind s (sender_word (protocol_of x))) x (omega (arith, n, l)) (kind_made s (sender_word (protocol_of x)) l) fits

-- ---- receivers
abbrev pub receiver_protocol_of : ReceiverState → ProtocolType
receiver_protocol_of (receiverState.StopAndWait r) = protocol.StopAndWait
receiver_protocol_of (receiverState.GoBackN r) = protocol.GoBackN
receiver_protocol_of (receiverState.SelectiveRepeat r) = protocol.SelectiveRepeat

abbrev pub ReceiverFits : ReceiverState → Type 0
ReceiverFits x = (receiver_fields x).base ≤ 4294967295

receiver_readable : (a b c d e f g h : ℕ) (rest : List ℕ) → c ≤ 4294967295 → receiver_unreadable (a ∷ b ∷ c ∷ d ∷ e ∷ f ∷ g ∷ h ∷ rest) ≡ false
unfolding receiver_unreadable any_of
receiver_readable a b c d e f g h rest fits = rw (long a b c d e f g h rest, le-ltb 4294967295 c fits)

stop_and_wait_receiver_held : (r : StopAndWaitReceiver) (h : ℕ) (rest : List ℕ) → r.expected_seq ≤ 4294967295
    → held_receiver (260 ∷ 1 ∷ r.expected_seq ∷ r.filled ∷ r.total_received ∷ r.duplicates_count ∷ r.corrupted_count ∷ h ∷ rest) ≡ held_by (receiverState.StopAndWait r)
unfolding held_receiver
stop_and_wait_receiver_held r h rest fits = rw (receiver_readable 260 1 r.expected_seq r.filled r.total_received r.duplicates_count r.corrupted_count h rest fits)

go_back_n_receiver_held : (r : GoBackNReceiver) (h : ℕ) (rest : List ℕ) → r.expected_seq ≤ 4294967295
    → held_receiver (261 ∷ 1 ∷ r.expected_seq ∷ r.filled ∷ r.total_received ∷ r.discarded_out_of_order ∷ r.duplicate_acks_sent ∷ h ∷ rest) ≡ held_by (receiverState.GoBackN r)
unfolding held_receiver
go_back_n_receiver_held r h rest fits = rw (receiver_readable 261 1 r.expected_seq r.filled r.total_received r.discarded_out_of_order r.duplicate_acks_sent h rest fits)

selective_repeat_receiver_held : (r : SelectiveRepeatReceiver) (h : ℕ) (rest : List ℕ) → r.recv_base ≤ 4294967295
    → held_receiver (262 ∷ r.window_size ∷ r.recv_base ∷ r.filled ∷ r.total_received ∷ r.buffered_out_of_order ∷ r.duplicates_count ∷ h ∷ rest) ≡ held_by (receiverState.SelectiveRepeat r)
unfolding held_receiver
selective_repeat_receiver_held r h rest fits = rw (receiver_readable 262 r.window_size r.recv_base r.filled r.total_received r.buffered_out_of_order r.duplicates_count h rest fits)

pub receiver_held : (s : List ℕ) (x : ReceiverState) → state_words ≤ length s → get_or s 0 0 ≡ receiver_word (receiver_protocol_of x) → ReceiverFits x → held_receiver (with_receiver s x) ≡ held_by x
unfolding with_fields receiver_fields
receiver_held s (receiverState.StopAndWait r) l k fits =
    let u = apart s 260 l k in
    ap (λ (t : List ℕ). held_receiver (with_receiver t (receiverState.StopAndWait r))) u.are ∙ stop_and_wait_receiver_held r u.h u.rest fits
receiver_held s (receiverState.GoBackN r) l k fits =
    let u = apart s 261 l k in
    ap (λ (t : List ℕ). held_receiver (with_receiver t (receiverState.GoBackN r))) u.are ∙ go_back_n_receiver_held r u.h u.rest fits
receiver_held s (receiverState.SelectiveRepeat r) l k fits =
    let u = apart s 262 l k in
    ap (λ (t : List ℕ). held_receiver (with_receiver t (receiverState.SelectiveRepeat r))) u.are ∙ selective_repeat_receiver_held r u.h u.rest fits

pub receiver_made_held : (s : List ℕ) (x : ReceiverState) → state_words ≤ length s → ReceiverFits x → held_receiver (with_receiver (with_kind s (receiver_word (receiver_protocol_of x))) x) ≡ held_by x
receiver_made_held s x l fits =
    let n = kind_length s (receiver_word (receiver_protocol_of x)) in
    receiver_held (with_kind s (receiver_word (receiver_protocol_of x))) x (omega (arith, n, l)) (kind_made s (receiver_word (receiver_protocol_of x)) l) fits
