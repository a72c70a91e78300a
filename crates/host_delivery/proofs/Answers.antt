-- What a host reads from the answers of the ends: done or not, refused or not, and the bytes written.
use Rattle.std.specs.Prelude.{Err, None, Ok, Option, Result, Some}
use Prim.Native.Nat.{ℕ, ◌<◌}
use mathlib.Core.Path.{◌≡◌, refl}
use mathlib.Core.List.{List, []}
use mathlib.Core.Bool.{Bool, true, false, not}
use native.Mathlib.Omega.{arith}
use borrow.Author.Tests.{le-leb, ne_eqb}
use lib.ListN.{take}
use Rattle.refusal.specs.Refusal.{entry_of}
use Rattle.refusal.specs.declared.Refusal.{Refusal}
use Rattle.delivery.specs.Ends.{bytes_sent, is_sent, is_send_refused, bytes_resent, is_resent, is_timeout_refused, is_handled, bytes_replied, is_received}
use Rattle.host_answer.specs.Answer.{packed, refusal_answer}
use Rattle.host_answer.proofs.Laws.{status_back, value_back, number_within, refusal_status}
use Rattle.host_ends.specs.Answers.{send_code, ack_code, timeout_code, receive_code}
use Rattle.host_ends.proofs.Fits.{SendFits, TimeoutFits}
use Rattle.host_delivery.specs.Host.{is_done, is_refused, bytes_written, ack_written}

pub done_read : (n : ℕ) → is_done (packed 0 n) ≡ true
done_read n = rw (status_back 0 n (omega arith)) refl

done_not_refused : (n : ℕ) → is_refused (packed 0 n) ≡ false
done_not_refused n = rw (status_back 0 n (omega arith)) refl

pub refused_not_done : (r : Refusal) → is_done (refusal_answer r) ≡ false
refused_not_done r = let from = (number_within r).from in rw (refusal_status r) (ne_eqb (entry_of r).number 0 (λ e. omega (arith, from, e)))

refused_read : (r : Refusal) → is_refused (refusal_answer r) ≡ true
refused_read r = let k = number_within r in rw (refusal_status r, le-leb 1 (entry_of r).number k.from, le-leb (entry_of r).number 11 k.to) refl

pub sent_done : (a : Result (Option ℕ) Refusal) → is_done (send_code a) ≡ is_sent a
unfolding send_code
sent_done (Ok (Some n)) = done_read n
sent_done (Ok None) = refl
sent_done (Err r) = refused_not_done r

pub sent_refused : (a : Result (Option ℕ) Refusal) → is_refused (send_code a) ≡ is_send_refused a
unfolding send_code
sent_refused (Ok (Some n)) = done_not_refused n
sent_refused (Ok None) = refl
sent_refused (Err r) = refused_read r

written_done : (n : ℕ) (out : List ℕ) → n < 72057594037927936 → bytes_written (packed 0 n) out ≡ take n out
written_done n out h = rw (done_read n, value_back 0 n (omega arith) h) refl

written_refused : (r : Refusal) (out : List ℕ) → bytes_written (refusal_answer r) out ≡ []
written_refused r out = rw (refused_not_done r) refl

pub sent_bytes_lem : (a : Result (Option ℕ) Refusal) (out : List ℕ) → SendFits a → bytes_written (send_code a) out ≡ bytes_sent a out
unfolding send_code
sent_bytes_lem (Ok (Some n)) out h = written_done n out h
sent_bytes_lem (Ok None) out h = refl
sent_bytes_lem (Err r) out h = written_refused r out

pub resent_done : (a : Result (Option ℕ) Refusal) → is_done (timeout_code a) ≡ is_resent a
unfolding timeout_code
resent_done (Ok (Some n)) = done_read n
resent_done (Ok None) = refl
resent_done (Err r) = refused_not_done r

pub resent_refused : (a : Result (Option ℕ) Refusal) → is_refused (timeout_code a) ≡ is_timeout_refused a
unfolding timeout_code
resent_refused (Ok (Some n)) = done_not_refused n
resent_refused (Ok None) = refl
resent_refused (Err r) = refused_read r

pub resent_bytes : (a : Result (Option ℕ) Refusal) (out : List ℕ) → TimeoutFits a → bytes_written (timeout_code a) out ≡ bytes_resent a out
unfolding timeout_code
resent_bytes (Ok (Some n)) out h = written_done n out h
resent_bytes (Ok None) out h = refl
resent_bytes (Err r) out h = written_refused r out

pub ack_refused : (n : ℕ) (a : Result Bool Refusal) → is_refused (ack_code n a) ≡ not (is_handled a)
unfolding ack_code
ack_refused n (Ok true) = done_not_refused n
ack_refused n (Ok false) = refl
ack_refused n (Err r) = refused_read r

pub packet_refused : (a : Result (Option ℕ) Refusal) → is_refused (receive_code a) ≡ not (is_received a)
unfolding receive_code
packet_refused (Ok (Some n)) = done_not_refused n
packet_refused (Ok None) = refl
packet_refused (Err r) = refused_read r

pub twice_not : (b : Bool) → not (not b) ≡ b
twice_not true = refl
twice_not false = refl

pub replied_bytes : (a : Result (Option ℕ) Refusal) (ack : List ℕ) → ack_written (receive_code a) ack ≡ bytes_replied a ack
unfolding receive_code
replied_bytes (Ok (Some n)) ack = rw (done_read n) refl
replied_bytes (Ok None) ack = refl
replied_bytes (Err r) ack = rw (refused_not_done r) refl
