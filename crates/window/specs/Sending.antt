-- Document 01, "Turned away" and "A full window is an ordinary answer"; arq/gbn.rs and arq/sr.rs, `new` and
-- `send_chunk`.
use Rattle.std.specs.Prelude.{ℕ, ◌+◌, ◌*◌, ◌≤◌, ◌<◌, List, [], ◌∷◌, ◌++◌, Bool, cond, ◌&&◌, length, drop}
use Rattle.std.specs.Prelude.{ltb, eqb, Err, None, Ok, Option, Result, Some}
use Rattle.bounds.specs.Bounds.{count_limit, header_size, max_payload, seq_num_limit, slot_size}
use Rattle.refusal.specs.declared.Refusal.TheVariants.{State, Counts, Setup, Numbers, Full}
use Rattle.refusal.specs.Order.{Check, check, verdict, decide}
use Rattle.packet.specs.Format.{check_long}
use Rattle.window.specs.State.{window_broken, store_short, outstanding, state_broken, counts_broken}
use Rattle.window.specs.Slots.{Sender, fresh, hold, first_datagram}
use Rattle.window.specs.declared.SendWindow.{SendWindow}
use Rattle.refusal.specs.declared.Refusal.{Refusal}

-- making: the answer, and the store when the call returns
pub record MakeExit (A : Type 0) : Type 0 where
  pub answer : A
  pub store : List ℕ

abbrev pub make_exit : {A : Type 0} → A → List ℕ → MakeExit A
make_exit a store = record { answer = a; store = store }

unfoldable pub make_window : ℕ → List ℕ → MakeExit (Result SendWindow Refusal)
make_window w store =
    decide (verdict (check (store_short store w) State ∷ check (window_broken w) Setup ∷ []))
    (λ r. make_exit (Err r) store)
    (make_exit (Ok (fresh w store).window) (fresh w store).store)

-- sending: the answer, and the state and the buffer when the call returns
pub record SendExit (S : Type 0) : Type 0 where
  pub answer : Result (Option ℕ) Refusal
  pub after : S
  pub out : List ℕ

abbrev pub send_exit : {S : Type 0} → Result (Option ℕ) Refusal → S → List ℕ → SendExit S
send_exit a v out = record { answer = a; after = v; out = out }

abbrev pub window_free : SendWindow → Bool
window_free s = ltb (outstanding s) s.window_size

unfoldable pub send_checks : Bool → Sender → List ℕ → List ℕ → List Check
send_checks selective v payload out =
    check (state_broken selective v.window v.store) State
    ∷ check (counts_broken v.window) Counts
    ∷ check_long payload
    ∷ check (window_free v.window && eqb v.window.next_seq_num seq_num_limit) Numbers
    ∷ check (window_free v.window && ltb (length out) (header_size + length payload)) Full
    ∷ []

abbrev pub send_chunk_unchecked : Sender → List ℕ → List ℕ → SendExit Sender
send_chunk_unchecked v payload out =
    let size = header_size + length payload in
    send_exit (Ok (Some size)) (hold v payload) (first_datagram v payload ++ drop size out)

-- a full window is an ordinary answer
unfoldable pub send_chunk : Bool → Sender → List ℕ → List ℕ → SendExit Sender
send_chunk selective v payload out =
    decide (verdict (send_checks selective v payload out))
    (λ r. send_exit (Err r) v out)
    (cond (window_free v.window) (send_chunk_unchecked v payload out) (send_exit (Ok None) v out))

-- what is asked below the entry point
pub record CanSendChunk (v : Sender) (payload out : List ℕ) : Type 0 where
  pub positive : 0 < v.window.window_size
  pub room : v.window.window_size * slot_size ≤ length v.store
  pub low : v.window.next_seq_num < seq_num_limit
  pub count : v.window.total_sent < count_limit
  pub short : length payload ≤ max_payload
  pub fits : header_size + length payload ≤ length out
