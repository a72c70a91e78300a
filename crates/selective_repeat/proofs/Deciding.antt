-- What a receiver decides on Data, by where its number stands.
use Prim.Native.Nat.{ℕ, ◌+◌, ◌-◌, ◌≤◌, ◌<◌}
use mathlib.Core.Path.{◌≡◌}
use mathlib.Core.Bool.{true, false, cond, and-false}
use native.Mathlib.Omega.{arith}
use borrow.Author.Tests.{eq-eqb, ne_eqb, lt-ltb, le-ltb, le-leb, lt-leb}
use lib.Dec.{ltb, leb}
use Rattle.selective_repeat.specs.Receiver.{Receiver, held, in_order, out_of_order, duplicate, unanswered, data_decision}

module _ (v : Receiver) (n : ℕ) where
  pub data_in_order : n ≡ v.state.recv_base → data_decision v n ≡ in_order v n
  unfolding data_decision
  data_in_order e = rw (eq-eqb n v.state.recv_base e)

  pub data_above : (n ≡ v.state.recv_base → ⊥) → v.state.recv_base + v.state.window_size ≤ n → data_decision v n ≡ unanswered v.state
  unfolding data_decision
  data_above other h =
      let a : ltb n (v.state.recv_base + v.state.window_size) ≡ false = le-ltb n (v.state.recv_base + v.state.window_size) h in
      let b : ltb n v.state.recv_base ≡ false = le-ltb n v.state.recv_base (omega arith) in
      rw (ne_eqb n v.state.recv_base other, a, b, and-false (ltb v.state.recv_base n), and-false (leb (v.state.recv_base - v.state.window_size) n))

  pub data_below : n + v.state.window_size < v.state.recv_base → data_decision v n ≡ unanswered v.state
  unfolding data_decision
  data_below h =
      let other : n ≡ v.state.recv_base → ⊥ = λ e. omega arith in
      let a : ltb v.state.recv_base n ≡ false = le-ltb v.state.recv_base n (omega arith) in
      let b : leb (v.state.recv_base - v.state.window_size) n ≡ false = lt-leb (v.state.recv_base - v.state.window_size) n (omega arith) in
      rw (ne_eqb n v.state.recv_base other, a, b)

  pub data_ahead : v.state.recv_base < n → n < v.state.recv_base + v.state.window_size → data_decision v n ≡ cond (held v n) (duplicate v n) (out_of_order v n)
  unfolding data_decision
  data_ahead h l =
      let other : n ≡ v.state.recv_base → ⊥ = λ e. omega arith in
      rw (ne_eqb n v.state.recv_base other, lt-ltb v.state.recv_base n h, lt-ltb n (v.state.recv_base + v.state.window_size) l)

  pub data_behind : n < v.state.recv_base → v.state.recv_base ≤ n + v.state.window_size → data_decision v n ≡ duplicate v n
  unfolding data_decision
  data_behind h l =
      let other : n ≡ v.state.recv_base → ⊥ = λ e. omega arith in
      let a : ltb v.state.recv_base n ≡ false = le-ltb v.state.recv_base n (omega arith) in
      let b : leb (v.state.recv_base - v.state.window_size) n ≡ true = le-leb (v.state.recv_base - v.state.window_size) n (omega arith) in
      rw (ne_eqb n v.state.recv_base other, a, b, lt-ltb n v.state.recv_base h)
