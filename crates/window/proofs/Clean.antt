-- A window's slots stay clean, whatever its sender does to them.
use Rattle.std.specs.Prelude.{Err, None, Ok, Option, Result}
use Prim.Native.Nat.{ℕ, zero, suc, ◌+◌, ◌-◌, ◌*◌, ◌%◌, ◌≤◌, ◌<◌}
use mathlib.Core.List.{List}
use mathlib.Core.Path.{◌≡◌, refl, ◌∙◌}
use mathlib.Core.Bool.{Bool, true, false, cond}
use native.Mathlib.Omega.{arith}
use native.Mathlib.Nat.{mod-lt}
use lib.Dec.{eqb}
use lib.ListN.{length, drop, replicate, length-replicate}
use Rattle.refusal.specs.Order.{decide}
use Rattle.refusal.specs.declared.Refusal.{Refusal}
use Rattle.store.specs.Slot.{empty_slot}
use Rattle.store.specs.Clean.{CleanSlots}
use Rattle.store.proofs.Laws.{slot_in, slot_bytes_length}
use Rattle.store.proofs.Clean.{filled_clean, empty_clean, put_clean, byte_clean, made_clean}
use Rattle.window.specs.Slots.{Sender, Clean, fresh, hold, mark_retransmitted, empty_from, release}
use Rattle.window.specs.Resending.{mark_from, timeout_exit, resend}
use Rattle.window.proofs.Slots.{empty_length}
use Rattle.window.proofs.Resending.{mark_one}

-- ---- a store
module _ (store : List ℕ) (w n : ℕ) (some : 0 < w) (room : w * 1404 ≤ length store) (c : CleanSlots store w) where
  pub emptied_clean : CleanSlots (empty_slot store (n % w)) w
  emptied_clean = put_clean store w room c (n % w) (replicate 1404 0) (mod-lt n some) (length-replicate {A = ℕ} 1404 0) empty_clean

pub empty_from_clean : (store : List ℕ) (w n k : ℕ) → 0 < w → w * 1404 ≤ length store → CleanSlots store w → CleanSlots (empty_from store w n k) w
unfolding empty_from
empty_from_clean store w n zero some room c = c
empty_from_clean store w n (suc k) some room c =
    empty_from_clean (empty_slot store (n % w)) w (n + 1) k some (rw (empty_length store (n % w) (slot_in store n w some room)) room) (emptied_clean store w n some room c)

-- ---- a window with its store
pub fresh_clean : (w : ℕ) (store : List ℕ) → Clean (fresh w store)
unfolding fresh
fresh_clean w store = made_clean (drop (w * 1404) store) w

module _ (v : Sender) (some : 0 < v.window.window_size) (room : v.window.window_size * 1404 ≤ length v.store) (c : Clean v) where
  pub hold_clean : (payload : List ℕ) → length payload ≤ 1400 → Clean (hold v payload)
  unfolding hold
  hold_clean payload short =
      put_clean v.store v.window.window_size room c (v.window.next_seq_num % v.window.window_size) _ (mod-lt v.window.next_seq_num some) (slot_bytes_length payload 1 0 short) (filled_clean payload 1 0 short)

  pub release_clean : (until : ℕ) → Clean (release v until)
  unfolding release
  release_clean until = empty_from_clean v.store v.window.window_size v.window.send_base (until - v.window.send_base) some room c

  pub again_clean : (n : ℕ) → Clean (mark_retransmitted v n)
  unfolding mark_retransmitted
  again_clean n = byte_clean v.store v.window.window_size room c (n % v.window.window_size) 3 _ (omega arith) (omega arith)

-- what sending again leaves: a window of the same size, and its slots clean
pub record SlotsKept (v u : Sender) : Type 0 where
  pub clean : Clean u
  pub size : u.window.window_size ≡ v.window.window_size

marked_clean : (v : Sender) (n k : ℕ) → 0 < v.window.window_size → v.window.window_size * 1404 ≤ length v.store → Clean v → SlotsKept v (mark_from v n k)
unfolding mark_from
marked_clean v n zero some room c = record { clean = c; size = refl }
marked_clean v n (suc k) some room c =
    let one = mark_one v n in
    let kept = marked_clean (mark_retransmitted v n) (n + 1) k (rw one.window_size some) (rw (one.window_size, one.store_length) room) (again_clean v some room c n) in
    record { clean = kept.clean; size = kept.size ∙ one.window_size }

by_verdict : (P : Sender → Type 0) (x : Result Unit Refusal) (t : Bool) (f : Refusal → Result (Option ℕ) Refusal) (a b : Result (Option ℕ) Refusal) (v u : Sender) (out last : List ℕ) → P v → P u
    → P (decide x (λ r. timeout_exit (f r) v out) (cond t (timeout_exit a v out) (timeout_exit b u last))).after
unfolding decide
by_verdict P (Ok tt) true f a b v u out last p q = p
by_verdict P (Ok tt) false f a b v u out last p q = q
by_verdict P (Err r) t f a b v u out last p q = p

pub resend_clean : (broken counts : Bool) (v : Sender) (n k : ℕ) (out : List ℕ) → 0 < v.window.window_size → v.window.window_size * 1404 ≤ length v.store → Clean v → SlotsKept v (resend broken counts v n k out).after
unfolding resend
resend_clean broken counts v n k out some room c =
    by_verdict (SlotsKept v) _ (eqb k 0) Err (Ok None) _ v (mark_from v n k) out _ (record { clean = c; size = refl }) (marked_clean v n k some room c)
