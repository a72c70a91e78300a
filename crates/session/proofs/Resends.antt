-- What a timeout sends again, by the numbers: marking them and writing one after the other is the whole call.
use Rattle.std.specs.Prelude.{None, Ok, Some}
use Prim.Native.Nat.{ℕ, zero, suc, ◌+◌, ◌-◌, ◌*◌, ◌≤◌, ◌<◌, min}
use mathlib.Core.Path.{◌≡◌, refl, sym, ap, ◌∙◌, subst}
use mathlib.Core.Bool.{Bool, true, false, cond}
use mathlib.Core.List.{List, [], ◌++◌, map}
use native.Mathlib.Omega.{arith}
use borrow.Author.Tests.{ltb-true}
use lib.ListN.{length, take, drop, length-replicate}
use lib.Seq.{take-append_seam}
use lib.Dec.{ltb}
use Rattle.bounds.specs.Bounds.{max_datagram}
use Rattle.protocol.specs.Runs.{up_from}
use Rattle.window.specs.State.{state_broken, counts_broken, outstanding}
use Rattle.window.specs.Slots as slots
use Rattle.window.specs.Slots.{mark_retransmitted, datagram_for}
use Rattle.window.specs.Resending.{datagrams_from, mark_from, sent_again, TimeoutExit, timeout_exit, resend}
use Rattle.window.specs.declared.SendWindow.{SendWindow}
use Rattle.window.proofs.Laws.{sound, resend_nothing, resend_some}
use Rattle.window.proofs.Resending.{mark_one, mark_from_lem}
use Rattle.stop_and_wait.specs.Sender as stop_and_wait
use Rattle.stop_and_wait.specs.declared.StopAndWaitSender.{StopAndWaitSender}
use Rattle.selective_repeat.specs.Sender as selective_repeat
use Rattle.selective_repeat.proofs.Laws.{due_within}
use Rattle.refinement.proofs.Laws.{datagrams_are}
use Rattle.delivery.specs.Calls.{datagrams}
use Rattle.delivery.proofs.Laws.{again_within, datagrams_flatten}
use Rattle.tallies.proofs.Laws.{all_framed}
use Rattle.session.specs.declared.SenderState.{SenderState}
use Rattle.session.specs.declared.SenderState.TheVariants as senderState
use Rattle.session.specs.declared.Timeout.{Timeout}
use Rattle.session.specs.declared.Timeout.TheVariants as timeout
use Rattle.session.specs.Sending.{SenderEnd, sender_in, stop_and_wait_end, go_back_nEnd, selective_repeat_end, window_of, window_end, timed_out_as, timeout_number, handle_timeout, Resent, resent_by, ample_buffer, resent, resent_numbers}
use Rattle.session.specs.GoodSender.{is_selective, SenderUnbroken, Within}
use Rattle.session.specs.Internal.{resend_count}

abbrev made : SenderEnd → List (List ℕ) → Resent
made v packets = record { after = v; packets = packets }

no_datagrams : datagrams [] ≡ []
unfolding datagrams
no_datagrams = refl

-- the datagrams that were written, found again
pieces : (v : slots.Sender) (n k : ℕ) (rest : List ℕ) → datagrams (take (length (datagrams_from v n k)) (datagrams_from v n k ++ rest)) ≡ map (datagram_for v) (up_from n k)
pieces v n k rest =
    ap datagrams (take-append_seam (datagrams_from v n k) rest ∙ datagrams_are v n k) ∙ datagrams_flatten (map (datagram_for v) (up_from n k)) (all_framed v n k)

pub nothing_resent : (broken counts : Bool) (v : slots.Sender) (n : ℕ) (out : List ℕ) → broken ≡ false → counts ≡ false
    → resend broken counts v n 0 out ≡ timeout_exit (Ok None) v out
nothing_resent broken counts v n out e f = sym (resend_nothing broken counts v n 0 out e f refl)

module _ (selective : Bool) (v : slots.Sender) (n k : ℕ) (out : List ℕ) (state : state_broken selective v.window v.store ≡ false) (counts : counts_broken v.window ≡ false)
    (within : Within v.window n (suc k)) (room : v.window.window_size * max_datagram ≤ length out) where
  some_resent : resend (state_broken selective v.window v.store) (counts_broken v.window) v n (suc k) out
      ≡ timeout_exit (Ok (Some (length (sent_again v n (suc k))))) (mark_from v n (suc k)) (sent_again v n (suc k) ++ drop (length (sent_again v n (suc k))) out)
  some_resent =
      let from = within.from in
      let below = within.below in
      let few = (sound selective v.window v.store state).few in
      let size = again_within selective v n (suc k) state from below in
      sym (resend_some _ _ v n (suc k) out _ _ _ state counts (λ e. omega arith) (omega arith) refl refl refl)

-- a Go-Back-N or Selective Repeat sender
pub window_resent : (selective : Bool) (v : slots.Sender) (n k : ℕ) (out : List ℕ) (end : slots.Sender → SenderEnd) → ((u : slots.Sender) → window_end (end u) ≡ u)
    → state_broken selective v.window v.store ≡ false → counts_broken v.window ≡ false → Within v.window n k → v.window.window_size * max_datagram ≤ length out
    → resent_by (timed_out_as end (resend (state_broken selective v.window v.store) (counts_broken v.window) v n k out)) ≡ resent_numbers (end (mark_from v n k)) n k
unfolding mark_from
window_resent selective v n zero out end view state counts within room =
    ap (λ (x : TimeoutExit slots.Sender). resent_by (timed_out_as end x)) (nothing_resent _ _ v n out state counts) ∙ ap (made (end v)) no_datagrams
window_resent selective v n (suc k) out end view state counts within room =
    ap (λ (x : TimeoutExit slots.Sender). resent_by (timed_out_as end x)) (some_resent selective v n k out state counts within room)
    ∙ ap (made (end (mark_from v n (suc k)))) (pieces (mark_from v n (suc k)) n (suc k) _ ∙ ap (λ (u : slots.Sender). map (datagram_for u) (up_from n (suc k))) (sym (view (mark_from v n (suc k)))))

ample : (v : SenderEnd) → (window_of v.sender).window_size * max_datagram ≤ length (ample_buffer v.sender)
ample v = let e = length-replicate {A = ℕ} ((window_of v.sender).window_size * max_datagram) 0 in omega arith

-- the numbers stay within the window
pub marks_within : (v : slots.Sender) (i j n k : ℕ) → Within v.window n k → Within (mark_from v i j).window n k
unfolding mark_from mark_retransmitted
marks_within v i zero n k h = h
marks_within v i (suc j) n k h = marks_within (mark_retransmitted v i) (i + 1) j n k (record { from = h.from; below = h.below })

pub within_marked : (v : slots.Sender) {u : slots.Sender} (i j n k : ℕ) → u ≡ mark_from v i j → Within v.window n k → Within u.window n k
within_marked v i j n k e h = rw e (marks_within v i j n k h)

-- ---- Go-Back-N
pub count_within : (selective : Bool) (s : SendWindow) (store : List ℕ) (t : Timeout) → state_broken selective s store ≡ false → Within s s.send_base (resend_count (outstanding s) t)
count_within selective s store t e = let o = (sound selective s store e).ordered in record { from = omega arith; below = by_timeout_lem t o }
  where
    by_timeout_lem : (t : Timeout) → s.send_base ≤ s.next_seq_num → s.send_base + resend_count (outstanding s) t ≤ s.next_seq_num
    by_timeout_lem timeout.All o = omega arith
    by_timeout_lem timeout.Earliest o = omega arith
    by_timeout_lem (timeout.Number m) o = omega arith

module _ (v : slots.Sender) (h : SenderUnbroken (go_back_nEnd v)) where
  go_back_n_by : (t : Timeout) → Within v.window v.window.send_base (resend_count (outstanding v.window) t)
      → resent (go_back_nEnd v) t ≡ resent_numbers (go_back_nEnd (mark_from v v.window.send_base (resend_count (outstanding v.window) t))) v.window.send_base (resend_count (outstanding v.window) t)
  unfolding resent handle_timeout
  go_back_n_by timeout.All w = window_resent false v _ _ _ go_back_nEnd (λ u. refl) h.state h.counts w (ample (go_back_nEnd v))
  go_back_n_by timeout.Earliest w = window_resent false v _ _ _ go_back_nEnd (λ u. refl) h.state h.counts w (ample (go_back_nEnd v))
  go_back_n_by (timeout.Number m) w = window_resent false v _ _ _ go_back_nEnd (λ u. refl) h.state h.counts w (ample (go_back_nEnd v))

  pub go_back_n_resent : (t : Timeout) {u : slots.Sender} {k : ℕ} → k ≡ resend_count (outstanding v.window) t → u ≡ mark_from v v.window.send_base k
      → resent_numbers (go_back_nEnd u) v.window.send_base k ≡ resent (go_back_nEnd v) t
  go_back_n_resent t e f = rw (f, e) (sym (go_back_n_by t (count_within false v.window v.store t h.state)))

-- ---- Selective Repeat
module _ (v : slots.Sender) (h : SenderUnbroken (selective_repeat_end v)) (t : Timeout) {n : ℕ} (is : n ≡ timeout_number v.window t) where
  pub due_number : selective_repeat.due v n ≡ true → Within v.window n 1
  due_number e = let i = due_within v n e in record { from = i.0; below = omega (arith, i.1) }

  pub selective_repeat_resent : {u : slots.Sender} → selective_repeat.due v n ≡ true → u ≡ mark_from v n 1 → resent_numbers (selective_repeat_end u) n 1 ≡ resent (selective_repeat_end v) t
  unfolding resent handle_timeout
  selective_repeat_resent due f =
      let out = ample_buffer (selective_repeat_end v).sender in
      rw f (sym (ap (λ (m : ℕ). resent_by (timed_out_as selective_repeat_end (selective_repeat.handle_timeout v m out))) (sym is)
      ∙ ap (λ (b : Bool). resent_by (timed_out_as selective_repeat_end (resend (state_broken true v.window v.store) (counts_broken v.window) v n (cond b 1 0) out))) due
      ∙ window_resent true v n 1 out selective_repeat_end (λ u. refl) h.state h.counts (due_number due) (ample (selective_repeat_end v))))

  pub selective_repeat_nothing : (first : ℕ) → selective_repeat.due v n ≡ false → resent_numbers (selective_repeat_end v) first 0 ≡ resent (selective_repeat_end v) t
  unfolding resent handle_timeout
  selective_repeat_nothing first due =
      let out = ample_buffer (selective_repeat_end v).sender in
      sym (ap (λ (m : ℕ). resent_by (timed_out_as selective_repeat_end (selective_repeat.handle_timeout v m out))) (sym is)
      ∙ ap (λ (b : Bool). resent_by (timed_out_as selective_repeat_end (resend (state_broken true v.window v.store) (counts_broken v.window) v n (cond b 1 0) out))) due
      ∙ ap (λ (x : TimeoutExit slots.Sender). resent_by (timed_out_as selective_repeat_end x)) (nothing_resent _ _ v n out h.state h.counts)
      ∙ ap (made (selective_repeat_end v)) no_datagrams)

-- ---- Stop-and-Wait
pub stop_and_wait_count : (s : StopAndWaitSender) (a b : Bool) → s.in_flight ≡ a → ltb s.current_retries s.max_retries ≡ b
    → cond a (cond b 1 0) 0 ≡ min (stop_and_wait.retries_left s) (outstanding (stop_and_wait.window_of s))
stop_and_wait_count s false b e f = rw e (omega arith)
stop_and_wait_count s true false e f = rw (e, f) (omega arith)
stop_and_wait_count s true true e f = rw (e, f) (omega arith)

module _ (s : StopAndWaitSender) (store : List ℕ) (h : SenderUnbroken (sender_in (senderState.StopAndWait s) store)) (t : Timeout) {k : ℕ}
    (is : k ≡ min (stop_and_wait.retries_left s) (outstanding (stop_and_wait.window_of s))) where
  abbrev v : stop_and_wait.End
  v = stop_and_wait.end_of s store

  pub idle_within : Within (stop_and_wait.window_of s) s.current_seq k
  idle_within = let o = (sound false (stop_and_wait.window_of s) store h.state).ordered in record { from = omega arith; below = omega arith }

  by_count : (j : ℕ) → k ≡ j → resent (stop_and_wait_end v) t
      ≡ resent_by (timed_out_as stop_and_wait_end (stop_and_wait.timed_out s (resend (state_broken false (stop_and_wait.window_of s) store) (counts_broken (stop_and_wait.window_of s)) (stop_and_wait.window_end v) s.current_seq j (ample_buffer (stop_and_wait_end v).sender))))
  unfolding resent handle_timeout
  by_count j e = ap (λ (i : ℕ). resent_by (timed_out_as stop_and_wait_end (stop_and_wait.timed_out s (resend (state_broken false (stop_and_wait.window_of s) store) (counts_broken (stop_and_wait.window_of s)) (stop_and_wait.window_end v) s.current_seq i (ample_buffer (stop_and_wait_end v).sender))))) (sym is ∙ e)

  pub stop_and_wait_nothing : k ≡ 0 → resent_numbers (stop_and_wait_end v) s.current_seq k ≡ resent (stop_and_wait_end v) t
  stop_and_wait_nothing z =
      rw z (sym (by_count 0 z
      ∙ ap (λ (x : TimeoutExit slots.Sender). resent_by (timed_out_as stop_and_wait_end (stop_and_wait.timed_out s x))) (nothing_resent _ _ (stop_and_wait.window_end v) _ _ h.state h.counts)
      ∙ ap (made (stop_and_wait_end v)) no_datagrams))

  some_is_one : (k ≡ 0 → ⊥) → k ≡ 1
  some_is_one z = let few = (sound false (stop_and_wait.window_of s) store h.state).few in omega arith

  marked_window : window_end (stop_and_wait_end (stop_and_wait.marked_again v)) ≡ mark_from (stop_and_wait.window_end v) s.current_seq 1
  unfolding mark_from mark_retransmitted
  marked_window = refl

  pub stop_and_wait_resent : {u : stop_and_wait.End} → (k ≡ 0 → ⊥) → u ≡ stop_and_wait.marked_again v → resent_numbers (stop_and_wait_end u) s.current_seq k ≡ resent (stop_and_wait_end v) t
  unfolding mark_from
  stop_and_wait_resent z f =
      let one = some_is_one z in
      let within : Within (stop_and_wait.window_of s) s.current_seq 1 = subst (Within (stop_and_wait.window_of s) s.current_seq) one idle_within in
      rw (f, one) (sym (by_count 1 one
      ∙ ap (λ (x : TimeoutExit slots.Sender). resent_by (timed_out_as stop_and_wait_end (stop_and_wait.timed_out s x))) (some_resent false (stop_and_wait.window_end v) s.current_seq 0 _ h.state h.counts within (ample (stop_and_wait_end v)))
      ∙ ap (made (stop_and_wait_end (stop_and_wait.marked_again v))) (pieces _ _ 1 _ ∙ ap (λ (u : slots.Sender). map (datagram_for u) (up_from s.current_seq 1)) (sym marked_window))))

  pub marked_within : {u : stop_and_wait.End} → u ≡ stop_and_wait.marked_again v → Within (window_of (stop_and_wait_end u).sender) s.current_seq k
  unfolding mark_retransmitted
  marked_within f = rw f (record { from = idle_within.from; below = idle_within.below })

  pub retry_left : (k ≡ 0 → ⊥) → s.current_retries < s.max_retries
  retry_left z = by_test_lem (ltb s.current_retries s.max_retries) refl (omega arith)
    where
      by_test_lem : (b : Bool) → ltb s.current_retries s.max_retries ≡ b → 0 < cond b 1 0 → s.current_retries < s.max_retries
      by_test_lem true e l = ltb-true _ _ e
      by_test_lem false e l = absurd (omega arith)

-- by the protocol y that the state x has
module _ (x y : SenderState) (store : List ℕ) (e : x ≡ y) where
  pub unbroken_in : SenderUnbroken (sender_in x store) → SenderUnbroken (sender_in y store)
  unbroken_in h = subst (λ (z : SenderState). SenderUnbroken (sender_in z store)) e h

  pub resent_in : (t : Timeout) {r : Resent} → r ≡ resent (sender_in y store) t → r ≡ resent (sender_in x store) t
  resent_in t f = f ∙ ap (λ (z : SenderState). resent (sender_in z store) t) (sym e)

-- ---- what marking and counting leave as it was
pub record SameWindow (v u : SenderEnd) : Type 0 where
  pub size : (window_of u.sender).window_size ≡ (window_of v.sender).window_size
  pub base : (window_of u.sender).send_base ≡ (window_of v.sender).send_base
  pub next : (window_of u.sender).next_seq_num ≡ (window_of v.sender).next_seq_num
  pub selective : is_selective u.sender.state ≡ is_selective v.sender.state
  pub store : length u.store ≡ length v.store

same_window : (v : SenderEnd) → SameWindow v v
same_window v = record { size = refl; base = refl; next = refl; selective = refl; store = refl }

record SameNumbers (v u : slots.Sender) : Type 0 where
  size : u.window.window_size ≡ v.window.window_size
  base : u.window.send_base ≡ v.window.send_base
  next : u.window.next_seq_num ≡ v.window.next_seq_num

marks_same : (v : slots.Sender) (n k : ℕ) → SameNumbers v (mark_from v n k)
unfolding mark_from mark_retransmitted
marks_same v n zero = record { size = refl; base = refl; next = refl }
marks_same v n (suc k) =
    let rest = marks_same (mark_retransmitted v n) (n + 1) k in
    record { size = rest.size; base = rest.base; next = rest.next }

-- ---- any of them
pub record ResentAs (v : SenderEnd) (t : Timeout) : Type 0 where
  pub first : ℕ
  pub count : ℕ
  pub within : Within (window_of v.sender) first count
  pub packets_are : (resent v t).packets ≡ map (datagram_for (window_end (resent v t).after)) (up_from first count)
  pub same : SameWindow v (resent v t).after

resent_by_lem : (v u : SenderEnd) (t : Timeout) (first count : ℕ) → SameWindow v u → Within (window_of v.sender) first count → resent_numbers u first count ≡ resent v t → ResentAs v t
resent_by_lem v u t first count same w e =
    record {
      first = first;
      count = count;
      within = w;
      same = subst (SameWindow v) (ap (λ (r : Resent). r.after) e) same;
      packets_are = sym (ap (λ (r : Resent). r.packets) e) ∙ ap (λ (r : Resent). map (datagram_for (window_end r.after)) (up_from first count)) e;
    }

go_back_n_same : (v : slots.Sender) (n k : ℕ) → SameWindow (go_back_nEnd v) (go_back_nEnd (mark_from v n k))
go_back_n_same v n k = let s = marks_same v n k in record { size = s.size; base = s.base; next = s.next; selective = refl; store = (mark_from_lem v n k).store_length }

selective_same : (v : slots.Sender) (n k : ℕ) → SameWindow (selective_repeat_end v) (selective_repeat_end (mark_from v n k))
selective_same v n k = let s = marks_same v n k in record { size = s.size; base = s.base; next = s.next; selective = refl; store = (mark_from_lem v n k).store_length }

marked_same : (s : StopAndWaitSender) (store : List ℕ) → SameWindow (sender_in (senderState.StopAndWait s) store) (stop_and_wait_end (stop_and_wait.marked_again (stop_and_wait.end_of s store)))
marked_same s store = record { size = refl; base = refl; next = refl; selective = refl; store = (mark_one (stop_and_wait.window_end (stop_and_wait.end_of s store)) s.current_seq).store_length }

pub resent_as : (v : SenderEnd) (t : Timeout) → SenderUnbroken v → ResentAs v t
resent_as v t h = by_state v.sender.state v.store h
  where
    stop_and_wait_lem : (s : StopAndWaitSender) (store : List ℕ) → SenderUnbroken (sender_in (senderState.StopAndWait s) store) → (k : ℕ) → min (stop_and_wait.retries_left s) (outstanding (stop_and_wait.window_of s)) ≡ k
        → ResentAs (sender_in (senderState.StopAndWait s) store) t
    stop_and_wait_lem s store h zero e = resent_by_lem _ _ t _ 0 (same_window _) (idle_within s store h t (sym e)) (stop_and_wait_nothing s store h t (sym e) refl)
    stop_and_wait_lem s store h (suc k) e = resent_by_lem _ _ t _ (suc k) (marked_same s store) (idle_within s store h t (sym e)) (stop_and_wait_resent s store h t (sym e) (λ z. omega arith) refl)

    selective_repeat_lem : (u : slots.Sender) → SenderUnbroken (selective_repeat_end u) → (b : Bool) → selective_repeat.due u (timeout_number u.window t) ≡ b → ResentAs (selective_repeat_end u) t
    selective_repeat_lem u h true e = resent_by_lem _ _ t _ 1 (selective_same u _ 1) (due_number u h t refl e) (selective_repeat_resent u h t refl e refl)
    selective_repeat_lem u h false e =
        let o = (sound true u.window u.store h.state).ordered in
        resent_by_lem _ _ t u.window.send_base 0 (same_window _) (record { from = omega arith; below = omega arith }) (selective_repeat_nothing u h t refl u.window.send_base e)

    by_state : (s : SenderState) (store : List ℕ) → SenderUnbroken (sender_in s store) → ResentAs (sender_in s store) t
    by_state (senderState.StopAndWait s) store h = stop_and_wait_lem s store h _ refl
    by_state (senderState.GoBackN s) store h = resent_by_lem _ _ t _ _ (go_back_n_same (slots.sender s.window store) _ _) (count_within false s.window store t h.state) (go_back_n_resent (slots.sender s.window store) h t refl refl)
    by_state (senderState.SelectiveRepeat s) store h = selective_repeat_lem (slots.sender s.window store) h _ refl
