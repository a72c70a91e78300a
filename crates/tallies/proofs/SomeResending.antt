-- After any admissible list a resending exists: timeouts that send all outstanding numbers again, then what was made handed over in order.
use Prim.Native.Nat.{ℕ, zero, suc, ◌+◌, ◌-◌, ◌*◌, ◌≤◌, ◌<◌, min}
use mathlib.Core.Path.{◌≡◌, refl, sym, ap, ap₂, ◌∙◌, subst}
use mathlib.Core.Bool.{Bool, true, false, cond, and-eq-true_iff}
use mathlib.Core.List.{List, [], ◌∷◌, ◌++◌, map, append-nil, flatten}
use native.Mathlib.Omega.{arith}
use native.Mathlib.Nat.{min-eq_right, zero-add}
use borrow.Author.Tests.{le-ltb, le-leb, lt-ltb, ne_eqb}
use lib.ListN.{length, get_or, take, drop, replicate, length-append, length-replicate}
use lib.Seq.{take-append_seam, drop-append_seam, drop-append-le, drop-length}
use lib.Dec.{ltb, leb}
use Rattle.bounds.specs.Bounds.{max_datagram, seq_num_limit, count_limit}
use Rattle.octets.specs.Octets.{Octets}
use Rattle.protocol.specs.declared.ProtocolType.{ProtocolType}
use Rattle.protocol.specs.declared.ProtocolType.TheVariants.{StopAndWait, GoBackN, SelectiveRepeat}
use Rattle.protocol.specs.Runs.{up_from}
use Rattle.protocol.specs.Machine.{SenderState, segments_from, is_in_window}
use Rattle.protocol.specs.PlainMachine as plain
use Rattle.protocol.specs.PlainMachine.{PlainState, plain_step, not_noted, plain_outstanding, WindowFits}
use Rattle.protocol.specs.Trace as trace
use Rattle.protocol.proofs.Laws.{Invariant, chunks_length, claimed, Every, every_head, every_tail}
use Rattle.protocol.proofs.Outstanding.{in_window, kept_are}
use Rattle.window.specs.Slots as slots
use Rattle.window.specs.Slots.{datagram_for}
use Rattle.window.specs.State.{outstanding, state_broken, counts_broken}
use Rattle.window.specs.Resending.{TimeoutExit, sent_again, resend}
use Rattle.window.proofs.Laws.{sound}
use Rattle.refinement.specs.Good.{Good}
use Rattle.stop_and_wait.specs.Sender as stop_and_wait
use Rattle.store.specs.Numbers.{marked}
use Rattle.selective_repeat.specs.Sender as selective_repeat
use Rattle.selective_repeat.proofs.Laws.{due_within}
use Rattle.refinement.proofs.Rows.{read_at}
use Rattle.refinement.specs.Follows.{acknowledged_in, sender_of}
use Rattle.refinement.proofs.Laws as refinement
use Rattle.refinement.proofs.Laws.{ResendOutcome, timeout_refused, nothing_sent, sent_again_lem, resend_outcome}
use Rattle.delivery.specs.Calls.{Call, timeout, World, datagrams, step, run, Admissible, number_of, fed_by}
use Rattle.delivery.specs.Ends.{bytes_resent, is_resent, all, one, ends, fresh_ends, Made}
use Rattle.delivery.specs.Demand3.{plain_after, made_by, resend_start, ResendsAll}
use Rattle.delivery.specs.Room.{RoomToResend, RetryLeft}
use Rattle.delivery.proofs.Datagrams.{DataBytes, Each, datagrams_flatten, data_framed, data_numbers, numbers_from}
use Rattle.delivery.proofs.SenderFollows.{false_true, each_datagram}
use Rattle.delivery.specs.KuroseRoss.{event_by}
use Rattle.delivery.proofs.Simulation.{one_step}
use Rattle.delivery.proofs.Instances.{calls_follow}
use Rattle.delivery.proofs.Demand3.{follows}
use Rattle.delivery.proofs.Progress.{timeout_done, again_within}
use Rattle.tallies.proofs.NoneRefused.{Reached, sender_few, fresh_reached}
use Rattle.tallies.proofs.HandOvers.{reached_after, Completed, hand_overs, timeout_S, reached_run}

-- ---- the numbers of the datagrams that a timeout writes
again : (selective : Bool) (v : slots.Sender) (n k : ℕ) (out : List ℕ) (y : TimeoutExit slots.Sender) → ResendOutcome selective v n k out y → Octets v.store → is_resent y.answer ≡ true
    → map number_of (datagrams (bytes_resent y.answer y.out)) ≡ up_from n k
again selective v n k out y o octets e = elim o [
  | timeout_refused r f ↦ false_true (sym (ap (λ (x : TimeoutExit slots.Sender). is_resent x.answer) f) ∙ e)
  | nothing_sent z f ↦ false_true (sym (ap (λ (x : TimeoutExit slots.Sender). is_resent x.answer) f) ∙ e)
  | sent_again_lem x ↦
      let packets : List (List ℕ) = map (datagram_for y.after) (up_from n k) in
      let each : Each DataBytes packets (segments_from (sender_of v) n k) = each_datagram y.after (sender_of v) n k (λ i f g. x.datagrams octets i f g) in
      let wrote : bytes_resent y.answer y.out ≡ flatten packets = ap₂ bytes_resent x.answered x.front ∙ take-append_seam (flatten packets) _ in
      ap (λ (l : List ℕ). map number_of (datagrams l)) wrote ∙ ap (map number_of) (datagrams_flatten packets (data_framed packets _ each)) ∙ data_numbers packets _ each ∙ numbers_from (sender_of v) n k
]

window_again : (selective : Bool) (v : slots.Sender) (n k : ℕ) (out : List ℕ) → Good selective v → counts_broken v.window ≡ false → Octets v.store → v.window.send_base ≤ n
    → n + k ≤ v.window.next_seq_num → 0 < k → k * max_datagram ≤ length out
    → let y = resend (state_broken selective v.window v.store) (counts_broken v.window) v n k out in map number_of (datagrams (bytes_resent y.answer y.out)) ≡ up_from n k
window_again selective v n k out good counts octets from below some room =
    let l = again_within selective v n k good from below in
    let fits : length (sent_again v n k) ≤ length out = omega arith in
    again selective v n k out _ (resend_outcome selective v n k out (λ g h. (from, below))) octets
    (timeout_done _ _ v n k out good counts (le-ltb _ _ fits) (ne_eqb k 0 (λ (z : k ≡ 0). omega arith)))

length_map : {X Y : Type 0} (f : X → Y) (l : List X) → length (map f l) ≡ length l
length_map f [] = refl
length_map f (x ∷ l) = ap suc (length_map f l)

-- ---- without marks all numbers from A on are outstanding
none_noted : (marks : List Bool) (ns : List ℕ) → ((n : ℕ) → get_or marks n false ≡ false) → not_noted marks ns ≡ ns
none_noted marks [] h = refl
none_noted marks (n ∷ ns) h = rw (h n) (ap (λ (l : List ℕ). n ∷ l) (none_noted marks ns h))

in_order_outstanding : (w : ℕ) (v : slots.Sender) (m : trace.World) (s : PlainState) → Invariant false w m s → sender_of v ≡ m.sender → plain_outstanding s ≡ up_from v.window.send_base (outstanding v.window)
unfolding plain_outstanding
in_order_outstanding w v m s i e =
    let base : v.window.send_base ≡ s.A = ap (λ (x : SenderState). x.base) e ∙ i.ends.base_is in
    let count : outstanding v.window ≡ length s.sent - s.A = sym (refinement.chunks_length v) ∙ ap (λ (x : SenderState). length x.chunks) e ∙ chunks_length i.ends in
    none_noted s.at_sender _ i.own.none_noted ∙ ap₂ up_from (sym base) (sym count)

up_length : (n k : ℕ) → length (up_from n k) ≡ k
up_length n zero = refl
up_length n (suc k) = ap suc (up_length (suc n) k)

-- ---- one timeout before the rest
module _ (p : ProtocolType) (w : ℕ) (o : WindowFits p w) (rest : List ℕ) where
  timeout_before : (v : World (ends p)) (s : PlainState) (t : (ends p).Timeout) (buffer : List ℕ) (ns left : List ℕ) (i j : ℕ) → i ≤ length v.sent
      → map number_of (made_by (ends p) v (timeout t buffer)) ≡ ns
      → Completed p w o rest (record { world = step (ends p) v (timeout t buffer); plain = plain_step p w s (fed_by (ends p) v (timeout t buffer)); numbers = left; packets = drop i (step (ends p) v (timeout t buffer)).sent; replies = drop j v.replies })
      → Completed p w o rest (record { world = v; plain = s; numbers = ns ++ left; packets = drop i v.sent; replies = drop j v.replies })
  unfolding step
  timeout_before v s t buffer ns left i j f e next =
      let c : Call (ends p).Timeout = timeout t buffer in
      let made : List (List ℕ) = made_by (ends p) v c in
      let count : length made ≡ length ns = sym (length_map number_of made) ∙ ap length e in
      record {
        calls = c ∷ next.calls;
        resends = (
          ap (λ (k : ℕ). take k (ns ++ left)) count ∙ take-append_seam ns left ∙ sym e,
          subst (λ (l : List ℕ). ResendsAll p w (ends p) (record { world = step (ends p) v c; plain = plain_step p w s (fed_by (ends p) v c); numbers = l; packets = drop i v.sent ++ made; replies = drop j v.replies }) next.calls)
              (sym (ap (λ (k : ℕ). drop k (ns ++ left)) count ∙ drop-append_seam ns left))
              (subst (λ (l : List (List ℕ)). ResendsAll p w (ends p) (record { world = step (ends p) v c; plain = plain_step p w s (fed_by (ends p) v c); numbers = left; packets = l; replies = drop j v.replies }) next.calls)
              (drop-append-le i v.sent made f) next.resends),
        );
      }

  -- one timeout that sends them all
  single : (v : World (ends p)) (m : trace.World) (s : PlainState) (calls : ℕ) → Reached p w o rest v m s calls → RoomToResend p rest v s calls → (t : (ends p).Timeout) (buffer : List ℕ)
      → map number_of (made_by (ends p) v (timeout t buffer)) ≡ plain_outstanding s → Completed p w o rest (resend_start (ends p) v s)
  unfolding step
  single v m s calls r h t buffer e =
      let c : Call (ends p).Timeout = timeout t buffer in
      let made : List (List ℕ) = made_by (ends p) v c in
      let count : length made ≡ length (plain_outstanding s) = sym (length_map number_of made) ∙ ap length e in
      let size : length (v.sent ++ made) ≡ length v.sent + length made = length-append v.sent made in
      let same = timeout_S p w s (ends p) v t buffer in
      let d = h.datagrams_few in
      let n = h.calls_few in
      let next = hand_overs p w o rest (length made) (length v.sent) (length v.replies) (step (ends p) v c) _ (plain_step p w s (fed_by (ends p) v c)) (suc calls) (reached_after p w o rest v m s calls r c tt)
      (omega arith) (record { room = rw same h.output; numbers = rw same h.numbers; datagrams_few = omega arith }) (omega arith) (omega arith) in
      let whole = timeout_before v s t buffer (plain_outstanding s) [] (length v.sent) (length v.replies) (omega arith) e next in
      rw (append-nil (plain_outstanding s), drop-length v.sent, drop-length v.replies) at whole

-- ---- Go-Back-N, Stop-and-Wait
-- k numbers outstanding, of a window u; `sends` is what one timeout sends of it
by_count : (p : ProtocolType) (w : ℕ) (o : WindowFits p w) (rest : List ℕ) (v : World (ends p)) (m : trace.World) (s : PlainState) (calls : ℕ) → Reached p w o rest v m s calls → RoomToResend p rest v s calls
    → (n k : ℕ) → plain_outstanding s ≡ up_from n k → (t : (ends p).Timeout) → (0 < k → map number_of (made_by (ends p) v (timeout t (replicate (k * max_datagram) 0))) ≡ up_from n k)
    → Completed p w o rest (resend_start (ends p) v s)
by_count p w o rest v m s calls r h n zero e t sends = record { calls = []; resends = (e, refl, refl) }
by_count p w o rest v m s calls r h n (suc k) e t sends = single p w o rest v m s calls r h t (replicate (suc k * max_datagram) 0) (sends (omega arith) ∙ sym e)

few_sent : (p : ProtocolType) (w : ℕ) (o : WindowFits p w) (rest : List ℕ) (v : World (ends p)) (s : PlainState) (calls : ℕ) → RoomToResend p rest v s calls → length v.sent < count_limit
few_sent p w o rest v s calls h = let d = h.datagrams_few in omega arith

pub go_back_n_resending : (w : ℕ) (rest : List ℕ) (v : World (ends GoBackN)) (m : trace.World) (s : PlainState) (calls : ℕ) → Reached GoBackN w tt rest v m s calls → RoomToResend GoBackN rest v s calls
    → Completed GoBackN w tt rest (resend_start (ends GoBackN) v s)
unfolding follows calls_follow
go_back_n_resending w rest v m s calls r h =
    let u = v.sender in
    let k = r.follows_it.sender in
    let counts = sender_few GoBackN u v.sent r.sent_is (few_sent GoBackN w tt rest v s calls h) in
    let ordered = (sound false u.window u.store k.good).ordered in
    by_count GoBackN w tt rest v m s calls r h u.window.send_base (outstanding u.window) (in_order_outstanding w u m s r.invariant k.is) all
    (λ some. let l = length-replicate {A = ℕ} (outstanding u.window * max_datagram) 0 in
    window_again false u u.window.send_base (outstanding u.window) (replicate (outstanding u.window * max_datagram) 0) k.good counts k.octets (omega arith) (omega arith) some (omega arith))

-- the retry limit isn't met
pub stop_and_wait_resending : (w : ℕ) (o : w ≡ 1) (rest : List ℕ) (v : World (ends StopAndWait)) (m : trace.World) (s : PlainState) (calls : ℕ) → Reached StopAndWait w o rest v m s calls → RoomToResend StopAndWait rest v s calls
    → v.sender.sender.current_retries < v.sender.sender.max_retries → Completed StopAndWait w o rest (resend_start (ends StopAndWait) v s)
unfolding follows calls_follow
stop_and_wait_resending w o rest v m s calls r h low =
    let u = stop_and_wait.window_end v.sender in
    let k = r.follows_it.sender in
    let counts = sender_few StopAndWait v.sender v.sent r.sent_is (few_sent StopAndWait w o rest v s calls h) in
    let x = sound false u.window u.store k.good in
    let ordered = x.ordered in
    let few : outstanding u.window ≤ 1 = x.few in
    let left : stop_and_wait.retries_left v.sender.sender ≡ 1 = rw (lt-ltb _ _ low) refl in
    let count : min (stop_and_wait.retries_left v.sender.sender) (outstanding u.window) ≡ outstanding u.window = rw left (min-eq_right few) in
    by_count StopAndWait w o rest v m s calls r h u.window.send_base (outstanding u.window) (in_order_outstanding w u m s r.invariant k.is) one
    (λ some. let out : List ℕ = replicate (outstanding u.window * max_datagram) 0 in
    let l : length out ≡ outstanding u.window * max_datagram = length-replicate {A = ℕ} (outstanding u.window * max_datagram) 0 in
    subst (λ (j : ℕ). let y = resend (state_broken false u.window u.store) (counts_broken u.window) u u.window.send_base j out in map number_of (datagrams (bytes_resent y.answer y.out)) ≡ up_from u.window.send_base (outstanding u.window))
    (sym count)
    (window_again false u u.window.send_base (outstanding u.window) out k.good counts k.octets (omega arith) (omega arith) some (omega arith)))

-- ---- Selective Repeat: a timeout for each number
outstanding_due : (v : slots.Sender) (n : ℕ) → Good true v → trace.is_outstanding (sender_of v) n ≡ true → selective_repeat.due v n ≡ true
outstanding_due v n g e =
    let i = in_window (sender_of v) n e in
    let next = refinement.next_number_lem true v g in
    let a : v.window.send_base + (n - v.window.send_base) ≡ n = omega (arith, i.from_base) in
    let low : leb v.window.send_base n ≡ true = le-leb _ _ i.from_base in
    let high : ltb n v.window.next_seq_num ≡ true = lt-ltb n v.window.next_seq_num (omega (arith, i.below_next, next)) in
    let at = read_at acknowledged_in v.store v.window.window_size v.window.send_base (outstanding v.window) false (n - v.window.send_base) (omega (arith, i.below_next, i.from_base, next)) in
    let same : marked 2 v.store v.window.window_size n ≡ get_or (sender_of v).acknowledged (n - v.window.send_base) false =
    sym (at ∙ ap (λ (j : ℕ). marked 2 v.store v.window.window_size j) a) in
    rw (low, high, same) ((and-eq-true_iff (is_in_window (sender_of v) n) _).0 e).1

outstanding_are : (s : SenderState) → Every (λ n. trace.is_outstanding s n ≡ true) (trace.outstanding s)
unfolding trace.outstanding
outstanding_are s = kept_are s (up_from s.base (length s.chunks))

sender_stays : (p : ProtocolType) (w : ℕ) (m : trace.World) (e : trace.Event) (b : Bool) (n k : ℕ) → e ≡ cond b (trace.resent n k) (trace.other plain.handle_timeout) → (trace.step p w m e).sender ≡ m.sender
unfolding trace.step
sender_stays p w m e true n k f = rw f refl
sender_stays p w m e false n k f = rw f refl

module _ (w : ℕ) (rest : List ℕ) where
  each_number : (ns : List ℕ) (i j : ℕ) (v : World (ends SelectiveRepeat)) (m : trace.World) (s : PlainState) (calls : ℕ) → Reached SelectiveRepeat w tt rest v m s calls
      → Every (λ n. trace.is_outstanding m.sender n ≡ true) ns → length (flatten s.sent) ≤ length rest → length s.sent ≤ seq_num_limit → length v.sent + length ns < count_limit
      → calls + (length ns + length ns) + (length v.sent - i) < count_limit → i ≤ length v.sent → j ≤ length v.replies
      → Completed SelectiveRepeat w tt rest (record { world = v; plain = s; numbers = ns; packets = drop i v.sent; replies = drop j v.replies })
  unfolding step event_by follows calls_follow
  each_number [] i j v m s calls r out output numbers few fewer f g =
      hand_overs SelectiveRepeat w tt rest (length v.sent - i) i j v m s calls r (omega arith) (record { room = output; numbers = numbers; datagrams_few = omega arith }) (omega arith) g
  each_number (n ∷ ns) i j v m s calls r out output numbers few fewer f g =
      let buffer : List ℕ = replicate max_datagram 0 in
      let c : Call ℕ = timeout n buffer in
      let u = v.sender in
      let k = r.follows_it.sender in
      let counts = sender_few SelectiveRepeat u v.sent r.sent_is (omega arith) in
      let here : trace.is_outstanding (sender_of u) n ≡ true = ap (λ (x : SenderState). trace.is_outstanding x n) k.is ∙ every_head out in
      let due = outstanding_due u n k.good here in
      let within = due_within u n due in
      let l : length buffer ≡ max_datagram = length-replicate {A = ℕ} max_datagram 0 in
      let sends : map number_of (made_by (ends SelectiveRepeat) v c) ≡ n ∷ [] =
      rw due (window_again true u n 1 buffer k.good counts k.octets within.0 (omega (arith, within.1)) (omega arith) (omega arith)) in
      let made : length (made_by (ends SelectiveRepeat) v c) ≡ 1 = sym (length_map number_of (made_by (ends SelectiveRepeat) v c)) ∙ ap length sends in
      let size = length-append v.sent (made_by (ends SelectiveRepeat) v c) in
      let same = timeout_S SelectiveRepeat w s (ends SelectiveRepeat) v n buffer in
      let x = one_step SelectiveRepeat w (ends SelectiveRepeat) (follows SelectiveRepeat w) rest v m r.follows_it c tt in
      let stays : (trace.step SelectiveRepeat w m x.event).sender ≡ m.sender = sender_stays SelectiveRepeat w m x.event ((ends SelectiveRepeat).handle_timeout u n buffer).is_done (number_of (get_or (made_by (ends SelectiveRepeat) v c) 0 [])) (length (made_by (ends SelectiveRepeat) v c)) x.event_is in
      timeout_before SelectiveRepeat w tt rest v s n buffer (n ∷ []) ns i j f sends
      (each_number ns i j (step (ends SelectiveRepeat) v c) (trace.step SelectiveRepeat w m x.event) (plain_step SelectiveRepeat w s (fed_by (ends SelectiveRepeat) v c)) (suc calls)
      (reached_after SelectiveRepeat w tt rest v m s calls r c tt) (rw stays (every_tail out)) (rw same output) (rw same numbers) (omega (arith, few, made, size)) (omega (arith, fewer, made, size, f)) (omega (arith, f, size)) g)

  pub selective_repeat_resending : (v : World (ends SelectiveRepeat)) (m : trace.World) (s : PlainState) (calls : ℕ) → Reached SelectiveRepeat w tt rest v m s calls → RoomToResend SelectiveRepeat rest v s calls
      → Completed SelectiveRepeat w tt rest (resend_start (ends SelectiveRepeat) v s)
  selective_repeat_resending v m s calls r h =
      let e = (claimed true w m s r.invariant).outstanding_is in
      let d = h.datagrams_few in
      let n = h.calls_few in
      let all_of = each_number (plain_outstanding s) (length v.sent) (length v.replies) v m s calls r (rw (← e) (outstanding_are m.sender)) h.output h.numbers (omega arith) (omega arith) (omega arith) (omega arith) in
      rw (drop-length v.sent, drop-length v.replies) at all_of

-- ---- after any admissible list from fresh ends
pub some_resending : (p : ProtocolType) (w limit : ℕ) (sending receiving output : List ℕ) (m : Made p w sending receiving) (cs : List (Call (ends p).Timeout))
    → Admissible (ends p) (fresh_ends p w limit sending receiving output) cs
    → let v = fresh_ends p w limit sending receiving output in
    RoomToResend p ((ends p).unwritten v.receiver) (run (ends p) v cs) (plain_after p w (ends p) v cs) (length cs) → RetryLeft p (run (ends p) v cs).sender
    → Completed p w m.window ((ends p).unwritten v.receiver) (resend_start (ends p) (run (ends p) v cs) (plain_after p w (ends p) v cs))
some_resending StopAndWait w limit sending receiving output m cs a h left =
    let r = reached_run StopAndWait w m.window _ _ _ _ 0 (fresh_reached StopAndWait w limit sending receiving output m) cs a in
    stop_and_wait_resending w m.window _ _ r.machine _ (length cs) (subst (Reached _ _ _ _ _ r.machine _) (zero-add (length cs)) r.reached) h left
some_resending GoBackN w limit sending receiving output m cs a h left =
    let r = reached_run GoBackN w tt _ _ _ _ 0 (fresh_reached GoBackN w limit sending receiving output m) cs a in
    go_back_n_resending w _ _ r.machine _ (length cs) (subst (Reached _ _ _ _ _ r.machine _) (zero-add (length cs)) r.reached) h
some_resending SelectiveRepeat w limit sending receiving output m cs a h left =
    let r = reached_run SelectiveRepeat w tt _ _ _ _ 0 (fresh_reached SelectiveRepeat w limit sending receiving output m) cs a in
    selective_repeat_resending w _ _ r.machine _ (length cs) (subst (Reached _ _ _ _ _ r.machine _) (zero-add (length cs)) r.reached) h
