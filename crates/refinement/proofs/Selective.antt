-- What the machine's Selective Repeat receiver does with a segment, over a store.
use Rattle.std.specs.Prelude.{Option, None, Some}
use Prim.Native.Nat.{ℕ, zero, suc, ◌+◌, ◌-◌, ◌*◌, ◌%◌, ◌≤◌, ◌<◌}
use mathlib.Core.Path.{◌≡◌, refl, sym, ap, ◌∙◌}
use mathlib.Core.Bool.{false}
use mathlib.Core.List.{List, [], ◌∷◌, ◌++◌, append-nil}
use native.Mathlib.Omega.{arith}
use borrow.Author.Tests.{lt-ltb, le-ltb, le-leb, lt-leb}
use lib.ListN.{length, get_or, drop, set, replicate}
use lib.Seq.{set-get_or}
use lib.Dec.{eqb}
use Rattle.protocol.specs.Machine.{Chunk, ReceiverState, received, held_run, hold, deliver_run, hold_at, receive_selective}
use Rattle.store.specs.Slot.{slot_at, slot_mark, slot_payload, fill_slot}
use Rattle.store.specs.Sound.{slot_of}
use Rattle.store.specs.Numbers.{marked_run}
use Rattle.store.proofs.Laws.{run_within}
use Rattle.window.specs.Slots.{empty_from}
use Rattle.refinement.specs.Follows.{held_in, slots_read, receiver_of}
use Rattle.refinement.proofs.Rows.{read_at}
use Rattle.refinement.proofs.Held.{slot_broken, empty_none, full_some, held_is, run_after_base, held_more, held_delivered}

receiver_is : {b b' : ℕ} {h h' : List (Option Chunk)} → b ≡ b' → h ≡ h' → ◌≡◌ {A = ReceiverState} (record { base = b; held = h }) (record { base = b'; held = h' })
receiver_is e f = rw (e, f)

module _ (store : List ℕ) (w base : ℕ) (positive : 0 < w) (room : w * 1404 ≤ length store) (slots : (k : ℕ) → k < w → slot_broken (eqb k 0) (slot_of store w base k) ≡ false) where
  abbrev before : ReceiverState
  before = receiver_of w base store

  abbrev rest : List (Option Chunk)
  rest = slots_read held_in store w (base + 1) (w - 1)

  abbrev following : ℕ
  following = marked_run 1 store w (base + 1) (w - 1)

  -- a number of the window
  within : (n : ℕ) (payload : List ℕ) → base ≤ n → n < base + w → receive_selective w before (record { number = n; payload = payload }) ≡ deliver_run (hold_at before (record { number = n; payload = payload })) n
  within n payload h k = rw (le-leb base n h, lt-ltb n (base + w) k)

  deliver_is : (held : List (Option Chunk)) (k : ℕ) (chunks : List Chunk) (n b : ℕ) → held_run held ≡ chunks → length chunks ≡ k
      → deliver_run (record { base = b; held = held }) n ≡ received (record { base = b + k; held = drop k held ++ replicate k None }) chunks (n ∷ [])
  deliver_is held k chunks n b e f = rw (e, f)

  pub at_base : (payload : List ℕ)
      → receive_selective w before (record { number = base; payload = payload })
      ≡ received (receiver_of w (base + 1 + following) (empty_from store w (base + 1) following)) (payload ∷ held_run rest) (base ∷ [])
  at_base payload =
      let r = run_after_base store w base positive room slots in
      let le = run_within 1 store w (base + 1) (w - 1) in
      let z : base - base ≡ 0 = omega arith in
      let held : set before.held (base - base) (hold (get_or before.held (base - base) None) payload) ≡ Some payload ∷ rest = rw (held_is store w base positive room slots, z) in
      let n : base + suc following ≡ base + 1 + following = omega arith in
      within base payload (omega arith) (omega arith)
      ∙ ap (λ (l : List (Option Chunk)). deliver_run (record { base = base; held = l }) base) held
      ∙ deliver_is (Some payload ∷ rest) (suc following) (payload ∷ held_run rest) base base refl (ap suc r.count)
      ∙ ap (λ (s : ReceiverState). received s (payload ∷ held_run rest) (base ∷ [])) (receiver_is n (sym (held_delivered store w base positive room slots following le)))

  -- a number above base: base stays unheld, so that nothing is delivered
  first_none : (j : ℕ) (o : Option Chunk) → 0 < j → held_run (set before.held j o) ≡ []
  first_none zero o h = absurd (omega arith)
  first_none (suc j) o h = rw (held_is store w base positive room slots)

  none_delivered : (held : List (Option Chunk)) (n : ℕ) → held_run held ≡ [] → deliver_run (record { base = base; held = held }) n ≡ received (record { base = base; held = held }) [] (n ∷ [])
  none_delivered held n e =
      let z : base + 0 ≡ base = omega arith in
      deliver_is held 0 [] n base e refl ∙ ap (λ (s : ReceiverState). received s [] (n ∷ [])) (receiver_is z (append-nil held))

  above : (n : ℕ) (payload : List ℕ) → base < n → n < base + w
      → receive_selective w before (record { number = n; payload = payload }) ≡ received (hold_at before (record { number = n; payload = payload })) [] (n ∷ [])
  above n payload h k =
      within n payload (omega arith) k ∙ none_delivered (hold_at before (record { number = n; payload = payload })).held n (first_none (n - base) _ (omega arith))

  held_at : (n : ℕ) → base < n → n < base + w → get_or before.held (n - base) None ≡ held_in (slot_at store (n % w))
  held_at n h k =
      let e : base + (n - base) ≡ n = omega arith in
      read_at held_in store w base w None (n - base) (omega arith) ∙ ap (λ (m : ℕ). held_in (slot_at store (m % w))) e

  pub held_again : (n : ℕ) (payload : List ℕ) → base < n → n < base + w → slot_mark (slot_at store (n % w)) ≡ 1
      → receive_selective w before (record { number = n; payload = payload }) ≡ received before [] (n ∷ [])
  held_again n payload h k m =
      let at : get_or before.held (n - base) None ≡ Some (slot_payload (slot_at store (n % w))) = held_at n h k ∙ full_some (slot_at store (n % w)) m in
      let same : set before.held (n - base) (hold (get_or before.held (n - base) None) payload) ≡ before.held =
      ap (λ (o : Option Chunk). set before.held (n - base) (hold o payload)) at ∙ ap (set before.held (n - base)) (sym at) ∙ set-get_or before.held (n - base) None in
      above n payload h k ∙ ap (λ (l : List (Option Chunk)). received (record { base = base; held = l }) [] (n ∷ [])) same

  pub held_new : (n : ℕ) (payload : List ℕ) → base < n → n < base + w → slot_mark (slot_at store (n % w)) ≡ 0 → length payload ≤ 1400
      → receive_selective w before (record { number = n; payload = payload }) ≡ received (receiver_of w base (fill_slot store (n % w) payload 1 0)) [] (n ∷ [])
  held_new n payload h k m short =
      let e : base + (n - base) ≡ n = omega arith in
      let at : get_or before.held (n - base) None ≡ None = held_at n h k ∙ empty_none (slot_at store (n % w)) m in
      let more = rw e at (held_more store w base positive room slots (n - base) payload (omega arith) short) in
      let new : set before.held (n - base) (hold (get_or before.held (n - base) None) payload) ≡ slots_read held_in (fill_slot store (n % w) payload 1 0) w base w =
      ap (λ (o : Option Chunk). set before.held (n - base) (hold o payload)) at ∙ sym more in
      above n payload h k ∙ ap (λ (l : List (Option Chunk)). received (record { base = base; held = l }) [] (n ∷ [])) new

  -- below base, above the window
  pub delivered_before : (n : ℕ) (payload : List ℕ) → n < base → base ≤ n + w → receive_selective w before (record { number = n; payload = payload }) ≡ received before [] (n ∷ [])
  delivered_before n payload h k = rw (lt-leb base n h, le-leb base (n + w) k)

  pub too_old : (n : ℕ) (payload : List ℕ) → n + w < base → receive_selective w before (record { number = n; payload = payload }) ≡ received before [] []
  too_old n payload h = rw (lt-leb base n (omega arith), lt-leb base (n + w) h)

  pub too_high : (n : ℕ) (payload : List ℕ) → base + w ≤ n → receive_selective w before (record { number = n; payload = payload }) ≡ received before [] []
  too_high n payload h = rw (le-leb base n (omega arith), le-ltb n (base + w) h)
