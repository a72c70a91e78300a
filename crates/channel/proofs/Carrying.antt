-- What the code does to one packet is what the definitions say, one law a function.
use mathlib.Core.Path.{◌≡◌, refl, sym, ◌∙◌, ap}
use Prim.Native.Nat.{ℕ, ◌+◌, ◌<◌, ◌≤◌}
use native.Mathlib.Omega.{arith}
use mathlib.Core.Bool.{Bool, true, false, cond, not, ◌&&◌, and-eq-true_iff, true≢false, false≢true}
use mathlib.Core.List.{List, ◌++◌, append-nil}
use lib.ListN.{length, take, drop, length-append, drop_of_length-le}
use lib.Seq.{take_at, drop_at, length-take-le}
use lib.Dec.{ltb}
use lib.Ieee.{lt}
use borrow.Author.Tests.{ltb-true, ltb-false}
use Rattle.octets.specs.Flip.{flip}
use Rattle.schedule.specs.State.{copies}
use Rattle.schedule.specs.declared.Deliveries.{Deliveries}
use Rattle.schedule.specs.declared.Deliveries.TheVariants.{Lost, One, Two}
use Rattle.channel.specs.Faults.{is_lost, is_duplicated, is_reordered, is_corrupted, byte_at, bit_at, carried_bytes, delay_of, deliveries_of}
use Rattle.refusal.specs.Order.{verdict}
use Rattle.refusal.proofs.Laws.{accepted_none_true}
use Rattle.channel.specs.Process.{one, stats6, channel_of, counted_stats, transit_exit, process_unchecked, process_checks, CanProcess}
use Rattle.channel.specs.declared.ChannelConfig.{ChannelConfig}
use Rattle.channel.specs.declared.ChannelStats.{ChannelStats}
use Rattle.channel.specs.declared.Rolls.{Rolls}
use Rattle.channel.specs.declared.Channel.{Channel}
use Rattle.refusal.specs.Order.{passed}

-- ---- tests that are asked only of a packet that isn't lost
pub unless : (a b : Bool) → a ≡ false → b ≡ (not a && b)
unless true b h = absurd (true≢false h)
unless false b h = refl

pub unless_lost : (a b : Bool) → a ≡ true → false ≡ (not a && b)
unless_lost true b h = refl
unless_lost false b h = absurd (false≢true h)

-- ---- deliveries
module _ (c : ChannelConfig) (r : Rolls) where
  pub deliveries_lost : is_lost c r ≡ true → Lost ≡ deliveries_of c r
  unfolding deliveries_of
  deliveries_lost a = simp a

  pub deliveries_two : {d e : ℕ} → is_lost c r ≡ false → is_duplicated c r ≡ true → d ≡ delay_of c r r.jitter_roll → e ≡ delay_of c r r.dup_jitter_roll → Two d e ≡ deliveries_of c r
  unfolding deliveries_of
  deliveries_two a b p q = picked (is_lost c r) (is_duplicated c r) a b p q
    where
      picked : (x y : Bool) {d e f g : ℕ} → x ≡ false → y ≡ true → d ≡ f → e ≡ g → Two d e ≡ cond x Lost (cond y (Two f g) (One f))
      picked x y a b p q = rw (a, b, p, q)

  pub deliveries_one : {d : ℕ} → is_lost c r ≡ false → is_duplicated c r ≡ false → d ≡ delay_of c r r.jitter_roll → One d ≡ deliveries_of c r
  unfolding deliveries_of
  deliveries_one a b p = picked (is_lost c r) (is_duplicated c r) (delay_of c r r.dup_jitter_roll) a b p
    where
      picked : (x y : Bool) {d f : ℕ} (g : ℕ) → x ≡ false → y ≡ false → d ≡ f → One d ≡ cond x Lost (cond y (Two f g) (One f))
      picked x y g a b p = rw (a, b, p)

  -- how many copies the rolls grant
  pub granted_lost : is_lost c r ≡ true → 0 ≡ copies (deliveries_of c r)
  granted_lost a = ap copies (deliveries_lost a)

  pub granted_two : is_lost c r ≡ false → is_duplicated c r ≡ true → 2 ≡ copies (deliveries_of c r)
  granted_two a b = ap copies (deliveries_two a b refl refl)

  pub granted_one : is_lost c r ≡ false → is_duplicated c r ≡ false → 1 ≡ copies (deliveries_of c r)
  granted_one a b = ap copies (deliveries_one a b refl)

  pub granted_le : copies (deliveries_of c r) ≤ 2
  granted_le = go (deliveries_of c r)
    where
      go : (d : Deliveries) → copies d ≤ 2
      go Lost = omega arith
      go (One d) = omega arith
      go (Two d e) = omega arith

-- ---- counters
pub counted_law : (c : ChannelConfig) (r : Rolls) (n : ℕ) (s : ChannelStats) {a b d e : Bool} {p q u v g : ℕ}
    → a ≡ is_lost c r → p ≡ one a → b ≡ is_corrupted c r n → q ≡ one b → d ≡ is_duplicated c r → u ≡ one d → e ≡ is_reordered c r → v ≡ one e → g ≡ copies (deliveries_of c r)
    → stats6 (s.packets_seen + 1) (s.lost + p) (s.corrupted + q) (s.duplicated + u) (s.reordered + v) (s.copies_delivered + g) ≡ counted_stats c r n s
unfolding counted_stats
counted_law c r n s ea ep eb eq ed eu ee ev eg = rw (ep, ea, eq, eb, eu, ed, ev, ee, eg)

-- ---- corruption
module _ (c : ChannelConfig) (r : Rolls) (n : ℕ) where
  -- an empty packet has no bit to turn over
  pub corrupted_some : is_corrupted c r n ≡ true → 0 < n
  unfolding is_corrupted
  corrupted_some h = ltb-true 0 n ((and-eq-true_iff (lt r.corrupt_roll c.corrupt) (ltb 0 n)).0 ((and-eq-true_iff (not (is_lost c r)) (lt r.corrupt_roll c.corrupt && ltb 0 n)).0 h).1).1

-- nor has a lost one
pub uncorrupted_lost : (c : ChannelConfig) (r : Rolls) (n : ℕ) → is_lost c r ≡ true → is_corrupted c r n ≡ false
unfolding is_corrupted
uncorrupted_lost c r n h = sym (unless_lost (is_lost c r) _ h)

module _ (c : ChannelConfig) (r : Rolls) (p : List ℕ) where
  pub corrupt_law : {i b : ℕ} {o : List ℕ} → is_corrupted c r (length p) ≡ true → i ≡ byte_at r (length p) → b ≡ bit_at r → o ≡ flip p i b → o ≡ carried_bytes c r p
  unfolding carried_bytes
  corrupt_law h q e f = picked (is_corrupted c r (length p)) h q e f
    where
      picked : (x : Bool) {i b j d : ℕ} {o : List ℕ} → x ≡ true → i ≡ j → b ≡ d → o ≡ flip p i b → o ≡ cond x (flip p j d) p
      picked x h q e f = rw (h, ← q, ← e) f

  pub uncorrupted_law : is_corrupted c r (length p) ≡ false → p ≡ carried_bytes c r p
  unfolding carried_bytes
  uncorrupted_law h = picked (is_corrupted c r (length p)) (flip p (byte_at r (length p)) (bit_at r)) h
    where
      picked : (x : Bool) (q : List ℕ) → x ≡ false → p ≡ cond x q p
      picked x q h = rw h

-- ---- one packet
-- the packet copied to the front of `out`
module _ (p out : List ℕ) {q : List ℕ} (e : q ≡ p) where
  pub copied_fits : length p ≤ length (q ++ drop (length p) out)
  copied_fits = rw (length-append q (drop (length p) out), e) (omega arith)

  pub copied_size : length (take (length p) (q ++ drop (length p) out)) ≡ length p
  copied_size = length-take-le (length p) (q ++ drop (length p) out) copied_fits

  pub copied_short : ltb 1410 (length p) ≡ false → length (take (length p) (q ++ drop (length p) out)) ≤ 1410
  copied_short h = rw copied_size (ltb-false 1410 (length p) h)

module _ (ch : Channel) (p : List ℕ) (r : Rolls) (out : List ℕ) where
  pub lost_law : {s : ChannelStats} → is_lost ch.config r ≡ true → s ≡ counted_stats ch.config r (length p) ch.stats → transit_exit out (record { channel = channel_of ch.config s; deliveries = Lost }) ≡ process_unchecked ch p r out
  unfolding process_unchecked
  lost_law {s} a e = picked (is_lost ch.config r) (carried_bytes ch.config r p ++ drop (length p) out) a e (deliveries_lost ch.config r a)
    where
      picked : (x : Bool) (u : List ℕ) {s t : ChannelStats} {d e : Deliveries} → x ≡ true → s ≡ t → d ≡ e → transit_exit out (record { channel = channel_of ch.config s; deliveries = d }) ≡ transit_exit (cond x out u) (record { channel = channel_of ch.config t; deliveries = e })
      picked x u a b d = rw (a, b, d)

  pub transit_law : {q d : List ℕ} {s : ChannelStats} {ds : Deliveries} → is_lost ch.config r ≡ false → s ≡ counted_stats ch.config r (length p) ch.stats → q ≡ p → d ≡ carried_bytes ch.config r (take (length p) (q ++ drop (length p) out)) → ds ≡ deliveries_of ch.config r
      → transit_exit (d ++ drop (length p) (q ++ drop (length p) out)) (record { channel = channel_of ch.config s; deliveries = ds }) ≡ process_unchecked ch p r out
  unfolding process_unchecked
  transit_law {q} {d} {s} {ds} a e f g h = picked (is_lost ch.config r) a e (copied ∙ ap (λ (xs : List ℕ). carried_bytes ch.config r p ++ xs) (ap (λ (xs : List ℕ). drop (length p) (xs ++ drop (length p) out)) f ∙ drop_at p (drop (length p) out) (length p) refl)) h
    where
      copied : d ++ drop (length p) (q ++ drop (length p) out) ≡ carried_bytes ch.config r p ++ drop (length p) (q ++ drop (length p) out)
      copied = ap (λ (xs : List ℕ). xs ++ drop (length p) (q ++ drop (length p) out)) (g ∙ ap (carried_bytes ch.config r) (ap (λ (xs : List ℕ). take (length p) (xs ++ drop (length p) out)) f ∙ take_at p (drop (length p) out) (length p) refl))

      picked : (x : Bool) {u v : List ℕ} {s t : ChannelStats} {d e : Deliveries} → x ≡ false → s ≡ t → u ≡ v → d ≡ e → transit_exit u (record { channel = channel_of ch.config s; deliveries = d }) ≡ transit_exit (cond x out v) (record { channel = channel_of ch.config t; deliveries = e })
      picked x a b f d = rw (a, b, f, d)

  pub fits_out : is_lost ch.config r ≡ false → CanProcess ch p r out → length p ≤ length out
  fits_out a can = ltb-false (length out) (length p) (sym (ap (λ (b : Bool). not b && ltb (length out) (length p)) a) ∙ can.room)

  pub can_process : verdict (process_checks ch r (length p) (length out)) ≡ passed → CanProcess ch p r out
  can_process e = let n = accepted_none_true (process_checks ch r (length p) (length out)) e in record { config = n.0; counts = n.1.0; rolls = n.1.1.0; short = n.1.1.1.0; room = n.1.1.1.1.0 }

module _ (ch : Channel) (p : List ℕ) (r : Rolls) where
  -- where the packet lies: a lost one is left as it is
  pub in_place_law : {d : List ℕ} {s : ChannelStats} {ds : Deliveries} → s ≡ counted_stats ch.config r (length p) ch.stats → d ≡ carried_bytes ch.config r p → ds ≡ deliveries_of ch.config r
      → transit_exit d (record { channel = channel_of ch.config s; deliveries = ds }) ≡ process_unchecked ch p r p
  unfolding process_unchecked
  in_place_law {d} {s} {ds} e f h = picked e (f ∙ kept (is_lost ch.config r) refl) h
    where
      kept : (x : Bool) → is_lost ch.config r ≡ x → carried_bytes ch.config r p ≡ cond x p (carried_bytes ch.config r p ++ drop (length p) p)
      kept true a = sym (uncorrupted_law ch.config r p (uncorrupted_lost ch.config r (length p) a))
      kept false a = sym (ap (λ (xs : List ℕ). carried_bytes ch.config r p ++ xs) (drop_of_length-le p {i = length p} (omega arith)) ∙ append-nil (carried_bytes ch.config r p))

      picked : {u v : List ℕ} {s t : ChannelStats} {d e : Deliveries} → s ≡ t → u ≡ v → d ≡ e → transit_exit u (record { channel = channel_of ch.config s; deliveries = d }) ≡ transit_exit v (record { channel = channel_of ch.config t; deliveries = e })
      picked a b d = rw (a, b, d)
