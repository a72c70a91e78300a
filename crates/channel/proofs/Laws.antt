-- What crates above may cite: where the rolls point, what a corrupted copy is, how long a delay is, and the counters from the history of calls.
use Rattle.std.specs.Prelude.{Err, Ok}
use mathlib.Core.Path.{◌≡◌, refl, sym, ◌∙◌, ap, subst}
use mathlib.Core.Logic.{◌≢◌, ⊎_elim}
use Prim.Native.Nat.{ℕ, ◌+◌, ◌^◌, ◌<◌, ◌≤◌, ◌*◌, ◌/◌}
use native.Mathlib.Omega.{arith}
use mathlib.Core.Bool.{Bool, true, false, cond}
use mathlib.Core.List.{List, [], ◌∷◌, ◌++◌}
use lib.ListN.{length, get_or, drop, length-set}
use lib.Seq.{get_or-set_same, get_or-set_other}
use lib.Dec.{T}
use lib.Pow.{pow_pos}
use lib.Bits.{bit_xor}
use lib.IntN.{negsuc}
use lib.Ieee.{Float, fin, binary64, fits}
use Rattle.bounds.specs.Bounds.{max_delivery_delay, max_time}
use Rattle.octets.specs.Flip.{flip}
use Rattle.octets.proofs.Laws.{xor_moves}
use Rattle.float.specs.Roll.{roll_in_bounds, scaled}
use Rattle.float.proofs.Laws.{scaled_below, j1}
use Rattle.schedule.specs.State.{leaves_at, deliveries_late}
use Rattle.refusal.specs.Order.{check, verdict}
use Rattle.refusal.specs.declared.Refusal.TheVariants.{Setup}
use Rattle.refusal.proofs.Laws.{on_accepted, none_true_accepted, either_answer}
use Rattle.schedule.specs.declared.Deliveries.{Deliveries}
use Rattle.schedule.specs.declared.Deliveries.TheVariants.{Lost, One, Two}
use Rattle.schedule.proofs.Laws.{DelaysInBounds, delays_in_time}
use Rattle.channel.specs.Bounds.{config_broken, rolls_broken, Doubles}
use Rattle.channel.specs.Faults.{is_lost, is_duplicated, is_reordered, is_corrupted, byte_at, bit_at, carried_bytes, hold_of, delay_of, deliveries_of}
use Rattle.channel.specs.Process.{new_channel, new_channel_unchecked, process_checks, TransitExit, process_unchecked, ProcessExit, transited, process, CanProcess}
use Rattle.channel.specs.declared.ChannelConfig.{ChannelConfig}
use Rattle.channel.specs.declared.Channel.{Channel}
use Rattle.channel.specs.declared.Rolls.{Rolls}
use Rattle.channel.proofs.Limits.{delays_within, rolls_within}
use Rattle.channel.proofs.Carrying.{unless_lost, deliveries_lost, corrupt_law, uncorrupted_law, uncorrupted_lost, in_place_law}
use Rattle.refusal.specs.Order.{passed}
pub use Rattle.channel.proofs.Carrying.{granted_lost, granted_one, granted_two, granted_le, corrupted_some}
pub use Rattle.channel.proofs.Carrying.{can_process}
pub use Rattle.channel.proofs.Tallies.{processed, history, refused_are}
pub use Rattle.channel.proofs.Limits.{CountsBelow, counts_below, counts_not_full}
pub use Rattle.channel.proofs.Counters.{CountsRise, counted_rises, rises_below, below_more, counted_calls, calls_below, calls_not_full, tallies_not_full}
pub use Rattle.channel.proofs.NoFaults.{Zero, zero, roll_not_below, NoFaults, CarriedWhole, carried_whole}

-- ---- an accepted call is the call below its entry point
pub new_accepted : (c : ChannelConfig) → config_broken c ≡ false → new_channel c ≡ Ok (new_channel_unchecked c)
unfolding new_channel
new_accepted c e = on_accepted Err (Ok (new_channel_unchecked c)) (none_true_accepted (check (config_broken c) Setup ∷ []) (e, tt))

module _ (ch : Channel) (p : List ℕ) (r : Rolls) (out : List ℕ) where
  pub process_accepted : verdict (process_checks ch r (length p) (length out)) ≡ passed → process ch p r out ≡ transited (process_unchecked ch p r out)
  unfolding process
  process_accepted e = on_accepted _ _ e

  pub process_accepts : CanProcess ch p r out → verdict (process_checks ch r (length p) (length out)) ≡ passed
  process_accepts c = none_true_accepted (process_checks ch r (length p) (length out)) (c.config, (c.counts, (c.rolls, (c.short, (c.room, tt)))))

  pub process_delivered : (ds : Deliveries) → (process ch p r out).result.answer ≡ Ok ds → (verdict (process_checks ch r (length p) (length out)) ≡ passed) × (ds ≡ deliveries_of ch.config r)
  unfolding process process_unchecked
  process_delivered ds =
      either_answer (λ (x : ProcessExit). x.result.answer ≡ Ok ds → (verdict (process_checks ch r (length p) (length out)) ≡ passed) × (ds ≡ deliveries_of ch.config r)) (verdict (process_checks ch r (length p) (length out))) _ _
      (λ x e. let z : ◌≡◌ {A = ℕ} 0 1 = cc in absurd (omega arith)) (λ v e. (v, cc))

  -- the bytes of the copies stand at the front of the buffer
  pub process_writes : is_lost ch.config r ≡ false → (process_unchecked ch p r out).out ≡ carried_bytes ch.config r p ++ drop (length p) out
  unfolding process_unchecked
  process_writes e = ap (λ (b : Bool). cond b out (carried_bytes ch.config r p ++ drop (length p) out)) e

-- the same where the packet lies
pub in_place_bytes : (ch : Channel) (p : List ℕ) (r : Rolls) → (process_unchecked ch p r p).out ≡ carried_bytes ch.config r p
in_place_bytes ch p r = sym (ap (λ (x : TransitExit). x.out) (in_place_law ch p r refl refl refl))

-- ---- where the rolls point: no clamp is needed
module _ (r : Rolls) (d : Doubles r) (good : rolls_broken r ≡ false) where
  pub byte_below : (n : ℕ) → 0 < n → n ≤ 1410 → byte_at r n < n
  byte_below n h k = scaled_below r.byte_roll n d.byte (rolls_within r good).byte h (most n k)
    where
      most : (n : ℕ) → n ≤ 1410 → n ≤ 2 ^ 53
      most n k = omega arith

  pub bit_below : bit_at r < 8
  bit_below = scaled_below r.bit_roll 8 d.bit (rolls_within r good).bit (omega arith) (omega arith)

-- jitter is at most its setting
pub jitter_within : (roll : Float) (j : ℕ) → T (fits binary64 roll) → T (roll_in_bounds roll) → j ≤ 60000 → scaled roll (j + 1) ≤ j
jitter_within roll j t u h = let b = scaled_below roll (j + 1) t u (omega arith) (most j h) in less (scaled roll (j + 1)) j b
  where
    most : (j : ℕ) → j ≤ 60000 → j + 1 ≤ 2 ^ 53
    most j h = omega arith

    less : (x j : ℕ) → x < j + 1 → x ≤ j
    less x j h = omega arith

-- a delay is at most 180,000 ms
pub delay_within : (c : ChannelConfig) (r : Rolls) (roll : Float) → config_broken c ≡ false → T (fits binary64 roll) → T (roll_in_bounds roll) → delay_of c r roll ≤ max_delivery_delay
delay_within c r roll good t u =
    let w = delays_within c good in
    let j = jitter_within roll c.jitter_ms t u w.jitter in
    three c.base_delay_ms (scaled roll (c.jitter_ms + 1)) (hold_of c r) w.base (last (scaled roll (c.jitter_ms + 1)) c.jitter_ms j w.jitter) (held (is_reordered c r) w.hold)
  where
    held : (b : Bool) → c.reorder_extra_ms ≤ 60000 → cond b c.reorder_extra_ms 0 ≤ 60000
    held true h = h
    held false h = omega arith

    last : (x j : ℕ) → x ≤ j → j ≤ 60000 → x ≤ 60000
    last x j h k = omega arith

    three : (a b c : ℕ) → a ≤ 60000 → b ≤ 60000 → c ≤ 60000 → a + b + c ≤ 180000
    three a b c h k l = omega arith

-- so are those of all copies; the schedule takes them, unless the time itself is too near its bound
pub delays_in_bounds : (c : ChannelConfig) (r : Rolls) → Doubles r → config_broken c ≡ false → rolls_broken r ≡ false → DelaysInBounds (deliveries_of c r)
unfolding deliveries_of
delays_in_bounds c r d good fine = go (is_lost c r) (is_duplicated c r)
  where
    first : delay_of c r r.jitter_roll ≤ max_delivery_delay
    first = delay_within c r r.jitter_roll good d.jitter (rolls_within r fine).jitter

    go : (a b : Bool) → DelaysInBounds (cond a Lost (cond b (Two (delay_of c r r.jitter_roll) (delay_of c r r.dup_jitter_roll)) (One (delay_of c r r.jitter_roll))))
    go true b = tt
    go false true = (first, delay_within c r r.dup_jitter_roll good d.dup_jitter (rolls_within r fine).dup_jitter)
    go false false = first

pub deliveries_within : (c : ChannelConfig) (r : Rolls) (now : ℕ) → Doubles r → config_broken c ≡ false → rolls_broken r ≡ false → leaves_at now max_delivery_delay ≤ max_time → deliveries_late now (deliveries_of c r) ≡ false
deliveries_within c r now d good fine h = delays_in_time now (deliveries_of c r) h (delays_in_bounds c r d good fine)

-- a lost packet is neither duplicated nor held back nor corrupted, and has no copy
pub lost_only : (c : ChannelConfig) (r : Rolls) (n : ℕ) → is_lost c r ≡ true → (is_duplicated c r ≡ false) × (is_reordered c r ≡ false) × (is_corrupted c r n ≡ false) × (deliveries_of c r ≡ Lost)
unfolding is_duplicated is_reordered
lost_only c r n h = (sym (unless_lost (is_lost c r) _ h), sym (unless_lost (is_lost c r) _ h), uncorrupted_lost c r n h, sym (deliveries_lost c r h))

-- ---- the bytes of the copies
module _ (c : ChannelConfig) (r : Rolls) (p : List ℕ) where
  pub uncorrupted_is : is_corrupted c r (length p) ≡ false → carried_bytes c r p ≡ p
  uncorrupted_is h = sym (uncorrupted_law c r p h)

  pub corrupted_is : is_corrupted c r (length p) ≡ true → carried_bytes c r p ≡ flip p (byte_at r (length p)) (bit_at r)
  corrupted_is h = sym (corrupt_law c r p h refl refl refl)

-- one bit of one byte: the length and the other bytes are as they were, that byte is not
pub flip_length : (d : List ℕ) (i b : ℕ) → length (flip d i b) ≡ length d
unfolding flip
flip_length d i b = length-set d i (bit_xor (get_or d i 0) (2 ^ b))

pub flip_other : (d : List ℕ) (i b j : ℕ) → j ≢ i → get_or (flip d i b) j 0 ≡ get_or d j 0
unfolding flip
flip_other d i b j h = get_or-set_other d i j (bit_xor (get_or d i 0) (2 ^ b)) 0 h

pub flip_at : (d : List ℕ) (i b : ℕ) → i < length d → get_or (flip d i b) i 0 ≡ bit_xor (get_or d i 0) (2 ^ b)
unfolding flip
flip_at d i b h = get_or-set_same d i (bit_xor (get_or d i 0) (2 ^ b)) 0 h

pub flip_differs : (d : List ℕ) (i b : ℕ) → i < length d → get_or (flip d i b) i 0 ≡ get_or d i 0 → ⊥
flip_differs d i b h e = ⊎_elim (λ w. up (bit_xor (get_or d i 0) (2 ^ b)) (get_or d i 0) (2 ^ b) (pow_pos b) (sym (flip_at d i b h) ∙ e) w) (λ w. down (bit_xor (get_or d i 0) (2 ^ b)) (get_or d i 0) (2 ^ b) (pow_pos b) (sym (flip_at d i b h) ∙ e) w) (xor_moves (get_or d i 0) b)
  where
    up : (x a p : ℕ) → 0 < p → x ≡ a → x ≡ a + p → ⊥
    up x a p h e w = omega arith

    down : (x a p : ℕ) → 0 < p → x ≡ a → a ≡ x + p → ⊥
    down x a p h e w = omega arith

-- two packets differ in exactly one bit
pub record OneBit (p q : List ℕ) : Type 0 where
  pub byte : ℕ
  pub bit : ℕ
  pub inside : byte < length p
  pub low : bit < 8
  pub length_same : length q ≡ length p
  pub others_same : (j : ℕ) → j ≢ byte → get_or q j 0 ≡ get_or p j 0
  pub turned : get_or q byte 0 ≡ bit_xor (get_or p byte 0) (2 ^ bit)

pub corrupted_one_bit : (c : ChannelConfig) (r : Rolls) (p : List ℕ) → Doubles r → rolls_broken r ≡ false → length p ≤ 1410 → is_corrupted c r (length p) ≡ true → OneBit p (carried_bytes c r p)
corrupted_one_bit c r p d good h k = subst (λ (q : List ℕ). OneBit p q) (sym (corrupted_is c r p k)) (one (byte_at r (length p)) (bit_at r) (byte_below r d good (length p) (corrupted_some c r (length p) k) h) (bit_below r d good))
  where
    one : (i b : ℕ) → i < length p → b < 8 → OneBit p (flip p i b)
    one i b l m = record { byte = i; bit = b; inside = l; low = m; length_same = flip_length p i b; others_same = λ j. flip_other p i b j; turned = flip_at p i b l }

-- a copy has the packet's length
pub carried_length : (c : ChannelConfig) (r : Rolls) (p : List ℕ) → length (carried_bytes c r p) ≡ length p
unfolding carried_bytes
carried_length c r p = go (is_corrupted c r (length p))
  where
    go : (t : Bool) → length (cond t (flip p (byte_at r (length p)) (bit_at r)) p) ≡ length p
    go true = flip_length p (byte_at r (length p)) (bit_at r)
    go false = refl

-- document 01's proof sheet, J1, as a delay: jitter 2, nothing else
pub j1_delay : (c : ChannelConfig) (r : Rolls) → c.jitter_ms ≡ 2 → c.base_delay_ms ≡ 0 → c.reorder_extra_ms ≡ 0 → delay_of c r (fin false 6004799503160661 (negsuc 52)) ≡ 2
j1_delay c r a b h =
    ap (λ (n : ℕ). c.base_delay_ms + scaled (fin false 6004799503160661 (negsuc 52)) (n + 1) + hold_of c r) a
    ∙ sum c.base_delay_ms (scaled (fin false 6004799503160661 (negsuc 52)) 3) (hold_of c r) b j1 (none (is_reordered c r) h)
  where
    none : (t : Bool) → c.reorder_extra_ms ≡ 0 → cond t c.reorder_extra_ms 0 ≡ 0
    none true h = h
    none false h = refl

    sum : (x y z : ℕ) → x ≡ 0 → y ≡ 2 → z ≡ 0 → x + y + z ≡ 2
    sum x y z a b c = omega arith

-- the exact product at J1, cut, would be 1
pub j1_exact : 6004799503160661 * 3 / 2 ^ 53 ≡ 1
j1_exact = refl
