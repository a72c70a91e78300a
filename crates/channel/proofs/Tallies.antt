-- The counters from the history of calls.
use mathlib.Core.Path.{◌≡◌, refl, sym, ◌∙◌, ap}
use Prim.Native.Nat.{ℕ, ◌+◌}
use native.Mathlib.Omega.{arith}
use native.Mathlib.Numerals.{add-one}
use native.Mathlib.Nat.{add-zero}
use mathlib.Core.Bool.{Bool, true, false, cond, not, ◌||◌, ◌&&◌}
use mathlib.Core.List.{List, [], ◌∷◌}
use lib.ListN.{length}
use lib.Dec.{ltb}
use Rattle.refusal.specs.Order.{check, verdict, decide, first_of, numbered, or_else, order}
use Rattle.refusal.specs.declared.Refusal.{Refusal}
use Rattle.refusal.specs.declared.Refusal.TheVariants.{State, Counts, Roll, Long, Full}
use Rattle.schedule.specs.State.{copies}
use Rattle.schedule.specs.declared.Deliveries.TheVariants.{Lost, One, Two}
use Rattle.channel.specs.Bounds.{config_broken, stats_full, rolls_broken}
use Rattle.channel.specs.Faults.{is_lost, is_duplicated, is_reordered, is_corrupted, delay_of, deliveries_of}
use Rattle.channel.specs.Process.{stats6, channel_of, one, counted_stats, process_unchecked, ProcessExit, out_short, process}
use Rattle.channel.specs.History.{Call, is_refused, after_calls, turned_away, accepted, filter, count, loses, corrupts, duplicates, reorders, kept, tallies}
use Rattle.channel.specs.declared.ChannelConfig.{ChannelConfig}
use Rattle.channel.specs.declared.Channel.{Channel}
use Rattle.channel.specs.declared.Rolls.{Rolls}

-- ---- one call: refused, and the channel as it was; or the counters raised
by_tests : {A : Type 0} (P : A → Bool → Type 0) (s n r l f : Bool) (g : Refusal → A) (a : A) → ((x : Refusal) → P (g x) true) → P a false
    → P (decide (verdict (check s State ∷ check n Counts ∷ check r Roll ∷ check l Long ∷ check f Full ∷ [])) g a) (s || (n || (r || (l || f))))
unfolding decide verdict first_of numbered or_else order
by_tests P true n r l f g a h k = h State
by_tests P false true r l f g a h k = h Counts
by_tests P false false true l f g a h k = h Roll
by_tests P false false false true f g a h k = h Long
by_tests P false false false false true g a h k = h Full
by_tests P false false false false false g a h k = k

module _ (ch : Channel) (p : List ℕ) (r : Rolls) (out : List ℕ) where
  abbrev line_true : Bool
  line_true = config_broken ch.config || (stats_full ch.stats || (rolls_broken r || (ltb 1410 (length p) || out_short ch r (length p) (length out))))

  pub processed : ((process ch p r out).result.channel ≡ cond line_true ch (channel_of ch.config (counted_stats ch.config r (length p) ch.stats))) × (is_refused (process ch p r out).result.answer ≡ line_true)
  unfolding process process_unchecked
  processed =
      by_tests (λ (z : ProcessExit) (b : Bool). (z.result.channel ≡ cond b ch (channel_of ch.config (counted_stats ch.config r (length p) ch.stats))) × (is_refused z.result.answer ≡ b)) _ _ _ _ _ _ _ (λ x. (refl, refl)) (refl, refl)

-- ---- one call more
counted : (p : Call → Bool) (x : Call) (xs : List Call) → count p (x ∷ xs) ≡ count p xs + one (p x)
unfolding filter
counted p x xs = go (p x)
  where
    go : (t : Bool) → length (cond t (x ∷ filter p xs) (filter p xs)) ≡ count p xs + one t
    go true = sym (add-one (count p xs))
    go false = sym (add-zero (count p xs))

counted_of : (q p : Call → Bool) (x : Call) (xs : List Call) → count p (filter q (x ∷ xs)) ≡ count p (filter q xs) + one (q x && p x)
unfolding filter
counted_of q p x xs = go (q x)
  where
    go : (t : Bool) → count p (cond t (x ∷ filter q xs) (filter q xs)) ≡ count p (filter q xs) + one (t && p x)
    go true = counted p x (filter q xs)
    go false = sym (add-zero (count p (filter q xs)))

-- a copy for a packet that isn't lost, and one more if it is duplicated
granted_is : (c : ChannelConfig) (x : Call) → copies (deliveries_of c x.rolls) ≡ one (not (loses c x)) + one (not (loses c x) && duplicates c x)
unfolding deliveries_of is_duplicated is_lost
granted_is c x = go (loses c x) (duplicates c x)
  where
    first : ℕ
    first = delay_of c x.rolls x.rolls.jitter_roll

    second : ℕ
    second = delay_of c x.rolls x.rolls.dup_jitter_roll

    go : (a b : Bool) → copies (cond a Lost (cond (not a && b) (Two first second) (One first))) ≡ one (not a) + one (not a && b)
    go true b = refl
    go false true = refl
    go false false = refl

pub tallied : (c : ChannelConfig) (x : Call) (xs : List Call) → counted_stats c x.rolls (length x.packet) (tallies c xs) ≡ tallies c (x ∷ xs)
unfolding counted_stats is_lost is_corrupted is_duplicated is_reordered
tallied c x xs =
    let k = kept c xs in
    let q : Call → Bool = λ y. not (loses c y) in
    six (add-one (length xs)) (sym (counted (loses c) x xs)) (sym (counted_of q (corrupts c) x xs)) (sym (counted_of q (duplicates c) x xs)) (sym (counted_of q (reorders c) x xs))
    (both (length k) (count (duplicates c) k) (one (q x)) (one (q x && duplicates c x)) (granted_is c x) (counted q x xs) (counted_of q (duplicates c) x xs))
  where
    six : {a b c d e f g h i j k l : ℕ} → a ≡ g → b ≡ h → c ≡ i → d ≡ j → e ≡ k → f ≡ l → stats6 a b c d e f ≡ stats6 g h i j k l
    six p q r s t u = rw (p, q, r, s, t, u)

    both : (a b n m : ℕ) {g a' b' : ℕ} → g ≡ n + m → a' ≡ a + n → b' ≡ b + m → a + b + g ≡ a' + b'
    both a b n m p q r = omega arith

-- ---- any list of calls from a channel just made: the setup stays, and each counter is what the list and its rolls say
pub history : (c : ChannelConfig) (xs : List Call) → after_calls c xs ≡ channel_of c (tallies c (accepted c xs))
unfolding after_calls accepted filter turned_away is_lost
history c [] = refl
history c (x ∷ xs) =
    ap (λ (ch : Channel). (process ch x.packet x.rolls x.out).result.channel) (history c xs)
    ∙ (processed (channel_of c (tallies c (accepted c xs))) x.packet x.rolls x.out).0 ∙ go (turned_away c (accepted c xs) x)
  where
    go : (b : Bool) → cond b (channel_of c (tallies c (accepted c xs))) (channel_of c (counted_stats c x.rolls (length x.packet) (tallies c (accepted c xs)))) ≡ channel_of c (tallies c (cond b (accepted c xs) (x ∷ accepted c xs)))
    go true = refl
    go false = ap (channel_of c) (tallied c x (accepted c xs))

-- the calls that are refused are those that the list says
pub refused_are : (c : ChannelConfig) (x : Call) (xs : List Call) → is_refused (process (after_calls c xs) x.packet x.rolls x.out).result.answer ≡ turned_away c (accepted c xs) x
unfolding turned_away is_lost
refused_are c x xs =
    ap (λ (ch : Channel). is_refused (process ch x.packet x.rolls x.out).result.answer) (history c xs)
    ∙ (processed (channel_of c (tallies c (accepted c xs))) x.packet x.rolls x.out).1
