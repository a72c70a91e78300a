-- Results with no sign, and the size of a difference.
use Rattle.std.proofs.Common.{◌≡◌, ℕ, zero, suc, ◌+◌, ◌-◌, ◌*◌, ◌/◌, ◌%◌, ◌^◌, ◌<◌, ◌≤◌, Bool, true, false, cond, not, T, eqb, ltb, ℤ, pos, sym, refl, ap, ◌∙◌, subst, ap₂, le_of_lt, mul_comm, add-mul, mul-pos, mul-one, arith, ltb→lt, nltb→le, pow_pos}
use Prim.Native.Nat.{compare}
use mathlib.Core.Bool.{false≢true}
use lib.Ieee.{Float, nan, inf, fin, Format, binary64, prec, emax, low, up, down, size, nearest, odd, units, round, sum, add, sub, mul, div, of_int, lt}
use lib.Ieee.Fits.{down_pos, round_is}
use Rattle.float.specs.Sign.{absolute, unsigned}
use Rattle.float.proofs.Units.{Is, Rounded, rounded, opened, taken, difference, crossed}

-- ---- `round` writes the sign that it is handed
absolute_odd : (d : ℕ) (s : Bool) (q k l : ℕ) → absolute (odd d s q k l) ≡ odd d false q k l
unfolding odd
absolute_odd d s zero k l = refl
absolute_odd d s (suc q) k l = refl

absolute_units : (f : Format) (s : Bool) (q k : ℕ) → absolute (units f s q k) ≡ units f false q k
unfolding units
absolute_units f s q k = go (ltb (q * 2 ^ k) (2 ^ (low f + suc (emax f))))
  where
    go : (b : Bool) → absolute (cond b (odd (suc (prec f)) s q k (low f)) (inf s)) ≡ cond b (odd (suc (prec f)) false q k (low f)) (inf false)
    go true = absolute_odd (suc (prec f)) s q k (low f)
    go false = refl

pub absolute_round : (f : Format) (s : Bool) (a c : ℕ) → absolute (round f s a c) ≡ round f false a c
absolute_round f s a c =
    let n = a * 2 ^ low f in
    let k = size (n / c) - prec f in
    let u = c * 2 ^ k in
    ap absolute (round_is f s a c) ∙ absolute_units f s (nearest (n / u) (compare (n % u * 2) u)) k ∙ sym (round_is f false a c)

-- what is its own size and a number of units has no sign
unsigned_of : (x : Float) (g : ℕ) → absolute x ≡ x → Is x g → T (unsigned x)
unsigned_of nan g p v = absurd v
unsigned_of (inf s) g p v = absurd v
unsigned_of (fin false m e) g p v = tt
unsigned_of (fin true m e) g p v = subst (λ (z : Float). T (unsigned z)) p tt

pub round_unsigned : (a c g : ℕ) → Is (round binary64 false a c) g → T (unsigned (round binary64 false a c))
round_unsigned a c g v = unsigned_of (round binary64 false a c) g (absolute_round binary64 false a c) v

pub mul_unsigned : (x y : Float) (g : ℕ) → T (unsigned x) → T (unsigned y) → Is (mul binary64 x y) g → T (unsigned (mul binary64 x y))
unfolding mul
mul_unsigned nan y g p q v = elim p [ ]
mul_unsigned (inf _) y g p q v = elim p [ ]
mul_unsigned (fin false m e) nan g p q v = elim q [ ]
mul_unsigned (fin false m e) (inf _) g p q v = elim q [ ]
mul_unsigned (fin false m e) (fin true n d) g p q v = elim q [ ]
mul_unsigned (fin true m e) y g p q v = elim p [ ]
mul_unsigned (fin false m e) (fin false n d) g p q v = round_unsigned (m * up e * (n * up d)) (down e * down d) g v

pub add_unsigned : (x y : Float) (g : ℕ) → T (unsigned x) → T (unsigned y) → Is (add binary64 x y) g → T (unsigned (add binary64 x y))
unfolding add
add_unsigned nan y g p q v = elim p [ ]
add_unsigned (inf _) y g p q v = elim p [ ]
add_unsigned (fin false m e) nan g p q v = elim q [ ]
add_unsigned (fin false m e) (inf _) g p q v = elim q [ ]
add_unsigned (fin false m e) (fin true n d) g p q v = elim q [ ]
add_unsigned (fin true m e) y g p q v = elim p [ ]
add_unsigned (fin false m e) (fin false n d) g p q v = round_unsigned (m * up e * down d + n * up d * down e) (down e * down d) g v

-- ---- the size of a difference
pub absolute_sub : (m : ℕ) (e : ℤ) (n : ℕ) (d : ℤ) → absolute (sub binary64 (fin false m e) (fin false n d))
    ≡ round binary64 false (m * up e * down d - n * up d * down e + (n * up d * down e - m * up e * down d)) (down e * down d)
unfolding sum
absolute_sub m e n d =
    let a = m * up e * down d in
    let b = n * up d * down e in
    let c = down e * down d in
    ap absolute (opened m e n d) ∙ go a b c (ltb a b) (ltb→lt a b) (nltb→le a b)
  where
    go : (a b c : ℕ) (t : Bool) → (T t → a < b) → (T (not t) → b ≤ a) → absolute (cond t (round binary64 true (b - a) c) (round binary64 false (a - b) c)) ≡ round binary64 false (a - b + (b - a)) c
    go a b c true h k = absolute_round binary64 true (b - a) c ∙ ap (λ (z : ℕ). round binary64 false z c) (first a b (h tt))
      where
        first : (a b : ℕ) → a < b → b - a ≡ a - b + (b - a)
        first a b h = omega arith
    go a b c false h k = absolute_round binary64 false (a - b) c ∙ ap (λ (z : ℕ). round binary64 false z c) (second a b (k tt))
      where
        second : (a b : ℕ) → b ≤ a → a - b ≡ a - b + (b - a)
        second a b h = omega arith

pub distance : (x y : Float) (gx gy : ℕ) → T (unsigned x) → T (unsigned y) → Is x gx → Is y gy → gx - gy + (gy - gx) ≤ 1 * 2 ^ 2000 → Rounded (absolute (sub binary64 x y)) (gx - gy + (gy - gx)) 1
distance nan y gx gy p q v w l = elim p [ ]
distance (inf _) y gx gy p q v w l = elim p [ ]
distance (fin false m e) nan gx gy p q v w l = elim q [ ]
distance (fin false m e) (inf _) gx gy p q v w l = elim q [ ]
distance (fin false m e) (fin true n d) gx gy p q v w l = elim q [ ]
distance (fin true m e) y gx gy p q v w l = elim p [ ]
distance (fin false m e) (fin false n d) gx gy p q v w l =
    let a = m * up e * down d in
    let b = n * up d * down e in
    let c = down e * down d in
    let L = 2 ^ 1074 in
    let A : a * L ≡ gx * c = crossed (m * up e) L gx (down e) (down d) v in
    let B : b * L ≡ gy * c = crossed (n * up d) L gy (down d) (down e) w ∙ ap (λ (z : ℕ). gy * z) (mul_comm (down d) (down e)) in
    subst (λ (z : Float). Rounded z (gx - gy + (gy - gx)) 1) (sym (absolute_sub m e n d))
    (rounded false (a - b + (b - a)) c (gx - gy + (gy - gx)) 1 (λ p. absurd (false≢true p)) (mul-pos (down_pos e) (down_pos d)) (pow_pos 0) (joined a b L gx gy c (difference a b L gx gy c A B) (difference b a L gy gx c B A)) l)
  where
    joined : (a b L x y c : ℕ) → (a - b) * L * 1 ≡ (x - y) * c → (b - a) * L * 1 ≡ (y - x) * c → (a - b + (b - a)) * L * 1 ≡ (x - y + (y - x)) * c
    joined a b L x y c p q =
        mul-one ((a - b + (b - a)) * L) ∙ add-mul (a - b) (b - a) L
        ∙ ap₂ ◌+◌ (sym (mul-one ((a - b) * L)) ∙ p) (sym (mul-one ((b - a) * L)) ∙ q) ∙ sym (add-mul (x - y) (y - x) c)

-- ---- the other operations on values with no sign
pub div_unsigned : (x y : Float) (g : ℕ) → T (unsigned x) → T (unsigned y) → Is (div binary64 x y) g → T (unsigned (div binary64 x y))
unfolding div
div_unsigned nan y g p q v = elim p [ ]
div_unsigned (inf _) y g p q v = elim p [ ]
div_unsigned (fin false m e) nan g p q v = elim q [ ]
div_unsigned (fin false m e) (inf _) g p q v = elim q [ ]
div_unsigned (fin false m e) (fin true n d) g p q v = elim q [ ]
div_unsigned (fin true m e) y g p q v = elim p [ ]
div_unsigned (fin false m e) (fin false n d) g p q v = go (eqb n 0) (eqb m 0) v
  where
    go : (b c : Bool) → Is (cond b (cond c nan (inf false)) (round binary64 false (m * up e * down d) (n * up d * down e))) g → T (unsigned (cond b (cond c nan (inf false)) (round binary64 false (m * up e * down d) (n * up d * down e))))
    go true true v = absurd v
    go true false v = absurd v
    go false c v = round_unsigned (m * up e * down d) (n * up d * down e) g v

pub whole_unsigned : (n g : ℕ) → Is (of_int binary64 (pos n)) g → T (unsigned (of_int binary64 (pos n)))
unfolding of_int
whole_unsigned n g v = round_unsigned n 1 g v

-- ---- the size of a difference, taken the way round that has no sign
pub difference_lt : (x y : Float) → T (unsigned x) → T (unsigned y) → T (lt x y) → sub binary64 y x ≡ absolute (sub binary64 x y)
unfolding lt
difference_lt nan y p q h = elim p [ ]
difference_lt (inf _) y p q h = elim p [ ]
difference_lt (fin false m e) nan p q h = elim q [ ]
difference_lt (fin false m e) (inf _) p q h = elim q [ ]
difference_lt (fin false m e) (fin true n d) p q h = elim q [ ]
difference_lt (fin true m e) y p q h = elim p [ ]
difference_lt (fin false m e) (fin false n d) p q h =
    let a = m * up e * down d in
    let b = n * up d * down e in
    let l : a < b = ltb→lt a b h in
    opened n d m e ∙ taken b a (down d * down e) (le_of_lt l) ∙ ap₂ (λ (y z : ℕ). round binary64 false y z) (first a b l) (mul_comm (down d) (down e)) ∙ sym (absolute_sub m e n d)
  where
    first : (a b : ℕ) → a < b → b - a ≡ a - b + (b - a)
    first a b h = omega arith

pub difference_ge : (x y : Float) → T (unsigned x) → T (unsigned y) → T (not (lt x y)) → sub binary64 x y ≡ absolute (sub binary64 x y)
unfolding lt
difference_ge nan y p q h = elim p [ ]
difference_ge (inf _) y p q h = elim p [ ]
difference_ge (fin false m e) nan p q h = elim q [ ]
difference_ge (fin false m e) (inf _) p q h = elim q [ ]
difference_ge (fin false m e) (fin true n d) p q h = elim q [ ]
difference_ge (fin true m e) y p q h = elim p [ ]
difference_ge (fin false m e) (fin false n d) p q h =
    let a = m * up e * down d in
    let b = n * up d * down e in
    let l : b ≤ a = nltb→le a b h in
    opened m e n d ∙ taken a b (down e * down d) l ∙ ap (λ (z : ℕ). round binary64 false z (down e * down d)) (second a b l) ∙ sym (absolute_sub m e n d)
  where
    second : (a b : ℕ) → b ≤ a → a - b ≡ a - b + (b - a)
    second a b h = omega arith
