-- A roll in [0, 1) times n, rounded, stays below n, for 1 ≤ n ≤ 2 ^ 53.
use Rattle.std.proofs.Common.{◌≡◌, ℕ, zero, suc, ◌+◌, ◌-◌, ◌*◌, ◌/◌, ◌%◌, ◌^◌, ◌<◌, ◌≤◌, Bool, true, false, not, ◌&&◌, T, eqb, ltb, leb, ℤ, pos, negsuc, sym, refl, ap, ◌∙◌, subst, true≢false, le_trans, le_of_eq, lt_of_lt_of_le, lt_of_le_of_lt, le_of_lt, mul-le-mul_right, zero-lt-suc, mul_assoc, mul_comm, div-lt_iff_lt-mul, lt_of_mul-lt-mul_right, mul-le-mul_left, mul-lt-mul_of_pos_right, mul-pos, one-mul, zero-mul, mul-one, mul_right_comm, le_of_mul-le-mul_right, arith, lit<, lit≤, eqb→eq, ltb→lt, lt→ltb, leb→le, pow_pos}
use native.Mathlib.Nat.{min-le_left}
use lib.Dec.{nleb→lt}
use lib.Ieee.{Float, nan, inf, fin, Format, binary64, prec, emax, low, up, down, round, mul, of_int, to_unsigned, le, lt, fits}
use lib.Ieee.Fits.{up_pos, down_pos, and_l, and_r, round_is}
use lib.Ieee.Exact.{HasValue, units_val, round_exact}
use lib.Ieee.Order.{drop, kept}
use lib.Ieee.Back.{round_whole}
use lib.Ieee.Scale.{grid, overflow}
use Rattle.float.specs.Roll.{scaled, roll_in_bounds}
use Rattle.float.proofs.Error.{grid_up}

-- ---- a value below 1 that has 53 digits is 1 - 2 ^ -53 at most
gap : (y D P : ℕ) → y < D → y < P → y * P + D ≤ P * D
gap y D P a b = go (leb D P) (leb→le D P) (nleb→lt D P)
  where
    go : (t : Bool) → (T t → D ≤ P) → (T (not t) → P < D) → y * P + D ≤ P * D
    go true h k =
        let x : suc y * P ≤ D * P = mul-le-mul_right P a in
        let z : D ≤ P = h tt in
        omega arith
    go false h k =
        let w : P < D = k tt in
        let x : suc y * D ≤ P * D = mul-le-mul_right D b in
        let z : y * P ≤ y * D = mul-le-mul_left y (le_of_lt w) in
        omega arith

-- what `fits` says of the digits
digits : (f : Format) (s : Bool) (m : ℕ) (e : ℤ) → T (fits f (fin s m e)) → m < 2 ^ prec f
unfolding fits
digits f s zero e t = pow_pos (prec f)
digits f s (suc m) e t =
    ltb→lt (suc m) (2 ^ prec f) (and_r (eqb (suc m % 2) 1) (ltb (suc m) (2 ^ prec f)) (and_l (eqb (suc m % 2) 1 && ltb (suc m) (2 ^ prec f)) (leb (down e) (2 ^ low f))
    (and_l (eqb (suc m % 2) 1 && ltb (suc m) (2 ^ prec f) && leb (down e) (2 ^ low f)) (ltb (suc m * up e) (2 ^ suc (emax f) * down e)) t)))

below_one : (f : Format) (s : Bool) (m : ℕ) (e : ℤ) → T (fits f (fin s m e)) → m * up e < down e → m * up e * 2 ^ prec f + down e ≤ 2 ^ prec f * down e
below_one f s m (negsuc k) t h = gap (m * 1) (2 ^ suc k) (2 ^ prec f) h (subst (λ (x : ℕ). x < 2 ^ prec f) (sym (mul-one m)) (digits f s m (negsuc k) t))
below_one f s m (pos k) t h = gap (m * 2 ^ k) 1 (2 ^ prec f) h (lt_of_lt_of_le h (pow_pos (prec f)))

-- ---- what `roll_in_bounds` says: m / 1 < 1, and a sign only at zero
zero_of : (m u d : ℕ) → 0 < u → 0 * d ≡ m * u * 1 → m ≡ 0
zero_of zero u d h e = refl
zero_of (suc m) u d h e = let x : 0 < suc m * u = mul-pos (zero-lt-suc m) h in absurd (bad (suc m * u) d x e)
  where
    bad : (x d : ℕ) → 0 < x → 0 * d ≡ x * 1 → ⊥
    bad x d h e = omega arith

in_bounds_below : (s : Bool) (m : ℕ) (e : ℤ) → T (roll_in_bounds (fin s m e)) → s ≡ false → m * up e < down e
unfolding le lt
in_bounds_below true m e t z = absurd (true≢false z)
in_bounds_below false m e t z = let h : m * up e * 1 < 1 * 1 * down e = ltb→lt (m * up e * 1) (1 * 1 * down e) (and_r (le (fin false 0 (pos 0)) (fin false m e)) (ltb (m * up e * 1) (1 * 1 * down e)) t) in plain (m * up e) (down e) h
  where
    plain : (a b : ℕ) → a * 1 < 1 * 1 * b → a < b
    plain a b h = omega arith

-- ---- g units, with g * P <= n * L * P - .., is below n * L
strict : (g P h N L : ℕ) → 0 < P → g * P + N ≤ P * N + h → h < N → g < N
strict g P h N L p a b = lt_of_mul-lt-mul_right P (less (g * P) (P * N) N h (N * P) a b (mul_comm P N))
  where
    less : (x y n k z : ℕ) → x + n ≤ y + k → k < n → y ≡ z → x < z
    less x y n k z a b e = omega arith

-- ---- x is finite, not negative (-0 is not), and below n
abbrev pub Under : Float → ℕ → Type 0
Under nan n = ⊥
Under (inf s) n = ⊥
Under (fin false m e) n = m * up e < n * down e
Under (fin true m e) n = m ≡ 0

-- `round` with either sign, by its grid
pub round_value : (f : Format) (s : Bool) (a c : ℕ) → grid f a c < overflow f → HasValue (round f s a c) s (grid f a c) (2 ^ low f)
round_value f s a c h = subst (λ (z : Float). HasValue z s (grid f a c) (2 ^ low f)) (sym (round_is f s a c)) (units_val f s (kept (prec f) (a * 2 ^ low f) c) (drop (prec f) (a * 2 ^ low f) c) h)

under_of : (x : Float) (g L n : ℕ) → 0 < L → HasValue x false g L → g < n * L → Under x n
under_of nan g L n p v h = v
under_of (inf s) g L n p v h = v
under_of (fin true m e) g L n p v h = absurd (true≢false v.0)
under_of (fin false m e) g L n p v h =
    lt_of_mul-lt-mul_right L (lt_of_le_of_lt (le_of_eq v.1) (lt_of_lt_of_le (mul-lt-mul_of_pos_right h (down_pos e)) (le_of_eq (mul_right_comm n L (down e)))))

zero_under : (x : Float) (L n : ℕ) → 0 < L → HasValue x true 0 L → Under x n
zero_under nan L n p v = v
zero_under (inf s) L n p v = v
zero_under (fin false m e) L n p v = absurd (true≢false (sym v.0))
zero_under (fin true m e) L n p v = zero_of m (up e * L) (down e) (mul-pos (up_pos e) p) (sym v.1 ∙ mul_assoc m (up e) L ∙ sym (mul-one (m * (up e * L))))

-- ---- a / c <= n * (1 - 1 / P), rounded by one part in P at most and h units, is below n
combine : (g a c P h L n : ℕ) → a * P + n * c ≤ P * (n * c) → g * c * P ≤ a * L * (P + 1) + c * h → (g * (P * P) + n * L) * c ≤ (P * P * (n * L) + P * h) * c
combine g a c P h L n r t =
    let t' : g * c * P * P ≤ (a * L * (P + 1) + c * h) * P = mul-le-mul_right P t in
    let r' : (a * P + n * c) * (L * (P + 1)) ≤ P * (n * c) * (L * (P + 1)) = mul-le-mul_right (L * (P + 1)) r in
    omega arith

scale : (g a c P h L n : ℕ) → 0 < c → 0 < P → a * P + n * c ≤ P * (n * c) → P * h < n * L → g * c * P ≤ a * L * (P + 1) + c * h → g < n * L
scale g a c P h L n C Pp r s t = strict g (P * P) (P * h) (n * L) L (mul-pos Pp Pp) (le_of_mul-le-mul_right (combine g a c P h L n r t) C) s

-- half a unit is nothing beside n
tiny : (n : ℕ) → 0 < n → 2 ^ 53 * 2 ^ 52 < n * 2 ^ 1074
tiny n lo = lt_of_lt_of_le (lit< tt) (le_trans (le_of_eq (sym (one-mul (2 ^ 1074)))) (mul-le-mul_right (2 ^ 1074) lo))

grid_below : (n a c : ℕ) → 0 < n → 0 < c → a * 2 ^ 53 + n * c ≤ 2 ^ 53 * (n * c) → grid binary64 a c < n * 2 ^ 1074
grid_below n a c lo C h = scale (grid binary64 a c) a c (2 ^ 53) (2 ^ 52) (2 ^ 1074) n C (pow_pos 53) h (tiny n lo) (grid_up binary64 a c C)

no_overflow : (n g : ℕ) → n ≤ 2 ^ 53 → g < n * 2 ^ 1074 → g < overflow binary64
no_overflow n g hi h = lt_of_lt_of_le h (le_trans (mul-le-mul_right (2 ^ 1074) hi) (lit≤ tt))

-- ---- x / d < 1 of 53 digits, times y / b = n
cross : (x d y b n P : ℕ) → x * P + d ≤ P * d → y * 1 ≡ n * b → x * y * P + n * (d * b) ≤ P * (n * (d * b))
cross x d y b n P h e = let k : (x * P + d) * (n * b) ≤ P * d * (n * b) = mul-le-mul_right (n * b) h in let z : x * y * P ≡ x * (n * b) * P = ap (λ (w : ℕ). x * w * P) (sym (mul-one y) ∙ e) in omega arith

under_round : (n a c : ℕ) → 0 < n → n ≤ 2 ^ 53 → 0 < c → a * 2 ^ 53 + n * c ≤ 2 ^ 53 * (n * c) → Under (round binary64 false a c) n
under_round n a c lo hi C h =
    let g = grid_below n a c lo C h in
    under_of (round binary64 false a c) (grid binary64 a c) (2 ^ 1074) n (pow_pos 1074) (round_value binary64 false a c (no_overflow n (grid binary64 a c) hi g)) g

under_zero : (n a c : ℕ) → 0 < c → a ≡ 0 → Under (round binary64 true a c) n
under_zero n a c C e =
    zero_under (round binary64 true a c) c n C
    (subst (λ (z : ℕ). HasValue (round binary64 true a c) true z c) e
    (round_exact binary64 true a c 0 0 C (pow_pos 53) (lit< tt) (ap (λ (z : ℕ). z * 2 ^ 1074) e ∙ zero-mul (2 ^ 1074) ∙ sym (ap (λ (z : ℕ). z * c) (zero-mul 1) ∙ zero-mul c))))

-- ---- the product of a roll and a float that is n
pub mul_fin : (s : Bool) (m : ℕ) (e : ℤ) (k : ℕ) (d : ℤ) → mul binary64 (fin s m e) (fin false k d) ≡ round binary64 s (m * up e * (k * up d)) (down e * down d)
unfolding mul
mul_fin true m e k d = refl
mul_fin false m e k d = refl

pub minus_zero : (m : ℕ) (e : ℤ) → T (le (fin false 0 (pos 0)) (fin true m e)) → m ≡ 0
unfolding le
minus_zero m e t =
    let A = 0 * 1 * down e in
    let B = m * up e * 1 in
    zero_of m (up e) (down e) (up_pos e) (eqb→eq A B (and_l (eqb A B) (eqb A 0) t))

roll_by : (x y : Float) (n : ℕ) → T (fits binary64 x) → T (roll_in_bounds x) → HasValue y false n 1 → 0 < n → n ≤ 2 ^ 53 → Under (mul binary64 x y) n
roll_by nan y n t u v lo hi = unfold le in absurd u
roll_by (inf true) y n t u v lo hi = unfold le in absurd u
roll_by (inf false) y n t u v lo hi = unfold le lt in absurd u
roll_by (fin s m e) nan n t u v lo hi = absurd v
roll_by (fin s m e) (inf r) n t u v lo hi = absurd v
roll_by (fin s m e) (fin true k d) n t u v lo hi = absurd (true≢false v.0)
roll_by (fin true m e) (fin false k d) n t u v lo hi =
    subst (λ (z : Float). Under z n) (sym (mul_fin true m e k d))
    (under_zero n (m * up e * (k * up d)) (down e * down d) (mul-pos (down_pos e) (down_pos d))
    (ap (λ (z : ℕ). z * up e * (k * up d)) (minus_zero m e (and_l (le (fin false 0 (pos 0)) (fin true m e)) (lt (fin true m e) (fin false 1 (pos 0))) u)) ∙ ap (λ (z : ℕ). z * (k * up d)) (zero-mul (up e)) ∙ zero-mul (k * up d)))
roll_by (fin false m e) (fin false k d) n t u v lo hi =
    subst (λ (z : Float). Under z n) (sym (mul_fin false m e k d))
    (under_round n (m * up e * (k * up d)) (down e * down d) lo hi (mul-pos (down_pos e) (down_pos d))
    (cross (m * up e) (down e) (k * up d) (down d) n (2 ^ 53) (below_one binary64 false m e t (in_bounds_below false m e u refl)) v.1))

-- ---- what `Under` gives: the whole part, and what a cast to an unsigned integer asks
pub cut_under : (w : ℕ) (x : Float) (n : ℕ) → 0 < n → Under x n → to_unsigned w x < n
unfolding to_unsigned
cut_under w nan n lo h = absurd h
cut_under w (inf s) n lo h = absurd h
cut_under w (fin true m e) n lo h = lo
cut_under w (fin false m e) n lo h = lt_of_le_of_lt (min-le_left (m * up e / down e) (2 ^ w - 1)) ((div-lt_iff_lt-mul (down_pos e)).1 h)

pub asked : (x : Float) (n : ℕ) → n ≤ 2 ^ 64 → Under x n → T (lt (fin true 1 (pos 0)) x) × T (lt x (fin false 1 (pos 64)))
unfolding lt
asked nan n hi h = absurd h
asked (inf s) n hi h = absurd h
asked (fin true m e) n hi h = (
  lt→ltb (m * up e * 1) (1 * 1 * down e) (none (m * up e) (down e) (down_pos e) (ap (λ (z : ℕ). z * up e) h ∙ zero-mul (up e))),
  lt→ltb 0 (m * up e * 1 + 1 * 2 ^ 64 * down e) (some_right (m * up e * 1) (1 * 2 ^ 64 * down e) (mul-pos (pow_pos 64) (down_pos e))),
)
  where
    none : (x d : ℕ) → 0 < d → x ≡ 0 → x * 1 < 1 * 1 * d
    none x d p z = omega arith

    some_right : (x y : ℕ) → 0 < y → 0 < x + y
    some_right x y p = omega arith
asked (fin false m e) n hi h = (
  lt→ltb 0 (1 * 1 * down e + m * up e * 1) (some (down e) (m * up e) (down_pos e)),
  lt→ltb (m * up e * 1) (1 * 2 ^ 64 * down e) (lt_of_le_of_lt (le_of_eq (mul-one (m * up e))) (lt_of_lt_of_le h (mul-le-mul_right (down e) hi))),
)
  where
    some : (d x : ℕ) → 0 < d → 0 < 1 * 1 * d + x * 1
    some d x p = omega arith

-- ---- the law: a roll in [0, 1) picks below n
pub roll_under : (x : Float) (n : ℕ) → T (fits binary64 x) → T (roll_in_bounds x) → 0 < n → n ≤ 2 ^ 53 → Under (mul binary64 x (of_int binary64 (pos n))) n
unfolding of_int
roll_under x n t u lo hi = roll_by x (round binary64 false n 1) n t u (round_whole binary64 false n hi) lo hi

pub scaled_below : (x : Float) (n : ℕ) → T (fits binary64 x) → T (roll_in_bounds x) → 0 < n → n ≤ 2 ^ 53 → scaled x n < n
scaled_below x n t u lo hi = cut_under 64 (mul binary64 x (of_int binary64 (pos n))) n lo (roll_under x n t u lo hi)
