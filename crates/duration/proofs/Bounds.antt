-- Check 10 of a start: what it lets pass, and what never meets it.
use Rattle.std.proofs.Common.{◌≡◌, ℕ, ◌+◌, ◌≤◌, Bool, true, false, ◌||◌, ltb, true≢false, arith, ltb-false, le-ltb}
use Rattle.bounds.specs.Bounds.{max_duration, max_time}
use Rattle.duration.specs.Bounds.{start_late}

pub start_in_time : (held : Bool) (now duration : ℕ) → (held || start_late now duration) ≡ false → now + duration ≤ max_time
start_in_time held now duration e = go held (ltb max_time now) (ltb max_duration duration) (ltb max_time (now + duration)) (ltb-false _ _) e
  where
    go : (a b c d : Bool) → (d ≡ false → now + duration ≤ max_time) → (a || (b || (c || d))) ≡ false → now + duration ≤ max_time
    go false false false d h e = h e
    go false false true d h e = absurd (true≢false e)
    go false true c d h e = absurd (true≢false e)
    go true b c d h e = absurd (true≢false e)

-- a time and a duration within 86,400 s: the deadline is within its bound, and check 10 is false of a start
pub deadline_within : (now duration : ℕ) → now ≤ max_duration → duration ≤ max_duration → now + duration ≤ max_time
deadline_within now duration p q = omega arith

pub start_late_within : (now duration : ℕ) → now ≤ max_duration → duration ≤ max_duration → start_late now duration ≡ false
start_late_within now duration p q =
    let t : now ≤ max_time = omega arith in
    simp (le-ltb max_time now t, le-ltb max_duration duration q, le-ltb max_time (now + duration) (deadline_within now duration p q))
