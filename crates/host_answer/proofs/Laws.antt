-- Laws of the packed answers, for crates above to cite: status and value are read back; which answers refuse; what
-- survives the packing.
use Rattle.std.specs.Prelude.{Err, Ok, Result, MatchResult, IsOkAnd}
use Prim.Native.Nat.{ℕ, ◌+◌, ◌*◌, ◌/◌, ◌%◌, ◌≤◌, ◌<◌}
use mathlib.Core.Path.{◌≡◌, refl}
use mathlib.Core.Bool.{Bool}
use mathlib.Core.List.{List}
use native.Mathlib.Omega.{arith}
use Rattle.refusal.specs.Refusal.{entry_of}
use Rattle.refusal.specs.declared.Refusal.{Refusal}
use Rattle.refusal.specs.Order.{Check, verdict, decide}
use Rattle.refusal.proofs.Laws.{NoneTrue, accepted_none_true, EachRefusal, refused_one_of}
use Rattle.refusal.specs.declared.Refusal.TheVariants.{Short, Kind, Cut, Setup, Full, Long, Numbers, Counts, State, Time, Roll}
use Rattle.host_answer.specs.Answer.{status_limit, value_limit, packed, status_in, value_in, word_limit, first_value, second_value, refusal_answer, done_answer, Refusing, ValuesFit}

pub status_back : (status value : ℕ) → status < status_limit → status_in (packed status value) ≡ status
status_back status value h = omega arith

pub value_back : (status value : ℕ) → status < status_limit → value < value_limit → value_in (packed status value) ≡ value
value_back status value h k = omega arith

-- done or refused as before the value was dropped
pub done_dropped : {A : Type 0} (a : Result A Refusal) (b : Result Unit Refusal) (P : A → Unit {0} → Type 0)
    → MatchResult a (λ x. IsOkAnd b (P x)) (λ e. b ≡ Err e) → done_answer b ≡ done_answer a
unfolding done_answer
done_dropped (Ok x) (Ok u) P h = refl
done_dropped (Ok x) (Err r) P h = absurd h
done_dropped (Err r) b P h = rw h

-- a refusal's number is 1 to 11
pub record NumberWithin (n : ℕ) : Type 0 where
  pub from : 1 ≤ n
  pub to : n ≤ 11

pub number_within : (r : Refusal) → NumberWithin (entry_of r).number
number_within (Short n) = record { from = omega arith; to = omega arith }
number_within (Kind b) = record { from = omega arith; to = omega arith }
number_within (Cut n m) = record { from = omega arith; to = omega arith }
number_within Setup = record { from = omega arith; to = omega arith }
number_within Full = record { from = omega arith; to = omega arith }
number_within Long = record { from = omega arith; to = omega arith }
number_within Numbers = record { from = omega arith; to = omega arith }
number_within Counts = record { from = omega arith; to = omega arith }
number_within State = record { from = omega arith; to = omega arith }
number_within Time = record { from = omega arith; to = omega arith }
number_within Roll = record { from = omega arith; to = omega arith }

pub refusal_status : (r : Refusal) → status_in (refusal_answer r) ≡ (entry_of r).number
unfolding refusal_answer
refusal_status r = let k = (number_within r).to in status_back (entry_of r).number _ (omega arith)

pub refusal_refusing : (r : Refusal) → Refusing (refusal_answer r)
refusal_refusing r =
    let e = refusal_status r in
    let k = number_within r in
    let from = k.from in
    let to = k.to in
    record { from = omega arith; to = omega arith }

two_words : (a b : ℕ) → a < word_limit → b < word_limit → a % word_limit + b % word_limit * word_limit ≡ a + b * word_limit
two_words a b h k = omega arith

-- both values are read back
pub record ValuesBack (r : Refusal) : Type 0 where
  pub first : value_in (refusal_answer r) % word_limit ≡ first_value r
  pub second : value_in (refusal_answer r) / word_limit ≡ second_value r

values_of : (a b n : ℕ) → a < word_limit → b < word_limit → n < status_limit
    → value_in (packed n (a % word_limit + b % word_limit * word_limit)) ≡ a + b * word_limit
values_of a b n h k l = rw (two_words a b h k) (value_back n (a + b * word_limit) l (omega arith))

pub refusal_values : (r : Refusal) → ValuesFit r → ValuesBack r
unfolding refusal_answer
refusal_values r h =
    let k = (number_within r).to in
    let a = h.first in
    let b = h.second in
    let e = values_of (first_value r) (second_value r) (entry_of r).number a b (omega arith) in
    record { first = omega arith; second = omega arith }

-- an ordinary status is no refusal's
pub done_not_refusing : (value : ℕ) → Refusing (packed 0 value) → ⊥
done_not_refusing value h = let e = status_back 0 value (omega arith) in let from = h.from in omega arith

pub ordinary_not_refusing : (status value : ℕ) → 12 ≤ status → status < status_limit → Refusing (packed status value) → ⊥
ordinary_not_refusing status value h k refusing = let e = status_back status value k in let to = refusing.to in omega arith

-- ---- what the answers hold survives the packing
-- what holds of each check's refusal and of the accepted answer holds of the answer
module _ {A : Type 0} (P : A → Type 0) (cs : List Check) (f : Refusal → A) (a : A) (each : EachRefusal (λ r. P (f r)) cs) (ok : NoneTrue cs → P a) where
  by_verdict : (v : Result Unit Refusal) → verdict cs ≡ v → P (decide v f a)
  unfolding decide
  by_verdict (Ok tt) e = ok (accepted_none_true cs e)
  by_verdict (Err r) e = refused_one_of (λ (s : Refusal). P (f s)) r cs each e

  pub of_answer : P (decide (verdict cs) f a)
  of_answer = by_verdict (verdict cs) refl

-- refusals without values
pub full_fits : ValuesFit Full
full_fits = record { first = omega arith; second = omega arith }

pub long_fits : ValuesFit Long
long_fits = record { first = omega arith; second = omega arith }

pub numbers_fits : ValuesFit Numbers
numbers_fits = record { first = omega arith; second = omega arith }

pub counts_fits : ValuesFit Counts
counts_fits = record { first = omega arith; second = omega arith }

pub state_fits : ValuesFit State
state_fits = record { first = omega arith; second = omega arith }

pub time_fits : ValuesFit Time
time_fits = record { first = omega arith; second = omega arith }

-- of an answer that is a test or a count
abbrev pub TestFits : Result Bool Refusal → Type 0
TestFits (Ok b) = Unit {0}
TestFits (Err r) = ValuesFit r

abbrev pub CountFits : Result ℕ Refusal → Type 0
CountFits (Ok n) = n < value_limit
CountFits (Err r) = ValuesFit r
