-- What a call of the host interface answers: one number of 64 bits, a status in its lowest 8 bits and a value in the 56
-- above them. The statuses 1 to 11 are the refusals of document 01, "Turned away", by their numbers.
use Rattle.std.specs.Prelude.{ℕ, ◌+◌, ◌*◌, ◌/◌, ◌%◌, ◌≤◌, ◌<◌, cond, Bool, Err, None, Ok, Option, Result, Some}
use Rattle.refusal.specs.Refusal.{entry_of, values_of}
use Rattle.refusal.specs.declared.Refusal.{Refusal}

abbrev pub status_limit : ℕ
status_limit = 256

-- 2^56
abbrev pub value_limit : ℕ
value_limit = 72057594037927936

abbrev pub packed : ℕ → ℕ → ℕ
packed status value = status + value % value_limit * status_limit

-- what the host reads from an answer
abbrev pub status_in : ℕ → ℕ
status_in answer = answer % status_limit

abbrev pub value_in : ℕ → ℕ
value_in answer = answer / status_limit

-- the ordinary statuses
abbrev pub done_status : ℕ
done_status = 0

abbrev pub window_full_status : ℕ
window_full_status = 16

abbrev pub not_accepted_status : ℕ
not_accepted_status = 17

abbrev pub nothing_status : ℕ
nothing_status = 18

abbrev pub silent_status : ℕ
silent_status = 19

abbrev pub invalid_status : ℕ
invalid_status = 20

-- a refusal's values, 16 bits each: document 01 names at most two
abbrev pub word_limit : ℕ
word_limit = 65536

abbrev pub first_value : Refusal → ℕ
first_value r = (values_of (entry_of r).values).first

abbrev pub second_value : Refusal → ℕ
second_value r = (values_of (entry_of r).values).second

unfoldable pub refusal_answer : Refusal → ℕ
refusal_answer r =
    packed (entry_of r).number (first_value r % word_limit + second_value r % word_limit * word_limit)

unfoldable pub test_answer : Result Bool Refusal → ℕ
test_answer (Ok b) = packed done_status (cond b 1 0)
test_answer (Err r) = refusal_answer r

unfoldable pub count_answer : Result ℕ Refusal → ℕ
count_answer (Ok n) = packed done_status n
count_answer (Err r) = refusal_answer r

-- done, whatever the value
unfoldable pub done_answer : {A : Type 0} → Result A Refusal → ℕ
done_answer (Ok x) = packed done_status 0
done_answer (Err r) = refusal_answer r

-- with the value where there is one, otherwise a status alone
abbrev pub optional_answer : Result (Option ℕ) Refusal → ℕ → ℕ
optional_answer (Ok (Some n)) none = packed done_status n
optional_answer (Ok None) none = packed none 0
optional_answer (Err r) none = refusal_answer r

-- an answer says that the call was refused
pub record Refusing (answer : ℕ) : Type 0 where
  pub from : 1 ≤ status_in answer
  pub to : status_in answer ≤ 11

-- a refusal's values survive the packing
pub record ValuesFit (r : Refusal) : Type 0 where
  pub first : first_value r < word_limit
  pub second : second_value r < word_limit
