-- What the functions below the entry points answer.
use Rattle.std.specs.Prelude.{ℕ, Option, Result}
use Rattle.host_answer.specs.Answer.{done_answer}
use Rattle.refusal.specs.declared.Refusal.{Refusal}

-- no timer ran, unless the set was refused
abbrev pub none_ran : Result (Option ℕ) Refusal → ℕ
none_ran a = done_answer a
