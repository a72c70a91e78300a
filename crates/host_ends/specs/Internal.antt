-- What the functions below the entry points answer.
use Rattle.std.specs.Prelude.{Err, Ok, Result}
use Rattle.window.specs.declared.TimeoutDecision.{TimeoutDecision}
use Rattle.window.specs.declared.TimeoutDecision.TheVariants as decision
use Rattle.refusal.specs.declared.Refusal.{Refusal}
use Rattle.refusal.specs.Order.{passed}

-- whether the state was refused
unfoldable pub verdict_of : Result TimeoutDecision Refusal → Result Unit Refusal
verdict_of (Ok (decision.Resend n k)) = passed
verdict_of (Ok decision.Nothing) = passed
verdict_of (Err r) = Err r
