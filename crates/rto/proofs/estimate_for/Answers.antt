use Rattle.std.specs.Prelude.{Option, ℕ}
use Rattle.std.proofs.Common.{sym, ap, ◌∙◌, ap₂}
use Rattle.rto.specs.Rto.{estimate_broken, estimate_for}
use Rattle.rto.proofs.Checks.{estimates_fit}
use Rattle.rto.proofs.Checks.{estimates_fit}
use Rattle.rto.proofs.estimate_for.Goals as goal

pub next_estimate-requires : goal.next_estimate-requires
next_estimate-requires c = let h = estimates_fit c.in-Some.s c.in-Some-rttvar.v (sym (ap₂ estimate_broken c.in-Some.is c.in-Some-rttvar.is) ∙ c.requires.1) in
    (c.requires.0, h.0, h.1, c.requires.2)

pub returns-in-None : goal.returns-in-None
unfolding estimate_for
returns-in-None c = c.first_estimate.ensures ∙ sym (ap (λ (x : Option ℕ). estimate_for c.args.c x c.args.rttvar c.args.sample) c.in-None.is)

pub returns-in-None-rttvar : goal.returns-in-None-rttvar
unfolding estimate_for
returns-in-None-rttvar c = c.first_estimate-in-None-rttvar.ensures ∙ sym (ap₂ (λ (x y : Option ℕ). estimate_for c.args.c x y c.args.sample) c.in-Some.is c.in-None-rttvar.is)

pub returns-in-Some-rttvar : goal.returns-in-Some-rttvar
unfolding estimate_for
returns-in-Some-rttvar c = c.next_estimate.ensures ∙ sym (ap₂ (λ (x y : Option ℕ). estimate_for c.args.c x y c.args.sample) c.in-Some.is c.in-Some-rttvar.is)
