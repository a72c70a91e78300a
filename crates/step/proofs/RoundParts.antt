-- The first half of a round, both lines, each called only where something is due: what is left after each, what the next asks, and each end of the round.
use Rattle.std.specs.Prelude.{None, Option}
use mathlib.Core.Path.{◌≡◌, refl, sym, ap, ◌∙◌, subst}
use mathlib.Core.Bool.{Bool, true, false, cond, not, ◌||◌}
use lib.Dec.{eqb}
use Rattle.path.specs.Path.{is_going, is_due}
use Rattle.path.specs.declared.Stop.{Stop}
use Rattle.receiving.specs.Receiving.{ServeForwardExit, serve_forward_exit}
use Rattle.receiving.proofs.Laws.{serve_not_due}
use Rattle.acks.specs.Reverse.{ServeExit, serve_reverse, CanServeReverse}
use Rattle.acks.proofs.Laws.{serve_reverse_not_due}
use Rattle.arrivals.specs.Arrivals.{ArrivalExit, arrival_exit, acks_of, with_forward, with_reverse, reverse_served}
use Rattle.arrivals.proofs.Laws.{served, can_serve_reverse, arrivals_stop, arrivals_both}
use Rattle.step.specs.State.{Given, RunState, with_arrivals, exhausted}
use Rattle.step.specs.Settle.{StepExit, over, unless_stopped}
use Rattle.step.specs.Step.{round_less, step}
use Rattle.step.specs.Good.{GoodRun}
use Rattle.step.specs.Internal.{finish_round}
use Rattle.step.specs.declared.Plan.{Plan}
use Rattle.step.specs.declared.End.TheVariants as end
use Rattle.step.proofs.Rounds.{going_is, not_going, is_going_lem, or_false, arrives, sends, after_sending, after_arriving, step_is}
use Rattle.step.proofs.Good.{can_arrive, arrived_good}

module _ (p : Plan) (g : Given) (s : RunState) where
  -- ---- after the forward line
  abbrev pub forwarded : ServeForwardExit
  forwarded = served g.reverse_rolls p.total_chunks s.time s.arrivals

  abbrev with_forwarded : ServeForwardExit → RunState
  with_forwarded x = with_arrivals (round_less s) (with_forward s.arrivals x)

  pub record AfterForward (x : RunState) (q : Bool) : Type 0 where
    pub state : x ≡ with_forwarded forwarded
    pub some : q ≡ forwarded.progress
    pub going : is_going forwarded.stop ≡ true

  pub forward_due : {x : ServeForwardExit} {b : Bool} → x ≡ forwarded → b ≡ is_going x.stop → not b ≡ false → AfterForward (with_forwarded x) x.progress
  forward_due {b = b} e i n =
      record {
        state = ap with_forwarded e;
        some = ap (λ (x : ServeForwardExit). x.progress) e;
        going = ap (λ (x : ServeForwardExit). is_going x.stop) (sym e) ∙ sym i ∙ is_going_lem b n;
      }

  pub forward_not_due : is_due s.arrivals.forward.path s.arrivals.forward.records s.time ≡ false → AfterForward (round_less s) false
  forward_not_due h =
      forward_due {x = serve_forward_exit s.arrivals.forward s.arrivals.inbound false (None)} {b = true} (sym (serve_not_due g.reverse_rolls p.total_chunks s.time s.arrivals.forward s.arrivals.inbound h)) refl refl

  -- ---- after the reverse line
  abbrev pub arrived : RunState
  arrived = with_arrivals (round_less s) (arrives p g s).state

  pub record AfterReverse (x : RunState) (q : Bool) : Type 0 where
    pub state : x ≡ arrived
    pub some : q ≡ (arrives p g s).progress
    pub going : is_going (arrives p g s).stop ≡ true

  replies : RunState → ServeExit
  replies x = serve_reverse p.timing s.time x.arrivals.inbound.reverse (acks_of x.arrivals)

  abbrev with_replies : RunState → ServeExit → RunState
  with_replies x y = with_arrivals x (with_reverse x.arrivals y)

  module _ {x : RunState} {q : Bool} (f : AfterForward x q) where
    both_is : arrives p g s ≡ reverse_served (with_forward s.arrivals forwarded) forwarded.progress (replies (with_forwarded forwarded))
    unfolding replies
    both_is = arrivals_both p.timing g.reverse_rolls p.total_chunks s.time s.arrivals f.going

    pub reverse_due : {y : ServeExit} → y ≡ serve_reverse p.timing s.time x.arrivals.inbound.reverse (acks_of x.arrivals) → AfterReverse (with_replies x y) (q || y.progress)
    unfolding replies
    reverse_due {y} e =
        let is : y ≡ replies (with_forwarded forwarded) = e ∙ ap replies f.state in
        record {
          state =
              ap (λ (z : RunState). with_replies z y) f.state ∙ ap (with_replies (with_forwarded forwarded)) is
              ∙ ap (λ (a : ArrivalExit). with_arrivals (round_less s) a.state) (sym both_is);
          some =
              ap (λ (b : Bool). b || y.progress) f.some ∙ ap (λ (z : ServeExit). forwarded.progress || z.progress) is
              ∙ ap (λ (a : ArrivalExit). a.progress) (sym both_is);
          going = ap (λ (a : ArrivalExit). is_going a.stop) both_is;
        }

    pub reverse_not_due : is_due x.arrivals.inbound.reverse.path x.arrivals.inbound.reverse.records s.time ≡ false → AfterReverse x q
    reverse_not_due h =
        let r = reverse_due (sym (serve_reverse_not_due p.timing s.time x.arrivals.inbound.reverse (acks_of x.arrivals) h)) in
        record { state = r.state; some = sym (or_false q) ∙ r.some; going = r.going }

    pub can_reverse : GoodRun p g s → CanServeReverse x.arrivals.inbound.reverse (acks_of x.arrivals) s.time
    can_reverse good =
        subst (λ (z : RunState). CanServeReverse z.arrivals.inbound.reverse (acks_of z.arrivals) s.time) (sym f.state)
        (can_serve_reverse g.reverse_rolls p.total_chunks s.time s.arrivals (can_arrive good))

  pub good_arrived : {x : RunState} {q : Bool} → AfterReverse x q → GoodRun p g s → GoodRun p g x
  good_arrived a good = subst (GoodRun p g) (sym a.state) (arrived_good good)

  -- ---- the same of equal states
  module _ {x y : RunState} {q r : Bool} (e : y ≡ x) (i : r ≡ q) where
    pub same_forward : AfterForward x q → AfterForward y r
    same_forward a = record { state = e ∙ a.state; some = i ∙ a.some; going = a.going }

    pub same_reverse : AfterReverse x q → AfterReverse y r
    same_reverse a = record { state = e ∙ a.state; some = i ∙ a.some; going = a.going }

  -- ---- the ends of the round
  module _ (z : eqb s.rounds 0 ≡ false) where
    by_arrivals : {y : StepExit} → y ≡ after_arriving p g s (arrives p g s) → y ≡ step p g s
    by_arrivals h = h ∙ sym (step_is p g s ∙ ap (λ (b : Bool). cond b (over (exhausted s) end.Ended s.time) (after_arriving p g s (arrives p g s))) z)

    pub forward_stops : {x : ServeForwardExit} {b : Bool} → x ≡ forwarded → b ≡ is_going x.stop → not b ≡ true → {y : StepExit} → ((rest : StepExit) → is_going x.stop ≡ false → y ≡ unless_stopped x.stop (with_forwarded x) rest) → y ≡ step p g s
    forward_stops {x} {b} e i n h =
        let off : is_going x.stop ≡ false = sym i ∙ not_going b n in
        let is : arrival_exit (with_forward s.arrivals x) x.progress x.stop ≡ arrives p g s =
        ap (λ (w : ServeForwardExit). arrival_exit (with_forward s.arrivals w) w.progress w.stop) e
        ∙ sym (arrivals_stop p.timing g.reverse_rolls p.total_chunks s.time s.arrivals (ap (λ (w : ServeForwardExit). is_going w.stop) (sym e) ∙ off)) in
        by_arrivals (h _ off ∙ ap (after_arriving p g s) is)

    by_sends : is_going (arrives p g s).stop ≡ true → {y : StepExit} → y ≡ after_sending p g s (arrives p g s).progress arrived (sends p g s arrived) → y ≡ step p g s
    by_sends on h =
        by_arrivals (h ∙ ap (λ (w : Option Stop). unless_stopped w arrived (after_sending p g s (arrives p g s).progress arrived (sends p g s arrived))) (sym (going_is (arrives p g s).stop on)))

    pub finishes : {x : RunState} {q : Bool} → AfterReverse x q → {y : StepExit} → y ≡ finish_round p g q x → y ≡ step p g s
    unfolding finish_round
    finishes {q = q} a h =
        by_sends a.going
        (h ∙ ap (λ (z : RunState). finish_round p g q z) a.state ∙ ap (λ (b : Bool). finish_round p g b arrived) a.some)
