-- Lists of a run's calls and of the packets on its lines: one more.
use Prim.Native.Nat.{ℕ, ◌+◌, ◌*◌}
use mathlib.Core.Path.{◌≡◌, refl, sym, ap, ◌∙◌}
use mathlib.Core.Bool.{Bool, true, false, cond}
use mathlib.Core.List.{List, [], ◌∷◌, ◌++◌, append-nil, append_assoc, drop_last, foldl}
use native.Mathlib.Omega.{arith}
use lib.Ieee.{Float}
use lib.ListN.{length}
use Rattle.channel.specs.History as channel
use Rattle.channel.specs.declared.ChannelConfig.{ChannelConfig}
use Rattle.events.specs.Events.{ForwardEvent}
use Rattle.path.specs.Rolls.{packet_rolls, rolls_at}
use Rattle.path.specs.Path.{packet_buffer}
use Rattle.run_history.specs.Calls.{Call, Ends, after, after_calls, collect, total, Submission}
use Rattle.rto.specs.History as rto
use Rattle.rto.specs.declared.RtoEstimator.{RtoEstimator}
use Rattle.run_history.specs.Answered.{Each, Taken}
use Rattle.run_history.specs.Premature.{is_premature_after, premature_by, premature_in}
use Rattle.run_history.specs.Samples.{is_sampled_after, is_again_after, estimated_by, estimated_in}
use Rattle.run_history.specs.Lines.{filter, packets_from, event_for, events_from}

-- ---- calls
pub after_more : (e : Ends) (cs : List Call) (c : Call) → after_calls e (cs ++ c ∷ []) ≡ after (after_calls e cs) c
unfolding after_calls
after_more e [] c = refl
after_more e (d ∷ cs) c = after_more (after e d) cs c

pub collect_more : {A : Type 0} (f : Ends → Call → List A) (e : Ends) (cs : List Call) (c : Call) → collect f e (cs ++ c ∷ []) ≡ collect f e cs ++ f (after_calls e cs) c
unfolding collect after_calls
collect_more f e [] c = append-nil (f e c)
collect_more {A} f e (d ∷ cs) c = ap (λ (l : List A). f e d ++ l) (collect_more f (after e d) cs c) ∙ sym (append_assoc (f e d) (collect f (after e d) cs) (f (after_calls (after e d) cs) c))

pub total_more : (f : Ends → Call → ℕ) (e : Ends) (cs : List Call) (c : Call) → total f e (cs ++ c ∷ []) ≡ total f e cs + f (after_calls e cs) c
unfolding total after_calls
total_more f e [] c = omega arith
total_more f e (d ∷ cs) c = let h = total_more f (after e d) cs c in sum (f e d) (total f (after e d) cs) (f (after_calls (after e d) cs) c) _ h
  where
    sum : (a b x y : ℕ) → y ≡ b + x → a + y ≡ (a + b) + x
    sum a b x y h = omega arith

pub premature_more : (c : ChannelConfig) (rolls : List Float) (e : Ends) (before cs : List Call) (d : Call)
    → premature_in c rolls e before (cs ++ d ∷ []) ≡ premature_in c rolls e before cs + premature_by (is_premature_after c rolls e (before ++ cs)) (after_calls e (before ++ cs)) d
unfolding premature_in
premature_more c rolls e before [] d = none _ ∙ ap (λ (l : List Call). 0 + premature_by (is_premature_after c rolls e l) (after_calls e l) d) (sym (append-nil before))
  where
    none : (n : ℕ) → n + 0 ≡ 0 + n
    none n = omega arith
premature_more c rolls e before (x ∷ cs) d =
    sum _ _ _ _ (premature_more c rolls e (before ++ x ∷ []) cs d ∙ ap (λ (l : List Call). premature_in c rolls e (before ++ x ∷ []) cs + premature_by (is_premature_after c rolls e l) (after_calls e l) d) (append_assoc before (x ∷ []) cs))
  where
    sum : (a b x y : ℕ) → y ≡ b + x → a + y ≡ (a + b) + x
    sum a b x y h = omega arith

pub estimated_more : (e : Ends) (before cs : List Call) (d : Call)
    → estimated_in e before (cs ++ d ∷ []) ≡ estimated_in e before cs ++ estimated_by (is_sampled_after e (before ++ cs)) (is_again_after e (before ++ cs)) (after_calls e (before ++ cs)) d
unfolding estimated_in
estimated_more e before [] d = append-nil _ ∙ ap (λ (l : List Call). estimated_by (is_sampled_after e l) (is_again_after e l) (after_calls e l) d) (sym (append-nil before))
estimated_more e before (x ∷ cs) d =
    let these = estimated_by (is_sampled_after e before) (is_again_after e before) (after_calls e before) x in
    ap (λ (l : List rto.Call). these ++ l)
    (estimated_more e (before ++ x ∷ []) cs d ∙ ap (λ (l : List Call). estimated_in e (before ++ x ∷ []) cs ++ estimated_by (is_sampled_after e l) (is_again_after e l) (after_calls e l) d) (append_assoc before (x ∷ []) cs))
    ∙ sym (append_assoc these (estimated_in e (before ++ x ∷ []) cs) (estimated_by (is_sampled_after e (before ++ x ∷ cs)) (is_again_after e (before ++ x ∷ cs)) (after_calls e (before ++ x ∷ cs)) d))

-- ---- each call
pub each_more : (P : Ends → Call → Type 0) (e : Ends) (cs : List Call) (c : Call) → Each P e cs → P (after_calls e cs) c → Each P e (cs ++ c ∷ [])
unfolding after_calls
each_more P e [] c h p = (p, tt)
each_more P e (d ∷ cs) c h p = (h.0, each_more P (after e d) cs c h.1 p)

pub each_first : (P : Ends → Call → Type 0) (e : Ends) (cs : List Call) → Each P e cs → Each P e (drop_last cs)
each_first P e [] h = tt
each_first P e (c ∷ []) h = tt
each_first P e (c ∷ d ∷ cs) h = (h.0, each_first P (after e c) (d ∷ cs) h.1)

pub drop_last_more : (cs : List Call) (c : Call) → drop_last (cs ++ c ∷ []) ≡ cs
drop_last_more [] c = refl
drop_last_more (d ∷ []) c = refl
drop_last_more (d ∷ e ∷ cs) c = ap (λ (l : List Call). d ∷ l) (drop_last_more (e ∷ cs) c)

-- ---- the estimator's calls
pub taken_more : (x : RtoEstimator) (cs ds : List rto.Call) → Taken x cs → Taken (foldl rto.step x cs) ds → Taken x (cs ++ ds)
taken_more x [] ds h k = k
taken_more x (c ∷ cs) ds h k = (h.0, taken_more (rto.step x c) cs ds h.1 k)

-- ---- packets
pub filter_more : {A : Type 0} (test : A → Bool) (xs : List A) (x : A) → filter test (xs ++ x ∷ []) ≡ filter test xs ++ cond (test x) (x ∷ []) []
unfolding filter
filter_more test [] x = refl
filter_more {A} test (y ∷ xs) x = either (test y) (filter_more test xs x)
  where
    either : (b : Bool) → filter test (xs ++ x ∷ []) ≡ filter test xs ++ cond (test x) (x ∷ []) [] → cond b (y ∷ filter test (xs ++ x ∷ [])) (filter test (xs ++ x ∷ [])) ≡ cond b (y ∷ filter test xs) (filter test xs) ++ cond (test x) (x ∷ []) []
    either true rest = ap (λ (l : List A). y ∷ l) rest
    either false rest = rest

-- a packet with the rolls at `at`
abbrev pub packet_at : List Float → ℕ → List ℕ → channel.Call
packet_at rolls at wire = record { packet = wire; rolls = rolls_at rolls at; out = packet_buffer }

pub packets_more : (rolls : List Float) (at : ℕ) (before : List channel.Call) (wires : List (List ℕ)) (wire : List ℕ)
    → packets_from rolls at before (wires ++ wire ∷ []) ≡ packet_at rolls (at + length wires * packet_rolls) wire ∷ packets_from rolls at before wires
unfolding packets_from
packets_more rolls at before [] wire = ap (λ (n : ℕ). packet_at rolls n wire ∷ before) (omega arith)
packets_more rolls at before (w ∷ wires) wire =
    packets_more rolls (at + packet_rolls) (packet_at rolls at w ∷ before) wires wire
    ∙ ap (λ (n : ℕ). packet_at rolls n wire ∷ packets_from rolls (at + packet_rolls) (packet_at rolls at w ∷ before) wires) (omega arith)

pub events_more : (c : ChannelConfig) (rolls : List Float) (at : ℕ) (xs : List Submission) (x : Submission)
    → events_from c rolls at (xs ++ x ∷ []) ≡ events_from c rolls at xs ++ event_for c (rolls_at rolls (at + length xs * packet_rolls)) x ∷ []
unfolding events_from
events_more c rolls at [] x = ap (λ (n : ℕ). event_for c (rolls_at rolls n) x ∷ []) (omega arith)
events_more c rolls at (y ∷ xs) x =
    ap (λ (l : List ForwardEvent). event_for c (rolls_at rolls at) y ∷ l)
    (events_more c rolls (at + packet_rolls) xs x ∙ ap (λ (n : ℕ). events_from c rolls (at + packet_rolls) xs ++ event_for c (rolls_at rolls n) x ∷ []) (omega arith))
