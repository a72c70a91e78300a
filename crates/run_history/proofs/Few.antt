-- What a run's history says of its answer alone.
use Rattle.std.specs.Prelude.{None, Option, Some}
use Prim.Native.Nat.{ℕ, suc, ◌+◌, ◌≤◌, min}
use native.Mathlib.Omega.{arith}
use mathlib.Core.Path.{◌≡◌, refl, sym, ap, ◌∙◌, subst}
use mathlib.Core.Bool.{Bool, true, false, cond}
use mathlib.Core.List.{List, [], ◌∷◌, ◌++◌, foldl}
use lib.Ieee.{Float}
use lib.ListN.{length, take, length-map, length-take}
use Rattle.refusal.proofs.Laws.{decided}
use Rattle.channel.specs.declared.ChannelConfig.{ChannelConfig}
use Rattle.rto.specs.History as rto
use Rattle.rto.specs.Rto.{fresh, no_stats, sampled, accept_sample, reject_sample, timed_out, on_timeout_unchecked, reset_backoff_unchecked, update_rtt_unchecked, update_rtt, on_timeout, reset_backoff}
use Rattle.rto.specs.declared.RtoConfig.{RtoConfig}
use Rattle.rto.specs.declared.RtoEstimator.{RtoEstimator}
use Rattle.rto.specs.declared.UpdateResult.{UpdateResult}
use Rattle.rto.specs.declared.TimeoutResult.{TimeoutResult}
use Rattle.rto.specs.declared.ResetResult.{ResetResult}
use Rattle.packet.specs.Reading.{read_datagram}
use Rattle.path.specs.Rolls.{packet_rolls}
use Rattle.events.specs.Events.{event_of, events_of}
use Rattle.session.specs.Sending.{handle_ack, resent}
use Rattle.acks.specs.Acks.{ack_number, sample_seq, is_accepted}
use Rattle.setup.specs.declared.TransferConfig.{TransferConfig}
use Rattle.step.specs.State.{Given, Lent}
use Rattle.transfer.specs.declared.Ceilings.{Ceilings}
use Rattle.transfer.specs.declared.DriverCounts.{DriverCounts}
use Rattle.transfer.specs.declared.Outcome.{Outcome}
use Rattle.run_history.specs.Calls.{Call, chunk, timeout, arrival, return, Ends, after, after_calls, total, Submission, is_number, reads_as_data, reads_as_ack, one, arrived_in, returned_in, data_in, acks_in}
use Rattle.run_history.specs.Lines.{events_from}
use Rattle.run_history.specs.Samples.{ended_by, is_sampled_after, is_again_after, back_off, first_sample, estimated_by, estimated_in}
use Rattle.run_history.specs.History.{start_ends, History, Few}
use Rattle.run_history.proofs.Lists.{after_more}

-- ---- sums, call by call
total_most : (f g : Ends → Call → ℕ) → ((e : Ends) (c : Call) → f e c ≤ g e c) → (e : Ends) (cs : List Call) → total f e cs ≤ total g e cs
unfolding total
total_most f g h e [] = omega arith
total_most f g h e (c ∷ cs) = let a = h e c in let b = total_most f g h (after e c) cs in omega (arith, a, b)

one_most : (b : Bool) → one b ≤ 1
one_most true = omega arith
one_most false = omega arith

datas_most : (e : Ends) (c : Call) → data_in e c ≤ arrived_in e c
datas_most e (chunk payload carried) = omega arith
datas_most e (timeout t carried) = omega arith
datas_most e (arrival raw carried) = one_most (reads_as_data raw)
datas_most e (return raw age) = omega arith

acks_most : (e : Ends) (c : Call) → acks_in e c ≤ returned_in e c
acks_most e (chunk payload carried) = omega arith
acks_most e (timeout t carried) = omega arith
acks_most e (arrival raw carried) = omega arith
acks_most e (return raw age) = one_most (reads_as_ack raw)

-- ---- samples
abbrev is_sample : rto.Call → ℕ
is_sample (rto.sample d again) = 1
is_sample rto.timeout = 0
is_sample rto.reset = 0

abbrev sample_calls : List rto.Call → ℕ
sample_calls [] = 0
sample_calls (x ∷ xs) = is_sample x + sample_calls xs

abbrev counted : RtoEstimator → ℕ
counted e = e.stats.sample_count + e.stats.karn_rejected_count

sample_counts : (e : RtoEstimator) (d : ℕ) (again : Bool) → counted (update_rtt_unchecked e d again) ≤ counted e + 1
unfolding accept_sample reject_sample sampled
sample_counts e d true = omega arith
sample_counts e d false = omega arith

same_most : (n : ℕ) → n ≤ n + 0
same_most n = omega arith

step_counts : (e : RtoEstimator) (x : rto.Call) → counted (rto.step e x) ≤ counted e + is_sample x
unfolding rto.step update_rtt on_timeout reset_backoff on_timeout_unchecked timed_out reset_backoff_unchecked
step_counts e (rto.sample d again) = decided (λ (x : UpdateResult). counted x.estimator ≤ counted e + 1) _ _ _ (λ r. omega arith) (λ n. sample_counts e d again)
step_counts e rto.timeout = decided (λ (x : TimeoutResult). counted x.estimator ≤ counted e + 0) _ _ _ (λ r. same_most (counted e)) (λ n. same_most (counted e))
step_counts e rto.reset = decided (λ (x : ResetResult). counted x.estimator ≤ counted e + 0) _ _ _ (λ r. same_most (counted e)) (λ n. same_most (counted e))

calls_count : (e : RtoEstimator) (xs : List rto.Call) → counted (foldl rto.step e xs) ≤ counted e + sample_calls xs
calls_count e [] = same_most (counted e)
calls_count e (x ∷ xs) = let a = step_counts e x in let b = calls_count (rto.step e x) xs in omega (arith, a, b)

calls_join : (xs ys : List rto.Call) → sample_calls (xs ++ ys) ≡ sample_calls xs + sample_calls ys
calls_join [] ys = omega arith
calls_join (x ∷ xs) ys = let e = calls_join xs ys in omega (arith, e)

-- a call gives at most a sample, and only a valid ACK does
module _ (s a : ℕ → Bool) (e : Ends) where
  sample_most : (raw : List ℕ) (age : ℕ) (n : Option ℕ) → sample_calls (first_sample s a age (ended_by n e raw)) ≤ one (is_number n)
  sample_most raw age None = omega arith
  sample_most raw age (Some n) = go (is_accepted (handle_ack e.sender raw).answer) (s (sample_seq e.sender.sender.state n))
    where
      taken : (u : Bool) → sample_calls (cond u [] (rto.sample age (a (sample_seq e.sender.sender.state n)) ∷ [])) ≤ 1
      taken true = omega arith
      taken false = omega arith

      go : (t u : Bool) → sample_calls (first_sample s a age (cond t (sample_seq e.sender.sender.state n ∷ []) [])) ≤ 1
      go true u = taken (s (sample_seq e.sender.sender.state n))
      go false u = omega arith

  none_backed : (wires : List (List ℕ)) → sample_calls (back_off wires) ≤ 0
  none_backed [] = omega arith
  none_backed (wire ∷ wires) = omega arith

  estimates_most : (c : Call) → sample_calls (estimated_by s a e c) ≤ acks_in e c
  estimates_most (chunk payload carried) = omega arith
  estimates_most (timeout t carried) = none_backed (resent e.sender t).packets
  estimates_most (arrival raw carried) = omega arith
  estimates_most (return raw age) = sample_most raw age (ack_number (read_datagram raw))

samples_most : (e : Ends) (before cs : List Call) → sample_calls (estimated_in e before cs) ≤ total acks_in (after_calls e before) cs
unfolding estimated_in total
samples_most e before [] = omega arith
samples_most e before (c ∷ cs) =
    let these = estimated_by (is_sampled_after e before) (is_again_after e before) (after_calls e before) c in
    let join = calls_join these (estimated_in e (before ++ c ∷ []) cs) in
    let one = estimates_most (is_sampled_after e before) (is_again_after e before) (after_calls e before) c in
    let rest = subst (λ (u : Ends). sample_calls (estimated_in e (before ++ c ∷ []) cs) ≤ total acks_in u cs) (after_more e before c) (samples_most e (before ++ c ∷ []) cs) in
    omega (arith, join, one, rest)

none_counted : (c : RtoConfig) → counted (fresh c) ≡ 0
unfolding fresh no_stats
none_counted c = refl

-- ---- events
events_length : (c : ChannelConfig) (rolls : List Float) (at : ℕ) (xs : List Submission) → length (events_from c rolls at xs) ≡ length xs
unfolding events_from
events_length c rolls at [] = refl
events_length c rolls at (x ∷ xs) = ap suc (events_length c rolls (at + packet_rolls) xs)

rows_length : (n : ℕ) (rows : List (List ℕ)) → length (events_of n rows) ≡ min n (length rows)
unfolding events_of
rows_length n rows = length-map (take n rows) event_of ∙ length-take n rows

fits : (n m : ℕ) → n ≡ min n m → n ≤ m
fits n m e = omega arith

pub history_few : {k : Ceilings} {c : TransferConfig} {g : Given} {before : Lent} {o : Outcome} {l : Lent} → History k c g before o l → Few o l
unfolding rto.after_calls after_calls
history_few {k} {c} {g} {before} {o} {l} h =
    let t = h.tell in
    let e = start_ends k c before in
    let written : _ ≡ o.driver.events = ap (λ (x : DriverCounts). x.events) t.counts_are in
    let datas = ap (λ (x : DriverCounts). x.data_received) t.counts_are in
    let acks = ap (λ (x : DriverCounts). x.ack_received) t.counts_are in
    let estimates = calls_count (fresh c.rto) (estimated_in e [] h.calls) in
    let most = samples_most e [] h.calls in
    let start = none_counted c.rto in
    let same = ap counted t.estimator_is in
    record {
      events = fits o.driver.events (length l.events) (sym written ∙ sym (events_length c.channel g.forward_rolls 0 _) ∙ ap length t.events_are ∙ rows_length o.driver.events l.events);
      datas = let few = t.arrivals_few in let d = total_most data_in arrived_in datas_most e h.calls in omega (arith, few, d, datas);
      acks = let few = t.returns_few in let d = total_most acks_in returned_in acks_most e h.calls in omega (arith, few, d, acks);
      samples = omega (arith, estimates, most, start, same, acks);
    }
