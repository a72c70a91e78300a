-- What is sent: each chunk is a call, and each timeout with what becomes of its datagrams.
use Rattle.std.specs.Prelude.{Option}
use Prim.Native.Nat.{ℕ, ◌+◌, ◌≤◌, ◌<◌}
use mathlib.Core.Path.{◌≡◌, refl, sym, ap, ◌∙◌, subst}
use mathlib.Core.Bool.{Bool, true, false, cond, not, ◌&&◌, true≢false}
use mathlib.Core.List.{List, [], ◌∷◌, ◌++◌, append-nil, append_assoc, foldl}
use native.Mathlib.Omega.{arith}
use lib.Ieee.{Float}
use native.Mathlib.Numerals.{add-one}
use lib.ListN.{length, get_or, take, replicate}
use lib.Seq.{take-suc}
use Rattle.bounds.specs.Bounds.{count_limit, max_duration}
use Rattle.channel.specs.declared.ChannelConfig.{ChannelConfig}
use Rattle.chunks.specs.Chunks.{chunks_of}
use Rattle.delivery.specs.Calls.{number_of}
use Rattle.rto.specs.History as rto
use Rattle.rto.specs.Rto.{on_timeout_unchecked, counts_full}
use Rattle.rto.specs.declared.RtoEstimator.{RtoEstimator}
use Rattle.rto.specs.declared.TimeoutResult.{TimeoutResult}
use Rattle.rto.proofs.Laws.{Good, timeout_accepted}
use Rattle.path.specs.Direction.{Direction, Good as GoodLine}
use Rattle.path.specs.Path.{is_going, packet_buffer, CanCarry}
use Rattle.clock.specs.Clock as clock
use Rattle.clock.specs.declared.Timing.{Timing}
use Rattle.clock.specs.declared.Timing.TheVariants.{PerNumber}
use Rattle.clock.proofs.Laws.{can_back_off}
use Rattle.session.proofs.Laws.{resent_as}
use Rattle.session.specs.Sending.{SenderEnd, window_of, is_due, send_chunk, resent, oldest_outstanding}
use Rattle.delivery.specs.Ends.{bytes_sent, is_send_refused}
use Rattle.session.specs.GoodSender.{SenderUnbroken}
use Rattle.departures.specs.Departures.{is_going_on}
use Rattle.prefixes.proofs.Laws.{send_not_refused, timeout_not_refused}
use Rattle.session.specs.declared.Timeout.{Timeout}
use Rattle.session.specs.declared.Timeout.TheVariants as timeout
use Rattle.submission.specs.Submission.{Outgoing, entry_free, submit}
use Rattle.receiving.specs.Receiving.{Inbound, inbound}
use Rattle.sending.specs.Sending.{PumpState, PumpExit, pump_sends, can_pump, next_number, send_one}
use Rattle.sending.specs.Good.{CanPump}
use Rattle.sending.specs.Retransmit.{RetransmitExit, retransmit, exhausted, retransmit_all, ceiling_met}
use Rattle.sending.specs.declared.Resends.{Resends}
use Rattle.sending.proofs.Laws.{number_left, given as nextGiven, written as nextWritten, can_submit_next, sent_next, pump_turns, can_send_lem, retransmit_counts, all_none, all_by}
use Rattle.timeouts.specs.Timeouts.{FireState, FireExit, timed_out, timeout_of, fire_number, fire_numbers, expired, fire_timers}
use Rattle.timeouts.specs.Good.{GoodFire}
use Rattle.timeouts.proofs.Laws.{sender_unbroken, timed_out_by, timers_by, cancelled, fire_due, fire_not_due, fire_number_good, numbers_none, numbers_exhausted, numbers_going, numbers_stopped, stopped_good, cancelled_good}
use Rattle.run_history.specs.Calls.{chunk, timeout as timesOut, Submission, submission, resubmissions}
use Rattle.run_history.specs.Samples.{back_off}
use native.Mathlib.Nat.{le_trans}
use Rattle.rows.specs.Rows.{as_number}
use Rattle.notes.specs.Notes.{SegMetas, is_premature}
use Rattle.path.proofs.Laws.{granted, going_is, carry_good}
use Rattle.submission.specs.Submission.{note_before}
use Rattle.submission.proofs.Laws.{can_carry, metas_of, event_made, submit_going, submit_forward, going_events, after_again}
use Rattle.run_history.specs.Calls.{Reply, one}
use Rattle.run_history.specs.Lines.{filter, count, any, forward_wires}
use Rattle.run_history.specs.Copies.{copies_from}
use Rattle.run_history.specs.Premature.{is_first_granted}
use Rattle.run_history.specs.Answered.{Taken}
use Rattle.run_history.proofs.Noted.{noted_again, noted_first, first_more, again_more, is_event_again, first_once, again_twice, again_premature}
use Rattle.run_history.proofs.Resent.{Below, Short, resent_below, resent_short}
use Rattle.run_history.proofs.Columns.{events_in, line_of, Sending, submit_sending}
use Rattle.run_history.proofs.Holds.{LineHolds, no_copy, submit_holds}
use Rattle.run_history.proofs.Tells.{Origin, Moment, moment, NotedBy, Told, Goes, still_told, by_call, nothing_noted, same_noted, none_chunked, none_sent, none_replied, none_arrives, none_returns, no_more}

-- ---- the run goes on and the ceiling is not met
pub goes_both : (x y : Bool) → (x && not y) ≡ true → (x ≡ true) × (y ≡ false)
goes_both true false e = (refl, refl)
goes_both true true e = absurd (true≢false (sym e))
goes_both false y e = absurd (true≢false (sym e))

pub both_go : (x y : Bool) → x ≡ true → y ≡ false → (x && not y) ≡ true
both_go true false e f = refl
both_go true true e f = absurd (true≢false f)
both_go false y e f = absurd (true≢false (sym e))

-- ---- counting
count_none : {A : Type 0} (test : A → Bool) → count test [] ≡ 0
unfolding filter
count_none test = refl

count_one : {A : Type 0} (test : A → Bool) (x : A) (xs : List A) → count test (x ∷ xs) ≡ one (test x) + count test xs
unfolding filter
count_one {A} test x xs = go (test x)
  where
    go : (b : Bool) → length (cond b (x ∷ filter test xs) (filter test xs)) ≡ one b + length (filter test xs)
    go true = omega arith
    go false = omega arith

as_one : (b : Bool) → as_number b ≡ one b
as_one true = refl
as_one false = refl

sum_more : (p c k y x r : ℕ) → x ≡ c + k → r ≡ p + c → r + k ≡ y → p + x ≡ y
sum_more p c k y x r e f g = omega arith

-- ---- datagrams again, until the ceiling is met or the run ends
module _ (c : ChannelConfig) (rolls : List Float) (limit : ℕ) (t : Timing) (rto now : ℕ) (oldest : Option ℕ) where
  abbrev Sends : List Submission → ℕ → Resends → Outgoing → Type 0
  Sends xs came r o = Sending c rolls xs came r.retx_submitted o.written (line_of o.forward) (events_in o)

  record Resubmits (wires : List (List ℕ)) (r : Resends) (o : Outgoing) (y : RetransmitExit) : Type 0 where
    carried : List Bool
    sending : (xs : List Submission) (came : ℕ) → Sends xs came r o → Sends (xs ++ resubmissions carried wires) came y.resends y.outgoing
    holds : GoodLine o.forward rolls → now ≤ max_duration → Short wires → (xs : List Submission) {came : ℕ} (places : List ℕ) → Sends xs came r o → LineHolds (copies_from c rolls 0 (forward_wires xs)) places (line_of o.forward)
        → LineHolds (copies_from c rolls 0 (forward_wires (xs ++ resubmissions carried wires))) places (line_of y.outgoing.forward)
    whole : is_going y.stop ≡ true → y.resends.exhausted ≡ false → carried ≡ replicate (length wires) true
    premature : (test : ℕ → Bool) → ((n : ℕ) → test n ≡ is_premature o.metas n) → r.premature + count (λ (x : Submission). test x.seq) (resubmissions carried wires) ≡ y.resends.premature
    noted : is_going y.stop ≡ true → (xs : List Reply) (ys : List ℕ) (next : ℕ) → Below next wires → NotedBy (events_in o) xs ys next o.metas → NotedBy (events_in y.outgoing) xs ys next y.outgoing.metas

  none_again : (wires : List (List ℕ)) (r : Resends) (o : Outgoing) (y : RetransmitExit) → ((xs : List Submission) (came : ℕ) → Sends xs came r o → Sends xs came y.resends y.outgoing) → (is_going y.stop ≡ true → y.resends.exhausted ≡ false → [] ≡ replicate (length wires) true)
      → r.premature ≡ y.resends.premature → ((xs : List Reply) (ys : List ℕ) (next : ℕ) → NotedBy (events_in o) xs ys next o.metas → NotedBy (events_in y.outgoing) xs ys next y.outgoing.metas)
      → ((gs : List (List ℕ)) (places : List ℕ) → LineHolds gs places (line_of o.forward) → LineHolds gs places (line_of y.outgoing.forward)) → Resubmits wires r o y
  none_again wires r o y f w p k i = record {
    carried = [];
    holds = λ good time short xs places s h. rw (append-nil xs) (i _ places h);
    sending = λ xs came s. subst (λ (l : List Submission). Sends l came y.resends y.outgoing) (sym (append-nil xs)) (f xs came s);
    whole = w;
    premature = λ test h. ap (λ (n : ℕ). r.premature + n) (count_none (λ (x : Submission). test x.seq)) ∙ no_more r.premature ∙ p;
    noted = λ g xs ys next l. k xs ys next;
  }

  one_again : (wire : List ℕ) (r : Resends) (o : Outgoing) (b : Bool) → is_going (retransmit t rolls rto now oldest (number_of wire) wire r o).stop ≡ b → (xs : List Submission) (came : ℕ) → Sends xs came r o
      → Sends (xs ++ submission (number_of wire) true wire b ∷ []) came (retransmit t rolls rto now oldest (number_of wire) wire r o).resends (retransmit t rolls rto now oldest (number_of wire) wire r o).outgoing
  unfolding retransmit
  one_again wire r o b g xs came s = submit_sending t (record { time = now; seq = number_of wire; rto = rto; retransmission = true; oldest = oldest }) wire o s refl b g

  abbrev again : List ℕ → Resends → Outgoing → RetransmitExit
  again wire r o = retransmit t rolls rto now oldest (number_of wire) wire r o

  abbrev given : List ℕ → clock.Submission
  given wire = record { time = now; seq = number_of wire; rto = rto; retransmission = true; oldest = oldest }

  -- what waits after one
  one_holds : (wire : List ℕ) (r : Resends) (o : Outgoing) (b : Bool) → is_going (again wire r o).stop ≡ b → CanCarry o.forward rolls now wire → (xs : List Submission) {came : ℕ} (places : List ℕ) → Sends xs came r o → LineHolds (copies_from c rolls 0 (forward_wires xs)) places (line_of o.forward)
      → LineHolds (copies_from c rolls 0 (forward_wires (xs ++ submission (number_of wire) true wire b ∷ []))) places (line_of (again wire r o).outgoing.forward)
  unfolding retransmit
  one_holds wire r o b g can xs places s h = submit_holds t (given wire) wire o s can h b g

  again_good : (wire : List ℕ) (r : Resends) (o : Outgoing) → CanCarry o.forward rolls now wire → GoodLine (again wire r o).outgoing.forward rolls
  unfolding retransmit
  again_good wire r o can = subst (λ (d : Direction). GoodLine d rolls) (sym (submit_forward t rolls (given wire) wire o)) (carry_good o.forward rolls (entry_free o) now wire can)

  -- the notes after one that is carried
  again_metas : (wire : List ℕ) (r : Resends) (o : Outgoing) → is_going (again wire r o).stop ≡ true → (again wire r o).outgoing.metas ≡ metas_of rolls (given wire) o
  unfolding retransmit
  again_metas wire r o g = ap (λ (y : Outgoing). y.metas) (submit_going t rolls (given wire) wire o (going_is _ g))

  again_events : (wire : List ℕ) (r : Resends) (o : Outgoing) → is_going (again wire r o).stop ≡ true → events_in (again wire r o).outgoing ≡ events_in o ++ event_made rolls (given wire) wire o ∷ []
  unfolding retransmit
  again_events wire r o g = going_events t rolls (given wire) wire o (going_is _ g)

  again_noted : (wire : List ℕ) (r : Resends) (o : Outgoing) → is_going (again wire r o).stop ≡ true → (xs : List Reply) (ys : List ℕ) (next : ℕ) → number_of wire < next → NotedBy (events_in o) xs ys next o.metas
      → NotedBy (events_in (again wire r o).outgoing) xs ys next (again wire r o).outgoing.metas
  again_noted wire r o g xs ys next below q =
      subst (NotedBy (events_in (again wire r o).outgoing) xs ys next) (sym (again_metas wire r o g))
      (noted_again q (number_of wire) below (λ n. ap (any (is_first_granted n)) (again_events wire r o g) ∙ again_more (events_in o) (number_of wire) _ (granted o.forward rolls) n)
      (λ n. ap (any (is_event_again n)) (again_events wire r o g) ∙ again_twice (events_in o) (number_of wire) _ (granted o.forward rolls) n) now rto (granted o.forward rolls))

  again_test : (wire : List ℕ) (r : Resends) (o : Outgoing) → is_going (again wire r o).stop ≡ true → (n : ℕ) → is_premature (again wire r o).outgoing.metas n ≡ is_premature o.metas n
  again_test wire r o g n =
      ap (λ (x : SegMetas). is_premature x n) (again_metas wire r o g ∙ after_again (note_before o.metas (number_of wire) true now rto) (number_of wire) (granted o.forward rolls)) ∙ again_premature o.metas (number_of wire) now rto n

  again_count : (wire : List ℕ) (r : Resends) (o : Outgoing) (test : ℕ → Bool) → ((n : ℕ) → test n ≡ is_premature o.metas n) → (again wire r o).resends.premature ≡ r.premature + one (test (number_of wire))
  again_count wire r o test h = ap (λ (x : Resends). x.premature) (retransmit_counts t rolls rto now oldest (number_of wire) wire r o) ∙ ap (λ (n : ℕ). r.premature + n) (as_one (is_premature o.metas (number_of wire)) ∙ ap one (sym (h (number_of wire))))

  more_again : (wire : List ℕ) (wires : List (List ℕ)) (r : Resends) (o : Outgoing) (y : RetransmitExit) → is_going (again wire r o).stop ≡ true → Resubmits wires (again wire r o).resends (again wire r o).outgoing y → Resubmits (wire ∷ wires) r o y
  more_again wire wires r o y g rest =
      record {
        carried = true ∷ rest.carried;
        holds = λ good time short xs places s h.
            let can : CanCarry o.forward rolls now wire = record { good = good; in_time = time; short = short.0 } in
            subst (λ (l : List Submission). LineHolds (copies_from c rolls 0 (forward_wires l)) places (line_of y.outgoing.forward)) (append_assoc xs (submission (number_of wire) true wire true ∷ []) (resubmissions rest.carried wires))
            (rest.holds (again_good wire r o can) time short.1 _ places (one_again wire r o true g xs _ s) (one_holds wire r o true g can xs places s h));
        whole = λ h x. ap (λ (l : List Bool). true ∷ l) (rest.whole h x);
        premature = λ test h.
            let k = rest.premature test (λ n. h n ∙ sym (again_test wire r o g n)) in
            let c = again_count wire r o test h in
            let p = count_one (λ (x : Submission). test x.seq) (submission (number_of wire) true wire true) (resubmissions rest.carried wires) in
            sum_more _ _ _ _ _ _ p c k;
        noted = λ on xs ys next l q. rest.noted on xs ys next l.1 (again_noted wire r o g xs ys next l.0 q);
        sending = λ xs came s. subst (λ (l : List Submission). Sends l came y.resends y.outgoing) (append_assoc xs (submission (number_of wire) true wire true ∷ []) (resubmissions rest.carried wires)) (rest.sending _ came (one_again wire r o true g xs came s));
      }

  last_count : (wire : List ℕ) (wires : List (List ℕ)) (r : Resends) (o : Outgoing) (test : ℕ → Bool) → ((n : ℕ) → test n ≡ is_premature o.metas n) → r.premature + count (λ (x : Submission). test x.seq) (resubmissions (false ∷ []) (wire ∷ wires)) ≡ (again wire r o).resends.premature
  last_count wire wires r o test h =
      ap (λ (n : ℕ). r.premature + n) (count_one (λ (x : Submission). test x.seq) (submission (number_of wire) true wire false) [] ∙ ap (λ (n : ℕ). one (test (number_of wire)) + n) (count_none (λ (x : Submission). test x.seq)) ∙ no_more _)
      ∙ sym (again_count wire r o test h)

  resubmits : (wires : List (List ℕ)) (r : Resends) (o : Outgoing) → Resubmits wires r o (retransmit_all limit t rolls rto now oldest wires r o)
  resubmits [] r o = subst (Resubmits [] r o) (sym (all_none limit t rolls rto now oldest r o)) (none_again [] r o _ (λ xs came s. s) (λ g x. refl) refl (λ xs ys next q. q) (λ gs places h. h))
  resubmits (wire ∷ wires) r o =
      all_by limit t rolls rto now oldest wire wires r o (Resubmits (wire ∷ wires) r o) refl (none_again (wire ∷ wires) r o _ (λ xs came s. s) (λ g x. absurd (true≢false x)) refl (λ xs ys next q. q) (λ gs places h. h))
      (λ g. record { carried = false ∷ []; holds = λ good time short xs places s h. one_holds wire r o false g (record { good = good; in_time = time; short = short.0 }) xs places s h; sending = one_again wire r o false g; whole = λ h x. absurd (true≢false (sym h ∙ g)); premature = λ test h. last_count wire wires r o test h; noted = λ h. absurd (true≢false (sym h ∙ g)) })
      (λ g. more_again wire wires r o _ g (resubmits wires (again wire r o).resends (again wire r o).outgoing))

back_off_once : (wires : List (List ℕ)) → 0 < length wires → back_off wires ≡ rto.timeout ∷ []
back_off_once [] h = absurd (omega arith)
back_off_once (wire ∷ wires) h = refl

timeout_taken : (e : RtoEstimator) → Good e → counts_full e.stats ≡ false → rto.is_refused e rto.timeout ≡ false
unfolding rto.is_refused
timeout_taken e good counts = ap (λ (x : TimeoutResult). rto.timeout_refused x.answer) (timeout_accepted e good counts)

backed_off : (e : RtoEstimator) → Good e → counts_full e.stats ≡ false → rto.step e rto.timeout ≡ on_timeout_unchecked e
unfolding rto.step
backed_off e good counts = ap (λ (x : TimeoutResult). x.estimator) (timeout_accepted e good counts)

one_chunked : (b : Origin) (chunks : List (List ℕ)) → b.chunks ≡ chunks → (n : ℕ) → n < length chunks → (k : ℕ) → k ≡ n + 1 → (xs : List (List ℕ)) → xs ≡ take n b.chunks → xs ++ get_or chunks n [] ∷ [] ≡ take k b.chunks
one_chunked b chunks same n within k grows xs h =
    ap (λ (l : List (List ℕ)). l ++ get_or chunks n [] ∷ []) (h ∙ ap (take n) same) ∙ sym (take-suc chunks n [] within) ∙ ap (λ (j : ℕ). take j chunks) (sym (grows ∙ add-one n)) ∙ ap (take k) (sym same)

module _ (b : Origin) (i : Inbound) (acks duplicates : ℕ) where
  -- the moment as the sending side sees it
  abbrev pub send_moment : SenderEnd → RtoEstimator → Resends → Outgoing → Moment
  send_moment v e again o = moment o.forward (inbound i.side i.store i.output o.metas i.reverse) v e acks duplicates again o.written o.events

  abbrev pub fire_moment : FireState → Moment
  fire_moment s = send_moment s.sender s.estimator s.resends s.outgoing

  abbrev pub pump_moment : RtoEstimator → Resends → PumpState → Moment
  pump_moment e again w = send_moment w.sender e again w.outgoing

  -- ---- a chunk
  sent_told : (t : Timing) (chunks : List (List ℕ)) (rto now : ℕ) (e : RtoEstimator) (again : Resends) (w : PumpState) → is_send_refused (send_chunk w.sender (get_or chunks (next_number w) []) packet_buffer).answer ≡ false
      → (window_of (send_chunk w.sender (get_or chunks (next_number w) []) packet_buffer).after.sender).next_seq_num ≡ next_number w + 1 → b.chunks ≡ chunks → next_number w < length chunks → next_number w < length w.outgoing.metas.rows → CanCarry w.outgoing.forward b.forward_rolls now (bytes_sent (send_chunk w.sender (get_or chunks (next_number w) []) packet_buffer).answer (send_chunk w.sender (get_or chunks (next_number w) []) packet_buffer).out) → Told b (pump_moment e again w)
      → Goes b (pump_moment e again (send_one t b.forward_rolls chunks rto now w).state) (is_going (send_one t b.forward_rolls chunks rto now w).stop)
  unfolding send_one
  sent_told t chunks rto now e again w accepts grows same within row can q =
      let x = send_chunk w.sender (get_or chunks (next_number w) []) packet_buffer in
      let given : clock.Submission = record { time = now; seq = next_number w; rto = rto; retransmission = false; oldest = oldest_outstanding x.after.sender } in
      by_call {c = chunk (get_or chunks (next_number w) []) (is_going (send_one t b.forward_rolls chunks rto now w).stop)} q
      (record {
        not_refused = accepts;
        ends_are = refl;
        chunks_are = λ xs h. one_chunked b chunks same (next_number w) within (window_of x.after.sender).next_seq_num grows xs h;
        sending = λ xs came s. rw (no_more came) (submit_sending t given (bytes_sent x.answer x.out) w.outgoing s (no_more again.retx_submitted) _ refl);
        replying = none_replied b (pump_moment e again w);
        arrives = λ xs k places s h. no_copy refl (submit_holds t given (bytes_sent x.answer x.out) w.outgoing s can h _ refl);
        returns = λ xs k places s h. none_returns b (line_of i.reverse) xs places h;
        estimator_is = λ sampled again t. refl;
        taken = λ sampled again t. tt;
        datas_are = no_more _;
        repeats_are = no_more _;
        premature_are = λ test h. no_more _;
        acks_are = no_more _;
        duplicates_are = no_more _;
      })
      (λ g. g)
      (λ g xs ys k.
      let o = w.outgoing in
      let on = going_is _ g in
      let ds = granted o.forward b.forward_rolls in
      let wire = bytes_sent x.answer x.out in
      let made = going_events t b.forward_rolls given wire o on in
      same_noted (pump_moment e again (send_one t b.forward_rolls chunks rto now w).state) xs ys
      (subst (λ (n : ℕ). NotedBy (events_in (submit t b.forward_rolls given wire o).outgoing) xs ys n (submit t b.forward_rolls given wire o).outgoing.metas) (sym grows)
      (subst (NotedBy (events_in (submit t b.forward_rolls given wire o).outgoing) xs ys (next_number w + 1)) (ap (λ (y : Outgoing). y.metas) (sym (submit_going t b.forward_rolls given wire o on)))
      (noted_first k now rto ds row (λ n. ap (any (is_first_granted n)) made ∙ first_more (events_in o) (next_number w) _ ds n) (λ n. ap (any (is_event_again n)) made ∙ first_once (events_in o) (next_number w) _ ds n)))))

  pub pumps_told : {t : Timing} {size : ℕ} {file : List ℕ} {total rto now : ℕ} → b.chunks ≡ chunks_of size file → (e : RtoEstimator) (again : Resends) (w : PumpState) → CanPump t b.forward_rolls size file total rto now w → Told b (pump_moment e again w)
      → Goes b (pump_moment e again (pump_sends t b.forward_rolls (chunks_of size file) rto now w).state) (is_going (pump_sends t b.forward_rolls (chunks_of size file) rto now w).stop)
  pumps_told {t} {size} {file} {total} {rto} {now} same e again =
      pump_turns (λ (w : PumpState) (x : PumpExit). Told b (pump_moment e again w) → Goes b (pump_moment e again x.state) (is_going x.stop)) (λ w can none q. still_told q)
      (λ w x can free g rest q. rest ((sent w can free q).0 g)) (λ w can free g q. sent w can free q)
    where
      sent : (w : PumpState) (can : CanPump t b.forward_rolls size file total rto now w) (free : can_pump total w.sender.sender ≡ true) → Told b (pump_moment e again w)
          → Goes b (pump_moment e again (send_one t b.forward_rolls (chunks_of size file) rto now w).state) (is_going (send_one t b.forward_rolls (chunks_of size file) rto now w).stop)
      sent w can free q = sent_told t (chunks_of size file) rto now e again w (send_not_refused w.sender _ _ (can_send_lem can free)) (sent_next can free).next same (subst (λ (k : ℕ). next_number w < k) can.whole (number_left can free)) (le_trans (number_left can free) can.good.rows) (can_carry t b.forward_rolls (nextGiven can free) (nextWritten can free) w.outgoing (can_submit_next can free)) q

  -- ---- a timeout: told where no datagram is left behind
  abbrev pub Fired : FireExit → Type 0
  Fired x = Goes b (fire_moment x.state) (is_going_on x)

  -- the sender's next number stays
  timeout_noted : (of : Timeout) (s : FireState) → SenderUnbroken s.sender → (o : Outgoing) (xs : List Reply) (ys : List ℕ) → NotedBy (events_in o) xs ys (window_of s.sender.sender).next_seq_num o.metas
      → NotedBy (events_in o) (xs ++ []) (ys ++ []) (window_of (resent s.sender of).after.sender).next_seq_num o.metas
  timeout_noted of s unbroken o xs ys k = subst (λ (n : ℕ). NotedBy (events_in o) (xs ++ []) (ys ++ []) n o.metas) (sym (resent_as s.sender of unbroken).same.next) (nothing_noted (events_in o) xs ys k)

  module _ (limit now : ℕ) where
    timed_out_told : (t : Timing) (of : Timeout) (s : FireState) → SenderUnbroken s.sender → Good s.estimator → counts_full s.estimator.stats ≡ false → GoodLine s.outgoing.forward b.forward_rolls → now ≤ max_duration → Told b (fire_moment s) → Fired (timed_out limit t b.forward_rolls now of s)
    timed_out_told t of s unbroken good counts line time q =
        timed_out_by limit t b.forward_rolls now of s Fired
        (λ none.
        by_call {c = timesOut of []} q
        (record {
          not_refused = timeout_not_refused s.sender of unbroken;
          ends_are = refl;
          chunks_are = none_chunked b (resent_as s.sender of unbroken).same.next;
          sending = none_sent b (fire_moment s);
          replying = none_replied b (fire_moment s);
          arrives = λ xs k places q h. none_arrives b (line_of s.outgoing.forward) xs places h;
          returns = λ xs k places q h. none_returns b (line_of i.reverse) xs places h;
          estimator_is = λ sampled again t. rw none;
          taken = λ sampled again t. rw none tt;
          datas_are = no_more _;
          repeats_are = no_more _;
          premature_are = λ test h. ap (λ (n : ℕ). s.resends.premature + n) (count_none (λ (x : Submission). test x.seq)) ∙ no_more _;
          acks_are = no_more _;
          duplicates_are = no_more _;
        })
        (λ g. ap (λ (l : List (List ℕ)). replicate (length l) true) (sym none)) (λ g xs ys k. timeout_noted of s unbroken s.outgoing xs ys k))
        (λ some.
        let again = resubmits b.forward b.forward_rolls limit t (on_timeout_unchecked s.estimator).current_rto now (oldest_outstanding (resent s.sender of).after.sender) (resent s.sender of).packets s.resends s.outgoing in
        let all = retransmit_all limit t b.forward_rolls (on_timeout_unchecked s.estimator).current_rto now (oldest_outstanding (resent s.sender of).after.sender) (resent s.sender of).packets s.resends s.outgoing in
        by_call {c = timesOut of again.carried} q
        (record {
          not_refused = timeout_not_refused s.sender of unbroken;
          ends_are = refl;
          chunks_are = none_chunked b (resent_as s.sender of unbroken).same.next;
          sending = λ xs came h. rw (no_more came) (again.sending xs came h);
          replying = none_replied b (fire_moment s);
          arrives = λ xs k places q h. no_copy refl (again.holds line time (resent_short s.sender of unbroken) xs places q h);
          returns = λ xs k places q h. none_returns b (line_of i.reverse) xs places h;
          estimator_is = λ sampled again t. ap (foldl rto.step s.estimator) (back_off_once (resent s.sender of).packets some) ∙ backed_off s.estimator good counts;
          taken = λ sampled again t. subst (Taken s.estimator) (sym (back_off_once (resent s.sender of).packets some)) (timeout_taken s.estimator good counts, tt);
          datas_are = no_more _;
          repeats_are = no_more _;
          premature_are = again.premature;
          acks_are = no_more _;
          duplicates_are = no_more _;
        })
        (λ g. let h = goes_both _ _ g in again.whole h.0 h.1)
        (λ g xs ys k. timeout_noted of s unbroken all.outgoing xs ys (again.noted (goes_both (is_going all.stop) all.resends.exhausted g).0 xs ys _ (resent_below s.sender of unbroken) k)))

    -- ---- all timers that have run out
    module _ {samples : ℕ} (few : samples < count_limit) where
      good_told : {t : Timing} (of : Timeout) {s : FireState} → GoodFire t b.forward_rolls samples now s → Told b (fire_moment s) → Fired (timed_out limit t b.forward_rolls now of s)
      good_told {t} of {s} g q =
          let e = g.estimator in
          timed_out_told t of s (sender_unbroken g) (record { state = e.state; times = e.times }) (can_back_off s.estimator samples e few).0 g.outgoing.forward g.outgoing.notes.within q

      number_told : (n : ℕ) (s : FireState) → GoodFire PerNumber b.forward_rolls samples now s → Told b (fire_moment s) → Fired (fire_number limit b.forward_rolls now n s)
      unfolding fire_number
      number_told n s g q = good_told (timeout.Number n) (cancelled_good g n) q

      -- the ceiling was not met before a number, so it is not met by it
      ceiling_left : (n : ℕ) (s : FireState) → GoodFire PerNumber b.forward_rolls samples now s → ceiling_met limit s.resends ≡ false → (fire_number limit b.forward_rolls now n s).state.resends.exhausted ≡ s.resends.exhausted
      ceiling_left n s g c = by_due_lem (is_due s.sender n) refl
        where
          by_due_lem : (d : Bool) → is_due s.sender n ≡ d → (fire_number limit b.forward_rolls now n s).state.resends.exhausted ≡ s.resends.exhausted
          by_due_lem true d =
              ap (λ (x : FireExit). x.state.resends.exhausted) (fire_due limit b.forward_rolls now n s (sender_unbroken g) (g.selective refl) d c)
              ∙ ap (λ (r : Resends). r.exhausted) (retransmit_counts PerNumber b.forward_rolls _ now _ n _ s.resends (cancelled s n).outgoing)
          by_due_lem false d = ap (λ (x : FireExit). x.state.resends.exhausted) (fire_not_due limit b.forward_rolls now n s (sender_unbroken g) (g.selective refl) d)

      numbers_told : (ns : List ℕ) (s : FireState) → GoodFire PerNumber b.forward_rolls samples now s → s.resends.exhausted ≡ false → Told b (fire_moment s) → Fired (fire_numbers limit b.forward_rolls now ns s)
      numbers_told [] s g left q = subst Fired (sym (numbers_none limit b.forward_rolls now s)) (still_told q)
      numbers_told (n ∷ ns) s g left q =
          by_ceiling (ceiling_met limit s.resends) refl
          (λ c e. numbers_told ns (fire_number limit b.forward_rolls now n s).state (fire_number_good g limit n c e) (ceiling_left n s g c ∙ left) ((number_told n s g q).0 (both_go _ _ e (ceiling_left n s g c ∙ left))))
        where
          Rest : Type 0
          Rest = ceiling_met limit s.resends ≡ false → is_going (fire_number limit b.forward_rolls now n s).stop ≡ true → Fired (fire_numbers limit b.forward_rolls now ns (fire_number limit b.forward_rolls now n s).state)

          by_stop_lem : ceiling_met limit s.resends ≡ false → (x : Bool) → is_going (fire_number limit b.forward_rolls now n s).stop ≡ x → Rest → Fired (fire_numbers limit b.forward_rolls now (n ∷ ns) s)
          by_stop_lem c true e rest = subst Fired (sym (numbers_going limit b.forward_rolls now n ns s c e)) (rest c e)
          by_stop_lem c false e rest = subst Fired (sym (numbers_stopped limit b.forward_rolls now n ns s c e)) (number_told n s g q)

          by_ceiling : (x : Bool) → ceiling_met limit s.resends ≡ x → Rest → Fired (fire_numbers limit b.forward_rolls now (n ∷ ns) s)
          by_ceiling true c rest = subst Fired (sym (numbers_exhausted limit b.forward_rolls now n ns s c)) (still_told q)
          by_ceiling false c rest = by_stop_lem c (is_going (fire_number limit b.forward_rolls now n s).stop) refl rest

      pub fires_told : {t : Timing} {s : FireState} → GoodFire t b.forward_rolls samples now s → s.resends.exhausted ≡ false → Told b (fire_moment s) → Fired (fire_timers limit t b.forward_rolls now s)
      fires_told {t} {s} g left q =
          timers_by limit t b.forward_rolls now s Fired (λ c. still_told q) (λ c. still_told q) (still_told q) (λ other. good_told (timeout_of t) (stopped_good g) q)
          (λ e. numbers_told (expired s.outgoing.clock now) s (subst (λ (u : Timing). GoodFire u b.forward_rolls samples now s) e g) left q)
