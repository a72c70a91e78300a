-- A list of calls tells a run at a moment, and with one call more the run after it.
use Prim.Native.Nat.{ℕ, ◌+◌, ◌<◌}
use mathlib.Core.Path.{◌≡◌, refl, sym, ap, ◌∙◌, subst}
use mathlib.Core.Bool.{Bool, true, ◌&&◌}
use mathlib.Core.List.{List, [], ◌∷◌, ◌++◌, append-nil, drop_last, foldl, foldl-append}
use native.Mathlib.Omega.{arith}
use lib.Dec.{eqb}
use lib.Ieee.{Float}
use lib.ListN.{take}
use Rattle.channel.specs.declared.ChannelConfig.{ChannelConfig}
use Rattle.rto.specs.History as rto
use Rattle.rto.specs.Rto.{fresh}
use Rattle.rto.specs.declared.RtoConfig.{RtoConfig}
use Rattle.rto.specs.declared.RtoEstimator.{RtoEstimator}
use Rattle.path.specs.Direction.{Direction}
use Rattle.events.specs.Events.{ForwardEvent, events_of}
use Rattle.session.specs.Sending.{SenderEnd}
use Rattle.session.specs.Receiving.{receiver_end}
use Rattle.receiving.specs.Receiving.{Inbound}
use Rattle.run_history.specs.Calls.{Call, Ends, ends, after, after_calls, collect, total, chunk_by, next_number, Submission, submitted_by, Reply, replied_by, arrived_in, returned_in, data_in, duplicate_data_in, acks_in, duplicate_acks_in}
use Rattle.rows.specs.Rows.{is_set}
use Rattle.notes.specs.Notes.{SegMetas, meta_at, is_premature}
use Rattle.sending.specs.declared.Resends.{Resends}
use Rattle.run_history.specs.Answered.{Each, NotRefused, Taken, Whole}
use Rattle.run_history.specs.Lines.{any, carried_of, forward_wires, reverse_wires}
use Rattle.run_history.specs.Copies.{copies_from, arrived_by, returned_by}
use Rattle.run_history.specs.Premature.{is_first_granted, covers, is_premature_after, premature_by, premature_in}
use Rattle.run_history.specs.Samples.{round_trip_by, is_sampled_after, is_again_after, estimated_by, estimated_in}
use Rattle.run_history.proofs.Noted.{flags, Noted, premature_is, is_event_again, events_again}
use Rattle.run_history.proofs.Lists.{after_more, collect_more, total_more, premature_more, estimated_more, each_more, taken_more, each_first, drop_last_more}
use Rattle.run_history.proofs.Columns.{Line, line_of, Sending, Replying}
use Rattle.run_history.proofs.Holds.{LineHolds, Hands, no_copy, Comes, comes_more}

-- what a run starts with
pub record Origin : Type 0 where
  pub start : Ends
  pub forward : ChannelConfig
  pub reverse : ChannelConfig
  pub forward_rolls : List Float
  pub reverse_rolls : List Float
  pub rto : RtoConfig
  pub chunks : List (List ℕ)

-- what the calls of a run have made so far
pub record Moment : Type 0 where
  pub ends : Ends
  pub forward : Line
  pub reverse : Line
  pub estimator : RtoEstimator
  pub datas : ℕ
  pub replies : ℕ
  pub acks : ℕ
  pub duplicates : ℕ
  pub repeats : ℕ
  pub metas : SegMetas
  pub again : ℕ
  pub premature : ℕ
  pub written : ℕ
  pub events : List ForwardEvent

abbrev pub moment : Direction → Inbound → SenderEnd → RtoEstimator → ℕ → ℕ → Resends → ℕ → List (List ℕ) → Moment
moment forward b v e acks duplicates again written rows = record {
  ends = ends v (receiver_end b.side.receiver b.store) b.output;
  forward = line_of forward;
  reverse = line_of b.reverse;
  estimator = e;
  datas = b.side.data_received;
  replies = b.side.ack_sent;
  acks = acks;
  duplicates = duplicates;
  repeats = b.side.duplicate_data;
  metas = b.metas;
  again = again.retx_submitted;
  premature = again.premature;
  written = written;
  events = events_of written rows;
}

-- with so many copies handed over
abbrev pub Sent : Origin → List Submission → ℕ → Moment → Type 0
Sent b xs came m = Sending b.forward b.forward_rolls xs came m.again m.written m.forward m.events

abbrev pub Replied : Origin → List Reply → ℕ → Moment → Type 0
Replied b xs came m = Replying b.reverse b.reverse_rolls xs came m.replies m.reverse

-- the copies granted
abbrev pub forward_copies : Origin → List Submission → List (List ℕ)
forward_copies b xs = copies_from b.forward b.forward_rolls 0 (forward_wires xs)

abbrev pub reverse_copies : Origin → List Reply → List (List ℕ)
reverse_copies b xs = copies_from b.reverse b.reverse_rolls 0 (reverse_wires xs)

-- the chunks sent are the first ones
abbrev pub Chunked : Origin → List (List ℕ) → Moment → Type 0
Chunked b xs m = xs ≡ take (next_number m.ends) b.chunks

pub record Tells (b : Origin) (cs : List Call) (m : Moment) : Type 0 where
  pub ends_are : after_calls b.start cs ≡ m.ends
  pub chunks_are : Chunked b (collect chunk_by b.start cs) m
  pub sending : Sent b (collect submitted_by b.start cs) (total arrived_in b.start cs) m
  pub replying : Replied b (collect replied_by b.start cs) (total returned_in b.start cs) m
  pub arrived : Comes (λ (ds : List Call). forward_copies b (collect submitted_by b.start ds)) arrived_by cs m.forward
  pub returned : Comes (λ (ds : List Call). reverse_copies b (collect replied_by b.start ds)) returned_by cs m.reverse
  pub estimator_is : rto.after_calls b.rto (estimated_in b.start [] cs) ≡ m.estimator
  pub taken : Taken (fresh b.rto) (estimated_in b.start [] cs)
  pub datas_are : total data_in b.start cs ≡ m.datas
  pub repeats_are : total duplicate_data_in b.start cs ≡ m.repeats
  pub premature_are : premature_in b.forward b.forward_rolls b.start [] cs ≡ m.premature
  pub acks_are : total acks_in b.start cs ≡ m.acks
  pub duplicates_are : total duplicate_acks_in b.start cs ≡ m.duplicates

-- the notes by the events, the replies and the round trips
abbrev pub NotedBy : List ForwardEvent → List Reply → List ℕ → ℕ → SegMetas → Type 0
NotedBy es xs ys next m = Noted (flags (λ (n : ℕ). any (is_first_granted n) es) (λ (n : ℕ). any (covers n) xs) (λ (n : ℕ). any (eqb n) ys) (λ (n : ℕ). any (is_event_again n) es)) next m

abbrev pub Notes : List Reply → List ℕ → Moment → Type 0
Notes xs ys m = NotedBy m.events xs ys (next_number m.ends) m.metas

-- while the run goes on, and where it may have ended at the last call
pub record Told (b : Origin) (m : Moment) : Type 0 where
  pub calls : List Call
  pub tells : Tells b calls m
  pub not_refused : Each NotRefused b.start calls
  pub whole : Each Whole b.start calls
  pub noted : Notes (collect replied_by b.start calls) (collect round_trip_by b.start calls) m

pub record Over (b : Origin) (m : Moment) : Type 0 where
  pub calls : List Call
  pub tells : Tells b calls m
  pub not_refused : Each NotRefused b.start calls
  pub whole : Each Whole b.start (drop_last calls)

pub told_over : {b : Origin} {m : Moment} → Told b m → Over b m
told_over {b} q = record { calls = q.calls; tells = q.tells; not_refused = q.not_refused; whole = each_first Whole b.start q.calls q.whole }

-- tests of the segments sent that say what the notes say
abbrev pub Tested : (sampled again : ℕ → Bool) → Moment → Type 0
Tested sampled again m = (n : ℕ) → n < next_number m.ends → (sampled n ≡ is_set (meta_at m.metas n).rtt_sampled) × (again n ≡ is_set (meta_at m.metas n).ever_retransmitted)

-- what one call makes of a moment
pub record Makes (b : Origin) (c : Call) (m next : Moment) : Type 0 where
  pub not_refused : NotRefused m.ends c
  pub ends_are : after m.ends c ≡ next.ends
  pub chunks_are : (xs : List (List ℕ)) → Chunked b xs m → Chunked b (xs ++ chunk_by m.ends c) next
  pub sending : (xs : List Submission) (came : ℕ) → Sent b xs came m → Sent b (xs ++ submitted_by m.ends c) (came + arrived_in m.ends c) next
  pub replying : (xs : List Reply) (came : ℕ) → Replied b xs came m → Replied b (xs ++ replied_by m.ends c) (came + returned_in m.ends c) next
  pub arrives : (xs : List Submission) (came : ℕ) (places : List ℕ) → Sent b xs came m → LineHolds (forward_copies b xs) places m.forward
      → Hands (forward_copies b xs) (arrived_by c) places (λ (ps : List ℕ). LineHolds (forward_copies b (xs ++ submitted_by m.ends c)) ps next.forward)
  pub returns : (xs : List Reply) (came : ℕ) (places : List ℕ) → Replied b xs came m → LineHolds (reverse_copies b xs) places m.reverse
      → Hands (reverse_copies b xs) (returned_by c) places (λ (ps : List ℕ). LineHolds (reverse_copies b (xs ++ replied_by m.ends c)) ps next.reverse)
  pub estimator_is : (sampled again : ℕ → Bool) → Tested sampled again m → foldl rto.step m.estimator (estimated_by sampled again m.ends c) ≡ next.estimator
  pub taken : (sampled again : ℕ → Bool) → Tested sampled again m → Taken m.estimator (estimated_by sampled again m.ends c)
  pub datas_are : m.datas + data_in m.ends c ≡ next.datas
  pub repeats_are : m.repeats + duplicate_data_in m.ends c ≡ next.repeats
  pub premature_are : (test : ℕ → Bool) → ((n : ℕ) → test n ≡ is_premature m.metas n) → m.premature + premature_by test m.ends c ≡ next.premature
  pub acks_are : m.acks + acks_in m.ends c ≡ next.acks
  pub duplicates_are : m.duplicates + duplicate_acks_in m.ends c ≡ next.duplicates

module _ {b : Origin} {c : Call} {m next : Moment} (q : Told b m) (h : Makes b c m next) where
  abbrev cs : List Call
  cs = q.calls

  at_ends : {A : Type 0} (f : Ends → A) → f (after_calls b.start cs) ≡ f m.ends
  at_ends f = ap f q.tells.ends_are

  collected : {A : Type 0} (f : Ends → Call → List A) → collect f b.start (cs ++ c ∷ []) ≡ collect f b.start cs ++ f m.ends c
  collected {A} f = collect_more f b.start cs c ∙ ap (λ (l : List A). collect f b.start cs ++ l) (at_ends (λ (e : Ends). f e c))

  totalled : (f : Ends → Call → ℕ) → total f b.start (cs ++ c ∷ []) ≡ total f b.start cs + f m.ends c
  totalled f = total_more f b.start cs c ∙ ap (λ (x : ℕ). total f b.start cs + x) (at_ends (λ (u : Ends). f u c))

  summed : (f : Ends → Call → ℕ) {n k : ℕ} → total f b.start cs ≡ n → n + f m.ends c ≡ k → total f b.start (cs ++ c ∷ []) ≡ k
  summed f {n} p e = totalled f ∙ ap (λ (x : ℕ). x + f m.ends c) p ∙ e

  abbrev test : ℕ → Bool
  test = is_premature_after b.forward b.forward_rolls b.start cs

  test_is : (n : ℕ) → test n ≡ is_premature m.metas n
  test_is n = ap (λ (l : List ForwardEvent). any (is_first_granted n) l && any (covers n) (collect replied_by b.start cs)) q.tells.sending.events_are ∙ premature_is q.noted n

  abbrev sampled : ℕ → Bool
  sampled = is_sampled_after b.start cs

  abbrev again : ℕ → Bool
  again = is_again_after b.start cs

  tested : Tested sampled again m
  tested n l =
      let x = q.noted.says n l in
      (sym x.rtt, sym (events_again b.forward b.forward_rolls 0 (carried_of (collect submitted_by b.start cs)) n) ∙ ap (any (is_event_again n)) q.tells.sending.events_are ∙ sym x.resent)

  estimates : estimated_in b.start [] (cs ++ c ∷ []) ≡ estimated_in b.start [] cs ++ estimated_by sampled again m.ends c
  estimates = estimated_more b.start [] cs c ∙ ap (λ (l : List rto.Call). estimated_in b.start [] cs ++ l) (at_ends (λ (e : Ends). estimated_by sampled again e c))

  tells_more : Tells b (cs ++ c ∷ []) next
  unfolding rto.after_calls
  tells_more =
      let t = q.tells in
      record {
        ends_are = after_more b.start cs c ∙ at_ends (λ (e : Ends). after e c) ∙ h.ends_are;
        chunks_are = subst (λ (xs : List (List ℕ)). Chunked b xs next) (sym (collected chunk_by)) (h.chunks_are _ t.chunks_are);
        sending = rw (collected submitted_by, totalled arrived_in) (h.sending _ _ t.sending);
        replying = rw (collected replied_by, totalled returned_in) (h.replying _ _ t.replying);
        arrived = comes_more t.arrived c next.forward
            (subst (λ (xs : List Submission). Hands (forward_copies b (collect submitted_by b.start cs)) (arrived_by c) t.arrived.places (λ (ps : List ℕ). LineHolds (forward_copies b xs) ps next.forward)) (sym (collected submitted_by)) (h.arrives _ _ _ t.sending t.arrived.holds));
        returned = comes_more t.returned c next.reverse
            (subst (λ (xs : List Reply). Hands (reverse_copies b (collect replied_by b.start cs)) (returned_by c) t.returned.places (λ (ps : List ℕ). LineHolds (reverse_copies b xs) ps next.reverse)) (sym (collected replied_by)) (h.returns _ _ _ t.replying t.returned.holds));
        estimator_is =
            ap (foldl rto.step (fresh b.rto)) estimates ∙ foldl-append rto.step (fresh b.rto) (estimated_in b.start [] cs) (estimated_by sampled again m.ends c)
            ∙ ap (λ (e : RtoEstimator). foldl rto.step e (estimated_by sampled again m.ends c)) t.estimator_is ∙ h.estimator_is sampled again tested;
        premature_are = premature_more b.forward b.forward_rolls b.start [] cs c ∙ ap (λ (n : ℕ). n + premature_by test (after_calls b.start cs) c) t.premature_are ∙ ap (λ (e : Ends). m.premature + premature_by test e c) t.ends_are ∙ h.premature_are test test_is;
        taken = subst (Taken (fresh b.rto)) (sym estimates)
            (taken_more (fresh b.rto) (estimated_in b.start [] cs) (estimated_by sampled again m.ends c) t.taken (subst (λ (e : RtoEstimator). Taken e (estimated_by sampled again m.ends c)) (sym t.estimator_is) (h.taken sampled again tested)));
        datas_are = summed data_in t.datas_are h.datas_are;
        repeats_are = summed duplicate_data_in t.repeats_are h.repeats_are;
        acks_are = summed acks_in t.acks_are h.acks_are;
        duplicates_are = summed duplicate_acks_in t.duplicates_are h.duplicates_are;
      }

  refused_none : Each NotRefused b.start (cs ++ c ∷ [])
  refused_none = each_more NotRefused b.start cs c q.not_refused (subst (λ (e : Ends). NotRefused e c) (sym q.tells.ends_are) h.not_refused)

  pub told_more : Whole m.ends c → ((xs : List Reply) (ys : List ℕ) → Notes xs ys m → Notes (xs ++ replied_by m.ends c) (ys ++ round_trip_by m.ends c) next) → Told b next
  told_more w k =
      record {
        calls = cs ++ c ∷ [];
        tells = tells_more;
        not_refused = refused_none;
        noted = subst (λ (xs : List Reply). Notes xs (collect round_trip_by b.start (cs ++ c ∷ [])) next) (sym (collected replied_by))
            (subst (λ (ys : List ℕ). Notes (collect replied_by b.start cs ++ replied_by m.ends c) ys next) (sym (collected round_trip_by)) (k _ _ q.noted));
        whole = each_more Whole b.start cs c q.whole (subst (λ (e : Ends). Whole e c) (sym q.tells.ends_are) w);
      }

  pub over_more : Over b next
  over_more = record { calls = cs ++ c ∷ []; tells = tells_more; not_refused = refused_none; whole = subst (Each Whole b.start) (sym (drop_last_more cs c)) q.whole }

-- a call that hands nothing to a line, and takes nothing from it
pub no_more : (n : ℕ) → n + 0 ≡ n
no_more n = omega arith

pub none_sent : (b : Origin) (m : Moment) (xs : List Submission) (came : ℕ) → Sent b xs came m → Sent b (xs ++ []) (came + 0) m
none_sent b m xs came s = rw (append-nil xs, no_more came) s

pub none_replied : (b : Origin) (m : Moment) (xs : List Reply) (came : ℕ) → Replied b xs came m → Replied b (xs ++ []) (came + 0) m
none_replied b m xs came s = rw (append-nil xs, no_more came) s

pub none_arrives : (b : Origin) (l : Line) (xs : List Submission) (places : List ℕ) → LineHolds (forward_copies b xs) places l → Hands (forward_copies b xs) [] places (λ (ps : List ℕ). LineHolds (forward_copies b (xs ++ [])) ps l)
none_arrives b l xs places h = no_copy refl (rw (append-nil xs) h)

pub none_returns : (b : Origin) (l : Line) (xs : List Reply) (places : List ℕ) → LineHolds (reverse_copies b xs) places l → Hands (reverse_copies b xs) [] places (λ (ps : List ℕ). LineHolds (reverse_copies b (xs ++ [])) ps l)
none_returns b l xs places h = no_copy refl (rw (append-nil xs) h)

-- a call that sends no chunk
pub none_chunked : (b : Origin) {n k : ℕ} → k ≡ n → (xs : List (List ℕ)) → xs ≡ take n b.chunks → xs ++ [] ≡ take k b.chunks
none_chunked b e xs h = append-nil xs ∙ h ∙ ap (λ (n : ℕ). take n b.chunks) (sym e)

pub same_chunked : (b : Origin) (m : Moment) (xs : List (List ℕ)) → Chunked b xs m → Chunked b (xs ++ []) m
same_chunked b m xs h = append-nil xs ∙ h

-- after a part of a step: told where the run goes on, over where it may not
abbrev pub Goes : Origin → Moment → Bool → Type 0
Goes b m going = (going ≡ true → Told b m) × Over b m

pub still_told : {b : Origin} {m : Moment} {going : Bool} → Told b m → Goes b m going
still_told q = (λ g. q, told_over q)

pub by_call : {b : Origin} {c : Call} {m next : Moment} {going : Bool} → Told b m → Makes b c m next → (going ≡ true → Whole m.ends c) → (going ≡ true → (xs : List Reply) (ys : List ℕ) → Notes xs ys m → Notes (xs ++ replied_by m.ends c) (ys ++ round_trip_by m.ends c) next) → Goes b next going
by_call q h w k = (λ g. told_more q h (w g) (k g), over_more q h)

-- a call that is answered with no ACK, ends no round trip, or neither, and notes nothing
pub no_reply : (es : List ForwardEvent) (xs : List Reply) (ys : List ℕ) {next : ℕ} {x : SegMetas} → NotedBy es xs ys next x → NotedBy es (xs ++ []) ys next x
no_reply es xs ys {next} {x} q = subst (λ (l : List Reply). NotedBy es l ys next x) (sym (append-nil xs)) q

pub no_trip : (es : List ForwardEvent) (xs : List Reply) (ys : List ℕ) {next : ℕ} {x : SegMetas} → NotedBy es xs ys next x → NotedBy es xs (ys ++ []) next x
no_trip es xs ys {next} {x} q = subst (λ (l : List ℕ). NotedBy es xs l next x) (sym (append-nil ys)) q

pub nothing_noted : (es : List ForwardEvent) (xs : List Reply) (ys : List ℕ) {next : ℕ} {x : SegMetas} → NotedBy es xs ys next x → NotedBy es (xs ++ []) (ys ++ []) next x
nothing_noted es xs ys q = no_reply es xs (ys ++ []) (no_trip es xs ys q)

pub same_noted : (m : Moment) (xs : List Reply) (ys : List ℕ) → Notes xs ys m → Notes (xs ++ []) (ys ++ []) m
same_noted m xs ys q = nothing_noted m.events xs ys q
