-- What every step asks holds of a run that is just made and not refused.
use Rattle.std.specs.Prelude.{Err, Ok, Result}
use Prim.Native.Nat.{ℕ, ◌*◌, ◌≤◌, ◌<◌}
use native.Mathlib.Omega.{arith}
use mathlib.Core.Path.{◌≡◌, refl, sym, ap, ◌∙◌, subst}
use mathlib.Core.Bool.{false}
use mathlib.Core.List.{List}
use lib.Dec.{lit<}
use lib.Ieee.{le}
use lib.ListN.{length, replicate}
use borrow.Author.Tests.{le-ltb}
use Rattle.bounds.specs.Bounds.{slot_size, max_chunks}
use Rattle.rows.specs.Rows.{vacant}
use Rattle.refusal.proofs.Laws.{or_false, on_accepted, on_refused}
use Rattle.refusal.specs.Order.{verdict}
use Rattle.refusal.specs.declared.Refusal.{Refusal}
use Rattle.protocol.specs.declared.ProtocolType.{ProtocolType}
use Rattle.protocol.specs.declared.ProtocolType.TheVariants.{StopAndWait, GoBackN, SelectiveRepeat}
use Rattle.window.specs.State.{window_broken, store_short}
use Rattle.channel.specs.Bounds.{config_broken, chances_broken, delays_broken}
use Rattle.channel.specs.declared.ChannelConfig.{ChannelConfig}
use Rattle.channel.proofs.Laws.{zero, NoFaults}
use Rattle.path.specs.Rolls.{Doubles}
use Rattle.path.specs.Path.{new_path}
use Rattle.path.proofs.Laws as path
use Rattle.notes.specs.Notes.{new_notes}
use Rattle.notes.proofs.Laws.{new_length, scheduled_new}
use Rattle.clock.specs.Estimator.{Factors}
use Rattle.clock.specs.declared.Timing.TheVariants.{PerNumber, Edition}
use Rattle.clock.proofs.Laws.{fresh_estimator, new_sender_timers}
use Rattle.session.specs.Sending.{slot_count}
use Rattle.session.specs.Receiving.{base, new_receiver, receiver_slot_count}
use Rattle.session.proofs.Laws.{new_receiver_good}
use Rattle.sending.proofs.Laws.{unused}
use Rattle.timeouts.proofs.Laws.{new_can_fire}
use Rattle.receiving.specs.Receiving.{new_side}
use Rattle.receiving.proofs.Laws.{CompletedIs, new_completed_is, new_inbound_good}
use Rattle.chunks.specs.Chunks.{chunks_of}
use Rattle.chunks.proofs.Laws.{chunks_some}
use Rattle.step.specs.State.{Given, RunState, Lent}
use Rattle.step.specs.Settle.{StepExit}
use Rattle.step.specs.declared.Plan.{Plan}
use Rattle.step.specs.Good.{GoodPlan, GoodRun}
use Rattle.setup.specs.Setup.{CanStart, sender_slots, start_checks}
use Rattle.setup.proofs.Laws.{start_accepted, window_fine, sender_window_fine, sender_store_fine}
use Rattle.setup.specs.declared.ClockChoice.{ClockChoice}
use Rattle.setup.specs.declared.ClockChoice.TheVariants as choice
use Rattle.setup.specs.declared.TransferConfig.{TransferConfig}
use Rattle.transfer.specs.Start.{timing_of, plan_of, plan_for, reverse_config, new_run, CanMake, start_of}
use Rattle.transfer.specs.Run.{run}
use Rattle.transfer.specs.Transfer.{default_ceilings, outcome_of, lent_of, run_exit, ended, run_transfer}
use Rattle.transfer.specs.declared.Outcome.{Outcome}
use Rattle.transfer.specs.declared.Ceilings.{Ceilings}
use Rattle.refusal.specs.Order.{passed}

-- ---- in the words of the ends' makers
slots_same : (p : ProtocolType) (w : ℕ) → sender_slots p w ≡ slot_count p w
slots_same StopAndWait w = refl
slots_same GoBackN w = refl
slots_same SelectiveRepeat w = refl

receiver_slots : (p : ProtocolType) (w : ℕ) (store : List ℕ) → (p ≡ SelectiveRepeat → w * slot_size ≤ length store) → receiver_slot_count p w * slot_size ≤ length store
receiver_slots StopAndWait w store h = omega arith
receiver_slots GoBackN w store h = omega arith
receiver_slots SelectiveRepeat w store h = h refl

-- only Selective Repeat has a timer a number
per_number : (p : ProtocolType) (c : ClockChoice) → timing_of p c ≡ PerNumber → p ≡ SelectiveRepeat
per_number StopAndWait choice.Source e = let z : ◌≡◌ {A = ℕ} 0 1 = cc in absurd (omega arith)
per_number StopAndWait choice.Edition e = let z : ◌≡◌ {A = ℕ} 0 1 = cc in absurd (omega arith)
per_number GoBackN choice.Source e = let z : ◌≡◌ {A = ℕ} 0 1 = cc in absurd (omega arith)
per_number GoBackN choice.Edition e = let z : ◌≡◌ {A = ℕ} 0 1 = cc in absurd (omega arith)
per_number SelectiveRepeat c e = refl

timers_enough : (p : ProtocolType) (w n : ℕ) → p ≡ SelectiveRepeat → (p ≡ SelectiveRepeat → w ≤ n) → slot_count p w ≤ n
timers_enough StopAndWait w n e h = let z : ◌≡◌ {A = ℕ} 0 1 = cc in absurd (omega arith)
timers_enough GoBackN w n e h = h e
timers_enough SelectiveRepeat w n e h = h e

none_above : (n m : ℕ) → n ≡ 0 → n ≤ m
none_above n m e = omega arith

-- a channel without faults is within bounds where its delays are
reverse_fine : (c : ChannelConfig) → config_broken c ≡ false → config_broken (reverse_config c) ≡ false
unfolding config_broken le
reverse_fine c h = (or_false (chances_broken c.loss c.duplicate c.reorder c.corrupt) (delays_broken c.reorder_extra_ms c.base_delay_ms c.jitter_ms) h).1

pub reverse_no_faults : (c : ChannelConfig) → NoFaults (reverse_config c)
reverse_no_faults c = record { loss = zero false; duplicate = zero false; reorder = zero false; corrupt = zero false }

-- nothing is delivered
new_base : (p : ProtocolType) (w : ℕ) (store : List ℕ) → base (new_receiver p w store).receiver ≡ 0
unfolding new_receiver
new_base StopAndWait w store = refl
new_base GoBackN w store = refl
new_base SelectiveRepeat w store = refl

module _ (k : Ceilings) (c : TransferConfig) (g : Given) (l : Lent) (h : CanStart (start_of c g l)) where
  pub start_can_make : 0 < k.steps → CanMake k c l.sender_store l.receiver_store l.keys l.deadlines
  start_can_make some =
      record {
        sender_room = subst (λ (n : ℕ). n * slot_size ≤ length l.sender_store) (slots_same c.protocol c.window_size) h.sender_room;
        receiver_room = receiver_slots c.protocol c.window_size l.receiver_store h.receiver_room;
        timers_alike = h.timers_alike;
        some = some;
      }

  pub start_plan : GoodPlan (plan_for k c g) g
  start_plan = record { some = let n = h.chunk_some in omega (arith, n); short = h.chunk_small; whole = refl; few = h.chunks_few; time = h.time_short }

  receiver_store : store_short l.receiver_store (receiver_slot_count c.protocol c.window_size) ≡ false
  unfolding store_short
  receiver_store = le-ltb _ _ (receiver_slots c.protocol c.window_size l.receiver_store h.receiver_room)

  pub sender_store : store_short l.sender_store (slot_count c.protocol c.window_size) ≡ false
  sender_store = subst (λ (n : ℕ). store_short l.sender_store n ≡ false) (slots_same c.protocol c.window_size) (sender_store_fine (start_of c g l) h)

  pub sender_window : window_broken (slot_count c.protocol c.window_size) ≡ false
  sender_window = subst (λ (n : ℕ). window_broken n ≡ false) (slots_same c.protocol c.window_size) (sender_window_fine (start_of c g l) h)

  -- so the run isn't completed, there being a chunk
  pub start_completed_is : CompletedIs (length (chunks_of c.chunk_size g.file)) (new_side (new_receiver c.protocol c.window_size l.receiver_store).receiver)
  start_completed_is =
      let n = new_base c.protocol c.window_size l.receiver_store in
      let z = h.chunk_some in
      let m = chunks_some c.chunk_size g.file (omega (arith, z)) in
      new_completed_is (length (chunks_of c.chunk_size g.file)) (new_receiver c.protocol c.window_size l.receiver_store).receiver (omega (arith, n, m))

  notes_fit : (new_notes l.rows).notes.count ≤ length (new_notes l.rows).rows
  unfolding new_notes
  notes_fit = omega arith

  module _ (forward : Doubles g.forward_rolls) (reverse : Doubles g.reverse_rolls) (factors : Factors c.rto) where
    pub start_good : GoodRun (plan_for k c g) g (new_run k c l)
    unfolding new_run new_path
    start_good =
        let w = c.window_size in
        let receiver = new_receiver c.protocol w l.receiver_store in
        let selective = per_number c.protocol c.clock in
        let entries : timing_of c.protocol c.clock ≡ PerNumber → slot_count c.protocol w ≤ length l.keys = λ e. timers_enough c.protocol w (length l.keys) (selective e) h.timers_room in
        let fire = (new_can_fire c.protocol w k.retries l.sender_store c.rto c.channel l.forward_records l.forward_places g.forward_rolls l.rows (replicate (length l.events) vacant) l.keys l.deadlines (timing_of c.protocol c.clock) 0
        sender_window sender_store h.rto_fine factors h.channel_fine forward h.forward_rolls h.timers_alike (omega arith) entries selective).good in
        record {
          outgoing = fire.outgoing;
          inbound = new_inbound_good receiver.receiver receiver.store l.output (new_notes l.rows) (new_path (reverse_config c.channel) l.reverse_records l.reverse_places) g.reverse_rolls (new_receiver_good c.protocol w l.receiver_store l.output (window_fine (start_of c g l) h) receiver_store) notes_fit
              (scheduled_new l.rows) (path.new_good (reverse_config c.channel) l.reverse_records l.reverse_places g.reverse_rolls (reverse_fine c.channel h.channel_fine) reverse h.reverse_rolls);
          sender = fire.sender;
          estimator = fresh_estimator c.rto h.rto_fine factors;
          duplicates = omega arith;
          arrived = record { datas = omega arith; replies = omega arith };
          counted = fire.counted;
          next = none_above _ _ (unused c.protocol w k.retries l.sender_store).next;
          rows = rw (new_length l.rows) h.notes_room;
          timers = new_sender_timers (timing_of c.protocol c.clock) c.protocol w k.retries l.sender_store l.keys l.deadlines h.timers_alike entries;
          selective = fire.selective;
        }

-- ---- the entry point, over plain variables
module _ (c : TransferConfig) (g : Given) (l : Lent) {v : Result Unit Refusal} (e : v ≡ verdict (start_checks (start_of c g l))) where
  pub transfer_refused : {r : Refusal} → v ≡ Err r → run_exit (Err r) l ≡ run_transfer default_ceilings c g l
  unfolding run_transfer
  transfer_refused a = sym (on_refused (λ (r : Refusal). run_exit (Err r) l) _ (sym e ∙ a))

  module _ (a : v ≡ passed) where
    pub can_start : CanStart (start_of c g l)
    can_start = start_accepted (start_of c g l) (sym e ∙ a)

    pub start_size : 0 < c.chunk_size
    start_size = let n = can_start.chunk_some in omega (arith, n)

    pub start_total : {n : ℕ} → n ≡ length (chunks_of c.chunk_size g.file) → n < 4294967296
    start_total h = few _ _ max_chunks _ h can_start.chunks_few (lit< tt)
      where
        few : (n m top limit : ℕ) → n ≡ m → m ≤ top → top < limit → n < limit
        few n m top limit p q r = omega arith

    module _ {k : Ceilings} (is : k ≡ default_ceilings) where
      pub can_make : CanMake k c l.sender_store l.receiver_store l.keys l.deadlines
      can_make = start_can_make k c g l can_start (subst (λ (x : Ceilings). 0 < x.steps) (sym is) (lit< tt))

      module _ {total : ℕ} {p : Plan} {s : RunState} (whole : total ≡ length (chunks_of c.chunk_size g.file)) (plan : p ≡ plan_of c total k.rounds) (made : s ≡ new_run k c l) where
        plan_for_lem : p ≡ plan_for k c g
        plan_for_lem = plan ∙ ap (λ (n : ℕ). plan_of c n k.rounds) whole

        pub good_plan : GoodPlan p g
        good_plan = subst (λ (x : Plan). GoodPlan x g) (sym plan_for_lem) (start_plan k c g l can_start)

        pub good_run : Doubles g.forward_rolls → Doubles g.reverse_rolls → Factors c.rto → GoodRun p g s
        good_run forward reverse factors =
            subst (λ (x : Plan). GoodRun x g s) (sym plan_for_lem) (subst (λ (x : RunState). GoodRun (plan_for k c g) g x) (sym made) (start_good k c g l can_start forward reverse factors))

        pub transfer_runs : {x : StepExit} {o : Outcome} → x ≡ run p g s → o ≡ outcome_of x → run_exit (Ok o) (lent_of x.state) ≡ run_transfer default_ceilings c g l
        unfolding run_transfer
        transfer_runs {x} {o} ran outcome =
            let same : run p g s ≡ run (plan_for default_ceilings c g) g (new_run default_ceilings c l) = rw (made, plan_for_lem, is) in
            ap (λ (y : Outcome). run_exit (Ok y) (lent_of x.state)) outcome ∙ ap ended (ran ∙ same)
            ∙ sym (on_accepted (λ (r : Refusal). run_exit (Err r) l) (ended (run (plan_for default_ceilings c g) g (new_run default_ceilings c l))) (sym e ∙ a))
