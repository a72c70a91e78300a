-- The answer of `run_transfer` from the history of its calls.
use Rattle.std.specs.Prelude.{Ok}
use Prim.Native.Nat.{ℕ}
use mathlib.Core.Path.{◌≡◌, refl, sym, ap, subst}
use mathlib.Core.List.{[]}
use native.Mathlib.Omega.{arith}
use lib.ListN.{length, take, replicate}
use Rattle.octets.specs.Octets.{Octets}
use Rattle.session.specs.Sending.{slot_count}
use Rattle.completion.proofs.Laws.{Start, Begun, new_begun, new_sender_slots, new_receiver_slots}
use Rattle.chunks.specs.Chunks.{chunks_of}
use Rattle.sending.proofs.Laws.{unused}
use Rattle.prefixes.proofs.Laws.{prefixed_start}
use Rattle.rows.specs.Rows.{vacant}
use Rattle.channel.specs.History as channel
use Rattle.channel.specs.declared.Channel.{Channel}
use Rattle.notes.specs.Notes.{new_notes}
use Rattle.run_history.specs.Premature.{is_first_granted, premature_in}
use Rattle.run_history.specs.Samples.{estimated_in}
use Rattle.run_history.specs.Copies.{copies_from, none}
use Rattle.run_history.proofs.Holds.{holds_new}
use Rattle.run_history.proofs.Noted.{noted_as, noted_none, is_event_again}
use Rattle.rto.specs.History as rto
use Rattle.path.specs.Rolls.{Doubles}
use Rattle.path.specs.Path.{new_path}
use Rattle.events.specs.Events.{events_of}
use Rattle.events.proofs.Laws.{events_none}
use Rattle.clock.specs.Estimator.{Factors}
use Rattle.setup.specs.Setup.{CanStart}
use Rattle.setup.specs.declared.TransferConfig.{TransferConfig}
use Rattle.step.specs.State.{Given, Lent}
use Rattle.step.specs.Settle.{StepExit}
use Rattle.transfer.specs.Start.{plan_for, reverse_config, new_run, start_of}
use Rattle.transfer.specs.Run.{run}
use Rattle.transfer.specs.Transfer.{outcome_of, lent_of, run_transfer}
use Rattle.transfer.specs.declared.Ceilings.{Ceilings}
use Rattle.transfer.specs.declared.Outcome.{Outcome}
use Rattle.transfer.proofs.Laws.{reverse_no_faults, start_plan, start_good, sender_window, sender_store, by_outcome}
use Rattle.run_history.specs.Calls.{after_calls, collect, total}
use Rattle.run_history.specs.Lines.{filter, any, packets_from, events_from}
use Rattle.run_history.specs.History.{start_ends, History}
use Rattle.run_history.proofs.Tells.{Origin, NotedBy, Told, Over as Ended}
use Rattle.run_history.proofs.Steps.{moment_at, Goes_on, run_told}

module _ (k : Ceilings) (c : TransferConfig) (g : Given) (l : Lent) where
  abbrev origin : Origin
  origin = record { start = start_ends k c l; forward = c.channel; reverse = reverse_config c.channel; forward_rolls = g.forward_rolls; reverse_rolls = g.reverse_rolls; rto = c.rto; chunks = chunks_of c.chunk_size g.file }

  -- no calls
  start_told : Told origin (moment_at (new_run k c l))
  unfolding new_run new_path after_calls collect total filter packets_from events_from channel.filter rto.after_calls any premature_in estimated_in copies_from
  start_told =
      record {
        calls = [];
        tells = record {
          ends_are = refl;
          chunks_are = ap (λ (n : ℕ). take n (chunks_of c.chunk_size g.file)) (sym (unused c.protocol c.window_size k.retries l.sender_store).next);
          sending = record { again_are = refl; written_are = refl; line = record { used_is = refl; channel_is = refl; all_come = refl }; events_are = sym (events_none (replicate (length l.events) vacant)) };
          replying = record { acks_are = refl; line = record { used_is = refl; channel_is = refl; all_come = refl } };
          arrived = record { places = []; came = none; holds = holds_new c.channel l.forward_records l.forward_places };
          returned = record { places = []; came = none; holds = holds_new (reverse_config c.channel) l.reverse_records l.reverse_places };
          estimator_is = refl;
          taken = tt;
          datas_are = refl;
          repeats_are = refl;
          premature_are = refl;
          acks_are = refl;
          duplicates_are = refl;
        };
        not_refused = tt;
        whole = tt;
        noted =
            let none = events_none (replicate (length l.events) vacant) in
            subst (λ (n : ℕ). NotedBy (events_of 0 (replicate (length l.events) vacant)) [] [] n (new_notes l.rows)) (sym (unused c.protocol c.window_size k.retries l.sender_store).next)
            (noted_as (noted_none l.rows) (λ n. record { granted = ap (any (is_first_granted n)) none; acked = refl; sampled = refl; again = ap (any (is_event_again n)) none }));
      }

  abbrev last : StepExit
  last = run (plan_for k c g) g (new_run k c l)

  module _ (h : CanStart (start_of c g l)) (store : Octets l.sender_store) (file : Octets g.file) where
    abbrev begins : Start
    begins = record {
      protocol = c.protocol;
      window = slot_count c.protocol c.window_size;
      limit = k.retries;
      sending = l.sender_store;
      receiving = l.receiver_store;
      output = l.output;
      size = c.chunk_size;
      file = g.file;
    }

    begun : Begun begins
    begun =
        let n = h.chunk_some in
        new_begun c.protocol c.window_size k.retries l.sender_store l.receiver_store l.output c.chunk_size g.file (sender_window k c g l h) (sender_store k c g l h) h.receiver_room store (omega (arith, n)) file

    start_goes : Goes_on origin (plan_for k c g) g.file (start_plan k c g l h) c.protocol (slot_count c.protocol c.window_size) k.retries l.sender_store l.receiver_store l.output h.output_room refl (reverse_no_faults c.channel) (new_run k c l)
    unfolding new_run
    start_goes =
        record {
          told = start_told;
          prefixed = rw (← new_sender_slots c.protocol c.window_size k.retries l.sender_store, ← new_receiver_slots c.protocol c.window_size l.receiver_store) (prefixed_start begun c.channel l.forward_records l.forward_places);
          left = refl;
        }

    module _ (forward : Doubles g.forward_rolls) (reverse : Doubles g.reverse_rolls) (factors : Factors c.rto) where
      last_told : Ended origin (moment_at last.state)
      last_told =
          run_told origin (plan_for k c g) g.file (start_plan k c g l h) c.protocol (slot_count c.protocol c.window_size) k.retries l.sender_store l.receiver_store l.output h.output_room refl (reverse_no_faults c.channel) (new_run k c l)
          (start_good k c g l h forward reverse factors) start_goes

      last_history : History k c g l (outcome_of last) (lent_of last.state)
      last_history =
          let t = last_told.tells in
          record {
            calls = last_told.calls;
            tell = record {
              ends_are = t.ends_are;
              none_refused = last_told.not_refused;
              all_carried = last_told.whole;
              chunks_are = t.chunks_are;
              forward_is = ap (λ (x : Channel). x.stats) (sym t.sending.line.channel_is);
              reverse_is = ap (λ (x : Channel). x.stats) (sym t.replying.line.channel_is);
              arrivals = t.arrived.places;
              arrivals_are = t.arrived.came;
              returns = t.returned.places;
              returns_are = t.returned.came;
              arrivals_few = let e = t.sending.line.all_come in omega (arith, e);
              returns_few = let e = t.replying.line.all_come in omega (arith, e);
              estimator_is = t.estimator_is;
              estimates_taken = t.taken;
              counts_are = rw (t.sending.again_are, t.premature_are, t.datas_are, t.replying.acks_are, t.acks_are, t.repeats_are, t.duplicates_are, t.sending.written_are);
              events_are = t.sending.events_are;
            };
          }

  -- of every call that isn't refused. Octets, Doubles and Factors say what the lent bytes and doubles are by their types.
  pub transfer_history : Octets l.sender_store → Octets g.file → Doubles g.forward_rolls → Doubles g.reverse_rolls → Factors c.rto → (o : Outcome) → (run_transfer k c g l).answer ≡ Ok o → History k c g l o (run_transfer k c g l).lent
  transfer_history store file forward reverse factors = by_outcome k c g l (History k c g l) (λ h. last_history h store file forward reverse factors)
