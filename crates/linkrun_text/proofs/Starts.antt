-- With what `linkrun` gives and lends, a run starts with every file that it runs.
use Prim.Native.Nat.{ℕ, zero, suc, ◌*◌, ◌≤◌}
use native.Mathlib.Omega.{arith}
use mathlib.Core.Path.{◌≡◌, refl, ap}
use mathlib.Core.Bool.{false}
use mathlib.Core.List.{List, [], ◌∷◌}
use lib.Ieee.{le, lt}
use lib.ListN.{length, replicate, length-replicate}
use Rattle.bounds.specs.Bounds.{slot_size}
use Rattle.rtt.specs.Rtt.{zero64}
use Rattle.rows.specs.Rows.{vacant}
use Rattle.channel.specs.Bounds.{config_broken}
use Rattle.rto.specs.Rto.{config_in_bounds}
use Rattle.path.specs.Rolls.{rolls_broken}
use Rattle.chunks.specs.Chunks.{chunks_of}
use Rattle.chunks.proofs.Laws.{count_empty, chunks_count}
use Rattle.setup.specs.Setup.{CanStart, clock_broken}
use Rattle.step.specs.State.{Given, given}
use Rattle.transfer.specs.Start.{plan_for, new_run, start_of}
use Rattle.transfer.specs.Run.{run}
use Rattle.transfer.specs.Transfer.{default_ceilings, outcome_of, RunExit, ended}
use Rattle.transfer.proofs.Laws.{accepted_is}
use Rattle.linkrun_text.specs.Linkrun.{max_file, linkrun_setup, linkrun_rolls, linkrun_lent, linkrun_run, Ran}

-- ---- rolls of 0 are in bounds
zero_rolls : (n : ℕ) → rolls_broken (replicate n zero64) ≡ false
unfolding rolls_broken le lt
zero_rolls zero = refl
zero_rolls (suc n) = zero_rolls n

-- ---- sizes
room : {A : Type 0} (n : ℕ) (a : A) {m : ℕ} → m ≤ n → m ≤ length (replicate n a)
room n a h = let e = length-replicate n a in omega (arith, e)

-- a byte a chunk, and one chunk of no bytes
few_chunks : (file : List ℕ) → length file ≤ max_file → length (chunks_of 1 file) ≤ max_file
few_chunks [] h = let e = count_empty 1 [] refl in omega (arith, e)
few_chunks (b ∷ file) h = let e = chunks_count 1 b file (omega arith) in omega (arith, e)

abbrev pub file_given : List ℕ → Given
file_given file = given file linkrun_rolls linkrun_rolls

pub linkrun_starts : (file : List ℕ) → length file ≤ max_file → CanStart (start_of linkrun_setup (file_given file) linkrun_lent)
unfolding linkrun_setup linkrun_rolls linkrun_lent config_broken config_in_bounds clock_broken le lt
linkrun_starts file h =
    record {
      timers_alike = refl;
      sender_room = room {A = ℕ} (4 * slot_size) 0 (omega arith);
      receiver_room = λ e. room {A = ℕ} (4 * slot_size) 0 (omega arith);
      forward_rolls = zero_rolls 2048;
      reverse_rolls = zero_rolls 2048;
      window_some = omega arith;
      window_small = omega arith;
      chunk_some = omega arith;
      chunk_small = omega arith;
      chunks_few = let n = few_chunks file h in omega (arith, n);
      channel_fine = refl;
      rto_fine = refl;
      time_short = omega arith;
      clock_fine = refl;
      output_room = room {A = ℕ} max_file 0 h;
      notes_room = room max_file vacant (few_chunks file h);
      timers_room = λ e. omega arith;
    }

-- ---- so none is refused
pub linkrun_ends : (file : List ℕ) → length file ≤ max_file → linkrun_run file ≡ ended (run (plan_for default_ceilings linkrun_setup (file_given file)) (file_given file) (new_run default_ceilings linkrun_setup linkrun_lent))
unfolding linkrun_run
linkrun_ends file h = accepted_is default_ceilings linkrun_setup (file_given file) linkrun_lent (linkrun_starts file h)

pub linkrun_ran : (file : List ℕ) → length file ≤ max_file → Ran file
linkrun_ran file h =
    record {
      outcome = outcome_of (run (plan_for default_ceilings linkrun_setup (file_given file)) (file_given file) (new_run default_ceilings linkrun_setup linkrun_lent));
      answered = ap (λ (x : RunExit). x.answer) (linkrun_ends file h);
    }
