-- `run_transfer` with these sizes ends as the source does.
use Prim.Native.Nat.{ℕ, ◌+◌, ◌-◌, ◌*◌, ◌/◌, ◌≤◌}
use native.Mathlib.Omega.{arith}
use mathlib.Core.Path.{◌≡◌, refl, ap, ◌∙◌}
use mathlib.Core.List.{List}
use lib.ListN.{length, drop, replicate, length-append, length-replicate, length-drop}
use Rattle.bounds.specs.Bounds.{place_size}
use Rattle.rows.specs.Rows.{vacant}
use Rattle.schedule.specs.Record as scheduled
use Rattle.channel.specs.declared.ChannelConfig.{ChannelConfig}
use Rattle.path.specs.Rolls.{packet_rolls, Doubles}
use Rattle.path.specs.Path.{new_path}
use Rattle.chunks.specs.Chunks.{chunks_of}
use Rattle.clock.specs.Estimator.{Factors}
use Rattle.sending.proofs.Laws.{unused}
use Rattle.setup.specs.declared.TransferConfig.{TransferConfig}
use Rattle.step.specs.State.{Given, Lent}
use Rattle.step.specs.declared.End.TheVariants.{Ended}
use Rattle.transfer.specs.Start.{plan_for, reverse_config, new_run}
use Rattle.transfer.specs.declared.Ceilings.{Ceilings}
use Rattle.transfer.proofs.Laws.{reverse_no_faults, start_plan, start_good, by_outcome}
use Rattle.sizes.specs.Sizes.{Sizes, EndsByItself}
use Rattle.sizes.proofs.Steps.{Sized, run_ended}

-- ---- at the start
whole : (n : ℕ) → n / place_size * place_size + (n - n / place_size * place_size) ≡ n
whole n = omega arith

new_places : (c : ChannelConfig) (rs : List (List ℕ)) (ps : List ℕ) → length (new_path c rs ps).places ≡ length ps
unfolding new_path
new_places c rs ps =
    let e = length ps / place_size * place_size in
    length-append (replicate e 0) (drop e ps) ∙ ap (λ (n : ℕ). n + length (drop e ps)) (length-replicate {A = ℕ} e 0) ∙ ap (λ (n : ℕ). e + n) (length-drop e ps) ∙ whole (length ps)

new_records : (c : ChannelConfig) (rs : List (List ℕ)) (ps : List ℕ) → length (new_path c rs ps).records ≡ length rs
unfolding new_path
new_records c rs ps = length-replicate (length rs) scheduled.vacant

-- in numbers
packets_rolls : (n m : ℕ) → 8 * n ≤ m → n * packet_rolls ≤ m
packets_rolls n m h = omega arith

acks_rolls : (n m : ℕ) → 16 * n ≤ m → 2 * n * packet_rolls ≤ m
acks_rolls n m h = omega arith

none_sent : (n : ℕ) → n ≡ 0 → 0 ≡ n + 0
none_sent n e = omega arith

none_above : (n m : ℕ) → n ≡ 0 → n ≤ m
none_above n m e = omega arith

module _ (k : Ceilings) (c : TransferConfig) (g : Given) (l : Lent) (sizes : Sizes (length (chunks_of c.chunk_size g.file)) c.max_retransmissions g l) where
  start_sized : Sized (plan_for k c g) g (new_run k c l)
  unfolding new_run new_path
  start_sized =
      let n = length (chunks_of c.chunk_size g.file) + c.max_retransmissions in
      let first = (unused c.protocol c.window_size k.retries l.sender_store).next in
      record {
        sent = record {
          room = record {
            events = rw (length-replicate (length l.events) vacant) sizes.events;
            enough = packets_rolls n (length g.forward_rolls) sizes.forward_rolls;
            records = rw (new_records c.channel l.forward_records l.forward_places) sizes.forward_records;
            places = rw (new_places c.channel l.forward_records l.forward_places) sizes.forward_places;
            used = refl;
            waiting = omega arith;
          };
          written = none_sent _ first;
          first = none_above _ _ first;
          again = omega arith;
        };
        replies = record {
          enough = acks_rolls n (length g.reverse_rolls) sizes.reverse_rolls;
          records = rw (new_records (reverse_config c.channel) l.reverse_records l.reverse_places) sizes.reverse_records;
          places = rw (new_places (reverse_config c.channel) l.reverse_records l.reverse_places) sizes.reverse_places;
          none = reverse_no_faults c.channel;
          used = refl;
          waiting = omega arith;
        };
      }

-- ---- of every call that isn't refused. Doubles and Factors say what the doubles given are by their types.
module _ (k : Ceilings) (c : TransferConfig) (g : Given) (l : Lent) where
  pub sizes_ended : Doubles g.forward_rolls → Doubles g.reverse_rolls → Factors c.rto → Sizes (length (chunks_of c.chunk_size g.file)) c.max_retransmissions g l → EndsByItself k c g l
  sizes_ended forward reverse factors sizes =
      by_outcome k c g l (λ o m. o.end ≡ Ended)
      (λ h. run_ended (plan_for k c g) g (start_plan k c g l h) (new_run k c l) (start_good k c g l h forward reverse factors) (start_sized k c g l sizes))
