-- What a host gives and lends `run_transfer` so that its run ends by itself, in no other way.
use Rattle.std.specs.Prelude.{ℕ, ◌+◌, ◌*◌, ◌≤◌, ◌≡◌, length, Ok}
use Rattle.bounds.specs.Bounds.{place_size}
use Rattle.setup.specs.declared.TransferConfig.{TransferConfig}
use Rattle.step.specs.State.{Given, Lent}
use Rattle.step.specs.declared.End.TheVariants.{Ended}
use Rattle.transfer.specs.Transfer.{run_transfer}
use Rattle.transfer.specs.declared.Ceilings.{Ceilings}
use Rattle.transfer.specs.declared.Outcome.{Outcome}

-- each chunk is sent once, and `resends` packets are sent again at most
abbrev pub packets : ℕ → ℕ → ℕ
packets chunks resends = chunks + resends

-- for each packet an event, eight rolls, and records and places for two copies; for each copy an ACK, with eight rolls,
-- and a record and a place for its one copy
pub record Sizes (chunks resends : ℕ) (g : Given) (l : Lent) : Type 0 where
  pub events : packets chunks resends ≤ length l.events
  pub forward_rolls : 8 * packets chunks resends ≤ length g.forward_rolls
  pub forward_records : 2 * packets chunks resends ≤ length l.forward_records
  pub forward_places : 2 * packets chunks resends * place_size ≤ length l.forward_places
  pub reverse_rolls : 16 * packets chunks resends ≤ length g.reverse_rolls
  pub reverse_records : 2 * packets chunks resends ≤ length l.reverse_records
  pub reverse_places : 2 * packets chunks resends * place_size ≤ length l.reverse_places

-- no rolls are spent, no events and no schedule full: a run that isn't refused ends as `Ended`
abbrev pub EndsByItself : Ceilings → TransferConfig → Given → Lent → Type 0
EndsByItself k c g l = (o : Outcome) → (run_transfer k c g l).answer ≡ Ok o → o.end ≡ Ended
