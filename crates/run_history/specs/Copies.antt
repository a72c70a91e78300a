-- Document 01, `channel/mod.rs` and `channel/scheduler.rs`: which copies the lines hand over.
use Rattle.std.specs.Prelude.{ℕ, ◌+◌, ◌<◌, ◌≡◌, false, List, [], ◌∷◌, ◌++◌, eqb, Float, length, get_or, replicate}
use Rattle.schedule.specs.State.{copies}
use Rattle.channel.specs.Faults.{carried_bytes, deliveries_of}
use Rattle.channel.specs.declared.ChannelConfig.{ChannelConfig}
use Rattle.path.specs.Rolls.{packet_rolls, rolls_at}
use Rattle.run_history.specs.Calls.{Call, chunk, timeout, arrival, return}
use Rattle.run_history.specs.Lines.{any}

-- the copies that the packets of a line are granted, in order: of each as many as its rolls say, with the bytes that
-- arrive
unfoldable pub copies_from : ChannelConfig → List Float → ℕ → List (List ℕ) → List (List ℕ)
copies_from c rolls at [] = []
copies_from c rolls at (wire ∷ wires) =
    replicate (copies (deliveries_of c (rolls_at rolls at))) (carried_bytes c (rolls_at rolls at) wire)
    ++ copies_from c rolls (at + packet_rolls) wires

-- what a call is handed by the forward line, and by the reverse line
abbrev pub arrived_by : Call → List (List ℕ)
arrived_by (chunk payload carried) = []
arrived_by (timeout t carried) = []
arrived_by (arrival raw carried) = raw ∷ []
arrived_by (return raw age) = []

abbrev pub returned_by : Call → List (List ℕ)
returned_by (chunk payload carried) = []
returned_by (timeout t carried) = []
returned_by (arrival raw carried) = []
returned_by (return raw age) = raw ∷ []

-- each copy handed over in a list of calls is one of those granted by the calls before it, and none comes twice: its
-- place among them is no other's
pub data Came (granted : List Call → List (List ℕ)) (handed : Call → List (List ℕ))
    : List Call → List ℕ → Type 0 where
  none : Came granted handed [] []
  other : {cs : List Call} {places : List ℕ} (c : Call) → handed c ≡ [] → Came granted handed cs places
      → Came granted handed (cs ++ c ∷ []) places
  copy : {cs : List Call} {places : List ℕ} (c : Call) (place : ℕ) → place < length (granted cs)
      → handed c ≡ get_or (granted cs) place [] ∷ [] → any (eqb place) places ≡ false → Came granted handed cs places
      → Came granted handed (cs ++ c ∷ []) (places ++ place ∷ [])
