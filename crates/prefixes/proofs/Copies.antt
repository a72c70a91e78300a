-- Copies of a datagram of a chunk, whole or with one bit flipped anywhere: what reads as valid Data has the chunk's number and a prefix of the chunk.
use Rattle.std.specs.Prelude.{Err, Ok, Result}
use Prim.Native.Nat.{ℕ, ◌≤◌, ◌<◌}
use mathlib.Core.Path.{◌≡◌, refl, sym, ap, subst, ◌∙◌}
use mathlib.Core.Logic.{◌⊎◌, inl, inr, ⊎_elim}
use mathlib.Core.Bool.{Bool, true, false, cond}
use mathlib.Core.List.{List, []}
use native.Mathlib.Omega.{arith}
use native.Mathlib.Decide.{ℕ_discrete}
use lib.Ieee.{Float}
use lib.ListN.{length, get_or, take}
use lib.Seq.{length-take-le, take-length}
use Rattle.octets.specs.Flip.{flip}
use Rattle.protocol.specs.Machine.{Chunk, Segment}
use Rattle.packet.specs.Format.{made, matches, with_checksum}
use Rattle.packet.specs.Reading.{from_bytes, payload_of, declared, read_datagram}
use Rattle.packet.specs.declared.Packet.{Packet}
use Rattle.packet.specs.declared.PacketType.{PacketType}
use Rattle.packet.specs.declared.DatagramReading.{DatagramReading}
use Rattle.packet.specs.declared.DatagramReading.TheVariants as datagram
use Rattle.packet.proofs.Laws.{Prefix, made_flip_length, given_refused, given_packet}
use Rattle.receiver.specs.Reading.{by_type, reading_of, read_packet}
use Rattle.receiver.specs.declared.PacketReading.TheVariants as reading
use Rattle.refinement.specs.Copies.{DataOf, NotValid}
use Rattle.refinement.proofs.Laws.{data_number, data_payload, data_flipped}
use Rattle.channel.specs.Faults.{is_corrupted, byte_at, bit_at}
use Rattle.channel.proofs.Laws.{uncorrupted_is, corrupted_is, corrupted_some, byte_below, bit_below}
use Rattle.path.specs.Direction.{Direction}
use Rattle.path.specs.Path.{left_by_carry, carry, CanCarry}
use Rattle.path.proofs.Laws.{rolls_left, rolls_fine, rolls_doubles, next_rolls, copy_bytes, Fits, EachWaiting}
use Rattle.completion.proofs.Laws.{carry_each_fits}
use Rattle.prefixes.specs.Prefixes.{IsPrefix}
use Rattle.prefixes.proofs.Receiver.{Honest}
use Rattle.refusal.specs.declared.Refusal.{Refusal}

same_number : (m n : ℕ) → reading.Data m ≡ reading.Data n → m ≡ n
same_number m n e = cc

-- what isn't valid reads as no Data
no_data : {X : Type 0} (raw : List ℕ) (n : ℕ) → NotValid raw → read_packet raw ≡ reading.Data n → X
no_data {X} raw n none e = go (read_datagram raw) refl e
  where
    go : (x : Result DatagramReading Refusal) → read_datagram raw ≡ x → reading_of x ≡ reading.Data n → X
    go (Ok (datagram.Valid p)) f g = absurd (none p f)
    go (Ok (datagram.Corrupted p)) f g = let z : ◌≡◌ {A = ℕ} 0 1 = cc in absurd (omega arith)
    go (Err r) f g = let z : ◌≡◌ {A = ℕ} 0 1 = cc in absurd (omega arith)

-- whole and flipped copies
pub record AllHonest (P : ℕ → Chunk → Type 0) (wire : List ℕ) : Type 0 where
  pub whole : Honest P wire
  pub flipped : (j b : ℕ) → j < length wire → b < 8 → Honest P (flip wire j b)

-- a datagram of a segment, of which P holds whole and cut short
module _ (P : ℕ → Chunk → Type 0) (q : Segment) (raw : List ℕ) (d : DataOf q raw) (h : P q.number q.payload) (cuts : (m : ℕ) → m < length q.payload → P q.number (take m q.payload)) where
  -- bytes 6 and 7
  cut_honest : (j b : ℕ) → (j ≡ 6) ⊎ (j ≡ 7) → Honest P (flip (made d.packet q.payload) j b)
  cut_honest j b at = ⊎_elim (λ cut. record { reads = λ n e. refused n cut e }) (λ x. record { reads = λ n e. prefixed n x e }) (made_flip_length d.packet q.payload j b at)
    where
      copy : List ℕ
      copy = flip (made d.packet q.payload) j b

      sent : Packet
      sent = with_checksum d.packet q.payload

      refused : (n : ℕ) {r : _} → from_bytes copy ≡ Err r → read_packet copy ≡ reading.Data n → P n (payload_of copy)
      refused n {r} cut e = no_data copy n (λ p f. let g = given_refused copy r cut in let z : ◌≡◌ {A = ℕ} 0 1 = cc in omega arith) e

      prefixed : (n : ℕ) → Prefix copy sent q.payload → read_packet copy ≡ reading.Data n → P n (payload_of copy)
      prefixed n x e = go (matches sent (payload_of copy)) (sym (ap reading_of (given_packet copy sent x.packet short)) ∙ e)
        where
          short : length (payload_of copy) ≤ 1400
          short = let a = d.short in let p = x.proper in rw (x.prefix, length-take-le (declared copy) q.payload (omega arith)) (omega arith)

          go : (b : Bool) → reading_of (cond b (Ok (datagram.Valid sent)) (Ok (datagram.Corrupted sent))) ≡ reading.Data n → P n (payload_of copy)
          go false f = let z : ◌≡◌ {A = ℕ} 0 1 = cc in absurd (omega arith)
          go true f =
              let k : q.number ≡ n = sym d.number ∙ same_number d.packet.seq_num n (ap (λ (t : PacketType). by_type t d.packet.seq_num) (sym d.kind) ∙ f) in
              rw (x.prefix, ← k) (cuts (declared copy) x.proper)

  flip_honest : (j b : ℕ) → j < length raw → b < 8 → Honest P (flip raw j b)
  flip_honest j b inside low = elim (ℕ_discrete j 6) [
    | yes e ↦ rw d.is (cut_honest j b (inl e))
    | no e ↦ elim (ℕ_discrete j 7) [
      | yes f ↦ rw d.is (cut_honest j b (inr f))
      | no f ↦ record { reads = λ n g. no_data (flip raw j b) n (data_flipped q raw d (flip raw j b) (record { byte = j; bit = b; is = refl; bit_low = low; byte_in = inside; not_6 = e; not_7 = f })) g }
    ]
  ]

  pub data_honest : AllHonest P raw
  data_honest = record {
    whole = record { reads = λ n e. rw (data_payload q raw d, same_number n q.number (sym e ∙ data_number q raw d)) h };
    flipped = flip_honest;
  }

-- ---- on a line
module _ (d : Direction) (rolls : List Float) (entry_free : Bool) (now : ℕ) (wire : List ℕ) (can : CanCarry d rolls now wire) {P : ℕ → Chunk → Type 0} (h : AllHonest P wire) where
  copy_honest : Fits d rolls entry_free now wire → Honest P (copy_bytes d rolls wire)
  copy_honest f = go (is_corrupted d.path.channel.config (next_rolls d rolls) (length wire)) refl
    where
      go : (b : Bool) → is_corrupted d.path.channel.config (next_rolls d rolls) (length wire) ≡ b → Honest P (copy_bytes d rolls wire)
      go false e = subst (Honest P) (sym (uncorrupted_is d.path.channel.config (next_rolls d rolls) wire e)) h.whole
      go true e =
          let left = rolls_left d rolls entry_free now wire f.left in
          let doubles = rolls_doubles rolls d.path.used left can.good.doubles in
          let fine = rolls_fine rolls d.path.used left can.good.in_bounds in
          subst (Honest P) (sym (corrupted_is d.path.channel.config (next_rolls d rolls) wire e))
          (h.flipped (byte_at (next_rolls d rolls) (length wire)) (bit_at (next_rolls d rolls))
          (byte_below (next_rolls d rolls) doubles fine (length wire) (corrupted_some d.path.channel.config (next_rolls d rolls) (length wire) e) can.short) (bit_below (next_rolls d rolls) doubles fine))

  pub carry_honest : EachWaiting (Honest P) d → EachWaiting (Honest P) (left_by_carry (carry d rolls entry_free now wire))
  carry_honest a = carry_each_fits d rolls entry_free now wire can copy_honest a

-- ---- of a file's chunks: a prefix of the chunk of a number
pub record PrefixAt (chunks : List Chunk) (n : ℕ) (part : Chunk) : Type 0 where
  pub known : n < length chunks
  pub prefix : IsPrefix (get_or chunks n []) part

-- a datagram of chunk n of them
pub record ChunkData (chunks : List Chunk) (n : ℕ) (wire : List ℕ) : Type 0 where
  pub known : n < length chunks
  pub data_of : DataOf (record { number = n; payload = get_or chunks n [] }) wire

pub chunk_honest : (chunks : List Chunk) (n : ℕ) (wire : List ℕ) → ChunkData chunks n wire → AllHonest (PrefixAt chunks) wire
chunk_honest chunks n wire c =
    data_honest (PrefixAt chunks) (record { number = n; payload = get_or chunks n [] }) wire c.data_of (record { known = c.known; prefix = sym (take-length (get_or chunks n [])) })
    (λ m l. record { known = c.known; prefix = ap (λ (k : ℕ). take k (get_or chunks n [])) (sym (length-take-le m (get_or chunks n []) (omega arith))) })
