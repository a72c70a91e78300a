-- The datagrams that the ends make, and lists of them that lie end to end.
use Prim.Native.Nat.{ℕ, zero, suc, ◌+◌, ◌-◌, ◌≤◌, ◌<◌}
use mathlib.Core.Path.{◌≡◌, refl, sym, ap, ◌∙◌}
use mathlib.Core.List.{List, [], ◌∷◌, ◌++◌, map, Memᴰ, append-nil, flatten}
use native.Mathlib.Omega.{arith}
use lib.ListN.{length, get_or, length-append, get_or-append}
use lib.Seq.{take-append_seam, drop-append_seam}
use Rattle.packet.specs.Format.{new_packet, datagram, header_bytes, with_checksum, made}
use Rattle.packet.proofs.Laws.{read_back, read_header}
use Rattle.packet.specs.Reading.{declared}
use Rattle.packet.specs.declared.Packet.{Packet}
use Rattle.packet.specs.declared.PacketType.TheVariants.{Ack}
use Rattle.protocol.specs.Runs.{up_from}
use Rattle.protocol.specs.Machine.{Segment, SenderState, segments_from}
use Rattle.refinement.specs.Copies.{DataOf, AckOf}
use Rattle.refinement.proofs.Laws.{data_payload}
use Rattle.delivery.specs.KuroseRoss.{segment_in}
use Rattle.delivery.specs.Calls.{cut, datagrams, number_of}

-- raw is a datagram of the segment q; the datagram that acknowledges n
abbrev pub DataBytes : List ℕ → Segment → Type 0
DataBytes raw q = DataOf q raw

abbrev pub AckBytes : List ℕ → ℕ → Type 0
AckBytes raw n = AckOf n raw

-- two lists, member by member
abbrev pub Each : {X Y : Type 0} → (X → Y → Type 0) → List X → List Y → Type 0
Each R [] [] = Unit {0}
Each R [] (y ∷ ys) = ⊥
Each R (x ∷ xs) [] = ⊥
Each R (x ∷ xs) (y ∷ ys) = R x y × Each R xs ys

pub each_append : {X Y : Type 0} (R : X → Y → Type 0) (xs : List X) (ys : List Y) (xs' : List X) (ys' : List Y) → Each R xs ys → Each R xs' ys' → Each R (xs ++ xs') (ys ++ ys')
each_append R [] [] xs' ys' h k = k
each_append R [] (y ∷ ys) xs' ys' h k = absurd h
each_append R (x ∷ xs) [] xs' ys' h k = absurd h
each_append R (x ∷ xs) (y ∷ ys) xs' ys' h k = (h.0, each_append R xs ys xs' ys' h.1 k)

pub each_length : {X Y : Type 0} (R : X → Y → Type 0) (xs : List X) (ys : List Y) → Each R xs ys → length xs ≡ length ys
each_length R [] [] h = refl
each_length R [] (y ∷ ys) h = absurd h
each_length R (x ∷ xs) [] h = absurd h
each_length R (x ∷ xs) (y ∷ ys) h = ap suc (each_length R xs ys h.1)

-- the i-th of the one belongs to one of the other
pub record Paired {X Y : Type 0} (R : X → Y → Type 0) (x : X) (ys : List Y) : Type 0 where
  pub other : Y
  pub belongs : R x other
  pub member : Memᴰ other ys

pub each_at : {X Y : Type 0} (R : X → Y → Type 0) (d : X) (xs : List X) (ys : List Y) (i : ℕ) → Each R xs ys → i < length xs → Paired R (get_or xs i d) ys
each_at R d [] ys i h k = absurd (omega arith)
each_at R d (x ∷ xs) [] i h k = absurd h
each_at R d (x ∷ xs) (y ∷ ys) zero h k = record { other = y; belongs = h.0; member = Memᴰ.head refl }
each_at R d (x ∷ xs) (y ∷ ys) (suc i) h k =
    let p = each_at R d xs ys i h.1 (omega arith) in
    record { other = p.other; belongs = p.belongs; member = Memᴰ.tail p.member }

-- a datagram ends where its header says
pub record Framed (raw : List ℕ) : Type 0 where
  pub head : 10 ≤ length raw
  pub ends : 10 + declared raw ≡ length raw

pub made_framed : (p : Packet) (payload : List ℕ) → Framed (made p payload)
unfolding datagram header_bytes
made_framed p payload = record { head = omega arith; ends = omega arith }

-- what begins with a datagram
declared_first : (raw rest : List ℕ) → Framed raw → 10 + declared (raw ++ rest) ≡ length raw
declared_first raw rest f =
    let h = f.head in
    rw (get_or-append raw rest 0 6 (omega arith), get_or-append raw rest 0 7 (omega arith)) f.ends

abbrev pub AllFramed : List (List ℕ) → Type 0
AllFramed [] = Unit {0}
AllFramed (raw ∷ raws) = Framed raw × AllFramed raws

cut_enough : (f : ℕ) (raws : List (List ℕ)) → AllFramed raws → length (flatten raws) ≤ f → cut f (flatten raws) ≡ raws
unfolding flatten
cut_enough zero [] h k = refl
cut_enough (suc f) [] h k = refl
cut_enough zero ([] ∷ raws) h k = let z = h.0.head in absurd (omega arith)
cut_enough (suc f) ([] ∷ raws) h k = let z = h.0.head in absurd (omega arith)
cut_enough zero ((x ∷ raw) ∷ raws) h k = absurd (omega arith)
cut_enough (suc f) ((x ∷ raw) ∷ raws) h k =
    let e = declared_first (x ∷ raw) (flatten raws) h.0 in
    let n = length-append raw (flatten raws) in
    rw (e, take-append_seam (x ∷ raw) (flatten raws), drop-append_seam (x ∷ raw) (flatten raws)) (ap (λ (l : List (List ℕ)). (x ∷ raw) ∷ l) (cut_enough f raws h.1 (omega arith)))

-- datagrams that lie end to end are found again
pub datagrams_flatten : (raws : List (List ℕ)) → AllFramed raws → datagrams (flatten raws) ≡ raws
unfolding datagrams
datagrams_flatten raws h = cut_enough (length (flatten raws)) raws h (omega arith)

pub data_framed : (raws : List (List ℕ)) (qs : List Segment) → Each DataBytes raws qs → AllFramed raws
data_framed [] qs h = tt
data_framed (raw ∷ raws) [] h = absurd h
data_framed (raw ∷ raws) (q ∷ qs) h = (rw h.0.is (made_framed h.0.packet q.payload), data_framed raws qs h.1)

pub acks_framed : (raws : List (List ℕ)) (ns : List ℕ) → Each AckBytes raws ns → AllFramed raws
acks_framed [] ns h = tt
acks_framed (raw ∷ raws) [] h = absurd h
acks_framed (raw ∷ raws) (n ∷ ns) h = (rw h.0.is (made_framed (new_packet n Ack) []), acks_framed raws ns h.1)

-- the number is read back
pub made_number : (p : Packet) (payload : List ℕ) → number_of (made p payload) ≡ p.seq_num
made_number p payload =
    let e = read_header (made p payload ++ []) (with_checksum p payload) (read_back (with_checksum p payload) payload []) in
    ap (λ (raw : List ℕ). number_of raw) (sym (append-nil (made p payload))) ∙ ap (λ (q : Packet). q.seq_num) e

pub data_number : (raw : List ℕ) (q : Segment) → DataBytes raw q → number_of raw ≡ q.number
data_number raw q h = rw h.is (made_number h.packet q.payload) ∙ h.number

pub data_segment : (raw : List ℕ) (q : Segment) → DataBytes raw q → segment_in raw ≡ q
data_segment raw q h = rw (data_number raw q h, data_payload q raw h) refl

pub ack_number : (raw : List ℕ) (n : ℕ) → AckBytes raw n → number_of raw ≡ n
ack_number raw n h = rw h.is (made_number (new_packet n Ack) [])

pub data_numbers : (raws : List (List ℕ)) (qs : List Segment) → Each DataBytes raws qs → map number_of raws ≡ map (λ q. q.number) qs
data_numbers [] [] h = refl
data_numbers [] (q ∷ qs) h = absurd h
data_numbers (raw ∷ raws) [] h = absurd h
data_numbers (raw ∷ raws) (q ∷ qs) h = rw (data_number raw q h.0, data_numbers raws qs h.1) refl

-- the numbers sent again
pub numbers_from : (s : SenderState) (n k : ℕ) → map (λ q. q.number) (segments_from s n k) ≡ up_from n k
unfolding segments_from
numbers_from s n zero = refl
numbers_from s n (suc k) = ap (λ (l : List ℕ). n ∷ l) (numbers_from s (suc n) k)

pub count_from : (s : SenderState) (n k : ℕ) → length (segments_from s n k) ≡ k
unfolding segments_from
count_from s n zero = refl
count_from s n (suc k) = ap suc (count_from s (suc n) k)
