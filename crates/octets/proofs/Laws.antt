-- Laws for crates above to cite: what octets are, one bit turned over, parts of a slice written over.
use Rattle.std.proofs.Common.{◌≡◌, ℕ, ◌+◌, ◌-◌, ◌≤◌, List, ◌++◌, length, take, drop, sym, ap, ◌∙◌, append_assoc, append-nil, arith, drop_of_length-le, drop-drop, take_at}
use native.Mathlib.Nat.{add-sub_cancel_left}
use lib.Seq.{drop-append-add}
pub use Rattle.octets.proofs.Bounded.{below_nil, below_cons, below_head, below_tail, below_append, below_take, below_drop, below_set}
pub use Rattle.octets.proofs.Flip.{xor_moves, power_le, xor_octet, flip_octets}
pub use Rattle.octets.proofs.Parts.{tail_is, tail_back}

-- after the n bytes from a on were lent and came back as new
pub part_written : (buffer part new : List ℕ) (a n : ℕ) → part ≡ new
    → take a buffer ++ (part ++ drop (a + n - a) (drop a buffer)) ≡ take a buffer ++ new ++ drop (a + n) buffer
part_written buffer part new a n e = rw (e, add-sub_cancel_left a n, drop-drop n a buffer, ← append_assoc)

-- after a header was written to the front, and a payload behind it
pub front_written : (header payload part buffer mid : List ℕ) (n : ℕ) → length header ≡ n → mid ≡ header ++ drop n buffer → part ≡ payload
    → take n mid ++ (part ++ drop (n + length payload - n) (drop n mid)) ≡ header ++ payload ++ drop (n + length payload) buffer
front_written header payload part buffer mid n e m f =
    let a : take n mid ≡ header = ap (take n) m ∙ take_at header (drop n buffer) n e in
    let b : drop (n + length payload) mid ≡ drop (n + length payload) buffer =
    ap (drop (n + length payload)) m ∙ ap (λ (k : ℕ). drop (k + length payload) (header ++ drop n buffer)) (sym e)
    ∙ drop-append-add header (drop n buffer) (length payload) ∙ drop-drop (length payload) n buffer in
    part_written mid part payload n (length payload) f ∙ rw (a, b)

-- after the bytes from a to the end were lent and came back as new
pub tail_written : (buffer part new : List ℕ) (a : ℕ) → a ≤ length buffer → part ≡ new
    → take a buffer ++ (part ++ drop (length buffer - a) (drop a buffer)) ≡ take a buffer ++ new
tail_written buffer part new a h e =
    rw (e, drop-drop (length buffer - a) a buffer, drop_of_length-le buffer {i = a + (length buffer - a)} (omega arith), append-nil)
