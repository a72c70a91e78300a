-- Document 01, demand 3, of the receiving end of a run, on any rolls: a bit flipped in the length bytes can cut a
-- payload short that still matches its checksum, so what is delivered under a number is a prefix of the chunk of that
-- number.
use Rattle.std.specs.Prelude.{ℕ, ◌≤◌, ◌<◌, ◌≡◌, length, get_or, take}
use mathlib.Core.List.{List, [], flatten}
use Rattle.session.specs.Receiving.{ReceiverEnd, filled}
use Rattle.completion.specs.Delivered.{delivered_to, written, behind}

-- the first bytes of a chunk, or all of it
abbrev pub IsPrefix : List ℕ → List ℕ → Type 0
IsPrefix chunk part = part ≡ take (length part) chunk

-- Of a file's chunks: no more are delivered than there are; each delivered part is a prefix of the chunk of its number,
-- and joined they are all that was written to the output. With as many delivered as there are chunks, and as many bytes
-- written as the file has, what was written are all chunks joined: the file.
pub record PrefixesWritten (chunks : List (List ℕ)) (before : List ℕ) (r : ReceiverEnd) (output : List ℕ) : Type 0 where
  pub few : delivered_to r ≤ length chunks
  pub parts : List (List ℕ)
  pub count : length parts ≡ delivered_to r
  pub prefixes : (n : ℕ) → n < length parts → IsPrefix (get_or chunks n []) (get_or parts n [])
  pub joined : written r output ≡ flatten parts
  pub nothing_else : behind r output ≡ behind r before
  pub all_written : length chunks ≤ delivered_to r → filled r.receiver ≡ length (flatten chunks)
      → written r output ≡ flatten chunks
