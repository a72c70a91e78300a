-- Prefixes of the first chunks, joined: no longer than the chunks joined, and as long only if they are the chunks.
use Prim.Native.Nat.{ℕ, suc, ◌+◌, ◌≤◌, ◌<◌}
use mathlib.Core.Path.{◌≡◌, refl, ap, ◌∙◌}
use mathlib.Core.List.{List, [], ◌∷◌, ◌++◌, flatten}
use native.Mathlib.Omega.{arith}
use lib.ListN.{length, get_or, take, length-take, length-append}
use lib.Seq.{take-length}
use Rattle.protocol.specs.Machine.{Chunk}
use Rattle.prefixes.specs.Prefixes.{IsPrefix}

abbrev pub EachPrefix : List Chunk → List Chunk → Type 0
EachPrefix chunks parts = (n : ℕ) → n < length parts → IsPrefix (get_or chunks n []) (get_or parts n [])

pub prefix_short : (chunk part : Chunk) → IsPrefix chunk part → length part ≤ length chunk
prefix_short chunk part e = let n = ap length e ∙ length-take (length part) chunk in omega (arith, n)

later : (part chunk : Chunk) (parts chunks : List Chunk) → EachPrefix (chunk ∷ chunks) (part ∷ parts) → EachPrefix chunks parts
later part chunk parts chunks h n l = h (suc n) (omega arith)

pub joined_short : (parts chunks : List Chunk) → length parts ≤ length chunks → EachPrefix chunks parts → length (flatten parts) ≤ length (flatten chunks)
unfolding flatten
joined_short [] chunks k h = omega arith
joined_short (part ∷ parts) [] k h = absurd (omega arith)
joined_short (part ∷ parts) (chunk ∷ chunks) k h =
    let first = prefix_short chunk part (h 0 (omega arith)) in
    let rest = joined_short parts chunks (omega arith) (later part chunk parts chunks h) in
    omega (arith, first, rest, length-append part (flatten parts), length-append chunk (flatten chunks))

pub joined_same : (parts chunks : List Chunk) → length parts ≡ length chunks → EachPrefix chunks parts → length (flatten parts) ≡ length (flatten chunks) → flatten parts ≡ flatten chunks
unfolding flatten
joined_same [] [] k h e = refl
joined_same [] (chunk ∷ chunks) k h e = absurd (omega arith)
joined_same (part ∷ parts) [] k h e = absurd (omega arith)
joined_same (part ∷ parts) (chunk ∷ chunks) k h e =
    let first = prefix_short chunk part (h 0 (omega arith)) in
    let rest = joined_short parts chunks (omega arith) (later part chunk parts chunks h) in
    let a = length-append part (flatten parts) in
    let b = length-append chunk (flatten chunks) in
    let n : length part ≡ length chunk = omega (arith, first, rest, a, b, e) in
    let same : part ≡ chunk = h 0 (omega arith) ∙ ap (λ (k : ℕ). take k chunk) n ∙ take-length chunk in
    let others = joined_same parts chunks (omega arith) (later part chunk parts chunks h) (omega (arith, first, rest, a, b, e)) in
    ap (λ (c : List ℕ). c ++ flatten parts) same ∙ ap (λ (l : List ℕ). chunk ++ l) others
