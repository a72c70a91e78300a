-- What only contracts below the entry points cite. Where a key stands among ascending keys, or where it would stand.
use Rattle.std.specs.Prelude.{◌≡◌, ℕ, suc, ◌+◌, ◌-◌, cond, List, [], ◌∷◌, ◌++◌, length, take, drop, replicate, ◌==◌}
use Rattle.std.specs.Prelude.{nat_le, nat_lt, Err, Ok, Option, Result}
use Rattle.multi_timer.specs.Map.{Entry, entries_of, keys_of, deadlines_of, keep, due, due_keys, pending}
use Rattle.multi_timer.specs.MultiTimer.{next_key}

abbrev pub later : ℕ → Result ℕ ℕ → Result ℕ ℕ
later i (Ok p) = Ok (i + p)
later i (Err p) = Err (i + p)

unfoldable pub search_in : ℕ → List ℕ → Result ℕ ℕ
search_in k [] = Err 0
search_in k (x ∷ xs) = cond (nat_lt x k) (later 1 (search_in k xs)) (cond (x == k) (Ok 0) (Err 0))

abbrev pub index_of : Result ℕ ℕ → ℕ
index_of (Ok p) = p
index_of (Err p) = p

-- of the first n entries, the first due key from i on
abbrev pub next_due : ℕ → ℕ → ℕ → List ℕ → List ℕ → Option ℕ
next_due n i now ks ds = next_key (due_keys now (entries_of (drop i (take n ks)) (drop i (take n ds))))

-- how many deadlines are due
unfoldable pub due_in : ℕ → List ℕ → ℕ
due_in now [] = 0
due_in now (d ∷ ds) = cond (nat_le d now) (suc (due_in now ds)) (due_in now ds)

-- the used entries parted into those left and those due, each at the front of its slice
abbrev pub due_of : ℕ → ℕ → List ℕ → List ℕ → List Entry
due_of n now ks ds = keep (due now) (entries_of (take n ks) (take n ds))

abbrev pub pending_of : ℕ → ℕ → List ℕ → List ℕ → List Entry
pending_of n now ks ds = keep (pending now) (entries_of (take n ks) (take n ds))

pub record Partitioned (n now : ℕ) (ks ds out : List ℕ) (left : ℕ) (ks' ds' out' : List ℕ) : Type 0 where
  pub count : left ≡ length (pending_of n now ks ds)
  pub keys : ks' ≡ keys_of (pending_of n now ks ds) ++ drop left ks
  pub deadlines : ds' ≡ deadlines_of (pending_of n now ks ds) ++ drop left ds
  pub taken : out' ≡ keys_of (due_of n now ks ds) ++ drop (length (due_of n now ks ds)) out

-- the first n move up by one, and v comes first; those from i on do
abbrev pub inserted_first : ℕ → ℕ → List ℕ → List ℕ
inserted_first n v xs = v ∷ (take n xs ++ drop (suc n) xs)

abbrev pub inserted_at : ℕ → ℕ → ℕ → List ℕ → List ℕ
inserted_at i n v xs = take i xs ++ inserted_first (n - i) v (drop i xs)

-- of the first n, the first gives way to those after it, and a 0 comes last; the one at i does
abbrev pub removed_first : ℕ → List ℕ → List ℕ
removed_first n xs = drop 1 (take n xs) ++ (0 ∷ drop n xs)

abbrev pub removed_at : ℕ → ℕ → List ℕ → List ℕ
removed_at i n xs = take i xs ++ removed_first (n - i) (drop i xs)

abbrev pub cleared_in : ℕ → ℕ → List ℕ → List ℕ
cleared_in i n xs = take i xs ++ (replicate (n - i) 0 ++ drop n xs)
