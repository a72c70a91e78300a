-- Document 01, "What the Rust forms turn into", of `MultiTimer`: the reference's `HashMap` of keys and deadlines, as
-- the list of its entries by ascending key.
use Rattle.std.specs.Prelude.{◌≡◌, ℕ, suc, ◌≤◌, min, Bool, true, false, cond, not, ◌&&◌, ◌||◌, List, [], ◌∷◌, ◌==◌}
use Rattle.std.specs.Prelude.{nat_le, nat_lt, Option, None, Some}

pub record Entry : Type 0 where
  pub key : ℕ
  pub deadline : ℕ

abbrev pub entry : ℕ → ℕ → Entry
entry k d = record { key = k; deadline = d }

unfoldable pub entries_of : List ℕ → List ℕ → List Entry
entries_of [] ds = []
entries_of (k ∷ ks) [] = []
entries_of (k ∷ ks) (d ∷ ds) = entry k d ∷ entries_of ks ds

unfoldable pub keys_of : List Entry → List ℕ
keys_of [] = []
keys_of (e ∷ es) = e.key ∷ keys_of es

unfoldable pub deadlines_of : List Entry → List ℕ
deadlines_of [] = []
deadlines_of (e ∷ es) = e.deadline ∷ deadlines_of es

-- strictly ascending, from a lowest value on
unfoldable pub ascending_from : ℕ → List ℕ → Bool
ascending_from low [] = true
ascending_from low (k ∷ ks) = nat_le low k && ascending_from (suc k) ks

abbrev pub ascending : List ℕ → Bool
ascending ks = ascending_from 0 ks

-- the deadline of a key
unfoldable pub lookup : ℕ → List Entry → Option ℕ
lookup k [] = None
lookup k (e ∷ es) = cond (e.key == k) (Some e.deadline) (lookup k es)

abbrev pub is_some : Option ℕ → Bool
is_some None = false
is_some (Some d) = true

-- the entries that pass a test
unfoldable pub keep : (Entry → Bool) → List Entry → List Entry
keep p [] = []
keep p (e ∷ es) = cond (p e) (e ∷ keep p es) (keep p es)

-- a key's deadline set or replaced
unfoldable pub put : ℕ → ℕ → List Entry → List Entry
put k d [] = entry k d ∷ []
put k d (e ∷ es) =
    cond (nat_lt e.key k) (e ∷ put k d es) (cond (e.key == k) (entry k d ∷ es) (entry k d ∷ e ∷ es))

abbrev pub other : ℕ → Entry → Bool
other k e = not (e.key == k)

abbrev pub remove : ℕ → List Entry → List Entry
remove k es = keep (other k) es

-- document 01, `timing/timer.rs`: at the deadline it is expired
abbrev pub due : ℕ → Entry → Bool
due now e = nat_le e.deadline now

-- the keys of the due entries, and of those whose key is not below `from`
abbrev pub due_keys : ℕ → List Entry → List ℕ
due_keys now es = keys_of (keep (due now) es)

abbrev pub due_not_below : ℕ → ℕ → Entry → Bool
due_not_below from now e = nat_le from e.key && due now e

abbrev pub due_keys_from : ℕ → ℕ → List Entry → List ℕ
due_keys_from from now es = keys_of (keep (due_not_below from now) es)

abbrev pub pending : ℕ → Entry → Bool
pending now e = nat_lt now e.deadline

abbrev pub due_at : ℕ → Option ℕ → Bool
due_at now None = false
due_at now (Some d) = nat_le d now

-- what a pop leaves of a deadline
abbrev pub still_set : ℕ → Option ℕ → Option ℕ
still_set now None = None
still_set now (Some d) = cond (nat_lt now d) (Some d) None

-- the min of d and ds
unfoldable pub min_of : ℕ → List ℕ → ℕ
min_of d [] = d
min_of d (x ∷ xs) = min d (min_of x xs)

unfoldable pub earliest : List ℕ → Option ℕ
earliest [] = None
earliest (d ∷ ds) = Some (min_of d ds)

-- ---- for the laws
unfoldable pub contains : ℕ → List ℕ → Bool
contains k [] = false
contains k (x ∷ xs) = x == k || contains k xs

-- the min of the deadlines that a map gives to keys, or none if it gives none
abbrev pub IsMin : (ℕ → Option ℕ) → Option ℕ → Type 0
IsMin map None = (key : ℕ) → map key ≡ None
IsMin map (Some d) = ((key : ℕ) × (map key ≡ Some d)) × ((key x : ℕ) → map key ≡ Some x → d ≤ x)
