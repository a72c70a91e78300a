-- What crates above may cite of the events.
use Prim.Native.Nat.{ℕ, ◌+◌, ◌≤◌, ◌<◌}
use mathlib.Core.Path.{◌≡◌, refl, sym, ap, ◌∙◌}
use mathlib.Core.Bool.{Bool}
use mathlib.Core.List.{List, [], ◌∷◌, ◌++◌, map, map-append}
use native.Mathlib.Numerals.{add-one}
use native.Mathlib.Omega.{arith}
use lib.ListN.{length, get_or, set, take}
use lib.Seq.{take-suc-set}
use Rattle.rows.proofs.Laws.{flag_back}
use Rattle.schedule.specs.declared.Deliveries.{Deliveries}
use Rattle.schedule.specs.declared.Deliveries.TheVariants.{Lost, One, Two}
use Rattle.events.specs.Events.{ForwardEvent, forward_event, row_of, of_copies, event_of, events_of, FitsRow}

copies_back : (xs : List ℕ) → length xs ≤ 2 → of_copies (length xs) (get_or xs 0 0) (get_or xs 1 0) ≡ xs
copies_back [] h = refl
copies_back (x ∷ []) h = refl
copies_back (x ∷ y ∷ []) h = refl
copies_back (x ∷ y ∷ z ∷ zs) h = absurd (omega arith)

-- a row gives its event back
pub event_back : (e : ForwardEvent) → FitsRow e → event_of (row_of e) ≡ e
unfolding row_of event_of
event_back e f =
    rw (flag_back e.retransmission, copies_back e.delays f.copies)
    (ap (λ (xs : List ℕ). record { seq = e.seq; retransmission = e.retransmission; delays = e.delays; folds = xs })
    (ap (λ (n : ℕ). of_copies n (get_or e.folds 0 0) (get_or e.folds 1 0)) (sym f.same) ∙ copies_back e.folds few))
  where
    few : length e.folds ≤ 2
    few = let a = f.copies in let b = f.same in omega arith

-- what a channel makes of a packet fits
pub forward_fits : (seq : ℕ) (retransmission : Bool) (ds : Deliveries) (fold : ℕ) → FitsRow (forward_event seq retransmission ds fold)
forward_fits seq retransmission Lost fold = record { copies = omega arith; same = refl }
forward_fits seq retransmission (One d) fold = record { copies = omega arith; same = refl }
forward_fits seq retransmission (Two d e) fold = record { copies = omega arith; same = refl }

pub events_none : (rows : List (List ℕ)) → events_of 0 rows ≡ []
unfolding events_of
events_none rows = refl

-- `forward_events.push`
pub events_push : (e : ForwardEvent) (written : ℕ) (rows : List (List ℕ)) → FitsRow e → written < length rows
    → events_of (written + 1) (set rows written (row_of e)) ≡ events_of written rows ++ e ∷ []
unfolding events_of
events_push e written rows f h =
    ap (λ (n : ℕ). map event_of (take n (set rows written (row_of e)))) (add-one written)
    ∙ ap (map event_of) (take-suc-set rows written (row_of e) h)
    ∙ map-append event_of (take written rows) (row_of e ∷ [])
    ∙ ap (λ (x : ForwardEvent). map event_of (take written rows) ++ x ∷ []) (event_back e f)
