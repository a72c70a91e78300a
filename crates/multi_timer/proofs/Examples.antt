-- One closed list of calls in slices of one entry, by computation: while key 7 is set key 9 finds no entry unused and key 7 restarts, and a pop with key 7 due is refused if the lent slice is empty and else writes key 7.
use Rattle.std.specs.Prelude.{Ok, Some}
use Rattle.std.proofs.Common.{◌≡◌, true, List, [], ◌∷◌, refl}
use Rattle.multi_timer.specs.Map.{keys_of, deadlines_of, lookup, keep, put, min_of, earliest}
use Rattle.multi_timer.specs.MultiTimer.{used, is_expired_at, pop_expired_at, earliest_deadline}
use Rattle.multi_timer.specs.History.{Call, start, pop, after_calls, is_refused, entries_after, deadline_of, turned_away, accepted}
use Rattle.multi_timer.proofs.History.{Popped, deadlines_are, expired_is, earliest_is, pop_is, history, refused_are}

abbrev calls : List Call
calls = pop 9 [] ∷ start 7 0 8 ∷ start 9 0 5 ∷ start 7 0 3 ∷ []

pub accepted_calls : accepted 1 (start 9 9 5 ∷ pop 9 (0 ∷ []) ∷ calls) ≡ start 9 9 5 ∷ pop 9 (0 ∷ []) ∷ start 7 0 8 ∷ start 7 0 3 ∷ []
unfolding accepted turned_away entries_after deadline_of keep put keys_of
accepted_calls = refl

pub start_refused : is_refused (after_calls 1 calls) (start 9 0 5) ≡ true
unfolding accepted turned_away entries_after deadline_of keep put keys_of
start_refused = refused_are 1 calls (start 9 0 5)

pub deadline_held : lookup 7 (used (after_calls 1 calls).answer (after_calls 1 calls).keys (after_calls 1 calls).deadlines) ≡ Some 8
unfolding accepted turned_away entries_after deadline_of keep put keys_of
deadline_held = deadlines_are 1 (accepted 1 calls) (after_calls 1 calls) (history 1 calls) 7

pub earliest_held : earliest_deadline (after_calls 1 calls).answer (after_calls 1 calls).keys (after_calls 1 calls).deadlines ≡ Ok (Some 8)
unfolding accepted turned_away entries_after deadline_of keep put keys_of deadlines_of earliest min_of
earliest_held = earliest_is 1 (accepted 1 calls) (after_calls 1 calls) (history 1 calls)

pub expired_at_deadline : is_expired_at (after_calls 1 calls).answer (after_calls 1 calls).keys (after_calls 1 calls).deadlines 7 8 ≡ Ok true
unfolding accepted turned_away entries_after deadline_of keep put keys_of
expired_at_deadline = expired_is 1 (accepted 1 calls) (after_calls 1 calls) (history 1 calls) 7 8 refl

pub key_popped : Popped (7 ∷ []) (0 ∷ 6 ∷ []) (pop_expired_at (after_calls 1 calls).answer (after_calls 1 calls).keys (after_calls 1 calls).deadlines 8 (0 ∷ 6 ∷ []))
unfolding accepted turned_away entries_after deadline_of keep put keys_of
key_popped = pop_is 1 (accepted 1 calls) (after_calls 1 calls) (history 1 calls) 8 (0 ∷ 6 ∷ []) refl
