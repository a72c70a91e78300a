use Rattle.std.specs.Prelude.{Err, Ok, Result}
use Rattle.std.specs.Result.{is_ok}
use Rattle.std.proofs.Common.{◌≡◌, ℕ, List, take, sym, ap, ◌∙◌}
use Rattle.multi_timer.specs.Internal.{search_in}
use Rattle.multi_timer.specs.Map.{entries_of, lookup, is_some}
use Rattle.multi_timer.proofs.Verdicts.{Good, good_of, in_order_lem}
use Rattle.multi_timer.proofs.Places.{at_lookup, absent_lookup}
use Rattle.multi_timer.proofs.checks.has_key.Goals as goal

found_is_set : (n : ℕ) (ks ds : List ℕ) → Good n ks ds → (key : ℕ) (p : Result ℕ ℕ) → p ≡ search_in key (take n ks) → is_ok p ≡ is_some (lookup key (entries_of (take n ks) (take n ds)))
found_is_set n ks ds g key (Ok p) e = sym (ap is_some (at_lookup n ks ds g key p e))
found_is_set n ks ds g key (Err p) e = sym (ap is_some (absent_lookup n ks ds g key p e))

pub search-requires : goal.search-requires
search-requires c = in_order_lem (good_of c.args.timers.count c.args.keys.now c.args.deadlines.now c.requires)

pub returns : goal.returns
returns c = c.is_ok.ensures.value ∙ found_is_set c.args.timers.count c.args.keys.now c.args.deadlines.now (good_of c.args.timers.count c.args.keys.now c.args.deadlines.now c.requires) c.args.key _ c.search.ensures
