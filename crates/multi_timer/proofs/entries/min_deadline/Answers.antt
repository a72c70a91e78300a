use Rattle.std.specs.Prelude.{Some}
use Rattle.std.proofs.Common.{◌≡◌, ℕ, take, drop, min, get_or, sym, ap, ◌∙◌, rules}
use Rattle.std.specs.List.{fold}
use Rattle.std.proofs.iter.runs.Made.{chains}
use Rattle.multi_timer.proofs.Changes.{min_folded, min_start}
use Rattle.multi_timer.proofs.entries.min_deadline.Goals as goal

pub returns : goal.returns
returns c = let ds = c.args.deadlines.now in
    let e : c.fold.result ≡ fold (λ (a d : ℕ). min a d) (get_or ds 0 0) (drop 1 (take c.args.count ds)) = search (rules, chains) in
    ap Some (e ∙ sym (min_folded _ _)) ∙ sym (min_start c.args.count ds c.requires.0 c.requires.1)
