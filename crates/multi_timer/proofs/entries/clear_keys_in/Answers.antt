use Rattle.multi_timer.proofs.Places.{cleared_back}
use Rattle.multi_timer.proofs.entries.clear_keys_in.Goals as goal

pub returns : goal.returns
returns c = cleared_back c.args.from c.args.keys.now c.args.to _ c.requires.0 c.requires.1 (c.fill.ensures.after (λ y e. e))
