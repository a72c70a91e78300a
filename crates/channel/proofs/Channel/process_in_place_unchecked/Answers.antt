use Rattle.channel.proofs.Carrying.{in_place_law}
use Rattle.channel.proofs.Channel.process_in_place_unchecked.Goals as goal

pub returns : goal.returns
returns c = in_place_law _ _ _ c.counted-stats.ensures c.corrupt.ensures c.deliveries_of.ensures
