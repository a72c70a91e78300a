use Rattle.path.specs.Direction.{direction}
use Rattle.path.proofs.Calls.{remove_law}
use Rattle.path.proofs.Path.remove_first_unchecked.Goals as goal

pub returns : goal.returns
returns c = let a = c.args in
    remove_law (direction a.records.now a.places.now a.self) c.remove_first_unchecked-next.ensures
