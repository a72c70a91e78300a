use Rattle.path.specs.Path.{copy_fold}
use Rattle.path.proofs.copy_fold.Goals as goal

pub returns-in-Lost : goal.returns-in-Lost
unfolding copy_fold
returns-in-Lost c = rw c.in-Lost.is

pub returns-in-One : goal.returns-in-One
unfolding copy_fold
returns-in-One c = rw c.in-One.is c.fold_bytes.ensures

pub returns-in-Two : goal.returns-in-Two
unfolding copy_fold
returns-in-Two c = rw c.in-Two.is c.fold_bytes-in-Two.ensures
