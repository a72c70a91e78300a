use mathlib.Core.Path.{refl, sym, ◌∙◌}
use Rattle.receiver.specs.Receive.{apply}
use Rattle.receiver.proofs.Receiving.{apply_done}
use Rattle.receiver.proofs.apply_unchecked.Goals as goal

pub returns-then-room_missing_unchecked : goal.returns-then-room_missing_unchecked
unfolding apply
returns-then-room_missing_unchecked c = rw (sym c.room_missing_unchecked.ensures ∙ c.if-room_missing_unchecked.true)

pub apply_in_room_unchecked-end-requires : goal.apply_in_room_unchecked-end-requires
apply_in_room_unchecked-end-requires c = record { mark = c.requires; room = sym c.room_missing_unchecked.ensures ∙ c.if-room_missing_unchecked.false }

pub returns : goal.returns
returns c = apply_done _ _ _ _ _ _ _ _ _ (sym c.room_missing_unchecked.ensures ∙ c.if-room_missing_unchecked.false) refl c.apply_in_room_unchecked-end.ensures
