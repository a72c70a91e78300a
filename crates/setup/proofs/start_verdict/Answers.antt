use Rattle.schedule.proofs.Laws.{test_is}
use Rattle.setup.proofs.Checks.{chunk_some, state_first, roll_next, setup_next, full_last, none_true}
use Rattle.setup.proofs.start_verdict.Goals as goal

pub returns-then-state : goal.returns-then-state
returns-then-state c = (state_first _ _ _ _ (test_is c.state_broken-state.ensures c.if-state.true), c.any_rolls_broken-rolls.ensures.1, c.any_rolls_broken-rolls.ensures.2)

pub returns-then-rolls : goal.returns-then-rolls
returns-then-rolls c = (roll_next _ _ _ _ (test_is c.state_broken-state.ensures c.if-state.false) (test_is c.any_rolls_broken-rolls.ensures.0 c.if-rolls.true), c.any_rolls_broken-rolls.ensures.1, c.any_rolls_broken-rolls.ensures.2)

pub returns-then-setup_broken : goal.returns-then-setup_broken
returns-then-setup_broken c = (setup_next _ _ _ _ (test_is c.state_broken-state.ensures c.if-state.false) (test_is c.any_rolls_broken-rolls.ensures.0 c.if-rolls.false) (test_is c.setup_broken.ensures c.if-setup_broken.true), c.any_rolls_broken-rolls.ensures.1, c.any_rolls_broken-rolls.ensures.2)

pub room_missing-requires : goal.room_missing-requires
room_missing-requires c = chunk_some _ _ (test_is c.setup_broken.ensures c.if-setup_broken.false)

pub returns-then-room_missing : goal.returns-then-room_missing
returns-then-room_missing c = (full_last _ _ _ _ (test_is c.state_broken-state.ensures c.if-state.false) (test_is c.any_rolls_broken-rolls.ensures.0 c.if-rolls.false) (test_is c.setup_broken.ensures c.if-setup_broken.false) (test_is c.room_missing.ensures c.if-room_missing.true), c.any_rolls_broken-rolls.ensures.1, c.any_rolls_broken-rolls.ensures.2)

pub returns : goal.returns
returns c = (none_true _ _ _ _ (test_is c.state_broken-state.ensures c.if-state.false) (test_is c.any_rolls_broken-rolls.ensures.0 c.if-rolls.false) (test_is c.setup_broken.ensures c.if-setup_broken.false) (test_is c.room_missing.ensures c.if-room_missing.false), c.any_rolls_broken-rolls.ensures.1, c.any_rolls_broken-rolls.ensures.2)
