use Rattle.schedule.proofs.Laws.{test_is}
use Rattle.refusal.specs.Order.{verdict, first_of, numbered, or_else, decide, order}
use Rattle.channel.specs.Process.{new_channel}
use Rattle.channel.proofs.Channel.new.Goals as goal

pub returns-then-config_broken : goal.returns-then-config_broken
unfolding new_channel verdict first_of numbered or_else decide order
returns-then-config_broken c = simp (test_is c.config_broken.ensures c.if-config_broken.true)

pub returns : goal.returns
unfolding new_channel verdict first_of numbered or_else decide order
returns c = simp (c.new_unchecked.ensures, test_is c.config_broken.ensures c.if-config_broken.false)
