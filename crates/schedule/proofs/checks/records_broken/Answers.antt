use mathlib.Core.Path.{sym, ◌∙◌}
use lib.ListN.{take}
use Rattle.schedule.specs.Record.{vacant}
use Rattle.schedule.proofs.Sound.{test_is}
use Rattle.schedule.proofs.Doubled.{any_record_broken_lem, alone_doubled, alone_outside}
use Rattle.schedule.proofs.checks.records_broken.Goals as goal

pub returns-then-any_record_broken : goal.returns-then-any_record_broken
returns-then-any_record_broken c = let a = c.args in
    c.if-any_record_broken.true ∙ sym (any_record_broken_lem a.next a.places vacant (take a.count a.s.now) (test_is c.any_record_broken.ensures c.if-any_record_broken.true))

pub place_doubled-requires : goal.place_doubled-requires
place_doubled-requires c = (c.requires, alone_outside c.args.next c.args.places vacant (take c.args.count c.args.s.now) (test_is c.any_record_broken.ensures c.if-any_record_broken.false))

pub returns-else-any_record_broken : goal.returns-else-any_record_broken
returns-else-any_record_broken c = let a = c.args in
    c.place_doubled.ensures ∙ sym (alone_doubled a.next a.places vacant (take a.count a.s.now) (test_is c.any_record_broken.ensures c.if-any_record_broken.false))
