use mathlib.Core.Path.{sym}
use lib.ListN.{length}
use lib.Seq.{length-take-le}
use Rattle.schedule.proofs.Laws.{test_is}
use Rattle.channel.proofs.Carrying.{fits_out, copied_fits, copied_size, copied_short, lost_law, transit_law}
use Rattle.channel.proofs.Channel.process_unchecked.Goals as goal

pub counted-stats-requires : goal.counted-stats-requires
counted-stats-requires c = c.requires.counts

pub returns-then-is_lost : goal.returns-then-is_lost
returns-then-is_lost c = lost_law c.args.self c.args.packet.now c.args.rolls c.args.out.now (test_is c.is_lost.ensures c.if-is_lost.true) c.counted-stats.ensures

pub slice_bounds-copy_unchecked-end : goal.slice_bounds-copy_unchecked-end
slice_bounds-copy_unchecked-end c = fits_out c.args.self c.args.packet.now c.args.rolls c.args.out.now (test_is c.is_lost.ensures c.if-is_lost.false) c.requires

pub slice_bounds-copy_unchecked-end-2 : goal.slice_bounds-copy_unchecked-end-2
slice_bounds-copy_unchecked-end-2 c = sym (length-take-le (length c.args.packet.now) c.args.out.now (fits_out c.args.self c.args.packet.now c.args.rolls c.args.out.now (test_is c.is_lost.ensures c.if-is_lost.false) c.requires))

pub copy_unchecked-requires : goal.copy_unchecked-requires
copy_unchecked-requires c = sym (length-take-le (length c.args.packet.now) c.args.out.now (fits_out c.args.self c.args.packet.now c.args.rolls c.args.out.now (test_is c.is_lost.ensures c.if-is_lost.false) c.requires))

pub slice_bounds-corrupt-end : goal.slice_bounds-corrupt-end
slice_bounds-corrupt-end c = copied_fits c.args.packet.now c.args.out.now c.copy_unchecked.ensures

pub slice_bounds-corrupt-end-2 : goal.slice_bounds-corrupt-end-2
slice_bounds-corrupt-end-2 c = sym (copied_size c.args.packet.now c.args.out.now c.copy_unchecked.ensures)

pub corrupt-requires : goal.corrupt-requires
corrupt-requires c = (copied_short c.args.packet.now c.args.out.now c.copy_unchecked.ensures c.requires.short, c.requires.rolls)

pub deliveries_of-requires : goal.deliveries_of-requires
deliveries_of-requires c = (c.requires.config, c.requires.rolls)

pub returns : goal.returns
returns c = transit_law c.args.self c.args.packet.now c.args.rolls c.args.out.now (test_is c.is_lost.ensures c.if-is_lost.false) c.counted-stats.ensures c.copy_unchecked.ensures c.corrupt.ensures c.deliveries_of.ensures
