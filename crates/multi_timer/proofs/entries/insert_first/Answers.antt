use Rattle.std.proofs.Common.{◌+◌, ◌-◌, get_or, refl, ◌∙◌, length-set, rules}
use Rattle.multi_timer.proofs.Lists.{up_step, up_end, up_is}
use Rattle.multi_timer.proofs.entries.insert_first.Goals as goal

pub loop-i-init : goal.loop-i-init
loop-i-init c = (search rules, (refl, (refl, (refl, refl))))

pub loop-i-preserved : goal.loop-i-preserved
loop-i-preserved c = let s = c.loop-i in
    let a = c.args in (
      search rules,
      (
        length-set s.keys (s.i - 1 + 1) (get_or s.keys (s.i - 1) 0) ∙ s.invariant.1.0,
        (
          length-set s.deadlines (s.i - 1 + 1) (get_or s.deadlines (s.i - 1) 0) ∙ s.invariant.1.1.0,
          (up_step a.key s.i s.keys c.loop-i-test.true ∙ s.invariant.1.1.1.0, up_step a.deadline s.i s.deadlines c.loop-i-test.true ∙ s.invariant.1.1.1.1),
        ),
      ),
    )

pub shape_of-keys : goal.shape_of-keys
shape_of-keys c = length-set c.loop-i.keys 0 c.args.key ∙ c.loop-i.invariant.1.0

pub shape_of-deadlines : goal.shape_of-deadlines
shape_of-deadlines c = length-set c.loop-i.deadlines 0 c.args.deadline ∙ c.loop-i.invariant.1.1.0

pub returns : goal.returns
returns c = let s = c.loop-i in
    let a = c.args in
    let p = c.requires in (
      up_end a.key s.i s.keys c.loop-i-test.false ∙ s.invariant.1.1.1.0 ∙ up_is a.key a.n a.keys.now p.0,
      up_end a.deadline s.i s.deadlines c.loop-i-test.false ∙ s.invariant.1.1.1.1 ∙ up_is a.deadline a.n a.deadlines.now p.1,
    )
