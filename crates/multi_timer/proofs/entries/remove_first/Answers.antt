use Rattle.std.proofs.Common.{◌-◌, get_or, refl, ◌∙◌, length-set, rules}
use Rattle.multi_timer.proofs.Lists.{down_step, down_end, down_is}
use Rattle.multi_timer.proofs.entries.remove_first.Goals as goal

pub loop-i-init : goal.loop-i-init
loop-i-init c = (search rules, (search rules, (refl, (refl, (refl, refl)))))

pub loop-i-preserved : goal.loop-i-preserved
loop-i-preserved c = let s = c.loop-i in
    let a = c.args in
    let t = c.loop-i-test.true in (
      search rules,
      (
        search rules,
        (
          length-set s.keys (s.i - 1) (get_or s.keys s.i 0) ∙ s.invariant.1.1.0,
          (
            length-set s.deadlines (s.i - 1) (get_or s.deadlines s.i 0) ∙ s.invariant.1.1.1.0,
            (down_step a.n s.i s.keys s.invariant.0 t ∙ s.invariant.1.1.1.1.0, down_step a.n s.i s.deadlines s.invariant.0 t ∙ s.invariant.1.1.1.1.1),
          ),
        ),
      ),
    )

pub shape_of-keys : goal.shape_of-keys
shape_of-keys c = length-set c.loop-i.keys (c.args.n - 1) 0 ∙ c.loop-i.invariant.1.1.0

pub shape_of-deadlines : goal.shape_of-deadlines
shape_of-deadlines c = length-set c.loop-i.deadlines (c.args.n - 1) 0 ∙ c.loop-i.invariant.1.1.1.0

pub returns : goal.returns
returns c = let s = c.loop-i in
    let a = c.args in
    let p = c.requires in (
      down_end a.n s.i s.keys s.invariant.1.0 c.loop-i-test.false ∙ s.invariant.1.1.1.1.0 ∙ down_is a.n a.keys.now p.0 p.1,
      down_end a.n s.i s.deadlines s.invariant.1.0 c.loop-i-test.false ∙ s.invariant.1.1.1.1.1 ∙ down_is a.n a.deadlines.now p.0 p.2,
    )
