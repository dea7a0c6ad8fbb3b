-- `Sight::twenty` meets its contract: twenty looks, one after the other. Assumes nothing.
use Rattle.std.proofs.Common.{◌≡◌, ◌+◌, arith}
use Rattle.fiduccia_mattheyses_choice.proofs.Looks.{looks-none, looks_on}
use Rattle.fiduccia_mattheyses_choice.proofs.scan.Sight.twenty.Goals as goal

pub returns : goal.returns
returns c =
    let x = c.args in
    let s = x.self.now in
    let t0 = looks-none s x.held x.from in
    let zero : x.from + 0 ≡ x.from = omega arith in
    let t1 = looks_on s x.held _ _ x.from 0 t0 (rw zero c.look-held_1.ensures) in
    let t2 = looks_on s x.held _ _ x.from 1 t1 c.look-held_2.ensures in
    let t3 = looks_on s x.held _ _ x.from 2 t2 c.look-held_3.ensures in
    let t4 = looks_on s x.held _ _ x.from 3 t3 c.look-held_4.ensures in
    let t5 = looks_on s x.held _ _ x.from 4 t4 c.look-held_5.ensures in
    let t6 = looks_on s x.held _ _ x.from 5 t5 c.look-held_6.ensures in
    let t7 = looks_on s x.held _ _ x.from 6 t6 c.look-held_7.ensures in
    let t8 = looks_on s x.held _ _ x.from 7 t7 c.look-held_8.ensures in
    let t9 = looks_on s x.held _ _ x.from 8 t8 c.look-held_9.ensures in
    let t10 = looks_on s x.held _ _ x.from 9 t9 c.look-held_10.ensures in
    let t11 = looks_on s x.held _ _ x.from 10 t10 c.look-held_11.ensures in
    let t12 = looks_on s x.held _ _ x.from 11 t11 c.look-held_12.ensures in
    let t13 = looks_on s x.held _ _ x.from 12 t12 c.look-held_13.ensures in
    let t14 = looks_on s x.held _ _ x.from 13 t13 c.look-held_14.ensures in
    let t15 = looks_on s x.held _ _ x.from 14 t14 c.look-held_15.ensures in
    let t16 = looks_on s x.held _ _ x.from 15 t15 c.look-held_16.ensures in
    let t17 = looks_on s x.held _ _ x.from 16 t16 c.look-held_17.ensures in
    let t18 = looks_on s x.held _ _ x.from 17 t17 c.look-held_18.ensures in
    let t19 = looks_on s x.held _ _ x.from 18 t18 c.look-held_19.ensures in
    looks_on s x.held _ _ x.from 19 t19 c.look.ensures
