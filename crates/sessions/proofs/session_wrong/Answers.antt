-- The sum that could wrap waits until its parts are small.
use mathlib.Core.Bool.{not}
use mathlib.Core.Path.{ap}
use native.Mathlib.Omega.{arith}
use Rattle.sessions.proofs.Sound.{pages-short, wrong_numbers, numbers-right, wrong-room, wrong-pages}
use Rattle.sessions.proofs.session_wrong.Goals as goal

pub returns-then-not-fitting : goal.returns-then-not-fitting
returns-then-not-fitting c =
    let a = c.args in
    wrong_numbers _ a.history.setting a.st.now c.end_of.ensures (ap not c.if-not-fitting.true)

pub overflow_mul-st : goal.overflow_mul-st
overflow_mul-st c =
    let w = numbers-right 0 c.args.history.setting c.args.st.now c.end_of.ensures (ap not c.if-not-fitting.false) in
    omega (arith, pages-short w.touched c.args.history.sound.paged.most)

pub overflow_add-st : goal.overflow_add-st
overflow_add-st c =
    let w = numbers-right 0 c.args.history.setting c.args.st.now c.end_of.ensures (ap not c.if-not-fitting.false) in
    omega (arith, pages-short w.touched c.args.history.sound.paged.most, w.end, c.args.history.sound.ends, c.args.history.sound.short)

pub returns-then-history-st : goal.returns-then-history-st
returns-then-history-st c =
    let a = c.args in
    wrong-room _ a.history.setting a.st.now c.end_of.ensures (ap not c.if-not-fitting.false) c.if-history-st.true

pub returns : goal.returns
returns c =
    let a = c.args in
    wrong-pages _ a.history.setting a.st.now c.end_of.ensures (ap not c.if-not-fitting.false) c.if-history-st.false c.pages_fit.ensures
