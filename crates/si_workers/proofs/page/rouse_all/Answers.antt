use Rattle.std.proofs.Common.{◌<◌, ◌≤◌, ◌∙◌, arith, length}
use Rattle.si_workers.proofs.Rousing.{first_more, first_all}
use Rattle.si_workers.proofs.page.rouse_all.Goals as goal

pub loop-k-preserved : goal.loop-k-preserved
loop-k-preserved c =
    let old = c.args.pages.now.items in
    let t = c.loop-k-test.true in
    let n = c.requires in
    let lt : c.loop-k.k < length old = omega arith in
    first_more c.args.hub.now.past c.loop-k.k old c.loop-k.pages.items c.rouse_one.new.pages.items lt c.loop-k.invariant c.rouse_one.ensures.roused

pub returns : goal.returns
returns c =
    let old = c.args.pages.now.items in
    let t = c.loop-k-test.false in
    let n = c.requires in
    let le : length old ≤ c.loop-k.k = omega arith in
    c.loop-k.invariant ∙ first_all c.args.hub.now.past 0 c.loop-k.k old le
