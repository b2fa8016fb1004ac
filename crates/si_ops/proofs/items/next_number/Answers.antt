use Rattle.std.proofs.Common.{◌≡◌, FitsSigned, of_z, pos, rules, subst, sym, to_z, to_z-of_z, w64}
use Rattle.si_ops.specs.Items.{GivesItem}
use Rattle.si_ops.specs.declared.items.Items.TheVariants as item
use Rattle.si_ops.proofs.items.next_number.Goals as goal

pub returns-then-step-eq1 : goal.returns-then-step-eq1
returns-then-step-eq1 c = λ m.
    let a = c.args.at in
    let b = c.args.stop in
    let one : c.args.step ≡ pos 1 = search rules in
    let at-fits : FitsSigned w64 a = search rules in
    let stop-fits : FitsSigned w64 b = search rules in
    subst (λ k. GivesItem m (item.Numbers a b k) c.next_by.result) (sym one)
    (subst (λ i. GivesItem m (item.Numbers i b (pos 1)) c.next_by.result) (to_z-of_z at-fits)
    (subst (λ j. GivesItem m (item.Numbers (to_z w64 (of_z w64 a)) j (pos 1)) c.next_by.result) (to_z-of_z stop-fits) (c.next_by.ensures m)))

pub returns : goal.returns
returns c = λ m.
    let a = c.args.at in
    let b = c.args.stop in
    let k = c.args.step in
    let at-fits : FitsSigned w64 a = search rules in
    let stop-fits : FitsSigned w64 b = search rules in
    let step-fits : FitsSigned w64 k = search rules in
    let made = c.next_by-2.result in
    subst (λ i. GivesItem m (item.Numbers i b k) made) (to_z-of_z at-fits)
    (subst (λ j. GivesItem m (item.Numbers (to_z w64 (of_z w64 a)) j k) made) (to_z-of_z stop-fits)
    (subst (λ l. GivesItem m (item.Numbers (to_z w64 (of_z w64 a)) (to_z w64 (of_z w64 b)) l) made) (to_z-of_z step-fits) (c.next_by-2.ensures m)))
