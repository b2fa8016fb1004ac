use Rattle.std.proofs.Common.{◌++◌, ap, ◌∙◌}
use Rattle.si_arena.specs.Texts.{with_row, row_of}
use Rattle.si_arena.proofs.Rows.{stands_more, stands_added, text-grows, grows_row}
use Rattle.si_arena.proofs.texts.Texts.join_in.Goals as goal

pub returns-clause-ok : goal.returns-clause-ok
returns-clause-ok c =
    let s = c.in_ok-start.ensures.ok in
    let old = c.args.self.now in
    let same = text-grows old c.put_last.new.self c.args.right (grows_row c.args.width old c.put_last.new.self s.row.0 s.row.1) c.requires.right.0 in
    let e = c.in_default.ensures.ok ∙ ap (λ xs. with_row c.args.width (row_of c.args.width c.put_last.new.self ++ xs) c.put_last.new.self) same in
    rw c.slice.ensures.is (stands_added _ _ _ _ _ _ (stands_more _ _ _ _ _ _ _ s e) c.requires.count)
