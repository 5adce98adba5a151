use Rattle.pure_citations.proofs.CitedCode.{session-at, shown-at}
use Rattle.pure_citations.proofs.cited.put_at.Goals as goal

pub put_shown-requires : goal.put_shown-requires
put_shown-requires c =
    rw c.deref-duty.ensures (session-at (λ d. d.value) c.args.duties.now c.args.place c.index-duties-place.result c.requires.duty c.index-duties-place.is c.args.names.now c.requires.session)

pub returns-then-holds : goal.returns-then-holds
returns-then-holds c = λ n.
    shown-at (λ d. d.value) c.args.duties.now c.args.place c.index-duties-place.result c.requires.duty c.index-duties-place.is c.args.names.now c.args.entries.now c.index-entries-place.result c.args.row.now c.args.cited.now.items c.put_shown.new.cited.items n
    c.requires.entry c.index-entries-place.is (c.holds.ensures.0 c.if-holds.true) (rw (← c.deref-duty.ensures) (c.in_ok-put_shown.ensures n))
