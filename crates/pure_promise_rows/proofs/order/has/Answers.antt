use Rattle.std.proofs.Common.{subst, map}
use Rattle.pure_text.specs.Lists.{IsIn}
use Rattle.pure_text.proofs.ListLaws.{read_in, in-map}
use Rattle.pure_theory_tables.proofs.SameLaws.{label_same}
use Rattle.pure_promise_fates.specs.Entries.{Entry}
use Rattle.pure_promise.specs.Seen.{reported}
use Rattle.pure_promise_rows.proofs.order.has.Goals as goal

pub returns-then-eq : goal.returns-then-eq
returns-then-eq c = λ yes_found.
    let among = in-map reported c.lemma-item.result c.args.lemmas.now (read_in c.args.lemmas.now c.loop-lemma.lemma-index c.lemma-item.result c.loop-lemma-test.true c.lemma-item.is) in
    let same = label_same c.lemma-item.result.label c.args.label (rw (← c.eq.ensures) c.if-eq.true) in
    subst (λ l. IsIn l (map Entry.label (map reported c.args.lemmas.now))) same (in-map Entry.label (reported c.lemma-item.result) (map reported c.args.lemmas.now) among)
