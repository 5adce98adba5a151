use Rattle.std.proofs.Common.{subst, map}
use Rattle.pure_text.specs.Lists.{IsIn}
use Rattle.pure_text.proofs.ListLaws.{read_in, in-map}
use Rattle.pure_promise_fates.specs.Entries.{Entry}
use Rattle.pure_promise_fates_rows.specs.Given.{seen_lemma}
use Rattle.pure_promise_fates_rows.proofs.OrderLemmas.{label_told}
use Rattle.pure_promise_fates_rows.proofs.order.has.Goals as goal

pub returns-then-eq : goal.returns-then-eq
returns-then-eq c = λ yes_found.
    let among = in-map seen_lemma c.lemma-item.result c.args.lemmas.now (read_in c.args.lemmas.now c.loop-lemma.lemma-index c.lemma-item.result c.loop-lemma-test.true c.lemma-item.is) in
    let same = label_told c.lemma-item.result.label c.args.label (rw (← c.eq.ensures) c.if-eq.true) in
    subst (λ l. IsIn l (map Entry.label (map seen_lemma c.args.lemmas.now))) same (in-map Entry.label (seen_lemma c.lemma-item.result) (map seen_lemma c.args.lemmas.now) among)
