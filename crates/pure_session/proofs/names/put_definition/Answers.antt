use Rattle.std.proofs.Common.{ap, ◌∙◌, ◌≡◌, ◌++◌, ◌∷◌, [], subst}
use Rattle.std.specs.Prelude.{codes}
use Rattle.pure_text.specs.Lists.{IsIn}
use Rattle.pure_graph.specs.SessionNames.{full_name}
use Rattle.pure_session.specs.NameSets.{Gains}
use Rattle.pure_session.proofs.SetLemmas.{gains-two}
use Rattle.pure_session.proofs.names.put_definition.Goals as goal

pub returns : goal.returns
returns c =
    let fact : c.bytes-3.result.now ≡ c.args.name.now ++ codes "_def" = c.bytes-3.ensures ∙ c.in_ok-fact.ensures ∙ ap (λ n. n ++ codes "_def") c.bytes.ensures in
    gains-two c.args.texts.now c.put_full.new.texts c.put_full-2.new.texts (full_name c.args.theory.now c.args.name.now) (full_name c.args.theory.now (c.args.name.now ++ codes "_def"))
    (subst (λ n. Gains c.args.texts.now c.put_full.new.texts (λ t. IsIn t (full_name c.args.theory.now n ∷ []))) c.bytes-2.ensures c.in_ok-put_full.ensures)
    (subst (λ n. Gains c.put_full.new.texts c.put_full-2.new.texts (λ t. IsIn t (full_name c.args.theory.now n ∷ []))) fact c.in_ok-put_full-2.ensures)
