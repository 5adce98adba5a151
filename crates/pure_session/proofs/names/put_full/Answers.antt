use Rattle.std.proofs.Common.{ap, ◌∙◌, ◌≡◌, subst}
use Rattle.pure_graph.specs.SessionNames.{full_name}
use Rattle.pure_session.specs.NameSets.{Gains}
use Rattle.pure_session.proofs.SetLemmas.{gains-one}
use Rattle.pure_session.proofs.names.put_full.Goals as goal

pub returns : goal.returns
returns c =
    let text : c.as_slice.result.now ≡ full_name c.args.theory.now c.args.name.now = c.as_slice.ensures.value ∙ c.in_ok-text.ensures ∙ ap (λ f. full_name f c.args.name.now) c.bytes.ensures in
    gains-one c.args.texts.now c.append.new.self (full_name c.args.theory.now c.args.name.now) (subst (λ x. Gains c.args.texts.now c.append.new.self (λ t. t ≡ x)) text c.in_ok-append.ensures)
