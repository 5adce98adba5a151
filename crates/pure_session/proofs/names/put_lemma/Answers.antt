use Rattle.std.proofs.Common.{◌≡◌, ◌∙◌, ◌∷◌, List, ℕ, ap, map, subst}
use Rattle.pure_text.specs.Lists.{IsIn}
use Rattle.pure_script.specs.Seen.{seen_have}
use Rattle.pure_graph.specs.SessionNames.{full_name, have_names}
use Rattle.pure_session.specs.NameSets.{Gains}
use Rattle.pure_session.proofs.SetLemmas.{gains-then}
use Rattle.pure_session.proofs.names.put_lemma.Goals as goal

pub returns : goal.returns
returns c =
    let own : c.from-lemma.result ≡ full_name c.args.theory.now c.args.name.now =
    c.from-lemma.ensures ∙ c.in_ok-full.ensures ∙ ap (λ f. full_name f c.bytes-2.result.now) c.bytes.ensures ∙ ap (full_name c.args.theory.now) c.bytes-2.ensures in
    subst (λ (l : List ℕ). Gains c.args.texts.now c.put_haves.new.texts (λ t. IsIn t (l ∷ have_names l (map seen_have c.args.haves.now)))) own
    (gains-then c.args.texts.now c.append.new.self c.put_haves.new.texts (λ t. t ≡ c.from-lemma.result) (λ t. IsIn t (have_names c.from-lemma.result (map seen_have c.args.haves.now)))
    (subst (λ x. Gains c.args.texts.now c.append.new.self (λ t. t ≡ x)) c.bytes-3.ensures c.in_ok-append.ensures) c.in_ok-put_haves.ensures)
