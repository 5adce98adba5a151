use Rattle.std.proofs.Common.{◌∷◌, [], OnOk, sym, subst}
use Rattle.pure_text.specs.Lists.{IsIn}
use Rattle.pure_script.specs.Seen.{seen_command}
use Rattle.pure_graph.specs.SessionNames.{full_name, full_names}
use Rattle.pure_session.specs.NameSets.{Gains}
use Rattle.pure_session.proofs.names.put_command.Goals as goal

pub returns-in-Class : goal.returns-in-Class
returns-in-Class c =
    subst (λ x. OnOk c.put_full.result (Gains c.args.texts.now c.put_full.new.texts (λ t. IsIn t (full_names c.args.theory.now (seen_command x))))) (sym c.in-Class.is)
    (subst (λ n. OnOk c.put_full.result (Gains c.args.texts.now c.put_full.new.texts (λ t. IsIn t (full_name c.args.theory.now n ∷ [])))) c.bytes.ensures c.put_full.ensures)

pub returns-in-TypeDecl : goal.returns-in-TypeDecl
returns-in-TypeDecl c =
    subst (λ x. OnOk c.put_full-in-TypeDecl.result (Gains c.args.texts.now c.put_full-in-TypeDecl.new.texts (λ t. IsIn t (full_names c.args.theory.now (seen_command x))))) (sym c.in-TypeDecl.is)
    (subst (λ n. OnOk c.put_full-in-TypeDecl.result (Gains c.args.texts.now c.put_full-in-TypeDecl.new.texts (λ t. IsIn t (full_name c.args.theory.now n ∷ [])))) c.bytes-in-TypeDecl.ensures c.put_full-in-TypeDecl.ensures)

pub returns-in-Const : goal.returns-in-Const
returns-in-Const c =
    subst (λ x. OnOk c.put_full-in-Const.result (Gains c.args.texts.now c.put_full-in-Const.new.texts (λ t. IsIn t (full_names c.args.theory.now (seen_command x))))) (sym c.in-Const.is)
    (subst (λ n. OnOk c.put_full-in-Const.result (Gains c.args.texts.now c.put_full-in-Const.new.texts (λ t. IsIn t (full_name c.args.theory.now n ∷ [])))) c.bytes-in-Const.ensures c.put_full-in-Const.ensures)

pub returns-in-Axiom : goal.returns-in-Axiom
returns-in-Axiom c =
    subst (λ x. OnOk c.put_full-in-Axiom.result (Gains c.args.texts.now c.put_full-in-Axiom.new.texts (λ t. IsIn t (full_names c.args.theory.now (seen_command x))))) (sym c.in-Axiom.is)
    (subst (λ n. OnOk c.put_full-in-Axiom.result (Gains c.args.texts.now c.put_full-in-Axiom.new.texts (λ t. IsIn t (full_name c.args.theory.now n ∷ [])))) c.bytes-in-Axiom.ensures c.put_full-in-Axiom.ensures)

pub returns-in-Lemma : goal.returns-in-Lemma
returns-in-Lemma c =
    subst (λ x. OnOk c.put_lemma.result (Gains c.args.texts.now c.put_lemma.new.texts (λ t. IsIn t (full_names c.args.theory.now (seen_command x))))) (sym c.in-Lemma.is) (rw c.as_slice.ensures.value at c.put_lemma.ensures)

pub returns-in-Definition : goal.returns-in-Definition
returns-in-Definition c =
    subst (λ x. OnOk c.put_definition.result (Gains c.args.texts.now c.put_definition.new.texts (λ t. IsIn t (full_names c.args.theory.now (seen_command x))))) (sym c.in-Definition.is) c.put_definition.ensures
