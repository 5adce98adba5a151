use Rattle.std.proofs.Common.{refl, subst}
use Rattle.pure_text.specs.Lists.{IsIn}
use Rattle.pure_definitions.specs.Declarations.Decl.{AxiomDecl}
use Rattle.pure_logic.specs.Laws.Maps.{instantiated}
use Rattle.pure_replay.specs.Conclusion.{alone}
use Rattle.pure_replay.specs.Step.{plain_content}
use Rattle.pure_replay.specs.Figures.{GivesAxiom}
use Rattle.pure_replay.proofs.NodeLaws.{no_axiom}
use Rattle.pure_replay.proofs.StepLaws.{step-made}
use Rattle.pure_replay.proofs.instance.axiom.Goals as goal

pub returns-in_default : goal.returns-in_default
returns-in_default c = no_axiom c.args.declared.now c.declared.inside.list c.args.name c.args.typs.now c.args.terms.now c.declared.view_is c.in_default.ensures

pub returns : goal.returns
returns c =
    let typs = rw c.in-Some-2.is at c.in_ok-typs.ensures in
    let terms = rw c.in-Some-3.is at c.in_ok-terms.ensures in
    let A = instantiated c.in-Some-2.typs c.in-Some-3.terms c.in-Some.prop.now in
    step-made (alone A) (GivesAxiom (plain_content c.args.declared.now) c.args.name c.args.typs.now c.args.terms.now)
    (record {
      entries = record { typ_map = typs.1; typ_entries = typs.2; term_map = terms.1; term_entries = terms.2 };
      statement = c.in-Some.prop.now;
      declared = subst (IsIn (AxiomDecl c.args.name c.in-Some.prop.now)) c.declared.view_is ((c.in-Some.ensures c.in-Some.prop.now).1 refl);
      is = λ i. alone (instantiated (typs.0 i) (terms.0 i) c.in-Some.prop.now);
    }) c.single.result (c.single.ensures A c.instance.ensures)
