use Rattle.std.proofs.Common.{◌∙◌, ap, sym}
use Rattle.pure_elab.specs.Faults.{typ_faults}
use Rattle.pure_elab.specs.Table.{sort_among}
use Rattle.pure_elab.specs.Written.{written_typ}
use Rattle.pure_elab.proofs.CallLaws.{nothing_found, found_refuses, refused_typ}
use Rattle.pure_elab.proofs.CertifiedAnswerLaws.{typ_certified}
use Rattle.pure_elab.proofs.calls.elaborate_typ.Goals as goal

pub returns-in-Some-clause-fault : goal.returns-in-Some-clause-fault
returns-in-Some-clause-fault g c =
    let V = g.L.Language.vocabulary c.args.language.now in
    refused_typ V c.args.raw.now c.fault_of.result (found_refuses (typ_faults V c.args.raw.now) c.in-Some.found c.fault_of.result (sym c.in-Some.is ∙ c.with_typ.ensures) c.fault_of.ensures)

pub returns-in_ok-typ-in-None-clause-ok : goal.returns-in_ok-typ-in-None-clause-ok
returns-in_ok-typ-in-None-clause-ok g c =
    let V = g.L.Language.vocabulary c.args.language.now in
    record {
      sound = nothing_found (typ_faults V c.args.raw.now) (sym c.in-None.is ∙ c.with_typ.ensures);
      sorts = sort_among c.in_ok-sorts-in-None.sorts.items;
      are_sorts = c.in_ok-sorts-in-None.ensures;
      is = c.in_ok-typ-in-None.ensures ∙ ap (λ l. written_typ V (sort_among l) c.args.raw.now) c.as_slice.ensures.value;
    }

pub returns-in_ok-typ-in-None-clause-certified : goal.returns-in_ok-typ-in-None-clause-certified
returns-in_ok-typ-in-None-clause-certified g c = typ_certified (g.L.Language.vocabulary c.args.language.now) c.args.raw.now c.in_ok-typ-in-None.typ (returns-in_ok-typ-in-None-clause-ok g c)
