use Rattle.std.proofs.Common.{ℕ, List, subst, sym, refl}
use Rattle.pure_elab.specs.Finished.{NamesAPlace, IsFaultFrom}
use Rattle.pure_elab.proofs.CallLaws.{names_a_place, typing_refused, solution_typed, solution_large}
use Rattle.pure_elab.proofs.calls.typed.Goals as goal

pub typing_fault-requires : goal.typing_fault-requires
typing_fault-requires g c =
    let V = g.L.Language.vocabulary c.args.language.now in
    let all = c.args.constraints in
    let named : NamesAPlace all.places.items c.in-Err.fault = names_a_place V.algebra all.pairs.items all.places.items c.in-Err.fault c.requires.placed c.in-Err.ensures.fault in
    subst (λ (l : List ℕ). NamesAPlace l c.in-Err.fault) (sym c.as_slice.ensures.value) named

pub returns-in-Err-clause-fault : goal.returns-in-Err-clause-fault
returns-in-Err-clause-fault g c d has =
    let V = g.L.Language.vocabulary c.args.language.now in
    let all = c.args.constraints in
    let from : IsFaultFrom all.places.items c.in-Err.fault c.typing_fault.result = subst (λ (l : List ℕ). IsFaultFrom l c.in-Err.fault c.typing_fault.result) c.as_slice.ensures.value c.typing_fault.ensures in
    typing_refused V V.algebra refl d c.args.term.value all has c.in-Err.fault c.typing_fault.result c.in-Err.ensures.fault from

pub returns-clause-ok : goal.returns-clause-ok
returns-clause-ok g c =
    solution_typed (g.L.Language.vocabulary c.args.language.now) c.args.term.value c.args.constraints c.in-Ok.found c.finished.result c.in-Ok.ensures.ok c.finished.ensures

pub returns-clause-fault : goal.returns-clause-fault
returns-clause-fault g c =
    solution_large (g.L.Language.vocabulary c.args.language.now) c.args.term.value c.args.constraints c.in-Ok.found c.finished.result c.in-Ok.ensures.ok c.finished.ensures
