use Rattle.std.proofs.Common.{inl, inr, refl, subst}
use Rattle.std.specs.BTreeMap.{get, Updates}
use Rattle.std.specs.Prelude.{Some}
use Rattle.pure_typ.specs.SortUnion.{IsSortUnion}
use Rattle.pure_definitions.specs.Types.Typ.{Typ}
use Rattle.pure_definitions.specs.Models.Comparison.{typ_cmp}
use Rattle.pure_tunify.specs.Asking.{classes_known}
use Rattle.pure_tunify.proofs.asking.know_asked.Goals as goal

pub returns-then-sort_below : goal.returns-then-sort_below
returns-then-sort_below c = inl (refl, c.sort_below.ensures.0 c.if-sort_below.true)

pub returns : goal.returns
returns c = inr (
  c.in_ok-all.all,
  subst (λ (v : Typ). IsSortUnion (classes_known c.args.asked.now (get typ_cmp c.args.known.now v)) c.args.asked.now.asked c.in_ok-all.all) c.in_ok-typ.ensures c.in_ok-all.ensures,
  subst (λ (v : Typ). Updates typ_cmp c.args.known.now c.insert.new.self v (Some c.in_ok-all.all)) c.in_ok-typ.ensures c.in_ok-insert.ensures.updates,
)
