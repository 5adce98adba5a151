use Rattle.std.proofs.Common.{◌≡◌, ◌++◌, sym, ap, ◌∙◌}
use Rattle.std.specs.Prelude.{Some, true}
use Rattle.std.specs.Ordering.{nat_cmp, is_eq}
use Rattle.std.specs.Cmp.Lexicographic.{slice_cmp}
use Rattle.pure_typ.proofs.NamesLemmas.{same-where-equal}
use Rattle.pure_typ.proofs.names.Names.find_noted.Goals as goal

pub returns-then-is_eq : goal.returns-then-is_eq
returns-then-is_eq c =
    let order : is_eq (slice_cmp nat_cmp c.in-Some.text.now (c.args.a.now ++ (c.args.b.now ++ c.args.c.now))) ≡ true = ap is_eq (sym c.compare_joined.ensures) ∙ (sym c.is_eq.ensures ∙ c.if-is_eq.true) in
    c.in-Some.ensures ∙ ap Some (same-where-equal c.in-Some.text.now (c.args.a.now ++ (c.args.b.now ++ c.args.c.now)) order)
