use Rattle.std.proofs.Common.{◌≡◌, ◌+◌, ◌-◌, ◌/◌, ◌++◌, sym, ap, ◌∙◌, arith}
use Rattle.std.specs.Prelude.{Some}
use Rattle.std.specs.declared.cmp.Ordering.TheVariants.{Equal}
use Rattle.std.specs.Ordering.{nat_cmp, is_eq}
use Rattle.std.specs.Cmp.Lexicographic.{slice_cmp}
use Rattle.pure_typ.proofs.NamesLemmas.{narrows-up, narrows-down, narrows-none, same-where-equal}
use Rattle.pure_typ.proofs.names.find_text.Goals as goal

pub loop-low-preserved-in-Less : goal.loop-low-preserved-in-Less
loop-low-preserved-in-Less c =
    narrows-up c.args.texts.now (c.args.a.now ++ (c.args.b.now ++ c.args.c.now)) c.at.result.now c.loop-low.low c.loop-low.high (c.loop-low.low + (c.loop-low.high - c.loop-low.low) / 2)
    c.requires c.loop-low.invariant (omega arith) c.at.ensures (sym c.compare_joined.ensures ∙ c.in-Less.is)

pub loop-low-preserved : goal.loop-low-preserved
loop-low-preserved c =
    narrows-down c.args.texts.now (c.args.a.now ++ (c.args.b.now ++ c.args.c.now)) c.at.result.now c.loop-low.low c.loop-low.high (c.loop-low.low + (c.loop-low.high - c.loop-low.low) / 2)
    c.requires c.loop-low.invariant (omega arith) (omega arith) c.at.ensures (sym c.compare_joined.ensures ∙ c.in-Greater.is)

pub returns-in-Equal : goal.returns-in-Equal
returns-in-Equal c =
    let order : slice_cmp nat_cmp c.at.result.now (c.args.a.now ++ (c.args.b.now ++ c.args.c.now)) ≡ Equal = sym c.compare_joined.ensures ∙ c.in-Equal.is in
    c.at.ensures ∙ ap Some (same-where-equal c.at.result.now (c.args.a.now ++ (c.args.b.now ++ c.args.c.now)) (ap is_eq order))

pub returns : goal.returns
returns c = narrows-none c.args.texts.now (c.args.a.now ++ (c.args.b.now ++ c.args.c.now)) c.loop-low.low c.loop-low.high c.loop-low.invariant c.loop-low-test.false
