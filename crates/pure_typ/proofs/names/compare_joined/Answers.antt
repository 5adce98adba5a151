use Rattle.std.proofs.Common.{◌≡◌, ◌++◌, length, get_or, sym, ap, ◌∙◌, arith}
use Rattle.std.proofs.lemmas.Option.{slice_get-get_or}
use Rattle.std.specs.Prelude.{slice_get, Some, None}
use Rattle.pure_typ.proofs.NamesLemmas.{slice_cmp-decided, slice_cmp-longer, slice_cmp-shorter, slice_cmp-both}
use Rattle.pure_typ.proofs.names.compare_joined.Goals as goal

pub returns-in_default : goal.returns-in_default
returns-in_default c =
    sym (c.loop-at.invariant ∙ slice_cmp-longer c.args.text.now (c.args.a.now ++ (c.args.b.now ++ c.args.c.now)) c.loop-at.at (get_or c.args.text.now c.loop-at.at 0)
    (slice_get-get_or c.args.text.now c.loop-at.at 0 c.loop-at-test.true) (sym c.byte_at.ensures ∙ c.in_default.is))

pub returns-in-Less : goal.returns-in-Less
returns-in-Less c =
    sym (c.loop-at.invariant ∙ slice_cmp-decided c.args.text.now (c.args.a.now ++ (c.args.b.now ++ c.args.c.now)) c.loop-at.at (get_or c.args.text.now c.loop-at.at 0) c.in-Some.other _
    (slice_get-get_or c.args.text.now c.loop-at.at 0 c.loop-at-test.true) (sym c.byte_at.ensures ∙ c.in-Some.is) (sym c.cmp.ensures ∙ c.in-Less.is))

pub returns-in-Greater : goal.returns-in-Greater
returns-in-Greater c =
    sym (c.loop-at.invariant ∙ slice_cmp-decided c.args.text.now (c.args.a.now ++ (c.args.b.now ++ c.args.c.now)) c.loop-at.at (get_or c.args.text.now c.loop-at.at 0) c.in-Some.other _
    (slice_get-get_or c.args.text.now c.loop-at.at 0 c.loop-at-test.true) (sym c.byte_at.ensures ∙ c.in-Some.is) (sym c.cmp.ensures ∙ c.in-Greater.is))

pub loop-at-preserved : goal.loop-at-preserved
loop-at-preserved c =
    c.loop-at.invariant ∙ slice_cmp-decided c.args.text.now (c.args.a.now ++ (c.args.b.now ++ c.args.c.now)) c.loop-at.at (get_or c.args.text.now c.loop-at.at 0) c.in-Some.other _
    (slice_get-get_or c.args.text.now c.loop-at.at 0 c.loop-at-test.true) (sym c.byte_at.ensures ∙ c.in-Some.is) (sym c.cmp.ensures ∙ c.in-Equal.is)

pub returns-in-Some-byte_at : goal.returns-in-Some-byte_at
returns-in-Some-byte_at c =
    let here : c.loop-at.at ≡ length c.args.text.now = omega arith in
    let got : slice_get (c.args.a.now ++ (c.args.b.now ++ c.args.c.now)) c.loop-at.at ≡ Some c.in-Some-byte_at.field-0 =
    ap (slice_get (c.args.a.now ++ (c.args.b.now ++ c.args.c.now))) here ∙ (sym c.byte_at-2.ensures ∙ c.in-Some-byte_at.is) in
    sym (c.loop-at.invariant ∙ slice_cmp-shorter c.args.text.now (c.args.a.now ++ (c.args.b.now ++ c.args.c.now)) c.loop-at.at c.in-Some-byte_at.field-0 c.loop-at-test.false got)

pub returns-in-None : goal.returns-in-None
returns-in-None c =
    let here : c.loop-at.at ≡ length c.args.text.now = omega arith in
    let got : slice_get (c.args.a.now ++ (c.args.b.now ++ c.args.c.now)) c.loop-at.at ≡ None =
    ap (slice_get (c.args.a.now ++ (c.args.b.now ++ c.args.c.now))) here ∙ (sym c.byte_at-2.ensures ∙ c.in-None.is) in
    sym (c.loop-at.invariant ∙ slice_cmp-both c.args.text.now (c.args.a.now ++ (c.args.b.now ++ c.args.c.now)) c.loop-at.at here got)
