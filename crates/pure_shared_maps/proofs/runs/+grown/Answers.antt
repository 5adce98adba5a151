use Rattle.std.proofs.Common.{◌∙◌, arith}
use Rattle.pure_shared_maps.proofs.RunLaws.{runs_split, put_first, put_last, merges, taken, runs_long, lens_alike, if_ok_then, last_ascends}
use Rattle.pure_shared_maps.proofs.runs.+grown.Goals as goal

pub returns-in_default : goal.returns-in_default
returns-in_default g t c =
    if_ok_then _ _ c.appended.result c.appended.ensures (λ all is. put_first _ _ _ c.requires (runs_long c.args.runs.now ∙ c.in_default.ensures.cases) is)

pub returns-then-len : goal.returns-then-len
returns-then-len g t c =
    let split = runs_split c.args.runs.now c.in-Some.rest.now c.in-Some.last.now c.deref-last.result.now c.deref-last.ensures c.in-Some.ensures.cases.0 in
    let alike = lens_alike c.deref-last.result.now c.args.run c.len.result c.len-2.result c.len.ensures c.len-2.ensures in
    if_ok_then _ _ c.appended-then-len.result c.appended-then-len.ensures (λ all is. put_last _ _ _ _ _ c.requires split (λ h. c.if-len.true (alike.1 h)) is)

pub united-requires-clause-first_ascends : goal.united-requires-clause-first_ascends
united-requires-clause-first_ascends g t c =
    let split = runs_split c.args.runs.now c.in-Some.rest.now c.in-Some.last.now c.deref-last.result.now c.deref-last.ensures c.in-Some.ensures.cases.0 in
    rw c.as_slice.ensures.value (last_ascends _ _ _ _ c.requires split)

pub grown-requires : goal.grown-requires
grown-requires g t c κs within =
    let split = runs_split c.args.runs.now c.in-Some.rest.now c.in-Some.last.now c.deref-last.result.now c.deref-last.ensures c.in-Some.ensures.cases.0 in
    let alike = lens_alike c.deref-last.result.now c.args.run c.len.result c.len-2.result c.len.ensures c.len-2.ensures in
    let same = rw c.as_slice.ensures.value at c.in_ok-run.ensures.same in
    let shorter = c.in-Some.ensures.cases.1 in
    (omega (arith, shorter), (within, merges _ _ _ _ _ c.requires split (alike.0 c.if-len.false) c.in_ok-run.ensures.ascends same))

pub returns : goal.returns
returns g t c =
    let split = runs_split c.args.runs.now c.in-Some.rest.now c.in-Some.last.now c.deref-last.result.now c.deref-last.ensures c.in-Some.ensures.cases.0 in
    let same = rw c.as_slice.ensures.value at c.in_ok-run.ensures.same in
    if_ok_then _ _ c.grown.result c.grown.ensures (λ all has. taken _ _ _ _ _ _ split same has)
