use Rattle.std.proofs.Common.{◌≡◌, ◌+◌, ◌-◌, ◌≤◌, length, sym, ap, ◌∙◌, arith}
use Rattle.std.proofs.lemmas.Option.{slice_get_past}
use Rattle.std.specs.Prelude.{slice_get}
use Rattle.pure_typ.specs.NameTexts.{name_texts}
use Rattle.pure_typ.proofs.NamesLemmas.{slice_get-builtin}
use Rattle.pure_typ.proofs.names.Names.text.Goals as goal

pub returns-then-place-len : goal.returns-then-place-len
returns-then-place-len c =
    let number : c.name.inside.0 ≡ c.args.name = c.name.view_is in
    let at : c.args.name ≡ (c.name.inside.0 - 6) + 6 = omega arith in
    ap (slice_get (name_texts c.args.self.now)) at ∙ (slice_get-builtin c.args.self.now (c.name.inside.0 - 6) ∙ (ap (λ ts. slice_get ts (c.name.inside.0 - 6)) (sym c.self.view_is) ∙ c.at.ensures))

pub returns : goal.returns
returns c =
    let number : c.name.inside.0 ≡ c.args.name = c.name.view_is in
    let at : c.args.name ≡ (c.name.inside.0 - 6) + 6 = omega arith in
    let past : length c.self.inside.texts ≤ c.name.inside.0 - 6 = omega (arith, c.len.ensures, c.if-place-len.false) in
    ap (slice_get (name_texts c.args.self.now)) at ∙ (slice_get-builtin c.args.self.now (c.name.inside.0 - 6) ∙ (ap (λ ts. slice_get ts (c.name.inside.0 - 6)) (sym c.self.view_is)
    ∙ slice_get_past c.self.inside.texts (c.name.inside.0 - 6) past))
