use Rattle.std.proofs.Common.{◌++◌, ap, sym, ◌∙◌}
use Rattle.std.specs.Prelude.{slice_get}
use Rattle.pure_typ.specs.NameTexts.{builtin_texts}
use Rattle.pure_typ.proofs.NamesLemmas.{none-joined, slice_get-builtin}
use Rattle.pure_typ.proofs.names.Names.search.Goals as goal

pub returns-in-Some-find_text : goal.returns-in-Some-find_text
returns-in-Some-find_text c =
    slice_get-builtin c.args.self.now c.in-Some-find_text.index ∙ (ap (λ ts. slice_get ts c.in-Some-find_text.index) (sym c.self.view_is) ∙ c.in-Some-find_text.ensures)

pub returns-in-None : goal.returns-in-None
returns-in-None c =
    none-joined builtin_texts c.args.self.now (c.args.a.now ++ (c.args.b.now ++ c.args.c.now)) c.in_default.ensures
    (λ n e. c.in-None.ensures n (ap (λ ts. slice_get ts n) c.self.view_is ∙ e))
