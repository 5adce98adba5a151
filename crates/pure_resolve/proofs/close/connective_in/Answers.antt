use Rattle.std.proofs.Common.{sym, ◌∙◌, ap}
use Rattle.pure_definitions.specs.Terms.Term.{Term, App}
use Rattle.pure_resolve.proofs.ChainLaws.{connective_found}
use Rattle.pure_resolve.proofs.close.connective_in.Goals as goal

pub returns : goal.returns
returns c =
    connective_found (λ f. f.now.value) c.args.t.now c.deref-whole.result.now _ _ _ c.function_of-2.result c.in-Some.ensures
    (c.in-Some-function_of.ensures.1 ∙ ap (λ (f : Term). App f c.in-Some-function_of.ensures.0) (sym c.deref-whole.ensures)) c.function_of-2.ensures
