use Rattle.std.proofs.Common.{List, refl, subst}
use Rattle.std.specs.Prelude.{Err}
use Rattle.pure_text.specs.Lists.{Each}
use Rattle.pure_unify_steps.specs.declared.node.Setting.{Setting}
use Rattle.pure_unify.specs.Later.{IsDistinct}
use Rattle.pure_unify.specs.Resolved.{IsLater, IsLaterAnswer}
use Rattle.pure_unify.proofs.ResolvedLaws.{big_for, fault_later, unifier_fault, unifier_beyond, unifier_is}
use Rattle.pure_unify.proofs.unifier.unifier_of.Goals as goal

pub returns-in-Err-clause-answer : goal.returns-in-Err-clause-answer
returns-in-Err-clause-answer c m is =
    let distinct = subst (λ (hs : List Setting). Each IsDistinct hs) c.deref.ensures.value c.are_distinct.ensures in
    let fault = subst (λ (hs : List Setting). IsLaterAnswer hs (Err c.in-Err.fault)) c.deref-2.ensures.value c.in-Err.ensures in
    unifier_fault m c.in-Err.fault (big_for _ _ (unifier_beyond c.args.node m is distinct) c.in-Err.fault (fault_later c.args.node.path.settings.items c.in-Err.fault fault))

pub returns-clause-answer : goal.returns-clause-answer
returns-clause-answer c m is =
    let distinct = subst (λ (hs : List Setting). Each IsDistinct hs) c.deref.ensures.value c.are_distinct.ensures in
    let later = subst (λ (hs : List Setting). IsLater hs c.in-Ok.later) c.deref-2.ensures.value c.in-Ok.ensures in
    unifier_is c.args.node m c.in-Ok.later (record { typs = c.in_ok-typs.typs; terms = c.in_ok-terms.terms; flexflex = c.args.node.pairs }) is distinct later c.in_ok-typs.ensures c.in_ok-terms.ensures refl
