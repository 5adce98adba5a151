use Rattle.std.proofs.Common.{List, ◌∷◌, refl, subst}
use Rattle.std.specs.Prelude.{Err}
use Rattle.pure_definitions.specs.Terms.Subst.{TypBind}
use Rattle.pure_unify_steps.specs.declared.node.Setting.TheVariants.{OfTyps}
use Rattle.pure_unify.specs.Resolved.{IsLater, IsLaterAnswer}
use Rattle.pure_unify.proofs.ResolvedLaws.{big_for, later_fault, typs_beyond, later_typs}
use Rattle.pure_unify.proofs.resolve.put_typs.Goals as goal

pub returns-in-Err : goal.returns-in-Err
returns-in-Err c rest h =
    subst (λ (bs : List TypBind). IsLaterAnswer (OfTyps bs ∷ rest) (Err c.in-Err.fault)) c.binds.ensures.are
    (later_fault (OfTyps c.binds.result.now ∷ rest) c.in-Err.fault (big_for _ _ (typs_beyond rest c.binds.result.now c.args.later h) c.in-Err.fault c.in-Err.ensures.large))

pub returns : goal.returns
returns c rest h =
    subst (λ (bs : List TypBind). IsLater (OfTyps bs ∷ rest) (record { typs = c.add_entries.new.typs; terms = c.args.later.terms })) c.binds.ensures.are
    (later_typs rest c.binds.result.now c.in-Ok.entries.items c.args.later (record { typs = c.add_entries.new.typs; terms = c.args.later.terms }) h c.in-Ok.ensures.made.0 c.in-Ok.ensures.made.1 c.in_ok-add_entries.ensures refl c.is_distinct.ensures)
