-- Pure's own content is one over which terms are unified: it declares no class and no arity.
use Rattle.std.proofs.Common.{inl, inr}
use Rattle.pure_text.specs.Lists.{IsIn}
use Rattle.pure_definitions.specs.Types.Order.{Class, Arity}
use Rattle.pure_definitions.specs.Declarations.Decl.{ClassDecl, ArityDecl}
use Rattle.pure_logic.specs.PureContent.{pure_declarations}
use Rattle.pure_logic.proofs.ContentLaws.{pure_is_content}
use Rattle.pure_logic.proofs.ConnectiveLaws.{pure-below_itself}
use Rattle.pure_unify_answers.specs.Laws.{PureIsUnifyContent}

no_class : (k : Class) → ¬ IsIn (ClassDecl k) pure_declarations
no_class k (inl e) = absurd (cc)
no_class k (inr (inl e)) = absurd (cc)
no_class k (inr (inr (inl e))) = absurd (cc)
no_class k (inr (inr (inr (inl e)))) = absurd (cc)
no_class k (inr (inr (inr (inr (inl e))))) = absurd (cc)
no_class k (inr (inr (inr (inr (inr (inl e)))))) = absurd (cc)
no_class k (inr (inr (inr (inr (inr (inr (inl e))))))) = absurd (cc)
no_class k (inr (inr (inr (inr (inr (inr (inr m))))))) = m

no_arity : (a : Arity) → ¬ IsIn (ArityDecl a) pure_declarations
no_arity a (inl e) = absurd (cc)
no_arity a (inr (inl e)) = absurd (cc)
no_arity a (inr (inr (inl e))) = absurd (cc)
no_arity a (inr (inr (inr (inl e)))) = absurd (cc)
no_arity a (inr (inr (inr (inr (inl e))))) = absurd (cc)
no_arity a (inr (inr (inr (inr (inr (inl e)))))) = absurd (cc)
no_arity a (inr (inr (inr (inr (inr (inr (inl e))))))) = absurd (cc)
no_arity a (inr (inr (inr (inr (inr (inr (inr m))))))) = m

pub pure_is_unify_content : PureIsUnifyContent
pure_is_unify_content = record {
  content = pure_is_content;
  above = pure-below_itself;
  declared = record { inclusions = λ k m. absurd (no_class k m); classes = λ a m. absurd (no_arity a m); domains = λ a m. absurd (no_arity a m) };
}
