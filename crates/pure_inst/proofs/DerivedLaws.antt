-- What the maps on theorems give is derivable.
use Rattle.std.proofs.Common.{ℕ, List, [], ◌∷◌, map, sym, subst}
use Rattle.pure_text.specs.Lists.{Each}
use Rattle.pure_definitions.specs.Terms.Term.{Term}
use Rattle.pure_definitions.specs.Terms.Typing.{HasType}
use Rattle.pure_definitions.specs.Terms.Subst.{TypBind, TermBind, term_instance}
use Rattle.pure_definitions.specs.Declarations.Decl.{algebra_of}
use Rattle.pure_definitions.specs.Declarations.Certified.{IsCertifiedTyp, IsCertified}
use Rattle.pure_logic.specs.Content.{Content, IsCertifiedOf}
use Rattle.pure_logic.specs.Derivable.{Theorem, IsDerivable}
use Rattle.pure_logic.specs.Laws.Maps.{Generalisation, raised_typs, raised_terms, instantiated}
use Rattle.pure_logic.proofs.TheoremMapLaws.{weaker_is_derivable, generalised_is_derivable, raised_is_derivable, instantiated_is_derivable}
use Rattle.pure_theorem.specs.Facts.{IsTheoryContent}
use Rattle.pure_inst.specs.Image.{pair_image, IsImage}
use Rattle.pure_inst.specs.Instance.{GivesInstance}
use Rattle.pure_inst.specs.Schematic.{GivesGeneralised, GivesRaised}

-- The image of a theorem under a map: its hypotheses may stand in any order.
image-derivable : (Q : Content) (f : Term → Term) (th new : Theorem) → IsImage f th new
    → IsDerivable Q (record { hyps = map f th.hyps; pairs = map (pair_image f) th.pairs; prop = f th.prop; rests = th.rests }) → IsDerivable Q new
image-derivable Q f th new image h =
    let weaker = weaker_is_derivable Q (record { hyps = map f th.hyps; pairs = map (pair_image f) th.pairs; prop = f th.prop; rests = th.rests }) new.hyps th.rests (record { hyps = λ A m. (image.hyps.members A).1 m; rests = λ l m. m }) h in
    subst (IsDerivable Q) (λ i. record { hyps = new.hyps; pairs = sym image.pairs i; prop = sym image.prop i; rests = sym image.rests i }) weaker

pub generalised-derived : (Q : Content) → IsTheoryContent Q → (g : Generalisation) (th : Theorem) → IsDerivable Q th → (new : Theorem) → GivesGeneralised g th new → IsDerivable Q new
generalised-derived Q q g th h new gives = subst (IsDerivable Q) (sym gives.is) (generalised_is_derivable Q q.content g th gives.fresh h)

pub raised-derived : (Q : Content) → IsTheoryContent Q → (by : ℕ) (th : Theorem) → IsDerivable Q th → (new : Theorem) → GivesRaised by th new → IsDerivable Q new
raised-derived Q q by th h new gives = image-derivable Q (term_instance (raised_typs by) (raised_terms by)) th new gives (raised_is_derivable Q q.content by th h)

-- Entries with certified images of their types.
certified-entries : (Q : Content) (terms : List TermBind) → Each (λ b. IsCertified Q.declarations b.image) terms → Each (λ b. HasType [] b.image b.typ) terms → Each (λ b. IsCertifiedOf Q b.image b.typ) terms
certified-entries Q [] h k = tt
certified-entries Q (b ∷ bs) h k = (record { certified = h.0; typed = k.0 }, certified-entries Q bs h.1 k.1)

pub instance-derived : (Q : Content) → IsTheoryContent Q → (typs : List TypBind) (terms : List TermBind) → Each (λ b. IsCertifiedTyp Q.declarations b.image) typs → Each (λ b. IsCertified Q.declarations b.image) terms
    → (th : Theorem) → IsDerivable Q th → (new : Theorem) → GivesInstance (algebra_of Q.declarations) typs terms th new → IsDerivable Q new
instance-derived Q q typs terms certified_typs certified_terms th h new gives =
    image-derivable Q (instantiated typs terms) th new gives.image
    (instantiated_is_derivable Q q.content typs terms gives.sorts certified_typs (certified-entries Q terms certified_terms gives.types) th h)
