-- A tree concludes one proposition at most.
use Rattle.std.proofs.Common.{◌≡◌, List, ◌∷◌, [], ap, refl, sym, ◌∙◌}
use Rattle.pure_definitions.specs.Types.Typ.{Typ, arrow}
use Rattle.pure_definitions.specs.Terms.Term.{Term}
use Rattle.pure_definitions.specs.Terms.Bounds.{subst_bound, abstract_over}
use Rattle.pure_definitions.specs.Terms.Subst.{term_instance}
use Rattle.pure_definitions.specs.Declarations.Decl.{AxiomDecl, PromiseDecl}
use Rattle.pure_term_laws.proofs.TypingLaws.{typed-once}
use Rattle.pure_logic.specs.Connectives.{all_of, all, imp, eq}
use Rattle.pure_logic.specs.Content.{Content, IsContent, IsCertifiedOf}
use Rattle.pure_logic.specs.Tree.{Tree, Axiom, Promise, Assume, AllIntro, AllElim, ImpliesIntro, ImpliesElim, Beta, Refl, Subst, Ext, Iff}
use Rattle.pure_logic.specs.Concludes.{extensionality, Concludes}
use Rattle.pure_logic.specs.Derivable.{Pair, IsUnderPairs}

-- A certified term has one type.
pub one_type : (Q : Content) (t : Term) (T U : Typ) → IsCertifiedOf Q t T → IsCertifiedOf Q t U → T ≡ U
one_type Q t T U h k = typed-once [] t T U h.typed k.typed

pub one_conclusion : (Q : Content) → IsContent Q → (d : Tree) (C D : Term) → Concludes Q d C → Concludes Q d D → C ≡ D
one_conclusion Q q (Axiom n typs terms) C D h k =
    let once = q.named_once (AxiomDecl n h.0) (AxiomDecl n k.0) h.1 k.1 refl in
    let same : h.0 ≡ k.0 = cc in
    h.3 ∙ ap (term_instance typs terms) same ∙ sym k.3
one_conclusion Q q (Promise l typs terms) C D h k =
    let once = q.labelled_once (PromiseDecl h.0 l h.1) (PromiseDecl k.0 l k.1) h.2 k.2 refl in
    let same : h.1 ≡ k.1 = cc in
    h.4 ∙ ap (term_instance typs terms) same ∙ sym k.4
one_conclusion Q q (Assume A) C D h k = h.1 ∙ sym k.1
one_conclusion Q q (AllIntro x d) C D h k =
    let typ = one_type Q x h.0 k.0 h.4 k.4 in
    let body = one_conclusion Q q d h.1 k.1 h.2 k.2 in
    h.6 ∙ (λ l. all_of (typ l) (abstract_over (body l) x)) ∙ sym k.6
one_conclusion Q q (AllElim t d) C D h k =
    let above = one_conclusion Q q d (all h.0 h.1) (all k.0 k.1) h.2 k.2 in
    let body : h.1 ≡ k.1 = cc in
    h.4 ∙ ap (λ b. subst_bound b t) body ∙ sym k.4
one_conclusion Q q (ImpliesIntro A d) C D h k = h.3 ∙ ap (imp A) (one_conclusion Q q d h.0 k.0 h.1 k.1) ∙ sym k.3
one_conclusion Q q (ImpliesElim d e) C D h k =
    let above = one_conclusion Q q d (imp h.0 C) (imp k.0 D) h.1 k.1 in
    cc
one_conclusion Q q (Beta redex) C D h k =
    let typ = one_type Q redex h.1 k.1 h.5 k.5 in
    let body : h.2 ≡ k.2 = cc in
    let argument : h.3 ≡ k.3 = cc in
    h.6 ∙ (λ l. eq (typ l) redex (subst_bound (body l) (argument l))) ∙ sym k.6
one_conclusion Q q (Refl t) C D h k = h.2 ∙ ap (λ T. eq T t t) (one_type Q t h.0 k.0 h.1 k.1) ∙ sym k.2
one_conclusion Q q (Subst f x y) C D h k =
    let typ = one_type Q x h.0 k.0 h.4 k.4 in
    let body : h.1 ≡ k.1 = cc in
    h.6 ∙ (λ l. imp (eq (typ l) x y) (imp (subst_bound (body l) x) (subst_bound (body l) y))) ∙ sym k.6
one_conclusion Q q (Ext f g) C D h k =
    let typ = one_type Q f (arrow h.0 h.1) (arrow k.0 k.1) h.2 k.2 in
    let domain : h.0 ≡ k.0 = cc in
    let range : h.1 ≡ k.1 = cc in
    h.4 ∙ (λ l. extensionality (domain l) (range l) f g) ∙ sym k.4
one_conclusion Q q (Iff A B) C D h k = h.2 ∙ sym k.2

pub one_under_pairs : (pairs : List Pair) (A q r : Term) → IsUnderPairs pairs A q → IsUnderPairs pairs A r → q ≡ r
one_under_pairs [] A q r h k = h ∙ sym k
one_under_pairs (p ∷ ps) A q r h k =
    let typ = typed-once [] p.left h.0 k.0 h.2 k.2 in
    let below = one_under_pairs ps A h.1 k.1 h.3 k.3 in
    h.4 ∙ (λ l. imp (eq (typ l) p.left p.right) (below l)) ∙ sym k.4
