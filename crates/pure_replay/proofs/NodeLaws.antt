-- When nodes give nothing, and what their conditions say.
use Rattle.std.proofs.Common.{◌≡◌, ◌∙◌, ℕ, List, [], ◌∷◌, ◌++◌, map, refl, sym, subst, inl, inr}
use Rattle.pure_text.specs.Lists.{IsIn, AreDistinct}
use Rattle.pure_text.proofs.ListLaws.{in-map, in-append_right, each_at}
use Rattle.pure_definitions.specs.Types.Typ.{Typ, arrow, IsNoArrow}
use Rattle.pure_definitions.specs.Terms.Term.{Term, Abs, App}
use Rattle.pure_definitions.specs.Terms.Bounds.{Occurs, IsClosed}
use Rattle.pure_definitions.specs.Terms.Subst.{TypBind, TermBind, typ_variable, term_variable}
use Rattle.pure_definitions.specs.Declarations.Decl.{Decl, AxiomDecl}
use Rattle.pure_definitions.specs.Declarations.Certified.{IsCertifiedTyp}
use Rattle.pure_term_laws.proofs.TypingLaws.{typed-closed}
use Rattle.pure_typ.specs.TypBound.{IsTypBound}
use Rattle.pure_term.specs.TermBound.{IsTermBound}
use Rattle.pure_certify.specs.Parts.{typ_parts, IsFirstFault}
use Rattle.pure_certify.specs.declared.fault.CertFault.{CertFault}
use Rattle.pure_certify.proofs.PartLemmas.{certified_typ_exactly, faulty_is_not_sound}
use Rattle.pure_logic.specs.Content.{Content, IsCertifiedOf}
use Rattle.pure_logic.proofs.ConclusionLaws.{one_type}
use Rattle.pure_theorem.specs.First.{IsFirstWith}
use Rattle.pure_replay.specs.Conclusion.{Conclusion}
use Rattle.pure_replay.specs.Step.{plain_content}
use Rattle.pure_replay.specs.Figures.{IsTypEntry, IsTermEntry, GivesAxiom, GivesAllIntro, GivesExt}

-- A type with a fault isn't certified.
faulty_typ : (ds : List Decl) (T : Typ) (f : CertFault) → IsFirstFault ds (typ_parts T) f → ¬ IsCertifiedTyp ds T
faulty_typ ds T f h c = faulty_is_not_sound ds (typ_parts T) f h ((certified_typ_exactly ds T).0 c).1

pub no_typ_entry-variable : (ds : List Decl) (b : TypBind) (own : Typ) (f : CertFault) → own ≡ typ_variable b → IsFirstFault ds (typ_parts own) f → ¬ IsTypEntry (plain_content ds) b
no_typ_entry-variable ds b own f e h k = faulty_typ ds own f h (subst (IsCertifiedTyp ds) (sym e) k.variable)

pub no_typ_entry-image : (ds : List Decl) (b : TypBind) (own : Typ) (f : CertFault) → own ≡ b.image → IsFirstFault ds (typ_parts own) f → ¬ IsTypEntry (plain_content ds) b
no_typ_entry-image ds b own f e h k = faulty_typ ds own f h (subst (IsCertifiedTyp ds) (sym e) k.image)

pub no_term_entry-typ : (ds : List Decl) (b : TermBind) (own : Typ) (f : CertFault) → own ≡ b.typ → IsFirstFault ds (typ_parts own) f → ¬ IsTermEntry (plain_content ds) b
no_term_entry-typ ds b own f e h k = faulty_typ ds own f h (subst (IsCertifiedTyp ds) (sym e) k.typ)

-- A variable with an image is one of the variables.
pub typ_bound-in : (binds : List TypBind) (v w image : Typ) → v ≡ w → IsTypBound binds v image → IsIn w (map typ_variable binds)
typ_bound-in binds v w image e h = subst (λ x. IsIn x (map typ_variable binds)) (h.2 ∙ e) (in-map typ_variable h.0 binds h.1)

pub term_bound-in : (binds : List TermBind) (v w image : Term) → v ≡ w → IsTermBound binds v image → IsIn w (map term_variable binds)
term_bound-in binds v w image e h = subst (λ x. IsIn x (map term_variable binds)) (h.2 ∙ e) (in-map term_variable h.0 binds h.1)

-- The argument of a certified redex is closed.
pub redex-closed : (Q : Content) (redex : Term) (range T : Typ) (b a : Term) → redex ≡ App (Abs T b) a → IsCertifiedOf Q redex range → IsClosed a
redex-closed Q redex range T b a e h = let k = (subst (λ t. IsCertifiedOf Q t range) e h).typed in typed-closed a k.0 k.2

pub no_ext-typ : (Q : Content) (f g : Term) (T : Typ) → IsCertifiedOf Q f T → IsNoArrow T → (c : Conclusion) → ¬ GivesExt Q f g c
no_ext-typ Q f g T h lacks c k = lacks k.domain k.range (one_type Q f T (arrow k.domain k.range) h k.left)

pub no_ext-other : (Q : Content) (f g : Term) (T : Typ) → IsCertifiedOf Q f T → (¬ IsCertifiedOf Q g T) → (c : Conclusion) → ¬ GivesExt Q f g c
no_ext-other Q f g T h lacks c k = lacks (subst (IsCertifiedOf Q g) (one_type Q f (arrow k.domain k.range) T k.left h) k.right)

pub no_all-free : (Q : Content) (x : Term) (above : Conclusion) (hyps : List Term) (which : ℕ) → hyps ≡ above.hyps → IsFirstWith (Occurs x) hyps which → (c : Conclusion) → ¬ GivesAllIntro Q x above c
no_all-free Q x above hyps which e h c k =
    each_at (λ A. ¬ Occurs x A) above.hyps k.fresh h.element (subst (IsIn h.element) (sym h.is ∙ e) (in-append_right h.element h.front (h.element ∷ h.rest) (inl refl))) h.has

pub no_axiom : (ds list : List Decl) (name : ℕ) (typs : List TypBind) (terms : List TermBind) → list ≡ ds → ((A : Term) → ¬ IsIn (AxiomDecl name A) list) → (c : Conclusion) → ¬ GivesAxiom (plain_content ds) name typs terms c
no_axiom ds list name typs terms e none_so c g = none_so g.statement (subst (IsIn (AxiomDecl name g.statement)) (sym e) g.declared)

-- In a list that is distinct no element stands before itself.
pub distinct-before : {A : Type 0} (xs : List A) (y : A) (ys : List A) → AreDistinct (xs ++ y ∷ ys) → ¬ IsIn y xs
distinct-before [] y ys d m = m
distinct-before (x ∷ xs) y ys d m = elim m [
  | inl e ↦ d.0 (subst (λ z. IsIn z (xs ++ y ∷ ys)) e (in-append_right y xs (y ∷ ys) (inl refl)))
  | inr n ↦ distinct-before xs y ys d.1 n
]
