-- What is sound stays so with one declaration more.
use Rattle.std.proofs.Common.{◌≡◌, List, [], ◌∷◌, ◌++◌, refl, sym, ◌∙◌, inl, inr}
use Rattle.pure_text.specs.Lists.{IsIn}
use Rattle.pure_text.proofs.ListLaws.{in_split, in-append_left, in-append_right, each-append, each_imply, distinct-snoc}
use Rattle.pure_definitions.specs.Types.Order.{IsCoregular}
use Rattle.pure_definitions.specs.Declarations.Decl.{Decl, ClassDecl, ConDecl, ArityDecl, ConstDecl, AxiomDecl, PromiseDecl, algebra_of, IsDeclaredClass}
use Rattle.pure_definitions.specs.Declarations.Certified.{IsCertifiedSort}
use Rattle.pure_logic.specs.Content.{Content, IsBelow, IsWellFormed, AreNamedAlike, AreLabelledAlike}
use Rattle.pure_logic.proofs.AboveLaws.{sort-above, typ-above}
use Rattle.pure_logic.proofs.MergeLaws.{well_formed-above}
use Rattle.pure_theory_tables.specs.declared.decl.Decl as outlined
use Rattle.pure_theory_tables.specs.Missing.{IsFirstMissing}
use Rattle.pure_theory.specs.Stage.{IsCertifiedDecl, IsSound, with_decl}
use Rattle.pure_theory.specs.Refusals.{HasNamesake}
use Rattle.pure_theory.proofs.NamesakeLaws.{named_back, labelled_back}

pub certified-above : (ds es : List Decl) → ((d : Decl) → IsIn d ds → IsIn d es) → (d : Decl) → IsCertifiedDecl ds d → IsCertifiedDecl es d
certified-above ds es above (ConstDecl c T) h = typ-above ds es above T h
certified-above ds es above (ArityDecl a) h = record {
  con = above _ h.con;
  domains = each_imply (IsCertifiedSort ds) (IsCertifiedSort es) a.domains (sort-above ds es above) h.domains;
  class = (h.class.0, above (ClassDecl h.class.0) h.class.1, h.class.2);
}
certified-above ds es above (ClassDecl k) h = each_imply (IsDeclaredClass ds) (IsDeclaredClass es) k.above (λ c d. (d.0, above (ClassDecl d.0) d.1, d.2)) h
certified-above ds es above (ConDecl k n) h = tt
certified-above ds es above (AxiomDecl x A) h = tt
certified-above ds es above (PromiseDecl x l A) h = tt

-- A relation that holds between no two elements but one and itself, and between none and a new one, is such a one with the new one too.
once : (R : Decl → Decl → Type 0) → ((d e : Decl) → R d e → R e d) → (ds : List Decl) (d : Decl) → ((e : Decl) → IsIn e ds → ¬ R d e) → ((x y : Decl) → IsIn x ds → IsIn y ds → R x y → x ≡ y)
    → (x y : Decl) → IsIn x (ds ++ d ∷ []) → IsIn y (ds ++ d ∷ []) → R x y → x ≡ y
once R back ds d new same x y m n r = elim (in_split x ds (d ∷ []) m) [
  | inl old ↦ elim (in_split y ds (d ∷ []) n) [
    | inl also ↦ same x y old also r
    | inr one ↦ elim one [ inl e ↦ absurd (new x old (back x d (rw e at r))) | inr none ↦ absurd none ]
  ]
  | inr one ↦ elim one [
    | inl e ↦ elim (in_split y ds (d ∷ []) n) [
      | inl old ↦ absurd (new y old (rw e at r))
      | inr other ↦ elim other [ inl f ↦ e ∙ sym f | inr none ↦ absurd none ]
    ]
    | inr none ↦ absurd none
  ]
]

module _ (Q : Content) (d : Decl) where
  pub below_grown : IsBelow Q (with_decl Q d)
  below_grown e m = in-append_left e Q.declarations (d ∷ []) m

  pub sound_grown : IsSound Q → ¬ IsIn d Q.declarations → ¬ HasNamesake Q.declarations d → ((e : Decl) → IsIn e Q.declarations → ¬ AreLabelledAlike d e) → IsWellFormed Q d → IsCoregular (algebra_of (Q.declarations ++ d ∷ [])) → IsCertifiedDecl Q.declarations d → IsSound (with_decl Q d)
  sound_grown h new named labelled well coregular certified = record {
    content = record {
      named_once = once AreNamedAlike named_back Q.declarations d (λ e m r. named (e, m, r)) h.content.named_once;
      labelled_once = once AreLabelledAlike labelled_back Q.declarations d labelled h.content.labelled_once;
      well_formed = each-append (IsWellFormed (with_decl Q d)) Q.declarations (d ∷ [])
          (each_imply (IsWellFormed Q) (IsWellFormed (with_decl Q d)) Q.declarations (well_formed-above Q (with_decl Q d) below_grown) h.content.well_formed)
          (well_formed-above Q (with_decl Q d) below_grown d well, tt);
      coregular = coregular;
    };
    above_pure = λ e m. below_grown e (h.above_pure e m);
    apart = record { ancestors = h.apart.ancestors; own = h.apart.own };
    certified = each-append (IsCertifiedDecl (Q.declarations ++ d ∷ [])) Q.declarations (d ∷ [])
        (each_imply (IsCertifiedDecl Q.declarations) (IsCertifiedDecl (Q.declarations ++ d ∷ [])) Q.declarations (certified-above Q.declarations (Q.declarations ++ d ∷ []) below_grown) h.certified)
        (certified-above Q.declarations (Q.declarations ++ d ∷ []) below_grown d certified, tt);
    distinct = distinct-snoc Q.declarations d h.distinct new;
  }

-- A content that has a declaration which another lacks isn't below it.
pub missing_not_below : (Q R : Content) (found : outlined.Decl) → IsFirstMissing Q.declarations R.declarations found → ¬ IsBelow Q R
missing_not_below Q R found h below = h.missing (below h.decl (rw h.is (in-append_right h.decl h.front (h.decl ∷ h.rest) (inl refl))))
