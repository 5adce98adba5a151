-- The parents of a theory declare the same under one name, and under one label.
use Rattle.std.proofs.Common.{◌≡◌, ◌⊎◌, ℕ, List, sym, ◌∙◌, ap, subst, inl, inr}
use Rattle.pure_text.specs.Lists.{IsIn, Each, AnyOf}
use Rattle.pure_text.proofs.ListLaws.{each_at, any_some}
use Rattle.pure_definitions.specs.Declarations.Decl.{Decl, PromiseDecl}
use Rattle.pure_typ.specs.NameTexts.{AreSessionTexts}
use Rattle.pure_logic.specs.Content.{TheoryId, Content, IsContent, AreNamedAlike, AreLabelledAlike}
use Rattle.pure_logic.specs.PureContent.{pure_declarations}
use Rattle.pure_logic.specs.Laws.Contents.{AreAgreed}
use Rattle.pure_logic.proofs.ContentLaws.{pure_is_content}
use Rattle.pure_session_laws.specs.Owned.{IsNameIn, IsOf, IsLast, IsOfEnded}
use Rattle.pure_session_laws.specs.Ended.{AreEnded, IsParent}
use Rattle.pure_session_laws.proofs.NameLaws.{IsNamedBy, AreNamedBy, alike-named, of-name, one-theory, none-of_pure, pure-named}

-- The declaration is a promise.
abbrev pub IsPromise : Decl → Type 0
IsPromise (PromiseDecl x l A) = Unit {0}
IsPromise _ = ⊥

pub none-promised : (d : Decl) → IsIn d pure_declarations → ¬ IsPromise d
none-promised d (inl e) h = subst IsPromise e h
none-promised d (inr (inl e)) h = subst IsPromise e h
none-promised d (inr (inr (inl e))) h = subst IsPromise e h
none-promised d (inr (inr (inr (inl e)))) h = subst IsPromise e h
none-promised d (inr (inr (inr (inr (inl e))))) h = subst IsPromise e h
none-promised d (inr (inr (inr (inr (inr (inl e)))))) h = subst IsPromise e h
none-promised d (inr (inr (inr (inr (inr (inr (inl e))))))) h = subst IsPromise e h
none-promised d (inr (inr (inr (inr (inr (inr (inr none))))))) h = none

promises : (d e : Decl) → AreLabelledAlike d e → IsPromise d × IsPromise e
promises (PromiseDecl x l A) (PromiseDecl y m B) alike = (tt, tt)
promises _ _ alike = absurd alike

module _ (texts : List (List ℕ)) (ended : List Content) (all : AreEnded texts ended) where
  -- Pure declares it, or a theory that has ended
  abbrev pub IsPlaced : Decl → Type 0
  IsPlaced d = IsIn d pure_declarations ⊎ IsOfEnded texts ended d

  of-last : (t : TheoryId) (P : Content) → IsLast ended t P → (d : Decl) → IsIn d P.declarations → IsPlaced d
  of-last t P last d m = elim (each_at _ ended all.owned P last.among d m) [
    | inl pure ↦ inl pure
    | inr other ↦ inr (elim other [
      | inl before ↦ before
      | inr own ↦ record { theory = own.theory; last = P; is_last = record { among = last.among; own = own.own }; of_theory = own.of_theory; there = m }
    ])
  ]

  pub parent-placed : (P : Content) → IsParent ended P → (d : Decl) → IsIn d P.declarations → IsPlaced d
  parent-placed P (inl e) d m = inl (subst (λ (Q : Content). IsIn d Q.declarations) e m)
  parent-placed P (inr (t, last)) d m = of-last t P last d m

  pub placed : (parents : List Content) → Each (IsParent ended) parents → (d : Decl) → AnyOf (λ Q. IsIn d Q.declarations) parents → IsPlaced d
  placed parents each d some = let w = any_some (λ Q. IsIn d Q.declarations) parents some in parent-placed w.0 (each_at (IsParent ended) parents each w.0 w.1) d w.2

  -- ---- names
  module _ (session : AreSessionTexts texts) where
    name-of : (d : Decl) (n : ℕ) → (o : IsOfEnded texts ended d) → IsNamedBy d n → IsNameIn texts o.theory.name n
    name-of d n o h = of-name texts o.theory d n o.of_theory h

    -- two declarations of one theory that has ended stand in its last content
    both-last : (d e : Decl) (a : IsOfEnded texts ended d) (b : IsOfEnded texts ended e) → a.last ≡ b.last → IsIn e a.last.declarations
    both-last d e a b same = subst (λ (P : Content). IsIn e P.declarations) (sym same) b.there

    content-of : (d : Decl) → (a : IsOfEnded texts ended d) → IsContent a.last
    content-of d a = each_at IsContent ended all.contents a.last a.is_last.among

    other-pure : (d e : Decl) → IsIn d pure_declarations → IsOfEnded texts ended e → AreNamedBy d e → ⊥
    other-pure d e m o n =
        none-of_pure texts o.theory (all.plain o.theory o.last o.is_last) n.name (pure-named d n.name m n.first) (name-of e n.name o n.second)

    turned : (d e : Decl) → AreNamedBy d e → AreNamedBy e d
    turned d e n = record { name = n.name; first = n.second; second = n.first }

    named-once : (d e : Decl) → IsPlaced d → IsPlaced e → AreNamedAlike d e → d ≡ e
    named-once d e (inl m) (inl n) alike = pure_is_content.named_once d e m n alike
    named-once d e (inl m) (inr b) alike = absurd (other-pure d e m b (alike-named d e alike))
    named-once d e (inr a) (inl n) alike = absurd (other-pure e d n a (turned d e (alike-named d e alike)))
    named-once d e (inr a) (inr b) alike =
        let n : AreNamedBy d e = alike-named d e alike in
        let name : a.theory.name ≡ b.theory.name =
        one-theory texts session a.theory b.theory (all.plain a.theory a.last a.is_last) (all.plain b.theory b.last b.is_last) n.name (name-of d n.name a n.first) (name-of e n.name b n.second) in
        let same : a.last ≡ b.last = all.apart a.theory b.theory a.last b.last a.is_last b.is_last (inl name) in
        (content-of d a).named_once d e a.there (both-last d e a b same) alike

    -- ---- labels

    same-index : (d e : Decl) (t u : TheoryId) → IsOf texts t d → IsOf texts u e → AreLabelledAlike d e → t.index ≡ u.index
    same-index (PromiseDecl x l A) (PromiseDecl y m B) t u h k alike = sym h.1 ∙ ap (λ j. j.theory) alike ∙ k.1
    same-index _ _ t u h k alike = absurd alike

    labelled-once : (d e : Decl) → IsPlaced d → IsPlaced e → AreLabelledAlike d e → d ≡ e
    labelled-once d e (inl m) other alike = absurd (none-promised d m (promises d e alike).0)
    labelled-once d e (inr a) (inl n) alike = absurd (none-promised e n (promises d e alike).1)
    labelled-once d e (inr a) (inr b) alike =
        let index : a.theory.index ≡ b.theory.index = same-index d e a.theory b.theory a.of_theory b.of_theory alike in
        let same : a.last ≡ b.last = all.apart a.theory b.theory a.last b.last a.is_last b.is_last (inr index) in
        (content-of d a).labelled_once d e a.there (both-last d e a b same) alike

    pub are-agreed : (parents : List Content) → Each (IsParent ended) parents → AreAgreed parents
    are-agreed parents each = record {
      named_once = λ x y a b alike. named-once x y (placed parents each x a) (placed parents each y b) alike;
      labelled_once = λ x y a b alike. labelled-once x y (placed parents each x a) (placed parents each y b) alike;
    }
