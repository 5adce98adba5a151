-- A theory may begin with its parents, and what its content is then.
use Rattle.std.proofs.Common.{◌≡◌, ◌≢◌, ◌⊎◌, ◌<◌, ℕ, List, sym, ◌∙◌, ap, subst, inl, inr, arith, Option, Some, None}
use Rattle.std.specs.Option.{option_to_list}
use Rattle.std.proofs.lemmas.Option.{same_Some}
use Rattle.pure_text.specs.Lists.{IsIn, Each}
use Rattle.pure_text.proofs.ListLaws.{each_of, each_at, any_some, in_split}
use Rattle.pure_definitions.specs.Names.{Label}
use Rattle.pure_definitions.specs.Declarations.Decl.{PromiseDecl}
use Rattle.pure_logic.specs.Content.{TheoryId, Content}
use Rattle.pure_logic.specs.Beginning.{AreToldApart, IsNewOver, IsBeginning, ancestors_of, theories_of}
use Rattle.pure_logic.proofs.MergeLaws.{merge_has_declarations}
use Rattle.pure_logic.proofs.AncestorLaws.{ancestors_are_the_parents, beginning_has_theories_apart}
use Rattle.pure_method.specs.Theory.Refusals.{IsBefore}
use Rattle.pure_session_laws.specs.Owned.{IsLast}
use Rattle.pure_session_laws.specs.Ended.{HasPlainName, AreEnded, IsNext, IsParent, IsGivenParents}
use Rattle.pure_session_laws.specs.OwnerLaws.{ParentsMayBegin, BeginningIsOwned, BeginningIsInSession, LabelsAreBelow}
use Rattle.pure_session_laws.proofs.AgreedLaws.{none-promised, placed, are-agreed}

-- a theory that has ended
abbrev HasEnded : List Content → TheoryId → Type 0
HasEnded ended t = (P : Content) × IsLast ended t P

module _ (texts : List (List ℕ)) (ended : List Content) (all : AreEnded texts ended) where
  parent-ended : (P : Content) → IsParent ended P → (t : TheoryId) → (P.own ≡ Some t) ⊎ IsIn t P.ancestors → HasEnded ended t
  parent-ended P (inl pure) t (inl own) = let no : None ≡ Some t = ap (λ (Q : Content). Q.own) (sym pure) ∙ own in absurd (cc)
  parent-ended P (inl pure) t (inr m) = absurd (subst (λ (Q : Content). IsIn t Q.ancestors) pure m)
  parent-ended P (inr (u, last)) t (inl own) = (P, record { among = last.among; own = own })
  parent-ended P (inr (u, last)) t (inr m) = all.known P last.among t m

  pub ancestor-ended : (parents : List Content) → Each (IsParent ended) parents → (t : TheoryId) → IsIn t (ancestors_of parents) → HasEnded ended t
  ancestor-ended parents each t m =
      let w = any_some (λ P. (P.own ≡ Some t) ⊎ IsIn t P.ancestors) parents ((ancestors_are_the_parents parents t).0 m) in
      parent-ended w.0 (each_at (IsParent ended) parents each w.0 w.1) t w.2

  same-theory : (t u : TheoryId) → HasEnded ended t → HasEnded ended u → (t.name ≡ u.name) ⊎ (t.index ≡ u.index) → t ≡ u
  same-theory t u (P, a) (R, b) e =
      let same : P ≡ R = all.apart t u P R a b e in
      same_Some t u (sym a.own ∙ ap (λ (Q : Content). Q.own) same ∙ b.own)

  told-apart : (parents : List Content) → Each (IsParent ended) parents → AreToldApart (ancestors_of parents)
  told-apart parents each = record {
    by_name = λ t u m n e. same-theory t u (ancestor-ended parents each t m) (ancestor-ended parents each u n) (inl e);
    by_index = λ t u m n e. same-theory t u (ancestor-ended parents each t m) (ancestor-ended parents each u n) (inr e);
  }

  new-over : (theory : TheoryId) (parents : List Content) → IsGivenParents texts ended theory parents → IsNewOver theory (ancestors_of parents)
  new-over theory parents given = record {
    index = each_of (λ (t : TheoryId). t.index < theory.index) (ancestors_of parents) (λ t m. let w = ancestor-ended parents given.each t m in (given.next t w.0 w.1).0);
    name = each_of (λ (t : TheoryId). t.name ≢ theory.name) (ancestors_of parents) (λ t m. let w = ancestor-ended parents given.each t m in (given.next t w.0 w.1).1);
  }

  -- the theories of what begins have plain names
  all-plain : (theory : TheoryId) (parents : List Content) → IsGivenParents texts ended theory parents → (Q : Content) → IsBeginning theory parents Q → (t : TheoryId) → IsIn t (theories_of Q) → HasPlainName texts t
  all-plain theory parents given Q begins t m = elim (in_split t Q.ancestors _ m) [
    | inl before ↦ (let w = ancestor-ended parents given.each t (subst (IsIn t) begins.ancestors before) in all.plain t w.0 w.1)
    | inr own ↦ its-own Q.own begins.own own
  ]
    where
      its-own : (o : Option TheoryId) → o ≡ Some theory → IsIn t (option_to_list o) → HasPlainName texts t
      its-own None e h = absurd h
      its-own (Some u) e (inl h) = subst (HasPlainName texts) (sym (h ∙ same_Some u theory e)) given.plain
      its-own (Some u) e (inr none) = absurd none

pub parents-may_begin : ParentsMayBegin
parents-may_begin texts ended session all theory parents given = record {
  some = given.some;
  agreed = are-agreed texts ended all session parents given.each;
  apart = told-apart texts ended all parents given.each;
  new = new-over texts ended all theory parents given;
}

pub beginning-is_owned : BeginningIsOwned
beginning-is_owned texts ended all theory parents given Q begins d m = elim (placed texts ended all parents given.each d ((merge_has_declarations parents Q.declarations begins.merge d).0 m)) [
  | inl pure ↦ inl pure
  | inr before ↦ inr (inl before)
]

pub beginning-is_in_session : BeginningIsInSession
beginning-is_in_session texts ended session all theory parents given Q begins = record {
  names = session;
  apart = beginning_has_theories_apart theory parents Q (told-apart texts ended all parents given.each) (new-over texts ended all theory parents given) begins;
  theories = λ t text m has. all-plain texts ended all theory parents given Q begins t m text has;
}

earlier-label : (texts : List (List ℕ)) (ended : List Content) (theory : TheoryId) → IsNext ended theory → (label l : Label) → label.theory ≡ theory.index → (t : TheoryId) (P : Content) → IsLast ended t P → l.theory ≡ t.index → IsBefore l label
earlier-label texts ended theory next label l same t P last its = let less = (next t P last).0 in inl (omega (arith, less, its, same))

pub labels-are_below : LabelsAreBelow
labels-are_below texts ended all theory parents given Q begins label same x l A m =
    elim (placed texts ended all parents given.each (PromiseDecl x l A) ((merge_has_declarations parents Q.declarations begins.merge (PromiseDecl x l A)).0 m)) [
      | inl pure ↦ absurd (none-promised (PromiseDecl x l A) pure tt)
      | inr o ↦ earlier-label texts ended theory given.next label l same o.theory o.last o.is_last o.of_theory.1
    ]
