-- The last content of a theory is one more of those that have ended.
use Rattle.std.proofs.Common.{◌≡◌, ◌⊎◌, ◌<◌, ◌+◌, ℕ, List, [], ◌∷◌, ◌++◌, refl, sym, ◌∙◌, ap, subst, inl, inr, arith, Some}
use Rattle.std.specs.Option.{option_to_list}
use Rattle.std.proofs.lemmas.Option.{same_Some}
use Rattle.pure_text.specs.Lists.{IsIn}
use Rattle.pure_text.proofs.ListLaws.{each_imply}
use Rattle.pure_definitions.specs.Names.{Label}
use Rattle.pure_grammar.specs.Theories.TheoryText.{Command}
use Rattle.pure_logic.specs.Content.{TheoryId, Content}
use Rattle.pure_logic.specs.Beginning.{AreToldApart, IsNewOver, ancestors_of, theories_of, HasTheoriesApart}
use Rattle.pure_method.specs.Declare.Notes.{Note}
use Rattle.pure_method.specs.Declare.Fold.{AreDeclared}
use Rattle.pure_session_laws.specs.Owned.{IsLast, IsOwned}
use Rattle.pure_session_laws.specs.Ended.{HasPlainName, AreEnded, IsNext, IsGivenParents}
use Rattle.pure_session_laws.specs.Kept.{CommandKeepsOwned, CommandKeepsSession, NothingHasEnded, TheoryEnds}
use Rattle.pure_session_laws.proofs.BeginLaws.{ancestor-ended, beginning-is_owned}
use Rattle.pure_session_laws.proofs.DeclaredLaws.{HasAdded, declared-adds}

-- ---- one command

added-owned : (texts : List (List ℕ)) (ended : List Content) (t : TheoryId) (Q R : Content) → Q.own ≡ Some t → HasAdded texts t Q R → IsOwned texts ended Q → IsOwned texts ended R
added-owned texts ended t Q R own added owned d m = elim (added.each d m) [
  | inl old ↦ elim (owned d old) [
    | inl pure ↦ inl pure
    | inr other ↦ inr (elim other [ inl before ↦ inl before | inr its ↦ inr (record { theory = its.theory; own = added.own ∙ its.own; of_theory = its.of_theory }) ])
  ]
  | inr new ↦ inr (inr (record { theory = t; own = added.own ∙ own; of_theory = new }))
]

pub command-keeps_owned : CommandKeepsOwned
command-keeps_owned texts ended source label Q command notes next theory own index owned h =
    added-owned texts ended theory Q next own (declared-adds texts source label Q command notes next theory own index h) owned

-- ---- all commands

-- what stays as it is while a theory goes through commands
record HasGone (texts : List (List ℕ)) (ended : List Content) (Q R : Content) : Type 0 where
  own : R.own ≡ Q.own
  ancestors : R.ancestors ≡ Q.ancestors
  owned : IsOwned texts ended R

gone : (texts : List (List ℕ)) (ended : List Content) (source : List ℕ) (t : TheoryId) (place : ℕ) (Q : Content) (commands : List Command) (notes : List Note) (last : Content)
    → Q.own ≡ Some t → IsOwned texts ended Q → AreDeclared texts source t.index place Q commands notes last → HasGone texts ended Q last
gone texts ended source t place Q [] notes last own owned (n, e) = subst (HasGone texts ended Q) (sym e) (record { own = refl; ancestors = refl; owned = owned })
gone texts ended source t place Q (command ∷ commands) notes last own owned (first, next, more, declares, rest, e) =
    let label : Label = record { theory = t.index; command = place; part = 0 } in
    let added : HasAdded texts t Q next = declared-adds texts source label Q command first next t own refl declares in
    let further : HasGone texts ended next last =
    gone texts ended source t (place + 1) next commands more last (added.own ∙ own) (added-owned texts ended t Q next own added owned) rest in
    record { own = further.own ∙ added.own; ancestors = further.ancestors ∙ added.ancestors; owned = further.owned }

-- ---- the end

later-last : (ended : List Content) (new : Content) (t : TheoryId) (P : Content) → IsLast ended t P → IsLast (new ∷ ended) t P
later-last ended new t P last = record { among = inr last.among; own = last.own }

later-owned : (texts : List (List ℕ)) (ended : List Content) (new Q : Content) → IsOwned texts ended Q → IsOwned texts (new ∷ ended) Q
later-owned texts ended new Q owned d m = elim (owned d m) [
  | inl pure ↦ inl pure
  | inr other ↦ inr (elim other [
    | inl o ↦ inl (record { theory = o.theory; last = o.last; is_last = later-last ended new o.theory o.last o.is_last; of_theory = o.of_theory; there = o.there })
    | inr own ↦ inr own
  ])
]

pub nothing-has_ended : NothingHasEnded
nothing-has_ended texts = record {
  contents = tt;
  owned = tt;
  known = λ P m t i. absurd m;
  apart = λ t u P R a b e. absurd a.among;
  plain = λ t P a. absurd a.among;
}

module _ (texts : List (List ℕ)) (ended : List Content) (all : AreEnded texts ended) (theory : TheoryId) (last : Content) (own : last.own ≡ Some theory) where
  -- the new one, or one before
  by-place : (t : TheoryId) (P : Content) → IsLast (last ∷ ended) t P → ((P ≡ last) × (t ≡ theory)) ⊎ IsLast ended t P
  by-place t P a = elim a.among [
    | inl e ↦ inl (e, same_Some t theory (sym a.own ∙ ap (λ (Q : Content). Q.own) e ∙ own))
    | inr m ↦ inr (record { among = m; own = a.own })
  ]

  apart-from : IsNext ended theory → (t u : TheoryId) (R : Content) → t ≡ theory → IsLast ended u R → (t.name ≡ u.name) ⊎ (t.index ≡ u.index) → ⊥
  apart-from next t u R same old (inl name) = (next u R old).1 (sym name ∙ ap (λ (x : TheoryId). x.name) same)
  apart-from next t u R same old (inr index) = below-itself u.index theory.index (next u R old).0 (sym index ∙ ap (λ (x : TheoryId). x.index) same)
    where
      below-itself : (m n : ℕ) → m < n → m ≡ n → ⊥
      below-itself m n h e = omega arith

  all-apart : IsNext ended theory → (t u : TheoryId) (P R : Content) → IsLast (last ∷ ended) t P → IsLast (last ∷ ended) u R → (t.name ≡ u.name) ⊎ (t.index ≡ u.index) → P ≡ R
  all-apart next t u P R a b e = elim (by-place t P a) [
    | inl x ↦ elim (by-place u R b) [ inl y ↦ x.0 ∙ sym y.0 | inr old ↦ absurd (apart-from next t u R x.1 old e) ]
    | inr first ↦ elim (by-place u R b) [ inl y ↦ absurd (apart-from next u t P y.1 first (turned e)) | inr second ↦ all.apart t u P R first second e ]
  ]
    where
      turned : (t.name ≡ u.name) ⊎ (t.index ≡ u.index) → (u.name ≡ t.name) ⊎ (u.index ≡ t.index)
      turned (inl e) = inl (sym e)
      turned (inr e) = inr (sym e)

  all-plain : HasPlainName texts theory → (t : TheoryId) (P : Content) → IsLast (last ∷ ended) t P → HasPlainName texts t
  all-plain plain t P a = elim (by-place t P a) [ inl x ↦ subst (HasPlainName texts) (sym x.1) plain | inr old ↦ all.plain t P old ]

  -- an ancestor of one that has ended has ended
  all-known : (parents : List Content) → IsGivenParents texts ended theory parents → last.ancestors ≡ ancestors_of parents
      → (P : Content) → IsIn P (last ∷ ended) → (t : TheoryId) → IsIn t P.ancestors → (R : Content) × IsLast (last ∷ ended) t R
  all-known parents given are P (inl e) t m =
      let w = ancestor-ended texts ended all parents given.each t (subst (IsIn t) are (subst (λ (Q : Content). IsIn t Q.ancestors) e m)) in
      (w.0, later-last ended last t w.0 w.1)
  all-known parents given are P (inr n) t m = let w = all.known P n t m in (w.0, later-last ended last t w.0 w.1)

pub theory-ends : TheoryEnds
theory-ends texts ended all theory parents given first last begins source place commands notes declared content =
    let run : HasGone texts ended first last = gone texts ended source theory place first commands notes last begins.own (beginning-is_owned texts ended all theory parents given first begins) declared in
    let own : last.own ≡ Some theory = run.own ∙ begins.own in (
      record {
        contents = (content, all.contents);
        owned = (later-owned texts ended last last run.owned, each_imply (IsOwned texts ended) (IsOwned texts (last ∷ ended)) ended (later-owned texts ended last) all.owned);
        known = all-known texts ended all theory last own parents given (run.ancestors ∙ begins.ancestors);
        apart = all-apart texts ended all theory last own given.next;
        plain = all-plain texts ended all theory last own given.plain;
      },
      record { among = inl refl; own = own },
    )

-- ---- look-ups

theories-same : (Q R : Content) → R.own ≡ Q.own → R.ancestors ≡ Q.ancestors → theories_of R ≡ theories_of Q
theories-same Q R own ancestors = λ i. ancestors i ++ option_to_list (own i)

apart-still : (Q R : Content) → R.own ≡ Q.own → R.ancestors ≡ Q.ancestors → HasTheoriesApart Q → HasTheoriesApart R
apart-still Q R own ancestors h = record {
  ancestors = subst AreToldApart (sym ancestors) h.ancestors;
  own = λ t e. subst (IsNewOver t) (sym ancestors) (h.own t (sym own ∙ e));
}

pub command-keeps_session : CommandKeepsSession
command-keeps_session texts source label Q command notes next theory own index s h =
    let added : HasAdded texts theory Q next = declared-adds texts source label Q command notes next theory own index h in
    record {
      names = s.names;
      apart = apart-still Q next added.own added.ancestors s.apart;
      theories = λ t text m has. s.theories t text (subst (IsIn t) (theories-same Q next added.own added.ancestors) m) has;
    }
