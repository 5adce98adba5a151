-- Theories that begin and end one after another.
use Rattle.std.proofs.Common.{◌≡◌, ◌≢◌, ◌<◌, ◌≤◌, ◌+◌, ◌-◌, inl, inr, ℕ, zero, suc, List, [], ◌∷◌, map, refl, sym, ◌∙◌, ap, subst, arith, Some}
use Rattle.std.specs.List.{slice_get}
use Rattle.std.proofs.lemmas.Bool.{cases_lt}
use Rattle.std.proofs.lemmas.Option.{same_Some}
use Rattle.pure_text.specs.Lists.{IsIn, Each, EachTwo, AreDistinct}
use Rattle.pure_text.proofs.ListLaws.{each_at}
use Rattle.pure_typ.specs.NameTexts.{HasText}
use Rattle.pure_logic.specs.Content.{TheoryId, Content}
use Rattle.pure_logic.specs.PureContent.{pure_content}
use Rattle.pure_lookup.specs.Meaning.{pure_text}
use Rattle.pure_graph.specs.Order.{Loaded}
use Rattle.pure_session_laws.specs.Owned.{IsLast}
use Rattle.pure_session_laws.specs.Ended.{HasPlainName, IsNext, IsParent, IsGivenParents}
use Rattle.pure_session_laws.proofs.EndLaws.{nothing-has_ended, theory-ends}
use Rattle.pure_session_laws.specs.Well.{IsWellLoaded}
use Rattle.pure_session_laws.specs.Following.{IsTheoryAt, HaveEnded, IsContentAt, AreContentsOf, NoneHasEnded, ParentsHaveEnded, NextIsGiven, NextHasEnded}
use Rattle.pure_session_laws.specs.Loaded.{IsLoadedSession}

pub at-in : {A : Type 0} (xs : List A) (k : ℕ) (x : A) → slice_get xs k ≡ Some x → IsIn x xs
at-in [] k x e = absurd (cc)
at-in (y ∷ ys) zero x e = inl (sym (same_Some y x e))
at-in (y ∷ ys) (suc k) x e = inr (at-in ys k x e)

abbrev names_of : List Loaded → List (List ℕ)
names_of = map (λ (l : Loaded). l.name)

in-names : (ls : List Loaded) (l : Loaded) → IsIn l ls → IsIn l.name (names_of ls)
in-names [] l m = m
in-names (x ∷ ls) l (inl e) = inl (ap (λ (y : Loaded). y.name) e)
in-names (x ∷ ls) l (inr m) = inr (in-names ls l m)

-- theories at two places have two names
apart-at : (ls : List Loaded) (j k : ℕ) (l m : Loaded) → AreDistinct (names_of ls) → j < k → slice_get ls j ≡ Some l → slice_get ls k ≡ Some m → l.name ≡ m.name → ⊥
apart-at [] j k l m d h a b e = absurd (cc)
apart-at (x ∷ ls) j zero l m d h a b e = absurd (omega (arith, h))
apart-at (x ∷ ls) zero (suc k) l m d h a b e =
    let first : x ≡ l = same_Some x l a in
    d.0 (subst (λ n. IsIn n (names_of ls)) (sym (ap (λ (y : Loaded). y.name) first ∙ e)) (in-names ls m (at-in ls k m b)))
apart-at (x ∷ ls) (suc j) (suc k) l m d h a b e = apart-at ls j k l m d.1 (omega (arith, h)) a b e

-- ---- what the next one is given

each-right : {A B : Type 0} (R : A → B → Type 0) (P : B → Type 0) (xs : List A) (ys : List B) → ((x : A) (y : B) → R x y → P y) → EachTwo R xs ys → Each P ys
each-right R P [] [] has h = tt
each-right R P [] (y ∷ ys) has h = absurd h
each-right R P (x ∷ xs) [] has h = absurd h
each-right R P (x ∷ xs) (y ∷ ys) has h = (has x y h.0, each-right R P xs ys has h.1)

are-parents : (ended : List Content) (indexes : List ℕ) (parents : List Content) → AreContentsOf ended indexes parents → Each (IsParent ended) parents
are-parents ended [] parents are = subst (Each (IsParent ended)) (sym are) (inl refl, tt)
are-parents ended (p ∷ ps) parents are = each-right (IsContentAt ended) (IsParent ended) (p ∷ ps) parents (λ q P h. inr (h.0, h.2)) are

some-parent : (ended : List Content) (indexes : List ℕ) (parents : List Content) → AreContentsOf ended indexes parents → ¬ (parents ≡ [])
some-parent ended [] parents are none_is = let no : pure_content ∷ [] ≡ [] = sym are ∙ none_is in cc
some-parent ended (p ∷ ps) [] are none_is = are
some-parent ended (p ∷ ps) (P ∷ parents) are none_is = cc

module _ (texts : List (List ℕ)) (theories : List Loaded) (known : IsLoadedSession texts theories) (place : ℕ) (ended : List Content) (have : HaveEnded texts theories place ended) where
  is-next : (t : TheoryId) (l : Loaded) → IsTheoryAt texts theories place t l → IsNext ended t
  is-next t l at u P last =
      let w = have.before u P last in
      let earlier : IsTheoryAt texts theories w.0 u w.1 = w.3 in
      let below : w.0 < place = w.2 in
      let index = earlier.index in
      let its = at.index in
      (omega (arith, below, index, its), other-name u t w.1 l w.0 below earlier at)
    where
      other-name : (u t : TheoryId) (m l : Loaded) (k : ℕ) → k < place → IsTheoryAt texts theories k u m → IsTheoryAt texts theories place t l → u.name ≢ t.name
      other-name u t m l k below a b e =
          let text : HasText texts t.name m.name = subst (λ n. HasText texts n m.name) e a.name in
          let same : m.name ≡ l.name = same_Some m.name l.name (sym text ∙ b.name) in
          apart-at theories k place m l known.distinct below a.at b.at same

  plain-name : (t : TheoryId) (l : Loaded) → IsTheoryAt texts theories place t l → HasPlainName texts t
  plain-name t l at text has =
      let same : l.name ≡ text = same_Some l.name text (sym at.name ∙ has) in
      subst (λ n. (¬ IsIn 46 n) × (n ≢ pure_text)) same (each_at (IsWellLoaded texts) theories known.well l (at-in theories place l at.at)).plain

  given-next : (t : TheoryId) (l : Loaded) → IsTheoryAt texts theories place t l → (parents : List Content) → AreContentsOf ended l.parents parents → IsGivenParents texts ended t parents
  given-next t l at parents are = record {
    next = is-next t l at;
    plain = plain-name t l at;
    some = some-parent ended l.parents parents are;
    each = are-parents ended l.parents parents are;
  }

  -- ---- the parents' contents
  content-at : (p : ℕ) → (1 ≤ p) × (p ≤ place) → (P : Content) × IsContentAt ended p P
  content-at p within =
      let w = have.each (p - 1) (omega (arith, within.0, within.1)) in
      let index = w.3.index in
      (w.2, (w.0, omega (arith, index, within.0), w.4))

  contents-at : (ps : List ℕ) → Each (λ p. (1 ≤ p) × (p ≤ place)) ps → (parents : List Content) × EachTwo (IsContentAt ended) ps parents
  contents-at [] h = ([], tt)
  contents-at (p ∷ ps) h = let first = content-at p h.0 in let more = contents-at ps h.1 in (first.0 ∷ more.0, (first.1, more.1))

  contents-of : (ps : List ℕ) → Each (λ p. (1 ≤ p) × (p ≤ place)) ps → (parents : List Content) × AreContentsOf ended ps parents
  contents-of [] h = (pure_content ∷ [], refl)
  contents-of (p ∷ ps) h = contents-at (p ∷ ps) h

  -- ---- the end
  module _ (t : TheoryId) (l : Loaded) (at : IsTheoryAt texts theories place t l) (last : Content) (own : last.own ≡ Some t) where
    all-before : (u : TheoryId) (P : Content) → IsLast (last ∷ ended) u P → (k : ℕ) × (m : Loaded) × (k < place + 1) × IsTheoryAt texts theories k u m
    all-before u P a = elim a.among [
      | inl e ↦ (let same : t ≡ u = same_Some t u (sym own ∙ ap (λ (Q : Content). Q.own) (sym e) ∙ a.own) in
          (place, l, omega arith, subst (λ (x : TheoryId). IsTheoryAt texts theories place x l) same at))
      | inr m ↦ (let w = have.before u P (record { among = m; own = a.own }) in (w.0, w.1, later w.0 w.2, w.3))
    ]
      where
        later : (k : ℕ) → k < place → k < place + 1
        later k h = omega arith

    all-each : (k : ℕ) → k < place + 1 → (u : TheoryId) × (m : Loaded) × (P : Content) × IsTheoryAt texts theories k u m × IsLast (last ∷ ended) u P
    all-each k below = elim (cases_lt k place) [
      | inl before ↦ (let w = have.each k before in (w.0, w.1, w.2, w.3, record { among = inr w.4.among; own = w.4.own }))
      | inr here ↦ (let same : place ≡ k = equal k below here in (t, l, last, subst (λ j. IsTheoryAt texts theories j t l) same at, record { among = inl refl; own = own }))
    ]
      where
        equal : (k : ℕ) → k < place + 1 → place ≤ k → place ≡ k
        equal k a b = omega arith

pub none-has_ended : NoneHasEnded
none-has_ended texts theories = record {
  ended_so = nothing-has_ended texts;
  before = λ t P last. absurd last.among;
  each = λ k below. absurd (none k below);
}
  where
    none : (k : ℕ) → k < 0 → ⊥
    none k below = omega arith

pub parents-have_ended : ParentsHaveEnded
parents-have_ended texts theories known place ended have t l at = contents-of texts theories known place ended have l.parents (known.parents place l at.at)

pub next-is_given : NextIsGiven
next-is_given texts theories known place ended have t l at parents are = given-next texts theories known place ended have t l at parents are

pub next-has_ended : NextHasEnded
next-has_ended texts theories known place ended have t l at parents are first last begins notes declared content =
    let given : IsGivenParents texts ended t parents = given-next texts theories known place ended have t l at parents are in
    let ends = theory-ends texts ended have.ended_so t parents given first last begins l.source 0 l.text.commands notes declared content in
    record {
      ended_so = ends.0;
      before = all-before texts theories known place ended have t l at last ends.1.own;
      each = all-each texts theories known place ended have t l at last ends.1.own;
    }
