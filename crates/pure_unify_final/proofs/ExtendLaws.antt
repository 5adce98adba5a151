-- A map with images for the new variables of a child: under it the child's image becomes the image that the map had.
use Rattle.std.proofs.Common.{◌≡◌, ℕ, zero, suc, ◌+◌, ◌≤◌, List, [], ◌∷◌, map, length, Bool, true, false, ◌&&◌, ap, refl, sym, subst, ◌∙◌, arith, nat_eq}
use Rattle.std.proofs.lemmas.Bool.Decides.{nat_tests}
use Rattle.std.specs.Prelude.{if◌then◌else◌}
use Rattle.pure_text.specs.Lists.{Each, EachTwo}
use Rattle.pure_definitions.specs.Types.Typ.{Typ}
use Rattle.pure_definitions.specs.Terms.Term.{Term, Free, Var, Bound, Abs, App, term_eq}
use Rattle.pure_definitions.specs.Terms.Bounds.{lift_term}
use Rattle.pure_definitions.specs.Terms.Typing.{HasType}
use Rattle.pure_definitions.specs.Terms.Subst.{TermBind, term_variable, inst_term}
use Rattle.pure_definitions.specs.Models.Equality.{term_eq-same, term_eq-itself}
use Rattle.pure_term_laws.proofs.BoundLaws.{lift-zero}
use Rattle.pure_term_laws.proofs.TypingLaws.{typed-closed, lift-closed}
use Rattle.pure_term_laws.proofs.SubstLaws.{typ_instance-identity}
use Rattle.pure_reduction.specs.Steps.{BetaStep, BetaReduces}
use Rattle.pure_reduction.proofs.CommuteLaws.{subst-renamed}
use Rattle.pure_reduction.proofs.StepLaws.{reduces-then, reduces-body, reduces-application}
use Rattle.pure_unify_definitions.specs.Fronts.{below, function_typ, applied, bounds}
use Rattle.pure_unify_definitions.specs.Node.{bind}
use Rattle.pure_unify_definitions.specs.Children.{new_arguments, image_of}
use Rattle.pure_unify_laws.proofs.SplitLaws.{under}
use Rattle.pure_solutions.specs.Solutions.{IsTermSubstitution}

reduces-applied : (ts : List Term) {f g : Term} → BetaReduces f g → BetaReduces (applied f ts) (applied g ts)
reduces-applied [] r = r
reduces-applied (a ∷ ts) r = reduces-applied ts (reduces-application r BetaReduces.done)

reduces-each : (ts us : List Term) {f g : Term} → BetaReduces f g → EachTwo BetaReduces ts us → BetaReduces (applied f ts) (applied g us)
reduces-each [] [] r h = r
reduces-each [] (u ∷ us) r h = absurd h
reduces-each (t ∷ ts) [] r h = absurd h
reduces-each (t ∷ ts) (u ∷ us) r h = reduces-each ts us (reduces-application r h.0) h.1

reduces-below : (Ts : List Typ) {t u : Term} → BetaReduces t u → BetaReduces (below Ts t) (below Ts u)
reduces-below [] r = r
reduces-below (T ∷ Ts) r = reduces-body T (reduces-below Ts r)

-- Abstractions applied to the variables of ts many binders around them.
lifted-applied : (Ts : List Typ) (n : ℕ) (c : Term) → n ≡ length Ts → BetaReduces (applied (lift_term n 0 (below Ts c)) (bounds n)) c
lifted-applied [] zero c e = rw (lift-zero 0 c) BetaReduces.done
lifted-applied [] (suc n) c e = absurd (omega arith)
lifted-applied (T ∷ Ts) zero c e = absurd (omega arith)
lifted-applied (T ∷ Ts) (suc n) c e =
    let step : BetaReduces (App (Abs T (lift_term (suc n) (0 + 1) (below Ts c))) (Bound n)) (lift_term n 0 (below Ts c)) = BetaReduces.next (BetaStep.contract (sym (subst-renamed 0 n (below Ts c)))) BetaReduces.done in
    reduces-then (reduces-applied (bounds n) step) (lifted-applied Ts n c (omega arith))

below-applied : (Ts : List Typ) (c : Term) (F : Typ) → HasType [] (below Ts c) F → BetaReduces (applied (below Ts c) (bounds (length Ts))) c
below-applied Ts c F h = rw (lift-closed (length Ts) 0 (below Ts c) (typed-closed (below Ts c) F h)) at (lifted-applied Ts (length Ts) c refl)

pub below-typed : (Ts bs : List Typ) (t : Term) (R : Typ) → HasType (under Ts bs) t R → HasType bs (below Ts t) (function_typ Ts R)
below-typed [] bs t R h = h
below-typed (T ∷ Ts) bs t R h = (function_typ Ts R, below-typed Ts (T ∷ bs) t R h, refl)

-- the map with these entries before it
abbrev pub extended : List TermBind → (Term → Term) → Term → Term
extended [] terms v = terms v
extended (b ∷ bs) terms v = if term_eq (term_variable b) v then b.image else extended bs terms v

-- the entries for the new variables of a child: each is a function that gives one of the terms
abbrev pub entries : (index : ℕ) → (Ts : List Typ) → (name : ℕ) → (Us : List Typ) → (cs : List Term) → List TermBind
entries index Ts name (U ∷ Us) (c ∷ cs) = bind name index (function_typ Ts U) (below Ts c) ∷ entries index Ts (name + 1) Us cs
entries index Ts name _ _ = []

pub entries-typed : (index : ℕ) (Ts : List Typ) (name : ℕ) (Us : List Typ) (cs : List Term) → EachTwo (HasType (under Ts [])) cs Us → Each (λ b. HasType [] b.image b.typ) (entries index Ts name Us cs)
entries-typed index Ts name [] cs h = tt
entries-typed index Ts name (U ∷ Us) [] h = tt
entries-typed index Ts name (U ∷ Us) (c ∷ cs) h = (below-typed Ts [] c U h.0, entries-typed index Ts (name + 1) Us cs h.1)

module _ (terms : Term → Term) (s : IsTermSubstitution terms) where
  schematic-typed : (es : List TermBind) → Each (λ b. HasType [] b.image b.typ) es → (x i : ℕ) (T : Typ) → HasType [] (extended es terms (Var x i T)) T
  schematic-typed [] h x i T = subst (HasType [] (terms (Var x i T))) (typ_instance-identity T) (s.respecting.schematic x i T)
  schematic-typed (b ∷ bs) h x i T = by_cases (term_eq (term_variable b) (Var x i T)) refl (schematic-typed bs h.1 x i T)
    where
      by_cases : (test : Bool) → term_eq (term_variable b) (Var x i T) ≡ test → HasType [] (extended bs terms (Var x i T)) T → HasType [] (if test then b.image else extended bs terms (Var x i T)) T
      by_cases true e rest =
          let same = term_eq-same (term_variable b) (Var x i T) e in
          let types : b.typ ≡ T = cc in
          subst (HasType [] b.image) types h.0
      by_cases false e rest = rest

  pub fixed-extended : (es : List TermBind) (x : ℕ) (T : Typ) → extended es terms (Free x T) ≡ terms (Free x T)
  fixed-extended [] x T = refl
  fixed-extended (b ∷ bs) x T = fixed-extended bs x T

  pub extended-substitution : (es : List TermBind) → Each (λ b. HasType [] b.image b.typ) es → IsTermSubstitution (extended es terms)
  extended-substitution es h = record {
    respecting = record {
      fixed = λ x T. rw (fixed-extended es x T) (s.respecting.fixed x T);
      schematic = λ x i T. subst (HasType [] (extended es terms (Var x i T))) (sym (typ_instance-identity T)) (schematic-typed es h x i T);
    };
    fixed = λ x T. fixed-extended es x T ∙ s.fixed x T;
  }

  and-false : (b : Bool) → (b && false) ≡ false
  and-false true = refl
  and-false false = refl

  apart-index : (name index y j : ℕ) (F V : Typ) → j + 1 ≤ index → term_eq (Var name index F) (Var y j V) ≡ false
  apart-index name index y j F V le = let apart : nat_eq index j ≡ false = grind (arith, nat_tests) in rw apart (and-false (nat_eq name y))

  apart-name : (name index y j : ℕ) (F V : Typ) → name + 1 ≤ y → term_eq (Var name index F) (Var y j V) ≡ false
  apart-name name index y j F V le = let apart : nat_eq name y ≡ false = grind (arith, nat_tests) in rw apart refl

  -- Variables of lower indexes keep their images.
  pub old-stays : (index : ℕ) (Ts : List Typ) (name : ℕ) (Us : List Typ) (cs : List Term) (y j : ℕ) (V : Typ) → j + 1 ≤ index → extended (entries index Ts name Us cs) terms (Var y j V) ≡ terms (Var y j V)
  old-stays index Ts name [] cs y j V le = refl
  old-stays index Ts name (U ∷ Us) [] y j V le = refl
  old-stays index Ts name (U ∷ Us) (c ∷ cs) y j V le = rw (apart-index name index y j (function_typ Ts U) V le) (old-stays index Ts (name + 1) Us cs y j V le)

  applied-instance : (on : Term → Term) (f : Term) (ts : List Term) → inst_term on (applied f ts) ≡ applied (inst_term on f) (map (inst_term on) ts)
  applied-instance on f [] = refl
  applied-instance on f (a ∷ ts) = applied-instance on (App f a) ts

  below-instance : (on : Term → Term) (Ts : List Typ) (t : Term) → inst_term on (below Ts t) ≡ below Ts (inst_term on t)
  below-instance on [] t = refl
  below-instance on (T ∷ Ts) t = ap (Abs T) (below-instance on Ts t)

  bounds-instance : (on : Term → Term) (n : ℕ) → map (inst_term on) (bounds n) ≡ bounds n
  bounds-instance on zero = refl
  bounds-instance on (suc n) = ap (λ ts. Bound n ∷ ts) (bounds-instance on n)

  -- Under the map each new argument becomes the term in its place.
  new-reduces : (on : Term → Term) (index : ℕ) (Ts : List Typ) (name : ℕ) (Us : List Typ) (cs : List Term) → ((y : ℕ) (V : Typ) → name ≤ y → on (Var y index V) ≡ extended (entries index Ts name Us cs) terms (Var y index V))
      → EachTwo (HasType (under Ts [])) cs Us → EachTwo BetaReduces (map (inst_term on) (new_arguments index Ts name Us)) cs
  new-reduces on index Ts name [] [] look h = tt
  new-reduces on index Ts name [] (c ∷ cs) look h = absurd h
  new-reduces on index Ts name (U ∷ Us) [] look h = absurd h
  new-reduces on index Ts name (U ∷ Us) (c ∷ cs) look h =
      let F = function_typ Ts U in
      let read : on (Var name index F) ≡ below Ts c = look name F (omega arith) ∙ (rw (term_eq-itself (Var name index F)) refl) in
      let first : inst_term on (applied (Var name index F) (bounds (length Ts))) ≡ applied (below Ts c) (bounds (length Ts)) =
      applied-instance on (Var name index F) (bounds (length Ts)) ∙ (λ l. applied (read l) (bounds-instance on (length Ts) l)) in (
        rw first (below-applied Ts c F (below-typed Ts [] c U h.0)),
        new-reduces on index Ts (name + 1) Us cs (λ y V le. look y V (omega arith) ∙ (rw (apart-name name index y index F V le) refl)) h.1,
      )

  pub image-reduces : (on : Term → Term) (index : ℕ) (Ts : List Typ) (k : Term) (Us : List Typ) (cs : List Term) → ((y : ℕ) (V : Typ) → on (Var y index V) ≡ extended (entries index Ts 0 Us cs) terms (Var y index V))
      → inst_term on k ≡ k → EachTwo (HasType (under Ts [])) cs Us → BetaReduces (inst_term on (image_of index Ts k Us)) (below Ts (applied k cs))
  image-reduces on index Ts k Us cs look e h =
      let inside = reduces-each (map (inst_term on) (new_arguments index Ts 0 Us)) cs {f = k} {g = k} BetaReduces.done (new-reduces on index Ts 0 Us cs (λ y V le. look y V) h) in
      let whole : inst_term on (image_of index Ts k Us) ≡ below Ts (applied k (map (inst_term on) (new_arguments index Ts 0 Us))) =
      below-instance on Ts (applied k (new_arguments index Ts 0 Us)) ∙ ap (below Ts) (applied-instance on k (new_arguments index Ts 0 Us) ∙ ap (λ f. applied f (map (inst_term on) (new_arguments index Ts 0 Us))) e) in
      rw whole (reduces-below Ts inside)
