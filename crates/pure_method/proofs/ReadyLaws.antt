-- What a stage and a lemma's statement give to a proof: terms are unified over the content, the statement has no schematic variables, and facts may be used.
use Rattle.std.proofs.Common.{◌≡◌, ◌↔◌, ℕ, zero, suc, List, [], ◌∷◌, inl, inr, refl, ap, sym, subst}
use Rattle.std.specs.Prelude.{Some, slice_get}
use Rattle.std.proofs.lemmas.Option.{same_Some}
use Rattle.pure_text.specs.Lists.{IsIn, Each}
use Rattle.pure_text.proofs.ListLaws.{each_at, each_imply}
use Rattle.pure_definitions.specs.Names.{Label}
use Rattle.pure_definitions.specs.Types.Typ.{Typ, TFree, TVar, Con, Typs, none, also}
use Rattle.pure_definitions.specs.Types.Occurs.{OccursInTyp, OccursInTyps}
use Rattle.pure_definitions.specs.Terms.Term.{Term, Const, Free, Var, Bound, Abs, App}
use Rattle.pure_definitions.specs.Terms.Bounds.{Occurs}
use Rattle.pure_definitions.specs.Reduction.Beta.{IsBetaNormal}
use Rattle.pure_definitions.specs.Declarations.Decl.{ClassDecl, ArityDecl, AxiomDecl, PromiseDecl, IsDeclaredClass}
use Rattle.pure_definitions.specs.Declarations.Certified.{IsCertifiedSort}
use Rattle.pure_term_laws.specs.LawsOccurs.{TypOccurs, HasNoSchematic}
use Rattle.pure_logic.specs.Content.{Content}
use Rattle.pure_logic.specs.Derivable.{Theorem}
use Rattle.pure_logic.specs.BuiltFacts.{built_facts}
use Rattle.pure_lookup.specs.LookUps.{Fact, BuiltFact, AxiomFact, PromisedFact, IsFoundLocal}
use Rattle.pure_declare.specs.Theory.Stage.{IsSound, IsCertifiedDecl}
use Rattle.pure_theorem.specs.Facts.{IsTheoryContent}
use Rattle.pure_unify_laws.specs.Condition.{IsUnifyContent}
use Rattle.pure_declare.specs.Notes.{Fork}
use Rattle.pure_declare.specs.Tidy.{HasTypIndexes, HaveTypIndexes, IsUnschematic, IsTidyDecl, IsTidy}
use Rattle.pure_method.specs.Facts.{theorem, IsFact, LookUp, IsFoundBy, MeansPromiseBy, IsFoundIn, MeansPromiseIn}
use Rattle.pure_method.specs.Outcome.{IsProvable}
use Rattle.pure_method.specs.Running.{IsReady}
use Rattle.pure_method.specs.Taking.{IsReadyFact}
use Rattle.pure_method.proofs.FactLaws.{IsOnce, IsFactOver, FindsOver, in_lemma-over, in_lemma-once, found-usable}

-- The declarations of a stage are over declared classes.
pub unify_content : (Q : Content) → IsSound Q → IsUnifyContent Q
unify_content Q s = record {
  content = s.content;
  above = s.above_pure;
  declared = record {
    inclusions = λ k m. each_at (IsCertifiedDecl Q.declarations) Q.declarations s.certified (ClassDecl k) m;
    classes = λ a m. (each_at (IsCertifiedDecl Q.declarations) Q.declarations s.certified (ArityDecl a) m).class;
    domains = λ a m. each_imply (IsCertifiedSort Q.declarations) (Each (IsDeclaredClass Q.declarations)) a.domains (λ s c. c.1) (each_at (IsCertifiedDecl Q.declarations) Q.declarations s.certified (ArityDecl a) m).domains;
  };
}

pub theory_content : (Q : Content) → IsUnifyContent Q → IsTheoryContent Q
theory_content Q u = record { content = u.content; above_pure = u.above }

pub ready : (texts : List (List ℕ)) (f : Fork) → IsProvable texts f → IsSound f.content → IsReady texts f.content
ready texts f p s = record { in_session = p.in_session; unify = unify_content f.content s; tidy = p.tidy }

-- A term whose indexes are none has no schematic variables.
abbrev Never : ℕ → Type 0
Never i = ⊥

mutual
  none-in_typ : (x i : ℕ) (s : List ℕ) (T : Typ) → HasTypIndexes Never T → ¬ OccursInTyp (TVar x i s) T
  none-in_typ x i s (TFree y r) h o = absurd (cc)
  none-in_typ x i s (TVar y j r) h o = h
  none-in_typ x i s (Con k ts) h (inl e) = absurd (cc)
  none-in_typ x i s (Con k ts) h (inr o) = none-in_typs x i s ts h o

  none-in_typs : (x i : ℕ) (s : List ℕ) (ts : Typs) → HaveTypIndexes Never ts → ¬ OccursInTyps (TVar x i s) ts
  none-in_typs x i s none h o = o
  none-in_typs x i s (also t ts) h (inl o) = none-in_typ x i s t h.0 o
  none-in_typs x i s (also t ts) h (inr o) = none-in_typs x i s ts h.1 o

no-typ : (x i : ℕ) (s : List ℕ) (t : Term) → IsUnschematic t → ¬ TypOccurs (TVar x i s) t
no-typ x i s (Const c T) h o = none-in_typ x i s T h o
no-typ x i s (Free y T) h o = none-in_typ x i s T h o
no-typ x i s (Var y j T) h o = h.0
no-typ x i s (Bound n) h o = o
no-typ x i s (Abs T b) h (inl o) = none-in_typ x i s T h.0 o
no-typ x i s (Abs T b) h (inr o) = no-typ x i s b h.1 o
no-typ x i s (App f a) h (inl o) = no-typ x i s f h.0 o
no-typ x i s (App f a) h (inr o) = no-typ x i s a h.1 o

no-variable : (x i : ℕ) (T : Typ) (t : Term) → IsUnschematic t → ¬ Occurs (Var x i T) t
no-variable x i T (Const c U) h o = let no : ⊥ = cc in no
no-variable x i T (Free y U) h o = let no : ⊥ = cc in no
no-variable x i T (Var y j U) h o = h.0
no-variable x i T (Bound n) h o = let no : ⊥ = cc in no
no-variable x i T (Abs U b) h (inl o) = let no : ⊥ = cc in no
no-variable x i T (Abs U b) h (inr o) = no-variable x i T b h.1 o
no-variable x i T (App f a) h (inl o) = let no : ⊥ = cc in no
no-variable x i T (App f a) h (inr (inl o)) = no-variable x i T f h.0 o
no-variable x i T (App f a) h (inr (inr o)) = no-variable x i T a h.1 o

pub no-schematic : (t : Term) → IsUnschematic t → HasNoSchematic t
no-schematic t h = record { typs = λ x i s. no-typ x i s t h; terms = λ x i T. no-variable x i T t h }

-- Built facts are beta-normal: each application in them is of a constant or a variable.
built-normal : Each IsBetaNormal built_facts
built-normal = (
  (λ h. h, (λ h. h, tt, tt), tt),
  (
    (λ h. h, (λ h. h, tt, (λ h. h, (λ h. h, tt, tt), tt)), (λ h. h, (λ h. h, tt, (λ h. h, tt, tt)), (λ h. h, tt, tt))),
    (
      (λ h. h, (λ h. h, tt, (λ h. h, tt, (λ h. h, (λ h. h, tt, (λ h. h, tt, tt)), (λ h. h, tt, tt)))), (λ h. h, (λ h. h, tt, tt), tt)),
      (
        (λ h. h, (λ h. h, tt, (λ h. h, (λ h. h, tt, tt), tt)), (λ h. h, (λ h. h, tt, (λ h. h, (λ h. h, tt, tt), tt)), (λ h. h, (λ h. h, tt, tt), tt))),
        (
          (λ h. h, (λ h. h, tt, (λ h. h, (λ h. h, tt, tt), tt)), (λ h. h, (λ h. h, tt, tt), tt)),
          ((λ h. h, (λ h. h, tt, (λ h. h, tt, (λ h. h, tt, tt))), (λ h. h, tt, tt)), tt),
        ),
      ),
    ),
  ),
)

normal-at : (As : List Term) → Each IsBetaNormal As → (place : ℕ) (A : Term) → slice_get As place ≡ Some A → IsBetaNormal A
normal-at [] h place A e = let no : ⊥ = cc in absurd no
normal-at (B ∷ Bs) h zero A e = let same : B ≡ A = some-same B A e in subst IsBetaNormal same h.0
  where
    some-same : (C D : Term) → Some C ≡ Some D → C ≡ D
    some-same C D e = cc
normal-at (B ∷ Bs) h (suc place) A e = normal-at Bs h.1 place A e

prop-same : (th : Theorem) (A : Term) (rests : List Label) → th ≡ theorem A rests → IsBetaNormal A → IsBetaNormal th.prop
prop-same th A rests e h = subst IsBetaNormal (sym (ap (λ (t : Theorem). t.prop) e)) h

-- A look-up in a proof over a content whose facts are as commands store them.
module _ (L : LookUp) (Q : Content) (over : FindsOver Q L) (unify : IsUnifyContent Q) where
  fact-normal : IsTidy Q → (fact : Fact) (th : Theorem) → IsFactOver Q fact → IsFact fact th → IsBetaNormal th.prop
  fact-normal tidy (BuiltFact place) th there is = prop-same th is.0 [] is.2 (normal-at built_facts built-normal place is.0 is.1)
  fact-normal tidy (AxiomFact name A) th there is = prop-same th A [] is (each_at IsTidyDecl Q.declarations tidy (AxiomDecl name A) there).normal
  fact-normal tidy (PromisedFact name label A) th there is = prop-same th A (label ∷ []) is (each_at IsTidyDecl Q.declarations tidy (PromiseDecl name label A) there).normal

  -- A fact that is found may be used on each goal.
  pub ready_by-fact : IsTidy Q → (written : List ℕ) (th : Theorem) → IsFoundBy L written th → IsReadyFact Q th
  ready_by-fact tidy written th h =
      let u = found-usable L Q over unify.above written th h in
      record { no_hyps = u.no_hyps; no_pairs = u.no_pairs; normal = fact-normal tidy h.fact th (over written h.fact h.found) h.is; derivable = u.derivable }

  -- It rests on the promise that its name means, and on nothing else.
  promise-in : IsOnce L → (label : Label) (written : List ℕ) (th : Theorem) → IsFoundBy L written th → MeansPromiseBy L label written → IsIn label th.rests
  promise-in once label written th h (name, A, found) =
      let same : h.fact ≡ PromisedFact name label A = same_Some h.fact (PromisedFact name label A) (once written (Some h.fact) (Some (PromisedFact name label A)) h.found found) in
      let is : th ≡ theorem A (label ∷ []) = subst (λ (f : Fact). IsFact f th) same h.is in
      subst (λ (rests : List Label). IsIn label rests) (sym (ap (λ (t : Theorem). t.rests) is)) (inl refl)

  pub rests_by-named : IsOnce L → (written : List ℕ) (th : Theorem) → IsFoundBy L written th → (label : Label) → IsIn label th.rests ↔ MeansPromiseBy L label written
  rests_by-named once written th h label = (λ m. (found-usable L Q over unify.above written th h).named label m, λ p. promise-in once label written th h p)

-- The look-up in a lemma.
module _ (texts : List (List ℕ)) (Q : Content) (r : IsReady texts Q) (lemma : ℕ) where
  pub ready-fact : (written : List ℕ) (th : Theorem) → IsFoundIn texts Q lemma written th → IsReadyFact Q th
  ready-fact = ready_by-fact (IsFoundLocal texts Q lemma) Q (in_lemma-over texts Q lemma) r.unify r.tidy

  pub rests-named : (written : List ℕ) (th : Theorem) → IsFoundIn texts Q lemma written th → (label : Label) → IsIn label th.rests ↔ MeansPromiseIn texts Q lemma label written
  rests-named = rests_by-named (IsFoundLocal texts Q lemma) Q (in_lemma-over texts Q lemma) r.unify (in_lemma-once texts Q r.in_session r.unify.content lemma)
