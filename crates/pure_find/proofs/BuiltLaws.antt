-- The built facts are propositions as they are compared; and so is each fact of a content.
use Rattle.std.proofs.Common.{◌≡◌, ℕ, ◌≤◌, Bool, true, false, ◌&&◌, List, [], ◌∷◌, inl, inr, refl, sym, ap, subst, arith, nat_eq, Some, None}
use Rattle.std.specs.Prelude.{◌⊎◌, if◌then◌else◌}
use Rattle.std.specs.List.{flat_map}
use Rattle.std.proofs.lemmas.Bool.{and_parts, false≢true}
use Rattle.std.proofs.lemmas.Bool.Decides.{nat_tests}
use Rattle.pure_text.specs.Lists.{IsIn}
use Rattle.pure_text.proofs.ListLaws.{in_split}
use Rattle.pure_definitions.specs.Terms.Term.{Term, Const, Free, Var, Bound, Abs, App}
use Rattle.pure_definitions.specs.Declarations.Decl.{Decl, ClassDecl, ConDecl, ArityDecl, ConstDecl, AxiomDecl, PromiseDecl}
use Rattle.pure_definitions.specs.Reduction.Beta.{IsAbs, IsBetaNormal}
use Rattle.pure_logic.specs.BuiltFacts.{reflexivity, substitutivity, function_extensionality, propositional_extensionality, modus_ponens, specialisation}
use Rattle.pure_logic.specs.Content.{Content, IsStatement}
use Rattle.pure_logic.specs.PureContent.{pure_content}
use Rattle.pure_logic.proofs.BuiltFactLaws.{built_facts_are_statements}
use Rattle.pure_print.specs.NameText.{text_of_name}
use Rattle.pure_theorem.specs.Built.{built_proposition}
use Rattle.pure_theorem.specs.declared.built.Built.{Built}
use Rattle.pure_theorem.specs.declared.built.Built.TheVariants.{Refl, Subst, Ext, Iff, Mp, Spec}
use Rattle.pure_unify_final.specs.Laws.{HasVariablesUpTo}
use Rattle.pure_theory_run.specs.Named.{is_written}
use Rattle.pure_find.specs.Facts.{Fact, fact, built, declared, facts_of, written}
use Rattle.pure_find.specs.Findings.{IsTidyProposition, StatesTidy}

-- whether the term may be applied, as it is no abstraction
abbrev is_applicable : Term → Bool
is_applicable (Abs T b) = false
is_applicable _ = true

-- whether the term has no redex, and variables of index 0 alone
abbrev is_tidy : Term → Bool
is_tidy (Var x i T) = nat_eq i 0
is_tidy (Abs T b) = is_tidy b
is_tidy (App f a) = is_applicable f && (is_tidy f && is_tidy a)
is_tidy _ = true

applicable : (f : Term) → is_applicable f ≡ true → ¬ IsAbs f
applicable (Abs T b) e h = false≢true e
applicable (Const c T) e h = h
applicable (Free x T) e h = h
applicable (Var x i T) e h = h
applicable (Bound n) e h = h
applicable (App f a) e h = h

normal-of : (t : Term) → is_tidy t ≡ true → IsBetaNormal t
normal-of (Const c T) e = tt
normal-of (Free x T) e = tt
normal-of (Var x i T) e = tt
normal-of (Bound n) e = tt
normal-of (Abs T b) e = normal-of b e
normal-of (App f a) e =
    let one = and_parts (is_applicable f) (is_tidy f && is_tidy a) e in
    let two = and_parts (is_tidy f) (is_tidy a) one.1 in
    (applicable f one.0, normal-of f two.0, normal-of a two.1)

zero-is : (i : ℕ) → nat_eq i 0 ≡ true → i ≤ 0
zero-is i e =
    let zero : i ≡ 0 = grind (arith, nat_tests) in
    omega (arith, zero)

zeros-of : (t : Term) → is_tidy t ≡ true → HasVariablesUpTo 0 t
zeros-of (Const c U) e x i T o = absurd (cc)
zeros-of (Free y U) e x i T o = absurd (cc)
zeros-of (Var y j U) e x i T o = let same : j ≡ i = cc in subst (λ n. n ≤ 0) same (zero-is j e)
zeros-of (Bound n) e x i T o = absurd (cc)
zeros-of (Abs U b) e x i T (inl o) = absurd (cc)
zeros-of (Abs U b) e x i T (inr o) = zeros-of b e x i T o
zeros-of (App f a) e x i T (inl o) = absurd (cc)
zeros-of (App f a) e x i T (inr (inl o)) = zeros-of f (and_parts (is_tidy f) (is_tidy a) (and_parts (is_applicable f) (is_tidy f && is_tidy a) e).1).0 x i T o
zeros-of (App f a) e x i T (inr (inr o)) = zeros-of a (and_parts (is_tidy f) (is_tidy a) (and_parts (is_applicable f) (is_tidy f && is_tidy a) e).1).1 x i T o

tidy-of : (A : Term) → IsStatement pure_content A → is_tidy A ≡ true → IsTidyProposition A
tidy-of A h e = record { typed = h.proposition.typed; normal = normal-of A e; variables = zeros-of A e }

pub built-tidy : (which : Built) → IsTidyProposition (built_proposition which)
built-tidy Refl = let h = built_facts_are_statements in tidy-of reflexivity h.0 refl
built-tidy Subst = let h = built_facts_are_statements in tidy-of substitutivity h.1.0 refl
built-tidy Ext = let h = built_facts_are_statements in tidy-of function_extensionality h.1.1.0 refl
built-tidy Iff = let h = built_facts_are_statements in tidy-of propositional_extensionality h.1.1.1.0 refl
built-tidy Mp = let h = built_facts_are_statements in tidy-of modus_ponens h.1.1.1.1.0 refl
built-tidy Spec = let h = built_facts_are_statements in tidy-of specialisation h.1.1.1.1.1.0 refl

-- ---- each fact of a content

-- a fact's proposition is what was declared
written-prop : (texts : List (List ℕ)) (x : ℕ) (A : Term) (f : Fact) → IsIn f (written texts x A) → f.prop ≡ A
written-prop texts x A f h = by (is_written texts x) h
  where
    by : (b : Bool) → IsIn f (if b then (fact (text_of_name texts x) A ∷ []) else []) → f.prop ≡ A
    by true (inl e) = ap Fact.prop e
    by true (inr k) = absurd k
    by false k = absurd k

-- what is declared states such a proposition
declared-tidy : (texts : List (List ℕ)) (Q : Content) → StatesTidy Q → (d : Decl) → IsIn d Q.declarations → (f : Fact) → IsIn f (declared texts d) → IsTidyProposition f.prop
declared-tidy texts Q states (ClassDecl k) there f h = absurd h
declared-tidy texts Q states (ConDecl k n) there f h = absurd h
declared-tidy texts Q states (ArityDecl a) there f h = absurd h
declared-tidy texts Q states (ConstDecl x T) there f h = absurd h
declared-tidy texts Q states (AxiomDecl x A) there f h = subst IsTidyProposition (sym (written-prop texts x A f h)) (states x (record { label = None; prop = A }) there)
declared-tidy texts Q states (PromiseDecl x l A) there f h = subst IsTidyProposition (sym (written-prop texts x A f h)) (states x (record { label = Some l; prop = A }) there)

either : {P Q R : Type 0} → (P → R) → (Q → R) → P ⊎ Q → R
either f g (inl p) = f p
either f g (inr q) = g q

all-declared : (texts : List (List ℕ)) (Q : Content) → StatesTidy Q → (ds : List Decl) → ((d : Decl) → IsIn d ds → IsIn d Q.declarations) → (f : Fact) → IsIn f (flat_map (declared texts) ds) → IsTidyProposition f.prop
all-declared texts Q states [] within f h = absurd h
all-declared texts Q states (d ∷ ds) within f h =
    either (declared-tidy texts Q states d (within d (inl refl)) f) (all-declared texts Q states ds (λ e there. within e (inr there)) f) (in_split f (declared texts d) (flat_map (declared texts) ds) h)

built-facts_tidy : (f : Fact) → IsIn f built → IsTidyProposition f.prop
built-facts_tidy f (inl e) = subst (λ (g : Fact). IsTidyProposition g.prop) (sym e) (built-tidy Refl)
built-facts_tidy f (inr (inl e)) = subst (λ (g : Fact). IsTidyProposition g.prop) (sym e) (built-tidy Subst)
built-facts_tidy f (inr (inr (inl e))) = subst (λ (g : Fact). IsTidyProposition g.prop) (sym e) (built-tidy Ext)
built-facts_tidy f (inr (inr (inr (inl e)))) = subst (λ (g : Fact). IsTidyProposition g.prop) (sym e) (built-tidy Iff)
built-facts_tidy f (inr (inr (inr (inr (inl e))))) = subst (λ (g : Fact). IsTidyProposition g.prop) (sym e) (built-tidy Mp)
built-facts_tidy f (inr (inr (inr (inr (inr (inl e)))))) = subst (λ (g : Fact). IsTidyProposition g.prop) (sym e) (built-tidy Spec)
built-facts_tidy f (inr (inr (inr (inr (inr (inr h)))))) = absurd h

pub facts-tidy : (texts : List (List ℕ)) (Q : Content) → StatesTidy Q → (f : Fact) → IsIn f (facts_of texts Q) → IsTidyProposition f.prop
facts-tidy texts Q states f h =
    either (built-facts_tidy f) (all-declared texts Q states Q.declarations (λ d there. there) f) (in_split f built (flat_map (declared texts) Q.declarations) h)
