-- The name of a theory's declaration is no name of another theory, and none of Pure.
use Rattle.std.proofs.Common.{◌≡◌, ◌<◌, ℕ, zero, suc, List, refl, sym, ◌∙◌, subst, inl, inr, arith}
use Rattle.std.specs.Prelude.{codes}
use Rattle.std.proofs.lemmas.Option.{same_Some}
use Rattle.pure_text.specs.Lists.{IsIn}
use Rattle.pure_definitions.specs.Declarations.Decl.{Decl, ClassDecl, ConDecl, ArityDecl, ConstDecl, AxiomDecl, PromiseDecl}
use Rattle.pure_typ.specs.NameTexts.{builtin_texts, HasText, AreSessionTexts}
use Rattle.pure_logic.specs.Content.{TheoryId, AreNamedAlike}
use Rattle.pure_logic.specs.PureContent.{pure_declarations}
use Rattle.pure_lookup.specs.Meaning.{pure_text, full_text}
use Rattle.pure_lookup.proofs.TextLemmas.{one_name, pure-has_no_dot, one_cut}
use Rattle.pure_session_laws.specs.Owned.{IsNameIn, IsOf}
use Rattle.pure_session_laws.specs.Ended.{HasPlainName}

-- The declaration has this name.
abbrev pub IsNamedBy : Decl → ℕ → Type 0
IsNamedBy (ClassDecl k) n = k.name ≡ n
IsNamedBy (ConDecl k count) n = k ≡ n
IsNamedBy (ArityDecl a) n = ⊥
IsNamedBy (ConstDecl c T) n = c ≡ n
IsNamedBy (AxiomDecl x A) n = x ≡ n
IsNamedBy (PromiseDecl x l A) n = x ≡ n

-- both declarations have this name
pub record AreNamedBy (d e : Decl) : Type 0 where
  pub name : ℕ
  pub first : IsNamedBy d name
  pub second : IsNamedBy e name

pub alike-named : (d e : Decl) → AreNamedAlike d e → AreNamedBy d e
alike-named (ClassDecl c) (ClassDecl d) h = record { name = c.name; first = refl; second = sym h }
alike-named (ConDecl k m) (ConDecl l n) h = record { name = k; first = refl; second = sym h }
alike-named (ConstDecl c T) (ConstDecl d U) h = record { name = c; first = refl; second = sym h }
alike-named (AxiomDecl x A) (AxiomDecl y B) h = record { name = x; first = refl; second = sym h }
alike-named (AxiomDecl x A) (PromiseDecl y l B) h = record { name = x; first = refl; second = sym h }
alike-named (PromiseDecl x l A) (AxiomDecl y B) h = record { name = x; first = refl; second = sym h }
alike-named (PromiseDecl x l A) (PromiseDecl y m B) h = record { name = x; first = refl; second = sym h }
alike-named _ _ h = absurd h

-- the name of a theory's declaration is the theory's
pub of-name : (texts : List (List ℕ)) (t : TheoryId) (d : Decl) (n : ℕ) → IsOf texts t d → IsNamedBy d n → IsNameIn texts t.name n
of-name texts t (ClassDecl k) n h e = subst (IsNameIn texts t.name) e h
of-name texts t (ConDecl k count) n h e = subst (IsNameIn texts t.name) e h
of-name texts t (ArityDecl a) n h e = absurd e
of-name texts t (ConstDecl c T) n h e = subst (IsNameIn texts t.name) e h
of-name texts t (AxiomDecl x A) n h e = subst (IsNameIn texts t.name) e h
of-name texts t (PromiseDecl x l A) n h e = subst (IsNameIn texts t.name) e h.0

-- ---- one theory

pub one-theory : (texts : List (List ℕ)) → AreSessionTexts texts → (t u : TheoryId) → HasPlainName texts t → HasPlainName texts u → (n : ℕ) → IsNameIn texts t.name n → IsNameIn texts u.name n → t.name ≡ u.name
one-theory texts session t u plain other n a b =
    let whole : full_text a.text a.base ≡ full_text b.text b.base = same_Some (full_text a.text a.base) (full_text b.text b.base) (sym a.full ∙ b.full) in
    let same : a.text ≡ b.text = (one_cut a.text b.text a.base b.base (plain a.text a.of_theory).0 (other b.text b.of_theory).0 whole).0 in
    one_name texts session b.text t.name u.name (subst (HasText texts t.name) same a.of_theory) b.of_theory

-- ---- none of Pure

-- the text is Pure's, a dot, and a base
record IsOfPure (text : List ℕ) : Type 0 where
  pub base : List ℕ
  pub full : text ≡ full_text pure_text base

builtin-of_pure : (texts : List (List ℕ)) (n : ℕ) (text : List ℕ) → n < 6 → HasText texts n text → IsOfPure text
unfolding builtin_texts pure_text
builtin-of_pure texts zero text h e = record { base = codes "fun"; full = sym (same_Some (codes "Pure.fun") text e) }
builtin-of_pure texts (suc zero) text h e = record { base = codes "prop"; full = sym (same_Some (codes "Pure.prop") text e) }
builtin-of_pure texts (suc (suc zero)) text h e = record { base = codes "all"; full = sym (same_Some (codes "Pure.all") text e) }
builtin-of_pure texts (suc (suc (suc zero))) text h e = record { base = codes "imp"; full = sym (same_Some (codes "Pure.imp") text e) }
builtin-of_pure texts (suc (suc (suc (suc zero)))) text h e = record { base = codes "eq"; full = sym (same_Some (codes "Pure.eq") text e) }
builtin-of_pure texts (suc (suc (suc (suc (suc zero))))) text h e = record { base = codes "protect"; full = sym (same_Some (codes "Pure.protect") text e) }
builtin-of_pure texts (suc (suc (suc (suc (suc (suc n)))))) text h e = absurd (omega arith)

pub none-of_pure : (texts : List (List ℕ)) (t : TheoryId) → HasPlainName texts t → (n : ℕ) → n < 6 → IsNameIn texts t.name n → ⊥
none-of_pure texts t plain n few a =
    let p : IsOfPure (full_text a.text a.base) = builtin-of_pure texts n (full_text a.text a.base) few a.full in
    let clean = plain a.text a.of_theory in
    clean.1 (one_cut a.text pure_text a.base p.base clean.0 pure-has_no_dot p.full).0

pub pure-named : (d : Decl) (n : ℕ) → IsIn d pure_declarations → IsNamedBy d n → n < 6
pure-named d n (inl e) h = let named : 0 ≡ n = subst (λ x. IsNamedBy x n) e h in omega arith
pure-named d n (inr (inl e)) h = let named : 1 ≡ n = subst (λ x. IsNamedBy x n) e h in omega arith
pure-named d n (inr (inr (inl e))) h = let named : 2 ≡ n = subst (λ x. IsNamedBy x n) e h in omega arith
pure-named d n (inr (inr (inr (inl e)))) h = let named : 3 ≡ n = subst (λ x. IsNamedBy x n) e h in omega arith
pure-named d n (inr (inr (inr (inr (inl e))))) h = let named : 4 ≡ n = subst (λ x. IsNamedBy x n) e h in omega arith
pure-named d n (inr (inr (inr (inr (inr (inl e)))))) h = let named : 5 ≡ n = subst (λ x. IsNamedBy x n) e h in omega arith
pure-named d n (inr (inr (inr (inr (inr (inr (inl e))))))) h = let named : 5 ≡ n = subst (λ x. IsNamedBy x n) e h in omega arith
pure-named d n (inr (inr (inr (inr (inr (inr (inr none))))))) h = absurd none
