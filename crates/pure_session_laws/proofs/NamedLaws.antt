-- The names that a theory declares are names of its session.
use Rattle.std.proofs.Common.{◌≡◌, ℕ, zero, suc, List, [], ◌∷◌, ◌++◌, inl, inr, refl, sym, ap, Some}
use Rattle.std.specs.Prelude.{slice_get}
use Rattle.pure_text.specs.Lists.{IsIn}
use Rattle.pure_text.proofs.ListLaws.{in-append_right, in-map, each_of}
use Rattle.pure_grammar.specs.Theories.TheoryText.{Have, Command, Class, TypeDecl, Arity, Const, Axiom, Definition, Lemma}
use Rattle.pure_typ.specs.NameTexts.{builtin_texts}
use Rattle.pure_graph.specs.SessionNames.{full_name, full_names}
use Rattle.pure_method.specs.Declare.Commands.{definition_end}
use Rattle.pure_method.specs.Declare.Premises.{IsNamed, HasFullNames}

at-place : {A : Type 0} (x : A) (xs : List A) → IsIn x xs → (n : ℕ) × (slice_get xs n ≡ Some x)
at-place x [] m = absurd m
at-place x (y ∷ ys) (inl e) = (zero, ap Some (sym e))
at-place x (y ∷ ys) (inr m) = let w = at-place x ys m in (suc w.0, w.1)

-- a text of a session is some name's
pub is-named : (texts : List (List ℕ)) (text : List ℕ) → IsIn text texts → IsNamed texts text
is-named texts text m = at-place text (builtin_texts ++ texts) (in-append_right text builtin_texts texts m)

-- what a command declares has names where all its full names do
pub full-named : (texts : List (List ℕ)) (theory : List ℕ) (c : Command) → ((t : List ℕ) → IsIn t (full_names theory c) → IsNamed texts t) → HasFullNames texts theory c
unfolding definition_end
full-named texts theory (Class name above) has = (has _ (inl refl), tt)
full-named texts theory (TypeDecl name params) has = (has _ (inl refl), tt)
full-named texts theory (Arity con doms class) has = tt
full-named texts theory (Const name typ) has = (has _ (inl refl), tt)
full-named texts theory (Axiom name prop) has = (has _ (inl refl), tt)
full-named texts theory (Definition name typ prop) has = (has _ (inl refl), (has _ (inr (inl refl)), tt))
full-named texts theory (Lemma name prop haves script) has = (
  has _ (inl refl),
  each_of (λ (h : Have). IsNamed texts (full_name (full_name theory name) h.name)) haves (λ h m. has _ (inr (in-map (λ (h : Have). full_name (full_name theory name) h.name) h haves m))),
)
