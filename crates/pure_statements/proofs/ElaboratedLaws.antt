-- Faults of elaboration and of normal forms as failures of steps, and what elaborated types are.
use Rattle.std.proofs.Common.{◌≡◌, ℕ, List, [], refl, sym, subst, inl, inr}
use Rattle.std.specs.Prelude.{Result, Ok, Err}
use Rattle.pure_definitions.specs.Types.Typ.{Typ, TVar, Typs}
use Rattle.pure_definitions.specs.Types.Occurs.{OccursInTyp, OccursInTyps}
use Rattle.pure_definitions.specs.Terms.Term.{Term}
use Rattle.pure_definitions.specs.Reduction.Beta.{IsBetaAnswer, NormalForm}
use Rattle.pure_norm.proofs.BetaLaws.{normal_form-keeps_type, normal_form-keeps_certified}
use Rattle.pure_logic.specs.Content.{Content, IsCertifiedOf}
use Rattle.pure_grammar.specs.Terms.RawTree as raw
use Rattle.pure_grammar.specs.Terms.RawTree.{RawTypTree, RawTypTrees, RawTree}
use Rattle.pure_elab.specs.Vocabulary.{Vocabulary}
use Rattle.pure_elab.specs.Written.{written_typ, written_typs}
use Rattle.pure_elab.specs.Answers.{IsFixedTyp, IsElabFault, IsElaboratedTyp, IsElabTypFault}
use Rattle.pure_elab.specs.declared.fault.ElabFault.{ElabFault}
use Rattle.pure_elab.specs.declared.fault.ElabFault.TheVariants.{UnknownName, UnknownSort, WrongCount, Schematic, IllTyped, Big, Memory}
use Rattle.pure_statements.specs.declared.reason.Failed.{Failed}
use Rattle.pure_statements.specs.Chain.{Answers}
use Rattle.pure_statements.specs.Elaborated.{failed_elaboration, IsTypedTerm, IsWrittenTyp}

term-failed : (V : Vocabulary) (T : Typ) (t : RawTree) (f : ElabFault) → IsElabFault V t T f → Answers (IsTypedTerm V T t) (Err (failed_elaboration f))
term-failed V T t (UnknownName at) h = (UnknownName at, h, refl)
term-failed V T t (UnknownSort at) h = (UnknownSort at, h, refl)
term-failed V T t (WrongCount at) h = (WrongCount at, h, refl)
term-failed V T t (Schematic at) h = (Schematic at, h, refl)
term-failed V T t (IllTyped at) h = (IllTyped at, h, refl)
term-failed V T t Big h = (Big, h, refl)
term-failed V T t Memory h = tt

typ-failed : (V : Vocabulary) (t : RawTypTree) (f : ElabFault) → IsElabTypFault V t f → Answers (IsWrittenTyp V t) (Err (failed_elaboration f))
typ-failed V t (UnknownName at) h = (UnknownName at, h, refl)
typ-failed V t (UnknownSort at) h = (UnknownSort at, h, refl)
typ-failed V t (WrongCount at) h = (WrongCount at, h, refl)
typ-failed V t (Schematic at) h = (Schematic at, h, refl)
typ-failed V t (IllTyped at) h = (IllTyped at, h, refl)
typ-failed V t Big h = (Big, h, refl)
typ-failed V t Memory h = tt

pub term-refused : (V : Vocabulary) (T : Typ) (t : RawTree) (f : ElabFault) (g : Failed) → IsElabFault V t T f → g ≡ failed_elaboration f → Answers (IsTypedTerm V T t) (Err g)
term-refused V T t f g h e = subst (λ (k : Failed). Answers (IsTypedTerm V T t) (Err k)) (sym e) (term-failed V T t f h)

pub typ-refused : (V : Vocabulary) (t : RawTypTree) (f : ElabFault) (g : Failed) → IsElabTypFault V t f → g ≡ failed_elaboration f → Answers (IsWrittenTyp V t) (Err g)
typ-refused V t f g h e = subst (λ (k : Failed). Answers (IsWrittenTyp V t) (Err k)) (sym e) (typ-failed V t f h)

mutual
  written-fixed : (V : Vocabulary) (sorts : ℕ → List ℕ) (t : RawTypTree) → IsFixedTyp (written_typ V sorts t)
  written-fixed V sorts (raw.Var at k text sort) x i s o = absurd (cc)
  written-fixed V sorts (raw.Con at name args) x i s (inl e) = absurd (cc)
  written-fixed V sorts (raw.Con at name args) x i s (inr o) = writtens-fixed V sorts args x i s o

  writtens-fixed : (V : Vocabulary) (sorts : ℕ → List ℕ) (ts : RawTypTrees) (x i : ℕ) (s : List ℕ) → OccursInTyps (TVar x i s) (written_typs V sorts ts) → ⊥
  writtens-fixed V sorts raw.none x i s o = o
  writtens-fixed V sorts (raw.also t ts) x i s (inl o) = written-fixed V sorts t x i s o
  writtens-fixed V sorts (raw.also t ts) x i s (inr o) = writtens-fixed V sorts ts x i s o

-- A written type has no schematic type variables.
pub elaborated-fixed : (V : Vocabulary) (t : RawTypTree) (T : Typ) → IsElaboratedTyp V t T → IsFixedTyp T
elaborated-fixed V t T h = subst IsFixedTyp (sym h.is) (written-fixed V h.sorts t)

-- A normal form is certified where the term is.
pub normal-certified : (t u : Term) → IsBetaAnswer t (NormalForm u) → (Q : Content) (T : Typ) → IsCertifiedOf Q t T → IsCertifiedOf Q u T
normal-certified t u a Q T h = record {
  certified = normal_form-keeps_certified Q.declarations t u a h.certified;
  typed = normal_form-keeps_type [] t u T a h.typed;
}
