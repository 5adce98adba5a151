-- Terms that are elaborated have no schematic variables, and facts made of them have the index 0 alone.
use Rattle.std.proofs.Common.{◌≡◌, ℕ, List, [], ◌∷◌, refl, sym, ◌∙◌, subst, inl, inr}
use Rattle.pure_text.specs.Lists.{IsIn}
use Rattle.pure_text.proofs.ListLaws.{in-append_left, in-append_right}
use Rattle.pure_definitions.specs.Types.Typ.{Typ, TFree, TVar, Con, Typs, none, also}
use Rattle.pure_definitions.proofs.InstanceLemmas.{typ_image-fixed}
use Rattle.pure_definitions.specs.Types.Occurs.{OccursInTyp, OccursInTyps}
use Rattle.pure_definitions.specs.Terms.Term.{Term, Const, Free, Var, Bound, Abs, App}
use Rattle.pure_definitions.specs.Terms.Subst.{typ_instance, typs_instance, inst_typ, typ_image}
use Rattle.pure_definitions.specs.Reduction.Beta.{IsAbs, IsBetaNormal}
use Rattle.pure_grammar.specs.Terms.RawTree as raw
use Rattle.pure_grammar.specs.Terms.RawTree.{RawTree}
use Rattle.pure_logic.specs.Content.{schematic_typ_variable}
use Rattle.pure_tunify.specs.Settings.{composed}
use Rattle.pure_tunify.specs.Occurrences.{schematics, schematics_of}
use Rattle.pure_elab.specs.declared.meaning.Meaning.{Meaning}
use Rattle.pure_elab.specs.declared.meaning.Meaning.TheVariants as meaning
use Rattle.pure_elab.specs.Vocabulary.{Vocabulary}
use Rattle.pure_elab.specs.Meant.{meant}
use Rattle.pure_elab.specs.Numbered.{numbered, term_variables}
use Rattle.pure_elab.specs.Drafts.{Binder, Draft, draft, whole_draft, leaf_draft, texts_of, binder_typ, behind_binder}
use Rattle.pure_elab.specs.Answers.{IsFixedTyp, IsElaborated}
use Rattle.pure_elab.proofs.NumberedLaws.{numbered_image}
use Rattle.pure_statements.specs.Schematic.{generalised}
use Rattle.pure_declare.specs.Tidy.{HasTypIndexes, HaveTypIndexes, HasIndexes}

-- no index, and the index 0
abbrev pub Never : ℕ → Type 0
Never i = ⊥

abbrev pub Zero : ℕ → Type 0
Zero i = i ≡ 0

-- A type without schematic type variables.
mutual
  fixed-here : (T : Typ) → ((x i : ℕ) (s : List ℕ) → OccursInTyp (TVar x i s) T → ⊥) → HasTypIndexes Never T
  fixed-here (TFree x s) h = tt
  fixed-here (TVar x i s) h = h x i s refl
  fixed-here (Con k ts) h = all-fixed ts (λ x i s o. h x i s (inr o))

  all-fixed : (ts : Typs) → ((x i : ℕ) (s : List ℕ) → OccursInTyps (TVar x i s) ts → ⊥) → HaveTypIndexes Never ts
  all-fixed none h = tt
  all-fixed (also t ts) h = (fixed-here t (λ x i s o. h x i s (inl o)), all-fixed ts (λ x i s o. h x i s (inr o)))

pub fixed-typ : (T : Typ) → IsFixedTyp T → HasTypIndexes Never T
fixed-typ T h = fixed-here T h

-- Made schematic, it has the index 0 alone.
mutual
  pub typ-zero : (T : Typ) → HasTypIndexes Never T → HasTypIndexes Zero (typ_instance schematic_typ_variable T)
  typ-zero (TFree x s) h = refl
  typ-zero (TVar x i s) h = absurd h
  typ-zero (Con k ts) h = typs-zero ts h

  typs-zero : (ts : Typs) → HaveTypIndexes Never ts → HaveTypIndexes Zero (typs_instance schematic_typ_variable ts)
  typs-zero none h = tt
  typs-zero (also t ts) h = (typ-zero t h.0, typs-zero ts h.1)

pub generalised-zero : (t : Term) → HasIndexes Never t → HasIndexes Zero (generalised t)
generalised-zero (Const c T) h = typ-zero T h
generalised-zero (Free x T) h = (refl, typ-zero T h)
generalised-zero (Var x i T) h = absurd h.0
generalised-zero (Bound n) h = tt
generalised-zero (Abs T b) h = (typ-zero T h.0, generalised-zero b h.1)
generalised-zero (App f a) h = (generalised-zero f h.0, generalised-zero a h.1)

pub inst-zero : (t : Term) → HasIndexes Never t → HasIndexes Zero (inst_typ schematic_typ_variable t)
inst-zero (Const c T) h = typ-zero T h
inst-zero (Free x T) h = typ-zero T h
inst-zero (Var x i T) h = absurd h.0
inst-zero (Bound n) h = tt
inst-zero (Abs T b) h = (typ-zero T h.0, inst-zero b h.1)
inst-zero (App f a) h = (inst-zero f h.0, inst-zero a h.1)

-- No schematic variable is in the term.
abbrev HasNoVar : Term → Type 0
HasNoVar (Var x i T) = ⊥
HasNoVar (Abs T b) = HasNoVar b
HasNoVar (App f a) = HasNoVar f × HasNoVar a
HasNoVar _ = Unit {0}

no_var-inst : (typs : Typ → Typ) (t : Term) → HasNoVar t → HasNoVar (inst_typ typs t)
no_var-inst typs (Const c T) h = tt
no_var-inst typs (Free x T) h = tt
no_var-inst typs (Var x i T) h = absurd h
no_var-inst typs (Bound n) h = tt
no_var-inst typs (Abs T b) h = no_var-inst typs b h
no_var-inst typs (App f a) h = (no_var-inst typs f h.0, no_var-inst typs a h.1)

leaf-no_var : (V : Vocabulary) (bs : List Binder) (text : List ℕ) (m : Meaning) (next : ℕ) → HasNoVar (leaf_draft V bs text m next).term
leaf-no_var V bs text (meaning.Constant c) next = tt
leaf-no_var V bs text (meaning.Fixed x) next = tt
leaf-no_var V bs text (meaning.Bound n) next = tt
leaf-no_var V bs text _ next = tt

draft-no_var : (V : Vocabulary) (sorts : ℕ → List ℕ) (bs : List Binder) (t : RawTree) (next : ℕ) → HasNoVar (draft V sorts bs t next).term
draft-no_var V sorts bs (raw.Leaf at kind text) next = leaf-no_var V bs text (meant V (texts_of bs) kind text) next
draft-no_var V sorts bs (raw.Abs at var typ body) next = draft-no_var V sorts (record { text = var; typ = binder_typ V sorts typ next } ∷ bs) body (behind_binder typ next)
draft-no_var V sorts bs (raw.App at fun arg) next = (draft-no_var V sorts bs fun next, draft-no_var V sorts bs arg (draft V sorts bs fun next).next)
draft-no_var V sorts bs (raw.Typed at term typ) next = draft-no_var V sorts bs term next

-- With its schematic type variables made fixed a term has none.
module _ (fresh : ℕ) (vs : List Typ) where
  abbrev fix : Typ → Typ
  fix = typ_image (numbered TFree fresh [] vs)

  image-fixed : (x i : ℕ) (s : List ℕ) (T : Typ) → T ≡ fix (TVar x i s) → IsIn (TVar x i s) vs → HasTypIndexes Never T
  image-fixed x i s T e m = let image = numbered_image TFree fresh vs x i s m in subst (HasTypIndexes Never) (sym (e ∙ image.1)) tt

  fixed-image : (x : ℕ) (s : List ℕ) → HasTypIndexes Never (fix (TFree x s))
  fixed-image x s = subst (HasTypIndexes Never) (sym (typ_image-fixed (numbered TFree fresh [] vs) x s)) tt

  mutual
    typ-fix : (T : Typ) → ((v : Typ) → IsIn v (schematics T) → IsIn v vs) → HasTypIndexes Never (typ_instance fix T)
    typ-fix (TFree x s) h = fixed-image x s
    typ-fix (TVar x i s) h = image-fixed x i s (fix (TVar x i s)) refl (h (TVar x i s) (inl refl))
    typ-fix (Con k ts) h = typs-fix ts h

    typs-fix : (ts : Typs) → ((v : Typ) → IsIn v (schematics_of ts) → IsIn v vs) → HaveTypIndexes Never (typs_instance fix ts)
    typs-fix none h = tt
    typs-fix (also t ts) h =
        (typ-fix t (λ v m. h v (in-append_left v (schematics t) (schematics_of ts) m)), typs-fix ts (λ v m. h v (in-append_right v (schematics t) (schematics_of ts) m)))

  term-fix : (t : Term) → HasNoVar t → ((v : Typ) → IsIn v (term_variables t) → IsIn v vs) → HasIndexes Never (inst_typ fix t)
  term-fix (Const c T) n h = typ-fix T h
  term-fix (Free x T) n h = typ-fix T h
  term-fix (Var x i T) n h = absurd n
  term-fix (Bound p) n h = tt
  term-fix (Abs T b) n h =
      (typ-fix T (λ v m. h v (in-append_left v (schematics T) (term_variables b) m)), term-fix b n (λ v m. h v (in-append_right v (schematics T) (term_variables b) m)))
  term-fix (App f a) n h =
      (term-fix f n.0 (λ v m. h v (in-append_left v (term_variables f) (term_variables a) m)), term-fix a n.1 (λ v m. h v (in-append_right v (term_variables f) (term_variables a) m)))

-- An elaborated term has no schematic variables and no schematic type variables.
pub elaborated-never : (V : Vocabulary) (t : RawTree) (T : Typ) (u : Term) → IsElaborated V t T u → HasIndexes Never u
elaborated-never V t T u h =
    let d = h.draft in
    let v = inst_typ (composed h.typed.sets) d.term in
    subst (HasIndexes Never) (sym h.typed.is) (term-fix V.fresh (term_variables v) v (no_var-inst (composed h.typed.sets) d.term (drafted d h.of_text.sorts h.of_text.is)) (λ w m. m))
  where
    drafted : (d : Draft) (sorts : ℕ → List ℕ) → d ≡ whole_draft V sorts t T → HasNoVar d.term
    drafted d sorts e = subst (λ (x : Draft). HasNoVar x.term) (sym e) (draft-no_var V sorts [] t 0)

-- What is normal stays so.
not_abs-inst : (typs : Typ → Typ) (t : Term) → (IsAbs t → ⊥) → IsAbs (inst_typ typs t) → ⊥
not_abs-inst typs (Const c T) h a = a
not_abs-inst typs (Free x T) h a = a
not_abs-inst typs (Var x i T) h a = a
not_abs-inst typs (Bound n) h a = a
not_abs-inst typs (Abs T b) h a = h tt
not_abs-inst typs (App f g) h a = a

pub normal-inst : (typs : Typ → Typ) (t : Term) → IsBetaNormal t → IsBetaNormal (inst_typ typs t)
normal-inst typs (Const c T) n = tt
normal-inst typs (Free x T) n = tt
normal-inst typs (Var x i T) n = tt
normal-inst typs (Bound k) n = tt
normal-inst typs (Abs T b) n = normal-inst typs b n
normal-inst typs (App f a) n = (not_abs-inst typs f n.0, normal-inst typs f n.1, normal-inst typs a n.2)
