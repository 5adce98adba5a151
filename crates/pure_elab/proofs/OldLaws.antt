-- No fresh variable of unification is in the constraints of a draft: the indexes of their variables are 0 and 1.
use Rattle.std.proofs.Common.{◌≡◌, ℕ, ◌<◌, Bool, true, false, List, [], ◌∷◌, ◌++◌, map, Option, Some, None, bytes_eq, if◌then◌else◌, inl, inr, refl, sym, subst, arith}
use Rattle.pure_text.specs.Lists.{Each}
use Rattle.pure_text.proofs.ListLaws.{each-append, each_imply}
use Rattle.pure_grammar.specs.Terms.RawTree as raw
use Rattle.pure_grammar.specs.Terms.RawTree.{RawTree, RawTypTree, RawTypTrees}
use Rattle.pure_definitions.specs.Types.Typ.{Typ, TFree, TVar, Con, Typs, none, also, arrow, prop}
use Rattle.pure_definitions.specs.Types.Occurs.{OccursInTyp, OccursInTyps}
use Rattle.pure_definitions.specs.Terms.Subst.{typ_instance, typs_instance, typ_image, KeepsFixedTyps}
use Rattle.pure_term_laws.proofs.SubstLaws.{entries-keep_fixed_typs}
use Rattle.pure_tunify.specs.Unifiers.{IsOld, IsOldPair}
use Rattle.pure_tunify.specs.Occurrences.{schematics}
use Rattle.pure_elab.specs.declared.meaning.Meaning.{Meaning}
use Rattle.pure_elab.specs.declared.meaning.Meaning.TheVariants as meaning
use Rattle.pure_elab.specs.Vocabulary.{Vocabulary}
use Rattle.pure_elab.specs.Meant.{meant}
use Rattle.pure_elab.specs.Written.{written_typ, written_typs}
use Rattle.pure_elab.specs.Numbered.{unknown_of, unknowns}
use Rattle.pure_elab.specs.Drafts.{Constraint, Binder, texts_of, bound_typ, typ_or_prop, raw_place, raw_typ_place, leaf_draft, draft, whole_draft, binder_typ, behind_binder, unknown, pair_of}
use Rattle.pure_elab.specs.Answers.{IsFixedTyp}
use Rattle.pure_elab.proofs.Lists.{each_to_map}
use Rattle.pure_elab.proofs.NumberedLaws.{occurs-schematics, numbered_image}

-- Each schematic variable of the type has an index below that of fresh ones.
abbrev pub IsLow : Typ → Type 0
IsLow T = (x i : ℕ) (s : List ℕ) → OccursInTyp (TVar x i s) T → i < 2

abbrev pub IsLowConstraint : Constraint → Type 0
IsLowConstraint c = IsLow c.left × IsLow c.right

low-old : (T : Typ) → IsLow T → IsOld 2 0 T
low-old T h (TVar x i s) o f = let l = h x i s o in absurd (omega (arith, l, f.0))
low-old T h (TFree x s) o f = f
low-old T h (Con k ts) o f = f

unknown-low : (n : ℕ) → IsLow (unknown n)
unknown-low n x i s o = let e : i ≡ 0 = cc in omega (arith, e)

variable-low : (n j : ℕ) (r : List ℕ) → j < 2 → IsLow (TVar n j r)
variable-low n j r l x i s o = let e : i ≡ j = cc in omega (arith, l, e)

prop-low : IsLow prop
prop-low x i s (inl e) = absurd (cc)
prop-low x i s (inr o) = absurd o

arrow-low : (T U : Typ) → IsLow T → IsLow U → IsLow (arrow T U)
arrow-low T U f g x i s (inl e) = absurd (cc)
arrow-low T U f g x i s (inr (inl o)) = f x i s o
arrow-low T U f g x i s (inr (inr (inl o))) = g x i s o
arrow-low T U f g x i s (inr (inr (inr o))) = absurd o

mutual
  written-low : (V : Vocabulary) (sorts : ℕ → List ℕ) (t : RawTypTree) → IsLow (written_typ V sorts t)
  written-low V sorts (raw.Var at k text sort) x i s o = absurd (cc)
  written-low V sorts (raw.Con at name args) x i s (inl e) = absurd (cc)
  written-low V sorts (raw.Con at name args) x i s (inr o) = writtens-low V sorts args x i s o

  writtens-low : (V : Vocabulary) (sorts : ℕ → List ℕ) (ts : RawTypTrees) (x i : ℕ) (s : List ℕ) → OccursInTyps (TVar x i s) (written_typs V sorts ts) → i < 2
  writtens-low V sorts raw.none x i s o = absurd o
  writtens-low V sorts (raw.also t ts) x i s (inl o) = written-low V sorts t x i s o
  writtens-low V sorts (raw.also t ts) x i s (inr o) = writtens-low V sorts ts x i s o

module _ (typs : Typ → Typ) (keeps : KeepsFixedTyps typs) where
  mutual
    instance-low : (T : Typ) → ((x i : ℕ) (s : List ℕ) → OccursInTyp (TVar x i s) T → IsLow (typs (TVar x i s))) → IsLow (typ_instance typs T)
    instance-low (TFree y r) h x i s o = let e = subst (λ (U : Typ). OccursInTyp (TVar x i s) U) (keeps y r) o in absurd (cc)
    instance-low (TVar y j r) h x i s o = h y j r refl x i s o
    instance-low (Con k ts) h x i s (inl e) = absurd (cc)
    instance-low (Con k ts) h x i s (inr o) = instances-low ts (λ y j r m. h y j r (inr m)) x i s o

    instances-low : (ts : Typs) → ((x i : ℕ) (s : List ℕ) → OccursInTyps (TVar x i s) ts → IsLow (typs (TVar x i s))) → (x i : ℕ) (s : List ℕ) → OccursInTyps (TVar x i s) (typs_instance typs ts) → i < 2
    instances-low none h x i s o = absurd o
    instances-low (also t ts) h x i s (inl o) = instance-low t (λ y j r m. h y j r (inl m)) x i s o
    instances-low (also t ts) h x i s (inr o) = instances-low ts (λ y j r m. h y j r (inr m)) x i s o

constant-low : (next : ℕ) (T : Typ) → IsLow (typ_instance (typ_image (unknowns next T)) T)
constant-low next T = instance-low (typ_image (unknowns next T)) (entries-keep_fixed_typs (unknowns next T)) T image
  where
    image : (x i : ℕ) (s : List ℕ) → OccursInTyp (TVar x i s) T → IsLow (typ_image (unknowns next T) (TVar x i s))
    image x i s o =
        let k = numbered_image unknown_of next (schematics T) x i s (occurs-schematics x i s T o) in
        subst (λ (U : Typ). IsLow U) (sym k.1) (variable-low k.0 0 s (omega arith))

bound-low : (bs : List Binder) (text : List ℕ) → Each (λ b. IsLow b.typ) bs → IsLow (bound_typ bs text)
bound-low [] text h = prop-low
bound-low (b ∷ bs) text h = chosen_low (bytes_eq b.text text) b.typ (bound_typ bs text) h.0 (bound-low bs text h.1)
  where
    chosen_low : (q : Bool) (T U : Typ) → IsLow T → IsLow U → IsLow (if q then T else U)
    chosen_low true T U f g = f
    chosen_low false T U f g = g

leaf-low : (V : Vocabulary) (bs : List Binder) (text : List ℕ) (m : Meaning) (next : ℕ) → Each (λ b. IsLow b.typ) bs → IsLow (leaf_draft V bs text m next).typ × Each IsLowConstraint (leaf_draft V bs text m next).constraints
leaf-low V bs text (meaning.Constant c) next h = (constant-low next (typ_or_prop (V.typ_declared c)), tt)
leaf-low V bs text (meaning.Fixed x) next h = (variable-low x 1 [] (omega arith), tt)
leaf-low V bs text (meaning.Bound n) next h = (bound-low bs text h, tt)
leaf-low V bs text meaning.Schematic next h = (prop-low, tt)
leaf-low V bs text meaning.Unknown next h = (prop-low, tt)

binder-low : (V : Vocabulary) (sorts : ℕ → List ℕ) (ann : Option RawTypTree) (next : ℕ) → IsLow (binder_typ V sorts ann next)
binder-low V sorts None next = unknown-low next
binder-low V sorts (Some t) next = written-low V sorts t

draft-low : (V : Vocabulary) (sorts : ℕ → List ℕ) (bs : List Binder) (t : RawTree) (next : ℕ) → Each (λ b. IsLow b.typ) bs → IsLow (draft V sorts bs t next).typ × Each IsLowConstraint (draft V sorts bs t next).constraints
draft-low V sorts bs (raw.Leaf at k text) next h = leaf-low V bs text (meant V (texts_of bs) k text) next h
draft-low V sorts bs (raw.Abs at x ann body) next h =
    let T = binder_typ V sorts ann next in
    let inside = draft-low V sorts (record { text = x; typ = T } ∷ bs) body (behind_binder ann next) (binder-low V sorts ann next, h) in
    (arrow-low T (draft V sorts (record { text = x; typ = T } ∷ bs) body (behind_binder ann next)).typ (binder-low V sorts ann next) inside.0, inside.1)
draft-low V sorts bs (raw.App at f a) next h =
    let df = draft V sorts bs f next in
    let da = draft V sorts bs a df.next in
    let function = draft-low V sorts bs f next h in
    let argument = draft-low V sorts bs a df.next h in
    let c : Constraint = record { at = raw_place a; left = df.typ; right = arrow da.typ (unknown da.next) } in
    let last = each-append IsLowConstraint da.constraints (c ∷ []) argument.1 ((function.0, arrow-low da.typ (unknown da.next) argument.0 (unknown-low da.next)), tt) in
    (unknown-low da.next, each-append IsLowConstraint df.constraints (da.constraints ++ c ∷ []) function.1 last)
draft-low V sorts bs (raw.Typed at t ann) next h =
    let d = draft V sorts bs t next in
    let inside = draft-low V sorts bs t next h in
    let c : Constraint = record { at = raw_typ_place ann; left = d.typ; right = written_typ V sorts ann } in
    (inside.0, each-append IsLowConstraint d.constraints (c ∷ []) inside.1 ((inside.0, written-low V sorts ann), tt))

whole-low : (V : Vocabulary) (sorts : ℕ → List ℕ) (t : RawTree) (T : Typ) → IsFixedTyp T → Each IsLowConstraint (whole_draft V sorts t T).constraints
whole-low V sorts t T h =
    let d = draft V sorts [] t 0 in
    let inside = draft-low V sorts [] t 0 tt in
    let c : Constraint = record { at = raw_place t; left = d.typ; right = T } in
    each-append IsLowConstraint d.constraints (c ∷ []) inside.1 ((inside.0, λ x i s o. absurd (h x i s o)), tt)

-- No fresh variable is in the pairs of a whole draft at a type without schematic variables.
pub whole_is_old : (V : Vocabulary) (sorts : ℕ → List ℕ) (t : RawTree) (T : Typ) → IsFixedTyp T → Each (IsOldPair 2 0) (map pair_of (whole_draft V sorts t T).constraints)
whole_is_old V sorts t T h =
    let low = whole-low V sorts t T h in
    each_to_map pair_of (IsOldPair 2 0) (whole_draft V sorts t T).constraints
    (each_imply IsLowConstraint (λ c. IsOldPair 2 0 (pair_of c)) (whole_draft V sorts t T).constraints (λ c l. (low-old c.left l.0, low-old c.right l.1)) low)
