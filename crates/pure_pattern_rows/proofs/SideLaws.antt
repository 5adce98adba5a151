-- Sides that the call takes.
use Rattle.std.proofs.Common.{◌≡◌, ℕ, ◌≤◌, inl, inr, List, [], ◌∷◌, refl, sym, subst, arith, Bool, true, false}
use Rattle.std.specs.Bool.{OnTrue}
use Rattle.pure_text.specs.Lists.{Each}
use Rattle.pure_definitions.specs.Types.Typ.{Typ}
use Rattle.pure_definitions.specs.Terms.Term.{Term, Const, Free, Var, Bound, Abs, App}
use Rattle.pure_definitions.specs.Terms.Bounds.{Occurs}
use Rattle.pure_definitions.specs.Terms.Typing.{HasType}
use Rattle.pure_definitions.specs.Terms.Measures.{term_index_above}
use Rattle.pure_logic.specs.Derivable.{Pair}
use Rattle.pure_unify_final.specs.Laws.{AreVariablesUpTo}
use Rattle.pure_pattern_laws.specs.Answers.{AreLongOfOneTyp, AreReady}
use Rattle.pure_pattern_rows.specs.Sides.{IsSide, IsReadyPair}

pub low-indexes : (t : Term) → term_index_above t ≤ 4 → (x i : ℕ) (T : Typ) → Occurs (Var x i T) t → i ≤ 3
low-indexes (Const c U) h x i T o = absurd (cc)
low-indexes (Free y U) h x i T o = absurd (cc)
low-indexes (Var y j U) h x i T o = (let same : i ≡ j = cc in omega arith)
low-indexes (Bound p) h x i T o = absurd (cc)
low-indexes (Abs U b) h x i T (inl e) = absurd (cc)
low-indexes (Abs U b) h x i T (inr o) = low-indexes b (omega arith) x i T o
low-indexes (App f a) h x i T (inl e) = absurd (cc)
low-indexes (App f a) h x i T (inr (inl o)) = low-indexes f (omega arith) x i T o
low-indexes (App f a) h x i T (inr (inr o)) = low-indexes a (omega arith) x i T o

pub ready-pair : (p : Pair) (T U : Typ) → IsSide p.left T → IsSide p.right U → T ≡ U → IsReadyPair p
ready-pair p T U h k e = record {
  sides = record { left = h.long; right = k.long; typ = T; left_typ = h.typed; right_typ = subst (HasType [] p.right) (sym e) k.typed };
  indexes = (h.low, k.low);
}

pub ready-where : (p : Pair) (T U : Typ) (b : Bool) → IsSide p.left T → IsSide p.right U → (b ≡ true → T ≡ U) → OnTrue b (IsReadyPair p)
ready-where p T U true h k e = ready-pair p T U h k (e refl)
ready-where p T U false h k e = tt

all-sides : (ps : List Pair) → Each IsReadyPair ps → Each AreLongOfOneTyp ps
all-sides [] h = tt
all-sides (p ∷ ps) h = (h.0.sides, all-sides ps h.1)

all-indexes : (ps : List Pair) → Each IsReadyPair ps → Each (AreVariablesUpTo 3) ps
all-indexes [] h = tt
all-indexes (p ∷ ps) h = (h.0.indexes, all-indexes ps h.1)

pub all-ready : (ps : List Pair) → Each IsReadyPair ps → AreReady 3 ps
all-ready ps h = record { sides = all-sides ps h; indexes = all-indexes ps h }
