-- Prefixes as the program holds them, read and built.
use Rattle.std.proofs.Common.{◌≡◌, ◌≢◌, ℕ, zero, suc, ◌+◌, ◌<◌, List, [], ◌∷◌, ◌++◌, length, take, get_or, refl, ap, sym, ◌∙◌, arith, append_assoc}
use Rattle.pure_definitions.specs.Types.Typ.{Typ}
use Rattle.pure_definitions.specs.Terms.Term.{Term, Abs}
use Rattle.pure_definitions.specs.Terms.Typing.{node_count}
use Rattle.pure_logic.specs.Connectives.{all, all_of, imp}
use Rattle.pure_theorem.specs.Shapes.{IsNoQuantification, IsNoImplication}
use Rattle.pure_goal_laws.specs.Prefix.{Item, Parameter, Hypothesis, behind, parameters}
use Rattle.pure_goal_rules.specs.Shown.{seen, shown, IsNoQuantified, IsReadBehind}
use Rattle.pure_goal_rules.specs.declared.item.Item as held

pub shorter : {X : Type 0} (xs : List X) (y : X) (ys : List X) → xs ≡ y ∷ ys → length ys < length xs
shorter xs y ys e = let counted = ap length e in omega (arith, counted)

-- Quantifications.
pub quantified-none : (t : Term) → IsNoQuantification t → IsNoQuantified t
quantified-none t h = λ T B e. h T (Abs T B) e

all_of-parts : (T U : Typ) (f g : Term) → all_of T f ≡ all_of U g → (T ≡ U) × (f ≡ g)
all_of-parts T U f g e = (cc, cc)

pub quantified-other : (t : Term) (D : Typ) (f : Term) → t ≡ all_of D f → ((B : Term) → f ≢ Abs D B) → IsNoQuantified t
quantified-other t D f e other = λ T B d.
    let parts = all_of-parts D T f (Abs T B) (sym e ∙ d) in
    other B (parts.1 ∙ ap (λ (U : Typ). Abs U B) (sym parts.0))

pub quantified-at : (t : Term) (D T : Typ) (f b : Term) → t ≡ all_of D f → f ≡ Abs T b → D ≡ T → t ≡ all D b
quantified-at t D T f b e d same = e ∙ (ap (all_of D) d ∙ ap (λ (U : Typ). all_of D (Abs U b)) (sym same))

abs-typs : (T U : Typ) (b c : Term) → Abs T b ≡ Abs U c → T ≡ U
abs-typs T U b c e = cc

pub quantified-typs : (t : Term) (D T : Typ) (f b : Term) → t ≡ all_of D f → f ≡ Abs T b → D ≢ T → IsNoQuantified t
quantified-typs t D T f b e d differ = quantified-other t D f e (λ B g. differ (sym (abs-typs T D b B (sym d ∙ g))))

-- A proposition is read item by item.
pub read-end : (t : Term) (old : List Item) → IsNoImplication t → IsNoQuantified t → IsReadBehind t old old t
read-end t old other none = record { further = []; are = nothing-more old; read = record { stands = refl; ends = record { no_quantification = none; no_implication = other } } }
  where
    nothing-more : (xs : List Item) → xs ≡ xs ++ []
    nothing-more [] = refl
    nothing-more (x ∷ xs) = ap (λ (ys : List Item). x ∷ ys) (nothing-more xs)

pub read-further : (t rest : Term) (item : Item) (old mid new : List Item) (C : Term) → ((D : Term) → rest ≡ D → t ≡ behind (item ∷ []) D) → mid ≡ old ++ item ∷ [] → IsReadBehind rest mid new C → IsReadBehind t old new C
read-further t rest item old mid new C stands e r = record {
  further = item ∷ r.further;
  are = r.are ∙ (ap (λ (xs : List Item). xs ++ r.further) e ∙ append_assoc old (item ∷ []) r.further);
  read = record { stands = stands (behind r.further C) r.read.stands ∙ one-behind item r.further C; ends = r.read.ends };
}
  where
    one-behind : (item : Item) (ps : List Item) (C : Term) → behind (item ∷ []) (behind ps C) ≡ behind (item ∷ ps) C
    one-behind (Parameter T) ps C = refl
    one-behind (Hypothesis A) ps C = refl

pub imp-smaller : (t A B : Term) → t ≡ imp A B → node_count B < node_count t
imp-smaller t A B e = let same = ap node_count e in omega (arith, same)

pub all-smaller : (t : Term) (T : Typ) (B : Term) → t ≡ all T B → node_count B < node_count t
all-smaller t T B e = let same = ap node_count e in omega (arith, same)

-- Parameters are counted item by item.
counted-first : (p : Item) (ps : List Item) → length (parameters (p ∷ ps)) ≡ length (parameters (p ∷ [])) + length (parameters ps)
counted-first (Parameter T) ps = omega arith
counted-first (Hypothesis A) ps = omega arith

counted-next : (items : List held.Item) (i : ℕ) (x : held.Item) → i < length items → x ≡ get_or items i x → length (parameters (shown (take (i + 1) items))) ≡ length (parameters (shown (take i items))) + length (parameters (seen x ∷ []))
counted-next [] i x l e = absurd (omega arith)
counted-next (y ∷ ys) zero x l e = let same = ap (λ (z : held.Item). length (parameters (seen z ∷ []))) e in omega (arith, same)
counted-next (y ∷ ys) (suc i) x l e =
    let next : suc i + 1 ≡ suc (i + 1) = omega arith in
    let inner = counted-next ys i x (omega arith) e in
    let long = counted-first (seen y) (shown (take (i + 1) ys)) in
    let short = counted-first (seen y) (shown (take i ys)) in
    rw next (omega (arith, inner, long, short))

pub counted_turn : (items : List held.Item) (i : ℕ) (x : held.Item) (count next : ℕ) → i < length items → x ≡ get_or items i x → next ≡ count + length (parameters (seen x ∷ [])) → count ≡ length (parameters (shown (take i items))) → next ≡ length (parameters (shown (take (i + 1) items)))
counted_turn items i x count next l e n c = let more = counted-next items i x l e in omega (arith, more, n, c)
