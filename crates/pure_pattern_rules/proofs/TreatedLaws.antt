-- The treatment of a pair, from what is made of its sides.
use Rattle.std.proofs.Common.{◌≡◌, ◌≢◌, ℕ, inl, inr, List, [], ◌∷◌, length, true, false, Bool, Some, None, Result, Ok, Err, nat_eq, ap, refl, sym, subst, ◌∙◌, arith}
use Rattle.std.proofs.lemmas.Bool.{eq-eqb}
use Rattle.std.specs.Prelude.{if◌then◌else◌}
use Rattle.pure_text.specs.Lists.{IsIn}
use Rattle.pure_definitions.specs.Types.Typ.{Typ}
use Rattle.pure_definitions.specs.Terms.Term.{Term, Var}
use Rattle.pure_definitions.specs.Terms.Bounds.{Occurs}
use Rattle.pure_definitions.specs.Terms.Typing.{HasType}
use Rattle.pure_definitions.specs.Reduction.Beta.{IsBetaNormal}
use Rattle.pure_definitions.specs.Reduction.Eta.{IsLongForm}
use Rattle.pure_typ.specs.declared.grow.Grow.{Grow}
use Rattle.pure_typ.specs.declared.grow.Grow.TheVariants.{Big, Memory}
use Rattle.pure_eta.specs.Answer.{IsLongAnswer}
use Rattle.pure_eta.proofs.FormLaws.{each_typed_normal_term_has_long_form}
use Rattle.pure_unify_definitions.specs.Fronts.{head, term_body, is_flexible}
use Rattle.pure_logic.specs.Derivable.{Pair}
use Rattle.pure_unify_definitions.specs.Node.{bind}
use Rattle.pure_pattern_laws.specs.Patterns.{HasPlaces, IsPattern}
use Rattle.pure_pattern_laws.specs.Places.{at_place}
use Rattle.pure_pattern_laws.specs.Treatment as rules
use Rattle.pure_pattern_laws.specs.Treatment.{agreeing_image, left_image, right_image, IsFlexibleSide, on_left, on_right, IsTreated}
use Rattle.pure_pattern_laws.proofs.SomeLaws.{flexible-some}
use Rattle.pure_pattern_rules.specs.Treated.{seen, IsAnswered, IsTreatedAs}
use Rattle.pure_pattern_rules.specs.Flexible.{IsFlexibleAs}
use Rattle.pure_pattern_rules.specs.declared.flexible.Flexible.{Flexible}
use Rattle.pure_pattern_rules.specs.Parts.{IsSet, AreSet, IsHeadTreated, IsMixedTreated}
use Rattle.pure_pattern_rules.specs.declared.treatment.Treatment.{Treatment}

-- An answer with one property has another that follows.
pub answered : (P Q : rules.Treatment → Type 0) (r : Result Treatment Grow) → ((how : rules.Treatment) → P how → Q how) → IsAnswered P r → IsAnswered Q r
answered P Q (Ok how) f h = f (seen how) h
answered P Q (Err Big) f h = (h.0, f (rules.Sets h.0) h.1, h.2)
answered P Q (Err Memory) f h = tt

-- Variables are set to long forms.
pub not_set : (x i : ℕ) (T : Typ) (image : Term) (fault : Grow) → IsLongAnswer image (Err fault) → IsAnswered (IsSet x i T image) (Err fault)
not_set x i T image Big h = (bind x i T h.0 ∷ [], (h.0, h.1, refl), λ within. h.2 within.0)
not_set x i T image Memory h = tt

module _ (x i : ℕ) (T : Typ) (image : Term) (y j : ℕ) (U : Typ) (other : Term) where
  pub first_not_set : (fault : Grow) → IsLongAnswer image (Err fault) → (V : Typ) × HasType [] other V → IsBetaNormal other → IsAnswered (AreSet x i T image y j U other) (Err fault)
  first_not_set Big h typed normal =
      let w = each_typed_normal_term_has_long_form other typed.0 typed.1 normal in
      (bind x i T h.0 ∷ bind y j U w.0 ∷ [], (h.0, w.0, h.1, w.1, refl), λ within. h.2 within.0)
  first_not_set Memory h typed normal = tt

  pub second_not_set : (u : Term) → IsLongForm image u → (fault : Grow) → IsLongAnswer other (Err fault) → IsAnswered (AreSet x i T image y j U other) (Err fault)
  second_not_set u long Big h = (bind x i T u ∷ bind y j U h.0 ∷ [], (u, h.0, long, h.1, refl), λ within. h.2 within.1.0)
  second_not_set u long Memory h = tt

-- Two flexible sides, which are held as f and g.
module _ (index : ℕ) (p : Pair) (l r : Term) (f g : Flexible) where
  pub one_treated : p.left ≡ l → p.right ≡ r → IsFlexibleAs l f → IsFlexibleAs r g → (answer : Result Treatment Grow) → p.left ≢ p.right → Var f.name f.index f.typ ≡ Var g.name g.index g.typ
      → IsAnswered (IsSet f.name f.index f.typ (agreeing_image index f.typ f.places.items g.places.items)) answer → IsTreatedAs index p answer
  one_treated e k left right answer n same h =
      answered (IsSet f.name f.index f.typ (agreeing_image index f.typ f.places.items g.places.items)) (IsTreated index p.left p.right) answer set h
    where
      set : (how : rules.Treatment) → IsSet f.name f.index f.typ (agreeing_image index f.typ f.places.items g.places.items) how → IsTreated index p.left p.right how
      set how s =
          subst (IsTreated index p.left p.right) (sym s.2)
          (IsTreated.one_variable n (subst (λ (t : Term). IsFlexibleAs t f) (sym e) left) (record { variable = ap head k ∙ (right.variable ∙ sym same); places = subst (λ (t : Term). HasPlaces (term_body t) g.places.items) (sym k) right.places }) s.1)

  pub two_treated : p.left ≡ l → p.right ≡ r → IsFlexibleAs l f → IsFlexibleAs r g → (answer : Result Treatment Grow) → Var f.name f.index f.typ ≢ Var g.name g.index g.typ
      → IsAnswered (AreSet f.name f.index f.typ (left_image index f.typ f.places.items g.places.items) g.name g.index g.typ (right_image index g.typ f.places.items g.places.items)) answer → IsTreatedAs index p answer
  two_treated e k left right answer n h =
      answered (AreSet f.name f.index f.typ (left_image index f.typ f.places.items g.places.items) g.name g.index g.typ (right_image index g.typ f.places.items g.places.items)) (IsTreated index p.left p.right) answer set h
    where
      set : (how : rules.Treatment) → AreSet f.name f.index f.typ (left_image index f.typ f.places.items g.places.items) g.name g.index g.typ (right_image index g.typ f.places.items g.places.items) how → IsTreated index p.left p.right how
      set how s =
          subst (IsTreated index p.left p.right) (sym s.4) (IsTreated.two_variables (subst (λ (t : Term). IsFlexibleAs t f) (sym e) left) (subst (λ (t : Term). IsFlexibleAs t g) (sym k) right) n s.2 s.3)

-- A flexible and a rigid side.
head-treated : (index : ℕ) (f k : Term) (x i : ℕ) (T : Typ) (zs : List ℕ) → IsFlexibleSide f x i T zs → ¬ Occurs (Var x i T) k → (how : rules.Treatment) → IsHeadTreated index x i T zs (head k) how → IsMixedTreated index f k how
head-treated index f k x i T zs side absent how (IsHeadTreated.escapes e out) = λ l r mixed. IsTreated.escapes mixed side e out
head-treated index f k x i T zs side absent how (IsHeadTreated.imitates written set) = λ l r mixed. subst (IsTreated index l r) (sym set.2) (IsTreated.imitates mixed side absent written set.1)

pub head_decided : (index : ℕ) (f k v h : Term) (held : Flexible) → v ≡ head f → h ≡ head k → IsFlexibleAs f held → (answer : Result Treatment Grow) → ¬ Occurs v k → IsAnswered (IsHeadTreated index held.name held.index held.typ held.places.items h) answer → IsAnswered (IsMixedTreated index f k) answer
head_decided index f k v h held e same side answer absent told =
    let none : ¬ Occurs (Var held.name held.index held.typ) k = subst (λ (t : Term). ¬ Occurs t k) (e ∙ side.variable) absent in
    let moved = subst (λ (t : Term). IsAnswered (IsHeadTreated index held.name held.index held.typ held.places.items t) answer) same told in
    answered (IsHeadTreated index held.name held.index held.typ held.places.items (head k)) (IsMixedTreated index f k) answer (head-treated index f k held.name held.index held.typ held.places.items side none) moved

pub occurs_decided : (index : ℕ) (f k : Term) → IsPattern f → is_flexible f ≡ true → Occurs (head f) k → IsMixedTreated index f k rules.Never
occurs_decided index f k p e o =
    let v = flexible-some f p e in
    λ l r mixed. IsTreated.occurs mixed v.4 (subst (λ (u : Term). Occurs u k) v.4.variable o)

-- The whole pair.
module _ (index : ℕ) (p : Pair) (l r : Term) where
  pub equal_treated : (pairs : List Pair) → p.left ≡ l → p.right ≡ r → l ≡ r → pairs ≡ [] → IsTreated index p.left p.right (rules.Becomes pairs)
  equal_treated pairs e f same none = subst (λ (ps : List Pair). IsTreated index p.left p.right (rules.Becomes ps)) (sym none) (IsTreated.equal (e ∙ (same ∙ sym f)))

  pub left_mixed : (answer : Result Treatment Grow) → p.left ≡ l → p.right ≡ r → is_flexible l ≡ true → is_flexible r ≡ false → IsAnswered (IsMixedTreated index l r) answer → IsTreatedAs index p answer
  left_mixed answer e f left right h =
      answered (IsMixedTreated index l r) (IsTreated index p.left p.right) answer (λ how k. k p.left p.right (on_left (ap is_flexible e ∙ left) (ap is_flexible f ∙ right) (sym e) (sym f))) h

  pub right_mixed : (answer : Result Treatment Grow) → p.left ≡ l → p.right ≡ r → is_flexible l ≡ false → is_flexible r ≡ true → IsAnswered (IsMixedTreated index r l) answer → IsTreatedAs index p answer
  right_mixed answer e f left right h =
      answered (IsMixedTreated index r l) (IsTreated index p.left p.right) answer (λ how k. k p.left p.right (on_right (ap is_flexible e ∙ left) (ap is_flexible f ∙ right) (sym f) (sym e))) h

-- What stands at no place of a list of the same length stands not in the first.
pub stands_not : {A : Type 0} (p : ℕ) (zs : List ℕ) (us : List A) → length zs ≡ length us → at_place p zs us ≡ None → ¬ IsIn p zs
stands_not p [] us e none m = absurd m
stands_not p (z ∷ zs) [] e none m = absurd (omega arith)
stands_not {A = A} p (z ∷ zs) (u ∷ us) e none m = by_cases (nat_eq p z) refl none m (λ k. stands_not p zs us (omega arith) k)
  where
    by_cases : (b : Bool) → nat_eq p z ≡ b → (if b then Some u else at_place p zs us) ≡ None → IsIn p (z ∷ zs) → (at_place p zs us ≡ None → ¬ IsIn p zs) → ⊥
    by_cases true t k m rest = absurd (cc)
    by_cases false t k (inl s) rest = (let yes = eq-eqb p z s in absurd (cc))
    by_cases false t k (inr m) rest = rest k m
