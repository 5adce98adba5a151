-- Rules lifted over a prefix.
use Rattle.std.proofs.Common.{◌≡◌, ◌≤◌, ℕ, zero, suc, ◌+◌, List, [], ◌∷◌, map, length, ap, refl, sym, ◌∙◌, arith}
use Rattle.std.proofs.lemmas.Simd.{map-map}
use Rattle.pure_text.specs.Lists.{Each}
use Rattle.pure_definitions.specs.Names.{Label}
use Rattle.pure_definitions.specs.Types.Typ.{Typ, arrow, prop}
use Rattle.pure_definitions.specs.Terms.Term.{Term, Const, Free, Var, Bound, Abs, App}
use Rattle.pure_definitions.specs.Terms.Typing.{HasType}
use Rattle.pure_definitions.specs.Terms.Bounds.{IsClosedUnder, subst_under}
use Rattle.pure_definitions.specs.Terms.Subst.{term_instance}
use Rattle.pure_definitions.specs.Declarations.Decl.{algebra_of}
use Rattle.pure_definitions.specs.Declarations.Certified.{IsCertifiedTyp, HasCertifiedParts}
use Rattle.pure_term_laws.proofs.MapLaws.{place-itself, place-above}
use Rattle.pure_term_laws.proofs.SubstLaws.{identity-respects_sorts, typ_instance-identity}
use Rattle.pure_term_laws.proofs.TypingLaws.{typed-closed}
use Rattle.pure_logic.specs.Connectives.{imp, chain}
use Rattle.pure_logic.specs.Content.{Content, IsContent, IsBelow, IsProposition}
use Rattle.pure_logic.specs.PureContent.{pure_content}
use Rattle.pure_logic.specs.Concludes.{AreRespecting}
use Rattle.pure_logic.specs.Proves.{Proves}
use Rattle.pure_logic.proofs.ConnectiveLaws.{arrow-certified}
use Rattle.pure_logic.proofs.ProvesLaws.{weaker, proved_is_proposition}
use Rattle.pure_logic.proofs.SubstitutionLaws.{instance_is_proved}
use Rattle.pure_goal_laws.specs.Prefix.{Item, Parameter, Hypothesis, behind, parameters}
use Rattle.pure_goal_laws.specs.Lifting.{function_typ, applied_to_bounds, lifted_under, lifted_behind}
use Rattle.pure_goal_laws.proofs.OpeningLaws.{put, put-const, put-free, put-bound, put-app, put-abs, Opens, opens-more, closed, opened-proposition}
use Rattle.pure_goal_laws.proofs.PrefixLaws.{chain_behind}

-- the function applied to fixed variables, of which the last comes first in the list; and the type of functions of them
abbrev applied : List (ℕ × Typ) → Term → Term
applied [] f = f
applied (x ∷ xs) f = App (applied xs f) (Free x.0 x.1)

abbrev applied_typ : List (ℕ × Typ) → Typ → Typ
applied_typ [] T = T
applied_typ (x ∷ xs) T = applied_typ xs (arrow x.1 T)

-- An instance of the last bound variable takes it away: those before it become one lower.
put-one : (n last count : ℕ) (x y i : ℕ) (T V : Typ) → n ≤ last → subst_under n (Free x V) (applied_to_bounds count (last + 1) (Var y i T)) ≡ applied_to_bounds count last (Var y i T)
put-one n last zero x y i T V h = refl
put-one n last (suc count) x y i T V h = λ l. App (put-one n (last + 1) count x y i T V (omega arith) l) (place-above n (Free x V) last h l)

put-applied : (n count : ℕ) (xs : List (ℕ × Typ)) (y i : ℕ) (T : Typ) → length xs ≡ count → put n xs (applied_to_bounds count n (Var y i T)) ≡ applied xs (Var y i T)
put-applied n zero [] y i T h = refl
put-applied n (suc count) (x ∷ xs) y i T h =
    let here : subst_under n (Free x.0 x.1) (applied_to_bounds (suc count) n (Var y i T)) ≡ App (applied_to_bounds count n (Var y i T)) (Free x.0 x.1) =
    λ l. App (put-one n n count x.0 y i T x.1 (omega arith) l) (place-itself n (Free x.0 x.1) l) in
    ap (put n xs) here ∙ (put-app n xs (applied_to_bounds count n (Var y i T)) (Free x.0 x.1) ∙ (λ l. App (put-applied n count xs y i T (omega arith) l) (put-free n xs x.0 x.1 l)))
put-applied n zero (x ∷ xs) y i T h = absurd (omega arith)
put-applied n (suc count) [] y i T h = absurd (omega arith)

-- the map that a lifting is where fixed variables are put for the parameters
abbrev applied_to : List Typ → List (ℕ × Typ) → Term → Term
applied_to Ts xs (Var y i T) = applied xs (Var y i (function_typ Ts T))
applied_to Ts xs t = t

-- A lifted term, with fixed variables in place of the parameters, is an instance of the term.
put-lifted : (Ts : List Typ) (xs : List (ℕ × Typ)) → length xs ≡ length Ts → (n : ℕ) (t : Term) → IsClosedUnder n t → put n xs (lifted_under Ts n t) ≡ term_instance (λ v. v) (applied_to Ts xs) t
put-lifted Ts xs long n (Const c T) h = put-const n xs c T ∙ ap (Const c) (sym (typ_instance-identity T))
put-lifted Ts xs long n (Free y T) h = put-free n xs y T
put-lifted Ts xs long n (Var y i T) h = put-applied n (length Ts) xs y i (function_typ Ts T) long
put-lifted Ts xs long n (Bound p) h = put-bound n xs p h
put-lifted Ts xs long n (Abs T b) h = put-abs n xs T (lifted_under Ts (n + 1) b) ∙ (λ l. Abs (sym (typ_instance-identity T) l) (put-lifted Ts xs long (n + 1) b h l))
put-lifted Ts xs long n (App f a) h = put-app n xs (lifted_under Ts n f) (lifted_under Ts n a) ∙ (λ l. App (put-lifted Ts xs long n f h.0 l) (put-lifted Ts xs long n a h.1 l))

applied-typed : (xs : List (ℕ × Typ)) (f : Term) (T : Typ) → HasType [] f (applied_typ xs T) → HasType [] (applied xs f) T
applied-typed [] f T h = h
applied-typed (x ∷ xs) f T h = (x.1, applied-typed xs f (arrow x.1 T) h, refl)

-- The fixed variables are for parameters of the first types, in front of parameters of the others: as many, of these types, which are certified.
record AreFor (Q : Content) (Ts : List Typ) (xs : List (ℕ × Typ)) (others : List Typ) : Type 0 where
  long : length xs + length others ≡ length Ts
  typs : (T : Typ) → applied_typ xs (function_typ others T) ≡ function_typ Ts T
  certified : Each (λ x. IsCertifiedTyp Q.declarations x.1) xs

applied-parts : (Q : Content) (xs : List (ℕ × Typ)) (f : Term) → Each (λ x. IsCertifiedTyp Q.declarations x.1) xs → HasCertifiedParts Q.declarations f → HasCertifiedParts Q.declarations (applied xs f)
applied-parts Q [] f h k = k
applied-parts Q (x ∷ xs) f h k = (applied-parts Q xs f h.1 k, h.0)

module _ (Q : Content) (q : IsContent Q) (above : IsBelow pure_content Q) where
  applied_typ-certified : (xs : List (ℕ × Typ)) (T : Typ) → Each (λ x. IsCertifiedTyp Q.declarations x.1) xs → IsCertifiedTyp Q.declarations T → IsCertifiedTyp Q.declarations (applied_typ xs T)
  applied_typ-certified [] T h k = k
  applied_typ-certified (x ∷ xs) T h k = applied_typ-certified xs (arrow x.1 T) h.1 (arrow-certified Q above x.1 T h.0 k)

  applied_to-respects : (Ts : List Typ) (xs : List (ℕ × Typ)) → AreFor Q Ts xs [] → AreRespecting Q (λ v. v) (applied_to Ts xs)
  applied_to-respects Ts xs h = record {
    sorts = identity-respects_sorts (algebra_of Q.declarations);
    types = record {
      fixed = λ y T. sym (typ_instance-identity T);
      schematic = λ y i T. rw (typ_instance-identity T) (applied-typed xs (Var y i (function_typ Ts T)) T (sym (h.typs T)));
    };
    certified = record {
      fixed_typ = λ y s c. c;
      schematic_typ = λ y i s c. c;
      fixed = λ y T c. c;
      schematic = λ y i T c. applied-parts Q xs (Var y i (function_typ Ts T)) h.certified (rw (← h.typs T) (applied_typ-certified xs T h.certified c));
    };
  }

  for_opened : (Ts : List Typ) (G : List (ℕ × Typ) → Type 0) (ps : List Item) (hyps : List Term) (xs : List (ℕ × Typ)) → AreFor Q Ts xs (parameters ps) → Opens Q (λ H ys. G ys) ps hyps xs → Opens Q (λ H ys. AreFor Q Ts ys []) ps hyps xs
  for_opened Ts G [] hyps xs f h = f
  for_opened Ts G (Parameter T ∷ ps) hyps xs f h = (
    h.0,
    λ n. for_opened Ts G ps hyps ((n, T) ∷ xs) (record { long = let long : length xs + length (parameters (Parameter T ∷ ps)) ≡ length Ts = f.long in omega arith; typs = f.typs; certified = (h.0, f.certified) }) (h.1 n),
  )
  for_opened Ts G (Hypothesis A ∷ ps) hyps xs f h = (h.0, for_opened Ts G ps (put 0 xs A ∷ hyps) xs f h.1)

  -- What is proved from no hypotheses is proved, lifted, behind the prefix.
  lifted_is_proved : (hyps : List Term) (rests : List Label) (ps : List Item) (D A : Term) → IsProposition Q (behind ps D) → Proves Q [] rests A → Proves Q hyps rests (behind ps (lifted_behind ps A))
  lifted_is_proved hyps rests ps D A h p =
      closed Q rests (lifted_behind ps A) ps hyps []
      (opens-more Q (λ H ys. AreFor Q (parameters ps) ys []) (λ H ys. Proves Q H rests (put 0 ys (lifted_behind ps A))) instance ps hyps []
      (for_opened (parameters ps) (λ ys. IsProposition Q (put 0 ys D)) ps hyps [] (record { long = omega arith; typs = λ T. refl; certified = tt }) (opened-proposition Q q above D ps hyps h)))
    where
      instance : (H : List Term) (ys : List (ℕ × Typ)) → AreFor Q (parameters ps) ys [] → Proves Q H rests (put 0 ys (lifted_behind ps A))
      instance H ys f =
          let without_loose = typed-closed A prop (proved_is_proposition Q q above [] rests A p).typed in
          let long : length ys + length {A = Typ} [] ≡ length (parameters ps) = f.long in
          let made = instance_is_proved Q q (λ v. v) (applied_to (parameters ps) ys) (applied_to-respects (parameters ps) ys f) [] rests A p in
          rw (put-lifted (parameters ps) ys (omega arith) 0 A without_loose) (weaker Q [] H rests rests (term_instance (λ v. v) (applied_to (parameters ps) ys) A) (λ B m. absurd m) (λ l m. m) made)

lifted-chain : (Ts : List Typ) (As : List Term) (B : Term) → lifted_under Ts 0 (chain As B) ≡ chain (map (lifted_under Ts 0) As) (lifted_under Ts 0 B)
lifted-chain Ts [] B = refl
lifted-chain Ts (A ∷ As) B = ap (imp (lifted_under Ts 0 A)) (lifted-chain Ts As B)

pub lifted_rule : (Q : Content) → IsContent Q → IsBelow pure_content Q → (hyps : List Term) (rests : List Label) (ps : List Item) (D : Term) (As : List Term) (B : Term) → IsProposition Q (behind ps D)
    → Proves Q [] rests (chain As B) → Proves Q hyps rests (chain (map (λ A. behind ps (lifted_behind ps A)) As) (behind ps (lifted_behind ps B)))
lifted_rule Q q above hyps rests ps D As B h p =
    let whole = lifted_is_proved Q q above hyps rests ps D (chain As B) h p in
    rw (← map-map (behind ps) (lifted_behind ps) As)
    (chain_behind Q q above hyps rests ps (map (lifted_behind ps) As) (lifted_behind ps B) (rw (lifted-chain (parameters ps) As B) at whole))
