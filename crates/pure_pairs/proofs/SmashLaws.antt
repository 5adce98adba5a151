-- What smashed theorems are: derivable. A term with a variable become a constant function is equated with an instance, and both sides of a pair become the same.
use Rattle.std.proofs.Common.{◌≡◌, ◌≢◌, ◌⊎◌, ◌≤◌, ℕ, zero, suc, ◌+◌, Bool, true, false, List, [], ◌∷◌, ◌++◌, map, length, drop, inl, inr, refl, ap, sym, subst, ◌∙◌, arith}
use Rattle.std.specs.Prelude.{if◌then◌else◌, Result, Ok, Err, IfOk}
use Rattle.std.proofs.lemmas.List.{length-append}
use Rattle.pure_text.specs.Lists.{IsIn, Each}
use Rattle.pure_text.proofs.ListLaws.{each_of, each_at, each_imply, in-append_left, in-append_right, in-map, in_split}
use Rattle.pure_definitions.specs.Names.{Label}
use Rattle.pure_definitions.specs.Types.Typ.{Typ, Con, none, also, arrow, prop}
use Rattle.pure_definitions.specs.Terms.Term.{Term, Const, Free, Var, Bound, Abs, App, term_eq}
use Rattle.pure_definitions.specs.Terms.Typing.{HasType}
use Rattle.pure_definitions.specs.Terms.Bounds.{subst_under}
use Rattle.pure_definitions.specs.Terms.Conditions.{variable_typ}
use Rattle.pure_definitions.specs.Terms.Subst.{term_instance, inst_term, typ_instance}
use Rattle.pure_definitions.specs.Declarations.Decl.{Decl}
use Rattle.pure_definitions.specs.Declarations.Certified.{IsCertifiedTyp, HasCertifiedParts}
use Rattle.pure_definitions.specs.Models.Equality.{term_eq-same, term_eq-itself}
use Rattle.pure_term_laws.specs.LawsMaps.{sent}
use Rattle.pure_term_laws.proofs.SubstLaws.{typ_instance-identity}
use Rattle.pure_logic.specs.Content.{Content, IsContent, IsBelow, IsCertifiedOf, IsProposition}
use Rattle.pure_logic.specs.PureContent.{pure_content}
use Rattle.pure_logic.specs.Derivable.{Pair, Theorem, IsDerivable}
use Rattle.pure_logic.specs.Proves.{Proves}
use Rattle.pure_logic.proofs.ConnectiveLaws.{certified_of}
use Rattle.pure_logic.proofs.MapLaws.{identity_respects, sent-respects}
use Rattle.pure_logic.specs.Tree.{hyps_of}
use Rattle.pure_logic.proofs.PropositionLaws.{conclusion_is_proposition}
use Rattle.pure_logic.proofs.ProvesLaws.{assumed, weaker, chain_is_proved, end_of_chain_is_proved, derivable-proved, proved-derivable, proved_is_proposition}
use Rattle.pure_logic.proofs.SubstitutionLaws.{instance_is_derivable}
use Rattle.pure_logic.proofs.TheoremMapLaws.{weaker_is_derivable}
use Rattle.pure_equation_laws.specs.Equated.{IsTypedUnder, AreEquated, IsPairEquated, same, back, through, beta, pair, abstraction, application}
use Rattle.pure_equation_laws.specs.Laws.Proved.{IsCertifiedPair}
use Rattle.pure_equation_laws.proofs.SidesLaws.{typed-abstraction, typed-application, typed-function, typed-argument, typed-body, equated_are_typed}
use Rattle.pure_equation_laws.proofs.EquatedLaws.{equated_proposition_is_proved}
use Rattle.pure_equation_laws.proofs.PairsLaws.{pairs_are_replaced, proposition_is_replaced}
use Rattle.pure_goal_laws.proofs.PairLaws.{dropped_is_derivable}
use Rattle.pure_goal_laws.proofs.StateLaws.{pairs_are_certified}
use Rattle.pure_unify_definitions.specs.Fronts.{front, head, arguments, below, domains, range, is_schematic, is_flexible}
use Rattle.pure_unify_definitions.specs.Children.{IsFlexFlex}
use Rattle.pure_pairs.proofs.TrivialLaws.{equal-equated}
use Rattle.pure_pairs.specs.Smash.{theorem_index_above, with_constant, with_constants, pair_with, result_typ, fresh_variable, IsWithConstants, IsOneFewer, Smashes, no_pair, trivial, constants}

-- The constant function has no loose bound variable.
below-subst : (Ts : List Typ) (n : ℕ) (a : Term) (x i : ℕ) (R : Typ) → subst_under n a (below Ts (Var x i R)) ≡ below Ts (Var x i R)
below-subst [] n a x i R = refl
below-subst (U ∷ Us) n a x i R = ap (Abs U) (below-subst Us (n + 1) a x i R)

drop_next : (n : ℕ) (xs : List Typ) (y : Typ) (ys : List Typ) → y ∷ ys ≡ drop n xs → ys ≡ drop (suc n) xs
drop_next zero [] y ys e = cc
drop_next zero (x ∷ xs) y ys e = cc
drop_next (suc n) [] y ys e = cc
drop_next (suc n) (x ∷ xs) y ys e = drop_next n xs y ys e

range-ends : (T : Typ) → domains (range T) ≡ []
range-ends (Con zero (also A (also B none))) = range-ends B
range-ends T = refl

record Headed (T F : Typ) (count : ℕ) : Type 0 where
  left : domains T ≡ drop count (domains F)
  result : range T ≡ range F

-- The type of a variable's applications: what is left of the variable's own.
headed : (bs : List Typ) (t : Term) (T : Typ) (x i : ℕ) (F : Typ) → HasType bs t T → term_eq (Var x i F) (front t) ≡ true → Headed T F (length (arguments t))
headed bs (Const c U) T x i F h e = absurd (let no : false ≡ true = e in cc)
headed bs (Free y U) T x i F h e = absurd (let no : false ≡ true = e in cc)
headed bs (Var y j U) T x i F h e =
    let own : F ≡ U = ap variable_typ (term_eq-same (Var x i F) (Var y j U) e) in
    record { left = ap domains (sym (own ∙ h)); result = ap range (sym (own ∙ h)) }
headed bs (Bound n) T x i F h e = absurd (let no : false ≡ true = e in cc)
headed bs (Abs V b) T x i F h e = absurd (let no : false ≡ true = e in cc)
headed bs (App f a) T x i F h e =
    let before = headed bs f (arrow h.0 T) x i F h.1 e in
    let count : length (arguments f ++ a ∷ []) ≡ suc (length (arguments f)) = length-append (arguments f) (a ∷ []) ∙ (omega arith) in
    record { left = drop_next (length (arguments f)) (domains F) h.0 (domains T) before.left ∙ ap (λ n. drop n (domains F)) (sym count); result = before.result }

-- A map of variables alone leaves types as they are.
instance-put : (terms : Term → Term) (t : Term) → term_instance (λ T. T) terms t ≡ inst_term terms t
instance-put terms (Const c T) = ap (Const c) (typ_instance-identity T)
instance-put terms (Free y T) = refl
instance-put terms (Var y j T) = refl
instance-put terms (Bound n) = refl
instance-put terms (Abs T b) = λ l. Abs (typ_instance-identity T l) (instance-put terms b l)
instance-put terms (App f a) = λ l. App (instance-put terms f l) (instance-put terms a l)

-- A variable `Var x i F` become the constant function that gives c, the variable `Var y j R`; R is the type in which F ends.
module _ (ds : List Decl) (pairs : List Pair) (x i : ℕ) (F : Typ) (y j : ℕ) (R : Typ) (certified : IsCertifiedTyp ds F) (ends : range F ≡ R) where
  abbrev v : Term
  v = Var x i F

  abbrev c : Term
  c = Var y j R

  abbrev constant : Term
  constant = below (domains F) c

  abbrev put : Term → Term
  put = inst_term (sent v constant (λ u. u))

  abbrev reduced : Term → Term
  reduced = with_constant v (domains F) c

  below-typed : (bs : List Typ) (G : Typ) → IsCertifiedTyp ds G → range G ≡ R → IsTypedUnder ds bs (below (domains G) c) G
  below-typed bs (Con zero (also A (also B none))) g e = typed-abstraction ds bs A B (below (domains B) c) g.1.0 (below-typed (A ∷ bs) B g.1.1.0 e)
  below-typed bs G g e = record { parts = subst (IsCertifiedTyp ds) e g; typed = sym e }

  put-chosen : (bs : List Typ) (b : Bool) (u : Term) (T : Typ) → (b ≡ true → F ≡ T) → IsTypedUnder ds bs u T → IsTypedUnder ds bs (if b then constant else u) T
  put-chosen bs true u T is h = subst (IsTypedUnder ds bs constant) (is refl) (below-typed bs F certified ends)
  put-chosen bs false u T is h = h

  put-typed : (bs : List Typ) (t : Term) (T : Typ) → IsTypedUnder ds bs t T → IsTypedUnder ds bs (put t) T
  put-typed bs (Const d U) T h = h
  put-typed bs (Free z U) T h = h
  put-typed bs (Var z k U) T h = put-chosen bs (term_eq v (Var z k U)) (Var z k U) T (λ e. ap variable_typ (term_eq-same v (Var z k U) e) ∙ h.typed) h
  put-typed bs (Bound n) T h = h
  put-typed bs (Abs V b) T h =
      let inner = put-typed (V ∷ bs) b h.typed.0 (typed-body ds bs T V b h) in
      record { parts = (h.parts.0, inner.parts); typed = (h.typed.0, inner.typed, h.typed.2) }
  put-typed bs (App f a) T h = typed-application ds bs h.typed.0 T (put f) (put a) (put-typed bs f (arrow h.typed.0 T) (typed-function ds bs T f a h)) (put-typed bs a h.typed.0 (typed-argument ds bs T f a h))

  -- What the variable is applied to is dropped.
  applied-equated : (bs : List Typ) (t : Term) (T : Typ) → IsTypedUnder ds bs t T → term_eq v (front t) ≡ true → AreEquated ds pairs bs T (put t) (below (domains T) c)
  applied-equated bs (Const d U) T h e = absurd (let no : false ≡ true = e in cc)
  applied-equated bs (Free z U) T h e = absurd (let no : false ≡ true = e in cc)
  applied-equated bs (Bound n) T h e = absurd (let no : false ≡ true = e in cc)
  applied-equated bs (Abs V b) T h e = absurd (let no : false ≡ true = e in cc)
  applied-equated bs (Var z k U) T h e =
      let own : F ≡ T = ap variable_typ (term_eq-same v (Var z k U) e) ∙ h.typed in
      let itself : AreEquated ds pairs bs T constant constant = same (subst (IsTypedUnder ds bs constant) own (below-typed bs F certified ends)) in
      rw e (subst (λ (G : Typ). AreEquated ds pairs bs T constant (below (domains G) c)) own itself)
  applied-equated bs (App f a) T h e =
      let A = h.typed.0 in
      let function = applied-equated bs f (arrow A T) (typed-function ds bs T f a h) e in
      let argument = put-typed bs a A (typed-argument ds bs T f a h) in
      let redex = typed-application ds bs A T (Abs A (below (domains T) c)) (put a) (equated_are_typed ds pairs bs (arrow A T) (put f) (Abs A (below (domains T) c)) function).1 argument in
      let contracted = subst (λ (u : Term). AreEquated ds pairs bs T (App (Abs A (below (domains T) c)) (put a)) u) (below-subst (domains T) 0 (put a) y j R) (beta redex) in
      through (application function (same argument)) contracted

  application-equated : (bs : List Typ) (f a : Term) (T : Typ) → IsTypedUnder ds bs (App f a) T → AreEquated ds pairs bs T (put (App f a)) (App (reduced f) (reduced a)) → (b : Bool) → term_eq v (front f) ≡ b
      → AreEquated ds pairs bs T (put (App f a)) (if b then below (drop (length (arguments f) + 1) (domains F)) c else App (reduced f) (reduced a))
  application-equated bs f a T h parts true e =
      let is = headed bs (App f a) T x i F h.typed e in
      let count : length (arguments f ++ a ∷ []) ≡ length (arguments f) + 1 = length-append (arguments f) (a ∷ []) in
      subst (λ (Ts : List Typ). AreEquated ds pairs bs T (put (App f a)) (below Ts c)) (is.left ∙ ap (λ n. drop n (domains F)) count) (applied-equated bs (App f a) T h e)
  application-equated bs f a T h parts false e = parts

  -- So the reduced term is equated with the instance.
  reduced-equated : (bs : List Typ) (t : Term) (T : Typ) → IsTypedUnder ds bs t T → AreEquated ds pairs bs T (put t) (reduced t)
  reduced-equated bs (Const d U) T h = same h
  reduced-equated bs (Free z U) T h = same h
  reduced-equated bs (Bound n) T h = same h
  reduced-equated bs (Var z k U) T h = same (put-typed bs (Var z k U) T h)
  reduced-equated bs (Abs V b) T h =
      let inner = reduced-equated (V ∷ bs) b h.typed.0 (typed-body ds bs T V b h) in
      subst (λ (X : Typ). AreEquated ds pairs bs X (Abs V (put b)) (Abs V (reduced b))) h.typed.2 (abstraction h.parts.0 inner)
  reduced-equated bs (App f a) T h =
      let A = h.typed.0 in
      application-equated bs f a T h (application (reduced-equated bs f (arrow A T) (typed-function ds bs T f a h)) (reduced-equated bs a A (typed-argument ds bs T f a h))) (term_eq v (front f)) refl

  reduced-typed : (bs : List Typ) (t : Term) (T : Typ) → IsTypedUnder ds bs t T → IsTypedUnder ds bs (reduced t) T
  reduced-typed bs t T h = (equated_are_typed ds pairs bs T (put t) (reduced t) (reduced-equated bs t T h)).1

  -- A term whose head is the variable becomes the constant function of its type.
  flexible-reduced : (bs : List Typ) (t : Term) (T : Typ) → HasType bs t T → term_eq v (head t) ≡ true → reduced t ≡ below (domains T) c
  flexible-reduced bs (Const d U) T h e = absurd (let no : false ≡ true = e in cc)
  flexible-reduced bs (Free z U) T h e = absurd (let no : false ≡ true = e in cc)
  flexible-reduced bs (Bound n) T h e = absurd (let no : false ≡ true = e in cc)
  flexible-reduced bs (Var z k U) T h e =
      let own : F ≡ T = ap variable_typ (term_eq-same v (Var z k U) e) ∙ h in
      rw e (ap (λ (G : Typ). below (domains G) c) own)
  flexible-reduced bs (Abs V b) T h e = ap (Abs V) (flexible-reduced (V ∷ bs) b h.0 h.1 e) ∙ ap (λ (G : Typ). below (domains G) c) h.2
  flexible-reduced bs (App f a) T h e =
      let is = headed bs (App f a) T x i F h e in
      let count : length (arguments f ++ a ∷ []) ≡ length (arguments f) + 1 = length-append (arguments f) (a ∷ []) in
      rw e (ap (λ (Ts : List Typ). below Ts c) (sym (is.left ∙ ap (λ n. drop n (domains F)) count)))

-- What is below abstractions stays as it is where a variable whose type ends as R's does is put for another.
constant-kept : (v : Term) (y j : ℕ) (R : Typ) → domains R ≡ [] → (Ts Us : List Typ) → (term_eq v (Var y j R) ≡ true → Ts ≡ []) → with_constant v Ts (Var y j R) (below Us (Var y j R)) ≡ below Us (Var y j R)
constant-kept w y j R ends Ts [] at = by (term_eq w (Var y j R)) at
  where
    by : (b : Bool) → (b ≡ true → Ts ≡ []) → (if b then below Ts (Var y j R) else Var y j R) ≡ Var y j R
    by true at = rw (at refl) refl
    by false at = refl
constant-kept w y j R ends Ts (U ∷ Us) at = ap (Abs U) (constant-kept w y j R ends Ts Us at)

-- A head that is another variable stays.
front-kept : (v : Term) (Ts : List Typ) (c f : Term) → term_eq v (front f) ≡ false → is_schematic (front f) ≡ true → front (with_constant v Ts c f) ≡ front f
front-kept v Ts c (Const d U) e is = refl
front-kept v Ts c (Free z U) e is = refl
front-kept v Ts c (Bound n) e is = refl
front-kept v Ts c (Abs V b) e is = absurd (let no : false ≡ true = is in cc)
front-kept v Ts c (Var z k U) e is = rw e refl
front-kept v Ts c (App f a) e is = rw e (front-kept v Ts c f e is)

head-kept : (v : Term) (Ts : List Typ) (c t : Term) → term_eq v (head t) ≡ false → is_schematic (head t) ≡ true → head (with_constant v Ts c t) ≡ head t
head-kept v Ts c (Const d U) e is = refl
head-kept v Ts c (Free z U) e is = refl
head-kept v Ts c (Bound n) e is = refl
head-kept v Ts c (Abs V b) e is = head-kept v Ts c b e is
head-kept v Ts c (Var z k U) e is = rw e refl
head-kept v Ts c (App f a) e is = rw e (front-kept v Ts c f e is)

-- Flexible terms stay flexible.
below-head : (Ts : List Typ) (y j : ℕ) (R : Typ) → is_flexible (below Ts (Var y j R)) ≡ true
below-head [] y j R = refl
below-head (T ∷ Ts) y j R = below-head Ts y j R

flexible-kept : (v : Term) (Ts : List Typ) (y j : ℕ) (R : Typ) (t : Term) → is_flexible t ≡ true → is_flexible (with_constant v Ts (Var y j R) t) ≡ true
flexible-kept v Ts y j R (Const d U) is = absurd (let no : false ≡ true = is in cc)
flexible-kept v Ts y j R (Free z U) is = absurd (let no : false ≡ true = is in cc)
flexible-kept v Ts y j R (Bound n) is = absurd (let no : false ≡ true = is in cc)
flexible-kept v Ts y j R (Abs V b) is = flexible-kept v Ts y j R b is
flexible-kept v Ts y j R (Var z k U) is = by (term_eq v (Var z k U))
  where
    by : (b : Bool) → is_flexible (if b then below Ts (Var y j R) else Var z k U) ≡ true
    by true = below-head Ts y j R
    by false = refl
flexible-kept v Ts y j R (App f a) is = by (term_eq v (front f)) refl
  where
    by : (b : Bool) → term_eq v (front f) ≡ b → is_flexible (if b then below (drop (length (arguments f) + 1) Ts) (Var y j R) else App (with_constant v Ts (Var y j R) f) (with_constant v Ts (Var y j R) a)) ≡ true
    by true e = below-head (drop (length (arguments f) + 1) Ts) y j R
    by false e = ap is_schematic (front-kept v Ts (Var y j R) f e is) ∙ is

-- A schematic variable is one.
record Variable (t : Term) : Type 0 where
  name : ℕ
  index : ℕ
  typ : Typ
  is : t ≡ Var name index typ

schematic : (t : Term) → is_schematic t ≡ true → Variable t
schematic (Var x i T) e = record { name = x; index = i; typ = T; is = refl }
schematic (Const d U) e = absurd (let no : false ≡ true = e in cc)
schematic (Free z U) e = absurd (let no : false ≡ true = e in cc)
schematic (Bound n) e = absurd (let no : false ≡ true = e in cc)
schematic (Abs V b) e = absurd (let no : false ≡ true = e in cc)
schematic (App f a) e = absurd (let no : false ≡ true = e in cc)

-- What is in a head, and in what type its applications end.
front-parts : (ds : List Decl) (t : Term) → HasCertifiedParts ds t → HasCertifiedParts ds (front t)
front-parts ds (App f a) h = front-parts ds f h.0
front-parts ds (Const d U) h = h
front-parts ds (Free z U) h = h
front-parts ds (Var z k U) h = h
front-parts ds (Bound n) h = h
front-parts ds (Abs V b) h = h

head-parts : (ds : List Decl) (t : Term) → HasCertifiedParts ds t → HasCertifiedParts ds (head t)
head-parts ds (Abs V b) h = head-parts ds b h.1
head-parts ds (App f a) h = front-parts ds (App f a) h
head-parts ds (Const d U) h = h
head-parts ds (Free z U) h = h
head-parts ds (Var z k U) h = h
head-parts ds (Bound n) h = h

head-ends : (bs : List Typ) (t : Term) (T : Typ) (x i : ℕ) (F : Typ) → HasType bs t T → term_eq (Var x i F) (head t) ≡ true → range F ≡ range T
head-ends bs (Abs V b) T x i F h e = head-ends (V ∷ bs) b h.0 x i F h.1 e ∙ ap range h.2
head-ends bs (App f a) T x i F h e = sym (headed bs (App f a) T x i F h e).result
head-ends bs (Const d U) T x i F h e = sym (headed bs (Const d U) T x i F h e).result
head-ends bs (Free z U) T x i F h e = sym (headed bs (Free z U) T x i F h e).result
head-ends bs (Var z k U) T x i F h e = sym (headed bs (Var z k U) T x i F h e).result
head-ends bs (Bound n) T x i F h e = sym (headed bs (Bound n) T x i F h e).result

-- Flexible pairs stay flexible where the variables of one become a constant function.
flexible-pair : (p q : Pair) (n : ℕ) → IsFlexFlex q → IsFlexFlex (pair_with p (Var 0 n (result_typ p)) q)
flexible-pair p q n h =
    let c_typ = result_typ p in
    let twice : (t : Term) → is_flexible t ≡ true → is_flexible (with_constants p (Var 0 n c_typ) t) ≡ true =
    λ t e. flexible-kept (head p.right) (domains (variable_typ (head p.right))) 0 n c_typ (with_constant (head p.left) (domains (variable_typ (head p.left))) (Var 0 n c_typ) t)
    (flexible-kept (head p.left) (domains (variable_typ (head p.left))) 0 n c_typ t e) in
    record { left = twice q.left h.left; right = twice q.right h.right }

pub flexible-pairs : (p : Pair) (n : ℕ) (qs : List Pair) → Each IsFlexFlex qs → Each IsFlexFlex (map (pair_with p (Var 0 n (result_typ p))) qs)
flexible-pairs p n [] h = tt
flexible-pairs p n (q ∷ qs) h = (flexible-pair p q n h.0, flexible-pairs p n qs h.1)

-- Lists under a map.
each-map : {A B : Type 0} (f : A → B) (P : B → Type 0) (xs : List A) → Each (λ x. P (f x)) xs → Each P (map f xs)
each-map f P [] h = tt
each-map f P (x ∷ xs) h = (h.0, each-map f P xs h.1)

map-map : {A B C : Type 0} (f : A → B) (g : B → C) (xs : List A) → map g (map f xs) ≡ map (λ x. g (f x)) xs
map-map f g [] = refl
map-map f g (x ∷ xs) = ap (λ ys. g (f x) ∷ ys) (map-map f g xs)

in_mapped : {A B : Type 0} (f : A → B) (y : B) (xs : List A) → IsIn y (map f xs) → (x : A) × IsIn x xs × (y ≡ f x)
in_mapped f y [] m = absurd m
in_mapped f y (x ∷ xs) (inl e) = (x, inl refl, e)
in_mapped f y (x ∷ xs) (inr m) = let rest = in_mapped f y xs m in (rest.0, inr rest.1, rest.2)

-- the pair and the theorem with a function put at each term
abbrev pair_of : (Term → Term) → Pair → Pair
pair_of f p = record { left = f p.left; right = f p.right }

abbrev theorem_of : (Term → Term) → Theorem → Theorem
theorem_of f th = record { hyps = map f th.hyps; pairs = map (pair_of f) th.pairs; prop = f th.prop; rests = th.rests }

module _ (Q : Content) (q : IsContent Q) (above : IsBelow pure_content Q) where
  abbrev ds : List Decl
  ds = Q.declarations

  typed-proposition : (A : Term) → IsProposition Q A → IsTypedUnder ds [] A prop
  typed-proposition A h = record { parts = h.certified.parts; typed = h.typed }

  typed-side : (t : Term) (T : Typ) → IsCertifiedOf Q t T → IsTypedUnder ds [] t T
  typed-side t T h = record { parts = h.certified.parts; typed = h.typed }

  -- A derivable theorem has propositions for hypotheses, but for those that aren't needed.
  used-hypotheses : (th : Theorem) → IsDerivable Q th → (hyps : List Term) × Each (IsProposition Q) hyps × Each (λ A. IsIn A th.hyps) hyps × IsDerivable Q (record th { hyps = hyps })
  used-hypotheses th h = (
    hyps_of h.tree,
    (conclusion_is_proposition Q q above h.tree h.conclusion h.concludes).1,
    h.hyps,
    record { tree = h.tree; conclusion = h.conclusion; concludes = h.concludes; under_pairs = h.under_pairs; hyps = each_of (λ A. IsIn A (hyps_of h.tree)) (hyps_of h.tree) (λ A m. m); rests = h.rests },
  )

  -- Equated hypotheses stand for others.
  hypotheses-proved : (hyps : List Term) (rests : List Label) (As : List Term) → Each (λ A. (B : Term) × IsIn B hyps × AreEquated ds [] [] prop A B) As → Each (λ A. IsProposition Q A × Proves Q hyps rests A) As
  hypotheses-proved hyps rests [] h = tt
  hypotheses-proved hyps rests (A ∷ As) h =
      let sides = equated_are_typed ds [] [] prop A h.0.0 h.0.2 in
      let other = certified_of Q h.0.0 prop sides.1.parts sides.1.typed in
      ((certified_of Q A prop sides.0.parts sides.0.typed, equated_proposition_is_proved Q q above hyps rests [] tt h.0.0 A (back h.0.2) (assumed Q hyps rests h.0.0 other h.0.1)), hypotheses-proved hyps rests As h.1)

  hypotheses-replaced : (th : Theorem) (hyps : List Term) → Each (λ A. (B : Term) × IsIn B hyps × AreEquated ds [] [] prop A B) th.hyps → IsDerivable Q th → IsDerivable Q (record th { hyps = hyps })
  hypotheses-replaced th hyps h d =
      let old = derivable-proved Q q above th d in
      let es = old.equations in
      let all = es ++ hyps in
      let there = each_imply (λ A. (B : Term) × IsIn B hyps × AreEquated ds [] [] prop A B) (λ A. (B : Term) × IsIn B all × AreEquated ds [] [] prop A B) th.hyps (λ A k. (k.0, in-append_right k.0 es hyps k.1, k.2)) h in
      let given = hypotheses-proved all th.rests th.hyps there in
      let moved = weaker Q (es ++ th.hyps) (th.hyps ++ all) th.rests th.rests th.prop
      (λ A m. elim (in_split A es th.hyps m) [ inl e ↦ in-append_right A th.hyps all (in-append_left A es hyps e) | inr k ↦ in-append_left A th.hyps all k ]) (λ l m. m) old.proves in
      let discharged = chain_is_proved Q th.hyps all th.rests th.prop (each_imply (λ A. IsProposition Q A × Proves Q all th.rests A) (IsProposition Q) th.hyps (λ A k. k.0) given) moved in
      proved-derivable Q q above (record th { hyps = hyps }) (record {
        equations = es;
        are_equations = old.are_equations;
        propositions = old.propositions;
        proves = end_of_chain_is_proved Q th.hyps all th.rests th.prop discharged (each_imply (λ A. IsProposition Q A × Proves Q all th.rests A) (λ A. Proves Q all th.rests A) th.hyps (λ A k. k.1) given);
      })

  proposition-of : (th : Theorem) → IsDerivable Q th → IsProposition Q th.prop
  proposition-of th h = let old = derivable-proved Q q above th h in proved_is_proposition Q q above (old.equations ++ th.hyps) th.rests th.prop old.proves

  -- A theorem with a variable become a constant function is derivable.
  module _ (x i : ℕ) (F : Typ) (y j : ℕ) (R : Typ) (certified : IsCertifiedTyp ds F) (ends : range F ≡ R) where
    abbrev to : Term → Term
    to = with_constant (Var x i F) (domains F) (Var y j R)

    abbrev image : Term → Term
    image = inst_term (sent (Var x i F) (below (domains F) (Var y j R)) (λ u. u))

    pair-to : (others : List Pair) (p : Pair) → IsIn (pair_of to p) others → IsCertifiedPair Q p → IsPairEquated ds others (pair_of image p)
    pair-to others p m (T, l, r) =
        let left = typed-side p.left T l in
        let right = typed-side p.right T r in
        let turned = reduced-equated ds others x i F y j R certified ends [] in
        let typed = reduced-typed ds others x i F y j R certified ends [] in
        (T, through (turned p.left T left) (through (pair (pair_of to p) m (typed p.left T left) (typed p.right T right)) (back (turned p.right T right))))

    certified-to : (p : Pair) → IsCertifiedPair Q p → IsCertifiedPair Q (pair_of to p)
    certified-to p (T, l, r) =
        let left = reduced-typed ds [] x i F y j R certified ends [] p.left T (typed-side p.left T l) in
        let right = reduced-typed ds [] x i F y j R certified ends [] p.right T (typed-side p.right T r) in
        (T, certified_of Q (to p.left) T left.parts left.typed, certified_of Q (to p.right) T right.parts right.typed)

    instance-derivable : (th : Theorem) → IsDerivable Q th → IsDerivable Q (theorem_of image th)
    instance-derivable th h =
        let c = below (domains F) (Var y j R) in
        let typed = below-typed ds [] x i F y j R certified ends [] F certified ends in
        let respecting = sent-respects Q (λ T. T) (λ u. u) (Var x i F) c (identity_respects Q) (certified_of Q c (typ_instance (λ T. T) F) typed.parts (rw (typ_instance-identity F) typed.typed)) in
        subst (λ (f : Term → Term). IsDerivable Q (theorem_of f th)) (λ l t. instance-put (sent (Var x i F) c (λ u. u)) t l) (instance_is_derivable Q q (λ T. T) (sent (Var x i F) c (λ u. u)) respecting th h)

    hypothesis-to : (hyps : List Term) → Each (IsProposition Q) hyps → Each (λ A. (B : Term) × IsIn B (map to hyps) × AreEquated ds [] [] prop A B) (map image hyps)
    hypothesis-to hyps h = each-map image (λ A. (B : Term) × IsIn B (map to hyps) × AreEquated ds [] [] prop A B) hyps
        (each_of (λ A. (B : Term) × IsIn B (map to hyps) × AreEquated ds [] [] prop (image A) B) hyps
        (λ A m. (to A, in-map to A hyps m, reduced-equated ds [] x i F y j R certified ends [] A prop (typed-proposition A (each_at (IsProposition Q) hyps h A m)))))

    constant-derivable : (th : Theorem) → Each (IsProposition Q) th.hyps → IsDerivable Q th → IsDerivable Q (theorem_of to th)
    constant-derivable th props h =
        let others = map (pair_of to) th.pairs in
        let sides = pairs_are_certified Q q above th h in
        let certain = each-map (pair_of to) (IsCertifiedPair Q) th.pairs (each_imply (IsCertifiedPair Q) (λ p. IsCertifiedPair Q (pair_of to p)) th.pairs certified-to sides) in
        let equated = each-map (pair_of image) (IsPairEquated ds others) th.pairs
        (each_of (λ p. IsPairEquated ds others (pair_of image p)) th.pairs (λ p m. pair-to others p (in-map (pair_of to) p th.pairs m) (each_at (IsCertifiedPair Q) th.pairs sides p m))) in
        let paired = pairs_are_replaced Q q above (theorem_of image th) others certain equated (instance-derivable th h) in
        let proposition = reduced-equated ds others x i F y j R certified ends [] th.prop prop (typed-proposition th.prop (proposition-of th h)) in
        let stated = proposition_is_replaced Q q above (record (theorem_of image th) { pairs = others }) (to th.prop) proposition paired in
        hypotheses-replaced (record (theorem_of image th) { pairs = others; prop = to th.prop }) (map to th.hyps) (hypothesis-to th.hyps props) stated

    propositions-to : (hyps : List Term) → Each (IsProposition Q) hyps → Each (IsProposition Q) (map to hyps)
    propositions-to hyps h = each-map to (IsProposition Q) hyps (each_imply (IsProposition Q) (λ A. IsProposition Q (to A)) hyps
        (λ A k. let typed = reduced-typed ds [] x i F y j R certified ends [] A prop (typed-proposition A k) in certified_of Q (to A) prop typed.parts typed.typed) h)

  -- What comes of the pair's own sides: both become the constant function of their type.
  record Step (p : Pair) (n : ℕ) : Type 0 where
    first : Variable (head p.left)
    second : Variable (head p.right)
    first_certified : IsCertifiedTyp ds first.typ
    second_certified : IsCertifiedTyp ds second.typ
    first_ends : range first.typ ≡ result_typ p
    second_ends : range second.typ ≡ result_typ p

  step-of : (p : Pair) (n : ℕ) → IsFlexFlex p → IsCertifiedPair Q p → Step p n
  step-of p n flexible (T, l, r) =
      let first = schematic (head p.left) flexible.left in
      let second = schematic (head p.right) flexible.right in
      let ended = ap range (ap variable_typ first.is) in
      let at_left = head-ends [] p.left T first.name first.index first.typ l.typed (ap (term_eq (Var first.name first.index first.typ)) first.is ∙ term_eq-itself (Var first.name first.index first.typ)) in
      let at_right = head-ends [] p.right T second.name second.index second.typ r.typed (ap (term_eq (Var second.name second.index second.typ)) second.is ∙ term_eq-itself (Var second.name second.index second.typ)) in
      record {
        first = first;
        second = second;
        first_certified = subst (HasCertifiedParts ds) first.is (head-parts ds p.left l.certified.parts);
        second_certified = subst (HasCertifiedParts ds) second.is (head-parts ds p.right r.certified.parts);
        first_ends = sym ended;
        second_ends = at_right ∙ sym at_left ∙ sym ended;
      }

  module _ (p : Pair) (n : ℕ) (s : Step p n) where
    abbrev put_first : Term → Term
    put_first = with_constant (Var s.first.name s.first.index s.first.typ) (domains s.first.typ) (Var 0 n (result_typ p))

    abbrev put_second : Term → Term
    put_second = with_constant (Var s.second.name s.second.index s.second.typ) (domains s.second.typ) (Var 0 n (result_typ p))

    both-put : with_constants p (Var 0 n (result_typ p)) ≡ (λ t. put_second (put_first t))
    both-put = λ i t. with_constant (s.second.is i) (domains (variable_typ (s.second.is i))) (Var 0 n (result_typ p)) (with_constant (s.first.is i) (domains (variable_typ (s.first.is i))) (Var 0 n (result_typ p)) t)

    no-domains : domains (result_typ p) ≡ []
    no-domains = range-ends (variable_typ (head p.left))

    kept-second : (Us : List Typ) → put_second (below Us (Var 0 n (result_typ p))) ≡ below Us (Var 0 n (result_typ p))
    kept-second Us = constant-kept (Var s.second.name s.second.index s.second.typ) 0 n (result_typ p) no-domains (domains s.second.typ) Us
        (λ e. ap domains (ap variable_typ (term_eq-same (Var s.second.name s.second.index s.second.typ) (Var 0 n (result_typ p)) e)) ∙ no-domains)

    left-becomes : (T : Typ) → IsCertifiedOf Q p.left T → put_second (put_first p.left) ≡ below (domains T) (Var 0 n (result_typ p))
    left-becomes T l =
        ap put_second (flexible-reduced ds [] s.first.name s.first.index s.first.typ 0 n (result_typ p) s.first_certified s.first_ends [] p.left T l.typed
        (ap (term_eq (Var s.first.name s.first.index s.first.typ)) s.first.is ∙ term_eq-itself (Var s.first.name s.first.index s.first.typ))) ∙ kept-second (domains T)

    right-becomes : (T : Typ) → IsCertifiedOf Q p.right T → (b : Bool) → term_eq (Var s.first.name s.first.index s.first.typ) (head p.right) ≡ b → put_second (put_first p.right) ≡ below (domains T) (Var 0 n (result_typ p))
    right-becomes T r true e = ap put_second (flexible-reduced ds [] s.first.name s.first.index s.first.typ 0 n (result_typ p) s.first_certified s.first_ends [] p.right T r.typed e) ∙ kept-second (domains T)
    right-becomes T r false e =
        let schematic_head : is_schematic (head p.right) ≡ true = ap is_schematic s.second.is in
        let kept = head-kept (Var s.first.name s.first.index s.first.typ) (domains s.first.typ) (Var 0 n (result_typ p)) p.right e schematic_head in
        let typed = reduced-typed ds [] s.first.name s.first.index s.first.typ 0 n (result_typ p) s.first_certified s.first_ends [] p.right T (typed-side p.right T r) in
        flexible-reduced ds [] s.second.name s.second.index s.second.typ 0 n (result_typ p) s.second_certified s.second_ends [] (put_first p.right) T typed.typed
        (ap (term_eq (Var s.second.name s.second.index s.second.typ)) (kept ∙ s.second.is) ∙ term_eq-itself (Var s.second.name s.second.index s.second.typ))

    sides-equal : IsCertifiedPair Q p → put_second (put_first p.left) ≡ put_second (put_first p.right)
    sides-equal (T, l, r) = left-becomes T l ∙ sym (right-becomes T r (term_eq (Var s.first.name s.first.index s.first.typ) (head p.right)) refl)

    both-derivable : (th : Theorem) → Each (IsProposition Q) th.hyps → IsDerivable Q th → IsDerivable Q (theorem_of put_second (theorem_of put_first th))
    both-derivable th props h =
        let once = constant-derivable s.first.name s.first.index s.first.typ 0 n (result_typ p) s.first_certified s.first_ends th props h in
        let more = propositions-to s.first.name s.first.index s.first.typ 0 n (result_typ p) s.first_certified s.first_ends th.hyps props in
        constant-derivable s.second.name s.second.index s.second.typ 0 n (result_typ p) s.second_certified s.second_ends (theorem_of put_first th) more once

  among-new : (p : Pair) (n : ℕ) (s : Step p n) (th new : Theorem) (hyps : List Term) → Each (λ A. IsIn A th.hyps) hyps → ((A : Term) → IsIn A (map (with_constants p (Var 0 n (result_typ p))) th.hyps) → IsIn A new.hyps)
      → (A : Term) → IsIn A (map (put_second p n s) (map (put_first p n s) hyps)) → IsIn A new.hyps
  among-new p n s th new hyps among members A m =
      let second = in_mapped (put_second p n s) A (map (put_first p n s) hyps) m in
      let first = in_mapped (put_first p n s) second.0 hyps second.1 in
      let there = in-map (with_constants p (Var 0 n (result_typ p))) first.0 th.hyps (each_at (λ B. IsIn B th.hyps) hyps among first.0 first.1) in
      let same_term : with_constants p (Var 0 n (result_typ p)) first.0 ≡ A = (λ i. both-put p n s i first.0) ∙ sym (second.2 ∙ ap (put_second p n s) first.2) in
      subst (λ (B : Term). IsIn B new.hyps) same_term (members (with_constants p (Var 0 n (result_typ p)) first.0) there)

  -- The theorem without the pair, its heads constant functions.
  without-pair : (p : Pair) (n : ℕ) (s : Step p n) (th : Theorem) (ps : List Pair) → th.pairs ≡ p ∷ ps → Each (IsProposition Q) th.hyps → IsDerivable Q th
      → IsDerivable Q (record (theorem_of (put_second p n s) (theorem_of (put_first p n s) th)) { pairs = map (pair_of (put_second p n s)) (map (pair_of (put_first p n s)) ps) })
  without-pair p n s th ps e props h =
      let whole = theorem_of (put_second p n s) (theorem_of (put_first p n s) th) in
      let others = map (pair_of (put_second p n s)) (map (pair_of (put_first p n s)) ps) in
      let first = pair_of (put_second p n s) (pair_of (put_first p n s) p) in
      let both = subst (λ (qs : List Pair). IsDerivable Q (record whole { pairs = map (pair_of (put_second p n s)) (map (pair_of (put_first p n s)) qs) })) e (both-derivable p n s th props h) in
      let own = subst (λ (qs : List Pair). Each (IsCertifiedPair Q) qs) e (pairs_are_certified Q q above th h) in
      let certain = pairs_are_certified Q q above (record whole { pairs = first ∷ others }) both in
      dropped_is_derivable Q q above (record whole { pairs = first ∷ others }) others
      (each_of (λ r. IsIn r (first ∷ others)) others (λ r m. inr m))
      (inr (equal-equated Q others first certain.0 (sides-equal p n s own.0)), each_of (λ r. IsIn r others ⊎ IsPairEquated ds others r) others (λ r m. inl m)) both

  constants-derivable : (th new : Theorem) (p : Pair) (ps : List Pair) (n : ℕ) → th.pairs ≡ p ∷ ps → IsFlexFlex p → IsDerivable Q th → IsWithConstants p (Var 0 n (result_typ p)) ps th new → IsDerivable Q new
  constants-derivable th new p ps n e flexible h is =
      let used = used-hypotheses th h in
      let s = step-of p n flexible (subst (λ (qs : List Pair). Each (IsCertifiedPair Q) qs) e (pairs_are_certified Q q above th h)).0 in
      let small = record th { hyps = used.0 } in
      let left = record (theorem_of (put_second p n s) (theorem_of (put_first p n s) small)) { pairs = map (pair_of (put_second p n s)) (map (pair_of (put_first p n s)) ps) } in
      let more = weaker_is_derivable Q left new.hyps th.rests (record { hyps = among-new p n s th new used.0 used.2 (λ A m. (is.hyps.members A).1 m); rests = λ l m. m }) (without-pair p n s small ps e used.1 used.3) in
      let pairs_are : map (pair_of (put_second p n s)) (map (pair_of (put_first p n s)) ps) ≡ new.pairs =
      map-map (pair_of (put_first p n s)) (pair_of (put_second p n s)) ps ∙ ap (λ (f : Term → Term). map (pair_of f) ps) (sym (both-put p n s)) ∙ sym is.are_pairs in
      let prop_is : put_second p n s (put_first p n s th.prop) ≡ new.prop = ap (λ (f : Term → Term). f th.prop) (sym (both-put p n s)) ∙ sym is.prop in
      subst (IsDerivable Q) (λ i. record { hyps = new.hyps; pairs = pairs_are i; prop = prop_is i; rests = sym is.rests i }) more

  -- What is smashed is derivable.
  pub smashes-derivable : (th smashed : Theorem) → Smashes th smashed → Each IsFlexFlex th.pairs → IsDerivable Q th → IsDerivable Q smashed
  smashes-derivable th smashed (no_pair e) flexible h = h
  smashes-derivable th smashed (trivial {p = p} {ps = ps} e equal rest) flexible h =
      let own = subst (λ (qs : List Pair). Each (IsCertifiedPair Q) qs) e (pairs_are_certified Q q above th h) in
      let turned = subst (λ (qs : List Pair). IsDerivable Q (record th { pairs = qs })) e h in
      let dropped = dropped_is_derivable Q q above (record th { pairs = p ∷ ps }) ps (each_of (λ r. IsIn r (p ∷ ps)) ps (λ r m. inr m))
      (inr (equal-equated Q ps p own.0 equal), each_of (λ r. IsIn r ps ⊎ IsPairEquated ds ps r) ps (λ r m. inl m)) turned in
      smashes-derivable (record th { pairs = ps }) smashed rest (subst (λ (qs : List Pair). Each IsFlexFlex qs) e flexible).1 dropped
  smashes-derivable th smashed (constants {next = next} {p = p} {ps = ps} e differ is rest) flexible h =
      let each = subst (λ (qs : List Pair). Each IsFlexFlex qs) e flexible in
      let n = theorem_index_above th in
      let moved = subst (λ (qs : List Pair). Each IsFlexFlex qs) (sym is.are_pairs) (flexible-pairs p n ps each.1) in
      smashes-derivable next smashed rest moved (constants-derivable th next p ps n e each.0 h is)

-- What is left of a variable's type behind one argument more, and the application that becomes the constant function.
drop_one_more : (n m : ℕ) (xs : List Typ) → m ≡ suc n → drop m xs ≡ drop 1 (drop n xs)
drop_one_more n m xs e = ap (λ k. drop k xs) e ∙ by n xs
  where
    by : (n : ℕ) (xs : List Typ) → drop (suc n) xs ≡ drop 1 (drop n xs)
    by zero xs = refl
    by (suc n) [] = refl
    by (suc n) (x ∷ xs) = by n xs

abbrev pub IsLeftOver : (v t : Term) → (Ds : List Typ) → (rest : Typ) → Type 0
IsLeftOver v t Ds rest = (term_eq v (front t) ≡ true) × (domains rest ≡ drop (length (arguments t)) Ds)

pub left_over-application : (v t f a : Term) (Ds : List Typ) (rest next : Typ) → t ≡ App f a → IsLeftOver v f Ds rest → domains next ≡ drop 1 (domains rest) → IsLeftOver v t Ds next
left_over-application v t f a Ds rest next e h k =
    let count : length (arguments f ++ a ∷ []) ≡ suc (length (arguments f)) = length-append (arguments f) (a ∷ []) ∙ (omega arith) in
    let own : IsLeftOver v (App f a) Ds next = (h.0, k ∙ ap (drop 1) h.1 ∙ sym (drop_one_more (length (arguments f)) (length (arguments f ++ a ∷ [])) Ds count)) in
    subst (λ (u : Term). IsLeftOver v u Ds next) (sym e) own

pub constant-application : (v t f a c : Term) (Ds : List Typ) (rest next : Typ) → t ≡ App f a → IsLeftOver v f Ds rest → domains next ≡ drop 1 (domains rest) → below (domains next) c ≡ with_constant v Ds c t
constant-application v t f a c Ds rest next e h k =
    let left : domains next ≡ drop (length (arguments f) + 1) Ds = k ∙ ap (drop 1) h.1 ∙ sym (drop_one_more (length (arguments f)) (length (arguments f) + 1) Ds (omega arith)) in
    let own : below (domains next) c ≡ with_constant v Ds c (App f a) = rw h.0 (ap (λ Ts. below Ts c) left) in
    own ∙ ap (with_constant v Ds c) (sym e)

-- One pair is treated.
pub mapped-length : (f : Pair → Pair) (ps : List Pair) → length (map f ps) ≡ length ps
mapped-length f [] = refl
mapped-length f (p ∷ ps) = ap suc (mapped-length f ps)

trivial-one : (th next : Theorem) (p : Pair) (ps : List Pair) → th.pairs ≡ p ∷ ps → p.left ≡ p.right → next ≡ record th { pairs = ps } → IsOneFewer th next
trivial-one th next p ps e equal is = record {
  goes_on = λ smashed rest. trivial e equal (subst (λ (n : Theorem). Smashes n smashed) is rest);
  fewer = let own : length next.pairs ≡ length ps = ap (λ (n : Theorem). length n.pairs) is in let all : length th.pairs ≡ suc (length ps) = ap length e in omega arith;
}

constants-one : (th next : Theorem) (p : Pair) (ps : List Pair) → th.pairs ≡ p ∷ ps → p.left ≢ p.right → IsWithConstants p (fresh_variable th p) ps th next → IsOneFewer th next
constants-one th next p ps e differ is = record {
  goes_on = λ smashed rest. constants e differ is rest;
  fewer = let own : length next.pairs ≡ length ps = ap length is.are_pairs ∙ mapped-length (pair_with p (fresh_variable th p)) ps in let all : length th.pairs ≡ suc (length ps) = ap length e in omega arith;
}

ok_imply : {E : Type 0} (P R : Theorem → Type 0) → ((th : Theorem) → P th → R th) → (r : Result Theorem E) → IfOk r P → IfOk r R
ok_imply P R f (Ok th) h = f th h
ok_imply P R f (Err e) h = tt

pub trivial-treated : {E : Type 0} (th : Theorem) (p : Pair) (ps : List Pair) → th.pairs ≡ p ∷ ps → p.left ≡ p.right → (r : Result Theorem E) → IfOk r (λ next. next ≡ record th { pairs = ps }) → IfOk r (IsOneFewer th)
trivial-treated th p ps e equal r h = ok_imply (λ next. next ≡ record th { pairs = ps }) (IsOneFewer th) (λ next is. trivial-one th next p ps e equal is) r h

pub constants-treated : {E : Type 0} (th : Theorem) (p : Pair) (ps : List Pair) (c : Term) → th.pairs ≡ p ∷ ps → p.left ≢ p.right → c ≡ fresh_variable th p → (r : Result Theorem E) → IfOk r (IsWithConstants p c ps th) → IfOk r (IsOneFewer th)
constants-treated th p ps c e differ fresh r h =
    ok_imply (IsWithConstants p c ps th) (IsOneFewer th) (λ next is. constants-one th next p ps e differ (subst (λ (v : Term). IsWithConstants p v ps th next) fresh is)) r h

pub no-pairs : (ps : List Pair) → length ps ≡ 0 → ps ≡ []
no-pairs [] e = refl
no-pairs (p ∷ ps) e = absurd (omega arith)

pub all-treated : (th left : Theorem) (turn : ℕ) → ((out : Theorem) → Smashes left out → Smashes th out) → length left.pairs + turn ≡ length th.pairs → length th.pairs ≤ turn → Smashes th left
all-treated th left turn goes count done = goes left (no_pair (no-pairs left.pairs (omega arith)))
