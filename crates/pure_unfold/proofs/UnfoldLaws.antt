-- A term in which a definition is unfolded is equal to it, and is one term.
use Rattle.std.proofs.Common.{◌≡◌, ℕ, List, [], ◌∷◌, ◌++◌, inl, inr, refl, ap, sym, subst, ◌∙◌, Bool, true, false, true≢false, cond}
use Rattle.pure_text.specs.Lists.{IsIn, Each}
use Rattle.pure_text.proofs.ListLaws.{each-append, each_at, in-append_left, in-append_right}
use Rattle.pure_definitions.specs.Names.{Label}
use Rattle.pure_definitions.specs.Types.Typ.{Typ, TFree, TVar, Con, Typs, none, also, typ_eq}
use Rattle.pure_definitions.specs.Types.Occurs.{OccursInTyp, OccursInTyps}
use Rattle.pure_definitions.specs.Types.Order.{Algebra}
use Rattle.pure_definitions.specs.Terms.Term.{Term, Const, Free, Var, Bound, Abs, App}
use Rattle.pure_definitions.specs.Terms.Subst.{TypBind, typ_image, term_image, typ_instance, typs_instance, inst_typ, inst_term, IsSortRespecting, AreSortRespecting}
use Rattle.pure_definitions.specs.Declarations.Decl.{Decl, algebra_of}
use Rattle.pure_definitions.specs.Declarations.Certified.{IsCertifiedTyp, AreCertifiedTyps, HasCertifiedParts}
use Rattle.pure_definitions.specs.Models.Equality.{typ_eq-same, typ_eq-is_equality}
use Rattle.pure_definitions.proofs.EntryLemmas.{chosen}
use Rattle.pure_term_laws.specs.LawsOccurs.{IsTypVariable}
use Rattle.pure_term_laws.proofs.OccursLaws.{typ_instances-agree}
use Rattle.pure_logic.specs.Connectives.{eq}
use Rattle.pure_logic.specs.Content.{Content, IsContent, IsBelow}
use Rattle.pure_logic.specs.PureContent.{pure_content}
use Rattle.pure_logic.specs.Derivable.{Pair, IsDerivable}
use Rattle.pure_logic.specs.Proves.{Proves}
use Rattle.pure_logic.proofs.ProvesLaws.{derivable_is_proves}
use Rattle.pure_logic.proofs.EqualityLaws.{left-of, right-of}
use Rattle.pure_logic.proofs.TheoremMapLaws.{instantiated_is_derivable}
use Rattle.pure_equation_laws.specs.Equated.{IsTypedUnder, AreEquated, AreEqualModulo}
use Rattle.pure_equation_laws.specs.Laws.Proved.{IsPairProved}
use Rattle.pure_equation_laws.proofs.NodesLaws.{equated_node_by_node}
use Rattle.pure_equation_laws.proofs.EquatedLaws.{equated_is_proved}
use Rattle.pure_certify.specs.Matching.{schematics, all_schematics}
use Rattle.pure_certify.proofs.MatchLemmas.{agree-typ}
use Rattle.pure_unfold.specs.Replaced.{IsReplaced, HasReplaced}
use Rattle.pure_unfold.specs.Unfold.{HasVariable, HasExtra, HaveExtra, HasExtraTyp, IsDefinition, IsUnfolded, Unfolds, UnfoldsNothing}

-- What a rule puts for a constant is one term at most; so a term with constants replaced by it is one.
pub replaced-once : (Puts : ℕ → Typ → Term → Type 0) → ((c : ℕ) (T : Typ) (u v : Term) → Puts c T u → Puts c T v → u ≡ v) → (t u v : Term) → IsReplaced Puts t u → IsReplaced Puts t v → u ≡ v
replaced-once Puts once (Const c T) u v (inl h) (inl k) = once c T u v h k
replaced-once Puts once (Const c T) u v (inl h) (inr k) = absurd (k.1 u h)
replaced-once Puts once (Const c T) u v (inr h) (inl k) = absurd (h.1 v k)
replaced-once Puts once (Const c T) u v (inr h) (inr k) = h.0 ∙ sym k.0
replaced-once Puts once (Free x T) u v h k = h ∙ sym k
replaced-once Puts once (Var x i T) u v h k = h ∙ sym k
replaced-once Puts once (Bound n) u v h k = h ∙ sym k
replaced-once Puts once (Abs T b) u v h k = h.2 ∙ ap (Abs T) (replaced-once Puts once b h.0 k.0 h.1 k.1) ∙ sym k.2
replaced-once Puts once (App f a) u v h k =
    let functions = replaced-once Puts once f h.0 k.0 h.2 k.2 in
    let arguments = replaced-once Puts once a h.1 k.1 h.3 k.3 in
    let same : App h.0 h.1 ≡ App k.0 k.1 = λ i. App (functions i) (arguments i) in
    h.4 ∙ same ∙ sym k.4

-- A schematic type variable that occurs in a type is among its schematic type variables.
mutual
  occurs-schematic : (x i : ℕ) (s : List ℕ) (T : Typ) → OccursInTyp (TVar x i s) T → IsIn (TVar x i s) (schematics T)
  occurs-schematic x i s (TFree y r) o = let no : ⊥ = cc in absurd no
  occurs-schematic x i s (TVar y j r) o = inl o
  occurs-schematic x i s (Con k ts) (inl o) = let no : ⊥ = cc in absurd no
  occurs-schematic x i s (Con k ts) (inr o) = occurs-all x i s ts o

  occurs-all : (x i : ℕ) (s : List ℕ) (ts : Typs) → OccursInTyps (TVar x i s) ts → IsIn (TVar x i s) (all_schematics ts)
  occurs-all x i s none o = absurd o
  occurs-all x i s (also t ts) (inl o) = in-append_left (TVar x i s) (schematics t) (all_schematics ts) (occurs-schematic x i s t o)
  occurs-all x i s (also t ts) (inr o) = in-append_right (TVar x i s) (schematics t) (all_schematics ts) (occurs-all x i s ts o)

-- Type maps that leave fixed variables and agree on the schematic variables of the constant's type give one instance of what defines it.
agree-at : (f g : Typ → Typ) (typ : Typ) → ((x : ℕ) (s : List ℕ) → f (TFree x s) ≡ g (TFree x s)) → Each (λ v. f v ≡ g v) (schematics typ) → (v : Typ) → IsTypVariable v → OccursInTyp v typ → f v ≡ g v
agree-at f g typ fixed each (TFree x s) is o = fixed x s
agree-at f g typ fixed each (TVar x i s) is o = each_at (λ v. f v ≡ g v) (schematics typ) each (TVar x i s) (occurs-schematic x i s typ o)
agree-at f g typ fixed each (Con k ts) is o = absurd is

-- Equality of types is told by a test.
told : (T U : Typ) → (¬ ¬ (T ≡ U)) → T ≡ U
told T U h = by (typ_eq T U) refl
  where
    by : (b : Bool) → b ≡ typ_eq T U → T ≡ U
    by true e = typ_eq-same T U (sym e)
    by false e = absurd (h (λ k. true≢false (sym ((typ_eq-is_equality T U).1 k) ∙ sym e)))

-- What two types need not be told about: maps that agree on the variables of the first give one instance of the second, which has no others.
module _ (f g : Typ → Typ) (typ : Typ) (fixed : (x : ℕ) (s : List ℕ) → f (TFree x s) ≡ g (TFree x s)) (each : Each (λ v. f v ≡ g v) (schematics typ)) where
  mutual
    typ-agrees : (T : Typ) → ¬ HasExtra typ T → typ_instance f T ≡ typ_instance g T
    typ-agrees (TFree x s) h = fixed x s
    typ-agrees (TVar x i s) h = told (f (TVar x i s)) (g (TVar x i s)) (λ no. h (λ o. no (agree-at f g typ fixed each (TVar x i s) tt o)))
    typ-agrees (Con k ts) h = ap (Con k) (typs-agree ts h)

    typs-agree : (ts : Typs) → ¬ HaveExtra typ ts → typs_instance f ts ≡ typs_instance g ts
    typs-agree none h = refl
    typs-agree (also t ts) h =
        let first = typ-agrees t (λ k. h (inl k)) in
        let rest = typs-agree ts (λ k. h (inr k)) in
        λ i. also (first i) (rest i)

  bodies-agree : (body : Term) → (¬ HasVariable body) → (¬ HasExtraTyp typ body) → inst_typ f body ≡ inst_typ g body
  bodies-agree (Const c T) closed h = ap (Const c) (typ-agrees T h)
  bodies-agree (Free x T) closed h = absurd (closed tt)
  bodies-agree (Var x i T) closed h = absurd (closed tt)
  bodies-agree (Bound n) closed h = refl
  bodies-agree (Abs T b) closed h =
      let binder = typ-agrees T (λ k. h (inl k)) in
      let inside = bodies-agree b closed (λ k. h (inr k)) in
      λ i. Abs (binder i) (inside i)
  bodies-agree (App f' a) closed h =
      let function = bodies-agree f' (λ k. closed (inl k)) (λ k. h (inl k)) in
      let argument = bodies-agree a (λ k. closed (inr k)) (λ k. h (inr k)) in
      λ i. App (function i) (argument i)

pub unfolded-once : (A : Algebra) (name : ℕ) (typ : Typ) (body : Term) → (¬ HasVariable body) → (¬ HasExtraTyp typ body) → (c : ℕ) (T : Typ) (u v : Term) → IsUnfolded A name typ body c T u → IsUnfolded A name typ body c T v → u ≡ v
unfolded-once A name typ body closed no_extra c T u v h k =
    let each = agree-typ h.typs k.typs typ (h.matches.is ∙ sym k.matches.is) in
    h.is ∙ bodies-agree h.typs k.typs typ (λ x s. h.matches.fixed x s ∙ sym (k.matches.fixed x s)) each body closed no_extra ∙ sym k.is

-- The map of entries that sends these variables where a map sends them, and no others.
abbrev entries : (typs : Typ → Typ) → List Typ → List TypBind
entries typs [] = []
entries typs (TVar x i s ∷ vs) = record { name = x; index = i; sort = s; image = typs (TVar x i s) } ∷ entries typs vs
entries typs (_ ∷ vs) = entries typs vs

entries-give : (typs : Typ → Typ) (vs : List Typ) (x i : ℕ) (s : List ℕ) → IsIn (TVar x i s) vs → typ_image (entries typs vs) (TVar x i s) ≡ typs (TVar x i s)
entries-give typs [] x i s m = absurd m
entries-give typs (TFree y r ∷ vs) x i s (inl e) = let no : ⊥ = cc in absurd no
entries-give typs (TFree y r ∷ vs) x i s (inr m) = entries-give typs vs x i s m
entries-give typs (TVar y j r ∷ vs) x i s (inl e) =
    let same : typ_eq (TVar y j r) (TVar x i s) ≡ true = (typ_eq-is_equality (TVar y j r) (TVar x i s)).1 (sym e) in
    subst (λ (b : Bool). cond b (typs (TVar y j r)) (typ_image (entries typs vs) (TVar x i s)) ≡ typs (TVar x i s)) (sym same) (ap typs (sym e))
entries-give typs (TVar y j r ∷ vs) x i s (inr m) =
    chosen (λ T. T ≡ typs (TVar x i s)) (typ_eq (TVar y j r) (TVar x i s)) (typs (TVar y j r)) (typ_image (entries typs vs) (TVar x i s))
    (λ t. ap typs (typ_eq-same (TVar y j r) (TVar x i s) t)) (entries-give typs vs x i s m)
entries-give typs (Con k ts ∷ vs) x i s (inl e) = let no : ⊥ = cc in absurd no
entries-give typs (Con k ts ∷ vs) x i s (inr m) = entries-give typs vs x i s m

entries-keep : (typs : Typ → Typ) (vs : List Typ) (x : ℕ) (s : List ℕ) → typ_image (entries typs vs) (TFree x s) ≡ TFree x s
entries-keep typs [] x s = refl
entries-keep typs (TFree y r ∷ vs) x s = entries-keep typs vs x s
entries-keep typs (TVar y j r ∷ vs) x s = entries-keep typs vs x s
entries-keep typs (Con k ts ∷ vs) x s = entries-keep typs vs x s

entries-respect : (A : Algebra) (typs : Typ → Typ) (vs : List Typ) → IsSortRespecting A typs → AreSortRespecting A (entries typs vs)
entries-respect A typs [] r = tt
entries-respect A typs (TFree y s ∷ vs) r = entries-respect A typs vs r
entries-respect A typs (TVar y j s ∷ vs) r = (r.schematic y j s, entries-respect A typs vs r)
entries-respect A typs (Con k ts ∷ vs) r = entries-respect A typs vs r

entries-certified : (ds : List Decl) (typs : Typ → Typ) (vs : List Typ) → Each (λ v. IsCertifiedTyp ds (typs v)) vs → Each (λ b. IsCertifiedTyp ds b.image) (entries typs vs)
entries-certified ds typs [] h = tt
entries-certified ds typs (TFree y s ∷ vs) h = entries-certified ds typs vs h.1
entries-certified ds typs (TVar y j s ∷ vs) h = (h.0, entries-certified ds typs vs h.1)
entries-certified ds typs (Con k ts ∷ vs) h = entries-certified ds typs vs h.1

entries-agree : (typs : Typ → Typ) (all vs : List Typ) → ((v : Typ) → IsIn v vs → IsIn v all) → ((v : Typ) → IsIn v vs → (x : ℕ) × (i : ℕ) × (s : List ℕ) × (v ≡ TVar x i s)) → Each (λ v. typ_image (entries typs all) v ≡ typs v) vs
entries-agree typs all [] inside are = tt
entries-agree typs all (v ∷ vs) inside are =
    let is = are v (inl refl) in
    let here : typ_image (entries typs all) v ≡ typs v = rw is.3 (entries-give typs all is.0 is.1 is.2 (subst (λ (w : Typ). IsIn w all) is.3 (inside v (inl refl)))) in
    (here, entries-agree typs all vs (λ w m. inside w (inr m)) (λ w m. are w (inr m)))

-- The schematic type variables of a type are schematic type variables; and where its instance is certified their images are.
abbrev IsSchematicVariable : Typ → Type 0
IsSchematicVariable v = (x : ℕ) × (i : ℕ) × (s : List ℕ) × (v ≡ TVar x i s)

mutual
  are-schematic : (T : Typ) → Each IsSchematicVariable (schematics T)
  are-schematic (TFree x s) = tt
  are-schematic (TVar x i s) = ((x, i, s, refl), tt)
  are-schematic (Con k ts) = all-schematic ts

  all-schematic : (ts : Typs) → Each IsSchematicVariable (all_schematics ts)
  all-schematic none = tt
  all-schematic (also t ts) = each-append IsSchematicVariable (schematics t) (all_schematics ts) (are-schematic t) (all-schematic ts)

mutual
  images-certified : (ds : List Decl) (typs : Typ → Typ) (T : Typ) → IsCertifiedTyp ds (typ_instance typs T) → Each (λ v. IsCertifiedTyp ds (typs v)) (schematics T)
  images-certified ds typs (TFree x s) h = tt
  images-certified ds typs (TVar x i s) h = (h, tt)
  images-certified ds typs (Con k ts) h = all-images-certified ds typs ts h.1

  all-images-certified : (ds : List Decl) (typs : Typ → Typ) (ts : Typs) → AreCertifiedTyps ds (typs_instance typs ts) → Each (λ v. IsCertifiedTyp ds (typs v)) (all_schematics ts)
  all-images-certified ds typs none h = tt
  all-images-certified ds typs (also t ts) h =
      each-append (λ v. IsCertifiedTyp ds (typs v)) (schematics t) (all_schematics ts) (images-certified ds typs t h.0) (all-images-certified ds typs ts h.1)

nothing-put : (t : Term) → inst_term (term_image []) t ≡ t
nothing-put (Const c T) = refl
nothing-put (Free x T) = refl
nothing-put (Var x i T) = refl
nothing-put (Bound n) = refl
nothing-put (Abs T b) = ap (Abs T) (nothing-put b)
nothing-put (App f a) = λ i. App (nothing-put f i) (nothing-put a i)

module _ (Q : Content) (q : IsContent Q) (above : IsBelow pure_content Q) (rests : List Label) where
  -- The equation of a constant and what is put for it is proved.
  abbrev pub IsEquationProved : (left right : Term) → Type 0
  IsEquationProved left right = (T : Typ) × Proves Q [] rests (eq T left right)

  pub unfolded-proved : (prop : Term) (name : ℕ) (typ : Typ) (body : Term) → IsDefinition prop name typ body → IsDerivable Q (record { hyps = []; pairs = []; prop = prop; rests = rests })
      → (c : ℕ) (U : Typ) (u : Term) → IsCertifiedTyp Q.declarations U → IsUnfolded (algebra_of Q.declarations) name typ body c U u → IsEquationProved (Const c U) u
  unfolded-proved prop name typ body def h c U u certified is =
      let vs = schematics typ in
      let binds = entries is.typs vs in
      let known = entries-agree is.typs vs vs (λ v m. m) (λ v m. each_at IsSchematicVariable vs (are-schematic typ) v m) in
      let fixed : (x : ℕ) (s : List ℕ) → typ_image binds (TFree x s) ≡ is.typs (TFree x s) = λ x s. entries-keep is.typs vs x s ∙ sym (is.matches.fixed x s) in
      let instance : typ_instance (typ_image binds) typ ≡ U = typ_instances-agree (typ_image binds) is.typs typ (agree-at (typ_image binds) is.typs typ fixed known) ∙ is.matches.is in
      let right : inst_typ (typ_image binds) body ≡ u = bodies-agree (typ_image binds) is.typs typ fixed known body def.no_variable def.no_extra ∙ sym is.is in
      let images = images-certified Q.declarations is.typs typ (subst (IsCertifiedTyp Q.declarations) (sym is.matches.is) certified) in
      let made = instantiated_is_derivable Q q binds [] (entries-respect (algebra_of Q.declarations) is.typs vs is.respecting) (entries-certified Q.declarations is.typs vs images) tt
      (record { hyps = []; pairs = []; prop = prop; rests = rests }) h in
      let proved = (derivable_is_proves Q [] rests (inst_term (term_image []) (inst_typ (typ_image binds) prop))).0 made in
      let left : Const name (typ_instance (typ_image binds) typ) ≡ Const c U = λ i. Const (sym is.same i) (instance i) in
      let S = typ_instance (typ_image binds) def.sides in
      let whole : inst_term (term_image []) (inst_typ (typ_image binds) prop) ≡ eq S (Const c U) u =
      nothing-put (inst_typ (typ_image binds) prop) ∙ ap (inst_typ (typ_image binds)) def.equates ∙ (λ i. eq S (left i) (right i)) in
      (S, subst (Proves Q [] rests) whole proved)

  -- Of a rule that puts for constants what is proved equal to them.
  module _ (Puts : ℕ → Typ → Term → Type 0) (proved : (c : ℕ) (T : Typ) (u : Term) → IsCertifiedTyp Q.declarations T → Puts c T u → IsEquationProved (Const c T) u) where
    -- Equations that are proved, and modulo which, and any others, the terms are equal.
    record AreModuloProved (t u : Term) : Type 0 where
      pairs : List Pair
      are : Each (IsPairProved Q [] rests) pairs
      equal : (all : List Pair) → ((p : Pair) → IsIn p pairs → IsIn p all) → (bs : List Typ) → AreEqualModulo Q.declarations all bs t u

    same-modulo : (t u : Term) → u ≡ t → AreModuloProved t u
    same-modulo t u e = record { pairs = []; are = tt; equal = λ all inside bs. subst (AreEqualModulo Q.declarations all bs t) (sym e) AreEqualModulo.itself }

    put-modulo : (c : ℕ) (T : Typ) (u : Term) → IsEquationProved (Const c T) u → AreModuloProved (Const c T) u
    put-modulo c T u h =
        let p : Pair = record { left = Const c T; right = u } in
        let left = left-of Q q above [] rests h.0 (Const c T) u h.1 in
        let right = right-of Q q above [] rests h.0 (Const c T) u h.1 in
        record {
          pairs = p ∷ [];
          are = (h, tt);
          equal = λ all inside bs. AreEqualModulo.equated (AreEquated.pair {T = h.0} p (inside p (inl refl)) (record { parts = left.certified.parts; typed = left.typed }) (record { parts = right.certified.parts; typed = right.typed }));
        }

    replaced-modulo : (t u : Term) → HasCertifiedParts Q.declarations t → IsReplaced Puts t u → AreModuloProved t u
    replaced-modulo (Const c T) u h (inl k) = put-modulo c T u (proved c T u h.0 k)
    replaced-modulo (Const c T) u h (inr k) = same-modulo (Const c T) u k.0
    replaced-modulo (Free x T) u h k = same-modulo (Free x T) u k
    replaced-modulo (Var x i T) u h k = same-modulo (Var x i T) u k
    replaced-modulo (Bound n) u h k = same-modulo (Bound n) u k
    replaced-modulo (Abs T b) u h k =
        let inside = replaced-modulo b k.0 h.1 k.1 in
        record {
          pairs = inside.pairs;
          are = inside.are;
          equal = λ all sub bs. subst (AreEqualModulo Q.declarations all bs (Abs T b)) (sym k.2) (AreEqualModulo.bodies (inside.equal all sub (T ∷ bs)));
        }
    replaced-modulo (App f a) u h k =
        let function = replaced-modulo f k.0 h.0 k.2 in
        let argument = replaced-modulo a k.1 h.1 k.3 in
        record {
          pairs = function.pairs ++ argument.pairs;
          are = each-append (IsPairProved Q [] rests) function.pairs argument.pairs function.are argument.are;
          equal = λ all sub bs. subst (AreEqualModulo Q.declarations all bs (App f a)) (sym k.4)
              (AreEqualModulo.applied (function.equal all (λ p m. sub p (in-append_left p function.pairs argument.pairs m)) bs) (argument.equal all (λ p m. sub p (in-append_right p function.pairs argument.pairs m)) bs));
        }

    pub replaced-proved : (T : Typ) (t u : Term) → IsTypedUnder Q.declarations [] t T → IsReplaced Puts t u → Proves Q [] rests (eq T t u)
    replaced-proved T t u h k =
        let modulo = replaced-modulo t u h.parts k in
        equated_is_proved Q q above [] rests modulo.pairs modulo.are T t u
        (equated_node_by_node Q.declarations modulo.pairs [] T t u h (modulo.equal modulo.pairs (λ p m. m) []))

  -- So is the equation by which a definition is unfolded.
  pub unfolds-derivable : (T : Typ) (prop t u : Term) → IsTypedUnder Q.declarations [] t T → IsDerivable Q (record { hyps = []; pairs = []; prop = prop; rests = rests }) → Unfolds (algebra_of Q.declarations) prop t u
      → IsDerivable Q (record { hyps = []; pairs = []; prop = eq T t u; rests = rests })
  unfolds-derivable T prop t u typed h k =
      (derivable_is_proves Q [] rests (eq T t u)).1
      (replaced-proved (IsUnfolded (algebra_of Q.declarations) k.name k.typ k.body) (λ c U v certified is. unfolded-proved prop k.name k.typ k.body k.definition h c U v certified is) T t u typed k.each)

-- A definition is of one constant, as one body; so a term is unfolded to one term.
definition-once : (prop : Term) (c d : ℕ) (T U : Typ) (b r : Term) → IsDefinition prop c T b → IsDefinition prop d U r → (c ≡ d) × (T ≡ U) × (b ≡ r)
definition-once prop c d T U b r h k =
    let same : eq h.sides (Const c T) b ≡ eq k.sides (Const d U) r = sym h.equates ∙ k.equates in
    (cc, cc, cc)

pub unfolds-once : (A : Algebra) (prop t u v : Term) → Unfolds A prop t u → Unfolds A prop t v → u ≡ v
unfolds-once A prop t u v h k =
    let same = definition-once prop k.name h.name k.typ h.typ k.body h.body k.definition h.definition in
    let R : ℕ → Typ → Term → Type 0 = λ c T b. IsReplaced (IsUnfolded A c T b) t v in
    let moved : IsReplaced (IsUnfolded A h.name h.typ h.body) t v = subst (λ (b : Term). R h.name h.typ b) same.2 (subst (λ (T : Typ). R h.name T k.body) same.1 (subst (λ (c : ℕ). R c k.typ k.body) same.0 k.each)) in
    replaced-once (IsUnfolded A h.name h.typ h.body) (unfolded-once A h.name h.typ h.body h.definition.no_variable h.definition.no_extra) t u v h.each moved

pub unfolds-something : (A : Algebra) (prop t u : Term) → Unfolds A prop t u → ¬ UnfoldsNothing A prop t
unfolds-something A prop t u h k =
    let same = definition-once prop k.name h.name k.typ h.typ k.body h.body k.definition h.definition in
    let R : ℕ → Typ → Term → Type 0 = λ c T b. ¬ HasReplaced (IsUnfolded A c T b) t in
    let none : ¬ HasReplaced (IsUnfolded A h.name h.typ h.body) t = subst (λ (b : Term). R h.name h.typ b) same.2 (subst (λ (T : Typ). R h.name T k.body) same.1 (subst (λ (c : ℕ). R c k.typ k.body) same.0 k.none)) in
    none h.some
