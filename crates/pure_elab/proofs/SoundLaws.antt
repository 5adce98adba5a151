-- The answer is certified: what a draft of a sound vocabulary has is.
use Rattle.std.proofs.Common.{◌≡◌, ℕ, ◌+◌, Bool, true, false, List, [], ◌∷◌, ◌++◌, Option, Some, None, nat_eq, bytes_eq, if◌then◌else◌, refl, ap, sym, subst, ◌∙◌, eqb-true, arith}
use Rattle.pure_text.specs.Lists.{IsIn, Each}
use Rattle.pure_text.proofs.ListLaws.{each-append, each_of, each_at}
use Rattle.pure_grammar.specs.declared.token.TokenKind.{TokenKind}
use Rattle.pure_grammar.specs.declared.token.TokenKind.TheVariants as kind
use Rattle.pure_grammar.specs.Tokens.Token.{tail}
use Rattle.pure_grammar.specs.Terms.RawTree as raw
use Rattle.pure_grammar.specs.Terms.RawTree.{RawClassTree, RawTree, RawTypTree, RawTypTrees}
use Rattle.pure_definitions.specs.Types.Typ.{Typ, TVar, typs_count, arrow, typ_eq}
use Rattle.pure_definitions.specs.Types.Order.{IsOfSort}
use Rattle.pure_definitions.proofs.OrderLaws.{sort_below-itself}
use Rattle.pure_definitions.proofs.EntryLemmas.{chosen}
use Rattle.pure_definitions.specs.Terms.Subst.{TypBind, typ_variable, typ_image, typ_instance, inst_typ, AreSortRespecting}
use Rattle.pure_definitions.specs.Models.Equality.{typ_eq-same}
use Rattle.pure_definitions.specs.Declarations.Decl.{Decl, ConDecl, ConstDecl, algebra_of, IsDeclaredClass}
use Rattle.pure_definitions.specs.Declarations.Certified.{IsCertifiedSort, IsCertifiedTyp, AreCertifiedTyps, HasCertifiedParts}
use Rattle.pure_term_laws.proofs.SubstLaws.{entries-respect_sorts, entries-keep_fixed_typs}
use Rattle.pure_term_laws.proofs.MapLaws.{typ_instance-again}
use Rattle.pure_tunify.specs.Unifiers.{IsSubstitution}
use Rattle.pure_tunify.specs.Occurrences.{schematics}
use Rattle.pure_tunify.proofs.MapLaws.{after_is_substitution}
use Rattle.pure_elab.specs.declared.fault.FaultAt.{FaultAt}
use Rattle.pure_elab.specs.declared.fault.NameFault.TheVariants as fault
use Rattle.pure_elab.specs.declared.classes.WrittenClass.{WrittenClass}
use Rattle.pure_elab.specs.declared.meaning.Meaning.{Meaning}
use Rattle.pure_elab.specs.declared.meaning.Meaning.TheVariants as meaning
use Rattle.pure_elab.specs.Vocabulary.{Vocabulary}
use Rattle.pure_elab.specs.Meant.{bound_place, bound_or, constant_or, fixed_or_unknown, meant}
use Rattle.pure_elab.specs.Faults.{raw_typs_count, count_faults, constructor_faults, typ_faults, typs_faults, annotation_faults, leaf_faults, term_faults}
use Rattle.pure_elab.specs.Written.{found_class, found_classes, classes_at_found, variable_classes, typ_classes, typs_classes, annotation_classes, term_classes, classes_at, AreSorts, name_or, written_typ, written_typs}
use Rattle.pure_elab.specs.Numbered.{unknown_of, unknowns}
use Rattle.pure_elab.specs.Drafts.{Constraint, Draft, Binder, texts_of, bound_typ, typ_or_prop, raw_place, raw_typ_place, leaf_draft, constant_draft, binder_typ, behind_binder, unknown, draft}
use Rattle.pure_elab.specs.Sound.{IsSoundVocabulary}
use Rattle.pure_elab.proofs.NumberedLaws.{IsNumberEntry, numbered-each}
use Rattle.pure_tunify.proofs.CertifiedLaws.{HasCertifiedImages, instance_certified}

empty_left : {A : Type 0} (xs ys : List A) → xs ++ ys ≡ [] → xs ≡ []
empty_left [] ys e = refl
empty_left (x ∷ xs) ys e = absurd (cc)

empty_right : {A : Type 0} (xs ys : List A) → xs ++ ys ≡ [] → ys ≡ []
empty_right [] ys e = e
empty_right (x ∷ xs) ys e = absurd (cc)

never : {A : Type 0} (x : A) (xs : List A) → x ∷ xs ≡ [] → ⊥
never x xs e = absurd (cc)

-- A name that means a constant is written as it.
constant_or-constant : (o : Option ℕ) (m : Meaning) (c : ℕ) → ((d : ℕ) → m ≡ meaning.Constant d → ⊥) → constant_or o m ≡ meaning.Constant c → o ≡ Some c
constant_or-constant None m c f e = absurd (f c e)
constant_or-constant (Some d) m c f e = let same : d ≡ c = cc in ap Some same

fixed-other : (o : Option ℕ) (d : ℕ) → fixed_or_unknown o ≡ meaning.Constant d → ⊥
fixed-other None d e = absurd (cc)
fixed-other (Some x) d e = absurd (cc)

bound_or-constant : (o : Option ℕ) (m : Meaning) (c : ℕ) → bound_or o m ≡ meaning.Constant c → m ≡ meaning.Constant c
bound_or-constant None m c e = e
bound_or-constant (Some n) m c e = absurd (cc)

unknown-other : (d : ℕ) → meaning.Unknown ≡ meaning.Constant d → ⊥
unknown-other d e = absurd (cc)

meant-constant : (V : Vocabulary) (bs : List (List ℕ)) (k : TokenKind) (text : List ℕ) (c : ℕ) → meant V bs k text ≡ meaning.Constant c → V.constant_written text ≡ Some c
meant-constant V bs kind.Ident text c e = constant_or-constant (V.constant_written text) (fixed_or_unknown (V.name_written text)) c (fixed-other (V.name_written text)) (bound_or-constant (bound_place bs text) (constant_or (V.constant_written text) (fixed_or_unknown (V.name_written text))) c e)
meant-constant V bs kind.Qualified text c e = constant_or-constant (V.constant_written text) meaning.Unknown c unknown-other e
meant-constant V bs kind.BoundName text c e = absurd (unknown-other c (bound_or-constant (bound_place bs text) meaning.Unknown c e))
meant-constant V bs kind.Schem text c e = absurd (cc)
meant-constant V bs kind.Word text c e = absurd (cc)
meant-constant V bs kind.TypeVar text c e = absurd (cc)
meant-constant V bs kind.Number text c e = absurd (cc)
meant-constant V bs kind.Quote text c e = absurd (cc)
meant-constant V bs kind.Symbol text c e = absurd (cc)
meant-constant V bs kind.End text c e = absurd (cc)

module _ (ds : List Decl) (V : Vocabulary) (sound : IsSoundVocabulary ds V) where
  abbrev IsKnown : WrittenClass → Type 0
  IsKnown w = IsDeclaredClass ds w.class

  one_known : (o : Option ℕ) (x : ℕ) → ((c : ℕ) → o ≡ Some c → IsDeclaredClass ds c) → Each IsKnown (found_class x o)
  one_known None x f = tt
  one_known (Some c) x f = (f c refl, tt)

  found_known : (x : ℕ) (cs : List RawClassTree) → Each IsKnown (found_classes V x cs)
  found_known x [] = tt
  found_known x (c ∷ cs) = each-append IsKnown (found_class x (V.class_written c.name)) (found_classes V x cs) (one_known (V.class_written c.name) x (λ d e. sound.classes c.name d e)) (found_known x cs)

  at_found_known : (o : Option ℕ) (cs : List RawClassTree) → Each IsKnown (classes_at_found V o cs)
  at_found_known None cs = tt
  at_found_known (Some x) cs = found_known x cs

  variable_known : (k : TokenKind) (text : List ℕ) (cs : List RawClassTree) → Each IsKnown (variable_classes V k text cs)
  variable_known kind.TypeVar text cs = at_found_known (V.name_written (tail text)) cs
  variable_known kind.Ident text cs = tt
  variable_known kind.Qualified text cs = tt
  variable_known kind.BoundName text cs = tt
  variable_known kind.Schem text cs = tt
  variable_known kind.Word text cs = tt
  variable_known kind.Number text cs = tt
  variable_known kind.Quote text cs = tt
  variable_known kind.Symbol text cs = tt
  variable_known kind.End text cs = tt

  mutual
    pub typ_known : (t : RawTypTree) → Each IsKnown (typ_classes V t)
    typ_known (raw.Var at k text sort) = variable_known k text sort
    typ_known (raw.Con at name args) = typs_known args

    typs_known : (ts : RawTypTrees) → Each IsKnown (typs_classes V ts)
    typs_known raw.none = tt
    typs_known (raw.also t ts) = each-append IsKnown (typ_classes V t) (typs_classes V ts) (typ_known t) (typs_known ts)

  annotation_known : (o : Option RawTypTree) → Each IsKnown (annotation_classes V o)
  annotation_known None = tt
  annotation_known (Some t) = typ_known t

  pub term_known : (t : RawTree) → Each IsKnown (term_classes V t)
  term_known (raw.Leaf at k text) = tt
  term_known (raw.Abs at x ann body) = each-append IsKnown (annotation_classes V ann) (term_classes V body) (annotation_known ann) (term_known body)
  term_known (raw.App at f a) = each-append IsKnown (term_classes V f) (term_classes V a) (term_known f) (term_known a)
  term_known (raw.Typed at t ann) = each-append IsKnown (term_classes V t) (typ_classes V ann) (term_known t) (typ_known ann)

  classes_known : (ws : List WrittenClass) (x : ℕ) → Each IsKnown ws → Each (IsDeclaredClass ds) (classes_at ws x)
  classes_known [] x h = tt
  classes_known (w ∷ ws) x h = by_test (nat_eq w.variable x) (classes_known ws x h.1)
    where
      by_test : (q : Bool) → Each (IsDeclaredClass ds) (classes_at ws x) → Each (IsDeclaredClass ds) (if q then w.class ∷ classes_at ws x else classes_at ws x)
      by_test true rest = (h.0, rest)
      by_test false rest = rest

  -- The images of numbered variables.
  entry_image : (image : ℕ → List ℕ → Typ) → ((k : ℕ) (s : List ℕ) → IsCertifiedSort ds s → IsCertifiedTyp ds (image k s)) → (binds : List TypBind) → Each (IsNumberEntry image) binds
      → (x i : ℕ) (s : List ℕ) → IsCertifiedSort ds s → IsCertifiedTyp ds (typ_image binds (TVar x i s))
  entry_image image f [] h x i s c = c
  entry_image image f (b ∷ bs) h x i s c = chosen (IsCertifiedTyp ds) (typ_eq (typ_variable b) (TVar x i s)) b.image (typ_image bs (TVar x i s)) here (entry_image image f bs h.1 x i s c)
    where
      here : typ_eq (typ_variable b) (TVar x i s) ≡ true → IsCertifiedTyp ds b.image
      here e =
          let variable : typ_variable b ≡ TVar x i s = typ_eq-same (typ_variable b) (TVar x i s) e in
          let same : b.sort ≡ s = cc in
          subst (λ (T : Typ). IsCertifiedTyp ds T) (sym (h.0.1 ∙ ap (image h.0.0) same)) (f h.0.0 s c)

  pub images_of : (image : ℕ → List ℕ → Typ) → ((k : ℕ) (s : List ℕ) → IsCertifiedSort ds s → IsCertifiedTyp ds (image k s)) → (binds : List TypBind) → Each (IsNumberEntry image) binds → HasCertifiedImages ds sound.closed (typ_image binds)
  images_of image f binds h = record {
    fixed = λ x s c. subst (λ (T : Typ). IsCertifiedTyp ds T) (sym (entries-keep_fixed_typs binds x s)) c;
    schematic = λ x i s c. entry_image image f binds h x i s c;
  }

  each_respects : (image : ℕ → List ℕ → Typ) → ((k : ℕ) (s : List ℕ) → IsOfSort (algebra_of ds) (image k s) s) → (binds : List TypBind) → Each (IsNumberEntry image) binds → AreSortRespecting (algebra_of ds) binds
  each_respects image f [] h = tt
  each_respects image f (b ∷ bs) h = (subst (λ (T : Typ). IsOfSort (algebra_of ds) T b.sort) (sym h.0.1) (f h.0.0 b.sort), each_respects image f bs h.1)

  pub substitution_of : (image : ℕ → List ℕ → Typ) → ((k : ℕ) (s : List ℕ) → IsOfSort (algebra_of ds) (image k s) s) → (binds : List TypBind) → Each (IsNumberEntry image) binds → IsSubstitution (algebra_of ds) (typ_image binds)
  substitution_of image f binds h = record { respects = entries-respect_sorts (algebra_of ds) binds (each_respects image f binds h); keeps = entries-keep_fixed_typs binds }

  module _ (ws : List WrittenClass) (known : Each IsKnown ws) (sorts : ℕ → List ℕ) (are : AreSorts V.algebra ws sorts) where
    sort_certified : (x : ℕ) → IsCertifiedSort ds (sorts x)
    sort_certified x = ((are x).ascend, each_of (IsDeclaredClass ds) (sorts x) (λ c m. each_at (IsDeclaredClass ds) (classes_at ws x) (classes_known ws x known) c (((are x).reduced c).0 m).0))

    written_count : (ts : RawTypTrees) → typs_count (written_typs V sorts ts) ≡ raw_typs_count ts
    written_count raw.none = refl
    written_count (raw.also t ts) = ap (λ n. 1 + n) (written_count ts)

    counted_by : (q : Bool) (w : FaultAt) (k n count : ℕ) → nat_eq n count ≡ q → IsIn (ConDecl k n) ds → (if q then [] else w ∷ []) ≡ [] → IsIn (ConDecl k count) ds
    counted_by true w k n count t declared e = subst (λ (m : ℕ). IsIn (ConDecl k m) ds) (eqb-true n count t) declared
    counted_by false w k n count t declared e = absurd (never w [] e)

    counted : (at k : ℕ) (o : Option ℕ) (count : ℕ) → ((n : ℕ) → o ≡ Some n → IsIn (ConDecl k n) ds) → count_faults at o count ≡ [] → IsIn (ConDecl k count) ds
    counted at k None count f e = absurd (never (record { at = at; fault = fault.UnknownName }) [] e)
    counted at k (Some n) count f e = counted_by (nat_eq n count) (record { at = at; fault = fault.WrongCount }) k n count refl (f n refl) e

    constructor_declared : (at : ℕ) (o : Option ℕ) (count : ℕ) → constructor_faults V at o count ≡ [] → IsIn (ConDecl (name_or 0 o) count) ds
    constructor_declared at None count e = absurd (never (record { at = at; fault = fault.UnknownName }) [] e)
    constructor_declared at (Some k) count e = counted at k (V.params k) count (λ n h. sound.constructors k n h) e

    mutual
      pub written_certified : (t : RawTypTree) → typ_faults V t ≡ [] → IsCertifiedTyp ds (written_typ V sorts t)
      written_certified (raw.Var at k text sort) e = sort_certified (name_or 0 (V.name_written (tail text)))
      written_certified (raw.Con at name args) e =
          let con = empty_left (constructor_faults V at (V.constructor_written name) (raw_typs_count args)) (typs_faults V args) e in
          let rest = empty_right (constructor_faults V at (V.constructor_written name) (raw_typs_count args)) (typs_faults V args) e in
          (subst (λ (n : ℕ). IsIn (ConDecl (name_or 0 (V.constructor_written name)) n) ds) (sym (written_count args)) (constructor_declared at (V.constructor_written name) (raw_typs_count args) con), writtens_certified args rest)

      writtens_certified : (ts : RawTypTrees) → typs_faults V ts ≡ [] → AreCertifiedTyps ds (written_typs V sorts ts)
      writtens_certified raw.none e = tt
      writtens_certified (raw.also t ts) e = (written_certified t (empty_left (typ_faults V t) (typs_faults V ts) e), writtens_certified ts (empty_right (typ_faults V t) (typs_faults V ts) e))

    arrow_certified : (T U : Typ) → IsCertifiedTyp ds T → IsCertifiedTyp ds U → IsCertifiedTyp ds (arrow T U)
    arrow_certified T U h k = (sound.functions, (h, (k, tt)))

    unknown_certified : (n : ℕ) → IsCertifiedTyp ds (unknown n)
    unknown_certified n = (λ k within. absurd (omega arith), tt)

    -- What a draft has: its type and those of its constraints are certified, and the parts of its term under a substitution with certified images.
    pub record IsSoundDraft (d : Draft) : Type 0 where
      pub typ : IsCertifiedTyp ds d.typ
      pub constraints : Each (λ c. IsCertifiedTyp ds c.left × IsCertifiedTyp ds c.right) d.constraints
      pub parts : (typs : Typ → Typ) → HasCertifiedImages ds sound.closed typs → IsSubstitution (algebra_of ds) typs → HasCertifiedParts ds (inst_typ typs d.term)

    bound_certified : (bs : List Binder) (text : List ℕ) → Each (λ b. IsCertifiedTyp ds b.typ) bs → IsCertifiedTyp ds (bound_typ bs text)
    bound_certified [] text h = (sound.propositions, tt)
    bound_certified (b ∷ bs) text h = chosen (IsCertifiedTyp ds) (bytes_eq b.text text) b.typ (bound_typ bs text) (λ e. h.0) (bound_certified bs text h.1)

    constant_sound : (c next : ℕ) (T : Typ) → IsIn (ConstDecl c T) ds → IsCertifiedTyp ds T → IsSoundDraft (constant_draft c T next)
    constant_sound c next T declared certified =
        let binds = unknowns next T in
        let entries = numbered-each unknown_of next [] (schematics T) tt in
        let images = images_of unknown_of (λ k s h. h) binds entries in
        let first = substitution_of unknown_of (λ k s. sort_below-itself (algebra_of ds) s) binds entries in
        let U = typ_instance (typ_image binds) T in
        let typ = instance_certified ds sound.closed (typ_image binds) images T certified in
        record {
          typ = typ;
          constraints = tt;
          parts = λ typs under sub. (
            instance_certified ds sound.closed typs under U typ,
            (
              T,
              declared,
              record {
                typs = λ v. typ_instance typs (typ_image binds v);
                matches = record { fixed = λ x s. ap (typ_instance typs) (first.keeps x s) ∙ sub.keeps x s; is = sym (typ_instance-again (typ_image binds) typs T) };
                respecting = (after_is_substitution (algebra_of ds) (typ_image binds) typs first sub).respects;
              },
            ),
          );
        }

    leaf_sound : (bs : List Binder) (text : List ℕ) (m : Meaning) (next at : ℕ) → Each (λ b. IsCertifiedTyp ds b.typ) bs → leaf_faults at m ≡ [] → ((c : ℕ) → m ≡ meaning.Constant c → V.constant_written text ≡ Some c) → IsSoundDraft (leaf_draft V bs text m next)
    leaf_sound bs text (meaning.Constant c) next at h e f =
        let found = sound.constants text c (f c refl) in
        subst (λ (o : Option Typ). IsSoundDraft (constant_draft c (typ_or_prop o) next)) (sym found.1) (constant_sound c next found.0 found.2 found.3)
    leaf_sound bs text (meaning.Fixed x) next at h e f = record {
      typ = (λ k within. absurd (omega arith), tt);
      constraints = tt;
      parts = λ typs under sub. under.schematic x 1 [] (λ k within. absurd (omega arith), tt);
    }
    leaf_sound bs text (meaning.Bound n) next at h e f = record { typ = bound_certified bs text h; constraints = tt; parts = λ typs under sub. tt }
    leaf_sound bs text meaning.Schematic next at h e f = absurd (never (record { at = at; fault = fault.Schematic }) [] e)
    leaf_sound bs text meaning.Unknown next at h e f = absurd (never (record { at = at; fault = fault.UnknownName }) [] e)

    binder_certified : (o : Option RawTypTree) (next : ℕ) → annotation_faults V o ≡ [] → IsCertifiedTyp ds (binder_typ V sorts o next)
    binder_certified None next e = unknown_certified next
    binder_certified (Some t) next e = written_certified t e

    abbrev IsCertifiedConstraint : Constraint → Type 0
    IsCertifiedConstraint c = IsCertifiedTyp ds c.left × IsCertifiedTyp ds c.right

    pub draft_sound : (bs : List Binder) (t : RawTree) (next : ℕ) → Each (λ b. IsCertifiedTyp ds b.typ) bs → term_faults V (texts_of bs) t ≡ [] → IsSoundDraft (draft V sorts bs t next)
    draft_sound bs (raw.Leaf at k text) next h e = leaf_sound bs text (meant V (texts_of bs) k text) next at h e (λ c m. meant-constant V (texts_of bs) k text c m)
    draft_sound bs (raw.Abs at x ann body) next h e =
        let T = binder_typ V sorts ann next in
        let binder = binder_certified ann next (empty_left (annotation_faults V ann) (term_faults V (x ∷ texts_of bs) body) e) in
        let b = draft V sorts (record { text = x; typ = T } ∷ bs) body (behind_binder ann next) in
        let inside = draft_sound (record { text = x; typ = T } ∷ bs) body (behind_binder ann next) (binder, h) (empty_right (annotation_faults V ann) (term_faults V (x ∷ texts_of bs) body) e) in
        record {
          typ = arrow_certified T b.typ binder inside.typ;
          constraints = inside.constraints;
          parts = λ typs under sub. (instance_certified ds sound.closed typs under T binder, inside.parts typs under sub);
        }
    draft_sound bs (raw.App at f a) next h e =
        let df = draft V sorts bs f next in
        let da = draft V sorts bs a df.next in
        let function = draft_sound bs f next h (empty_left (term_faults V (texts_of bs) f) (term_faults V (texts_of bs) a) e) in
        let argument = draft_sound bs a df.next h (empty_right (term_faults V (texts_of bs) f) (term_faults V (texts_of bs) a) e) in
        let c : Constraint = record { at = raw_place a; left = df.typ; right = arrow da.typ (unknown da.next) } in
        let here : IsCertifiedConstraint c = (function.typ, arrow_certified da.typ (unknown da.next) argument.typ (unknown_certified da.next)) in
        record {
          typ = unknown_certified da.next;
          constraints = each-append IsCertifiedConstraint df.constraints (da.constraints ++ c ∷ []) function.constraints (each-append IsCertifiedConstraint da.constraints (c ∷ []) argument.constraints (here, tt));
          parts = λ typs under sub. (function.parts typs under sub, argument.parts typs under sub);
        }
    draft_sound bs (raw.Typed at t ann) next h e =
        let d = draft V sorts bs t next in
        let inside = draft_sound bs t next h (empty_left (term_faults V (texts_of bs) t) (typ_faults V ann) e) in
        let written = written_certified ann (empty_right (term_faults V (texts_of bs) t) (typ_faults V ann) e) in
        let c : Constraint = record { at = raw_typ_place ann; left = d.typ; right = written_typ V sorts ann } in
        record {
          typ = inside.typ;
          constraints = each-append IsCertifiedConstraint d.constraints (c ∷ []) inside.constraints ((inside.typ, written), tt);
          parts = inside.parts;
        }
