-- Over a content of declared classes alone, all settings on a path respect the content: those of type variables too.
use Rattle.std.proofs.Common.{◌≡◌, ℕ, ◌+◌, List, [], ◌∷◌, ◌++◌, refl, sym, subst}
use Rattle.pure_text.specs.Lists.{IsIn, Each}
use Rattle.pure_text.proofs.ListLaws.{each-append, each-right, each_imply}
use Rattle.pure_definitions.specs.Types.Typ.{Typ}
use Rattle.pure_definitions.specs.Types.Order.{Algebra}
use Rattle.pure_definitions.specs.Terms.Term.{Term, Const}
use Rattle.pure_definitions.specs.Terms.Subst.{TypBind}
use Rattle.pure_definitions.specs.Declarations.Decl.{algebra_of, IsDeclaredClass}
use Rattle.pure_definitions.specs.Declarations.Certified.{IsCertifiedTyp, HasCertifiedParts}
use Rattle.pure_logic.specs.Content.{Content, IsBelow}
use Rattle.pure_logic.specs.PureContent.{pure_content}
use Rattle.pure_logic.specs.Derivable.{Pair}
use Rattle.pure_logic.proofs.PartsLaws.{typ-certified}
use Rattle.pure_equation_laws.specs.Equated.{IsTypedUnder, IsPairEquated}
use Rattle.pure_tunify.specs.Settings.{composed}
use Rattle.pure_tunify.specs.Procedure.{Unified}
use Rattle.pure_tunify.specs.Closed.{AreClosed}
use Rattle.pure_tunify.proofs.SortLaws.{unified_substitution}
use Rattle.pure_tunify.proofs.ClosedLaws.{declared_closed}
use Rattle.pure_tunify.proofs.CertifiedLaws.{IsCertifiedBind, HasCertifiedImages, instance_certified, composed_certified, unifies_certified}
use Rattle.pure_unify_definitions.specs.Fronts.{head}
use Rattle.pure_unify_definitions.specs.Node.{Setting, Typs, Single, Node}
use Rattle.pure_unify_definitions.specs.Treatment.{Differ, Unify, IsTreatment, differ, constants}
use Rattle.pure_unify_definitions.specs.Retyping.{Goes, Unifying, IsRetyped, all_long}
use Rattle.pure_unify_definitions.specs.Simplification.{IsLeft, Applies, drops, retypes, puts, splits, unifies, Simple, Simplifies, simple, step, Visits, visited}
use Rattle.pure_unify_definitions.specs.Children.{IsChoice, children}
use Rattle.pure_unify_laws.specs.Reached.{IsRespecting, IsTypRespecting, AreSidesCertified, pair_after, Leads, at_once, by_child, IsReached}
use Rattle.pure_unify_laws.specs.Condition.{IsUnifyContent}
use Rattle.pure_unify_laws.proofs.SettingLaws.{settings-typed}
use Rattle.pure_unify_laws.proofs.ImageLaws.{single-respects, head-typed}
use Rattle.pure_unify_laws.proofs.SplitLaws.{AreSidesLong}
use Rattle.pure_unify_laws.proofs.SolvedLaws.{LeadsOn, IsChildOf, step-solves, at-pair, put-typed, sides-are-long, long-typed, child-is, visit-solves, settings_equate}

-- A constant at the head of a typed term has a certified type.
constant_certified : (Q : Content) (above : IsBelow pure_content Q) (t : Term) (X : Typ) (c : ℕ) (T : Typ) → IsTypedUnder Q.declarations [] t X → head t ≡ Const c T → IsCertifiedTyp Q.declarations T
constant_certified Q above t X c T h e =
    let found = head-typed Q above [] t X h in
    let parts : HasCertifiedParts Q.declarations (Const c T) = subst (λ (v : Term). HasCertifiedParts Q.declarations v) e found.2.parts in
    parts.0

module _ (Q : Content) (u : IsUnifyContent Q) (maxidx : ℕ) where
  abbrev A : Algebra
  A = algebra_of Q.declarations

  abbrev AreLongPairs : List Pair → Type 0
  AreLongPairs ps = Each (AreSidesLong Q.declarations) ps

  -- What unifies two certified types respects the content.
  pub typs-respect : (n : Node) (T U : Typ) (sets : List TypBind) (next : ℕ) → IsCertifiedTyp Q.declarations T → IsCertifiedTyp Q.declarations U → Unifying A maxidx n T U (Unified sets next) → IsRespecting Q (Typs sets)
  typs-respect n T U sets next c d found = record {
    sorts = (unified_substitution A sets next found).respects;
    types = record { fixed = λ x V. refl; schematic = λ x i V. refl };
    certified = record {
      fixed_typ = images.fixed;
      schematic_typ = images.schematic;
      fixed = λ x V h. instance_certified Q.declarations are_closed (composed sets) images V h;
      schematic = λ x i V h. instance_certified Q.declarations are_closed (composed sets) images V h;
    };
  }
    where
      are_closed : AreClosed A (IsDeclaredClass Q.declarations)
      are_closed = declared_closed Q.declarations u.declared

      binds : Each (IsCertifiedBind Q.declarations are_closed) sets
      binds = unifies_certified Q.declarations are_closed (maxidx + 65) found tt ((c, d), tt)

      images : HasCertifiedImages Q.declarations are_closed (composed sets)
      images = composed_certified Q.declarations are_closed sets binds

  -- The types that are unified are certified.
  pub differing : (p : Pair) (T U : Typ) → IsTreatment p.left p.right (Differ T U) → AreSidesLong Q.declarations p → IsCertifiedTyp Q.declarations T × IsCertifiedTyp Q.declarations U
  differing p T U (differ h k n) long = (typ-certified Q u.above [] p.left T tt long.0.typed.parts h, typ-certified Q u.above [] p.right U tt long.1.typed.parts k)

  pub of_constants : (p : Pair) (T U : Typ) → IsTreatment p.left p.right (Unify T U) → AreSidesLong Q.declarations p → IsCertifiedTyp Q.declarations T × IsCertifiedTyp Q.declarations U
  of_constants p T U (constants {c = c} g e k d) long = (constant_certified Q u.above p.left long.0.typ c T long.0.typed e, constant_certified Q u.above p.right long.1.typ c U long.1.typed k)

  retyped-kept : (n m : Node) (T U : Typ) → IsCertifiedTyp Q.declarations T × IsCertifiedTyp Q.declarations U → IsRetyped A maxidx n T U (Goes m) → Each (IsRespecting Q) n.path.settings → Each (IsRespecting Q) m.path.settings
  retyped-kept n m T U c (all_long {sets = sets} {next = next} found apart l) r = each-append (IsRespecting Q) n.path.settings (Typs sets ∷ []) r (typs-respect n T U sets next c.0 c.1 found, tt)

  long_pair : (n : Node) (front : List Pair) (p : Pair) (rest : List Pair) → n.pairs ≡ front ++ p ∷ rest → AreLongPairs n.pairs → AreSidesLong Q.declarations p
  long_pair n front p rest stands long = (at-pair Q u.content u.above A maxidx n.pairs front p rest stands long).0

  step-settings : (n m : Node) → Applies A maxidx n (Goes m) → Each (IsRespecting Q) n.path.settings → AreLongPairs n.pairs → Each (IsRespecting Q) m.path.settings
  step-settings n m (drops f) r long = r
  step-settings n m (retypes {front = front} {rest = rest} {p = p} {T = T} {U = U} f t) r long = retyped-kept n m T U (differing p T U f.treated (long_pair n front p rest f.stands long)) t r
  step-settings n m (puts {front = front} {rest = rest} {p = p} {b = b} f l) r long =
      each-append (IsRespecting Q) n.path.settings (Single b ∷ []) r (single-respects Q b (put-typed Q u.content u.above A maxidx p b f.treated (long_pair n front p rest f.stands long)), tt)
  step-settings n m (splits f) r long = r
  step-settings n m (unifies {front = front} {rest = rest} {p = p} {T = T} {U = U} {m = k} f t a) r long =
      subst (λ (o : Node). Each (IsRespecting Q) o.path.settings) (sym a.are) (retyped-kept n k T U (of_constants p T U f.treated (long_pair n front p rest f.stands long)) t r)

  -- A step keeps sides long, and all settings respect the content.
  pub step-kept : (n m : Node) → Applies A maxidx n (Goes m) → Each (IsRespecting Q) n.path.settings → AreLongPairs n.pairs → Each (IsRespecting Q) m.path.settings × AreLongPairs m.pairs
  step-kept n m f r long = (all, on.long (each-right (IsRespecting Q) n.path.settings on.more (subst (λ (ss : List Setting). Each (IsRespecting Q) ss) on.are all)) long)
    where
      all : Each (IsRespecting Q) m.path.settings
      all = step-settings n m f r long

      on : LeadsOn Q u.content u.above A maxidx n m
      on = step-solves Q u.content u.above A maxidx n m f

  pub simplified-kept : {n m : Node} → Simplifies A maxidx n (Simple m) → Each (IsRespecting Q) n.path.settings → AreLongPairs n.pairs → Each (IsRespecting Q) m.path.settings × AreLongPairs m.pairs
  simplified-kept (simple each) r long = (r, long)
  simplified-kept {n = n} (step {m = k} f s) r long = let next = step-kept n k f r long in simplified-kept s next.0 next.1

  -- So does a visit, of certified sides.
  pub visit-kept : (n m : Node) → Visits A maxidx n (Simple m) → Each (IsRespecting Q) n.path.settings → Each (AreSidesCertified Q.declarations) n.pairs → Each (IsRespecting Q) m.path.settings × AreLongPairs m.pairs
  visit-kept n m (visited l s) r typed = simplified-kept s r (sides-are-long Q u.content u.above A maxidx l typed)

  -- And a child of a simple node, whose sides are certified.
  pub child-kept : (k c : Node) (f h : Term) → IsChoice k.pairs f h → IsIn c (children maxidx k f h) → Each (IsRespecting Q) k.path.settings → AreLongPairs k.pairs → Each IsLeft k.pairs
      → Each (IsRespecting Q) c.path.settings × Each (AreSidesCertified Q.declarations) c.pairs
  child-kept k c f h choice i r long lefts = (
    subst (λ (ss : List Setting). Each (IsRespecting Q) ss) (sym own.settings) (each-append (IsRespecting Q) k.path.settings (Single own.set ∷ []) r (set, tt)),
    subst (λ (ps : List Pair). Each (AreSidesCertified Q.declarations) ps) (sym own.pairs) (settings-typed Q u.content u.above (Single own.set) set k.pairs (long-typed Q u.content u.above A maxidx k.pairs long)),
  )
    where
      own : IsChildOf Q u.content u.above A maxidx k c
      own = child-is Q u.content u.above A maxidx k c f h choice i

      set : IsRespecting Q (Single own.set)
      set = single-respects Q own.set (own.image long lefts)

  pub leads-kept : {n m : Node} → Leads A maxidx n m → Each (IsRespecting Q) n.path.settings → Each (AreSidesCertified Q.declarations) n.pairs → Each (IsRespecting Q) m.path.settings × AreLongPairs m.pairs
  leads-kept {n = n} {m = m} (at_once v) r typed = visit-kept n m v r typed
  leads-kept {n = n} (by_child {k = k} {c = c} f h v choice i l) r typed =
      let inner = visit-kept n k v r typed in
      let below = child-kept k c f h choice i inner.0 inner.1 (visit-solves Q u.content u.above A maxidx n k v).lefts in
      leads-kept l below.0 below.1

pub all_settings_respect : (Q : Content) → IsUnifyContent Q → (maxidx : ℕ) (ps : List Pair) → Each (AreSidesCertified Q.declarations) ps → (m : Node) → IsReached (algebra_of Q.declarations) maxidx ps m → Each (IsRespecting Q) m.path.settings
all_settings_respect Q u maxidx ps certified m reached = (leads-kept Q u maxidx reached.leads tt certified).0

-- Each setting respects the content where each of type variables does.
typ_respecting : (Q : Content) (s : Setting) → IsRespecting Q s → IsTypRespecting Q s
typ_respecting Q (Typs bs) r = r
typ_respecting Q (Single b) r = tt

pub all_settings_equate : (Q : Content) → IsUnifyContent Q → (maxidx : ℕ) (ps : List Pair) → Each (AreSidesCertified Q.declarations) ps → (m : Node) → IsReached (algebra_of Q.declarations) maxidx ps m
    → Each (λ p. IsPairEquated Q.declarations m.pairs (pair_after m.path.settings p)) ps
all_settings_equate Q u maxidx ps certified m reached =
    settings_equate Q u.content u.above maxidx ps certified m reached
    (each_imply (IsRespecting Q) (IsTypRespecting Q) m.path.settings (λ s r. typ_respecting Q s r) (all_settings_respect Q u maxidx ps certified m reached))
