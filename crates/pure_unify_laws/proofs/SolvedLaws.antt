-- After the settings on the path to a success the sides of the given pairs are equated modulo its pairs.
use Rattle.std.proofs.Common.{◌≡◌, ℕ, ◌+◌, List, [], ◌∷◌, ◌++◌, map, length, inl, inr, refl, ap, sym, subst, ◌∙◌, append_assoc, arith}
use Rattle.std.proofs.lemmas.List.{append-nil}
use Rattle.pure_text.specs.Lists.{IsIn, Each}
use Rattle.pure_text.proofs.ListLaws.{each-append, each-left, each-right, each_of, each_at}
use Rattle.pure_definitions.specs.Types.Typ.{Typ}
use Rattle.pure_definitions.specs.Types.Order.{Algebra}
use Rattle.pure_definitions.specs.Terms.Term.{Term, Const, Free, Var, Bound, Abs, App}
use Rattle.pure_definitions.specs.Terms.Bounds.{Occurs}
use Rattle.pure_definitions.specs.Terms.Typing.{HasType}
use Rattle.pure_definitions.specs.Terms.Subst.{TypBind, TermBind, term_image, typ_instance}
use Rattle.pure_definitions.specs.Reduction.Eta.{IsEtaNormalForm}
use Rattle.pure_definitions.specs.Models.Equality.{term_eq-itself}
use Rattle.pure_definitions.proofs.BindLemmas.{term_eq-other}
use Rattle.pure_definitions.specs.Declarations.Decl.{algebra_of}
use Rattle.pure_term_laws.proofs.TypingLaws.{typed-once}
use Rattle.pure_term_laws.proofs.SubstLaws.{inst_term-alone, term_instance-identity}
use Rattle.pure_term_laws.proofs.OccursLaws.{agreeing_instance}
use Rattle.pure_logic.specs.Content.{Content, IsContent, IsBelow}
use Rattle.pure_logic.specs.PureContent.{pure_content}
use Rattle.pure_logic.specs.Derivable.{Pair}
use Rattle.pure_equation_laws.specs.Equated.{IsTypedUnder, AreEquated, IsPairEquated}
use Rattle.pure_equation_laws.proofs.SidesLaws.{equated_are_typed}
use Rattle.pure_equation_laws.proofs.KeptLaws.{typed-instance, equated_modulo_others}
use Rattle.pure_tunify.specs.Settings.{composed}
use Rattle.pure_equation_laws.proofs.ReductionLaws.{eta_normal_form_is_equated}
use Rattle.pure_unify_definitions.specs.Fronts.{head, range, pair, argument_pairs}
use Rattle.pure_unify_definitions.specs.Node.{Setting, Typs, Single, Node, root, bind, with_setting, with_setting_put, term_after}
use Rattle.pure_unify_definitions.specs.LongSides.{Long, ComesTo, is_long, AllLong, AreLong, no_more, both_long}
use Rattle.pure_unify_definitions.specs.Treatment.{Drop, Put, Split, Unify, IsBareSide, left_bare, right_bare, IsTreatment, equal, absent, same_heads, constants, left}
use Rattle.pure_unify_definitions.specs.Retyping.{Goes, IsRetyped, all_long}
use Rattle.pure_unify_definitions.specs.Simplification.{IsLeft, IsFirst, with_pairs, with_bind, IsSplitAt, Applies, drops, retypes, puts, splits, unifies, Simple, Simplifies, simple, step, Visits, visited}
use Rattle.pure_unify_definitions.specs.Children.{HasFlexible, on_left, on_right, IsChoice, children, child, images}
use Rattle.pure_unify_laws.specs.Reached.{setting_typs, setting_terms, IsRespecting, IsTypRespecting, AreSidesCertified, pair_after, Leads, at_once, by_child, IsReached}
use Rattle.pure_unify_laws.proofs.SettingLaws.{after-more, join, turned, after-equated, after-reduced, settings-typed, comes-equated}
use Rattle.pure_unify_laws.proofs.HeadLaws.{head-long, unified-equal}
use Rattle.pure_unify_laws.proofs.ImageLaws.{single-respects, head-typed, images-typed}
use Rattle.pure_unify_laws.proofs.SplitLaws.{IsLongIn, AreSidesLong, long-is, argument_pairs-long, split-equated}

-- A setting of a variable, put in for it, and into a term in which it doesn't occur.
pub own-image : (x i : ℕ) (T : Typ) (u : Term) → with_setting (Single (bind x i T u)) (Var x i T) ≡ u
own-image x i T u = rw (term_eq-itself (Var x i T)) refl

pub other-image : (x i : ℕ) (T : Typ) (u t : Term) → ¬ Occurs (Var x i T) t → with_setting (Single (bind x i T u)) t ≡ t
other-image x i T u t free =
    inst_term-alone (term_image (bind x i T u ∷ [])) t
    ∙ (agreeing_instance (λ v. v) (λ v. v) (term_image (bind x i T u ∷ [])) (λ v. v) t (record { on_typs = λ v is o. refl; on_terms = λ w is o. kept w o })
    ∙ term_instance-identity t)
  where
    kept : (w : Term) → Occurs w t → term_image (bind x i T u ∷ []) w ≡ w
    kept w o = rw (term_eq-other (Var x i T) w (λ e. free (subst (λ (v : Term). Occurs v t) (sym e) o))) refl

module _ (Q : Content) (q : IsContent Q) (above : IsBelow pure_content Q) (A : Algebra) (maxidx : ℕ) where
  -- After settings the sides of each of the pairs are equated modulo others.
  abbrev pub AreSolved : (ms : List Pair) → List Setting → List Pair → Type 0
  AreSolved ms ss ps = Each (λ p. IsPairEquated Q.declarations ms (pair_after ss p)) ps

  -- What is solved with a setting put in is solved after the setting.
  pub solved-put : (ms : List Pair) (s : Setting) (ss : List Setting) (ps : List Pair) → AreSolved ms ss (with_setting_put s ps) → AreSolved ms (s ∷ ss) ps
  solved-put ms s ss [] h = tt
  solved-put ms s ss (p ∷ ps) h = (h.0, solved-put ms s ss ps h.1)

  -- What is solved in long form is solved.
  pub solved-long : (ms : List Pair) (ss : List Setting) → Each (IsRespecting Q) ss → {ps qs : List Pair} → AreLong ps (AllLong qs) → Each (AreSidesCertified Q.declarations) ps → AreSolved ms ss qs → AreSolved ms ss ps
  solved-long ms ss r no_more typed h = tt
  solved-long ms ss r (both_long {p = p} {l = l} {r = k} f g rest) typed h =
      let one = after-reduced Q q above ss r ms p.left l (comes-equated Q q above p.left l typed.0.0 f) in
      let other = after-reduced Q q above ss r ms p.right k (comes-equated Q q above p.right k typed.0.1 g) in (
        join Q.declarations ms [] (term_after ss p.left) (term_after ss l) (term_after ss p.right) one
            (join Q.declarations ms [] (term_after ss l) (term_after ss k) (term_after ss p.right) h.0 (turned Q.declarations ms [] (term_after ss p.right) (term_after ss k) other)),
        solved-long ms ss r rest typed.1 h.1,
      )

  -- Long forms are long.
  pub side-is-long : (t u : Term) → (T : Typ) × IsTypedUnder Q.declarations [] t T → ComesTo t (Long u) → IsLongIn Q.declarations [] u
  side-is-long t u h (is_long {n = n} b l w) =
      let e = comes-equated Q q above t u h (is_long b l w) in
      long-is Q.declarations n u e.0 (equated_are_typed Q.declarations [] [] e.0 t u e.1).1 l

  pub sides-are-long : {ps qs : List Pair} → AreLong ps (AllLong qs) → Each (AreSidesCertified Q.declarations) ps → Each (AreSidesLong Q.declarations) qs
  sides-are-long no_more typed = tt
  sides-are-long (both_long {p = p} {l = l} {r = k} f g rest) typed = ((side-is-long p.left l typed.0.0 f, side-is-long p.right k typed.0.1 g), sides-are-long rest typed.1)

  pub long-typed : (ps : List Pair) → Each (AreSidesLong Q.declarations) ps → Each (AreSidesCertified Q.declarations) ps
  long-typed [] h = tt
  long-typed (p ∷ ps) h = (((h.0.0.typ, h.0.0.typed), (h.0.1.typ, h.0.1.typed)), long-typed ps h.1)

  -- A typed term is typed after settings.
  pub after-typed : (ss : List Setting) → Each (IsRespecting Q) ss → (t : Term) → IsLongIn Q.declarations [] t → (T : Typ) × IsTypedUnder Q.declarations [] (term_after ss t) T
  after-typed ss r t h =
      let e = after-reduced Q q above ss r [] t t (h.typ, AreEquated.same h.typed) in
      (e.0, (equated_are_typed Q.declarations [] [] e.0 (term_after ss t) (term_after ss t) e.1).0)

  -- From a node to one that comes of it: further settings, under which long sides stay long, and behind which what solves the one solves the other.
  pub record LeadsOn (n m : Node) : Type 0 where
    pub more : List Setting
    pub are : m.path.settings ≡ n.path.settings ++ more
    pub long : Each (IsRespecting Q) more → Each (AreSidesLong Q.declarations) n.pairs → Each (AreSidesLong Q.declarations) m.pairs
    pub respects : Each (IsTypRespecting Q) more → Each (AreSidesLong Q.declarations) n.pairs → Each (IsRespecting Q) more
    pub solved : (ms : List Pair) (ss : List Setting) → Each (IsRespecting Q) (more ++ ss) → Each (AreSidesLong Q.declarations) n.pairs → AreSolved ms ss m.pairs → AreSolved ms (more ++ ss) n.pairs

  -- The first pair's sides are equated, and so are those of the others.
  pub put_back : (ms : List Pair) (ss : List Setting) (ps front : List Pair) (p : Pair) (rest : List Pair) → ps ≡ front ++ p ∷ rest → IsPairEquated Q.declarations ms (pair_after ss p) → AreSolved ms ss (front ++ rest) → AreSolved ms ss ps
  put_back ms ss ps front p rest e here h =
      rw e (each-append (λ p. IsPairEquated Q.declarations ms (pair_after ss p)) front (p ∷ rest) (each-left (λ p. IsPairEquated Q.declarations ms (pair_after ss p)) front rest h)
      (here, each-right (λ p. IsPairEquated Q.declarations ms (pair_after ss p)) front rest h))

  -- the long sides of the first pair, and of the others
  pub at-pair : (ps front : List Pair) (p : Pair) (rest : List Pair) → ps ≡ front ++ p ∷ rest → Each (AreSidesLong Q.declarations) ps → AreSidesLong Q.declarations p × Each (AreSidesLong Q.declarations) (front ++ rest)
  at-pair ps front p rest e h =
      let whole = subst (λ (qs : List Pair). Each (AreSidesLong Q.declarations) qs) e h in
      let behind : Each (AreSidesLong Q.declarations) (p ∷ rest) = each-right (AreSidesLong Q.declarations) front (p ∷ rest) whole in
      (behind.0, each-append (AreSidesLong Q.declarations) front rest (each-left (AreSidesLong Q.declarations) front (p ∷ rest) whole) behind.1)

  drop-solves : (n : Node) (front : List Pair) (p : Pair) (rest : List Pair) → IsFirst n.pairs front p rest Drop → LeadsOn n (with_pairs n (front ++ rest))
  drop-solves n front p rest f = record {
    more = [];
    are = sym (append-nil n.path.settings);
    long = λ r h. (at-pair n.pairs front p rest f.stands h).1;
    respects = λ r h. tt;
    solved = λ ms ss r h s. put_back ms ss n.pairs front p rest f.stands (here f.treated ms ss r (at-pair n.pairs front p rest f.stands h).0.0) s;
  }
    where
      here : IsTreatment p.left p.right Drop → (ms : List Pair) (ss : List Setting) → Each (IsRespecting Q) ss → IsLongIn Q.declarations [] p.left → IsPairEquated Q.declarations ms (pair_after ss p)
      here (equal e) ms ss r h =
          let same = after-reduced Q q above ss r ms p.left p.left (h.typ, AreEquated.same h.typed) in
          (same.0, subst (λ (t : Term). AreEquated Q.declarations ms [] same.0 (term_after ss p.left) (term_after ss t)) e same.1)

  -- A setting is put into long sides, and these are brought to long form.
  pub setting-solves : (s : Setting) (ps qs : List Pair) → AreLong (with_setting_put s ps) (AllLong qs) → (ms : List Pair) (ss : List Setting) → Each (IsRespecting Q) (s ∷ ss) → Each (AreSidesLong Q.declarations) ps
      → AreSolved ms ss qs → AreSolved ms (s ∷ ss) ps
  setting-solves s ps qs l ms ss r h solved =
      solved-put ms s ss ps (solved-long ms ss r.1 l (settings-typed Q q above s r.0 ps (long-typed ps h)) solved)

  pub setting-long : (s : Setting) (ps qs : List Pair) → AreLong (with_setting_put s ps) (AllLong qs) → IsRespecting Q s → Each (AreSidesLong Q.declarations) ps → Each (AreSidesLong Q.declarations) qs
  setting-long s ps qs l r h = sides-are-long l (settings-typed Q q above s r ps (long-typed ps h))

  retype-solves : (n m : Node) (T U : Typ) → IsRetyped A maxidx n T U (Goes m) → LeadsOn n m
  retype-solves n m T U (all_long {sets = sets} {qs = qs} u apart l) = record {
    more = Typs sets ∷ [];
    are = refl;
    long = λ r h. setting-long (Typs sets) n.pairs qs l r.0 h;
    respects = λ r h. r;
    solved = λ ms ss r h s. setting-solves (Typs sets) n.pairs qs l ms ss r h s;
  }

  -- A bare variable set to the other side.
  side-solves : (x i : ℕ) (T : Typ) (u bare other : Term) → IsEtaNormalForm bare (Var x i T) → ¬ Occurs (Var x i T) other → IsEtaNormalForm other u → IsLongIn Q.declarations [] bare → IsLongIn Q.declarations [] other
      → (ms : List Pair) (ss : List Setting) → Each (IsRespecting Q) (Single (bind x i T u) ∷ ss) → (V : Typ) × AreEquated Q.declarations ms [] V (term_after (Single (bind x i T u) ∷ ss) bare) (term_after (Single (bind x i T u) ∷ ss) other)
  side-solves x i T u bare other f free g h k ms ss r =
      let s = Single (bind x i T u) in
      let variable : (V : Typ) × AreEquated Q.declarations [] [] V bare (Var x i T) = (h.typ, eta_normal_form_is_equated Q.declarations [] [] h.typ bare (Var x i T) h.typed f) in
      let image : (V : Typ) × AreEquated Q.declarations [] [] V other u = (k.typ, eta_normal_form_is_equated Q.declarations [] [] k.typ other u k.typed g) in
      let first = after-reduced Q q above (s ∷ ss) r ms bare (Var x i T) variable in
      let second = after-reduced Q q above ss r.1 ms other u image in
      let own : (V : Typ) × AreEquated Q.declarations ms [] V (term_after (s ∷ ss) bare) (term_after ss u) = (first.0, subst (λ (t : Term). AreEquated Q.declarations ms [] first.0 (term_after (s ∷ ss) bare) (term_after ss t)) (own-image x i T u) first.1) in
      let kept : (V : Typ) × AreEquated Q.declarations ms [] V (term_after ss u) (term_after (s ∷ ss) other) =
      (second.0, subst (λ (t : Term). AreEquated Q.declarations ms [] second.0 (term_after ss u) (term_after ss t)) (sym (other-image x i T u other free)) (AreEquated.back second.1)) in
      join Q.declarations ms [] (term_after (s ∷ ss) bare) (term_after ss u) (term_after (s ∷ ss) other) own kept

  pub put-pair : (p : Pair) (x i : ℕ) (T : Typ) (u other : Term) → IsBareSide p.left p.right (Var x i T) other → ¬ Occurs (Var x i T) other → IsEtaNormalForm other u → AreSidesLong Q.declarations p
      → (ms : List Pair) (ss : List Setting) → Each (IsRespecting Q) (Single (bind x i T u) ∷ ss) → IsPairEquated Q.declarations ms (pair_after (Single (bind x i T u) ∷ ss) p)
  put-pair p x i T u other (left_bare b e) free g h ms ss r =
      side-solves x i T u p.left p.right b.form (subst (λ (t : Term). ¬ Occurs (Var x i T) t) e free) (subst (λ (t : Term). IsEtaNormalForm t u) e g) h.0 h.1 ms ss r
  put-pair p x i T u other (right_bare none b e) free g h ms ss r =
      turned Q.declarations ms [] (term_after (Single (bind x i T u) ∷ ss) p.right) (term_after (Single (bind x i T u) ∷ ss) p.left)
      (side-solves x i T u p.right p.left b.form (subst (λ (t : Term). ¬ Occurs (Var x i T) t) e free) (subst (λ (t : Term). IsEtaNormalForm t u) e g) h.1 h.0 ms ss r)

  -- a side in long form, at its type
  pub at-typ : (t : Term) (X : Typ) → IsLongIn Q.declarations [] t → HasType [] t X → IsTypedUnder Q.declarations [] t X
  at-typ t X h k = let same : h.typ ≡ X = typed-once [] t h.typ X h.typed.typed k in subst (λ (V : Typ). IsTypedUnder Q.declarations [] t V) same h.typed

  pub image-of-side : (x i : ℕ) (T X : Typ) (u bare other : Term) → IsTypedUnder Q.declarations [] bare X → IsTypedUnder Q.declarations [] other X → IsEtaNormalForm bare (Var x i T) → IsEtaNormalForm other u → IsTypedUnder Q.declarations [] u T
  image-of-side x i T X u bare other h k f g =
      let variable = (equated_are_typed Q.declarations [] [] X bare (Var x i T) (eta_normal_form_is_equated Q.declarations [] [] X bare (Var x i T) h f)).1 in
      let image = (equated_are_typed Q.declarations [] [] X other u (eta_normal_form_is_equated Q.declarations [] [] X other u k g)).1 in
      subst (λ (V : Typ). IsTypedUnder Q.declarations [] u V) (sym variable.typed) image

  -- The image of a bare variable is certified and has its type.
  pub put-typed : (p : Pair) (b : TermBind) → IsTreatment p.left p.right (Put b) → AreSidesLong Q.declarations p → IsTypedUnder Q.declarations [] b.image b.typ
  put-typed p b (absent {x = x} {i = i} {T = T} {other = o} {u = u} t side free g) h = by side
    where
      by : IsBareSide p.left p.right (Var x i T) o → IsTypedUnder Q.declarations [] u T
      by (left_bare f e) = image-of-side x i T t.typ u p.left p.right (at-typ p.left t.typ h.0 t.left) (at-typ p.right t.typ h.1 t.right) f.form (subst (λ (v : Term). IsEtaNormalForm v u) e g)
      by (right_bare none f e) = image-of-side x i T t.typ u p.right p.left (at-typ p.right t.typ h.1 t.right) (at-typ p.left t.typ h.0 t.left) f.form (subst (λ (v : Term). IsEtaNormalForm v u) e g)

  put-solves : (n : Node) (front : List Pair) (p : Pair) (rest qs : List Pair) (b : TermBind) → IsFirst n.pairs front p rest (Put b) → AreLong (with_setting_put (Single b) (front ++ rest)) (AllLong qs) → LeadsOn n (with_bind n b qs)
  put-solves n front p rest qs b f l = record {
    more = Single b ∷ [];
    are = refl;
    long = λ r h. setting-long (Single b) (front ++ rest) qs l r.0 (at-pair n.pairs front p rest f.stands h).1;
    respects = λ r h. (single-respects Q b (put-typed p b f.treated (at-pair n.pairs front p rest f.stands h).0), tt);
    solved = λ ms ss r h s.
        let sides = at-pair n.pairs front p rest f.stands h in
        put_back ms (Single b ∷ ss) n.pairs front p rest f.stands (here b f.treated ms ss r sides.0) (setting-solves (Single b) (front ++ rest) qs l ms ss r sides.1 s);
  }
    where
      here : (b : TermBind) → IsTreatment p.left p.right (Put b) → (ms : List Pair) (ss : List Setting) → Each (IsRespecting Q) (Single b ∷ ss) → AreSidesLong Q.declarations p → IsPairEquated Q.declarations ms (pair_after (Single b ∷ ss) p)
      here b (absent {x = x} {i = i} {T = T} {other = o} {u = u} t side free g) ms ss r h = put-pair p x i T u o side free g h ms ss r

  -- A pair is split into those of the arguments, of the sides with one head and one type.
  pub split-pair : (front : List Pair) (p : Pair) (rest : List Pair) (T : Typ) → HasType [] p.left T → HasType [] p.right T → head p.left ≡ head p.right → AreSidesLong Q.declarations p → (ms : List Pair) (ss : List Setting) → Each (IsRespecting Q) ss
      → AreSolved ms ss (front ++ (argument_pairs p.left p.right ++ rest)) → AreSolved ms ss (front ++ p ∷ rest)
  split-pair front p rest T h k e long ms ss r s =
      let behind = each-right (λ p. IsPairEquated Q.declarations ms (pair_after ss p)) front (argument_pairs p.left p.right ++ rest) s in
      let here = split-equated Q.declarations ms ss p.left p.right T h k long.0 long.1 e (after-typed ss r p.left long.0)
      (each-left (λ p. IsPairEquated Q.declarations ms (pair_after ss p)) (argument_pairs p.left p.right) rest behind) in
      each-append (λ p. IsPairEquated Q.declarations ms (pair_after ss p)) front (p ∷ rest)
      (each-left (λ p. IsPairEquated Q.declarations ms (pair_after ss p)) front (argument_pairs p.left p.right ++ rest) s)
      (here, each-right (λ p. IsPairEquated Q.declarations ms (pair_after ss p)) (argument_pairs p.left p.right) rest behind)

  pub split-long : (front : List Pair) (p : Pair) (rest : List Pair) → AreSidesLong Q.declarations p → Each (AreSidesLong Q.declarations) (front ++ rest) → Each (AreSidesLong Q.declarations) (front ++ (argument_pairs p.left p.right ++ rest))
  split-long front p rest here h =
      each-append (AreSidesLong Q.declarations) front (argument_pairs p.left p.right ++ rest) (each-left (AreSidesLong Q.declarations) front rest h)
      (each-append (AreSidesLong Q.declarations) (argument_pairs p.left p.right) rest (argument_pairs-long Q.declarations p.left p.right here.0 here.1) (each-right (AreSidesLong Q.declarations) front rest h))

  -- Sides that were put in stand where they stood.
  pub placed : (s : Setting) (front : List Pair) (p : Pair) (rest : List Pair) {qs : List Pair} → AreLong (with_setting_put s (front ++ p ∷ rest)) (AllLong qs) → (before : List Pair) (at : Pair) (behind : List Pair) → qs ≡ before ++ at ∷ behind → length before ≡ length front
      → ComesTo (with_setting s p.left) (Long at.left) × ComesTo (with_setting s p.right) (Long at.right)
  placed s [] p rest (both_long {l = l} {r = k} f g more) [] at behind e n =
      let here : pair l k ≡ at = cc in
      let lefts : l ≡ at.left = ap (λ (x : Pair). x.left) here in
      let rights : k ≡ at.right = ap (λ (x : Pair). x.right) here in
      (subst (λ (t : Term). ComesTo (with_setting s p.left) (Long t)) lefts f, subst (λ (t : Term). ComesTo (with_setting s p.right) (Long t)) rights g)
  placed s [] p rest (both_long f g more) (b ∷ before) at behind e n = absurd (omega arith)
  placed s (x ∷ front) p rest (both_long f g more) [] at behind e n = absurd (omega arith)
  placed s (x ∷ front) p rest (both_long {qs = qs} f g more) (b ∷ before) at behind e n =
      let later : qs ≡ before ++ at ∷ behind = cc in
      placed s front p rest more before at behind later (omega arith)

  -- the type of a side that was retyped and brought to long form
  pub retyped-side : (sets : List TypBind) → IsRespecting Q (Typs sets) → (t u : Term) (T : Typ) → IsLongIn Q.declarations [] t → HasType [] t T → ComesTo (with_setting (Typs sets) t) (Long u) → HasType [] u (typ_instance (composed sets) T)
  retyped-side sets r t u T h typed come =
      let own : h.typ ≡ T = typed-once [] t h.typ T h.typed.typed typed in
      let put : IsTypedUnder Q.declarations [] (with_setting (Typs sets) t) (typ_instance (composed sets) h.typ) = typed-instance Q q (setting_typs (Typs sets)) (setting_terms (Typs sets)) r [] [] t h.typ h.typed in
      let e = comes-equated Q q above (with_setting (Typs sets) t) u (typ_instance (composed sets) h.typ, put) come in
      let sides = equated_are_typed Q.declarations [] [] e.0 (with_setting (Typs sets) t) u e.1 in
      let same : e.0 ≡ typ_instance (composed sets) h.typ = typed-once [] (with_setting (Typs sets) t) e.0 (typ_instance (composed sets) h.typ) sides.0.typed put.typed in
      subst (λ (V : Typ). HasType [] u V) (same ∙ ap (typ_instance (composed sets)) own) sides.1.typed

  pub split-solves : (n : Node) (front : List Pair) (p : Pair) (rest : List Pair) → IsFirst n.pairs front p rest Split → LeadsOn n (with_pairs n (front ++ (argument_pairs p.left p.right ++ rest)))
  split-solves n front p rest f = by f.treated
    where
      by : IsTreatment p.left p.right Split → LeadsOn n (with_pairs n (front ++ (argument_pairs p.left p.right ++ rest)))
      by (same_heads g e) = record {
        more = [];
        are = sym (append-nil n.path.settings);
        long = λ r h. let sides = at-pair n.pairs front p rest f.stands h in split-long front p rest sides.0 sides.1;
        respects = λ r h. tt;
        solved = λ ms ss r h s.
            let sides = at-pair n.pairs front p rest f.stands h in
            rw f.stands (split-pair front p rest g.past.typed.typ g.past.typed.left g.past.typed.right e sides.0 ms ss r s);
      }

  -- A pair of constants of one name, whose types are unified: it is split then.
  unify-solves : (n m split : Node) (front : List Pair) (p : Pair) (rest : List Pair) (T U : Typ) → IsFirst n.pairs front p rest (Unify T U) → IsRetyped A maxidx n T U (Goes m) → IsSplitAt front m split → LeadsOn n split
  unify-solves n m split front p rest T U f (all_long {sets = sets} {next = next} {qs = qs} u apart l) a = by f.treated
    where
      by : IsTreatment p.left p.right (Unify T U) → LeadsOn n split
      by (constants {c = c} g e k d) = record {
        more = Typs sets ∷ [];
        are = ap (λ (o : Node). o.path.settings) a.are;
        long = λ r h.
            let whole = subst (λ (ps : List Pair). Each (AreSidesLong Q.declarations) ps) a.stands (setting-long (Typs sets) n.pairs qs l r.0 h) in
            let sides = at-pair (a.before ++ a.at ∷ a.behind) a.before a.at a.behind refl whole in
            rw a.are (split-long a.before a.at a.behind sides.0 sides.1);
        respects = λ r h. r;
        solved = λ ms ss r h s.
            let whole = subst (λ (ps : List Pair). Each (AreSidesLong Q.declarations) ps) a.stands (setting-long (Typs sets) n.pairs qs l r.0 h) in
            let sides = at-pair (a.before ++ a.at ∷ a.behind) a.before a.at a.behind refl whole in
            let own = at-pair n.pairs front p rest f.stands h in
            let come = placed (Typs sets) front p rest (subst (λ (ps : List Pair). AreLong (with_setting_put (Typs sets) ps) (AllLong qs)) f.stands l) a.before a.at a.behind a.stands a.place in
            let lefts = head-long (composed sets) p.left a.at.left c T come.0 own.0.0.normal e in
            let rights = head-long (composed sets) p.right a.at.right c U come.1 own.0.1.normal k in
            let typs : typ_instance (composed sets) T ≡ typ_instance (composed sets) U = unified-equal T U u in
            let heads : head a.at.left ≡ head a.at.right = lefts ∙ (ap (Const c) typs ∙ sym rights) in
            let first = retyped-side sets r.0 p.left a.at.left g.past.typed.typ own.0.0 g.past.typed.left come.0 in
            let second = retyped-side sets r.0 p.right a.at.right g.past.typed.typ own.0.1 g.past.typed.right come.1 in
            let split_pairs : AreSolved ms ss (a.before ++ (argument_pairs a.at.left a.at.right ++ a.behind)) = subst (λ (o : Node). AreSolved ms ss o.pairs) a.are s in
            let joined = split-pair a.before a.at a.behind (typ_instance (composed sets) g.past.typed.typ) first second heads sides.0 ms ss r.1 split_pairs in
            setting-solves (Typs sets) n.pairs qs l ms ss r h (rw a.stands joined);
      }

  pub step-solves : (n m : Node) → Applies A maxidx n (Goes m) → LeadsOn n m
  step-solves n m (drops {front = front} {rest = rest} {p = p} f) = drop-solves n front p rest f
  step-solves n m (retypes {T = T} {U = U} f t) = retype-solves n m T U t
  step-solves n m (puts {front = front} {rest = rest} {qs = qs} {p = p} {b = b} f l) = put-solves n front p rest qs b f l
  step-solves n m (splits {front = front} {rest = rest} {p = p} f) = split-solves n front p rest f
  step-solves n m (unifies {front = front} {rest = rest} {p = p} {T = T} {U = U} {m = k} f t a) = unify-solves n k m front p rest T U f t a

  -- From a node to the one that it is simplified to: what its pairs come to is equated modulo the pairs that are left.
  pub record Comes (n m : Node) : Type 0 where
    pub more : List Setting
    pub are : m.path.settings ≡ n.path.settings ++ more
    pub long : Each (IsRespecting Q) more → Each (AreSidesLong Q.declarations) n.pairs → Each (AreSidesLong Q.declarations) m.pairs
    pub lefts : Each IsLeft m.pairs
    pub respects : Each (IsTypRespecting Q) more → Each (AreSidesLong Q.declarations) n.pairs → Each (IsRespecting Q) more
    pub solved : Each (IsRespecting Q) more → Each (AreSidesLong Q.declarations) n.pairs → AreSolved m.pairs more n.pairs

  pub left-pair : (ps : List Pair) (p : Pair) → IsIn p ps → IsLeft p → AreSidesLong Q.declarations p → IsPairEquated Q.declarations ps p
  left-pair ps p m (left past flexible) h =
      let first : h.0.typ ≡ past.typed.typ = typed-once [] p.left h.0.typ past.typed.typ h.0.typed.typed past.typed.left in
      let second : h.1.typ ≡ past.typed.typ = typed-once [] p.right h.1.typ past.typed.typ h.1.typed.typed past.typed.right in
      (past.typed.typ, AreEquated.pair p m (rw first at h.0.typed) (rw second at h.1.typed))

  pub left-solved : (ps : List Pair) → Each IsLeft ps → Each (AreSidesLong Q.declarations) ps → AreSolved ps [] ps
  left-solved ps lefts h = each_of (λ p. IsPairEquated Q.declarations ps (pair_after [] p)) ps (λ p m. left-pair ps p m (each_at IsLeft ps lefts p m) (each_at (AreSidesLong Q.declarations) ps h p m))

  pub simplified : {n m : Node} → Simplifies A maxidx n (Simple m) → Comes n m
  simplified {n = n} (simple each) = record { more = []; are = sym (append-nil n.path.settings); long = λ r h. h; lefts = each; respects = λ r h. tt; solved = λ r h. left-solved n.pairs each h }
  simplified {n = n} {m = m} (step {m = k} f s) = joined (step-solves n k f) (simplified s)
    where
      joined : LeadsOn n k → Comes k m → Comes n m
      joined first rest = record {
        more = first.more ++ rest.more;
        are = rest.are ∙ (ap (λ (ss : List Setting). ss ++ rest.more) first.are ∙ append_assoc n.path.settings first.more rest.more);
        long = λ r h. rest.long (each-right (IsRespecting Q) first.more rest.more r) (first.long (each-left (IsRespecting Q) first.more rest.more r) h);
        lefts = rest.lefts;
        respects = λ r h.
            let front = first.respects (each-left (IsTypRespecting Q) first.more rest.more r) h in
            each-append (IsRespecting Q) first.more rest.more front (rest.respects (each-right (IsTypRespecting Q) first.more rest.more r) (first.long front h));
        solved = λ r h. first.solved m.pairs rest.more r h (rest.solved (each-right (IsRespecting Q) first.more rest.more r) (first.long (each-left (IsRespecting Q) first.more rest.more r) h));
      }

  -- The same from a node that is visited, whose sides are certified.
  pub record Starts (n m : Node) : Type 0 where
    pub more : List Setting
    pub are : m.path.settings ≡ n.path.settings ++ more
    pub long : Each (IsRespecting Q) more → Each (AreSidesCertified Q.declarations) n.pairs → Each (AreSidesLong Q.declarations) m.pairs
    pub lefts : Each IsLeft m.pairs
    pub respects : Each (IsTypRespecting Q) more → Each (AreSidesCertified Q.declarations) n.pairs → Each (IsRespecting Q) more
    pub solved : Each (IsRespecting Q) more → Each (AreSidesCertified Q.declarations) n.pairs → AreSolved m.pairs more n.pairs

  pub visit-solves : (n m : Node) → Visits A maxidx n (Simple m) → Starts n m
  visit-solves n m (visited {qs = qs} l s) = by (simplified s)
    where
      by : Comes (with_pairs n qs) m → Starts n m
      by rest = record {
        more = rest.more;
        are = rest.are;
        long = λ r h. rest.long r (sides-are-long l h);
        lefts = rest.lefts;
        respects = λ r h. rest.respects r (sides-are-long l h);
        solved = λ r h. solved-long m.pairs rest.more r l h (rest.solved r (sides-are-long l h));
      }

  -- The images of the children of a node have their variable's type.
  pub choice-typed : (ps : List Pair) (x i : ℕ) (T : Typ) (h : Term) (index : ℕ) → IsChoice ps (Var x i T) h → Each (AreSidesLong Q.declarations) ps → Each IsLeft ps → Each (λ u. IsTypedUnder Q.declarations [] u T) (images index T h)
  choice-typed ps x i T h index c long lefts = by c.heads (each-right IsLeft c.front (c.pair ∷ c.rest) (subst (λ (qs : List Pair). Each IsLeft qs) c.stands lefts)).0
    where
      sides : AreSidesLong Q.declarations c.pair
      sides = (at-pair ps c.front c.pair c.rest c.stands long).0

      from : (l r : Term) (X : Typ) → IsTypedUnder Q.declarations [] l X → IsTypedUnder Q.declarations [] r X → Var x i T ≡ head l → h ≡ head r → Each (λ u. IsTypedUnder Q.declarations [] u T) (images index T h)
      from l r X f g e k =
          let first = head-typed Q above [] l X f in
          let second = head-typed Q above [] r X g in
          let variable : IsTypedUnder Q.declarations first.0 (Var x i T) first.1 = subst (λ (t : Term). IsTypedUnder Q.declarations first.0 t first.1) (sym e) first.2 in
          let other : IsTypedUnder Q.declarations second.0 h second.1 = subst (λ (t : Term). IsTypedUnder Q.declarations second.0 t second.1) (sym k) second.2 in
          images-typed Q above index T h second.0 second.1 variable.parts other (second.3 ∙ (sym first.3 ∙ ap range (sym variable.typed)))

      by : HasFlexible c.pair (Var x i T) h → IsLeft c.pair → Each (λ u. IsTypedUnder Q.declarations [] u T) (images index T h)
      by (on_left a b e k) (left past flexible) =
          from c.pair.left c.pair.right past.typed.typ (at-typ c.pair.left past.typed.typ sides.0 past.typed.left) (at-typ c.pair.right past.typed.typ sides.1 past.typed.right) e k
      by (on_right a b e k) (left past flexible) =
          from c.pair.right c.pair.left past.typed.typ (at-typ c.pair.right past.typed.typ sides.1 past.typed.right) (at-typ c.pair.left past.typed.typ sides.0 past.typed.left) e k

  -- A child sets a variable.
  pub record IsChildOf (k c : Node) : Type 0 where
    pub set : TermBind
    pub pairs : c.pairs ≡ with_setting_put (Single set) k.pairs
    pub settings : c.path.settings ≡ k.path.settings ++ Single set ∷ []
    pub image : Each (AreSidesLong Q.declarations) k.pairs → Each IsLeft k.pairs → IsTypedUnder Q.declarations [] set.image set.typ

  among : (k c : Node) (x i : ℕ) (T : Typ) (us : List Term) → (Each (AreSidesLong Q.declarations) k.pairs → Each IsLeft k.pairs → Each (λ u. IsTypedUnder Q.declarations [] u T) us) → IsIn c (map (child k x i T) us) → IsChildOf k c
  among k c x i T [] typed m = absurd m
  among k c x i T (u ∷ us) typed (inl e) = record {
    set = bind x i T u;
    pairs = ap (λ (n : Node). n.pairs) e;
    settings = ap (λ (n : Node). n.path.settings) e;
    image = λ h lefts. (typed h lefts).0;
  }
  among k c x i T (u ∷ us) typed (inr m) = among k c x i T us (λ h lefts. (typed h lefts).1) m

  pub child-is : (k c : Node) (f h : Term) → IsChoice k.pairs f h → IsIn c (children maxidx k f h) → IsChildOf k c
  child-is k c (Var x i T) h choice m =
      let index = maxidx + (k.path.choices + 1) in
      among k c x i T (images index T h) (λ long lefts. choice-typed k.pairs x i T h index choice long lefts) m
  child-is k c (Const d U) h choice m = absurd m
  child-is k c (Free x U) h choice m = absurd m
  child-is k c (Bound p) h choice m = absurd m
  child-is k c (Abs U b) h choice m = absurd m
  child-is k c (App g a) h choice m = absurd m

  -- What is equated modulo pairs that are solved is solved.
  pub mapped : (ms : List Pair) (ss : List Setting) (ps : List Pair) → AreSolved ms ss ps → Each (IsPairEquated Q.declarations ms) (map (pair_after ss) ps)
  mapped ms ss [] h = tt
  mapped ms ss (p ∷ ps) h = (h.0, mapped ms ss ps h.1)

  solved-through : (ms ks : List Pair) (first ss : List Setting) → Each (IsRespecting Q) ss → AreSolved ms ss ks → (ps : List Pair) → AreSolved ks first ps → AreSolved ms (first ++ ss) ps
  solved-through ms ks first ss r h [] s = tt
  solved-through ms ks first ss r h (p ∷ ps) s =
      let moved = after-equated Q q above ss r ks (term_after first p.left) (term_after first p.right) s.0 in
      let others = equated_modulo_others Q.declarations (map (pair_after ss) ks) ms (mapped ms ss ks h) [] moved.0 (term_after ss (term_after first p.left)) (term_after ss (term_after first p.right)) moved.1 in
      ((moved.0, rw (after-more first ss p.left, after-more first ss p.right) others), solved-through ms ks first ss r h ps s.1)

  by-child : (n k c m : Node) → Starts n k → IsChildOf k c → Starts c m → Starts n m
  by-child n k c m first own rest = record {
    more = first.more ++ (Single own.set ∷ rest.more);
    are = rest.are ∙ (ap (λ (ss : List Setting). ss ++ rest.more) (own.settings ∙ ap (λ (ss : List Setting). ss ++ Single own.set ∷ []) first.are) ∙ regrouped n.path.settings first.more (Single own.set) rest.more);
    long = λ r h. rest.long (behind r).1 (certified r h);
    lefts = rest.lefts;
    respects = λ r h.
        let fronts = first.respects (each-left (IsTypRespecting Q) first.more (Single own.set ∷ rest.more) r) h in
        let long = first.long fronts h in
        let set = single-respects Q own.set (own.image long first.lefts) in
        let sides : Each (AreSidesCertified Q.declarations) c.pairs = rw own.pairs (settings-typed Q q above (Single own.set) set k.pairs (long-typed k.pairs long)) in
        let later = rest.respects (each-right (IsTypRespecting Q) first.more (Single own.set ∷ rest.more) r).1 sides in
        each-append (IsRespecting Q) first.more (Single own.set ∷ rest.more) fronts (set, later);
    solved = λ r h.
        let below = rest.solved (behind r).1 (certified r h) in
        let put : AreSolved m.pairs rest.more (with_setting_put (Single own.set) k.pairs) = subst (λ (ps : List Pair). AreSolved m.pairs rest.more ps) own.pairs below in
        solved-through m.pairs k.pairs first.more (Single own.set ∷ rest.more) (behind r) (solved-put m.pairs (Single own.set) rest.more k.pairs put) n.pairs (first.solved (front r) h);
  }
    where
      behind : Each (IsRespecting Q) (first.more ++ (Single own.set ∷ rest.more)) → Each (IsRespecting Q) (Single own.set ∷ rest.more)
      behind r = each-right (IsRespecting Q) first.more (Single own.set ∷ rest.more) r

      front : Each (IsRespecting Q) (first.more ++ (Single own.set ∷ rest.more)) → Each (IsRespecting Q) first.more
      front r = each-left (IsRespecting Q) first.more (Single own.set ∷ rest.more) r

      certified : Each (IsRespecting Q) (first.more ++ (Single own.set ∷ rest.more)) → Each (AreSidesCertified Q.declarations) n.pairs → Each (AreSidesCertified Q.declarations) c.pairs
      certified r h = rw own.pairs (settings-typed Q q above (Single own.set) (behind r).0 k.pairs (long-typed k.pairs (first.long (front r) h)))

      regrouped : (xs ys : List Setting) (s : Setting) (zs : List Setting) → ((xs ++ ys) ++ s ∷ []) ++ zs ≡ xs ++ (ys ++ (s ∷ zs))
      regrouped xs ys s zs = append_assoc (xs ++ ys) (s ∷ []) zs ∙ append_assoc xs ys (s ∷ zs)

  leads-solve : {n m : Node} → Leads A maxidx n m → Starts n m
  leads-solve {n = n} {m = m} (at_once v) = visit-solves n m v
  leads-solve {n = n} {m = m} (by_child {k = k} {c = c} f h v choice i l) = by-child n k c m (visit-solves n k v) (child-is k c f h choice i) (leads-solve l)

pub settings_respect : (Q : Content) → IsContent Q → IsBelow pure_content Q → (maxidx : ℕ) (ps : List Pair) → Each (AreSidesCertified Q.declarations) ps
    → (m : Node) → IsReached (algebra_of Q.declarations) maxidx ps m → Each (IsTypRespecting Q) m.path.settings → Each (IsRespecting Q) m.path.settings
settings_respect Q q above maxidx ps certified m reached respecting = by (leads-solve Q q above (algebra_of Q.declarations) maxidx reached.leads)
  where
    by : Starts Q q above (algebra_of Q.declarations) maxidx (root ps) m → Each (IsRespecting Q) m.path.settings
    by s = rw s.are (s.respects (subst (λ (ss : List Setting). Each (IsTypRespecting Q) ss) s.are respecting) certified)

pub settings_equate : (Q : Content) → IsContent Q → IsBelow pure_content Q → (maxidx : ℕ) (ps : List Pair) → Each (AreSidesCertified Q.declarations) ps
    → (m : Node) → IsReached (algebra_of Q.declarations) maxidx ps m → Each (IsTypRespecting Q) m.path.settings → Each (λ p. IsPairEquated Q.declarations m.pairs (pair_after m.path.settings p)) ps
settings_equate Q q above maxidx ps certified m reached respecting = by (leads-solve Q q above (algebra_of Q.declarations) maxidx reached.leads)
  where
    all : Each (IsRespecting Q) m.path.settings
    all = settings_respect Q q above maxidx ps certified m reached respecting

    by : Starts Q q above (algebra_of Q.declarations) maxidx (root ps) m → Each (λ p. IsPairEquated Q.declarations m.pairs (pair_after m.path.settings p)) ps
    by s = rw s.are (s.solved (subst (λ (ss : List Setting). Each (IsRespecting Q) ss) s.are all) certified)
