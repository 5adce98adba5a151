-- Along a path each type variable and each variable is set once: what is set stands in no later pair, and in no image of the substitution.
use Rattle.std.proofs.Common.{◌≡◌, ℕ, ◌+◌, ◌≤◌, List, [], ◌∷◌, ◌++◌, map, inl, inr, refl, sym, subst, arith}
use Rattle.pure_text.specs.Lists.{IsIn, Each, AreDistinct}
use Rattle.pure_text.proofs.ListLaws.{each-append, each-left, each-right, each_of, each_at, each_imply, in_split, in-append_left, in-append_right, distinct-snoc}
use Rattle.pure_definitions.specs.Types.Typ.{Typ, arrow}
use Rattle.pure_definitions.specs.Types.Occurs.{OccursInTyp}
use Rattle.pure_definitions.specs.Types.Order.{Algebra}
use Rattle.pure_definitions.specs.Terms.Term.{Term, Const, Free, Var, Bound, Abs, App}
use Rattle.pure_definitions.specs.Terms.Bounds.{Occurs}
use Rattle.pure_definitions.specs.Terms.Subst.{TypBind, TermBind, typ_variable, term_variable, typ_instance, retyped_variable, term_instance}
use Rattle.pure_definitions.specs.Reduction.Eta.{IsEtaNormalForm}
use Rattle.pure_definitions.specs.Declarations.Decl.{algebra_of}
use Rattle.pure_term_laws.proofs.SubstLaws.{typ_instance-identity}
use Rattle.pure_logic.specs.Content.{Content}
use Rattle.pure_logic.specs.Derivable.{Pair}
use Rattle.pure_equation_laws.specs.Equated.{IsTypedUnder}
use Rattle.pure_equation_laws.proofs.KeptLaws.{typed-instance}
use Rattle.pure_tunify.specs.Unifiers.{IsFresh, IsOld}
use Rattle.pure_tunify.specs.Settings.{composed}
use Rattle.pure_tunify.specs.Procedure.{Unified}
use Rattle.pure_tunify.proofs.MapLaws.{fresh-later}
use Rattle.pure_tunify.proofs.SettingLaws.{instance-free, instance-new}
use Rattle.pure_unify_definitions.specs.Fronts.{variables, pair_variables, argument_pairs}
use Rattle.pure_unify_definitions.specs.Node.{Setting, Typs, Single, Node, bind, with_setting, with_setting_put, typ_settings, resolved, entry_variables, node_variables}
use Rattle.pure_unify_definitions.specs.LongSides.{AllLong, AreLong}
use Rattle.pure_unify_definitions.specs.Treatment.{Differ, Put, Unify, IsBareSide, left_bare, right_bare, IsTreatment, differ, absent, constants}
use Rattle.pure_unify_definitions.specs.Retyping.{Goes, Unifying, MakesTwoSame, retyped, IsRetyped, all_long}
use Rattle.pure_unify_definitions.specs.Simplification.{IsLeft, with_pairs, with_bind, IsSplitAt, Applies, drops, retypes, puts, splits, unifies, Simple, Simplifies, simple, step, Visits, visited}
use Rattle.pure_unify_definitions.specs.Children.{HasFlexible, on_left, on_right, IsChoice, images, child, children}
use Rattle.pure_unify_laws.specs.Reached.{setting_typs, setting_terms, IsRespecting, AreSidesCertified, Leads, at_once, by_child}
use Rattle.pure_unify_laws.specs.Condition.{IsUnifyContent}
use Rattle.pure_unify_laws.proofs.ImageLaws.{single-respects}
use Rattle.pure_unify_laws.proofs.SettingLaws.{setting-instance}
use Rattle.pure_unify_laws.proofs.SplitLaws.{AreSidesLong}
use Rattle.pure_unify_laws.proofs.SolvedLaws.{at-pair, put-typed, sides-are-long, visit-solves, choice-typed}
use Rattle.pure_unify_laws.proofs.RespectLaws.{typs-respect, differing, of_constants, step-kept, visit-kept, child-kept}
use Rattle.pure_unify_answers.proofs.PartLaws.{IsOfParts, HasParts, eta-parts, typ-part, replaced-parts, implied-parts}
use Rattle.pure_unify_answers.proofs.FewerLaws.{old_of_parts, unified-old}
use Rattle.pure_unify_answers.proofs.SpineLaws.{HavePartsIn, head-parts, split-parts, images-parts}
use Rattle.pure_unify_answers.proofs.FitLaws.{sides-parts, put-each, set-parts, image-parts}
use Rattle.pure_unify_answers.proofs.OnceLaws.{IsAbsent, AreSetOnce, AreKnown, IsFree, images_free, triangular, set_once-append, IsOnce, unified-once, unified-avoids}
use Rattle.pure_unify_answers.proofs.PathLaws.{pushed, typ_settings-typs, typ_settings-single, resolved-typs, resolved-single, keys, keys-single}

-- The type is without fresh variables, and without those that are set.
abbrev pub IsPlain : (index from : ℕ) → List TypBind → Typ → Type 0
IsPlain index from sets T = IsOld index from T × IsFree sets T

free_of_parts : (sets : List TypBind) → IsOfParts (IsFree sets)
free_of_parts sets = record {
  domain = λ A B h. each_imply (λ b. ¬ OccursInTyp (typ_variable b) (arrow A B)) (λ b. ¬ OccursInTyp (typ_variable b) A) sets (λ b n o. n (inr (inl o))) h;
  range = λ A B h. each_imply (λ b. ¬ OccursInTyp (typ_variable b) (arrow A B)) (λ b. ¬ OccursInTyp (typ_variable b) B) sets (λ b n o. n (inr (inr (inl o)))) h;
  functions = λ A B h k. each_of (λ b. ¬ OccursInTyp (typ_variable b) (arrow A B)) sets (λ b m. in_function A B b (each_at (λ c. ¬ OccursInTyp (typ_variable c) A) sets h b m) (each_at (λ c. ¬ OccursInTyp (typ_variable c) B) sets k b m));
}
  where
    in_function : (A B : Typ) (b : TypBind) → ¬ OccursInTyp (typ_variable b) A → ¬ OccursInTyp (typ_variable b) B → ¬ OccursInTyp (typ_variable b) (arrow A B)
    in_function A B b h k (inl e) = absurd (cc)
    in_function A B b h k (inr (inl o)) = h o
    in_function A B b h k (inr (inr (inl o))) = k o
    in_function A B b h k (inr (inr (inr o))) = o

pub plain_of_parts : (index from : ℕ) (sets : List TypBind) → IsOfParts (IsPlain index from sets)
plain_of_parts index from sets = record {
  domain = λ A B h. ((old_of_parts index from).domain A B h.0, (free_of_parts sets).domain A B h.1);
  range = λ A B h. ((old_of_parts index from).range A B h.0, (free_of_parts sets).range A B h.1);
  functions = λ A B h k. ((old_of_parts index from).functions A B h.0 k.0, (free_of_parts sets).functions A B h.1 k.1);
}

-- the index of a schematic variable
abbrev pub index_of : Term → ℕ
index_of (Var x i T) = i
index_of _ = 0

-- The variable isn't set, and its index is within a bound.
abbrev pub IsUnset : (keys : List Term) (bound : ℕ) → Term → Type 0
IsUnset ks bound v = (¬ IsIn v ks) × (index_of v ≤ bound)

-- A variable that isn't set, and isn't set now either.
widened : (ks : List Term) (v : Term) (bound more : ℕ) → bound ≤ more → (w : Term) → IsUnset ks bound w → ¬ (w ≡ v) → IsUnset (ks ++ v ∷ []) more w
widened ks v bound more wider w k other = ((λ m. elim (in_split w ks (v ∷ []) m) [ inl a ↦ k.0 a | inr b ↦ elim b [ inl e ↦ other e | inr none ↦ none ] ]), up (index_of w) bound more k.1 wider)
  where
    up : (a b c : ℕ) → a ≤ b → b ≤ c → a ≤ c
    up a b c h k = omega arith

-- Each variable of a side stands in a list that has them.
abbrev Has : List Term → List Term → Type 0
Has xs ys = (x : Term) → IsIn x ys → IsIn x xs

member-parts : (P : Typ → Type 0) (V : Term → Type 0) (ws : List Term) (t : Term) → Has ws (variables t) → HasParts P V t → HasParts P (λ v. V v × IsIn v ws) t
member-parts P V ws (Const c T) k h = h
member-parts P V ws (Free x T) k h = h
member-parts P V ws (Var x i T) k h = (h.0, (h.1, k (Var x i T) (inl refl)))
member-parts P V ws (Bound n) k h = tt
member-parts P V ws (Abs T b) k h = (h.0, member-parts P V ws b k h.1)
member-parts P V ws (App f a) k h = (
  member-parts P V ws f (λ x m. k x (in-append_left x (variables f) (variables a) m)) h.0,
  member-parts P V ws a (λ x m. k x (in-append_right x (variables f) (variables a) m)) h.1,
)

member-pairs : (P : Typ → Type 0) (V : Term → Type 0) (ws : List Term) (ps : List Pair) → Has ws (pair_variables ps) → Each (HavePartsIn P V) ps → Each (HavePartsIn P (λ v. V v × IsIn v ws)) ps
member-pairs P V ws [] k h = tt
member-pairs P V ws (p ∷ ps) k h = (
  (
    member-parts P V ws p.left (λ x m. k x (in-append_left x (variables p.left) (variables p.right ++ pair_variables ps) m)) h.0.0,
    member-parts P V ws p.right (λ x m. k x (in-append_right x (variables p.left) (variables p.right ++ pair_variables ps) (in-append_left x (variables p.right) (pair_variables ps) m))) h.0.1,
  ),
  member-pairs P V ws ps (λ x m. k x (in-append_right x (variables p.left) (variables p.right ++ pair_variables ps) (in-append_right x (variables p.right) (pair_variables ps) m))) h.1,
)

-- A type map that makes no two variables of a list the same, on variables that are set.
module _ (sets : List TypBind) (ws : List Term) (apart : ¬ MakesTwoSame (composed sets) ws) where
  abbrev AreKeysIn : List TermBind → Type 0
  AreKeysIn es = Each (λ e. IsIn (term_variable e) ws) es

  not_key : (w : Term) → IsIn w ws → (es : List TermBind) → AreKeysIn es → ¬ IsIn w (keys es) → ¬ IsIn (retyped_variable (composed sets) w) (keys (map (pushed (Typs sets)) es))
  not_key w m [] k n there = there
  not_key w m (e ∷ es) k n (inl same) = apart (record { first = w; second = term_variable e; first_in = m; second_in = k.0; differ = λ d. n (inl d); same = same })
  not_key w m (e ∷ es) k n (inr there) = not_key w m es k.1 (λ j. n (inr j)) there

  still_distinct : (es : List TermBind) → AreKeysIn es → AreDistinct (keys es) → AreDistinct (keys (map (pushed (Typs sets)) es))
  still_distinct [] k h = tt
  still_distinct (e ∷ es) k h = (not_key (term_variable e) k.0 es k.1 h.0, still_distinct es k.1 h.1)

module _ (Q : Content) (u : IsUnifyContent Q) (maxidx : ℕ) where
  abbrev A : Algebra
  A = algebra_of Q.declarations

  -- What is known of an entry of the substitution, where these are the settings of types, the first name that isn't used, the variables that are set and the bound of indexes.
  pub record IsTidyEntry (S : List TypBind) (from : ℕ) (ks : List Term) (bound : ℕ) (e : TermBind) : Type 0 where
    pub typ : IsPlain (maxidx + 65) from S e.typ
    pub image : HasParts (IsPlain (maxidx + 65) from S) (IsUnset ks bound) e.image
    pub few : e.index ≤ bound
    pub typed : IsTypedUnder Q.declarations [] e.image e.typ

  pub record IsTidy (S : List TypBind) (from : ℕ) (es : List TermBind) (bound : ℕ) (ps : List Pair) : Type 0 where
    pub once : AreSetOnce S
    pub known : AreKnown (maxidx + 65) from S
    pub distinct : AreDistinct (keys es)
    pub pairs : Each (HavePartsIn (IsPlain (maxidx + 65) from S) (IsUnset (keys es) bound)) ps
    pub entries : Each (IsTidyEntry S from (keys es) bound) es

  other_pairs : (S : List TypBind) (from : ℕ) (es : List TermBind) (bound : ℕ) (ps qs : List Pair) → IsTidy S from es bound ps → Each (HavePartsIn (IsPlain (maxidx + 65) from S) (IsUnset (keys es) bound)) qs → IsTidy S from es bound qs
  other_pairs S from es bound ps qs h k = record { once = h.once; known = h.known; distinct = h.distinct; pairs = k; entries = h.entries }

  -- Long forms of tidy sides are tidy.
  pub long_pairs : (S : List TypBind) (from : ℕ) (es : List TermBind) (bound : ℕ) (ps qs : List Pair) → AreLong ps (AllLong qs) → IsTidy S from es bound ps → IsTidy S from es bound qs
  long_pairs S from es bound ps qs l h = other_pairs S from es bound ps qs h (sides-parts (IsPlain (maxidx + 65) from S) (IsUnset (keys es) bound) (plain_of_parts (maxidx + 65) from S) l h.pairs)

  -- A variable is set.
  module _ (S : List TypBind) (from : ℕ) (es : List TermBind) (bound more : ℕ) (ps : List Pair) (h : IsTidy S from es bound ps) (x i : ℕ) (T : Typ) (image : Term) (wider : bound ≤ more) (within : i ≤ more)
      (plain : IsPlain (maxidx + 65) from S T) (unset : ¬ IsIn (Var x i T) (keys es)) (image_in : HasParts (IsPlain (maxidx + 65) from S) (IsUnset (keys es ++ Var x i T ∷ []) more) image) (typed : IsTypedUnder Q.declarations [] image T) where
    into : (w : Term) → IsUnset (keys es) bound w → ¬ (w ≡ Var x i T) → IsUnset (keys es ++ Var x i T ∷ []) more w
    into w k other = widened (keys es) (Var x i T) bound more wider w k other

    respects : IsRespecting Q (Single (bind x i T image))
    respects = single-respects Q (bind x i T image) typed

    one_entry : (e : TermBind) → IsTidyEntry S from (keys es) bound e → IsTidyEntry S from (keys es ++ Var x i T ∷ []) more (pushed (Single (bind x i T image)) e)
    one_entry e k = record {
      typ = k.typ;
      image = set-parts (IsPlain (maxidx + 65) from S) (IsUnset (keys es) bound) (IsUnset (keys es ++ Var x i T ∷ []) more) x i T image image_in into e.image k.image;
      few = up e.index bound more k.few wider;
      typed = moved (typed-instance Q u.content (setting_typs (Single (bind x i T image))) (setting_terms (Single (bind x i T image))) respects [] [] e.image e.typ k.typed);
    }
      where
        up : (a b c : ℕ) → a ≤ b → b ≤ c → a ≤ c
        up a b c h k = omega arith

        moved : IsTypedUnder Q.declarations [] (term_instance (setting_typs (Single (bind x i T image))) (setting_terms (Single (bind x i T image))) e.image) (typ_instance (λ v. v) e.typ) → IsTypedUnder Q.declarations [] (with_setting (Single (bind x i T image)) e.image) e.typ
        moved t = subst (λ (v : Term). IsTypedUnder Q.declarations [] v e.typ) (sym (setting-instance (Single (bind x i T image)) e.image)) (subst (λ (X : Typ). IsTypedUnder Q.declarations [] (term_instance (setting_typs (Single (bind x i T image))) (setting_terms (Single (bind x i T image))) e.image) X) (typ_instance-identity e.typ) t)

    old_entries : (xs : List TermBind) → Each (IsTidyEntry S from (keys es) bound) xs → Each (IsTidyEntry S from (keys es ++ Var x i T ∷ []) more) (map (pushed (Single (bind x i T image))) xs)
    old_entries [] k = tt
    old_entries (e ∷ xs) k = (one_entry e k.0, old_entries xs k.1)

    pub set-tidy : IsTidy S from (map (pushed (Single (bind x i T image))) es ++ bind x i T image ∷ []) more (with_setting_put (Single (bind x i T image)) ps)
    set-tidy = by (sym (keys-single (bind x i T image) es (bind x i T image)))
      where
        by : keys es ++ Var x i T ∷ [] ≡ keys (map (pushed (Single (bind x i T image))) es ++ bind x i T image ∷ []) → IsTidy S from (map (pushed (Single (bind x i T image))) es ++ bind x i T image ∷ []) more (with_setting_put (Single (bind x i T image)) ps)
        by same = record {
          once = h.once;
          known = h.known;
          distinct = subst (λ (ks : List Term). AreDistinct ks) same (distinct-snoc (keys es) (Var x i T) h.distinct unset);
          pairs = subst (λ (ks : List Term). Each (HavePartsIn (IsPlain (maxidx + 65) from S) (IsUnset ks more)) (with_setting_put (Single (bind x i T image)) ps)) same
              (put-each (IsPlain (maxidx + 65) from S) (IsPlain (maxidx + 65) from S) (IsUnset (keys es) bound) (IsUnset (keys es ++ Var x i T ∷ []) more) (Single (bind x i T image))
              (set-parts (IsPlain (maxidx + 65) from S) (IsUnset (keys es) bound) (IsUnset (keys es ++ Var x i T ∷ []) more) x i T image image_in into) ps h.pairs);
          entries = subst (λ (ks : List Term). Each (IsTidyEntry S from ks more) (map (pushed (Single (bind x i T image))) es ++ bind x i T image ∷ [])) same
              (each-append (IsTidyEntry S from (keys es ++ Var x i T ∷ []) more) (map (pushed (Single (bind x i T image))) es) (bind x i T image ∷ []) (old_entries es h.entries)
              (record { typ = plain; image = image_in; few = within; typed = typed }, tt));
        }

  -- Type variables are set.
  module _ (S : List TypBind) (from : ℕ) (es : List TermBind) (bound : ℕ) (ps : List Pair) (h : IsTidy S from es bound ps) (n : Node) (T U : Typ) (sets : List TypBind) (next : ℕ) (here : n.path.fresh ≡ from)
      (found : Unifying A maxidx n T U (Unified sets next)) (first : IsPlain (maxidx + 65) from S T) (second : IsPlain (maxidx + 65) from S U) (apart : ¬ MakesTwoSame (composed sets) (pair_variables ps ++ entry_variables es)) (respects : IsRespecting Q (Typs sets)) where
    old_first : IsOld (maxidx + 65) n.path.fresh T
    old_first = subst (λ (k : ℕ). IsOld (maxidx + 65) k T) (sym here) first.0

    old_second : IsOld (maxidx + 65) n.path.fresh U
    old_second = subst (λ (k : ℕ). IsOld (maxidx + 65) k U) (sym here) second.0

    sets_once : IsOnce (maxidx + 65) n.path.fresh next sets
    sets_once = unified-once A (maxidx + 65) T U found old_first old_second

    away : (b : TypBind) → IsIn b S → IsAbsent (typ_variable b) sets
    away b m = unified-avoids A (maxidx + 65) T U found old_first old_second (typ_variable b) tt
        (subst (λ (k : ℕ). ¬ IsFresh (maxidx + 65) k (typ_variable b)) (sym here) (each_at (λ c. ¬ IsFresh (maxidx + 65) from (typ_variable c)) S h.known b m))
        (each_at (λ c. ¬ OccursInTyp (typ_variable c) T) S first.1 b m) (each_at (λ c. ¬ OccursInTyp (typ_variable c) U) S second.1 b m)

    later : from ≤ next
    later = subst (λ (k : ℕ). k ≤ next) here sets_once.later

    plain_after : (X : Typ) → IsPlain (maxidx + 65) from S X → IsPlain (maxidx + 65) next (S ++ sets) (typ_instance (composed sets) X)
    plain_after X k = (
      unified-old A (maxidx + 65) T U found old_first old_second X (subst (λ (m : ℕ). IsOld (maxidx + 65) m X) (sym here) k.0),
      each-append (λ b. ¬ OccursInTyp (typ_variable b) (typ_instance (composed sets) X)) S sets
          (each_of (λ b. ¬ OccursInTyp (typ_variable b) (typ_instance (composed sets) X)) S (λ b m. instance-new (typ_variable b) tt sets X (images_free (typ_variable b) sets (away b m)) (each_at (λ c. ¬ OccursInTyp (typ_variable c) X) S k.1 b m)))
          (instance-free sets (triangular sets sets_once.once) X),
    )

    keys_in : (xs : List TermBind) → Has (pair_variables ps ++ entry_variables es) (entry_variables xs) → Each (λ e. IsIn (term_variable e) (pair_variables ps ++ entry_variables es)) xs
    keys_in [] k = tt
    keys_in (e ∷ xs) k = (k (term_variable e) (inl refl), keys_in xs (λ y m. k y (inr (in-append_right y (variables e.image) (entry_variables xs) m))))

    all_keys : Each (λ e. IsIn (term_variable e) (pair_variables ps ++ entry_variables es)) es
    all_keys = keys_in es (λ y m. in-append_right y (pair_variables ps) (entry_variables es) m)

    retyped-side : (t : Term) → HasParts (IsPlain (maxidx + 65) from S) (λ v. IsUnset (keys es) bound v × IsIn v (pair_variables ps ++ entry_variables es)) t
        → HasParts (IsPlain (maxidx + 65) next (S ++ sets)) (IsUnset (keys (map (pushed (Typs sets)) es)) bound) (with_setting (Typs sets) t)
    retyped-side t k =
        replaced-parts (IsPlain (maxidx + 65) from S) (IsPlain (maxidx + 65) next (S ++ sets)) (λ v. IsUnset (keys es) bound v × IsIn v (pair_variables ps ++ entry_variables es)) (IsUnset (keys (map (pushed (Typs sets)) es)) bound)
        (typ_instance (composed sets)) (retyped_variable (composed sets)) plain_after (λ y X c. plain_after X c)
        (λ y j X c v. (plain_after X c, (not_key sets (pair_variables ps ++ entry_variables es) apart (Var y j X) v.1 es all_keys v.0.0, v.0.1))) t k

    new_entries : (xs : List TermBind) → Has (pair_variables ps ++ entry_variables es) (entry_variables xs) → Each (IsTidyEntry S from (keys es) bound) xs → Each (IsTidyEntry (S ++ sets) next (keys (map (pushed (Typs sets)) es)) bound) (map (pushed (Typs sets)) xs)
    new_entries [] m k = tt
    new_entries (e ∷ xs) m k = (
      record {
        typ = plain_after e.typ k.0.typ;
        image = retyped-side e.image (member-parts (IsPlain (maxidx + 65) from S) (IsUnset (keys es) bound) (pair_variables ps ++ entry_variables es) e.image (λ y there. m y (inr (in-append_left y (variables e.image) (entry_variables xs) there))) k.0.image);
        few = k.0.few;
        typed = typed-instance Q u.content (setting_typs (Typs sets)) (setting_terms (Typs sets)) respects [] [] e.image e.typ k.0.typed;
      },
      new_entries xs (λ y there. m y (inr (in-append_right y (variables e.image) (entry_variables xs) there))) k.1,
    )

    pub retyped-tidy : IsTidy (S ++ sets) next (map (pushed (Typs sets)) es) bound (with_setting_put (Typs sets) ps)
    retyped-tidy = record {
      once = set_once-append S sets h.once sets_once.once (each_of (λ b. IsAbsent (typ_variable b) sets) S away);
      known = each-append (λ b. ¬ IsFresh (maxidx + 65) next (typ_variable b)) S sets (each_imply (λ b. ¬ IsFresh (maxidx + 65) from (typ_variable b)) (λ b. ¬ IsFresh (maxidx + 65) next (typ_variable b)) S (λ b k. fresh-later (maxidx + 65) from next (typ_variable b) later k) h.known) sets_once.known;
      distinct = still_distinct sets (pair_variables ps ++ entry_variables es) apart es all_keys h.distinct;
      pairs = put-each (IsPlain (maxidx + 65) from S) (IsPlain (maxidx + 65) next (S ++ sets)) (λ v. IsUnset (keys es) bound v × IsIn v (pair_variables ps ++ entry_variables es)) (IsUnset (keys (map (pushed (Typs sets)) es)) bound) (Typs sets) retyped-side ps
          (member-pairs (IsPlain (maxidx + 65) from S) (IsUnset (keys es) bound) (pair_variables ps ++ entry_variables es) ps (λ y m. in-append_left y (pair_variables ps) (entry_variables es) m) h.pairs);
      entries = new_entries es (λ y m. in-append_right y (pair_variables ps) (entry_variables es) m) h.entries;
    }

  -- The settings on the path to the node, and its pairs, are tidy.
  abbrev pub IsTidyNode : Node → Type 0
  IsTidyNode n = IsTidy (typ_settings n.path.settings) n.path.fresh (resolved n.path.settings) (maxidx + n.path.choices) n.pairs

  abbrev AreLongPairs : List Pair → Type 0
  AreLongPairs ps = Each (AreSidesLong Q.declarations) ps

  retyped-node : (n : Node) (T U : Typ) (sets : List TypBind) (next : ℕ) (qs : List Pair) → IsTidyNode n → IsPlain (maxidx + 65) n.path.fresh (typ_settings n.path.settings) T → IsPlain (maxidx + 65) n.path.fresh (typ_settings n.path.settings) U
      → Unifying A maxidx n T U (Unified sets next) → ¬ MakesTwoSame (composed sets) (node_variables n) → AreLong (with_setting_put (Typs sets) n.pairs) (AllLong qs) → IsRespecting Q (Typs sets) → IsTidyNode (retyped n sets next qs)
  retyped-node n T U sets next qs h p q found apart l respects =
      let ss = n.path.settings in
      let put = retyped-tidy (typ_settings ss) n.path.fresh (resolved ss) (maxidx + n.path.choices) n.pairs h n T U sets next refl found p q apart respects in
      let long = long_pairs (typ_settings ss ++ sets) next (map (pushed (Typs sets)) (resolved ss)) (maxidx + n.path.choices) (with_setting_put (Typs sets) n.pairs) qs l put in
      subst (λ (es : List TermBind). IsTidy (typ_settings (ss ++ Typs sets ∷ [])) next es (maxidx + n.path.choices) qs) (sym (resolved-typs ss sets))
      (subst (λ (S : List TypBind). IsTidy S next (map (pushed (Typs sets)) (resolved ss)) (maxidx + n.path.choices) qs) (sym (typ_settings-typs ss sets)) long)

  -- the substitution of a path with one variable more
  one_more : (ss : List Setting) (from : ℕ) (b : TermBind) (bound : ℕ) (qs : List Pair) → IsTidy (typ_settings ss) from (map (pushed (Single b)) (resolved ss) ++ b ∷ []) bound qs → IsTidy (typ_settings (ss ++ Single b ∷ [])) from (resolved (ss ++ Single b ∷ [])) bound qs
  one_more ss from b bound qs h =
      subst (λ (es : List TermBind). IsTidy (typ_settings (ss ++ Single b ∷ [])) from es bound qs) (sym (resolved-single ss b))
      (subst (λ (S : List TypBind). IsTidy S from (map (pushed (Single b)) (resolved ss) ++ b ∷ []) bound qs) (sym (typ_settings-single ss b)) h)

  module _ (n : Node) (long : AreLongPairs n.pairs) (h : IsTidyNode n) where
    abbrev PN : Typ → Type 0
    PN = IsPlain (maxidx + 65) n.path.fresh (typ_settings n.path.settings)

    abbrev VN : Term → Type 0
    VN = IsUnset (keys (resolved n.path.settings)) (maxidx + n.path.choices)

    module _ (front : List Pair) (p : Pair) (rest : List Pair) (stands : n.pairs ≡ front ++ p ∷ rest) where
      whole : Each (HavePartsIn PN VN) (front ++ p ∷ rest)
      whole = subst (λ (ps : List Pair). Each (HavePartsIn PN VN) ps) stands h.pairs

      own : HavePartsIn PN VN p
      own = (each-right (HavePartsIn PN VN) front (p ∷ rest) whole).0

      others : Each (HavePartsIn PN VN) (front ++ rest)
      others = each-append (HavePartsIn PN VN) front rest (each-left (HavePartsIn PN VN) front (p ∷ rest) whole) (each-right (HavePartsIn PN VN) front (p ∷ rest) whole).1

      own_long : AreSidesLong Q.declarations p
      own_long = (at-pair Q u.content u.above A maxidx n.pairs front p rest stands long).0

      dropped-tidy : IsTidyNode (with_pairs n (front ++ rest))
      dropped-tidy = other_pairs (typ_settings n.path.settings) n.path.fresh (resolved n.path.settings) (maxidx + n.path.choices) n.pairs (front ++ rest) h others

      split-tidy : IsTidyNode (with_pairs n (front ++ (argument_pairs p.left p.right ++ rest)))
      split-tidy = other_pairs (typ_settings n.path.settings) n.path.fresh (resolved n.path.settings) (maxidx + n.path.choices) n.pairs (front ++ (argument_pairs p.left p.right ++ rest)) h
          (each-append (HavePartsIn PN VN) front (argument_pairs p.left p.right ++ rest) (each-left (HavePartsIn PN VN) front (p ∷ rest) whole)
          (each-append (HavePartsIn PN VN) (argument_pairs p.left p.right) rest (split-parts PN VN p.left p.right own.0 own.1) (each-right (HavePartsIn PN VN) front (p ∷ rest) whole).1))

      bare-tidy : (x i : ℕ) (T : Typ) (image bare other : Term) (qs : List Pair) → IsTreatment p.left p.right (Put (bind x i T image)) → IsEtaNormalForm bare (Var x i T) → ¬ Occurs (Var x i T) other → IsEtaNormalForm other image → HasParts PN VN bare → HasParts PN VN other
          → AreLong (with_setting_put (Single (bind x i T image)) (front ++ rest)) (AllLong qs) → IsTidyNode (with_bind n (bind x i T image) qs)
      bare-tidy x i T image bare other qs t form free normal in_bare in_other l =
          let ss = n.path.settings in
          let bound = maxidx + n.path.choices in
          let key : HasParts PN VN (Var x i T) = eta-parts PN VN form.reduces in_bare in
          let inside = image-parts PN VN (IsUnset (keys (resolved ss) ++ Var x i T ∷ []) bound) (Var x i T) other image free normal (λ w k other. widened (keys (resolved ss)) (Var x i T) bound bound (itself bound) w k other) in_other in
          let put = set-tidy (typ_settings ss) n.path.fresh (resolved ss) bound bound (front ++ rest) dropped-tidy x i T image (itself bound) key.1.1 key.0 key.1.0 inside (put-typed Q u.content u.above A maxidx p (bind x i T image) t own_long) in
          one_more ss n.path.fresh (bind x i T image) bound qs
          (long_pairs (typ_settings ss) n.path.fresh (map (pushed (Single (bind x i T image))) (resolved ss) ++ bind x i T image ∷ []) bound (with_setting_put (Single (bind x i T image)) (front ++ rest)) qs l put)
        where
          itself : (a : ℕ) → a ≤ a
          itself a = omega arith

      put-tidy : (b : TermBind) (qs : List Pair) → IsTreatment p.left p.right (Put b) → AreLong (with_setting_put (Single b) (front ++ rest)) (AllLong qs) → IsTidyNode (with_bind n b qs)
      put-tidy b qs (absent {x = x} {i = i} {T = T} {other = o} {u = image} t side free normal) l = by side
        where
          by : IsBareSide p.left p.right (Var x i T) o → IsTidyNode (with_bind n (bind x i T image) qs)
          by (left_bare k e) = bare-tidy x i T image p.left p.right qs (absent t side free normal) k.form (subst (λ (v : Term). ¬ Occurs (Var x i T) v) e free) (subst (λ (v : Term). IsEtaNormalForm v image) e normal) own.0 own.1 l
          by (right_bare none k e) = bare-tidy x i T image p.right p.left qs (absent t side free normal) k.form (subst (λ (v : Term). ¬ Occurs (Var x i T) v) e free) (subst (λ (v : Term). IsEtaNormalForm v image) e normal) own.1 own.0 l

      parts : IsOfParts PN
      parts = plain_of_parts (maxidx + 65) n.path.fresh (typ_settings n.path.settings)

      retype-tidy : (T U : Typ) (m : Node) → IsTreatment p.left p.right (Differ T U) → IsRetyped A maxidx n T U (Goes m) → IsTidyNode m
      retype-tidy T U m t (all_long {sets = sets} {next = next} {qs = qs} found apart l) = by t
        where
          by : IsTreatment p.left p.right (Differ T U) → IsTidyNode (retyped n sets next qs)
          by (differ a b c) =
              let certified = differing Q u maxidx p T U t own_long in
              retyped-node n T U sets next qs h (typ-part PN VN parts [] p.left T tt own.0 a) (typ-part PN VN parts [] p.right U tt own.1 b) found apart l (typs-respect Q u maxidx n T U sets next certified.0 certified.1 found)

      unify-tidy : (T U : Typ) (m : Node) → IsTreatment p.left p.right (Unify T U) → IsRetyped A maxidx n T U (Goes m) → IsTidyNode m
      unify-tidy T U m t (all_long {sets = sets} {next = next} {qs = qs} found apart l) = by t
        where
          by : IsTreatment p.left p.right (Unify T U) → IsTidyNode (retyped n sets next qs)
          by (constants {c = c} g e k d) =
              let certified = of_constants Q u maxidx p T U t own_long in
              let first : PN T = subst (λ (v : Term). HasParts PN VN v) e (head-parts PN VN p.left own.0) in
              let second : PN U = subst (λ (v : Term). HasParts PN VN v) k (head-parts PN VN p.right own.1) in
              retyped-node n T U sets next qs h first second found apart l (typs-respect Q u maxidx n T U sets next certified.0 certified.1 found)

  -- A tidy node whose pair at a place is split is tidy.
  pub split-node : (front : List Pair) (m split : Node) → IsTidyNode m → IsSplitAt front m split → IsTidyNode split
  split-node front m split h a = subst IsTidyNode (sym a.are) (other_pairs (typ_settings m.path.settings) m.path.fresh (resolved m.path.settings) (maxidx + m.path.choices) m.pairs (a.before ++ (argument_pairs a.at.left a.at.right ++ a.behind)) h
      (each-append H a.before (argument_pairs a.at.left a.at.right ++ a.behind) (each-left H a.before (a.at ∷ a.behind) whole_pairs)
      (each-append H (argument_pairs a.at.left a.at.right) a.behind (split-parts (IsPlain (maxidx + 65) m.path.fresh (typ_settings m.path.settings)) (IsUnset (keys (resolved m.path.settings)) (maxidx + m.path.choices)) a.at.left a.at.right behind.0.0 behind.0.1) behind.1)))
    where
      H : Pair → Type 0
      H = HavePartsIn (IsPlain (maxidx + 65) m.path.fresh (typ_settings m.path.settings)) (IsUnset (keys (resolved m.path.settings)) (maxidx + m.path.choices))

      whole_pairs : Each (HavePartsIn (IsPlain (maxidx + 65) m.path.fresh (typ_settings m.path.settings)) (IsUnset (keys (resolved m.path.settings)) (maxidx + m.path.choices))) (a.before ++ a.at ∷ a.behind)
      whole_pairs = subst (λ (ps : List Pair). Each (HavePartsIn (IsPlain (maxidx + 65) m.path.fresh (typ_settings m.path.settings)) (IsUnset (keys (resolved m.path.settings)) (maxidx + m.path.choices))) ps) a.stands h.pairs

      behind : Each (HavePartsIn (IsPlain (maxidx + 65) m.path.fresh (typ_settings m.path.settings)) (IsUnset (keys (resolved m.path.settings)) (maxidx + m.path.choices))) (a.at ∷ a.behind)
      behind = each-right (HavePartsIn (IsPlain (maxidx + 65) m.path.fresh (typ_settings m.path.settings)) (IsUnset (keys (resolved m.path.settings)) (maxidx + m.path.choices))) a.before (a.at ∷ a.behind) whole_pairs

  pub step-tidy : (n m : Node) → Applies A maxidx n (Goes m) → AreLongPairs n.pairs → IsTidyNode n → IsTidyNode m
  step-tidy n m (drops {front = front} {rest = rest} {p = p} f) long h = dropped-tidy n long h front p rest f.stands
  step-tidy n m (splits {front = front} {rest = rest} {p = p} f) long h = split-tidy n long h front p rest f.stands
  step-tidy n m (puts {front = front} {rest = rest} {qs = qs} {p = p} {b = b} f l) long h = put-tidy n long h front p rest f.stands b qs f.treated l
  step-tidy n m (retypes {front = front} {rest = rest} {p = p} {T = T} {U = U} f t) long h = retype-tidy n long h front p rest f.stands T U m f.treated t
  step-tidy n m (unifies {front = front} {rest = rest} {p = p} {T = T} {U = U} {m = k} f t a) long h = split-node front k m (unify-tidy n long h front p rest f.stands T U k f.treated t) a

  pub simplified-tidy : {n m : Node} → Simplifies A maxidx n (Simple m) → Each (IsRespecting Q) n.path.settings → AreLongPairs n.pairs → IsTidyNode n → IsTidyNode m
  simplified-tidy (simple each) r long h = h
  simplified-tidy {n = n} (step {m = k} f s) r long h = let next = step-kept Q u maxidx n k f r long in simplified-tidy s next.0 next.1 (step-tidy n k f long h)

  pub visit-tidy : (n m : Node) → Visits A maxidx n (Simple m) → Each (IsRespecting Q) n.path.settings → Each (AreSidesCertified Q.declarations) n.pairs → IsTidyNode n → IsTidyNode m
  visit-tidy n m (visited {qs = qs} l s) r typed h =
      simplified-tidy s r (sides-are-long Q u.content u.above A maxidx l typed) (long_pairs (typ_settings n.path.settings) n.path.fresh (resolved n.path.settings) (maxidx + n.path.choices) n.pairs qs l h)

  -- The children of a tidy node are tidy.
  module _ (k : Node) (long : AreLongPairs k.pairs) (lefts : Each IsLeft k.pairs) (h : IsTidyNode k) where
    abbrev PK : Typ → Type 0
    PK = IsPlain (maxidx + 65) k.path.fresh (typ_settings k.path.settings)

    abbrev VK : Term → Type 0
    VK = IsUnset (keys (resolved k.path.settings)) (maxidx + k.path.choices)

    abbrev WK : (x i : ℕ) → Typ → Term → Type 0
    WK x i T = IsUnset (keys (resolved k.path.settings) ++ Var x i T ∷ []) (maxidx + (k.path.choices + 1))

    key_below : (es : List TermBind) (bound : ℕ) → Each (IsTidyEntry (typ_settings k.path.settings) k.path.fresh (keys (resolved k.path.settings)) (maxidx + k.path.choices)) es → (w : Term) → IsIn w (keys es) → index_of w ≤ maxidx + k.path.choices
    key_below [] bound each w m = absurd m
    key_below (e ∷ es) bound each w (inl same) = subst (λ (v : Term). index_of v ≤ maxidx + k.path.choices) (sym same) each.0.few
    key_below (e ∷ es) bound each w (inr m) = key_below es bound each.1 w m

    new_variable : (x i : ℕ) (T : Typ) → i ≤ maxidx + k.path.choices → (name : ℕ) (U : Typ) → WK x i T (Var name (maxidx + (k.path.choices + 1)) U)
    new_variable x i T low name U = (
      (λ m. elim (in_split (Var name (maxidx + (k.path.choices + 1)) U) (keys (resolved k.path.settings)) (Var x i T ∷ []) m) [
        | inl a ↦ above maxidx k.path.choices (key_below (resolved k.path.settings) 0 h.entries (Var name (maxidx + (k.path.choices + 1)) U) a)
        | inr b ↦ elim b [ inl e ↦ above maxidx k.path.choices (subst (λ (v : Term). index_of v ≤ maxidx + k.path.choices) (sym e) low) | inr none ↦ none ]
      ]),
      itself (maxidx + (k.path.choices + 1)),
    )
      where
        itself : (a : ℕ) → a ≤ a
        itself a = omega arith

        above : (a b : ℕ) → a + (b + 1) ≤ a + b → ⊥
        above a b h = absurd (omega arith)

    among_children : (c : Node) (x i : ℕ) (T : Typ) → PK T → VK (Var x i T) → (us : List Term) → Each (λ t. IsTypedUnder Q.declarations [] t T) us → Each (HasParts PK (WK x i T)) us → IsIn c (map (child k x i T) us) → IsTidyNode c
    among_children c x i T plain unset [] typed inside m = absurd m
    among_children c x i T plain unset (t ∷ us) typed inside (inl e) =
        let ss = k.path.settings in
        let put = set-tidy (typ_settings ss) k.path.fresh (resolved ss) (maxidx + k.path.choices) (maxidx + (k.path.choices + 1)) k.pairs h x i T t (more maxidx k.path.choices) (low i maxidx k.path.choices unset.1) plain unset.0 inside.0 typed.0 in
        subst IsTidyNode (sym e) (one_more ss k.path.fresh (bind x i T t) (maxidx + (k.path.choices + 1)) (with_setting_put (Single (bind x i T t)) k.pairs) put)
      where
        more : (a b : ℕ) → a + b ≤ a + (b + 1)
        more a b = omega arith

        low : (c a b : ℕ) → c ≤ a + b → c ≤ a + (b + 1)
        low c a b h = omega arith
    among_children c x i T plain unset (t ∷ us) typed inside (inr m) = among_children c x i T plain unset us typed.1 inside.1 m

    pub choice-inside : (f g : Term) → IsChoice k.pairs f g → HasParts PK VK f × HasParts PK VK g
    choice-inside f g c = by c.heads
      where
        own_parts : HavePartsIn PK VK c.pair
        own_parts = (each-right (HavePartsIn PK VK) c.front (c.pair ∷ c.rest) (subst (λ (ps : List Pair). Each (HavePartsIn PK VK) ps) c.stands h.pairs)).0

        by : HasFlexible c.pair f g → HasParts PK VK f × HasParts PK VK g
        by (on_left a b e d) = (subst (HasParts PK VK) (sym e) (head-parts PK VK c.pair.left own_parts.0), subst (HasParts PK VK) (sym d) (head-parts PK VK c.pair.right own_parts.1))
        by (on_right a b e d) = (subst (HasParts PK VK) (sym e) (head-parts PK VK c.pair.right own_parts.1), subst (HasParts PK VK) (sym d) (head-parts PK VK c.pair.left own_parts.0))

    pub child-tidy : (c : Node) (f g : Term) → IsChoice k.pairs f g → IsIn c (children maxidx k f g) → HasParts PK VK f × HasParts PK VK g → IsTidyNode c
    child-tidy c (Var x i T) g choice m inside =
        among_children c x i T inside.0.0 inside.0.1 (images (maxidx + (k.path.choices + 1)) T g) (choice-typed Q u.content u.above A maxidx k.pairs x i T g (maxidx + (k.path.choices + 1)) choice long lefts)
        (images-parts PK (WK x i T) (plain_of_parts (maxidx + 65) k.path.fresh (typ_settings k.path.settings)) (maxidx + (k.path.choices + 1)) (new_variable x i T inside.0.1.1) T g inside.0.0 (implied-parts PK PK VK (λ v. Unit {0}) (λ X p. p) (λ y j X v. tt) g inside.1)) m
    child-tidy c (Const d U) g choice m inside = absurd m
    child-tidy c (Free x U) g choice m inside = absurd m
    child-tidy c (Bound p) g choice m inside = absurd m
    child-tidy c (Abs U t) g choice m inside = absurd m
    child-tidy c (App a t) g choice m inside = absurd m

  pub leads-tidy : {n m : Node} → Leads A maxidx n m → Each (IsRespecting Q) n.path.settings → Each (AreSidesCertified Q.declarations) n.pairs → IsTidyNode n → IsTidyNode m
  leads-tidy {n = n} {m = m} (at_once v) r typed h = visit-tidy n m v r typed h
  leads-tidy {n = n} (by_child {k = k} {c = c} f g v choice i l) r typed h =
      let inner = visit-kept Q u maxidx n k v r typed in
      let lefts = (visit-solves Q u.content u.above A maxidx n k v).lefts in
      let below = child-kept Q u maxidx k c f g choice i inner.0 inner.1 lefts in
      let tidy = visit-tidy n k v r typed h in
      leads-tidy l below.0 below.1 (child-tidy k inner.1 lefts tidy c f g choice i (choice-inside k inner.1 lefts tidy f g choice))
