-- What the settings of a run solve.
use Rattle.std.proofs.Common.{◌≡◌, ℕ, ◌+◌, inl, inr, List, [], ◌∷◌, ◌++◌, Bool, true, false, ap, refl, sym, subst, ◌∙◌, append_assoc, ◌||◌}
use Rattle.std.specs.Prelude.{if◌then◌else◌}
use Rattle.std.specs.List.{list_any}
use Rattle.pure_text.specs.Lists.{IsIn, Each, EachTwo}
use Rattle.pure_text.proofs.ListLaws.{in-append_left, in-append_right, each-left, each-right}
use Rattle.pure_definitions.specs.Types.Typ.{Typ}
use Rattle.pure_definitions.specs.Terms.Term.{Term, Const, Free, Var, Bound, Abs, App, term_eq}
use Rattle.pure_definitions.specs.Terms.Bounds.{Occurs}
use Rattle.pure_definitions.specs.Terms.Conditions.{IsVariable}
use Rattle.pure_definitions.specs.Terms.Typing.{HasType}
use Rattle.pure_definitions.specs.Terms.Subst.{TermBind, term_variable, term_image, inst_term}
use Rattle.pure_definitions.proofs.InstanceLemmas.{term_image-fixed}
use Rattle.pure_definitions.specs.Reduction.Beta.{IsAbs, IsBetaNormal}
use Rattle.pure_definitions.specs.Reduction.Eta.{EtaReduces}
use Rattle.pure_eta.proofs.EtaStepLaws.{reduces-application as eta-application}
use Rattle.pure_eta.proofs.LongLaws.{IsLong}
use Rattle.pure_logic.specs.Derivable.{Pair}
use Rattle.pure_reduction.specs.Steps.{BetaStep, BetaReduces}
use Rattle.pure_reduction.specs.LongForms.{HasLongForm, HaveOneLongForm}
use Rattle.pure_reduction.proofs.StepLaws.{reduces-application}
use Rattle.pure_reduction.proofs.LongLaws.{one_long_form_of_term, long_form_of_normal}
use Rattle.pure_unify_definitions.specs.Fronts.{term_body, arguments, head, is_flexible, below, domains, applied, variables, pair_variables, pair, pairs_below, argument_pairs}
use Rattle.pure_unify_laws.proofs.SplitLaws.{under}
use Rattle.pure_unify_final.proofs.SideLaws.{IsRigidHead, head-rigid, abstractions-domains}
use Rattle.pure_unify_final.proofs.BuiltLaws.{applied-spine}
use Rattle.pure_unify_final.proofs.RuleLaws.{inst-inst}
use Rattle.pure_solutions.specs.Solutions.{IsTermSubstitution, IsLongMap, SolvesPair, SolvesPairs}
use Rattle.pure_solutions.specs.Ends.{HaveOneEnd, IsStuck}
use Rattle.pure_solutions.proofs.EndLaws.{long_forms_are_ends, ends_are_long_forms, ends_of_bodies, ends_of_abstractions}
use Rattle.pure_solutions.proofs.SolutionLaws.{long-instance, same-instances, instance-typed, image-typed, fixed-stays, one-long-swap, one-long-then, one-long-itself, solved_by_same_images}
use Rattle.pure_pattern_laws.specs.Patterns.{IsPatternPair}
use Rattle.pure_pattern_laws.specs.Treatment.{Becomes, IsTreated}
use Rattle.pure_pattern_laws.specs.Steps as steps
use Rattle.pure_pattern_laws.specs.Steps.{Outcome, State, start, IsPut, IsPairPut, IsBindPut, Follows, Solved, Runs, given_binds}
use Rattle.pure_pattern_laws.specs.Answers.{AreLongOfOneTyp, AreReady, Answer, Unified, answer_of, IsPatternAnswer}
use Rattle.pure_pattern_laws.specs.Laws.{IsPatternBind, IsPatternState, UnifierSolves}
use Rattle.pure_pattern_laws.proofs.BuiltLaws.{below-of}
use Rattle.pure_pattern_laws.proofs.KeepLaws.{left-long, right-long, side-body, binds-long_map, settings_are_patterns, steps_keep_patterns, put-binds, arguments-alike}

-- Sides whose arguments are solved.
module _ (terms : Term → Term) (s : IsTermSubstitution terms) where
  stuck-step : {t u : Term} → BetaStep t u → IsStuck t → IsStuck u
  stuck-step (BetaStep.contract e) n = absurd n
  stuck-step (BetaStep.body k) n = absurd n
  stuck-step (BetaStep.function k) n = stuck-step k n
  stuck-step (BetaStep.argument k) n = n

  stuck-steps : {t u : Term} → BetaReduces t u → IsStuck t → IsStuck u
  stuck-steps BetaReduces.done n = n
  stuck-steps (BetaReduces.next k r) n = stuck-steps r (stuck-step k n)

  stuck-bare : (t : Term) → IsStuck t → ¬ IsAbs t
  stuck-bare (Abs T b) n k = n
  stuck-bare (Const c T) n k = k
  stuck-bare (Free x T) n k = k
  stuck-bare (Var x i T) n k = k
  stuck-bare (Bound p) n k = k
  stuck-bare (App f a) n k = k

  ends-application : (f g a b : Term) → IsStuck f → IsStuck g → HaveOneEnd f g → HaveOneEnd a b → HaveOneEnd (App f a) (App g b)
  ends-application f g a b n m h k = record {
    left = App h.left k.left;
    right = App h.right k.right;
    end = App h.end k.end;
    from_left = reduces-application h.from_left k.from_left;
    from_right = reduces-application h.from_right k.from_right;
    left_normal = (stuck-bare h.left (stuck-steps h.from_left n), h.left_normal, k.left_normal);
    right_normal = (stuck-bare h.right (stuck-steps h.from_right m), h.right_normal, k.right_normal);
    to_left = eta-application h.left h.end k.left k.end h.to_left k.to_left;
    to_right = eta-application h.right h.end k.right k.end h.to_right k.to_right;
  }

  abbrev HaveOneEndUnder : Term → Term → Type 0
  HaveOneEndUnder t u = HaveOneEnd (inst_term terms t) (inst_term terms u)

  ends-applied : (f g : Term) (ts us : List Term) → IsStuck (inst_term terms f) → IsStuck (inst_term terms g) → HaveOneEndUnder f g → EachTwo HaveOneEndUnder ts us → HaveOneEndUnder (applied f ts) (applied g us)
  ends-applied f g [] [] n m h k = h
  ends-applied f g [] (u ∷ us) n m h k = absurd k
  ends-applied f g (t ∷ ts) [] n m h k = absurd k
  ends-applied f g (t ∷ ts) (u ∷ us) n m h k = ends-applied (App f t) (App g u) ts us n m (ends-application (inst_term terms f) (inst_term terms g) (inst_term terms t) (inst_term terms u) n m h k.0) k.1

  below-instance : (Ts : List Typ) (t : Term) → inst_term terms (below Ts t) ≡ below Ts (inst_term terms t)
  below-instance [] t = refl
  below-instance (T ∷ Ts) t = ap (Abs T) (below-instance Ts t)

  ends-below : (Ts : List Typ) (t u : Term) → HaveOneEnd t u → HaveOneEnd (below Ts t) (below Ts u)
  ends-below [] t u h = h
  ends-below (T ∷ Ts) t u h = ends_of_abstractions T (below Ts t) (below Ts u) (ends-below Ts t u h)

  ends-inside : (Ts : List Typ) (t u : Term) → HaveOneEnd (below Ts t) (below Ts u) → HaveOneEnd t u
  ends-inside [] t u h = h
  ends-inside (T ∷ Ts) t u h = ends-inside Ts t u (ends_of_bodies T T (below Ts t) (below Ts u) h)

  same-end : (t : Term) → IsBetaNormal t → HaveOneEnd t t
  same-end t n = record { left = t; right = t; end = t; from_left = BetaReduces.done; from_right = BetaReduces.done; left_normal = n; right_normal = n; to_left = EtaReduces.done; to_right = EtaReduces.done }

  rigid-end : (k : Term) → IsRigidHead k → IsStuck (inst_term terms k) × HaveOneEndUnder k k
  rigid-end (Const c T) n = (tt, same-end (Const c T) tt)
  rigid-end (Free x T) n = (subst IsStuck (sym (fixed-stays terms s x T)) tt, subst (λ u. HaveOneEnd u u) (sym (fixed-stays terms s x T)) (same-end (Free x T) tt))
  rigid-end (Bound p) n = (tt, same-end (Bound p) tt)
  rigid-end (Var x i T) n = absurd n
  rigid-end (Abs T b) n = absurd n
  rigid-end (App f a) n = absurd n

  arguments-end : (Ts : List Typ) (ts us : List Term) (Us : List Typ) → EachTwo (λ a U. IsLong (under Ts []) a a U) ts Us → EachTwo (λ a U. IsLong (under Ts []) a a U) us Us → SolvesPairs terms (pairs_below Ts Ts ts us) → EachTwo HaveOneEndUnder ts us
  arguments-end Ts [] [] Us h k solved = tt
  arguments-end Ts [] (u ∷ us) [] h k solved = absurd k
  arguments-end Ts [] (u ∷ us) (U ∷ Us) h k solved = absurd h
  arguments-end Ts (t ∷ ts) us [] h k solved = absurd h
  arguments-end Ts (t ∷ ts) [] (U ∷ Us) h k solved = absurd k
  arguments-end Ts (t ∷ ts) (u ∷ us) (U ∷ Us) h k solved =
      let ends = long_forms_are_ends (inst_term terms (below Ts t)) (inst_term terms (below Ts u)) solved.0 in
      let inside : HaveOneEnd (below Ts (inst_term terms t)) (below Ts (inst_term terms u)) = rw (below-instance Ts t, below-instance Ts u) at ends in
      (ends-inside Ts (inst_term terms t) (inst_term terms u) inside, arguments-end Ts ts us Us h.1 k.1 solved.1)

  -- What solves the pairs of arguments solves the pair of two rigid sides with one head.
  pub sides-solved : (S : Typ) (l r : Term) → IsLong [] l l S → IsLong [] r r S → is_flexible l ≡ false → head l ≡ head r → SolvesPairs terms (argument_pairs l r) → SolvesPair terms (pair l r)
  sides-solved S l r h k rigid e solved =
      let alike = arguments-alike S l r h k e in
      let left = abstractions-domains [] l S h.parts h.typed h.count in
      let right = abstractions-domains [] r S k.parts k.typed k.count in
      let pairs : SolvesPairs terms (pairs_below (domains S) (domains S) (arguments (term_body l)) (arguments (term_body r))) = rw (left, right) at solved in
      let ends = arguments-end (domains S) (arguments (term_body l)) (arguments (term_body r)) alike.types alike.left alike.right pairs in
      let fixed = rigid-end (head l) (head-rigid l h.normal rigid) in
      let heads : IsStuck (inst_term terms (head r)) × HaveOneEndUnder (head l) (head r) = subst (λ u. IsStuck (inst_term terms u) × HaveOneEndUnder (head l) u) e fixed in
      let bodies : HaveOneEndUnder (applied (head l) (arguments (term_body l))) (applied (head r) (arguments (term_body r))) = ends-applied (head l) (head r) (arguments (term_body l)) (arguments (term_body r)) fixed.0 heads.0 heads.1 ends in
      let whole : HaveOneEndUnder (term_body l) (term_body r) = rw (applied-spine (term_body l), applied-spine (term_body r)) at bodies in
      let b = below-of [] l S h in
      let c = below-of [] r S k in
      let inner : HaveOneEndUnder b.body c.body = rw (side-body l S b, side-body r S c) at whole in
      let closed : HaveOneEndUnder (below (domains S) b.body) (below (domains S) c.body) = rw (below-instance (domains S) b.body, below-instance (domains S) c.body) (ends-below (domains S) (inst_term terms b.body) (inst_term terms c.body) inner) in
      let sides : HaveOneEndUnder l r = rw (b.is, c.is) closed in
      ends_are_long_forms (inst_term terms l) (inst_term terms r) S S (instance-typed terms s l S h.typed) (instance-typed terms s r S k.typed) sides

  pub becomes-solved : (index : ℕ) (p : Pair) (qs : List Pair) → AreLongOfOneTyp p → IsTreated index p.left p.right (Becomes qs) → SolvesPairs terms qs → SolvesPair terms p
  becomes-solved index p qs h (IsTreated.equal e) solved =
      let itself = one-long-itself (inst_term terms p.left) h.typ (instance-typed terms s p.left h.typ h.left_typ) in
      subst (λ u. HaveOneLongForm (inst_term terms p.left) (inst_term terms u)) e itself
  becomes-solved index p qs h (IsTreated.same_heads n e f same) solved = sides-solved h.typ p.left p.right (left-long p h) (right-long p h) e same solved

-- Settings, and later settings.
two-split : {A B : Type 0} (R : A → B → Type 0) (xs ys : List A) (zs : List B) → EachTwo R (xs ++ ys) zs → (us : List B) × (vs : List B) × (zs ≡ us ++ vs) × EachTwo R xs us × EachTwo R ys vs
two-split R [] ys zs h = ([], zs, refl, tt, h)
two-split R (x ∷ xs) ys [] h = absurd h
two-split R (x ∷ xs) ys (z ∷ zs) h = let rest = two-split R xs ys zs h.1 in (z ∷ rest.0, rest.1, ap (λ ws. z ∷ ws) rest.2, (h.0, rest.3), rest.4)

-- A term under settings, the later of which are put into the former.
module _ (later bs cs : List TermBind) (late : Each IsPatternBind later) (early : Each IsPatternBind bs) (after : Each IsPatternBind cs) (put : EachTwo (IsBindPut later) bs cs) where
  abbrev both : Term → Term
  both = term_image (cs ++ later)

  abbrev one_by_one : Term → Term
  one_by_one v = inst_term (term_image later) (term_image bs v)

  variable-itself : (x i : ℕ) (T : Typ) → HaveOneLongForm (term_image later (Var x i T)) (term_image later (Var x i T))
  variable-itself x i T = one-long-itself (term_image later (Var x i T)) T (image-typed (term_image later) (binds-long_map later late).substitution x i T)

  images-same : (ds es : List TermBind) → Each IsPatternBind es → EachTwo (IsBindPut later) ds es → (x i : ℕ) (T : Typ) → HaveOneLongForm (term_image (es ++ later) (Var x i T)) (inst_term (term_image later) (term_image ds (Var x i T)))
  images-same [] [] h k x i T = variable-itself x i T
  images-same [] (e ∷ es) h k x i T = absurd k
  images-same (d ∷ ds) [] h k x i T = absurd k
  images-same (d ∷ ds) (e ∷ es) h k x i T =
      subst (λ w. HaveOneLongForm (if term_eq (term_variable e) (Var x i T) then e.image else term_image (es ++ later) (Var x i T)) (inst_term (term_image later) (if term_eq w (Var x i T) then d.image else term_image ds (Var x i T)))) (sym k.0.0)
      (by_cases (term_eq (term_variable e) (Var x i T)) (images-same ds es h.1 k.1 x i T))
    where
      by_cases : (test : Bool) → HaveOneLongForm (term_image (es ++ later) (Var x i T)) (inst_term (term_image later) (term_image ds (Var x i T)))
          → HaveOneLongForm (if test then e.image else term_image (es ++ later) (Var x i T)) (inst_term (term_image later) (if test then d.image else term_image ds (Var x i T)))
      by_cases true rest = (e.image, long_form_of_normal e.image e.image h.0.long, k.0.1)
      by_cases false rest = rest

  variables-same : (v : Term) → IsVariable v → HaveOneLongForm (both v) (one_by_one v)
  variables-same (Var x i T) is = images-same bs cs after put x i T
  variables-same (Free x T) is =
      let here : Free x T ≡ both (Free x T) = sym (term_image-fixed (cs ++ later) x T) in
      let there : Free x T ≡ one_by_one (Free x T) = sym (ap (inst_term (term_image later)) (term_image-fixed bs x T) ∙ term_image-fixed later x T) in
      let itself = one-long-itself (Free x T) T refl in
      subst (λ u. HaveOneLongForm (both (Free x T)) u) there (subst (λ u. HaveOneLongForm u (Free x T)) here itself)
  variables-same (Const c T) is = absurd is
  variables-same (Bound p) is = absurd is
  variables-same (Abs T b) is = absurd is
  variables-same (App f a) is = absurd is

  pub both-map : IsLongMap both
  both-map = binds-long_map (cs ++ later) (each_both cs after)
    where
      each_both : (es : List TermBind) → Each IsPatternBind es → Each IsPatternBind (es ++ later)
      each_both [] h = late
      each_both (e ∷ es) h = (h.0, each_both es h.1)

  -- Where the settings lead from t to u, both settings lead from t to where the later ones lead from u.
  pub through : (t u : Term) (T : Typ) → HasType [] t T → IsPut bs t u → HaveOneLongForm (inst_term both t) (inst_term (term_image later) u)
  through t u T h k =
      let same = same-instances both one_by_one both-map.substitution t T h (λ v is o. variables-same v is) in
      let twice : HasLongForm (inst_term (term_image later) (inst_term (term_image bs) t)) same.0 = rw (inst-inst (term_image later) (term_image bs) t) same.2 in
      (same.0, same.1, (long-instance (term_image later) (binds-long_map later late).substitution (inst_term (term_image bs) t) u same.0 k).0 twice)

  pub through-pairs : (ps qs : List Pair) → Each AreLongOfOneTyp ps → EachTwo (IsPairPut bs) ps qs → SolvesPairs (term_image later) qs → SolvesPairs both ps
  through-pairs [] [] h k solved = tt
  through-pairs [] (q ∷ qs) h k solved = absurd k
  through-pairs (p ∷ ps) [] h k solved = absurd k
  through-pairs (p ∷ ps) (q ∷ qs) h k solved =
      let left = through p.left q.left h.0.typ h.0.left_typ k.0.0 in
      let right = through p.right q.right h.0.typ h.0.right_typ k.0.1 in
      (one-long-then left (one-long-then solved.0 (one-long-swap right)), through-pairs ps qs h.1 k.1 solved.1)

  through-bind : (b d e : TermBind) → IsPatternBind b → IsBindPut bs b d → IsBindPut later d e → IsBindPut (cs ++ later) b e
  through-bind b d e h k l =
      let same = through b.image d.image b.typ h.typed k.1 in
      let one : same.0 ≡ e.image = one_long_form_of_term (inst_term (term_image later) d.image) same.0 e.image same.2 l.1 in
      (k.0 ∙ l.0, subst (HasLongForm (inst_term both b.image)) one same.1)

  pub through-binds : (as_set ds es : List TermBind) → Each IsPatternBind as_set → EachTwo (IsBindPut bs) as_set ds → EachTwo (IsBindPut later) ds es → EachTwo (IsBindPut (cs ++ later)) as_set es
  through-binds [] [] es h k l = l
  through-binds [] (d ∷ ds) es h k l = absurd k
  through-binds (b ∷ as_set) [] es h k l = absurd k
  through-binds (b ∷ as_set) (d ∷ ds) [] h k l = absurd l
  through-binds (b ∷ as_set) (d ∷ ds) (e ∷ es) h k l = (through-bind b d e h.0 k.0 l.0, through-binds as_set ds es h.1 k.1 l.1)

-- What a run adds to the settings of a state: with it put into them it gives all settings, and it solves the state's pairs.
record IsRest (s : State) (all : List TermBind) : Type 0 where
  front : List TermBind
  rest : List TermBind
  is : all ≡ front ++ rest
  ready : Each IsPatternBind rest
  put : EachTwo (IsBindPut rest) s.binds front
  solved : SolvesPairs (term_image rest) s.pairs

inst-itself : (t : Term) → inst_term (term_image []) t ≡ t
inst-itself (Const c T) = refl
inst-itself (Free x T) = refl
inst-itself (Var x i T) = refl
inst-itself (Bound p) = refl
inst-itself (Abs T b) = ap (Abs T) (inst-itself b)
inst-itself (App f a) = λ l. App (inst-itself f l) (inst-itself a l)

none-put : (bs : List TermBind) → Each IsPatternBind bs → EachTwo (IsBindPut []) bs bs
none-put [] h = tt
none-put (b ∷ bs) h = ((refl, subst (λ u. HasLongForm u b.image) (sym (inst-itself b.image)) (long_form_of_normal b.image b.image h.0.long)), none-put bs h.1)

append-none : (bs : List TermBind) → bs ≡ bs ++ []
append-none [] = refl
append-none (b ∷ bs) = ap (λ cs. b ∷ cs) (append-none bs)

rest-of : {maxidx n : ℕ} {s : State} {all : List TermBind} → Runs maxidx n s (Solved all) → IsPatternState s → IsRest s all
rest-of {s = s} (Runs.over within e) h = record { front = s.binds; rest = []; is = append-none s.binds; ready = tt; put = none-put s.binds h.binds; solved = subst (SolvesPairs (term_image [])) (sym e) tt }
rest-of {maxidx = maxidx} {n = n} {s = s} {all = all} (Runs.next {m = m} within low follows run) h = earlier (maxidx + (n + 1)) s m all h follows (rest-of run (steps_keep_patterns (maxidx + (n + 1)) s m h follows))
  where
    earlier : (index : ℕ) (s m : State) (all : List TermBind) → IsPatternState s → Follows index s m → IsRest m all → IsRest s all
    earlier index s m all h (Follows.replaced {p = p} {ps = ps} {qs = qs} e treated) k =
        let long = subst (Each AreLongOfOneTyp) e h.long in
        let solved : SolvesPairs (term_image k.rest) (p ∷ ps) =
        (becomes-solved (term_image k.rest) (binds-long_map k.rest k.ready).substitution index p qs long.0 treated (each-left (SolvesPair (term_image k.rest)) qs ps k.solved), each-right (SolvesPair (term_image k.rest)) qs ps k.solved) in
        record { front = k.front; rest = k.rest; is = k.is; ready = k.ready; put = k.put; solved = subst (SolvesPairs (term_image k.rest)) (sym e) solved }
    earlier index s m all h (Follows.set {p = p} {ps = ps} {qs = qs} {bs = bs} cs e treated pairs binds) k =
        let long = subst (Each AreLongOfOneTyp) e h.long in
        let patterns = subst (Each IsPatternPair) e h.patterns in
        let ready = settings_are_patterns index p long.0 patterns.0 bs treated in
        let split = two-split (IsBindPut k.rest) cs bs k.front k.put in
        let after = put-binds k.rest k.ready bs split.1 ready split.4 in
        record {
          front = split.0;
          rest = split.1 ++ k.rest;
          is = k.is ∙ (ap (λ ds. ds ++ k.rest) split.2 ∙ append_assoc split.0 split.1 k.rest);
          ready = each_two split.1 after;
          put = through-binds k.rest bs split.1 k.ready ready after split.4 s.binds cs split.0 h.binds binds split.3;
          solved = through-pairs k.rest bs split.1 k.ready ready after split.4 s.pairs qs h.long pairs k.solved;
        }
      where
        each_two : (ds : List TermBind) → Each IsPatternBind ds → Each IsPatternBind (ds ++ k.rest)
        each_two [] l = k.ready
        each_two (d ∷ ds) l = (l.0, each_two ds l.1)

-- The variables of the given pairs, and their images.
pub occurs-in : (x i : ℕ) (T : Typ) (t : Term) → Occurs (Var x i T) t → IsIn (Var x i T) (variables t)
occurs-in x i T (Const c V) e = absurd (cc)
occurs-in x i T (Free y V) e = absurd (cc)
occurs-in x i T (Var y j V) e = inl e
occurs-in x i T (Bound p) e = absurd (cc)
occurs-in x i T (Abs V b) (inl e) = absurd (cc)
occurs-in x i T (Abs V b) (inr o) = occurs-in x i T b o
occurs-in x i T (App f a) (inl e) = absurd (cc)
occurs-in x i T (App f a) (inr (inl o)) = in-append_left (Var x i T) (variables f) (variables a) (occurs-in x i T f o)
occurs-in x i T (App f a) (inr (inr o)) = in-append_right (Var x i T) (variables f) (variables a) (occurs-in x i T a o)

pub given-ready : (ps : List Pair) (bs : List TermBind) → Each IsPatternBind bs → Each IsPatternBind (given_binds ps bs)
given-ready ps [] h = tt
given-ready ps (b ∷ bs) h = kept (list_any (term_eq (term_variable b)) (pair_variables ps)) (given-ready ps bs h.1)
  where
    kept : (test : Bool) → Each IsPatternBind (given_binds ps bs) → Each IsPatternBind (if test then (b ∷ given_binds ps bs) else given_binds ps bs)
    kept true k = (h.0, k)
    kept false k = k

any-true : (test : Term → Bool) (v : Term) (vs : List Term) → IsIn v vs → test v ≡ true → list_any test vs ≡ true
any-true test v [] m e = absurd m
any-true test v (w ∷ ws) (inl s) e = (let t : test w ≡ true = sym (ap test s) ∙ e in rw t refl)
any-true test v (w ∷ ws) (inr m) e = or_true (test w) (list_any test ws) (any-true test v ws m e)
  where
    or_true : (b c : Bool) → c ≡ true → (b || c) ≡ true
    or_true true c k = refl
    or_true false c k = k

pub given-image : (ps : List Pair) (bs : List TermBind) (v : Term) → IsIn v (pair_variables ps) → term_image (given_binds ps bs) v ≡ term_image bs v
given-image ps [] v m = refl
given-image ps (b ∷ bs) v m = by_cases (list_any (term_eq (term_variable b)) (pair_variables ps)) refl (term_eq (term_variable b) v) refl (given-image ps bs v m)
  where
    by_cases : (kept : Bool) → list_any (term_eq (term_variable b)) (pair_variables ps) ≡ kept → (test : Bool) → term_eq (term_variable b) v ≡ test → term_image (given_binds ps bs) v ≡ term_image bs v
        → term_image (if kept then (b ∷ given_binds ps bs) else given_binds ps bs) v ≡ (if test then b.image else term_image bs v)
    by_cases true e true t rest = rw t refl
    by_cases true e false t rest = rw t rest
    by_cases false e true t rest = (let yes = any-true (term_eq (term_variable b)) v (pair_variables ps) m t in absurd (cc))
    by_cases false e false t rest = rest

given-solved : (ps : List Pair) (bs : List TermBind) → Each IsPatternBind bs → (qs : List Pair) → ((v : Term) → IsIn v (pair_variables qs) → IsIn v (pair_variables ps)) → Each AreLongOfOneTyp qs → SolvesPairs (term_image bs) qs → SolvesPairs (term_image (given_binds ps bs)) qs
given-solved ps bs ready [] among h solved = tt
given-solved ps bs ready (q ∷ qs) among h solved =
    let map = binds-long_map bs ready in
    let other = binds-long_map (given_binds ps bs) (given-ready ps bs ready) in (
      solved_by_same_images (term_image bs) (term_image (given_binds ps bs)) map.substitution other.substitution q h.0.typ h.0.typ h.0.left_typ h.0.right_typ
          (λ v is o. same v is (λ x i T e. among (Var x i T) (in-append_left (Var x i T) (variables q.left) (variables q.right ++ pair_variables qs) (occurs-in x i T q.left (subst (λ u. Occurs u q.left) e o)))))
          (λ v is o. same v is (λ x i T e. among (Var x i T) (in-append_right (Var x i T) (variables q.left) (variables q.right ++ pair_variables qs) (in-append_left (Var x i T) (variables q.right) (pair_variables qs) (occurs-in x i T q.right (subst (λ u. Occurs u q.right) e o))))))
          solved.0,
      given-solved ps bs ready qs (λ v m. among v (in-append_right v (variables q.left) (variables q.right ++ pair_variables qs) (in-append_right v (variables q.right) (pair_variables qs) m))) h.1 solved.1,
    )
  where
    same : (v : Term) → IsVariable v → ((x i : ℕ) (T : Typ) → v ≡ Var x i T → IsIn (Var x i T) (pair_variables ps)) → HaveOneLongForm (term_image bs v) (term_image (given_binds ps bs) v)
    same (Var x i T) is m =
        let itself = one-long-itself (term_image bs (Var x i T)) T (image-typed (term_image bs) (binds-long_map bs ready).substitution x i T) in
        subst (HaveOneLongForm (term_image bs (Var x i T))) (sym (given-image ps bs (Var x i T) (m x i T refl))) itself
    same (Free x T) is m =
        let itself = one-long-itself (Free x T) T refl in
        subst (λ u. HaveOneLongForm u (term_image (given_binds ps bs) (Free x T))) (sym (term_image-fixed bs x T)) (subst (HaveOneLongForm (Free x T)) (sym (term_image-fixed (given_binds ps bs) x T)) itself)
    same (Const c T) is m = absurd is
    same (Bound p) is m = absurd is
    same (Abs T b) is m = absurd is
    same (App f a) is m = absurd is

-- An answer with a unifier comes of a run.
pub record IsRun (maxidx : ℕ) (ps : List Pair) (bs : List TermBind) : Type 0 where
  pub all : List TermBind
  pub patterns : Each IsPatternPair ps
  pub run : Runs maxidx 0 (start ps) (Solved all)
  pub are : bs ≡ given_binds ps all

pub run-of : (maxidx : ℕ) (ps : List Pair) (bs : List TermBind) (answer : Answer) → answer ≡ Unified bs → IsPatternAnswer maxidx ps answer → IsRun maxidx ps bs
run-of maxidx ps bs answer e (IsPatternAnswer.schematic_type f) = absurd (cc)
run-of maxidx ps bs answer e (IsPatternAnswer.no_pattern n f) = absurd (cc)
run-of maxidx ps bs answer e (IsPatternAnswer.decided {outcome = outcome} n patterns run k) = by_cases outcome run (sym k ∙ e)
  where
    by_cases : (outcome : Outcome) → Runs maxidx 0 (start ps) outcome → answer_of ps outcome ≡ Unified bs → IsRun maxidx ps bs
    by_cases (Solved all) run e = record { all = all; patterns = patterns; run = run; are = cc }
    by_cases steps.NoUnifier run e = absurd (cc)
    by_cases steps.Steps run e = absurd (cc)
    by_cases steps.Big run e = absurd (cc)

pub start-ready : (maxidx : ℕ) (ps : List Pair) → AreReady maxidx ps → Each IsPatternPair ps → IsPatternState (start ps)
start-ready maxidx ps h k = record { long = h.sides; patterns = k; binds = tt }

nothing-put : (rest front : List TermBind) → EachTwo (IsBindPut rest) [] front → front ≡ []
nothing-put rest [] h = refl
nothing-put rest (f ∷ fs) h = absurd h

-- All settings of such a run.
record IsSettled (ps : List Pair) (all : List TermBind) : Type 0 where
  ready : Each IsPatternBind all
  solved : SolvesPairs (term_image all) ps

settled : (maxidx : ℕ) (ps : List Pair) → AreReady maxidx ps → (bs : List TermBind) (run : IsRun maxidx ps bs) → IsSettled ps run.all
settled maxidx ps h bs run =
    let k = rest-of run.run (start-ready maxidx ps h run.patterns) in
    let all : run.all ≡ k.rest = k.is ∙ ap (λ fs. fs ++ k.rest) (nothing-put k.rest k.front k.put) in
    record { ready = subst (Each IsPatternBind) (sym all) k.ready; solved = subst (λ cs. SolvesPairs (term_image cs) ps) (sym all) k.solved }

pub all-ready : (maxidx : ℕ) (ps : List Pair) → AreReady maxidx ps → (bs : List TermBind) (run : IsRun maxidx ps bs) → Each IsPatternBind run.all
all-ready maxidx ps h bs run = (settled maxidx ps h bs run).ready

pub unifier_solves : UnifierSolves
unifier_solves maxidx ps h bs answer =
    let run = run-of maxidx ps bs (Unified bs) refl answer in
    let k = settled maxidx ps h bs run in
    let given : IsTermSubstitution (term_image (given_binds ps run.all)) × SolvesPairs (term_image (given_binds ps run.all)) ps =
    ((binds-long_map (given_binds ps run.all) (given-ready ps run.all k.ready)).substitution, given-solved ps run.all k.ready ps (λ v m. m) h.sides k.solved) in
    subst (λ cs. IsTermSubstitution (term_image cs) × SolvesPairs (term_image cs) ps) (sym run.are) given
