-- Terms under a unifier, in long form.
use Rattle.std.proofs.Common.{◌≡◌, List, [], ◌∷◌, ◌++◌, map, length, Result, Ok, Err, IfOk, IfErr, inl, refl, ap, sym, subst, ◌∙◌, arith, append_assoc}
use Rattle.std.proofs.lemmas.List.{map-append}
use Rattle.std.specs.Global.{Vec}
use Rattle.pure_text.specs.Lists.{Each}
use Rattle.pure_definitions.specs.Types.Typ.{Typ}
use Rattle.pure_definitions.specs.Types.Order.{Algebra}
use Rattle.pure_definitions.specs.Terms.Term.{Term, Const, Free, Var, Bound, Abs, App, IsWithin}
use Rattle.pure_definitions.specs.Terms.Typing.{HasType}
use Rattle.pure_definitions.specs.Terms.Subst.{TypBind, TermBind, typ_image, typ_instance, term_instance, retyped_variable, inst_typ, term_image, inst_term, IsTypeRespecting, AreTypeRespecting}
use Rattle.pure_definitions.specs.Models.Comparison.{term_cmp}
use Rattle.pure_term_laws.proofs.SubstLaws.{typ_instance-identity, term_instance-identity, inst_term-alone, entries-respect_types}
use Rattle.pure_term_laws.proofs.TypingBoundLaws.{typing-instance}
use Rattle.pure_definitions.specs.Reduction.Eta.{IsLongForm}
use Rattle.pure_logic.specs.Derivable.{Pair, Theorem}
use Rattle.pure_logic.specs.Laws.Maps.{instantiated}
use Rattle.pure_theorem.specs.Sets.{IsSetOf}
use Rattle.pure_theorem.specs.Within.{IsPairWithin, AreWithin}
use Rattle.pure_theorem.specs.Shapes.{IsTyped}
use Rattle.pure_inst.specs.Instance.{GivesInstance}
use Rattle.pure_unify_definitions.specs.LongSides as sides
use Rattle.pure_unify_definitions.specs.LongSides.{Stop, Long, Ends, ComesTo, is_long, is_large}
use Rattle.pure_goal_steps.specs.Follows.{AllLong, Halted, Come, no_more, first_stops, later_stops, all_long}
use Rattle.pure_goal_steps.specs.declared.fault.StepFault.{StepFault}
use Rattle.pure_goal_steps.specs.declared.fault.StepFault.TheVariants.{UnknownFact, NoSubgoal, NoPremise, NotDefinition, NothingToUnfold, NoUnifier, SearchBound, Steps, Big, NoHypothesis, SubgoalsLeft, Memory}
use Rattle.pure_goal_steps.proofs.MeasuredLaws.{come-both}
use Rattle.pure_resolve.specs.Goals.{IsLongSubgoal}
use Rattle.pure_resolve.specs.Settled.{ArePlain, IsInstanceAnswer, IsComeAnswer, IsComeBehind}
use Rattle.pure_resolve.proofs.ChainLaws.{nothing-more}

-- The instance.
pub instance_made : (A : Algebra) (typs : List TypBind) (terms : List TermBind) (th image : Theorem) (t u : Term) → th.prop ≡ t → u ≡ image.prop → GivesInstance A typs terms th image → IsInstanceAnswer typs terms t (Ok u)
instance_made A typs terms th image t u e d g = (d ∙ (g.image.prop ∙ ap (instantiated typs terms) e), g.types)

pub none-is : (all : List Term) → IsSetOf term_cmp [] all → all ≡ []
none-is [] s = refl
none-is (x ∷ xs) s = absurd ((s.members x).0 (inl refl))

pub instance_large : (A : Algebra) (typs : List TypBind) (terms : List TermBind) (th image : Theorem) (t : Term) → th.hyps ≡ [] → th.pairs ≡ [] → th.prop ≡ t → GivesInstance A typs terms th image → (¬ AreWithin image) → ¬ IsWithin (instantiated typs terms t)
instance_large A typs terms th image t h p e g wide = λ w.
    let hyps : image.hyps ≡ [] = none-is image.hyps (subst (λ (hs : List Term). IsSetOf term_cmp (map (instantiated typs terms) hs) image.hyps) h g.image.hyps) in
    let pairs : image.pairs ≡ [] = g.image.pairs ∙ ap (map (λ (q : Pair). record { left = instantiated typs terms q.left; right = instantiated typs terms q.right })) p in
    let prop : image.prop ≡ instantiated typs terms t = g.image.prop ∙ ap (instantiated typs terms) e in
    wide (record {
      hyps = subst (λ (hs : List Term). Each IsWithin hs) (sym hyps) tt;
      pairs = subst (λ (ps : List Pair). Each IsPairWithin ps) (sym pairs) tt;
      prop = subst IsWithin (sym prop) w;
    })

retyping-respects : (typs : Typ → Typ) → IsTypeRespecting typs (retyped_variable typs)
retyping-respects typs = record { fixed = λ x T. refl; schematic = λ x i T. refl }

retyped-typed : (map : List TypBind) (t : Term) → IsTyped t → IsTyped (inst_typ (typ_image map) t)
retyped-typed map t h = (typ_instance (typ_image map) h.0, typing-instance (typ_image map) (retyped_variable (typ_image map)) (retyping-respects (typ_image map)) [] t h.0 h.1)

replaced-typed : (map : List TermBind) (t : Term) → AreTypeRespecting map → IsTyped t → IsTyped (inst_term (term_image map) t)
replaced-typed map t r h =
    (typ_instance (λ v. v) h.0, subst (λ (u : Term). HasType [] u (typ_instance (λ v. v) h.0)) (sym (inst_term-alone (term_image map) t)) (typing-instance (λ v. v) (term_image map) (entries-respect_types map r) [] t h.0 h.1))

pub instance_typed : (typs : List TypBind) (terms : List TermBind) (t u : Term) → IsTyped t → IsInstanceAnswer typs terms t (Ok u) → IsTyped u
instance_typed typs terms t u h (e, r) = subst IsTyped (sym e) (replaced-typed terms (inst_typ (typ_image typs) t) r (retyped-typed typs t h))

-- Maps that set no types.
retyped-none : (v : Term) → retyped_variable (λ T. T) v ≡ v
retyped-none (Const c T) = refl
retyped-none (Free x T) = ap (Free x) (typ_instance-identity T)
retyped-none (Var x i T) = ap (Var x i) (typ_instance-identity T)
retyped-none (Bound n) = refl
retyped-none (Abs T b) = refl
retyped-none (App f a) = refl

untouched : (t : Term) → inst_typ (typ_image []) t ≡ t
untouched t = (λ i. term_instance (λ T. T) (λ v. retyped-none v i) t) ∙ term_instance-identity t

plain-is : (terms : List TermBind) (t u : Term) → u ≡ inst_term (term_image terms) t → u ≡ instantiated [] terms t
plain-is terms t u e = e ∙ ap (inst_term (term_image terms)) (sym (untouched t))

pub plain_typed : (terms : List TermBind) (t u : Term) → IsTyped t → AreTypeRespecting terms → u ≡ inst_term (term_image terms) t → IsTyped u
plain_typed terms t u h r e = subst IsTyped (sym e) (replaced-typed terms t r h)

pub plain_long : (terms : List TermBind) (t u : Term) (r : Result Term StepFault) → u ≡ inst_term (term_image terms) t → IsLongSubgoal u r → IsLongSubgoal (instantiated [] terms t) r
plain_long terms t u r e h = subst (λ (v : Term). IsLongSubgoal v r) (plain-is terms t u e) h

pub plain_answer : (typs : List TypBind) (terms : List TermBind) (t : Term) (r : Result Term StepFault) → ArePlain typs terms → IsLongSubgoal (instantiated [] terms t) r → IsLongSubgoal (instantiated typs terms t) r
plain_answer typs terms t r p h = subst (λ (bs : List TypBind). IsLongSubgoal (instantiated bs terms t) r) (sym p.no_typs) h

-- In long form.
pub beyond_large : (t : Term) → ¬ IsWithin t → ComesTo t (Ends sides.Big)
beyond_large t h = is_large (record { before = []; last = t; sequence = refl; undecided = tt; in_time = omega arith; decided = h })

pub settled_stopped : (typs : List TypBind) (terms : List TermBind) (t : Term) (fault : StepFault) → IsInstanceAnswer typs terms t (Err fault) → IsLongSubgoal (instantiated typs terms t) (Err fault)
settled_stopped typs terms t Big h = beyond_large (instantiated typs terms t) h
settled_stopped typs terms t Memory h = tt
settled_stopped typs terms t Steps h = absurd h
settled_stopped typs terms t UnknownFact h = absurd h
settled_stopped typs terms t NoSubgoal h = absurd h
settled_stopped typs terms t NoPremise h = absurd h
settled_stopped typs terms t NotDefinition h = absurd h
settled_stopped typs terms t NothingToUnfold h = absurd h
settled_stopped typs terms t NoUnifier h = absurd h
settled_stopped typs terms t SearchBound h = absurd h
settled_stopped typs terms t NoHypothesis h = absurd h
settled_stopped typs terms t SubgoalsLeft h = absurd h

-- Terms in long form that the maps leave as they are.
pub kept_comes : (typs : List TypBind) (terms : List TermBind) (t : Term) → IsLongForm t t → instantiated typs terms t ≡ t → IsWithin t → ComesTo (instantiated typs terms t) (Long t)
kept_comes typs terms t f e w = subst (λ (u : Term). ComesTo u (Long t)) (sym e) (is_long (record { before = []; last = t; sequence = refl; undecided = tt; in_time = omega arith; decided = (w, f.normal, refl) }) f w)

-- Terms whose instances are followed by others.
come-behind : (front Fs others : List Term) (s : Stop) → Come front (AllLong Fs) → Come others (Halted s) → Come (front ++ others) (Halted s)
come-behind [] [] others s f g = g
come-behind [] (F ∷ Fs) others s f g = elim f [ ]
come-behind (A ∷ As) [] others s f g = elim f [ ]
come-behind (A ∷ As) (F ∷ Fs) others s (all_long c f) g = later_stops c (come-behind As Fs others s f g)

come-before : (front others : List Term) (s : Stop) → Come front (Halted s) → Come (front ++ others) (Halted s)
come-before [] others s f = elim f [ ]
come-before (A ∷ As) others s (first_stops c) = first_stops c
come-before (A ∷ As) others s (later_stops c f) = later_stops c (come-before As others s f)

pub stopped_before : (front others : List Term) (fault : StepFault) → IsComeAnswer front (Err fault) → IsComeAnswer (front ++ others) (Err fault)
stopped_before front others Steps c = come-before front others sides.Steps c
stopped_before front others Big c = come-before front others sides.Big c
stopped_before front others Memory c = tt
stopped_before front others UnknownFact c = absurd c
stopped_before front others NoSubgoal c = absurd c
stopped_before front others NoPremise c = absurd c
stopped_before front others NotDefinition c = absurd c
stopped_before front others NothingToUnfold c = absurd c
stopped_before front others NoUnifier c = absurd c
stopped_before front others SearchBound c = absurd c
stopped_before front others NoHypothesis c = absurd c
stopped_before front others SubgoalsLeft c = absurd c

-- However those that are left come, so do all, behind what is done. Of each that is left this holds.
pub record ComesOn (P : Term → Type 0) (f : Term → Term) (front others left done : List Term) : Type 0 where
  pub on : (As Ss : List Term) → Come (map f As) (AllLong front) → Come (map f left) (AllLong Ss) → Come (map f (As ++ others)) (AllLong (done ++ Ss))
  pub halts : (As : List Term) (s : Stop) → Come (map f As) (AllLong front) → Come (map f left) (Halted s) → Come (map f (As ++ others)) (Halted s)
  pub kept : Each P left

pub others_none : (P : Term → Type 0) (f : Term → Term) (front others left : List Term) → left ≡ others → Each P others → ComesOn P f front others left front
others_none P f front others left e h = record {
  on = λ As Ss c g. subst (λ (ts : List Term). Come ts (AllLong (front ++ Ss))) (λ i. whole As i) (come-both (map f As) front (map f left) Ss c g);
  halts = λ As s c g. subst (λ (ts : List Term). Come ts (Halted s)) (λ i. whole As i) (come-behind (map f As) front (map f left) s c g);
  kept = subst (λ (As : List Term). Each P As) (sym e) h;
}
  where
    whole : (As : List Term) → map f As ++ map f left ≡ map f (As ++ others)
    whole As = sym (map-append f As left) ∙ ap (λ (Bs : List Term). map f (As ++ Bs)) e

pub next_with : (P : Term → Type 0) (f : Term → Term) (front others left rest done : List Term) (t : Term) → left ≡ t ∷ rest → ComesOn P f front others left done → P t
next_with P f front others left rest done t e o = (subst (λ (As : List Term). Each P As) e o.kept).0

pub others_turn : (P : Term → Type 0) (f : Term → Term) (front others left rest done longer : List Term) (t S : Term) → left ≡ t ∷ rest → longer ≡ done ++ S ∷ [] → IsLongSubgoal (f t) (Ok S) → ComesOn P f front others left done → ComesOn P f front others rest longer
others_turn P f front others left rest done longer t S e l d o = record {
  on = λ As Ss c g.
      subst (λ (Ts : List Term). Come (map f (As ++ others)) (AllLong Ts)) (sym (append_assoc done (S ∷ []) Ss) ∙ ap (λ (Ts : List Term). Ts ++ Ss) (sym l))
      (o.on As (S ∷ Ss) c (subst (λ (ts : List Term). Come (map f ts) (AllLong (S ∷ Ss))) (sym e) (all_long d g)));
  halts = λ As s c g. o.halts As s c (subst (λ (ts : List Term). Come (map f ts) (Halted s)) (sym e) (later_stops d g));
  kept = (subst (λ (As : List Term). Each P As) e o.kept).1;
}

pub others_end : (P : Term → Type 0) (f : Term → Term) (front others left done : List Term) → length left ≡ 0 → ComesOn P f front others left done → IsComeBehind f front others (Ok done)
others_end P f front others [] done n o = λ As c. subst (λ (Ts : List Term). Come (map f (As ++ others)) (AllLong Ts)) (sym (nothing-more done)) (o.on As [] c no_more)
others_end P f front others (t ∷ ts) done n o = absurd (omega arith)

halts-at : (P : Term → Type 0) (f : Term → Term) (front others left rest done : List Term) (t : Term) (s : Stop) → left ≡ t ∷ rest → ComesTo (f t) (Ends s) → ComesOn P f front others left done → (As : List Term) → Come (map f As) (AllLong front) → Come (map f (As ++ others)) (Halted s)
halts-at P f front others left rest done t s e d o As c = o.halts As s c (subst (λ (ts : List Term). Come (map f ts) (Halted s)) (sym e) (first_stops d))

pub others_fault : (P : Term → Type 0) (f : Term → Term) (front others left rest done : List Term) (t : Term) (fault : StepFault) → left ≡ t ∷ rest → IsLongSubgoal (f t) (Err fault) → ComesOn P f front others left done → IsComeBehind f front others (Err fault)
others_fault P f front others left rest done t Steps e d o = halts-at P f front others left rest done t sides.Steps e d o
others_fault P f front others left rest done t Big e d o = halts-at P f front others left rest done t sides.Big e d o
others_fault P f front others left rest done t Memory e d o = λ As c. tt
others_fault P f front others left rest done t UnknownFact e d o = absurd d
others_fault P f front others left rest done t NoSubgoal e d o = absurd d
others_fault P f front others left rest done t NoPremise e d o = absurd d
others_fault P f front others left rest done t NotDefinition e d o = absurd d
others_fault P f front others left rest done t NothingToUnfold e d o = absurd d
others_fault P f front others left rest done t NoUnifier e d o = absurd d
others_fault P f front others left rest done t SearchBound e d o = absurd d
others_fault P f front others left rest done t NoHypothesis e d o = absurd d
others_fault P f front others left rest done t SubgoalsLeft e d o = absurd d

-- Those before are given.
pub behind_long : (f : Term → Term) (As front others : List Term) (r : Result (Vec Term) StepFault) → Come (map f As) (AllLong front) → IfOk r (λ made. IsComeBehind f front others (Ok made.items)) → IfOk r (λ made. IsComeAnswer (map f (As ++ others)) (Ok made.items))
behind_long f As front others (Ok made) c h = h As c
behind_long f As front others (Err fault) c h = tt

pub behind_fault : (f : Term → Term) (As front others : List Term) (r : Result (Vec Term) StepFault) → Come (map f As) (AllLong front) → IfErr r (λ fault. IsComeBehind f front others (Err fault)) → IfErr r (λ fault. IsComeAnswer (map f (As ++ others)) (Err fault))
behind_fault f As front others (Ok made) c h = tt
behind_fault f As front others (Err fault) c h = h As c

pub stopped_both : (f : Term → Term) (As others : List Term) (fault : StepFault) → IsComeAnswer (map f As) (Err fault) → IsComeAnswer (map f (As ++ others)) (Err fault)
stopped_both f As others fault c = subst (λ (ts : List Term). IsComeAnswer ts (Err fault)) (sym (map-append f As others)) (stopped_before (map f As) (map f others) fault c)
