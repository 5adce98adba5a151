-- The pairs one after the other, and the map that is answered.
use Rattle.std.proofs.Common.{◌≡◌, ℕ, ◌+◌, ◌<◌, ◌≤◌, List, [], ◌∷◌, ◌++◌, map, length, get_or, drop, suc, inl, inr, add-one, drop-cons, append_assoc, append-nil, refl, ap, sym, subst, ◌∙◌, arith}
use Rattle.std.specs.Prelude.{Result, Ok, Err, IfErr}
use Rattle.std.proofs.lemmas.List.{drop_all}
use Rattle.std.proofs.Math.Nat.{le_trans}
use Rattle.pure_text.specs.Lists.{IsIn, Each}
use Rattle.pure_definitions.specs.Types.Typ.{Typ, TFree, TVar, Con}
use Rattle.pure_definitions.specs.Types.Occurs.{OccursInTyp}
use Rattle.pure_definitions.specs.Types.Order.{Algebra}
use Rattle.pure_definitions.specs.Terms.Subst.{TypBind, typ_variable, typ_image, typ_instance}
use Rattle.pure_definitions.specs.Terms.Limits.{IsWithinTyp}
use Rattle.pure_definitions.proofs.InstanceLemmas.{typ_image-fixed}
use Rattle.pure_term_laws.specs.LawsOccurs.{IsTypVariable}
use Rattle.pure_term_laws.proofs.OccursLaws.{typ_instances-agree}
use Rattle.pure_term_laws.proofs.SubstLaws.{typ_instance-identity}
use Rattle.pure_tunify.specs.declared.pair.TypPair.{TypPair}
use Rattle.pure_tunify.specs.Unifiers.{IsOldPair, IsMostGeneral}
use Rattle.pure_tunify.specs.Settings.{composed, AreTriangular, AreWithinLimits, Progress}
use Rattle.pure_tunify.specs.Procedure.{Outcome, Unified, NotTyped, TooBig, Unifies, over, no_typing, big, next}
use Rattle.pure_tunify.specs.Working.{IsWritten, IsWrittenInOrder, Pursues}
use Rattle.pure_tunify.specs.declared.fault.TypFault.{TypFault}
use Rattle.pure_tunify.specs.declared.fault.TypFault.TheVariants.{NoTyping, Big, Memory}
use Rattle.pure_tunify.specs.Passes.{HasCome, IsJudged}
use Rattle.pure_tunify.specs.Answers.{IsEqualised, IsPassed, AreSettled, AreUnified, IsIdempotentMap, IsDecided, IsReason}
use Rattle.pure_tunify.proofs.SizeLaws.{shrinks}
use Rattle.pure_tunify.proofs.SettingLaws.{instance-append, instance-free, composed-absent, composed-fixed, old_pair-later}
use Rattle.pure_tunify.proofs.PursueLaws.{pursuit_ends}
use Rattle.pure_tunify.proofs.ReductionLaws.{agree_unifier}
use Rattle.pure_tunify.proofs.MeantLaws.{procedure_is_meant}

-- Where nothing is left of a pair, it has been made equal.
pub equalised_at_end : (A : Algebra) (p : TypPair) (first now : Progress) → Pursues A p first now [] → IsEqualised A first now p
equalised_at_end A p first now h = record { more = h.more; further = h.further; equalises = pursuit_ends A p first now h }

rest_read : (pairs : List TypPair) (i : ℕ) (p : TypPair) → i < length pairs → p ≡ get_or pairs i p → drop i pairs ≡ p ∷ drop (i + 1) pairs
rest_read pairs i p within read = rw (add-one) (drop-cons pairs i p within ∙ ap (λ q. q ∷ drop (suc i) pairs) (sym read))

-- The map that is written out is as general as the settings.
written_agrees : (sets written : List TypBind) → IsWritten sets written → (v : Typ) → IsTypVariable v → typ_image written v ≡ composed sets v
written_agrees sets written h (TFree x s) is = typ_image-fixed written x s ∙ sym (composed-fixed sets x s)
written_agrees sets written h (TVar x i s) is = h x i s
written_agrees sets written h (Con k ts) is = absurd is

pub written_general : (A : Algebra) (index from : ℕ) (pairs : List TypPair) (written : List TypBind) (m : ℕ) → Each (IsOldPair index from) pairs → AreUnified A index from pairs written m → IsMostGeneral A index from pairs (typ_image written)
written_general A index from pairs written m old h =
    let g = (procedure_is_meant A index from pairs (Unified h.sets m) old h.unifies).general in
    let same = written_agrees h.sets written h.written in
    record {
      unifier = agree_unifier A (composed h.sets) (typ_image written) same pairs g.unifier;
      general = λ other u. (let w = g.general other u in (w.0, w.1, λ x i s new. ap (typ_instance w.0) (same (TVar x i s) tt) ∙ w.2 x i s new));
    }

-- Settings applied again change nothing.
settled : (sets : List TypBind) → AreTriangular sets → (t : Typ) → typ_instance (composed sets) (typ_instance (composed sets) t) ≡ typ_instance (composed sets) t
settled sets tri t = typ_instances-agree (composed sets) (λ v. v) (typ_instance (composed sets) t) (λ v is o. composed-absent sets v is (λ m. free sets (instance-free sets tri t) v o m)) ∙ typ_instance-identity (typ_instance (composed sets) t)
  where
    free : (bs : List TypBind) → Each (λ b. ¬ OccursInTyp (typ_variable b) (typ_instance (composed sets) t)) bs → (v : Typ) → OccursInTyp v (typ_instance (composed sets) t) → IsIn v (map typ_variable bs) → ⊥
    free [] each v o m = m
    free (b ∷ bs) each v o (inl e) = each.0 (subst (λ (w : Typ). OccursInTyp w (typ_instance (composed sets) t)) e o)
    free (b ∷ bs) each v o (inr m) = free bs each.1 v o m

pub written_idempotent : (sets written : List TypBind) → AreTriangular sets → IsWritten sets written → (x i : ℕ) (s : List ℕ) → typ_instance (typ_image written) (typ_image written (TVar x i s)) ≡ typ_image written (TVar x i s)
written_idempotent sets written tri h x i s =
    typ_instances-agree (typ_image written) (composed sets) (typ_image written (TVar x i s)) (λ v is o. written_agrees sets written h v is)
    ∙ (ap (typ_instance (composed sets)) (h x i s) ∙ (settled sets tri (TVar x i s) ∙ sym (h x i s)))

pub settled_idempotent : (sets : List TypBind) → AreTriangular sets → IsIdempotentMap (composed sets)
settled_idempotent sets tri x i s = settled sets tri (TVar x i s)

-- What is written out of settings that were found.
pub settled_unified : (A : Algebra) (index from : ℕ) (pairs : List TypPair) (p : Progress) (written : List TypBind) (m : ℕ) → AreSettled A index from pairs p → IsWrittenInOrder p.sets written → m ≡ p.next → AreUnified A index from pairs written m
settled_unified A index from pairs p written m h w same = record {
  sets = p.sets;
  unifies = subst (λ (n : ℕ). Unifies A index 0 from [] pairs (Unified p.sets n)) (sym same) h.unifies;
  written = w.0;
  ordered = w.1;
}

-- Settings that are within the limits after further ones were so before.
pub within_before : (sets more : List TypBind) (n m : ℕ) → n ≤ m → AreWithinLimits (sets ++ more) m → AreWithinLimits sets n
within_before sets more n m le h = record {
  images = λ x i s. by (composed sets (TVar x i s)) (subst IsWithinTyp (instance-append sets more (TVar x i s)) (h.images x i s));
  names = (let names = h.names in le_trans le names);
}
  where
    by : (t : Typ) → IsWithinTyp (typ_instance (composed more) t) → IsWithinTyp t
    by t w = shrinks (composed more) t w

module _ (A : Algebra) (index from : ℕ) (pairs : List TypPair) (i : ℕ) (now : Progress) (p : TypPair) (h : HasCome A index from pairs i now) (within : i < length pairs) (read : p ≡ get_or pairs i p) where
  pub come_next : (new : Progress) → IsEqualised A now new p → HasCome A index from pairs (i + 1) new
  come_next new e = record {
    onward = λ at is limits outcome u. (
        let limits_here = subst (λ (sets : List TypBind). AreWithinLimits sets new.next) e.further.sets limits in
        h.onward i refl (within_before now.sets e.more now.next new.next e.further.later limits_here) outcome
        (subst (λ (k : ℕ). Unifies A k i now.next now.sets (drop i pairs) outcome) h.same (subst (λ (ps : List TypPair). Unifies A now.index i now.next now.sets ps outcome) (sym (rest_read pairs i p within read))
        (next e.equalises limits_here (subst (λ (sets : List TypBind). Unifies A now.index (i + 1) new.next sets (drop (i + 1) pairs) outcome) e.further.sets
        (subst (λ (k : ℕ). Unifies A k (i + 1) new.next new.sets (drop (i + 1) pairs) outcome) (sym h.same) (subst (λ (k : ℕ). Unifies A index k new.next new.sets (drop (i + 1) pairs) outcome) is u)))))));
    same = e.further.index ∙ h.same;
    later = (let a = h.later in let b = e.further.later in omega arith);
  }

  -- The pair decides, behind settings within the limits.
  onward_from_come : AreWithinLimits now.sets now.next → (outcome : Outcome) → Unifies A now.index i now.next now.sets (p ∷ drop (i + 1) pairs) outcome → Unifies A index 0 from [] pairs outcome
  onward_from_come limits outcome u = h.onward i refl limits outcome (subst (λ (k : ℕ). Unifies A k i now.next now.sets (drop i pairs) outcome) h.same (subst (λ (ps : List TypPair). Unifies A now.index i now.next now.sets ps outcome) (sym (rest_read pairs i p within read)) u))

  pub come_judged : (at : ℕ) → at ≡ i → (fault : TypFault) → IsJudged A now p at fault → IsDecided A index from pairs fault
  come_judged at is (NoTyping k) w = subst (λ (n : ℕ). Unifies A index 0 from [] pairs (NotTyped n)) (sym (w.0 ∙ is)) (onward_from_come w.1 (NotTyped i) (no_typing w.2))
  come_judged at is (Big k) w = subst (λ (n : ℕ). Unifies A index 0 from [] pairs (TooBig n)) (sym (w.0 ∙ is))
      (onward_from_come w.1 (TooBig i) (big w.2.2 w.2.3))
  come_judged at is Memory w = tt

  -- A pair that passes the limits decides, if the settings then are within them.
  pub come_passed : (new : Progress) → IsPassed A now new p → AreWithinLimits new.sets new.next → Unifies A index 0 from [] pairs (TooBig i)
  come_passed new w limits = onward_from_come (within_before now.sets w.found now.next new.next w.further.later (subst (λ (sets : List TypBind). AreWithinLimits sets new.next) w.further.sets limits)) (TooBig i) (big w.equalises w.beyond)

  pub come_passed_at : (new : Progress) (at : ℕ) → at ≡ i → IsPassed A now new p → AreWithinLimits new.sets new.next → Unifies A index 0 from [] pairs (TooBig at)
  come_passed_at new at is w limits = subst (λ (k : ℕ). Unifies A index 0 from [] pairs (TooBig k)) (sym is) (come_passed new w limits)

pub come_end : (A : Algebra) (index from : ℕ) (pairs : List TypPair) (i : ℕ) (now : Progress) → HasCome A index from pairs i now → length pairs ≤ i → AreWithinLimits now.sets now.next → Unifies A index 0 from [] pairs (Unified now.sets now.next)
come_end A index from pairs i now h full limits = h.onward i refl limits (Unified now.sets now.next) (subst (λ (ps : List TypPair). Unifies A index i now.next now.sets ps (Unified now.sets now.next)) (sym (drop_all i pairs full)) over)

-- The settings with which unification starts.
abbrev pub at_start : (index from : ℕ) → Progress
at_start index from = record { sets = []; index = index; next = from }

module _ (A : Algebra) (index from : ℕ) (pairs : List TypPair) (first now : Progress) (start : first ≡ at_start index from) where
  -- All pairs have come to settings within the limits.
  pub come_settled : HasCome A first.index first.next pairs (length pairs) now → AreWithinLimits now.sets now.next → AreTriangular now.sets → AreSettled A index from pairs now
  come_settled h within triangular =
      let come = subst (λ (q : Progress). HasCome A q.index q.next pairs (length pairs) now) start h in
      record { unifies = come_end A index from pairs (length pairs) now come (omega arith) within; within = within; triangular = triangular }

  -- What is judged of a pair decides.
  pub judged_decided : {T : Type 0} (at : ℕ) (p : TypPair) → at < length pairs → p ≡ get_or pairs at p → HasCome A first.index first.next pairs at now → (r : Result T TypFault) → IfErr r (IsJudged A now p at) → IfErr r (IsDecided A index from pairs)
  judged_decided at p within read h (Ok x) w = tt
  judged_decided at p within read h (Err fault) w = come_judged A index from pairs at now p (subst (λ (q : Progress). HasCome A q.index q.next pairs at now) start h) within read at refl fault w

module _ (A : Algebra) (index from : ℕ) (pairs : List TypPair) (old : Each (IsOldPair index from) pairs) where
  -- A reason means what it says.
  pub a_reason : (fault : TypFault) → IsDecided A index from pairs fault → IsReason A index from pairs fault
  a_reason (NoTyping k) h = procedure_is_meant A index from pairs (NotTyped k) old h
  a_reason (Big k) h = procedure_is_meant A index from pairs (TooBig k) old h
  a_reason Memory h = tt

  -- Settings that were found are a most general unifier.
  pub settled_general : (p : Progress) → AreSettled A index from pairs p → IsMostGeneral A index from pairs (composed p.sets)
  settled_general p h = (procedure_is_meant A index from pairs (Unified p.sets p.next) old h.unifies).general

-- So many pairs have been taken from the front, and all have come so far.
pub record HasTaken (A : Algebra) (index from : ℕ) (pairs left : List TypPair) (now : Progress) : Type 0 where
  pub taken : List TypPair
  pub all : taken ++ left ≡ pairs
  pub come : HasCome A index from pairs (length taken) now

at_front : {X : Type 0} (front rest : List X) (x : X) → x ≡ get_or (front ++ x ∷ rest) (length front) x
at_front [] rest x = refl
at_front (y ∷ ys) rest x = at_front ys rest x

in_front : {X : Type 0} (front rest : List X) (x : X) → length front < length (front ++ x ∷ rest)
in_front [] rest x = omega arith
in_front (y ∷ ys) rest x = omega (arith, in_front ys rest x)

one_longer : {X : Type 0} (front : List X) (x : X) → length front + 1 ≡ length (front ++ x ∷ [])
one_longer [] x = refl
one_longer (y ∷ ys) x = let more = one_longer ys x in omega (arith, more)

each_at_front : {X : Type 0} (P : X → Type 0) (front rest : List X) (x : X) → Each P (front ++ x ∷ rest) → P x
each_at_front P [] rest x h = h.0
each_at_front P (y ∷ ys) rest x h = each_at_front P ys rest x h.1

module _ (A : Algebra) (index from : ℕ) (pairs left rest : List TypPair) (p : TypPair) (now : Progress) (first : left ≡ p ∷ rest) (h : HasTaken A index from pairs left now) where
  all_taken : h.taken ++ p ∷ rest ≡ pairs
  all_taken = ap (λ l. h.taken ++ l) (sym first) ∙ h.all

  -- The next pair is made equal, and has no fresh variables.
  pub taken_next : (new : Progress) → IsEqualised A now new p → HasTaken A index from pairs rest new
  taken_next new e = record {
    taken = h.taken ++ p ∷ [];
    all = append_assoc h.taken (p ∷ []) rest ∙ all_taken;
    come = subst (λ (n : ℕ). HasCome A index from pairs n new) (one_longer h.taken p)
        (come_next A index from pairs (length h.taken) now p h.come (subst (λ (l : List TypPair). length h.taken < length l) all_taken (in_front h.taken rest p))
        (subst (λ (l : List TypPair). p ≡ get_or l (length h.taken) p) all_taken (at_front h.taken rest p)) new e);
  }

  pub taken_old : Each (IsOldPair index from) pairs → IsOldPair now.index now.next p
  taken_old old = subst (λ (k : ℕ). IsOldPair k now.next p) (sym h.come.same)
      (old_pair-later index from now.next p h.come.later (each_at_front (IsOldPair index from) h.taken rest p (subst (Each (IsOldPair index from)) (sym all_taken) old)))

-- At the end all pairs have been taken.
pub come_all : (A : Algebra) (index from : ℕ) (pairs left : List TypPair) (now : Progress) → length left ≡ 0 → HasTaken A index from pairs left now → HasCome A index from pairs (length pairs) now
come_all A index from pairs [] now none h = subst (λ (n : ℕ). HasCome A index from pairs n now) (ap length (sym (append-nil h.taken) ∙ h.all)) h.come
come_all A index from pairs (p ∷ ps) now none h = absurd (omega arith)
