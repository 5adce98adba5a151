-- What the outcomes of the procedure mean.
use Rattle.std.proofs.Common.{◌≡◌, ℕ, ◌+◌, List, [], ◌∷◌, ◌++◌, map, length, take, inl, inr, ◌⊎◌, ◌<◌, ◌≤◌, ◌^◌, refl, sym, subst, arith, append_assoc}
use Rattle.std.proofs.lemmas.List.{append-nil, length-append}
use Rattle.std.proofs.Math.Seq.{take-append_seam}
use Rattle.pure_text.specs.Lists.{Each}
use Rattle.pure_text.proofs.ListLaws.{each-left, each-right}
use Rattle.pure_definitions.specs.Types.Typ.{Typ}
use Rattle.pure_definitions.specs.Types.Order.{Algebra}
use Rattle.pure_definitions.specs.Terms.Subst.{TypBind, typ_instance}
use Rattle.pure_term_laws.proofs.SubstLaws.{typ_instance-identity}
use Rattle.pure_tunify.specs.declared.pair.TypPair.{TypPair}
use Rattle.pure_tunify.specs.Unifiers.{IsUnifier, IsFresh, IsOldPair, IsMostGeneral}
use Rattle.pure_tunify.specs.Steps.{instance_pair, IsReduction}
use Rattle.pure_tunify.specs.Settings.{composed, AreWithinLimits}
use Rattle.pure_tunify.specs.Procedure.{Equalises, Blocks, Outcome, Unifies, over, no_typing, big, next}
use Rattle.pure_tunify.specs.ProcedureLaws.{AreNamesUsed, IsReached, Makes, made, make, HaveLargeImage, IsWithinBefore, IsBeyond, IsMeant}
use Rattle.pure_tunify.proofs.ReductionLaws.{agree_unifier, reduction_along, stays, composed-append, equalised, blocks_unifiers}
use Rattle.pure_tunify.proofs.NameLaws.{names_next, no_names}
use Rattle.pure_tunify.proofs.RootLaws.{AreRooted, rooted_next, rooted_start, all_within, within_as_general}
use Rattle.pure_tunify.proofs.MapLaws.{identity_is_substitution}
use Rattle.pure_tunify.proofs.SettingLaws.{instance_pairs-append, instance_pairs-identity}

-- The settings so far, of the pairs in front, lead from the pairs to those that are left under them.
abbrev Leads : (A : Algebra) (index from : ℕ) → (front : List TypPair) → List TypBind → (n : ℕ) → Type 0
Leads A index from front sets n = (ext : List TypPair) → Each (IsOldPair index from) (front ++ ext) → IsReduction A index from (front ++ ext) (composed sets) n (map (instance_pair (composed sets)) ext)

module _ (A : Algebra) (index from : ℕ) where
  leads_start : Leads A index from [] [] from
  leads_start ext old = subst (λ (qs : List TypPair). IsReduction A index from ext (λ v. v) from qs) (sym (instance_pairs-identity ext)) (stays A index from ext old)

  behind_front : (front : List TypPair) (p : TypPair) (ext : List TypPair) → (front ++ p ∷ []) ++ ext ≡ front ++ p ∷ ext
  behind_front front p ext = append_assoc front (p ∷ []) ext

  leads_next : (front : List TypPair) (p : TypPair) (sets more : List TypBind) (n m : ℕ) → Leads A index from front sets n → Equalises A index n (instance_pair (composed sets) p) more m → Leads A index from (front ++ p ∷ []) (sets ++ more) m
  leads_next front p sets more n m leads e ext old =
      let one = leads (p ∷ ext) (subst (Each (IsOldPair index from)) (behind_front front p ext) old) in
      let two = equalised A index e (map (instance_pair (composed sets)) ext) one.left_old in
      let both = reduction_along A index from n m (front ++ p ∷ ext) (map (instance_pair (composed sets)) (p ∷ ext)) (map (instance_pair (composed more)) (map (instance_pair (composed sets)) ext)) (composed sets) (composed more) (composed (sets ++ more))
      (composed-append sets more) one two in
      subst (λ (ps : List TypPair). IsReduction A index from ps (composed (sets ++ more)) m (map (instance_pair (composed (sets ++ more))) ext)) (sym (behind_front front p ext))
      (subst (λ (qs : List TypPair). IsReduction A index from (front ++ p ∷ ext) (composed (sets ++ more)) m qs) (instance_pairs-append sets more ext) both)

  -- The settings so far are a most general unifier of the pairs in front.
  leads_general : (front : List TypPair) (sets : List TypBind) (n : ℕ) → Leads A index from front sets n → Each (IsOldPair index from) front → IsMostGeneral A index from front (composed sets)
  leads_general front sets n leads old =
      let r = subst (λ (ps : List TypPair). IsReduction A index from ps (composed sets) n []) (append-nil front) (leads [] (subst (Each (IsOldPair index from)) (sym (append-nil front)) old)) in
      record {
        unifier = agree_unifier A (λ v. typ_instance (λ w. w) (composed sets v)) (composed sets) (λ v is. sym (typ_instance-identity (composed sets v))) front (r.back (λ w. w) (record { substitution = identity_is_substitution A; equates = tt }));
        general = λ other u. (let w = r.forth other u in (w.0, w.1.substitution, w.2));
      }

  leads_refuse : (front : List TypPair) (p : TypPair) (sets : List TypBind) (n : ℕ) → Leads A index from front sets n → Each (IsOldPair index from) (front ++ p ∷ []) → Blocks A index n (instance_pair (composed sets) p) → (typs : Typ → Typ) → ¬ IsUnifier A (front ++ p ∷ []) typs
  leads_refuse front p sets n leads old h typs u =
      let r = leads (p ∷ []) old in
      let next_unifier = r.forth typs u in
      blocks_unifiers A index h r.left_old next_unifier.0 next_unifier.1

  take_front : (front ps : List TypPair) → take (length front) (front ++ ps) ≡ front
  take_front front ps = take-append_seam front ps

  old_front : (front ps : List TypPair) → Each (IsOldPair index from) (front ++ ps) → Each (IsOldPair index from) front
  old_front front ps old = each-left (IsOldPair index from) front ps old

  longer : (front : List TypPair) (p : TypPair) (at : ℕ) → length front ≡ at → length (front ++ p ∷ []) ≡ at + 1
  longer front p at long = omega (arith, length-append front (p ∷ []))

  take_one_more : (front : List TypPair) (p : TypPair) (ps : List TypPair) (at : ℕ) → length front ≡ at → take (at + 1) (front ++ p ∷ ps) ≡ front ++ p ∷ []
  take_one_more front p ps at long =
      let count : length (front ++ p ∷ []) ≡ at + 1 = longer front p at long in
      subst (λ (qs : List TypPair). take (at + 1) qs ≡ front ++ p ∷ []) (behind_front front p ps) (subst (λ (k : ℕ). take k ((front ++ p ∷ []) ++ ps) ≡ front ++ p ∷ []) count (take_front (front ++ p ∷ []) ps))

  inside_all : (front : List TypPair) (p : TypPair) (ps : List TypPair) (at : ℕ) → length front ≡ at → at < length (front ++ p ∷ ps)
  inside_all front p ps at long = omega (arith, length-append front (p ∷ ps))

  -- What the procedure makes of further pairs from here, it makes of all pairs from the start.
  abbrev Continues : (front : List TypPair) → List TypBind → (n : ℕ) → Type 0
  Continues front sets n = (rest : List TypPair) (all : List TypBind) (m : ℕ) → Makes A index n sets rest all m → Makes A index from [] (front ++ rest) all m

  continues_next : (front : List TypPair) (p : TypPair) (sets more : List TypBind) (n m : ℕ) → Continues front sets n → Equalises A index n (instance_pair (composed sets) p) more m → Continues (front ++ p ∷ []) (sets ++ more) m
  continues_next front p sets more n m goes e rest all k h = subst (λ (ps : List TypPair). Makes A index from [] ps all k) (sym (behind_front front p rest)) (goes (p ∷ rest) all k (make e h))

  makes_front : (front : List TypPair) (sets : List TypBind) (n : ℕ) → Continues front sets n → Makes A index from [] front sets n
  makes_front front sets n goes = subst (λ (ps : List TypPair). Makes A index from [] ps sets n) (append-nil front) (goes [] sets n made)

  -- What the pairs in front have come to: their settings are a most general unifier, with the names below the next, the procedure's, and rooted in variables of the pairs.
  record HasMade (front : List TypPair) (sets : List TypBind) (n : ℕ) : Type 0 where
    leads : Leads A index from front sets n
    names : AreNamesUsed index from n sets
    goes : Continues front sets n
    rooted : AreRooted (λ w. ¬ IsFresh index from w) sets

  has_made_next : (front : List TypPair) (p : TypPair) (ps : List TypPair) (sets more : List TypBind) (n m : ℕ) → HasMade front sets n → Each (IsOldPair index from) (front ++ p ∷ ps) → Equalises A index n (instance_pair (composed sets) p) more m → HasMade (front ++ p ∷ []) (sets ++ more) m
  has_made_next front p ps sets more n m h old e = record {
    leads = leads_next front p sets more n m h.leads e;
    names = names_next A index from n m sets more (instance_pair (composed sets) p) e (h.leads (p ∷ ps) old).left_old.0 h.names;
    goes = continues_next front p sets more n m h.goes e;
    rooted = rooted_next A index from n m sets more p (each-right (IsOldPair index from) front (p ∷ ps) old).0 h.rooted e;
  }

  is_reached : (front : List TypPair) (sets : List TypBind) (n : ℕ) → HasMade front sets n → Each (IsOldPair index from) front → IsReached A index from front sets n
  is_reached front sets n h old = record { general = leads_general front sets n h.leads old; names = h.names }

  within_before : (front : List TypPair) (p : TypPair) (ps : List TypPair) (sets : List TypBind) (at n : ℕ) → length front ≡ at → HasMade front sets n → (at ≡ 0) ⊎ AreWithinLimits sets n → Each (IsOldPair index from) (front ++ p ∷ ps)
      → IsWithinBefore A index from (front ++ p ∷ ps) at
  within_before front p ps sets at n long h within old = record {
    sets = sets;
    next = n;
    makes = subst (λ (qs : List TypPair). Makes A index from [] qs sets n) (sym cut) (makes_front front sets n h.goes);
    reached = subst (λ (qs : List TypPair). IsReached A index from qs sets n) (sym cut) (is_reached front sets n h (old_front front (p ∷ ps) old));
    within = within;
  }
    where
      cut : take at (front ++ p ∷ ps) ≡ front
      cut = subst (λ (k : ℕ). take k (front ++ p ∷ ps) ≡ front) long (take_front front (p ∷ ps))

  -- Settings that pass the limits do so by an image of a variable of the pairs under each most general unifier, or by names.
  beyond_by : (front : List TypPair) (sets : List TypBind) (m : ℕ) → HasMade front sets m → Each (IsOldPair index from) front → ¬ AreWithinLimits sets m → HaveLargeImage A index from front ⊎ (2 ^ 31 < m)
  beyond_by front sets m h old beyond = elim (at_most_or_above m (2 ^ 31)) [
    | inl few ↦ inl (λ typs general within. beyond (record {
      images = all_within A index from sets h.rooted (within_as_general A index from front (composed sets) typs (leads_general front sets m h.leads old) general within);
      names = few;
    }))
    | inr many ↦ inr many
  ]
    where
      at_most_or_above : (a b : ℕ) → (a ≤ b) ⊎ (b < a)
      at_most_or_above a b = grind arith

  old_with : (front : List TypPair) (p : TypPair) (ps : List TypPair) → Each (IsOldPair index from) (front ++ p ∷ ps) → Each (IsOldPair index from) (front ++ p ∷ [])
  old_with front p ps old = old_front (front ++ p ∷ []) ps (subst (Each (IsOldPair index from)) (sym (behind_front front p ps)) old)

  -- The settings of the pairs in front and of the next one pass the limits.
  meant_big : (front : List TypPair) (p : TypPair) (ps : List TypPair) (sets all : List TypBind) (at n m : ℕ) → length front ≡ at → HasMade front sets n → (at ≡ 0) ⊎ AreWithinLimits sets n → Each (IsOldPair index from) (front ++ p ∷ ps) → HasMade (front ++ p ∷ []) all m
      → ¬ AreWithinLimits all m → IsBeyond A index from (front ++ p ∷ ps) at
  meant_big front p ps sets all at n m long h within old with_pair beyond = record {
    inside = inside_all front p ps at long;
    before = within_before front p ps sets at n long h within old;
    sets = all;
    next = m;
    makes = subst (λ (qs : List TypPair). Makes A index from [] qs all m) (sym (take_one_more front p ps at long)) (makes_front (front ++ p ∷ []) all m with_pair.goes);
    reached = subst (λ (qs : List TypPair). IsReached A index from qs all m) (sym (take_one_more front p ps at long)) (is_reached (front ++ p ∷ []) all m with_pair (old_with front p ps old));
    beyond = subst (λ (qs : List TypPair). HaveLargeImage A index from qs ⊎ (2 ^ 31 < m)) (sym (take_one_more front p ps at long)) (beyond_by (front ++ p ∷ []) all m with_pair (old_with front p ps old) beyond);
  }

  meant : {at n : ℕ} {sets : List TypBind} {ps : List TypPair} {outcome : Outcome} → Unifies A index at n sets ps outcome → (front : List TypPair) → length front ≡ at → HasMade front sets n → (at ≡ 0) ⊎ AreWithinLimits sets n
      → Each (IsOldPair index from) (front ++ ps) → IsMeant A index from (front ++ ps) outcome
  meant (over {n = n} {sets = sets}) front long h within old =
      subst (λ (qs : List TypPair). IsReached A index from qs sets n) (sym (append-nil front)) (is_reached front sets n h (old_front front [] old))
  meant (no_typing {at = at} {n = n} {sets = sets} {p = p} {ps = ps} blocks) front long h within old = record {
    inside = inside_all front p ps at long;
    before = within_before front p ps sets at n long h within old;
    none = subst (λ (qs : List TypPair). (typs : Typ → Typ) → ¬ IsUnifier A qs typs) (sym (take_one_more front p ps at long)) (leads_refuse front p sets n h.leads (old_with front p ps old) blocks);
  }
  meant (big {at = at} {n = n} {m = m} {sets = sets} {more = more} {p = p} {ps = ps} e beyond) front long h within old =
      meant_big front p ps sets (sets ++ more) at n m long h within old (has_made_next front p ps sets more n m h old e) beyond
  meant (next {at = at} {n = n} {m = m} {sets = sets} {more = more} {p = p} {ps = ps} {outcome = outcome} e limits rest) front long h within old =
      subst (λ (qs : List TypPair). IsMeant A index from qs outcome) (behind_front front p ps)
      (meant rest (front ++ p ∷ []) (longer front p at long) (has_made_next front p ps sets more n m h old e) (inr limits) (subst (Each (IsOldPair index from)) (sym (behind_front front p ps)) old))

  made_start : HasMade [] [] from
  made_start = record { leads = leads_start; names = no_names index from; goes = λ rest all m h. h; rooted = rooted_start A index from }

  -- What the procedure comes to means what it says.
  pub procedure_is_meant : (ps : List TypPair) (outcome : Outcome) → Each (IsOldPair index from) ps → Unifies A index 0 from [] ps outcome → IsMeant A index from ps outcome
  procedure_is_meant ps outcome old h = meant h [] refl made_start (inl refl) old
