-- What the calls answer, from what their parts answer.
use Rattle.std.specs.declared.sync.Arc.{Arc}
use Rattle.std.specs.declared.alloc.Global.{Global}
use Rattle.std.proofs.Common.{◌≡◌, ◌<◌, ◌+◌, ℕ, zero, suc, List, length, [], ◌∷◌, map, Option, Some, None, Result, Ok, Err, IfOk, IfErr, slice_get, inl, inr, refl, ap, sym, subst, arith, ◌∙◌}
use Rattle.std.proofs.lemmas.List.{length-map}
use Rattle.pure_text.specs.Lists.{Each}
use Rattle.pure_definitions.specs.Types.Typ.{Typ, prop}
use Rattle.pure_definitions.specs.Types.Order.{Algebra}
use Rattle.pure_definitions.specs.Terms.Term.{Term, IsWithin}
use Rattle.pure_definitions.specs.Terms.Subst.{TypBind, inst_typ}
use Rattle.pure_tunify.specs.declared.pair.TypPair.{TypPair}
use Rattle.pure_tunify.specs.declared.fault.TypFault.{TypFault}
use Rattle.pure_tunify.specs.declared.fault.TypFault.TheVariants as typing
use Rattle.pure_tunify.specs.Settings.{composed, Progress}
use Rattle.pure_tunify.specs.Procedure.{Outcome, Unified, NotTyped, TooBig, Unifies, over, no_typing, big, next}
use Rattle.pure_tunify.specs.Answers.{AreSettled, IsDecided}
use Rattle.pure_tunify.specs.Unifiers.{IsOldPair}
use Rattle.pure_grammar.specs.Terms.RawTree.{RawTree, RawTypTree}
use Rattle.pure_elab.specs.declared.classes.WrittenClass.{WrittenClass}
use Rattle.pure_elab.specs.declared.draft.Constraints.{Constraints}
use Rattle.pure_elab.specs.declared.fault.NameFault.{NameFault}
use Rattle.pure_elab.specs.declared.fault.NameFault.TheVariants as named
use Rattle.pure_elab.specs.declared.fault.FaultAt.{FaultAt}
use Rattle.pure_elab.specs.declared.fault.ElabFault.{ElabFault}
use Rattle.pure_elab.specs.declared.fault.ElabFault.TheVariants.{UnknownName, UnknownSort, WrongCount, Schematic, IllTyped, Big, Memory}
use Rattle.pure_elab.specs.Vocabulary.{Vocabulary}
use Rattle.pure_elab.specs.Faults.{IsEarliest, earliest, term_faults, typ_faults}
use Rattle.pure_elab.specs.Written.{AreSorts, term_classes}
use Rattle.pure_elab.specs.Numbered.{with_fixed}
use Rattle.pure_elab.specs.Drafts.{Constraint, Draft, whole_draft, pair_of}
use Rattle.pure_elab.specs.Drafted.{constraint_place}
use Rattle.pure_elab.specs.Finished.{IsLimited, IsSolution, IsFinished, IsNameRefusal, NamesAPlace, IsFaultFrom, HasConstraintsOf}
use Rattle.pure_elab.specs.Answers.{IsFixedTyp, fault_of, IsTyped, IsTypingFault, IsDraftOf, IsElaborated, IsElabFault, IsElabTypFault}
use Rattle.pure_elab.specs.Laws.{IsMostGeneralTerm}
use Rattle.pure_elab.proofs.EarliestLaws.{earliest_decides, none_found}
use Rattle.pure_elab.proofs.OldLaws.{whole_is_old}
use Rattle.pure_elab.proofs.GeneralLaws.{answer_is_most_general}

pub prop_is_fixed : IsFixedTyp prop
prop_is_fixed x i s (inl e) = absurd (cc)
prop_is_fixed x i s (inr o) = absurd o

-- Sorts of the same classes over the same order.
pub sorts_at : (A B : Algebra) (ws us : List WrittenClass) (sorts : ℕ → List ℕ) → A ≡ B → ws ≡ us → AreSorts A ws sorts → AreSorts B us sorts
sorts_at A B ws us sorts e f h = subst (λ (C : Algebra). AreSorts C us sorts) e (subst (λ (l : List WrittenClass). AreSorts A l sorts) f h)

fault_refuses : (faults : List FaultAt) (at : ℕ) (k : NameFault) → IsEarliest faults (record { at = at; fault = k }) → IsNameRefusal faults (fault_of (record { at = at; fault = k }))
fault_refuses faults at named.UnknownName h = record { found = record { at = at; fault = named.UnknownName }; earliest = h; is = refl }
fault_refuses faults at named.UnknownSort h = record { found = record { at = at; fault = named.UnknownSort }; earliest = h; is = refl }
fault_refuses faults at named.WrongCount h = record { found = record { at = at; fault = named.WrongCount }; earliest = h; is = refl }
fault_refuses faults at named.Schematic h = record { found = record { at = at; fault = named.Schematic }; earliest = h; is = refl }

-- What a walk finds decides, and it is a refusal of names.
pub found_refuses : (faults : List FaultAt) (f : FaultAt) (fault : ElabFault) → Some f ≡ earliest None faults → fault ≡ fault_of f → IsNameRefusal faults fault
found_refuses faults f fault e same = subst (λ (x : ElabFault). IsNameRefusal faults x) (sym same) (fault_refuses faults f.at f.fault (earliest_decides faults f (sym e)))

pub nothing_found : (faults : List FaultAt) → None ≡ earliest None faults → faults ≡ []
nothing_found faults e = none_found faults (sym e)

-- A refusal of names is a fault of the text of a type.
pub refused_typ : (V : Vocabulary) (t : RawTypTree) (fault : ElabFault) → IsNameRefusal (typ_faults V t) fault → IsElabTypFault V t fault
refused_typ V t (UnknownName at) h = h
refused_typ V t (UnknownSort at) h = h
refused_typ V t (WrongCount at) h = h
refused_typ V t (Schematic at) h = h
refused_typ V t (IllTyped at) h = absurd h
refused_typ V t Big h = absurd h
refused_typ V t Memory h = h

module _ (V : Vocabulary) (A : Algebra) (order : A ≡ V.algebra) (d : Draft) (t : Term) (all : Constraints) (has : HasConstraintsOf d t all) where
  comes : (o : Outcome) → Unifies A 2 0 0 [] all.pairs.items o → Unifies V.algebra 2 0 0 [] (map pair_of d.constraints) o
  comes o u = subst (λ (B : Algebra). Unifies B 2 0 0 [] (map pair_of d.constraints) o) order (subst (λ (ps : List TypPair). Unifies A 2 0 0 [] ps o) has.pairs u)

  pub typed_ok : (p : Progress) (u : Term) → AreSettled A 2 0 all.pairs.items p → IsFinished V (inst_typ (composed p.sets) t) (Ok u) → IsTyped V d u
  typed_ok p u found finished =
      let same = ap (inst_typ (composed p.sets)) has.term in
      record {
        sets = p.sets;
        next = p.next;
        unifies = comes (Unified p.sets p.next) found.unifies;
        within = subst IsWithin same finished.0;
        is = finished.1 ∙ ap (with_fixed V.fresh) same;
      }

  pub typed_large : (p : Progress) (fault : ElabFault) → AreSettled A 2 0 all.pairs.items p → IsFinished V (inst_typ (composed p.sets) t) (Err fault) → IsTypingFault V d fault
  typed_large p Big found beyond =
      let same = ap (inst_typ (composed p.sets)) has.term in
      inl (record { sets = p.sets; next = p.next; unifies = comes (Unified p.sets p.next) found.unifies; beyond = subst (λ (w : Term). ¬ IsWithin w) same beyond })
  typed_large p Memory found h = h
  typed_large p (UnknownName at) found h = absurd h
  typed_large p (UnknownSort at) found h = absurd h
  typed_large p (WrongCount at) found h = absurd h
  typed_large p (Schematic at) found h = absurd h
  typed_large p (IllTyped at) found h = absurd h

  place_found : (cs : List Constraint) (k at : ℕ) → slice_get (map constraint_place cs) k ≡ Some at → (c : Constraint) × (slice_get cs k ≡ Some c) × (at ≡ c.at)
  place_found [] k at e = absurd (cc)
  place_found (c ∷ cs) zero at e = let same : c.at ≡ at = cc in (c, refl, sym same)
  place_found (c ∷ cs) (suc k) at e = place_found cs k at e

  memory_fault : (fault : ElabFault) → fault ≡ Memory → IsTypingFault V d fault
  memory_fault fault e = subst (λ (f : ElabFault). IsTypingFault V d f) (sym e) tt

  no_typing_fault : (k : ℕ) (fault : ElabFault) → Unifies A 2 0 0 [] all.pairs.items (NotTyped k) → IsFaultFrom all.places.items (typing.NoTyping k) fault → IsTypingFault V d fault
  no_typing_fault k (IllTyped at) u h =
      let found = place_found d.constraints k at (subst (λ (l : List ℕ). slice_get l k ≡ Some at) has.places h) in
      record { number = k; constraint = found.0; unifies = comes (NotTyped k) u; stands = found.1; place = found.2 }
  no_typing_fault k (UnknownName at) u h = absurd h
  no_typing_fault k (UnknownSort at) u h = absurd h
  no_typing_fault k (WrongCount at) u h = absurd h
  no_typing_fault k (Schematic at) u h = absurd h
  no_typing_fault k Big u h = absurd h
  no_typing_fault k Memory u h = absurd h

  pub typing_refused : (reason : TypFault) (fault : ElabFault) → IsDecided A 2 0 all.pairs.items reason → IsFaultFrom all.places.items reason fault → IsTypingFault V d fault
  typing_refused (typing.NoTyping k) fault u h = no_typing_fault k fault u h
  typing_refused (typing.Big k) fault u h = subst (λ (f : ElabFault). IsTypingFault V d f) (sym h) (inr (k, comes (TooBig k) u))
  typing_refused typing.Memory fault u h = memory_fault fault h

-- The number of a pair without a unifier is below this one.
abbrev IsNumberBelow : ℕ → Outcome → Type 0
IsNumberBelow m (NotTyped k) = k < m
IsNumberBelow m (Unified sets first) = Unit {0}
IsNumberBelow m (TooBig k) = Unit {0}

-- It is that of one of the pairs.
unifies_below : {A : Algebra} {at n : ℕ} {sets : List TypBind} {ps : List TypPair} {outcome : Outcome} → Unifies A 2 at n sets ps outcome → IsNumberBelow (at + length ps) outcome
unifies_below over = tt
unifies_below (no_typing b) = omega arith
unifies_below (big e beyond) = tt
unifies_below (next {at = at} {p = p} {ps = ps} {outcome = outcome} e within rest) =
    let same : (at + 1) + length ps ≡ at + length (p ∷ ps) = omega arith in
    subst (λ (m : ℕ). IsNumberBelow m outcome) same (unifies_below rest)

-- So what a fault of unification names is a place.
pub names_a_place : (A : Algebra) (pairs : List TypPair) (places : List ℕ) (reason : TypFault) → length pairs ≡ length places → IsDecided A 2 0 pairs reason → NamesAPlace places reason
names_a_place A pairs places (typing.NoTyping k) as_many u = let below : k < 0 + length pairs = unifies_below u in omega (arith, below, as_many)
names_a_place A pairs places (typing.Big k) as_many u = tt
names_a_place A pairs places typing.Memory as_many u = tt

-- A draft has a place for each pair.
pub as_many_places : (d : Draft) (t : Term) (all : Constraints) → HasConstraintsOf d t all → length all.pairs.items ≡ length all.places.items
as_many_places d t all has = ap length has.pairs ∙ length-map d.constraints pair_of ∙ sym (length-map d.constraints constraint_place) ∙ sym (ap length has.places)

-- A typing fault is one of the text.
pub not_typed : (V : Vocabulary) (t : RawTree) (T : Typ) (d : Draft) (fault : ElabFault) → IsDraftOf V t T d → IsTypingFault V d fault → IsElabFault V t T fault
not_typed V t T d (IllTyped at) of h = record { draft = d; of_text = of; reason = h }
not_typed V t T d Big of h = record { draft = d; of_text = of; reason = h }
not_typed V t T d Memory of h = tt
not_typed V t T d (UnknownName at) of h = absurd h
not_typed V t T d (UnknownSort at) of h = absurd h
not_typed V t T d (WrongCount at) of h = absurd h
not_typed V t T d (Schematic at) of h = absurd h

-- The draft of a text without faults of names.
pub draft_of : (V : Vocabulary) (t : RawTree) (T : Typ) (sorts : ℕ → List ℕ) → term_faults V [] t ≡ [] → AreSorts V.algebra (term_classes V t) sorts → IsDraftOf V t T (whole_draft V sorts t T)
draft_of V t T sorts sound are = record { sound = sound; sorts = sorts; are_sorts = are; is = refl }

-- The pairs of a text's draft have no fresh variables.
pub pairs_are_old : (V : Vocabulary) (t : RawTree) (T : Typ) (d : Draft) (u : Term) (all : Constraints) → IsFixedTyp T → IsDraftOf V t T d → HasConstraintsOf d u all → Each (IsOldPair 2 0) all.pairs.items
pairs_are_old V t T d u all fixed of has = subst (λ (ps : List TypPair). Each (IsOldPair 2 0) ps) (sym (has.pairs ∙ ap (λ (e : Draft). map pair_of e.constraints) of.is)) (whole_is_old V of.sorts t T fixed)

pub all_general : (V : Vocabulary) (t : RawTree) (T : Typ) (r : Result Term ElabFault) → IsFixedTyp T → IfOk r (IsElaborated V t T) → IfOk r (IsMostGeneralTerm V t T)
all_general V t T (Ok u) fixed h = answer_is_most_general V t T u fixed h
all_general V t T (Err f) fixed h = tt

pub general_at : (V : Vocabulary) (t : RawTree) (T W : Typ) (r : Result Term ElabFault) → T ≡ W → IsFixedTyp W → IfOk r (IsElaborated V t T) → IfOk r (IsMostGeneralTerm V t W)
general_at V t T W r same fixed h = all_general V t W r fixed (subst (λ (U : Typ). IfOk r (IsElaborated V t U)) same h)

-- What is finished, of each draft with these constraints.
pub all_typed : (V : Vocabulary) (A : Algebra) → A ≡ V.algebra → (t : Term) (all : Constraints) (p : Progress) (r : Result Term ElabFault) → AreSettled A 2 0 all.pairs.items p
    → IsFinished V (inst_typ (composed p.sets) t) r → IfOk r (λ u. (d : Draft) → HasConstraintsOf d t all → IsTyped V d u)
all_typed V A order t all p (Ok u) found finished = λ d has. typed_ok V A order d t all has p u found finished
all_typed V A order t all p (Err f) found finished = tt

pub all_large : (V : Vocabulary) (A : Algebra) → A ≡ V.algebra → (t : Term) (all : Constraints) (p : Progress) (r : Result Term ElabFault) → AreSettled A 2 0 all.pairs.items p
    → IsFinished V (inst_typ (composed p.sets) t) r → IfErr r (λ f. (d : Draft) → HasConstraintsOf d t all → IsTypingFault V d f)
all_large V A order t all p (Ok u) found finished = tt
all_large V A order t all p (Err f) found finished = λ d has. typed_large V A order d t all has p f found finished

-- What is finished of a solution of the constraints, of each draft with these.
pub solution_typed : (V : Vocabulary) (t : Term) (all : Constraints) (o : Option (Arc Term Global)) (r : Result Term ElabFault) → IsSolution V.algebra all.pairs.items t o
    → ((u : Term) → IsLimited u o → IsFinished V u r) → IfOk r (λ u. (d : Draft) → HasConstraintsOf d t all → IsTyped V d u)
solution_typed V t all o r found finished = all_typed V V.algebra refl t all found.unifier r found.settled (finished (inst_typ (composed found.unifier.sets) t) found.limited)

pub solution_large : (V : Vocabulary) (t : Term) (all : Constraints) (o : Option (Arc Term Global)) (r : Result Term ElabFault) → IsSolution V.algebra all.pairs.items t o
    → ((u : Term) → IsLimited u o → IsFinished V u r) → IfErr r (λ f. (d : Draft) → HasConstraintsOf d t all → IsTypingFault V d f)
solution_large V t all o r found finished = all_large V V.algebra refl t all found.unifier r found.settled (finished (inst_typ (composed found.unifier.sets) t) found.limited)

-- What the draft of a text comes to is what the text says.
pub elaborated_ok : (V : Vocabulary) (t : RawTree) (T : Typ) (d : Draft) (u : Term) (all : Constraints) (r : Result Term ElabFault) → IsDraftOf V t T d → HasConstraintsOf d u all
    → IfOk r (λ w. (e : Draft) → HasConstraintsOf e u all → IsTyped V e w) → IfOk r (IsElaborated V t T)
elaborated_ok V t T d u all (Ok w) of has h = record { draft = d; of_text = of; typed = h d has }
elaborated_ok V t T d u all (Err f) of has h = tt

pub elaborated_err : (V : Vocabulary) (t : RawTree) (T : Typ) (d : Draft) (u : Term) (all : Constraints) (r : Result Term ElabFault) → IsDraftOf V t T d → HasConstraintsOf d u all
    → IfErr r (λ f. (e : Draft) → HasConstraintsOf e u all → IsTypingFault V e f) → IfErr r (IsElabFault V t T)
elaborated_err V t T d u all (Ok w) of has h = tt
elaborated_err V t T d u all (Err f) of has h = not_typed V t T d f of (h d has)
