-- The answer is certified, over a vocabulary that is sound.
use Rattle.std.proofs.Common.{◌≡◌, [], ◌∷◌, map, Result, Ok, Err, IfOk, ap, sym, subst, ◌∙◌}
use Rattle.pure_text.specs.Lists.{Each}
use Rattle.pure_text.proofs.ListLaws.{each-append}
use Rattle.pure_definitions.specs.Types.Typ.{Typ, TFree, TVar, prop}
use Rattle.pure_definitions.specs.Types.Order.{Algebra}
use Rattle.pure_definitions.proofs.OrderLaws.{sort_below-itself}
use Rattle.pure_definitions.specs.Terms.Term.{Term}
use Rattle.pure_definitions.specs.Terms.Subst.{typ_image, typ_instance, inst_typ}
use Rattle.pure_definitions.specs.Declarations.Decl.{algebra_of}
use Rattle.pure_definitions.specs.Declarations.Certified.{IsCertifiedTyp, HasCertifiedParts}
use Rattle.pure_tunify.specs.Unifiers.{IsSubstitution}
use Rattle.pure_tunify.specs.Settings.{composed}
use Rattle.pure_tunify.specs.Procedure.{Unified, Unifies}
use Rattle.pure_tunify.proofs.MapLaws.{after_is_substitution}
use Rattle.pure_logic.specs.Content.{Content, IsCertifiedOf, IsProposition}
use Rattle.pure_grammar.specs.Terms.RawTree.{RawTree, RawTypTree}
use Rattle.pure_elab.specs.declared.fault.ElabFault.{ElabFault}
use Rattle.pure_elab.specs.Vocabulary.{Vocabulary}
use Rattle.pure_elab.specs.Sound.{IsSoundVocabulary}
use Rattle.pure_elab.specs.Answers.{IsFixedTyp, IsElaborated, IsElaboratedTyp}
use Rattle.pure_elab.specs.Written.{term_classes, typ_classes}
use Rattle.pure_elab.specs.Numbered.{term_variables, fixings}
use Rattle.pure_elab.specs.Drafts.{Constraint, Draft, draft, whole_draft, raw_place, pair_of}
use Rattle.pure_elab.specs.Laws.{AnswerIsCertified}
use Rattle.pure_elab.proofs.Lists.{each_to_map}
use Rattle.pure_elab.proofs.NumberedLaws.{numbered-each}
use Rattle.pure_tunify.proofs.CertifiedLaws.{IsCertifiedPair, IsCertifiedBind, HasCertifiedImages, instance_certified, composed_certified, unifies_certified}
use Rattle.pure_elab.proofs.SoundLaws.{term_known, typ_known, written_certified, images_of, substitution_of, draft_sound}
use Rattle.pure_elab.proofs.CallLaws.{prop_is_fixed}
use Rattle.pure_elab.proofs.GeneralLaws.{inst_typ-after, outcome_is_meant, answer_is_most_general}

pub answer_is_certified : AnswerIsCertified
answer_is_certified Q V sound t T u fixed certified h =
    let ds = Q.declarations in
    let d = h.draft in
    let of = h.of_text in
    let sets = h.typed.sets in
    let inner = draft V of.sorts [] t 0 in
    let inside = draft_sound ds V sound (term_classes V t) (term_known ds V sound t) of.sorts of.are_sorts [] t 0 tt of.sound in
    let c : Constraint = record { at = raw_place t; left = inner.typ; right = T } in
    let whole : Each (λ e. IsCertifiedPair ds sound.closed (pair_of e)) (whole_draft V of.sorts t T).constraints =
    each-append (λ e. IsCertifiedPair ds sound.closed (pair_of e)) inner.constraints (c ∷ []) inside.constraints ((inside.typ, certified), tt) in
    let all : Each (λ e. IsCertifiedPair ds sound.closed (pair_of e)) d.constraints = subst (λ (e : Draft). Each (λ e. IsCertifiedPair ds sound.closed (pair_of e)) e.constraints) (sym of.is) whole in
    let comes = subst (λ (A : Algebra). Unifies A 2 0 0 [] (map pair_of d.constraints) (Unified sets h.typed.next)) sound.order h.typed.unifies in
    let set : Each (IsCertifiedBind ds sound.closed) sets = unifies_certified ds sound.closed 2 comes tt (each_to_map pair_of (IsCertifiedPair ds sound.closed) d.constraints all) in
    let images = composed_certified ds sound.closed sets set in
    let general = outcome_is_meant V t T fixed d of (Unified sets h.typed.next) h.typed.unifies in
    let first : IsSubstitution (algebra_of ds) (composed sets) = subst (λ (A : Algebra). IsSubstitution A (composed sets)) sound.order general.general.unifier.substitution in
    let under = inst_typ (composed sets) d.term in
    let binds = fixings V.fresh under in
    let entries = numbered-each TFree V.fresh [] (term_variables under) tt in
    let more = images_of ds V sound TFree (λ k s h. h) binds entries in
    let second = substitution_of ds V sound TFree (λ k s. sort_below-itself (algebra_of ds) s) binds entries in
    let both : Typ → Typ = λ v. typ_instance (typ_image binds) (composed sets v) in
    let both_images : HasCertifiedImages ds sound.closed both = record {
      fixed = λ x s k. instance_certified ds sound.closed (typ_image binds) more (composed sets (TFree x s)) (images.fixed x s k);
      schematic = λ x i s k. instance_certified ds sound.closed (typ_image binds) more (composed sets (TVar x i s)) (images.schematic x i s k);
    } in
    let both_sub = after_is_substitution (algebra_of ds) (composed sets) (typ_image binds) first second in
    let parts = inside.parts both both_images both_sub in
    let term : u ≡ inst_typ both inner.term = h.typed.is ∙ inst_typ-after (composed sets) (typ_image binds) d.term ∙ ap (λ (e : Draft). inst_typ both e.term) of.is in
    let typed = (answer_is_most_general V t T u fixed h).typed in
    record {
      certified = record { parts = subst (λ (w : Term). HasCertifiedParts ds w) (sym term) parts; typ = T; typed = typed };
      typed = typed;
    }

-- The same of whole answers.
pub all_certified : (V : Vocabulary) (t : RawTree) (T W : Typ) (r : Result Term ElabFault) → T ≡ W → IsFixedTyp W → IfOk r (IsElaborated V t T)
    → IfOk r (λ u. (Q : Content) → IsSoundVocabulary Q.declarations V → IsCertifiedTyp Q.declarations W → IsCertifiedOf Q u W)
all_certified V t T W (Ok u) same fixed h = λ Q sound certified. answer_is_certified Q V sound t W u fixed certified (subst (λ (U : Typ). IsElaborated V t U u) same h)
all_certified V t T W (Err f) same fixed h = tt

pub all_propositions : (V : Vocabulary) (t : RawTree) (T : Typ) (r : Result Term ElabFault) → T ≡ prop → IfOk r (IsElaborated V t T) → IfOk r (λ u. (Q : Content) → IsSoundVocabulary Q.declarations V → IsProposition Q u)
all_propositions V t T (Ok u) same h = λ Q sound. answer_is_certified Q V sound t prop u prop_is_fixed (sound.propositions, tt) (subst (λ (U : Typ). IsElaborated V t U u) same h)
all_propositions V t T (Err f) same h = tt

pub typ_certified : (V : Vocabulary) (t : RawTypTree) (T : Typ) → IsElaboratedTyp V t T → (Q : Content) → IsSoundVocabulary Q.declarations V → IsCertifiedTyp Q.declarations T
typ_certified V t T h Q sound =
    subst (λ (U : Typ). IsCertifiedTyp Q.declarations U) (sym h.is) (written_certified Q.declarations V sound (typ_classes V t) (typ_known Q.declarations V sound t) h.sorts h.are_sorts t h.sound)
