-- A lemma has one fate.
use Rattle.std.proofs.Common.{◌≡◌, List, [], ◌∷◌, inl, inr, refl, sym, ◌∙◌, ap, map}
use Rattle.pure_text.specs.Lists.{IsIn}
use Rattle.pure_text.proofs.ListLaws.{in-map}
use Rattle.pure_definitions.specs.Names.{Label}
use Rattle.pure_theorem.specs.Sets.{IsLabelSet}
use Rattle.pure_promise_fates.specs.Entries.{Own, Shown, Fault, Cancelled, Entry, Became, AreFaultsReached, Fate, Tainted, IsFate, failed, gone, tainted, unsettled, proved, AreEntries}
use Rattle.pure_promise_fates.specs.Laws.{OneFate}
use Rattle.pure_promise_fates.proofs.LabelSets.{first_below, rest_is_set, not_itself, set_once}

-- Of lemmas whose labels ascend one alone is of a label.
pub one_of_label : (es : List Entry) → IsLabelSet (map Entry.label es) → (d e : Entry) → IsIn d es → IsIn e es → d.label ≡ e.label → d ≡ e
one_of_label [] h d e m n same = absurd m
one_of_label (f ∷ fs) h d e (inl a) (inl b) same = a ∙ sym b
one_of_label (f ∷ fs) h d e (inl a) (inr n) same = absurd (not_itself f.label (rw (sym same ∙ ap Entry.label a) at (first_below f.label (map Entry.label fs) h e.label (in-map Entry.label e fs n))))
one_of_label (f ∷ fs) h d e (inr m) (inl b) same = absurd (not_itself f.label (rw (same ∙ ap Entry.label b) at (first_below f.label (map Entry.label fs) h d.label (in-map Entry.label d fs m))))
one_of_label (f ∷ fs) h d e (inr m) (inr n) same = one_of_label fs (rest_is_set f.label (map Entry.label fs) h) d e m n same

-- One thing became of it.
pub became_once : (es : List Entry) → IsLabelSet (map Entry.label es) → (l : Label) (a b : Own) → Became es l a → Became es l b → a ≡ b
became_once es h l a b x y =
    let same : x.entry ≡ y.entry = one_of_label es h x.entry y.entry x.stands y.stands (x.of_label ∙ sym y.of_label) in
    sym x.own_is ∙ ap Entry.own same ∙ y.own_is

pub faults_once : (es : List Entry) (l : Label) (fs gs : List Label) → AreFaultsReached es l fs → AreFaultsReached es l gs → fs ≡ gs
faults_once es l fs gs a b = set_once fs gs a.ascend b.ascend (λ k. (λ m. (b.exactly k).1 ((a.exactly k).0 m), λ m. (a.exactly k).1 ((b.exactly k).0 m)))

pub some-none : (f : Label) (fs : List Label) → f ∷ fs ≡ [] → ⊥
some-none f fs h = absurd cc

pub shown-fault : (rests : List Label) → Shown rests ≡ Fault → ⊥
shown-fault rests h = absurd cc

pub shown-cancelled : (rests : List Label) → Shown rests ≡ Cancelled → ⊥
shown-cancelled rests h = absurd cc

pub fault-cancelled : Fault ≡ Cancelled → ⊥
fault-cancelled h = absurd cc

module _ (es : List Entry) (entries : AreEntries es) (l : Label) where
  once : (a b : Own) → Became es l a → Became es l b → a ≡ b
  once a b x y = became_once es entries.ascend l a b x y

  none_and_some : (f : Label) (fs : List Label) → AreFaultsReached es l [] → AreFaultsReached es l (f ∷ fs) → ⊥
  none_and_some f fs a b = some-none f fs (faults_once es l (f ∷ fs) [] b a)

  fate-once : (f g : Fate) → IsFate es l f → IsFate es l g → f ≡ g
  fate-once _ _ (failed a) (failed b) = refl
  fate-once _ _ (failed a) (gone b) = absurd (fault-cancelled (once Fault Cancelled a b))
  fate-once _ _ (failed a) (tainted rests b f fs r) = absurd (shown-fault rests (once (Shown rests) Fault b a))
  fate-once _ _ (failed a) (unsettled rests b r c) = absurd (shown-fault rests (once (Shown rests) Fault b a))
  fate-once _ _ (failed a) (proved rests b r c) = absurd (shown-fault rests (once (Shown rests) Fault b a))
  fate-once _ _ (gone a) (failed b) = absurd (fault-cancelled (once Fault Cancelled b a))
  fate-once _ _ (gone a) (gone b) = refl
  fate-once _ _ (gone a) (tainted rests b f fs r) = absurd (shown-cancelled rests (once (Shown rests) Cancelled b a))
  fate-once _ _ (gone a) (unsettled rests b r c) = absurd (shown-cancelled rests (once (Shown rests) Cancelled b a))
  fate-once _ _ (gone a) (proved rests b r c) = absurd (shown-cancelled rests (once (Shown rests) Cancelled b a))
  fate-once _ _ (tainted rests a f fs r) (failed b) = absurd (shown-fault rests (once (Shown rests) Fault a b))
  fate-once _ _ (tainted rests a f fs r) (gone b) = absurd (shown-cancelled rests (once (Shown rests) Cancelled a b))
  fate-once _ _ (tainted rests a f fs r) (tainted more b g gs s) = ap Tainted (faults_once es l (f ∷ fs) (g ∷ gs) r s)
  fate-once _ _ (tainted rests a f fs r) (unsettled more b s c) = absurd (none_and_some f fs s r)
  fate-once _ _ (tainted rests a f fs r) (proved more b s c) = absurd (none_and_some f fs s r)
  fate-once _ _ (unsettled rests a r c) (failed b) = absurd (shown-fault rests (once (Shown rests) Fault a b))
  fate-once _ _ (unsettled rests a r c) (gone b) = absurd (shown-cancelled rests (once (Shown rests) Cancelled a b))
  fate-once _ _ (unsettled rests a r c) (tainted more b f fs s) = absurd (none_and_some f fs r s)
  fate-once _ _ (unsettled rests a r c) (unsettled more b s d) = refl
  fate-once _ _ (unsettled rests a r c) (proved more b s d) = absurd (d c)
  fate-once _ _ (proved rests a r c) (failed b) = absurd (shown-fault rests (once (Shown rests) Fault a b))
  fate-once _ _ (proved rests a r c) (gone b) = absurd (shown-cancelled rests (once (Shown rests) Cancelled a b))
  fate-once _ _ (proved rests a r c) (tainted more b f fs s) = absurd (none_and_some f fs r s)
  fate-once _ _ (proved rests a r c) (unsettled more b s d) = absurd (c d)
  fate-once _ _ (proved rests a r c) (proved more b s d) = refl

pub one_fate : OneFate
one_fate es entries l f g a b = fate-once es entries l f g a b
