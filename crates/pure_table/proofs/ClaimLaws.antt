-- What is proved is derivable: lemmas and their entries as claims.
use Rattle.std.proofs.Common.{◌≡◌, List, [], ◌∷◌, inl, inr, refl, sym, ◌∙◌, ap, map, Some, None, Ok, Err, Option}
use Rattle.std.specs.declared.cmp.Ordering.TheVariants.{Less}
use Rattle.pure_text.specs.Lists.{IsIn, Each, EachTwo}
use Rattle.pure_text.proofs.ListLaws.{in-map, each_at, each_of}
use Rattle.pure_definitions.specs.Names.{Label}
use Rattle.pure_definitions.specs.Terms.Term.{Term}
use Rattle.pure_logic.specs.Content.{IsContent, IsBelow}
use Rattle.pure_logic.specs.Derivable.{IsDerivable, IsDerivableAlone}
use Rattle.pure_theorem.specs.Facts.{IsPromise}
use Rattle.pure_theorem.specs.Sets.{label_cmp, IsLabelSet}
use Rattle.pure_promise_fates.specs.Entries as fates
use Rattle.pure_promise_fates.specs.Entries.{Shown, Fault, Cancelled, Proved, IsFate, RestsOnEarlier, AreEntries}
use Rattle.pure_promise_fates.specs.Laws.{Claim, IsShown, IsGrounded}
use Rattle.pure_promise_fates.proofs.LabelSets.{first_below, rest_is_set, not_itself}
use Rattle.pure_promise_fates.proofs.ProvedLaws.{in_mapped, proved_is_derivable}
use Rattle.pure_theory_run.specs.Declare.Notes.{Fork}
use Rattle.pure_theory_run.specs.Method.Proof.{ProofOutcome}
use Rattle.pure_promise.specs.Entries.{LemmaEntry, plain, plain_own}

-- A lemma with this label and this statement comes before the other, and its content is below.
pub record IsEarlier (fs : List Fork) (f : Fork) (l : Label) (A : Term) : Type 0 where
  pub lemma : Fork
  pub stands : IsIn lemma fs
  pub label : lemma.label ≡ l
  pub prop : lemma.prop ≡ A
  pub below : IsBelow lemma.content f.content
  pub earlier : label_cmp l f.label ≡ Less

-- Lemmas as a session binds them: their labels ascend, and each promise of a lemma's content is that of an earlier one.
pub record AreBound (fs : List Fork) : Type 0 where
  pub ascend : IsLabelSet (map Fork.label fs)
  pub promises : (f : Fork) → IsIn f fs → (l : Label) (A : Term) → IsPromise f.content l A → IsEarlier fs f l A

-- The content states this promise.
abbrev pub IsPromised : Fork → Label → Type 0
IsPromised f l = (A : Term) × IsPromise f.content l A

-- A proof that rests on these promises of its content shows the lemma.
pub record IsShownBy (f : Fork) (rests : List Label) : Type 0 where
  pub content : IsContent f.content
  pub derivable : IsDerivable f.content (record { hyps = []; pairs = []; prop = f.prop; rests = rests })
  pub promised : Each (IsPromised f) rests

-- The entry is that of the lemma: where a proof came to it, it shows the lemma.
pub record IsOf (f : Fork) (e : LemmaEntry) : Type 0 where
  pub label : e.label ≡ f.label
  pub shown : (rests : List Label) → e.own ≡ Some (Ok rests) → IsShownBy f rests

-- Of lemmas whose labels ascend one alone is of a label.
pub one_lemma : (fs : List Fork) → IsLabelSet (map Fork.label fs) → (f g : Fork) → IsIn f fs → IsIn g fs → f.label ≡ g.label → f ≡ g
one_lemma [] h f g m n same = absurd m
one_lemma (d ∷ ds) h f g (inl a) (inl b) same = a ∙ sym b
one_lemma (d ∷ ds) h f g (inl a) (inr n) same = absurd (not_itself d.label (rw (sym same ∙ ap Fork.label a) at (first_below d.label (map Fork.label ds) h g.label (in-map Fork.label g ds n))))
one_lemma (d ∷ ds) h f g (inr m) (inl b) same = absurd (not_itself d.label (rw (same ∙ ap Fork.label b) at (first_below d.label (map Fork.label ds) h f.label (in-map Fork.label f ds m))))
one_lemma (d ∷ ds) h f g (inr m) (inr n) same = one_lemma ds (rest_is_set d.label (map Fork.label ds) h) f g m n same

-- a lemma is shown by a proof that came to its rests
pub own-shown : (own : Option ProofOutcome) (rests : List Label) → plain_own own ≡ Shown rests → own ≡ Some (Ok rests)
own-shown None rests h = absurd cc
own-shown (Some (Ok ls)) rests h = (let e : ls ≡ rests = cc in ap (λ ks. Some (Ok ks)) e)
own-shown (Some (Err f)) rests h = absurd cc

abbrev claim : Fork → LemmaEntry → Claim
claim f e = record { entry = plain e; prop = f.prop; content = f.content }

abbrev claims : List Fork → List LemmaEntry → List Claim
claims [] es = []
claims (f ∷ fs) [] = []
claims (f ∷ fs) (e ∷ es) = claim f e ∷ claims fs es

claims-entries : (fs : List Fork) (es : List LemmaEntry) → EachTwo IsOf fs es → map Claim.entry (claims fs es) ≡ map plain es
claims-entries [] [] h = refl
claims-entries [] (e ∷ es) h = absurd h
claims-entries (f ∷ fs) [] h = absurd h
claims-entries (f ∷ fs) (e ∷ es) h = ap (λ ps. plain e ∷ ps) (claims-entries fs es h.1)

claims-labels : (fs : List Fork) (es : List LemmaEntry) → EachTwo IsOf fs es → map fates.Entry.label (map plain es) ≡ map Fork.label fs
claims-labels [] [] h = refl
claims-labels [] (e ∷ es) h = absurd h
claims-labels (f ∷ fs) [] h = absurd h
claims-labels (f ∷ fs) (e ∷ es) h = λ i. h.0.label i ∷ claims-labels fs es h.1 i

-- a claim is that of a lemma and its entry
record IsClaim (fs : List Fork) (c : Claim) : Type 0 where
  lemma : Fork
  entry : LemmaEntry
  stands : IsIn lemma fs
  of : IsOf lemma entry
  is : c ≡ claim lemma entry

of_claim : (fs : List Fork) (es : List LemmaEntry) → EachTwo IsOf fs es → (c : Claim) → IsIn c (claims fs es) → IsClaim fs c
of_claim [] es h c m = absurd m
of_claim (f ∷ fs) [] h c m = absurd m
of_claim (f ∷ fs) (e ∷ es) h c (inl same) = record { lemma = f; entry = e; stands = inl refl; of = h.0; is = same }
of_claim (f ∷ fs) (e ∷ es) h c (inr m) =
    let found = of_claim fs es h.1 c m in
    record { lemma = found.lemma; entry = found.entry; stands = inr found.stands; of = found.of; is = found.is }

module _ (fs : List Fork) (es : List LemmaEntry) (bound : AreBound fs) (two : EachTwo IsOf fs es) where
  abbrev cs : List Claim
  cs = claims fs es

  of : (c : Claim) → IsIn c cs → IsClaim fs c
  of c m = of_claim fs es two c m

  -- a claim that is shown is so by the lemma's proof
  by_proof : (c : Claim) (k : IsClaim fs c) (rests : List Label) → c.entry.own ≡ Shown rests → IsShownBy k.lemma rests
  by_proof c k rests h = k.of.shown rests (own-shown k.entry.own rests (sym (ap (λ (d : Claim). d.entry.own) k.is) ∙ h))

  labelled : (c : Claim) (k : IsClaim fs c) → c.entry.label ≡ k.lemma.label
  labelled c k = ap (λ (d : Claim). d.entry.label) k.is ∙ k.of.label

  -- what the proof rests on is an earlier lemma
  rested : (c : Claim) (k : IsClaim fs c) (rests : List Label) → c.entry.own ≡ Shown rests → (l : Label) → IsIn l rests → (A : Term) × IsEarlier fs k.lemma l A
  rested c k rests h l m =
      let p : IsPromised k.lemma l = each_at (IsPromised k.lemma) rests (by_proof c k rests h).promised l m in
      (p.0, promise_earlier k.lemma k.stands l p)
    where
      promise_earlier : (f : Fork) → IsIn f fs → (l : Label) (p : IsPromised f l) → IsEarlier fs f l p.0
      promise_earlier f m l (A, is) = bound.promises f m l A is

  claims_ordered : AreEntries (map Claim.entry cs)
  claims_ordered = record {
    ascend = rw (claims-entries fs es two, claims-labels fs es two) bound.ascend;
    earlier = each_of (RestsOnEarlier (map Claim.entry cs)) (map Claim.entry cs) (λ x m rests own.
        let found = in_mapped Claim.entry x cs m in
        let c = found.0 in
        let k = of c found.1 in
        let shown : c.entry.own ≡ Shown rests = ap fates.Entry.own found.2 ∙ own in
        let label : x.label ≡ k.lemma.label = ap fates.Entry.label (sym found.2) ∙ labelled c k in
        each_of (λ l. _) rests (λ l n.
        let r = rested c k rests shown l n in
        (rw label r.1.earlier, rw (claims-entries fs es two, claims-labels fs es two, ← r.1.label) (in-map Fork.label r.1.lemma fs r.1.stands))));
  }

  shown : Each IsShown cs
  shown = each_of IsShown cs (λ c m rests own.
      let k = of c m in
      let p = by_proof c k rests own in
      rw k.is (p.content, p.derivable))

  grounded : Each (IsGrounded cs) cs
  grounded = each_of (IsGrounded cs) cs (λ c m rests own d n among.
      let k = of c m in
      let j = of d n in
      let r = rested c k rests own d.entry.label among in
      let same : r.1.lemma ≡ j.lemma = one_lemma fs bound.ascend r.1.lemma j.lemma r.1.stands j.stands (r.1.label ∙ labelled d j) in (
        λ name A declared.
            let p = bound.promises k.lemma k.stands d.entry.label A (name, rw (← ap Claim.content k.is) declared) in
            let this : p.lemma ≡ j.lemma = one_lemma fs bound.ascend p.lemma j.lemma p.stands j.stands (p.label ∙ labelled d j) in
            sym p.prop ∙ ap Fork.prop this ∙ sym (ap Claim.prop j.is),
        λ more h. rw (ap Claim.content j.is, ap Claim.content k.is, ← same) r.1.below,
      ))

  -- the entries are in order
  pub ordered : AreEntries (map plain es)
  ordered = rw (← claims-entries fs es two) claims_ordered

  derived : (f : Fork) (e : LemmaEntry) → IsIn (claim f e) cs → IsFate (map plain es) e.label Proved → IsDerivableAlone f.content f.prop
  derived f e m fate = proved_is_derivable cs claims_ordered shown grounded (claim f e) m (rw (claims-entries fs es two) fate)

  each_derived : (gs : List Fork) (ds : List LemmaEntry) → ((c : Claim) → IsIn c (claims gs ds) → IsIn c cs) → EachTwo IsOf gs ds
      → EachTwo (λ (f : Fork) (e : LemmaEntry). IsFate (map plain es) e.label Proved → IsDerivableAlone f.content f.prop) gs ds
  each_derived [] [] inside h = tt
  each_derived [] (d ∷ ds) inside h = absurd h
  each_derived (g ∷ gs) [] inside h = absurd h
  each_derived (g ∷ gs) (d ∷ ds) inside h = (derived g d (inside (claim g d) (inl refl)), each_derived gs ds (λ c m. inside c (inr m)) h.1)

  -- what is proved is derivable, of each lemma
  pub proved_are_derivable : EachTwo (λ (f : Fork) (e : LemmaEntry). IsFate (map plain es) e.label Proved → IsDerivableAlone f.content f.prop) fs es
  proved_are_derivable = each_derived fs es (λ c m. m) two
