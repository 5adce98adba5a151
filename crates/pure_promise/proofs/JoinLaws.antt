-- What joined lemmas state is derivable from axioms alone.
use Rattle.std.proofs.Common.{◌≡◌, ℕ, List, [], ◌∷◌, None, refl, sym, ap, subst, map}
use Rattle.pure_text.specs.Lists.{IsIn, Each}
use Rattle.pure_text.proofs.ListLaws.{each_at, each_of, in-map}
use Rattle.pure_definitions.specs.Names.{Label}
use Rattle.pure_definitions.specs.Terms.Term.{Term}
use Rattle.pure_definitions.specs.Declarations.Decl.{PromiseDecl}
use Rattle.pure_logic.specs.Content.{Content, IsBelow}
use Rattle.pure_logic.specs.Derivable.{Theorem, IsDerivable, IsDerivableAlone}
use Rattle.pure_method.specs.Theory.Certified.{Certified}
use Rattle.pure_promise_fates.specs.Entries as fates
use Rattle.pure_promise_fates.specs.Entries.{Shown, Became, IsFate, AreEntries}
use Rattle.pure_promise_fates.specs.Laws.{Claim, IsShown, IsGrounded}
use Rattle.pure_promise_fates.proofs.FateLaws.{became_once, shown-fault, shown-cancelled}
use Rattle.pure_promise_fates.proofs.ProvedLaws.{in_mapped, proved_is_derivable}
use Rattle.pure_promise.specs.declared.entry.Entry.{Entry}
use Rattle.pure_promise.specs.declared.entry.Own.{Own}
use Rattle.pure_promise.specs.declared.entry.Own.TheVariants.{Proved, Fault, Cancelled}
use Rattle.pure_promise.specs.Entries.{plain_own}
use Rattle.pure_promise.specs.Seen.{seen_own, reported}
use Rattle.pure_promise.specs.Joining as joining
use Rattle.pure_promise.specs.Joining.{IsTheorem, IsClosed, MayJoin, AreJoined, IsSettled}
use Rattle.pure_promise.proofs.RowLaws.{reported-plain}
use Rattle.pure_promise.proofs.FateLaws.{joined_is_proved}

-- the content of a theorem; any where there is none
abbrev content_of : Own → Content
content_of (Proved result) = result.content
content_of (Fault step fault) = record { declarations = []; own = None; ancestors = [] }
content_of Cancelled = record { declarations = []; own = None; ancestors = [] }

-- what a lemma claims
abbrev claim_of : Entry → Claim
claim_of e = record { entry = reported e; prop = e.prop.value; content = content_of e.own }

claims-entries : (es : List Entry) → map Claim.entry (map claim_of es) ≡ map reported es
claims-entries [] = refl
claims-entries (e ∷ es) = ap (λ ds. reported e ∷ ds) (claims-entries es)

abbrev rests_of : fates.Own → List Label
rests_of (Shown rests) = rests
rests_of fates.Fault = []
rests_of fates.Cancelled = []

theorem-alone : (th : Theorem) (A : Term) (rests : List Label) → (th.prop ≡ A) × (th.hyps ≡ []) × (th.pairs ≡ []) → th.rests ≡ rests → th ≡ record { hyps = []; pairs = []; prop = A; rests = rests }
theorem-alone th A rests h r = λ i. record { hyps = h.1 i; pairs = h.2 i; prop = h.0 i; rests = r i }

claim_is_shown : (e : Entry) → IsTheorem e → IsClosed e → IsShown (claim_of e)
claim_is_shown e theorem closed = by e.own refl
  where
    by : (own : Own) → e.own ≡ own → IsShown (record { entry = record { label = e.label; own = plain_own (seen_own own) }; prop = e.prop.value; content = content_of own })
    by (Proved r) is rests shown =
        let facts = theorem r is in
        (facts.0, subst (IsDerivable r.content) (theorem-alone r.theorem e.prop.value rests (closed r is) (ap rests_of shown)) facts.1)
    by (Fault step fault) is rests shown = absurd (shown-fault rests (sym shown))
    by Cancelled is rests shown = absurd (shown-cancelled rests (sym shown))

claim_is_grounded : (es : List Entry) (e : Entry) → joining.IsGrounded es e → IsGrounded (map claim_of es) (claim_of e)
claim_is_grounded es e grounded = by e.own refl
  where
    below : (r : Certified) (d : Entry) → ((s : Certified) → d.own ≡ Proved s → IsBelow s.content r.content) → (own : Own) → d.own ≡ own → (more : List Label) → plain_own (seen_own own) ≡ Shown more → IsBelow (content_of own) r.content
    below r d h (Proved s) is more shown = h s is
    below r d h (Fault step fault) is more shown = absurd (shown-fault more (sym shown))
    below r d h Cancelled is more shown = absurd (shown-cancelled more (sym shown))

    at : (r : Certified) → e.own ≡ Proved r → (d : Entry) → IsIn d es → IsIn d.label r.theorem.rests
        → ((name : ℕ) (A : Term) → IsIn (PromiseDecl name d.label A) r.content.declarations → A ≡ d.prop.value) × ((more : List Label) → (reported d).own ≡ Shown more → IsBelow (content_of d.own) r.content)
    at r is d stands among = (let h = grounded r is d stands among in (h.0, below r d h.1 d.own refl))

    by : (own : Own) → e.own ≡ own → IsGrounded (map claim_of es) (record { entry = record { label = e.label; own = plain_own (seen_own own) }; prop = e.prop.value; content = content_of own })
    by (Proved r) is rests shown c stands among =
        let found = in_mapped claim_of c es stands in
        subst (λ (c : Claim). ((name : ℕ) (A : Term) → IsIn (PromiseDecl name c.entry.label A) r.content.declarations → A ≡ c.prop) × ((more : List Label) → c.entry.own ≡ Shown more → IsBelow c.content r.content))
        found.2 (at r is found.0 found.1 (subst (λ (ks : List Label). IsIn found.0.label ks) (sym (ap rests_of shown)) (subst (λ (c : Claim). IsIn c.entry.label rests) (sym found.2) among)))
    by (Fault step fault) is rests shown c stands among = absurd (shown-fault rests (sym shown))
    by Cancelled is rests shown c stands among = absurd (shown-cancelled rests (sym shown))

module _ (es : List Entry) (may : MayJoin es) (theorems : Each IsTheorem es) where
  entries : AreEntries (map reported es)
  entries = subst AreEntries (reported-plain es) may.entries

  each_claim : (P : Claim → Type 0) → ((e : Entry) → IsIn e es → P (claim_of e)) → Each P (map claim_of es)
  each_claim P h = each_of P (map claim_of es) (λ c m. (let found = in_mapped claim_of c es m in subst P found.2 (h found.0 found.1)))

  derivable : (e : Entry) → IsIn e es → IsFate (map reported es) e.label fates.Proved → IsDerivableAlone (content_of e.own) e.prop.value
  derivable e stands fate = proved_is_derivable (map claim_of es) (subst AreEntries (sym (claims-entries es)) entries)
      (each_claim IsShown (λ d m. claim_is_shown d (each_at IsTheorem es theorems d m) (each_at IsClosed es may.closed d m)))
      (each_claim (IsGrounded (map claim_of es)) (λ d m. claim_is_grounded es d (each_at (joining.IsGrounded es) es may.grounded d m)))
      (claim_of e) (in-map claim_of e es stands) (subst (λ ds. IsFate ds e.label fates.Proved) (sym (claims-entries es)) fate)

  shown_is_proved : (e : Entry) → IsIn e es → (rests : List Label) → Became (map reported es) e.label (Shown rests) → IsDerivableAlone (content_of e.own) e.prop.value → (r : Certified) × (e.own ≡ Proved r) × IsDerivableAlone r.content e.prop.value
  shown_is_proved e stands rests became = by e.own refl
    where
      same : (own : Own) → e.own ≡ own → Shown rests ≡ plain_own (seen_own own)
      same own is = became_once (map reported es) entries.ascend e.label (Shown rests) (plain_own (seen_own own)) became (record { entry = reported e; stands = in-map reported e es stands; of_label = refl; own_is = ap (λ o. plain_own (seen_own o)) is })

      by : (own : Own) → e.own ≡ own → IsDerivableAlone (content_of own) e.prop.value → (r : Certified) × (e.own ≡ Proved r) × IsDerivableAlone r.content e.prop.value
      by (Proved r) is h = (r, is, h)
      by (Fault step fault) is h = absurd (shown-fault rests (same (Fault step fault) is))
      by Cancelled is h = absurd (shown-cancelled rests (same Cancelled is))

  pub joined_are_settled : (labels : List Label) → AreJoined (map reported es) labels → Each (IsSettled es) labels
  joined_are_settled labels joined = each_of (IsSettled es) labels (λ l m e stands label.
      let is = (joined.exactly l).0 m in
      let fate = (joined_is_proved (map reported es) entries l).0 is in
      shown_is_proved e stands is.shown.0 (subst (λ k. Became (map reported es) k (Shown is.shown.0)) (sym label) is.shown.1)
      (derivable e stands (subst (λ k. IsFate (map reported es) k fates.Proved) (sym label) fate)))
