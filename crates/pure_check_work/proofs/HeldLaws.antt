-- Entries as the program holds them.
use Rattle.std.proofs.Common.{◌≡◌, ◌∙◌, ℕ, List, [], ◌∷◌, refl, sym, ap, subst}
use Rattle.pure_text.specs.Lists.{Each, EachTwo}
use Rattle.pure_definitions.specs.Names.{Label}
use Rattle.pure_table.specs.Theory.Certified.{Certified}
use Rattle.pure_table.specs.Declare.Notes.{Fork}
use Rattle.pure_table.specs.Method.Outcome.{IsOutcomeOf}
use Rattle.pure_table.specs.Method.declared.outcome.Outcome.{Outcome}
use Rattle.pure_table.specs.Method.declared.outcome.Outcome.TheVariants as shown
use Rattle.pure_table.specs.Promise.Seen.{seen}
use Rattle.pure_table.specs.Promise.declared.entry.Entry.{Entry}
use Rattle.pure_table.specs.Promise.declared.entry.Own.{Own}
use Rattle.pure_table.specs.Promise.declared.entry.Own.TheVariants as own
use Rattle.pure_table.specs.Table.{IsEntryOf}
use Rattle.pure_table.specs.Fulfilled.{IsResultOf, IsHeldFor, own_of}
use Rattle.pure_machine.specs.State.{Promise, Standing, Ready, Taken, Settled, Cancelled}
use Rattle.pure_core_end.specs.Joined.{EndsSo}
use Rattle.pure_check_work.specs.Cancelled.{lemmas_of, entries_of, held_own, IsHeldOf}

same-theorem : (c d : Certified) → own.Proved c ≡ own.Proved d → c ≡ d
same-theorem c d e = cc

-- a theorem that is held of an outcome is the lemma's result
outcome-result : (texts : List (List ℕ)) (f : Fork) (o : Outcome) → IsOutcomeOf texts f o → (c : Certified) → own_of o ≡ own.Proved c → IsResultOf texts f c
outcome-result texts f (shown.Proved d) h c e =
    subst (IsResultOf texts f) (same-theorem d c e)
    (record { labels = d.theorem.rests; content = ap (λ (r : Certified). r.content) h.1; states = ap (λ (r : Certified). r.theorem) h.1; proof = h.0 })
outcome-result texts f (shown.Fault step fault) h c e = let no : own.Fault step fault ≡ own.Proved c = e in absurd (cc no)

standing-result : (texts : List (List ℕ)) (f : Fork) (s : Standing Outcome) → EndsSo (IsOutcomeOf texts) f s → (c : Certified) → held_own s ≡ own.Proved c → IsResultOf texts f c
standing-result texts f Ready ended c e = absurd ended
standing-result texts f Taken ended c e = absurd ended
standing-result texts f (Settled o) ended c e = outcome-result texts f o ended c e
standing-result texts f Cancelled ended c e = let no : own.Cancelled ≡ own.Proved c = e in absurd (cc no)

-- the entries are seen as those of the promises
pub held-seen : (ps : List (Promise Fork Outcome)) (es : List Entry) → EachTwo IsHeldOf ps es → seen es ≡ entries_of ps
held-seen [] [] h = refl
held-seen [] (e ∷ es) h = absurd h
held-seen (p ∷ ps) [] h = absurd h
held-seen (p ∷ ps) (e ∷ es) h = let rest = held-seen ps es h.1 in λ i. h.0.seen i ∷ rest i

-- they are held for their lemmas
pub held-for : (texts : List (List ℕ)) (K : List Label) (ps : List (Promise Fork Outcome)) (es : List Entry) → EachTwo (IsEntryOf texts K) (lemmas_of ps) (entries_of ps) → Each (λ (p : Promise Fork Outcome). EndsSo (IsOutcomeOf texts) p.goal p.standing) ps → EachTwo IsHeldOf ps es
    → EachTwo (IsHeldFor texts K) (lemmas_of ps) es
held-for texts K [] [] are ended h = tt
held-for texts K [] (e ∷ es) are ended h = absurd h
held-for texts K (p ∷ ps) [] are ended h = absurd h
held-for texts K (p ∷ ps) (e ∷ es) are ended h =
    (record { entry = subst (IsEntryOf texts K p.goal) (sym h.0.seen) are.0; result = λ c same. standing-result texts p.goal p.standing ended.0 c (sym h.0.own ∙ same) }, held-for texts K ps es are.1 ended.1 h.1)
