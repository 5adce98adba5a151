-- Outlines of what became of theories.
use Rattle.std.proofs.Common.{◌≡◌, ◌∙◌, ℕ, zero, suc, ◌+◌, ◌<◌, List, [], ◌∷◌, ◌++◌, add-one, length, map, take, true, false, ap, sym, refl, subst, arith}
use Rattle.std.specs.Prelude.{Some, slice_get}
use Rattle.std.specs.Option.{option_to_list}
use Rattle.std.proofs.lemmas.List.{length-map}
use Rattle.std.proofs.lemmas.Option.{same_Some}
use Rattle.pure_text.specs.Lists.{Each}
use Rattle.pure_logic.specs.Content.{Content}
use Rattle.pure_graph.specs.Order.{Loaded}
use Rattle.pure_session_meaning.specs.Verdicts.{Verdict, IsTheoryAt, Closes, barred, ran, AllClose, nothing, also, IsFirstBarred, AreLast}
use Rattle.pure_session_meaning.specs.Verdicts as verdicts
use Rattle.pure_session_meaning.proofs.StepLaws.{theory-once}
use Rattle.pure_theory_run.specs.Outline.{Outline, Barred, Ran, outline, is_barred, last_of, lasts}
use Rattle.pure_theory_run.specs.Parents.{AreOutlinesOf, HasParents, IsFirstBarredAt, IsNameOfParent}

-- What becomes of an index becomes of a theory of the session.
pub closes-theory : (texts : List (List ℕ)) (theories : List Loaded) (index : ℕ) (v : Verdict) → Closes texts theories index v → (T : Loaded) × IsTheoryAt theories index T
closes-theory texts theories index v (barred {theory} at all by) = (theory, at)
closes-theory texts theories index v (ran {theory} at all begins run) = (theory, at)

-- As many became of them as there are, and each is a theory of the session.
pub close-long : (texts : List (List ℕ)) (theories : List Loaded) (indexes : List ℕ) (vs : List Verdict) → AllClose texts theories indexes vs → length vs ≡ length indexes
close-long texts theories indexes vs nothing = refl
close-long texts theories indexes vs (also {indexes = more} {verdicts = rest} c h) = ap suc (close-long texts theories more rest h)

pub close-at : (texts : List (List ℕ)) (theories : List Loaded) (indexes : List ℕ) (vs : List Verdict) → AllClose texts theories indexes vs → (place index : ℕ) → slice_get indexes place ≡ Some index → (T : Loaded) × IsTheoryAt theories index T
close-at texts theories indexes vs nothing place index e = absurd (cc)
close-at texts theories indexes vs (also {index = i} {verdict = v} c h) zero index e = subst (λ (n : ℕ). (T : Loaded) × IsTheoryAt theories n T) (same_Some i index e) (closes-theory texts theories i v c)
close-at texts theories indexes vs (also {indexes = more} {verdicts = rest} c h) (suc place) index e = close-at texts theories more rest h place index e

module _ (texts : List (List ℕ)) (theories : List Loaded) where
  -- The name of the first parent that was refused.
  pub first-barred : (indexes : List ℕ) (vs : List Verdict) (place : ℕ) (name : List ℕ) → IsFirstBarredAt (map outline vs) (Some place) → IsNameOfParent theories indexes place name → IsFirstBarred theories indexes vs name
  first-barred [] vs place name f n = absurd (nowhere n.held)
    where
      nowhere : slice_get [] place ≡ Some n.index → ⊥
      nowhere e = cc
  first-barred (i ∷ is) [] place name f n = absurd (omega (arith, f.0))
  first-barred (i ∷ is) (verdicts.Barred row ∷ vs) zero name f n = (n.parent, subst (λ (k : ℕ). IsTheoryAt theories k n.parent) (sym (same_Some i n.index n.held)) n.is_at, n.name_is)
  first-barred (i ∷ is) (verdicts.Barred row ∷ vs) (suc place) name f n = absurd (told f.1.0)
    where
      told : true ≡ false → ⊥
      told e = cc
  first-barred (i ∷ is) (verdicts.Ran notes last ∷ vs) zero name f n = absurd (told (f.2 (Ran [] last)))
    where
      told : false ≡ true → ⊥
      told e = cc
  first-barred (i ∷ is) (verdicts.Ran notes last ∷ vs) (suc place) name f n =
      first-barred is vs place name (omega (arith, f.0), f.1.1, f.2) (record { index = n.index; held = n.held; parent = n.parent; is_at = n.is_at; name_is = n.name_is })

-- Where none was refused, the last contents are those of all.
pub last-all : (vs : List Verdict) → Each (λ o. is_barred o ≡ false) (map outline vs) → AreLast vs (lasts (map outline vs))
last-all [] h = tt
last-all (verdicts.Barred row ∷ vs) h = absurd (told h.0)
  where
    told : true ≡ false → ⊥
    told e = cc
last-all (verdicts.Ran notes last ∷ vs) h = ((notes, refl), last-all vs h.1)

-- The parents of a theory, which has one index.
pub parents-of : (texts : List (List ℕ)) (theories : List Loaded) (index : ℕ) (values : List Outline) (T : Loaded) → HasParents texts theories index values → IsTheoryAt theories index T → AreOutlinesOf texts theories T.parents values
parents-of texts theories index values T h at = subst (λ (U : Loaded). AreOutlinesOf texts theories U.parents values) (theory-once theories index h.theory T h.is_at at) h.outlines

-- A place among the values is one among the indexes.
pub outlines-long : (texts : List (List ℕ)) (theories : List Loaded) (indexes : List ℕ) (values : List Outline) → AreOutlinesOf texts theories indexes values → length values ≡ length indexes
outlines-long texts theories indexes values h = ap length h.values_are ∙ length-map h.verdicts outline ∙ close-long texts theories indexes h.verdicts h.closed

-- A place among the values is that of a parent's index, and this is a theory's.
pub parent-within : (texts : List (List ℕ)) (theories : List Loaded) (indexes : List ℕ) (values : List Outline) (place : ℕ) → AreOutlinesOf texts theories indexes values → place < length values → place < length indexes
parent-within texts theories indexes values place h within = omega (arith, outlines-long texts theories indexes values h, within)

pub parent-theory : (texts : List (List ℕ)) (theories : List Loaded) (indexes : List ℕ) (values : List Outline) (place index : ℕ) → AreOutlinesOf texts theories indexes values → slice_get indexes place ≡ Some index → (T : Loaded) × IsTheoryAt theories index T
parent-theory texts theories indexes values place index h held = close-at texts theories indexes h.verdicts h.closed place index held

-- The last contents of those so far.
lasts-next : (os : List Outline) (i : ℕ) (o : Outline) → slice_get os i ≡ Some o → lasts (take (suc i) os) ≡ lasts (take i os) ++ option_to_list (last_of o)
lasts-next [] i o e = absurd (cc)
lasts-next (Barred row ∷ os) zero o e = subst (λ (x : Outline). [] ≡ option_to_list (last_of x)) (same_Some (Barred row) o e) refl
lasts-next (Ran rows Q ∷ os) zero o e = subst (λ (x : Outline). Q ∷ [] ≡ option_to_list (last_of x)) (same_Some (Ran rows Q) o e) refl
lasts-next (Barred row ∷ os) (suc i) o e = lasts-next os i o e
lasts-next (Ran rows Q ∷ os) (suc i) o e = ap (λ (Qs : List Content). Q ∷ Qs) (lasts-next os i o e)

pub lasts-turn : (os : List Outline) (i : ℕ) (o : Outline) → slice_get os i ≡ Some o → lasts (take (i + 1) os) ≡ lasts (take i os) ++ option_to_list (last_of o)
lasts-turn os i o e = rw add-one (lasts-next os i o e)
