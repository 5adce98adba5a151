-- Proofs of a lemma by methods can be run, and their steps are turns of a race.
use Rattle.std.proofs.Common.{◌≡◌, ◌≢◌, ◌∙◌, ◌<◌, ℕ, zero, suc, ◌+◌, Bool, true, false, List, [], ◌∷◌, map, length, drop, get_or, add-one, drop-cons, refl, sym, ap, subst, arith, true≢false, inl, inr, Some}
use Rattle.std.specs.Prelude.{slice_get, find, cond}
use Rattle.std.proofs.lemmas.List.{length-drop}
use Rattle.std.proofs.lemmas.Option.{same_Some}
use Rattle.pure_text.specs.Lists.{Each, IsIn}
use Rattle.pure_grammar.specs.Theories.TheoryText as tree
use Rattle.pure_grammar.specs.Theories.TheoryText.{Step}
use Rattle.pure_check_work.specs.Declare.Notes.{Fork}
use Rattle.pure_check_work.specs.Method.Outcome.{IsProvable, IsOutcomeOf}
use Rattle.pure_check_work.specs.Method.Outcomes.{IsScript, ends_here, goes_further}
use Rattle.pure_check_work.specs.Method.Running.{place_left}
use Rattle.pure_check_work.specs.Method.declared.outcome.Outcome.{Outcome}
use Rattle.pure_check_work.specs.Method.declared.outcome.Outcome.TheVariants.{Proved, Fault}
use Rattle.pure_check_work.specs.Method.declared.proving.Place.{Place}
use Rattle.pure_check_work.specs.Method.declared.proving.Place.TheVariants.{Runs, Refused, Broken}
use Rattle.pure_try.specs.declared.method.Method.{Method}
use Rattle.pure_try.specs.declared.method.Method.TheVariants.{Assumption, Rule}
use Rattle.pure_try.specs.Methods.{script_of}
use Rattle.pure_try.specs.First.{Tells}
use Rattle.pure_try.specs.Proofs.{by_method, is_broken, is_proved, left_at, MayRun}

-- whether a step is the end
abbrev is_done : Step → Bool
is_done tree.Done = true
is_done _ = false

not-done : (s : Step) → is_done s ≡ false → s ≢ tree.Done
not-done s other same = true≢false (sym (ap is_done same) ∙ other)

-- the steps of a proof by a method are a script
is-script : (m : Method) → IsScript (script_of m)
is-script Assumption = goes_further (not-done tree.Assumption refl) (goes_further (not-done tree.Close refl) ends_here)
is-script (Rule fact) = goes_further (not-done (tree.Rule fact) refl) (goes_further (not-done tree.Close refl) ends_here)

-- which can be run where the lemma's own proof can
by-method-runs : (texts : List (List ℕ)) (f : Fork) → IsProvable texts f → (m : Method) → MayRun texts (by_method f m)
by-method-runs texts f p Assumption = (record { in_session = p.in_session; tidy = p.tidy; statement = record { normal = p.statement.normal; closed = p.statement.closed; fixed = p.statement.fixed; prop = p.statement.prop }; proposition = p.proposition; script = is-script Assumption; few = omega arith }, refl)
by-method-runs texts f p (Rule fact) = (record { in_session = p.in_session; tidy = p.tidy; statement = record { normal = p.statement.normal; closed = p.statement.closed; fixed = p.statement.fixed; prop = p.statement.prop }; proposition = p.proposition; script = is-script (Rule fact); few = omega arith }, refl)

pub methods-run : (texts : List (List ℕ)) (f : Fork) → IsProvable texts f → (ms : List Method) → Each (MayRun texts) (map (by_method f) ms)
methods-run texts f p [] = tt
methods-run texts f p (m ∷ ms) = (by-method-runs texts f p m, methods-run texts f p ms)

-- what holds of each holds of one
pub each-one : {A : Type 0} (P : A → Type 0) (xs : List A) → Each P xs → (n : ℕ) (x : A) → slice_get xs n ≡ Some x → P x
each-one P [] h n x at = absurd (cc)
each-one P (y ∷ ys) h zero x at = subst P (same_Some y x at) h.0
each-one P (y ∷ ys) h (suc n) x at = each-one P ys h.1 n x at

-- a step leaves fewer steps
pub fewer-left : (f : Fork) (old new : Place) → length f.script ≡ 3 → place_left f new + 1 ≡ place_left f old → left_at new < left_at old
fewer-left f (Runs run) (Runs next) three less = omega (arith, three, less, length-drop run.at f.script, length-drop next.at f.script)
fewer-left f (Runs run) Refused three less = omega (arith, three, less, length-drop run.at f.script)
fewer-left f (Runs run) Broken three less = omega (arith, three, less, length-drop run.at f.script)
fewer-left f Refused new three less = absurd (omega (arith, less))
fewer-left f Broken new three less = absurd (omega (arith, less))

-- the outcome of a lemma's proof tells whether it is proved
pub outcome-tells : (texts : List (List ℕ)) (f : Fork) (o : Outcome) → IsOutcomeOf texts f o → Tells texts f f.script (is_proved o)
outcome-tells texts f (Proved c) (proof, is) = (c.theorem.rests, proof)
outcome-tells texts f (Fault step fault) proof = (record { step = step; fault = fault }, proof)

-- a broken place
pub broken-is : (p : Place) → is_broken p ≡ true → p ≡ Broken
broken-is (Runs run) e = absurd (true≢false (sym e))
broken-is Refused e = absurd (true≢false (sym e))
broken-is Broken e = refl

pub is-broken : (p : Place) → p ≡ Broken → is_broken p ≡ true
is-broken p e = ap is_broken e
