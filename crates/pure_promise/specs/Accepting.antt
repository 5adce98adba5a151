-- When a theorem fulfils a promise.
use Rattle.std.specs.Prelude.{◌≡◌, ◌≢◌, ℕ, List, [], ◌∷◌, ◌++◌, take}
use Rattle.pure_text.specs.Lists.{IsIn, Each}
use Rattle.pure_definitions.specs.Names.{Label}
use Rattle.pure_logic.specs.Content.{IsBelow}
use Rattle.pure_theory_tables.specs.Missing.{IsFirstMissing}
use Rattle.pure_method.specs.Theory.Certified.{Certified}
use Rattle.pure_promise.specs.declared.promise.Promise.{Promise}
use Rattle.pure_promise.specs.declared.promise.AcceptFault.{AcceptFault}
use Rattle.pure_promise.specs.declared.promise.AcceptFault.TheVariants.{BadTheory, BadProp, OpenHyps, OpenPairs, BadDependency}

-- A label may be rested on: it is that of one of so many promises that were forked first.
abbrev pub IsForkedBefore : (forked : List Label) → (number : ℕ) → Label → Type 0
IsForkedBefore forked number l = IsIn l (take number forked)

-- The label is the first of these that may not be rested on.
pub record IsFirstUnforked (forked : List Label) (number : ℕ) (labels : List Label) (l : Label) : Type 0 where
  pub front : List Label
  pub rest : List Label
  pub is : labels ≡ front ++ l ∷ rest
  pub forked_before : Each (IsForkedBefore forked number) front
  pub unforked : ¬ IsForkedBefore forked number l

-- The theorem's theory is below the promise's.
abbrev pub IsOfTheory : Promise → Certified → Type 0
IsOfTheory p r = IsBelow r.content p.stage.value

-- And it states what the promise does.
abbrev pub IsOfProp : Promise → Certified → Type 0
IsOfProp p r = IsOfTheory p r × (r.theorem.prop ≡ p.prop)

-- And it has no hypotheses.
abbrev pub IsWithoutHyps : Promise → Certified → Type 0
IsWithoutHyps p r = IsOfProp p r × (r.theorem.hyps ≡ [])

-- And no pairs.
abbrev pub IsWithoutPairs : Promise → Certified → Type 0
IsWithoutPairs p r = IsWithoutHyps p r × (r.theorem.pairs ≡ [])

-- And it rests on promises alone that were forked before.
abbrev pub Fulfils : (forked : List Label) → Promise → Certified → Type 0
Fulfils forked p r = IsWithoutPairs p r × Each (IsForkedBefore forked p.number) r.theorem.rests

-- Why a theorem doesn't fulfil a promise: the first of these conditions that fails.
abbrev pub IsRefusal : (forked : List Label) → Promise → Certified → AcceptFault → Type 0
IsRefusal forked p r (BadTheory declaration) = IsFirstMissing r.content.declarations p.stage.value.declarations declaration
IsRefusal forked p r BadProp = IsOfTheory p r × (r.theorem.prop ≢ p.prop)
IsRefusal forked p r OpenHyps = IsOfProp p r × (r.theorem.hyps ≢ [])
IsRefusal forked p r OpenPairs = IsWithoutHyps p r × (r.theorem.pairs ≢ [])
IsRefusal forked p r (BadDependency label) = IsWithoutPairs p r × IsFirstUnforked forked p.number r.theorem.rests label
