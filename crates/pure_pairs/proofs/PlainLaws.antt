-- Theorems in whose proposition no variable of their pairs stands: smashing takes the pairs away, and no more.
use Rattle.std.proofs.Common.{◌≡◌, ◌≢◌, ◌<◌, ℕ, zero, suc, Bool, true, false, List, [], ◌∷◌, map, length, refl, ap, sym, subst, ◌∙◌, arith}
use Rattle.std.specs.Prelude.{Result, Ok, Err, IfOk}
use Rattle.pure_text.specs.Lists.{Each}
use Rattle.pure_definitions.specs.Names.{Label}
use Rattle.pure_definitions.specs.Terms.Term.{Term, Const, Free, Var, Bound, Abs, App, term_eq}
use Rattle.pure_definitions.specs.Terms.Conditions.{variable_typ}
use Rattle.pure_definitions.specs.Models.Equality.{term_eq-same, term_eq-itself}
use Rattle.pure_logic.specs.Derivable.{Pair, Theorem}
use Rattle.pure_unify_definitions.specs.Fronts.{head, domains, is_schematic}
use Rattle.pure_unify_definitions.specs.Children.{IsFlexFlex}
use Rattle.pure_pairs.specs.Smash.{term_index_above, theorem_index_above, with_constant, with_constants, pair_with, fresh_variable, IsPlain, Smashes, no_pair, trivial, constants}
use Rattle.pure_theorem.proofs.SetLaws.{no_terms}
use Rattle.pure_pairs.proofs.IndexLaws.{constant_stays}
use Rattle.pure_pairs.proofs.SmashLaws.{flexible-pairs, mapped-length}

-- A schematic variable has an index.
has-index : (t : Term) → is_schematic t ≡ true → 0 < term_index_above t
has-index (Var x i T) e = omega arith
has-index (Const d U) e = absurd (let no : false ≡ true = e in cc)
has-index (Free z U) e = absurd (let no : false ≡ true = e in cc)
has-index (Bound n) e = absurd (let no : false ≡ true = e in cc)
has-index (Abs V b) e = absurd (let no : false ≡ true = e in cc)
has-index (App f a) e = absurd (let no : false ≡ true = e in cc)

stays-closed : (v c A : Term) → is_schematic v ≡ true → term_index_above A ≡ 0 → with_constant v (domains (variable_typ v)) c A ≡ A
stays-closed v c A is low = let some = has-index v is in constant_stays v (domains (variable_typ v)) c A (omega arith)

proposition-stays : (p : Pair) (c A : Term) → IsFlexFlex p → term_index_above A ≡ 0 → with_constants p c A ≡ A
proposition-stays p c A flexible low =
    ap (with_constant (head p.right) (domains (variable_typ (head p.right))) c) (stays-closed (head p.left) c A flexible.left low) ∙ stays-closed (head p.right) c A flexible.right low

differ-by : (t u : Term) → term_eq t u ≡ false → t ≢ u
differ-by t u e same = let yes : term_eq t u ≡ true = subst (λ (v : Term). term_eq t v ≡ true) same (term_eq-itself t) in let no : false ≡ true = sym e ∙ yes in cc

-- Theorems that say this, which rests on these promises, under flexible pairs.
module _ (A : Term) (rests : List Label) (low : term_index_above A ≡ 0) where
  abbrev under : List Pair → Theorem
  under ps = record { hyps = []; pairs = ps; prop = A; rests = rests }

  one-taken : (p : Pair) (ps : List Pair) → IsFlexFlex p → Each IsFlexFlex ps → ((qs : List Pair) → length qs ≡ length ps → Each IsFlexFlex qs → Smashes (under qs) (under [])) → (b : Bool) → term_eq p.left p.right ≡ b → Smashes (under (p ∷ ps)) (under [])
  one-taken p ps flexible others rest true e = trivial refl (term_eq-same p.left p.right e) (rest ps refl others)
  one-taken p ps flexible others rest false e =
      let n = theorem_index_above (under (p ∷ ps)) in
      let c = fresh_variable (under (p ∷ ps)) p in
      constants {next = under (map (pair_with p c) ps)} refl (differ-by p.left p.right e)
      (record { hyps = record { ascends = no_terms; members = λ x. (λ m. m, λ m. m) }; are_pairs = refl; prop = sym (proposition-stays p c A flexible low); rests = refl })
      (rest (map (pair_with p c) ps) (mapped-length (pair_with p c) ps) (flexible-pairs p n ps others))

  all-taken : (n : ℕ) (ps : List Pair) → length ps ≡ n → Each IsFlexFlex ps → Smashes (under ps) (under [])
  all-taken n [] count flexible = no_pair refl
  all-taken zero (p ∷ ps) count flexible = absurd (omega arith)
  all-taken (suc n) (p ∷ ps) count flexible = one-taken p ps flexible.0 flexible.1 (λ qs same others. all-taken n qs (omega arith) others) (term_eq p.left p.right) refl

plain-smashes : (th : Theorem) → IsPlain th → Smashes th (record th { pairs = [] })
plain-smashes th is =
    subst (λ (hs : List Term). Smashes (record { hyps = hs; pairs = th.pairs; prop = th.prop; rests = th.rests }) (record { hyps = hs; pairs = []; prop = th.prop; rests = th.rests })) (sym is.no_hyps)
    (all-taken th.prop th.rests is.closed (length th.pairs) th.pairs refl is.flexible)

pub smashed_plain : {E : Type 0} (th : Theorem) (ps : List Pair) → IsPlain th → ps ≡ [] → (r : Result Theorem E) → IfOk r (λ new. new ≡ record th { pairs = ps }) → IfOk r (Smashes th)
smashed_plain th ps is none (Ok new) e = subst (Smashes th) (sym (e ∙ ap (λ (qs : List Pair). record th { pairs = qs }) none)) (plain-smashes th is)
smashed_plain th ps is none (Err fault) e = tt
