-- A chain of propositions whose conclusion is among its premises.
use Rattle.std.proofs.Common.{◌≡◌, ℕ, map, List, [], ◌∷◌, inl, inr, refl}
use Rattle.pure_text.specs.Lists.{IsIn, Each}
use Rattle.pure_definitions.specs.Terms.Term.{Term}
use Rattle.pure_logic.specs.Connectives.{chain}
use Rattle.pure_definitions.specs.Types.Typ.{prop}
use Rattle.pure_text.proofs.ListLaws.{in-map, each_at}
use Rattle.pure_logic.specs.PureContent.{pure_content, proposition_variable}
use Rattle.pure_logic.proofs.ConnectiveLaws.{pure-below_itself, certified_of, prop-certified}
use Rattle.pure_logic.specs.Content.{Content, IsProposition}
use Rattle.pure_logic.specs.Tree.{Tree, Assume, ImpliesIntro, hyps_of, rests_of}
use Rattle.pure_logic.specs.Concludes.{Concludes}
use Rattle.pure_logic.specs.Derivable.{IsDerivableAlone}
use Rattle.pure_logic.proofs.DischargeLaws.{each-without, without-all}

-- the tree that assumes the conclusion and introduces the premises, the last first
abbrev pub chain_tree : List Term → Term → Tree
chain_tree [] C = Assume C
chain_tree (A ∷ As) C = ImpliesIntro A (chain_tree As C)

pub chain_tree-concludes : (Q : Content) (As : List Term) (C : Term) → Each (IsProposition Q) As → IsProposition Q C → Concludes Q (chain_tree As C) (chain As C)
chain_tree-concludes Q [] C h k = (k, refl)
chain_tree-concludes Q (A ∷ As) C h k = (chain As C, chain_tree-concludes Q As C h.1 k, h.0, refl)

chain_tree-assumes : (As : List Term) (C : Term) → Each (λ B. B ≡ C) (hyps_of (chain_tree As C))
chain_tree-assumes [] C = (refl, tt)
chain_tree-assumes (A ∷ As) C = each-without (λ B. B ≡ C) A (hyps_of (chain_tree As C)) (chain_tree-assumes As C)

chain_tree-hyps : (As : List Term) (C : Term) → IsIn C As → hyps_of (chain_tree As C) ≡ []
chain_tree-hyps [] C m = absurd m
chain_tree-hyps (A ∷ As) C m = elim m [
  | inl e ↦ rw (← e) (without-all C (hyps_of (chain_tree As C)) (chain_tree-assumes As C))
  | inr n ↦ rw (chain_tree-hyps As C n) refl
]

chain_tree-rests : (As : List Term) (C : Term) → rests_of (chain_tree As C) ≡ []
chain_tree-rests [] C = refl
chain_tree-rests (A ∷ As) C = chain_tree-rests As C

pub variable_is_proposition : (name : ℕ) → IsProposition pure_content (proposition_variable name)
variable_is_proposition name = certified_of pure_content (proposition_variable name) prop (prop-certified pure_content pure-below_itself) refl

pub chain_is_derivable : (Q : Content) (As : List Term) (C : Term) → Each (IsProposition Q) As → IsIn C As → IsDerivableAlone Q (chain As C)
chain_is_derivable Q As C h m = record {
  tree = chain_tree As C;
  conclusion = chain As C;
  concludes = chain_tree-concludes Q As C h (each_at (IsProposition Q) As h C m);
  under_pairs = refl;
  hyps = rw (chain_tree-hyps As C m) tt;
  rests = rw (chain_tree-rests As C) tt;
}

variables-propositions : (names : List ℕ) → Each (IsProposition pure_content) (map proposition_variable names)
variables-propositions [] = tt
variables-propositions (n ∷ ns) = (variable_is_proposition n, variables-propositions ns)

pub variable_chain_is_derivable : (premises : List ℕ) (conclusion : ℕ) → IsIn conclusion premises
    → IsDerivableAlone pure_content (chain (map proposition_variable premises) (proposition_variable conclusion))
variable_chain_is_derivable ns n m =
    chain_is_derivable pure_content (map proposition_variable ns) (proposition_variable n) (variables-propositions ns) (in-map proposition_variable n ns m)
