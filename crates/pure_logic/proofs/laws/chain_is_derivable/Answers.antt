use Rattle.std.proofs.Common.{[], ◌∷◌, inl, refl}
use Rattle.pure_logic.proofs.ChainLaws.{chain_is_derivable as derivable, variable_chain_is_derivable}
use Rattle.pure_logic.proofs.laws.chain_is_derivable.Goals as goal

pub returns-clause-chain : goal.returns-clause-chain
returns-clause-chain c = derivable

pub returns-clause-trivial : goal.returns-clause-trivial
returns-clause-trivial c = λ Q A h. derivable Q (A ∷ []) A (h, tt) (inl refl)

pub returns-clause-weakened : goal.returns-clause-weakened
returns-clause-weakened c = λ Q A B h k. derivable Q (A ∷ B ∷ []) A (h, (k, tt)) (inl refl)

pub returns-clause-variables : goal.returns-clause-variables
returns-clause-variables c = variable_chain_is_derivable
