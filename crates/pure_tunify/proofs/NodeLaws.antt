-- Types whose nodes are of different kinds differ; equal constructors have one name and the same arguments.
use Rattle.std.proofs.Common.{◌≡◌, ℕ, List}
use Rattle.pure_definitions.specs.Types.Typ.{TFree, TVar, Con, Typs}

pub same_constructor : (k l : ℕ) (ts us : Typs) → Con k ts ≡ Con l us → k ≡ l
same_constructor k l ts us e = cc

pub same_arguments : (k l : ℕ) (ts us : Typs) → Con k ts ≡ Con l us → ts ≡ us
same_arguments k l ts us e = cc

pub fixed_constructor : (x k : ℕ) (s : List ℕ) (ts : Typs) → TFree x s ≡ Con k ts → ⊥
fixed_constructor x k s ts e = cc

pub variable_fixed : (x i y : ℕ) (s r : List ℕ) → TVar x i s ≡ TFree y r → ⊥
variable_fixed x i y s r e = cc

pub variable_constructor : (x i k : ℕ) (s : List ℕ) (ts : Typs) → TVar x i s ≡ Con k ts → ⊥
variable_constructor x i k s ts e = cc
