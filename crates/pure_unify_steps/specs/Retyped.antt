-- What a step on types answers.
use Rattle.std.specs.Prelude.{◌≡◌, ◌≢◌, ℕ, ◌+◌, List, [], ◌∷◌, Option, Some, None, Result, Ok, Err}
use Rattle.pure_definitions.specs.Types.Typ.{Typ}
use Rattle.pure_definitions.specs.Types.Order.{Algebra}
use Rattle.pure_definitions.specs.Terms.Subst.{TypBind}
use Rattle.pure_norm.specs.declared.fault.NormFault.{NormFault}
use Rattle.pure_norm.specs.declared.fault.NormFault.TheVariants.{Steps, Big, Memory}
use Rattle.pure_tunify.specs.Steps as typs
use Rattle.pure_tunify.specs.Procedure.{Unified, NotTyped, TooBig, Unifies}
use Rattle.pure_tunify.specs.Answers.{AreUnified}
use Rattle.pure_tunify.specs.Settings.{composed}
use Rattle.pure_logic.specs.Derivable.{Pair}
use Rattle.pure_unify_definitions.specs.LongSides as sides
use Rattle.pure_unify_definitions.specs.LongSides.{AllLong, AreLong}
use Rattle.pure_unify_definitions.specs.Node as node
use Rattle.pure_unify_definitions.specs.Node.{Typs, with_setting_put, node_variables}
use Rattle.pure_unify_definitions.specs.Retyping.{Goes, Fails, Stops, MakesTwoSame, retyped, IsRetyped}
use Rattle.pure_unify_nodes.specs.SideAnswer.{IsSidesFault}
use Rattle.pure_unify_steps.specs.Held.{IsSetting}
use Rattle.pure_unify_steps.specs.declared.retype.Retyping.{Retyping}

-- One pair of types: its unifier, or that it has none, or that this is too large.
abbrev pub IsTyping : Algebra → (index from : ℕ) → (T U : Typ) → Result (Option (List TypBind × ℕ)) NormFault → Type 0
IsTyping A index from T U (Ok (Some found)) = AreUnified A index from (typs.pair T U ∷ []) found.0 found.1
IsTyping A index from T U (Ok None) = (at : ℕ) × Unifies A index 0 from [] (typs.pair T U ∷ []) (NotTyped at)
IsTyping A index from T U (Err Big) = (at : ℕ) × Unifies A index 0 from [] (typs.pair T U ∷ []) (TooBig at)
IsTyping A index from T U (Err Steps) = ⊥
IsTyping A index from T U (Err Memory) = Unit {0}

-- The pairs with a type map put in come to these, or to a stop.
abbrev pub IsPutAnswer : List Pair → (sets : List TypBind) → (next : ℕ) → Result Retyping NormFault → Type 0
IsPutAnswer ps sets next (Ok r) = IsSetting r.setting (Typs sets) × (r.next ≡ next) × AreLong (with_setting_put (Typs sets) ps) (AllLong r.pairs.items)
IsPutAnswer ps sets next (Err fault) = IsSidesFault (with_setting_put (Typs sets) ps) fault

-- The types are unified, and the second pairs are the first with the unifier put in, in long form.
pub record ArePut (A : Algebra) (index from : ℕ) (T U : Typ) (ps qs : List Pair) : Type 0 where
  pub sets : List TypBind
  pub next : ℕ
  pub unifies : Unifies A index 0 from [] (typs.pair T U ∷ []) (Unified sets next)
  pub long : AreLong (with_setting_put (Typs sets) ps) (AllLong qs)

-- So do those of a node, unless two of its variables become the same.
abbrev pub IsApartAnswer : node.Node → (sets : List TypBind) → (next : ℕ) → Result (Option Retyping) NormFault → Type 0
IsApartAnswer n sets next (Ok None) = MakesTwoSame (composed sets) (node_variables n)
IsApartAnswer n sets next (Ok (Some r)) = (¬ MakesTwoSame (composed sets) (node_variables n)) × IsPutAnswer n.pairs sets next (Ok r)
IsApartAnswer n sets next (Err Memory) = Unit {0}
IsApartAnswer n sets next (Err fault) = (¬ MakesTwoSame (composed sets) (node_variables n)) × IsSidesFault (with_setting_put (Typs sets) n.pairs) fault

-- The node goes on with this setting, these pairs and this first name that isn't used.
pub record GoesOn (A : Algebra) (maxidx : ℕ) (n : node.Node) (T U : Typ) (r : Retyping) : Type 0 where
  pub sets : List TypBind
  pub held : IsSetting r.setting (Typs sets)
  pub becomes : IsRetyped A maxidx n T U (Goes (retyped n sets r.next r.pairs.items))

-- What comes of a node whose types T and U are unified: it goes on; or it fails; or it stops the search; or memory was wanted.
abbrev pub IsRetypingAnswer : Algebra → (maxidx : ℕ) → node.Node → (T U : Typ) → Result (Option Retyping) NormFault → Type 0
IsRetypingAnswer A maxidx n T U (Ok (Some r)) = GoesOn A maxidx n T U r
IsRetypingAnswer A maxidx n T U (Ok None) = IsRetyped A maxidx n T U Fails
IsRetypingAnswer A maxidx n T U (Err Big) = IsRetyped A maxidx n T U (Stops sides.Big)
IsRetypingAnswer A maxidx n T U (Err Steps) = IsRetyped A maxidx n T U (Stops sides.Steps)
IsRetypingAnswer A maxidx n T U (Err Memory) = Unit {0}
