-- A term with certified parts has a certified type.
use Rattle.std.proofs.Common.{◌≡◌, ℕ, zero, suc, List, [], ◌∷◌}
use Rattle.std.specs.Prelude.{slice_get, Some}
use Rattle.pure_text.specs.Lists.{Each}
use Rattle.pure_definitions.specs.Types.Typ.{Typ, arrow}
use Rattle.pure_definitions.specs.Terms.Term.{Term, Const, Free, Var, Bound, Abs, App}
use Rattle.pure_definitions.specs.Terms.Typing.{HasType}
use Rattle.pure_definitions.specs.Declarations.Certified.{IsCertifiedTyp, HasCertifiedParts}
use Rattle.pure_logic.specs.Content.{Content, IsBelow}
use Rattle.pure_logic.specs.PureContent.{pure_content}
use Rattle.pure_logic.proofs.ConnectiveLaws.{arrow-certified}

each-get : (P : Typ → Type 0) (bs : List Typ) (n : ℕ) (T : Typ) → Each P bs → slice_get bs n ≡ Some T → P T
each-get P [] n T h k = absurd (cc)
each-get P (b ∷ bs) zero T h k = let same : b ≡ T = cc in rw (← same) h.0
each-get P (b ∷ bs) (suc n) T h k = each-get P bs n T h.1 k

module _ (Q : Content) (above : IsBelow pure_content Q) where
  pub typ-certified : (bs : List Typ) (t : Term) (T : Typ) → Each (IsCertifiedTyp Q.declarations) bs → HasCertifiedParts Q.declarations t → HasType bs t T → IsCertifiedTyp Q.declarations T
  typ-certified bs (Const c V) T b h k = rw (← k) h.0
  typ-certified bs (Free x V) T b h k = rw (← k) h
  typ-certified bs (Var x i V) T b h k = rw (← k) h
  typ-certified bs (Bound n) T b h k = each-get (IsCertifiedTyp Q.declarations) bs n T b k
  typ-certified bs (Abs V body) T b h k = rw (← k.2) (arrow-certified Q above V k.0 h.0 (typ-certified (V ∷ bs) body k.0 (h.0, b) h.1 k.1))
  typ-certified bs (App f a) T b h k = (typ-certified bs f (arrow k.0 T) b h.0 k.1).1.1.0
