-- What a walk through a term tells of its long form.
use Rattle.std.proofs.Common.{◌≡◌, ℕ, zero, ◌+◌, List, [], ◌∷◌, Bool, true, false, refl, ap, sym, ◌∙◌}
use Rattle.std.specs.Bool.{OnTrue}
use Rattle.pure_definitions.specs.Types.Typ.{Typ, Con, none, also, IsNoArrow}
use Rattle.pure_definitions.specs.Terms.Term.{Term, Const, Free, Var, Bound, Abs, App, IsWithin}
use Rattle.pure_definitions.specs.Terms.Typing.{HasType}
use Rattle.pure_definitions.specs.Reduction.Beta.{IsAbs}
use Rattle.pure_definitions.specs.Reduction.Eta.{done, abstraction_count, arrow_count, IsLongForm}
use Rattle.pure_unify_nodes.specs.SideAnswer.{IsTyped}
use Rattle.pure_unify_nodes.specs.Long.{IsLongSide}
use Rattle.pure_unify_nodes.specs.OwnForm.{IsFront, IsLongUnder}

-- What a test tells, made of what another tells.
pub on_true : {P Q : Type 0} (b : Bool) → (P → Q) → OnTrue b P → OnTrue b Q
on_true true f h = f h
on_true false f h = tt

pub no_arrows : (T : Typ) → IsNoArrow T → arrow_count T ≡ 0
no_arrows (Con zero (also A (also B none))) n = absurd (n A B refl)
no_arrows T n = refl

no_abstraction : (t : Term) → ¬ IsAbs t → abstraction_count t ≡ 0
no_abstraction (Const c T) n = refl
no_abstraction (Free x T) n = refl
no_abstraction (Var x i T) n = refl
no_abstraction (Bound p) n = refl
no_abstraction (Abs T b) n = absurd (n tt)
no_abstraction (App f a) n = refl

pub constant_front : (bs : List Typ) (t : Term) (c : ℕ) (T : Typ) → t ≡ Const c T → IsFront bs t T
constant_front bs t c T e = rw e (record { applied = (λ x. x); normal = tt; typ = (λ U h. h); parts = (λ U h. tt) })

pub fixed_front : (bs : List Typ) (t : Term) (x : ℕ) (T : Typ) → t ≡ Free x T → IsFront bs t T
fixed_front bs t x T e = rw e (record { applied = (λ y. y); normal = tt; typ = (λ U h. h); parts = (λ U h. tt) })

pub schematic_front : (bs : List Typ) (t : Term) (x i : ℕ) (T : Typ) → t ≡ Var x i T → IsFront bs t T
schematic_front bs t x i T e = rw e (record { applied = (λ y. y); normal = tt; typ = (λ U h. h); parts = (λ U h. tt) })

pub base_long : (bs : List Typ) (t : Term) (T : Typ) → IsFront bs t T → arrow_count T ≡ 0 → IsLongUnder bs t
base_long bs t T h e = record {
  normal = h.normal;
  count = (λ U g. no_abstraction t h.applied ∙ (sym e ∙ ap arrow_count (h.typ U g)));
  parts = h.parts;
}

abstraction-long : (bs : List Typ) (V : Typ) (b : Term) → IsLongUnder (V ∷ bs) b → IsLongUnder bs (Abs V b)
abstraction-long bs V b h = record {
  normal = h.normal;
  count = (λ U g. ap (λ n. 1 + n) (h.count g.0 g.1) ∙ ap arrow_count g.2);
  parts = (λ U g. ((g.0, g.1, h.count g.0 g.1), h.parts g.0 g.1));
}

pub abstraction_long : (bs : List Typ) (t : Term) (V : Typ) (b : Term) → t ≡ Abs V b → IsLongUnder (V ∷ bs) b → IsLongUnder bs t
abstraction_long bs t V b e h = rw e (abstraction-long bs V b h)

own_form : (t : Term) → IsLongUnder [] t → (T : Typ) → HasType [] t T → IsLongForm t t
own_form t h T g = record { typ = T; typed = g; long_typed = g; reduces = done; normal = h.normal; saturated = (T, g, h.count T g); parts = h.parts T g }

pub own_of : (t : Term) → IsTyped t → IsLongUnder [] t → IsWithin t → IsLongSide t
own_of t typed h w = record { form = own_form t h typed.0 typed.1; within = w }
