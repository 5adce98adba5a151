-- What a walk through a term tells of its long form.
use Rattle.std.proofs.Common.{◌≡◌, ℕ, zero, ◌+◌, List, [], ◌∷◌, Bool, true, false, IsTrue, true≢false, refl, ap, sym, ◌∙◌}
use Rattle.std.specs.Bool.{OnTrue}
use Rattle.pure_definitions.specs.Types.Typ.{Typ, Con, none, also, IsNoArrow}
use Rattle.pure_definitions.specs.Terms.Term.{Term, Const, Free, Var, Abs}
use Rattle.pure_definitions.specs.Terms.Typing.{HasType}
use Rattle.pure_definitions.specs.Reduction.Eta.{EtaReduces, arrow_count, IsLongForm}
use Rattle.pure_eta.specs.OwnForm.{IsOwnFront, IsOwnLong}
use Rattle.pure_eta.proofs.LongLaws.{no_abstraction}

-- What a test tells, made of what another tells.
pub on_true : {P Q : Type 0} (b : Bool) → (P → Q) → OnTrue b P → OnTrue b Q
on_true true f h = f h
on_true false f h = tt

pub no_arrows : (T : Typ) → IsNoArrow T → arrow_count T ≡ 0
no_arrows (Con zero (also A (also B none))) n = absurd (n A B refl)
no_arrows T n = refl

pub constant_front : (bs : List Typ) (t : Term) (c : ℕ) (T : Typ) → t ≡ Const c T → IsOwnFront bs t T
constant_front bs t c T e = rw e (record { applied = (λ x. x); normal = tt; typ = (λ U h. h); parts = (λ U h. tt) })

pub fixed_front : (bs : List Typ) (t : Term) (x : ℕ) (T : Typ) → t ≡ Free x T → IsOwnFront bs t T
fixed_front bs t x T e = rw e (record { applied = (λ y. y); normal = tt; typ = (λ U h. h); parts = (λ U h. tt) })

pub schematic_front : (bs : List Typ) (t : Term) (x i : ℕ) (T : Typ) → t ≡ Var x i T → IsOwnFront bs t T
schematic_front bs t x i T e = rw e (record { applied = (λ y. y); normal = tt; typ = (λ U h. h); parts = (λ U h. tt) })

pub base_long : (bs : List Typ) (t : Term) (T : Typ) → IsOwnFront bs t T → arrow_count T ≡ 0 → IsOwnLong bs t
base_long bs t T h e = record {
  normal = h.normal;
  count = (λ U g. no_abstraction t h.applied ∙ (sym e ∙ ap arrow_count (h.typ U g)));
  parts = h.parts;
}

abstraction-long : (bs : List Typ) (V : Typ) (b : Term) → IsOwnLong (V ∷ bs) b → IsOwnLong bs (Abs V b)
abstraction-long bs V b h = record {
  normal = h.normal;
  count = (λ U g. ap (λ n. 1 + n) (h.count g.0 g.1) ∙ ap arrow_count g.2);
  parts = (λ U g. ((g.0, g.1, h.count g.0 g.1), h.parts g.0 g.1));
}

pub abstraction_long : (bs : List Typ) (t : Term) (V : Typ) (b : Term) → t ≡ Abs V b → IsOwnLong (V ∷ bs) b → IsOwnLong bs t
abstraction_long bs t V b e h = rw e (abstraction-long bs V b h)

pub own_form : (t : Term) (T : Typ) → HasType [] t T → (b : Bool) → OnTrue b (IsOwnLong [] t) → IsTrue b → IsLongForm t t
own_form t T g true h told = record { typ = T; typed = g; long_typed = g; reduces = EtaReduces.done; normal = h.normal; saturated = (T, g, h.count T g); parts = h.parts T g }
own_form t T g false h told = absurd (true≢false (sym told))
