-- An image by imitation with too many arguments isn't within the limits in long form.
use Rattle.std.proofs.Common.{◌≡◌, ℕ, zero, suc, ◌+◌, ◌*◌, ◌≤◌, List, [], ◌∷◌, length, Err, ap, refl, ◌∙◌, arith}
use Rattle.std.proofs.Math.Nat.{suc-mul}
use Rattle.pure_definitions.specs.Types.Typ.{Typ, TFree, TVar, Con, typ_size}
use Rattle.pure_definitions.specs.Terms.Term.{Term, Var, Bound, App, term_size, IsWithin}
use Rattle.pure_definitions.specs.Reduction.Eta.{EtaStep, EtaReduces, IsLongForm}
use Rattle.pure_definitions.proofs.TermLemmas.{term_size-lift}
use Rattle.pure_typ.specs.declared.grow.Grow.TheVariants.{Big}
use Rattle.pure_eta.proofs.FormLaws.{each_typed_normal_term_has_long_form}
use Rattle.pure_unify_definitions.specs.Fronts.{domains, below, function_typ, applied, bounds}
use Rattle.pure_unify_definitions.specs.Node.{bind}
use Rattle.pure_unify_definitions.specs.Children.{new_arguments, image_of}
use Rattle.pure_pattern_rules.specs.Treated.{IsAnswered}
use Rattle.pure_pattern_rules.specs.Parts.{IsSet, IsRigidHead, IsImageTyped, IsWide}
use Rattle.pure_pattern_rules.proofs.ImageLaws.{imitation_normal}

-- Eta steps don't make a term larger.
step-size : (t u : Term) → EtaStep t u → term_size u ≤ term_size t
step-size t u (EtaStep.contract {T = T} {f = f} {g = g} e) = (let same : term_size g ≡ term_size f = ap term_size e ∙ term_size-lift 1 0 f in omega arith)
step-size t u (EtaStep.body {b = b} {c = c} s) = (let rest = step-size b c s in omega arith)
step-size t u (EtaStep.function {f = f} {g = g} s) = (let rest = step-size f g s in omega arith)
step-size t u (EtaStep.argument {a = a} {b = b} s) = (let rest = step-size a b s in omega arith)

reduces-size : (t u : Term) → EtaReduces t u → term_size u ≤ term_size t
reduces-size t u EtaReduces.done = omega arith
reduces-size t u (EtaReduces.next {u = v} s r) = (let first = step-size t v s in let rest = reduces-size v u r in omega arith)

-- Each new variable has a type and arguments of a size of its own.
bounds-size : (n : ℕ) (f : Term) → term_size (applied f (bounds n)) ≡ term_size f + (n + n)
bounds-size zero f = omega arith
bounds-size (suc n) f = (let rest = bounds-size n (App f (Bound n)) in omega arith)

typ-size : (T : Typ) → 1 ≤ typ_size T
typ-size (TFree x s) = omega arith
typ-size (TVar x i s) = omega arith
typ-size (Con k ts) = omega arith

function-size : (Ts : List Typ) (U : Typ) → length Ts + length Ts ≤ typ_size (function_typ Ts U)
function-size [] U = omega arith
function-size (T ∷ Ts) U = (let rest = function-size Ts U in let first = typ-size T in omega arith)

argument-size : (name index : ℕ) (Ts : List Typ) (U : Typ) → 4 * length Ts ≤ term_size (applied (Var name index (function_typ Ts U)) (bounds (length Ts)))
argument-size name index Ts U = (let own = function-size Ts U in let all = bounds-size (length Ts) (Var name index (function_typ Ts U)) in omega arith)

arguments-size : (index : ℕ) (Ts : List Typ) (name : ℕ) (Us : List Typ) (f : Term) → term_size f + 4 * (length Us * length Ts) ≤ term_size (applied f (new_arguments index Ts name Us))
arguments-size index Ts name [] f = omega arith
arguments-size index Ts name (U ∷ Us) f =
    (let a : Term = applied (Var name index (function_typ Ts U)) (bounds (length Ts)) in
    let first = argument-size name index Ts U in
    let rest = arguments-size index Ts (name + 1) Us (App f a) in
    let product : suc (length Us) * length Ts ≡ length Us * length Ts + length Ts = suc-mul (length Us) (length Ts) in
    omega arith)

below-size : (Ts : List Typ) (t : Term) → term_size t ≤ term_size (below Ts t)
below-size [] t = omega arith
below-size (T ∷ Ts) t = (let rest = below-size Ts t in omega arith)

too-wide : (index : ℕ) (T : Typ) (h : Term) (U : Typ) (u : Term) → IsWide T U → IsLongForm (image_of index (domains T) h (domains U)) u → ¬ IsWithin u
too-wide index T h U u wide long within =
    let image : Term = applied h (new_arguments index (domains T) 0 (domains U)) in
    let inner = arguments-size index (domains T) 0 (domains U) h in
    let plain = below-size (domains T) image in
    let whole = reduces-size u (below (domains T) image) long.reduces in
    let most : term_size u ≤ 200000 = within.size in
    absurd (omega arith)

pub wide_not_set : (index x i : ℕ) (T : Typ) (h : Term) (U : Typ) → IsWide T U → IsRigidHead h → IsImageTyped index T h U → IsAnswered (IsSet x i T (image_of index (domains T) h (domains U))) (Err Big)
wide_not_set index x i T h U wide rigid typed =
    let u = each_typed_normal_term_has_long_form (image_of index (domains T) h (domains U)) T typed (imitation_normal index (domains T) h (domains U) rigid) in
    (bind x i T u.0 ∷ [], (u.0, u.1, refl), λ within. too-wide index T h U u.0 wide u.1 within.0)
