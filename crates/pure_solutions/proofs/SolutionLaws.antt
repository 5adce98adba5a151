-- What maps solve.
use Rattle.std.proofs.Common.{◌≡◌, ◌↔◌, ℕ, inr, [], ap, refl, sym, subst, ◌∙◌}
use Rattle.pure_definitions.specs.Types.Typ.{Typ}
use Rattle.pure_definitions.specs.Terms.Term.{Term, Const, Free, Var, Bound, Abs, App}
use Rattle.pure_definitions.specs.Terms.Bounds.{Occurs}
use Rattle.pure_definitions.specs.Terms.Conditions.{IsVariable}
use Rattle.pure_definitions.specs.Terms.Typing.{HasType}
use Rattle.pure_definitions.specs.Terms.Subst.{inst_term, term_instance}
use Rattle.pure_definitions.specs.Reduction.Eta.{EtaReduces, IsLongForm}
use Rattle.pure_term_laws.proofs.SubstLaws.{inst_term-alone, typ_instance-identity}
use Rattle.pure_term_laws.proofs.TypingBoundLaws.{typing-instance}
use Rattle.pure_eta.proofs.FormLaws.{long_form_of_long_form}
use Rattle.pure_reduction.specs.LongForms.{HasLongForm, HaveOneLongForm}
use Rattle.pure_reduction.proofs.LongLaws.{one_long_form_of_term, typed_term_has_long_form, long_form_keeps_type, long_form_of_normal, long-of_eta_reduct}
use Rattle.pure_reduction.proofs.MapLaws.{respecting-closed, eta_steps_under_maps, long_form_under_map, same_under_maps}
use Rattle.pure_solutions.specs.Solutions.{IsTermSubstitution, SolvesPair}
use Rattle.pure_solutions.specs.Laws.{SolvedByLongForms, SolvedBySameImages, EachMapHasALongMap}

-- The same of the map alone: a term's instance has the long form of that of its long form.
pub long-instance : (terms : Term → Term) → IsTermSubstitution terms → (t u w : Term) → HasLongForm t u → HasLongForm (inst_term terms t) w ↔ HasLongForm (inst_term terms u) w
long-instance terms s t u w h = rw (inst_term-alone terms t, inst_term-alone terms u) (long_form_under_map (λ v. v) terms s.respecting t u w h)

pub same-instances : (terms others : Term → Term) → IsTermSubstitution terms → (t : Term) (T : Typ) → HasType [] t T
    → ((v : Term) → IsVariable v → Occurs v t → HaveOneLongForm (terms v) (others v)) → HaveOneLongForm (inst_term terms t) (inst_term others t)
same-instances terms others s t T h same = rw (inst_term-alone terms t, inst_term-alone others t) (same_under_maps (λ v. v) terms others s.respecting t T h same)

pub instance-typed : (terms : Term → Term) → IsTermSubstitution terms → (t : Term) (T : Typ) → HasType [] t T → HasType [] (inst_term terms t) T
instance-typed terms s t T h = rw (inst_term-alone terms t) (subst (HasType [] (term_instance (λ v. v) terms t)) (typ_instance-identity T) (typing-instance (λ v. v) terms s.respecting [] t T h))

pub one-long-swap : {t u : Term} → HaveOneLongForm t u → HaveOneLongForm u t
one-long-swap (w, h, k) = (w, k, h)

pub one-long-then : {t u v : Term} → HaveOneLongForm t u → HaveOneLongForm u v → HaveOneLongForm t v
one-long-then {t = t} {u = u} {v = v} (w, h, k) (x, l, m) = let same : x ≡ w = one_long_form_of_term u x w l k in (w, h, subst (HasLongForm v) same m)

pub eta-instance : (terms : Term → Term) → IsTermSubstitution terms → (t u : Term) → EtaReduces t u → EtaReduces (inst_term terms t) (inst_term terms u)
eta-instance terms s t u r = rw (inst_term-alone terms t, inst_term-alone terms u) (eta_steps_under_maps (λ v. v) terms (respecting-closed (λ v. v) terms s.respecting) t u r)

-- A typed term has the long forms of what it reduces to.
pub one-long-itself : (t : Term) (T : Typ) → HasType [] t T → HaveOneLongForm t t
one-long-itself t T h = let long = typed_term_has_long_form t T h in (long.0, long.1, long.1)

pub one-long-eta : (t u : Term) (T : Typ) → HasType [] t T → EtaReduces t u → HaveOneLongForm t u
one-long-eta t u T h r = let long = typed_term_has_long_form t T h in (long.0, long.1, long-of_eta_reduct t u long.0 T h r long.1)

pub solved_by_long_forms : SolvedByLongForms
solved_by_long_forms terms s p q h k = (down, up)
  where
    down : SolvesPair terms p → SolvesPair terms q
    down (w, l, r) = (w, (long-instance terms s p.left q.left w h).0 l, (long-instance terms s p.right q.right w k).0 r)

    up : SolvesPair terms q → SolvesPair terms p
    up (w, l, r) = (w, (long-instance terms s p.left q.left w h).1 l, (long-instance terms s p.right q.right w k).1 r)

pub solved_by_same_images : SolvedBySameImages
solved_by_same_images terms others s r p T U h k lefts rights solved =
    one-long-then (one-long-swap (same-instances terms others s p.left T h lefts)) (one-long-then solved (same-instances terms others s p.right U k rights))

pub image-typed : (terms : Term → Term) → IsTermSubstitution terms → (x i : ℕ) (T : Typ) → HasType [] (terms (Var x i T)) T
image-typed terms s x i T = subst (HasType [] (terms (Var x i T))) (typ_instance-identity T) (s.respecting.schematic x i T)

pub fixed-stays : (terms : Term → Term) → IsTermSubstitution terms → (x : ℕ) (T : Typ) → terms (Free x T) ≡ Free x T
fixed-stays terms s x T = s.fixed x T ∙ ap (Free x) (typ_instance-identity T)

-- the map with each image of a schematic variable in long form
abbrev longer : (terms : Term → Term) → IsTermSubstitution terms → Term → Term
longer terms s (Var x i T) = (typed_term_has_long_form (terms (Var x i T)) T (image-typed terms s x i T)).0
longer terms s t = t

pub longer-map : (terms : Term → Term) → IsTermSubstitution terms
    → (others : Term → Term) × IsTermSubstitution others × ((x i : ℕ) (T : Typ) → IsLongForm (others (Var x i T)) (others (Var x i T))) × ((v : Term) → IsVariable v → HaveOneLongForm (terms v) (others v))
longer-map terms s = (longer terms s, substitution, own, same)
  where
    image : (x i : ℕ) (T : Typ) → HasLongForm (terms (Var x i T)) (longer terms s (Var x i T))
    image x i T = (typed_term_has_long_form (terms (Var x i T)) T (image-typed terms s x i T)).1

    own : (x i : ℕ) (T : Typ) → IsLongForm (longer terms s (Var x i T)) (longer terms s (Var x i T))
    own x i T = long_form_of_long_form (image x i T).normal (longer terms s (Var x i T)) (image x i T).long

    typed : (x i : ℕ) (T : Typ) → HasType [] (longer terms s (Var x i T)) T
    typed x i T = long_form_keeps_type (terms (Var x i T)) (longer terms s (Var x i T)) T (image-typed terms s x i T) (image x i T)

    substitution : IsTermSubstitution (longer terms s)
    substitution = record {
      respecting = record {
        fixed = λ x T. sym (typ_instance-identity T);
        schematic = λ x i T. subst (HasType [] (longer terms s (Var x i T))) (sym (typ_instance-identity T)) (typed x i T);
      };
      fixed = λ x T. ap (Free x) (sym (typ_instance-identity T));
    }

    same : (v : Term) → IsVariable v → HaveOneLongForm (terms v) (longer terms s v)
    same (Free x T) is = let long = typed_term_has_long_form (Free x T) T refl in (long.0, subst (λ t. HasLongForm t long.0) (sym (fixed-stays terms s x T)) long.1, long.1)
    same (Var x i T) is = (longer terms s (Var x i T), image x i T, long_form_of_normal (longer terms s (Var x i T)) (longer terms s (Var x i T)) (own x i T))
    same (Const c T) is = absurd is
    same (Bound p) is = absurd is
    same (Abs T b) is = absurd is
    same (App f a) is = absurd is

pub each_map_has_a_long_map : EachMapHasALongMap
each_map_has_a_long_map terms s = let map = longer-map terms s in (map.0, record { substitution = map.1; images = λ x i T. inr (map.2 x i T) }, map.3)
