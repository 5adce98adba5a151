-- Types under later settings, from their heads.
use Rattle.std.proofs.Common.{◌≡◌, ℕ, ◌+◌, ◌<◌, ◌≤◌, List, [], ◌∷◌, map, length, get_or, drop, true, false, refl, ap, sym, subst, ◌∙◌, arith, true≢false}
use Rattle.pure_definitions.specs.Types.Typ.{Typ, TFree, TVar, Con, typs_of}
use Rattle.pure_definitions.specs.Terms.Subst.{typ_image, typ_instance}
use Rattle.pure_definitions.proofs.InstanceLemmas.{typ_image-fixed, typs_instance-of}
use Rattle.pure_unify_steps.specs.declared.node.Setting.{Setting}
use Rattle.pure_unify_steps.specs.declared.node.Setting.TheVariants.{OfTyps, OfTerm}
use Rattle.pure_unify_steps.proofs.GatherLaws.{drop_here, drop_all}
use Rattle.pure_unify.specs.Later.{typ_later}
use Rattle.pure_unify.specs.Heads.{is_typ_schematic, typ_put, IsHeadLater}
use Rattle.pure_unify.proofs.ListLaws.{map-map, map-none}

-- A fixed variable stays as it is.
pub typ_later-fixed : (hs : List Setting) (x : ℕ) (s : List ℕ) → typ_later hs (TFree x s) ≡ TFree x s
typ_later-fixed [] x s = refl
typ_later-fixed (OfTyps binds ∷ rest) x s = ap (typ_later rest) (typ_image-fixed binds x s) ∙ typ_later-fixed rest x s
typ_later-fixed (OfTerm binds ∷ rest) x s = typ_later-fixed rest x s

-- A constructor stays, and its arguments come to what they come to.
pub typ_later-con : (hs : List Setting) (k : ℕ) (ts : List Typ) → typ_later hs (Con k (typs_of ts)) ≡ Con k (typs_of (map (typ_later hs) ts))
typ_later-con [] k ts = ap (λ us. Con k (typs_of us)) (sym (map-none (typ_later []) (λ T. refl) ts))
typ_later-con (OfTyps binds ∷ rest) k ts =
    ap (λ us. typ_later rest (Con k us)) (typs_instance-of (typ_image binds) ts)
    ∙ (typ_later-con rest k (map (typ_instance (typ_image binds)) ts) ∙ ap (λ us. Con k (typs_of us)) (map-map (typ_later rest) (typ_instance (typ_image binds)) ts))
typ_later-con (OfTerm binds ∷ rest) k ts = typ_later-con rest k ts

-- A loop that puts one setting after the other into a variable.
pub record IsHeadSoFar (hs : List Setting) (T top : Typ) (i : ℕ) : Type 0 where
  pub few : i ≤ length hs
  pub same : typ_later hs T ≡ typ_later (drop i hs) top

pub head_start : (hs : List Setting) (T : Typ) → IsHeadSoFar hs T T 0
head_start [] T = record { few = omega arith; same = refl }
head_start (h ∷ hs) T = record { few = omega arith; same = refl }

put-schematic : (s : Setting) (rest : List Setting) (top : Typ) → is_typ_schematic top ≡ true → typ_later (s ∷ rest) top ≡ typ_later rest (typ_put s top)
put-schematic (OfTyps binds) rest (TVar x i s) h = refl
put-schematic (OfTyps binds) rest (TFree x s) h = absurd (true≢false (sym h))
put-schematic (OfTyps binds) rest (Con k ts) h = absurd (true≢false (sym h))
put-schematic (OfTerm binds) rest (TVar x i s) h = refl
put-schematic (OfTerm binds) rest (TFree x s) h = absurd (true≢false (sym h))
put-schematic (OfTerm binds) rest (Con k ts) h = absurd (true≢false (sym h))

pub head_turn : (hs : List Setting) (T top next : Typ) (i : ℕ) (s : Setting) → IsHeadSoFar hs T top i → is_typ_schematic top ≡ true → i < length hs → s ≡ get_or hs i s → next ≡ typ_put s top → IsHeadSoFar hs T next (i + 1)
head_turn hs T top next i s h schematic within is e = record {
  few = omega arith;
  same = h.same ∙ (ap (λ rest. typ_later rest top) (drop_here hs i s within is) ∙ (put-schematic s (drop (i + 1) hs) top schematic ∙ ap (typ_later (drop (i + 1) hs)) (sym e)));
}

pub head_stuck : (hs : List Setting) (T top : Typ) (i : ℕ) → IsHeadSoFar hs T top i → is_typ_schematic top ≡ false → IsHeadLater hs T top i
head_stuck hs T top i h stuck = record { few = h.few; same = h.same; stuck = λ e. absurd (true≢false (sym e ∙ stuck)) }

pub head_end : (hs : List Setting) (T top : Typ) (i : ℕ) → IsHeadSoFar hs T top i → length hs ≤ i → IsHeadLater hs T top (length hs)
head_end hs T top i h over =
    let few = h.few in
    let same : i ≡ length hs = omega arith in
    record { few = omega arith; same = subst (λ n. typ_later hs T ≡ typ_later (drop n hs) top) same h.same; stuck = λ e. refl }

-- What the head tells of the type.
pub head_fixed : (hs : List Setting) (T top : Typ) (n x : ℕ) (s : List ℕ) → IsHeadLater hs T top n → top ≡ TFree x s → typ_later hs T ≡ top
head_fixed hs T top n x s h e = h.same ∙ (ap (typ_later (drop n hs)) e ∙ (typ_later-fixed (drop n hs) x s ∙ sym e))

pub head_variable : (hs : List Setting) (T top : Typ) (n : ℕ) → IsHeadLater hs T top n → is_typ_schematic top ≡ true → typ_later hs T ≡ top
head_variable hs T top n h e =
    let over = h.stuck e in
    h.same ∙ ap (λ rest. typ_later rest top) (drop_all hs n (omega arith))

pub head_con : (hs : List Setting) (T top : Typ) (n k : ℕ) (ts : List Typ) → IsHeadLater hs T top n → top ≡ Con k (typs_of ts) → typ_later hs T ≡ Con k (typs_of (map (typ_later (drop n hs)) ts))
head_con hs T top n k ts h e = h.same ∙ (ap (typ_later (drop n hs)) e ∙ typ_later-con (drop n hs) k ts)
