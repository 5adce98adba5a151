-- Settings as they are held, and the settings that they are.
use Rattle.std.proofs.Common.{◌≡◌, ℕ, List, [], ◌∷◌, ◌++◌, map, Bool, true, false, cond, inl, inr, refl, ap, sym, subst, ◌∙◌}
use Rattle.pure_text.specs.Lists.{IsIn, Each, EachTwo}
use Rattle.pure_definitions.specs.Types.Typ.{Typ, TFree, TVar, Con, typ_eq}
use Rattle.pure_definitions.specs.Terms.Term.{Term}
use Rattle.pure_definitions.specs.Models.Equality.{typ_eq-same, typ_eq-itself}
use Rattle.pure_definitions.specs.Terms.Subst.{TypBind, IsTypMap, typ_variable, typ_image, typ_instance, inst_typ, inst_term, term_image}
use Rattle.pure_term_laws.proofs.OccursLaws.{typ_instances-agree}
use Rattle.pure_term_laws.proofs.SubstLaws.{typ_instance-identity}
use Rattle.pure_tunify.specs.Settings.{composed}
use Rattle.pure_tunify.specs.Working.{IsWritten}
use Rattle.pure_tunify.proofs.SettingLaws.{instance-append, composed-absent}
use Rattle.pure_unify_definitions.specs.Node as node
use Rattle.pure_unify_definitions.specs.Node.{Typs, Single, bind, with_setting, typ_settings, typ_after, term_after, written_typs, resolved}
use Rattle.pure_unify_steps.specs.declared.node.Setting.{Setting}
use Rattle.pure_unify_steps.specs.declared.node.Setting.TheVariants.{OfTyps, OfTerm}
use Rattle.pure_unify_steps.specs.Held.{IsSetting}
use Rattle.pure_unify_steps.proofs.PutLaws.{written_agrees, written_same}
use Rattle.pure_unify.specs.Later.{typ_later, term_later, typ_entry, term_entry, typ_entries, term_entries, IsSingle, IsDistinct}
use Rattle.pure_unify.proofs.ListLaws.{map-same}

-- A map that is written out in order is the list of the entries as they are written out.
variable-name : {x y i j : ℕ} {s r : List ℕ} → TVar x i s ≡ TVar y j r → x ≡ y
variable-name {x = x} e = ap name e
  where
    name : Typ → ℕ
    name (TVar z k q) = z
    name (TFree z q) = x
    name (Con z ts) = x

variable-index : {x y i j : ℕ} {s r : List ℕ} → TVar x i s ≡ TVar y j r → i ≡ j
variable-index {i = i} e = ap index e
  where
    index : Typ → ℕ
    index (TVar z k q) = k
    index (TFree z q) = i
    index (Con z ts) = i

variable-sort : {x y i j : ℕ} {s r : List ℕ} → TVar x i s ≡ TVar y j r → s ≡ r
variable-sort {s = s} e = ap sort e
  where
    sort : Typ → List ℕ
    sort (TVar z k q) = q
    sort (TFree z q) = s
    sort (Con z ts) = s

cons-head : {x y : Typ} {xs ys : List Typ} → x ∷ xs ≡ y ∷ ys → x ≡ y
cons-head {x = x} e = ap first e
  where
    first : List Typ → Typ
    first [] = x
    first (z ∷ zs) = z

cons-tail : {x y : Typ} {xs ys : List Typ} → x ∷ xs ≡ y ∷ ys → xs ≡ ys
cons-tail e = ap rest e
  where
    rest : List Typ → List Typ
    rest [] = []
    rest (z ∷ zs) = zs

own-image : (c : TypBind) (cs : List TypBind) → typ_image (c ∷ cs) (typ_variable c) ≡ c.image
own-image c cs = ap (λ b. cond b c.image (typ_image cs (typ_variable c))) (typ_eq-itself (typ_variable c))

absent-image : (cs : List TypBind) (v : Typ) → (¬ IsIn v (map typ_variable cs)) → typ_image cs v ≡ v
absent-image [] v h = refl
absent-image (c ∷ cs) v h = by (typ_eq (typ_variable c) v) refl (absent-image cs v (λ m. h (inr m)))
  where
    by : (b : Bool) → typ_eq (typ_variable c) v ≡ b → typ_image cs v ≡ v → cond b c.image (typ_image cs v) ≡ v
    by true e rest = absurd (h (inl (sym (typ_eq-same (typ_variable c) v e))))
    by false e rest = rest

tail-written : (b c : TypBind) (bs cs : List TypBind) → typ_variable c ≡ typ_variable b → map typ_variable cs ≡ map typ_variable bs → (¬ IsIn (typ_variable c) (map typ_variable cs)) → IsWritten (b ∷ bs) (c ∷ cs) → IsWritten bs cs
tail-written b c bs cs same keys absent h x i s = by (typ_eq (typ_variable c) (TVar x i s)) refl
  where
    by : (t : Bool) → typ_eq (typ_variable c) (TVar x i s) ≡ t → typ_image cs (TVar x i s) ≡ composed bs (TVar x i s)
    by true e =
        let is : typ_variable c ≡ TVar x i s = typ_eq-same (typ_variable c) (TVar x i s) e in
        let out : ¬ IsIn (TVar x i s) (map typ_variable cs) = subst (λ (v : Typ). ¬ IsIn v (map typ_variable cs)) is absent in
        let out_there : ¬ IsIn (TVar x i s) (map typ_variable bs) = subst (λ (vs : List Typ). ¬ IsIn (TVar x i s) vs) keys out in
        absent-image cs (TVar x i s) out ∙ sym (composed-absent bs (TVar x i s) tt out_there)
    by false e =
        let left : typ_image (c ∷ cs) (TVar x i s) ≡ typ_image cs (TVar x i s) = ap (λ t. cond t c.image (typ_image cs (TVar x i s))) e in
        let e_there : typ_eq (typ_variable b) (TVar x i s) ≡ false = ap (λ (v : Typ). typ_eq v (TVar x i s)) (sym same) ∙ e in
        let right : composed (b ∷ bs) (TVar x i s) ≡ composed bs (TVar x i s) = ap (λ t. typ_instance (composed bs) (cond t b.image (TVar x i s))) e_there in
        sym left ∙ (h x i s ∙ right)

written_is : (sets binds : List TypBind) → IsTypMap binds → map typ_variable binds ≡ map typ_variable sets → IsWritten sets binds → binds ≡ written_typs sets
written_is [] [] distinct keys h = refl
written_is [] (c ∷ cs) distinct keys h = absurd (none keys)
  where
    none : typ_variable c ∷ map typ_variable cs ≡ [] → ⊥
    none e = cc
written_is (b ∷ bs) [] distinct keys h = absurd (none keys)
  where
    none : [] ≡ typ_variable b ∷ map typ_variable bs → ⊥
    none e = cc
written_is (b ∷ bs) (c ∷ cs) distinct keys h =
    let same : typ_variable c ≡ typ_variable b = cons-head keys in
    let rest : map typ_variable cs ≡ map typ_variable bs = cons-tail keys in
    let name = variable-name same in
    let index = variable-index same in
    let sort = variable-sort same in
    let set : composed (b ∷ bs) (typ_variable b) ≡ typ_instance (composed bs) b.image = ap (typ_instance (composed bs)) (own-image b []) in
    let image : c.image ≡ typ_instance (composed bs) b.image =
    sym (own-image c cs) ∙ (h c.name c.index c.sort ∙ (ap (composed (b ∷ bs)) same ∙ set)) in
    let later = written_is bs cs distinct.1 rest (tail-written b c bs cs same rest distinct.0 h) in
    λ l. record { name = name l; index = index l; sort = sort l; image = image l } ∷ later l

-- The entries of settings one after the other.
under : List TypBind → TypBind → TypBind
under ys b = record b { image = typ_instance (composed ys) b.image }

written-append : (xs ys : List TypBind) → written_typs (xs ++ ys) ≡ map (under ys) (written_typs xs) ++ written_typs ys
unfolding under
written-append [] ys = refl
written-append (b ∷ bs) ys =
    let first : record b { image = typ_instance (composed (bs ++ ys)) b.image } ≡ under ys (record b { image = typ_instance (composed bs) b.image }) = λ l. record b { image = instance-append bs ys b.image l } in
    λ l. first l ∷ written-append bs ys l

entry-under : (hs : List Setting) (ys : List TypBind) → ((T : Typ) → typ_later hs T ≡ typ_instance (composed ys) T) → (b : TypBind) → typ_entry hs b ≡ under ys b
unfolding under
entry-under hs ys same b = λ l. record b { image = same b.image l }

-- What the held settings make of types and terms.
pub later_typ : (hs : List Setting) (ss : List node.Setting) → EachTwo IsSetting hs ss → (T : Typ) → typ_later hs T ≡ typ_after ss T
later_typ [] [] h T = sym (typ_instance-identity T)
later_typ [] (s ∷ ss) h T = absurd h
later_typ (OfTyps binds ∷ hs) (Typs sets ∷ ss) h T =
    ap (typ_later hs) (typ_instances-agree (typ_image binds) (composed sets) T (λ v is o. written_agrees sets binds h.0.0 v is))
    ∙ (later_typ hs ss h.1 (typ_instance (composed sets) T) ∙ sym (instance-append sets (typ_settings ss) T))
later_typ (OfTerm binds ∷ hs) (Single b ∷ ss) h T = later_typ hs ss h.1 T
later_typ (OfTyps binds ∷ hs) (Single b ∷ ss) h T = absurd h.0
later_typ (OfTerm binds ∷ hs) (Typs sets ∷ ss) h T = absurd h.0
later_typ (OfTyps binds ∷ hs) [] h T = absurd h
later_typ (OfTerm binds ∷ hs) [] h T = absurd h

pub later_term : (hs : List Setting) (ss : List node.Setting) → EachTwo IsSetting hs ss → (t : Term) → term_later hs t ≡ term_after ss t
later_term [] [] h t = refl
later_term [] (s ∷ ss) h t = absurd h
later_term (OfTyps binds ∷ hs) (Typs sets ∷ ss) h t = ap (term_later hs) (written_same sets binds h.0.0 t) ∙ later_term hs ss h.1 (inst_typ (composed sets) t)
later_term (OfTerm binds ∷ hs) (Single b ∷ ss) h t = ap (λ bs. term_later hs (inst_term (term_image bs) t)) h.0 ∙ later_term hs ss h.1 (inst_term (term_image (b ∷ [])) t)
later_term (OfTyps binds ∷ hs) (Single b ∷ ss) h t = absurd h.0
later_term (OfTerm binds ∷ hs) (Typs sets ∷ ss) h t = absurd h.0
later_term (OfTyps binds ∷ hs) [] h t = absurd h
later_term (OfTerm binds ∷ hs) [] h t = absurd h

-- The entries are those of the unifier.
pub entries_terms : (hs : List Setting) (ss : List node.Setting) → EachTwo IsSetting hs ss → term_entries hs ≡ resolved ss
entries_terms [] [] h = refl
entries_terms [] (s ∷ ss) h = absurd h
entries_terms (OfTyps binds ∷ hs) (Typs sets ∷ ss) h = entries_terms hs ss h.1
entries_terms (OfTerm binds ∷ hs) (Single b ∷ ss) h =
    ap (λ bs. map (term_entry hs) bs ++ term_entries hs) h.0
    ∙ (λ l. bind b.name b.index (later_typ hs ss h.1 b.typ l) (later_term hs ss h.1 b.image l) ∷ entries_terms hs ss h.1 l)
entries_terms (OfTyps binds ∷ hs) (Single b ∷ ss) h = absurd h.0
entries_terms (OfTerm binds ∷ hs) (Typs sets ∷ ss) h = absurd h.0
entries_terms (OfTyps binds ∷ hs) [] h = absurd h
entries_terms (OfTerm binds ∷ hs) [] h = absurd h

pub entries_typs : (hs : List Setting) (ss : List node.Setting) → EachTwo IsSetting hs ss → Each IsDistinct hs → typ_entries hs ≡ written_typs (typ_settings ss)
entries_typs [] [] h d = refl
entries_typs [] (s ∷ ss) h d = absurd h
entries_typs (OfTyps binds ∷ hs) (Typs sets ∷ ss) h d =
    let own : binds ≡ written_typs sets = written_is sets binds d.0 h.0.1 h.0.0 in
    (λ l. map (typ_entry hs) (own l) ++ entries_typs hs ss h.1 d.1 l)
    ∙ (ap (λ bs. bs ++ written_typs (typ_settings ss)) (map-same (typ_entry hs) (under (typ_settings ss)) (entry-under hs (typ_settings ss) (later_typ hs ss h.1)) (written_typs sets))
    ∙ sym (written-append sets (typ_settings ss)))
entries_typs (OfTerm binds ∷ hs) (Single b ∷ ss) h d = entries_typs hs ss h.1 d.1
entries_typs (OfTyps binds ∷ hs) (Single b ∷ ss) h d = absurd h.0
entries_typs (OfTerm binds ∷ hs) (Typs sets ∷ ss) h d = absurd h.0
entries_typs (OfTyps binds ∷ hs) [] h d = absurd h
entries_typs (OfTerm binds ∷ hs) [] h d = absurd h

-- Settings of schematic variables set one.
pub held_singles : (hs : List Setting) (ss : List node.Setting) → EachTwo IsSetting hs ss → Each IsSingle hs
held_singles [] [] h = tt
held_singles [] (s ∷ ss) h = absurd h
held_singles (OfTyps binds ∷ hs) (Typs sets ∷ ss) h = (tt, held_singles hs ss h.1)
held_singles (OfTerm binds ∷ hs) (Single b ∷ ss) h = ((b, h.0), held_singles hs ss h.1)
held_singles (OfTyps binds ∷ hs) (Single b ∷ ss) h = absurd h.0
held_singles (OfTerm binds ∷ hs) (Typs sets ∷ ss) h = absurd h.0
held_singles (OfTyps binds ∷ hs) [] h = absurd h
held_singles (OfTerm binds ∷ hs) [] h = absurd h
