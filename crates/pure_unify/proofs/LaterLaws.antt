-- Terms under later settings, part by part.
use Rattle.std.proofs.Common.{◌≡◌, ℕ, zero, suc, ◌+◌, ◌-◌, ◌<◌, ◌≤◌, List, [], ◌∷◌, ◌++◌, map, length, get_or, take, drop, reverse, Bool, true, false, refl, ap, sym, subst, ◌∙◌, arith, append_assoc}
use Rattle.std.specs.Prelude.{if◌then◌else◌}
use Rattle.std.proofs.lemmas.List.{length-reverse, length-append, take_all, get_or-reverse}
use Rattle.pure_text.specs.Lists.{Each}
use Rattle.pure_definitions.specs.Types.Typ.{Typ}
use Rattle.pure_definitions.specs.Terms.Term.{Term, Const, Free, Var, Bound, Abs, App, term_eq}
use Rattle.pure_definitions.specs.Models.Equality.{term_eq-itself, term_eq-same}
use Rattle.pure_definitions.specs.Terms.Subst.{TypBind, TermBind, term_variable, typ_image, term_image, typ_instance, inst_typ, inst_term}
use Rattle.pure_definitions.specs.Terms.Measures.{term_index_above}
use Rattle.pure_definitions.proofs.InstanceLemmas.{term_image-fixed}
use Rattle.pure_term.proofs.StaysLemmas.{inst_typ_stays, inst_term_stays}
use Rattle.pure_unify_steps.specs.declared.node.Setting.{Setting}
use Rattle.pure_unify_steps.specs.declared.node.Setting.TheVariants.{OfTyps, OfTerm}
use Rattle.pure_unify_steps.proofs.GatherLaws.{drop_here, drop_all}
use Rattle.pure_unify.specs.Later.{typ_later, term_later, term_entry, term_entries, IsSingle}
use Rattle.pure_unify.proofs.ListLaws.{take_one, each_get}

pub later-const : (hs : List Setting) (c : ℕ) (T : Typ) → term_later hs (Const c T) ≡ Const c (typ_later hs T)
later-const [] c T = refl
later-const (OfTyps binds ∷ rest) c T = later-const rest c (typ_instance (typ_image binds) T)
later-const (OfTerm binds ∷ rest) c T = later-const rest c T

pub later-free : (hs : List Setting) (x : ℕ) (T : Typ) → term_later hs (Free x T) ≡ Free x (typ_later hs T)
later-free [] x T = refl
later-free (OfTyps binds ∷ rest) x T = later-free rest x (typ_instance (typ_image binds) T)
later-free (OfTerm binds ∷ rest) x T = ap (term_later rest) (term_image-fixed binds x T) ∙ later-free rest x T

pub later-bound : (hs : List Setting) (n : ℕ) → term_later hs (Bound n) ≡ Bound n
later-bound [] n = refl
later-bound (OfTyps binds ∷ rest) n = later-bound rest n
later-bound (OfTerm binds ∷ rest) n = later-bound rest n

pub later-abs : (hs : List Setting) (T : Typ) (b : Term) → term_later hs (Abs T b) ≡ Abs (typ_later hs T) (term_later hs b)
later-abs [] T b = refl
later-abs (OfTyps binds ∷ rest) T b = later-abs rest (typ_instance (typ_image binds) T) (inst_typ (typ_image binds) b)
later-abs (OfTerm binds ∷ rest) T b = later-abs rest T (inst_term (term_image binds) b)

pub later-app : (hs : List Setting) (f a : Term) → term_later hs (App f a) ≡ App (term_later hs f) (term_later hs a)
later-app [] f a = refl
later-app (OfTyps binds ∷ rest) f a = later-app rest (inst_typ (typ_image binds) f) (inst_typ (typ_image binds) a)
later-app (OfTerm binds ∷ rest) f a = later-app rest (inst_term (term_image binds) f) (inst_term (term_image binds) a)

-- A term without schematic variables stays under settings.
pub later-stays : (hs : List Setting) (t : Term) → term_index_above t ≡ 0 → term_later hs t ≡ t
later-stays [] t e = refl
later-stays (OfTyps binds ∷ rest) t e = ap (term_later rest) (inst_typ_stays binds t e) ∙ later-stays rest t e
later-stays (OfTerm binds ∷ rest) t e = ap (term_later rest) (inst_term_stays binds t e) ∙ later-stays rest t e

-- A variable along the settings, as far as a loop has come: it isn't replaced yet, and so many entries are those of the settings still to come.
pub record IsKept (hs : List Setting) (x i : ℕ) (T : Typ) (at left : ℕ) : Type 0 where
  pub same : term_later hs (Var x i T) ≡ term_later (drop at hs) (Var x i (typ_later (take at hs) T))
  pub count : left ≡ length (term_entries (drop at hs))

pub kept_start : (hs : List Setting) (x i : ℕ) (T : Typ) (entries : List TermBind) → entries ≡ reverse (term_entries hs) → IsKept hs x i T 0 (length entries)
kept_start [] x i T entries e = record { same = refl; count = ap length e }
kept_start (h ∷ hs) x i T entries e = record { same = refl; count = ap length e ∙ length-reverse (term_entries (h ∷ hs)) }

pub typ_later-append : (xs ys : List Setting) (T : Typ) → typ_later (xs ++ ys) T ≡ typ_later ys (typ_later xs T)
typ_later-append [] ys T = refl
typ_later-append (OfTyps binds ∷ xs) ys T = typ_later-append xs ys (typ_instance (typ_image binds) T)
typ_later-append (OfTerm binds ∷ xs) ys T = typ_later-append xs ys T

-- A setting of type variables is passed.
pub kept_typs : (hs : List Setting) (x i : ℕ) (T : Typ) (at left : ℕ) (s : Setting) (binds : List TypBind) → IsKept hs x i T at left → at < length hs → s ≡ get_or hs at s → s ≡ OfTyps binds → IsKept hs x i T (at + 1) left
kept_typs hs x i T at left s binds h within is e =
    let here : drop at hs ≡ OfTyps binds ∷ drop (at + 1) hs = drop_here hs at s within is ∙ ap (λ u. u ∷ drop (at + 1) hs) e in
    let typ : typ_later (take (at + 1) hs) T ≡ typ_instance (typ_image binds) (typ_later (take at hs) T) =
    ap (λ ks. typ_later ks T) (take_one hs at s within is ∙ ap (λ u. take at hs ++ u ∷ []) e) ∙ typ_later-append (take at hs) (OfTyps binds ∷ []) T in
    record {
      same = h.same ∙ (ap (λ ks. term_later ks (Var x i (typ_later (take at hs) T))) here ∙ ap (λ U. term_later (drop (at + 1) hs) (Var x i U)) (sym typ));
      count = h.count ∙ ap (λ ks. length (term_entries ks)) here;
    }

-- What a setting of one schematic variable makes of another.
other-stays : (b : TermBind) (v : Term) (t : Bool) → term_eq (term_variable b) v ≡ t → ¬ (v ≡ term_variable b) → (if t then b.image else v) ≡ v
other-stays b v true e n = absurd (n (sym (term_eq-same (term_variable b) v e)))
other-stays b v false e n = refl

own-becomes : (b : TermBind) (v : Term) → v ≡ term_variable b → term_image (b ∷ []) v ≡ b.image
own-becomes b v e = ap (term_image (b ∷ [])) e ∙ ap (λ t. if t then b.image else term_variable b) (term_eq-itself (term_variable b))

single-later : (binds : List TermBind) (b : TermBind) → binds ≡ b ∷ [] → (rest : List Setting) → term_entries (OfTerm binds ∷ rest) ≡ term_entry rest b ∷ term_entries rest
single-later binds b e rest = ap (λ bs. map (term_entry rest) bs ++ term_entries rest) e

-- One of schematic variables is passed, where it sets another.
pub kept_term : (hs : List Setting) (x i : ℕ) (T : Typ) (at left less : ℕ) (s : Setting) (binds : List TermBind) (b : TermBind) → IsKept hs x i T at left → at < length hs → s ≡ get_or hs at s → s ≡ OfTerm binds
    → binds ≡ b ∷ [] → ¬ (Var x i (typ_later (take at hs) T) ≡ term_variable b) → less ≡ left - 1 → IsKept hs x i T (at + 1) less
kept_term hs x i T at left less s binds b h within is e single n down =
    let here : drop at hs ≡ OfTerm (b ∷ []) ∷ drop (at + 1) hs = drop_here hs at s within is ∙ ap (λ u. u ∷ drop (at + 1) hs) (e ∙ ap OfTerm single) in
    let typ : typ_later (take (at + 1) hs) T ≡ typ_later (take at hs) T =
    ap (λ ks. typ_later ks T) (take_one hs at s within is ∙ ap (λ u. take at hs ++ u ∷ []) e) ∙ typ_later-append (take at hs) (OfTerm binds ∷ []) T in
    let stays = other-stays b (Var x i (typ_later (take at hs) T)) (term_eq (term_variable b) (Var x i (typ_later (take at hs) T))) refl n in
    let more : left ≡ suc (length (term_entries (drop (at + 1) hs))) = h.count ∙ ap (λ ks. length (term_entries ks)) here in
    record {
      same = h.same ∙ (ap (λ ks. term_later ks (Var x i (typ_later (take at hs) T))) here ∙ (ap (term_later (drop (at + 1) hs)) stays ∙ ap (λ U. term_later (drop (at + 1) hs) (Var x i U)) (sym typ)));
      count = omega arith;
    }

-- The entries of the first settings stand before those of the rest.
entries-front : (hs : List Setting) (at : ℕ) → (front : List TermBind) × (term_entries hs ≡ front ++ term_entries (drop at hs))
entries-front [] zero = ([], refl)
entries-front [] (suc at) = ([], refl)
entries-front (h ∷ hs) zero = ([], refl)
entries-front (OfTyps binds ∷ hs) (suc at) = entries-front hs at
entries-front (OfTerm binds ∷ hs) (suc at) = let rest = entries-front hs at in (map (term_entry hs) binds ++ rest.0, ap (λ bs. map (term_entry hs) binds ++ bs) rest.1 ∙ sym (append_assoc (map (term_entry hs) binds) rest.0 (term_entries (drop at hs))))

get-behind : {A : Type 0} (front rest : List A) (e d : A) → get_or (front ++ e ∷ rest) (length front) d ≡ e
get-behind [] rest e d = refl
get-behind (x ∷ front) rest e d = get-behind front rest e d

get-reversed : {A : Type 0} (front rest : List A) (e d : A) (n : ℕ) → n ≡ length rest → get_or (reverse (front ++ e ∷ rest)) n d ≡ e
get-reversed front rest e d n h =
    let size : length (front ++ e ∷ rest) ≡ length front + suc (length rest) = length-append front (e ∷ rest) in
    let place : length (front ++ e ∷ rest) - 1 - n ≡ length front = omega arith in
    get_or-reverse (front ++ e ∷ rest) n d (omega arith) ∙ (ap (λ m. get_or (front ++ e ∷ rest) m d) place ∙ get-behind front rest e d)

-- Where a setting sets the variable, the entry is found at its place.
pub kept_found : (hs : List Setting) (x i : ℕ) (T : Typ) (at left less : ℕ) (s : Setting) (binds : List TermBind) (b r : TermBind) (entries : List TermBind) → IsKept hs x i T at left → at < length hs → s ≡ get_or hs at s → s ≡ OfTerm binds
    → binds ≡ b ∷ [] → Var x i (typ_later (take at hs) T) ≡ term_variable b → less ≡ left - 1 → entries ≡ reverse (term_entries hs) → r ≡ get_or entries less r → term_later hs (Var x i T) ≡ r.image
kept_found hs x i T at left less s binds b r entries h within is e single same down all read =
    let here : drop at hs ≡ OfTerm (b ∷ []) ∷ drop (at + 1) hs = drop_here hs at s within is ∙ ap (λ u. u ∷ drop (at + 1) hs) (e ∙ ap OfTerm single) in
    let rest = drop (at + 1) hs in
    let more : left ≡ suc (length (term_entries rest)) = h.count ∙ ap (λ ks. length (term_entries ks)) here in
    let front = entries-front hs at in
    let stand : entries ≡ reverse (front.0 ++ term_entry rest b ∷ term_entries rest) = all ∙ ap reverse (front.1 ∙ ap (λ ks. front.0 ++ term_entries ks) here) in
    let found : r ≡ term_entry rest b = read ∙ (ap (λ xs. get_or xs less r) stand ∙ get-reversed front.0 (term_entries rest) (term_entry rest b) r less (omega arith)) in
    h.same ∙ (ap (λ ks. term_later ks (Var x i (typ_later (take at hs) T))) here ∙ (ap (term_later rest) (own-becomes b (Var x i (typ_later (take at hs) T)) same) ∙ ap (λ (u : TermBind). u.image) (sym found)))

-- There is an entry left where a setting of a schematic variable is read.
pub kept_some : (hs : List Setting) (x i : ℕ) (T : Typ) (at left : ℕ) (s : Setting) (binds : List TermBind) (b : TermBind) (entries : List TermBind) → IsKept hs x i T at left → at < length hs → s ≡ get_or hs at s → s ≡ OfTerm binds → binds ≡ b ∷ []
    → entries ≡ reverse (term_entries hs) → (0 < left) × (left ≤ length entries)
kept_some hs x i T at left s binds b entries h within is e single all =
    let here : drop at hs ≡ OfTerm (b ∷ []) ∷ drop (at + 1) hs = drop_here hs at s within is ∙ ap (λ u. u ∷ drop (at + 1) hs) (e ∙ ap OfTerm single) in
    let more : left ≡ suc (length (term_entries (drop (at + 1) hs))) = h.count ∙ ap (λ ks. length (term_entries ks)) here in
    let front = entries-front hs at in
    let whole : length entries ≡ length front.0 + length (term_entries (drop at hs)) = ap length all ∙ (length-reverse (term_entries hs) ∙ (ap length front.1 ∙ length-append front.0 (term_entries (drop at hs)))) in
    let count = h.count in
    (omega arith, omega arith)

-- No setting sets the variable.
pub kept_end : (hs : List Setting) (x i : ℕ) (T : Typ) (at left : ℕ) → IsKept hs x i T at left → length hs ≤ at → term_later hs (Var x i T) ≡ Var x i (typ_later hs T)
kept_end hs x i T at left h over = h.same ∙ (λ l. term_later (drop_all hs at over l) (Var x i (typ_later (take_all at hs over l) T)))

-- Terms under the settings, where a type map is what these make of types.
module _ (hs : List Setting) (typs : Typ → Typ) (same : (T : Typ) → typ_later hs T ≡ typ_instance typs T) where
  pub is_const : (t : Term) (c : ℕ) (T : Typ) → t ≡ Const c T → term_later hs t ≡ Const c (typ_instance typs T)
  is_const t c T e = ap (term_later hs) e ∙ (later-const hs c T ∙ ap (Const c) (same T))

  pub is_free : (t : Term) (x : ℕ) (T : Typ) → t ≡ Free x T → term_later hs t ≡ Free x (typ_instance typs T)
  is_free t x T e = ap (term_later hs) e ∙ (later-free hs x T ∙ ap (Free x) (same T))

  pub is_variable : (t : Term) (x i : ℕ) (T : Typ) → t ≡ Var x i T → term_later hs (Var x i T) ≡ Var x i (typ_later hs T) → term_later hs t ≡ Var x i (typ_instance typs T)
  is_variable t x i T e k = ap (term_later hs) e ∙ (k ∙ ap (Var x i) (same T))

  pub is_bound : (t : Term) (n : ℕ) → t ≡ Bound n → term_later hs t ≡ Bound n
  is_bound t n e = ap (term_later hs) e ∙ later-bound hs n

  pub is_abs : (t : Term) (T : Typ) (b : Term) → t ≡ Abs T b → term_later hs t ≡ Abs (typ_instance typs T) (term_later hs b)
  is_abs t T b e = ap (term_later hs) e ∙ (later-abs hs T b ∙ ap (λ U. Abs U (term_later hs b)) (same T))

  pub is_app : (t : Term) (f a : Term) → t ≡ App f a → term_later hs t ≡ App (term_later hs f) (term_later hs a)
  is_app t f a e = ap (term_later hs) e ∙ later-app hs f a

-- The setting that is read sets one variable.
pub single_at : (hs : List Setting) (at : ℕ) (s : Setting) (binds : List TermBind) → Each IsSingle hs → at < length hs → s ≡ get_or hs at s → s ≡ OfTerm binds → (b : TermBind) × (binds ≡ b ∷ [])
single_at hs at s binds singles within is e = subst IsSingle e (each_get IsSingle hs at s singles within is)

pub first_is : (read binds : List TermBind) (r b : TermBind) → read ≡ binds → binds ≡ b ∷ [] → r ≡ get_or read 0 r → r ≡ b
first_is read binds r b e single is = is ∙ ap (λ bs. get_or bs 0 r) (e ∙ single)
