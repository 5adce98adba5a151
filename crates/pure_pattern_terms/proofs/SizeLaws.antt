-- What is put in for a variable's application: how large it is, and that small numbers are enough.
use Rattle.std.proofs.Common.{◌≡◌, ℕ, ◌+◌, ◌<◌, ◌≤◌, List, [], ◌∷◌, Bool, true, false, ap, refl, sym, subst, ◌∙◌, arith, nat_lt, if◌then◌else◌}
use Rattle.std.specs.Prelude.{◌-◌}
use Rattle.pure_text.proofs.ListLaws.{each_imply}
use Rattle.pure_definitions.specs.Types.Typ.{Typ}
use Rattle.pure_definitions.specs.Terms.Term.{Term, Const, Free, Var, Bound, Abs, App, term_size, term_depth, term_eq}
use Rattle.pure_definitions.specs.Terms.Subst.{TermBind, term_variable, term_image}
use Rattle.pure_definitions.specs.Terms.Measures.{term_index_above}
use Rattle.pure_definitions.specs.Models.Equality.{term_eq-same}
use Rattle.pure_definitions.specs.Reduction.Eta.{abstraction_count}
use Rattle.pure_unify_definitions.specs.Fronts.{front, term_body, is_schematic}
use Rattle.pure_pattern_laws.specs.Putting.{place_in, renamed, put_application, put_in}
use Rattle.pure_pattern_terms.specs.Room.{HaveRoom}
use Rattle.pure_pattern_terms.specs.Images.{IsLowTerm, AreShallow, AreFrom, application_places, IsImageBody, StaysApplied}
use Rattle.pure_pattern_terms.proofs.LowLaws.{places-back-low}

-- Renaming keeps size and depth.
chosen-size : (b : Bool) (p q : ℕ) → term_size (if b then Bound p else Bound q) ≡ 1
chosen-size true p q = refl
chosen-size false p q = refl

chosen-depth : (b : Bool) (p q : ℕ) → term_depth (if b then Bound p else Bound q) ≡ 1
chosen-depth true p q = refl
chosen-depth false p q = refl

pub renamed_size : (n : ℕ) (ws : List ℕ) (t : Term) → term_size (renamed n ws t) ≡ term_size t
renamed_size n ws (Const c T) = refl
renamed_size n ws (Free x T) = refl
renamed_size n ws (Var x i T) = refl
renamed_size n ws (Bound p) = chosen-size (nat_lt p n) p (n + place_in ws (p - n))
renamed_size n ws (Abs T b) = (let rest = renamed_size (n + 1) ws b in omega arith)
renamed_size n ws (App f a) = (let one = renamed_size n ws f in let other = renamed_size n ws a in omega arith)

pub renamed_depth : (n : ℕ) (ws : List ℕ) (t : Term) → term_depth (renamed n ws t) ≡ term_depth t
renamed_depth n ws (Const c T) = refl
renamed_depth n ws (Free x T) = refl
renamed_depth n ws (Var x i T) = refl
renamed_depth n ws (Bound p) = chosen-depth (nat_lt p n) p (n + place_in ws (p - n))
renamed_depth n ws (Abs T b) = (let rest = renamed_depth (n + 1) ws b in omega arith)
renamed_depth n ws (App f a) = (let one = renamed_depth n ws f in let other = renamed_depth n ws a in omega arith)

-- What is put in for an application.
pub put-body : (image body t : Term) → IsImageBody image body → put_application image t ≡ renamed 0 (application_places t) body
put-body (Abs T b) body t h = ap (renamed 0 (application_places t)) (sym h.1)
put-body (Const c T) body t h = absurd h.0
put-body (Free x T) body t h = absurd h.0
put-body (Var x i T) body t h = absurd h.0
put-body (Bound p) body t h = absurd h.0
put-body (App f a) body t h = absurd h.0

pub put-stays : (image t : Term) → StaysApplied image → put_application image t ≡ t
put-stays (Abs T b) t h = absurd (h tt)
put-stays (Const c T) t h = refl
put-stays (Free x T) t h = refl
put-stays (Var x i T) t h = refl
put-stays (Bound p) t h = refl
put-stays (App f a) t h = refl

pub put-flexible : (terms : Term → Term) (t f a : Term) → t ≡ App f a → is_schematic (front f) ≡ true → put_in terms t ≡ put_application (terms (front t)) t
put-flexible terms t f a e k = subst (λ u. put_in terms u ≡ put_application (terms (front u)) u) (sym e) (rw k refl)

pub put-rigid : (terms : Term → Term) (t f a : Term) → t ≡ App f a → is_schematic (front f) ≡ false → put_in terms t ≡ App (put_in terms f) (put_in terms a)
put-rigid terms t f a e k = subst (λ u. put_in terms u ≡ App (put_in terms f) (put_in terms a)) (sym e) (rw k refl)

-- A term whose indexes are below those of the variables that are replaced stays.
index-same : (b : TermBind) (x i : ℕ) (T : Typ) → term_variable b ≡ Var x i T → b.index ≡ i
index-same b x i T e = cc

low-image : (from : ℕ) (binds : List TermBind) (x i : ℕ) (T : Typ) → AreFrom from binds → i < from → term_image binds (Var x i T) ≡ Var x i T
low-image from [] x i T h k = refl
low-image from (b ∷ bs) x i T h k = decided (term_eq (term_variable b) (Var x i T)) refl (low-image from bs x i T h.1 k)
  where
    decided : (test : Bool) → term_eq (term_variable b) (Var x i T) ≡ test → term_image bs (Var x i T) ≡ Var x i T → (if test then b.image else term_image bs (Var x i T)) ≡ Var x i T
    decided true e rest = (let same = index-same b x i T (term_eq-same (term_variable b) (Var x i T) e) in let least = h.0 in absurd (omega arith))
    decided false e rest = rest

front-image : (from : ℕ) (binds : List TermBind) (t : Term) → AreFrom from binds → is_schematic (front t) ≡ true → term_index_above t ≤ from → StaysApplied (term_image binds (front t))
front-image from binds (Const c T) h e k = absurd (cc)
front-image from binds (Free x T) h e k = absurd (cc)
front-image from binds (Var x i T) h e k = subst StaysApplied (sym (low-image from binds x i T h (omega arith))) (λ is. is)
front-image from binds (Bound p) h e k = absurd (cc)
front-image from binds (Abs T b) h e k = absurd (cc)
front-image from binds (App f a) h e k = front-image from binds f h e (omega arith)

pub low_put : (from : ℕ) (binds : List TermBind) (t : Term) → AreFrom from binds → term_index_above t ≤ from → put_in (term_image binds) t ≡ t
low_put from binds (Const c T) h k = refl
low_put from binds (Free x T) h k = refl
low_put from binds (Var x i T) h k = low-image from binds x i T h (omega arith)
low_put from binds (Bound p) h k = refl
low_put from binds (Abs T b) h k = ap (Abs T) (low_put from binds b h (omega arith))
low_put from binds (App f a) h k = decided (is_schematic (front f)) refl (λ l. App (low_put from binds f h (omega arith) l) (low_put from binds a h (omega arith) l))
  where
    decided : (test : Bool) → is_schematic (front f) ≡ test → App (put_in (term_image binds) f) (put_in (term_image binds) a) ≡ App f a → put_in (term_image binds) (App f a) ≡ App f a
    decided true e same = put-flexible (term_image binds) (App f a) f a refl e ∙ put-stays (term_image binds (front f)) (App f a) (front-image from binds f h e (omega arith))
    decided false e same = put-rigid (term_image binds) (App f a) f a refl e ∙ same

-- Images are of small depth.
pub shallow-image : (binds : List TermBind) (v : Term) → AreShallow binds → term_depth v < 2147483648 → term_depth (term_image binds v) < 2147483648
shallow-image [] v h k = k
shallow-image (b ∷ bs) v h k = either (term_eq (term_variable b) v) (shallow-image bs v h.1 k)
  where
    either : (test : Bool) → term_depth (term_image bs v) < 2147483648 → term_depth (if test then b.image else term_image bs v) < 2147483648
    either true rest = h.0
    either false rest = rest

front-depth : (t : Term) → term_depth (front t) ≤ term_depth t
front-depth (Const c T) = omega arith
front-depth (Free x T) = omega arith
front-depth (Var x i T) = omega arith
front-depth (Bound p) = omega arith
front-depth (Abs T b) = omega arith
front-depth (App f a) = (let rest = front-depth f in omega arith)

body-depth : (t : Term) → term_depth (term_body t) ≤ term_depth t
body-depth (Const c T) = omega arith
body-depth (Free x T) = omega arith
body-depth (Var x i T) = omega arith
body-depth (Bound p) = omega arith
body-depth (Abs T b) = (let rest = body-depth b in omega arith)
body-depth (App f a) = omega arith

pub shallow-body : (binds : List TermBind) (t body : Term) → AreShallow binds → IsLowTerm t → IsImageBody (term_image binds (front t)) body → term_depth body < 2147483648
shallow-body binds t body h low e =
    let fronts = front-depth t in
    let image = shallow-image binds (front t) h (omega arith) in
    let bodies = body-depth (term_image binds (front t)) in
    subst (λ u. term_depth u < 2147483648) (sym e.1) (omega arith)

-- The places of an application can be put into a body.
pub body-fits : (t body : Term) → IsLowTerm t → term_depth body < 2147483648 → HaveRoom (0 + term_depth body) (application_places t)
body-fits t body low h = record { small = omega arith; each = each_imply (λ w. w < 2147483648) (λ w. w + (0 + term_depth body) < 4294967296) (application_places t) (λ w k. omega arith) (places-back-low 2147483648 t low) }

-- Parts of such a term are such.
pub low-body : (t b : Term) (T : Typ) → t ≡ Abs T b → IsLowTerm t → IsLowTerm b
low-body t b T e h = (let whole = subst IsLowTerm e h in omega arith)

pub low-parts : (t f a : Term) → t ≡ App f a → IsLowTerm t → IsLowTerm f × IsLowTerm a
low-parts t f a e h = (let whole = subst IsLowTerm e h in (omega arith, omega arith))

-- How many abstractions there are is a number of the program.
count-low : (t : Term) → abstraction_count t < term_depth t
count-low (Const c T) = omega arith
count-low (Free x T) = omega arith
count-low (Var x i T) = omega arith
count-low (Bound p) = omega arith
count-low (Abs T b) = (let rest = count-low b in omega arith)
count-low (App f a) = omega arith

pub count-fits : (t b : Term) (T : Typ) → t ≡ Abs T b → term_depth t < 4294967296 → 1 + abstraction_count b < 4294967296
count-fits t b T e h = (let whole = subst (λ u. term_depth u < 4294967296) e h in let low = count-low b in omega arith)
