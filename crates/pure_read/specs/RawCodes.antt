-- Codes of trees, as the trees of numbers by which a proof tells two values apart.
use Rattle.std.specs.Prelude.{◌≡◌, ℕ, ◌==◌, List, refl, Option, Some, None, if◌then◌else◌}
use Rattle.std.specs.Coded.{Coded, code_by, coded×, coded_ℕ, coded_list}
use base.Stored.{Gv, gnil, gnum, gcons}
use Rattle.pure_grammar.specs.declared.token.TokenKind.{TokenKind}
use Rattle.pure_grammar.specs.declared.token.TokenKind.TheVariants.{Word, Ident, Qualified, TypeVar, Schem, BoundName, Number, Quote, Symbol, End}
use Rattle.pure_grammar.specs.Terms.RawTree.{RawClassTree, RawTypTree, Var, Con, RawTypTrees, none, also, RawTree, Leaf, Abs, App, Typed}

abbrev pub coded_class : Coded RawClassTree
coded_class = code_by (ℕ × List ℕ) (coded× coded_ℕ (coded_list coded_ℕ)) (λ c. (c.at, c.name)) (λ p. record { at = p.0; name = p.1 }) (λ _. refl)

abbrev pub kind_number : TokenKind → ℕ
kind_number Word = 0
kind_number Ident = 1
kind_number Qualified = 2
kind_number TypeVar = 3
kind_number Schem = 4
kind_number BoundName = 5
kind_number Number = 6
kind_number Quote = 7
kind_number Symbol = 8
kind_number End = 9

abbrev pub numbered_kind : ℕ → TokenKind
numbered_kind n =
    if n == 0 then Word
    else (if n == 1 then Ident
    else (if n == 2 then Qualified
    else (if n == 3 then TypeVar
    else (if n == 4 then Schem
    else (if n == 5 then BoundName
    else (if n == 6 then Number
    else (if n == 7 then Quote
    else (if n == 8 then Symbol
    else End))))))))

pub numbered_kind-kind_number : (k : TokenKind) → numbered_kind (kind_number k) ≡ k
numbered_kind-kind_number Word = refl
numbered_kind-kind_number Ident = refl
numbered_kind-kind_number Qualified = refl
numbered_kind-kind_number TypeVar = refl
numbered_kind-kind_number Schem = refl
numbered_kind-kind_number BoundName = refl
numbered_kind-kind_number Number = refl
numbered_kind-kind_number Quote = refl
numbered_kind-kind_number Symbol = refl
numbered_kind-kind_number End = refl

abbrev pub coded_kind : Coded TokenKind
coded_kind = code_by ℕ coded_ℕ kind_number numbered_kind numbered_kind-kind_number

abbrev pub coded_text : Coded (List ℕ)
coded_text = coded_list coded_ℕ

abbrev pub coded_classes : Coded (List RawClassTree)
coded_classes = coded_list coded_class

abbrev pub kind_code : TokenKind → Gv
kind_code = coded_kind.code

abbrev pub text_code : List ℕ → Gv
text_code = coded_text.code

abbrev pub classes_code : List RawClassTree → Gv
classes_code = coded_classes.code

abbrev mutual
  pub raw_typ_code : RawTypTree → Gv
  raw_typ_code (Var at kind text sort) = gcons (gnum 0) (gcons (gnum at) (gcons (kind_code kind) (gcons (text_code text) (classes_code sort))))
  raw_typ_code (Con at name args) = gcons (gnum 1) (gcons (gnum at) (gcons (text_code name) (raw_typs_code args)))

  pub raw_typs_code : RawTypTrees → Gv
  raw_typs_code none = gnil
  raw_typs_code (also t ts) = gcons (raw_typ_code t) (raw_typs_code ts)

abbrev pub annotation_code : Option RawTypTree → Gv
annotation_code None = gnil
annotation_code (Some t) = gcons (raw_typ_code t) gnil

abbrev pub raw_code : RawTree → Gv
raw_code (Leaf at kind text) = gcons (gnum 0) (gcons (gnum at) (gcons (kind_code kind) (text_code text)))
raw_code (Abs at var typ body) = gcons (gnum 1) (gcons (gnum at) (gcons (text_code var) (gcons (annotation_code typ) (raw_code body))))
raw_code (App at fun arg) = gcons (gnum 2) (gcons (gnum at) (gcons (raw_code fun) (raw_code arg)))
raw_code (Typed at term typ) = gcons (gnum 3) (gcons (gnum at) (gcons (raw_code term) (raw_typ_code typ)))

mutual
  pub raw_typ_code-same : (t u : RawTypTree) → raw_typ_code t ≡ raw_typ_code u → t ≡ u
  raw_typ_code-same (Var a k x s) (Var b l y r) h =
      let at : a ≡ b = cc in
      let kinds = coded_kind.inj k l (cc) in
      let texts = coded_text.inj x y (cc) in
      let sorts = coded_classes.inj s r (cc) in
      λ i. Var (at i) (kinds i) (texts i) (sorts i)
  raw_typ_code-same (Con a x ts) (Con b y us) h =
      let at : a ≡ b = cc in
      let texts = coded_text.inj x y (cc) in
      let args = raw_typs_code-same ts us (cc) in
      λ i. Con (at i) (texts i) (args i)
  raw_typ_code-same _ _ h = absurd (cc)

  pub raw_typs_code-same : (ts us : RawTypTrees) → raw_typs_code ts ≡ raw_typs_code us → ts ≡ us
  raw_typs_code-same none none h = refl
  raw_typs_code-same (also t ts) (also u us) h =
      let first = raw_typ_code-same t u (cc) in
      let rest = raw_typs_code-same ts us (cc) in
      λ i. also (first i) (rest i)
  raw_typs_code-same _ _ h = absurd (cc)

pub annotation_code-same : (t u : Option RawTypTree) → annotation_code t ≡ annotation_code u → t ≡ u
annotation_code-same None None h = refl
annotation_code-same (Some t) (Some u) h =
    let same = raw_typ_code-same t u (cc) in
    λ i. Some (same i)
annotation_code-same _ _ h = absurd (cc)

pub raw_code-same : (t u : RawTree) → raw_code t ≡ raw_code u → t ≡ u
raw_code-same (Leaf a k x) (Leaf b l y) h =
    let at : a ≡ b = cc in
    let kinds = coded_kind.inj k l (cc) in
    let texts = coded_text.inj x y (cc) in
    λ i. Leaf (at i) (kinds i) (texts i)
raw_code-same (Abs a x T t) (Abs b y U u) h =
    let at : a ≡ b = cc in
    let texts = coded_text.inj x y (cc) in
    let typs = annotation_code-same T U (cc) in
    let bodies = raw_code-same t u (cc) in
    λ i. Abs (at i) (texts i) (typs i) (bodies i)
raw_code-same (App a f x) (App b g y) h =
    let at : a ≡ b = cc in
    let functions = raw_code-same f g (cc) in
    let arguments = raw_code-same x y (cc) in
    λ i. App (at i) (functions i) (arguments i)
raw_code-same (Typed a t T) (Typed b u U) h =
    let at : a ≡ b = cc in
    let terms = raw_code-same t u (cc) in
    let typs = raw_typ_code-same T U (cc) in
    λ i. Typed (at i) (terms i) (typs i)
raw_code-same _ _ h = absurd (cc)

abbrev pub coded_raw_typ : Coded RawTypTree
coded_raw_typ = record { code = raw_typ_code; inj = raw_typ_code-same }

abbrev pub coded_raw : Coded RawTree
coded_raw = record { code = raw_code; inj = raw_code-same }
