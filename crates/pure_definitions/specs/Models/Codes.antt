-- Codes of labels, types, terms and entries of maps, as the trees of numbers by which a proof tells two values apart.
use Rattle.std.specs.Prelude.{◌≡◌, ℕ, List, [], ◌∷◌, refl}
use Rattle.std.proofs.Common.{ap}
use Rattle.std.specs.Coded.{Coded, code_by, coded×, coded_ℕ, coded_list}
use base.Stored.{Gv, gnil, gnum, gcons}
use Rattle.pure_definitions.specs.Names.{Label}
use Rattle.pure_definitions.specs.Types.Typ.{Typ, TFree, TVar, Con, Typs, none, also}
use Rattle.pure_definitions.specs.Terms.Term.{Term, Const, Free, Var, Bound, Abs, App}
use Rattle.pure_definitions.specs.Terms.Subst.{TypBind, TermBind}

abbrev pub coded_label : Coded Label
coded_label = code_by (ℕ × (ℕ × ℕ)) (coded× coded_ℕ (coded× coded_ℕ coded_ℕ)) (λ l. (l.theory, (l.command, l.part))) (λ p. record { theory = p.0; command = p.1.0; part = p.1.1 }) (λ _. refl)

abbrev pub sort_code : List ℕ → Gv
sort_code [] = gnil
sort_code (c ∷ cs) = gcons (gnum c) (sort_code cs)

abbrev mutual
  pub typ_code : Typ → Gv
  typ_code (TFree x s) = gcons (gnum 0) (gcons (gnum x) (sort_code s))
  typ_code (TVar x i s) = gcons (gnum 1) (gcons (gnum x) (gcons (gnum i) (sort_code s)))
  typ_code (Con k ts) = gcons (gnum 2) (gcons (gnum k) (typs_code ts))

  pub typs_code : Typs → Gv
  typs_code none = gnil
  typs_code (also t ts) = gcons (typ_code t) (typs_code ts)

abbrev pub term_code : Term → Gv
term_code (Const c T) = gcons (gnum 0) (gcons (gnum c) (typ_code T))
term_code (Free x T) = gcons (gnum 1) (gcons (gnum x) (typ_code T))
term_code (Var x i T) = gcons (gnum 2) (gcons (gnum x) (gcons (gnum i) (typ_code T)))
term_code (Bound n) = gcons (gnum 3) (gnum n)
term_code (Abs T b) = gcons (gnum 4) (gcons (typ_code T) (term_code b))
term_code (App f a) = gcons (gnum 5) (gcons (term_code f) (term_code a))

sort_code-same : (s r : List ℕ) → sort_code s ≡ sort_code r → s ≡ r
sort_code-same [] [] h = refl
sort_code-same (c ∷ cs) (d ∷ ds) h =
    let first : c ≡ d = cc in
    let rest = sort_code-same cs ds (cc) in
    λ l. first l ∷ rest l
sort_code-same _ _ h = absurd (cc)

mutual
  pub typ_code-same : (T U : Typ) → typ_code T ≡ typ_code U → T ≡ U
  typ_code-same (TFree x s) (TFree y r) h =
      let n : x ≡ y = cc in
      let m = sort_code-same s r (cc) in
      λ l. TFree (n l) (m l)
  typ_code-same (TVar x i s) (TVar y j r) h =
      let n : x ≡ y = cc in
      let o : i ≡ j = cc in
      let m = sort_code-same s r (cc) in
      λ l. TVar (n l) (o l) (m l)
  typ_code-same (Con k ts) (Con m us) h =
      let n : k ≡ m = cc in
      let rest = typs_code-same ts us (cc) in
      λ l. Con (n l) (rest l)
  typ_code-same _ _ h = absurd (cc)

  pub typs_code-same : (ts us : Typs) → typs_code ts ≡ typs_code us → ts ≡ us
  typs_code-same none none h = refl
  typs_code-same (also t ts) (also u us) h =
      let first = typ_code-same t u (cc) in
      let rest = typs_code-same ts us (cc) in
      λ l. also (first l) (rest l)
  typs_code-same _ _ h = absurd (cc)

pub term_code-same : (t u : Term) → term_code t ≡ term_code u → t ≡ u
term_code-same (Const c T) (Const d U) h =
    let n : c ≡ d = cc in
    let m = typ_code-same T U (cc) in
    λ l. Const (n l) (m l)
term_code-same (Free x T) (Free y U) h =
    let n : x ≡ y = cc in
    let m = typ_code-same T U (cc) in
    λ l. Free (n l) (m l)
term_code-same (Var x i T) (Var y j U) h =
    let n : x ≡ y = cc in
    let o : i ≡ j = cc in
    let m = typ_code-same T U (cc) in
    λ l. Var (n l) (o l) (m l)
term_code-same (Bound m) (Bound n) h = ap Bound (cc)
term_code-same (Abs T b) (Abs U c) h =
    let n = typ_code-same T U (cc) in
    let m = term_code-same b c (cc) in
    λ l. Abs (n l) (m l)
term_code-same (App f a) (App g b) h =
    let n = term_code-same f g (cc) in
    let m = term_code-same a b (cc) in
    λ l. App (n l) (m l)
term_code-same _ _ h = absurd (cc)

abbrev pub coded_typ : Coded Typ
coded_typ = record { code = typ_code; inj = typ_code-same }

abbrev pub coded_term : Coded Term
coded_term = record { code = term_code; inj = term_code-same }

abbrev pub coded_typ_bind : Coded TypBind
coded_typ_bind =
    code_by (ℕ × (ℕ × (List ℕ × Typ))) (coded× coded_ℕ (coded× coded_ℕ (coded× (coded_list coded_ℕ) coded_typ))) (λ b. (b.name, (b.index, (b.sort, b.image))))
    (λ p. record { name = p.0; index = p.1.0; sort = p.1.1.0; image = p.1.1.1 }) (λ _. refl)

abbrev pub coded_term_bind : Coded TermBind
coded_term_bind =
    code_by (ℕ × (ℕ × (Typ × Term))) (coded× coded_ℕ (coded× coded_ℕ (coded× coded_typ coded_term))) (λ b. (b.name, (b.index, (b.typ, b.image))))
    (λ p. record { name = p.0; index = p.1.0; typ = p.1.1.0; image = p.1.1.1 }) (λ _. refl)
