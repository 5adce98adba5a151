-- The variables gathered along the settings are those of the substitution.
use Rattle.std.proofs.Common.{◌≡◌, ◌≢◌, ◌⊎◌, ℕ, zero, suc, ◌+◌, ◌<◌, ◌≤◌, List, [], ◌∷◌, ◌++◌, map, length, get_or, take, drop, Bool, true, false, inl, inr, refl, ap, sym, subst, ◌∙◌, arith, true≢false}
use Rattle.std.specs.Prelude.{if◌then◌else◌}
use Rattle.std.proofs.lemmas.List.{append-nil}
use Rattle.pure_text.specs.Lists.{IsIn, AnyOf, EachTwo}
use Rattle.pure_text.proofs.ListLaws.{in-append_left, in-append_right, in_split, any_of, any_some, in-map}
use Rattle.pure_definitions.specs.Types.Typ.{Typ}
use Rattle.pure_definitions.specs.Terms.Term.{Term, Const, Free, Var, Bound, Abs, App, term_eq}
use Rattle.pure_definitions.specs.Terms.Subst.{TypBind, TermBind, term_variable, term_image, typ_instance, typ_image, retyped_variable, inst_typ, inst_term}
use Rattle.pure_definitions.specs.Models.Equality.{term_eq-itself, term_eq-same}
use Rattle.pure_term_laws.proofs.SubstLaws.{typ_instance-identity}
use Rattle.pure_logic.specs.Derivable.{Pair}
use Rattle.pure_tunify.specs.Settings.{composed}
use Rattle.pure_tunify.specs.Working.{IsWritten}
use Rattle.pure_tunify.proofs.SettingLaws.{instance-append}
use Rattle.pure_unify_definitions.specs.Fronts.{variables, pair_variables}
use Rattle.pure_unify_definitions.specs.Node.{Setting, Typs, Single, Node, with_setting, typ_settings, typ_after, term_after, resolved, entry_variables, node_variables}
use Rattle.pure_unify_definitions.specs.Retyping.{MakesTwoSame}
use Rattle.pure_unify_steps.specs.Gathered.{gathered, IsSameAs, HasSame}
use Rattle.pure_unify_steps.proofs.PutLaws.{variable_same}

-- What a loop has still to read.
pub drop_here : {A : Type 0} (xs : List A) (i : ℕ) (x : A) → i < length xs → x ≡ get_or xs i x → drop i xs ≡ x ∷ drop (i + 1) xs
drop_here [] i x h e = absurd (omega arith)
drop_here (y ∷ ys) zero x h e = ap (λ z. z ∷ ys) (sym e)
drop_here (y ∷ ys) (suc i) x h e =
    let next : suc i + 1 ≡ suc (i + 1) = omega arith in
    rw next (drop_here ys i x (omega arith) e)

pub drop_all : {A : Type 0} (xs : List A) (i : ℕ) → length xs ≤ i → drop i xs ≡ []
drop_all [] zero h = refl
drop_all [] (suc i) h = refl
drop_all (x ∷ xs) zero h = absurd (omega arith)
drop_all (x ∷ xs) (suc i) h = drop_all xs i (omega arith)

-- The element that is related to the one that is read.
pub two_at : {A B : Type 0} (R : A → B → Type 0) (xs : List A) (ys : List B) (i : ℕ) (x : A) → EachTwo R xs ys → i < length xs → x ≡ get_or xs i x → (y : B) × R x y × (drop i ys ≡ y ∷ drop (i + 1) ys)
two_at R [] ys i x h within e = absurd (omega arith)
two_at R (z ∷ xs) [] i x h within e = absurd h
two_at R (z ∷ xs) (y ∷ ys) zero x h within e = (y, subst (λ w. R w y) (sym e) h.0, refl)
two_at R (z ∷ xs) (y ∷ ys) (suc i) x h within e =
    let next : suc i + 1 ≡ suc (i + 1) = omega arith in
    let rest = two_at R xs ys i x h.1 (omega arith) e in
    (rest.0, rest.1, rw next rest.2)

pub two_end : {A B : Type 0} (R : A → B → Type 0) (xs : List A) (ys : List B) (i : ℕ) → EachTwo R xs ys → length xs ≤ i → drop i ys ≡ []
two_end R [] [] zero h within = refl
two_end R [] [] (suc i) h within = refl
two_end R [] (y ∷ ys) i h within = absurd h
two_end R (x ∷ xs) [] i h within = absurd h
two_end R (x ∷ xs) (y ∷ ys) zero h within = absurd (omega arith)
two_end R (x ∷ xs) (y ∷ ys) (suc i) h within = two_end R xs ys i h.1 (omega arith)

pub any_on : {A : Type 0} (P : A → Type 0) (xs ys : List A) (x : A) → xs ≡ x ∷ ys → ¬ P x → AnyOf P xs → AnyOf P ys
any_on P xs ys x e n h = rest (subst (λ zs. AnyOf P zs) e h)
  where
    rest : AnyOf P (x ∷ ys) → AnyOf P ys
    rest (inl p) = absurd (n p)
    rest (inr m) = m

pub any_none : {A : Type 0} (P : A → Type 0) (xs : List A) → xs ≡ [] → ¬ AnyOf P xs
any_none P xs e h = subst (λ zs. AnyOf P zs) e h

-- Two variables that become the same.
pub two_same : (typs : Typ → Typ) (v : Term) (vs : List Term) → IsIn v vs → HasSame typs v vs → MakesTwoSame typs vs
two_same typs v vs m h =
    let found = any_some (IsSameAs typs v) vs h in
    record { first = v; second = found.0; first_in = m; second_in = found.1; differ = found.2.0; same = found.2.1 }

pub some_same : (typs : Typ → Typ) (vs : List Term) → MakesTwoSame typs vs → AnyOf (λ v. HasSame typs v vs) vs
some_same typs vs h = any_of (λ v. HasSame typs v vs) h.first vs h.first_in (any_of (IsSameAs typs h.first) h.second vs h.second_in (h.differ, h.same))

-- Gathering goes on.
pub gathered-more : (vs : List Term) (s : Setting) (ss : List Setting) → gathered vs (s ∷ ss) ≡ gathered (gathered vs (s ∷ [])) ss
gathered-more vs (Typs sets) ss = refl
gathered-more vs (Single b) ss = refl

-- what becomes of a variable along settings
abbrev through : List Setting → Term → Term
through [] v = v
through (Typs sets ∷ ss) v = through ss (retyped_variable (composed sets) v)
through (Single b ∷ ss) v = through ss v

record Comes (ss : List Setting) (vs : List Term) (v : Term) : Type 0 where
  from : Term
  there : IsIn from vs
  is : v ≡ through ss from

in_map : (f : Term → Term) (v : Term) (vs : List Term) → IsIn v (map f vs) → (w : Term) × IsIn w vs × (v ≡ f w)
in_map f v [] m = absurd m
in_map f v (w ∷ vs) (inl e) = (w, inl refl, e)
in_map f v (w ∷ vs) (inr m) = let rest = in_map f v vs m in (rest.0, inr rest.1, rest.2)

come_typs : (sets : List TypBind) (ss : List Setting) (vs : List Term) (v : Term) → Comes ss (map (retyped_variable (composed sets)) vs) v → Comes (Typs sets ∷ ss) vs v
come_typs sets ss vs v c = let found = in_map (retyped_variable (composed sets)) c.from vs c.there in record { from = found.0; there = found.1; is = c.is ∙ ap (through ss) found.2 }

come_typs_back : (sets : List TypBind) (ss : List Setting) (vs : List Term) (v : Term) → Comes (Typs sets ∷ ss) vs v → Comes ss (map (retyped_variable (composed sets)) vs) v
come_typs_back sets ss vs v c = record { from = retyped_variable (composed sets) c.from; there = in-map (retyped_variable (composed sets)) c.from vs c.there; is = c.is }

-- one of two, by what each gives
either : {A B C : Type 0} → (A → C) → (B → C) → A ⊎ B → C
either f g (inl a) = f a
either f g (inr b) = g b

abbrev own : TermBind → List Term
own b = term_variable b ∷ variables b.image

behind_own : (b : TermBind) (ss : List Setting) (vs : List Term) (v : Term) (c : Comes ss (vs ++ own b) v) → IsIn c.from vs ⊎ IsIn c.from (own b) → Comes (Single b ∷ ss) vs v ⊎ Comes ss (own b) v
behind_own b ss vs v c (inl k) = inl (record { from = c.from; there = k; is = c.is })
behind_own b ss vs v c (inr k) = inr (record { from = c.from; there = k; is = c.is })

-- What is gathered behind variables: these, and what is gathered behind none.
mutual
  apart : (vs : List Term) (ss : List Setting) (v : Term) → IsIn v (gathered vs ss) → Comes ss vs v ⊎ IsIn v (gathered [] ss)
  apart vs [] v m = inl (record { from = v; there = m; is = refl })
  apart vs (Typs sets ∷ ss) v m = either (λ c. inl (come_typs sets ss vs v c)) (λ k. inr k) (apart (map (retyped_variable (composed sets)) vs) ss v m)
  apart vs (Single b ∷ ss) v m =
      either (λ c. either (λ d. inl d) (λ d. inr (into (own b) ss v (inl d))) (behind_own b ss vs v c (in_split c.from vs (own b) c.there)))
      (λ k. inr (into (own b) ss v (inr k))) (apart (vs ++ own b) ss v m)

  into : (vs : List Term) (ss : List Setting) (v : Term) → Comes ss vs v ⊎ IsIn v (gathered [] ss) → IsIn v (gathered vs ss)
  into vs [] v (inl c) = subst (λ w. IsIn w vs) (sym c.is) c.there
  into vs [] v (inr m) = absurd m
  into vs (Typs sets ∷ ss) v (inl c) = into (map (retyped_variable (composed sets)) vs) ss v (inl (come_typs_back sets ss vs v c))
  into vs (Typs sets ∷ ss) v (inr m) = into (map (retyped_variable (composed sets)) vs) ss v (inr m)
  into vs (Single b ∷ ss) v (inl c) = into (vs ++ own b) ss v (inl (record { from = c.from; there = in-append_left c.from vs (own b) c.there; is = c.is }))
  into vs (Single b ∷ ss) v (inr m) =
      either (λ c. into (vs ++ own b) ss v (inl (record { from = c.from; there = in-append_right c.from vs (own b) c.there; is = c.is })))
      (λ k. into (vs ++ own b) ss v (inr k)) (apart (own b) ss v m)

-- The variables of a term with a setting put in.
map-append : (f : Term → Term) (xs ys : List Term) → map f (xs ++ ys) ≡ map f xs ++ map f ys
map-append f [] ys = refl
map-append f (x ∷ xs) ys = ap (λ zs. f x ∷ zs) (map-append f xs ys)

variables-retyped : (f : Typ → Typ) (t : Term) → variables (inst_typ f t) ≡ map (retyped_variable f) (variables t)
variables-retyped f (Const c T) = refl
variables-retyped f (Free x T) = refl
variables-retyped f (Var x i T) = refl
variables-retyped f (Bound n) = refl
variables-retyped f (Abs T b) = variables-retyped f b
variables-retyped f (App g a) = (λ l. variables-retyped f g l ++ variables-retyped f a l) ∙ sym (map-append (retyped_variable f) (variables g) (variables a))

image_in : (b : TermBind) (v u : Term) (test : Bool) → IsIn v (variables (if test then b.image else u)) → IsIn v (variables u) ⊎ IsIn v (variables b.image)
image_in b v u true m = inr m
image_in b v u false m = inl m

replaced_in : (b : TermBind) (v t : Term) → IsIn v (variables (inst_term (term_image (b ∷ [])) t)) → IsIn v (variables t) ⊎ IsIn v (variables b.image)
replaced_in b v (Const c T) m = absurd m
replaced_in b v (Free x T) m = image_in b v (Free x T) (term_eq (term_variable b) (Free x T)) m
replaced_in b v (Var x i T) m = image_in b v (Var x i T) (term_eq (term_variable b) (Var x i T)) m
replaced_in b v (Bound n) m = absurd m
replaced_in b v (Abs T c) m = replaced_in b v c m
replaced_in b v (App f a) m =
    either (λ k. either (λ l. inl (in-append_left v (variables f) (variables a) l)) (λ l. inr l) (replaced_in b v f k))
    (λ k. either (λ l. inl (in-append_right v (variables f) (variables a) l)) (λ l. inr l) (replaced_in b v a k))
    (in_split v (variables (inst_term (term_image (b ∷ [])) f)) (variables (inst_term (term_image (b ∷ [])) a)) m)

kept_or_set : (b : TermBind) (u : Term) (test : Bool) → test ≡ term_eq (term_variable b) u → (u ≡ term_variable b) ⊎ (u ≡ (if test then b.image else u))
kept_or_set b u true e = inl (sym (term_eq-same (term_variable b) u (sym e)))
kept_or_set b u false e = inr refl

kept_in : (b : TermBind) (w t : Term) → IsIn w (variables t) → (w ≡ term_variable b) ⊎ IsIn w (variables (inst_term (term_image (b ∷ [])) t))
kept_in b w (Const c T) m = absurd m
kept_in b w (Free x T) m = absurd m
kept_in b w (Var x i T) (inl e) = by (kept_or_set b (Var x i T) (term_eq (term_variable b) (Var x i T)) refl)
  where
    by : (Var x i T ≡ term_variable b) ⊎ (Var x i T ≡ term_image (b ∷ []) (Var x i T)) → (w ≡ term_variable b) ⊎ IsIn w (variables (term_image (b ∷ []) (Var x i T)))
    by (inl same) = inl (e ∙ same)
    by (inr same) = inr (subst (λ (t : Term). IsIn w (variables t)) same (inl e))
kept_in b w (Var x i T) (inr m) = absurd m
kept_in b w (Bound n) m = absurd m
kept_in b w (Abs T c) m = kept_in b w c m
kept_in b w (App f a) m =
    either (λ k. either (λ e. inl e) (λ l. inr (in-append_left w (variables (inst_term (term_image (b ∷ [])) f)) (variables (inst_term (term_image (b ∷ [])) a)) l)) (kept_in b w f k))
    (λ k. either (λ e. inl e) (λ l. inr (in-append_right w (variables (inst_term (term_image (b ∷ [])) f)) (variables (inst_term (term_image (b ∷ [])) a)) l)) (kept_in b w a k))
    (in_split w (variables f) (variables a) m)

-- A variable along settings has its type under them.
through-variable : (ss : List Setting) (x i : ℕ) (T : Typ) → through ss (Var x i T) ≡ Var x i (typ_after ss T)
through-variable [] x i T = ap (Var x i) (sym (typ_instance-identity T))
through-variable (Typs sets ∷ ss) x i T = through-variable ss x i (typ_instance (composed sets) T) ∙ ap (Var x i) (sym (instance-append sets (typ_settings ss) T))
through-variable (Single b ∷ ss) x i T = through-variable ss x i T

-- The variables of a term after settings.
image_behind : (b : TermBind) (ss : List Setting) (t v : Term) (c : Comes ss (variables (inst_term (term_image (b ∷ [])) t)) v) → IsIn c.from (variables t) ⊎ IsIn c.from (variables b.image) → Comes (Single b ∷ ss) (variables t) v ⊎ IsIn v (gathered [] (Single b ∷ ss))
image_behind b ss t v c (inl k) = inl (record { from = c.from; there = k; is = c.is })
image_behind b ss t v c (inr k) = inr (into (own b) ss v (inl (record { from = c.from; there = inr k; is = c.is })))

after_gathered : (ss : List Setting) (t v : Term) → IsIn v (variables (term_after ss t)) → Comes ss (variables t) v ⊎ IsIn v (gathered [] ss)
after_gathered [] t v m = inl (record { from = v; there = m; is = refl })
after_gathered (Typs sets ∷ ss) t v m =
    either (λ c. inl (come_typs sets ss (variables t) v (subst (λ vs. Comes ss vs v) (variables-retyped (composed sets) t) c))) (λ k. inr k) (after_gathered ss (inst_typ (composed sets) t) v m)
after_gathered (Single b ∷ ss) t v m =
    either (λ c. image_behind b ss t v c (replaced_in b c.from t c.there)) (λ k. inr (into (own b) ss v (inr k))) (after_gathered ss (inst_term (term_image (b ∷ [])) t) v m)

abbrev key : TermBind → List Setting → Term
key b ss = Var b.name b.index (typ_after ss b.typ)

-- the variables of the entries behind one more
abbrev entries : TermBind → List Setting → List Term
entries b ss = key b ss ∷ (variables (term_after ss b.image) ++ entry_variables (resolved ss))

in_image : (b : TermBind) (ss : List Setting) (v : Term) → IsIn v (variables (term_after ss b.image)) → IsIn v (entries b ss)
in_image b ss v k = inr (in-append_left v (variables (term_after ss b.image)) (entry_variables (resolved ss)) k)

in_later : (b : TermBind) (ss : List Setting) (v : Term) → IsIn v (entry_variables (resolved ss)) → IsIn v (entries b ss)
in_later b ss v k = inr (in-append_right v (variables (term_after ss b.image)) (entry_variables (resolved ss)) k)

is_key : (b : TermBind) (ss : List Setting) (vs : List Term) (v : Term) (c : Comes ss vs v) → c.from ≡ term_variable b → IsIn v (entries b ss)
is_key b ss vs v c e = inl (c.is ∙ (ap (through ss) e ∙ through-variable ss b.name b.index b.typ))

comes_after : (ss : List Setting) (t v : Term) → Comes ss (variables t) v → IsIn v (variables (term_after ss t)) ⊎ IsIn v (entry_variables (resolved ss))
comes_after [] t v c = inl (subst (λ w. IsIn w (variables t)) (sym c.is) c.there)
comes_after (Typs sets ∷ ss) t v c = comes_after ss (inst_typ (composed sets) t) v (subst (λ vs. Comes ss vs v) (sym (variables-retyped (composed sets) t)) (come_typs_back sets ss (variables t) v c))
comes_after (Single b ∷ ss) t v c =
    either (λ e. inr (is_key b ss (variables t) v (record { from = c.from; there = c.there; is = c.is }) e))
    (λ k. either (λ l. inl l) (λ l. inr (in_later b ss v l)) (comes_after ss (inst_term (term_image (b ∷ [])) t) v (record { from = c.from; there = k; is = c.is })))
    (kept_in b c.from t c.there)

own_comes : (b : TermBind) (ss : List Setting) (v : Term) (c : Comes ss (own b) v) → IsIn c.from (own b) → IsIn v (entries b ss)
own_comes b ss v c (inl e) = is_key b ss (own b) v c e
own_comes b ss v c (inr k) = either (in_image b ss v) (in_later b ss v) (comes_after ss b.image v (record { from = c.from; there = k; is = c.is }))

gathered_entries : (ss : List Setting) (v : Term) → IsIn v (gathered [] ss) → IsIn v (entry_variables (resolved ss))
gathered_entries [] v m = absurd m
gathered_entries (Typs sets ∷ ss) v m = gathered_entries ss v m
gathered_entries (Single b ∷ ss) v m = either (λ c. own_comes b ss v c c.there) (λ k. in_later b ss v (gathered_entries ss v k)) (apart (own b) ss v m)

image_gathered : (b : TermBind) (ss : List Setting) (v : Term) → Comes ss (variables b.image) v ⊎ IsIn v (gathered [] ss) → IsIn v (gathered (own b) ss)
image_gathered b ss v (inl c) = into (own b) ss v (inl (record { from = c.from; there = inr c.there; is = c.is }))
image_gathered b ss v (inr k) = into (own b) ss v (inr k)

entries_gathered : (ss : List Setting) (v : Term) → IsIn v (entry_variables (resolved ss)) → IsIn v (gathered [] ss)
entries_gathered [] v m = absurd m
entries_gathered (Typs sets ∷ ss) v m = entries_gathered ss v m
entries_gathered (Single b ∷ ss) v (inl e) = into (own b) ss v (inl (record { from = term_variable b; there = inl refl; is = e ∙ sym (through-variable ss b.name b.index b.typ) }))
entries_gathered (Single b ∷ ss) v (inr m) =
    either (λ k. image_gathered b ss v (after_gathered ss b.image v k)) (λ k. into (own b) ss v (inr (entries_gathered ss v k)))
    (in_split v (variables (term_after ss b.image)) (entry_variables (resolved ss)) m)

-- The list that the program gathers has the variables of the node.
pub list_in_node : (n : Node) (list : List Term) → list ≡ gathered [] n.path.settings ++ pair_variables n.pairs → (v : Term) → IsIn v list → IsIn v (node_variables n)
list_in_node n list e v m = by (in_split v (gathered [] n.path.settings) (pair_variables n.pairs) (subst (λ vs. IsIn v vs) e m))
  where
    by : IsIn v (gathered [] n.path.settings) ⊎ IsIn v (pair_variables n.pairs) → IsIn v (node_variables n)
    by (inl k) = in-append_right v (pair_variables n.pairs) (entry_variables (resolved n.path.settings)) (gathered_entries n.path.settings v k)
    by (inr k) = in-append_left v (pair_variables n.pairs) (entry_variables (resolved n.path.settings)) k

pub node_in_list : (n : Node) (list : List Term) → list ≡ gathered [] n.path.settings ++ pair_variables n.pairs → (v : Term) → IsIn v (node_variables n) → IsIn v list
node_in_list n list e v m = by (in_split v (pair_variables n.pairs) (entry_variables (resolved n.path.settings)) m)
  where
    by : IsIn v (pair_variables n.pairs) ⊎ IsIn v (entry_variables (resolved n.path.settings)) → IsIn v list
    by (inl k) = subst (λ vs. IsIn v vs) (sym e) (in-append_right v (gathered [] n.path.settings) (pair_variables n.pairs) k)
    by (inr k) = subst (λ vs. IsIn v vs) (sym e) (in-append_left v (gathered [] n.path.settings) (pair_variables n.pairs) (entries_gathered n.path.settings v k))

pub same_elsewhere : (typs : Typ → Typ) (vs ws : List Term) → ((v : Term) → IsIn v vs → IsIn v ws) → MakesTwoSame typs vs → MakesTwoSame typs ws
same_elsewhere typs vs ws in_other h = record { first = h.first; second = h.second; first_in = in_other h.first h.first_in; second_in = in_other h.second h.second_in; differ = h.differ; same = h.same }

pub same_written : (sets written : List TypBind) (vs : List Term) → IsWritten sets written → MakesTwoSame (typ_image written) vs → MakesTwoSame (composed sets) vs
same_written sets written vs w h = record { first = h.first; second = h.second; first_in = h.first_in; second_in = h.second_in; differ = h.differ; same = sym (variable_same sets written w h.first) ∙ (h.same ∙ variable_same sets written w h.second) }

pub same_settings : (sets written : List TypBind) (vs : List Term) → IsWritten sets written → MakesTwoSame (composed sets) vs → MakesTwoSame (typ_image written) vs
same_settings sets written vs w h = record { first = h.first; second = h.second; first_in = h.first_in; second_in = h.second_in; differ = h.differ; same = variable_same sets written w h.first ∙ (h.same ∙ sym (variable_same sets written w h.second)) }
