-- What is found of facts: declared ones, and the built ones.
use Rattle.std.proofs.Common.{◌≡◌, ◌⊎◌, ◌≤◌, ◌<◌, ◌≢◌, ℕ, zero, suc, ◌+◌, List, [], ◌∷◌, refl, ap, sym, ◌∙◌, inl, inr, arith}
use Rattle.std.proofs.lemmas.Bool.{cases_lt}
use Rattle.std.proofs.lemmas.Option.{same_Some, none-some}
use Rattle.std.specs.Prelude.{Some, None, codes, slice_get}
use Rattle.pure_text.specs.Lists.{IsIn}
use Rattle.pure_text.proofs.ListLaws.{in-append_right, each_at}
use Rattle.pure_definitions.specs.Names.{protect_name}
use Rattle.pure_typ.specs.NameTexts.{builtin_texts, HasText}
use Rattle.pure_typ.proofs.NamesLemmas.{slice_get-left}
use Rattle.pure_logic.specs.Content.{TheoryId, Content}
use Rattle.pure_logic.specs.Beginning.{theories_of}
use Rattle.pure_logic.proofs.AncestorLaws.{in-theories, theories-in}
use Rattle.pure_theory_tables.specs.Facts.{Stated, fact_decl}
use Rattle.pure_lookup.specs.Meaning.{facts, pure_text, full_text, built_texts, Meaning, Declared, Built, IsVisible, IsMeant}
use Rattle.pure_lookup.specs.LookUps.{BuiltFact, IsFoundFact}
use Rattle.pure_lookup.proofs.ExampleLemmas.{no_dot}
use Rattle.pure_lookup.specs.Laws.{IsInSession}
use Rattle.pure_lookup.proofs.PlaceLemmas.{builtin-in_pure}
use Rattle.pure_lookup.proofs.TextLemmas.{pure-has_no_dot, one_cut}
use Rattle.pure_theory.specs.FactView.{built_bases, IsBuiltText, IsOwnName}
use Rattle.pure_theory.proofs.LookupLaws.{declared_fact}

-- Each built fact has its base, and its full name is made of it.
pub built_base : (k : ℕ) (w : List ℕ) → slice_get built_texts k ≡ Some w → (b : List ℕ) × (slice_get built_bases k ≡ Some b) × (w ≡ full_text pure_text b)
unfolding built_texts built_bases pure_text
built_base zero w e = (codes "refl", refl, sym (same_Some (codes "Pure.refl") w e))
built_base (suc zero) w e = (codes "subst", refl, sym (same_Some (codes "Pure.subst") w e))
built_base (suc (suc zero)) w e = (codes "ext", refl, sym (same_Some (codes "Pure.ext") w e))
built_base (suc (suc (suc zero))) w e = (codes "iff", refl, sym (same_Some (codes "Pure.iff") w e))
built_base (suc (suc (suc (suc zero)))) w e = (codes "mp", refl, sym (same_Some (codes "Pure.mp") w e))
built_base (suc (suc (suc (suc (suc zero))))) w e = (codes "spec", refl, sym (same_Some (codes "Pure.spec") w e))
built_base (suc (suc (suc (suc (suc (suc k)))))) w e = absurd (none-some w e)

base_built : (k : ℕ) (b : List ℕ) → slice_get built_bases k ≡ Some b → (slice_get built_texts k ≡ Some (full_text pure_text b)) × (¬ IsIn 46 b)
unfolding built_texts built_bases pure_text
base_built zero b e = let p : codes "refl" ≡ b = same_Some (codes "refl") b e in rw (← p) (refl, no_dot (codes "refl") refl)
base_built (suc zero) b e = let p : codes "subst" ≡ b = same_Some (codes "subst") b e in rw (← p) (refl, no_dot (codes "subst") refl)
base_built (suc (suc zero)) b e = let p : codes "ext" ≡ b = same_Some (codes "ext") b e in rw (← p) (refl, no_dot (codes "ext") refl)
base_built (suc (suc (suc zero))) b e = let p : codes "iff" ≡ b = same_Some (codes "iff") b e in rw (← p) (refl, no_dot (codes "iff") refl)
base_built (suc (suc (suc (suc zero)))) b e = let p : codes "mp" ≡ b = same_Some (codes "mp") b e in rw (← p) (refl, no_dot (codes "mp") refl)
base_built (suc (suc (suc (suc (suc zero))))) b e = let p : codes "spec" ≡ b = same_Some (codes "spec") b e in rw (← p) (refl, no_dot (codes "spec") refl)
base_built (suc (suc (suc (suc (suc (suc k)))))) b e = absurd (none-some b e)

-- A number above the index of each theory.
above_all : (ts : List TheoryId) → (bound : ℕ) × ((t : TheoryId) → IsIn t ts → t.index < bound)
above_all [] = (0, λ t m. absurd m)
above_all (u ∷ us) =
    let rest = above_all us in
    (u.index + 1 + rest.0, λ t m. elim m [ inl e ↦ (let p : t.index ≡ u.index = ap (λ (v : TheoryId). v.index) e in omega (arith, p)) | inr n ↦ (let q = rest.1 t n in omega (arith, q)) ])

module _ (texts : List (List ℕ)) (Q : Content) (written : List ℕ) (none_declared : (n : ℕ) → ¬ IsMeant texts Q facts written (Declared n)) where
  -- Where no axiom and no promise is visible behind a place, nothing is.
  not_behind : (place : ℕ) → ((other : ℕ) → place < other → (theory : List ℕ) (n : ℕ) → ¬ IsVisible texts Q facts other theory written (Declared n)) → (other : ℕ) (theory : List ℕ) (m : Meaning) → IsVisible texts Q facts other theory written m → other ≤ place
  not_behind place none other theory (Built k) (inl v) = let z = v.0 in omega (arith, z)
  not_behind place none other theory (Built k) (inr v) = absurd v.4
  not_behind place none other theory (Declared n) v = elim (cases_lt place other) [ inl later ↦ absurd (none other later theory n v) | inr not_later ↦ not_later ]

  -- What is visible in a theory would be meant, or something behind it.
  none_visible : (clean : ¬ IsIn 46 written) (bound : ℕ) → ((t : TheoryId) → IsIn t (theories_of Q) → t.index < bound) → (left place : ℕ) → bound < left + place → (theory : List ℕ) (n : ℕ) → ¬ IsVisible texts Q facts place theory written (Declared n)
  none_visible clean bound all zero place enough theory n (inl h) = let z = h.0 in absurd (omega (arith, z, enough))
  none_visible clean bound all zero place enough theory n (inr (t, i, p, text, of_theory)) = let q = all t i in absurd (omega (arith, p, q, enough))
  none_visible clean bound all (suc left) place enough theory n h =
      none_declared n (inr (clean, record { place = place; theory = theory; visible = h; last = not_behind place (λ other later th j v. none_visible clean bound all left other (omega (arith, later, enough)) th j v) }))

  base_meant : (k : ℕ) → slice_get built_bases k ≡ Some written → IsMeant texts Q facts written (Built k)
  base_meant k e =
      let is = base_built k written e in
      let bound = above_all (theories_of Q) in
      inr (
        is.1,
        record {
          place = 0;
          theory = pure_text;
          visible = inl (refl, refl, (refl, is.0));
          last = not_behind 0 (λ other later th j v. none_visible is.1 bound.0 bound.1 (suc bound.0) other (omega (arith, later)) th j v);
        },
      )

  full_meant : (k : ℕ) → slice_get built_texts k ≡ Some written → IsMeant texts Q facts written (Built k)
  full_meant k e =
      let is = built_base k written e in
      let dotted : IsIn 46 written = rw is.2 (in-append_right 46 pure_text (46 ∷ is.0) (inl refl)) in
      inl (dotted, record { place = 0; theory = pure_text; base = is.0; full = is.2; clean = (base_built k is.0 is.1).1; visible = inl (refl, refl, (refl, (rw (← is.2) e))) })

  -- Where no axiom and no promise is meant, the built fact is found whose text is written.
  pub found_built : (k : ℕ) → IsBuiltText written k → IsFoundFact texts Q written (Some (BuiltFact k))
  found_built k h = elim h [ inl full ↦ (Built k, full_meant k full, refl) | inr base ↦ (Built k, base_meant k base, refl) ]

  visible_built : (place : ℕ) (theory base : List ℕ) (k : ℕ) → IsVisible texts Q facts place theory base (Built k) → slice_get built_texts k ≡ Some (full_text pure_text base)
  visible_built place theory base k (inl v) = v.2.1 ∙ ap (λ t. Some (full_text t base)) v.1
  visible_built place theory base k (inr v) = absurd v.4

  built_text : (k : ℕ) → IsMeant texts Q facts written (Built k) → IsBuiltText written k
  built_text k (inl full) =
      inl (elim full.1.visible [ inl v ↦ v.2.1 ∙ ap Some (sym full.1.full) | inr v ↦ absurd v.4 ])
  built_text k (inr base) =
      let is = built_base k (full_text pure_text written) (visible_built base.1.place base.1.theory written k base.1.visible) in
      let same = one_cut pure_text pure_text written is.0 pure-has_no_dot pure-has_no_dot is.2 in
      inr (is.1 ∙ ap Some (sym same.1))

  -- And where none is, nothing is found.
  pub found_nothing : ((k : ℕ) → ¬ IsBuiltText written k) → IsFoundFact texts Q written None
  found_nothing none_built (Declared n) h = none_declared n h
  found_nothing none_built (Built k) h = none_built k (built_text k h)

-- What the content's own theory has under a written name without a dot is meant: nothing visible stands behind it.
module _ (texts : List (List ℕ)) (Q : Content) (written : List ℕ) (session : IsInSession texts Q) where
  not_after : (t u : TheoryId) → Q.own ≡ Some t → IsIn u (theories_of Q) → u.index ≤ t.index
  not_after t u own m = elim (in-theories u Q m) [
    | inl e ↦ (let same : u ≡ t = same_Some u t (sym e ∙ own) in rw same (omega arith))
    | inr a ↦ (let less = each_at (λ (v : TheoryId). v.index < t.index) Q.ancestors (session.apart.own t own).index u a in omega (arith, less))
  ]

  own_is_last : (t : TheoryId) → Q.own ≡ Some t → (place : ℕ) (theory : List ℕ) (m : Meaning) → IsVisible texts Q facts place theory written m → place ≤ 1 + t.index
  own_is_last t own place theory m (inl v) = let z = v.0 in omega (arith, z)
  own_is_last t own place theory m (inr (u, i, at, text, v)) = let before = not_after t u own i in omega (arith, at, before)

  -- A theory's name isn't that of Pure's mark of a goal.
  not_mark : (t : TheoryId) (theory : List ℕ) (n : ℕ) → Q.own ≡ Some t → HasText texts t.name theory → HasText texts n (full_text theory written) → n ≢ protect_name
  not_mark t theory n own text full e =
      let pure = builtin-in_pure n (omega (arith, e)) in
      let known = session.theories t theory (theories-in t Q (inl own)) text in
      let mark : HasText texts n (full_text pure_text pure.0) = slice_get-left builtin_texts texts n (full_text pure_text pure.0) pure.1 in
      known.1 (one_cut theory pure_text written pure.0 known.0 pure-has_no_dot (same_Some (full_text theory written) (full_text pure_text pure.0) (sym full ∙ mark))).0

  pub own_is_meant : (¬ IsIn 46 written) → (n : ℕ) (s : Stated) → IsOwnName texts Q written n → IsIn (fact_decl n s) Q.declarations → IsMeant texts Q facts written (Declared n)
  own_is_meant clean n s (t, theory, own, text, full) stated =
      inr (
        clean,
        record {
          place = 1 + t.index;
          theory = theory;
          visible = inr (t, theories-in t Q (inl own), refl, text, (record { declared = declared_fact Q.declarations n s stated; other = not_mark t theory n own text full }, full));
          last = own_is_last t own;
        },
      )

-- Whether a text is that of a built fact, one of them after another.
pub built_at : (k : ℕ) (full base text : List ℕ) → slice_get built_texts k ≡ Some full → slice_get built_bases k ≡ Some base → (text ≡ full) ⊎ (text ≡ base) → IsBuiltText text k
built_at k full base text f b h = elim h [ inl e ↦ inl (f ∙ ap Some (sym e)) | inr e ↦ inr (b ∙ ap Some (sym e)) ]

pub built_refl : (text : List ℕ) → (text ≡ codes "Pure.refl") ⊎ (text ≡ codes "refl") → IsBuiltText text 0
unfolding built_texts built_bases
built_refl text = built_at 0 (codes "Pure.refl") (codes "refl") text refl refl

pub built_subst : (text : List ℕ) → (text ≡ codes "Pure.subst") ⊎ (text ≡ codes "subst") → IsBuiltText text 1
unfolding built_texts built_bases
built_subst text = built_at 1 (codes "Pure.subst") (codes "subst") text refl refl

pub built_ext : (text : List ℕ) → (text ≡ codes "Pure.ext") ⊎ (text ≡ codes "ext") → IsBuiltText text 2
unfolding built_texts built_bases
built_ext text = built_at 2 (codes "Pure.ext") (codes "ext") text refl refl

pub built_iff : (text : List ℕ) → (text ≡ codes "Pure.iff") ⊎ (text ≡ codes "iff") → IsBuiltText text 3
unfolding built_texts built_bases
built_iff text = built_at 3 (codes "Pure.iff") (codes "iff") text refl refl

pub built_mp : (text : List ℕ) → (text ≡ codes "Pure.mp") ⊎ (text ≡ codes "mp") → IsBuiltText text 4
unfolding built_texts built_bases
built_mp text = built_at 4 (codes "Pure.mp") (codes "mp") text refl refl

pub built_spec : (text : List ℕ) → (text ≡ codes "Pure.spec") ⊎ (text ≡ codes "spec") → IsBuiltText text 5
unfolding built_texts built_bases
built_spec text = built_at 5 (codes "Pure.spec") (codes "spec") text refl refl

other_text : (full base text : List ℕ) → ¬ ((text ≡ full) ⊎ (text ≡ base)) → (Some full ≡ Some text) ⊎ (Some base ≡ Some text) → ⊥
other_text full base text none h = elim h [ inl e ↦ none (inl (sym (same_Some full text e))) | inr e ↦ none (inr (sym (same_Some base text e))) ]

pub none_built : (text : List ℕ) → ¬ ((text ≡ codes "Pure.refl") ⊎ (text ≡ codes "refl")) → ¬ ((text ≡ codes "Pure.subst") ⊎ (text ≡ codes "subst")) → ¬ ((text ≡ codes "Pure.ext") ⊎ (text ≡ codes "ext"))
    → ¬ ((text ≡ codes "Pure.iff") ⊎ (text ≡ codes "iff")) → ¬ ((text ≡ codes "Pure.mp") ⊎ (text ≡ codes "mp")) → ¬ ((text ≡ codes "Pure.spec") ⊎ (text ≡ codes "spec")) → (k : ℕ) → ¬ IsBuiltText text k
unfolding built_texts built_bases
none_built text a b c d e f zero h = other_text (codes "Pure.refl") (codes "refl") text a h
none_built text a b c d e f (suc zero) h = other_text (codes "Pure.subst") (codes "subst") text b h
none_built text a b c d e f (suc (suc zero)) h = other_text (codes "Pure.ext") (codes "ext") text c h
none_built text a b c d e f (suc (suc (suc zero))) h = other_text (codes "Pure.iff") (codes "iff") text d h
none_built text a b c d e f (suc (suc (suc (suc zero)))) h = other_text (codes "Pure.mp") (codes "mp") text e h
none_built text a b c d e f (suc (suc (suc (suc (suc zero))))) h = other_text (codes "Pure.spec") (codes "spec") text f h
none_built text a b c d e f (suc (suc (suc (suc (suc (suc k)))))) h = elim h [ inl n ↦ none-some text n | inr n ↦ none-some text n ]
