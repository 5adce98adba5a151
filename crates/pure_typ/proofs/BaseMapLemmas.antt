-- What a map with texts for keys has after an entry is put in.
use Rattle.std.proofs.Common.{◌≡◌, ℕ, List, [], ◌∷◌, ◌++◌, refl, sym, ap, subst, ◌∙◌}
use Rattle.std.proofs.lemmas.Map.Text.{is_eq-slice_cmp}
use Rattle.std.specs.Prelude.{Some, Bool, true, false, cond, bytes_eq, Vec}
use Rattle.std.specs.BTreeMap.{BTreeMap, UpdatesBy, is_at}
use Rattle.std.specs.Map.{KeepsOthers, IsKeyTest, AreApart, lookup}
use Rattle.std.specs.Cmp.{eq_by_cmp_equiv}
use Rattle.std.specs.Cmp.Lexicographic.{slice_cmp, bytes_decides, nat_list_cmp_total, nat_list_eq_equiv}
use Rattle.std.specs.Option.{option_map_or}
use Rattle.std.specs.Ordering.{nat_cmp, is_eq}
use Rattle.std.specs.declared.alloc.Global.{Global}
use Rattle.pure_typ.specs.NameBases.{names_at}

-- a key that one query finds, another query for other bytes doesn't
apart : (bytes other key : List ℕ) → bytes_eq bytes other ≡ false → is_eq (slice_cmp nat_cmp bytes key) ≡ true → is_eq (slice_cmp nat_cmp other key) ≡ false
apart bytes other key n y =
    let found : bytes_eq bytes key ≡ true = sym (is_eq-slice_cmp bytes key) ∙ y in
    is_eq-slice_cmp other key ∙ (nat_list_eq_equiv.symm other key ∙ (sym (nat_list_eq_equiv.congr bytes key other found) ∙ n))

kept : {X : Type 0} (eq : X → X → Bool) (test : X → Bool) {V : Type 0} (old new : List (X × V)) → KeepsOthers eq test old new → (other : X → Bool) → IsKeyTest eq other → AreApart test other → lookup other new ≡ lookup other old
unfolding KeepsOthers
kept eq test old new h = h

-- One name more stands behind those of the base, which the query finds.
pub names-put : (was old new : BTreeMap (Vec ℕ Global) (Vec ℕ Global)) (base query before : List ℕ) (n : ℕ) (names : Vec ℕ Global)
    → was ≡ old → query ≡ base → names_at old base ≡ before → names.items ≡ before ++ n ∷ []
    → UpdatesBy (λ x y. slice_cmp nat_cmp x.items y.items) (λ key. slice_cmp nat_cmp query key.items) was new (Some names)
    → (other : List ℕ) → names_at new other ≡ cond (bytes_eq other base) (names_at old other ++ n ∷ []) (names_at old other)
names-put was old new base query before n names same asked had now h other = by (bytes_eq other base) refl
  where
    here : names_at new base ≡ names_at old base ++ n ∷ []
    here = rw (← asked) (ap (λ found. option_map_or (λ v. v.items) found []) h.1 ∙ (now ∙ ap (λ xs. xs ++ n ∷ []) (sym had ∙ ap (names_at old) (sym asked))))

    there : bytes_eq other base ≡ false → names_at new other ≡ names_at old other
    there e =
        let turned : bytes_eq query other ≡ false = ap (λ l. bytes_eq l other) asked ∙ (nat_list_eq_equiv.symm base other ∙ e) in
        ap
        (λ found. option_map_or (λ v. v.items) found [])
        (kept _ _ was.entries new.entries h.3 (is_at (λ key. slice_cmp nat_cmp other key.items))
        (λ x y. (eq_by_cmp_equiv nat_list_cmp_total).congr other x.items y.items)
        (λ key. apart query other key.items turned))
        ∙ ap (λ m. names_at m other) same

    by : (b : Bool) → bytes_eq other base ≡ b → names_at new other ≡ cond (bytes_eq other base) (names_at old other ++ n ∷ []) (names_at old other)
    by true e = rw e (let equal : other ≡ base = (bytes_decides other base).0 e in subst (λ l. names_at new l ≡ names_at old l ++ n ∷ []) (sym equal) here)
    by false e = rw e (there e)
