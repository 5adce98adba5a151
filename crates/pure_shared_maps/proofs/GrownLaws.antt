-- Lists and maps that grow: their fronts, and what is put over them.
use Rattle.std.proofs.Common.{◌≡◌, ◌⊎◌, ℕ, ◌+◌, ◌<◌, List, [], ◌∷◌, ◌++◌, length, get_or, take, map, refl, sym, ap, ◌∙◌, inl, inr, append_assoc, arith, Option, None, Some, cond, true, false, Bool}
use Rattle.std.specs.Ordering.{nat_cmp, eq_by_cmp}
use Rattle.std.specs.Cmp.{nat_cmp_total, eq_by_cmp_equiv}
use Rattle.std.specs.FinMap.{FinMap, from_entries, get, insert, find, get-from_entries, get-insert, get-empty, same_map, nat_cmp-IsAntisymmetric}
use Rattle.std.specs.BTreeMap.{BTreeMap, is_at, Updates}
use Rattle.std.specs.BTreeMap as tree
use Rattle.std.specs.Map.{lookup}
use Rattle.std.specs.List.{AllZip}
use Rattle.std.specs.declared.alloc.Global.{Global}
use Rattle.std.specs.declared.sync.Arc.{Arc}
use Rattle.std.specs.Arc.{arc_value}
use Rattle.std.proofs.lemmas.Bool.Decides.{nat_tests}
use Rattle.std.proofs.lemmas.List.{map-append}
use Rattle.pure_text.proofs.LoopLaws.{longer_by}
use Rattle.pure_shared_maps.specs.declared.entries.Entry.{Entry}
use Rattle.pure_shared_maps.specs.View.{front_map, map_of, pair_of, pairs_of, puts, values_of}

module _ {V : Type 0} where
  -- Clones of pointers point to the same values.
  pub values_same : (xs ys : List (Arc V Global)) → AllZip (λ x y. arc_value y ≡ arc_value x) xs ys → values_of ys ≡ values_of xs
  values_same [] [] h = refl
  values_same [] (y ∷ ys) h = absurd h
  values_same (x ∷ xs) [] h = absurd h
  values_same (x ∷ xs) (y ∷ ys) h = ap (λ v. v ∷ values_of ys) h.0 ∙ ap (λ vs. arc_value x ∷ vs) (values_same xs ys h.1)

  abbrev pair : ℕ × Arc V Global → ℕ × V
  pair e = (e.0, arc_value e.1)

  abbrev value_in : Option (Arc V Global) → Option V
  value_in None = None
  value_in (Some p) = Some (arc_value p)

  find_values : (q : ℕ) (es : List (ℕ × Arc V Global)) → find nat_cmp q (map pair es) ≡ value_in (lookup (is_at (nat_cmp q)) es)
  find_values q [] = refl
  find_values q (e ∷ es) = by (eq_by_cmp nat_cmp q e.0) (find_values q es)
    where
      by : (b : Bool) → find nat_cmp q (map pair es) ≡ value_in (lookup (is_at (nat_cmp q)) es) → cond b (Some (arc_value e.1)) (find nat_cmp q (map pair es)) ≡ value_in (cond b (Some e.1) (lookup (is_at (nat_cmp q)) es))
      by true same = refl
      by false same = same

  -- what the map of a tree has at a key
  get_map : (b : BTreeMap ℕ (Arc V Global)) (q : ℕ) → get (map_of b) q ≡ value_in (tree.get nat_cmp b q)
  get_map b q = get-from_entries nat_cmp_total (map pair b.entries) q ∙ find_values q b.entries

  pub none_in_front : (f : Option (Arc (BTreeMap ℕ (Arc V Global)) Global)) (a : Arc (BTreeMap ℕ (Arc V Global)) Global) (q : ℕ) → f ≡ Some a → None ≡ tree.get nat_cmp (arc_value a) q → get (front_map f) q ≡ None
  none_in_front f a q is none = rw is (get_map (arc_value a) q ∙ ap value_in (sym none))

  pub some_in_front : (f : Option (Arc (BTreeMap ℕ (Arc V Global)) Global)) (a : Arc (BTreeMap ℕ (Arc V Global)) Global) (p : Arc V Global) (q : ℕ) (v : V) → f ≡ Some a → Some p ≡ tree.get nat_cmp (arc_value a) q → v ≡ arc_value p → get (front_map f) q ≡ Some v
  some_in_front f a p q v is found same = rw is (get_map (arc_value a) q ∙ ap value_in (sym found) ∙ ap (λ x. Some x) (sym same))

  pub no_front : (f : Option (Arc (BTreeMap ℕ (Arc V Global)) Global)) (q : ℕ) → f ≡ None → get (front_map f) q ≡ None
  no_front f q is = rw is (get-empty nat_cmp q)

  pub puts-append : (m : FinMap nat_cmp V) (ps qs : List (ℕ × V)) → puts m (ps ++ qs) ≡ puts (puts m ps) qs
  puts-append m [] qs = refl
  puts-append m (p ∷ ps) qs = puts-append (insert m p.0 p.1) ps qs

  -- the entries before a place, and the one there
  entries_turn : (m : FinMap nat_cmp V) (es : List (Entry V)) (i : ℕ) (e : Entry V) → i < length es → e ≡ get_or es i e → puts m (pairs_of (take (i + 1) es)) ≡ insert (puts m (pairs_of (take i es))) e.key (arc_value e.value)
  entries_turn m es i e within read =
      ap (λ xs. puts m (pairs_of xs)) (longer_by es i e within read) ∙ ap (puts m) (map-append pair_of (take i es) (e ∷ [])) ∙ puts-append m (pairs_of (take i es)) (pair_of e ∷ [])

  pub insert_same : (m : FinMap nat_cmp V) (k q : ℕ) (v : V) → k ≡ q → get (insert m k v) q ≡ Some v
  insert_same m k q v same = get-insert nat_cmp_total m k v q ∙ (let here : eq_by_cmp nat_cmp q k ≡ true = grind (arith, nat_tests, same) in ap (λ b. cond b (Some v) (get m q)) here)

  pub insert_other : (m : FinMap nat_cmp V) (k q : ℕ) (v : V) → ¬ (k ≡ q) → get (insert m k v) q ≡ get m q
  insert_other m k q v other = get-insert nat_cmp_total m k v q ∙ (let here : eq_by_cmp nat_cmp q k ≡ false = grind (arith, nat_tests, other) in ap (λ b. cond b (Some v) (get m q)) here)

  -- What is found of a map with some entries put in: what the last of them has, or what the map had.
  pub found_last : (m : FinMap nat_cmp V) (es : List (Entry V)) (i : ℕ) (e : Entry V) (q : ℕ) (v : V) → i < length es → e ≡ get_or es i e → e.key ≡ q → v ≡ arc_value e.value → get (puts m (pairs_of (take (i + 1) es))) q ≡ Some v
  found_last m es i e q v within read same is = ap (λ (n : FinMap nat_cmp V). get n q) (entries_turn m es i e within read) ∙ insert_same (puts m (pairs_of (take i es))) e.key q (arc_value e.value) same ∙ ap (λ x. Some x) (sym is)

  pub passed_last : (m : FinMap nat_cmp V) (es : List (Entry V)) (i : ℕ) (e : Entry V) (q : ℕ) → i < length es → e ≡ get_or es i e → ¬ (e.key ≡ q) → get (puts m (pairs_of (take (i + 1) es))) q ≡ get (puts m (pairs_of (take i es))) q
  passed_last m es i e q within read other = ap (λ (n : FinMap nat_cmp V). get n q) (entries_turn m es i e within read) ∙ insert_other (puts m (pairs_of (take i es))) e.key q (arc_value e.value) other

  -- An entry that a tree takes.
  pub put_map : (old new : BTreeMap ℕ (Arc V Global)) (k : ℕ) (p : Arc V Global) (v : V) → Updates nat_cmp old new k (Some p) → arc_value p ≡ v → map_of new ≡ insert (map_of old) k v
  put_map old new k p v updates is =
      same_map nat_cmp_total nat_cmp-IsAntisymmetric (map_of new) (insert (map_of old) k v)
      (λ q. get_map new q ∙ ap value_in (updates.0 q) ∙ by q (eq_by_cmp nat_cmp k q) ∙ ap (λ b. cond b (Some v) (get (map_of old) q)) ((eq_by_cmp_equiv nat_cmp_total).symm k q) ∙ sym (get-insert nat_cmp_total (map_of old) k v q))
    where
      by : (q : ℕ) (b : Bool) → value_in (cond b (Some p) (tree.get nat_cmp old q)) ≡ cond b (Some v) (get (map_of old) q)
      by q true = ap (λ x. Some x) is
      by q false = sym (get_map old q)

  pub put_turn : (now next : BTreeMap ℕ (Arc V Global)) (m : FinMap nat_cmp V) (es : List (Entry V)) (i : ℕ) (e : Entry V) → i < length es → e ≡ get_or es i e → map_of next ≡ insert (map_of now) e.key (arc_value e.value) → map_of now ≡ puts m (pairs_of (take i es)) → map_of next ≡ puts m (pairs_of (take (i + 1) es))
  put_turn now next m es i e within read put before = put ∙ ap (λ (n : FinMap nat_cmp V). insert n e.key (arc_value e.value)) before ∙ sym (entries_turn m es i e within read)

  cloned_pairs : (xs ys : List (ℕ × Arc V Global)) → AllZip (λ p q. (q.0 ≡ p.0) × (arc_value q.1 ≡ arc_value p.1)) xs ys → map pair ys ≡ map pair xs
  cloned_pairs [] [] h = refl
  cloned_pairs [] (y ∷ ys) h = absurd h
  cloned_pairs (x ∷ xs) [] h = absurd h
  cloned_pairs (x ∷ xs) (y ∷ ys) h = λ i. (h.0.0 i, h.0.1 i) ∷ cloned_pairs xs ys h.1 i

  -- A clone of a tree has the same map.
  pub cloned_map : (f : Option (Arc (BTreeMap ℕ (Arc V Global)) Global)) (a : Arc (BTreeMap ℕ (Arc V Global)) Global) (b copy : BTreeMap ℕ (Arc V Global)) → f ≡ Some a → b ≡ arc_value a → AllZip (λ p q. (q.0 ≡ p.0) × (arc_value q.1 ≡ arc_value p.1)) b.entries copy.entries → map_of copy ≡ front_map f
  cloned_map f a b copy is same h = rw (is, ← same) (ap (from_entries {R = nat_cmp}) (cloned_pairs b.entries copy.entries h))

  -- some entries put in, and then more
  pub put_more : (f : FinMap nat_cmp V) (r r' es : List (Entry V)) (m : FinMap nat_cmp V) → puts f (pairs_of r) ≡ m → r' ≡ r ++ es → puts f (pairs_of r') ≡ puts m (pairs_of es)
  put_more f r r' es m view longer = ap (λ xs. puts f (pairs_of xs)) longer ∙ ap (puts f) (map-append pair_of r es) ∙ puts-append f (pairs_of r) (pairs_of es) ∙ ap (λ (n : FinMap nat_cmp V). puts n (pairs_of es)) view

  -- A tree, or a clone of it, has the same map.
  pub owned_map : (own all : BTreeMap ℕ (Arc V Global)) → (all ≡ own) ⊎ AllZip (λ p q. (q.0 ≡ p.0) × (arc_value q.1 ≡ arc_value p.1)) own.entries all.entries → map_of all ≡ map_of own
  owned_map own all (inl same) = ap (λ (b : BTreeMap ℕ (Arc V Global)). map_of b) same
  owned_map own all (inr clone) = ap (from_entries {R = nat_cmp}) (cloned_pairs own.entries all.entries clone)

  -- Entries put into a tree that is a front's, or a clone of it.
  pub folded_map : (front : FinMap nat_cmp V) (own all next : BTreeMap ℕ (Arc V Global)) (ps : List (ℕ × V)) → map_of own ≡ front → (all ≡ own) ⊎ AllZip (λ p q. (q.0 ≡ p.0) × (arc_value q.1 ≡ arc_value p.1)) own.entries all.entries → map_of next ≡ puts (map_of all) ps → map_of next ≡ puts front ps
  folded_map front own all next ps held same put = put ∙ ap (λ (m : FinMap nat_cmp V). puts m ps) (owned_map own all same ∙ held)

  -- The same of a list.
  pub folded_list : (front : List V) (own all next items : List (Arc V Global)) → values_of own ≡ front → (all ≡ own) ⊎ AllZip (λ x y. arc_value y ≡ arc_value x) own all → next ≡ all ++ items → values_of next ≡ front ++ values_of items
  folded_list front own all next items held same put =
      let whole : values_of all ≡ front = elim same [ inl e ↦ ap (λ (xs : List (Arc V Global)). values_of xs) e ∙ held | inr clone ↦ values_same own all clone ∙ held ] in
      ap (λ (xs : List (Arc V Global)). values_of xs) put ∙ map-append arc_value all items ∙ ap (λ (vs : List V). vs ++ values_of items) whole

  -- a front and some elements behind it, and one more
  pub one_behind : (front : List V) (r r' : List (Arc V Global)) (p : Arc V Global) (l : List V) → front ++ values_of r ≡ l → r' ≡ r ++ p ∷ [] → front ++ values_of r' ≡ l ++ arc_value p ∷ []
  one_behind front r r' p l view longer =
      ap (λ (xs : List (Arc V Global)). front ++ values_of xs) longer ∙ ap (λ (vs : List V). front ++ vs) (map-append arc_value r (p ∷ [])) ∙ sym (append_assoc front (values_of r) (arc_value p ∷ [])) ∙ ap (λ (vs : List V). vs ++ arc_value p ∷ []) view
