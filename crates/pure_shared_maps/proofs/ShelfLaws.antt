-- A shelf's runs and its map.
use Rattle.std.proofs.Common.{◌≡◌, ℕ, zero, suc, ◌+◌, ◌<◌, ◌≤◌, ◌^◌, List, [], ◌∷◌, ◌++◌, map, length, length-append, get_or, drop, drop-cons, add-one, Option, None, Some, cond, true, false, refl, sym, ap, ◌∙◌, arith}
use Rattle.std.specs.Prelude.{is_some}
use Rattle.std.specs.Ordering.{nat_cmp, eq_by_cmp}
use Rattle.std.specs.Cmp.{nat_cmp_total}
use Rattle.std.specs.FinMap.{FinMap, from_entries, get, len, insert, find, len-empty, get-from_entries, len-insert, same_map, from_entries_push, nat_cmp-IsAntisymmetric}
use Rattle.std.specs.declared.alloc.Global.{Global}
use Rattle.std.specs.declared.sync.Arc.{Arc}
use Rattle.std.specs.declared.vec.Vec.{Vec}
use Rattle.std.proofs.lemmas.Nat.{pow_pos}
use Rattle.std.proofs.lemmas.List.{length-map}
use Rattle.pure_text.specs.Lists.{Each}
use Rattle.pure_text.proofs.ListLaws.{each_read}
use Rattle.pure_shared_maps.specs.declared.entries.Entry.{Entry}
use Rattle.pure_shared_maps.specs.Pairs.{Ascends, joined}
use Rattle.pure_shared_maps.specs.Powers.{Descends, powers_of, total}
use Rattle.pure_shared_maps.specs.Runs.{IsShelf, CanTake, HasTaken}
use Rattle.pure_shared_maps.specs.View.{pair_of, pairs_of, runs_of}
use Rattle.pure_shared_maps.proofs.PowerLaws.{are_powers, at_most_32, few_powers, total-joined, item_fits}
use Rattle.pure_shared_maps.proofs.RunLaws.{each_unmapped, runs_long}

positive : (k : ℕ) (ns : List ℕ) → Descends k ns → Each (λ n. 1 ≤ n) ns
positive k [] h = tt
positive k (n ∷ ns) h = (let p : 0 < 2 ^ h.0 = pow_pos h.0 in let n_is : n ≡ 2 ^ h.0 = h.2 in omega (arith, p, n_is), positive h.0 ns h.3)

module _ {V : Type 0} where
  pub empty_shelf : (rs : List (Arc (Vec (Entry V) Global) Global)) → rs ≡ [] → IsShelf (runs_of rs) 0
  empty_shelf rs none = rw none (record { ascend = tt; lengths = tt; long = refl; distinct = len-empty nat_cmp V })

  pub new_run : (old new : List (Entry V)) (e : Entry V) → old ≡ [] → new ≡ old ++ e ∷ [] → pairs_of new ≡ pair_of e ∷ []
  new_run old new e none more = rw (more, none) refl

  -- there are as many keys as the map has
  count_is : (runs : List (List (ℕ × V))) (count : ℕ) (m : FinMap nat_cmp V) → IsShelf runs count → from_entries (joined runs) ≡ m → len m ≡ count
  count_is runs count m is view = ap (λ (n : FinMap nat_cmp V). len n) (sym view) ∙ is.distinct

  -- A run of one pair can be put behind the runs.
  pub can_take : (runs : List (List (ℕ × V))) (run : List (ℕ × V)) (p : ℕ × V) (count : ℕ) (m : FinMap nat_cmp V) → IsShelf runs count → from_entries (joined runs) ≡ m → len m < 4294967295 → run ≡ p ∷ [] → CanTake runs run
  can_take runs run p count m is view room one = rw one (record {
    ascend = is.ascend;
    ascends = (tt, tt);
    lengths = is.lengths;
    power = (0, refl);
    least = each_unmapped length (λ n. 1 ≤ n) runs (positive 32 (map length runs) is.lengths);
    room = let l = is.long in let c = count_is runs count m is view in omega (arith, room, l, c);
  })

  -- A key that the map hasn't isn't found in the runs.
  not_found : (runs : List (List (ℕ × V))) (key : ℕ) (m : FinMap nat_cmp V) → from_entries (joined runs) ≡ m → get m key ≡ None → find nat_cmp key (joined runs) ≡ None
  not_found runs key m view fresh = sym (get-from_entries nat_cmp_total (joined runs) key) ∙ ap (λ (n : FinMap nat_cmp V). get n key) view ∙ fresh

  -- The runs after a pair was taken are the map with the pair more.
  pub more_map : (runs : List (List (ℕ × V))) (run : List (ℕ × V)) (all : List (List (ℕ × V))) (key : ℕ) (value : V) (m : FinMap nat_cmp V) → from_entries (joined runs) ≡ m → get m key ≡ None → run ≡ (key, value) ∷ [] → HasTaken runs run all → from_entries (joined all) ≡ insert m key value
  more_map runs run all key value m view fresh one has =
      let finds : (q : ℕ) → find nat_cmp q (joined all) ≡ find nat_cmp q (joined runs ++ (key, value) ∷ []) = λ q. has.same.finds q ∙ ap (λ (r : List (ℕ × V)). find nat_cmp q (joined runs ++ r)) one in
      same_map nat_cmp_total nat_cmp-IsAntisymmetric (from_entries (joined all)) (from_entries (joined runs ++ (key, value) ∷ []))
      (λ q. get-from_entries nat_cmp_total (joined all) q ∙ finds q ∙ sym (get-from_entries nat_cmp_total (joined runs ++ (key, value) ∷ []) q))
      ∙ from_entries_push nat_cmp_total nat_cmp-IsAntisymmetric (joined runs) key value (not_found runs key m view fresh)
      ∙ ap (λ (n : FinMap nat_cmp V). insert n key value) view

  pub more_shelf : (runs : List (List (ℕ × V))) (run : List (ℕ × V)) (all : List (List (ℕ × V))) (count key : ℕ) (value : V) (m : FinMap nat_cmp V) → IsShelf runs count → from_entries (joined runs) ≡ m → get m key ≡ None → run ≡ (key, value) ∷ [] → HasTaken runs run all → IsShelf all (count + 1)
  more_shelf runs run all count key value m is view fresh one has = record {
    ascend = has.ascend;
    lengths = has.lengths;
    long = has.same.long ∙ ap (λ (r : List (ℕ × V)). length (joined runs ++ r)) one ∙ length-append (joined runs) ((key, value) ∷ []) ∙ ap (λ n. n + 1) is.long;
    distinct = ap (λ (n : FinMap nat_cmp V). len n) (more_map runs run all key value m view fresh one has)
        ∙ len-insert nat_cmp_total m key value ∙ ap (λ o. cond (is_some o) (len m) (len m + 1)) fresh ∙ ap (λ n. n + 1) (count_is runs count m is view);
  }

  -- The runs' lengths are the powers of two that sum to the count.
  pub lengths_are : (runs : List (List (ℕ × V))) (count : ℕ) (m : FinMap nat_cmp V) → IsShelf runs count → from_entries (joined runs) ≡ m → powers_of (len m) ≡ map length runs
  lengths_are runs count m is view = ap powers_of (count_is runs count m is view ∙ sym is.long ∙ sym (total-joined runs)) ∙ are_powers (map length runs) is.lengths

  part_count : (v : Vec (Arc (Vec (Entry V) Global) Global) Global) (n : ℕ) → n ≡ v.len → n ≡ length (map length (runs_of v.items))
  part_count v n is = is ∙ v.ok.0 ∙ sym (runs_long v.items) ∙ sym (length-map (runs_of v.items) length)

  pub few_parts : (v : Vec (Arc (Vec (Entry V) Global) Global) Global) (count n : ℕ) → IsShelf (runs_of v.items) count → n ≡ v.len → n ≤ 32
  few_parts v count n is counted = rw (part_count v n counted) (at_most_32 (map length (runs_of v.items)) is.lengths)

  pub parts_long : (v : Vec (Arc (Vec (Entry V) Global) Global) Global) (count : ℕ) (m : FinMap nat_cmp V) (n : ℕ) → IsShelf (runs_of v.items) count → from_entries (joined (runs_of v.items)) ≡ m → n ≡ v.len → n ≡ length (powers_of (len m))
  parts_long v count m n is view counted = part_count v n counted ∙ ap (λ (ns : List ℕ). length ns) (sym (lengths_are (runs_of v.items) count m is view))

  pub parts_few : (v : Vec (Arc (Vec (Entry V) Global) Global) Global) (count : ℕ) (m : FinMap nat_cmp V) (n : ℕ) → IsShelf (runs_of v.items) count → from_entries (joined (runs_of v.items)) ≡ m → n ≡ v.len → 2 ^ n ≤ len m + 1
  parts_few v count m n is view counted =
      let sum : total (map length (runs_of v.items)) ≡ len m = total-joined (runs_of v.items) ∙ is.long ∙ sym (count_is (runs_of v.items) count m is view) in
      rw (part_count v n counted, ← sum) (few_powers 32 (map length (runs_of v.items)) is.lengths)

  abbrev or_else : Option V → Option V → Option V
  or_else None o = o
  or_else (Some v) o = Some v

  find-joined : (key : ℕ) (ps qs : List (ℕ × V)) → find nat_cmp key (ps ++ qs) ≡ or_else (find nat_cmp key ps) (find nat_cmp key qs)
  find-joined key [] qs = refl
  find-joined key (p ∷ ps) qs = elim (eq_by_cmp nat_cmp key p.0) as (λ b. cond b (Some p.1) (find nat_cmp key (ps ++ qs)) ≡ or_else (cond b (Some p.1) (find nat_cmp key ps)) (find nat_cmp key qs)) [
    | true ↦ refl
    | false ↦ find-joined key ps qs
  ]

  -- the pairs of the runs from a place on begin with those of the run at the place
  run_first : (rs : List (Arc (Vec (Entry V) Global) Global)) (i : ℕ) (r : Arc (Vec (Entry V) Global) Global) → i < length rs → r ≡ get_or rs i r → joined (runs_of (drop i rs)) ≡ pairs_of r.value.items ++ joined (runs_of (drop (i + 1) rs))
  run_first rs i r within read =
      let split : drop i rs ≡ r ∷ drop (i + 1) rs = drop-cons rs i r within ∙ rw (← read, add-one) refl in
      ap (λ (xs : List (Arc (Vec (Entry V) Global) Global)). joined (runs_of xs)) split

  pub found_in_run : (rs : List (Arc (Vec (Entry V) Global) Global)) (i : ℕ) (r : Arc (Vec (Entry V) Global) Global) (es : List (Entry V)) (key : ℕ) (value : V) (o : Option V) → i < length rs → r ≡ get_or rs i r → es ≡ r.value.items → o ≡ find nat_cmp key (joined (runs_of (drop i rs))) → find nat_cmp key (pairs_of es) ≡ Some value → o ≡ Some value
  found_in_run rs i r es key value o within read same is found =
      is ∙ ap (find nat_cmp key) (run_first rs i r within read) ∙ find-joined key (pairs_of r.value.items) (joined (runs_of (drop (i + 1) rs)))
      ∙ ap (λ (x : Option V). or_else x (find nat_cmp key (joined (runs_of (drop (i + 1) rs))))) (ap (λ (xs : List (Entry V)). find nat_cmp key (pairs_of xs)) (sym same) ∙ found)

  pub not_in_run : (rs : List (Arc (Vec (Entry V) Global) Global)) (i : ℕ) (r : Arc (Vec (Entry V) Global) Global) (es : List (Entry V)) (key : ℕ) (o : Option V) → i < length rs → r ≡ get_or rs i r → es ≡ r.value.items → o ≡ find nat_cmp key (joined (runs_of (drop i rs))) → find nat_cmp key (pairs_of es) ≡ None → o ≡ find nat_cmp key (joined (runs_of (drop (i + 1) rs)))
  not_in_run rs i r es key o within read same is missed =
      is ∙ ap (find nat_cmp key) (run_first rs i r within read) ∙ find-joined key (pairs_of r.value.items) (joined (runs_of (drop (i + 1) rs)))
      ∙ ap (λ (x : Option V). or_else x (find nat_cmp key (joined (runs_of (drop (i + 1) rs))))) (ap (λ (xs : List (Entry V)). find nat_cmp key (pairs_of xs)) (sym same) ∙ missed)

  pub run_ascends : (rs : List (Arc (Vec (Entry V) Global) Global)) (i : ℕ) (r : Arc (Vec (Entry V) Global) Global) (es : List (Entry V)) → i < length rs → r ≡ get_or rs i r → es ≡ r.value.items → Each Ascends (runs_of rs) → Ascends (pairs_of es)
  run_ascends rs i r es within read same up =
      rw same (each_read (λ (x : Arc (Vec (Entry V) Global) Global). Ascends (pairs_of x.value.items)) rs i r within read (each_unmapped (λ (x : Arc (Vec (Entry V) Global) Global). pairs_of x.value.items) Ascends rs up))

  pub all_runs : (rs : List (Arc (Vec (Entry V) Global) Global)) (ps : List (Arc (Vec (Entry V) Global) Global)) (key : ℕ) (m : FinMap nat_cmp V) → ps ≡ rs → from_entries (joined (runs_of rs)) ≡ m → get m key ≡ find nat_cmp key (joined (runs_of ps))
  all_runs rs ps key m same view = rw same (ap (λ (n : FinMap nat_cmp V). get n key) (sym view) ∙ get-from_entries nat_cmp_total (joined (runs_of rs)) key)

  pub place_within : (rs ps : List (Arc (Vec (Entry V) Global) Global)) (count place : ℕ) (m : FinMap nat_cmp V) → ps ≡ rs → IsShelf (runs_of rs) count → from_entries (joined (runs_of rs)) ≡ m → place < length (powers_of (len m)) → place < length ps
  place_within rs ps count place m same is view within =
      let long : length (powers_of (len m)) ≡ length rs = ap (λ (ns : List ℕ). length ns) (lengths_are (runs_of rs) count m is view) ∙ length-map (runs_of rs) length ∙ runs_long rs in
      rw same (rw long at within)

  len_at : (rs : List (Arc (Vec (Entry V) Global) Global)) (i : ℕ) (r : Arc (Vec (Entry V) Global) Global) → i < length rs → r ≡ get_or rs i r → get_or (map length (runs_of rs)) i 0 ≡ length r.value.items
  len_at [] i r within read = absurd (omega arith)
  len_at (x ∷ rs) zero r within read = length-map x.value.items pair_of ∙ ap (λ (y : Arc (Vec (Entry V) Global) Global). length y.value.items) (sym read)
  len_at (x ∷ rs) (suc i) r within read = len_at rs i r (omega arith) read

  pub len_of_run : (rs ps : List (Arc (Vec (Entry V) Global) Global)) (count place : ℕ) (m : FinMap nat_cmp V) (r : Arc (Vec (Entry V) Global) Global) (v : Vec (Entry V) Global) (n : ℕ) → ps ≡ rs → IsShelf (runs_of rs) count → from_entries (joined (runs_of rs)) ≡ m → place < length ps → r ≡ get_or ps place r → v ≡ r.value → n ≡ v.len → n ≡ get_or (powers_of (len m)) place 0
  len_of_run rs ps count place m r v n same is view within read behind counted =
      let here : get_or (map length (runs_of rs)) place 0 ≡ length r.value.items = len_at rs place r (rw same at within) (rw same at read) in
      counted ∙ v.ok.0 ∙ ap (λ (w : Vec (Entry V) Global). length w.items) behind ∙ sym here ∙ ap (λ (ns : List ℕ). get_or ns place 0) (sym (lengths_are (runs_of rs) count m is view))

  pub run_fits : (rs : List (Arc (Vec (Entry V) Global) Global)) (count place : ℕ) (m : FinMap nat_cmp V) (n : ℕ) → IsShelf (runs_of rs) count → from_entries (joined (runs_of rs)) ≡ m → n ≡ get_or (powers_of (len m)) place 0 → n < 2 ^ 32
  run_fits rs count place m n is view same = rw same (rw (lengths_are (runs_of rs) count m is view) (item_fits (map length (runs_of rs)) place is.lengths))
