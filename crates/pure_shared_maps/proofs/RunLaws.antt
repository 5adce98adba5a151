-- Runs that take one run more.
use Rattle.std.proofs.Common.{◌≡◌, ℕ, suc, ◌+◌, ◌≤◌, ◌<◌, ◌^◌, List, [], ◌∷◌, ◌++◌, map, length, length-append, append_assoc, refl, sym, ap, ◌∙◌, arith, inl, inr, ◌↔◌, Result, Ok, Err, IfOk}
use Rattle.std.proofs.lemmas.List.{append-nil, length-map, map-append}
use Rattle.std.proofs.lemmas.Bool.{cases_lt}
use Rattle.std.proofs.Math.Pow.{pow_mono}
use Rattle.std.specs.List.{AllZip}
use Rattle.std.specs.declared.alloc.Global.{Global}
use Rattle.std.specs.declared.sync.Arc.{Arc}
use Rattle.std.specs.declared.vec.Vec.{Vec}
use Rattle.std.specs.Arc.{arc_value}
use Rattle.pure_text.specs.Lists.{Each}
use Rattle.pure_text.proofs.ListLaws.{each-append, each-left, each-right, each_imply}
use Rattle.pure_shared_maps.specs.declared.entries.Entry.{Entry}
use Rattle.pure_shared_maps.specs.Pairs.{Ascends, HasSame, joined}
use Rattle.pure_shared_maps.specs.Powers.{Descends, IsPower}
use Rattle.pure_shared_maps.specs.Runs.{CanTake, HasTaken}
use Rattle.pure_shared_maps.specs.View.{pair_of, pairs_of, runs_of}
use Rattle.pure_shared_maps.proofs.MergeLaws.{find_under}
use Rattle.pure_shared_maps.proofs.PowerLaws.{twice}

less_exponent : (e f : ℕ) → 2 ^ e < 2 ^ f → e < f
less_exponent e f less = elim (cases_lt e f) [
  | inl below ↦ below
  | inr above ↦ (let most : 2 ^ f ≤ 2 ^ e = pow_mono above in absurd (omega (arith, most, less)))
]

last_half : (k m : ℕ) (ns : List ℕ) → Descends k (ns ++ m ∷ []) → m + m ≤ 2 ^ k
last_half k m [] h = rw h.2 (twice h.0 k h.1)
last_half k m (n ∷ ns) h = let most : 2 ^ h.0 + 2 ^ h.0 ≤ 2 ^ k = twice h.0 k h.1 in omega (arith, most, last_half h.0 m ns h.3)

-- The numbers before the last are at least twice the last.
before_last : (k m : ℕ) (ns : List ℕ) → Descends k (ns ++ m ∷ []) → Each (λ n. m + m ≤ n) ns
before_last k m [] h = tt
before_last k m (n ∷ ns) h = (rw h.2 (last_half h.0 m ns h.3), before_last h.0 m ns h.3)

front_descends : (k m : ℕ) (ns : List ℕ) → Descends k (ns ++ m ∷ []) → Descends k ns
front_descends k m [] h = tt
front_descends k m (n ∷ ns) h = (h.0, h.1, h.2, front_descends h.0 m ns h.3)

-- A power of two that is less than the numbers goes behind them.
descends_further : (k m : ℕ) (ns : List ℕ) → Descends k ns → IsPower m → m < 2 ^ k → Each (λ n. m < n) ns → Descends k (ns ++ m ∷ [])
descends_further k m [] h power below least = (power.0, less_exponent power.0 k (rw power.1 at below), power.1, tt)
descends_further k m (n ∷ ns) h power below least = (h.0, h.1, h.2, descends_further h.0 m ns h.3 power (rw h.2 at least.0) least.1)

pub each_unmapped : {A B : Type 0} (f : A → B) (P : B → Type 0) (xs : List A) → Each P (map f xs) → Each (λ x. P (f x)) xs
each_unmapped f P [] h = tt
each_unmapped f P (x ∷ xs) h = (h.0, each_unmapped f P xs h.1)

power_twice : (n m l : ℕ) → IsPower n → l ≡ n → m ≡ l + n → IsPower m
power_twice n m l power same is = (suc power.0, (let p : n ≡ 2 ^ power.0 = power.1 in omega (arith, p)))

pub if_ok_then : {A E : Type 0} (P Q : A → Type 0) (r : Result A E) → IfOk r P → ((x : A) → P x → Q x) → IfOk r Q
if_ok_then P Q (Ok x) h f = f x h
if_ok_then P Q (Err e) h f = h

module _ {V : Type 0} where
  -- Clones of pointers point to the same runs.
  pub runs_same : (xs ys : List (Arc (Vec (Entry V) Global) Global)) → AllZip (λ x y. arc_value y ≡ arc_value x) xs ys → runs_of ys ≡ runs_of xs
  runs_same [] [] h = refl
  runs_same [] (y ∷ ys) h = absurd h
  runs_same (x ∷ xs) [] h = absurd h
  runs_same (x ∷ xs) (y ∷ ys) h = λ i. pairs_of (h.0 i).items ∷ runs_same xs ys h.1 i

  pub runs_split : (xs rest : List (Arc (Vec (Entry V) Global) Global)) (x : Arc (Vec (Entry V) Global) Global) (v : Vec (Entry V) Global) → v ≡ x.value → xs ≡ rest ++ x ∷ [] → runs_of xs ≡ runs_of rest ++ pairs_of v.items ∷ []
  runs_split xs rest x v same is = rw (is, same) (map-append (λ (r : Arc (Vec (Entry V) Global) Global). pairs_of r.value.items) rest (x ∷ []))

  pub lens-last : (runs : List (List (ℕ × V))) (run : List (ℕ × V)) → map length (runs ++ run ∷ []) ≡ map length runs ++ length run ∷ []
  lens-last runs run = map-append length runs (run ∷ [])

  pub joined-last : (runs : List (List (ℕ × V))) (run : List (ℕ × V)) → joined (runs ++ run ∷ []) ≡ joined runs ++ run
  joined-last [] run = append-nil run
  joined-last (r ∷ runs) run = ap (λ qs. r ++ qs) (joined-last runs run) ∙ sym (append_assoc r (joined runs) run)

  -- A new run that is shorter than the last goes behind the runs.
  put_behind : (runs : List (List (ℕ × V))) (run : List (ℕ × V)) → CanTake runs run → Each (λ n. length run < n) (map length runs) → HasTaken runs run (runs ++ run ∷ [])
  put_behind runs run can least = record {
    ascend = each-append Ascends runs (run ∷ []) can.ascend (can.ascends, tt);
    lengths = rw (lens-last runs run) (descends_further 32 (length run) (map length runs) can.lengths can.power (omega (arith, can.room)) least);
    same = rw (joined-last runs run) (record { long = refl; finds = λ key. refl });
  }

  pub put_first : (runs all : List (List (ℕ × V))) (run : List (ℕ × V)) → CanTake runs run → length runs ≡ 0 → all ≡ runs ++ run ∷ [] → HasTaken runs run all
  put_first [] all run can none is = rw is (put_behind [] run can tt)
  put_first (r ∷ runs) all run can none is = absurd (omega (arith, none))

  pub put_last : (runs rest all : List (List (ℕ × V))) (last run : List (ℕ × V)) → CanTake runs run → runs ≡ rest ++ last ∷ [] → ¬ (length last ≡ length run) → all ≡ runs ++ run ∷ [] → HasTaken runs run all
  put_last runs rest all last run can split other is =
      let least = each-right (λ (r : List (ℕ × V)). length run ≤ length r) rest (last ∷ []) (rw split at can.least) in
      let less : length run < length last = omega (arith, least.0, other) in
      let lens : map length runs ≡ map length rest ++ length last ∷ [] = ap (λ (rs : List (List (ℕ × V))). map length rs) split ∙ lens-last rest last in
      let down = rw lens at can.lengths in
      let each : Each (λ n. length run < n) (map length runs) = rw lens (each-append (λ n. length run < n) (map length rest) (length last ∷ []) (each_imply (λ n. length last + length last ≤ n) (λ n. length run < n) (map length rest) (λ n h. omega (arith, less, h)) (before_last 32 (length last) (map length rest) down)) (less, tt)) in
      rw is (put_behind runs run can each)

  -- The last run, merged with the new one, is a new run for those before it.
  pub merges : (runs rest : List (List (ℕ × V))) (last run new : List (ℕ × V)) → CanTake runs run → runs ≡ rest ++ last ∷ [] → length last ≡ length run → Ascends new → HasSame new (last ++ run) → CanTake rest new
  merges runs rest last run new can split equal up same =
      let long : length new ≡ length last + length run = same.long ∙ length-append last run in
      let lens : map length runs ≡ map length rest ++ length last ∷ [] = ap (λ (rs : List (List (ℕ × V))). map length rs) split ∙ lens-last rest last in
      let down = rw lens at can.lengths in
      let all : length (joined runs) ≡ length (joined rest) + length last = ap (λ (rs : List (List (ℕ × V))). length (joined rs)) split ∙ ap length (joined-last rest last) ∙ length-append (joined rest) last in
      let twice_last : length new ≡ length last + length last = omega (arith, long, equal) in
      let ascend = rw split at can.ascend in
      record {
        ascend = each-left Ascends rest (last ∷ []) ascend;
        ascends = up;
        lengths = front_descends 32 (length last) (map length rest) down;
        power = power_twice (length run) (length new) (length last) can.power equal long;
        least = each_unmapped length (λ n. length new ≤ n) rest (each_imply (λ n. length last + length last ≤ n) (λ n. length new ≤ n) (map length rest) (λ n h. omega (arith, twice_last, h)) (before_last 32 (length last) (map length rest) down));
        room = omega (arith, can.room, long, all);
      }

  -- What the runs before the last took of the merged run, all took of the new one.
  pub taken : (runs rest all : List (List (ℕ × V))) (last run new : List (ℕ × V)) → runs ≡ rest ++ last ∷ [] → HasSame new (last ++ run) → HasTaken rest new all → HasTaken runs run all
  taken runs rest all last run new split same has =
      let whole : joined runs ++ run ≡ joined rest ++ (last ++ run) = ap (λ (rs : List (List (ℕ × V))). joined rs ++ run) split ∙ ap (λ (ps : List (ℕ × V)). ps ++ run) (joined-last rest last) ∙ append_assoc (joined rest) last run in
      record {
        ascend = has.ascend;
        lengths = has.lengths;
        same = rw whole (record {
          long = has.same.long ∙ length-append (joined rest) new ∙ ap (λ n. length (joined rest) + n) same.long ∙ sym (length-append (joined rest) (last ++ run));
          finds = λ key. has.same.finds key ∙ find_under key (joined rest) new (last ++ run) (same.finds key);
        });
      }

  -- As many pairs as entries.
  pub lens_alike : (v w : Vec (Entry V) Global) (m n : ℕ) → m ≡ v.len → n ≡ w.len → (m ≡ n) ↔ (length (pairs_of v.items) ≡ length (pairs_of w.items))
  lens_alike v w m n em en =
      let ev : m ≡ length (pairs_of v.items) = em ∙ v.ok.0 ∙ sym (length-map v.items pair_of) in
      let ew : n ≡ length (pairs_of w.items) = en ∙ w.ok.0 ∙ sym (length-map w.items pair_of) in
      (λ h. sym ev ∙ h ∙ ew, λ h. ev ∙ h ∙ sym ew)

  pub runs_long : (rs : List (Arc (Vec (Entry V) Global) Global)) → length (runs_of rs) ≡ length rs
  runs_long rs = length-map rs (λ (r : Arc (Vec (Entry V) Global) Global). pairs_of r.value.items)

  pub last_ascends : (runs rest : List (List (ℕ × V))) (last run : List (ℕ × V)) → CanTake runs run → runs ≡ rest ++ last ∷ [] → Ascends last
  last_ascends runs rest last run can split = (each-right Ascends rest (last ∷ []) (rw split at can.ascend)).0
