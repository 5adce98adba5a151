-- Merging two lists of pairs.
use Rattle.std.proofs.Common.{◌≡◌, ℕ, ◌≤◌, ◌<◌, List, [], ◌∷◌, ◌++◌, length, length-append, append_assoc, drop, Some, refl, sym, ap, ◌∙◌, arith, cond, inl, inr, ◌⊎◌, false, ◌==◌}
use Rattle.std.specs.Ordering.{nat_cmp, eq_by_cmp}
use Rattle.std.specs.FinMap.{find}
use Rattle.std.proofs.lemmas.Bool.Decides.{nat_tests}
use Rattle.std.proofs.lemmas.List.{append-nil, drop-map, map-append}
use Rattle.pure_text.specs.Lists.{Each}
use Rattle.pure_text.proofs.ListLaws.{each_imply, each-append}
use Rattle.pure_shared_maps.specs.Pairs.{Ascends, HasSame}
use Rattle.pure_shared_maps.specs.declared.entries.Entry.{Entry}
use Rattle.pure_shared_maps.specs.View.{pair_of, pairs_of}
use Rattle.pure_shared_maps.proofs.FindLaws.{each_above, nothing_left}

-- The pairs that were taken, and what is left of two lists: each of these goes on from what was taken, and nothing was lost.
pub record IsMerging {V : Type 0} (all done left right : List (ℕ × V)) : Type 0 where
  pub first : Ascends (done ++ left)
  pub second : Ascends (done ++ right)
  pub same : HasSame (done ++ (left ++ right)) all

module _ {V : Type 0} where
  -- A pair that isn't greater than what follows goes between.
  squeezed : (done : List (ℕ × V)) (a : ℕ × V) (left right : List (ℕ × V)) → Ascends (done ++ a ∷ left) → Ascends (done ++ right) → Each (λ p. a.0 ≤ p.0) right → Ascends ((done ++ a ∷ []) ++ right)
  squeezed [] a left right up next least = (least, next)
  squeezed (d ∷ done) a left right up next least = (each_between d.0 done a left right up.0 next.0, squeezed done a left right up.1 next.1 least)
    where
      each_between : (m : ℕ) (done : List (ℕ × V)) (a : ℕ × V) (left right : List (ℕ × V)) → Each (λ p. m ≤ p.0) (done ++ a ∷ left) → Each (λ p. m ≤ p.0) (done ++ right) → Each (λ p. m ≤ p.0) ((done ++ a ∷ []) ++ right)
      each_between m [] a left right up next = (up.0, next)
      each_between m (d ∷ done) a left right up next = (up.0, each_between m done a left right up.1 next.1)

  tail_ascends : (done qs : List (ℕ × V)) → Ascends (done ++ qs) → Ascends qs
  tail_ascends [] qs h = h
  tail_ascends (d ∷ done) qs h = tail_ascends done qs h.1

  each_least : (k m : ℕ) (ps : List (ℕ × V)) → k ≤ m → Each (λ p. m ≤ p.0) ps → Each (λ p. k ≤ p.0) ps
  each_least k m ps le h = each_imply (λ p. m ≤ p.0) (λ p. k ≤ p.0) ps (λ p h. omega (arith, le, h)) h

  -- The first pair of the left list is next.
  pub takes_left : (all done : List (ℕ × V)) (a : ℕ × V) (left : List (ℕ × V)) (b : ℕ × V) (right : List (ℕ × V)) → IsMerging all done (a ∷ left) (b ∷ right) → a.0 ≤ b.0 → IsMerging all (done ++ a ∷ []) left (b ∷ right)
  takes_left all done a left b right m least = record {
    first = rw (append_assoc done (a ∷ []) left) m.first;
    second = squeezed done a left (b ∷ right) m.first m.second (least, each_least a.0 b.0 right least (tail_ascends done (b ∷ right) m.second).0);
    same = rw (append_assoc done (a ∷ []) (left ++ b ∷ right)) m.same;
  }

  -- A pair may be found before pairs whose keys are greater.
  find_moved : (key : ℕ) (b : ℕ × V) (left right : List (ℕ × V)) → Each (λ p. b.0 < p.0) left → find nat_cmp key (b ∷ (left ++ right)) ≡ find nat_cmp key (left ++ b ∷ right)
  find_moved key b [] right h = refl
  find_moved key b (a ∷ left) right h = grind (arith, nat_tests, h.0, find_moved key b left right h.1)

  pub find_under : (key : ℕ) (done ps qs : List (ℕ × V)) → find nat_cmp key ps ≡ find nat_cmp key qs → find nat_cmp key (done ++ ps) ≡ find nat_cmp key (done ++ qs)
  find_under key [] ps qs h = h
  find_under key (d ∷ done) ps qs h = ap (cond (eq_by_cmp nat_cmp key d.0) (Some d.1)) (find_under key done ps qs h)

  long_moved : (done : List (ℕ × V)) (b : ℕ × V) (left right : List (ℕ × V)) → length (done ++ b ∷ (left ++ right)) ≡ length (done ++ (left ++ b ∷ right))
  long_moved done b left right = rw (length-append done (b ∷ (left ++ right)), length-append done (left ++ b ∷ right), length-append left (b ∷ right), length-append left right) (omega arith)

  -- The first pair of the right list is next.
  pub takes_right : (all done : List (ℕ × V)) (a : ℕ × V) (left : List (ℕ × V)) (b : ℕ × V) (right : List (ℕ × V)) → IsMerging all done (a ∷ left) (b ∷ right) → b.0 < a.0 → IsMerging all (done ++ b ∷ []) (a ∷ left) right
  takes_right all done a left b right m least =
      let above : Each (λ p. b.0 < p.0) (a ∷ left) = (least, each_above b.0 a.0 left least (tail_ascends done (a ∷ left) m.first).0) in
      record {
        first = squeezed done b right (a ∷ left) m.second m.first (omega arith, each_least b.0 a.0 left (omega arith) (tail_ascends done (a ∷ left) m.first).0);
        second = rw (append_assoc done (b ∷ []) right) m.second;
        same = rw (append_assoc done (b ∷ []) (a ∷ left ++ right)) (record {
          long = long_moved done b (a ∷ left) right ∙ m.same.long;
          finds = λ key. find_under key done (b ∷ (a ∷ left ++ right)) (a ∷ left ++ b ∷ right) (find_moved key b (a ∷ left) right above) ∙ m.same.finds key;
        });
      }

  pub left_step : (all done next : List (ℕ × V)) (a : ℕ × V) (left rest : List (ℕ × V)) (b : ℕ × V) (right others : List (ℕ × V)) → left ≡ a ∷ rest → right ≡ b ∷ others → next ≡ done ++ a ∷ [] → a.0 ≤ b.0 → IsMerging all done left right → IsMerging all next rest right
  left_step all done next a left rest b right others el er en least m = rw (en, er) (takes_left all done a rest b others (rw (el, er) at m) least)

  pub right_step : (all done next : List (ℕ × V)) (a : ℕ × V) (left rest : List (ℕ × V)) (b : ℕ × V) (right others : List (ℕ × V)) → left ≡ a ∷ rest → right ≡ b ∷ others → next ≡ done ++ b ∷ [] → b.0 < a.0 → IsMerging all done left right → IsMerging all next left others
  right_step all done next a left rest b right others el er en least m = rw (en, el) (takes_right all done a rest b others (rw (el, er) at m) least)

  -- Where one list is taken, the other is what is left.
  one_left : (all done left right : List (ℕ × V)) → IsMerging all done left right → (left ≡ []) ⊎ (right ≡ []) → Ascends ((done ++ left) ++ right)
  one_left all done left right m (inl none) = rw (none, append-nil done) m.second
  one_left all done left right m (inr none) = rw (none, append-nil (done ++ left)) m.first

  pub all_ascends : (all done left right next last : List (ℕ × V)) → IsMerging all done left right → (left ≡ []) ⊎ (right ≡ []) → next ≡ done ++ left → last ≡ next ++ right → Ascends last
  all_ascends all done left right next last m ended en el = rw (el, en) (one_left all done left right m ended)

  pub all_same : (all done left right next last : List (ℕ × V)) → IsMerging all done left right → next ≡ done ++ left → last ≡ next ++ right → HasSame last all
  all_same all done left right next last m en el = rw (el, en, append_assoc done left right) m.same

  -- Pairs that ascend may stand behind those whose keys are less than their first.
  follow : (first : List (ℕ × V)) (b : ℕ × V) (rest : List (ℕ × V)) → Ascends first → Ascends (b ∷ rest) → Each (λ p. p.0 < b.0) first → Ascends (first ++ b ∷ rest)
  follow [] b rest up next less = next
  follow (a ∷ first) b rest up next less = (
    each-append (λ q. a.0 ≤ q.0) first (b ∷ rest) up.0 (omega (arith, less.0), each_least a.0 b.0 rest (omega (arith, less.0)) next.0),
    follow first b rest up.1 next less.1,
  )

  pub may_follow : (first second : List (ℕ × V)) (b : ℕ × V) (rest : List (ℕ × V)) → second ≡ b ∷ rest → Ascends first → Ascends second → Each (λ p. p.0 < b.0) first → Ascends (first ++ second)
  may_follow first second b rest is up next less = rw is (follow first b rest up (rw is at next) less)

  pub some_left : (es : List (Entry V)) → (length es == 0) ≡ false → 0 < length es
  some_left [] h = absurd (cc)
  some_left (e ∷ es) h = omega arith

  -- Entries that are moved behind those of a run.
  pub appended : (none start more all first : List (Entry V)) → none ≡ [] → pairs_of start ≡ pairs_of none ++ pairs_of (drop 0 first) → all ≡ start ++ more → pairs_of all ≡ pairs_of first ++ pairs_of more
  appended none start more all first empty is longer = ap pairs_of longer ∙ map-append pair_of start more ∙ ap (λ ps. ps ++ pairs_of more) (is ∙ ap (λ es. pairs_of es ++ pairs_of first) empty)

  pub pushed : (run next : List (ℕ × V)) (p : ℕ × V) (left rest all : List (ℕ × V)) → next ≡ run ++ p ∷ [] → left ≡ p ∷ rest → run ++ left ≡ all → next ++ rest ≡ all
  pushed run next p left rest all en el is = rw (en, append_assoc run (p ∷ []) rest) (rw el at is)

  pub all_pushed : (run start : List (ℕ × V)) (n from : ℕ) (es : List (Entry V)) → length es ≤ n → run ++ drop n (pairs_of es) ≡ start ++ drop from (pairs_of es) → run ≡ start ++ pairs_of (drop from es)
  all_pushed run start n from es past is =
      sym (ap (λ qs. run ++ qs) (nothing_left n es past) ∙ append-nil run) ∙ is ∙ ap (λ qs. start ++ qs) (drop-map pair_of from es)

  pub more_pairs : (next run : List (ℕ × V)) (n : ℕ) (es : List (Entry V)) → next ≡ run ++ pairs_of (drop n es) → next ≡ run ++ drop n (pairs_of es)
  more_pairs next run n es is = is ∙ ap (λ qs. run ++ qs) (sym (drop-map pair_of n es))
