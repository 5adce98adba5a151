-- How a desk begins and how it ends.
use Rattle.std.proofs.Common.{◌≡◌, ◌≢◌, ◌∙◌, ℕ, ◌<◌, List, [], ◌∷◌, set, Bool, true, false, Option, Some, None, refl, sym, ap, subst, inl, inr, ⊎_elim, arith, lt_of_not-le}
use mathlib.Core.Option.{some, none, some-injective}
use mathlib.Core.List.{IsPrefix}
use mathlib.Core.Logic.{dite}
use native.Mathlib.Decide.{ℕ_discrete, dec_le}
use lib.ListN.{get_elem?}
use Rattle.atomic_table.specs.Table.{State, Me, takes, gives, step, Allows, Final, Seen, rest}
use Rattle.pure_text.specs.Lists.{Each, AnyOf}
use Rattle.pure_text.proofs.ListLaws.{each_imply}
use Rattle.pure_board_lock.specs.History.{entered_by}
use Rattle.pure_board_lock.specs.View.{View, first_seat, opened_seat, holding}
use Rattle.pure_board_lock.specs.Rule.{IsEntrant, Fits, IsSettled, unset, IsKept}
use Rattle.pure_board_lock.specs.Steps.{takes_place, lays}
use Rattle.pure_board_lock.specs.Seats.{HasAll, IsWhole}
use Rattle.pure_board_lock.proofs.HistoryLaws.{begins-whole, entered-none, entered-numbers}
use Rattle.pure_board_lock.proofs.ViewLaws.{only-view, one-view, false-true, same-some, laid}
use Rattle.pure_board_lock.proofs.RuleLaws.{is-settled}

-- one of the seats that were taken in has what each of them has
any-each : {A : Type 0} (P Q : A → Type 0) (R : Type 0) (xs : List A) → AnyOf P xs → Each Q xs → ((x : A) → P x → Q x → R) → R
any-each P Q R [] any each then = absurd any
any-each P Q R (x ∷ xs) (inl here) each then = then x here each.0
any-each P Q R (x ∷ xs) (inr there) each then = any-each P Q R xs there each.1 then

-- what lies at a place is there, and is one thing
pub there-is : {C : Type 0} (xs : List (Option C)) (c : C) → get_elem? xs 0 ≡ some (Some c) → get_elem? xs 0 ≡ some None → ⊥
there-is xs c is none' = absurd (cc (some-injective (Some c) None (sym is ∙ none')))

pub one-there : {C : Type 0} (xs : List (Option C)) (c d : C) → get_elem? xs 0 ≡ some (Some c) → get_elem? xs 0 ≡ some (Some d) → c ≡ d
one-there xs c d is too = let e : Some c ≡ Some d = some-injective (Some c) (Some d) (sym is ∙ too) in cc e

module _ {C K O E : Type 0} where
  -- the first seat has the object in hand
  pub in-hand : (k : K) (one two three : Me (Option C) (View K O E)) (c : C) → one ≡ (first_seat k, []) → two ≡ (holding one.0 [], (0, None) ∷ []) → three ≡ (two.0, (0, Some c) ∷ rest two.1) → three ≡ (holding (first_seat k) [], (0, Some c) ∷ [])
  in-hand k one two three c is took laid-there = laid-there ∙ (ap (λ (m : Me (Option C) (View K O E)). (m.0, (0, Some c) ∷ rest m.1)) took ∙ ap (λ (m : Me (Option C) (View K O E)). (holding m.0 [], (0, Some c) ∷ [])) is)

  -- what laying it there tells
  pub laid-is : (opened : C → O) (k : K) (m w : Me (Option C) (View K O E)) (c : C) → m ≡ (holding (first_seat k) [], (0, Some c) ∷ []) → ((c' : C) → m.1 ≡ (0, Some c') ∷ [] → w ≡ (opened_seat m.0 (opened c'), [])) → w ≡ (opened_seat (first_seat k) (opened c), [])
  laid-is opened k m w c is told = subst (λ (m' : Me (Option C) (View K O E)). ((c' : C) → m'.1 ≡ (0, Some c') ∷ [] → w ≡ (opened_seat m'.0 (opened c'), [])) → w ≡ (opened_seat (first_seat k) (opened c), [])) (sym is) (λ t. t c refl) told

module _ {C K O E : Type 0} (after : O → List (ℕ × E) → C) (legal : K → O → List (ℕ × E) → Type 0) (k : K) where
  abbrev V : Type 0
  V = View K O E

  abbrev St : Type 0
  St = State (Option C) V

  abbrev Rule : St → Type 0
  Rule = IsKept after legal k

  not-opened : (s : St) (r : IsSettled after legal k s) (id : ℕ) (v : V) → get_elem? s.views id ≡ some v → v.lives ≡ true → v.opening ≡ None → ⊥
  not-opened s r id v at lives none' = let f = r.fits id v at lives in absurd (cc (none', f.opening_is))

  -- the desk on which no object lies, as its first seat knows it
  as-unset : (s : St) (id : ℕ) (v : V) (took : Bool) → Rule s → get_elem? s.views id ≡ some v → v.lives ≡ true → v.opening ≡ None → v.holds ≡ took → (s ≡ unset after legal k took) × (id ≡ 0)
  as-unset s id v took (inr r) at lives none' is = absurd (not-opened s r id v at lives none')
  as-unset s id v false (inl (false, e)) at lives none' is = (e, (only-view (first_seat k) id v (ap (λ (t : St). get_elem? t.views id) (sym e) ∙ at)).0)
  as-unset s id v true (inl (true, e)) at lives none' is = (e, (only-view (holding (first_seat k) []) id v (ap (λ (t : St). get_elem? t.views id) (sym e) ∙ at)).0)
  as-unset s id v true (inl (false, e)) at lives none' is = absurd (false-true v.holds (ap (λ (u : V). u.holds) (only-view (first_seat k) id v (ap (λ (t : St). get_elem? t.views id) (sym e) ∙ at)).1) is)
  as-unset s id v false (inl (true, e)) at lives none' is = absurd (false-true v.holds is (ap (λ (u : V). u.holds) (only-view (holding (first_seat k) []) id v (ap (λ (t : St). get_elem? t.views id) (sym e) ∙ at)).1))

  -- the first seat takes the empty place
  keeps-taking : (slots id : ℕ) → Allows Rule slots id (first_seat k, []) 0 (λ _. 0) (λ _. takes_place (step slots 0 0 0 none) (first_seat k, []) 0)
  keeps-taking slots id s rule _ at _ = let u = as-unset s id (first_seat k) false rule at refl refl refl in (
    holding (first_seat k) [],
    takes 0 None,
    subst (λ (t : St). get_elem? t.homes 0 ≡ some (some None)) (sym u.0) refl,
    subst (λ (x : ℕ × St). Rule (record { words = set (x.1).words 0 0; homes = set (x.1).homes 0 none; views = set (x.1).views x.0 (holding (first_seat k) []) })) (λ i. (sym u.1 i, sym u.0 i)) (inl (true, refl)),
    refl,
  )

  pub taking-from : (slots id : ℕ) (k' : K) (me : Me (Option C) V) → k ≡ k' → me ≡ (first_seat k', []) → Allows Rule slots id me 0 (λ _. 0) (λ _. takes_place (step slots 0 0 0 none) me 0)
  taking-from slots id k' me same is = subst (λ (m : Me (Option C) V). Allows Rule slots id m 0 (λ _. 0) (λ _. takes_place (step slots 0 0 0 none) m 0)) (sym (is ∙ ap (λ (x : K). (first_seat x, [])) (sym same))) (keeps-taking slots id)

  just-opened : (o : O) (c : C) → c ≡ after o [] → legal k o [] → Rule (record { words = 0 ∷ 0 ∷ []; homes = some (Some c) ∷ []; views = opened_seat (first_seat k) o ∷ [] })
  just-opened o c is may = inr (record {
    opening = o;
    log = [];
    made = 1;
    owner = λ _. 0;
    turn = 0;
    holder = 0;
    words_are = refl;
    lawful = may;
    home = λ _. ap (λ (x : C). some (Some x) ∷ []) is;
    held = λ away. absurd (away refl);
    unmade = λ _ _. refl;
    fits = λ place v at alive. let t = only-view (opened_seat (first_seat k) o) place v at in subst (λ (x : ℕ × V). Fits k o [] 1 (λ _. 0) 0 0 x.0 x.1) (λ i. (sym t.0 i, sym t.1 i)) (record {
      session_is = refl;
      opening_is = refl;
      saw = ([], refl);
      itself = record { is_made = omega arith; belongs = refl; entries = refl; were_seen = refl };
      others = tt;
      saw_earlier = tt;
      counted = λ _. (refl, refl);
      has_turn = λ h. absurd (false-true false refl h);
    });
  })

  -- and lays the object there
  keeps-laying : (opened : C → O) (slots id : ℕ) (c : C) → c ≡ after (opened c) [] → legal k (opened c) []
      → Allows Rule slots id (holding (first_seat k) [], (0, Some c) ∷ []) 1 (λ _. 0) (λ _. lays opened (step slots 1 0 0 none) (holding (first_seat k) [], (0, Some c) ∷ []) 0)
  keeps-laying opened slots id c is may s rule _ at _ = let u = as-unset s id (holding (first_seat k) []) true rule at refl refl refl in (
    opened_seat (first_seat k) (opened c),
    gives,
    tt,
    subst (λ (x : ℕ × St). Rule (record { words = set (x.1).words 1 0; homes = set (x.1).homes 0 (some (Some c)); views = set (x.1).views x.0 (opened_seat (first_seat k) (opened c)) })) (λ i. (sym u.1 i, sym u.0 i)) (just-opened (opened c) c is may),
    λ c' same. ap (λ (x : C). (opened_seat (first_seat k) (opened x), [])) (same-some c c' (Some c) refl (ap laid same)),
  )

  pub laying-from : (opened : C → O) (slots id : ℕ) (c : C) (k' : K) (me : Me (Option C) V) → k ≡ k' → me ≡ (holding (first_seat k') [], (0, Some c) ∷ []) → c ≡ after (opened c) [] → legal k' (opened c) []
      → Allows Rule slots id me 1 (λ _. 0) (λ _. lays opened (step slots 1 0 0 none) me 0)
  laying-from opened slots id c k' me same is as-opened may = subst (λ (m : Me (Option C) V). Allows Rule slots id m 1 (λ _. 0) (λ _. lays opened (step slots 1 0 0 none) m 0)) (sym (is ∙ ap (λ (x : K). (holding (first_seat x) [], (0, Some c) ∷ [])) (sym same)))
      (keeps-laying opened slots id c as-opened (subst (λ (x : K). legal x (opened c) []) (sym same) may))

  module _ (s : St) (r : IsSettled after legal k s) (id : ℕ) (v : V) (at : get_elem? s.views id ≡ some v) (lives : v.lives ≡ true) (all : HasAll v) where
    f : Fits k r.opening r.log r.made r.owner r.turn r.holder id v
    f = r.fits id v at lives

    made-is : v.made ≡ r.made
    made-is = (f.counted all.counts).0

    -- each number that was made is the last seat's
    all-entrants : (n : ℕ) → n < r.made → (r.owner n ≡ id) × (entered_by n v.seen ≡ entered_by n r.log)
    all-entrants n below = ⊎_elim
        (λ e. subst (λ (m : ℕ). (r.owner m ≡ id) × (entered_by m v.seen ≡ entered_by m r.log)) (sym e) (f.itself.belongs, f.itself.were_seen ∙ sym f.itself.entries))
        (λ any. any-each (λ x. x.0 ≡ n) (IsEntrant r.log v.seen r.owner r.made id) ((r.owner n ≡ id) × (entered_by n v.seen ≡ entered_by n r.log)) v.joined any f.others
        (λ x e t. subst (λ (m : ℕ). (r.owner m ≡ id) × (entered_by m v.seen ≡ entered_by m r.log)) e (t.belongs, t.were_seen ∙ sym t.entries)))
        (all.has n (let m = made-is in omega (arith, m, below)))

    -- nobody has the turn
    turn-free : v.holds ≡ false → r.turn ≡ 0
    turn-free free = dite (ℕ_discrete r.turn 0) (λ e. e) (λ away. let x = r.held away in let g = r.fits r.holder x.0 x.1 x.2.lives in
        let here : r.holder ≡ id = sym g.itself.belongs ∙ (all-entrants (x.0).number g.itself.is_made).0 in
        let same : x.0 ≡ v = one-view s.views id x.0 v (subst (λ (i : ℕ). get_elem? s.views i ≡ some x.0) here x.1) at in
        absurd (false-true v.holds free (subst (λ (u : V). u.holds ≡ true) same x.2.holds)))

    seen-whole : r.log ≡ v.seen
    seen-whole = begins-whole v.seen r.log f.saw (λ n. dite (dec_le r.made n)
        (λ new. entered-none n v.seen r.log f.saw (r.unmade n new) ∙ sym (r.unmade n new))
        (λ old. (all-entrants n (lt_of_not-le old)).1))

    whole : IsWhole after legal v (after r.opening r.log)
    whole = let e = seen-whole in record {
      session = k;
      opening = r.opening;
      session_is = f.session_is;
      opening_is = f.opening_is;
      lawful = subst (legal k r.opening) e r.lawful;
      object_is = ap (after r.opening) e;
      saw_earlier = subst (λ (l : List (ℕ × E)). Each (λ seen. IsPrefix seen l) v.earlier) e f.saw_earlier;
      own_entries = f.itself.were_seen;
      entries = each_imply (IsEntrant r.log v.seen r.owner r.made id) (λ x. entered_by x.0 v.seen ≡ x.1) v.joined (λ x t. t.were_seen) f.others;
      no_others = entered-numbers v.seen (λ n. n < v.made) (λ n some'. dite (dec_le r.made n) (λ new. absurd (some' (entered-none n v.seen r.log f.saw (r.unmade n new)))) (λ old. let m = made-is in let b : n < r.made = lt_of_not-le old in omega (arith, m, b)));
    }

  -- where the last seat has all, the object lies there, and what the seat saw is its history
  pub ends : (s : St) (id : ℕ) (v : V) → Rule s → get_elem? s.views id ≡ some v → v.lives ≡ true → v.opening ≢ None → v.holds ≡ false → HasAll v → (c : C) × (s.homes ≡ some (Some c) ∷ []) × IsWhole after legal v c
  ends s id v rule at lives opened free all = let r = is-settled after legal k s id v rule at opened in (after r.opening r.log, r.home (turn-free s r id v at lives all free), whole s r id v at lives all)

  -- what a closed table holds
  pub final-ends : (ws : List ℕ) (xs : List (Option C)) (id : ℕ) (m : Me (Option C) V) (v : V) (held : List (ℕ × Option C)) → m ≡ (v, held) → Final (Seen Rule id m.0) ws xs → v.lives ≡ true → v.opening ≢ None → v.holds ≡ false → HasAll v
      → (c : C) × (get_elem? xs 0 ≡ some (Some c)) × IsWhole after legal v c
  final-ends ws xs id m v held is end lives opened free all = let f : Final (Seen Rule id v) ws xs = subst (λ (m' : Me (Option C) V). Final (Seen Rule id m'.0) ws xs) is end in
      let t = ends f.0 id v f.1.0 f.1.1 lives opened free all in (t.0, f.4 0 (Some t.0) (ap (λ hs. get_elem? hs 0) t.1), t.2)
