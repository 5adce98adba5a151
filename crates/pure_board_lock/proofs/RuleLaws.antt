-- Each step keeps the rule of a desk.
use Rattle.std.proofs.Common.{◌≡◌, ◌≢◌, ◌∙◌, ℕ, ◌+◌, ◌%◌, ◌^◌, List, [], ◌∷◌, ◌++◌, length, get_or, set, Bool, true, false, Option, Some, None, refl, sym, ap, subst, inl, inr, arith, length-append, eqb, eq-eqb, ne_eqb}
use Rattle.std.proofs.Math.Nat.{add-mod}
use mathlib.Core.Option.{some, none}
use mathlib.Core.List.{IsPrefix}
use mathlib.Core.Logic.{dite}
use native.Mathlib.Decide.{ℕ_discrete}
use prog.Atomic.{either}
use lib.ListN.{get_elem?}
use Rattle.atomic_table.specs.Table.{State, Me, keeps, takes, gives, step, stepped, Allows}
use Rattle.atomic_table.proofs.Lists.{set_here, set_again}
use Rattle.pure_text.specs.Lists.{Each}
use Rattle.pure_text.proofs.ListLaws.{each_imply}
use Rattle.pure_board_lock.specs.History.{events}
use Rattle.pure_board_lock.specs.View.{View, first_seat, holding, looking, entering, releasing}
use Rattle.pure_board_lock.specs.Rule.{IsEntrant, IsHolder, Fits, IsSettled, unset, IsKept}
use Rattle.pure_board_lock.specs.Steps.{tries, looks, ticks, gives_back}
use Rattle.pure_board_lock.specs.Seats.{IsAsKept, IsNext}
use Rattle.pure_board_lock.proofs.HistoryLaws.{begins-itself, begins-longer, entered-more, entered-same}
use Rattle.pure_board_lock.proofs.ViewLaws.{is_inside, each-changed, only-view, some-changed, set-only, set-same, false-true, same-some, laid}

same-last : {A : Type 0} (xs : List A) (x y : A) → xs ++ x ∷ [] ≡ xs ++ y ∷ [] → x ≡ y
same-last [] x y e = cc e
same-last (z ∷ xs) x y e = same-last xs x y (cc e)

module _ {C K O E : Type 0} where
  -- what a tick tells, of the object that lies there
  pub ticked-is : (history : C → List E) (m w : Me (Option C) (View K O E)) (v : View K O E) (c : C) (e : E) → m ≡ (v, (0, Some c) ∷ [])
      → ((c' : C) (e' : E) → m.1 ≡ (0, Some c') ∷ [] → history c' ≡ events m.0.kept ++ e' ∷ [] → w ≡ (entering m.0 e', m.1)) → history c ≡ events v.kept ++ e ∷ [] → w ≡ (entering v e, (0, Some c) ∷ [])
  ticked-is history m w v c e is told event =
      subst (λ (m' : Me (Option C) (View K O E)). ((c' : C) (e' : E) → m'.1 ≡ (0, Some c') ∷ [] → history c' ≡ events m'.0.kept ++ e' ∷ [] → w ≡ (entering m'.0 e', m'.1)) → w ≡ (entering v e, (0, Some c) ∷ [])) (sym is) (λ t. t c e refl event) told

  -- and what giving it back tells
  pub released-is : (m w : Me (Option C) (View K O E)) (v : View K O E) (xs : List (ℕ × Option C)) → w ≡ (releasing m.0, []) → m ≡ (v, xs) → w ≡ (releasing v, [])
  released-is m w v xs told is = told ∙ ap (λ (m' : Me (Option C) (View K O E)). (releasing m'.0, [])) is

module _ {C K O E : Type 0} (after : O → List (ℕ × E) → C) (legal : K → O → List (ℕ × E) → Type 0) (k : K) where
  abbrev V : Type 0
  V = View K O E

  abbrev St : Type 0
  St = State (Option C) V

  abbrev Rule : St → Type 0
  Rule = IsKept after legal k

  abbrev Settled : St → Type 0
  Settled = IsSettled after legal k

  unset-none : (took : Bool) (id : ℕ) (v : V) → get_elem? (unset after legal k took).views id ≡ some v → v.opening ≡ None
  unset-none false id v at = ap (λ (u : V). u.opening) (only-view (first_seat k) id v at).1
  unset-none true id v at = ap (λ (u : V). u.opening) (only-view (holding (first_seat k) []) id v at).1

  -- a desk at which a seat knows how the object was opened is settled
  pub is-settled : (s : St) (id : ℕ) (v : V) → Rule s → get_elem? s.views id ≡ some v → v.opening ≢ None → Settled s
  is-settled s id v (inl u) at opened = absurd (opened (unset-none u.0 id v (ap (λ (t : St). get_elem? t.views id) (sym u.1) ∙ at)))
  is-settled s id v (inr r) at opened = r

  -- a step by which nothing changes
  unchanged : (s : St) (i id : ℕ) (v : V) (xs : List (ℕ × Option C)) → get_elem? s.views id ≡ some v → stepped s i (get_or s.words i 0) id xs v keeps ≡ s
  unchanged s i id v xs at = λ j. record { words = set-same s.words i j; homes = s.homes; views = set_again s.views id v at j }

  refit : {o : O} {log : List (ℕ × E)} {made : ℕ} {owner : ℕ → ℕ} {turn holder place : ℕ} {v : V} (turn' holder' : ℕ) → Fits k o log made owner turn holder place v → (v.holds ≡ true → (turn' ≡ 1) × (holder' ≡ place) × (v.kept ≡ log)) → Fits k o log made owner turn' holder' place v
  refit turn' holder' f has = record { session_is = f.session_is; opening_is = f.opening_is; saw = f.saw; itself = f.itself; others = f.others; saw_earlier = f.saw_earlier; counted = f.counted; has_turn = has }

  taken-now : (s : St) (r : Settled s) (id : ℕ) (v : V) → get_elem? s.views id ≡ some v → v.lives ≡ true → r.turn ≡ 0
      → Settled (stepped s 1 1 id [] (holding v r.log) (takes 0 (Some (after r.opening r.log))))
  taken-now s r id v at lives free = let f = r.fits id v at lives in record {
    opening = r.opening;
    log = r.log;
    made = r.made;
    owner = r.owner;
    turn = 1;
    holder = id;
    words_are = ap (λ ws. set ws 1 1) r.words_are;
    lawful = r.lawful;
    home = λ e. absurd (omega arith);
    held = λ _. (holding v r.log, set_here s.views id (holding v r.log) (is_inside s.views id v at), record { lives = lives; holds = refl });
    unmade = r.unmade;
    fits = each-changed (λ j u. u.lives ≡ true → Fits k r.opening r.log r.made r.owner 1 id j u) s.views id (holding v r.log)
        (λ _. record { session_is = f.session_is; opening_is = f.opening_is; saw = f.saw; itself = f.itself; others = f.others; saw_earlier = f.saw_earlier; counted = f.counted; has_turn = λ _. (refl, refl, refl) })
        (λ j u other there alive. refit 1 id (r.fits j u there alive) (λ h. let t = ((r.fits j u there alive).has_turn h).0 in absurd (omega (arith, t, free))));
  }

  -- a seat tries to take the object
  pub keeps-tries : (slots id : ℕ) (v : V) → v.lives ≡ true → v.opening ≢ None → Allows Rule slots id (v, []) 1 (λ n. either (eqb n 0) 1 n) (tries after legal (step slots 1 0 1 none) (v, []))
  keeps-tries slots id v lives opened s rule _ at _ = let r = is-settled s id v rule at opened in let f = r.fits id v at lives in let n : ℕ = get_or s.words 1 0 in
      let n-turn : n ≡ r.turn = ap (λ ws. get_or ws 1 0) r.words_are in
      dite (ℕ_discrete n 0)
      (λ hit. let w : V = holding v r.log in let c : C = after r.opening r.log in let free : r.turn ≡ 0 = sym n-turn ∙ hit in (
        w,
        takes 0 (Some c),
        ap (λ hs. get_elem? hs 0) (r.home free),
        subst (λ b. Rule (stepped s 1 (either b 1 n) id [] w (takes 0 (Some c)))) (sym (eq-eqb n 0 hit)) (inr (taken-now s r id v at lives free)),
        ((λ _. (c, refl, record { log = r.log; session = k; opening = r.opening; session_is = f.session_is; opening_is = f.opening_is; lawful = r.lawful; begins = f.saw; entries = f.itself.entries; view_is = refl; object_is = refl })), λ ne. absurd (ne hit)),
      ))
      (λ miss. (
        v,
        keeps,
        tt,
        subst (λ b. Rule (stepped s 1 (either b 1 n) id [] v keeps)) (sym (ne_eqb n 0 miss)) (subst Rule (sym (unchanged s 1 id v [] at)) (inr r)),
        ((λ e. absurd (miss e)), λ _. refl),
      ))

  resaw : {o : O} {log : List (ℕ × E)} {made : ℕ} {owner : ℕ → ℕ} {turn holder place : ℕ} {v : V} (w : V) → Fits k o log made owner turn holder place v
      → w ≡ record v { seen = log } → Fits k o log made owner turn holder place w
  resaw {o} {log} {made} {owner} {turn} {holder} {place} {v} w f is = subst (Fits k o log made owner turn holder place) (sym is) (record {
    session_is = f.session_is;
    opening_is = f.opening_is;
    saw = begins-itself log;
    itself = record { is_made = f.itself.is_made; belongs = f.itself.belongs; entries = f.itself.entries; were_seen = f.itself.entries };
    others = each_imply (IsEntrant log v.seen owner made place) (IsEntrant log log owner made place) v.joined (λ x e. record { is_made = e.is_made; belongs = e.belongs; entries = e.entries; were_seen = e.entries }) f.others;
    saw_earlier = f.saw_earlier;
    counted = f.counted;
    has_turn = f.has_turn;
  })

  -- the holder looks
  pub keeps-looks : (slots id : ℕ) (v : V) (xs : List (ℕ × Option C)) → v.lives ≡ true → v.opening ≢ None → v.holds ≡ true → Allows Rule slots id (v, xs) 0 (λ n. n) (looks (step slots 0 0 0 none) (v, xs))
  keeps-looks slots id v xs lives opened holds s rule _ at _ = let r = is-settled s id v rule at opened in let f = r.fits id v at lives in (
    looking v,
    keeps,
    tt,
    inr (record {
      opening = r.opening;
      log = r.log;
      made = r.made;
      owner = r.owner;
      turn = r.turn;
      holder = r.holder;
      words_are = set-same s.words 0 ∙ r.words_are;
      lawful = r.lawful;
      home = r.home;
      held = λ away. some-changed IsHolder s.views id r.holder v (looking v) at (λ q. record { lives = q.lives; holds = q.holds }) (r.held away);
      unmade = r.unmade;
      fits = each-changed (λ j u. u.lives ≡ true → Fits k r.opening r.log r.made r.owner r.turn r.holder j u) s.views id (looking v)
          (λ _. resaw (looking v) f (ap (λ (l : List (ℕ × E)). record v { seen = l }) (f.has_turn holds).2))
          (λ j u other there alive. r.fits j u there alive);
    }),
    refl,
  )

  -- an entry more, of a seat that belongs elsewhere
  entrant-more : {log seen : List (ℕ × E)} {owner : ℕ → ℕ} {made place : ℕ} (m : ℕ) (e : E) (x : ℕ × List E) → IsEntrant log seen owner made place x → owner m ≢ place → IsEntrant (log ++ (m, e) ∷ []) seen owner made place x
  entrant-more {log} {seen} {owner} m e x t other = record { is_made = t.is_made; belongs = t.belongs; entries = entered-same m x.0 e log x.1 (λ same. other (ap owner same ∙ t.belongs)) t.entries; were_seen = t.were_seen }

  others-fit : {o : O} {log : List (ℕ × E)} {made : ℕ} {owner : ℕ → ℕ} {turn holder : ℕ} (place : ℕ) (v : V) (m : ℕ) (e : E) → Fits k o log made owner turn holder place v → owner m ≢ place → holder ≢ place → Fits k o (log ++ (m, e) ∷ []) made owner turn holder place v
  others-fit {o} {log} {made} {owner} place v m e f other away = record {
    session_is = f.session_is;
    opening_is = f.opening_is;
    saw = begins-longer v.seen log ((m, e) ∷ []) f.saw;
    itself = entrant-more m e (v.number, v.own) f.itself other;
    others = each_imply (IsEntrant log v.seen owner made place) (IsEntrant (log ++ (m, e) ∷ []) v.seen owner made place) v.joined (λ x t. entrant-more m e x t other) f.others;
    saw_earlier = each_imply (λ l. IsPrefix l log) (λ l. IsPrefix l (log ++ (m, e) ∷ [])) v.earlier (λ l p. begins-longer l log ((m, e) ∷ []) p) f.saw_earlier;
    counted = f.counted;
    has_turn = λ h. absurd (away (f.has_turn h).1);
  }

  entrant-fits : {o : O} {log : List (ℕ × E)} {made : ℕ} {owner : ℕ → ℕ} {turn holder : ℕ} (place : ℕ) (v w : V) (e : E) → Fits k o log made owner turn holder place v → v.joined ≡ [] → v.holds ≡ true
      → w ≡ record v { kept = log ++ (v.number, e) ∷ []; seen = log ++ (v.number, e) ∷ []; own = v.own ++ e ∷ [] } → Fits k o (log ++ (v.number, e) ∷ []) made owner turn holder place w
  entrant-fits {o} {log} {made} {owner} {turn} {holder} place v w e f alone holds is = let more = entered-more v.number e log v.own f.itself.entries in let t = f.has_turn holds in subst (Fits k o (log ++ (v.number, e) ∷ []) made owner turn holder place) (sym is) (record {
    session_is = f.session_is;
    opening_is = f.opening_is;
    saw = begins-itself (log ++ (v.number, e) ∷ []);
    itself = record { is_made = f.itself.is_made; belongs = f.itself.belongs; entries = more; were_seen = more };
    others = subst (Each (IsEntrant (log ++ (v.number, e) ∷ []) (log ++ (v.number, e) ∷ []) owner made place)) (sym alone) tt;
    saw_earlier = each_imply (λ l. IsPrefix l log) (λ l. IsPrefix l (log ++ (v.number, e) ∷ [])) v.earlier (λ l p. begins-longer l log ((v.number, e) ∷ []) p) f.saw_earlier;
    counted = f.counted;
    has_turn = λ _. (t.0, t.1, refl);
  })

  one-further : (ws : List ℕ) (turn : ℕ) (log : List (ℕ × E)) (x : ℕ × E) → ws ≡ (length log % 2 ^ 64) ∷ turn ∷ [] → set ws 0 ((get_or ws 0 0 + 1) % 2 ^ 64) ≡ (length (log ++ x ∷ []) % 2 ^ 64) ∷ turn ∷ []
  one-further ws turn log x is = ap (λ us. set us 0 ((get_or us 0 0 + 1) % 2 ^ 64)) is ∙ (λ i. (sym (add-mod (length log) 1 (2 ^ 64)) ∙ ap (λ n. n % 2 ^ 64) (sym (length-append log (x ∷ [])))) i ∷ turn ∷ [])

  ticked : (s : St) (r : Settled s) (id : ℕ) (v : V) (e : E) (xs : List (ℕ × Option C)) → get_elem? s.views id ≡ some v → v.lives ≡ true → v.holds ≡ true → v.joined ≡ []
      → legal k r.opening (r.log ++ (v.number, e) ∷ []) → Settled (stepped s 0 ((get_or s.words 0 0 + 1) % 2 ^ 64) id xs (entering v e) keeps)
  ticked s r id v e xs at lives holds alone may = let f = r.fits id v at lives in let t = f.has_turn holds in let m : ℕ = v.number in record {
    opening = r.opening;
    log = r.log ++ (m, e) ∷ [];
    made = r.made;
    owner = r.owner;
    turn = r.turn;
    holder = r.holder;
    words_are = one-further s.words r.turn r.log (m, e) r.words_are;
    lawful = may;
    home = λ free. let one = t.0 in absurd (omega (arith, one, free));
    held = λ away. some-changed IsHolder s.views id r.holder v (entering v e) at (λ q. record { lives = q.lives; holds = q.holds }) (r.held away);
    unmade = λ n new. entered-same m n e r.log [] (λ same. let below = f.itself.is_made in absurd (omega (arith, same, below, new))) (r.unmade n new);
    fits = each-changed (λ j u. u.lives ≡ true → Fits k r.opening (r.log ++ (m, e) ∷ []) r.made r.owner r.turn r.holder j u) s.views id (entering v e)
        (λ _. entrant-fits id v (entering v e) e f alone holds (ap (λ (l : List (ℕ × E)). record v { kept = l ++ (v.number, e) ∷ []; seen = l ++ (v.number, e) ∷ []; own = v.own ++ e ∷ [] }) t.2))
        (λ j u other there alive. others-fit j u m e (r.fits j u there alive) (λ same. other (sym same ∙ f.itself.belongs)) (λ same. other (sym same ∙ t.1)));
  }

  -- the holder enters an event
  pub keeps-ticks : (history : C → List E) (slots id : ℕ) (v : V) (c : C) (e : E) → v.lives ≡ true → v.opening ≢ None → v.holds ≡ true → v.joined ≡ [] → IsNext history after legal v c e
      → Allows Rule slots id (v, (0, Some c) ∷ []) 0 (λ n. (n + 1) % 2 ^ 64) (ticks history (step slots 0 1 0 none) (v, (0, Some c) ∷ []))
  keeps-ticks history slots id v c e lives opened holds alone next s rule _ at _ = let r = is-settled s id v rule at opened in let f = r.fits id v at lives in
      let same-o : next.opening ≡ r.opening = same-some next.opening r.opening v.opening next.opening_is f.opening_is in
      let same-k : next.session ≡ k = same-some next.session k v.session next.session_is f.session_is in
      let may : legal k r.opening (r.log ++ (v.number, e) ∷ []) = subst (λ (x : K × O × List (ℕ × E)). legal x.0 x.1 (x.2 ++ (v.number, e) ∷ [])) (λ i. (same-k i, same-o i, (f.has_turn holds).2 i)) next.lawful in (
        entering v e,
        keeps,
        tt,
        inr (ticked s r id v e ((0, Some c) ∷ []) at lives holds alone may),
        λ c' e' is told. let same-c : c ≡ c' = same-some c c' (Some c) refl (ap laid is) in let same-e : e ≡ e' = same-last (events v.kept) e e' (sym next.event_is ∙ (ap history same-c ∙ told)) in ap (λ (x : E). (entering v x, (0, Some c) ∷ [])) same-e,
      )

  -- the holder gives the object back
  pub keeps-gives : (slots id : ℕ) (v : V) (c : C) → slots ≡ 1 → v.lives ≡ true → v.opening ≢ None → v.holds ≡ true → IsAsKept after v c
      → Allows Rule slots id (v, (0, Some c) ∷ []) 1 (λ _. 0) (λ _. gives_back (step slots 1 0 0 none) (v, (0, Some c) ∷ []) 0)
  keeps-gives slots id v c one lives opened holds kept s rule wide at _ = let r = is-settled s id v rule at opened in let f = r.fits id v at lives in let t = f.has_turn holds in
      let same-o : kept.opening ≡ r.opening = same-some kept.opening r.opening v.opening kept.opening_is f.opening_is in
      let same-c : c ≡ after r.opening r.log = kept.object_is ∙ (λ i. after (same-o i) (t.2 i)) in (
        releasing v,
        gives,
        tt,
        inr (record {
          opening = r.opening;
          log = r.log;
          made = r.made;
          owner = r.owner;
          turn = 0;
          holder = r.holder;
          words_are = ap (λ ws. set ws 1 0) r.words_are;
          lawful = r.lawful;
          home = λ _. set-only s.homes (some (Some c)) (wide ∙ one) ∙ ap (λ (x : C). some (Some x) ∷ []) same-c;
          held = λ away. absurd (away refl);
          unmade = r.unmade;
          fits = each-changed (λ j u. u.lives ≡ true → Fits k r.opening r.log r.made r.owner 0 r.holder j u) s.views id (releasing v)
              (λ _. record { session_is = f.session_is; opening_is = f.opening_is; saw = f.saw; itself = f.itself; others = f.others; saw_earlier = f.saw_earlier; counted = f.counted; has_turn = λ h. absurd (false-true false refl h) })
              (λ j u other there alive. refit 0 r.holder (r.fits j u there alive) (λ h. absurd (other (sym ((r.fits j u there alive).has_turn h).1 ∙ t.1))));
        }),
        refl,
      )

  module _ (slots id : ℕ) (me : Me (Option C) V) (v : V) where
    pub tries-from : me ≡ (v, []) → v.lives ≡ true → v.opening ≢ None → Allows Rule slots id me 1 (λ n. either (eqb n 0) 1 n) (tries after legal (step slots 1 0 1 none) me)
    tries-from is lives opened = subst (λ (m : Me (Option C) V). Allows Rule slots id m 1 (λ n. either (eqb n 0) 1 n) (tries after legal (step slots 1 0 1 none) m)) (sym is) (keeps-tries slots id v lives opened)

    pub looks-from : (xs : List (ℕ × Option C)) → me ≡ (v, xs) → v.lives ≡ true → v.opening ≢ None → v.holds ≡ true → Allows Rule slots id me 0 (λ n. n) (looks (step slots 0 0 0 none) me)
    looks-from xs is lives opened holds = subst (λ (m : Me (Option C) V). Allows Rule slots id m 0 (λ n. n) (looks (step slots 0 0 0 none) m)) (sym is) (keeps-looks slots id v xs lives opened holds)

    pub ticks-from : (history : C → List E) (c : C) (e : E) → me ≡ (v, (0, Some c) ∷ []) → v.lives ≡ true → v.opening ≢ None → v.holds ≡ true → v.joined ≡ [] → IsNext history after legal v c e
        → Allows Rule slots id me 0 (λ n. (n + 1) % 2 ^ 64) (ticks history (step slots 0 1 0 none) me)
    ticks-from history c e is lives opened holds alone next = subst (λ (m : Me (Option C) V). Allows Rule slots id m 0 (λ n. (n + 1) % 2 ^ 64) (ticks history (step slots 0 1 0 none) m)) (sym is) (keeps-ticks history slots id v c e lives opened holds alone next)

    pub gives-from : (c : C) → me ≡ (v, (0, Some c) ∷ []) → slots ≡ 1 → v.lives ≡ true → v.opening ≢ None → v.holds ≡ true → IsAsKept after v c
        → Allows Rule slots id me 1 (λ _. 0) (λ _. gives_back (step slots 1 0 0 none) me 0)
    gives-from c is one lives opened holds kept = subst (λ (m : Me (Option C) V). Allows Rule slots id m 1 (λ _. 0) (λ _. gives_back (step slots 1 0 0 none) m 0)) (sym is) (keeps-gives slots id v c one lives opened holds kept)
