-- Making seats and taking them in keeps the rule of a desk.
use Rattle.std.proofs.Common.{◌≡◌, ◌≢◌, ◌∙◌, ℕ, ◌+◌, ◌<◌, List, [], ◌∷◌, ◌++◌, length, set, Bool, true, false, ◌||◌, if◌then◌else◌, Option, None, nat_eq, refl, sym, ap, subst, inr, ⊎_elim, arith, eq-eqb, ne_eqb}
use mathlib.Core.Option.{some}
use mathlib.Core.List.{IsPrefix}
use lib.ListN.{get_elem?}
use Rattle.atomic_table.specs.Table.{State, Splits, Joins}
use Rattle.atomic_table.proofs.Lists.{set_else, set_again, at_longer}
use Rattle.pure_text.proofs.ListLaws.{each_imply, each-append}
use Rattle.pure_board_lock.specs.History.{longer}
use Rattle.pure_board_lock.specs.View.{View, spent, splitting, newcomer, joining, noted}
use Rattle.pure_board_lock.specs.Rule.{IsEntrant, IsHolder, Fits, IsKept}
use Rattle.pure_board_lock.proofs.HistoryLaws.{shorter-begins, begins-itself, entered-between, entered-none, longer-either}
use Rattle.pure_board_lock.proofs.ViewLaws.{each-changed, each-behind, some-changed, one-view, false-true}
use Rattle.pure_board_lock.proofs.RuleLaws.{is-settled}

-- the places of seats, with that of a new one
abbrev owner_more : (ℕ → ℕ) → (made place : ℕ) → ℕ → ℕ
owner_more owner made place n = if nat_eq n made then place else owner n

-- the places of seats, where all of one place go to another
abbrev owner_moved : (ℕ → ℕ) → (before now : ℕ) → ℕ → ℕ
owner_moved owner before now n = if nat_eq (owner n) before then now else owner n

more-old : (owner : ℕ → ℕ) (made place n : ℕ) → n < made → owner_more owner made place n ≡ owner n
more-old owner made place n old = ap (λ b. if b then place else owner n) (ne_eqb n made (λ e. absurd (omega (arith, e, old))))

more-new : (owner : ℕ → ℕ) (made place : ℕ) → owner_more owner made place made ≡ place
more-new owner made place = ap (λ b. if b then place else owner made) (eq-eqb made made refl)

moved-there : (owner : ℕ → ℕ) (before now n : ℕ) → owner n ≡ before → owner_moved owner before now n ≡ now
moved-there owner before now n is = ap (λ b. if b then now else owner n) (eq-eqb (owner n) before is)

moved-other : (owner : ℕ → ℕ) (before now n place : ℕ) → owner n ≡ place → place ≢ before → owner_moved owner before now n ≡ place
moved-other owner before now n place is other = ap (λ b. if b then now else owner n) (ne_eqb (owner n) before (λ e. other (sym is ∙ e))) ∙ is

module _ {E : Type 0} {log seen : List (ℕ × E)} {owner : ℕ → ℕ} {made place : ℕ} where
  entrant-kept : (at : ℕ) (x : ℕ × List E) → IsEntrant log seen owner made place x → IsEntrant log seen (owner_more owner made at) (made + 1) place x
  entrant-kept at x t = record { is_made = let h = t.is_made in omega (arith, h); belongs = more-old owner made at x.0 t.is_made ∙ t.belongs; entries = t.entries; were_seen = t.were_seen }

  entrant-there : (now : ℕ) (x : ℕ × List E) → IsEntrant log seen owner made place x → IsEntrant log seen (owner_moved owner place now) made now x
  entrant-there now x t = record { is_made = t.is_made; belongs = moved-there owner place now x.0 t.belongs; entries = t.entries; were_seen = t.were_seen }

  entrant-stays : (before now : ℕ) (x : ℕ × List E) → place ≢ before → IsEntrant log seen owner made place x → IsEntrant log seen (owner_moved owner before now) made place x
  entrant-stays before now x other t = record { is_made = t.is_made; belongs = moved-other owner before now x.0 place t.belongs other; entries = t.entries; were_seen = t.were_seen }

  -- what stood in a shorter part that was seen stands in a longer one
  entrant-sees : (more : List (ℕ × E)) (x : ℕ × List E) → IsPrefix seen more → IsPrefix more log → IsEntrant log seen owner made place x → IsEntrant log more owner made place x
  entrant-sees more x p q t = record { is_made = t.is_made; belongs = t.belongs; entries = t.entries; were_seen = entered-between x.0 seen more log x.1 p q t.were_seen t.entries }

-- the longer of two beginnings is one, and begins with both
pub longer-begins : {A : Type 0} (xs ys zs : List A) → IsPrefix xs zs → IsPrefix ys zs → IsPrefix (longer xs ys) zs × IsPrefix xs (longer xs ys) × IsPrefix ys (longer xs ys)
longer-begins {A} xs ys zs p q = ⊎_elim
    (λ t. subst (λ (l : List A). IsPrefix l zs × IsPrefix xs l × IsPrefix ys l) (sym t.0) (p, begins-itself xs, shorter-begins ys xs zs q p t.1))
    (λ t. subst (λ (l : List A). IsPrefix l zs × IsPrefix xs l × IsPrefix ys l) (sym t.0) (q, shorter-begins xs ys zs p q t.1, begins-itself ys))
    (longer-either xs ys)

counted-both : (b c : Bool) (m n made : ℕ) (owner : ℕ → ℕ) (id other : ℕ) → id ≢ other → (b ≡ true → (m ≡ made) × (owner 0 ≡ id)) → (c ≡ true → (n ≡ made) × (owner 0 ≡ other))
    → b || c ≡ true → ((if b then m else n) ≡ made) × (owner_moved owner other id 0 ≡ id)
counted-both true c m n made owner id other apart f g h = let t = f refl in (t.0, moved-other owner other id 0 id t.1 apart)
counted-both false c m n made owner id other apart f g h = let t = g h in (t.0, moved-there owner other id 0 t.1)

module _ {C K O E : Type 0} (after : O → List (ℕ × E) → C) (legal : K → O → List (ℕ × E) → Type 0) (k : K) where
  abbrev V : Type 0
  V = View K O E

  abbrev Rule : State (Option C) V → Type 0
  Rule = IsKept after legal k

  fits-kept : {o : O} {log : List (ℕ × E)} {made : ℕ} {owner : ℕ → ℕ} {turn holder place : ℕ} {v : V} (at : ℕ) → Fits k o log made owner turn holder place v → v.counts ≡ false → Fits k o log (made + 1) (owner_more owner made at) turn holder place v
  fits-kept {o} {log} {made} {owner} {turn} {holder} {place} {v} at f never = record {
    session_is = f.session_is;
    opening_is = f.opening_is;
    saw = f.saw;
    itself = entrant-kept at (v.number, v.own) f.itself;
    others = each_imply (IsEntrant log v.seen owner made place) (IsEntrant log v.seen (owner_more owner made at) (made + 1) place) v.joined (entrant-kept at) f.others;
    saw_earlier = f.saw_earlier;
    counted = λ c. absurd (false-true v.counts never c);
    has_turn = f.has_turn;
  }

  -- a seat that counts is the only one
  not-counting : {o : O} {log : List (ℕ × E)} {made : ℕ} {owner : ℕ → ℕ} {turn holder : ℕ} (id j : ℕ) (u : V) → owner 0 ≡ id → j ≢ id → Fits k o log made owner turn holder j u → u.counts ≡ false
  not-counting id j u first other f = choose u.counts refl
    where
      choose : (b : Bool) → u.counts ≡ b → u.counts ≡ false
      choose true e = absurd (other (sym (f.counted e).1 ∙ first))
      choose false e = e

  -- the seat that counts makes one more
  pub keeps-splitting : (id : ℕ) (v : V) → v.lives ≡ true → v.opening ≢ None → v.counts ≡ true → Splits Rule id v (splitting v) (newcomer v)
  keeps-splitting id v lives opened counts s rule at = let r = is-settled after legal k s id v rule at opened in let f = r.fits id v at lives in let t = f.counted counts in
      let here : ℕ = length (set s.views id (splitting v)) in let owner : ℕ → ℕ = owner_more r.owner r.made here in inr (record {
        opening = r.opening;
        log = r.log;
        made = r.made + 1;
        owner = owner;
        turn = r.turn;
        holder = r.holder;
        words_are = r.words_are;
        lawful = r.lawful;
        home = r.home;
        held = λ away. let x = some-changed IsHolder s.views id r.holder v (splitting v) at (λ q. record { lives = q.lives; holds = q.holds }) (r.held away) in (x.0, at_longer (set s.views id (splitting v)) (newcomer v ∷ []) r.holder x.0 x.1, x.2);
        unmade = λ n new. r.unmade n (omega (arith, new));
        fits = each-behind (λ j u. u.lives ≡ true → Fits k r.opening r.log (r.made + 1) owner r.turn r.holder j u) (set s.views id (splitting v)) (newcomer v)
            (λ _. record {
              session_is = f.session_is;
              opening_is = f.opening_is;
              saw = f.saw;
              itself = record { is_made = let m = t.0 in omega (arith, m); belongs = ap owner t.0 ∙ more-new r.owner r.made here; entries = r.unmade v.made (let m = t.0 in omega (arith, m)); were_seen = entered-none v.made v.seen r.log f.saw (r.unmade v.made (let m = t.0 in omega (arith, m))) };
              others = tt;
              saw_earlier = tt;
              counted = λ c. absurd (false-true false refl c);
              has_turn = λ h. absurd (false-true false refl h);
            })
            (each-changed (λ j u. u.lives ≡ true → Fits k r.opening r.log (r.made + 1) owner r.turn r.holder j u) s.views id (splitting v)
            (λ _. record {
              session_is = f.session_is;
              opening_is = f.opening_is;
              saw = f.saw;
              itself = entrant-kept here (v.number, v.own) f.itself;
              others = each_imply (IsEntrant r.log v.seen r.owner r.made id) (IsEntrant r.log v.seen owner (r.made + 1) id) v.joined (entrant-kept here) f.others;
              saw_earlier = f.saw_earlier;
              counted = λ _. (ap (λ n. n + 1) t.0, more-old r.owner r.made here 0 (let m = f.itself.is_made in omega (arith, m)) ∙ t.1);
              has_turn = f.has_turn;
            })
            (λ j u other there alive. let g = r.fits j u there alive in fits-kept here g (not-counting id j u t.1 other g)));
      })

  -- a note binds nothing
  pub keeps-noting : (id : ℕ) (v : V) → v.lives ≡ true → v.opening ≢ None → Splits Rule id v v (noted v)
  keeps-noting id v lives opened s rule at = let r = is-settled after legal k s id v rule at opened in
      subst (λ (vs : List V). Rule (record { words = s.words; homes = s.homes; views = vs ++ noted v ∷ [] })) (sym (set_again s.views id v at)) (inr (record {
        opening = r.opening;
        log = r.log;
        made = r.made;
        owner = r.owner;
        turn = r.turn;
        holder = r.holder;
        words_are = r.words_are;
        lawful = r.lawful;
        home = r.home;
        held = λ away. let x = r.held away in (x.0, at_longer s.views (noted v ∷ []) r.holder x.0 x.1, x.2);
        unmade = r.unmade;
        fits = each-behind (λ j u. u.lives ≡ true → Fits k r.opening r.log r.made r.owner r.turn r.holder j u) s.views (noted v) (λ alive. absurd (false-true false refl alive)) r.fits;
      }))

  fits-moved : {o : O} {log : List (ℕ × E)} {made : ℕ} {owner : ℕ → ℕ} {turn holder place : ℕ} {v : V} (before now : ℕ) → place ≢ before → Fits k o log made owner turn holder place v → Fits k o log made (owner_moved owner before now) turn holder place v
  fits-moved {o} {log} {made} {owner} {turn} {holder} {place} {v} before now other f = record {
    session_is = f.session_is;
    opening_is = f.opening_is;
    saw = f.saw;
    itself = entrant-stays before now (v.number, v.own) other f.itself;
    others = each_imply (IsEntrant log v.seen owner made place) (IsEntrant log v.seen (owner_moved owner before now) made place) v.joined (λ x t. entrant-stays before now x other t) f.others;
    saw_earlier = f.saw_earlier;
    counted = λ c. let t = f.counted c in (t.0, moved-other owner before now 0 place t.1 other);
    has_turn = f.has_turn;
  }

  fits-both : {o : O} {log : List (ℕ × E)} {made : ℕ} {owner : ℕ → ℕ} {turn holder : ℕ} (id other : ℕ) (v w : V) → other ≢ id → v.holds ≡ false → Fits k o log made owner turn holder id v → Fits k o log made owner turn holder other w
      → Fits k o log made (owner_moved owner other id) turn holder id (joining v w)
  fits-both {o} {log} {made} {owner} {turn} {holder} id other v w apart free f g = let l = longer-begins v.seen w.seen log f.saw g.saw in let both : List (ℕ × E) = longer v.seen w.seen in
      let moved : ℕ → ℕ = owner_moved owner other id in let apart' : id ≢ other = λ e. apart (sym e) in
      let stay : (x : ℕ × List E) → IsEntrant log v.seen owner made id x → IsEntrant log both moved made id x = λ x t. entrant-sees both x l.1 l.0 (entrant-stays other id x apart' t) in
      let come : (x : ℕ × List E) → IsEntrant log w.seen owner made other x → IsEntrant log both moved made id x = λ x t. entrant-sees both x l.2 l.0 (entrant-there id x t) in record {
        session_is = f.session_is;
        opening_is = f.opening_is;
        saw = l.0;
        itself = stay (v.number, v.own) f.itself;
        others = (come (w.number, w.own) g.itself, each-append (IsEntrant log both moved made id) v.joined w.joined (each_imply (IsEntrant log v.seen owner made id) (IsEntrant log both moved made id) v.joined stay f.others) (each_imply (IsEntrant log w.seen owner made other) (IsEntrant log both moved made id) w.joined come g.others));
        saw_earlier = (f.saw, (g.saw, each-append (λ seen. IsPrefix seen log) v.earlier w.earlier f.saw_earlier g.saw_earlier));
        counted = counted-both v.counts w.counts v.made w.made made owner id other apart' f.counted g.counted;
        has_turn = λ h. absurd (false-true v.holds free h);
      }

  -- a seat takes in another
  pub keeps-joining : (id other : ℕ) (v w : V) → v.lives ≡ true → v.opening ≢ None → v.holds ≡ false → w.lives ≡ true → w.holds ≡ false → Joins Rule id v other w (joining v w) spent
  keeps-joining id other v w lives opened free lives' free' s rule at apart at-set = let r = is-settled after legal k s id v rule at opened in
      let there : get_elem? s.views other ≡ some w = sym (set_else s.views id other (joining v w) apart) ∙ at-set in let f = r.fits id v at lives in let g = r.fits other w there lives' in
      let moved : ℕ → ℕ = owner_moved r.owner other id in inr (record {
        opening = r.opening;
        log = r.log;
        made = r.made;
        owner = moved;
        turn = r.turn;
        holder = r.holder;
        words_are = r.words_are;
        lawful = r.lawful;
        home = r.home;
        held = λ away. let x = r.held away in
            let not-id : r.holder ≢ id = λ e. false-true v.holds free (subst (λ (u : V). u.holds ≡ true) (one-view s.views id x.0 v (subst (λ (i : ℕ). get_elem? s.views i ≡ some x.0) e x.1) at) x.2.holds) in
            let not-other : r.holder ≢ other = λ e. false-true w.holds free' (subst (λ (u : V). u.holds ≡ true) (one-view s.views other x.0 w (subst (λ (i : ℕ). get_elem? s.views i ≡ some x.0) e x.1) there) x.2.holds) in
            (x.0, set_else (set s.views id (joining v w)) other r.holder spent not-other ∙ (set_else s.views id r.holder (joining v w) not-id ∙ x.1), x.2);
        unmade = r.unmade;
        fits = each-changed (λ j u. u.lives ≡ true → Fits k r.opening r.log r.made moved r.turn r.holder j u) (set s.views id (joining v w)) other spent (λ alive. absurd (false-true false refl alive))
            (λ j u not-other at-j. each-changed (λ i x. i ≢ other → x.lives ≡ true → Fits k r.opening r.log r.made moved r.turn r.holder i x) s.views id (joining v w)
            (λ _ _. fits-both id other v w apart free f g)
            (λ i x not-id at-i not-other' alive. fits-moved other id not-other' (r.fits i x at-i alive))
            j u at-j not-other);
      })
