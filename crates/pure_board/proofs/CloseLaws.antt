-- The seats of a board that is closed.
use Rattle.std.specs.Prelude.{option_to_list, IsSome}
use Rattle.std.proofs.Common.{◌≡◌, ◌⊎◌, ◌∙◌, ℕ, ◌<◌, List, [], ◌∷◌, ◌++◌, length, Bool, true, false, ◌||◌, if◌then◌else◌, Option, Some, None, is_some, refl, sym, ap, subst, inl, inr, ⊎_elim, arith, append_assoc}
use mathlib.Core.List.{IsPrefix}
use Rattle.atomic_table.specs.Seated.{TableId}
use Rattle.atomic_table.specs.declared.shared.Seat.{Seat}
use Rattle.pure_text.specs.Lists.{IsIn, Each, AnyOf}
use Rattle.pure_text.proofs.ListLaws.{each_imply, each_at, each-left, each-right, in-append_left, in-append_right}
use Rattle.pure_machine.specs.Policy.{Opening}
use Rattle.pure_machine.specs.State.{State, Event}
use Rattle.pure_board_lock.specs.History.{entered_by}
use Rattle.pure_board_lock.specs.View.{View, joining, noted}
use Rattle.pure_board_lock.specs.Seats.{view_of, IsFree, HasAll, IsWhole}
use Rattle.pure_board_lock.proofs.HistoryLaws.{begins-itself}
use Rattle.pure_core_runs.specs.Seats.{own, state_of}
use Rattle.pure_board.specs.Course.{IsLawful}
use Rattle.pure_board.specs.Sight.{Plan, Sight}
use Rattle.pure_board.specs.Tokens.{value_there, sight, IsSeated}
use Rattle.pure_board.specs.Boards.{AreAll, Ending, IsEnded, IsOfSeats, HasOne, HasTaken}
use Rattle.pure_board.proofs.HoldLaws.{own-is, some-same}
use Rattle.pure_board.proofs.SeatLaws.{some-there}

-- one seat of many has what each of them has
any-each : {A : Type 0} (P Q : A → Type 0) (R : Type 0) (xs : List A) → AnyOf P xs → Each Q xs → ((x : A) → P x → Q x → R) → R
any-each P Q R [] any each tells = absurd any
any-each P Q R (x ∷ xs) (inl here) each tells = tells x here each.0
any-each P Q R (x ∷ xs) (inr there) each tells = any-each P Q R xs there each.1 tells

either-counts : (b c : Bool) → (b ≡ true) ⊎ (c ≡ true) → b || c ≡ true
either-counts true c e = refl
either-counts false true e = refl
either-counts false false (inl e) = absurd (cc e)
either-counts false false (inr e) = absurd (cc e)

counted-both : (b c : Bool) (m n workers : ℕ) → (b ≡ true → m ≡ workers) → (c ≡ true → n ≡ workers) → b || c ≡ true → (if b then m else n) ≡ workers
counted-both true c m n workers f g e = f refl
counted-both false c m n workers f g e = g e

pub each-popped : {A : Type 0} (P : A → Type 0) (old new : List A) (x : A) → old ≡ new ++ x ∷ [] → Each P old → Each P new × P x
each-popped P old new x e each = let both = subst (Each P) e each in (each-left P new (x ∷ []) both, (each-right P new (x ∷ []) both).0)

pub popped-same : {A : Type 0} (old new more all : List A) (x : A) → old ≡ new ++ x ∷ [] → old ++ more ≡ all → new ++ x ∷ more ≡ all
popped-same old new more all x e same = sym (append_assoc new (x ∷ []) more) ∙ (ap (λ l. l ++ more) (sym e) ∙ same)

-- where nothing was popped there was nothing
pub emptied : {A : Type 0} (old new : List A) (r : Option A) (n : ℕ) → ((x : A) → ¬ (r ≡ Some x)) → old ≡ new ++ option_to_list r → n ≡ length old → (IsSome r → 0 < n) × (0 < n → IsSome r) → old ≡ []
emptied [] new r n none-some items count variant = refl
emptied (x ∷ xs) new None n none-some items count variant = absurd (cc (variant.1 (omega (arith, count))))
emptied (x ∷ xs) new (Some y) n none-some items count variant = absurd (none-some y refl)

module _ {W G C O : Type 0} where
  -- a seat's token has that seat
  pub has-itself : (shape : W → List (List ℕ)) (forks : W → ℕ → ℕ → ℕ → G → Type 0) (closes : W → ℕ → ℕ → C → Type 0) (may : W → G → O → Type 0) (is_fault : W → O → Bool) (name : TableId) (v : (View W Opening (Event G C O))) (e : is_some v.session ≡ true) (f : is_some v.opening ≡ true) (s : (Sight W G C O))
      → IsSeated shape forks closes may is_fault v → sight name (value_there v.session e) (value_there v.opening f) v ≡ s → HasTaken s.plan.session s.opening v (s ∷ [])
  has-itself shape forks closes may is_fault name v e f s seated is = subst (λ (x : (Sight W G C O)). HasTaken x.plan.session x.opening v (x ∷ [])) is (record {
    session_is = some-there v.session e;
    opening_is = some-there v.opening f;
    lives = seated.lives;
    is_free = seated.is_free;
    counted = λ counting. seated.counted counting ∙ ap (λ (o : Opening). o.workers) (some-same seated.opening (value_there v.opening f) v.opening seated.opening_is (some-there v.opening f));
    has = (record { opening = some-there v.opening f; entries = inl (refl, refl); knew = seated.entries; saw = inl refl; counts = seated.counts }, tt);
  })

  -- of a token that takes in another
  has-kept : (v w : (View W Opening (Event G C O))) (s : (Sight W G C O)) → HasOne v s → HasOne (joining v w) s
  has-kept v w s h = record {
    opening = h.opening;
    entries = ⊎_elim (λ same. inl same) (λ there. inr (inr (in-append_left (s.number, s.own) v.joined w.joined there))) h.entries;
    knew = h.knew;
    saw = inr (⊎_elim (λ same. inl same) (λ there. inr (inr (in-append_left s.seen v.earlier w.earlier there))) h.saw);
    counts = λ first. either-counts v.counts w.counts (inl (h.counts first));
  }

  has-come : (v w : (View W Opening (Event G C O))) (s : (Sight W G C O)) → v.opening ≡ w.opening → HasOne w s → HasOne (joining v w) s
  has-come v w s same h = record {
    opening = same ∙ h.opening;
    entries = inr (⊎_elim (λ t. inl (λ i. (t.0 i, t.1 i))) (λ there. inr (in-append_right (s.number, s.own) v.joined w.joined there)) h.entries);
    knew = h.knew;
    saw = inr (inr (⊎_elim (λ t. inl t) (λ there. inr (in-append_right s.seen v.earlier w.earlier there)) h.saw));
    counts = λ first. either-counts v.counts w.counts (inr (h.counts first));
  }

  pub has-both : (k : W) (o : Opening) (v w u : (View W Opening (Event G C O))) (k' : W) (s : (Sight W G C O)) (seats : List (Sight W G C O)) → HasTaken k o v seats → HasTaken k' s.opening w (s ∷ []) → s.opening ≡ o → u ≡ joining v w → HasTaken k o u (s ∷ seats)
  has-both k o v w u k' s seats h g same is = let here : v.opening ≡ w.opening = h.opening_is ∙ (ap (λ (x : Opening). Some x) (sym same) ∙ sym g.opening_is) in
      subst (λ (x : (View W Opening (Event G C O))). HasTaken k o x (s ∷ seats)) (sym is) (record {
        session_is = h.session_is;
        opening_is = h.opening_is;
        lives = h.lives;
        is_free = h.is_free;
        counted = counted-both v.counts w.counts v.made w.made o.workers h.counted (λ counting. g.counted counting ∙ ap (λ (x : Opening). x.workers) same);
        has = (has-come v w s here g.has.0, each_imply (HasOne v) (HasOne (joining v w)) seats (λ x one. has-kept v w x one) h.has);
      })

  -- a token that has taken seats is free
  pub taken-free : (t : Seat (Option (State G C O)) (View W Opening (Event G C O))) (k : W) (o : Opening) (seats : List (Sight W G C O)) → t.me.1 ≡ [] → HasTaken k o (view_of t) seats → IsFree t
  taken-free t k o seats place h = record { has_none = place; lives = h.lives; is_opened = λ none'. absurd (cc (none', h.opening_is)); is_free = h.is_free }

  -- and has all, where these are all
  pub taken-all : (k : W) (o : Opening) (v : (View W Opening (Event G C O))) (seats : List (Sight W G C O)) → HasTaken k o v seats → AreAll o.workers seats → 0 < o.workers → HasAll v
  taken-all k o v seats h all some' =
      let counting : v.counts ≡ true = any-each (λ s. s.number ≡ 0) (HasOne v) (v.counts ≡ true) seats (all 0 some') h.has (λ s first one. one.counts first) in record {
        counts = counting;
        has = λ n below. (let made = h.counted counting in any-each (λ s. s.number ≡ n) (HasOne v) ((n ≡ v.number) ⊎ AnyOf (λ x. x.0 ≡ n) v.joined) seats (all n (omega (arith, below, made))) h.has
            (λ s is one. ⊎_elim (λ t. inl (sym is ∙ t.0)) (λ there. inr (in-any n s.number s.own v.joined is there)) one.entries));
      }
    where
      in-any : (n m : ℕ) (own' : List (Event G C O)) (xs : List (ℕ × List (Event G C O))) → m ≡ n → IsIn (m, own') xs → AnyOf (λ x. x.0 ≡ n) xs
      in-any n m own' [] is there = absurd there
      in-any n m own' (x ∷ xs) is (inl here) = inl (sym (ap (λ (y : ℕ × List (Event G C O)). y.0) here) ∙ is)
      in-any n m own' (x ∷ xs) is (inr there) = inr (in-any n m own' xs is there)

  -- what the closed board was
  pub whole-seats : (shape : W → List (List ℕ)) (forks : W → ℕ → ℕ → ℕ → G → Type 0) (closes : W → ℕ → ℕ → C → Type 0) (may : W → G → O → Type 0) (is_fault : W → O → Bool) (k : W) (o : Opening) (v : (View W Opening (Event G C O))) (c : State G C O) (seats : List (Sight W G C O))
      → HasTaken k o v seats → AreAll o.workers seats → 0 < o.workers → IsWhole state_of (IsLawful shape forks closes may is_fault) v c
      → IsEnded shape forks closes may is_fault (record { session = k; opening = o; history = v.seen; core = c }) × IsOfSeats seats (record { session = k; opening = o; history = v.seen; core = c })
  whole-seats shape forks closes may is_fault k o v c seats h all some' whole =
      let ks : whole.session ≡ k = some-same whole.session k v.session whole.session_is h.session_is in
      let os : whole.opening ≡ o = some-same whole.opening o v.opening whole.opening_is h.opening_is in
      let lawful : IsLawful shape forks closes may is_fault k o v.seen = subst (λ (x : W × Opening). IsLawful shape forks closes may is_fault x.0 x.1 v.seen) (λ i. (ks i, os i)) whole.lawful in
      let made : v.made ≡ o.workers = h.counted (taken-all k o v seats h all some').counts in (
        record { shaped = lawful.shaped; run = lawful.run; state = whole.object_is ∙ ap (λ (x : Opening). state_of x v.seen) os },
        record {
          openings = each_imply (HasOne v) (λ s. s.opening ≡ o) seats (λ s one. some-same s.opening o v.opening one.opening h.opening_is) h.has;
          begins = each_imply (HasOne v) (λ s. IsPrefix s.seen v.seen) seats (λ s one. ⊎_elim (λ same. subst (λ l. IsPrefix l v.seen) (sym same) (begins-itself v.seen)) (λ there. each_at (λ seen. IsPrefix seen v.seen) v.earlier whole.saw_earlier s.seen there) one.saw) h.has;
          knew = each_imply (HasOne v) (λ s. s.own ≡ own s.number s.seen) seats (λ s one. one.knew) h.has;
          entries = each_imply (HasOne v) (λ s. own s.number v.seen ≡ s.own) seats (λ s one. sym (own-is s.number v.seen) ∙ ⊎_elim (λ t. ap (λ n. entered_by n v.seen) t.0 ∙ (whole.own_entries ∙ sym t.1)) (λ there. each_at (λ x. entered_by x.0 v.seen ≡ x.1) v.joined whole.entries (s.number, s.own) there) one.entries) h.has;
          no_others = each_imply (λ e. e.0 < v.made) (λ a. AnyOf (λ s. s.number ≡ a.0) seats) v.seen (λ a below. all a.0 (omega (arith, below, made))) whole.no_others;
        },
      )

  -- the last turn of the loop leaves none
  pub none-left : (old new : List (Sight W G C O)) (more all : List (Sight W G C O)) → old ≡ [] → old ++ more ≡ all → more ≡ all
  none-left old new more all empty same = ap (λ l. l ++ more) (sym empty) ∙ same

  -- there is a seat among them, where there are workers
  pub some-seat : (workers : ℕ) (seats : List (Sight W G C O)) → AreAll workers seats → 0 < workers → length seats ≡ 0 → ⊥
  some-seat workers [] all some' none' = all 0 some'
  some-seat workers (x ∷ seats) all some' none' = absurd (omega (arith, none'))

  -- the board's value, once it is closed
  pub ending-value : (v n : (View W Opening (Event G C O))) (c : State G C O) (e : is_some n.session ≡ true) (f : is_some n.opening ≡ true) (k : W) (o : Opening) → n ≡ noted v → v.session ≡ Some k → v.opening ≡ Some o
      → ◌≡◌ {A = Ending W G C O} (record { session = k; opening = o; history = v.seen; core = c }) (record { session = value_there n.session e; opening = value_there n.opening f; history = n.seen; core = c })
  ending-value v n c e f k o is k-is o-is = λ i. record {
    session = some-same k (value_there n.session e) n.session (ap (λ (x : (View W Opening (Event G C O))). x.session) is ∙ k-is) (some-there n.session e) i;
    opening = some-same o (value_there n.opening f) n.opening (ap (λ (x : (View W Opening (Event G C O))). x.opening) is ∙ o-is) (some-there n.opening f) i;
    history = ap (λ (x : (View W Opening (Event G C O))). x.seen) (sym is) i;
    core = c;
  }

  -- what holds of the seats' plans
  pub names-of : (board : Plan W) (name : TableId) (seats : List (Sight W G C O)) → board.name ≡ name → Each (λ s. s.plan ≡ board) seats → Each (λ s. s.plan.name ≡ name) seats
  names-of board name seats is each = each_imply (λ s. s.plan ≡ board) (λ s. s.plan.name ≡ name) seats (λ s e. ap (λ (p : Plan W). p.name) e ∙ is) each

  pub taken-last : (k : W) (o : Opening) (v : View W Opening (Event G C O)) (old new more all seats : List (Sight W G C O)) (r : Option (Sight W G C O)) (n : ℕ) → ((x : Sight W G C O) → ¬ (r ≡ Some x)) → old ≡ new ++ option_to_list r → n ≡ length old → (IsSome r → 0 < n) × (0 < n → IsSome r) → old ++ more ≡ all → HasTaken k o v (more ++ seats) → HasTaken k o v (all ++ seats)
  taken-last k o v old new more all seats r n none-some items count variant same h = subst (λ l. HasTaken k o v (l ++ seats)) (none-left old new more all (emptied old new r n none-some items count variant) same) h

  -- the first seat, and what is left
  pub closing-taken : (s : Sight W G C O) (o : Opening) (v : View W Opening (Event G C O)) (rest : List (Sight W G C O)) → s.opening ≡ o → HasTaken s.plan.session s.opening v (s ∷ []) → Each (λ x. x.opening ≡ o) rest
      → (k : W) × (o' : Opening) × (seats : List (Sight W G C O)) × HasTaken k o' v seats × Each (λ x. x.opening ≡ o') rest
  closing-taken s o v rest same h each = (s.plan.session, o, s ∷ [], subst (λ (x : Opening). HasTaken s.plan.session x v (s ∷ [])) same h, each)

  -- all seats are taken in
  pub closing-all : (s : Sight W G C O) (o : Opening) (v u : View W Opening (Event G C O)) (all rest : List (Sight W G C O)) → all ≡ rest ++ s ∷ [] → Each (λ x. x.opening ≡ o) all → HasTaken s.plan.session s.opening v (s ∷ [])
      → ((k : W) (o' : Opening) (seats : List (Sight W G C O)) → HasTaken k o' v seats → Each (λ x. x.opening ≡ o') rest → HasTaken k o' u (rest ++ seats)) → HasTaken s.plan.session o u all
  closing-all s o v u all rest items opens h gathers = let each = each-popped (λ (x : Sight W G C O). x.opening ≡ o) all rest s items opens in
      subst (HasTaken s.plan.session o u) (sym items) (gathers s.plan.session o (s ∷ []) (subst (λ (x : Opening). HasTaken s.plan.session x v (s ∷ [])) each.1 h) each.0)

  -- the session of the closed board
  pub ended-session : (v n : View W Opening (Event G C O)) (e : is_some n.session ≡ true) (k k' : W) → n ≡ noted v → v.session ≡ Some k → k ≡ k' → value_there n.session e ≡ k'
  ended-session v n e k k' is k-is same = some-same (value_there n.session e) k n.session (some-there n.session e) (ap (λ (x : View W Opening (Event G C O)). x.session) is ∙ k-is) ∙ same

  -- and its seats
  pub ended-seats : (shape : W → List (List ℕ)) (forks : W → ℕ → ℕ → ℕ → G → Type 0) (closes : W → ℕ → ℕ → C → Type 0) (may : W → G → O → Type 0) (is_fault : W → O → Bool) (k : W) (o : Opening) (v n : View W Opening (Event G C O)) (c : State G C O) (e : is_some n.session ≡ true) (f : is_some n.opening ≡ true) (seats : List (Sight W G C O))
      → HasTaken k o v seats → AreAll o.workers seats → 0 < o.workers → IsWhole state_of (IsLawful shape forks closes may is_fault) v c → n ≡ noted v
      → IsOfSeats seats (record { session = value_there n.session e; opening = value_there n.opening f; history = n.seen; core = c })
  ended-seats shape forks closes may is_fault k o v n c e f seats h all some' whole is = subst (IsOfSeats seats) (ending-value v n c e f k o is h.session_is h.opening_is) (whole-seats shape forks closes may is_fault k o v c seats h all some' whole).1
