-- Which groups are cancelled in each state of a legal run: those that the policy asks for by the deliveries that were kept.
use Rattle.std.proofs.Common.{◌≡◌, ◌∙◌, ◌≤◌, ℕ, zero, suc, ◌+◌, List, [], ◌∷◌, ◌++◌, length, refl, sym, ap, subst, arith, nat_eq, nat_le, Bool, true, false, ◌&&◌, ◌||◌, if◌then◌else◌, Some}
use Rattle.std.specs.List.{list_any}
use Rattle.std.proofs.lemmas.Option.{none-some, slice_get_within}
use Rattle.std.proofs.lemmas.List.{length-map}
use Rattle.std.proofs.lemmas.Bool.{eqb-true, eq-eqb, leb-true, leb-false, le-leb}
use Rattle.pure_text.specs.Lists.{Each}
use Rattle.pure_machine.specs.declared.policy.Group.{Group}
use Rattle.pure_machine.specs.declared.policy.Group.TheVariants.{Session}
use Rattle.pure_machine.specs.declared.policy.Cancel.{Cancel}
use Rattle.pure_machine.specs.Policy.{Policy, Opening, due}
use Rattle.pure_machine.specs.State.{Running, Promise, Standing, Ready, Taken, Settled, Cancelled, Event, State, theory_at, waiting, unmarked, is_theory_cancelled, with_cancelled, opened}
use Rattle.pure_machine.specs.Step.{Stands, IsOver, Allows, IsRunFrom, cancelled_by, after, after_all}
use Rattle.pure_core.proofs.KeptLaws.{IsKept, kept-after, kept-opened, cancel-keeps}
use Rattle.pure_core.proofs.RunLaws.{opening-after_all}
use Rattle.pure_core_runs.proofs.ChangeLaws.{Became, stayed, was_forked, was_taken, was_settled, was_cancelled, became, allowed_there, theories-as_many}
use Rattle.pure_core_runs.proofs.ToldLaws.{IsTold, told-after, told-opened, fork-runs, opened-none, opened-opening}
use Rattle.pure_core_runs.proofs.GroupLaws.{AreGone, gone-after, gone-opened}
use Rattle.pure_policy_laws.specs.Heeded.{has_theory, has_come, is_due}
use Rattle.pure_policy_laws.proofs.CountLaws.{one_if, counted-le}
use Rattle.pure_policy_laws.proofs.OrderLaws.{IsAmong}
use Rattle.pure_policy_laws.proofs.TallyLaws.{or-assoc, or-true, passes, tally, HasPlace, Scores, quiet, scored, scores, tally-with, cancelled-is, cancelled-length}
use Rattle.pure_core_end.proofs.WholeLaws.{unmarked-at}

-- truth values
and-true : (a : Bool) → (a && true) ≡ a
and-true true = refl
and-true false = refl

and-false : (a : Bool) → (a && false) ≡ false
and-false true = refl
and-false false = refl

spread : (a u v : Bool) → (a && (u || v)) ≡ ((a && u) || (a && v))
spread true u v = refl
spread false u v = refl

shuffle : (u v a b : Bool) → ((u || v) || (a || b)) ≡ ((u || a) || (v || b))
shuffle true v a b = refl
shuffle false v true b = or-true v
shuffle false v false b = refl

neither : (a b : Bool) → (a || b) ≡ false → (a ≡ false) × (b ≡ false)
neither true b e = absurd (cc)
neither false b e = (refl, e)

-- one number more
le-next : (x k : ℕ) → nat_le x (k + 1) ≡ (nat_le x k || nat_eq x (k + 1))
le-next x k = by_flags (nat_le x (k + 1)) (nat_le x k) (nat_eq x (k + 1)) refl refl refl
  where
    by_flags : (a b c : Bool) → nat_le x (k + 1) ≡ a → nat_le x k ≡ b → nat_eq x (k + 1) ≡ c → a ≡ (b || c)
    by_flags true true c ea eb ec = refl
    by_flags true false true ea eb ec = refl
    by_flags true false false ea eb ec = absurd (let high = leb-true x (k + 1) ea in let low = leb-false x k eb in let same : x ≡ k + 1 = omega arith in let found = eq-eqb x (k + 1) same in cc)
    by_flags false true c ea eb ec = absurd (let high = leb-false x (k + 1) ea in let low = leb-true x k eb in omega arith)
    by_flags false false true ea eb ec = absurd (let high = leb-false x (k + 1) ea in let same = eqb-true x (k + 1) ec in omega arith)
    by_flags false false false ea eb ec = refl

le-zero : (x : ℕ) → nat_eq x 0 ≡ nat_le x 0
le-zero x = by_flags (nat_eq x 0) (nat_le x 0) refl refl
  where
    by_flags : (a b : Bool) → nat_eq x 0 ≡ a → nat_le x 0 ≡ b → a ≡ b
    by_flags true true ea eb = refl
    by_flags true false ea eb = absurd (let low = leb-false x 0 eb in let same = eqb-true x 0 ea in omega arith)
    by_flags false true ea eb = absurd (let low = leb-true x 0 eb in let same : x ≡ 0 = omega arith in let found = eq-eqb x 0 same in cc)
    by_flags false false ea eb = refl

-- what was due stays due
come-grows : (i : ℕ) (cs : List Cancel) (k l : ℕ) → k ≤ l → list_any (has_come k i) cs ≡ true → list_any (has_come l i) cs ≡ true
come-grows i [] k l le is = is
come-grows i (c ∷ cs) k l le is = by_flags (has_theory c.group i) (nat_le c.after k) refl (come-grows i cs k l le) is
  where
    by_flags : (a b : Bool) → nat_le c.after k ≡ b → (list_any (has_come k i) cs ≡ true → list_any (has_come l i) cs ≡ true) → ((a && b) || list_any (has_come k i) cs) ≡ true → ((a && nat_le c.after l) || list_any (has_come l i) cs) ≡ true
    by_flags true true e rest here = ap (λ x. x || list_any (has_come l i) cs) (le-leb c.after l (let low = leb-true c.after k e in omega arith))
    by_flags true false e rest here = ap (λ x. nat_le c.after l || x) (rest here) ∙ or-true (nat_le c.after l)
    by_flags false b e rest here = rest here

pub due-grows : (p : Policy) (k l f g i : ℕ) → k ≤ l → f ≤ g → is_due p k f i ≡ true → is_due p l g i ≡ true
due-grows p k l f g i more worse is = by_flags p.fail_fast (nat_le 1 f) refl is
  where
    by_flags : (a b : Bool) → nat_le 1 f ≡ b → ((a && b) || list_any (has_come k i) p.cancels) ≡ true → ((a && nat_le 1 g) || list_any (has_come l i) p.cancels) ≡ true
    by_flags true true e here = ap (λ x. x || list_any (has_come l i) p.cancels) (le-leb 1 g (let low = leb-true 1 f e in omega arith))
    by_flags true false e here = ap (λ x. nat_le 1 g || x) (come-grows i p.cancels k l more here) ∙ or-true (nat_le 1 g)
    by_flags false b e here = come-grows i p.cancels k l more here

-- whether a group that is cancelled by just so many deliveries has the theory
abbrev comes_now : (k i : ℕ) → Cancel → Bool
comes_now k i c = has_theory c.group i && nat_eq c.after k

any-due : (i : ℕ) (cs : List Cancel) (k : ℕ) → list_any (λ g. has_theory g i) (due cs k) ≡ list_any (comes_now k i) cs
any-due i [] k = refl
any-due i (c ∷ cs) k = by_flag (nat_eq c.after k) (any-due i cs k)
  where
    by_flag : (b : Bool) → list_any (λ g. has_theory g i) (due cs k) ≡ list_any (comes_now k i) cs → list_any (λ g. has_theory g i) ((if b then (c.group ∷ []) else []) ++ due cs k) ≡ ((has_theory c.group i && b) || list_any (comes_now k i) cs)
    by_flag true rest = ap (λ x. has_theory c.group i || x) rest ∙ ap (λ a. a || list_any (comes_now k i) cs) (sym (and-true (has_theory c.group i)))
    by_flag false rest = rest ∙ ap (λ a. a || list_any (comes_now k i) cs) (sym (and-false (has_theory c.group i)))

come-next : (i : ℕ) (cs : List Cancel) (k : ℕ) → list_any (has_come (k + 1) i) cs ≡ (list_any (has_come k i) cs || list_any (comes_now (k + 1) i) cs)
come-next i [] k = refl
come-next i (c ∷ cs) k =
    ap (λ b. (has_theory c.group i && b) || list_any (has_come (k + 1) i) cs) (le-next c.after k)
    ∙ ap (λ b. b || list_any (has_come (k + 1) i) cs) (spread (has_theory c.group i) (nat_le c.after k) (nat_eq c.after (k + 1)))
    ∙ ap (λ b. (has_come k i c || comes_now (k + 1) i c) || b) (come-next i cs k)
    ∙ shuffle (has_come k i c) (comes_now (k + 1) i c) (list_any (has_come k i) cs) (list_any (comes_now (k + 1) i) cs)

come-first : (i : ℕ) (cs : List Cancel) → list_any (comes_now 0 i) cs ≡ list_any (has_come 0 i) cs
come-first i [] = refl
come-first i (c ∷ cs) = ap (λ b. (has_theory c.group i && b) || list_any (comes_now 0 i) cs) (le-zero c.after) ∙ ap (λ b. has_come 0 i c || b) (come-first i cs)

-- a delivery that is kept cancels just what is due behind it and wasn't before
due-next : (p : Policy) (k f i : ℕ) (fault : Bool) → (is_due p k f i || list_any (λ g. has_theory g i) (cancelled_by p (k + 1) fault)) ≡ is_due p (k + 1) (f + one_if fault) i
due-next p k f i fault = by_flags p.fail_fast fault
  where
    now : list_any (has_come k i) p.cancels || list_any (λ g. has_theory g i) (due p.cancels (k + 1)) ≡ list_any (has_come (k + 1) i) p.cancels
    now = ap (λ b. list_any (has_come k i) p.cancels || b) (any-due i p.cancels (k + 1)) ∙ sym (come-next i p.cancels k)

    by_flags : (a b : Bool) → (((a && nat_le 1 f) || list_any (has_come k i) p.cancels) || list_any (λ g. has_theory g i) (if a && b then (Session ∷ due p.cancels (k + 1)) else due p.cancels (k + 1))) ≡ ((a && nat_le 1 (f + one_if b)) || list_any (has_come (k + 1) i) p.cancels)
    by_flags true true = or-true (nat_le 1 f || list_any (has_come k i) p.cancels) ∙ ap (λ b. b || list_any (has_come (k + 1) i) p.cancels) (sym (le-leb 1 (f + 1) (omega arith)))
    by_flags true false =
        let same : f ≡ f + 0 = omega arith in
        or-assoc (nat_le 1 f) (list_any (has_come k i) p.cancels) (list_any (λ g. has_theory g i) (due p.cancels (k + 1))) ∙ ap (λ b. nat_le 1 f || b) now ∙ ap (λ x. nat_le 1 x || list_any (has_come (k + 1) i) p.cancels) same
    by_flags false true = now
    by_flags false false = now

-- the counts of a group stay within its number, where it wasn't due or isn't of the theory
obeyed-more : (cs : List Cancel) (k i : ℕ) (old new : Group → ℕ) → list_any (has_come k i) cs ≡ false → ((g : Group) → new g ≡ old g + one_if (has_theory g i)) → ((g : Group) → old g ≤ k) → Each (λ (c : Cancel). old c.group ≤ c.after) cs → Each (λ (c : Cancel). new c.group ≤ c.after) cs
obeyed-more [] k i old new none grows most each = tt
obeyed-more (c ∷ cs) k i old new none grows most each =
    let parts = neither (has_come k i c) (list_any (has_come k i) cs) none in
    (one (has_theory c.group i) (nat_le c.after k) refl refl parts.0, obeyed-more cs k i old new parts.1 grows most each.1)
  where
    one : (a b : Bool) → has_theory c.group i ≡ a → nat_le c.after k ≡ b → (has_theory c.group i && nat_le c.after k) ≡ false → new c.group ≤ c.after
    one true true ea eb e = absurd (let both : (has_theory c.group i && nat_le c.after k) ≡ true = ap (λ x. x && nat_le c.after k) ea ∙ eb in cc)
    one true false ea eb e = let late = leb-false c.after k eb in let next = grows c.group in let least = most c.group in let bit = ap one_if ea in omega arith
    one false b ea eb e = let next = grows c.group in let before = each.0 in let bit = ap one_if ea in omega arith

-- how many settled promises are at fault, how many there are, and how many of a group
abbrev pub faulty : {G O : Type 0} → (is_fault : O → Bool) → List (Promise G O) → ℕ
faulty is_fault ps = tally (λ i o. is_fault o) ps

abbrev pub settled_ones : {G O : Type 0} → List (Promise G O) → ℕ
settled_ones ps = tally (λ i o. true) ps

abbrev pub settled_of : {G O : Type 0} → Group → List (Promise G O) → ℕ
settled_of g ps = tally (λ i o. has_theory g i) ps

module _ {G O : Type 0} where
  at-most-settled : (g : Group) (ps : List (Promise G O)) → settled_of g ps ≤ settled_ones ps
  at-most-settled g ps = counted-le (λ (p : Promise G O). passes (λ i o. has_theory g i) p.theory p.standing) (λ (p : Promise G O). passes (λ i o. true) p.theory p.standing) ps (λ p m is. settled_any p.theory p.standing is)
    where
      settled_any : (i : ℕ) (t : Standing O) → passes (λ j o. has_theory g j) i t ≡ true → passes (λ j o. true) i t ≡ true
      settled_any i Ready is = absurd (cc)
      settled_any i Taken is = absurd (cc)
      settled_any i (Settled o) is = refl
      settled_any i Cancelled is = absurd (cc)

module _ {G C O : Type 0} (is_fault : O → Bool) where
  -- In the state the groups of a theory are cancelled just where the policy asks for it by the deliveries that were kept.
  pub record IsPolicied (o : Opening) (s : State G C O) : Type 0 where
    pub opening_is : s.opening ≡ o
    pub places : length s.cancelled.theories ≡ length o.shape
    pub stages : length s.theories ≡ length o.shape
    pub kept_is : s.kept ≡ settled_ones s.promises
    pub due_is : (i : ℕ) → IsAmong (length o.shape) i → is_theory_cancelled s.cancelled i ≡ is_due o.policy s.kept (faulty is_fault s.promises) i
    pub among : (n : ℕ) (p : Promise G O) → Stands s n p → IsAmong (length o.shape) p.theory
    pub gone : (n : ℕ) (p : Promise G O) → Stands s n p → p.standing ≡ Cancelled → is_theory_cancelled s.cancelled p.theory ≡ true
    pub one_fault : o.policy.fail_fast ≡ true → faulty is_fault s.promises ≤ 1
    pub obeyed : Each (λ c. settled_of c.group s.promises ≤ c.after) o.policy.cancels

  -- at the opening
  pub policied-opened : (o : Opening) → IsPolicied o (opened o)
  policied-opened o = record {
    opening_is = opened-opening G C O o;
    places = cancelled-length begun groups ∙ length-map o.shape _;
    stages = ap length (cancel-keeps begun groups).0 ∙ length-map o.shape _;
    kept_is = started-kept groups ∙ sym (tally-with (λ i x. true) begun groups);
    due_is = λ i among.
        cancelled-is begun groups i (among.0, (let same = length-map o.shape (λ (_ : List ℕ). false) in let high = among.1 in omega arith))
        ∙ ap (λ b. b || list_any (λ g. has_theory g i) groups) (unmarked-at o.shape i)
        ∙ any-due i o.policy.cancels 0
        ∙ come-first i o.policy.cancels
        ∙ sym (ap (λ b. b || list_any (has_come 0 i) o.policy.cancels) (and-false o.policy.fail_fast))
        ∙ ap (λ f. is_due o.policy 0 f i) (sym (tally-with (λ j x. is_fault x) begun groups))
        ∙ ap (λ k. is_due o.policy k (faulty is_fault (opened {G = G} {C = C} {O = O} o).promises) i) (sym (started-kept groups));
    among = λ n p at. absurd (opened-none G C O o n p at);
    gone = λ n p at. absurd (opened-none G C O o n p at);
    one_fault = λ fast. (let none = tally-with (λ i x. is_fault x) begun groups in omega arith);
    obeyed = none_yet o.policy.cancels;
  }
    where
      begun : State G C O
      begun = record { opening = o; theories = waiting o.shape; promises = []; cancelled = unmarked o.shape; kept = 0; stopped = false; history = [] }

      groups : List Group
      groups = due o.policy.cancels 0

      started-kept : (gs : List Group) → (with_cancelled begun gs).kept ≡ 0
      started-kept [] = refl
      started-kept (g ∷ gs) = refl

      none_yet : (cs : List Cancel) → Each (λ (c : Cancel). settled_of c.group (opened {G = G} {C = C} {O = O} o).promises ≤ c.after) cs
      none_yet [] = tt
      none_yet (c ∷ cs) = ((let none = tally-with (λ i x. has_theory c.group i) begun groups in omega arith), none_yet cs)

  module _ (forks : ℕ → ℕ → ℕ → G → Type 0) (closes : ℕ → ℕ → C → Type 0) (may : G → O → Type 0) (o : Opening) (s : State G C O) (e : Event G C O) (a : Allows forks closes may is_fault s e) (kept : IsKept forks closes s) (told : IsTold s) (dead : AreGone s) (h : IsPolicied o s) where
    place-of : (i : ℕ) → IsAmong (length o.shape) i → HasPlace s.cancelled.theories i
    place-of i among = (among.0, (let same = h.places in let high = among.1 in omega arith))

    -- the marks after the event
    marks-after : Scores is_fault s e → (i : ℕ) → IsAmong (length o.shape) i → is_theory_cancelled (after s e).cancelled i ≡ is_due o.policy (after s e).kept (faulty is_fault (after s e).promises) i
    marks-after (quiet q) i among = ap (λ m. is_theory_cancelled m i) q.marks_are ∙ h.due_is i among ∙ ap (λ k. is_due o.policy k (faulty is_fault s.promises) i) (sym q.kept_is) ∙ ap (λ f. is_due o.policy (after s e).kept f i) (sym (q.tally_is (λ j x. is_fault x)))
    marks-after (scored n p x what q) i among =
        q.marks_are i (place-of i among)
        ∙ ap (λ b. b || list_any (λ g. has_theory g i) (cancelled_by s.opening.policy (s.kept + 1) (is_fault x))) (h.due_is i among)
        ∙ ap (λ y. is_due o.policy s.kept (faulty is_fault s.promises) i || list_any (λ g. has_theory g i) (cancelled_by y.policy (s.kept + 1) (is_fault x))) h.opening_is
        ∙ due-next o.policy s.kept (faulty is_fault s.promises) i (is_fault x)
        ∙ ap (λ f. is_due o.policy (s.kept + 1) f i) (sym (q.tally_is (λ j y. is_fault y)))
        ∙ ap (λ k. is_due o.policy k (faulty is_fault (after s e).promises) i) (sym q.kept_is)

    -- what is cancelled stays so
    marks-stay : Scores is_fault s e → (i : ℕ) → IsAmong (length o.shape) i → is_theory_cancelled s.cancelled i ≡ true → is_theory_cancelled (after s e).cancelled i ≡ true
    marks-stay (quiet q) i among is = ap (λ m. is_theory_cancelled m i) q.marks_are ∙ is
    marks-stay (scored n p x what q) i among is = q.marks_are i (place-of i among) ∙ ap (λ b. b || list_any (λ g. has_theory g i) (cancelled_by s.opening.policy (s.kept + 1) (is_fault x))) is

    -- a promise that is taken is in no group that is due
    pub not_due : (n : ℕ) (p : Promise G O) → Stands s n p → p.standing ≡ Taken → is_due o.policy s.kept (faulty is_fault s.promises) p.theory ≡ false
    not_due n p at taken = sym (h.due_is p.theory (h.among n p at)) ∙ by_flag (is_theory_cancelled s.cancelled p.theory) refl
      where
        by_flag : (b : Bool) → is_theory_cancelled s.cancelled p.theory ≡ b → is_theory_cancelled s.cancelled p.theory ≡ false
        by_flag true is = absurd (subst IsOver taken (dead.gone n p at is))
        by_flag false is = is

    among-so : (n : ℕ) (q : Promise G O) → Became s e n q → IsAmong (length o.shape) q.theory
    among-so n q (stayed at leaves) = h.among n q at
    among-so n q (was_forked i m g what last new) = subst (IsAmong (length o.shape)) (ap (λ x. x.theory) new) (stage_of i (fork-runs forks closes may is_fault s e a kept told i m g what))
      where
        stage_of : (j : ℕ) → ((k : ℕ) × (theory_at s.theories j ≡ Some (Running k))) → IsAmong (length o.shape) j
        stage_of zero run = absurd (none-some (Running run.0) run.1)
        stage_of (suc j) run = let within = slice_get_within s.theories j (Running run.0) run.1 in let same = h.stages in (omega arith, omega arith)
    among-so n q (was_taken p what at new) = subst (IsAmong (length o.shape)) (ap (λ x. x.theory) new) (h.among n p at)
    among-so n q (was_settled p x fault what at lives new) = subst (IsAmong (length o.shape)) (ap (λ y. y.theory) new) (h.among n p at)
    among-so n q (was_cancelled p other m x fault what apart there lives at unsettled marked new) = subst (IsAmong (length o.shape)) (ap (λ y. y.theory) new) (h.among n p at)

    gone-so : Scores is_fault s e → (n : ℕ) (q : Promise G O) → Became s e n q → q.standing ≡ Cancelled → is_theory_cancelled (after s e).cancelled q.theory ≡ true
    gone-so score n q (stayed at leaves) is = marks-stay score q.theory (h.among n q at) (h.gone n q at is)
    gone-so score n q (was_forked i m g what last new) is = ap (λ x. is_theory_cancelled (after s x).cancelled q.theory) what ∙ ap (is_theory_cancelled s.cancelled) (sym (ap (λ x. x.theory) new)) ∙ by_flag (is_theory_cancelled s.cancelled i) refl (ap (λ x. x.standing) new ∙ is)
      where
        by_flag : (b : Bool) → is_theory_cancelled s.cancelled i ≡ b → ◌≡◌ {A = Standing O} (if b then Cancelled else Ready) Cancelled → is_theory_cancelled s.cancelled i ≡ true
        by_flag true e two = e
        by_flag false e two = absurd (cc)
    gone-so score n q (was_taken p what at new) is = absurd (let two : ◌≡◌ {A = Standing O} Taken Cancelled = ap (λ x. x.standing) new ∙ is in cc)
    gone-so score n q (was_settled p x fault what at lives new) is = absurd (let two : ◌≡◌ {A = Standing O} (Settled x) Cancelled = ap (λ y. y.standing) new ∙ is in cc)
    gone-so score n q (was_cancelled p other m x fault what apart there lives at unsettled marked new) is = subst (λ i. is_theory_cancelled (after s e).cancelled i ≡ true) (ap (λ y. y.theory) new) marked

    one_fault-so : Scores is_fault s e → o.policy.fail_fast ≡ true → faulty is_fault (after s e).promises ≤ 1
    one_fault-so (quiet q) fast = let same = q.tally_is (λ j x. is_fault x) in let most = h.one_fault fast in omega arith
    one_fault-so (scored n p x what q) fast =
        let parts = neither (o.policy.fail_fast && nat_le 1 (faulty is_fault s.promises)) (list_any (has_come s.kept p.theory) o.policy.cancels) (not_due n p q.stood q.was_taken) in
        let none : nat_le 1 (faulty is_fault s.promises) ≡ false = ap (λ b. b && nat_le 1 (faulty is_fault s.promises)) (sym fast) ∙ parts.0 in
        let low = leb-false 1 (faulty is_fault s.promises) none in
        let next = q.tally_is (λ j y. is_fault y) in
        let bit = at-most-one (is_fault x) in
        omega arith
      where
        at-most-one : (b : Bool) → one_if b ≤ 1
        at-most-one true = omega arith
        at-most-one false = omega arith

    same-obeyed : (cs : List Cancel) → ((g : Group) → settled_of g (after s e).promises ≡ settled_of g s.promises) → Each (λ (c : Cancel). settled_of c.group s.promises ≤ c.after) cs → Each (λ (c : Cancel). settled_of c.group (after s e).promises ≤ c.after) cs
    same-obeyed [] same each = tt
    same-obeyed (c ∷ cs) same each = ((let one = same c.group in let before = each.0 in omega arith), same-obeyed cs same each.1)

    obeyed-so : Scores is_fault s e → Each (λ (c : Cancel). settled_of c.group (after s e).promises ≤ c.after) o.policy.cancels
    obeyed-so (quiet q) = same-obeyed o.policy.cancels (λ g. q.tally_is (λ i x. has_theory g i)) h.obeyed
    obeyed-so (scored n p x what q) =
        let parts = neither (o.policy.fail_fast && nat_le 1 (faulty is_fault s.promises)) (list_any (has_come s.kept p.theory) o.policy.cancels) (not_due n p q.stood q.was_taken) in
        obeyed-more o.policy.cancels s.kept p.theory (λ g. settled_of g s.promises) (λ g. settled_of g (after s e).promises) parts.1 (λ g. q.tally_is (λ i y. has_theory g i)) (λ g. (let most = at-most-settled g s.promises in let same = h.kept_is in omega arith)) h.obeyed

    kept-so : Scores is_fault s e → (after s e).kept ≡ settled_ones (after s e).promises
    kept-so (quiet q) = q.kept_is ∙ h.kept_is ∙ sym (q.tally_is (λ i x. true))
    kept-so (scored n p x what q) = let next = q.kept_is in let same = h.kept_is in let more = q.tally_is (λ i y. true) in omega arith

    places-so : Scores is_fault s e → length (after s e).cancelled.theories ≡ length o.shape
    places-so (quiet q) = ap (λ m. length m.theories) q.marks_are ∙ h.places
    places-so (scored n p x what q) = q.length_is ∙ h.places

    pub policied-after : IsPolicied o (after s e)
    policied-after = record {
      opening_is = opening-after_all s (e ∷ []) ∙ h.opening_is;
      places = places-so score;
      stages = theories-as_many s e ∙ h.stages;
      kept_is = kept-so score;
      due_is = marks-after score;
      among = λ n q at. among-so n q (became s e n q (allowed_there forks closes may is_fault s e a) at);
      gone = λ n q at. gone-so score n q (became s e n q (allowed_there forks closes may is_fault s e a) at);
      one_fault = one_fault-so score;
      obeyed = obeyed-so score;
    }
      where
        score : Scores is_fault s e
        score = scores forks closes may is_fault s e a told

  -- after a legal run
  pub policied-after_all : (forks : ℕ → ℕ → ℕ → G → Type 0) (closes : ℕ → ℕ → C → Type 0) (may : G → O → Type 0) (o : Opening) (s : State G C O) (es : List (Event G C O)) → IsRunFrom forks closes may is_fault s es → IsKept forks closes s → IsTold s → AreGone s → IsPolicied o s → IsPolicied o (after_all s es)
  policied-after_all forks closes may o s [] run kept told dead h = h
  policied-after_all forks closes may o s (e ∷ es) run kept told dead h =
      policied-after_all forks closes may o (after s e) es run.1 (kept-after forks closes may is_fault s e run.0 kept) (told-after forks closes may is_fault s e run.0 kept told) (gone-after forks closes may is_fault s e run.0 dead) (policied-after forks closes may o s e run.0 kept told dead h)

  pub policied-legal : (forks : ℕ → ℕ → ℕ → G → Type 0) (closes : ℕ → ℕ → C → Type 0) (may : G → O → Type 0) (o : Opening) (es : List (Event G C O)) → IsRunFrom forks closes may is_fault (opened o) es → IsPolicied o (after_all (opened o) es)
  policied-legal forks closes may o es run = policied-after_all forks closes may o (opened o) es run (kept-opened forks closes o) (told-opened {G = G} {C = C} {O = O} o) (gone-opened {G = G} {C = C} {O = O} o) (policied-opened o)
